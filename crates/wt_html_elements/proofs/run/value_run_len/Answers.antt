use Rattle.std.proofs.Common.{◌≡◌, ℕ, true, take, sym, subst}
use Rattle.std.specs.List.{list_all}
use Rattle.wt_html_grammar.specs.Signs.{in_value}
use Rattle.wt_html_grammar.specs.Machine.{is_plain}
use Rattle.wt_html_elements.proofs.Lanes.{in_front}
use Rattle.wt_html_elements.proofs.run.value_run_len.Goals as goal

pub returns-clause-run : goal.returns-clause-run
returns-clause-run c =
    let p = is_plain (in_value c.args.quote) in
    subst (λ (n : ℕ). list_all p (take n c.args.bytes.now) ≡ true) (sym c.run_len.ensures.value) (in_front p c.args.bytes.now)

use Rattle.std.proofs.Common.{◌≡◌, ◌++◌, List, ℕ, sym, ◌∙◌, subst}
use Rattle.std.specs.Prelude.{OnOk}
use Rattle.wt_lines.proofs.PieceSigns.{signs_of_chars}
use Rattle.wt_tables.specs.Views.{numbers}
use Rattle.wt_tables.proofs.scan.push_signs.Goals as goal

pub returns-in-None : goal.returns-in-None
returns-in-None c =
    let e = c.as_bytes.ensures.value ∙ c.as_str.ensures ∙ sym (signs_of_chars c.args.piece.now c.in-None.ensures) in
    subst (λ (bs : List ℕ). OnOk c.push_bytes.result (numbers c.push_bytes.new.out ≡ numbers c.args.out.now ++ bs)) e c.push_bytes.ensures

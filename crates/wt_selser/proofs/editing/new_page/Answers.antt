use Rattle.std.proofs.Common.{ap, sym, ◌∙◌, length, List, ℕ, Ok}
use Rattle.std.specs.Prelude.{nat_lt}
use Rattle.wt_selser.specs.Edits.{most_bytes}
use Rattle.wt_splice.specs.Splice.{spliced}
use Rattle.wt_splice.specs.Views.{changes_view}
use Rattle.wt_selser.proofs.Answering.{new_too_long, new_stands}
use Rattle.wt_selser.proofs.editing.new_page.Goals as goal

pub returns-then-long : goal.returns-then-long
returns-then-long c =
    let e = c.in_ok-new.ensures in
    new_too_long (spliced c.args.page.now (changes_view c.args.changes.now))
    (ap (λ (xs : List ℕ). nat_lt most_bytes (length xs)) (sym e) ∙ ap (λ (xs : List ℕ). nat_lt most_bytes (length xs)) (sym c.as_str.ensures)
    ∙ sym c.is_too_long-long.ensures ∙ c.if-long.true)

pub returns : goal.returns
returns c =
    let e = c.in_ok-new.ensures in
    new_stands (spliced c.args.page.now (changes_view c.args.changes.now))
    (ap (λ (xs : List ℕ). nat_lt most_bytes (length xs)) (sym e) ∙ ap (λ (xs : List ℕ). nat_lt most_bytes (length xs)) (sym c.as_str.ensures)
    ∙ sym c.is_too_long-long.ensures ∙ c.if-long.false) ∙ ap Ok (sym e)

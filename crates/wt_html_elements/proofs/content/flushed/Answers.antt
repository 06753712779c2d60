use Rattle.std.specs.Prelude.{◌==◌}
use Rattle.std.proofs.Common.{ℕ, List, length, sym, ◌∙◌, ap}
use Rattle.wt_html_elements.proofs.Contents.{flushed_some, flushed_none, no_length, some_length}
use Rattle.wt_html_elements.proofs.content.flushed.Goals as goal

pub returns-then-is_empty : goal.returns-then-is_empty
returns-then-is_empty c = flushed_none c.args.contents.items c.args.run.items
    (no_length c.args.run.items (ap (λ (xs : List ℕ). length xs == 0) (sym c.as_slice.ensures.value) ∙ sym c.is_empty.ensures
    ∙ c.if-is_empty.true))

pub returns-in_ok-push : goal.returns-in_ok-push
returns-in_ok-push c =
    flushed_some c.args.contents.items c.push.new.self.items c.text_of.result c.args.run.items c.in_ok-push.ensures.items c.text_of.ensures
    (some_length c.args.run.items (ap (λ (xs : List ℕ). length xs == 0) (sym c.as_slice.ensures.value) ∙ sym c.is_empty.ensures ∙ c.if-is_empty.false))

use Rattle.std.proofs.Common.{ℕ, List, length, ap, ◌∙◌}
use Rattle.std.specs.Prelude.{◌==◌}
use Rattle.std.proofs.lemmas.List.{length-map}
use Rattle.wt_span.specs.Items.{sign, items}
use Rattle.wt_rows.proofs.delimiter.has_no_items.Goals as goal

pub returns : goal.returns
returns c =
    c.is_empty.ensures ∙ ap (λ (ns : List ℕ). length ns == 0) c.of.ensures ∙ ap (λ (n : ℕ). n == 0) (length-map (items c.args.pieces.now) sign)

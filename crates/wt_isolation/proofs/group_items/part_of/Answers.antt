use Rattle.std.proofs.Common.{List, map, sym, ◌∙◌, subst}
use Rattle.wt_span.specs.Items.{Item}
use Rattle.wt_span.specs.Origins.{outer_call}
use Rattle.wt_isolation.specs.PieceParts.{IsPieceOf}
use Rattle.wt_isolation.proofs.SliceItems.{chars_part}
use Rattle.wt_isolation.proofs.group_items.part_of.Goals as goal

pub returns-then-is_page_chars : goal.returns-then-is_page_chars
returns-then-is_page_chars c =
    subst (λ (xs : List Item). IsPieceOf xs c.chars_part.result)
    (sym (chars_part (map outer_call c.args.outer.now) c.args.ranges c.args.piece.now
    (sym c.is_page_chars.ensures ∙ c.if-is_page_chars.true) c.requires.sound))
    c.chars_part.ensures

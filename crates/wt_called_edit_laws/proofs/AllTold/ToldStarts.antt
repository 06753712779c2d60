-- The own lines of the blocks that a page's lines tell have their source.
use Rattle.std.proofs.Common.{◌≡◌, ℕ, Bool, List, [], ◌∷◌, length, refl}
use Rattle.wt_span.specs.Items.{sources}
use Rattle.wt_lines.specs.declared.kind.LineKind.TheVariants as line
use Rattle.wt_lines.specs.Kinds.{kind_of_signs}
use Rattle.wt_lines.specs.Lines.{content}
use Rattle.wt_text_edit_laws.specs.TextBlocks.{TextBlock, source_of}
use Rattle.wt_called_edit_laws.specs.AnyBlocks.{open_after}
use Rattle.wt_called_edit_laws.specs.PlacedLines.{LinedBlock, AreLinedAfter, AreLined, front_rows}
use Rattle.wt_called_edit_laws.proofs.Cells.PlacedLines.{own_items, own_source}
use Rattle.wt_called_edit_laws.proofs.AllTold.LineKinds.{Lines}

abbrev pub AreOwn : List LinedBlock → Type 0
AreOwn [] = Unit {0}
AreOwn (b ∷ bs) = (sources (content (own_items b)) ≡ source_of b.block b.text) × AreOwn bs

own_after : (last : TextBlock) (bs : List Bool) (ls : List LinedBlock) (behind : Lines) → AreLinedAfter last bs ls behind → AreOwn ls
own_after last bs [] behind h = tt
own_after last bs (b ∷ ls) behind h =
    let now : List Bool = open_after bs (front_rows (length bs) b) in
    (own_source b.sign b.block (length now) b.text (b.first ∷ b.more) h.1.own, own_after b.block now ls behind h.2)

pub are_own : (ls : List LinedBlock) (behind : Lines) → AreLined ls behind → AreOwn ls
are_own [] behind h = absurd h
are_own (b ∷ ls) behind h =
    let now : List Bool = open_after [] (front_rows 0 b) in
    (own_source b.sign b.block (length now) b.text (b.first ∷ b.more) h.0.own, own_after b.block now ls behind h.1)

pub blank_is : (n : ℕ) → kind_of_signs n [] ≡ line.Blank
unfolding kind_of_signs
blank_is n = refl

-- Blocks among items mean a tree with these blocks at places, which are the same whatever their contents are.
use Rattle.std.proofs.Common.{◌≡◌, ◌⊎◌, inl, inr, ℕ, suc, Bool, List, [], ◌∷◌, length, map, refl, sym, ap, ◌∙◌, subst}
use Rattle.wt_span.specs.Items.{Item}
use Rattle.wt_lines.specs.Lines.{full_lines}
use Rattle.wt_inline.specs.ItemTree.{ItemTree}
use Rattle.wt_page.specs.Rows.{Row, rows_from, rows}
use Rattle.wt_page.specs.Body.{body_parts, meaning}
use Rattle.wt_part_laws.specs.Frames.{Frames, trees_at, all_places, content, AreFrames}
use Rattle.wt_part_laws.specs.Slots.{Slot, rows_at, AreAt, PlacesStand}
use Rattle.wt_part_laws.proofs.Places.{places_stand}
use Rattle.wt_text_edit_laws.specs.TextBlocks.{TextBlock}
use Rattle.wt_text_edit_laws.specs.ParagraphBetween.{body_with}
use Rattle.wt_text_edit_laws.proofs.Paragraphs.Standing.{body_is}
use Rattle.wt_called_edit_laws.specs.AnyBlocks.{open_behind_part, LeadsInto, past_break, BeginsAfter}
use Rattle.wt_called_edit_laws.specs.CalledContents.{AreItemsOf, IsTextAnywhere}
use Rattle.wt_called_edit_laws.specs.StaysIn.{StaysIn}
use Rattle.wt_called_edit_laws.specs.ItemSpots.{ItemSpot, placed_items, IsPlacedAt, ArePlacedAfter, ArePlaced, SameItems, AreNewIn, AreContentsIn}
use Rattle.wt_called_edit_laws.proofs.Cells.SpotRows.{trees_by, page_rows, slots_rows, slots_at}
use Rattle.wt_called_edit_laws.proofs.Cells.SpotSlots.{page_slots, numbered_from, same_slots, slots_numbers, slots_in_cells, slots_few, slots_apart}

-- ---- with new contents

placed_over : (bs : List Bool) (xs : List Item) (s r : ItemSpot) → r.block ≡ s.block → (r.content ≡ s.content) ⊎ IsTextAnywhere r.block r.content → IsPlacedAt bs xs s → IsPlacedAt bs xs r
placed_over bs xs s r k (inl e) h = (
  subst (λ ys. AreItemsOf r.block ys) (sym e) (subst (λ j. AreItemsOf j s.content) (sym k) h.0),
  subst (λ j. LeadsInto j bs xs) (sym k) h.1,
  subst (λ ys. StaysIn r.block bs xs ys) (sym e) (subst (λ j. StaysIn j bs xs s.content) (sym k) h.2),
)
placed_over bs xs s r k (inr t) h = (t.items, subst (λ j. LeadsInto j bs xs) (sym k) h.1, inl (t.stays (length (open_behind_part bs xs))))

by_front : (P : List Item → TextBlock → Type 0) (s r : ItemSpot) → r.before ≡ s.before → r.block ≡ s.block → P s.before s.block → P r.before r.block
by_front P s r e k h = subst (λ xs. P xs r.block) (sym e) (subst (λ j. P s.before j) (sym k) h)

after_over : (last : TextBlock) (bs : List Bool) (ss rs : List ItemSpot) (behind : List Item) → SameItems ss rs → AreNewIn ss rs
    → ArePlacedAfter last bs ss behind → ArePlacedAfter last bs rs behind
after_over last bs [] [] behind e o h = h
after_over last bs [] (r ∷ rs) behind e o h = absurd e
after_over last bs (s ∷ ss) [] behind e o h = absurd e
after_over last bs (s ∷ ss) (r ∷ rs) behind e o h = (
  by_front (λ xs k. BeginsAfter last k bs xs) s r e.0 e.1 h.0,
  by_front (λ xs k. IsPlacedAt bs (past_break xs) r) s r e.0 e.1 (placed_over bs (past_break s.before) s r e.1 o.0 h.1),
  by_front (λ xs k. ArePlacedAfter k (open_behind_part bs (past_break xs)) rs behind) s r e.0 e.1
      (after_over s.block (open_behind_part bs (past_break s.before)) ss rs behind e.2 o.1 h.2),
)

pub items_over : (ss rs : List ItemSpot) (behind : List Item) → ArePlaced ss behind → SameItems ss rs → AreNewIn ss rs → ArePlaced rs behind
items_over [] rs behind h e o = absurd h
items_over (s ∷ ss) [] behind h e o = absurd e
items_over (s ∷ ss) (r ∷ rs) behind h e o = (
  by_front (λ xs k. IsPlacedAt [] xs r) s r e.0 e.1 (placed_over [] s.before s r e.1 o.0 h.0),
  by_front (λ xs k. ArePlacedAfter k (open_behind_part [] xs) rs behind) s r e.0 e.1
      (after_over s.block (open_behind_part [] s.before) ss rs behind e.2 o.1 h.1),
)

-- ---- each has a content

blocks_after : (last : TextBlock) (bs : List Bool) (ss : List ItemSpot) (behind : List Item) → ArePlacedAfter last bs ss behind → AreContentsIn ss
blocks_after last bs [] behind h = tt
blocks_after last bs (s ∷ ss) behind h = (h.1.0, blocks_after s.block (open_behind_part bs (past_break s.before)) ss behind h.2)

pub placed_blocks : (ss : List ItemSpot) (behind : List Item) → ArePlaced ss behind → AreContentsIn ss
placed_blocks [] behind h = absurd h
placed_blocks (s ∷ ss) behind h = (h.0.0, blocks_after s.block (open_behind_part [] s.before) ss behind h.1)

-- ---- numbers

abbrev pub counted_in : List ItemSpot → List ℕ
counted_in [] = []
counted_in (s ∷ ss) = 0 ∷ map suc (counted_in ss)

numbers_up : (i : ℕ) (ss : List ItemSpot) → numbered_from (suc i) ss ≡ map suc (numbered_from i ss)
numbers_up i [] = refl
numbers_up i (s ∷ ss) = ap (λ ns. suc i ∷ ns) (numbers_up (suc i) ss)

are_counted : (ss : List ItemSpot) → numbered_from 0 ss ≡ counted_in ss
are_counted [] = refl
are_counted (s ∷ ss) = ap (λ (ns : List ℕ). 0 ∷ ns) (numbers_up 0 ss ∙ ap (map suc) (are_counted ss))

-- ---- the body

-- Whatever their contents are, they are at the same places, in their order; and the blocks are these trees.
pub record ItemsFramed (ss : List ItemSpot) (behind : List Item) : Type 0 where
  pub frames : Frames
  pub of_cells : AreFrames frames content
  pub in_order : all_places frames ≡ counted_in ss
  pub means : (rs : List ItemSpot) (t : ℕ → ItemTree) → SameItems ss rs → AreNewIn ss rs → ((i : ℕ) → t i ≡ trees_by rs i)
      → meaning (placed_items rs behind) ≡ body_with (trees_at t frames)

rows_are : (xs : List Item) → rows xs ≡ rows_from 0 (full_lines xs)
unfolding rows
rows_are xs = refl

items_mean : (rs : List ItemSpot) (behind : List Item) (ss : List Slot) (s : PlacesStand ss) (t : ℕ → ItemTree) → ss ≡ page_slots rs behind
    → ArePlaced rs behind → ((i : ℕ) → t i ≡ trees_by rs i) → meaning (placed_items rs behind) ≡ body_with (trees_at t s.frames)
items_mean rs behind ss s t e h f =
    let b : AreContentsIn rs = placed_blocks rs behind h in
    let xs : List Item = placed_items rs behind in
    let p : ℕ → List Row = page_rows rs behind b in
    let at : AreAt ss p t = subst (λ zs. AreAt zs p t) (sym e) (slots_at rs behind b t f h) in
    let made : rows xs ≡ rows_at p ss = rows_are xs ∙ sym (slots_rows rs behind b h) ∙ ap (rows_at p) (sym e) in
    body_is xs (body_parts (rows_at p ss)) (ap body_parts made) ∙ ap body_with (s.stands p t at)

pub items_framed : (ss : List ItemSpot) (behind : List Item) → ArePlaced ss behind → ItemsFramed ss behind
items_framed ss behind h =
    let s : PlacesStand (page_slots ss behind) =
    places_stand (page_slots ss behind) (slots_in_cells ss behind h) (slots_apart ss behind h) (slots_few ss behind) in
    record {
      frames = s.frames;
      of_cells = s.of_cells;
      in_order = s.in_order ∙ slots_numbers ss behind ∙ are_counted ss;
      means = λ rs t e o f. items_mean rs behind (page_slots ss behind) s t (same_slots ss rs behind e) (items_over ss rs behind h e o) f;
    }

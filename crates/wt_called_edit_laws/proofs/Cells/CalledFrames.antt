-- Blocks among calls are at places of the page's tree, which are the same whatever their contents are; and a page that calls nothing is such a page.
use Rattle.std.proofs.Common.{◌≡◌, ◌⊎◌, inl, inr, ℕ, zero, suc, ◌+◌, List, [], ◌∷◌, ◌++◌, map, refl, sym, ap, ap₂, ◌∙◌, subst}
use Rattle.wt_span.specs.Items.{Item}
use Rattle.wt_expand.specs.PageItems.{page_items}
use Rattle.wt_expand.specs.Work.{Pages}
use Rattle.wt_page.specs.Body.{meaning}
use Rattle.wt_part_laws.specs.Expanded.{part_items, calls_in}
use Rattle.wt_text_edit_laws.specs.BlockSpots.{BlockSpot, SameRound, AreContents}
use Rattle.wt_text_edit_laws.specs.Contents.{IsNewContent}
use Rattle.wt_text_edit_laws.specs.NoCalls.{CallsNothing}
use Rattle.wt_text_edit_laws.specs.TextBlocks.{TextBlock, source_of, block_items}
use Rattle.wt_text_edit_laws.proofs.Blocks.TypedBraces.{AreNewOver, new_calm}
use Rattle.wt_called_edit_laws.specs.Parts.{calls_to, called_items}
use Rattle.wt_called_edit_laws.specs.Retyped.{AreRetyped}
use Rattle.wt_called_edit_laws.proofs.Parts.NoCallsCalled.{PartsCalm, parts_calm, read_called, read_contents, read_none_called, calm_items, calm_count}
use Rattle.wt_called_edit_laws.proofs.Parts.Retyped.{is_by_parts, same_round, new_over, blocks_over, typed_again}
use Rattle.wt_called_edit_laws.specs.AnyBlocks.{AreSpots}
use Rattle.wt_called_edit_laws.specs.ItemSpots.{ItemSpot, items_of_spots, placed_items, ArePlaced, AreContentSpots, SameItems, AreNewIn}
use Rattle.wt_called_edit_laws.specs.CalledBlocks.{spots_among, items_behind, CallNothing, AreAmongCalls, tree_by, counted, StandAmongCalls}
use Rattle.wt_called_edit_laws.proofs.Cells.ItemFrames.{counted_in, items_over, items_framed}
use Rattle.wt_called_edit_laws.proofs.Cells.ContentItems.{round_is, tree_is, over_items}
use Rattle.wt_called_edit_laws.specs.CalledContents.{items_round}
use Rattle.wt_called_edit_laws.proofs.Cells.SpotFrames.{parts_placed}
use Rattle.wt_called_edit_laws.proofs.Cells.SpotRows.{trees_by}
use Rattle.wt_called_edit_laws.proofs.Cells.SpotsRead.{parts_read}

-- ---- the blocks' contents

pub among_contents : (pages : Pages) (ss : List BlockSpot) (behind : List ℕ) → AreAmongCalls pages ss behind → AreContents ss
among_contents pages ss behind h = h.contents

text_calm : (k : TextBlock) (was now : List ℕ) → (now ≡ was) ⊎ IsNewContent k was now → CallsNothing (block_items k was) → CallsNothing (block_items k now)
text_calm k was now (inl e) h = subst (λ q. CallsNothing (block_items k q)) (sym e) h
text_calm k was now (inr n) h = new_calm k was now n

pub calm_over : (ss rs : List BlockSpot) → AreRetyped ss rs → CallNothing ss → CallNothing rs
calm_over [] [] t c = tt
calm_over [] (r ∷ rs) t c = absurd t
calm_over (s ∷ ss) [] t c = absurd t
calm_over (s ∷ ss) (r ∷ rs) t c =
    (text_calm r.block s.text r.text t.2 (subst (λ k. CallsNothing (block_items k s.text)) (sym t.1) c.0), calm_over ss rs t.3 c.1)

-- ---- their items

called_are : (pages : Pages) (k : ℕ) (ss : List BlockSpot) (behind : List ℕ) → AreContents ss → CallNothing ss
    → called_items pages k ss behind ≡ placed_items (spots_among pages k ss) (items_behind pages k ss behind)
called_are pages k [] behind b c = refl
called_are pages k (s ∷ ss) behind b c =
    let bs : List ℕ = source_of s.block s.text in
    let n : ℕ = calls_to pages k s in
    let calm : CallsNothing (page_items bs) = subst CallsNothing (sym b.0.unended) c.0 in
    ap (λ (xs : List Item). part_items pages k s.before ++ xs)
    (ap₂ (λ (xs : List Item) (j : ℕ). xs ++ called_items pages j ss behind) (calm_items pages n bs calm ∙ b.0.unended ∙ round_is s.block s.text) (calm_count pages n bs calm)
    ∙ ap (λ (xs : List Item). items_round s.block (page_items s.text) ++ xs) (called_are pages n ss behind b.1 c.1))

same_among : (pages : Pages) (k : ℕ) (ss rs : List BlockSpot) → SameRound ss rs → SameItems (spots_among pages k ss) (spots_among pages k rs)
same_among pages k [] [] e = tt
same_among pages k [] (r ∷ rs) e = absurd e
same_among pages k (s ∷ ss) [] e = absurd e
same_among pages k (s ∷ ss) (r ∷ rs) e = (
  ap (part_items pages k) e.0,
  e.1,
  subst (λ bs. SameItems (spots_among pages (k + calls_in pages s.before) ss) (spots_among pages (k + calls_in pages bs) rs)) (sym e.0)
      (same_among pages (k + calls_in pages s.before) ss rs e.2),
)

same_behind : (pages : Pages) (k : ℕ) (ss rs : List BlockSpot) (behind : List ℕ) → SameRound ss rs → items_behind pages k rs behind ≡ items_behind pages k ss behind
same_behind pages k [] [] behind e = refl
same_behind pages k [] (r ∷ rs) behind e = absurd e
same_behind pages k (s ∷ ss) [] behind e = absurd e
same_behind pages k (s ∷ ss) (r ∷ rs) behind e =
    ap (λ bs. items_behind pages (k + calls_in pages bs) rs behind) e.0 ∙ same_behind pages (k + calls_in pages s.before) ss rs behind e.2

new_among : (pages : Pages) (k j : ℕ) (ss rs : List BlockSpot) → AreNewOver ss rs → AreNewIn (spots_among pages k ss) (spots_among pages j rs)
new_among pages k j [] rs o = tt
new_among pages k j (s ∷ ss) [] o = tt
new_among pages k j (s ∷ ss) (r ∷ rs) o = (over_items r.block s.text r.text o.0, new_among pages (k + calls_in pages s.before) (j + calls_in pages r.before) ss rs o.1)

counted_same : (pages : Pages) (k : ℕ) (ss : List BlockSpot) → counted_in (spots_among pages k ss) ≡ counted ss
counted_same pages k [] = refl
counted_same pages k (s ∷ ss) = ap (λ (ns : List ℕ). 0 ∷ map suc ns) (counted_same pages (k + calls_in pages s.before) ss)

trees_same : (pages : Pages) (k : ℕ) (ss : List BlockSpot) (i : ℕ) → tree_by ss i ≡ trees_by (spots_among pages k ss) i
trees_same pages k [] i = refl
trees_same pages k (s ∷ ss) zero = tree_is s.block s.text
trees_same pages k (s ∷ ss) (suc i) = trees_same pages (k + calls_in pages s.before) ss i

pub stand_among : (pages : Pages) (ss : List BlockSpot) (behind : List ℕ) → AreAmongCalls pages ss behind → StandAmongCalls pages ss behind
stand_among pages ss behind h =
    let f = items_framed (spots_among pages 0 ss) (items_behind pages 0 ss behind) h.placed in
    record {
      frames = f.frames;
      of_cells = f.of_cells;
      in_order = f.in_order ∙ counted_same pages 0 ss;
      means = λ rs t.
          let again = typed_again pages ss rs behind h.called t in
          let by = is_by_parts pages rs behind again.called in
          let own : AreContents rs = blocks_over ss rs t (among_contents pages ss behind h) in
          ap meaning (by.items ∙ called_are pages 0 rs behind own (calm_over ss rs t h.calm) ∙ ap (placed_items (spots_among pages 0 rs)) (same_behind pages 0 ss rs behind (same_round ss rs t)))
          ∙ f.means (spots_among pages 0 rs) (tree_by rs) (same_among pages 0 ss rs (same_round ss rs t)) (new_among pages 0 0 ss rs (new_over ss rs t))
          (trees_same pages 0 rs);
    }

-- ---- with new contents it is such a page again

pub again_among : (pages : Pages) (ss rs : List BlockSpot) (behind : List ℕ) → AreAmongCalls pages ss behind → AreRetyped ss rs → AreAmongCalls pages rs behind
again_among pages ss rs behind h t =
    let again = typed_again pages ss rs behind h.called t in
    let e : SameRound ss rs = same_round ss rs t in
    record {
      called = again.called;
      contents = blocks_over ss rs t h.contents;
      calm = calm_over ss rs t h.calm;
      placed = subst (ArePlaced (spots_among pages 0 rs)) (sym (same_behind pages 0 ss rs behind e))
          (items_over (spots_among pages 0 ss) (spots_among pages 0 rs) (items_behind pages 0 ss behind) h.placed (same_among pages 0 ss rs e)
          (new_among pages 0 0 ss rs (new_over ss rs t)));
    }

-- ---- a page that calls nothing is such a page

pub calm_among : (pages : Pages) (k : ℕ) (ss : List BlockSpot) (behind : List ℕ) → PartsCalm ss behind → spots_among pages k ss ≡ items_of_spots ss
calm_among pages k [] behind h = refl
calm_among pages k (s ∷ ss) behind h =
    let own : ItemSpot = record { before = part_items pages k s.before; block = s.block; content = page_items s.text } in
    ap (λ (n : ℕ). own ∷ spots_among pages n ss) (calm_count pages k s.before h.0)
    ∙ ap₂ (λ (xs : List Item) (rs : List ItemSpot). record { before = xs; block = s.block; content = page_items s.text } ∷ rs) (calm_items pages k s.before h.0)
    (calm_among pages k ss behind h.1)

calm_behind : (pages : Pages) (k : ℕ) (ss : List BlockSpot) (behind : List ℕ) → PartsCalm ss behind → items_behind pages k ss behind ≡ page_items behind
calm_behind pages k [] behind h = calm_items pages k behind h
calm_behind pages k (s ∷ ss) behind h =
    ap (λ (n : ℕ). items_behind pages n ss behind) (calm_count pages k s.before h.0) ∙ calm_behind pages k ss behind h.1

pub contents_among_calls : (pages : Pages) (ss : List BlockSpot) (behind : List ℕ) → AreContentSpots ss behind → AreAmongCalls pages ss behind
contents_among_calls pages ss behind h =
    let c : PartsCalm ss behind = parts_calm ss behind h.read in
    record {
      called = read_called pages ss behind h.read;
      contents = read_contents ss behind h.read;
      calm = read_none_called ss behind h.read;
      placed = subst (λ rs. ArePlaced rs (items_behind pages 0 ss behind)) (sym (calm_among pages 0 ss behind c))
          (subst (ArePlaced (items_of_spots ss)) (sym (calm_behind pages 0 ss behind c)) h.placed);
    }

pub texts_are_contents : (ss : List BlockSpot) (behind : List ℕ) → AreSpots ss behind → AreContentSpots ss behind
texts_are_contents ss behind h = record {
  read = parts_read ss behind h.parts h.whole;
  placed = parts_placed ss behind h.parts;
  ungrouped = h.ungrouped;
}

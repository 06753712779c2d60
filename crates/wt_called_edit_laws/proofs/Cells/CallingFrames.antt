-- Blocks that hold calls are at places of the page's tree, which are the same whatever is written in them beside their calls.
use Rattle.std.proofs.Common.{◌≡◌, ◌⊎◌, inl, inr, ℕ, zero, suc, ◌+◌, List, [], ◌∷◌, ◌++◌, map, refl, sym, ap, ap₂, ◌∙◌, subst}
use Rattle.wt_span.specs.declared.form.Mode.TheVariants.{Page}
use Rattle.wt_span.specs.Items.{Item, char, whole, sign}
use Rattle.wt_span.specs.Lexemes.{words}
use Rattle.wt_span.specs.Braces.{reduced}
use Rattle.wt_expand.specs.PageItems.{page_items}
use Rattle.wt_expand.specs.Work.{Pages}
use Rattle.wt_page.specs.Body.{meaning}
use Rattle.wt_part_laws.specs.Expanded.{part_items, calls_in}
use Rattle.wt_part_laws.proofs.ExpandedBoth.{plain_anywhere}
use Rattle.wt_text_edit_laws.specs.BlockSpots.{BlockSpot, AreContents}
use Rattle.wt_text_edit_laws.specs.Contents.{IsContent}
use Rattle.wt_text_edit_laws.specs.LonePages.{page_chars}
use Rattle.wt_text_edit_laws.specs.NoCalls.{NonePairs, CallsNothing, AreUnbraced, braces_of}
use Rattle.wt_text_edit_laws.specs.TextBlocks.{TextBlock, a_paragraph, a_heading, source_of, block_items}
use Rattle.wt_text_edit_laws.specs.TypedHeadings.{opening, closing_items}
use Rattle.wt_text_edit_laws.proofs.Blocks.BlockReading.{content_frame, content_read}
use Rattle.wt_text_edit_laws.proofs.Blocks.TypedBraces.{line_unbraced}
use Rattle.wt_text_edit_laws.proofs.Between.LessBraces.{BeginsUnbraced, items_behind_end, items_before_start, none_unbraced, unbraced_ends}
use Rattle.wt_called_edit_laws.specs.CalledBlocks.{CallNothing, AreAmongCalls, counted, spots_among, items_behind}
use Rattle.wt_called_edit_laws.specs.CalledContents.{items_round, AreItemsOf, IsTextAnywhere}
use Rattle.wt_called_edit_laws.specs.CallingBlocks.{IsContentIn, IsNewContentIn, AreContentsInFolder, AreEdited, spots_with_calls, items_past, AreCallingBlocks, tree_with_calls, CallingBlocksStand}
use Rattle.wt_called_edit_laws.specs.ItemSpots.{ItemSpot, placed_items, ArePlaced, SameItems, AreNewIn}
use Rattle.wt_called_edit_laws.specs.Parts.{calls_to, calls_past, called_items}
use Rattle.wt_called_edit_laws.specs.Retyped.{IsPartAnew, AreWrittenAnew}
use Rattle.wt_called_edit_laws.proofs.Cells.ContentItems.{round_is, content_items}
use Rattle.wt_called_edit_laws.proofs.Cells.ItemFrames.{counted_in, items_over, items_framed}
use Rattle.wt_called_edit_laws.proofs.Cells.SpotRows.{trees_by}
use Rattle.wt_called_edit_laws.proofs.MovedOuters.{moved_count}
use Rattle.wt_expand.specs.PageCalls.{expanded_page}
use Rattle.wt_called_edit_laws.proofs.Parts.NoCallsCalled.{pairs_front, calm_items, calm_count}
use Rattle.wt_called_edit_laws.proofs.Parts.PartByPart.{lexemes_plain}
use Rattle.wt_called_edit_laws.proofs.Parts.Retyped.{is_by_parts, expanded_again, calm_lexemes}

-- ---- the page with new contents

pub edited_anew : (pages : Pages) (ss rs : List BlockSpot) → AreEdited pages ss rs → AreWrittenAnew pages ss rs
edited_anew pages [] [] h = tt
edited_anew pages [] (r ∷ rs) h = absurd h
edited_anew pages (s ∷ ss) [] h = absurd h
edited_anew pages (s ∷ ss) (r ∷ rs) h = (h.0, h.1, one h.2, edited_anew pages ss rs h.3)
  where
    one : (r.text ≡ s.text) ⊎ IsNewContentIn pages r.block s.text r.text → (r.text ≡ s.text) ⊎ IsPartAnew pages r.block s.text r.text
    one (inl e) = inl e
    one (inr n) = inr n.part

-- as many calls come before a block, and with it
to_same : (pages : Pages) (k : ℕ) (s r : BlockSpot) → r.before ≡ s.before → calls_to pages k r ≡ calls_to pages k s
to_same pages k s r e = ap (λ bs. k + calls_in pages bs) e

own_same : (pages : Pages) (s r : BlockSpot) → r.block ≡ s.block → (r.text ≡ s.text) ⊎ IsNewContentIn pages r.block s.text r.text
    → calls_in pages (source_of r.block r.text) ≡ calls_in pages (source_of s.block s.text)
own_same pages s r e (inl t) = ap₂ (λ (k : TextBlock) (q : List ℕ). calls_in pages (source_of k q)) e t
own_same pages s r e (inr n) =
    moved_count (expanded_page pages (source_of r.block s.text)).outer (expanded_page pages (source_of r.block r.text)).outer n.calls
    ∙ ap (λ k. calls_in pages (source_of k s.text)) e

past_same : (pages : Pages) (k : ℕ) (s r : BlockSpot) → r.before ≡ s.before → r.block ≡ s.block → (r.text ≡ s.text) ⊎ IsNewContentIn pages r.block s.text r.text
    → calls_past pages k r ≡ calls_past pages k s
past_same pages k s r e f o = ap₂ (λ (m n : ℕ). m + n) (to_same pages k s r e) (own_same pages s r f o)

same_spots : (pages : Pages) (k : ℕ) (ss rs : List BlockSpot) → AreEdited pages ss rs → SameItems (spots_with_calls pages k ss) (spots_with_calls pages k rs)
same_spots pages k [] [] h = tt
same_spots pages k [] (r ∷ rs) h = absurd h
same_spots pages k (s ∷ ss) [] h = absurd h
same_spots pages k (s ∷ ss) (r ∷ rs) h = (
  ap (part_items pages k) h.0,
  h.1,
  subst (λ (n : ℕ). SameItems (spots_with_calls pages (calls_past pages k s) ss) (spots_with_calls pages n rs)) (sym (past_same pages k s r h.0 h.1 h.2))
      (same_spots pages (calls_past pages k s) ss rs h.3),
)

new_spots : (pages : Pages) (k : ℕ) (ss rs : List BlockSpot) → AreEdited pages ss rs → AreNewIn (spots_with_calls pages k ss) (spots_with_calls pages k rs)
new_spots pages k [] rs h = tt
new_spots pages k (s ∷ ss) [] h = tt
new_spots pages k (s ∷ ss) (r ∷ rs) h = (
  one h.2,
  subst (λ (n : ℕ). AreNewIn (spots_with_calls pages (calls_past pages k s) ss) (spots_with_calls pages n rs)) (sym (past_same pages k s r h.0 h.1 h.2))
      (new_spots pages (calls_past pages k s) ss rs h.3),
)
  where
    one : (r.text ≡ s.text) ⊎ IsNewContentIn pages r.block s.text r.text
        → (part_items pages (calls_to pages k r) r.text ≡ part_items pages (calls_to pages k s) s.text) ⊎ IsTextAnywhere r.block (part_items pages (calls_to pages k r) r.text)
    one (inl e) = inl (ap₂ (λ (n : ℕ) (q : List ℕ). part_items pages n q) (to_same pages k s r h.0) e)
    one (inr n) =
        let c : IsContentIn pages r.block r.text = n.content in
        inr (record { items = c.is (calls_to pages k r); stays = λ j. n.stays (calls_to pages k r) j })

same_past : (pages : Pages) (k : ℕ) (ss rs : List BlockSpot) (behind : List ℕ) → AreEdited pages ss rs → items_past pages k rs behind ≡ items_past pages k ss behind
same_past pages k [] [] behind h = refl
same_past pages k [] (r ∷ rs) behind h = absurd h
same_past pages k (s ∷ ss) [] behind h = absurd h
same_past pages k (s ∷ ss) (r ∷ rs) behind h =
    ap (λ (n : ℕ). items_past pages n rs behind) (past_same pages k s r h.0 h.1 h.2) ∙ same_past pages (calls_past pages k s) ss rs behind h.3

contents_over : (pages : Pages) (ss rs : List BlockSpot) → AreEdited pages ss rs → AreContentsInFolder pages ss → AreContentsInFolder pages rs
contents_over pages [] [] h c = tt
contents_over pages [] (r ∷ rs) h c = absurd h
contents_over pages (s ∷ ss) [] h c = absurd h
contents_over pages (s ∷ ss) (r ∷ rs) h c = (one h.2, contents_over pages ss rs h.3 c.1)
  where
    one : (r.text ≡ s.text) ⊎ IsNewContentIn pages r.block s.text r.text → IsContentIn pages r.block r.text
    one (inl e) = subst (λ q. IsContentIn pages r.block q) (sym e) (subst (λ k. IsContentIn pages k s.text) (sym h.1) c.0)
    one (inr n) = n.content

-- ---- its items

called_are : (pages : Pages) (k : ℕ) (ss : List BlockSpot) (behind : List ℕ) → AreContentsInFolder pages ss
    → called_items pages k ss behind ≡ placed_items (spots_with_calls pages k ss) (items_past pages k ss behind)
called_are pages k [] behind c = refl
called_are pages k (s ∷ ss) behind c =
    ap (λ (xs : List Item). part_items pages k s.before ++ xs)
    (ap (λ (xs : List Item). xs ++ called_items pages (calls_past pages k s) ss behind) (c.0.items (calls_to pages k s))
    ∙ ap (λ (xs : List Item). items_round s.block (part_items pages (calls_to pages k s) s.text) ++ xs) (called_are pages (calls_past pages k s) ss behind c.1))

counted_same : (pages : Pages) (k : ℕ) (ss : List BlockSpot) → counted_in (spots_with_calls pages k ss) ≡ counted ss
counted_same pages k [] = refl
counted_same pages k (s ∷ ss) = ap (λ (ns : List ℕ). 0 ∷ map suc ns) (counted_same pages (calls_past pages k s) ss)

trees_same : (pages : Pages) (k : ℕ) (ss : List BlockSpot) (i : ℕ) → tree_with_calls pages k ss i ≡ trees_by (spots_with_calls pages k ss) i
trees_same pages k [] i = refl
trees_same pages k (s ∷ ss) zero = refl
trees_same pages k (s ∷ ss) (suc i) = trees_same pages (calls_past pages k s) ss i

pub calling_stand : (pages : Pages) (ss : List BlockSpot) (behind : List ℕ) → AreCallingBlocks pages ss behind → CallingBlocksStand pages ss behind
calling_stand pages ss behind h =
    let f = items_framed (spots_with_calls pages 0 ss) (items_past pages 0 ss behind) h.placed in
    record {
      frames = f.frames;
      of_cells = f.of_cells;
      in_order = f.in_order ∙ counted_same pages 0 ss;
      means = λ rs t.
          let again = expanded_again pages ss rs behind h.called (edited_anew pages ss rs t) in
          let by = is_by_parts pages rs behind again.called in
          ap meaning (by.items ∙ called_are pages 0 rs behind (contents_over pages ss rs t h.contents)
          ∙ ap (placed_items (spots_with_calls pages 0 rs)) (same_past pages 0 ss rs behind t))
          ∙ f.means (spots_with_calls pages 0 rs) (tree_with_calls pages 0 rs) (same_spots pages 0 ss rs t) (new_spots pages 0 ss rs t) (trees_same pages 0 rs);
    }

pub calling_again : (pages : Pages) (ss rs : List BlockSpot) (behind : List ℕ) → AreCallingBlocks pages ss behind → AreEdited pages ss rs → AreCallingBlocks pages rs behind
calling_again pages ss rs behind h t =
    let again = expanded_again pages ss rs behind h.called (edited_anew pages ss rs t) in
    record {
      called = again.called;
      contents = contents_over pages ss rs t h.contents;
      placed = subst (ArePlaced (spots_with_calls pages 0 rs)) (sym (same_past pages 0 ss rs behind t))
          (items_over (spots_with_calls pages 0 ss) (spots_with_calls pages 0 rs) (items_past pages 0 ss behind) h.placed (same_spots pages 0 ss rs t)
          (new_spots pages 0 ss rs t));
    }

-- ---- contents that call nothing

begins_unbraced : (xs : List Item) → AreUnbraced xs → BeginsUnbraced (map sign xs)
begins_unbraced [] u = tt
begins_unbraced (char o b ∷ xs) u = u.0
begins_unbraced (whole f o bs ∷ xs) u = unbraced_ends (whole f o bs ∷ []) tt

pub own_calm : (k : TextBlock) (q : List ℕ) → IsContent k q → CallsNothing (block_items k q) → CallsNothing (page_items q)
own_calm a_paragraph q h c = c
own_calm (a_heading s) q h c =
    let f = content_frame (a_heading s) q h in
    let xs : List Item = page_items q in
    let all : AreUnbraced (page_chars (opening s) ++ ([] ++ closing_items s)) = line_unbraced s [] f tt in
    let o : AreUnbraced (page_chars (opening s)) = unbraced_front (page_chars (opening s)) (closing_items s) all in
    let e : AreUnbraced (closing_items s) = unbraced_back (page_chars (opening s)) (closing_items s) all in
    let split : braces_of (page_chars (opening s) ++ (xs ++ closing_items s)) ≡ braces_of xs ++ braces_of (closing_items s) =
    items_behind_end (page_chars (opening s)) (xs ++ closing_items s) (unbraced_ends (page_chars (opening s)) o)
    ∙ ap (λ bs. bs ++ braces_of (xs ++ closing_items s)) (none_unbraced (page_chars (opening s)) o)
    ∙ items_before_start xs (closing_items s) (begins_unbraced (closing_items s) e) in
    pairs_front (braces_of xs) (braces_of (closing_items s)) (subst NonePairs split c)
  where
    unbraced_front : (xs ys : List Item) → AreUnbraced (xs ++ ys) → AreUnbraced xs
    unbraced_front [] ys u = tt
    unbraced_front (char o b ∷ xs) ys u = (u.0, unbraced_front xs ys u.1)
    unbraced_front (whole f o bs ∷ xs) ys u = unbraced_front xs ys u

    unbraced_back : (xs ys : List Item) → AreUnbraced (xs ++ ys) → AreUnbraced ys
    unbraced_back [] ys u = u
    unbraced_back (char o b ∷ xs) ys u = unbraced_back xs ys u.1
    unbraced_back (whole f o bs ∷ xs) ys u = unbraced_back xs ys u

pub content_in : (pages : Pages) (k : TextBlock) (q : List ℕ) → IsContent k q → CallsNothing (block_items k q) → IsContentIn pages k q
content_in pages k q h c =
    let bs : List ℕ = source_of k q in
    let own : CallsNothing (page_items q) = own_calm k q h c in
    let all : CallsNothing (page_items bs) = subst CallsNothing (sym h.unended) c in
    record {
      read = content_read k q h;
      anywhere = plain_anywhere pages bs (lexemes_plain (reduced (words Page bs)) (calm_lexemes k q h c));
      items = λ i. calm_items pages i bs all ∙ h.unended ∙ round_is k q ∙ ap (items_round k) (sym (calm_items pages i q own));
      is = λ i. subst (AreItemsOf k) (sym (calm_items pages i q own)) (content_items k q h);
    }

contents_in : (pages : Pages) (ss : List BlockSpot) → AreContents ss → CallNothing ss → AreContentsInFolder pages ss
contents_in pages [] h c = tt
contents_in pages (s ∷ ss) h c = (content_in pages s.block s.text h.0 c.0, contents_in pages ss h.1 c.1)

past_calm : (pages : Pages) (k : ℕ) (s : BlockSpot) → IsContent s.block s.text → CallsNothing (block_items s.block s.text) → calls_past pages k s ≡ calls_to pages k s
past_calm pages k s h c = calm_count pages (calls_to pages k s) (source_of s.block s.text) (subst CallsNothing (sym h.unended) c)

spots_calm : (pages : Pages) (k : ℕ) (ss : List BlockSpot) → AreContents ss → CallNothing ss → spots_with_calls pages k ss ≡ spots_among pages k ss
spots_calm pages k [] h c = refl
spots_calm pages k (s ∷ ss) h c =
    let n : ℕ = calls_to pages k s in
    let spot : List Item → ItemSpot = λ xs. record { before = part_items pages k s.before; block = s.block; content = xs } in
    ap₂ (λ (xs : List Item) (m : ℕ). spot xs ∷ spots_with_calls pages m ss) (calm_items pages n s.text (own_calm s.block s.text h.0 c.0)) (past_calm pages k s h.0 c.0)
    ∙ ap (λ (rs : List ItemSpot). spot (page_items s.text) ∷ rs) (spots_calm pages n ss h.1 c.1)

behind_calm : (pages : Pages) (k : ℕ) (ss : List BlockSpot) (behind : List ℕ) → AreContents ss → CallNothing ss → items_past pages k ss behind ≡ items_behind pages k ss behind
behind_calm pages k [] behind h c = refl
behind_calm pages k (s ∷ ss) behind h c =
    ap (λ (m : ℕ). items_past pages m ss behind) (past_calm pages k s h.0 c.0) ∙ behind_calm pages (calls_to pages k s) ss behind h.1 c.1

pub among_calling : (pages : Pages) (ss : List BlockSpot) (behind : List ℕ) → AreAmongCalls pages ss behind → AreCallingBlocks pages ss behind
among_calling pages ss behind h = record {
  called = h.called;
  contents = contents_in pages ss h.contents h.calm;
  placed = subst (λ rs. ArePlaced rs (items_past pages 0 ss behind)) (sym (spots_calm pages 0 ss h.contents h.calm))
      (subst (ArePlaced (spots_among pages 0 ss)) (sym (behind_calm pages 0 ss behind h.contents h.calm)) h.placed);
}

-- A page with blocks anywhere is read by its parts, and where texts are typed in them, it is such a page again.
use Rattle.std.proofs.Common.{◌≡◌, ◌⊎◌, inl, inr, ℕ, Bool, Option, Some, None, List, [], ◌∷◌, length, refl, sym, subst}
use Rattle.std.specs.Str.{IsUtf8}
use Rattle.wt_span.specs.Items.{Item}
use Rattle.wt_expand.specs.PageItems.{page_items}
use Rattle.wt_typed_blocks.specs.Typed.{Takes}
use Rattle.wt_text_edit_laws.specs.BlockEdits.{typed_as}
use Rattle.wt_text_edit_laws.specs.BlockSpots.{BlockSpot, AsAWhole, IsRead, AreReadAfter, AreRead, SameRound, AreBlocks}
use Rattle.wt_text_edit_laws.specs.OwnNodes.{IsTypedSpot}
use Rattle.wt_text_edit_laws.specs.TextBetween.{AreEnded}
use Rattle.wt_text_edit_laws.specs.TextBlocks.{TextBlock, a_paragraph, a_heading, block_of, source_of, IsBlock, IsTypedIn, BeginsLine}
use Rattle.wt_text_edit_laws.specs.TypedHeadings.{EndsLine}
use Rattle.wt_text_edit_laws.proofs.Blocks.BlockReading.{HasFrame, content_frame}
use Rattle.wt_text_edit_laws.proofs.Blocks.BlockSpotFacts.{typed_paragraph, typed_heading}
use Rattle.wt_text_edit_laws.proofs.Blocks.Contents.{block_content, blocks_contents, over_new}
use Rattle.wt_text_edit_laws.proofs.Blocks.TypedAgain.{read_again}
use Rattle.wt_text_edit_laws.proofs.Blocks.TypedBraces.{AreTypedOver}
use Rattle.wt_called_edit_laws.specs.AnyBlocks.{open_behind_part, StaysText, LeadsInto, IsTextRead, IsSpotAt, past_break, BeginsAfter, EndsAfter, AreSpotsAfter, AreParts, with_text, with_texts}
use Rattle.wt_called_edit_laws.specs.OwnTexts.{AreTypings}
use Rattle.wt_called_edit_laws.proofs.Cells.Cells.{typed_stays_text}

-- ---- each block stands where a line begins and ends

begins_line : (last next : TextBlock) (bs : List Bool) (xs : List Item) → BeginsAfter last next bs xs → BeginsLine xs
begins_line last next bs [] h = absurd h
begins_line last next bs (x ∷ xs) h = h.0

ends_line : (last : TextBlock) (n : ℕ) (xs : List Item) → EndsAfter last n xs → EndsLine xs
ends_line a_paragraph n [] h = tt
ends_line a_paragraph n (y ∷ ys) h = h.0
ends_line (a_heading s) n xs h = h

is_read : (s : BlockSpot) → IsTextRead s → IsRead s
is_read s h = record { led = inl h.ended; before_utf8 = h.before_utf8; block = block_content s.block s.text h.block }

after_read : (last : TextBlock) (bs : List Bool) (ss : List BlockSpot) (behind : List ℕ) → AreSpotsAfter last bs ss behind → AreReadAfter ss behind
after_read last bs [] behind h = (h.0, h.1, ends_line last (length bs) (page_items behind) h.2)
after_read last bs (s ∷ ss) behind h = (
  is_read s h.1.0,
  begins_line last s.block bs (page_items s.before) h.0,
  after_read s.block (open_behind_part bs (past_break (page_items s.before))) ss behind h.2,
)

pub parts_read : (ss : List BlockSpot) (behind : List ℕ) → AreParts ss behind → AsAWhole ss behind → AreRead ss behind
parts_read [] behind h w = absurd h
parts_read (s ∷ ss) behind h w = (is_read s h.0.0, after_read s.block (open_behind_part [] (page_items s.before)) ss behind h.1, w)

blocks_after : (last : TextBlock) (bs : List Bool) (ss : List BlockSpot) (behind : List ℕ) → AreSpotsAfter last bs ss behind → AreBlocks ss
blocks_after last bs [] behind h = tt
blocks_after last bs (s ∷ ss) behind h =
    let r : IsTextRead s = h.1.0 in
    (r.block, blocks_after s.block (open_behind_part bs (past_break (page_items s.before))) ss behind h.2)

pub parts_blocks : (ss : List BlockSpot) (behind : List ℕ) → AreParts ss behind → AreBlocks ss
parts_blocks [] behind h = absurd h
parts_blocks (s ∷ ss) behind h =
    let r : IsTextRead s = h.0.0 in
    (r.block, blocks_after s.block (open_behind_part [] (page_items s.before)) ss behind h.1)

-- ---- with texts that were typed

abbrev OverText : BlockSpot → BlockSpot → Type 0
OverText s r = (r.text ≡ s.text) ⊎ IsTypedIn r.block r.text

typed_is_block : (k : TextBlock) (q : List ℕ) → IsTypedIn k q → IsBlock k q
typed_is_block a_paragraph q h = inl h
typed_is_block (a_heading s) q h = inl h

pub block_over : (k : TextBlock) (was now : List ℕ) → (now ≡ was) ⊎ IsTypedIn k now → IsBlock k was → IsBlock k now
block_over k was now (inl e) h = subst (λ q. IsBlock k q) (sym e) h
block_over k was now (inr t) h = typed_is_block k now t

pub stays_over : (k : TextBlock) (n : ℕ) (was now : List ℕ) → (now ≡ was) ⊎ IsTypedIn k now → StaysText k n was → StaysText k n now
stays_over k n was now (inl e) h = subst (λ q. StaysText k n q) (sym e) h
stays_over a_paragraph n was now (inr t) h = typed_stays_text n now t
stays_over (a_heading s) n was now (inr t) h = tt

read_over : (s r : BlockSpot) → r.before ≡ s.before → r.block ≡ s.block → OverText s r → IsTextRead s → IsTextRead r
read_over s r e k o h = record {
  ended = subst AreEnded (sym e) h.ended;
  before_utf8 = subst IsUtf8 (sym e) h.before_utf8;
  block = block_over r.block s.text r.text o (subst (λ j. IsBlock j s.text) (sym k) h.block);
}

spot_over : (bs : List Bool) (xs : List Item) (s r : BlockSpot) → r.before ≡ s.before → r.block ≡ s.block → OverText s r → IsSpotAt bs xs s → IsSpotAt bs xs r
spot_over bs xs s r e k o h =
    let n : ℕ = length (open_behind_part bs xs) in (
      read_over s r e k o h.0,
      subst (λ j. LeadsInto j bs xs) (sym k) h.1,
      stays_over r.block n s.text r.text o (subst (λ j. StaysText j n s.text) (sym k) h.2),
    )

by_front : (P : List ℕ → TextBlock → Type 0) (s r : BlockSpot) → r.before ≡ s.before → r.block ≡ s.block → P s.before s.block → P r.before r.block
by_front P s r e k h = subst (λ bs. P bs r.block) (sym e) (subst (λ j. P s.before j) (sym k) h)

after_over : (last : TextBlock) (bs : List Bool) (ss rs : List BlockSpot) (behind : List ℕ) → SameRound ss rs → AreTypedOver ss rs
    → AreSpotsAfter last bs ss behind → AreSpotsAfter last bs rs behind
after_over last bs [] [] behind e o h = h
after_over last bs [] (r ∷ rs) behind e o h = absurd e
after_over last bs (s ∷ ss) [] behind e o h = absurd e
after_over last bs (s ∷ ss) (r ∷ rs) behind e o h = (
  by_front (λ cs k. BeginsAfter last k bs (page_items cs)) s r e.0 e.1 h.0,
  by_front (λ cs k. IsSpotAt bs (past_break (page_items cs)) r) s r e.0 e.1 (spot_over bs (past_break (page_items s.before)) s r e.0 e.1 o.0 h.1),
  by_front (λ cs k. AreSpotsAfter k (open_behind_part bs (past_break (page_items cs))) rs behind) s r e.0 e.1
      (after_over s.block (open_behind_part bs (past_break (page_items s.before))) ss rs behind e.2 o.1 h.2),
)

pub parts_over : (ss rs : List BlockSpot) (behind : List ℕ) → AreParts ss behind → SameRound ss rs → AreTypedOver ss rs → AreParts rs behind
parts_over [] rs behind h e o = absurd h
parts_over (s ∷ ss) [] behind h e o = absurd e
parts_over (s ∷ ss) (r ∷ rs) behind h e o = (
  by_front (λ cs k. IsSpotAt [] (page_items cs) r) s r e.0 e.1 (spot_over [] (page_items s.before) s r e.0 e.1 o.0 h.0),
  by_front (λ cs k. AreSpotsAfter k (open_behind_part [] (page_items cs)) rs behind) s r e.0 e.1
      (after_over s.block (open_behind_part [] (page_items s.before)) ss rs behind e.2 o.1 h.1),
)

whole_of : (ss : List BlockSpot) (behind : List ℕ) → AreRead ss behind → AsAWhole ss behind
whole_of [] behind h = absurd h
whole_of (s ∷ ss) behind h = h.2

pub whole_over : (ss rs : List BlockSpot) (behind : List ℕ) → AreParts ss behind → AsAWhole ss behind → SameRound ss rs → AreTypedOver ss rs → AsAWhole rs behind
whole_over ss rs behind h w e o =
    whole_of rs behind
    (read_again ss rs behind (parts_read ss behind h w) e (blocks_contents rs (parts_blocks rs behind (parts_over ss rs behind h e o))) (over_new ss rs o))

-- ---- which are these

-- where this is the block's source
pub typed_in : (k : TextBlock) (q text : List ℕ) → HasFrame k → IsUtf8 text → Takes (block_of k) text → IsTypedIn k (typed_as (block_of k) q text)
typed_in a_paragraph q text f u t = typed_paragraph q text u
typed_in (a_heading s) q text f u t = typed_heading s q text u t f

over_text : (s : BlockSpot) (o : Option (List ℕ)) → IsBlock s.block s.text → IsTypedSpot s.block o → OverText s (with_text s o)
over_text s None h t = inl refl
over_text s (Some text) h t =
    inr (typed_in s.block (source_of s.block s.text) text (content_frame s.block s.text (block_content s.block s.text h)) t.0 t.1)

same_front : (s : BlockSpot) (o : Option (List ℕ)) → ((with_text s o).before ≡ s.before) × ((with_text s o).block ≡ s.block)
same_front s None = (refl, refl)
same_front s (Some text) = (refl, refl)

pub typed_round : (ss : List BlockSpot) (os : List (Option (List ℕ))) → AreTypings ss os → SameRound ss (with_texts ss os)
typed_round [] [] t = tt
typed_round [] (o ∷ os) t = absurd t
typed_round (s ∷ ss) [] t = absurd t
typed_round (s ∷ ss) (o ∷ os) t = let f = same_front s o in (f.0, f.1, typed_round ss os t.1)

pub typed_over : (ss : List BlockSpot) (os : List (Option (List ℕ))) → AreBlocks ss → AreTypings ss os → AreTypedOver ss (with_texts ss os)
typed_over [] [] h t = tt
typed_over [] (o ∷ os) h t = absurd t
typed_over (s ∷ ss) [] h t = absurd t
typed_over (s ∷ ss) (o ∷ os) h t = (over_text s o h.0 t.0, typed_over ss os h.1 t.1)

-- Pages with typed paragraphs and headings: they are UTF-8, no tag is open where such a block begins, and with other typed texts they are such
-- pages again.
use Rattle.std.proofs.Common.{◌≡◌, ◌⊎◌, inl, inr, ℕ, false, List, [], ◌∷◌, ◌++◌, refl, sym, subst}
use Rattle.std.specs.Str.{IsUtf8}
use Rattle.std.proofs.lemmas.Str.{IsUtf8-append, IsUtf8-nil}
use Rattle.wt_isolation.specs.OpenTags.{ends_open}
use Rattle.wt_expand.specs.PageItems.{page_items}
use Rattle.wt_text_edit_laws.specs.TextBetween.{AreEnded}
use Rattle.wt_text_edit_laws.proofs.Prose.InFront.{reads_nothing, read_items}
use Rattle.wt_text_edit_laws.proofs.Paragraphs.ClearLines.{clear_first, clear_line}
use Rattle.wt_text_edit_laws.specs.TypedHeadings.{equals, opening, closing}
use Rattle.wt_text_edit_laws.specs.TextBlocks.{TextBlock, a_paragraph, a_heading, source_of, IsBlock, BeginsLine, BeginsBetween}
use Rattle.wt_text_edit_laws.specs.BlockSpots.{BlockSpot, spots_source, IsBlockSpot, AreFurtherBlocks, AsAWhole, AreBlockSpots, IsRead, AreReadAfter, AreRead, SameRound, AreBlocks, AreContents}
use Rattle.wt_text_edit_laws.specs.Contents.{IsContent}
use Rattle.wt_text_edit_laws.specs.ReadContents.{BeginsUnclosed, IsReadContent}
use Rattle.wt_text_edit_laws.specs.SignParts.{AreSigned, IsOnSign, IsLedTo}
use Rattle.wt_text_edit_laws.proofs.Blocks.SignedParts.{signed_clear, signed_first}
use Rattle.wt_text_edit_laws.proofs.Blocks.BlockReading.{AreQuiet, run_quiet, blanks_quiet, opening_quiet, each_quiet, HasFrame, content_frame, read_frame, begins_here}
use Rattle.wt_text_edit_laws.proofs.Blocks.BlocksRead.{spots_read}

-- ---- UTF-8

equals_utf8 : IsUtf8 (61 ∷ [])
unfolding lib.Utf8.encode
equals_utf8 = (61 ∷ [], (refl, refl))

space_utf8 : IsUtf8 (32 ∷ [])
unfolding lib.Utf8.encode
space_utf8 = (32 ∷ [], (refl, refl))

tab_utf8 : IsUtf8 (9 ∷ [])
unfolding lib.Utf8.encode
tab_utf8 = (9 ∷ [], (refl, refl))

quiet_utf8 : (bs : List ℕ) → AreQuiet bs → IsUtf8 bs
quiet_utf8 [] h = IsUtf8-nil
quiet_utf8 (b ∷ bs) h =
    IsUtf8-append (b ∷ []) bs (each_quiet (λ (c : ℕ). IsUtf8 (c ∷ [])) equals_utf8 space_utf8 tab_utf8 b h.0) (quiet_utf8 bs h.1)

pub framed_utf8 : (k : TextBlock) (q : List ℕ) → HasFrame k → IsUtf8 q → IsUtf8 (source_of k q)
framed_utf8 a_paragraph q f h = h
framed_utf8 (a_heading s) q f h =
    let end : IsUtf8 (equals s.level ++ s.rest) = IsUtf8-append (equals s.level) s.rest (quiet_utf8 (equals s.level) (run_quiet s.level)) f.utf8 in
    IsUtf8-append (opening s) (q ++ closing s) (quiet_utf8 (opening s) (opening_quiet s f.sides))
    (IsUtf8-append q (closing s) h
    (IsUtf8-append s.trail (equals s.level ++ s.rest) (quiet_utf8 s.trail (blanks_quiet s.trail f.sides.trail)) end))

pub read_utf8_of : (k : TextBlock) (q : List ℕ) → IsReadContent k q → IsUtf8 (source_of k q)
read_utf8_of k q h = framed_utf8 k q (read_frame k q h) h.utf8

pub content_utf8 : (k : TextBlock) (q : List ℕ) → IsContent k q → IsUtf8 (source_of k q)
content_utf8 k q h = framed_utf8 k q (content_frame k q h) h.utf8

spot_utf8 : (s : BlockSpot) (rest : List ℕ) → IsRead s → IsUtf8 rest → IsUtf8 (s.before ++ (source_of s.block s.text ++ rest))
spot_utf8 s rest h u =
    IsUtf8-append s.before (source_of s.block s.text ++ rest) h.before_utf8
    (IsUtf8-append (source_of s.block s.text) rest (content_utf8 s.block s.text h.block) u)

further_utf8 : (ss : List BlockSpot) (behind : List ℕ) → AreReadAfter ss behind → IsUtf8 (spots_source ss behind)
further_utf8 [] behind h = h.1
further_utf8 (s ∷ ss) behind h = spot_utf8 s (spots_source ss behind) h.0 (further_utf8 ss behind h.2)

pub read_utf8 : (ss : List BlockSpot) (behind : List ℕ) → AreRead ss behind → IsUtf8 (spots_source ss behind)
read_utf8 [] behind h = absurd h
read_utf8 (s ∷ ss) behind h = spot_utf8 s (spots_source ss behind) h.0 (further_utf8 ss behind h.1)

pub spots_utf8 : (ss : List BlockSpot) (behind : List ℕ) → AreBlockSpots ss behind → IsUtf8 (spots_source ss behind)
spots_utf8 ss behind h = read_utf8 ss behind (spots_read ss behind h)

-- ---- no tag is open before a block

nothing_between : BeginsLine (page_items []) → ⊥
nothing_between h = absurd (subst BeginsLine (read_items [] [] reads_nothing) h)

pub clear_between : (front bs : List ℕ) (k : TextBlock) (q : List ℕ) → IsLedTo bs k q → BeginsLine (page_items bs) → ends_open (front ++ bs) ≡ false
clear_between front [] k q l h = absurd (nothing_between h)
clear_between front (b ∷ bs) k q (inl l) h = clear_line front b bs l
clear_between front (b ∷ bs) k q (inr l) h = signed_clear front b bs l.0 (begins_here (b ∷ bs) h)

pub clear_start : (bs : List ℕ) (k : TextBlock) (q : List ℕ) → IsLedTo bs k q → ends_open bs ≡ false
clear_start bs k q (inl l) = clear_first bs l
clear_start bs k q (inr l) = signed_first bs l.0

-- behind this front
abbrev pub AreClear : List ℕ → List BlockSpot → Type 0
AreClear front [] = Unit {0}
AreClear front (s ∷ ss) = (ends_open (front ++ s.before) ≡ false) × AreClear ((front ++ s.before) ++ source_of s.block s.text) ss

further_clear : (front : List ℕ) (ss : List BlockSpot) (behind : List ℕ) → AreReadAfter ss behind → AreClear front ss
further_clear front [] behind h = tt
further_clear front (s ∷ ss) behind h =
    (clear_between front s.before s.block s.text h.0.led h.1, further_clear ((front ++ s.before) ++ source_of s.block s.text) ss behind h.2)

pub read_clear : (ss : List BlockSpot) (behind : List ℕ) → AreRead ss behind → AreClear [] ss
read_clear [] behind h = absurd h
read_clear (s ∷ ss) behind h = (clear_start s.before s.block s.text h.0.led, further_clear (s.before ++ source_of s.block s.text) ss behind h.1)

pub spots_clear : (ss : List BlockSpot) (behind : List ℕ) → AreBlockSpots ss behind → AreClear [] ss
spots_clear ss behind h = read_clear ss behind (spots_read ss behind h)

-- ---- with other texts

-- each text is the one that was there, or begins with no `}`
abbrev pub AreUnclosedOver : List BlockSpot → List BlockSpot → Type 0
AreUnclosedOver [] rs = Unit {0}
AreUnclosedOver (s ∷ ss) [] = Unit {0}
AreUnclosedOver (s ∷ ss) (r ∷ rs) = ((r.text ≡ s.text) ⊎ BeginsUnclosed r.text) × AreUnclosedOver ss rs

pub sign_again : (k : TextBlock) (was now : List ℕ) → (now ≡ was) ⊎ BeginsUnclosed now → IsOnSign k was → IsOnSign k now
sign_again k was now (inl e) h = subst (IsOnSign k) (sym e) h
sign_again a_paragraph was now (inr u) h = u
sign_again (a_heading s) was now (inr u) h = h

pub led_again : (s r : BlockSpot) → IsLedTo s.before s.block s.text → r.before ≡ s.before → r.block ≡ s.block → (r.text ≡ s.text) ⊎ BeginsUnclosed r.text
    → IsLedTo r.before r.block r.text
led_again s r (inl l) e k o = inl (subst AreEnded (sym e) l)
led_again s r (inr l) e k o = inr (subst AreSigned (sym e) l.0, subst (λ (j : TextBlock). IsOnSign j r.text) (sym k) (sign_again s.block s.text r.text o l.1))

pub spot_read_again : (s r : BlockSpot) → IsRead s → r.before ≡ s.before → r.block ≡ s.block → (r.text ≡ s.text) ⊎ BeginsUnclosed r.text → IsContent r.block r.text → IsRead r
spot_read_again s r h e k o t = record { led = led_again s r h.led e k o; before_utf8 = subst IsUtf8 (sym e) h.before_utf8; block = t }

pub after_read_again : (ss rs : List BlockSpot) (behind : List ℕ) → AreReadAfter ss behind → SameRound ss rs → AreUnclosedOver ss rs → AreContents rs → AreReadAfter rs behind
after_read_again [] [] behind h e o t = h
after_read_again [] (r ∷ rs) behind h e o t = absurd e
after_read_again (s ∷ ss) [] behind h e o t = absurd e
after_read_again (s ∷ ss) (r ∷ rs) behind h e o t = (
  spot_read_again s r h.0 e.0 e.1 o.0 t.0,
  subst (λ bs. BeginsLine (page_items bs)) (sym e.0) h.1,
  after_read_again ss rs behind h.2 e.2 o.1 t.1,
)

pub parts_read_again : (s r : BlockSpot) (ss rs : List BlockSpot) (behind : List ℕ) → AreRead (s ∷ ss) behind → SameRound (s ∷ ss) (r ∷ rs) → AreUnclosedOver (s ∷ ss) (r ∷ rs)
    → AreContents (r ∷ rs) → IsRead r × AreReadAfter rs behind
parts_read_again s r ss rs behind h e o t = (spot_read_again s r h.0 e.0 e.1 o.0 t.0, after_read_again ss rs behind h.1 e.2 o.1 t.1)

abbrev same_spot : List ℕ → TextBlock → List ℕ → BlockSpot
same_spot bs k q = record { before = bs; block = k; text = q }

spot_again : (s r : BlockSpot) → IsBlockSpot s → r.before ≡ s.before → r.block ≡ s.block → IsBlock r.block r.text → IsBlockSpot r
spot_again s r h e k t =
    let own : IsBlock s.block r.text = subst (λ k. IsBlock k r.text) k t in
    let so : IsBlockSpot (same_spot s.before s.block r.text) = record {
      ended = h.ended;
      before_utf8 = h.before_utf8;
      ungrouped = h.ungrouped;
      leads = h.leads;
      block = own;
    } in
    subst (λ bs. IsBlockSpot (same_spot bs r.block r.text)) (sym e) (subst (λ k. IsBlockSpot (same_spot s.before k r.text)) (sym k) so)

further_again : (last : TextBlock) (ss rs : List BlockSpot) (behind : List ℕ) → AreFurtherBlocks last ss behind → SameRound ss rs → AreBlocks rs
    → AreFurtherBlocks last rs behind
further_again last [] [] behind h e t = h
further_again last [] (r ∷ rs) behind h e t = absurd e
further_again last (s ∷ ss) [] behind h e t = absurd e
further_again last (s ∷ ss) (r ∷ rs) behind h e t = (
  spot_again s r h.0 e.0 e.1 t.0,
  subst (λ bs. BeginsBetween last r.block (page_items bs)) (sym e.0) (subst (λ k. BeginsBetween last k (page_items s.before)) (sym e.1) h.1),
  subst (λ k. AreFurtherBlocks k rs behind) (sym e.1) (further_again s.block ss rs behind h.2 e.2 t.1),
)

pub parts_again : (s r : BlockSpot) (ss rs : List BlockSpot) (behind : List ℕ) → AreBlockSpots (s ∷ ss) behind → SameRound (s ∷ ss) (r ∷ rs) → AreBlocks (r ∷ rs)
    → IsBlockSpot r × AreFurtherBlocks r.block rs behind
parts_again s r ss rs behind h e t =
    (spot_again s r h.0 e.0 e.1 t.0, subst (λ k. AreFurtherBlocks k rs behind) (sym e.1) (further_again s.block ss rs behind h.1 e.2 t.1))

pub spots_again : (ss rs : List BlockSpot) (behind : List ℕ) → AreBlockSpots ss behind → SameRound ss rs → AreBlocks rs
    → AsAWhole rs behind → AreBlockSpots rs behind
spots_again [] rs behind h e t w = absurd h
spots_again (s ∷ ss) [] behind h e t w = absurd e
spots_again (s ∷ ss) (r ∷ rs) behind h e t w = let p = parts_again s r ss rs behind h e t in (p.0, p.1, w)

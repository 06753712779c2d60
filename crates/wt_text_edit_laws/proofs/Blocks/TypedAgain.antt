-- A new content closes no tag that the old one didn't close, so a tag that nothing closes stays characters, and the page is of the class again.
use Rattle.std.proofs.Common.{arith, ◌≡◌, ◌⊎◌, inl, inr, ℕ, false, List, [], ◌∷◌, ◌++◌, refl, sym, ap, ◌∙◌, subst, append_assoc}
use Rattle.wt_text_edit_laws.specs.TextBetween.{AreEnded, HasEndsBefore, LineEnds}
use Rattle.wt_text_edit_laws.proofs.Between.ClosingTags.{Unclosed, ClosesNothing, ClosesNoMore, unclosed_byte, unclosed_rest, unclosed_behind, unclosed_other, not_less, ends_other}
use Rattle.wt_text_edit_laws.proofs.Paragraphs.Texts.{EndsHere}
use Rattle.wt_text_edit_laws.specs.TypedHeadings.{Sides, opening, closing}
use Rattle.wt_text_edit_laws.specs.TextBlocks.{TextBlock, a_paragraph, a_heading, source_of, IsFrame}
use Rattle.wt_text_edit_laws.specs.Contents.{IsNewContent, TextEnds}
use Rattle.wt_text_edit_laws.specs.ReadContents.{BeginsUnclosed, IsReadAnew}
use Rattle.wt_text_edit_laws.specs.SignParts.{IsLedTo}
use Rattle.wt_text_edit_laws.specs.BlockSpots.{BlockSpot, spots_source, EndBeforeBlocks, AreBlockSpots, IsReadSpot, AreReadSpots, AreRead, SameRound, AreBlocks, AreContents}
use Rattle.wt_text_edit_laws.proofs.Blocks.BlockReading.{AreQuiet, opening_quiet, each_quiet, read_anew, read_frame, read_spot, read_spots, BeginsHere, begins_here, further_ends}
use Rattle.wt_text_edit_laws.proofs.Blocks.BlocksRead.{spots_read}
use Rattle.wt_text_edit_laws.proofs.Blocks.Contents.{blocks_contents, over_new}
use Rattle.wt_text_edit_laws.proofs.Blocks.BlocksAgain.{AreUnclosedOver, parts_read_again, parts_again}
use Rattle.wt_text_edit_laws.proofs.Blocks.SignedParts.{signed_unclosed, signed_ends}
use Rattle.wt_text_edit_laws.proofs.Blocks.TypedBraces.{AreTypedOver, AreNewOver, still_calm}

-- ---- the contents of the new page are those of the old one, or in their places

abbrev pub AreReadOver : List BlockSpot → List BlockSpot → Type 0
AreReadOver [] rs = Unit {0}
AreReadOver (s ∷ ss) [] = Unit {0}
AreReadOver (s ∷ ss) (r ∷ rs) = ((r.text ≡ s.text) ⊎ IsReadAnew r.block s.text r.text) × AreReadOver ss rs

new_unclosed : (ss rs : List BlockSpot) → AreNewOver ss rs → AreUnclosedOver ss rs
new_unclosed [] rs o = tt
new_unclosed (s ∷ ss) [] o = tt
new_unclosed (s ∷ ss) (r ∷ rs) o = (one o.0, new_unclosed ss rs o.1)
  where
    one : (r.text ≡ s.text) ⊎ IsNewContent r.block s.text r.text → (r.text ≡ s.text) ⊎ BeginsUnclosed r.text
    one (inl e) = inl e
    one (inr n) = inr n.firm.unclosed

pub read_over : (ss rs : List BlockSpot) → AreNewOver ss rs → AreReadOver ss rs
read_over [] rs o = tt
read_over (s ∷ ss) [] o = tt
read_over (s ∷ ss) (r ∷ rs) o = (one o.0, read_over ss rs o.1)
  where
    one : (r.text ≡ s.text) ⊎ IsNewContent r.block s.text r.text → (r.text ≡ s.text) ⊎ IsReadAnew r.block s.text r.text
    one (inl e) = inl e
    one (inr n) = inr (read_anew r.block s.text r.text n)

-- ---- what follows a block, in the old page and in the new one

-- the page ends in both, or a line break stands there
abbrev BothEnd : List ℕ → List ℕ → Type 0
BothEnd [] [] = Unit {0}
BothEnd [] (c ∷ cs) = ⊥
BothEnd (b ∷ bs) [] = ⊥
BothEnd (b ∷ bs) (c ∷ cs) = (b ≡ 10) × (c ≡ 10)

same_end : (bs : List ℕ) → EndsHere bs → BothEnd bs bs
same_end [] e = tt
same_end (b ∷ bs) e = (e, e)

both_begin : (bs cs us vs : List ℕ) → BeginsHere bs → BeginsHere cs → BothEnd (bs ++ us) (cs ++ vs)
both_begin [] cs us vs h g = absurd h
both_begin (b ∷ bs) [] us vs h g = absurd g
both_begin (b ∷ bs) (c ∷ cs) us vs h g = (h, g)

both_end : (ss rs : List BlockSpot) (behind : List ℕ) → AreReadSpots ss behind → AreReadSpots rs behind → SameRound ss rs
    → BothEnd (spots_source ss behind) (spots_source rs behind)
both_end [] [] behind h g e = same_end behind (further_ends [] behind h)
both_end [] (r ∷ rs) behind h g e = absurd e
both_end (s ∷ ss) [] behind h g e = absurd e
both_end (s ∷ ss) (r ∷ rs) behind h g e =
    both_begin s.before r.before (source_of s.block s.text ++ spots_source ss behind) (source_of r.block r.text ++ spots_source rs behind)
    (begins_here s.before h.1) (begins_here r.before g.1)

-- ---- a text that stays

line_ended : (q : List ℕ) → AreEnded (q ++ 10 ∷ [])
line_ended [] = refl
line_ended (b ∷ []) = refl
line_ended (b ∷ c ∷ q) = line_ended (c ∷ q)

line_unclosed : (name q us vs : List ℕ) → (Unclosed name (10 ∷ us) → Unclosed name (10 ∷ vs)) → Unclosed name (q ++ 10 ∷ us) → Unclosed name (q ++ 10 ∷ vs)
line_unclosed name q us vs f h =
    let P : List ℕ → Type 0 = λ bs. Unclosed name bs in
    let more : Unclosed name vs = unclosed_rest name 10 vs (f (unclosed_behind name q (10 ∷ us) h)) in
    subst P (append_assoc q (10 ∷ []) vs)
    (unclosed_other name (q ++ 10 ∷ []) us vs (line_ended q) (subst P (sym (append_assoc q (10 ∷ []) us)) h) more)

kept_unclosed : (name q us vs : List ℕ) → BothEnd us vs → (Unclosed name us → Unclosed name vs) → Unclosed name (q ++ us) → Unclosed name (q ++ vs)
kept_unclosed name q [] [] e f h = h
kept_unclosed name q [] (c ∷ vs) e f h = absurd e
kept_unclosed name q (b ∷ us) [] e f h = absurd e
kept_unclosed name q (b ∷ us) (c ∷ vs) e f h =
    let P : ℕ → ℕ → Type 0 = λ x y. (Unclosed name (x ∷ us) → Unclosed name (y ∷ vs)) → Unclosed name (q ++ x ∷ us) → Unclosed name (q ++ y ∷ vs) in
    subst (λ (x : ℕ). P x c) (sym e.0) (subst (λ (y : ℕ). P 10 y) (sym e.1) (λ g k. line_unclosed name q us vs g k)) f h

-- ---- a new one in its place

quiet_unclosed : (name q rest : List ℕ) → AreQuiet q → Unclosed name rest → Unclosed name (q ++ rest)
quiet_unclosed name [] rest h g = g
quiet_unclosed name (b ∷ q) rest h g =
    unclosed_byte name b (q ++ rest)
    (each_quiet (λ (c : ℕ). ClosesNothing (c ∷ (q ++ rest))) (not_less 61 (q ++ rest) (omega arith)) (not_less 32 (q ++ rest) (omega arith)) (not_less 9 (q ++ rest) (omega arith)) b h.0)
    (quiet_unclosed name q rest h.1 g)

line_split : (s : Sides) (q rest : List ℕ) → source_of (a_heading s) q ++ rest ≡ opening s ++ (q ++ (closing s ++ rest))
line_split s q rest = append_assoc (opening s) (q ++ closing s) rest ∙ ap (λ (bs : List ℕ). opening s ++ bs) (append_assoc q (closing s) rest)

heading_unclosed : (s : Sides) (name was now us vs : List ℕ) → IsReadAnew (a_heading s) was now → BothEnd us vs → (Unclosed name us → Unclosed name vs)
    → Unclosed name (source_of (a_heading s) was ++ us) → Unclosed name (source_of (a_heading s) now ++ vs)
heading_unclosed s name was now us vs n e f h =
    let P : List ℕ → Type 0 = λ bs. Unclosed name bs in
    let frame : IsFrame s = read_frame (a_heading s) now n.read in
    let old : Unclosed name (opening s ++ (was ++ (closing s ++ us))) = subst P (line_split s was us) h in
    let inside : Unclosed name (was ++ (closing s ++ us)) = unclosed_behind name (opening s) (was ++ (closing s ++ us)) old in
    let end : Unclosed name (closing s ++ us) = unclosed_behind name was (closing s ++ us) inside in
    let new : Unclosed name (closing s ++ vs) = kept_unclosed name (closing s) us vs e f end in
    subst P (sym (line_split s now vs))
    (quiet_unclosed name (opening s) (now ++ (closing s ++ vs)) (opening_quiet s frame.sides) (n.closes name (closing s ++ us) (closing s ++ vs) inside new))

-- ---- any

text_unclosed : (k : TextBlock) (name was now us vs : List ℕ) → (now ≡ was) ⊎ IsReadAnew k was now → BothEnd us vs → (Unclosed name us → Unclosed name vs)
    → Unclosed name (source_of k was ++ us) → Unclosed name (source_of k now ++ vs)
text_unclosed k name was now us vs (inl is) e f h = subst (λ q. Unclosed name (source_of k q ++ vs)) (sym is) (kept_unclosed name (source_of k was) us vs e f h)
text_unclosed a_paragraph name was now us vs (inr n) e f h = n.closes name us vs h (f (unclosed_behind name was us h))
text_unclosed (a_heading s) name was now us vs (inr n) e f h = heading_unclosed s name was now us vs n e f h

-- what a page has from a block on
abbrev from_block : BlockSpot → List BlockSpot → List ℕ → List ℕ
from_block s ss behind = source_of s.block s.text ++ spots_source ss behind

block_no_more : (s r : BlockSpot) (ss rs : List BlockSpot) (behind : List ℕ) → AreReadSpots ss behind → AreReadSpots rs behind
    → SameRound (s ∷ ss) (r ∷ rs) → (r.text ≡ s.text) ⊎ IsReadAnew r.block s.text r.text → ClosesNoMore (spots_source ss behind) (spots_source rs behind)
    → ClosesNoMore (from_block s ss behind) (from_block r rs behind)
block_no_more s r ss rs behind f k e o c = λ name u.
    text_unclosed r.block name s.text r.text (spots_source ss behind) (spots_source rs behind) o (both_end ss rs behind f k e.2) (c name)
    (subst (λ b. Unclosed name (source_of b s.text ++ spots_source ss behind)) (sym e.1) u)

led_other : (name bs : List ℕ) (k : TextBlock) (q rest other : List ℕ) → IsLedTo bs k q → Unclosed name (bs ++ rest) → Unclosed name other → Unclosed name (bs ++ other)
led_other name bs k q rest other (inl l) u g = unclosed_other name bs rest other l u g
led_other name bs k q rest other (inr l) u g = signed_unclosed name bs rest other l.0 u g

led_ends : (bs : List ℕ) (k : TextBlock) (q rest other : List ℕ) → IsLedTo bs k q → ClosesNoMore rest other → HasEndsBefore rest bs → HasEndsBefore other bs
led_ends bs k q rest other (inl l) c e = ends_other rest other false 0 bs l c e
led_ends bs k q rest other (inr l) c e = signed_ends rest other bs l.0 c e

spot_no_more : (s r : BlockSpot) (ss rs : List BlockSpot) (behind : List ℕ) → IsReadSpot s → r.before ≡ s.before
    → ClosesNoMore (from_block s ss behind) (from_block r rs behind) → ClosesNoMore (spots_source (s ∷ ss) behind) (spots_source (r ∷ rs) behind)
spot_no_more s r ss rs behind h e c = λ name u.
    let block : Unclosed name (from_block r rs behind) = c name (unclosed_behind name s.before (from_block s ss behind) u) in
    subst (λ bs. Unclosed name (bs ++ from_block r rs behind)) (sym e)
    (led_other name s.before s.block s.text (from_block s ss behind) (from_block r rs behind) h.led u block)

further_no_more : (ss rs : List BlockSpot) (behind : List ℕ) → AreReadSpots ss behind → AreReadSpots rs behind
    → SameRound ss rs → AreReadOver ss rs → ClosesNoMore (spots_source ss behind) (spots_source rs behind)
further_no_more [] [] behind f k e o = λ name u. u
further_no_more [] (r ∷ rs) behind f k e o = absurd e
further_no_more (s ∷ ss) [] behind f k e o = absurd e
further_no_more (s ∷ ss) (r ∷ rs) behind f k e o =
    spot_no_more s r ss rs behind f.0 e.0
    (block_no_more s r ss rs behind f.2 k.2 e o.0 (further_no_more ss rs behind f.2 k.2 e.2 o.1))

-- ---- what begins in a text

line_still_ends : (q us vs : List ℕ) → BothEnd us vs → ClosesNoMore us vs → LineEnds q us → LineEnds q vs
line_still_ends q [] [] e c l = tt
line_still_ends q [] (y ∷ vs) e c l = absurd e
line_still_ends q (x ∷ us) [] e c l = absurd e
line_still_ends q (x ∷ us) (y ∷ vs) e c l =
    let P : ℕ → ℕ → Type 0 = λ a b. ClosesNoMore (a ∷ us) (b ∷ vs) → HasEndsBefore us (q ++ a ∷ []) → HasEndsBefore vs (q ++ b ∷ []) in
    subst (λ (a : ℕ). P a y) (sym e.0) (subst (λ (b : ℕ). P 10 b) (sym e.1)
    (λ g k. ends_other us vs false 0 (q ++ 10 ∷ []) (line_ended q)
    (λ name u. unclosed_rest name 10 vs (g name (unclosed_byte name 10 us (not_less 10 us (omega arith)) u))) k)) c l

kept_still_ends : (k : TextBlock) (q us vs : List ℕ) → BothEnd us vs → ClosesNoMore us vs → TextEnds k q us → TextEnds k q vs
kept_still_ends k q us vs e c (inl t) = inl t
kept_still_ends k q us vs e c (inr l) = inr (line_still_ends (source_of k q) us vs e c l)

text_still_ends : (k : TextBlock) (was now us vs : List ℕ) → (now ≡ was) ⊎ IsReadAnew k was now → BothEnd us vs → ClosesNoMore us vs → TextEnds k was us → TextEnds k now vs
text_still_ends k was now us vs (inl is) e c l = subst (λ q. TextEnds k q vs) (sym is) (kept_still_ends k was us vs e c l)
text_still_ends k was now us vs (inr n) e c l = inl n.firm

-- ---- the page

pub spot_still_ends : (s r : BlockSpot) (ss rs : List BlockSpot) (behind : List ℕ) → IsReadSpot s → AreReadSpots ss behind
    → AreReadSpots rs behind → SameRound (s ∷ ss) (r ∷ rs) → AreReadOver (s ∷ ss) (r ∷ rs) → EndBeforeBlocks (s ∷ ss) behind
    → EndBeforeBlocks rs behind → EndBeforeBlocks (r ∷ rs) behind
spot_still_ends s r ss rs behind h f k e o b rest =
    let c : ClosesNoMore (spots_source ss behind) (spots_source rs behind) = further_no_more ss rs behind f k e.2 o.1 in (
      subst (λ bs. HasEndsBefore (from_block r rs behind) bs) (sym e.0)
          (led_ends s.before s.block s.text (from_block s ss behind) (from_block r rs behind) h.led (block_no_more s r ss rs behind f k e o.0 c) b.0),
      text_still_ends r.block s.text r.text (spots_source ss behind) (spots_source rs behind) o.0 (both_end ss rs behind f k e.2) c
          (subst (λ b. TextEnds b s.text (spots_source ss behind)) (sym e.1) b.1),
      rest,
    )

pub further_still_end : (ss rs : List BlockSpot) (behind : List ℕ) → AreReadSpots ss behind → AreReadSpots rs behind
    → SameRound ss rs → AreReadOver ss rs → EndBeforeBlocks ss behind → EndBeforeBlocks rs behind
further_still_end [] [] behind f k e o b = tt
further_still_end [] (r ∷ rs) behind f k e o b = absurd e
further_still_end (s ∷ ss) [] behind f k e o b = absurd e
further_still_end (s ∷ ss) (r ∷ rs) behind f k e o b =
    spot_still_ends s r ss rs behind f.0 f.2 k.2 e o b (further_still_end ss rs behind f.2 k.2 e.2 o.1 b.2)

pub read_again : (ss rs : List BlockSpot) (behind : List ℕ) → AreRead ss behind → SameRound ss rs → AreContents rs → AreNewOver ss rs → AreRead rs behind
read_again [] rs behind h e t o = absurd h
read_again (s ∷ ss) [] behind h e t o = absurd e
read_again (s ∷ ss) (r ∷ rs) behind h e t o =
    let p = parts_read_again s r ss rs behind h e (new_unclosed (s ∷ ss) (r ∷ rs) o) t in
    let was : AreReadSpots ss behind = read_spots ss behind h.1 in
    let now : AreReadSpots rs behind = read_spots rs behind p.1 in
    let over : AreReadOver (s ∷ ss) (r ∷ rs) = read_over (s ∷ ss) (r ∷ rs) o in
    let b : EndBeforeBlocks (r ∷ rs) behind =
    spot_still_ends s r ss rs behind (read_spot s h.0) was now e over h.2.end_before (further_still_end ss rs behind was now e.2 over.1 h.2.end_before.2) in
    (p.0, p.1, record { calls_nothing = still_calm s r ss rs behind h p.0 p.1 b e o; end_before = b })

pub typed_again : (ss rs : List BlockSpot) (behind : List ℕ) → AreBlockSpots ss behind → SameRound ss rs → AreBlocks rs → AreTypedOver ss rs
    → AreBlockSpots rs behind
typed_again [] rs behind h e t o = absurd h
typed_again (s ∷ ss) [] behind h e t o = absurd e
typed_again (s ∷ ss) (r ∷ rs) behind h e t o =
    let p = parts_again s r ss rs behind h e t in
    let whole = read_again (s ∷ ss) (r ∷ rs) behind (spots_read (s ∷ ss) behind h) e (blocks_contents (r ∷ rs) t) (over_new (s ∷ ss) (r ∷ rs) o) in
    (p.0, p.1, whole.2)

-- What a page has before each place of its meaning, by what a walk over its items finds: the bytes at which the blocks are.
use Rattle.std.proofs.Common.{arith, ◌≡◌, ◌⊎◌, inl, inr, ℕ, ◌+◌, Option, Some, None, List, [], ◌∷◌, ◌++◌, Bool, true, false, length, refl, sym, ap, ap₂, ◌∙◌, subst, cond, append-nil, append_assoc, length-append}
use Rattle.wt_span.specs.Cuts.{text_by}
use Rattle.wt_span.specs.Items.{Item, source, call_of}
use Rattle.wt_span.specs.Origins.{OuterCall}
use Rattle.wt_inline.specs.ItemTree.{ItemTree, tree_items}
use Rattle.wt_annotated.specs.Seams.{last_of, first_of, parted, text_from}
use Rattle.wt_annotated.specs.Walked.{clean_at}
use Rattle.wt_annotated.proofs.Seams.{text_append_from, first_append, last_append}
use Rattle.wt_part_laws.specs.Frames.{Frame, place, whole, around, Frames, no_frames, more_frames, tree_at, places_in, all_places}
use Rattle.wt_part_laws.specs.Rounded.{HaveSameData, AreOwn, IsCleanThere, AreCleanThere}
use Rattle.wt_part_laws.proofs.FrameEnds.{held}
use Rattle.wt_part_laws.proofs.FramesWalked.{AreApart, clean_apart}
use Rattle.wt_part_laws.proofs.OwnWalks.{behind_free, text_own}
use Rattle.wt_part_laws.proofs.StartWalks.{FreeStarts, own_free, text_free}
use Rattle.wt_called_edit_laws.proofs.Cells.PlaceGaps.{Gaps, then_gap, put_before, numbers_in, numbers_before, fill, fill_before, source_at, sources_at, sources_both, at_before}
use Rattle.wt_called_edit_laws.proofs.Cells.PlaceGaps.{AtPlaces as AtGaps}
use Rattle.wt_called_edit_laws.specs.Covered.{AtPlace, AtPlaces}

-- ---- what follows a clean block is on the page as if the block ended with no call

-- the call behind, where that of a block's end is left out
abbrev mutual
  last_off : Option ℕ → Frame → Option ℕ
  last_off o (place n) = None
  last_off o (whole u) = last_of o (tree_items u)
  last_off o (around k q gs c) = last_of (lasts_off (last_of o q) gs) c

  lasts_off : Option ℕ → Frames → Option ℕ
  lasts_off o no_frames = o
  lasts_off o (more_frames f fs) = lasts_off (last_off o f) fs

-- behind items of these two calls the same is on the page for these
abbrev Agree : Option ℕ → Option ℕ → Option ℕ → List Item → Type 0
Agree o a p xs = (o ≡ a) ⊎ FreeStarts o a p xs

agree_text : (calls : List OuterCall) (o a p : Option ℕ) (xs : List Item) → Agree o a p xs → text_from calls o xs ≡ text_from calls a xs
agree_text calls o a p xs (inl e) = ap (λ (x : Option ℕ). text_from calls x xs) e
agree_text calls o a p xs (inr h) = text_free calls o a p xs h

agree_behind : (o a p : Option ℕ) (xs ys : List Item) → Agree o a p (xs ++ ys) → Agree (last_of o xs) (last_of a xs) p ys
agree_behind o a p [] ys h = h
agree_behind o a p (x ∷ xs) ys h = inl refl

agree_first : (o a p : Option ℕ) (xs ys : List Item) → Agree o a p (xs ++ ys) → Agree o a (first_of ys p) xs
agree_first o a p xs ys (inl e) = inl e
agree_first o a p xs ys (inr h) = inr (own_free o a p xs ys h)

agree_as : (o a p : Option ℕ) (xs ys : List Item) → xs ≡ ys → Agree o a p xs → Agree o a p ys
agree_as o a p xs ys e h = subst (Agree o a p) e h

-- the items of a node round places, and those behind it
round_behind : (q i c ys : List Item) → (q ++ (i ++ c)) ++ ys ≡ q ++ (i ++ (c ++ ys))
round_behind q i c ys = append_assoc q (i ++ c) ys ∙ ap (λ (zs : List Item). q ++ zs) (append_assoc i c ys)

there_by : (t : ℕ → ItemTree) (a : Option ℕ) (f : Frame) (p q : Option ℕ) → q ≡ p → IsCleanThere t a f p → IsCleanThere t a f q
there_by t a f p q e h = subst (IsCleanThere t a f) (sym e) h

all_there_by : (t : ℕ → ItemTree) (a : Option ℕ) (fs : Frames) (p q : Option ℕ) → q ≡ p → AreCleanThere t a fs p → AreCleanThere t a fs q
all_there_by t a fs p q e h = subst (AreCleanThere t a fs) (sym e) h

mutual
  frame_agrees : (t : ℕ → ItemTree) (o a : Option ℕ) (f : Frame) (ys : List Item) (p : Option ℕ) → IsCleanThere t a f (first_of ys p)
      → Agree o a p (tree_items (tree_at t f) ++ ys) → Agree (last_off o f) (last_of a (tree_items (tree_at t f))) p ys
  frame_agrees t o a (place n) ys p c h =
      let own : AreApart a (first_of ys p) (tree_items (t n)) = clean_apart a (first_of ys p) (t n) c in
      inr (record { first = behind_free None (first_of ys p) refl; second = own.last })
  frame_agrees t o a (whole u) ys p c h = agree_behind o a p (tree_items u) ys h
  frame_agrees t o a (around k q gs c) ys p there h =
      let i : List Item = held t gs in
      let all : Agree o a p (q ++ (i ++ (c ++ ys))) = agree_as o a p ((q ++ (i ++ c)) ++ ys) (q ++ (i ++ (c ++ ys))) (round_behind q i c ys) h in
      let inside : Agree (lasts_off (last_of o q) gs) (last_of (last_of a q) i) p (c ++ ys) =
      frames_agree t (last_of o q) (last_of a q) gs (c ++ ys) p
      (all_there_by t (last_of a q) gs (first_of c (first_of ys p)) (first_of (c ++ ys) p) (first_append c ys p) there)
      (agree_behind o a p q (i ++ (c ++ ys)) all) in
      subst (λ (x : Option ℕ). Agree (last_of (lasts_off (last_of o q) gs) c) x p ys) (sym (last_append a q (i ++ c) ∙ last_append (last_of a q) i c))
      (agree_behind (lasts_off (last_of o q) gs) (last_of (last_of a q) i) p c ys inside)

  frames_agree : (t : ℕ → ItemTree) (o a : Option ℕ) (fs : Frames) (ys : List Item) (p : Option ℕ) → AreCleanThere t a fs (first_of ys p)
      → Agree o a p (held t fs ++ ys) → Agree (lasts_off o fs) (last_of a (held t fs)) p ys
  frames_agree t o a no_frames ys p c h = h
  frames_agree t o a (more_frames f fs) ys p c h =
      let own : List Item = tree_items (tree_at t f) in
      let rest : List Item = held t fs in
      let first : Agree (last_off o f) (last_of a own) p (rest ++ ys) =
      frame_agrees t o a f (rest ++ ys) p (there_by t a f (first_of rest (first_of ys p)) (first_of (rest ++ ys) p) (first_append rest ys p) c.0)
      (agree_as o a p ((own ++ rest) ++ ys) (own ++ (rest ++ ys)) (append_assoc own rest ys) h) in
      subst (λ (x : Option ℕ). Agree (lasts_off (last_off o f) fs) x p ys) (sym (last_append a own rest))
      (frames_agree t (last_off o f) (last_of a own) fs ys p c.1 first)

-- ---- what is between places

abbrev mutual
  pub text_gap : List OuterCall → Option ℕ → Frame → Gaps → Gaps
  text_gap calls o (place n) z = then_gap [] n z
  text_gap calls o (whole u) z = put_before (text_from calls o (tree_items u)) z
  text_gap calls o (around k q gs c) z =
      put_before (text_from calls o q) (text_gaps calls (last_of o q) gs (put_before (text_from calls (lasts_off (last_of o q) gs) c) z))

  pub text_gaps : List OuterCall → Option ℕ → Frames → Gaps → Gaps
  text_gaps calls o no_frames z = z
  text_gaps calls o (more_frames f fs) z = text_gap calls o f (text_gaps calls (last_off o f) fs z)

mutual
  one_number : (calls : List OuterCall) (o : Option ℕ) (f : Frame) (z : Gaps) → numbers_in (text_gap calls o f z) ≡ places_in f ++ numbers_in z
  one_number calls o (place n) z = refl
  one_number calls o (whole u) z = numbers_before (text_from calls o (tree_items u)) z
  one_number calls o (around k q gs c) z =
      let C : List ℕ = text_from calls (lasts_off (last_of o q) gs) c in
      numbers_before (text_from calls o q) (text_gaps calls (last_of o q) gs (put_before C z))
      ∙ all_numbers calls (last_of o q) gs (put_before C z) ∙ ap (λ (ns : List ℕ). all_places gs ++ ns) (numbers_before C z)

  pub all_numbers : (calls : List OuterCall) (o : Option ℕ) (fs : Frames) (z : Gaps) → numbers_in (text_gaps calls o fs z) ≡ all_places fs ++ numbers_in z
  all_numbers calls o no_frames z = refl
  all_numbers calls o (more_frames f fs) z =
      one_number calls o f (text_gaps calls (last_off o f) fs z)
      ∙ ap (λ (ns : List ℕ). places_in f ++ ns) (all_numbers calls (last_off o f) fs z)
      ∙ sym (append_assoc (places_in f) (all_places fs) (numbers_in z))

-- ---- with the blocks between them it is the page

-- what is on the page for each of these blocks: this source
abbrev pub HaveTexts : List OuterCall → (ℕ → ItemTree) → (ℕ → ItemTree) → List ℕ → Type 0
HaveTexts calls t w [] = Unit {0}
HaveTexts calls t w (n ∷ ns) = (text_from calls None (tree_items (t n)) ≡ source_at w n) × HaveTexts calls t w ns

texts_split : (calls : List OuterCall) (t w : ℕ → ItemTree) (ms ns : List ℕ) → HaveTexts calls t w (ms ++ ns) → HaveTexts calls t w ms × HaveTexts calls t w ns
texts_split calls t w [] ns h = (tt, h)
texts_split calls t w (m ∷ ms) ns h = let r = texts_split calls t w ms ns h.1 in ((h.0, r.0), r.1)

pub own_texts : (calls : List OuterCall) (t : ℕ → ItemTree) (ns : List ℕ) → AreOwn t ns → HaveTexts calls t t ns
own_texts calls t [] h = tt
own_texts calls t (n ∷ ns) h = (text_own calls None (tree_items (t n)) h.0.of_page, own_texts calls t ns h.1)

-- so it is wherever the block is clean
there_text : (calls : List OuterCall) (a p : Option ℕ) (t : ItemTree) → clean_at a p t ≡ true → text_from calls a (tree_items t) ≡ text_from calls None (tree_items t)
there_text calls a p t c =
    let own : AreApart a p (tree_items t) = clean_apart a p t c in
    text_free calls a None p (tree_items t) (record { first = own.first; second = behind_free None (first_of (tree_items t) p) refl })

around_text : (calls : List OuterCall) (o : Option ℕ) (q i c : List Item)
    → text_from calls o (q ++ (i ++ c)) ≡ text_from calls o q ++ (text_from calls (last_of o q) i ++ text_from calls (last_of (last_of o q) i) c)
around_text calls o q i c =
    text_append_from calls o q (i ++ c) ∙ ap (λ (bs : List ℕ). text_from calls o q ++ bs) (text_append_from calls (last_of o q) i c)

-- the delimiters of a node round places, where the call before is left out of account, and what it holds
record RoundTexts (calls : List OuterCall) (t : ℕ → ItemTree) (o a : Option ℕ) (q : List Item) (gs : Frames) (c ys : List Item) (p : Option ℕ) : Type 0 where
  opening : text_from calls o q ≡ text_from calls a q
  inside : Agree (last_of o q) (last_of a q) p (held t gs ++ (c ++ ys))
  there : AreCleanThere t (last_of a q) gs (first_of (c ++ ys) p)
  closing : text_from calls (lasts_off (last_of o q) gs) c ≡ text_from calls (last_of (last_of a q) (held t gs)) c

round_texts : (calls : List OuterCall) (t : ℕ → ItemTree) (o a : Option ℕ) (q : List Item) (gs : Frames) (c ys : List Item) (p : Option ℕ)
    → AreCleanThere t (last_of a q) gs (first_of c (first_of ys p)) → Agree o a p ((q ++ (held t gs ++ c)) ++ ys) → RoundTexts calls t o a q gs c ys p
round_texts calls t o a q gs c ys p there h =
    let i : List Item = held t gs in
    let all : Agree o a p (q ++ (i ++ (c ++ ys))) = agree_as o a p ((q ++ (i ++ c)) ++ ys) (q ++ (i ++ (c ++ ys))) (round_behind q i c ys) h in
    let inside : Agree (last_of o q) (last_of a q) p (i ++ (c ++ ys)) = agree_behind o a p q (i ++ (c ++ ys)) all in
    let so : AreCleanThere t (last_of a q) gs (first_of (c ++ ys) p) =
    all_there_by t (last_of a q) gs (first_of c (first_of ys p)) (first_of (c ++ ys) p) (first_append c ys p) there in
    let end : Agree (lasts_off (last_of o q) gs) (last_of (last_of a q) i) p (c ++ ys) = frames_agree t (last_of o q) (last_of a q) gs (c ++ ys) p so inside in
    record {
      opening = agree_text calls o a (first_of (i ++ (c ++ ys)) p) q (agree_first o a p q (i ++ (c ++ ys)) all);
      inside = inside;
      there = so;
      closing = agree_text calls (lasts_off (last_of o q) gs) (last_of (last_of a q) i) (first_of ys p) c
          (agree_first (lasts_off (last_of o q) gs) (last_of (last_of a q) i) p c ys end);
    }

mutual
  one_fill : (calls : List OuterCall) (t w : ℕ → ItemTree) (o a : Option ℕ) (f : Frame) (ys : List Item) (p : Option ℕ) (z : Gaps) (ts : List (List ℕ))
      → HaveTexts calls t w (places_in f) → IsCleanThere t a f (first_of ys p) → Agree o a p (tree_items (tree_at t f) ++ ys)
      → fill (sources_at w (places_in f) ts) (text_gap calls o f z) ≡ text_from calls a (tree_items (tree_at t f)) ++ fill ts z
  one_fill calls t w o a (place n) ys p z ts h c g =
      ap (λ (bs : List ℕ). bs ++ fill ts z) (sym (there_text calls a (first_of ys p) (t n) c ∙ h.0))
  one_fill calls t w o a (whole u) ys p z ts h c g =
      fill_before ts (text_from calls o (tree_items u)) z
      ∙ ap (λ (bs : List ℕ). bs ++ fill ts z) (agree_text calls o a (first_of ys p) (tree_items u) (agree_first o a p (tree_items u) ys g))
  one_fill calls t w o a (around k q gs c) ys p z ts h there g =
      let r : RoundTexts calls t o a q gs c ys p = round_texts calls t o a q gs c ys p there g in
      let A : List ℕ = text_from calls a q in
      let B : List ℕ = text_from calls (last_of a q) (held t gs) in
      let C : List ℕ = text_from calls (last_of (last_of a q) (held t gs)) c in
      let D : List ℕ = fill ts z in
      let E : List ℕ = text_from calls (lasts_off (last_of o q) gs) c in
      fill_before (sources_at w (all_places gs) ts) (text_from calls o q) (text_gaps calls (last_of o q) gs (put_before E z))
      ∙ ap (λ (bs : List ℕ). bs ++ fill (sources_at w (all_places gs) ts) (text_gaps calls (last_of o q) gs (put_before E z))) r.opening
      ∙ ap (λ (bs : List ℕ). A ++ bs)
      (all_fill calls t w (last_of o q) (last_of a q) gs (c ++ ys) p (put_before E z) ts h r.there r.inside
      ∙ ap (λ (bs : List ℕ). B ++ bs) (fill_before ts E z ∙ ap (λ (bs : List ℕ). bs ++ D) r.closing) ∙ sym (append_assoc B C D))
      ∙ sym (append_assoc A (B ++ C) D)
      ∙ ap (λ (bs : List ℕ). bs ++ D) (sym (around_text calls a q (held t gs) c))

  pub all_fill : (calls : List OuterCall) (t w : ℕ → ItemTree) (o a : Option ℕ) (fs : Frames) (ys : List Item) (p : Option ℕ) (z : Gaps) (ts : List (List ℕ))
      → HaveTexts calls t w (all_places fs) → AreCleanThere t a fs (first_of ys p) → Agree o a p (held t fs ++ ys)
      → fill (sources_at w (all_places fs) ts) (text_gaps calls o fs z) ≡ text_from calls a (held t fs) ++ fill ts z
  all_fill calls t w o a no_frames ys p z ts h c g = refl
  all_fill calls t w o a (more_frames f fs) ys p z ts h c g =
      let own : List Item = tree_items (tree_at t f) in
      let rest : List Item = held t fs in
      let x : Option ℕ = last_of a own in
      let v = texts_split calls t w (places_in f) (all_places fs) h in
      let there : IsCleanThere t a f (first_of (rest ++ ys) p) = there_by t a f (first_of rest (first_of ys p)) (first_of (rest ++ ys) p) (first_append rest ys p) c.0 in
      let all : Agree o a p (own ++ (rest ++ ys)) = agree_as o a p ((own ++ rest) ++ ys) (own ++ (rest ++ ys)) (append_assoc own rest ys) g in
      ap (λ (rs : List (List ℕ)). fill rs (text_gap calls o f (text_gaps calls (last_off o f) fs z))) (sources_both w (places_in f) (all_places fs) ts)
      ∙ one_fill calls t w o a f (rest ++ ys) p (text_gaps calls (last_off o f) fs z) (sources_at w (all_places fs) ts) v.0 there all
      ∙ ap (λ (bs : List ℕ). text_from calls a own ++ bs)
      (all_fill calls t w (last_off o f) x fs ys p z ts v.1 c.1 (frame_agrees t o a f (rest ++ ys) p there all))
      ∙ sym (append_assoc (text_from calls a own) (text_from calls x rest) (fill ts z))
      ∙ ap (λ (bs : List ℕ). bs ++ fill ts z) (sym (text_append_from calls a own rest))

-- from the page's beginning to its end
pub page_fill : (calls : List OuterCall) (t w : ℕ → ItemTree) (fs : Frames) (z : Gaps) (ts : List (List ℕ)) → HaveTexts calls t w (all_places fs)
    → AreCleanThere t None fs None → fill (sources_at w (all_places fs) ts) (text_gaps calls None fs z) ≡ text_from calls None (held t fs) ++ fill ts z
page_fill calls t w fs z ts h c = all_fill calls t w None None fs [] None z ts h c (inl refl)

-- ---- the same for other calls

by_same : (calls cs : List OuterCall) → HaveSameData calls cs → (o : Option ℕ) (bs : List ℕ) → text_by calls o bs ≡ text_by cs o bs
by_same calls cs h None bs = refl
by_same calls cs h (Some k) bs = h.sources k

step_by : (v : Bool) (xs ys : List ℕ) → xs ≡ ys → cond v xs [] ≡ cond v ys []
step_by true xs ys e = e
step_by false xs ys e = refl

text_same : (calls cs : List OuterCall) → HaveSameData calls cs → (o : Option ℕ) (xs : List Item) → text_from calls o xs ≡ text_from cs o xs
text_same calls cs h o [] = refl
text_same calls cs h o (x ∷ xs) =
    ap₂ (λ (xs ys : List ℕ). xs ++ ys)
    (step_by (parted o (call_of x)) (text_by calls (call_of x) (source x)) (text_by cs (call_of x) (source x)) (by_same calls cs h (call_of x) (source x)))
    (text_same calls cs h (call_of x) xs)

mutual
  gap_same : (calls cs : List OuterCall) → HaveSameData calls cs → (o : Option ℕ) (f : Frame) (z y : Gaps) → z ≡ y → text_gap calls o f z ≡ text_gap cs o f y
  gap_same calls cs h o (place n) z y e = ap (then_gap [] n) e
  gap_same calls cs h o (whole u) z y e = ap₂ put_before (text_same calls cs h o (tree_items u)) e
  gap_same calls cs h o (around j q gs c) z y e =
      let x : Option ℕ = last_of o q in
      let C : List ℕ = text_from calls (lasts_off x gs) c in
      let D : List ℕ = text_from cs (lasts_off x gs) c in
      ap₂ put_before (text_same calls cs h o q)
      (gaps_same calls cs h x gs (put_before C z) (put_before D y) (ap₂ put_before (text_same calls cs h (lasts_off x gs) c) e))

  pub gaps_same : (calls cs : List OuterCall) → HaveSameData calls cs → (o : Option ℕ) (fs : Frames) (z y : Gaps) → z ≡ y
      → text_gaps calls o fs z ≡ text_gaps cs o fs y
  gaps_same calls cs h o no_frames z y e = e
  gaps_same calls cs h o (more_frames f fs) z y e =
      gap_same calls cs h o f (text_gaps calls (last_off o f) fs z) (text_gaps cs (last_off o f) fs y) (gaps_same calls cs h (last_off o f) fs z y e)

-- ---- the bytes of each place

-- from what is before it on, as many as its source has
abbrev pub AtBytes : (ℕ → ℕ → Type 0) → (ℕ → ItemTree) → List ℕ → ℕ → Type 0
AtBytes Q w bs n = Q (length bs) (length bs + length (source_at w n))

pub moved : (Q : ℕ → ℕ → Type 0) (i j m n : ℕ) → i ≡ j → m ≡ n → Q i (i + m) → Q j (j + n)
moved Q i j m n e f h = subst (λ (x : ℕ). Q j (j + x)) f (subst (λ (x : ℕ). Q x (x + m)) e h)

mutual
  gap_place : (Q : ℕ → ℕ → Type 0) (calls : List OuterCall) (t w : ℕ → ItemTree) (o a : Option ℕ) (at : ℕ) (front : List ℕ) (f : Frame) (ys : List Item) (p : Option ℕ)
      (z : Gaps) → HaveTexts calls t w (places_in f) → IsCleanThere t a f (first_of ys p) → Agree o a p (tree_items (tree_at t f) ++ ys) → length front ≡ at
      → AtGaps (AtBytes Q w) w front (text_gap calls o f z)
      → AtPlace Q calls t a at f × AtGaps (AtBytes Q w) w (front ++ text_from calls a (tree_items (tree_at t f))) z
  gap_place Q calls t w o a at front (place n) ys p z s c g e h =
      let own : text_from calls a (tree_items (t n)) ≡ source_at w n = there_text calls a (first_of ys p) (t n) c ∙ s.0 in
      let same : (front ++ []) ++ source_at w n ≡ front ++ text_from calls a (tree_items (t n)) =
      ap₂ (λ (xs ys : List ℕ). xs ++ ys) (append-nil front) (sym own) in (
        moved Q (length (front ++ [])) at (length (source_at w n)) (length (text_from calls a (tree_items (t n)))) (ap length (append-nil front) ∙ e) (ap length (sym own)) h.0,
        subst (λ (bs : List ℕ). AtGaps (AtBytes Q w) w bs z) same h.1,
      )
  gap_place Q calls t w o a at front (whole u) ys p z s c g e h =
      let same : text_from calls o (tree_items u) ≡ text_from calls a (tree_items u) = agree_text calls o a (first_of ys p) (tree_items u) (agree_first o a p (tree_items u) ys g) in
      (tt, subst (λ (bs : List ℕ). AtGaps (AtBytes Q w) w (front ++ bs) z) same (at_before (AtBytes Q w) w front (text_from calls o (tree_items u)) z h))
  gap_place Q calls t w o a at front (around k q gs c) ys p z s there g e h =
      let r : RoundTexts calls t o a q gs c ys p = round_texts calls t o a q gs c ys p there g in
      let A : List ℕ = text_from calls a q in
      let B : List ℕ = text_from calls (last_of a q) (held t gs) in
      let C : List ℕ = text_from calls (last_of (last_of a q) (held t gs)) c in
      let E : List ℕ = text_from calls (lasts_off (last_of o q) gs) c in
      let sum : length (front ++ A) ≡ length front + length A = length-append front A in
      let from : length (front ++ A) ≡ at + length A = omega (arith, sum, e) in
      let inside : AtGaps (AtBytes Q w) w (front ++ A) (text_gaps calls (last_of o q) gs (put_before E z)) =
      subst (λ (bs : List ℕ). AtGaps (AtBytes Q w) w (front ++ bs) (text_gaps calls (last_of o q) gs (put_before E z))) r.opening
      (at_before (AtBytes Q w) w front (text_from calls o q) (text_gaps calls (last_of o q) gs (put_before E z)) h) in
      let v = gap_places Q calls t w (last_of o q) (last_of a q) (at + length A) (front ++ A) gs (c ++ ys) p (put_before E z) s r.there r.inside from inside in
      let all : ((front ++ A) ++ B) ++ C ≡ front ++ text_from calls a (q ++ (held t gs ++ c)) =
      append_assoc (front ++ A) B C ∙ append_assoc front A (B ++ C) ∙ ap (λ (bs : List ℕ). front ++ bs) (sym (around_text calls a q (held t gs) c)) in
      let rest : AtGaps (AtBytes Q w) w (((front ++ A) ++ B) ++ C) z =
      subst (λ (bs : List ℕ). AtGaps (AtBytes Q w) w (((front ++ A) ++ B) ++ bs) z) r.closing (at_before (AtBytes Q w) w ((front ++ A) ++ B) E z v.1) in
      (v.0, subst (λ (bs : List ℕ). AtGaps (AtBytes Q w) w bs z) all rest)

  gap_places : (Q : ℕ → ℕ → Type 0) (calls : List OuterCall) (t w : ℕ → ItemTree) (o a : Option ℕ) (at : ℕ) (front : List ℕ) (fs : Frames) (ys : List Item) (p : Option ℕ)
      (z : Gaps) → HaveTexts calls t w (all_places fs) → AreCleanThere t a fs (first_of ys p) → Agree o a p (held t fs ++ ys) → length front ≡ at
      → AtGaps (AtBytes Q w) w front (text_gaps calls o fs z)
      → AtPlaces Q calls t a at fs × AtGaps (AtBytes Q w) w (front ++ text_from calls a (held t fs)) z
  gap_places Q calls t w o a at front no_frames ys p z s c g e h = (tt, subst (λ (bs : List ℕ). AtGaps (AtBytes Q w) w bs z) (sym (append-nil front)) h)
  gap_places Q calls t w o a at front (more_frames f fs) ys p z s c g e h =
      let own : List Item = tree_items (tree_at t f) in
      let rest : List Item = held t fs in
      let x : Option ℕ = last_of a own in
      let A : List ℕ = text_from calls a own in
      let v = texts_split calls t w (places_in f) (all_places fs) s in
      let there : IsCleanThere t a f (first_of (rest ++ ys) p) = there_by t a f (first_of rest (first_of ys p)) (first_of (rest ++ ys) p) (first_append rest ys p) c.0 in
      let all : Agree o a p (own ++ (rest ++ ys)) = agree_as o a p ((own ++ rest) ++ ys) (own ++ (rest ++ ys)) (append_assoc own rest ys) g in
      let r = gap_place Q calls t w o a at front f (rest ++ ys) p (text_gaps calls (last_off o f) fs z) v.0 there all e h in
      let sum : length (front ++ A) ≡ length front + length A = length-append front A in
      let from : length (front ++ A) ≡ at + length A = omega (arith, sum, e) in
      let q = gap_places Q calls t w (last_off o f) x (at + length A) (front ++ A) fs ys p z v.1 c.1 (frame_agrees t o a f (rest ++ ys) p there all) from r.1 in
      let whole_text : (front ++ A) ++ text_from calls x rest ≡ front ++ text_from calls a (own ++ rest) =
      append_assoc front A (text_from calls x rest) ∙ ap (λ (bs : List ℕ). front ++ bs) (sym (text_append_from calls a own rest)) in
      ((r.0, q.0), subst (λ (bs : List ℕ). AtGaps (AtBytes Q w) w bs z) whole_text q.1)

pub page_places : (Q : ℕ → ℕ → Type 0) (calls : List OuterCall) (t w : ℕ → ItemTree) (fs : Frames) (z : Gaps) → HaveTexts calls t w (all_places fs)
    → AreCleanThere t None fs None → AtGaps (AtBytes Q w) w [] (text_gaps calls None fs z) → AtPlaces Q calls t None 0 fs
page_places Q calls t w fs z s c h =
    let r = gap_places Q calls t w None None 0 [] fs [] None z s c (inl refl) refl h in r.0

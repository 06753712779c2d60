-- Where the calls of each block are no others', the cuts at its ends are free, whatever is written in it beside its calls; and the nodes round blocks stay clean.
use Rattle.std.proofs.Common.{arith, ◌≡◌, ◌⊎◌, inl, inr, ◌≤◌, ◌<◌, ℕ, suc, Bool, true, false, Option, Some, None, List, [], ◌∷◌, ◌++◌, refl, sym, ap, ap₂, ◌∙◌, subst}
use Rattle.std.specs.Prelude.{not, ◌&&◌, ◌||◌}
use Rattle.std.specs.List.{list_all, list_any}
use Rattle.std.proofs.lemmas.Bool.{cases_lt}
use Rattle.std.proofs.lemmas.Bool.Decides.{nat_tests}
use Rattle.wt_tree.specs.Kinds.{is_leaf}
use Rattle.wt_span.specs.Items.{Item, call_of}
use Rattle.wt_span.specs.Origins.{same_call}
use Rattle.wt_inline.specs.ItemTree.{Head, ItemTree, forest, tree_items}
use Rattle.wt_annotated.specs.Clean.{is_page, is_body}
use Rattle.wt_annotated.specs.Seams.{last_of, first_of, parted}
use Rattle.wt_annotated.specs.Walked.{clean_at}
use Rattle.wt_annotated.proofs.Ends.{both}
use Rattle.wt_annotated.proofs.Seams.{first_append, last_append}
use Rattle.wt_part_laws.specs.Frames.{Frame, place, whole, around, Frames, no_frames, more_frames, tree_at, trees_at, places_in, all_places, Part, IsFrame, AreFrames}
use Rattle.wt_part_laws.specs.HeldCalls.{HoldsItsCalls}
use Rattle.wt_part_laws.specs.Rounded.{IsClean, AreClean, IsCleanThere, AreCleanThere}
use Rattle.wt_part_laws.proofs.FrameEnds.{held, AllHavePage, any_held, clean_so, clean_is}
use Rattle.wt_part_laws.proofs.FramesWalked.{no_leaf, clean_there}

-- ---- the calls of blocks

abbrev pub IsIn : (ℕ → Type 0) → Option ℕ → Type 0
IsIn Q None = Unit {0}
IsIn Q (Some j) = Q j

abbrev pub AllIn : (ℕ → Type 0) → List Item → Type 0
AllIn Q [] = Unit {0}
AllIn Q (x ∷ xs) = IsIn Q (call_of x) × AllIn Q xs

-- a call of none of the blocks
abbrev pub IsNone : (ℕ → ℕ → Type 0) → ℕ → Type 0
IsNone R j = (n : ℕ) → R n j → ⊥

abbrev pub IsOff : (ℕ → ℕ → Type 0) → Option ℕ → Type 0
IsOff R o = IsIn (IsNone R) o

-- no two blocks have the same call
abbrev pub AreNoOthers : (ℕ → ℕ → Type 0) → Type 0
AreNoOthers R = (n m j : ℕ) → n < m → R n j → R m j → ⊥

-- A block that holds its calls, and begins and ends with an item of the page or of one of these.
pub record IsBlockOf (Q : ℕ → Type 0) (t : ItemTree) : Type 0 where
  pub holds : HoldsItsCalls t
  pub first : (p : Option ℕ) → IsIn Q (first_of (tree_items t) p)
  pub last : (o : Option ℕ) → IsIn Q (last_of o (tree_items t))

abbrev pub AreBlocksOf : (ℕ → ℕ → Type 0) → (ℕ → ItemTree) → List ℕ → Type 0
AreBlocksOf R t [] = Unit {0}
AreBlocksOf R t (n ∷ ns) = IsBlockOf (R n) (t n) × AreBlocksOf R t ns

blocks_split : (R : ℕ → ℕ → Type 0) (t : ℕ → ItemTree) (ms ns : List ℕ) → AreBlocksOf R t (ms ++ ns) → AreBlocksOf R t ms × AreBlocksOf R t ns
blocks_split R t [] ns h = (tt, h)
blocks_split R t (m ∷ ms) ns h = let r = blocks_split R t ms ns h.1 in ((h.0, r.0), r.1)

have_page : (R : ℕ → ℕ → Type 0) (t : ℕ → ItemTree) (ns : List ℕ) → AreBlocksOf R t ns → AllHavePage t ns
have_page R t [] h = tt
have_page R t (n ∷ ns) h = let own = h.0 in let holds = own.holds in (holds.some, have_page R t ns h.1)

-- ---- what is in no block

abbrev pub AllOff : (ℕ → ℕ → Type 0) → List Item → Type 0
AllOff R xs = AllIn (IsNone R) xs

abbrev mutual
  pub RoundOff : (ℕ → ℕ → Type 0) → Frame → Type 0
  RoundOff R (place n) = Unit {0}
  RoundOff R (whole u) = AllOff R (tree_items u)
  RoundOff R (around k q gs c) = AllOff R q × AreRoundOff R gs × AllOff R c

  pub AreRoundOff : (ℕ → ℕ → Type 0) → Frames → Type 0
  AreRoundOff R no_frames = Unit {0}
  AreRoundOff R (more_frames f fs) = RoundOff R f × AreRoundOff R fs

-- ---- the numbers of the places go up

abbrev pub Rising : ℕ → List ℕ → ℕ → Type 0
Rising lo [] hi = lo ≤ hi
Rising lo (n ∷ ns) hi = (lo ≤ n) × Rising (suc n) ns hi

rising_le : (lo : ℕ) (ns : List ℕ) (hi : ℕ) → Rising lo ns hi → lo ≤ hi
rising_le lo [] hi h = h
rising_le lo (n ∷ ns) hi h = let r = rising_le (suc n) ns hi h.1 in omega (arith, h.0, r)

-- up to the first of some, and from it on
record Halves (lo : ℕ) (ms ns : List ℕ) (hi : ℕ) : Type 0 where
  middle : ℕ
  first : Rising lo ms middle
  rest : Rising middle ns hi

rising_split : (lo : ℕ) (ms ns : List ℕ) (hi : ℕ) → Rising lo (ms ++ ns) hi → Halves lo ms ns hi
rising_split lo [] ns hi h = record { middle = lo; first = omega arith; rest = h }
rising_split lo (m ∷ ms) ns hi h =
    let r = rising_split (suc m) ms ns hi h.1 in record { middle = r.middle; first = (h.0, r.first); rest = r.rest }

-- ---- cuts

other_calls : (i j : ℕ) → (i ≡ j → ⊥) → parted (Some i) (Some j) ≡ true
other_calls i j n = ap not (differ (cases_lt i j) (cases_lt j i))
  where
    differ : (i < j) ⊎ (j ≤ i) → (j < i) ⊎ (i ≤ j) → same_call (Some i) (Some j) ≡ false
    differ (inl l) s = grind (arith, nat_tests)
    differ (inr r) (inl l) = grind (arith, nat_tests)
    differ (inr r) (inr s) = absurd (n (omega (arith, r, s)))

in_off : (R : ℕ → ℕ → Type 0) (n : ℕ) (x y : Option ℕ) → IsIn (R n) x → IsOff R y → parted x y ≡ true
in_off R n None y h g = refl
in_off R n (Some i) None h g = refl
in_off R n (Some i) (Some j) h g = other_calls i j (λ e. g n (subst (R n) e h))

off_in : (R : ℕ → ℕ → Type 0) (n : ℕ) (x y : Option ℕ) → IsOff R x → IsIn (R n) y → parted x y ≡ true
off_in R n None y h g = refl
off_in R n (Some i) None h g = refl
off_in R n (Some i) (Some j) h g = other_calls i j (λ e. h n (subst (R n) (sym e) g))

in_in : (R : ℕ → ℕ → Type 0) (n m : ℕ) (x y : Option ℕ) → AreNoOthers R → n < m → IsIn (R n) x → IsIn (R m) y → parted x y ≡ true
in_in R n m None y d l h g = refl
in_in R n m (Some i) None d l h g = refl
in_in R n m (Some i) (Some j) d l h g = other_calls i j (λ e. d n m j l (subst (R n) e h) g)

-- ---- what is beside a cut: an item of this call, or the first or last one of a block

data End : Type 0 where
  from_call : Option ℕ → End
  from_block : ℕ → End

abbrev first_end : List Item → End → End
first_end [] e = e
first_end (x ∷ xs) e = from_call (call_of x)

abbrev last_end : End → List Item → End
last_end e [] = e
last_end e (x ∷ xs) = from_call (last_of (call_of x) xs)

abbrev mutual
  first_frame : Frame → End → End
  first_frame (place n) e = from_block n
  first_frame (whole u) e = first_end (tree_items u) e
  first_frame (around k q gs c) e = first_end q (first_frames gs (first_end c e))

  first_frames : Frames → End → End
  first_frames no_frames e = e
  first_frames (more_frames f fs) e = first_frame f (first_frames fs e)

abbrev mutual
  last_frame : End → Frame → End
  last_frame e (place n) = from_block n
  last_frame e (whole u) = last_end e (tree_items u)
  last_frame e (around k q gs c) = last_end (last_frames (last_end e q) gs) c

  last_frames : End → Frames → End
  last_frames e no_frames = e
  last_frames e (more_frames f fs) = last_frames (last_frame e f) fs

-- this call is it
abbrev IsEnd : (ℕ → ℕ → Type 0) → End → Option ℕ → Type 0
IsEnd R (from_call v) x = x ≡ v
IsEnd R (from_block n) x = IsIn (R n) x

-- before the blocks from this number on, and behind those up to it
abbrev IsLeft : (ℕ → ℕ → Type 0) → ℕ → End → Type 0
IsLeft R lo (from_call v) = IsOff R v
IsLeft R lo (from_block n) = n < lo

abbrev IsRight : (ℕ → ℕ → Type 0) → ℕ → End → Type 0
IsRight R hi (from_call v) = IsOff R v
IsRight R hi (from_block n) = hi ≤ n

-- a cut that is free with some blocks is free with others
cut_again : (R : ℕ → ℕ → Type 0) (lo : ℕ) (e f : End) (x a y b : Option ℕ) → AreNoOthers R → IsLeft R lo e → IsRight R lo f → IsEnd R e x → IsEnd R e a → IsEnd R f y
    → IsEnd R f b → parted x y ≡ true → parted a b ≡ true
cut_again R lo (from_call v) (from_call u) x a y b d l r ex ea fy fb h = ap₂ parted (ea ∙ sym ex) (fb ∙ sym fy) ∙ h
cut_again R lo (from_call v) (from_block m) x a y b d l r ex ea fy fb h = off_in R m a b (subst (IsOff R) (sym ea) l) fb
cut_again R lo (from_block n) (from_call u) x a y b d l r ex ea fy fb h = in_off R n a b ea (subst (IsOff R) (sym fb) r)
cut_again R lo (from_block n) (from_block m) x a y b d l r ex ea fy fb h = in_in R n m a b d (omega (arith, l, r)) ea fb

-- the cuts beside a block
cut_before : (R : ℕ → ℕ → Type 0) (lo n : ℕ) (e : End) (x y : Option ℕ) → AreNoOthers R → IsLeft R lo e → lo ≤ n → IsEnd R e x → IsIn (R n) y → parted x y ≡ true
cut_before R lo n (from_call v) x y d l le ex h = off_in R n x y (subst (IsOff R) (sym ex) l) h
cut_before R lo n (from_block m) x y d l le ex h = in_in R m n x y d (omega (arith, l, le)) ex h

cut_behind : (R : ℕ → ℕ → Type 0) (hi n : ℕ) (e : End) (x y : Option ℕ) → AreNoOthers R → IsRight R hi e → n < hi → IsIn (R n) x → IsEnd R e y → parted x y ≡ true
cut_behind R hi n (from_call v) x y d r lt h ey = in_off R n x y h (subst (IsOff R) (sym ey) r)
cut_behind R hi n (from_block m) x y d r lt h ey = in_in R n m x y d (omega (arith, r, lt)) h ey

-- ---- so they are

items_first : (R : ℕ → ℕ → Type 0) (xs : List Item) (e : End) (x : Option ℕ) → IsEnd R e x → IsEnd R (first_end xs e) (first_of xs x)
items_first R [] e x h = h
items_first R (y ∷ xs) e x h = refl

items_last : (R : ℕ → ℕ → Type 0) (xs : List Item) (e : End) (x : Option ℕ) → IsEnd R e x → IsEnd R (last_end e xs) (last_of x xs)
items_last R [] e x h = h
items_last R (y ∷ xs) e x h = refl

first_three : (xs ys zs : List Item) (p : Option ℕ) → first_of (xs ++ (ys ++ zs)) p ≡ first_of xs (first_of ys (first_of zs p))
first_three xs ys zs p = first_append xs (ys ++ zs) p ∙ ap (first_of xs) (first_append ys zs p)

last_three : (o : Option ℕ) (xs ys zs : List Item) → last_of o (xs ++ (ys ++ zs)) ≡ last_of (last_of (last_of o xs) ys) zs
last_three o xs ys zs = last_append o xs (ys ++ zs) ∙ last_append (last_of o xs) ys zs

mutual
  first_is : (R : ℕ → ℕ → Type 0) (t : ℕ → ItemTree) (f : Frame) (e : End) (x : Option ℕ) → AreBlocksOf R t (places_in f) → IsEnd R e x
      → IsEnd R (first_frame f e) (first_of (tree_items (tree_at t f)) x)
  first_is R t (place n) e x g h = let own = g.0 in own.first x
  first_is R t (whole u) e x g h = items_first R (tree_items u) e x h
  first_is R t (around k q gs c) e x g h =
      subst (IsEnd R (first_end q (first_frames gs (first_end c e)))) (sym (first_three q (held t gs) c x))
      (items_first R q (first_frames gs (first_end c e)) (first_of (held t gs) (first_of c x))
      (firsts_are R t gs (first_end c e) (first_of c x) g (items_first R c e x h)))

  firsts_are : (R : ℕ → ℕ → Type 0) (t : ℕ → ItemTree) (fs : Frames) (e : End) (x : Option ℕ) → AreBlocksOf R t (all_places fs) → IsEnd R e x
      → IsEnd R (first_frames fs e) (first_of (held t fs) x)
  firsts_are R t no_frames e x g h = h
  firsts_are R t (more_frames f fs) e x g h =
      let r = blocks_split R t (places_in f) (all_places fs) g in
      subst (IsEnd R (first_frame f (first_frames fs e))) (sym (first_append (tree_items (tree_at t f)) (held t fs) x))
      (first_is R t f (first_frames fs e) (first_of (held t fs) x) r.0 (firsts_are R t fs e x r.1 h))

mutual
  last_is : (R : ℕ → ℕ → Type 0) (t : ℕ → ItemTree) (f : Frame) (e : End) (x : Option ℕ) → AreBlocksOf R t (places_in f) → IsEnd R e x
      → IsEnd R (last_frame e f) (last_of x (tree_items (tree_at t f)))
  last_is R t (place n) e x g h = let own = g.0 in own.last x
  last_is R t (whole u) e x g h = items_last R (tree_items u) e x h
  last_is R t (around k q gs c) e x g h =
      subst (IsEnd R (last_end (last_frames (last_end e q) gs) c)) (sym (last_three x q (held t gs) c))
      (items_last R c (last_frames (last_end e q) gs) (last_of (last_of x q) (held t gs))
      (lasts_are R t gs (last_end e q) (last_of x q) g (items_last R q e x h)))

  lasts_are : (R : ℕ → ℕ → Type 0) (t : ℕ → ItemTree) (fs : Frames) (e : End) (x : Option ℕ) → AreBlocksOf R t (all_places fs) → IsEnd R e x
      → IsEnd R (last_frames e fs) (last_of x (held t fs))
  lasts_are R t no_frames e x g h = h
  lasts_are R t (more_frames f fs) e x g h =
      let r = blocks_split R t (places_in f) (all_places fs) g in
      subst (IsEnd R (last_frames (last_frame e f) fs)) (sym (last_append x (tree_items (tree_at t f)) (held t fs)))
      (lasts_are R t fs (last_frame e f) (last_of x (tree_items (tree_at t f))) r.1 (last_is R t f e x r.0 h))

-- ---- and are no calls of the blocks before them or behind them

right_lower : (R : ℕ → ℕ → Type 0) (lo hi : ℕ) (e : End) → lo ≤ hi → IsRight R hi e → IsRight R lo e
right_lower R lo hi (from_call v) le h = h
right_lower R lo hi (from_block n) le h = omega (arith, le, h)

left_higher : (R : ℕ → ℕ → Type 0) (lo hi : ℕ) (e : End) → lo ≤ hi → IsLeft R lo e → IsLeft R hi e
left_higher R lo hi (from_call v) le h = h
left_higher R lo hi (from_block n) le h = omega (arith, le, h)

items_right : (R : ℕ → ℕ → Type 0) (hi : ℕ) (xs : List Item) (e : End) → AllOff R xs → IsRight R hi e → IsRight R hi (first_end xs e)
items_right R hi [] e o h = h
items_right R hi (x ∷ xs) e o h = o.0

last_off : (R : ℕ → ℕ → Type 0) (v : Option ℕ) (xs : List Item) → IsOff R v → AllOff R xs → IsOff R (last_of v xs)
last_off R v [] h o = h
last_off R v (x ∷ xs) h o = last_off R (call_of x) xs o.0 o.1

items_left : (R : ℕ → ℕ → Type 0) (lo : ℕ) (xs : List Item) (e : End) → AllOff R xs → IsLeft R lo e → IsLeft R lo (last_end e xs)
items_left R lo [] e o h = h
items_left R lo (x ∷ xs) e o h = last_off R (call_of x) xs o.0 o.1

mutual
  first_right : (R : ℕ → ℕ → Type 0) (lo hi : ℕ) (f : Frame) (e : End) → RoundOff R f → Rising lo (places_in f) hi → IsRight R hi e → IsRight R lo (first_frame f e)
  first_right R lo hi (place n) e o r h = r.0
  first_right R lo hi (whole u) e o r h = items_right R lo (tree_items u) e o (right_lower R lo hi e r h)
  first_right R lo hi (around k q gs c) e o r h =
      items_right R lo q (first_frames gs (first_end c e)) o.0 (firsts_right R lo hi gs (first_end c e) o.1 r (items_right R hi c e o.2 h))

  firsts_right : (R : ℕ → ℕ → Type 0) (lo hi : ℕ) (fs : Frames) (e : End) → AreRoundOff R fs → Rising lo (all_places fs) hi → IsRight R hi e → IsRight R lo (first_frames fs e)
  firsts_right R lo hi no_frames e o r h = right_lower R lo hi e r h
  firsts_right R lo hi (more_frames f fs) e o r h =
      let s : Halves lo (places_in f) (all_places fs) hi = rising_split lo (places_in f) (all_places fs) hi r in
      first_right R lo s.middle f (first_frames fs e) o.0 s.first (firsts_right R s.middle hi fs e o.1 s.rest h)

mutual
  last_left : (R : ℕ → ℕ → Type 0) (lo hi : ℕ) (f : Frame) (e : End) → RoundOff R f → Rising lo (places_in f) hi → IsLeft R lo e → IsLeft R hi (last_frame e f)
  last_left R lo hi (place n) e o r h = let le : suc n ≤ hi = r.1 in omega (arith, le)
  last_left R lo hi (whole u) e o r h = items_left R hi (tree_items u) e o (left_higher R lo hi e r h)
  last_left R lo hi (around k q gs c) e o r h =
      items_left R hi c (last_frames (last_end e q) gs) o.2 (lasts_left R lo hi gs (last_end e q) o.1 r (items_left R lo q e o.0 h))

  lasts_left : (R : ℕ → ℕ → Type 0) (lo hi : ℕ) (fs : Frames) (e : End) → AreRoundOff R fs → Rising lo (all_places fs) hi → IsLeft R lo e → IsLeft R hi (last_frames e fs)
  lasts_left R lo hi no_frames e o r h = left_higher R lo hi e r h
  lasts_left R lo hi (more_frames f fs) e o r h =
      let s : Halves lo (places_in f) (all_places fs) hi = rising_split lo (places_in f) (all_places fs) hi r in
      lasts_left R s.middle hi fs (last_frame e f) o.1 s.rest (last_left R lo s.middle f e o.0 s.first h)

-- ---- so each block is clean where it is

mutual
  one_there : (R : ℕ → ℕ → Type 0) (t : ℕ → ItemTree) (lo hi : ℕ) (f : Frame) (e g : End) (x y : Option ℕ) → AreNoOthers R → AreBlocksOf R t (places_in f)
      → RoundOff R f → Rising lo (places_in f) hi → IsLeft R lo e → IsRight R hi g → IsEnd R e x → IsEnd R g y → IsCleanThere t x f y
  one_there R t lo hi (place n) e g x y d b o r l m ex gy =
      let own : IsBlockOf (R n) (t n) = b.0 in
      let lt : n < hi = (let le : suc n ≤ hi = r.1 in omega (arith, le)) in
      let holds = own.holds in
      clean_there x y (t n) holds.clean
      (record {
        first = cut_before R lo n e x (first_of (tree_items (t n)) y) d l r.0 ex (own.first y);
        last = cut_behind R hi n g (last_of x (tree_items (t n))) y d m lt (own.last x) gy;
      })
  one_there R t lo hi (whole u) e g x y d b o r l m ex gy = tt
  one_there R t lo hi (around k q gs c) e g x y d b o r l m ex gy =
      all_there R t lo hi gs (last_end e q) (first_end c g) (last_of x q) (first_of c y) d b o.1 r (items_left R lo q e o.0 l) (items_right R hi c g o.2 m)
      (items_last R q e x ex) (items_first R c g y gy)

  all_there : (R : ℕ → ℕ → Type 0) (t : ℕ → ItemTree) (lo hi : ℕ) (fs : Frames) (e g : End) (x y : Option ℕ) → AreNoOthers R → AreBlocksOf R t (all_places fs)
      → AreRoundOff R fs → Rising lo (all_places fs) hi → IsLeft R lo e → IsRight R hi g → IsEnd R e x → IsEnd R g y → AreCleanThere t x fs y
  all_there R t lo hi no_frames e g x y d b o r l m ex gy = tt
  all_there R t lo hi (more_frames f fs) e g x y d b o r l m ex gy =
      let s : Halves lo (places_in f) (all_places fs) hi = rising_split lo (places_in f) (all_places fs) hi r in
      let z = blocks_split R t (places_in f) (all_places fs) b in (
        one_there R t lo s.middle f e (first_frames fs g) x (first_of (held t fs) y) d z.0 o.0 s.first l (firsts_right R s.middle hi fs g o.1 s.rest m) ex
            (firsts_are R t fs g y z.1 gy),
        all_there R t s.middle hi fs (last_frame e f) g (last_of x (tree_items (tree_at t f))) y d z.1 o.1 s.rest (last_left R lo s.middle f e o.0 s.first l) m
            (last_is R t f e x z.0 ex) gy,
      )

-- ---- and the nodes round the blocks are as clean

and_all : (a b c d e f : Bool) → a ≡ true → b ≡ true → c ≡ true → d ≡ true → e ≡ true → f ≡ true → ((a && (b && (c && d))) && (e && f)) ≡ true
and_all true true true true true true p q r s t u = refl
and_all false b c d e f p q r s t u = absurd (cc)
and_all true false c d e f p q r s t u = absurd (cc)
and_all true true false d e f p q r s t u = absurd (cc)
and_all true true true false e f p q r s t u = absurd (cc)
and_all true true true true false f p q r s t u = absurd (cc)
and_all true true true true true false p q r s t u = absurd (cc)

clean_as : (t w : ℕ → ItemTree) (o p a b : Option ℕ) (k : Head) (q : List Item) (gs : Frames) (c : List Item) → is_leaf k.kind ≡ false
    → AllHavePage t (all_places gs) → AllHavePage w (all_places gs) → clean_at o p (tree_at t (around k q gs c)) ≡ true
    → (parted o (first_of q (first_of (held t gs) (first_of c p))) ≡ true → parted a (first_of q (first_of (held w gs) (first_of c b))) ≡ true)
    → (parted (last_of o q) (first_of (held t gs) (first_of c p)) ≡ true → parted (last_of a q) (first_of (held w gs) (first_of c b)) ≡ true)
    → (parted (last_of (last_of o q) (held t gs)) (first_of c p) ≡ true → parted (last_of (last_of a q) (held w gs)) (first_of c b) ≡ true)
    → (parted (last_of (last_of (last_of o q) (held t gs)) c) p ≡ true → parted (last_of (last_of (last_of a q) (held w gs)) c) b ≡ true)
    → clean_at a b (tree_at w (around k q gs c)) ≡ true
clean_as t w o p a b k q gs c leaf g h e one two three four =
    let first : Option ℕ = first_of (held t gs) (first_of c p) in
    let last : Option ℕ = last_of (last_of o q) (held t gs) in
    let next : Option ℕ = first_of (held w gs) (first_of c b) in
    let end : Option ℕ = last_of (last_of a q) (held w gs) in
    let any : Bool = list_any is_page (q ++ (held t gs ++ c)) in
    let some : Bool = list_any is_page (q ++ (held w gs ++ c)) in
    let f1 : Bool = parted o (first_of q first) in
    let f2 : Bool = parted (last_of o q) first in
    let f3 : Bool = parted last (first_of c p) in
    let f4 : Bool = parted (last_of last c) p in
    let own : Bool = list_all is_page (q ++ c) in
    let so : clean_so o p k q c first last any ≡ true = sym (clean_is o p k q c (forest (trees_at t gs)) leaf) ∙ e in
    let r = both (f1 && (f2 && (f3 && f4))) (own && (is_body k.kind || any)) so in
    let s = both f1 (f2 && (f3 && f4)) r.0 in
    let y = both f2 (f3 && f4) s.1 in
    let z = both f3 f4 y.1 in
    let v = both own (is_body k.kind || any) r.1 in
    let kept : (is_body k.kind || some) ≡ true = ap (λ (x : Bool). is_body k.kind || x) (sym (any_held t w (around k q gs c) g h)) ∙ v.1 in
    clean_is a b k q c (forest (trees_at w gs)) leaf
    ∙ and_all (parted a (first_of q next)) (parted (last_of a q) next) (parted end (first_of c b)) (parted (last_of end c) b) own (is_body k.kind || some)
    (one s.0) (two y.0) (three z.0) (four z.1) v.0 kept

mutual
  round_again : (R : ℕ → ℕ → Type 0) (t w : ℕ → ItemTree) (lo hi : ℕ) (f : Frame) (part : Part) (e g : End) (x a y b : Option ℕ) → AreNoOthers R → IsFrame f part
      → AreBlocksOf R t (places_in f) → AreBlocksOf R w (places_in f) → RoundOff R f → Rising lo (places_in f) hi → IsLeft R lo e → IsRight R hi g
      → IsEnd R e x → IsEnd R e a → IsEnd R g y → IsEnd R g b → IsClean t x f y → IsClean w a f b
  round_again R t w lo hi (place n) part e g x a y b d i bt bw o r l m ex ea gy gb k = tt
  round_again R t w lo hi (whole u) part e g x a y b d i bt bw o r l m ex ea gy gb k = tt
  round_again R t w lo hi (around j q gs c) part e g x a y b d i bt bw o r l m ex ea gy gb k =
      let e2 : End = last_end e q in
      let e3 : End = last_frames e2 gs in
      let e4 : End = last_end e3 c in
      let f3 : End = first_end c g in
      let f2 : End = first_frames gs f3 in
      let f1 : End = first_end q f2 in
      let l2 : IsLeft R lo e2 = items_left R lo q e o.0 l in
      let l3 : IsLeft R hi e3 = lasts_left R lo hi gs e2 o.1 r l2 in
      let l4 : IsLeft R hi e4 = items_left R hi c e3 o.2 l3 in
      let m3 : IsRight R hi f3 = items_right R hi c g o.2 m in
      let m2 : IsRight R lo f2 = firsts_right R lo hi gs f3 o.1 r m3 in
      let m1 : IsRight R lo f1 = items_right R lo q f2 o.0 m2 in
      let x2 : IsEnd R e2 (last_of x q) = items_last R q e x ex in
      let a2 : IsEnd R e2 (last_of a q) = items_last R q e a ea in
      let x3 : IsEnd R e3 (last_of (last_of x q) (held t gs)) = lasts_are R t gs e2 (last_of x q) bt x2 in
      let a3 : IsEnd R e3 (last_of (last_of a q) (held w gs)) = lasts_are R w gs e2 (last_of a q) bw a2 in
      let x4 : IsEnd R e4 (last_of (last_of (last_of x q) (held t gs)) c) = items_last R c e3 (last_of (last_of x q) (held t gs)) x3 in
      let a4 : IsEnd R e4 (last_of (last_of (last_of a q) (held w gs)) c) = items_last R c e3 (last_of (last_of a q) (held w gs)) a3 in
      let y3 : IsEnd R f3 (first_of c y) = items_first R c g y gy in
      let b3 : IsEnd R f3 (first_of c b) = items_first R c g b gb in
      let y2 : IsEnd R f2 (first_of (held t gs) (first_of c y)) = firsts_are R t gs f3 (first_of c y) bt y3 in
      let b2 : IsEnd R f2 (first_of (held w gs) (first_of c b)) = firsts_are R w gs f3 (first_of c b) bw b3 in
      let y1 : IsEnd R f1 (first_of q (first_of (held t gs) (first_of c y))) = items_first R q f2 (first_of (held t gs) (first_of c y)) y2 in
      let b1 : IsEnd R f1 (first_of q (first_of (held w gs) (first_of c b))) = items_first R q f2 (first_of (held w gs) (first_of c b)) b2 in (
        clean_as t w x y a b j q gs c (no_leaf part i.0 j.kind i.1) (have_page R t (all_places gs) bt) (have_page R w (all_places gs) bw) k.0
            (cut_again R lo e f1 x a (first_of q (first_of (held t gs) (first_of c y))) (first_of q (first_of (held w gs) (first_of c b))) d l m1 ex ea y1 b1)
            (cut_again R lo e2 f2 (last_of x q) (last_of a q) (first_of (held t gs) (first_of c y)) (first_of (held w gs) (first_of c b)) d l2 m2 x2 a2 y2 b2)
            (cut_again R hi e3 f3 (last_of (last_of x q) (held t gs)) (last_of (last_of a q) (held w gs)) (first_of c y) (first_of c b) d l3 m3 x3 a3 y3 b3)
            (cut_again R hi e4 g (last_of (last_of (last_of x q) (held t gs)) c) (last_of (last_of (last_of a q) (held w gs)) c) y b d l4 m x4 a4 gy gb),
        all_again R t w lo hi gs i.0 e2 f3 (last_of x q) (last_of a q) (first_of c y) (first_of c b) d i.2 bt bw o.1 r l2 m3 x2 a2 y3 b3 k.1,
      )

  all_again : (R : ℕ → ℕ → Type 0) (t w : ℕ → ItemTree) (lo hi : ℕ) (fs : Frames) (part : Part) (e g : End) (x a y b : Option ℕ) → AreNoOthers R → AreFrames fs part
      → AreBlocksOf R t (all_places fs) → AreBlocksOf R w (all_places fs) → AreRoundOff R fs → Rising lo (all_places fs) hi → IsLeft R lo e → IsRight R hi g
      → IsEnd R e x → IsEnd R e a → IsEnd R g y → IsEnd R g b → AreClean t x fs y → AreClean w a fs b
  all_again R t w lo hi no_frames part e g x a y b d i bt bw o r l m ex ea gy gb k = tt
  all_again R t w lo hi (more_frames f fs) part e g x a y b d i bt bw o r l m ex ea gy gb k =
      let s : Halves lo (places_in f) (all_places fs) hi = rising_split lo (places_in f) (all_places fs) hi r in
      let u = blocks_split R t (places_in f) (all_places fs) bt in
      let v = blocks_split R w (places_in f) (all_places fs) bw in (
        round_again R t w lo s.middle f part e (first_frames fs g) x a (first_of (held t fs) y) (first_of (held w fs) b) d i.0 u.0 v.0 o.0 s.first l
            (firsts_right R s.middle hi fs g o.1 s.rest m) ex ea (firsts_are R t fs g y u.1 gy) (firsts_are R w fs g b v.1 gb) k.0,
        all_again R t w s.middle hi fs part (last_frame e f) g (last_of x (tree_items (tree_at t f))) (last_of a (tree_items (tree_at w f))) y b d i.1 u.1 v.1 o.1 s.rest
            (last_left R lo s.middle f e o.0 s.first l) m (last_is R t f e x u.0 ex) (last_is R w f e a v.0 ea) gy gb k.1,
      )

-- ---- of a page

-- Nothing round the blocks comes from their calls; their numbers go up.
pub record AreByNumbers (R : ℕ → ℕ → Type 0) (fs : Frames) (n : ℕ) : Type 0 where
  pub no_others : AreNoOthers R
  pub off : AreRoundOff R fs
  pub rising : Rising 0 (all_places fs) n

pub blocks_clean : (R : ℕ → ℕ → Type 0) (t : ℕ → ItemTree) (fs : Frames) (n : ℕ) → AreByNumbers R fs n → AreBlocksOf R t (all_places fs) → AreCleanThere t None fs None
blocks_clean R t fs n h b = all_there R t 0 n fs (from_call None) (from_call None) None None h.no_others b h.off h.rising tt tt refl refl

pub round_clean : (R : ℕ → ℕ → Type 0) (t w : ℕ → ItemTree) (fs : Frames) (part : Part) (n : ℕ) → AreByNumbers R fs n → AreFrames fs part → AreBlocksOf R t (all_places fs)
    → AreBlocksOf R w (all_places fs) → AreClean t None fs None → AreClean w None fs None
round_clean R t w fs part n h i b c k =
    all_again R t w 0 n fs part (from_call None) (from_call None) None None None None h.no_others i b c h.off h.rising tt tt refl refl refl refl k

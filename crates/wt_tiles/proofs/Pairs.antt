-- Tags that balance, read from the right: what is known of fewer items.
use Rattle.std.proofs.Common.{◌≡◌, ◌≢◌, ℕ, zero, suc, ◌+◌, ◌-◌, ◌<◌, ◌≤◌, ◌⊎◌, ◌==◌, Bool, true, false, Option, Some, None, List, [], ◌∷◌, length, drop, refl, sym, ap, ◌∙◌, arith, subst, inl, inr, length-drop, drop-drop}
use Rattle.std.specs.Prelude.{if◌then◌else◌, slice_get, slice_set, ◌++◌}
use Rattle.std.proofs.lemmas.Bool.{eqb-true, cases_lt}
use Rattle.std.proofs.lemmas.Bool.Decides.{nat_tests}
use Rattle.wt_span.specs.declared.tag_name.TagName.{TagName}
use Rattle.wt_tiles.specs.declared.glyph.Glyph.{Glyph}
use Rattle.wt_tiles.specs.declared.tag.Name.{Name}
use Rattle.wt_tiles.specs.declared.tag.Name.TheVariants.{Paired, Break, Island}
use Rattle.wt_tiles.specs.declared.tag.TagShape.{TagShape}
use Rattle.wt_tiles.specs.declared.tag.TagShape.TheVariants.{Opening, Alone, Closing}
use Rattle.wt_tiles.specs.declared.tag.Tag.{Tag}
use Rattle.wt_tiles.specs.Tags.{tag_at}
use Rattle.wt_tiles.specs.Partners.{DepthChange, Up, Down, Level, number, turn_of_shape, turn_of_name, turn_of_tag, tag_turn, by_tag, partner}
use Rattle.wt_tiles.specs.Tables.{left_of, nearest, nearest_named, nearest_of, own_partner, entry, nearest_by, option_join, AreNearest}
use Rattle.wt_tiles.proofs.Words.{false_true}
use Rattle.wt_tiles.proofs.Balances.{and_then}
use Rattle.wt_tiles.proofs.Fits.{OptPartner, partner_fits}

-- ---- one more is to be closed: what closes it comes after what closes the others

two_by : (k : ℕ) (t : DepthChange) (d : ℕ) (g : Glyph) (gs : List Glyph) → ((e : ℕ) → partner k (suc e) gs ≡ and_then (partner k e gs) (λ ys. partner k 0 (drop 1 ys)))
    → by_tag t (suc d) (g ∷ gs) (λ e. partner k e gs) ≡ and_then (by_tag t d (g ∷ gs) (λ e. partner k e gs)) (λ ys. partner k 0 (drop 1 ys))
two_by k Up d g gs ih = ih (suc d)
two_by k Level d g gs ih = ih d
two_by k Down zero g gs ih = refl
two_by k Down (suc d) g gs ih = ih d

two : (k d : ℕ) (gs : List Glyph) → partner k (suc d) gs ≡ and_then (partner k d gs) (λ ys. partner k 0 (drop 1 ys))
two k d [] = refl
two k d (g ∷ gs) = two_by k (tag_turn k (g ∷ gs)) d g gs (λ e. two k e gs)

-- ---- what the tag at the front does to each name

turned : (k : ℕ) (t : DepthChange) (g : Glyph) (gs : List Glyph) → tag_turn k (g ∷ gs) ≡ t → partner k 0 (g ∷ gs) ≡ by_tag t 0 (g ∷ gs) (λ e. partner k e gs)
turned k t g gs e = ap (λ u. by_tag u 0 (g ∷ gs) (λ e. partner k e gs)) e

pub level_nearest : (k : ℕ) (gs : List Glyph) → 0 < length gs → tag_turn k gs ≡ Level → nearest k gs ≡ nearest k (drop 1 gs)
level_nearest k [] h e = absurd (omega arith)
level_nearest k (g ∷ gs) h e = ap left_of (turned k Level g gs e)

pub down_nearest : (k : ℕ) (gs : List Glyph) → 0 < length gs → tag_turn k gs ≡ Down → nearest k gs ≡ Some (length gs)
down_nearest k [] h e = absurd (omega arith)
down_nearest k (g ∷ gs) h e = ap left_of (turned k Down g gs e)

-- what is left where tags balance is an end of the items
pub record IsEnd (k : ℕ) (gs ys : List Glyph) : Type 0 where
  pub turn : tag_turn k ys ≡ Down
  pub some : 0 < length ys
  pub within : length ys ≤ length gs
  pub is : drop (length gs - length ys) gs ≡ ys

pub end_of : (k : ℕ) (gs ys : List Glyph) (o : Option (List Glyph)) → o ≡ Some ys → OptPartner k gs o → IsEnd k gs ys
end_of k gs ys o e f =
    let P : Option (List Glyph) → Type 0 = λ p. OptPartner k gs p in
    by (subst P e f)
  where
    by : OptPartner k gs (Some ys) → IsEnd k gs ys
    by (turn, i, is, below) =
        let size : length ys + i ≡ length gs = omega (arith, ap (λ (hs : List Glyph). length hs) is, length-drop i gs) in
        let z : length gs - length ys ≡ i = omega arith in
        record { turn = turn; some = omega arith; within = omega arith; is = ap (λ m. drop m gs) z ∙ is }

up_is : (k : ℕ) (gs : List Glyph) → 0 < length gs → tag_turn k gs ≡ Up → partner k 0 gs ≡ and_then (partner k 0 (drop 1 gs)) (λ ys. partner k 0 (drop 1 ys))
up_is k [] h e = absurd (omega arith)
up_is k (g ∷ gs) h e = turned k Up g gs e ∙ two k 0 gs

-- ---- the tag's own name

is_down : DepthChange → Bool
is_down Up = false
is_down Down = true
is_down Level = false

-- no turn is Level and Down
level_down : {X : Type 0} → Level ≡ Down → X
unfolding is_down
level_down e = false_true (ap is_down e)

if_same : (k : ℕ) (m : TagName) (s : TagShape) (b : Bool) → (b ≡ true → number m ≡ k) → (if b then turn_of_shape s else Level) ≡ Down → number m ≡ k
if_same k m s true h q = h refl
if_same k m s false h q = level_down q

own_named : (k : ℕ) (n : Name) (s : TagShape) (gs : List Glyph) → turn_of_name k n s ≡ Down → nearest_named n gs ≡ nearest k gs
own_named k (Paired m) s gs q = ap (λ (i : ℕ). nearest i gs) (if_same k m s (number m == k) (λ h. eqb-true (number m) k h) q)
own_named k Break s gs q = level_down q
own_named k Island s gs q = level_down q

-- a closing tag of the k-th name is of that name
own_by : (k : ℕ) (o : Option Tag) (gs : List Glyph) → turn_of_tag k o ≡ Down → nearest_of o gs ≡ nearest k gs
own_by k None gs e = level_down e
own_by k (Some t) gs e = own_named k t.name t.shape gs e

own_is : (gs : List Glyph) → 0 < length gs → own_partner gs ≡ nearest_of (tag_at gs) (drop 1 gs)
own_is [] h = absurd (omega arith)
own_is (g ∷ gs) h = refl

abbrev pub AreKnown : List Glyph → List (Option ℕ) → Type 0
AreKnown gs table = (k : ℕ) → k < length gs → slice_get table k ≡ Some (own_partner (drop (length gs - k) gs))

-- what the table says of the nearest closing tag behind: the next one after it
up_by : (k : ℕ) (gs : List Glyph) (table : List (Option ℕ)) (o : Option (List Glyph)) → 0 < length gs → AreKnown gs table → partner k 0 (drop 1 gs) ≡ o
    → left_of (and_then o (λ ys. partner k 0 (drop 1 ys))) ≡ entry table (left_of o)
up_by k gs table None h known e = refl
up_by k gs table (Some ys) h known e =
    let end = end_of k (drop 1 gs) ys (partner k 0 (drop 1 gs)) e (partner_fits k 0 (drop 1 gs)) in
    let size : length (drop 1 gs) + 1 ≡ length gs = omega (arith, length-drop 1 gs) in
    let z : 1 + (length (drop 1 gs) - length ys) ≡ length gs - length ys = omega (arith, end.within) in
    let there : drop (length gs - length ys) gs ≡ ys = ap (λ m. drop m gs) (sym z) ∙ sym (drop-drop (length (drop 1 gs) - length ys) 1 gs) ∙ end.is in
    let own : own_partner ys ≡ nearest k (drop 1 ys) = own_is ys end.some ∙ own_by k (tag_at ys) (drop 1 ys) end.turn in
    sym (ap option_join (known (length ys) (omega (arith, end.within))) ∙ ap own_partner there ∙ own)

pub up_nearest : (k : ℕ) (gs : List Glyph) (table : List (Option ℕ)) → 0 < length gs → AreKnown gs table → tag_turn k gs ≡ Up
    → nearest k gs ≡ entry table (nearest k (drop 1 gs))
up_nearest k gs table h known e = ap left_of (up_is k gs h e) ∙ up_by k gs table (partner k 0 (drop 1 gs)) h known refl

-- where the nearest one lies
nearest_by_fits : (k : ℕ) (gs : List Glyph) (o : Option (List Glyph)) (q : ℕ) → partner k 0 gs ≡ o → left_of o ≡ Some q → q ≤ length gs
nearest_by_fits k gs None q e h = let F : Option ℕ → Bool = λ o. elim o as (λ _. Bool) [ None ↦ false | Some m ↦ true ] in false_true (ap F h)
nearest_by_fits k gs (Some ys) q e h =
    let F : Option ℕ → ℕ = λ o. elim o as (λ _. ℕ) [ None ↦ 0 | Some m ↦ m ] in
    let same : length ys ≡ q = ap F h in
    let end = end_of k gs ys (partner k 0 gs) e (partner_fits k 0 gs) in
    omega (arith, end.within)

pub nearest_within : (k : ℕ) (gs : List Glyph) (q : ℕ) → nearest k gs ≡ Some q → q ≤ length gs
nearest_within k gs q h = nearest_by_fits k gs (partner k 0 gs) q refl h

-- ---- one item to the left

pub own_turn : (m : TagName) (s : TagShape) → turn_of_name (number m) (Paired m) s ≡ turn_of_shape s
own_turn m s = let e : (number m == number m) ≡ true = grind (arith, nat_tests) in ap (λ (b : Bool). if b then turn_of_shape s else Level) e

other_turn : (k : ℕ) (m : TagName) (s : TagShape) → number m ≢ k → turn_of_name k (Paired m) s ≡ Level
other_turn k m s h = let e : (number m == k) ≡ false = grind (arith, nat_tests) in ap (λ (b : Bool). if b then turn_of_shape s else Level) e

turn_here : (k : ℕ) (gs : List Glyph) (t : Tag) (n : Name) → tag_at gs ≡ Some t → t.name ≡ n → tag_turn k gs ≡ turn_of_name k n t.shape
turn_here k gs t n e same = ap (turn_of_tag k) e ∙ ap (λ (m : Name). turn_of_name k m t.shape) same

-- the nearest of the tag's own name
pub own_next : (gs : List Glyph) (table : List (Option ℕ)) (t : Tag) (m : TagName) → 0 < length gs → AreKnown gs table → tag_at gs ≡ Some t → t.name ≡ Paired m
    → nearest_by table t.shape (length gs) (nearest (number m) (drop 1 gs)) ≡ nearest (number m) gs
own_next gs table t m h known e same = by t.shape (turn_here (number m) gs t (Paired m) e same ∙ own_turn m t.shape)
  where
    by : (s : TagShape) → tag_turn (number m) gs ≡ turn_of_shape s → nearest_by table s (length gs) (nearest (number m) (drop 1 gs)) ≡ nearest (number m) gs
    by Opening q = sym (up_nearest (number m) gs table h known q)
    by Alone q = sym (level_nearest (number m) gs h q)
    by Closing q = sym (down_nearest (number m) gs h q)

-- of another name nothing changes
pub other_next : (k : ℕ) (gs : List Glyph) (t : Tag) (m : TagName) → 0 < length gs → tag_at gs ≡ Some t → t.name ≡ Paired m
    → number m ≢ k → nearest k gs ≡ nearest k (drop 1 gs)
other_next k gs t m h e same other = level_nearest k gs h (turn_here k gs t (Paired m) e same ∙ other_turn k m t.shape other)

-- nor where no tag of a pair stands
pub none_next : (k : ℕ) (gs : List Glyph) → 0 < length gs → tag_at gs ≡ None → nearest k gs ≡ nearest k (drop 1 gs)
none_next k gs h e = level_nearest k gs h (ap (turn_of_tag k) e)

pub break_next : (k : ℕ) (gs : List Glyph) (t : Tag) → 0 < length gs → tag_at gs ≡ Some t → t.name ≡ Break → nearest k gs ≡ nearest k (drop 1 gs)
break_next k gs t h e same = level_nearest k gs h (turn_here k gs t Break e same)

pub island_next : (k : ℕ) (gs : List Glyph) (t : Tag) → 0 < length gs → tag_at gs ≡ Some t → t.name ≡ Island → nearest k gs ≡ nearest k (drop 1 gs)
island_next k gs t h e same = level_nearest k gs h (turn_here k gs t Island e same)

pub own_of : (gs : List Glyph) (t : Tag) (n : Name) → 0 < length gs → tag_at gs ≡ Some t → t.name ≡ n → own_partner gs ≡ nearest_named n (drop 1 gs)
own_of gs t n h e same = own_is gs h ∙ ap (λ (o : Option Tag). nearest_of o (drop 1 gs)) e ∙ ap (λ (m : Name). nearest_named m (drop 1 gs)) same

pub own_none : (gs : List Glyph) → 0 < length gs → tag_at gs ≡ None → own_partner gs ≡ None
own_none gs h e = own_is gs h ∙ ap (λ (o : Option Tag). nearest_of o (drop 1 gs)) e

-- all names at once
pub all_next : (gs : List Glyph) (table : List (Option ℕ)) → AreNearest (drop 1 gs) table
    → ((k : ℕ) → nearest k gs ≡ nearest k (drop 1 gs)) → AreNearest gs table
all_next gs table a same = record { size = a.size; known = λ k below. a.known k below ∙ ap (λ (o : Option ℕ). Some o) (sym (same k)) }

-- ---- tables

get_set_same : {A : Type 0} → (xs : List A) (i : ℕ) (v : A) → i < length xs → slice_get (slice_set xs i v) i ≡ Some v
get_set_same [] i v h = absurd (omega arith)
get_set_same (x ∷ xs) zero v h = refl
get_set_same (x ∷ xs) (suc i) v h = get_set_same xs i v (omega arith)

get_set_other : {A : Type 0} → (xs : List A) (i k : ℕ) (v : A) → i ≢ k → slice_get (slice_set xs i v) k ≡ slice_get xs k
get_set_other [] i k v h = refl
get_set_other (x ∷ xs) zero zero v h = absurd (h refl)
get_set_other (x ∷ xs) zero (suc k) v h = refl
get_set_other (x ∷ xs) (suc i) zero v h = refl
get_set_other (x ∷ xs) (suc i) (suc k) v h = get_set_other xs i k v (λ e. h (omega arith))

set_len : {A : Type 0} → (xs : List A) (i : ℕ) (v : A) → length (slice_set xs i v) ≡ length xs
set_len [] i v = refl
set_len (x ∷ xs) zero v = refl
set_len (x ∷ xs) (suc i) v = omega (arith, set_len xs i v)

pub set_next : (gs : List Glyph) (old : List (Option ℕ)) (i : ℕ) (r : Option ℕ) → i < 7 → AreNearest (drop 1 gs) old
    → r ≡ nearest i gs → ((k : ℕ) → i ≢ k → nearest k gs ≡ nearest k (drop 1 gs)) → AreNearest gs (slice_set old i r)
set_next gs old i r within a is same = record {
  size = set_len old i r ∙ a.size;
  known = λ k below. by k below (i == k) refl;
}
  where
    by : (k : ℕ) → k < 7 → (b : Bool) → (i == k) ≡ b → slice_get (slice_set old i r) k ≡ Some (nearest k gs)
    by k below true e =
        let eq : i ≡ k = eqb-true i k e in
        let P : ℕ → Type 0 = λ m. slice_get (slice_set old i r) m ≡ Some (nearest m gs) in
        subst P eq (get_set_same old i r (omega (arith, a.size)) ∙ ap (λ (o : Option ℕ). Some o) is)
    by k below false e =
        let ne : i ≢ k = grind (arith, nat_tests) in
        get_set_other old i k r ne ∙ a.known k below ∙ ap (λ (o : Option ℕ). Some o) (sym (same k ne))

get_here : {A : Type 0} → (xs : List A) (x : A) (k : ℕ) → k ≡ length xs → slice_get (xs ++ x ∷ []) k ≡ Some x
get_here [] x zero e = refl
get_here [] x (suc k) e = absurd (omega arith)
get_here (y ∷ xs) x zero e = absurd (omega arith)
get_here (y ∷ xs) x (suc k) e = get_here xs x k (omega arith)

get_before : {A : Type 0} → (xs : List A) (x : A) (k : ℕ) → k < length xs → slice_get (xs ++ x ∷ []) k ≡ slice_get xs k
get_before [] x k h = absurd (omega arith)
get_before (y ∷ xs) x zero h = refl
get_before (y ∷ xs) x (suc k) h = get_before xs x k (omega arith)

abbrev pub IsUpTo : List Glyph → List (Option ℕ) → ℕ → Type 0
IsUpTo gs table left = (k : ℕ) → k ≤ left → slice_get table k ≡ Some (own_partner (drop (length gs - k) gs))

pub push_next : (gs : List Glyph) (old new : List (Option ℕ)) (left : ℕ) (e : Option ℕ) → length old ≡ left + 1
    → IsUpTo gs old left → new ≡ old ++ e ∷ [] → e ≡ own_partner (drop (length gs - (left + 1)) gs) → IsUpTo gs new (left + 1)
push_next gs old new left e size known news is k below = ap (λ (t : List (Option ℕ)). slice_get t k) news ∙ by (cases_lt k (length old))
  where
    by : (k < length old) ⊎ (length old ≤ k) → slice_get (old ++ e ∷ []) k ≡ Some (own_partner (drop (length gs - k) gs))
    by (inl h) = get_before old e k h ∙ known k (omega arith)
    by (inr h) =
        let z : left + 1 ≡ k = omega arith in
        get_here old e k (omega arith) ∙ ap (λ (o : Option ℕ). Some o) is ∙ ap (λ m. Some (own_partner (drop (length gs - m) gs))) z

pub push_size : {A : Type 0} → (old new : List A) (e : A) → new ≡ old ++ e ∷ [] → length new ≡ length old + 1
push_size old new e is = ap (λ (t : List _). length t) is ∙ by old
  where
    by : (xs : List _) → length (xs ++ e ∷ []) ≡ length xs + 1
    by [] = refl
    by (x ∷ xs) = omega (arith, by xs)

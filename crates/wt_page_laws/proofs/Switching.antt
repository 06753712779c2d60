-- The part that a `#switch` gives is the one that its rule names.
use Rattle.std.proofs.Common.{◌≡◌, refl, sym, ◌∙◌, ap, subst, ℕ, zero, suc, ◌+◌, ◌-◌, ◌<◌, ◌≤◌, Bool, true, false, cond, Option, Some, None, List, [], ◌∷◌, length, drop, get_or, arith, length-drop, inl, inr}
use Rattle.std.proofs.lemmas.Bool.{cases_lt}
use Rattle.std.proofs.lemmas.List.{get_or-drop}
use Rattle.std.proofs.lemmas.List.Quantifiers.{position-Some}
use Rattle.std.proofs.lemmas.Option.{get_or_from_slice_get, slice_get-get_or}
use Rattle.std.proofs.lemmas.Slice.Eq.{bytes_eq-Decides}
use Rattle.std.specs.List.{position, slice_get}
use Rattle.std.specs.Option.{option_map, option_and_then}
use Rattle.std.specs.Prelude.{codes, ◌&&◌}
use Rattle.std.specs.Str.{bytes_eq}
use Rattle.wt_span.specs.declared.function.Function.TheVariants.{Switch}
use Rattle.wt_functions.specs.Choice.{text_at, first_from, equal_part, value_from, last_whole, is_default, last_default, chosen}
use Rattle.wt_functions.proofs.EqualParts.{none_passes}
use Rattle.wt_page_laws.specs.ReadingPlaces.{IsFirst, IsLast, IsNowhere}
use Rattle.wt_page_laws.specs.Switches.{Has, IsEqual, IsValue, IsWholeEnd, IsDefault}

-- ---- the first place from one on

record Begins {A : Type 0} (p : A → Bool) (xs : List A) (at k : ℕ) : Type 0 where
  low : at ≤ k
  high : k < length xs
  passes : (d : A) → p (get_or xs k d) ≡ true
  others : (j : ℕ) (d : A) → at ≤ j → j < k → p (get_or xs j d) ≡ false

first_by : {A : Type 0} (p : A → Bool) (xs : List A) (at k : ℕ) (o : Option ℕ) → position p (drop at xs) ≡ o → option_map (λ j. at + j) o ≡ Some k → Begins p xs at k
first_by p xs at k None e h = cc
first_by p xs at k (Some j) e h =
    let s : at + j ≡ k = cc in
    let n : length (drop at xs) ≡ length xs - at = length-drop at xs in
    let within : j < length (drop at xs) = below p (drop at xs) j e in
    record {
      low = omega arith;
      high = omega arith;
      passes = λ d. ap (λ i. p (get_or xs i d)) (sym s) ∙ ap p (sym (get_or-drop at xs j d)) ∙ (position-Some p (drop at xs) j d e).1;
      others = λ i d l h.
          let back : at + (i - at) ≡ i = omega arith in
          ap (λ m. p (get_or xs m d)) (sym back) ∙ ap p (sym (get_or-drop at xs (i - at) d)) ∙ (position-Some p (drop at xs) j d e).2 (i - at) (omega arith);
    }
  where
    below : {A : Type 0} (p : A → Bool) (ys : List A) (j : ℕ) → position p ys ≡ Some j → j < length ys
    below p [] j e = cc
    below p (y ∷ ys) j e = (position-Some p (y ∷ ys) j y e).0

first_some : {A : Type 0} (p : A → Bool) (xs : List A) (at k : ℕ) → first_from at p xs ≡ Some k → Begins p xs at k
first_some p xs at k e = first_by p xs at k (position p (drop at xs)) refl e

map_none : (o : Option ℕ) (at : ℕ) → option_map (λ j. at + j) o ≡ None → o ≡ None
map_none None at h = refl
map_none (Some k) at h = cc

first_none : {A : Type 0} (p : A → Bool) (xs : List A) (at j : ℕ) (d : A) → first_from at p xs ≡ None → at ≤ j → j < length xs → p (get_or xs j d) ≡ false
first_none p xs at j d e l h =
    let n : length (drop at xs) ≡ length xs - at = length-drop at xs in
    let back : at + (j - at) ≡ j = omega arith in
    ap (λ m. p (get_or xs m d)) (sym back) ∙ ap p (sym (get_or-drop at xs (j - at) d))
    ∙ none_passes p (drop at xs) (j - at) d (map_none (position p (drop at xs)) at e) (omega arith)

-- ---- parts, as the definition reads them

abbrev id : Bool → Bool
id e = e

within : {A : Type 0} (xs : List A) (i : ℕ) (x : A) → slice_get xs i ≡ Some x → i < length xs
within [] i x e = cc
within (y ∷ ys) zero x e = omega arith
within (y ∷ ys) (suc i) x e = let l : i < length ys = within ys i x e in omega arith

told : (s : Bool) (es : List Bool) (k : ℕ) → Has s es (suc k) → slice_get es k ≡ Some s
told s es k h = let one : suc k - 1 ≡ k = omega arith in ap (slice_get es) (sym one) ∙ h.1

sign_there : (s : Bool) (es : List Bool) (part : ℕ) → Has s es part → (part ≤ length es) × (get_or (false ∷ es) part true ≡ s)
sign_there s es zero h = absurd (omega arith)
sign_there s es (suc k) h = (let l : k < length es = within es k s (told s es k h) in omega arith, get_or_from_slice_get es k s true (told s es k h))

sign_has : (s : Bool) (es : List Bool) (part : ℕ) (d : Bool) → 0 < part → part ≤ length es → get_or (false ∷ es) part d ≡ s → Has s es part
sign_has s es zero d some l h = absurd (omega arith)
sign_has s es (suc k) d some l h = let one : suc k - 1 ≡ k = omega arith in (omega arith, ap (slice_get es) one ∙ slice_get-get_or es k d (omega arith) ∙ ap Some h)

equal_there : (ts : List (List ℕ)) (part : ℕ) → IsEqual ts part → bytes_eq (get_or ts part []) (text_at ts 0) ≡ true
equal_there ts part h =
    (bytes_eq-Decides (get_or ts part []) (get_or ts 0 [])).1 (get_or_from_slice_get ts part h.text [] h.same ∙ sym (get_or_from_slice_get ts 0 h.text [] h.first))

equal_has : (ts : List (List ℕ)) (part : ℕ) → 0 < part → part < length ts → bytes_eq (get_or ts part []) (text_at ts 0) ≡ true → IsEqual ts part
equal_has ts part some l h = record {
  text = get_or ts 0 [];
  behind = some;
  first = slice_get-get_or ts 0 [] (omega arith);
  same = slice_get-get_or ts part [] l ∙ ap Some ((bytes_eq-Decides (get_or ts part []) (get_or ts 0 [])).0 h);
}

-- ---- the part with the value

abbrev reached : List Bool → List (List ℕ) → Option ℕ
reached es ts = option_and_then (value_from es) (equal_part ts)

-- no part is equal
no_equal : (ts : List (List ℕ)) → equal_part ts ≡ None → IsNowhere (IsEqual ts)
unfolding equal_part
no_equal ts e part h =
    let no : bytes_eq (get_or ts part []) (text_at ts 0) ≡ false =
    first_none (λ t. bytes_eq t (text_at ts 0)) ts 1 part [] e (let b : 0 < part = h.behind in omega arith) (within ts part h.text h.same) in
    let yes : bytes_eq (get_or ts part []) (text_at ts 0) ≡ true = equal_there ts part h in
    cc

-- the first equal part
record Equals (ts : List (List ℕ)) (k : ℕ) : Type 0 where
  is : IsEqual ts k
  least : (j : ℕ) → IsEqual ts j → k ≤ j

equal_first : (ts : List (List ℕ)) (k : ℕ) → equal_part ts ≡ Some k → Equals ts k
unfolding equal_part
equal_first ts k e =
    let b : Begins (λ t. bytes_eq t (text_at ts 0)) ts 1 k = first_some (λ t. bytes_eq t (text_at ts 0)) ts 1 k e in
    record {
      is = equal_has ts k (let l : 1 ≤ k = b.low in omega arith) b.high (b.passes []);
      least = λ j h. elim (cases_lt j k) [
        | inl below ↦
            let no : bytes_eq (get_or ts j []) (text_at ts 0) ≡ false = b.others j [] (let s : 0 < j = h.behind in omega arith) below in
            let yes : bytes_eq (get_or ts j []) (text_at ts 0) ≡ true = equal_there ts j h in
            cc
        | inr above ↦ above
      ];
    }

none_value : (es : List Bool) (ts : List (List ℕ)) (o : Option ℕ) → equal_part ts ≡ o → option_and_then (value_from es) o ≡ None → IsNowhere (IsValue es ts)
none_value es ts None e h part v = no_equal ts e v.equal v.is_equal
none_value es ts (Some k) e h part v =
    let first : Equals ts k = equal_first ts k e in
    let low : k ≤ v.equal = first.least v.equal v.is_equal in
    let above : v.equal ≤ part = v.reached in
    let s : (part ≤ length es) × (get_or (false ∷ es) part true ≡ true) = sign_there true es part v.has_sign in
    let no : get_or (false ∷ es) part true ≡ false = first_none id (false ∷ es) k part true h (omega arith) (let l : part ≤ length es = s.0 in omega arith) in
    cc

some_value : (es : List Bool) (ts : List (List ℕ)) (k : ℕ) (o : Option ℕ) → equal_part ts ≡ o → option_and_then (value_from es) o ≡ Some k → IsFirst (IsValue es ts) k
some_value es ts k None e h = cc
some_value es ts k (Some n) e h =
    let first : Equals ts n = equal_first ts n e in
    let b : Begins id (false ∷ es) n k = first_some id (false ∷ es) n k h in
    let some : 0 < n = first.is.behind in
    let low : n ≤ k = b.low in
    let high : k < length (false ∷ es) = b.high in
    record {
      here = record { has_sign = sign_has true es k true (omega arith) (omega arith) (b.passes true); equal = n; is_equal = first.is; reached = low };
      none_before = λ m below v.
          let least : n ≤ v.equal = first.least v.equal v.is_equal in
          let above : v.equal ≤ m = v.reached in
          let yes : get_or (false ∷ es) m true ≡ true = (sign_there true es m v.has_sign).1 in
          let no : get_or (false ∷ es) m true ≡ false = b.others m true (omega arith) below in
          cc;
    }

-- ---- the last part

end_by : (b : Bool) (n : ℕ) → b ≡ false → cond b None (Some n) ≡ Some n
end_by true n e = cc
end_by false n e = refl

is_end : (es : List Bool) (k : ℕ) → IsWholeEnd es k → last_whole es ≡ Some k
unfolding last_whole
is_end [] k w = absurd (let l : k ≡ 0 = w.last in let s : 0 < k = w.whole.0 in omega arith)
is_end (e ∷ es) k w =
    let p : get_or (true ∷ e ∷ es) k true ≡ get_or (false ∷ e ∷ es) k true = tails k w.whole.0 in
    subst (λ n. cond (get_or (true ∷ e ∷ es) n true) None (Some n) ≡ Some k) w.last
    (end_by (get_or (true ∷ e ∷ es) k true) k (p ∙ (sign_there false (e ∷ es) k w.whole).1))
  where
    tails : (k : ℕ) → 0 < k → get_or (true ∷ e ∷ es) k true ≡ get_or (false ∷ e ∷ es) k true
    tails zero h = absurd (omega arith)
    tails (suc k) h = refl

no_end_by : (b : Bool) (n : ℕ) → (b ≡ false → ⊥) → cond b None (Some n) ≡ None
no_end_by true n h = refl
no_end_by false n h = absurd (h refl)

no_end : (es : List Bool) → IsNowhere (IsWholeEnd es) → last_whole es ≡ None
unfolding last_whole
no_end [] h = refl
no_end (e ∷ es) h =
    no_end_by (get_or (e ∷ es) (length es) true) (suc (length es))
    (λ no. h (suc (length es)) (record { last = refl; whole = sign_has false (e ∷ es) (suc (length es)) true (omega arith) (omega arith) no }))

-- ---- `#default`

both : (a b : Bool) → (a && b) ≡ true → (a ≡ true) × (b ≡ true)
both true true e = (refl, refl)
both true false e = cc
both false b e = cc

default_there : (es : List Bool) (ts : List (List ℕ)) (k : ℕ) → IsDefault es ts k → is_default es ts k ≡ true
default_there es ts zero h = absurd (let s : 0 < 0 = h.has_sign.0 in omega arith)
default_there es ts (suc k) h =
    rw (get_or_from_slice_get es k true false (told true es k h.has_sign), (bytes_eq-Decides (get_or ts (suc k) []) (codes "#default")).1 (get_or_from_slice_get ts (suc k) (codes "#default") [] h.named)) refl

filled : (ts : List (List ℕ)) (k : ℕ) (t : List ℕ) → get_or ts k [] ≡ t → (t ≡ [] → ⊥) → slice_get ts k ≡ Some t
filled [] k t e h = absurd (h (sym e))
filled (x ∷ xs) zero t e h = ap Some e
filled (x ∷ xs) (suc k) t e h = filled xs k t e h

default_has : (es : List Bool) (ts : List (List ℕ)) (k : ℕ) → 0 < k → k ≤ length es → is_default es ts k ≡ true → IsDefault es ts k
default_has es ts k some l h =
    let b : (get_or (false ∷ es) k false ≡ true) × (bytes_eq (text_at ts k) (codes "#default") ≡ true) =
    both (get_or (false ∷ es) k false) (bytes_eq (text_at ts k) (codes "#default")) h in
    record {
      has_sign = sign_has true es k false some l b.0;
      named = filled ts k (codes "#default") ((bytes_eq-Decides (text_at ts k) (codes "#default")).0 b.1) (λ e. cc);
    }

take_this : (b : Bool) (n : ℕ) (o : Option ℕ) → b ≡ true → cond b (Some n) o ≡ Some n
take_this true n o e = refl
take_this false n o e = cc

leave_this : (b : Bool) (n : ℕ) (o : Option ℕ) → (b ≡ true → ⊥) → cond b (Some n) o ≡ o
leave_this true n o h = absurd (h refl)
leave_this false n o h = refl

last_is : (es : List Bool) (ts : List (List ℕ)) (n k : ℕ) → n ≤ length es → k ≤ n → IsLast (IsDefault es ts) k → last_default es ts n ≡ Some k
last_is es ts zero k l le h = absurd (let s : 0 < k = h.here.has_sign.0 in omega arith)
last_is es ts (suc n) k l le h = elim (cases_lt k (suc n)) [
  | inl below ↦
      leave_this (is_default es ts (suc n)) (suc n) (last_default es ts n) (λ e. h.none_behind (suc n) below (default_has es ts (suc n) (omega arith) l e))
      ∙ last_is es ts n k (omega arith) (omega arith) h
  | inr here ↦
      let same : suc n ≡ k = omega arith in
      take_this (is_default es ts (suc n)) (suc n) (last_default es ts n) (ap (is_default es ts) same ∙ default_there es ts k h.here) ∙ ap Some same
]

no_default : (es : List Bool) (ts : List (List ℕ)) (n : ℕ) → n ≤ length es → IsNowhere (IsDefault es ts) → last_default es ts n ≡ None
no_default es ts zero l h = refl
no_default es ts (suc n) l h =
    leave_this (is_default es ts (suc n)) (suc n) (last_default es ts n) (λ e. h (suc n) (default_has es ts (suc n) (omega arith) l e))
    ∙ no_default es ts n (omega arith) h

-- ---- the part that is given

value_is : (es : List Bool) (ts : List (List ℕ)) (k : ℕ) (o : Option ℕ) → reached es ts ≡ o → IsFirst (IsValue es ts) k → o ≡ Some k
value_is es ts k None e h = absurd (none_value es ts (equal_part ts) refl e k h.here)
value_is es ts k (Some n) e h = ap Some (same (some_value es ts n (equal_part ts) refl e))
  where
    same : IsFirst (IsValue es ts) n → n ≡ k
    same f = elim (cases_lt n k) [
      | inl below ↦ absurd (h.none_before n below f.here)
      | inr le ↦ elim (cases_lt k n) [
        | inl above ↦ absurd (f.none_before k above h.here)
        | inr ge ↦ omega arith
      ]
    ]

no_value : (es : List Bool) (ts : List (List ℕ)) (o : Option ℕ) → reached es ts ≡ o → IsNowhere (IsValue es ts) → o ≡ None
no_value es ts None e h = refl
no_value es ts (Some n) e h = absurd (h n (some_value es ts n (equal_part ts) refl e).here)

pub gives_value : (es : List Bool) (ts : List (List ℕ)) (k : ℕ) → IsFirst (IsValue es ts) k → chosen Switch es ts ≡ Some k
unfolding chosen
gives_value es ts k h = rw (value_is es ts k (reached es ts) refl h) refl

pub gives_end : (es : List Bool) (ts : List (List ℕ)) (k : ℕ) → IsNowhere (IsValue es ts) → IsWholeEnd es k → chosen Switch es ts ≡ Some k
unfolding chosen
gives_end es ts k none h = rw (no_value es ts (reached es ts) refl none, is_end es k h) refl

pub gives_default : (es : List Bool) (ts : List (List ℕ)) (k : ℕ) → IsNowhere (IsValue es ts) → IsNowhere (IsWholeEnd es) → IsLast (IsDefault es ts) k → chosen Switch es ts ≡ Some k
unfolding chosen
gives_default es ts k none end h =
    let l : k ≤ length es = (sign_there true es k h.here.has_sign).0 in
    rw (no_value es ts (reached es ts) refl none, no_end es end, last_is es ts (length es) k (omega arith) l h) refl

pub gives_nothing : (es : List Bool) (ts : List (List ℕ)) → IsNowhere (IsValue es ts) → IsNowhere (IsWholeEnd es) → IsNowhere (IsDefault es ts) → chosen Switch es ts ≡ None
unfolding chosen
gives_nothing es ts none end h = rw (no_value es ts (reached es ts) refl none, no_end es end, no_default es ts (length es) (omega arith) h) refl

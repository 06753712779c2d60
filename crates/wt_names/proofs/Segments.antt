-- The eight forms of a step in a full name say together: one of its parts between slashes is `.` or `..`.
use Rattle.std.proofs.Common.{◌≡◌, ◌≢◌, ℕ, suc, ◌-◌, Bool, true, false, cond, ◌||◌, ◌&&◌, nat_eq, inl, inr, List, [], ◌∷◌, ◌++◌, length, drop, refl, sym, ap, ◌∙◌, arith, codes}
use Rattle.std.specs.List.{list_any, slice_split, onto_first}
use Rattle.std.specs.Str.{bytes_eq}
use Rattle.std.proofs.lemmas.Bool.{eq-eqb, eqb-true, cases_lt}
use Rattle.std.proofs.lemmas.Slice.Eq.{bytes_eq-Decides}
use Rattle.wt_names.specs.Good.{begins, holds, ends, is_step, begins_with_step, holds_step, ends_with_step, is_relative}
use Rattle.wt_names.proofs.Cuts.{differs}
use Rattle.wt_names.proofs.Words.{same_tests}

-- ---- tests joined by `or`

or_assoc : (s t u : Bool) → ((s || t) || u) ≡ (s || (t || u))
or_assoc true t u = refl
or_assoc false t u = refl

or_true : (s : Bool) → (s || true) ≡ true
or_true true = refl
or_true false = refl

-- (a or b) or (c or d), with b and c changed
or_middle : (a b c d : Bool) → ((a || b) || (c || d)) ≡ ((a || c) || (b || d))
or_middle true b c d = refl
or_middle false true c d = sym (or_true c)
or_middle false false c d = refl

or_turned : (s b h e : Bool) → ((s || b) || (h || e)) ≡ ((b || h) || (s || e))
or_turned true b h e = sym (or_true (b || h))
or_turned false true h e = refl
or_turned false false h e = refl

both_and : (p x y : Bool) → (p && (x || y)) ≡ ((p && x) || (p && y))
both_and true x y = refl
both_and false x y = refl

eq_turned : (a b : ℕ) → nat_eq a b ≡ nat_eq b a
eq_turned a b = same_tests (nat_eq a b) (nat_eq b a) (λ e. eq-eqb b a (sym (eqb-true a b e))) (λ e. eq-eqb a b (sym (eqb-true b a e)))

texts_turned : (xs ys : List ℕ) → bytes_eq xs ys ≡ bytes_eq ys xs
texts_turned xs ys = same_tests (bytes_eq xs ys) (bytes_eq ys xs)
    (λ e. (bytes_eq-Decides ys xs).1 (sym ((bytes_eq-Decides xs ys).0 e))) (λ e. (bytes_eq-Decides xs ys).1 (sym ((bytes_eq-Decides ys xs).0 e)))

-- ---- the parts

abbrev is_slash : ℕ → Bool
is_slash b = nat_eq b 47

first_part : List ℕ → List ℕ
first_part [] = []
first_part (b ∷ bs) = cond (is_slash b) [] (b ∷ first_part bs)

other_parts : List ℕ → List (List ℕ)
other_parts [] = []
other_parts (b ∷ bs) = cond (is_slash b) (slice_split is_slash bs) (other_parts bs)

split_step : (t : Bool) (b : ℕ) (first : List ℕ) (others parts : List (List ℕ)) → parts ≡ first ∷ others
    → cond t ([] ∷ parts) (onto_first b parts) ≡ cond t [] (b ∷ first) ∷ cond t parts others
split_step true b first others parts e = refl
split_step false b first others parts e = ap (onto_first b) e

split_parts : (bs : List ℕ) → slice_split is_slash bs ≡ first_part bs ∷ other_parts bs
unfolding first_part other_parts
split_parts [] = refl
split_parts (b ∷ bs) = split_step (is_slash b) b (first_part bs) (other_parts bs) (slice_split is_slash bs) (split_parts bs)

-- ---- the first part is a word where the text is it, or begins with it and a slash

abbrev NoSlash : List ℕ → Type 0
NoSlash [] = Unit {0}
NoSlash (w ∷ ws) = (is_slash w ≡ false) × NoSlash ws

empty_first : (t : Bool) (b : ℕ) (bs : List ℕ) → bytes_eq (cond t [] (b ∷ bs)) [] ≡ (t && true)
empty_first true b bs = refl
empty_first false b bs = refl

first_is : (word bs : List ℕ) → NoSlash word → bytes_eq (first_part bs) word ≡ (bytes_eq bs word || begins (word ++ 47 ∷ []) bs)
unfolding first_part
first_is [] [] lacks = refl
first_is [] (b ∷ bs) lacks = empty_first (is_slash b) b (first_part bs) ∙ ap (λ t. t && true) (eq_turned b 47)
first_is (w ∷ ws) [] lacks = refl
first_is (w ∷ ws) (b ∷ bs) lacks = first_step (is_slash b) (nat_eq b w) b w ws (first_part bs) _ _
    (λ slash. differs b w (λ e. let u : true ≡ false = sym slash ∙ ap is_slash e ∙ lacks.0 in cc)) refl (first_is ws bs lacks.1)
    ∙ ap (λ t. (nat_eq b w && bytes_eq bs ws) || (t && begins (ws ++ 47 ∷ []) bs)) (eq_turned b w)
  where
    first_step : (t p : Bool) (b w : ℕ) (ws first : List ℕ) (x y : Bool) → (t ≡ true → p ≡ false) → nat_eq b w ≡ p → bytes_eq first ws ≡ (x || y)
        → bytes_eq (cond t [] (b ∷ first)) (w ∷ ws) ≡ ((nat_eq b w && x) || (nat_eq b w && y))
    first_step true p b w ws first x y lacks is on = ap (λ q. (q && x) || (q && y)) (sym (is ∙ lacks refl))
    first_step false p b w ws first x y lacks is on = ap (λ q. nat_eq b w && q) on ∙ both_and (nat_eq b w) x y

first_step_is : (bs : List ℕ) → is_step (first_part bs) ≡ (is_step bs || begins_with_step bs)
unfolding is_step begins_with_step
first_step_is bs =
    ap (λ t. t || bytes_eq (first_part bs) (codes "..")) (first_is (codes ".") bs (refl, tt))
    ∙ ap (λ t. (bytes_eq bs (codes ".") || begins (codes "./") bs) || t) (first_is (codes "..") bs (refl, (refl, tt)))
    ∙ or_middle (bytes_eq bs (codes ".")) (begins (codes "./") bs) (bytes_eq bs (codes "..")) (begins (codes "../") bs)

-- ---- a word at the end

long_differs : (xs ys : List ℕ) → length xs ≢ length ys → bytes_eq xs ys ≡ false
long_differs xs ys other = same_tests (bytes_eq xs ys) false (λ e. absurd (other (ap length ((bytes_eq-Decides xs ys).0 e))))
    (λ e. absurd (let z : false ≡ true = e in cc))

ends_more : (word bs : List ℕ) (b : ℕ) → ends word (b ∷ bs) ≡ (bytes_eq word (b ∷ bs) || ends word bs)
ends_more word bs b = elim (cases_lt (length bs) (length word)) [
  | inl long ↦
      let whole : suc (length bs) - length word ≡ 0 = omega arith in
      let none : length bs - length word ≡ 0 = omega arith in
      ap (λ n. bytes_eq word (drop n (b ∷ bs))) whole
      ∙ sym (ap (λ t. bytes_eq word (b ∷ bs) || t) (ap (λ n. bytes_eq word (drop n bs)) none
      ∙ long_differs word bs (λ e. omega arith)) ∙ or_false (bytes_eq word (b ∷ bs)))
  | inr short ↦
      let n : suc (length bs) - length word ≡ suc (length bs - length word) = omega arith in
      ap (λ n. bytes_eq word (drop n (b ∷ bs))) n ∙ ap (λ t. t || ends word bs) (sym (long_differs word (b ∷ bs) (λ e. omega arith)))
]
  where
    or_false : (t : Bool) → (t || false) ≡ t
    or_false true = refl
    or_false false = refl

-- ---- the other parts

holds_more : (word bs : List ℕ) (b : ℕ) (t : Bool) → nat_eq 47 b ≡ t → holds (47 ∷ word) (b ∷ bs) ≡ ((t && begins word bs) || holds (47 ∷ word) bs)
holds_more word bs b t e = ap (λ q. (q && begins word bs) || holds (47 ∷ word) bs) e

ends_slash : (word bs : List ℕ) (b : ℕ) (t : Bool) → nat_eq 47 b ≡ t → ends (47 ∷ word) (b ∷ bs) ≡ ((t && bytes_eq bs word) || ends (47 ∷ word) bs)
ends_slash word bs b t e =
    ends_more (47 ∷ word) bs b ∙ ap (λ q. (q && bytes_eq word bs) || ends (47 ∷ word) bs) e ∙ ap (λ q. (t && q) || ends (47 ∷ word) bs) (texts_turned word bs)

-- what one more byte, a slash or another one, adds
more : (b : ℕ) (bs : List ℕ) (t : Bool) → nat_eq 47 b ≡ t → (holds_step (b ∷ bs) || ends_with_step (b ∷ bs))
    ≡ ((((t && begins (codes "./") bs) || holds (codes "/./") bs) || ((t && begins (codes "../") bs) || holds (codes "/../") bs))
    || (((t && bytes_eq bs (codes ".")) || ends (codes "/.") bs) || ((t && bytes_eq bs (codes "..")) || ends (codes "/..") bs)))
unfolding holds_step ends_with_step
more b bs t e =
    ap (λ x. (x || holds (codes "/../") (b ∷ bs)) || (ends (codes "/.") (b ∷ bs) || ends (codes "/..") (b ∷ bs))) (holds_more (codes "./") bs b t e)
    ∙ ap (λ x. (((t && begins (codes "./") bs) || holds (codes "/./") bs) || x)
    || (ends (codes "/.") (b ∷ bs) || ends (codes "/..") (b ∷ bs))) (holds_more (codes "../") bs b t e)
    ∙ ap (λ x. (((t && begins (codes "./") bs) || holds (codes "/./") bs)
    || ((t && begins (codes "../") bs) || holds (codes "/../") bs)) || (x || ends (codes "/..") (b ∷ bs)))
    (ends_slash (codes ".") bs b t e)
    ∙ ap (λ x. (((t && begins (codes "./") bs) || holds (codes "/./") bs)
    || ((t && begins (codes "../") bs) || holds (codes "/../") bs))
    || (((t && bytes_eq bs (codes ".")) || ends (codes "/.") bs) || x)) (ends_slash (codes "..") bs b t e)

others_step : (b : ℕ) (bs : List ℕ) (t : Bool) → is_slash b ≡ t → list_any is_step (other_parts bs) ≡ (holds_step bs || ends_with_step bs)
    → list_any is_step (cond t (slice_split is_slash bs) (other_parts bs)) ≡ (holds_step (b ∷ bs) || ends_with_step (b ∷ bs))
unfolding is_step begins_with_step holds_step ends_with_step
others_step b bs true e on =
    ap (list_any is_step) (split_parts bs) ∙ ap (λ t. t || list_any is_step (other_parts bs)) (first_step_is bs)
    ∙ ap (λ t. (is_step bs || begins_with_step bs) || t) on
    ∙ or_turned (is_step bs) (begins_with_step bs) (holds_step bs) (ends_with_step bs)
    ∙ ap (λ t. t || (is_step bs || ends_with_step bs))
    (or_middle (begins (codes "./") bs) (begins (codes "../") bs) (holds (codes "/./") bs) (holds (codes "/../") bs))
    ∙ ap (λ t. ((begins (codes "./") bs || holds (codes "/./") bs) || (begins (codes "../") bs || holds (codes "/../") bs)) || t)
    (or_middle (bytes_eq bs (codes ".")) (bytes_eq bs (codes "..")) (ends (codes "/.") bs) (ends (codes "/..") bs))
    ∙ sym (more b bs true (eq_turned 47 b ∙ e))
others_step b bs false e on = on ∙ sym (more b bs false (eq_turned 47 b ∙ e))

others_are : (bs : List ℕ) → list_any is_step (other_parts bs) ≡ (holds_step bs || ends_with_step bs)
unfolding other_parts holds_step ends_with_step
others_are [] = refl
others_are (b ∷ bs) = others_step b bs (is_slash b) refl (others_are bs)

pub segments : (full : List ℕ) → is_relative full ≡ list_any is_step (slice_split (λ b. nat_eq b 47) full)
segments full =
    or_assoc (is_step full || begins_with_step full) (holds_step full) (ends_with_step full)
    ∙ ap (λ t. t || (holds_step full || ends_with_step full)) (sym (first_step_is full)) ∙ ap (λ t. is_step (first_part full) || t) (sym (others_are full))
    ∙ sym (ap (list_any is_step) (split_parts full))

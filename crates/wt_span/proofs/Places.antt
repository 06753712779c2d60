-- Lists that are made place by place: one more place. What a loop over places wants.
use Rattle.std.proofs.Common.{◌≡◌, ℕ, ◌+◌, zero, suc, Option, Some, None, List, [], ◌∷◌, ◌++◌, refl, ap, ◌∙◌, arith}
use Rattle.std.specs.List.{filter_map, flat_map, range_with_len}
use Rattle.std.specs.Option.{option_to_list}
use Rattle.std.proofs.lemmas.List.{append-nil}
use Rattle.std.proofs.lemmas.List.Elements.{filter_map-append}
use Rattle.std.proofs.lemmas.List.Concat.{flat_map-append}

pub range_more : (a n : ℕ) → range_with_len a (suc n) ≡ range_with_len a n ++ (a + n) ∷ []
range_more a zero = ap (λ x. x ∷ []) (omega arith)
range_more a (suc n) =
    let e : (a + 1) + n ≡ a + suc n = omega arith in
    ap (λ xs. a ∷ xs) (range_more (a + 1) n ∙ ap (λ x. range_with_len (a + 1) n ++ x ∷ []) e)

one : {Y : Type 0} (h : ℕ → Option Y) → (n : ℕ) (o : Option Y) → h n ≡ o → filter_map h (n ∷ []) ≡ option_to_list o
one h n None e = rw e refl
one h n (Some y) e = rw e refl

pub filter_map-range_more : {Y : Type 0} (h : ℕ → Option Y) → (n : ℕ) (o : Option Y) → h n ≡ o
    → filter_map h (range_with_len 0 (n + 1)) ≡ filter_map h (range_with_len 0 n) ++ option_to_list o
filter_map-range_more h n o e =
    let s : n + 1 ≡ suc n = omega arith in
    let z : 0 + n ≡ n = omega arith in
    ap (λ m. filter_map h (range_with_len 0 m)) s ∙ ap (filter_map h) (range_more 0 n) ∙ filter_map-append h (range_with_len 0 n) ((0 + n) ∷ [])
    ∙ ap (λ m. filter_map h (range_with_len 0 n) ++ filter_map h (m ∷ [])) z
    ∙ ap (λ xs. filter_map h (range_with_len 0 n) ++ xs) (one h n o e)

pub flat_map-range_more : {Y : Type 0} (f : ℕ → List Y) → (n : ℕ) → flat_map f (range_with_len 0 (n + 1)) ≡ flat_map f (range_with_len 0 n) ++ f n
flat_map-range_more f n =
    let s : n + 1 ≡ suc n = omega arith in
    let z : 0 + n ≡ n = omega arith in
    ap (λ m. flat_map f (range_with_len 0 m)) s ∙ ap (flat_map f) (range_more 0 n) ∙ flat_map-append f (range_with_len 0 n) ((0 + n) ∷ [])
    ∙ ap (λ m. flat_map f (range_with_len 0 n) ++ (f m ++ [])) z
    ∙ ap (λ xs. flat_map f (range_with_len 0 n) ++ xs) (append-nil (f n))

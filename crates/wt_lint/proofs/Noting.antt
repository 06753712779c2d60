-- Titles among those that were met.
use Rattle.std.proofs.Common.{◌≡◌, ℕ, Bool, true, false, List, [], ◌∷◌, map, refl, ap, ◌∙◌}
use Rattle.std.specs.Prelude.{◌||◌, not}
use Rattle.std.specs.BTreeSet.{insert_key}
use Rattle.std.specs.Cmp.Lexicographic.{slice_cmp}
use Rattle.std.specs.List.{list_any}
use Rattle.std.specs.Ordering.{is_eq, match_ordering, nat_cmp}
use Rattle.std.specs.declared.cmp.Ordering.{Ordering}
use Rattle.std.specs.declared.cmp.Ordering.TheVariants.{Less, Equal, Greater}
use Rattle.std.specs.Str.{bytes_eq}
use Rattle.std.proofs.lemmas.Map.Text.{is_eq-slice_cmp}
use Rattle.wt_lint.specs.Categories.{is_among, noted}

pub any_met : {V : Type 0} (f : V → List ℕ) (title : List ℕ) (vs : List V)
    → list_any (λ v. is_eq (slice_cmp nat_cmp title (f v))) vs ≡ is_among title (map f vs)
any_met f title [] = refl
any_met f title (v ∷ vs) =
    ap (λ b. b || list_any (λ w. is_eq (slice_cmp nat_cmp title (f w))) vs) (is_eq-slice_cmp title (f v))
    ∙ ap (λ b. bytes_eq title (f v) || b) (any_met f title vs)

-- what is put among what is kept is noted among the titles
pub met_noted : {V : Type 0} (f : V → List ℕ) (cmp : V → V → Ordering) → ((x y : V) → cmp x y ≡ slice_cmp nat_cmp (f x) (f y)) → (k : V) (vs : List V)
    → map f (insert_key cmp vs k) ≡ noted (f k) (map f vs)
met_noted f cmp same k [] = refl
met_noted f cmp same k (x ∷ vs) =
    by (cmp k x) (met_noted f cmp same k vs)
    ∙ ap (λ o. match_ordering o (f k ∷ f x ∷ map f vs) (f x ∷ map f vs) (f x ∷ insert_key (slice_cmp nat_cmp) (map f vs) (f k))) (same k x)
  where
    by : (o : Ordering) → map f (insert_key cmp vs k) ≡ noted (f k) (map f vs)
        → map f (match_ordering o (k ∷ x ∷ vs) (x ∷ vs) (x ∷ insert_key cmp vs k))
        ≡ match_ordering o (f k ∷ f x ∷ map f vs) (f x ∷ map f vs) (f x ∷ insert_key (slice_cmp nat_cmp) (map f vs) (f k))
    by Less h = refl
    by Equal h = refl
    by Greater h = ap (λ ts. f x ∷ ts) h

not_not : (b : Bool) → not (not b) ≡ b
not_not true = refl
not_not false = refl

pub told : (a b c : Bool) → a ≡ not b → b ≡ c → not a ≡ c
told a b c e f = ap not e ∙ not_not b ∙ f

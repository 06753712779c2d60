-- A word that stands somewhere in a text.
use Rattle.std.proofs.Common.{◌≡◌, ℕ, ◌+◌, Bool, true, false, ◌||◌, ◌↔◌, List, [], ◌∷◌, ◌++◌, length, get_or, take, drop, ◌<◌, refl, sym, ap, ◌∙◌, take-append-drop}
use Rattle.std.specs.Str.Iter.{HasSubslice}
use Rattle.std.proofs.Math.Seq.{take-append_seam}
use Rattle.std.proofs.lemmas.List.{drop_more}
use Rattle.std.proofs.lemmas.Slice.Eq.{bytes_eq-Decides}
use Rattle.wt_names.specs.Good.{anywhere, begins, holds}

pub same_tests : (r t : Bool) → (r ≡ true → t ≡ true) → (t ≡ true → r ≡ true) → r ≡ t
same_tests true t to back = sym (to refl)
same_tests false true to back = back refl
same_tests false false to back = refl

pub anywhere_here : (test : List ℕ → Bool) (bs : List ℕ) → test bs ≡ true → anywhere test bs ≡ true
anywhere_here test [] e = e
anywhere_here test (b ∷ bs) e = ap (λ t. t || anywhere test bs) e

or_right : (t u : Bool) → u ≡ true → (t || u) ≡ true
or_right true u e = refl
or_right false u e = e

pub anywhere_after : (test : List ℕ → Bool) (front bs : List ℕ) → test bs ≡ true → anywhere test (front ++ bs) ≡ true
anywhere_after test [] bs e = anywhere_here test bs e
anywhere_after test (b ∷ front) bs e = or_right (test (b ∷ (front ++ bs))) _ (anywhere_after test front bs e)

found_step : (test : List ℕ → Bool) (t : Bool) (b : ℕ) (bs : List ℕ) → test (b ∷ bs) ≡ t → (t || anywhere test bs) ≡ true
    → (anywhere test bs ≡ true → (front : List ℕ) × (rest : List ℕ) × (bs ≡ front ++ rest) × (test rest ≡ true))
    → (front : List ℕ) × (rest : List ℕ) × (b ∷ bs ≡ front ++ rest) × (test rest ≡ true)
found_step test true b bs here e on = ([], b ∷ bs, refl, here)
found_step test false b bs here e on = let found = on e in (b ∷ found.0, found.1, ap (λ x. b ∷ x) found.2, found.3)

pub anywhere_found : (test : List ℕ → Bool) (bs : List ℕ) → anywhere test bs ≡ true
    → (front : List ℕ) × (rest : List ℕ) × (bs ≡ front ++ rest) × (test rest ≡ true)
anywhere_found test [] e = ([], [], refl, e)
anywhere_found test (b ∷ bs) e = found_step test (test (b ∷ bs)) b bs refl e (anywhere_found test bs)

pub begins-append : (word rest : List ℕ) → begins word (word ++ rest) ≡ true
begins-append word rest = (bytes_eq-Decides word (take (length word) (word ++ rest))).1 (sym (take-append_seam word rest))

pub begins_rest : (word bs : List ℕ) → begins word bs ≡ true → bs ≡ word ++ drop (length word) bs
begins_rest word bs e =
    let same = (bytes_eq-Decides word (take (length word) bs)).0 e in
    sym (take-append-drop (length word) bs) ∙ ap (λ x. x ++ drop (length word) bs) (sym same)

pub holds_is : (r : Bool) (word text : List ℕ) → ((r ≡ true) ↔ HasSubslice text word) → r ≡ holds word text
holds_is r word text h = same_tests r (holds word text)
    (λ e. let parts = h.0 e in ap (holds word) parts.2 ∙ anywhere_after (begins word) parts.0 (word ++ parts.1) (begins-append word parts.1))
    (λ e. let found = anywhere_found (begins word) text e in
    h.1 (found.0, drop (length word) found.1, found.2 ∙ ap (λ x. found.0 ++ x) (begins_rest word found.1 found.3)))

or_left : (t u : Bool) → t ≡ false → (t || u) ≡ u
or_left true u e = absurd (let z : true ≡ false = e in cc)
or_left false u e = refl

-- where no such rest begins at a place, the search goes on after it
pub anywhere_next : (test : List ℕ → Bool) (bs : List ℕ) (i : ℕ) → i < length bs → test (drop i bs) ≡ false
    → anywhere test (drop (i + 1) bs) ≡ anywhere test (drop i bs)
anywhere_next test bs i inside none =
    let step = drop_more bs i 0 inside in
    sym (ap (anywhere test) step ∙ or_left (test (get_or bs i 0 ∷ drop (i + 1) bs)) (anywhere test (drop (i + 1) bs)) (ap test (sym step) ∙ none))

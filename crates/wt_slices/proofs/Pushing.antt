-- What a loop pushes for each of the things it goes through.
use Rattle.std.proofs.Common.{◌≡◌, ℕ, ◌+◌, ◌<◌, ◌≤◌, List, [], ◌∷◌, ◌++◌, length, take, get_or, sym, ap, ◌∙◌}
use Rattle.std.specs.List.{flat_map}
use Rattle.std.proofs.lemmas.List.{flat_map_more, take_more, take_all}

pub next_pushed : {A B : Type 0} (each : A → List B) (cs ds es : List B) (xs : List A) (i : ℕ) (x : A) → i < length xs → x ≡ get_or xs i x
    → ds ≡ cs ++ flat_map each (take i xs) → es ≡ ds ++ each x → es ≡ cs ++ flat_map each (take (i + 1) xs)
next_pushed each cs ds es xs i x l is d e =
    e ∙ ap (λ ys. ys ++ each x) d ∙ flat_map_more each cs (take i xs) x
    ∙ ap (λ ys. cs ++ flat_map each ys) (ap (λ y. take i xs ++ y ∷ []) is ∙ sym (take_more xs i x l))

pub all_pushed : {A B : Type 0} (each : A → List B) (cs ds : List B) (xs : List A) (i : ℕ) → length xs ≤ i
    → ds ≡ cs ++ flat_map each (take i xs) → ds ≡ cs ++ flat_map each xs
all_pushed each cs ds xs i l d = d ∙ ap (λ ys. cs ++ flat_map each ys) (take_all i xs l)

-- Braces that make no call and no argument.
use Rattle.std.specs.Prelude.{◌≡◌, ◌⊎◌, ℕ, ◌==◌, ◌||◌, Bool, false, List, [], ◌∷◌, map, codes, if◌then◌else◌}
use Rattle.wt_span.specs.Bytes.{begins}
use Rattle.wt_span.specs.Items.{Item, char, whole, sign}

-- two braces side by side
pub data Brace : Type 0 where
  opening : Brace
  closing : Brace

-- by the signs of items, in order; one for each place where two begin
abbrev pub braces : List ℕ → List Brace
braces [] = []
braces (s ∷ ss) = if begins (codes "{{") (s ∷ ss) then opening ∷ braces ss else (if begins (codes "}}") (s ∷ ss) then closing ∷ braces ss else braces ss)

abbrev pub NoneClose : List Brace → Type 0
NoneClose [] = Unit {0}
NoneClose (opening ∷ bs) = NoneClose bs
NoneClose (closing ∷ bs) = ⊥

-- None close behind any that open. Those that close before, and those that open and are never closed, are characters.
abbrev pub NonePairs : List Brace → Type 0
NonePairs [] = Unit {0}
NonePairs (opening ∷ bs) = NoneClose bs
NonePairs (closing ∷ bs) = NonePairs bs

-- a page with these items calls nothing
abbrev pub CallsNothing : List Item → Type 0
CallsNothing xs = NonePairs (braces (map sign xs))

abbrev pub braces_of : List Item → List Brace
braces_of xs = braces (map sign xs)

-- no two braces are side by side
abbrev pub AreUnpaired : List Item → Type 0
AreUnpaired xs = braces (map sign xs) ≡ []

-- some of them, in their order
abbrev pub IsSome : List Brace → List Brace → Type 0
IsSome [] ys = Unit {0}
IsSome (x ∷ xs) [] = ⊥
IsSome (x ∷ xs) (y ∷ ys) = ((x ≡ y) × IsSome xs ys) ⊎ IsSome (x ∷ xs) ys

-- In these items no two braces are side by side, or they have some of the old ones', which call nothing.
abbrev pub AreFewer : List Item → List Item → Type 0
AreFewer now was = AreUnpaired now ⊎ (CallsNothing was × IsSome (braces_of now) (braces_of was))

-- ---- no brace at all

abbrev pub is_brace : ℕ → Bool
is_brace b = b == 123 || b == 125

-- no character is a brace; those of a reference or a nowiki don't count
abbrev pub AreUnbraced : List Item → Type 0
AreUnbraced [] = Unit {0}
AreUnbraced (char o b ∷ xs) = (is_brace b ≡ false) × AreUnbraced xs
AreUnbraced (whole f o bs ∷ xs) = AreUnbraced xs

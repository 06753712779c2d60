-- Lines: the items between line breaks.
use Rattle.std.specs.Prelude.{◌≡◌, Bool, true, false, not, List, [], ◌∷◌, ◌++◌, if◌then◌else◌}
use Rattle.std.specs.List.{AllByRecursion}
use Rattle.wt_span.specs.Bytes.{is_break}
use Rattle.wt_span.specs.Items.{Item, is_char_in}
use Rattle.wt_span.specs.Runs.{runs}

-- a line break character; a line break in an atom or a mark is none
abbrev pub is_break_item : Item → Bool
is_break_item x = is_char_in is_break x

-- these items, before the first of the lines
abbrev pub onto : List Item → List (List Item) → List (List Item)
onto xs [] = xs ∷ []
onto xs (l ∷ ls) = (xs ++ l) ∷ ls

-- The lines of items, without their line breaks. No items have one line, which is empty, and so has what follows a line
-- break at the end.
abbrev pub lines : List Item → List (List Item)
lines [] = [] ∷ []
lines (x ∷ xs) = if is_break_item x then [] ∷ lines xs else onto (x ∷ []) (lines xs)

-- ---- the same as a relation

abbrev pub IsUnbroken : List Item → Type 0
IsUnbroken xs = AllByRecursion (λ x. is_break_item x ≡ false) xs

-- No line holds a line break, and with one between each two the lines join to the items.
abbrev pub AreLines : List (List Item) → List Item → Type 0
AreLines [] xs = ⊥
AreLines (l ∷ []) xs = IsUnbroken l × (xs ≡ l)
AreLines (l ∷ m ∷ ls) xs = IsUnbroken l × (b : Item) × (others : List Item) × (is_break_item b ≡ true) × (xs ≡ l ++ b ∷ others) × AreLines (m ∷ ls) others

-- ---- lines that keep their line breaks

-- a line goes on up to and with its line break
abbrev pub goes_on : Item → Item → Bool
goes_on x y = not (is_break_item x)

-- each line with its line break; after a last line break comes no line
abbrev pub full_lines : List Item → List (List Item)
full_lines xs = runs goes_on xs

-- a line without its line break
abbrev pub content : List Item → List Item
content [] = []
content (x ∷ []) = if is_break_item x then [] else x ∷ []
content (x ∷ y ∷ ys) = x ∷ content (y ∷ ys)

-- the empty line after a last line break, or of no items
abbrev pub empty_end : List Item → List (List Item)
empty_end [] = [] ∷ []
empty_end (x ∷ []) = if is_break_item x then [] ∷ [] else []
empty_end (x ∷ y ∷ ys) = empty_end (y ∷ ys)

-- Items as texts: what a name says, what a target says, and what is left of either without blanks and line breaks at its ends.
use Rattle.std.specs.Prelude.{ℕ, ◌==◌, ◌||◌, Bool, Option, Some, None, List, [], ◌∷◌, ◌++◌, drop, reverse, encode_utf8, if◌then◌else◌}
use Rattle.std.specs.List.{flat_map, prefix_len}
use Rattle.wt_span.specs.declared.form.ItemForm.{ItemForm}
use Rattle.wt_span.specs.declared.form.ItemForm.TheVariants as form
use Rattle.wt_span.specs.Items.{Item, char, whole, is_mark_form, is_char_in}
use Rattle.wt_span.specs.Characters as byte

-- a space, a tab or a line break
abbrev pub is_space : ℕ → Bool
is_space b = b == byte.space || (b == byte.tab || b == byte.line_break)

abbrev pub without_front : {A : Type 0} → (A → Bool) → List A → List A
without_front p xs = drop (prefix_len p xs) xs

-- without what passes the test at both ends
abbrev pub trimmed_by : {A : Type 0} → (A → Bool) → List A → List A
trimmed_by p xs = reverse (without_front p (reverse (without_front p xs)))

unfoldable pub trimmed : List ℕ → List ℕ
trimmed bs = trimmed_by is_space bs

-- items without characters that are blanks or line breaks at their ends; a mark at an end stays, and what lies inside of it
unfoldable pub trimmed_items : List Item → List Item
trimmed_items xs = trimmed_by (is_char_in is_space) xs

-- ---- what is shown

-- an item that is shown has its source; a mark has nothing
abbrev pub shown : Item → List ℕ
shown (char o b) = b ∷ []
shown (whole f o bs) = if is_mark_form f then [] else bs

-- the text of items: characters, atoms by their source, nothing for marks
abbrev pub shown_text : List Item → List ℕ
shown_text xs = flat_map shown xs

-- the text of a name that was expanded
unfoldable pub name_text : List Item → List ℕ
name_text xs = trimmed (shown_text xs)

-- ---- what a target says

-- an entity is its character, marks are nothing, and no other atom is in a target
abbrev pub target_of_form : ItemForm → List ℕ → Option (List ℕ)
target_of_form form.Chars bs = Some bs
target_of_form (form.Entity c) bs = Some (encode_utf8 c)
target_of_form form.Nowiki bs = None
target_of_form form.Extension bs = None
target_of_form form.Function bs = None
target_of_form form.Comment bs = Some []
target_of_form form.Include bs = Some []
target_of_form form.Hidden bs = Some []
target_of_form form.EmptyCall bs = Some []

abbrev pub target_of : Item → Option (List ℕ)
target_of (char o b) = Some (b ∷ [])
target_of (whole f o bs) = target_of_form f bs

abbrev pub both : Option (List ℕ) → Option (List ℕ) → Option (List ℕ)
both None o = None
both (Some bs) None = None
both (Some bs) (Some cs) = Some (bs ++ cs)

-- the text of a target that was expanded, where it has one
abbrev pub target_text : List Item → Option (List ℕ)
target_text [] = Some []
target_text (x ∷ xs) = both (target_of x) (target_text xs)

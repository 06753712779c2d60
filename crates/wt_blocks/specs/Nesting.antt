-- The lists that lines are, by their prefixes: one sign of the prefixes at a time.
use Rattle.std.specs.Prelude.{◌≡◌, ◌<◌, ◌≤◌, ℕ, zero, suc, ◌==◌, ◌&&◌, ◌||◌, Bool, true, false, List, [], ◌∷◌, length, drop, map, filter, slice_index, nat_lt}
use Rattle.std.specs.List.{list_all}
use Rattle.wt_span.specs.Runs.{runs}
use Rattle.wt_span.specs.Characters as byte
use Rattle.wt_blocks.specs.declared.limits.TheConstants.{MOST_SIGNS}
use Rattle.wt_blocks.specs.ListTree.{ListTree, node, forest}

-- a line of a list: its number, and its prefix from some sign on
pub record ListLine : Type 0 where
  pub number : ℕ
  pub prefix : List ℕ

-- the lines with these prefixes, by their numbers
abbrev pub numbered : ℕ → List (List ℕ) → List ListLine
numbered n [] = []
numbered n (p ∷ ps) = record { number = n; prefix = p } ∷ numbered (suc n) ps

-- ---- signs

-- `;` or `:`
abbrev pub is_definition : ℕ → Bool
is_definition c = c == byte.semicolon || c == byte.colon

-- `;` and `:` count as the same
abbrev pub same_list : ℕ → ℕ → Bool
same_list c d = c == d || (is_definition c && is_definition d)

-- `*`, `#`, `:` or `;`
abbrev pub is_list_sign : ℕ → Bool
is_list_sign c = c == byte.asterisk || (c == byte.hash || is_definition c)

-- one sign at least, of which so many count
abbrev pub IsPrefix : List ℕ → Type 0
IsPrefix p = (0 < length p) × (length p ≤ MOST_SIGNS) × (list_all is_list_sign p ≡ true)

-- ---- lines

abbrev pub sign_of : ListLine → ℕ
sign_of l = slice_index l.prefix 0

-- neighbouring lines are of one list where their first signs are
abbrev pub one_list : ListLine → ListLine → Bool
one_list l m = same_list (sign_of l) (sign_of m)

-- the prefix goes on after its first sign
abbrev pub goes_on : ListLine → Bool
goes_on l = nat_lt 1 (length l.prefix)

-- of a list, a line is of the item of the line before it where its prefix goes on
abbrev pub one_item : ListLine → ListLine → Bool
one_item l m = goes_on m

abbrev pub without_sign : ListLine → ListLine
without_sign l = record { number = l.number; prefix = drop 1 l.prefix }

-- the lines that go on in an item, without their first sign
abbrev pub inner : List ListLine → List ListLine
inner ls = map without_sign (filter goes_on ls)

-- ---- lists and items

-- of lines: an item or a list begins at the first of them, and has its sign
abbrev pub node_of : Bool → List ListLine → List ListTree → ListTree
node_of item [] ts = node item 0 0 (forest ts)
node_of item (l ∷ ls) ts = node item (sign_of l) l.number (forest ts)

-- an item, where this makes the lists in it
abbrev pub item_by : (List ListLine → List ListTree) → List ListLine → ListTree
item_by lists_in ls = node_of true ls (lists_in (inner ls))

abbrev pub items_by : (List ListLine → List ListTree) → List ListLine → List ListTree
items_by lists_in ls = map (item_by lists_in) (runs one_item ls)

abbrev pub list_by : (List ListLine → List ListTree) → List ListLine → ListTree
list_by lists_in ls = node_of false ls (items_by lists_in ls)

-- The lists of lines of whose prefixes so many signs count. Neighbouring lines whose first signs are the same make one list;
-- its first line begins an item, and so does each line of one sign. The lines that go on are lists in the item that began
-- last, by what follows their first sign.
abbrev pub lists : ℕ → List ListLine → List ListTree
lists zero ls = []
lists (suc n) ls = map (list_by (lists n)) (runs one_list ls)

-- the lists of lines with these prefixes
unfoldable pub nested : List (List ℕ) → List ListTree
nested ps = lists MOST_SIGNS (numbered 0 ps)

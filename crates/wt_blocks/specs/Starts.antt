-- Lists and items from the first to the last, and which of them begin at each line: the nest once more, by neighbouring lines.
use Rattle.std.specs.Prelude.{ℕ, suc, ◌+◌, ◌-◌, ◌*◌, ◌==◌, Bool, true, false, List, [], ◌∷◌, ◌++◌, length, drop, if◌then◌else◌}
use Rattle.wt_blocks.specs.ListTree.{ListTree, node, ListTrees, none, more}
use Rattle.wt_blocks.specs.Nesting.{ListLine, same_list}

-- a list or an item, with the number of lists and items round it
pub record Row : Type 0 where
  pub depth : ℕ
  pub item : Bool
  pub sign : ℕ
  pub line : ℕ

-- preorder: a node at this depth, then all in it
abbrev mutual
  pub rows : ℕ → ListTree → List Row
  rows d (node item sign line ts) = record { depth = d; item = item; sign = sign; line = line } ∷ rows_of_all (suc d) ts

  pub rows_of_all : ℕ → ListTrees → List Row
  rows_of_all d none = []
  rows_of_all d (more t ts) = rows d t ++ rows_of_all d ts

-- how many signs two prefixes have in common
abbrev pub common : List ℕ → List ℕ → ℕ
common [] q = 0
common (c ∷ p) [] = 0
common (c ∷ p) (e ∷ q) = if same_list c e then suc (common p q) else 0

abbrev pub last_sign : List ℕ → ℕ
last_sign [] = 0
last_sign (c ∷ []) = c
last_sign (c ∷ e ∷ p) = last_sign (e ∷ p)

-- for each sign a list with an item in it, one in another, from a depth on
abbrev pub opened : ℕ → ℕ → List ℕ → List Row
opened d line [] = []
opened d line (c ∷ p) = record { depth = d; item = false; sign = c; line = line } ∷ record { depth = suc d; item = true; sign = c; line = line }
    ∷ opened (suc (suc d)) line p

-- What begins at a line whose prefix has so many signs in common with the line before: an item of the innermost list of the
-- prefix where these are all its signs; else, in the item that began last, a list with an item for each further sign.
abbrev pub begun_by : ℕ → ℕ → ℕ → List ℕ → List Row
begun_by d shared line p =
    if shared == length p then record { depth = d + (2 * length p - 1); item = true; sign = last_sign p; line = line } ∷ []
    else opened (d + 2 * shared) line (drop shared p)

-- What begins at each of the lines, of lists at this depth, after a line with this prefix.
abbrev pub begun : ℕ → List ℕ → List ListLine → List Row
begun d before [] = []
begun d before (l ∷ ls) = begun_by d (common before l.prefix) l.number l.prefix ++ begun d l.prefix ls

-- What the attributes of an element say: its number, the mark of an edit, and its data.
use Rattle.std.specs.Prelude.{ℕ, ◌+◌, ◌-◌, ◌*◌, ◌==◌, ◌&&◌, ◌||◌, nat_le, Bool, is_some, Option, Some, None, List, [], ◌∷◌, codes, if◌then◌else◌}
use Rattle.std.specs.Str.{bytes_eq}
use Rattle.wt_tree.specs.declared.kind.Mark.{Mark}
use Rattle.wt_tree.specs.declared.kind.Mark.TheVariants as mark
use Rattle.wt_html_grammar.specs.Signs.{is_digit}
use Rattle.wt_html_grammar.specs.Markup.{Pair}

-- the value of an attribute
abbrev pub value_of : List ℕ → List Pair → Option (List ℕ)
value_of name [] = None
value_of name (p ∷ ps) = if bytes_eq p.0 name then Some p.1 else value_of name ps

abbrev pub has : List ℕ → List Pair → Bool
has name ps = is_some (value_of name ps)

-- `typeof`, `rel` or `property`: with the name they decide the kind
abbrev pub is_typed : List Pair → Bool
is_typed ps = has (codes "typeof") ps || (has (codes "rel") ps || has (codes "property") ps)

-- ---- numbers of nodes: `mw` and a decimal number from 1 to 4,294,967,295 without leading zero

abbrev pub decimal_from : ℕ → List ℕ → Option ℕ
decimal_from n [] = Some n
decimal_from n (d ∷ ds) = if is_digit d && nat_le (n * 10 + (d - 48)) 4294967295 then decimal_from (n * 10 + (d - 48)) ds else None

abbrev pub decimal_of : List ℕ → Option ℕ
decimal_of [] = None
decimal_of (d ∷ ds) = if d == 48 then None else decimal_from 0 (d ∷ ds)

abbrev pub number_of : List ℕ → Option ℕ
number_of (m ∷ w ∷ ds) = if m == 109 && w == 119 then decimal_of ds else None
number_of bs = None

abbrev pub or_zero : Option ℕ → ℕ
or_zero None = 0
or_zero (Some n) = n

-- 0 where there is none: another `id` counts for nothing
abbrev pub id_of_value : Option (List ℕ) → ℕ
id_of_value None = 0
id_of_value (Some v) = or_zero (number_of v)

abbrev pub id_of : List Pair → ℕ
id_of ps = id_of_value (value_of (codes "id") ps)

-- ---- marks of edits

abbrev pub mark_of_value : Option (List ℕ) → Mark
mark_of_value None = mark.Nothing
mark_of_value (Some v) = if bytes_eq v (codes "content") then mark.Content else if bytes_eq v (codes "children") then mark.Children else mark.Other

abbrev pub mark_of : List Pair → Mark
mark_of ps = mark_of_value (value_of (codes "data-wt-edit") ps)

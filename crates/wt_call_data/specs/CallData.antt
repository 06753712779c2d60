-- What the element of a group carries of an outermost call: a transclusion with its target as it is written, the link to its
-- title and its parameters, numbered among the calls of its group; a call of a parser function likewise, with the name of the
-- function in place of the link; or an argument by its whole source.
use Rattle.std.specs.Prelude.{ℕ, ◌+◌, ◌-◌, ◌==◌, ◌||◌, Bool, true, false, Option, Some, None, List, [], ◌∷◌, length, take, drop, reverse, decimal, fold, slice_range, if◌then◌else◌}
use Rattle.std.specs.List.{prefix_len}
use Rattle.std.specs.Map.{lookup}
use Rattle.std.specs.Option.{option_or}
use Rattle.std.specs.Ordering.{is_eq, nat_cmp}
use Rattle.std.specs.Cmp.Lexicographic.{slice_cmp}
use Rattle.std.specs.BTreeMap.{insert_entry}
use Rattle.wt_tree.specs.declared.node.Part.{Part}
use Rattle.wt_tree.specs.declared.node.Part.TheVariants as part
use Rattle.wt_span.specs.Origins.{Span, OuterCall}
use Rattle.wt_span.specs.declared.function.Function.{Function}
use Rattle.wt_span.specs.Functions.{name_of, function_of}
use Rattle.wt_span.specs.Characters as byte

-- ---- texts of a call

-- a space, a tab or a line break
abbrev pub is_white : ℕ → Bool
is_white b = b == byte.space || (b == byte.tab || b == byte.line_break)

-- without those in front
abbrev pub without_lead : List ℕ → List ℕ
without_lead bs = drop (prefix_len is_white bs) bs

-- without those at the end
abbrev pub without_tail : List ℕ → List ℕ
without_tail bs = take (length bs - prefix_len is_white (reverse bs)) bs

unfoldable pub trimmed : List ℕ → List ℕ
trimmed bs = without_tail (without_lead bs)

-- what is in a call's source between two places of the page
abbrev pub source_slice : OuterCall → ℕ → ℕ → List ℕ
source_slice c from to = slice_range c.source (from - c.start) (to - c.start)

-- ---- parameters

abbrev pub Param : Type 0
Param = List ℕ × List ℕ

-- a part after the target: one with a name by its name and value, both trimmed, any other by its number among those
unfoldable pub param_by : OuterCall → ℕ → Span → Option ℕ → Param
param_by c n (from, to) None = (decimal (n + 1), source_slice c from to)
param_by c n (from, to) (Some place) = (trimmed (source_slice c from place), trimmed (source_slice c (place + 1) to))

abbrev pub next_number : ℕ → Option ℕ → ℕ
next_number n None = n + 1
next_number n (Some place) = n

abbrev pub params_from : OuterCall → ℕ → List Span → List (Option ℕ) → List Param
params_from c n [] es = []
params_from c n (p ∷ ps) [] = []
params_from c n (p ∷ ps) (e ∷ es) = param_by c n p e ∷ params_from c (next_number n e) ps es

-- in byte order of their names; of one name the last counts
abbrev pub put_param : List Param → Param → List Param
put_param ps p = insert_entry (slice_cmp nat_cmp) ps p.0 p.1

abbrev pub params_of : OuterCall → List Param
params_of c = fold put_param [] (params_from c 0 (drop 1 c.parts) (drop 1 c.equals))

-- ---- parts

abbrev pub text_or_none : Option (List ℕ) → List ℕ
text_or_none None = []
text_or_none (Some bs) = bs

abbrev pub target_by : OuterCall → List Span → List ℕ
target_by c [] = []
target_by c ((from, to) ∷ ps) = source_slice c from to

-- the function that a call names after its two braces
abbrev pub function_named : OuterCall → Option (Function × ℕ)
function_named c = function_of (drop 2 c.source)

-- a call of two braces: a parser function, or a page with its link
abbrev pub braces_part : OuterCall → ℕ → Option (Function × ℕ) → Part
braces_part c i None = part.Template (target_by c c.parts) (text_or_none c.href) (params_of c) i
braces_part c i (Some (f, n)) = part.Function (name_of f) (target_by c c.parts) (params_of c) i

unfoldable pub call_part : OuterCall → ℕ → Part
call_part c i = if c.argument then part.Param c.source else braces_part c i (function_named c)

abbrev pub next_call : OuterCall → ℕ → ℕ
next_call c i = if c.argument then i else i + 1

-- ---- parameters in other words

abbrev pub is_same : List ℕ → List ℕ → Bool
is_same name k = is_eq (slice_cmp nat_cmp name k)

abbrev pub value_of : List ℕ → List Param → Option (List ℕ)
value_of name ps = lookup (is_same name) ps

abbrev pub value_if : Bool → List ℕ → Option (List ℕ)
value_if true v = Some v
value_if false v = None

-- the value of the last parameter of this name, as they are written
abbrev pub last_value : List ℕ → List Param → Option (List ℕ)
last_value name [] = None
last_value name (p ∷ ps) = option_or (last_value name ps) (value_if (is_same name p.0) p.1)

-- all parameters as they are written
abbrev pub written_params : OuterCall → List Param
written_params c = params_from c 0 (drop 1 c.parts) (drop 1 c.equals)

-- Which bytes of a function's part are told and which are given.
use Rattle.std.specs.Prelude.{ℕ, ◌+◌, Bool, Option, Some, None, List, [], ◌∷◌, ◌++◌, map, drop, is_some}
use Rattle.wt_span.specs.declared.function.Function.{Function}
use Rattle.wt_span.specs.declared.function.Function.TheVariants.{If, IfEq, Switch}
use Rattle.wt_functions.specs.Choice.{Telling}
use Rattle.wt_braces.specs.declared.call.PartAt.{PartAt}

-- where the name of a part ends by its `=`; of `#switch` alone parts have names
abbrev pub name_end : Function → Option ℕ → Option ℕ
name_end If equals = None
name_end IfEq equals = None
name_end Switch equals = equals

abbrev pub end_by : Option ℕ → ℕ → ℕ
end_by None end = end
end_by (Some equals) end = equals

abbrev pub start_by : Option ℕ → ℕ → ℕ
start_by None start = start
start_by (Some equals) start = equals + 1

-- of a part its name is told, and of one without a name all
abbrev pub told_end : Function → PartAt → ℕ
told_end f p = end_by (name_end f p.equals) p.at.end

-- of a part its value is given, and of one without a name all
abbrev pub given_start : Function → PartAt → ℕ
given_start f p = start_by (name_end f p.equals) p.at.start

-- which parts after the target have a `=`
abbrev pub have_equals : List PartAt → List Bool
have_equals ps = map (λ p. is_some p.equals) (drop 1 ps)

-- when one more text is told
abbrev pub with_text : Telling → List ℕ → Telling
with_text t text = record { function = t.function; equals = t.equals; texts = t.texts ++ text ∷ [] }

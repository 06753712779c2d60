-- What a function gives, told part after part.
use Rattle.std.specs.Prelude.{◌≡◌, ℕ, Bool, Option, Some, None, List, [], ◌∷◌, ◌++◌, map, take, is_some}
use Rattle.wt_span.specs.declared.function.Function.{Function}
use Rattle.wt_functions.specs.declared.chooser.Ask.{Ask}
use Rattle.wt_functions.specs.declared.chooser.Ask.TheVariants.{Tell, Give, Nothing}
use Rattle.wt_functions.specs.Choice.{asked}
use Rattle.wt_expand.specs.Texts.{name_text, trimmed_items}
use Rattle.wt_expand.specs.Expansion.{Output, PartOutput, just, given, with_break, later_parts, told_outputs, chosen_output, function_output}

-- which parts after the target have a name
abbrev pub have_names : List PartOutput → List Bool
have_names ps = map (λ p. is_some p.name) (later_parts ps)

-- what is given where nothing more is told
abbrev pub answer_of : Ask → Function → List PartOutput → Output
answer_of (Tell part) f ps = just []
answer_of (Give part) f ps = chosen_output f (Some part) ps
answer_of Nothing f ps = just []

-- a part that is told, and then the rest; or what is given
abbrev pub next_of : Ask → Function → List PartOutput → Output → Output → Output
next_of (Tell part) f ps o rest = record { items = rest.items; work = o.work ++ rest.work }
next_of (Give part) f ps o rest = chosen_output f (Some part) ps
next_of Nothing f ps o rest = just []

-- What is told and given from here on, where these texts were told and these outputs are those of the parts after them.
abbrev pub asking : Function → List Bool → List PartOutput → List (List ℕ) → List Output → Output
asking f names ps texts [] = answer_of (asked (record { function = f; equals = names; texts = texts })) f ps
asking f names ps texts (o ∷ os) =
    next_of (asked (record { function = f; equals = names; texts = texts })) f ps o (asking f names ps (texts ++ name_text o.items ∷ []) os)

-- a function begins, asks for one part after the other, and ends with what is given, trimmed
abbrev pub AsksInTurn : Function → ℕ → Bool → List PartOutput → Type 0
AsksInTurn f n at_start ps =
    function_output f n at_start ps
    ≡ (let o = asking f (have_names ps) ps [] (told_outputs f n ps) in given [] o.work (with_break at_start (trimmed_items o.items)))

-- Which function a call's target names.
use Rattle.std.specs.Prelude.{ℕ, ◌+◌, Bool, Option, Some, None, List, take, drop, length, codes, if◌then◌else◌}
use Rattle.std.specs.Option.{option_map}
use Rattle.std.specs.List.{prefix_len}
use Rattle.std.specs.Str.{bytes_eq}
use Rattle.wt_span.specs.Bytes.{is_white, lower}
use Rattle.wt_span.specs.declared.function.Function.{Function}
use Rattle.wt_span.specs.declared.function.Function.TheVariants.{If, IfEq, Switch}

-- how many blanks and line breaks begin a text
abbrev pub space_len : List ℕ → ℕ
space_len bs = prefix_len is_white bs

-- a function's word: `#`, its name and a colon, in lower case
abbrev pub word_of : Function → List ℕ
word_of If = codes "#if:"
word_of IfEq = codes "#ifeq:"
word_of Switch = codes "#switch:"

-- its name
abbrev pub name_of : Function → List ℕ
name_of If = codes "if"
name_of IfEq = codes "ifeq"
name_of Switch = codes "switch"

-- a text begins with a function's word, in any case
unfoldable pub begins_with : Function → List ℕ → Bool
begins_with f bs = bytes_eq (lower (take (length (word_of f)) bs)) (word_of f)

-- the function whose word begins a text; none of the words begins another
abbrev pub named : List ℕ → Option Function
named bs =
    if begins_with If bs then Some If
    else if begins_with IfEq bs then Some IfEq
    else if begins_with Switch bs then Some Switch
    else None

-- The function of a target, and the place of the byte after its colon: the target begins, past blanks and line breaks, with
-- the function's word.
unfoldable pub function_of : List ℕ → Option (Function × ℕ)
function_of target = option_map (λ f. (f, space_len target + length (word_of f))) (named (drop (space_len target) target))

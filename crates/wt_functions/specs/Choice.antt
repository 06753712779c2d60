-- Which parts of a function call are told, and which one is given, by the texts of its parts. Part 0 is what comes after the
-- function's colon in the target; the others follow it, each after its `|`. The text of a part is what it expands to, trimmed.
-- Of a `#switch` a part with a `=` is told by its name and gives its value; every other part is told and given whole.
use Rattle.std.specs.Prelude.{ℕ, zero, suc, ◌+◌, ◌==◌, ◌&&◌, Bool, true, false, Option, Some, None, List, [], ◌∷◌, drop, length, codes, if◌then◌else◌, nat_lt, min, position, slice_index_or}
use Rattle.std.specs.Option.{option_map, option_or, option_and_then, unwrap_or}
use Rattle.std.specs.Str.{bytes_eq}
use Rattle.wt_span.specs.declared.function.Function.{Function}
use Rattle.wt_span.specs.declared.function.Function.TheVariants.{If, IfEq, Switch}
use Rattle.wt_functions.specs.declared.chooser.Ask.{Ask}
use Rattle.wt_functions.specs.declared.chooser.Ask.TheVariants.{Tell, Give, Nothing}

-- What a function was told so far: its parts from 1 on, each by whether it has a `=`, and the texts of the parts from 0 on.
pub record Telling : Type 0 where
  pub function : Function
  pub equals : List Bool
  pub texts : List (List ℕ)

-- the text of a part; that of a missing part is empty
abbrev pub text_at : List (List ℕ) → ℕ → List ℕ
text_at texts part = slice_index_or texts part []

-- a missing part gives nothing
abbrev pub if_there : List Bool → ℕ → Option ℕ
if_there equals part = if nat_lt (length equals) part then None else Some part

-- the first place from one on whose member passes the test
abbrev pub first_from : {A : Type 0} → ℕ → (A → Bool) → List A → Option ℕ
first_from at p xs = option_map (λ k. at + k) (position p (drop at xs))

-- the first part after part 0 whose text is equal to that of part 0
unfoldable pub equal_part : List (List ℕ) → Option ℕ
equal_part texts = first_from 1 (λ t. bytes_eq t (text_at texts 0)) texts

-- the first part with a `=` from a part on, that part counted
abbrev pub value_from : List Bool → ℕ → Option ℕ
value_from equals part = first_from part (λ e. e) (false ∷ equals)

-- the last part, if there is one and it has no `=`
unfoldable pub last_whole : List Bool → Option ℕ
last_whole equals = if slice_index_or (true ∷ equals) (length equals) true then None else Some (length equals)

-- a part with a `=` whose name is `#default`
abbrev pub is_default : List Bool → List (List ℕ) → ℕ → Bool
is_default equals texts part = slice_index_or (false ∷ equals) part false && bytes_eq (text_at texts part) (codes "#default")

-- the last such part among the first so many after part 0
abbrev pub last_default : List Bool → List (List ℕ) → ℕ → Option ℕ
last_default equals texts zero = None
last_default equals texts (suc n) = if is_default equals texts (suc n) then Some (suc n) else last_default equals texts n

-- The part that is given. `#if` gives part 1 where the text of part 0 isn't empty, else part 2. `#ifeq` gives part 2 where the
-- texts of parts 0 and 1 are equal, else part 3. `#switch` gives the first part with a `=` from the first equal part on; where
-- there is none, the last part, if it has no `=`; else the last part with the name `#default`.
unfoldable pub chosen : Function → List Bool → List (List ℕ) → Option ℕ
chosen If equals texts = if_there equals (if length (text_at texts 0) == 0 then 2 else 1)
chosen IfEq equals texts = if_there equals (if bytes_eq (text_at texts 0) (text_at texts 1) then 2 else 3)
chosen Switch equals texts =
    option_or (option_and_then (value_from equals) (equal_part texts))
    (option_or (last_whole equals) (last_default equals texts (length equals)))

-- How many parts are told, from part 0 on: of `#if` part 0, of `#ifeq` part 1 too, if there is one, and of `#switch` all up to
-- and with the first equal one.
unfoldable pub told_count : Function → List Bool → List (List ℕ) → ℕ
told_count If equals texts = 1
told_count IfEq equals texts = 1 + min 1 (length equals)
told_count Switch equals texts = 1 + unwrap_or (equal_part texts) (length equals)

abbrev pub given : Option ℕ → Ask
given None = Nothing
given (Some part) = Give part

-- what is asked next, when so much was told
unfoldable pub asked : Telling → Ask
asked t =
    if nat_lt (length t.texts) (told_count t.function t.equals t.texts) then Tell (length t.texts)
    else given (chosen t.function t.equals t.texts)

-- a text is to be told
abbrev pub is_tell : Ask → Bool
is_tell (Tell part) = true
is_tell (Give part) = false
is_tell Nothing = false

-- The answer to an input, from what it gave.
use Rattle.std.proofs.Common.{◌≡◌, ℕ, ◌<◌, ◌≤◌, List, length, true, false, Bool, cond, refl, sym, ap, ◌∙◌, subst, arith, length-append}
use Rattle.std.specs.Prelude.{nat_lt, Option, Some, None, IfSome, Result}
use Rattle.std.specs.Io.KnownBytes.{Consumes}
use Rattle.std.proofs.lemmas.Bool.Decides.{nat_tests}
use Rattle.wt_schema.specs.Read.{Read, read}
use Rattle.wt_span.specs.declared.limits.TheConstants.{HTML_BYTES}
use Rattle.wt_commands.specs.Answers.{Answer, done, refused, input_answer}
use Rattle.wt_commands.specs.Causes.{Answered, RefusesInput}
use Rattle.wt_commands.specs.declared.output.Output.{Output}
use Rattle.wt_commands.specs.declared.refusal.Refusal.{Refusal}
use Rattle.wt_commands.specs.declared.refusal.Refusal.TheVariants.{InputTooLong}

input_long : (input : List ℕ) → HTML_BYTES < length input → RefusesInput input InputTooLong
unfolding input_answer
input_long input h made = grind (arith, nat_tests)

-- what an input gave is too long, and so is the input
pub too_long_given : (old new : Option (List ℕ)) (bytes : List ℕ) → Consumes old new bytes → HTML_BYTES < length bytes
    → IfSome old (λ all. RefusesInput all InputTooLong)
too_long_given None new bytes given h = tt
too_long_given (Some all) None bytes given h = absurd given
too_long_given (Some all) (Some rest) bytes given h =
    input_long all (subst (λ n. HTML_BYTES < n) (sym (ap length given ∙ length-append bytes rest)) (omega arith))

-- an input of no more bytes is answered by what is made of what it stands for
pub input_within : (made : Read → Answer) (input : List ℕ) → length input ≤ HTML_BYTES → input_answer made input ≡ made (read input)
unfolding input_answer
input_within made input h = grind (arith, nat_tests)

-- where the input tells what it has left, all of it was read
pub answered_by : (made : Read → Answer) (told : Option (List ℕ)) (bytes : List ℕ) (result : Result Output Refusal)
    → IfSome told (λ all. all ≡ bytes) → length bytes ≤ HTML_BYTES → Answered (made (read bytes)) result
    → IfSome told (λ all. Answered (input_answer made all) result)
answered_by made None bytes result whole within answered = tt
answered_by made (Some all) bytes result whole within answered =
    subst (λ a. Answered a result) (sym (ap (input_answer made) whole ∙ input_within made bytes within)) answered

-- ---- what an answer that is done says of the input

-- the input is no longer than it may be, and what is made of what it stands for is done
abbrev pub IsMadeOf : (Read → Answer) → List ℕ → List ℕ → Type 0
IsMadeOf made input bytes = (length input ≤ HTML_BYTES) × (made (read input) ≡ done bytes)

input_step : (made : Read → Answer) (input bytes : List ℕ) (v : Bool) → nat_lt HTML_BYTES (length input) ≡ v
    → cond v (refused InputTooLong) (made (read input)) ≡ done bytes → IsMadeOf made input bytes
input_step made input bytes true is e = cc
input_step made input bytes false is e = (grind (arith, nat_tests), e)

pub input_done : (made : Read → Answer) (input bytes : List ℕ) → input_answer made input ≡ done bytes → IsMadeOf made input bytes
unfolding input_answer
input_done made input bytes e = input_step made input bytes (nat_lt HTML_BYTES (length input)) refl e

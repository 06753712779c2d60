-- Functions whose parts are told one after the other.
use Rattle.std.specs.Prelude.{◌≡◌, ℕ, List, []}
use Rattle.wt_span.specs.declared.function.Function.{Function}
use Rattle.wt_transclusion.specs.declared.read.Braces.{Braces}
use Rattle.wt_template_stack.specs.declared.choosing.Choosing.{Choosing}
use Rattle.wt_template_stack.specs.declared.reader.Reader.{Reader}
use Rattle.wt_template_stack.specs.ToldParts.{have_equals, with_text}

-- a call of which nothing is told, at whose first brace the reader is
pub record IsStarted (c : Choosing) (call : Braces) (function : Function) (begun : Reader) : Type 0 where
  pub call_is : c.call ≡ call
  pub at_start_is : c.at_start ≡ begun.cursor.at_start
  pub function_is : c.function ≡ function
  pub begun_is : c.begun ≡ begun
  pub number_is : c.number ≡ 0
  pub chooser_is : c.chooser ≡ record { function = function; equals = have_equals call.parts.now; texts = [] }

-- a call to whose function one more text is told, and the part of a number is told next, when so much was spent
pub record IsToldMore (c : Choosing) (text : List ℕ) (number spent : ℕ) (next : Choosing) : Type 0 where
  pub call_is : next.call ≡ c.call
  pub at_start_is : next.at_start ≡ c.at_start
  pub function_is : next.function ≡ c.function
  pub begun_is : next.begun ≡ c.begun
  pub number_is : next.number ≡ number
  pub spent_is : next.spent ≡ spent
  pub chooser_is : next.chooser ≡ with_text c.chooser text

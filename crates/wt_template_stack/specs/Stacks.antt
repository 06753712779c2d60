-- Levels, the innermost first.
use Rattle.std.specs.Prelude.{◌≡◌, ℕ, Option, Some, None, List, [], ◌∷◌, ◌++◌, reverse}
use Rattle.wt_span.specs.declared.form.Piece.{Piece}
use Rattle.wt_template_stack.specs.declared.level.Level.{Level}
use Rattle.wt_template_stack.specs.declared.level.Levels.{Levels}
use Rattle.wt_template_stack.specs.declared.level.Task.TheVariants as task

-- a text, or a stretch of one, which has given these pieces
abbrev pub text_level : ℕ → List Piece → Level
text_level end out = record { end = end; out = out; task = task.Whole }

-- from the innermost on; the text itself is the last one
abbrev pub stack : Levels → List Level
stack ls = reverse ls.later.items ++ text_level ls.text_end ls.text_out ∷ []

-- a text, or a stretch of one, of which nothing is read
abbrev pub whole_level : ℕ → Level
whole_level end = text_level end []

-- the innermost level is taken, if it isn't the text itself
abbrev pub TakesLevel : Option Level → List Level → List Level → Type 0
TakesLevel None old new = (l : Level) × (old ≡ l ∷ []) × (new ≡ old)
TakesLevel (Some l) old new = old ≡ l ∷ new

-- where the innermost level ends
abbrev pub innermost_end : List Level → Option ℕ
innermost_end [] = None
innermost_end (l ∷ ls) = Some l.end

-- the innermost level has given these pieces, too
abbrev pub with_given : List Piece → List Level → List Level
with_given ps [] = []
with_given ps (l ∷ ls) = record { end = l.end; out = l.out ++ ps; task = l.task } ∷ ls

-- the pieces of one that is there or not
abbrev pub one_or_none : Option Piece → List Piece
one_or_none None = []
one_or_none (Some p) = p ∷ []

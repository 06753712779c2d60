-- What the steps of a text that is expanded answer.
use Rattle.std.specs.Prelude.{◌≡◌, ◌<◌, ◌≤◌, ℕ, ◌+◌, Bool, None, List, [], ◌∷◌, Result, Ok, Err, length, take, drop, ◌-◌}
use Rattle.wt_span.specs.declared.form.LexKind.{LexKind}
use Rattle.wt_span.specs.declared.form.Piece.{Piece}
use Rattle.wt_span.specs.Items.{items}
use Rattle.wt_span.specs.Braces.{Member}
use Rattle.wt_braces.specs.PartMembers.{PartMembers}
use Rattle.wt_expand.specs.Fronts.{Front, NextRefuses, cost_of_all}
use Rattle.wt_expand.specs.Work.{Pages, Entry, begun, refusal_from, too_large}
use Rattle.wt_expand.specs.Expansion.{Output, Reading, Frame, just, lexeme_items, called_output, later_parts, target_part}
use Rattle.wt_expand.specs.Targets.{called}
use Rattle.wt_names.specs.declared.title.Title.{Title}
use Rattle.wt_transclusion.specs.declared.refusal.ExpandRefusal.{ExpandRefusal}
use Rattle.wt_transclusion.specs.declared.refusal.ExpandRefusal.TheVariants as answer
use Rattle.wt_transclusion.specs.declared.read.Braces.{Braces}
use Rattle.wt_transclusion.specs.Cursors.{starts}
use Rattle.wt_values.specs.Frames.{AreValues}
use Rattle.wt_transclusion.specs.Parts.{parts_given}
use Rattle.wt_transclusion.specs.Steps.{IsStretchOf, given_from}
use Rattle.wt_template_stack.specs.declared.level.Level.{Level}
use Rattle.wt_template_stack.specs.declared.level.PendingCall.{PendingCall}
use Rattle.wt_template_stack.specs.declared.level.Task.{Task}
use Rattle.wt_template_stack.specs.declared.run.TextRun.{TextRun}
use Rattle.wt_template_stack.specs.declared.run.StepOutcome.{StepOutcome}
use Rattle.wt_template_stack.specs.declared.run.StepOutcome.TheVariants as turn
use Rattle.wt_template_stack.specs.Accounts.{Account, AreFetched, Does, IsAllowed, IsLast}
use Rattle.wt_template_stack.specs.Calls.{IsBefore, IsCallOf, source_of, parts_of_call, outs_of_call}
use Rattle.wt_template_stack.specs.Levels.{Resumes, Ends, IsHanding}
use Rattle.wt_template_stack.specs.Readers.{CanBeCut, IsReading}
use Rattle.wt_template_stack.specs.Stacks.{stack}
use Rattle.wt_template_stack.specs.Rests.{after_given, after_page, after_values, with_work}

-- ---- where a run is

-- a run reads its text up to this place
pub record IsRunning (r : Reading) (t : List ℕ) (run : TextRun) (p : ℕ) (s : Bool) : Type 0 where
  pub reading : IsReading r.mode t run.reader p s
  pub mode_is : run.mode ≡ r.mode

-- with these levels the text is so
pub record Holds (r : Reading) (t : List ℕ) (run : TextRun) (ls : List Level) (total : Account) : Type 0 where
  pub place : ℕ
  pub at_start : Bool
  pub running : IsRunning r t run place at_start
  pub resumes : Resumes r t place at_start (just []) ls total

-- a level with this task and these pieces is read to its end
pub record HasEnded (r : Reading) (t : List ℕ) (run : TextRun) (k : Task) (out : List Piece) (total : Account) : Type 0 where
  pub place : ℕ
  pub at_start : Bool
  pub running : IsRunning r t run place at_start
  pub ends : Ends r t place k (stack run.levels) (just (items out)) total

-- a call that ends at `to` gives `g`
pub record Returns (r : Reading) (t : List ℕ) (run : TextRun) (to : ℕ) (g : Output) (total : Account) : Type 0 where
  pub place : ℕ
  pub at_start : Bool
  pub running : IsRunning r t run place at_start
  pub before : place < to
  pub resumes : Resumes r t to (starts t to) g (stack run.levels) total

-- bytes of a lexeme are next, and then others, in the innermost of these levels
pub record TakesChunk (r : Reading) (t : List ℕ) (run : TextRun) (ls : List Level) (kind : LexKind) (to : ℕ) (total : Account) : Type 0 where
  pub place : ℕ
  pub at_start : Bool
  pub running : IsRunning r t run place at_start
  pub before : place < to
  pub cut : CanBeCut t place to
  pub resumes : Resumes r t to (starts t to) (just (lexeme_items r.mode kind (take (to - place) (drop place t)))) ls total

-- a level with this task begins at a place, after what is read, which isn't the whole text
pub record BeginsLevel (r : Reading) (t : List ℕ) (run : TextRun) (at : ℕ) (s : Bool) (to : ℕ) (k : Task) (total : Account) : Type 0 where
  pub place : ℕ
  pub at_start : Bool
  pub running : IsRunning r t run place at_start
  pub before : place < at
  pub some : place < length t
  pub left : List Member
  pub stretch : IsStretchOf r.mode t at to left
  pub ends : Ends r t to k (stack run.levels) (given_from r s t at left) total

-- a call is next in the innermost of these levels
pub record BeginsCall (r : Reading) (t : List ℕ) (run : TextRun) (ls : List Level) (b : Braces) (total : Account) : Type 0 where
  pub at_start : Bool
  pub call : IsCallOf r.mode t b
  pub running : IsRunning r t run call.at at_start
  pub resumes : Resumes r t b.at.end (starts t b.at.end)
      (called_output (called call.braces (source_of r.mode t b call) (target_part (parts_of_call r t b call)).items) r at_start call.braces
      (source_of r.mode t b call) (parts_of_call r t b call) (outs_of_call r t b call)) ls total

-- the parts of a call that are left are next
pub record HandsParts (r : Reading) (t : List ℕ) (run : TextRun) (h : PendingCall) (total : Account) : Type 0 where
  pub place : ℕ
  pub at_start : Bool
  pub running : IsRunning r t run place at_start
  pub frame : Frame
  pub at : ℕ
  pub ps : List PartMembers
  pub before : IsBefore place at ps
  pub within : place < h.call.at.end
  pub pending : IsHanding r.mode t h frame at ps
  pub numbered : h.handed.number ≤ h.part
  pub resumes : Resumes r t h.call.at.end (starts t h.call.at.end)
      (after_values r h.at_start h.title frame h.handed.number (parts_given r (starts t at) t at ps)) (stack run.levels) total

-- a page is called with values
pub record Calls (r : Reading) (t : List ℕ) (run : TextRun) (h : PendingCall) (total : Account) : Type 0 where
  pub place : ℕ
  pub at_start : Bool
  pub running : IsRunning r t run place at_start
  pub before : place < h.call.at.end
  pub frame : Frame
  pub values : AreValues h.handed.values frame
  pub resumes : Resumes r t h.call.at.end (starts t h.call.at.end) (after_page h.at_start (r.template h.title frame)) (stack run.levels) total

-- The part that a function gives was told last, and whole, so that its items are there: its work, which was done last, before which so much
-- had been spent, is to be done once more.
pub record GivesAgain (r : Reading) (t : List ℕ) (run : TextRun) (b : Braces) (s : Bool) (spent : ℕ) (out : List Piece) (total : Account) : Type 0 where
  pub place : ℕ
  pub at_start : Bool
  pub running : IsRunning r t run place at_start
  pub before : place < b.at.end
  pub done : List Entry
  pub last : IsLast total spent done
  pub resumes : Resumes r t b.at.end (starts t b.at.end) (after_given s (with_work done (just (items out)))) (stack run.levels) total

-- a part that is left is begun, or there is none
abbrev pub TakesPart : Reading → List ℕ → Account → TextRun → StepOutcome → Type 0
TakesPart r t total run turn.Went = Holds r t run (stack run.levels) total
TakesPart r t total run (turn.Done ps) = ⊥
TakesPart r t total run (turn.Called h) = Calls r t run h total

-- ---- what is spent

-- Work comes first in what is left, and is done at its cost. None of it is refused, where nothing was that was done before; and each page
-- that it fetches was fetched before.
pub record Spends (spent : ℕ) (total : Account) (now : ℕ) (left : Account) : Type 0 where
  pub done : List Entry
  pub does : Does done total left
  pub allowed : (pages : Pages) (page : List ℕ) → IsAllowed pages page total → refusal_from pages page spent done ≡ None
  pub costs : now ≡ spent + cost_of_all done
  pub fetched : AreFetched total.done done

-- after a front of what is left, in which each page that is fetched was fetched before, an entry is refused for its cost
pub record IsTooLarge (pages : Pages) (page : List ℕ) (spent : ℕ) (total : Account) : Type 0 where
  pub done : List Entry
  pub left : List Entry
  pub front : Front pages page spent total.left.work done left
  pub refused : NextRefuses pages page (spent + cost_of_all done) too_large left
  pub fetched : AreFetched total.done done

-- the expansion is refused for its cost, or memory is missing
abbrev pub RefusesCost : ℕ → Account → ExpandRefusal → Type 0
RefusesCost spent total (answer.BracesTooDeep title place) = ⊥
RefusesCost spent total answer.TooLarge = (pages : Pages) (page : List ℕ) → IsAllowed pages page total → IsTooLarge pages page spent total
RefusesCost spent total answer.FolderFault = ⊥
RefusesCost spent total (answer.TemplateNotUtf8 title place) = ⊥
RefusesCost spent total (answer.TemplateTooLong title) = ⊥
RefusesCost spent total answer.NoMemory = Unit {0}

-- a run goes on
abbrev pub Goes : Reading → List ℕ → ℕ → Account → TextRun → ℕ → Type 0
Goes r t spent total run now = (left : Account) × Spends spent total now left × Holds r t run (stack run.levels) left

abbrev pub AnswersGoing : Reading → List ℕ → ℕ → Account → TextRun → ℕ → Result Unit ExpandRefusal → Type 0
AnswersGoing r t spent total run now (Ok u) = Goes r t spent total run now
AnswersGoing r t spent total run now (Err e) = RefusesCost spent total e

-- a run goes on, or is done, or calls a page
abbrev pub TakesTurn : Reading → List ℕ → ℕ → Account → TextRun → ℕ → StepOutcome → Type 0
TakesTurn r t spent total run now turn.Went = Goes r t spent total run now
TakesTurn r t spent total run now (turn.Done ps) = (now ≡ spent) × (total.left ≡ just (items ps))
TakesTurn r t spent total run now (turn.Called h) = (left : Account) × Spends spent total now left × Calls r t run h left

abbrev pub AnswersTurn : Reading → List ℕ → ℕ → Account → TextRun → ℕ → Result StepOutcome ExpandRefusal → Type 0
AnswersTurn r t spent total run now (Ok k) = TakesTurn r t spent total run now k
AnswersTurn r t spent total run now (Err e) = RefusesCost spent total e

-- what the call of a page gives whose target is read already and names a title
abbrev pub page_called : (r : Reading) (t : List ℕ) (b : Braces) → IsCallOf r.mode t b → Bool → Title → Output
page_called r t b c at_start title = with_work (begun ∷ []) (after_values r at_start title [] 1 (later_parts (parts_of_call r t b c)))

-- What the expansion of a text does to what is spent and to the names that are known.
use Rattle.std.specs.Prelude.{◌≡◌, ℕ, ◌+◌, Option, Some, None, List, [], Result, Ok, Err}
use Rattle.wt_span.specs.declared.form.Mode.{Mode}
use Rattle.wt_span.specs.declared.form.Piece.{Piece}
use Rattle.wt_span.specs.declared.list.List.{List as Listed}
use Rattle.wt_span.specs.Items.{items}
use Rattle.wt_expand.specs.Expansion.{Output, Reading, Frame, template_output}
use Rattle.wt_expand.specs.Fronts.{Front, cost_of_all, known_after}
use Rattle.wt_expand.specs.Work.{Pages, Entry, fetches}
use Rattle.wt_transclusion.specs.declared.refusal.ExpandRefusal.{ExpandRefusal}
use Rattle.wt_transclusion.specs.declared.store.Store.{Store}
use Rattle.wt_transclusion.specs.Stops.{Stops, told_with}
use Rattle.wt_transclusion.specs.Stores.{IsStore}
use Rattle.wt_template_stack.specs.declared.level.PendingCall.{PendingCall}
use Rattle.wt_template_stack.specs.declared.run.TextRun.{TextRun}
use Rattle.wt_template_stack.specs.declared.run.StepOutcome.{StepOutcome}
use Rattle.wt_template_stack.specs.declared.run.StepOutcome.TheVariants as turn
use Rattle.wt_template_stack.specs.Accounts.{Account}
use Rattle.wt_template_stack.specs.Runs.{Calls, Holds}
use Rattle.wt_template_stack.specs.Stacks.{stack}

-- a text that is read with values, where these pages are being expanded and so many more may be
abbrev pub reading_of : Pages → Mode → Frame → ℕ → List (List ℕ) → Reading
reading_of pages mode frame left open_titles = record { mode = mode; frame = frame; template = template_output pages left open_titles }

-- what is spent, the names that are known, and those that the folder has answered
pub record Ledger : Type 0 where
  pub spent : ℕ
  pub met : List (List ℕ)
  pub answered : Option (List (List ℕ))

-- the names answered in all, where this work is still to be done
abbrev pub answered_with : Ledger → List Entry → Option (List (List ℕ))
answered_with l es = told_with l.met es l.answered

-- once this work is done
abbrev pub ledger_after : Ledger → List Entry → Ledger
ledger_after l done = record { spent = l.spent + cost_of_all done; met = known_after l.met (fetches done); answered = answered_with l done }

-- a front of some work is done, and this is left
pub record Comes (pages : Pages) (page : List ℕ) (before : Ledger) (work : List Entry) (now : Ledger) (left : List Entry) : Type 0 where
  pub done : List Entry
  pub front : Front pages page before.spent work done left
  pub now_is : now ≡ ledger_after before done

-- the same, where this is what is done
pub record ComesBy (pages : Pages) (page : List ℕ) (before : Ledger) (work done : List Entry) (now : Ledger) (left : List Entry) : Type 0 where
  pub front : Front pages page before.spent work done left
  pub now_is : now ≡ ledger_after before done

-- the work stopped after a front of it, for this cause
abbrev pub Refuses : Pages → List ℕ → Ledger → List Entry → Option (List (List ℕ)) → ExpandRefusal → Type 0
Refuses pages page before work answered e = Stops pages page before.spent before.met work before.answered answered e

-- what was to be given is given, and its work is done; or its work stopped
abbrev pub AnswersOutput : Pages → List ℕ → Ledger → Output → Store → ℕ → Option (List (List ℕ)) → Result (Listed Piece) ExpandRefusal → Type 0
AnswersOutput pages page before o store spent answered (Ok ps) =
    (items ps ≡ o.items) × (met : List (List ℕ)) × IsStore pages met store × Comes pages page before o.work
    (record { spent = spent; met = met; answered = answered }) []
AnswersOutput pages page before o store spent answered (Err e) = Refuses pages page before o.work answered e

abbrev pub ledger : ℕ → List (List ℕ) → Option (List (List ℕ)) → Ledger
ledger spent met answered = record { spent = spent; met = met; answered = answered }

-- So much of a text is expanded, or of a stretch of one: what is left comes to what it gives in all.
pub record Progress (pages : Pages) (page : List ℕ) (r : Reading) (t : List ℕ) (before : Ledger) (all : Output) (run : TextRun) (store : Store) (spent : ℕ)
    (answered : Option (List (List ℕ))) : Type 0 where
  pub total : Account
  pub met : List (List ℕ)
  pub stored : IsStore pages met store
  pub holding : Holds r t run (stack run.levels) total
  pub items_are : all.items ≡ total.left.items
  pub before_is : total.before ≡ before.spent
  pub comes : ComesBy pages page before all.work total.done (ledger spent met answered) total.left.work

-- so much is expanded, and a page is called
pub record Calling (pages : Pages) (page : List ℕ) (r : Reading) (t : List ℕ) (before : Ledger) (all : Output) (run : TextRun) (store : Store) (spent : ℕ)
    (answered : Option (List (List ℕ))) (h : PendingCall) : Type 0 where
  pub total : Account
  pub met : List (List ℕ)
  pub stored : IsStore pages met store
  pub calls : Calls r t run h total
  pub items_are : all.items ≡ total.left.items
  pub before_is : total.before ≡ before.spent
  pub comes : ComesBy pages page before all.work total.done (ledger spent met answered) total.left.work

-- what a step came to
abbrev pub TakesStep : Pages → List ℕ → Reading → List ℕ → Ledger → Output → TextRun → Store → ℕ → Option (List (List ℕ)) → StepOutcome → Type 0
TakesStep pages page r t before all run store spent answered turn.Went = Progress pages page r t before all run store spent answered
TakesStep pages page r t before all run store spent answered (turn.Done ps) = AnswersOutput pages page before all store spent answered (Ok ps)
TakesStep pages page r t before all run store spent answered (turn.Called h) = Calling pages page r t before all run store spent answered h

-- it goes on, or has given all
abbrev pub AnswersAdvance : Pages → List ℕ → Reading → List ℕ → Ledger → Output → TextRun → Store → ℕ → Option (List (List ℕ))
    → Result (Option (Listed Piece)) ExpandRefusal → Type 0
AnswersAdvance pages page r t before all run store spent answered (Ok None) = Progress pages page r t before all run store spent answered
AnswersAdvance pages page r t before all run store spent answered (Ok (Some ps)) = AnswersOutput pages page before all store spent answered (Ok ps)
AnswersAdvance pages page r t before all run store spent answered (Err e) = AnswersOutput pages page before all store spent answered (Err e)

-- What a walk over the page finds.
use Rattle.std.specs.Prelude.{◌≡◌, ◌<◌, ℕ, ◌+◌, ◌||◌, Bool, false, is_some, Option, List, [], ◌∷◌, ◌++◌, Result, Ok, Err, length, map, drop}
use Rattle.wt_span.specs.declared.form.Mode.TheVariants as mode
use Rattle.wt_span.specs.declared.form.Piece.{Piece}
use Rattle.wt_span.specs.Functions.{function_of}
use Rattle.wt_span.specs.Origins.{outer_call, span_of}
use Rattle.wt_span.specs.Braces.{Member, call, members, width_of_all}
use Rattle.wt_expand.specs.Work.{Pages, Entry}
use Rattle.wt_names.specs.declared.title.Title.{Title}
use Rattle.wt_braces.specs.PartMembers.{PartMembers, joined, part_members}
use Rattle.wt_expand.specs.declared.limits.TheConstants.{MOST_TEMPLATES}
use Rattle.wt_expand.specs.Expansion.{Output, Reading, output_of, chars, front_braces, back_braces}
use Rattle.wt_expand.specs.Targets as targets
use Rattle.wt_expand.specs.Targets.{title_of_target}
use Rattle.wt_expand.specs.PageCalls.{Stretch, own, outer, text_call, outer_at, outer_calls, text_spans, stretches_of, all_stretches}
use Rattle.wt_transclusion.specs.declared.read.Braces.{Braces}
use Rattle.wt_transclusion.specs.declared.refusal.ExpandRefusal.{ExpandRefusal}
use Rattle.wt_transclusion.specs.declared.store.Store.{Store}
use Rattle.wt_transclusion.specs.Cursors.{starts}
use Rattle.wt_transclusion.specs.Steps.{IsStretchOf, given_from}
use Rattle.wt_transclusion.specs.Stores.{IsStore}
use Rattle.wt_template_stack.specs.declared.expansion.Expansion.{Expansion}
use Rattle.wt_template_stack.specs.declared.reader.Reader.{Reader}
use Rattle.wt_template_stack.specs.Calls.{IsCallOf, source_of, first_end, members_behind, behind_given}
use Rattle.wt_template_stack.specs.Ledgers.{Ledger, Comes, Refuses, ledger, reading_of}
use Rattle.wt_template_stack.specs.Readers.{IsReading}
use Rattle.wt_template_stack.specs.Runs.{page_called}
use Rattle.wt_expansion.specs.declared.found.Collected.{Collected}
use Rattle.wt_expansion.specs.Made.{AreAlike, GiveKept}

-- the page is read with no values, and none of its templates is being expanded
abbrev pub at_page : Pages → Reading
at_page pages = reading_of pages mode.Page [] MOST_TEMPLATES []

-- what was found between two places is these stretches
pub record Adds (old new : Collected) (at : ℕ) (ss : List Stretch) (to : ℕ) : Type 0 where
  pub pieces : List Piece
  pub pieces_are : new.pieces.items ≡ old.pieces.items ++ pieces
  pub give : GiveKept at (length old.outer.items) ss pieces to
  pub outer_are : map outer_call new.outer.items ≡ map outer_call old.outer.items ++ outer_calls ss
  pub texts_are : map span_of new.text_calls.items ≡ map span_of old.text_calls.items ++ text_spans ss

-- these stretches, or others that make the same page
pub record Finds (old new : Collected) (at : ℕ) (ss : List Stretch) (to : ℕ) : Type 0 where
  pub done : List Stretch
  pub alike : AreAlike done ss
  pub adds : Adds old new at done to

-- the work is done, and these pages are known
pub record Works (pages : Pages) (page : List ℕ) (before : Ledger) (work : List Entry) (store : Store) (spent : ℕ) (answered : Option (List (List ℕ)))
    (left : List Entry) : Type 0 where
  pub met : List (List ℕ)
  pub stored : IsStore pages met store
  pub comes : Comes pages page before work (ledger spent met answered) left

-- stretches between two places are found and their work is done
pub record Walked (pages : Pages) (page : List ℕ) (before : Ledger) (ss : List Stretch) (work : List Entry) (at to : ℕ) (old new : Collected)
    (store : Store) (spent : ℕ) (answered : Option (List (List ℕ))) : Type 0 where
  pub finds : Finds old new at ss to
  pub works : Works pages page before work store spent answered []

-- stretches are found, or their work is refused
abbrev pub AnswersWalk : Pages → List ℕ → Ledger → List Stretch → List Entry → ℕ → ℕ → Collected → Collected → Store → ℕ → Option (List (List ℕ))
    → Result Unit ExpandRefusal → Type 0
AnswersWalk pages page before ss work at to old new store spent answered (Ok u) = Walked pages page before ss work at to old new store spent answered
AnswersWalk pages page before ss work at to old new store spent answered (Err e) = Refuses pages page before work answered e

-- ---- step by step

-- So much of a stretch that ends at `end` is found, and its work is done: the rest of it is at a place.
pub record Left (pages : Pages) (page : List ℕ) (before : Ledger) (ss : List Stretch) (work : List Entry) (at place end : ℕ) (at_start : Bool)
    (old new : Collected) (store : Store) (spent : ℕ) (answered : Option (List (List ℕ))) : Type 0 where
  pub left : List Member
  pub stretch : IsStretchOf mode.Page page place end left
  pub done : List Stretch
  pub alike : AreAlike (done ++ all_stretches (at_page pages) place at_start (drop place page) (members left)) ss
  pub adds : Adds old new at done place
  pub works : Works pages page before work store spent answered (given_from (at_page pages) at_start page place left).work

-- a step is done, or refused
abbrev pub AnswersStep : Pages → List ℕ → Ledger → List Stretch → List Entry → ℕ → ℕ → Collected → Collected → Store → ℕ → Option (List (List ℕ))
    → Result ℕ ExpandRefusal → Type 0
AnswersStep pages page before ss work at end old new store spent answered (Ok to) =
    (at < to) × Left pages page before ss work at to end (starts page to) old new store spent answered
AnswersStep pages page before ss work at end old new store spent answered (Err e) = Refuses pages page before work answered e

-- where the reader of a walk is
pub record Going (pages : Pages) (page : List ℕ) (before : Ledger) (ss : List Stretch) (work : List Entry) (at end : ℕ) (old new : Collected)
    (reader : Reader) (store : Store) (spent : ℕ) (answered : Option (List (List ℕ))) : Type 0 where
  pub place : ℕ
  pub at_start : Bool
  pub reading : IsReading mode.Page page reader place at_start
  pub rest : Left pages page before ss work at place end at_start old new store spent answered

-- ---- calls

-- the stretches of a call and its work
abbrev pub call_stretches_at : (pages : Pages) (page : List ℕ) (b : Braces) → IsCallOf mode.Page page b → Bool → List Stretch
call_stretches_at pages page b c s = stretches_of (at_page pages) c.at s (drop c.at page) (call c.braces c.inside)

abbrev pub call_work : (pages : Pages) (page : List ℕ) (b : Braces) → IsCallOf mode.Page page b → Bool → List Entry
call_work pages page b c s = (output_of (at_page pages) s (drop c.at page) (call c.braces c.inside)).work

-- a call where the reader is
pub record IsCallNext (page : List ℕ) (b : Braces) (reader : Reader) (s : Bool) : Type 0 where
  pub is : IsCallOf mode.Page page b
  pub reading : IsReading mode.Page page reader is.at s
  pub alone : IsStretchOf mode.Page page is.at b.at.end (call is.braces is.inside ∷ [])

-- an argument or a function by text: its source alone says so, before its target is read
abbrev pub is_by_source : Bool → List ℕ → Bool
is_by_source argument source = argument || is_some (function_of (drop 2 source))

-- a call of a page with a title, whose target is read
abbrev pub page_stretch : (pages : Pages) (page : List ℕ) (b : Braces) → IsCallOf mode.Page page b → Bool → Title → List Stretch
page_stretch pages page b c s title =
    outer (outer_at c.at c.braces (source_of mode.Page page b c) c.inside (targets.page title)) (page_called (at_page pages) page b c s title).items ∷ []

abbrev pub page_work_at : (pages : Pages) (page : List ℕ) (b : Braces) → IsCallOf mode.Page page b → Bool → Title → List Entry
page_work_at pages page b c s title = (page_called (at_page pages) page b c s title).work

-- the members of the first part, which is the target
abbrev pub target_members : List PartMembers → List Member
target_members [] = []
target_members (p ∷ ps) = joined p.name p.value

-- what the target of a call gives
abbrev pub target_output : (pages : Pages) (page : List ℕ) (b : Braces) → IsCallOf mode.Page page b → Output
target_output pages page b c = given_from (at_page pages) false page (c.at + c.braces) (target_members (part_members 0 c.inside))

-- what is found of a call up to the end of its target, where it turns out to be text
abbrev pub front_stretches : (pages : Pages) (page : List ℕ) (b : Braces) → IsCallOf mode.Page page b → List Stretch
front_stretches pages page b c =
    let at : ℕ = c.at + c.braces in
    text_call (c.at, c.at + (c.braces + width_of_all c.inside + c.braces)) ∷ (own (chars (front_braces c.braces (source_of mode.Page page b c)))
    ∷ all_stretches (at_page pages) at false (drop at page) (members (target_members (part_members 0 c.inside))))

-- the target of a call is read, and this is the title that it says
pub record TargetRead (pages : Pages) (page : List ℕ) (before : Ledger) (b : Braces) (c : IsCallOf mode.Page page b) (title : Option Title)
    (old new : Collected) (store : Store) (spent : ℕ) (answered : Option (List (List ℕ))) : Type 0 where
  pub title_is : title ≡ title_of_target (target_output pages page b c).items
  pub finds : Finds old new c.at (front_stretches pages page b c) (first_end (c.at + c.braces) (part_members 0 c.inside))
  pub works : Works pages page before (target_output pages page b c).work store spent answered []

abbrev pub AnswersTarget : (pages : Pages) (page : List ℕ) → Ledger → (b : Braces) → IsCallOf mode.Page page b → Collected → Collected → Store → ℕ
    → Option (List (List ℕ)) → Result (Option Title) ExpandRefusal → Type 0
AnswersTarget pages page before b c old new store spent answered (Ok title) = TargetRead pages page before b c title old new store spent answered
AnswersTarget pages page before b c old new store spent answered (Err e) = Refuses pages page before (target_output pages page b c).work answered e

-- what comes after the target of a call that is text
abbrev pub behind_stretches : (pages : Pages) (page : List ℕ) (b : Braces) → IsCallOf mode.Page page b → List Stretch
behind_stretches pages page b c =
    let ps = part_members 0 c.inside in
    let q = first_end (c.at + c.braces) ps in
    all_stretches (at_page pages) q (starts page q) (drop q page) (members (members_behind ps))
    ++ own (chars (back_braces c.braces (source_of mode.Page page b c))) ∷ []

abbrev pub behind_work : (pages : Pages) (page : List ℕ) (b : Braces) → IsCallOf mode.Page page b → List Entry
behind_work pages page b c = (behind_given (at_page pages) page b c).work

-- nothing is being expanded, and these pages are known
pub record IsFree (pages : Pages) (met : List (List ℕ)) (x : Expansion) : Type 0 where
  pub stored : IsStore pages met x.store
  pub names : x.names ≡ []

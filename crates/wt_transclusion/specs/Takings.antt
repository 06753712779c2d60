-- What is taken for a title.
use Rattle.std.specs.Prelude.{◌≡◌, ◌<◌, ◌⊎◌, ℕ, zero, suc, Bool, true, false, Option, Some, None, List, [], ◌∷◌, Result, Ok, Err}
use Rattle.wt_span.specs.Items.{items}
use Rattle.wt_names.specs.declared.title.Title.{Title}
use Rattle.wt_names.specs.Namespace.{full_name_of}
use Rattle.wt_expand.specs.Expansion.{Frame, template_output}
use Rattle.wt_expand.specs.Work.{Pages, Refused, fetched, found_refusal, is_among}
use Rattle.wt_transclusion.specs.declared.refusal.ExpandRefusal.{ExpandRefusal}
use Rattle.wt_transclusion.specs.declared.refusal.ExpandRefusal.TheVariants as answer
use Rattle.wt_transclusion.specs.declared.store.Store.{Store}
use Rattle.wt_transclusion.specs.declared.templates.PageLookup.{PageLookup}
use Rattle.wt_transclusion.specs.declared.templates.PageLookup.TheVariants as taken
use Rattle.wt_transclusion.specs.Answers.{IsFetched, IsRefused}
use Rattle.wt_transclusion.specs.Stores.{IsStore, met_with, named_with}

-- what refuses the page of a title, where so many more may be expanded and it is among those that are: nothing where it isn't asked for
abbrev pub taking_refusal : ℕ → Bool → Option Refused → Option Refused
taking_refusal zero open_already o = None
taking_refusal (suc left) true o = None
taking_refusal (suc left) false o = o

-- it is the text of a page
abbrev pub IsPage : PageLookup → Type 0
IsPage (taken.Message ps) = ⊥
IsPage (taken.Link ps) = ⊥
IsPage (taken.Page read) = Unit {0}

-- With these names of pages that are being expanded and so many more allowed: a message gives what the title gives, under any
-- values, with no work; a link gives it with one fetch; and a page is the one that the title is expanded from.
abbrev pub AnswersTaking : Pages → List (List ℕ) → List (List ℕ) → ℕ → Title → Store → Result PageLookup ExpandRefusal → Type 0
AnswersTaking pages met open_titles left t new (Ok (taken.Message ps)) =
    ((frame : Frame) → template_output pages left open_titles t frame ≡ record { items = items ps; work = [] }) × IsStore pages met new
AnswersTaking pages met open_titles left t new (Ok (taken.Link ps)) =
    ((frame : Frame) → template_output pages left open_titles t frame ≡ record { items = items ps; work = fetched (full_name_of t) ∷ [] })
    × IsStore pages (met_with (full_name_of t) met) new
AnswersTaking pages met open_titles left t new (Ok (taken.Page read)) =
    (0 < left) × (is_among (full_name_of t) open_titles ≡ false) × IsFetched (full_name_of t) (pages (full_name_of t)) (Some read)
    × IsStore pages (met_with (full_name_of t) met) new
AnswersTaking pages met open_titles left t new (Err e) =
    IsRefused (taking_refusal left (is_among (full_name_of t) open_titles) (found_refusal (full_name_of t) (pages (full_name_of t)))) e

-- the names answered where a title is taken, where so many more may be expanded and it is among those that
-- are, or isn't: with its name, if its page is asked for and wasn't known
abbrev pub names_taking : ℕ → Bool → List ℕ → List (List ℕ) → Option (List (List ℕ)) → Option (List (List ℕ))
names_taking zero open_already name met answered = answered
names_taking (suc left) true name met answered = answered
names_taking (suc left) false name met answered = named_with name met answered

-- The page of a name is asked for: more may be expanded, it isn't among those that are, and it wasn't fetched before.
pub record IsAsked (left : ℕ) (open_titles : List (List ℕ)) (full : List ℕ) (met : List (List ℕ)) : Type 0 where
  pub more : 0 < left
  pub shut : is_among full open_titles ≡ false
  pub unmet : is_among full met ≡ false

-- What the folder has answered since where the title's page is refused: its name too; where the folder failed nothing; and the one or the
-- other where memory is missing, which it may be where nothing is asked for, too.
abbrev pub IsNamedErr : ℕ → List (List ℕ) → List ℕ → List (List ℕ) → Option (List (List ℕ)) → Option (List (List ℕ)) → ExpandRefusal → Type 0
IsNamedErr left open_titles full met old new (answer.BracesTooDeep title place) = IsAsked left open_titles full met × (new ≡ named_with full met old)
IsNamedErr left open_titles full met old new answer.TooLarge = IsAsked left open_titles full met × (new ≡ named_with full met old)
IsNamedErr left open_titles full met old new answer.FolderFault = IsAsked left open_titles full met × (new ≡ old)
IsNamedErr left open_titles full met old new (answer.TemplateNotUtf8 title place) = IsAsked left open_titles full met × (new ≡ named_with full met old)
IsNamedErr left open_titles full met old new (answer.TemplateTooLong title) = IsAsked left open_titles full met × (new ≡ named_with full met old)
IsNamedErr left open_titles full met old new answer.NoMemory =
    (new ≡ old) ⊎ (new ≡ names_taking left (is_among full open_titles) full met old)

-- What the folder has answered since: nothing for a message, else this name, if it wasn't known.
abbrev pub IsNamed : ℕ → List (List ℕ) → List ℕ → List (List ℕ) → Option (List (List ℕ))
    → Option (List (List ℕ)) → Result PageLookup ExpandRefusal → Type 0
IsNamed left open_titles full met old new (Ok (taken.Message ps)) = new ≡ old
IsNamed left open_titles full met old new (Ok (taken.Link ps)) = new ≡ named_with full met old
IsNamed left open_titles full met old new (Ok (taken.Page read)) = new ≡ named_with full met old
IsNamed left open_titles full met old new (Err e) = IsNamedErr left open_titles full met old new e

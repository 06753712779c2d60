-- `edit` of the difference: of an input without marks, with the marks of its difference from the page.
use Rattle.std.specs.Prelude.{◌≡◌, ◌≤◌, ℕ, length, List, Option, Some}
use Rattle.wt_expand.specs.Work.{Pages}
use Rattle.wt_schema.specs.Read.{Read, page as as_page, ill, misfit, read}
use Rattle.wt_span.specs.declared.limits.TheConstants.{HTML_BYTES}
use Rattle.wt_commands.specs.Answers.{done, edit_to, remarked_of, IsText}

-- `edit` of the edited tree with the marks of its difference is done
abbrev pub EditIsDone : Pages → List ℕ → Read → Type 0
EditIsDone pages page (as_page edited unsourced) = (new : List ℕ) × (edit_to pages page (remarked_of pages page edited) ≡ done new)
EditIsDone pages page (ill place why) = ⊥
EditIsDone pages page (misfit n why) = ⊥

-- of what is under a title, for an input that may be taken
pub record DoneByEdit (pages : Pages) (stands : Option (List ℕ)) (input : List ℕ) : Type 0 where
  pub page : List ℕ
  pub found : stands ≡ Some page
  pub text : IsText page
  pub within : length input ≤ HTML_BYTES
  pub done : EditIsDone pages page (read input)

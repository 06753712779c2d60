-- What `selser` finds for an edited tree: a new page that was read back, or why there is none.
use Rattle.std.specs.Prelude.{◌≡◌, ◌≤◌, ⊤, ℕ, length, Bool, List, [], Option, Some, None, Result, Ok, Err}
use Rattle.wt_expand.specs.PageCalls.{expanded_page}
use Rattle.wt_expand.specs.Work.{Pages}
use Rattle.wt_schema.specs.Read.{Read, page as as_page, ill, misfit, read}
use Rattle.wt_page_round_trip.specs.PageTree.{page_tree}
use Rattle.wt_checks.specs.Checked.{nodes_checked}
use Rattle.wt_difference.specs.Difference.{are_none, difference}
use Rattle.wt_visible.specs.Restored.{restored_from}
use Rattle.wt_span.specs.Origins.{Expanded}
use Rattle.wt_span.specs.declared.limits.TheConstants.{HTML_BYTES}
use Rattle.wt_tree.specs.Plain.{plain}
use Rattle.wt_tree.specs.Tree.{Tree}
use Rattle.wt_edit.specs.declared.selser_refusal.SelserRefusal.{SelserRefusal}
use Rattle.wt_unmarked_edit.specs.Found.{IsNewPage, IsNoNewPage}
use Rattle.wt_commands.specs.declared.output.Output.{Output}
use Rattle.wt_commands.specs.declared.refusal.Refusal.{Refusal}
use Rattle.wt_commands.specs.declared.status.Status.{Status}
use Rattle.wt_commands.specs.declared.status.Status.TheVariants as status
use Rattle.wt_commands.specs.Answers.{Answer, done, refused, remarked_of, taken_of, IsUnrefused}
use Rattle.wt_commands.specs.Causes.{Answered}
use Rattle.wt_commands.specs.Devices.{SinkUse, Took}
use Rattle.wt_commands.specs.Outputs.{output_bytes}
use Rattle.wt_commands.specs.Refusals.{line_of, refusal_of_selser, status_of}
use Rattle.wt_commands.specs.Statuses.{code}

-- ---- what is found

-- there is no new page, for a reason that the program names so
pub record IsUnfound (pages : Pages) (items : Expanded) (page : List ℕ) (t u : Tree) (same : Bool) (r : Refusal) : Type 0 where
  pub why : SelserRefusal
  pub none : IsNoNewPage pages items page t u same why
  pub named : r ≡ refusal_of_selser why

-- by how the call ends
abbrev pub FindsNone : Pages → Expanded → List ℕ → Tree → Tree → Bool → Refusal → Status → Type 0
FindsNone pages items page t u same r status.Done = ⊥
FindsNone pages items page t u same r status.Usage = ⊥
FindsNone pages items page t u same r status.PageRefused = ⊥
FindsNone pages items page t u same r status.HtmlRefused = ⊥
FindsNone pages items page t u same r status.EditRefused = IsUnfound pages items page t u same r
FindsNone pages items page t u same r status.ReadFault = ⊤
FindsNone pages items page t u same r status.FolderFault = ⊤
FindsNone pages items page t u same r status.WriteFault = ⊤
FindsNone pages items page t u same r status.NoMemory = ⊤

-- Of an expanded page with this tree, for an edited tree with the marks of the difference; `same` says that there is none.
abbrev pub FindsNew : Pages → Expanded → List ℕ → Tree → Tree → Bool → Result Output Refusal → Type 0
FindsNew pages items page t u same (Ok output) = IsNewPage pages items page t u same (output_bytes output)
FindsNew pages items page t u same (Err r) = FindsNone pages items page t u same r (status_of r)

-- ---- the answer

-- of a page that is taken, for an edited tree
abbrev pub Finds : Pages → List ℕ → Tree → Result Output Refusal → Type 0
Finds pages page edited result =
    FindsNew pages (expanded_page pages page) page (page_tree pages page) (remarked_of pages page edited)
    (are_none (difference (page_tree pages page) edited)) result

-- of a page that is taken, for what was read
abbrev pub FindsFor : Pages → List ℕ → Read → Result Output Refusal → Type 0
FindsFor pages page (as_page edited unsourced) result = Finds pages page edited result
FindsFor pages page (ill place why) result = ⊤
FindsFor pages page (misfit n why) result = ⊤

abbrev pub FindsUnder : Pages → Option (List ℕ) → Read → Result Output Refusal → Type 0
FindsUnder pages None r result = ⊤
FindsUnder pages (Some page) r result = FindsFor pages page r result

-- A refusal before a new page is looked for is the answer. Where the page is taken, this was found.
abbrev pub OrFound : Answer → Type 0 → Result Output Refusal → Type 0
OrFound (refused r) found result = Answered (refused r) result
OrFound (done page) found result = found

-- `selser` of what is under the title, for this input
abbrev pub AnswersSelser : Pages → Option (List ℕ) → List ℕ → Result Output Refusal → Type 0
AnswersSelser pages stands input result = OrFound (taken_of pages stands input) (FindsUnder pages stands (read input) result) result

-- ---- nothing is changed

-- An input that differs from the page's own HTML only in what isn't compared, as marks, separators, comments that were taken out, and
-- sources are. It stands for an edited tree none of whose nodes is refused, in which nothing differs from the page's tree, and which shows
-- what the page shows. (Of a text after a block in an item or a cell the difference sees only that one is there, so what is shown
-- is asked, too.)
pub record IsUnchanged (pages : Pages) (page input : List ℕ) : Type 0 where
  pub edited : Tree
  pub unsourced : Option ℕ
  pub answered : IsUnrefused pages page
  pub within : length input ≤ HTML_BYTES
  pub reads : read input ≡ as_page edited unsourced
  pub allowed : nodes_checked (page_tree pages page) (remarked_of pages page edited) ≡ None
  pub same : difference (page_tree pages page) edited ≡ []
  pub shows : plain (page_tree pages page) ≡ plain (restored_from (page_tree pages page) edited)

-- ---- a refusal

-- no new page, for this reason, of what was read
abbrev pub NoneFor : Pages → List ℕ → Read → Refusal → Type 0
NoneFor pages page (as_page edited unsourced) r = IsUnfound pages (expanded_page pages page) page (page_tree pages page)
    (remarked_of pages page edited) (are_none (difference (page_tree pages page) edited)) r
NoneFor pages page (ill place why) r = ⊤
NoneFor pages page (misfit n why) r = ⊤

abbrev pub NoneUnder : Pages → Option (List ℕ) → Read → Refusal → Type 0
NoneUnder pages None read r = ⊤
NoneUnder pages (Some page) read r = NoneFor pages page read r

-- it refuses before a new page is looked for, or there is none for this reason
abbrev pub RefusesSelser : Answer → Type 0 → Refusal → Type 0
RefusesSelser (refused before) none r = before ≡ r
RefusesSelser (done page) none r = none

-- the line of such a refusal was written, and the call ended with its status
pub record RefusedSelser (pages : Pages) (stands : Option (List ℕ)) (input : List ℕ) (ended : ℕ) (err : SinkUse) : Type 0 where
  pub refusal : Refusal
  pub cause : RefusesSelser (taken_of pages stands input) (NoneUnder pages stands (read input) refusal) refusal
  pub named : ended ≡ code (status_of refusal)
  pub line : Took err (line_of refusal)

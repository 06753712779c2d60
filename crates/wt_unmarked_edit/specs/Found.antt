-- What an edit without marks finds for an edited tree: a new page that was read back, or why there is none.
use Rattle.std.specs.Prelude.{◌≡◌, ◌<◌, ◌⊎◌, ⊤, ℕ, length, Bool, true, false, List, Option, Some, None, Result, Ok, Err}
use Rattle.wt_expand.specs.Work.{Pages}
use Rattle.wt_transclusion.specs.declared.refusal.ExpandRefusal.{ExpandRefusal}
use Rattle.wt_page_round_trip.specs.PageTree.{page_tree}
use Rattle.wt_checks.specs.Checked.{nodes_checked}
use Rattle.wt_checks.specs.declared.refusal.TreeRefusal.{TreeRefusal}
use Rattle.wt_difference.specs.Difference.{are_none, difference}
use Rattle.wt_difference.specs.Remarked.{remarked}
use Rattle.wt_places.specs.Rewritten.{IsRewritten}
use Rattle.wt_selser.specs.Edits.{edit_answer}
use Rattle.wt_selser.specs.declared.refusal.EditRefusal.{EditRefusal as SpliceRefusal}
use Rattle.wt_selser.specs.declared.refusal.EditRefusal.TheVariants as of_splice
use Rattle.wt_visible.specs.KeptMarks.{KeepsMarks}
use Rattle.wt_visible.specs.SameNodes.{same_node}
use Rattle.wt_span.specs.Origins.{Expanded}
use Rattle.wt_span.specs.declared.limits.TheConstants.{PAGE_BYTES}
use Rattle.wt_tree.specs.Tree.{Tree}
use Rattle.wt_edit.specs.Edits.{IsPage, new_answer}
use Rattle.wt_edit.specs.declared.refusal.EditRefusal.{EditRefusal}
use Rattle.wt_edit.specs.declared.refusal.EditRefusal.TheVariants as of_edit
use Rattle.wt_new_page.specs.declared.asked.Fault.{Fault}
use Rattle.wt_new_page.specs.declared.asked.Fault.TheVariants as fault
use Rattle.wt_edit.specs.declared.selser_refusal.SelserRefusal.{SelserRefusal}
use Rattle.wt_edit.specs.declared.selser_refusal.SelserRefusal.TheVariants as refusal

-- ---- a new page

-- A new page that was proposed: the page with places of the difference, and nothing else, written anew; and the comments and include
-- tags that the edited tree still has are in it.
pub record IsProposed (pages : Pages) (page : List ℕ) (t u : Tree) (new : List ℕ) : Type 0 where
  pub rewritten : IsRewritten page t u new
  pub keeps : KeepsMarks (page_tree pages new) t u

-- A new page is one that was proposed; where nothing differs, which `same` says, the page as it is; or what `edit` makes of the marks of
-- the difference.
abbrev pub IsMade : Pages → Expanded → List ℕ → Tree → Tree → Bool → List ℕ → Type 0
IsMade pages items page t u same new =
    IsProposed pages page t u new ⊎ (((same ≡ true) × (new ≡ page)) ⊎ (edit_answer same_node items page t u ≡ Ok new))

-- It is read back: it may be a page, nothing refuses its expansion, and it shows what the edited tree shows.
pub record ReadsBack (pages : Pages) (t u : Tree) (new : List ℕ) : Type 0 where
  pub page : IsPage new
  pub shows : new_answer pages t u new ≡ Ok new

-- The page itself is the new page where nothing differs and it reads back.
abbrev pub PageMustDo : Pages → List ℕ → Tree → Tree → Bool → Type 0
PageMustDo pages page t u same = (same ≡ true) × ReadsBack pages t u page

-- A new page: it is made by the page's edit, and it reads back.
pub record IsNewPage (pages : Pages) (items : Expanded) (page : List ℕ) (t u : Tree) (same : Bool) (new : List ℕ) : Type 0 where
  pub made : IsMade pages items page t u same new
  pub back : ReadsBack pages t u new
  pub itself : PageMustDo pages page t u same → new ≡ page

-- ---- why a page that is tried isn't the answer

-- it may be a page, and reading it back refuses it so
pub record IsRefusedAs (pages : Pages) (t u : Tree) (new : List ℕ) (e : EditRefusal) : Type 0 where
  pub page : IsPage new
  pub refused : new_answer pages t u new ≡ Err e

-- it doesn't read back: it is longer than a page may be; its expansion is refused; or it shows something else, first in this child
abbrev pub IsFaultOf : Pages → Tree → Tree → List ℕ → Fault → Type 0
IsFaultOf pages t u new fault.TooLong = PAGE_BYTES < length new
IsFaultOf pages t u new fault.Expansion = (e : ExpandRefusal) × IsRefusedAs pages t u new (of_edit.NewExpansion e)
IsFaultOf pages t u new (fault.Block child) = IsRefusedAs pages t u new (of_edit.Unspelled child)

-- It doesn't read back, or it shows the same, and has lost a comment or an include tag. Where none was found to try, that is reported as the
-- last.
abbrev pub FailsAs : Pages → Tree → Tree → Option (List ℕ) → Fault → Type 0
FailsAs pages t u None why = why ≡ fault.Block 0
FailsAs pages t u (Some new) why = IsFaultOf pages t u new why ⊎ ((¬ KeepsMarks (page_tree pages new) t u) × (why ≡ fault.Block 0))

-- the first new page that is tried: where nothing differs the page as it is; else the page with places of the difference, and nothing
-- else, written anew, or none where none was found
abbrev pub IsFirst : List ℕ → Tree → Tree → Bool → Option (List ℕ) → Type 0
IsFirst page t u true None = ⊥
IsFirst page t u true (Some new) = new ≡ page
IsFirst page t u false None = ⊤
IsFirst page t u false (Some new) = IsRewritten page t u new

-- it isn't the answer, for this reason
pub record FirstFails (pages : Pages) (page : List ℕ) (t u : Tree) (same : Bool) (why : Fault) : Type 0 where
  pub first : Option (List ℕ)
  pub made : IsFirst page t u same first
  pub fails : FailsAs pages t u first why

-- ---- why there is none

-- a refusal of a new page
abbrev pub IsOfNewPage : SelserRefusal → Type 0
IsOfNewPage (refusal.Check c) = ⊥
IsOfNewPage (refusal.BadContent n why) = ⊤
IsOfNewPage refusal.NewPageTooLong = ⊤
IsOfNewPage refusal.NewExpansion = ⊤
IsOfNewPage (refusal.Unspelled k) = ⊤
IsOfNewPage refusal.FolderFault = ⊥
IsOfNewPage refusal.NoMemory = ⊥

-- by what a new page fails
abbrev pub refusal_of_fault : Fault → SelserRefusal
refusal_of_fault fault.TooLong = refusal.NewPageTooLong
refusal_of_fault fault.Expansion = refusal.NewExpansion
refusal_of_fault (fault.Block child) = refusal.Unspelled child

-- The refusal, by what `edit` answers to the marks of the difference and why the first new page isn't the answer: what of its content can't
-- be, or that `edit`'s new page is too long; else what the first new page is refused for.
abbrev pub late_refusal : Result (List ℕ) SpliceRefusal → Fault → SelserRefusal
late_refusal (Ok new) first = refusal_of_fault first
late_refusal (Err (of_splice.Check c)) first = refusal_of_fault first
late_refusal (Err (of_splice.BadContent n why)) first = refusal.BadContent n why
late_refusal (Err (of_splice.Tangled n)) first = refusal_of_fault first
late_refusal (Err of_splice.NewPageTooLong) first = refusal.NewPageTooLong
late_refusal (Err of_splice.NoMemory) first = refusal.NoMemory

-- No new page: it is refused by its content, as too long, for its expansion or for what it shows, as `edit` and the first new page have it;
-- and `edit` refuses the marks of the difference, too, or its new page doesn't read back.
pub record IsNoNewPage (pages : Pages) (items : Expanded) (page : List ℕ) (t u : Tree) (same : Bool) (r : SelserRefusal) : Type 0 where
  pub late : IsOfNewPage r
  pub fault : Fault
  pub first : FirstFails pages page t u same fault
  pub is : r ≡ late_refusal (edit_answer same_node items page t u) fault
  pub unedited : (new : List ℕ) → edit_answer same_node items page t u ≡ Ok new → ¬ ReadsBack pages t u new
  pub itself : ¬ PageMustDo pages page t u same

-- a fault of the folder and want of memory may come at any time
abbrev pub FindsNone : Pages → Expanded → List ℕ → Tree → Tree → Bool → SelserRefusal → Type 0
FindsNone pages items page t u same (refusal.Check c) = ⊥
FindsNone pages items page t u same (refusal.BadContent n why) = IsNoNewPage pages items page t u same (refusal.BadContent n why)
FindsNone pages items page t u same refusal.NewPageTooLong = IsNoNewPage pages items page t u same refusal.NewPageTooLong
FindsNone pages items page t u same refusal.NewExpansion = IsNoNewPage pages items page t u same refusal.NewExpansion
FindsNone pages items page t u same (refusal.Unspelled k) = IsNoNewPage pages items page t u same (refusal.Unspelled k)
FindsNone pages items page t u same refusal.FolderFault = ⊤
FindsNone pages items page t u same refusal.NoMemory = ⊤

-- ---- the answer

-- Of an expanded page with this tree, for an edited tree with the marks of the difference; `same` says that there is none.
abbrev pub FindsNew : Pages → Expanded → List ℕ → Tree → Tree → Bool → Result (List ℕ) SelserRefusal → Type 0
FindsNew pages items page t u same (Ok new) = IsNewPage pages items page t u same new
FindsNew pages items page t u same (Err r) = FindsNone pages items page t u same r

-- the refusal is this check
abbrev pub IsCheck : TreeRefusal → SelserRefusal → Type 0
IsCheck c (refusal.Check found) = found ≡ c
IsCheck c (refusal.BadContent n why) = ⊥
IsCheck c refusal.NewPageTooLong = ⊥
IsCheck c refusal.NewExpansion = ⊥
IsCheck c (refusal.Unspelled k) = ⊥
IsCheck c refusal.FolderFault = ⊤
IsCheck c refusal.NoMemory = ⊤

-- where a check refuses a node this is the answer, and else this was found
abbrev pub UnlessChecked : Option TreeRefusal → Type 0 → Result (List ℕ) SelserRefusal → Type 0
UnlessChecked None found result = found
UnlessChecked (Some c) found (Ok new) = ⊥
UnlessChecked (Some c) found (Err r) = IsCheck c r

-- Of an expanded page with this tree, for an edited tree, whose own marks count for nothing: the first check that refuses one of its nodes;
-- else what was found for it with the marks of its difference from the page's tree, and no others.
abbrev pub AnswersUnmarked : Pages → Expanded → List ℕ → Tree → Tree → Result (List ℕ) SelserRefusal → Type 0
AnswersUnmarked pages items page t edited result = UnlessChecked (nodes_checked t (remarked t edited))
    (FindsNew pages items page t (remarked t edited) (are_none (difference t edited)) result) result

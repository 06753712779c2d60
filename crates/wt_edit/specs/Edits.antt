-- The edit of a page: the new page, or why there is none.
use Rattle.std.specs.Prelude.{◌≡◌, ◌≤◌, ⊤, ℕ, List, length, IsUtf8, Option, Some, None, Result, Ok, Err}
use Rattle.wt_span.specs.declared.limits.TheConstants.{PAGE_BYTES}
use Rattle.wt_devices.specs.Device.{Rose}
use Rattle.wt_tree.specs.Tree.{Tree}
use Rattle.wt_expand.specs.Expansion.{page_work}
use Rattle.wt_expand.specs.Work.{Pages, Refused, braces_too_deep, too_large, not_utf8, too_long, first_refusal}
use Rattle.wt_transclusion.specs.declared.refusal.ExpandRefusal.{ExpandRefusal}
use Rattle.wt_transclusion.specs.declared.refusal.ExpandRefusal.TheVariants as of_expansion
use Rattle.wt_page_round_trip.specs.PageTree.{page_tree}
use Rattle.wt_visible.specs.Children.{shown_children, differing}
use Rattle.wt_visible.specs.Restored.{restored_from}
use Rattle.wt_selser.specs.declared.refusal.EditRefusal.{EditRefusal as SpliceRefusal}
use Rattle.wt_selser.specs.declared.refusal.EditRefusal.TheVariants as of_splice
use Rattle.wt_edit.specs.declared.refusal.EditRefusal.{EditRefusal}
use Rattle.wt_edit.specs.declared.refusal.EditRefusal.TheVariants as refusal

-- ---- pages

-- the first refusal of the page's work
abbrev pub refusal_of_page : Pages → List ℕ → Option Refused
refusal_of_page pages page = first_refusal pages page (page_work pages page)

-- bytes that are a page: UTF-8, and no more than a page may have
pub record IsPage (bytes : List ℕ) : Type 0 where
  pub text : IsUtf8 bytes
  pub within : length bytes ≤ PAGE_BYTES

-- ---- refusals

-- why the splice is refused, as the edit names it
abbrev pub refusal_of_splice : SpliceRefusal → EditRefusal
refusal_of_splice (of_splice.Check c) = refusal.Check c
refusal_of_splice (of_splice.BadContent n why) = refusal.BadContent n why
refusal_of_splice (of_splice.Tangled n) = refusal.Tangled n
refusal_of_splice of_splice.NewPageTooLong = refusal.NewPageTooLong
refusal_of_splice of_splice.NoMemory = refusal.NoMemory

-- why an expansion is refused
abbrev pub expand_refusal : Refused → ExpandRefusal
expand_refusal (braces_too_deep title place) = of_expansion.BracesTooDeep title place
expand_refusal too_large = of_expansion.TooLarge
expand_refusal (not_utf8 title place) = of_expansion.TemplateNotUtf8 title place
expand_refusal (too_long title) = of_expansion.TemplateTooLong title

-- what the expansion of the new page answers, as the edit names it
abbrev pub refusal_of_new : ExpandRefusal → EditRefusal
refusal_of_new (of_expansion.BracesTooDeep title place) = refusal.NewExpansion (of_expansion.BracesTooDeep title place)
refusal_of_new of_expansion.TooLarge = refusal.NewExpansion of_expansion.TooLarge
refusal_of_new of_expansion.FolderFault = refusal.FolderFault
refusal_of_new (of_expansion.TemplateNotUtf8 title place) = refusal.NewExpansion (of_expansion.TemplateNotUtf8 title place)
refusal_of_new (of_expansion.TemplateTooLong title) = refusal.NewExpansion (of_expansion.TemplateTooLong title)
refusal_of_new of_expansion.NoMemory = refusal.NoMemory

-- ---- the answer

-- the new page, where no child of its body differs
abbrev pub shown_by : List ℕ → Option ℕ → Result (List ℕ) EditRefusal
shown_by new None = Ok new
shown_by new (Some k) = Err (refusal.Unspelled k)

-- the new page, where its tree shows what the edited tree shows, in which a kept group is what the page's group of its number
-- holds; else the first child, counted from 1, in which they differ
abbrev pub shown_answer : Pages → Tree → Tree → List ℕ → Result (List ℕ) EditRefusal
shown_answer pages t edited new = shown_by new (differing 1 (shown_children (page_tree pages new)) (shown_children (restored_from t edited)))

-- this, where nothing refuses the new page's expansion
abbrev pub expanded_by : Result (List ℕ) EditRefusal → Option Refused → Result (List ℕ) EditRefusal
expanded_by answer None = answer
expanded_by answer (Some r) = Err (refusal.NewExpansion (expand_refusal r))

abbrev pub new_answer : Pages → Tree → Tree → List ℕ → Result (List ℕ) EditRefusal
new_answer pages t edited new = expanded_by (shown_answer pages t edited new) (refusal_of_page pages new)

-- The edit of a page of this tree, by what the splice answers: its refusal; or of the new page that it gives the refusal of the expansion,
-- or the first child that differs, or the new page itself.
abbrev pub answer_by : Pages → Tree → Tree → Result (List ℕ) SpliceRefusal → Result (List ℕ) EditRefusal
answer_by pages t edited (Ok new) = new_answer pages t edited new
answer_by pages t edited (Err e) = Err (refusal_of_splice e)

-- ---- what a call answers

-- the refusal is this answer; a fault of the folder and want of memory may come at any time
abbrev pub Refuses : EditRefusal → Result (List ℕ) EditRefusal → Type 0
Refuses (refusal.Check c) answer = answer ≡ Err (refusal.Check c)
Refuses (refusal.BadContent n why) answer = answer ≡ Err (refusal.BadContent n why)
Refuses (refusal.Tangled n) answer = answer ≡ Err (refusal.Tangled n)
Refuses refusal.NewPageTooLong answer = answer ≡ Err refusal.NewPageTooLong
Refuses (refusal.NewExpansion e) answer = answer ≡ Err (refusal.NewExpansion e)
Refuses (refusal.Unspelled k) answer = answer ≡ Err (refusal.Unspelled k)
Refuses refusal.FolderFault answer = ⊤
Refuses refusal.NoMemory answer = ⊤

abbrev pub Answers : Result (List ℕ) EditRefusal → Result (List ℕ) EditRefusal → Type 0
Answers answer (Ok new) = answer ≡ Ok new
Answers answer (Err e) = Refuses e answer

-- the folder's count of faults rose where the folder failed, and else it stays
abbrev pub IsCountedErr : ℕ → ℕ → EditRefusal → Type 0
IsCountedErr before after (refusal.Check c) = after ≡ before
IsCountedErr before after (refusal.BadContent n why) = after ≡ before
IsCountedErr before after (refusal.Tangled n) = after ≡ before
IsCountedErr before after refusal.NewPageTooLong = after ≡ before
IsCountedErr before after (refusal.NewExpansion e) = after ≡ before
IsCountedErr before after (refusal.Unspelled k) = after ≡ before
IsCountedErr before after refusal.FolderFault = Rose before after
IsCountedErr before after refusal.NoMemory = after ≡ before

abbrev pub IsCounted : {T : Type 0} → ℕ → ℕ → Result T EditRefusal → Type 0
IsCounted before after (Ok value) = after ≡ before
IsCounted before after (Err e) = IsCountedErr before after e

-- What reading a new page back says, and what trying a proposal does.
use Rattle.std.specs.Prelude.{◌≡◌, ⊤, ℕ, Bool, false, List, Option, Some, None}
use Rattle.wt_expand.specs.Work.{Pages}
use Rattle.wt_expansion.specs.Known.{HoldsPages}
use Rattle.wt_expansion.specs.Walks.{IsFree}
use Rattle.wt_template_stack.specs.declared.expansion.Expansion.{Expansion}
use Rattle.wt_page_round_trip.specs.PageTree.{page_tree}
use Rattle.wt_visible.specs.KeptMarks.{KeepsMarks}
use Rattle.wt_span.specs.Origins.{Expanded}
use Rattle.wt_transclusion.specs.declared.refusal.ExpandRefusal.{ExpandRefusal}
use Rattle.wt_transclusion.specs.declared.refusal.ExpandRefusal.TheVariants as of_expansion
use Rattle.wt_tree.specs.Tree.{Tree}
use Rattle.wt_tree.specs.View.{view}
use Rattle.wt_new_page.specs.declared.asked.ReadBack.{ReadBack}
use Rattle.wt_new_page.specs.declared.asked.ReadBack.TheVariants as back
use Rattle.wt_new_page.specs.declared.asked.Fault.{Fault}
use Rattle.wt_new_page.specs.declared.asked.Fault.TheVariants as fault
use Rattle.wt_new_page.specs.declared.asked.Tried.{Tried}
use Rattle.wt_new_page.specs.declared.asked.Tried.TheVariants as tried
use Rattle.wt_edit.specs.declared.selser_refusal.SelserRefusal.{SelserRefusal}
use Rattle.wt_edit.specs.declared.selser_refusal.SelserRefusal.TheVariants.{FolderFault, NoMemory}
use Rattle.wt_unmarked_edit.specs.Found.{FailsAs, FirstFails, IsFaultOf, IsNewPage, IsProposed, PageMustDo, ReadsBack}

-- ---- an expansion

-- it knows pages of this folder, and no others
abbrev pub KnowsOf : Pages → Expansion → Type 0
KnowsOf pages x = (met : List (List ℕ)) × IsFree pages met x

-- a fault of the folder or want of memory; any other refusal lies with the page that is expanded
abbrev pub device_fault : ExpandRefusal → Option SelserRefusal
device_fault (of_expansion.BracesTooDeep template place) = None
device_fault of_expansion.TooLarge = None
device_fault of_expansion.FolderFault = Some FolderFault
device_fault (of_expansion.TemplateNotUtf8 template place) = None
device_fault (of_expansion.TemplateTooLong template) = None
device_fault of_expansion.NoMemory = Some NoMemory

-- ---- a new page that is read back

abbrev pub HoldsRead : ReadBack → Type 0
HoldsRead (back.Shows found) = HoldsPages found.expansion
HoldsRead (back.Fails why x) = HoldsPages x

-- it reads back, or it doesn't; what is known after it is of this folder
abbrev pub ReadAs : Pages → Tree → Tree → List ℕ → ReadBack → Type 0
ReadAs pages t u new (back.Shows found) =
    ReadsBack pages t u new × (view found.annotated.tree.body ≡ page_tree pages new) × KnowsOf pages found.expansion
ReadAs pages t u new (back.Fails why x) = KnowsOf pages x × IsFaultOf pages t u new why

-- ---- a new page that is tried

abbrev pub HoldsTried : Tried → Type 0
HoldsTried (tried.Stands new) = ⊤
HoldsTried (tried.Fails why x) = HoldsPages x

-- this page, as it is
abbrev pub TriedPage : Pages → Tree → Tree → List ℕ → Tried → Type 0
TriedPage pages t u new (tried.Stands given) = (given ≡ new) × ReadsBack pages t u new
TriedPage pages t u new (tried.Fails why x) = KnowsOf pages x × IsFaultOf pages t u new why

-- this page, which has to keep these marks
abbrev pub TriedMarks : Pages → Tree → Tree → List ℕ → Tried → Type 0
TriedMarks pages t u new (tried.Stands given) = (given ≡ new) × ReadsBack pages t u new × KeepsMarks (page_tree pages new) t u
TriedMarks pages t u new (tried.Fails why x) = KnowsOf pages x × FailsAs pages t u (Some new) why

-- a proposal
abbrev pub TriedProposal : Pages → List ℕ → Tree → Tree → Tried → Type 0
TriedProposal pages page t u (tried.Stands new) = IsProposed pages page t u new × ReadsBack pages t u new
TriedProposal pages page t u (tried.Fails why x) = KnowsOf pages x × FirstFails pages page t u false why

-- the first new page isn't the answer, for this reason, and needn't be
abbrev pub FirstFailed : Pages → List ℕ → Tree → Tree → Bool → Fault → Type 0
FirstFailed pages page t u same why = (¬ PageMustDo pages page t u same) × FirstFails pages page t u same why

-- the first of all
abbrev pub TriedFirst : Pages → Expanded → List ℕ → Tree → Tree → Bool → Tried → Type 0
TriedFirst pages items page t u same (tried.Stands new) = IsNewPage pages items page t u same new
TriedFirst pages items page t u same (tried.Fails why x) = KnowsOf pages x × FirstFailed pages page t u same why

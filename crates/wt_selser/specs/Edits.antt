-- The answer to an edit of a page: the new page, or the first refusal by its kind, then in preorder.
use Rattle.std.specs.Prelude.{◌≡◌, ℕ, Bool, false, Option, Some, None, option_map, Result, Ok, Err, List, [], ◌∷◌, length, nat_lt, ◌||◌, ◌&&◌, if◌then◌else◌}
use Rattle.wt_span.specs.Origins.{Expanded}
use Rattle.wt_span.specs.declared.limits.TheConstants.{PAGE_BYTES}
use Rattle.wt_tree.specs.Tree.{Tree, tree, label}
use Rattle.wt_checks.specs.Checked.{checked}
use Rattle.wt_checks.specs.Marks.{is_children}
use Rattle.wt_checks.specs.Places.{is_content}
use Rattle.wt_selser.specs.declared.refusal.EditRefusal.{EditRefusal}
use Rattle.wt_selser.specs.declared.refusal.EditRefusal.TheVariants as refusal
use Rattle.wt_slices.specs.Changes.{Pair, marked}
use Rattle.wt_content.specs.declared.reason.ContentWhy.{ContentWhy}
use Rattle.wt_content.specs.Children.{bad_children}
use Rattle.wt_content.specs.Content.{bad_content}
use Rattle.wt_slices.specs.BodySlices.{slices}
use Rattle.wt_selser.specs.GroupFaults.{has_faulty_group}
use Rattle.wt_isolation.specs.OpenTags.{before, touches_open_tag}
use Rattle.wt_splice.specs.Splice.{Change, spliced}
use Rattle.wt_isolation.specs.TextCalls.{touches_text_call}

abbrev pub first_with : {B : Type 0} → Option B → Option B → Option B
first_with None rest = rest
first_with (Some y) rest = Some y

-- the first that some of these give
abbrev pub first_of : {A B : Type 0} → (A → Option B) → List A → Option B
first_of f [] = None
first_of f (x ∷ xs) = first_with (f x) (first_of f xs)

-- ---- the refusals

-- of a node that is marked `children`, or of a content
abbrev pub why_bad : (Tree → Tree → Bool) → Pair → Option ContentWhy
why_bad same p = if is_children (label p.new).mark then bad_children same p.new else bad_content same p.old p.new

abbrev pub bad_pair : (Tree → Tree → Bool) → Pair → Option EditRefusal
bad_pair same p = option_map (refusal.BadContent (label p.new).id) (why_bad same p)

-- A block can't be read by itself where it touches a text call or an open tag, or where one of its groups has a fault.
abbrev pub is_tangled : Expanded → List ℕ → Tree → Bool
is_tangled items page (tree l ts) =
    touches_text_call items.text_calls l.ranges || (touches_open_tag (before page l.ranges) (tree l ts) || has_faulty_group items ts)

-- a content is read by itself
abbrev pub tangled_pair : Expanded → List ℕ → Pair → Option EditRefusal
tangled_pair items page p = if is_content (label p.new).mark && is_tangled items page p.old then Some (refusal.Tangled (label p.new).id) else None

abbrev pub refused_pairs : (Tree → Tree → Bool) → Expanded → List ℕ → List Pair → Option EditRefusal
refused_pairs same items page ps = first_with (first_of (bad_pair same) ps) (first_of (tangled_pair items page) ps)

-- the most bytes of a page
unfoldable pub most_bytes : ℕ
most_bytes = PAGE_BYTES

abbrev pub if_short : List ℕ → Result (List ℕ) EditRefusal
if_short new = if nat_lt most_bytes (length new) then Err refusal.NewPageTooLong else Ok new

abbrev pub unless_refused : Option EditRefusal → Result (List ℕ) EditRefusal → Result (List ℕ) EditRefusal
unless_refused None r = r
unless_refused (Some e) r = Err e

-- ---- the answer

-- of these marked nodes, whose slices are these
abbrev pub pairs_answer : (Tree → Tree → Bool) → Expanded → List ℕ → List Pair → List Change → Result (List ℕ) EditRefusal
pairs_answer same items page ps cs = unless_refused (refused_pairs same items page ps) (if_short (spliced page cs))

-- The edit of a page with these items and this tree. `same` says whether two nodes have one kind and one plain view.
unfoldable pub edit_answer : (Tree → Tree → Bool) → Expanded → List ℕ → Tree → Tree → Result (List ℕ) EditRefusal
edit_answer same items page t edited =
    unless_refused (option_map refusal.Check (checked false t edited)) (pairs_answer same items page (marked t edited) (slices same t edited))

abbrev pub IsEditRefusal : Result (List ℕ) EditRefusal → EditRefusal → Type 0
IsEditRefusal answer (refusal.Check c) = answer ≡ Err (refusal.Check c)
IsEditRefusal answer (refusal.BadContent n w) = answer ≡ Err (refusal.BadContent n w)
IsEditRefusal answer (refusal.Tangled n) = answer ≡ Err (refusal.Tangled n)
IsEditRefusal answer refusal.NewPageTooLong = answer ≡ Err refusal.NewPageTooLong
IsEditRefusal answer refusal.NoMemory = Unit {0}

-- memory is free
abbrev pub AnswersEdit : Result (List ℕ) EditRefusal → Result (List ℕ) EditRefusal → Type 0
AnswersEdit answer (Ok new) = answer ≡ Ok new
AnswersEdit answer (Err e) = IsEditRefusal answer e

-- What the checks of an edit answer: the first refusal by number, then the first place in preorder.
use Rattle.std.specs.Prelude.{ℕ, Bool, true, false, Option, Some, None, List}
use Rattle.wt_tree.specs.Tree.{Tree}
use Rattle.wt_checks.specs.declared.refusal.TreeRefusal.{TreeRefusal}
use Rattle.wt_checks.specs.declared.refusal.TreeRefusal.TheVariants.{UnknownId, RepeatedId, Moved, InTemplate, NotEditable, UnmarkedChange}
use Rattle.wt_checks.specs.Places.{Place, places, Page, page_of, first}
use Rattle.wt_checks.specs.Ids.{is_unknown, is_repeated, is_moved}
use Rattle.wt_checks.specs.Groups.{is_in_template}
use Rattle.wt_checks.specs.Marks.{is_wrongly_marked}
use Rattle.wt_checks.specs.Unmarked.{is_unmarked_change}

-- this refusal at a place, or else what comes after
abbrev pub or_else : Option ℕ → (ℕ → TreeRefusal) → Option TreeRefusal → Option TreeRefusal
or_else None refusal rest = rest
or_else (Some n) refusal rest = Some (refusal n)

-- for what the page has, and the places of the edited tree
abbrev pub refused : Bool → Page → List Place → Option TreeRefusal
refused values page edited =
    or_else (first (is_unknown page) edited) UnknownId
    (or_else (first is_repeated edited) RepeatedId
    (or_else (first (is_moved page) edited) Moved
    (or_else (first (is_in_template values page) edited) InTemplate
    (or_else (first (is_wrongly_marked page) edited) NotEditable
    (or_else (first (is_unmarked_change page) edited) UnmarkedChange None)))))

unfoldable pub checked : Bool → Tree → Tree → Option TreeRefusal
checked values page edited = refused values (page_of page) (places edited)

-- of the nodes alone: unknown and repeated numbers, and groups; where nodes are isn't asked, nor what
-- is outside groups
abbrev pub nodes_refused : Page → List Place → Option TreeRefusal
nodes_refused page edited =
    or_else (first (is_unknown page) edited) UnknownId
    (or_else (first is_repeated edited) RepeatedId
    (or_else (first (is_in_template false page) edited) InTemplate None))

unfoldable pub nodes_checked : Tree → Tree → Option TreeRefusal
nodes_checked page edited = nodes_refused (page_of page) (places edited)

-- a refusal of a node, and not of where it is or of a change outside groups
abbrev pub is_of_nodes : TreeRefusal → Bool
is_of_nodes (UnknownId n) = true
is_of_nodes (RepeatedId n) = true
is_of_nodes (Moved n) = false
is_of_nodes (InTemplate n) = true
is_of_nodes (NotEditable n) = false
is_of_nodes (UnmarkedChange n) = false

-- Worked cases of the check of nodes alone, and of marks taken off.
use Rattle.std.proofs.Common.{◌≡◌, true, false, Some, None, [], ◌∷◌, refl, codes}
use Rattle.wt_tree.specs.declared.kind.Kind.TheVariants as kind
use Rattle.wt_tree.specs.Tree.{Tree}
use Rattle.wt_checks.specs.declared.refusal.TreeRefusal.TheVariants.{UnknownId, RepeatedId, Moved, InTemplate}
use Rattle.wt_checks.specs.Alike.{same_kind, same_data}
use Rattle.wt_checks.specs.Checked.{checked, nodes_checked}
use Rattle.wt_checks.specs.WithoutMarks.{unmarked, groups_unmarked}
use Rattle.wt_checks.proofs.Cases.{node, marked, words, body, content, children, two_lines, group, shows, read_as, text_span, bold, other_data}

-- what is refused as by the whole check
unknown : nodes_checked two_lines (body (node kind.Para 3 (words (codes "a") ∷ []) ∷ [])) ≡ Some (UnknownId 3)
unfolding nodes_checked same_kind same_data
unknown = refl

repeated : nodes_checked two_lines (body (node kind.Para 1 (words (codes "a") ∷ []) ∷ node kind.Para 1 (words (codes "b") ∷ []) ∷ [])) ≡ Some (RepeatedId 1)
unfolding nodes_checked same_kind same_data
repeated = refl

template_changed : nodes_checked shows (read_as (text_span (codes "b&") ∷ bold (codes "d") ∷ [])) ≡ Some (InTemplate 2)
unfolding nodes_checked same_kind same_data
template_changed = refl

template_marked : nodes_checked shows (read_as (text_span (codes "b&") ∷ marked content kind.Bold 0 (words (codes "c") ∷ []) ∷ [])) ≡ Some (InTemplate 2)
unfolding nodes_checked same_kind same_data
template_marked = refl

data_changed : nodes_checked (body (group 1 [] ∷ [])) other_data ≡ Some (InTemplate 1)
unfolding nodes_checked same_kind same_data
data_changed = refl

-- nodes in another order, one with other text, one new, and marks where none may stand
abbrev exchanged : Tree
exchanged = body (node kind.Para 2 (words (codes "c") ∷ []) ∷ node kind.Rule 0 [] ∷ marked children kind.Para 1 (words (codes "a") ∷ []) ∷ [])

nodes_taken : nodes_checked two_lines exchanged ≡ None
unfolding nodes_checked same_kind same_data
nodes_taken = refl

not_by_all : checked false two_lines exchanged ≡ Some (Moved 1)
unfolding checked same_kind same_data
not_by_all = refl

-- a group that stands elsewhere, as it was
group_elsewhere : nodes_checked shows (body (group 2 (text_span (codes "b&") ∷ bold (codes "c") ∷ []) ∷ [])) ≡ None
unfolding nodes_checked same_kind same_data
group_elsewhere = refl

-- marks taken off, and marks in groups
taken_off : unmarked exchanged ≡ body (node kind.Para 2 (words (codes "c") ∷ []) ∷ node kind.Rule 0 [] ∷ node kind.Para 1 (words (codes "a") ∷ []) ∷ [])
taken_off = refl

outside_groups : groups_unmarked exchanged ≡ true
outside_groups = refl

inside_group : groups_unmarked (body (marked content kind.Para 1 (group 2 (marked content kind.Bold 0 [] ∷ []) ∷ []) ∷ [])) ≡ false
inside_group = refl

-- The edited tree with the marks of the difference and no others: what `edit` gets of it.
use Rattle.std.specs.Prelude.{ℕ, ◌&&◌, not, Bool, true, Option, Some, None, if◌then◌else◌}
use Rattle.wt_tree.specs.declared.kind.Mark.{Mark}
use Rattle.wt_tree.specs.declared.kind.Mark.TheVariants as marks
use Rattle.wt_tree.specs.Tree.{Tree, tree, Trees, none, more, label}
use Rattle.wt_checks.specs.Groups.{has_mark}
use Rattle.wt_checks.specs.Places.{Place, Page, page_of}
use Rattle.wt_checks.specs.WithoutMarks.{unmarked}
use Rattle.wt_difference.specs.Difference.{same_inside, same_children, is_stable}
use Rattle.wt_difference.specs.Insides.{is_block_part}

-- A node whose inside was changed is marked `content`, whatever else was changed of it; one whose children
-- alone were changed is marked `children`.
abbrev pub mark_between : Page → Tree → Tree → Mark
mark_between page t u = if same_inside t u then (if same_children page t u then marks.Nothing else marks.Children) else marks.Content

abbrev pub mark_of : Page → Tree → Option Place → Mark
mark_of page u None = marks.Nothing
mark_of page u (Some q) = mark_between page q.node u

-- Each node that stays has the mark of what was changed of it, and so has what stays in it. All else, and
-- what is in it, has no mark.
abbrev mutual
  pub remarked_in : Page → Tree → Tree
  remarked_in page (tree m us) = tree (record m { mark = mark_of page (tree m us) (page m.id) }) (all_remarked page m.id us)

  pub all_remarked : Page → ℕ → Trees → Trees
  all_remarked page holder none = none
  all_remarked page holder (more u us) = more (if is_stable page holder u then remarked_in page u else unmarked u) (all_remarked page holder us)

-- one child of the node with this number
abbrev pub remarked_child : Page → ℕ → Tree → Tree
remarked_child page holder u = if is_stable page holder u then remarked_in page u else unmarked u

-- None of them is a block or a part of one, and none has a mark: they stay as they are.
abbrev pub are_left : Trees → Bool
are_left none = true
are_left (more u us) = not (is_block_part (label u).kind) && (not (has_mark u) && are_left us)

-- an edited tree, with the marks of its difference from a page's
unfoldable pub remarked : Tree → Tree → Tree
remarked t u = remarked_in (page_of t) u

-- The nodes of a tree in preorder, each with what is round it. All conditions of an edit are said
-- of such a list: of a place, and of the places before and after it.
use Rattle.std.specs.Prelude.{ℕ, ◌==◌, ◌||◌, not, Bool, true, false, Option, Some, None, List, [], ◌∷◌, ◌++◌, if◌then◌else◌}
use Rattle.wt_tree.specs.declared.kind.Kind.{Kind}
use Rattle.wt_tree.specs.declared.kind.Kind.TheVariants as kind
use Rattle.wt_tree.specs.declared.kind.Mark.{Mark}
use Rattle.wt_tree.specs.declared.kind.Mark.TheVariants as marks
use Rattle.wt_tree.specs.Tree.{Tree, tree, Trees, none, more, label}

-- a node, the number of its kept parent, and whether it is inside a node that is marked `content`
pub record Place : Type 0 where
  pub node : Tree
  pub parent : ℕ
  pub in_content : Bool

abbrev pub is_content : Mark → Bool
is_content marks.Nothing = false
is_content marks.Content = true
is_content marks.Children = false
is_content marks.Other = false

-- A node is kept where it has a number. The kept parent of a node is the nearest kept node round it,
-- or the body, which counts as 0.
abbrev pub parent_below : ℕ → ℕ → ℕ
parent_below parent id = if id == 0 then parent else id

abbrev mutual
  pub placed : ℕ → Bool → Tree → List Place
  placed parent within (tree l ts) =
      record { node = tree l ts; parent = parent; in_content = within } ∷ all_placed (parent_below parent l.id) (within || is_content l.mark) ts

  pub all_placed : ℕ → Bool → Trees → List Place
  all_placed parent within none = []
  all_placed parent within (more t ts) = placed parent within t ++ all_placed parent within ts

-- all nodes of a tree whose root is a body
abbrev pub places : Tree → List Place
places t = placed 0 false t

-- ---- what is asked of a place

abbrev pub number : Place → ℕ
number p = (label p.node).id

abbrev pub kind_at : Place → Kind
kind_at p = (label p.node).kind

abbrev pub is_kept : Place → Bool
is_kept p = not (number p == 0)

abbrev pub is_body : Kind → Bool
is_body kind.Body = true
is_body k = false

-- the first place with this number; 0 is the body's
abbrev pub numbered : ℕ → List Place → Option Place
numbered n [] = None
numbered n (p ∷ ps) = if number p == n then Some p else numbered n ps

-- what the page has for a number
abbrev pub Page : Type 0
Page = ℕ → Option Place

abbrev pub page_of : Tree → Page
page_of t n = numbered n (places t)

-- ---- the first place of which something holds

-- what may hold of a place after some places and before others
abbrev pub Condition : Type 0
Condition = List Place → Place → List Place → Bool

-- the number of the first place of which it holds
abbrev pub first_after : Condition → List Place → List Place → Option ℕ
first_after holds before [] = None
first_after holds before (p ∷ after) = if holds before p after then Some (number p) else first_after holds (before ++ p ∷ []) after

abbrev pub first : Condition → List Place → Option ℕ
first holds ps = first_after holds [] ps

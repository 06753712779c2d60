-- What is kept, in other words than the tests of a place: as sublists of numbers, and as equations.
use Rattle.std.specs.Prelude.{◌≡◌, ◌⊎◌, ℕ, ◌==◌, ◌&&◌, ◌||◌, not, Bool, true, false, None, MatchOption, List, [], ◌∷◌, if◌then◌else◌}
use Rattle.std.specs.List.{AllByRecursion}
use Rattle.wt_tree.specs.Kinds.{writing}
use Rattle.wt_tree.specs.Opened.{opened}
use Rattle.wt_tree.specs.Tiling.{is_group}
use Rattle.wt_tree.specs.Tree.{Tree, tree, Trees, none, more, label}
use Rattle.wt_checks.specs.Elements.{written_for, all_read, signs_in}
use Rattle.wt_checks.specs.Groups.{is_marked, has_mark}
use Rattle.wt_checks.specs.Marks.{editing, allows}
use Rattle.wt_checks.specs.Places.{Place, number, kind_at, is_kept, is_body, parent_below, places, Page, page_of}
use Rattle.wt_checks.specs.Unmarked.{own_character, entries}

abbrev pub children : Tree → Trees
children (tree l ts) = ts

-- ---- kept nodes in their order

-- the first list is what is left of the second one where some members are left out
abbrev pub IsSublist : List ℕ → List ℕ → Type 0
IsSublist [] ys = Unit {0}
IsSublist (x ∷ xs) [] = ⊥
IsSublist (x ∷ xs) (y ∷ ys) = ((x ≡ y) × IsSublist xs ys) ⊎ IsSublist (x ∷ xs) ys

-- the numbers of the kept nodes with this kept parent
abbrev pub kept_under : ℕ → List Place → List ℕ
kept_under n [] = []
kept_under n (p ∷ ps) = if is_kept p && p.parent == n then number p ∷ kept_under n ps else kept_under n ps

-- Under each kept parent the kept nodes are some of the page's, in their order.
abbrev pub InOrder : List Place → List Place → Type 0
InOrder page edited = (n : ℕ) → IsSublist (kept_under n edited) (kept_under n page)

-- the numbers of those of these nodes that have one
abbrev pub own_numbers : Trees → List ℕ
own_numbers none = []
own_numbers (more t ts) = if not ((label t).id == 0) then (label t).id ∷ own_numbers ts else own_numbers ts

-- the kept parent of what a node holds
abbrev pub parent_inside : Place → ℕ
parent_inside p = parent_below p.parent (number p)

-- The numbered nodes that a node holds itself are some of those that the page's node holds, in their
-- order. (What a new element holds is asked of the nearest kept node round it, or the body.)
abbrev pub ChildrenInOrder : Page → Place → Type 0
ChildrenInOrder page p = MatchOption (page (parent_inside p)) (Unit {0}) (λ q. IsSublist (own_numbers (children p.node)) (own_numbers (children q.node)))

-- ---- nodes as they were

-- a group of the page and what stands for it
pub record GroupAsItWas (values : Bool) (t u : Tree) : Type 0 where
  pub unmarked : has_mark u ≡ false
  pub group : is_group (label u).kind ≡ true
  pub attrs : (label t).attrs ≡ (label u).attrs
  pub elements : signs_in (written_for (children t)) ≡ signs_in (all_read (children u))
  pub mw : (values ≡ true) ⊎ ((label t).mw ≡ (label u).mw)

-- the same texts and children, where those in a section of the page are children of its body, and the same character
pub record HoldsTheSame (t u : Tree) : Type 0 where
  pub character : own_character (writing (label t).kind) (label t).shown ≡ own_character (writing (label u).kind) (label u).shown
  pub held : entries (opened (children t)) ≡ entries (children u)

-- another node of the page and what stands for it
pub record NodeAsItWas (t u : Tree) : Type 0 where
  pub kind : (label t).kind ≡ (label u).kind
  pub attrs : (label t).attrs ≡ (label u).attrs
  pub mw : ((label t).mw ≡ None) ⊎ ((label t).mw ≡ (label u).mw)
  pub holds : (is_marked (label u).mark ≡ true) ⊎ HoldsTheSame t u

-- it has a number, or is the body
abbrev pub is_of_page : Place → Bool
is_of_page p = is_kept p || is_body (kind_at p)

-- where the page has a group for the number of a kept node, the node is that group as it was
abbrev pub GroupKept : Bool → Page → Place → Type 0
GroupKept values page p = is_kept p ≡ true → MatchOption (page (number p)) (Unit {0}) (λ q. is_group (kind_at q) ≡ true → GroupAsItWas values q.node p.node)

-- where the page has another node for a node outside marked content, the node is as it was
abbrev pub NodeKept : Page → Place → Type 0
NodeKept page p = is_of_page p ≡ true → p.in_content ≡ false
    → MatchOption (page (number p)) (Unit {0}) (λ q. is_group (kind_at q) ≡ false → NodeAsItWas q.node p.node)

-- a mark that may be there
pub record WellMarked (page : Page) (p : Place) : Type 0 where
  pub outside : p.in_content ≡ false
  pub old : is_of_page p ≡ true
  pub allowed : allows (editing (kind_at p)) (label p.node).mark (page (number p)) ≡ true

abbrev pub MarkKept : Page → Place → Type 0
MarkKept page p = is_marked (label p.node).mark ≡ true → WellMarked page p

-- Everything that isn't marked is kept: kept nodes in their order, groups as they were, each other node
-- of the page outside marked content as it was, and marks where they may be.
pub record Kept (values : Bool) (page edited : Tree) : Type 0 where
  pub order : InOrder (places page) (places edited)
  pub groups : AllByRecursion (GroupKept values (page_of page)) (places edited)
  pub nodes : AllByRecursion (NodeKept (page_of page)) (places edited)
  pub marks : AllByRecursion (MarkKept (page_of page)) (places edited)

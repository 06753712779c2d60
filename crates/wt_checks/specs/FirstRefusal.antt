-- Which refusal is answered: the first of their order that holds anywhere, at the first place where it holds.
use Rattle.std.specs.Prelude.{ℕ, ◌≡◌, ◌<◌, Bool, true, false, List, ◌∷◌, ◌++◌, length}
use Rattle.wt_tree.specs.Tree.{Tree}
use Rattle.wt_checks.specs.declared.refusal.TreeRefusal.{TreeRefusal}
use Rattle.wt_checks.specs.declared.refusal.TreeRefusal.TheVariants.{UnknownId, RepeatedId, Moved, InTemplate, NotEditable, UnmarkedChange}
use Rattle.wt_checks.specs.Groups.{is_in_template}
use Rattle.wt_checks.specs.Ids.{is_unknown, is_repeated, is_moved}
use Rattle.wt_checks.specs.Marks.{is_wrongly_marked}
use Rattle.wt_checks.specs.Places.{Place, number, places, Page, page_of, Condition}
use Rattle.wt_checks.specs.Unmarked.{is_unmarked_change}

-- what a refusal says of the place that it names
abbrev pub condition : Bool → Page → TreeRefusal → Condition
condition values page (UnknownId n) = is_unknown page
condition values page (RepeatedId n) = is_repeated
condition values page (Moved n) = is_moved page
condition values page (InTemplate n) = is_in_template values page
condition values page (NotEditable n) = is_wrongly_marked page
condition values page (UnmarkedChange n) = is_unmarked_change page

-- the number of the node that it names
abbrev pub node_of : TreeRefusal → ℕ
node_of (UnknownId n) = n
node_of (RepeatedId n) = n
node_of (Moved n) = n
node_of (InTemplate n) = n
node_of (NotEditable n) = n
node_of (UnmarkedChange n) = n

-- its place in the order of refusals
abbrev pub rank : TreeRefusal → ℕ
rank (UnknownId n) = 1
rank (RepeatedId n) = 2
rank (Moved n) = 3
rank (InTemplate n) = 4
rank (NotEditable n) = 5
rank (UnmarkedChange n) = 6

-- The condition holds at no place before this many, counted in preorder.
abbrev pub NotBefore : Condition → List Place → ℕ → Type 0
NotBefore holds ps n = (before : List Place) (p : Place) (after : List Place) → ps ≡ before ++ p ∷ after → length before < n → holds before p after ≡ false

-- It holds at a place whose node has this number, and at none before.
pub record IsFirst (holds : Condition) (ps : List Place) (n : ℕ) : Type 0 where
  pub before : List Place
  pub place : Place
  pub after : List Place
  pub all : ps ≡ before ++ place ∷ after
  pub here : holds before place after ≡ true
  pub named : number place ≡ n
  pub first : NotBefore holds ps (length before)

pub record IsFirstRefusal (values : Bool) (page edited : Tree) (c : TreeRefusal) : Type 0 where
  pub place : IsFirst (condition values (page_of page) c) (places edited) (node_of c)
  pub order : (d : TreeRefusal) → rank d < rank c → NotBefore (condition values (page_of page) d) (places edited) (length (places edited))

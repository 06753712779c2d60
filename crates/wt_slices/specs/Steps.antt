-- The children of a node whose children come and go, as they are in the page and as they were edited to, step by step in the order
-- of the new page.
use Rattle.std.specs.Prelude.{ℕ, ◌==◌, not, List, [], ◌∷◌, ◌++◌, if◌then◌else◌}
use Rattle.wt_tree.specs.Tree.{Tree, Trees, none, more, label}
use Rattle.wt_content.specs.declared.children.Holder.{Holder}
use Rattle.wt_content.specs.Children.{is_child}

-- What is between the children of the page and stays; a child of the page that is missing; a child of the page, and what it was
-- edited to; and a new child.
pub data Step : Type 0 where
  stays : Tree → Step
  goes : Tree → Step
  kept : Tree → Tree → Step
  comes : Tree → Step

-- a node of the page that is passed
abbrev pub passed_one : Holder → Tree → Step
passed_one h t = if is_child h (label t).kind then goes t else stays t

abbrev pub passed : Holder → Trees → List Step
passed h none = []
passed h (more t ts) = passed_one h t ∷ passed h ts

-- the nodes of the page before the one with this number
abbrev pub passed_up_to : Holder → ℕ → Trees → List Step
passed_up_to h n none = []
passed_up_to h n (more t ts) = if (label t).id == n then [] else passed_one h t ∷ passed_up_to h n ts

-- this one and those after it
abbrev pub from_number : ℕ → Trees → Trees
from_number n none = none
from_number n (more t ts) = if (label t).id == n then more t ts else from_number n ts

abbrev pub kept_first : Trees → Tree → List Step
kept_first none u = []
kept_first (more t ts) u = kept t u ∷ []

abbrev pub behind_first : Trees → Trees
behind_first none = none
behind_first (more t ts) = ts

-- New children come directly after the kept child before them, and before what the page has after that one.
abbrev pub steps : Holder → Trees → Trees → List Step
steps h ts none = passed h ts
steps h ts (more u us) =
    if not (is_child h (label u).kind) then steps h ts us else
    (if (label u).id == 0 then comes u ∷ steps h ts us else
    passed_up_to h (label u).id ts ++ (kept_first (from_number (label u).id ts) u ++ steps h (behind_first (from_number (label u).id ts)) us))

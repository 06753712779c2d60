-- The difference of an edited tree: the smallest places of the page in which something was changed.
use Rattle.std.specs.Prelude.{ℕ, ◌==◌, ◌&&◌, not, Bool, true, false, Option, Some, None, List, [], ◌∷◌, ◌++◌, if◌then◌else◌}
use Rattle.std.specs.Str.{bytes_eq}
use Rattle.wt_tree.specs.Kinds.{showing}
use Rattle.wt_tree.specs.Tree.{Tree, tree, Trees, none, more, label}
use Rattle.wt_checks.specs.Alike.{same_kind, same_attrs}
use Rattle.wt_checks.specs.Places.{Place, Page, page_of}
use Rattle.wt_checks.specs.Unmarked.{is_compared}
use Rattle.wt_difference.specs.Insides.{inside, held, is_block_part}
use Rattle.wt_difference.specs.Tokens.{all_tokens, same_tokens}

-- what of a node of the page is written anew: the text and inline elements that it begins with, or the list of its
-- children, which are blocks, items, rows or cells
pub data Region : Type 0 where
  Inside : Region
  Children : Region

-- a place of the page that is written anew: the node as it was, as it was edited, and what of it
pub record Changed : Type 0 where
  pub old : Tree
  pub new : Tree
  pub region : Region

-- ---- pairs

-- A node of the edited tree is paired with the page's node of its number. It stays in a node where its partner
-- is a child of that node and has its kind and attributes. 0 is no number.
abbrev pub is_partner : ℕ → Tree → Option Place → Bool
is_partner holder u None = false
is_partner holder u (Some q) = not ((label u).id == 0) && ((q.parent == holder)
    && (same_kind (label q.node).kind (label u).kind && same_attrs (label q.node).attrs (label u).attrs))

abbrev pub stays_in : Page → ℕ → Tree → Bool
stays_in page holder u = is_partner holder u (page (label u).id)

-- ---- a list of children

-- the numbers of the page's children
abbrev pub numbers : Trees → List ℕ
numbers none = []
numbers (more t ts) = if is_compared (showing (label t).kind) then (label t).id ∷ numbers ts else numbers ts

-- the numbers of the edited children, where one that is new or comes from elsewhere counts as 0
abbrev pub numbers_in : Page → ℕ → Trees → List ℕ
numbers_in page holder none = []
numbers_in page holder (more u us) = if is_compared (showing (label u).kind)
    then (if stays_in page holder u then (label u).id else 0) ∷ numbers_in page holder us else numbers_in page holder us

-- ---- one node

abbrev pub same_inside : Tree → Tree → Bool
same_inside t u = same_tokens (all_tokens (inside t)) (all_tokens (inside u))

abbrev pub same_children : Page → Tree → Tree → Bool
same_children page t u = bytes_eq (numbers (held t)) (numbers_in page (label u).id (held u))

abbrev pub unless : Bool → Region → Tree → Tree → List Changed
unless same region t u = if same then [] else record { old = t; new = u; region = region } ∷ []

abbrev pub changed : Page → Tree → Option Place → List Changed
changed page u None = []
changed page u (Some q) = unless (same_inside q.node u) Inside q.node u ++ unless (same_children page q.node u) Children q.node u

-- ---- all nodes

-- a block, a list, an item, a term or a part of a table that stays
abbrev pub is_stable : Page → ℕ → Tree → Bool
is_stable page holder u = is_block_part (label u).kind && stays_in page holder u

-- Each node that stays is asked for itself, then what stays in it. What is new or comes from elsewhere is
-- written with the list of children that it joins. A group goes, stays or moves whole.
abbrev mutual
  pub differing : Page → Tree → List Changed
  differing page (tree m us) = changed page (tree m us) (page m.id) ++ all_differing page m.id us

  pub all_differing : Page → ℕ → Trees → List Changed
  all_differing page holder none = []
  all_differing page holder (more u us) = (if is_stable page holder u then differing page u else []) ++ all_differing page holder us

-- the difference of a page's body and an edited one
abbrev pub difference : Tree → Tree → List Changed
difference t u = differing (page_of t) u

-- nothing differs
abbrev pub are_none : List Changed → Bool
are_none [] = true
are_none (c ∷ cs) = false

-- What the laws of sections speak of.
use Rattle.std.specs.Prelude.{◌≡◌, ℕ, ◌+◌, Bool, true, false, is_some, Option, Some, None, List, [], ◌∷◌, ◌++◌, if◌then◌else◌}
use Rattle.std.specs.List.{AllByRecursion}
use Rattle.wt_tree.specs.declared.kind.Kind.{Kind}
use Rattle.wt_tree.specs.declared.kind.Kind.TheVariants as kind
use Rattle.wt_tree.specs.Kinds.{is_section}
use Rattle.wt_tree.specs.Opened.{opened}
use Rattle.wt_tree.specs.Tree.{Tree, tree, Trees, none, more, label, listed}
use Rattle.wt_sections.specs.Sections.{ends, level_of, opens}

-- none of these trees is a section
abbrev pub NoneIsSection : Trees → Type 0
NoneIsSection none = Unit {0}
NoneIsSection (more t ts) = (is_section (label t).kind ≡ false) × NoneIsSection ts

-- ---- the lead

-- the children before the first heading, and those from there on
abbrev pub up_to_heading : Trees → Trees
up_to_heading none = none
up_to_heading (more t ts) = if is_some (level_of t) then none else more t (up_to_heading ts)

abbrev pub from_heading : Trees → Trees
from_heading none = none
from_heading (more t ts) = if is_some (level_of t) then more t ts else from_heading ts

-- ---- which heading opens which section

-- the sections among trees, in preorder
abbrev mutual
  pub sections_in : Tree → List Tree
  sections_in (tree l ts) = if is_section l.kind then tree l ts ∷ sections_in_all ts else []

  pub sections_in_all : Trees → List Tree
  sections_in_all none = []
  sections_in_all (more t ts) = sections_in t ++ sections_in_all ts

abbrev pub first_of : Trees → Trees
first_of none = none
first_of (more t ts) = more t none

-- what a section is called, which says its number, and what it begins with
abbrev pub opening : Tree → Kind × Trees
opening (tree l ts) = (l.kind, first_of ts)

-- of a child: a heading opens the section of this number
abbrev pub opening_by : ℕ → Option ℕ → Tree → List (Kind × Trees)
opening_by n None t = []
opening_by n (Some level) t = (kind.Section n, more t none) ∷ []

-- each heading of these children, in their order, opens one section, with numbers from this one on
abbrev pub openings : ℕ → Trees → List (Kind × Trees)
openings n none = []
openings n (more t ts) = opening_by n (level_of t) t ++ openings (n + opens (level_of t)) ts

-- the first child opens the lead, where no heading is the first
abbrev pub lead_opening : Trees → List (Kind × Trees)
lead_opening none = []
lead_opening (more t ts) = (kind.Section 0, more t none) ∷ []

-- ---- how far a section goes

-- no heading of this level or a smaller one; no heading at all, where no level is said, as in the lead
abbrev pub IsDeeper : Option ℕ → Tree → Type 0
IsDeeper limit t = ends limit (level_of t) ≡ false

-- after what a section begins with is in it no heading of the same or a smaller level
abbrev pub IsDeep : Tree → Type 0
IsDeep (tree l none) = Unit {0}
IsDeep (tree l (more t ts)) = AllByRecursion (IsDeeper (level_of t)) (listed (opened ts))

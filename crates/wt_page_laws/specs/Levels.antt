-- The sections of a body by the levels of their headings: what a section begins with, what comes after it, and
-- what is inside it. Nothing here speaks of how they are gathered.
use Rattle.std.specs.Prelude.{◌≡◌, ◌⊎◌, ◌<◌, ◌≤◌, ℕ, []}
use Rattle.std.specs.List.{AllByRecursion}
use Rattle.wt_tree.specs.declared.kind.Kind.TheVariants as kind
use Rattle.wt_tree.specs.Tree.{Tree, tree, Trees, none, more, label, listed}
use Rattle.wt_sections.specs.SectionLaws.{sections_in_all}

abbrev pub IsHeading : ℕ → Tree → Type 0
IsHeading n t = (label t).kind ≡ kind.Heading n

abbrev pub IsNoHeading : Tree → Type 0
IsNoHeading t = (n : ℕ) → IsHeading n t → ⊥

-- ---- what a section begins with

-- A section of level n begins with a heading of level n. It has a number from 1 on: 0 is the lead's.
abbrev pub IsOfLevel : ℕ → Tree → Type 0
IsOfLevel n (tree l none) = ⊥
IsOfLevel n (tree l (more t ts)) = (number : ℕ) × (0 < number) × (l.kind ≡ kind.Section number) × IsHeading n t

-- after its first child no other child is a heading
abbrev pub HoldsNoOtherHeading : Tree → Type 0
HoldsNoOtherHeading (tree l none) = Unit {0}
HoldsNoOtherHeading (tree l (more t ts)) = AllByRecursion IsNoHeading (listed ts)

-- the lead, the section of what comes before the first heading: it holds neither headings nor sections
abbrev pub IsLead : Tree → Type 0
IsLead (tree l ts) = (l.kind ≡ kind.Section 0) × AllByRecursion IsNoHeading (listed ts) × (sections_in_all ts ≡ [])

-- the lead, or a section with the one heading that opens it
abbrev pub IsHeaded : Tree → Type 0
IsHeaded s = IsLead s ⊎ ((n : ℕ) × IsOfLevel n s × HoldsNoOtherHeading s)

-- ---- what comes after a section

-- nothing, or a section of level n or a smaller one
abbrev pub BeginWithin : ℕ → Trees → Type 0
BeginWithin n none = Unit {0}
BeginWithin n (more t ts) = (m : ℕ) × IsOfLevel m t × (m ≤ n)

-- of a child and those after it: a section of level n reaches to a section of its level or a smaller one, or to
-- the end
abbrev pub ReachesUp : Tree → Trees → Type 0
ReachesUp t ts = (n : ℕ) → IsOfLevel n t → BeginWithin n ts

-- each of these children does
abbrev pub AllReachUp : Trees → Type 0
AllReachUp none = Unit {0}
AllReachUp (more t ts) = ReachesUp t ts × AllReachUp ts

-- each child of a section does
abbrev pub ChildrenReachUp : Tree → Type 0
ChildrenReachUp (tree l ts) = AllReachUp ts

-- ---- what is inside a section

-- inside a section of level n each section, at any depth, has a larger level
abbrev pub HoldsDeeper : Tree → Type 0
HoldsDeeper (tree l ts) = (n : ℕ) → IsOfLevel n (tree l ts) → AllByRecursion (λ (s : Tree). (m : ℕ) × IsOfLevel m s × (n < m)) (sections_in_all ts)

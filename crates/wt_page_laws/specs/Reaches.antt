-- What each section holds, by the children of the body alone: its heading, and what follows up to the next
-- heading of its level or a smaller one, or to the end.
use Rattle.std.specs.Prelude.{ℕ, nat_le, Bool, false, Option, Some, None, List, [], ◌∷◌, ◌++◌, if◌then◌else◌}
use Rattle.wt_tree.specs.Opened.{opened}
use Rattle.wt_tree.specs.Tree.{Tree, tree, Trees, none, more}
use Rattle.wt_sections.specs.Sections.{level_of}

-- a heading of level n or a smaller one; what is no heading has no level
abbrev pub is_within : ℕ → Option ℕ → Bool
is_within n None = false
is_within n (Some level) = nat_le level n

-- the children before the first heading of level n or a smaller one
abbrev pub up_to_level : ℕ → Trees → Trees
up_to_level n none = none
up_to_level n (more t ts) = if is_within n (level_of t) then none else more t (up_to_level n ts)

-- of a child and those after it: what the section holds that it opens as a heading of this level
abbrev pub reach_by : Option ℕ → Tree → Trees → List Trees
reach_by None t ts = []
reach_by (Some n) t ts = more t (up_to_level n ts) ∷ []

-- what the section of each heading among these children holds, in the order of the headings
abbrev pub reaches : Trees → List Trees
reaches none = []
reaches (more t ts) = reach_by (level_of t) t ts ++ reaches ts

-- what the lead holds, which is there where anything comes before the first heading
abbrev pub lead_reach : Trees → List Trees
lead_reach none = []
lead_reach (more t ts) = more t ts ∷ []

-- what a section holds, the sections inside it opened
abbrev pub held : Tree → Trees
held (tree l ts) = opened ts

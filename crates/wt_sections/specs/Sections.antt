-- The sections of a body: each heading that is a child of the body opens one, which holds what follows up to
-- the next such heading of the same or a smaller level, or to the body's end; sections of larger levels lie
-- inside it. What comes before the first such heading, if anything does, is one section, the lead.
use Rattle.std.specs.Prelude.{ℕ, ◌+◌, nat_le, Bool, true, false, Option, Some, None, List, [], ◌∷◌, if◌then◌else◌}
use Rattle.wt_tree.specs.declared.kind.Kind.TheVariants as kind
use Rattle.wt_tree.specs.declared.kind.Mark.TheVariants as marks
use Rattle.wt_tree.specs.declared.kind.Ranges.{Ranges}
use Rattle.wt_tree.specs.Kinds.{spelling}
use Rattle.wt_tree.specs.Tree.{Label, Tree, tree, Trees, none, more, label}

-- ---- a section round what it holds

-- from the first one's start to the last one's end, without delimiters
abbrev pub spanned : Option Ranges → Option Ranges → Option Ranges
spanned None s = None
spanned (Some r) None = None
spanned (Some r) (Some s) = Some (record { start = r.start; end = s.end; open_w = 0; close_w = 0 })

-- the ranges of the last of these trees, the first of which has these
abbrev pub last_ranges : Option Ranges → Trees → Option Ranges
last_ranges r none = r
last_ranges r (more t ts) = last_ranges (label t).ranges ts

abbrev pub section_label : ℕ → Option Ranges → Label
section_label n r = record {
  kind = kind.Section n;
  id = 0;
  ranges = r;
  opening = [];
  closing = [];
  own = [];
  shown = [];
  attrs = [];
  origin = None;
  mark = marks.Nothing;
  mw = None;
}

-- the section of this number that begins with this tree and goes on with those
abbrev pub section : ℕ → Tree → Trees → Tree
section n t ts = tree (section_label n (spanned (label t).ranges (last_ranges (label t).ranges ts))) (more t ts)

-- ---- gathering

-- A child of the body by itself, or a section with the level of the heading that opens it.
pub record Part : Type 0 where
  pub level : Option ℕ
  pub tree : Tree

-- the level of a heading; of what is none, None
abbrev pub level_of : Tree → Option ℕ
level_of t = (spelling (label t).kind).level

-- a section of this level or a smaller one; any section, where no level is said
abbrev pub ends : Option ℕ → Option ℕ → Bool
ends limit None = false
ends None (Some level) = true
ends (Some n) (Some level) = nat_le level n

-- the parts up to the first such section, as trees, and the parts from there on
abbrev pub before : Option ℕ → List Part → Trees
before limit [] = none
before limit (p ∷ ps) = if ends limit p.level then none else more p.tree (before limit ps)

abbrev pub from : Option ℕ → List Part → List Part
from limit [] = []
from limit (p ∷ ps) = if ends limit p.level then p ∷ ps else from limit ps

-- A child before parts: a heading opens a section of this number, any other child is by itself.
abbrev pub put : ℕ → Option ℕ → Tree → List Part → List Part
put n None t ps = record { level = None; tree = t } ∷ ps
put n (Some level) t ps = record { level = Some level; tree = section n t (before (Some level) ps) } ∷ from (Some level) ps

-- how many sections a child opens
abbrev pub opens : Option ℕ → ℕ
opens None = 0
opens (Some level) = 1

-- the parts of these children, whose first heading opens the section of this number
abbrev pub parts : ℕ → Trees → List Part
parts n none = []
parts n (more t ts) = put n (level_of t) t (parts (n + opens (level_of t)) ts)

-- ---- the lead

abbrev pub part_trees : List Part → Trees
part_trees [] = none
part_trees (p ∷ ps) = more p.tree (part_trees ps)

-- the section of what comes before all others, if anything does
abbrev pub lead_if_any : Trees → Trees → Trees
lead_if_any none rest = rest
lead_if_any (more t ts) rest = more (section 0 t ts) rest

abbrev pub with_lead : List Part → Trees
with_lead ps = lead_if_any (before None ps) (part_trees (from None ps))

-- the children of a body in sections, and the tree of a body with its sections
abbrev pub gathered : Trees → Trees
gathered ts = with_lead (parts 1 ts)

abbrev pub with_sections : Tree → Tree
with_sections (tree l ts) = tree l (gathered ts)

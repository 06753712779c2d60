-- What the code gathers: the parts so far, of which the last is first.
use Rattle.std.specs.Prelude.{ℕ, ◌+◌, Option, Some, None, List, map, reverse}
use Rattle.wt_tree.specs.declared.kind.Ranges.{Ranges}
use Rattle.wt_tree.specs.Tree.{Tree, tree, Trees, none, more, label}
use Rattle.wt_tree.specs.View.{view}
use Rattle.wt_sections.specs.declared.gather.Part.{Part as Found}
use Rattle.wt_sections.specs.Sections.{Part, last_ranges, level_of, opens, section_label, spanned}

abbrev pub part_view : Found → Part
part_view p = record { level = p.level; tree = view p.node }

abbrev pub parts_view : List Found → List Part
parts_view ps = reverse (map part_view ps)

-- the headings among children
abbrev pub heading_count : Trees → ℕ
heading_count none = 0
heading_count (more t ts) = opens (level_of t) + heading_count ts

-- the headings among the children of a tree
abbrev pub headings_in : Tree → ℕ
headings_in (tree l ts) = heading_count ts

-- a section, whatever it holds
abbrev pub span_of : Trees → Option Ranges
span_of none = None
span_of (more t ts) = spanned (label t).ranges (last_ranges (label t).ranges ts)

abbrev pub section_of : ℕ → Trees → Tree
section_of n ts = tree (section_label n (span_of ts)) ts

abbrev pub section_if_any : Trees → Trees
section_if_any none = none
section_if_any (more t ts) = more (section_of 0 (more t ts)) none

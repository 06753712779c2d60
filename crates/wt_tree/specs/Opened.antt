-- A tree whose sections are opened: what a section holds is in its place. Sections are in the body and
-- in sections alone, so below other nodes nothing is opened.
use Rattle.std.specs.Prelude.{if◌then◌else◌}
use Rattle.wt_tree.specs.Kinds.{is_section}
use Rattle.wt_tree.specs.Tree.{Tree, tree, Trees, none, more}

-- a tree before others, and trees before others
abbrev mutual
  pub opened_before : Tree → Trees → Trees
  opened_before (tree l ts) rest = if is_section l.kind then all_opened_before ts rest else more (tree l ts) rest

  pub all_opened_before : Trees → Trees → Trees
  all_opened_before none rest = rest
  all_opened_before (more t ts) rest = opened_before t (all_opened_before ts rest)

-- what is in a body whose sections are opened
abbrev pub opened : Trees → Trees
opened ts = all_opened_before ts none

-- the tree of a body without its sections
abbrev pub without_sections : Tree → Tree
without_sections (tree l ts) = tree l (opened ts)

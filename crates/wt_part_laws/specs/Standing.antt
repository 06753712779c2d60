-- A node of a page without calls, by its items.
use Rattle.std.specs.Prelude.{◌≡◌, ℕ, false, List}
use Rattle.wt_tree.specs.Tiling.{is_group}
use Rattle.wt_tree.specs.Tree.{Tree, tree, Trees, none, more}
use Rattle.wt_checks.specs.PutBack.{is_frame}
use Rattle.wt_span.specs.Items.{Item}
use Rattle.wt_inline.specs.ItemTree.{ItemTree}
use Rattle.wt_annotated.specs.CutTexts.{cut_texts}
use Rattle.wt_annotated.specs.Numbering.{with_numbers}
use Rattle.wt_annotated.specs.WithoutCalls.{placed}

-- with this number, where it has one, after these items of the page
abbrev pub standing : ℕ → List Item → ItemTree → Tree
standing n before t = cut_texts (with_numbers n (placed before t))

-- neither a body nor a section nor a group, nor is anything in it
abbrev mutual
  pub IsOrdinary : Tree → Type 0
  IsOrdinary (tree l ts) = (is_frame l.kind ≡ false) × (is_group l.kind ≡ false) × AreOrdinary ts

  pub AreOrdinary : Trees → Type 0
  AreOrdinary none = Unit {0}
  AreOrdinary (more t ts) = IsOrdinary t × AreOrdinary ts

-- Texts and separators cut anew: directly in each item, term, cell and caption that is reached, those that follow one another
-- are joined and cut at the border between text and separators. What a group shows stays as it is.
use Rattle.std.specs.Prelude.{false, if◌then◌else◌}
use Rattle.wt_tree.specs.declared.row.Texts.{Texts}
use Rattle.wt_tree.specs.declared.row.Texts.TheVariants.{Separators, Page, Bordered, OwnCharacter}
use Rattle.wt_tree.specs.Kinds.{texts_of_kind}
use Rattle.wt_recut.specs.Cutting.{AreCut}
use Rattle.wt_recut.specs.Recut.{recut}
use Rattle.wt_tree.specs.Tiling.{is_group}
use Rattle.wt_tree.specs.Tree.{Tree, tree, Trees, none, more}

-- what is in a node with such texts
abbrev pub cut_as : Texts → Trees → Trees
cut_as Separators ts = ts
cut_as Page ts = ts
cut_as Bordered ts = recut ts
cut_as OwnCharacter ts = ts

abbrev mutual
  pub cut_texts : Tree → Tree
  cut_texts (tree l ts) = tree l (if is_group l.kind then ts else cut_as (texts_of_kind l.kind) (all_cut_texts ts))

  pub all_cut_texts : Trees → Trees
  all_cut_texts none = none
  all_cut_texts (more t ts) = more (cut_texts t) (all_cut_texts ts)

-- ---- the same in other words

abbrev pub AreCutAs : Texts → Trees → Type 0
AreCutAs Separators ts = Unit {0}
AreCutAs Page ts = Unit {0}
AreCutAs Bordered ts = AreCut false ts
AreCutAs OwnCharacter ts = Unit {0}

-- each text and separator in a node is as it should be
abbrev pub HasCutTexts : Tree → Type 0
HasCutTexts (tree l ts) = AreCutAs (texts_of_kind l.kind) ts

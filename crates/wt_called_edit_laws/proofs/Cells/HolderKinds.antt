-- The kinds of nodes that hold places, and of those that are blocks.
use Rattle.std.proofs.Common.{◌≡◌, ℕ, Bool, true, false, List, refl, sym, ap, ◌∙◌, subst, inl, inr}
use Rattle.std.specs.Prelude.{if◌then◌else◌}
use Rattle.wt_tree.specs.declared.kind.Kind.{Kind}
use Rattle.wt_tree.specs.declared.kind.Kind.TheVariants as kind
use Rattle.wt_tree.specs.Kinds.{is_block, writing}
use Rattle.wt_recut.specs.Recut.{is_as_text, shows_block, any_shows_block}
use Rattle.wt_tree.specs.Tiling.{is_group}
use Rattle.wt_tree.specs.Tree.{Tree, tree, label}
use Rattle.wt_tree.specs.declared.row.Texts.TheVariants.{Bordered}
use Rattle.wt_span.specs.Items.{Item}
use Rattle.wt_inline.specs.ItemTree.{Head, inner, ItemTrees}
use Rattle.wt_annotated.specs.Labels.{label_at}
use Rattle.wt_part_laws.specs.Rounds.{IsCellKind}
use Rattle.wt_part_laws.specs.Standing.{standing}
use Rattle.wt_called_edit_laws.proofs.Cells.Nodes.{AtBorder, IsHolder}

-- ---- the kinds of holders

pub table_holder : IsHolder kind.Table
table_holder = record { leaf = refl; group = refl }

pub rows_holder : IsHolder kind.Tbody
rows_holder = record { leaf = refl; group = refl }

pub row_holder : IsHolder kind.Tr
row_holder = record { leaf = refl; group = refl }

pub cell_holder : (k : Kind) → IsCellKind k → IsHolder k
cell_holder k (inl e) = let P : Kind → Type 0 = IsHolder in subst P (sym e) (record { leaf = refl; group = refl })
cell_holder k (inr e) = let P : Kind → Type 0 = IsHolder in subst P (sym e) (record { leaf = refl; group = refl })

pub as_holder : (k j : Kind) → k ≡ j → IsHolder j → IsHolder k
as_holder k j e h = subst IsHolder (sym e) h

shows_by : (t : Tree) → is_group (label t).kind ≡ false → is_block (label t).kind ≡ true → shows_block t ≡ true
shows_by (tree l ts) g b = ap (λ (v : Bool). if v then any_shows_block ts else is_block l.kind) g ∙ b

-- a table or a paragraph is a block
abbrev pub IsBlockKind : Kind → Type 0
IsBlockKind k = (is_as_text (writing k) ≡ false) × (is_group k ≡ false) × (is_block k ≡ true)

pub block_at : (m : ℕ) (a : List Item) (h : Head) (o : List Item) (ts : ItemTrees) (c : List Item) → IsBlockKind h.kind → AtBorder Bordered (standing m a (inner h o ts c))
unfolding label_at
block_at m a h o ts c k = (k.0, shows_by (standing m a (inner h o ts c)) k.1 k.2)

pub para_block : IsBlockKind kind.Para
para_block = (refl, refl, refl)

pub table_block : (k : Kind) → k ≡ kind.Table → IsBlockKind k
table_block k e = let P : Kind → Type 0 = IsBlockKind in subst P (sym e) (refl, refl, refl)

-- Worked cases of the definitions, each computed.
use Rattle.std.proofs.Common.{◌≡◌, true, Some, None, [], ◌∷◌, refl}
use Rattle.std.specs.Prelude.{codes}
use Rattle.wt_tree.specs.declared.kind.Kind.TheVariants as kind
use Rattle.wt_tree.specs.declared.row.Texts.TheVariants.{Bordered}
use Rattle.wt_tree.specs.Leaves.{leaf_label, text_leaf, sep_leaf}
use Rattle.wt_tree.specs.Tree.{Label, none}
use Rattle.wt_typed_blocks.specs.Edited.{no_pieces, gone, written, Edited, stays, edited, Edits, no_edits, more_edits}
use Rattle.wt_typed_blocks.specs.Sent.{paragraph}
use Rattle.wt_part_laws.specs.TreeFrames.{spot, kept, holder, TreeFrames, no_nodes, more_nodes}
use Rattle.wt_called_edit_laws.specs.PathsTo.{paths_to}
use Rattle.wt_called_edit_laws.specs.Sends.{AllSend}
use Rattle.wt_called_edit_laws.proofs.CutFrames.{cut_nodes}

-- in a cell: line breaks before the block at a place and behind it are separators once its texts are cut
round_a_place : cut_nodes true Bordered none
    (more_nodes (kept (text_leaf None (codes "\n"))) (more_nodes (spot 0) (more_nodes (kept (text_leaf None (codes "\n"))) no_nodes)))
    ≡ more_nodes (kept (sep_leaf None (codes "\n"))) (more_nodes (spot 0) (more_nodes (kept (sep_leaf None (codes "\n"))) no_nodes))
round_a_place = refl

-- ---- what is sent for a place and a node behind it

abbrev a_label : Label
a_label = leaf_label kind.Para None [] []

abbrev two_nodes : TreeFrames
two_nodes = more_nodes (spot 0) (more_nodes (kept (sep_leaf None (codes "\n"))) no_nodes)

-- one text in the place of another one
abbrev one_edit : Edited
one_edit = edited paragraph a_label a_label (gone (text_leaf None (codes "a")) (written a_label (codes "b") no_pieces))

abbrev one_edited : Edits
one_edited = more_edits one_edit (more_edits (stays (sep_leaf None (codes "\n")) (sep_leaf None (codes "\n"))) no_edits)

sends_an_edit : AllSend (λ n. Some one_edit) two_nodes one_edited
sends_an_edit = (refl, (tt, tt))

-- no content was edited there
sends_no_edit : AllSend (λ n. None) two_nodes one_edited → ⊥
sends_no_edit h = h.0

-- ---- paths

-- of a place behind a node, and of one in a node that holds others
two_paths : paths_to (more_nodes (kept (sep_leaf None (codes "\n"))) (more_nodes (spot 0) (more_nodes (holder a_label (more_nodes (spot 1) no_nodes)) no_nodes)))
    ≡ (1 ∷ []) ∷ (2 ∷ 0 ∷ []) ∷ []
two_paths = refl

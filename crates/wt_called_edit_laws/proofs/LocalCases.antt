-- A worked case, by computing: a page of a paragraph, a cell with a paragraph in it and another paragraph, in which the first two get other texts.
use Rattle.std.proofs.Common.{arith, ◌≡◌, ◌+◌, None, [], refl}
use Rattle.std.specs.Prelude.{codes}
use Rattle.wt_tree.specs.declared.kind.Kind.TheVariants as kind
use Rattle.wt_tree.specs.Leaves.{leaf_label, text_leaf, sep_leaf}
use Rattle.wt_tree.specs.Tree.{Label, Tree, tree, Trees, none, more}
use Rattle.wt_typed_blocks.specs.Sent.{paragraph}
use Rattle.wt_typed_blocks.specs.Edited.{Edited, stays, edited, round, Edits, no_edits, more_edits, no_pieces}
use Rattle.wt_called_edit_laws.specs.LocalChange.{AreLocal, no_shift}
use Rattle.wt_called_edit_laws.specs.Settled.{all_settled}

abbrev para_label : Label
para_label = leaf_label kind.Para None [] []

abbrev cell_label : Label
cell_label = record (leaf_label kind.Td None [] []) { opening = codes "|" }

abbrev para : Tree → Tree
para t = tree para_label (more t none)

abbrev cell : Tree → Tree
cell t = tree cell_label (more t none)

abbrev break : Tree
break = sep_leaf None (codes "\n")

-- these with a line break behind the first and the second
abbrev page : Tree → Tree → Tree → Trees
page t u v = more t (more break (more u (more break (more v none))))

abbrev was : Trees
was = all_settled 1 0 (page (para (text_leaf None (codes "ab"))) (cell (para (text_leaf None (codes "c")))) (para (text_leaf None (codes "f"))))

abbrev now : Trees
now = all_settled 1 0 (page (para (text_leaf None (codes "xyz"))) (cell (para (text_leaf None (codes "cde")))) (para (text_leaf None (codes "f"))))

-- what is sent for a node that stays, and for a paragraph that is edited
abbrev as_it_is : Edited
as_it_is = stays break break

abbrev retyped : Edited
retyped = edited paragraph para_label para_label no_pieces

abbrev edits : Edited → Edits
edits e = more_edits retyped (more_edits as_it_is (more_edits e (more_edits as_it_is (more_edits as_it_is no_edits))))

abbrev both : Edits
both = edits (round cell_label cell_label (more_edits retyped no_edits))

-- The line break behind the first paragraph is moved by one byte; the cell, too, and it ends three bytes later; and the last paragraph is moved by three.
two_are_local : AreLocal both no_shift was now
two_are_local = (
  (record { kind = refl; opening = refl; closing = refl }, record { start = refl; end = refl; open_w = refl; close_w = refl }),
  (
    (refl, record { start = refl; end = refl; open_w = refl; close_w = refl }, λ e. refl, λ e. tt),
    (
      (
        refl,
        record { start = refl; end = refl; open_w = refl; close_w = refl },
        ((record { kind = refl; opening = refl; closing = refl }, record { start = refl; end = refl; open_w = refl; close_w = refl }), tt),
      ),
      (
        (refl, record { start = refl; end = refl; open_w = refl; close_w = refl }, λ e. refl, λ e. tt),
        (
          (
            refl,
            record { start = refl; end = refl; open_w = refl; close_w = refl },
            λ e. absurd (cc),
            λ e. ((refl, record { start = refl; end = refl; open_w = refl; close_w = refl }, λ f. refl, λ f. tt), tt),
          ),
          tt,
        ),
      ),
    ),
  ),
)

-- Where nothing is sent for the cell's paragraph, it isn't so: the cell doesn't hold what it held.
cell_is_another : AreLocal (edits as_it_is) no_shift was now → ⊥
cell_is_another h =
    let c = h.1.1.0 in
    let end : 8 + 2 ≡ 5 + 3 = c.1.end in absurd (omega (arith, end))

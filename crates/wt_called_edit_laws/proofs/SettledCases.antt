-- A worked case, by computing: the tree of a page of two paragraphs, from its nodes without numbers and places.
use Rattle.std.proofs.Common.{◌≡◌, ℕ, Some, None, [], refl}
use Rattle.std.specs.Prelude.{codes}
use Rattle.wt_tree.specs.declared.kind.Kind.TheVariants as kind
use Rattle.wt_tree.specs.Leaves.{leaf_label, text_leaf, sep_leaf}
use Rattle.wt_tree.specs.Tree.{Label, Tree, tree, Trees, none, more}
use Rattle.wt_called_edit_laws.specs.Settled.{page_settled}

abbrev a_body : Label
a_body = leaf_label kind.Body None [] []

abbrev a_para : Label
a_para = leaf_label kind.Para None [] []

-- the same with this number, from one byte to another one
abbrev stands : ℕ → ℕ → ℕ → Tree → Tree
stands n from to (tree l ts) = tree (record l { id = n; ranges = Some (record { start = from; end = to; open_w = 0; close_w = 0 }) }) ts

abbrev three : Tree → Tree → Tree → Trees
three t u v = more t (more u (more v none))

two_paragraphs : page_settled (tree a_body
    (three (tree a_para (more (text_leaf None (codes "ab")) none)) (sep_leaf None (codes "\n")) (tree a_para (more (text_leaf None (codes "c")) none))))
    ≡ stands 0 0 4 (tree a_body
    (three (stands 1 0 2 (tree a_para (more (stands 0 0 2 (text_leaf None (codes "ab"))) none)))
    (stands 0 2 3 (sep_leaf None (codes "\n")))
    (stands 2 3 4 (tree a_para (more (stands 0 3 4 (text_leaf None (codes "c"))) none)))))
two_paragraphs = refl

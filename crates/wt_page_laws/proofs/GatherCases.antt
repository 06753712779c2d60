-- A worked case: a group of two elements, a node by itself, a group of one element.
use Rattle.std.proofs.Common.{◌≡◌, refl, [], ◌∷◌}
use Rattle.wt_tree.specs.Tree.{Label, Tree, tree, none as no_trees, more as one_more}
use Rattle.wt_schema.specs.Groups.{single, begun, further, gathered}

two_groups : (l m : Label) (a b c d : Tree) → gathered (begun l a ∷ further b ∷ single c ∷ begun m d ∷ [])
    ≡ one_more (tree l (one_more a (one_more b no_trees))) (one_more c (one_more (tree m (one_more d no_trees)) no_trees))
two_groups l m a b c d = refl

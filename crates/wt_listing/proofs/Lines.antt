-- A listing by one level of the tree.
use Rattle.std.proofs.Common.{◌≡◌, List, [], ◌∷◌, ◌++◌, refl, ap, ◌∙◌, map}
use Rattle.std.specs.List.{flat_map}
use Rattle.std.proofs.lemmas.List.{map-append}
use Rattle.std.proofs.lemmas.List.Concat.{flat_map-append}
use Rattle.wt_tree.specs.Tree.{Label, Tree, tree, trees, label, subtrees, subtrees_of_all}
use Rattle.wt_tree.specs.Look.{rows}
use Rattle.wt_listing.specs.Listing.{line_of, listing}

below : (ts : List Tree) → flat_map line_of (map (λ u. ((label u).id, (label u).kind, (label u).ranges)) (subtrees_of_all (trees ts))) ≡ flat_map listing ts
below [] = refl
below (t ∷ ts) =
    ap (flat_map line_of) (map-append _ (subtrees t) (subtrees_of_all (trees ts)))
    ∙ flat_map-append line_of (rows t) _
    ∙ ap (λ bs. listing t ++ bs) (below ts)

pub level : (l : Label) (ts : List Tree) → listing (tree l (trees ts)) ≡ line_of (l.id, l.kind, l.ranges) ++ flat_map listing ts
level l ts = ap (λ bs. line_of (l.id, l.kind, l.ranges) ++ bs) (below ts)

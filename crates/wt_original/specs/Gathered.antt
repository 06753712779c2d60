-- What the code's items stand for.
use Rattle.std.specs.Prelude.{◌≡◌, ℕ, ◌+◌, Bool, List, [], ◌∷◌, ◌++◌, map, length, string_bytes, if◌then◌else◌}
use Rattle.wt_tree.specs.Tree.{Label, Tree, Trees, label}
use Rattle.wt_tree.specs.Source.{flat}
use Rattle.wt_tree.specs.View.{view}
use Rattle.wt_original.specs.declared.block.KeptNode.{KeptNode as Pointed}
use Rattle.wt_original.specs.declared.block.Gathered.{Gathered}
use Rattle.wt_original.specs.declared.block.Extent.{Extent}
use Rattle.wt_original.specs.declared.kept.Facts.{Facts}
use Rattle.wt_original.specs.declared.kept.Kept.{Kept as Known}
use Rattle.wt_original.specs.declared.gather.Item.{Item as Read}
use Rattle.wt_original.specs.declared.gather.Item.TheVariants as read
use Rattle.wt_original.specs.Kept.{Item, character, opaque, invisible, KeptNode, holds_kept, found_at, found_from, found_in, are_blank_to_end, seen, seen_inside, Kept}

abbrev pub item_of : Read → Item
item_of (read.Character b) = character b
item_of read.Opaque = opaque
item_of read.Invisible = invisible

abbrev pub items_seen : List Read → List Item
items_seen xs = map item_of xs

abbrev pub found_of : Pointed → KeptNode
found_of f = record { node = view f.node.now; extent = f.extent }

abbrev pub bytes_so_far : Gathered → List ℕ
bytes_so_far g = string_bytes g.source

abbrev pub seen_so_far : Gathered → List Item
seen_so_far g = items_seen g.seen.items

abbrev pub found_so_far : Gathered → List KeptNode
found_so_far g = map found_of g.found

-- a node begins here, and it ends here
abbrev pub begun : Gathered → Extent
begun g = record { start = length (bytes_so_far g); end = length (bytes_so_far g); from = length (seen_so_far g); to = length (seen_so_far g) }

abbrev pub ended : Gathered → Extent → Extent
ended g s = record { start = s.start; end = length (bytes_so_far g); from = s.from; to = length (seen_so_far g) }

-- these bytes, visible items and nodes are added at the end
pub record Adds (old new : Gathered) (source : List ℕ) (seen : List Item) (found : List KeptNode) : Type 0 where
  pub bytes : bytes_so_far new ≡ bytes_so_far old ++ source
  pub items : seen_so_far new ≡ seen_so_far old ++ seen
  pub nodes : found_so_far new ≡ found_so_far old ++ found

-- the nodes with numbers in a node, with so much gathered before it
abbrev pub inside_found : Gathered → Label → Trees → List KeptNode
inside_found g l ts = if holds_kept l then found_in (length (bytes_so_far g) + length l.opening) (length (seen_so_far g) + length l.opening) ts else []

abbrev pub own_found : Gathered → Tree → KeptNode
own_found g t = found_at (length (bytes_so_far g)) (length (seen_so_far g)) t

abbrev pub all_found : Gathered → Tree → List KeptNode
all_found g t = found_from (length (bytes_so_far g)) (length (seen_so_far g)) t

abbrev pub list_found : Gathered → Trees → List KeptNode
list_found g ts = found_in (length (bytes_so_far g)) (length (seen_so_far g)) ts

-- what is gathered of a whole block
pub record IsGatheredOf (block : Tree) (g : Gathered) : Type 0 where
  pub bytes : bytes_so_far g ≡ flat block
  pub items : seen_so_far g ≡ seen block
  pub nodes : found_so_far g ≡ found_from 0 0 block

-- for each item, from the last one on, whether there are only blanks from it on up to a line break or the end
abbrev pub blank_ends : List Item → List Bool
blank_ends [] = []
blank_ends (x ∷ xs) = blank_ends xs ++ (are_blank_to_end (x ∷ xs) ∷ [])

-- what is asked of this block
pub record IsFactsOf (block : Tree) (f : Facts) : Type 0 where
  pub source : f.source.now ≡ flat block
  pub seen_items : items_seen f.seen.now ≡ seen block
  pub ends : f.ends.now ≡ blank_ends (seen_inside block)
  pub opening : f.opening ≡ length (label block).opening
  pub closing : f.closing ≡ length (label block).closing

abbrev pub kept_view : Known → Kept
kept_view k = record { node = view k.node.now; role = k.role; place = k.place }

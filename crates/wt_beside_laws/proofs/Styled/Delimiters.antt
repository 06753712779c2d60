-- No node of a block with a number is a delimiter, as those of bold and italic are.
use Rattle.std.proofs.Common.{ℕ, Bool, true, false, List, [], ◌∷◌, map}
use Rattle.std.specs.Prelude.{◌==◌, if◌then◌else◌, Option, Some, None}
use Rattle.wt_tree.specs.declared.edit_shape.Sort.{Sort}
use Rattle.wt_tree.specs.declared.edit_shape.Sort.TheVariants as sort
use Rattle.wt_tree.specs.EditShapes.{edit_shape}
use Rattle.wt_tree.specs.Tree.{Tree, label}
use Rattle.wt_original.specs.declared.block.Extent.{Extent}
use Rattle.wt_original.specs.Kept.{Kept, KeptNode, url, island, role_by, kept_of, kept_nodes, found_from, first_with, kept_with}
use Rattle.wt_original.specs.Page.{page_of}
use Rattle.wt_beside_laws.specs.Flat.{IsFlat}
use Rattle.wt_beside_laws.specs.SentStyled.{KeptIsFlat, HasNoDelimiter}

url_flat : (opening text : List ℕ) → IsFlat (url opening text)
url_flat [] text = tt
url_flat (b ∷ opening) text = tt

island_flat : (called : Bool) → IsFlat (island called)
island_flat true = tt
island_flat false = tt

role_flat : (s : Sort) (block : Tree) (e : Extent) (t : Tree) → IsFlat (role_by s block e t)
role_flat sort.PageLink block e t = tt
role_flat sort.Url block e t = url_flat (label t).opening _
role_flat sort.Switch block e t = tt
role_flat sort.Mark block e t = tt
role_flat sort.Group block e t = tt
role_flat sort.Island block e t = island_flat _
role_flat sort.Other block e t = tt

by_test : (b : Bool) (k : Kept) (o : Option Kept) → IsFlat k.role → KeptIsFlat o → KeptIsFlat (if b then Some k else o)
by_test true k o f g = f
by_test false k o f g = g

each_flat : (block : Tree) (fs : List KeptNode) (n : ℕ) → KeptIsFlat (first_with n (map (kept_of block) fs))
each_flat block [] n = tt
each_flat block (f ∷ fs) n =
    by_test ((label f.node).id == n) (kept_of block f) (first_with n (map (kept_of block) fs))
    (role_flat (edit_shape (label f.node).kind).sort block f.extent f.node) (each_flat block fs n)

none_or : (b : Bool) (o : Option Kept) → KeptIsFlat o → KeptIsFlat (if b then None else o)
none_or true o h = tt
none_or false o h = h

pub no_delimiter : (same : Tree → Tree → Bool) (block : Tree) → HasNoDelimiter (page_of same block)
unfolding kept_with
no_delimiter same block = λ n. none_or (n == 0) (first_with n (kept_nodes block)) (each_flat block (found_from 0 0 block) n)

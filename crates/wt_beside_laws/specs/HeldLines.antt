-- Lines of a page in which each form is a node that stays: what is asked of a form beside its source.
use Rattle.std.specs.Prelude.{◌≡◌, List, [], ◌∷◌}
use Rattle.std.specs.Str.{IsUtf8}
use Rattle.wt_span.specs.Items.{Item, sources}
use Rattle.wt_tiles.specs.declared.shape.Shape.{Shape}
use Rattle.wt_tiles.specs.declared.shape.TileKind.{TileKind}
use Rattle.wt_tiles.specs.declared.shape.TileKind.TheVariants as kind
use Rattle.wt_tiles.specs.Contexts.{in_line}
use Rattle.wt_tiles.specs.Tiles.{tiles}
use Rattle.wt_beside_laws.specs.Commented.{IsCommentLine}
use Rattle.wt_beside_laws.specs.NodeItems.{node_items}

-- where it is a line of comments, a line begins there
pub record IsHeldForm (xs : List Item) : Type 0 where
  pub led : IsCommentLine (sources xs) → node_items (sources xs) ≡ xs

abbrev pub IsHeldTile : TileKind → List Item → Type 0
IsHeldTile kind.Link xs = IsHeldForm xs
IsHeldTile kind.Category xs = IsHeldForm xs
IsHeldTile kind.Media xs = IsHeldForm xs
IsHeldTile kind.ExtLink xs = IsHeldForm xs
IsHeldTile kind.BareUrl xs = IsHeldForm xs
IsHeldTile kind.Br xs = IsHeldForm xs
IsHeldTile kind.Pair xs = IsHeldForm xs
IsHeldTile kind.TagIsland xs = IsHeldForm xs
IsHeldTile kind.Switch xs = IsHeldForm xs
IsHeldTile kind.Atom xs = IsHeldForm xs
IsHeldTile kind.Mark xs = IsHeldForm xs
IsHeldTile kind.Chars xs = IsUtf8 (sources xs)

abbrev pub AreHeldTiles : List (Shape × List Item) → Type 0
AreHeldTiles [] = Unit {0}
AreHeldTiles ((w, xs) ∷ ps) = IsHeldTile w.kind xs × AreHeldTiles ps

abbrev pub AreHeldLines : List (List Item) → Type 0
AreHeldLines [] = Unit {0}
AreHeldLines (xs ∷ ls) = AreHeldTiles (tiles in_line xs) × AreHeldLines ls

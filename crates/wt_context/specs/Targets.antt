-- The targets of the links and categories of a context.
use Rattle.std.specs.Prelude.{◌≡◌, Some, List}
use Rattle.std.specs.List.{AllByRecursion}
use Rattle.wt_span.specs.Items.{Item}
use Rattle.wt_names.specs.Written.{link_to, read_link}
use Rattle.wt_tiles.specs.declared.context.Context.{Context}
use Rattle.wt_tiles.specs.declared.shape.TileKind.{TileKind}
use Rattle.wt_tiles.specs.declared.shape.TileKind.TheVariants as kind
use Rattle.wt_tiles.specs.declared.target.Target.{Target}
use Rattle.wt_tiles.specs.Tiles.{tiles}
use Rattle.wt_context.specs.Heads.{glyphs, target}

-- in the items of the tile is a target, and the link to its title leads back to that
abbrev pub IsLed : List Item → Type 0
IsLed xs = (t : Target) × (target (glyphs xs) ≡ Some t) × (read_link (link_to t.title) ≡ Some t.title)

abbrev pub HasTarget : TileKind → List Item → Type 0
HasTarget kind.Link xs = IsLed xs
HasTarget kind.Category xs = IsLed xs
HasTarget kind.Media xs = Unit {0}
HasTarget kind.ExtLink xs = Unit {0}
HasTarget kind.BareUrl xs = Unit {0}
HasTarget kind.Br xs = Unit {0}
HasTarget kind.Pair xs = Unit {0}
HasTarget kind.TagIsland xs = Unit {0}
HasTarget kind.Switch xs = Unit {0}
HasTarget kind.Atom xs = Unit {0}
HasTarget kind.Mark xs = Unit {0}
HasTarget kind.Chars xs = Unit {0}

abbrev pub HaveTargets : Context → List Item → Type 0
HaveTargets cx xs = AllByRecursion (λ p. HasTarget p.0.kind p.1) (tiles cx xs)

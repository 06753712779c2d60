-- What is known of a context's brackets and tags, in tables by the number of items that are left.
use Rattle.std.specs.Prelude.{◌≡◌, ◌<◌, ◌≤◌, ℕ, ◌+◌, ◌-◌, Option, Some, None, List, [], ◌∷◌, length, drop, slice_get, option_map}
use Rattle.wt_tiles.specs.declared.glyph.Glyph.{Glyph}
use Rattle.wt_tiles.specs.declared.bracket.DepthChange.{DepthChange as Side}
use Rattle.wt_tiles.specs.declared.bracket.DepthChange.TheVariants as side
use Rattle.wt_tiles.specs.declared.tag.Name.{Name}
use Rattle.wt_tiles.specs.declared.tag.Name.TheVariants.{Paired, Break, Island}
use Rattle.wt_tiles.specs.declared.tag.TagShape.{TagShape}
use Rattle.wt_tiles.specs.declared.tag.TagShape.TheVariants.{Opening, Alone, Closing}
use Rattle.wt_tiles.specs.declared.tag.Tag.{Tag}
use Rattle.wt_tiles.specs.declared.shape.Shape.{Shape}
use Rattle.wt_tiles.specs.declared.shape.TileKind.TheVariants as kind
use Rattle.wt_tiles.specs.Tags.{tag_at}
use Rattle.wt_tiles.specs.Links.{leaf}
use Rattle.wt_tiles.specs.Tiles.{len_of}
use Rattle.wt_tiles.specs.Partners.{DepthChange, Up, Down, Level, number, balanced, partner}

abbrev pub turn_value : Side → DepthChange
turn_value side.Up = Up
turn_value side.Down = Down
turn_value side.Level = Level

abbrev pub option_join : Option (Option ℕ) → Option ℕ
option_join None = None
option_join (Some o) = o

-- how many items are left
abbrev pub left_of : Option (List Glyph) → Option ℕ
left_of o = option_map (λ gs. length gs) o

-- ---- brackets

-- how many are left from the `]]` on that balances a `[[` before these items
abbrev pub balances : List Glyph → Option ℕ
balances gs = left_of (balanced 0 0 gs)

-- a table says it of each end of the items, by its length
pub record IsBalanceTable (gs : List Glyph) (table : List (Option ℕ)) : Type 0 where
  pub size : length table ≡ length gs + 1
  pub known : (k : ℕ) → k ≤ length gs → slice_get table k ≡ Some (balances (drop (length gs - k) gs))

abbrev pub IsKnownBalance : List Glyph → Option (List (Option ℕ)) → Type 0
IsKnownBalance gs None = Unit {0}
IsKnownBalance gs (Some table) = IsBalanceTable gs table

-- ---- tags

-- how many are left from the first closing tag of the k-th name on that closes more than is opened before it
abbrev pub nearest : ℕ → List Glyph → Option ℕ
nearest k gs = left_of (partner k 0 gs)

-- of the name of the tag that begins the items, where it is in pairs; after its `<`
abbrev pub nearest_named : Name → List Glyph → Option ℕ
nearest_named (Paired m) gs = nearest (number m) gs
nearest_named Break gs = None
nearest_named Island gs = None

abbrev pub nearest_of : Option Tag → List Glyph → Option ℕ
nearest_of None gs = None
nearest_of (Some t) gs = nearest_named t.name gs

abbrev pub own_partner : List Glyph → Option ℕ
own_partner [] = None
own_partner (g ∷ gs) = nearest_of (tag_at (g ∷ gs)) gs

pub record IsPartnerTable (gs : List Glyph) (table : List (Option ℕ)) : Type 0 where
  pub size : length table ≡ length gs + 1
  pub known : (k : ℕ) → k ≤ length gs → slice_get table k ≡ Some (own_partner (drop (length gs - k) gs))

abbrev pub IsKnownPartner : List Glyph → Option (List (Option ℕ)) → Type 0
IsKnownPartner gs None = Unit {0}
IsKnownPartner gs (Some table) = IsPartnerTable gs table

-- for each name
pub record AreNearest (gs : List Glyph) (table : List (Option ℕ)) : Type 0 where
  pub size : length table ≡ 7
  pub known : (k : ℕ) → k < 7 → slice_get table k ≡ Some (nearest k gs)

-- what a table says of so many items
abbrev pub entry : List (Option ℕ) → Option ℕ → Option ℕ
entry table None = None
entry table (Some q) = option_join (slice_get table q)

-- a tag of a name, with so many items left, before what was known after it
abbrev pub nearest_by : List (Option ℕ) → TagShape → ℕ → Option ℕ → Option ℕ
nearest_by table Opening left behind = entry table behind
nearest_by table Alone left behind = behind
nearest_by table Closing left behind = Some left

-- ---- pairs

-- a pair whose opening tag takes n items, by how many items are left from its closing tag on
abbrev pub pair_left : ℕ → Option ℕ → List Glyph → Shape
pair_left n None gs = leaf kind.TagIsland n
pair_left n (Some left) gs = record {
  kind = kind.Pair;
  opening = n;
  inside = length (drop n gs) - left;
  closing = len_of (tag_at (drop (length gs - left) gs));
  trail = 0;
}

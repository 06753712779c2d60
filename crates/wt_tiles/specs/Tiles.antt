-- The tiles of a context: the forms, each taken leftmost, then the first of several, and the characters between them.
use Rattle.std.specs.Prelude.{ℕ, zero, suc, ◌+◌, ◌-◌, ◌==◌, Bool, false, Option, Some, None, List, [], ◌∷◌, length, map, take, drop, nat_lt, codes, option_map, if◌then◌else◌}
use Rattle.std.specs.Option.{option_or}
use Rattle.wt_span.specs.Items.{Item}
use Rattle.wt_span.specs.declared.tag_name.TagName.{TagName}
use Rattle.wt_tiles.specs.declared.context.Context.{Context}
use Rattle.wt_tiles.specs.declared.glyph.Glyph.{Glyph}
use Rattle.wt_tiles.specs.declared.glyph.Glyph.TheVariants as glyph
use Rattle.wt_tiles.specs.declared.read.TheConstants.{MOST_PAIRS}
use Rattle.wt_tiles.specs.declared.tag.Name.{Name}
use Rattle.wt_tiles.specs.declared.tag.Name.TheVariants.{Paired, Break, Island}
use Rattle.wt_tiles.specs.declared.tag.TagShape.{TagShape}
use Rattle.wt_tiles.specs.declared.tag.TagShape.TheVariants.{Opening, Alone, Closing}
use Rattle.wt_tiles.specs.declared.tag.Tag.{Tag}
use Rattle.wt_tiles.specs.declared.shape.Shape.{Shape}
use Rattle.wt_tiles.specs.declared.shape.TileKind.TheVariants as kind
use Rattle.wt_tiles.specs.Glyphs.{glyph_of, is_in, begins}
use Rattle.wt_tiles.specs.Tags.{tag_at}
use Rattle.wt_tiles.specs.Partners.{number, partner}
use Rattle.wt_tiles.specs.Links.{leaf, link_at}
use Rattle.wt_tiles.specs.Urls.{is_word, ext_link_at, bare_url_at}

-- ---- tags

abbrev pub len_of : Option Tag → ℕ
len_of None = 0
len_of (Some t) = t.len

-- a pair whose opening tag takes n items, by what is left from its closing tag on; without one it is an island
abbrev pub pair_or_island : ℕ → Option (List Glyph) → List Glyph → Shape
pair_or_island n None gs = leaf kind.TagIsland n
pair_or_island n (Some rest) gs = record { kind = kind.Pair; opening = n; inside = length (drop n gs) - length rest; closing = len_of (tag_at rest); trail = 0 }

-- the closing tag that balances a tag of n items, where fewer than `MOST_PAIRS` pairs are open
abbrev pub closing_for : ℕ → TagName → ℕ → List Glyph → Option (List Glyph)
closing_for pairs m n gs = if nat_lt pairs MOST_PAIRS then partner (number m) 0 (drop n gs) else None

abbrev pub shape_of_tag : ℕ → Name → TagShape → ℕ → List Glyph → Shape
shape_of_tag pairs (Paired m) Opening n gs = pair_or_island n (closing_for pairs m n gs) gs
shape_of_tag pairs (Paired m) Alone n gs = leaf kind.TagIsland n
shape_of_tag pairs (Paired m) Closing n gs = leaf kind.TagIsland n
shape_of_tag pairs Break Opening n gs = leaf kind.Br n
shape_of_tag pairs Break Alone n gs = leaf kind.Br n
shape_of_tag pairs Break Closing n gs = leaf kind.TagIsland n
shape_of_tag pairs Island shape n gs = leaf kind.TagIsland n

-- the tile of the tag that begins the items
unfoldable pub tag_tile : ℕ → List Glyph → Option Shape
tag_tile pairs gs = option_map (λ t. shape_of_tag pairs t.name t.shape t.len gs) (tag_at gs)

-- ---- switches

-- what follows the first `__`: a name, and `__` again
unfoldable pub switch_names : List (List ℕ)
switch_names =
    codes "NOTOC__" ∷ codes "FORCETOC__" ∷ codes "TOC__" ∷ codes "NOEDITSECTION__" ∷ codes "NEWSECTIONLINK__" ∷ codes "HIDDENCAT__" ∷ codes "NOGALLERY__"
    ∷ codes "INDEX__" ∷ codes "NOINDEX__" ∷ []

-- the first of these words that is here: how many items it takes
abbrev pub switch_len : List (List ℕ) → List Glyph → Option ℕ
switch_len [] gs = None
switch_len (word ∷ words) gs = if begins word gs then Some (length word) else switch_len words gs

unfoldable pub switch_at : List Glyph → Option Shape
switch_at gs = if begins (codes "__") gs then option_map (λ n. leaf kind.Switch (2 + n)) (switch_len switch_names (drop 2 gs)) else None

-- ---- the form that begins the items: of several the first

-- links and URLs, which are in no text of a link
abbrev pub outside : Bool → Option Shape → Option Shape
outside in_link o = if in_link then None else o

unfoldable pub link_or_url : Bool → List Glyph → Option Shape
link_or_url after gs = option_or (link_at gs) (option_or (ext_link_at gs) (bare_url_at after gs))

abbrev pub tag_or_switch : ℕ → List Glyph → Option Shape
tag_or_switch pairs gs = option_or (tag_tile pairs gs) (switch_at gs)

-- where a character is first; `after` says whether a letter, digit or `_` comes before it
unfoldable pub form_at : Context → Bool → List Glyph → Option Shape
form_at cx after gs = option_or (outside cx.in_link (link_or_url after gs)) (tag_or_switch cx.pairs gs)

abbrev pub tile_with : Context → Bool → Glyph → List Glyph → Option Shape
tile_with cx after (glyph.Byte b) gs = form_at cx after gs
tile_with cx after (glyph.Entity c) gs = Some (leaf kind.Atom 1)
tile_with cx after glyph.Atom gs = Some (leaf kind.Atom 1)
tile_with cx after glyph.Mark gs = Some (leaf kind.Mark 1)

-- ---- tiles

abbrev pub size : Shape → ℕ
size w = w.opening + w.inside + w.closing + w.trail

-- a run of characters, which may be empty, before shapes that begin with a form
abbrev pub Cut : Type 0
Cut = ℕ × List Shape

abbrev pub chars : ℕ → Shape
chars n = record { kind = kind.Chars; opening = 0; inside = n; closing = 0; trail = 0 }

-- the shapes, without an empty run
unfoldable pub closed : ℕ → List Shape → List Shape
closed n ws = if n == 0 then ws else chars n ∷ ws

-- one more character in the run, or a form before what follows it
abbrev pub cut_with : Option Shape → (ℕ → Cut) → Cut
cut_with None rest = (suc (rest 0).0, (rest 0).1)
cut_with (Some w) rest = (0, w ∷ closed (rest (size w - 1)).0 (rest (size w - 1)).1)

-- items of which the first n lie in a form
abbrev pub cuts : Context → Bool → ℕ → List Glyph → Cut
cuts cx after n [] = (0, [])
cuts cx after (suc n) (g ∷ gs) = cuts cx (is_in is_word g) n gs
cuts cx after zero (g ∷ gs) = cut_with (tile_with cx after g (g ∷ gs)) (λ n. cuts cx (is_in is_word g) n gs)

-- the shapes of the tiles of a context
unfoldable pub shapes : Context → List Glyph → List Shape
shapes cx gs = closed (cuts cx false 0 gs).0 (cuts cx false 0 gs).1

-- each shape with its items
abbrev pub parts : List Shape → List Item → List (Shape × List Item)
parts [] xs = []
parts (w ∷ ws) xs = (w, take (size w) xs) ∷ parts ws (drop (size w) xs)

-- the tiles of a context
unfoldable pub tiles : Context → List Item → List (Shape × List Item)
tiles cx xs = parts (shapes cx (map glyph_of xs)) xs

-- The signs of a line of a page, by its tiles: the characters, and each form as a node.
use Rattle.std.specs.Prelude.{◌≡◌, ℕ, ◌+◌, ◌==◌, Bool, true, false, nat_eq, Some, List, [], ◌∷◌, ◌++◌, length, map}
use Rattle.std.specs.List.{ends_with, flat_map}
use Rattle.std.specs.Str.{IsUtf8}
use Rattle.wt_span.specs.declared.form.ItemForm.{ItemForm}
use Rattle.wt_span.specs.declared.form.ItemForm.TheVariants as form
use Rattle.wt_span.specs.Characters as byte
use Rattle.wt_span.specs.Items.{Item, char, whole, sources}
use Rattle.wt_guards.specs.declared.role.Role.{Role}
use Rattle.wt_guards.specs.declared.role.Role.TheVariants.{Link, External, Bare, Switch, Mark, Function, Node}
use Rattle.wt_guards.specs.Content.{ContentSign, letter, thing, letters}
use Rattle.wt_tiles.specs.declared.shape.Shape.{Shape}
use Rattle.wt_tiles.specs.declared.shape.TileKind.{TileKind}
use Rattle.wt_tiles.specs.declared.shape.TileKind.TheVariants as kind
use Rattle.wt_tiles.specs.Contexts.{in_line}
use Rattle.wt_tiles.specs.Glyphs.{glyph_of}
use Rattle.wt_tiles.specs.Links.{text_of}
use Rattle.wt_tiles.specs.Tiles.{tiles}
use Rattle.wt_beside_laws.specs.NodeItems.{node_items}

-- ---- what a form is to its neighbours

abbrev pub form_role : ItemForm → Role
form_role form.Chars = Node
form_role (form.Entity c) = Node
form_role form.Nowiki = Node
form_role form.Extension = Node
form_role form.Function = Function
form_role form.Comment = Node
form_role form.Include = Node
form_role form.Hidden = Node
form_role form.EmptyCall = Node

abbrev pub atom_role : List Item → Role
atom_role [] = Node
atom_role (char o b ∷ xs) = Node
atom_role (whole f o bs ∷ xs) = form_role f

-- a line break ends it
abbrev pub ends_break : List ℕ → Bool
ends_break bs = ends_with nat_eq bs (byte.line_break ∷ [])

-- of a tile that began its line or not
abbrev pub tile_role : TileKind → Bool → List Item → Role
tile_role kind.Link began xs = Link
tile_role kind.Category began xs = Node
tile_role kind.Media began xs = Node
tile_role kind.ExtLink began xs = External
tile_role kind.BareUrl began xs = Bare (ends_with nat_eq (flat_map text_of (map glyph_of xs)) (byte.equals_sign ∷ []))
tile_role kind.Br began xs = Node
tile_role kind.Pair began xs = Node
tile_role kind.TagIsland began xs = Node
tile_role kind.Switch began xs = Switch
tile_role kind.Atom began xs = atom_role xs
tile_role kind.Mark began xs = Mark (ends_break (sources xs)) began
tile_role kind.Chars began xs = Node

-- ---- the signs

-- a form, by its kind, whether it began its line, its place and its items
abbrev pub form_sign : TileKind → Bool → ℕ → List Item → List ContentSign
form_sign k began at xs =
    thing (record { role = tile_role k began xs; source = sources xs; place = Some (record { start = at; end = at + length (sources xs) }) }) ∷ []

abbrev pub tile_signs : TileKind → Bool → ℕ → List Item → List ContentSign
tile_signs kind.Link began at xs = form_sign kind.Link began at xs
tile_signs kind.Category began at xs = form_sign kind.Category began at xs
tile_signs kind.Media began at xs = form_sign kind.Media began at xs
tile_signs kind.ExtLink began at xs = form_sign kind.ExtLink began at xs
tile_signs kind.BareUrl began at xs = form_sign kind.BareUrl began at xs
tile_signs kind.Br began at xs = form_sign kind.Br began at xs
tile_signs kind.Pair began at xs = form_sign kind.Pair began at xs
tile_signs kind.TagIsland began at xs = form_sign kind.TagIsland began at xs
tile_signs kind.Switch began at xs = form_sign kind.Switch began at xs
tile_signs kind.Atom began at xs = form_sign kind.Atom began at xs
tile_signs kind.Mark began at xs = form_sign kind.Mark began at xs
tile_signs kind.Chars began at xs = letters (sources xs)

-- a line begins there or not; one begins behind a line of comments
abbrev pub signs_of_tiles : Bool → ℕ → List (Shape × List Item) → List ContentSign
signs_of_tiles began at [] = []
signs_of_tiles began at ((w, xs) ∷ ps) = tile_signs w.kind began at xs ++ signs_of_tiles (ends_break (sources xs)) (at + length (sources xs)) ps

-- of a line with so many bytes before it
abbrev pub line_signs : ℕ → List Item → List ContentSign
line_signs at xs = signs_of_tiles true at (tiles in_line xs)

-- of lines with a line break between each two
abbrev pub signs_of_lines : ℕ → List (List Item) → List ContentSign
signs_of_lines at [] = []
signs_of_lines at (xs ∷ []) = line_signs at xs
signs_of_lines at (xs ∷ ys ∷ ls) = line_signs at xs ++ (letter byte.line_break ∷ signs_of_lines (at + length (sources xs) + 1) (ys ∷ ls))

-- ---- lines in which each form is a node that stays

-- its source by itself is read as its items
pub record IsFlatForm (xs : List Item) : Type 0 where
  pub alone : node_items (sources xs) ≡ xs

abbrev pub IsFlatTile : TileKind → List Item → Type 0
IsFlatTile kind.Link xs = IsFlatForm xs
IsFlatTile kind.Category xs = IsFlatForm xs
IsFlatTile kind.Media xs = IsFlatForm xs
IsFlatTile kind.ExtLink xs = IsFlatForm xs
IsFlatTile kind.BareUrl xs = IsFlatForm xs
IsFlatTile kind.Br xs = IsFlatForm xs
IsFlatTile kind.Pair xs = IsFlatForm xs
IsFlatTile kind.TagIsland xs = IsFlatForm xs
IsFlatTile kind.Switch xs = IsFlatForm xs
IsFlatTile kind.Atom xs = IsFlatForm xs
IsFlatTile kind.Mark xs = IsFlatForm xs
IsFlatTile kind.Chars xs = IsUtf8 (sources xs)

abbrev pub AreFlatTiles : List (Shape × List Item) → Type 0
AreFlatTiles [] = Unit {0}
AreFlatTiles ((w, xs) ∷ ps) = IsFlatTile w.kind xs × AreFlatTiles ps

-- no item is a line break
abbrev pub IsNoBreak : Item → Type 0
IsNoBreak (char o b) = (b == byte.line_break) ≡ false
IsNoBreak (whole f o bs) = Unit {0}

abbrev pub HasNoBreak : List Item → Type 0
HasNoBreak [] = Unit {0}
HasNoBreak (x ∷ xs) = IsNoBreak x × HasNoBreak xs

abbrev pub AreFlatLines : List (List Item) → Type 0
AreFlatLines [] = Unit {0}
AreFlatLines (xs ∷ ls) = HasNoBreak xs × AreFlatTiles (tiles in_line xs) × AreFlatLines ls

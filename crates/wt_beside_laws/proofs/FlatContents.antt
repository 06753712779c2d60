-- A content of the nodes of flat lines of a page, with texts between them, is one that is read sign by sign.
use Rattle.std.proofs.Common.{◌≡◌, ℕ, ◌+◌, Bool, true, false, List, [], ◌∷◌, ◌++◌, length, map, take, drop, refl, sym, subst}
use Rattle.std.specs.Str.{chars}
use Rattle.wt_span.specs.Items.{Item, char, whole, sources}
use Rattle.wt_guards.specs.declared.role.Role.{Role}
use Rattle.wt_guards.specs.declared.role.Role.TheVariants.{Link, External, Bare, Switch, Toggle, Mark, Group, Function, Node}
use Rattle.wt_guards.specs.Content.{ContentSign, Thing, letter, thing}
use Rattle.wt_guards.specs.Guards.{Setting}
use Rattle.wt_lines.specs.Lines.{IsUnbroken}
use Rattle.wt_tiles.specs.declared.shape.Shape.{Shape}
use Rattle.wt_tiles.specs.declared.shape.TileKind.{TileKind}
use Rattle.wt_tiles.specs.declared.shape.TileKind.TheVariants as kind
use Rattle.wt_tiles.specs.Contexts.{in_line}
use Rattle.wt_tiles.specs.Glyphs.{glyph_of}
use Rattle.wt_tiles.specs.Tiles.{size, shapes, parts, tiles}
use Rattle.wt_tiles.specs.Urls.{is_word}
use Rattle.wt_beside_laws.specs.Content.{AreKept}
use Rattle.wt_beside_laws.specs.Cuts.{own_glyphs, ends_word}
use Rattle.wt_beside_laws.specs.Flat.{IsFlat, AreFlat, IsFlatContent}
use Rattle.wt_beside_laws.specs.Commented.{IsHeld, EndsAsSaid}
use Rattle.wt_beside_laws.specs.Lines.{AreCharacters, AreUnbroken}
use Rattle.wt_beside_laws.specs.Nodes.{AllStayOpen}
use Rattle.wt_beside_laws.specs.Led.{AreMarksLed}
use Rattle.wt_beside_laws.specs.PageSigns.{ends_break, form_sign, tile_signs, signs_of_tiles, line_signs, signs_of_lines, IsFlatForm, IsFlatTile, AreFlatTiles, HasNoBreak, AreFlatLines}
use Rattle.wt_beside_laws.specs.Stood.{IsTileOf, AreStood, things}
use Rattle.wt_beside_laws.proofs.Each.{Each}
use Rattle.wt_beside_laws.proofs.PageSigns.{flat_nodes, flat_meet, lines_stood, none_take, none_drop}
use Rattle.wt_beside_laws.proofs.SentNodes.{things_append, no_things}
use Rattle.wt_beside_laws.specs.NodeItems.{node_items}

-- ---- what holds of each node

both : (P : Thing → Type 0) (ts us : List Thing) → Each P ts → Each P us → Each P (ts ++ us)
both P [] us h k = k
both P (t ∷ ts) us h k = (h.0, both P ts us h.1 k)

-- its source stands so whatever is written behind it
abbrev pub Kept : Thing → Type 0
Kept t = IsHeld t.source × EndsAsSaid t.role t.source

pub kept_each : (signs : List ContentSign) → AreKept signs → Each Kept (things signs)
kept_each [] h = tt
kept_each (letter c ∷ after) h = kept_each after h
kept_each (thing t ∷ after) h = (h.0, kept_each after h.1)

pub each_kept : (signs : List ContentSign) → Each Kept (things signs) → AreKept signs
each_kept [] h = tt
each_kept (letter c ∷ after) h = each_kept after h
each_kept (thing t ∷ after) h = (h.0, each_kept after h.1)

-- it doesn't go on over the end of its line
abbrev pub Unbroken : Thing → Type 0
Unbroken t = IsUnbroken (node_items t.source)

pub each_unbroken : (signs : List ContentSign) → Each Unbroken (things signs) → AreUnbroken signs
each_unbroken [] h = tt
each_unbroken (letter c ∷ after) h = each_unbroken after h
each_unbroken (thing t ∷ after) h = (h.0, each_unbroken after h.1)

-- it is no style delimiter
abbrev Flat : Thing → Type 0
Flat t = IsFlat t.role

each_flat : (signs : List ContentSign) → Each Flat (things signs) → AreFlat signs
each_flat [] h = tt
each_flat (letter c ∷ after) h = each_flat after h
each_flat (thing t ∷ after) h = (h.0, each_flat after h.1)

pub flat_role : (r : Role) (k : TileKind) → IsTileOf r k → IsFlat r
flat_role Link k h = tt
flat_role External k h = tt
flat_role (Bare ends) k h = tt
flat_role Switch k h = tt
flat_role Toggle k h = absurd h
flat_role (Mark ends began) k h = tt
flat_role (Group g) k h = tt
flat_role Function k h = tt
flat_role Node k h = tt

flat_each : (a : Bool) (signs : List ContentSign) → AreStood a signs → Each Flat (things signs)
flat_each a [] h = tt
flat_each a (letter c ∷ after) h = flat_each (is_word c) after h
flat_each a (thing t ∷ after) h = (flat_role t.role h.0.shape.kind h.0.tile, flat_each (ends_word a (own_glyphs t)) after h.1)

-- ---- of lines of a page

unbroken : (xs : List Item) → HasNoBreak xs → IsUnbroken xs
unbroken [] h = tt
unbroken (char o b ∷ xs) h = (h.0, unbroken xs h.1)
unbroken (whole f o bs ∷ xs) h = (refl, unbroken xs h.1)

form_unbroken : (k : TileKind) (began : Bool) (at : ℕ) (xs : List Item) → IsFlatForm xs → HasNoBreak xs → Each Unbroken (things (form_sign k began at xs))
form_unbroken k began at xs f h = (subst IsUnbroken (sym f.alone) (unbroken xs h), tt)

tile_unbroken : (k : TileKind) (began : Bool) (at : ℕ) (xs : List Item) → IsFlatTile k xs → HasNoBreak xs → Each Unbroken (things (tile_signs k began at xs))
tile_unbroken kind.Link began at xs f h = form_unbroken kind.Link began at xs f h
tile_unbroken kind.Category began at xs f h = form_unbroken kind.Category began at xs f h
tile_unbroken kind.Media began at xs f h = form_unbroken kind.Media began at xs f h
tile_unbroken kind.ExtLink began at xs f h = form_unbroken kind.ExtLink began at xs f h
tile_unbroken kind.BareUrl began at xs f h = form_unbroken kind.BareUrl began at xs f h
tile_unbroken kind.Br began at xs f h = form_unbroken kind.Br began at xs f h
tile_unbroken kind.Pair began at xs f h = form_unbroken kind.Pair began at xs f h
tile_unbroken kind.TagIsland began at xs f h = form_unbroken kind.TagIsland began at xs f h
tile_unbroken kind.Switch began at xs f h = form_unbroken kind.Switch began at xs f h
tile_unbroken kind.Atom began at xs f h = form_unbroken kind.Atom began at xs f h
tile_unbroken kind.Mark began at xs f h = form_unbroken kind.Mark began at xs f h
tile_unbroken kind.Chars began at xs f h = subst (Each Unbroken) (sym (no_things (chars (sources xs)))) tt

tiles_unbroken : (ws : List Shape) (began : Bool) (at : ℕ) (xs : List Item) → AreFlatTiles (parts ws xs) → HasNoBreak xs
    → Each Unbroken (things (signs_of_tiles began at (parts ws xs)))
tiles_unbroken [] began at xs f h = tt
tiles_unbroken (w ∷ ws) began at xs f h =
    let ys : List Item = take (size w) xs in
    let more : List ContentSign = signs_of_tiles (ends_break (sources ys)) (at + length (sources ys)) (parts ws (drop (size w) xs)) in
    subst (Each Unbroken) (sym (things_append (tile_signs w.kind began at ys) more))
    (both Unbroken (things (tile_signs w.kind began at ys)) (things more) (tile_unbroken w.kind began at ys f.0 (none_take (size w) xs h))
    (tiles_unbroken ws (ends_break (sources ys)) (at + length (sources ys)) (drop (size w) xs) f.1 (none_drop (size w) xs h)))

line_unbroken : (at : ℕ) (xs : List Item) → AreFlatTiles (tiles in_line xs) → HasNoBreak xs → Each Unbroken (things (line_signs at xs))
unfolding tiles
line_unbroken at xs f h = tiles_unbroken (shapes in_line (map glyph_of xs)) true at xs f h

pub lines_unbroken : (at : ℕ) (ls : List (List Item)) → AreFlatLines ls → Each Unbroken (things (signs_of_lines at ls))
lines_unbroken at [] h = tt
lines_unbroken at (xs ∷ []) h = line_unbroken at xs h.1 h.0
lines_unbroken at (xs ∷ ys ∷ ls) h =
    let more : List ContentSign = signs_of_lines (at + length (sources xs) + 1) (ys ∷ ls) in
    subst (Each Unbroken) (sym (things_append (line_signs at xs) (letter 10 ∷ more)))
    (both Unbroken (things (line_signs at xs)) (things more) (line_unbroken at xs h.1 h.0) (lines_unbroken (at + length (sources xs) + 1) (ys ∷ ls) h.2))

-- ---- the content

pub flat_content : (s : Setting) (ls : List (List Item)) (at : ℕ) (signs : List ContentSign) → s.within ≡ false → AreFlatLines ls → AreKept (signs_of_lines at ls)
    → AreCharacters signs → AreMarksLed s.place signs → things signs ≡ things (signs_of_lines at ls) → AllStayOpen s [] signs → IsFlatContent s signs
flat_content s ls at signs block flat kept characters led same unclosed = record {
  of_block = block;
  characters = characters;
  kept = each_kept signs (subst (Each Kept) (sym same) (kept_each (signs_of_lines at ls) kept));
  nodes = flat_nodes ls at signs flat same;
  unbroken = each_unbroken signs (subst (Each Unbroken) (sym same) (lines_unbroken at ls flat));
  flat = each_flat signs (subst (Each Flat) (sym same) (flat_each false (signs_of_lines at ls) (lines_stood at ls flat)));
  led = led;
  meet = flat_meet s ls at signs flat same unclosed;
}

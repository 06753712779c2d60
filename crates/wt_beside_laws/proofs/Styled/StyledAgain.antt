-- The lines that are written for a content with styles are flat lines of a page again.
use Rattle.std.proofs.Common.{arith, ◌≡◌, ℕ, ◌+◌, ◌==◌, Bool, true, false, not, Option, List, [], ◌∷◌, ◌++◌, length, map, refl, sym, ap, ◌∙◌, subst, append-nil}
use Rattle.std.specs.Prelude.{◌||◌, if◌then◌else◌}
use Rattle.std.specs.Str.{IsUtf8}
use Rattle.std.proofs.lemmas.Str.{IsUtf8-append, IsUtf8-encode, encode_ascii}
use Rattle.wt_span.specs.Items.{Item, sources}
use Rattle.wt_guards.specs.Content.{ContentSign, letter, thing}
use Rattle.wt_guards.specs.Guards.{Setting, is_guarded, spelled}
use Rattle.wt_guards.specs.Letters.{is_escaped}
use Rattle.wt_guards.proofs.Escapes.{escapable}
use Rattle.wt_expand.specs.PageItems.{page_items}
use Rattle.wt_lines.specs.Lines.{lines}
use Rattle.wt_lines.proofs.LineLaws.{lines_are}
use Rattle.wt_tiles.specs.declared.glyph.Glyph.{Glyph}
use Rattle.wt_tiles.specs.declared.shape.Shape.{Shape}
use Rattle.wt_tiles.specs.Contexts.{in_line}
use Rattle.wt_tiles.specs.Glyphs.{glyph_of, byte_glyphs}
use Rattle.wt_tiles.specs.Tiles.{Cut, closed, shapes, parts as tile_parts, tiles}
use Rattle.wt_tiles.proofs.Joining.{tiles_are}
use Rattle.wt_text_edit_laws.specs.LonePages.{page_chars}
use Rattle.wt_beside_laws.specs.Content.{AreKept, guard_items, letter_items}
use Rattle.wt_beside_laws.specs.Cuts.{add_chars, own_glyphs, own_form, add_node, guard_cut, letter_cut}
use Rattle.wt_beside_laws.specs.Commented.{IsHeld}
use Rattle.wt_beside_laws.specs.Lines.{AreCharacters, line_items, later_lines, content_lines}
use Rattle.wt_beside_laws.specs.Nests.{marks}
use Rattle.wt_beside_laws.specs.Nodes.{AreNodes, AllMeet}
use Rattle.wt_beside_laws.proofs.Marks.Unjoined.{styled_read}
use Rattle.wt_beside_laws.specs.PageBlocks.{AreShut}
use Rattle.wt_beside_laws.specs.PageSigns.{line_signs, signs_of_lines, AreFlatTiles, AreFlatLines}
use Rattle.wt_beside_laws.specs.Styled.{StyledContent, finished, sign, styled, mark_source, delimiter, signs_before, signs_in, signs_past, AreNested, IsStyledContent}
use Rattle.wt_beside_laws.proofs.FlatAgain.{EachSource, so_both, HoldsOfPut, put_kept, IsShut, put_shut, FlatCut, FlatShapes, closed_flat, chars_before, none_flat, guard_flat, letter_flat, letter_by, node_flat, Unbroken, unbroken_lines, from_kept, to_kept, lines_tied, from_shut, to_shut}
use Rattle.wt_beside_laws.proofs.LineItems.{content_lines_are}
use Rattle.wt_beside_laws.proofs.LineParts.{line_cuts}
use Rattle.wt_beside_laws.proofs.LineTiles.{line_cut}
use Rattle.wt_beside_laws.proofs.Styled.StyledLines.{nodes_behind, within_style, mark_items, mark_glyphs, no_form}
use Rattle.wt_beside_laws.proofs.Styled.StyledParagraphs.{none_later, meet_behind}
use Rattle.wt_beside_laws.specs.NodeItems.{node_items}

-- ---- a delimiter is characters

ascii_quote : IsUtf8 (39 ∷ [])
ascii_quote = subst IsUtf8 (encode_ascii 39 (omega arith)) (IsUtf8-encode 39 refl)

pub quotes_utf8 : (kind : Bool) → IsUtf8 (mark_source kind)
quotes_utf8 true = IsUtf8-append (39 ∷ []) (39 ∷ 39 ∷ []) ascii_quote (IsUtf8-append (39 ∷ []) (39 ∷ []) ascii_quote ascii_quote)
quotes_utf8 false = IsUtf8-append (39 ∷ []) (39 ∷ []) ascii_quote ascii_quote

marks_are : (kind : Bool) → marks kind ≡ page_chars (mark_source kind)
marks_are true = refl
marks_are false = refl

mark_long : (kind : Bool) → length (mark_source kind) ≡ length (byte_glyphs (mark_source kind))
mark_long true = refl
mark_long false = refl

delimiter_flat : (Q : List ℕ → Type 0) (kind : Bool) (c : Cut) (xs : List Item) → FlatCut Q c xs
    → FlatCut Q (add_node (own_form in_line (map glyph_of (node_items (mark_source kind)))) (length (map glyph_of (node_items (mark_source kind)))) c)
    (node_items (mark_source kind) ++ xs)
delimiter_flat Q kind c xs f =
    let own : List Item = node_items (mark_source kind) in
    subst (λ (gs : List Glyph). FlatCut Q (add_node (own_form in_line gs) (length gs) c) (own ++ xs)) (sym (mark_glyphs kind))
    (subst (λ (o : Option Shape). FlatCut Q (add_node o (length (byte_glyphs (mark_source kind))) c) (own ++ xs)) (sym (no_form kind))
    (subst (λ (n : ℕ). FlatCut Q (add_chars n c) (own ++ xs)) (mark_long kind)
    (subst (λ (ys : List Item). FlatCut Q (add_chars (length (mark_source kind)) c) (ys ++ xs)) (sym (mark_items kind ∙ marks_are kind))
    (chars_before Q (mark_source kind) c xs (quotes_utf8 kind) f))))

-- ---- a line, sign by sign

chars_behind : (t : StyledContent) (after : List ContentSign) → AreCharacters (signs_before t after) → AreCharacters after
chars_behind finished after c = c
chars_behind (sign (letter d) t) after c = chars_behind t after c.1
chars_behind (sign (thing x) t) after c = chars_behind t after c
chars_behind (styled kind opening closing inside t) after c = chars_behind t after (chars_behind inside (delimiter kind closing ∷ signs_before t after) c)

source_behind : (Q : List ℕ → Type 0) (t : StyledContent) (after : List ContentSign) → EachSource Q (signs_before t after) → EachSource Q after
source_behind Q finished after k = k
source_behind Q (sign (letter d) t) after k = source_behind Q t after k
source_behind Q (sign (thing x) t) after k = source_behind Q t after k.1
source_behind Q (styled kind opening closing inside t) after k =
    source_behind Q t after (source_behind Q inside (delimiter kind closing ∷ signs_before t after) k.1).1

styled_flat : (Q : List ℕ → Type 0) (p : HoldsOfPut Q) (s : Setting) (bold italic : Bool) (t : StyledContent) (before after : List ContentSign)
    → AreCharacters (signs_before t after) → EachSource Q (signs_before t after) → AreNodes (signs_before t after) → AreNested bold italic t
    → FlatCut Q (line_cut in_line s (signs_past t before) after) (line_items s (signs_past t before) after)
    → FlatCut Q (line_cut in_line s before (signs_before t after)) (line_items s before (signs_before t after))
styled_flat Q p s bold italic finished before after c k n m f = f
styled_flat Q p s bold italic (sign (letter d) t) before after c k n m f =
    let signs : List ContentSign = signs_before t after in
    let e : Bool = is_escaped s.within s.place before d signs in
    let cut : Cut = line_cut in_line s (letter d ∷ before) signs in
    let xs : List Item = line_items s (letter d ∷ before) signs in
    guard_flat Q p (is_guarded s before (letter d ∷ signs)) (if d == 10 then (0, []) else letter_cut e d cut) (if d == 10 then [] else letter_items e d ++ xs)
    (letter_by Q (d == 10) e d cut xs
    (letter_flat Q p e d cut xs c.0 (escapable s.within s.place before d signs) (styled_flat Q p s bold italic t (letter d ∷ before) after c.1 k n m.1 f)))
styled_flat Q p s bold italic (sign (thing x) t) before after c k n m f =
    let signs : List ContentSign = signs_before t after in
    let cut : Cut = line_cut in_line s (thing x ∷ before) signs in
    let xs : List Item = line_items s (thing x ∷ before) signs in
    guard_flat Q p (is_guarded s before (thing x ∷ signs)) (add_node (own_form in_line (own_glyphs x)) (length (own_glyphs x)) cut) (node_items x.source ++ xs)
    (node_flat Q x cut xs m.0 n.0 k.0 (styled_flat Q p s bold italic t (thing x ∷ before) after c k.1 n.1 m.1 f))
styled_flat Q p s bold italic (styled kind opening closing inside t) before after c k n m f =
    let first : List ContentSign = delimiter kind opening ∷ before in
    let signs : List ContentSign = signs_before t after in
    let tail : List ContentSign = delimiter kind closing ∷ signs in
    let past : List ContentSign = signs_past inside first in
    let last : List ContentSign = delimiter kind closing ∷ past in
    let held : List ContentSign = signs_before inside tail in
    let later : FlatCut Q (line_cut in_line s last signs) (line_items s last signs) =
    styled_flat Q p s bold italic t last after (chars_behind inside tail c) (source_behind Q inside tail k.1).1 (nodes_behind inside tail n.1).1 m.2 f in
    let end : FlatCut Q (line_cut in_line s past tail) (line_items s past tail) =
    guard_flat Q p (is_guarded s past tail)
    (add_node (own_form in_line (map glyph_of (node_items (mark_source kind)))) (length (map glyph_of (node_items (mark_source kind)))) (line_cut in_line s last signs))
    (node_items (mark_source kind) ++ line_items s last signs) (delimiter_flat Q kind (line_cut in_line s last signs) (line_items s last signs) later) in
    guard_flat Q p (is_guarded s before (delimiter kind opening ∷ held))
    (add_node (own_form in_line (map glyph_of (node_items (mark_source kind)))) (length (map glyph_of (node_items (mark_source kind)))) (line_cut in_line s first held))
    (node_items (mark_source kind) ++ line_items s first held)
    (delimiter_flat Q kind (line_cut in_line s first held) (line_items s first held)
    (styled_flat Q p s (kind || bold) (not kind || italic) inside first tail c k.1 n.1 m.1 end))

end_flat : (Q : List ℕ → Type 0) (p : HoldsOfPut Q) (s : Setting) (before : List ContentSign) → FlatCut Q (line_cut in_line s before []) (line_items s before [])
end_flat Q p s before =
    subst (FlatCut Q (guard_cut (is_guarded s before []) (0, []))) (append-nil (guard_items (is_guarded s before [])))
    (guard_flat Q p (is_guarded s before []) (0, []) [] (none_flat Q))

-- ---- lines

-- its forms stay, and its sources are so
record StyledLine (Q : List ℕ → Type 0) (xs : List Item) : Type 0 where
  tiles : AreFlatTiles (tiles in_line xs)
  kept : (at : ℕ) → EachSource Q (line_signs at xs)

abbrev StyledLines : (List ℕ → Type 0) → List (List Item) → Type 0
StyledLines Q [] = Unit {0}
StyledLines Q (l ∷ ls) = StyledLine Q l × StyledLines Q ls

-- what is known of the signs behind a place
record IsKnown (Q : List ℕ → Type 0) (s : Setting) (before : List ContentSign) (t : StyledContent) : Type 0 where
  typed : AreCharacters (signs_before t [])
  source : EachSource Q (signs_before t [])
  nodes : AreNodes (signs_before t [])
  nested : AreNested false false t
  meet : AllMeet s before (signs_before t []) []

one_line : (Q : List ℕ → Type 0) (p : HoldsOfPut Q) (s : Setting) (before : List ContentSign) (t : StyledContent) → IsKnown Q s before t
    → StyledLine Q (line_items s before (signs_before t []))
unfolding shapes
one_line Q p s before t k =
    let signs : List ContentSign = signs_before t [] in
    let xs : List Item = line_items s before signs in
    let cut : Cut = line_cut in_line s before signs in
    let is : tile_parts (closed cut.0 cut.1) xs ≡ tiles in_line xs =
    ap (λ (d : Cut). tile_parts (closed d.0 d.1) xs) (sym (line_cuts s before signs k.nodes k.meet)) ∙ sym (tiles_are in_line xs) in
    let g : FlatShapes Q (tiles in_line xs) =
    subst (FlatShapes Q) is (closed_flat Q cut xs (styled_flat Q p s false false t before [] k.typed k.source k.nodes k.nested (end_flat Q p s (signs_past t before)))) in
    record { tiles = g.tiles; kept = g.kept true }

later_line : (Q : List ℕ → Type 0) (b : Bool) (l : List Item) (ls : List (List Item)) → StyledLine Q l → StyledLines Q ls → StyledLines Q (if b then l ∷ ls else ls)
later_line Q true l ls h g = (h, g)
later_line Q false l ls h g = g

later_flat : (Q : List ℕ → Type 0) (p : HoldsOfPut Q) (s : Setting) (before : List ContentSign) (t : StyledContent) → IsKnown Q s before t
    → StyledLines Q (later_lines s before (signs_before t []))
later_flat Q p s before finished k = tt
later_flat Q p s before (sign (letter d) t) k =
    let more : IsKnown Q s (letter d ∷ before) t =
    record { typed = k.typed.1; source = k.source; nodes = k.nodes; nested = k.nested.1; meet = k.meet.2 } in
    later_line Q (d == 10) (line_items s (letter d ∷ before) (signs_before t [])) (later_lines s (letter d ∷ before) (signs_before t []))
    (one_line Q p s (letter d ∷ before) t more) (later_flat Q p s (letter d ∷ before) t more)
later_flat Q p s before (sign (thing x) t) k =
    later_flat Q p s (thing x ∷ before) t (record { typed = k.typed; source = k.source.1; nodes = k.nodes.1; nested = k.nested.1; meet = k.meet.2 })
later_flat Q p s before (styled kind opening closing inside t) k =
    let first : List ContentSign = delimiter kind opening ∷ before in
    let tail : List ContentSign = delimiter kind closing ∷ signs_before t [] in
    subst (StyledLines Q) (sym (none_later s (kind || false) (not kind || false) inside first tail k.nested.1 (within_style kind false false)))
    (later_flat Q p s (delimiter kind closing ∷ signs_past inside first) t
    (record {
      typed = chars_behind inside tail k.typed;
      source = (source_behind Q inside tail k.source.1).1;
      nodes = (nodes_behind inside tail k.nodes.1).1;
      nested = k.nested.2;
      meet = (meet_behind s inside first tail k.meet.2).2;
    }))

all_styled : (Q : List ℕ → Type 0) (p : HoldsOfPut Q) (s : Setting) (t : StyledContent) → IsStyledContent s t → EachSource Q (signs_in t)
    → StyledLines Q (content_lines s (signs_in t))
all_styled Q p s t h q =
    let k : IsKnown Q s [] t = record { typed = h.characters; source = q; nodes = h.nodes; nested = h.nested; meet = h.meet } in
    (one_line Q p s [] t k, later_flat Q p s [] t k)

-- ---- in other words

all_unbroken : (s : Setting) (t : StyledContent) → IsStyledContent s t → Unbroken (content_lines s (signs_in t))
all_unbroken s t h =
    let xs : List Item = page_items (spelled s (signs_in t)) in
    subst Unbroken (content_lines_are s (signs_in t) (styled_read s t h) h.unbroken) (unbroken_lines (lines xs) xs (lines_are xs))

flat_lines : (Q : List ℕ → Type 0) (ls : List (List Item)) → Unbroken ls → StyledLines Q ls → AreFlatLines ls
flat_lines Q [] b f = tt
flat_lines Q (l ∷ ls) b f = (b.0, f.0.tiles, flat_lines Q ls b.1 f.1)

so_lines : (Q : List ℕ → Type 0) (at : ℕ) (ls : List (List Item)) → StyledLines Q ls → EachSource Q (signs_of_lines at ls)
so_lines Q at [] f = tt
so_lines Q at (l ∷ []) f = f.0.kept at
so_lines Q at (l ∷ m ∷ ls) f =
    so_both Q (line_signs at l) (letter 10 ∷ signs_of_lines (at + length (sources l) + 1) (m ∷ ls)) (f.0.kept at)
    (so_lines Q (at + length (sources l) + 1) (m ∷ ls) f.1)

pub again_each : (Q : List ℕ → Type 0) (p : HoldsOfPut Q) (at : ℕ) (s : Setting) (t : StyledContent) → IsStyledContent s t → EachSource Q (signs_in t)
    → EachSource Q (signs_of_lines at (content_lines s (signs_in t)))
again_each Q p at s t h q = so_lines Q at (content_lines s (signs_in t)) (all_styled Q p s t h q)

pub again_lines : (s : Setting) (t : StyledContent) → IsStyledContent s t → AreFlatLines (content_lines s (signs_in t))
again_lines s t h =
    flat_lines IsHeld (content_lines s (signs_in t)) (all_unbroken s t h) (all_styled IsHeld put_kept s t h (from_kept (signs_in t) h.kept))

pub again_kept : (at : ℕ) (s : Setting) (t : StyledContent) → IsStyledContent s t → AreKept (signs_of_lines at (content_lines s (signs_in t)))
again_kept at s t h =
    to_kept (signs_of_lines at (content_lines s (signs_in t))) (lines_tied at (content_lines s (signs_in t)))
    (so_lines IsHeld at (content_lines s (signs_in t)) (all_styled IsHeld put_kept s t h (from_kept (signs_in t) h.kept)))

pub again_shut : (at : ℕ) (s : Setting) (t : StyledContent) → IsStyledContent s t → AreShut (signs_in t) → AreShut (signs_of_lines at (content_lines s (signs_in t)))
again_shut at s t h k =
    to_shut (signs_of_lines at (content_lines s (signs_in t)))
    (so_lines IsShut at (content_lines s (signs_in t)) (all_styled IsShut put_shut s t h (from_shut (signs_in t) k)))

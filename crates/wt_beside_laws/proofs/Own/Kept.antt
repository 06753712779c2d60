-- The content of a paragraph or a heading of the page: its lines are flat, and the source of each node in it is UTF-8 and stands whatever is written behind it.
use Rattle.std.proofs.Common.{arith, ◌≡◌, ℕ, zero, suc, ◌+◌, ◌<◌, ◌≤◌, Bool, true, List, [], ◌∷◌, ◌++◌, length, refl, sym, ap, ◌∙◌, subst, append_assoc, append-nil}
use Rattle.std.specs.List.{AllByRecursion}
use Rattle.std.specs.Str.{IsUtf8}
use Rattle.std.proofs.lemmas.Bool.{eqb-true}
use Rattle.wt_span.specs.Items.{Item, char, whole, sources}
use Rattle.wt_expand.specs.PageItems.{page_items}
use Rattle.wt_guards.specs.Content.{ContentSign, letter, thing}
use Rattle.wt_lines.specs.Lines.{lines, AreLines, is_break_item}
use Rattle.wt_lines.proofs.LineLaws.{lines_are}
use Rattle.wt_page_round_trip.proofs.OfPage.{IsPageItem, ArePageItems, page_utf8}
use Rattle.wt_page_round_trip.proofs.PageLines.{all_left, all_right}
use Rattle.wt_page_round_trip.proofs.TextItems.{BeginsLow, EndsLow, cut_items_before, cut_after}
use Rattle.wt_page_round_trip.proofs.TileTexts.{IsPageTile, tiles_good}
use Rattle.wt_tiles.specs.declared.shape.Shape.{Shape}
use Rattle.wt_tiles.specs.declared.shape.TileKind.{TileKind}
use Rattle.wt_tiles.specs.declared.shape.TileKind.TheVariants as kind
use Rattle.wt_tiles.specs.Contexts.{in_line}
use Rattle.wt_tiles.specs.Cutting.{joined}
use Rattle.wt_tiles.specs.Tiles.{tiles}
use Rattle.wt_tiles.proofs.Joining.{tiles_join}
use Rattle.wt_text_edit_laws.specs.Contents.{IsContent}
use Rattle.wt_text_edit_laws.specs.LonePages.{page_chars}
use Rattle.wt_text_edit_laws.specs.NoCalls.{CallsNothing}
use Rattle.wt_text_edit_laws.specs.TextBlocks.{TextBlock, a_paragraph, a_heading, source_of, block_items}
use Rattle.wt_text_edit_laws.specs.TypedHeadings.{equals, opening, closing_items}
use Rattle.wt_text_edit_laws.proofs.Blocks.BlocksAgain.{framed_utf8}
use Rattle.wt_text_edit_laws.proofs.Blocks.BlockReading.{AreQuiet, each_quiet, opening_quiet, quiet_joined, run_quiet, blanks_quiet}
use Rattle.wt_text_edit_laws.proofs.Headings.HeadingRows.{inside_unbroken}
use Rattle.wt_beside_laws.specs.Commented.{IsHeld}
use Rattle.wt_beside_laws.specs.EndedNodes.{AreEndedNodes}
use Rattle.wt_beside_laws.specs.FlatBlocks.{lines_in, begins_at, signs_in}
use Rattle.wt_beside_laws.specs.NodeItems.{node_items}
use Rattle.wt_beside_laws.specs.Nodes.{AreNodes}
use Rattle.wt_beside_laws.specs.PageBlocks.{AreShut}
use Rattle.wt_beside_laws.specs.PageSigns.{ends_break, tile_signs, signs_of_tiles, signs_of_lines, line_signs, IsFlatTile, AreFlatTiles, HasNoBreak, AreFlatLines}
use Rattle.wt_beside_laws.specs.StyledIn.{IsStyledIn}
use Rattle.wt_beside_laws.proofs.FlatAgain.{EachSource, tile_so, so_both, no_break, to_kept, lines_tied}
use Rattle.wt_beside_laws.proofs.FlatContents.{each_unbroken, lines_unbroken}
use Rattle.wt_beside_laws.specs.Lines.{AreUnbroken}
use Rattle.wt_beside_laws.proofs.HeldLines.{heading_break}
use Rattle.wt_beside_laws.proofs.Made.OwnPages.{own_frame, page_items_of}
use Rattle.wt_beside_laws.proofs.Made.Written.{to_utf8}
use Rattle.wt_beside_laws.proofs.PageSigns.{flat_nodes}
use Rattle.wt_beside_laws.proofs.Styled.OldShut.{content_shut}
use Rattle.wt_beside_laws.proofs.Own.Alone.{alone}
use Rattle.wt_beside_laws.proofs.Own.Held.{node_held}
use Rattle.wt_beside_laws.proofs.Own.Reading.{no_breaks}

-- ---- a tile

tile_flat : (k : TileKind) (xs : List Item) → node_items (sources xs) ≡ xs → IsUtf8 (sources xs) → IsFlatTile k xs
tile_flat kind.Link xs a u = record { alone = a }
tile_flat kind.Category xs a u = record { alone = a }
tile_flat kind.Media xs a u = record { alone = a }
tile_flat kind.ExtLink xs a u = record { alone = a }
tile_flat kind.BareUrl xs a u = record { alone = a }
tile_flat kind.Br xs a u = record { alone = a }
tile_flat kind.Pair xs a u = record { alone = a }
tile_flat kind.TagIsland xs a u = record { alone = a }
tile_flat kind.Switch xs a u = record { alone = a }
tile_flat kind.Atom xs a u = record { alone = a }
tile_flat kind.Mark xs a u = record { alone = a }
tile_flat kind.Chars xs a u = u

tiles_flat : (q : List ℕ) (before behind : List Item) (ps : List (Shape × List Item)) → page_items q ≡ before ++ (joined ps ++ behind) → HasNoBreak (joined ps)
    → AllByRecursion (IsPageTile in_line) ps → AreFlatTiles ps
tiles_flat q before behind [] e n u = tt
tiles_flat q before behind ((w, xs) ∷ ps) e n u =
    let here : page_items q ≡ before ++ (xs ++ (joined ps ++ behind)) = e ∙ ap (λ (ys : List Item). before ++ ys) (append_assoc xs (joined ps) behind) in
    let there : page_items q ≡ (before ++ xs) ++ (joined ps ++ behind) = here ∙ sym (append_assoc before xs (joined ps ++ behind)) in
    let cut = no_breaks xs (joined ps) n in (
      tile_flat w.kind xs (alone q before xs (joined ps ++ behind) here cut.0) (page_utf8 xs u.0.items),
      tiles_flat q (before ++ xs) behind ps there cut.1 u.1,
    )

tiles_utf8 : (began : Bool) (at : ℕ) (ps : List (Shape × List Item)) → AllByRecursion (IsPageTile in_line) ps → EachSource IsUtf8 (signs_of_tiles began at ps)
tiles_utf8 began at [] u = tt
tiles_utf8 began at ((w, xs) ∷ ps) u =
    so_both IsUtf8 (tile_signs w.kind began at xs) (signs_of_tiles (ends_break (sources xs)) (at + length (sources xs)) ps)
    (tile_so IsUtf8 w.kind began at xs (page_utf8 xs u.0.items))
    (tiles_utf8 (ends_break (sources xs)) (at + length (sources xs)) ps u.1)

-- ---- a line

record LineOwn (at : ℕ) (xs : List Item) : Type 0 where
  flat : AreFlatTiles (tiles in_line xs)
  utf8 : EachSource IsUtf8 (line_signs at xs)

line_own : (q : List ℕ) (before xs behind : List Item) (at : ℕ) → page_items q ≡ before ++ (xs ++ behind) → HasNoBreak xs → ArePageItems xs → LineOwn at xs
line_own q before xs behind at e n p =
    let good : AllByRecursion (IsPageTile in_line) (tiles in_line xs) = tiles_good in_line xs p in
    let is : joined (tiles in_line xs) ≡ xs = tiles_join in_line xs in
    record {
      flat = tiles_flat q before behind (tiles in_line xs) (e ∙ ap (λ (ys : List Item). before ++ (ys ++ behind)) (sym is)) (subst HasNoBreak (sym is) n) good;
      utf8 = tiles_utf8 true at (tiles in_line xs) good;
    }

-- ---- lines

break_low : (x : Item) → is_break_item x ≡ true → (BeginsLow (x ∷ [])) × (EndsLow (x ∷ []))
break_low (char o b) e = let f : b ≡ 10 = eqb-true b 10 e in (omega (arith, f), omega (arith, f))
break_low (whole f o bs) e = absurd (cc)

begins_low : (x : Item) (xs : List Item) → BeginsLow (x ∷ []) → BeginsLow (x ∷ xs)
begins_low (char o b) xs h = h
begins_low (whole f o bs) xs h = h

-- what is before a line break, and what is behind it
cut_line : (l : List Item) (b : Item) (others : List Item) → is_break_item b ≡ true → ArePageItems (l ++ b ∷ others) → ArePageItems l × ArePageItems others
cut_line l b others e p =
    let low = break_low b e in
    let front = cut_items_before [] l (b ∷ others) (begins_low b others low.0) p.texts in
    let back = cut_after (b ∷ []) others low.1 front.1 in (
      record { texts = front.0; page = all_left IsPageItem l (b ∷ others) p.page },
      record { texts = back.1; page = all_right IsPageItem (b ∷ []) others (all_right IsPageItem l (b ∷ others) p.page) },
    )

record LinesOwn (at : ℕ) (ls : List (List Item)) : Type 0 where
  flat : AreFlatLines ls
  utf8 : EachSource IsUtf8 (signs_of_lines at ls)

lines_own : (q : List ℕ) (before : List Item) (ls : List (List Item)) (xs : List Item) (at : ℕ) → AreLines ls xs → page_items q ≡ before ++ xs
    → ArePageItems xs → LinesOwn at ls
lines_own q before [] xs at a e p = absurd a
lines_own q before (x ∷ []) xs at a e p =
    let here : page_items q ≡ before ++ (x ++ []) = e ∙ ap (λ (ys : List Item). before ++ ys) (a.1 ∙ sym (append-nil x)) in
    let own = line_own q before x [] at here (no_break x a.0) (subst ArePageItems a.1 p) in
    record { flat = (no_break x a.0, own.flat, tt); utf8 = own.utf8 }
lines_own q before (x ∷ m ∷ ls) xs at a e p =
    let next : ℕ = at + length (sources x) + 1 in
    let here : page_items q ≡ before ++ (x ++ (a.1 ∷ a.2)) = e ∙ ap (λ (ys : List Item). before ++ ys) a.4 in
    let there : page_items q ≡ (before ++ (x ++ (a.1 ∷ []))) ++ a.2 =
    here ∙ ap (λ (ys : List Item). before ++ ys) (sym (append_assoc x (a.1 ∷ []) a.2)) ∙ sym (append_assoc before (x ++ (a.1 ∷ [])) a.2) in
    let cut = cut_line x a.1 a.2 a.3 (subst ArePageItems a.4 p) in
    let own = line_own q before x (a.1 ∷ a.2) at here (no_break x a.0) cut.0 in
    let more = lines_own q (before ++ (x ++ (a.1 ∷ []))) (m ∷ ls) a.2 next a.5 there cut.1 in
    record {
      flat = (no_break x a.0, own.flat, more.flat);
      utf8 = so_both IsUtf8 (line_signs at x) (letter 10 ∷ signs_of_lines next (m ∷ ls)) own.utf8 more.utf8;
    }

-- ---- a content

quiet_low : (b : ℕ) (bs : List ℕ) → AreQuiet (b ∷ bs) → b < 128
quiet_low b bs h = each_quiet (λ (c : ℕ). c < 128) (omega arith) (omega arith) (omega arith) b h.0

chars_low : (bs : List ℕ) → AreQuiet bs → EndsLow (page_chars bs)
chars_low [] h = tt
chars_low (b ∷ []) h = quiet_low b [] h
chars_low (b ∷ c ∷ cs) h = chars_low (c ∷ cs) h.1

first_low : (bs : List ℕ) (xs : List Item) → 0 < length bs → AreQuiet bs → BeginsLow (page_chars bs ++ xs)
first_low [] xs some h = absurd (omega (arith, some))
first_low (b ∷ bs) xs some h = quiet_low b bs h

some_signs : (bs : List ℕ) (n : ℕ) → 1 ≤ n → 0 < length (bs ++ equals n)
some_signs [] zero some = absurd (omega (arith, some))
some_signs [] (suc n) some = omega arith
some_signs (b ∷ bs) n some = omega arith

own_items : (k : TextBlock) (q : List ℕ) → IsContent k q → CallsNothing (block_items k q) → ArePageItems (page_items q)
own_items a_paragraph q h c = page_items_of q h.utf8 c
own_items (a_heading s) q h c =
    let page : List ℕ = source_of (a_heading s) q in
    let own : List Item = page_items q in
    let all : ArePageItems (page_chars (opening s) ++ (own ++ closing_items s)) =
    subst ArePageItems h.unended (page_items_of page (framed_utf8 (a_heading s) q (own_frame (a_heading s) q h.is) h.utf8) (subst CallsNothing (sym h.unended) c)) in
    let sides = h.is.frame.sides in
    let signs : List ℕ = s.trail ++ equals s.level in
    let quiet : AreQuiet signs = quiet_joined s.trail (equals s.level) (blanks_quiet s.trail sides.trail) (run_quiet s.level) in
    let front = cut_after (page_chars (opening s)) (own ++ closing_items s) (chars_low (opening s) (opening_quiet s sides)) all.texts in
    let back = cut_items_before [] own (closing_items s) (first_low signs (page_items s.rest) (some_signs s.trail s.level sides.some) quiet) front.1 in
    record { texts = back.0; page = all_left IsPageItem own (closing_items s) (all_right IsPageItem (page_chars (opening s)) (own ++ closing_items s) all.page) }

content_own : (k : TextBlock) (q : List ℕ) → IsContent k q → CallsNothing (block_items k q) → LinesOwn (begins_at k) (lines_in k q)
content_own a_paragraph q h c = lines_own q [] (lines (page_items q)) (page_items q) 0 (lines_are (page_items q)) refl (own_items a_paragraph q h c)
content_own (a_heading s) q h c =
    let here : page_items q ≡ [] ++ (page_items q ++ []) = sym (append-nil (page_items q)) in
    let one = heading_break (page_items q) (inside_unbroken s (page_items q) h.is.inside) in
    let own = line_own q [] (page_items q) [] (begins_at (a_heading s)) here one (own_items (a_heading s) q h c) in
    record { flat = (one, own.flat, tt); utf8 = own.utf8 }

-- ---- its nodes

each_held : (signs : List ContentSign) → AreNodes signs → AreShut signs → AreEndedNodes signs → AreUnbroken signs → EachSource IsHeld signs
each_held [] n s e u = tt
each_held (letter c ∷ after) n s e u = each_held after n s e u
each_held (thing t ∷ after) n s e u = (node_held t.role t.source n.0 s.0 e.0 (no_break (node_items t.source) u.0), each_held after n.1 s.1 e.1 u.1)

pub content_styled : (k : TextBlock) (q : List ℕ) → IsContent k q → CallsNothing (block_items k q) → AreEndedNodes (signs_in k q) → IsStyledIn k q
content_styled k q h c e =
    let own = content_own k q h c in
    let signs : List ContentSign = signs_in k q in
    let nodes : AreNodes signs = flat_nodes (lines_in k q) (begins_at k) signs own.flat refl in
    let shut : AreShut signs = content_shut k q h own.flat in
    let unbroken : AreUnbroken signs = each_unbroken signs (lines_unbroken (begins_at k) (lines_in k q) own.flat) in
    record {
      utf8 = h.utf8;
      ended = h.ended;
      unended = h.unended;
      is = h.is;
      calls_nothing = c;
      has_items = h.has_items;
      flat = own.flat;
      kept = to_kept signs (lines_tied (begins_at k) (lines_in k q)) (each_held signs nodes shut e unbroken);
      nodes_utf8 = to_utf8 signs own.utf8;
      shut = shut;
    }

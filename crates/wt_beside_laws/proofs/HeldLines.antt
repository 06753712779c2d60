-- A form of a page whose source stands whatever is written behind it is read by itself as it is in the page. So lines of such forms are flat lines.
use Rattle.std.proofs.Common.{◌≡◌, inl, inr, ℕ, ◌+◌, Bool, true, false, None, List, [], ◌∷◌, ◌++◌, length, refl, sym, ap, ◌∙◌, append-nil, append_assoc}
use Rattle.wt_span.specs.declared.form.ItemForm.TheVariants as form
use Rattle.wt_span.specs.declared.form.Mode.TheVariants.{Page}
use Rattle.wt_span.specs.Items.{Item, char, whole, sources}
use Rattle.wt_annotated.proofs.Widths.{sources_append}
use Rattle.wt_guards.specs.Content.{ContentSign, letter, thing}
use Rattle.wt_lines.specs.Lines.{lines, AreLines}
use Rattle.wt_lines.proofs.LineLaws.{lines_are}
use Rattle.wt_part_laws.specs.Lexer.{lexer}
use Rattle.wt_part_laws.specs.Scans.{after_all}
use Rattle.wt_expand.specs.PageItems.{page_items}
use Rattle.wt_expand.proofs.PageLaws.{page_sources}
use Rattle.wt_tiles.specs.declared.shape.Shape.{Shape}
use Rattle.wt_tiles.specs.declared.shape.TileKind.{TileKind}
use Rattle.wt_tiles.specs.declared.shape.TileKind.TheVariants as kind
use Rattle.wt_tiles.specs.Contexts.{in_line}
use Rattle.wt_tiles.specs.Cutting.{joined}
use Rattle.wt_tiles.specs.Tiles.{tiles}
use Rattle.wt_tiles.proofs.Joining.{tiles_join}
use Rattle.wt_text_edit_laws.specs.Contents.{IsContentOf}
use Rattle.wt_text_edit_laws.specs.TextBlocks.{TextBlock, a_paragraph, a_heading}
use Rattle.wt_text_edit_laws.specs.TypedHeadings.{NoBreaks}
use Rattle.wt_text_edit_laws.proofs.Between.Fronts.{items_from, first_from, reads_after}
use Rattle.wt_text_edit_laws.proofs.Cuts.ItemCuts.{page_cut, cut_from, page_from}
use Rattle.wt_text_edit_laws.proofs.Headings.HeadingRows.{inside_unbroken}
use Rattle.wt_text_edit_laws.proofs.Prose.InFront.{reads_nothing}
use Rattle.wt_beside_laws.specs.Commented.{IsComment, IsCommentLine, IsReadInLine, IsHeld}
use Rattle.wt_beside_laws.specs.Content.{AreKept}
use Rattle.wt_beside_laws.specs.FlatBlocks.{lines_in, signs_in}
use Rattle.wt_beside_laws.specs.HeldLines.{IsHeldForm, IsHeldTile, AreHeldTiles, AreHeldLines}
use Rattle.wt_beside_laws.specs.Kept.{IsKept}
use Rattle.wt_beside_laws.specs.NodeItems.{node_items}
use Rattle.wt_beside_laws.specs.PageSigns.{ends_break, form_sign, tile_signs, signs_of_tiles, signs_of_lines, IsFlatForm, IsFlatTile, AreFlatTiles, HasNoBreak, AreFlatLines}
use Rattle.wt_beside_laws.proofs.Firm.{kept_reads}
use Rattle.wt_beside_laws.proofs.FlatAgain.{no_break}
use Rattle.wt_beside_laws.proofs.Marks.InLine.{InLine, comment_in}
use Rattle.wt_beside_laws.proofs.Marks.Shown.{comment_node, kept_node, read_node}
use Rattle.wt_beside_laws.proofs.NodeItems.{are_from}

-- ---- a source by itself

kept_from : (a : Bool) (source : List ℕ) → IsKept source → items_from a 0 source ≡ page_items source
kept_from a source h =
    let r = reads_after a (source ++ []) (page_items source ++ []) (kept_reads source h [] [] reads_nothing) in
    ap (items_from a 0) (sym (append-nil source)) ∙ first_from a (source ++ []) ∙ r.items ∙ append-nil (page_items source)

comment_from : (a : Bool) (q : List ℕ) → IsComment q → items_from a 0 (60 ∷ q) ≡ node_items (60 ∷ q)
comment_from true q h = sym (are_from (60 ∷ q))
comment_from false q h =
    let own : List Item = whole form.Comment None (60 ∷ q) ∷ [] in
    let line : InLine ((60 ∷ q) ++ []) (own ++ []) = comment_in q h [] [] (reads_after false [] [] reads_nothing) in
    ap (items_from false 0) (sym (append-nil (60 ∷ q))) ∙ first_from false ((60 ∷ q) ++ []) ∙ line.items ∙ sym (comment_node q h)

read_from : (a : Bool) (source : List ℕ) → IsReadInLine source → items_from a 0 source ≡ node_items source
read_from true source r = sym (are_from source)
read_from false source r = sym (page_from source) ∙ sym (read_node source r)

-- wherever it is read as these items, a line of comments where a line begins
held_from : (a : Bool) (source : List ℕ) (xs : List Item) → IsHeld source → (IsCommentLine source → node_items source ≡ xs) → items_from a 0 source ≡ xs
    → node_items source ≡ xs
held_from a source xs (inl kept) led e = kept_node source kept.0 ∙ sym (kept_from a source kept.0) ∙ e
held_from a source xs (inr (inl comment)) led e =
    ap node_items comment.is ∙ sym (comment_from a comment.others comment.comment) ∙ ap (items_from a 0) (sym comment.is) ∙ e
held_from a source xs (inr (inr (inl line))) led e = led line
held_from a source xs (inr (inr (inr r))) led e = sym (read_from a source r) ∙ e

-- ---- in the page

held_alone : (q : List ℕ) (before xs behind : List Item) → page_items q ≡ before ++ (xs ++ behind) → IsHeld (sources xs)
    → (IsCommentLine (sources xs) → node_items (sources xs) ≡ xs) → node_items (sources xs) ≡ xs
held_alone q before xs behind e h led =
    let bytes : q ≡ sources before ++ sources (xs ++ behind) = sym (page_sources q) ∙ ap sources e ∙ sources_append before (xs ++ behind) in
    let all : page_items (sources before ++ sources (xs ++ behind)) ≡ before ++ (xs ++ behind) = ap page_items (sym bytes) ∙ e in
    let a : Bool = after_all (lexer Page) false (sources before) in
    let rest = page_cut (sources before) (sources (xs ++ behind)) before (xs ++ behind) all refl in
    let own : items_from a 0 (sources xs ++ sources behind) ≡ xs ++ behind = ap (items_from a 0) (sym (sources_append xs behind)) ∙ rest.behind in
    let cut = cut_from a (sources xs) (sources behind) xs behind own refl in
    held_from a (sources xs) xs h led cut.front

-- ---- forms

kept_left : (ss us : List ContentSign) → AreKept (ss ++ us) → AreKept ss
kept_left [] us h = tt
kept_left (letter c ∷ ss) us h = kept_left ss us h
kept_left (thing t ∷ ss) us h = (h.0, kept_left ss us h.1)

kept_right : (ss us : List ContentSign) → AreKept (ss ++ us) → AreKept us
kept_right [] us h = h
kept_right (letter c ∷ ss) us h = kept_right ss us h
kept_right (thing t ∷ ss) us h = kept_right ss us h.1

form_flat : (q : List ℕ) (before xs behind : List Item) (k : TileKind) (began : Bool) (at : ℕ) → page_items q ≡ before ++ (xs ++ behind) → IsHeldForm xs
    → AreKept (form_sign k began at xs) → IsFlatForm xs
form_flat q before xs behind k began at e h kept = record { alone = held_alone q before xs behind e kept.0.0 h.led }

tile_flat : (q : List ℕ) (before xs behind : List Item) (k : TileKind) (began : Bool) (at : ℕ) → page_items q ≡ before ++ (xs ++ behind) → IsHeldTile k xs
    → AreKept (tile_signs k began at xs) → IsFlatTile k xs
tile_flat q before xs behind kind.Link began at e h kept = form_flat q before xs behind kind.Link began at e h kept
tile_flat q before xs behind kind.Category began at e h kept = form_flat q before xs behind kind.Category began at e h kept
tile_flat q before xs behind kind.Media began at e h kept = form_flat q before xs behind kind.Media began at e h kept
tile_flat q before xs behind kind.ExtLink began at e h kept = form_flat q before xs behind kind.ExtLink began at e h kept
tile_flat q before xs behind kind.BareUrl began at e h kept = form_flat q before xs behind kind.BareUrl began at e h kept
tile_flat q before xs behind kind.Br began at e h kept = form_flat q before xs behind kind.Br began at e h kept
tile_flat q before xs behind kind.Pair began at e h kept = form_flat q before xs behind kind.Pair began at e h kept
tile_flat q before xs behind kind.TagIsland began at e h kept = form_flat q before xs behind kind.TagIsland began at e h kept
tile_flat q before xs behind kind.Switch began at e h kept = form_flat q before xs behind kind.Switch began at e h kept
tile_flat q before xs behind kind.Atom began at e h kept = form_flat q before xs behind kind.Atom began at e h kept
tile_flat q before xs behind kind.Mark began at e h kept = form_flat q before xs behind kind.Mark began at e h kept
tile_flat q before xs behind kind.Chars began at e h kept = h

tiles_flat : (q : List ℕ) (before behind : List Item) (ps : List (Shape × List Item)) (began : Bool) (at : ℕ) → page_items q ≡ before ++ (joined ps ++ behind)
    → AreHeldTiles ps → AreKept (signs_of_tiles began at ps) → AreFlatTiles ps
tiles_flat q before behind [] began at e h kept = tt
tiles_flat q before behind ((w, xs) ∷ ps) began at e h kept =
    let own : List ContentSign = tile_signs w.kind began at xs in
    let more : List ContentSign = signs_of_tiles (ends_break (sources xs)) (at + length (sources xs)) ps in
    let here : page_items q ≡ before ++ (xs ++ (joined ps ++ behind)) = e ∙ ap (λ (ys : List Item). before ++ ys) (append_assoc xs (joined ps) behind) in
    let there : page_items q ≡ (before ++ xs) ++ (joined ps ++ behind) = here ∙ sym (append_assoc before xs (joined ps ++ behind)) in (
      tile_flat q before xs (joined ps ++ behind) w.kind began at here h.0 (kept_left own more kept),
      tiles_flat q (before ++ xs) behind ps (ends_break (sources xs)) (at + length (sources xs)) there h.1 (kept_right own more kept),
    )

-- ---- lines

line_flat : (q : List ℕ) (before xs behind : List Item) (at : ℕ) → page_items q ≡ before ++ (xs ++ behind) → AreHeldTiles (tiles in_line xs)
    → AreKept (signs_of_tiles true at (tiles in_line xs)) → AreFlatTiles (tiles in_line xs)
line_flat q before xs behind at e h kept =
    tiles_flat q before behind (tiles in_line xs) true at (e ∙ ap (λ (ys : List Item). before ++ (ys ++ behind)) (sym (tiles_join in_line xs))) h kept

lines_flat : (q : List ℕ) (before : List Item) (ls : List (List Item)) (xs : List Item) (at : ℕ) → AreLines ls xs → page_items q ≡ before ++ xs
    → AreHeldLines ls → AreKept (signs_of_lines at ls) → AreFlatLines ls
lines_flat q before [] xs at a e h kept = absurd a
lines_flat q before (l ∷ []) xs at a e h kept =
    let here : page_items q ≡ before ++ (l ++ []) = e ∙ ap (λ (ys : List Item). before ++ ys) (a.1 ∙ sym (append-nil l)) in
    (no_break l a.0, line_flat q before l [] at here h.0 kept, tt)
lines_flat q before (l ∷ m ∷ ls) xs at a e h kept =
    let own : List ContentSign = signs_of_tiles true at (tiles in_line l) in
    let next : ℕ = at + length (sources l) + 1 in
    let more : List ContentSign = letter 10 ∷ signs_of_lines next (m ∷ ls) in
    let here : page_items q ≡ before ++ (l ++ (a.1 ∷ a.2)) = e ∙ ap (λ (ys : List Item). before ++ ys) a.4 in
    let there : page_items q ≡ (before ++ (l ++ (a.1 ∷ []))) ++ a.2 =
    here ∙ ap (λ (ys : List Item). before ++ ys) (sym (append_assoc l (a.1 ∷ []) a.2)) ∙ sym (append_assoc before (l ++ (a.1 ∷ [])) a.2) in (
      no_break l a.0,
      line_flat q before l (a.1 ∷ a.2) at here h.0 (kept_left own more kept),
      lines_flat q (before ++ (l ++ (a.1 ∷ []))) (m ∷ ls) a.2 next a.5 there h.1 (kept_right own more kept),
    )

-- ---- a content

pub heading_break : (xs : List Item) → NoBreaks xs → HasNoBreak xs
heading_break [] h = tt
heading_break (char o b ∷ xs) h = (h.0, heading_break xs h.1)
heading_break (whole f o bs ∷ xs) h = (tt, heading_break xs h.1)

pub content_flat : (k : TextBlock) (q : List ℕ) → IsContentOf k q → AreHeldLines (lines_in k q) → AreKept (signs_in k q) → AreFlatLines (lines_in k q)
content_flat a_paragraph q i h kept = lines_flat q [] (lines (page_items q)) (page_items q) 0 (lines_are (page_items q)) refl h kept
content_flat (a_heading s) q i h kept =
    let here : page_items q ≡ [] ++ (page_items q ++ []) = sym (append-nil (page_items q)) in
    (heading_break (page_items q) (inside_unbroken s (page_items q) i.inside), line_flat q [] (page_items q) [] _ here h.0 kept, tt)

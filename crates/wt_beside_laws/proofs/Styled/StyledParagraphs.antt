-- A content with styles is one paragraph.
use Rattle.std.proofs.Common.{◌≡◌, ℕ, ◌==◌, Bool, true, false, not, List, [], ◌∷◌, ◌++◌, map, refl, sym, ap, ◌∙◌, subst, append_assoc, append-nil, All}
use Rattle.std.specs.Prelude.{◌||◌, if◌then◌else◌}
use Rattle.wt_span.specs.Items.{Item}
use Rattle.wt_span.specs.Runs.{AreRuns}
use Rattle.wt_span.proofs.RunLaws.{runs_are}
use Rattle.wt_tree.specs.declared.edit_shape.Place.{Place}
use Rattle.wt_tree.specs.declared.edit_shape.Place.TheVariants as place
use Rattle.wt_guards.specs.Content.{ContentSign, letter, thing}
use Rattle.wt_guards.specs.Guards.{Setting, is_guarded, spelled}
use Rattle.wt_guards.specs.Letters.{is_escaped}
use Rattle.wt_expand.specs.PageItems.{page_items}
use Rattle.wt_lines.specs.declared.kind.TheConstants.{MOST_TABLES}
use Rattle.wt_lines.specs.Lines.{full_lines, content, empty_end, goes_on}
use Rattle.wt_lines.proofs.FullLines.{same_lines}
use Rattle.wt_inline.specs.declared.loose.Loose.TheVariants.{Text}
use Rattle.wt_inline.specs.Parts.{Part, node, parts}
use Rattle.wt_context.specs.Line.{line_parts}
use Rattle.wt_page.specs.Rows.{marks_len, rows}
use Rattle.wt_page.specs.Texts.{para_parts, para}
use Rattle.wt_page.specs.Body.{within, blocks, meaning}
use Rattle.wt_text_edit_laws.specs.ParagraphBetween.{EndsApart, EndsParagraph, blocks_in, body_with}
use Rattle.wt_text_edit_laws.specs.ParagraphParts.{break, after_breaks, joined_parts, para_with}
use Rattle.wt_text_edit_laws.proofs.Texts.PlainRows.{text_row}
use Rattle.wt_beside_laws.specs.Content.{guard_items, letter_items}
use Rattle.wt_beside_laws.specs.Led.{BeginsUnled}
use Rattle.wt_beside_laws.specs.Lines.{IsLineOfText, AreLinesOfText, line_items, later_lines}
use Rattle.wt_beside_laws.specs.Nests.{style_tree}
use Rattle.wt_beside_laws.specs.Nodes.{AreNodes, AllMeet}
use Rattle.wt_beside_laws.specs.Styled.{StyledContent, finished, sign, styled, delimiter, signs_before, signs_in, signs_past, AreNested, IsStyledContent, styled_parts}
use Rattle.wt_beside_laws.proofs.FlatLines.{lines_unled}
use Rattle.wt_beside_laws.proofs.LineItems.{content_lines_are}
use Rattle.wt_beside_laws.proofs.LineKinds.{lines_are_text, are_lines_of_text}
use Rattle.wt_beside_laws.proofs.LineParagraphs.{front_all, rest_all, no_end, body_of, body_by}
use Rattle.wt_text_edit_laws.proofs.Paragraphs.LineBlocks.{OwnBreaks, paragraph_rows}
use Rattle.wt_beside_laws.proofs.LineRows.{rows_parts, content_own, later_by, both_by, break_parts}
use Rattle.wt_beside_laws.proofs.LineStands.{ContentLines, lines_by, unbroken_rows, stands_so}
use Rattle.wt_beside_laws.proofs.Styled.StyledLines.{nodes_behind, within_style, styled_line}
use Rattle.wt_beside_laws.proofs.Marks.Commented.{content_alone}
use Rattle.wt_beside_laws.proofs.Marks.Unjoined.{styled_read}
use Rattle.wt_beside_laws.specs.NodeItems.{node_items}

-- ---- the lines behind a place

abbrev later_parts : Setting → List ContentSign → StyledContent → List Part
later_parts s before finished = []
later_parts s before (sign (letter c) t) =
    if c == 10 then parts Text (break ∷ []) ++ (styled_parts true s (letter c ∷ before) t [] ++ later_parts s (letter c ∷ before) t) else later_parts s (letter c ∷ before) t
later_parts s before (sign (thing x) t) = later_parts s (thing x ∷ before) t
later_parts s before (styled kind opening closing inside t) = later_parts s (delimiter kind closing ∷ signs_past inside (delimiter kind opening ∷ before)) t

-- none begins inside a style
pub none_later : (s : Setting) (bold italic : Bool) (t : StyledContent) (before after : List ContentSign) → AreNested bold italic t → (bold || italic) ≡ true
    → later_lines s before (signs_before t after) ≡ later_lines s (signs_past t before) after
none_later s bold italic finished before after k w = refl
none_later s bold italic (sign (letter c) t) before after k w =
    ap (λ (b : Bool). if b then line_items s (letter c ∷ before) (signs_before t after) ∷ later_lines s (letter c ∷ before) (signs_before t after)
    else later_lines s (letter c ∷ before) (signs_before t after)) (k.0 w)
    ∙ none_later s bold italic t (letter c ∷ before) after k.1 w
none_later s bold italic (sign (thing x) t) before after k w = none_later s bold italic t (thing x ∷ before) after k.1 w
none_later s bold italic (styled kind opening closing inside t) before after k w =
    let first : List ContentSign = delimiter kind opening ∷ before in
    none_later s (kind || bold) (not kind || italic) inside first (delimiter kind closing ∷ signs_before t after) k.1 (within_style kind bold italic)
    ∙ none_later s bold italic t (delimiter kind closing ∷ signs_past inside first) after k.2 w

pub meet_behind : (s : Setting) (t : StyledContent) (before after : List ContentSign) → AllMeet s before (signs_before t after) [] → AllMeet s (signs_past t before) after []
meet_behind s finished before after m = m
meet_behind s (sign c t) before after m = meet_behind s t (c ∷ before) after m.2
meet_behind s (styled kind opening closing inside t) before after m =
    let first : List ContentSign = delimiter kind opening ∷ before in
    meet_behind s t (delimiter kind closing ∷ signs_past inside first) after
    (meet_behind s inside first (delimiter kind closing ∷ signs_before t after) m.2).2

later_are : (s : Setting) (before : List ContentSign) (t : StyledContent) → AreNodes (signs_before t []) → AreNested false false t
    → AllMeet s before (signs_before t []) [] → after_breaks (later_lines s before (signs_before t [])) ≡ later_parts s before t
later_are s before finished n k m = refl
later_are s before (sign (letter c) t) n k m =
    let signs : List ContentSign = signs_before t [] in
    later_by (c == 10) (line_items s (letter c ∷ before) signs) (later_lines s (letter c ∷ before) signs) (styled_parts true s (letter c ∷ before) t [])
    (later_parts s (letter c ∷ before) t) (styled_line s (letter c ∷ before) t n k.1 m.2) (later_are s (letter c ∷ before) t n k.1 m.2)
later_are s before (sign (thing x) t) n k m = later_are s (thing x ∷ before) t n.1 k.1 m.2
later_are s before (styled kind opening closing inside t) n k m =
    let first : List ContentSign = delimiter kind opening ∷ before in
    let signs : List ContentSign = signs_before t [] in
    ap after_breaks (none_later s (kind || false) (not kind || false) inside first (delimiter kind closing ∷ signs) k.1 (within_style kind false false))
    ∙ later_are s (delimiter kind closing ∷ signs_past inside first) t (nodes_behind inside (delimiter kind closing ∷ signs) n.1).1 k.2
    (meet_behind s inside first (delimiter kind closing ∷ signs) m.2).2

-- ---- a line and the lines behind it

all_joined : (s : Setting) (before : List ContentSign) (t : StyledContent) → styled_parts true s before t [] ++ later_parts s before t ≡ styled_parts false s before t []
all_joined s before finished = append-nil (parts Text (guard_items (is_guarded s before [])))
all_joined s before (sign (letter c) t) =
    let signs : List ContentSign = signs_before t [] in
    let own : List Part = parts Text (letter_items (is_escaped s.within s.place before c signs) c) in
    let line : List Part = styled_parts true s (letter c ∷ before) t [] in
    let later : List Part = later_parts s (letter c ∷ before) t in
    let guard : List Part = parts Text (guard_items (is_guarded s before (letter c ∷ signs))) in
    append_assoc guard (if c == 10 then [] else own ++ line) (if c == 10 then parts Text (break ∷ []) ++ (line ++ later) else later)
    ∙ ap (λ ps. guard ++ ps)
    (both_by (c == 10) own line later (styled_parts false s (letter c ∷ before) t []) (break_parts s before c signs) (all_joined s (letter c ∷ before) t))
all_joined s before (sign (thing x) t) =
    let own : List Part = line_parts (node_items x.source) in
    let line : List Part = styled_parts true s (thing x ∷ before) t [] in
    let later : List Part = later_parts s (thing x ∷ before) t in
    let guard : List Part = parts Text (guard_items (is_guarded s before (thing x ∷ signs_before t []))) in
    append_assoc guard (own ++ line) later ∙ ap (λ ps. guard ++ ps) (append_assoc own line later ∙ ap (λ ps. own ++ ps) (all_joined s (thing x ∷ before) t))
all_joined s before (styled kind opening closing inside t) =
    let first : List ContentSign = delimiter kind opening ∷ before in
    let last : List ContentSign = delimiter kind closing ∷ signs_past inside first in
    let held : List ContentSign = signs_before inside (delimiter kind closing ∷ signs_before t []) in
    let own : Part = node (style_tree kind (styled_parts false s first inside (delimiter kind closing ∷ signs_before t []))) in
    let guard : List Part = parts Text (guard_items (is_guarded s before (delimiter kind opening ∷ held))) in
    append_assoc guard (own ∷ styled_parts true s last t []) (later_parts s last t) ∙ ap (λ ps. guard ++ (own ∷ ps)) (all_joined s last t)

pub lines_joined : (s : Setting) (before : List ContentSign) (t : StyledContent) → AreNodes (signs_before t []) → AreNested false false t
    → AllMeet s before (signs_before t []) []
    → joined_parts (line_items s before (signs_before t []) ∷ later_lines s before (signs_before t [])) ≡ styled_parts false s before t []
lines_joined s before t n k m =
    ap (λ ps. ps ++ after_breaks (later_lines s before (signs_before t []))) (styled_line s before t n k m)
    ∙ ap (λ ps. styled_parts true s before t [] ++ ps) (later_are s before t n k m) ∙ all_joined s before t

-- ---- the content

record Paragraph (xs : List Item) (ps : List Part) : Type 0 where
  text : (n : ℕ) → All (IsLineOfText n) (map content (full_lines xs))
  unled : marks_len xs ≡ 0
  closed : empty_end xs ≡ []
  parts_are : para_parts (map text_row (full_lines xs)) ≡ ps

styled_paragraph : (s : Setting) (t : StyledContent) → s.place ≡ place.Paragraph → IsStyledContent s t → Paragraph (page_items (spelled s (signs_in t))) (styled_parts false s [] t [])
styled_paragraph s t i h =
    let signs : List ContentSign = signs_in t in
    let xs : List Item = page_items (spelled s signs) in
    let is = content_lines_are s signs (styled_read s t h) h.unbroken in
    let all : (n : ℕ) → All (IsLineOfText n) (map content (full_lines xs) ++ empty_end xs) =
    λ n. subst (All (IsLineOfText n)) (sym is ∙ same_lines xs) (lines_are_text n s signs h.of_block h.characters h.nodes) in
    let closed : empty_end xs ≡ [] = no_end 0 xs (rest_all (IsLineOfText 0) (map content (full_lines xs)) (empty_end xs) (all 0)) in
    let own : OwnBreaks xs = subst OwnBreaks (sym (content_alone s signs (styled_read s t h))) (content_own s [] signs h.unbroken) in
    record {
      text = λ n. front_all (IsLineOfText n) (map content (full_lines xs)) (empty_end xs) (all n);
      unled = lines_unled 0 xs (subst (AreLinesOfText 0) (sym is) (are_lines_of_text 0 s signs h.of_block (subst (λ (p : Place). BeginsUnled p signs) i h.led.first) h.characters h.nodes));
      closed = closed;
      parts_are = rows_parts xs (line_items s [] signs) (later_lines s [] signs) own closed is ∙ lines_joined s [] t h.nodes h.nested h.meet;
    }

pub styled_closed : (s : Setting) (t : StyledContent) → s.place ≡ place.Paragraph → IsStyledContent s t → empty_end (page_items (spelled s (signs_in t))) ≡ []
styled_closed s t i h = (styled_paragraph s t i h).closed

-- by its lines
its_lines : (xs : List Item) (ps : List Part) → Paragraph xs ps → ContentLines xs (para_with ps)
its_lines xs ps p = lines_by xs ps (full_lines xs) refl (runs_are goes_on xs) p.closed p.unled p.text p.parts_are

rows_are : (xs : List Item) (ps : List Part) (c : ContentLines xs (para_with ps)) → rows xs ≡ paragraph_rows c.first c.others
rows_are xs ps c = ap rows (sym (append-nil xs)) ∙ unbroken_rows xs (para_with ps) c

pub styled_para : (s : Setting) (t : StyledContent) → s.place ≡ place.Paragraph → IsStyledContent s t → para (rows (page_items (spelled s (signs_in t)))) ≡ para_with (styled_parts false s [] t [])
styled_para s t i h =
    let xs : List Item = page_items (spelled s (signs_in t)) in
    let ps : List Part = styled_parts false s [] t [] in
    let c : ContentLines xs (para_with ps) = its_lines xs ps (styled_paragraph s t i h) in
    ap para (rows_are xs ps c) ∙ c.makes

pub styled_meaning : (s : Setting) (t : StyledContent) → s.place ≡ place.Paragraph → IsStyledContent s t
    → meaning (page_items (spelled s (signs_in t))) ≡ body_with (para_with (styled_parts false s [] t []) ∷ [])
unfolding meaning blocks
styled_meaning s t i h =
    let xs : List Item = page_items (spelled s (signs_in t)) in
    let ps : List Part = styled_parts false s [] t [] in
    let p = styled_paragraph s t i h in
    let c : ContentLines xs (para_with ps) = its_lines xs ps p in
    ap (λ rs. body_of (within MOST_TABLES rs)) (rows_are xs ps c)
    ∙ body_by c.first c.others xs (para_with ps) (subst (λ ms. AreRuns goes_on ms xs) c.are (runs_are goes_on xs)) p.closed c.makes

pub styled_stands : (before : List Item) (s : Setting) (t : StyledContent) (tail : List Item) → EndsApart before → s.place ≡ place.Paragraph → IsStyledContent s t → EndsParagraph tail
    → meaning (before ++ (page_items (spelled s (signs_in t)) ++ tail)) ≡ body_with (blocks_in before ++ para_with (styled_parts false s [] t []) ∷ blocks_in tail)
styled_stands before s t tail a i h e =
    let xs : List Item = page_items (spelled s (signs_in t)) in
    let ps : List Part = styled_parts false s [] t [] in
    stands_so before xs tail (para_with ps) a (its_lines xs ps (styled_paragraph s t i h)) e

-- A content whose nodes have given items is one paragraph.
use Rattle.std.proofs.Common.{◌≡◌, ℕ, List, [], ◌∷◌, ◌++◌, map, refl, sym, ap, ◌∙◌, subst, All}
use Rattle.wt_span.specs.Items.{Item}
use Rattle.wt_span.proofs.RunLaws.{runs_are}
use Rattle.wt_guards.specs.Content.{ContentSign}
use Rattle.wt_guards.specs.Guards.{Setting}
use Rattle.wt_lines.specs.Lines.{lines, full_lines, content, empty_end, goes_on}
use Rattle.wt_lines.proofs.FullLines.{same_lines}
use Rattle.wt_inline.specs.Parts.{Part}
use Rattle.wt_page.specs.Body.{meaning}
use Rattle.wt_page.specs.Rows.{marks_len}
use Rattle.wt_page.specs.Texts.{para_parts}
use Rattle.wt_text_edit_laws.specs.ParagraphBetween.{EndsApart, EndsParagraph, blocks_in, body_with}
use Rattle.wt_text_edit_laws.specs.ParagraphParts.{joined_parts, para_with}
use Rattle.wt_text_edit_laws.proofs.Texts.PlainRows.{text_row}
use Rattle.wt_beside_laws.specs.Called.{items_with, line_with, later_with, parts_with, IsCalledContent}
use Rattle.wt_beside_laws.specs.Lines.{IsLineOfText, AreLinesOfText}
use Rattle.wt_beside_laws.proofs.LineParagraphs.{front_all, rest_all, no_end}
use Rattle.wt_beside_laws.proofs.FlatLines.{lines_unled}
use Rattle.wt_beside_laws.proofs.LineRows.{rows_parts}
use Rattle.wt_beside_laws.proofs.LineStands.{lines_by, stands_so}
use Rattle.wt_beside_laws.proofs.Groups.CalledLines.{lines_from, items_own, lines_are_text, are_lines_of_text}
use Rattle.wt_beside_laws.proofs.Groups.CalledParts.{lines_joined}

pub called_lines : (tables : ℕ) (s : Setting) (signs : List ContentSign) (owns : List (List Item)) → IsCalledContent s signs owns
    → All (IsLineOfText tables) (lines (items_with s [] signs owns))
called_lines tables s signs owns h =
    subst (All (IsLineOfText tables)) (sym (lines_from s [] signs owns h.given)) (lines_are_text tables s signs owns h.of_block h.characters h.given)

pub called_parts : (s : Setting) (signs : List ContentSign) (owns : List (List Item)) → IsCalledContent s signs owns
    → joined_parts (lines (items_with s [] signs owns)) ≡ parts_with s [] signs owns
called_parts s signs owns h = ap joined_parts (lines_from s [] signs owns h.given) ∙ lines_joined s signs owns h.given h.flat h.meet

-- ---- its full lines

full_text : (tables : ℕ) (xs : List Item) → All (IsLineOfText tables) (lines xs) → All (IsLineOfText tables) (map content (full_lines xs) ++ empty_end xs)
full_text tables xs h = subst (All (IsLineOfText tables)) (same_lines xs) h

pub called_unled : (s : Setting) (signs : List ContentSign) (owns : List (List Item)) → IsCalledContent s signs owns → marks_len (items_with s [] signs owns) ≡ 0
called_unled s signs owns h =
    lines_unled 0 (items_with s [] signs owns)
    (subst (AreLinesOfText 0) (sym (lines_from s [] signs owns h.given)) (are_lines_of_text 0 s signs owns h.of_block h.characters h.given))

called_closed : (s : Setting) (signs : List ContentSign) (owns : List (List Item)) → IsCalledContent s signs owns → empty_end (items_with s [] signs owns) ≡ []
called_closed s signs owns h =
    let xs : List Item = items_with s [] signs owns in
    no_end 0 xs (rest_all (IsLineOfText 0) (map content (full_lines xs)) (empty_end xs) (full_text 0 xs (called_lines 0 s signs owns h)))

called_rows : (s : Setting) (signs : List ContentSign) (owns : List (List Item)) → IsCalledContent s signs owns
    → para_parts (map text_row (full_lines (items_with s [] signs owns))) ≡ parts_with s [] signs owns
called_rows s signs owns h =
    rows_parts (items_with s [] signs owns) (line_with s [] signs owns) (later_with s [] signs owns) (items_own s [] signs owns h.given) (called_closed s signs owns h)
    (lines_from s [] signs owns h.given)
    ∙ lines_joined s signs owns h.given h.flat h.meet

-- between other lines of a page
pub called_stands : (before : List Item) (s : Setting) (signs : List ContentSign) (owns : List (List Item)) (tail : List Item) → EndsApart before
    → IsCalledContent s signs owns → EndsParagraph tail
    → meaning (before ++ (items_with s [] signs owns ++ tail)) ≡ body_with (blocks_in before ++ para_with (parts_with s [] signs owns) ∷ blocks_in tail)
called_stands before s signs owns tail a h e =
    let xs : List Item = items_with s [] signs owns in
    let ps : List Part = parts_with s [] signs owns in
    stands_so before xs tail (para_with ps) a
    (lines_by xs ps (full_lines xs) refl (runs_are goes_on xs) (called_closed s signs owns h) (called_unled s signs owns h)
    (λ n. front_all (IsLineOfText n) (map content (full_lines xs)) (empty_end xs) (full_text n xs (called_lines n s signs owns h)))
    (called_rows s signs owns h)) e

-- A content with styles in a heading.
use Rattle.std.proofs.Common.{◌≡◌, inl, Bool, true, false, List, [], ◌∷◌, ◌++◌, refl, sym, ap, ◌∙◌}
use Rattle.std.specs.Prelude.{if◌then◌else◌}
use Rattle.wt_span.specs.Items.{Item}
use Rattle.wt_guards.specs.Content.{ContentSign, letter, thing}
use Rattle.wt_guards.specs.Guards.{Setting, is_guarded, spelled}
use Rattle.wt_guards.specs.Letters.{is_escaped}
use Rattle.wt_expand.specs.PageItems.{page_items}
use Rattle.wt_inline.specs.declared.loose.Loose.TheVariants.{Text}
use Rattle.wt_inline.specs.Parts.{Part, node, parts}
use Rattle.wt_context.specs.Line.{line_parts}
use Rattle.wt_page.specs.Headings.{heading}
use Rattle.wt_page.specs.Body.{meaning}
use Rattle.wt_text_edit_laws.specs.ParagraphBetween.{AreClosed, before_marks, blocks_in, body_with}
use Rattle.wt_text_edit_laws.specs.TypedHeadings.{Sides, AreSides, heading_line, IsOfLevel, IsHeadingInside, EndsLine}
use Rattle.wt_text_edit_laws.proofs.Headings.HeadingRows.{round_is, round_stands}
use Rattle.wt_beside_laws.specs.Content.{guard_items, letter_items}
use Rattle.wt_beside_laws.specs.InHeadings.{AreOnOneLine, KeepsLevel, heading_of}
use Rattle.wt_beside_laws.specs.Nests.{style_tree}
use Rattle.wt_beside_laws.specs.Styled.{StyledContent, finished, sign, styled, delimiter, signs_before, signs_in, signs_past, styled_parts}
use Rattle.wt_beside_laws.specs.StyledHeadings.{IsStyledHeading}
use Rattle.wt_beside_laws.proofs.LineHeadings.{same_items, inside_by, level_by}
use Rattle.wt_beside_laws.proofs.Styled.StyledLines.{styled_line}
use Rattle.wt_beside_laws.proofs.Marks.Commented.{content_alone}
use Rattle.wt_beside_laws.proofs.Marks.Unjoined.{meet_unjoined, styled_read}
use Rattle.wt_beside_laws.specs.NodeItems.{node_items}

one_behind : (t : StyledContent) (after : List ContentSign) → AreOnOneLine (signs_before t after) → AreOnOneLine after
one_behind finished after o = o
one_behind (sign (letter c) t) after o = one_behind t after o.1
one_behind (sign (thing x) t) after o = one_behind t after o
one_behind (styled kind opening closing inside t) after o = one_behind t after (one_behind inside (delimiter kind closing ∷ signs_before t after) o)

-- on one line, all is up to its end
same_parts : (s : Setting) (before : List ContentSign) (t : StyledContent) (after : List ContentSign) → AreOnOneLine (signs_before t after)
    → styled_parts true s before t after ≡ styled_parts false s before t after
same_parts s before finished after o = refl
same_parts s before (sign (letter c) t) after o =
    let signs : List ContentSign = signs_before t after in
    let guard : List Part = parts Text (guard_items (is_guarded s before (letter c ∷ signs))) in
    let own : List Part = parts Text (letter_items (is_escaped s.within s.place before c signs) c) in
    ap (λ (b : Bool). guard ++ (if b then [] else own ++ styled_parts true s (letter c ∷ before) t after)) o.0
    ∙ ap (λ ps. guard ++ (own ++ ps)) (same_parts s (letter c ∷ before) t after o.1)
same_parts s before (sign (thing x) t) after o =
    ap (λ ps. parts Text (guard_items (is_guarded s before (thing x ∷ signs_before t after))) ++ (line_parts (node_items x.source) ++ ps))
    (same_parts s (thing x ∷ before) t after o)
same_parts s before (styled kind opening closing inside t) after o =
    let first : List ContentSign = delimiter kind opening ∷ before in
    let last : List ContentSign = delimiter kind closing ∷ signs_past inside first in
    let held : List ContentSign = signs_before inside (delimiter kind closing ∷ signs_before t after) in
    let own : Part = node (style_tree kind (styled_parts false s first inside (delimiter kind closing ∷ signs_before t after))) in
    ap (λ ps. parts Text (guard_items (is_guarded s before (delimiter kind opening ∷ held))) ++ (own ∷ ps))
    (same_parts s last t after (one_behind inside (delimiter kind closing ∷ signs_before t after) o))

pub styled_inside : (s : Setting) (t : StyledContent) → IsStyledHeading s t → IsHeadingInside (page_items (spelled s (signs_in t)))
styled_inside s t h =
    inside_by s (signs_in t) h.styled.of_block h.of_heading h.styled.kept h.styled.unbroken h.styled.characters h.styled.nodes
    (meet_unjoined s [] (signs_in t) h.styled.nodes h.styled.meet) h.styled.led h.one_line

pub styled_level : (s : Setting) (t : StyledContent) (sides : Sides) → IsStyledHeading s t → AreSides sides → KeepsLevel sides (signs_in t)
    → IsOfLevel sides (page_items (spelled s (signs_in t)))
styled_level s t sides h a k =
    level_by s (signs_in t) sides h.styled.of_block h.styled.kept h.styled.characters h.styled.nodes (meet_unjoined s [] (signs_in t) h.styled.nodes h.styled.meet) h.styled.led
    h.one_line a k

pub inside_parts : (s : Setting) (t : StyledContent) → IsStyledHeading s t → line_parts (page_items (spelled s (signs_in t))) ≡ styled_parts false s [] t []
inside_parts s t h =
    ap line_parts (content_alone s (signs_in t) (styled_read s t h.styled) ∙ sym (same_items s [] (signs_in t) h.one_line))
    ∙ styled_line s [] t h.styled.nodes h.styled.nested h.styled.meet
    ∙ same_parts s [] t [] h.one_line

pub styled_heading : (s : Setting) (t : StyledContent) (sides : Sides) → IsStyledHeading s t → AreSides sides → IsOfLevel sides (page_items (spelled s (signs_in t)))
    → heading (heading_line sides (page_items (spelled s (signs_in t)))) ≡ heading_of sides (styled_parts false s [] t [])
styled_heading s t sides h a p =
    round_is sides (page_items (spelled s (signs_in t))) a (inl (styled_inside s t h)) p ∙ ap (heading_of sides) (inside_parts s t h)

pub styled_heading_stands : (before : List Item) (s : Setting) (t : StyledContent) (sides : Sides) (tail : List Item) → AreClosed (before_marks before)
    → AreSides sides → IsStyledHeading s t → IsOfLevel sides (page_items (spelled s (signs_in t))) → EndsLine tail
    → meaning (before ++ (heading_line sides (page_items (spelled s (signs_in t))) ++ tail))
    ≡ body_with (blocks_in before ++ heading_of sides (styled_parts false s [] t []) ∷ blocks_in tail)
styled_heading_stands before s t sides tail c a h p e =
    round_stands before sides (page_items (spelled s (signs_in t))) tail c a (inl (styled_inside s t h)) p e
    ∙ ap (λ ps. body_with (blocks_in before ++ heading_of sides ps ∷ blocks_in tail)) (inside_parts s t h)

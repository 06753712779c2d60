-- A heading with styles beside calls: it is on one line, keeps its level, holds its calls, and shows what was typed.
use Rattle.std.proofs.Common.{◌≡◌, Bool, true, false, List, [], ◌∷◌, ◌++◌, ap, refl, subst, sym, ◌∙◌}
use Rattle.std.specs.Prelude.{if◌then◌else◌}
use Rattle.wt_span.specs.Items.{Item}
use Rattle.wt_span.specs.Origins.{OuterCall}
use Rattle.wt_tree.specs.Plain.{Plains, along, element, ended, plain_before}
use Rattle.wt_tree.specs.Tree.{Tree}
use Rattle.wt_tree.specs.declared.kind.Kind.TheVariants as kind
use Rattle.wt_guards.specs.Content.{ContentSign, letter, thing}
use Rattle.wt_guards.specs.Guards.{Setting, is_guarded}
use Rattle.wt_guards.specs.Letters.{is_escaped}
use Rattle.wt_inline.specs.ItemTree.{forest, inner, plain}
use Rattle.wt_inline.specs.Parts.{Part, children, node, parts}
use Rattle.wt_inline.specs.declared.loose.Loose.TheVariants.{Text}
use Rattle.wt_context.specs.Line.{line_parts}
use Rattle.wt_annotated.specs.CutTexts.{cut_texts}
use Rattle.wt_part_laws.proofs.HeldBlocks.{given_block_is, given_hold}
use Rattle.wt_part_laws.specs.HeldCalls.{HoldsItsCalls, IsRoundGiven, block_in, block_of_pieces}
use Rattle.wt_text_edit_laws.specs.LonePages.{page_chars}
use Rattle.wt_text_edit_laws.specs.TextBlocks.{a_heading}
use Rattle.wt_text_edit_laws.specs.TypedHeadings.{AreSides, IsHeadingInside, IsOfLevel, Sides, closing_items, heading_round, opening}
use Rattle.wt_beside_laws.proofs.Groups.CalledHeadings.{given_inside, given_level, round_given, same_items}
use Rattle.wt_beside_laws.proofs.Made.OldBlocks.{face_of}
use Rattle.wt_beside_laws.proofs.StyledGroups.Blocks.{styled_own}
use Rattle.wt_beside_laws.proofs.StyledGroups.Lines.{called_line, own_in}
use Rattle.wt_beside_laws.proofs.StyledGroups.Shown.{styled_children}
use Rattle.wt_beside_laws.specs.Called.{items_with}
use Rattle.wt_beside_laws.specs.Content.{guard_items, letter_items}
use Rattle.wt_beside_laws.specs.InHeadings.{AreOnOneLine}
use Rattle.wt_beside_laws.specs.Nests.{style_tree}
use Rattle.wt_beside_laws.specs.Styled.{StyledContent, delimiter, finished, sign, signs_before, signs_in, signs_past, styled}
use Rattle.wt_beside_laws.specs.StyledCalls.{IsStyledCalledHeading, owns_left, owns_past, styled_called_shown, styled_with}

-- ---- one line

line_behind : (t : StyledContent) (after : List ContentSign) → AreOnOneLine (signs_before t after) → AreOnOneLine after
line_behind finished after o = o
line_behind (sign (letter c) t) after o = line_behind t after o.1
line_behind (sign (thing x) t) after o = line_behind t after o
line_behind (styled bold opening closing inside t) after o =
    line_behind t after (line_behind inside (delimiter bold closing ∷ signs_before t after) o)

same_line : (s : Setting) (before : List ContentSign) (t : StyledContent) (after : List ContentSign) (owns : List (List Item)) → AreOnOneLine (signs_before t after)
    → styled_with true s before t after owns ≡ styled_with false s before t after owns
same_line s before finished after owns o = refl
same_line s before (sign (letter c) t) after owns o =
    let signs : List ContentSign = signs_before t after in
    let guard : List Part = parts Text (guard_items (is_guarded s before (letter c ∷ signs))) in
    let own : List Part = parts Text (letter_items (is_escaped s.within s.place before c signs) c) in
    ap (λ (b : Bool). guard ++ (if b then [] else own ++ styled_with true s (letter c ∷ before) t after owns)) o.0
    ∙ ap (λ (ps : List Part). guard ++ (own ++ ps)) (same_line s (letter c ∷ before) t after owns o.1)
same_line s before (sign (thing x) t) after [] o = refl
same_line s before (sign (thing x) t) after (own ∷ owns) o =
    ap (λ (ps : List Part). parts Text (guard_items (is_guarded s before (thing x ∷ signs_before t after))) ++ (line_parts own ++ ps))
    (same_line s (thing x ∷ before) t after owns o)
same_line s before (styled bold opening closing inside t) after owns o =
    let first : List ContentSign = delimiter bold opening ∷ before in
    let signs : List ContentSign = signs_before t after in
    let closes : List ContentSign = delimiter bold closing ∷ signs in
    let held : List ContentSign = signs_before inside closes in
    let inside_owns : List (List Item) = owns_left owns in
    let ps : List Part = styled_with false s first inside closes inside_owns in
    ap (λ (qs : List Part). parts Text (guard_items (is_guarded s before (delimiter bold opening ∷ held))) ++ (node (style_tree bold ps) ∷ qs))
    (same_line s (delimiter bold closing ∷ signs_past inside first) t after (owns_left (owns_past inside inside_owns)) (line_behind inside closes o))

-- ---- what is between its `=`

pub styled_inside : (s : Setting) (t : StyledContent) (owns : List (List Item)) → IsStyledCalledHeading s t owns → IsHeadingInside (items_with s [] (signs_in t) owns)
styled_inside s t owns h = given_inside s (signs_in t) owns h.of_block h.of_heading h.one_line h.characters h.given h.end_seen

pub styled_level : (s : Setting) (t : StyledContent) (owns : List (List Item)) (sides : Sides) → IsStyledCalledHeading s t owns → AreSides sides
    → IsOfLevel sides (items_with s [] (signs_in t) owns)
styled_level s t owns sides h a = given_level s (signs_in t) owns sides h.of_block h.one_line h.characters h.given h.end_seen a

pub styled_heading_parts : (s : Setting) (t : StyledContent) (owns : List (List Item)) → IsStyledCalledHeading s t owns
    → line_parts (items_with s [] (signs_in t) owns) ≡ styled_with false s [] t [] owns
styled_heading_parts s t owns h =
    ap line_parts (sym (same_items s [] (signs_in t) owns h.one_line)) ∙ called_line s [] [] t owns h.given h.nested (own_in false false t owns h.own) h.meet
    ∙ same_line s [] t [] owns h.one_line

-- ---- the heading

styled_round : (s : Setting) (t : StyledContent) (owns : List (List Item)) (sides : Sides) → IsStyledCalledHeading s t owns → AreSides sides
    → IsRoundGiven (plain (kind.Heading sides.level)) (page_chars (opening sides)) (styled_with false s [] t [] owns) (closing_items sides)
styled_round s t owns sides h a = round_given (styled_with false s [] t [] owns) sides (styled_own s t owns h.given h.nested h.own) a

pub styled_heading_holds : (s : Setting) (t : StyledContent) (owns : List (List Item)) (sides : Sides) → IsStyledCalledHeading s t owns → AreSides sides
    → HoldsItsCalls (heading_round sides (items_with s [] (signs_in t) owns))
styled_heading_holds s t owns sides h a =
    subst (λ (ps : List Part). HoldsItsCalls (inner (plain (kind.Heading sides.level)) (page_chars (opening sides)) (forest (children ps)) (closing_items sides)))
    (sym (styled_heading_parts s t owns h))
    (given_hold (plain (kind.Heading sides.level)) (page_chars (opening sides)) (styled_with false s [] t [] owns) (closing_items sides) (styled_round s t owns sides h a))

pub styled_heading_block : (calls : List OuterCall) (s : Setting) (t : StyledContent) (owns : List (List Item)) (sides : Sides) → IsStyledCalledHeading s t owns
    → AreSides sides
    → block_in calls (heading_round sides (items_with s [] (signs_in t) owns))
    ≡ block_of_pieces calls (plain (kind.Heading sides.level)) (page_chars (opening sides)) (styled_with false s [] t [] owns) (closing_items sides)
styled_heading_block calls s t owns sides h a =
    ap (λ (ps : List Part). block_in calls (inner (plain (kind.Heading sides.level)) (page_chars (opening sides)) (forest (children ps)) (closing_items sides)))
    (styled_heading_parts s t owns h)
    ∙ given_block_is calls (plain (kind.Heading sides.level)) (page_chars (opening sides)) (styled_with false s [] t [] owns) (closing_items sides)
    (styled_round s t owns sides h a)

pub styled_heading_shows : (calls : List OuterCall) (s : Setting) (t : StyledContent) (owns : List (List Item)) (sides : Sides) (rest : Plains)
    → IsStyledCalledHeading s t owns → AreSides sides
    → plain_before (cut_texts (block_in calls (heading_round sides (items_with s [] (signs_in t) owns)))) rest
    ≡ along (element (face_of (a_heading sides)) (styled_called_shown t owns ended)) rest
styled_heading_shows calls s t owns sides rest h a =
    ap (λ (u : Tree). plain_before (cut_texts u) rest) (styled_heading_block calls s t owns sides h a)
    ∙ ap (λ (qs : Plains). along (element (face_of (a_heading sides)) qs) rest) (styled_children calls s t owns h.given h.nested h.own)

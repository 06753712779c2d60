-- A line of a content whose nodes have given items, as the parts of a paragraph or a heading.
use Rattle.std.proofs.Common.{◌≡◌, ◌==◌, false, List, [], ◌∷◌, ◌++◌, refl, sym, ap, ap₂, ◌∙◌, subst, append-nil, append_assoc, true}
use Rattle.std.specs.Prelude.{if◌then◌else◌}
use Rattle.wt_span.specs.Items.{Item}
use Rattle.wt_guards.specs.Content.{ContentSign, letter, thing}
use Rattle.wt_guards.specs.Guards.{Setting, is_guarded}
use Rattle.wt_guards.specs.Letters.{is_escaped}
use Rattle.wt_inline.specs.declared.loose.Loose.TheVariants.{Text}
use Rattle.wt_inline.specs.Parts.{Part, parts}
use Rattle.wt_context.specs.Line.{line_parts}
use Rattle.wt_text_edit_laws.specs.ParagraphParts.{break, after_breaks, joined_parts}
use Rattle.wt_beside_laws.specs.Called.{line_with, later_with, parts_with, line_parts_with, lines_with, AreGiven, AllMeetWith}
use Rattle.wt_beside_laws.specs.Content.{guard_items, letter_items}
use Rattle.wt_beside_laws.specs.Flat.{AreFlat}
use Rattle.wt_beside_laws.specs.Styled.{StyledContent, finished, sign, signs_before, AreNested}
use Rattle.wt_beside_laws.specs.StyledCalls.{styled_with}
use Rattle.wt_beside_laws.proofs.LineRows.{later_by, both_by, break_parts}
use Rattle.wt_beside_laws.proofs.StyledGroups.Lines.{AreIn, called_line}

-- ---- without styles

abbrev flat_content : List ContentSign → StyledContent
flat_content [] = finished
flat_content (c ∷ signs) = sign c (flat_content signs)

flat_signs : (signs : List ContentSign) → signs_before (flat_content signs) [] ≡ signs
flat_signs [] = refl
flat_signs (c ∷ signs) = ap (λ (cs : List ContentSign). c ∷ cs) (flat_signs signs)

flat_nested : (signs : List ContentSign) → AreFlat signs → AreNested false false (flat_content signs)
flat_nested [] f = tt
flat_nested (letter c ∷ after) f = ((λ e. cc), flat_nested after f)
flat_nested (thing t ∷ after) f = (f.0, flat_nested after f.1)

flat_in : (signs : List ContentSign) (owns : List (List Item)) → AreIn false false (flat_content signs) owns
flat_in [] owns = tt
flat_in (letter c ∷ after) owns = flat_in after owns
flat_in (thing t ∷ after) [] = tt
flat_in (thing t ∷ after) (own ∷ owns) = (tt, flat_in after owns)

flat_parts : (s : Setting) (before signs : List ContentSign) (owns : List (List Item))
    → styled_with true s before (flat_content signs) [] owns ≡ line_parts_with s before signs owns
flat_parts s before [] owns = refl
flat_parts s before (letter c ∷ after) owns =
    ap₂ (λ (cs : List ContentSign) (ps : List Part). parts Text (guard_items (is_guarded s before (letter c ∷ cs)))
    ++ (if c == 10 then [] else parts Text (letter_items (is_escaped s.within s.place before c cs) c) ++ ps))
    (flat_signs after) (flat_parts s (letter c ∷ before) after owns)
flat_parts s before (thing t ∷ after) [] = ap (λ (cs : List ContentSign). parts Text (guard_items (is_guarded s before (thing t ∷ cs)))) (flat_signs after)
flat_parts s before (thing t ∷ after) (own ∷ owns) =
    ap₂ (λ (cs : List ContentSign) (ps : List Part). parts Text (guard_items (is_guarded s before (thing t ∷ cs))) ++ (line_parts own ++ ps))
    (flat_signs after) (flat_parts s (thing t ∷ before) after owns)

-- ---- the line

pub line_parts_are : (s : Setting) (before : List ContentSign) (last : List Item) (signs : List ContentSign) (owns : List (List Item)) → AreGiven signs owns → AreFlat signs
    → AllMeetWith s before last signs owns → line_parts (line_with s before signs owns) ≡ line_parts_with s before signs owns
line_parts_are s before last signs owns h f m =
    let same : signs ≡ signs_before (flat_content signs) [] = sym (flat_signs signs) in
    ap (λ (cs : List ContentSign). line_parts (line_with s before cs owns)) same
    ∙ called_line s before last (flat_content signs) owns (subst (λ (cs : List ContentSign). AreGiven cs owns) same h) (flat_nested signs f) (flat_in signs owns)
    (subst (λ (cs : List ContentSign). AllMeetWith s before last cs owns) same m)
    ∙ flat_parts s before signs owns

-- ---- and the lines behind it

abbrev later_parts : Setting → List ContentSign → List ContentSign → List (List Item) → List Part
later_parts s before [] owns = []
later_parts s before (letter c ∷ after) owns =
    if c == 10 then parts Text (break ∷ []) ++ (line_parts_with s (letter c ∷ before) after owns ++ later_parts s (letter c ∷ before) after owns)
    else later_parts s (letter c ∷ before) after owns
later_parts s before (thing t ∷ after) [] = []
later_parts s before (thing t ∷ after) (own ∷ owns) = later_parts s (thing t ∷ before) after owns

later_are : (s : Setting) (before : List ContentSign) (last : List Item) (signs : List ContentSign) (owns : List (List Item)) → AreGiven signs owns → AreFlat signs
    → AllMeetWith s before last signs owns → after_breaks (later_with s before signs owns) ≡ later_parts s before signs owns
later_are s before last [] owns h f m = refl
later_are s before last (letter c ∷ after) owns h f m =
    later_by (c == 10) (line_with s (letter c ∷ before) after owns) (later_with s (letter c ∷ before) after owns) (line_parts_with s (letter c ∷ before) after owns)
    (later_parts s (letter c ∷ before) after owns) (line_parts_are s (letter c ∷ before) [] after owns h f m) (later_are s (letter c ∷ before) [] after owns h f m)
later_are s before last (thing t ∷ after) [] h f m = absurd h
later_are s before last (thing t ∷ after) (own ∷ owns) h f m = later_are s (thing t ∷ before) own after owns h.1 f.1 m.1

all_joined : (s : Setting) (before signs : List ContentSign) (owns : List (List Item)) → AreGiven signs owns
    → line_parts_with s before signs owns ++ later_parts s before signs owns ≡ parts_with s before signs owns
all_joined s before [] owns h = append-nil (parts Text (guard_items (is_guarded s before [])))
all_joined s before (letter c ∷ after) owns h =
    let own : List Part = parts Text (letter_items (is_escaped s.within s.place before c after) c) in
    let line : List Part = line_parts_with s (letter c ∷ before) after owns in
    let later : List Part = later_parts s (letter c ∷ before) after owns in
    let guard : List Part = parts Text (guard_items (is_guarded s before (letter c ∷ after))) in
    append_assoc guard (if c == 10 then [] else own ++ line) (if c == 10 then parts Text (break ∷ []) ++ (line ++ later) else later)
    ∙ ap (λ ps. guard ++ ps)
    (both_by (c == 10) own line later (parts_with s (letter c ∷ before) after owns) (break_parts s before c after) (all_joined s (letter c ∷ before) after owns h))
all_joined s before (thing t ∷ after) [] h = absurd h
all_joined s before (thing t ∷ after) (own ∷ owns) h =
    let own_parts : List Part = line_parts own in
    let line : List Part = line_parts_with s (thing t ∷ before) after owns in
    let later : List Part = later_parts s (thing t ∷ before) after owns in
    let guard : List Part = parts Text (guard_items (is_guarded s before (thing t ∷ after))) in
    append_assoc guard (own_parts ++ line) later
    ∙ ap (λ ps. guard ++ ps) (append_assoc own_parts line later ∙ ap (λ ps. own_parts ++ ps) (all_joined s (thing t ∷ before) after owns h.1))

pub lines_joined : (s : Setting) (signs : List ContentSign) (owns : List (List Item)) → AreGiven signs owns → AreFlat signs → AllMeetWith s [] [] signs owns
    → joined_parts (lines_with s signs owns) ≡ parts_with s [] signs owns
lines_joined s signs owns h f m =
    ap (λ ps. ps ++ after_breaks (later_with s [] signs owns)) (line_parts_are s [] [] signs owns h f m)
    ∙ ap (λ ps. line_parts_with s [] signs owns ++ ps) (later_are s [] [] signs owns h f m) ∙ all_joined s [] signs owns h

-- A content with styles among whose signs are calls is one paragraph: its lines, and the parts that these are.
use Rattle.std.proofs.Common.{◌≡◌, ℕ, ◌==◌, Bool, true, false, not, Option, List, [], ◌∷◌, ◌++◌, All, ap, append-nil, append_assoc, refl, subst, sym, ◌||◌, ◌∙◌}
use Rattle.std.specs.Prelude.{if◌then◌else◌}
use Rattle.wt_span.specs.Items.{Item}
use Rattle.wt_guards.specs.Content.{ContentSign, letter, thing}
use Rattle.wt_guards.specs.Guards.{Setting, is_guarded}
use Rattle.wt_guards.specs.Letters.{is_escaped}
use Rattle.wt_guards.specs.declared.role.Stretch.{Stretch}
use Rattle.wt_lines.specs.Lines.{lines}
use Rattle.wt_inline.specs.Parts.{Part, node, parts}
use Rattle.wt_inline.specs.declared.loose.Loose.TheVariants.{Text}
use Rattle.wt_context.specs.Line.{line_parts}
use Rattle.wt_page.specs.Rows.{marks_len}
use Rattle.wt_text_edit_laws.specs.ParagraphParts.{after_breaks, break, joined_parts}
use Rattle.wt_beside_laws.proofs.FlatLines.{lines_unled}
use Rattle.wt_beside_laws.proofs.Groups.CalledLines.{are_lines_of_text, lines_are_text, lines_from}
use Rattle.wt_beside_laws.proofs.LineRows.{both_by, break_parts, later_by}
use Rattle.wt_beside_laws.proofs.Styled.StyledLines.{within_style}
use Rattle.wt_beside_laws.proofs.StyledGroups.Lines.{AreIn, called_line, given_behind, own_in, past_mark}
use Rattle.wt_beside_laws.specs.Called.{AllMeetWith, AreGiven, items_with, later_with, line_with, lines_with}
use Rattle.wt_beside_laws.specs.Content.{guard_items, letter_items}
use Rattle.wt_beside_laws.specs.Lines.{AreCharacters, AreLinesOfText, IsLineOfText}
use Rattle.wt_beside_laws.specs.Nests.{style_tree}
use Rattle.wt_beside_laws.specs.Styled.{AreNested, StyledContent, delimiter, finished, sign, signs_before, signs_in, signs_past, styled}
use Rattle.wt_beside_laws.specs.StyledCalls.{IsStyledCalled, owns_left, owns_past, styled_with}

-- ---- the lines behind a place

abbrev later_parts : Setting → List ContentSign → StyledContent → List (List Item) → List Part
later_parts s before finished owns = []
later_parts s before (sign (letter c) t) owns =
    if c == 10 then parts Text (break ∷ []) ++ (styled_with true s (letter c ∷ before) t [] owns ++ later_parts s (letter c ∷ before) t owns)
    else later_parts s (letter c ∷ before) t owns
later_parts s before (sign (thing x) t) owns = later_parts s (thing x ∷ before) t (owns_left owns)
later_parts s before (styled kind opening closing inside t) owns =
    later_parts s (delimiter kind closing ∷ signs_past inside (delimiter kind opening ∷ before)) t (owns_left (owns_past inside (owns_left owns)))

-- none begins with a delimiter
pub mark_later : (s : Setting) (before : List ContentSign) (kind : Bool) (place : Option Stretch) (signs : List ContentSign) (owns : List (List Item))
    → AreGiven (delimiter kind place ∷ signs) owns → later_with s before (delimiter kind place ∷ signs) owns ≡ later_with s (delimiter kind place ∷ before) signs (owns_left owns)
mark_later s before kind place signs [] h = absurd h
mark_later s before kind place signs (own ∷ owns) h = refl

-- nor inside a style
pub none_later : (s : Setting) (bold italic : Bool) (t : StyledContent) (before after : List ContentSign) (owns : List (List Item)) → AreGiven (signs_before t after) owns
    → AreNested bold italic t → (bold || italic) ≡ true
    → later_with s before (signs_before t after) owns ≡ later_with s (signs_past t before) after (owns_past t owns)
none_later s bold italic finished before after owns h k w = refl
none_later s bold italic (sign (letter c) t) before after owns h k w =
    ap (λ (b : Bool). if b then line_with s (letter c ∷ before) (signs_before t after) owns ∷ later_with s (letter c ∷ before) (signs_before t after) owns
    else later_with s (letter c ∷ before) (signs_before t after) owns)
    (k.0 w)
    ∙ none_later s bold italic t (letter c ∷ before) after owns h k.1 w
none_later s bold italic (sign (thing x) t) before after [] h k w = absurd h
none_later s bold italic (sign (thing x) t) before after (own ∷ owns) h k w = none_later s bold italic t (thing x ∷ before) after owns h.1 k.1 w
none_later s bold italic (styled kind opening closing inside t) before after owns h k w =
    let first : List ContentSign = delimiter kind opening ∷ before in
    let signs : List ContentSign = signs_before t after in
    let closes : List ContentSign = delimiter kind closing ∷ signs in
    let held : List ContentSign = signs_before inside closes in
    let inner : List (List Item) = owns_left owns in
    let behind : List (List Item) = owns_past inside inner in
    let given_in : AreGiven held inner = past_mark kind opening held owns h in
    let given_end : AreGiven closes behind = given_behind inside closes inner given_in in
    mark_later s before kind opening held owns h
    ∙ none_later s (kind || bold) (not kind || italic) inside first closes inner given_in k.1 (within_style kind bold italic)
    ∙ mark_later s (signs_past inside first) kind closing signs behind given_end
    ∙ none_later s bold italic t (delimiter kind closing ∷ signs_past inside first) after (owns_left behind) (past_mark kind closing signs behind given_end) k.2 w

-- what is behind a content meets, too, where its last node gives something
pub record MeetsBehind (s : Setting) (before after : List ContentSign) (owns : List (List Item)) : Type 0 where
  pub last : List Item
  pub meet : AllMeetWith s before last after owns

pub mark_meet : (s : Setting) (before : List ContentSign) (last : List Item) (kind : Bool) (place : Option Stretch) (signs : List ContentSign) (owns : List (List Item))
    → AreGiven (delimiter kind place ∷ signs) owns → AllMeetWith s before last (delimiter kind place ∷ signs) owns
    → MeetsBehind s (delimiter kind place ∷ before) signs (owns_left owns)
mark_meet s before last kind place signs [] h m = absurd h
mark_meet s before last kind place signs (own ∷ owns) h m = record { last = own; meet = m.1 }

pub meet_behind : (s : Setting) (before : List ContentSign) (last : List Item) (t : StyledContent) (after : List ContentSign) (owns : List (List Item))
    → AreGiven (signs_before t after) owns → AllMeetWith s before last (signs_before t after) owns → MeetsBehind s (signs_past t before) after (owns_past t owns)
meet_behind s before last finished after owns h m = record { last = last; meet = m }
meet_behind s before last (sign (letter c) t) after owns h m = meet_behind s (letter c ∷ before) [] t after owns h m
meet_behind s before last (sign (thing x) t) after [] h m = absurd h
meet_behind s before last (sign (thing x) t) after (own ∷ owns) h m = meet_behind s (thing x ∷ before) own t after owns h.1 m.1
meet_behind s before last (styled kind opening closing inside t) after owns h m =
    let first : List ContentSign = delimiter kind opening ∷ before in
    let signs : List ContentSign = signs_before t after in
    let closes : List ContentSign = delimiter kind closing ∷ signs in
    let held : List ContentSign = signs_before inside closes in
    let inner : List (List Item) = owns_left owns in
    let behind : List (List Item) = owns_past inside inner in
    let given_in : AreGiven held inner = past_mark kind opening held owns h in
    let given_end : AreGiven closes behind = given_behind inside closes inner given_in in
    let a : MeetsBehind s first held inner = mark_meet s before last kind opening held owns h m in
    let b : MeetsBehind s (signs_past inside first) closes behind = meet_behind s first a.last inside closes inner given_in a.meet in
    let c : MeetsBehind s (delimiter kind closing ∷ signs_past inside first) signs (owns_left behind) =
    mark_meet s (signs_past inside first) b.last kind closing signs behind given_end b.meet in
    meet_behind s (delimiter kind closing ∷ signs_past inside first) c.last t after (owns_left behind) (past_mark kind closing signs behind given_end) c.meet

later_are : (s : Setting) (before : List ContentSign) (last : List Item) (t : StyledContent) (owns : List (List Item)) → AreGiven (signs_before t []) owns
    → AreNested false false t → AreIn false false t owns → AllMeetWith s before last (signs_before t []) owns → after_breaks (later_with s before (signs_before t []) owns) ≡ later_parts s before t owns
later_are s before last finished owns h k w m = refl
later_are s before last (sign (letter c) t) owns h k w m =
    let signs : List ContentSign = signs_before t [] in
    later_by (c == 10) (line_with s (letter c ∷ before) signs owns) (later_with s (letter c ∷ before) signs owns) (styled_with true s (letter c ∷ before) t [] owns)
    (later_parts s (letter c ∷ before) t owns) (called_line s (letter c ∷ before) [] t owns h k.1 w m) (later_are s (letter c ∷ before) [] t owns h k.1 w m)
later_are s before last (sign (thing x) t) [] h k w m = absurd h
later_are s before last (sign (thing x) t) (own ∷ owns) h k w m = later_are s (thing x ∷ before) own t owns h.1 k.1 w.1 m.1
later_are s before last (styled kind opening closing inside t) owns h k w m =
    let first : List ContentSign = delimiter kind opening ∷ before in
    let signs : List ContentSign = signs_before t [] in
    let closes : List ContentSign = delimiter kind closing ∷ signs in
    let held : List ContentSign = signs_before inside closes in
    let inner : List (List Item) = owns_left owns in
    let behind : List (List Item) = owns_past inside inner in
    let given_in : AreGiven held inner = past_mark kind opening held owns h in
    let given_end : AreGiven closes behind = given_behind inside closes inner given_in in
    let a : MeetsBehind s first held inner = mark_meet s before last kind opening held owns h m in
    let b : MeetsBehind s (signs_past inside first) closes behind = meet_behind s first a.last inside closes inner given_in a.meet in
    let c : MeetsBehind s (delimiter kind closing ∷ signs_past inside first) signs (owns_left behind) =
    mark_meet s (signs_past inside first) b.last kind closing signs behind given_end b.meet in
    ap after_breaks
    (mark_later s before kind opening held owns h
    ∙ none_later s (kind || false) (not kind || false) inside first closes inner given_in k.1 (within_style kind false false)
    ∙ mark_later s (signs_past inside first) kind closing signs behind given_end)
    ∙ later_are s (delimiter kind closing ∷ signs_past inside first) c.last t (owns_left behind) (past_mark kind closing signs behind given_end) k.2 w.1 c.meet

-- ---- a line and the lines behind it

all_joined : (s : Setting) (before : List ContentSign) (t : StyledContent) (owns : List (List Item)) → AreGiven (signs_before t []) owns
    → styled_with true s before t [] owns ++ later_parts s before t owns ≡ styled_with false s before t [] owns
all_joined s before finished owns h = append-nil (parts Text (guard_items (is_guarded s before [])))
all_joined s before (sign (letter c) t) owns h =
    let signs : List ContentSign = signs_before t [] in
    let own : List Part = parts Text (letter_items (is_escaped s.within s.place before c signs) c) in
    let line : List Part = styled_with true s (letter c ∷ before) t [] owns in
    let later : List Part = later_parts s (letter c ∷ before) t owns in
    let guard : List Part = parts Text (guard_items (is_guarded s before (letter c ∷ signs))) in
    append_assoc guard (if c == 10 then [] else own ++ line) (if c == 10 then parts Text (break ∷ []) ++ (line ++ later) else later)
    ∙ ap (λ ps. guard ++ ps)
    (both_by (c == 10) own line later (styled_with false s (letter c ∷ before) t [] owns) (break_parts s before c signs) (all_joined s (letter c ∷ before) t owns h))
all_joined s before (sign (thing x) t) [] h = absurd h
all_joined s before (sign (thing x) t) (own ∷ owns) h =
    let ownp : List Part = line_parts own in
    let line : List Part = styled_with true s (thing x ∷ before) t [] owns in
    let later : List Part = later_parts s (thing x ∷ before) t owns in
    let guard : List Part = parts Text (guard_items (is_guarded s before (thing x ∷ signs_before t []))) in
    append_assoc guard (ownp ++ line) later
    ∙ ap (λ ps. guard ++ ps) (append_assoc ownp line later ∙ ap (λ ps. ownp ++ ps) (all_joined s (thing x ∷ before) t owns h.1))
all_joined s before (styled kind opening closing inside t) owns h =
    let first : List ContentSign = delimiter kind opening ∷ before in
    let last : List ContentSign = delimiter kind closing ∷ signs_past inside first in
    let signs : List ContentSign = signs_before t [] in
    let closes : List ContentSign = delimiter kind closing ∷ signs in
    let held : List ContentSign = signs_before inside closes in
    let inner : List (List Item) = owns_left owns in
    let behind : List (List Item) = owns_past inside inner in
    let given_in : AreGiven held inner = past_mark kind opening held owns h in
    let given_end : AreGiven closes behind = given_behind inside closes inner given_in in
    let own : Part = node (style_tree kind (styled_with false s first inside closes inner)) in
    let guard : List Part = parts Text (guard_items (is_guarded s before (delimiter kind opening ∷ held))) in
    append_assoc guard (own ∷ styled_with true s last t [] (owns_left behind)) (later_parts s last t (owns_left behind))
    ∙ ap (λ ps. guard ++ (own ∷ ps)) (all_joined s last t (owns_left behind) (past_mark kind closing signs behind given_end))

pub lines_joined : (s : Setting) (t : StyledContent) (owns : List (List Item)) → AreGiven (signs_in t) owns → AreNested false false t → AreIn false false t owns
    → AllMeetWith s [] [] (signs_in t) owns
    → joined_parts (lines_with s (signs_in t) owns) ≡ styled_with false s [] t [] owns
lines_joined s t owns h k w m =
    ap (λ ps. ps ++ after_breaks (later_with s [] (signs_in t) owns)) (called_line s [] [] t owns h k w m)
    ∙ ap (λ ps. styled_with true s [] t [] owns ++ ps) (later_are s [] [] t owns h k w m) ∙ all_joined s [] t owns h

-- ---- the content

-- whatever its signs are, its lines are text
pub given_lines : (tables : ℕ) (s : Setting) (signs : List ContentSign) (owns : List (List Item)) → s.within ≡ false → AreCharacters signs → AreGiven signs owns
    → All (IsLineOfText tables) (lines (items_with s [] signs owns))
given_lines tables s signs owns w v h =
    subst (All (IsLineOfText tables)) (sym (lines_from s [] signs owns h)) (lines_are_text tables s signs owns w v h)

pub given_unled : (s : Setting) (signs : List ContentSign) (owns : List (List Item)) → s.within ≡ false → AreCharacters signs → AreGiven signs owns
    → marks_len (items_with s [] signs owns) ≡ 0
given_unled s signs owns w v h =
    lines_unled 0 (items_with s [] signs owns) (subst (AreLinesOfText 0) (sym (lines_from s [] signs owns h)) (are_lines_of_text 0 s signs owns w v h))

pub styled_called_parts : (s : Setting) (t : StyledContent) (owns : List (List Item)) → IsStyledCalled s t owns
    → joined_parts (lines (items_with s [] (signs_in t) owns)) ≡ styled_with false s [] t [] owns
styled_called_parts s t owns h = ap joined_parts (lines_from s [] (signs_in t) owns h.given) ∙ lines_joined s t owns h.given h.nested (own_in false false t owns h.own) h.meet

-- On each line of a content among whose signs are calls the numbers of toggles are even.
use Rattle.std.proofs.Common.{arith, ◌≡◌, ℕ, ◌==◌, Bool, true, false, not, List, [], ◌∷◌, refl, sym, ap, ◌∙◌, subst}
use Rattle.std.specs.Prelude.{◌||◌, if◌then◌else◌, map}
use Rattle.std.specs.List.{AllByRecursion}
use Rattle.wt_span.specs.Items.{Item}
use Rattle.wt_guards.specs.Content.{ContentSign, letter, thing}
use Rattle.wt_guards.specs.Guards.{Setting}
use Rattle.wt_lines.specs.Lines.{lines}
use Rattle.wt_quotes.specs.Toggles.{is_odd, toggles_of}
use Rattle.wt_quotes.specs.Turns.{is_of}
use Rattle.wt_tiles.specs.Contexts.{in_line}
use Rattle.wt_tiles.specs.Glyphs.{glyph_of}
use Rattle.wt_tiles.specs.Tiles.{Cut, cuts}
use Rattle.wt_context.specs.Chunks.{chunks}
use Rattle.wt_context.specs.Line.{context_parts}
use Rattle.wt_context.specs.Nodes.{segments}
use Rattle.wt_beside_laws.specs.Called.{AllMeetWith, AreGiven, IsCalledContent, IsCalledHeading, items_with, later_with, line_with, lines_with}
use Rattle.wt_beside_laws.specs.Flat.{AreFlat}
use Rattle.wt_beside_laws.specs.SpelledApart.{HasEvenToggles}
use Rattle.wt_beside_laws.specs.Styled.{AreNested, StyledContent, delimiter, finished, sign, signs_before, signs_in, signs_past, styled}
use Rattle.wt_beside_laws.specs.StyledCalls.{IsStyledCalled, IsStyledCalledHeading, owns_left, owns_past}
use Rattle.wt_beside_laws.proofs.Groups.CalledLines.{lines_from}
use Rattle.wt_beside_laws.proofs.LineSegments.{segments_are}
use Rattle.wt_beside_laws.proofs.Styled.NestToggles.{nest_even}
use Rattle.wt_beside_laws.proofs.Styled.StyledLines.{within_style}
use Rattle.wt_beside_laws.proofs.StyledGroups.Lines.{AreIn, given_behind, line_cut_of, line_nest, line_whole, own_in, past_mark}
use Rattle.wt_beside_laws.proofs.StyledGroups.Paragraphs.{MeetsBehind, mark_later, mark_meet, meet_behind, none_later}

-- ---- a line

toggles_even : (b : Bool) (s : Setting) (before : List ContentSign) (last : List Item) (t : StyledContent) (owns : List (List Item)) → AreGiven (signs_before t []) owns
    → AreNested false false t → AreIn false false t owns → AllMeetWith s before last (signs_before t []) owns
    → is_odd (is_of b) (toggles_of (chunks (segments context_parts in_line (line_with s before (signs_before t []) owns)))) ≡ false
toggles_even b s before last t owns h k w m =
    let signs : List ContentSign = signs_before t [] in
    let r = line_nest s before t owns h k w in
    ap (λ us. is_odd (is_of b) (toggles_of (chunks us)))
    (segments_are (line_cut_of s before signs owns h) (line_with s before signs owns) (line_whole s before last signs owns h m) ∙ r.is)
    ∙ nest_even b r.nest r.nested

even : (s : Setting) (before : List ContentSign) (last : List Item) (t : StyledContent) (owns : List (List Item)) → AreGiven (signs_before t []) owns
    → AreNested false false t → AreIn false false t owns → AllMeetWith s before last (signs_before t []) owns → HasEvenToggles (line_with s before (signs_before t []) owns)
even s before last t owns h k w m = record { bold = toggles_even true s before last t owns h k w m; italic = toggles_even false s before last t owns h k w m }

-- ---- the lines behind it

if_even : (v : Bool) (l : List Item) (ls : List (List Item)) → HasEvenToggles l → AllByRecursion HasEvenToggles ls
    → AllByRecursion HasEvenToggles (if v then l ∷ ls else ls)
if_even true l ls h hs = (h, hs)
if_even false l ls h hs = hs

later_even : (s : Setting) (before : List ContentSign) (last : List Item) (t : StyledContent) (owns : List (List Item)) → AreGiven (signs_before t []) owns
    → AreNested false false t → AreIn false false t owns → AllMeetWith s before last (signs_before t []) owns
    → AllByRecursion HasEvenToggles (later_with s before (signs_before t []) owns)
later_even s before last finished owns h k w m = tt
later_even s before last (sign (letter c) t) owns h k w m =
    let signs : List ContentSign = signs_before t [] in
    if_even (c == 10) (line_with s (letter c ∷ before) signs owns) (later_with s (letter c ∷ before) signs owns) (even s (letter c ∷ before) [] t owns h k.1 w m)
    (later_even s (letter c ∷ before) [] t owns h k.1 w m)
later_even s before last (sign (thing x) t) [] h k w m = absurd h
later_even s before last (sign (thing x) t) (own ∷ owns) h k w m = later_even s (thing x ∷ before) own t owns h.1 k.1 w.1 m.1
later_even s before last (styled kind opening closing inside t) owns h k w m =
    let first : List ContentSign = delimiter kind opening ∷ before in
    let signs : List ContentSign = signs_before t [] in
    let closes : List ContentSign = delimiter kind closing ∷ signs in
    let held : List ContentSign = signs_before inside closes in
    let inner : List (List Item) = owns_left owns in
    let behind : List (List Item) = owns_past inside inner in
    let given_in : AreGiven held inner = past_mark kind opening held owns h in
    let given_end : AreGiven closes behind = given_behind inside closes inner given_in in
    let a : MeetsBehind s first held inner = mark_meet s before last kind opening held owns h m in
    let b : MeetsBehind s (signs_past inside first) closes behind = meet_behind s first a.last inside closes inner given_in a.meet in
    let c : MeetsBehind s (delimiter kind closing ∷ signs_past inside first) signs (owns_left behind) =
    mark_meet s (signs_past inside first) b.last kind closing signs behind given_end b.meet in
    subst (AllByRecursion HasEvenToggles)
    (sym
    (mark_later s before kind opening held owns h
    ∙ none_later s (kind || false) (not kind || false) inside first closes inner given_in k.1 (within_style kind false false)
    ∙ mark_later s (signs_past inside first) kind closing signs behind given_end))
    (later_even s (delimiter kind closing ∷ signs_past inside first) c.last t (owns_left behind) (past_mark kind closing signs behind given_end) k.2 w.1 c.meet)

all_even : (s : Setting) (t : StyledContent) (owns : List (List Item)) → AreGiven (signs_in t) owns → AreNested false false t → AreIn false false t owns
    → AllMeetWith s [] [] (signs_in t) owns → AllByRecursion HasEvenToggles (lines (items_with s [] (signs_in t) owns))
all_even s t owns h k w m =
    subst (AllByRecursion HasEvenToggles) (sym (lines_from s [] (signs_in t) owns h)) (even s [] [] t owns h k w m, later_even s [] [] t owns h k w m)

pub styled_even : (s : Setting) (t : StyledContent) (owns : List (List Item)) → IsStyledCalled s t owns
    → AllByRecursion HasEvenToggles (lines (items_with s [] (signs_in t) owns))
styled_even s t owns h = all_even s t owns h.given h.nested (own_in false false t owns h.own) h.meet

pub styled_heading_even : (s : Setting) (t : StyledContent) (owns : List (List Item)) → IsStyledCalledHeading s t owns
    → AllByRecursion HasEvenToggles (lines (items_with s [] (signs_in t) owns))
styled_heading_even s t owns h = all_even s t owns h.given h.nested (own_in false false t owns h.own) h.meet

-- ---- without styles

abbrev unstyled : List ContentSign → StyledContent
unstyled [] = finished
unstyled (c ∷ signs) = sign c (unstyled signs)

signs_unstyled : (signs : List ContentSign) → signs_in (unstyled signs) ≡ signs
signs_unstyled [] = refl
signs_unstyled (c ∷ signs) = ap (λ (ds : List ContentSign). c ∷ ds) (signs_unstyled signs)

nested_unstyled : (signs : List ContentSign) → AreFlat signs → AreNested false false (unstyled signs)
nested_unstyled [] f = tt
nested_unstyled (letter c ∷ signs) f = (λ e. absurd (cc), nested_unstyled signs f)
nested_unstyled (thing x ∷ signs) f = (f.0, nested_unstyled signs f.1)

in_unstyled : (signs : List ContentSign) (owns : List (List Item)) → AreIn false false (unstyled signs) owns
in_unstyled [] owns = tt
in_unstyled (letter c ∷ signs) owns = in_unstyled signs owns
in_unstyled (thing x ∷ signs) [] = tt
in_unstyled (thing x ∷ signs) (own ∷ owns) = (tt, in_unstyled signs owns)

flat_even : (s : Setting) (signs : List ContentSign) (owns : List (List Item)) → AreGiven signs owns → AreFlat signs → AllMeetWith s [] [] signs owns
    → AllByRecursion HasEvenToggles (lines (items_with s [] signs owns))
flat_even s signs owns h f m =
    subst (λ (ds : List ContentSign). AreGiven ds owns → AllMeetWith s [] [] ds owns → AllByRecursion HasEvenToggles (lines (items_with s [] ds owns))) (signs_unstyled signs)
    (λ g n. all_even s (unstyled signs) owns g (nested_unstyled signs f) (in_unstyled signs owns) n) h m

pub called_even : (s : Setting) (signs : List ContentSign) (owns : List (List Item)) → IsCalledContent s signs owns
    → AllByRecursion HasEvenToggles (lines (items_with s [] signs owns))
called_even s signs owns h = flat_even s signs owns h.given h.flat h.meet

pub heading_even : (s : Setting) (signs : List ContentSign) (owns : List (List Item)) → IsCalledHeading s signs owns
    → AllByRecursion HasEvenToggles (lines (items_with s [] signs owns))
heading_even s signs owns h = flat_even s signs owns h.given h.flat h.meet

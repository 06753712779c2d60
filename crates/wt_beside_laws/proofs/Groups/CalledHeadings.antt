-- A heading of texts beside calls: it is on one line, keeps its level, and holds its calls.
use Rattle.std.proofs.Common.{arith, ◌≡◌, inr, ℕ, zero, suc, ◌≤◌, Bool, true, false, List, [], ◌∷◌, ◌++◌, map, refl, sym, ap, ◌∙◌, subst}
use Rattle.std.specs.Prelude.{if◌then◌else◌}
use Rattle.std.specs.List.{list_any}
use Rattle.wt_tree.specs.declared.kind.Kind.TheVariants as kind
use Rattle.wt_tree.specs.declared.edit_shape.Place.TheVariants as place
use Rattle.wt_span.specs.Bytes.{is_blank}
use Rattle.wt_span.specs.Items.{Item, sign}
use Rattle.wt_span.specs.Origins.{OuterCall}
use Rattle.wt_guards.specs.Content.{ContentSign, letter, thing}
use Rattle.wt_guards.specs.Guards.{Setting, is_guarded}
use Rattle.wt_guards.specs.Letters.{is_escaped}
use Rattle.wt_typed_blocks.proofs.Lines.{end_guarded}
use Rattle.wt_expand.specs.PageItems.{page_items}
use Rattle.wt_inline.specs.declared.loose.Loose.TheVariants.{Text}
use Rattle.wt_inline.specs.ItemTree.{plain, inner, forest, held_by_all}
use Rattle.wt_inline.specs.Parts.{Part, parts, children}
use Rattle.wt_context.specs.Line.{line_parts}
use Rattle.wt_annotated.specs.Clean.{is_page}
use Rattle.wt_part_laws.specs.CallPieces.{ArePieceNodes}
use Rattle.wt_part_laws.specs.HeldCalls.{block_in, HoldsItsCalls, IsRoundGiven, block_of_pieces}
use Rattle.wt_part_laws.proofs.HeldBlocks.{given_hold, given_block_is}
use Rattle.wt_text_edit_laws.specs.LonePages.{page_chars}
use Rattle.wt_text_edit_laws.specs.TypedHeadings.{Sides, AreSides, equals, opening, closing_items, heading_round, NoBreaks, BeginsWithout, is_equals_sign, IsHeadingInside, IsOfLevel}
use Rattle.wt_text_edit_laws.proofs.Blocks.BlockLeaves.{items_of_page}
use Rattle.wt_text_edit_laws.proofs.Headings.HeadingRows.{apart_level}
use Rattle.wt_text_edit_laws.proofs.Headings.TypedTexts.{end_by, no_equals, begins_other, begins_still, ends_behind as behind_other}
use Rattle.wt_text_edit_laws.proofs.Texts.TypedShown.{AllOfPage, both_of_page, chars_of_page}
use Rattle.wt_beside_laws.specs.Called.{items_with, line_with, parts_with, line_parts_with, AreGiven, AllEndSeen, IsCalledHeading}
use Rattle.wt_beside_laws.specs.Content.{guard_items, letter_items}
use Rattle.wt_beside_laws.specs.InHeadings.{AreOnOneLine}
use Rattle.wt_beside_laws.specs.Lines.{AreCharacters}
use Rattle.wt_beside_laws.proofs.LineHeadings.{unbroken_both, none_by, guard_none, begins_seen, SeenLast, ends_behind, last_behind, letter_last, end_last, UnequalLast, letter_unequal, end_unequal, begins_unequal, unequal_end}
use Rattle.wt_beside_laws.proofs.LineItems.{letter_unbroken}
use Rattle.wt_beside_laws.proofs.Groups.CalledBlocks.{called_pieces}
use Rattle.wt_beside_laws.proofs.Groups.CalledLines.{given_unbroken, line_opens}
use Rattle.wt_beside_laws.proofs.Groups.CalledParts.{line_parts_are}

-- ---- one line

pub same_items : (s : Setting) (before signs : List ContentSign) (owns : List (List Item)) → AreOnOneLine signs → line_with s before signs owns ≡ items_with s before signs owns
same_items s before [] owns o = refl
same_items s before (letter c ∷ after) owns o =
    let guard : List Item = guard_items (is_guarded s before (letter c ∷ after)) in
    let own : List Item = letter_items (is_escaped s.within s.place before c after) c in
    ap (λ (t : Bool). guard ++ (if t then [] else own ++ line_with s (letter c ∷ before) after owns)) o.0
    ∙ ap (λ xs. guard ++ (own ++ xs)) (same_items s (letter c ∷ before) after owns o.1)
same_items s before (thing t ∷ after) [] o = refl
same_items s before (thing t ∷ after) (own ∷ owns) o =
    ap (λ xs. guard_items (is_guarded s before (thing t ∷ after)) ++ (own ++ xs)) (same_items s (thing t ∷ before) after owns o)

same_parts : (s : Setting) (before signs : List ContentSign) (owns : List (List Item)) → AreOnOneLine signs
    → line_parts_with s before signs owns ≡ parts_with s before signs owns
same_parts s before [] owns o = refl
same_parts s before (letter c ∷ after) owns o =
    let guard : List Part = parts Text (guard_items (is_guarded s before (letter c ∷ after))) in
    let own : List Part = parts Text (letter_items (is_escaped s.within s.place before c after) c) in
    ap (λ (t : Bool). guard ++ (if t then [] else own ++ line_parts_with s (letter c ∷ before) after owns)) o.0
    ∙ ap (λ ps. guard ++ (own ++ ps)) (same_parts s (letter c ∷ before) after owns o.1)
same_parts s before (thing t ∷ after) [] o = refl
same_parts s before (thing t ∷ after) (own ∷ owns) o =
    ap (λ ps. parts Text (guard_items (is_guarded s before (thing t ∷ after))) ++ (line_parts own ++ ps)) (same_parts s (thing t ∷ before) after owns o)

unbroken : (s : Setting) (before signs : List ContentSign) (owns : List (List Item)) → AreOnOneLine signs → AreGiven signs owns → NoBreaks (items_with s before signs owns)
unbroken s before [] owns o h = guard_none (is_guarded s before [])
unbroken s before (letter c ∷ after) owns o h =
    let e = is_escaped s.within s.place before c after in
    let more : List Item = items_with s (letter c ∷ before) after owns in
    unbroken_both (guard_items (is_guarded s before (letter c ∷ after))) (letter_items e c ++ more) (guard_none (is_guarded s before (letter c ∷ after)))
    (unbroken_both (letter_items e c) more (none_by (letter_items e c) (letter_unbroken e c o.0)) (unbroken s (letter c ∷ before) after owns o.1 h))
unbroken s before (thing t ∷ after) [] o h = absurd h
unbroken s before (thing t ∷ after) (own ∷ owns) o h =
    let more : List Item = items_with s (thing t ∷ before) after owns in
    unbroken_both (guard_items (is_guarded s before (thing t ∷ after))) (own ++ more) (guard_none (is_guarded s before (thing t ∷ after)))
    (unbroken_both own more (none_by own (given_unbroken t own h.0)) (unbroken s (thing t ∷ before) after owns o h.1))

-- ---- what is last

items_last : (s : Setting) (before signs : List ContentSign) (owns : List (List Item)) (own : List Item) → s.within ≡ false → s.place ≡ place.Heading
    → AreGiven signs owns → AllEndSeen owns → (is_guarded s before [] ≡ false → SeenLast own) → SeenLast (own ++ items_with s before signs owns)
items_last s before [] owns own w p h e f = end_last (is_guarded s before []) own f
items_last s before (letter c ∷ after) owns own w p h e f =
    let t = is_escaped s.within s.place before c after in
    let next : List Item = letter_items t c in
    let more : List Item = items_with s (letter c ∷ before) after owns in
    let guard : List Item = guard_items (is_guarded s before (letter c ∷ after)) in
    last_behind own (guard ++ (next ++ more)) (last_behind guard (next ++ more)
    (items_last s (letter c ∷ before) after owns next w p h e (λ z. letter_last t c (λ y. end_by s before c w p z))))
items_last s before (thing t ∷ after) [] own w p h e f = absurd h
items_last s before (thing t ∷ after) (next ∷ owns) own w p h e f =
    let more : List Item = items_with s (thing t ∷ before) after owns in
    let guard : List Item = guard_items (is_guarded s before (thing t ∷ after)) in
    last_behind own (guard ++ (next ++ more)) (last_behind guard (next ++ more) (items_last s (thing t ∷ before) after owns next w p h.1 e.2 (λ z. e.0)))

items_unequal : (s : Setting) (before : List ContentSign) (next : ContentSign) (after : List ContentSign) (owns : List (List Item)) → AreGiven (next ∷ after) owns
    → AllEndSeen owns → UnequalLast (items_with s before (next ∷ after) owns)
items_unequal s before (letter c) [] owns h e =
    let t = is_escaped s.within s.place before c [] in
    let guard : List Item = guard_items (is_guarded s before (letter c ∷ [])) in
    let end : Bool = is_guarded s (letter c ∷ before) [] in
    ends_behind is_equals_sign guard (letter_items t c ++ guard_items end)
    (end_unequal end (letter_items t c) (letter_unequal t c (λ z. no_equals s.within s.place before c (is_equals_sign c) refl z)))
items_unequal s before (letter c) (d ∷ after) owns h e =
    let own : List Item = letter_items (is_escaped s.within s.place before c (d ∷ after)) c in
    let guard : List Item = guard_items (is_guarded s before (letter c ∷ d ∷ after)) in
    let more : List Item = items_with s (letter c ∷ before) (d ∷ after) owns in
    ends_behind is_equals_sign guard (own ++ more) (ends_behind is_equals_sign own more (items_unequal s (letter c ∷ before) d after owns h e))
items_unequal s before (thing t) after [] h e = absurd h
items_unequal s before (thing t) [] (own ∷ owns) h e =
    let guard : List Item = guard_items (is_guarded s before (thing t ∷ [])) in
    let end : Bool = is_guarded s (thing t ∷ before) [] in
    ends_behind is_equals_sign guard (own ++ guard_items end) (end_unequal end own e.1)
items_unequal s before (thing t) (d ∷ after) (own ∷ owns) h e =
    let guard : List Item = guard_items (is_guarded s before (thing t ∷ d ∷ after)) in
    let more : List Item = items_with s (thing t ∷ before) (d ∷ after) owns in
    ends_behind is_equals_sign guard (own ++ more) (ends_behind is_equals_sign own more (items_unequal s (thing t ∷ before) d after owns h.1 e.2))

all_unequal : (s : Setting) (signs : List ContentSign) (owns : List (List Item)) → s.within ≡ false → AreGiven signs owns → AllEndSeen owns
    → UnequalLast (items_with s [] signs owns)
all_unequal s [] owns w h e = subst (λ (u : Bool). UnequalLast (guard_items u)) (sym (end_guarded s [] w refl)) refl
all_unequal s (next ∷ after) owns w h e = items_unequal s [] next after owns h e

-- ---- the line

-- whatever is between its `=` beside calls
pub given_inside : (s : Setting) (signs : List ContentSign) (owns : List (List Item)) → s.within ≡ false → s.place ≡ place.Heading → AreOnOneLine signs
    → AreCharacters signs → AreGiven signs owns → AllEndSeen owns → IsHeadingInside (items_with s [] signs owns)
given_inside s signs owns w p o v h e = record {
  unbroken = unbroken s [] signs owns o h;
  begins = subst (λ xs. BeginsWithout is_blank (map sign xs)) (same_items s [] signs owns o)
      (begins_seen (line_with s [] signs owns) (line_opens s [] signs owns w refl refl v h));
  ends = items_last s [] signs owns [] w p h e (λ z. let no : true ≡ false = sym (end_guarded s [] w refl) ∙ z in cc);
}

pub given_level : (s : Setting) (signs : List ContentSign) (owns : List (List Item)) (sides : Sides) → s.within ≡ false → AreOnOneLine signs
    → AreCharacters signs → AreGiven signs owns → AllEndSeen owns → AreSides sides → IsOfLevel sides (items_with s [] signs owns)
given_level s signs owns sides w o v h e a =
    let xs : List Item = items_with s [] signs owns in
    let ss : List ℕ = map sign xs in
    let begins : BeginsWithout is_equals_sign ss =
    subst (λ ys. BeginsWithout is_equals_sign (map sign ys)) (same_items s [] signs owns o)
    (begins_unequal (line_with s [] signs owns) (line_opens s [] signs owns w refl refl v h)) in
    apart_level sides xs a (record {
      first = begins_other sides.lead (ss ++ sides.trail) a.lead (begins_still ss sides.trail begins);
      last = behind_other sides.lead (ss ++ sides.trail) (unequal_end ss sides.trail a.trail (inr (all_unequal s signs owns w h e)));
    })

pub heading_inside : (s : Setting) (signs : List ContentSign) (owns : List (List Item)) → IsCalledHeading s signs owns → IsHeadingInside (items_with s [] signs owns)
heading_inside s signs owns h = given_inside s signs owns h.of_block h.of_heading h.one_line h.characters h.given h.end_seen

pub heading_level : (s : Setting) (signs : List ContentSign) (owns : List (List Item)) (sides : Sides) → IsCalledHeading s signs owns → AreSides sides
    → IsOfLevel sides (items_with s [] signs owns)
heading_level s signs owns sides h a = given_level s signs owns sides h.of_block h.one_line h.characters h.given h.end_seen a

pub heading_parts : (s : Setting) (signs : List ContentSign) (owns : List (List Item)) → IsCalledHeading s signs owns
    → line_parts (items_with s [] signs owns) ≡ parts_with s [] signs owns
heading_parts s signs owns h =
    ap line_parts (sym (same_items s [] signs owns h.one_line)) ∙ line_parts_are s [] [] signs owns h.given h.flat h.meet ∙ same_parts s [] signs owns h.one_line

-- ---- its delimiters are the page's

some_chars : (n : ℕ) (bs : List ℕ) (xs : List Item) → 1 ≤ n → list_any is_page (page_chars (equals n ++ bs) ++ xs) ≡ true
some_chars zero bs xs some = absurd (omega (arith, some))
some_chars (suc n) bs xs some = refl

pub closing_page : (sides : Sides) → AllOfPage (closing_items sides)
closing_page sides =
    both_of_page (page_chars (sides.trail ++ equals sides.level)) (page_items sides.rest) (chars_of_page (sides.trail ++ equals sides.level)) (items_of_page sides.rest)

-- whatever texts and nodes are between them
pub round_given : (ps : List Part) (sides : Sides) → ArePieceNodes ps → AreSides sides
    → IsRoundGiven (plain (kind.Heading sides.level)) (page_chars (opening sides)) ps (closing_items sides)
round_given ps sides h a =
    let i : List Item = held_by_all (forest (children ps)) in
    let c : List Item = closing_items sides in
    record {
      no_leaf = refl;
      own_opening = chars_of_page (opening sides);
      own_closing = closing_page sides;
      parts = h;
      some = some_chars sides.level sides.lead (i ++ c) a.some;
    }

heading_given : (s : Setting) (signs : List ContentSign) (owns : List (List Item)) (sides : Sides) → IsCalledHeading s signs owns → AreSides sides
    → IsRoundGiven (plain (kind.Heading sides.level)) (page_chars (opening sides)) (parts_with s [] signs owns) (closing_items sides)
heading_given s signs owns sides h a = round_given (parts_with s [] signs owns) sides (called_pieces s [] signs owns h.own) a

pub heading_holds : (s : Setting) (signs : List ContentSign) (owns : List (List Item)) (sides : Sides) → IsCalledHeading s signs owns → AreSides sides
    → HoldsItsCalls (heading_round sides (items_with s [] signs owns))
heading_holds s signs owns sides h a =
    subst (λ (ps : List Part). HoldsItsCalls (inner (plain (kind.Heading sides.level)) (page_chars (opening sides)) (forest (children ps)) (closing_items sides)))
    (sym (heading_parts s signs owns h))
    (given_hold (plain (kind.Heading sides.level)) (page_chars (opening sides)) (parts_with s [] signs owns) (closing_items sides) (heading_given s signs owns sides h a))

pub heading_block : (calls : List OuterCall) (s : Setting) (signs : List ContentSign) (owns : List (List Item)) (sides : Sides) → IsCalledHeading s signs owns → AreSides sides
    → block_in calls (heading_round sides (items_with s [] signs owns))
    ≡ block_of_pieces calls (plain (kind.Heading sides.level)) (page_chars (opening sides)) (parts_with s [] signs owns) (closing_items sides)
heading_block calls s signs owns sides h a =
    ap (λ (ps : List Part). block_in calls (inner (plain (kind.Heading sides.level)) (page_chars (opening sides)) (forest (children ps)) (closing_items sides)))
    (heading_parts s signs owns h)
    ∙ given_block_is calls (plain (kind.Heading sides.level)) (page_chars (opening sides)) (parts_with s [] signs owns) (closing_items sides) (heading_given s signs owns sides h a)

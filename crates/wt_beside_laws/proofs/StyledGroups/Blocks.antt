-- A paragraph of a content with styles among whose signs are calls holds these: each is a group between items of the page.
use Rattle.std.proofs.Common.{◌≡◌, inl, inr, Bool, true, false, not, List, [], ◌∷◌, ◌++◌, ap, append-nil, refl, subst, sym, ◌||◌, ◌∙◌}
use Rattle.std.specs.List.{list_any}
use Rattle.wt_span.specs.Items.{Item}
use Rattle.wt_span.specs.Origins.{OuterCall}
use Rattle.wt_tree.specs.declared.kind.Kind.TheVariants as kind
use Rattle.wt_guards.specs.Content.{ContentSign, Thing, is_group, letter, thing}
use Rattle.wt_guards.specs.Guards.{Setting, is_guarded}
use Rattle.wt_guards.specs.Letters.{is_escaped}
use Rattle.wt_lines.specs.Lines.{lines}
use Rattle.wt_inline.specs.ItemTree.{ItemTree, plain, tree_items}
use Rattle.wt_inline.specs.Parts.{Part, held_parts, node, parts}
use Rattle.wt_inline.specs.declared.loose.Loose.TheVariants.{Text}
use Rattle.wt_context.proofs.PlainNodes.{AreTexts, text_parts, texts_both}
use Rattle.wt_context.specs.Line.{line_parts}
use Rattle.wt_annotated.specs.Clean.{is_page}
use Rattle.wt_part_laws.proofs.CallPieces.{as_pieces}
use Rattle.wt_part_laws.proofs.HeldBlocks.{given_block_is, given_hold}
use Rattle.wt_part_laws.specs.CallPieces.{AreOwnOrGiven, ArePieceNodes, EachNode, IsPieceNode, IsRoundNode}
use Rattle.wt_part_laws.specs.HeldCalls.{HoldsItsCalls, IsRoundGiven, block_in, block_of_pieces}
use Rattle.wt_text_edit_laws.specs.ParagraphParts.{joined_parts, para_with}
use Rattle.wt_beside_laws.proofs.Groups.CalledBlocks.{OfRound, each_both, guard_own, held_left, held_right, letter_own, page_given, para_items, round_each, some_guard, some_letter, some_of_page, some_page, some_round}
use Rattle.wt_beside_laws.proofs.Groups.RoundNodes.{deep_round}
use Rattle.wt_beside_laws.proofs.Groups.CalledShown.{given_texts}
use Rattle.wt_beside_laws.proofs.LineShown.{guard_texts}
use Rattle.wt_beside_laws.proofs.StyledGroups.Lines.{given_behind, past_mark}
use Rattle.wt_beside_laws.proofs.StyledGroups.Paragraphs.{styled_called_parts}
use Rattle.wt_beside_laws.specs.Called.{AreGiven, HasUncalled, items_with}
use Rattle.wt_beside_laws.specs.Content.{guard_items, letter_items}
use Rattle.wt_beside_laws.specs.Nests.{style_tree}
use Rattle.wt_beside_laws.specs.Styled.{AreNested, StyledContent, delimiter, finished, sign, signs_before, signs_in, signs_past, styled}
use Rattle.wt_beside_laws.specs.StyledCalls.{AreOwnAt, IsOfPage, IsOwnAt, IsStyledCalled, owns_left, owns_past, styled_with}

-- ---- its parts are texts and nodes

pub styled_texts : (s : Setting) (bold italic : Bool) (before : List ContentSign) (t : StyledContent) (after : List ContentSign) (owns : List (List Item))
    → AreGiven (signs_before t after) owns → AreNested bold italic t → AreTexts (styled_with false s before t after owns)
styled_texts s bold italic before finished after owns h k = guard_texts (is_guarded s before after)
styled_texts s bold italic before (sign (letter c) t) after owns h k =
    let signs : List ContentSign = signs_before t after in
    let own : List Item = letter_items (is_escaped s.within s.place before c signs) c in
    let more : List Part = styled_with false s (letter c ∷ before) t after owns in
    texts_both (parts Text (guard_items (is_guarded s before (letter c ∷ signs)))) (parts Text own ++ more) (guard_texts (is_guarded s before (letter c ∷ signs)))
    (texts_both (parts Text own) more (text_parts own) (styled_texts s bold italic (letter c ∷ before) t after owns h k.1))
styled_texts s bold italic before (sign (thing x) t) after [] h k = absurd h
styled_texts s bold italic before (sign (thing x) t) after (own ∷ owns) h k =
    let signs : List ContentSign = signs_before t after in
    let more : List Part = styled_with false s (thing x ∷ before) t after owns in
    texts_both (parts Text (guard_items (is_guarded s before (thing x ∷ signs)))) (line_parts own ++ more) (guard_texts (is_guarded s before (thing x ∷ signs)))
    (texts_both (line_parts own) more (given_texts x own h.0 k.0) (styled_texts s bold italic (thing x ∷ before) t after owns h.1 k.1))
styled_texts s bold italic before (styled kind opening closing inside t) after owns h k =
    let first : List ContentSign = delimiter kind opening ∷ before in
    let last : List ContentSign = delimiter kind closing ∷ signs_past inside first in
    let signs : List ContentSign = signs_before t after in
    let closes : List ContentSign = delimiter kind closing ∷ signs in
    let held : List ContentSign = signs_before inside closes in
    let inner : List (List Item) = owns_left owns in
    let behind : List (List Item) = owns_past inside inner in
    let given_in : AreGiven held inner = past_mark kind opening held owns h in
    let given_out : AreGiven signs (owns_left behind) = past_mark kind closing signs behind (given_behind inside closes inner given_in) in
    texts_both (parts Text (guard_items (is_guarded s before (delimiter kind opening ∷ held))))
    (node (style_tree kind (styled_with false s first inside closes inner)) ∷ styled_with false s last t after (owns_left behind))
    (guard_texts (is_guarded s before (delimiter kind opening ∷ held)))
    (tt, styled_texts s bold italic last t after (owns_left behind) given_out k.2)

-- ---- its parts

-- the delimiters of a style are the page's
pub style_round : (kind : Bool) (ps : List Part) → IsRoundNode (style_tree kind ps)
style_round true ps = (refl, refl, refl, refl, refl)
style_round false ps = (refl, refl, refl, refl, refl)

page_each : (P : ItemTree → Type 0) → ((qs : List Part) → AreOwnOrGiven qs → EachNode P qs) → OfRound P → (own : List Item) → IsOfPage own
    → EachNode P (line_parts own)
page_each P f v own (inl p) = f (line_parts own) (page_given (line_parts own) (some_of_page (line_parts own) p))
page_each P f v own (inr r) = round_each P v own r

own_each : (P : ItemTree → Type 0) → ((qs : List Part) → AreOwnOrGiven qs → EachNode P qs) → OfRound P → (bold italic : Bool) (x : Thing)
    (own : List Item) → IsOwnAt bold italic x own → EachNode P (line_parts own)
own_each P f v bold italic x own (inl g) = f (line_parts own) g.1
own_each P f v bold italic x own (inr p) = page_each P f v own p

-- what holds of nodes of the page and of calls, of nodes round calls, and of each style, holds of each of its nodes
pub styled_each : (P : ItemTree → Type 0) → ((qs : List Part) → AreOwnOrGiven qs → EachNode P qs) → OfRound P → (s : Setting)
    (bold italic : Bool) (before : List ContentSign) (t : StyledContent) (after : List ContentSign) (owns : List (List Item)) → AreGiven (signs_before t after) owns → AreNested bold italic t → AreOwnAt bold italic t owns
    → ((kind : Bool) (qs : List Part) → EachNode P qs → AreTexts qs → P (style_tree kind qs)) → EachNode P (styled_with false s before t after owns)
styled_each P f v s bold italic before finished after owns g k h w = let u : Bool = is_guarded s before after in f (parts Text (guard_items u)) (guard_own u)
styled_each P f v s bold italic before (sign (letter c) t) after owns g k h w =
    let signs : List ContentSign = signs_before t after in
    let e : Bool = is_escaped s.within s.place before c signs in
    let u : Bool = is_guarded s before (letter c ∷ signs) in
    let more : List Part = styled_with false s (letter c ∷ before) t after owns in
    each_both P (parts Text (guard_items u)) (parts Text (letter_items e c) ++ more) (f (parts Text (guard_items u)) (guard_own u))
    (each_both P (parts Text (letter_items e c)) more (f (parts Text (letter_items e c)) (letter_own e c))
    (styled_each P f v s bold italic (letter c ∷ before) t after owns g k.1 h w))
styled_each P f v s bold italic before (sign (thing x) t) after [] g k h w = absurd h
styled_each P f v s bold italic before (sign (thing x) t) after (own ∷ owns) g k h w =
    let signs : List ContentSign = signs_before t after in
    let u : Bool = is_guarded s before (thing x ∷ signs) in
    let more : List Part = styled_with false s (thing x ∷ before) t after owns in
    each_both P (parts Text (guard_items u)) (line_parts own ++ more) (f (parts Text (guard_items u)) (guard_own u))
    (each_both P (line_parts own) more (own_each P f v bold italic x own h.0)
    (styled_each P f v s bold italic (thing x ∷ before) t after owns g.1 k.1 h.1 w))
styled_each P f v s bold italic before (styled kind opening closing inside t) after owns g k h w =
    let first : List ContentSign = delimiter kind opening ∷ before in
    let last : List ContentSign = delimiter kind closing ∷ signs_past inside first in
    let signs : List ContentSign = signs_before t after in
    let closes : List ContentSign = delimiter kind closing ∷ signs in
    let held : List ContentSign = signs_before inside closes in
    let inner_owns : List (List Item) = owns_left owns in
    let behind : List (List Item) = owns_past inside inner_owns in
    let outer : List (List Item) = owns_left behind in
    let u : Bool = is_guarded s before (delimiter kind opening ∷ held) in
    let ps : List Part = styled_with false s first inside closes inner_owns in
    let given_in : AreGiven held inner_owns = past_mark kind opening held owns g in
    let given_out : AreGiven signs outer = past_mark kind closing signs behind (given_behind inside closes inner_owns given_in) in
    each_both P (parts Text (guard_items u)) (node (style_tree kind ps) ∷ styled_with false s last t after outer) (f (parts Text (guard_items u)) (guard_own u)) (
      w kind ps (styled_each P f v s (kind || bold) (not kind || italic) first inside closes inner_owns given_in k.1 h.0 w)
          (styled_texts s (kind || bold) (not kind || italic) first inside closes inner_owns given_in k.1),
      styled_each P f v s bold italic last t after outer given_out k.2 h.1 w,
    )

pub styled_own : (s : Setting) (t : StyledContent) (owns : List (List Item)) → AreGiven (signs_in t) owns → AreNested false false t → AreOwnAt false false t owns
    → ArePieceNodes (styled_with false s [] t [] owns)
styled_own s t owns g n w =
    styled_each IsPieceNode (λ qs k. as_pieces qs k) (λ u r e. inr (deep_round u r)) s false false [] t [] owns g n w (λ kind qs k a. inr (style_round kind qs))

-- ---- something of it is the page's own

some_style : (kind : Bool) (ps : List Part) → list_any is_page (tree_items (style_tree kind ps)) ≡ true
some_style true ps = refl
some_style false ps = refl

own_some : (x : Thing) (own : List Item) → IsOwnAt false false x own → is_group x.role ≡ false → list_any is_page (held_parts (line_parts own)) ≡ true
own_some x own h b = elim h [
  | inl g ↦ let no : true ≡ false = sym g.0 ∙ b in absurd (cc)
  | inr k ↦ elim k [
    | inl p ↦ some_page (line_parts own) p
    | inr r ↦ some_round own r
  ]
]

styled_some : (s : Setting) (before : List ContentSign) (t : StyledContent) (owns : List (List Item)) → AreOwnAt false false t owns → HasUncalled s before (signs_in t)
    → list_any is_page (held_parts (styled_with false s before t [] owns)) ≡ true
styled_some s before finished owns h b = some_guard (is_guarded s before []) b
styled_some s before (sign (letter c) t) owns h b =
    let signs : List ContentSign = signs_before t [] in
    let e : Bool = is_escaped s.within s.place before c signs in
    let more : List Part = styled_with false s (letter c ∷ before) t [] owns in
    held_right (parts Text (guard_items (is_guarded s before (letter c ∷ signs)))) (parts Text (letter_items e c) ++ more)
    (held_left (parts Text (letter_items e c)) more (some_letter e c))
styled_some s before (sign (thing x) t) [] h b = absurd h
styled_some s before (sign (thing x) t) (own ∷ owns) h b =
    let more : List Part = styled_with false s (thing x ∷ before) t [] owns in
    let put : Bool = is_guarded s before (thing x ∷ signs_before t []) in
    elim b [
      | inl g ↦ held_left (parts Text (guard_items put)) (line_parts own ++ more) (some_guard put g)
      | inr r ↦
          held_right (parts Text (guard_items put)) (line_parts own ++ more)
          (elim r [
            | inl n ↦ held_left (line_parts own) more (own_some x own h.0 n)
            | inr m ↦ held_right (line_parts own) more (styled_some s (thing x ∷ before) t owns h.1 m)
          ])
    ]
styled_some s before (styled kind opening closing inside t) owns h b =
    let first : List ContentSign = delimiter kind opening ∷ before in
    let closes : List ContentSign = delimiter kind closing ∷ signs_before t [] in
    let held : List ContentSign = signs_before inside closes in
    let inner : List (List Item) = owns_left owns in
    let ps : List Part = styled_with false s first inside closes inner in
    let more : List Part = styled_with false s (delimiter kind closing ∷ signs_past inside first) t [] (owns_left (owns_past inside inner)) in
    let own : List Part = node (style_tree kind ps) ∷ [] in
    held_right (parts Text (guard_items (is_guarded s before (delimiter kind opening ∷ held)))) (node (style_tree kind ps) ∷ more)
    (held_left own more (ap (list_any is_page) (append-nil (tree_items (style_tree kind ps))) ∙ some_style kind ps))

-- ---- the paragraph

styled_round : (s : Setting) (t : StyledContent) (owns : List (List Item)) → IsStyledCalled s t owns
    → IsRoundGiven (plain kind.Para) [] (styled_with false s [] t [] owns) []
styled_round s t owns h =
    let ps : List Part = styled_with false s [] t [] owns in
    record {
      no_leaf = refl;
      own_opening = refl;
      own_closing = refl;
      parts = styled_own s t owns h.given h.nested h.own;
      some = ap (list_any is_page) (para_items ps) ∙ styled_some s [] t owns h.own h.some;
    }

pub styled_called_holds : (s : Setting) (t : StyledContent) (owns : List (List Item)) → IsStyledCalled s t owns
    → HoldsItsCalls (para_with (joined_parts (lines (items_with s [] (signs_in t) owns))))
styled_called_holds s t owns h =
    subst (λ (ps : List Part). HoldsItsCalls (para_with ps)) (sym (styled_called_parts s t owns h))
    (given_hold (plain kind.Para) [] (styled_with false s [] t [] owns) [] (styled_round s t owns h))

pub styled_called_block : (calls : List OuterCall) (s : Setting) (t : StyledContent) (owns : List (List Item)) → IsStyledCalled s t owns
    → block_in calls (para_with (joined_parts (lines (items_with s [] (signs_in t) owns))))
    ≡ block_of_pieces calls (plain kind.Para) [] (styled_with false s [] t [] owns) []
styled_called_block calls s t owns h =
    ap (λ (ps : List Part). block_in calls (para_with ps)) (styled_called_parts s t owns h)
    ∙ given_block_is calls (plain kind.Para) [] (styled_with false s [] t [] owns) [] (styled_round s t owns h)

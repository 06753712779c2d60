-- What a content with styles beside calls shows: its texts as they were typed, each node and what each call gives as they are shown by themselves,
-- and bold and italic round them.
use Rattle.std.proofs.Common.{◌≡◌, inr, Bool, true, false, not, List, [], ◌∷◌, ◌++◌, ap, append-nil, refl, sym, ◌||◌, ◌∙◌}
use Rattle.std.specs.Prelude.{encode_utf8}
use Rattle.wt_span.specs.Items.{Item}
use Rattle.wt_span.specs.Origins.{OuterCall}
use Rattle.wt_tree.specs.Plain.{Plains, along, element, ended, plain_before, plains_before, text_before}
use Rattle.wt_tree.specs.Tree.{Tree}
use Rattle.wt_guards.specs.Content.{ContentSign, letter, thing}
use Rattle.wt_guards.specs.Guards.{Setting, is_guarded}
use Rattle.wt_guards.specs.Letters.{is_escaped}
use Rattle.wt_lines.specs.Lines.{lines}
use Rattle.wt_inline.specs.ItemTree.{plain}
use Rattle.wt_inline.specs.Parts.{Part, children, loose, node, parts}
use Rattle.wt_inline.specs.declared.loose.Loose.TheVariants.{Text}
use Rattle.wt_context.proofs.PlainNodes.{AreTexts}
use Rattle.wt_context.specs.Line.{line_parts}
use Rattle.wt_context.specs.Styled.{style_kind}
use Rattle.wt_annotated.specs.CutTexts.{all_cut_texts, cut_texts}
use Rattle.wt_selser.specs.GroupFaults.{paragraph_face}
use Rattle.wt_part_laws.proofs.HeldBlocks.{given_block_is}
use Rattle.wt_part_laws.specs.CallPieces.{ArePieceNodes, EachNode, call_pieces, pieces_in_page}
use Rattle.wt_part_laws.specs.HeldCalls.{IsRoundGiven, block_in, block_of_pieces}
use Rattle.wt_text_edit_laws.specs.ParagraphParts.{joined_parts, para_with}
use Rattle.wt_beside_laws.proofs.Groups.CalledShown.{given_texts}
use Rattle.wt_beside_laws.proofs.Groups.GivenNodes.{IsShownAlike, as_piece, as_shown, shown_in_page}
use Rattle.wt_beside_laws.proofs.LineShown.{children_show, guard_shows, letter_shows, one_by_one, shown_append}
use Rattle.wt_beside_laws.proofs.Styled.StyledShown.{style_shows}
use Rattle.wt_beside_laws.proofs.Groups.RoundNodes.{deep_round, round_alike}
use Rattle.wt_beside_laws.proofs.StyledGroups.Blocks.{style_round, styled_called_block, styled_each, styled_texts}
use Rattle.wt_beside_laws.proofs.StyledGroups.Lines.{given_behind, past_mark}
use Rattle.wt_beside_laws.specs.Called.{AreGiven, items_with}
use Rattle.wt_beside_laws.specs.Content.{guard_items, letter_items}
use Rattle.wt_beside_laws.specs.Nests.{marks, style_tree}
use Rattle.wt_beside_laws.specs.Styled.{AreNested, StyledContent, delimiter, finished, sign, signs_before, signs_in, signs_past, styled}
use Rattle.wt_beside_laws.specs.StyledCalls.{AreOwnAt, IsStyledCalled, owns_left, owns_past, styled_called_shown, styled_with}
use Rattle.wt_beside_laws.specs.StyledShown.{style_shown}

-- ---- what they show, one by one

pub styled_show : (s : Setting) (bold italic : Bool) (before : List ContentSign) (t : StyledContent) (after : List ContentSign) (owns : List (List Item)) (rest : Plains)
    → AreGiven (signs_before t after) owns → AreNested bold italic t → one_by_one (styled_with false s before t after owns) rest ≡ styled_called_shown t owns rest
styled_show s bold italic before finished after owns rest h k =
    ap (λ ps. one_by_one ps rest) (sym (append-nil (parts Text (guard_items (is_guarded s before after))))) ∙ guard_shows (is_guarded s before after) [] rest
styled_show s bold italic before (sign (letter c) t) after owns rest h k =
    let signs : List ContentSign = signs_before t after in
    let e : Bool = is_escaped s.within s.place before c signs in
    let more : List Part = styled_with false s (letter c ∷ before) t after owns in
    guard_shows (is_guarded s before (letter c ∷ signs)) (parts Text (letter_items e c) ++ more) rest
    ∙ letter_shows e c more rest
    ∙ ap (text_before (encode_utf8 c)) (styled_show s bold italic (letter c ∷ before) t after owns rest h k.1)
styled_show s bold italic before (sign (thing x) t) after [] rest h k = absurd h
styled_show s bold italic before (sign (thing x) t) after (own ∷ owns) rest h k =
    let signs : List ContentSign = signs_before t after in
    let more : List Part = styled_with false s (thing x ∷ before) t after owns in
    guard_shows (is_guarded s before (thing x ∷ signs)) (line_parts own ++ more) rest
    ∙ shown_append (line_parts own) more rest
    ∙ ap (one_by_one (line_parts own)) (styled_show s bold italic (thing x ∷ before) t after owns rest h.1 k.1)
    ∙ sym (children_show 0 [] (line_parts own) (styled_called_shown t owns rest) (given_texts x own h.0 k.0))
styled_show s bold italic before (styled kind opening closing inside t) after owns rest h k =
    let first : List ContentSign = delimiter kind opening ∷ before in
    let last : List ContentSign = delimiter kind closing ∷ signs_past inside first in
    let signs : List ContentSign = signs_before t after in
    let closes : List ContentSign = delimiter kind closing ∷ signs in
    let held : List ContentSign = signs_before inside closes in
    let inner : List (List Item) = owns_left owns in
    let behind : List (List Item) = owns_past inside inner in
    let outer : List (List Item) = owns_left behind in
    let given_in : AreGiven held inner = past_mark kind opening held owns h in
    let given_out : AreGiven signs outer = past_mark kind closing signs behind (given_behind inside closes inner given_in) in
    let ps : List Part = styled_with false s first inside closes inner in
    let more : List Part = styled_with false s last t after outer in
    guard_shows (is_guarded s before (delimiter kind opening ∷ held)) (node (style_tree kind ps) ∷ more) rest
    ∙ style_shows kind ps (one_by_one more rest) (styled_texts s (kind || bold) (not kind || italic) first inside closes inner given_in k.1)
    ∙ ap (λ (own : Plains). style_shown kind own (one_by_one more rest)) (styled_show s (kind || bold) (not kind || italic) first inside closes inner ended given_in k.1)
    ∙ ap (style_shown kind (styled_called_shown inside inner ended)) (styled_show s bold italic last t after outer rest given_out k.2)

-- ---- a style shows what is in it, also where calls give something there

style_in_page : (calls : List OuterCall) (kind : Bool) (ps : List Part) (rest : Plains)
    → plain_before (cut_texts (block_of_pieces calls (plain (style_kind kind)) (marks kind) ps (marks kind))) rest
    ≡ style_shown kind (plains_before (all_cut_texts (pieces_in_page calls (call_pieces (children ps)))) ended) rest
style_in_page calls true ps rest = refl
style_in_page calls false ps rest = refl

style_given : (kind : Bool) (ps : List Part) → ArePieceNodes ps → IsRoundGiven (plain (style_kind kind)) (marks kind) ps (marks kind)
style_given true ps h = record { no_leaf = refl; own_opening = refl; own_closing = refl; parts = h; some = refl }
style_given false ps h = record { no_leaf = refl; own_opening = refl; own_closing = refl; parts = h; some = refl }

as_pieces_of : (calls : List OuterCall) (ps : List Part) → EachNode (IsShownAlike calls) ps → ArePieceNodes ps
as_pieces_of calls [] h = tt
as_pieces_of calls (loose k o b ∷ ps) h = as_pieces_of calls ps h
as_pieces_of calls (node t ∷ ps) h = (as_piece calls t h.0, as_pieces_of calls ps h.1)

style_alike : (calls : List OuterCall) (kind : Bool) (ps : List Part) → EachNode (IsShownAlike calls) ps → AreTexts ps → IsShownAlike calls (style_tree kind ps)
style_alike calls kind ps h t =
    inr (
      style_round kind ps,
      λ rest.
          ap (λ (u : Tree). plain_before (cut_texts u) rest)
          (given_block_is calls (plain (style_kind kind)) (marks kind) ps (marks kind) (style_given kind ps (as_pieces_of calls ps h)))
          ∙ style_in_page calls kind ps rest
          ∙ ap (λ (own : Plains). style_shown kind own rest) (shown_in_page calls ps ended h t)
          ∙ sym (style_shows kind ps rest t),
    )

-- ---- its nodes in the page

pub styled_children : (calls : List OuterCall) (s : Setting) (t : StyledContent) (owns : List (List Item)) → AreGiven (signs_in t) owns → AreNested false false t
    → AreOwnAt false false t owns
    → plains_before (all_cut_texts (pieces_in_page calls (call_pieces (children (styled_with false s [] t [] owns))))) ended ≡ styled_called_shown t owns ended
styled_children calls s t owns h n w =
    shown_in_page calls (styled_with false s [] t [] owns) ended
    (styled_each (IsShownAlike calls) (λ qs g. as_shown calls qs g) (λ u r e. inr (deep_round u r, round_alike calls u r)) s false false [] t [] owns h n w (λ kind qs g a. style_alike calls kind qs g a))
    (styled_texts s false false [] t [] owns h n)
    ∙ styled_show s false false [] t [] owns ended h n

-- ---- the paragraph

pub styled_called_shows : (calls : List OuterCall) (s : Setting) (t : StyledContent) (owns : List (List Item)) (rest : Plains) → IsStyledCalled s t owns
    → plain_before (cut_texts (block_in calls (para_with (joined_parts (lines (items_with s [] (signs_in t) owns)))))) rest
    ≡ along (element paragraph_face (styled_called_shown t owns ended)) rest
styled_called_shows calls s t owns rest h =
    ap (λ (u : Tree). plain_before (cut_texts u) rest) (styled_called_block calls s t owns h)
    ∙ ap (λ (qs : Plains). along (element paragraph_face qs) rest) (styled_children calls s t owns h.given h.nested h.own)

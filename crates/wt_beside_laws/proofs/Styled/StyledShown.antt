-- A content with styles shows its texts and its nodes, with bold and italic round them.
use Rattle.std.proofs.Common.{◌≡◌, ℕ, Bool, true, false, not, None, List, [], ◌∷◌, ◌++◌, sym, ap, ◌∙◌, append-nil}
use Rattle.std.specs.Prelude.{◌||◌, encode_utf8}
use Rattle.wt_tree.specs.Plain.{Plains, ended, along, element, text_before, plain_before}
use Rattle.wt_span.specs.Items.{Item}
use Rattle.wt_guards.specs.Content.{ContentSign, letter, thing}
use Rattle.wt_guards.specs.Guards.{Setting, is_guarded}
use Rattle.wt_guards.specs.Letters.{is_escaped}
use Rattle.wt_inline.specs.declared.loose.Loose.TheVariants.{Text}
use Rattle.wt_inline.specs.Parts.{Part, node, parts}
use Rattle.wt_context.specs.Line.{line_parts}
use Rattle.wt_context.specs.Styled.{style_kind}
use Rattle.wt_context.proofs.PlainNodes.{AreTexts, texts_both, text_parts}
use Rattle.wt_annotated.specs.Labels.{label_at}
use Rattle.wt_part_laws.specs.Standing.{standing}
use Rattle.wt_beside_laws.specs.Content.{guard_items, letter_items}
use Rattle.wt_beside_laws.specs.Nests.{marks, style_tree}
use Rattle.wt_beside_laws.specs.Nodes.{AreNodes}
use Rattle.wt_beside_laws.specs.Shown.{parts_shown_at}
use Rattle.wt_beside_laws.specs.Styled.{StyledContent, finished, sign, styled, delimiter, signs_before, signs_past, AreNested, IsStyledContent, styled_parts}
use Rattle.wt_beside_laws.specs.StyledShown.{style_shown, styled_shown}
use Rattle.wt_beside_laws.proofs.LineParts.{node_texts}
use Rattle.wt_beside_laws.proofs.LineShown.{one_by_one, shown_append, children_show, guard_shows, letter_shows, guard_texts}
use Rattle.wt_beside_laws.proofs.Styled.StyledLines.{nodes_behind}
use Rattle.wt_beside_laws.specs.NodeItems.{node_items}

-- ---- a style

pub style_shows : (kind : Bool) (ps : List Part) (rest : Plains) → AreTexts ps → plain_before (standing 0 [] (style_tree kind ps)) rest ≡ style_shown kind (one_by_one ps ended) rest
unfolding label_at
style_shows true ps rest t =
    ap (λ (held : Plains). along (element (record { kind = style_kind true; attrs = []; mw = None }) held) rest) (children_show 1 (marks true) ps ended t)
style_shows false ps rest t =
    ap (λ (held : Plains). along (element (record { kind = style_kind false; attrs = []; mw = None }) held) rest) (children_show 1 (marks false) ps ended t)

-- ---- the content

styled_texts : (s : Setting) (bold italic : Bool) (before : List ContentSign) (t : StyledContent) (after : List ContentSign) → AreNodes (signs_before t after)
    → AreNested bold italic t → AreTexts (styled_parts false s before t after)
styled_texts s bold italic before finished after n k = guard_texts (is_guarded s before after)
styled_texts s bold italic before (sign (letter c) t) after n k =
    let signs : List ContentSign = signs_before t after in
    let own : List Item = letter_items (is_escaped s.within s.place before c signs) c in
    let more : List Part = styled_parts false s (letter c ∷ before) t after in
    texts_both (parts Text (guard_items (is_guarded s before (letter c ∷ signs)))) (parts Text own ++ more) (guard_texts (is_guarded s before (letter c ∷ signs)))
    (texts_both (parts Text own) more (text_parts own) (styled_texts s bold italic (letter c ∷ before) t after n k.1))
styled_texts s bold italic before (sign (thing x) t) after n k =
    let signs : List ContentSign = signs_before t after in
    let own : List Part = line_parts (node_items x.source) in
    let more : List Part = styled_parts false s (thing x ∷ before) t after in
    texts_both (parts Text (guard_items (is_guarded s before (thing x ∷ signs)))) (own ++ more) (guard_texts (is_guarded s before (thing x ∷ signs)))
    (texts_both own more (node_texts x k.0 n.0) (styled_texts s bold italic (thing x ∷ before) t after n.1 k.1))
styled_texts s bold italic before (styled kind opening closing inside t) after n k =
    let first : List ContentSign = delimiter kind opening ∷ before in
    let signs : List ContentSign = signs_before t after in
    let held : List ContentSign = signs_before inside (delimiter kind closing ∷ signs) in
    let own : Part = node (style_tree kind (styled_parts false s first inside (delimiter kind closing ∷ signs))) in
    let last : List ContentSign = delimiter kind closing ∷ signs_past inside first in
    texts_both (parts Text (guard_items (is_guarded s before (delimiter kind opening ∷ held)))) (own ∷ styled_parts false s last t after)
    (guard_texts (is_guarded s before (delimiter kind opening ∷ held)))
    (tt, styled_texts s bold italic last t after (nodes_behind inside (delimiter kind closing ∷ signs) n.1).1 k.2)

styled_shows : (s : Setting) (bold italic : Bool) (before : List ContentSign) (t : StyledContent) (after : List ContentSign) (rest : Plains)
    → AreNodes (signs_before t after) → AreNested bold italic t → one_by_one (styled_parts false s before t after) rest ≡ styled_shown t rest
styled_shows s bold italic before finished after rest n k =
    ap (λ ps. one_by_one ps rest) (sym (append-nil (parts Text (guard_items (is_guarded s before after))))) ∙ guard_shows (is_guarded s before after) [] rest
styled_shows s bold italic before (sign (letter c) t) after rest n k =
    let signs : List ContentSign = signs_before t after in
    let own : List Item = letter_items (is_escaped s.within s.place before c signs) c in
    let more : List Part = styled_parts false s (letter c ∷ before) t after in
    guard_shows (is_guarded s before (letter c ∷ signs)) (parts Text own ++ more) rest
    ∙ letter_shows (is_escaped s.within s.place before c signs) c more rest
    ∙ ap (text_before (encode_utf8 c)) (styled_shows s bold italic (letter c ∷ before) t after rest n k.1)
styled_shows s bold italic before (sign (thing x) t) after rest n k =
    let signs : List ContentSign = signs_before t after in
    let own : List Part = line_parts (node_items x.source) in
    let more : List Part = styled_parts false s (thing x ∷ before) t after in
    guard_shows (is_guarded s before (thing x ∷ signs)) (own ++ more) rest
    ∙ shown_append own more rest
    ∙ ap (one_by_one own) (styled_shows s bold italic (thing x ∷ before) t after rest n.1 k.1)
    ∙ sym (children_show 0 [] own (styled_shown t rest) (node_texts x k.0 n.0))
styled_shows s bold italic before (styled kind opening closing inside t) after rest n k =
    let first : List ContentSign = delimiter kind opening ∷ before in
    let signs : List ContentSign = signs_before t after in
    let held : List ContentSign = signs_before inside (delimiter kind closing ∷ signs) in
    let ps : List Part = styled_parts false s first inside (delimiter kind closing ∷ signs) in
    let last : List ContentSign = delimiter kind closing ∷ signs_past inside first in
    let more : List Part = styled_parts false s last t after in
    guard_shows (is_guarded s before (delimiter kind opening ∷ held)) (node (style_tree kind ps) ∷ more) rest
    ∙ style_shows kind ps (one_by_one more rest) (styled_texts s (kind || bold) (not kind || italic) first inside (delimiter kind closing ∷ signs) n.1 k.1)
    ∙ ap (λ (own : Plains). style_shown kind own (one_by_one more rest))
    (styled_shows s (kind || bold) (not kind || italic) first inside (delimiter kind closing ∷ signs) ended n.1 k.1)
    ∙ ap (style_shown kind (styled_shown inside ended))
    (styled_shows s bold italic last t after rest (nodes_behind inside (delimiter kind closing ∷ signs) n.1).1 k.2)

pub styled_is_shown : (n : ℕ) (before : List Item) (s : Setting) (t : StyledContent) (rest : Plains) → IsStyledContent s t
    → parts_shown_at n before (styled_parts false s [] t []) rest ≡ styled_shown t rest
styled_is_shown n before s t rest h =
    children_show n before (styled_parts false s [] t []) rest (styled_texts s false false [] t [] h.nodes h.nested)
    ∙ styled_shows s false false [] t [] rest h.nodes h.nested

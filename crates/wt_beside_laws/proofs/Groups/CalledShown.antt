-- What texts beside calls show: the texts as they were typed, and each node and what each call gives as they are shown by themselves.
use Rattle.std.proofs.Common.{◌≡◌, inl, inr, ℕ, List, [], ◌∷◌, ◌++◌, sym, ap, ◌∙◌, append-nil}
use Rattle.std.specs.Prelude.{encode_utf8}
use Rattle.wt_tree.specs.Plain.{Plains, ended, along, element, text_before, plain_before}
use Rattle.wt_tree.specs.Tree.{Tree}
use Rattle.wt_span.specs.Items.{Item}
use Rattle.wt_span.specs.Origins.{OuterCall}
use Rattle.wt_guards.specs.declared.role.Transclusion.{Transclusion}
use Rattle.wt_guards.specs.Content.{ContentSign, Thing, letter, thing}
use Rattle.wt_guards.specs.Guards.{Setting, is_guarded}
use Rattle.wt_guards.specs.Letters.{is_escaped}
use Rattle.wt_lines.specs.Lines.{lines}
use Rattle.wt_inline.specs.declared.loose.Loose.TheVariants.{Text, Sep}
use Rattle.wt_inline.specs.ItemTree.{forest}
use Rattle.wt_inline.specs.Parts.{Part, loose, node, children, parts}
use Rattle.wt_context.specs.Line.{line_parts}
use Rattle.wt_context.proofs.PlainNodes.{AreTexts, text_parts, texts_both}
use Rattle.wt_annotated.specs.CutTexts.{cut_texts}
use Rattle.wt_selser.specs.GroupFaults.{paragraph_face}
use Rattle.wt_part_laws.specs.CallPieces.{group_of_call}
use Rattle.wt_part_laws.specs.HeldCalls.{block_in}
use Rattle.wt_text_edit_laws.specs.ParagraphParts.{joined_parts, para_with}
use Rattle.wt_beside_laws.specs.Called.{items_with, parts_with, IsGivenAs, AreGiven, called_shown, IsCalledContent}
use Rattle.wt_beside_laws.specs.Content.{guard_items, letter_items}
use Rattle.wt_beside_laws.specs.Flat.{IsFlat, AreFlat}
use Rattle.wt_beside_laws.specs.Given.{AreGivenBy, GivesSigns, IsGroup}
use Rattle.wt_beside_laws.specs.Shown.{parts_shown_at}
use Rattle.wt_beside_laws.proofs.LineParts.{form_texts}
use Rattle.wt_beside_laws.proofs.LineShown.{one_by_one, shown_append, children_show, guard_shows, letter_shows}
use Rattle.wt_beside_laws.proofs.Groups.CalledBlocks.{called_block, parts_alike}
use Rattle.wt_beside_laws.proofs.Groups.Gifts.{given_case}
use Rattle.wt_beside_laws.proofs.Groups.GivenNodes.{group_shows, children_shown, shown_in_page, by_call_children}

-- ---- the signs

by_call_texts : (j : ℕ) (ps : List Part) → AreGivenBy j ps → AreTexts ps
by_call_texts j [] h = tt
by_call_texts j (loose Text o b ∷ ps) h = (tt, by_call_texts j ps h.1)
by_call_texts j (loose Sep o b ∷ ps) h = absurd h
by_call_texts j (node t ∷ ps) h = (tt, by_call_texts j ps h.1)

pub group_texts : (g : Transclusion) (j : ℕ) (own : List Item) → IsGroup g j own → AreTexts (line_parts own)
group_texts g j own h = let k : GivesSigns j own = h.gives in by_call_texts j (line_parts own) k.inside

pub given_texts : (t : Thing) (own : List Item) → IsGivenAs t.role t own → IsFlat t.role → AreTexts (line_parts own)
given_texts t own h f = elim (given_case t.role t own h) [
  | inl n ↦ form_texts t.role own f n.node
  | inr k ↦ group_texts k.0 k.2 own k.3
]

pub parts_texts : (s : Setting) (before signs : List ContentSign) (owns : List (List Item)) → AreGiven signs owns → AreFlat signs
    → AreTexts (parts_with s before signs owns)
parts_texts s before [] owns h f = text_parts (guard_items (is_guarded s before []))
parts_texts s before (letter c ∷ after) owns h f =
    let e = is_escaped s.within s.place before c after in
    texts_both (parts Text (guard_items (is_guarded s before (letter c ∷ after)))) _ (text_parts (guard_items (is_guarded s before (letter c ∷ after))))
    (texts_both (parts Text (letter_items e c)) _ (text_parts (letter_items e c)) (parts_texts s (letter c ∷ before) after owns h f))
parts_texts s before (thing t ∷ after) [] h f = absurd h
parts_texts s before (thing t ∷ after) (own ∷ owns) h f =
    texts_both (parts Text (guard_items (is_guarded s before (thing t ∷ after)))) _ (text_parts (guard_items (is_guarded s before (thing t ∷ after))))
    (texts_both (line_parts own) _ (given_texts t own h.0 f.0) (parts_texts s (thing t ∷ before) after owns h.1 f.1))

pub parts_show : (s : Setting) (before signs : List ContentSign) (owns : List (List Item)) (rest : Plains) → AreGiven signs owns → AreFlat signs
    → one_by_one (parts_with s before signs owns) rest ≡ called_shown signs owns rest
parts_show s before [] owns rest h f =
    ap (λ ps. one_by_one ps rest) (sym (append-nil (parts Text (guard_items (is_guarded s before []))))) ∙ guard_shows (is_guarded s before []) [] rest
parts_show s before (letter c ∷ after) owns rest h f =
    let e = is_escaped s.within s.place before c after in
    let more : List Part = parts_with s (letter c ∷ before) after owns in
    guard_shows (is_guarded s before (letter c ∷ after)) (parts Text (letter_items e c) ++ more) rest
    ∙ letter_shows e c more rest
    ∙ ap (text_before (encode_utf8 c)) (parts_show s (letter c ∷ before) after owns rest h f)
parts_show s before (thing t ∷ after) [] rest h f = absurd h
parts_show s before (thing t ∷ after) (own ∷ owns) rest h f =
    let more : List Part = parts_with s (thing t ∷ before) after owns in
    guard_shows (is_guarded s before (thing t ∷ after)) (line_parts own ++ more) rest
    ∙ shown_append (line_parts own) more rest
    ∙ ap (one_by_one (line_parts own)) (parts_show s (thing t ∷ before) after owns rest h.1 f.1)
    ∙ sym (children_show 0 [] (line_parts own) (called_shown after owns rest) (given_texts t own h.0 f.0))

-- ---- the paragraph

pub called_shows : (calls : List OuterCall) (s : Setting) (signs : List ContentSign) (owns : List (List Item)) (rest : Plains) → IsCalledContent s signs owns
    → plain_before (cut_texts (block_in calls (para_with (joined_parts (lines (items_with s [] signs owns)))))) rest
    ≡ along (element paragraph_face (called_shown signs owns ended)) rest
called_shows calls s signs owns rest h =
    let ps : List Part = parts_with s [] signs owns in
    ap (λ (t : Tree). plain_before (cut_texts t) rest) (called_block calls s signs owns h)
    ∙ ap (λ (qs : Plains). along (element paragraph_face qs) rest)
    (shown_in_page calls ps ended (parts_alike calls s [] signs owns h.own) (parts_texts s [] signs owns h.given h.flat) ∙ parts_show s [] signs owns ended h.given h.flat)

-- ---- a group

-- it shows what its items show by themselves
pub group_parts_show : (calls : List OuterCall) (g : Transclusion) (j : ℕ) (own : List Item) (rest : Plains) → IsGroup g j own
    → plain_before (cut_texts (group_of_call calls j (forest (children (line_parts own))))) rest ≡ parts_shown_at 0 [] (line_parts own) rest
group_parts_show calls g j own rest h =
    let k : GivesSigns j own = h.gives in
    group_shows calls j (children (line_parts own)) rest (by_call_children j (line_parts own) k.inside)
    ∙ children_shown (line_parts own) rest (group_texts g j own h)
    ∙ sym (children_show 0 [] (line_parts own) rest (group_texts g j own h))

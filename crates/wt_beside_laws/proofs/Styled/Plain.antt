-- A content without styles is one with styles, of which it has none: so what is proved of these holds of it.
use Rattle.std.proofs.Common.{◌≡◌, ℕ, ◌==◌, Bool, true, false, List, [], ◌∷◌, ◌++◌, refl, sym, ap, ◌∙◌, subst}
use Rattle.std.specs.Prelude.{if◌then◌else◌, encode_utf8}
use Rattle.wt_span.specs.Items.{Item}
use Rattle.wt_tree.specs.Plain.{Plains, text_before}
use Rattle.wt_tree.specs.declared.edit_shape.Place.TheVariants as place
use Rattle.wt_guards.specs.Content.{ContentSign, letter, thing}
use Rattle.wt_guards.specs.Guards.{Setting, is_guarded, spelled}
use Rattle.wt_guards.specs.Letters.{is_escaped}
use Rattle.wt_expand.specs.PageItems.{page_items}
use Rattle.wt_lines.specs.Lines.{empty_end}
use Rattle.wt_inline.specs.declared.loose.Loose.TheVariants.{Text}
use Rattle.wt_inline.specs.Parts.{Part, parts}
use Rattle.wt_tiles.specs.Contexts.{in_line}
use Rattle.wt_context.specs.Line.{context_parts, line_parts}
use Rattle.wt_context.specs.Nodes.{segments}
use Rattle.wt_context.specs.RunCuts.{has_run}
use Rattle.wt_page.specs.Headings.{heading}
use Rattle.wt_page.specs.Body.{meaning}
use Rattle.wt_page.specs.Rows.{rows}
use Rattle.wt_page.specs.Texts.{para}
use Rattle.wt_text_edit_laws.specs.ParagraphBetween.{AreClosed, before_marks, EndsApart, EndsParagraph, blocks_in, body_with}
use Rattle.wt_text_edit_laws.specs.ParagraphParts.{para_with}
use Rattle.wt_text_edit_laws.specs.TypedHeadings.{Sides, AreSides, heading_line, IsOfLevel, EndsLine}
use Rattle.wt_beside_laws.specs.Content.{AreKept, guard_items, letter_items}
use Rattle.wt_beside_laws.specs.Flat.{AreFlat, IsFlatContent, content_parts}
use Rattle.wt_beside_laws.specs.InHeadings.{AreOnOneLine, IsHeadingContent, heading_of}
use Rattle.wt_beside_laws.specs.Led.{AreMarksLed}
use Rattle.wt_beside_laws.specs.Lines.{AreCharacters, AreUnbroken, line_items, later_lines, content_lines}
use Rattle.wt_beside_laws.specs.Nodes.{AreNodes, AllMeet}
use Rattle.wt_beside_laws.specs.PageBlocks.{AreUnstyled, AreShut}
use Rattle.wt_beside_laws.specs.PageSigns.{signs_of_lines, AreFlatLines}
use Rattle.wt_beside_laws.specs.Shown.{parts_shown_at, content_shown}
use Rattle.wt_beside_laws.specs.Styled.{StyledContent, finished, sign, signs_in, AreNested, IsStyledContent, styled_parts}
use Rattle.wt_beside_laws.specs.StyledHeadings.{IsStyledHeading}
use Rattle.wt_beside_laws.specs.StyledShown.{styled_shown}
use Rattle.wt_beside_laws.proofs.FlatAgain.{EachSource, HoldsOfPut}
use Rattle.wt_beside_laws.proofs.LineParts.{line_unstyled}
use Rattle.wt_beside_laws.proofs.Styled.StyledAgain.{again_each as styled_each, again_lines as styled_lines, again_kept as styled_kept, again_shut as styled_shut}
use Rattle.wt_beside_laws.proofs.Styled.StyledHeadings.{styled_heading, styled_heading_stands}
use Rattle.wt_beside_laws.proofs.Styled.StyledParagraphs.{styled_closed, styled_para, styled_meaning, styled_stands}
use Rattle.wt_beside_laws.proofs.Styled.StyledShown.{styled_is_shown}
use Rattle.wt_beside_laws.specs.NodeItems.{node_items}

-- ---- it, as such a content

abbrev plain : List ContentSign → StyledContent
plain [] = finished
plain (c ∷ after) = sign c (plain after)

signs_are : (signs : List ContentSign) → signs_in (plain signs) ≡ signs
signs_are [] = refl
signs_are (c ∷ after) = ap (λ ss. c ∷ ss) (signs_are after)

outside : (c : ℕ) → false ≡ true → (c == 10) ≡ false
outside c e = absurd (cc)

nested : (signs : List ContentSign) → AreFlat signs → AreNested false false (plain signs)
nested [] f = tt
nested (letter c ∷ after) f = (outside c, nested after f)
nested (thing t ∷ after) f = (f.0, nested after f.1)

content_is : (s : Setting) (signs : List ContentSign) → IsFlatContent s signs → IsStyledContent s (plain signs)
content_is s signs h =
    let e : signs ≡ signs_in (plain signs) = sym (signs_are signs) in
    record {
      of_block = h.of_block;
      characters = subst AreCharacters e h.characters;
      kept = subst AreKept e h.kept;
      nodes = subst AreNodes e h.nodes;
      unbroken = subst AreUnbroken e h.unbroken;
      nested = nested signs h.flat;
      led = subst (AreMarksLed s.place) e h.led;
      meet = subst (λ (ss : List ContentSign). AllMeet s [] ss []) e h.meet;
    }

heading_is : (s : Setting) (signs : List ContentSign) → IsHeadingContent s signs → IsStyledHeading s (plain signs)
heading_is s signs h = record {
  styled = content_is s signs h.flat;
  of_heading = h.of_heading;
  one_line = subst AreOnOneLine (sym (signs_are signs)) h.one_line;
}

parts_are : (s : Setting) (before signs : List ContentSign) → styled_parts false s before (plain signs) [] ≡ content_parts s before signs
parts_are s before [] = refl
parts_are s before (letter c ∷ after) =
    let more : List Part = styled_parts false s (letter c ∷ before) (plain after) [] in
    ap
    (λ (ss : List ContentSign). parts Text (guard_items (is_guarded s before (letter c ∷ ss)))
    ++ (parts Text (letter_items (is_escaped s.within s.place before c ss) c) ++ more))
    (signs_are after)
    ∙ ap
    (λ (ps : List Part). parts Text (guard_items (is_guarded s before (letter c ∷ after)))
    ++ (parts Text (letter_items (is_escaped s.within s.place before c after) c) ++ ps))
    (parts_are s (letter c ∷ before) after)
parts_are s before (thing t ∷ after) =
    let more : List Part = styled_parts false s (thing t ∷ before) (plain after) [] in
    ap (λ (ss : List ContentSign). parts Text (guard_items (is_guarded s before (thing t ∷ ss))) ++ (line_parts (node_items t.source) ++ more)) (signs_are after)
    ∙ ap (λ (ps : List Part). parts Text (guard_items (is_guarded s before (thing t ∷ after))) ++ (line_parts (node_items t.source) ++ ps))
    (parts_are s (thing t ∷ before) after)

shown_are : (signs : List ContentSign) (rest : Plains) → styled_shown (plain signs) rest ≡ content_shown signs rest
shown_are [] rest = refl
shown_are (letter c ∷ after) rest = ap (text_before (encode_utf8 c)) (shown_are after rest)
shown_are (thing t ∷ after) rest = ap (λ (ps : Plains). parts_shown_at 0 [] (line_parts (node_items t.source)) ps) (shown_are after rest)

-- ---- a paragraph

pub closed_is : (s : Setting) (signs : List ContentSign) → s.place ≡ place.Paragraph → IsFlatContent s signs → empty_end (page_items (spelled s signs)) ≡ []
closed_is s signs i h =
    subst (λ (ss : List ContentSign). empty_end (page_items (spelled s ss)) ≡ []) (signs_are signs) (styled_closed s (plain signs) i (content_is s signs h))

pub para_is : (s : Setting) (signs : List ContentSign) → s.place ≡ place.Paragraph → IsFlatContent s signs → para (rows (page_items (spelled s signs))) ≡ para_with (content_parts s [] signs)
para_is s signs i h =
    subst (λ (ss : List ContentSign). para (rows (page_items (spelled s ss))) ≡ para_with (styled_parts false s [] (plain signs) [])) (signs_are signs)
    (styled_para s (plain signs) i (content_is s signs h))
    ∙ ap para_with (parts_are s [] signs)

pub meaning_is : (s : Setting) (signs : List ContentSign) → s.place ≡ place.Paragraph → IsFlatContent s signs
    → meaning (page_items (spelled s signs)) ≡ body_with (para_with (content_parts s [] signs) ∷ [])
meaning_is s signs i h =
    subst (λ (ss : List ContentSign). meaning (page_items (spelled s ss)) ≡ body_with (para_with (styled_parts false s [] (plain signs) []) ∷ [])) (signs_are signs)
    (styled_meaning s (plain signs) i (content_is s signs h))
    ∙ ap (λ (ps : List Part). body_with (para_with ps ∷ [])) (parts_are s [] signs)

pub content_is_shown : (n : ℕ) (before : List Item) (s : Setting) (signs : List ContentSign) (rest : Plains) → IsFlatContent s signs
    → parts_shown_at n before (content_parts s [] signs) rest ≡ content_shown signs rest
content_is_shown n before s signs rest h =
    ap (λ (ps : List Part). parts_shown_at n before ps rest) (sym (parts_are s [] signs))
    ∙ styled_is_shown n before s (plain signs) rest (content_is s signs h)
    ∙ shown_are signs rest

pub paragraph_stands : (before : List Item) (s : Setting) (signs : List ContentSign) (tail : List Item) → EndsApart before → s.place ≡ place.Paragraph
    → IsFlatContent s signs → EndsParagraph tail
    → meaning (before ++ (page_items (spelled s signs) ++ tail)) ≡ body_with (blocks_in before ++ para_with (content_parts s [] signs) ∷ blocks_in tail)
paragraph_stands before s signs tail a i h e =
    subst
    (λ (ss : List ContentSign). meaning (before ++ (page_items (spelled s ss) ++ tail))
    ≡ body_with (blocks_in before ++ para_with (styled_parts false s [] (plain signs) []) ∷ blocks_in tail))
    (signs_are signs) (styled_stands before s (plain signs) tail a i (content_is s signs h) e)
    ∙ ap (λ (ps : List Part). body_with (blocks_in before ++ para_with ps ∷ blocks_in tail)) (parts_are s [] signs)

-- ---- a heading

levelled : (s : Setting) (signs : List ContentSign) (sides : Sides) → IsOfLevel sides (page_items (spelled s signs))
    → IsOfLevel sides (page_items (spelled s (signs_in (plain signs))))
levelled s signs sides p = subst (λ (ss : List ContentSign). IsOfLevel sides (page_items (spelled s ss))) (sym (signs_are signs)) p

pub heading_tree : (s : Setting) (signs : List ContentSign) (sides : Sides) → IsHeadingContent s signs → AreSides sides → IsOfLevel sides (page_items (spelled s signs))
    → heading (heading_line sides (page_items (spelled s signs))) ≡ heading_of sides (content_parts s [] signs)
heading_tree s signs sides h a p =
    subst (λ (ss : List ContentSign). heading (heading_line sides (page_items (spelled s ss))) ≡ heading_of sides (styled_parts false s [] (plain signs) []))
    (signs_are signs) (styled_heading s (plain signs) sides (heading_is s signs h) a (levelled s signs sides p))
    ∙ ap (heading_of sides) (parts_are s [] signs)

pub heading_stands : (before : List Item) (s : Setting) (signs : List ContentSign) (sides : Sides) (tail : List Item) → AreClosed (before_marks before)
    → AreSides sides → IsHeadingContent s signs → IsOfLevel sides (page_items (spelled s signs)) → EndsLine tail
    → meaning (before ++ (heading_line sides (page_items (spelled s signs)) ++ tail))
    ≡ body_with (blocks_in before ++ heading_of sides (content_parts s [] signs) ∷ blocks_in tail)
heading_stands before s signs sides tail c a h p e =
    subst
    (λ (ss : List ContentSign). meaning (before ++ (heading_line sides (page_items (spelled s ss)) ++ tail))
    ≡ body_with (blocks_in before ++ heading_of sides (styled_parts false s [] (plain signs) []) ∷ blocks_in tail))
    (signs_are signs) (styled_heading_stands before s (plain signs) sides tail c a (heading_is s signs h) (levelled s signs sides p) e)
    ∙ ap (λ (ps : List Part). body_with (blocks_in before ++ heading_of sides ps ∷ blocks_in tail)) (parts_are s [] signs)

-- ---- its lines, again

pub again_each : (Q : List ℕ → Type 0) (p : HoldsOfPut Q) (at : ℕ) (s : Setting) (signs : List ContentSign) → IsFlatContent s signs → EachSource Q signs
    → EachSource Q (signs_of_lines at (content_lines s signs))
again_each Q p at s signs h q =
    subst (λ (ss : List ContentSign). EachSource Q (signs_of_lines at (content_lines s ss))) (signs_are signs)
    (styled_each Q p at s (plain signs) (content_is s signs h) (subst (EachSource Q) (sym (signs_are signs)) q))

pub again_flat : (s : Setting) (signs : List ContentSign) → IsFlatContent s signs → AreFlatLines (content_lines s signs)
again_flat s signs h =
    subst (λ (ss : List ContentSign). AreFlatLines (content_lines s ss)) (signs_are signs) (styled_lines s (plain signs) (content_is s signs h))

pub again_kept : (at : ℕ) (s : Setting) (signs : List ContentSign) → IsFlatContent s signs → AreKept (signs_of_lines at (content_lines s signs))
again_kept at s signs h =
    subst (λ (ss : List ContentSign). AreKept (signs_of_lines at (content_lines s ss))) (signs_are signs) (styled_kept at s (plain signs) (content_is s signs h))

pub again_shut : (at : ℕ) (s : Setting) (signs : List ContentSign) → IsFlatContent s signs → AreShut signs → AreShut (signs_of_lines at (content_lines s signs))
again_shut at s signs h k =
    subst (λ (ss : List ContentSign). AreShut (signs_of_lines at (content_lines s ss))) (signs_are signs)
    (styled_shut at s (plain signs) (content_is s signs h) (subst AreShut (sym (signs_are signs)) k))

-- no style begins in them
by_break : (t : Bool) (l : List Item) (ls : List (List Item)) → has_run (segments context_parts in_line l) ≡ false → AreUnstyled ls
    → AreUnstyled (if t then l ∷ ls else ls)
by_break true l ls h k = (h, k)
by_break false l ls h k = k

later_unstyled : (s : Setting) (before signs : List ContentSign) → AreNodes signs → AreFlat signs → AllMeet s before signs [] → AreUnstyled (later_lines s before signs)
later_unstyled s before [] n f m = tt
later_unstyled s before (letter c ∷ after) n f m =
    by_break (c == 10) (line_items s (letter c ∷ before) after) (later_lines s (letter c ∷ before) after) (line_unstyled s (letter c ∷ before) after n f m.2)
    (later_unstyled s (letter c ∷ before) after n f m.2)
later_unstyled s before (thing t ∷ after) n f m = later_unstyled s (thing t ∷ before) after n.1 f.1 m.2

pub again_unstyled : (s : Setting) (signs : List ContentSign) → IsFlatContent s signs → AreUnstyled (content_lines s signs)
again_unstyled s signs h = (line_unstyled s [] signs h.nodes h.flat h.meet, later_unstyled s [] signs h.nodes h.flat h.meet)

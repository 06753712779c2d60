-- A content with styles that is written for a paragraph or a heading may stand in the place of its old content, and is such a block again.
use Rattle.std.proofs.Common.{◌≡◌, ℕ, Bool, true, false, List, [], ◌∷◌, ◌++◌, map, refl, sym, ap, ◌∙◌, subst, inl, inr}
use Rattle.wt_span.specs.Items.{Item, sign as sign_of}
use Rattle.wt_tree.specs.declared.edit_shape.Place.TheVariants as place
use Rattle.wt_guards.specs.declared.role.Role.{Role}
use Rattle.wt_guards.specs.Content.{ContentSign, Thing, letter, thing}
use Rattle.wt_guards.specs.Guards.{Setting, nowiki, spelled}
use Rattle.wt_lines.specs.Lines.{lines}
use Rattle.wt_expand.specs.PageItems.{page_items}
use Rattle.wt_inline.specs.ItemTree.{forest, held_by_all}
use Rattle.wt_inline.specs.Parts.{Part, children}
use Rattle.wt_part_laws.specs.Rounded.{AllHaveItems}
use Rattle.wt_text_edit_laws.specs.Contents.{AreParagraphLines, IsContentOf, content_parts_of, StaysAnywhere, IsNewContent}
use Rattle.wt_text_edit_laws.specs.ParagraphParts.{joined_parts}
use Rattle.wt_text_edit_laws.specs.TextBlocks.{TextBlock, a_paragraph, a_heading, source_of, block_items}
use Rattle.wt_text_edit_laws.specs.TypedHeadings.{Sides}
use Rattle.wt_text_edit_laws.proofs.Between.ClosingTags.{Unclosed, unclosed_untagged}
use Rattle.wt_text_edit_laws.proofs.Blocks.BlockReading.{IsBeforeAny, HasFrame}
use Rattle.wt_text_edit_laws.proofs.Texts.TypedShown.{AllOfPage}
use Rattle.std.specs.Str.{IsUtf8}
use Rattle.wt_text_edit_laws.specs.NoCalls.{Brace, NonePairs, CallsNothing, braces_of, IsSome}
use Rattle.wt_text_edit_laws.proofs.Between.LessBraces.{pairs_some, some_some}
use Rattle.wt_text_edit_laws.proofs.Blocks.TypedBraces.{block_braces, source_braces}
use Rattle.wt_text_edit_laws.proofs.Paragraphs.SeenLines.{texts_seen}
use Rattle.wt_beside_laws.specs.Calm.{AreUtf8Nodes}
use Rattle.wt_beside_laws.specs.Content.{AreKept}
use Rattle.wt_beside_laws.specs.FlatBlocks.{lines_in, begins_at, signs_in as signs_of}
use Rattle.wt_beside_laws.specs.Lines.{content_lines}
use Rattle.wt_beside_laws.specs.PageBlocks.{AreShut}
use Rattle.wt_beside_laws.specs.PageSigns.{signs_of_lines, AreFlatLines}
use Rattle.wt_beside_laws.specs.Stood.{things}
use Rattle.wt_beside_laws.specs.Styled.{StyledContent, mark_source, signs_in, IsStyledContent, styled_parts}
use Rattle.wt_beside_laws.specs.StyledHeadings.{IsStyledHeading}
use Rattle.wt_beside_laws.specs.StyledIn.{IsStyledIn, StaysIn, IsStyledFor}
use Rattle.wt_beside_laws.specs.StyledNodes.{IsPut, AreSomeAndPut}
use Rattle.wt_beside_laws.proofs.Each.{Each}
use Rattle.wt_beside_laws.proofs.CalmContents.{content_utf8, braces_in, content_braces, content_unclosed}
use Rattle.wt_beside_laws.proofs.FlatAgain.{EachSource, IsShut, put_shut, from_shut, to_shut}
use Rattle.wt_beside_laws.proofs.LineItems.{content_lines_are}
use Rattle.wt_beside_laws.proofs.Made.Closes.{guard_closes, OpenFor, content_closes, block_open}
use Rattle.wt_beside_laws.proofs.Made.Items.{AreOwnNodes}
use Rattle.wt_beside_laws.proofs.Made.Levels.{BareTold, Told, AllTold, told_each, nodes_told, level_told}
use Rattle.wt_beside_laws.proofs.Made.NodesSealed.{nodes_sealed}
use Rattle.wt_beside_laws.proofs.Made.OldBlocks.{lines_are}
use Rattle.wt_beside_laws.proofs.Made.OwnPages.{own_frame}
use Rattle.wt_beside_laws.proofs.Marks.Unjoined.{meet_unjoined, styled_read}
use Rattle.wt_beside_laws.proofs.Made.Written.{FitsIn, lines_by, before_any, uncommented, firm, ended_so, unended_so, texts_by, unled_by, from_utf8, to_utf8, put_utf8}
use Rattle.wt_beside_laws.proofs.Made.FewerBraces.{page_some, nodes_some}
use Rattle.wt_beside_laws.proofs.OwnItems.{content_own}
use Rattle.wt_beside_laws.proofs.Styled.HeldStyles.{styled_have_items}
use Rattle.wt_beside_laws.proofs.Styled.OldStyled.{styled_in_content}
use Rattle.wt_beside_laws.proofs.Styled.StyledAgain.{quotes_utf8, again_each, again_lines, again_kept, again_shut}
use Rattle.wt_beside_laws.proofs.Styled.StyledHeadings.{styled_inside, inside_parts}
use Rattle.wt_beside_laws.proofs.Styled.StyledNodes.{each_some}
use Rattle.wt_beside_laws.proofs.Styled.StyledParagraphs.{lines_joined}
use Rattle.wt_beside_laws.specs.NodeItems.{node_items}

-- ---- its lines and parts

fits_of : (k : TextBlock) (s : Setting) (t : StyledContent) → StaysIn k s t → FitsIn k s (signs_in t)
fits_of a_paragraph s t h = h
fits_of (a_heading w) s t h = h

as_heading : (w : Sides) (s : Setting) (t : StyledContent) → IsStyledContent s t → StaysIn (a_heading w) s t → IsStyledHeading s t
as_heading w s t c h = record { styled = c; of_heading = h.0; one_line = h.1 }

pub lines_so : (k : TextBlock) (s : Setting) (t : StyledContent) → IsStyledContent s t → StaysIn k s t → lines_in k (spelled s (signs_in t)) ≡ content_lines s (signs_in t)
lines_so k s t c h = lines_by k s (signs_in t) (styled_read s t c) c.unbroken (fits_of k s t h)

pub styled_parts_so : (k : TextBlock) (s : Setting) (t : StyledContent) → IsStyledContent s t → StaysIn k s t
    → content_parts_of k (page_items (spelled s (signs_in t))) ≡ styled_parts false s [] t []
styled_parts_so a_paragraph s t c h =
    ap joined_parts (content_lines_are s (signs_in t) (styled_read s t c) c.unbroken) ∙ lines_joined s [] t c.nodes c.nested c.meet
styled_parts_so (a_heading w) s t c h = inside_parts s t (as_heading w s t c h)

stays_so : (k : TextBlock) (s : Setting) (t : StyledContent) → IsStyledContent s t → StaysAnywhere k (spelled s (signs_in t))
stays_so a_paragraph s t c = λ n. texts_by n s (signs_in t) (styled_read s t c) c.characters c.unbroken
stays_so (a_heading w) s t c = tt

lines_of_text : (s : Setting) (t : StyledContent) → s.place ≡ place.Paragraph → IsStyledContent s t → AreParagraphLines (spelled s (signs_in t))
lines_of_text s t e c = record {
  seen = texts_seen 0 (lines (page_items (spelled s (signs_in t)))) (texts_by 0 s (signs_in t) (styled_read s t c) c.characters c.unbroken);
  unled = unled_by s (signs_in t) e (styled_read s t c) c.characters c.unbroken;
}

-- a delimiter and a nowiki are no URL
put_told : (t : Thing) → IsPut t → Told t
put_told t p = elim p [
  | inl m ↦ subst (λ (r : Role). BareTold r (map sign_of (node_items t.source))) (sym m.1) tt
  | inr w ↦ subst (λ (r : Role). BareTold r (map sign_of (node_items t.source))) (sym w.0) tt
]

content_so : (k : TextBlock) (q : List ℕ) (s : Setting) (t : StyledContent) → HasFrame k → IsStyledIn k q → IsStyledFor k q s t → IsContentOf k (spelled s (signs_in t))
content_so a_paragraph q s t f h w = lines_of_text s t w.stays w.content
content_so (a_heading g) q s t f h w =
    let c : IsStyledContent s t = w.content in
    let told : AllTold (signs_in t) =
    told_each (signs_in t) (each_some Told put_told (things (signs_in t)) (things (signs_of (a_heading g) q)) w.nodes
    (nodes_told (begins_at (a_heading g)) (lines_in (a_heading g) q) h.flat)) in
    record {
      frame = f;
      inside = inl (styled_inside s t (as_heading g s t c w.stays));
      of_level = level_told s (signs_in t) g c.of_block c.kept c.characters c.nodes (meet_unjoined s [] (signs_in t) c.nodes c.meet) c.led w.stays.1 told f.sides;
    }

-- ---- what holds of the sources of the page's nodes and of what is put holds of its sources

source_each : (Q : List ℕ → Type 0) (signs : List ContentSign) → EachSource Q signs → Each (λ t. Q t.source) (things signs)
source_each Q [] h = tt
source_each Q (letter c ∷ after) h = source_each Q after h
source_each Q (thing t ∷ after) h = (h.0, source_each Q after h.1)

each_source : (Q : List ℕ → Type 0) (signs : List ContentSign) → Each (λ t. Q t.source) (things signs) → EachSource Q signs
each_source Q [] h = tt
each_source Q (letter c ∷ after) h = each_source Q after h
each_source Q (thing t ∷ after) h = (h.0, each_source Q after h.1)

put_source : (Q : List ℕ → Type 0) → ((kind : Bool) → Q (mark_source kind)) → Q nowiki → (t : Thing) → IsPut t → Q t.source
put_source Q f g t p = elim p [
  | inl m ↦ subst Q (sym m.2) (f m.0)
  | inr w ↦ subst Q (sym w.1) g
]

some_source : (Q : List ℕ → Type 0) (olds news : List ContentSign) → ((kind : Bool) → Q (mark_source kind)) → Q nowiki → AreSomeAndPut (things news) (things olds)
    → EachSource Q olds → EachSource Q news
some_source Q olds news f g some h =
    each_source Q news (each_some (λ t. Q t.source) (put_source Q f g) (things news) (things olds) some (source_each Q olds h))

mark_shut : (kind : Bool) → IsShut (mark_source kind)
mark_shut true = refl
mark_shut false = refl

mark_closes : (kind : Bool) (name rest : List ℕ) → Unclosed name rest → Unclosed name (mark_source kind ++ rest)
mark_closes true name rest h = unclosed_untagged name (mark_source true) rest refl h
mark_closes false name rest h = unclosed_untagged name (mark_source false) rest refl h

utf8_so : (k : TextBlock) (q : List ℕ) (s : Setting) (t : StyledContent) → IsStyledIn k q → IsStyledFor k q s t → AreUtf8Nodes (signs_in t)
utf8_so k q s t h w =
    to_utf8 (signs_in t) (some_source IsUtf8 (signs_of k q) (signs_in t) quotes_utf8 put_utf8.of_nowiki w.nodes (from_utf8 (signs_of k q) h.nodes_utf8))

-- of two braces side by side it has none, or some of those of the old content
braces_so : (k : TextBlock) (q : List ℕ) (s : Setting) (t : StyledContent) → IsStyledIn k q → IsStyledFor k q s t
    → IsSome (braces_of (page_items (spelled s (signs_in t)))) (braces_of (page_items q))
braces_so k q s t h w =
    subst (λ (bs : List Brace). IsSome bs (braces_of (page_items q))) (sym (content_braces s (signs_in t) (styled_read s t w.content)))
    (some_some (braces_in (things (signs_in t))) (braces_in (things (signs_of k q))) (braces_of (page_items q))
    (nodes_some (things (signs_in t)) (things (signs_of k q)) w.nodes) (page_some k q h.flat))

calls_none : (k : TextBlock) (q : List ℕ) (s : Setting) (t : StyledContent) → HasFrame k → IsStyledIn k q → IsStyledFor k q s t
    → CallsNothing (block_items k (spelled s (signs_in t)))
calls_none k q s t f h w =
    let now : List ℕ = spelled s (signs_in t) in
    subst NonePairs (sym (block_braces k now f))
    (pairs_some (braces_of (page_items now)) (braces_of (page_items q)) (braces_so k q s t h w) (subst NonePairs (block_braces k q f) h.calls_nothing))

shut_so : (k : TextBlock) (q : List ℕ) (s : Setting) (t : StyledContent) → IsStyledIn k q → IsStyledFor k q s t → AreShut (signs_in t)
shut_so k q s t h w =
    to_shut (signs_in t) (some_source IsShut (signs_of k q) (signs_in t) mark_shut put_shut.of_nowiki w.nodes (from_shut (signs_of k q) h.shut))

-- ---- it is such a block again

of_lines_so : (P : List (List Item) → Type 0) (k : TextBlock) (s : Setting) (t : StyledContent) → IsStyledContent s t → StaysIn k s t
    → P (content_lines s (signs_in t)) → P (lines_in k (spelled s (signs_in t)))
of_lines_so P k s t c w h = subst P (sym (lines_so k s t c w)) h

held_so : (k : TextBlock) (q : List ℕ) (s : Setting) (t : StyledContent) → IsStyledIn k q → IsStyledFor k q s t → AreOwnNodes (forest (children (styled_parts false s [] t [])))
held_so k q s t h w =
    styled_have_items s (lines_in k q) (begins_at k) t h.flat w.content.nested w.nodes
    (subst (λ (ps : List Part). AllHaveItems (forest (children ps))) (lines_are k q) h.has_items)
    (subst (λ (ps : List Part). AllOfPage (held_by_all (forest (children ps)))) (lines_are k q) (content_own k q))

pub styled_again : (k : TextBlock) (q : List ℕ) (s : Setting) (t : StyledContent) → IsStyledIn k q → IsStyledFor k q s t → IsStyledIn k (spelled s (signs_in t))
styled_again k q s t h w =
    let signs : List ContentSign = signs_in t in
    let c : IsStyledContent s t = w.content in
    let f : HasFrame k = own_frame k q h.is in
    let b : IsBeforeAny k (spelled s signs) = before_any k s signs (fits_of k s t w.stays) (styled_read s t c) in
    let own : AreUtf8Nodes signs = utf8_so k q s t h w in
    let held = held_so k q s t h w in
    let parts : content_parts_of k (page_items (spelled s signs)) ≡ styled_parts false s [] t [] = styled_parts_so k s t c w.stays in
    let at : ℕ = begins_at k in
    record {
      utf8 = content_utf8 s signs c.characters own;
      ended = ended_so k (spelled s signs) f b;
      unended = unended_so k (spelled s signs) f b;
      is = content_so k q s t f h w;
      calls_nothing = calls_none k q s t f h w;
      has_items = subst (λ (ps : List Part). AllHaveItems (forest (children ps))) (sym parts) held.0;
      flat = of_lines_so AreFlatLines k s t c w.stays (again_lines s t c);
      kept = of_lines_so (λ (ls : List (List Item)). AreKept (signs_of_lines at ls)) k s t c w.stays (again_kept at s t c);
      nodes_utf8 = of_lines_so (λ (ls : List (List Item)). AreUtf8Nodes (signs_of_lines at ls)) k s t c w.stays
          (to_utf8 (signs_of_lines at (content_lines s signs)) (again_each IsUtf8 put_utf8 at s t c (from_utf8 signs own)));
      shut = of_lines_so (λ (ls : List (List Item)). AreShut (signs_of_lines at ls)) k s t c w.stays (again_shut at s t c (shut_so k q s t h w));
    }

-- ---- in the place of the old content

put_open : (name rest : List ℕ) → Unclosed name rest → (t : Thing) → IsPut t → OpenFor name t
put_open name rest h t p = elim p [
  | inl m ↦ (rest, subst (λ (bs : List ℕ). Unclosed name (bs ++ rest)) (sym m.2) (mark_closes m.0 name rest h))
  | inr w ↦ (rest, subst (λ (bs : List ℕ). Unclosed name (bs ++ rest)) (sym w.1) (guard_closes true name rest h))
]

closes_so : (k : TextBlock) (q : List ℕ) (s : Setting) (t : StyledContent) → IsStyledIn k q → IsStyledFor k q s t → (name us vs : List ℕ) → Unclosed name (q ++ us)
    → Unclosed name vs → Unclosed name (spelled s (signs_in t) ++ vs)
closes_so k q s t h w name us vs o g =
    content_closes s [] (signs_in t) name vs
    (each_some (OpenFor name) (put_open name vs g) (things (signs_in t)) (things (signs_of k q)) w.nodes (block_open k q name us o))
    (nodes_sealed (signs_in t) w.content.nodes w.content.kept) g

fewer_so : (k : TextBlock) (q : List ℕ) (s : Setting) (t : StyledContent) → IsStyledIn k q → IsStyledFor k q s t
    → IsSome (braces_of (page_items (source_of k (spelled s (signs_in t))))) (braces_of (page_items (source_of k q)))
fewer_so k q s t h w =
    let now : List ℕ = spelled s (signs_in t) in
    let f : HasFrame k = own_frame k q h.is in
    let again : IsStyledIn k now = styled_again k q s t h w in
    subst (λ (bs : List Brace). IsSome bs (braces_of (page_items (source_of k q)))) (sym (source_braces k now f again.unended))
    (subst (λ (bs : List Brace). IsSome (braces_of (page_items now)) bs) (sym (source_braces k q f h.unended)) (braces_so k q s t h w))

pub styled_new : (k : TextBlock) (q : List ℕ) (s : Setting) (t : StyledContent) → IsStyledIn k q → IsStyledFor k q s t → IsNewContent k q (spelled s (signs_in t))
styled_new k q s t h w = record {
  firm = record {
    content = styled_in_content k (spelled s (signs_in t)) (styled_again k q s t h w);
    firm = λ rest b j. firm s (signs_in t) rest (styled_read s t w.content) b j;
    uncommented = λ rest b j. uncommented k s (signs_in t) rest (fits_of k s t w.stays) (styled_read s t w.content) b j;
    stays = stays_so k s t w.content;
    unclosed = content_unclosed s (signs_in t) (styled_read s t w.content);
  };
  fewer = inr (subst CallsNothing (sym h.unended) h.calls_nothing, fewer_so k q s t h w);
  closes = λ name us vs o n. closes_so k q s t h w name us vs o n;
}

-- What is sent for a block with styles in which texts are typed beside nodes that stay, bold and italic among them: it is taken, its content is
-- written, and it shows what was sent.
use Rattle.std.proofs.Common.{◌≡◌, ℕ, ◌<◌, Bool, false, None, List, [], refl, sym, ap, ◌∙◌, subst, length}
use Rattle.wt_span.specs.Items.{Item}
use Rattle.wt_tree.specs.declared.kind.Kind.{Kind}
use Rattle.wt_tree.specs.declared.kind.Mark.TheVariants as marks
use Rattle.wt_tree.specs.EditShapes.{edit_shape}
use Rattle.wt_tree.specs.Plain.{Face, Plains, ended, along, element, plain_before}
use Rattle.wt_tree.specs.Tiling.{HasNoGroup, NoneIsGroup}
use Rattle.wt_tree.specs.Tree.{Label, Tree, tree, Trees, label}
use Rattle.wt_guards.specs.Guards.{spelled}
use Rattle.wt_original.specs.Page.{Page}
use Rattle.wt_content.specs.Content.{is_paragraph, bad_content}
use Rattle.wt_inline.specs.ItemTree.{ItemTree}
use Rattle.wt_inline.specs.Parts.{Part}
use Rattle.wt_link_spelling.specs.Spelling.{children_of}
use Rattle.wt_visible.specs.SameNodes.{same_node}
use Rattle.wt_visible.proofs.SameTells.{tells_same}
use Rattle.wt_part_laws.specs.Standing.{standing}
use Rattle.wt_typed_blocks.specs.Sent.{kind_of}
use Rattle.wt_typed_blocks.specs.Edited.{Pieces, page_pieces, sent_pieces, pieces_before, page_node, sent_node, edited_before}
use Rattle.wt_typed_blocks.specs.Typed.{place_of}
use Rattle.wt_text_edit_laws.specs.Contents.{IsNewContent}
use Rattle.wt_text_edit_laws.specs.TextBlocks.{TextBlock, a_paragraph, a_heading, block_of, block_tree}
use Rattle.wt_text_edit_laws.proofs.Blocks.BlockLeaves.{open_items}
use Rattle.wt_beside_laws.specs.Content.{AreKept}
use Rattle.wt_beside_laws.specs.ContentEdits.{content_edit, new_content, MakesContent}
use Rattle.wt_beside_laws.specs.FlatBlocks.{lines_in, signs_in as signs_of, sent_for}
use Rattle.wt_beside_laws.specs.PageBlocks.{IsBlockOfLines}
use Rattle.wt_beside_laws.specs.PageSigns.{signs_of_lines}
use Rattle.wt_beside_laws.specs.SentPieces.{TextsFit}
use Rattle.wt_beside_laws.specs.SentStyled.{AreStyledSent, AllNest, AllShow}
use Rattle.wt_beside_laws.specs.Shown.{parts_shown_at}
use Rattle.wt_beside_laws.specs.Stood.{things}
use Rattle.wt_beside_laws.specs.Styled.{StyledContent, signs_in, styled_parts, IsStyledContent}
use Rattle.wt_beside_laws.specs.StyledBlocks.{all_numbers, AreSomeOf}
use Rattle.wt_beside_laws.specs.StyledIn.{IsStyledIn, StaysIn, IsStyledFor, IsStyledEditOf}
use Rattle.wt_beside_laws.specs.StyledNodes.{AreSomeAndPut, AreUrlsApart}
use Rattle.wt_beside_laws.proofs.Made.Inline.{stays_inline}
use Rattle.wt_beside_laws.proofs.Made.Letters.{pieces_fit}
use Rattle.wt_beside_laws.proofs.Made.Making.{known, setting, new_is, takes_breaks, breaks_so, one_line_so, source_is, parts_show, in_page}
use Rattle.wt_beside_laws.proofs.Made.OldBlocks.{with_parts, parts_are, face_of, IsIn, block_kind, block_face, block_begins, node_is}
use Rattle.wt_beside_laws.proofs.Styled.Delimiters.{no_delimiter}
use Rattle.wt_beside_laws.proofs.Styled.OwnNests.{AreRight, own_nests}
use Rattle.wt_beside_laws.proofs.Styled.SentNests.{sent_nest}
use Rattle.wt_beside_laws.proofs.Styled.SentKept.{nodes_among}
use Rattle.wt_beside_laws.proofs.Styled.UrlsApart.{urls_apart}
use Rattle.wt_beside_laws.proofs.Styled.OldStyled.{styled_of_lines}
use Rattle.wt_beside_laws.proofs.Styled.OwnStyled.{AreKnown, own_styled}
use Rattle.wt_beside_laws.proofs.Styled.SentAmong.{sent_styles}
use Rattle.wt_beside_laws.proofs.Styled.SentFaults.{AreSound, pieces_known, no_style_fault, sent_characters, sent_on_one_line}
use Rattle.wt_beside_laws.proofs.Styled.SentStyles.{sent_signs, sent_shown}
use Rattle.wt_beside_laws.proofs.Styled.SentWhole.{pieces_plain, pieces_styled, pieces_show, some_numbers}
use Rattle.wt_beside_laws.proofs.Styled.StyledShown.{styled_is_shown}
use Rattle.wt_beside_laws.proofs.Styled.StyledWritten.{styled_parts_so, styled_new, styled_again}

-- ---- what is sent

-- the page's block, as it would be sent
abbrev pub IsOwn : Tree → Type 0
IsOwn block =
    AreStyledSent (known block) (children_of block) × AllShow (known block) (children_of block) × AreKnown (known block) (children_of block)

pub record IsSentWell (k : TextBlock) (q : List ℕ) (block : Tree) (ps : Pieces) : Type 0 where
  pub free : NoneIsGroup (page_pieces ps)
  pub sent : AreStyledSent (known block) (sent_pieces ps)
  pub shows : AllShow (known block) (sent_pieces ps)
  pub sound : AreSound (known block) (sent_pieces ps)
  pub nest : AllNest false false (sent_pieces ps)
  pub is : IsStyledFor k q (setting k block) (sent_for block ps)

none_in : (t : Tree) → HasNoGroup t → NoneIsGroup (children_of t)
none_in (tree l ts) h = h.1

stays_in : (k : TextBlock) (block : Tree) (ps : Pieces) → IsStyledEditOf k block ps → AllNest false false (sent_pieces ps)
    → StaysIn k (setting k block) (sent_for block ps)
stays_in a_paragraph block ps e nest = refl
stays_in (a_heading w) block ps e nest = (refl, sent_on_one_line (known block) ps e.stay e.are e.fit nest)

pub sent_well : (k : TextBlock) (q : List ℕ) (block : Tree) (ps : Pieces) → IsOwn block → IsStyledIn k q → IsIn k q block → IsStyledEditOf k block ps
    → IsSentWell k q block ps
sent_well k q block ps own h i e =
    let p : Page = known block in
    let us : Trees = sent_pieces ps in
    let t : StyledContent = sent_for block ps in
    let ls : List (List Item) = lines_in k q in
    let b : IsBlockOfLines ls block = styled_of_lines k q block h i in
    let none : NoneIsGroup (page_pieces ps) = subst NoneIsGroup (sym e.old) (none_in block b.ungrouped) in
    let styled_so : AreStyledSent p us = pieces_styled same_node block ps tells_same (subst (AreStyledSent p) (sym e.old) own.0) none e.stay in
    let shown_so : AllShow p us = pieces_show p ps none e.stay e.are (subst (AllShow p) (sym e.old) own.1) in
    let sound_so : AreSound p us = pieces_known same_node block ps tells_same (subst (AreKnown p) (sym e.old) own.2) none e.stay in
    let some : AreSomeOf (all_numbers us) (all_numbers (children_of block)) =
    subst (λ (ts : Trees). AreSomeOf (all_numbers us) (all_numbers ts)) e.old (some_numbers ps none e.stay) in
    let kept_so : AreKept (signs_of_lines (length (label block).opening) ls) =
    subst (λ (n : ℕ). AreKept (signs_of_lines n ls)) (sym (block_begins k q block i)) h.kept in
    let nodes : AreSomeAndPut (things (signs_in t)) (things (signs_of k q)) = nodes_among k q block ps h i e.old e.stay in
    let right : AreRight false false (children_of block) = own_nests k q block h i in
    let nest : AllNest false false us = sent_nest ps e.stay e.are (subst (AllNest false false) (sym e.old) right.0) e.new in
    let apart : AreUrlsApart (things (signs_in t)) = urls_apart k q block ps h i right.1 e.old none e.stay (no_delimiter same_node block) nodes in
    let content : IsStyledContent (setting k block) t =
    sent_styles same_node (setting k block) ls block us refl h.flat b kept_so nest e.led some (sent_characters p us shown_so) apart (e.unclosed (setting k block)) in
    record {
      free = none;
      sent = styled_so;
      shows = shown_so;
      sound = sound_so;
      nest = nest;
      is = record { content = content; nodes = nodes; stays = stays_in k block ps e nest };
    }

-- ---- nothing is wrong in it

taken_so : (k : TextBlock) (q : List ℕ) (block : Tree) (m : Label) (ps : Pieces) → IsIn k q block → IsStyledEditOf k block ps → IsSentWell k q block ps
    → bad_content same_node (page_node (content_edit k block m ps)) (sent_node (content_edit k block m ps)) ≡ None
taken_so k q block m ps i e w =
    let new : Tree = sent_node (content_edit k block m ps) in
    let kinds : is_paragraph (edit_shape (label block).kind).form ≡ takes_breaks k =
    ap (λ (j : Kind). is_paragraph (edit_shape j).form) (block_kind k q block i) ∙ breaks_so k in
    let fits : TextsFit (is_paragraph (edit_shape (label block).kind).form) (sent_pieces ps) =
    subst (λ (v : Bool). TextsFit v (sent_pieces ps)) (sym kinds) (pieces_fit (takes_breaks k) ps e.stay e.are (one_line_so k ps e.fit)) in
    let l : Label = record m { kind = kind_of (block_of k); id = (label block).id; attrs = (label block).attrs; mark = marks.Content; mw = (label block).mw } in
    ap (λ (t : Tree). bad_content same_node t new) (node_is k q block m ps i e.old)
    ∙ no_style_fault same_node block l (sent_pieces ps) w.sent w.sound w.nest w.shows fits

-- ---- what is written, and what it shows

pub content_is : (k : TextBlock) (q : List ℕ) (block : Tree) (m : Label) (ps : Pieces) → IsIn k q block → IsStyledEditOf k block ps → IsSentWell k q block ps
    → new_content k block m ps ≡ spelled (setting k block) (signs_in (sent_for block ps))
content_is k q block m ps i e w =
    new_is k q block m ps i e.old ∙ ap (spelled (setting k block)) (sent_signs (known block) (place_of (block_of k)) (sent_pieces ps) w.sent)

inside_so : (k : TextBlock) (q : List ℕ) (block : Tree) (ps : Pieces) → IsStyledEditOf k block ps → IsSentWell k q block ps
    → parts_shown_at 1 (open_items k) (styled_parts false (setting k block) [] (sent_for block ps) []) ended ≡ pieces_before ps ended
inside_so k q block ps e w =
    styled_is_shown 1 (open_items k) (setting k block) (sent_for block ps) ended w.is.content
    ∙ sent_shown (known block) (sent_pieces ps) ended w.sent w.shows
    ∙ pieces_plain ps ended w.free e.stay

tree_so : (k : TextBlock) (q : List ℕ) (block : Tree) (m : Label) (ps : Pieces) → IsIn k q block → IsStyledEditOf k block ps → IsSentWell k q block ps
    → block_tree k (new_content k block m ps) ≡ with_parts k (styled_parts false (setting k block) [] (sent_for block ps) [])
tree_so k q block m ps i e w =
    ap (block_tree k) (content_is k q block m ps i e w)
    ∙ parts_are k (spelled (setting k block) (signs_in (sent_for block ps)))
    ∙ ap (with_parts k) (styled_parts_so k (setting k block) (sent_for block ps) w.is.content w.is.stays)

shows_so : (k : TextBlock) (q : List ℕ) (block : Tree) (m : Label) (ps : Pieces) (rest : Plains) → IsIn k q block → IsStyledEditOf k block ps → IsSentWell k q block ps
    → edited_before (content_edit k block m ps) rest ≡ plain_before (standing 0 [] (block_tree k (new_content k block m ps))) rest
shows_so k q block m ps rest i e w =
    let parts : List Part = styled_parts false (setting k block) [] (sent_for block ps) [] in
    ap (λ (f : Face). along (element f (pieces_before ps ended)) rest) (block_face k q block i)
    ∙ ap (λ (qs : Plains). along (element (face_of k) qs) rest) (sym (inside_so k q block ps e w))
    ∙ sym (parts_show k parts rest)
    ∙ ap (λ (t : ItemTree). plain_before (standing 0 [] t) rest) (sym (tree_so k q block m ps i e w))

-- ---- so it makes the new content

makes_by : (k : TextBlock) (q : List ℕ) (block : Tree) (m : Label) (ps : Pieces) → IsOwn block → IsStyledIn k q → IsIn k q block → IsStyledEditOf k block ps
    → MakesContent k q block m ps
makes_by k q block m ps own h i e =
    let w : IsSentWell k q block ps = sent_well k q block ps own h i e in
    record {
      taken = taken_so k q block m ps i e w;
      new = subst (IsNewContent k q) (sym (content_is k q block m ps i e w)) (styled_new k q (setting k block) (sent_for block ps) h w.is);
      source = source_is k q block m ps i;
      shows = λ rest. shows_so k q block m ps rest i e w;
      inline = stays_inline k q block ps h.utf8 h.is h.unended h.calls_nothing i e.old e.stay;
    }

then_by : (k : TextBlock) (q : List ℕ) (block : Tree) (m : Label) (ps : Pieces) → IsOwn block → IsStyledIn k q → IsIn k q block → IsStyledEditOf k block ps
    → IsStyledIn k (new_content k block m ps)
then_by k q block m ps own h i e =
    let w : IsSentWell k q block ps = sent_well k q block ps own h i e in
    subst (IsStyledIn k) (sym (content_is k q block m ps i e w)) (styled_again k q (setting k block) (sent_for block ps) h w.is)

-- ---- in other words

pub own_so : (k : TextBlock) (q : List ℕ) (block : Tree) → IsStyledIn k q → IsIn k q block → IsOwn block
own_so k q block h i = own_styled same_node k q block tells_same h i

pub styled_makes : (k : TextBlock) (q : List ℕ) (n : ℕ) (b : List Item) (block : Tree) (m : Label) (ps : Pieces) → IsStyledIn k q → 0 < n
    → block ≡ standing n b (block_tree k q) → IsStyledEditOf k block ps → MakesContent k q block m ps
styled_makes k q n b block m ps h some is e =
    let i : IsIn k q block = in_page k q n b block some is in makes_by k q block m ps (own_so k q block h i) h i e

pub styled_then : (k : TextBlock) (q : List ℕ) (n : ℕ) (b : List Item) (block : Tree) (m : Label) (ps : Pieces) → IsStyledIn k q → 0 < n
    → block ≡ standing n b (block_tree k q) → IsStyledEditOf k block ps → IsStyledIn k (new_content k block m ps)
styled_then k q n b block m ps h some is e =
    let i : IsIn k q block = in_page k q n b block some is in then_by k q block m ps (own_so k q block h i) h i e

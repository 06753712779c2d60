-- What is sent for a paragraph or heading beside its calls and in its styles is taken, and makes the new block with its groups.
use Rattle.std.proofs.Common.{◌≡◌, ◌<◌, ℕ, Bool, true, false, None, List, [], ap, refl, subst, sym, ◌∙◌}
use Rattle.wt_span.specs.Origins.{OuterCall}
use Rattle.wt_tree.specs.EditShapes.{edit_shape}
use Rattle.wt_tree.specs.Kinds.{is_leaf}
use Rattle.wt_tree.specs.Plain.{Face, Plains, along, element, ended, plain_before}
use Rattle.wt_tree.specs.Tree.{Label, Tree, Trees, label}
use Rattle.wt_tree.specs.declared.kind.Kind.{Kind}
use Rattle.wt_tree.specs.declared.kind.Mark.TheVariants as marks
use Rattle.wt_guards.specs.Content.{ContentSign}
use Rattle.wt_guards.specs.Guards.{Setting, spelled}
use Rattle.wt_original.specs.Kept.{kept_nodes}
use Rattle.wt_original.specs.Numbers.{counts_up}
use Rattle.wt_original.specs.Page.{Page, page_of}
use Rattle.wt_inline.specs.ItemTree.{ItemTree}
use Rattle.wt_annotated.specs.CutTexts.{cut_texts}
use Rattle.wt_content.specs.Content.{bad_content, is_paragraph}
use Rattle.wt_link_spelling.specs.Spelling.{children_of}
use Rattle.wt_visible.proofs.SameTells.{tells_same}
use Rattle.wt_visible.specs.SameNodes.{same_node}
use Rattle.wt_expand.specs.PageCalls.{expanded_page}
use Rattle.wt_expand.specs.Work.{Pages}
use Rattle.wt_part_laws.specs.Expanded.{part_items}
use Rattle.wt_part_laws.specs.HeldCalls.{block_in}
use Rattle.wt_typed_blocks.specs.Edited.{Pieces, edited_before, page_node, page_pieces, pieces_before, sent_node, sent_pieces}
use Rattle.wt_typed_blocks.specs.Sent.{kind_of}
use Rattle.wt_typed_blocks.specs.Typed.{place_of}
use Rattle.wt_text_edit_laws.specs.ReadContents.{IsReadContent}
use Rattle.wt_text_edit_laws.specs.TextBlocks.{IsFrame, TextBlock, a_heading, a_paragraph, block_of, source_of}
use Rattle.wt_beside_laws.proofs.Groups.Meet.{all_beside}
use Rattle.wt_beside_laws.proofs.Made.Letters.{pieces_fit}
use Rattle.wt_beside_laws.proofs.Made.Making.{breaks_so, takes_breaks}
use Rattle.wt_beside_laws.proofs.Made.OldBlocks.{face_of}
use Rattle.wt_beside_laws.proofs.Styled.Delimiters.{no_delimiter}
use Rattle.wt_beside_laws.proofs.Styled.SentFaults.{AreSound, sent_on_one_line}
use Rattle.wt_beside_laws.proofs.Styled.SentNests.{sent_nest}
use Rattle.wt_beside_laws.proofs.Styled.SentStyles.{sent_nested, sent_signs}
use Rattle.wt_beside_laws.specs.Called.{AllMeetWith, owns_in}
use Rattle.wt_beside_laws.specs.ContentEdits.{content_edit, new_content}
use Rattle.wt_beside_laws.specs.FlatBlocks.{sent_for}
use Rattle.wt_beside_laws.specs.SentPieces.{TextsFit}
use Rattle.wt_beside_laws.specs.SentStyled.{AllNest, AreStyledSent}
use Rattle.wt_beside_laws.specs.Stood.{things}
use Rattle.wt_beside_laws.specs.Lines.{AreCharacters}
use Rattle.wt_beside_laws.specs.Styled.{AreNested, StyledContent, signs_in}
use Rattle.wt_beside_laws.specs.StyledBlocks.{all_numbers, things_with}
use Rattle.wt_called_edit_laws.proofs.Beside.Counts.{block_bare, settled_counts}
use Rattle.wt_called_edit_laws.proofs.Beside.Making.{IsSettledIn, block_face, block_groups, block_kind, no_leaf, node_by, one_line_so, setting, signs, source_so, spelled_by}
use Rattle.wt_called_edit_laws.proofs.Headings.FromPage.{seen_stay}
use Rattle.wt_called_edit_laws.proofs.Styles.Faults.{characters_sent, no_fault}
use Rattle.wt_called_edit_laws.proofs.Styles.Found.{AreFound, nodes_found}
use Rattle.wt_called_edit_laws.proofs.Styles.Free.{NestsWithin, pieces_free}
use Rattle.wt_called_edit_laws.proofs.Styles.Headings.{seen_among, styled_head_anywhere, styled_head_letters, styled_head_shows, styled_head_takes, styled_head_whole, styled_head_written}
use Rattle.wt_called_edit_laws.proofs.Styles.Lined.{own_calls, styled_letters, styled_takes}
use Rattle.wt_called_edit_laws.proofs.Styles.Sent.{HaveUtf8, pieces_inline, pieces_sent, pieces_sound, pieces_utf8}
use Rattle.wt_called_edit_laws.proofs.Styles.Shown.{folder_shown, pieces_show}
use Rattle.wt_called_edit_laws.proofs.Styles.Things.{AreLeft, AreStyledThings, each_styled, meet_styled, nodes_so, own_stay, pieces_left}
use Rattle.wt_called_edit_laws.proofs.Styles.Whole.{styled_anywhere, styled_shows, styled_whole}
use Rattle.wt_called_edit_laws.proofs.Styles.Written.{IsStyledWrittenIn}
use Rattle.wt_called_edit_laws.proofs.Written.FromPage.{things_stay}
use Rattle.wt_called_edit_laws.specs.CalledContents.{tree_round}
use Rattle.wt_called_edit_laws.specs.CalledEdits.{MakesContentIn, page_things}
use Rattle.wt_called_edit_laws.specs.CallingBlocks.{IsNewContentIn}
use Rattle.wt_called_edit_laws.specs.CallingEdits.{TakesLetters}
use Rattle.wt_called_edit_laws.specs.PageThings.{ArePageThings}
use Rattle.wt_called_edit_laws.specs.FoundGroups.{HaveFoundGroups}
use Rattle.wt_called_edit_laws.specs.Settled.{settled}
use Rattle.wt_called_edit_laws.specs.StyledCallEdits.{AreNodesBeside, AreOwnThings, IsBesideStyles, IsStyledCallEdit}
use Rattle.wt_called_edit_laws.specs.WholeContents.{IsWholeIn}
use Rattle.wt_called_edit_laws.specs.WrittenAnew.{HoldsAnywhere}

-- ---- what is sent

abbrev known : Tree → Page
known block = page_of same_node block

block_found : (pages : Pages) (k : TextBlock) (q : List ℕ) (block : Tree) → IsSettledIn pages k q block → IsBesideStyles pages k q block
    → AreFound (kept_nodes block) (children_of block)
block_found pages k q block i h =
    let u : ItemTree = tree_round k (part_items pages i.before q) in
    let v : Tree = cut_texts (block_in i.calls u) in
    let counts : counts_up i.number (kept_nodes block) ≡ true =
    subst (λ (t : Tree). counts_up i.number (kept_nodes t) ≡ true) (sym i.is) (settled_counts i.number i.at v i.some (block_bare i.calls u)) in
    nodes_found block i.number i.some counts (ap is_leaf (block_kind pages k q block i) ∙ no_leaf k) h.numbers

-- What holds of it: each node is as it is in the page, nothing is wrong with its styles, and of its signs each is the page's or is put.
pub record IsSentWell (pages : Pages) (k : TextBlock) (block : Tree) (ps : Pieces) : Type 0 where
  found : AreFound (kept_nodes block) (page_pieces ps)
  beside : AreNodesBeside pages (page_pieces ps)
  sent : AreStyledSent (known block) (sent_pieces ps)
  sound : AreSound (known block) (sent_pieces ps)
  utf8 : HaveUtf8 (sent_pieces ps)
  nested : AllNest false false (sent_pieces ps)
  left : AreLeft pages (page_things block) (things (signs_in (sent_for block ps)))
  of_page : ArePageThings pages left.nodes
  characters : AreCharacters (signs_in (sent_for block ps))
  each : AreStyledThings pages (signs_in (sent_for block ps))
  nests : AreNested false false (sent_for block ps)
  free : NestsWithin pages false false (sent_for block ps)
  meet : (i : ℕ) → AllMeetWith (setting k block) [] [] (signs_in (sent_for block ps)) (owns_in pages i (signs_in (sent_for block ps)))

pub sent_well : (pages : Pages) (k : TextBlock) (q : List ℕ) (block : Tree) (ps : Pieces) → IsSettledIn pages k q block → IsBesideStyles pages k q block
    → IsStyledCallEdit pages k block ps → IsSentWell pages k block ps
sent_well pages k q block ps i h e =
    let p : Page = known block in
    let us : Trees = sent_pieces ps in
    let t : StyledContent = sent_for block ps in
    let ss : List ContentSign = signs_in t in
    let found : AreFound (kept_nodes block) (page_pieces ps) = subst (AreFound (kept_nodes block)) (sym e.old) (block_found pages k q block i h) in
    let groups : HaveFoundGroups (kept_nodes block) (page_pieces ps) = subst (HaveFoundGroups (kept_nodes block)) (sym e.old) (block_groups pages k q block i) in
    let beside : AreNodesBeside pages (page_pieces ps) = subst (AreNodesBeside pages) (sym e.old) h.children in
    let page_nest : AllNest false false (page_pieces ps) = subst (AllNest false false) (sym e.old) h.nest in
    let utf8 : HaveUtf8 us = pieces_utf8 pages ps beside e.stay e.are in
    let nested : AllNest false false us = sent_nest ps e.stay e.are page_nest e.new in
    let left : AreLeft pages (page_things block) (things ss) =
    subst (λ (ts : Trees). AreLeft pages (things_with (kept_nodes block) (all_numbers ts)) (things ss)) e.old
    (pieces_left pages same_node block ps found e.stay e.calm) in
    let of_page : ArePageThings pages left.nodes = things_stay pages (page_things block) left.nodes left.stay h.things in
    let own : AreOwnThings pages left.nodes = own_stay pages (page_things block) left.nodes left.stay h.own in
    let each : AreStyledThings pages ss = each_styled pages left.nodes (things ss) left.put of_page own in
    record {
      found = found;
      beside = beside;
      sent = pieces_sent pages same_node block ps tells_same found groups beside e.stay;
      sound = pieces_sound same_node block ps found e.stay;
      utf8 = utf8;
      nested = nested;
      left = left;
      of_page = of_page;
      characters = characters_sent p us utf8;
      each = each;
      nests = sent_nested p false false us (no_delimiter same_node block) nested;
      free = pieces_free pages same_node block ps found beside e.stay e.free;
      meet = λ i.
          all_beside (setting k block) [] [] ss (owns_in pages i ss) tt (nodes_so pages i ss each) (meet_styled pages i left.nodes ss left.put of_page own);
    }

-- so its signs are written
pub written_so : (pages : Pages) (k : TextBlock) (q : List ℕ) (block : Tree) (ps : Pieces) → IsBesideStyles pages k q block → IsStyledCallEdit pages k block ps
    → IsSentWell pages k block ps → IsStyledWrittenIn k pages (setting k block) (sent_for block ps)
written_so pages a_paragraph q block ps h e w = record {
  of_block = refl;
  characters = w.characters;
  each = w.each;
  nested = w.nests;
  free = w.free;
  meet = w.meet;
  some = e.fits;
}
written_so pages (a_heading v) q block ps h e w =
    let left = w.left in
    record {
      of_block = refl;
      of_heading = refl;
      one_line = sent_on_one_line (known block) ps e.stay e.are e.fits w.nested;
      characters = w.characters;
      each = w.each;
      nested = w.nests;
      free = w.free;
      meet = w.meet;
      end_seen = seen_among pages left.nodes (things (signs_in (sent_for block ps))) left.put (seen_stay pages (page_things block) left.nodes left.stay h.round.1);
    }

node_so : (pages : Pages) (k : TextBlock) (q : List ℕ) (block : Tree) (m : Label) (ps : Pieces) → IsSettledIn pages k q block → IsStyledCallEdit pages k block ps
    → page_node (content_edit k block m ps) ≡ block
node_so pages k q block m ps i e = node_by (kind_of (block_of k)) block (page_pieces ps) (block_kind pages k q block i) e.old

pub content_so : (pages : Pages) (k : TextBlock) (q : List ℕ) (block : Tree) (m : Label) (ps : Pieces) → IsSettledIn pages k q block → IsStyledCallEdit pages k block ps
    → IsSentWell pages k block ps → new_content k block m ps ≡ spelled (setting k block) (signs_in (sent_for block ps))
content_so pages k q block m ps i e w =
    spelled_by k (page_node (content_edit k block m ps)) block m ps
    ∙ ap (λ (t : Tree). spelled (setting k t) (signs k t ps)) (node_so pages k q block m ps i e)
    ∙ ap (spelled (setting k block)) (sent_signs (known block) (place_of (block_of k)) (sent_pieces ps) w.sent)

taken_so : (pages : Pages) (k : TextBlock) (q : List ℕ) (block : Tree) (m : Label) (ps : Pieces) → IsSettledIn pages k q block → IsSentWell pages k block ps
    → IsStyledCallEdit pages k block ps → bad_content same_node (page_node (content_edit k block m ps)) (sent_node (content_edit k block m ps)) ≡ None
taken_so pages k q block m ps i w e =
    let new : Tree = sent_node (content_edit k block m ps) in
    let l : Label = record m { kind = kind_of (block_of k); id = (label block).id; attrs = (label block).attrs; mark = marks.Content; mw = (label block).mw } in
    let breaks : is_paragraph (edit_shape (label block).kind).form ≡ takes_breaks k =
    ap (λ (j : Kind). is_paragraph (edit_shape j).form) (block_kind pages k q block i) ∙ breaks_so k in
    let fits : TextsFit (is_paragraph (edit_shape (label block).kind).form) (sent_pieces ps) =
    subst (λ (v : Bool). TextsFit v (sent_pieces ps)) (sym breaks) (pieces_fit (takes_breaks k) ps e.stay e.are (one_line_so k block ps e.fits)) in
    ap (λ (t : Tree). bad_content same_node t new) (node_so pages k q block m ps i e)
    ∙ no_fault same_node block l (sent_pieces ps) w.sent w.sound w.nested w.utf8 fits

-- ---- and makes the new block

-- What is written, in the place of the old content.
record IsMadeOf (pages : Pages) (k : TextBlock) (q : List ℕ) (t : StyledContent) (now : List ℕ) : Type 0 where
  new : IsNewContentIn pages k q now
  holds : HoldsAnywhere pages k now
  texts : (expanded_page pages (source_of k now)).text_calls ≡ []
  letters : TakesLetters pages k now
  whole : IsWholeIn pages k now
  shows : (calls : List OuterCall) (i : ℕ) (rest : Plains)
      → plain_before (cut_texts (block_in calls (tree_round k (part_items pages i now)))) rest ≡ along (element (face_of k) (folder_shown pages i t ended)) rest

made_of : (pages : Pages) (k : TextBlock) (q : List ℕ) (block : Tree) (ps : Pieces) → IsBesideStyles pages k q block → IsSentWell pages k block ps
    → IsStyledWrittenIn k pages (setting k block) (sent_for block ps)
    → IsMadeOf pages k q (sent_for block ps) (spelled (setting k block) (signs_in (sent_for block ps)))
made_of pages a_paragraph q block ps h w b =
    let s : Setting = setting a_paragraph block in
    let t : StyledContent = sent_for block ps in
    let left = w.left in
    let calls = own_calls pages s t b in
    let part = calls.part in
    record {
      new = subst (λ (bs : List ℕ). IsNewContentIn pages a_paragraph bs (spelled s (signs_in t))) h.is
          (styled_takes pages h.pieces (page_things block) left.nodes s t h.parts h.among left.stay b left.put);
      holds = styled_anywhere pages s t b;
      texts = part.texts;
      letters = styled_letters pages s t left.nodes b left.put w.of_page;
      whole = styled_whole pages s t b;
      shows = λ cs i rest. styled_shows pages cs i s t rest b;
    }
made_of pages (a_heading v) q block ps h w b =
    let s : Setting = setting (a_heading v) block in
    let t : StyledContent = sent_for block ps in
    let left = w.left in
    let read : IsReadContent (a_heading v) q = h.round.0 in
    let f : IsFrame v = read.begins in
    let calls = styled_head_written pages s t v f b in
    let part = calls.part in
    record {
      new = subst (λ (bs : List ℕ). IsNewContentIn pages (a_heading v) bs (spelled s (signs_in t))) h.is
          (styled_head_takes pages v h.pieces (page_things block) left.nodes s t (subst (IsReadContent (a_heading v)) (sym h.is) read) h.parts h.among left.stay b left.put);
      holds = styled_head_anywhere pages s t v f.sides b;
      texts = part.texts;
      letters = styled_head_letters pages s t v left.nodes f b left.put w.of_page (seen_stay pages (page_things block) left.nodes left.stay h.round.1);
      whole = styled_head_whole pages s t v f b;
      shows = λ cs i rest. styled_head_shows pages cs i s t v rest f.sides b;
    }

shows_so : (pages : Pages) (k : TextBlock) (q : List ℕ) (block : Tree) (m : Label) (ps : Pieces) (calls : List OuterCall) (i : ℕ) (rest : Plains)
    → IsSettledIn pages k q block → IsSentWell pages k block ps → IsStyledCallEdit pages k block ps
    → IsMadeOf pages k q (sent_for block ps) (spelled (setting k block) (signs_in (sent_for block ps)))
    → edited_before (content_edit k block m ps) rest
    ≡ plain_before (cut_texts (block_in calls (tree_round k (part_items pages i (spelled (setting k block) (signs_in (sent_for block ps))))))) rest
shows_so pages k q block m ps calls i rest there w e b =
    ap (λ (f : Face). along (element f (pieces_before ps ended)) rest) (block_face pages k q block there)
    ∙ ap (λ (qs : Plains). along (element (face_of k) qs) rest) (sym (pieces_show pages same_node block ps w.found w.beside e.stay e.are i ended))
    ∙ sym (b.shows calls i rest)

block_makes : (pages : Pages) (k : TextBlock) (q : List ℕ) (block : Tree) (m : Label) (ps : Pieces) → IsSettledIn pages k q block → IsBesideStyles pages k q block
    → IsStyledCallEdit pages k block ps → MakesContentIn pages k q block m ps
block_makes pages k q block m ps i h e =
    let w : IsSentWell pages k block ps = sent_well pages k q block ps i h e in
    let now : List ℕ = spelled (setting k block) (signs_in (sent_for block ps)) in
    let b : IsMadeOf pages k q (sent_for block ps) now = made_of pages k q block ps h w (written_so pages k q block ps h e w) in
    let is : new_content k block m ps ≡ now = content_so pages k q block m ps i e w in
    record {
      taken = taken_so pages k q block m ps i w e;
      new = subst (IsNewContentIn pages k q) (sym is) b.new;
      holds = subst (HoldsAnywhere pages k) (sym is) b.holds;
      texts = ap (λ (bs : List ℕ). (expanded_page pages (source_of k bs)).text_calls) is ∙ b.texts;
      letters = subst (TakesLetters pages k) (sym is) b.letters;
      whole = subst (IsWholeIn pages k) (sym is) b.whole;
      source = source_so pages k q block m ps i;
      shows = λ cs j rest.
          shows_so pages k q block m ps cs j rest i w e b
          ∙ ap (λ (bs : List ℕ). plain_before (cut_texts (block_in cs (tree_round k (part_items pages j bs)))) rest) (sym is);
      inline = pieces_inline pages ps w.beside e.stay e.are;
    }

-- ---- in other words

pub styles_make : (pages : Pages) (k : TextBlock) (q : List ℕ) (block : Tree) (m : Label) (ps : Pieces) (n at i : ℕ) (calls : List OuterCall) → 0 < n
    → block ≡ settled n at (cut_texts (block_in calls (tree_round k (part_items pages i q)))) → IsBesideStyles pages k q block
    → IsStyledCallEdit pages k block ps → MakesContentIn pages k q block m ps
styles_make pages k q block m ps n at i calls some is h e =
    block_makes pages k q block m ps (record { number = n; at = at; before = i; calls = calls; some = some; is = is }) h e

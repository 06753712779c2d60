-- What is sent for a paragraph or heading beside its calls is taken, and makes the new block with its groups.
use Rattle.std.proofs.Common.{◌≡◌, ℕ, ◌<◌, Bool, true, false, None, List, [], ◌++◌, refl, sym, ap, ap₂, ◌∙◌, subst, append_assoc}
use Rattle.wt_span.specs.Origins.{OuterCall}
use Rattle.wt_tree.specs.declared.kind.Kind.{Kind}
use Rattle.wt_tree.specs.declared.kind.Kind.TheVariants as kind
use Rattle.wt_tree.specs.declared.kind.Mark.TheVariants as marks
use Rattle.wt_tree.specs.declared.edit_shape.Place.{Place}
use Rattle.wt_tree.specs.EditShapes.{edit_shape}
use Rattle.wt_tree.specs.Kinds.{is_leaf}
use Rattle.wt_tree.specs.Tiling.{is_group}
use Rattle.wt_tree.specs.Plain.{Face, face, Plains, ended, along, element, plain_before}
use Rattle.wt_tree.specs.Source.{flat}
use Rattle.wt_tree.specs.Tree.{Label, Tree, tree, Trees, label}
use Rattle.wt_guards.specs.Content.{ContentSign}
use Rattle.wt_guards.specs.Guards.{Setting, spelled}
use Rattle.wt_original.specs.Kept.{kept_nodes}
use Rattle.wt_original.specs.Numbers.{counts_up}
use Rattle.wt_original.specs.Page.{Page, page_of}
use Rattle.wt_annotated.specs.CutTexts.{cut_texts}
use Rattle.wt_content.specs.Content.{is_paragraph, bad_content}
use Rattle.wt_expand.specs.PageCalls.{expanded_page}
use Rattle.wt_expand.specs.Work.{Pages}
use Rattle.wt_link_spelling.specs.Spelling.{children_of, inline_spelling}
use Rattle.wt_visible.specs.SameNodes.{same_node}
use Rattle.wt_visible.proofs.SameTells.{tells_same}
use Rattle.wt_part_laws.specs.Expanded.{part_items}
use Rattle.wt_part_laws.specs.HeldCalls.{block_in}
use Rattle.wt_typed_blocks.specs.Sent.{kind_of}
use Rattle.wt_typed_blocks.specs.Typed.{place_of}
use Rattle.wt_typed_blocks.specs.Edited.{Pieces, page_pieces, sent_pieces, pieces_before, page_node, sent_node, edited_before}
use Rattle.wt_typed_blocks.specs.EditedPage.{edited_source}
use Rattle.wt_text_edit_laws.specs.TextBlocks.{TextBlock, a_paragraph, a_heading, block_of, source_of, IsFrame}
use Rattle.wt_beside_laws.specs.Called.{owns_in, called_shown, HasUncalled, IsCalledIn}
use Rattle.wt_beside_laws.specs.ContentEdits.{content_edit, new_content}
use Rattle.wt_beside_laws.specs.SentNodes.{AreSent}
use Rattle.wt_beside_laws.specs.SentPieces.{TextsFit}
use Rattle.wt_beside_laws.specs.Stood.{things}
use Rattle.wt_beside_laws.specs.StyledBlocks.{all_numbers, things_with}
use Rattle.wt_beside_laws.proofs.NoFaults.{no_fault}
use Rattle.wt_called_edit_laws.specs.CalledContents.{tree_round}
use Rattle.wt_called_edit_laws.specs.CalledEdits.{page_things, AreChildrenBeside, IsBesideCalls, TextsFitAt, IsCalledEditOf, MakesContentIn}
use Rattle.wt_called_edit_laws.specs.CallingBlocks.{IsNewContentIn}
use Rattle.wt_called_edit_laws.specs.CallingEdits.{TakesLetters}
use Rattle.wt_called_edit_laws.specs.PageThings.{ArePageThings, ThingsStay}
use Rattle.wt_called_edit_laws.specs.Settled.{settled}
use Rattle.wt_called_edit_laws.specs.WholeContents.{IsWholeIn}
use Rattle.wt_called_edit_laws.specs.WrittenAnew.{IsWrittenBeside, IsWrittenInHeading, IsWrittenIn, HoldsAnywhere}
use Rattle.wt_called_edit_laws.proofs.Beside.Counts.{block_bare, settled_counts}
use Rattle.wt_called_edit_laws.proofs.Beside.Found.{AreFound, nodes_found}
use Rattle.wt_called_edit_laws.proofs.Beside.GroupsFound.{groups_found}
use Rattle.wt_called_edit_laws.specs.FoundGroups.{HaveFoundGroups}
use Rattle.wt_called_edit_laws.proofs.Beside.Sent.{sent_signs, pieces_sent, pieces_things, pieces_characters, pieces_line, pieces_show, pieces_inline}
use Rattle.wt_called_edit_laws.proofs.Beside.Uncalled.{sent_styled}
use Rattle.wt_called_edit_laws.proofs.Whole.Contents.{written_whole}
use Rattle.wt_called_edit_laws.proofs.Written.AllHeld.{written_anywhere}
use Rattle.wt_called_edit_laws.proofs.Written.FromPage.{things_stay, beside_these, page_takes}
use Rattle.wt_called_edit_laws.proofs.Written.Held.{written_shows}
use Rattle.wt_called_edit_laws.proofs.Written.Letters.{letters_again}
use Rattle.wt_called_edit_laws.proofs.Written.Signs.{content_written}
use Rattle.wt_span.specs.Items.{Item, sources}
use Rattle.wt_inline.specs.ItemTree.{forest, held_by_all}
use Rattle.wt_inline.specs.Parts.{children}
use Rattle.wt_context.specs.Line.{line_parts}
use Rattle.wt_annotated.specs.Seams.{last_of}
use Rattle.wt_part_laws.proofs.OwnWalks.{text_own}
use Rattle.wt_text_edit_laws.specs.LonePages.{page_chars}
use Rattle.wt_text_edit_laws.specs.ReadContents.{IsReadContent}
use Rattle.wt_text_edit_laws.specs.TypedHeadings.{opening, closing_items}
use Rattle.wt_text_edit_laws.proofs.Blocks.BlockLeaves.{open_items, close_items}
use Rattle.wt_text_edit_laws.proofs.Blocks.TypedFacts.{framed}
use Rattle.wt_text_edit_laws.proofs.Texts.TypedShown.{chars_of_page}
use Rattle.wt_beside_laws.specs.FlatBlocks.{AreOneLine}
use Rattle.wt_beside_laws.proofs.Groups.CalledHeadings.{closing_page}
use Rattle.wt_beside_laws.proofs.Made.Letters.{pieces_fit}
use Rattle.wt_beside_laws.proofs.Made.Making.{takes_breaks, breaks_so}
use Rattle.wt_beside_laws.proofs.Made.OldBlocks.{face_of}
use Rattle.wt_beside_laws.proofs.Styled.SentStyles.{sent_signs as styled_signs}
use Rattle.wt_called_edit_laws.proofs.Headings.FromPage.{seen_stay, head_these, head_takes}
use Rattle.wt_called_edit_laws.proofs.Headings.Held.{head_holds, head_shows}
use Rattle.wt_called_edit_laws.proofs.Headings.Letters.{head_letters}
use Rattle.wt_called_edit_laws.proofs.Headings.NewContents.{head_written}
use Rattle.wt_called_edit_laws.proofs.Headings.Whole.{head_whole}

-- ---- the block

-- with these calls, at a place of the page's tree
pub record IsSettledIn (pages : Pages) (k : TextBlock) (q : List ℕ) (block : Tree) : Type 0 where
  pub number : ℕ
  pub at : ℕ
  pub before : ℕ
  pub calls : List OuterCall
  pub some : 0 < number
  pub is : block ≡ settled number at (cut_texts (block_in calls (tree_round k (part_items pages before q))))

pub block_kind : (pages : Pages) (k : TextBlock) (q : List ℕ) (block : Tree) → IsSettledIn pages k q block → (label block).kind ≡ kind_of (block_of k)
block_kind pages a_paragraph q block i = ap (λ (t : Tree). (label t).kind) i.is
block_kind pages (a_heading w) q block i = ap (λ (t : Tree). (label t).kind) i.is

pub block_face : (pages : Pages) (k : TextBlock) (q : List ℕ) (block : Tree) → IsSettledIn pages k q block
    → face (record (label block) { kind = kind_of (block_of k) }) ≡ face_of k
block_face pages a_paragraph q block i = ap (λ (t : Tree). face (record (label t) { kind = kind.Para })) i.is
block_face pages (a_heading w) q block i = ap (λ (t : Tree). face (record (label t) { kind = kind.Heading w.level })) i.is

pub block_opening : (pages : Pages) (k : TextBlock) (q : List ℕ) (block : Tree) → IsSettledIn pages k q block → (label block).opening ≡ sources (open_items k)
block_opening pages a_paragraph q block i = ap (λ (t : Tree). (label t).opening) i.is
block_opening pages (a_heading w) q block i =
    ap (λ (t : Tree). (label t).opening) i.is ∙ text_own i.calls None (page_chars (opening w)) (chars_of_page (opening w))

pub block_closing : (pages : Pages) (k : TextBlock) (q : List ℕ) (block : Tree) → IsSettledIn pages k q block → (label block).closing ≡ sources (close_items k)
block_closing pages a_paragraph q block i = ap (λ (t : Tree). (label t).closing) i.is
block_closing pages (a_heading w) q block i =
    let inside : List Item = held_by_all (forest (children (line_parts (part_items pages i.before q)))) in
    ap (λ (t : Tree). (label t).closing) i.is
    ∙ text_own i.calls (last_of (last_of None (page_chars (opening w))) inside) (closing_items w) (closing_page w)

pub no_leaf : (k : TextBlock) → is_leaf (kind_of (block_of k)) ≡ false
no_leaf a_paragraph = refl
no_leaf (a_heading w) = refl

no_group : (k : TextBlock) → is_group (kind_of (block_of k)) ≡ false
no_group a_paragraph = refl
no_group (a_heading w) = refl

-- the groups in it are found by their numbers
pub block_groups : (pages : Pages) (k : TextBlock) (q : List ℕ) (block : Tree) → IsSettledIn pages k q block → HaveFoundGroups (kept_nodes block) (children_of block)
block_groups pages k q block i =
    groups_found block i.number i.at (cut_texts (block_in i.calls (tree_round k (part_items pages i.before q)))) i.some
    (block_bare i.calls (tree_round k (part_items pages i.before q))) i.is (ap is_group (block_kind pages k q block i) ∙ no_group k)

block_found : (pages : Pages) (k : TextBlock) (q : List ℕ) (block : Tree) → IsSettledIn pages k q block → IsBesideCalls pages k q block
    → AreFound (kept_nodes block) (children_of block)
block_found pages k q block i h =
    let v : Tree = cut_texts (block_in i.calls (tree_round k (part_items pages i.before q))) in
    let counts : counts_up i.number (kept_nodes block) ≡ true =
    subst (λ (t : Tree). counts_up i.number (kept_nodes t) ≡ true) (sym i.is)
    (settled_counts i.number i.at v i.some (block_bare i.calls (tree_round k (part_items pages i.before q)))) in
    nodes_found block i.number i.some counts (ap is_leaf (block_kind pages k q block i) ∙ no_leaf k) h.own (block_groups pages k q block i)

-- the node of the edit is the page's
pub node_by : (k : Kind) (block : Tree) (ts : Trees) → (label block).kind ≡ k → ts ≡ children_of block → tree (record (label block) { kind = k }) ts ≡ block
node_by k (tree l cs) ts e is = ap (λ (j : Kind). tree (record l { kind = j }) ts) (sym e) ∙ ap (tree l) is

-- ---- what is written

abbrev pub setting : TextBlock → Tree → Setting
setting k block = record { within = false; place = place_of (block_of k); source = flat block }

abbrev pub signs : TextBlock → Tree → Pieces → List ContentSign
signs k block ps = sent_signs same_node block (place_of (block_of k)) ps

pub spelled_by : (k : TextBlock) (old block : Tree) (m : Label) (ps : Pieces)
    → inline_spelling same_node old (sent_node (content_edit k block m ps)) (place_of (block_of k)) ≡ spelled (setting k old) (signs k old ps)
unfolding inline_spelling
spelled_by k old block m ps = refl

-- What holds of the edit: its nodes are the block's, as they are in the page, and its texts fit.
pub record IsSentBeside (pages : Pages) (k : TextBlock) (block : Tree) (m : Label) (ps : Pieces) : Type 0 where
  node : page_node (content_edit k block m ps) ≡ block
  pub sent : AreSent (page_of same_node block) (sent_pieces ps)
  things_stay : ThingsStay pages (page_things block) (things (signs k block ps))
  pub written : IsWrittenIn k pages (setting k block) (signs k block ps)
  shows : (i : ℕ) (rest : Plains) → called_shown (signs k block ps) (owns_in pages i (signs k block ps)) rest ≡ pieces_before ps rest

-- its signs are written so
written_so : (pages : Pages) (k : TextBlock) (q : List ℕ) (block : Tree) (ps : Pieces) → IsBesideCalls pages k q block → IsCalledEditOf pages k block ps
    → AreFound (kept_nodes block) (page_pieces ps) → AreChildrenBeside pages (page_pieces ps) → AreSent (page_of same_node block) (sent_pieces ps)
    → ThingsStay pages (page_things block) (things (signs k block ps)) → IsWrittenIn k pages (setting k block) (signs k block ps)
written_so pages a_paragraph q block ps h e found own sent stay =
    let pl : Place = place_of (block_of a_paragraph) in
    let p : Page = page_of same_node block in
    beside_these pages (page_things block) (setting a_paragraph block) (signs a_paragraph block ps) refl
    (pieces_characters pages same_node block pl ps tells_same found own e.stay e.are e.plain)
    (subst (HasUncalled (setting a_paragraph block) []) (sym (styled_signs p pl (sent_pieces ps) (sent_styled p (sent_pieces ps) sent))) e.fits) h.things stay
written_so pages (a_heading w) q block ps h e found own sent stay =
    let pl : Place = place_of (block_of (a_heading w)) in
    head_these pages (page_things block) (setting (a_heading w) block) (signs (a_heading w) block ps) refl refl
    (pieces_line pages same_node block pl ps tells_same found own e.stay e.are e.plain e.fits)
    (pieces_characters pages same_node block pl ps tells_same found own e.stay e.are e.plain) h.things h.round.1 stay

pub sent_beside : (pages : Pages) (k : TextBlock) (q : List ℕ) (block : Tree) (m : Label) (ps : Pieces) → IsSettledIn pages k q block → IsBesideCalls pages k q block
    → IsCalledEditOf pages k block ps → IsSentBeside pages k block m ps
sent_beside pages k q block m ps i h e =
    let pl : Place = place_of (block_of k) in
    let there : AreFound (kept_nodes block) (children_of block) = block_found pages k q block i h in
    let found : AreFound (kept_nodes block) (page_pieces ps) = subst (AreFound (kept_nodes block)) (sym e.old) there in
    let own : AreChildrenBeside pages (page_pieces ps) = subst (AreChildrenBeside pages) (sym e.old) h.children in
    let some : ThingsStay pages (things_with (kept_nodes block) (all_numbers (page_pieces ps))) (things (signs k block ps)) =
    pieces_things pages same_node block pl ps tells_same found own e.stay e.are e.plain e.calm in
    let stay : ThingsStay pages (page_things block) (things (signs k block ps)) =
    subst (λ (ts : Trees). ThingsStay pages (things_with (kept_nodes block) (all_numbers ts)) (things (signs k block ps))) e.old some in
    let sent : AreSent (page_of same_node block) (sent_pieces ps) = pieces_sent pages same_node block ps tells_same found own e.stay e.plain in
    record {
      node = node_by (kind_of (block_of k)) block (page_pieces ps) (block_kind pages k q block i) e.old;
      sent = sent;
      things_stay = stay;
      written = written_so pages k q block ps h e found own sent stay;
      shows = λ j rest. pieces_show pages j same_node block pl ps rest tells_same found own e.stay e.are e.plain;
    }

pub content_is : (pages : Pages) (k : TextBlock) (block : Tree) (m : Label) (ps : Pieces) → IsSentBeside pages k block m ps
    → new_content k block m ps ≡ spelled (setting k block) (signs k block ps)
content_is pages k block m ps w =
    spelled_by k (page_node (content_edit k block m ps)) block m ps ∙ ap (λ (t : Tree). spelled (setting k t) (signs k t ps)) w.node

-- ---- it is taken

pub one_line_so : (k : TextBlock) (block : Tree) (ps : Pieces) → TextsFitAt k block ps → takes_breaks k ≡ false → AreOneLine ps
one_line_so a_paragraph block ps f e = absurd (cc)
one_line_so (a_heading w) block ps f e = f

taken_so : (pages : Pages) (k : TextBlock) (q : List ℕ) (block : Tree) (m : Label) (ps : Pieces) → IsSettledIn pages k q block → IsSentBeside pages k block m ps
    → IsCalledEditOf pages k block ps → bad_content same_node (page_node (content_edit k block m ps)) (sent_node (content_edit k block m ps)) ≡ None
taken_so pages k q block m ps i w e =
    let new : Tree = sent_node (content_edit k block m ps) in
    let l : Label = record m { kind = kind_of (block_of k); id = (label block).id; attrs = (label block).attrs; mark = marks.Content; mw = (label block).mw } in
    let breaks : is_paragraph (edit_shape (label block).kind).form ≡ takes_breaks k =
    ap (λ (j : Kind). is_paragraph (edit_shape j).form) (block_kind pages k q block i) ∙ breaks_so k in
    let fits : TextsFit (is_paragraph (edit_shape (label block).kind).form) (sent_pieces ps) =
    subst (λ (v : Bool). TextsFit v (sent_pieces ps)) (sym breaks) (pieces_fit (takes_breaks k) ps e.stay e.are (one_line_so k block ps e.fits)) in
    ap (λ (t : Tree). bad_content same_node t new) w.node ∙ no_fault same_node block l (sent_pieces ps) w.sent fits

pub source_so : (pages : Pages) (k : TextBlock) (q : List ℕ) (block : Tree) (m : Label) (ps : Pieces) → IsSettledIn pages k q block
    → edited_source same_node (content_edit k block m ps) ≡ source_of k (new_content k block m ps)
source_so pages k q block m ps i =
    let now : List ℕ = new_content k block m ps in
    append_assoc (label block).opening now (label block).closing
    ∙ ap₂ (λ (bs cs : List ℕ). bs ++ (now ++ cs)) (block_opening pages k q block i) (block_closing pages k q block i)
    ∙ framed k now

-- ---- and makes the new block

-- What is written, in the place of the old content.
record IsMadeOf (pages : Pages) (k : TextBlock) (q : List ℕ) (ss : List ContentSign) (now : List ℕ) : Type 0 where
  new : IsNewContentIn pages k q now
  holds : HoldsAnywhere pages k now
  texts : (expanded_page pages (source_of k now)).text_calls ≡ []
  letters : TakesLetters pages k now
  whole : IsWholeIn pages k now
  shows : (calls : List OuterCall) (i : ℕ) (rest : Plains)
      → plain_before (cut_texts (block_in calls (tree_round k (part_items pages i now)))) rest
      ≡ along (element (face_of k) (called_shown ss (owns_in pages i ss) ended)) rest

made_of : (pages : Pages) (k : TextBlock) (q : List ℕ) (block : Tree) (m : Label) (ps : Pieces) → IsBesideCalls pages k q block → IsSentBeside pages k block m ps
    → IsMadeOf pages k q (signs k block ps) (spelled (setting k block) (signs k block ps))
made_of pages a_paragraph q block m ps h w =
    let s : Setting = setting a_paragraph block in
    let ss : List ContentSign = signs a_paragraph block ps in
    let b : IsWrittenBeside pages s ss = w.written in
    let c : IsCalledIn pages s ss = b.called in
    let own : ArePageThings pages (things ss) = things_stay pages (page_things block) (things ss) w.things_stay h.things in
    let parts = content_written pages s ss refl b.read b.parts in
    let part = parts.part in
    record {
      new = subst (λ (bs : List ℕ). IsNewContentIn pages a_paragraph bs (spelled s ss)) h.is
          (page_takes pages h.pieces (page_things block) s ss h.parts h.among h.things refl c.characters c.some w.things_stay);
      holds = written_anywhere pages s ss b;
      texts = part.texts;
      letters = letters_again pages s ss b own;
      whole = written_whole pages s ss b;
      shows = λ calls i rest. written_shows pages calls i s ss rest b.called b.read b.parts;
    }
made_of pages (a_heading v) q block m ps h w =
    let s : Setting = setting (a_heading v) block in
    let ss : List ContentSign = signs (a_heading v) block ps in
    let b : IsWrittenInHeading pages s ss = w.written in
    let read : IsReadContent (a_heading v) q = h.round.0 in
    let f : IsFrame v = read.begins in
    let own : ArePageThings pages (things ss) = things_stay pages (page_things block) (things ss) w.things_stay h.things in
    let parts = head_written pages s ss v f b in
    let part = parts.part in
    record {
      new = subst (λ (bs : List ℕ). IsNewContentIn pages (a_heading v) bs (spelled s ss)) h.is
          (head_takes pages v h.pieces (page_things block) s ss (subst (IsReadContent (a_heading v)) (sym h.is) read) h.parts h.among b w.things_stay);
      holds = head_holds pages s ss v f.sides b;
      texts = part.texts;
      letters = head_letters pages s ss v f b own (seen_stay pages (page_things block) (things ss) w.things_stay h.round.1);
      whole = head_whole pages s ss v f b;
      shows = λ calls i rest. head_shows pages calls i s ss v rest f.sides b;
    }

shows_so : (pages : Pages) (k : TextBlock) (q : List ℕ) (block : Tree) (m : Label) (ps : Pieces) (calls : List OuterCall) (i : ℕ) (rest : Plains)
    → IsSettledIn pages k q block → IsSentBeside pages k block m ps → IsMadeOf pages k q (signs k block ps) (spelled (setting k block) (signs k block ps))
    → edited_before (content_edit k block m ps) rest
    ≡ plain_before (cut_texts (block_in calls (tree_round k (part_items pages i (spelled (setting k block) (signs k block ps)))))) rest
shows_so pages k q block m ps calls i rest there w b =
    ap (λ (f : Face). along (element f (pieces_before ps ended)) rest) (block_face pages k q block there)
    ∙ ap (λ (qs : Plains). along (element (face_of k) qs) rest) (sym (w.shows i ended))
    ∙ sym (b.shows calls i rest)

block_makes : (pages : Pages) (k : TextBlock) (q : List ℕ) (block : Tree) (m : Label) (ps : Pieces) → IsSettledIn pages k q block → IsBesideCalls pages k q block
    → IsCalledEditOf pages k block ps → MakesContentIn pages k q block m ps
block_makes pages k q block m ps i h e =
    let w : IsSentBeside pages k block m ps = sent_beside pages k q block m ps i h e in
    let now : List ℕ = spelled (setting k block) (signs k block ps) in
    let b : IsMadeOf pages k q (signs k block ps) now = made_of pages k q block m ps h w in
    let is : new_content k block m ps ≡ now = content_is pages k block m ps w in
    record {
      taken = taken_so pages k q block m ps i w e;
      new = subst (IsNewContentIn pages k q) (sym is) b.new;
      holds = subst (HoldsAnywhere pages k) (sym is) b.holds;
      texts = ap (λ (bs : List ℕ). (expanded_page pages (source_of k bs)).text_calls) is ∙ b.texts;
      letters = subst (TakesLetters pages k) (sym is) b.letters;
      whole = subst (IsWholeIn pages k) (sym is) b.whole;
      source = source_so pages k q block m ps i;
      shows = λ calls j rest.
          shows_so pages k q block m ps calls j rest i w b
          ∙ ap (λ (bs : List ℕ). plain_before (cut_texts (block_in calls (tree_round k (part_items pages j bs)))) rest) (sym is);
      inline = pieces_inline pages ps (subst (AreChildrenBeside pages) (sym e.old) h.children) e.stay e.plain;
    }

-- ---- in other words

pub calls_make : (pages : Pages) (k : TextBlock) (q : List ℕ) (block : Tree) (m : Label) (ps : Pieces) (n at i : ℕ) (calls : List OuterCall) → 0 < n
    → block ≡ settled n at (cut_texts (block_in calls (tree_round k (part_items pages i q)))) → IsBesideCalls pages k q block → IsCalledEditOf pages k block ps
    → MakesContentIn pages k q block m ps
calls_make pages k q block m ps n at i calls some is h e =
    block_makes pages k q block m ps (record { number = n; at = at; before = i; calls = calls; some = some; is = is }) h e

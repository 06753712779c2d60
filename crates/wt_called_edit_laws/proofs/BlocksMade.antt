-- What is sent for a block whose content was edited makes the block with the new content, wherever it is.
use Rattle.std.proofs.Common.{◌≡◌, ◌<◌, ◌⊎◌, inl, inr, ℕ, zero, suc, Option, Some, None, List, [], ◌∷◌, ◌++◌, map, refl, sym, ap, ◌∙◌, subst, append_assoc}
use Rattle.std.specs.Str.{IsUtf8}
use Rattle.wt_tree.specs.Plain.{Plains, Face, ended, along, element, face, text_before, plain_before}
use Rattle.wt_tree.specs.Source.{flat}
use Rattle.wt_tree.specs.Tree.{Label, Tree, tree, Trees, none, more, label}
use Rattle.wt_span.specs.Items.{Item, sources}
use Rattle.wt_annotated.specs.Labels.{label_at}
use Rattle.wt_checks.specs.Kept.{children}
use Rattle.wt_content.specs.Content.{bad_content}
use Rattle.wt_link_spelling.specs.Spelling.{inline_spelling, children_of}
use Rattle.wt_visible.specs.SameNodes.{same_node}
use Rattle.wt_part_laws.specs.Placeless.{placeless}
use Rattle.wt_part_laws.specs.Standing.{standing}
use Rattle.wt_part_laws.proofs.Placeless.{shown_placeless}
use Rattle.wt_part_laws.proofs.Sources.{standing_source}
use Rattle.wt_typed_blocks.specs.Sent.{Block, paragraph, heading, kind_of, text_in}
use Rattle.wt_typed_blocks.specs.Typed.{place_of, block_source, Takes}
use Rattle.wt_typed_blocks.specs.Edited.{Pieces, no_pieces, gone, written, kept, around, new_style, page_pieces, sent_pieces, text_node, pieces_before, Edited, stays, edited, round, Edits, no_edits, more_edits, page_node, page_nodes}
use Rattle.wt_typed_blocks.specs.EditedPage.{IsTaken, AreTaken}
use Rattle.wt_typed_blocks.specs.EditedUnmarked.{AreInline}
use Rattle.wt_typed_blocks.proofs.AsEdits.{good, marked_node, typed_is}
use Rattle.wt_text_edit_laws.specs.BlockEdits.{typed_as}
use Rattle.wt_text_edit_laws.specs.BlockSpots.{BlockSpot, AreContents}
use Rattle.wt_text_edit_laws.specs.Contents.{IsContent, IsNewContent}
use Rattle.wt_text_edit_laws.specs.TextBlocks.{TextBlock, a_paragraph, a_heading, block_of, source_of, block_tree, IsBlock, IsTypedIn}
use Rattle.wt_text_edit_laws.proofs.Blocks.BlockSpotFacts.{typed_paragraph, typed_heading}
use Rattle.wt_text_edit_laws.proofs.Blocks.BlockLeaves.{open_items, close_items, block_leaves, block_own}
use Rattle.wt_text_edit_laws.proofs.Blocks.Contents.{typed_block, typed_new}
use Rattle.wt_text_edit_laws.proofs.Blocks.Contents.{block_source as source_is}
use Rattle.wt_text_edit_laws.proofs.Blocks.TypedFacts.{framed, text_shown, typed_shown}
use Rattle.wt_beside_laws.specs.ContentEdits.{MakesContent}
use Rattle.wt_beside_laws.specs.FlatBlocks.{IsFlatEditOf}
use Rattle.wt_beside_laws.specs.StyledIn.{IsFlatIn}
use Rattle.wt_beside_laws.proofs.Styled.Making.{styled_makes}
use Rattle.wt_beside_laws.proofs.Styled.WithoutStyles.{flat_edit}
use Rattle.wt_called_edit_laws.specs.CalledBlocks.{tree_by}
use Rattle.wt_called_edit_laws.specs.EditsAt.{IsStanding, StandsTo, StandsAmong, AllStand, edited_at, edited_among, edited_by, content_of, with_content, with_contents, AreGone, IsOneText, Fits, FitsSpot, AreFitting}
use Rattle.wt_called_edit_laws.specs.Nodes.{block_at}
use Rattle.wt_called_edit_laws.specs.Retyped.{AreRetyped}
use Rattle.wt_called_edit_laws.specs.Sends.{BlockSent, Sends, AllSend, MakesNode, BlocksMake}
use Rattle.wt_called_edit_laws.specs.TreeEdits.{IsInline}
use Rattle.wt_part_laws.specs.TreeFrames.{TreeFrame, spot, kept as kept_tree, holder, TreeFrames, no_nodes, more_nodes}
use Rattle.wt_called_edit_laws.proofs.Cells.Nodes.{same_inside}
use Rattle.wt_called_edit_laws.proofs.Cells.Equal.{same_first, same_rest, same_block}
use Rattle.wt_called_edit_laws.proofs.Leads.{standing_kind, edit_at}
use Rattle.wt_called_edit_laws.proofs.TextsMake.{flat_same}

-- ---- one text in the place of all

abbrev text_label : Label → Pieces → Label
text_label m no_pieces = m
text_label m (gone t ps) = text_label m ps
text_label m (written x text ps) = x
text_label m (kept t u ps) = m
text_label m (around l n is ps) = m
text_label m (new_style n is ps) = m

abbrev pub text_of : Pieces → List ℕ
text_of no_pieces = []
text_of (gone t ps) = text_of ps
text_of (written x text ps) = text
text_of (kept t u ps) = []
text_of (around l m is ps) = []
text_of (new_style n is ps) = []

none_sent : (ps : Pieces) → AreGone ps → sent_pieces ps ≡ none
none_sent no_pieces h = refl
none_sent (gone t ps) h = none_sent ps h
none_sent (written x text ps) h = absurd h
none_sent (kept t u ps) h = absurd h
none_sent (around l m is ps) h = absurd h
none_sent (new_style n is ps) h = absurd h

alone_is : (x : Label) (text : List ℕ) → text_node x text none ≡ text_in x text
alone_is x [] = refl
alone_is x (b ∷ bs) = refl

one_sent : (j : Block) (m : Label) (ps : Pieces) → IsOneText j ps → sent_pieces ps ≡ text_in (text_label m ps) (text_of ps)
one_sent j m no_pieces h = absurd h
one_sent j m (gone t ps) h = one_sent j m ps h
one_sent j m (written x text ps) h = ap (text_node x text) (none_sent ps h.2) ∙ alone_is x text
one_sent j m (kept t u ps) h = absurd h
one_sent j m (around l n is ps) h = absurd h
one_sent j m (new_style n is ps) h = absurd h

none_before : (ps : Pieces) (rest : Plains) → AreGone ps → pieces_before ps rest ≡ rest
none_before no_pieces rest h = refl
none_before (gone t ps) rest h = none_before ps rest h
none_before (written x text ps) rest h = absurd h
none_before (kept t u ps) rest h = absurd h
none_before (around l m is ps) rest h = absurd h
none_before (new_style n is ps) rest h = absurd h

one_before : (j : Block) (ps : Pieces) (rest : Plains) → IsOneText j ps → pieces_before ps rest ≡ text_before (text_of ps) rest
one_before j no_pieces rest h = absurd h
one_before j (gone t ps) rest h = one_before j ps rest h
one_before j (written x text ps) rest h = ap (text_before text) (none_before ps rest h.2)
one_before j (kept t u ps) rest h = absurd h
one_before j (around l m is ps) rest h = absurd h
one_before j (new_style n is ps) rest h = absurd h

gone_inline : (ps : Pieces) → AreGone ps → AreInline ps
gone_inline no_pieces h = tt
gone_inline (gone t ps) h = gone_inline ps h
gone_inline (written x text ps) h = absurd h
gone_inline (kept t u ps) h = absurd h
gone_inline (around l m is ps) h = absurd h
gone_inline (new_style n is ps) h = absurd h

one_inline : (j : Block) (ps : Pieces) → IsOneText j ps → AreInline ps
one_inline j no_pieces h = absurd h
one_inline j (gone t ps) h = one_inline j ps h
one_inline j (written x text ps) h = gone_inline ps h.2
one_inline j (kept t u ps) h = absurd h
one_inline j (around l m is ps) h = absurd h
one_inline j (new_style n is ps) h = absurd h

one_fits : (j : Block) (ps : Pieces) → IsOneText j ps → IsUtf8 (text_of ps) × Takes j (text_of ps)
one_fits j no_pieces h = absurd h
one_fits j (gone t ps) h = one_fits j ps h
one_fits j (written x text ps) h = (h.0, h.1)
one_fits j (kept t u ps) h = absurd h
one_fits j (around l m is ps) h = absurd h
one_fits j (new_style n is ps) h = absurd h

-- ---- the page's block, wherever it is

face_there : (k : TextBlock) (q : List ℕ) (n : ℕ) (b : List Item)
    → face (label (standing n b (block_tree k q))) ≡ record { kind = kind_of (block_of k); attrs = []; mw = None }
unfolding label_at
face_there a_paragraph q n b = refl
face_there (a_heading s) q n b = refl

opening_there : (k : TextBlock) (q : List ℕ) (n : ℕ) (b : List Item) → (label (standing n b (block_tree k q))).opening ≡ sources (open_items k)
unfolding label_at
opening_there a_paragraph q n b = refl
opening_there (a_heading s) q n b = refl

closing_there : (k : TextBlock) (q : List ℕ) (n : ℕ) (b : List Item) → (label (standing n b (block_tree k q))).closing ≡ sources (close_items k)
unfolding label_at
closing_there a_paragraph q n b = refl
closing_there (a_heading s) q n b = refl

block_flat : (j : Block) (l : Label) (us : Trees) → block_source l us ≡ flat (tree (record l { kind = kind_of j }) us)
block_flat paragraph l us = refl
block_flat (heading n) l us = refl

old_source : (k : TextBlock) (q : List ℕ) (l m : Label) (ps : Pieces) → IsStanding (block_tree k q) (page_node (edited (block_of k) l m ps))
    → block_source l (page_pieces ps) ≡ source_of k q
old_source k q l m ps h =
    block_flat (block_of k) l (page_pieces ps) ∙ ap flat h.is ∙ standing_source h.number h.before (block_tree k q) ∙ source_is k q

-- ---- with this text

pub text_content : (k : TextBlock) (q : List ℕ) (l m : Label) (ps : Pieces) → IsContent k q → IsStanding (block_tree k q) (page_node (edited (block_of k) l m ps))
    → IsOneText (block_of k) ps → content_of (edited (block_of k) l m ps) ≡ typed_as (block_of k) (source_of k q) (text_of ps)
text_content k q l m ps c h one =
    let j : Block = block_of k in
    let page : Tree = page_node (edited j l m ps) in
    ap (λ (us : Trees). inline_spelling same_node page (marked_node j l m us) (place_of j)) (one_sent j m ps one)
    ∙ typed_is same_node j l (page_pieces ps) m (text_label m ps) (text_of ps)
    ∙ ap (λ (bs : List ℕ). typed_as j bs (text_of ps)) (old_source k q l m ps h)

typed_in : (k : TextBlock) (q text : List ℕ) → IsContent k q → IsUtf8 text → Takes (block_of k) text → IsTypedIn k (typed_as (block_of k) (source_of k q) text)
typed_in a_paragraph q text c u t = typed_paragraph q text u
typed_in (a_heading s) q text c u t = let i = c.is in typed_heading s (source_of (a_heading s) q) text u t i.frame

block_shows : (k : TextBlock) (q text : List ℕ) (rest : Plains) → IsUtf8 text → IsBlock k (typed_as (block_of k) q text)
    → text_shown k text rest ≡ plain_before (standing 0 [] (block_tree k (typed_as (block_of k) q text))) rest
block_shows k q text rest u again =
    let new : List ℕ = typed_as (block_of k) q text in
    typed_shown k q text rest u (block_own k new again) ∙ ap (λ b. plain_before (standing 0 [] b) rest) (sym (block_leaves k new again))

text_made : (k : TextBlock) (q : List ℕ) (l m : Label) (ps : Pieces) → IsContent k q → IsStanding (block_tree k q) (page_node (edited (block_of k) l m ps))
    → IsOneText (block_of k) ps → MakesContent k q (page_node (edited (block_of k) l m ps)) m ps
text_made k q l m ps c h one =
    let j : Block = block_of k in
    let page : Tree = page_node (edited j l m ps) in
    let text : List ℕ = text_of ps in
    let f = one_fits j ps one in
    let new : List ℕ = typed_as j (source_of k q) text in
    let made : List ℕ = content_of (edited j l m ps) in
    let is : made ≡ new = text_content k q l m ps c h one in
    let is_typed : IsTypedIn k new = typed_in k q text c f.0 f.1 in
    let faces : face (label page) ≡ record { kind = kind_of j; attrs = []; mw = None } =
    ap (λ (t : Tree). face (label t)) h.is ∙ face_there k q h.number h.before in
    let opens : l.opening ≡ sources (open_items k) = ap (λ (t : Tree). (label t).opening) h.is ∙ opening_there k q h.number h.before in
    let closes : l.closing ≡ sources (close_items k) = ap (λ (t : Tree). (label t).closing) h.is ∙ closing_there k q h.number h.before in
    record {
      taken =
          ap (λ (us : Trees). bad_content same_node page (marked_node j l m us)) (one_sent j m ps one)
          ∙ good same_node j l (page_pieces ps) m (text_label m ps) text f.1;
      inline = one_inline j ps one;
      new = subst (IsNewContent k q) (sym is) (typed_new k q new is_typed);
      source =
          append_assoc l.opening made l.closing
          ∙ ap (λ (bs : List ℕ). bs ++ (made ++ l.closing)) opens
          ∙ ap (λ (bs : List ℕ). sources (open_items k) ++ (made ++ bs)) closes
          ∙ framed k made;
      shows = λ rest.
          ap (λ (qs : Plains). along (element (face (label page)) qs) rest) (one_before j ps ended one)
          ∙ ap (λ (f : Face). along (element f (text_before text ended)) rest) faces
          ∙ block_shows k (source_of k q) text rest f.0 (typed_block k new is_typed)
          ∙ ap (λ (bs : List ℕ). plain_before (standing 0 [] (block_tree k bs)) rest) (sym is);
    }

-- ---- any content that fits

-- What holds of what is sent for a block: it is taken, what is written may stand in the old content's place, and it makes the block with this.
pub record IsMade (k : TextBlock) (q : List ℕ) (e : Edited) : Type 0 where
  pub taken : IsTaken same_node e
  pub inline : IsInline e
  pub new : IsNewContent k q (content_of e)
  pub makes : MakesNode e (placeless (standing 0 [] (block_tree k (content_of e))))

as_made : (k : TextBlock) (q : List ℕ) (l m : Label) (ps : Pieces) → MakesContent k q (page_node (edited (block_of k) l m ps)) m ps
    → IsMade k q (edited (block_of k) l m ps)
as_made k q l m ps h =
    let now : List ℕ = content_of (edited (block_of k) l m ps) in
    record {
      taken = h.taken;
      inline = h.inline;
      new = h.new;
      makes = record {
        source = h.source ∙ sym (flat_same (standing 0 [] (block_tree k now)) ∙ standing_source 0 [] (block_tree k now) ∙ source_is k now);
        shows = λ rest. h.shows rest ∙ sym (shown_placeless (standing 0 [] (block_tree k now)) rest);
      };
    }

own_made : (k : TextBlock) (q : List ℕ) (l m : Label) (ps : Pieces) → IsContent k q → IsStanding (block_tree k q) (page_node (edited (block_of k) l m ps))
    → Fits k q (edited (block_of k) l m ps) → IsMade k q (edited (block_of k) l m ps)
own_made k q l m ps c h (inl one) = as_made k q l m ps (text_made k q l m ps c h one)
own_made k q l m ps c h (inr (f, e)) =
    as_made k q l m ps (styled_makes k q h.number h.before (page_node (edited (block_of k) l m ps)) m ps f h.some h.is e)

pub edited_made : (k : TextBlock) (q : List ℕ) (j : Block) (l m : Label) (ps : Pieces) → IsContent k q → IsStanding (block_tree k q) (page_node (edited j l m ps))
    → Fits k q (edited j l m ps) → IsMade k q (edited j l m ps)
edited_made k q j l m ps c h f =
    let e : j ≡ block_of k = same_block j (block_of k) (standing_kind k q (page_node (edited j l m ps)) h) in
    let P : Block → Type 0 = λ i. IsStanding (block_tree k q) (page_node (edited i l m ps)) → Fits k q (edited i l m ps) → IsMade k q (edited i l m ps) in
    subst P (sym e) (λ g i. own_made k q l m ps c g i) h f

-- where no style is in the block, any nodes of it may stay
pub flat_fits : (k : TextBlock) (q : List ℕ) (n : ℕ) (b : List Item) (l m : Label) (ps : Pieces) → IsFlatIn k q → 0 < n
    → page_node (edited (block_of k) l m ps) ≡ standing n b (block_tree k q) → IsFlatEditOf k (standing n b (block_tree k q)) ps
    → Fits k q (edited (block_of k) l m ps)
flat_fits k q n b l m ps h some is e =
    let t : Tree = page_node (edited (block_of k) l m ps) in
    inr (h.styled, flat_edit k q n b t ps h some (ap children_of is) (subst (λ (u : Tree). IsFlatEditOf k u ps) (sym is) e))

-- ---- at the paths of the blocks

abbrev pub IsMadeSpot : BlockSpot → Option Edited → Type 0
IsMadeSpot s None = Unit {0}
IsMadeSpot s (Some e) = IsMade s.block s.text e

abbrev pub AreMadeSpots : List BlockSpot → List (Option Edited) → Type 0
AreMadeSpots [] [] = Unit {0}
AreMadeSpots [] (o ∷ os) = ⊥
AreMadeSpots (s ∷ ss) [] = ⊥
AreMadeSpots (s ∷ ss) (o ∷ os) = IsMadeSpot s o × AreMadeSpots ss os

mutual
  made_to : (s : BlockSpot) (p : List ℕ) (t : Tree) (e : Edited) → IsContent s.block s.text → StandsTo (block_tree s.block s.text) p t → page_node e ≡ t
      → FitsSpot s (edited_at p e) → IsMadeSpot s (edited_at p e)
  made_to s p t (stays v u) c h is f = tt
  made_to s [] t (edited j l m ps) c h is f = edited_made s.block s.text j l m ps c (subst (IsStanding (block_tree s.block s.text)) (sym is) h) f
  made_to s (i ∷ is) t (edited j l m ps) c h e f = tt
  made_to s [] t (round l m es) c h is f = tt
  made_to s (i ∷ is) (tree k ts) (round l m es) c h e f = made_among s i is ts es c h (same_inside l k (page_nodes es) ts e) f

  made_among : (s : BlockSpot) (i : ℕ) (is : List ℕ) (ts : Trees) (es : Edits) → IsContent s.block s.text → StandsAmong (block_tree s.block s.text) i is ts
      → page_nodes es ≡ ts → FitsSpot s (edited_among i is es) → IsMadeSpot s (edited_among i is es)
  made_among s i is none es c h e f = absurd h
  made_among s zero is (more t ts) no_edits c h e f = tt
  made_among s (suc i) is (more t ts) no_edits c h e f = tt
  made_among s zero is (more t ts) (more_edits d ds) c h e f = made_to s is t d c h (same_first (page_node d) t (page_nodes ds) ts e) f
  made_among s (suc i) is (more t ts) (more_edits d ds) c h e f = made_among s i is ts ds c h (same_rest (page_node d) t (page_nodes ds) ts e) f

made_by : (s : BlockSpot) (p : List ℕ) (t : Tree) (es : Edits) → IsContent s.block s.text → StandsTo (block_tree s.block s.text) p t → page_nodes es ≡ children t
    → FitsSpot s (edited_by es p) → IsMadeSpot s (edited_by es p)
made_by s [] t es c h e f = tt
made_by s (i ∷ is) (tree l ts) es c h e f = made_among s i is ts es c h e f

pub all_made : (ss : List BlockSpot) (ps : List (List ℕ)) (t : Tree) (es : Edits) → AreContents ss → AllStand ss ps t → page_nodes es ≡ children t
    → AreFitting ss (map (edited_by es) ps) → AreMadeSpots ss (map (edited_by es) ps)
all_made [] [] t es c h e f = tt
all_made [] (p ∷ ps) t es c h e f = absurd h
all_made (s ∷ ss) [] t es c h e f = absurd h
all_made (s ∷ ss) (p ∷ ps) t es c h e f = (made_by s p t es c.0 h.0 e f.0, all_made ss ps t es c.1 h.1 e f.1)

-- ---- of all blocks

pub none_edited : (e : Edited) → None ≡ Some e → ⊥
none_edited e h = cc

edit_or : Edited → Option Edited → Edited
edit_or e None = e
edit_or e (Some d) = d

pub same_edit : (e d : Edited) → Some e ≡ Some d → e ≡ d
unfolding edit_or
same_edit e d h = ap (edit_or e) h

spot_made : (s : BlockSpot) (o : Option Edited) (e : Edited) → IsMadeSpot s o → o ≡ Some e
    → MakesNode e (placeless (standing 0 [] (block_tree (with_content s o).block (with_content s o).text)))
spot_made s None e h p = absurd (none_edited e p)
spot_made s (Some d) e h p =
    subst (λ (x : Edited). MakesNode x (placeless (standing 0 [] (block_tree s.block (content_of d))))) (same_edit d e p) h.makes

made_at : (ss : List BlockSpot) (os : List (Option Edited)) → AreMadeSpots ss os → (n : ℕ) (e : Edited) → edit_at os n ≡ Some e
    → MakesNode e (block_at (tree_by (with_contents ss os)) n)
made_at [] [] h n e p = absurd (none_edited e p)
made_at [] (o ∷ os) h n e p = absurd h
made_at (s ∷ ss) [] h n e p = absurd h
made_at (s ∷ ss) (o ∷ os) h zero e p = spot_made s o e h.0 p
made_at (s ∷ ss) (o ∷ os) h (suc n) e p = made_at ss os h.1 n e p

same_content : (s : BlockSpot) (o : Option Edited) → o ≡ None → block_tree s.block s.text ≡ block_tree (with_content s o).block (with_content s o).text
same_content s None e = refl
same_content s (Some d) e = absurd (none_edited d (sym e))

same_where_none : (ss : List BlockSpot) (os : List (Option Edited)) (n : ℕ) → edit_at os n ≡ None → tree_by ss n ≡ tree_by (with_contents ss os) n
same_where_none [] os n e = refl
same_where_none (s ∷ ss) [] n e = refl
same_where_none (s ∷ ss) (o ∷ os) zero e = same_content s o e
same_where_none (s ∷ ss) (o ∷ os) (suc n) e = same_where_none ss os n e

pub blocks_made : (ss : List BlockSpot) (os : List (Option Edited)) → AreMadeSpots ss os
    → BlocksMake (edit_at os) (block_at (tree_by ss)) (block_at (tree_by (with_contents ss os)))
blocks_made ss os h = (made_at ss os h, λ n e. ap (λ b. placeless (standing 0 [] b)) (same_where_none ss os n e))

-- what holds of each edit of a content
each_spot : (P : Edited → Type 0) → ((k : TextBlock) (q : List ℕ) (e : Edited) → IsMade k q e → P e) → (s : BlockSpot) (o : Option Edited) (e : Edited)
    → IsMadeSpot s o → o ≡ Some e → P e
each_spot P f s None e h p = absurd (none_edited e p)
each_spot P f s (Some d) e h p = subst P (same_edit d e p) (f s.block s.text d h)

each_made : (P : Edited → Type 0) → ((k : TextBlock) (q : List ℕ) (e : Edited) → IsMade k q e → P e) → (ss : List BlockSpot) (os : List (Option Edited))
    → AreMadeSpots ss os → (n : ℕ) (e : Edited) → edit_at os n ≡ Some e → P e
each_made P f [] [] h n e p = absurd (none_edited e p)
each_made P f [] (o ∷ os) h n e p = absurd h
each_made P f (s ∷ ss) [] h n e p = absurd h
each_made P f (s ∷ ss) (o ∷ os) h zero e p = each_spot P f s o e h.0 p
each_made P f (s ∷ ss) (o ∷ os) h (suc n) e p = each_made P f ss os h.1 n e p

pub all_inline : (ss : List BlockSpot) (os : List (Option Edited)) → AreMadeSpots ss os → (n : ℕ) (e : Edited) → edit_at os n ≡ Some e → IsInline e
all_inline ss os h = each_made IsInline (λ k q e m. m.inline) ss os h

-- so all that is sent is taken
spot_taken : (o : ℕ → Option Edited) → ((n : ℕ) (e : Edited) → o n ≡ Some e → IsTaken same_node e) → (n : ℕ) (v : Option Edited) (e : Edited) → o n ≡ v
    → BlockSent v e → IsTaken same_node e
spot_taken o h n None (stays t u) is p = tt
spot_taken o h n None (edited k l m ps) is p = absurd p
spot_taken o h n None (round l m es) is p = absurd p
spot_taken o h n (Some d) (stays t u) is p = tt
spot_taken o h n (Some d) (edited k l m ps) is p = subst (IsTaken same_node) p (h n d is)
spot_taken o h n (Some d) (round l m es) is p = absurd p

mutual
  one_taken : (o : ℕ → Option Edited) → ((n : ℕ) (e : Edited) → o n ≡ Some e → IsTaken same_node e) → (f : TreeFrame) (e : Edited) → Sends o f e
      → IsTaken same_node e
  one_taken o h f (stays t u) p = tt
  one_taken o h (spot n) (edited k l m ps) p = spot_taken o h n (o n) (edited k l m ps) refl p
  one_taken o h (spot n) (round l m es) p = spot_taken o h n (o n) (round l m es) refl p
  one_taken o h (kept_tree t) (edited k l m ps) p = absurd p
  one_taken o h (kept_tree t) (round l m es) p = absurd p
  one_taken o h (holder l fs) (edited k m n ps) p = absurd p
  one_taken o h (holder l fs) (round m n es) p = frames_taken o h fs es p

  pub frames_taken : (o : ℕ → Option Edited) → ((n : ℕ) (e : Edited) → o n ≡ Some e → IsTaken same_node e) → (fs : TreeFrames) (es : Edits) → AllSend o fs es
      → AreTaken same_node es
  frames_taken o h no_nodes no_edits p = tt
  frames_taken o h no_nodes (more_edits e es) p = absurd p
  frames_taken o h (more_nodes f fs) no_edits p = absurd p
  frames_taken o h (more_nodes f fs) (more_edits e es) p = (one_taken o h f e p.0, frames_taken o h fs es p.1)

pub all_taken : (ss : List BlockSpot) (os : List (Option Edited)) (fs : TreeFrames) (es : Edits) → AreMadeSpots ss os → AllSend (edit_at os) fs es
    → AreTaken same_node es
all_taken ss os fs es h p = frames_taken (edit_at os) (each_made (IsTaken same_node) (λ k q e m. m.taken) ss os h) fs es p

-- ---- the page's blocks are the same but for these contents

spot_retyped : (s : BlockSpot) (o : Option Edited) → IsMadeSpot s o
    → ((with_content s o).before ≡ s.before) × ((with_content s o).block ≡ s.block)
    × (((with_content s o).text ≡ s.text) ⊎ IsNewContent (with_content s o).block s.text (with_content s o).text)
spot_retyped s None h = (refl, refl, inl refl)
spot_retyped s (Some e) h = (refl, refl, inr h.new)

pub contents_retyped : (ss : List BlockSpot) (os : List (Option Edited)) → AreMadeSpots ss os → AreRetyped ss (with_contents ss os)
contents_retyped [] [] h = tt
contents_retyped [] (o ∷ os) h = absurd h
contents_retyped (s ∷ ss) [] h = absurd h
contents_retyped (s ∷ ss) (o ∷ os) h =
    let r = spot_retyped s o h.0 in (r.0, r.1, r.2, contents_retyped ss os h.1)

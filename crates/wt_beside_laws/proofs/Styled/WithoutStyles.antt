-- A content without bold and italic is one with them, of which none is there: what is sent for it nests, and it has no delimiter.
use Rattle.std.proofs.Common.{◌≡◌, ◌≢◌, ℕ, ◌<◌, false, Option, Some, None, List, [], ◌∷◌, refl, sym, ap, ◌∙◌, subst}
use Rattle.std.specs.Str.{chars}
use Rattle.wt_span.specs.Items.{Item}
use Rattle.wt_link_spelling.specs.Spelling.{children_of}
use Rattle.wt_tree.specs.declared.kind.Kind.{Kind}
use Rattle.wt_tree.specs.EditShapes.{edit_shape}
use Rattle.wt_tree.specs.declared.edit_shape.InlineForm.{InlineForm}
use Rattle.wt_tree.specs.declared.edit_shape.InlineForm.TheVariants as inline
use Rattle.wt_tree.specs.declared.edit_shape.Sort.TheVariants as sort
use Rattle.wt_tree.specs.Tree.{Label, Tree, tree, Trees, none, more}
use Rattle.wt_original.specs.Kept.{Kept, kept_nodes, kept_with}
use Rattle.wt_visible.specs.SameNodes.{same_node}
use Rattle.wt_part_laws.specs.Standing.{standing}
use Rattle.wt_typed_blocks.specs.Edited.{Pieces, no_pieces, gone, written, kept, around, new_style, text_node, page_pieces, sent_pieces, PiecesStay}
use Rattle.wt_text_edit_laws.specs.Contents.{IsContent}
use Rattle.wt_text_edit_laws.specs.TextBlocks.{TextBlock, block_tree}
use Rattle.wt_beside_laws.specs.ContentEdits.{new_content, MakesContent}
use Rattle.wt_beside_laws.specs.Flat.{AreFlat, IsFlatContent}
use Rattle.wt_beside_laws.specs.FlatBlocks.{lines_in, sent_for, IsFlatEditOf}
use Rattle.wt_beside_laws.specs.OwnSigns.{HasOwnBy, HaveOwn}
use Rattle.wt_beside_laws.specs.PageBlocks.{AreUnstyled}
use Rattle.wt_beside_laws.specs.NewStyles.{NewStylesNest}
use Rattle.wt_beside_laws.specs.SentPieces.{HaveNoStyle}
use Rattle.wt_beside_laws.specs.SentStyled.{text_then, found_then, sent_by, sent_content, KeptIsFlat}
use Rattle.wt_beside_laws.specs.Styled.{StyledContent, signs_in, IsStyledContent}
use Rattle.wt_beside_laws.specs.StyledIn.{IsFlatIn, IsStyledEditOf}
use Rattle.wt_beside_laws.proofs.BlockSigns.{flat_block}
use Rattle.wt_beside_laws.proofs.Made.Making.{known, setting, in_page}
use Rattle.wt_beside_laws.proofs.Made.OldBlocks.{IsIn}
use Rattle.wt_beside_laws.proofs.Styled.Delimiters.{no_delimiter}
use Rattle.wt_beside_laws.proofs.Styled.Making.{IsSentWell, sent_well, content_is, own_so, styled_makes, styled_then}
use Rattle.wt_beside_laws.proofs.Styled.OldStyled.{styled_in_content, styled_of_lines}
use Rattle.wt_beside_laws.proofs.Styled.Plain.{again_unstyled}
use Rattle.wt_beside_laws.proofs.Styled.StyledWritten.{lines_so}

-- ---- what is sent has none

text_flat : (cs : List ℕ) (t : StyledContent) → AreFlat (signs_in t) → AreFlat (signs_in (text_then cs t))
text_flat [] t h = h
text_flat (c ∷ cs) t h = text_flat cs t h

found_flat : (k : Option Kept) (t : StyledContent) → KeptIsFlat k → AreFlat (signs_in t) → AreFlat (signs_in (found_then k t))
found_flat None t f h = h
found_flat (Some k) t f h = (f, h)

one_flat : (w : InlineForm) (l : Label) (k : Option Kept) (inside t : StyledContent) → HasOwnBy w l → KeptIsFlat k → AreFlat (signs_in t)
    → AreFlat (signs_in (sent_by w k l inside t))
one_flat inline.Nothing l k inside t s f h = h
one_flat inline.Characters l k inside t s f h = text_flat (chars l.shown) t h
one_flat inline.Bold l k inside t s f h = absurd s
one_flat inline.Italic l k inside t s f h = absurd s
one_flat inline.Shown l k inside t s f h = found_flat k t f h
one_flat inline.PageLink l k inside t s f h = found_flat k t f h
one_flat inline.ExternalLink l k inside t s f h = found_flat k t f h
one_flat inline.Tag l k inside t s f h = found_flat k t f h
one_flat inline.Break l k inside t s f h = found_flat k t f h
one_flat inline.AsItStood l k inside t s f h = found_flat k t f h

sent_flat : (block : Tree) (us : Trees) → HaveOwn us → AreFlat (signs_in (sent_content (known block) us))
sent_flat block none s = tt
sent_flat block (more (tree l ts) us) s =
    one_flat (edit_shape l.kind).inline l (kept_with l.id (kept_nodes block)) (sent_content (known block) ts) (sent_content (known block) us) s.0
    (no_delimiter same_node block l.id) (sent_flat block us s.1)

-- ---- no style is new

no_new : (ps : Pieces) → HaveNoStyle ps → NewStylesNest false false ps
no_new no_pieces p = tt
no_new (gone t ps) p = no_new ps p
no_new (written x text ps) p = ((λ e. absurd (cc)), no_new ps p)
no_new (kept t u ps) p = no_new ps p
no_new (around l m is ps) p = absurd p
no_new (new_style m is ps) p = absurd p

-- ---- what stays of a block without styles is no style

as_numbered : (w : InlineForm) (l m : Label) → m.id ≡ l.id → HasOwnBy w l → HasOwnBy w m
as_numbered inline.Nothing l m e h = tt
as_numbered inline.Characters l m e h = tt
as_numbered inline.Bold l m e h = h
as_numbered inline.Italic l m e h = h
as_numbered inline.Shown l m e h = subst (λ (n : ℕ). n ≢ 0) (sym e) h
as_numbered inline.PageLink l m e h = subst (λ (n : ℕ). n ≢ 0) (sym e) h
as_numbered inline.ExternalLink l m e h = subst (λ (n : ℕ). n ≢ 0) (sym e) h
as_numbered inline.Tag l m e h = subst (λ (n : ℕ). n ≢ 0) (sym e) h
as_numbered inline.Break l m e h = subst (λ (n : ℕ). n ≢ 0) (sym e) h
as_numbered inline.AsItStood l m e h = subst (λ (n : ℕ). n ≢ 0) (sym e) h

text_own : (x : Label) (text : List ℕ) (us : Trees) → HaveOwn us → HaveOwn (text_node x text us)
text_own x [] us h = h
text_own x (c ∷ cs) us h = (tt, h)

pieces_own : (ps : Pieces) → HaveOwn (page_pieces ps) → PiecesStay ps → HaveNoStyle ps → HaveOwn (sent_pieces ps)
pieces_own no_pieces e h p = tt
pieces_own (gone (tree l ts) ps) e h p = pieces_own ps e.1 h p
pieces_own (written x text ps) e h p = text_own x text (sent_pieces ps) (pieces_own ps e h p)
pieces_own (kept (tree l ts) (tree m us) ps) e h p = (
  subst (λ (k : Kind). HasOwnBy (edit_shape k).inline m) (sym h.0.0.kind) (as_numbered (edit_shape l.kind).inline l m h.0.0.id e.0),
  pieces_own ps e.1 h.1 p,
)
pieces_own (around l m is ps) e h p = absurd p
pieces_own (new_style m is ps) e h p = absurd p

-- ---- so the edit is one of a content with styles

-- of the block, and of any node with its children
are_own : (k : TextBlock) (q : List ℕ) (block t : Tree) (ps : Pieces) → IsFlatIn k q → IsIn k q block → children_of t ≡ children_of block → IsFlatEditOf k t ps
    → HaveOwn (sent_pieces ps)
are_own k q block t ps h i same e =
    let own : HaveOwn (children_of block) = (flat_block (lines_in k q) block h.styled.flat h.unstyled (styled_of_lines k q block h.styled i)).own in
    pieces_own ps (subst HaveOwn (sym (e.old ∙ same)) own) e.stay e.plain

edit_styled : (k : TextBlock) (t : Tree) (ps : Pieces) → IsFlatEditOf k t ps → IsStyledEditOf k t ps
edit_styled k t ps e = record { old = e.old; stay = e.stay; are = e.are; led = e.led; fit = e.fit; new = no_new ps e.plain; unclosed = e.unclosed }

-- ---- and no style begins in the new content

flat_so : (k : TextBlock) (block : Tree) (t : StyledContent) → IsStyledContent (setting k block) t → AreFlat (signs_in t) → IsFlatContent (setting k block) (signs_in t)
flat_so k block t c f = record {
  of_block = c.of_block;
  characters = c.characters;
  kept = c.kept;
  nodes = c.nodes;
  unbroken = c.unbroken;
  flat = f;
  led = c.led;
  meet = c.meet;
}

unstyled_so : (k : TextBlock) (q : List ℕ) (block : Tree) (m : Label) (ps : Pieces) → IsFlatIn k q → IsIn k q block → IsFlatEditOf k block ps
    → AreUnstyled (lines_in k (new_content k block m ps))
unstyled_so k q block m ps h i e =
    let d : IsStyledEditOf k block ps = edit_styled k block ps e in
    let w : IsSentWell k q block ps = sent_well k q block ps (own_so k q block h.styled i) h.styled i d in
    let t : StyledContent = sent_for block ps in
    let f : IsFlatContent (setting k block) (signs_in t) =
    flat_so k block t w.is.content (sent_flat block (sent_pieces ps) (are_own k q block block ps h i refl e)) in
    subst (λ (bs : List ℕ). AreUnstyled (lines_in k bs)) (sym (content_is k q block m ps i d w))
    (subst AreUnstyled (sym (lines_so k (setting k block) t w.is.content w.is.stays)) (again_unstyled (setting k block) (signs_in t) f))

-- ---- in other words

pub flat_content : (k : TextBlock) (q : List ℕ) → IsFlatIn k q → IsContent k q
flat_content k q h = styled_in_content k q h.styled

pub flat_edit : (k : TextBlock) (q : List ℕ) (n : ℕ) (b : List Item) (t : Tree) (ps : Pieces) → IsFlatIn k q → 0 < n
    → children_of t ≡ children_of (standing n b (block_tree k q)) → IsFlatEditOf k t ps → IsStyledEditOf k t ps
flat_edit k q n b t ps h some same e = edit_styled k t ps e

pub flat_makes : (k : TextBlock) (q : List ℕ) (n : ℕ) (b : List Item) (block : Tree) (m : Label) (ps : Pieces) → IsFlatIn k q → 0 < n
    → block ≡ standing n b (block_tree k q) → IsFlatEditOf k block ps → MakesContent k q block m ps
flat_makes k q n b block m ps h some is e = styled_makes k q n b block m ps h.styled some is (flat_edit k q n b block ps h some (ap children_of is) e)

pub flat_then : (k : TextBlock) (q : List ℕ) (n : ℕ) (b : List Item) (block : Tree) (m : Label) (ps : Pieces) → IsFlatIn k q → 0 < n
    → block ≡ standing n b (block_tree k q) → IsFlatEditOf k block ps → IsFlatIn k (new_content k block m ps)
flat_then k q n b block m ps h some is e = record {
  styled = styled_then k q n b block m ps h.styled some is (flat_edit k q n b block ps h some (ap children_of is) e);
  unstyled = unstyled_so k q block m ps h (in_page k q n b block some is) e;
}

-- What is sent for a paragraph with calls has something that is no call: where some text is among it, and by its signs.
use Rattle.std.proofs.Common.{◌≡◌, inl, inr, ℕ, Option, Some, None, List, [], ◌∷◌, refl}
use Rattle.std.specs.Str.{IsUtf8, chars}
use Rattle.std.proofs.Math.Utf8.{encodes}
use Rattle.std.proofs.lemmas.Str.{encodes-chars}
use Rattle.wt_tree.specs.EditShapes.{edit_shape}
use Rattle.wt_tree.specs.Tree.{Label, Tree, tree, Trees, none, more}
use Rattle.wt_tree.specs.declared.edit_shape.InlineForm.{InlineForm}
use Rattle.wt_tree.specs.declared.edit_shape.InlineForm.TheVariants as inline
use Rattle.wt_guards.specs.Content.{ContentSign}
use Rattle.wt_guards.specs.Guards.{Setting}
use Rattle.wt_original.specs.Kept.{Kept, kept_with}
use Rattle.wt_original.specs.Page.{Page, page_of}
use Rattle.wt_link_spelling.specs.Spelling.{kept_thing}
use Rattle.wt_visible.specs.SameNodes.{same_node}
use Rattle.wt_typed_blocks.specs.Edited.{Pieces, no_pieces, gone, written, kept, around, new_style, sent_pieces}
use Rattle.wt_beside_laws.specs.Called.{HasUncalled}
use Rattle.wt_beside_laws.specs.FlatPages.{AreNodesAndTexts}
use Rattle.wt_beside_laws.specs.SentNodes.{IsSentBy, AreSent}
use Rattle.wt_beside_laws.specs.SentStyled.{text_then, found_then, sent_by, sent_content, IsStyledBy, AreStyledSent}
use Rattle.wt_beside_laws.specs.Styled.{StyledContent, signs_in}
use Rattle.wt_called_edit_laws.specs.CalledEdits.{written_in, SendsUncalled}

-- ---- nodes and texts without styles

styled_by : (f : InlineForm) (p : Page) (l : Label) (ts : Trees) → IsSentBy f p l ts → IsStyledBy f p l ts (AreStyledSent p ts)
styled_by inline.Nothing p l ts h = tt
styled_by inline.Characters p l ts h = tt
styled_by inline.Bold p l ts h = absurd h
styled_by inline.Italic p l ts h = absurd h
styled_by inline.Shown p l ts h = h
styled_by inline.PageLink p l ts h = h
styled_by inline.ExternalLink p l ts h = h
styled_by inline.Tag p l ts h = h
styled_by inline.Break p l ts h = h
styled_by inline.AsItStood p l ts h = h

pub sent_styled : (p : Page) (us : Trees) → AreSent p us → AreStyledSent p us
sent_styled p none h = tt
sent_styled p (more (tree l ts) us) h = (styled_by (edit_shape l.kind).inline p l ts h.0, sent_styled p us h.1)

-- ---- where a text is sent

-- a text that isn't empty is among these pieces
abbrev pub SomeTyped : Pieces → Type 0
SomeTyped no_pieces = ⊥
SomeTyped (gone t ps) = SomeTyped ps
SomeTyped (written x [] ps) = SomeTyped ps
SomeTyped (written x (b ∷ bs) ps) = Unit {0}
SomeTyped (kept t u ps) = SomeTyped ps
SomeTyped (around l m is ps) = ⊥
SomeTyped (new_style m is ps) = ⊥

none_empty : (b : ℕ) (bs : List ℕ) → [] ≡ b ∷ bs → ⊥
none_empty b bs e = cc

text_begins : (s : Setting) (before : List ContentSign) (b : ℕ) (bs : List ℕ) (t : StyledContent) → IsUtf8 (b ∷ bs)
    → HasUncalled s before (signs_in (text_then (chars (b ∷ bs)) t))
text_begins s before b bs t u = by (chars (b ∷ bs)) (encodes-chars (b ∷ bs) u)
  where
    by : (cs : List ℕ) → encodes cs ≡ b ∷ bs → HasUncalled s before (signs_in (text_then cs t))
    by [] e = absurd (none_empty b bs e)
    by (c ∷ cs) e = tt

text_first : (s : Setting) (before : List ContentSign) (cs : List ℕ) (t : StyledContent) → HasUncalled s before (signs_in t)
    → HasUncalled s before (signs_in (text_then cs t))
text_first s before [] t h = h
text_first s before (c ∷ cs) t h = tt

found_first : (s : Setting) (before : List ContentSign) (o : Option Kept) (t : StyledContent) → ((bs : List ContentSign) → HasUncalled s bs (signs_in t))
    → HasUncalled s before (signs_in (found_then o t))
found_first s before None t h = h before
found_first s before (Some k) t h = inr (inr (h (kept_thing k ∷ before)))

node_first : (f : InlineForm) (s : Setting) (before : List ContentSign) (o : Option Kept) (l : Label) (inside t : StyledContent)
    → ((bs : List ContentSign) → HasUncalled s bs (signs_in t)) → HasUncalled s before (signs_in (sent_by f o l inside t))
node_first inline.Nothing s before o l inside t h = h before
node_first inline.Characters s before o l inside t h = text_first s before (chars l.shown) t (h before)
node_first inline.Bold s before o l inside t h = inr (inl refl)
node_first inline.Italic s before o l inside t h = inr (inl refl)
node_first inline.Shown s before o l inside t h = found_first s before o t h
node_first inline.PageLink s before o l inside t h = found_first s before o t h
node_first inline.ExternalLink s before o l inside t h = found_first s before o t h
node_first inline.Tag s before o l inside t h = found_first s before o t h
node_first inline.Break s before o l inside t h = found_first s before o t h
node_first inline.AsItStood s before o l inside t h = found_first s before o t h

pub text_uncalled : (s : Setting) (p : Page) (before : List ContentSign) (ps : Pieces) → AreNodesAndTexts ps → SomeTyped ps
    → HasUncalled s before (signs_in (sent_content p (sent_pieces ps)))
text_uncalled s p before no_pieces a e = absurd e
text_uncalled s p before (gone t ps) a e = text_uncalled s p before ps a e
text_uncalled s p before (written x [] ps) a e = text_uncalled s p before ps a.1 e
text_uncalled s p before (written x (b ∷ bs) ps) a e = text_begins s before b bs (sent_content p (sent_pieces ps)) a.0
text_uncalled s p before (kept t (tree m us) ps) a e =
    node_first (edit_shape m.kind).inline s before (kept_with m.id p.kept) m (sent_content p us) (sent_content p (sent_pieces ps))
    (λ bs. text_uncalled s p bs ps a.1 e)
text_uncalled s p before (around l m is ps) a e = absurd e
text_uncalled s p before (new_style m is ps) a e = absurd e

-- so in its block
pub some_sent : (block : Tree) (ps : Pieces) → AreNodesAndTexts ps → SomeTyped ps → SendsUncalled block ps
some_sent block ps a e = text_uncalled (written_in block) (page_of same_node block) [] ps a e

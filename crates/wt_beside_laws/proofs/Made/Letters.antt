-- Each text that is sent fits in its block.
use Rattle.std.proofs.Common.{◌≡◌, ℕ, Bool, true, false, List, [], ◌∷◌, refl, sym, ap, subst}
use Rattle.std.specs.Prelude.{if◌then◌else◌}
use Rattle.wt_tree.specs.Tree.{Label, tree, Trees}
use Rattle.wt_tree.specs.EditShapes.{edit_shape}
use Rattle.wt_tree.specs.declared.edit_shape.InlineForm.{InlineForm}
use Rattle.wt_tree.specs.declared.edit_shape.InlineForm.TheVariants as inline
use Rattle.wt_content.specs.Content.{has_break, break_fault}
use Rattle.wt_content.specs.declared.reason.ContentWhy.TheVariants as why
use Rattle.wt_typed_blocks.specs.Edited.{Pieces, no_pieces, gone, written, kept, around, new_style, as_new, text_node, sent_pieces, IsStyle, PiecesStay}
use Rattle.wt_typed_blocks.proofs.SentGroups.{of_style}
use Rattle.wt_beside_laws.specs.FlatBlocks.{AreOneLine}
use Rattle.wt_beside_laws.specs.FlatPages.{AreNodesAndTexts}
use Rattle.wt_beside_laws.specs.SentPieces.{IsNodeForm, FitsBy, TextsFit}

text_fits : (v : Bool) (text : List ℕ) → (v ≡ false → has_break text ≡ false) → break_fault v text ≡ []
text_fits true text f = refl
text_fits false text f = ap (λ (b : Bool). if b then why.LineBreak ∷ [] else []) (f refl)

node_fits : (w : InlineForm) (v : Bool) (l : Label) → IsNodeForm w → FitsBy w v l
node_fits inline.Nothing v l n = absurd n
node_fits inline.Characters v l n = absurd n
node_fits inline.Bold v l n = tt
node_fits inline.Italic v l n = tt
node_fits inline.Shown v l n = tt
node_fits inline.PageLink v l n = tt
node_fits inline.ExternalLink v l n = tt
node_fits inline.Tag v l n = tt
node_fits inline.Break v l n = tt
node_fits inline.AsItStood v l n = tt

written_fits : (v : Bool) (x : Label) (text : List ℕ) (us : Trees) → (v ≡ false → has_break text ≡ false) → TextsFit v us → TextsFit v (text_node x text us)
written_fits v x [] us f h = h
written_fits v x (c ∷ cs) us f h = (text_fits v (c ∷ cs) f, h)

pub pieces_fit : (v : Bool) (ps : Pieces) → PiecesStay ps → AreNodesAndTexts ps → (v ≡ false → AreOneLine ps) → TextsFit v (sent_pieces ps)
pieces_fit v no_pieces h a f = tt
pieces_fit v (gone t ps) h a f = pieces_fit v ps h a f
pieces_fit v (written x text ps) h a f = written_fits v x text (sent_pieces ps) (λ e. (f e).0) (pieces_fit v ps h a.1 (λ e. (f e).1))
pieces_fit v (kept (tree l ts) (tree m us) ps) h a f =
    let form : IsNodeForm (edit_shape m.kind).inline = subst (λ k. IsNodeForm (edit_shape k).inline) (sym h.0.0.kind) a.0 in
    (node_fits (edit_shape m.kind).inline v m form, pieces_fit v ps h.1 a.1 f)
pieces_fit v (around l m is ps) h a f = (
  of_style (λ k. FitsBy (edit_shape k).inline v m) m.kind (subst IsStyle (sym h.1.kind) h.0) tt tt,
  pieces_fit v ps h.3 a.1 f,
)
pieces_fit v (new_style m is ps) h a f = (of_style (λ k. FitsBy (edit_shape k).inline v (as_new m)) m.kind h.0 tt tt, pieces_fit v ps h.2 a.1 f)

-- The pieces of a retyped content: texts go and nothing else, and bold and italic are in them where the page has them.
use Rattle.std.proofs.Common.{◌≡◌, refl, sym, subst}
use Rattle.wt_tree.specs.declared.edit_shape.InlineForm.{InlineForm}
use Rattle.wt_tree.specs.declared.edit_shape.InlineForm.TheVariants as inline
use Rattle.wt_tree.specs.EditShapes.{edit_shape}
use Rattle.wt_tree.specs.Tree.{Label, Tree, tree, Trees, none, more, label}
use Rattle.wt_link_spelling.specs.Spelling.{children_of}
use Rattle.wt_expand.specs.Work.{Pages}
use Rattle.wt_typed_blocks.specs.Edited.{Pieces, no_pieces, gone, written, kept, around, new_style}
use Rattle.wt_beside_laws.specs.OwnSigns.{HasOwnBy, HaveOwn}
use Rattle.wt_beside_laws.specs.SentPieces.{IsNoNode, IsNodeForm, HaveNoStyle}
use Rattle.wt_called_edit_laws.specs.CalledEdits.{AreGoneCalm}
use Rattle.wt_called_edit_laws.specs.StyledCallEdits.{CallsNoneBy, CallNone, NoCallGoes, NewStylesHoldNested}
use Rattle.wt_inside_laws.specs.RetypedPieces.{next_by, up_to_node, piece_by, piece_of, pieces_of, as_own}

-- ---- what goes

-- texts and separators, and no style is new
abbrev pub OnlyTextsGone : Pieces → Type 0
OnlyTextsGone no_pieces = Unit {0}
OnlyTextsGone (gone (tree l ts) ps) = IsNoNode (edit_shape l.kind).inline × OnlyTextsGone ps
OnlyTextsGone (written x text ps) = OnlyTextsGone ps
OnlyTextsGone (kept t u ps) = OnlyTextsGone ps
OnlyTextsGone (around l m is ps) = OnlyTextsGone is × OnlyTextsGone ps
OnlyTextsGone (new_style m is ps) = ⊥

next_gone : (f : InlineForm) (m : Label) (after here : Pieces) → OnlyTextsGone after → OnlyTextsGone here → OnlyTextsGone (next_by f m after here)
next_gone inline.Nothing m after here a h = a
next_gone inline.Characters m after here a h = a
next_gone inline.Bold m after here a h = h
next_gone inline.Italic m after here a h = h
next_gone inline.Shown m after here a h = h
next_gone inline.PageLink m after here a h = h
next_gone inline.ExternalLink m after here a h = h
next_gone inline.Tag m after here a h = h
next_gone inline.Break m after here a h = h
next_gone inline.AsItStood m after here a h = h

up_gone : (us : Trees) (then_so : Tree → Trees → Pieces) → ((u : Tree) (vs : Trees) → OnlyTextsGone (then_so u vs)) → OnlyTextsGone (up_to_node us then_so)
up_gone none then_so h = tt
up_gone (more (tree m ws) us) then_so h =
    next_gone (edit_shape m.kind).inline m (up_to_node us then_so) (then_so (tree m ws) us) (up_gone us then_so h) (h (tree m ws) us)

one_gone : (f : InlineForm) (l : Label) (ts us : Trees) (inside after : Trees → Pieces) → (edit_shape l.kind).inline ≡ f
    → ((ws : Trees) → OnlyTextsGone (inside ws)) → ((vs : Trees) → OnlyTextsGone (after vs)) → OnlyTextsGone (piece_by f l ts inside after us)
one_gone inline.Nothing l ts us inside after e g h = (subst IsNoNode (sym e) tt, h us)
one_gone inline.Characters l ts us inside after e g h = (subst IsNoNode (sym e) tt, h us)
one_gone inline.Bold l ts us inside after e g h =
    up_gone us (λ u vs. around l (label u) (inside (children_of u)) (after vs)) (λ u vs. (g (children_of u), h vs))
one_gone inline.Italic l ts us inside after e g h =
    up_gone us (λ u vs. around l (label u) (inside (children_of u)) (after vs)) (λ u vs. (g (children_of u), h vs))
one_gone inline.Shown l ts us inside after e g h = up_gone us (λ u vs. kept (tree l ts) u (after vs)) (λ u vs. h vs)
one_gone inline.PageLink l ts us inside after e g h = up_gone us (λ u vs. kept (tree l ts) u (after vs)) (λ u vs. h vs)
one_gone inline.ExternalLink l ts us inside after e g h = up_gone us (λ u vs. kept (tree l ts) u (after vs)) (λ u vs. h vs)
one_gone inline.Tag l ts us inside after e g h = up_gone us (λ u vs. kept (tree l ts) u (after vs)) (λ u vs. h vs)
one_gone inline.Break l ts us inside after e g h = up_gone us (λ u vs. kept (tree l ts) u (after vs)) (λ u vs. h vs)
one_gone inline.AsItStood l ts us inside after e g h = up_gone us (λ u vs. kept (tree l ts) u (after vs)) (λ u vs. h vs)

mutual
  tree_gone : (t : Tree) (us : Trees) (after : Trees → Pieces) → ((vs : Trees) → OnlyTextsGone (after vs)) → OnlyTextsGone (piece_of t after us)
  tree_gone (tree l ts) us after h =
      one_gone (edit_shape l.kind).inline l ts us (λ ws. pieces_of ts ws) after refl (λ ws. trees_gone ts ws) h

  pub trees_gone : (ts us : Trees) → OnlyTextsGone (pieces_of ts us)
  trees_gone none us = up_gone us (λ u vs. no_pieces) (λ u vs. tt)
  trees_gone (more t ts) us = tree_gone t us (λ vs. pieces_of ts vs) (λ vs. trees_gone ts vs)

no_node : (f : InlineForm) → IsNoNode f → IsNodeForm f → ⊥
no_node inline.Nothing h k = k
no_node inline.Characters h k = k
no_node inline.Bold h k = h
no_node inline.Italic h k = h
no_node inline.Shown h k = h
no_node inline.PageLink h k = h
no_node inline.ExternalLink h k = h
no_node inline.Tag h k = h
no_node inline.Break h k = h
no_node inline.AsItStood h k = h

pub gone_calm : (pages : Pages) (ps : Pieces) → OnlyTextsGone ps → AreGoneCalm pages (as_own ps)
gone_calm pages no_pieces h = tt
gone_calm pages (gone (tree l ts) ps) h = ((λ n. absurd (no_node (edit_shape l.kind).inline h.0 n)), gone_calm pages ps h.1)
gone_calm pages (written x text ps) h = gone_calm pages ps h
gone_calm pages (kept t u ps) h = gone_calm pages ps h
gone_calm pages (around l m is ps) h = (gone_calm pages is h.0, gone_calm pages ps h.1)
gone_calm pages (new_style m is ps) h = absurd h

text_calm : (f : InlineForm) (pages : Pages) (l : Label) (ts : Trees) → IsNoNode f → CallsNoneBy f pages l ts (CallNone pages ts)
text_calm inline.Nothing pages l ts h = tt
text_calm inline.Characters pages l ts h = tt
text_calm inline.Bold pages l ts h = absurd h
text_calm inline.Italic pages l ts h = absurd h
text_calm inline.Shown pages l ts h = absurd h
text_calm inline.PageLink pages l ts h = absurd h
text_calm inline.ExternalLink pages l ts h = absurd h
text_calm inline.Tag pages l ts h = absurd h
text_calm inline.Break pages l ts h = absurd h
text_calm inline.AsItStood pages l ts h = absurd h

pub no_call_goes : (pages : Pages) (ps : Pieces) → OnlyTextsGone ps → NoCallGoes pages (as_own ps)
no_call_goes pages no_pieces h = tt
no_call_goes pages (gone (tree l ts) ps) h = (text_calm (edit_shape l.kind).inline pages l ts h.0, no_call_goes pages ps h.1)
no_call_goes pages (written x text ps) h = no_call_goes pages ps h
no_call_goes pages (kept t u ps) h = no_call_goes pages ps h
no_call_goes pages (around l m is ps) h = (no_call_goes pages is h.0, no_call_goes pages ps h.1)
no_call_goes pages (new_style m is ps) h = absurd h

pub none_is_new : (pages : Pages) (ps : Pieces) → OnlyTextsGone ps → NewStylesHoldNested pages (as_own ps)
none_is_new pages no_pieces h = tt
none_is_new pages (gone (tree l ts) ps) h = none_is_new pages ps h.1
none_is_new pages (written x text ps) h = none_is_new pages ps h
none_is_new pages (kept t u ps) h = none_is_new pages ps h
none_is_new pages (around l m is ps) h = (none_is_new pages is h.0, none_is_new pages ps h.1)
none_is_new pages (new_style m is ps) h = absurd h

-- ---- without styles

own_plain : (ps : Pieces) → HaveNoStyle ps → HaveNoStyle (as_own ps)
own_plain no_pieces h = tt
own_plain (gone t ps) h = own_plain ps h
own_plain (written x text ps) h = own_plain ps h
own_plain (kept t u ps) h = own_plain ps h
own_plain (around l m is ps) h = absurd h
own_plain (new_style m is ps) h = absurd h

next_plain : (f : InlineForm) (m : Label) (after here : Pieces) → HaveNoStyle after → HaveNoStyle here → HaveNoStyle (next_by f m after here)
next_plain inline.Nothing m after here a h = a
next_plain inline.Characters m after here a h = a
next_plain inline.Bold m after here a h = h
next_plain inline.Italic m after here a h = h
next_plain inline.Shown m after here a h = h
next_plain inline.PageLink m after here a h = h
next_plain inline.ExternalLink m after here a h = h
next_plain inline.Tag m after here a h = h
next_plain inline.Break m after here a h = h
next_plain inline.AsItStood m after here a h = h

up_plain : (us : Trees) (then_so : Tree → Trees → Pieces) → ((u : Tree) (vs : Trees) → HaveNoStyle (then_so u vs)) → HaveNoStyle (up_to_node us then_so)
up_plain none then_so h = tt
up_plain (more (tree m ws) us) then_so h =
    next_plain (edit_shape m.kind).inline m (up_to_node us then_so) (then_so (tree m ws) us) (up_plain us then_so h) (h (tree m ws) us)

one_plain : (f : InlineForm) (l : Label) (ts us : Trees) (inside after : Trees → Pieces) → HasOwnBy f l → ((vs : Trees) → HaveNoStyle (after vs))
    → HaveNoStyle (piece_by f l ts inside after us)
one_plain inline.Nothing l ts us inside after o h = h us
one_plain inline.Characters l ts us inside after o h = h us
one_plain inline.Bold l ts us inside after o h = absurd o
one_plain inline.Italic l ts us inside after o h = absurd o
one_plain inline.Shown l ts us inside after o h = up_plain us (λ u vs. kept (tree l ts) u (after vs)) (λ u vs. h vs)
one_plain inline.PageLink l ts us inside after o h = up_plain us (λ u vs. kept (tree l ts) u (after vs)) (λ u vs. h vs)
one_plain inline.ExternalLink l ts us inside after o h = up_plain us (λ u vs. kept (tree l ts) u (after vs)) (λ u vs. h vs)
one_plain inline.Tag l ts us inside after o h = up_plain us (λ u vs. kept (tree l ts) u (after vs)) (λ u vs. h vs)
one_plain inline.Break l ts us inside after o h = up_plain us (λ u vs. kept (tree l ts) u (after vs)) (λ u vs. h vs)
one_plain inline.AsItStood l ts us inside after o h = up_plain us (λ u vs. kept (tree l ts) u (after vs)) (λ u vs. h vs)

trees_plain : (ts us : Trees) → HaveOwn ts → HaveNoStyle (pieces_of ts us)
trees_plain none us h = up_plain us (λ u vs. no_pieces) (λ u vs. tt)
trees_plain (more (tree l ts) us) vs h =
    one_plain (edit_shape l.kind).inline l ts vs (λ ws. pieces_of ts ws) (λ ws. pieces_of us ws) h.0 (λ ws. trees_plain us ws h.1)

pub pieces_plain : (ts us : Trees) → HaveOwn ts → HaveNoStyle (as_own (pieces_of ts us))
pieces_plain ts us h = own_plain (pieces_of ts us) (trees_plain ts us h)

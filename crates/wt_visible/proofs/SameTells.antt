-- The test of two nodes tells what it should.
use Rattle.std.proofs.Common.{◌≡◌, ℕ, Bool, true, false, refl, sym, ap, ◌∙◌, List, [], ◌∷◌, Option, map}
use Rattle.std.specs.Prelude.{◌&&◌}
use Rattle.std.specs.Bool.{Decides}
use Rattle.std.specs.Option.{option_eq}
use Rattle.std.specs.Cmp.Lexicographic.{pointwise}
use Rattle.std.proofs.lemmas.Bool.Decides.{Decides-eqb}
use Rattle.std.proofs.lemmas.Slice.Eq.{slice_eq-Decides}
use Rattle.wt_tree.specs.contracts.kind.KindPartialEq.TheImpl as kinds
use Rattle.wt_tree.specs.contracts.node.AttrPartialEq.TheImpl as attrs
use Rattle.wt_tree.specs.contracts.node.DataMwPartialEq.TheImpl as data_of
use Rattle.wt_tree.specs.declared.kind.AttrName.{AttrName}
use Rattle.wt_tree.specs.declared.kind.Kind.{Kind}
use Rattle.wt_tree.specs.declared.node.DataMw.{DataMw}
use Rattle.wt_tree.specs.Plain.{Face, plain}
use Rattle.wt_tree.specs.Stream.{Bracket, opens, closes, StreamToken, byte, bracket, signs}
use Rattle.wt_tree.specs.Tree.{Tree, label}
use Rattle.wt_tree.specs.View.{attrs_of}
use Rattle.wt_tree.proofs.Same.{kind_decides, attrs_same}
use Rattle.wt_tree.proofs.Streams.{same_plain, same_signs}
use Rattle.wt_checks.proofs.Compares.{values_decide}
use Rattle.wt_original.specs.Page.{TellsSame}
use Rattle.wt_visible.specs.SameNodes.{as_attr, same_face, same_bracket, same_sign, same_node}

pub both : {P Q : Type 0} (a b : Bool) → Decides a P → Decides b Q → Decides (a && b) (P × Q)
both true b d e = (λ h. (d.0 refl, e.0 h), λ h. e.1 h.1)
both false b d e = (λ h. cc, λ h. d.1 h.0)

attrs_back : (ps : List (AttrName × List ℕ)) → attrs_of (map as_attr ps) ≡ ps
attrs_back [] = refl
attrs_back (p ∷ ps) = ap (λ qs. p ∷ qs) (attrs_back ps)

attrs_told : (ps qs : List (AttrName × List ℕ)) → Decides (pointwise attrs.eq-value.it (map as_attr ps) (map as_attr qs)) (ps ≡ qs)
attrs_told ps qs =
    let d = attrs_same (map as_attr ps) (map as_attr qs) in
    (λ h. sym (attrs_back ps) ∙ ap attrs_of (d.0 h) ∙ attrs_back qs, λ e. d.1 (ap (map as_attr) e))

abbrev made : Kind → List (AttrName × List ℕ) → Option DataMw → Face
made k ps m = record { kind = k; attrs = ps; mw = m }

one_face : (f g : Face) → f.kind ≡ g.kind → f.attrs ≡ g.attrs → f.mw ≡ g.mw → f ≡ g
one_face f g k a m = ap (λ x. made x f.attrs f.mw) k ∙ ap (λ x. made g.kind x f.mw) a ∙ ap (λ x. made g.kind g.attrs x) m

pub face_told : (f g : Face) → Decides (same_face f g) (f ≡ g)
face_told f g =
    let d = both (kinds.eq-value.it f.kind g.kind)
    (pointwise attrs.eq-value.it (map as_attr f.attrs) (map as_attr g.attrs) && option_eq data_of.eq-value.it f.mw g.mw) (kind_decides f.kind g.kind)
    (both (pointwise attrs.eq-value.it (map as_attr f.attrs) (map as_attr g.attrs)) (option_eq data_of.eq-value.it f.mw g.mw)
    (attrs_told f.attrs g.attrs) (values_decide f.mw g.mw)) in (
      λ h. one_face f g (d.0 h).0 (d.0 h).1.0 (d.0 h).1.1,
      λ e. d.1 (ap (λ (x : Face). x.kind) e, (ap (λ (x : Face). x.attrs) e, ap (λ (x : Face). x.mw) e)),
    )

bracket_told : (j k : Bracket) → Decides (same_bracket j k) (j ≡ k)
bracket_told (opens f) (opens g) = let d = face_told f g in (λ h. ap opens (d.0 h), λ e. d.1 cc)
bracket_told (opens f) closes = (λ h. cc, λ e. cc)
bracket_told closes (opens g) = (λ h. cc, λ e. cc)
bracket_told closes closes = (λ h. refl, λ e. refl)

sign_told : (a b : StreamToken) → Decides (same_sign a b) (a ≡ b)
sign_told (byte a) (byte b) = let d = Decides-eqb a b in (λ h. ap byte (d.0 h), λ e. d.1 cc)
sign_told (byte a) (bracket k) = (λ h. cc, λ e. cc)
sign_told (bracket j) (byte b) = (λ h. cc, λ e. cc)
sign_told (bracket j) (bracket k) = let d = bracket_told j k in (λ h. ap bracket (d.0 h), λ e. d.1 cc)

plain_told : (t u : Tree) → Decides (pointwise same_sign (signs t) (signs u)) (plain t ≡ plain u)
plain_told t u =
    let d = slice_eq-Decides sign_told (signs t) (signs u) (pointwise same_sign (signs t) (signs u)) refl in
    (λ h. same_plain t u (d.0 h), λ e. d.1 (same_signs t u e))

pub tells_same : TellsSame same_node
unfolding same_node
tells_same t u =
    both (kinds.eq-value.it (label t).kind (label u).kind) (pointwise same_sign (signs t) (signs u)) (kind_decides (label t).kind (label u).kind)
    (plain_told t u)

-- The comparison of plain views, in which groups are looked up.
use Rattle.std.proofs.Common.{◌≡◌, Bool, true, false, List, [], ◌∷◌, ◌++◌, refl, sym, ap, ◌∙◌}
use Rattle.std.specs.Prelude.{◌||◌}
use Rattle.std.specs.List.{flat_map}
use Rattle.std.specs.Bool.{Decides}
use Rattle.wt_tree.specs.declared.node.Node.{Node, out-Node}
use Rattle.wt_tree.specs.Plain.{Face, plain}
use Rattle.wt_tree.specs.declared.kind.Kind.{Kind}
use Rattle.wt_tree.specs.Tiling.{is_group}
use Rattle.wt_tree.specs.Tree.{Tree, label}
use Rattle.wt_tree.proofs.Views.{view_out}
use Rattle.wt_tree.specs.Stream.{StreamToken, signs, signs_of_all}
use Rattle.wt_tree.specs.View.{view, views}
use Rattle.wt_tree.proofs.Adding.{attrs_one}
use Rattle.wt_tree.proofs.Streams.{same_plain, same_signs}
use Rattle.wt_original.specs.declared.same.Face.{Face as Pointed}
use Rattle.wt_original.specs.Kept.{Kept}
use Rattle.wt_original.specs.Page.{Page, TellsSame, restored, restored_all, is_unchanged}
use Rattle.wt_original.specs.PageViews.{face_of}

pub restored_views : (ks : List Kept) (ns : List Node) → signs_of_all (restored_all ks (views ns)) ≡ flat_map (λ n. signs (restored ks (view n))) ns
restored_views ks [] = refl
restored_views ks (n ∷ ns) = ap (λ s. signs (restored ks (view n)) ++ s) (restored_views ks ns)

pub face_attrs : (a b : Pointed) → face_of a ≡ face_of b → a.attrs.now ≡ b.attrs.now
face_attrs a b e = attrs_one a.attrs.now b.attrs.now (ap (λ (f : Face). f.attrs) e)

-- ---- unchanged nodes

one_answer : {P : Type 0} (a b : Bool) → Decides a P → Decides b P → a ≡ b
one_answer true b h k = sym (k.1 (h.0 refl))
one_answer false true h k = h.1 (k.0 refl)
one_answer false false h k = refl

pub kind_seen : (n : Node) → (label (view n)).kind ≡ (out-Node n).kind
kind_seen n = ap (λ (t : Tree). (label t).kind) (view_out n)

-- a group of the page
pub unchanged_group : (p : Page) (k : Kept) (t : Tree) (n : Node) (b : Bool) → k.node ≡ view n → b ≡ is_group (out-Node n).kind → b ≡ true
    → true ≡ is_unchanged p k t
unchanged_group p k t n b e g i =
    let h : is_group (label k.node).kind ≡ true = ap (λ (u : Tree). is_group (label u).kind) e ∙ ap is_group (kind_seen n) ∙ sym g ∙ i in
    sym (ap (λ (c : Bool). c || p.same (restored p.kept t) k.node) h)

pub unchanged_by : (p : Page) (k : Kept) (t : Tree) (n : Node) (b a : Bool) → k.node ≡ view n → b ≡ is_group (out-Node n).kind → b ≡ false
    → TellsSame p.same → Decides a (((label (restored p.kept t)).kind ≡ (label k.node).kind) × (plain (restored p.kept t) ≡ plain k.node))
    → a ≡ is_unchanged p k t
unchanged_by p k t n b a e g i tells d =
    let h : is_group (label k.node).kind ≡ false = ap (λ (u : Tree). is_group (label u).kind) e ∙ ap is_group (kind_seen n) ∙ sym g ∙ i in
    one_answer a (p.same (restored p.kept t) k.node) d (tells (restored p.kept t) k.node)
    ∙ sym (ap (λ (c : Bool). c || p.same (restored p.kept t) k.node) h)

-- plain views are the same where what is read of them is
pub plains_decided : (t u : Tree) (a b : List StreamToken) (same : Bool) → a ≡ signs t → b ≡ signs u → Decides same (a ≡ b) → Decides same (plain t ≡ plain u)
plains_decided t u a b same e f d = (λ s. same_plain t u (sym e ∙ d.0 s ∙ f), λ p. d.1 (e ∙ same_signs t u p ∙ sym f))

pub kinds_decided : (a b c d : Kind) (same : Bool) → a ≡ c → b ≡ d → Decides same (a ≡ b) → Decides same (c ≡ d)
kinds_decided a b c d same e f h = (λ s. sym e ∙ h.0 s ∙ f, λ k. h.1 (e ∙ k ∙ sym f))

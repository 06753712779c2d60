-- What sections hold is put in their place, node by node.
use Rattle.std.proofs.Common.{◌≡◌, ◌<◌, ◌+◌, ℕ, length, drop, get_or, Bool, true, false, List, [], ◌∷◌, ◌++◌, refl, sym, ap, ◌∙◌}
use Rattle.std.proofs.lemmas.List.{drop_more}
use Rattle.std.specs.Prelude.{if◌then◌else◌}
use Rattle.wt_tree.specs.Kinds.{is_section}
use Rattle.wt_tree.specs.Opened.{opened_before, all_opened_before, opened, without_sections}
use Rattle.wt_recut.specs.Recutting.{appended}
use Rattle.wt_tree.specs.Tree.{Tree, tree, Trees, none, more}
use Rattle.wt_tree.specs.View.{label_of, view, views}
use Rattle.wt_tree.specs.declared.node.Node.{Node, out-Node}
use Rattle.wt_tree.proofs.Views.{view_out}
use Rattle.wt_html_grammar.proofs.Steps.{if_false}
use Rattle.wt_html_in.proofs.Pieces.{views_push}

appended_twice : (ts us vs : Trees) → appended (appended ts us) vs ≡ appended ts (appended us vs)
appended_twice none us vs = refl
appended_twice (more t ts) us vs = ap (more t) (appended_twice ts us vs)

appended_none : (ts : Trees) → appended ts none ≡ ts
appended_none none = refl
appended_none (more t ts) = ap (more t) (appended_none ts)

by_kind : (b : Bool) (t : Tree) (ts us vs ws : Trees) → appended ts vs ≡ ws
    → appended (if b then ts else more t us) vs ≡ (if b then ws else more t (appended us vs))
by_kind true t ts us vs ws e = e
by_kind false t ts us vs ws e = refl

mutual
  before_appended : (t : Tree) (us vs : Trees) → appended (opened_before t us) vs ≡ opened_before t (appended us vs)
  before_appended (tree l ts) us vs =
      by_kind (is_section l.kind) (tree l ts) (all_opened_before ts us) us vs (all_opened_before ts (appended us vs)) (all_before_appended ts us vs)

  all_before_appended : (ts us vs : Trees) → appended (all_opened_before ts us) vs ≡ all_opened_before ts (appended us vs)
  all_before_appended none us vs = refl
  all_before_appended (more t ts) us vs = before_appended t (all_opened_before ts us) vs ∙ ap (opened_before t) (all_before_appended ts us vs)

pub opened_on : (vs ws : List Node) (n : Node) (xs ys : List Node) (all : Trees) → xs ≡ n ∷ ys
    → views ws ≡ appended (views vs) (opened_before (view n) none)
    → appended (views vs) (opened (views xs)) ≡ all → appended (views ws) (opened (views ys)) ≡ all
opened_on vs ws n xs ys all e f h =
    ap (λ ts. appended ts (opened (views ys))) f
    ∙ appended_twice (views vs) (opened_before (view n) none) (opened (views ys))
    ∙ ap (appended (views vs)) (before_appended (view n) none (opened (views ys)))
    ∙ ap (λ zs. appended (views vs) (opened (views zs))) (sym e) ∙ h

pub opened_end : (vs xs : List Node) (all : Trees) → xs ≡ [] → appended (views vs) (opened (views xs)) ≡ all → views vs ≡ all
opened_end vs xs all e h = sym (appended_none (views vs)) ∙ ap (λ zs. appended (views vs) (opened (views zs))) (sym e) ∙ h

-- a node that is no section
kept : (n : Node) → is_section (out-Node n).kind ≡ false → opened_before (view n) none ≡ more (view n) none
kept n e =
    ap (λ t. opened_before t none) (view_out n)
    ∙ if_false (is_section (out-Node n).kind) _ _ e ∙ ap (λ t. more t none) (sym (view_out n))

pub opened_node : (vs ws : List Node) (n : Node) (b : Bool) → ws ≡ vs ++ n ∷ [] → b ≡ is_section (out-Node n).kind → b ≡ false
    → views ws ≡ appended (views vs) (opened_before (view n) none)
opened_node vs ws n b e f g = ap views e ∙ views_push vs n ∙ ap (appended (views vs)) (sym (kept n (sym f ∙ g)))

-- ---- nodes among which is no section

before_kept : (n : Node) (ts : Trees) → is_section (out-Node n).kind ≡ false → opened_before (view n) ts ≡ more (view n) ts
before_kept n ts e =
    ap (λ t. opened_before t ts) (view_out n)
    ∙ if_false (is_section (out-Node n).kind) _ _ e ∙ ap (λ t. more t ts) (sym (view_out n))

-- the node at a place is no section, and those after it stay
pub open_on : (P : Type 0) (ns : List Node) (i : ℕ) (n : Node) (b : Bool) → i < length ns → n ≡ get_or ns i n
    → b ≡ is_section (out-Node n).kind → b ≡ false
    → (opened (views (drop i ns)) ≡ views (drop i ns) → P) → opened (views (drop (i + 1) ns)) ≡ views (drop (i + 1) ns) → P
open_on P ns i n b l is f g h s =
    let ys = drop (i + 1) ns in
    let e : drop i ns ≡ n ∷ ys = drop_more ns i n l ∙ ap (λ (x : Node). x ∷ ys) (sym is) in
    h (ap (λ zs. opened (views zs)) e ∙ before_kept n (opened (views ys)) (sym f ∙ g) ∙ ap (more (view n)) s ∙ ap views (sym e))

-- the tree of a body in which is no section
pub whole : (n : Node) → opened (views (out-Node n).children) ≡ views (out-Node n).children → view n ≡ without_sections (view n)
whole n e = view_out n ∙ ap (tree (label_of (out-Node n))) (sym e) ∙ ap without_sections (sym (view_out n))

-- What stands behind the inside, child by child.
use Rattle.std.proofs.Common.{arith, ◌≡◌, ◌≤◌, ◌<◌, ℕ, ◌+◌, ◌-◌, Bool, true, false, List, [], ◌∷◌, ◌++◌, length, take, drop, get_or, refl, sym, ap, ◌∙◌}
use Rattle.std.specs.Prelude.{if◌then◌else◌}
use Rattle.std.proofs.lemmas.List.{drop_more, drop_all, length-drop, take_all}
use Rattle.wt_tree.specs.Kinds.{is_section}
use Rattle.wt_tree.specs.Opened.{opened_before, all_opened_before, opened}
use Rattle.wt_recut.specs.Recutting.{appended}
use Rattle.wt_tree.specs.Tree.{Tree, tree, Trees, none, more}
use Rattle.wt_tree.specs.View.{view, views}
use Rattle.wt_tree.specs.declared.node.Node.{Node, out-Node}
use Rattle.wt_tree.proofs.Views.{view_out}
use Rattle.wt_checks.proofs.Firsts.{if_true, if_false}
use Rattle.wt_difference.specs.declared.insides.Child.{Child}
use Rattle.wt_difference.specs.Insides.{has_inside, held, from_blocks}
use Rattle.wt_difference.specs.Views.{child_views}

pub appended_twice : (ts us vs : Trees) → appended (appended ts us) vs ≡ appended ts (appended us vs)
appended_twice none us vs = refl
appended_twice (more t ts) us vs = ap (more t) (appended_twice ts us vs)

pub appended_none : (ts : Trees) → appended ts none ≡ ts
appended_none none = refl
appended_none (more t ts) = ap (more t) (appended_none ts)

by_kind : (b : Bool) (t : Tree) (ts us vs ws : Trees) → appended ts vs ≡ ws
    → appended (if b then ts else more t us) vs ≡ (if b then ws else more t (appended us vs))
by_kind true t ts us vs ws e = e
by_kind false t ts us vs ws e = refl

mutual
  before_appended : (t : Tree) (us vs : Trees) → appended (opened_before t us) vs ≡ opened_before t (appended us vs)
  before_appended (tree l ts) us vs =
      by_kind (is_section l.kind) (tree l ts) (all_opened_before ts us) us vs (all_opened_before ts (appended us vs)) (all_before_appended ts us vs)

  all_before_appended : (ts us vs : Trees) → appended (all_opened_before ts us) vs ≡ all_opened_before ts (appended us vs)
  all_before_appended none us vs = refl
  all_before_appended (more t ts) us vs = before_appended t (all_opened_before ts us) vs ∙ ap (opened_before t) (all_before_appended ts us vs)

pub children_push : (cs : List Child) (c : Child) → child_views (cs ++ c ∷ []) ≡ appended (child_views cs) (more (view c.node.now) none)
children_push [] c = refl
children_push (d ∷ cs) c = ap (more (view d.node.now)) (children_push cs c)

drop_here : (ns : List Node) (i : ℕ) (n : Node) → i < length ns → n ≡ get_or ns i n → drop i ns ≡ n ∷ drop (i + 1) ns
drop_here ns i n lt is = drop_more ns i n lt ∙ ap (λ (x : Node). x ∷ drop (i + 1) ns) (sym is)

-- one node more, where sections are opened
pub opened_turn : (cs ds : List Child) (ns : List Node) (i : ℕ) (n : Node) (all : Trees) → i < length ns → n ≡ get_or ns i n
    → child_views ds ≡ appended (child_views cs) (opened_before (view n) none)
    → appended (child_views cs) (opened (views (drop i ns))) ≡ all → appended (child_views ds) (opened (views (drop (i + 1) ns))) ≡ all
opened_turn cs ds ns i n all lt is f h =
    let ys : List Node = drop (i + 1) ns in
    ap (λ ts. appended ts (opened (views ys))) f
    ∙ appended_twice (child_views cs) (opened_before (view n) none) (opened (views ys))
    ∙ ap (appended (child_views cs)) (before_appended (view n) none (opened (views ys)))
    ∙ ap (λ zs. appended (child_views cs) (opened (views zs))) (sym (drop_here ns i n lt is)) ∙ h

pub opened_end : (cs : List Child) (ns : List Node) (i : ℕ) (all : Trees) → length ns ≤ i
    → appended (child_views cs) (opened (views (drop i ns))) ≡ all → child_views cs ≡ all
opened_end cs ns i all ge h =
    sym (appended_none (child_views cs)) ∙ ap (λ zs. appended (child_views cs) (opened (views zs))) (sym (drop_all i ns ge)) ∙ h

-- a node that is no section
kept : (n : Node) → is_section (out-Node n).kind ≡ false → opened_before (view n) none ≡ more (view n) none
kept n e =
    ap (λ t. opened_before t none) (view_out n)
    ∙ if_false (is_section (out-Node n).kind) _ _ e ∙ ap (λ t. more t none) (sym (view_out n))

pub opened_node : (cs ds : List Child) (c : Child) (b : Bool) → ds ≡ cs ++ c ∷ [] → b ≡ is_section (out-Node c.node.now).kind → b ≡ false
    → child_views ds ≡ appended (child_views cs) (opened_before (view c.node.now) none)
opened_node cs ds c b e f g = ap child_views e ∙ children_push cs c ∙ ap (appended (child_views cs)) (sym (kept c.node.now (sym f ∙ g)))

-- a section
pub opened_section : (cs ds : List Child) (n : Node) (b : Bool) → b ≡ is_section (out-Node n).kind → b ≡ true
    → child_views ds ≡ appended (child_views cs) (opened (views (out-Node n).children))
    → child_views ds ≡ appended (child_views cs) (opened_before (view n) none)
opened_section cs ds n b f g h =
    h ∙ ap (appended (child_views cs)) (sym (ap (λ t. opened_before t none) (view_out n) ∙ if_true (is_section (out-Node n).kind) _ _ (sym f ∙ g)))

-- one node more as it stands
pub all_turn : (cs ds : List Child) (ns : List Node) (i : ℕ) (n : Node) (c : Child) (all : Trees) → ds ≡ cs ++ c ∷ [] → c.node.now ≡ n
    → i < length ns → n ≡ get_or ns i n → appended (child_views cs) (views (drop i ns)) ≡ all → appended (child_views ds) (views (drop (i + 1) ns)) ≡ all
all_turn cs ds ns i n c all e f lt is h =
    ap (λ ts. appended ts (views (drop (i + 1) ns))) (ap child_views e ∙ children_push cs c ∙ ap (λ m. appended (child_views cs) (more (view m) none)) f)
    ∙ appended_twice (child_views cs) (more (view n) none) (views (drop (i + 1) ns))
    ∙ ap (λ zs. appended (child_views cs) (views zs)) (sym (drop_here ns i n lt is)) ∙ h

pub all_end : (cs : List Child) (ns : List Node) (i : ℕ) (all : Trees) → length ns ≤ i → appended (child_views cs) (views (drop i ns)) ≡ all → child_views cs ≡ all
all_end cs ns i all ge h = sym (appended_none (child_views cs)) ∙ ap (λ zs. appended (child_views cs) (views zs)) (sym (drop_all i ns ge)) ∙ h

-- what a node holds
pub held_out : (n : Node) → held (view n) ≡ (if has_inside (out-Node n).kind then from_blocks (views (out-Node n).children) else opened (views (out-Node n).children))
held_out n = rw (view_out n)

-- all behind the inside
pub held_behind : (n : Node) (b : Bool) (cs old : List Child) (ns : List Node) (k : ℕ) → b ≡ has_inside (out-Node n).kind → b ≡ true
    → ns ≡ (out-Node n).children → old ≡ [] → views (drop k ns) ≡ from_blocks (views ns)
    → child_views cs ≡ appended (child_views old) (views (take (length ns - k) (drop k ns))) → child_views cs ≡ held (view n)
held_behind n b cs old ns k h t same new behind e =
    let l = length-drop k ns in
    e ∙ ap (λ ds. appended (child_views ds) (views (take (length ns - k) (drop k ns)))) new
    ∙ ap views (take_all (length ns - k) (drop k ns) (omega (arith, l)))
    ∙ behind ∙ ap (λ ms. from_blocks (views ms)) same ∙ sym (held_out n ∙ if_true (has_inside (out-Node n).kind) _ _ (sym h ∙ t))

-- all of it, where there is no inside
pub held_opened : (n : Node) (b : Bool) (cs old : List Child) (ns : List Node) → b ≡ has_inside (out-Node n).kind → b ≡ false
    → ns ≡ (out-Node n).children → old ≡ [] → child_views cs ≡ appended (child_views old) (opened (views ns)) → child_views cs ≡ held (view n)
held_opened n b cs old ns h f same new e =
    e ∙ ap (λ ds. appended (child_views ds) (opened (views ns))) new
    ∙ ap (λ ms. opened (views ms)) same ∙ sym (held_out n ∙ if_false (has_inside (out-Node n).kind) _ _ (sym h ∙ f))

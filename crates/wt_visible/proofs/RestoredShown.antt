-- What nodes show where groups are those of the page, found from left to right.
use Rattle.std.proofs.Common.{arith, ◌≡◌, ◌<◌, ◌≤◌, ◌⊎◌, inl, inr, ℕ, zero, suc, ◌+◌, Bool, true, false, List, [], ◌∷◌, length, drop, get_or, refl, sym, ap, ◌∙◌, subst}
use Rattle.std.specs.Prelude.{◌==◌, ◌&&◌, Some, None, slice_get, if◌then◌else◌}
use Rattle.std.specs.Bool.{Decides}
use Rattle.std.proofs.lemmas.Bool.Decides.{nat_tests}
use Rattle.std.proofs.lemmas.List.{drop_more}
use Rattle.wt_tree.specs.declared.kind.Kind.{Kind}
use Rattle.wt_tree.specs.declared.kind.Kind.TheVariants as kind
use Rattle.wt_tree.specs.declared.kind.Showing.{Showing}
use Rattle.wt_tree.specs.declared.kind.Showing.TheVariants.{Characters, Inside, Nothing, Element}
use Rattle.wt_tree.specs.declared.node.Node.{Node, out-Node}
use Rattle.wt_tree.specs.Kinds.{showing}
use Rattle.wt_tree.specs.Plain.{Face, Plain, element, Plains, ended, along, face, text_before, shown_before, plain_before, plains_before}
use Rattle.wt_tree.specs.Tiling.{is_group}
use Rattle.wt_tree.specs.Tree.{Tree, tree, Trees, none, more}
use Rattle.wt_tree.specs.View.{label_of, view, views}
use Rattle.wt_tree.proofs.Views.{view_out}
use Rattle.wt_checks.specs.Kept.{children}
use Rattle.wt_checks.specs.Places.{Page}
use Rattle.wt_checks.specs.View.{indexed, seen}
use Rattle.wt_checks.specs.declared.visit.Visit.{Visit}
use Rattle.wt_visible.specs.declared.children.Child.{Child}
use Rattle.wt_visible.specs.declared.shown_node.ShownNode.{ShownNode}
use Rattle.wt_visible.specs.declared.children.ShownSoFar.{ShownSoFar}
use Rattle.wt_visible.specs.Children.{listed, shown_children, IsCommonLen}
use Rattle.wt_visible.specs.Restored.{all_restored, group_held, held_by, held_there, restored, restored_held}
use Rattle.wt_visible.specs.Views.{Adds, children_view, node_view, so_far}
use Rattle.wt_visible.proofs.ShownChildren.{none_differs, views_long}

-- ---- nothing is restored where the page has no node

same_if : (b : Bool) (ts : Trees) → (if b then ts else ts) ≡ ts
same_if true ts = refl
same_if false ts = refl

held_none : (b : Bool) (n : ℕ) (ts us : Trees) → us ≡ ts → held_by (indexed []) b n ts us ≡ ts
held_none true n ts us e = same_if (n == 0) ts
held_none false n ts us e = e

mutual
  pub restored_none : (t : Tree) → restored (indexed []) t ≡ t
  restored_none (tree l ts) = ap (tree l) (held_none (is_group l.kind) l.id ts (all_restored (indexed []) ts) (all_restored_none ts))

  pub all_restored_none : (ts : Trees) → all_restored (indexed []) ts ≡ ts
  all_restored_none none = refl
  all_restored_none (more t ts) = ap (λ u. more u (all_restored (indexed []) ts)) (restored_none t) ∙ ap (more t) (all_restored_none ts)

-- ---- a node by what its kind shows

pub held_out : (p : Page) (n : Node)
    → restored_held p (view n) ≡ held_by p (is_group (out-Node n).kind) (out-Node n).id (views (out-Node n).children) (all_restored p (views (out-Node n).children))
held_out p n = ap (restored_held p) (view_out n)

restored_as : (p : Page) (n : Node) (s : Showing) (rest : Plains) → showing (out-Node n).kind ≡ s
    → shown_before s (label_of (out-Node n)) (λ ps. plains_before (restored_held p (view n)) ps) rest ≡ plain_before (restored p (view n)) rest
restored_as p n s rest e =
    ap (λ t. shown_before s (label_of (out-Node n)) (λ ps. plains_before (restored_held p t) ps) rest) (view_out n)
    ∙ sym (ap (λ t. plain_before (restored p t) rest) (view_out n)
    ∙ ap (λ k. shown_before k (label_of (out-Node n)) (λ ps. plains_before (restored_held p (tree (label_of (out-Node n)) (views (out-Node n).children))) ps) rest) e)

pub restored_characters : (p : Page) (a b : ShownSoFar) (n : Node) (bs : List ℕ) → showing (out-Node n).kind ≡ Characters → bs ≡ (out-Node n).source.shown
    → Adds a b (text_before bs) → Adds a b (plain_before (restored p (view n)))
restored_characters p a b n bs e is h = λ rest.
    h rest ∙ ap (λ (xs : List ℕ). so_far a (text_before xs rest)) is ∙ ap (so_far a) (restored_as p n Characters rest e)

pub restored_inside : (p : Page) (a b : ShownSoFar) (n : Node) → showing (out-Node n).kind ≡ Inside
    → Adds a b (plains_before (restored_held p (view n))) → Adds a b (plain_before (restored p (view n)))
restored_inside p a b n e h = λ rest. h rest ∙ ap (so_far a) (restored_as p n Inside rest e)

pub restored_nothing : (p : Page) (a : ShownSoFar) (n : Node) → showing (out-Node n).kind ≡ Nothing → Adds a a (plain_before (restored p (view n)))
restored_nothing p a n e = λ rest. ap (so_far a) (restored_as p n Nothing rest e)

-- a group isn't shown as an element
no_element : (k : Kind) → showing k ≡ Element → is_group k ≡ false
no_element kind.Group e = absurd (cc)
no_element k e = refl

element_held : (p : Page) (n : Node) → showing (out-Node n).kind ≡ Element
    → restored_held p (view n) ≡ all_restored p (views (out-Node n).children)
element_held p n e =
    held_out p n
    ∙ ap (λ b. held_by p b (out-Node n).id (views (out-Node n).children) (all_restored p (views (out-Node n).children))) (no_element (out-Node n).kind e)

pub restored_element : (p : Page) (a b : ShownSoFar) (n : Node) (s : ShownNode) → showing (out-Node n).kind ≡ Element → s.node.now ≡ n
    → indexed s.page.now ≡ p → ((rest : Plains) → so_far b rest ≡ so_far a (along (node_view s) rest)) → Adds a b (plain_before (restored p (view n)))
restored_element p a b n s e is at h = λ rest.
    h rest
    ∙ ap (λ m. so_far a (along (element (face (label_of (out-Node m))) (plains_before (all_restored (indexed s.page.now) (views (out-Node m).children)) ended)) rest)) is
    ∙ ap (λ q. so_far a (along (element (face (label_of (out-Node n))) (plains_before (all_restored q (views (out-Node n).children)) ended)) rest)) at
    ∙ ap (λ ts. so_far a (along (element (face (label_of (out-Node n))) (plains_before ts ended)) rest)) (sym (element_held p n e))
    ∙ ap (so_far a) (restored_as p n Element rest e)

-- the same where nothing is restored
pub shown_element : (a b : ShownSoFar) (n : Node) (s : ShownNode) → showing (out-Node n).kind ≡ Element → s.node.now ≡ n
    → s.page.now ≡ [] → ((rest : Plains) → so_far b rest ≡ so_far a (along (node_view s) rest)) → Adds a b (plain_before (view n))
shown_element a b n s e is at h = λ rest.
    restored_element (indexed []) a b n s e is (ap indexed at) h rest ∙ ap (λ t. so_far a (plain_before t rest)) (restored_none (view n))

-- ---- what a group holds

zero_test : (k : ℕ) → k ≡ 0 → (k == 0) ≡ true
zero_test k e = grind (arith, nat_tests)

some_test : (k : ℕ) → 0 < k → (k == 0) ≡ false
some_test k lt = grind (arith, nat_tests)

pub group_new : (p : Page) (k : ℕ) (ts us : Trees) → k ≡ 0 → us ≡ ts → us ≡ group_held p k ts
group_new p k ts us z e = e ∙ sym (ap (λ b. if b then ts else held_there (p k) ts) (zero_test k z))

pub group_own : (p : Page) (k : ℕ) (ts us : Trees) → 0 < k → p k ≡ None → us ≡ ts → us ≡ group_held p k ts
group_own p k ts us lt is e =
    e ∙ sym (ap (λ b. if b then ts else held_there (p k) ts) (some_test k lt) ∙ ap (λ o. held_there o ts) is)

pub group_kept : (p : Page) (k : ℕ) (ts : Trees) (ns : List Node) (v : Visit) → 0 < k → p k ≡ Some (seen v) → ns ≡ (out-Node v.node.now).children
    → views ns ≡ group_held p k ts
group_kept p k ts ns v lt is e =
    ap views e ∙ sym (ap (λ b. if b then ts else held_there (p k) ts) (some_test k lt) ∙ ap (λ o. held_there o ts) is ∙ ap children (view_out v.node.now))

-- ---- what a node holds

pub held_group : (p : Page) (n : Node) (ns : List Node) → is_group (out-Node n).kind ≡ true
    → views ns ≡ group_held p (out-Node n).id (views (out-Node n).children) → views ns ≡ restored_held p (view n)
held_group p n ns g e =
    e ∙ ap (λ b. held_by p b (out-Node n).id (views (out-Node n).children) (all_restored p (views (out-Node n).children))) (sym g) ∙ sym (held_out p n)

pub held_own : (p : Page) (n : Node) → is_group (out-Node n).kind ≡ false
    → all_restored p (views (out-Node n).children) ≡ restored_held p (view n)
held_own p n g =
    ap (λ b. held_by p b (out-Node n).id (views (out-Node n).children) (all_restored p (views (out-Node n).children))) (sym g) ∙ sym (held_out p n)

pub adds_held : (a b : ShownSoFar) (ts us : Trees) → ts ≡ us → Adds a b (plains_before ts) → Adds a b (plains_before us)
adds_held a b ts us e h = λ rest. h rest ∙ ap (λ vs. so_far a (plains_before vs rest)) e

-- ---- all nodes

-- what is left of them, before what follows
abbrev pub LeftBy : Page → ShownSoFar → ShownSoFar → List Node → ℕ → Type 0
LeftBy p a b ns i = (rest : Plains) → so_far b (plains_before (all_restored p (views (drop i ns))) rest) ≡ so_far a (plains_before (all_restored p (views ns)) rest)

pub restored_turn : (p : Page) (a b d : ShownSoFar) (ns : List Node) (i : ℕ) (n : Node) → i < length ns → n ≡ get_or ns i n → LeftBy p a b ns i
    → Adds b d (plain_before (restored p (view n))) → LeftBy p a d ns (i + 1)
restored_turn p a b d ns i n lt is h k = λ rest.
    k (plains_before (all_restored p (views (drop (i + 1) ns))) rest)
    ∙ ap (λ ms. so_far b (plains_before (all_restored p (views ms)) rest)) (sym (drop_more ns i n lt ∙ ap (λ m. m ∷ drop (i + 1) ns) (sym is))) ∙ h rest

pub restored_left : (p : Page) (a b : ShownSoFar) (ns : List Node) (i : ℕ) → drop i ns ≡ [] → LeftBy p a b ns i
    → Adds a b (plains_before (all_restored p (views ns)))
restored_left p a b ns i e h = λ rest. ap (λ ms. so_far b (plains_before (all_restored p (views ms)) rest)) (sym e) ∙ h rest

-- ---- a body

pub body_shown : (n : Node) (ns : List Node) (qs : List Plain) → ns ≡ (out-Node n).children
    → qs ≡ listed (plains_before (all_restored (indexed []) (views ns)) ended) → qs ≡ shown_children (view n)
body_shown n ns qs is e =
    e ∙ ap (λ ts. listed (plains_before ts ended)) (all_restored_none (views ns)) ∙ ap (λ ms. listed (plains_before (views ms) ended)) is
    ∙ ap shown_children (sym (view_out n))

held_is : (p : Page) (n : Node) → shown_children (restored p (view n)) ≡ listed (plains_before (restored_held p (view n)) ended)
held_is p n = ap (λ t. shown_children (restored p t)) (view_out n) ∙ sym (ap (λ t. listed (plains_before (restored_held p t) ended)) (view_out n))

pub body_restored : (p q : Page) (n : Node) (qs : List Plain) → p ≡ q → qs ≡ listed (plains_before (restored_held p (view n)) ended)
    → qs ≡ shown_children (restored q (view n))
body_restored p q n qs h e = e ∙ sym (held_is p n) ∙ ap (λ r. shown_children (restored r (view n))) h

-- ---- two elements

listed_same : (ps qs : Plains) → listed ps ≡ listed qs → ps ≡ qs
listed_same ended ended e = refl
listed_same ended (along q qs) e = absurd (cc)
listed_same (along p ps) ended e = absurd (cc)
listed_same (along p ps) (along q qs) e =
    let first : p ≡ q = cc in
    let rest : listed ps ≡ listed qs = cc in
    ap (λ r. along r ps) first ∙ ap (along q) (listed_same ps qs rest)

pub listed_decided : (ps qs : Plains) (v : Bool) → Decides v (listed ps ≡ listed qs) → Decides v (ps ≡ qs)
listed_decided ps qs v d = (λ h. listed_same ps qs (d.0 h), λ h. d.1 (ap listed h))

pub elements_decided : (f g : Face) (ps qs : Plains) (v : Bool) → f ≡ g → Decides v (listed ps ≡ listed qs) → Decides v (element f ps ≡ element g qs)
elements_decided f g ps qs v e d =
    (λ h. ap (λ x. element x ps) e ∙ ap (element g) (listed_same ps qs (d.0 h)), λ h. d.1 (inside h))
  where
    inside : element f ps ≡ element g qs → listed ps ≡ listed qs
    inside h = let k : ps ≡ qs = cc in ap listed k

pub elements_differ : (f g : Face) (ps qs : Plains) (v : Bool) → Decides v (f ≡ g) → v ≡ false → Decides false (element f ps ≡ element g qs)
elements_differ f g ps qs v d never = (λ h. absurd (cc), λ h. absurd (differ (d.1 (faces h))))
  where
    faces : element f ps ≡ element g qs → f ≡ g
    faces h = cc

    differ : v ≡ true → ⊥
    differ told = let e : true ≡ false = sym told ∙ never in cc

pub decided_of : (xs ys us vs : List Plain) (v : Bool) → xs ≡ us → ys ≡ vs → Decides v (xs ≡ ys) → Decides v (us ≡ vs)
decided_of xs ys us vs v e f d = (λ h. sym e ∙ d.0 h ∙ f, λ h. d.1 (e ∙ h ∙ sym f))

-- ---- two lists of children

either : (a b : ℕ) → (a < b) ⊎ (b ≤ a)
either zero zero = inr (omega arith)
either zero (suc b) = inl (omega arith)
either (suc a) zero = inr (omega arith)
either (suc a) (suc b) = elim (either a b) [ inl l ↦ inl (omega (arith, l)) | inr l ↦ inr (omega (arith, l)) ]

both_tests : (n a b : ℕ) → n ≡ a → n ≡ b → ((n == a) && (n == b)) ≡ true
both_tests n a b e f = grind (arith, nat_tests)

tests_both : (n a b : ℕ) → ((n == a) && (n == b)) ≡ true → (n ≡ a) × (n ≡ b)
tests_both n a b h =
    let l : n ≡ a = grind (arith, nat_tests) in
    let r : n ≡ b = grind (arith, nat_tests) in
    (l, r)

pub children_decided : (ls rs : List Child) (n : ℕ) → IsCommonLen (children_view ls) (children_view rs) n
    → Decides ((n == length ls) && (n == length rs)) (children_view ls ≡ children_view rs)
children_decided ls rs n c = (all_same, λ h. counted h)
  where
    all_same : ((n == length ls) && (n == length rs)) ≡ true → children_view ls ≡ children_view rs
    all_same h =
        let t = tests_both n (length ls) (length rs) h in
        let l = t.0 in
        let r = t.1 in
        none_differs ls rs (children_view ls) (children_view rs) n refl refl c (omega (arith, l)) (omega (arith, r))

    as_long : children_view ls ≡ children_view rs → length ls ≡ length rs
    as_long h = sym (views_long ls) ∙ ap length h ∙ views_long rs

    no_more : children_view ls ≡ children_view rs → n < length (children_view ls) → n < length (children_view rs) → ⊥
    no_more h l r = c.differs l r (ap (λ xs. slice_get xs n) h)

    counted : children_view ls ≡ children_view rs → ((n == length ls) && (n == length rs)) ≡ true
    counted h =
        let a = views_long ls in
        let e = as_long h in
        let f = ap length h in
        elim (either n (length (children_view ls))) [
          | inl l ↦ absurd (no_more h l (omega (arith, l, f)))
          | inr r ↦ both_tests n (length ls) (length rs) (let m = c.left in omega (arith, r, m, a)) (let m = c.left in omega (arith, r, m, a, e))
        ]

pub children_then : (ls rs : List Child) (n : ℕ) → n ≡ length ls → IsCommonLen (children_view ls) (children_view rs) n
    → Decides (n == length rs) (children_view ls ≡ children_view rs)
children_then ls rs n e c =
    let t : (n == length ls) ≡ true = grind (arith, nat_tests) in
    subst (λ (b : Bool). Decides b (children_view ls ≡ children_view rs)) (ap (λ b. b && (n == length rs)) t) (children_decided ls rs n c)

pub children_else : (ls rs : List Child) (n : ℕ) → (n ≡ length ls → ⊥) → IsCommonLen (children_view ls) (children_view rs) n
    → Decides (n == length ls) (children_view ls ≡ children_view rs)
children_else ls rs n e c =
    (λ h. absurd (e (same_count h)), λ h. absurd (e (tests_both n (length ls) (length rs) ((children_decided ls rs n c).1 h)).0))
  where
    same_count : (n == length ls) ≡ true → n ≡ length ls
    same_count h = grind (arith, nat_tests)

-- What makes a group faulty, as it is found.
use Rattle.std.proofs.Common.{arith, ◌≡◌, ℕ, Bool, true, false, List, [], ◌∷◌, length, get_or, refl, sym, ap, ◌∙◌}
use Rattle.std.specs.Prelude.{◌≢◌, ◌==◌, ◌||◌, not, is_some, Option, Some, None}
use Rattle.std.specs.Bool.{Decides}
use Rattle.std.proofs.lemmas.Bool.Decides.{nat_tests}
use Rattle.wt_span.specs.Items.{Item}
use Rattle.wt_tree.specs.declared.kind.Kind.{Kind}
use Rattle.wt_tree.specs.declared.kind.Kind.TheVariants as kind
use Rattle.wt_tree.specs.declared.node.Attr.{Attr}
use Rattle.wt_tree.specs.declared.node.DataMw.{DataMw}
use Rattle.wt_tree.specs.declared.node.Node.{out-Node}
use Rattle.wt_tree.specs.Plain.{Face, Plain, text, element, ended, face, plains_before}
use Rattle.wt_tree.specs.Tree.{Trees}
use Rattle.wt_tree.specs.View.{attrs_of, label_of}
use Rattle.wt_inline.specs.ItemTree.{forest}
use Rattle.wt_inline.specs.View.{item_tree, item_trees}
use Rattle.wt_inline.specs.declared.tree.PieceTree.{PieceTree, out-PieceTree}
use Rattle.wt_page.specs.Body.{meaning}
use Rattle.wt_annotated.specs.Annotated.{all_unplaced}
use Rattle.wt_annotated.proofs.HeldPieces.{item_tree_out}
use Rattle.wt_visible.specs.declared.children.Child.{Child}
use Rattle.wt_visible.specs.declared.shown_node.ShownNode.{ShownNode}
use Rattle.wt_visible.specs.Children.{differing}
use Rattle.wt_selser.specs.GroupFaults.{is_faulty, one_paragraph, paragraph_face, shows_other, trees_in}
use Rattle.wt_isolation.specs.OpenTexts.{has_open_text}
use Rattle.wt_isolation.specs.Toggles.{has_odd_line}
use Rattle.wt_visible.specs.Views.{child_view, children_view, held_view, node_view}
use Rattle.wt_visible.proofs.DifferingLaws.{none_same, same_none}
use Rattle.wt_visible.proofs.ShownChildren.{views_long}

-- ---- what pieces mean

pub nodes_alone : (t : PieceTree) (xs : List Item) → item_tree t ≡ meaning xs
    → all_unplaced (forest (item_trees (out-PieceTree t).children)) ≡ all_unplaced (trees_in (meaning xs))
nodes_alone t xs e = ap (λ u. all_unplaced (trees_in u)) (sym (item_tree_out t) ∙ e)

-- ---- a paragraph

none_of : (xs : List Attr) → (length xs == 0) ≡ true → xs ≡ []
none_of [] e = refl
none_of (a ∷ xs) e = let z : length (a ∷ xs) ≡ 0 = grind (arith, nat_tests) in absurd (omega (arith, z))

bare_of : (xs : List Attr) → attrs_of xs ≡ [] → (length xs == 0) ≡ true
bare_of [] e = refl
bare_of (a ∷ xs) e = absurd (cc)

never : (P : Type 0) → (P → ⊥) → Decides false P
never P n = (λ h. absurd (cc), λ h. absurd (n h))

no_true : (b : Bool) → b ≡ true → b ≡ false → ⊥
no_true b e f = let g : true ≡ false = sym e ∙ f in cc

abbrev face_by : Kind → List Attr → Option DataMw → Face
face_by k xs m = record { kind = k; attrs = attrs_of xs; mw = m }

pub other_kind : (k : Kind) (xs : List Attr) (m : Option DataMw) (b : Bool) → Decides b (k ≡ kind.Para) → b ≡ false
    → Decides false (face_by k xs m ≡ paragraph_face)
other_kind k xs m b d f = never (face_by k xs m ≡ paragraph_face) (λ h. no_true b (d.1 (ap (λ (x : Face). x.kind) h)) f)

pub other_attrs : (k : Kind) (xs : List Attr) (m : Option DataMw) (b : Bool) → b ≡ (length xs == 0) → b ≡ false
    → Decides false (face_by k xs m ≡ paragraph_face)
other_attrs k xs m b is f = never (face_by k xs m ≡ paragraph_face) (λ h. no_true b (is ∙ bare_of xs (ap (λ (x : Face). x.attrs) h)) f)

pub data_decides : (k : Kind) (xs : List Attr) (m : Option DataMw) (p b q : Bool) → Decides p (k ≡ kind.Para) → p ≡ true → b ≡ (length xs == 0)
    → b ≡ true → Decides q (m ≡ None) → Decides q (face_by k xs m ≡ paragraph_face)
data_decides k xs m p b q dp para is bare d = (
  λ h. ap (λ x. face_by x xs m) (dp.0 para) ∙ ap (λ ys. face_by kind.Para ys m) (none_of xs (sym is ∙ bare)) ∙ ap (λ x. face_by kind.Para [] x) (d.0 h),
  λ h. d.1 (ap (λ (x : Face). x.mw) h),
)

-- ---- one paragraph

pub not_one : (cs : List Child) (ts : Trees) → length cs ≢ 1 → Decides false (children_view cs ≡ one_paragraph ts)
not_one cs ts n = never (children_view cs ≡ one_paragraph ts) (λ h. n (sym (views_long cs) ∙ ap length h))

only_child : (cs : List Child) (c : Child) → length cs ≡ 1 → c ≡ get_or cs 0 c → children_view cs ≡ child_view c ∷ []
only_child [] c e is = absurd (omega (arith, e))
only_child (d ∷ []) c e is = ap (λ x. child_view x ∷ []) (sym is)
only_child (d ∷ f ∷ cs) c e is = absurd (omega (arith, e))

texts_differ : (bs : List ℕ) (p : Plain) (ts : Trees) → p ≡ text bs → p ∷ [] ≡ one_paragraph ts → ⊥
texts_differ bs p ts e h = cc

pub text_alone : (cs : List Child) (c : Child) (bs : List ℕ) (ts : Trees) → length cs ≡ 1 → c ≡ get_or cs 0 c → child_view c ≡ text bs
    → Decides false (children_view cs ≡ one_paragraph ts)
text_alone cs c bs ts e is t =
    never (children_view cs ≡ one_paragraph ts) (λ h. texts_differ bs (child_view c) ts t (sym (only_child cs c e is) ∙ h))

faces_differ : (f : Face) (s : ShownNode) (ts : Trees) → element f (plains_before (held_view s) ended) ∷ [] ≡ one_paragraph ts → f ≡ paragraph_face
faces_differ f s ts h = cc

pub other_element : (cs : List Child) (c : Child) (s : ShownNode) (ts : Trees) (v : Bool) → length cs ≡ 1 → c ≡ get_or cs 0 c → child_view c ≡ node_view s
    → Decides v (face (label_of (out-Node s.node.now)) ≡ paragraph_face) → v ≡ false → Decides false (children_view cs ≡ one_paragraph ts)
other_element cs c s ts v e is t d f =
    never (children_view cs ≡ one_paragraph ts)
    (λ h. wrong (d.1 (faces_differ (face (label_of (out-Node s.node.now))) s ts (ap (λ p. p ∷ []) (sym t) ∙ sym (only_child cs c e is) ∙ h))))
  where
    wrong : v ≡ true → ⊥
    wrong g = let k : true ≡ false = sym g ∙ f in cc

insides_same : (f : Face) (s : ShownNode) (ts : Trees) → element f (plains_before (held_view s) ended) ∷ [] ≡ one_paragraph ts
    → plains_before (held_view s) ended ≡ plains_before ts ended
insides_same f s ts h = cc

pub one_decided : (cs : List Child) (c : Child) (s : ShownNode) (ts : Trees) (v : Bool) → length cs ≡ 1 → c ≡ get_or cs 0 c → child_view c ≡ node_view s
    → face (label_of (out-Node s.node.now)) ≡ paragraph_face → Decides v (plains_before (held_view s) ended ≡ plains_before ts ended)
    → Decides v (children_view cs ≡ one_paragraph ts)
one_decided cs c s ts v e is t f d =
    let view = only_child cs c e is ∙ ap (λ p. p ∷ []) t in (
      λ h. view ∙ ap (λ x. element x (plains_before (held_view s) ended) ∷ []) f ∙ ap (λ ps. element paragraph_face ps ∷ []) (d.0 h),
      λ h. d.1 (insides_same (face (label_of (out-Node s.node.now))) s ts (sym view ∙ h)),
    )

-- ---- something else is shown

pub other_told : (one : Bool) (xs ys : List Plain) → Decides one (xs ≡ ys) → not one ≡ is_some (differing 1 xs ys)
other_told true xs ys d = sym (ap is_some (ap (differing 1 xs) (sym (d.0 refl)) ∙ same_none 1 xs))
other_told false xs ys d = by (differing 1 xs ys) refl
  where
    wrong : xs ≡ ys → ⊥
    wrong h = let e : false ≡ true = d.1 h in cc

    by : (o : Option ℕ) → differing 1 xs ys ≡ o → true ≡ is_some o
    by None e = absurd (wrong (none_same 1 xs ys e))
    by (Some k) e = refl

-- ---- a fault

or_left : (a b : Bool) → a ≡ true → true ≡ (a || b)
or_left a b e = sym (ap (λ c. c || b) e)

or_right : (a b : Bool) → a ≡ false → b ≡ (a || b)
or_right a b e = sym (ap (λ c. c || b) e)

pub shows_fault : (xs : List Item) (ts : Trees) (b : Bool) → b ≡ shows_other xs ts → b ≡ true → true ≡ is_faulty xs ts
shows_fault xs ts b e t = or_left (shows_other xs ts) (has_odd_line xs || has_open_text [] ts) (sym e ∙ t)

pub odd_fault : (xs : List Item) (ts : Trees) (b c : Bool) → b ≡ shows_other xs ts → b ≡ false → c ≡ has_odd_line xs → c ≡ true → true ≡ is_faulty xs ts
odd_fault xs ts b c e f g t =
    or_left (has_odd_line xs) (has_open_text [] ts) (sym g ∙ t)
    ∙ or_right (shows_other xs ts) (has_odd_line xs || has_open_text [] ts) (sym e ∙ f)

pub text_fault : (xs : List Item) (ts : Trees) (b c d : Bool) → b ≡ shows_other xs ts → b ≡ false → c ≡ has_odd_line xs → c ≡ false
    → d ≡ has_open_text [] ts → d ≡ is_faulty xs ts
text_fault xs ts b c d e f g h k =
    k ∙ or_right (has_odd_line xs) (has_open_text [] ts) (sym g ∙ h)
    ∙ or_right (shows_other xs ts) (has_odd_line xs || has_open_text [] ts) (sym e ∙ f)

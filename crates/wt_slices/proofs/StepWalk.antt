-- How the code finds its steps along children: nodes that are passed one by one.
use Rattle.std.proofs.Common.{arith, ◌≡◌, ◌<◌, ◌≤◌, ℕ, ◌+◌, ◌-◌, Bool, false, List, [], ◌∷◌, ◌++◌, length, take, drop, get_or, refl, sym, ap, ◌∙◌, nat_eq, ◌≢◌, inl, inr, if◌then◌else◌, append_assoc, append-nil}
use Rattle.std.proofs.lemmas.Bool.Decides.{eqb_tells}
use Rattle.std.proofs.lemmas.List.{drop_more, take_more, drop_all, take_all, drop-drop, length-drop}
use Rattle.wt_tree.specs.declared.node.Node.{Node, out-Node}
use Rattle.wt_tree.specs.Tree.{Trees, more, label}
use Rattle.wt_tree.specs.View.{view, views}
use Rattle.wt_tree.proofs.Views.{view_out}
use Rattle.wt_content.specs.declared.children.Holder.{Holder}
use Rattle.wt_slices.specs.declared.child.Child.{Child}
use Rattle.wt_slices.specs.Views.{child_views}
use Rattle.wt_slices.specs.Steps.{Step, passed, passed_one, passed_up_to, from_number, steps}

pub id_seen : (n : Node) → (label (view n)).id ≡ (out-Node n).id
id_seen n = rw (view_out n)

-- ---- the nodes before the first one with a number

differs : (b c : ℕ) → b ≢ c → nat_eq b c ≡ false
differs b c n = elim (eqb_tells b c) [ inl e ↦ absurd (n e.1) | inr e ↦ e.0 ]

-- none of the nodes before a place has this number
abbrev pub NoneBefore : ℕ → List Child → ℕ → Type 0
NoneBefore number nodes at =
    (from_number number (child_views nodes) ≡ from_number number (child_views (drop at nodes)))
    × ((h : Holder) → passed_up_to h number (child_views nodes) ≡ passed h (child_views (take at nodes)) ++ passed_up_to h number (child_views (drop at nodes)))

pub passed_more : (h : Holder) (xs ys : List Child) → passed h (child_views (xs ++ ys)) ≡ passed h (child_views xs) ++ passed h (child_views ys)
passed_more h [] ys = refl
passed_more h (x ∷ xs) ys = ap (λ (ss : List Step). passed_one h (view x.node.now) ∷ ss) (passed_more h xs ys)

-- the nodes from a place on begin with the one at it
pub from_place : {X : Type 0} (nodes : List X) (i : ℕ) (n : X) → i < length nodes → n ≡ get_or nodes i n → drop i nodes ≡ n ∷ drop (i + 1) nodes
from_place {X} nodes i n lt is = drop_more nodes i n lt ∙ ap (λ (x : X). x ∷ drop (i + 1) nodes) (sym is)

pub up_to_place : (nodes : List Child) (i : ℕ) (n : Child) → i < length nodes → n ≡ get_or nodes i n → take (i + 1) nodes ≡ take i nodes ++ n ∷ []
up_to_place nodes i n lt is = take_more nodes i n lt ∙ ap (λ (x : Child). take i nodes ++ x ∷ []) (sym is)

other_number : (number : ℕ) (n : Child) → (out-Node n.node.now).id ≢ number → nat_eq (label (view n.node.now)).id number ≡ false
other_number number n e = ap (λ (k : ℕ). nat_eq k number) (id_seen n.node.now) ∙ differs (out-Node n.node.now).id number e

pub passed_other : (number : ℕ) (n : Child) (ns : List Child) → (out-Node n.node.now).id ≢ number
    → from_number number (child_views (n ∷ ns)) ≡ from_number number (child_views ns)
passed_other number n ns e = ap (λ (b : Bool). if b then more (view n.node.now) (child_views ns) else from_number number (child_views ns)) (other_number number n e)

pub up_to_other : (h : Holder) (number : ℕ) (n : Child) (ns : List Child) → (out-Node n.node.now).id ≢ number
    → passed_up_to h number (child_views (n ∷ ns)) ≡ passed_one h (view n.node.now) ∷ passed_up_to h number (child_views ns)
up_to_other h number n ns e =
    ap (λ (b : Bool). if b then [] else passed_one h (view n.node.now) ∷ passed_up_to h number (child_views ns)) (other_number number n e)

pub none_more : (number : ℕ) (nodes : List Child) (i : ℕ) (n : Child) → i < length nodes → n ≡ get_or nodes i n
    → (out-Node n.node.now).id ≢ number → NoneBefore number nodes i → NoneBefore number nodes (i + 1)
none_more number nodes i n lt is other before =
    let rest = drop (i + 1) nodes in
    let here = from_place nodes i n lt is in (
      before.0 ∙ ap (λ (xs : List Child). from_number number (child_views xs)) here ∙ passed_other number n rest other,
      λ h. before.1 h
          ∙ ap (λ (xs : List Child). passed h (child_views (take i nodes)) ++ passed_up_to h number (child_views xs)) here
          ∙ ap (λ (ss : List Step). passed h (child_views (take i nodes)) ++ ss) (up_to_other h number n rest other)
          ∙ sym (append_assoc (passed h (child_views (take i nodes))) (passed_one h (view n.node.now) ∷ []) (passed_up_to h number (child_views rest)))
          ∙ ap (λ (ss : List Step). ss ++ passed_up_to h number (child_views rest)) (sym (passed_more h (take i nodes) (n ∷ [])))
          ∙ ap (λ (xs : List Child). passed h (child_views xs) ++ passed_up_to h number (child_views rest)) (sym (up_to_place nodes i n lt is)),
    )

-- ---- passing nodes

pub passed_turn : (h : Holder) (nodes : List Child) (i : ℕ) (n : Child) (xs ys zs : List Step) → i < length nodes → n ≡ get_or nodes i n
    → ys ≡ xs ++ passed_one h (view n.node.now) ∷ [] → xs ++ passed h (child_views (drop i nodes)) ≡ zs → ys ++ passed h (child_views (drop (i + 1) nodes)) ≡ zs
passed_turn h nodes i n xs ys zs lt is e inv =
    let rest = passed h (child_views (drop (i + 1) nodes)) in
    let joined : (xs ++ passed_one h (view n.node.now) ∷ []) ++ rest ≡ xs ++ passed_one h (view n.node.now) ∷ rest = simp append_assoc in
    ap (λ (ss : List Step). ss ++ rest) e ∙ joined ∙ sym (ap (λ (ns : List Child). xs ++ passed h (child_views ns)) (from_place nodes i n lt is)) ∙ inv

pub passed_end : (h : Holder) (nodes : List Child) (i : ℕ) (xs zs : List Step) → length nodes ≤ i → xs ++ passed h (child_views (drop i nodes)) ≡ zs → xs ≡ zs
passed_end h nodes i xs zs l inv =
    let empty : xs ++ [] ≡ xs = simp append-nil in
    sym empty ∙ sym (ap (λ (ns : List Child). xs ++ passed h (child_views ns)) (drop_all i nodes l)) ∙ inv

-- ---- all of them

-- the slice from a place on
rest_of : {X : Type 0} (nodes : List X) (from : ℕ) → from ≤ length nodes → take (length nodes - from) (drop from nodes) ≡ drop from nodes
rest_of nodes from f =
    let width : length (drop from nodes) ≡ length nodes - from = length-drop from nodes in
    take_all (length nodes - from) (drop from nodes) (omega (arith, width))

pub step_taken : (h : Holder) (old : List Child) (new : List Node) (from n i : ℕ) (u : Node) (xs ys zs : List Step) → from ≤ length old
    → n ≤ length (take (length old - from) (drop from old)) → i < length new → u ≡ get_or new i u
    → xs ++ steps h (child_views (drop from old)) (views (drop i new)) ≡ zs
    → ((us : Trees) → ys ++ steps h (child_views (drop n (take (length old - from) (drop from old)))) us
    ≡ xs ++ steps h (child_views (take (length old - from) (drop from old))) (more (view u) us))
    → (from + n ≤ length old) × (ys ++ steps h (child_views (drop (from + n) old)) (views (drop (i + 1) new)) ≡ zs)
step_taken h old new from n i u xs ys zs f l lt is inv goes =
    let rest = rest_of old from f in
    let width : length (drop from old) ≡ length old - from = length-drop from old in
    let same : length (take (length old - from) (drop from old)) ≡ length (drop from old) = ap length rest in (
      omega (arith, f, l, width, same),
      ap (λ (ns : List Child). ys ++ steps h (child_views ns) (views (drop (i + 1) new))) (sym (drop-drop n from old) ∙ ap (drop n) (sym rest))
          ∙ goes (views (drop (i + 1) new))
          ∙ ap (λ (ns : List Child). xs ++ steps h (child_views ns) (more (view u) (views (drop (i + 1) new)))) rest
          ∙ ap (λ (ns : List Node). xs ++ steps h (child_views (drop from old)) (views ns)) (sym (from_place new i u lt is)) ∙ inv,
    )

pub all_taken : (h : Holder) (old : List Child) (new : List Node) (from i : ℕ) (xs ys zs : List Step) → from ≤ length old → length new ≤ i
    → xs ++ steps h (child_views (drop from old)) (views (drop i new)) ≡ zs → ys ≡ xs ++ passed h (child_views (take (length old - from) (drop from old))) → ys ≡ zs
all_taken h old new from i xs ys zs f l inv e =
    e ∙ ap (λ (ns : List Child). xs ++ passed h (child_views ns)) (rest_of old from f)
    ∙ sym (ap (λ (ns : List Node). xs ++ steps h (child_views (drop from old)) (views ns)) (drop_all i new l)) ∙ inv

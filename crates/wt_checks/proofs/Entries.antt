-- What is compared of a list of nodes, from a place on.
use Rattle.std.proofs.Common.{◌≡◌, ◌≤◌, ◌<◌, ℕ, ◌+◌, true, false, List, [], ◌∷◌, length, drop, get_or, sym, ap, ◌∙◌, arith}
use Rattle.std.specs.Prelude.{if◌then◌else◌}
use Rattle.std.proofs.lemmas.List.{drop_more, at_drop_more}
use Rattle.wt_tree.specs.Kinds.{showing}
use Rattle.wt_tree.specs.View.{views, label_of}
use Rattle.wt_tree.specs.declared.node.Node.{Node, out-Node}
use Rattle.wt_tree.proofs.Views.{view_out}
use Rattle.wt_checks.specs.Unmarked.{Entry, is_compared, entry, entries}
use Rattle.wt_checks.specs.Compared.{ComparedFrom}
use Rattle.std.proofs.lemmas.List.{drop_all}
use Rattle.std.specs.Prelude.{nat_eq}
use Rattle.std.proofs.lemmas.Bool.Decides.{nat_tests}
use Rattle.wt_checks.proofs.Firsts.{if_true, if_false}

abbrev pub entries_of : List Node → List Entry
entries_of ns = entries (views ns)

pub entries_node : (n : Node) (ns : List Node)
    → entries_of (n ∷ ns) ≡ (if is_compared (showing (out-Node n).kind) then entry (label_of (out-Node n)) ∷ entries_of ns else
    entries_of ns)
entries_node n ns = rw (view_out n)

pub compared_here : (ns : List Node) (i : ℕ) (n : Node) → i < length ns → n ≡ get_or ns i n → is_compared (showing (out-Node n).kind) ≡ true
    → entries_of (drop i ns) ≡ entry (label_of (out-Node n)) ∷ entries_of (drop (i + 1) ns)
compared_here ns i n lt is e =
    at_drop_more entries_of ns i n lt ∙ ap (λ m. entries_of (m ∷ drop (i + 1) ns)) (sym is) ∙ entries_node n (drop (i + 1) ns)
    ∙ if_true (is_compared (showing (out-Node n).kind)) (entry (label_of (out-Node n)) ∷ entries_of (drop (i + 1) ns)) (entries_of (drop (i + 1) ns)) e

pub not_compared : (ns : List Node) (i : ℕ) (n : Node) → i < length ns → n ≡ get_or ns i n → is_compared (showing (out-Node n).kind) ≡ false
    → entries_of (drop i ns) ≡ entries_of (drop (i + 1) ns)
not_compared ns i n lt is e =
    at_drop_more entries_of ns i n lt ∙ ap (λ m. entries_of (m ∷ drop (i + 1) ns)) (sym is) ∙ entries_node n (drop (i + 1) ns)
    ∙ if_false (is_compared (showing (out-Node n).kind)) (entry (label_of (out-Node n)) ∷ entries_of (drop (i + 1) ns)) (entries_of (drop (i + 1) ns)) e

-- the node at a place is one
pub one_at : (ns : List Node) (i : ℕ) (m n : Node) → i < length ns → m ≡ get_or ns i m → n ≡ get_or ns i n → m ≡ n
one_at ns i m n lt p q =
    let e : get_or ns i m ∷ drop (i + 1) ns ≡ get_or ns i n ∷ drop (i + 1) ns = sym (drop_more ns i m lt) ∙ drop_more ns i n lt in
    let f : get_or ns i m ≡ get_or ns i n = cc in
    p ∙ f ∙ sym q

pub compared_from_here : (ns : List Node) (from i : ℕ) (n : Node) → i < length ns → n ≡ get_or ns i n
    → is_compared (showing (out-Node n).kind) ≡ true → from ≤ i → entries_of (drop from ns) ≡ entries_of (drop i ns)
    → ComparedFrom ns from i
compared_from_here ns from i n lt is e le same = record {
  later = le;
  within = omega arith;
  same = same;
  first = λ m h q. compared_here ns i m h q (ap (λ (x : Node). is_compared (showing (out-Node x).kind)) (one_at ns i m n lt q is) ∙ e);
}

pub compared_from_end : (ns : List Node) (from i : ℕ) → length ns ≤ i → i ≤ length ns → from ≤ i
    → entries_of (drop from ns) ≡ entries_of (drop i ns) → ComparedFrom ns from (length ns)
compared_from_end ns from i ge le later same =
    let e : i ≡ length ns = omega arith in
    record { later = omega arith; within = omega arith; same = same ∙ ap (λ k. entries_of (drop k ns)) e; first = λ m h q. absurd (omega (arith, h)) }

-- from the end on nothing is compared
pub nothing_left : (ns : List Node) (i : ℕ) → i ≡ length ns → entries_of (drop i ns) ≡ []
nothing_left ns i e = ap entries_of (drop_all i ns (omega arith))

pub test_less : (i n : ℕ) → i < n → nat_eq i n ≡ false
test_less i n lt = grind (arith, nat_tests)

pub test_end : (i n : ℕ) → i ≡ n → nat_eq i n ≡ true
test_end i n e = grind (arith, nat_tests)

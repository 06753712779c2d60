-- The children of an edited node that are what stands in the page, one node of the page at a time.
use Rattle.std.proofs.Common.{◌≡◌, ◌≤◌, ◌<◌, ℕ, ◌+◌, Bool, true, false, Some, None, Option, List, [], ◌∷◌, ◌++◌, length, drop, get_or, refl, sym, ap, ◌∙◌, subst, arith, append_assoc, append-nil, inl, inr}
use Rattle.std.specs.Prelude.{if◌then◌else◌, ◌&&◌, nat_eq}
use Rattle.std.proofs.lemmas.List.{drop_more, drop_all}
use Rattle.std.proofs.lemmas.Option.{slice_get_cases}
use Rattle.wt_tree.specs.Kinds.{showing, is_section}
use Rattle.wt_tree.specs.Opened.{opened, opened_before, all_opened_before}
use Rattle.wt_tree.specs.Tree.{Tree, tree, Trees, none, more}
use Rattle.wt_tree.specs.View.{view, views, label_of}
use Rattle.wt_tree.specs.declared.node.Node.{Node, out-Node}
use Rattle.wt_tree.proofs.Views.{view_out}
use Rattle.wt_checks.specs.Compared.{ComparedFrom, IsBehindSame}
use Rattle.wt_checks.specs.Unmarked.{Entry, is_compared, entry, entries, same_entry, same_entries}
use Rattle.wt_checks.proofs.Entries.{entries_of, nothing_left, test_less, test_end}
use Rattle.wt_checks.proofs.Firsts.{if_true, if_false}

-- ---- what is compared of opened trees

along_by : (c : Bool) (e : Entry) (xs : List Entry) → (if c then e ∷ xs else xs) ≡ (if c then e ∷ [] else []) ++ xs
along_by true e xs = refl
along_by false e xs = refl

mutual
  entries_before : (t : Tree) (us : Trees) → entries (opened_before t us) ≡ entries (opened_before t none) ++ entries us
  entries_before (tree l ts) us = by_section (is_section l.kind) (all_entries_before ts us)
    where
      by_section : (b : Bool) → entries (all_opened_before ts us) ≡ entries (opened ts) ++ entries us
          → entries (if b then all_opened_before ts us else more (tree l ts) us)
          ≡ entries (if b then opened ts else more (tree l ts) none) ++ entries us
      by_section true h = h
      by_section false h = along_by (is_compared (showing l.kind)) (entry l) (entries us)

  all_entries_before : (ts us : Trees) → entries (all_opened_before ts us) ≡ entries (opened ts) ++ entries us
  all_entries_before none us = refl
  all_entries_before (more t ts) us =
      entries_before t (all_opened_before ts us)
      ∙ ap (λ es. entries (opened_before t none) ++ es) (all_entries_before ts us)
      ∙ sym (append_assoc (entries (opened_before t none)) (entries (opened ts)) (entries us))
      ∙ ap (λ es. es ++ entries us) (sym (entries_before t (opened ts)))

-- ---- one node of the page

-- a section's node, and another one
pub opened_section : (n : Node) → is_section (out-Node n).kind ≡ true → opened_before (view n) none ≡ opened (views (out-Node n).children)
opened_section n e =
    ap (λ (t : Tree). opened_before t none) (view_out n)
    ∙ if_true (is_section (out-Node n).kind) (opened (views (out-Node n).children))
    (more (tree (label_of (out-Node n)) (views (out-Node n).children)) none) e

opened_other : (n : Node) → is_section (out-Node n).kind ≡ false
    → opened_before (view n) none ≡ more (tree (label_of (out-Node n)) (views (out-Node n).children)) none
opened_other n e =
    ap (λ (t : Tree). opened_before t none) (view_out n)
    ∙ if_false (is_section (out-Node n).kind) (opened (views (out-Node n).children))
    (more (tree (label_of (out-Node n)) (views (out-Node n).children)) none) e

one_entry : (n : Node) → is_section (out-Node n).kind ≡ false → is_compared (showing (out-Node n).kind) ≡ true
    → entries (opened_before (view n) none) ≡ entry (label_of (out-Node n)) ∷ []
one_entry n e c = ap entries (opened_other n e)
    ∙ if_true (is_compared (showing (out-Node n).kind)) (entry (label_of (out-Node n)) ∷ []) [] c

no_entry : (n : Node) → is_section (out-Node n).kind ≡ false → is_compared (showing (out-Node n).kind) ≡ false
    → entries (opened_before (view n) none) ≡ []
no_entry n e c = ap entries (opened_other n e)
    ∙ if_false (is_compared (showing (out-Node n).kind)) (entry (label_of (out-Node n)) ∷ []) [] c

-- the section's children
pub passed_section : (n : Node) (ms edited : List Node) (from : ℕ) (r : Option ℕ) → is_section (out-Node n).kind ≡ true
    → ms ≡ (out-Node n).children → IsBehindSame (opened (views ms)) edited from r → IsBehindSame (opened_before (view n) none) edited from r
passed_section n ms edited from r e m h =
    subst (λ (ts : Trees). IsBehindSame ts edited from r) (ap (λ ns. opened (views ns)) m ∙ sym (opened_section n e)) h

-- nothing to be compared
pub passed_hidden : (n : Node) (edited : List Node) (from : ℕ) → is_section (out-Node n).kind ≡ false → is_compared (showing (out-Node n).kind) ≡ false
    → from ≤ length edited → IsBehindSame (opened_before (view n) none) edited from (Some from)
passed_hidden n edited from e c le =
    (le, λ rest. ap (λ es. same_entries (es ++ rest) (entries_of (drop from edited))) (no_entry n e c))

-- a node, and the first edited one that is compared
node_entry : (n : Node) (edited : List Node) (from at : ℕ) (rest : List Entry) → is_section (out-Node n).kind ≡ false
    → is_compared (showing (out-Node n).kind) ≡ true → ComparedFrom edited from at
    → same_entries (entries (opened_before (view n) none) ++ rest) (entries_of (drop from edited))
    ≡ same_entries (entry (label_of (out-Node n)) ∷ rest) (entries_of (drop at edited))
node_entry n edited from at rest e c d =
    ap (λ es. same_entries (es ++ rest) (entries_of (drop from edited))) (one_entry n e c)
    ∙ ap (λ es. same_entries (entry (label_of (out-Node n)) ∷ rest) es) d.same

node_pair : (n m : Node) (edited : List Node) (from at : ℕ) (rest : List Entry) → is_section (out-Node n).kind ≡ false
    → is_compared (showing (out-Node n).kind) ≡ true → ComparedFrom edited from at → at < length edited → m ≡ get_or edited at m
    → same_entries (entries (opened_before (view n) none) ++ rest) (entries_of (drop from edited))
    ≡ (same_entry (entry (label_of (out-Node n))) (entry (label_of (out-Node m))) && same_entries rest (entries_of (drop (at + 1) edited)))
node_pair n m edited from at rest e c d lt is =
    node_entry n edited from at rest e c d
    ∙ ap (λ es. same_entries (entry (label_of (out-Node n)) ∷ rest) es) (d.first m lt is)

pub passed_same : (n m : Node) (edited : List Node) (from at : ℕ) → is_section (out-Node n).kind ≡ false
    → is_compared (showing (out-Node n).kind) ≡ true → ComparedFrom edited from at → at < length edited → m ≡ get_or edited at m
    → same_entry (entry (label_of (out-Node n))) (entry (label_of (out-Node m))) ≡ true
    → IsBehindSame (opened_before (view n) none) edited from (Some (at + 1))
passed_same n m edited from at e c d lt is s = (
  omega (arith, lt),
  λ rest. node_pair n m edited from at rest e c d lt is ∙ ap (λ b. b && same_entries rest (entries_of (drop (at + 1) edited))) s,
)

pub passed_other : (n m : Node) (edited : List Node) (from at : ℕ) → is_section (out-Node n).kind ≡ false
    → is_compared (showing (out-Node n).kind) ≡ true → ComparedFrom edited from at → at < length edited → m ≡ get_or edited at m
    → same_entry (entry (label_of (out-Node n))) (entry (label_of (out-Node m))) ≡ false
    → IsBehindSame (opened_before (view n) none) edited from None
passed_other n m edited from at e c d lt is s =
    λ rest. node_pair n m edited from at rest e c d lt is ∙ ap (λ b. b && same_entries rest (entries_of (drop (at + 1) edited))) s

pub passed_end : (n : Node) (edited : List Node) (from at : ℕ) → is_section (out-Node n).kind ≡ false
    → is_compared (showing (out-Node n).kind) ≡ true → ComparedFrom edited from at → length edited ≤ at
    → IsBehindSame (opened_before (view n) none) edited from None
passed_end n edited from at e c d ge =
    λ rest. let within : at ≤ length edited = d.within in
    node_entry n edited from at rest e c d
    ∙ ap (λ es. same_entries (entry (label_of (out-Node n)) ∷ rest) es) (nothing_left edited at (omega (arith, within, ge)))

-- ---- nodes that follow one another

-- The nodes up to one place are passed, and the edited ones up to the other.
abbrev pub PassedUpTo : List Node → List Node → ℕ → ℕ → ℕ → Type 0
PassedUpTo page edited from i at = (rest : List Entry)
    → same_entries (entries (opened (views page)) ++ rest) (entries_of (drop from edited))
    ≡ same_entries (entries (opened (views (drop i page))) ++ rest) (entries_of (drop at edited))

entries_node : (n : Node) (ns : List Node) (rest : List Entry)
    → entries (opened (views (n ∷ ns))) ++ rest ≡ entries (opened_before (view n) none) ++ (entries (opened (views ns)) ++ rest)
entries_node n ns rest =
    ap (λ es. es ++ rest) (entries_before (view n) (opened (views ns)))
    ∙ append_assoc (entries (opened_before (view n) none)) (entries (opened (views ns))) rest

at_node : (page : List Node) (i : ℕ) (n : Node) (rest : List Entry) → i < length page → n ≡ get_or page i n
    → entries (opened (views (drop i page))) ++ rest
    ≡ entries (opened_before (view n) none) ++ (entries (opened (views (drop (i + 1) page))) ++ rest)
at_node page i n rest lt is =
    ap (λ ns. entries (opened (views ns)) ++ rest) (drop_more page i n lt ∙ ap (λ (m : Node). m ∷ drop (i + 1) page) (sym is))
    ∙ entries_node n (drop (i + 1) page) rest

pub passed_more : (page edited : List Node) (from i at to : ℕ) (n : Node) → i < length page → n ≡ get_or page i n
    → PassedUpTo page edited from i at → IsBehindSame (opened_before (view n) none) edited at (Some to) → PassedUpTo page edited from (i + 1) to
passed_more page edited from i at to n lt is p h =
    λ rest. p rest
    ∙ ap (λ es. same_entries es (entries_of (drop at edited))) (at_node page i n rest lt is)
    ∙ h.1 (entries (opened (views (drop (i + 1) page))) ++ rest)

pub passed_none : (page edited : List Node) (from i at : ℕ) (n : Node) → i < length page → n ≡ get_or page i n
    → PassedUpTo page edited from i at → IsBehindSame (opened_before (view n) none) edited at None
    → IsBehindSame (opened (views page)) edited from None
passed_none page edited from i at n lt is p h =
    λ rest. p rest
    ∙ ap (λ es. same_entries es (entries_of (drop at edited))) (at_node page i n rest lt is)
    ∙ h (entries (opened (views (drop (i + 1) page))) ++ rest)

pub passed_all : (page edited : List Node) (from i at : ℕ) → length page ≤ i → at ≤ length edited → PassedUpTo page edited from i at
    → IsBehindSame (opened (views page)) edited from (Some at)
passed_all page edited from i at ge le p =
    (le, λ rest. p rest ∙ ap (λ ns. same_entries (entries (opened (views ns)) ++ rest) (entries_of (drop at edited))) (drop_all i page ge))

-- ---- all children

-- where no edited one is compared any more, both are at the end
all_passed : (ns : List Node) (i j : ℕ) → ComparedFrom ns i j → nat_eq j (length ns) ≡ same_entries [] (entries_of (drop i ns))
all_passed ns i j d =
    elim (slice_get_cases ns j).1 [
      | inl w ↦ test_less j (length ns) w.1 ∙ sym (ap (λ es. same_entries [] es) (d.same ∙ d.first w.0 w.1 (sym w.3)))
      | inr w ↦ let within : j ≤ length ns = d.within in let past : length ns ≤ j = w.0 in let f : j ≡ length ns = omega arith in
          test_end j (length ns) f ∙ sym (ap (λ es. same_entries [] es) (d.same ∙ nothing_left ns j f))
    ]

pub children_same : (ts : Trees) (edited : List Node) (to at : ℕ) → IsBehindSame ts edited 0 (Some to) → ComparedFrom edited to at
    → nat_eq at (length edited) ≡ same_entries (entries ts) (entries (views edited))
children_same ts edited to at h d =
    all_passed edited to at d ∙ sym (h.1 []) ∙ ap (λ es. same_entries es (entries (views edited))) (append-nil (entries ts))

pub children_other : (ts : Trees) (edited : List Node) → IsBehindSame ts edited 0 None
    → false ≡ same_entries (entries ts) (entries (views edited))
children_other ts edited h = sym (h []) ∙ ap (λ es. same_entries es (entries (views edited))) (append-nil (entries ts))

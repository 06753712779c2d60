-- The ends of groups and of nodes that are reached are free cuts, and what a node holds fills it.
use Rattle.std.proofs.Common.{◌≡◌, ℕ, zero, suc, ◌+◌, Bool, true, false, Option, None, Some, List, [], ◌∷◌, ◌++◌, length, refl, sym, ap, ◌∙◌, subst, cond, arith, length-append}
use Rattle.std.specs.Prelude.{slice_get, not, ◌&&◌, ◌||◌}
use Rattle.std.specs.List.{list_all, list_any}
use Rattle.wt_tree.specs.declared.kind.Kind.TheVariants as kind
use Rattle.wt_tree.specs.Kinds.{is_leaf}
use Rattle.wt_span.specs.Items.{Item}
use Rattle.wt_span.specs.Origins.{same_call}
use Rattle.wt_span.specs.Cuts.{call_of_item, is_free}
use Rattle.wt_span.specs.Runs.{runs, IsRun, AreRuns}
use Rattle.wt_span.proofs.RunLaws.{runs_are}
use Rattle.wt_inline.specs.ItemTree.{Head, plain, ItemTree, inner, ItemTrees, nothing, further, tree_items, held_by_all}
use Rattle.wt_annotated.specs.Clean.{is_page, is_body, own_by, is_clean}
use Rattle.wt_annotated.specs.Grouped.{group, GroupedAll, along, Child, is_tied, size_of_all, of_runs, grouped, children}
use Rattle.wt_annotated.specs.Reached.{start_of, size_of, AtFreeCuts, AllAtFreeCuts, Fills, FillFrom}

pub false_true : {X : Type 0} → false ≡ true → X
false_true e = absurd (subst (λ (b : Bool). cond b ⊥ (Unit {0})) e tt)

pub both : (v w : Bool) → (v && w) ≡ true → (v ≡ true) × (w ≡ true)
both true w e = (refl, e)
both false w e = false_true e

not_false : (v : Bool) → not v ≡ false → v ≡ true
not_false true e = refl
not_false false e = false_true (sym e)

abbrev pub FreePlaces : List Item → ℕ → ℕ → ℕ → ℕ → Type 0
FreePlaces all n o i c = (is_free all n ≡ true) × (is_free all (n + o) ≡ true) × (is_free all (n + o + i) ≡ true) × (is_free all (n + o + i + c) ≡ true)

pub clean_places : (all : List Item) (n : ℕ) (h : Head) (opening : List Item) (ts : ItemTrees) (closing : List Item)
    → is_clean all n (inner h opening ts closing) ≡ true
    → FreePlaces all n (length opening) (length (held_by_all ts)) (length closing)
clean_places all n h opening ts closing e =
    let own : Bool = list_all is_page (own_by (is_leaf h.kind) opening (held_by_all ts) closing)
    && (is_body h.kind || list_any is_page (opening ++ (held_by_all ts ++ closing))) in
    let d : Bool = is_free all (n + length opening + length (held_by_all ts) + length closing) in
    let c : Bool = is_free all (n + length opening + length (held_by_all ts)) in
    let b : Bool = is_free all (n + length opening) in
    let one = both (is_free all n) (b && (c && (d && own))) e in
    let two = both b (c && (d && own)) one.1 in
    let three = both c (d && own) two.1 in
    let four = both d own three.1 in
    (one.0, two.0, three.0, four.0)

-- ---- children

-- what is known of a clean child
abbrev pub Stands : List Item → Child → Type 0
Stands all c = (start_of c.whole ≡ c.from) × (size_of c.whole ≡ c.size) × Fills c.whole × AtFreeCuts all c.whole

abbrev pub Chain : List Item → ℕ → List Child → ℕ → Type 0
Chain all i [] j = i ≡ j
Chain all i (c ∷ cs) j = (c.from ≡ i) × (c.clean ≡ true → Stands all c) × Chain all (c.from + c.size) cs j

chain_rest : (all : List Item) (i j : ℕ) (c : Child) (cs others : List Child) → Chain all i (c ∷ cs ++ others) j
    → Chain all (c.from + size_of_all (c ∷ cs)) others j
chain_rest all i j c [] others h =
    let e : c.from + c.size ≡ c.from + (c.size + 0) = omega arith in
    subst (λ (n : ℕ). Chain all n others j) e h.2
chain_rest all i j c (d ∷ ds) others h =
    let s : d.from ≡ c.from + c.size = h.2.0 in
    let e : d.from + size_of_all (d ∷ ds) ≡ c.from + size_of_all (c ∷ d ∷ ds) = omega (arith, s) in
    subst (λ (n : ℕ). Chain all n others j) e (chain_rest all (c.from + c.size) j d ds others h.2)

-- behind a run the cut is free
run_end : (all : List Item) (n j : ℕ) (r others : List Child) → IsRun (is_tied all) r others → Chain all n others j → is_free all j ≡ true
    → is_free all n ≡ true
run_end all n j [] others h k f = absurd h
run_end all n j (c ∷ []) [] h k f = subst (λ (m : ℕ). is_free all m ≡ true) (sym k) f
run_end all n j (c ∷ []) (d ∷ others) h k f = subst (λ (m : ℕ). is_free all m ≡ true) k.0 (not_false (is_free all d.from) h)
run_end all n j (c ∷ d ∷ ds) others h k f = run_end all n j (d ∷ ds) others h.1 k f

abbrev Done : List Item → GroupedAll → ℕ → ℕ → Type 0
Done all gs i j = FillFrom gs i j × AllAtFreeCuts all gs

one_done : (all : List Item) (c : Child) (gs : GroupedAll) (j : ℕ) (v : Bool) → (v ≡ true → Stands all c) → is_free all c.from ≡ true
    → is_free all (c.from + c.size) ≡ true → Done all gs (c.from + c.size) j
    → Done all (along (cond v c.whole (group c.from c.size (further c.tree nothing))) gs) c.from j
one_done all c gs j true g f e d =
    let s : Stands all c = g refl in
    let m : c.from + c.size ≡ start_of c.whole + size_of c.whole = omega (arith, s.0, s.1) in
    ((s.0, s.2, subst (λ (n : ℕ). FillFrom gs n j) m d.0), (s.3, d.1))
one_done all c gs j false g f e d = ((refl, tt, d.0), ((f, e), d.1))

runs_done : (all : List Item) (i j : ℕ) (rs : List (List Child)) (cs : List Child) → AreRuns (is_tied all) rs cs → Chain all i cs j → is_free all i ≡ true
    → is_free all j ≡ true → Done all (of_runs rs) i j
runs_done all i j [] cs h k f e =
    let q : Chain all i [] j = subst (λ (ds : List Child). Chain all i ds j) h k in
    (q, tt)
runs_done all i j ([] ∷ rs) cs h k f e = absurd h.2
runs_done all i j ((c ∷ []) ∷ rs) cs h k f e =
    let l : Chain all i (c ∷ h.0) j = subst (λ (ds : List Child). Chain all i ds j) h.1 k in
    let s : is_free all c.from ≡ true = subst (λ (n : ℕ). is_free all n ≡ true) (sym l.0) f in
    let m : is_free all (c.from + c.size) ≡ true = run_end all (c.from + c.size) j (c ∷ []) h.0 h.2 l.2 e in
    subst (λ (n : ℕ). Done all (of_runs ((c ∷ []) ∷ rs)) n j) l.0
    (one_done all c (of_runs rs) j c.clean l.1 s m (runs_done all (c.from + c.size) j rs h.0 h.3 l.2 m e))
runs_done all i j ((c ∷ d ∷ ds) ∷ rs) cs h k f e =
    let l : Chain all i (c ∷ d ∷ ds ++ h.0) j = subst (λ (es : List Child). Chain all i es j) h.1 k in
    let x : ℕ = c.from + size_of_all (c ∷ d ∷ ds) in
    let r : Chain all x h.0 j = chain_rest all i j c (d ∷ ds) h.0 l in
    let s : is_free all c.from ≡ true = subst (λ (n : ℕ). is_free all n ≡ true) (sym l.0) f in
    let m : is_free all x ≡ true = run_end all x j (c ∷ d ∷ ds) h.0 h.2 r e in
    let rest = runs_done all x j rs h.0 h.3 r m e in
    ((l.0, tt, rest.0), ((s, m), rest.1))

-- ---- trees

pub start_is : (all : List Item) (n : ℕ) (t : ItemTree) → start_of (grouped all n t) ≡ n
start_is all n (inner h o ts c) = refl

pub size_is : (all : List Item) (n : ℕ) (t : ItemTree) → size_of (grouped all n t) ≡ length (tree_items t)
size_is all n (inner h o ts c) = omega (arith, length-append o (held_by_all ts ++ c), length-append (held_by_all ts) c)

mutual
  pub stand : (all : List Item) (n : ℕ) (t : ItemTree) → is_clean all n t ≡ true → Fills (grouped all n t) × AtFreeCuts all (grouped all n t)
  stand all n (inner h o ts c) e =
      let p : FreePlaces all n (length o) (length (held_by_all ts)) (length c) = clean_places all n h o ts c e in
      let cs : List Child = children all (n + length o) ts in
      let d = runs_done all (n + length o) (n + length o + length (held_by_all ts)) (runs (is_tied all) cs) cs (runs_are (is_tied all) cs)
      (chained all (n + length o) ts) p.1 p.2 in
      (d.0, (p.0, p.1, p.2, p.3, d.1))

  pub chained : (all : List Item) (n : ℕ) (ts : ItemTrees) → Chain all n (children all n ts) (n + length (held_by_all ts))
  chained all n nothing = omega arith
  chained all n (further t ts) =
      let e : n + length (tree_items t) + length (held_by_all ts) ≡ n + length (tree_items t ++ held_by_all ts) =
      omega (arith, length-append (tree_items t) (held_by_all ts)) in (
        refl,
        λ q. (start_is all n t, size_is all n t, (stand all n t q).0, (stand all n t q).1),
        subst
            (λ (m : ℕ). Chain all (n + length (tree_items t)) (children all (n + length (tree_items t)) ts) m) e (chained all (n + length (tree_items t)) ts),
      )

-- ---- the body of a page is clean

pub none_after : (all : List Item) → slice_get all (length all) ≡ None
none_after [] = refl
none_after (x ∷ xs) = none_after xs

apart : (o : Option ℕ) → not (same_call o None) ≡ true
apart None = refl
apart (Some k) = refl

before_none : (all : List Item) (n : ℕ) → slice_get all n ≡ None → is_free all n ≡ true
before_none all zero e = refl
before_none all (suc n) e = ap (λ x. not (same_call (call_of_item (slice_get all n)) (call_of_item x))) e ∙ apart (call_of_item (slice_get all n))

end_free : (all : List Item) (n : ℕ) → n ≡ length all → is_free all n ≡ true
end_free all n e = before_none all n (ap (slice_get all) e ∙ none_after all)

pub body_clean : (ts : ItemTrees) → is_clean (tree_items (inner (plain kind.Body) [] ts [])) 0 (inner (plain kind.Body) [] ts []) ≡ true
body_clean ts =
    let all : List Item = held_by_all ts ++ [] in
    let m : 0 + 0 + length (held_by_all ts) ≡ length all = omega (arith, length-append (held_by_all ts) []) in
    let p : is_free all (0 + 0 + length (held_by_all ts)) ≡ true = end_free all (0 + 0 + length (held_by_all ts)) m in
    let k : 0 + 0 + length (held_by_all ts) + 0 ≡ length all = omega (arith, m) in
    let q : is_free all (0 + 0 + length (held_by_all ts) + 0) ≡ true = end_free all (0 + 0 + length (held_by_all ts) + 0) k in
    rw (p, q) refl

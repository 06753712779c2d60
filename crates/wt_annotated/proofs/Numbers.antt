-- The numbers of an annotated tree count the nodes that are reached in preorder.
use Rattle.std.proofs.Common.{◌≡◌, ℕ, zero, suc, ◌+◌, Bool, true, false, List, [], ◌∷◌, ◌++◌, length, refl, sym, ap, subst, ◌∙◌, cond, arith}
use Rattle.std.specs.Prelude.{All, if◌then◌else◌}
use Rattle.std.specs.List.{range_with_len, AllByRecursion}
use Rattle.std.proofs.lemmas.List.FromFn.{length-range_with_len}
use Rattle.std.proofs.lemmas.List.Elements.{All-nil, All-cons}
use Rattle.wt_tree.specs.Kinds.{is_leaf, is_numbered}
use Rattle.wt_tree.specs.Tree.{Tree, tree, Trees, none, more}
use Rattle.wt_tree.specs.Tiling.{is_group, numbers, numbers_of_all, ids, ids_of_all, others, others_of_all, InPreorder}
use Rattle.wt_span.specs.Items.{Item}
use Rattle.wt_span.specs.Origins.{OuterCall}
use Rattle.wt_inline.specs.ItemTree.{ItemTree, inner, ItemTrees, nothing, further}
use Rattle.wt_annotated.specs.Labels.{label_at}
use Rattle.wt_annotated.specs.Numbering.{next_after, count, count_all, with_numbers, all_with_numbers}
use Rattle.wt_annotated.specs.WithoutCalls.{inside_by}
use Rattle.wt_annotated.specs.Grouped.{Grouped, kept, group, GroupedAll, ended, along}
use Rattle.wt_annotated.specs.Annotated.{unplaced, all_unplaced, placed, all_placed}
use Rattle.wt_annotated.proofs.Tiles.{Carried, group_leaf}

-- ---- those that have one

range_join : (n a b : ℕ) → range_with_len n a ++ range_with_len (n + a) b ≡ range_with_len n (a + b)
range_join n zero b =
    let e : n + 0 ≡ n = omega arith in
    let f : 0 + b ≡ b = omega arith in
    ap (λ m. range_with_len m b) e ∙ ap (range_with_len n) (sym f)
range_join n (suc a) b =
    let e : n + suc a ≡ n + 1 + a = omega arith in
    let f : suc a + b ≡ suc (a + b) = omega arith in
    ap (λ m. n ∷ (range_with_len (n + 1) a ++ range_with_len m b)) e
    ∙ ap (λ ms. n ∷ ms) (range_join (n + 1) a b)
    ∙ ap (range_with_len n) (sym f)

numbers_by : (n g : Bool) (next m : ℕ) (ts us : Trees) → numbers_of_all us ≡ range_with_len (if n then next + 1 else next) m
    → (if n then (if n then next else 0) ∷ [] else []) ++ (if g then [] else numbers_of_all (if g then ts else us))
    ≡ range_with_len next ((if n then 1 else 0) + (if g then 0 else m))
numbers_by true true next m ts us e = refl
numbers_by true false next m ts us e = let one : 1 + m ≡ suc m = omega arith in ap (λ ns. next ∷ ns) e ∙ ap (range_with_len next) (sym one)
numbers_by false true next m ts us e = refl
numbers_by false false next m ts us e = let none : 0 + m ≡ m = omega arith in e ∙ ap (range_with_len next) (sym none)

mutual
  numbers_at : (next : ℕ) (t : Tree) → numbers (with_numbers next t) ≡ range_with_len next (count t)
  numbers_at next (tree l ts) = numbers_by (is_numbered l.kind) (is_group l.kind) next (count_all ts) ts (all_with_numbers (next_after l.kind next) ts)
      (all_numbers_at (next_after l.kind next) ts)

  all_numbers_at : (next : ℕ) (ts : Trees) → numbers_of_all (all_with_numbers next ts) ≡ range_with_len next (count_all ts)
  all_numbers_at next none = refl
  all_numbers_at next (more t ts) =
      ap (λ ns. ns ++ numbers_of_all (all_with_numbers (next + count t) ts)) (numbers_at next t)
      ∙ ap (λ ns. range_with_len next (count t) ++ ns) (all_numbers_at (next + count t) ts)
      ∙ range_join next (count t) (count_all ts)

-- ---- all others

abbrev pub AllZero : List ℕ → Type 0
AllZero ns = AllByRecursion (λ n. n ≡ 0) ns

zeros_append : (ms ns : List ℕ) → AllZero ms → AllZero ns → AllZero (ms ++ ns)
zeros_append [] ns p q = q
zeros_append (m ∷ ms) ns p q = (p.0, zeros_append ms ns p.1 q)

zeros_all : (ns : List ℕ) → AllZero ns → All (λ n. n ≡ 0) ns
zeros_all [] h = All-nil (λ n. n ≡ 0)
zeros_all (n ∷ ns) h = All-cons (λ m. m ≡ 0) n ns h.0 (zeros_all ns h.1)

-- no node in a group has a number
abbrev pub NoneBy : Bool → Trees → Type 0 → Type 0
NoneBy true ts rest = AllZero (ids_of_all ts)
NoneBy false ts rest = rest

abbrev mutual
  pub NoneInGroups : Tree → Type 0
  NoneInGroups (tree l ts) = NoneBy (is_group l.kind) ts (AllNoneInGroups ts)

  pub AllNoneInGroups : Trees → Type 0
  AllNoneInGroups none = Unit {0}
  AllNoneInGroups (more t ts) = NoneInGroups t × AllNoneInGroups ts

others_by : (n g : Bool) (next : ℕ) (ts us : Trees) (rest : Type 0) → NoneBy g ts rest → (rest → AllZero (others_of_all us))
    → AllZero ((if n then [] else (if n then next else 0) ∷ []) ++ (if g then ids_of_all (if g then ts else us) else others_of_all (if g then ts else us)))
others_by true true next ts us rest h m = h
others_by true false next ts us rest h m = m h
others_by false true next ts us rest h m = (refl, h)
others_by false false next ts us rest h m = (refl, m h)

mutual
  others_at : (next : ℕ) (t : Tree) → NoneInGroups t → AllZero (others (with_numbers next t))
  others_at next (tree l ts) h =
      others_by (is_numbered l.kind) (is_group l.kind) next ts (all_with_numbers (next_after l.kind next) ts) (AllNoneInGroups ts) h
      (λ q. all_others_at (next_after l.kind next) ts q)

  all_others_at : (next : ℕ) (ts : Trees) → AllNoneInGroups ts → AllZero (others_of_all (all_with_numbers next ts))
  all_others_at next none h = tt
  all_others_at next (more t ts) h =
      zeros_append (others (with_numbers next t)) (others_of_all (all_with_numbers (next + count t) ts)) (others_at next t h.0)
      (all_others_at (next + count t) ts h.1)

zeros_inside : (is : Bool) (ts : Trees) → AllZero (ids_of_all ts) → AllZero (ids_of_all (inside_by is ts))
zeros_inside true ts h = tt
zeros_inside false ts h = h

mutual
  unfolding label_at

  unplaced_zeros : (t : ItemTree) → AllZero (ids (unplaced t))
  unplaced_zeros (inner h opening ts closing) = (refl, zeros_inside (is_leaf h.kind) (all_unplaced ts) (all_unplaced_zeros ts))

  all_unplaced_zeros : (ts : ItemTrees) → AllZero (ids_of_all (all_unplaced ts))
  all_unplaced_zeros nothing = tt
  all_unplaced_zeros (further t ts) = zeros_append (ids (unplaced t)) (ids_of_all (all_unplaced ts)) (unplaced_zeros t) (all_unplaced_zeros ts)

kept_by : (g is : Bool) (us : Trees) → (g ≡ true → is ≡ true) → AllNoneInGroups us → NoneBy g (inside_by is us) (AllNoneInGroups (inside_by is us))
kept_by true true us q h = tt
kept_by true false us q h = absurd (subst (λ (b : Bool). cond b ⊥ (Unit {0})) (q refl) tt)
kept_by false true us q h = tt
kept_by false false us q h = h

mutual
  pub placed_none : (calls : List OuterCall) (carried : Carried) (all : List Item) (g : Grouped) → NoneInGroups (placed calls carried all g)
  placed_none calls carried all (kept h n o i c gs) =
      kept_by (is_group h.kind) (is_leaf h.kind) (all_placed calls carried all gs) (group_leaf h.kind) (all_placed_none calls carried all gs)
  placed_none calls carried all (group n k ts) = all_unplaced_zeros ts

  all_placed_none : (calls : List OuterCall) (carried : Carried) (all : List Item) (gs : GroupedAll) → AllNoneInGroups (all_placed calls carried all gs)
  all_placed_none calls carried all ended = tt
  all_placed_none calls carried all (along g gs) = (placed_none calls carried all g, all_placed_none calls carried all gs)

pub in_preorder : (t : Tree) → NoneInGroups t → InPreorder (with_numbers 1 t)
in_preorder t h =
    let all : numbers (with_numbers 1 t) ≡ range_with_len 1 (count t) = numbers_at 1 t in
    let len : length (numbers (with_numbers 1 t)) ≡ count t = ap length all ∙ length-range_with_len 1 (count t) in
    record { counted = all ∙ ap (range_with_len 1) (sym len); unnumbered = zeros_all (others (with_numbers 1 t)) (others_at 1 t h) }

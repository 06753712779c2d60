-- The numbers of the nodes of a block count up.
use Rattle.std.proofs.Common.{arith, ◌≡◌, ℕ, ◌+◌, ◌<◌, Bool, true, false, List, [], ◌++◌, length, map, refl, sym, ap, ◌∙◌, subst, append-nil, append_assoc}
use Rattle.std.specs.Prelude.{◌&&◌, ◌==◌, not, if◌then◌else◌}
use Rattle.std.proofs.lemmas.Bool.Decides.{nat_tests}
use Rattle.std.proofs.lemmas.List.{map-append}
use Rattle.wt_tree.specs.EditShapes.{edit_shape}
use Rattle.wt_tree.specs.Kinds.{is_leaf, is_numbered}
use Rattle.wt_tree.specs.Source.{flat}
use Rattle.wt_tree.specs.Tiling.{is_group, HasNoGroup, NoneIsGroup}
use Rattle.wt_tree.specs.Tree.{Label, Tree, tree, Trees, none, more, label}
use Rattle.wt_span.specs.Items.{Item}
use Rattle.wt_inline.specs.ItemTree.{ItemTree}
use Rattle.wt_annotated.specs.CutTexts.{cut_texts}
use Rattle.wt_annotated.specs.Numbering.{number_of, next_after, count, count_all, with_id, with_numbers, all_with_numbers}
use Rattle.wt_annotated.specs.WithoutCalls.{placed}
use Rattle.wt_annotated.proofs.CutNumbered.{cut_numbered}
use Rattle.wt_annotated.proofs.CutTexts.{BareInside}
use Rattle.wt_part_laws.specs.Standing.{standing}
use Rattle.wt_original.specs.Kept.{Kept, KeptNode, items, visible, is_delimited, holds_kept, found_at, found_if, found_from, found_in, kept_of, kept_nodes}
use Rattle.wt_original.specs.Numbers.{counts_up}
use Rattle.wt_beside_laws.proofs.BareLeaves.{placed_bare, HasBareLeaves, AllBareLeaves, cut_leaves}
use Rattle.wt_beside_laws.proofs.OwnSigns.{held_if}

-- ---- groups

mutual
  unnumbered : (n : ℕ) (t : Tree) → HasNoGroup (with_numbers n t) → HasNoGroup t
  unnumbered n (tree l ts) h =
      (h.0, all_unnumbered (next_after l.kind n) ts (subst (λ (v : Bool). NoneIsGroup (if v then ts else all_with_numbers (next_after l.kind n) ts)) h.0 h.1))

  all_unnumbered : (n : ℕ) (ts : Trees) → NoneIsGroup (all_with_numbers n ts) → NoneIsGroup ts
  all_unnumbered n none h = tt
  all_unnumbered n (more t ts) h = (unnumbered n t h.0, all_unnumbered (n + count t) ts h.1)

-- ---- one node before those in it

pub one_counts : (v : Bool) (block : Tree) (n : ℕ) (f : KeptNode) (inside : List Kept) (r : Bool) → 0 < n → (label f.node).id ≡ (if v then n else 0)
    → counts_up (if v then n + 1 else n) inside ≡ r → counts_up n (map (kept_of block) (found_if ((if v then n else 0) == 0) f) ++ inside) ≡ r
one_counts true block n f inside r some i e =
    let off : (n == 0) ≡ false = grind (arith, nat_tests, some) in
    let own : ((label f.node).id == n) ≡ true = grind (arith, nat_tests, i) in
    ap (λ (t : Bool). counts_up n (map (kept_of block) (found_if t f) ++ inside)) off
    ∙ ap (λ (t : Bool). t && counts_up (n + 1) inside) own ∙ e
one_counts false block n f inside r some i e = e

-- what is in it: a leaf holds nothing
held_counts : (leaf : Bool) (block : Tree) (l : Label) (m at from : ℕ) (us ts : Trees) (ks : List Kept) → is_leaf l.kind ≡ leaf → us ≡ all_with_numbers m ts
    → (leaf ≡ true → ts ≡ none)
    → (leaf ≡ false → counts_up m (map (kept_of block) (found_in at from (all_with_numbers m ts)) ++ ks) ≡ counts_up (m + count_all ts) ks)
    → counts_up m (map (kept_of block) (if holds_kept l then found_in at from us else []) ++ ks) ≡ counts_up (m + count_all ts) ks
held_counts true block l m at from us ts ks i e none_in f =
    let none_held : holds_kept l ≡ false = ap (λ (v : Bool). not v && is_delimited (edit_shape l.kind).items) i in
    let zero_in : count_all ts ≡ 0 = ap count_all (none_in refl) in
    let z : m ≡ m + count_all ts = omega (arith, zero_in) in
    ap (λ (v : Bool). counts_up m (map (kept_of block) (if v then found_in at from us else []) ++ ks)) none_held
    ∙ ap (λ (k : ℕ). counts_up k ks) z
held_counts false block l m at from us ts ks i e none_in f =
    ap (λ (v : Bool). counts_up m (map (kept_of block) (if v then found_in at from us else []) ++ ks)) (held_if l.kind i)
    ∙ ap (λ (vs : Trees). counts_up m (map (kept_of block) (found_in at from vs) ++ ks)) e
    ∙ f refl

pub joined : (block : Tree) (fs gs : List KeptNode) (ks : List Kept) → map (kept_of block) (fs ++ gs) ++ ks ≡ map (kept_of block) fs ++ (map (kept_of block) gs ++ ks)
joined block fs gs ks =
    ap (λ (ys : List Kept). ys ++ ks) (map-append (kept_of block) fs gs) ∙ append_assoc (map (kept_of block) fs) (map (kept_of block) gs) ks

all_of : (v g : Bool) (n m : ℕ) → g ≡ false → (if v then n + 1 else n) + m ≡ n + ((if v then 1 else 0) + (if g then 0 else m))
all_of true false n m e = omega arith
all_of false false n m e = omega arith
all_of v true n m e = cc

pub next_some : (v : Bool) (n : ℕ) → 0 < n → 0 < (if v then n + 1 else n)
next_some true n some = omega arith
next_some false n some = some

-- a leaf that is no group holds nothing, and what is in another node is so, too
none_inside : (g leaf : Bool) (ts : Trees) → g ≡ false → BareInside g leaf ts (AllBareLeaves ts) → leaf ≡ true → ts ≡ none
none_inside false true ts e b i = b
none_inside false false ts e b i = cc
none_inside true leaf ts e b i = cc

bare_inside : (g leaf : Bool) (ts : Trees) → g ≡ false → BareInside g leaf ts (AllBareLeaves ts) → leaf ≡ false → AllBareLeaves ts
bare_inside false false ts e b i = b
bare_inside false true ts e b i = cc
bare_inside true leaf ts e b i = cc

mutual
  tree_counts : (block : Tree) (n at from : ℕ) (t : Tree) (ks : List Kept) → 0 < n → HasBareLeaves t → HasNoGroup t
      → counts_up n (map (kept_of block) (found_from at from (with_numbers n t)) ++ ks) ≡ counts_up (n + count t) ks
  tree_counts block n at from (tree l ts) ks some b g =
      let m : ℕ = next_after l.kind n in
      let k : Label = with_id (number_of l.kind n) l in
      let us : Trees = if is_group l.kind then ts else all_with_numbers m ts in
      let own : KeptNode = found_at at from (tree k us) in
      let held : List KeptNode = if holds_kept k then found_in (at + length l.opening) (from + length l.opening) us else [] in
      let e : us ≡ all_with_numbers m ts = ap (λ (v : Bool). if v then ts else all_with_numbers m ts) g.0 in
      let inside : counts_up m (map (kept_of block) held ++ ks) ≡ counts_up (m + count_all ts) ks =
      held_counts (is_leaf l.kind) block k m (at + length l.opening) (from + length l.opening) us ts ks refl e
      (λ i. none_inside (is_group l.kind) (is_leaf l.kind) ts g.0 b i)
      (λ i. all_count block m (at + length l.opening) (from + length l.opening) ts ks (next_some (is_numbered l.kind) n some)
      (bare_inside (is_group l.kind) (is_leaf l.kind) ts g.0 b i) g.1) in
      ap (counts_up n) (joined block (found_if (number_of l.kind n == 0) own) held ks)
      ∙ one_counts (is_numbered l.kind) block n own (map (kept_of block) held ++ ks) (counts_up (m + count_all ts) ks) some refl inside
      ∙ ap (λ (i : ℕ). counts_up i ks) (all_of (is_numbered l.kind) (is_group l.kind) n (count_all ts) g.0)

  all_count : (block : Tree) (n at from : ℕ) (ts : Trees) (ks : List Kept) → 0 < n → AllBareLeaves ts → NoneIsGroup ts
      → counts_up n (map (kept_of block) (found_in at from (all_with_numbers n ts)) ++ ks) ≡ counts_up (n + count_all ts) ks
  all_count block n at from none ks some b g = let z : n ≡ n + 0 = omega arith in ap (λ (i : ℕ). counts_up i ks) z
  all_count block n at from (more t ts) ks some b g =
      let u : Tree = with_numbers n t in
      let a : ℕ = at + length (flat u) in
      let f : ℕ = from + length (visible (items u)) in
      let rest : List KeptNode = found_in a f (all_with_numbers (n + count t) ts) in
      let z : n + count t + count_all ts ≡ n + (count t + count_all ts) = omega arith in
      ap (counts_up n) (joined block (found_from at from u) rest ks)
      ∙ tree_counts block n at from t (map (kept_of block) rest ++ ks) some b.0 g.0
      ∙ all_count block (n + count t) a f ts ks (omega (arith, some)) b.1 g.1
      ∙ ap (λ (i : ℕ). counts_up i ks) z

-- ---- a block

counted : (block : Tree) (n : ℕ) (t : Tree) → 0 < n → HasBareLeaves t → HasNoGroup t → counts_up n (map (kept_of block) (found_from 0 0 (with_numbers n t))) ≡ true
counted block n t some b g =
    ap (counts_up n) (sym (append-nil (map (kept_of block) (found_from 0 0 (with_numbers n t))))) ∙ tree_counts block n 0 0 t [] some b g

pub block_counts : (n : ℕ) (before : List Item) (u : ItemTree) → 0 < n → HasNoGroup (standing n before u) → counts_up n (kept_nodes (standing n before u)) ≡ true
block_counts n before u some g =
    let t : Tree = cut_texts (placed before u) in
    let is : standing n before u ≡ with_numbers n t = cut_numbered n (placed before u) (placed_bare before u) in
    subst (λ (b : Tree). counts_up n (kept_nodes b) ≡ true) (sym is)
    (counted (with_numbers n t) n t some (cut_leaves (placed before u) (placed_bare before u)) (unnumbered n t (subst HasNoGroup is g)))

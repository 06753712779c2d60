-- The numbers of the nodes of a block in the page's tree count up, where groups are in it, too.
use Rattle.std.proofs.Common.{arith, ◌≡◌, ℕ, ◌+◌, ◌<◌, Bool, true, false, List, [], ◌++◌, length, map, refl, sym, ap, ◌∙◌, subst, append-nil}
use Rattle.std.specs.Prelude.{◌&&◌, ◌==◌, not, if◌then◌else◌}
use Rattle.wt_tree.specs.EditShapes.{edit_shape}
use Rattle.wt_tree.specs.Kinds.{is_leaf, is_numbered}
use Rattle.wt_tree.specs.Source.{flat}
use Rattle.wt_tree.specs.Tiling.{is_group}
use Rattle.wt_tree.specs.Tree.{Label, Tree, tree, Trees, none, more}
use Rattle.wt_span.specs.Origins.{OuterCall}
use Rattle.wt_inline.specs.ItemTree.{ItemTree, tree_items}
use Rattle.wt_annotated.specs.Annotated.{placed}
use Rattle.wt_annotated.specs.CutTexts.{cut_texts}
use Rattle.wt_annotated.specs.GroupData.{group_data}
use Rattle.wt_annotated.specs.Grouped.{grouped}
use Rattle.wt_annotated.specs.Numbering.{number_of, next_after, count, count_all}
use Rattle.wt_annotated.proofs.Walks.{walk_all}
use Rattle.wt_difference.specs.Unedited.{GroupOr}
use Rattle.wt_original.specs.Kept.{Kept, KeptNode, items, visible, is_delimited, holds_kept, found_at, found_if, found_from, found_in, kept_of, kept_nodes}
use Rattle.wt_original.specs.Numbers.{counts_up}
use Rattle.wt_part_laws.specs.HeldCalls.{block_in}
use Rattle.wt_part_laws.specs.Placeless.{placeless, all_placeless}
use Rattle.wt_typed_blocks.proofs.SentGroups.{as_group}
use Rattle.wt_beside_laws.proofs.BlockNumbers.{one_counts, joined, next_some}
use Rattle.wt_beside_laws.proofs.OwnSigns.{held_if}
use Rattle.wt_called_edit_laws.specs.Settled.{settled_label, settled, all_settled}
use Rattle.wt_called_edit_laws.proofs.BareInsides.{IsBare, AreBare, group_leaf, placed_bare, texts_bare}

-- ---- a leaf of the block holds nothing that has a number

mutual
  placeless_bare : (t : Tree) → IsBare t → IsBare (placeless t)
  placeless_bare (tree l ts) h =
      as_group (is_group l.kind) h (λ e. ap (λ (us : Trees). all_placeless us) e)
      (λ r. (λ e. ap (λ (us : Trees). all_placeless us) (r.0 e), all_placeless_bare ts r.1))

  all_placeless_bare : (ts : Trees) → AreBare ts → AreBare (all_placeless ts)
  all_placeless_bare none h = tt
  all_placeless_bare (more t ts) h = (placeless_bare t h.0, all_placeless_bare ts h.1)

pub block_bare : (calls : List OuterCall) (t : ItemTree) → IsBare (cut_texts (block_in calls t))
block_bare calls t =
    let u : Tree = placed calls (group_data calls) (tree_items t) (grouped (tree_items t) 0 t) in
    texts_bare (block_in calls t)
    (subst (λ (v : Tree). IsBare (placeless v)) (sym (walk_all calls (group_data calls) t))
    (placeless_bare u (placed_bare calls (group_data calls) (tree_items t) (grouped (tree_items t) 0 t))))

-- ---- those in it

sum_of : (v : Bool) (n c : ℕ) → (if v then n + 1 else n) + c ≡ n + ((if v then 1 else 0) + c)
sum_of true n c = omega arith
sum_of false n c = omega arith

leaf_counts : (g leaf : Bool) (ts : Trees) → GroupOr g (all_placeless ts ≡ ts) ((leaf ≡ true → ts ≡ none) × AreBare ts) → leaf ≡ true
    → (if g then 0 else count_all ts) ≡ 0
leaf_counts true leaf ts b e = refl
leaf_counts false leaf ts b e = ap (λ (us : Trees). count_all us) (b.0 e)

-- what is no leaf is no group
by_node : (g leaf : Bool) (ts us : Trees) (P : Trees → ℕ → Type 0) → (g ≡ true → leaf ≡ true) → leaf ≡ false
    → GroupOr g (all_placeless ts ≡ ts) ((leaf ≡ true → ts ≡ none) × AreBare ts) → (AreBare ts → P us (count_all ts))
    → P (if g then ts else us) (if g then 0 else count_all ts)
by_node true leaf ts us P f e b h = let no : true ≡ false = sym (f refl) ∙ e in absurd (cc)
by_node false leaf ts us P f e b h = h b.1

held_counts : (leaf : Bool) (block : Tree) (k : Label) (m n at from : ℕ) (us : Trees) (ks : List Kept) → is_leaf k.kind ≡ leaf → (leaf ≡ true → n ≡ 0)
    → (leaf ≡ false → counts_up m (map (kept_of block) (found_in at from us) ++ ks) ≡ counts_up (m + n) ks)
    → counts_up m (map (kept_of block) (if holds_kept k then found_in at from us else []) ++ ks) ≡ counts_up (m + n) ks
held_counts true block k m n at from us ks i z f =
    let none_held : holds_kept k ≡ false = ap (λ (v : Bool). not v && is_delimited (edit_shape k.kind).items) i in
    let zero_in : n ≡ 0 = z refl in
    let same : m ≡ m + n = omega (arith, zero_in) in
    ap (λ (v : Bool). counts_up m (map (kept_of block) (if v then found_in at from us else []) ++ ks)) none_held
    ∙ ap (λ (j : ℕ). counts_up j ks) same
held_counts false block k m n at from us ks i z f =
    ap (λ (v : Bool). counts_up m (map (kept_of block) (if v then found_in at from us else []) ++ ks)) (held_if k.kind i) ∙ f refl

mutual
  tree_counts : (block : Tree) (n at from x : ℕ) (t : Tree) (ks : List Kept) → 0 < n → IsBare t
      → counts_up n (map (kept_of block) (found_from at from (settled n x t)) ++ ks) ≡ counts_up (n + count t) ks
  tree_counts block n at from x (tree l ts) ks some b =
      let m : ℕ = next_after l.kind n in
      let k : Label = settled_label n x (flat (tree l ts)) l in
      let inside : Trees = all_settled m (x + length l.opening) ts in
      let us : Trees = if is_group l.kind then ts else inside in
      let own : KeptNode = found_at at from (tree k us) in
      let a : ℕ = at + length l.opening in
      let f : ℕ = from + length l.opening in
      let held : List KeptNode = if holds_kept k then found_in a f us else [] in
      let c : ℕ = if is_group l.kind then 0 else count_all ts in
      let counts : counts_up m (map (kept_of block) held ++ ks) ≡ counts_up (m + c) ks =
      held_counts (is_leaf l.kind) block k m c a f us ks refl (leaf_counts (is_group l.kind) (is_leaf l.kind) ts b)
      (λ e. by_node (is_group l.kind) (is_leaf l.kind) ts inside
      (λ vs d. counts_up m (map (kept_of block) (found_in a f vs) ++ ks) ≡ counts_up (m + d) ks) (group_leaf l.kind) e b
      (λ bare. all_count block m a f (x + length l.opening) ts ks (next_some (is_numbered l.kind) n some) bare)) in
      ap (counts_up n) (joined block (found_if (number_of l.kind n == 0) own) held ks)
      ∙ one_counts (is_numbered l.kind) block n own (map (kept_of block) held ++ ks) (counts_up (m + c) ks) some refl counts
      ∙ ap (λ (i : ℕ). counts_up i ks) (sum_of (is_numbered l.kind) n c)

  all_count : (block : Tree) (n at from x : ℕ) (ts : Trees) (ks : List Kept) → 0 < n → AreBare ts
      → counts_up n (map (kept_of block) (found_in at from (all_settled n x ts)) ++ ks) ≡ counts_up (n + count_all ts) ks
  all_count block n at from x none ks some b = let z : n ≡ n + 0 = omega arith in ap (λ (i : ℕ). counts_up i ks) z
  all_count block n at from x (more t ts) ks some b =
      let u : Tree = settled n x t in
      let a : ℕ = at + length (flat u) in
      let f : ℕ = from + length (visible (items u)) in
      let y : ℕ = x + length (flat t) in
      let rest : List KeptNode = found_in a f (all_settled (n + count t) y ts) in
      let z : n + count t + count_all ts ≡ n + (count t + count_all ts) = omega arith in
      ap (counts_up n) (joined block (found_from at from u) rest ks)
      ∙ tree_counts block n at from x t (map (kept_of block) rest ++ ks) some b.0
      ∙ all_count block (n + count t) a f y ts ks (omega (arith, some)) b.1
      ∙ ap (λ (i : ℕ). counts_up i ks) z

pub settled_counts : (n at : ℕ) (t : Tree) → 0 < n → IsBare t → counts_up n (kept_nodes (settled n at t)) ≡ true
settled_counts n at t some b =
    let block : Tree = settled n at t in
    ap (counts_up n) (sym (append-nil (kept_nodes block))) ∙ tree_counts block n 0 0 at t [] some b

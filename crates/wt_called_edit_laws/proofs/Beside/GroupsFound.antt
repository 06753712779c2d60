-- The groups in a block of the page are found by their numbers, wherever they are in it.
use Rattle.std.proofs.Common.{arith, ◌≡◌, ◌≢◌, ℕ, ◌+◌, ◌<◌, Bool, true, false, List, length, refl, sym, ◌∙◌, subst}
use Rattle.std.specs.Prelude.{if◌then◌else◌}
use Rattle.wt_tree.specs.declared.kind.Kind.{Kind}
use Rattle.wt_tree.specs.declared.kind.Kind.TheVariants as kind
use Rattle.wt_tree.specs.Kinds.{is_leaf, is_numbered}
use Rattle.wt_tree.specs.Source.{flat}
use Rattle.wt_tree.specs.Tiling.{is_group}
use Rattle.wt_tree.specs.Tree.{Label, Tree, tree, Trees, none, more, label}
use Rattle.wt_annotated.specs.Numbering.{number_of, next_after, count}
use Rattle.wt_difference.specs.Unedited.{GroupOr}
use Rattle.wt_original.specs.Kept.{Kept, items, visible, found_from, found_in, kept_nodes}
use Rattle.wt_link_spelling.specs.Spelling.{children_of}
use Rattle.wt_typed_blocks.proofs.SentGroups.{in_group}
use Rattle.wt_beside_laws.proofs.BlockNumbers.{next_some}
use Rattle.wt_beside_laws.proofs.OwnSigns.{Every, every_left, every_right, Finds, all_found, own_found, inside_found, held_if}
use Rattle.wt_called_edit_laws.specs.FoundGroups.{HasFoundGroups, HaveFoundGroups}
use Rattle.wt_called_edit_laws.specs.Settled.{settled_label, settled, all_settled}
use Rattle.wt_called_edit_laws.proofs.BareInsides.{IsBare, AreBare}
use Rattle.wt_called_edit_laws.proofs.Beside.Counts.{settled_counts}
use Rattle.wt_called_edit_laws.proofs.Beside.Found.{as_found}

either_way : {A B : Type 0} (b : Bool) → (b ≡ true → A) → (b ≡ false → B) → GroupOr b A B
either_way true f g = f refl
either_way false f g = g refl

-- a group has a number
group_number : (k : Kind) (n : ℕ) → is_group k ≡ true → 0 < n → number_of k n ≢ 0
group_number kind.Group n g some = let own : n ≢ 0 = omega (arith, some) in own
group_number k n g some = absurd (cc)

-- what is in a node that is no group, where it is a leaf or isn't
inside_of : {G : Type 0} (leaf : Bool) (ts : Trees) → ((leaf ≡ true → ts ≡ none) × AreBare ts) → (leaf ≡ true → ts ≡ none → G) → (leaf ≡ false → AreBare ts → G) → G
inside_of true ts b f g = f refl (b.0 refl)
inside_of false ts b f g = g refl b.1

mutual
  settled_groups : (block : Tree) (n x at from : ℕ) (t : Tree) → 0 < n → IsBare t → Every (Finds block) (found_from at from (settled n x t))
      → HasFoundGroups (kept_nodes block) (settled n x t)
  settled_groups block n x at from (tree l ts) some b e =
      let k : Label = settled_label n x (flat (tree l ts)) l in
      let inside : Trees = all_settled (next_after l.kind n) (x + length l.opening) ts in
      let us : Trees = if is_group l.kind then ts else inside in
      either_way (is_group l.kind) (λ g. as_found block at from k us (own_found (Finds block) at from k us (group_number l.kind n g some) e))
      (λ g. subst (λ (v : Bool). HaveFoundGroups (kept_nodes block) (if v then ts else inside)) (sym g)
      (in_group (is_group l.kind) b (λ y z. let no : true ≡ false = sym y ∙ g in absurd (cc))
      (λ y bare. inside_of (is_leaf l.kind) ts bare
      (λ i z. subst (λ (vs : Trees). HaveFoundGroups (kept_nodes block) (all_settled (next_after l.kind n) (x + length l.opening) vs)) (sym z) tt)
      (λ i own. all_settled_groups block (next_after l.kind n) (x + length l.opening) (at + length l.opening) (from + length l.opening) ts
      (next_some (is_numbered l.kind) n some) own
      (subst (λ (v : Bool). Every (Finds block) (found_in (at + length l.opening) (from + length l.opening) (if v then ts else inside))) g
      (inside_found (Finds block) at from k us (held_if l.kind i) e))))))

  all_settled_groups : (block : Tree) (n x at from : ℕ) (ts : Trees) → 0 < n → AreBare ts → Every (Finds block) (found_in at from (all_settled n x ts))
      → HaveFoundGroups (kept_nodes block) (all_settled n x ts)
  all_settled_groups block n x at from none some b e = tt
  all_settled_groups block n x at from (more t ts) some b e =
      let u : Tree = settled n x t in (
        settled_groups block n x at from t some b.0 (every_left (Finds block) (found_from at from u) _ e),
        all_settled_groups block (n + count t) (x + length (flat t)) (at + length (flat u)) (from + length (visible (items u))) ts (omega (arith, some)) b.1
            (every_right (Finds block) (found_from at from u) _ e),
      )

groups_inside : (ks : List Kept) (t : Tree) → is_group (label t).kind ≡ false → HasFoundGroups ks t → HaveFoundGroups ks (children_of t)
groups_inside ks (tree l ts) g h = in_group (is_group l.kind) h (λ y z. let no : true ≡ false = sym y ∙ g in absurd (cc)) (λ y a. a)

-- so it is of a block with its groups, at a place of the page's tree
pub groups_found : (block : Tree) (n x : ℕ) (t : Tree) → 0 < n → IsBare t → block ≡ settled n x t → is_group (label block).kind ≡ false
    → HaveFoundGroups (kept_nodes block) (children_of block)
groups_found block n x t some bare is g =
    let here : Tree = settled n x t in
    let finds : Every (Finds here) (found_from 0 0 here) = all_found here n some (settled_counts n x t some bare) in
    groups_inside (kept_nodes block) block g
    (subst (λ (b : Tree). HasFoundGroups (kept_nodes b) b) (sym is) (settled_groups here n x 0 0 t some bare finds))

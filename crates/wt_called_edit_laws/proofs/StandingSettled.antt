-- A block of a page without calls has the numbers and places that the rest of it leaves, wherever it stands.
use Rattle.std.proofs.Common.{arith, ◌≡◌, ℕ, zero, suc, ◌+◌, Bool, true, false, List, [], ◌∷◌, ◌++◌, length, refl, sym, ap, ap₂, ◌∙◌, subst, append-nil}
use Rattle.std.specs.Prelude.{if◌then◌else◌}
use Rattle.wt_tree.specs.declared.kind.Kind.{Kind}
use Rattle.wt_tree.specs.declared.kind.Kind.TheVariants as kind
use Rattle.wt_tree.specs.Kinds.{writing, is_leaf, is_numbered}
use Rattle.wt_tree.specs.Source.{flat}
use Rattle.wt_tree.specs.Tiling.{is_group}
use Rattle.wt_tree.specs.Tree.{Label, Tree, tree, Trees, none, more, label}
use Rattle.wt_recut.specs.Recut.{is_as_text}
use Rattle.wt_span.specs.Items.{Item, sources}
use Rattle.wt_checks.specs.Kept.{children}
use Rattle.wt_inline.specs.declared.loose.Loose.TheVariants.{Text}
use Rattle.wt_inline.specs.ItemTree.{ItemTree, inner, ItemTrees, nothing, further, forest, tree_items, held_by_all}
use Rattle.wt_inline.specs.Parts.{loose_leaf}
use Rattle.wt_annotated.specs.CutTexts.{cut_texts}
use Rattle.wt_annotated.specs.GroupData.{group_data}
use Rattle.wt_annotated.specs.Labels.{if_inner, label_at}
use Rattle.wt_annotated.specs.Numbering.{number_of, next_after, count, count_all, with_id, with_numbers, all_with_numbers}
use Rattle.wt_annotated.specs.WithoutCalls.{inside_by, placed, all_placed}
use Rattle.wt_annotated.proofs.CutNumbered.{cut_numbered}
use Rattle.wt_annotated.proofs.CutTexts.{leaf_text, BareInside, BareTexts, AllBareTexts}
use Rattle.wt_part_laws.specs.Placeless.{placeless, all_placeless}
use Rattle.wt_part_laws.specs.Standing.{standing}
use Rattle.wt_part_laws.proofs.Moved.{moved}
use Rattle.wt_part_laws.proofs.Sources.{standing_source}
use Rattle.wt_text_edit_laws.specs.LonePages.{page_chars}
use Rattle.wt_text_edit_laws.proofs.Paragraphs.PartTrees.{ArePlain, plain_joined, plain_tree}
use Rattle.wt_text_edit_laws.proofs.Prose.ProseTrees.{blocks_of}
use Rattle.wt_text_edit_laws.proofs.Texts.LoneTrees.{sized}
use Rattle.wt_text_edit_laws.proofs.Texts.TypedNodes.{chars_source}
use Rattle.wt_text_edit_laws.proofs.Texts.TypedShown.{chars_of_page, both_of_page}
use Rattle.wt_called_edit_laws.specs.Settled.{settled, all_settled, IsSettled}
use Rattle.wt_called_edit_laws.proofs.Cells.Equal.{same_first, same_rest}
use Rattle.wt_called_edit_laws.proofs.Settles.{settled_tree}
use Rattle.wt_called_edit_laws.proofs.TextsMake.{flat_same}

-- ---- numbers before texts are cut, or behind

no_closing : (k : Kind) (bs : List ℕ) → is_as_text (writing k) ≡ true → if_inner (is_leaf k) bs ≡ []
no_closing k bs e = ap (λ v. if_inner v bs) (leaf_text k e)

bare_inside : (g leaf : Bool) (us : Trees) → AllBareTexts us → BareInside g leaf (inside_by leaf us) (AllBareTexts (inside_by leaf us))
bare_inside true leaf us h = tt
bare_inside false true us h = refl
bare_inside false false us h = h

mutual
  unfolding label_at

  placed_bare : (b : List Item) (t : ItemTree) → BareTexts (placed b t)
  placed_bare b (inner h o ts c) = (
    no_closing h.kind (sources c),
    bare_inside (is_group h.kind) (is_leaf h.kind) (all_placed (b ++ o) ts) (all_placed_bare (b ++ o) ts),
  )

  all_placed_bare : (b : List Item) (ts : ItemTrees) → AllBareTexts (all_placed b ts)
  all_placed_bare b nothing = tt
  all_placed_bare b (further t ts) = (placed_bare b t, all_placed_bare (b ++ tree_items t) ts)

-- ---- numbers that are given anew

count_by : (g : Bool) (ts us : Trees) → count_all us ≡ count_all ts → (if g then 0 else count_all (if g then ts else us)) ≡ (if g then 0 else count_all ts)
count_by true ts us e = refl
count_by false ts us e = e

mutual
  count_numbered : (m : ℕ) (t : Tree) → count (with_numbers m t) ≡ count t
  count_numbered m (tree l ts) =
      ap (λ (n : ℕ). (if is_numbered l.kind then 1 else 0) + n)
      (count_by (is_group l.kind) ts (all_with_numbers (next_after l.kind m) ts) (all_count_numbered (next_after l.kind m) ts))

  all_count_numbered : (m : ℕ) (ts : Trees) → count_all (all_with_numbers m ts) ≡ count_all ts
  all_count_numbered m none = refl
  all_count_numbered m (more t ts) = ap₂ (λ (i j : ℕ). i + j) (count_numbered m t) (all_count_numbered (m + count t) ts)

mutual
  count_settled : (m at : ℕ) (t : Tree) → count (settled m at t) ≡ count t
  count_settled m at (tree l ts) =
      ap (λ (n : ℕ). (if is_numbered l.kind then 1 else 0) + n)
      (count_by (is_group l.kind) ts (all_settled (next_after l.kind m) (at + length l.opening) ts)
      (all_count_settled (next_after l.kind m) (at + length l.opening) ts))

  all_count_settled : (m at : ℕ) (ts : Trees) → count_all (all_settled m at ts) ≡ count_all ts
  all_count_settled m at none = refl
  all_count_settled m at (more t ts) =
      ap₂ (λ (i j : ℕ). i + j) (count_settled m at t) (all_count_settled (m + count t) (at + length (flat t)) ts)

-- of a group, or of another node
twice_by : (g : Bool) (ts us vs : Trees) (f : Trees → Trees) → f us ≡ vs → (if g then (if g then ts else us) else f (if g then ts else us)) ≡ (if g then ts else vs)
twice_by true ts us vs f e = refl
twice_by false ts us vs f e = e

mutual
  twice : (n m : ℕ) (t : Tree) → with_numbers n (with_numbers m t) ≡ with_numbers n t
  twice n m (tree l ts) =
      ap (tree (with_id (number_of l.kind n) l))
      (twice_by (is_group l.kind) ts (all_with_numbers (next_after l.kind m) ts) (all_with_numbers (next_after l.kind n) ts)
      (λ us. all_with_numbers (next_after l.kind n) us) (all_twice (next_after l.kind n) (next_after l.kind m) ts))

  all_twice : (n m : ℕ) (ts : Trees) → all_with_numbers n (all_with_numbers m ts) ≡ all_with_numbers n ts
  all_twice n m none = refl
  all_twice n m (more t ts) =
      ap₂ more (twice n m t)
      (ap (λ (k : ℕ). all_with_numbers (n + k) (all_with_numbers (m + count t) ts)) (count_numbered m t) ∙ all_twice (n + count t) (m + count t) ts)

mutual
  resettled : (n m at : ℕ) (t : Tree) → with_numbers n (settled m at t) ≡ settled n at t
  resettled n m at (tree l ts) =
      ap (tree (with_id (number_of l.kind n) (label (settled m at (tree l ts)))))
      (twice_by (is_group l.kind) ts (all_settled (next_after l.kind m) (at + length l.opening) ts) (all_settled (next_after l.kind n) (at + length l.opening) ts)
      (λ us. all_with_numbers (next_after l.kind n) us) (all_resettled (next_after l.kind n) (next_after l.kind m) (at + length l.opening) ts))

  all_resettled : (n m at : ℕ) (ts : Trees) → all_with_numbers n (all_settled m at ts) ≡ all_settled n at ts
  all_resettled n m at none = refl
  all_resettled n m at (more t ts) =
      let from : ℕ = at + length (flat t) in
      ap₂ more (resettled n m at t)
      (ap (λ (k : ℕ). all_with_numbers (n + k) (all_settled (m + count t) from ts)) (count_settled m at t)
      ∙ all_resettled (n + count t) (m + count t) from ts)

-- a block with another number
renumbered : (n m : ℕ) (b : List Item) (u : ItemTree) → standing n b u ≡ with_numbers n (standing m b u)
renumbered n m b u =
    let t : Tree = cut_texts (placed b u) in
    cut_numbered n (placed b u) (placed_bare b u) ∙ sym (twice n m t) ∙ ap (with_numbers n) (sym (cut_numbered m (placed b u) (placed_bare b u)))

-- ---- on a page by itself, behind characters or at the page's start

body_settles : (ts : List ItemTree) → ArePlain ts → blocks_of 1 [] ts ≡ all_settled 1 0 (all_placeless (blocks_of 1 [] ts))
body_settles ts h =
    let l : Label = sized kind.Body 0 (held_by_all (forest ts) ++ []) [] [] in
    let so : IsSettled (tree l (blocks_of 1 [] ts)) = subst IsSettled (plain_tree ts h) (settled_tree [] (group_data []) (forest ts)) in
    ap children so

abbrev front_leaf : ℕ → List ℕ → ItemTree
front_leaf b bs = loose_leaf Text (page_chars (b ∷ bs))

front_plain : (b : ℕ) (bs : List ℕ) → ArePlain (front_leaf b bs ∷ [])
front_plain b bs =
    let xs : List Item = page_chars (b ∷ bs) in
    record {
      of_page = both_of_page ((xs ++ []) ++ []) [] (both_of_page (xs ++ []) [] (both_of_page xs [] (chars_of_page (b ∷ bs)) refl) refl) refl;
      none_empty = (refl, tt, tt);
    }

front_source : (b : ℕ) (bs : List ℕ) → flat (placeless (standing 1 [] (front_leaf b bs))) ≡ b ∷ bs
front_source b bs = flat_same (standing 1 [] (front_leaf b bs)) ∙ standing_source 1 [] (front_leaf b bs) ∙ chars_source (b ∷ bs)

behind_front : (b : ℕ) (bs : List ℕ) (u : ItemTree) → ArePlain (u ∷ [])
    → standing 1 (page_chars (b ∷ bs)) u ≡ settled 1 (length (b ∷ bs)) (placeless (standing 1 (page_chars (b ∷ bs)) u))
unfolding label_at
behind_front b bs u h =
    let leaf : ItemTree = front_leaf b bs in
    let xs : List Item = page_chars (b ∷ bs) in
    let first : Tree = standing 1 [] leaf in
    let own : Tree = standing 1 (xs ++ []) u in
    let size : length (flat (placeless first)) ≡ length (b ∷ bs) = ap length (front_source b bs) in
    let at : 0 + length (flat (placeless first)) ≡ length (b ∷ bs) = omega (arith, size) in
    let all : more first (more own none)
    ≡ more (settled 1 0 (placeless first)) (more (settled 1 (0 + length (flat (placeless first))) (placeless own)) none) =
    body_settles (leaf ∷ u ∷ []) (plain_joined (leaf ∷ []) (u ∷ []) (front_plain b bs) h) in
    let rest = same_rest first (settled 1 0 (placeless first)) (more own none) (more (settled 1 (0 + length (flat (placeless first))) (placeless own)) none) all in
    let is : own ≡ settled 1 (0 + length (flat (placeless first))) (placeless own) =
    same_first own (settled 1 (0 + length (flat (placeless first))) (placeless own)) none none rest in
    subst (λ (t : Tree). t ≡ settled 1 (length (b ∷ bs)) (placeless t)) (ap (λ (ys : List Item). standing 1 ys u) (append-nil xs))
    (is ∙ ap (λ (n : ℕ). settled 1 n (placeless own)) at)

-- so many characters
abbrev pub some_bytes : ℕ → List ℕ
some_bytes zero = []
some_bytes (suc n) = 32 ∷ some_bytes n

abbrev pub some_items : ℕ → List Item
some_items n = page_chars (some_bytes n)

some_length : (n : ℕ) → length (some_bytes n) ≡ n
some_length zero = refl
some_length (suc n) = let z = some_length n in omega (arith, z)

behind_some : (at : ℕ) (u : ItemTree) → ArePlain (u ∷ []) → standing 1 (some_items at) u ≡ settled 1 at (placeless (standing 1 (some_items at) u))
behind_some zero u h =
    same_first (standing 1 [] u) (settled 1 0 (placeless (standing 1 [] u))) none none (body_settles (u ∷ []) h)
behind_some (suc n) u h =
    behind_front 32 (some_bytes n) u h ∙ ap (λ (k : ℕ). settled 1 k (placeless (standing 1 (some_items (suc n)) u))) (some_length (suc n))

-- ---- with any number

pub standing_settled : (n at : ℕ) (u : ItemTree) → ArePlain (u ∷ []) → standing n (some_items at) u ≡ settled n at (placeless (standing 0 [] u))
standing_settled n at u h =
    renumbered n 1 (some_items at) u
    ∙ ap (with_numbers n) (behind_some at u h)
    ∙ resettled n 1 at (placeless (standing 1 (some_items at) u))
    ∙ ap (settled n at) (moved 1 0 (some_items at) [] u)

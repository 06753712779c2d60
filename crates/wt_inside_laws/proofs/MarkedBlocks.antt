-- Of the marked blocks of a page: the nodes in each are found by their numbers, in the block and in the page, and its groups are numbered.
use Rattle.std.proofs.Common.{arith, ◌≡◌, ◌≢◌, ◌<◌, ◌+◌, ℕ, Bool, true, false, List, [], ◌∷◌, ◌++◌, map, length, refl, sym, ap, ◌∙◌, subst, inl, inr}
use Rattle.std.specs.Prelude.{◌==◌, ◌||◌, not, if◌then◌else◌, filter, Option, Some, None}
use Rattle.std.specs.List.{AllByRecursion, flat_map}
use Rattle.std.proofs.lemmas.Bool.Decides.{Decides-eqb, nat_tests}
use Rattle.std.proofs.lemmas.List.{map-append}
use Rattle.std.proofs.lemmas.List.Elements.{filter-append}
use Rattle.wt_span.specs.Origins.{Expanded}
use Rattle.wt_names.proofs.Cuts.{differs}
use Rattle.wt_tree.specs.declared.kind.Kind.{Kind}
use Rattle.wt_tree.specs.declared.kind.Kind.TheVariants as kind
use Rattle.wt_tree.specs.EditShapes.{edit_shape}
use Rattle.wt_tree.specs.Kinds.{is_leaf, is_section}
use Rattle.wt_tree.specs.Opened.{opened_before, all_opened_before, without_sections}
use Rattle.wt_tree.specs.Source.{flat}
use Rattle.wt_tree.specs.Tiling.{is_group, ids, ids_of_all}
use Rattle.wt_tree.specs.Tree.{Tree, tree, Trees, none, more, label}
use Rattle.wt_original.specs.Kept.{Kept, KeptNode, items, visible, kept_with, first_with, kept_of, kept_nodes, holds_kept, found_at, found_if, found_from, found_in}
use Rattle.wt_original.specs.Page.{TellsSame}
use Rattle.wt_original.proofs.Numbers.{pass, stop}
use Rattle.wt_link_spelling.specs.Spelling.{children_of}
use Rattle.wt_checks.specs.Kept.{IsSublist}
use Rattle.wt_checks.specs.Places.{Place, placed, all_placed, places, number, kind_at, is_kept, is_body, is_content, Page as Nodes, page_of, parent_below}
use Rattle.wt_checks.proofs.EditedIsPage.{body_is}
use Rattle.wt_checks.proofs.Found.{Itself, each_itself, found_has, found_root, body_no_group}
use Rattle.wt_checks.proofs.InOrder.{Above, Increasing, sublist_increasing}
use Rattle.wt_checks.proofs.Lookups.{each_split, each_join}
use Rattle.wt_checks.proofs.WhatIsKept.{increasing}
use Rattle.wt_selser.specs.Leaves.{LeavesHoldNoNumber, AllLeavesHoldNoNumber}
use Rattle.wt_slices.specs.Changes.{Pair, pair_with, is_edited, pair_at, marked}
use Rattle.wt_typed_blocks.proofs.EditedKept.{more_sublist}
use Rattle.wt_typed_blocks.proofs.SentGroups.{in_group, no_group}
use Rattle.wt_beside_laws.proofs.OwnSigns.{Every, Finds}
use Rattle.wt_called_edit_laws.specs.SentAsIs.{IsNumberedGroup, HasNumberedGroups, HaveNumberedGroups}
use Rattle.wt_called_edit_laws.proofs.Cells.SentAsIs.{page_numbered}
use Rattle.wt_inside_laws.specs.AsSent.{IsPlainPage, IsAlike}
use Rattle.wt_inside_laws.specs.RetypedPieces.{AreRead}
use Rattle.wt_inside_laws.specs.TextEdits.{takes_text, IsRetyped}
use Rattle.wt_inside_laws.proofs.AlikeContents.{retyped_alike}
use Rattle.wt_inside_laws.proofs.Groups.{either_way, inner_numbered, block_ungrouped}
use Rattle.wt_inside_laws.proofs.OwnShown.{IsThere}

-- ---- the numbers in a block are some of those at its places

abbrev found_numbers : List KeptNode → List ℕ
found_numbers fs = map (λ f. (label f.node).id) fs

abbrev kept_numbers : List Place → List ℕ
kept_numbers ps = map number (filter is_kept ps)

both_sublists : (xs ys us vs : List ℕ) → IsSublist xs us → IsSublist ys vs → IsSublist (xs ++ ys) (us ++ vs)
both_sublists [] ys us vs h k = more_sublist ys us vs k
both_sublists (x ∷ xs) ys [] vs h k = absurd h
both_sublists (x ∷ xs) ys (u ∷ us) vs (inl h) k = inl (h.0, both_sublists xs ys us vs h.1 k)
both_sublists (x ∷ xs) ys (u ∷ us) vs (inr h) k = inr (both_sublists (x ∷ xs) ys us vs h k)

own_numbers : (b : Bool) (f : KeptNode) (p : Place) (fs : List KeptNode) (ps : List Place) → (label f.node).id ≡ number p
    → IsSublist (found_numbers fs) (kept_numbers ps) → IsSublist (found_numbers (found_if b f ++ fs)) (map number (if not b then p ∷ filter is_kept ps else filter is_kept ps))
own_numbers true f p fs ps e h = h
own_numbers false f p fs ps e h = inl (e, h)

held_numbers : (b : Bool) (fs : List KeptNode) (ns : List ℕ) → IsSublist (found_numbers fs) ns → IsSublist (found_numbers (if b then fs else [])) ns
held_numbers true fs ns h = h
held_numbers false fs ns h = tt

mutual
  some_numbers : (i at from : ℕ) (v : Bool) (t : Tree) → IsSublist (found_numbers (found_from at from t)) (kept_numbers (placed i v t))
  some_numbers i at from v (tree l ts) =
      own_numbers (l.id == 0) (found_at at from (tree l ts)) (record { node = tree l ts; parent = i; in_content = v })
      (if holds_kept l then found_in (at + length l.opening) (from + length l.opening) ts else [])
      (all_placed (parent_below i l.id) (v || is_content l.mark) ts) refl
      (held_numbers (holds_kept l) (found_in (at + length l.opening) (from + length l.opening) ts)
      (kept_numbers (all_placed (parent_below i l.id) (v || is_content l.mark) ts))
      (all_numbers (parent_below i l.id) (at + length l.opening) (from + length l.opening) (v || is_content l.mark) ts))

  all_numbers : (i at from : ℕ) (v : Bool) (ts : Trees) → IsSublist (found_numbers (found_in at from ts)) (kept_numbers (all_placed i v ts))
  all_numbers i at from v none = tt
  all_numbers i at from v (more t ts) =
      let rest : List KeptNode = found_in (at + length (flat t)) (from + length (visible (items t))) ts in
      subst (λ (xs : List ℕ). IsSublist xs (kept_numbers (placed i v t ++ all_placed i v ts))) (sym (map-append (λ (f : KeptNode). (label f.node).id) (found_from at from t) rest))
      (subst (λ (xs : List ℕ). IsSublist (found_numbers (found_from at from t) ++ found_numbers rest) xs)
      (sym (ap (map number) (filter-append is_kept (placed i v t) (all_placed i v ts)) ∙ map-append number (filter is_kept (placed i v t)) (filter is_kept (all_placed i v ts))))
      (both_sublists (found_numbers (found_from at from t)) (found_numbers rest) (kept_numbers (placed i v t)) (kept_numbers (all_placed i v ts))
      (some_numbers i at from v t) (all_numbers i (at + length (flat t)) (from + length (visible (items t))) v ts)))

-- ---- so each is found

not_zero : (n : ℕ) → (n == 0) ≡ false → n ≢ 0
not_zero n e z = let h : (n == 0) ≡ true = grind (arith, nat_tests) in absurd (cc)

abbrev HasNumber : KeptNode → Type 0
HasNumber f = (label f.node).id ≢ 0

every_join : {A : Type 0} (P : A → Type 0) (xs ys : List A) → Every P xs → Every P ys → Every P (xs ++ ys)
every_join P [] ys h k = k
every_join P (x ∷ xs) ys h k = (h.0, every_join P xs ys h.1 k)

own_number : (b : Bool) (f : KeptNode) → ((label f.node).id == 0) ≡ b → Every HasNumber (found_if b f)
own_number true f e = tt
own_number false f e = (not_zero (label f.node).id e, tt)

held_found : (b : Bool) (fs : List KeptNode) → Every HasNumber fs → Every HasNumber (if b then fs else [])
held_found true fs h = h
held_found false fs h = tt

mutual
  have_number : (at from : ℕ) (t : Tree) → Every HasNumber (found_from at from t)
  have_number at from (tree l ts) =
      every_join HasNumber (found_if (l.id == 0) (found_at at from (tree l ts)))
      (if holds_kept l then found_in (at + length l.opening) (from + length l.opening) ts else []) (own_number (l.id == 0) (found_at at from (tree l ts)) refl)
      (held_found (holds_kept l) (found_in (at + length l.opening) (from + length l.opening) ts) (all_have_number (at + length l.opening) (from + length l.opening) ts))

  all_have_number : (at from : ℕ) (ts : Trees) → Every HasNumber (found_in at from ts)
  all_have_number at from none = tt
  all_have_number at from (more t ts) =
      every_join HasNumber (found_from at from t) (found_in (at + length (flat t)) (from + length (visible (items t))) ts) (have_number at from t)
      (all_have_number (at + length (flat t)) (from + length (visible (items t))) ts)

abbrev IsFirst : Tree → List KeptNode → KeptNode → Type 0
IsFirst block fs f = first_with (label f.node).id (map (kept_of block) fs) ≡ Some (kept_of block f)

later : (block : Tree) (f : KeptNode) (all fs : List KeptNode) → Above (label f.node).id (found_numbers fs) → Every (IsFirst block all) fs
    → Every (IsFirst block (f ∷ all)) fs
later block f all [] a h = tt
later block f all (g ∷ fs) a h =
    let other : (label f.node).id ≢ (label g.node).id = omega (arith, a.0) in
    (pass (label g.node).id (kept_of block f) (map (kept_of block) all) other ∙ h.0, later block f all fs a.1 h.1)

each_first : (block : Tree) (fs : List KeptNode) → Increasing (found_numbers fs) → Every (IsFirst block fs) fs
each_first block [] h = tt
each_first block (f ∷ fs) h =
    (stop (label f.node).id (kept_of block f) (map (kept_of block) fs) refl, later block f fs fs h.0 (each_first block fs h.1))

with_number : (n : ℕ) (ks : List Kept) → n ≢ 0 → kept_with n ks ≡ first_with n ks
unfolding kept_with
with_number n ks h = ap (λ (b : Bool). if b then None else first_with n ks) (differs n 0 h)

found_so : (block : Tree) (all fs : List KeptNode) → kept_nodes block ≡ map (kept_of block) all → Every HasNumber fs → Every (IsFirst block all) fs
    → Every (Finds block) fs
found_so block all [] e n h = tt
found_so block all (f ∷ fs) e n h = (
  with_number (label f.node).id (kept_nodes block) n.0 ∙ ap (first_with (label f.node).id) e ∙ h.0,
  found_so block all fs e n.1 h.1,
)

all_find : (block : Tree) → Increasing (found_numbers (found_from 0 0 block)) → Every (Finds block) (found_from 0 0 block)
all_find block h =
    found_so block (found_from 0 0 block) (found_from 0 0 block) refl (have_number 0 0 block) (each_first block (found_from 0 0 block) h)

-- ---- each node of a page

increasing_parts : (xs ys : List ℕ) → Increasing (xs ++ ys) → Increasing xs × Increasing ys
increasing_parts [] ys h = (tt, h)
increasing_parts (x ∷ xs) ys h =
    let a = each_split (λ k. x < k) xs ys h.0 in
    let r = increasing_parts xs ys h.1 in
    ((a.0, r.0), r.1)

increasing_rest : (b : Bool) (p : Place) (ps : List Place) → Increasing (map number (if b then p ∷ ps else ps)) → Increasing (map number ps)
increasing_rest true p ps h = h.1
increasing_rest false p ps h = h

abbrev Counts : Place → Type 0
Counts q = Increasing (kept_numbers (placed q.parent q.in_content q.node))

mutual
  each_counts : (i : ℕ) (v : Bool) (t : Tree) → Increasing (kept_numbers (placed i v t)) → AllByRecursion Counts (placed i v t)
  each_counts i v (tree l ts) h = (
    h,
    all_count (parent_below i l.id) (v || is_content l.mark) ts
        (increasing_rest (not (l.id == 0)) (record { node = tree l ts; parent = i; in_content = v })
        (filter is_kept (all_placed (parent_below i l.id) (v || is_content l.mark) ts)) h),
  )

  all_count : (i : ℕ) (v : Bool) (ts : Trees) → Increasing (kept_numbers (all_placed i v ts)) → AllByRecursion Counts (all_placed i v ts)
  all_count i v none h = tt
  all_count i v (more t ts) h =
      let s = increasing_parts (kept_numbers (placed i v t)) (kept_numbers (all_placed i v ts))
      (subst Increasing (ap (map number) (filter-append is_kept (placed i v t) (all_placed i v ts))
      ∙ map-append number (filter is_kept (placed i v t)) (filter is_kept (all_placed i v ts))) h) in
      each_join Counts (placed i v t) (all_placed i v ts) (each_counts i v t s.0) (all_count i v ts s.1)

-- the nodes at its places are found, too
abbrev AreFound : Nodes → Place → Type 0
AreFound page q = AllByRecursion (Itself page) (placed q.parent q.in_content q.node)

mutual
  each_found : (page : Nodes) (i : ℕ) (v : Bool) (t : Tree) → AllByRecursion (Itself page) (placed i v t) → AllByRecursion (AreFound page) (placed i v t)
  each_found page i v (tree l ts) h = (h, all_are_found page (parent_below i l.id) (v || is_content l.mark) ts h.1)

  all_are_found : (page : Nodes) (i : ℕ) (v : Bool) (ts : Trees) → AllByRecursion (Itself page) (all_placed i v ts)
      → AllByRecursion (AreFound page) (all_placed i v ts)
  all_are_found page i v none h = tt
  all_are_found page i v (more t ts) h =
      let s = each_split (Itself page) (placed i v t) (all_placed i v ts) h in
      each_join (AreFound page) (placed i v t) (all_placed i v ts) (each_found page i v t s.0) (all_are_found page i v ts s.1)

-- so each kept node of a block is there in the page
own_there : (page : Nodes) (b : Bool) (f : KeptNode) (q : Place) → ((label f.node).id == 0) ≡ b → q.node ≡ f.node → Itself page q
    → Every (IsThere page) (found_if b f)
own_there page true f q e n it = tt
own_there page false f q e n it =
    let same : number q ≡ (label f.node).id = ap (λ (t : Tree). (label t).id) n in
    let kept : is_kept q ≡ true = ap (λ (i : ℕ). not (i == 0)) same ∙ ap not e in
    ((q, ap page (sym same) ∙ it kept, n), tt)

held_there : (page : Nodes) (b : Bool) (fs : List KeptNode) → Every (IsThere page) fs → Every (IsThere page) (if b then fs else [])
held_there page true fs h = h
held_there page false fs h = tt

mutual
  node_there : (page : Nodes) (i at from : ℕ) (v : Bool) (t : Tree) → AllByRecursion (Itself page) (placed i v t)
      → Every (IsThere page) (found_from at from t)
  node_there page i at from v (tree l ts) h =
      every_join (IsThere page) (found_if (l.id == 0) (found_at at from (tree l ts)))
      (if holds_kept l then found_in (at + length l.opening) (from + length l.opening) ts else [])
      (own_there page (l.id == 0) (found_at at from (tree l ts)) (record { node = tree l ts; parent = i; in_content = v }) refl refl h.0)
      (held_there page (holds_kept l) (found_in (at + length l.opening) (from + length l.opening) ts)
      (nodes_there page (parent_below i l.id) (at + length l.opening) (from + length l.opening) (v || is_content l.mark) ts h.1))

  nodes_there : (page : Nodes) (i at from : ℕ) (v : Bool) (ts : Trees) → AllByRecursion (Itself page) (all_placed i v ts)
      → Every (IsThere page) (found_in at from ts)
  nodes_there page i at from v none h = tt
  nodes_there page i at from v (more t ts) h =
      let s = each_split (Itself page) (placed i v t) (all_placed i v ts) h in
      every_join (IsThere page) (found_from at from t) (found_in (at + length (flat t)) (from + length (visible (items t))) ts)
      (node_there page i at from v t s.0) (nodes_there page i (at + length (flat t)) (from + length (visible (items t))) v ts s.1)

-- ---- groups and leaves of a page

-- what is in a group has no number
mutual
  one_unkept : (i : ℕ) (v : Bool) (t : Tree) → AllByRecursion (λ n. n ≡ 0) (ids t) → AllByRecursion (λ q. is_kept q ≡ false) (placed i v t)
  one_unkept i v (tree l ts) h =
      (ap (λ (n : ℕ). not (n == 0)) h.0, all_unkept (parent_below i l.id) (v || is_content l.mark) ts h.1)

  pub all_unkept : (i : ℕ) (v : Bool) (ts : Trees) → AllByRecursion (λ n. n ≡ 0) (ids_of_all ts) → AllByRecursion (λ q. is_kept q ≡ false) (all_placed i v ts)
  all_unkept i v none h = tt
  all_unkept i v (more t ts) h =
      let s = each_split (λ n. n ≡ 0) (ids t) (ids_of_all ts) h in
      each_join (λ q. is_kept q ≡ false) (placed i v t) (all_placed i v ts) (one_unkept i v t s.0) (all_unkept i v ts s.1)

-- the groups in a kept node are numbered
abbrev HasThem : Place → Type 0
HasThem q = is_kept q ≡ true → HasNumberedGroups q.node

unkept_has : (qs : List Place) → AllByRecursion (λ q. is_kept q ≡ false) qs → AllByRecursion HasThem qs
unkept_has [] h = tt
unkept_has (q ∷ qs) h = ((λ k. let x : true ≡ false = sym k ∙ h.0 in absurd (cc)), unkept_has qs h.1)

mutual
  each_has : (i : ℕ) (v : Bool) (t : Tree) → HasNumberedGroups t → AllByRecursion HasThem (placed i v t)
  each_has i v (tree l ts) h = (
    λ k. h,
    in_group (is_group l.kind) h
        (λ e g. unkept_has (all_placed (parent_below i l.id) (v || is_content l.mark) ts) (all_unkept (parent_below i l.id) (v || is_content l.mark) ts g.unnumbered))
        (λ e a. all_have (parent_below i l.id) (v || is_content l.mark) ts a),
  )

  all_have : (i : ℕ) (v : Bool) (ts : Trees) → HaveNumberedGroups ts → AllByRecursion HasThem (all_placed i v ts)
  all_have i v none h = tt
  all_have i v (more t ts) h = each_join HasThem (placed i v t) (all_placed i v ts) (each_has i v t h.0) (all_have i v ts h.1)

mutual
  each_leaf : (i : ℕ) (v : Bool) (t : Tree) → LeavesHoldNoNumber t → AllByRecursion (λ q. LeavesHoldNoNumber q.node) (placed i v t)
  each_leaf i v (tree l ts) h = (h, all_leaves (parent_below i l.id) (v || is_content l.mark) ts h.1)

  all_leaves : (i : ℕ) (v : Bool) (ts : Trees) → AllLeavesHoldNoNumber ts → AllByRecursion (λ q. LeavesHoldNoNumber q.node) (all_placed i v ts)
  all_leaves i v none h = tt
  all_leaves i v (more t ts) h =
      each_join (λ q. LeavesHoldNoNumber q.node) (placed i v t) (all_placed i v ts) (each_leaf i v t h.0) (all_leaves i v ts h.1)

-- in sections, too
section_plain : (k : Kind) → is_section k ≡ true → (is_group k ≡ false) × (is_leaf k ≡ false)
section_plain (kind.Section n) e = (refl, refl)
section_plain k e = absurd (cc)

not_leaf : {A : Type 0} (b : Bool) → b ≡ false → b ≡ true → A
not_leaf b e f = absurd (cc)

mutual
  numbered_before : (t : Tree) (rest : Trees) → HaveNumberedGroups (opened_before t rest) → HasNumberedGroups t × HaveNumberedGroups rest
  numbered_before (tree l ts) rest h = by_section (is_section l.kind) refl h (λ x. all_numbered_before ts rest x)
    where
      by_section : (b : Bool) → is_section l.kind ≡ b → HaveNumberedGroups (if b then all_opened_before ts rest else more (tree l ts) rest)
          → (HaveNumberedGroups (all_opened_before ts rest) → HaveNumberedGroups ts × HaveNumberedGroups rest)
          → HasNumberedGroups (tree l ts) × HaveNumberedGroups rest
      by_section true e x f = let r = f x in (no_group (IsNumberedGroup l ts) (is_group l.kind) (section_plain l.kind e).0 r.0, r.1)
      by_section false e x f = x

  all_numbered_before : (ts rest : Trees) → HaveNumberedGroups (all_opened_before ts rest) → HaveNumberedGroups ts × HaveNumberedGroups rest
  all_numbered_before none rest h = (tt, h)
  all_numbered_before (more t ts) rest h =
      let s = numbered_before t (all_opened_before ts rest) h in
      let r = all_numbered_before ts rest s.1 in
      ((s.0, r.0), r.1)

mutual
  leaves_before : (t : Tree) (rest : Trees) → AllLeavesHoldNoNumber (opened_before t rest) → LeavesHoldNoNumber t × AllLeavesHoldNoNumber rest
  leaves_before (tree l ts) rest h = by_section (is_section l.kind) refl h (λ x. all_leaves_before ts rest x)
    where
      by_section : (b : Bool) → is_section l.kind ≡ b → AllLeavesHoldNoNumber (if b then all_opened_before ts rest else more (tree l ts) rest)
          → (AllLeavesHoldNoNumber (all_opened_before ts rest) → AllLeavesHoldNoNumber ts × AllLeavesHoldNoNumber rest)
          → LeavesHoldNoNumber (tree l ts) × AllLeavesHoldNoNumber rest
      by_section true e x f = let r = f x in (((λ y. not_leaf (is_leaf l.kind) (section_plain l.kind e).1 y), r.0), r.1)
      by_section false e x f = x

  all_leaves_before : (ts rest : Trees) → AllLeavesHoldNoNumber (all_opened_before ts rest) → AllLeavesHoldNoNumber ts × AllLeavesHoldNoNumber rest
  all_leaves_before none rest h = (tt, h)
  all_leaves_before (more t ts) rest h =
      let s = leaves_before t (all_opened_before ts rest) h in
      let r = all_leaves_before ts rest s.1 in
      ((s.0, r.0), r.1)

pub page_groups : (t : Tree) → IsPlainPage t → HasNumberedGroups t
page_groups (tree l ts) h =
    let body : (label (without_sections (tree l ts))).kind ≡ kind.Body = body_is l.kind h.one.root in
    no_group (IsNumberedGroup l ts) (is_group l.kind) (body_no_group l.kind h.one.root)
    (all_numbered_before ts none (page_numbered (without_sections (tree l ts)) body h.in_order h.one.alone)).0

page_leaves : (t : Tree) → IsPlainPage t → LeavesHoldNoNumber t
page_leaves (tree l ts) h =
    ((λ y. not_leaf (is_leaf l.kind) (ap is_leaf (body_is l.kind h.one.root)) y), (all_leaves_before ts none h.leaves.1).0)

kind_of_root : (t : Tree) → (label (without_sections t)).kind ≡ (label t).kind
kind_of_root (tree l ts) = refl

-- ---- the marked ones

record IsGoodBlock (t : Tree) (p : Pair) : Type 0 where
  finds : Every (Finds p.old) (found_from 0 0 p.old)
  there : Every (IsThere (page_of t)) (found_from 0 0 p.old)
  numbered : HaveNumberedGroups (children_of p.old)
  leaves : AllLeavesHoldNoNumber (children_of p.old)

-- a paragraph or heading is no root
no_body : (k : Kind) → is_body k ≡ true → takes_text (edit_shape k).form ≡ true → ⊥
no_body kind.Body e f = absurd (cc)
no_body k e f = absurd (cc)

children_numbered : (t : Tree) → takes_text (edit_shape (label t).kind).form ≡ true → HasNumberedGroups t → HaveNumberedGroups (children_of t)
children_numbered (tree l ts) b h = inner_numbered l ts h (block_ungrouped l.kind b)

children_leaves : (t : Tree) → LeavesHoldNoNumber t → AllLeavesHoldNoNumber (children_of t)
children_leaves (tree l ts) h = h.1

-- what is known of all places of a page
record AreKnownPlaces (t : Tree) : Type 0 where
  root : is_body (label t).kind ≡ true
  zero_root : (label t).id ≡ 0
  counts : AllByRecursion Counts (places t)
  found : AllByRecursion (AreFound (page_of t)) (places t)
  groups : AllByRecursion HasThem (places t)
  leaves : AllByRecursion (λ q. LeavesHoldNoNumber q.node) (places t)

abbrev root_place : Tree → Place
root_place t = record { node = t; parent = 0; in_content = false }

same_place : (p q : Place) → Some p ≡ Some q → p ≡ q
same_place p q e = cc

pair_good : (same : Tree → Tree → Bool) (items : Expanded) (bytes : List ℕ) (t : Tree) (o : Option Place) (n : ℕ) (u : Tree) → page_of t n ≡ o
    → AreKnownPlaces t → AllByRecursion (IsRetyped same items bytes) (pair_with o u) → AllByRecursion (IsGoodBlock t) (pair_with o u)
pair_good same items bytes t None n u e c r = tt
pair_good same items bytes t (Some q) n u e c r =
    let counts = found_has Counts n q (places t) c.counts e in
    let kept : is_kept q ≡ true = either_way (n == 0)
    (λ z. let is : root_place t ≡ q = same_place (root_place t) q (sym (found_root t c.zero_root) ∙ ap (page_of t) (sym ((Decides-eqb n 0).0 z)) ∙ e) in
    absurd (no_body (kind_at q) (ap (λ (x : Place). is_body (kind_at x)) (sym is) ∙ c.root) r.0.block))
    (λ k. ap (λ (i : ℕ). not (i == 0)) counts.1 ∙ ap not k) in (
      record {
        finds =
            all_find q.node
            (sublist_increasing (found_numbers (found_from 0 0 q.node)) (kept_numbers (placed q.parent q.in_content q.node))
            (some_numbers q.parent 0 0 q.in_content q.node) counts.0);
        there = node_there (page_of t) q.parent 0 0 q.in_content q.node (found_has (AreFound (page_of t)) n q (places t) c.found e).0;
        numbered = children_numbered q.node r.0.block ((found_has HasThem n q (places t) c.groups e).0 kept);
        leaves = children_leaves q.node (found_has (λ x. LeavesHoldNoNumber x.node) n q (places t) c.leaves e).0;
      },
      tt,
    )

good_by : (same : Tree → Tree → Bool) (items : Expanded) (bytes : List ℕ) (t : Tree) (b : Bool) (ps : List Pair)
    → (AllByRecursion (IsRetyped same items bytes) ps → AllByRecursion (IsGoodBlock t) ps) → AllByRecursion (IsRetyped same items bytes) (if b then ps else [])
    → AllByRecursion (IsGoodBlock t) (if b then ps else [])
good_by same items bytes t true ps f h = f h
good_by same items bytes t false ps f h = tt

good_at : (same : Tree → Tree → Bool) (items : Expanded) (bytes : List ℕ) (t : Tree) (ps : List Place) → AreKnownPlaces t
    → AllByRecursion (IsRetyped same items bytes) (flat_map (pair_at (page_of t)) ps) → AllByRecursion (IsGoodBlock t) (flat_map (pair_at (page_of t)) ps)
good_at same items bytes t [] c r = tt
good_at same items bytes t (p ∷ ps) c r =
    let s = each_split (IsRetyped same items bytes) (pair_at (page_of t) p) (flat_map (pair_at (page_of t)) ps) r in
    each_join (IsGoodBlock t) (pair_at (page_of t) p) (flat_map (pair_at (page_of t)) ps)
    (good_by same items bytes t (is_edited (label p.node).mark) (pair_with (page_of t (number p)) p.node)
    (λ x. pair_good same items bytes t (page_of t (number p)) (number p) p.node refl c x) s.0)
    (good_at same items bytes t ps c s.1)

known_places : (t : Tree) → IsPlainPage t → AreKnownPlaces t
known_places t h =
    let body : (label t).kind ≡ kind.Body = sym (kind_of_root t) ∙ body_is (label (without_sections t)).kind h.one.root in
    let inc : Increasing (kept_numbers (places t)) = increasing t body h.numbered in
    record {
      root = ap is_body body;
      zero_root = h.sections.root;
      counts = each_counts 0 false t inc;
      found = each_found (page_of t) 0 false t (each_itself (places t) inc);
      groups = each_has 0 false t (page_groups t h);
      leaves = each_leaf 0 false t (page_leaves t h);
    }

each_alike : (same : Tree → Tree → Bool) (items : Expanded) (bytes : List ℕ) (t : Tree) (ps : List Pair) → TellsSame same → AllByRecursion (IsGoodBlock t) ps
    → AllByRecursion (IsRetyped same items bytes) ps → AllByRecursion (λ p. AreRead (children_of p.new)) ps → AllByRecursion (IsAlike same (page_of t)) ps
each_alike same items bytes t [] tells g r h = tt
each_alike same items bytes t (p ∷ ps) tells g r h = (
  retyped_alike same items bytes (page_of t) p.old p.new tells r.0 h.0 g.0.numbered g.0.leaves g.0.there g.0.finds,
  each_alike same items bytes t ps tells g.1 r.1 h.1,
)

pub all_alike : (same : Tree → Tree → Bool) (items : Expanded) (bytes : List ℕ) (t new : Tree) → TellsSame same → IsPlainPage t
    → AllByRecursion (IsRetyped same items bytes) (marked t new) → AllByRecursion (λ p. AreRead (children_of p.new)) (marked t new)
    → AllByRecursion (IsAlike same (page_of t)) (marked t new)
all_alike same items bytes t new tells h r e =
    each_alike same items bytes t (marked t new) tells (good_at same items bytes t (places new) (known_places t h) r) r e

numbered_blocks : (t : Tree) (ps : List Pair) → AllByRecursion (IsGoodBlock t) ps → AllByRecursion (λ p. HaveNumberedGroups (children_of p.old)) ps
numbered_blocks t [] g = tt
numbered_blocks t (p ∷ ps) g = (g.0.numbered, numbered_blocks t ps g.1)

pub all_numbered : (same : Tree → Tree → Bool) (items : Expanded) (bytes : List ℕ) (t new : Tree) → IsPlainPage t
    → AllByRecursion (IsRetyped same items bytes) (marked t new) → AllByRecursion (λ p. HaveNumberedGroups (children_of p.old)) (marked t new)
all_numbered same items bytes t new h r = numbered_blocks t (marked t new) (good_at same items bytes t (places new) (known_places t h) r)

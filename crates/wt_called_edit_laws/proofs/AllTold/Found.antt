-- Paragraphs and headings that are found in trees over items, in tables and their cells, each with how many items are before it.
use Rattle.std.proofs.Common.{arith, ◌≡◌, ℕ, suc, ◌+◌, true, false, Option, List, [], ◌∷◌, ◌++◌, length, take, drop, map, refl, sym, ap, ◌∙◌, subst, append-nil, length-append}
use Rattle.std.proofs.lemmas.List.{take-append-drop}
use Rattle.std.proofs.lemmas.Grind.{flat_map-append}
use Rattle.wt_tree.specs.declared.kind.Kind.{Kind}
use Rattle.wt_tree.specs.declared.kind.Kind.TheVariants as kind
use Rattle.wt_span.specs.Items.{Item, char}
use Rattle.wt_span.specs.Runs.{runs, IsRun, AreRuns}
use Rattle.wt_span.proofs.RunLaws.{runs_are}
use Rattle.wt_inline.specs.declared.loose.Loose.{Loose}
use Rattle.wt_inline.specs.declared.loose.Loose.TheVariants.{Text, Sep}
use Rattle.wt_inline.specs.Inside.{opened, opened_all}
use Rattle.wt_inline.specs.ItemTree.{Head, ItemTree, inner, ItemTrees, nothing, further, forest, tree_items, held_by_all}
use Rattle.wt_inline.specs.Parts.{Part, loose, node, held_parts, one_leaf, loose_leaf, child, children}
use Rattle.wt_called_edit_laws.specs.RowBlocks.{opened_len}
use Rattle.wt_page.specs.Stretches.{Stretch, stretch_parts, stretches_parts, front_len, front_gaps, past_front, block_len, before_end, end_gaps, node_of, opened_by, enclosed}

-- ---- how many items they hold

abbrev pub size : List Item → ℕ
size xs = opened_len xs

abbrev pub tree_size : ItemTree → ℕ
tree_size t = size (tree_items t)

pub size_both : (xs ys : List Item) → size (xs ++ ys) ≡ size xs + size ys
size_both xs ys = ap length (flat_map-append opened xs ys) ∙ length-append (opened_all xs) (opened_all ys)

-- ---- which nodes blocks may be in

pub data Housing : Type 0 where
  a_block : Housing
  a_shell : Housing
  another : Housing

-- a paragraph or a heading; a table or a part of one; or any other node
abbrev pub housing_of : Kind → Housing
housing_of kind.Para = a_block
housing_of (kind.Heading n) = a_block
housing_of kind.Table = a_shell
housing_of kind.Tbody = a_shell
housing_of kind.Tr = a_shell
housing_of kind.Caption = a_shell
housing_of kind.Td = a_shell
housing_of kind.Th = a_shell
housing_of k = another

abbrev pub ByHousing : Housing → Type 0 → Type 0 → Type 0
ByHousing a_block own inside = own
ByHousing a_shell own inside = inside
ByHousing another own inside = Unit {0}

-- This holds of each block with how many items are before it, where so many are before the node; with nodes after each other there are so many at last.
abbrev mutual
  pub FoundIn : (ℕ → ItemTree → Type 0) → ℕ → ItemTree → Type 0
  FoundIn P at (inner h o ts c) = ByHousing (housing_of h.kind) (P at (inner h o ts c)) ((to : ℕ) × FoundAll P (at + size o) ts to)

  pub FoundAll : (ℕ → ItemTree → Type 0) → ℕ → ItemTrees → ℕ → Type 0
  FoundAll P at nothing to = at ≡ to
  FoundAll P at (further t ts) to = FoundIn P at t × FoundAll P (at + tree_size t) ts to

pub all_size : (P : ℕ → ItemTree → Type 0) (at : ℕ) (ts : ItemTrees) (to : ℕ) → FoundAll P at ts to → to ≡ at + size (held_by_all ts)
all_size P at nothing to h = omega (arith, h)
all_size P at (further t ts) to h =
    let rest = all_size P (at + tree_size t) ts to h.1 in omega (arith, rest, size_both (tree_items t) (held_by_all ts))

-- ---- the same of parts

abbrev pub FoundParts : (ℕ → ItemTree → Type 0) → ℕ → List Part → ℕ → Type 0
FoundParts P at [] to = at ≡ to
FoundParts P at (loose k o b ∷ ps) to = FoundParts P (at + 1) ps to
FoundParts P at (node t ∷ ps) to = FoundIn P at t × FoundParts P (at + tree_size t) ps to

pub parts_join : (P : ℕ → ItemTree → Type 0) (at mid to : ℕ) (xs ys : List Part) → FoundParts P at xs mid → FoundParts P mid ys to → FoundParts P at (xs ++ ys) to
parts_join P at mid to [] ys h g = subst (λ (n : ℕ). FoundParts P n ys to) (sym h) g
parts_join P at mid to (loose k o b ∷ xs) ys h g = parts_join P (at + 1) mid to xs ys h g
parts_join P at mid to (node t ∷ xs) ys h g = (h.0, parts_join P (at + tree_size t) mid to xs ys h.1 g)

pub parts_split : (P : ℕ → ItemTree → Type 0) (at to : ℕ) (xs ys : List Part) → FoundParts P at (xs ++ ys) to
    → (mid : ℕ) × FoundParts P at xs mid × FoundParts P mid ys to
parts_split P at to [] ys h = (at, refl, h)
parts_split P at to (loose k o b ∷ xs) ys h = parts_split P (at + 1) to xs ys h
parts_split P at to (node t ∷ xs) ys h = let r = parts_split P (at + tree_size t) to xs ys h.1 in (r.0, (h.0, r.1), r.2)

-- begun or ended at another place that is the same
pub parts_from : (P : ℕ → ItemTree → Type 0) (at from to : ℕ) (ps : List Part) → at ≡ from → FoundParts P at ps to → FoundParts P from ps to
parts_from P at from to ps e h = subst (λ (n : ℕ). FoundParts P n ps to) e h

pub parts_to : (P : ℕ → ItemTree → Type 0) (at to end : ℕ) (ps : List Part) → to ≡ end → FoundParts P at ps to → FoundParts P at ps end
parts_to P at to end ps e h = subst (λ (n : ℕ). FoundParts P at ps n) e h

-- ---- of children

leaf_size : (k : Loose) (own : List Item) → tree_size (loose_leaf k own) ≡ size own
leaf_size k own = ap size (append-nil own)

leaf_found : (P : ℕ → ItemTree → Type 0) (at : ℕ) (k : Loose) (own : List Item) → FoundIn P at (loose_leaf k own)
leaf_found P at Text own = tt
leaf_found P at Sep own = tt

loose_run : (P : ℕ → ItemTree → Type 0) (k : Loose) (o : Option ℕ) (b : ℕ) (r others : List Part) (at to : ℕ) → IsRun one_leaf (loose k o b ∷ r) others
    → FoundParts P at (r ++ others) to → FoundParts P (at + size (held_parts r)) others to
loose_run P k o b [] others at to h g = let z : at ≡ at + 0 = omega arith in parts_from P at (at + 0) to others z g
loose_run P k o b (loose j q c ∷ r) others at to h g =
    let m : ℕ = size (held_parts r) in
    let z : (at + 1) + m ≡ at + suc m = omega arith in
    parts_from P ((at + 1) + m) (at + suc m) to others z (loose_run P j q c r others (at + 1) to h.1 g)
loose_run P k o b (node t ∷ r) others at to h g = let nay : false ≡ true = h.0 in absurd (cc)

runs_found : (P : ℕ → ItemTree → Type 0) (rs : List (List Part)) (at to : ℕ) (ps : List Part) → AreRuns one_leaf rs ps → FoundParts P at ps to
    → FoundAll P at (forest (map child rs)) to
runs_found P [] at to ps h g = subst (λ (qs : List Part). FoundParts P at qs to) h g
runs_found P ([] ∷ rs) at to ps h g = absurd h.2
runs_found P ((loose k o b ∷ r) ∷ rs) at to ps h g =
    let all : FoundParts P at ((loose k o b ∷ r) ++ h.0) to = subst (λ (qs : List Part). FoundParts P at qs to) h.1 g in
    let own : List Item = char o b ∷ held_parts r in
    let m : ℕ = size (held_parts r) in
    let z : (at + 1) + m ≡ at + tree_size (loose_leaf k own) = omega (arith, leaf_size k own) in (
      leaf_found P at k own,
      runs_found P rs (at + tree_size (loose_leaf k own)) to h.0 h.3
          (parts_from P ((at + 1) + m) (at + tree_size (loose_leaf k own)) to h.0 z (loose_run P k o b r h.0 (at + 1) to h.2 all)),
    )
runs_found P ((node t ∷ []) ∷ rs) at to ps h g =
    let all : FoundParts P at (node t ∷ h.0) to = subst (λ (qs : List Part). FoundParts P at qs to) h.1 g in
    (all.0, runs_found P rs (at + tree_size t) to h.0 h.3 all.1)
runs_found P ((node t ∷ p ∷ r) ∷ rs) at to ps h g = let nay : false ≡ true = h.2.0 in absurd (cc)

pub children_found : (P : ℕ → ItemTree → Type 0) (at to : ℕ) (ps : List Part) → FoundParts P at ps to → FoundAll P at (forest (children ps)) to
unfolding children
children_found P at to ps g = runs_found P (runs one_leaf ps) at to ps (runs_are one_leaf ps) g

-- ---- nodes round parts

-- a table or a part of one, and where it ends
pub record Shell (P : ℕ → ItemTree → Type 0) (at end : ℕ) (t : ItemTree) : Type 0 where
  pub found : FoundIn P at t
  pub ends : at + tree_size t ≡ end

pub shell_found : (P : ℕ → ItemTree → Type 0) (at to : ℕ) (h : Head) (o c : List Item) (ps : List Part) → housing_of h.kind ≡ a_shell
    → FoundParts P (at + size o) ps to → Shell P at (to + size c) (inner h o (forest (children ps)) c)
shell_found P at to h o c ps e g =
    let t : ItemTree = inner h o (forest (children ps)) c in
    let held : List Item = held_by_all (forest (children ps)) in
    let all : FoundAll P (at + size o) (forest (children ps)) to = children_found P (at + size o) to ps g in
    let z = all_size P (at + size o) (forest (children ps)) to all in
    record {
      found = subst (λ (v : Housing). ByHousing v (P at t) ((n : ℕ) × FoundAll P (at + size o) (forest (children ps)) n)) (sym e) (to, all);
      ends = omega (arith, z, size_both o (held ++ c), size_both held c);
    }

stretches_both : (ss us : List Stretch) → stretches_parts (ss ++ us) ≡ stretches_parts ss ++ stretches_parts us
stretches_both ss us = flat_map-append stretch_parts ss us

pub stretches_join : (P : ℕ → ItemTree → Type 0) (at mid to : ℕ) (ss us : List Stretch) → FoundParts P at (stretches_parts ss) mid
    → FoundParts P mid (stretches_parts us) to → FoundParts P at (stretches_parts (ss ++ us)) to
stretches_join P at mid to ss us h g =
    subst (λ (ps : List Part). FoundParts P at ps to) (sym (stretches_both ss us)) (parts_join P at mid to (stretches_parts ss) (stretches_parts us) h g)

stretches_cut : (P : ℕ → ItemTree → Type 0) (at to n : ℕ) (ss : List Stretch) → FoundParts P at (stretches_parts ss) to
    → (mid : ℕ) × FoundParts P at (stretches_parts (take n ss)) mid × FoundParts P mid (stretches_parts (drop n ss)) to
stretches_cut P at to n ss h =
    parts_split P at to (stretches_parts (take n ss)) (stretches_parts (drop n ss))
    (subst (λ (ps : List Part). FoundParts P at ps to) (ap stretches_parts (sym (take-append-drop n ss)) ∙ stretches_both (take n ss) (drop n ss)) h)

pub opened_found : (P : ℕ → ItemTree → Type 0) (at to : ℕ) (h : Head) (o : List Item) (ss : List Stretch) → housing_of h.kind ≡ a_shell
    → FoundParts P (at + size o) (stretches_parts ss) to → FoundParts P at (stretches_parts (opened_by h o ss)) to
opened_found P at to h o ss e g =
    let c = stretches_cut P (at + size o) to (block_len ss) ss g in
    let t : ItemTree = node_of h o (before_end ss) [] in
    let s : Shell P at (c.0 + 0) t = shell_found P at c.0 h o [] (stretches_parts (before_end ss)) e c.1 in
    let z : c.0 ≡ at + tree_size t = omega (arith, s.ends) in
    (s.found, parts_from P c.0 (at + tree_size t) to (stretches_parts (end_gaps ss)) z c.2)

pub enclosed_found : (P : ℕ → ItemTree → Type 0) (at to : ℕ) (h : Head) (ss : List Stretch) → housing_of h.kind ≡ a_shell
    → FoundParts P at (stretches_parts ss) to → FoundParts P at (stretches_parts (enclosed h ss)) to
enclosed_found P at to h ss e g =
    let c = stretches_cut P at to (front_len ss) ss g in
    let z : c.0 ≡ c.0 + size [] = omega arith in
    stretches_join P at c.0 to (front_gaps ss) (opened_by h [] (past_front ss)) c.1
    (opened_found P c.0 to h [] (past_front ss) e (parts_from P c.0 (c.0 + size []) to (stretches_parts (past_front ss)) z c.2))

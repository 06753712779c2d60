-- What items make, and what parts count: nodes with a number.
use Rattle.std.proofs.Common.{◌≡◌, ℕ, ◌+◌, ◌≤◌, List, [], ◌∷◌, ◌++◌, take, drop, map, sym, ap, ◌∙◌, subst, arith}
use Rattle.std.specs.List.{flat_map}
use Rattle.std.proofs.lemmas.List.{take-append-drop}
use Rattle.wt_span.specs.Items.{Item, char, whole}
use Rattle.wt_span.specs.Runs.{runs}
use Rattle.wt_span.proofs.RunLaws.{runs_joined}
use Rattle.wt_inline.specs.declared.loose.Loose.{Loose}
use Rattle.wt_inline.specs.declared.loose.Loose.TheVariants.{Text, Sep}
use Rattle.wt_inline.specs.ItemTree.{forest}
use Rattle.wt_inline.specs.Parts.{Part, loose, node, one_leaf, child, children, parts}
use Rattle.wt_annotated.specs.Counted.{numbered, numbered_in_all}
use Rattle.wt_page_round_trip.specs.Numbers.{makes_all}

-- ---- what items make

pub makes_append : (xs ys : List Item) → makes_all (xs ++ ys) ≡ makes_all xs + makes_all ys
makes_append [] ys = omega arith
makes_append (x ∷ xs) ys = omega (arith, makes_append xs ys)

pub makes_cut : (n : ℕ) (xs : List Item) → makes_all (take n xs) + makes_all (drop n xs) ≡ makes_all xs
makes_cut n xs = sym (makes_append (take n xs) (drop n xs)) ∙ ap makes_all (take-append-drop n xs)

-- ---- parts

abbrev pub count : Part → ℕ
count (loose k o b) = 0
count (node t) = numbered t

abbrev pub counts : List Part → ℕ
counts [] = 0
counts (p ∷ ps) = count p + counts ps

pub counts_append : (ps qs : List Part) → counts (ps ++ qs) ≡ counts ps + counts qs
counts_append [] qs = omega arith
counts_append (p ∷ ps) qs = omega (arith, counts_append ps qs)

child_count : (r : List Part) → numbered (child r) ≤ counts r
child_count [] = omega arith
child_count (loose Text o b ∷ ps) = omega arith
child_count (loose Sep o b ∷ ps) = omega arith
child_count (node t ∷ ps) = omega arith

forest_count : (rs : List (List Part)) → numbered_in_all (forest (map child rs)) ≤ counts (flat_map (λ r. r) rs)
forest_count [] = omega arith
forest_count (r ∷ rs) = omega (arith, child_count r, forest_count rs, counts_append r (flat_map (λ s. s) rs))

pub children_count : (ps : List Part) → numbered_in_all (forest (children ps)) ≤ counts ps
unfolding children
children_count ps = subst (λ qs. numbered_in_all (forest (map child (runs one_leaf ps))) ≤ counts qs) (runs_joined one_leaf ps)
    (forest_count (runs one_leaf ps))

-- the parts of items
pub parts_count : (k : Loose) (xs : List Item) → counts (parts k xs) ≤ makes_all xs
parts_count k [] = omega arith
parts_count k (char o b ∷ xs) = omega (arith, parts_count k xs)
parts_count k (whole f o bs ∷ xs) = omega (arith, parts_count k xs)

-- The rows of a tree in preorder.
use Rattle.std.proofs.Common.{◌≡◌, ℕ, List, [], ◌∷◌, ◌++◌, map, refl, sym, ap, ◌∙◌, append_assoc, append-nil, subst}
use Rattle.std.proofs.lemmas.List.{map-append}
use Rattle.std.specs.Prelude.{Option}
use Rattle.std.specs.List.{flat_map, AllByRecursion}
use Rattle.std.proofs.lemmas.List.Concat.{flat_map-cons}
use Rattle.wt_tree.specs.Tree.{Label, Tree, tree, Trees, none, more, label, listed, trees, subtrees, subtrees_of_all}
use Rattle.wt_tree.specs.Look.{rows}
use Rattle.wt_tree.specs.declared.kind.Kind.{Kind}
use Rattle.wt_tree.specs.declared.kind.Ranges.{Ranges}
use Rattle.wt_page_laws.specs.Preorder.{row_of, StandTogether}

abbrev Row : Type 0
Row = ℕ × Kind × Option Ranges

abbrev row : Tree → Row
row u = row_of (label u)

rows_of_all : (ts : Trees) → map row (subtrees_of_all ts) ≡ flat_map rows (listed ts)
rows_of_all none = refl
rows_of_all (more t ts) = map-append row (subtrees t) (subtrees_of_all ts) ∙ ap (λ (l : List Row). rows t ++ l) (rows_of_all ts) ∙ sym (flat_map-cons rows t (listed ts))

pub own_first : (l : Label) → (ts : Trees) → rows (tree l ts) ≡ row_of l ∷ flat_map rows (listed ts)
own_first l ts = ap (λ (x : List Row). row_of l ∷ x) (rows_of_all ts)

-- what stands together in some rows does so with others round them
abbrev Together : List Row → Tree → Type 0
Together all u = (before : List Row) × (behind : List Row) × (all ≡ before ++ (rows u ++ behind))

widened : (all before behind : List Row) (u : Tree) → Together all u → Together (before ++ (all ++ behind)) u
widened all before behind u t = (before ++ t.0, t.1 ++ behind, by)
  where
    by : before ++ (all ++ behind) ≡ (before ++ t.0) ++ (rows u ++ (t.1 ++ behind))
    by = rw t.2 (simp append_assoc)

all_widened : (all before behind : List Row) (us : List Tree) → AllByRecursion (Together all) us → AllByRecursion (Together (before ++ (all ++ behind))) us
all_widened all before behind [] h = tt
all_widened all before behind (u ∷ us) h = (widened all before behind u h.0, all_widened all before behind us h.1)

joined : (P : Tree → Type 0) (us vs : List Tree) → AllByRecursion P us → AllByRecursion P vs → AllByRecursion P (us ++ vs)
joined P [] vs h g = g
joined P (u ∷ us) vs h g = (h.0, joined P us vs h.1 g)

mutual
  together : (t : Tree) → AllByRecursion (Together (rows t)) (subtrees t)
  together (tree l ts) = (
    ([], [], sym (append-nil (rows (tree l ts)))),
    subst (λ (x : List Row). AllByRecursion (Together (row_of l ∷ x)) (subtrees_of_all ts)) (append-nil (map row (subtrees_of_all ts)))
        (all_widened (map row (subtrees_of_all ts)) (row_of l ∷ []) [] (subtrees_of_all ts) (all_together ts)),
  )

  all_together : (ts : Trees) → AllByRecursion (Together (map row (subtrees_of_all ts))) (subtrees_of_all ts)
  all_together none = tt
  all_together (more t ts) = joined (Together (map row (subtrees_of_all (more t ts)))) (subtrees t) (subtrees_of_all ts)
      (subst (λ (x : List Row). AllByRecursion (Together x) (subtrees t)) (sym (map-append row (subtrees t) (subtrees_of_all ts)))
      (all_widened (rows t) [] (map row (subtrees_of_all ts)) (subtrees t) (together t)))
      (subst (λ (x : List Row). AllByRecursion (Together x) (subtrees_of_all ts))
      (ap (λ (x : List Row). rows t ++ x) (append-nil (map row (subtrees_of_all ts))) ∙ sym (map-append row (subtrees t) (subtrees_of_all ts)))
      (all_widened (map row (subtrees_of_all ts)) (rows t) [] (subtrees_of_all ts) (all_together ts)))

of_all : (t : Tree) (us : List Tree) → AllByRecursion (Together (rows t)) us → AllByRecursion (λ u. StandTogether u t) us
of_all t [] h = tt
of_all t (u ∷ us) h = (record { before = h.0.0; behind = h.0.1; rows = h.0.2 }, of_all t us h.1)

pub stand_together : (t : Tree) → AllByRecursion (λ u. StandTogether u t) (subtrees t)
stand_together t = of_all t (subtrees t) (together t)

pub lists_back : (xs : List Tree) → listed (trees xs) ≡ xs
lists_back [] = refl
lists_back (x ∷ xs) = ap (λ (l : List Tree). x ∷ l) (lists_back xs)

pub trees_back : (ts : Trees) → trees (listed ts) ≡ ts
trees_back none = refl
trees_back (more t ts) = ap (more t) (trees_back ts)

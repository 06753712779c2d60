-- The nodes of lists in preorder, with their depths, tell the lists.
use Rattle.std.proofs.Common.{◌≡◌, ℕ, suc, ◌<◌, Bool, List, [], ◌∷◌, ◌++◌, get_or, drop, refl, sym, ap, ◌∙◌, subst, arith, append_assoc, append-nil}
use Rattle.wt_blocks.specs.ListTree.{ListTree, node, ListTrees, none, more, forest}
use Rattle.wt_blocks.specs.Starts.{Row, rows, rows_of_all}

-- what comes next stands above this depth
abbrev Above : ℕ → List Row → Type 0
Above d [] = Unit {0}
Above d (r ∷ rs) = r.depth < d

head : {A : Type 0} (a b : A) (xs ys : List A) → a ∷ xs ≡ b ∷ ys → a ≡ b
head a b xs ys e = ap (λ zs. get_or zs 0 a) e

tail : {A : Type 0} (a b : A) (xs ys : List A) → a ∷ xs ≡ b ∷ ys → xs ≡ ys
tail a b xs ys e = ap (λ zs. drop 1 zs) e

above_after : (d : ℕ) (ts : ListTrees) (xs : List Row) → Above d xs → Above (suc d) (rows_of_all d ts ++ xs)
above_after d none [] h = tt
above_after d none (x ∷ xs) h = omega arith
above_after d (more (node i s l cs) ts) xs h = omega arith

-- a node isn't above its own depth
not_above : {X : Type 0} (d : ℕ) (r : Row) (rs xs : List Row) → r.depth ≡ d → r ∷ rs ≡ xs → Above d xs → X
not_above d r rs xs e h a = let f : r.depth < d = subst (Above d) (sym h) a in absurd (omega arith)

node_is : (i j : Bool) (s t k l : ℕ) (cs ds : ListTrees) → i ≡ j → s ≡ t → k ≡ l → cs ≡ ds → node i s k cs ≡ node j t l ds
node_is i j s t k l cs ds a b c e = ap (λ v. node v s k cs) a ∙ ap (λ v. node j v k cs) b ∙ ap (λ v. node j t v cs) c ∙ ap (λ v. node j t l v) e

not_first : {X : Type 0} (t : ListTree) (d : ℕ) (ts : ListTrees) (xs ys : List Row) → Above d ys → rows_of_all d (more t ts) ++ xs ≡ ys → X
not_first (node i s l cs) d ts xs ys b e = not_above d (record { depth = d; item = i; sign = s; line = l })
    ((rows_of_all (suc d) cs ++ rows_of_all d ts) ++ xs) ys refl e b

mutual
  same_tree : (t : ListTree) (d : ℕ) (u : ListTree) (xs ys : List Row) → Above (suc d) xs → Above (suc d) ys
      → rows d t ++ xs ≡ rows d u ++ ys → (t ≡ u) × (xs ≡ ys)
  same_tree (node i s l cs) d (node j t k ds) xs ys a b e =
      let r = head (record { depth = d; item = i; sign = s; line = l }) (record { depth = d; item = j; sign = t; line = k })
      (rows_of_all (suc d) cs ++ xs) (rows_of_all (suc d) ds ++ ys) e in
      let both = same_trees cs (suc d) ds xs ys a b
      (tail (record { depth = d; item = i; sign = s; line = l }) (record { depth = d; item = j; sign = t; line = k })
      (rows_of_all (suc d) cs ++ xs) (rows_of_all (suc d) ds ++ ys) e) in
      (node_is i j s t l k cs ds (ap (λ (q : Row). q.item) r) (ap (λ (q : Row). q.sign) r) (ap (λ (q : Row). q.line) r) both.0, both.1)

  same_trees : (ts : ListTrees) (d : ℕ) (us : ListTrees) (xs ys : List Row) → Above d xs → Above d ys
      → rows_of_all d ts ++ xs ≡ rows_of_all d us ++ ys → (ts ≡ us) × (xs ≡ ys)
  same_trees none d none xs ys a b e = (refl, e)
  same_trees none d (more (node j t k ds) us) xs ys a b e = not_above d (record { depth = d; item = j; sign = t; line = k })
      ((rows_of_all (suc d) ds ++ rows_of_all d us) ++ ys) xs refl (sym e) a
  same_trees (more t ts) d none xs ys a b e = not_first t d ts xs ys b e
  same_trees (more t ts) d (more u us) xs ys a b e =
      let one = same_tree t d u (rows_of_all d ts ++ xs) (rows_of_all d us ++ ys) (above_after d ts xs a) (above_after d us ys b)
      (sym (append_assoc (rows d t) (rows_of_all d ts) xs) ∙ e ∙ append_assoc (rows d u) (rows_of_all d us) ys) in
      let rest = same_trees ts d us xs ys a b one.1 in
      (ap (λ v. more v ts) one.0 ∙ ap (λ vs. more u vs) rest.0, rest.1)

forest_only : (ts us : List ListTree) → forest ts ≡ forest us → ts ≡ us
forest_only [] [] e = refl
forest_only [] (u ∷ us) e = cc
forest_only (t ∷ ts) [] e = cc
forest_only (t ∷ ts) (u ∷ us) e =
    let a : t ≡ u = cc in
    let b : forest ts ≡ forest us = cc in
    ap (λ v. v ∷ ts) a ∙ ap (λ vs. u ∷ vs) (forest_only ts us b)

pub same_lists : (ts us : List ListTree) → rows_of_all 0 (forest ts) ≡ rows_of_all 0 (forest us) → ts ≡ us
same_lists ts us e =
    let both = same_trees (forest ts) 0 (forest us) [] [] tt tt (append-nil (rows_of_all 0 (forest ts)) ∙ e ∙ sym (append-nil (rows_of_all 0 (forest us)))) in
    forest_only ts us both.0

-- Between the texts of a content stand its borders.
use Rattle.std.proofs.Common.{arith, ◌≡◌, ℕ, suc, ◌+◌, ◌≤◌, List, [], ◌∷◌, ◌++◌, length, refl}
use Rattle.std.proofs.lemmas.List.{length-append}
use Rattle.wt_tree.specs.Tree.{Tree, tree, Trees, none, more}
use Rattle.wt_tree.specs.declared.edit_shape.InlineForm.{InlineForm}
use Rattle.wt_tree.specs.declared.edit_shape.InlineForm.TheVariants as inline
use Rattle.wt_tree.specs.EditShapes.{edit_shape}
use Rattle.wt_inside_laws.specs.Contents.{Border, bold, end, borders_by, borders_of, borders, onto_first, texts_by, texts_before, all_texts_before, texts}

onto_len : (bs : List ℕ) (ns : List (List ℕ)) → 1 ≤ length ns → length (onto_first bs ns) ≡ length ns
onto_len bs [] h = omega (arith, h)
onto_len bs (n ∷ ns) h = refl

-- a border on each side
styled : (x : Border) (bs : List Border) (inside : List (List ℕ) → List (List ℕ)) (after : List (List ℕ))
    → ((xs : List (List ℕ)) → 1 ≤ length xs → length (inside xs) ≡ length bs + length xs)
    → suc (length (inside ([] ∷ after))) ≡ length (x ∷ (bs ++ (end ∷ []))) + length after
styled x bs inside after h =
    let i = h ([] ∷ after) (omega arith) in
    let a = length-append bs (end ∷ []) in
    omega (arith, i, a)

by_way : (w : InlineForm) (n : ℕ) (shown : List ℕ) (bs : List Border) (inside : List (List ℕ) → List (List ℕ)) (after : List (List ℕ)) → 1 ≤ length after
    → ((xs : List (List ℕ)) → 1 ≤ length xs → length (inside xs) ≡ length bs + length xs)
    → length (texts_by w shown inside after) ≡ length (borders_by w n bs) + length after
by_way inline.Nothing n shown bs inside after h f = omega arith
by_way inline.Characters n shown bs inside after h f = let e = onto_len shown after h in omega (arith, e)
by_way inline.Bold n shown bs inside after h f = styled (bold n) bs inside after f
by_way inline.Italic n shown bs inside after h f = styled (bold n) bs inside after f
by_way inline.Shown n shown bs inside after h f = omega arith
by_way inline.PageLink n shown bs inside after h f = omega arith
by_way inline.ExternalLink n shown bs inside after h f = omega arith
by_way inline.Tag n shown bs inside after h f = omega arith
by_way inline.Break n shown bs inside after h f = omega arith
by_way inline.AsItStood n shown bs inside after h f = omega arith

mutual
  one : (t : Tree) (after : List (List ℕ)) → 1 ≤ length after → length (texts_before t after) ≡ length (borders_of t) + length after
  one (tree l ts) after h = by_way (edit_shape l.kind).inline l.id l.shown (borders ts) (all_texts_before ts) after h (λ xs g. all ts xs g)

  all : (ts : Trees) (after : List (List ℕ)) → 1 ≤ length after → length (all_texts_before ts after) ≡ length (borders ts) + length after
  all none after h = omega arith
  all (more t ts) after h =
      let r = all ts after h in
      let o = one t (all_texts_before ts after) (omega (arith, r, h)) in
      let a = length-append (borders_of t) (borders ts) in
      omega (arith, r, o, a)

pub texts_between : (ts : Trees) → length (texts ts) ≡ suc (length (borders ts))
texts_between ts = let r = all ts ([] ∷ []) (omega arith) in omega (arith, r)

-- Pieces are gathered by their places among their siblings.
use Rattle.std.proofs.Common.{◌≡◌, refl, sym, ap, subst, true, false, List, [], ◌∷◌, ◌++◌, map}
use Rattle.wt_tree.specs.Tree.{Tree, tree, more as one_more}
use Rattle.wt_schema.specs.Groups.{Piece, single, begun, further, furthers, gathered}
use Rattle.wt_page_laws.specs.Gathering.{trees, IsPlaced, BeginsAnew, AreGathered, nothing, alone, together}

record Split (xs : List Piece) : Type 0 where
  us : List Tree
  ys : List Piece
  whole : xs ≡ map further us ++ ys
  anew : BeginsAnew ys
  inside : furthers xs ≡ trees us
  same : gathered xs ≡ gathered ys
  rest : AreGathered ys (gathered ys)

opened : (xs : List Piece) → IsPlaced false xs → IsPlaced true xs
opened [] p = tt
opened (single t ∷ xs) p = p
opened (begun l t ∷ xs) p = p
opened (further t ∷ xs) p = (refl, p.1)

closed_by : (xs ys : List Piece) (us : List Tree) → IsPlaced false xs → xs ≡ map further us ++ ys → AreGathered ys (gathered ys) → AreGathered xs (gathered xs)
closed_by xs ys [] p e g = subst (λ zs. AreGathered zs (gathered zs)) (sym e) g
closed_by xs ys (u ∷ us) p e g = let q : IsPlaced false (further u ∷ (map further us ++ ys)) = subst (IsPlaced false) e p in let no : false ≡ true = q.0 in absurd (let n : true ≡ false = sym no in cc)

closed : (xs : List Piece) → IsPlaced false xs → Split xs → AreGathered xs (gathered xs)
closed xs p s = closed_by xs s.ys s.us p s.whole s.rest

grouped : (l : _) (t : Tree) (xs : List Piece) → Split xs → AreGathered (begun l t ∷ xs) (gathered (begun l t ∷ xs))
grouped l t xs s =
    subst (λ zs. AreGathered (begun l t ∷ zs) (one_more (tree l (one_more t (furthers xs))) (gathered xs))) (sym s.whole)
    (subst (λ ts. AreGathered (begun l t ∷ (map further s.us ++ s.ys)) (one_more (tree l (one_more t ts)) (gathered xs))) (sym s.inside)
    (subst (λ ts. AreGathered (begun l t ∷ (map further s.us ++ s.ys)) (one_more (tree l (one_more t (trees s.us))) ts)) (sym s.same)
    (together l t s.us s.ys (gathered s.ys) s.anew s.rest)))

split : (xs : List Piece) → IsPlaced true xs → Split xs
split [] p = record { us = []; ys = []; whole = refl; anew = tt; inside = refl; same = refl; rest = nothing }
split (single t ∷ xs) p = record {
  us = [];
  ys = single t ∷ xs;
  whole = refl;
  anew = tt;
  inside = refl;
  same = refl;
  rest = alone t xs (gathered xs) (closed xs p (split xs (opened xs p)));
}
split (begun l t ∷ xs) p = record {
  us = [];
  ys = begun l t ∷ xs;
  whole = refl;
  anew = tt;
  inside = refl;
  same = refl;
  rest = grouped l t xs (split xs p);
}
split (further t ∷ xs) p =
    let s = split xs p.1 in
    record {
      us = t ∷ s.us;
      ys = s.ys;
      whole = ap (λ zs. further t ∷ zs) s.whole;
      anew = s.anew;
      inside = ap (one_more t) s.inside;
      same = s.same;
      rest = s.rest;
    }

pub are_gathered : (xs : List Piece) → IsPlaced false xs → AreGathered xs (gathered xs)
are_gathered xs p = closed xs p (split xs (opened xs p))

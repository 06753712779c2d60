-- What fits doesn't hang on the numbers of elements, nor on where it stands, as far as it has a place there.
use Rattle.std.proofs.Common.{◌≡◌, ℕ, suc, ◌+◌, Bool, true, false, Option, Some, None, Result, Ok, Err, List, refl, sym, ap, subst}
use Rattle.std.specs.Prelude.{◌||◌, if◌then◌else◌}
use Rattle.wt_tree.specs.declared.kind.Kind.{Kind}
use Rattle.wt_tree.specs.Tree.{Label, Tree}
use Rattle.wt_html_grammar.specs.Markup.{Pair, Markup, Markups, text, node, empty, more}
use Rattle.wt_schema.specs.declared.why.FitWhy.TheVariants as why
use Rattle.wt_schema.specs.declared.standing.Standing.{Standing}
use Rattle.wt_schema.specs.Data.{Data, data_for}
use Rattle.wt_schema.specs.Fit.{Misfit, label_as, elements, texts_in, onto, onto_told, with_children, one_piece, text_fits, Position, within, row_as, behind_it, fits_place, is_inside, fit_told, fit_row, fit_node, fit_nodes}
use Rattle.wt_schema.specs.Groups.{standing, is_grouped, Piece}

-- where the first fits, the second fits to the same
abbrev pub SameOk : {A : Type 0} → Result A Misfit → Result A Misfit → Type 0
SameOk (Ok a) s = s ≡ Ok a
SameOk (Err e) s = Unit

pub same_self : {A : Type 0} (r : Result A Misfit) → SameOk r r
same_self (Ok a) = refl
same_self (Err e) = tt

pub same_ok : {A : Type 0} (r s : Result A Misfit) (a : A) → SameOk r s → r ≡ Ok a → s ≡ Ok a
same_ok r s a h e = subst (λ q. SameOk q s) e h

abbrev pub spot : Kind → Bool → Bool → Option (List ℕ) → Position
spot p inside behind group = record { parent = p; inside = inside; behind = behind; group = group }

onto_same : (x : Piece) (r s : Result (List Piece) Misfit) → SameOk r s → SameOk (onto x r) (onto x s)
onto_same x (Ok xs) s h = ap (onto x) h
onto_same x (Err e) s h = tt

told_same : (o p : Result (Option Piece) Misfit) (r s : Result (List Piece) Misfit) → SameOk o p → SameOk r s → SameOk (onto_told o r) (onto_told p s)
told_same (Err e) p r s h g = tt
told_same (Ok None) p r s h g = subst (λ (q : Result (Option Piece) Misfit). SameOk r (onto_told q s)) (sym h) g
told_same (Ok (Some x)) p r s h g = subst (λ (q : Result (Option Piece) Misfit). SameOk (onto x r) (onto_told q s)) (sym h) (onto_same x r s g)

children_same : (i : Bool) (k : Kind) (l : Label) (r s : Result (List Piece) Misfit) → SameOk r s → SameOk (with_children i k l r) (with_children i k l s)
children_same i k l (Ok xs) s h = ap (with_children i k l) h
children_same i k l (Err e) s h = tt

one_same : (w : Standing) (ps : List Pair) (d : Data) (r s : Result Tree Misfit) → SameOk r s → SameOk (one_piece w ps d r) (one_piece w ps d s)
one_same w ps d (Ok t) s h = ap (one_piece w ps d) h
one_same w ps d (Err e) s h = tt

data_same : (n m : ℕ) (i : Bool) (w : Standing) (k : Kind) (ps : List Pair) (o : Option Data) (c : Markups) (r s : Result (List Piece) Misfit)
    → SameOk r s → SameOk (fit_told n i w k ps o c r) (fit_told m i w k ps o c s)
data_same n m i w k ps None c r s h = tt
data_same n m i w k ps (Some d) c r s h = by_test (text_fits k c)
  where
    l : Label
    l = label_as w k ps d (texts_in c)

    by_test : (b : Bool) → SameOk (if b then one_piece w ps d (with_children i k l r) else Err (n, why.Text))
        (if b then one_piece w ps d (with_children i k l s) else Err (m, why.Text))
    by_test true = one_same w ps d (with_children i k l r) (with_children i k l s) (children_same i k l r s h)
    by_test false = tt

place_same : (n m : ℕ) (a b i : Bool) (w : Standing) (k : Kind) (ps : List Pair) (o : Option Data) (c : Markups) (r s : Result (List Piece) Misfit)
    → (a ≡ true → b ≡ true) → SameOk r s
    → SameOk (if a then fit_told n i w k ps o c r else Err (n, why.Place)) (if b then fit_told m i w k ps o c s else Err (m, why.Place))
place_same n m true b i w k ps o c r s e h =
    subst (λ (q : Bool). SameOk (fit_told n i w k ps o c r) (if q then fit_told m i w k ps o c s else Err (m, why.Place))) (sym (e refl))
    (data_same n m i w k ps o c r s h)
place_same n m false b i w k ps o c r s e h = tt

pub row_same : (n m : ℕ) (p q : Kind) (inside behind later : Bool) (g h : Option (List ℕ)) (w : Standing) (j : Option Kind) (ps : List Pair) (c : Markups)
    (held kept : Kind → Result (List Piece) Misfit) → ((k : Kind) → fits_place p behind w k c ≡ true → fits_place q later w k c ≡ true)
    → ((k : Kind) → SameOk (held k) (kept k))
    → SameOk (fit_row n (spot p inside behind g) w j ps c held) (fit_row m (spot q inside later h) w j ps c kept)
row_same n m p q inside behind later g h w None ps c held kept e f = tt
row_same n m p q inside behind later g h w (Some k) ps c held kept e f =
    place_same n m (fits_place p behind w k c) (fits_place q later w k c) (inside || is_grouped w) w k ps (data_for inside w k ps) c (held k) (kept k) (e k) (f k)

mutual
  node_same : (t : Markup) (ts : Markups) (n m : ℕ) (x : Position) → SameOk (fit_node n x t ts) (fit_node m x t ts)
  node_same (text bs) ts n m x = refl
  node_same (node name ps c) ts n m x =
      let w = standing x.group ps in
      row_same n m x.parent x.parent x.inside x.behind x.behind x.group x.group w (row_as w name ps) ps c
      (λ k. fit_nodes (suc n) (within k (is_inside x w)) c) (λ k. fit_nodes (suc m) (within k (is_inside x w)) c) (λ k e. e)
      (λ k. nodes_same c (suc n) (suc m) (within k (is_inside x w)))

  pub nodes_same : (ts : Markups) (n m : ℕ) (x : Position) → SameOk (fit_nodes n x ts) (fit_nodes m x ts)
  nodes_same empty n m x = refl
  nodes_same (more t ts) n m x =
      let y = behind_it x t ts in
      told_same (fit_node n x t ts) (fit_node m x t ts) (fit_nodes (n + elements t) y ts) (fit_nodes (m + elements t) y ts) (node_same t ts n m x)
      (nodes_same ts (n + elements t) (m + elements t) y)

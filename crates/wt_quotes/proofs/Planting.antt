-- The forest of styles that nest shows the line.
use Rattle.std.proofs.Common.{◌≡◌, ℕ, ◌+◌, ◌-◌, ◌≤◌, Bool, true, false, List, [], ◌∷◌, ◌++◌, refl, sym, ap, subst, ◌∙◌, arith, inl, inr, append_assoc}
use Rattle.std.specs.Prelude.{if◌then◌else◌, All}
use Rattle.std.proofs.lemmas.Bool.Decides.{nat_tests}
use Rattle.std.proofs.lemmas.List.Elements.{All-head, All-tail, All-weaker}
use Rattle.wt_quotes.specs.declared.style.Style.{Style}
use Rattle.wt_quotes.specs.StyleLaws.{IsWhole, IsBehindOrInside}
use Rattle.wt_quotes.specs.Forest.{Forest, bare, grown, preorder, lies_in, inside_of, past, forest_of, Piece, mark, pieces, AreJoined}
use Rattle.wt_quotes.proofs.Nesting.{Pairs}

-- the forest has the styles

split_by : (b : Bool) (u : Style) (f g in_g past_g : Forest) → preorder in_g ++ preorder past_g ≡ preorder g
    → preorder (if b then grown u f in_g else bare) ++ preorder (if b then past_g else grown u f g) ≡ u ∷ (preorder f ++ preorder g)
split_by true u f g in_g past_g e = ap (λ us. u ∷ us) (append_assoc (preorder f) (preorder in_g) (preorder past_g) ∙ ap (λ us. preorder f ++ us) e)
split_by false u f g in_g past_g e = refl

split_preorder : (s : Style) (f : Forest) → preorder (inside_of s f) ++ preorder (past s f) ≡ preorder f
split_preorder s bare = refl
split_preorder s (grown u f g) = split_by (lies_in u s) u f g (inside_of s g) (past s g) (split_preorder s g)

pub preorder_of : (us : List Style) → preorder (forest_of us) ≡ us
preorder_of [] = refl
preorder_of (s ∷ ss) = ap (λ us. s ∷ us) (split_preorder s (forest_of ss) ∙ preorder_of ss)

-- the forest fills the line

abbrev pub Fill : ℕ → ℕ → Forest → Type 0
Fill low high bare = low ≤ high
Fill low high (grown s f g) = (low ≤ s.from) × Fill (s.from + s.open_w) (s.to - s.close_w) f × (s.close_w ≤ s.to) × Fill s.to high g

pub fill_le : (low high : ℕ) (f : Forest) → Fill low high f → low ≤ high
fill_le low high bare h = h
fill_le low high (grown s f g) h = omega (arith, h.0, h.2, fill_le (s.from + s.open_w) (s.to - s.close_w) f h.1, fill_le s.to high g h.3)

joined_append : (a b c : ℕ) (ps qs : List Piece) → AreJoined a b ps → AreJoined b c qs → AreJoined a c (ps ++ qs)
joined_append a b c [] qs h k = subst (λ n. AreJoined n c qs) (sym h) k
joined_append a b c (p ∷ ps) qs h k = (h.0, h.1, joined_append p.to b c ps qs h.2 k)

pub joined : (low high : ℕ) (f : Forest) → Fill low high f → AreJoined low high (pieces low high f)
joined low high bare h = (refl, h, refl)
joined low high (grown s f g) h =
    let l = fill_le (s.from + s.open_w) (s.to - s.close_w) f h.1 in (
      refl,
      h.0,
      (
        refl,
        omega arith,
        joined_append (s.from + s.open_w) (s.to - s.close_w) high (pieces (s.from + s.open_w) (s.to - s.close_w) f)
            (mark (s.to - s.close_w) s.to ∷ pieces s.to high g)
            (joined (s.from + s.open_w) (s.to - s.close_w) f h.1) (refl, omega arith, joined s.to high g h.3),
      ),
    )

-- each root lies behind a style or inside it
abbrev Roots : Style → Forest → Type 0
Roots s bare = Unit {0}
Roots s (grown u f g) = IsBehindOrInside s u × Roots s g

roots_of : (s : Style) (f : Forest) → All (IsBehindOrInside s) (preorder f) → Roots s f
roots_of s bare h = tt
roots_of s (grown u f g) h = (
  All-head (IsBehindOrInside s) u (preorder f ++ preorder g) h,
  roots_of s g (all_right (preorder f) (preorder g) (All-tail (IsBehindOrInside s) u (preorder f ++ preorder g) h)),
)
  where
    all_right : (xs ys : List Style) → All (IsBehindOrInside s) (xs ++ ys) → All (IsBehindOrInside s) ys
    all_right [] ys k = k
    all_right (x ∷ xs) ys k = all_right xs ys (All-tail (IsBehindOrInside s) x (xs ++ ys) k)

in_true : (u s : Style) → lies_in u s ≡ true → (s.from + s.open_w ≤ u.from) × (u.to + s.close_w ≤ s.to)
in_true u s e = (grind (arith, nat_tests), grind (arith, nat_tests))

behind_if : (u s : Style) → lies_in u s ≡ false → IsBehindOrInside s u → s.to ≤ u.from
behind_if u s e (inl l) = l
behind_if u s e (inr h) = absurd (grind (arith, nat_tests, h.0, h.1))

-- a style takes the trees that lie in it, and leaves the others behind it

Split : ℕ → ℕ → Style → Forest → Forest → Type 0
Split low total s f g = Fill low (s.to - s.close_w) f × Fill s.to total g

split_fill_by : (b : Bool) (low total : ℕ) (s u : Style) (f g in_g past_g : Forest) → lies_in u s ≡ b → IsBehindOrInside s u
    → low ≤ s.to - s.close_w → s.close_w ≤ s.to → Fill low total (grown u f g)
    → (u.to ≤ s.to - s.close_w → Split u.to total s in_g past_g) → Split low total s (if b then grown u f in_g else bare) (if b then past_g else grown u f g)
unfolding Split
split_fill_by true low total s u f g in_g past_g e r l w h k =
    let is = in_true u s e in
    let rest = k (omega (arith, is.1)) in
    ((h.0, h.1, h.2, rest.0), rest.1)
split_fill_by false low total s u f g in_g past_g e r l w h k = (l, (behind_if u s e r, h.1, h.2, h.3))

split_fill : (low total : ℕ) (s : Style) (f : Forest) → Roots s f → low ≤ s.to - s.close_w → s.close_w ≤ s.to → s.to ≤ total
    → Fill low total f → Split low total s (inside_of s f) (past s f)
unfolding Split
split_fill low total s bare r l w t h = (l, t)
split_fill low total s (grown u f g) r l w t h =
    split_fill_by (lies_in u s) low total s u f g (inside_of s g) (past s g) refl r.0 l w h
    (λ m. split_fill u.to total s g r.1 m w t h.3)

inner_from : (s : Style) (us : List Style) → IsWhole s.to s → All (IsBehindOrInside s) us → All (λ u. s.from + s.open_w ≤ u.from) us
inner_from s us w h = All-weaker (IsBehindOrInside s) (λ u. s.from + s.open_w ≤ u.from) (λ u is. from_is s u w is) us h
  where
    from_is : (s u : Style) → IsWhole s.to s → IsBehindOrInside s u → s.from + s.open_w ≤ u.from
    from_is s u v (inl l) = omega (arith, v.0, l)
    from_is s u v (inr k) = k.0

pub fills : (low total : ℕ) (us : List Style) → Pairs us → All (IsWhole total) us → All (λ u. low ≤ u.from) us → low ≤ total → Fill low total (forest_of us)
unfolding Split
fills low total [] h w f l = l
fills low total (s ∷ ss) h w f l =
    let whole = All-head (IsWhole total) s ss w in
    let rest = fills (s.from + s.open_w) total ss h.1 (All-tail (IsWhole total) s ss w)
    (inner_from s ss (whole.0, omega arith) h.0) (omega (arith, whole.0, whole.1)) in
    let roots = roots_of s (forest_of ss) (subst (All (IsBehindOrInside s)) (sym (preorder_of ss)) h.0) in
    let split = split_fill (s.from + s.open_w) total s (forest_of ss) roots (omega (arith, whole.0)) (omega (arith, whole.0)) whole.1 rest in
    (All-head (λ u. low ≤ u.from) s ss f, split.0, omega (arith, whole.0), split.1)

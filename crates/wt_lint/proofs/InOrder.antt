-- What is put in order is in order, each once, and the same.
use Rattle.std.proofs.Common.{◌≡◌, ℕ, Bool, true, false, List, [], ◌∷◌, refl, sym, ap, ◌∙◌, arith}
use Rattle.std.specs.Prelude.{◌||◌, ◌==◌, nat_lt, cond, if◌then◌else◌}
use Rattle.std.proofs.lemmas.Bool.Decides.{nat_tests}
use Rattle.std.specs.BTreeSet.{insert_key}
use Rattle.std.specs.Cmp.{IsTotalOrder, nat_cmp_total, alike_right, then_flip}
use Rattle.std.specs.List.{AllByRecursion, list_any}
use Rattle.std.specs.List.Sorted.{IsStrictlySortedBy}
use Rattle.std.specs.Ordering.{match_ordering, nat_cmp, ordering_reverse, ordering_then}
use Rattle.std.specs.declared.cmp.Ordering.{Ordering}
use Rattle.std.specs.declared.cmp.Ordering.TheVariants.{Less, Equal, Greater}
use Rattle.wt_lint.specs.declared.finding.Kind.{Kind}
use Rattle.wt_lint.specs.declared.finding.Kind.TheVariants as kind
use Rattle.wt_lint.specs.Findings.{in_order, order_of, put_all}
use Rattle.wt_lint.specs.Found.{KindAndRange}
use Rattle.wt_lint.specs.Kinds.{rank}

-- ---- the order

-- one comparison, and then another where the first ties
chain : {K : Type 0} {R : K → K → Ordering} (o : IsTotalOrder R) (x y z : K) (p q s : Ordering) → (p ≡ Less → q ≡ Less → s ≡ Less)
    → ordering_then (R x y) p ≡ Less → ordering_then (R y z) q ≡ Less → ordering_then (R x z) s ≡ Less
chain {K} {R} o x y z p q s f h k = by (R x y) (R y z) refl refl h k
  where
    by : (a b : Ordering) → R x y ≡ a → R y z ≡ b → ordering_then a p ≡ Less → ordering_then b q ≡ Less → ordering_then (R x z) s ≡ Less
    by Less Less d e h k = ap (λ r. ordering_then r s) (o.trans x y z d e)
    by Less Equal d e h k = ap (λ r. ordering_then r s) (sym (alike_right o y z x e) ∙ d)
    by Less Greater d e h k = absurd cc
    by Equal Less d e h k = ap (λ r. ordering_then r s) (o.congr x y z d ∙ e)
    by Equal Equal d e h k = ap (λ r. ordering_then r s) (o.congr x y z d ∙ e) ∙ f h k
    by Equal Greater d e h k = absurd cc
    by Greater b d e h k = absurd cc

order_trans : (f g h : KindAndRange) → order_of f g ≡ Less → order_of g h ≡ Less → order_of f h ≡ Less
order_trans f g h =
    chain nat_cmp_total f.1.0 g.1.0 h.1.0 _ _ _
    (chain nat_cmp_total f.1.1 g.1.1 h.1.1 _ _ _ (nat_cmp_total.trans (rank f.0) (rank g.0) (rank h.0)))

order_turn : (f g : KindAndRange) → order_of f g ≡ ordering_reverse (order_of g f)
order_turn f g =
    let a = nat_cmp g.1.0 f.1.0 in
    let b = nat_cmp g.1.1 f.1.1 in
    let c = nat_cmp (rank g.0) (rank f.0) in
    ap (λ r. ordering_then r (ordering_then (nat_cmp f.1.1 g.1.1) (nat_cmp (rank f.0) (rank g.0)))) (nat_cmp_total.antisymm f.1.0 g.1.0)
    ∙ ap (λ r. ordering_then (ordering_reverse a) (ordering_then r (nat_cmp (rank f.0) (rank g.0)))) (nat_cmp_total.antisymm f.1.1 g.1.1)
    ∙ ap (λ r. ordering_then (ordering_reverse a) (ordering_then (ordering_reverse b) r)) (nat_cmp_total.antisymm (rank f.0) (rank g.0))
    ∙ ap (ordering_then (ordering_reverse a)) (then_flip b c) ∙ then_flip a (ordering_then b c)

order_back : (f g : KindAndRange) → order_of f g ≡ Greater → order_of g f ≡ Less
order_back f g e = order_turn g f ∙ ap ordering_reverse e

-- ---- sorted

below_put : (f k : KindAndRange) (gs : List KindAndRange) → AllByRecursion (λ g. order_of f g ≡ Less) gs → order_of f k ≡ Less
    → AllByRecursion (λ g. order_of f g ≡ Less) (insert_key order_of gs k)
below_put f k [] all e = (e, tt)
below_put f k (g ∷ gs) all e = by (order_of k g) (below_put f k gs all.1 e)
  where
    by : (r : Ordering) → AllByRecursion (λ g. order_of f g ≡ Less) (insert_key order_of gs k)
        → AllByRecursion (λ g. order_of f g ≡ Less) (match_ordering r (k ∷ g ∷ gs) (g ∷ gs) (g ∷ insert_key order_of gs k))
    by Less h = (e, all)
    by Equal h = all
    by Greater h = (all.0, h)

below_all : (f g : KindAndRange) (gs : List KindAndRange) → order_of f g ≡ Less → AllByRecursion (λ h. order_of g h ≡ Less) gs → AllByRecursion (λ h. order_of f h ≡ Less) gs
below_all f g [] e all = tt
below_all f g (h ∷ hs) e all = (order_trans f g h e all.0, below_all f g hs e all.1)

put_sorted : (k : KindAndRange) (gs : List KindAndRange) → IsStrictlySortedBy order_of gs → IsStrictlySortedBy order_of (insert_key order_of gs k)
unfolding IsStrictlySortedBy
put_sorted k [] s = (tt, tt)
put_sorted k (g ∷ gs) s = by (order_of k g) refl (put_sorted k gs s.1)
  where
    by : (r : Ordering) → order_of k g ≡ r → IsStrictlySortedBy order_of (insert_key order_of gs k)
        → IsStrictlySortedBy order_of (match_ordering r (k ∷ g ∷ gs) (g ∷ gs) (g ∷ insert_key order_of gs k))
    by Less e h = ((e, below_all k g gs e s.0), s)
    by Equal e h = s
    by Greater e h = (below_put g k gs s.0 (order_back k g e), h)

all_sorted : (gs fs : List KindAndRange) → IsStrictlySortedBy order_of gs → IsStrictlySortedBy order_of (put_all gs fs)
all_sorted gs [] s = s
all_sorted gs (f ∷ fs) s = all_sorted (insert_key order_of gs f) fs (put_sorted f gs s)

pub sorted : (fs : List KindAndRange) → IsStrictlySortedBy order_of (in_order fs)
unfolding IsStrictlySortedBy
sorted fs = all_sorted [] fs tt

-- ---- the same

kind_at : ℕ → Kind
kind_at n =
    if n == 0 then kind.OpenStyle else if n == 1 then kind.OpenTable else if n == 2 then kind.StrayTableEnd else if n == 3 then kind.OpenTag
    else if n == 4 then kind.StrayTag else if n == 5 then kind.OpenBraces else if n == 6 then kind.StrayBraces else if n == 7 then kind.OpenLink
    else if n == 8 then kind.StrayLinkEnd else if n == 9 then kind.UnequalHeading else kind.RepeatedCategory

kind_of_rank : (k : Kind) → kind_at (rank k) ≡ k
unfolding kind_at
kind_of_rank kind.OpenStyle = refl
kind_of_rank kind.OpenTable = refl
kind_of_rank kind.StrayTableEnd = refl
kind_of_rank kind.OpenTag = refl
kind_of_rank kind.StrayTag = refl
kind_of_rank kind.OpenBraces = refl
kind_of_rank kind.StrayBraces = refl
kind_of_rank kind.OpenLink = refl
kind_of_rank kind.StrayLinkEnd = refl
kind_of_rank kind.UnequalHeading = refl
kind_of_rank kind.RepeatedCategory = refl

same_number : (m n : ℕ) → nat_cmp m n ≡ Equal → m ≡ n
same_number m n e = by (nat_lt m n) (m == n) refl e
  where
    by : (less same : Bool) → (m == n) ≡ same → cond less Less (cond same Equal Greater) ≡ Equal → m ≡ n
    by true same d e = absurd cc
    by false true d e = grind (arith, nat_tests)
    by false false d e = absurd cc

both_tie : (a b : Ordering) → ordering_then a b ≡ Equal → (a ≡ Equal) × (b ≡ Equal)
both_tie Less b e = absurd cc
both_tie Equal b e = (refl, e)
both_tie Greater b e = absurd cc

-- two that tie are one
tied : (f g : KindAndRange) → order_of f g ≡ Equal → f ≡ g
tied f g e =
    let a = both_tie (nat_cmp f.1.0 g.1.0) _ e in
    let b = both_tie (nat_cmp f.1.1 g.1.1) _ a.1 in
    let k : f.0 ≡ g.0 = sym (kind_of_rank f.0) ∙ ap kind_at (same_number (rank f.0) (rank g.0) b.1) ∙ kind_of_rank g.0 in
    let s : f.1.0 ≡ g.1.0 = same_number f.1.0 g.1.0 a.0 in
    let t : f.1.1 ≡ g.1.1 = same_number f.1.1 g.1.1 b.0 in
    λ i. (k i, (s i, t i))

put_same : (test : KindAndRange → Bool) (k : KindAndRange) (gs : List KindAndRange) → list_any test (insert_key order_of gs k) ≡ (list_any test gs || test k)
put_same test k [] = by (test k)
  where
    by : (v : Bool) → (v || false) ≡ v
    by true = refl
    by false = refl
put_same test k (g ∷ gs) = by (order_of k g) refl (put_same test k gs)
  where
    turned : (v w : Bool) → (v || w) ≡ (w || v)
    turned true true = refl
    turned true false = refl
    turned false true = refl
    turned false false = refl

    held : (v w : Bool) → (v || w) ≡ ((v || w) || v)
    held true w = refl
    held false true = refl
    held false false = refl

    shifted : (u v w : Bool) → (u || (v || w)) ≡ ((u || v) || w)
    shifted true v w = refl
    shifted false v w = refl

    by : (r : Ordering) → order_of k g ≡ r → list_any test (insert_key order_of gs k) ≡ (list_any test gs || test k)
        → list_any test (match_ordering r (k ∷ g ∷ gs) (g ∷ gs) (g ∷ insert_key order_of gs k)) ≡ (list_any test (g ∷ gs) || test k)
    by Less e h = turned (test k) (list_any test (g ∷ gs))
    by Equal e h = held (test g) (list_any test gs) ∙ ap (λ f. list_any test (g ∷ gs) || test f) (sym (tied k g e))
    by Greater e h = ap (λ v. test g || v) h ∙ shifted (test g) (list_any test gs) (test k)

all_same : (test : KindAndRange → Bool) (gs fs : List KindAndRange) → list_any test (put_all gs fs) ≡ (list_any test gs || list_any test fs)
all_same test gs [] = by (list_any test gs)
  where
    by : (v : Bool) → v ≡ (v || false)
    by true = refl
    by false = refl
all_same test gs (f ∷ fs) =
    all_same test (insert_key order_of gs f) fs ∙ ap (λ v. v || list_any test fs) (put_same test f gs)
    ∙ sym (shifted (list_any test gs) (test f) (list_any test fs))
  where
    shifted : (u v w : Bool) → (u || (v || w)) ≡ ((u || v) || w)
    shifted true v w = refl
    shifted false v w = refl

pub same : (test : KindAndRange → Bool) (fs : List KindAndRange) → list_any test (in_order fs) ≡ list_any test fs
same test fs = all_same test [] fs

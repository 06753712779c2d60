-- Findings in order.
use Rattle.std.proofs.Common.{◌≡◌, ℕ, List, [], ◌∷◌, ◌++◌, map, refl, sym, ap, ◌∙◌, append_assoc}
use Rattle.std.proofs.lemmas.List.{map-append}
use Rattle.std.specs.BTreeSet.{insert_key}
use Rattle.std.specs.Ordering.{match_ordering, ordering_then, nat_cmp}
use Rattle.std.specs.declared.cmp.Ordering.{Ordering}
use Rattle.std.specs.declared.cmp.Ordering.TheVariants.{Less, Equal, Greater}
use Rattle.wt_lint.specs.contracts.finding.KindOrd.TheImpl as kind_ord
use Rattle.wt_lint.specs.declared.finding.Kind.{Kind}
use Rattle.wt_lint.specs.declared.finding.Kind.TheVariants as kind
use Rattle.wt_lint.specs.declared.finding.Finding.{Finding}
use Rattle.wt_lint.specs.declared.bare_finding.BareFinding.{BareFinding}
use Rattle.wt_lint.specs.Findings.{order_of}
use Rattle.wt_lint.specs.Found.{each, seen}
use Rattle.wt_lint.specs.Kinds.{rank}
use Rattle.wt_lint.specs.Lines.{Located, as_located, located}

-- what is put among what is kept is seen among what is seen
pub put_seen : (cmp : BareFinding → BareFinding → Ordering) → ((x y : BareFinding) → cmp x y ≡ order_of (seen x) (seen y)) → (ks : List BareFinding) (k : BareFinding)
    → each (insert_key cmp ks k) ≡ insert_key order_of (each ks) (seen k)
put_seen cmp same [] k = refl
put_seen cmp same (x ∷ ks) k =
    by (cmp k x) (put_seen cmp same ks k) ∙ ap (λ o. match_ordering o (seen k ∷ seen x ∷ each ks) (seen x ∷ each ks) (seen x ∷ insert_key order_of (each ks) (seen k))) (same k x)
  where
    by : (o : Ordering) → each (insert_key cmp ks k) ≡ insert_key order_of (each ks) (seen k)
        → each (match_ordering o (k ∷ x ∷ ks) (x ∷ ks) (x ∷ insert_key cmp ks k))
        ≡ match_ordering o (seen k ∷ seen x ∷ each ks) (seen x ∷ each ks) (seen x ∷ insert_key order_of (each ks) (seen k))
    by Less h = refl
    by Equal h = refl
    by Greater h = ap (λ fs. seen x ∷ fs) h

-- what holds of each kind
by_kind : (P : Kind → Type 0) → P kind.OpenStyle → P kind.OpenTable → P kind.StrayTableEnd → P kind.OpenTag → P kind.StrayTag → P kind.OpenBraces
    → P kind.StrayBraces → P kind.OpenLink → P kind.StrayLinkEnd → P kind.UnequalHeading → P kind.RepeatedCategory → (k : Kind) → P k
by_kind P a b c d e f g h i j l kind.OpenStyle = a
by_kind P a b c d e f g h i j l kind.OpenTable = b
by_kind P a b c d e f g h i j l kind.StrayTableEnd = c
by_kind P a b c d e f g h i j l kind.OpenTag = d
by_kind P a b c d e f g h i j l kind.StrayTag = e
by_kind P a b c d e f g h i j l kind.OpenBraces = f
by_kind P a b c d e f g h i j l kind.StrayBraces = g
by_kind P a b c d e f g h i j l kind.OpenLink = h
by_kind P a b c d e f g h i j l kind.StrayLinkEnd = i
by_kind P a b c d e f g h i j l kind.UnequalHeading = j
by_kind P a b c d e f g h i j l kind.RepeatedCategory = l

abbrev SameOrder : Kind → Kind → Type 0
SameOrder a b = kind_ord.ghosts.cmp a b ≡ nat_cmp (rank a) (rank b)

-- kinds are compared by their rank
kind_order : (a b : Kind) → SameOrder a b
kind_order =
    by_kind (λ a. (b : Kind) → SameOrder a b)
    (by_kind (SameOrder kind.OpenStyle) refl refl refl refl refl refl refl refl refl refl refl)
    (by_kind (SameOrder kind.OpenTable) refl refl refl refl refl refl refl refl refl refl refl)
    (by_kind (SameOrder kind.StrayTableEnd) refl refl refl refl refl refl refl refl refl refl refl)
    (by_kind (SameOrder kind.OpenTag) refl refl refl refl refl refl refl refl refl refl refl)
    (by_kind (SameOrder kind.StrayTag) refl refl refl refl refl refl refl refl refl refl refl)
    (by_kind (SameOrder kind.OpenBraces) refl refl refl refl refl refl refl refl refl refl refl)
    (by_kind (SameOrder kind.StrayBraces) refl refl refl refl refl refl refl refl refl refl refl)
    (by_kind (SameOrder kind.OpenLink) refl refl refl refl refl refl refl refl refl refl refl)
    (by_kind (SameOrder kind.StrayLinkEnd) refl refl refl refl refl refl refl refl refl refl refl)
    (by_kind (SameOrder kind.UnequalHeading) refl refl refl refl refl refl refl refl refl refl refl)
    (by_kind (SameOrder kind.RepeatedCategory) refl refl refl refl refl refl refl refl refl refl refl)

pub spot_order : (x y : BareFinding)
    → ordering_then (nat_cmp x.start y.start) (ordering_then (nat_cmp x.end y.end) (kind_ord.ghosts.cmp x.kind y.kind)) ≡ order_of (seen x) (seen y)
spot_order x y = ap (λ o. ordering_then (nat_cmp x.start y.start) (ordering_then (nat_cmp x.end y.end) o)) (kind_order x.kind y.kind)

-- ---- the loop that gives lines

pub lines_turn : (page : List ℕ) (fs : List Finding) (f : Finding) (spot : BareFinding) (ks rest : List BareFinding) (gs : List Finding) (t : List Located) → ks ≡ spot ∷ rest
    → as_located f ≡ located page (seen spot) → gs ≡ fs ++ f ∷ []
    → map as_located fs ++ map (located page) (each ks) ≡ t → map as_located gs ++ map (located page) (each rest) ≡ t
lines_turn page fs f spot ks rest gs t e l g h =
    ap (λ xs. map as_located xs ++ map (located page) (each rest)) g
    ∙ ap (λ xs. xs ++ map (located page) (each rest)) (map-append as_located fs (f ∷ []))
    ∙ append_assoc (map as_located fs) (as_located f ∷ []) (map (located page) (each rest))
    ∙ ap (λ x. map as_located fs ++ (x ∷ map (located page) (each rest))) l
    ∙ ap (λ xs. map as_located fs ++ map (located page) (each xs)) (sym e) ∙ h

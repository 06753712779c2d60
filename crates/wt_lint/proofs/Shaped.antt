-- What is found has the bytes of its kind.
use Rattle.std.proofs.Common.{◌≡◌, ℕ, ◌+◌, ◌-◌, ◌≤◌, ◌<◌, Bool, true, false, List, [], ◌∷◌, length, take, drop, refl, sym, ap, ◌∙◌, subst, suc, arith}
use Rattle.std.specs.Prelude.{◌==◌, ◌&&◌, nat_lt, Option, Some, None, if◌then◌else◌}
use Rattle.std.specs.List.{AllByRecursion, prefix_len}
use Rattle.std.proofs.lemmas.Bool.Decides.{nat_tests}
use Rattle.std.proofs.lemmas.List.{drop-drop, drop-take, length-drop, length-take-le, take-take}
use Rattle.wt_tree.specs.declared.kind.Ranges.{Ranges}
use Rattle.wt_tree.specs.Tree.{Label, Tree}
use Rattle.wt_annotated.specs.Reached.{AreReachedSlices}
use Rattle.wt_annotated.specs.Slices.{slice}
use Rattle.wt_lint.specs.declared.finding.Kind.{Kind}
use Rattle.wt_lint.specs.declared.finding.Kind.TheVariants as kind
use Rattle.wt_lint.specs.declared.place.Place.{Place}
use Rattle.wt_lint.specs.declared.place.Sort.{Sort}
use Rattle.wt_lint.specs.Findings.{all_found, at_range, found, stray_ends, whole}
use Rattle.wt_lint.specs.Found.{Span, as_all}
use Rattle.wt_lint.specs.Kinds.{kinds}
use Rattle.wt_lint.specs.Nodes.{sort_of}
use Rattle.wt_lint.specs.Shapes.{AreOnly, HasShape, IsShaped}
use Rattle.wt_lint.specs.Texts.{when, run_at, runs, pairs, ends_table, end_at, stands_first, table_ends}
use Rattle.wt_lint.proofs.InPage.{first_of, holds_of_all, join, join_all, two_long, IsOf}
use Rattle.wt_lint.proofs.LineLaws.{prefix_few}

-- ---- a part of a slice

part : (page : List ℕ) (at n end : ℕ) → at + n ≤ end → slice page at (at + n) ≡ take n (slice page at end)
part page at n end le = ap (drop at) (sym (take-take (at + n) end page le)) ∙ drop-take at n (take end page)

-- what stands behind the first byte
rest_is : (page : List ℕ) (at end b : ℕ) (bs : List ℕ) → b ∷ bs ≡ slice page at end → bs ≡ slice page (at + 1) end
rest_is page at end b bs e = ap (drop 1) e ∙ drop-drop 1 at (take end page)

-- what stands at these ranges has a shape
abbrev Made : (List ℕ → Type 0) → List ℕ → List Span → Type 0
Made Shape page spans = AllByRecursion (λ s. Shape (slice page s.0 s.1)) spans

made_when : (Shape : List ℕ → Type 0) (page : List ℕ) (v : Bool) (spans : List Span) → (v ≡ true → Made Shape page spans) → Made Shape page (when v spans)
made_when Shape page true spans h = h refl
made_when Shape page false spans h = tt

-- ---- runs

same_byte : (b byte : ℕ) → (b == byte) ≡ true → b ≡ byte
same_byte b byte e = grind (arith, nat_tests)

only_front : (byte : ℕ) (bs : List ℕ) → AllByRecursion (λ b. b ≡ byte) (take (prefix_len (λ b. b == byte) bs) bs)
only_front byte [] = tt
only_front byte (b ∷ bs) = by (b == byte) refl (only_front byte bs)
  where
    by : (v : Bool) → (b == byte) ≡ v → AllByRecursion (λ c. c ≡ byte) (take (prefix_len (λ c. c == byte) bs) bs)
        → AllByRecursion (λ c. c ≡ byte) (take (if v then 1 + prefix_len (λ c. c == byte) bs else 0) (b ∷ bs))
    by true e h =
        let more : suc (prefix_len (λ c. c == byte) bs) ≡ 1 + prefix_len (λ c. c == byte) bs = omega arith in
        subst (λ (m : ℕ). AllByRecursion (λ c. c ≡ byte) (take m (b ∷ bs))) more (same_byte b byte e, h)
    by false e h = tt

run_made : (page : List ℕ) (byte at end : ℕ) (bs : List ℕ) → bs ≡ slice page at end → at + length bs ≤ end → Made (AreOnly byte) page (run_at byte at bs)
run_made page byte at end bs e le =
    let n = prefix_len (λ b. b == byte) bs in
    let few : n ≤ length bs = prefix_few (λ b. b == byte) bs in
    let is : slice page at (at + n) ≡ take n bs = part page at n end (omega (arith, le, few)) ∙ ap (take n) (sym e) in
    made_when (AreOnly byte) page (nat_lt 1 n) ((at, at + n) ∷ [])
    (λ more. (subst (AreOnly byte) (sym is) (record { two = two n more few; only = only_front byte bs }), tt))
  where
    two : (n : ℕ) → nat_lt 1 n ≡ true → n ≤ length bs → 2 ≤ length (take n bs)
    two n more few =
        let lt : 1 < n = grind (arith, nat_tests) in
        omega (arith, lt, length-take-le n bs few)

runs_made : (page : List ℕ) (byte at end : ℕ) (behind : Bool) (bs : List ℕ) → bs ≡ slice page at end → at + length bs ≤ end
    → Made (AreOnly byte) page (runs byte at behind bs)
runs_made page byte at end behind [] e le = tt
runs_made page byte at end behind (b ∷ bs) e le =
    join (λ s. AreOnly byte (slice page s.0 s.1)) (if behind then [] else run_at byte at (b ∷ bs)) (runs byte (at + 1) (b == byte) bs) (by behind)
    (runs_made page byte (at + 1) end (b == byte) bs (rest_is page at end b bs e) (omega (arith, le)))
  where
    by : (v : Bool) → Made (AreOnly byte) page (if v then [] else run_at byte at (b ∷ bs))
    by true = tt
    by false = run_made page byte at end (b ∷ bs) e le

-- ---- pairs

second_of : (v w : Bool) → (v && w) ≡ true → w ≡ true
second_of true w e = e
second_of false w e = cc

pairs_made : (page : List ℕ) (byte at end : ℕ) (bs : List ℕ) → bs ≡ slice page at end → at + length bs ≤ end
    → Made (λ xs. xs ≡ byte ∷ byte ∷ []) page (pairs byte at bs)
pairs_made page byte at end [] e le = tt
pairs_made page byte at end (b ∷ []) e le = tt
pairs_made page byte at end (b ∷ c ∷ bs) e le =
    by (b == byte && c == byte) refl
    (pairs_made page byte (at + 2) end bs (ap (drop 2) e ∙ drop-drop 2 at (take end page)) (omega (arith, le)))
    (pairs_made page byte (at + 1) end (c ∷ bs) (rest_is page at end b (c ∷ bs) e) (omega (arith, le)))
  where
    by : (v : Bool) → (b == byte && c == byte) ≡ v → Made (λ xs. xs ≡ byte ∷ byte ∷ []) page (pairs byte (at + 2) bs)
        → Made (λ xs. xs ≡ byte ∷ byte ∷ []) page (pairs byte (at + 1) (c ∷ bs))
        → Made (λ xs. xs ≡ byte ∷ byte ∷ []) page (if v then (at, at + 2) ∷ pairs byte (at + 2) bs else pairs byte (at + 1) (c ∷ bs))
    by true both h k =
        let one : b ≡ byte = same_byte b byte (first_of (b == byte) (c == byte) both) in
        let other : c ≡ byte = same_byte c byte (second_of (b == byte) (c == byte) both) in
        (part page at 2 end (omega (arith, le)) ∙ ap (take 2) (sym e) ∙ ap (λ (x : ℕ). x ∷ c ∷ []) one ∙ ap (λ (x : ℕ). byte ∷ x ∷ []) other, h)
    by false both h k = k

-- ---- ends of tables

two_bytes : (bs : List ℕ) → ends_table bs ≡ true → take 2 bs ≡ 124 ∷ 125 ∷ []
two_bytes [] e = cc
two_bytes (b ∷ []) e = absurd (not_one (b == 124) e)
  where
    not_one : (t : Bool) → (t && false) ≡ true → ⊥
    not_one true e = cc
    not_one false e = cc
two_bytes (b ∷ c ∷ bs) e =
    ap (λ (x : ℕ). x ∷ c ∷ []) (same_byte b 124 (first_of (b == 124) (c == 125) e))
    ∙ ap (λ (x : ℕ). 124 ∷ x ∷ []) (same_byte c 125 (second_of (b == 124) (c == 125) e))

ends_made : (page : List ℕ) (from at end : ℕ) (bs : List ℕ) → bs ≡ slice page at end → at + length bs ≤ end
    → Made (λ xs. xs ≡ 124 ∷ 125 ∷ []) page (table_ends page from at bs)
ends_made page from at end [] e le = tt
ends_made page from at end (b ∷ bs) e le =
    join (λ s. slice page s.0 s.1 ≡ 124 ∷ 125 ∷ []) (end_at page from at (b ∷ bs)) (table_ends page from (at + 1) bs)
    (made_when (λ xs. xs ≡ 124 ∷ 125 ∷ []) page (ends_table (b ∷ bs) && stands_first page from at) ((at, at + 2) ∷ []) (λ both. (here both, tt)))
    (ends_made page from (at + 1) end bs (rest_is page at end b bs e) (omega (arith, le)))
  where
    here : (ends_table (b ∷ bs) && stands_first page from at) ≡ true → slice page at (at + 2) ≡ 124 ∷ 125 ∷ []
    here both =
        let ends = first_of (ends_table (b ∷ bs)) (stands_first page from at) both in
        part page at 2 end (omega (arith, le, two_long (b ∷ bs) ends)) ∙ ap (take 2) (sym e) ∙ two_bytes (b ∷ bs) ends

-- ---- a node

reaches : (page : List ℕ) (r : Ranges) → IsOf page r → r.start + length (slice page r.start r.end) ≤ r.end
reaches page r h =
    let n : length (slice page r.start r.end) ≡ r.end - r.start =
    length-drop r.start (take r.end page) ∙ ap (λ (m : ℕ). m - r.start) (length-take-le r.end page h.1) in
    omega (arith, n, h.0, h.1)

any_shape : (page : List ℕ) (spans : List Span) → Made (λ xs. Unit {0}) page spans
any_shape page [] = tt
any_shape page (s ∷ spans) = (tt, any_shape page spans)

whole_made : (Shape : List ℕ → Type 0) (page : List ℕ) (r : Ranges) (v : Bool) → (v ≡ true → Shape (slice page r.start r.end)) → Made Shape page (whole v r)
whole_made Shape page r v h = made_when Shape page v ((r.start, r.end) ∷ []) (λ e. (h e, tt))

stray_made : (page : List ℕ) (o : Option ℕ) (r : Ranges) → IsOf page r → Made (λ xs. xs ≡ 124 ∷ 125 ∷ []) page (stray_ends page o r)
stray_made page None r h = tt
stray_made page (Some from) r h = ends_made page from r.start r.end (slice page r.start r.end) refl (reaches page r h)

found_made : (page : List ℕ) (titles : List (List ℕ)) (p : Place) (s : Sort) (l : Label) (r : Ranges) (k : Kind) → IsOf page r
    → Made (HasShape k) page (found page titles p s l r k)
found_made page titles p s l r kind.OpenStyle h = any_shape page _
found_made page titles p s l r kind.OpenTable h = any_shape page _
found_made page titles p s l r kind.StrayTableEnd h = made_when (λ xs. xs ≡ 124 ∷ 125 ∷ []) page _ (stray_ends page p.paragraph r) (λ _. stray_made page p.paragraph r h)
found_made page titles p s l r kind.OpenTag h = whole_made (HasShape kind.OpenTag) page r _ (second_of _ _)
found_made page titles p s l r kind.StrayTag h = whole_made (HasShape kind.StrayTag) page r _ (second_of _ _)
found_made page titles p s l r kind.OpenBraces h =
    made_when (AreOnly 123) page _ _ (λ _. runs_made page 123 r.start r.end false (slice page r.start r.end) refl (reaches page r h))
found_made page titles p s l r kind.StrayBraces h =
    made_when (AreOnly 125) page _ _ (λ _. runs_made page 125 r.start r.end false (slice page r.start r.end) refl (reaches page r h))
found_made page titles p s l r kind.OpenLink h =
    made_when (λ xs. xs ≡ 91 ∷ 91 ∷ []) page _ _ (λ _. pairs_made page 91 r.start r.end (slice page r.start r.end) refl (reaches page r h))
found_made page titles p s l r kind.StrayLinkEnd h =
    made_when (λ xs. xs ≡ 93 ∷ 93 ∷ []) page _ _ (λ _. pairs_made page 93 r.start r.end (slice page r.start r.end) refl (reaches page r h))
found_made page titles p s l r kind.UnequalHeading h = any_shape page _
found_made page titles p s l r kind.RepeatedCategory h = any_shape page _

all_shaped : (page : List ℕ) (k : Kind) (spans : List Span) → Made (HasShape k) page spans → AllByRecursion (IsShaped page) (as_all k spans)
all_shaped page k [] h = tt
all_shaped page k (s ∷ spans) h = (h.0, all_shaped page k spans h.1)

here_shaped : (page : List ℕ) (titles : List (List ℕ)) (p : Place) (l : Label) (r : Ranges) → IsOf page r
    → AllByRecursion (IsShaped page) (at_range page titles p l r)
here_shaped page titles p l r h =
    join_all (IsShaped page) (λ k. as_all k (found page titles p (sort_of l.kind) l r k)) kinds
    (λ k. all_shaped page k (found page titles p (sort_of l.kind) l r k) (found_made page titles p (sort_of l.kind) l r k h))

pub found_shaped : (page : List ℕ) (t : Tree) → AreReachedSlices page t → AllByRecursion (IsShaped page) (all_found page t)
found_shaped page t h = holds_of_all (IsShaped page) page (here_shaped page) t h

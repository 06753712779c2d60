-- The items of a slice by itself have few more bytes than the page's.
use Rattle.std.proofs.Common.{◌≡◌, ℕ, ◌+◌, ◌^◌, ◌<◌, ◌≤◌, refl, Bool, true, false, Option, None, Some, List, [], ◌∷◌, ◌++◌, length, ap, ◌∙◌, arith, length-append}
use Rattle.std.specs.Prelude.{slice_get, if◌then◌else◌}
use Rattle.std.proofs.lemmas.Grind.{flat_map-append}
use Rattle.wt_span.specs.Items.{Item, AreFew, char, call_of, source, sources}
use Rattle.wt_span.specs.Origins.{OuterCall}
use Rattle.wt_span.specs.Characters as byte
use Rattle.wt_tree.specs.declared.kind.Ranges.{Ranges}
use Rattle.wt_isolation.specs.GroupItems.{break_before, break_of, empty_nowiki, given_first, items_alone, items_in, lies_in, needs_break, span_at}

bytes_join : (xs ys : List Item) → length (sources (xs ++ ys)) ≡ length (sources xs) + length (sources ys)
bytes_join xs ys = ap length (flat_map-append source xs ys) ∙ length-append (sources xs) (sources ys)

one_more : (b : Bool) (x : Item) (xs ys : List Item) → length (sources ys) ≤ length (sources xs)
    → length (sources (if b then x ∷ ys else ys)) ≤ length (sources (x ∷ xs))
one_more true x xs ys h = omega (arith, length-append (source x) (sources xs), length-append (source x) (sources ys), h)
one_more false x xs ys h = omega (arith, length-append (source x) (sources xs), h)

slice_few : (calls : List OuterCall) (r : Ranges) (at : ℕ) (xs : List Item) → length (sources (items_in calls r at xs)) ≤ length (sources xs)
slice_few calls r at [] = omega arith
slice_few calls r at (x ∷ xs) =
    let s = span_at calls at x in
    one_more (lies_in r s) x xs (items_in calls r s.1 xs) (slice_few calls r s.1 xs)

break_few : (calls : List OuterCall) (xs : List Item) → length (sources (break_before calls xs)) ≤ 1
break_few calls [] = omega arith
break_few calls (x ∷ xs) = by_call (call_of x)
  where
    by_test : (b : Bool) (k : ℕ) → length (sources (if b then char (Some k) byte.line_break ∷ [] else [])) ≤ 1
    by_test true k = omega arith
    by_test false k = omega arith

    by_call : (o : Option ℕ) → length (sources (break_of calls o (x ∷ xs))) ≤ 1
    by_call None = omega arith
    by_call (Some k) = by_test (needs_break calls k (given_first k (x ∷ xs))) k

nowiki_bytes : length (source empty_nowiki) ≡ 9
unfolding empty_nowiki
nowiki_bytes = refl

pub alone_few : (calls : List OuterCall) (all : List Item) (r : Ranges) (xs : List Item) → AreFew all → xs ≡ items_alone calls all r
    → length (sources xs) < 2 ^ 32
alone_few calls all r xs h e =
    let inside = items_in calls r 0 all in
    let same : length (sources xs) ≡ length (sources (items_alone calls all r)) = ap (λ ys. length (sources ys)) e in
    omega (
      arith,
      same,
      nowiki_bytes,
      length-append (source empty_nowiki) (sources (break_before calls inside ++ inside)),
      bytes_join (break_before calls inside) inside,
      break_few calls inside,
      slice_few calls r 0 all,
      h,
    )

-- Each call of a page that is text is in one part of it, so it shares no byte with a block.
use Rattle.std.proofs.Common.{arith, ◌≡◌, ℕ, ◌+◌, ◌≤◌, Bool, true, false, List, [], ◌∷◌, ◌++◌, length, map, nat_lt, refl, sym, ap, ap₂, ◌∙◌, subst}
use Rattle.std.specs.Prelude.{◌&&◌, ◌||◌, ◌-◌, take, drop, slice_index}
use Rattle.std.specs.List.{list_any}
use Rattle.std.proofs.lemmas.Bool.Decides.{nat_tests}
use Rattle.std.proofs.lemmas.List.Folds.{list_any-append}
use Rattle.wt_span.specs.declared.form.Mode.TheVariants.{Page}
use Rattle.wt_span.specs.Bytes.{is_break}
use Rattle.wt_span.specs.Items.{Item}
use Rattle.wt_span.specs.Lexemes.{words}
use Rattle.wt_span.specs.Origins.{Span}
use Rattle.wt_span.specs.Braces.{Member, Members, lexeme, call, none, more, members, width, width_of_all, reduced}
use Rattle.wt_braces.specs.PartMembers.{part_members}
use Rattle.wt_expand.specs.Targets.{Called, argument, choice, function, page, text, called}
use Rattle.wt_expand.specs.Work.{Pages}
use Rattle.wt_expand.specs.Expansion.{Reading, output_of, outputs_of, part_outputs, target_part, text_members, page_reading}
use Rattle.wt_expand.specs.PageCalls.{Stretch, call_stretches, stretches_of, all_stretches, text_spans, page_stretches, expanded_page}
use Rattle.wt_transclusion.proofs.Full.{text_bytes}
use Rattle.wt_part_laws.specs.Expanded.{moved_span}
use Rattle.wt_part_laws.proofs.ApartStretches.{spans_both}
use Rattle.wt_text_edit_laws.specs.BlockSpots.{BlockSpot, spots_source, AreContents}
use Rattle.wt_text_edit_laws.specs.TextBlocks.{source_of}
use Rattle.wt_called_edit_laws.specs.CalledBlocks.{CallNothing, AreAmongCalls}
use Rattle.wt_called_edit_laws.specs.Parts.{AreCalled, called_texts}
use Rattle.wt_called_edit_laws.proofs.Cells.CalledFrames.{among_contents}
use Rattle.wt_called_edit_laws.proofs.Parts.NoCallsCalled.{calm_texts}
use Rattle.wt_called_edit_laws.proofs.Parts.Retyped.{is_by_parts}
use Rattle.wt_called_edit_laws.specs.FreeBlocks.{AreFreeFrom, NoTextCalls}

-- ---- calls that are text lie in their part

abbrev AreWithin : ℕ → ℕ → List Span → Type 0
AreWithin from to [] = Unit {0}
AreWithin from to (s ∷ ss) = (from ≤ s.0) × (s.1 ≤ to) × AreWithin from to ss

wider : (from to low high : ℕ) (ss : List Span) → low ≤ from → to ≤ high → AreWithin from to ss → AreWithin low high ss
wider from to low high [] a b h = tt
wider from to low high (s ∷ ss) a b h = (omega (arith, a, h.0), omega (arith, b, h.1), wider from to low high ss a b h.2)

both_within : (from to : ℕ) (ss ts : List Span) → AreWithin from to ss → AreWithin from to ts → AreWithin from to (ss ++ ts)
both_within from to [] ts h g = g
both_within from to (s ∷ ss) ts h g = (h.0, h.1, both_within from to ss ts h.2 g)

by_called : (c : Called) (at k : ℕ) (source : List ℕ) (ms : Members) (given : List Item) (inside : List Stretch)
    → AreWithin (at + k) (at + k + width_of_all ms) (text_spans inside)
    → AreWithin at (at + (k + width_of_all ms + k)) (text_spans (call_stretches c at k source ms given inside))
by_called argument at k source ms given inside h = tt
by_called (choice f n) at k source ms given inside h = tt
by_called function at k source ms given inside h = tt
by_called (page t) at k source ms given inside h = tt
by_called text at k source ms given inside h = (
  omega arith,
  omega arith,
  subst (AreWithin at (at + (k + width_of_all ms + k))) (sym (spans_both inside _))
      (both_within at (at + (k + width_of_all ms + k)) (text_spans inside) [] (wider (at + k) (at + k + width_of_all ms) at (at + (k + width_of_all ms + k)) (text_spans inside) (omega arith) (omega arith) h) tt),
)

mutual
  one_within : (r : Reading) (at : ℕ) (s : Bool) (bs : List ℕ) (m : Member) → AreWithin at (at + width m) (text_spans (stretches_of r at s bs m))
  one_within r at s bs (lexeme w) = tt
  one_within r at s bs (call k ms) =
      let source : List ℕ = take (k + width_of_all ms + k) bs in
      by_called (called k source (target_part (part_outputs (part_members 0 ms) (outputs_of r false (drop k bs) ms))).items) at k source ms
      (output_of r s bs (call k ms)).items (all_stretches r (at + k) false (drop k bs) ms) (all_within r (at + k) false (drop k bs) ms)

  all_within : (r : Reading) (at : ℕ) (s : Bool) (bs : List ℕ) (ms : Members) → AreWithin at (at + width_of_all ms) (text_spans (all_stretches r at s bs ms))
  all_within r at s bs none = tt
  all_within r at s bs (more m ms) =
      let to : ℕ = at + (width m + width_of_all ms) in
      let own_spans : List Span = text_spans (stretches_of r at s bs m) in
      let line : Bool = is_break (slice_index bs (width m - 1)) in
      let others : List Stretch = all_stretches r (at + width m) line (drop (width m) bs) ms in
      subst (AreWithin at to) (sym (spans_both (stretches_of r at s bs m) others))
      (both_within at to own_spans (text_spans others)
      (wider at (at + width m) at to own_spans (omega arith) (omega arith) (one_within r at s bs m))
      (wider (at + width m) (at + width m + width_of_all ms) at to (text_spans others) (omega arith) (omega arith)
      (all_within r (at + width m) line (drop (width m) bs) ms)))

texts_within : (pages : Pages) (bs : List ℕ) → AreWithin 0 (length bs) (expanded_page pages bs).text_calls
unfolding expanded_page page_stretches text_members
texts_within pages bs =
    let ms : Members = members (reduced (words Page bs)) in
    let size : 0 + width_of_all ms ≡ length bs = omega (arith, text_bytes Page bs) in
    subst (λ (n : ℕ). AreWithin 0 n (text_spans (page_stretches pages bs))) size (all_within (page_reading pages) 0 true bs ms)

-- ---- no byte is shared

abbrev NoneShared : ℕ → ℕ → List Span → Type 0
NoneShared x y ss = list_any (λ s. (nat_lt s.0 s.1 && nat_lt x y) && (nat_lt s.0 y && nat_lt x s.1)) ss ≡ false

last_false : (a b c d : Bool) → d ≡ false → ((a && b) && (c && d)) ≡ false
last_false true true true d e = e
last_false true true false d e = refl
last_false true false c d e = refl
last_false false b c d e = refl

third_false : (a b c d : Bool) → c ≡ false → ((a && b) && (c && d)) ≡ false
third_false true true false d e = refl
third_false true true true d e = absurd (cc)
third_false true false c d e = refl
third_false false b c d e = refl

not_below : (a b : ℕ) → b ≤ a → nat_lt a b ≡ false
not_below a b le = grind (arith, nat_tests)

none_before : (x y to : ℕ) (ss : List Span) → to ≤ x → AreWithin 0 to ss → NoneShared x y ss
none_before x y to [] le h = refl
none_before x y to (s ∷ ss) le h =
    ap₂ (λ (a b : Bool). a || b) (last_false (nat_lt s.0 s.1) (nat_lt x y) (nat_lt s.0 y) (nat_lt x s.1) (not_below x s.1 (omega (arith, h.1, le))))
    (none_before x y to ss le h.2)

none_behind : (x y d : ℕ) (ss : List Span) → y ≤ d → NoneShared x y (map (moved_span d) ss)
none_behind x y d [] le = refl
none_behind x y d (s ∷ ss) le =
    ap₂ (λ (a b : Bool). a || b)
    (third_false (nat_lt (d + s.0) (d + s.1)) (nat_lt x y) (nat_lt (d + s.0) y) (nat_lt x (d + s.1)) (not_below (d + s.0) y (omega (arith, le))))
    (none_behind x y d ss le)

both_none : (x y : ℕ) (ss ts : List Span) → NoneShared x y ss → NoneShared x y ts → NoneShared x y (ss ++ ts)
both_none x y ss ts e f =
    list_any-append (λ s. (nat_lt s.0 s.1 && nat_lt x y) && (nat_lt s.0 y && nat_lt x s.1)) ss ts ∙ ap₂ (λ (a b : Bool). a || b) e f

-- ---- the same, so many bytes later

lt_moved : (d a b : ℕ) → nat_lt (d + a) (d + b) ≡ nat_lt a b
lt_moved d a b = grind (arith, nat_tests)

none_moved : (d x y : ℕ) (ss : List Span) → NoneShared x y ss → NoneShared (d + x) (d + y) (map (moved_span d) ss)
none_moved d x y ss e = same d x y ss ∙ e
  where
    same : (d x y : ℕ) (ss : List Span)
        → list_any (λ s. (nat_lt s.0 s.1 && nat_lt (d + x) (d + y)) && (nat_lt s.0 (d + y) && nat_lt (d + x) s.1)) (map (moved_span d) ss)
        ≡ list_any (λ s. (nat_lt s.0 s.1 && nat_lt x y) && (nat_lt s.0 y && nat_lt x s.1)) ss
    same d x y [] = refl
    same d x y (s ∷ ss) =
        ap₂ (λ (a b : Bool). a || b)
        (ap₂ (λ (p q : Bool). p && q) (ap₂ (λ (p q : Bool). p && q) (lt_moved d s.0 s.1) (lt_moved d x y)) (ap₂ (λ (p q : Bool). p && q) (lt_moved d s.0 y) (lt_moved d x s.1)))
        (same d x y ss)

-- ---- the blocks

free_before : (to at : ℕ) (spans : List Span) (ss : List BlockSpot) → to ≤ at → AreWithin 0 to spans → AreFreeFrom spans at ss
free_before to at spans [] le h = tt
free_before to at spans (s ∷ ss) le h =
    let start : ℕ = at + length s.before in
    let end : ℕ = start + length (source_of s.block s.text) in
    (λ first last. none_before start end to spans (omega (arith, le)) h, free_before to end spans ss (omega (arith, le)) h)

free_both : (at : ℕ) (xs ys : List Span) (ss : List BlockSpot) → AreFreeFrom xs at ss → AreFreeFrom ys at ss → AreFreeFrom (xs ++ ys) at ss
free_both at xs ys [] h g = tt
free_both at xs ys (s ∷ ss) h g =
    let start : ℕ = at + length s.before in
    let end : ℕ = start + length (source_of s.block s.text) in
    (λ first last. both_none start end xs ys (h.0 first last) (g.0 first last), free_both end xs ys ss h.1 g.1)

free_moved : (d at : ℕ) (xs : List Span) (ss : List BlockSpot) → AreFreeFrom xs at ss → AreFreeFrom (map (moved_span d) xs) (d + at) ss
free_moved d at xs [] h = tt
free_moved d at xs (s ∷ ss) h =
    let a : ℕ = length s.before in
    let b : ℕ = length (source_of s.block s.text) in
    let x : d + (at + a) ≡ (d + at) + a = omega arith in
    let y : d + ((at + a) + b) ≡ ((d + at) + a) + b = omega arith in (
      λ first last.
          subst (λ (i : ℕ). NoneShared i (((d + at) + a) + b) (map (moved_span d) xs)) x
          (subst (λ (j : ℕ). NoneShared (d + (at + a)) j (map (moved_span d) xs)) y (none_moved d (at + a) ((at + a) + b) xs (h.0 first last))),
      subst (λ (j : ℕ). AreFreeFrom (map (moved_span d) xs) j ss) y (free_moved d ((at + a) + b) xs ss h.1),
    )

spans_twice : (a b : ℕ) (xs : List Span) → map (moved_span a) (map (moved_span b) xs) ≡ map (moved_span (a + b)) xs
spans_twice a b [] = refl
spans_twice a b (s ∷ xs) =
    let p : a + (b + s.0) ≡ (a + b) + s.0 = omega arith in
    let q : a + (b + s.1) ≡ (a + b) + s.1 = omega arith in
    ap₂ (λ (x : Span) (ys : List Span). x ∷ ys) (ap₂ (λ (i j : ℕ). (i, j)) p q) (spans_twice a b xs)

texts_free : (pages : Pages) (ss : List BlockSpot) (behind : List ℕ) → NoTextCalls pages ss → AreFreeFrom (called_texts pages ss behind) 0 ss
texts_free pages [] behind h = tt
texts_free pages (s ∷ ss) behind h =
    let a : ℕ = length s.before in
    let b : ℕ = length (source_of s.block s.text) in
    let first : List Span = (expanded_page pages s.before).text_calls in
    let rest : List Span = called_texts pages ss behind in
    let within : AreWithin 0 a first = texts_within pages s.before in
    let none : (expanded_page pages (source_of s.block s.text)).text_calls ≡ [] = h.0 in
    let behind_it : map (moved_span a) ((expanded_page pages (source_of s.block s.text)).text_calls ++ map (moved_span b) rest) ≡ map (moved_span (a + b)) rest =
    ap (λ (xs : List Span). map (moved_span a) (xs ++ map (moved_span b) rest)) none ∙ spans_twice a b rest in
    let later : AreFreeFrom (map (moved_span (a + b)) rest) ((a + b) + 0) ss = free_moved (a + b) 0 rest ss (texts_free pages ss behind h.1) in
    let z : (a + b) + 0 ≡ (0 + a) + b = omega arith in
    subst (λ (xs : List Span). AreFreeFrom (first ++ xs) 0 (s ∷ ss)) (sym behind_it) (
      λ before behind.
          both_none (0 + a) ((0 + a) + b) first (map (moved_span (a + b)) rest) (none_before (0 + a) ((0 + a) + b) a first (omega arith) within)
          (none_behind (0 + a) ((0 + a) + b) (a + b) rest (omega arith)),
      free_both ((0 + a) + b) first (map (moved_span (a + b)) rest) ss (free_before a ((0 + a) + b) first ss (omega arith) within)
          (subst (λ (j : ℕ). AreFreeFrom (map (moved_span (a + b)) rest) j ss) z later),
    )

pub calls_free : (pages : Pages) (ss : List BlockSpot) (behind : List ℕ) → AreCalled pages ss behind → NoTextCalls pages ss
    → AreFreeFrom (expanded_page pages (spots_source ss behind)).text_calls 0 ss
calls_free pages ss behind h n =
    let by = is_by_parts pages ss behind h in
    subst (λ (xs : List Span). AreFreeFrom xs 0 ss) (sym by.texts) (texts_free pages ss behind n)

calm_none : (pages : Pages) (ss : List BlockSpot) → AreContents ss → CallNothing ss → NoTextCalls pages ss
calm_none pages [] h c = tt
calm_none pages (s ∷ ss) h c = (calm_texts pages s.block s.text h.0 c.0, calm_none pages ss h.1 c.1)

pub blocks_free : (pages : Pages) (ss : List BlockSpot) (behind : List ℕ) → AreAmongCalls pages ss behind
    → AreFreeFrom (expanded_page pages (spots_source ss behind)).text_calls 0 ss
blocks_free pages ss behind h =
    calls_free pages ss behind h.called (calm_none pages ss (among_contents pages ss behind h) h.calm)

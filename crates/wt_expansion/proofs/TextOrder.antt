-- The text calls of an expanded page stand in order.
use Rattle.std.proofs.Common.{◌≡◌, ℕ, ◌+◌, ◌-◌, ◌≤◌, Bool, true, false, List, [], ◌∷◌, ◌++◌, take, drop, refl, sym, ap, subst, arith}
use Rattle.std.specs.Prelude.{slice_index}
use Rattle.wt_span.specs.declared.form.Mode.TheVariants as mode
use Rattle.wt_span.specs.Bytes.{is_break}
use Rattle.wt_span.specs.Items.{Item}
use Rattle.wt_span.specs.Origins.{Span, AreInOrder}
use Rattle.wt_span.specs.Braces.{Member, Members, lexeme, call, none, more, width, width_of_all}
use Rattle.wt_braces.specs.PartMembers.{part_members}
use Rattle.wt_expand.specs.Targets.{Called, argument, choice, function, page, text, called}
use Rattle.wt_expand.specs.Work.{Pages}
use Rattle.wt_expand.specs.Expansion.{Reading, chars, back_braces, target_part, part_outputs, output_of, outputs_of, text_members, page_reading}
use Rattle.wt_expand.specs.PageCalls.{Stretch, own, outer, text_call, call_stretches, stretches_of, all_stretches, text_spans, page_stretches, expanded_page}
use Rattle.wt_expansion.specs.Sound.{RiseTo}
use Rattle.wt_expansion.proofs.SoundItems.{stretches_are}

rise_from : (at m : ℕ) (ss : List Span) (to : ℕ) → at ≤ m → RiseTo m ss to → RiseTo at ss to
rise_from at m [] to l f = omega (arith, l, f)
rise_from at m (s ∷ ss) to l f = (omega (arith, l, f.0), f.1)

rise_append : (at : ℕ) (ss ts : List Span) (m to : ℕ) → RiseTo at ss m → RiseTo m ts to → RiseTo at (ss ++ ts) to
rise_append at [] ts m to f g = rise_from at m ts to f g
rise_append at (s ∷ ss) ts m to f g = (f.0, rise_append s.0 ss ts m to f.1 g)

pub spans_append : (ss ts : List Stretch) → text_spans (ss ++ ts) ≡ text_spans ss ++ text_spans ts
spans_append [] ts = refl
spans_append (own xs ∷ ss) ts = spans_append ss ts
spans_append (outer c xs ∷ ss) ts = spans_append ss ts
spans_append (text_call s ∷ ss) ts = ap (λ us. s ∷ us) (spans_append ss ts)

rise_call : (c : Called) (at k : ℕ) (source : List ℕ) (ms : Members) (given : List Item) (inside : List Stretch)
    → RiseTo (at + k) (text_spans inside) (at + k + width_of_all ms)
    → RiseTo at (text_spans (call_stretches c at k source ms given inside)) (at + (k + width_of_all ms + k))
rise_call argument at k source ms given inside f = omega arith
rise_call (choice c n) at k source ms given inside f = omega arith
rise_call function at k source ms given inside f = omega arith
rise_call (page t) at k source ms given inside f = omega arith
rise_call text at k source ms given inside f =
    let to : ℕ = at + (k + width_of_all ms + k) in
    let e : text_spans (inside ++ own (chars (back_braces k source)) ∷ [])
    ≡ text_spans inside ++ [] = spans_append inside (own (chars (back_braces k source)) ∷ []) in (
      omega arith,
      subst (λ ss. RiseTo at ss to) (sym e)
          (rise_append at (text_spans inside) [] (at + k + width_of_all ms) to
          (rise_from at (at + k) (text_spans inside) (at + k + width_of_all ms) (omega arith) f)
          (omega arith)),
    )

mutual
  rise_one : (r : Reading) (at : ℕ) (start : Bool) (bs : List ℕ) (m : Member) → RiseTo at (text_spans (stretches_of r at start bs m)) (at + width m)
  rise_one r at start bs (lexeme w) = omega arith
  rise_one r at start bs (call k ms) =
      let os = outputs_of r false (drop k bs) ms in
      let source = take (k + width_of_all ms + k) bs in
      rise_call (called k source (target_part (part_outputs (part_members 0 ms) os)).items) at k source ms (output_of r start bs (call k ms)).items
      (all_stretches r (at + k) false (drop k bs) ms) (rise_all r (at + k) false (drop k bs) ms)

  rise_all : (r : Reading) (at : ℕ) (start : Bool) (bs : List ℕ) (ms : Members) → RiseTo at (text_spans (all_stretches r at start bs ms)) (at + width_of_all ms)
  rise_all r at start bs none = omega arith
  rise_all r at start bs (more m ms) =
      let next = is_break (slice_index bs (width m - 1)) in
      let rest = all_stretches r (at + width m) next (drop (width m) bs) ms in
      let z : at + width m + width_of_all ms ≡ at + (width m + width_of_all ms) = omega arith in
      subst (λ ss. RiseTo at ss (at + (width m + width_of_all ms))) (sym (spans_append (stretches_of r at start bs m) rest))
      (rise_append at (text_spans (stretches_of r at start bs m)) (text_spans rest) (at + width m) (at + (width m + width_of_all ms)) (rise_one r at start bs m)
      (subst (RiseTo (at + width m) (text_spans rest)) z (rise_all r (at + width m) next (drop (width m) bs) ms)))

in_order : (at : ℕ) (ss : List Span) (to : ℕ) → RiseTo at ss to → AreInOrder ss
in_order at [] to f = tt
in_order at (s ∷ []) to f = tt
in_order at (s ∷ t ∷ ss) to f = (f.1.0, in_order s.0 (t ∷ ss) to f.1)

pub spans_in_order : (pages : Pages) (bs : List ℕ) → AreInOrder (text_spans (page_stretches pages bs))
spans_in_order pages bs =
    subst (λ ss. AreInOrder (text_spans ss)) (sym (stretches_are pages bs))
    (in_order 0 (text_spans (all_stretches (page_reading pages) 0 true bs (text_members mode.Page bs))) (0 + width_of_all (text_members mode.Page bs))
    (rise_all (page_reading pages) 0 true bs (text_members mode.Page bs)))

pub text_calls_in_order : (pages : Pages) (bs : List ℕ) → AreInOrder (expanded_page pages bs).text_calls
unfolding expanded_page
text_calls_in_order pages bs = spans_in_order pages bs

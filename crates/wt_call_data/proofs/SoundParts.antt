-- The parts of a sound call, one by one.
use Rattle.std.proofs.Common.{◌≡◌, ℕ, zero, suc, ◌+◌, ◌<◌, ◌≤◌, Option, None, List, [], ◌∷◌, length, map, get_or, refl, sym, ap, subst, ◌∙◌, arith}
use Rattle.std.proofs.lemmas.List.{get_or-map, length-map}
use Rattle.wt_span.specs.declared.range.Range.{Range}
use Rattle.wt_span.specs.Origins.{Span, OuterCall, span_of, IsBorder, LieFrom, IsNameEnd, AreNameEnds, IsSoundCall}
use Rattle.wt_call_data.specs.CallParts.{IsSoundPart}

lie_up : (c : OuterCall) (from : ℕ) (ps : List Span) → LieFrom c from ps → from ≤ c.start + length c.source
lie_up c from [] h = h
lie_up c from (p ∷ ps) h = let u = lie_up c p.1 ps h.4 in omega (arith, h.0, h.1, u)

abbrev LiesIn : OuterCall → Span → Type 0
LiesIn c p = (c.start ≤ p.0) × (p.0 ≤ p.1) × (p.1 ≤ c.start + length c.source) × IsBorder c p.0 × IsBorder c p.1

lie_at : (c : OuterCall) (from : ℕ) (ps : List Span) (i : ℕ) (d : Span) → c.start ≤ from → LieFrom c from ps → i < length ps → LiesIn c (get_or ps i d)
lie_at c from [] i d s h l = absurd (omega (arith, l))
lie_at c from (p ∷ ps) zero d s h l = (omega (arith, s, h.0), h.1, lie_up c p.1 ps h.4, h.2, h.3)
lie_at c from (p ∷ ps) (suc i) d s h l = lie_at c p.1 ps i d (omega (arith, s, h.0, h.1)) h.4 (omega (arith, l))

ends_length : (c : OuterCall) (ps : List Span) (es : List (Option ℕ)) → AreNameEnds c ps es → length ps ≡ length es
ends_length c [] [] h = refl
ends_length c [] (e ∷ es) h = absurd h
ends_length c (p ∷ ps) [] h = absurd h
ends_length c (p ∷ ps) (e ∷ es) h = omega (arith, ends_length c ps es h.1)

end_at : (c : OuterCall) (ps : List Span) (es : List (Option ℕ)) (i : ℕ) (d : Span) (f : Option ℕ) → AreNameEnds c ps es → i < length ps
    → IsNameEnd c (get_or ps i d) (get_or es i f)
end_at c [] es i d f h l = absurd (omega (arith, l))
end_at c (p ∷ ps) [] i d f h l = absurd h
end_at c (p ∷ ps) (e ∷ es) zero d f h l = h.0
end_at c (p ∷ ps) (e ∷ es) (suc i) d f h l = end_at c ps es i d f h.1 (omega (arith, l))

pub ends_there : (c : OuterCall) (ps : List Range) (es : List (Option ℕ)) (i : ℕ) → IsSoundCall c → c.parts ≡ map span_of ps → c.equals ≡ es → i < length ps
    → i < length es
ends_there c ps es i s p e l = omega (arith, l, ends_length c c.parts c.equals s.name_ends, ap length p, length-map ps span_of, ap length e)

pub part_sound : (c : OuterCall) (ps : List Range) (es : List (Option ℕ)) (i : ℕ) (p : Range) (e : Option ℕ) → IsSoundCall c → c.parts ≡ map span_of ps
    → c.equals ≡ es → i < length ps → p ≡ get_or ps i p → e ≡ get_or es i None → IsSoundPart c (span_of p) e
part_sound c ps es i p e s q r l a b =
    let n : i < length c.parts = omega (arith, l, ap length q, length-map ps span_of) in
    let span : get_or c.parts i (span_of p) ≡ span_of p = ap (λ xs. get_or xs i (span_of p)) q ∙ get_or-map span_of ps i p (span_of p) l ∙ ap span_of (sym a) in
    let name : get_or c.equals i None ≡ e = ap (λ xs. get_or xs i None) r ∙ sym b in
    let lies : LiesIn c (span_of p) = subst (λ (x : Span). LiesIn c x) span (lie_at c c.start c.parts i (span_of p) (omega arith) s.in_order n) in
    let ends : IsNameEnd c (span_of p) e = subst (λ (x : Option ℕ). IsNameEnd c (span_of p) x) name
    (subst (λ (x : Span). IsNameEnd c x (get_or c.equals i None)) span (end_at c c.parts c.equals i (span_of p) None s.name_ends n)) in
    (lies.0, lies.1, lies.2, lies.3, lies.4, ends)

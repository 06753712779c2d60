-- Each apostrophe of a toggle that isn't plain is in one delimiter.
use Rattle.std.proofs.Common.{◌≡◌, ℕ, ◌+◌, ◌<◌, ◌≤◌, Bool, true, false, not, List, [], ◌∷◌, get_or, refl, sym, ap, ◌∙◌, arith, inl, inr, ◌⊎◌}
use Rattle.std.specs.Prelude.{◌&&◌, ◌||◌, if◌then◌else◌, nat_lt, nat_le, count_by}
use Rattle.std.proofs.lemmas.Bool.{cases_lt}
use Rattle.std.proofs.lemmas.Bool.Decides.{nat_tests}
use Rattle.wt_quotes.specs.declared.turn.PlacedToggle.{PlacedToggle}
use Rattle.wt_quotes.specs.declared.style.Style.{Style}
use Rattle.wt_quotes.specs.declared.style.End.{End}
use Rattle.wt_quotes.specs.Styles.{width, opening_bytes, closing_bytes, opening_width, closing_width, closing_place, opening_place, begins, ending, style_from, styles_by}
use Rattle.wt_quotes.specs.StyleLaws.{IsWhole, delimits}
use Rattle.wt_quotes.proofs.SixStates.{Step, step, made, run, effect_by, toggled, outside_after, bytes_by, AreSteps, taken_by}
use Rattle.wt_quotes.proofs.Nesting.{closing_in, opens_within, begin_from, ends_well, whole}
use Rattle.wt_quotes.proofs.Counting.{one, and_false, or_false, le_yes, le_no, lt_yes, lt_no, count_styles, count_none, one_kind, stop_now, broken_bold, broken_italic}

-- the byte is one of a closing delimiter
abbrev pub shut : ℕ → End → Bool
shut p e = nat_le e.to (p + e.close_w) && nat_lt p e.to

-- the byte lies in the delimiters of a toggle
abbrev pub is_in : ℕ → List Step → Bool
is_in p [] = false
is_in p (step s b i flag ∷ rs) = (nat_le s p && nat_lt p (s + bytes_by b i)) || is_in p rs

in_none : (p low total : ℕ) (rs : List Step) → AreSteps low total rs → p < low → is_in p rs ≡ false
in_none p low total [] h l = refl
in_none p low total (step s b i flag ∷ rs) h l =
    ap (λ x. (x && nat_lt p (s + bytes_by b i)) || is_in p rs) (le_no s p (omega (arith, h.0))) ∙ in_none p (s + bytes_by b i) total rs h.2 (omega (arith, h.0))

not_shut : (p : ℕ) (e : End) → p + e.close_w < e.to → shut p e ≡ false
not_shut p e l = ap (λ x. x && nat_lt p e.to) (le_no e.to (p + e.close_w) l)

not_delimits : (p total : ℕ) (u : Style) → p < u.from → IsWhole total u → delimits p u ≡ false
not_delimits p total u l w =
    ap (λ x. (x && nat_lt p (u.from + u.open_w)) || (nat_le u.to (p + u.close_w) && nat_lt p u.to)) (le_no u.from p l)
    ∙ ap (λ x. x && nat_lt p u.to) (le_no u.to (p + u.close_w) (omega (arith, w.0)))

-- no delimiter of toggles that follow behind the byte has it
count_behind : (p total low : ℕ) (had_bold had_italic outside : Bool) (rs : List Step) → AreSteps low total rs → p < low
    → count_by (delimits p) (styles_by total (run had_bold had_italic outside rs)) ≡ 0
count_behind p total low had_bold had_italic outside rs h l =
    let us : List Style = styles_by total (run had_bold had_italic outside rs) in
    let from = begin_from total low had_bold had_italic outside rs h in
    let all = whole total low had_bold had_italic outside rs h in
    count_none (delimits p) us (λ k d m. not_delimits p total (get_or us k d) (omega (arith, l, from k d m)) (all k d m))

shut_behind : (k : Bool) (p total low : ℕ) (had_bold had_italic outside : Bool) (rs : List Step) → AreSteps low total rs → p < low
    → shut p (ending k total (run had_bold had_italic outside rs)) ≡ false
shut_behind k p total low had_bold had_italic outside rs h l =
    let e : End = ending k total (run had_bold had_italic outside rs) in
    not_shut p e (omega (arith, l, (ends_well k total low had_bold had_italic outside rs h).0))

-- spans of one toggle

span_join : (a b c p : ℕ) → a ≤ b → b ≤ c → one (nat_le a p && nat_lt p b) + one (nat_le b p && nat_lt p c) ≡ one (nat_le a p && nat_lt p c)
span_join a b c p h k = grind (arith, nat_tests)

span_end : (a w c p : ℕ) → c ≡ a + w → one (nat_le c (p + w) && nat_lt p c) ≡ one (nat_le a p && nat_lt p c)
span_end a w c p e = grind (arith, nat_tests)

span_all : (a c p : ℕ) → a ≤ p → p < c → one (nat_le a p && nat_lt p c) ≡ 1
span_all a c p h k = grind (arith, nat_tests)

span_empty : (a p : ℕ) → (nat_le a p && nat_lt p (a + 0)) ≡ false
span_empty a p = grind (arith, nat_tests)

end_empty : (c p : ℕ) → (nat_le c (p + 0) && nat_lt p c) ≡ false
end_empty c p = grind (arith, nat_tests)

four_by : (s a b c d p x y z : ℕ) → x ≡ s + a → y ≡ x + b → z ≡ y + c → s ≤ p → p < z + d
    → (one (nat_le x (p + a) && nat_lt p x) + one (nat_le y (p + b) && nat_lt p y))
    + (one (nat_le y p && nat_lt p (y + c)) + one (nat_le z p && nat_lt p (z + d))) ≡ 1
four_by s a b c d p x y z e f g h k =
    let u = span_end s a x p e in
    let v = span_end x b y p f in
    let i : y + c ≡ z = omega arith in
    let w = ap (λ n. one (nat_le y p && nat_lt p n)) i in
    let j = span_join s x y p (omega arith) (omega arith) in
    let l = span_join s y z p (omega arith) (omega arith) in
    let m = span_join s z (z + d) p (omega arith) (omega arith) in
    let n = span_all s (z + d) p h k in
    omega arith

four : (f : Bool) (s cb ci ob oi p : ℕ) → s ≤ p → p < s + (cb + ci + (ob + oi))
    → (one (nat_le (s + (cb + (if f then ci else 0))) (p + cb) && nat_lt p (s + (cb + (if f then ci else 0))))
    + one (nat_le (s + (ci + (if not f then cb else 0))) (p + ci) && nat_lt p (s + (ci + (if not f then cb else 0)))))
    + (one (nat_le (s + (cb + ci + (if f then 0 else oi))) p && nat_lt p (s + (cb + ci + (if f then 0 else oi)) + ob))
    + one (nat_le (s + (cb + ci + (if not f then 0 else ob))) p && nat_lt p (s + (cb + ci + (if not f then 0 else ob)) + oi)))
    ≡ 1
four true s cb ci ob oi p h k =
    let z : s + (cb + ci + 0) ≡ s + (cb + ci) = omega arith in
    let e = ap (λ n. one (nat_le n p && nat_lt p (n + ob))) z in
    omega (arith, e, four_by s ci cb ob oi p (s + (ci + 0)) (s + (cb + ci)) (s + (cb + ci + ob)) (omega arith) (omega arith) (omega arith) h (omega arith))
four false s cb ci ob oi p h k =
    let z : s + (cb + ci + 0) ≡ s + (ci + cb) = omega arith in
    let y : s + (cb + ci + oi) ≡ s + (ci + cb) + oi = omega arith in
    let e = ap (λ n. one (nat_le n p && nat_lt p (n + oi))) z in
    let g = ap (λ n. one (nat_le n p && nat_lt p (n + ob))) y in
    omega (arith, e, g, four_by s cb ci oi ob p (s + (cb + 0)) (s + (ci + cb)) (s + (ci + cb) + oi) (omega arith) (omega arith) (omega arith) h (omega arith))

-- the delimiters of one style at a toggle that has the byte

one_opening : (k tog had broken : Bool) (a p : ℕ) (q : Bool) → q ≡ false
    → one (begins (effect_by tog had broken) && ((nat_le a p && nat_lt p (a + opening_bytes k (effect_by tog had broken))) || q))
    ≡ one (nat_le a p && nat_lt p (a + opening_bytes k (effect_by tog had broken)))
one_opening k true true broken a p q e = sym (ap one (span_empty a p))
one_opening k true false broken a p q e = ap one (or_false (nat_le a p && nat_lt p (a + width k)) q e)
one_opening k false had true a p q e = ap one (or_false (nat_le a p && nat_lt p (a + 0)) q e)
one_opening k false had false a p q e = sym (ap one (span_empty a p))

one_closing : (k tog had broken : Bool) (c p : ℕ) (later : End) → (broken ≡ true → had ≡ true) → shut p later ≡ false
    → one (had && shut p (stop_now (effect_by tog had broken)
    (record { to = c; close_w = closing_bytes k (effect_by tog had broken) }) later))
    ≡ one (nat_le c (p + closing_bytes k (effect_by tog had broken)) && nat_lt p c)
one_closing k true true broken c p later w e = refl
one_closing k true false broken c p later w e = sym (ap one (end_empty c p))
one_closing k false true true c p later w e = refl
one_closing k false true false c p later w e = ap one e ∙ sym (ap one (end_empty c p))
one_closing k false false true c p later w e = cc (w refl)
one_closing k false false false c p later w e = sym (ap one (end_empty c p))

abbrev pub Cut : ℕ → ℕ → Bool → Bool → Bool → List Step → Type 0
Cut p total had_bold had_italic outside rs =
    count_by (delimits p) (styles_by total (run had_bold had_italic outside rs))
    + (one (had_bold && shut p (ending true total (run had_bold had_italic outside rs)))
    + one (had_italic && shut p (ending false total (run had_bold had_italic outside rs))))
    ≡ one (is_in p rs)

cut_before : (p total s : ℕ) (b i flag had_bold had_italic outside : Bool) (rs : List Step)
    → AreSteps s total (step s b i flag ∷ rs) → p < s → Cut p total had_bold had_italic outside (step s b i flag ∷ rs)
cut_before p total s b i flag had_bold had_italic outside rs h l =
    let all : List Step = step s b i flag ∷ rs in
    let none = count_behind p total s had_bold had_italic outside all h l in
    let x = ap one (and_false had_bold (shut p (ending true total (run had_bold had_italic outside all)))
    (shut_behind true p total s had_bold had_italic outside all h l)) in
    let y = ap one (and_false had_italic (shut p (ending false total (run had_bold had_italic outside all)))
    (shut_behind false p total s had_bold had_italic outside all h l)) in
    let z = ap one (in_none p s total all h l) in
    omega (arith, none, x, y, z)

-- past the toggle

past_begun : (k : Bool) (p : ℕ) (t : PlacedToggle) (later : End) → opening_place k t + opening_width k t ≤ p → delimits p (style_from k t later) ≡ shut p later
past_begun k p t later l =
    ap (λ x. x || shut p later) (and_false (nat_le (opening_place k t) p) (nat_lt p (opening_place k t + opening_width k t))
    (lt_no p (opening_place k t + opening_width k t) l))

past_here : (k : Bool) (p : ℕ) (t : PlacedToggle) → closing_place k t ≤ p → shut p (record { to = closing_place k t; close_w = closing_width k t }) ≡ false
past_here k p t l = and_false (nat_le (closing_place k t) (p + closing_width k t)) (nat_lt p (closing_place k t)) (lt_no p (closing_place k t) l)

cut_after : (p total s : ℕ) (b i flag had_bold had_italic outside : Bool) (rs : List Step) → s + bytes_by b i ≤ p
    → Cut p total (toggled b had_bold) (toggled i had_italic) (outside_after had_bold had_italic b i flag) rs
    → Cut p total had_bold had_italic outside (step s b i flag ∷ rs)
cut_after p total s b i flag had_bold had_italic outside rs l is =
    let t : PlacedToggle = made had_bold had_italic outside (step s b i flag) in
    let ts : List PlacedToggle = run (toggled b had_bold) (toggled i had_italic) (outside_after had_bold had_italic b i flag) rs in
    let all = taken_by had_bold had_italic outside s b i flag in
    let bold = one_kind (shut p) b had_bold (i && ((had_bold && had_italic) && not outside))
    (delimits p (style_from true t (ending true total ts)))
    (record { to = closing_place true t; close_w = closing_width true t }) (ending true total ts)
    (broken_bold i had_bold had_italic outside) (past_begun true p t (ending true total ts)
    (omega (arith, l, opens_within true had_bold had_italic outside s b i flag)))
    (past_here true p t (omega (arith, l, all, (closing_in true t).1))) in
    let italic = one_kind (shut p) i had_italic (b && ((had_bold && had_italic) && outside))
    (delimits p (style_from false t (ending false total ts)))
    (record { to = closing_place false t; close_w = closing_width false t }) (ending false total ts)
    (broken_italic b had_bold had_italic outside)
    (past_begun false p t (ending false total ts)
    (omega (arith, l, opens_within false had_bold had_italic outside s b i flag)))
    (past_here false p t (omega (arith, l, all, (closing_in false t).1))) in
    let right = ap (λ x. one (x || is_in p rs)) (and_false (nat_le s p) (nat_lt p (s + bytes_by b i)) (lt_no p (s + bytes_by b i) l)) in
    omega (arith, count_styles (delimits p) total t ts, bold, italic, right, is)

-- at the toggle

cut_at : (p total s : ℕ) (b i flag had_bold had_italic outside : Bool) (rs : List Step) → AreSteps (s + bytes_by b i) total rs
    → s ≤ p → p < s + bytes_by b i → Cut p total had_bold had_italic outside (step s b i flag ∷ rs)
cut_at p total s b i flag had_bold had_italic outside rs h l m =
    let t : PlacedToggle = made had_bold had_italic outside (step s b i flag) in
    let ts : List PlacedToggle = run (toggled b had_bold) (toggled i had_italic) (outside_after had_bold had_italic b i flag) rs in
    let none = count_behind p total (s + bytes_by b i) (toggled b had_bold) (toggled i had_italic) (outside_after had_bold had_italic b i flag) rs h m in
    let no_bold = shut_behind true p total (s + bytes_by b i) (toggled b had_bold) (toggled i had_italic) (outside_after had_bold had_italic b i flag) rs h m in
    let no_italic = shut_behind false p total (s + bytes_by b i) (toggled b had_bold) (toggled i had_italic)
    (outside_after had_bold had_italic b i flag) rs h m in
    let broken_b : Bool = i && ((had_bold && had_italic) && not outside) in
    let broken_i : Bool = b && ((had_bold && had_italic) && outside) in
    let ob = one_opening true b had_bold broken_b (opening_place true t) p (shut p (ending true total ts)) no_bold in
    let oi = one_opening false i had_italic broken_i (opening_place false t) p (shut p (ending false total ts)) no_italic in
    let cb = one_closing true b had_bold broken_b (closing_place true t) p (ending true total ts) (broken_bold i had_bold had_italic outside) no_bold in
    let ci = one_closing false i had_italic broken_i (closing_place false t) p (ending false total ts)
    (broken_italic b had_bold had_italic outside) no_italic in
    let sum = four t.bold_outside s (closing_width true t) (closing_width false t) (opening_width true t)
    (opening_width false t) p l (omega (arith, m, taken_by had_bold had_italic outside s b i flag)) in
    let x = ap (λ y. one ((y && nat_lt p (s + bytes_by b i)) || is_in p rs)) (le_yes s p l) in
    let z = ap (λ y. one (y || is_in p rs)) (lt_yes p (s + bytes_by b i) m) in
    omega (arith, count_styles (delimits p) total t ts, none, ob, oi, cb, ci, sum, x, z)

cut_step : (p total s : ℕ) (b i flag had_bold had_italic outside : Bool) (rs : List Step)
    → AreSteps s total (step s b i flag ∷ rs) → ((p < s) ⊎ (s ≤ p)) → ((p < s + bytes_by b i) ⊎ (s + bytes_by b i ≤ p))
    → (s + bytes_by b i ≤ p → Cut p total (toggled b had_bold) (toggled i had_italic)
    (outside_after had_bold had_italic b i flag) rs) → Cut p total had_bold had_italic outside (step s b i flag ∷ rs)
cut_step p total s b i flag had_bold had_italic outside rs h (inl l) m f = cut_before p total s b i flag had_bold had_italic outside rs h l
cut_step p total s b i flag had_bold had_italic outside rs h (inr l) (inl m) f = cut_at p total s b i flag had_bold had_italic outside rs h.2 l m
cut_step p total s b i flag had_bold had_italic outside rs h (inr l) (inr m) f = cut_after p total s b i flag had_bold had_italic outside rs m (f m)

pub cut : (p total low : ℕ) (had_bold had_italic outside : Bool) (rs : List Step) → AreSteps low total rs → p < total
    → Cut p total had_bold had_italic outside rs
cut p total low had_bold had_italic outside [] h l =
    let e = not_shut p (record { to = total; close_w = 0 }) (omega arith) in
    let x = ap one (and_false had_bold (shut p (record { to = total; close_w = 0 })) e) in
    let y = ap one (and_false had_italic (shut p (record { to = total; close_w = 0 })) e) in
    omega (arith, x, y)
cut p total low had_bold had_italic outside (step s b i flag ∷ rs) h l =
    let n : s ≤ s = omega arith in
    cut_step p total s b i flag had_bold had_italic outside rs (n, h.1, h.2) (cases_lt p s) (cases_lt p (s + bytes_by b i))
    (λ m. cut p total (s + bytes_by b i) (toggled b had_bold) (toggled i had_italic) (outside_after had_bold had_italic b i flag) rs h.2 l)

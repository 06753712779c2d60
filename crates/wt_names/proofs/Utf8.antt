-- What is made of a text is a text, and the bytes of a text are bytes.
use Rattle.std.proofs.Common.{◌≡◌, ℕ, ◌+◌, ◌/◌, ◌%◌, ◌<◌, Bool, true, false, cond, ◌&&◌, nat_eq, nat_lt, Option, Some, None, option_map, unwrap_or, MatchOption, IfSome, ◌⊎◌, inl, inr, List, [], ◌∷◌, ◌++◌, length, get_or, All, refl, sym, ap, ◌∙◌, subst, length-append, arith, lit<}
use Rattle.std.specs.Char.{encode_utf8, IsScalar, to_ascii_uppercase}
use Rattle.std.specs.Str.{IsUtf8, all_scalars, encode_utf8_all}
use Rattle.std.proofs.Math.Utf8.{encode, scalar_cases, low_scalar}
use Rattle.std.proofs.Math.Seq.{take-append_seam, drop-append-add}
use Rattle.std.proofs.lemmas.Bool.{cond_both, cases_lt, eqb-true, ltb-true}
use Rattle.std.proofs.lemmas.List.{get_or-append-add}
use Rattle.std.proofs.lemmas.List.Elements.{All-nil, All-cons, All-append}
use Rattle.std.proofs.lemmas.Str.{IsUtf8-nil, IsUtf8-append, IsUtf8-encode, IsUtf8-take, IsUtf8-drop, IsCharBoundary-before_ascii, IsCharBoundary-after_ascii, encode_ascii}
use Rattle.percent_encoding.proofs.PercentLemmas.{IsByte}
use Rattle.wt_names.specs.declared.namespace.Ns.{Ns}
use Rattle.wt_names.specs.declared.namespace.Ns.TheVariants.{Main}
use Rattle.wt_names.specs.Namespace.{namespace_named}
use Rattle.wt_names.specs.Reading.{replaced, replaced_byte, spaced, split_once, squeezed, begins_with_space, trimmed_start, trimmed_end, trimmed, raised, page_part, fragment_part, whole_in, named_part, cut_namespace, title_in}
use Rattle.wt_names.proofs.Ascii.{encode_wide, encode_others, replaced-append, replaced-same, raised_is, upper_wide, upper_small}
use Rattle.wt_names.proofs.Spaces.{squeezed-others}
use Rattle.wt_names.proofs.Lacks.{Lacks}
use Rattle.wt_names.proofs.Prefixes.{is_sign, split_view}

-- ---- bytes

two_bytes : (x y : ℕ) → x < 256 → y < 256 → All IsByte (x ∷ y ∷ [])
two_bytes x y h k = All-cons IsByte x (y ∷ []) h (All-cons IsByte y [] k (All-nil IsByte))

encode_bytes : (c : ℕ) → c < 1114112 → All IsByte (encode_utf8 c)
unfolding encode
encode_bytes c small =
    let last : 128 + c % 64 < 256 = omega arith in
    let third : 128 + c / 64 % 64 < 256 = omega arith in
    let second : 128 + c / 4096 % 64 < 256 = omega arith in
    let one = c ∷ [] in
    let two = (192 + c / 64) ∷ (128 + c % 64) ∷ [] in
    let three = (224 + c / 4096) ∷ (128 + c / 64 % 64) ∷ (128 + c % 64) ∷ [] in
    let four = (240 + c / 262144) ∷ (128 + c / 4096 % 64) ∷ (128 + c / 64 % 64) ∷ (128 + c % 64) ∷ [] in
    cond_both (nat_lt c 128) one (cond (nat_lt c 2048) two (cond (nat_lt c 65536) three four)) (All IsByte)
    (λ e. let h = ltb-true c 128 e in All-cons IsByte c [] (omega arith) (All-nil IsByte))
    (λ _. cond_both (nat_lt c 2048) two (cond (nat_lt c 65536) three four) (All IsByte)
    (λ e. let h = ltb-true c 2048 e in two_bytes (192 + c / 64) (128 + c % 64) (omega arith) last)
    (λ _. cond_both (nat_lt c 65536) three four (All IsByte)
    (λ e. let h = ltb-true c 65536 e in
    All-cons IsByte (224 + c / 4096) ((128 + c / 64 % 64) ∷ (128 + c % 64) ∷ []) (omega arith) (two_bytes (128 + c / 64 % 64) (128 + c % 64) third last))
    (λ _. All-cons IsByte (240 + c / 262144) ((128 + c / 4096 % 64) ∷ (128 + c / 64 % 64) ∷ (128 + c % 64) ∷ []) (omega arith)
    (All-cons IsByte (128 + c / 4096 % 64) ((128 + c / 64 % 64) ∷ (128 + c % 64) ∷ []) second (two_bytes (128 + c / 64 % 64) (128 + c % 64) third last)))))

both_true : (s t : Bool) → (s && t) ≡ true → (s ≡ true) × (t ≡ true)
both_true true t e = (refl, e)
both_true false t e = absurd (let z : false ≡ true = e in cc)

scalar_small : (c : ℕ) → IsScalar c → c < 1114112
scalar_small c is = elim (scalar_cases c is) [ inl low ↦ omega arith | inr high ↦ high.1 ]

chars_bytes : (cs : List ℕ) → all_scalars cs ≡ true → All IsByte (encode_utf8_all cs)
chars_bytes [] are = All-nil IsByte
chars_bytes (c ∷ cs) are =
    let both = both_true _ _ are in
    All-append IsByte (encode_utf8 c) (encode_utf8_all cs) (encode_bytes c (scalar_small c both.0)) (chars_bytes cs both.1)

pub utf8_bytes : (bs : List ℕ) → IsUtf8 bs → All IsByte bs
utf8_bytes bs (cs, (are, is)) = subst (All IsByte) is (chars_bytes cs are)

-- ---- one ASCII character for another, and single spaces

pub one_byte : (b : ℕ) → b < 128 → IsUtf8 (b ∷ [])
one_byte b small = subst IsUtf8 (encode_ascii b small) (IsUtf8-encode b (low_scalar b (omega arith)))

replaced_char : (from to c : ℕ) → from < 128 → to < 128 → IsScalar c → IsUtf8 (replaced from to (encode_utf8 c))
replaced_char from to c small fine is = elim (cases_lt c 128) [
  | inl ascii ↦
      let kept : replaced_byte from to c < 128 = cond_both (nat_eq c from) to c (λ b. b < 128) (λ _. fine) (λ _. ascii) in
      subst IsUtf8 (sym (ap (replaced from to) (encode_ascii c ascii))) (one_byte (replaced_byte from to c) kept)
  | inr wide ↦
      let all = encode_wide c wide in
      subst IsUtf8 (sym (replaced-same from to (encode_utf8 c) (λ i h. let at = all i 0 h in λ e. omega arith))) (IsUtf8-encode c is)
]

replaced_chars : (from to : ℕ) (cs : List ℕ) → from < 128 → to < 128 → all_scalars cs ≡ true → IsUtf8 (replaced from to (encode_utf8_all cs))
replaced_chars from to [] small fine are = IsUtf8-nil
replaced_chars from to (c ∷ cs) small fine are =
    let both = both_true _ _ are in
    subst IsUtf8 (sym (replaced-append from to (encode_utf8 c) (encode_utf8_all cs)))
    (IsUtf8-append _ _ (replaced_char from to c small fine both.0) (replaced_chars from to cs small fine both.1))

pub utf8_replaced : (from to : ℕ) (bs : List ℕ) → from < 128 → to < 128 → IsUtf8 bs → IsUtf8 (replaced from to bs)
utf8_replaced from to bs small fine (cs, (are, is)) = subst IsUtf8 (ap (replaced from to) is) (replaced_chars from to cs small fine are)

squeezed_chars : (cs : List ℕ) → all_scalars cs ≡ true → IsUtf8 (squeezed (encode_utf8_all cs))
squeezed_chars [] are = IsUtf8-nil
squeezed_chars (c ∷ cs) are =
    let both = both_true _ _ are in
    let rest = encode_utf8_all cs in
    let on = squeezed_chars cs both.1 in
    elim (cases_lt c 128) [
      | inl ascii ↦ subst IsUtf8 (sym (ap (λ x. squeezed (x ++ rest)) (encode_ascii c ascii)))
          (cond_both (nat_eq c 32 && begins_with_space rest) (squeezed rest) (c ∷ squeezed rest) IsUtf8 (λ _. on)
          (λ _. IsUtf8-append (c ∷ []) (squeezed rest) (one_byte c ascii) on))
      | inr wide ↦ subst IsUtf8 (sym (squeezed-others (encode_utf8 c) rest (encode_others c (λ e. omega arith))))
          (IsUtf8-append (encode_utf8 c) (squeezed rest) (IsUtf8-encode c both.0) on)
    ]

pub utf8_squeezed : (bs : List ℕ) → IsUtf8 bs → IsUtf8 (squeezed bs)
utf8_squeezed bs (cs, (are, is)) = subst IsUtf8 (ap squeezed is) (squeezed_chars cs are)

upper_scalar : (c : ℕ) → IsScalar c → IsScalar (to_ascii_uppercase c)
upper_scalar c is = elim (cases_lt c 128) [
  | inl small ↦ low_scalar (to_ascii_uppercase c) (let h = upper_small c small in omega arith)
  | inr wide ↦ subst IsScalar (sym (upper_wide c wide)) is
]

raised_chars : (cs : List ℕ) → all_scalars cs ≡ true → IsUtf8 (raised (encode_utf8_all cs))
raised_chars [] are = IsUtf8-nil
raised_chars (c ∷ cs) are =
    let both = both_true _ _ are in
    subst IsUtf8 (raised_is c (encode_utf8_all (c ∷ cs)) (encode_utf8_all cs) refl)
    (IsUtf8-append _ _ (IsUtf8-encode (to_ascii_uppercase c) (upper_scalar c both.0)) (cs, (both.1, refl)))

pub utf8_raised : (bs : List ℕ) → IsUtf8 bs → IsUtf8 (raised bs)
utf8_raised bs (cs, (are, is)) = subst IsUtf8 (ap raised is) (raised_chars cs are)

-- ---- cuts at an ASCII byte

pub utf8_around : (xs ys : List ℕ) (c : ℕ) → c < 128 → IsUtf8 (xs ++ c ∷ ys) → IsUtf8 xs × IsUtf8 ys
utf8_around xs ys c small is =
    let bs = xs ++ c ∷ ys in
    let inside : length xs < length (xs ++ c ∷ ys) = simp length-append (omega arith) in
    let same : length xs + 0 ≡ length xs = omega arith in
    let at : get_or (xs ++ c ∷ ys) (length xs) 0 ≡ c = ap (λ n. get_or (xs ++ c ∷ ys) n 0) (sym same) ∙ get_or-append-add xs (c ∷ ys) 0 0 in
    let ascii : get_or (xs ++ c ∷ ys) (length xs) 0 < 128 = omega arith in
    let front = IsUtf8-take bs (length xs) is (IsCharBoundary-before_ascii bs (length xs) inside ascii) in
    let back = IsUtf8-drop bs (length xs + 1) is (IsCharBoundary-after_ascii bs (length xs) is inside ascii) in
    (subst IsUtf8 (take-append_seam xs (c ∷ ys)) front, subst IsUtf8 (drop-append-add xs (c ∷ ys) 1) back)

utf8_tail : (c : ℕ) (bs : List ℕ) → c < 128 → IsUtf8 (c ∷ bs) → IsUtf8 bs
utf8_tail c bs small is = (utf8_around [] bs c small is).1

utf8_trimmed_start : (bs : List ℕ) → IsUtf8 bs → IsUtf8 (trimmed_start bs)
utf8_trimmed_start [] is = is
utf8_trimmed_start (b ∷ bs) is =
    cond_both (nat_eq b 32) (trimmed_start bs) (b ∷ bs) IsUtf8
    (λ e. let at = eqb-true b 32 e in utf8_trimmed_start bs (utf8_tail b bs (omega arith) is)) (λ _. is)

end_step : (t : Bool) (b : ℕ) (bs es : List ℕ) → (t ≡ true → b ≡ 32) → (es ≡ bs) ⊎ ((rest : List ℕ) × (bs ≡ es ++ 32 ∷ rest))
    → (cond t [] (b ∷ es) ≡ b ∷ bs) ⊎ ((rest : List ℕ) × (b ∷ bs ≡ cond t [] (b ∷ es) ++ 32 ∷ rest))
end_step true b bs es is on = inr (bs, ap (λ x. x ∷ bs) (is refl))
end_step false b bs es is on = elim on [ inl e ↦ inl (ap (λ x. b ∷ x) e) | inr h ↦ inr (h.0, ap (λ x. b ∷ x) h.1) ]

-- what is trimmed at the end is the whole, or stands before a space
end_view : (bs : List ℕ) → (trimmed_end bs ≡ bs) ⊎ ((rest : List ℕ) × (bs ≡ trimmed_end bs ++ 32 ∷ rest))
end_view [] = inl refl
end_view (b ∷ bs) = end_step (nat_eq b 32 && nat_eq (length (trimmed_end bs)) 0) b bs (trimmed_end bs) (λ e. eqb-true b 32 (both_true _ _ e).0) (end_view bs)

pub utf8_trimmed : (bs : List ℕ) → IsUtf8 bs → IsUtf8 (trimmed bs)
utf8_trimmed bs is =
    let start = utf8_trimmed_start bs is in
    elim (end_view (trimmed_start bs)) [
      | inl e ↦ subst IsUtf8 (sym e) start
      | inr h ↦ (utf8_around (trimmed bs) h.0 32 (lit< tt) (subst IsUtf8 h.1 start)).0
    ]

-- ---- a title that is read from a text

page_utf8 : (s : List ℕ) (o : Option (List ℕ × List ℕ))
    → MatchOption o (Lacks (is_sign 35) s) (λ p. (s ≡ p.0 ++ 35 ∷ p.1) × Lacks (is_sign 35) p.0) → IsUtf8 s → IsUtf8 (page_part o s)
page_utf8 s None h is = is
page_utf8 s (Some p) h is = (utf8_around p.0 p.1 35 (lit< tt) (subst IsUtf8 h.0 is)).0

fragment_utf8 : (s : List ℕ) (o : Option (List ℕ × List ℕ))
    → MatchOption o (Lacks (is_sign 35) s) (λ p. (s ≡ p.0 ++ 35 ∷ p.1) × Lacks (is_sign 35) p.0) → IsUtf8 s
    → IfSome (fragment_part o) IsUtf8
fragment_utf8 s None h is = tt
fragment_utf8 s (Some p) h is = utf8_trimmed p.1 (utf8_around p.0 p.1 35 (lit< tt) (subst IsUtf8 h.0 is)).1

name_step : (w rest : List ℕ) (o : Option Ns) → IsUtf8 w → IsUtf8 rest
    → IsUtf8 (unwrap_or {T = Ns × List ℕ} (option_map (λ ns. (ns, trimmed rest)) o) (Main, w)).1
name_step w rest None is part = is
name_step w rest (Some ns) is part = utf8_trimmed rest part

name_utf8 : (w : List ℕ) (o : Option (List ℕ × List ℕ))
    → MatchOption o (Lacks (is_sign 58) w) (λ p. (w ≡ p.0 ++ 58 ∷ p.1) × Lacks (is_sign 58) p.0) → IsUtf8 w
    → IsUtf8 (unwrap_or {T = Ns × List ℕ} (named_part o) (Main, w)).1
name_utf8 w None h is = is
name_utf8 w (Some p) h is = name_step w p.1 (namespace_named (trimmed p.0)) is (utf8_around p.0 p.1 58 (lit< tt) (subst IsUtf8 h.0 is)).1

pub title_utf8 : (text : List ℕ) → IsUtf8 text → IsUtf8 (title_in text).name × IfSome (title_in text).fragment IsUtf8
unfolding title_in cut_namespace whole_in
title_utf8 text is =
    let s = spaced text in
    let is_spaced = utf8_replaced 95 32 text (lit< tt) (lit< tt) is in
    let page = page_part (split_once 35 s) s in
    let w = trimmed (squeezed page) in
    let is_whole = utf8_trimmed (squeezed page) (utf8_squeezed page (page_utf8 s (split_once 35 s) (split_view 35 s) is_spaced)) in
    (utf8_raised _ (name_utf8 w (split_once 58 w) (split_view 58 w) is_whole), fragment_utf8 s (split_once 35 s) (split_view 35 s) is_spaced)

-- Signs in code and their numbers.
use Rattle.std.proofs.Common.{◌≡◌, ◌<◌, ◌≤◌, ◌+◌, ◌-◌, ℕ, Bool, true, false, List, length, drop, take, get_or, cond, sym, ap, ◌∙◌, subst, arith}
use Rattle.std.specs.List.{prefix_len}
use Rattle.std.proofs.lemmas.List.{length-map, length-take, drop-map, take-map, get_or-map, get_or-take, drop_more}
use Rattle.wt_lines.specs.declared.sign.LineSign.{LineSign}
use Rattle.wt_lines.specs.Signs.{number}
use Rattle.wt_tables.specs.Views.{numbers, HasSign}

-- what is left behind so many signs
pub numbers_from : (n : ℕ) (rest ss : List LineSign) → rest ≡ drop n ss → numbers rest ≡ drop n (numbers ss)
numbers_from n rest ss e = ap numbers e ∙ sym (drop-map number n ss)

-- so many signs from the front
pub numbers_front : (n : ℕ) (front ss : List LineSign) → front ≡ take n ss → numbers front ≡ take n (numbers ss)
numbers_front n front ss e = ap numbers e ∙ sym (take-map number n ss)

pub numbers_len : (ss : List LineSign) → length (numbers ss) ≡ length ss
numbers_len ss = length-map ss number

-- the sign at a place
pub number_at : (i : ℕ) (ss : List LineSign) (s : LineSign) → i < length ss → number (get_or ss i s) ≡ get_or (numbers ss) i 0
number_at i ss s l = sym (get_or-map number ss i s 0 l)

-- ---- the front whose numbers pass a test

pub scan_goes : (test : ℕ → Bool) (i n all : ℕ) (ns : List ℕ) → i < length ns → n ≡ get_or ns i 0 → test n ≡ true
    → i + prefix_len test (drop i ns) ≡ all → i + 1 + prefix_len test (drop (i + 1) ns) ≡ all
scan_goes test i n all ns l is e h =
    let here = drop_more ns i 0 l in
    let s : prefix_len test (drop i ns) ≡ 1 + prefix_len test (drop (i + 1) ns) =
    ap (prefix_len test) here ∙ ap (λ (t : Bool). cond t (1 + prefix_len test (drop (i + 1) ns)) 0) (ap test (sym is) ∙ e) in
    omega (arith, s, h)

pub scan_stops : (test : ℕ → Bool) (i n all : ℕ) (ns : List ℕ) → i < length ns → n ≡ get_or ns i 0 → test n ≡ false
    → i + prefix_len test (drop i ns) ≡ all → i ≡ all
scan_stops test i n all ns l is e h =
    let here = drop_more ns i 0 l in
    let s : prefix_len test (drop i ns) ≡ 0 =
    ap (prefix_len test) here ∙ ap (λ (t : Bool). cond t (1 + prefix_len test (drop (i + 1) ns)) 0) (ap test (sym is) ∙ e) in
    omega (arith, s, h)

-- ---- a sign at the front of more

pub sign_front : (n len : ℕ) (ns : List ℕ) → n ≤ len → HasSign n ns → HasSign n (take len ns)
sign_front n len ns le h =
    let at : n - 1 < len = omega (arith, le, h.some) in
    record {
      some = h.some;
      within = omega (arith, le, h.within, length-take len ns);
      low = subst (λ (s : ℕ). s < 128) (sym (get_or-take len ns (n - 1) 0 at)) h.low;
    }

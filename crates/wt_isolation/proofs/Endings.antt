-- How a text ends once one byte more stands behind it.
use Rattle.std.proofs.Common.{arith, ◌≡◌, ◌<◌, ◌≤◌, ◌+◌, ◌-◌, ℕ, zero, suc, Bool, true, false, inl, inr, refl, sym, ap, ◌∙◌, List, [], ◌∷◌, ◌++◌, length, get_or}
use Rattle.std.specs.Prelude.{◌==◌, ◌&&◌, ◌||◌, ◌⊎◌, not, nat_lt, slice_index, reverse, if◌then◌else◌}
use Rattle.std.specs.Char.{is_ascii_alphabetic}
use Rattle.std.specs.List.{prefix_len}
use Rattle.std.proofs.lemmas.Bool.{and_right, cases_lt, ne_eqb, not-true, or_from, or_parts}
use Rattle.std.proofs.lemmas.Bool.Decides.{nat_tests}
use Rattle.std.proofs.lemmas.List.{get_or-reverse, get_or_append_left, get_or_push, length-reverse, length_push, reverse-append}
use Rattle.std.proofs.lemmas.List.Sums.{prefix_len-le-length, prefix_len_passes}
use Rattle.wt_isolation.specs.OpenTags.{bare_len, ends_open, is_stop}
use Rattle.wt_isolation.specs.Passes.{ending_of, ends_with_less}
use Rattle.wt_isolation.specs.declared.ending.Ending.{Ending}
use Rattle.wt_isolation.specs.declared.ending.Ending.TheVariants as ending

less_test : (a b : ℕ) → a < b → nat_lt a b ≡ true
less_test a b e = grind (arith, nat_tests)

not_less_test : (a b : ℕ) → b ≤ a → nat_lt a b ≡ false
not_less_test a b e = grind (arith, nat_tests)

next_test : (a b : ℕ) → nat_lt (a + 1) (b + 1) ≡ nat_lt a b
next_test a b = grind (arith, nat_tests)

-- ---- the bytes behind the last stop

-- so many bytes stand behind the last stop: whether that is a `<` with a letter behind it
abbrev ends_open_by : List ℕ → ℕ → Bool
ends_open_by bs n =
    nat_lt 0 n && (nat_lt n (length bs) && (slice_index bs (length bs - (n + 1)) == 60 && is_ascii_alphabetic (slice_index bs (length bs - n))))

bare_behind : (bs : List ℕ) (b : ℕ) → bare_len (bs ++ b ∷ []) ≡ prefix_len (λ x. not (is_stop x)) (b ∷ reverse bs)
bare_behind bs b = ap (prefix_len (λ (x : ℕ). not (is_stop x))) (reverse-append bs (b ∷ []))

bare_more : (bs : List ℕ) (b : ℕ) → is_stop b ≡ false → bare_len (bs ++ b ∷ []) ≡ bare_len bs + 1
bare_more bs b e = bare_behind bs b ∙ ap (λ (t : Bool). if not t then 1 + bare_len bs else 0) e ∙ omega arith

bare_none : (bs : List ℕ) (b : ℕ) → is_stop b ≡ true → bare_len (bs ++ b ∷ []) ≡ 0
bare_none bs b e = bare_behind bs b ∙ ap (λ (t : Bool). if not t then 1 + bare_len bs else 0) e

-- ---- the last byte

less_last : (bs : List ℕ) (b : ℕ) → ends_with_less (bs ++ b ∷ []) ≡ (b == 60)
less_last bs b =
    let len : length (bs ++ b ∷ []) ≡ length bs + 1 = length_push bs b in
    let last : length bs ≡ length (bs ++ b ∷ []) - 1 = omega (arith, len) in
    ap (λ (t : Bool). t && slice_index (bs ++ b ∷ []) (length (bs ++ b ∷ []) - 1) == 60) (less_test 0 (length (bs ++ b ∷ [])) (omega (arith, len)))
    ∙ ap (λ (x : ℕ). x == 60) (get_or_push bs b 0 (length (bs ++ b ∷ []) - 1) last)

no_less : (x : ℕ) → is_stop x ≡ false → (x == 60) ≡ false
no_less x e = (or_parts (x == 60) (x == 62 || x == 10) e).0

-- no `<` stands last where a byte that is no stop does
bare_last : (bs : List ℕ) → 0 < bare_len bs → ends_with_less bs ≡ false
bare_last bs some =
    let most = prefix_len-le-length (λ (x : ℕ). not (is_stop x)) (reverse bs) in
    let back = length-reverse bs in
    let within : 0 < length bs = omega (arith, some, most, back) in
    let same : length bs - 1 ≡ length bs - 1 - 0 = omega arith in
    let bare = not-true (is_stop (get_or (reverse bs) 0 0)) (prefix_len_passes (λ (x : ℕ). not (is_stop x)) (reverse bs) 0 0 some) in
    and_right (nat_lt 0 (length bs)) (slice_index bs (length bs - 1) == 60)
    (no_less (get_or bs (length bs - 1) 0) (ap (λ (k : ℕ). is_stop (get_or bs k 0)) same ∙ ap is_stop (sym (get_or-reverse bs 0 0 within)) ∙ bare))

-- ---- one byte more

stopped : (bs : List ℕ) (b : ℕ) → is_stop b ≡ true → ends_open (bs ++ b ∷ []) ≡ false
stopped bs b e = ap (ends_open_by (bs ++ b ∷ [])) (bare_none bs b e)

parts : (a b c d e f g h : Bool) → a ≡ e → b ≡ f → c ≡ g → d ≡ h → (a && (b && (c && d))) ≡ (e && (f && (g && h)))
parts a b c d e f g h p q r s = cc

-- behind a stop: the letter is the byte itself
first_bare : (bs : List ℕ) (b : ℕ) → bare_len bs ≡ 0 → ends_open_by (bs ++ b ∷ []) 1 ≡ (ends_with_less bs && is_ascii_alphabetic b)
first_bare bs b none = by (cases_lt 0 (length bs))
  where
    by : (0 < length bs) ⊎ (length bs ≤ 0) → ends_open_by (bs ++ b ∷ []) 1 ≡ (ends_with_less bs && is_ascii_alphabetic b)
    by (inl some) =
        let all = bs ++ b ∷ [] in
        let len : length all ≡ length bs + 1 = length_push bs b in
        let before : get_or all (length all - 2) 0 ≡ get_or bs (length bs - 1) 0 =
        ap (λ (k : ℕ). get_or all k 0) (omega (arith, len)) ∙ get_or_append_left bs (b ∷ []) 0 (length bs - 1) (omega (arith, some)) in
        let last : get_or all (length all - 1) 0 ≡ b = get_or_push bs b 0 (length all - 1) (omega (arith, len)) in
        ap (λ (t : Bool). t && (slice_index all (length all - 2) == 60 && is_ascii_alphabetic (slice_index all (length all - 1))))
        (less_test 1 (length all) (omega (arith, len, some)))
        ∙ ap (λ (x : ℕ). x == 60 && is_ascii_alphabetic (slice_index all (length all - 1))) before
        ∙ ap (λ (x : ℕ). slice_index bs (length bs - 1) == 60 && is_ascii_alphabetic x) last
        ∙ sym (ap (λ (t : Bool). (t && slice_index bs (length bs - 1) == 60) && is_ascii_alphabetic b) (less_test 0 (length bs) some))
    by (inr empty) =
        let all = bs ++ b ∷ [] in
        let len : length all ≡ length bs + 1 = length_push bs b in
        ap (λ (t : Bool). t && (slice_index all (length all - 2) == 60 && is_ascii_alphabetic (slice_index all (length all - 1))))
        (not_less_test 1 (length all) (omega (arith, len, empty)))
        ∙ sym (ap (λ (t : Bool). (t && slice_index bs (length bs - 1) == 60) && is_ascii_alphabetic b) (not_less_test 0 (length bs) empty))

-- behind a byte that is no stop: it ends as before
next_bare : (bs : List ℕ) (b n : ℕ) → 0 < n → ends_open_by (bs ++ b ∷ []) (n + 1) ≡ ends_open_by bs n
next_bare bs b n some = by (cases_lt n (length bs))
  where
    over : (a b c : Bool) → b ≡ false → (a && (b && c)) ≡ false
    over true true c e = absurd (cc)
    over true false c e = refl
    over false b c e = refl

    by : (n < length bs) ⊎ (length bs ≤ n) → ends_open_by (bs ++ b ∷ []) (n + 1) ≡ ends_open_by bs n
    by (inl within) =
        let all = bs ++ b ∷ [] in
        let len : length all ≡ length bs + 1 = length_push bs b in
        let at : get_or all (length all - (n + 1 + 1)) 0 ≡ get_or bs (length bs - (n + 1)) 0 =
        ap (λ (k : ℕ). get_or all k 0) (omega (arith, len)) ∙ get_or_append_left bs (b ∷ []) 0 (length bs - (n + 1)) (omega (arith, within)) in
        let next : get_or all (length all - (n + 1)) 0 ≡ get_or bs (length bs - n) 0 =
        ap (λ (k : ℕ). get_or all k 0) (omega (arith, len)) ∙ get_or_append_left bs (b ∷ []) 0 (length bs - n) (omega (arith, within, some)) in
        parts (nat_lt 0 (n + 1)) (nat_lt (n + 1) (length all)) (slice_index all (length all - (n + 1 + 1)) == 60)
        (is_ascii_alphabetic (slice_index all (length all - (n + 1)))) (nat_lt 0 n) (nat_lt n (length bs)) (slice_index bs (length bs - (n + 1)) == 60)
        (is_ascii_alphabetic (slice_index bs (length bs - n))) (less_test 0 (n + 1) (omega arith) ∙ sym (less_test 0 n some))
        (ap (nat_lt (n + 1)) len ∙ next_test n (length bs)) (ap (λ (x : ℕ). x == 60) at) (ap is_ascii_alphabetic next)
    by (inr past) =
        let all = bs ++ b ∷ [] in
        let len : length all ≡ length bs + 1 = length_push bs b in
        over (nat_lt 0 (n + 1)) (nat_lt (n + 1) (length all)) (slice_index all (length all - (n + 1 + 1)) == 60 && is_ascii_alphabetic (slice_index all (length all - (n + 1))))
        (not_less_test (n + 1) (length all) (omega (arith, len, past)))
        ∙ sym (over (nat_lt 0 n) (nat_lt n (length bs)) (slice_index bs (length bs - (n + 1)) == 60 && is_ascii_alphabetic (slice_index bs (length bs - n)))
        (not_less_test n (length bs) past))

gone_on : (bs : List ℕ) (b : ℕ) → is_stop b ≡ false → ends_open (bs ++ b ∷ []) ≡ (ends_open bs || (ends_with_less bs && is_ascii_alphabetic b))
gone_on bs b e = ap (ends_open_by (bs ++ b ∷ [])) (bare_more bs b e) ∙ by (bare_len bs) refl
  where
    or_none : (t : Bool) → (t || false) ≡ t
    or_none true = refl
    or_none false = refl

    by : (n : ℕ) → bare_len bs ≡ n → ends_open_by (bs ++ b ∷ []) (n + 1) ≡ (ends_open bs || (ends_with_less bs && is_ascii_alphabetic b))
    by zero is =
        first_bare bs b is
        ∙ ap (λ (t : Bool). t || (ends_with_less bs && is_ascii_alphabetic b)) (sym (ap (ends_open_by bs) is))
    by (suc n) is =
        next_bare bs b (suc n) (omega arith)
        ∙ ap (ends_open_by bs) (sym is)
        ∙ sym (or_none (ends_open bs))
        ∙ ap (λ (t : Bool). ends_open bs || (t && is_ascii_alphabetic b)) (sym (bare_last bs (omega (arith, is))))

-- ---- how it ends

abbrev ending_by : Bool → Bool → Ending
ending_by in_tag less = if in_tag then ending.InTag else (if less then ending.BehindLess else ending.Outside)

-- without one byte more: by whether a letter comes
abbrev pub next_ending : Ending → Bool → Ending
next_ending ending.Outside letter = ending.Outside
next_ending ending.BehindLess letter = if letter then ending.InTag else ending.Outside
next_ending ending.InTag letter = ending.InTag

both : (s t u v : Bool) → s ≡ t → u ≡ v → ending_by s u ≡ ending_by t v
both s t u v p q = ap (λ (x : Bool). ending_by x u) p ∙ ap (ending_by t) q

gone_by : (in_tag less letter : Bool) → next_ending (ending_by in_tag less) letter ≡ ending_by (in_tag || (less && letter)) false
gone_by true less letter = refl
gone_by false true true = refl
gone_by false true false = refl
gone_by false false letter = refl

pub with_less : (bs : List ℕ) (b : ℕ) → b ≡ 60 → ending.BehindLess ≡ ending_of (bs ++ b ∷ [])
unfolding ending_of
with_less bs b e =
    sym (both (ends_open (bs ++ b ∷ [])) false (ends_with_less (bs ++ b ∷ [])) true (stopped bs b (ap is_stop e)) (less_last bs b ∙ ap (λ (x : ℕ). x == 60) e))

pub with_end : (bs : List ℕ) (b : ℕ) → (b ≡ 62) ⊎ (b ≡ 10) → ending.Outside ≡ ending_of (bs ++ b ∷ [])
unfolding ending_of
with_end bs b (inl e) =
    sym (both (ends_open (bs ++ b ∷ [])) false (ends_with_less (bs ++ b ∷ [])) false (stopped bs b (ap is_stop e)) (less_last bs b ∙ ap (λ (x : ℕ). x == 60) e))
with_end bs b (inr e) =
    sym (both (ends_open (bs ++ b ∷ [])) false (ends_with_less (bs ++ b ∷ [])) false (stopped bs b (ap is_stop e)) (less_last bs b ∙ ap (λ (x : ℕ). x == 60) e))

pub with_other : (bs : List ℕ) (b : ℕ) → is_stop b ≡ false → next_ending (ending_of bs) (is_ascii_alphabetic b) ≡ ending_of (bs ++ b ∷ [])
unfolding ending_of
with_other bs b e =
    gone_by (ends_open bs) (ends_with_less bs) (is_ascii_alphabetic b)
    ∙ sym (both (ends_open (bs ++ b ∷ [])) (ends_open bs || (ends_with_less bs && is_ascii_alphabetic b)) (ends_with_less (bs ++ b ∷ [])) false (gone_on bs b e)
    (less_last bs b ∙ no_less b e))

no_stop : (b : ℕ) → (b ≡ 60 → ⊥) → (b ≡ 62 → ⊥) → (b ≡ 10 → ⊥) → is_stop b ≡ false
no_stop b p q r = or_from (b == 60) (b == 62 || b == 10) (ne_eqb b 60 p) (or_from (b == 62) (b == 10) (ne_eqb b 62 q) (ne_eqb b 10 r))

pub ends_so : (bs : List ℕ) (b : ℕ) (e f : Ending) → f ≡ e → f ≡ ending_of bs → (b ≡ 60 → ⊥) → (b ≡ 62 → ⊥) → (b ≡ 10 → ⊥)
    → next_ending e (is_ascii_alphabetic b) ≡ ending_of (bs ++ b ∷ [])
ends_so bs b e f is at p q r = ap (λ (x : Ending). next_ending x (is_ascii_alphabetic b)) (sym is ∙ at) ∙ with_other bs b (no_stop b p q r)

-- whether a text ends in an open tag, by how it ends
abbrev pub in_tag : Ending → Bool
in_tag ending.Outside = false
in_tag ending.BehindLess = false
in_tag ending.InTag = true

in_tag_by : (tag less : Bool) → in_tag (ending_by tag less) ≡ tag
in_tag_by true less = refl
in_tag_by false true = refl
in_tag_by false false = refl

pub told : (bs : List ℕ) (e f : Ending) → f ≡ e → f ≡ ending_of bs → in_tag e ≡ ends_open bs
unfolding ending_of
told bs e f is at = ap in_tag (sym is ∙ at) ∙ in_tag_by (ends_open bs) (ends_with_less bs)

pub not_told : (bs : List ℕ) (f : Ending) → (f ≡ ending.Outside) ⊎ (f ≡ ending.BehindLess) → f ≡ ending_of bs → false ≡ ends_open bs
not_told bs f (inl is) at = told bs ending.Outside f is at
not_told bs f (inr is) at = told bs ending.BehindLess f is at

pub nothing_read : ending.Outside ≡ ending_of []
unfolding ending_of
nothing_read = refl

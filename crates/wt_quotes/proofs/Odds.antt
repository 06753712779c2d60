-- What the exchange does to the numbers of toggles; each run has its toggle.
use Rattle.std.proofs.Common.{◌≡◌, ℕ, ◌+◌, ◌%◌, ◌<◌, ◌≤◌, zero, suc, Bool, true, false, not, cond, Option, Some, None, List, [], ◌∷◌, length, get_or, refl, sym, ap, subst, ◌∙◌, ◌-◌, arith, inl, inr, ◌⊎◌}
use Rattle.std.specs.Prelude.{◌==◌, ◌&&◌, if◌then◌else◌, nat_lt, All, slice_get, slice_set, count_by, position}
use Rattle.std.specs.List.{filter_map, cons_option, range_with_len, position_or_len, AllPairs, Any}
use Rattle.std.specs.Option.{option_or}
use Rattle.std.proofs.lemmas.Bool.Decides.{nat_tests}
use Rattle.std.proofs.lemmas.List.Sums.{sum_by-set, fails_before_first}
use Rattle.std.proofs.lemmas.Bool.{cases_lt}
use Rattle.std.proofs.lemmas.Option.{slice_get-get_or, slice_get_past}
use Rattle.wt_quotes.specs.declared.chunk.Chunk.{Chunk}
use Rattle.wt_quotes.specs.declared.toggle.Toggle.{Toggle}
use Rattle.wt_quotes.specs.declared.toggle.Preceding.{Preceding}
use Rattle.wt_quotes.specs.declared.toggle.Preceding.TheVariants.{OneLetter, Middle, Space}
use Rattle.wt_quotes.specs.Runs.{run_length}
use Rattle.wt_quotes.specs.Toggles.{toggle_of, toggle_at, toggles_by_length, class_at, is_same_class, is_bold_alone, is_three, first_of, exchange_place, exchanged, set_exchanged, exchange_at, is_odd, is_due, toggles_of}
use Rattle.wt_quotes.specs.ToggleLaws.{AtMostOneExchange, NotBothOdd, TogglesAreRuns}
use Rattle.wt_quotes.proofs.Exchange.{IsPlaceOfThree, nothing, place_is, toggles_are_runs, Rising, toggles_rise}
use Rattle.wt_quotes.proofs.Since.{parity}

-- at most one

abbrev One : List Toggle → List Toggle → Type 0
One ts us = (us ≡ ts) ⊎ ((i : ℕ) × (t : Toggle) × (slice_get ts i ≡ Some t) × (is_bold_alone t ≡ true) × (us ≡ slice_set ts i (exchanged t)))

one_by : (ts : List Toggle) (b : Bool) (o : Option ℕ) → ((i : ℕ) → o ≡ Some i → IsPlaceOfThree ts nothing i) → One ts (if b then exchange_at o ts else ts)
one_by ts false o g = inl refl
one_by ts true None g = inl refl
one_by ts true (Some i) g =
    let is = g i refl in
    let e : slice_get ts i ≡ Some (get_or ts i nothing) = slice_get-get_or ts i nothing is.0 in
    inr (i, get_or ts i nothing, e, is.1, ap (set_exchanged ts i) e)

pub at_most_one : (chunks : List Chunk) → AtMostOneExchange chunks
unfolding toggles_of
at_most_one chunks =
    let ts : List Toggle = toggles_by_length chunks in
    one_by ts (is_due ts) (exchange_place chunks ts) (place_is chunks ts nothing)

-- not both odd

not_true : (b : Bool) → not b ≡ true → b ≡ false
not_true true e = cc
not_true false e = refl

odd_before : (m n : ℕ) → n + 1 ≡ m → (m % 2 == 1) ≡ true → (n % 2 == 1) ≡ false
odd_before m n e h = not_true (n % 2 == 1) (sym (parity n) ∙ ap (λ k. k % 2 == 1) e ∙ h)

left_true : (a b : Bool) → (a && b) ≡ true → a ≡ true
left_true true b e = refl
left_true false b e = e

alone_bold : (b i : Bool) → (b && not i) ≡ true → b ≡ true
alone_bold true i e = refl
alone_bold false i e = e

one_less : (ts : List Toggle) (i : ℕ) → i < length ts → is_bold_alone (get_or ts i nothing) ≡ true
    → count_by (λ t. t.bold) (slice_set ts i (exchanged (get_or ts i nothing))) + 1 ≡ count_by (λ t. t.bold) ts
one_less ts i h e =
    let t : Toggle = get_or ts i nothing in
    let b = ap (λ (x : Bool). cond {A = ℕ} x 1 0) (alone_bold t.bold t.italic e) in
    omega (arith, sum_by-set (λ u. cond {A = ℕ} u.bold 1 0) ts i (exchanged t) nothing h, b)

no_more_due : (ts : List Toggle) (i : ℕ) → i < length ts → is_bold_alone (get_or ts i nothing) ≡ true → is_due ts ≡ true
    → is_due (slice_set ts i (exchanged (get_or ts i nothing))) ≡ false
no_more_due ts i h e d =
    let us : List Toggle = slice_set ts i (exchanged (get_or ts i nothing)) in
    let odd = odd_before (count_by (λ t. t.bold) ts) (count_by (λ t. t.bold) us) (one_less ts i h e)
    (left_true (is_odd (λ t. t.bold) ts) (is_odd (λ t. t.italic) ts) d) in
    ap (λ x. x && is_odd (λ t. t.italic) us) odd

none_if : (b : Bool) (n : ℕ) → (if b then Some n else None) ≡ None → b ≡ false
none_if true n e = cc
none_if false n e = refl

not_lt : (a b : ℕ) → nat_lt a b ≡ false → b ≤ a
not_lt a b e = grind (arith, nat_tests)

position_none : (p : Toggle → Bool) (ts : List Toggle) (k : ℕ) (d : Toggle) → position p ts ≡ None → k < length ts → p (get_or ts k d) ≡ false
position_none p ts k d e h =
    let past = not_lt (position_or_len p ts) (length ts) (none_if (nat_lt (position_or_len p ts) (length ts)) (position_or_len p ts) e) in
    fails_before_first p ts k d (omega (arith, past))

all_none : (a b c : Option ℕ) → option_or a (option_or b c) ≡ None → (a ≡ None) × (b ≡ None) × (c ≡ None)
all_none None None None e = (refl, refl, refl)
all_none None None (Some k) e = cc
all_none None (Some j) c e = cc
all_none (Some i) b c e = cc

no_class : (alone : Bool) (class : Preceding) → (alone && is_same_class class OneLetter) ≡ false
    → (alone && is_same_class class Middle) ≡ false → (alone && is_same_class class Space) ≡ false → alone ≡ false
no_class false class e f g = refl
no_class true OneLetter e f g = e
no_class true Middle e f g = f
no_class true Space e f g = g

none_alone : (chunks : List Chunk) (ts : List Toggle) → exchange_place chunks ts ≡ None → All (λ t. is_bold_alone t ≡ false) ts
none_alone chunks ts e k d h =
    let none = all_none (first_of chunks OneLetter ts) (first_of chunks Middle ts) (first_of chunks Space ts) e in
    let t : Toggle = get_or ts k d in
    no_class (is_bold_alone t) (class_at chunks t.chunk)
    (position_none (is_three chunks OneLetter) ts k d none.0 h) (position_none (is_three chunks Middle) ts k d none.1 h)
    (position_none (is_three chunks Space) ts k d none.2 h)

even_by : (ts : List Toggle) (b : Bool) (o : Option ℕ) → is_due ts ≡ b → ((i : ℕ) → o ≡ Some i → IsPlaceOfThree ts nothing i)
    → (o ≡ None → All (λ t. is_bold_alone t ≡ false) ts)
    → is_due (if b then exchange_at o ts else ts) ≡ true → All (λ t. is_bold_alone t ≡ false) (if b then exchange_at o ts else ts)
even_by ts false o e g f h = absurd (cc)
even_by ts true None e g f h = f refl
even_by ts true (Some i) e g f h =
    let is = g i refl in
    let s : slice_get ts i ≡ Some (get_or ts i nothing) = slice_get-get_or ts i nothing is.0 in
    let no = ap (λ o. is_due (set_exchanged ts i o)) s ∙ no_more_due ts i is.0 is.1 e in
    absurd (cc)

pub not_both_odd : (chunks : List Chunk) → NotBothOdd chunks
unfolding toggles_of
not_both_odd chunks =
    let ts : List Toggle = toggles_by_length chunks in
    even_by ts (is_due ts) (exchange_place chunks ts) refl (place_is chunks ts nothing) (none_alone chunks ts)

-- each run has its toggle

abbrev Has : ℕ → List Toggle → Type 0
Has k [] = ⊥
Has k (t ∷ ts) = (t.chunk ≡ k) ⊎ Has k ts

has_option : (k : ℕ) (o : Option Toggle) (ts : List Toggle) → Has k ts → Has k (cons_option o ts)
has_option k None ts h = h
has_option k (Some t) ts h = inr h

has_places : (h : ℕ → Option Toggle) (k a n : ℕ) (t : Toggle) → h k ≡ Some t → t.chunk ≡ k → a ≤ k → k < a + n → Has k (filter_map h (range_with_len a n))
has_places h k a zero t e f l m = absurd (omega arith)
has_places h k a (suc n) t e f l m = has_first h k a n t e f (cases_lt a k)
    (λ g. has_places h k (a + 1) n t e f (omega (arith, g)) (omega arith)) l
  where
    has_first : (h : ℕ → Option Toggle) (k a n : ℕ) (t : Toggle) → h k ≡ Some t → t.chunk ≡ k → ((a < k) ⊎ (k ≤ a))
        → (a < k → Has k (filter_map h (range_with_len (a + 1) n))) → a ≤ k
        → Has k (cons_option (h a) (filter_map h (range_with_len (a + 1) n)))
    has_first h k a n t e f (inl g) r l = has_option k (h a) (filter_map h (range_with_len (a + 1) n)) (r g)
    has_first h k a n t e f (inr g) r l =
        let z : k ≡ a = omega arith in
        subst (λ o. Has k (cons_option o (filter_map h (range_with_len (a + 1) n)))) (sym e ∙ ap h z) (inl f)

has_kept : (k : ℕ) (t : Toggle) (ts : List Toggle) (i : ℕ) (o : Option Toggle) → (Has k ts → Has k (set_exchanged ts i o))
    → Has k (t ∷ ts) → Has k (set_exchanged (t ∷ ts) (suc i) o)
has_kept k t ts i None f h = h
has_kept k t ts i (Some u) f (inl e) = inl e
has_kept k t ts i (Some u) f (inr h) = inr (f h)

has_set : (k : ℕ) (ts : List Toggle) (i : ℕ) → Has k ts → Has k (set_exchanged ts i (slice_get ts i))
has_set k [] i h = absurd h
has_set k (t ∷ ts) zero (inl e) = inl e
has_set k (t ∷ ts) zero (inr h) = inr h
has_set k (t ∷ ts) (suc i) h = has_kept k t ts i (slice_get ts i) (has_set k ts i) h

has_exchange : (k : ℕ) (ts : List Toggle) (b : Bool) (o : Option ℕ) → Has k ts → Has k (if b then exchange_at o ts else ts)
has_exchange k ts false o h = h
has_exchange k ts true None h = h
has_exchange k ts true (Some i) h = has_set k ts i h

abbrev IsToggled : ℕ → ℕ → Type 0
IsToggled k n = (t : Toggle) × (toggle_of k n ≡ Some t) × (t.chunk ≡ k)

toggled_by : (k n : ℕ) (small two three four : Bool) → small ≡ false
    → (t : Toggle) × ((if small then None
    else (if two then Some (record { chunk = k; plain = 0; italic = true; bold = false })
    else (if three then Some (record { chunk = k; plain = 0; italic = false; bold = true })
    else (if four then Some (record { chunk = k; plain = 1; italic = false; bold = true })
    else Some (record { chunk = k; plain = n - 5; italic = true; bold = true }))))) ≡ Some t) × (t.chunk ≡ k)
toggled_by k n true two three four e = absurd (cc)
toggled_by k n false true three four e = (record { chunk = k; plain = 0; italic = true; bold = false }, refl, refl)
toggled_by k n false false true four e = (record { chunk = k; plain = 0; italic = false; bold = true }, refl, refl)
toggled_by k n false false false true e = (record { chunk = k; plain = 1; italic = false; bold = true }, refl, refl)
toggled_by k n false false false false e = (record { chunk = k; plain = n - 5; italic = true; bold = true }, refl, refl)

is_long : (n : ℕ) → 2 ≤ n → nat_lt n 2 ≡ false
is_long n h = grind (arith, nat_tests)

is_toggled : (k n : ℕ) → 2 ≤ n → IsToggled k n
is_toggled k n h = toggled_by k n (nat_lt n 2) (n == 2) (n == 3) (n == 4) (is_long n h)

any_of : (k : ℕ) (ts : List Toggle) → Has k ts → Any (λ t. t.chunk ≡ k) ts
any_of k [] h = absurd h
any_of k (t ∷ ts) (inl e) = (0, t, omega arith, refl, e)
any_of k (t ∷ ts) (inr h) = let is = any_of k ts h in (suc is.0, is.1, omega (arith, is.2), is.3, is.4)

within_by : (chunks : List Chunk) (k : ℕ) → 2 ≤ run_length (slice_get chunks k) → ((k < length chunks) ⊎ (length chunks ≤ k)) → k < length chunks
within_by chunks k h (inl l) = l
within_by chunks k h (inr l) = let e = ap run_length (slice_get_past chunks k l) in absurd (omega arith)

each_run : (chunks : List Chunk) (k : ℕ) → 2 ≤ run_length (slice_get chunks k) → Any (λ t. t.chunk ≡ k) (toggles_of chunks)
unfolding toggles_of toggle_at
each_run chunks k h =
    let ts : List Toggle = toggles_by_length chunks in
    let is = is_toggled k (run_length (slice_get chunks k)) h in
    any_of k (if is_due ts then exchange_at (exchange_place chunks ts) ts else ts)
    (has_exchange k ts (is_due ts) (exchange_place chunks ts)
    (has_places (toggle_at chunks) k 0 (length chunks) is.0 is.1 is.2 (omega arith) (omega (arith, within_by chunks k h (cases_lt k (length chunks))))))

-- toggles are in the order of the runs

rising_past : (k : ℕ) (ts : List Toggle) → Rising k ts → All (λ t. k ≤ t.chunk) ts
rising_past k [] h i d l = absurd (omega arith)
rising_past k (t ∷ ts) h zero d l = h.0
rising_past k (t ∷ ts) h (suc i) d l = omega (arith, h.0, rising_past (t.chunk + 1) ts h.1 i d (omega arith))

rising_pairs : (k : ℕ) (ts : List Toggle) → Rising k ts → AllPairs (λ t u. t.chunk < u.chunk) ts
rising_pairs k [] h i j d l m = absurd (omega arith)
rising_pairs k (t ∷ ts) h i zero d l m = absurd (omega arith)
rising_pairs k (t ∷ ts) h zero (suc j) d l m = omega (arith, rising_past (t.chunk + 1) ts h.1 j d (omega arith))
rising_pairs k (t ∷ ts) h (suc i) (suc j) d l m = rising_pairs (t.chunk + 1) ts h.1 i j d (omega arith) (omega arith)

pub are_runs : (chunks : List Chunk) → TogglesAreRuns chunks
are_runs chunks = (toggles_are_runs chunks, each_run chunks, rising_pairs 0 (toggles_of chunks) (toggles_rise chunks))

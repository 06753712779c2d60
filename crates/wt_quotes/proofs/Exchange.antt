-- The toggles and the runs that they are of; what the exchange changes.
use Rattle.std.proofs.Common.{◌≡◌, ℕ, ◌+◌, ◌-◌, ◌<◌, ◌≤◌, zero, suc, Bool, true, false, not, Option, Some, None, List, [], ◌∷◌, length, get_or, refl, sym, ap, subst, ◌∙◌, arith}
use Rattle.std.specs.Prelude.{◌==◌, ◌&&◌, ◌||◌, if◌then◌else◌, nat_lt, All, IfSome, slice_get}
use Rattle.std.specs.List.{filter_map, cons_option, range_with_len}
use Rattle.std.specs.Option.{option_or}
use Rattle.std.proofs.lemmas.Bool.Decides.{Decides-eqb, Decides-ltb, not_from_Decides}
use Rattle.std.proofs.lemmas.List.Elements.{All-nil, All-cons, All-set}
use Rattle.std.proofs.lemmas.List.Quantifiers.{position-Some}
use Rattle.std.proofs.lemmas.Option.{slice_get-get_or}
use Rattle.wt_quotes.specs.declared.chunk.Chunk.{Chunk}
use Rattle.wt_quotes.specs.declared.toggle.Toggle.{Toggle}
use Rattle.wt_quotes.specs.declared.toggle.Preceding.{Preceding}
use Rattle.wt_quotes.specs.declared.toggle.Preceding.TheVariants.{OneLetter, Middle, Space}
use Rattle.wt_quotes.specs.Runs.{run_length}
use Rattle.wt_quotes.specs.Toggles.{toggle_of, toggle_at, toggles_by_length, class_at, is_same_class, is_bold_alone, is_three, first_of, exchange_place, exchanged, set_exchanged, exchange_at, is_due, toggles_of, width_of, IsOfRun, Switches}

-- what a toggle has of its run
IsFor : ℕ → ℕ → Toggle → Type 0
IsFor k n t = (t.chunk ≡ k) × (t.plain + width_of t ≡ n) × ((t.bold || t.italic) ≡ true)

for_bits : (k n : ℕ) (small two three four : Bool) → (small ≡ false → n < 2 → ⊥) → (two ≡ true → n ≡ 2)
    → (two ≡ false → n ≡ 2 → ⊥) → (three ≡ true → n ≡ 3) → (three ≡ false → n ≡ 3 → ⊥)
    → (four ≡ true → n ≡ 4) → (four ≡ false → n ≡ 4 → ⊥)
    → IfSome (if small then None
    else (if two then Some (record { chunk = k; plain = 0; italic = true; bold = false })
    else (if three then Some (record { chunk = k; plain = 0; italic = false; bold = true })
    else (if four then Some (record { chunk = k; plain = 1; italic = false; bold = true })
    else Some (record { chunk = k; plain = n - 5; italic = true; bold = true }))))) (IsFor k n)
unfolding IsFor
for_bits k n true two three four s a b d e f g = tt
for_bits k n false true three four s a b d e f g = (refl, omega (arith, a refl), refl)
for_bits k n false false true four s a b d e f g = (refl, omega (arith, d refl), refl)
for_bits k n false false false true s a b d e f g = (refl, omega (arith, f refl), refl)
for_bits k n false false false false s a b d e f g = (refl, omega (arith, s refl, b refl, e refl, g refl), refl)

toggle_for : (k n : ℕ) → IfSome (toggle_of k n) (IsFor k n)
toggle_for k n = for_bits k n (nat_lt n 2) (n == 2) (n == 3) (n == 4) (not_from_Decides (nat_lt n 2) (Decides-ltb n 2))
    (Decides-eqb n 2).0 (not_from_Decides (n == 2) (Decides-eqb n 2)) (Decides-eqb n 3).0
    (not_from_Decides (n == 3) (Decides-eqb n 3)) (Decides-eqb n 4).0 (not_from_Decides (n == 4) (Decides-eqb n 4))

with_option : (P : Toggle → Type 0) (o : Option Toggle) (ts : List Toggle) → IfSome o P → All P ts → All P (cons_option o ts)
with_option P None ts h hs = hs
with_option P (Some t) ts h hs = All-cons P t ts h hs

pub all_places : (P : Toggle → Type 0) (h : ℕ → Option Toggle) (a n : ℕ) → ((k : ℕ) → k < a + n → IfSome (h k) P) → All P (filter_map h (range_with_len a n))
all_places P h a zero f = All-nil P
all_places P h a (suc n) f = with_option P (h a) (filter_map h (range_with_len (a + 1) n)) (f a (omega arith))
    (all_places P h (a + 1) n (λ k l. f k (omega arith)))

some_weaker : (P Q : Toggle → Type 0) (o : Option Toggle) → ((t : Toggle) → P t → Q t) → IfSome o P → IfSome o Q
some_weaker P Q None f h = tt
some_weaker P Q (Some t) f h = f t h

run_of : (chunks : List Chunk) (k : ℕ) (t : Toggle) → k < length chunks → IsFor k (run_length (slice_get chunks k)) t → IsOfRun chunks t
unfolding IsFor
run_of chunks k t h is =
    (omega (arith, is.0), is.1 ∙ ap (λ m. run_length (slice_get chunks m)) (sym is.0))

switch_of : (k n : ℕ) (t : Toggle) → IsFor k n t → Switches t
unfolding IsFor
switch_of k n t is = is.2

by_length_runs : (chunks : List Chunk) → All (IsOfRun chunks) (toggles_by_length chunks)
unfolding toggle_at
by_length_runs chunks = all_places (IsOfRun chunks) (toggle_at chunks) 0 (length chunks)
    (λ k l. some_weaker (IsFor k (run_length (slice_get chunks k))) (IsOfRun chunks) (toggle_at chunks k)
    (λ t. run_of chunks k t (omega arith)) (toggle_for k (run_length (slice_get chunks k))))

by_length_switch : (chunks : List Chunk) → All Switches (toggles_by_length chunks)
unfolding toggle_at
by_length_switch chunks = all_places Switches (toggle_at chunks) 0 (length chunks)
    (λ k l. some_weaker (IsFor k (run_length (slice_get chunks k))) Switches (toggle_at chunks k)
    (switch_of k (run_length (slice_get chunks k))) (toggle_for k (run_length (slice_get chunks k))))

chosen : (P : ℕ → Type 0) (a b e : Option ℕ) → ((i : ℕ) → a ≡ Some i → P i) → ((i : ℕ) → b ≡ Some i → P i) → ((i : ℕ) → e ≡ Some i → P i)
    → (i : ℕ) → option_or a (option_or b e) ≡ Some i → P i
chosen P None None e f g h i is = h i is
chosen P None (Some k) e f g h i is = g i is
chosen P (Some k) b e f g h i is = f i is

and_left : (a b : Bool) → (a && b) ≡ true → a ≡ true
and_left true b e = refl
and_left false b e = e

abbrev pub IsPlaceOfThree : List Toggle → Toggle → ℕ → Type 0
IsPlaceOfThree ts d i = (i < length ts) × (is_bold_alone (get_or ts i d) ≡ true)

first_is : (chunks : List Chunk) (class : Preceding) (ts : List Toggle) (d : Toggle) (i : ℕ) → first_of chunks class ts ≡ Some i → IsPlaceOfThree ts d i
first_is chunks class ts d i e =
    let found = position-Some (is_three chunks class) ts i d e in
    (found.0, and_left (is_bold_alone (get_or ts i d)) (is_same_class (class_at chunks (get_or ts i d).chunk) class) found.1)

pub place_is : (chunks : List Chunk) (ts : List Toggle) (d : Toggle) (i : ℕ) → exchange_place chunks ts ≡ Some i → IsPlaceOfThree ts d i
place_is chunks ts d = chosen (IsPlaceOfThree ts d) (first_of chunks OneLetter ts) (first_of chunks Middle ts) (first_of chunks Space ts)
    (first_is chunks OneLetter ts d) (first_is chunks Middle ts d) (first_is chunks Space ts d)

pub nothing : Toggle
nothing = record { chunk = 0; plain = 0; italic = false; bold = false }

exchanged_all : (P : Toggle → Type 0) (ts : List Toggle) → ((t : Toggle) → is_bold_alone t ≡ true → P t → P (exchanged t)) → All P ts
    → (o : Option ℕ) → ((i : ℕ) → o ≡ Some i → IsPlaceOfThree ts nothing i) → All P (exchange_at o ts)
exchanged_all P ts f hs None g = hs
exchanged_all P ts f hs (Some i) g =
    let is = g i refl in
    let t : Toggle = get_or ts i nothing in
    let e : slice_get ts i ≡ Some t = slice_get-get_or ts i nothing is.0 in
    subst (λ o. All P (set_exchanged ts i o)) (sym e) (All-set P ts i (exchanged t) (f t is.1 (hs i nothing is.0)) hs)

either_all : (P : Toggle → Type 0) (xs ys : List Toggle) (b : Bool) → All P xs → All P ys → All P (if b then xs else ys)
either_all P xs ys true h k = h
either_all P xs ys false h k = k

toggles_all : (P : Toggle → Type 0) (chunks : List Chunk) → ((t : Toggle) → is_bold_alone t ≡ true → P t → P (exchanged t))
    → All P (toggles_by_length chunks) → All P (toggles_of chunks)
unfolding toggles_of
toggles_all P chunks f hs =
    let ts : List Toggle = toggles_by_length chunks in
    either_all P (exchange_at (exchange_place chunks ts) ts) ts (is_due ts) (exchanged_all P ts f hs (exchange_place chunks ts) (place_is chunks ts nothing)) hs

alone_width : (plain : ℕ) (b i : Bool) → (b && not i) ≡ true → (plain + 1) + 2 ≡ plain + ((if i then 2 else 0) + (if b then 3 else 0))
alone_width plain true false e = omega arith
alone_width plain true true e = cc
alone_width plain false i e = cc

-- each toggle of a context with its plain apostrophes is its run
pub toggles_are_runs : (chunks : List Chunk) → All (IsOfRun chunks) (toggles_of chunks)
toggles_are_runs chunks = toggles_all (IsOfRun chunks) chunks
    (λ t alone run. (run.0, alone_width t.plain t.bold t.italic alone ∙ run.1)) (by_length_runs chunks)

pub toggles_switch : (chunks : List Chunk) → All Switches (toggles_of chunks)
toggles_switch chunks = toggles_all Switches chunks (λ t alone run. refl) (by_length_switch chunks)

-- toggles are of runs that follow one another, from the place k on
abbrev pub Rising : ℕ → List Toggle → Type 0
Rising k [] = Unit {0}
Rising k (t ∷ ts) = (k ≤ t.chunk) × Rising (t.chunk + 1) ts

rising_from : (j k : ℕ) (ts : List Toggle) → j ≤ k → Rising k ts → Rising j ts
rising_from j k [] l h = tt
rising_from j k (t ∷ ts) l h = (omega (arith, h.0), h.1)

rising_option : (k : ℕ) (o : Option Toggle) (ts : List Toggle) → IfSome o (λ t. t.chunk ≡ k) → Rising (k + 1) ts → Rising k (cons_option o ts)
rising_option k None ts h hs = rising_from k (k + 1) ts (omega arith) hs
rising_option k (Some t) ts h hs = (omega (arith, h), rising_from (t.chunk + 1) (k + 1) ts (omega (arith, h)) hs)

rising_places : (h : ℕ → Option Toggle) (a n : ℕ) → ((k : ℕ) → IfSome (h k) (λ t. t.chunk ≡ k)) → Rising a (filter_map h (range_with_len a n))
rising_places h a zero f = tt
rising_places h a (suc n) f = rising_option a (h a) (filter_map h (range_with_len (a + 1) n)) (f a) (rising_places h (a + 1) n f)

chunk_of : (k n : ℕ) (t : Toggle) → IsFor k n t → t.chunk ≡ k
unfolding IsFor
chunk_of k n t is = is.0

pub by_length_rising : (chunks : List Chunk) → Rising 0 (toggles_by_length chunks)
unfolding toggle_at
by_length_rising chunks = rising_places (toggle_at chunks) 0 (length chunks)
    (λ k. some_weaker (IsFor k (run_length (slice_get chunks k))) (λ t. t.chunk ≡ k) (toggle_at chunks k)
    (chunk_of k (run_length (slice_get chunks k))) (toggle_for k (run_length (slice_get chunks k))))

rising_tail : (k : ℕ) (t : Toggle) (ts : List Toggle) (i : ℕ) (o : Option Toggle) → Rising k (t ∷ ts)
    → Rising (t.chunk + 1) (set_exchanged ts i o) → Rising k (set_exchanged (t ∷ ts) (suc i) o)
rising_tail k t ts i None h hs = h
rising_tail k t ts i (Some u) h hs = (h.0, hs)

rising_set : (k : ℕ) (ts : List Toggle) (i : ℕ) → Rising k ts → Rising k (set_exchanged ts i (slice_get ts i))
rising_set k [] zero h = tt
rising_set k [] (suc i) h = tt
rising_set k (t ∷ ts) zero h = h
rising_set k (t ∷ ts) (suc i) h = rising_tail k t ts i (slice_get ts i) h (rising_set (t.chunk + 1) ts i h.1)

rising_exchange : (ts : List Toggle) (o : Option ℕ) → Rising 0 ts → Rising 0 (exchange_at o ts)
rising_exchange ts None h = h
rising_exchange ts (Some i) h = rising_set 0 ts i h

either_rising : (xs ys : List Toggle) (b : Bool) → Rising 0 xs → Rising 0 ys → Rising 0 (if b then xs else ys)
either_rising xs ys true h k = h
either_rising xs ys false h k = k

pub toggles_rise : (chunks : List Chunk) → Rising 0 (toggles_of chunks)
unfolding toggles_of
toggles_rise chunks =
    let ts : List Toggle = toggles_by_length chunks in
    either_rising (exchange_at (exchange_place chunks ts) ts) ts (is_due ts)
    (rising_exchange ts (exchange_place chunks ts) (by_length_rising chunks)) (by_length_rising chunks)

-- The steps that are left of a text fall.
use Rattle.std.proofs.Common.{◌≡◌, ◌<◌, ◌≤◌, ℕ, zero, suc, ◌+◌, ◌-◌, ◌*◌, ◌^◌, ◌⊎◌, inl, inr, List, [], ◌∷◌, length, refl, ap, ◌∙◌, arith}
use Rattle.std.proofs.Math.Nat.{eq-or-lt_of_le, pow-suc}
use Rattle.wt_span.specs.declared.form.Piece.{Piece}
use Rattle.wt_template_stack.specs.declared.level.Level.{Level}
use Rattle.wt_template_stack.specs.declared.reader.Reader.{Reader}
use Rattle.wt_template_stack.specs.declared.run.StepOutcome.{StepOutcome}
use Rattle.wt_template_stack.specs.declared.run.StepOutcome.TheVariants as turn
use Rattle.wt_template_stack.specs.declared.run.TextRun.{TextRun}
use Rattle.wt_template_stack.specs.Measures.{GetsOn, HaveFewerEach, brought, bytes_left, most_steps, steps_behind_all, steps_left}
use Rattle.wt_template_stack.specs.Stacks.{with_given}

-- where fewer bytes are left, they may be read twice and three steps be taken
pub fewer_twice : (n m : ℕ) → n < m → most_steps n + most_steps n + 3 ≤ most_steps m
fewer_twice n zero h = omega (arith, h)
fewer_twice n (suc m) h = by_case (eq-or-lt_of_le {n = n} {m = m} (omega (arith, h))) (λ l. fewer_twice n m l)
  where
    by_case : (n ≡ m) ⊎ (n < m) → (n < m → most_steps n + most_steps n + 3 ≤ most_steps m) → most_steps n + most_steps n + 3 ≤ most_steps (suc m)
    by_case (inl e) before = omega (arith, ap most_steps e)
    by_case (inr l) before = omega (arith, before l)

most_rise : (n m : ℕ) → n ≤ m → most_steps n ≤ most_steps m
most_rise n m h = by_case (eq-or-lt_of_le {n = n} {m = m} h)
  where
    by_case : (n ≡ m) ⊎ (n < m) → most_steps n ≤ most_steps m
    by_case (inl e) = omega (arith, ap most_steps e)
    by_case (inr l) = omega (arith, fewer_twice n m l)

-- bytes are read
pub read_on : (n' n b : ℕ) → n' ≤ n - 1 → 0 < n → most_steps n' + b < most_steps n + b
read_on n' n b h some = omega (arith, fewer_twice n' n (omega (arith, h, some)))

-- or the text is at its end
pub not_behind : (n' n b : ℕ) → n' ≤ n - 1 → most_steps n' + b ≤ most_steps n + b
not_behind n' n b h = omega (arith, most_rise n' n (omega (arith, h)))

-- a level brings all of its own where bytes are left, and nothing at the text's end
pub all_brought : (n k : ℕ) → 0 < n → brought n k ≡ k
all_brought zero k some = absurd (omega (arith, some))
all_brought (suc n) k some = refl

pub none_brought : (n k : ℕ) → n ≡ 0 → brought n k ≡ 0
none_brought zero k none = refl
none_brought (suc n) k none = absurd (omega (arith, none))

-- a level begins at a later place
pub level_begun : (n' n k b b' : ℕ) → n' ≤ n - 1 → b' ≡ brought n k + b → 0 < n → k ≤ most_steps (n - 1) + 2 → most_steps n' + b' < most_steps n + b
level_begun n' n k b b' h e some few =
    omega (arith, fewer_twice (n - 1) n (omega (arith, some)), most_rise n' (n - 1) h, e, all_brought n k some, few)

-- a part begins, unless the text is at its end
pub part_begun : (n' n b b' : ℕ) → n' ≤ n - 1 → b' ≡ brought n 1 + b → most_steps n' + b' ≤ most_steps n + b
part_begun n' zero b b' h e = omega (arith, most_rise n' 0 (omega (arith, h)), e)
part_begun n' (suc n) b b' h e =
    let less = level_begun n' (suc n) 1 b b' h e (omega arith) (omega arith) in omega (arith, less)

-- a level gives way to another one at a later place, whose end may bring as much; or to none at the text's end
pub level_follows : (n' n k b b' : ℕ) → n' ≤ n - 1 → b' ≡ brought n k + b → 0 < k → most_steps n' + b' < k + (most_steps n + b)
level_follows n' zero k b b' h e some = omega (arith, most_rise n' 0 (omega (arith, h)), e, some)
level_follows n' (suc n) k b b' h e some = omega (arith, fewer_twice n' (suc n) (omega (arith, h)), e)

-- a part that was told is given, and read from behind the first brace of its function on
pub part_given : (n' m n b b' : ℕ) → n' ≤ m - 1 → b' ≡ brought m 1 + b → most_steps n' + b' < most_steps (m - 1) + 2 + (most_steps n + b)
part_given n' zero n b b' h e = omega (arith, most_rise n' (0 - 1) h, e)
part_given n' (suc m) n b b' h e = omega (arith, most_rise n' (suc m - 1) h, e)

-- what a function may bring that begins where the reader stands
pub choice_few : (a b : Reader) → a ≡ b → most_steps (bytes_left a - 1) + 2 ≤ most_steps (bytes_left b - 1) + 2
choice_few a b e = omega (arith, ap (λ (r : Reader). most_steps (bytes_left r - 1)) e)

-- a step that leaves fewer steps gets on, whatever comes of it
pub got_on : (b n : ℕ) (k : StepOutcome) → n < b → GetsOn b n k
got_on b n turn.Went h = h
got_on b n (turn.Done ps) h = tt
got_on b n (turn.Called p) h = h

-- pieces that are given bring no steps
pub same_behind : (ps : List Piece) (ms ls : List Level) → ms ≡ with_given ps ls → steps_behind_all ms ≡ steps_behind_all ls
same_behind ps ms ls e = ap steps_behind_all e ∙ by_levels ls
  where
    by_levels : (xs : List Level) → steps_behind_all (with_given ps xs) ≡ steps_behind_all xs
    by_levels [] = refl
    by_levels (l ∷ xs) = refl

-- ---- in other words

-- steps that leave fewer and fewer are as many as were left, at most
pub steps_counted : (first : TextRun) (later : List TextRun) → HaveFewerEach first later → length later ≤ steps_left first
steps_counted first [] h = omega arith
steps_counted first (next ∷ later) h = let less = h.0 in omega (arith, less, steps_counted next later h.1)

-- each byte doubles them
pub steps_number : (n : ℕ) → most_steps n + 3 ≡ 3 * 2 ^ n
steps_number zero = refl
steps_number (suc n) = omega (arith, steps_number n, pow-suc 2 n)

-- ---- worked cases

no_byte : most_steps 0 ≡ 0
no_byte = refl

-- one byte is read, and a level begins and ends there, at most
one_byte : most_steps 1 ≡ 3
one_byte = refl

-- the second is read once or twice
two_bytes : most_steps 2 ≡ 9
two_bytes = refl

ten_bytes : most_steps 10 ≡ 3069
ten_bytes = refl

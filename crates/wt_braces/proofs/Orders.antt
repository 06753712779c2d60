-- Calls in the order of their last bytes, put into that of their first, are the calls of the definition.
use Rattle.std.proofs.Common.{◌≡◌, ℕ, zero, suc, ◌+◌, ◌<◌, ◌≤◌, Bool, true, false, Option, Some, None, List, [], ◌∷◌, ◌++◌, length, reverse, nat_le, refl, sym, ap, ◌∙◌, inl, inr, arith, append_assoc, append-nil, length-append}
use Rattle.std.specs.Prelude.{◌⊎◌, ◌==◌, if◌then◌else◌}
use Rattle.std.specs.Option.{option_or}
use Rattle.std.proofs.lemmas.List.{reverse-append, length-reverse}
use Rattle.wt_span.specs.Braces.{Member, Members, lexeme, call, none, more, CallAt, calls_of, calls_of_all, call_count, call_count_of_all, width, width_of_all, parts_of}
use Rattle.wt_braces.specs.Views.{ClosedAt}
use Rattle.wt_braces.specs.Nested.{Nested, innermost, call_in, deep_in, settled, ordered}
use Rattle.wt_braces.specs.Matched.{closed_of, closed_of_all}
use Rattle.wt_braces.specs.Deep.{deep_of, deep_of_all}
use Rattle.wt_braces.proofs.Settled.{settled_yes, settled_no}

-- how many they are
mutual
  pub closed_count : (at n : ℕ) (m : Member) → length (closed_of at n m) ≡ call_count m
  closed_count at n (lexeme w) = refl
  closed_count at n (call k ms) = length-append (closed_of_all (at + k) n ms) (_ ∷ []) ∙ omega (arith, closed_count_all (at + k) n ms)

  pub closed_count_all : (at n : ℕ) (ms : Members) → length (closed_of_all at n ms) ≡ call_count_of_all ms
  closed_count_all at n none = refl
  closed_count_all at n (more m ms) = length-append (closed_of at n m) (closed_of_all (at + width m) (n + call_count m) ms)
      ∙ omega (arith, closed_count at n m, closed_count_all (at + width m) (n + call_count m) ms)

-- ---- where there is none

none_one : (at n : ℕ) (m : Member) → call_count m ≡ 0 → closed_of at n m ≡ []
none_one at n (lexeme w) e = refl
none_one at n (call k ms) e = absurd (omega (arith, e))

none_all : (at n : ℕ) (ms : Members) → call_count_of_all ms ≡ 0 → closed_of_all at n ms ≡ []
none_all at n none e = refl
none_all at n (more m ms) e =
    ap (λ cs. cs ++ closed_of_all (at + width m) (n + call_count m) ms) (none_one at n m (omega (arith, e)))
    ∙ none_all (at + width m) (n + call_count m) ms (omega (arith, e))

no_call_one : (at n : ℕ) (p : Option ℕ) (m : Member) → call_count m ≡ 0 → calls_of at p n m ≡ []
no_call_one at n p (lexeme w) e = refl
no_call_one at n p (call k ms) e = absurd (omega (arith, e))

no_call_all : (at n : ℕ) (p : Option ℕ) (ms : Members) → call_count_of_all ms ≡ 0 → calls_of_all at p n ms ≡ []
no_call_all at n p none e = refl
no_call_all at n p (more m ms) e =
    ap (λ cs. cs ++ calls_of_all (at + width m) p (n + call_count m) ms) (no_call_one at n p m (omega (arith, e)))
    ∙ no_call_all (at + width m) (n + call_count m) p ms (omega (arith, e))

no_deep_one : (at depth : ℕ) (m : Member) → call_count m ≡ 0 → deep_of at depth m ≡ None
no_deep_one at depth (lexeme w) e = refl
no_deep_one at depth (call k ms) e = absurd (omega (arith, e))

no_deep_all : (at depth : ℕ) (ms : Members) → call_count_of_all ms ≡ 0 → deep_of_all at depth ms ≡ None
no_deep_all at depth none e = refl
no_deep_all at depth (more m ms) e =
    ap (λ o. option_or o (deep_of_all (at + width m) depth ms)) (no_deep_one at depth m (omega (arith, e)))
    ∙ no_deep_all (at + width m) depth ms (omega (arith, e))

-- ---- calls that are begun

abbrev pub AtMost : ℕ → List ClosedAt → Type 0
AtMost n [] = Unit {0}
AtMost n (c ∷ cs) = (c.first ≤ n) × AtMost n cs

at_most_more : (n k : ℕ) (cs : List ClosedAt) → n ≤ k → AtMost n cs → AtMost k cs
at_most_more n k [] le h = tt
at_most_more n k (c ∷ cs) le h = (omega (arith, h.0), at_most_more n k cs le h.1)

still : (m n : ℕ) (cs : List ClosedAt) (w : List CallAt) (d : Option ℕ) → AtMost m cs → m < n → settled n cs w d ≡ record { begun = cs; written = w; deep = d }
still m n [] w d h lt = refl
still m n (c ∷ cs) w d h lt = settled_no n c cs w d (omega (arith, h.0))

or_or : (a b d : Option ℕ) → option_or (option_or a b) d ≡ option_or a (option_or b d)
or_or None b d = refl
or_or (Some n) b d = refl

abbrev root_of : ℕ → ℕ → ℕ → Members → ClosedAt
root_of at n k ms = record { argument = k == 3; from = at; to = at + (k + width_of_all ms + k); parts = parts_of (at + k) ms; first = n }

deep_root : (t : Bool) (at : ℕ) (o d : Option ℕ) → (if t then Some at else option_or o d) ≡ option_or (if t then Some at else o) d
deep_root true at o d = refl
deep_root false at o d = refl

rev_root : (cs : List ClosedAt) (r : ClosedAt) (rest : List ClosedAt) → reverse (cs ++ r ∷ []) ++ rest ≡ r ∷ (reverse cs ++ rest)
rev_root cs r rest = ap (λ xs. xs ++ rest) (reverse-append cs (r ∷ []))

rev_both : (xs ys rest : List ClosedAt) → reverse (xs ++ ys) ++ rest ≡ reverse ys ++ (reverse xs ++ rest)
rev_both xs ys rest = ap (λ zs. zs ++ rest) (reverse-append xs ys) ∙ append_assoc (reverse ys) (reverse xs) rest

len_left : (xs rest : List ClosedAt) (m n : ℕ) → length xs ≡ m → length rest ≡ n → length (reverse xs ++ rest) ≡ n + m
len_left xs rest m n e f = length-append (reverse xs) rest ∙ omega (arith, length-reverse xs, e, f)

-- ---- one more

abbrev State : List ClosedAt → List CallAt → Option ℕ → Nested
State cs w d = record { begun = cs; written = w; deep = d }

-- what members write
abbrev after_one : ℕ → ℕ → Member → List ClosedAt → List CallAt → Option ℕ → Nested
after_one at n m cs w d = settled n cs (calls_of at (innermost cs) (n + length cs) m ++ w) (option_or (deep_of at (length cs) m) d)

abbrev after_all : ℕ → ℕ → Members → List ClosedAt → List CallAt → Option ℕ → Nested
after_all at n ms cs w d = settled n cs (calls_of_all at (innermost cs) (n + length cs) ms ++ w) (option_or (deep_of_all at (length cs) ms) d)

-- a call, by what its inside writes
root_written : (at n k : ℕ) (ms : Members) (cs : List ClosedAt) (w : List CallAt) (d : Option ℕ)
    → settled n (root_of at n k ms ∷ cs) (calls_of_all (at + k) (Some (n + length cs)) (n + length (root_of at n k ms ∷ cs)) ms
    ++ w) (option_or (deep_of_all (at + k) (length (root_of at n k ms ∷ cs)) ms) d) ≡ after_one at n (call k ms) cs w d
root_written at n k ms cs w d =
    let r = root_of at n k ms in
    let e : n + length (r ∷ cs) ≡ n + length cs + 1 = omega arith in
    let f : length (r ∷ cs) ≡ length cs + 1 = omega arith in
    settled_yes n r cs (calls_of_all (at + k) (Some (n + length cs)) (n + length (r ∷ cs)) ms ++ w)
    (option_or (deep_of_all (at + k) (length (r ∷ cs)) ms) d) (omega arith)
    ∙ ap (λ i. settled n cs (call_in r cs ∷ (calls_of_all (at + k) (Some (n + length cs)) i ms ++ w))
    (deep_in r cs (option_or (deep_of_all (at + k) (length (r ∷ cs)) ms) d))) e
    ∙ ap (λ i. settled n cs (call_in r cs ∷ (calls_of_all (at + k) (Some (n + length cs)) (n + length cs + 1) ms ++ w))
    (deep_in r cs (option_or (deep_of_all (at + k) i ms) d))) f
    ∙ ap (λ o. settled n cs (call_in r cs ∷ (calls_of_all (at + k) (Some (n + length cs)) (n + length cs + 1) ms ++ w)) o)
    (deep_root (nat_le 100 (length cs)) at (deep_of_all (at + k) (length cs + 1) ms) d)

-- the same where nothing lies in it
root_alone : (at n k : ℕ) (ms : Members) (cs : List ClosedAt) (w : List CallAt) (d : Option ℕ) → call_count_of_all ms ≡ 0
    → settled n (root_of at n k ms ∷ cs) w d ≡ after_one at n (call k ms) cs w d
root_alone at n k ms cs w d e =
    let r = root_of at n k ms in
    let p : Option ℕ = Some (n + length cs) in
    ap (λ xs. settled n (r ∷ cs) (xs ++ w) d) (sym (no_call_all (at + k) (n + length (r ∷ cs)) p ms e))
    ∙ ap (λ o. settled n (r ∷ cs) (calls_of_all (at + k) p (n + length (r ∷ cs)) ms ++ w) (option_or o d)) (sym (no_deep_all (at + k) (length (r ∷ cs)) ms e))
    ∙ root_written at n k ms cs w d

-- members, by what each of two writes
both_written : (at n : ℕ) (m : Member) (ms : Members) (cs : List ClosedAt) (w : List CallAt) (d : Option ℕ)
    → settled n cs (calls_of at (innermost cs) (n + length cs) m
    ++ (calls_of_all (at + width m) (innermost cs) (n + call_count m + length cs) ms ++ w))
    (option_or (deep_of at (length cs) m) (option_or (deep_of_all (at + width m) (length cs) ms) d))
    ≡ after_all at n (more m ms) cs w d
both_written at n m ms cs w d =
    let e : n + call_count m + length cs ≡ n + length cs + call_count m = omega arith in
    let first = calls_of at (innermost cs) (n + length cs) m in
    ap (λ i. settled n cs (first ++ (calls_of_all (at + width m) (innermost cs) i ms ++ w))
    (option_or (deep_of at (length cs) m) (option_or (deep_of_all (at + width m) (length cs) ms) d))) e
    ∙ ap (λ xs. settled n cs xs (option_or (deep_of at (length cs) m) (option_or (deep_of_all (at + width m) (length cs) ms) d)))
    (sym (append_assoc first (calls_of_all (at + width m) (innermost cs) (n + length cs + call_count m) ms) w))
    ∙ ap (λ o. settled n cs ((first ++ calls_of_all (at + width m) (innermost cs) (n + length cs + call_count m) ms) ++ w) o)
    (sym (or_or (deep_of at (length cs) m) (deep_of_all (at + width m) (length cs) ms) d))

some_or_none : (n : ℕ) → (n ≡ 0) ⊎ (0 < n)
some_or_none zero = inl refl
some_or_none (suc n) = inr (omega arith)

abbrev OneOrders : ℕ → ℕ → Member → Type 0
OneOrders at n m = (rest cs : List ClosedAt) (w : List CallAt) (d : Option ℕ) → length rest ≡ n → AtMost n cs → 0 < call_count m
    → ordered (reverse (closed_of at n m) ++ rest) (State cs w d) ≡ ordered rest (after_one at n m cs w d)

abbrev AllOrders : ℕ → ℕ → Members → Type 0
AllOrders at n ms = (rest cs : List ClosedAt) (w : List CallAt) (d : Option ℕ) → length rest ≡ n → AtMost n cs
    → 0 < call_count_of_all ms → ordered (reverse (closed_of_all at n ms) ++ rest) (State cs w d) ≡ ordered rest (after_all at n ms cs w d)

order_inside : (at n k : ℕ) (ms : Members) → AllOrders (at + k) n ms → (rest cs : List ClosedAt) (w : List CallAt) (d : Option ℕ)
    → length rest ≡ n → AtMost n cs → (call_count_of_all ms ≡ 0) ⊎ (0 < call_count_of_all ms)
    → ordered (reverse (closed_of_all (at + k) n ms) ++ rest) (settled (n + call_count_of_all ms) (root_of at n k ms ∷ cs) w d)
    ≡ ordered rest (after_one at n (call k ms) cs w d)
order_inside at n k ms inner rest cs w d len h (inl e) =
    let z : n + call_count_of_all ms ≡ n = omega (arith, e) in
    ap (λ xs. ordered (reverse xs ++ rest) (settled (n + call_count_of_all ms) (root_of at n k ms ∷ cs) w d)) (none_all (at + k) n ms e)
    ∙ ap (λ i. ordered rest (settled i (root_of at n k ms ∷ cs) w d)) z
    ∙ ap (ordered rest) (root_alone at n k ms cs w d e)
order_inside at n k ms inner rest cs w d len h (inr some) =
    let r = root_of at n k ms in
    ap (ordered (reverse (closed_of_all (at + k) n ms) ++ rest)) (settled_no (n + call_count_of_all ms) r cs w d (omega (arith, some)))
    ∙ inner rest (r ∷ cs) w d len (omega arith, h) some
    ∙ ap (ordered rest) (root_written at n k ms cs w d)

order_both : (at n : ℕ) (m : Member) (ms : Members) → OneOrders at n m → AllOrders (at + width m) (n + call_count m) ms
    → (rest cs : List ClosedAt) (w : List CallAt) (d : Option ℕ) → length rest ≡ n → AtMost n cs → 0 < call_count_of_all (more m ms)
    → (call_count m ≡ 0) ⊎ (0 < call_count m) → (call_count_of_all ms ≡ 0) ⊎ (0 < call_count_of_all ms)
    → ordered (reverse (closed_of_all (at + width m) (n + call_count m) ms) ++ (reverse (closed_of at n m) ++ rest))
    (State cs w d) ≡ ordered rest (after_all at n (more m ms) cs w d)
order_both at n m ms one others rest cs w d len h some (inl e) (inl f) = absurd (omega (arith, some, e, f))
order_both at n m ms one others rest cs w d len h some (inl e) (inr g) =
    let z : n + call_count m ≡ n = omega (arith, e) in
    let next = at + width m in
    let w1 = calls_of_all next (innermost cs) (n + call_count m + length cs) ms ++ w in
    let d1 = option_or (deep_of_all next (length cs) ms) d in
    ap (λ xs. ordered (reverse (closed_of_all next (n + call_count m) ms) ++ (reverse xs ++ rest)) (State cs w d)) (none_one at n m e)
    ∙ others rest cs w d (omega (arith, len, e)) (at_most_more n (n + call_count m) cs (omega arith) h) g
    ∙ ap (λ i. ordered rest (settled i cs w1 d1)) z
    ∙ ap (λ xs. ordered rest (settled n cs (xs ++ w1) d1)) (sym (no_call_one at (n + length cs) (innermost cs) m e))
    ∙ ap (λ o. ordered rest (settled n cs (calls_of at (innermost cs) (n + length cs) m ++ w1) (option_or o d1))) (sym (no_deep_one at (length cs) m e))
    ∙ ap (ordered rest) (both_written at n m ms cs w d)
order_both at n m ms one others rest cs w d len h some (inr g) (inl f) =
    let next = at + width m in
    let i = n + call_count m + length cs in
    ap (λ xs. ordered (reverse xs ++ (reverse (closed_of at n m) ++ rest)) (State cs w d)) (none_all next (n + call_count m) ms f)
    ∙ one rest cs w d len h g
    ∙ ap (λ xs. ordered rest (settled n cs (calls_of at (innermost cs) (n + length cs) m ++ (xs ++ w))
    (option_or (deep_of at (length cs) m) d))) (sym (no_call_all next i (innermost cs) ms f))
    ∙ ap (λ o. ordered rest (settled n cs (calls_of at (innermost cs) (n + length cs) m
    ++ (calls_of_all next (innermost cs) i ms ++ w)) (option_or (deep_of at (length cs) m) (option_or o d))))
    (sym (no_deep_all next (length cs) ms f))
    ∙ ap (ordered rest) (both_written at n m ms cs w d)
order_both at n m ms one others rest cs w d len h some (inr g) (inr k) =
    let next = at + width m in
    let w1 = calls_of_all next (innermost cs) (n + call_count m + length cs) ms ++ w in
    let d1 = option_or (deep_of_all next (length cs) ms) d in
    let there : length (reverse (closed_of at n m) ++ rest) ≡ n + call_count m = len_left (closed_of at n m) rest (call_count m) n (closed_count at n m) len in
    others (reverse (closed_of at n m) ++ rest) cs w d there (at_most_more n (n + call_count m) cs (omega arith) h) k
    ∙ ap (ordered (reverse (closed_of at n m) ++ rest)) (still n (n + call_count m) cs w1 d1 h (omega (arith, g)))
    ∙ one rest cs w1 d1 len h g
    ∙ ap (ordered rest) (both_written at n m ms cs w d)

mutual
  order_one : (at n : ℕ) (m : Member) → OneOrders at n m
  order_one at n (lexeme x) rest cs w d len h some = absurd (omega (arith, some))
  order_one at n (call k ms) rest cs w d len h some =
      let r = root_of at n k ms in
      let inside = closed_of_all (at + k) n ms in
      let long : length (reverse inside ++ rest) ≡ n + call_count_of_all ms = len_left inside rest (call_count_of_all ms) n
      (closed_count_all (at + k) n ms) len in
      ap (λ xs. ordered xs (State cs w d)) (rev_root inside r rest)
      ∙ ap (λ i. ordered (reverse inside ++ rest) (settled i (r ∷ cs) w d)) long
      ∙ order_inside at n k ms (order_all (at + k) n ms) rest cs w d len h (some_or_none (call_count_of_all ms))

  order_all : (at n : ℕ) (ms : Members) → AllOrders at n ms
  order_all at n none rest cs w d len h some = absurd (omega (arith, some))
  order_all at n (more m ms) rest cs w d len h some =
      ap (λ xs. ordered xs (State cs w d)) (rev_both (closed_of at n m) (closed_of_all (at + width m) (n + call_count m) ms) rest)
      ∙ order_both at n m ms (order_one at n m) (order_all (at + width m) (n + call_count m) ms) rest cs w d len h some
      (some_or_none (call_count m)) (some_or_none (call_count_of_all ms))

order_by : (at : ℕ) (ms : Members) → (call_count_of_all ms ≡ 0) ⊎ (0 < call_count_of_all ms)
    → ordered (reverse (closed_of_all at 0 ms)) (State [] [] None) ≡ State [] (calls_of_all at None 0 ms) (deep_of_all at 0 ms)
order_by at ms (inl e) =
    ap (λ xs. ordered (reverse xs) (State [] [] None)) (none_all at 0 ms e)
    ∙ ap (λ xs. State [] xs None) (sym (no_call_all at 0 None ms e)) ∙ ap (λ o. State [] (calls_of_all at None 0 ms) o) (sym (no_deep_all at 0 ms e))
order_by at ms (inr some) =
    ap (λ xs. ordered xs (State [] [] None)) (sym (append-nil (reverse (closed_of_all at 0 ms))))
    ∙ order_all at 0 ms [] [] [] None refl tt some
    ∙ ap (λ xs. State [] xs (option_or (deep_of_all at 0 ms) None)) (append-nil (calls_of_all at None 0 ms))
    ∙ ap (λ o. State [] (calls_of_all at None 0 ms) o) (or_none (deep_of_all at 0 ms))
  where
    or_none : (o : Option ℕ) → option_or o None ≡ o
    or_none None = refl
    or_none (Some n) = refl

pub in_order : (at : ℕ) (ms : Members) → ordered (reverse (closed_of_all at 0 ms)) (State [] [] None)
    ≡ State [] (calls_of_all at None 0 ms) (deep_of_all at 0 ms)
in_order at ms = order_by at ms (some_or_none (call_count_of_all ms))

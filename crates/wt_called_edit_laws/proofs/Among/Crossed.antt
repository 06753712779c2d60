-- Two texts side by side: where no call of both goes over their border, nothing is left to open in the first one, or nothing to close in the second one.
use Rattle.std.proofs.Common.{arith, ◌≡◌, ◌⊎◌, inl, inr, ℕ, zero, suc, ◌+◌, ◌-◌, ◌<◌, ◌≤◌, Bool, true, false, Some, List, [], ◌∷◌, ◌++◌, reverse, refl, sym, ap, ◌∙◌, subst, append_assoc}
use Rattle.std.specs.Prelude.{◌==◌, if◌then◌else◌}
use Rattle.std.proofs.lemmas.Bool.Decides.{nat_tests}
use Rattle.std.proofs.lemmas.List.{reverse-append}
use Rattle.wt_span.specs.declared.form.LexKind.{LexKind}
use Rattle.wt_span.specs.declared.form.LexKind.TheVariants.{Chars, CommentLine, Comment, Raw, Include, Hidden, Entity, Opens, Closes, LinkOpen, LinkClose, Pipe, Equals}
use Rattle.wt_span.specs.Lexemes.{Word}
use Rattle.wt_span.specs.Braces.{Member, lexeme, call, members, width, width_of_all, has_two, open_left, taken, left_over, rewritten, again, closed_by, with_word, reduced_onto, reduced}
use Rattle.wt_braces.proofs.Closings.{stuck_again}
use Rattle.wt_braces.proofs.Shapes.{NoRun, Behind, nearest}
use Rattle.wt_braces.proofs.Takings.{taking, rewritten_at, stuck_free, stuck_few}
use Rattle.wt_part_laws.specs.Apart.{NoneOpens, NoneCloses, AreApart, AreMet}
use Rattle.wt_part_laws.proofs.ApartCalls.{onto_calm}

-- ---- how many bytes members take, listed from the nearest on

abbrev pub bytes_in : List Member → ℕ
bytes_in [] = 0
bytes_in (x ∷ xs) = width x + bytes_in xs

pub bytes_append : (xs ys : List Member) → bytes_in (xs ++ ys) ≡ bytes_in xs + bytes_in ys
bytes_append [] ys = omega arith
bytes_append (x ∷ xs) ys = let e = bytes_append xs ys in omega (arith, e)

bytes_left : (kind : LexKind) (n : ℕ) → bytes_in (left_over kind n) ≡ n
bytes_left kind n = by (n == 0) refl
  where
    by : (t : Bool) → (n == 0) ≡ t → bytes_in (if t then [] else lexeme (kind, n) ∷ []) ≡ n
    by true e = let z : n ≡ 0 = grind (arith, nat_tests, e) in omega (arith, z)
    by false e = omega arith

pub bytes_members : (xs : List Member) → width_of_all (members xs) ≡ bytes_in xs
bytes_members [] = refl
bytes_members (x ∷ xs) = let e = bytes_members xs in omega (arith, e)

pub bytes_reverse : (xs : List Member) → bytes_in (reverse xs) ≡ bytes_in xs
bytes_reverse [] = refl
bytes_reverse (x ∷ xs) =
    let e = ap bytes_in (reverse-append (x ∷ []) xs) in
    let f = bytes_append (reverse xs) (x ∷ []) in
    let g = bytes_reverse xs in
    omega (arith, e, f, g)

-- all of a text's
pub bytes_reduced : (ws : List Word) → width_of_all (members (reduced ws)) ≡ bytes_in (reduced_onto [] ws)
unfolding reduced
bytes_reduced ws = bytes_members (reverse (reduced_onto [] ws)) ∙ bytes_reverse (reduced_onto [] ws)

-- ---- a call goes over a place

abbrev pub IsOver : ℕ → ℕ → Member → Type 0
IsOver p at (lexeme w) = ⊥
IsOver p at (call k ms) = (at < p) × (p < at + (k + width_of_all ms + k))

-- of members that are listed from the nearest on
abbrev pub IsCrossed : ℕ → List Member → Type 0
IsCrossed p [] = ⊥
IsCrossed p (x ∷ xs) = IsOver p (bytes_in xs) x ⊎ IsCrossed p xs

crossed_front : (p : ℕ) (xs ys : List Member) → IsCrossed p ys → IsCrossed p (xs ++ ys)
crossed_front p [] ys h = h
crossed_front p (x ∷ xs) ys h = inr (crossed_front p xs ys h)

-- the call is one of the last of them, or the place is among the first
crossed_in : (p : ℕ) (xs ys : List Member) → IsCrossed p (xs ++ ys) → IsCrossed p ys ⊎ ((bytes_in ys < p) × (p < bytes_in xs + bytes_in ys))
crossed_in p [] ys h = inl h
crossed_in p (lexeme w ∷ xs) ys (inl o) = absurd o
crossed_in p (call k ms ∷ xs) ys (inl o) =
    let e = bytes_append xs ys in
    let low : bytes_in ys < p = omega (arith, e, o.0) in
    let high : p < bytes_in (call k ms ∷ xs) + bytes_in ys = omega (arith, e, o.1) in
    inr (low, high)
crossed_in p (x ∷ xs) ys (inr h) = elim (crossed_in p xs ys h) [
  | inl c ↦ inl c
  | inr b ↦ inr (b.0, omega (arith, b.1))
]

-- a call that is made goes over each place between its ends
over_made : (p k n : ℕ) (inside rest : List Member) → 2 ≤ k → k ≤ n → bytes_in rest + n ≤ p → p ≤ bytes_in inside + (n + bytes_in rest)
    → IsCrossed p (call k (members (reverse inside)) ∷ (left_over Opens (n - k) ++ rest))
over_made p k n inside rest two le low high =
    let over : List Member = left_over Opens (n - k) in
    let e = bytes_append over rest in
    let f = bytes_left Opens (n - k) in
    let g : width_of_all (members (reverse inside)) ≡ bytes_in inside = bytes_members (reverse inside) ∙ bytes_reverse inside in
    let first : bytes_in (over ++ rest) < p = omega (arith, e, f, two, le, low) in
    let last : p < bytes_in (over ++ rest) + (k + width_of_all (members (reverse inside)) + k) = omega (arith, e, f, g, two, le, high) in
    inl (first, last)

-- ---- it stays so

pub taken_so : (c : ℕ) (xs : List Member) (b : Behind xs) → 2 ≤ c
    → rewritten (c, xs)
    ≡ (c - taken b.braces c, call (taken b.braces c) (members (reverse b.inside)) ∷ (left_over Opens (b.braces - taken b.braces c) ++ b.rest))
taken_so c xs b more = ap (λ ys. rewritten (c, ys)) b.is ∙ rewritten_at c b.braces b.inside b.rest b.free b.two more

abbrev pub listed : ℕ × List Member → List Member
listed s = s.1

crossed_taken : (p c : ℕ) (xs : List Member) → 2 ≤ c → NoRun xs ⊎ Behind xs → IsCrossed p xs → IsCrossed p (listed (rewritten (c, xs)))
crossed_taken p c xs more (inl free) h = subst (λ (s : ℕ × List Member). IsCrossed p (listed s)) (sym (stuck_free c xs free)) h
crossed_taken p c xs more (inr b) h =
    let k : ℕ = taken b.braces c in
    let t = taking b.braces c b.two more in
    let run : Member = lexeme (Opens, b.braces) in
    let made : Member = call k (members (reverse b.inside)) in
    let over : List Member = left_over Opens (b.braces - k) in
    let new : IsCrossed p (made ∷ (over ++ b.rest)) = elim (crossed_in p b.inside (run ∷ b.rest) (subst (IsCrossed p) b.is h)) [
      | inl (inl o) ↦ absurd o
      | inl (inr c) ↦ inr (crossed_front p over b.rest c)
      | inr b2 ↦ over_made p k b.braces b.inside b.rest t.two t.opening (omega (arith, b2.0)) (omega (arith, b2.1))
    ] in
    subst (λ (s : ℕ × List Member). IsCrossed p (listed s)) (sym (taken_so c xs b more)) new

crossed_step : (p c : ℕ) (xs : List Member) → IsCrossed p xs → IsCrossed p (listed (rewritten (c, xs)))
crossed_step p zero xs h = subst (λ (s : ℕ × List Member). IsCrossed p (listed s)) (sym (stuck_few zero xs (omega arith))) h
crossed_step p (suc zero) xs h = subst (λ (s : ℕ × List Member). IsCrossed p (listed s)) (sym (stuck_few (suc zero) xs (omega arith))) h
crossed_step p (suc (suc c)) xs h = crossed_taken p (suc (suc c)) xs (omega arith) (nearest xs) h

crossed_again : (p f : ℕ) (x : ℕ × List Member) → IsCrossed p (listed x) → IsCrossed p (listed (again f rewritten x))
crossed_again p zero x h = h
crossed_again p (suc f) x h = crossed_again p f (rewritten x) (crossed_step p x.0 x.1 h)

crossed_closed : (p n : ℕ) (xs : List Member) → IsCrossed p (listed (again n rewritten (n, xs))) → IsCrossed p (closed_by n xs)
crossed_closed p n xs h = let s : ℕ × List Member = again n rewritten (n, xs) in crossed_front p (left_over Closes s.0) s.1 h

crossed_word : (p : ℕ) (w : Word) (xs : List Member) → IsCrossed p xs → IsCrossed p (with_word w xs)
crossed_word p (Chars, n) xs h = inr h
crossed_word p (CommentLine, n) xs h = inr h
crossed_word p (Comment, n) xs h = inr h
crossed_word p (Raw, n) xs h = inr h
crossed_word p (Include, n) xs h = inr h
crossed_word p (Hidden, n) xs h = inr h
crossed_word p (Entity c, n) xs h = inr h
crossed_word p (Opens, n) xs h = inr h
crossed_word p (Closes, n) xs h = crossed_closed p n xs (crossed_again p n (n, xs) h)
crossed_word p (LinkOpen, n) xs h = inr h
crossed_word p (LinkClose, n) xs h = inr h
crossed_word p (Pipe, n) xs h = inr h
crossed_word p (Equals, n) xs h = inr h

crossed_onto : (p : ℕ) (ws : List Word) (xs : List Member) → IsCrossed p xs → IsCrossed p (reduced_onto xs ws)
crossed_onto p [] xs h = h
crossed_onto p (w ∷ ws) xs h = crossed_onto p ws (with_word w xs) (crossed_word p w xs h)

-- ---- none closes

closes_front : (xs ys : List Member) → NoneCloses (xs ++ ys) → NoneCloses xs
closes_front [] ys h = tt
closes_front (x ∷ xs) ys h = (h.0, closes_front xs ys h.1)

closes_rest : (xs ys : List Member) → NoneCloses (xs ++ ys) → NoneCloses ys
closes_rest [] ys h = h
closes_rest (x ∷ xs) ys h = closes_rest xs ys h.1

closes_both : (xs ys : List Member) → NoneCloses xs → NoneCloses ys → NoneCloses (xs ++ ys)
closes_both [] ys h g = g
closes_both (x ∷ xs) ys h g = (h.0, closes_both xs ys h.1 g)

opens_over : (n : ℕ) → NoneCloses (left_over Opens n)
opens_over n = by (n == 0)
  where
    by : (t : Bool) → NoneCloses (if t then [] else lexeme (Opens, n) ∷ [])
    by true = tt
    by false = (omega arith, tt)

closes_over : (n : ℕ) → n < 2 → NoneCloses (left_over Closes n)
closes_over n few = by (n == 0)
  where
    by : (t : Bool) → NoneCloses (if t then [] else lexeme (Closes, n) ∷ [])
    by true = tt
    by false = (few, tt)

closes_taken : (c : ℕ) (xs : List Member) → 2 ≤ c → NoRun xs ⊎ Behind xs → NoneCloses xs → NoneCloses (listed (rewritten (c, xs)))
closes_taken c xs more (inl free) h = subst (λ (s : ℕ × List Member). NoneCloses (listed s)) (sym (stuck_free c xs free)) h
closes_taken c xs more (inr b) h =
    let all : NoneCloses (b.inside ++ lexeme (Opens, b.braces) ∷ b.rest) = subst NoneCloses b.is h in
    let rest = closes_rest b.inside (lexeme (Opens, b.braces) ∷ b.rest) all in
    let over : List Member = left_over Opens (b.braces - taken b.braces c) in
    subst (λ (s : ℕ × List Member). NoneCloses (listed s)) (sym (taken_so c xs b more))
    (omega arith, closes_both over b.rest (opens_over (b.braces - taken b.braces c)) rest.1)

closes_step : (c : ℕ) (xs : List Member) → NoneCloses xs → NoneCloses (listed (rewritten (c, xs)))
closes_step zero xs h = subst (λ (s : ℕ × List Member). NoneCloses (listed s)) (sym (stuck_few zero xs (omega arith))) h
closes_step (suc zero) xs h = subst (λ (s : ℕ × List Member). NoneCloses (listed s)) (sym (stuck_few (suc zero) xs (omega arith))) h
closes_step (suc (suc c)) xs h = closes_taken (suc (suc c)) xs (omega arith) (nearest xs) h

closes_again : (f : ℕ) (x : ℕ × List Member) → NoneCloses (listed x) → NoneCloses (listed (again f rewritten x))
closes_again zero x h = h
closes_again (suc f) x h = closes_again f (rewritten x) (closes_step x.0 x.1 h)

-- ---- a closing run behind members of which one opens

-- with more members before
abbrev with_more : List Member → ℕ × List Member → ℕ × List Member
with_more before x = (x.0, x.1 ++ before)

-- the place is behind the nearest run that opens, among the members that are before
record IsBehind (p : ℕ) (before : List Member) : Type 0 where
  run : Behind before
  low : bytes_in run.rest + run.braces ≤ p
  high : p ≤ bytes_in before

both_free : (xs ys : List Member) → NoRun xs → NoRun ys → NoRun (xs ++ ys)
both_free [] ys h g = g
both_free (x ∷ xs) ys h g = (h.0, both_free xs ys h.1 g)

step_near : (c : ℕ) (xs before : List Member) → Behind xs → 2 ≤ c → rewritten (c, xs ++ before) ≡ with_more before (rewritten (c, xs))
step_near c xs before b more =
    let k : ℕ = taken b.braces c in
    let made : Member = call k (members (reverse b.inside)) in
    ap (λ ys. rewritten (c, ys)) (ap (λ ys. ys ++ before) b.is ∙ append_assoc b.inside (lexeme (Opens, b.braces) ∷ b.rest) before)
    ∙ rewritten_at c b.braces b.inside (b.rest ++ before) b.free b.two more
    ∙ ap (λ (ys : List Member). (c - k, made ∷ ys)) (sym (append_assoc (left_over Opens (b.braces - k)) b.rest before))
    ∙ ap (with_more before) (sym (taken_so c xs b more))

-- what is nearer opens nothing, so the call that is made goes over the place
far_crossed : (p c : ℕ) (xs before : List Member) → IsBehind p before → NoRun xs → 2 ≤ c → IsCrossed p (listed (rewritten (c, xs ++ before)))
far_crossed p c xs before h free more =
    let b : Behind before = h.run in
    let k : ℕ = taken b.braces c in
    let t = taking b.braces c b.two more in
    let inside : List Member = xs ++ b.inside in
    let is : xs ++ before ≡ inside ++ lexeme (Opens, b.braces) ∷ b.rest =
    ap (λ ys. xs ++ ys) b.is ∙ sym (append_assoc xs b.inside (lexeme (Opens, b.braces) ∷ b.rest)) in
    let e = bytes_append xs b.inside in
    let f : bytes_in before ≡ bytes_in b.inside + (b.braces + bytes_in b.rest) = ap bytes_in b.is ∙ bytes_append b.inside (lexeme (Opens, b.braces) ∷ b.rest) in
    let s : rewritten (c, xs ++ before) ≡ (c - k, call k (members (reverse inside)) ∷ (left_over Opens (b.braces - k) ++ b.rest)) =
    ap (λ ys. rewritten (c, ys)) is ∙ rewritten_at c b.braces inside b.rest (both_free xs b.inside free b.free) b.two more in
    let high : p ≤ bytes_in inside + (b.braces + bytes_in b.rest) = omega (arith, e, f, h.high) in
    subst (λ (x : ℕ × List Member). IsCrossed p (listed x)) (sym s) (over_made p k b.braces inside b.rest t.two t.opening h.low high)

-- all braces of a closing run but one are taken from what is nearer, or a call goes over the place
abbrev AreTaken : ℕ → ℕ → ℕ × List Member → List Member → Type 0
AreTaken p f x before =
    (((again f rewritten x).0 < 2) × (again f rewritten (with_more before x) ≡ with_more before (again f rewritten x)))
    ⊎ IsCrossed p (listed (again f rewritten (with_more before x)))

taken_few : (p f c : ℕ) (xs before : List Member) → c < 2 → AreTaken p f (c, xs) before
taken_few p f c xs before few =
    let e : again f rewritten (c, xs) ≡ (c, xs) = stuck_again f (c, xs) (stuck_few c xs few) in
    inl (
      subst (λ (s : ℕ × List Member). s.0 < 2) (sym e) few,
      stuck_again f (c, xs ++ before) (stuck_few c (xs ++ before) few) ∙ ap (with_more before) (sym e),
    )

less : (x y : ℕ × List Member) (f k : ℕ) → x ≡ y → y.0 + k ≤ suc f → 2 ≤ k → x.0 ≤ f
less x y f k e h two = let same : x.0 ≡ y.0 = ap (λ (s : ℕ × List Member). s.0) e in omega (arith, same, h, two)

taken_more : (p f c : ℕ) (xs before : List Member) → rewritten (c, xs ++ before) ≡ with_more before (rewritten (c, xs))
    → AreTaken p f (rewritten (c, xs)) before → AreTaken p (suc f) (c, xs) before
taken_more p f c xs before e (inl h) = inl (h.0, ap (again f rewritten) e ∙ h.1)
taken_more p f c xs before e (inr h) = inr (subst (λ (s : ℕ × List Member). IsCrossed p (listed (again f rewritten s))) (sym e) h)

taken_by : (p f c : ℕ) (xs before : List Member) → IsBehind p before → c ≤ f → AreTaken p f (c, xs) before
taken_by p zero c xs before b le = taken_few p zero c xs before (omega (arith, le))
taken_by p (suc f) zero xs before b le = taken_few p (suc f) zero xs before (omega arith)
taken_by p (suc f) (suc zero) xs before b le = taken_few p (suc f) (suc zero) xs before (omega arith)
taken_by p (suc f) (suc (suc c)) xs before b le = by_nearest (λ x small. taken_by p f x.0 x.1 before b small) (nearest xs)
  where
    by_nearest : ((x : ℕ × List Member) → x.0 ≤ f → AreTaken p f x before) → NoRun xs ⊎ Behind xs → AreTaken p (suc f) (suc (suc c), xs) before
    by_nearest smaller (inl free) =
        let n : ℕ = suc (suc c) in
        inr (crossed_again p f (rewritten (n, xs ++ before)) (far_crossed p n xs before b free (omega arith)))
    by_nearest smaller (inr r) =
        let n : ℕ = suc (suc c) in
        let s = taking r.braces n r.two (omega arith) in
        let x : ℕ × List Member = rewritten (n, xs) in
        let small : x.0 ≤ f =
        less x (n - taken r.braces n, call (taken r.braces n) (members (reverse r.inside)) ∷ (left_over Opens (r.braces - taken r.braces n) ++ r.rest)) f
        (taken r.braces n) (taken_so n xs r (omega arith)) (omega (arith, s.closing, le)) s.two in
        taken_more p f n xs before (step_near n xs before r (omega arith)) (smaller x small)

abbrev closed_so : ℕ × List Member → List Member
closed_so s = left_over Closes s.0 ++ s.1

close_more : (s : ℕ × List Member) (before : List Member) → closed_so (with_more before s) ≡ closed_so s ++ before
close_more s before = sym (append_assoc (left_over Closes s.0) s.1 before)

-- what more lexemes make behind such members: nothing closes, or a call goes over the place
abbrev Meets : ℕ → List Member → List Word → List Member → Type 0
Meets p before ws xs = NoneCloses (reduced_onto xs ws) ⊎ IsCrossed p (reduced_onto (xs ++ before) ws)

close_meets : (p n : ℕ) (xs before : List Member) (ws : List Word) → NoneCloses xs → AreTaken p n (n, xs) before
    → (NoneCloses (closed_by n xs) → Meets p before ws (closed_by n xs)) → Meets p before ((Closes, n) ∷ ws) xs
close_meets p n xs before ws h (inl t) go =
    let s : ℕ × List Member = again n rewritten (n, xs) in
    let same : closed_by n (xs ++ before) ≡ closed_by n xs ++ before = ap closed_so t.1 ∙ close_more s before in
    let short : NoneCloses (closed_by n xs) = closes_both (left_over Closes s.0) s.1 (closes_over s.0 t.0) (closes_again n (n, xs) h) in
    subst (λ ys. NoneCloses (reduced_onto (closed_by n xs) ws) ⊎ IsCrossed p (reduced_onto ys ws)) (sym same) (go short)
close_meets p n xs before ws h (inr c) go = inr (crossed_onto p ws (closed_by n (xs ++ before)) (crossed_closed p n (xs ++ before) c))

meets : (p : ℕ) (before : List Member) → IsBehind p before → (ws : List Word) (xs : List Member) → NoneCloses xs → Meets p before ws xs
meets p before b [] xs h = inl h
meets p before b ((Chars, n) ∷ ws) xs h = meets p before b ws (lexeme (Chars, n) ∷ xs) (omega arith, h)
meets p before b ((CommentLine, n) ∷ ws) xs h = meets p before b ws (lexeme (CommentLine, n) ∷ xs) (omega arith, h)
meets p before b ((Comment, n) ∷ ws) xs h = meets p before b ws (lexeme (Comment, n) ∷ xs) (omega arith, h)
meets p before b ((Raw, n) ∷ ws) xs h = meets p before b ws (lexeme (Raw, n) ∷ xs) (omega arith, h)
meets p before b ((Include, n) ∷ ws) xs h = meets p before b ws (lexeme (Include, n) ∷ xs) (omega arith, h)
meets p before b ((Hidden, n) ∷ ws) xs h = meets p before b ws (lexeme (Hidden, n) ∷ xs) (omega arith, h)
meets p before b ((Entity c, n) ∷ ws) xs h = meets p before b ws (lexeme (Entity c, n) ∷ xs) (omega arith, h)
meets p before b ((Opens, n) ∷ ws) xs h = meets p before b ws (lexeme (Opens, n) ∷ xs) (omega arith, h)
meets p before b ((Closes, n) ∷ ws) xs h =
    close_meets p n xs before ws h (taken_by p n n xs before b (omega arith)) (λ g. meets p before b ws (closed_by n xs) g)
meets p before b ((LinkOpen, n) ∷ ws) xs h = meets p before b ws (lexeme (LinkOpen, n) ∷ xs) (omega arith, h)
meets p before b ((LinkClose, n) ∷ ws) xs h = meets p before b ws (lexeme (LinkClose, n) ∷ xs) (omega arith, h)
meets p before b ((Pipe, n) ∷ ws) xs h = meets p before b ws (lexeme (Pipe, n) ∷ xs) (omega arith, h)
meets p before b ((Equals, n) ∷ ws) xs h = meets p before b ws (lexeme (Equals, n) ∷ xs) (omega arith, h)

-- ---- of members in their order

open_few : (x : Member) → has_two x ≡ false → open_left (Some x) < 2
open_few x h = grind (arith, nat_tests)

opens_last : (xs : List Member) (y : Member) → NoneOpens xs → open_left (Some y) < 2 → NoneOpens (xs ++ y ∷ [])
opens_last [] y h g = (g, tt)
opens_last (x ∷ xs) y h g = (h.0, opens_last xs y h.1 g)

pub opens_back : (xs : List Member) → NoRun xs → NoneOpens (reverse xs)
opens_back [] h = tt
opens_back (x ∷ xs) h = subst NoneOpens (sym (reverse-append (x ∷ []) xs)) (opens_last (reverse xs) x (opens_back xs h.1) (open_few x h.0))

closes_back : (xs : List Member) → NoneCloses xs → NoneCloses (reverse xs)
closes_back [] h = tt
closes_back (x ∷ xs) h = subst NoneCloses (sym (reverse-append (x ∷ []) xs)) (closes_both (reverse xs) (x ∷ []) (closes_back xs h.1) (h.0, tt))

none_opens : (ws : List Word) → NoRun (reduced_onto [] ws) → NoneOpens (reduced ws)
unfolding reduced
none_opens ws h = opens_back (reduced_onto [] ws) h

none_closes : (ws : List Word) → NoneCloses (reduced_onto [] ws) → NoneCloses (reduced ws)
unfolding reduced
none_closes ws h = closes_back (reduced_onto [] ws) h

onto_append : (before : List Member) (ws vs : List Word) → reduced_onto before (ws ++ vs) ≡ reduced_onto (reduced_onto before ws) vs
onto_append before [] vs = refl
onto_append before (w ∷ ws) vs = onto_append (with_word w before) ws vs

-- ---- two texts

side_by_side : (p : ℕ) (vs ws : List Word) → bytes_in (reduced_onto [] vs) ≡ p → (IsCrossed p (reduced_onto (reduced_onto [] vs) ws) → ⊥)
    → NoRun (reduced_onto [] vs) ⊎ Behind (reduced_onto [] vs) → AreApart vs ws
side_by_side p vs ws e free_of (inl free) = inl (none_opens vs free)
side_by_side p vs ws e free_of (inr b) =
    let first : List Member = reduced_onto [] vs in
    let f : bytes_in first ≡ bytes_in b.inside + (b.braces + bytes_in b.rest) = ap bytes_in b.is ∙ bytes_append b.inside (lexeme (Opens, b.braces) ∷ b.rest) in
    let at : IsBehind p first = record { run = b; low = omega (arith, e, f); high = omega (arith, e) } in
    elim (meets p first at ws [] tt) [
      | inl short ↦ inr (none_closes ws short)
      | inr crossed ↦ absurd (free_of crossed)
    ]

-- where a run of characters of both goes over the border
abbrev in_run : List Word → ℕ → List Member
in_run vs n = lexeme (Chars, n) ∷ reduced_onto [] vs

run_behind : (p : ℕ) (xs : List Member) (i j : ℕ) → i + bytes_in xs ≡ p → Behind xs → IsBehind p (lexeme (Chars, i + j) ∷ xs)
run_behind p xs i j e b =
    let f : bytes_in xs ≡ bytes_in b.inside + (b.braces + bytes_in b.rest) = ap bytes_in b.is ∙ bytes_append b.inside (lexeme (Opens, b.braces) ∷ b.rest) in
    let low : bytes_in b.rest + b.braces ≤ p = omega (arith, e, f) in
    let high : p ≤ (i + j) + bytes_in xs = omega (arith, e) in
    record {
      run = record {
        inside = lexeme (Chars, i + j) ∷ b.inside;
        braces = b.braces;
        rest = b.rest;
        is = ap (λ ys. lexeme (Chars, i + j) ∷ ys) b.is;
        free = (refl, b.free);
        two = b.two;
      };
      low = low;
      high = high;
    }

over_run : (p : ℕ) (vs ws : List Word) (i j : ℕ) → i + bytes_in (reduced_onto [] vs) ≡ p → (IsCrossed p (reduced_onto (in_run vs (i + j)) ws) → ⊥)
    → NoRun (reduced_onto [] vs) ⊎ Behind (reduced_onto [] vs) → AreApart (vs ++ (Chars, i) ∷ []) ((Chars, j) ∷ ws)
over_run p vs ws i j e free_of (inl free) =
    let free_so : NoRun (in_run vs i) = (refl, free) in
    inl (none_opens (vs ++ (Chars, i) ∷ []) (subst NoRun (sym (onto_append [] vs ((Chars, i) ∷ []))) free_so))
over_run p vs ws i j e free_of (inr b) =
    elim (meets p (in_run vs (i + j)) (run_behind p (reduced_onto [] vs) i j e b) ws [] tt) [
      | inl short ↦
          let one : List Member = lexeme (Chars, j) ∷ [] in
          let all : reduced_onto one ws ≡ reduced_onto [] ws ++ one = onto_calm ws [] one (refl, tt) in
          let none : NoneCloses one = (omega arith, tt) in
          inr (none_closes ((Chars, j) ∷ ws) (subst NoneCloses (sym all) (closes_both (reduced_onto [] ws) one short none)))
      | inr crossed ↦ absurd (free_of crossed)
    ]

-- no call of both goes over this place, at which the first one ends
pub apart_by_place : (p : ℕ) (vs ws us : List Word) → AreMet vs ws us → bytes_in (reduced_onto [] vs) ≡ p → (IsCrossed p (reduced_onto [] us) → ⊥) → AreApart vs ws
apart_by_place p vs ws us (inl e) size free_of =
    let is : reduced_onto [] us ≡ reduced_onto (reduced_onto [] vs) ws = ap (reduced_onto []) e ∙ onto_append [] vs ws in
    side_by_side p vs ws size (λ c. free_of (subst (IsCrossed p) (sym is) c)) (nearest (reduced_onto [] vs))
apart_by_place p vs ws us (inr m) size free_of =
    let n : ℕ = m.first + m.second in
    let is : reduced_onto [] us ≡ reduced_onto (in_run m.before n) m.after = ap (reduced_onto []) m.both_are ∙ onto_append [] m.before ((Chars, n) ∷ m.after) in
    let front : reduced_onto [] vs ≡ in_run m.before m.first = ap (reduced_onto []) m.vs_are ∙ onto_append [] m.before ((Chars, m.first) ∷ []) in
    let at : m.first + bytes_in (reduced_onto [] m.before) ≡ p = sym (ap bytes_in front) ∙ size in
    let a : AreApart (m.before ++ (Chars, m.first) ∷ []) ((Chars, m.second) ∷ m.after) =
    over_run p m.before m.after m.first m.second at (λ c. free_of (subst (IsCrossed p) (sym is) c)) (nearest (reduced_onto [] m.before)) in
    let P : List Word → List Word → Type 0 = λ xs ys. AreApart xs ys in
    subst (λ xs. P xs ws) (sym m.vs_are) (subst (λ ys. P (m.before ++ (Chars, m.first) ∷ []) ys) (sym m.ws_are) a)

-- The calls of two texts that stand side by side, where no braces that open in the first one are closed in the second one.
use Rattle.std.proofs.Common.{arith, ◌≡◌, ◌⊎◌, ℕ, zero, suc, ◌+◌, ◌-◌, ◌<◌, ◌≤◌, false, Some, List, [], ◌∷◌, ◌++◌, reverse, refl, sym, ap, ◌∙◌, subst, append_assoc, append-nil, inl, inr}
use Rattle.std.proofs.lemmas.Bool.Decides.{nat_tests}
use Rattle.std.proofs.lemmas.List.{reverse-append, reverse-reverse}
use Rattle.wt_span.specs.declared.form.LexKind.TheVariants.{Chars, CommentLine, Comment, Raw, Include, Hidden, Entity, Opens, Closes, LinkOpen, LinkClose, Pipe, Equals}
use Rattle.wt_span.specs.Lexemes.{Word}
use Rattle.wt_span.specs.Braces.{Member, lexeme, call, members, has_two, open_left, taken, left_over, rewritten, again, closed_by, with_word, reduced_onto, reduced}
use Rattle.wt_braces.proofs.Closings.{stuck_again}
use Rattle.wt_braces.proofs.Reached.{left_some}
use Rattle.wt_braces.proofs.Shapes.{NoRun, Behind, nearest}
use Rattle.wt_braces.proofs.Takings.{taking, rewritten_at, stuck_free, stuck_few}
use Rattle.wt_part_laws.specs.Apart.{close_left, NoneOpens, NoneCloses, AreApart, MeetInRun}

-- with more members before
abbrev with_more : List Member → ℕ × List Member → ℕ × List Member
with_more before x = (x.0, x.1 ++ before)

both_calm : (xs ys : List Member) → NoRun xs → NoRun ys → NoRun (xs ++ ys)
both_calm [] ys h g = g
both_calm (x ∷ xs) ys h g = (h.0, both_calm xs ys h.1 g)

taken_so : (c : ℕ) (xs : List Member) (b : Behind xs) → 2 ≤ c
    → rewritten (c, xs)
    ≡ (c - taken b.braces c, call (taken b.braces c) (members (reverse b.inside)) ∷ (left_over Opens (b.braces - taken b.braces c) ++ b.rest))
taken_so c xs b more = ap (λ ys. rewritten (c, ys)) b.is ∙ rewritten_at c b.braces b.inside b.rest b.free b.two more

-- ---- what opens is nearer

step_near : (c : ℕ) (xs before : List Member) → Behind xs → 2 ≤ c → rewritten (c, xs ++ before) ≡ with_more before (rewritten (c, xs))
step_near c xs before b more =
    let k : ℕ = taken b.braces c in
    let made : Member = call k (members (reverse b.inside)) in
    ap (λ ys. rewritten (c, ys)) (ap (λ ys. ys ++ before) b.is ∙ append_assoc b.inside (lexeme (Opens, b.braces) ∷ b.rest) before)
    ∙ rewritten_at c b.braces b.inside (b.rest ++ before) b.free b.two more
    ∙ ap (λ (ys : List Member). (c - k, made ∷ ys)) (sym (append_assoc (left_over Opens (b.braces - k)) b.rest before))
    ∙ ap (with_more before) (sym (taken_so c xs b more))

-- ---- none opens in the first text

step_two : (c : ℕ) (xs before : List Member) → NoRun before → 2 ≤ c → NoRun xs ⊎ Behind xs → rewritten (c, xs ++ before) ≡ with_more before (rewritten (c, xs))
step_two c xs before calm more (inl free) = stuck_free c (xs ++ before) (both_calm xs before free calm) ∙ ap (with_more before) (sym (stuck_free c xs free))
step_two c xs before calm more (inr b) = step_near c xs before b more

step_few : (c : ℕ) (xs before : List Member) → c < 2 → rewritten (c, xs ++ before) ≡ with_more before (rewritten (c, xs))
step_few c xs before few = stuck_few c (xs ++ before) few ∙ ap (with_more before) (sym (stuck_few c xs few))

step_calm : (c : ℕ) (xs before : List Member) → NoRun before → rewritten (c, xs ++ before) ≡ with_more before (rewritten (c, xs))
step_calm zero xs before calm = step_few zero xs before (omega arith)
step_calm (suc zero) xs before calm = step_few (suc zero) xs before (omega arith)
step_calm (suc (suc c)) xs before calm = step_two (suc (suc c)) xs before calm (omega arith) (nearest xs)

again_calm : (f : ℕ) (x : ℕ × List Member) (before : List Member) → NoRun before
    → again f rewritten (with_more before x) ≡ with_more before (again f rewritten x)
again_calm zero x before calm = refl
again_calm (suc f) x before calm = ap (again f rewritten) (step_calm x.0 x.1 before calm) ∙ again_calm f (rewritten x) before calm

abbrev closed_so : ℕ × List Member → List Member
closed_so s = left_over Closes s.0 ++ s.1

close_more : (s : ℕ × List Member) (before : List Member) → closed_so (with_more before s) ≡ closed_so s ++ before
close_more s before = sym (append_assoc (left_over Closes s.0) s.1 before)

close_calm : (n : ℕ) (xs before : List Member) → NoRun before → closed_by n (xs ++ before) ≡ closed_by n xs ++ before
close_calm n xs before calm = ap closed_so (again_calm n (n, xs) before calm) ∙ close_more (again n rewritten (n, xs)) before

word_calm : (w : Word) (xs before : List Member) → NoRun before → with_word w (xs ++ before) ≡ with_word w xs ++ before
word_calm (Chars, n) xs before calm = refl
word_calm (CommentLine, n) xs before calm = refl
word_calm (Comment, n) xs before calm = refl
word_calm (Raw, n) xs before calm = refl
word_calm (Include, n) xs before calm = refl
word_calm (Hidden, n) xs before calm = refl
word_calm (Entity c, n) xs before calm = refl
word_calm (Opens, n) xs before calm = refl
word_calm (Closes, n) xs before calm = close_calm n xs before calm
word_calm (LinkOpen, n) xs before calm = refl
word_calm (LinkClose, n) xs before calm = refl
word_calm (Pipe, n) xs before calm = refl
word_calm (Equals, n) xs before calm = refl

pub onto_calm : (ws : List Word) (xs before : List Member) → NoRun before → reduced_onto (xs ++ before) ws ≡ reduced_onto xs ws ++ before
onto_calm [] xs before calm = refl
onto_calm (w ∷ ws) xs before calm = ap (λ ys. reduced_onto ys ws) (word_calm w xs before calm) ∙ onto_calm ws (with_word w xs) before calm

-- ---- none closes in the second one

stray_few : (xs ys : List Member) (y : Member) → NoneCloses (xs ++ y ∷ ys) → close_left y < 2
stray_few [] ys y h = h.0
stray_few (x ∷ xs) ys y h = stray_few xs ys y h.1

-- all braces of a closing run but one are taken, whatever comes before; or two are left, and nothing more that opens
abbrev AreTaken : ℕ → ℕ × List Member → List Member → Type 0
AreTaken f x before =
    (((again f rewritten x).0 < 2) × (again f rewritten (with_more before x) ≡ with_more before (again f rewritten x)))
    ⊎ ((2 ≤ (again f rewritten x).0) × NoRun (again f rewritten x).1)

taken_few : (f c : ℕ) (xs before : List Member) → c < 2 → AreTaken f (c, xs) before
taken_few f c xs before few =
    let e : again f rewritten (c, xs) ≡ (c, xs) = stuck_again f (c, xs) (stuck_few c xs few) in
    inl (
      subst (λ (s : ℕ × List Member). s.0 < 2) (sym e) few,
      stuck_again f (c, xs ++ before) (stuck_few c (xs ++ before) few) ∙ ap (with_more before) (sym e),
    )

less : (x y : ℕ × List Member) (f k : ℕ) → x ≡ y → y.0 + k ≤ suc f → 2 ≤ k → x.0 ≤ f
less x y f k e h two = let same : x.0 ≡ y.0 = ap (λ (s : ℕ × List Member). s.0) e in omega (arith, same, h, two)

taken_more : (f c : ℕ) (xs before : List Member) → rewritten (c, xs ++ before) ≡ with_more before (rewritten (c, xs)) → AreTaken f (rewritten (c, xs)) before
    → AreTaken (suc f) (c, xs) before
taken_more f c xs before e (inl h) = inl (h.0, ap (again f rewritten) e ∙ h.1)
taken_more f c xs before e (inr h) = inr h

taken_by : (f c : ℕ) (xs before : List Member) → c ≤ f → AreTaken f (c, xs) before
taken_by zero c xs before le = taken_few zero c xs before (omega (arith, le))
taken_by (suc f) zero xs before le = taken_few (suc f) zero xs before (omega arith)
taken_by (suc f) (suc zero) xs before le = taken_few (suc f) (suc zero) xs before (omega arith)
taken_by (suc f) (suc (suc c)) xs before le = by_nearest (λ x small. taken_by f x.0 x.1 before small) (nearest xs)
  where
    by_nearest : ((x : ℕ × List Member) → x.0 ≤ f → AreTaken f x before) → NoRun xs ⊎ Behind xs → AreTaken (suc f) (suc (suc c), xs) before
    by_nearest smaller (inl free) =
        let e : again (suc f) rewritten (suc (suc c), xs) ≡ (suc (suc c), xs) = stuck_again (suc f) (suc (suc c), xs) (stuck_free (suc (suc c)) xs free) in
        inr (subst (λ (s : ℕ × List Member). 2 ≤ s.0) (sym e) (omega arith), subst (λ (s : ℕ × List Member). NoRun s.1) (sym e) free)
    by_nearest smaller (inr b) =
        let n : ℕ = suc (suc c) in
        let s = taking b.braces n b.two (omega arith) in
        let x : ℕ × List Member = rewritten (n, xs) in
        let small : x.0 ≤ f =
        less x (n - taken b.braces n, call (taken b.braces n) (members (reverse b.inside)) ∷ (left_over Opens (b.braces - taken b.braces n) ++ b.rest)) f
        (taken b.braces n) (taken_so n xs b (omega arith)) (omega (arith, s.closing, le)) s.two in
        taken_more f n xs before (step_near n xs before b (omega arith)) (smaller x small)

close_short : (n : ℕ) (ws : List Word) (xs before : List Member) → NoneCloses (reduced_onto (closed_by n xs) ws) → AreTaken n (n, xs) before
    → closed_by n (xs ++ before) ≡ closed_by n xs ++ before
close_short n ws xs before h (inl t) = ap closed_so t.1 ∙ close_more (again n rewritten (n, xs)) before
close_short n ws xs before h (inr t) =
    let s : ℕ × List Member = again n rewritten (n, xs) in
    let stray : Member = lexeme (Closes, s.0) in
    let is : closed_by n xs ≡ stray ∷ s.1 = ap (λ ys. ys ++ s.1) (left_some Closes s.0 (omega (arith, t.0))) in
    let all : reduced_onto (closed_by n xs) ws ≡ reduced_onto [] ws ++ stray ∷ s.1 = ap (λ ys. reduced_onto ys ws) is ∙ onto_calm ws [] (stray ∷ s.1) (refl, t.1) in
    let few : s.0 < 2 = stray_few (reduced_onto [] ws) s.1 stray (subst NoneCloses all h) in
    absurd (omega (arith, few, t.0))

pub onto_short : (ws : List Word) (xs before : List Member) → NoneCloses (reduced_onto xs ws) → reduced_onto (xs ++ before) ws ≡ reduced_onto xs ws ++ before
onto_short [] xs before h = refl
onto_short ((Chars, n) ∷ ws) xs before h = onto_short ws (lexeme (Chars, n) ∷ xs) before h
onto_short ((CommentLine, n) ∷ ws) xs before h = onto_short ws (lexeme (CommentLine, n) ∷ xs) before h
onto_short ((Comment, n) ∷ ws) xs before h = onto_short ws (lexeme (Comment, n) ∷ xs) before h
onto_short ((Raw, n) ∷ ws) xs before h = onto_short ws (lexeme (Raw, n) ∷ xs) before h
onto_short ((Include, n) ∷ ws) xs before h = onto_short ws (lexeme (Include, n) ∷ xs) before h
onto_short ((Hidden, n) ∷ ws) xs before h = onto_short ws (lexeme (Hidden, n) ∷ xs) before h
onto_short ((Entity c, n) ∷ ws) xs before h = onto_short ws (lexeme (Entity c, n) ∷ xs) before h
onto_short ((Opens, n) ∷ ws) xs before h = onto_short ws (lexeme (Opens, n) ∷ xs) before h
onto_short ((Closes, n) ∷ ws) xs before h =
    ap (λ ys. reduced_onto ys ws) (close_short n ws xs before h (taken_by n n xs before (omega arith))) ∙ onto_short ws (closed_by n xs) before h
onto_short ((LinkOpen, n) ∷ ws) xs before h = onto_short ws (lexeme (LinkOpen, n) ∷ xs) before h
onto_short ((LinkClose, n) ∷ ws) xs before h = onto_short ws (lexeme (LinkClose, n) ∷ xs) before h
onto_short ((Pipe, n) ∷ ws) xs before h = onto_short ws (lexeme (Pipe, n) ∷ xs) before h
onto_short ((Equals, n) ∷ ws) xs before h = onto_short ws (lexeme (Equals, n) ∷ xs) before h

-- ---- side by side

few_two : (x : Member) → open_left (Some x) < 2 → has_two x ≡ false
few_two x h = grind (arith, nat_tests)

onto_append : (before : List Member) (ws vs : List Word) → reduced_onto before (ws ++ vs) ≡ reduced_onto (reduced_onto before ws) vs
onto_append before [] vs = refl
onto_append before (w ∷ ws) vs = onto_append (with_word w before) ws vs

opens_calm : (xs ys : List Member) → NoneOpens xs → NoRun ys → NoRun (reverse xs ++ ys)
opens_calm [] ys h g = g
opens_calm (x ∷ xs) ys h g =
    subst NoRun (sym (ap (λ zs. zs ++ ys) (reverse-append (x ∷ []) xs) ∙ append_assoc (reverse xs) (x ∷ []) ys))
    (opens_calm xs (x ∷ ys) h.1 (few_two x h.0, g))

closes_short : (xs ys : List Member) → NoneCloses xs → NoneCloses ys → NoneCloses (reverse xs ++ ys)
closes_short [] ys h g = g
closes_short (x ∷ xs) ys h g =
    subst NoneCloses (sym (ap (λ zs. zs ++ ys) (reverse-append (x ∷ []) xs) ∙ append_assoc (reverse xs) (x ∷ []) ys)) (closes_short xs (x ∷ ys) h.1 (h.0, g))

-- from the last on
onto_of : (ws : List Word) → reverse (reduced ws) ≡ reduced_onto [] ws
unfolding reduced
onto_of ws = reverse-reverse (reduced_onto [] ws)

calm_onto : (ws : List Word) → NoneOpens (reduced ws) → NoRun (reduced_onto [] ws)
calm_onto ws h = subst NoRun (append-nil (reverse (reduced ws)) ∙ onto_of ws) (opens_calm (reduced ws) [] h tt)

short_onto : (ws : List Word) → NoneCloses (reduced ws) → NoneCloses (reduced_onto [] ws)
short_onto ws h = subst NoneCloses (append-nil (reverse (reduced ws)) ∙ onto_of ws) (closes_short (reduced ws) [] h tt)

onto_apart : (vs ws : List Word) → AreApart vs ws → reduced_onto (reduced_onto [] vs) ws ≡ reduced_onto [] ws ++ reduced_onto [] vs
onto_apart vs ws (inl calm) = onto_calm ws [] (reduced_onto [] vs) (calm_onto vs calm)
onto_apart vs ws (inr short) = onto_short ws [] (reduced_onto [] vs) (short_onto ws short)

pub reduced_apart : (vs ws : List Word) → AreApart vs ws → reduced (vs ++ ws) ≡ reduced vs ++ reduced ws
unfolding reduced
reduced_apart vs ws h = ap reverse (onto_append [] vs ws ∙ onto_apart vs ws h) ∙ reverse-append (reduced_onto [] ws) (reduced_onto [] vs)

-- ---- where a run of characters ends the first one and another one begins the second one

-- its members, as one run and as two
pub record RunCut (vs ws both : List Word) (m : MeetInRun vs ws both) : Type 0 where
  pub first_is : reduced vs ≡ reduced m.before ++ lexeme (Chars, m.first) ∷ []
  pub second_is : reduced ws ≡ lexeme (Chars, m.second) ∷ reduced m.after
  pub both_is : reduced both ≡ reduced m.before ++ lexeme (Chars, m.first + m.second) ∷ reduced m.after

one_run : (n : ℕ) → reduced ((Chars, n) ∷ []) ≡ lexeme (Chars, n) ∷ []
unfolding reduced
one_run n = refl

run_calm : (n : ℕ) → NoneOpens (reduced ((Chars, n) ∷ []))
run_calm n = subst NoneOpens (sym (one_run n)) (omega arith, tt)

run_short : (n : ℕ) → NoneCloses (reduced ((Chars, n) ∷ []))
run_short n = subst NoneCloses (sym (one_run n)) (omega arith, tt)

run_last : (vs : List Word) (n : ℕ) → reduced (vs ++ (Chars, n) ∷ []) ≡ reduced vs ++ lexeme (Chars, n) ∷ []
run_last vs n = reduced_apart vs ((Chars, n) ∷ []) (inr (run_short n)) ∙ ap (λ xs. reduced vs ++ xs) (one_run n)

run_first : (ws : List Word) (n : ℕ) → reduced ((Chars, n) ∷ ws) ≡ lexeme (Chars, n) ∷ reduced ws
run_first ws n = reduced_apart ((Chars, n) ∷ []) ws (inl (run_calm n)) ∙ ap (λ xs. xs ++ reduced ws) (one_run n)

opens_front : (xs ys : List Member) → NoneOpens (xs ++ ys) → NoneOpens xs
opens_front [] ys h = tt
opens_front (x ∷ xs) ys h = (h.0, opens_front xs ys h.1)

opens_last : (xs : List Member) (y : Member) → NoneOpens xs → open_left (Some y) < 2 → NoneOpens (xs ++ y ∷ [])
opens_last [] y h g = (g, tt)
opens_last (x ∷ xs) y h g = (h.0, opens_last xs y h.1 g)

run_apart : (vs ws : List Word) (i j k : ℕ) → AreApart (vs ++ (Chars, i) ∷ []) ((Chars, j) ∷ ws) → AreApart (vs ++ (Chars, k) ∷ []) ws
run_apart vs ws i j k (inl h) =
    let few : NoneOpens (reduced vs) = opens_front (reduced vs) (lexeme (Chars, i) ∷ []) (subst NoneOpens (run_last vs i) h) in
    inl (subst NoneOpens (sym (run_last vs k)) (opens_last (reduced vs) (lexeme (Chars, k)) few (omega arith)))
run_apart vs ws i j k (inr h) = let few : NoneCloses (lexeme (Chars, j) ∷ reduced ws) = subst NoneCloses (run_first ws j) h in inr few.1

pub run_cut : (vs ws both : List Word) → AreApart vs ws → (m : MeetInRun vs ws both) → RunCut vs ws both m
run_cut vs ws both a m =
    let n : ℕ = m.first + m.second in
    let apart : AreApart (m.before ++ (Chars, n) ∷ []) m.after =
    run_apart m.before m.after m.first m.second n (subst (λ us. AreApart us ((Chars, m.second) ∷ m.after)) m.vs_are (subst (AreApart vs) m.ws_are a)) in
    record {
      first_is = ap reduced m.vs_are ∙ run_last m.before m.first;
      second_is = ap reduced m.ws_are ∙ run_first m.after m.second;
      both_is =
          ap reduced (m.both_are ∙ sym (append_assoc m.before ((Chars, n) ∷ []) m.after))
          ∙ reduced_apart (m.before ++ (Chars, n) ∷ []) m.after apart
          ∙ ap (λ xs. xs ++ reduced m.after) (run_last m.before n)
          ∙ append_assoc (reduced m.before) (lexeme (Chars, n) ∷ []) (reduced m.after);
    }

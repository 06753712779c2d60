-- The reduction is reached by single steps, no further step is possible there, and no other end is reached.
use Rattle.std.proofs.Common.{◌≡◌, ℕ, zero, suc, ◌+◌, ◌-◌, ◌≤◌, true, false, List, [], ◌∷◌, ◌++◌, length, nat_le, refl, sym, ap, ◌∙◌, subst, arith, append_assoc, length-append}
use Rattle.std.proofs.lemmas.Bool.Decides.{nat_tests}
use Rattle.std.proofs.lemmas.List.{append_cancel_left}
use Rattle.wt_span.specs.declared.form.LexKind.{LexKind}
use Rattle.wt_span.specs.declared.form.LexKind.TheVariants.{Opens, Closes}
use Rattle.wt_span.specs.Braces.{Member, lexeme, call, members, width, taken, left_over}
use Rattle.wt_braces.specs.Rewriting.{NoOpen, NoPair, IsStep, AreSteps}

-- ---- where a list is cut

pub data Cuts (xs ys us vs : List Member) (x u : Member) : Type 0 where
  same : xs ≡ us → x ≡ u → ys ≡ vs → Cuts xs ys us vs x u
  first : (zs : List Member) → us ≡ xs ++ x ∷ zs → Cuts xs ys us vs x u
  second : (zs : List Member) → xs ≡ us ++ u ∷ zs → Cuts xs ys us vs x u

head_is : (x u : Member) (xs us : List Member) → x ∷ xs ≡ u ∷ us → x ≡ u
head_is x u xs us e = cc

tail_is : (x u : Member) (xs us : List Member) → x ∷ xs ≡ u ∷ us → xs ≡ us
tail_is x u xs us e = cc

cuts_more : (a b : Member) (xs ys us vs : List Member) (x u : Member) → a ≡ b → Cuts xs ys us vs x u → Cuts (a ∷ xs) ys (b ∷ us) vs x u
cuts_more a b xs ys us vs x u e (same f g h) = same (ap (λ z. z ∷ xs) e ∙ ap (λ zs. b ∷ zs) f) g h
cuts_more a b xs ys us vs x u e (first zs f) = first zs (ap (λ ws. b ∷ ws) f ∙ ap (λ z. z ∷ (xs ++ x ∷ zs)) (sym e))
cuts_more a b xs ys us vs x u e (second zs f) = second zs (ap (λ ws. a ∷ ws) f ∙ ap (λ z. z ∷ (us ++ u ∷ zs)) e)

cuts : (xs ys us vs : List Member) (x u : Member) → xs ++ x ∷ ys ≡ us ++ u ∷ vs → Cuts xs ys us vs x u
cuts [] ys [] vs x u e = same refl (head_is x u ys vs e) (tail_is x u ys vs e)
cuts [] ys (b ∷ us) vs x u e = first us (ap (λ z. z ∷ us) (sym (head_is x b ys (us ++ u ∷ vs) e)))
cuts (a ∷ xs) ys [] vs x u e = second xs (ap (λ z. z ∷ xs) (head_is a u (xs ++ x ∷ ys) vs e))
cuts (a ∷ xs) ys (b ∷ us) vs x u e = cuts_more a b xs ys us vs x u (head_is a b (xs ++ x ∷ ys) (us ++ u ∷ vs) e)
    (cuts xs ys us vs x u (tail_is a b (xs ++ x ∷ ys) (us ++ u ∷ vs) e))

-- ---- one step leads to one text

no_open_at : (xs ys : List Member) (n : ℕ) → NoOpen (xs ++ lexeme (Opens, n) ∷ ys) → 2 ≤ n → ⊥
no_open_at [] ys n h two = let e : nat_le 2 n ≡ true = grind (arith, nat_tests) in let z : true ≡ false = sym e ∙ h.0 in cc
no_open_at (x ∷ xs) ys n h two = no_open_at xs ys n h.1 two

braces_same : (kind : LexKind) (n m : ℕ) → lexeme (kind, n) ≡ lexeme (kind, m) → n ≡ m
braces_same kind n m e = ap width e

abbrev made : List Member → ℕ → List Member → ℕ → List Member → List Member
made before n inside c after = before ++ (left_over Opens (n - taken n c) ++ call (taken n c) (members inside) ∷ (left_over Closes (c - taken n c) ++ after))

inside_later : (before inside zs inside2 : List Member) (n m : ℕ)
    → before ++ lexeme (Opens, n) ∷ inside ≡ (before ++ lexeme (Opens, n) ∷ zs) ++ lexeme (Opens, m) ∷ inside2
    → inside ≡ zs ++ lexeme (Opens, m) ∷ inside2
inside_later before inside zs inside2 n m e =
    let f = append_cancel_left before (lexeme (Opens, n) ∷ inside) (lexeme (Opens, n) ∷ (zs ++ lexeme (Opens, m) ∷ inside2))
    (e ∙ append_assoc before (lexeme (Opens, n) ∷ zs) (lexeme (Opens, m) ∷ inside2)) in
    tail_is (lexeme (Opens, n)) (lexeme (Opens, n)) inside (zs ++ lexeme (Opens, m) ∷ inside2) f

made_same : (before inside after before2 inside2 after2 : List Member) (n m c d : ℕ) → NoOpen inside → NoOpen inside2 → 2 ≤ n
    → 2 ≤ m → before ++ lexeme (Opens, n) ∷ inside ≡ before2 ++ lexeme (Opens, m) ∷ inside2 → c ≡ d → after ≡ after2
    → made before n inside c after ≡ made before2 m inside2 d after2
made_same before inside after before2 inside2 after2 n m c d free free2 two two2 e f g =
    by_cuts (cuts before inside before2 inside2 (lexeme (Opens, n)) (lexeme (Opens, m)) e)
  where
    by_cuts : Cuts before inside before2 inside2 (lexeme (Opens, n)) (lexeme (Opens, m)) → made before n inside c after ≡ made before2 m inside2 d after2
    by_cuts (same p q r) =
        ap (λ xs. made xs n inside c after) p ∙ ap (λ i. made before2 i inside c after) (braces_same Opens n m q)
        ∙ ap (λ xs. made before2 m xs c after) r ∙ ap (λ i. made before2 m inside2 i after) f ∙ ap (made before2 m inside2 d) g
    by_cuts (first zs p) =
        absurd (no_open_at zs inside2 m (subst NoOpen
        (inside_later before inside zs inside2 n m (e ∙ ap (λ xs. xs ++ lexeme (Opens, m) ∷ inside2) p)) free) two2)
    by_cuts (second zs p) =
        absurd (no_open_at zs inside n (subst NoOpen (inside_later before2 inside2 zs inside m n
        (sym e ∙ ap (λ xs. xs ++ lexeme (Opens, n) ∷ inside) p)) free2) two)

pub one_way : (from to to2 : List Member) → IsStep from to → IsStep from to2 → to ≡ to2
one_way from to to2 s t = by_cuts (cuts (s.before ++ lexeme (Opens, s.opening) ∷ s.inside) s.after
    (t.before ++ lexeme (Opens, t.opening) ∷ t.inside) t.after (lexeme (Closes, s.closing)) (lexeme (Closes, t.closing))
    (sym s.from_is ∙ t.from_is))
  where
    by_cuts : Cuts (s.before ++ lexeme (Opens, s.opening) ∷ s.inside) s.after (t.before ++ lexeme (Opens, t.opening) ∷ t.inside)
        t.after (lexeme (Closes, s.closing)) (lexeme (Closes, t.closing)) → to ≡ to2
    by_cuts (same p q r) =
        s.to_is ∙ made_same s.before s.inside s.after t.before t.inside t.after s.opening t.opening s.closing t.closing s.nearest
        t.nearest s.two_open t.two_open p (braces_same Closes s.closing t.closing q) r ∙ sym t.to_is
    by_cuts (first zs p) = absurd (t.leftmost s.before s.inside zs s.opening s.closing p s.two_open s.two_close)
    by_cuts (second zs p) = absurd (s.leftmost t.before t.inside zs t.opening t.closing p t.two_open t.two_close)

pub one_end_of : (n m : ℕ) (from to to2 : List Member) → AreSteps n from to → AreSteps m from to2
    → ((next : List Member) → IsStep to next → ⊥) → ((next : List Member) → IsStep to2 next → ⊥) → to ≡ to2
one_end_of zero zero from to to2 a b f g = sym a ∙ b
one_end_of zero (suc m) from to to2 a b f g = let P : List Member → Type 0 = λ xs. IsStep xs b.0 in absurd (f b.0 (subst P a b.1))
one_end_of (suc n) zero from to to2 a b f g = let P : List Member → Type 0 = λ xs. IsStep xs a.0 in absurd (g a.0 (subst P b a.1))
one_end_of (suc n) (suc m) from to to2 a b f g =
    let P : List Member → Type 0 = λ xs. AreSteps m xs to2 in one_end_of n m a.0 to to2 a.2 (subst P (sym (one_way from a.0 b.0 a.1 b.1)) b.2) f g

-- ---- texts without a pair

pub pair_front : (xs ys : List Member) → NoPair (xs ++ ys) → NoPair xs
pair_front xs ys h left between right n c e two more =
    h left between (right ++ ys) n c (ap (λ zs. zs ++ ys) e ∙ append_assoc (left ++ lexeme (Opens, n) ∷ between) (lexeme (Closes, c) ∷ right) ys) two more

pub pair_push : (xs : List Member) (x : Member) → NoPair xs → ((c : ℕ) → x ≡ lexeme (Closes, c) → 2 ≤ c → ⊥) → NoPair (xs ++ x ∷ [])
pair_push xs x h never left between right n c e two more = by_cuts (cuts xs [] (left ++ lexeme (Opens, n) ∷ between) right x (lexeme (Closes, c)) e)
  where
    by_cuts : Cuts xs [] (left ++ lexeme (Opens, n) ∷ between) right x (lexeme (Closes, c)) → ⊥
    by_cuts (same p q r) = never c q more
    by_cuts (first zs p) =
        let long = ap length p ∙ length-append xs (x ∷ zs) in
        let whole = sym (length-append xs (x ∷ [])) ∙ ap length e ∙ length-append (left ++ lexeme (Opens, n) ∷ between) (lexeme (Closes, c) ∷ right) in
        omega (arith, long, whole)
    by_cuts (second zs p) = h left between zs n c p two more

pub pair_free : (xs : List Member) (x : Member) → NoOpen xs → NoPair (xs ++ x ∷ [])
pair_free xs x free left between right n c e two more =
    by_cuts (cuts xs [] left (between ++ lexeme (Closes, c) ∷ right) x (lexeme (Opens, n))
    (e ∙ append_assoc left (lexeme (Opens, n) ∷ between) (lexeme (Closes, c) ∷ right)))
  where
    by_cuts : Cuts xs [] left (between ++ lexeme (Closes, c) ∷ right) x (lexeme (Opens, n)) → ⊥
    by_cuts (same p q r) = let long = ap length r ∙ length-append between (lexeme (Closes, c) ∷ right) in omega (arith, long)
    by_cuts (first zs p) =
        let long = ap length p ∙ length-append xs (x ∷ zs) in
        let whole = sym (length-append xs (x ∷ [])) ∙ ap length e ∙ length-append (left ++ lexeme (Opens, n) ∷ between)
        (lexeme (Closes, c) ∷ right) ∙ ap (λ i. i + length (lexeme (Closes, c) ∷ right))
        (length-append left (lexeme (Opens, n) ∷ between)) in
        omega (arith, long, whole)
    by_cuts (second zs p) = no_open_at left zs n (subst NoOpen p free) two

pub pair_stuck : (xs to : List Member) → NoPair xs → IsStep xs to → ⊥
pair_stuck xs to h s = h s.before s.inside s.after s.opening s.closing s.from_is s.two_open s.two_close

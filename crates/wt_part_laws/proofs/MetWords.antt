-- The lexemes of a text whose front settles: those of the front and those of the rest, but for a run of characters over the cut.
use Rattle.std.proofs.Common.{arith, ◌≡◌, ◌⊎◌, inl, inr, ℕ, zero, suc, ◌+◌, ◌-◌, ◌≤◌, Bool, false, Option, Some, None, List, [], ◌∷◌, ◌++◌, refl, sym, ap, ◌∙◌, subst}
use Rattle.std.specs.Prelude.{◌==◌, if◌then◌else◌}
use Rattle.std.proofs.lemmas.Bool.Decides.{nat_tests}
use Rattle.wt_span.specs.declared.form.Mode.{Mode}
use Rattle.wt_span.specs.declared.form.LexKind.TheVariants.{Chars}
use Rattle.wt_span.specs.Lexemes.{Word, Cut, cuts, closed, words, form_at}
use Rattle.wt_part_laws.specs.Lexer.{lexer}
use Rattle.wt_part_laws.specs.Scans as sc
use Rattle.wt_part_laws.proofs.Parted.{cuts_scan, cuts_join}
use Rattle.wt_part_laws.specs.Apart.{AreMet}

met_first : (v : Word) (vs ws us : List Word) → AreMet vs ws us → AreMet (v ∷ vs) ws (v ∷ us)
met_first v vs ws us (inl e) = inl (ap (λ (xs : List Word). v ∷ xs) e)
met_first v vs ws us (inr m) = inr (record {
  before = v ∷ m.before;
  first = m.first;
  second = m.second;
  after = m.after;
  vs_are = ap (λ (xs : List Word). v ∷ xs) m.vs_are;
  ws_are = m.ws_are;
  both_are = ap (λ (xs : List Word). v ∷ xs) m.both_are;
})

-- ---- a run and what comes behind it

abbrev with_run : ℕ → List Word → List Word
with_run n ws = if n == 0 then ws else (Chars, n) ∷ ws

run_more : (n : ℕ) (ws : List Word) → 1 ≤ n → with_run n ws ≡ (Chars, n) ∷ ws
run_more n ws some = let e : (n == 0) ≡ false = grind (arith, nat_tests) in ap (λ (t : Bool). if t then ws else (Chars, n) ∷ ws) e

-- what is read of a front, before this cut: its run goes on in it, or the words of the front come first
abbrev IsBefore : Cut → Cut → Cut → Type 0
IsBefore k c o = ((k.1 ≡ []) × (o ≡ (k.0 + c.0, c.1))) ⊎ ((o.0 ≡ k.0) × AreMet k.1 (with_run c.0 c.1) o.1)

run_on : (i j : ℕ) (cs : List Word) → AreMet (with_run i []) (with_run j cs) (with_run (i + j) cs)
run_on zero j cs = let z : zero + j ≡ j = omega arith in inl (ap (λ (n : ℕ). with_run n cs) z)
run_on (suc i) zero cs =
    let z : suc i + zero ≡ suc i = omega arith in
    inl (ap (λ (n : ℕ). with_run n cs) z ∙ run_more (suc i) cs (omega arith) ∙ ap (λ (vs : List Word). vs ++ cs) (sym (run_more (suc i) [] (omega arith))))
run_on (suc i) (suc j) cs = inr (record {
  before = [];
  first = suc i;
  second = suc j;
  after = cs;
  vs_are = run_more (suc i) [] (omega arith);
  ws_are = run_more (suc j) cs (omega arith);
  both_are = run_more (suc i + suc j) cs (omega arith);
})

run_before : (i : ℕ) (ks ws os : List Word) → AreMet ks ws os → AreMet (with_run i ks) ws (with_run i os)
run_before zero ks ws os m = m
run_before (suc i) ks ws os m =
    let P : List Word → List Word → Type 0 = λ xs ys. AreMet xs ws ys in
    subst (λ xs. P xs (with_run (suc i) os)) (sym (run_more (suc i) ks (omega arith)))
    (subst (λ ys. P ((Chars, suc i) ∷ ks) ys) (sym (run_more (suc i) os (omega arith))) (met_first (Chars, suc i) ks ws os m))

close_before : (k c o : Cut) → IsBefore k c o → AreMet (with_run k.0 k.1) (with_run c.0 c.1) (with_run o.0 o.1)
close_before k c o (inl h) =
    subst (λ (x : Cut). AreMet (with_run k.0 k.1) (with_run c.0 c.1) (with_run x.0 x.1)) (sym h.1)
    (subst (λ (vs : List Word). AreMet (with_run k.0 vs) (with_run c.0 c.1) (with_run (k.0 + c.0) c.1)) (sym h.0) (run_on k.0 c.0 c.1))
close_before k c o (inr h) =
    subst (λ (n : ℕ). AreMet (with_run k.0 k.1) (with_run c.0 c.1) (with_run n o.1)) (sym h.0) (run_before k.0 k.1 (with_run c.0 c.1) o.1 h.1)

-- ---- along the front

one_more : (k c o : Cut) → IsBefore k c o → IsBefore (suc k.0, k.1) c (suc o.0, o.1)
one_more k c o (inl h) =
    let z : suc (k.0 + c.0) ≡ suc k.0 + c.0 = omega arith in
    inl (h.0, ap (λ (x : Cut). (suc x.0, x.1)) h.1 ∙ ap (λ (n : ℕ). (n, c.1)) z)
one_more k c o (inr h) = inr (ap suc h.0, h.1)

by_form : (mode : Mode) (f : Option Word) (c : Cut) (g h : ℕ → Cut) → ((n : ℕ) → IsBefore (g n) c (h n))
    → IsBefore (sc.cut_with (lexer mode) f g) c (sc.cut_with (lexer mode) f h)
by_form mode None c g h r = one_more (g 0) c (h 0) (r 0)
by_form mode (Some w) c g h r =
    let k : Cut = g (w.1 - 1) in
    let o : Cut = h (w.1 - 1) in
    inr (refl, met_first w (with_run k.0 k.1) (with_run c.0 c.1) (with_run o.0 o.1) (close_before k c o (r (w.1 - 1))))

onto_before : (mode : Mode) (a : Bool) (n : ℕ) (q : List ℕ) (c : Cut) → IsBefore (sc.onto (lexer mode) a n q (0, [])) c (sc.onto (lexer mode) a n q c)
onto_before mode a n [] c = let z : c.0 ≡ 0 + c.0 = omega arith in inl (refl, ap (λ (i : ℕ). (i, c.1)) z)
onto_before mode a (suc n) (b ∷ q) c = onto_before mode ((lexer mode).mark b) n q c
onto_before mode a zero (b ∷ q) c =
    by_form mode (form_at mode a (b ∷ q)) c (λ n. sc.onto (lexer mode) ((lexer mode).mark b) n q (0, [])) (λ n. sc.onto (lexer mode) ((lexer mode).mark b) n q c)
    (λ n. onto_before mode ((lexer mode).mark b) n q c)

form_same : (mode : Mode) (f : Option Word) (g h : ℕ → Cut) → ((n : ℕ) → g n ≡ h n) → sc.cut_with (lexer mode) f g ≡ sc.cut_with (lexer mode) f h
form_same mode None g h r = ap (λ (x : Cut). (suc x.0, x.1)) (r 0)
form_same mode (Some w) g h r = ap (λ (x : Cut). (0, w ∷ with_run x.0 x.1)) (r (w.1 - 1))

scan_onto : (mode : Mode) (a : Bool) (n : ℕ) (q : List ℕ) → sc.scan (lexer mode) a n q ≡ sc.onto (lexer mode) a n q (0, [])
scan_onto mode a n [] = refl
scan_onto mode a (suc n) (b ∷ q) = scan_onto mode ((lexer mode).mark b) n q
scan_onto mode a zero (b ∷ q) =
    form_same mode (form_at mode a (b ∷ q)) (λ n. sc.scan (lexer mode) ((lexer mode).mark b) n q) (λ n. sc.onto (lexer mode) ((lexer mode).mark b) n q (0, []))
    (λ n. scan_onto mode ((lexer mode).mark b) n q)

-- ---- texts

words_are : (mode : Mode) (bs : List ℕ) → words mode bs ≡ with_run (cuts mode false 0 bs).0 (cuts mode false 0 bs).1
unfolding words closed
words_are mode bs = refl

abbrev all_of : Cut → List Word
all_of c = with_run c.0 c.1

pub words_meet : (mode : Mode) (bs cs : List ℕ) → sc.Settles (lexer mode) cs false 0 bs
    → cuts mode (sc.after_all (lexer mode) false bs) 0 cs ≡ cuts mode false 0 cs → AreMet (words mode bs) (words mode cs) (words mode (bs ++ cs))
words_meet mode bs cs h e =
    let c : Cut = cuts mode false 0 cs in
    let k : Cut = sc.onto (lexer mode) false 0 bs (0, []) in
    let o : Cut = sc.onto (lexer mode) false 0 bs c in
    let first : words mode bs ≡ all_of k = words_are mode bs ∙ ap all_of (cuts_scan mode false 0 bs ∙ scan_onto mode false 0 bs) in
    let both : words mode (bs ++ cs) ≡ all_of o =
    words_are mode (bs ++ cs) ∙ ap all_of (cuts_join mode false 0 bs cs h ∙ ap (sc.onto (lexer mode) false 0 bs) e) in
    let P : List Word → List Word → List Word → Type 0 = λ vs ws us. AreMet vs ws us in
    subst (λ vs. P vs (words mode cs) (words mode (bs ++ cs))) (sym first)
    (subst (λ ws. P (all_of k) ws (words mode (bs ++ cs))) (sym (words_are mode cs))
    (subst (λ us. P (all_of k) (all_of c) us) (sym both) (close_before k c o (onto_before mode false 0 bs c))))

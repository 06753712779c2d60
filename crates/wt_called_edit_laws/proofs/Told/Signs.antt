-- Signs cut at their end, at their front and at runs of `=`.
use Rattle.std.proofs.Common.{arith, ◌≡◌, ℕ, zero, suc, ◌+◌, ◌<◌, ◌≤◌, ◌==◌, Bool, true, false, List, [], ◌∷◌, ◌++◌, length, refl, sym, ap, ◌∙◌, subst, cond, append-nil, append_assoc, length-append}
use Rattle.std.specs.Prelude.{if◌then◌else◌, reverse}
use Rattle.std.specs.List.{prefix_len}
use Rattle.std.proofs.lemmas.Bool.{eqb-true}
use Rattle.std.proofs.lemmas.List.{reverse-append, reverse-reverse, length-reverse, length-replicate}
use Rattle.wt_lines.specs.Kinds.{past}
use Rattle.wt_blocks.specs.Headings.{equals as equals_len}
use Rattle.wt_text_edit_laws.specs.TypedHeadings.{equals, BeginsWithout, EndsWithout}

-- ---- all of them pass a test

abbrev pub AllPass : (ℕ → Bool) → List ℕ → Type 0
AllPass p [] = Unit {0}
AllPass p (s ∷ ss) = (p s ≡ true) × AllPass p ss

pass_both : (p : ℕ → Bool) (bs cs : List ℕ) → AllPass p bs → AllPass p cs → AllPass p (bs ++ cs)
pass_both p [] cs h g = g
pass_both p (b ∷ bs) cs h g = (h.0, pass_both p bs cs h.1 g)

pass_back : (p : ℕ → Bool) (bs : List ℕ) → AllPass p bs → AllPass p (reverse bs)
pass_back p [] h = tt
pass_back p (b ∷ bs) h = subst (AllPass p) (sym (reverse-append (b ∷ []) bs)) (pass_both p (reverse bs) (b ∷ []) (pass_back p bs h.1) (h.0, tt))

pub pass_len : (p : ℕ → Bool) (bs ss : List ℕ) → AllPass p bs → prefix_len p ss ≡ 0 → prefix_len p (bs ++ ss) ≡ length bs
pass_len p [] ss h e = e
pass_len p (b ∷ bs) ss h e = let f = pass_len p bs ss h.1 e in let g : p b ≡ true = h.0 in rw g (omega (arith, f))

pub none_by : (p : ℕ → Bool) (s : ℕ) (ss : List ℕ) → p s ≡ false → prefix_len p (s ∷ ss) ≡ 0
none_by p s ss e = rw e refl

pub none_first : (p : ℕ → Bool) (ss ts : List ℕ) → BeginsWithout p ss → prefix_len p (ss ++ ts) ≡ 0
none_first p [] ts h = absurd h
none_first p (s ∷ ss) ts h = none_by p s (ss ++ ts) h

-- ---- cut at the end

-- there is none, or the last doesn't pass
abbrev pub StopsLast : (ℕ → Bool) → List ℕ → Type 0
StopsLast p [] = Unit {0}
StopsLast p (s ∷ ss) = EndsWithout p (s ∷ ss)

pub record CutBack (p : ℕ → Bool) (ss : List ℕ) : Type 0 where
  pub front : List ℕ
  pub back : List ℕ
  pub is : ss ≡ front ++ back
  pub pass : AllPass p back
  pub stops : StopsLast p front

back_by : (p : ℕ → Bool) (s : ℕ) (ss front back : List ℕ) → ss ≡ front ++ back → AllPass p back → StopsLast p front → (v : Bool) → p s ≡ v → CutBack p (s ∷ ss)
back_by p s ss [] back is pass stops true e =
    record { front = []; back = s ∷ back; is = ap (λ (ts : List ℕ). s ∷ ts) is; pass = (e, pass); stops = tt }
back_by p s ss [] back is pass stops false e =
    record { front = s ∷ []; back = back; is = ap (λ (ts : List ℕ). s ∷ ts) is; pass = pass; stops = e }
back_by p s ss (t ∷ front) back is pass stops v e =
    record { front = s ∷ t ∷ front; back = back; is = ap (λ (ts : List ℕ). s ∷ ts) is; pass = pass; stops = stops }

pub cut_back : (p : ℕ → Bool) (ss : List ℕ) → CutBack p ss
cut_back p [] = record { front = []; back = []; is = refl; pass = tt; stops = tt }
cut_back p (s ∷ ss) = let c = cut_back p ss in back_by p s ss c.front c.back c.is c.pass c.stops (p s) refl

ends_back : (p : ℕ → Bool) (ss ts : List ℕ) → EndsWithout p ss → prefix_len p (reverse ss ++ ts) ≡ 0
ends_back p [] ts h = absurd h
ends_back p (s ∷ []) ts h = none_by p s ts h
ends_back p (s ∷ t ∷ ss) ts h =
    ap (λ (us : List ℕ). prefix_len p (us ++ ts)) (reverse-append (s ∷ []) (t ∷ ss))
    ∙ ap (prefix_len p) (append_assoc (reverse (t ∷ ss)) (s ∷ []) ts)
    ∙ ends_back p (t ∷ ss) (s ∷ ts) h

pub stops_back : (p : ℕ → Bool) (ss : List ℕ) → StopsLast p ss → prefix_len p (reverse ss) ≡ 0
stops_back p [] h = refl
stops_back p (s ∷ ss) h = ap (prefix_len p) (sym (append-nil (reverse (s ∷ ss)))) ∙ ends_back p (s ∷ ss) [] h

-- how many pass, from the end on
pub back_len : (p : ℕ → Bool) (front back : List ℕ) → AllPass p back → StopsLast p front → prefix_len p (reverse (front ++ back)) ≡ length back
back_len p front back h s =
    ap (prefix_len p) (reverse-append front back) ∙ pass_len p (reverse back) (reverse front) (pass_back p back h) (stops_back p front s) ∙ length-reverse back

-- ---- what is left past those that pass

past_none : (p : ℕ → Bool) (ss : List ℕ) → prefix_len p ss ≡ 0 → past p ss ≡ ss
past_none p [] e = refl
past_none p (s ∷ ss) e = by (p s) e
  where
    by : (v : Bool) → cond v (1 + prefix_len p ss) 0 ≡ 0 → (if v then past p ss else s ∷ ss) ≡ s ∷ ss
    by true f = absurd (omega (arith, f))
    by false f = refl

past_all : (p : ℕ → Bool) (bs ss : List ℕ) → AllPass p bs → past p (bs ++ ss) ≡ past p ss
past_all p [] ss h = refl
past_all p (b ∷ bs) ss h = let e : p b ≡ true = h.0 in rw e (past_all p bs ss h.1)

pub past_back : (p : ℕ → Bool) (front back : List ℕ) → AllPass p back → StopsLast p front → past p (reverse (front ++ back)) ≡ reverse front
past_back p front back h s =
    ap (past p) (reverse-append front back) ∙ past_all p (reverse back) (reverse front) (pass_back p back h) ∙ past_none p (reverse front) (stops_back p front s)

pub past_every : (p : ℕ → Bool) (bs : List ℕ) → AllPass p bs → past p bs ≡ []
past_every p bs h = ap (past p) (sym (append-nil bs)) ∙ past_all p bs [] h

-- ---- cut at the front

-- there is none, or the first doesn't pass
abbrev pub StopsFirst : (ℕ → Bool) → List ℕ → Type 0
StopsFirst p [] = Unit {0}
StopsFirst p (s ∷ ss) = p s ≡ false

pub record CutFront (p : ℕ → Bool) (ss : List ℕ) : Type 0 where
  pub front : List ℕ
  pub rest : List ℕ
  pub is : ss ≡ front ++ rest
  pub pass : AllPass p front
  pub stops : StopsFirst p rest

front_by : (p : ℕ → Bool) (s : ℕ) (ss : List ℕ) → CutFront p ss → (v : Bool) → p s ≡ v → CutFront p (s ∷ ss)
front_by p s ss c true e =
    record { front = s ∷ c.front; rest = c.rest; is = ap (λ (ts : List ℕ). s ∷ ts) c.is; pass = (e, c.pass); stops = c.stops }
front_by p s ss c false e = record { front = []; rest = s ∷ ss; is = refl; pass = tt; stops = e }

pub cut_front : (p : ℕ → Bool) (ss : List ℕ) → CutFront p ss
cut_front p [] = record { front = []; rest = []; is = refl; pass = tt; stops = tt }
cut_front p (s ∷ ss) = front_by p s ss (cut_front p ss) (p s) refl

-- ---- runs of `=`

pub run_length : (n : ℕ) → length (equals n) ≡ n
run_length n = length-replicate {A = ℕ} n 61

run_end : (n : ℕ) → equals n ++ 61 ∷ [] ≡ equals (suc n)
run_end zero = refl
run_end (suc n) = ap (λ (ss : List ℕ). 61 ∷ ss) (run_end n)

pub run_back : (n : ℕ) → reverse (equals n) ≡ equals n
run_back zero = refl
run_back (suc n) = reverse-append (61 ∷ []) (equals n) ∙ ap (λ (ss : List ℕ). ss ++ 61 ∷ []) (run_back n) ∙ run_end n

-- a longer one begins with a shorter one, and ends with it
pub run_more : (m n : ℕ) → m ≤ n → (k : ℕ) × (equals n ≡ equals m ++ equals k)
run_more zero n le = (n, refl)
run_more (suc m) zero le = absurd (omega (arith, le))
run_more (suc m) (suc n) le = let r = run_more m n (omega (arith, le)) in (r.0, ap (λ (ss : List ℕ). 61 ∷ ss) r.1)

pub run_less : (m n : ℕ) → m ≤ n → (k : ℕ) × (equals n ≡ equals k ++ equals m)
run_less m n le =
    let r = run_more m n le in (
      r.0,
      sym (run_back n) ∙ ap reverse r.1 ∙ reverse-append (equals m) (equals r.0)
          ∙ ap (λ (ss : List ℕ). ss ++ reverse (equals m)) (run_back r.0) ∙ ap (λ (ss : List ℕ). equals r.0 ++ ss) (run_back m),
    )

abbrev is_equal : ℕ → Bool
is_equal s = s == 61

-- the run that begins signs, and what is behind it
pub record FirstRun (ss : List ℕ) : Type 0 where
  pub rest : List ℕ
  pub is : ss ≡ equals (equals_len ss) ++ rest
  pub stops : StopsFirst is_equal rest

equal_is : (s : ℕ) → (s == 61) ≡ true → s ≡ 61
equal_is s e = eqb-true s 61 e

run_by : (s : ℕ) (ss : List ℕ) → FirstRun ss → (v : Bool) → is_equal s ≡ v → FirstRun (s ∷ ss)
run_by s ss r true e =
    let n : equals_len (s ∷ ss) ≡ suc (equals_len ss) = rw e (omega arith) in
    record {
      rest = r.rest;
      is = ap (λ (t : ℕ). t ∷ ss) (equal_is s e) ∙ ap (λ (ts : List ℕ). 61 ∷ ts) r.is ∙ ap (λ (k : ℕ). equals k ++ r.rest) (sym n);
      stops = r.stops;
    }
run_by s ss r false e =
    let n : equals_len (s ∷ ss) ≡ 0 = none_by is_equal s ss e in
    record { rest = s ∷ ss; is = ap (λ (k : ℕ). equals k ++ s ∷ ss) (sym n); stops = e }

pub first_run : (ss : List ℕ) → FirstRun ss
first_run [] = record { rest = []; is = refl; stops = tt }
first_run (s ∷ ss) = run_by s ss (first_run ss) (is_equal s) refl

-- the run that ends them
pub last_run : (ss : List ℕ) → (front : List ℕ) × (ss ≡ front ++ equals (equals_len (reverse ss)))
last_run ss =
    let r = first_run (reverse ss) in
    let n : ℕ = equals_len (reverse ss) in (
      reverse r.rest,
      sym (reverse-reverse ss) ∙ ap reverse r.is ∙ reverse-append (equals n) r.rest ∙ ap (λ (ts : List ℕ). reverse r.rest ++ ts) (run_back n),
    )

-- another sign stops a run
stop_len : (us vs : List ℕ) (s : ℕ) → (s == 61) ≡ false → equals_len (us ++ s ∷ vs) ≤ length us
stop_len [] vs s e = let z : equals_len (s ∷ vs) ≡ 0 = none_by is_equal s vs e in omega (arith, z)
stop_len (u ∷ us) vs s e = by (u == 61) (stop_len us vs s e)
  where
    by : (v : Bool) → equals_len (us ++ s ∷ vs) ≤ length us → cond v (1 + equals_len (us ++ s ∷ vs)) 0 ≤ suc (length us)
    by true le = omega (arith, le)
    by false le = omega arith

-- where not all are `=`, the first run and the last are apart
pub runs_apart : (ss : List ℕ) → (equals_len ss ≡ length ss → ⊥) → equals_len ss + equals_len (reverse ss) < length ss
runs_apart ss other = let r = first_run ss in by r.rest r.is r.stops
  where
    n : ℕ
    n = equals_len ss

    by : (rest : List ℕ) → ss ≡ equals n ++ rest → StopsFirst is_equal rest → n + equals_len (reverse ss) < length ss
    by [] is stops =
        let size : length ss ≡ length (equals n ++ []) = ap length is in
        absurd (other (omega (arith, size, length-append (equals n) [], run_length n)))
    by (t ∷ rest) is stops =
        let size : length ss ≡ length (equals n ++ t ∷ rest) = ap length is in
        let back : reverse ss ≡ reverse rest ++ t ∷ equals n =
        ap reverse is ∙ reverse-append (equals n) (t ∷ rest) ∙ ap (λ (us : List ℕ). us ++ reverse (equals n)) (reverse-append (t ∷ []) rest)
        ∙ append_assoc (reverse rest) (t ∷ []) (reverse (equals n)) ∙ ap (λ (us : List ℕ). reverse rest ++ t ∷ us) (run_back n) in
        let last : equals_len (reverse ss) ≡ equals_len (reverse rest ++ t ∷ equals n) = ap equals_len back in
        let le = stop_len (reverse rest) (equals n) t stops in
        omega (arith, size, length-append (equals n) (t ∷ rest), run_length n, last, le, length-reverse rest)

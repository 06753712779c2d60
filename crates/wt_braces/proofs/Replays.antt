-- What the lexemes behind an open run make, they make behind fewer braces of it and before fewer closing braces too.
use Rattle.std.proofs.Common.{◌≡◌, ℕ, zero, suc, ◌+◌, ◌-◌, ◌<◌, ◌≤◌, Bool, true, false, List, [], ◌∷◌, ◌++◌, reverse, nat_le, refl, sym, ap, ◌∙◌, subst, inl, inr, arith, append_assoc, append-nil}
use Rattle.std.specs.Prelude.{◌⊎◌, ◌==◌, ◌&&◌, if◌then◌else◌}
use Rattle.std.proofs.lemmas.Bool.Decides.{nat_tests}
use Rattle.std.proofs.lemmas.List.{reverse-append}
use Rattle.wt_span.specs.declared.form.LexKind.{LexKind}
use Rattle.wt_span.specs.declared.form.LexKind.TheVariants.{Chars, CommentLine, Comment, Raw, Include, Hidden, Entity, Opens, Closes, LinkOpen, LinkClose, Pipe, Equals}
use Rattle.wt_span.specs.Lexemes.{Word}
use Rattle.wt_span.specs.Braces.{Member, Members, lexeme, call, members, width, width_of_all, taken, left_over, rewritten, again, closed_by, with_word, reduced_onto, reduced}
use Rattle.wt_braces.specs.Matched.{end_of}
use Rattle.wt_braces.specs.Words.{total_width}
use Rattle.wt_braces.specs.Alone.{IsMadeAlone, IsMade, AreMade}
use Rattle.wt_braces.proofs.Shapes.{NoRun, Behind, nearest}
use Rattle.wt_braces.proofs.Takings.{taking, rewritten_at, stuck_free, stuck_few}
use Rattle.wt_braces.proofs.Closings.{stuck_again, lowered, step}
use Rattle.wt_braces.proofs.Reached.{fixed_by, left_some}
use Rattle.wt_braces.proofs.TextLaws.{word_width}
use Rattle.wt_braces.proofs.Widths.{end_is, end_append}

-- ---- fewer braces

-- as many braces are taken where there are fewer, but enough
taken_less : (n c m d : ℕ) → m ≤ n → d ≤ c → taken n c ≤ m → taken n c ≤ d → taken m d ≡ taken n c
taken_less n c m d le less = by (nat_le 3 n) (nat_le 3 c) (nat_le 3 m) (nat_le 3 d) refl refl refl refl
  where
    by : (s t u v : Bool) → nat_le 3 n ≡ s → nat_le 3 c ≡ t → nat_le 3 m ≡ u → nat_le 3 d ≡ v → (if s && t then 3 else 2) ≤ m
        → (if s && t then 3 else 2) ≤ d → ◌≡◌ {A = ℕ} (if u && v then 3 else 2) (if s && t then 3 else 2)
    by true true true true e f g h a b = refl
    by true true true false e f g h a b = let z : nat_le 3 d ≡ true = grind (arith, nat_tests) in let w : true ≡ false = sym z ∙ h in cc
    by true true false v e f g h a b = let z : nat_le 3 m ≡ true = grind (arith, nat_tests) in let w : true ≡ false = sym z ∙ g in cc
    by true false u true e f g h a b = let z : nat_le 3 c ≡ true = grind (arith, nat_tests) in let w : true ≡ false = sym z ∙ f in cc
    by true false true false e f g h a b = refl
    by true false false false e f g h a b = refl
    by false t true v e f g h a b = let z : nat_le 3 n ≡ true = grind (arith, nat_tests) in let w : true ≡ false = sym z ∙ e in cc
    by false t false v e f g h a b = refl

-- a call takes two or three braces, and as many of as many
taken_self : (n c : ℕ) → taken (taken n c) (taken n c) ≡ taken n c
taken_self n c = by (nat_le 3 n && nat_le 3 c)
  where
    by : (t : Bool) → taken (if t then 3 else 2) (if t then 3 else 2) ≡ (if t then 3 else 2)
    by true = refl
    by false = refl

-- ---- lexemes, one after another

onto_append : (before : List Member) (ws vs : List Word) → reduced_onto before (ws ++ vs) ≡ reduced_onto (reduced_onto before ws) vs
onto_append before [] vs = refl
onto_append before (w ∷ ws) vs = onto_append (with_word w before) ws vs

pub total_append : (ws vs : List Word) → total_width (ws ++ vs) ≡ total_width ws + total_width vs
total_append [] vs = omega arith
total_append (w ∷ ws) vs = omega (arith, total_append ws vs)

-- ---- what stands behind an open run, and how it came about

pub record Replay (done : List Word) (inside : List Member) (n : ℕ) (rest : List Member) : Type 0 where
  pub before : List Word
  pub used : ℕ
  pub behind : List Word
  pub done_is : done ≡ before ++ (Opens, n + used) ∷ behind
  pub place : total_width before ≡ end_of 0 rest
  pub again_so : (d : ℕ) → 2 ≤ d → d ≤ n → reduced_onto [] ((Opens, d + used) ∷ behind) ≡ inside ++ lexeme (Opens, d) ∷ []

abbrev pub Replays : List Word → List Member → Type 0
Replays done all = (inside : List Member) (n : ℕ) (rest : List Member) → all ≡ inside ++ lexeme (Opens, n) ∷ rest → 2 ≤ n → Replay done inside n rest

-- The same while a closing run of c0 braces takes, of which c are left: whatever number of them it lacks at its end, it takes so.
pub record Partly (done : List Word) (c0 c : ℕ) (inside : List Member) (n : ℕ) (rest : List Member) : Type 0 where
  pub before : List Word
  pub used : ℕ
  pub behind : List Word
  pub done_is : done ≡ before ++ (Opens, n + used) ∷ behind
  pub place : total_width before ≡ end_of 0 rest
  pub again_so : (d e : ℕ) → 2 ≤ d → d ≤ n → e ≤ c
      → again (c0 - e) rewritten (c0 - e, reduced_onto [] ((Opens, d + used) ∷ behind))
      ≡ again (c - e) rewritten (c - e, inside ++ lexeme (Opens, d) ∷ [])

abbrev pub Parts : List Word → ℕ → ℕ → List Member → Type 0
Parts done c0 c all = (inside : List Member) (n : ℕ) (rest : List Member) → all ≡ inside ++ lexeme (Opens, n) ∷ rest → 2 ≤ n → Partly done c0 c inside n rest

begun : (done : List Word) (c0 : ℕ) (all : List Member) → Replays done all → Parts done c0 c0 all
begun done c0 all h inside n rest e two =
    let r = h inside n rest e two in
    record {
      before = r.before;
      used = r.used;
      behind = r.behind;
      done_is = r.done_is;
      place = r.place;
      again_so = λ d e two le less. ap (λ xs. again (c0 - e) rewritten (c0 - e, xs)) (r.again_so d two le);
    }

-- ---- lists that are cut

head_is : (x y : Member) (xs ys : List Member) → x ∷ xs ≡ y ∷ ys → x ≡ y
head_is x y xs ys e = cc

tail_is : (x y : Member) (xs ys : List Member) → x ∷ xs ≡ y ∷ ys → xs ≡ ys
tail_is x y xs ys e = cc

same_run : (n m : ℕ) → lexeme (Opens, n) ≡ lexeme (Opens, m) → n ≡ m
same_run n m e = ap width e

no_call_run : (k : ℕ) (ms : Members) (n : ℕ) → call k ms ≡ lexeme (Opens, n) → ⊥
no_call_run k ms n e = cc

-- where a run stands in what is left of another one and what lies behind it
data InLeft (m : ℕ) (rest inside : List Member) (n : ℕ) (last : List Member) : Type 0 where
  here : 1 ≤ m → inside ≡ [] → n ≡ m → last ≡ rest → InLeft m rest inside n last
  later : (inner : List Member) → inside ≡ left_over Opens m ++ inner → rest ≡ inner ++ lexeme (Opens, n) ∷ last → InLeft m rest inside n last

in_left : (m : ℕ) (rest inside : List Member) (n : ℕ) (last : List Member) → left_over Opens m ++ rest ≡ inside
    ++ lexeme (Opens, n) ∷ last → InLeft m rest inside n last
in_left m rest inside n last = by (m == 0) refl
  where
    over : (t : Bool) → (m == 0) ≡ t → left_over Opens m ≡ (if t then [] else lexeme (Opens, m) ∷ [])
    over t e = ap (λ u. if u then [] else lexeme (Opens, m) ∷ []) e

    some : (m == 0) ≡ false → 1 ≤ m
    some e = grind (arith, nat_tests)

    first : (xs : List Member) → (m == 0) ≡ false → inside ≡ xs → lexeme (Opens, m) ∷ rest ≡ xs ++ lexeme (Opens, n) ∷ last → InLeft m rest inside n last
    first [] e i f = here (some e) i (sym (same_run m n (head_is (lexeme (Opens, m)) (lexeme (Opens, n)) rest last f)))
        (sym (tail_is (lexeme (Opens, m)) (lexeme (Opens, n)) rest last f))
    first (x ∷ xs) e i f =
        let run : lexeme (Opens, m) ≡ x = head_is (lexeme (Opens, m)) x rest (xs ++ lexeme (Opens, n) ∷ last) f in
        later xs (i ∙ ap (λ y. y ∷ xs) (sym run) ∙ ap (λ ys. ys ++ xs) (sym (over false e)))
        (tail_is (lexeme (Opens, m)) x rest (xs ++ lexeme (Opens, n) ∷ last) f)

    by : (t : Bool) → (m == 0) ≡ t → (if t then [] else lexeme (Opens, m) ∷ []) ++ rest ≡ inside ++ lexeme (Opens, n) ∷ last → InLeft m rest inside n last
    by true e f = later inside (ap (λ ys. ys ++ inside) (sym (over true e))) f
    by false e f = first inside e refl f

no_run_at : (xs ys : List Member) (n : ℕ) → NoRun (xs ++ lexeme (Opens, n) ∷ ys) → 2 ≤ n → ⊥
no_run_at [] ys n h two = let e : nat_le 2 n ≡ true = grind (arith, nat_tests) in let z : true ≡ false = sym e ∙ h.0 in cc
no_run_at (x ∷ xs) ys n h two = no_run_at xs ys n h.1 two

-- ---- one taking

-- a run takes from what is behind a nearer one
one_step : (n c e : ℕ) (inside back : List Member) → NoRun inside → 2 ≤ n → 2 ≤ c → e ≤ c - taken n c
    → again (c - e) rewritten (c - e, inside ++ lexeme (Opens, n) ∷ back)
    ≡ again (c - taken n c - e) rewritten (
      c - taken n c - e,
      call (taken n c) (members (reverse inside))
          ∷ (left_over Opens (n - taken n c) ++ back),
    )
one_step n c e inside back free two two_c le =
    let k = taken n c in
    let s = taking n c two two_c in
    let same : taken n (c - e) ≡ k = taken_less n c n (c - e) (omega arith) (omega arith) s.opening (omega (arith, s.closing)) in
    let enough : 2 ≤ c - e = omega (arith, s.two, s.closing) in
    let x : ℕ × List Member = (c - e, inside ++ lexeme (Opens, n) ∷ back) in
    let is : rewritten x ≡ (c - e - k, call k (members (reverse inside)) ∷ (left_over Opens (n - k) ++ back)) =
    rewritten_at (c - e) n inside back free two enough ∙ ap (λ j. (c - e - j, call j (members (reverse inside)) ∷ (left_over Opens (n - j) ++ back))) same in
    let z : c - e - k ≡ c - k - e = omega arith in
    sym (step (c - e) k (inside ++ lexeme (Opens, n) ∷ back) s.two (omega (arith, s.closing)) (ap (λ y. y.0) is))
    ∙ ap (λ (y : ℕ × List Member). again (c - e - k) rewritten (c - e - k, y.1)) is
    ∙ ap (λ i. again i rewritten (i, call k (members (reverse inside)) ∷ (left_over Opens (n - k) ++ back))) z

-- the same where fewer braces of the run are left, but two after the taking
fewer_step : (n d c e : ℕ) (inside : List Member) → NoRun inside → 2 ≤ n → 2 ≤ c → 2 ≤ d → d ≤ n - taken n c → e ≤ c - taken n c
    → again (c - e) rewritten (c - e, inside ++ lexeme (Opens, d + taken n c) ∷ [])
    ≡ again (c - taken n c - e) rewritten (c - taken n c - e, call (taken n c) (members (reverse inside)) ∷ (lexeme (Opens, d) ∷ []))
fewer_step n d c e inside free two two_c low le less =
    let k = taken n c in
    let s = taking n c two two_c in
    let same : taken (d + k) c ≡ k = taken_less n c (d + k) c (omega (arith, s.opening)) (omega arith) (omega arith) s.closing in
    let P : ℕ → Type 0 = λ j. again (c - e) rewritten (c - e, inside ++ lexeme (Opens, d + k) ∷ [])
    ≡ again (c - j - e) rewritten (c - j - e, call j (members (reverse inside)) ∷ (left_over Opens (d + k - j) ++ [])) in
    let room : e ≤ c - taken (d + k) c = omega (arith, same, less) in
    let h = subst P same (one_step (d + k) c e inside [] free (omega arith) two_c room) in
    let z : d + k - k ≡ d = omega arith in
    h ∙ ap (λ m. again (c - k - e) rewritten (c - k - e, call k (members (reverse inside)) ∷ (left_over Opens m ++ []))) z
    ∙ ap (λ xs. again (c - k - e) rewritten (c - k - e, call k (members (reverse inside)) ∷ (xs ++ []))) (left_some Opens d (omega arith))

abbrev after_taking : ℕ → ℕ → List Member → List Member → List Member
after_taking n c inside rest = call (taken n c) (members (reverse inside)) ∷ (left_over Opens (n - taken n c) ++ rest)

-- the run that gave braces
taken_here : (done : List Word) (c0 c n : ℕ) (inside rest : List Member) (m : ℕ) → NoRun inside → 2 ≤ n → 2 ≤ c
    → Partly done c0 c inside n rest → m ≡ n - taken n c → 2 ≤ m
    → Partly done c0 (c - taken n c) (call (taken n c) (members (reverse inside)) ∷ []) m rest
taken_here done c0 c n inside rest m free two two_c p e low =
    let k = taken n c in
    let s = taking n c two two_c in
    let whole : n + p.used ≡ m + (k + p.used) = omega (arith, e, s.opening) in
    record {
      before = p.before;
      used = k + p.used;
      behind = p.behind;
      done_is = p.done_is ∙ ap (λ i. p.before ++ (Opens, i) ∷ p.behind) whole;
      place = p.place;
      again_so = λ d f two_d le less.
          let z : d + (k + p.used) ≡ d + k + p.used = omega arith in
          ap (λ i. again (c0 - f) rewritten (c0 - f, reduced_onto [] ((Opens, i) ∷ p.behind))) z
          ∙ p.again_so (d + k) f (omega arith) (omega (arith, e, s.opening, le)) (omega (arith, less))
          ∙ fewer_step n d c f inside free two two_c two_d (omega (arith, e, le)) less;
    }

-- a run farther on the left
taken_later : (done : List Word) (c0 c n : ℕ) (inside inner : List Member) (m : ℕ) (last : List Member) → NoRun inside → 2 ≤ n
    → 2 ≤ c → Partly done c0 c (inside ++ lexeme (Opens, n) ∷ inner) m last
    → Partly done c0 (c - taken n c) (call (taken n c) (members (reverse inside)) ∷ (left_over Opens (n - taken n c) ++ inner)) m last
taken_later done c0 c n inside inner m last free two two_c p = record {
  before = p.before;
  used = p.used;
  behind = p.behind;
  done_is = p.done_is;
  place = p.place;
  again_so = λ d f two_d le less.
      p.again_so d f two_d le (omega (arith, less))
      ∙ ap (λ xs. again (c - f) rewritten (c - f, xs)) (append_assoc inside (lexeme (Opens, n) ∷ inner) (lexeme (Opens, d) ∷ []))
      ∙ one_step n c f inside (inner ++ lexeme (Opens, d) ∷ []) free two two_c less
      ∙ ap (λ xs. again (c - taken n c - f) rewritten (c - taken n c - f, call (taken n c) (members (reverse inside)) ∷ xs))
      (sym (append_assoc (left_over Opens (n - taken n c)) inner (lexeme (Opens, d) ∷ [])));
}

taken_parts : (done : List Word) (c0 c n : ℕ) (inside rest : List Member) → NoRun inside → 2 ≤ n → 2 ≤ c
    → Parts done c0 c (inside ++ lexeme (Opens, n) ∷ rest) → Parts done c0 (c - taken n c) (after_taking n c inside rest)
taken_parts done c0 c n inside rest free two two_c h [] m last e low = absurd (no_call_run (taken n c) (members (reverse inside)) m (head_is _ _ _ _ e))
taken_parts done c0 c n inside rest free two two_c h (x ∷ xs) m last e low = by (in_left (n - taken n c) rest xs m last (tail_is _ _ _ _ e))
  where
    first : call (taken n c) (members (reverse inside)) ≡ x
    first = head_is _ _ _ _ e

    by : InLeft (n - taken n c) rest xs m last → Partly done c0 (c - taken n c) (x ∷ xs) m last
    by (here some i f g) =
        let P : List Member → Type 0 = λ ys. Partly done c0 (c - taken n c) ys m last in
        let Q : List Member → Type 0 = λ ys. Partly done c0 (c - taken n c) (call (taken n c) (members (reverse inside)) ∷ []) m ys in
        let same : call (taken n c) (members (reverse inside)) ∷ [] ≡ x ∷ xs = ap (λ y. y ∷ []) first ∙ ap (λ ys. x ∷ ys) (sym i) in
        subst P same (subst Q (sym g) (taken_here done c0 c n inside rest m free two two_c (h inside n rest refl two) f low))
    by (later inner i f) =
        let P : List Member → Type 0 = λ ys. Partly done c0 (c - taken n c) ys m last in
        let same : call (taken n c) (members (reverse inside)) ∷ (left_over Opens (n - taken n c) ++ inner) ≡ x ∷ xs =
        ap (λ y. y ∷ (left_over Opens (n - taken n c) ++ inner)) first ∙ ap (λ ys. x ∷ ys) (sym i) in
        let whole : inside ++ lexeme (Opens, n) ∷ rest ≡ (inside ++ lexeme (Opens, n) ∷ inner) ++ lexeme (Opens, m) ∷ last =
        ap (λ ys. inside ++ lexeme (Opens, n) ∷ ys) f ∙ sym (append_assoc inside (lexeme (Opens, n) ∷ inner) (lexeme (Opens, m) ∷ last)) in
        subst P same (taken_later done c0 c n inside inner m last free two two_c (h (inside ++ lexeme (Opens, n) ∷ inner) m last whole low))

-- ---- the call that is made

-- no brace is left: nothing more is taken
none_left : (f : ℕ) (xs : List Member) → again f rewritten (0, xs) ≡ (0, xs)
none_left f xs = stuck_again f (0, xs) (stuck_few 0 xs (omega arith))

-- k braces before and k behind
own_step : (n c : ℕ) (inside : List Member) → NoRun inside → 2 ≤ n → 2 ≤ c
    → again (taken n c) rewritten (taken n c, inside ++ lexeme (Opens, taken n c) ∷ []) ≡ (0, call (taken n c) (members (reverse inside)) ∷ [])
own_step n c inside free two two_c =
    let k = taken n c in
    let s = taking n c two two_c in
    let self = taken_self n c in
    let room : 0 ≤ k - taken k k = omega arith in
    let z : k - 0 ≡ k = omega arith in
    let P : ℕ → Type 0 = λ j. again (k - 0) rewritten (k - 0, inside ++ lexeme (Opens, k) ∷ [])
    ≡ again (k - j - 0) rewritten (k - j - 0, call j (members (reverse inside)) ∷ (left_over Opens (k - j) ++ [])) in
    let h = subst P self (one_step k k 0 inside [] free s.two s.two room) in
    let nothing : k - k ≡ 0 = omega arith in
    let still : k - k - 0 ≡ 0 = omega arith in
    ap (λ i. again i rewritten (i, inside ++ lexeme (Opens, k) ∷ [])) (sym z) ∙ h
    ∙ ap (λ i. again i rewritten (i, call k (members (reverse inside)) ∷ (left_over Opens (k - k) ++ []))) still
    ∙ ap (λ m. (0, call k (members (reverse inside)) ∷ (left_over Opens m ++ []))) nothing

reduced_is : (ws : List Word) → reduced ws ≡ reverse (reduced_onto [] ws)
unfolding reduced
reduced_is ws = refl

made_alone : (all done : List Word) (others : List Word) (c0 c n : ℕ) (inside rest : List Member)
    → all ≡ done ++ (Closes, c0) ∷ others → c ≤ c0 → NoRun inside → 2 ≤ n → 2 ≤ c → Partly done c0 c inside n rest
    → IsMadeAlone all (end_of 0 rest + (n - taken n c)) (taken n c) (members (reverse inside))
made_alone all done others c0 c n inside rest is le free two two_c p =
    let k = taken n c in
    let s = taking n c two two_c in
    let e : ℕ = c - k in
    let size : c - e ≡ k = omega (arith, s.closing) in
    let X = reduced_onto [] ((Opens, k + p.used) ∷ p.behind) in
    let closes : again (c0 - e) rewritten (c0 - e, X) ≡ (0, call k (members (reverse inside)) ∷ []) =
    p.again_so k e s.two s.opening (omega arith) ∙ ap (λ i. again i rewritten (i, inside ++ lexeme (Opens, k) ∷ [])) size
    ∙ own_step n c inside free two two_c in
    let onto : reduced_onto [] ((Opens, k + p.used) ∷ (p.behind ++ (Closes, c0 - e) ∷ [])) ≡ call k (members (reverse inside)) ∷ [] =
    onto_append (lexeme (Opens, k + p.used) ∷ []) p.behind ((Closes, c0 - e) ∷ []) ∙ ap (λ (y : ℕ × List Member). left_over Closes y.0 ++ y.1) closes in
    let first : n + p.used ≡ (n - k) + (k + p.used) = omega (arith, s.opening) in
    let last : c0 ≡ (c0 - e) + e = omega (arith, le) in
    record {
      before = p.before;
      unused = n - k;
      opening = k + p.used;
      between = p.behind;
      closing = c0 - e;
      over = e;
      after = others;
      all_is = is ∙ ap (λ ws. ws ++ (Closes, c0) ∷ others) p.done_is ∙ append_assoc p.before ((Opens, n + p.used) ∷ p.behind) ((Closes, c0) ∷ others)
          ∙ ap (λ i. p.before ++ (Opens, i) ∷ (p.behind ++ (Closes, c0) ∷ others)) first
          ∙ ap (λ i. p.before ++ (Opens, (n - k) + (k + p.used)) ∷ (p.behind ++ (Closes, i) ∷ others)) last;
      two_open = omega (arith, s.two);
      two_close = omega (arith, s.two, s.closing, le);
      place = omega (arith, p.place);
      alone = reduced_is ((Opens, k + p.used) ∷ (p.behind ++ (Closes, c0 - e) ∷ [])) ∙ ap reverse onto;
    }

-- ---- all that is made

-- members listed from the nearest on, of which the farthest begins at 0
abbrev pub AllMade : List Word → List Member → Type 0
AllMade all [] = Unit {0}
AllMade all (x ∷ before) = IsMade all (end_of 0 before) x × AllMade all before

made_push : (all : List Word) (at : ℕ) (xs : List Member) (y : Member) → AreMade all at (members xs)
    → IsMade all (at + width_of_all (members xs)) y → AreMade all at (members (xs ++ y ∷ []))
made_push all at [] y f g = let e : at + 0 ≡ at = omega arith in let P : ℕ → Type 0 = λ p. IsMade all p y in (subst P e g, tt)
made_push all at (x ∷ xs) y f g =
    let e : at + (width x + width_of_all (members xs)) ≡ at + width x + width_of_all (members xs) = omega arith in
    let P : ℕ → Type 0 = λ p. IsMade all p y in
    (f.0, made_push all (at + width x) xs y f.1 (subst P e g))

made_inside : (all : List Word) (inside base : List Member) → AllMade all (inside ++ base) → AreMade all (end_of 0 base) (members (reverse inside))
made_inside all [] base f = tt
made_inside all (x ∷ inside) base f =
    let P : List Member → Type 0 = λ xs. AreMade all (end_of 0 base) (members xs) in
    let Q : ℕ → Type 0 = λ p. IsMade all p x in
    let place : end_of 0 (inside ++ base) ≡ end_of 0 base + width_of_all (members (reverse inside)) = end_append 0 inside base
    ∙ end_is (end_of 0 base) inside in
    subst P (sym (reverse-append (x ∷ []) inside)) (made_push all (end_of 0 base) (reverse inside) x (made_inside all inside base f.1) (subst Q place f.0))

made_rest : (all : List Word) (inside base : List Member) → AllMade all (inside ++ base) → AllMade all base
made_rest all [] base f = f
made_rest all (x ∷ inside) base f = made_rest all inside base f.1

made_over : (all : List Word) (kind : LexKind) (n : ℕ) (rest : List Member) → AllMade all rest → AllMade all (left_over kind n ++ rest)
made_over all kind n rest f = by (n == 0)
  where
    by : (t : Bool) → AllMade all ((if t then [] else lexeme (kind, n) ∷ []) ++ rest)
    by true = f
    by false = (tt, f)

over_end : (n : ℕ) (rest : List Member) → end_of 0 (left_over Opens n ++ rest) ≡ end_of 0 rest + n
over_end n rest = by (n == 0) refl
  where
    by : (t : Bool) → (n == 0) ≡ t → end_of 0 ((if t then [] else lexeme (Opens, n) ∷ []) ++ rest) ≡ end_of 0 rest + n
    by true e = let z : n ≡ 0 = grind (arith, nat_tests) in omega (arith, z)
    by false e = omega arith

-- what holds while a closing run takes
record Taking_on (all done : List Word) (c0 c : ℕ) (before : List Member) : Type 0 where
  pub parts : Parts done c0 c before
  pub made : AllMade all before
  pub most : c ≤ c0

taking_on : (all done others : List Word) (c0 c : ℕ) (before : List Member) → all ≡ done ++ (Closes, c0) ∷ others → 2 ≤ c
    → (b : Behind before) → Taking_on all done c0 c before
    → Taking_on all done c0 (c - taken b.braces c) (after_taking b.braces c b.inside b.rest)
taking_on all done others c0 c before is two_c b t =
    let n = b.braces in
    let k = taken n c in
    let s = taking n c b.two two_c in
    let parts = subst (Parts done c0 c) b.is t.parts in
    let made = subst (AllMade all) b.is t.made in
    let under = made_rest all b.inside (lexeme (Opens, n) ∷ b.rest) made in
    let call_made = made_alone all done others c0 c n b.inside b.rest is t.most b.free b.two two_c (parts b.inside n b.rest refl b.two) in
    let inner = made_inside all b.inside (lexeme (Opens, n) ∷ b.rest) made in
    let begin : end_of 0 b.rest + n ≡ end_of 0 b.rest + (n - k) + k = omega (arith, s.opening) in
    let A : ℕ → Type 0 = λ p. AreMade all p (members (reverse b.inside)) in
    let Q : ℕ → Type 0 = λ p. IsMade all p (call k (members (reverse b.inside))) in
    record {
      parts = taken_parts done c0 c n b.inside b.rest b.free b.two two_c parts;
      made = (subst Q (sym (over_end (n - k) b.rest)) (call_made, subst A begin inner), made_over all Opens (n - k) b.rest under.1);
      most = omega (arith, t.most);
    }

dec_two : (c : ℕ) → (c < 2) ⊎ (2 ≤ c)
dec_two zero = inl (omega arith)
dec_two (suc zero) = inl (omega arith)
dec_two (suc (suc c)) = inr (omega arith)

taking_all : (f : ℕ) (all done others : List Word) (c0 c : ℕ) (before : List Member) → all ≡ done ++ (Closes, c0) ∷ others → Taking_on all done c0 c before
    → Taking_on all done c0 (again f rewritten (c, before)).0 (again f rewritten (c, before)).1
taking_all zero all done others c0 c before is t = t
taking_all (suc f) all done others c0 c before is t =
    by_case (dec_two c) (nearest before) (taking_all f all done others c0 c before is t)
    (λ two_c b. taking_all f all done others c0 (c - taken b.braces c) (after_taking b.braces c b.inside b.rest) is
    (taking_on all done others c0 c before is two_c b t))
  where
    P : ℕ × List Member → Type 0
    P x = Taking_on all done c0 (again f rewritten x).0 (again f rewritten x).1

    by_case : (c < 2) ⊎ (2 ≤ c) → NoRun before ⊎ Behind before → P (c, before)
        → (2 ≤ c → (b : Behind before) → P (c - taken b.braces c, after_taking b.braces c b.inside b.rest)) → P (rewritten (c, before))
    by_case (inl few) r h g = subst P (sym (stuck_few c before few)) h
    by_case (inr two_c) (inl free) h g = subst P (sym (stuck_free c before free)) h
    by_case (inr two_c) (inr b) h g = subst P (sym (ap (λ bs. rewritten (c, bs)) b.is ∙ rewritten_at c b.braces b.inside b.rest b.free b.two two_c)) (g two_c b)

-- ---- a closing run is read

few_left : (c : ℕ) (inside : List Member) (n : ℕ) (rest : List Member) → 2 ≤ n → rewritten (c, inside ++ lexeme (Opens, n) ∷ rest)
    ≡ (c, inside ++ lexeme (Opens, n) ∷ rest) → c < 2
few_left c inside n rest two stuck = by (dec_two c) (nearest (inside ++ lexeme (Opens, n) ∷ rest))
  where
    by : (c < 2) ⊎ (2 ≤ c) → NoRun (inside ++ lexeme (Opens, n) ∷ rest) ⊎ Behind (inside ++ lexeme (Opens, n) ∷ rest) → c < 2
    by (inl few) r = few
    by (inr two_c) (inl free) = absurd (no_run_at inside rest n free two)
    by (inr two_c) (inr b) =
        let s = taking b.braces c b.two two_c in
        let is = ap (λ bs. rewritten (c, bs)) b.is ∙ rewritten_at c b.braces b.inside b.rest b.free b.two two_c in
        let z : c ≡ c - taken b.braces c = ap (λ x. x.0) (sym stuck ∙ is) in
        absurd (omega (arith, z, s.two, s.closing))

-- where a run stands behind what is left of a closing run
data InShut (m : ℕ) (rest inside : List Member) (n : ℕ) (last : List Member) : Type 0 where
  behind_it : (inner : List Member) → inside ≡ left_over Closes m ++ inner → rest ≡ inner ++ lexeme (Opens, n) ∷ last → InShut m rest inside n last

no_shut_run : (m n : ℕ) → lexeme (Closes, m) ≡ lexeme (Opens, n) → ⊥
no_shut_run m n e = let z : true ≡ false = ap is_closing e in cc
  where
    is_closing : Member → Bool
    is_closing (lexeme (Closes, k)) = true
    is_closing x = false

in_shut : (m : ℕ) (rest inside : List Member) (n : ℕ) (last : List Member) → left_over Closes m ++ rest ≡ inside
    ++ lexeme (Opens, n) ∷ last → InShut m rest inside n last
in_shut m rest inside n last = by (m == 0) refl
  where
    over : (t : Bool) → (m == 0) ≡ t → left_over Closes m ≡ (if t then [] else lexeme (Closes, m) ∷ [])
    over t e = ap (λ u. if u then [] else lexeme (Closes, m) ∷ []) e

    first : (xs : List Member) → (m == 0) ≡ false → inside ≡ xs → lexeme (Closes, m) ∷ rest ≡ xs ++ lexeme (Opens, n) ∷ last → InShut m rest inside n last
    first [] e i f = absurd (no_shut_run m n (head_is (lexeme (Closes, m)) (lexeme (Opens, n)) rest last f))
    first (x ∷ xs) e i f =
        let run : lexeme (Closes, m) ≡ x = head_is (lexeme (Closes, m)) x rest (xs ++ lexeme (Opens, n) ∷ last) f in
        behind_it xs (i ∙ ap (λ y. y ∷ xs) (sym run) ∙ ap (λ ys. ys ++ xs) (sym (over false e)))
        (tail_is (lexeme (Closes, m)) x rest (xs ++ lexeme (Opens, n) ∷ last) f)

    by : (t : Bool) → (m == 0) ≡ t → (if t then [] else lexeme (Closes, m) ∷ []) ++ rest ≡ inside ++ lexeme (Opens, n) ∷ last → InShut m rest inside n last
    by true e f = behind_it inside (ap (λ ys. ys ++ inside) (sym (over true e))) f
    by false e f = first inside e refl f

shut_replay : (done : List Word) (c0 c : ℕ) (inner : List Member) (n : ℕ) (last : List Member) → c < 2
    → Partly done c0 c inner n last → Replay (done ++ (Closes, c0) ∷ []) (left_over Closes c ++ inner) n last
shut_replay done c0 c inner n last few p = record {
  before = p.before;
  used = p.used;
  behind = p.behind ++ (Closes, c0) ∷ [];
  done_is = ap (λ ws. ws ++ (Closes, c0) ∷ []) p.done_is ∙ append_assoc p.before ((Opens, n + p.used) ∷ p.behind) ((Closes, c0) ∷ []);
  place = p.place;
  again_so = λ d two le.
      let X = reduced_onto [] ((Opens, d + p.used) ∷ p.behind) in
      let z : c0 - 0 ≡ c0 = omega arith in
      let y : c - 0 ≡ c = omega arith in
      let end : again c0 rewritten (c0, X) ≡ (c, inner ++ lexeme (Opens, d) ∷ []) =
      ap (λ i. again i rewritten (i, X)) (sym z) ∙ p.again_so d 0 two le (omega arith) ∙ ap (λ i. again i rewritten (i, inner ++ lexeme (Opens, d) ∷ [])) y
      ∙ stuck_again c (c, inner ++ lexeme (Opens, d) ∷ []) (stuck_few c (inner ++ lexeme (Opens, d) ∷ []) few) in
      onto_append (lexeme (Opens, d + p.used) ∷ []) p.behind ((Closes, c0) ∷ []) ∙ ap (λ (x : ℕ × List Member). left_over Closes x.0 ++ x.1) end
      ∙ sym (append_assoc (left_over Closes c) inner (lexeme (Opens, d) ∷ []));
}

shut_replays : (done : List Word) (c0 c : ℕ) (before : List Member) → rewritten (c, before) ≡ (c, before) → Parts done c0 c before
    → Replays (done ++ (Closes, c0) ∷ []) (left_over Closes c ++ before)
shut_replays done c0 c before stuck h inside n last e two = by (in_shut c before inside n last e)
  where
    by : InShut c before inside n last → Replay (done ++ (Closes, c0) ∷ []) inside n last
    by (behind_it inner i f) =
        let P : List Member → Type 0 = λ xs. Replay (done ++ (Closes, c0) ∷ []) xs n last in
        let Q : List Member → Type 0 = λ xs. rewritten (c, xs) ≡ (c, xs) in
        subst P (sym i) (shut_replay done c0 c inner n last (few_left c inner n last two (subst Q f stuck)) (h inner n last f two))

-- ---- any other lexeme is read

open_replay : (done : List Word) (n : ℕ) (before : List Member) → end_of 0 before ≡ total_width done → Replay (done ++ (Opens, n) ∷ []) [] n before
open_replay done n before place =
    let z : n ≡ n + 0 = omega arith in
    record {
      before = done;
      used = 0;
      behind = [];
      done_is = ap (λ i. done ++ (Opens, i) ∷ []) z;
      place = sym place;
      again_so = λ d two le. let y : d + 0 ≡ d = omega arith in ap (λ i. lexeme (Opens, i) ∷ []) y;
    }

plain_replay : (done : List Word) (w : Word) (inside : List Member) (n : ℕ) (last : List Member)
    → ((xs : List Member) → with_word w xs ≡ lexeme w ∷ xs) → Replay done inside n last → Replay (done ++ w ∷ []) (lexeme w ∷ inside) n last
plain_replay done w inside n last plain r = record {
  before = r.before;
  used = r.used;
  behind = r.behind ++ w ∷ [];
  done_is = ap (λ ws. ws ++ w ∷ []) r.done_is ∙ append_assoc r.before ((Opens, n + r.used) ∷ r.behind) (w ∷ []);
  place = r.place;
  again_so = λ d two le.
      onto_append (lexeme (Opens, d + r.used) ∷ []) r.behind (w ∷ [])
      ∙ plain (reduced_onto (lexeme (Opens, d + r.used) ∷ []) r.behind) ∙ ap (λ xs. lexeme w ∷ xs) (r.again_so d two le);
}

plain_replays : (done : List Word) (w : Word) (before : List Member) → ((xs : List Member) → with_word w xs ≡ lexeme w ∷ xs)
    → end_of 0 before ≡ total_width done → Replays done before → Replays (done ++ w ∷ []) (lexeme w ∷ before)
plain_replays done w before plain place h [] n last e two =
    let first : lexeme w ≡ lexeme (Opens, n) = head_is _ _ _ _ e in
    let word : w ≡ (Opens, n) = ap word_in first in
    let P : Word → Type 0 = λ v. Replay (done ++ v ∷ []) [] n last in
    let Q : List Member → Type 0 = λ xs. Replay (done ++ (Opens, n) ∷ []) [] n xs in
    subst P (sym word) (subst Q (tail_is _ _ _ _ e) (open_replay done n before place))
  where
    word_in : Member → Word
    word_in (lexeme v) = v
    word_in (call k ms) = (Opens, 0)
plain_replays done w before plain place h (x ∷ xs) n last e two =
    let first : lexeme w ≡ x = head_is _ _ _ _ e in
    let P : Member → Type 0 = λ y. Replay (done ++ w ∷ []) (y ∷ xs) n last in
    subst P first (plain_replay done w xs n last plain (h xs n last (tail_is _ _ _ _ e) two))

-- ---- all lexemes

abbrev Makes : List Word → List Word → Type 0
Makes all ws = (done : List Word) (before : List Member) → all ≡ done ++ ws → Replays done before → AllMade all before
    → end_of 0 before ≡ total_width done → AllMade all (reduced_onto before ws)

place_after : (done : List Word) (w : Word) (before : List Member) → end_of 0 before ≡ total_width done
    → end_of 0 (with_word w before) ≡ total_width (done ++ w ∷ [])
place_after done w before place = omega (arith, word_width w before, place, total_append done (w ∷ []))

makes_plain : (all : List Word) (w : Word) (ws : List Word) → ((xs : List Member) → with_word w xs ≡ lexeme w ∷ xs) → Makes all ws → Makes all (w ∷ ws)
makes_plain all w ws plain h = λ done before is replays made place.
    let R : List Member → Type 0 = λ xs. Replays (done ++ w ∷ []) xs in
    let M : List Member → Type 0 = λ xs. AllMade all xs in
    h (done ++ w ∷ []) (with_word w before) (is ∙ sym (append_assoc done (w ∷ []) ws))
    (subst R (sym (plain before)) (plain_replays done w before plain place replays)) (subst M (sym (plain before)) (tt, made))
    (place_after done w before place)

makes_shut : (all : List Word) (n : ℕ) (ws : List Word) → Makes all ws → Makes all ((Closes, n) ∷ ws)
makes_shut all n ws h = λ done before is replays made place.
    let x = again n rewritten (n, before) in
    let t = taking_all n all done ws n n before is (record { parts = begun done n before replays; made = made; most = omega arith }) in
    let stuck = fixed_by n n before (omega arith) (lowered n before) in
    h (done ++ (Closes, n) ∷ []) (closed_by n before) (is ∙ sym (append_assoc done ((Closes, n) ∷ []) ws))
    (shut_replays done n x.0 x.1 stuck t.parts) (made_over all Closes x.0 x.1 t.made) (place_after done (Closes, n) before place)

makes : (all ws : List Word) → Makes all ws
makes all [] = λ done before is replays made place. made
makes all ((Chars, n) ∷ ws) = makes_plain all (Chars, n) ws (λ xs. refl) (makes all ws)
makes all ((CommentLine, n) ∷ ws) = makes_plain all (CommentLine, n) ws (λ xs. refl) (makes all ws)
makes all ((Comment, n) ∷ ws) = makes_plain all (Comment, n) ws (λ xs. refl) (makes all ws)
makes all ((Raw, n) ∷ ws) = makes_plain all (Raw, n) ws (λ xs. refl) (makes all ws)
makes all ((Include, n) ∷ ws) = makes_plain all (Include, n) ws (λ xs. refl) (makes all ws)
makes all ((Hidden, n) ∷ ws) = makes_plain all (Hidden, n) ws (λ xs. refl) (makes all ws)
makes all ((Entity c, n) ∷ ws) = makes_plain all (Entity c, n) ws (λ xs. refl) (makes all ws)
makes all ((Opens, n) ∷ ws) = makes_plain all (Opens, n) ws (λ xs. refl) (makes all ws)
makes all ((Closes, n) ∷ ws) = makes_shut all n ws (makes all ws)
makes all ((LinkOpen, n) ∷ ws) = makes_plain all (LinkOpen, n) ws (λ xs. refl) (makes all ws)
makes all ((LinkClose, n) ∷ ws) = makes_plain all (LinkClose, n) ws (λ xs. refl) (makes all ws)
makes all ((Pipe, n) ∷ ws) = makes_plain all (Pipe, n) ws (λ xs. refl) (makes all ws)
makes all ((Equals, n) ∷ ws) = makes_plain all (Equals, n) ws (λ xs. refl) (makes all ws)

no_replay : Replays [] []
no_replay [] n rest e two = absurd cc
no_replay (x ∷ inside) n rest e two = absurd cc

-- each call of a text is made of its own lexemes alone
pub calls_are_made : (ws : List Word) → AreMade ws 0 (members (reduced ws))
calls_are_made ws =
    let all = makes ws ws [] [] refl no_replay tt refl in
    let whole : reduced_onto [] ws ++ [] ≡ reduced_onto [] ws = append-nil (reduced_onto [] ws) in
    let P : List Member → Type 0 = λ xs. AreMade ws 0 (members xs) in
    subst P (sym (reduced_is ws)) (made_inside ws (reduced_onto [] ws) [] (subst (AllMade ws) (sym whole) all))

-- How far tables go, by depth.
use Rattle.std.proofs.Common.{◌≡◌, ◌≤◌, ℕ, zero, suc, ◌+◌, ◌-◌, ◌==◌, Bool, true, false, List, [], ◌∷◌, length, take, refl, ap, ◌∙◌, cond, arith}
use Rattle.std.specs.Prelude.{not, min}
use Rattle.std.specs.List.{count_by, position_or_len, range_with_len}
use Rattle.std.proofs.lemmas.Bool.Decides.{nat_tests}
use Rattle.std.proofs.lemmas.List.Sums.{sum_by-cons}
use Rattle.wt_lines.specs.declared.kind.LineKind.{LineKind}
use Rattle.wt_lines.specs.declared.kind.LineKind.TheVariants as kind
use Rattle.wt_tables.specs.Extents.{is_open, is_end, closes, inner_len}

-- ---- by depth

-- how many lines up to and with the one behind which fewer tables are open than before them, where `d` are open among them
abbrev pub after_line : LineKind → ℕ → (ℕ → ℕ) → ℕ
after_line kind.Blank d go = suc (go d)
after_line kind.TableOpen d go = suc (go (suc d))
after_line kind.TableEnd zero go = 1
after_line kind.TableEnd (suc d) go = suc (go d)
after_line kind.Caption d go = suc (go d)
after_line kind.Row d go = suc (go d)
after_line kind.Cell d go = suc (go d)
after_line kind.Header d go = suc (go d)
after_line kind.Heading d go = suc (go d)
after_line kind.Rule d go = suc (go d)
after_line kind.List d go = suc (go d)
after_line kind.Pre d go = suc (go d)
after_line kind.Text d go = suc (go d)

abbrev pub depth_len : List LineKind → ℕ → ℕ
depth_len [] d = 0
depth_len (k ∷ ks) d = after_line k d (depth_len ks)

-- ---- by counts

-- the test, where `e` lines before these end a table and `o` open one
abbrev closes_from : ℕ → ℕ → List LineKind → ℕ → Bool
closes_from e o ks k = (e + count_by is_end (take (suc k) ks)) == suc (o + count_by is_open (take (suc k) ks))

abbrev one : Bool → ℕ
one b = cond b 1 0

further : (e o : ℕ) (x : LineKind) (ks : List LineKind) (k : ℕ) → closes_from e o (x ∷ ks) (suc k) ≡ closes_from (e + one (is_end x)) (o + one (is_open x)) ks k
further e o x ks k =
    let a = count_by is_end (take (suc k) ks) in
    let b = count_by is_open (take (suc k) ks) in
    let p : e + count_by is_end (take (suc (suc k)) (x ∷ ks)) ≡ (e + one (is_end x)) + a =
    omega (arith, sum_by-cons (λ y. cond (is_end y) 1 0) x (take (suc k) ks)) in
    let q : o + count_by is_open (take (suc (suc k)) (x ∷ ks)) ≡ (o + one (is_open x)) + b =
    omega (arith, sum_by-cons (λ y. cond (is_open y) 1 0) x (take (suc k) ks)) in
    ap (λ (n : ℕ). n == suc (o + count_by is_open (take (suc (suc k)) (x ∷ ks)))) p ∙ ap (λ (n : ℕ). ((e + one (is_end x)) + a) == suc n) q

at_once : (e o : ℕ) (x : LineKind) (ks : List LineKind) → closes_from e o (x ∷ ks) 0 ≡ ((e + one (is_end x)) == suc (o + one (is_open x)))
at_once e o x ks =
    let p : e + count_by is_end (take 1 (x ∷ ks)) ≡ e + one (is_end x) = omega (arith, sum_by-cons (λ y. cond (is_end y) 1 0) x []) in
    let q : o + count_by is_open (take 1 (x ∷ ks)) ≡ o + one (is_open x) = omega (arith, sum_by-cons (λ y. cond (is_open y) 1 0) x []) in
    ap (λ (n : ℕ). n == suc (o + count_by is_open (take 1 (x ∷ ks)))) p ∙ ap (λ (n : ℕ). (e + one (is_end x)) == suc n) q

pub shifted : (p q : ℕ → Bool) (a n : ℕ) → ((k : ℕ) → p (suc k) ≡ q k) → position_or_len p (range_with_len (suc a) n) ≡ position_or_len q (range_with_len a n)
shifted p q a zero h = refl
shifted p q a (suc n) h =
    let e : suc a + 1 ≡ suc (a + 1) = omega arith in
    let more = ap (λ (b : ℕ). position_or_len p (range_with_len b n)) e ∙ shifted p q (a + 1) n h in
    ap (λ (t : Bool). cond (not t) (1 + position_or_len p (range_with_len (suc a + 1) n)) 0) (h a) ∙ ap (λ (m : ℕ). cond (not (q a)) (1 + m) 0) more

abbrev found : (ℕ → Bool) → ℕ → ℕ
found p n = min (suc (position_or_len p (range_with_len 0 n))) n

found_by : (t : Bool) (p q : ℕ → Bool) (n m : ℕ) → p 0 ≡ t → ((k : ℕ) → p (suc k) ≡ q k) → found q n ≡ m → found p (suc n) ≡ cond t 1 (suc m)
found_by true p q n m e h is = rw e (omega arith)
found_by false p q n m e h is =
    let s : position_or_len p (range_with_len (0 + 1) n) ≡ position_or_len q (range_with_len 0 n) = shifted p q 0 n h in
    rw e (omega (arith, s, is))

other_step : (e o d : ℕ) (go : ℕ → ℕ) → e + d ≡ o → cond ((e + 0) == suc (o + 0)) 1 (suc (go ((o + 0) - (e + 0)))) ≡ suc (go d)
other_step e o d go h =
    let t : ((e + 0) == suc (o + 0)) ≡ false = grind (arith, nat_tests) in
    let s : (o + 0) - (e + 0) ≡ d = omega arith in rw t (ap (λ (n : ℕ). suc (go n)) s)

step_by : (k : LineKind) (e o d : ℕ) (go : ℕ → ℕ) → e + d ≡ o
    → cond ((e + one (is_end k)) == suc (o + one (is_open k))) 1 (suc (go ((o + one (is_open k)) - (e + one (is_end k))))) ≡ after_line k d go
step_by kind.TableEnd e o zero go h =
    let t : ((e + 1) == suc (o + 0)) ≡ true = grind (arith, nat_tests) in rw t refl
step_by kind.TableEnd e o (suc d) go h =
    let t : ((e + 1) == suc (o + 0)) ≡ false = grind (arith, nat_tests) in
    let s : (o + 0) - (e + 1) ≡ d = omega arith in rw t (ap (λ (n : ℕ). suc (go n)) s)
step_by kind.TableOpen e o d go h =
    let t : ((e + 0) == suc (o + 1)) ≡ false = grind (arith, nat_tests) in
    let s : (o + 1) - (e + 0) ≡ suc d = omega arith in rw t (ap (λ (n : ℕ). suc (go n)) s)
step_by kind.Blank e o d go h = other_step e o d go h
step_by kind.Caption e o d go h = other_step e o d go h
step_by kind.Row e o d go h = other_step e o d go h
step_by kind.Cell e o d go h = other_step e o d go h
step_by kind.Header e o d go h = other_step e o d go h
step_by kind.Heading e o d go h = other_step e o d go h
step_by kind.Rule e o d go h = other_step e o d go h
step_by kind.List e o d go h = other_step e o d go h
step_by kind.Pre e o d go h = other_step e o d go h
step_by kind.Text e o d go h = other_step e o d go h

-- a depth that doesn't go below
still : (k : LineKind) (e o : ℕ) → e ≤ o → ((e + one (is_end k)) == suc (o + one (is_open k))) ≡ false → e + one (is_end k) ≤ o + one (is_open k)
still kind.TableEnd e o h t = grind (arith, nat_tests)
still kind.TableOpen e o h t = omega arith
still kind.Blank e o h t = omega arith
still kind.Caption e o h t = omega arith
still kind.Row e o h t = omega arith
still kind.Cell e o h t = omega arith
still kind.Header e o h t = omega arith
still kind.Heading e o h t = omega arith
still kind.Rule e o h t = omega arith
still kind.List e o h t = omega arith
still kind.Pre e o h t = omega arith
still kind.Text e o h t = omega arith

pub counted_by : (t : Bool) (e o : ℕ) (k : LineKind) (ks : List LineKind) → e ≤ o → ((e + one (is_end k)) == suc (o + one (is_open k))) ≡ t
    → ((e + one (is_end k) ≤ o + one (is_open k)) → found (closes_from (e + one (is_end k)) (o + one (is_open k)) ks) (length ks)
    ≡ depth_len ks ((o + one (is_open k)) - (e + one (is_end k))))
    → found (closes_from e o (k ∷ ks)) (suc (length ks)) ≡ cond t 1 (suc (depth_len ks ((o + one (is_open k)) - (e + one (is_end k)))))
counted_by true e o k ks h t go = found_by true (closes_from e o (k ∷ ks))
    (closes_from (e + one (is_end k)) (o + one (is_open k)) ks) (length ks) _ (at_once e o k ks ∙ t) (further e o k ks) refl
counted_by false e o k ks h t go = found_by false (closes_from e o (k ∷ ks))
    (closes_from (e + one (is_end k)) (o + one (is_open k)) ks) (length ks) _ (at_once e o k ks ∙ t) (further e o k ks)
    (go (still k e o h t))

pub counted : (e o : ℕ) (ks : List LineKind) → e ≤ o → found (closes_from e o ks) (length ks) ≡ depth_len ks (o - e)
counted e o [] h = omega arith
counted e o (k ∷ ks) h =
    let d : e + (o - e) ≡ o = omega arith in
    counted_by _ e o k ks h refl (counted (e + one (is_end k)) (o + one (is_open k)) ks) ∙ step_by k e o (o - e) (depth_len ks) d

pub same_test : (p q : ℕ → Bool) (xs : List ℕ) → ((k : ℕ) → p k ≡ q k) → position_or_len p xs ≡ position_or_len q xs
same_test p q [] h = refl
same_test p q (x ∷ xs) h = ap (λ (t : Bool). cond (not t) (1 + position_or_len p xs) 0) (h x) ∙ ap (λ (m : ℕ). cond (not (q x)) (1 + m) 0) (same_test p q xs h)

plain_test : (ks : List LineKind) (k : ℕ) → closes ks k ≡ closes_from 0 0 ks k
plain_test ks k =
    let a = count_by is_end (take (suc k) ks) in
    let b = count_by is_open (take (suc k) ks) in
    let p : a ≡ 0 + a = omega arith in
    let q : b ≡ 0 + b = omega arith in
    ap (λ (n : ℕ). n == suc b) p ∙ ap (λ (n : ℕ). (0 + a) == suc n) q

pub inner_is : (ks : List LineKind) → inner_len ks ≡ depth_len ks 0
unfolding inner_len
inner_is ks = ap (λ (m : ℕ). min (suc m) (length ks))
    (same_test (closes ks) (closes_from 0 0 ks) (range_with_len 0 (length ks)) (plain_test ks)) ∙ counted 0 0 ks (omega arith)

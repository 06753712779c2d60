-- Where tokens end, by a machine that knows no more than tags, values, escapes and characters: no token
-- begins another one, so what is held of bytes is one number.
use Rattle.std.proofs.Common.{◌≡◌, ℕ, zero, suc, ◌+◌, ◌<◌, Option, Some, None, List, [], ◌∷◌, ◌++◌, length, refl, sym, ap, ◌∙◌, subst, nat_lt, length-append, arith}
use Rattle.std.specs.Prelude.{◌==◌, if◌then◌else◌}
use Rattle.wt_html_grammar.specs.Signs.{Follow, follow}

pub data Scan : Type 0 where
  outside : Scan
  in_tag : Scan
  in_value : ℕ → Scan
  in_escape : Scan
  in_wide : ℕ → Scan

abbrev pub wide_of : Option Follow → Scan
wide_of None = outside
wide_of (Some f) = in_wide f.more

abbrev pub scan : Scan → ℕ → Scan
scan outside b = if b == 60 then in_tag else if b == 38 then in_escape else if nat_lt b 128 then outside else wide_of (follow b)
scan in_tag b = if b == 62 then outside else if b == 34 then in_value 34 else if b == 39 then in_value 39 else in_tag
scan (in_value q) b = if b == q then in_tag else in_value q
scan in_escape b = if b == 59 then outside else in_escape
scan (in_wide zero) b = outside
scan (in_wide (suc n)) b = in_wide n

-- how many bytes came since it was outside
abbrev pub counted : Scan → ℕ → List ℕ → ℕ
counted outside k [] = 0
counted in_tag k [] = k
counted (in_value q) k [] = k
counted in_escape k [] = k
counted (in_wide n) k [] = k
counted outside k (b ∷ bs) = counted (scan outside b) 1 bs
counted in_tag k (b ∷ bs) = counted (scan in_tag b) (suc k) bs
counted (in_value q) k (b ∷ bs) = counted (scan (in_value q) b) (suc k) bs
counted in_escape k (b ∷ bs) = counted (scan in_escape b) (suc k) bs
counted (in_wide n) k (b ∷ bs) = counted (scan (in_wide n) b) (suc k) bs

abbrev pub IsIn : Scan → Type 0
IsIn outside = ⊥
IsIn m = Unit {0}

-- it comes outside at the end of these bytes, and not before
abbrev pub Closes : Scan → List ℕ → Type 0
Closes outside bs = bs ≡ []
Closes in_tag [] = ⊥
Closes (in_value q) [] = ⊥
Closes in_escape [] = ⊥
Closes (in_wide n) [] = ⊥
Closes in_tag (b ∷ bs) = Closes (scan in_tag b) bs
Closes (in_value q) (b ∷ bs) = Closes (scan (in_value q) b) bs
Closes in_escape (b ∷ bs) = Closes (scan in_escape b) bs
Closes (in_wide n) (b ∷ bs) = Closes (scan (in_wide n) b) bs

-- these bytes lead from one to the other, and never outside
abbrev pub Leads : Scan → List ℕ → Scan → Type 0
Leads m [] o = (m ≡ o) × IsIn m
Leads m (b ∷ bs) o = IsIn m × Leads (scan m b) bs o

-- the bytes of one token
abbrev pub IsOne : List ℕ → Type 0
IsOne [] = ⊥
IsOne (b ∷ bs) = Closes (scan outside b) bs

-- the bytes of a token that isn't whole
abbrev pub IsOpen : List ℕ → Type 0
IsOpen [] = ⊥
IsOpen (b ∷ bs) = (o : Scan) × Leads (scan outside b) bs o

closes_step : (m : Scan) (b : ℕ) (bs : List ℕ) → IsIn m → Closes (scan m b) bs → Closes m (b ∷ bs)
closes_step outside b bs i h = absurd i
closes_step in_tag b bs i h = h
closes_step (in_value q) b bs i h = h
closes_step in_escape b bs i h = h
closes_step (in_wide n) b bs i h = h

counted_step : (m : Scan) (k b : ℕ) (bs : List ℕ) → IsIn m → counted m k (b ∷ bs) ≡ counted (scan m b) (suc k) bs
counted_step outside k b bs i = absurd i
counted_step in_tag k b bs i = refl
counted_step (in_value q) k b bs i = refl
counted_step in_escape k b bs i = refl
counted_step (in_wide n) k b bs i = refl

counted_none : (m : Scan) (k : ℕ) → IsIn m → counted m k [] ≡ k
counted_none outside k i = absurd i
counted_none in_tag k i = refl
counted_none (in_value q) k i = refl
counted_none in_escape k i = refl
counted_none (in_wide n) k i = refl

-- one after the other
pub leads_then : (m : Scan) (xs : List ℕ) (o : Scan) (ys : List ℕ) (p : Scan) → Leads m xs o → Leads o ys p → Leads m (xs ++ ys) p
leads_then m [] o ys p h g = let P : Scan → Type 0 = λ n. Leads n ys p in subst P (sym h.0) g
leads_then m (b ∷ bs) o ys p h g = (h.0, leads_then (scan m b) bs o ys p h.1 g)

pub closes_then : (m : Scan) (xs : List ℕ) (o : Scan) (ys : List ℕ) → Leads m xs o → Closes o ys → Closes m (xs ++ ys)
closes_then m [] o ys h g = let P : Scan → Type 0 = λ n. Closes n ys in subst P (sym h.0) g
closes_then m (b ∷ bs) o ys h g = closes_step m b (bs ++ ys) h.0 (closes_then (scan m b) bs o ys h.1 g)

leads_some : (m : Scan) (bs : List ℕ) (o : Scan) (k : ℕ) → Leads m bs o → 0 < k → 0 < counted m k bs
leads_some m [] o k h lt = omega (arith, counted_none m k h.1, lt)
leads_some m (b ∷ bs) o k h lt = omega (arith, counted_step m k b bs h.0, leads_some (scan m b) bs o (suc k) h.1 (omega arith))

pub open_some : (bs : List ℕ) → IsOpen bs → 0 < counted outside 0 bs
open_some [] h = absurd h
open_some (b ∷ bs) h = leads_some (scan outside b) bs h.0 1 h.1 (omega arith)

outside_any : (k : ℕ) (bs : List ℕ) → counted outside k bs ≡ counted outside 0 bs
outside_any k [] = refl
outside_any k (b ∷ bs) = refl

nil_front : (bs rest : List ℕ) (k : ℕ) → bs ≡ [] → counted outside k (bs ++ rest) ≡ counted outside 0 rest
nil_front bs rest k e = ap (λ xs. counted outside k (xs ++ rest)) e ∙ outside_any k rest

closed_counted : (m : Scan) (bs rest : List ℕ) (k : ℕ) → Closes m bs → counted m k (bs ++ rest) ≡ counted outside 0 rest
closed_counted outside bs rest k h = nil_front bs rest k h
closed_counted in_tag [] rest k h = absurd h
closed_counted (in_value q) [] rest k h = absurd h
closed_counted in_escape [] rest k h = absurd h
closed_counted (in_wide n) [] rest k h = absurd h
closed_counted in_tag (b ∷ bs) rest k h = closed_counted (scan in_tag b) bs rest (suc k) h
closed_counted (in_value q) (b ∷ bs) rest k h = closed_counted (scan (in_value q) b) bs rest (suc k) h
closed_counted in_escape (b ∷ bs) rest k h = closed_counted (scan in_escape b) bs rest (suc k) h
closed_counted (in_wide n) (b ∷ bs) rest k h = closed_counted (scan (in_wide n) b) bs rest (suc k) h

-- a whole token leaves nothing
pub one_counted : (bs rest : List ℕ) → IsOne bs → counted outside 0 (bs ++ rest) ≡ counted outside 0 rest
one_counted [] rest h = absurd h
one_counted (b ∷ bs) rest h = closed_counted (scan outside b) bs rest 1 h

begun_in : (m : Scan) (bs more : List ℕ) → Closes m (bs ++ more) → 0 < length more → IsIn m
begun_in outside bs more h lt = absurd (omega (arith, ap length h, length-append bs more, lt))
begun_in in_tag bs more h lt = tt
begun_in (in_value q) bs more h lt = tt
begun_in in_escape bs more h lt = tt
begun_in (in_wide n) bs more h lt = tt

closes_on : (m : Scan) (b : ℕ) (bs : List ℕ) → IsIn m → Closes m (b ∷ bs) → Closes (scan m b) bs
closes_on outside b bs i h = absurd i
closes_on in_tag b bs i h = h
closes_on (in_value q) b bs i h = h
closes_on in_escape b bs i h = h
closes_on (in_wide n) b bs i h = h

begun_counted : (m : Scan) (bs more : List ℕ) (k : ℕ) → Closes m (bs ++ more) → 0 < length more → counted m k bs ≡ k + length bs
begun_counted m [] more k h lt = omega (arith, counted_none m k (begun_in m [] more h lt))
begun_counted m (b ∷ bs) more k h lt =
    let i = begun_in m (b ∷ bs) more h lt in
    omega (arith, counted_step m k b bs i, begun_counted (scan m b) bs more (suc k) (closes_on m b (bs ++ more) i h) lt)

-- all of a token that isn't whole is counted
pub part_counted : (bs more : List ℕ) → IsOne (bs ++ more) → 0 < length more → counted outside 0 bs ≡ length bs
part_counted [] more h lt = refl
part_counted (b ∷ bs) more h lt = omega (arith, begun_counted (scan outside b) bs more 1 h lt)

-- with each byte it is one more, or none
pub data OneMore (k j : ℕ) : Type 0 where
  over : j ≡ 0 → OneMore k j
  grown : j ≡ suc k → OneMore k j

last_counted : (m : Scan) (k : ℕ) → OneMore k (counted m (suc k) [])
last_counted outside k = over refl
last_counted in_tag k = grown refl
last_counted (in_value q) k = grown refl
last_counted in_escape k = grown refl
last_counted (in_wide n) k = grown refl

pub push_counted : (m : Scan) (k : ℕ) (bs : List ℕ) (b : ℕ) → OneMore (counted m k bs) (counted m k (bs ++ b ∷ []))
push_counted outside k [] b = last_counted (scan outside b) 0
push_counted in_tag k [] b = last_counted (scan in_tag b) k
push_counted (in_value q) k [] b = last_counted (scan (in_value q) b) k
push_counted in_escape k [] b = last_counted (scan in_escape b) k
push_counted (in_wide n) k [] b = last_counted (scan (in_wide n) b) k
push_counted outside k (c ∷ cs) b = push_counted (scan outside c) 1 cs b
push_counted in_tag k (c ∷ cs) b = push_counted (scan in_tag c) (suc k) cs b
push_counted (in_value q) k (c ∷ cs) b = push_counted (scan (in_value q) c) (suc k) cs b
push_counted in_escape k (c ∷ cs) b = push_counted (scan in_escape c) (suc k) cs b
push_counted (in_wide n) k (c ∷ cs) b = push_counted (scan (in_wide n) c) (suc k) cs b

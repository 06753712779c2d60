-- A heading's level, and the two runs of so many `=` round what is between them.
use Rattle.std.proofs.Common.{arith, ◌≡◌, ℕ, zero, suc, ◌+◌, ◌-◌, ◌<◌, ◌≤◌, ◌==◌, Bool, true, false, not, List, [], ◌∷◌, ◌++◌, length, take, refl, sym, ap, ◌∙◌, subst, append-nil, append_assoc, length-append, nat_lt, codes}
use Rattle.std.specs.Prelude.{◌/◌, ◌&&◌, ◌||◌, if◌then◌else◌, min, reverse}
use Rattle.std.specs.Option.{unwrap_or}
use Rattle.std.specs.List.{prefix_len}
use Rattle.std.proofs.Math.Seq.{take-append_seam}
use Rattle.std.proofs.lemmas.Bool.{eqb-true}
use Rattle.std.proofs.lemmas.Bool.Decides.{nat_tests}
use Rattle.wt_span.specs.Bytes.{begins}
use Rattle.wt_lex.proofs.Begins.{begins_get, begins_len, and_left, and_right}
use Rattle.wt_lines.specs.declared.kind.LineKind.{LineKind}
use Rattle.wt_lines.specs.declared.kind.LineKind.TheVariants as line
use Rattle.wt_lines.specs.declared.kind.TheConstants.{MOST_TABLES}
use Rattle.wt_lines.specs.Kinds.{is_mark_sign, is_idle, past, is_idle_all, is_alone, is_heading, is_list, first_of, open_kind, table_rows, text_rows, rows, kind_of_signs}
use Rattle.wt_blocks.specs.Headings.{equals as equals_len, core, level_of}
use Rattle.wt_text_edit_laws.specs.TypedHeadings.{equals}
use Rattle.wt_text_edit_laws.proofs.Headings.HeadingSigns.{body_signs}
use Rattle.wt_called_edit_laws.proofs.Told.Signs.{AllPass, StopsLast, cut_back, back_len, past_back, past_every, run_length, run_back, run_more, run_less, first_run, last_run, runs_apart}

-- ---- a line of this kind passes the test of a heading

skip : (v : Bool) (k : LineKind) (rs : List (Bool × LineKind)) → (k ≡ line.Heading → ⊥) → unwrap_or (first_of ((v, k) ∷ rs)) line.Text ≡ line.Heading
    → unwrap_or (first_of rs) line.Text ≡ line.Heading
skip true k rs other e = absurd (other e)
skip false k rs other e = e

open_no : (tables : ℕ) → open_kind tables ≡ line.Heading → ⊥
open_no tables e = by (nat_lt tables MOST_TABLES) e
  where
    by : (v : Bool) → (if v then line.TableOpen else line.Text) ≡ line.Heading → ⊥
    by true f = cc
    by false f = cc

past_tables : (t : Bool) (signs first last : List ℕ)
    → unwrap_or (first_of ((if t then table_rows signs else []) ++ text_rows first last)) line.Text ≡ line.Heading
    → unwrap_or (first_of (text_rows first last)) line.Text ≡ line.Heading
past_tables false signs first last e = e
past_tables true signs first last e =
    let texts : List (Bool × LineKind) = text_rows first last in
    let header : List (Bool × LineKind) = (begins (codes "!") signs, line.Header) ∷ texts in
    let cell : List (Bool × LineKind) = (begins (codes "|") signs, line.Cell) ∷ header in
    let row : List (Bool × LineKind) = (begins (codes "|-") signs, line.Row) ∷ cell in
    let caption : List (Bool × LineKind) = (begins (codes "|+") signs, line.Caption) ∷ row in
    let past_end = skip (begins (codes "|}") signs) line.TableEnd caption (λ z. cc) e in
    let past_caption = skip (begins (codes "|+") signs) line.Caption row (λ z. cc) past_end in
    let past_row = skip (begins (codes "|-") signs) line.Row cell (λ z. cc) past_caption in
    let past_cell = skip (begins (codes "|") signs) line.Cell header (λ z. cc) past_row in
    skip (begins (codes "!") signs) line.Header texts (λ z. cc) past_cell

text_heading : (h r l p : Bool)
    → unwrap_or (first_of ((h, line.Heading) ∷ (r, line.Rule) ∷ (l, line.List) ∷ (p, line.Pre) ∷ [])) line.Text ≡ line.Heading → h ≡ true
text_heading true r l p e = refl
text_heading false true l p e = absurd (cc)
text_heading false false true p e = absurd (cc)
text_heading false false false true e = absurd (cc)
text_heading false false false false e = absurd (cc)

heading_by : (tables : ℕ) (signs first last : List ℕ) → unwrap_or (first_of (rows tables signs first last)) line.Text ≡ line.Heading
    → is_heading first last ≡ true
heading_by tables signs first last e =
    let tabled : List (Bool × LineKind) = (if nat_lt 0 tables then table_rows signs else []) ++ text_rows first last in
    let opened : List (Bool × LineKind) = (begins (codes "{|") signs, open_kind tables) ∷ tabled in
    let past_blank = skip (length signs == 0) line.Blank opened (λ z. cc) e in
    let past_open = skip (begins (codes "{|") signs) (open_kind tables) tabled (open_no tables) past_blank in
    text_heading (is_heading first last) (begins (codes "----") first) (is_list first) (begins (codes " ") first)
    (past_tables (nat_lt 0 tables) signs first last past_open)

heading_kind : (tables : ℕ) (ss : List ℕ) → kind_of_signs tables ss ≡ line.Heading → is_heading (past is_mark_sign ss) (past is_idle (reverse ss)) ≡ true
unfolding kind_of_signs
heading_kind tables ss e = heading_by tables (past is_idle ss) (past is_mark_sign ss) (past is_idle (reverse ss)) e

-- ---- it begins with `=`, and ends with `=`

record BeginsEqual (ss : List ℕ) : Type 0 where
  more : List ℕ
  is : ss ≡ 61 ∷ more

begins_equal : (ss : List ℕ) → begins (codes "=") ss ≡ true → BeginsEqual ss
begins_equal [] e = let le = begins_len (codes "=") [] e in absurd (omega (arith, le))
begins_equal (s ∷ ss) e =
    let is : s ≡ 61 = begins_get (codes "=") (s ∷ ss) e 0 (omega arith) in
    record { more = ss; is = ap (λ (t : ℕ). t ∷ ss) is }

some_equal : (ss more : List ℕ) → ss ≡ 61 ∷ more → 1 ≤ equals_len ss
some_equal ss more e = let n : equals_len ss ≡ equals_len (61 ∷ more) = ap equals_len e in omega (arith, n)

unmarked_past : (ss : List ℕ) → begins (codes "=") ss ≡ true → past is_mark_sign ss ≡ ss
unmarked_past ss e =
    let b = begins_equal ss e in ap (past is_mark_sign) b.is ∙ sym b.is

-- of `=` alone it is three at least
not_alone : (front back : List ℕ) → AllPass is_idle back → not (is_alone (codes "=") (front ++ back) || is_alone (codes "==") (front ++ back)) ≡ true
    → (n : ℕ) → front ≡ equals n → 1 ≤ n → 3 ≤ n
not_alone front back h e zero is le = absurd (omega (arith, le))
not_alone front back h e (suc zero) is le = absurd (one (ap (λ (ss : List ℕ). not (is_alone (codes "=") (ss ++ back) || is_alone (codes "==") (ss ++ back))) is))
  where
    idle : is_idle_all back ≡ true
    idle = ap (λ (ss : List ℕ). length ss == 0) (past_every is_idle back h)

    one : not (is_alone (codes "=") (front ++ back) || is_alone (codes "==") (front ++ back)) ≡ not (is_idle_all back || is_alone (codes "==") (61 ∷ back)) → ⊥
    one f = let z : true ≡ false = sym e ∙ f ∙ ap (λ (v : Bool). not (v || is_alone (codes "==") (61 ∷ back))) idle in cc
not_alone front back h e (suc (suc zero)) is le = absurd (two (ap (λ (ss : List ℕ). not (is_alone (codes "=") (ss ++ back) || is_alone (codes "==") (ss ++ back))) is))
  where
    idle : is_idle_all back ≡ true
    idle = ap (λ (ss : List ℕ). length ss == 0) (past_every is_idle back h)

    none : (v : Bool) → not (v || true) ≡ false
    none true = refl
    none false = refl

    two : not (is_alone (codes "=") (front ++ back) || is_alone (codes "==") (front ++ back)) ≡ not (is_alone (codes "=") (61 ∷ 61 ∷ back) || is_idle_all back) → ⊥
    two f =
        let z : true ≡ false = sym e ∙ f ∙ ap (λ (v : Bool). not (is_alone (codes "=") (61 ∷ 61 ∷ back) || v)) idle ∙ none (is_alone (codes "=") (61 ∷ 61 ∷ back)) in cc
not_alone front back h e (suc (suc (suc n))) is le = omega arith

-- ---- the level

record Facts (a b n l : ℕ) : Type 0 where
  front_le : l ≤ a
  back_le : l ≤ b
  apart : l + l < n
  some : 1 ≤ l
  most : l ≤ 6

record AllEqual (a b n : ℕ) : Type 0 where
  first : a ≡ n
  last : b ≡ n
  three : 3 ≤ n

facts_by : (v : Bool) (a b n : ℕ) → (v ≡ true → AllEqual a b n) → (v ≡ false → a + b < n) → 1 ≤ a → 1 ≤ b
    → Facts a b n (if v then min 6 ((n - 1) / 2) else min 6 (min a b))
facts_by true a b n h g x y =
    let t : AllEqual a b n = h refl in
    let p : a ≡ n = t.first in
    let q : b ≡ n = t.last in
    let r : 3 ≤ n = t.three in
    record {
      front_le = omega (arith, p, r);
      back_le = omega (arith, q, r);
      apart = omega (arith, r);
      some = omega (arith, r);
      most = omega arith;
    }
facts_by false a b n h g x y =
    let lt : a + b < n = g refl in
    record {
      front_le = omega arith;
      back_le = omega arith;
      apart = omega (arith, lt);
      some = omega (arith, x, y);
      most = omega arith;
    }

all_equal : (c : List ℕ) → (equals_len c == length c) ≡ true → c ≡ equals (length c)
all_equal c e =
    let n : equals_len c ≡ length c = eqb-true (equals_len c) (length c) e in
    let r = first_run c in
    by r.rest (r.is ∙ ap (λ (k : ℕ). equals k ++ r.rest) n)
  where
    by : (rest : List ℕ) → c ≡ equals (length c) ++ rest → c ≡ equals (length c)
    by [] is = is ∙ append-nil (equals (length c))
    by (t ∷ rest) is =
        let size : length c ≡ length (equals (length c) ++ t ∷ rest) = ap length is in
        absurd (omega (arith, size, length-append (equals (length c)) (t ∷ rest), run_length (length c)))

back_equal : (c : List ℕ) → c ≡ equals (length c) → equals_len (reverse c) ≡ equals_len c
back_equal c e = ap (λ (ss : List ℕ). equals_len (reverse ss)) e ∙ ap equals_len (run_back (length c)) ∙ ap equals_len (sym e)

level_facts : (c : List ℕ) → 1 ≤ equals_len c → 1 ≤ equals_len (reverse c) → ((n : ℕ) → c ≡ equals n → 1 ≤ n → 3 ≤ n)
    → Facts (equals_len c) (equals_len (reverse c)) (length c) (level_of c)
level_facts c x y three = facts_by (equals_len c == length c) (equals_len c) (equals_len (reverse c)) (length c) equal apart x y
  where
    equal : (equals_len c == length c) ≡ true → AllEqual (equals_len c) (equals_len (reverse c)) (length c)
    equal e =
        let n : equals_len c ≡ length c = eqb-true (equals_len c) (length c) e in
        let all : c ≡ equals (length c) = all_equal c e in
        record { first = n; last = back_equal c all ∙ n; three = three (length c) all (omega (arith, n, x)) }

    apart : (equals_len c == length c) ≡ false → equals_len c + equals_len (reverse c) < length c
    apart e = runs_apart c (λ f. let g : (equals_len c == length c) ≡ true = grind (arith, nat_tests, f) in let z : true ≡ false = sym g ∙ e in cc)

-- ---- the two runs

abbrev first_or : ℕ → List ℕ → ℕ
first_or s [] = s
first_or s (t ∷ ts) = t

abbrev others : List ℕ → List ℕ
others [] = []
others (t ∷ ts) = ts

front_within : (us f d w : List ℕ) → us ++ d ≡ f ++ w → length us ≤ length f → (mid : List ℕ) × (f ≡ us ++ mid)
front_within [] f d w e le = (f, refl)
front_within (u ∷ us) [] d w e le = absurd (omega (arith, le))
front_within (u ∷ us) (g ∷ f) d w e le =
    let first : u ≡ g = ap (first_or u) e in
    let rest : us ++ d ≡ f ++ w = ap others e in
    let m = front_within us f d w rest (omega (arith, le)) in
    (m.0, ap (λ (t : ℕ). t ∷ f) (sym first) ∙ ap (λ (ts : List ℕ). u ∷ ts) m.1)

both_runs : (n : ℕ) (c f d : List ℕ) → c ≡ equals n ++ d → c ≡ f ++ equals n → n + n < length c → (mid : List ℕ) × (c ≡ body_signs n mid)
both_runs n c f d first last lt =
    let size : length c ≡ length (f ++ equals n) = ap length last in
    let m = front_within (equals n) f d (equals n) (sym first ∙ last) (omega (arith, size, length-append f (equals n), run_length n, lt)) in
    (m.0, last ∙ ap (λ (ts : List ℕ). ts ++ equals n) m.1 ∙ append_assoc (equals n) m.0 (equals n))

pub record LevelCut (c : List ℕ) : Type 0 where
  pub mid : List ℕ
  pub is : c ≡ body_signs (level_of c) mid
  pub some : 1 ≤ level_of c
  pub most : level_of c ≤ 6

level_cut : (c : List ℕ) → Facts (equals_len c) (equals_len (reverse c)) (length c) (level_of c) → LevelCut c
level_cut c f =
    let l : ℕ = level_of c in
    let r = first_run c in
    let b = last_run c in
    let more = run_more l (equals_len c) f.front_le in
    let less = run_less l (equals_len (reverse c)) f.back_le in
    let first : c ≡ equals l ++ (equals more.0 ++ r.rest) =
    r.is ∙ ap (λ (ts : List ℕ). ts ++ r.rest) more.1 ∙ append_assoc (equals l) (equals more.0) r.rest in
    let last : c ≡ (b.0 ++ equals less.0) ++ equals l =
    b.1 ∙ ap (λ (ts : List ℕ). b.0 ++ ts) less.1 ∙ sym (append_assoc b.0 (equals less.0) (equals l)) in
    let m = both_runs l c (b.0 ++ equals less.0) (equals more.0 ++ r.rest) first last f.apart in
    record { mid = m.0; is = m.1; some = f.some; most = f.most }

-- ---- of a line

core_by : (ss cs : List ℕ) → prefix_len is_idle (reverse (ss ++ cs)) ≡ length cs → core (ss ++ cs) ≡ ss
core_by ss cs e =
    let m : length (ss ++ cs) - prefix_len is_idle (reverse (ss ++ cs)) ≡ length ss = omega (arith, e, length-append ss cs) in
    ap (λ (k : ℕ). take k (ss ++ cs)) m ∙ take-append_seam ss cs

-- up to its last `=`, and behind it
pub record CoreCut (ss : List ℕ) : Type 0 where
  pub idle : List ℕ
  pub is : ss ≡ core ss ++ idle
  pub pass : AllPass is_idle idle
  pub cut : LevelCut (core ss)

front_begins : (front back : List ℕ) → begins (codes "=") (front ++ back) ≡ true → (1 ≤ equals_len (reverse front)) → 1 ≤ equals_len front
front_begins [] back e le = absurd (omega (arith, le))
front_begins (s ∷ front) back e le =
    let is : s ≡ 61 = begins_get (codes "=") ((s ∷ front) ++ back) e 0 (omega arith) in
    some_equal (s ∷ front) front (ap (λ (t : ℕ). t ∷ front) is)

core_at : (tables : ℕ) (ss front back : List ℕ) → ss ≡ front ++ back → AllPass is_idle back → StopsLast is_idle front → begins (codes "=") ss ≡ true
    → kind_of_signs tables ss ≡ line.Heading → CoreCut ss
core_at tables ss front back is pass stops first k =
    let head : is_heading ss (past is_idle (reverse ss)) ≡ true =
    sym (ap (λ (ts : List ℕ). is_heading ts (past is_idle (reverse ss))) (unmarked_past ss first)) ∙ heading_kind tables ss k in
    let last : past is_idle (reverse ss) ≡ reverse front = ap (λ (ts : List ℕ). past is_idle (reverse ts)) is ∙ past_back is_idle front back pass stops in
    let all : is_heading (front ++ back) (reverse front) ≡ true =
    sym (ap (λ (ts : List ℕ). is_heading ts (past is_idle (reverse ss))) is ∙ ap (is_heading (front ++ back)) last) ∙ head in
    let alone : Bool = not (is_alone (codes "=") (front ++ back) || is_alone (codes "==") (front ++ back)) in
    let behind : (begins (codes "=") (reverse front) && alone) ≡ true =
    and_right (begins (codes "=") (front ++ back)) (begins (codes "=") (reverse front) && alone) all in
    let ends = begins_equal (reverse front) (and_left (begins (codes "=") (reverse front)) alone behind) in
    let back_some : 1 ≤ equals_len (reverse front) = some_equal (reverse front) ends.more ends.is in
    let front_some : 1 ≤ equals_len front =
    front_begins front back (sym (ap (begins (codes "=")) is) ∙ first) back_some in
    let facts = level_facts front front_some back_some
    (not_alone front back pass (and_right (begins (codes "=") (reverse front)) alone behind)) in
    let own : core ss ≡ front = ap core is ∙ core_by front back (back_len is_idle front back pass stops) in
    record {
      idle = back;
      is = is ∙ ap (λ (ts : List ℕ). ts ++ back) (sym own);
      pass = pass;
      cut = subst LevelCut (sym own) (level_cut front facts);
    }

pub core_cut : (tables : ℕ) (ss : List ℕ) → begins (codes "=") ss ≡ true → kind_of_signs tables ss ≡ line.Heading → CoreCut ss
core_cut tables ss first k = let c = cut_back is_idle ss in core_at tables ss c.front c.back c.is c.pass c.stops first k

-- What the kind of a line tells.
use Rattle.std.proofs.Common.{◌≡◌, ◌<◌, ℕ, Bool, true, false, Option, Some, None, List, [], ◌∷◌, ◌++◌, refl, ap, arith, nat_lt}
use Rattle.std.specs.Prelude.{◌&&◌, ◌==◌, not, map, reverse, length, codes, if◌then◌else◌}
use Rattle.std.specs.Option.{unwrap_or}
use Rattle.std.proofs.lemmas.Bool.Decides.{nat_tests}
use Rattle.std.specs.List.{list_all}
use Rattle.wt_span.specs.Bytes.{begins}
use Rattle.wt_span.specs.Items.{Item, sign}
use Rattle.wt_lines.specs.declared.kind.LineKind.{LineKind}
use Rattle.wt_lines.specs.declared.kind.LineKind.TheVariants as kind
use Rattle.wt_lines.specs.Kinds.{first_of, past, is_idle, is_mark_sign, table_rows, text_rows, line_kind, kind_of_signs}
use Rattle.wt_tables.specs.Extents.{is_open, is_end}

abbrev opens : Option LineKind → Bool
opens None = false
opens (Some k) = is_open k

none_by : (b : Bool) (k : LineKind) (o : Option LineKind) → is_open k ≡ false → opens o ≡ false → opens (if b then Some k else o) ≡ false
none_by true k o h n = h
none_by false k o h n = n

no_open : (b c : Bool) → (not b && c) ≡ true → b ≡ false
no_open true c h = absurd cc
no_open false c h = refl

others : (b c : Bool) → (not b && c) ≡ true → c ≡ true
others true c h = absurd cc
others false c h = h

none_opens : (rows : List (Bool × LineKind)) → list_all (λ r. not (is_open r.1)) rows ≡ true → opens (first_of rows) ≡ false
none_opens [] h = refl
none_opens ((b, k) ∷ rows) h = none_by b k (first_of rows) (no_open (is_open k) _ h) (none_opens rows (others (is_open k) _ h))

rest_rows : (t : Bool) (sign first last : List ℕ) → list_all (λ r. not (is_open r.1)) ((if t then table_rows sign else []) ++ text_rows first last) ≡ true
rest_rows true sign first last = refl
rest_rows false sign first last = refl

lt_of_test : (a b : ℕ) → nat_lt a b ≡ true → a < b
lt_of_test a b e = grind (arith, nat_tests)

open_of : (o : Option LineKind) → unwrap_or o kind.Text ≡ kind.TableOpen → opens o ≡ false → ⊥
open_of None e h = absurd cc
open_of (Some k) e h = let t : is_open k ≡ true = ap is_open e in cc

few_by : (blank few opening : Bool) (n : ℕ) (o : Option LineKind) → nat_lt n 16 ≡ few → opens o ≡ false
    → unwrap_or (if blank then Some kind.Blank else (if opening then Some (if few then kind.TableOpen else kind.Text) else o))
    kind.Text ≡ kind.TableOpen → n < 16
few_by true few opening n o f h e = absurd cc
few_by false true true n o f h e = lt_of_test n 16 f
few_by false false true n o f h e = absurd cc
few_by false true false n o f h e = absurd (open_of o e h)
few_by false false false n o f h e = absurd (open_of o e h)

pub open_few : (n : ℕ) (l : List Item) → line_kind n l ≡ kind.TableOpen → n < 16
unfolding kind_of_signs
open_few n l e =
    let s = past is_idle (map sign l) in
    let f = past is_mark_sign (map sign l) in
    let b = past is_idle (reverse (map sign l)) in
    let rows = (if nat_lt 0 n then table_rows s else []) ++ text_rows f b in
    few_by (length s == 0) (nat_lt n 16) (begins (codes "{|") s) n (first_of rows) refl (none_opens rows (rest_rows (nat_lt 0 n) s f b)) e

-- ---- only in a table a line ends one

abbrev ends_one : Option LineKind → Bool
ends_one None = false
ends_one (Some k) = is_end k

none_end_by : (b : Bool) (k : LineKind) (o : Option LineKind) → is_end k ≡ false → ends_one o ≡ false → ends_one (if b then Some k else o) ≡ false
none_end_by true k o h n = h
none_end_by false k o h n = n

none_ends : (rows : List (Bool × LineKind)) → list_all (λ r. not (is_end r.1)) rows ≡ true → ends_one (first_of rows) ≡ false
none_ends [] h = refl
none_ends ((b, k) ∷ rows) h = none_end_by b k (first_of rows) (no_open (is_end k) _ h) (none_ends rows (others (is_end k) _ h))

end_of_none : (o : Option LineKind) → unwrap_or o kind.Text ≡ kind.TableEnd → ends_one o ≡ false → ⊥
end_of_none None e h = absurd cc
end_of_none (Some k) e h = let t : is_end k ≡ true = ap is_end e in cc

inside_by : (t blank opening few : Bool) (n : ℕ) (sign first last : List ℕ) → nat_lt 0 n ≡ t
    → unwrap_or (first_of ((blank, kind.Blank) ∷ (opening, if few then kind.TableOpen else kind.Text)
    ∷ ((if t then table_rows sign else []) ++ text_rows first last))) kind.Text ≡ kind.TableEnd → 0 < n
inside_by true blank opening few n sign first last t e = lt_of_test 0 n t
inside_by false blank opening true n sign first last t e =
    let rows = (blank, kind.Blank) ∷ (opening, kind.TableOpen) ∷ text_rows first last in absurd (end_of_none (first_of rows) e (none_ends rows refl))
inside_by false blank opening false n sign first last t e =
    let rows = (blank, kind.Blank) ∷ (opening, kind.Text) ∷ text_rows first last in absurd (end_of_none (first_of rows) e (none_ends rows refl))

pub end_inside : (n : ℕ) (l : List Item) → line_kind n l ≡ kind.TableEnd → 0 < n
unfolding kind_of_signs
end_inside n l e =
    let s = past is_idle (map sign l) in
    let f = past is_mark_sign (map sign l) in
    let b = past is_idle (reverse (map sign l)) in
    inside_by (nat_lt 0 n) (length s == 0) (begins (codes "{|") s) (nat_lt n 16) n s f b refl e

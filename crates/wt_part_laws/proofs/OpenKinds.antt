-- A line begins a part of a table only where a table is open, and opens one only where fewer are open than may be.
use Rattle.std.proofs.Common.{arith, ◌≡◌, ◌<◌, ℕ, Bool, true, false, List, [], ◌∷◌, ◌++◌, refl}
use Rattle.std.specs.Prelude.{nat_lt, if◌then◌else◌}
use Rattle.std.specs.Option.{unwrap_or}
use Rattle.std.proofs.lemmas.Bool.Decides.{nat_tests}
use Rattle.wt_lines.specs.declared.kind.LineKind.{LineKind}
use Rattle.wt_lines.specs.declared.kind.LineKind.TheVariants as line
use Rattle.wt_lines.specs.declared.kind.TheConstants.{MOST_TABLES}
use Rattle.wt_lines.specs.Kinds.{first_of, open_kind, kind_of_signs}
use Rattle.wt_tables.specs.Parts.{begins_part}

open_part : (v : Bool) → begins_part (if v then line.TableOpen else line.Text) ≡ false
open_part true = refl
open_part false = refl

no_part_by : (a b c d e f : Bool) (k : LineKind) → begins_part k ≡ false
    → begins_part (unwrap_or (first_of ((a, line.Blank) ∷ (b, k) ∷ (c, line.Heading) ∷ (d, line.Rule) ∷ (e, line.List) ∷ (f, line.Pre) ∷ [])) line.Text) ≡ false
no_part_by true b c d e f k h = refl
no_part_by false true c d e f k h = h
no_part_by false false true d e f k h = refl
no_part_by false false false true e f k h = refl
no_part_by false false false false true f k h = refl
no_part_by false false false false false true k h = refl
no_part_by false false false false false false k h = refl

-- where no table is open
pub begins_none : (ss : List ℕ) → begins_part (kind_of_signs 0 ss) ≡ false
unfolding kind_of_signs
begins_none ss =
    no_part_by _ _ _ _ _ _ (open_kind 0) (open_part (nat_lt 0 MOST_TABLES))

open_only : (v : Bool) → (if v then line.TableOpen else line.Text) ≡ line.TableOpen → v ≡ true
open_only true e = refl
open_only false e = absurd (cc)

abbrev texts : Bool → Bool → Bool → Bool → LineKind
texts c d e f = unwrap_or (first_of ((c, line.Heading) ∷ (d, line.Rule) ∷ (e, line.List) ∷ (f, line.Pre) ∷ [])) line.Text

no_open : (c d e f : Bool) → texts c d e f ≡ line.TableOpen → ⊥
no_open true d e f h = absurd (cc)
no_open false true e f h = absurd (cc)
no_open false false true f h = absurd (cc)
no_open false false false true h = absurd (cc)
no_open false false false false h = absurd (cc)

opens_by : (v t a b g i j k l c d e f : Bool)
    → unwrap_or (first_of ((a, line.Blank) ∷ (b, if v then line.TableOpen else line.Text)
    ∷ ((if t then (g, line.TableEnd) ∷ (i, line.Caption) ∷ (j, line.Row) ∷ (k, line.Cell) ∷ (l, line.Header) ∷ [] else [])
    ++ (c, line.Heading) ∷ (d, line.Rule) ∷ (e, line.List) ∷ (f, line.Pre) ∷ []))) line.Text ≡ line.TableOpen → v ≡ true
opens_by v t true b g i j k l c d e f h = absurd (cc)
opens_by v t false true g i j k l c d e f h = open_only v h
opens_by v false false false g i j k l c d e f h = absurd (no_open c d e f h)
opens_by v true false false true i j k l c d e f h = absurd (cc)
opens_by v true false false false true j k l c d e f h = absurd (cc)
opens_by v true false false false false true k l c d e f h = absurd (cc)
opens_by v true false false false false false true l c d e f h = absurd (cc)
opens_by v true false false false false false false true c d e f h = absurd (cc)
opens_by v true false false false false false false false c d e f h = absurd (no_open c d e f h)

below : (n m : ℕ) → nat_lt n m ≡ true → n < m
below n m e = grind (arith, nat_tests, e)

pub opens_few : (n : ℕ) (ss : List ℕ) → kind_of_signs n ss ≡ line.TableOpen → n < MOST_TABLES
unfolding kind_of_signs
opens_few n ss h = below n MOST_TABLES (opens_by (nat_lt n MOST_TABLES) (nat_lt 0 n) _ _ _ _ _ _ _ _ _ _ _ h)

no_end_by : (a b c d e f : Bool) (k : LineKind) → (k ≡ line.TableEnd → ⊥)
    → unwrap_or (first_of ((a, line.Blank) ∷ (b, k) ∷ (c, line.Heading) ∷ (d, line.Rule) ∷ (e, line.List) ∷ (f, line.Pre) ∷ [])) line.Text ≡ line.TableEnd → ⊥
no_end_by true b c d e f k h z = absurd (cc)
no_end_by false true c d e f k h z = h z
no_end_by false false true d e f k h z = absurd (cc)
no_end_by false false false true e f k h z = absurd (cc)
no_end_by false false false false true f k h z = absurd (cc)
no_end_by false false false false false true k h z = absurd (cc)
no_end_by false false false false false false k h z = absurd (cc)

open_no_end : (v : Bool) → (if v then line.TableOpen else line.Text) ≡ line.TableEnd → ⊥
open_no_end true z = absurd (cc)
open_no_end false z = absurd (cc)

pub ends_none : (ss : List ℕ) → kind_of_signs 0 ss ≡ line.TableEnd → ⊥
unfolding kind_of_signs
ends_none ss z = no_end_by _ _ _ _ _ _ (open_kind 0) (open_no_end (nat_lt 0 MOST_TABLES)) z

-- What the kind of a line tells of its signs.
use Rattle.std.proofs.Common.{◌≡◌, ℕ, Bool, true, false, List, [], ◌∷◌, ◌++◌, length, nat_lt, refl, subst}
use Rattle.std.specs.Prelude.{◌==◌, reverse, codes, if◌then◌else◌}
use Rattle.std.specs.Option.{unwrap_or}
use Rattle.wt_span.specs.Bytes.{begins}
use Rattle.wt_lines.specs.declared.kind.LineKind.{LineKind}
use Rattle.wt_lines.specs.declared.kind.LineKind.TheVariants as line
use Rattle.wt_lines.specs.Kinds.{past, is_idle, is_mark_sign, is_heading, is_list, first_of, kind_of_signs}

-- the tests of a line: blank, `{|`, `|}`, `|+`, `|-`, `|`, `!`, heading, rule, list, preformatted
pub record Tests : Type 0 where
  pub blank : Bool
  pub opens : Bool
  pub ends : Bool
  pub caption : Bool
  pub row : Bool
  pub cell : Bool
  pub header : Bool
  pub heading : Bool
  pub rule : Bool
  pub list : Bool
  pub pre : Bool

abbrev pub IsTested : Tests → LineKind → Type 0
IsTested t line.Blank = t.blank ≡ true
IsTested t line.TableOpen = t.opens ≡ true
IsTested t line.TableEnd = t.ends ≡ true
IsTested t line.Caption = t.caption ≡ true
IsTested t line.Row = t.row ≡ true
IsTested t line.Cell = t.cell ≡ true
IsTested t line.Header = t.header ≡ true
IsTested t line.Heading = t.heading ≡ true
IsTested t line.Rule = t.rule ≡ true
IsTested t line.List = t.list ≡ true
IsTested t line.Pre = t.pre ≡ true
IsTested t line.Text = Unit {0}

abbrev tests : Bool → Bool → Bool → Bool → Bool → Bool → Bool → Bool → Bool → Bool → Bool → Tests
tests a o e c r l h d u i p = record {
  blank = a;
  opens = o;
  ends = e;
  caption = c;
  row = r;
  cell = l;
  header = h;
  heading = d;
  rule = u;
  list = i;
  pre = p;
}

-- the last rows of the table of kinds, and those of a table's lines
abbrev last_rows : Bool → Bool → Bool → Bool → List (Bool × LineKind)
last_rows d u i p = (d, line.Heading) ∷ (u, line.Rule) ∷ (i, line.List) ∷ (p, line.Pre) ∷ []

abbrev inner_rows : Bool → Bool → Bool → Bool → Bool → List (Bool × LineKind)
inner_rows e c r l h = (e, line.TableEnd) ∷ (c, line.Caption) ∷ (r, line.Row) ∷ (l, line.Cell) ∷ (h, line.Header) ∷ []

last_told : (a o e c r l h d u i p : Bool) (k : LineKind) → unwrap_or (first_of (last_rows d u i p)) line.Text ≡ k
    → IsTested (tests a o e c r l h d u i p) k
last_told a o e c r l h true u i p k is = subst (IsTested (tests a o e c r l h true u i p)) is refl
last_told a o e c r l h false true i p k is = subst (IsTested (tests a o e c r l h false true i p)) is refl
last_told a o e c r l h false false true p k is = subst (IsTested (tests a o e c r l h false false true p)) is refl
last_told a o e c r l h false false false true k is = subst (IsTested (tests a o e c r l h false false false true)) is refl
last_told a o e c r l h false false false false k is = subst (IsTested (tests a o e c r l h false false false false)) is tt

inner_told : (v a o e c r l h d u i p : Bool) (k : LineKind)
    → unwrap_or (first_of ((if v then inner_rows e c r l h else []) ++ last_rows d u i p)) line.Text ≡ k → IsTested (tests a o e c r l h d u i p) k
inner_told false a o e c r l h d u i p k is = last_told a o e c r l h d u i p k is
inner_told true a o true c r l h d u i p k is = subst (IsTested (tests a o true c r l h d u i p)) is refl
inner_told true a o false true r l h d u i p k is = subst (IsTested (tests a o false true r l h d u i p)) is refl
inner_told true a o false false true l h d u i p k is = subst (IsTested (tests a o false false true l h d u i p)) is refl
inner_told true a o false false false true h d u i p k is = subst (IsTested (tests a o false false false true h d u i p)) is refl
inner_told true a o false false false false true d u i p k is = subst (IsTested (tests a o false false false false true d u i p)) is refl
inner_told true a o false false false false false d u i p k is = last_told a o false false false false false d u i p k is

all_told : (many v a o e c r l h d u i p : Bool) (k : LineKind)
    → unwrap_or (first_of ((a, line.Blank) ∷ (o, if many then line.TableOpen else line.Text) ∷ ((if v then inner_rows e c r l h else []) ++ last_rows d u i p)))
    line.Text ≡ k → IsTested (tests a o e c r l h d u i p) k
all_told many v true o e c r l h d u i p k is = subst (IsTested (tests true o e c r l h d u i p)) is refl
all_told true v false true e c r l h d u i p k is = subst (IsTested (tests false true e c r l h d u i p)) is refl
all_told false v false true e c r l h d u i p k is = subst (IsTested (tests false true e c r l h d u i p)) is tt
all_told many v false false e c r l h d u i p k is = inner_told v false false e c r l h d u i p k is

-- by the line from its first sign on, and from its first visible item on
abbrev pub line_tests : List ℕ → Tests
line_tests ss =
    let s = past is_idle ss in
    let first = past is_mark_sign ss in
    tests (length s == 0) (begins (codes "{|") s) (begins (codes "|}") s) (begins (codes "|+") s) (begins (codes "|-") s) (begins (codes "|") s)
    (begins (codes "!") s) (is_heading first (past is_idle (reverse ss))) (begins (codes "----") first) (is_list first) (begins (codes " ") first)

pub kind_told : (tables : ℕ) (ss : List ℕ) (k : LineKind) → kind_of_signs tables ss ≡ k → IsTested (line_tests ss) k
unfolding kind_of_signs
kind_told tables ss k is =
    let s = past is_idle ss in
    let first = past is_mark_sign ss in
    all_told (nat_lt tables 16) (nat_lt 0 tables) (length s == 0) (begins (codes "{|") s) (begins (codes "|}") s) (begins (codes "|+") s)
    (begins (codes "|-") s) (begins (codes "|") s) (begins (codes "!") s) (is_heading first (past is_idle (reverse ss))) (begins (codes "----") first)
    (is_list first) (begins (codes " ") first) k is

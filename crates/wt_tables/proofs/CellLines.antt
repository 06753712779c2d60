-- Lines of cells begin with the sign of one.
use Rattle.std.proofs.Common.{◌≡◌, ℕ, ◌+◌, Bool, true, false, Option, Some, None, List, [], ◌∷◌, ◌++◌, length, drop, map, refl, ap, ◌∙◌, subst, cond, inl, inr, nat_lt}
use Rattle.std.specs.Prelude.{◌&&◌, ◌||◌, ◌==◌, reverse, codes, if◌then◌else◌}
use Rattle.std.specs.Option.{unwrap_or}
use Rattle.std.specs.List.{prefix_len, list_any}
use Rattle.std.proofs.Math.Numerals.{one-add}
use Rattle.std.proofs.lemmas.List.{drop-map}
use Rattle.wt_span.specs.Bytes.{begins}
use Rattle.wt_span.specs.Items.{Item, sign}
use Rattle.wt_lines.specs.declared.kind.LineKind.{LineKind}
use Rattle.wt_lines.specs.declared.kind.LineKind.TheVariants as kind
use Rattle.wt_lines.specs.Kinds.{first_of, past, is_idle, is_mark_sign, table_rows, text_rows, line_kind, kind_of_signs}
use Rattle.wt_tables.specs.Cells.{signs, lead_len, from_sign, begins_cell}
use Rattle.wt_tables.specs.CutLaws.{has_cells}
use Rattle.wt_tables.proofs.CellSteps.{and_left, or_true}

past_by : (t : Bool) (test : ℕ → Bool) (s : ℕ) (ss : List ℕ) → past test ss ≡ drop (prefix_len test ss) ss
    → (if t then past test ss else s ∷ ss) ≡ drop (cond t (1 + prefix_len test ss) 0) (s ∷ ss)
past_by true test s ss h = rw one-add h
past_by false test s ss h = refl

past_is : (test : ℕ → Bool) (ss : List ℕ) → past test ss ≡ drop (prefix_len test ss) ss
past_is test [] = refl
past_is test (s ∷ ss) = past_by (test s) test s ss (past_is test ss)

from_sign_is : (xs : List Item) → past is_idle (signs xs) ≡ signs (from_sign xs)
from_sign_is xs = past_is is_idle (signs xs) ∙ drop-map sign (lead_len xs) xs

-- a row of a kind that passes a test holds
abbrev told : (LineKind → Bool) → List (Bool × LineKind) → Bool
told p rows = list_any (λ r. p r.1 && r.0) rows

no_row : (a b : Bool) → b ≡ true → ((a && false) || b) ≡ true
no_row true b h = h
no_row false b h = h

last_true : (a b : Bool) → b ≡ true → (a || b) ≡ true
last_true true b h = refl
last_true false b h = h

told_by : (p : LineKind → Bool) (b : Bool) (j : LineKind) (rows : List (Bool × LineKind)) (k : LineKind)
    → (if b then Some j else first_of rows) ≡ Some k → p k ≡ true → (first_of rows ≡ Some k → told p rows ≡ true)
    → ((p j && b) || told p rows) ≡ true
told_by p true j rows k e h go = let same : j ≡ k = cc in rw (ap p same ∙ h) refl
told_by p false j rows k e h go = no_row (p j) (told p rows) (go e)

told_first : (p : LineKind → Bool) (rows : List (Bool × LineKind)) (k : LineKind) → first_of rows ≡ Some k → p k ≡ true → told p rows ≡ true
told_first p [] k e h = absurd cc
told_first p ((b, j) ∷ rows) k e h = told_by p b j rows k e h (λ f. told_first p rows k f h)

abbrev rows_of : Bool → Bool → Bool → Bool → List ℕ → List ℕ → List ℕ → List (Bool × LineKind)
rows_of t blank opening few s f b = (blank, kind.Blank) ∷ (opening, if few then kind.TableOpen else kind.Text)
    ∷ ((if t then table_rows s else []) ++ text_rows f b)

or_none : (b : Bool) → (b || false) ≡ true → b ≡ true
or_none true e = refl
or_none false e = absurd cc

bar_of : (s : List ℕ) → begins (codes "|+") s ≡ true → begins (codes "|") s ≡ true
bar_of [] e = absurd cc
bar_of (a ∷ s) e = ap (λ (t : Bool). t && true) (and_left (124 == a) _ e)

cell_by : (t blank opening few : Bool) (s f b : List ℕ) → told has_cells (rows_of t blank opening few s f b) ≡ true
    → (begins (codes "|") s || begins (codes "!") s) ≡ true
cell_by true blank opening true s f b e = elim (or_true (begins (codes "|+") s) _ e) [
  | inl a ↦ ap (λ (t : Bool). t || begins (codes "!") s) (bar_of s a)
  | inr h ↦ elim (or_true (begins (codes "|") s) _ h) [
    | inl a ↦ ap (λ (t : Bool). t || begins (codes "!") s) a
    | inr k ↦ last_true (begins (codes "|") s) _ (or_none (begins (codes "!") s) k)
  ]
]
cell_by true blank opening false s f b e = elim (or_true (begins (codes "|+") s) _ e) [
  | inl a ↦ ap (λ (t : Bool). t || begins (codes "!") s) (bar_of s a)
  | inr h ↦ elim (or_true (begins (codes "|") s) _ h) [
    | inl a ↦ ap (λ (t : Bool). t || begins (codes "!") s) a
    | inr k ↦ last_true (begins (codes "|") s) _ (or_none (begins (codes "!") s) k)
  ]
]
cell_by false blank opening true s f b e = absurd cc
cell_by false blank opening false s f b e = absurd cc

kind_some : (o : Option LineKind) (k : LineKind) → unwrap_or o kind.Text ≡ k → has_cells k ≡ true → o ≡ Some k
kind_some None k e h = let t : has_cells kind.Text ≡ true = ap has_cells e ∙ h in absurd cc
kind_some (Some j) k e h = ap Some e

pub cell_lines : (n : ℕ) (xs : List Item) → has_cells (line_kind n xs) ≡ true → begins_cell false xs ≡ true
unfolding kind_of_signs
cell_lines n xs h =
    let s = past is_idle (map sign xs) in
    let f = past is_mark_sign (map sign xs) in
    let b = past is_idle (reverse (map sign xs)) in
    let rows = rows_of (nat_lt 0 n) (length s == 0) (begins (codes "{|") s) (nat_lt n 16) s f b in
    let e = kind_some (first_of rows) (line_kind n xs) refl h in
    let t = cell_by (nat_lt 0 n) (length s == 0) (begins (codes "{|") s) (nat_lt n 16) s f b (told_first has_cells rows (line_kind n xs) e h) in
    subst (λ (ss : List ℕ). (begins (codes "|") ss || begins (codes "!") ss) ≡ true) (from_sign_is xs) t

abbrev is_caption : LineKind → Bool
is_caption kind.Blank = false
is_caption kind.TableOpen = false
is_caption kind.TableEnd = false
is_caption kind.Caption = true
is_caption kind.Row = false
is_caption kind.Cell = false
is_caption kind.Header = false
is_caption kind.Heading = false
is_caption kind.Rule = false
is_caption kind.List = false
is_caption kind.Pre = false
is_caption kind.Text = false

caption_by : (t blank opening few : Bool) (s f b : List ℕ) → told is_caption (rows_of t blank opening few s f b) ≡ true → begins (codes "|+") s ≡ true
caption_by true blank opening true s f b e = or_none _ e
caption_by true blank opening false s f b e = or_none _ e
caption_by false blank opening true s f b e = absurd cc
caption_by false blank opening false s f b e = absurd cc

caption_some : (o : Option LineKind) → unwrap_or o kind.Text ≡ kind.Caption → o ≡ Some kind.Caption
caption_some None e = absurd cc
caption_some (Some j) e = ap Some e

pub caption_lines : (n : ℕ) (xs : List Item) → line_kind n xs ≡ kind.Caption → begins_cell true xs ≡ true
unfolding kind_of_signs
caption_lines n xs h =
    let s = past is_idle (map sign xs) in
    let f = past is_mark_sign (map sign xs) in
    let b = past is_idle (reverse (map sign xs)) in
    let rows = rows_of (nat_lt 0 n) (length s == 0) (begins (codes "{|") s) (nat_lt n 16) s f b in
    let t = caption_by (nat_lt 0 n) (length s == 0) (begins (codes "{|") s) (nat_lt n 16) s f b
    (told_first is_caption rows kind.Caption (caption_some (first_of rows) h) refl) in
    subst (λ (ss : List ℕ). begins (codes "|+") ss ≡ true) (from_sign_is xs) t

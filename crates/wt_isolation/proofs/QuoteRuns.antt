-- Runs of apostrophes, and lines, as they are found from left to right.
use Rattle.std.proofs.Common.{arith, ◌≡◌, ◌<◌, ◌≤◌, ◌+◌, ℕ, suc, Bool, true, false, refl, sym, ap, ◌∙◌}
use Rattle.std.proofs.Common.{List, [], ◌∷◌, ◌++◌, length, get_or, take, drop, append_assoc, append-nil}
use Rattle.std.specs.Prelude.{◌||◌, not, if◌then◌else◌}
use Rattle.std.specs.List.{list_any, prefix_len}
use Rattle.std.proofs.lemmas.List.{drop_more}
use Rattle.wt_tiles.specs.declared.glyph.Glyph.{Glyph}
use Rattle.wt_tiles.specs.declared.shape.Shape.{Shape}
use Rattle.wt_tiles.specs.Tiles.{size}
use Rattle.wt_isolation.specs.Toggles.{is_break_glyph, is_odd_line, is_quote, lines, onto, quote_runs, runs_of, tile_runs}

-- ---- runs

pub quote_next : (n : ℕ) (g : Glyph) (gs : List Glyph) → is_quote g ≡ true → quote_runs (n + 1) gs ≡ quote_runs n (g ∷ gs)
quote_next n g gs e =
    let k : n + 1 ≡ suc n = omega arith in
    ap (λ m. quote_runs m gs) k ∙ sym (ap (λ b. if b then quote_runs (suc n) gs else n ∷ quote_runs 0 gs) e)

pub quote_ended : (n : ℕ) (g : Glyph) (gs : List Glyph) → is_quote g ≡ false → n ∷ quote_runs 0 gs ≡ quote_runs n (g ∷ gs)
quote_ended n g gs e = sym (ap (λ b. if b then quote_runs (suc n) gs else n ∷ quote_runs 0 gs) e)

-- one more item is read, and a run is told where it ends
pub quote_pushed : (out new : List ℕ) (n : ℕ) (g : Glyph) (gs : List Glyph) → is_quote g ≡ false → new ≡ out ++ n ∷ []
    → new ++ quote_runs 0 gs ≡ out ++ quote_runs n (g ∷ gs)
quote_pushed out new n g gs e is =
    ap (λ (xs : List ℕ). xs ++ quote_runs 0 gs) is ∙ append_assoc out (n ∷ []) (quote_runs 0 gs) ∙ ap (λ (xs : List ℕ). out ++ xs) (quote_ended n g gs e)

-- what is left of the items is read on
pub runs_turn : (out now new : List ℕ) (n m : ℕ) (gs : List Glyph) (i : ℕ) (d : Glyph) → i < length gs
    → ((rest : List Glyph) → new ++ quote_runs m rest ≡ now ++ quote_runs n (get_or gs i d ∷ rest)) → now ++ quote_runs n (drop i gs) ≡ out ++ quote_runs 0 gs
    → new ++ quote_runs m (drop (i + 1) gs) ≡ out ++ quote_runs 0 gs
runs_turn out now new n m gs i d lt h k = h (drop (i + 1) gs) ∙ ap (λ us. now ++ quote_runs n us) (sym (drop_more gs i d lt)) ∙ k

pub runs_ended : (out now new : List ℕ) (n : ℕ) (gs : List Glyph) (i : ℕ) → drop i gs ≡ [] → new ≡ now ++ n ∷ []
    → now ++ quote_runs n (drop i gs) ≡ out ++ quote_runs 0 gs → new ≡ out ++ quote_runs 0 gs
runs_ended out now new n gs i e is k = is ∙ ap (λ us. now ++ quote_runs n us) (sym e) ∙ k

-- ---- tiles

pub tiles_turn : (ws : List Shape) (i : ℕ) (d : Shape) (all now new : List ℕ) (left rest front : List Glyph) → i < length ws
    → new ≡ now ++ tile_runs (get_or ws i d).kind front → front ≡ take (size (get_or ws i d)) left → rest ≡ drop (size (get_or ws i d)) left
    → now ++ runs_of (drop i ws) left ≡ all → new ++ runs_of (drop (i + 1) ws) rest ≡ all
tiles_turn ws i d all now new left rest front lt e f g k =
    let w : Shape = get_or ws i d in
    ap (λ (xs : List ℕ). xs ++ runs_of (drop (i + 1) ws) rest) e
    ∙ append_assoc now (tile_runs w.kind front) (runs_of (drop (i + 1) ws) rest)
    ∙ ap (λ (us : List Glyph). now ++ (tile_runs w.kind us ++ runs_of (drop (i + 1) ws) rest)) f
    ∙ ap (λ (us : List Glyph). now ++ (tile_runs w.kind (take (size w) left) ++ runs_of (drop (i + 1) ws) us)) g
    ∙ ap (λ (vs : List Shape). now ++ runs_of vs left) (sym (drop_more ws i d lt)) ∙ k

pub tiles_ended : (ws : List Shape) (i : ℕ) (all now : List ℕ) (left : List Glyph) → drop i ws ≡ [] → now ++ runs_of (drop i ws) left ≡ all → now ≡ all
tiles_ended ws i all now left e k = sym (append-nil now) ∙ ap (λ (vs : List Shape). now ++ runs_of vs left) (sym e) ∙ k

-- ---- lines

-- how many items stand before the first line break
abbrev pub unbroken : List Glyph → ℕ
unbroken gs = prefix_len (λ g. not (is_break_glyph g)) gs

pub line_at : (gs : List Glyph) → unbroken gs < length gs → lines gs ≡ take (unbroken gs) gs ∷ lines (drop (unbroken gs + 1) gs)
line_at [] lt = absurd (omega (arith, lt))
line_at (g ∷ gs) lt = by (is_break_glyph g) lt (λ q. line_at gs q)
  where
    by : (b : Bool) → (if not b then 1 + unbroken gs else 0) < suc (length gs)
        → (unbroken gs < length gs → lines gs ≡ take (unbroken gs) gs ∷ lines (drop (unbroken gs + 1) gs))
        → (if b then [] ∷ lines gs else onto g (lines gs))
        ≡ take (if not b then 1 + unbroken gs else 0) (g ∷ gs) ∷ lines (drop ((if not b then 1 + unbroken gs else 0) + 1) (g ∷ gs))
    by true q h = refl
    by false q h =
        let k : 1 + unbroken gs ≡ suc (unbroken gs) = omega arith in
        let m : suc (unbroken gs) + 1 ≡ suc (unbroken gs + 1) = omega arith in
        ap (onto g) (h (omega (arith, q)))
        ∙ ap (λ (n : ℕ). take (suc (unbroken gs)) (g ∷ gs) ∷ lines (drop n (g ∷ gs))) (sym m)
        ∙ ap (λ (n : ℕ). take n (g ∷ gs) ∷ lines (drop (n + 1) (g ∷ gs))) (sym k)

pub line_last : (gs : List Glyph) → length gs ≤ unbroken gs → lines gs ≡ gs ∷ []
line_last [] le = refl
line_last (g ∷ gs) le = by (is_break_glyph g) le (λ q. line_last gs q)
  where
    by : (b : Bool) → suc (length gs) ≤ (if not b then 1 + unbroken gs else 0) → (length gs ≤ unbroken gs → lines gs ≡ gs ∷ [])
        → (if b then [] ∷ lines gs else onto g (lines gs)) ≡ (g ∷ gs) ∷ []
    by true q h = absurd (omega (arith, q))
    by false q h = ap (onto g) (h (omega (arith, q)))

or_of_false : (a b : Bool) → a ≡ false → (a || b) ≡ b
or_of_false a b e = ap (λ c. c || b) e

or_of_true : (a b : Bool) → a ≡ true → true ≡ (a || b)
or_of_true a b e = sym (ap (λ c. c || b) e)

or_false : (a : Bool) → (a || false) ≡ a
or_false true = refl
or_false false = refl

pub odd_later : (gs : List Glyph) (n : ℕ) (b : Bool) → n ≡ unbroken gs → n < length gs → b ≡ is_odd_line (take n gs) → b ≡ false
    → list_any is_odd_line (lines (drop (n + 1) gs)) ≡ list_any is_odd_line (lines gs)
odd_later gs n b e lt is isnt =
    let line = line_at gs (omega (arith, e, lt)) in
    sym (or_of_false (is_odd_line (take n gs)) (list_any is_odd_line (lines (drop (n + 1) gs))) (sym is ∙ isnt))
    ∙ ap (λ (m : ℕ). list_any is_odd_line (take m gs ∷ lines (drop (m + 1) gs))) e ∙ ap (list_any is_odd_line) (sym line)

pub odd_here : (gs : List Glyph) (n : ℕ) (b : Bool) → n ≡ unbroken gs → n < length gs → b ≡ is_odd_line (take n gs) → b ≡ true
    → true ≡ list_any is_odd_line (lines gs)
odd_here gs n b e lt is so =
    let line = line_at gs (omega (arith, e, lt)) in
    or_of_true (is_odd_line (take n gs)) (list_any is_odd_line (lines (drop (n + 1) gs))) (sym is ∙ so)
    ∙ ap (λ (m : ℕ). list_any is_odd_line (take m gs ∷ lines (drop (m + 1) gs))) e ∙ ap (list_any is_odd_line) (sym line)

pub odd_last : (gs : List Glyph) (n : ℕ) (b : Bool) → n ≡ unbroken gs → length gs ≤ n → b ≡ is_odd_line gs → b ≡ list_any is_odd_line (lines gs)
odd_last gs n b e le is =
    is ∙ sym (or_false (is_odd_line gs)) ∙ ap (list_any is_odd_line) (sym (line_last gs (omega (arith, e, le))))

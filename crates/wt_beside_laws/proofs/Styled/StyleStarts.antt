-- Before what is in a style of a line there is an apostrophe.
use Rattle.std.proofs.Common.{arith, ◌≡◌, ℕ, zero, suc, ◌+◌, ◌<◌, Bool, true, false, not, List, [], ◌∷◌, length, map, get_or, refl, sym, ap, ◌∙◌, subst}
use Rattle.std.specs.Prelude.{◌||◌, if◌then◌else◌, All, Some, slice_get}
use Rattle.std.specs.List.{range_with_len}
use Rattle.std.specs.Option.{option_map_or}
use Rattle.std.proofs.lemmas.Option.{slice_get-get_or}
use Rattle.wt_quotes.specs.declared.chunk.Chunk.{Chunk}
use Rattle.wt_quotes.specs.declared.style.Style.{Style}
use Rattle.wt_quotes.specs.declared.toggle.Toggle.{Toggle}
use Rattle.wt_quotes.specs.declared.turn.PlacedToggle.{PlacedToggle}
use Rattle.wt_quotes.specs.Forest.{Forest, forest_of}
use Rattle.wt_quotes.specs.Runs.{bytes_of, place_of, run_length}
use Rattle.wt_quotes.specs.Styles.{effect_of, opening_width, opening_place, begins, styles_by, style_tree_of}
use Rattle.wt_quotes.specs.Toggles.{width_of, IsOfRun, Switches, toggles_of}
use Rattle.wt_quotes.specs.Turns.{start_of}
use Rattle.wt_quotes.proofs.Exchange.{toggles_are_runs, toggles_switch}
use Rattle.wt_quotes.proofs.Planting.{preorder_of}
use Rattle.wt_quotes.proofs.Reading.{step_at, steps_of, styles_read}
use Rattle.wt_quotes.proofs.SixStates.{Step, step, made, toggled, outside_after, run}
use Rattle.wt_context.specs.Chunks.{chunks}
use Rattle.wt_context.specs.Segments.{Segment}
use Rattle.wt_context.proofs.QuotePlaces.{quote_at, run_is_quotes}
use Rattle.wt_beside_laws.proofs.OwnSigns.{Every}
use Rattle.wt_beside_laws.proofs.Styled.StyleKinds.{begun_when, EachIn, each_of}

-- ---- where a style that begins has its first segment

behind_open : (k hb hi o : Bool) (s : ℕ) (b i flag : Bool) → begins (effect_of k (made hb hi o (step s b i flag))) ≡ true
    → s < opening_place k (made hb hi o (step s b i flag)) + opening_width k (made hb hi o (step s b i flag))
behind_open true true hi o s true i flag f = cc
behind_open true false hi o s true i flag f = omega arith
behind_open true hb hi o s false false flag f = cc
behind_open true false hi o s false true flag f = cc
behind_open true true false o s false true flag f = cc
behind_open true true true true s false true flag f = cc
behind_open true true true false s false true flag f = omega arith
behind_open false hb true o s b true flag f = cc
behind_open false hb false o s b true flag f = omega arith
behind_open false hb hi o s false false flag f = cc
behind_open false false hi o s true false flag f = cc
behind_open false true false o s true false flag f = cc
behind_open false true true false s true false flag f = cc
behind_open false true true true s true false flag f = omega arith

-- ---- the toggles are apostrophes

abbrev AreQuoted : List Segment → List Step → Type 0
AreQuoted us [] = Unit {0}
AreQuoted us (step s b i flag ∷ rs) = (quote_at us s ≡ true) × AreQuoted us rs

wide_by : (b i : Bool) → (b || i) ≡ true → 0 < (if i then 2 else 0) + (if b then 3 else 0)
wide_by true true e = omega arith
wide_by true false e = omega arith
wide_by false true e = omega arith
wide_by false false e = cc

steps_quoted : (us : List Segment) (ts : List Toggle) → All (IsOfRun (chunks us)) ts → All Switches ts → (i m : ℕ) → i + m ≡ length ts
    → AreQuoted us (map (step_at (chunks us) ts) (range_with_len i m))
steps_quoted us ts runs sw i zero e = tt
steps_quoted us ts runs sw i (suc m) e =
    let d : Toggle = record { chunk = 0; plain = 0; italic = false; bold = false } in
    let h : i < length ts = omega (arith, e) in
    let t : Toggle = get_or ts i d in
    let is : slice_get ts i ≡ Some t = slice_get-get_or ts i d h in
    let r : IsOfRun (chunks us) t = runs i d h in
    let wide : 0 < width_of t = wide_by t.bold t.italic (sw i d h) in
    let same : option_map_or (start_of (chunks us)) (slice_get ts i) 0 ≡ start_of (chunks us) t = ap (λ p. option_map_or (start_of (chunks us)) p 0) is in
    let long = r.1 in
    let quoted : quote_at us (start_of (chunks us) t) ≡ true = run_is_quotes us t.chunk (start_of (chunks us) t) (omega arith) (omega (arith, long, wide)) in
    (ap (quote_at us) same ∙ quoted, steps_quoted us ts runs sw (i + 1) m (omega (arith, e)))

-- ---- so it is in the forest

-- an apostrophe is somewhere before what is in the style
abbrev pub IsBehindQuote : List Segment → Style → Type 0
IsBehindQuote us u = (p : ℕ) × (p < u.from + u.open_w) × (quote_at us p ≡ true)

all_behind : (us : List Segment) (total : ℕ) (hb hi o : Bool) (rs : List Step) → AreQuoted us rs → Every (IsBehindQuote us) (styles_by total (run hb hi o rs))
all_behind us total hb hi o [] h = tt
all_behind us total hb hi o (step s b i flag ∷ rs) h =
    let t : PlacedToggle = made hb hi o (step s b i flag) in
    let rest : List PlacedToggle = run (toggled b hb) (toggled i hi) (outside_after hb hi b i flag) rs in
    begun_when (IsBehindQuote us) total t rest (λ k e. (s, behind_open k hb hi o s b i flag e, h.0))
    (all_behind us total (toggled b hb) (toggled i hi) (outside_after hb hi b i flag) rs h.1)

pub styles_behind : (us : List Segment) → EachIn (IsBehindQuote us) (forest_of (style_tree_of (chunks us)))
styles_behind us =
    let cs : List Chunk = chunks us in
    let ts : List Toggle = toggles_of cs in
    let ss : List Style = styles_by (bytes_of cs) (run false false false (steps_of cs ts)) in
    let quoted : AreQuoted us (steps_of cs ts) = steps_quoted us ts (toggles_are_runs cs) (toggles_switch cs) 0 (length ts) (omega arith) in
    let every : Every (IsBehindQuote us) ss = all_behind us (bytes_of cs) false false false (steps_of cs ts) quoted in
    subst (λ (vs : List Style). EachIn (IsBehindQuote us) (forest_of vs)) (sym (styles_read cs))
    (each_of (IsBehindQuote us) (forest_of ss) (subst (Every (IsBehindQuote us)) (sym (preorder_of ss)) every))

-- A context has at most as many styles as apostrophes: each toggle, a run of two or more, begins two styles at most.
use Rattle.std.proofs.Common.{◌≡◌, ℕ, zero, suc, ◌+◌, ◌*◌, ◌≤◌, Bool, true, false, Option, Some, None, List, [], ◌∷◌, ◌++◌, length, drop, refl, sym, ap, ◌∙◌, subst, arith, drop-drop, length-append}
use Rattle.std.specs.Prelude.{◌&&◌, ◌==◌, not, if◌then◌else◌, nat_lt, nat_le, slice_get}
use Rattle.std.specs.List.{filter_map, range_with_len, cons_option}
use Rattle.std.proofs.lemmas.List.{length-map, length-set}
use Rattle.std.proofs.lemmas.Bool.Decides.{nat_tests}
use Rattle.std.proofs.lemmas.List.FromFn.{length-range_with_len}
use Rattle.wt_span.specs.Items.{Item}
use Rattle.wt_span.specs.Runs.{runs, IsRun, AreRuns}
use Rattle.wt_span.proofs.RunLaws.{runs_are}
use Rattle.wt_quotes.specs.declared.chunk.Chunk.{Chunk}
use Rattle.wt_quotes.specs.declared.chunk.Chunk.TheVariants as chunk
use Rattle.wt_quotes.specs.declared.toggle.Toggle.{Toggle}
use Rattle.wt_quotes.specs.declared.turn.PlacedToggle.{PlacedToggle}
use Rattle.wt_quotes.specs.declared.style.Style.{Style}
use Rattle.wt_quotes.specs.Runs.{run_length}
use Rattle.wt_quotes.specs.Toggles.{toggle_of, toggle_at, toggles_by_length, is_due, exchange_place, set_exchanged, exchange_at, toggles_of}
use Rattle.wt_quotes.specs.Turns.{turns_of, turn_at}
use Rattle.wt_quotes.specs.Styles.{effect_of, begins, begun, style_from, ending, styles_by, style_tree_of}
use Rattle.wt_quotes.specs.Runs.{bytes_of}
use Rattle.wt_context.specs.Segments.{Segment, segment_items}
use Rattle.wt_context.specs.Chunks.{both_quotes, begins_with_quote, is_run, other_chunk, chunks_since, chunks}

-- ---- styles by toggles

begun_by : (b : Bool) (s : Style) → length (if b then s ∷ [] else []) ≤ 1
begun_by true s = omega arith
begun_by false s = omega arith

begun_few : (bold : Bool) (total : ℕ) (t : PlacedToggle) (ts : List PlacedToggle) → length (begun bold total t ts) ≤ 1
begun_few bold total t ts = begun_by (begins (effect_of bold t)) (style_from bold t (ending bold total ts))

by_turns : (total : ℕ) (ts : List PlacedToggle) → length (styles_by total ts) ≤ 2 * length ts
by_turns total [] = omega arith
by_turns total (t ∷ ts) =
    let a = begun t.bold_outside total t ts in
    let b = begun (not t.bold_outside) total t ts in
    omega (
      arith,
      length-append (a ++ b) (styles_by total ts),
      length-append a b,
      begun_few t.bold_outside total t ts,
      begun_few (not t.bold_outside) total t ts,
      by_turns total ts,
    )

turns_few : (cs : List Chunk) (ts : List Toggle) → length (turns_of cs ts) ≡ length ts
turns_few cs ts = length-map (range_with_len 0 (length ts)) (turn_at cs ts) ∙ length-range_with_len 0 (length ts)

-- ---- toggles by runs

set_same : (ts : List Toggle) (i : ℕ) (o : Option Toggle) → length (set_exchanged ts i o) ≡ length ts
set_same ts i None = refl
set_same ts i (Some t) = length-set ts i _

exchange_same : (o : Option ℕ) (ts : List Toggle) → length (exchange_at o ts) ≡ length ts
exchange_same None ts = refl
exchange_same (Some i) ts = set_same ts i (slice_get ts i)

due_same : (due : Bool) (o : Option ℕ) (ts : List Toggle) → length (if due then exchange_at o ts else ts) ≡ length ts
due_same true o ts = exchange_same o ts
due_same false o ts = refl

toggles_same : (cs : List Chunk) → length (toggles_of cs) ≡ length (toggles_by_length cs)
unfolding toggles_of
toggles_same cs = due_same (is_due (toggles_by_length cs)) (exchange_place cs (toggles_by_length cs)) (toggles_by_length cs)

-- the apostrophes of runs
abbrev in_runs : List Chunk → ℕ
in_runs [] = 0
in_runs (c ∷ cs) = run_length (Some c) + in_runs cs

-- a toggle is a run of two or more
abbrev TwoEach : ℕ → Option Toggle → Type 0
TwoEach n None = Unit {0}
TwoEach n (Some t) = 2 ≤ n

some_by : (n : ℕ) (a b c : Bool) (t u v w : Toggle) → 2 ≤ n → TwoEach n (if a then Some t else (if b then Some u else (if c then Some v else Some w)))
some_by n true b c t u v w h = h
some_by n false true c t u v w h = h
some_by n false false true t u v w h = h
some_by n false false false t u v w h = h

two_by : (n : ℕ) (small : Bool) (o : Option Toggle) → nat_lt n 2 ≡ small → (2 ≤ n → TwoEach n o) → TwoEach n (if small then None else o)
two_by n true o e h = tt
two_by n false o e h = let l : 2 ≤ n = grind (arith, nat_tests) in h l

two_each : (k n : ℕ) → TwoEach n (toggle_of k n)
two_each k n = two_by n (nat_lt n 2) _ refl (λ h. some_by n (n == 2) (n == 3) (n == 4) _ _ _ _ h)

cons_few : (o : Option Toggle) (ts : List Toggle) (n m : ℕ) → TwoEach n o → 2 * length ts ≤ m → 2 * length (cons_option o ts) ≤ n + m
cons_few None ts n m a b = omega arith
cons_few (Some t) ts n m a b = omega (arith, a, b)

get_first : (cs rest : List Chunk) (c : Chunk) (k : ℕ) → drop k cs ≡ c ∷ rest → slice_get cs k ≡ Some c
get_first [] rest c zero e = cc
get_first [] rest c (suc k) e = cc
get_first (x ∷ xs) rest c zero e = ap (λ (ys : List Chunk). slice_get ys 0) e
get_first (x ∷ xs) rest c (suc k) e = get_first xs rest c k e

toggles_few : (cs rest : List Chunk) (k : ℕ) → drop k cs ≡ rest → 2 * length (filter_map (toggle_at cs) (range_with_len k (length rest))) ≤ in_runs rest
unfolding toggle_at
toggles_few cs [] k e = omega arith
toggles_few cs (c ∷ rest) k e =
    let P : Option Chunk → Type 0 = λ o. TwoEach (run_length o) (toggle_at cs k) in
    let here : P (Some c) = subst P (get_first cs rest c k e) (two_each k (run_length (slice_get cs k))) in
    let later : drop (k + 1) cs ≡ rest = sym (drop-drop 1 k cs) ∙ ap (drop 1) e in
    cons_few (toggle_at cs k) (filter_map (toggle_at cs) (range_with_len (k + 1) (length rest))) (run_length (Some c)) (in_runs rest) here
    (toggles_few cs rest (k + 1) later)

-- ---- runs by segments

abbrev pub quotes : List Segment → ℕ
quotes [] = 0
quotes (u ∷ us) = (if u.quote then 1 else 0) + quotes us

pub quotes_append : (us vs : List Segment) → quotes (us ++ vs) ≡ quotes us + quotes vs
quotes_append [] vs = omega arith
quotes_append (u ∷ us) vs = omega (arith, quotes_append us vs)

right_of : (a b : Bool) → (a && b) ≡ true → b ≡ true
right_of true b e = e
right_of false b e = cc

left_of : (a b : Bool) → (a && b) ≡ true → a ≡ true
left_of true b e = refl
left_of false b e = cc

one_of : (b : Bool) → b ≡ true → 1 ≤ (if b then 1 else 0)
one_of true e = omega arith
one_of false e = cc

all_quotes : (r others : List Segment) → begins_with_quote r ≡ true → IsRun both_quotes r others → length r ≤ quotes r
all_quotes [] others e h = omega arith
all_quotes (u ∷ []) others e h = omega (arith, one_of u.quote e)
all_quotes (u ∷ v ∷ us) others e h = omega (arith, one_of u.quote e, all_quotes (v ∷ us) others (right_of u.quote v.quote h.0) h.1)

run_few : (xs : List Item) (r others : List Segment) (rest : List (List Segment)) (v : Bool) → is_run r ≡ v → IsRun both_quotes r others
    → ((ys : List Item) → in_runs (chunks_since ys rest) ≤ quotes others)
    → in_runs (if v then chunk.Run (length r) ∷ chunks_since [] rest
    else other_chunk (length r) (xs ++ segment_items r) ∷ chunks_since (xs ++ segment_items r) rest) ≤ quotes r + quotes others
run_few xs r others rest true e h next =
    omega (arith, all_quotes r others (left_of (begins_with_quote r) (nat_le 2 (length r)) e) h, next [])
run_few xs r others rest false e h next = omega (arith, next (xs ++ segment_items r))

runs_few : (xs : List Item) (gs : List (List Segment)) (us : List Segment) → AreRuns both_quotes gs us → in_runs (chunks_since xs gs) ≤ quotes us
runs_few xs [] us h = omega arith
runs_few xs (r ∷ gs) us h =
    omega (
      arith,
      run_few xs r h.0 gs (is_run r) refl h.2 (λ ys. runs_few ys gs h.0 h.3),
      ap quotes h.1,
      quotes_append r h.0,
    )

-- ---- together

pub styles_few : (us : List Segment) → length (style_tree_of (chunks us)) ≤ quotes us
unfolding style_tree_of chunks
styles_few us =
    let cs = chunks us in
    omega (
      arith,
      by_turns (bytes_of cs) (turns_of cs (toggles_of cs)),
      turns_few cs (toggles_of cs),
      toggles_same cs,
      toggles_few cs cs 0 refl,
      runs_few [] (runs both_quotes us) us (runs_are both_quotes us),
    )

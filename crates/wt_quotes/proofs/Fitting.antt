-- The delimiters of a context's toggles lie in it.
use Rattle.std.proofs.Common.{◌≡◌, ℕ, ◌+◌, ◌<◌, Bool, true, false, not, Some, List, length, get_or, refl, sym, ap, subst, ◌∙◌, arith}
use Rattle.std.specs.Prelude.{◌&&◌, if◌then◌else◌, All, slice_get, is_some}
use Rattle.std.specs.List.{range_with_len}
use Rattle.std.specs.Option.{option_map_or}
use Rattle.std.proofs.lemmas.List.Elements.{All-map}
use Rattle.std.proofs.lemmas.List.FromFn.{get_or-range_with_len, length-range_with_len}
use Rattle.std.proofs.lemmas.Option.{slice_get-get_or}
use Rattle.wt_quotes.specs.declared.chunk.Chunk.{Chunk}
use Rattle.wt_quotes.specs.declared.toggle.Toggle.{Toggle}
use Rattle.wt_quotes.specs.declared.turn.Effect.{Effect}
use Rattle.wt_quotes.specs.declared.turn.Effect.TheVariants.{Nothing, Opens, Closes, Breaks}
use Rattle.wt_quotes.specs.declared.turn.Opened.{Opened}
use Rattle.wt_quotes.specs.Runs.{bytes_of}
use Rattle.wt_quotes.specs.Toggles.{width_of, IsOfRun}
use Rattle.wt_quotes.specs.Turns.{is_of, toggles_at, opened_of, is_outside, effect_on, start_of, opened_before, turn_of, turn_at, turns_of}
use Rattle.wt_quotes.specs.Styles.{width, opening_bytes, closing_bytes, taken, Fits}
use Rattle.wt_quotes.proofs.Places.{place_le, run_within}

pub bytes_bits : (bold tog had other : Bool) →
    let e : Effect = (if tog then (if had then Closes else Opens) else (if other then Breaks else Nothing)) in
    closing_bytes bold e + opening_bytes bold e ≡ (if tog then width bold else 0)
bytes_bits bold true true other = omega arith
bytes_bits bold true false other = omega arith
bytes_bits bold false had true = refl
bytes_bits bold false had false = refl

-- a toggle's delimiters of a style have its bytes, if it switches the style
pub effect_bytes : (bold : Bool) (ts : List Toggle) (i : ℕ) (o : Opened) →
    closing_bytes bold (effect_on bold ts i o) + opening_bytes bold (effect_on bold ts i o) ≡ (if toggles_at bold ts i then width bold else 0)
unfolding effect_on
effect_bytes bold ts i o = bytes_bits bold (toggles_at bold ts i) (is_some (opened_of bold o)) (toggles_at (not bold) ts i && is_outside (not bold) ts o)

-- a toggle's delimiters have its bytes
pub taken_is : (s : ℕ) (ts : List Toggle) (i : ℕ) (o : Opened) (t : Toggle) → slice_get ts i ≡ Some t → taken (turn_of s ts i o) ≡ width_of t
taken_is s ts i o t e =
    let b : toggles_at true ts i ≡ t.bold = ap (λ p. option_map_or (is_of true) p false) e in
    let m : toggles_at false ts i ≡ t.italic = ap (λ p. option_map_or (is_of false) p false) e in
    let x = effect_bytes true ts i o ∙ ap (λ (y : Bool). if y then 3 else 0) b in
    let y = effect_bytes false ts i o ∙ ap (λ (y : Bool). if y then 2 else 0) m in
    omega arith

fit_at : (chunks : List Chunk) (ts : List Toggle) → All (IsOfRun chunks) ts → (i : ℕ) → i < length ts → Fits (bytes_of chunks) (turn_at chunks ts i)
unfolding turn_at
fit_at chunks ts runs i h =
    let d : Toggle = record { chunk = 0; plain = 0; italic = false; bold = false } in
    let t : Toggle = get_or ts i d in
    let e : slice_get ts i ≡ Some t = slice_get-get_or ts i d h in
    let s : option_map_or (start_of chunks) (slice_get ts i) 0 ≡ start_of chunks t = ap (λ p. option_map_or (start_of chunks) p 0) e in
    let run = runs i d h in
    omega (
      arith,
      taken_is (option_map_or (start_of chunks) (slice_get ts i) 0) ts i (opened_before ts i) t e,
      run.1,
      run_within chunks t.chunk run.0,
      place_le chunks (t.chunk + 1),
      s,
    )

pub turns_fit : (chunks : List Chunk) (ts : List Toggle) → All (IsOfRun chunks) ts → All (Fits (bytes_of chunks)) (turns_of chunks ts)
turns_fit chunks ts runs =
    All-map (Fits (bytes_of chunks)) (turn_at chunks ts) (range_with_len 0 (length ts)) (λ k d h.
    let l : k < length ts = omega (arith, length-range_with_len 0 (length ts)) in
    let w : k ≡ 0 + k = omega arith in
    let z : k ≡ get_or (range_with_len 0 (length ts)) k d = w ∙ sym (get_or-range_with_len 0 (length ts) k d l) in
    subst (λ i. Fits (bytes_of chunks) (turn_at chunks ts i)) z (fit_at chunks ts runs k l))

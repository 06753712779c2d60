-- Of two styles that hold a byte, the inner one is the one that the last toggle before the byte began.
use Rattle.std.proofs.Common.{◌≡◌, ℕ, ◌+◌, ◌<◌, ◌≤◌, suc, Bool, true, false, not, Option, Some, None, List, length, get_or, refl, sym, ap, subst, ◌∙◌, arith, inl, inr}
use Rattle.std.specs.Prelude.{◌&&◌, if◌then◌else◌, IfSome, slice_get}
use Rattle.std.specs.List.{AllPairs}
use Rattle.std.specs.Option.{option_map_or}
use Rattle.std.proofs.lemmas.Bool.{cases_lt}
use Rattle.std.proofs.lemmas.Option.{slice_get-get_or, slice_get_past, slice_get_within}
use Rattle.std.proofs.lemmas.List.FromFn.{length-map-range_with_len, get_or-map-range_with_len}
use Rattle.wt_quotes.specs.declared.chunk.Chunk.{Chunk}
use Rattle.wt_quotes.specs.declared.toggle.Toggle.{Toggle}
use Rattle.wt_quotes.specs.declared.style.Style.{Style}
use Rattle.wt_quotes.specs.Runs.{bytes_of}
use Rattle.wt_quotes.specs.Toggles.{toggles_of, width_of}
use Rattle.wt_quotes.specs.Turns.{is_of, toggles_at, start_of}
use Rattle.wt_quotes.specs.Styles.{styles_by, style_tree_of}
use Rattle.wt_quotes.specs.StyleLaws.{IsBehindOrInside}
use Rattle.wt_quotes.proofs.Exchange.{toggles_switch}
use Rattle.wt_quotes.proofs.NextToggle.{ends_later}
use Rattle.wt_quotes.proofs.Nesting.{pairs_of}
use Rattle.wt_quotes.proofs.Reading.{step_at, steps_of, are_steps, styles_read}
use Rattle.wt_quotes.proofs.SixStates.{Step, run, bytes_by}
use Rattle.wt_page_laws.specs.InnerStyles.{Holds, IsInside, IsLastBefore, is_bold_inside, InnerBeganLater}
use Rattle.wt_page_laws.proofs.InnerSteps.{starts, ends, inside, spread, Outer, outer_is}

-- ---- toggles as steps

one_step : (chunks : List Chunk) (ts : List Toggle) (i : ℕ) → i < length ts → slice_get (steps_of chunks ts) i ≡ Some (step_at chunks ts i)
one_step chunks ts i l =
    let d : Step = step_at chunks ts 0 in
    slice_get-get_or (steps_of chunks ts) i d (omega (arith, l, length-map-range_with_len (step_at chunks ts) 0 (length ts)))
    ∙ ap Some (get_or-map-range_with_len (step_at chunks ts) 0 (length ts) i i d l (omega arith))

no_step : (chunks : List Chunk) (ts : List Toggle) (i : ℕ) → length ts ≤ i → slice_get (steps_of chunks ts) i ≡ None
no_step chunks ts i l =
    slice_get_past (steps_of chunks ts) i (omega (arith, l, length-map-range_with_len (step_at chunks ts) 0 (length ts)))

ends_at : (chunks : List Chunk) (ts : List Toggle) (i : ℕ) (t : Toggle) → slice_get ts i ≡ Some t
    → ends (step_at chunks ts i) ≡ start_of chunks t + width_of t
ends_at chunks ts i t e =
    ap (λ o. option_map_or (start_of chunks) o 0 + bytes_by (option_map_or (is_of true) o false) (option_map_or (is_of false) o false)) e ∙ (omega arith)

starts_by : (chunks : List Chunk) (p : ℕ) (o : Option Toggle) (n : ℕ) → IfSome o (λ next. p < start_of chunks next) → n ≡ option_map_or (start_of chunks) o 0
    → (o ≡ None → ⊥) → p < n
starts_by chunks p None n h e some = absurd (some refl)
starts_by chunks p (Some t) n h e some = omega (arith, h, e)

next_behind : (chunks : List Chunk) (ts : List Toggle) (p i : ℕ) → IfSome (slice_get ts i) (λ next. p < start_of chunks next)
    → IfSome (slice_get (steps_of chunks ts) i) (λ n. p < starts n)
next_behind chunks ts p i h = elim (cases_lt i (length ts)) [
  | inl l ↦
      let is : slice_get ts i ≡ Some (get_or ts i (record { chunk = 0; plain = 0; italic = false; bold = false })) = slice_get-get_or ts i _ l in
      subst (λ o. IfSome o (λ n. p < starts n)) (sym (one_step chunks ts i l))
      (starts_by chunks p (slice_get ts i) (starts (step_at chunks ts i)) h refl (λ e. let no = sym is ∙ e in cc))
  | inr l ↦ subst (λ o. IfSome o (λ n. p < starts n)) (sym (no_step chunks ts i l)) tt
]

inside_at : (chunks : List Chunk) (ts : List Toggle) (i : ℕ) (t : Toggle) → slice_get ts i ≡ Some t
    → inside (step_at chunks ts i) (toggles_at true ts (i + 1)) ≡ is_bold_inside t (slice_get ts (i + 1))
inside_at chunks ts i t e =
    ap (λ o. if option_map_or (is_of true) o false && option_map_or (is_of false) o false
    then toggles_at true ts (i + 1) else option_map_or (is_of true) o false) e

-- ---- the styles

inside_by : (p : ℕ) (bold : Bool) (s u : Style) → IsBehindOrInside s u → Outer p bold s u → Holds p s → Holds p u → IsInside bold u s
inside_by p bold s u (inl l) outer hs hu = absurd (omega (arith, l, hs.1, hu.0))
inside_by p bold s u (inr is) outer hs hu =
    let e = outer hs hu in
    ((is.0, is.1), is.2 ∙ ap not e ∙ twice bold, e)
  where
    twice : (b : Bool) → not (not b) ≡ b
    twice true = refl
    twice false = refl

outer_styles : (chunks : List Chunk) (p i : ℕ) (t : Toggle) → IsLastBefore chunks p i t
    → AllPairs (Outer p (is_bold_inside t (slice_get (toggles_of chunks) (i + 1)))) (style_tree_of chunks)
outer_styles chunks p i t is =
    let ts : List Toggle = toggles_of chunks in
    let total : ℕ = bytes_of chunks in
    let l : i < length ts = slice_get_within ts i t is.0 in
    let more : i + 1 ≡ suc i = omega arith in
    let pairs = outer_is total 0 p i (toggles_at true ts (i + 1)) false false false (steps_of chunks ts) (step_at chunks ts i) (are_steps chunks)
    (one_step chunks ts i l) (omega (arith, is.1, ends_at chunks ts i t is.0)) (ends_later ts i (toggles_switch chunks) l)
    (next_behind chunks ts p (suc i) (subst (λ k. IfSome (slice_get ts k) (λ next. p < start_of chunks next)) more is.2)) in
    subst (λ bold. AllPairs (Outer p bold) (style_tree_of chunks)) (inside_at chunks ts i t is.0)
    (subst (AllPairs (Outer p (inside (step_at chunks ts i) (toggles_at true ts (i + 1))))) (sym (styles_read chunks))
    (spread (Outer p (inside (step_at chunks ts i) (toggles_at true ts (i + 1)))) (styles_by total (run false false false (steps_of chunks ts))) pairs))

nested_styles : (chunks : List Chunk) → AllPairs IsBehindOrInside (style_tree_of chunks)
nested_styles chunks = subst (AllPairs IsBehindOrInside) (sym (styles_read chunks))
    (pairs_of (bytes_of chunks) 0 false false false (steps_of chunks (toggles_of chunks)) (are_steps chunks))

pub inner_began_later : (chunks : List Chunk) → InnerBeganLater chunks
inner_began_later chunks p i t is j k d l m hs hu =
    inside_by p (is_bold_inside t (slice_get (toggles_of chunks) (i + 1)))
    (get_or (style_tree_of chunks) j d) (get_or (style_tree_of chunks) k d)
    (nested_styles chunks j k d l m) (outer_styles chunks p i t is j k d l m) hs hu

-- The turns of a context are those of the six states.
use Rattle.std.proofs.Common.{◌≡◌, ℕ, ◌+◌, ◌<◌, ◌≤◌, zero, suc, Bool, true, false, not, Option, Some, None, List, [], ◌∷◌, length, map, drop, get_or, refl, sym, ap, subst, ◌∙◌, arith}
use Rattle.std.specs.Prelude.{◌&&◌, ◌||◌, if◌then◌else◌, All, IfSome, slice_get, is_some}
use Rattle.std.specs.List.{range_with_len}
use Rattle.std.specs.Option.{option_map_or}
use Rattle.std.proofs.lemmas.Bool.Decides.{nat_tests}
use Rattle.std.proofs.lemmas.Option.{slice_get-get_or}
use Rattle.wt_quotes.specs.declared.chunk.Chunk.{Chunk}
use Rattle.wt_quotes.specs.declared.toggle.Toggle.{Toggle}
use Rattle.wt_quotes.specs.declared.turn.PlacedToggle.{PlacedToggle}
use Rattle.wt_quotes.specs.Runs.{bytes_of, place_of}
use Rattle.wt_quotes.specs.Toggles.{width_of, IsOfRun, Switches, toggles_of}
use Rattle.wt_quotes.specs.Turns.{is_of, toggles_at, since, bold_ends_later, is_bold_outside, is_outside_of, effect_on, is_bold_outside_at, start_of, turn_at, turns_of, flipped}
use Rattle.wt_quotes.specs.Styles.{styles_by, style_tree_of}
use Rattle.std.proofs.Math.Seq.{drop-cons}
use Rattle.wt_quotes.proofs.Exchange.{Rising, toggles_are_runs, toggles_switch, toggles_rise}
use Rattle.wt_quotes.proofs.Places.{place_le, place_mono, run_within}
use Rattle.wt_quotes.proofs.Since.{since_more, since_none, flipped_within}
use Rattle.wt_quotes.proofs.SixStates.{Step, step, made, run, toggled, effect_by, outside_by, outside_after, bytes_by, AreSteps}

abbrev pub step_at : List Chunk → List Toggle → ℕ → Step
step_at chunks ts i = step (option_map_or (start_of chunks) (slice_get ts i) 0) (toggles_at true ts i) (toggles_at false ts i) (bold_ends_later ts i)

-- what is outside, by what is open

inside_is : (ts : List Toggle) (a b : Option ℕ) → is_outside_of false ts a b ≡ ((is_some a && is_some b) && not (is_outside_of true ts a b))
inside_is ts None None = refl
inside_is ts None (Some b) = refl
inside_is ts (Some a) None = refl
inside_is ts (Some a) (Some b) = refl

outside_is : (ts : List Toggle) (a b : Option ℕ) → is_outside_of true ts a b ≡ ((is_some a && is_some b) && is_outside_of true ts a b)
outside_is ts None None = refl
outside_is ts None (Some b) = refl
outside_is ts (Some a) None = refl
outside_is ts (Some a) (Some b) = refl

flag_is : (ts : List Toggle) (i : ℕ) (a b : Option ℕ) →
    (if is_some a || is_some b then is_outside_of true ts a b else bold_ends_later ts i)
    ≡ outside_by (is_some a) (is_some b) (is_outside_of true ts a b) (bold_ends_later ts i)
flag_is ts i None None = refl
flag_is ts i None (Some b) = refl
flag_is ts i (Some a) None = refl
flag_is ts i (Some a) (Some b) = refl

before : (ts : List Toggle) (a i : ℕ) → a < i → is_bold_outside ts a i ≡ true
before ts a i h = grind (arith, nat_tests)

after : (ts : List Toggle) (i b : ℕ) → b < i → is_bold_outside ts i b ≡ false
after ts i b h = grind (arith, nat_tests)

at_once : (ts : List Toggle) (i : ℕ) → is_bold_outside ts i i ≡ bold_ends_later ts i
at_once ts i = grind (arith, nat_tests)

some_is : (t : Bool) (i : ℕ) (o : Option ℕ) → is_some (flipped t i o) ≡ toggled t (is_some o)
some_is false i o = refl
some_is true i None = refl
some_is true i (Some a) = refl

outside_more : (ts : List Toggle) (i : ℕ) (a b : Option ℕ) (x y : Bool) → (x || y) ≡ true → IfSome a (λ k. k < i) → IfSome b (λ k. k < i)
    → is_outside_of true ts (flipped x i a) (flipped y i b) ≡ outside_after (is_some a) (is_some b) x y (bold_ends_later ts i)
outside_more ts i a b false false e h k = absurd (cc)
outside_more ts i None None true true e h k = at_once ts i
outside_more ts i None None true false e h k = refl
outside_more ts i None None false true e h k = refl
outside_more ts i None (Some b) true true e h k = refl
outside_more ts i None (Some b) true false e h k = after ts i b k
outside_more ts i None (Some b) false true e h k = refl
outside_more ts i (Some a) None true true e h k = refl
outside_more ts i (Some a) None true false e h k = refl
outside_more ts i (Some a) None false true e h k = before ts a i h
outside_more ts i (Some a) (Some b) true true e h k = refl
outside_more ts i (Some a) (Some b) true false e h k = refl
outside_more ts i (Some a) (Some b) false true e h k = refl

abbrev turn_with : ℕ → List Toggle → ℕ → Option ℕ → Option ℕ → Bool → Bool → Bool → PlacedToggle
turn_with z ts i a b inside outside flag = record {
  start = z;
  bold = effect_by (toggles_at true ts i) (is_some a) (toggles_at false ts i && inside);
  italic = effect_by (toggles_at false ts i) (is_some b) (toggles_at true ts i && outside);
  bold_outside = flag;
}

turn_made : (chunks : List Chunk) (ts : List Toggle) (i : ℕ) → turn_at chunks ts i
    ≡ made (is_some (since true ts i)) (is_some (since false ts i)) (is_outside_of true ts (since true ts i) (since false ts i)) (step_at chunks ts i)
unfolding turn_at effect_on is_bold_outside_at
turn_made chunks ts i =
    let a : Option ℕ = since true ts i in
    let b : Option ℕ = since false ts i in
    let z : ℕ = option_map_or (start_of chunks) (slice_get ts i) 0 in
    ap (λ (x : Bool). turn_with z ts i a b x (is_outside_of true ts a b)
    (if is_some a || is_some b then is_outside_of true ts a b else bold_ends_later ts i)) (inside_is ts a b)
    ∙ ap (λ (x : Bool). turn_with z ts i a b ((is_some a && is_some b) && not (is_outside_of true ts a b)) x
    (if is_some a || is_some b then is_outside_of true ts a b else bold_ends_later ts i)) (outside_is ts a b)
    ∙ ap (λ (x : Bool). turn_with z ts i a b ((is_some a && is_some b) && not (is_outside_of true ts a b))
    ((is_some a && is_some b) && is_outside_of true ts a b) x) (flag_is ts i a b)

within_next : (bold : Bool) (ts : List Toggle) (i : ℕ) → i < length ts → IfSome (since bold ts i) (λ k. k < i) → IfSome (since bold ts (i + 1)) (λ k. k < i + 1)
within_next bold ts i l h = subst (λ o. IfSome o (λ k. k < i + 1)) (sym (since_more bold ts i l)) (flipped_within (toggles_at bold ts i) i (since bold ts i) h)

open_next : (bold : Bool) (ts : List Toggle) (i : ℕ) → i < length ts
    → is_some (since bold ts (i + 1)) ≡ toggled (toggles_at bold ts i) (is_some (since bold ts i))
open_next bold ts i l = ap is_some (since_more bold ts i l) ∙ some_is (toggles_at bold ts i) i (since bold ts i)

outside_next : (ts : List Toggle) (i : ℕ) → i < length ts → (toggles_at true ts i || toggles_at false ts i) ≡ true
    → IfSome (since true ts i) (λ k. k < i) → IfSome (since false ts i) (λ k. k < i)
    → is_outside_of true ts (since true ts (i + 1)) (since false ts (i + 1))
    ≡ outside_after (is_some (since true ts i)) (is_some (since false ts i)) (toggles_at true ts i) (toggles_at false ts i) (bold_ends_later ts i)
outside_next ts i l e h k =
    ap (λ o. is_outside_of true ts o (since false ts (i + 1))) (since_more true ts i l)
    ∙ ap (λ o. is_outside_of true ts (flipped (toggles_at true ts i) i (since true ts i)) o) (since_more false ts i l)
    ∙ outside_more ts i (since true ts i) (since false ts i) (toggles_at true ts i) (toggles_at false ts i) e h k

switches_at : (ts : List Toggle) (i : ℕ) → All Switches ts → i < length ts → (toggles_at true ts i || toggles_at false ts i) ≡ true
switches_at ts i sw h =
    let d : Toggle = record { chunk = 0; plain = 0; italic = false; bold = false } in
    let e : slice_get ts i ≡ Some (get_or ts i d) = slice_get-get_or ts i d h in
    ap (λ p. option_map_or (is_of true) p false || option_map_or (is_of false) p false) e ∙ sw i d h

run_more : (chunks : List Chunk) (ts : List Toggle) (i : ℕ) (us : List PlacedToggle) (rs : List Step) → All Switches ts → i < length ts
    → IfSome (since true ts i) (λ k. k < i) → IfSome (since false ts i) (λ k. k < i)
    → us ≡ run (is_some (since true ts (i + 1))) (is_some (since false ts (i + 1))) (is_outside_of true ts (since true ts (i + 1)) (since false ts (i + 1))) rs
    → turn_at chunks ts i ∷ us ≡ run (is_some (since true ts i)) (is_some (since false ts i))
    (is_outside_of true ts (since true ts i) (since false ts i)) (step_at chunks ts i ∷ rs)
run_more chunks ts i us rs sw l h k e =
    let had_bold : Bool = is_some (since true ts i) in
    let had_italic : Bool = is_some (since false ts i) in
    let b : Bool = toggles_at true ts i in
    let m : Bool = toggles_at false ts i in
    let first : PlacedToggle = made had_bold had_italic (is_outside_of true ts (since true ts i) (since false ts i)) (step_at chunks ts i) in
    ap (λ t. t ∷ us) (turn_made chunks ts i)
    ∙ ap (λ vs. first ∷ vs) (e
    ∙ ap (λ x. run x (is_some (since false ts (i + 1))) (is_outside_of true ts (since true ts (i + 1)) (since false ts (i + 1))) rs) (open_next true ts i l)
    ∙ ap (λ x. run (toggled b had_bold) x (is_outside_of true ts (since true ts (i + 1)) (since false ts (i + 1))) rs) (open_next false ts i l)
    ∙ ap (λ x. run (toggled b had_bold) (toggled m had_italic) x rs) (outside_next ts i l (switches_at ts i sw l) h k))

turns_run : (chunks : List Chunk) (ts : List Toggle) → All Switches ts → (i m : ℕ) → i + m ≡ length ts
    → IfSome (since true ts i) (λ k. k < i) → IfSome (since false ts i) (λ k. k < i)
    → map (turn_at chunks ts) (range_with_len i m)
    ≡ run (is_some (since true ts i)) (is_some (since false ts i)) (is_outside_of true ts (since true ts i) (since false ts i))
    (map (step_at chunks ts) (range_with_len i m))
turns_run chunks ts sw i zero e h k = refl
turns_run chunks ts sw i (suc m) e h k =
    let l : i < length ts = omega arith in
    run_more chunks ts i (map (turn_at chunks ts) (range_with_len (i + 1) m)) (map (step_at chunks ts) (range_with_len (i + 1) m)) sw l h k
    (turns_run chunks ts sw (i + 1) m (omega arith) (within_next true ts i l h) (within_next false ts i l k))

-- the toggles of a context as steps
abbrev pub steps_of : List Chunk → List Toggle → List Step
steps_of chunks ts = map (step_at chunks ts) (range_with_len 0 (length ts))

bytes_at : (ts : List Toggle) (i : ℕ) (t : Toggle) → slice_get ts i ≡ Some t → bytes_by (toggles_at true ts i) (toggles_at false ts i) ≡ width_of t
bytes_at ts i t e =
    let b : toggles_at true ts i ≡ t.bold = ap (λ p. option_map_or (is_of true) p false) e in
    let m : toggles_at false ts i ≡ t.italic = ap (λ p. option_map_or (is_of false) p false) e in
    ap (λ x. bytes_by x (toggles_at false ts i)) b ∙ ap (bytes_by t.bold) m ∙ (omega arith)

rising_all : (ts : List Toggle) → Rising 0 ts → Rising 0 (drop 0 ts)
rising_all [] h = h
rising_all (t ∷ ts) h = h

steps_from : (chunks : List Chunk) (ts : List Toggle) → All (IsOfRun chunks) ts → All Switches ts → (i m k low : ℕ)
    → i + m ≡ length ts → Rising k (drop i ts) → low ≤ place_of chunks k
    → AreSteps low (bytes_of chunks) (map (step_at chunks ts) (range_with_len i m))
steps_from chunks ts runs sw i zero k low e rise l = omega (arith, place_le chunks k)
steps_from chunks ts runs sw i (suc m) k low e rise l =
    let d : Toggle = record { chunk = 0; plain = 0; italic = false; bold = false } in
    let h : i < length ts = omega arith in
    let t : Toggle = get_or ts i d in
    let is : slice_get ts i ≡ Some t = slice_get-get_or ts i d h in
    let up : Rising k (t ∷ drop (suc i) ts) = subst (Rising k) (drop-cons ts i d h) rise in
    let z : suc i ≡ i + 1 = omega arith in
    let s : option_map_or (start_of chunks) (slice_get ts i) 0 ≡ start_of chunks t = ap (λ p. option_map_or (start_of chunks) p 0) is in
    let run_is = runs i d h in (
      omega (arith, s, place_mono chunks k t.chunk up.0, l),
      switches_at ts i sw h,
      steps_from chunks ts runs sw (i + 1) m (t.chunk + 1)
          (option_map_or (start_of chunks) (slice_get ts i) 0 + bytes_by (toggles_at true ts i) (toggles_at false ts i)) (omega arith)
          (subst (λ n. Rising (t.chunk + 1) (drop n ts)) z up.1)
          (omega (arith, s, bytes_at ts i t is, run_is.1, run_within chunks t.chunk run_is.0)),
    )

pub are_steps : (chunks : List Chunk) → AreSteps 0 (bytes_of chunks) (steps_of chunks (toggles_of chunks))
are_steps chunks =
    steps_from chunks (toggles_of chunks) (toggles_are_runs chunks) (toggles_switch chunks) 0 (length (toggles_of chunks)) 0 0
    (omega arith) (rising_all (toggles_of chunks) (toggles_rise chunks)) (omega arith)

turns_read : (chunks : List Chunk) (ts : List Toggle) → All Switches ts → turns_of chunks ts ≡ run false false false (steps_of chunks ts)
turns_read chunks ts sw =
    let a : None ≡ since true ts 0 = since_none true ts in
    let b : None ≡ since false ts 0 = since_none false ts in
    turns_run chunks ts sw 0 (length ts) (omega arith) (subst (λ o. IfSome o (λ k. k < 0)) a tt) (subst (λ o. IfSome o (λ k. k < 0)) b tt)
    ∙ ap (λ o. run (is_some o) (is_some (since false ts 0)) (is_outside_of true ts o (since false ts 0)) (steps_of chunks ts)) (sym a)
    ∙ ap (λ o. run false (is_some o) false (steps_of chunks ts)) (sym b)

pub styles_read : (chunks : List Chunk) → style_tree_of chunks ≡ styles_by (bytes_of chunks) (run false false false (steps_of chunks (toggles_of chunks)))
unfolding style_tree_of
styles_read chunks = ap (styles_by (bytes_of chunks)) (turns_read chunks (toggles_of chunks) (toggles_switch chunks))

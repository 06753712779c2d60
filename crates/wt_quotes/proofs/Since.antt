-- One toggle more: what it makes of the style that is open before it.
use Rattle.std.proofs.Common.{◌≡◌, ℕ, zero, suc, ◌+◌, ◌%◌, ◌<◌, Bool, true, false, not, Option, Some, None, List, [], ◌∷◌, length, take, get_or, refl, sym, ap, ◌∙◌, arith}
use Rattle.std.specs.Prelude.{◌==◌, if◌then◌else◌, count_by, slice_get, IfSome}
use Rattle.std.proofs.lemmas.List.Sums.{count_by_more_yes, count_by_more_no}
use Rattle.std.proofs.lemmas.Option.{slice_get-get_or}
use Rattle.std.specs.Option.{option_map_or}
use Rattle.wt_quotes.specs.declared.chunk.Chunk.{Chunk}
use Rattle.wt_quotes.specs.declared.toggle.Toggle.{Toggle}
use Rattle.wt_quotes.specs.declared.turn.Opened.{Opened}
use Rattle.wt_quotes.specs.Turns.{is_of, toggles_at, is_open, last_before, since, flipped, start_of, turn_of, turn_at}

flip_step : (t o : Bool) (i l : ℕ) → (if (if t then not o else o) then Some (if t then i else l) else None) ≡ flipped t i (if o then Some l else None)
flip_step true true i l = refl
flip_step true false i l = refl
flip_step false true i l = refl
flip_step false false i l = refl

parity_of : (r s : ℕ) → (r ≡ 0 → s ≡ 1) → (r ≡ 1 → s ≡ 0) → r < 2 → (s == 1) ≡ not (r == 1)
parity_of zero s even odd h = ap (λ x. x == 1) (even refl)
parity_of (suc zero) s even odd h = ap (λ x. x == 1) (odd (omega arith))
parity_of (suc (suc r)) s even odd h = absurd (omega arith)

pub parity : (n : ℕ) → ((n + 1) % 2 == 1) ≡ not (n % 2 == 1)
parity n = parity_of (n % 2) ((n + 1) % 2) (λ e. omega arith) (λ e. omega arith) (omega arith)

open_case : (bold : Bool) (ts : List Toggle) (i : ℕ) (d : Toggle) (b : Bool) → is_of bold (get_or ts i d) ≡ b → i < length ts
    → is_open bold ts (i + 1) ≡ (if b then not (is_open bold ts i) else is_open bold ts i)
open_case bold ts i d true e h = ap (λ n. n % 2 == 1) (count_by_more_yes (is_of bold) ts i d h e) ∙ parity (count_by (is_of bold) (take i ts))
open_case bold ts i d false e h = ap (λ n. n % 2 == 1) (count_by_more_no (is_of bold) ts i d h e)

open_more : (bold : Bool) (ts : List Toggle) (i : ℕ) → i < length ts
    → is_open bold ts (suc i) ≡ (if toggles_at bold ts i then not (is_open bold ts i) else is_open bold ts i)
open_more bold ts i h =
    let z : suc i ≡ i + 1 = omega arith in
    let d : Toggle = record { chunk = 0; plain = 0; italic = false; bold = false } in
    let e : toggles_at bold ts i ≡ is_of bold (get_or ts i d) = ap (λ o. option_map_or (is_of bold) o false) (slice_get-get_or ts i d h) in
    ap (is_open bold ts) z ∙ open_case bold ts i d (is_of bold (get_or ts i d)) refl h
    ∙ ap (λ b. if b then not (is_open bold ts i) else is_open bold ts i) (sym e)

pub since_more : (bold : Bool) (ts : List Toggle) (i : ℕ) → i < length ts → since bold ts (i + 1) ≡ flipped (toggles_at bold ts i) i (since bold ts i)
unfolding since
since_more bold ts i h =
    let z : i + 1 ≡ suc i = omega arith in
    ap (since bold ts) z ∙ ap (λ o. if o then Some (last_before bold ts (suc i)) else None) (open_more bold ts i h)
    ∙ flip_step (toggles_at bold ts i) (is_open bold ts i) i (last_before bold ts i)

pub since_none : (bold : Bool) (ts : List Toggle) → None ≡ since bold ts 0
unfolding since
since_none bold [] = refl
since_none bold (t ∷ ts) = refl

pub flipped_within : (t : Bool) (i : ℕ) (o : Option ℕ) → IfSome o (λ a. a < i) → IfSome (flipped t i o) (λ a. a < i + 1)
flipped_within false i None h = h
flipped_within false i (Some a) h = omega arith
flipped_within true i None h = omega arith
flipped_within true i (Some a) h = tt

pub within_more : (i n : ℕ) (o : Option ℕ) → i < n → IfSome o (λ a. a < i) → IfSome o (λ a. a < n)
within_more i n None l h = tt
within_more i n (Some a) l h = omega arith

-- the turn by what the code keeps
pub turn_is : (chunks : List Chunk) (ts : List Toggle) (i start : ℕ) (o : Opened) (d : Toggle) → i < length ts → start ≡ start_of chunks (get_or ts i d)
    → o.bold ≡ since true ts i → o.italic ≡ since false ts i → turn_of start ts i o ≡ turn_at chunks ts i
unfolding turn_at
turn_is chunks ts i start o d h s b t =
    let e : start_of chunks (get_or ts i d) ≡ option_map_or (start_of chunks) (slice_get ts i) 0 =
    ap (λ p. option_map_or (start_of chunks) p 0) (sym (slice_get-get_or ts i d h)) in
    let z : ℕ = option_map_or (start_of chunks) (slice_get ts i) 0 in
    ap (λ x. turn_of x ts i o) (s ∙ e) ∙ ap (λ (x : Option ℕ). turn_of z ts i (record { bold = x; italic = o.italic })) b
    ∙ ap (λ (x : Option ℕ). turn_of z ts i (record { bold = since true ts i; italic = x })) t

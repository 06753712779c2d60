-- The toggles of segments among which styles nest are the delimiters of these styles: bold and italic ones are even in number, so no run is exchanged.
use Rattle.std.proofs.Common.{arith, ◌≡◌, ℕ, suc, ◌+◌, ◌%◌, Bool, true, false, not, cond, Option, Some, List, [], ◌∷◌, length, take, map, refl, sym, ap, ◌∙◌, subst}
use Rattle.std.specs.Prelude.{◌==◌, ◌&&◌, if◌then◌else◌, count_by, slice_get}
use Rattle.std.specs.List.{filter_map, cons_option, range_with_len}
use Rattle.std.specs.Option.{option_map_or}
use Rattle.std.proofs.lemmas.List.Sums.{sum_by-cons}
use Rattle.wt_quotes.specs.declared.chunk.Chunk.{Chunk}
use Rattle.wt_quotes.specs.declared.chunk.Chunk.TheVariants as chunk
use Rattle.wt_quotes.specs.declared.toggle.Toggle.{Toggle}
use Rattle.wt_quotes.specs.Runs.{chunk_bytes, bytes_of, place_of, run_length}
use Rattle.wt_quotes.specs.Styles.{width}
use Rattle.wt_quotes.specs.Toggles.{toggle_of, toggle_at, toggles_by_length, exchange_place, exchange_at, is_odd, is_due, toggles_of}
use Rattle.wt_quotes.specs.Turns.{is_of, start_of}
use Rattle.wt_quotes.proofs.SixStates.{Step, step}
use Rattle.wt_quotes.proofs.Reading.{step_at, steps_of}
use Rattle.wt_context.specs.Chunks.{chunks}
use Rattle.wt_beside_laws.specs.Nests.{Nest, stretch, enclosing, nest_segments, IsNest}
use Rattle.wt_beside_laws.proofs.Styled.NestRuns.{runs_from, nest_length, delimiters, as_runs, all_runs}

-- ---- the toggles by the lengths of the runs, from chunk to chunk

abbrev toggles_from : ℕ → List Chunk → List Toggle
toggles_from k [] = []
toggles_from k (c ∷ cs) = cons_option (toggle_of k (run_length (Some c))) (toggles_from (k + 1) cs)

by_length : (f : ℕ → Option Toggle) (k : ℕ) (cs : List Chunk) → ((j : ℕ) → f (k + j) ≡ toggle_of (k + j) (run_length (slice_get cs j)))
    → filter_map f (range_with_len k (length cs)) ≡ toggles_from k cs
by_length f k [] h = refl
by_length f k (c ∷ cs) h =
    let z : k + 0 ≡ k = omega arith in
    let first : f k ≡ toggle_of k (run_length (Some c)) = subst (λ (m : ℕ). f m ≡ toggle_of m (run_length (Some c))) z (h 0) in
    ap (λ o. cons_option o (filter_map f (range_with_len (k + 1) (length cs)))) first
    ∙ ap (cons_option (toggle_of k (run_length (Some c)))) (by_length f (k + 1) cs (λ j.
    let y : k + suc j ≡ (k + 1) + j = omega arith in subst (λ (m : ℕ). f m ≡ toggle_of m (run_length (slice_get cs j))) y (h (suc j))))

toggles_are : (cs : List Chunk) → toggles_by_length cs ≡ toggles_from 0 cs
unfolding toggle_at
toggles_are cs =
    by_length (toggle_at cs) 0 cs (λ j. let z : 0 + j ≡ j = omega arith in ap (λ (m : ℕ). toggle_of (0 + j) (run_length (slice_get cs m))) z)

-- ---- each is a delimiter

abbrev AreToggles : List Chunk → List (ℕ × Bool) → List Toggle → Type 0
AreToggles full [] [] = Unit {0}
AreToggles full [] (t ∷ ts) = ⊥
AreToggles full (w ∷ ws) [] = ⊥
AreToggles full (w ∷ ws) (t ∷ ts) = (start_of full t ≡ w.0) × (t.bold ≡ w.1) × (t.italic ≡ not w.1) × AreToggles full ws ts

place_first : List (ℕ × ℕ) → ℕ
place_first [] = 0
place_first (w ∷ ws) = w.0

length_first : List (ℕ × ℕ) → ℕ
length_first [] = 0
length_first (w ∷ ws) = w.1

others : List (ℕ × ℕ) → List (ℕ × ℕ)
others [] = []
others (w ∷ ws) = ws

record IsFirst (at n q m : ℕ) (xs ys : List (ℕ × ℕ)) : Type 0 where
  place : at ≡ q
  long : n ≡ m
  rest : xs ≡ ys

first_is : (at n q m : ℕ) (xs ys : List (ℕ × ℕ)) → (at, n) ∷ xs ≡ (q, m) ∷ ys → IsFirst at n q m xs ys
unfolding place_first length_first others
first_is at n q m xs ys e = record { place = ap place_first e; long = ap length_first e; rest = ap others e }

next_place : (full : List Chunk) (k at n : ℕ) (c : Chunk) (cs : List Chunk) → chunk_bytes c ≡ n
    → ((j : ℕ) → place_of full (k + j) ≡ at + bytes_of (take j (c ∷ cs))) → (j : ℕ) → place_of full ((k + 1) + j) ≡ (at + n) + bytes_of (take j cs)
next_place full k at n c cs i p j =
    let z : (k + 1) + j ≡ k + suc j = omega arith in
    let y : at + (chunk_bytes c + bytes_of (take j cs)) ≡ (at + n) + bytes_of (take j cs) = omega (arith, i) in
    ap (place_of full) z ∙ p (suc j) ∙ y

run_toggle : (full : List Chunk) (k q n : ℕ) (kind : Bool) (ws : List (ℕ × Bool)) (ts : List Toggle) → n ≡ width kind → place_of full k ≡ q → AreToggles full ws ts
    → AreToggles full ((q, kind) ∷ ws) (cons_option (toggle_of k n) ts)
run_toggle full k q n kind ws ts i p h = subst (λ (m : ℕ). AreToggles full ((q, kind) ∷ ws) (cons_option (toggle_of k m) ts)) (sym i) (by kind)
  where
    by : (b : Bool) → AreToggles full ((q, b) ∷ ws) (cons_option (toggle_of k (width b)) ts)
    by true = (omega (arith, p), refl, refl, h)
    by false = (omega (arith, p), refl, refl, h)

toggles_match : (full : List Chunk) (k at : ℕ) (cs : List Chunk) (ws : List (ℕ × Bool)) → ((j : ℕ) → place_of full (k + j) ≡ at + bytes_of (take j cs))
    → runs_from at cs ≡ as_runs ws → AreToggles full ws (toggles_from k cs)
toggles_match full k at [] [] p e = tt
toggles_match full k at [] (w ∷ ws) p e = cc
toggles_match full k at (chunk.Text n l b ∷ cs) ws p e = toggles_match full (k + 1) (at + n) cs ws (next_place full k at n (chunk.Text n l b) cs refl p) e
toggles_match full k at (chunk.Tile n l b ∷ cs) ws p e = toggles_match full (k + 1) (at + n) cs ws (next_place full k at n (chunk.Tile n l b) cs refl p) e
toggles_match full k at (chunk.Run n ∷ cs) [] p e = cc
toggles_match full k at (chunk.Run n ∷ cs) (w ∷ ws) p e =
    let is = first_is at n w.0 (width w.1) (runs_from (at + n) cs) (as_runs ws) e in
    let z : k + 0 ≡ k = omega arith in
    let here : place_of full (k + 0) ≡ at + 0 = p 0 in
    let y : at + 0 ≡ w.0 = omega (arith, is.place) in
    run_toggle full k w.0 n w.1 ws (toggles_from (k + 1) cs) is.long (sym (ap (place_of full) z) ∙ here ∙ y)
    (toggles_match full (k + 1) (at + n) cs ws (next_place full k at n (chunk.Run n) cs refl p) is.rest)

place_from : (cs : List Chunk) (j : ℕ) → place_of cs (0 + j) ≡ 0 + bytes_of (take j cs)
unfolding place_of
place_from cs j =
    let z : 0 + j ≡ j = omega arith in
    let y : bytes_of (take j cs) ≡ 0 + bytes_of (take j cs) = omega arith in
    ap (λ (m : ℕ). bytes_of (take m cs)) z ∙ y

nest_toggles : (n : Nest) → IsNest false false n [] → AreToggles (chunks (nest_segments n [])) (delimiters 0 n []) (toggles_by_length (chunks (nest_segments n [])))
nest_toggles n h =
    let cs : List Chunk = chunks (nest_segments n []) in
    subst (AreToggles cs (delimiters 0 n [])) (sym (toggles_are cs)) (toggles_match cs 0 0 cs (delimiters 0 n []) (place_from cs) (all_runs n h))

-- ---- their numbers

abbrev is_kind : Bool → Bool → Bool
is_kind true kind = kind
is_kind false kind = not kind

abbrev one_if : Bool → ℕ
one_if b = cond b 1 0

abbrev count_kind : Bool → List (ℕ × Bool) → ℕ
count_kind b [] = 0
count_kind b (w ∷ ws) = one_if (is_kind b w.1) + count_kind b ws

same_number : (full : List Chunk) (b : Bool) (ws : List (ℕ × Bool)) (ts : List Toggle) → AreToggles full ws ts → count_by (is_of b) ts ≡ count_kind b ws
same_number full b [] [] h = refl
same_number full b [] (t ∷ ts) h = absurd h
same_number full b (w ∷ ws) [] h = absurd h
same_number full b (w ∷ ws) (t ∷ ts) h =
    let own : one_if (is_of b t) ≡ one_if (is_kind b w.1) = ap one_if (by b h.1 h.2) in
    omega (arith, sum_by-cons (λ v. cond (is_of b v) 1 0) t ts, own, same_number full b ws ts h.3)
  where
    by : (k : Bool) → t.bold ≡ w.1 → t.italic ≡ not w.1 → is_of k t ≡ is_kind k w.1
    by true e f = e
    by false e f = f

record Doubled (x y : ℕ) : Type 0 where
  half : ℕ
  is : x ≡ half + half + y

doubled : (b : Bool) (at : ℕ) (n : Nest) (ws : List (ℕ × Bool)) → Doubled (count_kind b (delimiters at n ws)) (count_kind b ws)
doubled b at (stretch us) ws = record { half = 0; is = omega arith }
doubled b at (enclosing origin us kind inside after) ws =
    let p : ℕ = at + length us in
    let q : ℕ = p + width kind in
    let r : ℕ = q + nest_length inside in
    let a = doubled b (r + width kind) after ws in
    let i = doubled b q inside ((r, kind) ∷ delimiters (r + width kind) after ws) in
    record { half = one_if (is_kind b kind) + i.half + a.half; is = omega (arith, i.is, a.is) }

even_is : (x h : ℕ) → x ≡ h + h + 0 → (x % 2 == 1) ≡ false
even_is x h e = let z : x % 2 ≡ 0 = omega (arith, e) in ap (λ (m : ℕ). m == 1) z

even_of : (b : Bool) (n : Nest) → IsNest false false n [] → is_odd (is_of b) (toggles_by_length (chunks (nest_segments n []))) ≡ false
even_of b n h =
    let cs = chunks (nest_segments n []) in
    let d = doubled b 0 n [] in
    even_is (count_by (is_of b) (toggles_by_length cs)) d.half (same_number cs b (delimiters 0 n []) (toggles_by_length cs) (nest_toggles n h) ∙ d.is)

not_due : (n : Nest) → IsNest false false n [] → is_due (toggles_by_length (chunks (nest_segments n []))) ≡ false
not_due n h = ap (λ (x : Bool). x && is_odd (λ t. t.italic) (toggles_by_length (chunks (nest_segments n [])))) (even_of true n h)

-- no run is exchanged
pub by_length_alone : (n : Nest) → IsNest false false n []
    → toggles_of (chunks (nest_segments n [])) ≡ toggles_by_length (chunks (nest_segments n []))
unfolding toggles_of
by_length_alone n h =
    let cs : List Chunk = chunks (nest_segments n []) in
    let ts : List Toggle = toggles_by_length cs in
    ap (λ (x : Bool). if x then exchange_at (exchange_place cs ts) ts else ts) (not_due n h)

pub nest_even : (b : Bool) (n : Nest) → IsNest false false n [] → is_odd (is_of b) (toggles_of (chunks (nest_segments n []))) ≡ false
nest_even b n h = ap (is_odd (is_of b)) (by_length_alone n h) ∙ even_of b n h

-- ---- as steps

abbrev pub Matches : List (ℕ × Bool) → List Step → Type 0
Matches [] [] = Unit {0}
Matches [] (r ∷ rs) = ⊥
Matches (w ∷ ws) [] = ⊥
Matches (w ∷ ws) (step s b i f ∷ rs) = (s ≡ w.0) × (b ≡ w.1) × (i ≡ not w.1) × Matches ws rs

steps_match : (full : List Chunk) (ts us : List Toggle) (k : ℕ) (ws : List (ℕ × Bool)) → ((j : ℕ) → slice_get ts (k + j) ≡ slice_get us j)
    → AreToggles full ws us → Matches ws (map (step_at full ts) (range_with_len k (length us)))
steps_match full ts [] k [] h m = tt
steps_match full ts [] k (w ∷ ws) h m = absurd m
steps_match full ts (u ∷ us) k [] h m = absurd m
steps_match full ts (u ∷ us) k (w ∷ ws) h m =
    let z : k + 0 ≡ k = omega arith in
    let first : slice_get ts k ≡ Some u = subst (λ (j : ℕ). slice_get ts j ≡ Some u) z (h 0) in (
      ap (λ o. option_map_or (start_of full) o 0) first ∙ m.0,
      ap (λ o. option_map_or (is_of true) o false) first ∙ m.1,
      ap (λ o. option_map_or (is_of false) o false) first ∙ m.2,
      steps_match full ts us (k + 1) ws (λ j. let y : (k + 1) + j ≡ k + suc j = omega arith in ap (slice_get ts) y ∙ h (suc j)) m.3,
    )

pub nest_steps : (n : Nest) → IsNest false false n []
    → Matches (delimiters 0 n []) (steps_of (chunks (nest_segments n [])) (toggles_of (chunks (nest_segments n []))))
nest_steps n h =
    let cs : List Chunk = chunks (nest_segments n []) in
    let ts : List Toggle = toggles_by_length cs in
    subst (λ us. Matches (delimiters 0 n []) (steps_of cs us)) (sym (by_length_alone n h))
    (steps_match cs ts ts 0 (delimiters 0 n []) (λ j. let z : 0 + j ≡ j = omega arith in ap (slice_get ts) z) (nest_toggles n h))

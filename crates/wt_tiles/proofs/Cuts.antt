-- The shapes of what is left of a context: one character more, one form more.
use Rattle.std.proofs.Common.{◌≡◌, ℕ, zero, suc, ◌+◌, ◌-◌, ◌<◌, ◌≤◌, ◌==◌, Bool, true, false, Option, Some, None, List, [], ◌∷◌, ◌++◌, length, drop, refl, sym, ap, ◌∙◌, arith, append_assoc, drop-drop, length-drop}
use Rattle.std.specs.Prelude.{if◌then◌else◌}
use Rattle.std.proofs.lemmas.Bool.Decides.{nat_tests}
use Rattle.std.proofs.lemmas.List.{drop_all}
use Rattle.wt_tiles.specs.declared.context.Context.{Context}
use Rattle.wt_tiles.specs.declared.glyph.Glyph.{Glyph}
use Rattle.wt_tiles.specs.declared.shape.Shape.{Shape}
use Rattle.wt_tiles.specs.Glyphs.{is_in}
use Rattle.wt_tiles.specs.Urls.{is_word}
use Rattle.wt_tiles.specs.Tiles.{size, chars, Cut, closed, cut_with, cuts, shapes}
use Rattle.wt_tiles.specs.Reading.{tile_at, is_word_at, word_before}

-- ---- runs of characters before forms

pub closed_zero : (ws : List Shape) → closed 0 ws ≡ ws
unfolding closed
closed_zero ws = refl

pub closed_pos : (n : ℕ) (ws : List Shape) → 0 < n → closed n ws ≡ chars n ∷ ws
unfolding closed
closed_pos n ws pos =
    let e : (n == 0) ≡ false = grind (arith, nat_tests) in
    ap (λ t. if t then ws else chars n ∷ ws) e

closed_if : (t : Bool) (n : ℕ) (ws : List Shape) → (if t then ws else chars n ∷ ws) ≡ (if t then [] else chars n ∷ []) ++ ws
closed_if true n ws = refl
closed_if false n ws = refl

pub closed_split : (n : ℕ) (ws : List Shape) → closed n ws ≡ closed n [] ++ ws
unfolding closed
closed_split n ws = closed_if (n == 0) n ws

-- ---- what stands before

pub words : (g : Glyph) (gs : List Glyph) (n : ℕ) → word_before (is_in is_word g) gs n ≡ is_word_at (g ∷ gs) n
words g gs zero = refl
words g gs (suc n) = refl

word_at_drop : (at k : ℕ) (gs : List Glyph) → is_word_at (drop at gs) k ≡ is_word_at gs (at + k)
word_at_drop zero k gs = let z : 0 + k ≡ k = omega arith in ap (is_word_at gs) (sym z)
word_at_drop (suc at) k [] = refl
word_at_drop (suc at) k (g ∷ gs) = let z : suc at + k ≡ suc (at + k) = omega arith in word_at_drop at k gs ∙ ap (is_word_at (g ∷ gs)) (sym z)

pub word_far : (after : Bool) (at n : ℕ) (gs : List Glyph) → word_before (word_before after gs at) (drop at gs) n ≡ word_before after gs (at + n)
word_far after at zero gs = let z : at + 0 ≡ at = omega arith in ap (word_before after gs) (sym z)
word_far after at (suc n) gs = let z : at + suc n ≡ suc (at + n) = omega arith in word_at_drop at n gs ∙ ap (word_before after gs) (sym z)

-- ---- steps of the cuts

-- a form's items are skipped
pub skipped : (cx : Context) (after : Bool) (n : ℕ) (gs : List Glyph) → cuts cx after n gs ≡ cuts cx (word_before after gs n) 0 (drop n gs)
skipped cx after zero [] = refl
skipped cx after zero (g ∷ gs) = refl
skipped cx after (suc n) [] = refl
skipped cx after (suc n) (g ∷ gs) = skipped cx (is_in is_word g) n gs ∙ ap (λ (t : Bool). cuts cx t 0 (drop n gs)) (words g gs n)

pub cuts_cons : (cx : Context) (after : Bool) (g : Glyph) (gs : List Glyph) (o : Option Shape) → tile_at cx after (g ∷ gs) ≡ o
    → cuts cx after 0 (g ∷ gs) ≡ cut_with o (λ n. cuts cx (is_in is_word g) n gs)
cuts_cons cx after g gs o e = ap (λ o. cut_with o (λ n. cuts cx (is_in is_word g) n gs)) e

-- what is left from a place on
abbrev pub left : Context → List Glyph → ℕ → Cut
left cx gs at = cuts cx (word_before false gs at) 0 (drop at gs)

char_step : (cx : Context) (after : Bool) (gs : List Glyph) → 0 < length gs → tile_at cx after gs ≡ None
    → cuts cx after 0 gs ≡ (suc (cuts cx (word_before after gs 1) 0 (drop 1 gs)).0, (cuts cx (word_before after gs 1) 0 (drop 1 gs)).1)
char_step cx after [] h e = absurd (omega arith)
char_step cx after (g ∷ gs) h e = cuts_cons cx after g gs None e

form_step : (cx : Context) (after : Bool) (gs : List Glyph) (w : Shape) → 0 < size w → 0 < length gs → tile_at cx after gs ≡ Some w
    → cuts cx after 0 gs ≡ (
      0,
      w ∷ closed (cuts cx (word_before after gs (size w)) 0 (drop (size w) gs)).0
          (cuts cx (word_before after gs (size w)) 0 (drop (size w) gs)).1,
    )
form_step cx after [] w pos h e = absurd (omega arith)
form_step cx after (g ∷ gs) w pos h e =
    let z : suc (size w - 1) ≡ size w = omega arith in
    let F : Cut → Cut = λ c. (0, w ∷ closed c.0 c.1) in
    let G : ℕ → Cut = λ m. cuts cx (word_before after (g ∷ gs) m) 0 (drop m (g ∷ gs)) in
    cuts_cons cx after g gs (Some w) e ∙ ap F (skipped cx (is_in is_word g) (size w - 1) gs
    ∙ ap (λ (t : Bool). cuts cx t 0 (drop (size w - 1) gs)) (words g gs (size w - 1)) ∙ ap G z)

far : (cx : Context) (gs : List Glyph) (at n m : ℕ) → at + n ≡ m → cuts cx (word_before (word_before false gs at) (drop at gs) n)
    0 (drop n (drop at gs)) ≡ left cx gs m
far cx gs at n m e =
    ap (λ (t : Bool). cuts cx t 0 (drop n (drop at gs))) (word_far false at n gs)
    ∙ ap (λ (hs : List Glyph). cuts cx (word_before false gs (at + n)) 0 hs) (drop-drop n at gs) ∙ ap (left cx gs) e

pub left_char : (cx : Context) (gs : List Glyph) (at : ℕ) → at < length gs → tile_at cx (word_before false gs at) (drop at gs)
    ≡ None → left cx gs at ≡ (suc (left cx gs (at + 1)).0, (left cx gs (at + 1)).1)
left_char cx gs at h e =
    let F : Cut → Cut = λ c. (suc c.0, c.1) in
    char_step cx (word_before false gs at) (drop at gs) (omega (arith, length-drop at gs)) e ∙ ap F (far cx gs at 1 (at + 1) refl)

pub left_form : (cx : Context) (gs : List Glyph) (at : ℕ) (w : Shape) → at < length gs → 0 < size w → tile_at cx (word_before false gs at) (drop at gs) ≡ Some w
    → left cx gs at ≡ (0, w ∷ closed (left cx gs (at + size w)).0 (left cx gs (at + size w)).1)
left_form cx gs at w h pos e =
    let F : Cut → Cut = λ c. (0, w ∷ closed c.0 c.1) in
    form_step cx (word_before false gs at) (drop at gs) w pos (omega (arith, length-drop at gs)) e ∙ ap F (far cx gs at (size w) (at + size w) refl)

-- ---- the loop: what is done, a run that began at `from`, and what is left from `at` on

abbrev pub IsDone : Context → List Glyph → List Shape → ℕ → ℕ → Type 0
IsDone cx gs done from at = done ++ closed ((at - from) + (left cx gs at).0) (left cx gs at).1 ≡ shapes cx gs

-- one more character
pub char_more : (cx : Context) (gs : List Glyph) (from at : ℕ) (done : List Shape) → at < length gs → from ≤ at
    → tile_at cx (word_before false gs at) (drop at gs) ≡ None → IsDone cx gs done from at → IsDone cx gs done from (at + 1)
char_more cx gs from at done h le e had =
    let c = left_char cx gs at h e in
    let s : (at - from) + (suc (left cx gs (at + 1)).0) ≡ (at + 1 - from) + (left cx gs (at + 1)).0 = omega arith in
    ap (λ (m : ℕ). done ++ closed m (left cx gs (at + 1)).1) (sym s) ∙ ap (λ (x : Cut). done ++ closed ((at - from) + x.0) x.1) (sym c) ∙ had

-- one more form
pub form_more : (cx : Context) (gs : List Glyph) (old mid new : List Shape) (from at : ℕ) (w : Shape) → at < length gs
    → 0 < size w → tile_at cx (word_before false gs at) (drop at gs) ≡ Some w
    → mid ≡ old ++ closed (at - from) [] → new ≡ mid ++ w ∷ [] → IsDone cx gs old from at → IsDone cx gs new (at + size w) (at + size w)
form_more cx gs old mid new from at w h pos e mids news had =
    let c = left_form cx gs at w h pos e in
    let n : (at + size w - (at + size w)) + (left cx gs (at + size w)).0 ≡ (left cx gs (at + size w)).0 = omega arith in
    let k : (at - from) + 0 ≡ at - from = omega arith in
    let rest : List Shape = closed (left cx gs (at + size w)).0 (left cx gs (at + size w)).1 in
    let front : new ≡ (old ++ closed (at - from) []) ++ w ∷ [] = news ∙ ap (λ ws. ws ++ w ∷ []) mids in
    let back : closed ((at - from) + (left cx gs at).0) (left cx gs at).1 ≡ closed (at - from) [] ++ (w ∷ rest) =
    ap (λ (x : Cut). closed ((at - from) + x.0) x.1) c ∙ ap (λ (m : ℕ). closed m (w ∷ rest)) k ∙ closed_split (at - from) (w ∷ rest) in
    ap (λ (m : ℕ). new ++ closed m (left cx gs (at + size w)).1) n ∙ ap (λ ws. ws ++ rest) front
    ∙ append_assoc (old ++ closed (at - from) []) (w ∷ []) rest ∙ append_assoc old (closed (at - from) []) (w ∷ rest)
    ∙ ap (λ ws. old ++ ws) (sym back) ∙ had

-- nothing is left
pub none_left : (cx : Context) (gs : List Glyph) (from at : ℕ) (old new : List Shape) → length gs ≤ at
    → new ≡ old ++ closed (at - from) [] → IsDone cx gs old from at → new ≡ shapes cx gs
none_left cx gs from at old new h news had =
    let c : left cx gs at ≡ (0, []) = ap (cuts cx (word_before false gs at) 0) (drop_all at gs h) in
    let k : (at - from) + 0 ≡ at - from = omega arith in
    news ∙ ap (λ (m : ℕ). old ++ closed m []) (sym k) ∙ ap (λ (x : Cut). old ++ closed ((at - from) + x.0) x.1) (sym c) ∙ had

-- all is left
pub all_left : (cx : Context) (gs : List Glyph) → IsDone cx gs [] 0 0
unfolding shapes
all_left cx gs = let z : 0 - 0 + (left cx gs 0).0 ≡ (left cx gs 0).0 = omega arith in ap (λ (m : ℕ). closed m (left cx gs 0).1) z

-- The shapes of a context have the properties of the relation, and no other list has them.
use Rattle.std.proofs.Common.{◌≡◌, ℕ, zero, suc, ◌+◌, ◌-◌, ◌<◌, ◌≤◌, Bool, false, Option, Some, None, List, [], ◌∷◌, length, drop, refl, sym, ap, ◌∙◌, subst, arith}
use Rattle.wt_tiles.specs.declared.context.Context.{Context}
use Rattle.wt_tiles.specs.declared.glyph.Glyph.{Glyph}
use Rattle.wt_tiles.specs.declared.shape.Shape.{Shape}
use Rattle.wt_tiles.specs.declared.shape.TileKind.{TileKind}
use Rattle.wt_tiles.specs.declared.shape.TileKind.TheVariants as kind
use Rattle.wt_tiles.specs.Glyphs.{is_in}
use Rattle.wt_tiles.specs.Urls.{is_word}
use Rattle.wt_tiles.specs.Tiles.{size, chars, Cut, closed, cuts, shapes}
use Rattle.wt_tiles.specs.Reading.{tile_at, IsForm, is_word_at, word_before, StandsBy, BeginsWithForm, Apart, AreTiles}
use Rattle.wt_tiles.proofs.Cuts.{closed_zero, closed_pos, words, skipped, cuts_cons}
use Rattle.wt_tiles.proofs.Fits.{tile_fits}

begins_zero : (n : ℕ) (ws : List Shape) → BeginsWithForm (closed n ws) → n ≡ 0
begins_zero zero ws h = refl
begins_zero (suc n) ws h =
    let P : List Shape → Type 0 = λ vs. BeginsWithForm vs in absurd (subst P (closed_pos (suc n) ws (omega arith)) h)

-- the shapes of items that stand after a letter, digit or `_`, or not
abbrev read : Context → Bool → List Glyph → List Shape
read cx after gs = closed (cuts cx after 0 gs).0 (cuts cx after 0 gs).1

shapes_are_read : (cx : Context) (gs : List Glyph) → shapes cx gs ≡ read cx false gs
unfolding shapes
shapes_are_read cx gs = refl

-- ---- no other list has the properties

-- n characters at none of which a form begins
chars_run : (cx : Context) (after : Bool) (n : ℕ) (gs : List Glyph) → n ≤ length gs → ((k : ℕ) → k < n → tile_at cx (word_before after gs k) (drop k gs) ≡ None)
    → cuts cx after 0 gs ≡ (n + (cuts cx (word_before after gs n) 0 (drop n gs)).0, (cuts cx (word_before after gs n) 0 (drop n gs)).1)
chars_run cx after zero gs le free =
    let c = cuts cx after 0 gs in
    let z : c.0 ≡ 0 + c.0 = omega arith in
    let F : ℕ → Cut = λ m. (m, c.1) in ap F z
chars_run cx after (suc n) [] le free = absurd (omega arith)
chars_run cx after (suc n) (g ∷ gs) le free =
    let more = chars_run cx (is_in is_word g) n gs (omega arith)
    (λ k below. ap (λ (t : Bool). tile_at cx t (drop k gs)) (words g gs k) ∙ free (suc k) (omega arith)) in
    let F : Cut → Cut = λ c. (suc c.0, c.1) in
    let H : Bool → Cut = λ t. (suc (n + (cuts cx t 0 (drop n gs)).0), (cuts cx t 0 (drop n gs)).1) in
    let c = cuts cx (is_word_at (g ∷ gs) n) 0 (drop n gs) in
    let G : ℕ → Cut = λ m. (m, c.1) in
    let z : suc (n + c.0) ≡ suc n + c.0 = omega arith in
    cuts_cons cx after g gs None (free 0 (omega arith)) ∙ ap F more ∙ ap H (words g gs n) ∙ ap G z

form_once : (cx : Context) (after : Bool) (w : Shape) (gs : List Glyph) → 0 < size w → size w ≤ length gs → tile_at cx after gs ≡ Some w
    → read cx after gs ≡ w ∷ read cx (is_word_at gs (size w - 1)) (drop (size w) gs)
form_once cx after w [] pos le e = absurd (omega arith)
form_once cx after w (g ∷ gs) pos le e =
    let z : suc (size w - 1) ≡ size w = omega arith in
    let R : Cut → List Shape = λ c. closed c.0 c.1 in
    let there : cuts cx (is_in is_word g) (size w - 1) gs ≡ cuts cx (is_word_at (g ∷ gs) (size w - 1)) 0 (drop (size w - 1) gs) =
    skipped cx (is_in is_word g) (size w - 1) gs ∙ ap (λ (t : Bool). cuts cx t 0 (drop (size w - 1) gs)) (words g gs (size w - 1)) in
    ap R (cuts_cons cx after g gs (Some w) e) ∙ closed_zero _ ∙ ap (λ (d : Cut). w ∷ closed d.0 d.1) there
    ∙ ap (λ (m : ℕ). w ∷ read cx (is_word_at (g ∷ gs) (size w - 1)) (drop m (g ∷ gs))) z

chars_once : (cx : Context) (after : Bool) (n : ℕ) (ws : List Shape) (gs : List Glyph) → 0 < n → n ≤ length gs
    → ((k : ℕ) → k < n → tile_at cx (word_before after gs k) (drop k gs) ≡ None)
    → BeginsWithForm ws → ws ≡ read cx (is_word_at gs (n - 1)) (drop n gs) → read cx after gs ≡ chars n ∷ ws
chars_once cx after zero ws gs pos le free apart ih = absurd (omega arith)
chars_once cx after (suc n) ws gs pos le free apart ih =
    let z : suc n - 1 ≡ n = omega arith in
    let c = cuts cx (is_word_at gs n) 0 (drop (suc n) gs) in
    let is : ws ≡ closed c.0 c.1 = ih ∙ ap (λ (m : ℕ). read cx (is_word_at gs m) (drop (suc n) gs)) z in
    let P : List Shape → Type 0 = λ vs. BeginsWithForm vs in
    let zeroth : c.0 ≡ 0 = begins_zero c.0 c.1 (subst P is apart) in
    let tail : closed c.0 c.1 ≡ c.1 = ap (λ (m : ℕ). closed m c.1) zeroth ∙ closed_zero c.1 in
    let all : suc n + c.0 ≡ suc n = omega arith in
    ap (λ (d : Cut). closed d.0 d.1) (chars_run cx after (suc n) gs le free) ∙ ap (λ (m : ℕ). closed m c.1) all
    ∙ closed_pos (suc n) c.1 pos ∙ ap (λ vs. chars (suc n) ∷ vs) (sym (is ∙ tail))

-- what stands first: a run, or a form
stands_once : (k : TileKind) (cx : Context) (after : Bool) (w : Shape) (ws : List Shape) (gs : List Glyph) → 0 < size w
    → size w ≤ length gs → StandsBy k cx after w gs → Apart k ws
    → ws ≡ read cx (is_word_at gs (size w - 1)) (drop (size w) gs) → read cx after gs ≡ w ∷ ws
stands_once kind.Chars cx after w ws gs pos le (is, free) apart ih = chars_once cx after (size w) ws gs pos le free apart ih
    ∙ ap (λ (v : Shape). v ∷ ws) (sym is)
stands_once k cx after w ws gs pos le form apart ih = form_once cx after w gs pos le form ∙ ap (λ vs. w ∷ vs) (sym ih)

unique : (cx : Context) (after : Bool) (ws : List Shape) (gs : List Glyph) → AreTiles cx after ws gs → ws ≡ read cx after gs
unique cx after [] gs h = sym (ap (read cx after) h ∙ closed_zero [])
unique cx after (w ∷ ws) gs (pos, le, stands, apart, rest) =
    sym (stands_once w.kind cx after w ws gs pos le stands apart (unique cx (is_word_at gs (size w - 1)) ws (drop (size w) gs) rest))

pub shapes_only : (cx : Context) (ws : List Shape) (gs : List Glyph) → AreTiles cx false ws gs → ws ≡ shapes cx gs
shapes_only cx ws gs h = unique cx false ws gs h ∙ sym (shapes_are_read cx gs)

-- ---- the shapes have them

stands_form : (k : TileKind) (cx : Context) (after : Bool) (w : Shape) (gs : List Glyph) → IsForm k → tile_at cx after gs ≡ Some w → StandsBy k cx after w gs
stands_form kind.Chars cx after w gs h e = absurd h
stands_form k cx after w gs h e = e

apart_form : (k : TileKind) (ws : List Shape) → IsForm k → Apart k ws
apart_form kind.Chars ws h = absurd h
apart_form k ws h = tt

-- a run that may be empty, before shapes that begin with a form
record Sound (cx : Context) (after : Bool) (c : Cut) (gs : List Glyph) : Type 0 where
  within : c.0 ≤ length gs
  free : (k : ℕ) → k < c.0 → tile_at cx (word_before after gs k) (drop k gs) ≡ None
  begins : BeginsWithForm c.1
  rest : AreTiles cx (word_before after gs c.0) c.1 (drop c.0 gs)

sound_closed : (cx : Context) (after : Bool) (c : Cut) (gs : List Glyph) → Sound cx after c gs → AreTiles cx after (closed c.0 c.1) gs
sound_closed cx after (zero, ws) gs s = let P : List Shape → Type 0 = λ vs. AreTiles cx after vs gs in subst P (sym (closed_zero ws)) s.rest
sound_closed cx after (suc n, ws) gs s =
    let P : List Shape → Type 0 = λ vs. AreTiles cx after vs gs in
    let m : ℕ = size (chars (suc n)) in
    let z : suc n ≡ m = omega arith in
    let y : n ≡ m - 1 = omega arith in
    let F : ℕ → Type 0 = λ i. (k : ℕ) → k < i → tile_at cx (word_before after gs k) (drop k gs) ≡ None in
    let Q : ℕ → Type 0 = λ i. AreTiles cx (is_word_at gs i) ws (drop (suc n) gs) in
    let R : ℕ → Type 0 = λ i. AreTiles cx (is_word_at gs (m - 1)) ws (drop i gs) in
    let G : ℕ → Shape = λ i. chars i in
    subst P (sym (closed_pos (suc n) ws (omega arith)))
    (omega arith, omega (arith, s.within), (ap G z, subst F z s.free), s.begins, subst R z (subst Q y s.rest))

sound_form : (cx : Context) (after : Bool) (g : Glyph) (gs : List Glyph) (w : Shape) → tile_at cx after (g ∷ gs) ≡ Some w
    → Sound cx (word_before (is_in is_word g) gs (size w - 1)) (cuts cx (is_in is_word g) (size w - 1) gs) (drop (size w - 1) gs)
    → Sound cx after (cuts cx after 0 (g ∷ gs)) (g ∷ gs)
sound_form cx after g gs w e s =
    let f = tile_fits cx after (g ∷ gs) w e in
    let c = cuts cx (is_in is_word g) (size w - 1) gs in
    let z : suc (size w - 1) ≡ size w = omega (arith, f.some) in
    let A : Bool → Type 0 = λ t. AreTiles cx t (closed c.0 c.1) (drop (size w - 1) gs) in
    let B : ℕ → Type 0 = λ m. AreTiles cx (is_word_at (g ∷ gs) (size w - 1)) (closed c.0 c.1) (drop m (g ∷ gs)) in
    let rest = subst B z (subst A (words g gs (size w - 1)) (sound_closed cx (word_before (is_in is_word g) gs (size w - 1)) c (drop (size w - 1) gs) s)) in
    let P : Cut → Type 0 = λ d. Sound cx after d (g ∷ gs) in
    subst P (sym (cuts_cons cx after g gs (Some w) e))
    (record {
      within = omega arith;
      free = λ k below. absurd (omega arith);
      begins = f.form;
      rest = (f.some, f.within, stands_form w.kind cx after w (g ∷ gs) f.form e, apart_form w.kind (closed c.0 c.1) f.form, rest);
    })

free_more : (cx : Context) (after : Bool) (g : Glyph) (gs : List Glyph) (n : ℕ) → tile_at cx after (g ∷ gs) ≡ None
    → ((k : ℕ) → k < n → tile_at cx (word_before (is_in is_word g) gs k) (drop k gs) ≡ None)
    → (k : ℕ) → k < suc n → tile_at cx (word_before after (g ∷ gs) k) (drop k (g ∷ gs)) ≡ None
free_more cx after g gs n e free zero below = e
free_more cx after g gs n e free (suc k) below = ap (λ (t : Bool). tile_at cx t (drop k gs)) (sym (words g gs k)) ∙ free k (omega arith)

sound_char : (cx : Context) (after : Bool) (g : Glyph) (gs : List Glyph) → tile_at cx after (g ∷ gs) ≡ None
    → Sound cx (is_in is_word g) (cuts cx (is_in is_word g) 0 gs) gs → Sound cx after (cuts cx after 0 (g ∷ gs)) (g ∷ gs)
sound_char cx after g gs e s =
    let c = cuts cx (is_in is_word g) 0 gs in
    let A : Bool → Type 0 = λ t. AreTiles cx t c.1 (drop c.0 gs) in
    let P : Cut → Type 0 = λ d. Sound cx after d (g ∷ gs) in
    subst P (sym (cuts_cons cx after g gs None e))
    (record { within = omega (arith, s.within); free = free_more cx after g gs c.0 e s.free; begins = s.begins; rest = subst A (words g gs c.0) s.rest })

sound_first : (cx : Context) (after : Bool) (g : Glyph) (gs : List Glyph) (o : Option Shape) → tile_at cx after (g ∷ gs) ≡ o
    → ((n : ℕ) → n ≤ length gs → Sound cx (word_before (is_in is_word g) gs n) (cuts cx (is_in is_word g) n gs) (drop n gs))
    → Sound cx after (cuts cx after 0 (g ∷ gs)) (g ∷ gs)
sound_first cx after g gs None e all = sound_char cx after g gs e (all 0 (omega arith))
sound_first cx after g gs (Some w) e all = let f = tile_fits cx after (g ∷ gs) w e in
    sound_form cx after g gs w e (all (size w - 1) (omega (arith, f.within, f.some)))

sound_from : (cx : Context) (after : Bool) (gs : List Glyph) (n : ℕ) → n ≤ length gs → Sound cx (word_before after gs n) (cuts cx after n gs) (drop n gs)
sound_from cx after [] zero le = record { within = omega arith; free = λ k below. absurd (omega arith); begins = tt; rest = refl }
sound_from cx after [] (suc n) le = absurd (omega arith)
sound_from cx after (g ∷ gs) zero le = sound_first cx after g gs (tile_at cx after (g ∷ gs)) refl (sound_from cx (is_in is_word g) gs)
sound_from cx after (g ∷ gs) (suc n) le =
    let A : Bool → Type 0 = λ t. Sound cx t (cuts cx (is_in is_word g) n gs) (drop n gs) in
    subst A (words g gs n) (sound_from cx (is_in is_word g) gs n (omega arith))

pub shapes_are : (cx : Context) (gs : List Glyph) → AreTiles cx false (shapes cx gs) gs
shapes_are cx gs =
    let P : List Shape → Type 0 = λ ws. AreTiles cx false ws gs in
    subst P (sym (shapes_are_read cx gs)) (sound_closed cx false (cuts cx false 0 gs) gs (sound_from cx false gs 0 (omega arith)))

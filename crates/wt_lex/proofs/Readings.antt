-- The lexemes of a text have the properties of the relation, and no other list has them.
use Rattle.std.proofs.Common.{◌≡◌, ℕ, zero, suc, ◌+◌, ◌-◌, ◌<◌, ◌≤◌, ◌==◌, Bool, false, Option, Some, None, List, [], ◌∷◌, length, drop, refl, sym, ap, ◌∙◌, subst, arith}
use Rattle.std.specs.Prelude.{if◌then◌else◌, slice_index}
use Rattle.std.proofs.lemmas.Bool.Decides.{nat_tests}
use Rattle.wt_span.specs.declared.form.Mode.{Mode}
use Rattle.wt_span.specs.declared.form.LexKind.TheVariants.{Chars}
use Rattle.wt_span.specs.Bytes.{is_break}
use Rattle.wt_span.specs.Lexemes.{Word, Cut, cuts, closed, words, form_at}
use Rattle.wt_lex.specs.Reading.{IsForm, break_before, Stands, BeginsWithForm, Apart, AreLexemes}
use Rattle.wt_lex.proofs.Cuts.{cuts_cons}
use Rattle.wt_lex.proofs.AllForms.{form_fits}

closed_zero : (ws : List Word) → closed 0 ws ≡ ws
unfolding closed
closed_zero ws = refl

closed_pos : (n : ℕ) (ws : List Word) → 0 < n → closed n ws ≡ (Chars, n) ∷ ws
unfolding closed
closed_pos n ws pos =
    let e : (n == 0) ≡ false = grind (arith, nat_tests) in
    ap (λ t. if t then ws else (Chars, n) ∷ ws) e

begins_zero : (n : ℕ) (ws : List Word) → BeginsWithForm (closed n ws) → n ≡ 0
begins_zero zero ws h = refl
begins_zero (suc n) ws h =
    let P : List Word → Type 0 = λ vs. BeginsWithForm vs in absurd (subst P (closed_pos (suc n) ws (omega arith)) h)

-- the words of a text that begins after a line break or not
abbrev read : Mode → Bool → List ℕ → List Word
read mode after bs = closed (cuts mode after 0 bs).0 (cuts mode after 0 bs).1

words_are_read : (mode : Mode) (bs : List ℕ) → words mode bs ≡ read mode false bs
unfolding words
words_are_read mode bs = refl

-- ---- what follows some bytes

breaks : (b : ℕ) (bs : List ℕ) (n : ℕ) → break_before (is_break b) bs n ≡ is_break (slice_index (b ∷ bs) n)
breaks b bs zero = refl
breaks b bs (suc n) = refl

skipped : (mode : Mode) (after : Bool) (n : ℕ) (bs : List ℕ) → cuts mode after n bs ≡ cuts mode (break_before after bs n) 0 (drop n bs)
skipped mode after zero [] = refl
skipped mode after zero (b ∷ bs) = refl
skipped mode after (suc n) [] = refl
skipped mode after (suc n) (b ∷ bs) = skipped mode (is_break b) n bs ∙ ap (λ (t : Bool). cuts mode t 0 (drop n bs)) (breaks b bs n)

-- ---- no other list has the properties

-- n characters at none of which a form begins
chars_run : (mode : Mode) (after : Bool) (n : ℕ) (bs : List ℕ) → n ≤ length bs → ((k : ℕ) → k < n → form_at mode (break_before after bs k) (drop k bs) ≡ None)
    → cuts mode after 0 bs ≡ (n + (cuts mode (break_before after bs n) 0 (drop n bs)).0, (cuts mode (break_before after bs n) 0 (drop n bs)).1)
chars_run mode after zero bs le free =
    let c = cuts mode after 0 bs in
    let z : c.0 ≡ 0 + c.0 = omega arith in
    let F : ℕ → Cut = λ m. (m, c.1) in ap F z
chars_run mode after (suc n) [] le free = absurd (omega arith)
chars_run mode after (suc n) (b ∷ bs) le free =
    let more = chars_run mode (is_break b) n bs (omega arith)
    (λ k below. ap (λ (t : Bool). form_at mode t (drop k bs)) (breaks b bs k) ∙ free (suc k) (omega arith)) in
    let F : Cut → Cut = λ c. (suc c.0, c.1) in
    let H : Bool → Cut = λ t. (suc (n + (cuts mode t 0 (drop n bs)).0), (cuts mode t 0 (drop n bs)).1) in
    let c = cuts mode (is_break (slice_index (b ∷ bs) n)) 0 (drop n bs) in
    let G : ℕ → Cut = λ m. (m, c.1) in
    let z : suc (n + c.0) ≡ suc n + c.0 = omega arith in
    cuts_cons mode after b bs None (free 0 (omega arith)) ∙ ap F more ∙ ap H (breaks b bs n) ∙ ap G z

form_once : (mode : Mode) (after : Bool) (w : Word) (bs : List ℕ) → 0 < w.1 → w.1 ≤ length bs → form_at mode after bs ≡ Some w
    → read mode after bs ≡ w ∷ read mode (is_break (slice_index bs (w.1 - 1))) (drop w.1 bs)
form_once mode after w [] pos le e = absurd (omega arith)
form_once mode after w (b ∷ bs) pos le e =
    let size : suc (w.1 - 1) ≡ w.1 = omega arith in
    let R : Cut → List Word = λ c. closed c.0 c.1 in
    let c = cuts mode (is_break b) (w.1 - 1) bs in
    let there : c ≡ cuts mode (is_break (slice_index (b ∷ bs) (w.1 - 1))) 0 (drop (w.1 - 1) bs) =
    skipped mode (is_break b) (w.1 - 1) bs ∙ ap (λ (t : Bool). cuts mode t 0 (drop (w.1 - 1) bs)) (breaks b bs (w.1 - 1)) in
    ap R (cuts_cons mode after b bs (Some w) e) ∙ closed_zero _ ∙ ap (λ (d : Cut). w ∷ closed d.0 d.1) there
    ∙ ap (λ (m : ℕ). w ∷ read mode (is_break (slice_index (b ∷ bs) (w.1 - 1))) (drop m (b ∷ bs))) size

chars_once : (mode : Mode) (after : Bool) (n : ℕ) (ws : List Word) (bs : List ℕ) → 0 < n → n ≤ length bs
    → ((k : ℕ) → k < n → form_at mode (break_before after bs k) (drop k bs) ≡ None)
    → BeginsWithForm ws → ws ≡ read mode (is_break (slice_index bs (n - 1))) (drop n bs) → read mode after bs ≡ (Chars, n) ∷ ws
chars_once mode after zero ws bs pos le free apart ih = absurd (omega arith)
chars_once mode after (suc n) ws bs pos le free apart ih =
    let z : suc n - 1 ≡ n = omega arith in
    let c = cuts mode (is_break (slice_index bs n)) 0 (drop (suc n) bs) in
    let is : ws ≡ closed c.0 c.1 = ih ∙ ap (λ (m : ℕ). read mode (is_break (slice_index bs m)) (drop (suc n) bs)) z in
    let P : List Word → Type 0 = λ vs. BeginsWithForm vs in
    let zeroth : c.0 ≡ 0 = begins_zero c.0 c.1 (subst P is apart) in
    let tail : closed c.0 c.1 ≡ c.1 = ap (λ (m : ℕ). closed m c.1) zeroth ∙ closed_zero c.1 in
    let all : suc n + c.0 ≡ suc n = omega arith in
    ap (λ (d : Cut). closed d.0 d.1) (chars_run mode after (suc n) bs le free) ∙ ap (λ (m : ℕ). closed m c.1) all
    ∙ closed_pos (suc n) c.1 pos ∙ ap (λ vs. (Chars, suc n) ∷ vs) (sym (is ∙ tail))

unique : (mode : Mode) (after : Bool) (ws : List Word) (bs : List ℕ) → AreLexemes mode after ws bs → ws ≡ read mode after bs
unique mode after [] bs h = sym (ap (read mode after) h ∙ closed_zero [])
unique mode after ((Chars, n) ∷ ws) bs (pos, le, free, apart, rest) =
    sym (chars_once mode after n ws bs pos le free apart (unique mode (is_break (slice_index bs (n - 1))) ws (drop n bs) rest))
unique mode after ((kind, n) ∷ ws) bs (pos, le, form, apart, rest) =
    ap (λ vs. (kind, n) ∷ vs) (unique mode (is_break (slice_index bs (n - 1))) ws (drop n bs) rest) ∙ sym (form_once mode after (kind, n) bs pos le form)

pub words_only : (mode : Mode) (ws : List Word) (bs : List ℕ) → AreLexemes mode false ws bs → ws ≡ words mode bs
words_only mode ws bs h = unique mode false ws bs h ∙ sym (words_are_read mode bs)

-- ---- the words have them

stands_form : (mode : Mode) (after : Bool) (w : Word) (bs : List ℕ) → IsForm w.0 → form_at mode after bs ≡ Some w → Stands mode after w.0 w.1 bs
stands_form mode after (Chars, n) bs h e = absurd h
stands_form mode after (kind, n) bs h e = e

apart_form : (w : Word) (ws : List Word) → IsForm w.0 → Apart w.0 ws
apart_form (Chars, n) ws h = absurd h
apart_form (kind, n) ws h = tt

record Sound (mode : Mode) (after : Bool) (c : Cut) (bs : List ℕ) : Type 0 where
  within : c.0 ≤ length bs
  free : (k : ℕ) → k < c.0 → form_at mode (break_before after bs k) (drop k bs) ≡ None
  begins : BeginsWithForm c.1
  rest : AreLexemes mode (break_before after bs c.0) c.1 (drop c.0 bs)

sound_closed : (mode : Mode) (after : Bool) (c : Cut) (bs : List ℕ) → Sound mode after c bs → AreLexemes mode after (closed c.0 c.1) bs
sound_closed mode after (zero, ws) bs s = let P : List Word → Type 0 = λ vs. AreLexemes mode after vs bs in subst P (sym (closed_zero ws)) s.rest
sound_closed mode after (suc n, ws) bs s =
    let P : List Word → Type 0 = λ vs. AreLexemes mode after vs bs in
    let z : n ≡ suc n - 1 = omega arith in
    let Q : ℕ → Type 0 = λ m. AreLexemes mode (is_break (slice_index bs m)) ws (drop (suc n) bs) in
    subst P (sym (closed_pos (suc n) ws (omega arith))) (omega arith, s.within, s.free, s.begins, subst Q z s.rest)

sound_form : (mode : Mode) (after : Bool) (b : ℕ) (bs : List ℕ) (w : Word) → form_at mode after (b ∷ bs) ≡ Some w
    → Sound mode (break_before (is_break b) bs (w.1 - 1)) (cuts mode (is_break b) (w.1 - 1) bs) (drop (w.1 - 1) bs)
    → Sound mode after (cuts mode after 0 (b ∷ bs)) (b ∷ bs)
sound_form mode after b bs w e s =
    let f = form_fits mode after (b ∷ bs) w e in
    let c = cuts mode (is_break b) (w.1 - 1) bs in
    let size : suc (w.1 - 1) ≡ w.1 = omega (arith, f.some) in
    let A : Bool → Type 0 = λ t. AreLexemes mode t (closed c.0 c.1) (drop (w.1 - 1) bs) in
    let B : ℕ → Type 0 = λ m. AreLexemes mode (is_break (slice_index (b ∷ bs) (w.1 - 1))) (closed c.0 c.1) (drop m (b ∷ bs)) in
    let rest = subst B size (subst A (breaks b bs (w.1 - 1)) (sound_closed mode (break_before (is_break b) bs (w.1 - 1)) c (drop (w.1 - 1) bs) s)) in
    let P : Cut → Type 0 = λ d. Sound mode after d (b ∷ bs) in
    subst P (sym (cuts_cons mode after b bs (Some w) e))
    (record {
      within = omega arith;
      free = λ k below. absurd (omega arith);
      begins = f.form;
      rest = (f.some, f.within, stands_form mode after w (b ∷ bs) f.form e, apart_form w (closed c.0 c.1) f.form, rest);
    })

free_more : (mode : Mode) (after : Bool) (b : ℕ) (bs : List ℕ) (n : ℕ) → form_at mode after (b ∷ bs) ≡ None
    → ((k : ℕ) → k < n → form_at mode (break_before (is_break b) bs k) (drop k bs) ≡ None)
    → (k : ℕ) → k < suc n → form_at mode (break_before after (b ∷ bs) k) (drop k (b ∷ bs)) ≡ None
free_more mode after b bs n e free zero below = e
free_more mode after b bs n e free (suc k) below = ap (λ (t : Bool). form_at mode t (drop k bs)) (sym (breaks b bs k)) ∙ free k (omega arith)

sound_char : (mode : Mode) (after : Bool) (b : ℕ) (bs : List ℕ) → form_at mode after (b ∷ bs) ≡ None
    → Sound mode (is_break b) (cuts mode (is_break b) 0 bs) bs → Sound mode after (cuts mode after 0 (b ∷ bs)) (b ∷ bs)
sound_char mode after b bs e s =
    let c = cuts mode (is_break b) 0 bs in
    let A : Bool → Type 0 = λ t. AreLexemes mode t c.1 (drop c.0 bs) in
    let P : Cut → Type 0 = λ d. Sound mode after d (b ∷ bs) in
    subst P (sym (cuts_cons mode after b bs None e))
    (record { within = omega (arith, s.within); free = free_more mode after b bs c.0 e s.free; begins = s.begins; rest = subst A (breaks b bs c.0) s.rest })

sound_first : (mode : Mode) (after : Bool) (b : ℕ) (bs : List ℕ) (o : Option Word) → form_at mode after (b ∷ bs) ≡ o
    → ((n : ℕ) → n ≤ length bs → Sound mode (break_before (is_break b) bs n) (cuts mode (is_break b) n bs) (drop n bs))
    → Sound mode after (cuts mode after 0 (b ∷ bs)) (b ∷ bs)
sound_first mode after b bs None e all = sound_char mode after b bs e (all 0 (omega arith))
sound_first mode after b bs (Some w) e all = let f = form_fits mode after (b ∷ bs) w e in
    sound_form mode after b bs w e (all (w.1 - 1) (omega (arith, f.within)))

sound_from : (mode : Mode) (after : Bool) (bs : List ℕ) (n : ℕ) → n ≤ length bs → Sound mode (break_before after bs n) (cuts mode after n bs) (drop n bs)
sound_from mode after [] zero le = record { within = omega arith; free = λ k below. absurd (omega arith); begins = tt; rest = refl }
sound_from mode after [] (suc n) le = absurd (omega arith)
sound_from mode after (b ∷ bs) zero le = sound_first mode after b bs (form_at mode after (b ∷ bs)) refl (sound_from mode (is_break b) bs)
sound_from mode after (b ∷ bs) (suc n) le =
    let A : Bool → Type 0 = λ t. Sound mode t (cuts mode (is_break b) n bs) (drop n bs) in
    subst A (breaks b bs n) (sound_from mode (is_break b) bs n (omega arith))

pub words_are : (mode : Mode) (bs : List ℕ) → AreLexemes mode false (words mode bs) bs
words_are mode bs =
    let P : List Word → Type 0 = λ ws. AreLexemes mode false ws bs in
    subst P (sym (words_are_read mode bs)) (sound_closed mode false (cuts mode false 0 bs) bs (sound_from mode false bs 0 (omega arith)))

-- Reading a text from a place on: one more byte of a run of characters, and one more form.
use Rattle.std.proofs.Common.{arith, ◌≡◌, ℕ, zero, suc, ◌-◌, Bool, true, false, List, [], ◌∷◌, ◌++◌, length, take, drop, refl, sym, ap, ◌∙◌, subst, Option, Some, None}
use Rattle.std.specs.Prelude.{◌==◌, if◌then◌else◌}
use Rattle.std.specs.Option.{option_map}
use Rattle.std.proofs.lemmas.Bool.Decides.{Decides-eqb}
use Rattle.wt_span.specs.declared.form.Mode.{Mode}
use Rattle.wt_span.specs.declared.form.LexKind.{LexKind}
use Rattle.wt_span.specs.declared.form.LexKind.TheVariants.{Chars}
use Rattle.wt_span.specs.Bytes.{is_break}
use Rattle.wt_span.specs.Lexemes.{Word, Cut, cuts, closed, words, form_at}
use Rattle.wt_lex.proofs.Cuts.{cuts_cons}
use Rattle.wt_typed_blocks.specs.Reading.{shown_by, joined, shown_words, read_text}

-- what a run of characters shows, with the words after it
abbrev pub shown_cut : List ℕ → Cut → Option (List ℕ)
shown_cut bs c = joined (Some (take c.0 bs)) (shown_words (drop c.0 bs) c.1)

joined_nothing : (o : Option (List ℕ)) → joined (Some []) o ≡ o
joined_nothing None = refl
joined_nothing (Some bs) = refl

closed_if : (n : ℕ) (t : Bool) (bs : List ℕ) (ws : List Word) → (n == 0) ≡ t → shown_words bs (if t then ws else (Chars, n) ∷ ws) ≡ shown_cut bs (n, ws)
closed_if zero true bs ws e = sym (joined_nothing (shown_words bs ws))
closed_if zero false bs ws e = cc
closed_if (suc n) true bs ws e = let z : suc n ≡ 0 = (Decides-eqb (suc n) 0).0 e in absurd (omega (arith, z))
closed_if (suc n) false bs ws e = refl

pub closed_shown : (bs : List ℕ) (c : Cut) → shown_words bs (closed c.0 c.1) ≡ shown_cut bs c
unfolding closed
closed_shown bs (n, ws) = closed_if n (n == 0) bs ws refl

-- from here on the text shows this, whether a line break stands before or not
abbrev pub Reads : Mode → List ℕ → List ℕ → Type 0
Reads mode bs t = (after : Bool) → shown_cut bs (cuts mode after 0 bs) ≡ Some t

pub reads_nothing : (mode : Mode) → Reads mode [] []
reads_nothing mode after = refl

joined_more : (b : ℕ) (xs t : List ℕ) (o : Option (List ℕ)) → joined (Some xs) o ≡ Some t → joined (Some (b ∷ xs)) o ≡ Some (b ∷ t)
joined_more b xs t None e = cc
joined_more b xs t (Some bs) e = let f : xs ++ bs ≡ t = cc in ap (λ ys. Some (b ∷ ys)) f

-- a byte at which no form begins
pub reads_byte : (mode : Mode) (b : ℕ) (bs t : List ℕ) → ((after : Bool) → form_at mode after (b ∷ bs) ≡ None) → Reads mode bs t → Reads mode (b ∷ bs) (b ∷ t)
reads_byte mode b bs t f r after =
    let c = cuts mode (is_break b) 0 bs in
    ap (shown_cut (b ∷ bs)) (cuts_cons mode after b bs None (f after))
    ∙ joined_more b (take c.0 bs) t (shown_words (drop c.0 bs) c.1) (r (is_break b))

-- the bytes of a form are skipped
skip : (mode : Mode) (P : Cut → Type 0) (q rest : List ℕ) (after : Bool) → ((a : Bool) → P (cuts mode a 0 rest)) → P (cuts mode after (length q) (q ++ rest))
skip mode P [] rest after f = f after
skip mode P (b ∷ q) rest after f = skip mode P q rest (is_break b) f

take_all : (q rest : List ℕ) → take (length q) (q ++ rest) ≡ q
take_all [] rest = refl
take_all (b ∷ q) rest = ap (λ bs. b ∷ bs) (take_all q rest)

drop_all_of : (q rest : List ℕ) → drop (length q) (q ++ rest) ≡ rest
drop_all_of [] rest = refl
drop_all_of (b ∷ q) rest = drop_all_of q rest

form_shown : (b : ℕ) (q rest t u : List ℕ) (kind : LexKind) (c : Cut) → shown_by kind (b ∷ q) ≡ Some u → shown_cut rest c ≡ Some t
    → shown_cut (b ∷ (q ++ rest)) (0, (kind, suc (length q)) ∷ closed c.0 c.1) ≡ Some (u ++ t)
form_shown b q rest t u kind c e r =
    joined_nothing (joined (shown_by kind (b ∷ take (length q) (q ++ rest))) (shown_words (drop (length q) (q ++ rest)) (closed c.0 c.1)))
    ∙ ap (λ bs. joined (shown_by kind (b ∷ bs)) (shown_words (drop (length q) (q ++ rest)) (closed c.0 c.1))) (take_all q rest)
    ∙ ap (λ bs. joined (shown_by kind (b ∷ q)) (shown_words bs (closed c.0 c.1))) (drop_all_of q rest)
    ∙ ap (λ o. joined o (shown_words rest (closed c.0 c.1))) e
    ∙ ap (λ o. option_map (λ cs. u ++ cs) o) (closed_shown rest c ∙ r)

-- a form
pub reads_form : (mode : Mode) (kind : LexKind) (b : ℕ) (q rest t u : List ℕ)
    → ((after : Bool) → form_at mode after (b ∷ (q ++ rest)) ≡ Some (kind, suc (length q)))
    → shown_by kind (b ∷ q) ≡ Some u → Reads mode rest t → Reads mode (b ∷ (q ++ rest)) (u ++ t)
reads_form mode kind b q rest t u f e r after =
    let z : suc (length q) - 1 ≡ length q = omega arith in
    let P : Cut → Type 0 = λ c. shown_cut (b ∷ (q ++ rest)) (0, (kind, suc (length q)) ∷ closed c.0 c.1) ≡ Some (u ++ t) in
    ap (shown_cut (b ∷ (q ++ rest))) (cuts_cons mode after b (q ++ rest) (Some (kind, suc (length q))) (f after))
    ∙ subst (λ (n : ℕ). P (cuts mode (is_break b) n (q ++ rest))) (sym z)
    (skip mode P q rest (is_break b) (λ a. form_shown b q rest t u kind (cuts mode a 0 rest) e (r a)))

pub reads_all : (mode : Mode) (bs t : List ℕ) → Reads mode bs t → read_text mode bs ≡ Some t
unfolding read_text words
reads_all mode bs t r = closed_shown bs (cuts mode false 0 bs) ∙ r false

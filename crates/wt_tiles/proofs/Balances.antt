-- Brackets that balance, read from the right: what is known of fewer items.
use Rattle.std.proofs.Common.{◌≡◌, ℕ, zero, suc, ◌+◌, ◌-◌, ◌<◌, ◌≤◌, Bool, true, false, Option, Some, None, List, [], ◌∷◌, length, drop, refl, sym, ap, ◌∙◌, arith, subst, codes, length-drop, drop-drop}
use Rattle.std.specs.Prelude.{if◌then◌else◌, slice_get}
use Rattle.wt_tiles.specs.declared.glyph.Glyph.{Glyph}
use Rattle.wt_tiles.specs.Glyphs.{begins}
use Rattle.wt_tiles.specs.Partners.{DepthChange, Up, Down, Level, bracket_turn, by_bracket, balanced}
use Rattle.wt_tiles.specs.Tables.{left_of, balances}
use Rattle.wt_tiles.proofs.Words.{false_true, begins_len}
use Rattle.wt_tiles.proofs.LinkFits.{OptRest, balanced_fits}

abbrev pub and_then : Option (List Glyph) → (List Glyph → Option (List Glyph)) → Option (List Glyph)
and_then None f = None
and_then (Some ys) f = f ys

pub skip : (n d : ℕ) (gs : List Glyph) → balanced n d gs ≡ balanced 0 d (drop n gs)
skip zero d [] = refl
skip zero d (g ∷ gs) = refl
skip (suc n) d [] = refl
skip (suc n) d (g ∷ gs) = skip n d gs

-- one more is to be closed: what closes it comes after what closes the others
two_by : (t : DepthChange) (d : ℕ) (g : Glyph) (gs : List Glyph) → ((n e : ℕ) → balanced n (suc e) gs ≡ and_then (balanced n e gs) (λ ys. balanced 2 0 ys))
    → by_bracket t (suc d) (g ∷ gs) (λ n e. balanced n e gs) ≡ and_then (by_bracket t d (g ∷ gs) (λ n e. balanced n e gs)) (λ ys. balanced 2 0 ys)
two_by Up d g gs ih = ih 1 (suc d)
two_by Level d g gs ih = ih 0 d
two_by Down zero g gs ih = refl
two_by Down (suc d) g gs ih = ih 1 d

two : (n d : ℕ) (gs : List Glyph) → balanced n (suc d) gs ≡ and_then (balanced n d gs) (λ ys. balanced 2 0 ys)
two n d [] = refl
two (suc n) d (g ∷ gs) = two n d gs
two zero d (g ∷ gs) = two_by (bracket_turn (g ∷ gs)) d g gs (λ n e. two n e gs)

-- ---- turns

is_up : DepthChange → Bool
is_up Up = true
is_up Down = false
is_up Level = false

is_down : DepthChange → Bool
is_down Up = false
is_down Down = true
is_down Level = false

pub up_len : (gs : List Glyph) → bracket_turn gs ≡ Up → 2 ≤ length gs
unfolding bracket_turn is_up
up_len gs e = by (begins (codes "]]") gs) (begins (codes "[[") gs) (λ h. h) (ap is_up e)
  where
    by : (a b : Bool) → (b ≡ true → begins (codes "[[") gs ≡ true) → is_up (if a then Down else (if b then Up else Level)) ≡ true → 2 ≤ length gs
    by true b h u = false_true u
    by false true h u = begins_len (codes "[[") gs (h refl)
    by false false h u = false_true u

pub down_len : (gs : List Glyph) → bracket_turn gs ≡ Down → 2 ≤ length gs
unfolding bracket_turn is_down
down_len gs e = by (begins (codes "]]") gs) (begins (codes "[[") gs) (λ h. h) (ap is_down e)
  where
    by : (a b : Bool) → (a ≡ true → begins (codes "]]") gs ≡ true) → is_down (if a then Down else (if b then Up else Level)) ≡ true → 2 ≤ length gs
    by true b h u = begins_len (codes "]]") gs (h refl)
    by false true h u = false_true u
    by false false h u = false_true u

-- ---- what the brackets at the front do

turned : (t : DepthChange) (g : Glyph) (gs : List Glyph) → bracket_turn (g ∷ gs) ≡ t → balanced 0 0 (g ∷ gs) ≡ by_bracket t 0 (g ∷ gs) (λ n e. balanced n e gs)
turned t g gs e = ap (λ u. by_bracket u 0 (g ∷ gs) (λ n e. balanced n e gs)) e

pub down_left : (gs : List Glyph) → bracket_turn gs ≡ Down → balances gs ≡ Some (length gs)
down_left [] e = let l = down_len [] e in absurd (omega arith)
down_left (g ∷ gs) e = ap left_of (turned Down g gs e)

pub level_left : (gs : List Glyph) → 0 < length gs → bracket_turn gs ≡ Level → balances gs ≡ balances (drop 1 gs)
level_left [] h e = absurd (omega arith)
level_left (g ∷ gs) h e = ap left_of (turned Level g gs e)

-- what is left where brackets balance is an end of the items
record IsEnd (gs ys : List Glyph) : Type 0 where
  turn : bracket_turn ys ≡ Down
  within : length ys ≤ length gs
  is : drop (length gs - length ys) gs ≡ ys

end_of : (gs ys : List Glyph) (o : Option (List Glyph)) → o ≡ Some ys → OptRest gs o → IsEnd gs ys
end_of gs ys o e f =
    let P : Option (List Glyph) → Type 0 = λ p. OptRest gs p in
    by (subst P e f)
  where
    by : OptRest gs (Some ys) → IsEnd gs ys
    by (turn, k, is, below) =
        let size : length ys + k ≡ length gs = omega (arith, ap (λ (hs : List Glyph). length hs) is, length-drop k gs) in
        let z : length gs - length ys ≡ k = omega arith in
        record { turn = turn; within = omega arith; is = ap (λ m. drop m gs) z ∙ is }

-- a `[[`: what closes it comes after what balances behind it
up_is : (gs : List Glyph) → bracket_turn gs ≡ Up → balanced 0 0 gs ≡ and_then (balanced 0 0 (drop 2 gs)) (λ ys. balanced 0 0 (drop 2 ys))
up_is [] e = let l = up_len [] e in absurd (omega arith)
up_is (g ∷ gs) e = turned Up g gs e ∙ two 1 0 gs ∙ ap (λ o. and_then o (λ ys. balanced 2 0 ys)) (skip 1 0 gs) ∙ same (balanced 0 0 (drop 1 gs))
  where
    same : (o : Option (List Glyph)) → and_then o (λ ys. balanced 2 0 ys) ≡ and_then o (λ ys. balanced 0 0 (drop 2 ys))
    same None = refl
    same (Some ys) = skip 2 0 ys

pub record UpStep (gs : List Glyph) (inner : ℕ) : Type 0 where
  pub some : 2 ≤ inner
  pub within : inner + 2 ≤ length gs
  pub is : balances gs ≡ balances (drop (length gs - (inner - 2)) gs)

pub up_some : (gs : List Glyph) (inner : ℕ) → bracket_turn gs ≡ Up → balances (drop 2 gs) ≡ Some inner → UpStep gs inner
up_some gs inner e h = by (balanced 0 0 (drop 2 gs)) refl h
  where
    some_is : (m n : ℕ) → Some m ≡ Some n → m ≡ n
    some_is m n q = let F : Option ℕ → ℕ = λ o. elim o as (λ _. ℕ) [ None ↦ 0 | Some k ↦ k ] in ap F q

    by : (o : Option (List Glyph)) → balanced 0 0 (drop 2 gs) ≡ o → left_of o ≡ Some inner → UpStep gs inner
    by None is q = let F : Option ℕ → Bool = λ o. elim o as (λ _. Bool) [ None ↦ false | Some k ↦ true ] in false_true (ap F q)
    by (Some ys) is q =
        let size : length ys ≡ inner = some_is (length ys) inner q in
        let end = end_of (drop 2 gs) ys (balanced 0 0 (drop 2 gs)) is (balanced_fits 0 0 (drop 2 gs)) in
        let low = down_len ys end.turn in
        let up = up_len gs e in
        let d2 : length (drop 2 gs) + 2 ≡ length gs = omega (arith, length-drop 2 gs) in
        let there : drop 2 ys ≡ drop (length gs - (inner - 2)) gs =
        let z : 2 + (length (drop 2 gs) - length ys) + 2 ≡ length gs - (inner - 2) = omega (arith, end.within) in
        ap (λ (hs : List Glyph). drop 2 hs) (sym end.is) ∙ drop-drop 2 (length (drop 2 gs) - length ys) (drop 2 gs)
        ∙ drop-drop (length (drop 2 gs) - length ys + 2) 2 gs ∙ ap (λ m. drop m gs) (omega arith) in
        record {
          some = omega arith;
          within = omega (arith, end.within);
          is = ap left_of (up_is gs e ∙ ap (λ o. and_then o (λ ys. balanced 0 0 (drop 2 ys))) is) ∙ ap balances there;
        }

pub up_none : (gs : List Glyph) → bracket_turn gs ≡ Up → balances (drop 2 gs) ≡ None → balances gs ≡ None
up_none gs e h = ap left_of (up_is gs e) ∙ by (balanced 0 0 (drop 2 gs)) h
  where
    by : (o : Option (List Glyph)) → left_of o ≡ None → left_of (and_then o (λ ys. balanced 0 0 (drop 2 ys))) ≡ None
    by None q = refl
    by (Some ys) q = let F : Option ℕ → Bool = λ o. elim o as (λ _. Bool) [ None ↦ true | Some k ↦ false ] in false_true (ap F q)

-- ---- a table

abbrev pub AreKnown : List Glyph → List (Option ℕ) → Type 0
AreKnown gs table = (k : ℕ) → k < length gs → slice_get table k ≡ Some (balances (drop (length gs - k) gs))

inside : Option ℕ → Option (Option ℕ) → Option ℕ
inside d None = d
inside d (Some o) = o

pub known_at : (gs : List Glyph) (table : List (Option ℕ)) (k m : ℕ) (r : Option ℕ) → AreKnown gs table → k < length gs
    → k + m ≡ length gs → slice_get table k ≡ Some r → r ≡ balances (drop m gs)
unfolding inside
known_at gs table k m r known below e is =
    let z : length gs - k ≡ m = omega arith in
    ap (inside None) (sym is ∙ known k below) ∙ ap (λ i. balances (drop i gs)) z

-- the place lies within
within_by : (gs : List Glyph) (n : ℕ) (o : Option (List Glyph)) → balanced 0 0 gs ≡ o → left_of o ≡ Some n → n ≤ length gs
within_by gs n None e h = let F : Option ℕ → Bool = λ o. elim o as (λ _. Bool) [ None ↦ false | Some k ↦ true ] in false_true (ap F h)
within_by gs n (Some ys) e h =
    let F : Option ℕ → ℕ = λ o. elim o as (λ _. ℕ) [ None ↦ 0 | Some k ↦ k ] in
    let same : length ys ≡ n = ap F h in
    let end = end_of gs ys (balanced 0 0 gs) e (balanced_fits 0 0 gs) in
    omega (arith, end.within)

pub balances_within : (gs : List Glyph) (n : ℕ) → balances gs ≡ Some n → n ≤ length gs
balances_within gs n h = within_by gs n (balanced 0 0 gs) refl h

-- The partner of a tag by count.
use Rattle.std.proofs.Common.{◌≡◌, ℕ, zero, suc, ◌+◌, ◌<◌, Bool, true, false, Option, Some, None, List, [], ◌∷◌, length, drop, refl, sym, ap, ◌∙◌, arith, subst}
use Rattle.wt_tiles.specs.declared.glyph.Glyph.{Glyph}
use Rattle.wt_tiles.specs.Partners.{DepthChange, Up, Down, Level, tag_turn, by_tag, partner}
use Rattle.wt_tiles.specs.Counts.{opened_by, closed_by, opened, closed, Closes, AreInner}
use Rattle.wt_tiles.proofs.Words.{false_true}

-- with so many more opened before the start
abbrev AreInnerBy : ℕ → ℕ → List Glyph → ℕ → Type 0
AreInnerBy k d gs n = (m : ℕ) → m < n → tag_turn k (drop m gs) ≡ Down → closed k m gs < opened k m gs + d

abbrev Found : ℕ → ℕ → List Glyph → Option (List Glyph) → Type 0
Found k d gs None = AreInnerBy k d gs (length gs)
Found k d gs (Some ys) = (n : ℕ) × (n < length gs) × (ys ≡ drop n gs) × (tag_turn k (drop n gs) ≡ Down)
    × (closed k n gs ≡ opened k n gs + d) × AreInnerBy k d gs n

-- one item more at the front: with the depth before it and behind it
inner_more : (k d e : ℕ) (g : Glyph) (gs : List Glyph) (n : ℕ) → (tag_turn k (g ∷ gs) ≡ Down → 0 < d)
    → closed_by (tag_turn k (g ∷ gs)) + e ≡ opened_by (tag_turn k (g ∷ gs)) + d
    → AreInnerBy k e gs n → AreInnerBy k d (g ∷ gs) (suc n)
inner_more k d e g gs n first step inner zero below down = let h = first down in omega arith
inner_more k d e g gs n first step inner (suc m) below down = let h = inner m (omega arith) down in omega arith

found_more : (k d e : ℕ) (g : Glyph) (gs : List Glyph) (o : Option (List Glyph)) → (tag_turn k (g ∷ gs) ≡ Down → 0 < d)
    → closed_by (tag_turn k (g ∷ gs)) + e ≡ opened_by (tag_turn k (g ∷ gs)) + d
    → Found k e gs o → Found k d (g ∷ gs) o
found_more k d e g gs None first step f = inner_more k d e g gs (length gs) first step f
found_more k d e g gs (Some ys) first step (n, below, is, turn, count, inner) =
    (suc n, omega arith, is, turn, omega arith, inner_more k d e g gs n first step inner)

abbrev is_down : DepthChange → Bool
is_down Up = false
is_down Down = true
is_down Level = false

level_down : {X : Type 0} → Level ≡ Down → X
level_down e = false_true (ap is_down e)

up_down : {X : Type 0} → Up ≡ Down → X
up_down e = false_true (ap is_down e)

by_turn : (k : ℕ) (t : DepthChange) (d : ℕ) (g : Glyph) (gs : List Glyph) → tag_turn k (g ∷ gs) ≡ t
    → ((e : ℕ) → Found k e gs (partner k e gs)) → Found k d (g ∷ gs) (by_tag t d (g ∷ gs) (λ e. partner k e gs))
by_turn k Up d g gs is all =
    let o = ap opened_by is in let c = ap closed_by is in
    found_more k d (suc d) g gs (partner k (suc d) gs) (λ down. up_down (sym is ∙ down)) (omega arith) (all (suc d))
by_turn k Level d g gs is all =
    let o = ap opened_by is in let c = ap closed_by is in
    found_more k d d g gs (partner k d gs) (λ down. level_down (sym is ∙ down)) (omega arith) (all d)
by_turn k Down zero g gs is all = (0, omega arith, refl, is, refl, λ m below down. absurd (omega arith))
by_turn k Down (suc d) g gs is all =
    let o = ap opened_by is in let c = ap closed_by is in
    found_more k (suc d) d g gs (partner k d gs) (λ down. omega arith) (omega arith) (all d)

found : (k d : ℕ) (gs : List Glyph) → Found k d gs (partner k d gs)
found k d [] = λ m below down. absurd (omega arith)
found k d (g ∷ gs) = by_turn k (tag_turn k (g ∷ gs)) d g gs refl (λ e. found k e gs)

inner_zero : (k : ℕ) (gs : List Glyph) (n : ℕ) → AreInnerBy k 0 gs n → AreInner k gs n
inner_zero k gs n f m below down = let h = f m below down in omega arith

pub partner_found : (k : ℕ) (gs ys : List Glyph) → partner k 0 gs ≡ Some ys → (n : ℕ) × (ys ≡ drop n gs) × Closes k gs n × AreInner k gs n
partner_found k gs ys e = by (subst P e (found k 0 gs))
  where
    P : Option (List Glyph) → Type 0
    P o = Found k 0 gs o

    by : Found k 0 gs (Some ys) → (n : ℕ) × (ys ≡ drop n gs) × Closes k gs n × AreInner k gs n
    by (n, below, is, turn, count, inner) = (n, is, (turn, omega arith), inner_zero k gs n inner)

pub partner_none : (k : ℕ) (gs : List Glyph) → partner k 0 gs ≡ None → AreInner k gs (length gs)
partner_none k gs e = let P : Option (List Glyph) → Type 0 = λ o. Found k 0 gs o in inner_zero k gs (length gs) (subst P e (found k 0 gs))

-- How deep calls lie in two texts side by side, where no call goes over the cut: as deep as in each by itself.
use Rattle.std.proofs.Common.{◌≡◌, inl, inr, ℕ, ◌+◌, Bool, true, false, Option, Some, None, List, [], ◌∷◌, ◌++◌, nat_le, refl, sym, ap, ◌∙◌, subst}
use Rattle.std.specs.Prelude.{if◌then◌else◌}
use Rattle.std.specs.Option.{option_or}
use Rattle.wt_span.specs.declared.form.Mode.TheVariants.{Page}
use Rattle.wt_span.specs.declared.form.LexKind.TheVariants.{Chars}
use Rattle.wt_span.specs.Lexemes.{Word, words}
use Rattle.wt_span.specs.Braces.{Member, Members, lexeme, call, none, more, members, width, reduced_onto, reduced, calls}
use Rattle.wt_braces.specs.Deep.{deep_of, deep_of_all}
use Rattle.wt_braces.proofs.Sizes.{AreWide, wide_reduced, wide_text}
use Rattle.wt_braces.proofs.Depths.{too_deep_is}
use Rattle.wt_expand.specs.Work.{deep_place}
use Rattle.wt_part_laws.specs.Apart.{AreMet, AreApart}
use Rattle.wt_part_laws.proofs.ApartCalls.{reduced_apart, run_cut}
use Rattle.wt_text_edit_laws.proofs.Texts.TypedText.{AreLexemes}

-- ---- no call has a hundred others round it

abbrev mutual
  IsFlat : ℕ → Member → Type 0
  IsFlat depth (lexeme w) = Unit {0}
  IsFlat depth (call k ms) = (nat_le 100 depth ≡ false) × AreFlat (depth + 1) ms

  AreFlat : ℕ → Members → Type 0
  AreFlat depth none = Unit {0}
  AreFlat depth (more m ms) = IsFlat depth m × AreFlat depth ms

both_none : (a b : Option ℕ) → option_or a b ≡ None → (a ≡ None) × (b ≡ None)
both_none None b e = (refl, e)
both_none (Some n) b e = absurd (some_none n e)
  where
    IsNone : Option ℕ → Type 0
    IsNone None = Unit {0}
    IsNone (Some n) = ⊥

    some_none : (n : ℕ) → Some n ≡ None → ⊥
    some_none n e = subst IsNone (sym e) tt

none_or : (a b : Option ℕ) → a ≡ None → b ≡ None → option_or a b ≡ None
none_or a b e f = ap (λ o. option_or o b) e ∙ f

by_depth : (t : Bool) (at : ℕ) (o : Option ℕ) → (if t then Some at else o) ≡ None → (t ≡ false) × (o ≡ None)
by_depth true at o e = absurd (not_none e)
  where
    IsNone : Option ℕ → Type 0
    IsNone None = Unit {0}
    IsNone (Some n) = ⊥

    not_none : {n : ℕ} → Some n ≡ None → ⊥
    not_none e = subst IsNone (sym e) tt
by_depth false at o e = (refl, e)

mutual
  flat_one : (at depth : ℕ) (m : Member) → deep_of at depth m ≡ None → IsFlat depth m
  flat_one at depth (lexeme w) e = tt
  flat_one at depth (call k ms) e =
      let s = by_depth (nat_le 100 depth) at (deep_of_all (at + k) (depth + 1) ms) e in (s.0, flat_all (at + k) (depth + 1) ms s.1)

  flat_all : (at depth : ℕ) (ms : Members) → deep_of_all at depth ms ≡ None → AreFlat depth ms
  flat_all at depth none e = tt
  flat_all at depth (more m ms) e =
      let s = both_none (deep_of at depth m) (deep_of_all (at + width m) depth ms) e in (flat_one at depth m s.0, flat_all (at + width m) depth ms s.1)

mutual
  one_flat : (at depth : ℕ) (m : Member) → IsFlat depth m → deep_of at depth m ≡ None
  one_flat at depth (lexeme w) h = refl
  one_flat at depth (call k ms) h =
      ap (λ (t : Bool). if t then Some at else deep_of_all (at + k) (depth + 1) ms) h.0 ∙ all_flat (at + k) (depth + 1) ms h.1

  all_flat : (at depth : ℕ) (ms : Members) → AreFlat depth ms → deep_of_all at depth ms ≡ None
  all_flat at depth none h = refl
  all_flat at depth (more m ms) h =
      none_or (deep_of at depth m) (deep_of_all (at + width m) depth ms) (one_flat at depth m h.0) (all_flat (at + width m) depth ms h.1)

-- ---- members one after another

abbrev pub IsShallow : List Word → Type 0
IsShallow ws = AreFlat 0 (members (reduced ws))

flat_append : (xs ys : List Member) → AreFlat 0 (members (xs ++ ys)) → AreFlat 0 (members xs) × AreFlat 0 (members ys)
flat_append [] ys h = (tt, h)
flat_append (x ∷ xs) ys h = let s = flat_append xs ys h.1 in ((h.0, s.0), s.1)

append_flat : (xs ys : List Member) → AreFlat 0 (members xs) → AreFlat 0 (members ys) → AreFlat 0 (members (xs ++ ys))
append_flat [] ys h g = g
append_flat (x ∷ xs) ys h g = (h.0, append_flat xs ys h.1 g)

flat_so : {xs ys : List Member} → xs ≡ ys → AreFlat 0 (members xs) → AreFlat 0 (members ys)
flat_so e h = subst (λ (ms : List Member). AreFlat 0 (members ms)) e h

pub shallow_both : (vs ws us : List Word) → AreMet vs ws us → AreApart vs ws → IsShallow us → IsShallow vs × IsShallow ws
shallow_both vs ws us (inl e) a h =
    flat_append (reduced vs) (reduced ws) (flat_so (ap reduced e ∙ reduced_apart vs ws a) h)
shallow_both vs ws us (inr m) a h =
    let r = run_cut vs ws us a m in
    let s = flat_append (reduced m.before) (lexeme (Chars, m.first + m.second) ∷ reduced m.after) (flat_so r.both_is h) in
    let first : AreFlat 0 (members (reduced m.before ++ lexeme (Chars, m.first) ∷ [])) = append_flat (reduced m.before) (lexeme (Chars, m.first) ∷ []) s.0 (tt, tt) in
    (flat_so (sym r.first_is) first, flat_so (sym r.second_is) (tt, s.1.1))

pub both_shallow : (vs ws us : List Word) → AreMet vs ws us → AreApart vs ws → IsShallow vs → IsShallow ws → IsShallow us
both_shallow vs ws us (inl e) a h g =
    flat_so (sym (ap reduced e ∙ reduced_apart vs ws a)) (append_flat (reduced vs) (reduced ws) h g)
both_shallow vs ws us (inr m) a h g =
    let r = run_cut vs ws us a m in
    let s = flat_append (reduced m.before) (lexeme (Chars, m.first) ∷ []) (flat_so r.first_is h) in
    let t : AreFlat 0 (members (lexeme (Chars, m.second) ∷ reduced m.after)) = flat_so r.second_is g in
    flat_so (sym r.both_is) (append_flat (reduced m.before) (lexeme (Chars, m.first + m.second) ∷ reduced m.after) s.0 (tt, t.1))

lexemes_flat : (xs : List Member) → AreLexemes xs → AreFlat 0 (members xs)
lexemes_flat [] l = tt
lexemes_flat (lexeme w ∷ xs) l = (tt, lexemes_flat xs l)
lexemes_flat (call k inside ∷ xs) l = absurd l

pub calm_shallow : (ws : List Word) → AreLexemes (reduced ws) → IsShallow ws
calm_shallow ws l = lexemes_flat (reduced ws) l

-- ---- so of a page

wide_words : (ws : List Word) → AreWide (members (reduced ws))
unfolding reduced
wide_words ws = wide_text (reduced_onto [] ws) (wide_reduced [] ws tt)

place_is : (bs : List ℕ) → deep_place Page bs ≡ deep_of_all 0 0 (members (reduced (words Page bs)))
unfolding deep_place calls
place_is bs = too_deep_is 0 (members (reduced (words Page bs))) (wide_words (words Page bs))

pub undeep_shallow : (bs : List ℕ) → deep_place Page bs ≡ None → IsShallow (words Page bs)
undeep_shallow bs e = flat_all 0 0 (members (reduced (words Page bs))) (sym (place_is bs) ∙ e)

pub shallow_undeep : (bs : List ℕ) → IsShallow (words Page bs) → deep_place Page bs ≡ None
shallow_undeep bs h = place_is bs ∙ all_flat 0 0 (members (reduced (words Page bs))) h

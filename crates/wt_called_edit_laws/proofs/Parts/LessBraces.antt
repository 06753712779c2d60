-- Braces in the place of others that call nothing: where such are among those, they call nothing either.
use Rattle.std.proofs.Common.{◌≡◌, Bool, true, false, List, [], ◌∷◌, ◌++◌, refl, sym, ap, ◌∙◌, subst}
use Rattle.std.specs.Prelude.{◌||◌}
use Rattle.wt_text_edit_laws.specs.NoCalls.{Brace, opening, closing, NoneClose, NonePairs}
use Rattle.wt_text_edit_laws.proofs.Between.BraceWords.{none_pair}
use Rattle.wt_called_edit_laws.specs.Retyped.{is_same, has, IsLess}
use Rattle.wt_called_edit_laws.proofs.Parts.KeptBraces.{has_both}
use Rattle.wt_called_edit_laws.proofs.Parts.LeftBraces.{pairs_rest}

-- ---- those that open, and those that close

none_has : (ys : List Brace) → NoneClose ys → has closing ys ≡ false
none_has [] h = refl
none_has (opening ∷ ys) h = none_has ys h
none_has (closing ∷ ys) h = absurd h

has_none : (ys : List Brace) → has closing ys ≡ false → NoneClose ys
has_none [] e = tt
has_none (opening ∷ ys) e = has_none ys e
has_none (closing ∷ ys) e = absurd (cc)

second_false : (u v : Bool) → (u || v) ≡ false → v ≡ false
second_false true v e = absurd (cc)
second_false false v e = e

pairs_meet : (vs ys : List Brace) → NonePairs (vs ++ ys) → has opening vs ≡ true → has closing ys ≡ false
pairs_meet [] ys h e = absurd (cc)
pairs_meet (opening ∷ vs) ys h e = second_false (has closing vs) (has closing ys) (sym (has_both closing vs ys) ∙ none_has (vs ++ ys) h)
pairs_meet (closing ∷ vs) ys h e = pairs_meet vs ys h e

none_front : (xs ys : List Brace) → NoneClose (xs ++ ys) → NoneClose xs
none_front [] ys h = tt
none_front (opening ∷ xs) ys h = none_front xs ys h
none_front (closing ∷ xs) ys h = absurd h

pub pairs_front : (xs ys : List Brace) → NonePairs (xs ++ ys) → NonePairs xs
pairs_front [] ys h = tt
pairs_front (opening ∷ xs) ys h = none_front xs ys h
pairs_front (closing ∷ xs) ys h = pairs_front xs ys h

none_both : (xs ys : List Brace) → NoneClose xs → NoneClose ys → NoneClose (xs ++ ys)
none_both [] ys h k = k
none_both (opening ∷ xs) ys h k = none_both xs ys h k
none_both (closing ∷ xs) ys h k = absurd h

pairs_both : (us xs : List Brace) → NonePairs us → NonePairs xs → (has opening us ≡ true → has closing xs ≡ false) → NonePairs (us ++ xs)
pairs_both [] xs h k f = k
pairs_both (opening ∷ us) xs h k f = none_both us xs h (has_none xs (f refl))
pairs_both (closing ∷ us) xs h k f = pairs_both us xs h k f

-- ---- less of them

pub less_self : (xs : List Brace) → NonePairs xs → IsLess xs xs
less_self xs h = record { apart = h; some = λ x e. e }

pub none_less : (xs ys : List Brace) → xs ≡ [] → IsLess xs ys
none_less xs ys e = subst (λ (bs : List Brace). IsLess bs ys) (sym e) (record { apart = tt; some = λ x f. absurd (cc) })

pub less_after : (xs ys zs : List Brace) → IsLess xs ys → IsLess zs xs → IsLess zs ys
less_after xs ys zs h g = record { apart = g.apart; some = λ x e. h.some x (g.some x e) }

or_both : (a b c d : Bool) → (a ≡ true → c ≡ true) → (b ≡ true → d ≡ true) → (a || b) ≡ true → (c || d) ≡ true
or_both true b c d f g e = ap (λ (u : Bool). u || d) (f refl)
or_both false b true d f g e = refl
or_both false b false d f g e = g e

pub less_both : (us vs xs ys : List Brace) → IsLess us vs → IsLess xs ys → NonePairs (vs ++ ys) → IsLess (us ++ xs) (vs ++ ys)
less_both us vs xs ys h k n = record {
  apart = pairs_both us xs h.apart k.apart (λ e. by (has closing xs) refl (pairs_meet vs ys n (h.some opening e)));
  some = λ x e. has_both x vs ys ∙ or_both (has x us) (has x xs) (has x vs) (has x ys) (h.some x) (k.some x) (sym (has_both x us xs) ∙ e);
}
  where
    by : (t : Bool) → has closing xs ≡ t → has closing ys ≡ false → has closing xs ≡ false
    by false e f = e
    by true e f = let no : true ≡ false = sym (k.some closing e) ∙ f in absurd (cc)

-- The attributes of its own that a group's first element has.
use Rattle.std.proofs.Common.{◌≡◌, ℕ, ◌+◌, ◌<◌, Bool, true, false, List, [], ◌∷◌, ◌++◌, refl, sym, ap, ◌∙◌, codes, drop, length, arith}
use Rattle.std.specs.Prelude.{◌&&◌, ◌||◌, if◌then◌else◌, nat_eq, get_or}
use Rattle.std.specs.Str.{bytes_eq, is_utf8}
use Rattle.std.proofs.lemmas.Bool.{eqb-true}
use Rattle.std.proofs.lemmas.Str.{IsUtf8-drop, IsCharBoundary-after_ascii, IsUtf8-from_is_utf8, is_utf8-from_IsUtf8}
use Rattle.wt_span.specs.Bytes.{begins}
use Rattle.wt_html_grammar.specs.Markup.{Pair}
use Rattle.wt_html_grammar.proofs.Reading.{and_true}
use Rattle.wt_schema.specs.Groups.{transclusion, param, spaced, is_word_of, behind_word, own_type, is_groups, own_pair, own_pairs}
use Rattle.wt_html_nodes.specs.Texts.{are_utf8_values}
use Rattle.wt_html_nodes.proofs.Values.{and_left, and_right}

and_assoc : (a b c : Bool) → ((a && b) && c) ≡ (a && (b && c))
and_assoc true b c = refl
and_assoc false b c = refl

-- a text begins with two words one behind the other
pub begins_both : (w v t : List ℕ) → begins (w ++ v) t ≡ (begins w t && begins v (drop (length w) t))
begins_both [] v t = refl
begins_both (a ∷ w) v [] = refl
begins_both (a ∷ w) v (b ∷ t) = ap (λ x. nat_eq a b && x) (begins_both w v t) ∙ sym (and_assoc (nat_eq a b) (begins w t) (begins v (drop (length w) t)))

pub begins_spaced : (w t : List ℕ) → begins (spaced w) t ≡ (begins w t && begins (codes " ") (drop (length w) t))
begins_spaced w t = begins_both w (codes " ") t

-- ---- what stands behind a word is UTF-8

after_word : (w t : List ℕ) → begins (w ++ codes " ") t ≡ true → (length w < length t) × (get_or t (length w) 0 ≡ 32)
after_word [] [] e = cc
after_word [] (x ∷ xs) e = (omega arith, sym (eqb-true 32 x (and_left (nat_eq 32 x) _ e)))
after_word (a ∷ w) [] e = cc
after_word (a ∷ w) (x ∷ xs) e =
    let h = after_word w xs (and_right (nat_eq a x) (begins (w ++ codes " ") xs) e) in (omega (arith, h.0), h.1)

spaced_length : (w : List ℕ) → length (spaced w) ≡ length w + 1
spaced_length [] = refl
spaced_length (a ∷ w) = let h = spaced_length w in omega (arith, h)

drop_utf8 : (w t : List ℕ) → is_utf8 t ≡ true → begins (spaced w) t ≡ true → is_utf8 (drop (length (spaced w)) t) ≡ true
drop_utf8 w t u e =
    let h = after_word w t e in
    let v = IsUtf8-from_is_utf8 t u in
    ap (λ n. is_utf8 (drop n t)) (spaced_length w)
    ∙ is_utf8-from_IsUtf8 (drop (length w + 1) t)
    (IsUtf8-drop t (length w + 1) v (IsCharBoundary-after_ascii t (length w) v h.0 (omega (arith, h.1))))

one_value : (name t : List ℕ) → is_utf8 t ≡ true → are_utf8_values ((name, t) ∷ []) ≡ true
one_value name t u = and_true (is_utf8 t) true u refl

behind_utf8 : (w t : List ℕ) → is_utf8 t ≡ true → is_word_of w t ≡ true → are_utf8_values (behind_word w t) ≡ true
behind_utf8 w t u e = by_test (bytes_eq t w) e
  where
    by_test : (b : Bool) → (b || begins (spaced w) t) ≡ true → are_utf8_values (if b then [] else (codes "typeof", drop (length (spaced w)) t) ∷ []) ≡ true
    by_test true f = refl
    by_test false f = one_value (codes "typeof") (drop (length (spaced w)) t) (drop_utf8 w t u f)

type_utf8 : (t : List ℕ) → is_utf8 t ≡ true → are_utf8_values (own_type t) ≡ true
type_utf8 t u = by_test (is_word_of transclusion t) (is_word_of param t) refl refl
  where
    by_test : (b d : Bool) → is_word_of transclusion t ≡ b → is_word_of param t ≡ d
        → are_utf8_values (if b then behind_word transclusion t else if d then behind_word param t else (codes "typeof", t) ∷ []) ≡ true
    by_test true d e f = behind_utf8 transclusion t u e
    by_test false true e f = behind_utf8 param t u f
    by_test false false e f = one_value (codes "typeof") t u

pair_utf8 : (p : Pair) → is_utf8 p.1 ≡ true → are_utf8_values (own_pair p) ≡ true
pair_utf8 p u = by_test (is_groups p.0) (bytes_eq p.0 (codes "typeof"))
  where
    by_test : (b d : Bool) → are_utf8_values (if b then [] else if d then own_type p.1 else p ∷ []) ≡ true
    by_test true d = refl
    by_test false true = type_utf8 p.1 u
    by_test false false = and_true (is_utf8 p.1) true u refl

append_utf8 : (ps qs : List Pair) → are_utf8_values ps ≡ true → are_utf8_values qs ≡ true → are_utf8_values (ps ++ qs) ≡ true
append_utf8 [] qs e f = f
append_utf8 (p ∷ ps) qs e f =
    and_true (is_utf8 p.1) (are_utf8_values (ps ++ qs)) (and_left (is_utf8 p.1) (are_utf8_values ps) e)
    (append_utf8 ps qs (and_right (is_utf8 p.1) (are_utf8_values ps) e) f)

pub own_utf8 : (ps : List Pair) → are_utf8_values ps ≡ true → are_utf8_values (own_pairs ps) ≡ true
own_utf8 [] e = refl
own_utf8 (p ∷ ps) e =
    append_utf8 (own_pair p) (own_pairs ps) (pair_utf8 p (and_left (is_utf8 p.1) (are_utf8_values ps) e))
    (own_utf8 ps (and_right (is_utf8 p.1) (are_utf8_values ps) e))

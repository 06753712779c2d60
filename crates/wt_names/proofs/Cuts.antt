-- A text cut at the first sign, and without the spaces at its ends: what the methods of `str` give is what the words say.
use Rattle.std.proofs.Common.{◌≡◌, ◌≢◌, ℕ, suc, ◌+◌, ◌-◌, ◌<◌, Bool, true, false, not, cond, ◌&&◌, nat_eq, ◌⊎◌, inl, inr, List, [], ◌∷◌, ◌++◌, length, take, drop, Option, Some, None, option_map, MatchOption, Bor, refl, sym, ap, ◌∙◌, arith, lit<, take-append-drop, length-append}
use Rattle.std.specs.List.{position_or_len, before_first, after_first}
use Rattle.std.specs.Str.Pattern.{FindsCharPrefix, FindsCharSuffix, CutsPrefixes, CutsSuffixes, IsTrimStartMatches, IsTrimEndMatches}
use Rattle.std.proofs.lemmas.Bool.{cond-false}
use Rattle.std.proofs.lemmas.Bool.Decides.{eqb_tells}
use Rattle.std.proofs.lemmas.List.{drop_all}
use Rattle.std.proofs.lemmas.Str.{encode_ascii}
use Rattle.std.proofs.lemmas.Str.Pattern.{drop_at_char}
use Rattle.wt_names.specs.Reading.{split_once, trimmed_start, trimmed_end, trimmed}

pub differs : (b c : ℕ) → b ≢ c → nat_eq b c ≡ false
differs b c other = grind (arith, eqb_tells b c)

-- ---- the cut

none_step : (t : Bool) (n m : ℕ) (here : Option (List ℕ × List ℕ)) (on : List ℕ × List ℕ → List ℕ × List ℕ) (o : Option (List ℕ × List ℕ))
    → cond (not t) (1 + n) 0 ≡ suc m → (n ≡ m → o ≡ None) → cond t here (option_map on o) ≡ None
none_step true n m here on o e f = let z : 0 ≡ suc m = e in absurd (omega arith)
none_step false n m here on o e f = let z : 1 + n ≡ suc m = e in ap (option_map on) (f (omega arith))

pub split_once-none : (sign : ℕ) (bs : List ℕ) → position_or_len (λ b. nat_eq b sign) bs ≡ length bs → split_once sign bs ≡ None
split_once-none sign [] e = refl
split_once-none sign (b ∷ bs) e = none_step (nat_eq b sign) _ (length bs) _ _ _ e (split_once-none sign bs)

some_step : (t : Bool) (n : ℕ) (b : ℕ) (bs : List ℕ) (o : Option (List ℕ × List ℕ))
    → cond (not t) (1 + n) 0 < suc (length bs) → (n < length bs → o ≡ Some (take n bs, drop (n + 1) bs))
    → cond {A = Option (List ℕ × List ℕ)} t (Some ([], bs)) (option_map (λ parts. (b ∷ parts.0, parts.1)) o)
    ≡ Some (take (cond (not t) (1 + n) 0) (b ∷ bs), drop (cond (not t) (1 + n) 0 + 1) (b ∷ bs))
some_step true n b bs o lt f = refl
some_step false n b bs o lt f =
    let small : 1 + n < suc (length bs) = lt in
    let e : 1 + n ≡ suc n = omega arith in
    let d : 1 + n + 1 ≡ suc (n + 1) = omega arith in
    ap (option_map (λ parts. (b ∷ parts.0, parts.1))) (f (omega arith)) ∙ rw (e) (rw (sym e, d) refl)

pub split_once-some : (sign : ℕ) (bs : List ℕ) → position_or_len (λ b. nat_eq b sign) bs < length bs
    → split_once sign bs ≡ Some (before_first (λ b. nat_eq b sign) bs, after_first (λ b. nat_eq b sign) bs)
split_once-some sign [] lt = absurd (omega arith)
split_once-some sign (b ∷ bs) lt = some_step (nat_eq b sign) _ b bs _ lt (split_once-some sign bs)

-- what `split_once` of a text gives
pub split_once_is : (sign : ℕ) (bs : List ℕ) (r : Option (Bor (List ℕ) × Bor (List ℕ)))
    → MatchOption r (position_or_len (λ b. nat_eq b sign) bs ≡ length bs)
    (λ x. (position_or_len (λ b. nat_eq b sign) bs < length bs) × (x.0.now ≡ before_first (λ b. nat_eq b sign) bs)
    × (x.1.now ≡ after_first (λ b. nat_eq b sign) bs))
    → option_map (λ parts. (parts.0.now, parts.1.now)) r ≡ split_once sign bs
split_once_is sign bs None h = sym (split_once-none sign bs h)
split_once_is sign bs (Some x) h = rw (h.1, h.2) (sym (split_once-some sign bs h.0))

-- ---- the spaces at the start

cuts_start : (s : List ℕ) (ns : List ℕ) (r : List ℕ) → CutsPrefixes (FindsCharPrefix 32) s ns r → trimmed_start s ≡ trimmed_start r
cuts_start s [] r h = ap trimmed_start (sym h)
cuts_start s (n ∷ ns) r (m, h, f, e) = cuts_start s ns m h ∙ ap trimmed_start (drop_at_char 32 m 0 n f (lit< tt)) ∙ ap trimmed_start (sym e)

pub trimmed_start-other : (b : ℕ) (bs : List ℕ) → b ≢ 32 → trimmed_start (b ∷ bs) ≡ b ∷ bs
trimmed_start-other b bs other = cond-false _ _ _ (differs b 32 other)

no_space_first : (r : List ℕ) → ((rest : List ℕ) → r ≢ 32 ∷ rest) → trimmed_start r ≡ r
no_space_first [] h = refl
no_space_first (b ∷ bs) h = trimmed_start-other b bs (λ e. h bs (ap (λ x. x ∷ bs) e))

full_start : (r : List ℕ) (o : Option ℕ) → FindsCharPrefix 32 r o → MatchOption o (Unit {0}) (λ n. n ≡ 0) → trimmed_start r ≡ r
full_start r None f small = no_space_first r (λ rest e. f rest (e ∙ ap (λ x. x ++ rest) (sym (encode_ascii 32 (lit< tt)))))
full_start r (Some n) f small = let e : n ≡ 0 + 1 = f.ends in absurd (omega arith)

pub trimmed_start_is : (s r : List ℕ) → IsTrimStartMatches (FindsCharPrefix 32) s r → r ≡ trimmed_start s
trimmed_start_is s r ((ns, cuts), (o, f, small)) = sym (cuts_start s ns r cuts ∙ full_start r o f small)

-- ---- the spaces at the end

pub trimmed_end-space : (xs : List ℕ) → trimmed_end (xs ++ 32 ∷ []) ≡ trimmed_end xs
trimmed_end-space [] = refl
trimmed_end-space (x ∷ xs) = ap (λ t. cond (nat_eq x 32 && nat_eq (length t) 0) [] (x ∷ t)) (trimmed_end-space xs)

not_empty : (t : Bool) (x : ℕ) (xs : List ℕ) (b : ℕ) → cond (t && nat_eq (length (xs ++ b ∷ [])) 0) [] (x ∷ (xs ++ b ∷ [])) ≡ x ∷ (xs ++ b ∷ [])
not_empty true x xs b =
    let some : length (xs ++ b ∷ []) ≢ 0 = simp length-append (λ e. omega arith) in
    cond-false (nat_eq (length (xs ++ b ∷ [])) 0) [] (x ∷ (xs ++ b ∷ [])) (differs (length (xs ++ b ∷ [])) 0 some)
not_empty false x xs b = refl

pub trimmed_end-other : (xs : List ℕ) (b : ℕ) → b ≢ 32 → trimmed_end (xs ++ b ∷ []) ≡ xs ++ b ∷ []
trimmed_end-other [] b other = ap (λ t. cond (t && true) [] (b ∷ [])) (differs b 32 other)
trimmed_end-other (x ∷ xs) b other =
    ap (λ t. cond (nat_eq x 32 && nat_eq (length t) 0) [] (x ∷ t)) (trimmed_end-other xs b other) ∙ not_empty (nat_eq x 32) x xs b

pub snoc_view : (r : List ℕ) → (r ≡ []) ⊎ ((front : List ℕ) × (b : ℕ) × (r ≡ front ++ b ∷ []))
snoc_view [] = inl refl
snoc_view (x ∷ xs) = inr (elim (snoc_view xs) [ inl e ↦ ([], x, ap (λ t. x ∷ t) e) | inr h ↦ (x ∷ h.0, h.1, ap (λ t. x ∷ t) h.2) ])

cuts_end : (s : List ℕ) (ns : List ℕ) (r : List ℕ) → CutsSuffixes (FindsCharSuffix 32) s ns r → trimmed_end s ≡ trimmed_end r
cuts_end s [] r h = ap trimmed_end (sym h)
cuts_end s (n ∷ ns) r (m, h, f, e) =
    let last = drop_at_char 32 m (length m - n) (length m) f.1 (lit< tt) in
    let none : drop (length m) m ≡ [] = drop_all (length m) m (omega arith) in
    let whole : m ≡ take (length m - n) m ++ 32 ∷ [] = sym (take-append-drop (length m - n) m)
    ∙ ap (λ t. take (length m - n) m ++ t) (last ∙ ap (λ t. 32 ∷ t) none) in
    cuts_end s ns m h ∙ ap trimmed_end whole ∙ trimmed_end-space (take (length m - n) m) ∙ ap trimmed_end (sym e)

no_space_last : (r : List ℕ) → ((front : List ℕ) → r ≢ front ++ 32 ∷ []) → trimmed_end r ≡ r
no_space_last r h = elim (snoc_view r) [
  | inl e ↦ ap trimmed_end e ∙ sym e
  | inr v ↦ ap trimmed_end v.2 ∙ trimmed_end-other v.0 v.1 (λ e. h v.0 (v.2 ∙ ap (λ b. v.0 ++ b ∷ []) e)) ∙ sym v.2
]

full_end : (r : List ℕ) (o : Option ℕ) → FindsCharSuffix 32 r o → MatchOption o (Unit {0}) (λ n. n ≡ 0) → trimmed_end r ≡ r
full_end r None f small = no_space_last r (λ front e. f front (e ∙ ap (λ x. front ++ x) (sym (encode_ascii 32 (lit< tt)))))
full_end r (Some n) f small = let e : n ≡ 1 = f.0 in absurd (omega arith)

pub trimmed_end_is : (s r : List ℕ) → IsTrimEndMatches (FindsCharSuffix 32) s r → r ≡ trimmed_end s
trimmed_end_is s r ((ns, cuts), (o, f, small)) = sym (cuts_end s ns r cuts ∙ full_end r o f small)

pub trimmed_is : (s m r : List ℕ) → IsTrimStartMatches (FindsCharPrefix 32) s m → IsTrimEndMatches (FindsCharSuffix 32) m r → r ≡ trimmed s
trimmed_is s m r start end = trimmed_end_is m r end ∙ ap trimmed_end (trimmed_start_is s m start)

-- The characters of a text and its bytes, for what changes ASCII alone: an ASCII character is its byte, and each byte of another one is past ASCII.
use Rattle.std.proofs.Common.{cond, ◌≡◌, ◌≢◌, ℕ, zero, suc, ◌+◌, ◌<◌, ◌≤◌, inl, inr, List, [], ◌∷◌, ◌++◌, length, get_or, Some, None, take, drop, All, refl, sym, ap, ◌∙◌, subst, arith, take-append-drop}
use Rattle.std.specs.Char.{encode_utf8, len_utf8, to_ascii_uppercase}
use Rattle.std.specs.Str.Pattern.{FindsChar}
use Rattle.std.specs.Str.Replace.{ReplacesMatches}
use Rattle.std.proofs.lemmas.Bool.{cases_lt, eq-eqb}
use Rattle.std.proofs.lemmas.Bool.Decides.{nat_tests}
use Rattle.std.proofs.lemmas.List.{append-nil}
use Rattle.std.proofs.lemmas.List.Elements.{All-nil, All-cons, All-same, All-weaker, All-head, All-from_get_or}
use Rattle.std.proofs.lemmas.Str.{encode_ascii, inside_one, length-encode, len_utf8_bounds, len_utf8_ascii}
use Rattle.std.proofs.lemmas.Str.Pattern.{drop_at_char, NoCharPasses-char}
use Rattle.wt_names.specs.Reading.{replaced, replaced_byte, raised}
use Rattle.wt_names.proofs.Cuts.{differs}

abbrev pub IsWide : ℕ → Type 0
IsWide b = 128 ≤ b

pub encode_wide : (c : ℕ) → 128 ≤ c → All IsWide (encode_utf8 c)
encode_wide c wide = All-from_get_or IsWide (encode_utf8 c) 0 (λ k within.
    let one = inside_one c [] (encode_utf8 c) k (sym (append-nil (encode_utf8 c))) within in
    grind arith)

pub encode_some : (c : ℕ) → 0 < length (encode_utf8 c)
encode_some c = let bounds = len_utf8_bounds c in omega (arith, length-encode c)

-- a character that isn't a space has no byte that is one
pub encode_others : (c : ℕ) → c ≢ 32 → All (λ b. b ≢ 32) (encode_utf8 c)
encode_others c other = elim (cases_lt c 128) [
  | inl small ↦ All-same (λ b. b ≢ 32) (encode_utf8 c) (c ∷ []) (encode_ascii c small) (All-cons (λ b. b ≢ 32) c [] other (All-nil (λ b. b ≢ 32)))
  | inr wide ↦ All-weaker IsWide (λ b. b ≢ 32) (λ b h. omega arith) (encode_utf8 c) (encode_wide c wide)
]

-- ---- one byte for another

pub replaced-same : (from to : ℕ) (bs : List ℕ) → ((i : ℕ) → i < length bs → get_or bs i 0 ≢ from) → replaced from to bs ≡ bs
replaced-same from to [] none = refl
replaced-same from to (b ∷ bs) none =
    let first : b ≢ from = none 0 (omega arith) in
    let on : (i : ℕ) → i < length bs → get_or bs i 0 ≢ from = λ i h. none (suc i) (omega arith) in
    ap (λ t. cond t to b ∷ replaced from to bs) (differs b from first) ∙ ap (λ t. b ∷ t) (replaced-same from to bs on)

pub replaced-append : (from to : ℕ) (xs ys : List ℕ) → replaced from to (xs ++ ys) ≡ replaced from to xs ++ replaced from to ys
replaced-append from to [] ys = refl
replaced-append from to (x ∷ xs) ys = ap (λ t. replaced_byte from to x ∷ t) (replaced-append from to xs ys)

replaced-first : (from to : ℕ) (bs : List ℕ) → replaced from to (from ∷ bs) ≡ to ∷ replaced from to bs
replaced-first from to bs = ap (λ t. cond t to from ∷ replaced from to bs) (eq-eqb from from refl)

-- what `replace` of a text gives, for two ASCII characters
pub replaced_is : (from to : ℕ) (n : ℕ) (q : ℕ) (s out : List ℕ) → from < 128 → q ≡ from
    → ReplacesMatches FindsChar (λ c d. d ≡ c) (to ∷ []) n q s out → out ≡ replaced from to s
replaced_is from to zero q s out small e (none, same) = same
    ∙ sym (replaced-same from to s (λ i h. NoCharPasses-char from s i (subst (λ (c : ℕ). FindsChar c s None) e none) small h))
replaced_is from to (suc n) q s out small e (a, b, p, rest, found, keeps, on, same) =
    let here = subst (λ (c : ℕ). FindsChar c s (Some (a, b))) e found in
    let front : replaced from to (take a s) ≡ take a s = replaced-same from to (take a s) (λ i h. NoCharPasses-char from (take a s) i here.0 small h) in
    let past : b ≡ a + len_utf8 from = here.1.ends in
    let one = len_utf8_ascii from small in
    let whole : s ≡ take a s ++ from ∷ drop b s = sym (take-append-drop a s) ∙ ap (λ t. take a s ++ t) (drop_at_char from s a b here.1 small) in
    elim on [
      | inl go ↦ same ∙ ap (λ t. take a s ++ to ∷ t) (replaced_is from to n p (drop b s) rest small (keeps ∙ e) go.1)
          ∙ sym (ap (replaced from to) whole ∙ replaced-append from to (take a s) (from ∷ drop b s)
          ∙ ap (λ t. t ++ replaced from to (from ∷ drop b s)) front ∙ ap (λ t. take a s ++ t) (replaced-first from to (drop b s)))
      | inr stop ↦ absurd (let z : a ≡ b = stop.0 in omega arith)
    ]

-- ---- the first character raised

pub upper_wide : (b : ℕ) → 128 ≤ b → to_ascii_uppercase b ≡ b
upper_wide b wide = grind (arith, nat_tests)

pub upper_small : (b : ℕ) → b < 128 → to_ascii_uppercase b < 128
upper_small b small = grind (arith, nat_tests)

raised_wide : (xs rest : List ℕ) → All IsWide xs → 0 < length xs → raised (xs ++ rest) ≡ xs ++ rest
raised_wide [] rest wide some = absurd (omega arith)
raised_wide (x ∷ xs) rest wide some = ap (λ b. b ∷ (xs ++ rest)) (upper_wide x (All-head IsWide x xs wide))

pub raised_is : (c : ℕ) (bs rest : List ℕ) → bs ≡ encode_utf8 c ++ rest → encode_utf8 (to_ascii_uppercase c) ++ rest ≡ raised bs
raised_is c bs rest e = elim (cases_lt c 128) [
  | inl small ↦ ap (λ t. t ++ rest) (encode_ascii (to_ascii_uppercase c) (upper_small c small))
      ∙ sym (ap raised (e ∙ ap (λ t. t ++ rest) (encode_ascii c small)))
  | inr wide ↦ ap (λ t. encode_utf8 t ++ rest) (upper_wide c wide) ∙ sym (ap raised e ∙ raised_wide (encode_utf8 c) rest (encode_wide c wide) (encode_some c))
]

pub raised_empty : (bs : List ℕ) → length bs ≡ 0 → raised bs ≡ []
raised_empty [] e = refl
raised_empty (b ∷ bs) e = absurd (omega arith)

-- the upper-case character and what follows it, as they are written
pub raised_made : (c upper : ℕ) (bs read rest start first tail pushed made : List ℕ) → upper ≡ to_ascii_uppercase c → read ≡ bs → read ≡ encode_utf8 c ++ rest
    → start ≡ [] → first ≡ start ++ encode_utf8 upper → tail ≡ rest → pushed ≡ first ++ tail → made ≡ pushed → made ≡ raised bs
raised_made c upper bs read rest start first tail pushed made is text parts empty written same both out =
    let begun : first ≡ encode_utf8 (to_ascii_uppercase c) = written ∙ ap (λ x. x ++ encode_utf8 upper) empty ∙ ap encode_utf8 is in
    out ∙ both ∙ ap (λ x. x ++ tail) begun ∙ ap (λ x. encode_utf8 (to_ascii_uppercase c) ++ x) same ∙ raised_is c bs rest (sym text ∙ parts)

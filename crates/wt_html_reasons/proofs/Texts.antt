-- Which bytes go on a text in UTF-8.
use Rattle.std.proofs.Common.{◌≡◌, ℕ, zero, suc, ◌≤◌, Bool, true, false, Option, Some, None, List, [], ◌∷◌, ◌++◌, refl, sym, ap, ◌∙◌, subst, nat_lt, append_assoc, arith, inl, inr}
use Rattle.std.specs.Prelude.{◌⊎◌, ◌||◌}
use Rattle.std.specs.Str.{IsUtf8}
use Rattle.std.proofs.lemmas.Bool.Decides.{nat_tests}
use Rattle.std.proofs.lemmas.Bool.{and_parts, both_ways}
use Rattle.std.proofs.lemmas.Str.{encode_ascii, IsUtf8-append, IsUtf8-encode, IsUtf8-past_char}
use lib.Utf8.{scalar, scalars, encode, encodes, low_scalar}
use Rattle.wt_html_grammar.specs.Signs.{Follow, follow, between, IsFollow, Follows, is_there, begins_character}
use Rattle.wt_html_grammar.specs.Grammar.{Well, Front}
use Rattle.wt_html_grammar.specs.Machine.{inside}
use Rattle.wt_html_grammar.proofs.Chars.{IsChar, of_bytes, InTable, of_char}
use Rattle.wt_html_grammar.proofs.Reading.{first_eq, others_eq, high_le, low_lt, well_read}
use Rattle.wt_html_grammar.proofs.Partial.{InOrder, follow_order}
use Rattle.wt_html_reasons.proofs.Characters.{InCharacter, characters_read}

-- what stands behind whole characters of a text is a text
behind_chars : (cs rest : List ℕ) → IsUtf8 (encodes cs ++ rest) → IsUtf8 rest
behind_chars [] rest u = u
behind_chars (c ∷ cs) rest u = behind_chars cs rest
    (IsUtf8-past_char ((encode c ++ encodes cs) ++ rest) (encodes cs ++ rest) c u (append_assoc (encode c) (encodes cs) rest))

text_behind : (before rest : List ℕ) → IsUtf8 before → IsUtf8 (before ++ rest) → IsUtf8 rest
text_behind before rest h u = behind_chars h.0 rest (let P : List ℕ → Type 0 = λ x. IsUtf8 (x ++ rest) in subst P (sym h.1.1) u)

-- a text begins with a character
first_of : (c : ℕ) (b : ℕ) (others more : List ℕ) → scalar c ≡ true → encode c ++ others ≡ b ∷ more → (t : Bool) → nat_lt c 128 ≡ t
    → (nat_lt b 128 ≡ true) ⊎ ((x rest : List ℕ) × Follows (follow b) x × (more ≡ x ++ rest))
first_of c b others more s e true l =
    let q : c ∷ others ≡ b ∷ more = ap (λ x. x ++ others) (sym (encode_ascii c (low_lt c l))) ∙ e in
    inl (ap (λ x. nat_lt x 128) (sym (first_eq c b others more q)) ∙ l)
first_of c b others more s e false l =
    let r : InTable c = of_char c s (high_le c l) in
    let q : r.0 ∷ (r.1 ++ others) ≡ b ∷ more = ap (λ x. x ++ others) (sym r.2) ∙ e in
    let P : ℕ → Type 0 = λ d. Follows (follow d) r.1 in
    inr (r.1, others, subst P (first_eq r.0 b (r.1 ++ others) more q) r.3, sym (others_eq r.0 b (r.1 ++ others) more q))

first_char : (b : ℕ) (more cs : List ℕ) → scalars cs ≡ true → encodes cs ≡ b ∷ more
    → (nat_lt b 128 ≡ true) ⊎ ((x rest : List ℕ) × Follows (follow b) x × (more ≡ x ++ rest))
first_char b more [] s e = absurd cc
first_char b more (c ∷ cs) s e = first_of c b (encodes cs) more (and_parts (scalar c) (scalars cs) s).0 e (nat_lt c 128) refl

begins_low : (b : ℕ) → nat_lt b 128 ≡ true → begins_character b ≡ true
begins_low b e = grind (arith, nat_tests)

begins_follow : (b : ℕ) (o : Option Follow) (x : List ℕ) → follow b ≡ o → Follows o x → begins_character b ≡ true
begins_follow b None x e h = absurd h
begins_follow b (Some f) x e h = begins_there (nat_lt b 128) (is_there (follow b)) (ap is_there e)
  where
    begins_there : (s t : Bool) → t ≡ true → (s || t) ≡ true
    begins_there true t e = refl
    begins_there false t e = e

-- behind whole characters, a byte that begins none
pub no_character : (before : List ℕ) (b : ℕ) → IsUtf8 before → begins_character b ≡ false → (more : List ℕ) → IsUtf8 (before ++ b ∷ more) → ⊥
no_character before b h e more u = by_case (first_char b more t.0 t.1.0 t.1.1)
  where
    t : IsUtf8 (b ∷ more)
    t = text_behind before (b ∷ more) h u

    by_case : (nat_lt b 128 ≡ true) ⊎ ((x rest : List ℕ) × Follows (follow b) x × (more ≡ x ++ rest)) → ⊥
    by_case (inl l) = both_ways (begins_character b) e (begins_low b l)
    by_case (inr r) = both_ways (begins_character b) e (begins_follow b (follow b) r.0 refl r.2)

next_between : (low high n b : ℕ) (more y rest : List ℕ) → IsFollow low high n y → b ∷ more ≡ y ++ rest → between low high b ≡ true
next_between low high n b more [] rest h e = absurd h
next_between low high zero b more (c ∷ y) rest h e = ap (between low high) (first_eq b c more (y ++ rest) e) ∙ h.0
next_between low high (suc n) b more (c ∷ y) rest h e = ap (between low high) (first_eq b c more (y ++ rest) e) ∙ h.0

-- in a character of several bytes, a byte that doesn't go on with it
pub no_follow : (before : List ℕ) (f : Follow) (b : ℕ) → InCharacter (Some f) before → between f.low f.high b ≡ false
    → (more : List ℕ) → IsUtf8 (before ++ b ∷ more) → ⊥
no_follow before f b h e more u = by_case (first_char h.1 (h.2 ++ b ∷ more) t.0 t.1.0 t.1.1)
  where
    t : IsUtf8 (h.1 ∷ (h.2 ++ b ∷ more))
    t = text_behind h.0 (h.1 ∷ (h.2 ++ b ∷ more)) h.3 (subst IsUtf8 (ap (λ x. x ++ b ∷ more) h.4 ∙ append_assoc h.0 (h.1 ∷ h.2) (b ∷ more)) u)

    by_case : (nat_lt h.1 128 ≡ true) ⊎ ((x rest : List ℕ) × Follows (follow h.1) x × (h.2 ++ b ∷ more ≡ x ++ rest)) → ⊥
    by_case (inl l) = both_ways (nat_lt h.1 128) h.5 l
    by_case (inr r) = let y = h.7 r.0 r.1 (b ∷ more) r.2 r.3 in both_ways (between f.low f.high b) e (next_between f.low f.high f.more b more y.0 r.1 y.1 y.2)

low_between : (low high : ℕ) → low ≤ high → between low high low ≡ true
low_between low high h = grind (arith, nat_tests)

some_follow : (n low high : ℕ) → low ≤ high → (x : List ℕ) × IsFollow low high n x
some_follow zero low high h = (low ∷ [], (low_between low high h, refl))
some_follow (suc n) low high h = let r = some_follow n 128 191 (omega arith) in (low ∷ r.0, (low_between low high h, r.1))

-- a byte that begins a character goes on a text
pub goes_on : (before : List ℕ) (b : ℕ) → IsUtf8 before → begins_character b ≡ true → (more : List ℕ) × IsUtf8 (before ++ b ∷ more)
goes_on before b h e = by_test (nat_lt b 128) (follow b) refl refl
  where
    begins_none : (s t : Bool) → (s || t) ≡ true → s ≡ false → t ≡ true
    begins_none true t e f = cc
    begins_none false t e f = e

    by_test : (t : Bool) (o : Option Follow) → nat_lt b 128 ≡ t → follow b ≡ o → (more : List ℕ) × IsUtf8 (before ++ b ∷ more)
    by_test true o l q = (
      [],
      IsUtf8-append before (b ∷ []) h
          (subst IsUtf8 (encode_ascii b (low_lt b l)) (IsUtf8-encode b (low_scalar b (omega (arith, low_lt b l))))),
    )
    by_test false None l q =
        let n : false ≡ true = sym (ap is_there q) ∙ begins_none (nat_lt b 128) (is_there (follow b)) e l in absurd cc
    by_test false (Some f) l q =
        let r = some_follow f.more f.low f.high (subst InOrder q (follow_order b)) in
        let F : Option Follow → Type 0 = λ o. Follows o r.0 in
        let c : IsChar (b ∷ r.0) = of_bytes b r.0 (subst F (sym q) r.1) in
        (r.0, IsUtf8-append before (b ∷ r.0) h (subst IsUtf8 c.2 (IsUtf8-encode c.0 c.1)))

-- what is well-formed
pub well_utf8 : (bytes : List ℕ) → Well bytes → IsUtf8 bytes
well_utf8 bytes h = characters_read bytes (inside []) (well_read bytes h)

pub front_utf8 : (bytes : List ℕ) → Front bytes → (more : List ℕ) × IsUtf8 (bytes ++ more)
front_utf8 bytes h = (h.0, well_utf8 (bytes ++ h.0) h.1)

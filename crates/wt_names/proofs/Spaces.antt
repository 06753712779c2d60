-- Runs of spaces: what is left to read after a space and after another character.
use Rattle.std.proofs.Common.{◌≡◌, ◌≢◌, ℕ, ◌<◌, Bool, true, false, cond, ◌&&◌, nat_eq, inl, inr, List, [], ◌∷◌, ◌++◌, length, All, refl, sym, ap, ◌∙◌, subst, arith, lit<, append_assoc}
use Rattle.std.specs.Char.{encode_utf8}
use Rattle.std.proofs.lemmas.Bool.{cond-false}
use Rattle.std.proofs.lemmas.Bool.Decides.{eqb_tells}
use Rattle.std.proofs.lemmas.Str.{encode_ascii}
use Rattle.std.proofs.lemmas.List.Elements.{All-head, All-tail}
use Rattle.wt_names.specs.Reading.{squeezed, trimmed_start, begins_with_space}
use Rattle.wt_names.proofs.Cuts.{differs, trimmed_start-other}
use Rattle.wt_names.proofs.Ascii.{encode_others, encode_some}

pub squeezed-space : (bs : List ℕ) → squeezed (32 ∷ bs) ≡ 32 ∷ squeezed (trimmed_start bs)
squeezed-space [] = refl
squeezed-space (b ∷ bs) = elim (eqb_tells b 32) [
  | inl is ↦ subst (λ (c : ℕ). squeezed (32 ∷ c ∷ bs) ≡ 32 ∷ squeezed (trimmed_start (c ∷ bs))) (sym is.1) (squeezed-space bs)
  | inr other ↦ cond-false (nat_eq b 32) (squeezed (b ∷ bs)) (32 ∷ squeezed (b ∷ bs)) other.0
      ∙ ap (λ t. 32 ∷ squeezed t) (sym (trimmed_start-other b bs other.1))
]

pub squeezed-other : (b : ℕ) (bs : List ℕ) → b ≢ 32 → squeezed (b ∷ bs) ≡ b ∷ squeezed bs
squeezed-other b bs other = ap (λ t. cond (t && begins_with_space bs) (squeezed bs) (b ∷ squeezed bs)) (differs b 32 other)

pub squeezed-others : (xs bs : List ℕ) → All (λ b. b ≢ 32) xs → squeezed (xs ++ bs) ≡ xs ++ squeezed bs
squeezed-others [] bs others = refl
squeezed-others (x ∷ xs) bs others = squeezed-other x (xs ++ bs) (All-head (λ b. b ≢ 32) x xs others)
    ∙ ap (λ t. x ∷ t) (squeezed-others xs bs (All-tail (λ b. b ≢ 32) x xs others))

-- what is left to read, where a space was read last or not
abbrev pub left_after : Bool → List ℕ → List ℕ
left_after is_space bs = cond is_space (trimmed_start bs) bs

left_others : (t : Bool) (xs bs : List ℕ) → All (λ b. b ≢ 32) xs → 0 < length xs → left_after t (xs ++ bs) ≡ xs ++ bs
left_others false xs bs others some = refl
left_others true [] bs others some = absurd (omega arith)
left_others true (x ∷ xs) bs others some = trimmed_start-other x (xs ++ bs) (All-head (λ b. b ≢ 32) x xs others)

-- a character that is no space was written
pub wrote_other : (t : Bool) (c : ℕ) (out new bs rest whole : List ℕ) → c ≢ 32 → bs ≡ encode_utf8 c ++ rest → new ≡ out ++ encode_utf8 c
    → out ++ squeezed (left_after t bs) ≡ whole → new ++ squeezed (left_after (nat_eq c 32) rest) ≡ whole
wrote_other t c out new bs rest whole other is made had =
    let others = encode_others c other in
    let now : squeezed (left_after t bs) ≡ encode_utf8 c ++ squeezed rest =
    ap (λ x. squeezed (left_after t x)) is ∙ ap squeezed (left_others t (encode_utf8 c) rest others (encode_some c))
    ∙ squeezed-others (encode_utf8 c) rest others in
    ap (λ x. new ++ squeezed (left_after x rest)) (differs c 32 other) ∙ ap (λ x. x ++ squeezed rest) made ∙ append_assoc out (encode_utf8 c) (squeezed rest)
    ∙ ap (λ x. out ++ x) (sym now) ∙ had

space_first : (c : ℕ) (bs rest : List ℕ) → c ≡ 32 → bs ≡ encode_utf8 c ++ rest → bs ≡ 32 ∷ rest
space_first c bs rest e is = is ∙ ap (λ x. x ++ rest) (ap encode_utf8 e ∙ encode_ascii 32 (lit< tt))

-- a space was written that doesn't follow another one
pub wrote_space : (t : Bool) (c : ℕ) (out new bs rest whole : List ℕ) → c ≡ 32 → t ≡ false → bs ≡ encode_utf8 c ++ rest → new ≡ out ++ encode_utf8 c
    → out ++ squeezed (left_after t bs) ≡ whole → new ++ squeezed (left_after (nat_eq c 32) rest) ≡ whole
wrote_space t c out new bs rest whole e first is made had =
    let now : squeezed (left_after t bs) ≡ 32 ∷ squeezed (trimmed_start rest) =
    ap (λ x. squeezed (left_after x bs)) first ∙ ap squeezed (space_first c bs rest e is) ∙ squeezed-space rest in
    ap (λ x. new ++ squeezed (left_after (nat_eq x 32) rest)) e ∙ ap (λ x. x ++ squeezed (trimmed_start rest))
    (made ∙ ap (λ x. out ++ x) (ap encode_utf8 e ∙ encode_ascii 32 (lit< tt)))
    ∙ append_assoc out (32 ∷ []) (squeezed (trimmed_start rest)) ∙ ap (λ x. out ++ x) (sym now) ∙ had

-- a space that follows another one was left out
pub left_out : (t : Bool) (c : ℕ) (out bs rest whole : List ℕ) → c ≡ 32 → t ≡ true → bs ≡ encode_utf8 c ++ rest
    → out ++ squeezed (left_after t bs) ≡ whole → out ++ squeezed (left_after (nat_eq c 32) rest) ≡ whole
left_out t c out bs rest whole e after is had =
    ap (λ x. out ++ squeezed (left_after (nat_eq x 32) rest)) e
    ∙ sym (ap (λ x. out ++ squeezed (left_after x bs)) after ∙ ap (λ x. out ++ squeezed (trimmed_start x))
    (space_first c bs rest e is)) ∙ had

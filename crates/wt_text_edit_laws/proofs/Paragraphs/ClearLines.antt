-- No tag is open behind whole lines, nor behind a comment or tag.
use Rattle.std.proofs.Common.{◌≡◌, ℕ, ◌+◌, ◌==◌, Bool, true, false, inl, inr, cond, subst, List, [], ◌∷◌, ◌++◌, refl, sym, ap, ◌∙◌, append_assoc}
use Rattle.std.specs.Prelude.{not, reverse}
use Rattle.std.specs.List.{prefix_len}
use Rattle.std.proofs.lemmas.Bool.{eqb-true}
use Rattle.std.proofs.lemmas.List.{reverse-append}
use Rattle.wt_isolation.specs.OpenTags.{is_stop, bare_len, ends_open}
use Rattle.wt_isolation.proofs.OpenTags.{none_bare_here}
use Rattle.wt_text_edit_laws.specs.TextBetween.{is_end, AreEnded}
use Rattle.wt_text_edit_laws.proofs.Between.LineWords.{either}

-- which it is
pub end_is : (P : ℕ → Type 0) → P 10 → P 62 → (b : ℕ) → is_end b ≡ true → P b
end_is P p q b e = elim (either (b == 10) (b == 62) e) [
  | inl f ↦ subst P (sym (eqb-true b 10 f)) p
  | inr f ↦ subst P (sym (eqb-true b 62 f)) q
]

byte_clear : (b : ℕ) (bs : List ℕ) → is_stop b ≡ true → ends_open (bs ++ b ∷ []) ≡ false
byte_clear b bs e =
    let n : ℕ = bare_len (bs ++ b ∷ []) in
    let first : n ≡ prefix_len (λ c. not (is_stop c)) (b ∷ reverse bs) = ap (prefix_len (λ c. not (is_stop c))) (reverse-append bs (b ∷ [])) in
    let z : n ≡ 0 = first ∙ ap (λ (t : Bool). cond (not t) (1 + prefix_len (λ c. not (is_stop c)) (reverse bs)) 0) e in
    sym (none_bare_here (bs ++ b ∷ []) n refl z)

pub clear_line : (front : List ℕ) (b : ℕ) (bs : List ℕ) → AreEnded (b ∷ bs) → ends_open (front ++ b ∷ bs) ≡ false
clear_line front b [] e = byte_clear b front (end_is (λ (c : ℕ). is_stop c ≡ true) refl refl b e)
clear_line front b (c ∷ bs) e = ap ends_open (sym (append_assoc front (b ∷ []) (c ∷ bs))) ∙ clear_line (front ++ b ∷ []) c bs e

-- at the page's start
pub clear_first : (bs : List ℕ) → AreEnded bs → ends_open bs ≡ false
clear_first [] e = refl
clear_first (b ∷ bs) e = clear_line [] b bs e

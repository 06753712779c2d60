-- A text that holds the beginning of a tag or of a link: as it is computed, and in other words.
use Rattle.std.proofs.Common.{◌≡◌, ◌↔◌, ℕ, Bool, true, false, List, [], ◌∷◌, ◌++◌, refl, ap, ◌∙◌}
use Rattle.std.specs.Prelude.{◌||◌}
use Rattle.wt_isolation.specs.OpenTexts.{begins_open, holds_open}
use Rattle.wt_isolation.specs.TangledLaws.{HoldsOpen}

or_right : (a b : Bool) → b ≡ true → (a || b) ≡ true
or_right true b e = refl
or_right false b e = e

later : (b : ℕ) (bs : List ℕ) → HoldsOpen bs → HoldsOpen (b ∷ bs)
later b bs (before, after, is, begins) = (b ∷ before, after, ap (λ (xs : List ℕ). b ∷ xs) is, begins)

found : (text : List ℕ) → holds_open text ≡ true → HoldsOpen text
found [] e = absurd (cc)
found (b ∷ bs) e = by (begins_open (b ∷ bs)) refl e (λ f. found bs f)
  where
    by : (t : Bool) → begins_open (b ∷ bs) ≡ t → (t || holds_open bs) ≡ true → (holds_open bs ≡ true → HoldsOpen bs) → HoldsOpen (b ∷ bs)
    by true is q h = ([], b ∷ bs, refl, is)
    by false is q h = later b bs (h q)

behind : (before after : List ℕ) → begins_open after ≡ true → holds_open (before ++ after) ≡ true
behind [] [] e = e
behind [] (b ∷ bs) e = ap (λ t. t || holds_open bs) e
behind (b ∷ bs) after e = or_right (begins_open (b ∷ bs ++ after)) (holds_open (bs ++ after)) (behind bs after e)

told : (text : List ℕ) → HoldsOpen text → holds_open text ≡ true
told text (before, after, is, begins) = ap holds_open is ∙ behind before after begins

pub held_open : (text : List ℕ) → (holds_open text ≡ true) ↔ HoldsOpen text
held_open text = (found text, told text)

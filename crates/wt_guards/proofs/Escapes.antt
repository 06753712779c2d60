-- The characters that are ever written as references: thirteen.
use Rattle.std.proofs.Common.{◌≡◌, ℕ, Bool, true, false, refl, sym, ◌∙◌, subst, inl, inr, ◌⊎◌, List}
use Rattle.std.specs.Prelude.{not, ◌||◌, ◌&&◌, ◌==◌, if◌then◌else◌}
use Rattle.std.proofs.lemmas.Bool.Decides.{Decides-eqb}
use Rattle.wt_tree.specs.declared.edit_shape.Place.{Place}
use Rattle.wt_guards.specs.Content.{ContentSign, nearest}
use Rattle.wt_guards.specs.Letters.{is_bracket, is_escaped, opens_tag, opens_entity, is_next, is_apostrophe_or_end, are_slashes, is_blank_to_end, is_term, is_header, is_indented, meets_mark}

abbrev pub is_escapable : ℕ → Bool
is_escapable c = is_bracket c || (c == 60 || (c == 38 || (c == 39 || (c == 95 || (c == 58 || (c == 61 || c == 33))))))

chain : (a b c d e f g h u v w x y z s : Bool) → (a || (b || (c || (d || (e || (f || (g || h))))))) ≡ false
    → (if a then true else if b then u else if c then v else if d then w else if e then x else if f then y else if g then z else if h then s else false) ≡ false
chain true b c d e f g h u v w x y z s i = i
chain false true c d e f g h u v w x y z s i = cc
chain false false true d e f g h u v w x y z s i = cc
chain false false false true e f g h u v w x y z s i = cc
chain false false false false true f g h u v w x y z s i = cc
chain false false false false false true g h u v w x y z s i = cc
chain false false false false false false true h u v w x y z s i = cc
chain false false false false false false false true u v w x y z s i = cc
chain false false false false false false false false u v w x y z s i = refl

pub others_stay : (within : Bool) (p : Place) (before : List ContentSign) (c : ℕ) (after : List ContentSign) → is_escapable c ≡ false
    → is_escaped within p before c after ≡ false
unfolding is_escaped
others_stay within p before c after e =
    chain (is_bracket c) (c == 60) (c == 38) (c == 39) (c == 95) (c == 58) (c == 61) (c == 33) (opens_tag (nearest after)) (opens_entity (nearest after))
    (is_apostrophe_or_end (nearest before) || is_apostrophe_or_end (nearest after)) (is_next 95 (nearest before)) (is_term p || are_slashes after)
    (is_blank_to_end after)
    ((is_header p && meets_mark within before after) || (not within && is_indented before)) e

by_contrast : (a e : Bool) → (a ≡ false → e ≡ false) → e ≡ true → a ≡ true
by_contrast true e h f = refl
by_contrast false e h f = let g : false ≡ true = sym (h refl) ∙ f in g

pub escapable : (within : Bool) (p : Place) (before : List ContentSign) (c : ℕ) (after : List ContentSign) → is_escaped within p before c after ≡ true → is_escapable c ≡ true
escapable within p before c after e =
    by_contrast (is_escapable c) (is_escaped within p before c after) (others_stay within p before c after) e

or_is : (a b : Bool) → (a || b) ≡ true → (a ≡ true) ⊎ (b ≡ true)
or_is true b e = inl refl
or_is false b e = inr e

one_of : (P : ℕ → Type 0) (k c : ℕ) (t : Bool) → P k → (t ≡ true → P c) → ((c == k) || t) ≡ true → P c
one_of P k c t p f e = elim (or_is (c == k) t e) [
  | inl h ↦ subst P (sym ((Decides-eqb c k).0 h)) p
  | inr h ↦ f h
]

last_of : (P : ℕ → Type 0) (k c : ℕ) → P k → (c == k) ≡ true → P c
last_of P k c p e = subst P (sym ((Decides-eqb c k).0 e)) p

-- what holds of each of the thirteen
pub each_escapable : (P : ℕ → Type 0) → P 91 → P 93 → P 123 → P 125 → P 124 → P 62 → P 60 → P 38 → P 39 → P 95 → P 58 → P 61 → P 33
    → (c : ℕ) → is_escapable c ≡ true → P c
each_escapable P p91 p93 p123 p125 p124 p62 p60 p38 p39 p95 p58 p61 p33 c e = elim (or_is (is_bracket c) _ e) [
  | inl h ↦
      one_of P 91 c _ p91 (one_of P 93 c _ p93 (one_of P 123 c _ p123 (one_of P 125 c _ p125 (one_of P 124 c _ p124 (last_of P 62 c p62))))) h
  | inr h ↦
      one_of P 60 c _ p60 (one_of P 38 c _ p38 (one_of P 39 c _ p39 (one_of P 95 c _ p95 (one_of P 58 c _ p58 (one_of P 61 c _ p61 (last_of P 33 c p33)))))) h
]

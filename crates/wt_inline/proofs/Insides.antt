-- The inside of `nowiki`: characters up to an entity, and the entity.
use Rattle.std.proofs.Common.{◌≡◌, ℕ, zero, suc, ◌+◌, ◌-◌, ◌<◌, ◌≤◌, false, Option, Some, None, List, [], ◌∷◌, ◌++◌, length, take, drop, map, get_or, refl, sym, ap, ◌∙◌, subst, arith}
use Rattle.std.specs.Prelude.{IsSome, IfSome}
use Rattle.std.specs.Str.{IsUtf8, IsCharBoundary}
use Rattle.std.proofs.lemmas.List.{get_or-drop}
use Rattle.wt_span.specs.Bytes.{begins}
use Rattle.wt_span.specs.declared.form.ItemForm.TheVariants as form
use Rattle.wt_span.specs.Entities.{entity_at}
use Rattle.wt_span.specs.Items.{Item, char, whole}
use Rattle.wt_lex.proofs.Forms.{Fits}
use Rattle.wt_lex.proofs.AllForms.{OptEntity, entity_fits, entity_none}
use Rattle.wt_lex.proofs.Borders.{border_after}
use Rattle.wt_inline.specs.Inside.{read_with, inside_items}

pub no_entity : (bs : List ℕ) → (get_or bs 0 0 ≡ 38 → ⊥) → entity_at bs ≡ None
no_entity bs h = entity_none bs h

fits : (bs : List ℕ) (c n : ℕ) → entity_at bs ≡ Some (c, n) → Fits bs n × (get_or bs 0 0 ≡ 38)
fits bs c n e = subst (OptEntity bs) e (entity_fits bs)

pub entity_some : (bs : List ℕ) (c n : ℕ) → entity_at bs ≡ Some (c, n) → 0 < n
entity_some bs c n e = (fits bs c n e).0.some

pub entity_within : (bs : List ℕ) (c n : ℕ) → entity_at bs ≡ Some (c, n) → n ≤ length bs
entity_within bs c n e = (fits bs c n e).0.within

pub entity_border : (bs : List ℕ) (c n : ℕ) → IsUtf8 bs → entity_at bs ≡ Some (c, n) → IsCharBoundary bs n
entity_border bs c n u e =
    let f = (fits bs c n e).0 in
    let z : 0 + n ≡ n = omega arith in subst (IsCharBoundary bs) z (border_after bs 0 n u (omega arith) f.some f.within f.ends)

sign_found : (bs : List ℕ) → begins (38 ∷ []) (38 ∷ bs) ≡ false → ⊥
sign_found [] e = cc
sign_found (b ∷ bs) e = cc

-- ---- items

-- bytes that lie in an entity are passed over
inside_skip : (o : Option ℕ) (n : ℕ) (bs : List ℕ) → inside_items o n bs ≡ inside_items o 0 (drop n bs)
inside_skip o zero [] = refl
inside_skip o zero (b ∷ bs) = refl
inside_skip o (suc n) [] = refl
inside_skip o (suc n) (b ∷ bs) = inside_skip o n bs

pub inside_entity : (o : Option ℕ) (c n : ℕ) (bs : List ℕ) → entity_at bs ≡ Some (c, n)
    → inside_items o 0 bs ≡ whole (form.Entity c) o (take n bs) ∷ inside_items o 0 (drop n bs)
inside_entity o c zero bs e = absurd (omega (arith, entity_some bs c zero e))
inside_entity o c (suc n) [] e = absurd (omega (arith, entity_within [] c (suc n) e))
inside_entity o c (suc n) (b ∷ bs) e =
    let back : suc n - 1 ≡ n = omega arith in
    ap (λ x. read_with o x b bs (λ m. inside_items o m bs)) e
    ∙ ap (λ m. whole (form.Entity c) o (b ∷ take m bs) ∷ inside_items o m bs) back
    ∙ ap (λ xs. whole (form.Entity c) o (b ∷ take n bs) ∷ xs) (inside_skip o n bs)

pub inside_chars : (o : Option ℕ) (n : ℕ) (bs : List ℕ) → n ≤ length bs → ((k : ℕ) → k < n → entity_at (drop k bs) ≡ None)
    → map (char o) (take n bs) ++ inside_items o 0 (drop n bs) ≡ inside_items o 0 bs
inside_chars o zero bs le h = refl
inside_chars o (suc n) [] le h = absurd (omega arith)
inside_chars o (suc n) (b ∷ bs) le h =
    let none : entity_at (b ∷ bs) ≡ None = h 0 (omega arith) in
    rw none (ap (λ xs. char o b ∷ xs) (inside_chars o n bs (omega arith) (λ k l. h (suc k) (omega arith))))

-- ---- facts of the functions that cut

pub no_entity_sign : (bs : List ℕ) → begins (38 ∷ []) bs ≡ false → entity_at bs ≡ None
no_entity_sign [] e = no_entity [] (λ h. absurd (omega arith))
no_entity_sign (b ∷ bs) e = no_entity (b ∷ bs)
    (λ h. let t : begins (38 ∷ []) (38 ∷ bs) ≡ false = subst (λ (k : ℕ). begins (38 ∷ []) (k ∷ bs) ≡ false) h e in sign_found bs t)

pub fits_by : (bs bytes : List ℕ) (o : Option (ℕ × ℕ)) → bytes ≡ bs → o ≡ entity_at bytes → IsUtf8 bs
    → IfSome o (λ e. (0 < e.1) × (e.1 ≤ length bs) × IsCharBoundary bs e.1)
fits_by bs bytes None i e u = tt
fits_by bs bytes (Some x) i e u =
    let is : entity_at bs ≡ Some x = sym (e ∙ ap entity_at i) in
    (entity_some bs x.0 x.1 is, entity_within bs x.0 x.1 is, entity_border bs x.0 x.1 u is)

first_by : (bs : List ℕ) (o : Option (ℕ × ℕ)) → OptEntity bs o → IsSome o → get_or bs 0 0 ≡ 38
first_by bs None f h = cc
first_by bs (Some e) f h = f.1

pub chars_border : (text bytes : List ℕ) (n : ℕ) → bytes ≡ text → n ≤ length bytes
    → (n < length bytes → IsSome (entity_at (drop n bytes))) → IsCharBoundary text n
chars_border text bytes n i le s =
    let z : n + 0 ≡ n = omega arith in
    subst (λ (bs : List ℕ). IsCharBoundary bs n) i (
      le,
      λ lt high.
          let is : get_or bytes n 0 ≡ 38 = sym (ap (λ k. get_or bytes k 0) z) ∙ sym (get_or-drop n bytes 0 0)
          ∙ first_by (drop n bytes) (entity_at (drop n bytes)) (entity_fits (drop n bytes)) (s lt) in
          absurd (omega arith),
    )

pub split_by : (o : Option ℕ) (bs text front back : List ℕ) (xs : List Item) (m n : ℕ) → text ≡ bs → m ≡ n → n ≤ length text
    → ((k : ℕ) → k < n → entity_at (drop k text) ≡ None)
    → xs ≡ map (char o) front → front ≡ take m bs → back ≡ drop m bs → xs ++ inside_items o 0 back ≡ inside_items o 0 bs
split_by o bs text front back xs m n i e le h ex ef eb =
    ap (λ ys. ys ++ inside_items o 0 back) (ex ∙ ap (map (char o)) (ef ∙ ap (λ k. take k bs) e))
    ∙ ap (λ ys. map (char o) (take n bs) ++ inside_items o 0 ys) (eb ∙ ap (λ k. drop k bs) e)
    ∙ inside_chars o n bs (subst (λ (t : List ℕ). n ≤ length t) i le) (λ k l. ap (λ t. entity_at (drop k t)) (sym i) ∙ h k l)

pub entity_by : (o : Option ℕ) (c n : ℕ) (bs text rest : List ℕ) (xs : List Item) → text ≡ bs → Some (c, n) ≡ entity_at text
    → xs ≡ whole (form.Entity c) o (take n bs) ∷ [] → rest ≡ drop n bs
    → xs ++ inside_items o 0 rest ≡ inside_items o 0 bs
entity_by o c n bs text rest xs i e ex er =
    ap (λ ys. ys ++ inside_items o 0 rest) ex
    ∙ ap (λ r. whole (form.Entity c) o (take n bs) ∷ inside_items o 0 r) er
    ∙ sym (inside_entity o c n bs (sym (e ∙ ap entity_at i)))

-- The innermost level of a stack is the last one of its list.
use Rattle.std.proofs.Common.{◌≡◌, ℕ, ◌+◌, Some, List, [], ◌∷◌, ◌++◌, length, get_or, take, set, refl, sym, ap, ◌∙◌, arith, append-nil, length-append}
use Rattle.std.specs.Prelude.{reverse}
use Rattle.std.proofs.Math.Seq.{set-append_seam}
use Rattle.std.proofs.lemmas.List.{length-take-le, take_all, take_more}
use Rattle.wt_braces.proofs.Ends.{reverse_push}
use Rattle.wt_span.specs.declared.form.Piece.{Piece}
use Rattle.wt_template_stack.specs.declared.level.Level.{Level}
use Rattle.wt_template_stack.specs.Stacks.{innermost_end, with_given}

-- a list by its last member
last_of : {A : Type 0} → (xs : List A) (n : ℕ) (d : A) → length xs ≡ n + 1 → xs ≡ take n xs ++ get_or xs n d ∷ []
last_of xs n d e = sym (take_all (n + 1) xs (omega (arith, e))) ∙ take_more xs n d (omega (arith, e))

last_set : {A : Type 0} → (xs : List A) (n : ℕ) (v : A) → length xs ≡ n + 1 → set xs n v ≡ take n xs ++ v ∷ []
last_set xs n v e =
    let len : length (take n xs) ≡ n = length-take-le n xs (omega (arith, e)) in
    ap (λ ys. set ys n v) (last_of xs n v e) ∙ ap (λ k. set (take n xs ++ get_or xs n v ∷ []) k v) (sym len)
    ∙ set-append_seam (take n xs) (get_or xs n v) [] v

-- ---- the text itself is the last of a stack

pub pushed : (xs : List Level) (l f : Level) → reverse (xs ++ l ∷ []) ++ f ∷ [] ≡ l ∷ (reverse xs ++ f ∷ [])
pushed xs l f = ap (λ ys. ys ++ f ∷ []) (reverse_push xs l)

-- the text alone
pub alone : (xs : List Level) (f : Level) → length xs ≡ 0 → reverse xs ++ f ∷ [] ≡ f ∷ []
alone [] f e = refl
alone (x ∷ xs) f e = absurd (omega (arith, e))

-- where one level alone stands, it is the text
pub only_text : (ys : List Level) (f l : Level) → ys ++ f ∷ [] ≡ l ∷ [] → f ≡ l
only_text [] f l e = cc
only_text (y ∷ ys) f l e = let n = ap length e in let m = length-append ys (f ∷ []) in absurd (omega (arith, n, m))

-- the innermost of later levels
of_later : (xs : List Level) (n : ℕ) (l : Level) → length xs ≡ n + 1 → l ≡ get_or xs n l → reverse xs ≡ l ∷ reverse (take n xs)
of_later xs n l e is = ap reverse (last_of xs n l e ∙ ap (λ x. take n xs ++ x ∷ []) (sym is)) ∙ reverse_push (take n xs) l

pub innermost_of : (xs : List Level) (n : ℕ) (l f : Level) → length xs ≡ n + 1 → l ≡ get_or xs n l → innermost_end (reverse xs ++ f ∷ []) ≡ Some l.end
innermost_of xs n l f e is = ap (λ ys. innermost_end (ys ++ f ∷ [])) (of_later xs n l e is)

pub given_in_place : (xs : List Level) (n : ℕ) (l m f : Level) (ps : List Piece) → length xs ≡ n + 1 → l ≡ get_or xs n l
    → m ≡ record { end = l.end; out = l.out ++ ps; task = l.task } → reverse (set xs n m) ++ f ∷ [] ≡ with_given ps (reverse xs ++ f ∷ [])
given_in_place xs n l m f ps e is m_is =
    ap (λ ys. reverse ys ++ f ∷ []) (last_set xs n m e) ∙ pushed (take n xs) m f
    ∙ ap (λ x. x ∷ (reverse (take n xs) ++ f ∷ [])) m_is ∙ sym (ap (λ ys. with_given ps (ys ++ f ∷ [])) (of_later xs n l e is))

pub given_to_text : (xs : List Level) (f m : Level) (ps : List Piece) → length xs ≡ 0
    → m ≡ record { end = f.end; out = f.out ++ ps; task = f.task } → reverse xs ++ m ∷ [] ≡ with_given ps (reverse xs ++ f ∷ [])
given_to_text xs f m ps e m_is = alone xs m e ∙ ap (λ x. x ∷ []) m_is ∙ sym (ap (with_given ps) (alone xs f e))

-- nothing more is given
pub nothing_given : (ls : List Level) → ls ≡ with_given [] ls
nothing_given [] = refl
nothing_given (l ∷ ls) = ap (λ (o : List Piece). let m : Level = record { end = l.end; out = o; task = l.task } in m ∷ ls) (sym (append-nil l.out))

-- Widths and counts of members that are listed from the nearest on.
use Rattle.std.proofs.Common.{◌≡◌, ℕ, ◌+◌, Bool, true, false, List, [], ◌∷◌, ◌++◌, length, reverse, refl, sym, ap, ◌∙◌, arith, append_assoc, append-nil}
use Rattle.std.specs.Prelude.{if◌then◌else◌}
use Rattle.std.proofs.lemmas.List.{reverse-append}
use Rattle.wt_span.specs.declared.form.LexKind.TheVariants.{Chars, CommentLine, Comment, Raw, Include, Hidden, Entity, Opens, Closes, LinkOpen, LinkClose, Pipe, Equals}
use Rattle.wt_span.specs.Braces.{Member, lexeme, call, members, width, width_of_all, call_count, call_count_of_all, PartSign, sign_of, signs, in_link}
use Rattle.wt_braces.specs.Views.{ClosedAt}
use Rattle.wt_braces.specs.PartRows.{Fit}
use Rattle.wt_braces.specs.Matched.{closed_of, closed_of_all, end_of}
use Rattle.wt_braces.proofs.PartSteps.{fit_from}
use Rattle.wt_braces.proofs.Orders.{closed_count_all}

rev_cons : (x : Member) (xs : List Member) → members (reverse (x ∷ xs)) ≡ members (reverse xs ++ x ∷ [])
rev_cons x xs = ap members (reverse-append (x ∷ []) xs)

width_push : (xs : List Member) (y : Member) → width_of_all (members (xs ++ y ∷ [])) ≡ width_of_all (members xs) + width y
width_push [] y = omega arith
width_push (x ∷ xs) y = omega (arith, width_push xs y)

pub end_is : (at : ℕ) (before : List Member) → end_of at before ≡ at + width_of_all (members (reverse before))
end_is at [] = omega arith
end_is at (x ∷ before) = omega (arith, end_is at before, ap width_of_all (rev_cons x before), width_push (reverse before) x)

pub end_append : (at : ℕ) (xs rest : List Member) → end_of at (xs ++ rest) ≡ end_of (end_of at rest) xs
end_append at [] rest = refl
end_append at (x ∷ xs) rest = ap (λ n. n + width x) (end_append at xs rest)

closed_push : (at n : ℕ) (xs : List Member) (y : Member) → closed_of_all at n (members (xs ++ y ∷ []))
    ≡ closed_of_all at n (members xs) ++ closed_of (at + width_of_all (members xs)) (n + call_count_of_all (members xs)) y
closed_push at n [] y =
    let e : at ≡ at + 0 = omega arith in
    let f : n ≡ n + 0 = omega arith in
    append-nil (closed_of at n y) ∙ ap (λ a. closed_of a n y) e ∙ ap (λ k. closed_of (at + 0) k y) f
closed_push at n (x ∷ xs) y =
    let e : at + width x + width_of_all (members xs) ≡ at + (width x + width_of_all (members xs)) = omega arith in
    let f : n + call_count x + call_count_of_all (members xs) ≡ n + (call_count x + call_count_of_all (members xs)) = omega arith in
    let front = closed_of at n x ++ closed_of_all (at + width x) (n + call_count x) (members xs) in
    ap (λ cs. closed_of at n x ++ cs) (closed_push (at + width x) (n + call_count x) xs y)
    ∙ sym (append_assoc (closed_of at n x) (closed_of_all (at + width x) (n + call_count x) (members xs))
    (closed_of (at + width x + width_of_all (members xs)) (n + call_count x + call_count_of_all (members xs)) y))
    ∙ ap (λ a. front ++ closed_of a (n + call_count x + call_count_of_all (members xs)) y) e
    ∙ ap (λ k. front ++ closed_of (at + (width x + width_of_all (members xs))) k y) f

-- the calls of members that are listed from the nearest on; `n` come before
abbrev pub closed_in : ℕ → ℕ → List Member → List ClosedAt
closed_in at n [] = []
closed_in at n (x ∷ before) = closed_in at n before ++ closed_of (end_of at before) (n + length (closed_in at n before)) x

pub closed_members : (at n : ℕ) (before : List Member) → closed_in at n before ≡ closed_of_all at n (members (reverse before))
closed_members at n [] = refl
closed_members at n (x ∷ before) =
    let inside = members (reverse before) in
    let count : length (closed_in at n before) ≡ call_count_of_all inside = ap length (closed_members at n before) ∙ closed_count_all at n inside in
    ap (λ cs. cs ++ closed_of (end_of at before) (n + length (closed_in at n before)) x) (closed_members at n before)
    ∙ ap (λ a. closed_of_all at n inside ++ closed_of a (n + length (closed_in at n before)) x) (end_is at before)
    ∙ ap (λ k. closed_of_all at n inside ++ closed_of (at + width_of_all inside) (n + k) x) count
    ∙ sym (closed_push at n (reverse before) x)
    ∙ ap (closed_of_all at n) (sym (rev_cons x before))

-- ---- signs follow one another

signed : (x : Member) (at to : ℕ) (ss : List PartSign) → Fit (at + width x) to ss → Fit at to (sign_of x at ++ ss)
signed (lexeme (Chars, n)) at to ss f = fit_from at (at + n) to ss (omega arith) f
signed (lexeme (CommentLine, n)) at to ss f = fit_from at (at + n) to ss (omega arith) f
signed (lexeme (Comment, n)) at to ss f = fit_from at (at + n) to ss (omega arith) f
signed (lexeme (Raw, n)) at to ss f = fit_from at (at + n) to ss (omega arith) f
signed (lexeme (Include, n)) at to ss f = fit_from at (at + n) to ss (omega arith) f
signed (lexeme (Hidden, n)) at to ss f = fit_from at (at + n) to ss (omega arith) f
signed (lexeme (Entity c, n)) at to ss f = fit_from at (at + n) to ss (omega arith) f
signed (lexeme (Opens, n)) at to ss f = fit_from at (at + n) to ss (omega arith) f
signed (lexeme (Closes, n)) at to ss f = fit_from at (at + n) to ss (omega arith) f
signed (lexeme (LinkOpen, n)) at to ss f = fit_from at (at + n) to ss (omega arith) f
signed (lexeme (LinkClose, n)) at to ss f = fit_from at (at + n) to ss (omega arith) f
signed (lexeme (Pipe, n)) at to ss f = (omega arith, f)
signed (lexeme (Equals, n)) at to ss f = (omega arith, f)
signed (call k ms) at to ss f = fit_from at (at + width (call k ms)) to ss (omega arith) f

if_signed : (t : Bool) (x : Member) (at to : ℕ) (ss : List PartSign) → Fit (at + width x) to ss → Fit at to ((if t then [] else sign_of x at) ++ ss)
if_signed true x at to ss f = fit_from at (at + width x) to ss (omega arith) f
if_signed false x at to ss f = signed x at to ss f

pub signs_fit : (at to : ℕ) (before xs : List Member) → at + width_of_all (members xs) ≡ to → Fit at to (signs at before xs)
signs_fit at to before [] e = omega (arith, e)
signs_fit at to before (x ∷ xs) e = if_signed (in_link before xs) x at to (signs (at + width x) (x ∷ before) xs)
    (signs_fit (at + width x) to (x ∷ before) xs (omega (arith, e)))

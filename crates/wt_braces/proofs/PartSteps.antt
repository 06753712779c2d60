-- Parts that are read from the left: one more sign.
use Rattle.std.proofs.Common.{◌≡◌, ℕ, ◌+◌, ◌<◌, ◌≤◌, Bool, true, false, Option, Some, None, List, [], ◌∷◌, ◌++◌, length, drop, map, get_or, nat_lt, refl, sym, ap, ◌∙◌, subst, arith, append_assoc, length-append}
use Rattle.std.proofs.lemmas.Bool.Decides.{nat_tests}
use Rattle.std.proofs.lemmas.List.{drop_more}
use Rattle.wt_span.specs.Braces.{PartAt, PartSign, pipe, equals, with_name, parts_between}
use Rattle.wt_braces.specs.declared.parts.PartSign.{PartSign as Mark}
use Rattle.wt_braces.specs.Views.{sign_at}
use Rattle.wt_braces.specs.PartRows.{Fit, Row, with_part, name_with, place_of, with_sign, named, Reads}

pub fit_from : (a b to : ℕ) (ss : List PartSign) → a ≤ b → Fit b to ss → Fit a to ss
fit_from a b to [] le f = omega arith
fit_from a b to (pipe at n ∷ ss) le f = (omega (arith, f.0), f.1)
fit_from a b to (equals at n ∷ ss) le f = (omega (arith, f.0), f.1)

pub fit_le : (from to : ℕ) (ss : List PartSign) → Fit from to ss → from ≤ to
fit_le from to [] f = f
fit_le from to (pipe at n ∷ ss) f = omega (arith, f.0, fit_le (at + n) to ss f.1)
fit_le from to (equals at n ∷ ss) f = omega (arith, f.0, fit_le (at + n) to ss f.1)

-- the first of the parts that follow a `|`, and the others
named_part : (e : Option ℕ) (from to : ℕ) (ps : List PartAt) → named e (record { from = from; to = to; equals_at = None } ∷ ps)
    ≡ record { from = from; to = to; equals_at = e } ∷ ps
named_part None from to ps = refl
named_part (Some at) from to ps = refl

pipe_more : (done all : List PartAt) (later : Bool) (e : Option ℕ) (start at n to : ℕ) (ss : List PartSign)
    → done ++ named e (parts_between later start to (pipe at n ∷ ss)) ≡ all
    → (done ++ record { from = start; to = at; equals_at = e } ∷ []) ++ parts_between true (at + n) to ss ≡ all
pipe_more done all later e start at n to ss h =
    let rest = parts_between true (at + n) to ss in
    append_assoc done (record { from = start; to = at; equals_at = e } ∷ []) rest ∙ ap (λ ps. done ++ ps) (sym (named_part e start at rest)) ∙ h

twice : (e at : ℕ) (ps : List PartAt) → with_name true e (with_name true at ps) ≡ with_name true e ps
twice e at [] = refl
twice e at (p ∷ ps) = refl

unnamed : (at : ℕ) (ps : List PartAt) → with_name false at ps ≡ ps
unnamed at [] = refl
unnamed at (p ∷ ps) = refl

equals_more : (done all : List PartAt) (later : Bool) (e : Option ℕ) (start at n to : ℕ) (ss : List PartSign)
    → done ++ named e (parts_between later start to (equals at n ∷ ss)) ≡ all
    → done ++ named (name_with later e at) (parts_between later start to ss) ≡ all
equals_more done all true None start at n to ss h = h
equals_more done all true (Some e) start at n to ss h = ap (λ ps. done ++ ps) (sym (twice e at (parts_between true start to ss))) ∙ h
equals_more done all false e start at n to ss h = ap (λ ps. done ++ named e ps) (sym (unnamed at (parts_between false start to ss))) ∙ h

pub reads_more : (r : Row) (to : ℕ) (all : List PartAt) (s : PartSign) (ss : List PartSign) → Reads r to all (s ∷ ss) → Reads (with_sign s r) to all ss
reads_more r to all (pipe at n) ss h =
    let some : nat_lt 0 (length (with_part at r)) ≡ true = grind (arith, nat_tests, length-append) in
    record {
      fit = h.fit.1;
      parts = ap (λ t. with_part at r ++ parts_between t (at + n) to ss) some ∙ pipe_more r.parts all
          (nat_lt 0 (length r.parts)) r.name r.start at n to ss h.parts;
    }
reads_more r to all (equals at n) ss h = record {
  fit = fit_from r.start (at + n) to ss (omega (arith, h.fit.0)) h.fit.1;
  parts = equals_more r.parts all (nat_lt 0 (length r.parts)) r.name r.start at n to ss h.parts;
}

pub reads_place : (r : Row) (to : ℕ) (all : List PartAt) (s : PartSign) (ss : List PartSign) → Reads r to all (s ∷ ss) → r.start ≤ place_of s
reads_place r to all (pipe at n) ss h = h.fit.0
reads_place r to all (equals at n) ss h = h.fit.0

pub reads_all : (r : Row) (to : ℕ) (all : List PartAt) → Reads r to all [] → with_part to r ≡ all
reads_all r to all h = ap (λ ps. r.parts ++ ps) (sym (named_part r.name r.start to [])) ∙ h.parts

next : (xs : List Mark) (i : ℕ) (x : Mark) → i < length xs → x ≡ get_or xs i x → map sign_at (drop i xs) ≡ sign_at x ∷ map sign_at (drop (i + 1) xs)
next xs i x lt is = ap (map sign_at) (drop_more xs i x lt) ∙ ap (λ y. sign_at y ∷ map sign_at (drop (i + 1) xs)) (sym is)

pub place_next : (xs : List Mark) (i : ℕ) (x : Mark) (r : Row) (to : ℕ) (all : List PartAt) → i < length xs → x ≡ get_or xs i x
    → Reads r to all (map sign_at (drop i xs)) → r.start ≤ place_of (sign_at x)
place_next xs i x r to all lt is h = let P : List PartSign → Type 0 = Reads r to all in
    reads_place r to all (sign_at x) (map sign_at (drop (i + 1) xs)) (subst P (next xs i x lt is) h)

pub reads_next : (xs : List Mark) (i : ℕ) (x : Mark) (r s : Row) (to : ℕ) (all : List PartAt) → i < length xs → x ≡ get_or xs i x
    → Reads r to all (map sign_at (drop i xs)) → s ≡ with_sign (sign_at x) r
    → Reads s to all (map sign_at (drop (i + 1) xs))
reads_next xs i x r s to all lt is h e =
    let P : List PartSign → Type 0 = Reads r to all in
    let Q : Row → Type 0 = λ t. Reads t to all (map sign_at (drop (i + 1) xs)) in
    subst Q (sym e) (reads_more r to all (sign_at x) (map sign_at (drop (i + 1) xs)) (subst P (next xs i x lt is) h))

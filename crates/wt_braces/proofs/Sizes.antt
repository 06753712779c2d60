-- The calls that a reduction makes have two braces or more at each end, so that they are few.
use Rattle.std.proofs.Common.{ℕ, zero, suc, ◌+◌, ◌-◌, ◌*◌, ◌≤◌, ◌^◌, Bool, true, false, List, [], ◌∷◌, ◌++◌, reverse, sym, ap, ◌∙◌, subst, inl, inr, arith}
use Rattle.std.specs.Prelude.{◌⊎◌, ◌==◌, if◌then◌else◌}
use Rattle.std.proofs.lemmas.List.{reverse-append}
use Rattle.wt_span.specs.declared.form.LexKind.{LexKind}
use Rattle.wt_span.specs.declared.form.LexKind.TheVariants.{Chars, CommentLine, Comment, Raw, Include, Hidden, Entity, Opens, Closes, LinkOpen, LinkClose, Pipe, Equals}
use Rattle.wt_span.specs.Lexemes.{Word}
use Rattle.wt_span.specs.Braces.{Member, Members, lexeme, call, none, more, members, width, width_of_all, call_count, call_count_of_all, rewritten, again, taken, left_over, with_word, reduced_onto}
use Rattle.wt_braces.specs.Views.{ClosedAt}
use Rattle.wt_braces.specs.Nested.{AreFew}
use Rattle.wt_braces.specs.Matched.{closed_of, closed_of_all}
use Rattle.wt_braces.proofs.Shapes.{NoRun, Behind, nearest}
use Rattle.wt_braces.proofs.Takings.{taking, rewritten_at, stuck_free, stuck_few}

-- calls have two braces or more at each end
abbrev mutual
  pub IsWide : Member → Type 0
  IsWide (lexeme w) = Unit {0}
  IsWide (call k ms) = (2 ≤ k) × AreWide ms

  pub AreWide : Members → Type 0
  AreWide none = Unit {0}
  AreWide (more m ms) = IsWide m × AreWide ms

abbrev pub AllWide : List Member → Type 0
AllWide [] = Unit {0}
AllWide (x ∷ xs) = IsWide x × AllWide xs

wide_append : (xs ys : List Member) → AllWide xs → AllWide ys → AllWide (xs ++ ys)
wide_append [] ys f g = g
wide_append (x ∷ xs) ys f g = (f.0, wide_append xs ys f.1 g)

wide_left : (xs ys : List Member) → AllWide (xs ++ ys) → AllWide xs
wide_left [] ys f = tt
wide_left (x ∷ xs) ys f = (f.0, wide_left xs ys f.1)

wide_right : (xs ys : List Member) → AllWide (xs ++ ys) → AllWide ys
wide_right [] ys f = f
wide_right (x ∷ xs) ys f = wide_right xs ys f.1

wide_reverse : (xs : List Member) → AllWide xs → AllWide (reverse xs)
wide_reverse [] f = tt
wide_reverse (x ∷ xs) f = subst AllWide (sym (reverse-append (x ∷ []) xs)) (wide_append (reverse xs) (x ∷ []) (wide_reverse xs f.1) (f.0, tt))

wide_members : (xs : List Member) → AllWide xs → AreWide (members xs)
wide_members [] f = tt
wide_members (x ∷ xs) f = (f.0, wide_members xs f.1)

wide_over : (kind : LexKind) (n : ℕ) → AllWide (left_over kind n)
wide_over kind n = by_test (n == 0)
  where
    by_test : (t : Bool) → AllWide (if t then [] else lexeme (kind, n) ∷ [])
    by_test true = tt
    by_test false = (tt, tt)

wide_rewritten : (c : ℕ) (before : List Member) → AllWide before → AllWide (rewritten (c, before)).1
wide_rewritten zero before f = subst AllWide (sym (ap (λ x. x.1) (stuck_few 0 before (omega arith)))) f
wide_rewritten (suc zero) before f = subst AllWide (sym (ap (λ x. x.1) (stuck_few 1 before (omega arith)))) f
wide_rewritten (suc (suc c)) before f = by_nearest (nearest before)
  where
    by_nearest : NoRun before ⊎ Behind before → AllWide (rewritten (suc (suc c), before)).1
    by_nearest (inl free) = subst AllWide (sym (ap (λ x. x.1) (stuck_free (suc (suc c)) before free))) f
    by_nearest (inr b) =
        let n = suc (suc c) in
        let k = taken b.braces n in
        let run = lexeme (Opens, b.braces) in
        let whole = subst AllWide b.is f in
        let inside = wide_left b.inside (run ∷ b.rest) whole in
        let rest = wide_right b.inside (run ∷ b.rest) whole in
        let is = ap (λ bs. (rewritten (n, bs)).1) b.is ∙ ap (λ x. x.1) (rewritten_at n b.braces b.inside b.rest b.free b.two (omega arith)) in
        subst AllWide (sym is) (
          ((taking b.braces n b.two (omega arith)).two, wide_members (reverse b.inside) (wide_reverse b.inside inside)),
          wide_append (left_over Opens (b.braces - k)) b.rest (wide_over Opens (b.braces - k)) rest.1,
        )

wide_again : (f : ℕ) (x : ℕ × List Member) → AllWide x.1 → AllWide (again f rewritten x).1
wide_again zero x h = h
wide_again (suc f) x h = wide_again f (rewritten x) (wide_rewritten x.0 x.1 h)

wide_word : (w : Word) (before : List Member) → AllWide before → AllWide (with_word w before)
wide_word (Chars, n) before f = (tt, f)
wide_word (CommentLine, n) before f = (tt, f)
wide_word (Comment, n) before f = (tt, f)
wide_word (Raw, n) before f = (tt, f)
wide_word (Include, n) before f = (tt, f)
wide_word (Hidden, n) before f = (tt, f)
wide_word (Entity c, n) before f = (tt, f)
wide_word (Opens, n) before f = (tt, f)
wide_word (Closes, n) before f =
    let s = again n rewritten (n, before) in wide_append (left_over Closes s.0) s.1 (wide_over Closes s.0) (wide_again n (n, before) f)
wide_word (LinkOpen, n) before f = (tt, f)
wide_word (LinkClose, n) before f = (tt, f)
wide_word (Pipe, n) before f = (tt, f)
wide_word (Equals, n) before f = (tt, f)

pub wide_reduced : (before : List Member) (ws : List Word) → AllWide before → AllWide (reduced_onto before ws)
wide_reduced before [] f = f
wide_reduced before (w ∷ ws) f = wide_reduced (with_word w before) ws (wide_word w before f)

pub wide_text : (before : List Member) → AllWide before → AreWide (members (reverse before))
wide_text before f = wide_members (reverse before) (wide_reverse before f)

-- ---- they are few

mutual
  light_one : (m : Member) → IsWide m → 4 * call_count m ≤ width m
  light_one (lexeme w) f = omega arith
  light_one (call k ms) f = omega (arith, f.0, light_all ms f.1)

  pub light_all : (ms : Members) → AreWide ms → 4 * call_count_of_all ms ≤ width_of_all ms
  light_all none f = omega arith
  light_all (more m ms) f = omega (arith, light_one m f.0, light_all ms f.1)

few_append : (xs ys : List ClosedAt) → AreFew xs → AreFew ys → AreFew (xs ++ ys)
few_append [] ys f g = g
few_append (x ∷ xs) ys f g = (f.0, few_append xs ys f.1 g)

mutual
  few_one : (at n : ℕ) (m : Member) → n + call_count m ≤ 2 ^ 30 → AreFew (closed_of at n m)
  few_one at n (lexeme w) le = tt
  few_one at n (call k ms) le = few_append (closed_of_all (at + k) n ms) (_ ∷ []) (few_all (at + k) n ms (omega (arith, le))) (omega (arith, le), tt)

  few_all : (at n : ℕ) (ms : Members) → n + call_count_of_all ms ≤ 2 ^ 30 → AreFew (closed_of_all at n ms)
  few_all at n none le = tt
  few_all at n (more m ms) le = few_append (closed_of at n m) (closed_of_all (at + width m) (n + call_count m) ms)
      (few_one at n m (omega (arith, le))) (few_all (at + width m) (n + call_count m) ms (omega (arith, le)))

few_reverse : (xs : List ClosedAt) → AreFew xs → AreFew (reverse xs)
few_reverse [] f = tt
few_reverse (x ∷ xs) f = subst AreFew (sym (reverse-append (x ∷ []) xs)) (few_append (reverse xs) (x ∷ []) (few_reverse xs f.1) (f.0, tt))

pub few_closed : (at : ℕ) (ms : Members) → call_count_of_all ms ≤ 2 ^ 30 → AreFew (reverse (closed_of_all at 0 ms))
few_closed at ms le = few_reverse (closed_of_all at 0 ms) (few_all at 0 ms (omega (arith, le)))

-- Laws of the reduced text: its width, and how deep calls lie in it.
use Rattle.std.proofs.Common.{◌≡◌, ℕ, zero, suc, ◌+◌, Bool, true, false, None, List, [], ◌∷◌, ◌++◌, map, reverse, refl, sym, ap, ◌∙◌, inl, inr, arith}
use Rattle.std.specs.Prelude.{◌⊎◌, ◌==◌, if◌then◌else◌}
use Rattle.std.proofs.lemmas.Bool.Decides.{nat_tests}
use Rattle.wt_span.specs.declared.form.LexKind.TheVariants.{Chars, CommentLine, Comment, Raw, Include, Hidden, Entity, Opens, Closes, LinkOpen, LinkClose, Pipe, Equals}
use Rattle.wt_span.specs.Lexemes.{Word}
use Rattle.wt_span.specs.Braces.{Member, lexeme, members, width_of_all, rewritten, again, taken, left_over, with_word, reduced_onto, reduced, calls, calls_of_all, nesting}
use Rattle.wt_braces.specs.Matched.{end_of}
use Rattle.wt_braces.specs.Depth.{depths_of_all}
use Rattle.wt_braces.specs.Words.{total_width}
use Rattle.wt_braces.proofs.Shapes.{NoRun, Behind, nearest}
use Rattle.wt_braces.proofs.Takings.{taking, rewritten_at, stuck_free, stuck_few, call_end}
use Rattle.wt_braces.proofs.Widths.{end_is}
use Rattle.wt_braces.proofs.Sizes.{wide_reduced, wide_text}
use Rattle.wt_braces.proofs.Depths.{nesting_depth}

-- the width of members, and of what is left of a closing run
abbrev pub sum_of : ℕ × List Member → ℕ
sum_of (c, before) = end_of 0 before + c

sum_rewritten : (c : ℕ) (before : List Member) → sum_of (rewritten (c, before)) ≡ sum_of (c, before)
sum_rewritten zero before = ap sum_of (stuck_few 0 before (omega arith))
sum_rewritten (suc zero) before = ap sum_of (stuck_few 1 before (omega arith))
sum_rewritten (suc (suc c)) before = by_nearest (nearest before)
  where
    by_nearest : NoRun before ⊎ Behind before → sum_of (rewritten (suc (suc c), before)) ≡ sum_of (suc (suc c), before)
    by_nearest (inl free) = ap sum_of (stuck_free (suc (suc c)) before free)
    by_nearest (inr b) =
        let n = suc (suc c) in
        let s = taking b.braces n b.two (omega arith) in
        let e = call_end 0 b.braces (taken b.braces n) b.inside b.rest s.opening in
        ap (λ bs. sum_of (rewritten (n, bs))) b.is ∙ ap sum_of
        (rewritten_at n b.braces b.inside b.rest b.free b.two (omega arith)) ∙ omega (arith, e, s.closing)
        ∙ sym (ap (λ bs. end_of 0 bs + n) b.is)

pub sum_again : (f : ℕ) (x : ℕ × List Member) → sum_of (again f rewritten x) ≡ sum_of x
sum_again zero x = refl
sum_again (suc f) x = sum_again f (rewritten x) ∙ sum_rewritten x.0 x.1

left_width : (n : ℕ) (before : List Member) → end_of 0 (left_over Closes n ++ before) ≡ end_of 0 before + n
left_width n before = by_test (n == 0) refl
  where
    by_test : (t : Bool) → (n == 0) ≡ t → end_of 0 ((if t then [] else lexeme (Closes, n) ∷ []) ++ before) ≡ end_of 0 before + n
    by_test true e = let z : n ≡ 0 = grind (arith, nat_tests) in omega (arith, z)
    by_test false e = refl

pub word_width : (w : Word) (before : List Member) → end_of 0 (with_word w before) ≡ end_of 0 before + w.1
word_width (Chars, n) before = refl
word_width (CommentLine, n) before = refl
word_width (Comment, n) before = refl
word_width (Raw, n) before = refl
word_width (Include, n) before = refl
word_width (Hidden, n) before = refl
word_width (Entity c, n) before = refl
word_width (Opens, n) before = refl
word_width (Closes, n) before = let s = again n rewritten (n, before) in left_width s.0 s.1 ∙ sum_again n (n, before)
word_width (LinkOpen, n) before = refl
word_width (LinkClose, n) before = refl
word_width (Pipe, n) before = refl
word_width (Equals, n) before = refl

onto_width : (before : List Member) (ws : List Word) → end_of 0 (reduced_onto before ws) ≡ end_of 0 before + total_width ws
onto_width before [] = omega arith
onto_width before (w ∷ ws) = onto_width (with_word w before) ws ∙ omega (arith, word_width w before)

reduced_is : (ws : List Word) → reduced ws ≡ reverse (reduced_onto [] ws)
unfolding reduced
reduced_is ws = refl

pub text_width : (ws : List Word) → width_of_all (members (reduced ws)) ≡ total_width ws
text_width ws = ap (λ xs. width_of_all (members xs)) (reduced_is ws) ∙ omega (arith, end_is 0 (reduced_onto [] ws), onto_width [] ws)

calls_is : (at : ℕ) (ws : List Word) → calls at ws ≡ calls_of_all at None 0 (members (reverse (reduced_onto [] ws)))
unfolding calls reduced
calls_is at ws = refl

pub depth_is : (at : ℕ) (ws : List Word) → map (nesting (calls at ws)) (calls at ws) ≡ depths_of_all 0 (members (reduced ws))
depth_is at ws =
    ap (λ cs. map (nesting cs) cs) (calls_is at ws) ∙ nesting_depth at (members (reverse (reduced_onto [] ws)))
    (wide_text (reduced_onto [] ws) (wide_reduced [] ws tt)) ∙ ap (λ xs. depths_of_all 0 (members xs)) (sym (reduced_is ws))

-- The members of a text belong to its lexemes, byte by byte.
use Rattle.std.proofs.Common.{◌≡◌, ℕ, zero, suc, ◌-◌, ◌≤◌, ◌⊎◌, inl, inr, Bool, true, false, List, [], ◌∷◌, ◌++◌, refl, sym, ap, ◌∙◌, arith, append-nil, append_assoc}
use Rattle.std.specs.Prelude.{replicate, reverse, ◌==◌, if◌then◌else◌}
use Rattle.std.proofs.lemmas.Bool.Decides.{nat_tests}
use Rattle.std.proofs.lemmas.List.{reverse-append, replicate-append-replicate}
use Rattle.wt_span.specs.declared.form.LexKind.TheVariants.{Chars, CommentLine, Comment, Raw, Include, Hidden, Entity, Opens, Closes, LinkOpen, LinkClose, Pipe, Equals}
use Rattle.wt_span.specs.Lexemes.{Word}
use Rattle.wt_span.specs.Braces.{Member, lexeme, call, members, rewritten, again, taken, left_over, with_word, reduced_onto, reduced}
use Rattle.wt_braces.proofs.Shapes.{NoRun, Behind, nearest}
use Rattle.wt_braces.proofs.Takings.{taking, rewritten_at, stuck_free, stuck_few}
use Rattle.wt_transclusion.specs.Marks.{Mark, opens, closes, word_marks, words_marks, member_marks, marks_of_all}

-- members that are listed from the nearest on
abbrev before_marks : List Member → List Mark
before_marks [] = []
before_marks (m ∷ before) = before_marks before ++ member_marks m

pub marks_append : (xs ys : List Member) → marks_of_all (members (xs ++ ys)) ≡ marks_of_all (members xs) ++ marks_of_all (members ys)
marks_append [] ys = refl
marks_append (x ∷ xs) ys = ap (λ zs. member_marks x ++ zs) (marks_append xs ys)
    ∙ sym (append_assoc (member_marks x) (marks_of_all (members xs)) (marks_of_all (members ys)))

before_is : (before : List Member) → before_marks before ≡ marks_of_all (members (reverse before))
before_is [] = refl
before_is (x ∷ before) =
    ap (λ zs. zs ++ member_marks x) (before_is before) ∙ ap (λ zs. marks_of_all (members (reverse before)) ++ zs) (sym (append-nil (member_marks x)))
    ∙ sym (marks_append (reverse before) (x ∷ [])) ∙ ap (λ xs. marks_of_all (members xs)) (sym (reverse-append (x ∷ []) before))

before_append : (xs ys : List Member) → before_marks (xs ++ ys) ≡ before_marks ys ++ before_marks xs
before_append [] ys = sym (append-nil (before_marks ys))
before_append (x ∷ xs) ys = ap (λ zs. zs ++ member_marks x) (before_append xs ys) ∙ append_assoc (before_marks ys) (before_marks xs) (member_marks x)

left_opens : (n : ℕ) (before : List Member) → before_marks (left_over Opens n ++ before) ≡ before_marks before ++ replicate n opens
left_opens n before = by_test (n == 0) refl
  where
    by_test : (t : Bool) → (n == 0) ≡ t → before_marks ((if t then [] else lexeme (Opens, n) ∷ []) ++ before) ≡ before_marks before ++ replicate n opens
    by_test true e = let z : n ≡ 0 = grind (arith, nat_tests) in sym (ap (λ k. before_marks before ++ replicate k opens) z ∙ append-nil (before_marks before))
    by_test false e = refl

left_closes : (n : ℕ) (before : List Member) → before_marks (left_over Closes n ++ before) ≡ before_marks before ++ replicate n closes
left_closes n before = by_test (n == 0) refl
  where
    by_test : (t : Bool) → (n == 0) ≡ t → before_marks ((if t then [] else lexeme (Closes, n) ∷ []) ++ before) ≡ before_marks before ++ replicate n closes
    by_test true e = let z : n ≡ 0 = grind (arith, nat_tests) in sym (ap (λ k. before_marks before ++ replicate k closes) z ∙ append-nil (before_marks before))
    by_test false e = refl

-- the members so far, and what is left of a closing run
abbrev marks_so_far : ℕ × List Member → List Mark
marks_so_far (c, before) = before_marks before ++ replicate c closes

joined_runs : (m : Mark) (n k : ℕ) → k ≤ n → replicate (n - k) m ++ replicate k m ≡ replicate n m
joined_runs m n k l = replicate-append-replicate (n - k) k m ∙ ap (λ j. replicate j m) (omega (arith, l))

joined_front : (m : Mark) (n k : ℕ) → k ≤ n → replicate k m ++ replicate (n - k) m ≡ replicate n m
joined_front m n k l = replicate-append-replicate k (n - k) m ∙ ap (λ j. replicate j m) (omega (arith, l))

regrouped : (rest left k inside ends more : List Mark)
    → ((rest ++ left) ++ (k ++ (inside ++ ends))) ++ more ≡ (rest ++ ((left ++ k) ++ inside)) ++ (ends ++ more)
regrouped rest left k inside ends more = simp append_assoc

marks_made : (c n k : ℕ) (inside rest : List Member) → k ≤ n → k ≤ c
    → marks_so_far (c - k, call k (members (reverse inside)) ∷ (left_over Opens (n - k) ++ rest)) ≡ marks_so_far (c, inside ++ lexeme (Opens, n) ∷ rest)
marks_made c n k inside rest o l =
    let m = marks_of_all (members (reverse inside)) in
    ap (λ zs. (zs ++ (replicate k opens ++ (m ++ replicate k closes))) ++ replicate (c - k) closes) (left_opens (n - k) rest)
    ∙ regrouped (before_marks rest) (replicate (n - k) opens) (replicate k opens) m (replicate k closes) (replicate (c - k) closes)
    ∙ ap (λ zs. (before_marks rest ++ (zs ++ m)) ++ (replicate k closes ++ replicate (c - k) closes)) (joined_runs opens n k o)
    ∙ ap (λ zs. (before_marks rest ++ (replicate n opens ++ m)) ++ zs) (joined_front closes c k l)
    ∙ ap (λ zs. zs ++ replicate c closes) (sym (append_assoc (before_marks rest) (replicate n opens) m)
    ∙ ap (λ zs. (before_marks rest ++ replicate n opens) ++ zs) (sym (before_is inside))
    ∙ sym (before_append inside (lexeme (Opens, n) ∷ rest)))

marks_rewritten : (c : ℕ) (before : List Member) → marks_so_far (rewritten (c, before)) ≡ marks_so_far (c, before)
marks_rewritten zero before = ap marks_so_far (stuck_few 0 before (omega arith))
marks_rewritten (suc zero) before = ap marks_so_far (stuck_few 1 before (omega arith))
marks_rewritten (suc (suc c)) before = by_nearest (nearest before)
  where
    by_nearest : NoRun before ⊎ Behind before → marks_so_far (rewritten (suc (suc c), before)) ≡ marks_so_far (suc (suc c), before)
    by_nearest (inl free) = ap marks_so_far (stuck_free (suc (suc c)) before free)
    by_nearest (inr b) =
        let n = suc (suc c) in
        let s = taking b.braces n b.two (omega arith) in
        ap (λ bs. marks_so_far (rewritten (n, bs))) b.is ∙ ap marks_so_far (rewritten_at n b.braces b.inside b.rest b.free b.two (omega arith))
        ∙ marks_made n b.braces (taken b.braces n) b.inside b.rest s.opening s.closing ∙ ap (λ bs. marks_so_far (n, bs)) (sym b.is)

marks_again : (f : ℕ) (x : ℕ × List Member) → marks_so_far (again f rewritten x) ≡ marks_so_far x
marks_again zero x = refl
marks_again (suc f) x = marks_again f (rewritten x) ∙ marks_rewritten x.0 x.1

word_before : (w : Word) (before : List Member) → before_marks (with_word w before) ≡ before_marks before ++ word_marks w.0 w.1
word_before (Chars, n) before = refl
word_before (CommentLine, n) before = refl
word_before (Comment, n) before = refl
word_before (Raw, n) before = refl
word_before (Include, n) before = refl
word_before (Hidden, n) before = refl
word_before (Entity c, n) before = refl
word_before (Opens, n) before = refl
word_before (Closes, n) before = let s = again n rewritten (n, before) in left_closes s.0 s.1 ∙ marks_again n (n, before)
word_before (LinkOpen, n) before = refl
word_before (LinkClose, n) before = refl
word_before (Pipe, n) before = refl
word_before (Equals, n) before = refl

onto_marks : (before : List Member) (ws : List Word) → before_marks (reduced_onto before ws) ≡ before_marks before ++ words_marks ws
onto_marks before [] = sym (append-nil (before_marks before))
onto_marks before (w ∷ ws) =
    onto_marks (with_word w before) ws ∙ ap (λ zs. zs ++ words_marks ws) (word_before w before)
    ∙ append_assoc (before_marks before) (word_marks w.0 w.1) (words_marks ws)

pub text_marks : (ws : List Word) → marks_of_all (members (reduced ws)) ≡ words_marks ws
unfolding reduced
text_marks ws = sym (before_is (reduced_onto [] ws)) ∙ onto_marks [] ws

-- Lexemes of which none is made a call: no run that closes with two braces or more is behind one that opens so.
use Rattle.std.proofs.Common.{arith, ◌≡◌, ◌⊎◌, inl, inr, ℕ, zero, suc, ◌<◌, ◌≤◌, ◌==◌, Bool, true, false, List, [], ◌∷◌, ◌++◌, reverse, nat_le, refl, sym, ap, ◌∙◌, subst}
use Rattle.std.specs.Prelude.{if◌then◌else◌}
use Rattle.std.proofs.lemmas.Bool.Decides.{nat_tests}
use Rattle.std.proofs.lemmas.List.{reverse-append}
use Rattle.wt_span.specs.declared.form.LexKind.{LexKind}
use Rattle.wt_span.specs.declared.form.LexKind.TheVariants.{Chars, CommentLine, Comment, Raw, Include, Hidden, Entity, Opens, Closes, LinkOpen, LinkClose, Pipe, Equals}
use Rattle.wt_span.specs.Lexemes.{Word}
use Rattle.wt_span.specs.Braces.{Member, lexeme, call, has_two, left_over, rewritten, again, closed_by, with_word, reduced_onto, reduced}
use Rattle.wt_braces.proofs.Shapes.{NoRun, Behind, nearest}
use Rattle.wt_braces.proofs.Takings.{stuck_free, stuck_few}
use Rattle.wt_called_edit_laws.proofs.Among.Crossed.{taken_so}

-- no run of two braces or more closes
abbrev pub NoClosing : List Word → Type 0
NoClosing [] = Unit {0}
NoClosing ((Closes, n) ∷ ws) = (n < 2) × NoClosing ws
NoClosing ((kind, n) ∷ ws) = NoClosing ws

-- none closes behind one that opens
abbrev pub NoneMeet : List Word → Type 0
NoneMeet [] = Unit {0}
NoneMeet ((Opens, n) ∷ ws) = (2 ≤ n → NoClosing ws) × NoneMeet ws
NoneMeet ((kind, n) ∷ ws) = NoneMeet ws

abbrev pub HasCall : List Member → Type 0
HasCall [] = ⊥
HasCall (lexeme w ∷ xs) = HasCall xs
HasCall (call k ms ∷ xs) = Unit {0}

-- ---- a call stays

call_front : (xs ys : List Member) → HasCall xs → HasCall (xs ++ ys)
call_front [] ys h = absurd h
call_front (lexeme w ∷ xs) ys h = call_front xs ys h
call_front (call k ms ∷ xs) ys h = tt

call_behind : (xs ys : List Member) → HasCall ys → HasCall (xs ++ ys)
call_behind [] ys h = h
call_behind (lexeme w ∷ xs) ys h = call_behind xs ys h
call_behind (call k ms ∷ xs) ys h = tt

call_back : (xs : List Member) → HasCall xs → HasCall (reverse xs)
call_back [] h = h
call_back (lexeme w ∷ xs) h = subst HasCall (sym (reverse-append (lexeme w ∷ []) xs)) (call_front (reverse xs) (lexeme w ∷ []) (call_back xs h))
call_back (call k ms ∷ xs) h = subst HasCall (sym (reverse-append (call k ms ∷ []) xs)) (call_behind (reverse xs) (call k ms ∷ []) tt)

few_or : (n : ℕ) → (n < 2) ⊎ (2 ≤ n)
few_or zero = inl (omega arith)
few_or (suc zero) = inl (omega arith)
few_or (suc (suc n)) = inr (omega arith)

step_keeps : (c : ℕ) (xs : List Member) → HasCall xs → HasCall (rewritten (c, xs)).1
step_keeps c xs h = by (few_or c) (nearest xs)
  where
    P : ℕ × List Member → Type 0
    P s = HasCall s.1

    by : (c < 2) ⊎ (2 ≤ c) → NoRun xs ⊎ Behind xs → HasCall (rewritten (c, xs)).1
    by (inl few) n = subst P (sym (stuck_few c xs few)) h
    by (inr more) (inl free) = subst P (sym (stuck_free c xs free)) h
    by (inr more) (inr b) = subst P (sym (taken_so c xs b more)) tt

again_keeps : (f : ℕ) (x : ℕ × List Member) → HasCall x.1 → HasCall (again f rewritten x).1
again_keeps zero x h = h
again_keeps (suc f) x h = again_keeps f (rewritten x) (step_keeps x.0 x.1 h)

over_keeps : (kind : LexKind) (n : ℕ) (xs : List Member) → HasCall xs → HasCall (left_over kind n ++ xs)
over_keeps kind n xs h = call_behind (left_over kind n) xs h

closed_keeps : (n : ℕ) (xs : List Member) → HasCall xs → HasCall (closed_by n xs)
closed_keeps n xs h = over_keeps Closes (again n rewritten (n, xs)).0 (again n rewritten (n, xs)).1 (again_keeps n (n, xs) h)

word_keeps : (w : Word) (xs : List Member) → HasCall xs → HasCall (with_word w xs)
word_keeps (Chars, n) xs h = h
word_keeps (CommentLine, n) xs h = h
word_keeps (Comment, n) xs h = h
word_keeps (Raw, n) xs h = h
word_keeps (Include, n) xs h = h
word_keeps (Hidden, n) xs h = h
word_keeps (Entity c, n) xs h = h
word_keeps (Opens, n) xs h = h
word_keeps (Closes, n) xs h = closed_keeps n xs h
word_keeps (LinkOpen, n) xs h = h
word_keeps (LinkClose, n) xs h = h
word_keeps (Pipe, n) xs h = h
word_keeps (Equals, n) xs h = h

onto_keeps : (ws : List Word) (xs : List Member) → HasCall xs → HasCall (reduced_onto xs ws)
onto_keeps [] xs h = h
onto_keeps (w ∷ ws) xs h = onto_keeps ws (with_word w xs) (word_keeps w xs h)

-- ---- a run that closes behind one that opens makes one

closed_makes : (n : ℕ) (xs : List Member) → 2 ≤ n → Behind xs → HasCall (closed_by n xs)
closed_makes zero xs more b = absurd (omega (arith, more))
closed_makes (suc m) xs more b =
    let P : ℕ × List Member → Type 0 = λ s. HasCall s.1 in
    let s : ℕ × List Member = again (suc m) rewritten (suc m, xs) in
    over_keeps Closes s.0 s.1 (again_keeps m (rewritten (suc m, xs)) (subst P (sym (taken_so (suc m) xs b more)) tt))

fixed : (f : ℕ) (x : ℕ × List Member) → rewritten x ≡ x → again f rewritten x ≡ x
fixed zero x e = refl
fixed (suc f) x e = ap (again f rewritten) e ∙ fixed f x e

closed_stuck : (n : ℕ) (xs : List Member) → rewritten (n, xs) ≡ (n, xs) → closed_by n xs ≡ left_over Closes n ++ xs
closed_stuck n xs e = ap (λ (s : ℕ × List Member). left_over Closes s.0 ++ s.1) (fixed n (n, xs) e)

stuck_so : (n : ℕ) (xs : List Member) → NoRun xs → closed_by n xs ≡ left_over Closes n ++ xs
stuck_so n xs f = closed_stuck n xs (stuck_free n xs f)

over_free : (n : ℕ) (xs : List Member) → NoRun xs → NoRun (left_over Closes n ++ xs)
over_free n xs h = by (n == 0)
  where
    by : (t : Bool) → NoRun ((if t then [] else lexeme (Closes, n) ∷ []) ++ xs)
    by true = h
    by false = (refl, h)

free_over : (n : ℕ) (xs : List Member) → NoRun (left_over Closes n ++ xs) → NoRun xs
free_over n xs h = by (n == 0) h
  where
    by : (t : Bool) → NoRun ((if t then [] else lexeme (Closes, n) ∷ []) ++ xs) → NoRun xs
    by true g = g
    by false g = g.1

abbrev Uncalled : List Member → List Word → Type 0
Uncalled xs ws = HasCall (reduced_onto xs ws) → ⊥

open_closes : (n : ℕ) (ws : List Word) (xs : List Member) → (NoRun xs → ⊥) → Uncalled (closed_by n xs) ws
    → ((ys : List Member) → (NoRun ys → ⊥) → Uncalled ys ws → NoClosing ws) → (n < 2) × NoClosing ws
open_closes n ws xs f h go = by (few_or n) (nearest xs)
  where
    by : (n < 2) ⊎ (2 ≤ n) → NoRun xs ⊎ Behind xs → (n < 2) × NoClosing ws
    by (inl few) b =
        let is : closed_by n xs ≡ left_over Closes n ++ xs = closed_stuck n xs (stuck_few n xs few) in
        (few, go (left_over Closes n ++ xs) (λ g. f (free_over n xs g)) (subst (λ (ys : List Member). Uncalled ys ws) is h))
    by (inr more) (inl free) = absurd (f free)
    by (inr more) (inr b) = absurd (h (onto_keeps ws (closed_by n xs) (closed_makes n xs more b)))

-- behind a run that opens
open_so : (ws : List Word) (xs : List Member) → (NoRun xs → ⊥) → Uncalled xs ws → NoClosing ws
open_so [] xs f h = tt
open_so ((Chars, n) ∷ ws) xs f h = open_so ws (lexeme (Chars, n) ∷ xs) (λ g. f g.1) h
open_so ((CommentLine, n) ∷ ws) xs f h = open_so ws (lexeme (CommentLine, n) ∷ xs) (λ g. f g.1) h
open_so ((Comment, n) ∷ ws) xs f h = open_so ws (lexeme (Comment, n) ∷ xs) (λ g. f g.1) h
open_so ((Raw, n) ∷ ws) xs f h = open_so ws (lexeme (Raw, n) ∷ xs) (λ g. f g.1) h
open_so ((Include, n) ∷ ws) xs f h = open_so ws (lexeme (Include, n) ∷ xs) (λ g. f g.1) h
open_so ((Hidden, n) ∷ ws) xs f h = open_so ws (lexeme (Hidden, n) ∷ xs) (λ g. f g.1) h
open_so ((Entity c, n) ∷ ws) xs f h = open_so ws (lexeme (Entity c, n) ∷ xs) (λ g. f g.1) h
open_so ((Opens, n) ∷ ws) xs f h = open_so ws (lexeme (Opens, n) ∷ xs) (λ g. f g.1) h
open_so ((Closes, n) ∷ ws) xs f h = open_closes n ws xs f h (λ ys g u. open_so ws ys g u)
open_so ((LinkOpen, n) ∷ ws) xs f h = open_so ws (lexeme (LinkOpen, n) ∷ xs) (λ g. f g.1) h
open_so ((LinkClose, n) ∷ ws) xs f h = open_so ws (lexeme (LinkClose, n) ∷ xs) (λ g. f g.1) h
open_so ((Pipe, n) ∷ ws) xs f h = open_so ws (lexeme (Pipe, n) ∷ xs) (λ g. f g.1) h
open_so ((Equals, n) ∷ ws) xs f h = open_so ws (lexeme (Equals, n) ∷ xs) (λ g. f g.1) h

none_meet : (ws : List Word) → NoClosing ws → NoneMeet ws
none_meet [] h = tt
none_meet ((Chars, n) ∷ ws) h = none_meet ws h
none_meet ((CommentLine, n) ∷ ws) h = none_meet ws h
none_meet ((Comment, n) ∷ ws) h = none_meet ws h
none_meet ((Raw, n) ∷ ws) h = none_meet ws h
none_meet ((Include, n) ∷ ws) h = none_meet ws h
none_meet ((Hidden, n) ∷ ws) h = none_meet ws h
none_meet ((Entity c, n) ∷ ws) h = none_meet ws h
none_meet ((Opens, n) ∷ ws) h = ((λ two. h), none_meet ws h)
none_meet ((Closes, n) ∷ ws) h = none_meet ws h.1
none_meet ((LinkOpen, n) ∷ ws) h = none_meet ws h
none_meet ((LinkClose, n) ∷ ws) h = none_meet ws h
none_meet ((Pipe, n) ∷ ws) h = none_meet ws h
none_meet ((Equals, n) ∷ ws) h = none_meet ws h

two_open : (n : ℕ) → 2 ≤ n → has_two (lexeme (Opens, n)) ≡ false → ⊥
two_open n two e =
    let yes : nat_le 2 n ≡ true = grind (arith, nat_tests, two) in
    let no : true ≡ false = sym yes ∙ e in
    cc

-- a run that opens has two braces or not
run_or : (n : ℕ) (xs : List Member) → NoRun xs → NoRun (lexeme (Opens, n) ∷ xs) ⊎ (NoRun (lexeme (Opens, n) ∷ xs) → ⊥)
run_or zero xs h = inl (refl, h)
run_or (suc zero) xs h = inl (refl, h)
run_or (suc (suc n)) xs h = inr (λ g. two_open (suc (suc n)) (omega arith) g.0)

free_opens : (n : ℕ) (ws : List Word) (xs : List Member) → NoRun xs → Uncalled (lexeme (Opens, n) ∷ xs) ws
    → ((ys : List Member) → NoRun ys → Uncalled ys ws → NoneMeet ws) → (2 ≤ n → NoClosing ws) × NoneMeet ws
free_opens n ws xs f h go = by (run_or n xs f)
  where
    by : NoRun (lexeme (Opens, n) ∷ xs) ⊎ (NoRun (lexeme (Opens, n) ∷ xs) → ⊥) → (2 ≤ n → NoClosing ws) × NoneMeet ws
    by (inl g) = ((λ two. absurd (two_open n two g.0)), go (lexeme (Opens, n) ∷ xs) g h)
    by (inr g) = let none : NoClosing ws = open_so ws (lexeme (Opens, n) ∷ xs) g h in ((λ two. none), none_meet ws none)

free_so : (ws : List Word) (xs : List Member) → NoRun xs → Uncalled xs ws → NoneMeet ws
free_so [] xs f h = tt
free_so ((Chars, n) ∷ ws) xs f h = free_so ws (lexeme (Chars, n) ∷ xs) (refl, f) h
free_so ((CommentLine, n) ∷ ws) xs f h = free_so ws (lexeme (CommentLine, n) ∷ xs) (refl, f) h
free_so ((Comment, n) ∷ ws) xs f h = free_so ws (lexeme (Comment, n) ∷ xs) (refl, f) h
free_so ((Raw, n) ∷ ws) xs f h = free_so ws (lexeme (Raw, n) ∷ xs) (refl, f) h
free_so ((Include, n) ∷ ws) xs f h = free_so ws (lexeme (Include, n) ∷ xs) (refl, f) h
free_so ((Hidden, n) ∷ ws) xs f h = free_so ws (lexeme (Hidden, n) ∷ xs) (refl, f) h
free_so ((Entity c, n) ∷ ws) xs f h = free_so ws (lexeme (Entity c, n) ∷ xs) (refl, f) h
free_so ((Opens, n) ∷ ws) xs f h = free_opens n ws xs f h (λ ys g u. free_so ws ys g u)
free_so ((Closes, n) ∷ ws) xs f h =
    free_so ws (left_over Closes n ++ xs) (over_free n xs f) (subst (λ (ys : List Member). Uncalled ys ws) (stuck_so n xs f) h)
free_so ((LinkOpen, n) ∷ ws) xs f h = free_so ws (lexeme (LinkOpen, n) ∷ xs) (refl, f) h
free_so ((LinkClose, n) ∷ ws) xs f h = free_so ws (lexeme (LinkClose, n) ∷ xs) (refl, f) h
free_so ((Pipe, n) ∷ ws) xs f h = free_so ws (lexeme (Pipe, n) ∷ xs) (refl, f) h
free_so ((Equals, n) ∷ ws) xs f h = free_so ws (lexeme (Equals, n) ∷ xs) (refl, f) h

pub none_meet_uncalled : (ws : List Word) → (HasCall (reduced ws) → ⊥) → NoneMeet ws
unfolding reduced
none_meet_uncalled ws h = free_so ws [] tt (λ g. h (call_back (reduced_onto [] ws) g))

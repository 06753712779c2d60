-- The reduction is reached by single steps.
use Rattle.std.proofs.Common.{◌≡◌, ℕ, zero, suc, ◌-◌, ◌<◌, ◌≤◌, Bool, true, false, List, [], ◌∷◌, ◌++◌, length, reverse, refl, sym, ap, ◌∙◌, subst, inl, inr, arith, append_assoc, append-nil, length-append}
use Rattle.std.specs.Prelude.{◌⊎◌, ◌==◌, if◌then◌else◌, All}
use Rattle.std.proofs.lemmas.Bool.Decides.{nat_tests}
use Rattle.std.proofs.lemmas.List.{reverse-append}
use Rattle.std.proofs.lemmas.List.Elements.{All-head, All-tail}
use Rattle.wt_span.specs.declared.form.Mode.{Mode}
use Rattle.wt_span.specs.declared.form.LexKind.{LexKind}
use Rattle.wt_span.specs.declared.form.LexKind.TheVariants.{Chars, CommentLine, Comment, Raw, Include, Hidden, Entity, Opens, Closes, LinkOpen, LinkClose, Pipe, Equals}
use Rattle.wt_span.specs.Lexemes.{Word, words}
use Rattle.wt_span.specs.Braces.{Member, lexeme, call, members, width, taken, left_over, rewritten, again, closed_by, reduced_onto, reduced}
use Rattle.wt_lex.specs.SignWidths.{HasSignWidth}
use Rattle.wt_lex.proofs.SignWidths.{word_widths}
use Rattle.wt_braces.specs.Rewriting.{as_members, NoOpen, NoPair, IsStep, AreSteps, HaveBraces, IsOnlyEnd}
use Rattle.wt_braces.proofs.Shapes.{NoRun, Behind, nearest}
use Rattle.wt_braces.proofs.Takings.{taking, rewritten_at, stuck_free, stuck_few}
use Rattle.wt_braces.proofs.Closings.{stuck_again, lowered, Lowered, fuel}
use Rattle.wt_braces.proofs.OneEnd.{one_end_of, pair_front, pair_push, pair_free, pair_stuck}

open_append : (xs ys : List Member) → NoOpen xs → NoOpen ys → NoOpen (xs ++ ys)
open_append [] ys f g = g
open_append (x ∷ xs) ys f g = (f.0, open_append xs ys f.1 g)

rev_cons : (x : Member) (xs : List Member) → reverse (x ∷ xs) ≡ reverse xs ++ x ∷ []
rev_cons x xs = reverse-append (x ∷ []) xs

rev_open : (xs : List Member) → NoRun xs → NoOpen (reverse xs)
rev_open [] h = tt
rev_open (x ∷ xs) h = subst NoOpen (sym (rev_cons x xs)) (open_append (reverse xs) (x ∷ []) (rev_open xs h.1) (h.0, tt))

rev_mid : (inside : List Member) (x : Member) (rest : List Member) → reverse (inside ++ x ∷ rest) ≡ reverse rest ++ x ∷ reverse inside
rev_mid inside x rest = reverse-append inside (x ∷ rest) ∙ ap (λ zs. zs ++ reverse inside) (rev_cons x rest)
    ∙ append_assoc (reverse rest) (x ∷ []) (reverse inside)

pub left_some : (kind : LexKind) (n : ℕ) → 1 ≤ n → left_over kind n ≡ lexeme (kind, n) ∷ []
left_some kind n some = let e : (n == 0) ≡ false = grind (arith, nat_tests) in ap (λ t. if t then [] else lexeme (kind, n) ∷ []) e

rev_left : (kind : LexKind) (n : ℕ) → reverse (left_over kind n) ≡ left_over kind n
rev_left kind n = by_test (n == 0)
  where
    by_test : (t : Bool) → reverse (if t then [] else lexeme (kind, n) ∷ []) ≡ (if t then [] else lexeme (kind, n) ∷ [])
    by_test true = refl
    by_test false = refl

rev_over : (kind : LexKind) (n : ℕ) (rest : List Member) → reverse (left_over kind n ++ rest) ≡ reverse rest ++ left_over kind n
rev_over kind n rest = reverse-append (left_over kind n) rest ∙ ap (λ zs. reverse rest ++ zs) (rev_left kind n)

-- a text of which a closing run with so many braces is read, after these members
abbrev text : List Member → ℕ → List Word → List Member
text before c ws = reverse before ++ (left_over Closes c ++ as_members ws)

abbrev after_step : ℕ → (before : List Member) → Behind before → List Member
after_step c before b = call (taken b.braces c) (members (reverse b.inside)) ∷ (left_over Opens (b.braces - taken b.braces c) ++ b.rest)

front_is : (before : List Member) (b : Behind before) → reverse before ≡ reverse b.rest ++ lexeme (Opens, b.braces) ∷ reverse b.inside
front_is before b = ap reverse b.is ∙ rev_mid b.inside (lexeme (Opens, b.braces)) b.rest

step_text : (c : ℕ) (before : List Member) (ws : List Word) (b : Behind before) → NoPair (reverse before) → 2 ≤ c
    → IsStep (text before c ws) (text (after_step c before b) (c - taken b.braces c) ws)
step_text c before ws b free more =
    let k = taken b.braces c in
    let x = call k (members (reverse b.inside)) in
    let over = left_over Opens (b.braces - k) in
    let tail = left_over Closes (c - k) ++ as_members ws in
    record {
      before = reverse b.rest;
      opening = b.braces;
      inside = reverse b.inside;
      closing = c;
      after = as_members ws;
      from_is = ap (λ xs. xs ++ (left_over Closes c ++ as_members ws)) (front_is before b)
          ∙ ap (λ ys. (reverse b.rest ++ lexeme (Opens, b.braces) ∷ reverse b.inside) ++ (ys ++ as_members ws))
          (left_some Closes c (omega (arith, more)));
      two_open = b.two;
      two_close = more;
      nearest = rev_open b.inside b.free;
      leftmost = subst NoPair (front_is before b) free;
      to_is = ap (λ zs. zs ++ tail) (rev_cons x (over ++ b.rest))
          ∙ ap (λ zs. (zs ++ x ∷ []) ++ tail) (rev_over Opens (b.braces - k) b.rest)
          ∙ append_assoc (reverse b.rest ++ over) (x ∷ []) tail ∙ append_assoc (reverse b.rest) over (x ∷ tail);
    }

abbrev is_closing : Member → Bool
is_closing (lexeme (Closes, n)) = true
is_closing x = false

not_closing : (x : Member) → is_closing x ≡ false → (c : ℕ) → x ≡ lexeme (Closes, c) → 2 ≤ c → ⊥
not_closing x h c e two = let z : false ≡ true = sym h ∙ ap is_closing e in cc

left_pair : (j : ℕ) (rest : List Member) → NoPair (reverse rest) → NoPair (reverse (left_over Opens j ++ rest))
left_pair j rest h = by_test (j == 0)
  where
    by_test : (t : Bool) → NoPair (reverse ((if t then [] else lexeme (Opens, j) ∷ []) ++ rest))
    by_test true = h
    by_test false = subst NoPair (sym (rev_cons (lexeme (Opens, j)) rest))
        (pair_push (reverse rest) (lexeme (Opens, j)) h (not_closing (lexeme (Opens, j)) refl))

step_free : (c : ℕ) (before : List Member) (b : Behind before) → NoPair (reverse before) → NoPair (reverse (after_step c before b))
step_free c before b free =
    let k = taken b.braces c in
    let x = call k (members (reverse b.inside)) in
    let bs = left_over Opens (b.braces - k) ++ b.rest in
    let rest = pair_front (reverse b.rest) (lexeme (Opens, b.braces) ∷ reverse b.inside) (subst NoPair (front_is before b) free) in
    subst NoPair (sym (rev_cons x bs)) (pair_push (reverse bs) x (left_pair (b.braces - k) b.rest rest) (not_closing x refl))

-- ---- many steps

pub record Many (from to : List Member) : Type 0 where
  pub count : ℕ
  pub steps : AreSteps count from to

many_more : (n : ℕ) (from next to : List Member) → AreSteps n from next → Many next to → Many from to
many_more zero from next to a m = let P : List Member → Type 0 = λ xs. Many xs to in subst P (sym a) m
many_more (suc n) from next to a m = let r = many_more n a.0 next to a.2 m in record { count = suc r.count; steps = (a.0, a.1, r.steps) }

many_from : (from next to : List Member) → Many from next → Many next to → Many from to
many_from from next to a m = many_more a.count from next to a.steps m

one_many : (from next to : List Member) → IsStep from next → Many next to → Many from to
one_many from next to s m = record { count = suc m.count; steps = (next, s, m.steps) }

same_many : (from to : List Member) → from ≡ to → Many from to
same_many from to e = record { count = 0; steps = e }

pub record Closed (from : List Member) (ws : List Word) (x : ℕ × List Member) : Type 0 where
  pub many : Many from (text x.1 x.0 ws)
  pub free : NoPair (reverse x.1)

step_closed : (f c : ℕ) (before : List Member) (ws : List Word) → NoPair (reverse before) → 2 ≤ c → (b : Behind before)
    → Closed (text (after_step c before b) (c - taken b.braces c) ws) ws (again f rewritten (c - taken b.braces c, after_step c before b))
    → Closed (text before c ws) ws (again f rewritten (rewritten (c, before)))
step_closed f c before ws free more b h =
    let is : rewritten (c, before) ≡ (c - taken b.braces c, after_step c before b) = ap (λ bs. rewritten (c, bs)) b.is
    ∙ rewritten_at c b.braces b.inside b.rest b.free b.two more in
    let P : ℕ × List Member → Type 0 = λ x. Closed (text before c ws) ws (again f rewritten x) in
    let x = again f rewritten (c - taken b.braces c, after_step c before b) in
    subst P (sym is) (record {
      many = one_many (text before c ws) (text (after_step c before b) (c - taken b.braces c) ws)
          (text x.1 x.0 ws) (step_text c before ws b free more) h.many;
      free = h.free;
    })

stay_closed : (f c : ℕ) (before : List Member) (ws : List Word) → rewritten (c, before) ≡ (c, before)
    → Closed (text before c ws) ws (again f rewritten (c, before))
    → Closed (text before c ws) ws (again f rewritten (rewritten (c, before)))
stay_closed f c before ws e h = let P : ℕ × List Member → Type 0 = λ x. Closed (text before c ws) ws (again f rewritten x) in subst P (sym e) h

dec_two : (c : ℕ) → (c < 2) ⊎ (2 ≤ c)
dec_two zero = inl (omega arith)
dec_two (suc zero) = inl (omega arith)
dec_two (suc (suc c)) = inr (omega arith)

closing_steps : (f c : ℕ) (before : List Member) (ws : List Word) → NoPair (reverse before) → Closed (text before c ws) ws (again f rewritten (c, before))
closing_steps zero c before ws free = record { many = same_many (text before c ws) (text before c ws) refl; free = free }
closing_steps (suc f) c before ws free =
    by_case (dec_two c) (nearest before) (closing_steps f c before ws free)
    (λ b. closing_steps f (c - taken b.braces c) (after_step c before b) ws (step_free c before b free))
  where
    by_case : (c < 2) ⊎ (2 ≤ c) → NoRun before ⊎ Behind before → Closed (text before c ws) ws (again f rewritten (c, before))
        → ((b : Behind before) → Closed (text (after_step c before b) (c - taken b.braces c) ws) ws
        (again f rewritten (c - taken b.braces c, after_step c before b)))
        → Closed (text before c ws) ws (again f rewritten (rewritten (c, before)))
    by_case (inl few) r h g = stay_closed f c before ws (stuck_few c before few) h
    by_case (inr more) (inl none) h g = stay_closed f c before ws (stuck_free c before none) h
    by_case (inr more) (inr b) h g = step_closed f c before ws free more b (g b)

-- ---- a closing run stops where it can't take more

pub fixed_by : (bound c : ℕ) (before : List Member) → c ≤ bound → (rewritten (c, before) ≡ (c, before)) ⊎ Lowered c before
    → rewritten (again c rewritten (c, before)) ≡ again c rewritten (c, before)
fixed_by bound c before le (inl e) = ap rewritten (stuck_again c (c, before) e) ∙ e ∙ sym (stuck_again c (c, before) e)
fixed_by zero c before le (inr l) = absurd (omega (arith, l.less))
fixed_by (suc bound) zero before le (inr l) = absurd (omega (arith, l.less))
fixed_by (suc bound) (suc c) before le (inr l) =
    let more = l.less in
    let is : again (suc c) rewritten (suc c, before) ≡ again l.left rewritten (l.left, l.after) = ap (again c rewritten) l.is
    ∙ fuel c l.left l.after (omega arith) in
    ap rewritten is ∙ fixed_by bound l.left l.after (omega arith) (lowered l.left l.after) ∙ sym is

end_free : (c : ℕ) (before : List Member) → rewritten (c, before) ≡ (c, before) → NoPair (reverse before) → NoPair (reverse (left_over Closes c ++ before))
end_free c before e free = by_test (c == 0)
  where
    by_case : (c < 2) ⊎ (2 ≤ c) → NoRun before ⊎ Behind before → NoPair (reverse before ++ lexeme (Closes, c) ∷ [])
    by_case (inl few) r = pair_push (reverse before) (lexeme (Closes, c)) free (λ d f two. let z : c ≡ d = ap width f in omega (arith, few, z, two))
    by_case (inr more) (inl none) = pair_free (reverse before) (lexeme (Closes, c)) (rev_open before none)
    by_case (inr more) (inr b) =
        let s = taking b.braces c b.two more in
        let is : rewritten (c, before) ≡ (c - taken b.braces c, after_step c before b) = ap (λ bs. rewritten (c, bs)) b.is
        ∙ rewritten_at c b.braces b.inside b.rest b.free b.two more in
        let z : c ≡ c - taken b.braces c = ap (λ x. x.0) (sym e ∙ is) in
        absurd (omega (arith, z, s.two, s.closing))

    by_test : (t : Bool) → NoPair (reverse ((if t then [] else lexeme (Closes, c) ∷ []) ++ before))
    by_test true = free
    by_test false = subst NoPair (sym (rev_cons (lexeme (Closes, c)) before)) (by_case (dec_two c) (nearest before))

closed_text : (c : ℕ) (before : List Member) (ws : List Word) → text before c ws ≡ reverse (left_over Closes c ++ before) ++ as_members ws
closed_text c before ws = sym (append_assoc (reverse before) (left_over Closes c) (as_members ws))
    ∙ ap (λ zs. zs ++ as_members ws) (sym (rev_over Closes c before))

-- ---- all lexemes

pub record Reached (from to : List Member) : Type 0 where
  pub many : Many from (reverse to)
  pub free : NoPair (reverse to)

plain_text : (w : Word) (before : List Member) (ws : List Word) → reverse (lexeme w ∷ before) ++ as_members ws ≡ reverse before ++ lexeme w ∷ as_members ws
plain_text w before ws = ap (λ zs. zs ++ as_members ws) (rev_cons (lexeme w) before) ∙ append_assoc (reverse before) (lexeme w ∷ []) (as_members ws)

abbrev Reaches : List Word → Type 0
Reaches ws = (before : List Member) → NoPair (reverse before) → Reached (reverse before ++ as_members ws) (reduced_onto before ws)

plain_free : (w : Word) (before : List Member) → NoPair (reverse before) → ((c : ℕ) → lexeme w ≡ lexeme (Closes, c) → 2 ≤ c → ⊥)
    → NoPair (reverse (lexeme w ∷ before))
plain_free w before free never = subst NoPair (sym (rev_cons (lexeme w) before)) (pair_push (reverse before) (lexeme w) free never)

plain_word : (w : Word) (before : List Member) (ws : List Word) → NoPair (reverse before)
    → ((c : ℕ) → lexeme w ≡ lexeme (Closes, c) → 2 ≤ c → ⊥) → Reaches ws → Reached (reverse before ++ lexeme w ∷ as_members ws)
    (reduced_onto (lexeme w ∷ before) ws)
plain_word w before ws free never others =
    let P : List Member → Type 0 = λ xs. Reached xs (reduced_onto (lexeme w ∷ before) ws) in
    subst P (plain_text w before ws) (others (lexeme w ∷ before) (plain_free w before free never))

closing_word : (n : ℕ) (before : List Member) (ws : List Word) → 1 ≤ n → NoPair (reverse before) → Reaches ws
    → Reached (reverse before ++ lexeme (Closes, n) ∷ as_members ws) (reduced_onto (closed_by n before) ws)
closing_word n before ws some free others =
    let x = again n rewritten (n, before) in
    let h = closing_steps n n before ws free in
    let g = others (closed_by n before) (end_free x.0 x.1 (fixed_by n n before (omega arith) (lowered n before)) h.free) in
    let start = reverse before ++ lexeme (Closes, n) ∷ as_members ws in
    let begin : start ≡ text before n ws = ap (λ zs. reverse before ++ (zs ++ as_members ws)) (sym (left_some Closes n some)) in
    let to = reverse (reduced_onto (closed_by n before) ws) in
    let next = reverse (closed_by n before) ++ as_members ws in
    record {
      many = many_from start (text before n ws) to (same_many start (text before n ws) begin)
          (many_from (text before n ws) (text x.1 x.0 ws) to h.many
          (many_from (text x.1 x.0 ws) next to (same_many (text x.1 x.0 ws) next (closed_text x.0 x.1 ws)) g.many));
      free = g.free;
    }

reaches : (ws : List Word) → HaveBraces ws → Reaches ws
reaches [] h = λ before free. record { many = same_many (reverse before ++ []) (reverse before) (append-nil (reverse before)); free = free }
reaches ((Chars, n) ∷ ws) h = λ before free. plain_word (Chars, n) before ws free (not_closing (lexeme (Chars, n)) refl) (reaches ws h)
reaches ((CommentLine, n) ∷ ws) h = λ before free. plain_word (CommentLine, n) before ws free (not_closing (lexeme (CommentLine, n)) refl) (reaches ws h)
reaches ((Comment, n) ∷ ws) h = λ before free. plain_word (Comment, n) before ws free (not_closing (lexeme (Comment, n)) refl) (reaches ws h)
reaches ((Raw, n) ∷ ws) h = λ before free. plain_word (Raw, n) before ws free (not_closing (lexeme (Raw, n)) refl) (reaches ws h)
reaches ((Include, n) ∷ ws) h = λ before free. plain_word (Include, n) before ws free (not_closing (lexeme (Include, n)) refl) (reaches ws h)
reaches ((Hidden, n) ∷ ws) h = λ before free. plain_word (Hidden, n) before ws free (not_closing (lexeme (Hidden, n)) refl) (reaches ws h)
reaches ((Entity x, n) ∷ ws) h = λ before free. plain_word (Entity x, n) before ws free (not_closing (lexeme (Entity x, n)) refl) (reaches ws h)
reaches ((Opens, n) ∷ ws) h = λ before free. plain_word (Opens, n) before ws free (not_closing (lexeme (Opens, n)) refl) (reaches ws h)
reaches ((Closes, n) ∷ ws) h = λ before free. closing_word n before ws h.0 free (reaches ws h.1)
reaches ((LinkOpen, n) ∷ ws) h = λ before free. plain_word (LinkOpen, n) before ws free (not_closing (lexeme (LinkOpen, n)) refl) (reaches ws h)
reaches ((LinkClose, n) ∷ ws) h = λ before free. plain_word (LinkClose, n) before ws free (not_closing (lexeme (LinkClose, n)) refl) (reaches ws h)
reaches ((Pipe, n) ∷ ws) h = λ before free. plain_word (Pipe, n) before ws free (not_closing (lexeme (Pipe, n)) refl) (reaches ws h)
reaches ((Equals, n) ∷ ws) h = λ before free. plain_word (Equals, n) before ws free (not_closing (lexeme (Equals, n)) refl) (reaches ws h)

no_pair_yet : NoPair []
no_pair_yet left between right n c e two more =
    let long = ap length e ∙ length-append (left ++ lexeme (Opens, n) ∷ between) (lexeme (Closes, c) ∷ right) in omega (arith, long)

only_end : (from to : List Member) → Many from to → NoPair to → IsOnlyEnd from to
only_end from to m free = record {
  count = m.count;
  steps = m.steps;
  ends = λ next s. pair_stuck to next free s;
  only = λ n other steps stuck. one_end_of n m.count from other to steps m.steps stuck (λ next s. pair_stuck to next free s);
}

pub one_end : (ws : List Word) → HaveBraces ws → IsOnlyEnd (as_members ws) (reduced ws)
unfolding reduced
one_end ws h = let r = reaches ws h [] no_pair_yet in only_end (as_members ws) (reverse (reduced_onto [] ws)) r.many r.free

-- ---- lexemes of a text have braces

braces_by : (w : Word) (ws : List Word) → HasSignWidth w → HaveBraces ws → HaveBraces (w ∷ ws)
braces_by (Chars, n) ws f g = g
braces_by (CommentLine, n) ws f g = g
braces_by (Comment, n) ws f g = g
braces_by (Raw, n) ws f g = g
braces_by (Include, n) ws f g = g
braces_by (Hidden, n) ws f g = g
braces_by (Entity c, n) ws f g = g
braces_by (Opens, n) ws f g = g
braces_by (Closes, n) ws f g = (omega (arith, f), g)
braces_by (LinkOpen, n) ws f g = g
braces_by (LinkClose, n) ws f g = g
braces_by (Pipe, n) ws f g = g
braces_by (Equals, n) ws f g = g

braces_all : (ws : List Word) → All HasSignWidth ws → HaveBraces ws
braces_all [] h = tt
braces_all (w ∷ ws) h = braces_by w ws (All-head HasSignWidth w ws h) (braces_all ws (All-tail HasSignWidth w ws h))

pub lexemes_have_braces : (mode : Mode) (bs : List ℕ) → HaveBraces (words mode bs)
lexemes_have_braces mode bs = braces_all (words mode bs) (word_widths mode bs)

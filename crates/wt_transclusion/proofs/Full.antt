-- Members of texts have some bytes, and their widths.
use Rattle.std.proofs.Common.{◌≡◌, ℕ, zero, suc, ◌-◌, ◌≤◌, Bool, true, false, List, [], ◌∷◌, ◌++◌, length, drop, refl, sym, ap, ◌∙◌, subst, inl, inr, arith}
use Rattle.std.specs.Prelude.{◌⊎◌, ◌==◌, reverse, slice_index, if◌then◌else◌}
use Rattle.std.proofs.lemmas.Bool.Decides.{nat_tests}
use Rattle.std.proofs.lemmas.List.{reverse-append, length-drop}
use Rattle.wt_span.specs.declared.form.Mode.{Mode}
use Rattle.wt_span.specs.declared.form.LexKind.{LexKind}
use Rattle.wt_span.specs.declared.form.LexKind.TheVariants.{Chars, CommentLine, Comment, Raw, Include, Hidden, Entity, Opens, Closes, LinkOpen, LinkClose, Pipe, Equals}
use Rattle.wt_span.specs.Bytes.{is_break}
use Rattle.wt_span.specs.Lexemes.{Word, words}
use Rattle.wt_span.specs.Braces.{Member, lexeme, members, width_of_all, rewritten, again, taken, left_over, with_word, reduced_onto, reduced}
use Rattle.wt_lex.specs.Reading.{AreLexemes}
use Rattle.wt_lex.proofs.Readings.{words_are}
use Rattle.wt_braces.specs.Words.{total_width}
use Rattle.wt_braces.proofs.Shapes.{NoRun, Behind, nearest}
use Rattle.wt_braces.proofs.Takings.{taking, rewritten_at, stuck_free, stuck_few}
use Rattle.wt_braces.proofs.TextLaws.{text_width}
use Rattle.wt_transclusion.specs.Stretch.{AreFull, AllFull}

full_append : (xs ys : List Member) → AllFull xs → AllFull ys → AllFull (xs ++ ys)
full_append [] ys f g = g
full_append (x ∷ xs) ys f g = (f.0, full_append xs ys f.1 g)

full_left : (xs ys : List Member) → AllFull (xs ++ ys) → AllFull xs
full_left [] ys f = tt
full_left (x ∷ xs) ys f = (f.0, full_left xs ys f.1)

full_right : (xs ys : List Member) → AllFull (xs ++ ys) → AllFull ys
full_right [] ys f = f
full_right (x ∷ xs) ys f = full_right xs ys f.1

full_reverse : (xs : List Member) → AllFull xs → AllFull (reverse xs)
full_reverse [] f = tt
full_reverse (x ∷ xs) f = subst AllFull (sym (reverse-append (x ∷ []) xs)) (full_append (reverse xs) (x ∷ []) (full_reverse xs f.1) (f.0, tt))

full_members : (xs : List Member) → AllFull xs → AreFull (members xs)
full_members [] f = tt
full_members (x ∷ xs) f = (f.0, full_members xs f.1)

full_over : (kind : LexKind) (n : ℕ) → AllFull (left_over kind n)
full_over kind n = by_test (n == 0) refl
  where
    by_test : (t : Bool) → (n == 0) ≡ t → AllFull (if t then [] else lexeme (kind, n) ∷ [])
    by_test true e = tt
    by_test false e = (grind (arith, nat_tests), tt)

full_rewritten : (c : ℕ) (before : List Member) → AllFull before → AllFull (rewritten (c, before)).1
full_rewritten zero before f = subst AllFull (sym (ap (λ x. x.1) (stuck_few 0 before (omega arith)))) f
full_rewritten (suc zero) before f = subst AllFull (sym (ap (λ x. x.1) (stuck_few 1 before (omega arith)))) f
full_rewritten (suc (suc c)) before f = by_nearest (nearest before)
  where
    by_nearest : NoRun before ⊎ Behind before → AllFull (rewritten (suc (suc c), before)).1
    by_nearest (inl free) = subst AllFull (sym (ap (λ x. x.1) (stuck_free (suc (suc c)) before free))) f
    by_nearest (inr b) =
        let n = suc (suc c) in
        let k = taken b.braces n in
        let run = lexeme (Opens, b.braces) in
        let whole = subst AllFull b.is f in
        let inside = full_left b.inside (run ∷ b.rest) whole in
        let rest = full_right b.inside (run ∷ b.rest) whole in
        let is = ap (λ bs. (rewritten (n, bs)).1) b.is ∙ ap (λ x. x.1) (rewritten_at n b.braces b.inside b.rest b.free b.two (omega arith)) in
        subst AllFull (sym is) (
          ((taking b.braces n b.two (omega arith)).two, full_members (reverse b.inside) (full_reverse b.inside inside)),
          full_append (left_over Opens (b.braces - k)) b.rest (full_over Opens (b.braces - k)) rest.1,
        )

full_again : (f : ℕ) (x : ℕ × List Member) → AllFull x.1 → AllFull (again f rewritten x).1
full_again zero x h = h
full_again (suc f) x h = full_again f (rewritten x) (full_rewritten x.0 x.1 h)

full_word : (w : Word) (before : List Member) → 1 ≤ w.1 → AllFull before → AllFull (with_word w before)
full_word (Chars, n) before l f = (l, f)
full_word (CommentLine, n) before l f = (l, f)
full_word (Comment, n) before l f = (l, f)
full_word (Raw, n) before l f = (l, f)
full_word (Include, n) before l f = (l, f)
full_word (Hidden, n) before l f = (l, f)
full_word (Entity c, n) before l f = (l, f)
full_word (Opens, n) before l f = (l, f)
full_word (Closes, n) before l f =
    let s = again n rewritten (n, before) in full_append (left_over Closes s.0) s.1 (full_over Closes s.0) (full_again n (n, before) f)
full_word (LinkOpen, n) before l f = (l, f)
full_word (LinkClose, n) before l f = (l, f)
full_word (Pipe, n) before l f = (l, f)
full_word (Equals, n) before l f = (l, f)

-- lexemes with some bytes
abbrev pub AllSome : List Word → Type 0
AllSome [] = Unit {0}
AllSome (w ∷ ws) = (1 ≤ w.1) × AllSome ws

full_onto : (before : List Member) (ws : List Word) → AllSome ws → AllFull before → AllFull (reduced_onto before ws)
full_onto before [] s f = f
full_onto before (w ∷ ws) s f = full_onto (with_word w before) ws s.1 (full_word w before s.0 f)

pub full_reduced : (ws : List Word) → AllSome ws → AllFull (reduced ws)
unfolding reduced
full_reduced ws s = full_reverse (reduced_onto [] ws) (full_onto [] ws s tt)

pub some_lexemes : (m : Mode) (after : Bool) (ws : List Word) (bs : List ℕ) → AreLexemes m after ws bs → AllSome ws
some_lexemes m after [] bs a = tt
some_lexemes m after ((kind, n) ∷ ws) bs a = (a.0, some_lexemes m (is_break (slice_index bs (n - 1))) ws (drop n bs) a.4)

pub full_text : (m : Mode) (bs : List ℕ) → AllFull (reduced (words m bs))
full_text m bs = full_reduced (words m bs) (some_lexemes m false (words m bs) bs (words_are m bs))

pub wide_lexemes : (m : Mode) (after : Bool) (ws : List Word) (bs : List ℕ) → AreLexemes m after ws bs → total_width ws ≡ length bs
wide_lexemes m after [] bs a = ap length (sym a)
wide_lexemes m after ((kind, n) ∷ ws) bs a = omega (arith, wide_lexemes m (is_break (slice_index bs (n - 1))) ws (drop n bs) a.4, length-drop n bs, a.1)

-- all members of a text take its bytes
pub text_bytes : (m : Mode) (bs : List ℕ) → width_of_all (members (reduced (words m bs))) ≡ length bs
text_bytes m bs = text_width (words m bs) ∙ wide_lexemes m false (words m bs) bs (words_are m bs)

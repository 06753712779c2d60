-- Of the braces that a text has left, no two that open are before two that close.
use Rattle.std.proofs.Common.{arith, ◌≡◌, ◌⊎◌, inl, inr, ℕ, zero, suc, ◌-◌, ◌<◌, ◌≤◌, Bool, true, false, Some, List, [], ◌∷◌, ◌++◌, reverse, nat_le, sym, ap, ◌∙◌, subst}
use Rattle.std.specs.Prelude.{◌==◌, if◌then◌else◌}
use Rattle.std.proofs.lemmas.Bool.Decides.{nat_tests}
use Rattle.std.proofs.lemmas.List.{reverse-append}
use Rattle.wt_span.specs.declared.form.LexKind.TheVariants.{Chars, CommentLine, Comment, Raw, Include, Hidden, Entity, Opens, Closes, LinkOpen, LinkClose, Pipe, Equals}
use Rattle.wt_span.specs.Lexemes.{Word}
use Rattle.wt_span.specs.Braces.{Member, lexeme, open_left, taken, left_over, rewritten, again, closed_by, with_word, reduced_onto, reduced}
use Rattle.wt_braces.proofs.Closings.{lowered}
use Rattle.wt_braces.proofs.Reached.{fixed_by}
use Rattle.wt_braces.proofs.Shapes.{NoRun, Behind, nearest}
use Rattle.wt_braces.proofs.Takings.{taking, stuck_free, stuck_few}
use Rattle.wt_part_laws.specs.Apart.{close_left, NoneOpens, NoneCloses, AreApart}
use Rattle.wt_text_edit_laws.specs.NoCalls.{Brace, opening, closing, NoneClose, NonePairs}
use Rattle.wt_called_edit_laws.specs.Parts.{left_by, left_in}
use Rattle.wt_called_edit_laws.proofs.Among.Crossed.{opens_back, taken_so, listed}
use Rattle.wt_called_edit_laws.proofs.Parts.LeftBraces.{left_append}

-- ---- braces side by side

none_both : (xs bs : List Brace) → NoneClose xs → NoneClose bs → NoneClose (xs ++ bs)
none_both [] bs h g = g
none_both (opening ∷ xs) bs h g = none_both xs bs h g
none_both (closing ∷ xs) bs h g = absurd h

pairs_calm : (xs bs : List Brace) → NonePairs xs → NoneClose bs → NonePairs (xs ++ bs)
pairs_calm [] [] h g = tt
pairs_calm [] (opening ∷ bs) h g = g
pairs_calm [] (closing ∷ bs) h g = absurd g
pairs_calm (opening ∷ xs) bs h g = none_both xs bs h g
pairs_calm (closing ∷ xs) bs h g = pairs_calm xs bs h g

no_two : (n : ℕ) → n < 2 → nat_le 2 n ≡ false
no_two n few = grind (arith, nat_tests)

closes_left : (xs : List Member) → NoneCloses xs → NoneClose (left_in xs)
closes_left [] h = tt
closes_left (x ∷ xs) h = by (nat_le 2 (open_left (Some x))) (nat_le 2 (close_left x)) (no_two (close_left x) h.0) (closes_left xs h.1)
  where
    by : (o c : Bool) → c ≡ false → NoneClose (left_in xs) → NoneClose (left_by o c (left_in xs))
    by true c e g = g
    by false true e g = absurd (cc)
    by false false e g = g

opens_left : (xs : List Member) (bs : List Brace) → NoneOpens xs → NonePairs bs → NonePairs (left_in xs ++ bs)
opens_left [] bs h g = g
opens_left (x ∷ xs) bs h g = by (nat_le 2 (open_left (Some x))) (nat_le 2 (close_left x)) (no_two (open_left (Some x)) h.0) (opens_left xs bs h.1 g)
  where
    by : (o c : Bool) → o ≡ false → NonePairs (left_in xs ++ bs) → NonePairs (left_by o c (left_in xs) ++ bs)
    by true c e r = absurd (cc)
    by false true e r = r
    by false false e r = r

-- two texts of which neither ends a call that begins in the other one
pub apart_pairs : (vs ws : List Word) → AreApart vs ws → NonePairs (left_in (reduced vs)) → NonePairs (left_in (reduced ws))
    → NonePairs (left_in (reduced vs) ++ left_in (reduced ws))
apart_pairs vs ws (inl o) h g = opens_left (reduced vs) (left_in (reduced ws)) o g
apart_pairs vs ws (inr c) h g = pairs_calm (left_in (reduced vs)) (left_in (reduced ws)) h (closes_left (reduced ws) c)

-- ---- one text

-- of members that are listed from the nearest on: before one that has two left to close nothing has two left to open
abbrev IsCalm : List Member → Type 0
IsCalm [] = Unit {0}
IsCalm (x ∷ xs) = ((close_left x < 2) ⊎ NoRun xs) × IsCalm xs

one_pairs : (x : Member) → NonePairs (left_in (x ∷ []))
one_pairs x = by (nat_le 2 (open_left (Some x))) (nat_le 2 (close_left x))
  where
    by : (o c : Bool) → NonePairs (left_by o c [])
    by true c = tt
    by false true = tt
    by false false = tt

last_pairs : (x : Member) (xs : List Member) → (close_left x < 2) ⊎ NoRun xs → NonePairs (left_in (reverse xs)) → NonePairs (left_in (reverse xs) ++ left_in (x ∷ []))
last_pairs x xs (inl few) h = pairs_calm (left_in (reverse xs)) (left_in (x ∷ [])) h (closes_left (x ∷ []) (few, tt))
last_pairs x xs (inr free) h = opens_left (reverse xs) (left_in (x ∷ [])) (opens_back xs free) (one_pairs x)

calm_pairs : (xs : List Member) → IsCalm xs → NonePairs (left_in (reverse xs))
calm_pairs [] h = tt
calm_pairs (x ∷ xs) h =
    subst NonePairs (sym (ap left_in (reverse-append (x ∷ []) xs) ∙ left_append (reverse xs) (x ∷ []))) (last_pairs x xs h.0 (calm_pairs xs h.1))

calm_rest : (xs ys : List Member) → IsCalm (xs ++ ys) → IsCalm ys
calm_rest [] ys h = h
calm_rest (x ∷ xs) ys h = calm_rest xs ys h.1

calm_over : (n : ℕ) (ys : List Member) → IsCalm ys → IsCalm (left_over Opens n ++ ys)
calm_over n ys h = by (n == 0)
  where
    by : (t : Bool) → IsCalm ((if t then [] else lexeme (Opens, n) ∷ []) ++ ys)
    by true = h
    by false = (inl (omega arith), h)

calm_taken : (c : ℕ) (xs : List Member) → 2 ≤ c → NoRun xs ⊎ Behind xs → IsCalm xs → IsCalm (listed (rewritten (c, xs)))
calm_taken c xs more (inl free) h = subst (λ (s : ℕ × List Member). IsCalm (listed s)) (sym (stuck_free c xs free)) h
calm_taken c xs more (inr b) h =
    let rest = calm_rest b.inside (lexeme (Opens, b.braces) ∷ b.rest) (subst IsCalm b.is h) in
    subst (λ (s : ℕ × List Member). IsCalm (listed s)) (sym (taken_so c xs b more))
    (inl (omega arith), calm_over (b.braces - taken b.braces c) b.rest rest.1)

calm_step : (c : ℕ) (xs : List Member) → IsCalm xs → IsCalm (listed (rewritten (c, xs)))
calm_step zero xs h = subst (λ (s : ℕ × List Member). IsCalm (listed s)) (sym (stuck_few zero xs (omega arith))) h
calm_step (suc zero) xs h = subst (λ (s : ℕ × List Member). IsCalm (listed s)) (sym (stuck_few (suc zero) xs (omega arith))) h
calm_step (suc (suc c)) xs h = calm_taken (suc (suc c)) xs (omega arith) (nearest xs) h

calm_again : (f : ℕ) (x : ℕ × List Member) → IsCalm (listed x) → IsCalm (listed (again f rewritten x))
calm_again zero x h = h
calm_again (suc f) x h = calm_again f (rewritten x) (calm_step x.0 x.1 h)

-- a closing run that can take no more has one brace left, or nothing is left to open
stuck_so : (c : ℕ) (xs : List Member) → rewritten (c, xs) ≡ (c, xs) → (c < 2) ⊎ NoRun xs
stuck_so zero xs e = inl (omega arith)
stuck_so (suc zero) xs e = inl (omega arith)
stuck_so (suc (suc c)) xs e = by (nearest xs)
  where
    n : ℕ
    n = suc (suc c)

    by : NoRun xs ⊎ Behind xs → (n < 2) ⊎ NoRun xs
    by (inl free) = inr free
    by (inr b) =
        let t = taking b.braces n b.two (omega arith) in
        let z : n ≡ n - taken b.braces n = ap (λ (s : ℕ × List Member). s.0) (sym e ∙ taken_so n xs b (omega arith)) in
        absurd (omega (arith, z, t.two, t.closing))

calm_closed : (n : ℕ) (xs : List Member) → IsCalm xs → IsCalm (closed_by n xs)
calm_closed n xs h = by (s.0 == 0)
  where
    s : ℕ × List Member
    s = again n rewritten (n, xs)

    by : (t : Bool) → IsCalm ((if t then [] else lexeme (Closes, s.0) ∷ []) ++ s.1)
    by true = calm_again n (n, xs) h
    by false = (stuck_so s.0 s.1 (fixed_by n n xs (omega arith) (lowered n xs)), calm_again n (n, xs) h)

calm_word : (w : Word) (xs : List Member) → IsCalm xs → IsCalm (with_word w xs)
calm_word (Chars, n) xs h = (inl (omega arith), h)
calm_word (CommentLine, n) xs h = (inl (omega arith), h)
calm_word (Comment, n) xs h = (inl (omega arith), h)
calm_word (Raw, n) xs h = (inl (omega arith), h)
calm_word (Include, n) xs h = (inl (omega arith), h)
calm_word (Hidden, n) xs h = (inl (omega arith), h)
calm_word (Entity c, n) xs h = (inl (omega arith), h)
calm_word (Opens, n) xs h = (inl (omega arith), h)
calm_word (Closes, n) xs h = calm_closed n xs h
calm_word (LinkOpen, n) xs h = (inl (omega arith), h)
calm_word (LinkClose, n) xs h = (inl (omega arith), h)
calm_word (Pipe, n) xs h = (inl (omega arith), h)
calm_word (Equals, n) xs h = (inl (omega arith), h)

calm_onto : (ws : List Word) (xs : List Member) → IsCalm xs → IsCalm (reduced_onto xs ws)
calm_onto [] xs h = h
calm_onto (w ∷ ws) xs h = calm_onto ws (with_word w xs) (calm_word w xs h)

pub left_pairs : (ws : List Word) → NonePairs (left_in (reduced ws))
unfolding reduced
left_pairs ws = calm_pairs (reduced_onto [] ws) (calm_onto ws [] tt)

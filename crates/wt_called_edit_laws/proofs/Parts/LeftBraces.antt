-- The braces that two texts side by side have left: those of the one and those of the other, where no two open in the first and close in the second.
use Rattle.std.proofs.Common.{arith, ◌≡◌, ◌⊎◌, inl, inr, ℕ, ◌<◌, ◌+◌, Bool, true, false, Some, List, [], ◌∷◌, ◌++◌, nat_le, refl, sym, ap, ap₂, ◌∙◌, subst, append_assoc}
use Rattle.std.proofs.lemmas.Bool.Decides.{nat_tests}
use Rattle.wt_span.specs.declared.form.LexKind.TheVariants.{Chars, CommentLine, Comment, Raw, Include, Hidden, Entity, Opens, Closes, LinkOpen, LinkClose, Pipe, Equals}
use Rattle.wt_span.specs.Lexemes.{Word}
use Rattle.wt_span.specs.Braces.{Member, lexeme, call, open_left, reduced}
use Rattle.wt_part_laws.specs.Apart.{close_left, NoneOpens, NoneCloses, AreApart, AreMet}
use Rattle.wt_part_laws.proofs.ApartCalls.{reduced_apart, run_cut}
use Rattle.wt_text_edit_laws.specs.NoCalls.{Brace, opening, closing, NoneClose, NonePairs}
use Rattle.wt_text_edit_laws.proofs.Between.BraceWords.{none_pair}
use Rattle.wt_called_edit_laws.specs.Parts.{left_by, left_in}

-- ---- one list of braces behind another

first_none : (x : Brace) (ys : List Brace) → NoneClose (x ∷ ys) → NoneClose ys
first_none opening ys h = h
first_none closing ys h = absurd h

first_pairs : (x : Brace) (ys : List Brace) → NonePairs (x ∷ ys) → NonePairs ys
first_pairs opening ys h = none_pair ys h
first_pairs closing ys h = h

pub pairs_rest : (xs ys : List Brace) → NonePairs (xs ++ ys) → NonePairs ys
pairs_rest [] ys h = h
pairs_rest (x ∷ xs) ys h = pairs_rest xs ys (first_pairs x (xs ++ ys) h)

none_rest : (xs ys : List Brace) → NoneClose (xs ++ ys) → NoneClose ys
none_rest [] ys h = h
none_rest (x ∷ xs) ys h = none_rest xs ys (first_none x (xs ++ ys) h)

-- ---- those of members

left_one : (o c : Bool) (xs ys : List Brace) → left_by o c (xs ++ ys) ≡ left_by o c xs ++ ys
left_one true c xs ys = refl
left_one false true xs ys = refl
left_one false false xs ys = refl

pub left_append : (xs ys : List Member) → left_in (xs ++ ys) ≡ left_in xs ++ left_in ys
left_append [] ys = refl
left_append (x ∷ xs) ys =
    ap (left_by (nat_le 2 (open_left (Some x))) (nat_le 2 (close_left x))) (left_append xs ys)
    ∙ left_one (nat_le 2 (open_left (Some x))) (nat_le 2 (close_left x)) (left_in xs) (left_in ys)

few : (n : ℕ) → nat_le 2 n ≡ false → n < 2
few n e = grind (arith, nat_tests)

-- where none pair, none opens in the first or none closes in the second
opens_or : (x : Member) (xs : List Member) (bs : List Brace) (o c : Bool) → nat_le 2 (open_left (Some x)) ≡ o → NonePairs (left_by o c (left_in xs ++ bs))
    → (NonePairs (left_in xs ++ bs) → NoneOpens xs ⊎ NoneClose bs) → NoneOpens (x ∷ xs) ⊎ NoneClose bs
opens_or x xs bs true c e h go = inr (none_rest (left_in xs) bs h)
opens_or x xs bs false true e h go = elim (go h) [
  | inl f ↦ inl (few (open_left (Some x)) e, f)
  | inr g ↦ inr g
]
opens_or x xs bs false false e h go = elim (go h) [
  | inl f ↦ inl (few (open_left (Some x)) e, f)
  | inr g ↦ inr g
]

none_opens : (xs : List Member) (bs : List Brace) → NonePairs (left_in xs ++ bs) → NoneOpens xs ⊎ NoneClose bs
none_opens [] bs h = inl tt
none_opens (x ∷ xs) bs h =
    let o : Bool = nat_le 2 (open_left (Some x)) in
    let c : Bool = nat_le 2 (close_left x) in
    opens_or x xs bs o c refl (subst NonePairs (sym (left_one o c (left_in xs) bs)) h) (λ g. none_opens xs bs g)

-- what opens doesn't close
open_closed : (x : Member) → nat_le 2 (open_left (Some x)) ≡ true → close_left x < 2
open_closed (lexeme (Chars, n)) h = omega arith
open_closed (lexeme (CommentLine, n)) h = omega arith
open_closed (lexeme (Comment, n)) h = omega arith
open_closed (lexeme (Raw, n)) h = omega arith
open_closed (lexeme (Include, n)) h = omega arith
open_closed (lexeme (Hidden, n)) h = omega arith
open_closed (lexeme (Entity e, n)) h = omega arith
open_closed (lexeme (Opens, n)) h = omega arith
open_closed (lexeme (Closes, n)) h = absurd (cc)
open_closed (lexeme (LinkOpen, n)) h = omega arith
open_closed (lexeme (LinkClose, n)) h = omega arith
open_closed (lexeme (Pipe, n)) h = omega arith
open_closed (lexeme (Equals, n)) h = omega arith
open_closed (call k ms) h = omega arith

closes_by : (x : Member) (xs : List Member) (o c : Bool) → nat_le 2 (open_left (Some x)) ≡ o → nat_le 2 (close_left x) ≡ c → (o ≡ true → close_left x < 2)
    → NoneClose (left_by o c (left_in xs)) → (NoneClose (left_in xs) → NoneCloses xs) → NoneCloses (x ∷ xs)
closes_by x xs true c e f k h go = (k refl, go h)
closes_by x xs false true e f k h go = absurd h
closes_by x xs false false e f k h go = (few (close_left x) f, go h)

none_closes : (xs : List Member) → NoneClose (left_in xs) → NoneCloses xs
none_closes [] h = tt
none_closes (x ∷ xs) h = closes_by x xs (nat_le 2 (open_left (Some x))) (nat_le 2 (close_left x)) refl refl (open_closed x) h (λ g. none_closes xs g)

pub apart_by : (vs ws : List Word) → NonePairs (left_in (reduced vs) ++ left_in (reduced ws)) → AreApart vs ws
apart_by vs ws h = elim (none_opens (reduced vs) (left_in (reduced ws)) h) [
  | inl f ↦ inl f
  | inr g ↦ inr (none_closes (reduced ws) g)
]

-- ---- those of two texts

pub met_left : (vs ws us : List Word) → AreMet vs ws us → AreApart vs ws → left_in (reduced us) ≡ left_in (reduced vs) ++ left_in (reduced ws)
met_left vs ws us (inl e) a = ap (λ (xs : List Word). left_in (reduced xs)) e ∙ ap left_in (reduced_apart vs ws a) ∙ left_append (reduced vs) (reduced ws)
met_left vs ws us (inr m) a =
    let r = run_cut vs ws us a m in
    let before : List Member = reduced m.before in
    let after : List Member = reduced m.after in
    let front : left_in (reduced vs) ≡ left_in before ++ [] = ap left_in r.first_is ∙ left_append before (lexeme (Chars, m.first) ∷ []) in
    let back : left_in (reduced ws) ≡ left_in after = ap left_in r.second_is in
    ap left_in r.both_is ∙ left_append before (lexeme (Chars, m.first + m.second) ∷ after)
    ∙ sym (ap₂ (λ (xs ys : List Brace). xs ++ ys) front back ∙ append_assoc (left_in before) [] (left_in after))

pub left_both : (vs ws us : List Word) → AreMet vs ws us → NonePairs (left_in (reduced vs) ++ left_in (reduced ws))
    → left_in (reduced us) ≡ left_in (reduced vs) ++ left_in (reduced ws)
left_both vs ws us m h = met_left vs ws us m (apart_by vs ws h)

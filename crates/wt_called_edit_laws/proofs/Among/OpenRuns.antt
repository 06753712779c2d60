-- The lexemes of a page that open calls are braces, all their bytes.
use Rattle.std.proofs.Common.{arith, ◌≡◌, ℕ, zero, suc, ◌+◌, ◌-◌, ◌==◌, Bool, true, false, cond, Option, Some, None, List, [], ◌∷◌, ◌++◌, take, drop, nat_lt, refl, sym, ap, ◌∙◌, subst, codes}
use Rattle.std.specs.Prelude.{if◌then◌else◌}
use Rattle.std.specs.Option.{option_or}
use Rattle.std.specs.List.{prefix_len}
use Rattle.std.proofs.lemmas.Bool.Decides.{nat_tests}
use Rattle.std.proofs.lemmas.List.{drop-drop}
use Rattle.std.proofs.Math.Seq.{take-add}
use Rattle.wt_span.specs.declared.form.Mode.TheVariants.{Page}
use Rattle.wt_span.specs.declared.form.LexKind.{LexKind}
use Rattle.wt_span.specs.declared.form.LexKind.TheVariants.{Chars, CommentLine, Comment, Raw, Include, Hidden, Opens, Closes, LinkOpen, LinkClose, Pipe, Equals}
use Rattle.wt_span.specs.Bytes.{is_break, begins}
use Rattle.wt_span.specs.Comments.{comment_len, comment_line_len}
use Rattle.wt_span.specs.Tags.{raw_len, include_at}
use Rattle.wt_span.specs.Entities.{entity_at}
use Rattle.wt_span.specs.Lexemes.{Word, Cut, cuts, closed, words, as_word, run_at, sign_at, sign_word, entity_word, comment_line_word, form_at}
use Rattle.wt_braces.specs.Words.{total_width}
use Rattle.wt_lex.proofs.AllForms.{form_fits}
use Rattle.wt_lex.proofs.Cuts.{cuts_cons}
use Rattle.wt_lex.proofs.WholeTags.{include_kind}

-- ---- braces that open

abbrev pub AllOpening : List ℕ → Type 0
AllOpening [] = Unit {0}
AllOpening (b ∷ bs) = (b ≡ 123) × AllOpening bs

opening_split : (xs ys : List ℕ) → AllOpening (xs ++ ys) → AllOpening xs × AllOpening ys
opening_split [] ys h = (tt, h)
opening_split (x ∷ xs) ys h = let r = opening_split xs ys h.1 in ((h.0, r.0), r.1)

-- so it is of each lexeme that opens calls, where these are a text's
abbrev pub AreOpened : List Word → List ℕ → Type 0
AreOpened [] bs = Unit {0}
AreOpened ((kind, n) ∷ ws) bs = (kind ≡ Opens → AllOpening (take n bs)) × AreOpened ws (drop n bs)

pub drop_none : (bs : List ℕ) → drop 0 bs ≡ bs
drop_none [] = refl
drop_none (b ∷ bs) = refl

pub opened_split : (us vs : List Word) (bs : List ℕ) → AreOpened (us ++ vs) bs → AreOpened us bs × AreOpened vs (drop (total_width us) bs)
opened_split [] vs bs h = (tt, subst (AreOpened vs) (sym (drop_none bs)) h)
opened_split ((kind, n) ∷ us) vs bs h =
    let r = opened_split us vs (drop n bs) h.1 in ((h.0, r.0), subst (AreOpened vs) (drop-drop (total_width us) n bs) r.1)

pub opened_join : (us vs : List Word) (bs : List ℕ) → AreOpened us bs → AreOpened vs (drop (total_width us) bs) → AreOpened (us ++ vs) bs
opened_join [] vs bs h g = subst (AreOpened vs) (drop_none bs) g
opened_join ((kind, n) ∷ us) vs bs h g =
    (h.0, opened_join us vs (drop n bs) h.1 (subst (AreOpened vs) (sym (drop-drop (total_width us) n bs)) g))

-- a run in two
pub run_opened : (kind : LexKind) (n i j : ℕ) (bs : List ℕ) → n ≡ i + j → AreOpened ((kind, n) ∷ []) bs → AreOpened ((kind, i) ∷ (kind, j) ∷ []) bs
run_opened kind n i j bs e h =
    let both : kind ≡ Opens → AllOpening (take i bs) × AllOpening (take j (drop i bs)) = λ o.
    opening_split (take i bs) (take j (drop i bs)) (subst AllOpening (take-add i j bs) (subst (λ (k : ℕ). AllOpening (take k bs)) e (h.0 o))) in
    ((λ o. (both o).0), ((λ o. (both o).1), tt))

-- ---- the lexemes of a text

abbrev run_of : List ℕ → ℕ
run_of bs = prefix_len (λ b. b == 123) bs

run_opening : (bs : List ℕ) → AllOpening (take (run_of bs) bs)
run_opening [] = tt
run_opening (b ∷ bs) = by (b == 123) refl (run_opening bs)
  where
    n : ℕ
    n = run_of bs

    by : (t : Bool) → (b == 123) ≡ t → AllOpening (take n bs) → AllOpening (take (cond t (1 + n) 0) (b ∷ bs))
    by true e h =
        let z : suc n ≡ 1 + n = omega arith in
        let is : b ≡ 123 = grind (arith, nat_tests, e) in
        subst (λ (k : ℕ). AllOpening (take k (b ∷ bs))) z (is, h)
    by false e h = tt

abbrev OptRun : List ℕ → Option Word → Type 0
OptRun bs None = Unit {0}
OptRun bs (Some (kind, n)) = kind ≡ Opens → AllOpening (take n bs)

or_run : (bs : List ℕ) (o p : Option Word) → OptRun bs o → OptRun bs p → OptRun bs (option_or o p)
or_run bs None p f g = g
or_run bs (Some w) p f g = f

if_run : (bs : List ℕ) (t : Bool) (kind : LexKind) (n : ℕ) → (kind ≡ Opens → AllOpening (take n bs)) → OptRun bs (if t then Some (kind, n) else None)
if_run bs true kind n f = f
if_run bs false kind n f = tt

signs_run : (bs : List ℕ) → OptRun bs (sign_word bs)
unfolding sign_word
signs_run bs =
    or_run bs (run_at Opens 123 bs) _ (if_run bs (nat_lt 1 (run_of bs)) Opens (run_of bs) (λ e. run_opening bs))
    (or_run bs (run_at Closes 125 bs) _ (if_run bs (nat_lt 1 (prefix_len (λ b. b == 125) bs)) Closes (prefix_len (λ b. b == 125) bs) (λ e. absurd (cc)))
    (or_run bs (sign_at LinkOpen (codes "[[") 2 bs) _ (if_run bs (begins (codes "[[") bs) LinkOpen 2 (λ e. absurd (cc)))
    (or_run bs (sign_at LinkClose (codes "]]") 2 bs) _ (if_run bs (begins (codes "]]") bs) LinkClose 2 (λ e. absurd (cc)))
    (or_run bs (sign_at Pipe (codes "|") 1 bs) (sign_at Equals (codes "=") 1 bs) (if_run bs (begins (codes "|") bs) Pipe 1 (λ e. absurd (cc)))
    (if_run bs (begins (codes "=") bs) Equals 1 (λ e. absurd (cc)))))))

comment_run : (bs : List ℕ) (o : Option ℕ) → OptRun bs (as_word Comment o)
comment_run bs None = tt
comment_run bs (Some n) = λ e. absurd (cc)

line_run : (bs : List ℕ) (o : Option ℕ) → OptRun bs (as_word CommentLine o)
line_run bs None = tt
line_run bs (Some n) = λ e. absurd (cc)

line_word_run : (after : Bool) (bs : List ℕ) → OptRun bs (comment_line_word after bs)
line_word_run true bs = line_run bs (comment_line_len bs)
line_word_run false bs = tt

raw_run : (bs : List ℕ) (o : Option ℕ) → OptRun bs (as_word Raw o)
raw_run bs None = tt
raw_run bs (Some n) = λ e. absurd (cc)

include_run : (bs : List ℕ) (o : Option Word) → include_at Page bs ≡ o → OptRun bs o
include_run bs None e = tt
include_run bs (Some (Include, n)) e = λ f. absurd (cc)
include_run bs (Some (Hidden, n)) e = λ f. absurd (cc)
include_run bs (Some (kind, n)) e = absurd (include_kind Page bs (kind, n) e)

entity_run : (bs : List ℕ) (o : Option (ℕ × ℕ)) → OptRun bs (entity_word o)
entity_run bs None = tt
entity_run bs (Some x) = λ e. absurd (cc)

all_run : (after : Bool) (bs : List ℕ) → OptRun bs (form_at Page after bs)
unfolding form_at
all_run after bs =
    or_run bs (comment_line_word after bs) _ (line_word_run after bs)
    (or_run bs (as_word Comment (comment_len bs)) _ (comment_run bs (comment_len bs))
    (or_run bs (as_word Raw (raw_len bs)) _ (raw_run bs (raw_len bs))
    (or_run bs (include_at Page bs) _ (include_run bs (include_at Page bs) refl)
    (or_run bs (entity_word (entity_at bs)) (sign_word bs) (entity_run bs (entity_at bs)) (signs_run bs)))))

closed_if : (t : Bool) (n : ℕ) (ws : List Word) (bs : List ℕ) → (n == 0) ≡ t → AreOpened ws (drop n bs) → AreOpened (if t then ws else (Chars, n) ∷ ws) bs
closed_if true n ws bs e h =
    let z : n ≡ 0 = grind (arith, nat_tests, e) in
    subst (AreOpened ws) (drop_none bs) (subst (λ (k : ℕ). AreOpened ws (drop k bs)) z h)
closed_if false n ws bs e h = ((λ f. absurd (cc)), h)

closed_opened : (c : Cut) (bs : List ℕ) → AreOpened c.1 (drop c.0 bs) → AreOpened (closed c.0 c.1) bs
unfolding closed
closed_opened c bs h = closed_if (c.0 == 0) c.0 c.1 bs refl h

cut_opened : (a : Bool) (b : ℕ) (bs : List ℕ) (o : Option Word) → form_at Page a (b ∷ bs) ≡ o → OptRun (b ∷ bs) o
    → ((n : ℕ) → AreOpened (cuts Page (is_break b) n bs).1 (drop (cuts Page (is_break b) n bs).0 (drop n bs)))
    → AreOpened (cuts Page a 0 (b ∷ bs)).1 (drop (cuts Page a 0 (b ∷ bs)).0 (b ∷ bs))
cut_opened a b bs None e r go =
    let c : Cut = cuts Page (is_break b) 0 bs in
    subst (λ (d : Cut). AreOpened d.1 (drop d.0 (b ∷ bs))) (sym (cuts_cons Page a b bs None e))
    (subst (λ (cs : List ℕ). AreOpened c.1 (drop c.0 cs)) (drop_none bs) (go 0))
cut_opened a b bs (Some (kind, zero)) e r go = let fits = form_fits Page a (b ∷ bs) (kind, zero) e in absurd (omega (arith, fits.some))
cut_opened a b bs (Some (kind, suc j)) e r go =
    let z : j ≡ suc j - 1 = omega arith in
    let c : Cut = cuts Page (is_break b) j bs in
    let rest : AreOpened (closed c.0 c.1) (drop j bs) = closed_opened c (drop j bs) (go j) in
    let P : ℕ → Type 0 = λ n. AreOpened (closed (cuts Page (is_break b) n bs).0 (cuts Page (is_break b) n bs).1) (drop j bs) in
    subst (λ (d : Cut). AreOpened d.1 (drop d.0 (b ∷ bs))) (sym (cuts_cons Page a b bs (Some (kind, suc j)) e)) (r, subst P z rest)

cuts_opened : (a : Bool) (n : ℕ) (bs : List ℕ) → AreOpened (cuts Page a n bs).1 (drop (cuts Page a n bs).0 (drop n bs))
cuts_opened a n [] = tt
cuts_opened a (suc n) (b ∷ bs) = cuts_opened (is_break b) n bs
cuts_opened a zero (b ∷ bs) =
    cut_opened a b bs (form_at Page a (b ∷ bs)) refl (all_run a (b ∷ bs)) (λ n. cuts_opened (is_break b) n bs)

pub words_opened : (bs : List ℕ) → AreOpened (words Page bs) bs
unfolding words
words_opened bs =
    let c : Cut = cuts Page false 0 bs in
    closed_opened c bs (subst (λ (cs : List ℕ). AreOpened c.1 (drop c.0 cs)) (drop_none bs) (cuts_opened false 0 bs))

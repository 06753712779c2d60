-- A page in whose items no two braces that open stand before two that close calls nothing.
use Rattle.std.proofs.Common.{arith, ◌≡◌, ℕ, zero, suc, ◌+◌, ◌==◌, Bool, true, false, None, List, [], ◌∷◌, ◌++◌, refl, sym, ap, ◌∙◌, subst}
use Rattle.std.specs.Prelude.{slice_get, if◌then◌else◌}
use Rattle.std.specs.List.{position_or_len}
use Rattle.wt_span.specs.declared.form.Mode.TheVariants.{Page}
use Rattle.wt_span.specs.declared.form.LexKind.TheVariants.{Chars, CommentLine, Comment, Raw, Include, Hidden, Entity, Opens, Closes, LinkOpen, LinkClose, Pipe, Equals}
use Rattle.wt_span.specs.Lexemes.{Word, cuts, words}
use Rattle.wt_span.specs.Braces.{Member, lexeme, call, open_left, has_two, left_over, rewritten, again, closed_by, reduced_onto, reduced}
use Rattle.wt_expand.specs.PageItems.{page_items}
use Rattle.wt_expand.specs.PageCalls.{expanded_page}
use Rattle.wt_expand.specs.Work.{Pages, first_refusal}
use Rattle.wt_expand.specs.Expansion.{page_work}
use Rattle.wt_text_edit_laws.specs.LonePages.{of_items}
use Rattle.wt_text_edit_laws.specs.NoCalls.{CallsNothing}
use Rattle.wt_text_edit_laws.proofs.Texts.TypedText.{AreLexemes, onto_lexemes, reverse_lexemes, lexemes_expanded, lexemes_unrefused}
use Rattle.wt_text_edit_laws.proofs.Between.Fronts.{first_items, first_from}
use Rattle.wt_text_edit_laws.proofs.Between.BraceWords.{CallNothing, calm_closed, pairs_words}

-- ---- closing braces behind none that open

abbrev pub AreUnopened : List Member → Type 0
AreUnopened [] = Unit {0}
AreUnopened (lexeme w ∷ ms) = (has_two (lexeme w) ≡ false) × AreUnopened ms
AreUnopened (call k inside ∷ ms) = ⊥

as_lexemes : (ms : List Member) → AreUnopened ms → AreLexemes ms
as_lexemes [] h = tt
as_lexemes (lexeme w ∷ ms) h = as_lexemes ms h.1
as_lexemes (call k inside ∷ ms) h = absurd h

none_open : (ms : List Member) → AreUnopened ms → open_left (slice_get ms (position_or_len has_two ms)) ≡ 0
none_open [] h = refl
none_open (call k inside ∷ ms) h = absurd h
none_open (lexeme w ∷ ms) h = rw h.0 (by (position_or_len has_two ms) (none_open ms h.1))
  where
    by : (n : ℕ) → open_left (slice_get ms n) ≡ 0 → open_left (slice_get (lexeme w ∷ ms) (1 + n)) ≡ 0
    by n e = let s : 1 + n ≡ suc n = omega arith in ap (λ (k : ℕ). open_left (slice_get (lexeme w ∷ ms) k)) s ∙ e

takes_none : (n : ℕ) (ms : List Member) → AreUnopened ms → rewritten (n, ms) ≡ (n, ms)
unfolding rewritten
takes_none n ms h = rw (none_open ms h) refl

takes_never : (i n : ℕ) (ms : List Member) → AreUnopened ms → again i rewritten (n, ms) ≡ (n, ms)
takes_never zero n ms h = refl
takes_never (suc i) n ms h = ap (again i rewritten) (takes_none n ms h) ∙ takes_never i n ms h

pub closes_nothing : (n : ℕ) (ms : List Member) → AreUnopened ms → closed_by n ms ≡ left_over Closes n ++ ms
closes_nothing n ms h = ap (λ (s : ℕ × List Member). left_over Closes s.0 ++ s.1) (takes_never n n ms h)

pub left_unopened : (t : Bool) (n : ℕ) (ms : List Member) → AreUnopened ms → AreUnopened ((if t then [] else lexeme (Closes, n) ∷ []) ++ ms)
left_unopened true n ms h = h
left_unopened false n ms h = (refl, h)

onto_unopened : (ws : List Word) (before : List Member) → CallNothing ws → AreUnopened before → AreLexemes (reduced_onto before ws)
onto_unopened [] before h l = as_lexemes before l
onto_unopened ((Chars, n) ∷ ws) before h l = onto_unopened ws (lexeme (Chars, n) ∷ before) h (refl, l)
onto_unopened ((CommentLine, n) ∷ ws) before h l = onto_unopened ws (lexeme (CommentLine, n) ∷ before) h (refl, l)
onto_unopened ((Comment, n) ∷ ws) before h l = onto_unopened ws (lexeme (Comment, n) ∷ before) h (refl, l)
onto_unopened ((Raw, n) ∷ ws) before h l = onto_unopened ws (lexeme (Raw, n) ∷ before) h (refl, l)
onto_unopened ((Include, n) ∷ ws) before h l = onto_unopened ws (lexeme (Include, n) ∷ before) h (refl, l)
onto_unopened ((Hidden, n) ∷ ws) before h l = onto_unopened ws (lexeme (Hidden, n) ∷ before) h (refl, l)
onto_unopened ((Entity c, n) ∷ ws) before h l = onto_unopened ws (lexeme (Entity c, n) ∷ before) h (refl, l)
onto_unopened ((Opens, n) ∷ ws) before h l = onto_lexemes ws (lexeme (Opens, n) ∷ before) h (as_lexemes before l)
onto_unopened ((Closes, n) ∷ ws) before h l =
    subst (λ (ms : List Member). AreLexemes (reduced_onto ms ws)) (sym (closes_nothing n before l))
    (onto_unopened ws (left_over Closes n ++ before) h (left_unopened (n == 0) n before l))
onto_unopened ((LinkOpen, n) ∷ ws) before h l = onto_unopened ws (lexeme (LinkOpen, n) ∷ before) h (refl, l)
onto_unopened ((LinkClose, n) ∷ ws) before h l = onto_unopened ws (lexeme (LinkClose, n) ∷ before) h (refl, l)
onto_unopened ((Pipe, n) ∷ ws) before h l = onto_unopened ws (lexeme (Pipe, n) ∷ before) h (refl, l)
onto_unopened ((Equals, n) ∷ ws) before h l = onto_unopened ws (lexeme (Equals, n) ∷ before) h (refl, l)

-- ---- so the page calls nothing

pub calm_words : (bs : List ℕ) → CallsNothing (page_items bs) → CallNothing (words Page bs)
unfolding words
calm_words bs h =
    calm_closed (cuts Page false 0 bs) (pairs_words false 0 bs (subst CallsNothing (first_items bs ∙ sym (first_from false bs)) h))

pub calm_reduced : (bs : List ℕ) → CallsNothing (page_items bs) → AreLexemes (reduced (words Page bs))
unfolding reduced
calm_reduced bs h = reverse_lexemes (reduced_onto [] (words Page bs)) (onto_unopened (words Page bs) [] (calm_words bs h) tt)

pub calm_expanded : (pages : Pages) (bs : List ℕ) → CallsNothing (page_items bs) → expanded_page pages bs ≡ of_items (page_items bs)
calm_expanded pages bs h = lexemes_expanded pages bs (calm_reduced bs h)

pub calm_unrefused : (pages : Pages) (bs : List ℕ) → CallsNothing (page_items bs) → first_refusal pages bs (page_work pages bs) ≡ None
calm_unrefused pages bs h = lexemes_unrefused pages bs (calm_reduced bs h)

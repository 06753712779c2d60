-- Parts of a page in which what begins ends are read the same before what is read behind them.
use Rattle.std.proofs.Common.{arith, ◌≡◌, ℕ, zero, suc, ◌-◌, ◌≤◌, Bool, false, Option, Some, None, List, [], ◌∷◌, ◌++◌, length, take, drop, refl, sym, ap, ◌∙◌, subst, append_assoc}
use Rattle.std.proofs.lemmas.List.{take-append-le}
use Rattle.wt_span.specs.declared.form.Mode.TheVariants.{Page}
use Rattle.wt_span.specs.declared.form.LexKind.{LexKind}
use Rattle.wt_span.specs.Bytes.{is_break}
use Rattle.wt_span.specs.Items.{Item, char}
use Rattle.wt_span.specs.Lexemes.{Word, Cut, cuts, closed, words, form_at}
use Rattle.wt_lex.proofs.AllForms.{form_fits}
use Rattle.wt_lex.proofs.Cuts.{cuts_cons}
use Rattle.wt_expand.specs.PageItems.{items_of_word, page_items}
use Rattle.wt_part_laws.specs.Lexer.{lexer}
use Rattle.wt_part_laws.specs.Scans.{after_all, skipped_by, Settles}
use Rattle.wt_text_edit_laws.proofs.Texts.TypedItems.{items_cut, closed_items}
use Rattle.wt_text_edit_laws.proofs.Prose.Uncommented.{BeginsUncommented, either_flag}
use Rattle.wt_text_edit_laws.proofs.Prose.InFront.{Reads}
use Rattle.wt_text_edit_laws.specs.TextBetween.{AreWholeLines, AreEnded, HasEndsBefore, BeginsShown, StandsBehind}
use Rattle.wt_text_edit_laws.proofs.Between.LineForms.{lines_settle, marks_settle}

-- ---- what is read from a place on, where it is known whether a line break stands before it

pub record ReadsAfter (after : Bool) (bs : List ℕ) (xs : List Item) : Type 0 where
  pub items : items_cut bs (cuts Page after 0 bs) ≡ xs

pub reads_after : (after : Bool) (bs : List ℕ) (xs : List Item) → Reads bs xs → ReadsAfter after bs xs
reads_after after bs xs r = record { items = r.items after }

pub first_items : (bs : List ℕ) → page_items bs ≡ items_cut bs (cuts Page false 0 bs)
unfolding page_items words
first_items bs = closed_items bs (cuts Page false 0 bs)

-- a page that is read so
pub page_read : (bs : List ℕ) (xs : List Item) → ReadsAfter false bs xs → page_items bs ≡ xs
page_read bs xs r = first_items bs ∙ r.items

-- where no comment begins it, it makes no difference whether a line break stands before
either_cuts : (after : Bool) (bs : List ℕ) → BeginsUncommented bs → cuts Page after 0 bs ≡ cuts Page false 0 bs
either_cuts after [] u = refl
either_cuts after (b ∷ bs) u =
    cuts_cons Page after b bs (form_at Page false (b ∷ bs)) (either_flag Page after (b ∷ bs) u)
    ∙ sym (cuts_cons Page false b bs (form_at Page false (b ∷ bs)) refl)

pub reads_either : (bs : List ℕ) (xs : List Item) → BeginsUncommented bs → ReadsAfter false bs xs → Reads bs xs
reads_either bs xs u r = record {
  items = λ after. ap (items_cut bs) (either_cuts after bs u) ∙ r.items;
  begins = u;
}

-- ---- a front that settles, before what is read behind it

none_dropped : (q : List ℕ) → drop 0 q ≡ q
none_dropped [] = refl
none_dropped (b ∷ q) = refl

-- what is read from a place on, of which so many bytes lie in a lexeme
abbrev pub items_from : Bool → ℕ → List ℕ → List Item
items_from a n bs = items_cut (drop n bs) (cuts Page a n bs)

pub first_from : (a : Bool) (bs : List ℕ) → items_from a 0 bs ≡ items_cut bs (cuts Page a 0 bs)
first_from a bs = ap (λ ys. items_cut ys (cuts Page a 0 bs)) (none_dropped bs)

-- one character, and one form, before what is read behind it
pub byte_from : (a : Bool) (b : ℕ) (bs : List ℕ) → form_at Page a (b ∷ bs) ≡ None → items_from a 0 (b ∷ bs) ≡ char None b ∷ items_from (is_break b) 0 bs
byte_from a b bs f =
    ap (items_cut (b ∷ bs)) (cuts_cons Page a b bs None f) ∙ ap (λ ys. char None b ∷ ys) (sym (first_from (is_break b) bs))

pub form_from : (a : Bool) (b : ℕ) (bs : List ℕ) (kind : LexKind) (j : ℕ) → form_at Page a (b ∷ bs) ≡ Some (kind, suc j)
    → items_from a 0 (b ∷ bs) ≡ items_of_word kind (b ∷ take j bs) ++ items_from (is_break b) j bs
form_from a b bs kind j f =
    let z : suc j - 1 ≡ j = omega arith in
    ap (items_cut (b ∷ bs)) (cuts_cons Page a b bs (Some (kind, suc j)) f)
    ∙ ap (λ (n : ℕ). items_cut (b ∷ bs) (0, (kind, suc j) ∷ closed (cuts Page (is_break b) n bs).0 (cuts Page (is_break b) n bs).1)) z
    ∙ ap (λ ys. items_of_word kind (b ∷ take j bs) ++ ys) (closed_items (drop j bs) (cuts Page (is_break b) j bs))

pub words_by : (a : Bool) (b : ℕ) (bs : List ℕ) → form_at Page a (b ∷ bs) ≡ None → (cuts Page a 0 (b ∷ bs)).1 ≡ (cuts Page (is_break b) 0 bs).1
words_by a b bs f = ap (λ (c : Cut). c.1) (cuts_cons Page a b bs None f)

pub words_from : (a : Bool) (b : ℕ) (bs : List ℕ) (kind : LexKind) (j : ℕ) → form_at Page a (b ∷ bs) ≡ Some (kind, suc j)
    → (cuts Page a 0 (b ∷ bs)).1 ≡ (kind, suc j) ∷ closed (cuts Page (is_break b) j bs).0 (cuts Page (is_break b) j bs).1
words_from a b bs kind j f =
    let z : suc j - 1 ≡ j = omega arith in
    ap (λ (c : Cut). c.1) (cuts_cons Page a b bs (Some (kind, suc j)) f)
    ∙ ap (λ (n : ℕ). (kind, suc j) ∷ closed (cuts Page (is_break b) n bs).0 (cuts Page (is_break b) n bs).1) z

-- what is read of both, in one
record Joined (a : Bool) (n : ℕ) (q rest : List ℕ) (xs : List Item) : Type 0 where
  items : items_from a n (q ++ rest) ≡ items_from a n q ++ xs

joined_byte : (a : Bool) (b : ℕ) (q rest : List ℕ) (xs : List Item) → form_at Page a (b ∷ (q ++ rest)) ≡ None → form_at Page a (b ∷ q) ≡ None
    → Joined (is_break b) 0 q rest xs → Joined a 0 (b ∷ q) rest xs
joined_byte a b q rest xs e f j = record {
  items = byte_from a b (q ++ rest) e ∙ ap (λ ys. char None b ∷ ys) j.items ∙ sym (ap (λ ys. ys ++ xs) (byte_from a b q f));
}

joined_form : (a : Bool) (b : ℕ) (q rest : List ℕ) (xs : List Item) (kind : LexKind) (k : ℕ) → form_at Page a (b ∷ (q ++ rest)) ≡ Some (kind, suc k)
    → form_at Page a (b ∷ q) ≡ Some (kind, suc k) → k ≤ length q → Joined (is_break b) k q rest xs → Joined a 0 (b ∷ q) rest xs
joined_form a b q rest xs kind k e f le j =
    let own : List Item = items_of_word kind (b ∷ take k q) in
    record {
      items = form_from a b (q ++ rest) kind k e
          ∙ ap (λ ys. items_of_word kind (b ∷ ys) ++ items_from (is_break b) k (q ++ rest)) (take-append-le k q rest le)
          ∙ ap (λ ys. own ++ ys) j.items
          ∙ sym (append_assoc own (items_from (is_break b) k q) xs)
          ∙ sym (ap (λ ys. ys ++ xs) (form_from a b q kind k f));
    }

joined_by : (a : Bool) (b : ℕ) (q rest : List ℕ) (xs : List Item) (o : Option Word) → form_at Page a (b ∷ (q ++ rest)) ≡ o → form_at Page a (b ∷ q) ≡ o
    → ((k : ℕ) → skipped_by (lexer Page) o ≡ k → Joined (is_break b) k q rest xs) → Joined a 0 (b ∷ q) rest xs
joined_by a b q rest xs None e f go = joined_byte a b q rest xs e f (go 0 refl)
joined_by a b q rest xs (Some (kind, zero)) e f go = let fits = form_fits Page a (b ∷ q) (kind, zero) f in absurd (omega (arith, fits.some))
joined_by a b q rest xs (Some (kind, suc k)) e f go =
    let fits = form_fits Page a (b ∷ q) (kind, suc k) f in
    joined_form a b q rest xs kind k e f (omega (arith, fits.within)) (go k (omega arith))

joined : (rest : List ℕ) (xs : List Item) (a : Bool) (n : ℕ) (q : List ℕ) → Settles (lexer Page) rest a n q
    → ReadsAfter (after_all (lexer Page) a q) rest xs → Joined a n q rest xs
joined rest xs a (suc n) [] h r = absurd (omega (arith, h))
joined rest xs a zero [] h r = record { items = first_from a rest ∙ r.items }
joined rest xs a (suc n) (b ∷ q) h r = let j = joined rest xs (is_break b) n q h r in record { items = j.items }
joined rest xs a zero (b ∷ q) h r =
    joined_by a b q rest xs (form_at Page a (b ∷ q)) h.0 refl
    (λ k is. joined rest xs (is_break b) k q (subst (λ (i : ℕ). Settles (lexer Page) rest (is_break b) i q) is h.1) r)

-- ---- what stands before, and what stands behind

pub front_reads : (bs rest : List ℕ) (xs : List Item) → Settles (lexer Page) rest false 0 bs
    → ReadsAfter (after_all (lexer Page) false bs) rest xs → ReadsAfter false (bs ++ rest) (page_items bs ++ xs)
front_reads bs rest xs s r =
    let j = joined rest xs false 0 bs s r in
    let items : items_from false 0 (bs ++ rest) ≡ items_from false 0 bs ++ xs = j.items in
    record { items = sym (first_from false (bs ++ rest)) ∙ items ∙ ap (λ ys. ys ++ xs) (first_from false bs ∙ sym (first_items bs)) }

pub before_reads : (bs rest : List ℕ) (xs : List Item) → AreEnded bs → HasEndsBefore rest bs → BeginsShown rest → ReadsAfter (after_all (lexer Page) false bs) rest xs
    → ReadsAfter false (bs ++ rest) (page_items bs ++ xs)
before_reads bs rest xs l h s r = front_reads bs rest xs (marks_settle rest false 0 bs s l h) r

-- behind lines, whatever follows them
pub lines_read : (bs rest : List ℕ) (xs : List Item) → AreWholeLines bs → HasEndsBefore rest bs → ReadsAfter (after_all (lexer Page) false bs) rest xs
    → ReadsAfter false (bs ++ rest) (page_items bs ++ xs)
lines_read bs rest xs l h r = front_reads bs rest xs (lines_settle rest false 0 bs l h) r

-- by itself
pub alone_reads : (bs : List ℕ) → ReadsAfter false bs (page_items bs)
alone_reads bs = record { items = sym (first_items bs) }

pub behind_reads : (bs : List ℕ) → StandsBehind bs → Reads bs (page_items bs)
behind_reads bs h = reads_either bs (page_items bs) (record { is = h.uncommented }) (alone_reads bs)

-- What is spelled of a text reads the same in front of whatever is read behind it: its items stand first.
use Rattle.std.proofs.Common.{arith, ◌≡◌, ℕ, suc, ◌≤◌, ◌==◌, Bool, true, false, List, [], ◌∷◌, ◌++◌, length, map, refl, sym, ap, ◌∙◌, subst, append-nil, append_assoc, Some, None, inl, inr, All}
use Rattle.std.specs.Prelude.{◌||◌, codes, encode_utf8}
use Rattle.std.specs.Fmt.{digits}
use Rattle.std.specs.Str.{chars}
use Rattle.std.proofs.lemmas.Bool.{cases_lt}
use Rattle.std.proofs.lemmas.List.Elements.{All-head, All-tail}
use Rattle.std.proofs.lemmas.Str.{encode_ascii}
use Rattle.wt_span.specs.declared.form.Mode.TheVariants.{Page}
use Rattle.wt_span.specs.declared.form.LexKind.{LexKind}
use Rattle.wt_span.specs.declared.form.LexKind.TheVariants.{Raw, Entity, Equals}
use Rattle.wt_span.specs.declared.form.ItemForm.TheVariants as form
use Rattle.wt_span.specs.Comments.{comment_len}
use Rattle.wt_span.specs.Tags.{opening_tag, tag_after}
use Rattle.wt_span.specs.Items.{Item, char, whole}
use Rattle.wt_span.specs.Lexemes.{form_at}
use Rattle.wt_names.proofs.Ascii.{IsWide, encode_wide}
use Rattle.wt_guards.specs.Content.{ContentSign, letter, letters}
use Rattle.wt_guards.specs.Letters.{is_bracket, is_escaped, reference, written_by}
use Rattle.wt_guards.specs.Guards.{Setting, nowiki, nowiki_if, is_guarded, spelled_from, spelled}
use Rattle.wt_guards.proofs.Escapes.{is_escapable, escapable, each_escapable}
use Rattle.wt_expand.specs.PageItems.{items_of_word, page_items}
use Rattle.wt_typed_blocks.proofs.Forms.{comment_other, comment_not, other_byte, equals_byte, IsTame, less_byte, and_byte, nowiki_form, reference_form}
use Rattle.wt_typed_blocks.proofs.TextReads.{begin_next, bracket_escaped, not_bracket, equal_or, apart}
use Rattle.wt_text_edit_laws.proofs.Texts.TypedItems.{ItemsOf, items_byte, items_form, references, wide_form, wide_tame, tame_if, IsMild, wide_mild, mild_if, no_form_byte, after_it, items_are}
use Rattle.wt_text_edit_laws.specs.NoCalls.{is_brace, AreUnbraced}
use Rattle.wt_text_edit_laws.proofs.Between.LineWords.{lacks}
use Rattle.wt_text_edit_laws.proofs.Between.ClosingTags.{Unclosed, ClosesNothing, unclosed_byte, unclosed_untagged, not_less, not_slash}
use Rattle.wt_text_edit_laws.proofs.Prose.Uncommented.{BeginsUncommented, uncommented_byte, uncommented_other, either_flag}

-- ---- what a text reads as, whether a line break stands before it or not

pub record Reads (bs : List ℕ) (xs : List Item) : Type 0 where
  pub items : ItemsOf bs xs
  pub begins : BeginsUncommented bs

pub reads_nothing : Reads [] []
reads_nothing = record { items = λ after. refl; begins = record { is = refl } }

pub reads_byte : (b : ℕ) (bs : List ℕ) (xs : List Item) → form_at Page false (b ∷ bs) ≡ None → comment_len (b ∷ bs) ≡ None → Reads bs xs
    → Reads (b ∷ bs) (char None b ∷ xs)
reads_byte b bs xs f c r =
    let begins : BeginsUncommented (b ∷ bs) = uncommented_byte b bs c r.begins in
    let no = λ (after : Bool). either_flag Page after (b ∷ bs) begins ∙ f in
    record { items = items_byte b bs xs no r.items; begins = begins }

pub reads_form : (kind : LexKind) (b : ℕ) (q rest : List ℕ) (xs : List Item)
    → form_at Page false (b ∷ (q ++ rest)) ≡ Some (kind, suc (length q)) → BeginsUncommented (b ∷ (q ++ rest)) → Reads rest xs
    → Reads (b ∷ (q ++ rest)) (items_of_word kind (b ∷ q) ++ xs)
reads_form kind b q rest xs f c r =
    let at = λ (after : Bool). either_flag Page after (b ∷ (q ++ rest)) c ∙ f in
    record { items = items_form kind b q rest xs at r.items; begins = c }

-- ---- no braces

both_false : (a b : Bool) → a ≡ false → b ≡ false → (a || b) ≡ false
both_false true b e f = e
both_false false b e f = f

wide_other : (b k : ℕ) → 128 ≤ b → k ≤ 127 → (b == k) ≡ false
wide_other b k w le = elim (equal_or b k) [
  | inl i ↦ absurd (omega (arith, i, w, le))
  | inr n ↦ n
]

wide_unbraced : (b : ℕ) → 128 ≤ b → is_brace b ≡ false
wide_unbraced b w = both_false (b == 123) (b == 125) (wide_other b 123 w (omega arith)) (wide_other b 125 w (omega arith))

brackets_none : (a b c d e f : Bool) → (a || (b || (c || (d || (e || f))))) ≡ false → (c || d) ≡ false
brackets_none false false false false e f h = refl
brackets_none false false false true e f h = absurd (cc)
brackets_none false false true d e f h = absurd (cc)
brackets_none false true c d e f h = absurd (cc)
brackets_none true b c d e f h = absurd (cc)

bracket_unbraced : (c : ℕ) → is_bracket c ≡ false → is_brace c ≡ false
bracket_unbraced c h = brackets_none (c == 91) (c == 93) (c == 123) (c == 125) (c == 124) (c == 62) h

-- ---- what stands in front

pub record InFront (q : List ℕ) : Type 0 where
  pub items : List Item
  pub unbraced : AreUnbraced items
  pub unclosed : (name rest : List ℕ) → Unclosed name rest → Unclosed name (q ++ rest)
  pub reads : (rest : List ℕ) (xs : List Item) → Reads rest xs → Reads (q ++ rest) (items ++ xs)

pub front_nothing : InFront []
front_nothing = record { items = []; unbraced = tt; unclosed = λ name rest h. h; reads = λ rest xs r. r }

pub front_byte : (b : ℕ) (q : List ℕ) → is_brace b ≡ false → ((rest : List ℕ) → ClosesNothing (b ∷ (q ++ rest)))
    → ((rest : List ℕ) → form_at Page false (b ∷ (q ++ rest)) ≡ None)
    → ((rest : List ℕ) → comment_len (b ∷ (q ++ rest)) ≡ None) → InFront q → InFront (b ∷ q)
front_byte b q u n f c g = record {
  items = char None b ∷ g.items;
  unbraced = (u, g.unbraced);
  unclosed = λ name rest h. unclosed_byte name b (q ++ rest) (n rest) (g.unclosed name rest h);
  reads = λ rest xs r. reads_byte b (q ++ rest) (g.items ++ xs) (f rest) (c rest) (g.reads rest xs r);
}

-- ---- what is put

front_nowiki : (q : List ℕ) → InFront q → InFront (nowiki ++ q)
unfolding nowiki comment_len opening_tag tag_after
front_nowiki q g = record {
  items = whole form.Nowiki None nowiki ∷ g.items;
  unbraced = g.unbraced;
  unclosed = λ name rest h. unclosed_byte name 60 (codes "nowiki/>" ++ (q ++ rest)) (not_slash 110 (codes "owiki/>" ++ (q ++ rest)) (omega arith))
      (unclosed_untagged name (codes "nowiki/>") (q ++ rest) refl (g.unclosed name rest h));
  reads = λ rest xs r. let h = g.reads rest xs r in reads_form Raw 60 (codes "nowiki/>") (q ++ rest) (g.items ++ xs) (nowiki_form Page (q ++ rest))
      (uncommented_other 60 (codes "nowiki/>" ++ (q ++ rest)) refl refl) h;
}

front_guard : (guarded : Bool) (q : List ℕ) → InFront q → InFront (nowiki_if guarded ++ q)
front_guard true q g = front_nowiki q g
front_guard false q g = g

reference_untagged : (c : ℕ) → is_escapable c ≡ true → lacks (λ b. b == 60) (reference c) ≡ true
unfolding reference digits
reference_untagged c e = each_escapable (λ k. lacks (λ b. b == 60) (reference k) ≡ true) refl refl refl refl refl refl refl refl refl refl refl refl refl c e

front_reference : (c : ℕ) (q : List ℕ) → is_escapable c ≡ true → InFront q → InFront (reference c ++ q)
front_reference c q e g =
    let r = references c e in
    let f : (rest : List ℕ) → form_at Page false (38 ∷ (r.others ++ rest)) ≡ Some (Entity c, suc (length r.others)) =
    λ rest. ap (λ bs. form_at Page false (bs ++ rest)) (sym r.is) ∙ reference_form Page rest c e ∙ ap (λ bs. Some (Entity c, length bs)) r.is in
    let own : List ℕ = 38 ∷ r.others in
    let plain : lacks (λ b. b == 60) own ≡ true = subst (λ bs. lacks (λ b. b == 60) bs ≡ true) r.is (reference_untagged c e) in
    subst (λ bs. InFront (bs ++ q)) (sym r.is) (record {
      items = whole (form.Entity c) None own ∷ g.items;
      unbraced = g.unbraced;
      unclosed = λ name rest h. subst (Unclosed name) (sym (append_assoc own q rest)) (unclosed_untagged name own (q ++ rest) plain (g.unclosed name rest h));
      reads = λ rest xs k. let h = g.reads rest xs k in
          subst (λ bs. Reads bs (whole (form.Entity c) None own ∷ (g.items ++ xs))) (sym (append_assoc own q rest))
          (reads_form (Entity c) 38 r.others (q ++ rest) (g.items ++ xs) (f (q ++ rest))
          (uncommented_other 38 (r.others ++ (q ++ rest)) refl (comment_other 38 (r.others ++ (q ++ rest)) (omega arith))) h);
    })

-- ---- characters as they are

front_wide : (bs q : List ℕ) → All IsWide bs → InFront q → InFront (bs ++ q)
front_wide [] q h g = g
front_wide (b ∷ bs) q h g =
    let w : 128 ≤ b = All-head IsWide b bs h in
    front_byte b (bs ++ q) (wide_unbraced b w) (λ rest. not_less b ((bs ++ q) ++ rest) (omega (arith, w))) (λ rest. other_byte Page b ((bs ++ q) ++ rest) (wide_form b w)) (λ rest. comment_other b ((bs ++ q) ++ rest) (omega (arith, w)))
    (front_wide bs q (All-tail IsWide b bs h) g)

front_less : (s : Setting) (before : List ContentSign) (cs : List ℕ) → is_escaped s.within s.place before 60 (map letter cs) ≡ false
    → InFront (after_it s 60 before cs) → InFront (60 ∷ after_it s 60 before cs)
unfolding is_escaped
front_less s before [] e g = cc
front_less s before (d ∷ ds) e g =
    let n = begin_next IsTame s 60 d before ds refl refl (refl, omega arith, omega arith) (λ h. tame_if d e) wide_tame in
    front_byte 60 (after_it s 60 before (d ∷ ds)) refl
    (λ rest. subst (λ bs. ClosesNothing (60 ∷ (bs ++ rest))) (sym n.is) (not_slash n.first (n.others ++ rest) n.fits.2))
    (λ rest. ap (λ bs. form_at Page false (60 ∷ (bs ++ rest))) n.is ∙ less_byte Page n.first (n.others ++ rest) n.fits)
    (λ rest. ap (λ bs. comment_len (60 ∷ (bs ++ rest))) n.is ∙ comment_not n.first (n.others ++ rest) n.fits.1) g

front_and : (s : Setting) (before : List ContentSign) (cs : List ℕ) → is_escaped s.within s.place before 38 (map letter cs) ≡ false
    → InFront (after_it s 38 before cs) → InFront (38 ∷ after_it s 38 before cs)
unfolding is_escaped
front_and s before [] e g = cc
front_and s before (d ∷ ds) e g =
    let n = begin_next IsMild s 38 d before ds refl refl (refl, omega arith) (λ h. mild_if d e) wide_mild in
    front_byte 38 (after_it s 38 before (d ∷ ds)) refl
    (λ rest. not_less 38 (after_it s 38 before (d ∷ ds) ++ rest) (omega arith))
    (λ rest. ap (λ bs. form_at Page false (38 ∷ (bs ++ rest))) n.is ∙ and_byte Page n.first (n.others ++ rest) n.fits.0 n.fits.1)
    (λ rest. comment_other 38 (after_it s 38 before (d ∷ ds) ++ rest) (omega arith)) g

front_equals : (q : List ℕ) → InFront q → InFront (61 ∷ q)
front_equals q g = record {
  items = char None 61 ∷ g.items;
  unbraced = (refl, g.unbraced);
  unclosed = λ name rest h. unclosed_byte name 61 (q ++ rest) (not_less 61 (q ++ rest) (omega arith)) (g.unclosed name rest h);
  reads = λ rest xs r. let h = g.reads rest xs r in
      reads_form Equals 61 [] (q ++ rest) (g.items ++ xs) (equals_byte Page (q ++ rest))
      (uncommented_other 61 (q ++ rest) refl (comment_other 61 (q ++ rest) (omega arith))) h;
}

front_other : (c : ℕ) (q : List ℕ) → is_bracket c ≡ false → (c == 60) ≡ false → (c == 38) ≡ false → (c == 61) ≡ false → InFront q → InFront (c ∷ q)
front_other c q b l a e g =
    front_byte c q (bracket_unbraced c b) (λ rest. not_less c (q ++ rest) (apart c 60 l)) (λ rest. other_byte Page c (q ++ rest) (no_form_byte c b l a e)) (λ rest. comment_other c (q ++ rest) (apart c 60 l)) g

front_small : (s : Setting) (before : List ContentSign) (c : ℕ) (cs : List ℕ) → is_escaped s.within s.place before c (map letter cs) ≡ false
    → InFront (after_it s c before cs) → InFront (c ∷ after_it s c before cs)
front_small s before c cs e g =
    let P : ℕ → Type 0 = λ k. is_escaped s.within s.place before k (map letter cs) ≡ false → InFront (after_it s k before cs) → InFront (k ∷ after_it s k before cs) in
    let b = not_bracket (is_bracket c) (is_escaped s.within s.place before c (map letter cs)) (bracket_escaped s.within s.place before c (map letter cs)) e in
    elim (equal_or c 60) [
      | inl i ↦ subst P (sym i) (front_less s before cs) e g
      | inr l ↦ elim (equal_or c 38) [
        | inl i ↦ subst P (sym i) (front_and s before cs) e g
        | inr a ↦ elim (equal_or c 61) [
          | inl i ↦ subst P (sym i) (λ h k. front_equals (after_it s 61 before cs) k) e g
          | inr q ↦ front_other c (after_it s c before cs) b l a q g
        ]
      ]
    ]

front_plain : (s : Setting) (before : List ContentSign) (c : ℕ) (cs : List ℕ) → is_escaped s.within s.place before c (map letter cs) ≡ false
    → InFront (after_it s c before cs) → InFront (encode_utf8 c ++ after_it s c before cs)
front_plain s before c cs e g = elim (cases_lt c 128) [
  | inl small ↦ subst (λ bs. InFront (bs ++ after_it s c before cs)) (sym (encode_ascii c small)) (front_small s before c cs e g)
  | inr wide ↦ front_wide (encode_utf8 c) (after_it s c before cs) (encode_wide c wide) g
]

front_letter : (s : Setting) (before : List ContentSign) (c : ℕ) (cs : List ℕ) (e : Bool) → is_escaped s.within s.place before c (map letter cs) ≡ e
    → InFront (after_it s c before cs) → InFront (written_by e c ++ after_it s c before cs)
front_letter s before c cs true h g = front_reference c (after_it s c before cs) (escapable s.within s.place before c (map letter cs) h) g
front_letter s before c cs false h g = front_plain s before c cs h g

-- ---- all

front_from : (s : Setting) (before : List ContentSign) (cs : List ℕ) → InFront (spelled_from s before (map letter cs))
front_from s before [] = subst InFront (append-nil (nowiki_if (is_guarded s before []))) (front_guard (is_guarded s before []) [] front_nothing)
front_from s before (c ∷ cs) =
    let after = map letter cs in
    let e = is_escaped s.within s.place before c after in
    front_guard (is_guarded s before (letter c ∷ after)) (written_by e c ++ after_it s c before cs)
    (front_letter s before c cs e refl (front_from s (letter c ∷ before) cs))

-- what is read of it alone
pub its_items : (q : List ℕ) (g : InFront q) → page_items q ≡ g.items
its_items q g =
    let r : Reads (q ++ []) (g.items ++ []) = g.reads [] [] reads_nothing in
    ap page_items (sym (append-nil q)) ∙ items_are (q ++ []) (g.items ++ []) r.items ∙ append-nil g.items

-- typed text has no braces
pub spelled_unbraced : (s : Setting) (text : List ℕ) → AreUnbraced (page_items (spelled s (letters text)))
spelled_unbraced s text =
    let g : InFront (spelled s (letters text)) = front_from s [] (chars text) in
    subst AreUnbraced (sym (its_items (spelled s (letters text)) g)) g.unbraced

-- and closes no tag
pub spelled_unclosed : (s : Setting) (text name rest : List ℕ) → Unclosed name rest → Unclosed name (spelled s (letters text) ++ rest)
spelled_unclosed s text name rest h =
    let g : InFront (spelled s (letters text)) = front_from s [] (chars text) in
    g.unclosed name rest h

pub typed_front : (s : Setting) (text rest : List ℕ) (xs : List Item) → Reads rest xs
    → Reads (spelled s (letters text) ++ rest) (page_items (spelled s (letters text)) ++ xs)
typed_front s text rest xs r =
    let g : InFront (spelled s (letters text)) = front_from s [] (chars text) in
    subst (λ ys. Reads (spelled s (letters text) ++ rest) (ys ++ xs)) (sym (its_items (spelled s (letters text)) g)) (g.reads rest xs r)

-- ---- line breaks

pub read_break : (bs : List ℕ) (xs : List Item) → Reads bs xs → Reads (10 ∷ bs) (char None 10 ∷ xs)
read_break bs xs r = reads_byte 10 bs xs (other_byte Page 10 bs refl) (comment_other 10 bs (omega arith)) r

-- ---- a page that is read so

pub read_items : (bs : List ℕ) (xs : List Item) → Reads bs xs → page_items bs ≡ xs
read_items bs xs r = items_are bs xs r.items

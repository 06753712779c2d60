-- A content of text that is typed and nodes that stay is read as its signs, one after the other, and the nowikis that are put.
use Rattle.std.proofs.Common.{arith, ◌≡◌, ℕ, suc, ◌<◌, ◌≤◌, ◌==◌, Bool, true, false, Some, None, List, [], ◌∷◌, ◌++◌, length, refl, sym, ap, ◌∙◌, subst, inl, inr, All}
use Rattle.std.specs.Prelude.{codes, encode_utf8}
use Rattle.std.proofs.lemmas.Bool.{cases_lt}
use Rattle.std.proofs.lemmas.List.Elements.{All-head, All-tail}
use Rattle.std.proofs.lemmas.Str.{encode_ascii}
use Rattle.wt_span.specs.declared.form.Mode.TheVariants.{Page}
use Rattle.wt_span.specs.declared.form.LexKind.TheVariants.{Raw, Entity, Equals}
use Rattle.wt_span.specs.declared.form.ItemForm.TheVariants as form
use Rattle.wt_span.specs.Bytes.{is_blank}
use Rattle.wt_span.specs.Comments.{comment_len}
use Rattle.wt_span.specs.Tags.{opening_tag, tag_after}
use Rattle.wt_span.specs.Items.{Item, char, whole}
use Rattle.wt_span.specs.Lexemes.{form_at}
use Rattle.wt_names.proofs.Ascii.{IsWide, encode_wide, encode_some}
use Rattle.wt_guards.specs.Content.{ContentSign, letter, thing}
use Rattle.wt_guards.specs.Letters.{is_bracket, is_escaped, reference, written_by}
use Rattle.wt_guards.specs.Guards.{Setting, nowiki, nowiki_if, spelled_from}
use Rattle.wt_guards.proofs.Escapes.{is_escapable, escapable}
use Rattle.wt_typed_blocks.proofs.Forms.{comment_other, comment_not, other_byte, equals_byte, IsTame, less_byte, and_byte, nowiki_form, reference_form}
use Rattle.wt_typed_blocks.proofs.TextReads.{Begins, unguarded, bracket_escaped, not_bracket, equal_or, apart}
use Rattle.wt_text_edit_laws.specs.LonePages.{page_chars}
use Rattle.wt_text_edit_laws.proofs.Prose.InFront.{Reads, reads_byte, reads_form}
use Rattle.wt_text_edit_laws.proofs.Prose.Uncommented.{uncommented_other}
use Rattle.wt_text_edit_laws.proofs.Texts.TypedItems.{references, wide_form, wide_tame, tame_if, IsMild, wide_mild, mild_if, no_form_byte}
use Rattle.wt_beside_laws.specs.Content.{guard_items, letter_items}
use Rattle.wt_beside_laws.proofs.Firm.{ReadsAs, nothing_reads, both_read}

-- ---- what is put

pub nowiki_reads : ReadsAs nowiki (whole form.Nowiki None nowiki ∷ [])
unfolding nowiki comment_len opening_tag tag_after
nowiki_reads rest xs r =
    reads_form Raw 60 (codes "nowiki/>") rest xs (nowiki_form Page rest) (uncommented_other 60 (codes "nowiki/>" ++ rest) refl refl) r

pub guard_reads : (guarded : Bool) → ReadsAs (nowiki_if guarded) (guard_items guarded)
guard_reads true = nowiki_reads
guard_reads false = nothing_reads

pub reference_reads : (c : ℕ) → is_escapable c ≡ true → ReadsAs (reference c) (whole (form.Entity c) None (reference c) ∷ [])
reference_reads c e rest xs k =
    let r = references c e in
    let own : List ℕ = 38 ∷ r.others in
    let f : form_at Page false (38 ∷ (r.others ++ rest)) ≡ Some (Entity c, suc (length r.others)) =
    ap (λ bs. form_at Page false (bs ++ rest)) (sym r.is) ∙ reference_form Page rest c e ∙ ap (λ bs. Some (Entity c, length bs)) r.is in
    subst (λ bs. Reads (bs ++ rest) (whole (form.Entity c) None bs ∷ xs)) (sym r.is)
    (reads_form (Entity c) 38 r.others rest xs f (uncommented_other 38 (r.others ++ rest) refl (comment_other 38 (r.others ++ rest) (omega arith))) k)

-- ---- what is written behind a character, by its first byte

begin_reference : (P : ℕ → Type 0) (d : ℕ) (rest : List ℕ) → is_escapable d ≡ true → P 38 → Begins P (reference d ++ rest)
begin_reference P d rest e p = let r = references d e in record { first = 38; others = r.others ++ rest; is = ap (λ bs. bs ++ rest) r.is; fits = p }

begin_wide : (P : ℕ → Type 0) (bs rest : List ℕ) → All IsWide bs → 0 < length bs → ((x : ℕ) → 128 ≤ x → P x) → Begins P (bs ++ rest)
begin_wide P [] rest h lt f = absurd (omega (arith, lt))
begin_wide P (b ∷ bs) rest h lt f = record { first = b; others = bs ++ rest; is = refl; fits = f b (All-head IsWide b bs h) }

begin_plain : (P : ℕ → Type 0) (d : ℕ) (rest : List ℕ) → P d → ((x : ℕ) → 128 ≤ x → P x) → Begins P (encode_utf8 d ++ rest)
begin_plain P d rest p f = elim (cases_lt d 128) [
  | inl small ↦ record { first = d; others = rest; is = ap (λ bs. bs ++ rest) (encode_ascii d small); fits = p }
  | inr wide ↦ begin_wide P (encode_utf8 d) rest (encode_wide d wide) (encode_some d) f
]

begin_written : (P : ℕ → Type 0) (e : Bool) (d : ℕ) (rest : List ℕ) → (e ≡ true → is_escapable d ≡ true) → P 38 → (e ≡ false → P d)
    → ((x : ℕ) → 128 ≤ x → P x) → Begins P (written_by e d ++ rest)
begin_written P true d rest h p q f = begin_reference P d rest (h refl) p
begin_written P false d rest h p q f = begin_plain P d rest (q refl) f

-- behind `<` and `&`, where a character follows
pub begin_letter : (P : ℕ → Type 0) (s : Setting) (c d : ℕ) (before after : List ContentSign) → (c == 10) ≡ false → is_blank c ≡ false → P 38 → P d
    → ((x : ℕ) → 128 ≤ x → P x) → Begins P (spelled_from s (letter c ∷ before) (letter d ∷ after))
begin_letter P s c d before after e f p q g =
    let t = is_escaped s.within s.place (letter c ∷ before) d after in
    let rest = spelled_from s (letter d ∷ letter c ∷ before) after in
    subst (λ (u : Bool). Begins P (nowiki_if u ++ (written_by t d ++ rest))) (sym (unguarded s c d before after e f))
    (begin_written P t d rest (escapable s.within s.place (letter c ∷ before) d after) p (λ z. q) g)

-- ---- a character, before what is spelled behind it

abbrev pub further : Setting → ℕ → List ContentSign → List ContentSign → List ℕ
further s c before after = spelled_from s (letter c ∷ before) after

-- behind a byte
byte_reads : (b : ℕ) (q : List ℕ) (xs : List Item) → ((rest : List ℕ) → form_at Page false (b ∷ (q ++ rest)) ≡ None)
    → ((rest : List ℕ) → comment_len (b ∷ (q ++ rest)) ≡ None) → ReadsAs q xs → ReadsAs (b ∷ q) (char None b ∷ xs)
byte_reads b q xs f c g rest ys r = reads_byte b (q ++ rest) (xs ++ ys) (f rest) (c rest) (g rest ys r)

wide_reads : (bs q : List ℕ) (xs : List Item) → All IsWide bs → ReadsAs q xs → ReadsAs (bs ++ q) (page_chars bs ++ xs)
wide_reads [] q xs h g = g
wide_reads (b ∷ bs) q xs h g =
    let w : 128 ≤ b = All-head IsWide b bs h in
    byte_reads b (bs ++ q) (page_chars bs ++ xs) (λ rest. other_byte Page b ((bs ++ q) ++ rest) (wide_form b w))
    (λ rest. comment_other b ((bs ++ q) ++ rest) (omega (arith, w))) (wide_reads bs q xs (All-tail IsWide b bs h) g)

less_reads : (s : Setting) (before after : List ContentSign) (xs : List Item) → is_escaped s.within s.place before 60 after ≡ false
    → ReadsAs (further s 60 before after) xs → ReadsAs (60 ∷ further s 60 before after) (char None 60 ∷ xs)
unfolding is_escaped
less_reads s before [] xs e g = cc
less_reads s before (thing t ∷ after) xs e g = cc
less_reads s before (letter d ∷ after) xs e g =
    let n = begin_letter IsTame s 60 d before after refl refl (refl, omega arith, omega arith) (tame_if d e) wide_tame in
    byte_reads 60 (further s 60 before (letter d ∷ after)) xs
    (λ rest. ap (λ bs. form_at Page false (60 ∷ (bs ++ rest))) n.is ∙ less_byte Page n.first (n.others ++ rest) n.fits)
    (λ rest. ap (λ bs. comment_len (60 ∷ (bs ++ rest))) n.is ∙ comment_not n.first (n.others ++ rest) n.fits.1) g

and_reads : (s : Setting) (before after : List ContentSign) (xs : List Item) → is_escaped s.within s.place before 38 after ≡ false
    → ReadsAs (further s 38 before after) xs → ReadsAs (38 ∷ further s 38 before after) (char None 38 ∷ xs)
unfolding is_escaped
and_reads s before [] xs e g = cc
and_reads s before (thing t ∷ after) xs e g = cc
and_reads s before (letter d ∷ after) xs e g =
    let n = begin_letter IsMild s 38 d before after refl refl (refl, omega arith) (mild_if d e) wide_mild in
    byte_reads 38 (further s 38 before (letter d ∷ after)) xs
    (λ rest. ap (λ bs. form_at Page false (38 ∷ (bs ++ rest))) n.is ∙ and_byte Page n.first (n.others ++ rest) n.fits.0 n.fits.1)
    (λ rest. comment_other 38 (further s 38 before (letter d ∷ after) ++ rest) (omega arith)) g

equals_reads : (q : List ℕ) (xs : List Item) → ReadsAs q xs → ReadsAs (61 ∷ q) (char None 61 ∷ xs)
equals_reads q xs g rest ys r =
    reads_form Equals 61 [] (q ++ rest) (xs ++ ys) (equals_byte Page (q ++ rest))
    (uncommented_other 61 (q ++ rest) refl (comment_other 61 (q ++ rest) (omega arith))) (g rest ys r)

other_reads : (c : ℕ) (q : List ℕ) (xs : List Item) → is_bracket c ≡ false → (c == 60) ≡ false → (c == 38) ≡ false → (c == 61) ≡ false → ReadsAs q xs
    → ReadsAs (c ∷ q) (char None c ∷ xs)
other_reads c q xs b l a e g =
    byte_reads c q xs (λ rest. other_byte Page c (q ++ rest) (no_form_byte c b l a e)) (λ rest. comment_other c (q ++ rest) (apart c 60 l)) g

small_reads : (s : Setting) (before : List ContentSign) (c : ℕ) (after : List ContentSign) (xs : List Item) → is_escaped s.within s.place before c after ≡ false
    → ReadsAs (further s c before after) xs → ReadsAs (c ∷ further s c before after) (char None c ∷ xs)
small_reads s before c after xs e g =
    let P : ℕ → Type 0 = λ k. is_escaped s.within s.place before k after ≡ false → ReadsAs (further s k before after) xs
    → ReadsAs (k ∷ further s k before after) (char None k ∷ xs) in
    let b = not_bracket (is_bracket c) (is_escaped s.within s.place before c after) (bracket_escaped s.within s.place before c after) e in
    elim (equal_or c 60) [
      | inl i ↦ subst P (sym i) (less_reads s before after xs) e g
      | inr l ↦ elim (equal_or c 38) [
        | inl i ↦ subst P (sym i) (and_reads s before after xs) e g
        | inr a ↦ elim (equal_or c 61) [
          | inl i ↦ subst P (sym i) (λ h k. equals_reads (further s 61 before after) xs k) e g
          | inr q ↦ other_reads c (further s c before after) xs b l a q g
        ]
      ]
    ]

plain_reads : (s : Setting) (before : List ContentSign) (c : ℕ) (after : List ContentSign) (xs : List Item) → is_escaped s.within s.place before c after ≡ false
    → ReadsAs (further s c before after) xs → ReadsAs (encode_utf8 c ++ further s c before after) (page_chars (encode_utf8 c) ++ xs)
plain_reads s before c after xs e g = elim (cases_lt c 128) [
  | inl small ↦ subst (λ bs. ReadsAs (bs ++ further s c before after) (page_chars bs ++ xs)) (sym (encode_ascii c small)) (small_reads s before c after xs e g)
  | inr wide ↦ wide_reads (encode_utf8 c) (further s c before after) xs (encode_wide c wide) g
]

letter_reads : (s : Setting) (before : List ContentSign) (c : ℕ) (after : List ContentSign) (xs : List Item) (e : Bool)
    → is_escaped s.within s.place before c after ≡ e → ReadsAs (further s c before after) xs
    → ReadsAs (written_by e c ++ further s c before after) (letter_items e c ++ xs)
letter_reads s before c after xs true h g =
    both_read (reference c) (further s c before after) (letter_items true c) xs (reference_reads c (escapable s.within s.place before c after h)) g
letter_reads s before c after xs false h g = plain_reads s before c after xs h g

-- Text alone reads back as itself.
use Rattle.std.proofs.Common.{arith, ◌≡◌, ◌≢◌, ℕ, suc, ◌<◌, ◌≤◌, ◌==◌, Bool, true, false, List, [], ◌∷◌, ◌++◌, length, map, refl, sym, ap, ◌∙◌, subst, append-nil, Some, None, inl, inr, ◌⊎◌, All}
use Rattle.std.specs.Prelude.{◌||◌, ◌&&◌, not, codes, encode_utf8}
use Rattle.std.specs.List.{flat_map}
use Rattle.std.specs.Str.{chars, IsUtf8}
use Rattle.std.specs.Char.{is_ascii_alphabetic}
use Rattle.std.specs.Fmt.{digits}
use Rattle.std.proofs.Math.Utf8.{encodes}
use Rattle.std.proofs.lemmas.Bool.{cases_lt}
use Rattle.std.proofs.lemmas.Bool.Decides.{Decides-eqb, nat_tests}
use Rattle.std.proofs.lemmas.List.Elements.{All-head, All-tail}
use Rattle.std.proofs.lemmas.Str.{encode_ascii, encodes-chars}
use Rattle.wt_span.specs.declared.form.Mode.{Mode}
use Rattle.wt_span.specs.declared.form.LexKind.{LexKind}
use Rattle.wt_span.specs.declared.form.LexKind.TheVariants.{Raw, Entity, Equals}
use Rattle.wt_span.specs.Bytes.{is_blank}
use Rattle.wt_span.specs.Comments.{comment_len}
use Rattle.wt_span.specs.Lexemes.{form_at}
use Rattle.wt_lex.specs.Words.{is_form_byte}
use Rattle.wt_names.proofs.Ascii.{IsWide, encode_wide, encode_some}
use Rattle.wt_tree.specs.declared.edit_shape.Place.{Place}
use Rattle.wt_guards.specs.Content.{ContentSign, letter, letters}
use Rattle.wt_guards.specs.Letters.{is_bracket, is_escaped, reference, written_by}
use Rattle.wt_guards.specs.Guards.{Setting, nowiki, nowiki_if, is_guarded, is_between_guard, is_start_guard, is_end_guard, is_blank_guard, spelled_from, spelled}
use Rattle.wt_guards.proofs.Escapes.{is_escapable, escapable, each_escapable}
use Rattle.wt_typed_blocks.specs.Reading.{shown_by, read_text}
use Rattle.wt_typed_blocks.proofs.ShownWords.{Reads, reads_nothing, reads_byte, reads_form, reads_all}
use Rattle.wt_typed_blocks.proofs.Forms.{NoComments, comment_other, comment_not, without_line, other_byte, equals_byte, IsTame, less_byte, and_byte, nowiki_form, reference_form}

-- from here on the text shows this, and no comment begins in it
record Good (mode : Mode) (bs t : List ℕ) : Type 0 where
  reads : Reads mode bs t
  clean : NoComments bs

good_nothing : (mode : Mode) → Good mode [] []
good_nothing mode = record { reads = reads_nothing mode; clean = tt }

good_byte : (mode : Mode) (b : ℕ) (bs t : List ℕ) → form_at mode false (b ∷ bs) ≡ None → comment_len (b ∷ bs) ≡ None → Good mode bs t
    → Good mode (b ∷ bs) (b ∷ t)
good_byte mode b bs t f c g = record {
  reads = reads_byte mode b bs t (λ after. without_line mode after (b ∷ bs) (c, g.clean) ∙ f) g.reads;
  clean = (c, g.clean);
}

good_form : (mode : Mode) (kind : LexKind) (b : ℕ) (q rest t u : List ℕ) → form_at mode false (b ∷ (q ++ rest)) ≡ Some (kind, suc (length q))
    → shown_by kind (b ∷ q) ≡ Some u → NoComments (b ∷ (q ++ rest)) → Good mode rest t → Good mode (b ∷ (q ++ rest)) (u ++ t)
good_form mode kind b q rest t u f e c g = record {
  reads = reads_form mode kind b q rest t u (λ after. without_line mode after (b ∷ (q ++ rest)) c ∙ f) e g.reads;
  clean = c;
}

-- ---- what is put

good_nowiki : (mode : Mode) (rest t : List ℕ) → Good mode rest t → Good mode (nowiki ++ rest) t
unfolding nowiki comment_len
good_nowiki mode rest t g =
    good_form mode Raw 60 (codes "nowiki/>") rest t [] (nowiki_form mode rest) refl
    (refl, (refl, (refl, (refl, (refl, (refl, (refl, (refl, (refl, g.clean))))))))) g

good_guard : (mode : Mode) (guarded : Bool) (rest t : List ℕ) → Good mode rest t → Good mode (nowiki_if guarded ++ rest) t
good_guard mode true rest t g = good_nowiki mode rest t g
good_guard mode false rest t g = g

-- the bytes of a reference
record IsReference (c : ℕ) : Type 0 where
  others : List ℕ
  is : reference c ≡ 38 ∷ others
  clean : (rest : List ℕ) → NoComments rest → NoComments (38 ∷ (others ++ rest))

references : (c : ℕ) → is_escapable c ≡ true → IsReference c
unfolding reference digits comment_len
references c e = each_escapable IsReference
    (record { others = codes "#91;"; is = refl; clean = λ rest h. (refl, (refl, (refl, (refl, (refl, h))))) })
    (record { others = codes "#93;"; is = refl; clean = λ rest h. (refl, (refl, (refl, (refl, (refl, h))))) })
    (record { others = codes "#123;"; is = refl; clean = λ rest h. (refl, (refl, (refl, (refl, (refl, (refl, h)))))) })
    (record { others = codes "#125;"; is = refl; clean = λ rest h. (refl, (refl, (refl, (refl, (refl, (refl, h)))))) })
    (record { others = codes "#124;"; is = refl; clean = λ rest h. (refl, (refl, (refl, (refl, (refl, (refl, h)))))) })
    (record { others = codes "gt;"; is = refl; clean = λ rest h. (refl, (refl, (refl, (refl, h)))) })
    (record { others = codes "lt;"; is = refl; clean = λ rest h. (refl, (refl, (refl, (refl, h)))) })
    (record { others = codes "amp;"; is = refl; clean = λ rest h. (refl, (refl, (refl, (refl, (refl, h))))) })
    (record { others = codes "#39;"; is = refl; clean = λ rest h. (refl, (refl, (refl, (refl, (refl, h))))) })
    (record { others = codes "#95;"; is = refl; clean = λ rest h. (refl, (refl, (refl, (refl, (refl, h))))) })
    (record { others = codes "#58;"; is = refl; clean = λ rest h. (refl, (refl, (refl, (refl, (refl, h))))) })
    (record { others = codes "#61;"; is = refl; clean = λ rest h. (refl, (refl, (refl, (refl, (refl, h))))) })
    (record { others = codes "#33;"; is = refl; clean = λ rest h. (refl, (refl, (refl, (refl, (refl, h))))) }) c e

good_reference : (mode : Mode) (c : ℕ) (rest t : List ℕ) → is_escapable c ≡ true → Good mode rest t → Good mode (reference c ++ rest) (encode_utf8 c ++ t)
good_reference mode c rest t e g =
    let r = references c e in
    let f : form_at mode false (38 ∷ (r.others ++ rest)) ≡ Some (Entity c, suc (length r.others)) =
    ap (λ bs. form_at mode false (bs ++ rest)) (sym r.is) ∙ reference_form mode rest c e ∙ ap (λ bs. Some (Entity c, length bs)) r.is in
    subst (λ bs. Good mode (bs ++ rest) (encode_utf8 c ++ t)) (sym r.is)
    (good_form mode (Entity c) 38 r.others rest t (encode_utf8 c) f refl (r.clean rest g.clean) g)

-- ---- characters as they are

wide_byte : (b : ℕ) → 128 ≤ b → is_form_byte b ≡ false
wide_byte b h = grind (arith, nat_tests)

good_wide : (mode : Mode) (bs rest t : List ℕ) → All IsWide bs → Good mode rest t → Good mode (bs ++ rest) (bs ++ t)
good_wide mode [] rest t h g = g
good_wide mode (b ∷ bs) rest t h g =
    let w : 128 ≤ b = All-head IsWide b bs h in
    let other : b ≢ 60 = omega (arith, w) in
    good_byte mode b (bs ++ rest) (bs ++ t) (other_byte mode b (bs ++ rest) (wide_byte b w)) (comment_other b (bs ++ rest) other)
    (good_wide mode bs rest t (All-tail IsWide b bs h) g)

-- what follows, by its first byte
pub record Begins (P : ℕ → Type 0) (bs : List ℕ) : Type 0 where
  pub first : ℕ
  pub others : List ℕ
  pub is : bs ≡ first ∷ others
  pub fits : P first

begin_reference : (P : ℕ → Type 0) (d : ℕ) (rest : List ℕ) → is_escapable d ≡ true → P 38 → Begins P (reference d ++ rest)
begin_reference P d rest e p = let r = references d e in record { first = 38; others = r.others ++ rest; is = ap (λ bs. bs ++ rest) r.is; fits = p }

begin_wide : (P : ℕ → Type 0) (bs rest : List ℕ) → All IsWide bs → 0 < length bs → ((x : ℕ) → 128 ≤ x → P x) → Begins P (bs ++ rest)
begin_wide P [] rest h lt f = absurd (omega (arith, lt))
begin_wide P (b ∷ bs) rest h lt f = record { first = b; others = bs ++ rest; is = refl; fits = f b (All-head IsWide b bs h) }

begin_plain : (P : ℕ → Type 0) (d : ℕ) (rest : List ℕ) → P d → ((x : ℕ) → 128 ≤ x → P x) → Begins P (encode_utf8 d ++ rest)
begin_plain P d rest p f = elim (cases_lt d 128) [
  | inl small ↦ record { first = d; others = rest; is = ap (λ bs. bs ++ rest) (encode_ascii d small); fits = p }
  | inr wide ↦ begin_wide P (encode_utf8 d) rest (encode_wide d wide) (encode_some d) f
]

begin_written : (P : ℕ → Type 0) (e : Bool) (d : ℕ) (rest : List ℕ) → (e ≡ true → is_escapable d ≡ true) → P 38 → (e ≡ false → P d)
    → ((x : ℕ) → 128 ≤ x → P x) → Begins P (written_by e d ++ rest)
begin_written P true d rest h p q f = begin_reference P d rest (h refl) p
begin_written P false d rest h p q f = begin_plain P d rest (q refl) f

and_false : (b : Bool) → (b && false) ≡ false
and_false true = refl
and_false false = refl

-- nothing is put after a character that is neither a blank nor a line break, where a character follows
pub unguarded : (s : Setting) (c d : ℕ) (before after : List ContentSign) → (c == 10) ≡ false → is_blank c ≡ false
    → is_guarded s (letter c ∷ before) (letter d ∷ after) ≡ false
unfolding is_guarded is_between_guard is_start_guard is_end_guard is_blank_guard
unguarded s c d before after e f = rw (e, f, and_false (d == 10), and_false (not s.within)) refl

-- what is spelled after such a character, where one follows
pub begin_next : (P : ℕ → Type 0) (s : Setting) (c d : ℕ) (before : List ContentSign) (ds : List ℕ) → (c == 10) ≡ false → is_blank c ≡ false
    → P 38 → (is_escaped s.within s.place (letter c ∷ before) d (map letter ds) ≡ false → P d) → ((x : ℕ) → 128 ≤ x → P x)
    → Begins P (spelled_from s (letter c ∷ before) (map letter (d ∷ ds)))
begin_next P s c d before ds e f p q g =
    let after = map letter ds in
    let t = is_escaped s.within s.place (letter c ∷ before) d after in
    let rest = spelled_from s (letter d ∷ letter c ∷ before) after in
    subst (λ (u : Bool). Begins P (nowiki_if u ++ (written_by t d ++ rest))) (sym (unguarded s c d before after e f))
    (begin_written P t d rest (escapable s.within s.place (letter c ∷ before) d after) p q g)

-- ---- one character

pub or_parts : (a b : Bool) → (a || b) ≡ false → (a ≡ false) × (b ≡ false)
or_parts true b e = cc
or_parts false b e = (refl, e)

pub bracket_escaped : (within : Bool) (p : Place) (before : List ContentSign) (c : ℕ) (after : List ContentSign) → is_bracket c ≡ true
    → is_escaped within p before c after ≡ true
unfolding is_escaped
bracket_escaped within p before c after e = rw e refl

pub not_bracket : (b e : Bool) → (b ≡ true → e ≡ true) → e ≡ false → b ≡ false
not_bracket true true h f = cc f
not_bracket true false h f = sym (h refl)
not_bracket false e h f = refl

no_form_byte : (c : ℕ) → is_bracket c ≡ false → (c == 60) ≡ false → (c == 38) ≡ false → (c == 61) ≡ false → is_form_byte c ≡ false
no_form_byte c b l a e =
    let p91 = or_parts (c == 91) _ b in
    let p93 = or_parts (c == 93) _ p91.1 in
    let p123 = or_parts (c == 123) _ p93.1 in
    let p125 = or_parts (c == 125) _ p123.1 in
    let p124 = or_parts (c == 124) _ p125.1 in
    rw (l, a, e, p91.0, p93.0, p123.0, p125.0, p124.0) refl

pub equal_or : (a b : ℕ) → (a ≡ b) ⊎ ((a == b) ≡ false)
equal_or a b = by (a == b) refl
  where
    by : (t : Bool) → (a == b) ≡ t → (a ≡ b) ⊎ ((a == b) ≡ false)
    by true e = inl ((Decides-eqb a b).0 e)
    by false e = inr e

pub apart : (a b : ℕ) → (a == b) ≡ false → a ≢ b
apart a b e = λ i. let no : true ≡ false = sym ((Decides-eqb a b).1 i) ∙ e in cc

wide_tame : (x : ℕ) → 128 ≤ x → IsTame x
wide_tame x h = (grind (arith, nat_tests), omega (arith, h), omega (arith, h))

tame_if : (x : ℕ) → (is_ascii_alphabetic x || (x == 47 || x == 33)) ≡ false → IsTame x
tame_if x e =
    let p = or_parts (is_ascii_alphabetic x) _ e in
    let q = or_parts (x == 47) (x == 33) p.1 in
    (p.0, apart x 33 q.1, apart x 47 q.0)

abbrev IsMild : ℕ → Type 0
IsMild x = (is_ascii_alphabetic x ≡ false) × (x ≢ 35)

wide_mild : (x : ℕ) → 128 ≤ x → IsMild x
wide_mild x h = (grind (arith, nat_tests), omega (arith, h))

mild_if : (x : ℕ) → (is_ascii_alphabetic x || x == 35) ≡ false → IsMild x
mild_if x e = let p = or_parts (is_ascii_alphabetic x) _ e in (p.0, apart x 35 p.1)

-- a `<` that is left is followed by a character that makes no tag of it
good_less : (mode : Mode) (s : Setting) (before : List ContentSign) (cs t : List ℕ) → is_escaped s.within s.place before 60 (map letter cs) ≡ false
    → Good mode (spelled_from s (letter 60 ∷ before) (map letter cs)) t → Good mode (60 ∷ spelled_from s (letter 60 ∷ before) (map letter cs)) (60 ∷ t)
unfolding is_escaped
good_less mode s before [] t e g = cc
good_less mode s before (d ∷ ds) t e g =
    let n = begin_next IsTame s 60 d before ds refl refl (refl, omega arith, omega arith) (λ h. tame_if d e) wide_tame in
    let f = ap (λ bs. form_at mode false (60 ∷ bs)) n.is ∙ less_byte mode n.first n.others n.fits in
    let c = ap (λ bs. comment_len (60 ∷ bs)) n.is ∙ comment_not n.first n.others n.fits.1 in
    good_byte mode 60 (spelled_from s (letter 60 ∷ before) (map letter (d ∷ ds))) t f c g

-- a `&` that is left is followed by a character that makes no reference of it
good_and : (mode : Mode) (s : Setting) (before : List ContentSign) (cs t : List ℕ) → is_escaped s.within s.place before 38 (map letter cs) ≡ false
    → Good mode (spelled_from s (letter 38 ∷ before) (map letter cs)) t → Good mode (38 ∷ spelled_from s (letter 38 ∷ before) (map letter cs)) (38 ∷ t)
unfolding is_escaped
good_and mode s before [] t e g = cc
good_and mode s before (d ∷ ds) t e g =
    let n = begin_next IsMild s 38 d before ds refl refl (refl, omega arith) (λ h. mild_if d e) wide_mild in
    let f = ap (λ bs. form_at mode false (38 ∷ bs)) n.is ∙ and_byte mode n.first n.others n.fits.0 n.fits.1 in
    good_byte mode 38 (spelled_from s (letter 38 ∷ before) (map letter (d ∷ ds))) t f
    (comment_other 38 (spelled_from s (letter 38 ∷ before) (map letter (d ∷ ds))) (omega arith)) g

good_equals : (mode : Mode) (rest t : List ℕ) → Good mode rest t → Good mode (61 ∷ rest) (61 ∷ t)
good_equals mode rest t g =
    good_form mode Equals 61 [] rest t (61 ∷ []) (equals_byte mode rest) refl (comment_other 61 rest (omega arith), g.clean) g

good_other : (mode : Mode) (c : ℕ) (rest t : List ℕ) → is_bracket c ≡ false → (c == 60) ≡ false → (c == 38) ≡ false → (c == 61) ≡ false
    → Good mode rest t → Good mode (c ∷ rest) (c ∷ t)
good_other mode c rest t b l a e g =
    good_byte mode c rest t (other_byte mode c rest (no_form_byte c b l a e)) (comment_other c rest (apart c 60 l)) g

good_small : (mode : Mode) (s : Setting) (before : List ContentSign) (c : ℕ) (cs t : List ℕ) → is_escaped s.within s.place before c (map letter cs) ≡ false
    → Good mode (spelled_from s (letter c ∷ before) (map letter cs)) t → Good mode (c ∷ spelled_from s (letter c ∷ before) (map letter cs)) (c ∷ t)
good_small mode s before c cs t e g =
    let rest = spelled_from s (letter c ∷ before) (map letter cs) in
    let P : ℕ → Type 0 = λ k. is_escaped s.within s.place before k (map letter cs) ≡ false
    → Good mode (spelled_from s (letter k ∷ before) (map letter cs)) t → Good mode (k ∷ spelled_from s (letter k ∷ before) (map letter cs)) (k ∷ t) in
    let b = not_bracket (is_bracket c) (is_escaped s.within s.place before c (map letter cs)) (bracket_escaped s.within s.place before c (map letter cs)) e in
    elim (equal_or c 60) [
      | inl i ↦ subst P (sym i) (good_less mode s before cs t) e g
      | inr l ↦ elim (equal_or c 38) [
        | inl i ↦ subst P (sym i) (good_and mode s before cs t) e g
        | inr a ↦ elim (equal_or c 61) [
          | inl i ↦ subst P (sym i) (λ h k. good_equals mode (spelled_from s (letter 61 ∷ before) (map letter cs)) t k) e g
          | inr q ↦ good_other mode c rest t b l a q g
        ]
      ]
    ]

good_plain : (mode : Mode) (s : Setting) (before : List ContentSign) (c : ℕ) (cs t : List ℕ) → is_escaped s.within s.place before c (map letter cs) ≡ false
    → Good mode (spelled_from s (letter c ∷ before) (map letter cs)) t
    → Good mode (encode_utf8 c ++ spelled_from s (letter c ∷ before) (map letter cs)) (encode_utf8 c ++ t)
good_plain mode s before c cs t e g = elim (cases_lt c 128) [
  | inl small ↦
      subst (λ bs. Good mode (bs ++ spelled_from s (letter c ∷ before) (map letter cs)) (bs ++ t)) (sym (encode_ascii c small))
      (good_small mode s before c cs t e g)
  | inr wide ↦ good_wide mode (encode_utf8 c) (spelled_from s (letter c ∷ before) (map letter cs)) t (encode_wide c wide) g
]

good_letter : (mode : Mode) (s : Setting) (before : List ContentSign) (c : ℕ) (cs t : List ℕ) (e : Bool)
    → is_escaped s.within s.place before c (map letter cs) ≡ e → Good mode (spelled_from s (letter c ∷ before) (map letter cs)) t
    → Good mode (written_by e c ++ spelled_from s (letter c ∷ before) (map letter cs)) (encode_utf8 c ++ t)
good_letter mode s before c cs t true h g =
    good_reference mode c (spelled_from s (letter c ∷ before) (map letter cs)) t (escapable s.within s.place before c (map letter cs) h) g
good_letter mode s before c cs t false h g = good_plain mode s before c cs t h g

-- ---- all

good_from : (mode : Mode) (s : Setting) (before : List ContentSign) (cs : List ℕ) → Good mode (spelled_from s before (map letter cs)) (flat_map encode_utf8 cs)
good_from mode s before [] =
    subst (λ bs. Good mode bs []) (append-nil (nowiki_if (is_guarded s before []))) (good_guard mode (is_guarded s before []) [] [] (good_nothing mode))
good_from mode s before (c ∷ cs) =
    let after = map letter cs in
    let e = is_escaped s.within s.place before c after in
    let rest = spelled_from s (letter c ∷ before) after in
    good_guard mode (is_guarded s before (letter c ∷ after)) (written_by e c ++ rest) (encode_utf8 c ++ flat_map encode_utf8 cs)
    (good_letter mode s before c cs (flat_map encode_utf8 cs) e refl (good_from mode s (letter c ∷ before) cs))

all_encoded : (cs : List ℕ) → flat_map encode_utf8 cs ≡ encodes cs
all_encoded [] = refl
all_encoded (c ∷ cs) = ap (λ bs. encode_utf8 c ++ bs) (all_encoded cs)

pub text_reads_back : (mode : Mode) (s : Setting) (text : List ℕ) → IsUtf8 text → read_text mode (spelled s (letters text)) ≡ Some text
text_reads_back mode s text u =
    reads_all mode (spelled s (letters text)) (flat_map encode_utf8 (chars text)) (good_from mode s [] (chars text)).reads
    ∙ ap (λ bs. Some bs) (all_encoded (chars text) ∙ encodes-chars text u)

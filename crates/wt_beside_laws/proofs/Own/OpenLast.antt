-- Where a block's last line shows something, and the block holds no comment and no hidden part that nothing ends, a line break behind it is read as one.
use Rattle.std.proofs.Common.{arith, ◌≡◌, ◌≢◌, ◌⊎◌, inl, inr, ℕ, zero, suc, ◌+◌, ◌-◌, ◌<◌, ◌≤◌, Bool, true, false, not, Option, Some, None, List, [], ◌∷◌, ◌++◌, length, get_or, take, drop, nat_lt, refl, sym, ap, ◌∙◌, subst, append-nil, length-append, codes}
use Rattle.std.specs.Prelude.{◌==◌, ◌&&◌, ◌||◌, nat_eq, slice_get, slice_index, if◌then◌else◌}
use Rattle.std.specs.Char.{is_ascii_alphabetic}
use Rattle.std.specs.Option.{option_map, option_or, unwrap_or, is_some}
use Rattle.std.specs.List.{starts_with}
use Rattle.std.proofs.lemmas.Bool.{cases_lt, eqb-true}
use Rattle.std.proofs.lemmas.List.{take_all, drop-append-le}
use Rattle.std.proofs.Math.Seq.{take-append_seam}
use Rattle.wt_span.specs.declared.form.ItemForm.{ItemForm}
use Rattle.wt_span.specs.declared.form.ItemForm.TheVariants as form
use Rattle.wt_span.specs.declared.form.LexKind.{LexKind}
use Rattle.wt_span.specs.declared.form.LexKind.TheVariants as lex
use Rattle.wt_span.specs.declared.form.Mode.TheVariants.{Page}
use Rattle.wt_span.specs.Bytes.{is_blank, is_break, begins, blank_len}
use Rattle.wt_span.specs.Comments.{comment_len, comment_line_len, remarks_len, remarks_with}
use Rattle.wt_span.specs.Entities.{entity_at}
use Rattle.wt_span.specs.Items.{Item, char, whole}
use Rattle.wt_span.specs.Lexemes.{Word, as_word, comment_line_word, entity_word, sign_word, form_at}
use Rattle.wt_span.specs.Tags.{Tag, opening_tag, closing_tag, len_if_named, to_closing, with_inside, is_raw_name, raw_by, raw_len, hides, is_left_out, hidden_len, opening_include, closing_include, include_at}
use Rattle.wt_lex.specs.Words.{is_form_byte}
use Rattle.wt_lex.proofs.AllForms.{form_fits}
use Rattle.wt_lex.proofs.Begins.{and_right, byte_is, is_within, begins_get, begins_len}
use Rattle.wt_lex.proofs.Forms.{OptFits, comment_fits}
use Rattle.wt_lex.proofs.Fronts.{begins_front, begins_more}
use Rattle.wt_lex.proofs.TagForms.{TagFits, OptTag, opening_fits, EndsTag}
use Rattle.wt_lex.proofs.WholeComments.{comment_front, no_comment_front}
use Rattle.wt_lex.proofs.WholeTags.{opening_front, closing_more}
use Rattle.wt_lines.specs.Kinds.{is_mark_sign, is_idle}
use Rattle.wt_names.specs.Good.{holds}
use Rattle.wt_expand.specs.PageItems.{items_of_word, page_items}
use Rattle.wt_part_laws.specs.Lexer.{lexer}
use Rattle.wt_part_laws.specs.Scans.{after_all, skipped_by, Settles, IsFrontOf}
use Rattle.wt_part_laws.proofs.LexemeFronts.{lexemes_front}
use Rattle.wt_typed_blocks.specs.Reading.{stands}
use Rattle.wt_typed_blocks.proofs.Forms.{comment_not, other_byte}
use Rattle.wt_text_edit_laws.specs.PageCuts.{EndsClosed}
use Rattle.wt_text_edit_laws.specs.TypedHeadings.{NoBreaks}
use Rattle.wt_text_edit_laws.specs.Unclosed.{is_tag_unclosed, is_unclosed_item, last_of}
use Rattle.wt_text_edit_laws.proofs.Between.Fronts.{ReadsAfter, items_from, byte_from, form_from, page_read, reads_after, reads_either, alone_reads, front_reads}
use Rattle.wt_text_edit_laws.proofs.Between.LineForms.{get_behind}
use Rattle.wt_text_edit_laws.proofs.Between.LineWords.{either}
use Rattle.wt_text_edit_laws.proofs.Cuts.ItemCuts.{page_from}
use Rattle.wt_text_edit_laws.proofs.Cuts.SignBytes.{AreSigns, IsAnyWord, any_word}
use Rattle.wt_text_edit_laws.proofs.Prose.Uncommented.{uncommented_other, either_flag}
use Rattle.wt_beside_laws.specs.OpenEnds.{is_shown, ShownLast}
use Rattle.wt_beside_laws.proofs.Derived.BlockContents.{there_begins}
use Rattle.wt_beside_laws.proofs.Marks.LedItems.{remarks_all}
use Rattle.wt_beside_laws.proofs.Own.OpenEnds.{OpenComment, OpenHidden, LineEnds, AnyEnds, any_ends, open_comment_len}
use Rattle.wt_beside_laws.proofs.Own.Words.{LexemeEnds}
use Rattle.wt_beside_laws.proofs.Own.Reading.{Flag, flag_behind, lexeme_break, signs_break}

-- ---- what a line shows

abbrev NoneShown : List Item → Type 0
NoneShown [] = Unit {0}
NoneShown (x ∷ xs) = (is_shown x ≡ false) × NoneShown xs

not_shown : (xs : List Item) → NoneShown xs → ShownLast xs → ⊥
not_shown [] h s = s
not_shown (x ∷ xs) h (inl s) = let no : false ≡ true = sym h.0 ∙ s.0 in cc
not_shown (x ∷ xs) h (inr s) = not_shown xs h.1 s

none_both : (xs ys : List Item) → NoneShown xs → NoneShown ys → NoneShown (xs ++ ys)
none_both [] ys h g = g
none_both (x ∷ xs) ys h g = (h.0, none_both xs ys h.1 g)

breaks_split : (xs ys : List Item) → NoBreaks (xs ++ ys) → NoBreaks xs × NoBreaks ys
breaks_split [] ys h = (tt, h)
breaks_split (x ∷ xs) ys h = let r = breaks_split xs ys h.1 in ((h.0, r.0), r.1)

shown_split : (xs ys : List Item) → ShownLast (xs ++ ys) → (ShownLast xs × NoBreaks ys) ⊎ ShownLast ys
shown_split [] ys s = inr s
shown_split (x ∷ xs) ys (inl s) = let r = breaks_split xs ys s.1 in inl (inl (s.0, r.0), r.1)
shown_split (x ∷ xs) ys (inr s) = elim (shown_split xs ys s) [
  | inl r ↦ inl (inr r.0, r.1)
  | inr r ↦ inr r
]

pub shown_behind : (xs ys : List Item) → ShownLast ys → ShownLast (xs ++ ys)
shown_behind [] ys s = s
shown_behind (x ∷ xs) ys s = inr (shown_behind xs ys s)

-- ---- the last item is no mark that nothing ends

abbrev pub ClosedLast : List Item → Type 0
ClosedLast [] = Unit {0}
ClosedLast (x ∷ []) = is_unclosed_item (Some x) ≡ false
ClosedLast (x ∷ y ∷ ys) = ClosedLast (y ∷ ys)

pub closed_behind : (xs ys : List Item) → ClosedLast (xs ++ ys) → ClosedLast ys
closed_behind [] ys h = h
closed_behind (x ∷ []) [] h = tt
closed_behind (x ∷ []) (y ∷ ys) h = h
closed_behind (x ∷ z ∷ xs) ys h = closed_behind (z ∷ xs) ys h

last_step : (x y : Item) (ys : List Item) → last_of (x ∷ y ∷ ys) ≡ last_of (y ∷ ys)
last_step x y ys =
    let one : suc (suc (length ys)) - 1 ≡ suc (length ys) = omega arith in
    let two : suc (length ys) - 1 ≡ length ys = omega arith in
    ap (slice_get (x ∷ y ∷ ys)) one ∙ ap (slice_get (y ∷ ys)) (sym two)

pub last_closed : (xs : List Item) → is_unclosed_item (last_of xs) ≡ false → ClosedLast xs
last_closed [] e = tt
last_closed (x ∷ []) e = e
last_closed (x ∷ y ∷ ys) e = last_closed (y ∷ ys) (sym (ap is_unclosed_item (last_step x y ys)) ∙ e)

-- ---- what goes on to the text's end is its last item

nothing_left : (a : Bool) (q : List ℕ) → items_from a (length q) q ≡ []
nothing_left a [] = refl
nothing_left a (b ∷ q) = nothing_left (is_break b) q

word_alone : (a : Bool) (b : ℕ) (q : List ℕ) (kind : LexKind) → form_at Page a (b ∷ q) ≡ Some (kind, suc (length q)) → items_from a 0 (b ∷ q) ≡ items_of_word kind (b ∷ q)
word_alone a b q kind e =
    form_from a b q kind (length q) e
    ∙ ap (λ (bs : List ℕ). items_of_word kind (b ∷ bs) ++ items_from (is_break b) (length q) q) (take_all (length q) q (omega arith))
    ∙ ap (λ (xs : List Item). items_of_word kind (b ∷ q) ++ xs) (nothing_left (is_break b) q)
    ∙ append-nil (items_of_word kind (b ∷ q))

-- no line of comments where comments and blanks go on to the end
no_line : (a : Bool) (bs : List ℕ) → remarks_len 0 bs ≡ length bs → comment_line_word a bs ≡ None
unfolding comment_line_len
no_line false bs e = refl
no_line true bs e = by (nat_lt (blank_len bs) (remarks_len 0 bs) && is_break (slice_index bs (remarks_len 0 bs))) refl
  where
    by : (t : Bool) → (nat_lt (blank_len bs) (remarks_len 0 bs) && is_break (slice_index bs (remarks_len 0 bs))) ≡ t
        → as_word lex.CommentLine (if t then Some (remarks_len 0 bs + 1) else None) ≡ None
    by false f = refl
    by true f =
        let n : ℕ = remarks_len 0 bs in
        let last = byte_is bs n 10 (and_right (nat_lt (blank_len bs) n) (is_break (slice_index bs n)) f) in
        let there = is_within bs n 10 last (omega arith) in
        absurd (omega (arith, there, e))

abbrev past_comment : List ℕ → Option Word
past_comment bs = option_or (as_word lex.Raw (raw_len bs)) (option_or (include_at Page bs) (option_or (entity_word (entity_at bs)) (sign_word bs)))

comment_form : (a : Bool) (bs : List ℕ) (c : ℕ) → comment_line_word a bs ≡ None → comment_len bs ≡ Some c → form_at Page a bs ≡ Some (lex.Comment, c)
unfolding form_at
comment_form a bs c e f =
    ap (λ (o : Option Word). option_or o (option_or (as_word lex.Comment (comment_len bs)) (past_comment bs))) e
    ∙ ap (λ (o : Option ℕ). option_or (as_word lex.Comment o) (past_comment bs)) f

other_form : (a : Bool) (bs : List ℕ) → comment_line_word a bs ≡ None → form_at Page a bs ≡ form_at Page false bs
unfolding form_at
other_form a bs e = ap (λ (o : Option Word). option_or o (option_or (as_word lex.Comment (comment_len bs)) (past_comment bs))) e

-- ---- a comment that nothing ends

holds_stands : (w bs : List ℕ) → starts_with nat_eq [] w ≡ false → holds w bs ≡ stands w bs
holds_stands w [] e = e
holds_stands w (b ∷ bs) e = ap (λ (v : Bool). begins w (b ∷ bs) || v) (holds_stands w bs e)

not_both : (u : Bool) → not u ≡ false → u ≡ false → ⊥
not_both true e f = cc
not_both false e f = cc

open_comment : (a : Bool) (b : ℕ) (q : List ℕ) → begins (codes "<!--") (b ∷ q) ≡ true → stands (codes "-->") (drop 4 (b ∷ q)) ≡ false
    → ClosedLast (items_from a 0 (b ∷ q)) → ⊥
open_comment a b q e f c =
    let bs : List ℕ = b ∷ q in
    let size : comment_len bs ≡ Some (length bs) = open_comment_len bs e f (begins_len (codes "<!--") bs e) in
    let is : items_from a 0 bs ≡ whole form.Comment None bs ∷ [] =
    word_alone a b q lex.Comment (comment_form a bs (length bs) (no_line a bs (remarks_all bs size)) size) in
    let closed : not (holds (codes "-->") (drop 4 bs)) ≡ false = subst ClosedLast is c in
    not_both (holds (codes "-->") (drop 4 bs)) closed (holds_stands (codes "-->") (drop 4 bs) refl ∙ f)

-- ---- a hidden part that nothing ends

opening_not : (x : ℕ) (bs : List ℕ) → is_ascii_alphabetic x ≡ false → opening_tag (60 ∷ x ∷ bs) ≡ None
unfolding opening_tag
opening_not x bs e = rw e refl

opening_none : opening_tag (60 ∷ []) ≡ None
unfolding opening_tag
opening_none = refl

record IsNamed (bs : List ℕ) : Type 0 where
  letter : ℕ
  more : List ℕ
  is : bs ≡ letter ∷ more
  is_letter : is_ascii_alphabetic letter ≡ true

named : (bs : List ℕ) (t : Tag) → opening_tag (60 ∷ bs) ≡ Some t → IsNamed bs
named [] t e = let z : None ≡ Some t = sym opening_none ∙ e in absurd (cc)
named (x ∷ bs) t e = by (is_ascii_alphabetic x) refl
  where
    by : (v : Bool) → is_ascii_alphabetic x ≡ v → IsNamed (x ∷ bs)
    by true f = record { letter = x; more = bs; is = refl; is_letter = f }
    by false f = let z : None ≡ Some t = sym (opening_not x bs f) ∙ e in absurd (cc)

no_mark : (x : ℕ) → is_ascii_alphabetic x ≡ true → x ≢ 33
no_mark x e g = let z : true ≡ false = sym e ∙ ap is_ascii_alphabetic g in cc

if_none : (v : Bool) → ◌≡◌ {A = Option ℕ} (if v then None else None) None
if_none true = refl
if_none false = refl

raw_none : (bs : List ℕ) (t : Tag) → opening_tag bs ≡ Some t → with_inside t bs ≡ None → raw_len bs ≡ None
unfolding raw_len
raw_none bs t e f =
    ap (λ (o : Option Tag). raw_by is_raw_name o bs) e ∙ ap (λ (o : Option ℕ). if is_raw_name t.name then o else None) f ∙ if_none (is_raw_name t.name)

include_hidden : (bs : List ℕ) (t : Tag) → opening_tag bs ≡ Some t → hides Page t.name ≡ true → with_inside t bs ≡ None → include_at Page bs ≡ Some (lex.Hidden, length bs)
unfolding include_at
include_hidden bs t e h f =
    ap (λ (o : Option Tag). option_or (opening_include Page o bs) (closing_include Page (closing_tag bs))) e
    ∙ ap (λ (v : Bool). option_or (if v then Some (lex.Hidden, hidden_len t bs) else (if is_left_out Page t.name then Some (lex.Include, t.len) else None))
    (closing_include Page (closing_tag bs))) h
    ∙ ap (λ (o : Option ℕ). Some (lex.Hidden, unwrap_or o (length bs))) f

past_hidden : (bs : List ℕ) → comment_len bs ≡ None → raw_len bs ≡ None → include_at Page bs ≡ Some (lex.Hidden, length bs) → form_at Page false bs ≡ Some (lex.Hidden, length bs)
unfolding form_at
past_hidden bs c r i =
    ap (λ (o : Option ℕ). option_or (as_word lex.Comment o) (past_comment bs)) c
    ∙ ap (λ (o : Option ℕ). option_or (as_word lex.Raw o) (option_or (include_at Page bs) (option_or (entity_word (entity_at bs)) (sign_word bs)))) r
    ∙ ap (λ (o : Option Word). option_or o (option_or (entity_word (entity_at bs)) (sign_word bs))) i

hidden_named : (a : Bool) (x : ℕ) (cs : List ℕ) (t : Tag) → is_ascii_alphabetic x ≡ true → opening_tag (60 ∷ x ∷ cs) ≡ Some t → hides Page t.name ≡ true
    → with_inside t (60 ∷ x ∷ cs) ≡ None → form_at Page a (60 ∷ x ∷ cs) ≡ Some (lex.Hidden, length (60 ∷ x ∷ cs))
hidden_named a x cs t letter e h f =
    let bs : List ℕ = 60 ∷ x ∷ cs in
    let uncommented : comment_len bs ≡ None = comment_not x cs (no_mark x letter) in
    either_flag Page a bs (uncommented_other 60 (x ∷ cs) refl uncommented)
    ∙ past_hidden bs uncommented (raw_none bs t e f) (include_hidden bs t e h f)

hidden_form : (a : Bool) (b : ℕ) (q : List ℕ) (t : Tag) → b ≡ 60 → opening_tag (b ∷ q) ≡ Some t → hides Page t.name ≡ true → with_inside t (b ∷ q) ≡ None
    → form_at Page a (b ∷ q) ≡ Some (lex.Hidden, length (b ∷ q))
hidden_form a b q t first =
    let P : ℕ → Type 0 = λ (c : ℕ). opening_tag (c ∷ q) ≡ Some t → hides Page t.name ≡ true → with_inside t (c ∷ q) ≡ None
    → form_at Page a (c ∷ q) ≡ Some (lex.Hidden, length (c ∷ q)) in
    subst P (sym first) (λ e h f.
    let n = named q t e in
    let Q : List ℕ → Type 0 = λ (cs : List ℕ). opening_tag (60 ∷ cs) ≡ Some t → with_inside t (60 ∷ cs) ≡ None
    → form_at Page a (60 ∷ cs) ≡ Some (lex.Hidden, length (60 ∷ cs)) in
    subst Q (sym n.is) (λ g k. hidden_named a n.letter n.more t n.is_letter g h k) e f)

open_hidden : (a : Bool) (b : ℕ) (q : List ℕ) (t : Tag) → opening_tag (b ∷ q) ≡ Some t → hides Page t.name ≡ true → with_inside t (b ∷ q) ≡ None
    → ClosedLast (items_from a 0 (b ∷ q)) → ⊥
open_hidden a b q t e h f c =
    let bs : List ℕ = b ∷ q in
    let P : Option Tag → Type 0 = OptTag bs in
    let fits : TagFits bs t = subst P e (opening_fits bs) in
    let is : items_from a 0 bs ≡ whole form.Hidden None bs ∷ [] = word_alone a b q lex.Hidden (hidden_form a b q t fits.first e h f) in
    let closed : is_tag_unclosed (opening_tag bs) bs ≡ false = subst ClosedLast is c in
    let unclosed : is_tag_unclosed (opening_tag bs) bs ≡ true =
    ap (λ (o : Option Tag). is_tag_unclosed o bs) e ∙ ap (λ (o : Option ℕ). not (is_some o)) f in
    let no : false ≡ true = sym closed ∙ unclosed in
    cc

-- ---- the text with a line break behind it

abbrev with_break : ℕ → List ℕ → List ℕ
with_break b q = (b ∷ q) ++ 10 ∷ []

front_is : (b : ℕ) (q : List ℕ) → take (length (b ∷ q)) (with_break b q) ≡ b ∷ q
front_is b q = take-append_seam (b ∷ q) (10 ∷ [])

last_ten : (b : ℕ) (q : List ℕ) (n : ℕ) → n ≡ suc (suc (length q)) → get_or (with_break b q) (n - 1) 0 ≡ 10
last_ten b q n e =
    let at : n - 1 ≡ length (b ∷ q) + 0 = omega (arith, e) in
    ap (λ (i : ℕ). get_or (with_break b q) i 0) at ∙ get_behind (b ∷ q) (10 ∷ []) 0

break_size : (b : ℕ) (q : List ℕ) → length (with_break b q) ≡ suc (suc (length q))
break_size b q = let z = length-append (b ∷ q) (10 ∷ []) in omega (arith, z)

-- ---- comments and blanks up to the line break

skipped_le : (n : ℕ) (bs : List ℕ) → n ≤ length bs → n ≤ remarks_len n bs
skipped_le zero bs le = omega arith
skipped_le (suc n) [] le = absurd (omega (arith, le))
skipped_le (suc n) (b ∷ bs) le = let more = skipped_le n bs (omega (arith, le)) in omega (arith, more)

record CommentStep (b : ℕ) (q : List ℕ) : Type 0 where
  size : ℕ
  is : comment_len (b ∷ q) ≡ Some (suc size)
  within : size ≤ length q
  rest : remarks_len size (q ++ 10 ∷ []) ≡ length q

record BlankStep (b : ℕ) (q : List ℕ) : Type 0 where
  none : comment_len (b ∷ q) ≡ None
  blank : is_blank b ≡ true
  rest : remarks_len 0 (q ++ 10 ∷ []) ≡ length q

remark_step : (b : ℕ) (q : List ℕ) → remarks_len 0 (with_break b q) ≡ suc (length q) → CommentStep b q ⊎ BlankStep b q
remark_step b q e = by (comment_len (with_break b q)) refl e
  where
    blank_step : (t : Bool) → is_blank b ≡ t → comment_len (with_break b q) ≡ None → (if t then 1 + remarks_len 0 (q ++ 10 ∷ []) else 0) ≡ suc (length q) → BlankStep b q
    blank_step true f none g = record {
      none = sym (ap comment_len (front_is b q)) ∙ no_comment_front (with_break b q) (length (b ∷ q)) none;
      blank = f;
      rest = omega (arith, g);
    }
    blank_step false f none g = absurd (omega (arith, g))

    comment_step : (c : ℕ) → comment_len (with_break b q) ≡ Some c → 0 < c → c ≤ length (with_break b q) → 1 + remarks_len (c - 1) (q ++ 10 ∷ []) ≡ suc (length q)
        → CommentStep b q
    comment_step zero f some le g = absurd (omega (arith, some))
    comment_step (suc j) f some le g =
        let z : suc j - 1 ≡ j = omega arith in
        let rest : remarks_len j (q ++ 10 ∷ []) ≡ length q = ap (λ (k : ℕ). remarks_len k (q ++ 10 ∷ [])) (sym z) ∙ omega (arith, g) in
        let long = break_size b q in
        let more = length-append q (10 ∷ []) in
        let skipped = skipped_le j (q ++ 10 ∷ []) (omega (arith, le, long, more)) in
        let within : j ≤ length q = omega (arith, skipped, rest) in
        record {
          size = j;
          is = sym (ap comment_len (front_is b q)) ∙ comment_front (with_break b q) (length (b ∷ q)) (suc j) f (omega (arith, within));
          within = within;
          rest = rest;
        }

    by : (o : Option ℕ) → comment_len (with_break b q) ≡ o → remarks_with o b (λ n. remarks_len n (q ++ 10 ∷ [])) ≡ suc (length q) → CommentStep b q ⊎ BlankStep b q
    by None f g = inr (blank_step (is_blank b) refl f g)
    by (Some c) f g =
        let P : Option ℕ → Type 0 = OptFits (with_break b q) in
        let fits = subst P f (comment_fits (with_break b q)) in
        inl (comment_step c f fits.some fits.within g)

remarks_front : (n : ℕ) (q : List ℕ) → n ≤ length q → remarks_len n (q ++ 10 ∷ []) ≡ length q → remarks_len n q ≡ length q
remarks_front zero [] le e = refl
remarks_front (suc n) [] le e = absurd (omega (arith, le))
remarks_front (suc n) (b ∷ q) le e = let r = remarks_front n q (omega (arith, le)) (omega (arith, e)) in omega (arith, r)
remarks_front zero (b ∷ q) le e = by (remark_step b q e) (λ n. remarks_front n q)
  where
    by : CommentStep b q ⊎ BlankStep b q → ((n : ℕ) → n ≤ length q → remarks_len n (q ++ 10 ∷ []) ≡ length q → remarks_len n q ≡ length q) → remarks_len 0 (b ∷ q) ≡ suc (length q)
    by (inl s) go =
        let r = go s.size s.within s.rest in
        let z : 1 + remarks_len (suc s.size - 1) q ≡ suc (length q) = (let one : suc s.size - 1 ≡ s.size = omega arith in
        ap (λ (k : ℕ). 1 + remarks_len k q) one ∙ omega (arith, r)) in
        ap (λ (o : Option ℕ). remarks_with o b (λ n. remarks_len n q)) s.is ∙ z
    by (inr s) go =
        let r = go 0 (omega arith) s.rest in
        ap (λ (o : Option ℕ). remarks_with o b (λ n. remarks_len n q)) s.none ∙ ap (λ (t : Bool). if t then 1 + remarks_len 0 q else 0) s.blank ∙ omega (arith, r)

blank_form : (b : ℕ) → is_blank b ≡ true → is_form_byte b ≡ false
blank_form b e = elim (either (b == 32) (b == 9) e) [
  | inl f ↦ ap is_form_byte (eqb-true b 32 f)
  | inr f ↦ ap is_form_byte (eqb-true b 9 f)
]

blank_hidden : (b : ℕ) → is_blank b ≡ true → is_shown (char None b) ≡ false
blank_hidden b e = ap (λ (v : Bool). not (v || is_mark_sign b) && not (is_break b)) e

-- nothing is shown there
remarks_shown : (a : Bool) (n : ℕ) (q : List ℕ) → n ≤ length q → remarks_len n (q ++ 10 ∷ []) ≡ length q → NoneShown (items_from a n q)
remarks_shown a zero [] le e = tt
remarks_shown a (suc n) [] le e = absurd (omega (arith, le))
remarks_shown a (suc n) (b ∷ q) le e = remarks_shown (is_break b) n q (omega (arith, le)) (omega (arith, e))
remarks_shown a zero (b ∷ q) le e = by (remark_step b q e) (λ n. remarks_shown (is_break b) n q)
  where
    lineless : comment_line_word a (b ∷ q) ≡ None
    lineless = no_line a (b ∷ q) (remarks_front 0 (b ∷ q) le e)

    by : CommentStep b q ⊎ BlankStep b q → ((n : ℕ) → n ≤ length q → remarks_len n (q ++ 10 ∷ []) ≡ length q → NoneShown (items_from (is_break b) n q))
        → NoneShown (items_from a 0 (b ∷ q))
    by (inl s) go =
        let is = form_from a b q lex.Comment s.size (comment_form a (b ∷ q) (suc s.size) lineless s.is) in
        subst NoneShown (sym is) (refl, go s.size s.within s.rest)
    by (inr s) go =
        let none : form_at Page a (b ∷ q) ≡ None = other_form a (b ∷ q) lineless ∙ other_byte Page b q (blank_form b s.blank) in
        subst NoneShown (sym (byte_from a b q none)) (blank_hidden b s.blank, go 0 (omega arith) s.rest)

-- ---- something is shown from there on, or it was, on the last line

abbrev Shows : Bool → ℕ → List ℕ → Type 0
Shows a n q = ShownLast (items_from a n q) ⊎ (Flag a n q × NoBreaks (items_from a n q))

-- ---- no lexeme takes the line break, too

two_ends : (x : ℕ) → x ≡ 10 → x ≡ 62 → ⊥
two_ends x e f = let no = sym e ∙ f in absurd (omega (arith, no))

tag_short : (b : ℕ) (q : List ℕ) (n : ℕ) → n ≡ suc (suc (length q)) → EndsTag (with_break b q) n → ⊥
tag_short b q n e h = two_ends (get_or (with_break b q) (n - 1) 0) (last_ten b q n e) h.last

none_more : (name ys rest : List ℕ) → to_closing name (ys ++ rest) ≡ None → to_closing name ys ≡ None
none_more name [] rest e = refl
none_more name (b ∷ ys) rest e = by (len_if_named name (closing_tag bs)) (to_closing name (ys ++ rest)) refl refl e (λ f. none_more name ys rest f)
  where
    bs : List ℕ
    bs = (b ∷ ys) ++ rest

    own : len_if_named name (closing_tag bs) ≡ None → (o : Option Tag) → closing_tag (b ∷ ys) ≡ o → len_if_named name o ≡ None
    own e None f = refl
    own e (Some t) f =
        let cut : closing_tag (take (suc (length ys)) bs) ≡ Some t = ap closing_tag (take-append_seam (b ∷ ys) rest) ∙ f in
        ap (len_if_named name) (sym (closing_more bs t (suc (length ys)) cut)) ∙ e

    by : (o p : Option ℕ) → len_if_named name (closing_tag bs) ≡ o → to_closing name (ys ++ rest) ≡ p → option_or o (option_map (λ n. 1 + n) p) ≡ None
        → (to_closing name (ys ++ rest) ≡ None → to_closing name ys ≡ None) → to_closing name (b ∷ ys) ≡ None
    by None None f g e go =
        ap (λ (o : Option ℕ). option_or o (option_map (λ n. 1 + n) (to_closing name ys))) (own f (closing_tag (b ∷ ys)) refl)
        ∙ ap (option_map (λ n. 1 + n)) (go g)
    by None (Some n) f g e go = absurd (cc)
    by (Some n) p f g e go = absurd (cc)

inside_none : (t : Tag) (q rest : List ℕ) → t.len ≤ length q → with_inside t (q ++ rest) ≡ None → with_inside t q ≡ None
unfolding with_inside
inside_none t q rest le e = by t.alone refl e
  where
    mapped : (o : Option ℕ) → option_map (λ n. t.len + n) o ≡ None → o ≡ None
    mapped None f = refl
    mapped (Some n) f = absurd (cc)

    by : (v : Bool) → t.alone ≡ v → (if v then Some t.len else option_map (λ n. t.len + n) (to_closing t.name (drop t.len (q ++ rest)))) ≡ None
        → (if v then Some t.len else option_map (λ n. t.len + n) (to_closing t.name (drop t.len q))) ≡ None
    by true f g = absurd (cc)
    by false f g =
        let none = mapped (to_closing t.name (drop t.len (q ++ rest))) g in
        ap (option_map (λ n. t.len + n))
        (none_more t.name (drop t.len q) rest (ap (to_closing t.name) (sym (drop-append-le t.len q rest le)) ∙ none))

hidden_short : (a : Bool) (b : ℕ) (q : List ℕ) (n : ℕ) → OpenHidden (with_break b q) n → ClosedLast (items_from a 0 (b ∷ q)) → ⊥
hidden_short a b q n h c =
    let bs : List ℕ = with_break b q in
    let P : Option Tag → Type 0 = OptTag bs in
    let fits : TagFits bs h.tag = subst P h.is (opening_fits bs) in
    let long = break_size b q in
    let short : h.tag.len ≤ length (b ∷ q) = elim (cases_lt h.tag.len (suc (suc (length q)))) [
      | inl lt ↦ omega (arith, lt)
      | inr le ↦
          let full : h.tag.len ≡ suc (suc (length q)) = (let in_it = fits.within in omega (arith, le, in_it, long)) in
          absurd (two_ends (get_or bs (h.tag.len - 1) 0) (last_ten b q h.tag.len full) fits.last)
    ] in
    let own : opening_tag (b ∷ q) ≡ Some h.tag = sym (ap opening_tag (front_is b q)) ∙ opening_front bs h.tag (length (b ∷ q)) h.is short in
    open_hidden a b q h.tag own h.hidden (inside_none h.tag (b ∷ q) (10 ∷ []) short h.unended) c

stands_more : (w xs rest : List ℕ) → stands w xs ≡ true → stands w (xs ++ rest) ≡ true
stands_more w [] rest e = cc
stands_more w (x ∷ xs) rest e = elim (either (begins w (x ∷ xs)) (stands w xs) e) [
  | inl f ↦
      let there : begins w ((x ∷ xs) ++ rest) ≡ true =
      begins_more w ((x ∷ xs) ++ rest) (length (x ∷ xs)) (ap (begins w) (take-append_seam (x ∷ xs) rest) ∙ f) in
      ap (λ (v : Bool). v || stands w (xs ++ rest)) there
  | inr f ↦ or_true (begins w ((x ∷ xs) ++ rest)) (stands w (xs ++ rest)) (stands_more w xs rest f)
]
  where
    or_true : (u v : Bool) → v ≡ true → (u || v) ≡ true
    or_true true v e = refl
    or_true false v e = e

comment_short : (a : Bool) (b : ℕ) (q : List ℕ) (n : ℕ) → OpenComment (with_break b q) n → ClosedLast (items_from a 0 (b ∷ q)) → ⊥
comment_short a b q n h c =
    let bs : List ℕ = with_break b q in
    let long = break_size b q in
    let four = begins_len (codes "<!--") bs h.opens in
    let fourth : get_or bs 3 0 ≡ 45 = begins_get (codes "<!--") bs h.opens 3 (omega arith) in
    let short : 4 ≤ length (b ∷ q) = elim (cases_lt (length (b ∷ q)) 4) [
      | inl lt ↦
          let three : 4 ≡ suc (suc (length q)) = omega (arith, lt, four, long) in
          let ten : get_or bs 3 0 ≡ 10 = last_ten b q 4 three in
          absurd (let no = sym fourth ∙ ten in omega (arith, no))
      | inr le ↦ le
    ] in
    let opens : begins (codes "<!--") (b ∷ q) ≡ true =
    sym (ap (begins (codes "<!--")) (front_is b q)) ∙ begins_front (codes "<!--") bs (length (b ∷ q)) short h.opens in
    let cut : drop 4 bs ≡ drop 4 (b ∷ q) ++ 10 ∷ [] = drop-append-le 4 (b ∷ q) (10 ∷ []) short in
    let nowhere : stands (codes "-->") (drop 4 (b ∷ q) ++ 10 ∷ []) ≡ false = sym (ap (stands (codes "-->")) cut) ∙ h.nowhere in
    open_comment a b q opens (none_front (stands (codes "-->") (drop 4 (b ∷ q))) refl nowhere) c
  where
    none_front : (v : Bool) → stands (codes "-->") (drop 4 (b ∷ q)) ≡ v → stands (codes "-->") (drop 4 (b ∷ q) ++ 10 ∷ []) ≡ false → v ≡ false
    none_front true f g = let no : true ≡ false = sym (stands_more (codes "-->") (drop 4 (b ∷ q)) (10 ∷ []) f) ∙ g in cc
    none_front false f g = refl

line_short : (a : Bool) (b : ℕ) (q : List ℕ) (n : ℕ) → n ≡ suc (suc (length q)) → LineEnds a (with_break b q) n → Shows a 0 (b ∷ q) → ⊥
line_short a b q n e h (inl s) =
    let size = h.size in
    not_shown (items_from a 0 (b ∷ q)) (remarks_shown a 0 (b ∷ q) (omega arith) (omega (arith, size, e))) s
line_short a b q n e h (inr f) = let no : true ≡ false = sym h.after ∙ f.0 in cc

lexeme_short : (b : ℕ) (q : List ℕ) (n : ℕ) → n ≡ suc (suc (length q)) → is_break (get_or (with_break b q) (n - 1) 0) ≡ false → ⊥
lexeme_short b q n e f = let no : true ≡ false = sym (ap is_break (last_ten b q n e)) ∙ f in cc

entity_short : (b : ℕ) (q : List ℕ) (n : ℕ) → n ≡ suc (suc (length q)) → LexemeEnds (with_break b q) n → ⊥
entity_short b q n e h = by n e h
  where
    by : (m : ℕ) → m ≡ suc (suc (length q)) → LexemeEnds (with_break b q) m → ⊥
    by zero e h = omega (arith, e)
    by (suc j) e h =
        let z : suc j - 1 ≡ j = omega arith in
        lexeme_short b q (suc j) e (ap (λ (i : ℕ). is_break (get_or (with_break b q) i 0)) z ∙ lexeme_break (with_break b q) j h)

signs_short : (b : ℕ) (q : List ℕ) (n : ℕ) → n ≡ suc (suc (length q)) → AreSigns (take n (with_break b q)) → ⊥
signs_short b q n e h = by n e h
  where
    by : (m : ℕ) → m ≡ suc (suc (length q)) → AreSigns (take m (with_break b q)) → ⊥
    by zero e h = omega (arith, e)
    by (suc j) e h =
        let z : suc j - 1 ≡ j = omega arith in
        let long = break_size b q in
        lexeme_short b q (suc j) e (ap (λ (i : ℕ). is_break (get_or (with_break b q) i 0)) z ∙ signs_break j (with_break b q) (omega (arith, e, long)) h)

kind_short : (a : Bool) (b : ℕ) (q : List ℕ) (kind : LexKind) (n : ℕ) → AnyEnds a kind (with_break b q) n → IsAnyWord kind (take n (with_break b q))
    → n ≡ suc (suc (length q)) → Shows a 0 (b ∷ q) → ClosedLast (items_from a 0 (b ∷ q)) → ⊥
kind_short a b q lex.Chars n h w e s c = h
kind_short a b q lex.CommentLine n h w e s c = line_short a b q n e h s
kind_short a b q lex.Comment n (inl o) w e s c = comment_short a b q n o c
kind_short a b q lex.Comment n (inr h) w e s c = tag_short b q n e h
kind_short a b q lex.Raw n h w e s c = tag_short b q n e h
kind_short a b q lex.Include n h w e s c = tag_short b q n e h
kind_short a b q lex.Hidden n (inl o) w e s c = hidden_short a b q n o c
kind_short a b q lex.Hidden n (inr h) w e s c = tag_short b q n e h
kind_short a b q (lex.Entity k) n h w e s c = entity_short b q n e h
kind_short a b q lex.Opens n h w e s c = signs_short b q n e w
kind_short a b q lex.Closes n h w e s c = signs_short b q n e w
kind_short a b q lex.LinkOpen n h w e s c = signs_short b q n e w
kind_short a b q lex.LinkClose n h w e s c = signs_short b q n e w
kind_short a b q lex.Pipe n h w e s c = signs_short b q n e w
kind_short a b q lex.Equals n h w e s c = signs_short b q n e w

-- so it is read the same
same_form : (a : Bool) (b : ℕ) (q : List ℕ) → Shows a 0 (b ∷ q) → ClosedLast (items_from a 0 (b ∷ q)) → form_at Page a (with_break b q) ≡ form_at Page a (b ∷ q)
same_form a b q s c = by (form_at Page a (with_break b q)) refl (lexemes_front Page a (b ∷ q) (10 ∷ []))
  where
    by : (o : Option Word) → form_at Page a (with_break b q) ≡ o → IsFrontOf (lexer Page) (b ∷ q) o (form_at Page a (b ∷ q)) → o ≡ form_at Page a (b ∷ q)
    by None f h = sym h
    by (Some (kind, n)) f h = elim (cases_lt n (suc (suc (length q)))) [
      | inl lt ↦ sym (h (omega (arith, lt)))
      | inr le ↦
          let fits = form_fits Page a (with_break b q) (kind, n) f in
          let long = break_size b q in
          absurd (kind_short a b q kind n (any_ends a (with_break b q) kind n f) (any_word a (with_break b q) kind n f) (omega (arith, fits.within, long, le)) s c)
    ]

-- ---- what is known behind a lexeme

tag_unbroken : (bs : List ℕ) (j : ℕ) → EndsTag bs (suc j) → is_break (get_or bs j 0) ≡ false
tag_unbroken bs j h =
    let z : suc j - 1 ≡ j = omega arith in
    ap (λ (i : ℕ). is_break (get_or bs i 0)) (sym z) ∙ ap is_break h.last

-- it shows something, or none was at a line's begin
abbrev Unled : Bool → LexKind → List ℕ → Type 0
Unled a kind word = (a ≡ false) ⊎ ShownLast (items_of_word kind word)

mark_shown : (f : ItemForm) (bs : List ℕ) → is_shown (whole f None bs) ≡ false → ShownLast (whole f None bs ∷ []) → ⊥
mark_shown f bs e (inl s) = let no : false ≡ true = sym e ∙ s.0 in cc
mark_shown f bs e (inr s) = s

flag_of : (a : Bool) (b : ℕ) (q : List ℕ) (kind : LexKind) (j : ℕ) → j ≤ length q → AnyEnds a kind (b ∷ q) (suc j) → IsAnyWord kind (b ∷ take j q)
    → Unled a kind (b ∷ take j q) → ClosedLast (items_from a 0 (b ∷ q)) → is_break (get_or (b ∷ q) j 0) ≡ false
flag_of a b q lex.Chars j le h w u c = absurd h
flag_of a b q lex.CommentLine j le h w (inl f) c = absurd (let no : true ≡ false = sym h.after ∙ f in cc)
flag_of a b q lex.CommentLine j le h w (inr s) c = absurd (mark_shown form.Comment (b ∷ take j q) refl s)
flag_of a b q lex.Comment j le (inl o) w u c = absurd (open_comment a b q o.opens o.nowhere c)
flag_of a b q lex.Comment j le (inr h) w u c = tag_unbroken (b ∷ q) j h
flag_of a b q lex.Raw j le h w u c = tag_unbroken (b ∷ q) j h
flag_of a b q lex.Include j le h w u c = tag_unbroken (b ∷ q) j h
flag_of a b q lex.Hidden j le (inl o) w u c = absurd (open_hidden a b q o.tag o.is o.hidden o.unended c)
flag_of a b q lex.Hidden j le (inr h) w u c = tag_unbroken (b ∷ q) j h
flag_of a b q (lex.Entity k) j le h w u c = lexeme_break (b ∷ q) j h
flag_of a b q lex.Opens j le h w u c = signs_break j (b ∷ q) (omega (arith, le)) w
flag_of a b q lex.Closes j le h w u c = signs_break j (b ∷ q) (omega (arith, le)) w
flag_of a b q lex.LinkOpen j le h w u c = signs_break j (b ∷ q) (omega (arith, le)) w
flag_of a b q lex.LinkClose j le h w u c = signs_break j (b ∷ q) (omega (arith, le)) w
flag_of a b q lex.Pipe j le h w u c = signs_break j (b ∷ q) (omega (arith, le)) w
flag_of a b q lex.Equals j le h w u c = signs_break j (b ∷ q) (omega (arith, le)) w

shown_break : (b : ℕ) → is_shown (char None b) ≡ true → is_break b ≡ false
shown_break b e = flipped (is_break b) (and_right (not (is_idle b)) (not (is_break b)) e)
  where
    flipped : (v : Bool) → not v ≡ true → v ≡ false
    flipped true f = cc
    flipped false f = refl

byte_shows : (a : Bool) (b : ℕ) (q : List ℕ) → form_at Page a (b ∷ q) ≡ None → Shows a 0 (b ∷ q) → Shows (is_break b) 0 q
byte_shows a b q e (inl s) = by (subst ShownLast (byte_from a b q e) s)
  where
    by : ShownLast (char None b ∷ items_from (is_break b) 0 q) → Shows (is_break b) 0 q
    by (inl t) = inr (shown_break b t.0, t.1)
    by (inr t) = inl t
byte_shows a b q e (inr h) = let n = subst NoBreaks (byte_from a b q e) h.1 in inr (n.0, n.1)

word_shows : (a : Bool) (b : ℕ) (q : List ℕ) (kind : LexKind) (j : ℕ) → form_at Page a (b ∷ q) ≡ Some (kind, suc j) → ClosedLast (items_from a 0 (b ∷ q))
    → Shows a 0 (b ∷ q) → Shows (is_break b) j q
word_shows a b q kind j e c s = by s
  where
    own : List Item
    own = items_of_word kind (b ∷ take j q)

    rest : List Item
    rest = items_from (is_break b) j q

    is : items_from a 0 (b ∷ q) ≡ own ++ rest
    is = form_from a b q kind j e

    flag : Unled a kind (b ∷ take j q) → Flag (is_break b) j q
    flag u =
        let fits = form_fits Page a (b ∷ q) (kind, suc j) e in
        flag_behind b j q
        (flag_of a b q kind j (omega (arith, fits.within)) (any_ends a (b ∷ q) kind (suc j) e) (any_word a (b ∷ q) kind (suc j) e) u c)

    split : (ShownLast own × NoBreaks rest) ⊎ ShownLast rest → Shows (is_break b) j q
    split (inl t) = inr (flag (inr t.0), t.1)
    split (inr t) = inl t

    by : Shows a 0 (b ∷ q) → Shows (is_break b) j q
    by (inl t) = split (shown_split own rest (subst ShownLast is t))
    by (inr h) = inr (flag (inl h.0), (breaks_split own rest (subst NoBreaks is h.1)).1)

-- ---- all lexemes

settled_by : (a : Bool) (b : ℕ) (q : List ℕ) (o : Option Word) → form_at Page a (b ∷ q) ≡ o → ClosedLast (items_from a 0 (b ∷ q)) → Shows a 0 (b ∷ q)
    → ((n : ℕ) → n ≤ length q → ClosedLast (items_from (is_break b) n q) → Shows (is_break b) n q → Settles (lexer Page) (10 ∷ []) (is_break b) n q)
    → Settles (lexer Page) (10 ∷ []) (is_break b) (skipped_by (lexer Page) o) q
settled_by a b q None e c s go =
    go 0 (omega arith) (closed_behind (char None b ∷ []) (items_from (is_break b) 0 q) (subst ClosedLast (byte_from a b q e) c)) (byte_shows a b q e s)
settled_by a b q (Some (kind, zero)) e c s go = let fits = form_fits Page a (b ∷ q) (kind, zero) e in absurd (omega (arith, fits.some))
settled_by a b q (Some (kind, suc j)) e c s go =
    let fits = form_fits Page a (b ∷ q) (kind, suc j) e in
    let z : suc j - 1 ≡ j = omega arith in
    subst (λ (n : ℕ). Settles (lexer Page) (10 ∷ []) (is_break b) n q) (sym z)
    (go j (omega (arith, fits.within))
    (closed_behind (items_of_word kind (b ∷ take j q)) (items_from (is_break b) j q) (subst ClosedLast (form_from a b q kind j e) c))
    (word_shows a b q kind j e c s))

settled : (a : Bool) (n : ℕ) (q : List ℕ) → n ≤ length q → ClosedLast (items_from a n q) → Shows a n q → Settles (lexer Page) (10 ∷ []) a n q
settled a zero [] le c s = refl
settled a (suc n) [] le c s = absurd (omega (arith, le))
settled a (suc n) (b ∷ q) le c s = settled (is_break b) n q (omega (arith, le)) c (moved s)
  where
    moved : Shows a (suc n) (b ∷ q) → Shows (is_break b) n q
    moved (inl t) = inl t
    moved (inr t) = inr (flag_behind b n q t.0, t.1)
settled a zero (b ∷ q) le c s = (
  same_form a b q s c,
  settled_by a b q (form_at Page a (b ∷ q)) refl c s (λ n. settled (is_break b) n q),
)

-- ---- the end

break_alone : page_items (10 ∷ []) ≡ char None 10 ∷ []
break_alone = page_from (10 ∷ []) ∙ byte_from false 10 [] (other_byte Page 10 [] refl)

-- so nothing is open at its end
pub closed_end : (q : List ℕ) → ShownLast (page_items q) → ClosedLast (page_items q) → EndsClosed q []
closed_end q s c =
    let ends : Settles (lexer Page) (10 ∷ []) false 0 q =
    settled false 0 q (omega arith) (subst ClosedLast (page_from q) c) (inl (subst ShownLast (page_from q) s)) in
    let after : Bool = after_all (lexer Page) false q in
    let behind : ReadsAfter after (10 ∷ []) (char None 10 ∷ []) =
    reads_after after (10 ∷ []) (char None 10 ∷ [])
    (reads_either (10 ∷ []) (char None 10 ∷ []) (there_begins (10 ∷ []) refl)
    (subst (λ (xs : List Item). ReadsAfter false (10 ∷ []) xs) break_alone (alone_reads (10 ∷ [])))) in
    page_read (q ++ 10 ∷ []) (page_items q ++ char None 10 ∷ []) (front_reads q (10 ∷ []) (char None 10 ∷ []) ends behind)

pub closed_page : (page : List ℕ) → ShownLast (page_items page) → is_unclosed_item (last_of (page_items page)) ≡ false → EndsClosed page []
closed_page page s e = closed_end page s (last_closed (page_items page) e)

-- What is first on a line: something that is shown, or marks behind which something is shown. So the line is no line of comments.
use Rattle.std.proofs.Common.{arith, ◌≡◌, ℕ, zero, suc, ◌+◌, ◌-◌, ◌<◌, ◌≤◌, ◌==◌, Bool, true, false, Option, Some, None, List, [], ◌∷◌, ◌++◌, length, map, refl, sym, ap, ◌∙◌, subst, inl, inr, append-nil, append_assoc, All}
use Rattle.std.specs.Prelude.{◌&&◌, ◌||◌, codes, encode_utf8, nat_lt, slice_index, if◌then◌else◌}
use Rattle.std.specs.Option.{option_or}
use Rattle.std.proofs.lemmas.Bool.{cases_lt, eqb-true}
use Rattle.std.proofs.lemmas.Bool.Decides.{nat_tests}
use Rattle.std.proofs.lemmas.List.Elements.{All-head}
use Rattle.std.proofs.lemmas.Str.{encode_ascii}
use Rattle.wt_span.specs.declared.form.Mode.TheVariants.{Page}
use Rattle.wt_span.specs.declared.form.LexKind.{LexKind}
use Rattle.wt_span.specs.declared.form.LexKind.TheVariants.{CommentLine, Comment, Raw}
use Rattle.wt_span.specs.declared.form.ItemForm.TheVariants as form
use Rattle.wt_span.specs.Bytes.{is_blank, is_break, blank_len}
use Rattle.wt_span.specs.Comments.{comment_len, comment_line_len, remarks_len, remarks_with}
use Rattle.wt_span.specs.Tags.{raw_len, include_at}
use Rattle.wt_span.specs.Entities.{entity_at}
use Rattle.wt_span.specs.Items.{Item, char, whole}
use Rattle.wt_span.specs.Lexemes.{as_word, entity_word, sign_word, form_at, cuts}
use Rattle.wt_lex.proofs.AllForms.{form_fits}
use Rattle.wt_lex.proofs.Cuts.{cuts_cons}
use Rattle.wt_names.proofs.Ascii.{IsWide, encode_wide, encode_some}
use Rattle.wt_guards.specs.declared.role.Role.{Role}
use Rattle.wt_guards.specs.Content.{ContentSign, Thing, letter, thing, ends_line}
use Rattle.wt_guards.specs.Letters.{is_escaped, written_by}
use Rattle.wt_guards.specs.Guards.{Setting, nowiki, nowiki_if, is_guarded, is_line_begun, is_empty_line, is_mark as is_mark_role, spelled_from}
use Rattle.wt_guards.specs.Table.{line_start_hazard}
use Rattle.wt_guards.proofs.Escapes.{escapable}
use Rattle.wt_expand.specs.PageItems.{page_items}
use Rattle.wt_typed_blocks.proofs.Forms.{comment_other, comment_not, other_byte, IsTame}
use Rattle.wt_typed_blocks.proofs.Lines.{is_free}
use Rattle.wt_typed_blocks.proofs.TextKinds.{OpensText}
use Rattle.wt_typed_blocks.proofs.TextReads.{equal_or, apart}
use Rattle.wt_tiles.specs.declared.glyph.Glyph.{Glyph}
use Rattle.wt_tiles.specs.declared.glyph.Glyph.TheVariants as glyph
use Rattle.wt_tiles.specs.Glyphs.{glyph_of}
use Rattle.wt_text_edit_laws.specs.ReadContents.{joins_reference, BeginsUnjoined}
use Rattle.wt_text_edit_laws.proofs.Between.Fronts.{ReadsAfter, reads_after, items_from, first_items, first_from, byte_from, form_from}
use Rattle.wt_text_edit_laws.proofs.Between.LineForms.{get_behind}
use Rattle.wt_text_edit_laws.proofs.Between.LineRemarks.{blank_form, comment_form as comment_word}
use Rattle.wt_text_edit_laws.proofs.Prose.InFront.{reads_nothing, read_items}
use Rattle.wt_text_edit_laws.proofs.Prose.Uncommented.{BeginsUncommented, uncommented_other}
use Rattle.wt_text_edit_laws.proofs.Texts.TypedItems.{items_cut, references, wide_tame, tame_if}
use Rattle.wt_beside_laws.specs.Commented.{IsComment, IsCommentLine, BeginsShown, IsReadInLine, IsHeld, EndsAsSaid}
use Rattle.wt_beside_laws.specs.Content.{AreKept}
use Rattle.wt_beside_laws.specs.Cuts.{own_glyphs}
use Rattle.wt_beside_laws.specs.Kept.{Part, characters, sign, lexeme, IsLexeme, AreParts, parts_source, parts_items, IsKept}
use Rattle.wt_beside_laws.specs.NodeItems.{node_items}
use Rattle.wt_beside_laws.specs.Nodes.{IsNode, AreNodes}
use Rattle.wt_beside_laws.proofs.Contents.{further, begin_letter}
use Rattle.wt_beside_laws.proofs.Firm.{ReadsAs, alone_as, parts_read, less_firm}
use Rattle.wt_beside_laws.proofs.LineKinds.{no_break, FirstOpens, node_opens, mark_is, mark_begun, mark_unempty, begun_free, both_free, or_none}
use Rattle.wt_beside_laws.proofs.Marks.InLine.{InLine, comment_in, comment_line}
use Rattle.wt_beside_laws.proofs.Marks.Ends.{line_ended, ended_role}
use Rattle.wt_beside_laws.proofs.Marks.Uncommented.{joined_none}
use Rattle.wt_beside_laws.proofs.NodeItems.{node_read, node_as, node_same}

-- ---- something that is shown is first

pub record IsShownFirst (bs : List ℕ) : Type 0 where
  pub first : ℕ
  pub others : List ℕ
  pub is : bs ≡ first ∷ others
  pub blank : is_blank first ≡ false
  pub break : (first == 10) ≡ false
  pub none : comment_len (first ∷ others) ≡ None

pub shown_begins : (bs : List ℕ) → IsShownFirst bs → BeginsUncommented bs
shown_begins bs h = subst BeginsUncommented (sym h.is) (uncommented_other h.first h.others h.blank h.none)

-- ---- or it is behind marks

-- behind the comments and blanks that begin these bytes the line goes on
abbrev pub IsSeen : List ℕ → Type 0
IsSeen bs = is_break (slice_index bs (remarks_len 0 bs)) ≡ false

none_first : (b : ℕ) (bs : List ℕ) → is_blank b ≡ false → comment_len (b ∷ bs) ≡ None → remarks_len 0 (b ∷ bs) ≡ 0
none_first b bs e c = ap (λ o. remarks_with o b (λ n. remarks_len n bs)) c ∙ ap (λ t. if t then 1 + remarks_len 0 bs else 0) e

seen_by : (b : ℕ) (bs : List ℕ) → is_blank b ≡ false → comment_len (b ∷ bs) ≡ None → (b == 10) ≡ false → IsSeen (b ∷ bs)
seen_by b bs e c t = ap (λ (i : ℕ). is_break (slice_index (b ∷ bs) i)) (none_first b bs e c) ∙ t

pub shown_seen : (bs : List ℕ) → IsShownFirst bs → IsSeen bs
shown_seen bs h = subst IsSeen (sym h.is) (seen_by h.first h.others h.blank h.none h.break)

skip_remarks : (q bs : List ℕ) → remarks_len (length q) (q ++ bs) ≡ length q + remarks_len 0 bs
skip_remarks [] bs = omega arith
skip_remarks (b ∷ q) bs = let r = skip_remarks q bs in omega (arith, r)

remarks_behind : (q bs : List ℕ) → IsComment q → remarks_len 0 (60 ∷ (q ++ bs)) ≡ length (60 ∷ q) + remarks_len 0 bs
remarks_behind q bs h =
    let z : suc (length q) - 1 ≡ length q = omega arith in
    let r = skip_remarks q bs in
    let all : 1 + remarks_len (length q) (q ++ bs) ≡ length (60 ∷ q) + remarks_len 0 bs = omega (arith, r) in
    ap (λ o. remarks_with o 60 (λ n. remarks_len n (q ++ bs))) (h.len bs) ∙ ap (λ (n : ℕ). 1 + remarks_len n (q ++ bs)) z ∙ all

pub seen_comment : (q bs : List ℕ) → IsComment q → IsSeen bs → IsSeen ((60 ∷ q) ++ bs)
seen_comment q bs h s =
    ap (λ (i : ℕ). is_break (slice_index (60 ∷ (q ++ bs)) i)) (remarks_behind q bs h)
    ∙ ap is_break (get_behind (60 ∷ q) bs (remarks_len 0 bs)) ∙ s

-- so no line of comments begins there
pub and_none : (a b : Bool) → b ≡ false → (a && b) ≡ false
and_none true b e = e
and_none false b e = refl

no_line : (bs : List ℕ) → IsSeen bs → comment_line_len bs ≡ None
unfolding comment_line_len
no_line bs s =
    ap (λ (t : Bool). if t then Some (remarks_len 0 bs + 1) else None)
    (and_none (nat_lt (blank_len bs) (remarks_len 0 bs)) (is_break (slice_index bs (remarks_len 0 bs))) s)

seen_form : (bs : List ℕ) → IsSeen bs → form_at Page true bs ≡ form_at Page false bs
unfolding form_at
seen_form bs s =
    ap (λ o. option_or (as_word CommentLine o) (option_or (as_word Comment (comment_len bs)) (option_or (as_word Raw (raw_len bs))
    (option_or (include_at Page bs) (option_or (entity_word (entity_at bs)) (sign_word bs)))))) (no_line bs s)

seen_cuts : (bs : List ℕ) → IsSeen bs → cuts Page true 0 bs ≡ cuts Page false 0 bs
seen_cuts [] s = refl
seen_cuts (b ∷ bs) s =
    cuts_cons Page true b bs (form_at Page false (b ∷ bs)) (seen_form (b ∷ bs) s) ∙ sym (cuts_cons Page false b bs (form_at Page false (b ∷ bs)) refl)

pub seen_read : (bs : List ℕ) (xs : List Item) → IsSeen bs → InLine bs xs → ReadsAfter true bs xs
seen_read bs xs s r = record { items = ap (items_cut bs) (seen_cuts bs s) ∙ r.items }

pub seen_back : (bs : List ℕ) (xs : List Item) → IsSeen bs → ReadsAfter true bs xs → InLine bs xs
seen_back bs xs s r = record { items = ap (items_cut bs) (sym (seen_cuts bs s)) ∙ r.items }

-- ---- the items of comments, and of lines of comments

pub comment_node : (q : List ℕ) → IsComment q → node_items (60 ∷ q) ≡ whole form.Comment None (60 ∷ q) ∷ []
comment_node q h =
    let own : List Item = whole form.Comment None (60 ∷ q) ∷ [] in
    let line : InLine ((60 ∷ q) ++ []) (own ++ []) = comment_in q h [] [] (reads_after false [] [] reads_nothing) in
    ap node_items (sym (append-nil (60 ∷ q))) ∙ node_read ((60 ∷ q) ++ []) own (seen_read ((60 ∷ q) ++ []) own (seen_comment q [] h refl) line)

pub line_node : (source : List ℕ) → IsCommentLine source → node_items source ≡ whole form.Comment None source ∷ []
line_node source h =
    ap node_items (sym (append-nil source))
    ∙ node_read (source ++ []) (whole form.Comment None source ∷ []) (comment_line source [] [] h (reads_after true [] [] reads_nothing))

pub kept_node : (source : List ℕ) → IsKept source → node_items source ≡ page_items source
kept_node source h =
    let read : ReadsAs source (parts_items h.parts) = subst (λ bs. ReadsAs bs (parts_items h.parts)) h.is (parts_read h.parts h.are) in
    node_as source (parts_items h.parts) read ∙ sym (alone_as source (parts_items h.parts) read)

-- ---- a node

abbrev pub FirstShown : List Glyph → Type 0
FirstShown [] = ⊥
FirstShown (glyph.Byte b ∷ gs) = (is_blank b ≡ false) × ((b == 10) ≡ false)
FirstShown (glyph.Entity c ∷ gs) = Unit {0}
FirstShown (glyph.Atom ∷ gs) = Unit {0}
FirstShown (glyph.Mark ∷ gs) = Unit {0}

not_blank : (b : ℕ) → OpensText b → is_blank b ≡ false
not_blank b o = let s = o.space in let t = o.tab in rw (s, t) refl

pub opens_shown : (gs : List Glyph) → FirstOpens gs → FirstShown gs
opens_shown [] h = h
opens_shown (glyph.Byte b ∷ gs) h = (not_blank b h, h.break)
opens_shown (glyph.Entity c ∷ gs) h = tt
opens_shown (glyph.Atom ∷ gs) h = tt
opens_shown (glyph.Mark ∷ gs) h = absurd h

pub node_shown : (r : Role) (own : List Glyph) (v : Bool) → is_mark_role r ≡ v → IsNode r own → FirstShown own
node_shown r own true e n = subst FirstShown (sym (mark_is r own n e)) tt
node_shown r own false e n = opens_shown own (node_opens r own n e)

abbrev is_word : Option (LexKind × ℕ) → Bool
is_word None = false
is_word (Some w) = true

lexeme_break : (kind : LexKind) (b : ℕ) (q : List ℕ) → IsLexeme kind b q → (b == 10) ≡ false
lexeme_break kind b q h = by (b == 10) refl
  where
    by : (v : Bool) → (b == 10) ≡ v → v ≡ false
    by true e =
        let is : b ≡ 10 = grind (arith, nat_tests, e) in
        let no : false ≡ true =
        ap is_word (sym (other_byte Page 10 (q ++ []) refl))
        ∙ ap is_word (subst (λ (k : ℕ). form_at Page false (k ∷ (q ++ [])) ≡ Some (kind, suc (length q))) is (h.form [])) in
        cc
    by false e = refl

parts_shown : (ps : List Part) → AreParts ps → FirstShown (map glyph_of (parts_items ps)) → (rest : List ℕ) → IsShownFirst (parts_source ps ++ rest)
parts_shown [] h o rest = absurd o
parts_shown (characters [] ∷ ps) h o rest = parts_shown ps h.1 o rest
parts_shown (characters (b ∷ bs) ∷ ps) h o rest = record {
  first = b;
  others = (bs ++ parts_source ps) ++ rest;
  is = refl;
  blank = o.0;
  break = o.1;
  none = comment_other b ((bs ++ parts_source ps) ++ rest) (less_firm b h.0.0);
}
parts_shown (sign b q ∷ ps) h o rest = record {
  first = b;
  others = (q ++ parts_source ps) ++ rest;
  is = refl;
  blank = o.0;
  break = o.1;
  none = ap (λ bs. comment_len (b ∷ bs)) (append_assoc q (parts_source ps) rest) ∙ h.0.0.uncommented (parts_source ps ++ rest);
}
parts_shown (lexeme kind b q ∷ ps) h o rest = record {
  first = b;
  others = (q ++ parts_source ps) ++ rest;
  is = refl;
  blank = h.0.begins;
  break = lexeme_break kind b q h.0;
  none = ap (λ bs. comment_len (b ∷ bs)) (append_assoc q (parts_source ps) rest) ∙ h.0.uncommented (parts_source ps ++ rest);
}

kept_shown : (source : List ℕ) → IsKept source → FirstShown (map glyph_of (node_items source)) → (rest : List ℕ) → IsShownFirst (source ++ rest)
kept_shown source h o rest =
    let read : ReadsAs source (parts_items h.parts) = subst (λ bs. ReadsAs bs (parts_items h.parts)) h.is (parts_read h.parts h.are) in
    let is : node_items source ≡ parts_items h.parts = node_as source (parts_items h.parts) read in
    subst (λ bs. IsShownFirst (bs ++ rest)) h.is (parts_shown h.parts h.are (subst (λ xs. FirstShown (map glyph_of xs)) is o) rest)

-- of a node that is read so whatever is behind it
begins_more : (xs ys : List Item) → BeginsShown xs → BeginsShown (xs ++ ys)
begins_more [] ys h = absurd h
begins_more (char o b ∷ xs) ys h = h
begins_more (whole f o bs ∷ xs) ys h = h

pub nothing_read : page_items [] ≡ []
nothing_read = read_items [] [] reads_nothing

unblank : (b : ℕ) (q : List ℕ) → BeginsShown (items_from false 0 (b ∷ q)) → is_blank b ≡ false
unblank b q h = by (is_blank b) refl
  where
    by : (v : Bool) → is_blank b ≡ v → is_blank b ≡ false
    by true e = (subst BeginsShown (byte_from false b q (blank_form b q e)) h).0
    by false e = e

no_line_break : (b : ℕ) (q : List ℕ) → BeginsShown (items_from false 0 (b ∷ q)) → (b == 10) ≡ false
no_line_break b q h = by (b == 10) refl
  where
    by : (v : Bool) → (b == 10) ≡ v → (b == 10) ≡ false
    by true e =
        let P : ℕ → Type 0 = λ (k : ℕ). BeginsShown (items_from false 0 (k ∷ q)) in
        let own : BeginsShown (items_from false 0 (10 ∷ q)) = subst P (eqb-true b 10 e) h in
        absurd (let no = (subst BeginsShown (byte_from false 10 q (other_byte Page 10 q refl)) own).1 in cc)
    by false e = e

-- a comment is one item
no_comment : (b : ℕ) (bs : List ℕ) → BeginsShown (items_from false 0 (b ∷ bs)) → comment_len (b ∷ bs) ≡ None
no_comment b bs h = by (comment_len (b ∷ bs)) refl
  where
    by : (o : Option ℕ) → comment_len (b ∷ bs) ≡ o → o ≡ None
    by None e = refl
    by (Some zero) e = let fits = form_fits Page false (b ∷ bs) (Comment, zero) (comment_word b 0 bs e) in absurd (omega (arith, fits.some))
    by (Some (suc j)) e = absurd (subst BeginsShown (form_from false b bs Comment j (comment_word b (suc j) bs e)) h)

from_page : (bs : List ℕ) → page_items bs ≡ items_from false 0 bs
from_page bs = first_items bs ∙ sym (first_from false bs)

unjoined_none : (source : List ℕ) → IsReadInLine source → (b : ℕ) (q : List ℕ) → source ≡ b ∷ q → (rest : List ℕ) → BeginsUnjoined rest
    → comment_len (b ∷ (q ++ rest)) ≡ None
unjoined_none source h b q e rest u =
    let all : page_items (b ∷ (q ++ rest)) ≡ page_items source ++ page_items rest = ap (λ (bs : List ℕ). page_items (bs ++ rest)) (sym e) ∙ h.reads rest (inr u) in
    no_comment b (q ++ rest)
    (subst BeginsShown (sym all ∙ from_page (b ∷ (q ++ rest))) (begins_more (page_items source) (page_items rest) h.begins))

none_behind : (source : List ℕ) → IsReadInLine source → (b : ℕ) (q : List ℕ) → source ≡ b ∷ q → BeginsShown (items_from false 0 (b ∷ q)) → (rest : List ℕ)
    → comment_len (b ∷ (q ++ rest)) ≡ None
none_behind source h b q e own [] = unjoined_none source h b q e [] tt
none_behind source h b q e own (c ∷ cs) = by (joins_reference c) refl
  where
    by : (v : Bool) → joins_reference c ≡ v → comment_len (b ∷ (q ++ c ∷ cs)) ≡ None
    by true i = joined_none b q c cs i (no_comment b q own)
    by false i = unjoined_none source h b q e (c ∷ cs) i

pub read_shown : (source : List ℕ) → IsReadInLine source → (rest : List ℕ) → IsShownFirst (source ++ rest)
read_shown source h rest = by source refl
  where
    by : (bs : List ℕ) → source ≡ bs → IsShownFirst (bs ++ rest)
    by [] e = absurd (subst BeginsShown (ap page_items e ∙ nothing_read) h.begins)
    by (b ∷ q) e =
        let own : BeginsShown (items_from false 0 (b ∷ q)) = subst BeginsShown (ap page_items e ∙ from_page (b ∷ q)) h.begins in
        record { first = b; others = q ++ rest; is = refl; blank = unblank b q own; break = no_line_break b q own; none = none_behind source h b q e own rest }

pub read_node : (source : List ℕ) → IsReadInLine source → node_items source ≡ page_items source
read_node source h = node_same source (subst BeginsUncommented (append-nil source) (shown_begins (source ++ []) (read_shown source h [])))

-- of a thing whose source isn't a comment
pub thing_shown : (t : Thing) → IsKept t.source → IsNode t.role (own_glyphs t) → (rest : List ℕ) → IsShownFirst (t.source ++ rest)
thing_shown t k n rest = kept_shown t.source k (node_shown t.role (own_glyphs t) (is_mark_role t.role) refl n) rest

-- one of a comment is a mark
mark_by : (r : Role) (own : List Glyph) (v : Bool) → is_mark_role r ≡ v → IsNode r own → own ≡ glyph.Mark ∷ [] → v ≡ true
mark_by r own true e n i = refl
mark_by r own false e n i = absurd (subst FirstOpens i (node_opens r own n e))

pub comment_mark : (t : Thing) (q : List ℕ) → t.source ≡ 60 ∷ q → IsComment q → IsNode t.role (own_glyphs t) → is_mark_role t.role ≡ true
comment_mark t q e h n =
    mark_by t.role (own_glyphs t) (is_mark_role t.role) refl n (ap (map glyph_of) (ap node_items e ∙ comment_node q h))

pub line_mark : (t : Thing) → IsCommentLine t.source → IsNode t.role (own_glyphs t) → is_mark_role t.role ≡ true
line_mark t h n = mark_by t.role (own_glyphs t) (is_mark_role t.role) refl n (ap (map glyph_of) (line_node t.source h))

-- ---- a character that is typed

free_blank : (c : ℕ) → is_free c ≡ true → is_blank c ≡ false
unfolding line_start_hazard
free_blank c f = by (is_blank c) refl f
  where
    by : (v : Bool) → is_blank c ≡ v → is_free c ≡ true → v ≡ false
    by true e f = let no : is_free c ≡ false = rw e refl in cc
    by false e f = refl

less_none : (s : Setting) (before after : List ContentSign) (rest : List ℕ) → is_escaped s.within s.place before 60 after ≡ false
    → comment_len (60 ∷ (further s 60 before after ++ rest)) ≡ None
unfolding is_escaped
less_none s before [] rest e = cc
less_none s before (thing t ∷ after) rest e = cc
less_none s before (letter d ∷ after) rest e =
    let n = begin_letter IsTame s 60 d before after refl refl (refl, omega arith, omega arith) (tame_if d e) wide_tame in
    ap (λ bs. comment_len (60 ∷ (bs ++ rest))) n.is ∙ comment_not n.first (n.others ++ rest) n.fits.1

small_none : (s : Setting) (before : List ContentSign) (c : ℕ) (after : List ContentSign) (rest : List ℕ) → is_escaped s.within s.place before c after ≡ false
    → comment_len (c ∷ (further s c before after ++ rest)) ≡ None
small_none s before c after rest e =
    let P : ℕ → Type 0 = λ k. is_escaped s.within s.place before k after ≡ false → comment_len (k ∷ (further s k before after ++ rest)) ≡ None in
    elim (equal_or c 60) [
      | inl i ↦ subst P (sym i) (less_none s before after rest) e
      | inr l ↦ comment_other c (further s c before after ++ rest) (apart c 60 l)
    ]

wide_shown : (bs rest : List ℕ) → All IsWide bs → 0 < length bs → IsShownFirst (bs ++ rest)
wide_shown [] rest h some = absurd (omega (arith, some))
wide_shown (b ∷ bs) rest h some =
    let w : 128 ≤ b = All-head IsWide b bs h in
    let f : is_blank b ≡ false = grind (arith, nat_tests, w) in
    let t : (b == 10) ≡ false = grind (arith, nat_tests, w) in
    record { first = b; others = bs ++ rest; is = refl; blank = f; break = t; none = comment_other b (bs ++ rest) (omega (arith, w)) }

pub letter_shown : (s : Setting) (before : List ContentSign) (c : ℕ) (after : List ContentSign) (rest : List ℕ) (e : Bool) → is_escaped s.within s.place before c after ≡ e
    → is_free c ≡ true → IsShownFirst (written_by e c ++ (further s c before after ++ rest))
letter_shown s before c after rest true h f =
    let r = references c (escapable s.within s.place before c after h) in
    let q : List ℕ = r.others ++ (further s c before after ++ rest) in
    subst (λ bs. IsShownFirst (bs ++ (further s c before after ++ rest))) (sym r.is)
    (record { first = 38; others = q; is = refl; blank = refl; break = refl; none = comment_other 38 q (omega arith) })
letter_shown s before c after rest false h f = elim (cases_lt c 128) [
  | inl small ↦ subst (λ bs. IsShownFirst (bs ++ (further s c before after ++ rest))) (sym (encode_ascii c small)) (record {
    first = c;
    others = further s c before after ++ rest;
    is = refl;
    blank = free_blank c f;
    break = no_break c f;
    none = small_none s before c after rest h;
  })
  | inr wide ↦ wide_shown (encode_utf8 c) (further s c before after ++ rest) (encode_wide c wide) (encode_some c)
]

-- ---- what is put

pub nowiki_shown : (q : List ℕ) → IsShownFirst (nowiki ++ q)
unfolding nowiki comment_len
nowiki_shown q = record { first = 60; others = codes "nowiki/>" ++ q; is = refl; blank = refl; break = refl; none = refl }

guard_seen : (u : Bool) (q : List ℕ) → (u ≡ false → IsSeen q) → IsSeen (nowiki_if u ++ q)
guard_seen true q f = shown_seen (nowiki ++ q) (nowiki_shown q)
guard_seen false q f = f refl

-- ---- a line that isn't empty, behind marks that begin it

pub in_order : (g own more rest : List ℕ) → (g ++ (own ++ more)) ++ rest ≡ g ++ (own ++ (more ++ rest))
in_order g own more rest = append_assoc g (own ++ more) rest ∙ ap (λ ys. g ++ ys) (append_assoc own more rest)

-- behind a line of comments a line begins
pub line_ends : (t : Thing) → IsCommentLine t.source → IsNode t.role (own_glyphs t) → EndsAsSaid t.role t.source → ends_line t.role ≡ true
line_ends t h n e = ended_role t.role t.source (line_mark t h n) e (line_ended t.source h)

held_seen : (t : Thing) (more : List ℕ) → IsHeld t.source → IsNode t.role (own_glyphs t) → EndsAsSaid t.role t.source → ends_line t.role ≡ false
    → (is_mark_role t.role ≡ true → IsSeen more) → IsSeen (t.source ++ more)
held_seen t more (inl k) n e f g = shown_seen (t.source ++ more) (thing_shown t k.0 n more)
held_seen t more (inr (inl c)) n e f g =
    subst (λ bs. IsSeen (bs ++ more)) (sym c.is) (seen_comment c.others more c.comment (g (comment_mark t c.others c.is c.comment n)))
held_seen t more (inr (inr (inl l))) n e f g =
    let no : true ≡ false = sym (line_ends t l n e) ∙ f in cc
held_seen t more (inr (inr (inr r))) n e f g = shown_seen (t.source ++ more) (read_shown t.source r more)

pub seen_from : (s : Setting) (before signs : List ContentSign) → s.within ≡ false → is_line_begun before ≡ true → is_empty_line signs ≡ false
    → AreKept signs → AreNodes signs → (rest : List ℕ) → IsSeen (spelled_from s before signs ++ rest)
seen_from s before [] w b f k n rest = cc
seen_from s before (letter c ∷ after) w b f k n rest =
    let e : Bool = is_escaped s.within s.place before c after in
    let u : Bool = is_guarded s before (letter c ∷ after) in
    let more : List ℕ = further s c before after in
    let ten : (c == 10) ≡ false = or_none (c == 10) (is_blank c && is_empty_line after) f in
    subst IsSeen (sym (in_order (nowiki_if u) (written_by e c) more rest))
    (guard_seen u (written_by e c ++ (more ++ rest))
    (λ g. shown_seen (written_by e c ++ (more ++ rest)) (letter_shown s before c after rest e refl (both_free c (begun_free s before c after w b g) ten))))
seen_from s before (thing t ∷ after) w b f k n rest =
    let u : Bool = is_guarded s before (thing t ∷ after) in
    let more : List ℕ = spelled_from s (thing t ∷ before) after in
    subst IsSeen (sym (in_order (nowiki_if u) t.source more rest))
    (guard_seen u (t.source ++ (more ++ rest))
    (λ g. held_seen t (more ++ rest) k.0.0 n.0 k.0.1 (or_none (ends_line t.role) _ f)
    (λ m. seen_from s (thing t ∷ before) after w (mark_begun t.role (is_line_begun before) m b) (mark_unempty t.role (is_empty_line after) m f) k.1 n.1 rest)))

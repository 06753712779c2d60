-- The source of a node of the page stands whatever is written behind it, where what begins in it ends in it and no tag is open at its end.
use Rattle.std.proofs.Common.{arith, ◌≡◌, ◌⊎◌, inl, inr, ℕ, zero, suc, Bool, true, false, Option, Some, None, List, [], ◌∷◌, ◌++◌, map, take, refl, sym, ap, ◌∙◌, subst, append-nil}
use Rattle.std.specs.Prelude.{if◌then◌else◌}
use Rattle.std.specs.Option.{option_or}
use Rattle.wt_span.specs.declared.form.LexKind.{LexKind}
use Rattle.wt_span.specs.declared.form.LexKind.TheVariants as lex
use Rattle.wt_span.specs.declared.form.ItemForm.{ItemForm}
use Rattle.wt_span.specs.declared.form.ItemForm.TheVariants as form
use Rattle.wt_span.specs.declared.form.Mode.TheVariants.{Page}
use Rattle.wt_span.specs.Bytes.{is_break}
use Rattle.wt_span.specs.Comments.{comment_len, comment_line_len}
use Rattle.wt_span.specs.Entities.{entity_at}
use Rattle.wt_span.specs.Items.{Item, char, whole, source, sources, items_by}
use Rattle.wt_span.specs.Lexemes.{Word, as_word, entity_word, sign_word, form_at}
use Rattle.wt_span.specs.Tags.{Tag, opening_tag, is_nowiki, raw_len, include_at}
use Rattle.wt_span.specs.Whole.{IsWhole}
use Rattle.wt_lex.specs.WholeWords.{IsWholeWord}
use Rattle.wt_lex.proofs.AllForms.{form_fits}
use Rattle.wt_lex.proofs.Begins.{and_left}
use Rattle.wt_lex.proofs.Cuts.{cuts_cons}
use Rattle.wt_lex.proofs.WholeWords.{form_whole}
use Rattle.wt_isolation.specs.OpenTags.{ends_open}
use Rattle.wt_expand.specs.PageItems.{raw_form_by, items_of_word, page_items}
use Rattle.wt_guards.specs.declared.role.Role.{Role}
use Rattle.wt_guards.specs.Guards.{is_mark as is_mark_role}
use Rattle.wt_tiles.specs.declared.glyph.Glyph.{Glyph}
use Rattle.wt_tiles.specs.declared.glyph.Glyph.TheVariants as glyph
use Rattle.wt_tiles.specs.Glyphs.{glyph_of, glyph_of_form}
use Rattle.wt_text_edit_laws.specs.TextBetween.{ends_comment, ends_tag, ends_here, HasEnds}
use Rattle.wt_text_edit_laws.proofs.Between.Fronts.{items_from, byte_from, form_from, first_from}
use Rattle.wt_text_edit_laws.proofs.Cuts.ItemCuts.{page_from}
use Rattle.wt_text_edit_laws.proofs.Texts.TypedItems.{items_cut}
use Rattle.wt_beside_laws.specs.Commented.{LexemesEnd, BeginsShown, IsReadInLine, IsHeld}
use Rattle.wt_beside_laws.specs.NodeItems.{node_items}
use Rattle.wt_beside_laws.specs.Nodes.{IsNode}
use Rattle.wt_beside_laws.specs.PageSigns.{HasNoBreak}
use Rattle.wt_beside_laws.proofs.LineKinds.{FirstOpens, node_opens, mark_is}
use Rattle.wt_beside_laws.proofs.Marks.Ends.{LastIs, items_end}
use Rattle.wt_beside_laws.proofs.Marks.InLine.{line_word}
use Rattle.wt_beside_laws.proofs.Marks.Shown.{FirstShown, opens_shown}
use Rattle.wt_beside_laws.proofs.NodeItems.{are_from, node_sources}
use Rattle.wt_beside_laws.proofs.Own.Crossing.{TagsStop, Settled, tags_shut}
use Rattle.wt_beside_laws.proofs.Own.Lines.{comment_source, line_source}
use Rattle.wt_beside_laws.proofs.Own.Reading.{source_steps, source_reads}
use Rattle.wt_beside_laws.proofs.Own.Stops.{node_stop}
use Rattle.wt_expand.proofs.PageLaws.{page_sources}

-- ---- where no line of comments begins it, it is read the same whether a line break is before it or not

same_form : (bs : List ℕ) → comment_line_len bs ≡ None → form_at Page true bs ≡ form_at Page false bs
unfolding form_at
same_form bs e =
    ap (λ (o : Option ℕ). option_or (as_word lex.CommentLine o) (option_or (as_word lex.Comment (comment_len bs)) (option_or (as_word lex.Raw (raw_len bs))
    (option_or (include_at Page bs) (option_or (entity_word (entity_at bs)) (sign_word bs)))))) e

pub same_items : (bs : List ℕ) → comment_line_len bs ≡ None → items_from true 0 bs ≡ items_from false 0 bs
same_items [] e = refl
same_items (b ∷ bs) e =
    first_from true (b ∷ bs)
    ∙ ap (items_cut (b ∷ bs)) (cuts_cons Page true b bs (form_at Page false (b ∷ bs)) (same_form (b ∷ bs) e) ∙ sym (cuts_cons Page false b bs (form_at Page false (b ∷ bs)) refl))
    ∙ sym (first_from false (b ∷ bs))

node_is : (q : List ℕ) → comment_line_len q ≡ None → node_items q ≡ page_items q
node_is q e = are_from q ∙ same_items q e ∙ sym (page_from q)

-- ---- a node that isn't a comment

opens_begins : (xs : List Item) → FirstOpens (map glyph_of xs) → BeginsShown xs
opens_begins [] h = h
opens_begins (char o b ∷ xs) h = let f : FirstShown (glyph.Byte b ∷ map glyph_of xs) = opens_shown (glyph.Byte b ∷ map glyph_of xs) h in f
opens_begins (whole form.Chars o bs ∷ xs) h = tt
opens_begins (whole (form.Entity c) o bs ∷ xs) h = tt
opens_begins (whole form.Nowiki o bs ∷ xs) h = tt
opens_begins (whole form.Extension o bs ∷ xs) h = tt
opens_begins (whole form.Function o bs ∷ xs) h = tt
opens_begins (whole form.Comment o bs ∷ xs) h = absurd h
opens_begins (whole form.Include o bs ∷ xs) h = tt
opens_begins (whole form.Hidden o bs ∷ xs) h = tt
opens_begins (whole form.EmptyCall o bs ∷ xs) h = tt

-- no line of comments begins what begins so
begun_none : (q : List ℕ) → BeginsShown (node_items q) → comment_line_len q ≡ None
begun_none q h = by q (subst BeginsShown (are_from q) h) (comment_line_len q) refl
  where
    by : (bs : List ℕ) → BeginsShown (items_from true 0 bs) → (o : Option ℕ) → comment_line_len bs ≡ o → o ≡ None
    by bs s None e = refl
    by [] s (Some n) e = absurd s
    by (b ∷ bs) s (Some zero) e = let fits = form_fits Page true (b ∷ bs) (lex.CommentLine, zero) (line_word (b ∷ bs) 0 e) in absurd (omega (arith, fits.some))
    by (b ∷ bs) s (Some (suc j)) e = absurd (subst BeginsShown (form_from true b bs lex.CommentLine j (line_word (b ∷ bs) (suc j) e)) s)

held_node : (r : Role) (q : List ℕ) → IsNode r (map glyph_of (node_items q)) → BeginsShown (node_items q) → ends_open q ≡ false → HasEnds q
    → HasNoBreak (node_items q) → IsReadInLine q
held_node r q n s shut e u =
    let is : node_items q ≡ page_items q = node_is q (begun_none q s) in
    let unbroken : HasNoBreak (page_items q) = subst HasNoBreak is u in
    let steps = source_steps q e unbroken in
    let ends = subst LexemesEnd (sym (page_from q)) steps.ends in
    let stop = subst TagsStop (node_sources q) (node_stop r (node_items q) (subst LexemesEnd (sym is) ends) n) in
    record {
      reads = λ rest j.
          source_reads q rest (record { stop = stop; shut = tags_shut q shut; references = j }) e unbroken (subst (LastIs false) (page_sources q) (items_end (page_items q) unbroken ends));
      begins = subst BeginsShown is s;
      unbroken = unbroken;
      ends = ends;
    }

-- ---- a mark

-- it isn't empty
abbrev IsAnyStart : List ℕ → Type 0
IsAnyStart [] = ⊥
IsAnyStart (b ∷ bs) = Unit {0}

-- one item that is a mark
record IsOneMark (xs : List Item) : Type 0 where
  form : ItemForm
  origin : Option ℕ
  bytes : List ℕ
  is : xs ≡ whole form origin bytes ∷ []
  mark : glyph_of_form form ≡ glyph.Mark

abbrev first_item : List Item → Glyph
first_item [] = glyph.Atom
first_item (x ∷ xs) = glyph_of x

abbrev first_source : List Item → List ℕ
first_source [] = []
first_source (x ∷ xs) = source x

abbrev first_of : List Glyph → Glyph
first_of [] = glyph.Atom
first_of (g ∷ gs) = g

one_mark : (xs : List Item) → map glyph_of xs ≡ glyph.Mark ∷ [] → IsOneMark xs
one_mark [] e = absurd (cc)
one_mark (char o b ∷ xs) e = absurd (cc)
one_mark (whole f o bs ∷ []) e = record { form = f; origin = o; bytes = bs; is = refl; mark = ap first_of e }
one_mark (whole f o bs ∷ y ∷ ys) e = absurd (cc)

raw_mark : (o : Option Tag) (bs : List ℕ) (xs : List Item) → first_item (items_by (raw_form_by o) None bs ++ xs) ≡ glyph.Mark → ⊥
raw_mark None bs xs e = cc
raw_mark (Some t) bs xs e = by (is_nowiki t.name) e
  where
    by : (v : Bool) → first_item (items_by (if v then form.Nowiki else form.Extension) None bs ++ xs) ≡ glyph.Mark → ⊥
    by true f = cc
    by false f = cc

whole_comment : (b : ℕ) (q : List ℕ) → ends_here (b ∷ q) ≡ true → IsWhole form.Comment (b ∷ q) → IsHeld (b ∷ q)
whole_comment b q h w = elim w [
  | inl comment ↦ inr (inl (comment_source b q (and_left (ends_comment (b ∷ q)) (ends_tag (opening_tag (b ∷ q)) (b ∷ q)) h) comment))
  | inr line ↦ inr (inr (inl (line_source b q line)))
]

-- it is a comment, a line of comments, or begins with no comment
abbrev IsMarkSource : ℕ → List ℕ → Type 0
IsMarkSource b q = IsHeld (b ∷ q) ⊎ BeginsShown (items_from true 0 (b ∷ q))

by_kind : (kind : LexKind) (b : ℕ) (q w : List ℕ) (more : List Item) → items_from true 0 (b ∷ q) ≡ items_of_word kind w ++ more → ends_here (b ∷ q) ≡ true
    → IsWholeWord Page kind w → (m : IsOneMark (items_from true 0 (b ∷ q))) → m.bytes ≡ b ∷ q → IsAnyStart w → IsMarkSource b q
by_kind lex.Chars b q [] more e h s m i a = absurd a
by_kind lex.Chars b q (c ∷ w) more e h s m i a = let no : glyph.Byte c ≡ glyph.Mark = sym (ap first_item e) ∙ ap first_item m.is ∙ m.mark in absurd (cc)
by_kind lex.CommentLine b q w more e h s m i a =
    let is : w ≡ b ∷ q = sym (ap first_source e) ∙ ap first_source m.is ∙ i in inl (whole_comment b q h (subst (IsWhole form.Comment) is s))
by_kind lex.Comment b q w more e h s m i a =
    let is : w ≡ b ∷ q = sym (ap first_source e) ∙ ap first_source m.is ∙ i in inl (whole_comment b q h (subst (IsWhole form.Comment) is s))
by_kind lex.Raw b q w more e h s m i a = absurd (raw_mark (opening_tag w) w more (sym (ap first_item e) ∙ ap first_item m.is ∙ m.mark))
by_kind lex.Include b q w more e h s m i a = inr (subst BeginsShown (sym e) tt)
by_kind lex.Hidden b q w more e h s m i a = inr (subst BeginsShown (sym e) tt)
by_kind (lex.Entity c) b q w more e h s m i a = let no : glyph.Entity c ≡ glyph.Mark = sym (ap first_item e) ∙ ap first_item m.is ∙ m.mark in absurd (cc)
by_kind lex.Opens b q [] more e h s m i a = absurd a
by_kind lex.Opens b q (c ∷ w) more e h s m i a = let no : glyph.Byte c ≡ glyph.Mark = sym (ap first_item e) ∙ ap first_item m.is ∙ m.mark in absurd (cc)
by_kind lex.Closes b q [] more e h s m i a = absurd a
by_kind lex.Closes b q (c ∷ w) more e h s m i a = let no : glyph.Byte c ≡ glyph.Mark = sym (ap first_item e) ∙ ap first_item m.is ∙ m.mark in absurd (cc)
by_kind lex.LinkOpen b q [] more e h s m i a = absurd a
by_kind lex.LinkOpen b q (c ∷ w) more e h s m i a = let no : glyph.Byte c ≡ glyph.Mark = sym (ap first_item e) ∙ ap first_item m.is ∙ m.mark in absurd (cc)
by_kind lex.LinkClose b q [] more e h s m i a = absurd a
by_kind lex.LinkClose b q (c ∷ w) more e h s m i a = let no : glyph.Byte c ≡ glyph.Mark = sym (ap first_item e) ∙ ap first_item m.is ∙ m.mark in absurd (cc)
by_kind lex.Pipe b q [] more e h s m i a = absurd a
by_kind lex.Pipe b q (c ∷ w) more e h s m i a = let no : glyph.Byte c ≡ glyph.Mark = sym (ap first_item e) ∙ ap first_item m.is ∙ m.mark in absurd (cc)
by_kind lex.Equals b q [] more e h s m i a = absurd a
by_kind lex.Equals b q (c ∷ w) more e h s m i a = let no : glyph.Byte c ≡ glyph.Mark = sym (ap first_item e) ∙ ap first_item m.is ∙ m.mark in absurd (cc)

mark_by : (b : ℕ) (q : List ℕ) (o : Option Word) → form_at Page true (b ∷ q) ≡ o → ends_here (b ∷ q) ≡ true
    → (m : IsOneMark (items_from true 0 (b ∷ q))) → m.bytes ≡ b ∷ q → IsMarkSource b q
mark_by b q None e h m i =
    let no : glyph.Byte b ≡ glyph.Mark = sym (ap first_item (byte_from true b q e)) ∙ ap first_item m.is ∙ m.mark in absurd (cc)
mark_by b q (Some (kind, zero)) e h m i = let fits = form_fits Page true (b ∷ q) (kind, zero) e in absurd (omega (arith, fits.some))
mark_by b q (Some (kind, suc j)) e h m i =
    by_kind kind b q (b ∷ take j q) (items_from (is_break b) j q) (form_from true b q kind j e) h (form_whole Page true kind (suc j) (b ∷ q) e) m i tt

-- ---- any node

held_mark : (r : Role) (q : List ℕ) → IsNode r (map glyph_of (node_items q)) → IsOneMark (node_items q) → ends_open q ≡ false → HasEnds q
    → HasNoBreak (node_items q) → IsHeld q
held_mark r [] n m shut e u = let no : [] ≡ whole m.form m.origin m.bytes ∷ [] = sym (are_from []) ∙ m.is in absurd (cc)
held_mark r (b ∷ q) n m shut e u =
    let bytes : m.bytes ≡ b ∷ q = sym (append-nil m.bytes) ∙ ap sources (sym m.is) ∙ node_sources (b ∷ q) in
    let one : IsOneMark (items_from true 0 (b ∷ q)) = record { form = m.form; origin = m.origin; bytes = m.bytes; is = sym (are_from (b ∷ q)) ∙ m.is; mark = m.mark } in
    elim (mark_by b q (form_at Page true (b ∷ q)) refl e.0 one bytes) [
      | inl held ↦ held
      | inr shown ↦ inr (inr (inr (held_node r (b ∷ q) n (subst BeginsShown (sym (are_from (b ∷ q))) shown) shut e u)))
    ]

pub node_held : (r : Role) (q : List ℕ) → IsNode r (map glyph_of (node_items q)) → ends_open q ≡ false → HasEnds q → HasNoBreak (node_items q) → IsHeld q
node_held r q n shut e u = by (is_mark_role r) refl
  where
    by : (v : Bool) → is_mark_role r ≡ v → IsHeld q
    by true i = held_mark r q n (one_mark (node_items q) (mark_is r (map glyph_of (node_items q)) n i)) shut e u
    by false i = inr (inr (inr (held_node r q n (opens_begins (node_items q) (node_opens r (map glyph_of (node_items q)) n i)) shut e u)))

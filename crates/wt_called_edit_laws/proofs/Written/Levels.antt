-- Signs of a content, of which none begins a line as a mark, one after the other: what begins where a line starts is no comment.
use Rattle.std.proofs.Common.{arith, ◌≡◌, ℕ, ◌<◌, ◌≤◌, ◌==◌, Bool, true, false, not, None, List, [], ◌∷◌, ◌++◌, length, map, refl, sym, ap, ◌∙◌, subst, inl, inr, append-nil, append_assoc, All}
use Rattle.std.specs.Prelude.{◌&&◌, codes, encode_utf8}
use Rattle.std.proofs.lemmas.Bool.{cases_lt}
use Rattle.std.proofs.lemmas.Bool.Decides.{nat_tests}
use Rattle.std.proofs.lemmas.List.Elements.{All-head}
use Rattle.std.proofs.lemmas.Str.{encode_ascii}
use Rattle.wt_span.specs.declared.form.ItemForm.TheVariants as form
use Rattle.wt_span.specs.Bytes.{is_blank}
use Rattle.wt_span.specs.Comments.{comment_len}
use Rattle.wt_span.specs.Items.{Item, char, whole}
use Rattle.wt_names.proofs.Ascii.{IsWide, encode_wide, encode_some}
use Rattle.wt_guards.specs.declared.role.Role.{Role}
use Rattle.wt_guards.specs.declared.role.Role.TheVariants.{Link, External, Bare, Switch, Toggle, Mark, Group, Function, Node}
use Rattle.wt_guards.specs.Letters.{is_escaped, written_by}
use Rattle.wt_guards.specs.Table.{line_start_hazard}
use Rattle.wt_guards.proofs.Escapes.{escapable}
use Rattle.wt_expand.specs.PageItems.{page_items}
use Rattle.wt_typed_blocks.proofs.Forms.{comment_other, comment_not, IsTame}
use Rattle.wt_typed_blocks.proofs.TextKinds.{OpensText}
use Rattle.wt_typed_blocks.proofs.TextReads.{equal_or, apart}
use Rattle.wt_tiles.specs.Glyphs.{glyph_of}
use Rattle.wt_text_edit_laws.specs.LonePages.{page_chars}
use Rattle.wt_text_edit_laws.proofs.Prose.Uncommented.{BeginsUncommented, uncommented_other}
use Rattle.wt_text_edit_laws.proofs.Texts.TypedItems.{references, wide_tame, tame_if}
use Rattle.wt_beside_laws.specs.Kept.{Part, characters, sign, lexeme, AreParts, parts_source, parts_items, IsKept}
use Rattle.wt_beside_laws.proofs.Marks.InLine.{InLine, InLineAs, comment_in, kept_in, read_in, nowiki_in, letter_in, reference_ends}
use Rattle.wt_guards.specs.Content.{ContentSign, letter, thing, ends_line}
use Rattle.wt_guards.specs.Guards.{Setting, nowiki, nowiki_if, is_new_at_start, is_mark as is_mark_role}
use Rattle.wt_typed_blocks.proofs.Lines.{is_free}
use Rattle.wt_text_edit_laws.proofs.Between.Fronts.{reads_after, reads_either, page_read}
use Rattle.wt_text_edit_laws.proofs.Prose.InFront.{Reads, reads_nothing, read_break}
use Rattle.wt_beside_laws.specs.Commented.{IsComment, IsCommentSource}
use Rattle.wt_beside_laws.specs.Content.{guard_items, letter_items}
use Rattle.wt_beside_laws.specs.NodeItems.{node_items}
use Rattle.wt_beside_laws.proofs.Contents.{further, begin_letter}
use Rattle.wt_beside_laws.proofs.Firm.{ReadsAs, alone_as, parts_read, less_firm}
use Rattle.wt_beside_laws.proofs.LineKinds.{FirstOpens}
use Rattle.wt_beside_laws.proofs.Marks.Shown.{comment_node, kept_node, read_node, read_shown, shown_begins}
use Rattle.wt_called_edit_laws.specs.Written.{IsHeldInLine}

-- ---- a node

pub comment_alone : (q : List ℕ) → IsComment q → page_items (60 ∷ q) ≡ whole form.Comment None (60 ∷ q) ∷ []
comment_alone q h =
    ap page_items (sym (append-nil (60 ∷ q)))
    ∙ page_read ((60 ∷ q) ++ []) (whole form.Comment None (60 ∷ q) ∷ []) (comment_in q h [] [] (reads_after false [] [] reads_nothing))

source_in : (source : List ℕ) → IsCommentSource source → InLineAs source (page_items source)
source_in source h =
    subst (λ bs. InLineAs bs (page_items bs)) (sym h.is) (subst (InLineAs (60 ∷ h.others)) (sym (comment_alone h.others h.comment)) (comment_in h.others h.comment))

-- behind a line break it is the same
pub held_same : (source : List ℕ) → IsHeldInLine source → node_items source ≡ page_items source
held_same source (inl k) = kept_node source k.0
held_same source (inr (inl c)) =
    subst (λ bs. node_items bs ≡ page_items bs) (sym c.is) (comment_node c.others c.comment ∙ sym (comment_alone c.others c.comment))
held_same source (inr (inr h)) = read_node source h.0

held_alone : (source : List ℕ) → IsHeldInLine source → InLineAs source (page_items source)
held_alone source (inl k) = kept_in source k.0 k.1
held_alone source (inr (inl c)) = source_in source c
held_alone source (inr (inr h)) = λ rest xs r. read_in source rest xs h.0 (inl h.1) r

pub held_in : (source : List ℕ) → IsHeldInLine source → InLineAs source (node_items source)
held_in source h = subst (InLineAs source) (sym (held_same source h)) (held_alone source h)

-- ---- what begins a line

not_blank : (b : ℕ) → OpensText b → is_blank b ≡ false
not_blank b o = let s = o.space in let t = o.tab in rw (s, t) refl

begins_parts : (ps : List Part) → AreParts ps → FirstOpens (map glyph_of (parts_items ps)) → (rest : List ℕ) → BeginsUncommented (parts_source ps ++ rest)
begins_parts [] h o rest = absurd o
begins_parts (characters [] ∷ ps) h o rest = begins_parts ps h.1 o rest
begins_parts (characters (b ∷ bs) ∷ ps) h o rest =
    uncommented_other b ((bs ++ parts_source ps) ++ rest) (not_blank b o) (comment_other b ((bs ++ parts_source ps) ++ rest) (less_firm b h.0.0))
begins_parts (sign b q ∷ ps) h o rest =
    uncommented_other b ((q ++ parts_source ps) ++ rest) (not_blank b o)
    (ap (λ bs. comment_len (b ∷ bs)) (append_assoc q (parts_source ps) rest) ∙ h.0.0.uncommented (parts_source ps ++ rest))
begins_parts (lexeme kind b q ∷ ps) h o rest =
    uncommented_other b ((q ++ parts_source ps) ++ rest) h.0.begins
    (ap (λ bs. comment_len (b ∷ bs)) (append_assoc q (parts_source ps) rest) ∙ h.0.uncommented (parts_source ps ++ rest))

kept_begins : (source : List ℕ) → IsKept source → FirstOpens (map glyph_of (page_items source)) → (rest : List ℕ) → BeginsUncommented (source ++ rest)
kept_begins source h o rest =
    let read : ReadsAs source (parts_items h.parts) = subst (λ bs. ReadsAs bs (parts_items h.parts)) h.is (parts_read h.parts h.are) in
    let is : page_items source ≡ parts_items h.parts = alone_as source (parts_items h.parts) read in
    subst (λ bs. BeginsUncommented (bs ++ rest)) h.is (begins_parts h.parts h.are (subst (λ xs. FirstOpens (map glyph_of xs)) is o) rest)

own_begins : (source : List ℕ) → IsHeldInLine source → FirstOpens (map glyph_of (page_items source)) → (rest : List ℕ) → BeginsUncommented (source ++ rest)
own_begins source (inl k) o rest = kept_begins source k.0 o rest
own_begins source (inr (inl c)) o rest = absurd (subst (λ xs. FirstOpens (map glyph_of xs)) (ap page_items c.is ∙ comment_alone c.others c.comment) o)
own_begins source (inr (inr h)) o rest = shown_begins (source ++ rest) (read_shown source h.0 rest)

pub held_begins : (source : List ℕ) → IsHeldInLine source → FirstOpens (map glyph_of (node_items source)) → (rest : List ℕ) → BeginsUncommented (source ++ rest)
held_begins source h o rest = own_begins source h (subst (λ xs. FirstOpens (map glyph_of xs)) (held_same source h) o) rest

free_blank : (c : ℕ) → is_free c ≡ true → is_blank c ≡ false
unfolding line_start_hazard
free_blank c f = by (is_blank c) refl f
  where
    by : (v : Bool) → is_blank c ≡ v → is_free c ≡ true → v ≡ false
    by true e f = let no : is_free c ≡ false = rw e refl in cc
    by false e f = refl

less_begins : (s : Setting) (before after : List ContentSign) (rest : List ℕ) → is_escaped s.within s.place before 60 after ≡ false
    → BeginsUncommented (60 ∷ (further s 60 before after ++ rest))
unfolding is_escaped
less_begins s before [] rest e = cc
less_begins s before (thing t ∷ after) rest e = cc
less_begins s before (letter d ∷ after) rest e =
    let n = begin_letter IsTame s 60 d before after refl refl (refl, omega arith, omega arith) (tame_if d e) wide_tame in
    uncommented_other 60 (further s 60 before (letter d ∷ after) ++ rest) refl
    (ap (λ bs. comment_len (60 ∷ (bs ++ rest))) n.is ∙ comment_not n.first (n.others ++ rest) n.fits.1)

small_begins : (s : Setting) (before : List ContentSign) (c : ℕ) (after : List ContentSign) (rest : List ℕ) → is_escaped s.within s.place before c after ≡ false
    → is_blank c ≡ false → BeginsUncommented (c ∷ (further s c before after ++ rest))
small_begins s before c after rest e f =
    let P : ℕ → Type 0 = λ k. is_escaped s.within s.place before k after ≡ false → BeginsUncommented (k ∷ (further s k before after ++ rest)) in
    elim (equal_or c 60) [
      | inl i ↦ subst P (sym i) (less_begins s before after rest) e
      | inr l ↦ uncommented_other c (further s c before after ++ rest) f (comment_other c (further s c before after ++ rest) (apart c 60 l))
    ]

wide_begins : (bs rest : List ℕ) → All IsWide bs → 0 < length bs → BeginsUncommented (bs ++ rest)
wide_begins [] rest h some = absurd (omega (arith, some))
wide_begins (b ∷ bs) rest h some =
    let w : 128 ≤ b = All-head IsWide b bs h in
    let f : is_blank b ≡ false = grind (arith, nat_tests, w) in
    uncommented_other b (bs ++ rest) f (comment_other b (bs ++ rest) (omega (arith, w)))

pub letter_begins : (s : Setting) (before : List ContentSign) (c : ℕ) (after : List ContentSign) (rest : List ℕ) (e : Bool) → is_escaped s.within s.place before c after ≡ e
    → is_free c ≡ true → BeginsUncommented (written_by e c ++ (further s c before after ++ rest))
letter_begins s before c after rest true h f =
    let r = references c (escapable s.within s.place before c after h) in
    let q : List ℕ = r.others ++ (further s c before after ++ rest) in
    subst (λ bs. BeginsUncommented (bs ++ (further s c before after ++ rest))) (sym r.is) (uncommented_other 38 q refl (comment_other 38 q (omega arith)))
letter_begins s before c after rest false h f = elim (cases_lt c 128) [
  | inl small ↦ subst (λ bs. BeginsUncommented (bs ++ (further s c before after ++ rest))) (sym (encode_ascii c small)) (small_begins s before c after rest h (free_blank c f))
  | inr wide ↦ wide_begins (encode_utf8 c) (further s c before after ++ rest) (encode_wide c wide) (encode_some c)
]

-- ---- where a line starts, or in it

pub record Level (start : Bool) (bs : List ℕ) (xs : List Item) : Type 0 where
  pub line : InLine bs xs
  pub begins : start ≡ true → BeginsUncommented bs

nowiki_begins : (q : List ℕ) → BeginsUncommented (nowiki ++ q)
unfolding nowiki comment_len
nowiki_begins q = uncommented_other 60 (codes "nowiki/>" ++ q) refl refl

pub guard_level : (u start : Bool) (q : List ℕ) (xs : List Item) → InLine q xs → (u ≡ false → start ≡ true → BeginsUncommented q)
    → Level start (nowiki_if u ++ q) (guard_items u ++ xs)
guard_level true start q xs r f = record { line = nowiki_in q xs r; begins = λ z. nowiki_begins q }
guard_level false start q xs r f = record { line = r; begins = f refl }

pub joined : (start : Bool) (g own more rest : List ℕ) (gs os ms xs : List Item) → Level start (g ++ (own ++ (more ++ rest))) (gs ++ (os ++ (ms ++ xs)))
    → Level start ((g ++ (own ++ more)) ++ rest) ((gs ++ (os ++ ms)) ++ xs)
joined start g own more rest gs os ms xs l =
    let bs : (g ++ (own ++ more)) ++ rest ≡ g ++ (own ++ (more ++ rest)) = append_assoc g (own ++ more) rest ∙ ap (λ ys. g ++ ys) (append_assoc own more rest) in
    let is : (gs ++ (os ++ ms)) ++ xs ≡ gs ++ (os ++ (ms ++ xs)) = append_assoc gs (os ++ ms) xs ∙ ap (λ ys. gs ++ ys) (append_assoc os ms xs) in
    subst (λ ys. Level start ys ((gs ++ (os ++ ms)) ++ xs)) (sym bs) (subst (Level start (g ++ (own ++ (more ++ rest)))) (sym is) l)

break_in : (s : Setting) (before after : List ContentSign) (q : List ℕ) (xs : List Item) → Reads q xs
    → InLine (written_by (is_escaped s.within s.place before 10 after) 10 ++ q) (letter_items (is_escaped s.within s.place before 10 after) 10 ++ xs)
unfolding is_escaped
break_in s before after q xs r =
    subst (λ bs. InLine (bs ++ q) (page_chars bs ++ xs)) (sym (encode_ascii 10 (omega arith))) (reads_after false (10 ∷ q) (char None 10 ∷ xs) (read_break q xs r))

-- a character, before what is spelled behind it
pub letter_level : (s : Setting) (before : List ContentSign) (c : ℕ) (after : List ContentSign) (rest : List ℕ) (xs : List Item) (v : Bool) → (c == 10) ≡ v
    → Level v (further s c before after ++ rest) xs
    → InLine (written_by (is_escaped s.within s.place before c after) c ++ (further s c before after ++ rest)) (letter_items (is_escaped s.within s.place before c after) c ++ xs)
letter_level s before c after rest xs true i l =
    let is : c ≡ 10 = grind (arith, nat_tests, i) in
    let P : ℕ → Type 0 = λ k. Level true (further s k before after ++ rest) xs
    → InLine (written_by (is_escaped s.within s.place before k after) k ++ (further s k before after ++ rest)) (letter_items (is_escaped s.within s.place before k after) k ++ xs) in
    subst P (sym is) (λ k. break_in s before after (further s 10 before after ++ rest) xs (reads_either (further s 10 before after ++ rest) xs (k.begins refl) k.line)) l
letter_level s before c after rest xs false i l =
    letter_in s before c after rest xs (is_escaped s.within s.place before c after) refl
    (λ e. reference_ends c (escapable s.within s.place before c after e)) i l.line

-- a mark is within its line
abbrev IsWithinLine : Role → Type 0
IsWithinLine r = is_mark_role r ≡ true → is_new_at_start r ≡ true

within_end : (ends began : Bool) → (not ends && not began) ≡ true → ends ≡ false
within_end true began h = sym h
within_end false began h = refl

pub no_line_end : (r : Role) → IsWithinLine r → ends_line r ≡ false
no_line_end Link h = refl
no_line_end External h = refl
no_line_end (Bare ends) h = refl
no_line_end Switch h = refl
no_line_end Toggle h = refl
no_line_end (Mark ends began) h = within_end ends began (h refl)
no_line_end (Group g) h = refl
no_line_end Function h = refl
no_line_end Node h = refl

-- before one that begins a line something is put
pub unmarked : (r : Role) → IsWithinLine r → is_new_at_start r ≡ false → is_mark_role r ≡ false
unmarked r h n = by (is_mark_role r) refl
  where
    by : (v : Bool) → is_mark_role r ≡ v → v ≡ false
    by true e = let no : true ≡ false = sym (h e) ∙ n in cc
    by false e = refl

-- A content among whose nodes are calls gives, as it is written, what its signs give, one after the other.
use Rattle.std.proofs.Common.{arith, ◌≡◌, inl, inr, ℕ, ◌+◌, ◌≤◌, ◌==◌, Bool, true, false, None, List, [], ◌∷◌, ◌++◌, refl, sym, ap, ◌∙◌, subst, append-nil, All}
use Rattle.std.specs.Prelude.{◌||◌, encode_utf8}
use Rattle.std.proofs.lemmas.Bool.{cases_lt}
use Rattle.std.proofs.lemmas.Bool.Decides.{nat_tests}
use Rattle.std.proofs.lemmas.List.Elements.{All-head, All-tail}
use Rattle.std.proofs.lemmas.Str.{encode_ascii}
use Rattle.wt_span.specs.declared.form.Mode.TheVariants.{Page}
use Rattle.wt_span.specs.Comments.{comment_len, comment_line_len}
use Rattle.wt_span.specs.Entities.{entity_at, named_entity, decimal_entity, hex_entity, entity_names}
use Rattle.wt_span.specs.Tags.{raw_len, opening_tag, tag_after, closing_tag, with_inside, include_at}
use Rattle.wt_span.specs.Items.{Item, char}
use Rattle.wt_span.specs.Lexemes.{words, closed, sign_word, cuts, form_at}
use Rattle.wt_span.specs.Origins.{OuterCall}
use Rattle.wt_names.proofs.Ascii.{IsWide, encode_wide}
use Rattle.wt_guards.specs.Content.{ContentSign, letter, thing}
use Rattle.wt_guards.specs.Guards.{Setting, nowiki, nowiki_if, is_guarded, spelled_from, spelled}
use Rattle.wt_guards.specs.Letters.{is_bracket, is_escaped, reference, written_by}
use Rattle.wt_guards.proofs.Escapes.{is_escapable, escapable}
use Rattle.wt_expand.specs.PageItems.{page_items}
use Rattle.wt_expand.specs.PageCalls.{expanded_page}
use Rattle.wt_expand.specs.Work.{Pages, Entry}
use Rattle.wt_part_laws.specs.Lexer.{lexer}
use Rattle.wt_part_laws.specs.Scans.{after_all}
use Rattle.wt_typed_blocks.proofs.Forms.{comment_other, other_byte}
use Rattle.wt_typed_blocks.proofs.TextReads.{equal_or, apart}
use Rattle.wt_part_laws.specs.Apart.{AreMet}
use Rattle.wt_part_laws.specs.Expanded.{part_items, calls_in}
use Rattle.wt_part_laws.proofs.MetWords.{words_meet}
use Rattle.wt_text_edit_laws.specs.LonePages.{page_chars}
use Rattle.wt_text_edit_laws.specs.NoCalls.{is_brace, AreUnbraced}
use Rattle.wt_text_edit_laws.specs.ReadContents.{BeginsUnclosed}
use Rattle.wt_text_edit_laws.proofs.Between.Fronts.{page_read}
use Rattle.wt_text_edit_laws.proofs.Prose.InFront.{Reads, reads_nothing, reads_byte, read_items}
use Rattle.wt_text_edit_laws.proofs.Texts.TypedItems.{wide_form, no_form_byte}
use Rattle.wt_beside_laws.specs.Content.{guard_items, letter_items, content_items}
use Rattle.wt_beside_laws.specs.NodeItems.{node_items}
use Rattle.wt_beside_laws.proofs.Contents.{nowiki_reads, reference_reads}
use Rattle.wt_beside_laws.proofs.Firm.{alone_as}
use Rattle.wt_beside_laws.proofs.Marks.InLine.{InLine, nowiki_in}
use Rattle.wt_called_edit_laws.specs.Parts.{work_in}
use Rattle.wt_called_edit_laws.specs.Written.{IsOwnPart, IsReadThing, AreReadThings, AreOwnParts, written_items, written_calls, written_work, IsWrittenAs}
use Rattle.wt_called_edit_laws.proofs.MovedOuters.{same_calls}
use Rattle.wt_called_edit_laws.proofs.Parts.Seams.{begins_same}
use Rattle.wt_text_edit_laws.proofs.Cuts.Uncrossed.{AreCut, part_settles}
use Rattle.wt_called_edit_laws.proofs.Written.Ends.{plain_bracket, no_bracket, spelled_outward, spelled_unclosed, written_cut, nowiki_cut, source_cut, source_after, nowiki_after, written_after}
use Rattle.wt_called_edit_laws.proofs.Written.Joined.{both_written, calm_written, calm_then}
use Rattle.wt_called_edit_laws.proofs.Written.Levels.{Level, letter_level}
use Rattle.wt_called_edit_laws.proofs.Written.Reads.{alone_level, line_after, no_end, thing_same}

-- ---- what is written for a character, by itself

lone_less : page_items (60 ∷ []) ≡ char None 60 ∷ []
unfolding page_items words closed form_at comment_len comment_line_len raw_len opening_tag tag_after closing_tag with_inside include_at entity_at named_entity
    decimal_entity hex_entity entity_names sign_word
lone_less = refl

lone_and : page_items (38 ∷ []) ≡ char None 38 ∷ []
unfolding page_items words closed form_at comment_len comment_line_len raw_len opening_tag tag_after closing_tag with_inside include_at entity_at named_entity
    decimal_entity hex_entity entity_names sign_word
lone_and = refl

lone_equals : page_items (61 ∷ []) ≡ char None 61 ∷ []
unfolding page_items words closed form_at comment_len comment_line_len raw_len opening_tag tag_after closing_tag with_inside include_at entity_at named_entity
    decimal_entity hex_entity entity_names sign_word
lone_equals = refl

small_alone : (c : ℕ) → is_bracket c ≡ false → page_items (c ∷ []) ≡ char None c ∷ []
small_alone c b =
    let P : ℕ → Type 0 = λ k. page_items (k ∷ []) ≡ char None k ∷ [] in
    elim (equal_or c 60) [
      | inl i ↦ subst P (sym i) lone_less
      | inr l ↦ elim (equal_or c 38) [
        | inl i ↦ subst P (sym i) lone_and
        | inr a ↦ elim (equal_or c 61) [
          | inl i ↦ subst P (sym i) lone_equals
          | inr q ↦ read_items (c ∷ []) (char None c ∷ [])
              (reads_byte c [] [] (other_byte Page c [] (no_form_byte c b l a q)) (comment_other c [] (apart c 60 l)) reads_nothing)
        ]
      ]
    ]

wide_reads : (bs : List ℕ) → All IsWide bs → Reads bs (page_chars bs)
wide_reads [] h = reads_nothing
wide_reads (b ∷ bs) h =
    let w : 128 ≤ b = All-head IsWide b bs h in
    reads_byte b bs (page_chars bs) (other_byte Page b bs (wide_form b w)) (comment_other b bs (omega (arith, w))) (wide_reads bs (All-tail IsWide b bs h))

plain_alone : (c : ℕ) → is_bracket c ≡ false → page_items (encode_utf8 c) ≡ page_chars (encode_utf8 c)
plain_alone c b = elim (cases_lt c 128) [
  | inl small ↦ subst (λ bs. page_items bs ≡ page_chars bs) (sym (encode_ascii c small)) (small_alone c b)
  | inr wide ↦ read_items (encode_utf8 c) (page_chars (encode_utf8 c)) (wide_reads (encode_utf8 c) (encode_wide c wide))
]

written_alone : (e : Bool) (c : ℕ) → (e ≡ true → is_escapable c ≡ true) → (e ≡ false → is_bracket c ≡ false) → page_items (written_by e c) ≡ letter_items e c
written_alone true c h k = alone_as (reference c) (letter_items true c) (reference_reads c (h refl))
written_alone false c h k = plain_alone c (k refl)

-- it has no brace

both_false : (a b : Bool) → a ≡ false → b ≡ false → (a || b) ≡ false
both_false true b e f = e
both_false false b e f = f

wide_brace : (b : ℕ) → 128 ≤ b → is_brace b ≡ false
wide_brace b w =
    let o : (b == 123) ≡ false = grind (arith, nat_tests, w) in
    let c : (b == 125) ≡ false = grind (arith, nat_tests, w) in
    both_false (b == 123) (b == 125) o c

wide_unbraced : (bs : List ℕ) → All IsWide bs → AreUnbraced (page_chars bs)
wide_unbraced [] h = tt
wide_unbraced (b ∷ bs) h = (wide_brace b (All-head IsWide b bs h), wide_unbraced bs (All-tail IsWide b bs h))

letter_unbraced : (e : Bool) (c : ℕ) → (e ≡ false → is_bracket c ≡ false) → AreUnbraced (letter_items e c)
letter_unbraced true c k = tt
letter_unbraced false c k = elim (cases_lt c 128) [
  | inl small ↦
      let n = no_bracket c (k refl) in
      subst (λ bs. AreUnbraced (page_chars bs)) (sym (encode_ascii c small)) (both_false (c == 123) (c == 125) n.opens_call n.closes_call, tt)
  | inr wide ↦ wide_unbraced (encode_utf8 c) (encode_wide c wide)
]

-- ---- where two texts meet

pub met_by : (p q : List ℕ) (zs : List Item) → AreCut p q → page_items (p ++ q) ≡ page_items p ++ zs
    → cuts Page (after_all (lexer Page) false p) 0 q ≡ cuts Page false 0 q → AreMet (words Page p) (words Page q) (words Page (p ++ q))
met_by p q zs c e f = words_meet Page p q (part_settles p q zs c e) f

met_line : (p q : List ℕ) (own zs : List Item) → AreCut p q → page_items p ≡ own → InLine (p ++ q) (own ++ zs) → after_all (lexer Page) false p ≡ false
    → AreMet (words Page p) (words Page q) (words Page (p ++ q))
met_line p q own zs c e l f =
    met_by p q zs c (page_read (p ++ q) (own ++ zs) l ∙ sym (ap (λ (xs : List Item). xs ++ zs) e)) (ap (λ (a : Bool). cuts Page a 0 q) f)

-- what is put
guard_then : (pages : Pages) (u : Bool) (q : List ℕ) (zs : List Item) (ys : ℕ → List Item) (ds : List OuterCall) (fs : List Entry) → InLine q zs
    → IsWrittenAs pages q ys ds fs → IsWrittenAs pages (nowiki_if u ++ q) (λ i. guard_items u ++ ys i) ds fs
guard_then pages true q zs ys ds fs l w =
    let e : page_items nowiki ≡ guard_items true = alone_as nowiki (guard_items true) nowiki_reads in
    calm_then pages nowiki q (guard_items true) ys ds fs (met_line nowiki q (guard_items true) zs (nowiki_cut q) e (nowiki_in q zs l) nowiki_after) e tt w
guard_then pages false q zs ys ds fs l w = w

-- a character, before what is written behind it
letter_met : (e : Bool) (c : ℕ) (q : List ℕ) (zs : List Item) (v : Bool) → (c == 10) ≡ v → (e ≡ true → is_escapable c ≡ true) → (e ≡ false → is_bracket c ≡ false)
    → Level v q zs → InLine (written_by e c ++ q) (letter_items e c ++ zs) → AreMet (words Page (written_by e c)) (words Page q) (words Page (written_by e c ++ q))
letter_met e c q zs true i h k n l =
    let p : List ℕ = written_by e c in
    met_by p q zs (written_cut e c q h k)
    (page_read (p ++ q) (letter_items e c ++ zs) l ∙ sym (ap (λ (xs : List Item). xs ++ zs) (written_alone e c h k)))
    (begins_same (after_all (lexer Page) false p) q (n.begins refl))
letter_met e c q zs false i h k n l =
    met_line (written_by e c) q (letter_items e c) zs (written_cut e c q h k) (written_alone e c h k) l (written_after e c h (λ z. i))

-- ---- all of it

call_written : (pages : Pages) (bs : List ℕ) → IsOwnPart pages bs → IsWrittenAs pages bs (λ i. part_items pages i bs) (expanded_page pages bs).outer (work_in pages bs)
call_written pages bs h = record { items_are = λ i. refl; calls_are = same_calls (expanded_page pages bs).outer; work_is = refl; part = h }

nothing_read : page_items [] ≡ []
nothing_read = read_items [] [] reads_nothing

end_written : (pages : Pages) (u : Bool) → IsWrittenAs pages (nowiki_if u) (λ i. guard_items u) [] []
end_written pages true =
    let e : page_items nowiki ≡ guard_items true = alone_as nowiki (guard_items true) nowiki_reads in
    subst (λ (xs : List Item). IsWrittenAs pages nowiki (λ i. xs) [] []) e (calm_written pages nowiki (subst AreUnbraced (sym e) tt))
end_written pages false =
    subst (λ (xs : List Item). IsWrittenAs pages [] (λ i. xs) [] []) nothing_read (calm_written pages [] (subst AreUnbraced (sym nothing_read) tt))

signs_written : (pages : Pages) (s : Setting) (before signs : List ContentSign) → s.within ≡ false → AreReadThings signs → AreOwnParts pages signs
    → IsWrittenAs pages (spelled_from s before signs) (λ i. written_items pages s i before signs) (written_calls pages signs) (written_work pages signs)
signs_written pages s before [] w h g = end_written pages (is_guarded s before [])
signs_written pages s before (letter c ∷ after) w h g =
    let e : Bool = is_escaped s.within s.place before c after in
    let u : Bool = is_guarded s before (letter c ∷ after) in
    let more : List ℕ = spelled_from s (letter c ∷ before) after in
    let ms : List Item = content_items s (letter c ∷ before) after in
    let next : Level (c == 10) more ms = alone_level s (letter c ∷ before) after (c == 10) w refl (λ z. z) h in
    let escapes : e ≡ true → is_escapable c ≡ true = λ i. escapable s.within s.place before c after i in
    let plain : e ≡ false → is_bracket c ≡ false = λ i. plain_bracket s before c after i in
    let own : InLine (written_by e c ++ more) (letter_items e c ++ ms) =
    subst (λ (bs : List ℕ). InLine (written_by e c ++ bs) (letter_items e c ++ ms)) (append-nil more)
    (letter_level s before c after [] ms (c == 10) refl (subst (λ (bs : List ℕ). Level (c == 10) bs ms) (sym (append-nil more)) next)) in
    guard_then pages u (written_by e c ++ more) (letter_items e c ++ ms) (λ i. letter_items e c ++ written_items pages s i (letter c ∷ before) after)
    (written_calls pages after) (written_work pages after) own
    (calm_then pages (written_by e c) more (letter_items e c) (λ i. written_items pages s i (letter c ∷ before) after) (written_calls pages after) (written_work pages after)
    (letter_met e c more ms (c == 10) refl escapes plain next own) (written_alone e c escapes plain) (letter_unbraced e c plain)
    (signs_written pages s (letter c ∷ before) after w h g))
signs_written pages s before (thing t ∷ after) w h g =
    let u : Bool = is_guarded s before (thing t ∷ after) in
    let own : IsReadThing t = h.0 in
    let more : List ℕ = spelled_from s (thing t ∷ before) after in
    let ms : List Item = content_items s (thing t ∷ before) after in
    let next : Level false more ms = alone_level s (thing t ∷ before) after false w (no_end t own) (λ z. cc) h.1 in
    let unclosed = subst (λ (bs : List ℕ). BeginsUnclosed bs) (append-nil more) (spelled_unclosed s (thing t ∷ before) after [] h.1 tt) in
    let line : InLine (t.source ++ more) (node_items t.source ++ ms) = line_after t own more ms unclosed next.line in
    let met : AreMet (words Page t.source) (words Page more) (words Page (t.source ++ more)) =
    met_line t.source more (node_items t.source) ms (source_cut t.source more own.ends (spelled_outward s (thing t ∷ before) after h.1)) (thing_same t own) line
    (source_after t.source own.ends) in
    guard_then pages u (t.source ++ more) (node_items t.source ++ ms)
    (λ i. part_items pages i t.source ++ written_items pages s (i + calls_in pages t.source) (thing t ∷ before) after)
    ((expanded_page pages t.source).outer ++ written_calls pages after) (work_in pages t.source ++ written_work pages after) line
    (both_written pages t.source more (λ i. part_items pages i t.source) (λ i. written_items pages s i (thing t ∷ before) after)
    (expanded_page pages t.source).outer (written_calls pages after) (work_in pages t.source) (written_work pages after) met
    (call_written pages t.source g.0) (signs_written pages s (thing t ∷ before) after w h.1 g.1))

pub content_written : (pages : Pages) (s : Setting) (signs : List ContentSign) → s.within ≡ false → AreReadThings signs → AreOwnParts pages signs
    → IsWrittenAs pages (spelled s signs) (λ i. written_items pages s i [] signs) (written_calls pages signs) (written_work pages signs)
content_written pages s signs w h g = signs_written pages s [] signs w h g

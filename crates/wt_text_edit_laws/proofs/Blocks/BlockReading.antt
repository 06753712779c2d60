-- The items of a page with paragraphs and headings: those of its parts, each read as a page of its own; and it calls nothing.
use Rattle.std.proofs.Common.{arith, refl, ◌≡◌, ◌≤◌, ℕ, zero, suc, Bool, true, false, List, [], ◌∷◌, ◌++◌, sym, ap, ◌∙◌, subst, append-nil, append_assoc, None, inl, inr}
use Rattle.std.specs.Prelude.{◌⊎◌, ◌==◌, ◌||◌, slice_index}
use Rattle.std.proofs.lemmas.Bool.Decides.{nat_tests}
use Rattle.std.proofs.lemmas.List.{map-append}
use Rattle.wt_span.specs.declared.form.Mode.TheVariants.{Page}
use Rattle.wt_span.specs.declared.form.LexKind.TheVariants.{Equals}
use Rattle.wt_span.specs.Bytes.{is_blank, is_break}
use Rattle.wt_span.specs.Items.{Item, char, sources}
use Rattle.wt_span.specs.Lexemes.{form_at}
use Rattle.wt_typed_blocks.proofs.Forms.{comment_other, other_byte, equals_byte}
use Rattle.wt_expand.specs.PageCalls.{expanded_page}
use Rattle.wt_expand.specs.PageItems.{page_items}
use Rattle.wt_expand.specs.Work.{Pages, first_refusal}
use Rattle.wt_expand.specs.Expansion.{page_work}
use Rattle.wt_expand.proofs.PageLaws.{page_sources}
use Rattle.wt_text_edit_laws.specs.LonePages.{page_chars, of_items}
use Rattle.wt_text_edit_laws.specs.TypedPages.{IsTypedPage}
use Rattle.wt_part_laws.specs.Lexer.{lexer}
use Rattle.wt_part_laws.specs.Scans.{after_all}
use Rattle.wt_text_edit_laws.proofs.Prose.Uncommented.{BeginsUncommented, uncommented_other}
use Rattle.wt_text_edit_laws.proofs.Prose.InFront.{Reads, reads_byte, reads_form, read_items}
use Rattle.wt_text_edit_laws.specs.NoCalls.{CallsNothing}
use Rattle.wt_text_edit_laws.specs.SignParts.{AreSigned, IsOnSign, IsLedTo}
use Rattle.wt_text_edit_laws.specs.TextBetween.{AreEnded, HasEndsBefore, BeginsShown, StandsBehind, LineEnds}
use Rattle.wt_text_edit_laws.proofs.Between.LineForms.{ends_before_any}
use Rattle.wt_text_edit_laws.proofs.Between.Fronts.{ReadsAfter, reads_after, reads_either, items_from, first_from, byte_from, form_from, page_read, alone_reads, before_reads, behind_reads}
use Rattle.wt_text_edit_laws.proofs.Between.Shown.{shown_before, shown_reads}
use Rattle.wt_text_edit_laws.proofs.Between.LineComments.{lines_ended}
use Rattle.wt_text_edit_laws.proofs.Between.NoCalls.{calm_expanded, calm_unrefused}
use Rattle.wt_text_edit_laws.proofs.Paragraphs.Texts.{EndsHere, here_begins, nothing_is, one_line, line_reads}
use Rattle.wt_text_edit_laws.proofs.Paragraphs.SeenLines.{lines_seen}
use Rattle.wt_text_edit_laws.proofs.Cuts.Seen.{shown_cuts, line_shown, seen_begins}
use Rattle.wt_text_edit_laws.proofs.Blocks.SignBraces.{heading_unclosed}
use Rattle.wt_text_edit_laws.proofs.Blocks.SignReading.{signed_reads}
use Rattle.wt_text_edit_laws.proofs.Texts.TypedItems.{ItemsOf, items_cut, items_are}
use Rattle.wt_text_edit_laws.specs.TypedHeadings.{Sides, AreBlanks, AreSides, equals, opening, closing, closing_items, heading_line, EndsLine}
use Rattle.wt_text_edit_laws.specs.TextBlocks.{TextBlock, a_paragraph, a_heading, source_of, block_items, IsFrame, IsTypedHeading, BeginsLine}
use Rattle.wt_text_edit_laws.specs.Contents.{IsHeadingLine, IsContentOf, IsContent, IsFirmContent, IsNewContent, TextEnds}
use Rattle.wt_text_edit_laws.specs.ReadContents.{begins_shown, BeginsParagraph, BeginsBlock, IsReadContent, BeginsUnclosed, joins_reference, BeginsUnjoined, StaysUncommented, IsFirmlyRead, IsReadAnew}
use Rattle.wt_text_edit_laws.specs.BlockSpots.{BlockSpot, spots_source, EndBeforeBlocks, IsRead, AreReadAfter, IsReadSpot, AreReadSpots, AreRead}

-- ---- a heading's delimiters

-- a `=` or a blank
abbrev IsQuiet : ℕ → Type 0
IsQuiet b = (b == 61 || is_blank b) ≡ true

abbrev pub AreQuiet : List ℕ → Type 0
AreQuiet [] = Unit {0}
AreQuiet (b ∷ bs) = IsQuiet b × AreQuiet bs

pub quiet_joined : (bs cs : List ℕ) → AreQuiet bs → AreQuiet cs → AreQuiet (bs ++ cs)
quiet_joined [] cs h g = g
quiet_joined (b ∷ bs) cs h g = (h.0, quiet_joined bs cs h.1 g)

pub run_quiet : (n : ℕ) → AreQuiet (equals n)
run_quiet zero = tt
run_quiet (suc n) = (refl, run_quiet n)

or_right : (a b : Bool) → b ≡ true → (a || b) ≡ true
or_right true b e = refl
or_right false b e = e

pub blanks_quiet : (bs : List ℕ) → AreBlanks bs → AreQuiet bs
blanks_quiet [] h = tt
blanks_quiet (b ∷ bs) h = (or_right (b == 61) (is_blank b) h.0, blanks_quiet bs h.1)

pub opening_quiet : (s : Sides) → AreSides s → AreQuiet (opening s)
opening_quiet s a = quiet_joined (equals s.level) s.lead (run_quiet s.level) (blanks_quiet s.lead a.lead)

by_tests : (P : ℕ → Type 0) → P 61 → P 32 → P 9 → (b : ℕ) (u v w : Bool) → (b == 61) ≡ u → (b == 32) ≡ v → (b == 9) ≡ w → (u || (v || w)) ≡ true → P b
by_tests P p q r b true v w e f g h = let is : b ≡ 61 = grind (arith, nat_tests, e) in subst P (sym is) p
by_tests P p q r b false true w e f g h = let is : b ≡ 32 = grind (arith, nat_tests, f) in subst P (sym is) q
by_tests P p q r b false false true e f g h = let is : b ≡ 9 = grind (arith, nat_tests, g) in subst P (sym is) r
by_tests P p q r b false false false e f g h = cc

-- which it is
pub each_quiet : (P : ℕ → Type 0) → P 61 → P 32 → P 9 → (b : ℕ) → IsQuiet b → P b
each_quiet P p q r b h = by_tests P p q r b (b == 61) (b == 32) (b == 9) refl refl refl h

-- ---- how they are read

read_equals : (bs : List ℕ) (xs : List Item) → Reads bs xs → Reads (61 ∷ bs) (char None 61 ∷ xs)
read_equals bs xs r = reads_form Equals 61 [] bs xs (equals_byte Page bs) (uncommented_other 61 bs refl (comment_other 61 bs (omega arith))) r

read_space : (bs : List ℕ) (xs : List Item) → Reads bs xs → Reads (32 ∷ bs) (char None 32 ∷ xs)
read_space bs xs r = reads_byte 32 bs xs (other_byte Page 32 bs refl) (comment_other 32 bs (omega arith)) r

read_tab : (bs : List ℕ) (xs : List Item) → Reads bs xs → Reads (9 ∷ bs) (char None 9 ∷ xs)
read_tab bs xs r = reads_byte 9 bs xs (other_byte Page 9 bs refl) (comment_other 9 bs (omega arith)) r

pub read_quiet : (bs rest : List ℕ) (xs : List Item) → AreQuiet bs → Reads rest xs → Reads (bs ++ rest) (page_chars bs ++ xs)
read_quiet [] rest xs h r = r
read_quiet (b ∷ bs) rest xs h r =
    let ends : List ℕ = bs ++ rest in
    let items : List Item = page_chars bs ++ xs in
    let so : Reads ends items = read_quiet bs rest xs h.1 r in
    each_quiet (λ (c : ℕ). Reads (c ∷ ends) (char None c ∷ items)) (read_equals ends items so) (read_space ends items so) (read_tab ends items so) b h.0

-- behind a `=` it makes no difference what is read there behind a line break
equals_reads : (bs : List ℕ) (xs : List Item) → ReadsAfter false bs xs → Reads (61 ∷ bs) (char None 61 ∷ xs)
equals_reads bs xs r =
    reads_either (61 ∷ bs) (char None 61 ∷ xs) (uncommented_other 61 bs refl (comment_other 61 bs (omega arith))) (record {
      items = sym (first_from false (61 ∷ bs)) ∙ form_from false 61 bs Equals 0 (equals_byte Page bs)
          ∙ ap (λ (ys : List Item). char None 61 ∷ ys) (first_from false bs ∙ r.items);
    })

run_reads : (n : ℕ) (bs : List ℕ) (xs : List Item) → ReadsAfter false bs xs → Reads (equals (suc n) ++ bs) (page_chars (equals (suc n)) ++ xs)
run_reads zero bs xs r = equals_reads bs xs r
run_reads (suc n) bs xs r = read_equals (equals (suc n) ++ bs) (page_chars (equals (suc n)) ++ xs) (run_reads n bs xs r)

signs_read : (n : ℕ) (bs : List ℕ) (xs : List Item) → 1 ≤ n → ReadsAfter false bs xs → Reads (equals n ++ bs) (page_chars (equals n) ++ xs)
signs_read zero bs xs some r = absurd (omega (arith, some))
signs_read (suc n) bs xs some r = run_reads n bs xs r

-- a blank, where no line begins
blank_after : (b : ℕ) (bs : List ℕ) (xs : List Item) → form_at Page false (b ∷ bs) ≡ None → is_break b ≡ false → ReadsAfter false bs xs
    → ReadsAfter false (b ∷ bs) (char None b ∷ xs)
blank_after b bs xs f e r = record {
  items = sym (first_from false (b ∷ bs)) ∙ byte_from false b bs f
      ∙ ap (λ (ys : List Item). char None b ∷ ys) (ap (λ (v : Bool). items_from v 0 bs) e ∙ first_from false bs ∙ r.items);
}

blanks_after : (bs rest : List ℕ) (xs : List Item) → AreBlanks bs → ReadsAfter false rest xs → ReadsAfter false (bs ++ rest) (page_chars bs ++ xs)
blanks_after [] rest xs h r = r
blanks_after (b ∷ bs) rest xs h r =
    let ends : List ℕ = bs ++ rest in
    let items : List Item = page_chars bs ++ xs in
    let so : ReadsAfter false ends items = blanks_after bs rest xs h.1 r in
    each_quiet (λ (c : ℕ). ReadsAfter false (c ∷ ends) (char None c ∷ items))
    (reads_after false (61 ∷ ends) (char None 61 ∷ items) (equals_reads ends items so))
    (blank_after 32 ends items (other_byte Page 32 ends refl) refl so)
    (blank_after 9 ends items (other_byte Page 9 ends refl) refl so) b (or_right (b == 61) (is_blank b) h.0)

-- a heading's opening delimiter, before what is read where no line begins
opening_reads : (s : Sides) (rest : List ℕ) (xs : List Item) → AreSides s → ReadsAfter false rest xs → Reads (opening s ++ rest) (page_chars (opening s) ++ xs)
opening_reads s rest xs a r =
    let run : List ℕ = equals s.level in
    let signs : List Item = page_chars run in
    let blanks : List Item = page_chars s.lead in
    let all : Reads (run ++ (s.lead ++ rest)) (signs ++ (blanks ++ xs)) =
    signs_read s.level (s.lead ++ rest) (blanks ++ xs) a.some (blanks_after s.lead rest xs a.lead r) in
    let items : page_chars (opening s) ++ xs ≡ signs ++ (blanks ++ xs) =
    ap (λ (zs : List Item). zs ++ xs) (map-append (char None) run s.lead) ∙ append_assoc signs blanks xs in
    subst (λ bs. Reads bs (page_chars (opening s) ++ xs)) (sym (append_assoc run s.lead rest))
    (subst (λ ys. Reads (run ++ (s.lead ++ rest)) ys) (sym items) all)

-- behind the last `=`, where a line break is after it or the page ends
rest_reads : (s : Sides) (rest : List ℕ) (xs : List Item) → IsFrame s → EndsHere rest → Reads rest xs
    → ReadsAfter false (s.rest ++ rest) (page_items s.rest ++ xs)
rest_reads s [] xs f e r =
    let own : List Item = page_items s.rest in
    subst (λ ys. ReadsAfter false (s.rest ++ []) (own ++ ys)) (sym (nothing_is xs r))
    (subst (λ bs. ReadsAfter false bs (own ++ [])) (sym (append-nil s.rest))
    (subst (λ ys. ReadsAfter false s.rest ys) (sym (append-nil own)) (alone_reads s.rest)))
rest_reads s (b ∷ r) xs f e read =
    let P : ℕ → Type 0 = λ (c : ℕ). Reads (c ∷ r) xs → ReadsAfter false (s.rest ++ c ∷ r) (page_items s.rest ++ xs) in
    subst P (sym e) (λ k. line_reads s.rest r (page_items s.rest) xs (ends_before_any r (s.rest ++ 10 ∷ []) f.stands.has_ends) f.ended k) read

pub closing_front : (s : Sides) (rest : List ℕ) (xs : List Item) → IsFrame s → EndsHere rest → Reads rest xs
    → Reads (closing s ++ rest) (closing_items s ++ xs)
closing_front s rest xs f e r =
    let run : List ℕ = equals s.level in
    let signs : List Item = page_chars run in
    let blanks : List Item = page_chars s.trail in
    let own : List Item = page_items s.rest in
    let behind : Reads (run ++ (s.rest ++ rest)) (signs ++ (own ++ xs)) = signs_read s.level (s.rest ++ rest) (own ++ xs) f.sides.some (rest_reads s rest xs f e r) in
    let all : Reads (s.trail ++ (run ++ (s.rest ++ rest))) (blanks ++ (signs ++ (own ++ xs))) =
    read_quiet s.trail (run ++ (s.rest ++ rest)) (signs ++ (own ++ xs)) (blanks_quiet s.trail f.sides.trail) behind in
    let source : closing s ++ rest ≡ s.trail ++ (run ++ (s.rest ++ rest)) =
    append_assoc s.trail (run ++ s.rest) rest ∙ ap (λ (bs : List ℕ). s.trail ++ bs) (append_assoc run s.rest rest) in
    let items : closing_items s ++ xs ≡ blanks ++ (signs ++ (own ++ xs)) =
    ap (λ (zs : List Item). (zs ++ own) ++ xs) (map-append (char None) s.trail run)
    ∙ append_assoc (blanks ++ signs) own xs ∙ append_assoc blanks signs (own ++ xs) in
    subst (λ bs. Reads bs (closing_items s ++ xs)) (sym source) (subst (λ ys. Reads (s.trail ++ (run ++ (s.rest ++ rest))) ys) (sym items) all)

-- its text is typed
pub typed_text : (s : Sides) (q : List ℕ) → IsTypedHeading s q → IsTypedPage q
typed_text s q h = record { setting = h.setting; text = h.text; utf8 = h.utf8; of_block = h.of_block; is = h.is }

-- A paragraph's content is read so whether a line begins before it or not. In a heading none does: a `=` is before it, with blanks or none between.
abbrev pub ReadsIn : TextBlock → List ℕ → List Item → Type 0
ReadsIn a_paragraph bs xs = Reads bs xs
ReadsIn (a_heading s) bs xs = ReadsAfter false bs xs

pub reads_in : (k : TextBlock) (bs : List ℕ) (xs : List Item) → Reads bs xs → ReadsIn k bs xs
reads_in a_paragraph bs xs r = r
reads_in (a_heading s) bs xs r = reads_after false bs xs r

-- so it is of what no line of comments begins
pub uncommented_in : (k : TextBlock) (q rest : List ℕ) → StandsBehind (q ++ rest) → StaysUncommented k q rest
uncommented_in a_paragraph q rest h = h
uncommented_in (a_heading s) q rest h = tt

-- these bytes are read the same before anything with which no reference goes on
abbrev pub IsBeforeAny : TextBlock → List ℕ → Type 0
IsBeforeAny k q = (rest : List ℕ) (xs : List Item) → BeginsUnjoined rest → Reads rest xs → ReadsIn k (q ++ rest) (page_items q ++ xs)

-- or before what doesn't begin with a `}` either
abbrev pub IsBeforeUnclosed : TextBlock → List ℕ → Type 0
IsBeforeUnclosed k q = (rest : List ℕ) (xs : List Item) → BeginsUnclosed rest → BeginsUnjoined rest → Reads rest xs → ReadsIn k (q ++ rest) (page_items q ++ xs)

end_unclosed : (rest : List ℕ) → EndsHere rest → BeginsUnclosed rest
end_unclosed [] e = tt
end_unclosed (b ∷ r) e = subst (λ (c : ℕ). BeginsUnclosed (c ∷ r)) (sym e) refl

end_unjoined : (rest : List ℕ) → EndsHere rest → BeginsUnjoined rest
end_unjoined [] e = tt
end_unjoined (b ∷ r) e = subst (λ (c : ℕ). BeginsUnjoined (c ∷ r)) (sym e) refl

signs_unclosed : (trail : List ℕ) (n : ℕ) (more : List ℕ) → AreBlanks trail → 1 ≤ n → BeginsUnclosed (trail ++ (equals n ++ more))
signs_unclosed [] zero more h some = absurd (omega (arith, some))
signs_unclosed [] (suc n) more h some = refl
signs_unclosed (b ∷ bs) n more h some = each_quiet (λ (c : ℕ). (c == 125) ≡ false) refl refl refl b (or_right (b == 61) (is_blank b) h.0)

signs_unjoined : (trail : List ℕ) (n : ℕ) (more : List ℕ) → AreBlanks trail → 1 ≤ n → BeginsUnjoined (trail ++ (equals n ++ more))
signs_unjoined [] zero more h some = absurd (omega (arith, some))
signs_unjoined [] (suc n) more h some = refl
signs_unjoined (b ∷ bs) n more h some = each_quiet (λ (c : ℕ). joins_reference c ≡ false) refl refl refl b (or_right (b == 61) (is_blank b) h.0)

-- how the closing delimiter of a heading begins
closing_begins : (P : List ℕ → Type 0) (s : Sides) (rest : List ℕ) → P (s.trail ++ (equals s.level ++ (s.rest ++ rest))) → P (closing s ++ rest)
closing_begins P s rest h =
    subst P (sym (append_assoc s.trail (equals s.level ++ s.rest) rest ∙ ap (λ (bs : List ℕ). s.trail ++ bs) (append_assoc (equals s.level) s.rest rest))) h

closing_unjoined : (s : Sides) (rest : List ℕ) → AreSides s → BeginsUnjoined (closing s ++ rest)
closing_unjoined s rest a = closing_begins BeginsUnjoined s rest (signs_unjoined s.trail s.level (s.rest ++ rest) a.trail a.some)

closing_unclosed : (s : Sides) (rest : List ℕ) → AreSides s → BeginsUnclosed (closing s ++ rest)
closing_unclosed s rest a = closing_begins BeginsUnclosed s rest (signs_unclosed s.trail s.level (s.rest ++ rest) a.trail a.some)

pub framed_front : (s : Sides) (q rest : List ℕ) (xs : List Item) → IsFrame s → IsBeforeUnclosed (a_heading s) q → EndsHere rest → Reads rest xs
    → Reads (source_of (a_heading s) q ++ rest) (heading_line s (page_items q) ++ xs)
framed_front s q rest xs h f e r =
    let own : List Item = page_items q in
    let o : List Item = page_chars (opening s) in
    let c : List Item = closing_items s in
    let end : Reads (closing s ++ rest) (c ++ xs) = closing_front s rest xs h e r in
    let text : ReadsAfter false (q ++ (closing s ++ rest)) (own ++ (c ++ xs)) = f (closing s ++ rest) (c ++ xs) (closing_unclosed s rest h.sides) (closing_unjoined s rest h.sides) end in
    let all : Reads (opening s ++ (q ++ (closing s ++ rest))) (o ++ (own ++ (c ++ xs))) =
    opening_reads s (q ++ (closing s ++ rest)) (own ++ (c ++ xs)) h.sides text in
    let source : source_of (a_heading s) q ++ rest ≡ opening s ++ (q ++ (closing s ++ rest)) =
    append_assoc (opening s) (q ++ closing s) rest ∙ ap (λ (bs : List ℕ). opening s ++ bs) (append_assoc q (closing s) rest) in
    let items : heading_line s own ++ xs ≡ o ++ (own ++ (c ++ xs)) =
    append_assoc o (own ++ c) xs ∙ ap (λ (zs : List Item). o ++ zs) (append_assoc own c xs) in
    subst (λ bs. Reads bs (heading_line s own ++ xs)) (sym source) (subst (λ ys. Reads (opening s ++ (q ++ (closing s ++ rest))) ys) (sym items) all)

-- what a block has beside its content
abbrev pub HasFrame : TextBlock → Type 0
HasFrame a_paragraph = Unit {0}
HasFrame (a_heading s) = IsFrame s

-- a block whose content is read the same before anything, but a `}`
unclosed_front : (k : TextBlock) (q rest : List ℕ) (xs : List Item) → HasFrame k → IsBeforeUnclosed k q → EndsHere rest → Reads rest xs
    → Reads (source_of k q ++ rest) (block_items k q ++ xs)
unclosed_front a_paragraph q rest xs h f e r = f rest xs (end_unclosed rest e) (end_unjoined rest e) r
unclosed_front (a_heading s) q rest xs h f e r = framed_front s q rest xs h f e r

pub any_front : (k : TextBlock) (q rest : List ℕ) (xs : List Item) → HasFrame k → IsBeforeAny k q → EndsHere rest → Reads rest xs
    → Reads (source_of k q ++ rest) (block_items k q ++ xs)
any_front k q rest xs h f e r = unclosed_front k q rest xs h (λ rs ys u j s. f rs ys j s) e r

-- ---- a content of the page

pub content_frame : (k : TextBlock) (q : List ℕ) → IsContent k q → HasFrame k
content_frame a_paragraph q h = tt
content_frame (a_heading s) q h = let own : IsHeadingLine s q = h.is in own.frame

content_begins_block : (k : TextBlock) (q : List ℕ) → IsContentOf k q → page_items (source_of k q ++ 10 ∷ []) ≡ block_items k q ++ char None 10 ∷ []
    → BeginsBlock k q
content_begins_block a_paragraph q h e = seen_begins q e (lines_seen (page_items q) h.seen)
content_begins_block (a_heading s) q h e = h.frame

pub content_read : (k : TextBlock) (q : List ℕ) → IsContent k q → IsReadContent k q
content_read k q h = record { utf8 = h.utf8; ended = h.ended; unended = h.unended; begins = content_begins_block k q h.is h.ended }

pub firmly_read : (k : TextBlock) (q : List ℕ) → IsFirmContent k q → IsFirmlyRead k q
firmly_read k q h = record { firm = λ rest b u j. h.firm rest b j; uncommented = λ rest b u j. h.uncommented rest b j; unclosed = h.unclosed }

pub read_anew : (k : TextBlock) (was now : List ℕ) → IsNewContent k was now → IsReadAnew k was now
read_anew k was now h = record { read = content_read k now h.firm.content; firm = firmly_read k now h.firm; closes = h.closes }

-- ---- one by its lexemes

pub read_frame : (k : TextBlock) (q : List ℕ) → IsReadContent k q → HasFrame k
read_frame a_paragraph q h = tt
read_frame (a_heading s) q h = h.begins

-- no line of comments begins it
run_begins : (n : ℕ) (bs : List ℕ) → 1 ≤ n → BeginsShown (equals n ++ bs)
run_begins zero bs some = absurd (omega (arith, some))
run_begins (suc n) bs some =
    let more : List ℕ = equals n ++ bs in
    let u : BeginsUncommented (61 ∷ more) = uncommented_other 61 more refl (comment_other 61 more (omega arith)) in
    ap (λ (k : ℕ). is_break (slice_index (61 ∷ more) k)) u.is

heading_begins : (s : Sides) (q rest : List ℕ) → AreSides s → BeginsShown (source_of (a_heading s) q ++ rest)
heading_begins s q rest a =
    let more : List ℕ = q ++ closing s in
    subst BeginsShown (sym (append_assoc (opening s) more rest ∙ append_assoc (equals s.level) s.lead (more ++ rest)))
    (run_begins s.level (s.lead ++ (more ++ rest)) a.some)

paragraph_begins : (q rest : List ℕ) → BeginsParagraph q → EndsHere rest → BeginsShown (q ++ rest)
paragraph_begins q [] h e = subst BeginsShown (sym (append-nil q)) h.alone.shown
paragraph_begins q (b ∷ r) h e =
    let line : List ℕ = q ++ 10 ∷ [] in
    let P : ℕ → Type 0 = λ (c : ℕ). BeginsShown (q ++ c ∷ r) in
    subst P (sym e) (subst BeginsShown (append_assoc q (10 ∷ []) r) (line_shown line r (lines_ended line (one_line q)) h.before_break))

pub content_begins : (k : TextBlock) (q rest : List ℕ) → IsReadContent k q → EndsHere rest → BeginsShown (source_of k q ++ rest)
content_begins a_paragraph q rest h e = paragraph_begins q rest h.begins e
content_begins (a_heading s) q rest h e = let frame : IsFrame s = h.begins in heading_begins s q rest frame.sides

-- what is read so, whether a line break is before it or not, and no line of comments begins it
pub record ReadsShown (bs : List ℕ) (xs : List Item) : Type 0 where
  pub items : ItemsOf bs xs
  pub shown : BeginsShown bs

reads_shown : (bs : List ℕ) (xs : List Item) → BeginsShown bs → ReadsAfter false bs xs → ReadsShown bs xs
reads_shown bs xs u r = record { items = λ after. ap (items_cut bs) (shown_cuts after bs u) ∙ r.items; shown = u }

pub shown_items : (bs : List ℕ) (xs : List Item) → ReadsShown bs xs → page_items bs ≡ xs
shown_items bs xs r = items_are bs xs r.items

-- before a line break, or where the page ends
own_front : (k : TextBlock) (q rest : List ℕ) (xs : List Item) → IsReadContent k q → LineEnds (source_of k q) rest → EndsHere rest → Reads rest xs
    → ReadsShown (source_of k q ++ rest) (block_items k q ++ xs)
own_front k q [] xs h l e r =
    let line : List ℕ = source_of k q in
    let own : List Item = block_items k q in
    let begins : BeginsShown line = subst BeginsShown (append-nil line) (content_begins k q [] h tt) in
    let alone : ReadsShown line (page_items line) = reads_shown line (page_items line) begins (alone_reads line) in
    subst (λ ys. ReadsShown (line ++ []) (own ++ ys)) (sym (nothing_is xs r))
    (subst (λ bs. ReadsShown bs (own ++ [])) (sym (append-nil line)) (subst (λ ys. ReadsShown line ys) (h.unended ∙ sym (append-nil own)) alone))
own_front k q (b ∷ r) xs h l e read =
    let line : List ℕ = source_of k q in
    let own : List Item = block_items k q in
    let P : ℕ → Type 0 = λ (c : ℕ). HasEndsBefore r (line ++ c ∷ []) → Reads (c ∷ r) xs → ReadsShown (line ++ c ∷ r) (own ++ xs) in
    subst P (sym e) (λ m z. reads_shown (line ++ 10 ∷ r) (own ++ xs) (content_begins k q (10 ∷ r) h refl) (line_reads line r own xs m h.ended z)) l read

-- one that is firm, whatever stands behind it
firm_items : (k : TextBlock) (q : List ℕ) → IsFirmlyRead k q → (rest : List ℕ) (xs : List Item) → BeginsUnclosed rest → BeginsUnjoined rest → Reads rest xs
    → ReadsAfter false (q ++ rest) (page_items q ++ xs)
firm_items k q h rest xs c j r =
    let b : BeginsUncommented rest = r.begins in
    let items : page_items (q ++ rest) ≡ page_items q ++ xs =
    h.firm rest (record { uncommented = b.is }) c j ∙ ap (λ ys. page_items q ++ ys) (read_items rest xs r) in
    subst (λ ys. ReadsAfter false (q ++ rest) ys) items (alone_reads (q ++ rest))

pub firm_before : (k : TextBlock) (q : List ℕ) → IsFirmlyRead k q → IsBeforeUnclosed k q
firm_before a_paragraph q h rest xs c j r =
    let b : BeginsUncommented rest = r.begins in
    let u : StandsBehind (q ++ rest) = h.uncommented rest (record { uncommented = b.is }) c j in
    reads_either (q ++ rest) (page_items q ++ xs) (record { is = u.uncommented }) (firm_items a_paragraph q h rest xs c j r)
firm_before (a_heading s) q h rest xs c j r = firm_items (a_heading s) q h rest xs c j r

-- ---- a block begins with something visible

run_shown : (n : ℕ) (bs : List ℕ) (ys : List Item) → 1 ≤ n → begins_shown (page_chars (equals n ++ bs) ++ ys) ≡ true
run_shown zero bs ys some = absurd (omega (arith, some))
run_shown (suc n) bs ys some = refl

begins_by_sign : (k : TextBlock) (q : List ℕ) → BeginsBlock k q → begins_shown (block_items k q) ≡ true
begins_by_sign a_paragraph q h = h.shown
begins_by_sign (a_heading s) q h = run_shown s.level s.lead (page_items q ++ closing_items s) h.sides.some

pub block_shown : (k : TextBlock) (q : List ℕ) → IsReadContent k q → begins_shown (block_items k q) ≡ true
block_shown k q h = begins_by_sign k q h.begins

pub block_front : (k : TextBlock) (q rest : List ℕ) (xs : List Item) → IsReadContent k q → TextEnds k q rest → EndsHere rest → Reads rest xs
    → ReadsShown (source_of k q ++ rest) (block_items k q ++ xs)
block_front k q rest xs h (inl f) e r =
    let own : Reads (source_of k q ++ rest) (block_items k q ++ xs) = unclosed_front k q rest xs (read_frame k q h) (firm_before k q f) e r in
    record {
      items = own.items;
      shown = shown_reads (source_of k q ++ rest) (block_items k q ++ xs) own (shown_before (block_items k q) xs (block_shown k q h));
    }
block_front k q rest xs h (inr l) e r = own_front k q rest xs h l e r

-- ---- the parts

pub read_spot : (s : BlockSpot) → IsRead s → IsReadSpot s
read_spot s h = record { led = h.led; before_utf8 = h.before_utf8; block = content_read s.block s.text h.block }

pub read_spots : (ss : List BlockSpot) (behind : List ℕ) → AreReadAfter ss behind → AreReadSpots ss behind
read_spots [] behind h = h
read_spots (s ∷ ss) behind h = (read_spot s h.0, h.1, read_spots ss behind h.2)

abbrev pub spots_items : List BlockSpot → List ℕ → List Item
spots_items [] behind = page_items behind
spots_items (s ∷ ss) behind = page_items s.before ++ (block_items s.block s.text ++ spots_items ss behind)

in_front : (bs rest : List ℕ) (xs : List Item) → AreEnded bs ⊎ (AreSigned bs × BeginsUnclosed rest) → HasEndsBefore rest bs → ReadsShown rest xs
    → ReadsAfter false (bs ++ rest) (page_items bs ++ xs)
in_front bs rest xs (inl l) h r = before_reads bs rest xs l h r.shown (record { items = r.items (after_all (lexer Page) false bs) })
in_front bs rest xs (inr l) h r = signed_reads bs rest xs l.0 l.1 h (record { items = r.items false })

-- a block behind a sign, with what follows it
on_sign : (k : TextBlock) (q rest : List ℕ) → IsOnSign k q → EndsHere rest → BeginsUnclosed (source_of k q ++ rest)
on_sign a_paragraph [] rest h e = end_unclosed rest e
on_sign a_paragraph (b ∷ q) rest h e = h
on_sign (a_heading s) q rest h e = heading_unclosed s (q ++ closing s) rest h

led_front : (s : BlockSpot) (rest : List ℕ) → IsLedTo s.before s.block s.text → EndsHere rest
    → AreEnded s.before ⊎ (AreSigned s.before × BeginsUnclosed (source_of s.block s.text ++ rest))
led_front s rest (inl l) e = inl l
led_front s rest (inr l) e = inr (l.0, on_sign s.block s.text rest l.1 e)

spot_reads : (s : BlockSpot) (rest : List ℕ) (xs : List Item) → IsReadSpot s → HasEndsBefore (source_of s.block s.text ++ rest) s.before → TextEnds s.block s.text rest → EndsHere rest → Reads rest xs
    → ReadsAfter false (s.before ++ (source_of s.block s.text ++ rest)) (page_items s.before ++ (block_items s.block s.text ++ xs))
spot_reads s rest xs h b l e r =
    in_front s.before (source_of s.block s.text ++ rest) (block_items s.block s.text ++ xs) (led_front s rest h.led e) b (block_front s.block s.text rest xs h.block l e r)

line_ends : (xs : List Item) → EndsLine xs → EndsHere (sources xs)
line_ends [] e = tt
line_ends (y ∷ ys) e = subst (λ z. EndsHere (sources (z ∷ ys))) (sym e) refl

abbrev pub BeginsHere : List ℕ → Type 0
BeginsHere [] = ⊥
BeginsHere (b ∷ bs) = b ≡ 10

line_begins : (xs : List Item) → BeginsLine xs → BeginsHere (sources xs)
line_begins [] e = absurd e
line_begins (y ∷ ys) e = subst (λ z. BeginsHere (sources (z ∷ ys))) (sym e) refl

pub begins_here : (bs : List ℕ) → BeginsLine (page_items bs) → BeginsHere bs
begins_here bs e = subst BeginsHere (page_sources bs) (line_begins (page_items bs) e)

ends_before : (bs rest : List ℕ) → BeginsHere bs → EndsHere (bs ++ rest)
ends_before [] rest h = absurd h
ends_before (b ∷ bs) rest h = h

pub further_ends : (ss : List BlockSpot) (behind : List ℕ) → AreReadSpots ss behind → EndsHere (spots_source ss behind)
further_ends [] behind h = subst EndsHere (page_sources behind) (line_ends (page_items behind) h.2)
further_ends (s ∷ ss) behind h = ends_before s.before (source_of s.block s.text ++ spots_source ss behind) (begins_here s.before h.1)

pub further_reads : (ss : List BlockSpot) (behind : List ℕ) → AreReadSpots ss behind → EndBeforeBlocks ss behind
    → Reads (spots_source ss behind) (spots_items ss behind)
further_reads [] behind h b = behind_reads behind h.0
further_reads (s ∷ ss) behind h b =
    reads_either (spots_source (s ∷ ss) behind) (spots_items (s ∷ ss) behind)
    (here_begins (spots_source (s ∷ ss) behind) (further_ends (s ∷ ss) behind h))
    (spot_reads s (spots_source ss behind) (spots_items ss behind) h.0 b.0 b.1 (further_ends ss behind h.2) (further_reads ss behind h.2 b.2))

-- whatever the braces among them are
pub items_of_parts : (s : BlockSpot) (ss : List BlockSpot) (behind : List ℕ) → IsReadSpot s → AreReadSpots ss behind
    → EndBeforeBlocks (s ∷ ss) behind → page_items (spots_source (s ∷ ss) behind) ≡ spots_items (s ∷ ss) behind
items_of_parts s ss behind h f b =
    page_read (spots_source (s ∷ ss) behind) (spots_items (s ∷ ss) behind)
    (spot_reads s (spots_source ss behind) (spots_items ss behind) h b.0 b.1 (further_ends ss behind f) (further_reads ss behind f b.2))

pub read_items_of : (ss : List BlockSpot) (behind : List ℕ) → AreRead ss behind → page_items (spots_source ss behind) ≡ spots_items ss behind
read_items_of [] behind h = absurd h
read_items_of (s ∷ ss) behind h = items_of_parts s ss behind (read_spot s h.0) (read_spots ss behind h.1) h.2.end_before

read_calm : (ss : List BlockSpot) (behind : List ℕ) → AreRead ss behind → CallsNothing (page_items (spots_source ss behind))
read_calm [] behind h = absurd h
read_calm (s ∷ ss) behind h = h.2.calls_nothing

pub read_expanded : (pages : Pages) (ss : List BlockSpot) (behind : List ℕ) → AreRead ss behind
    → expanded_page pages (spots_source ss behind) ≡ of_items (page_items (spots_source ss behind))
read_expanded pages ss behind h = calm_expanded pages (spots_source ss behind) (read_calm ss behind h)

pub read_unrefused : (pages : Pages) (ss : List BlockSpot) (behind : List ℕ) → AreRead ss behind
    → first_refusal pages (spots_source ss behind) (page_work pages (spots_source ss behind)) ≡ None
read_unrefused pages ss behind h = calm_unrefused pages (spots_source ss behind) (read_calm ss behind h)

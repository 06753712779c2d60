-- Where a block begins and ends in a page, its lexemes meet those of what is before it and behind it.
use Rattle.std.proofs.Common.{arith, ◌≡◌, inl, ℕ, suc, ◌==◌, Bool, true, false, None, List, [], ◌∷◌, ◌++◌, refl, sym, ap, ◌∙◌, subst, append-nil, inr}
use Rattle.std.specs.Prelude.{if◌then◌else◌}
use Rattle.std.proofs.lemmas.Bool.Decides.{nat_tests}
use Rattle.wt_span.specs.declared.form.Mode.TheVariants.{Page}
use Rattle.wt_span.specs.declared.form.LexKind.TheVariants.{Chars}
use Rattle.wt_span.specs.Items.{Item}
use Rattle.wt_span.specs.Lexemes.{Word, Cut, cuts, closed, words, form_at}
use Rattle.wt_lex.proofs.Cuts.{cuts_cons}
use Rattle.wt_typed_blocks.proofs.Forms.{other_byte}
use Rattle.wt_expand.specs.PageItems.{page_items}
use Rattle.wt_part_laws.specs.Lexer.{lexer}
use Rattle.wt_part_laws.specs.Scans.{after_all, Settles}
use Rattle.wt_part_laws.specs.Apart.{AreMet}
use Rattle.wt_part_laws.proofs.MetWords.{words_meet}
use Rattle.wt_text_edit_laws.specs.TextBlocks.{TextBlock, source_of, block_items}
use Rattle.wt_text_edit_laws.specs.ReadContents.{IsReadContent}
use Rattle.wt_text_edit_laws.specs.SignParts.{IsLedTo}
use Rattle.wt_text_edit_laws.proofs.Cuts.LedCuts.{led_cut}
use Rattle.wt_text_edit_laws.specs.BlockSpots.{BlockSpot, spots_source, EndBeforeBlocks, IsReadSpot, AreReadSpots}
use Rattle.wt_text_edit_laws.proofs.Prose.Uncommented.{BeginsUncommented, either_flag}
use Rattle.wt_text_edit_laws.proofs.Between.LineForms.{marks_settle}
use Rattle.wt_text_edit_laws.proofs.Paragraphs.Texts.{EndsHere, here_begins}
use Rattle.wt_text_edit_laws.proofs.Blocks.BlockReading.{ReadsShown, shown_items, spots_items, block_front, further_ends, further_reads, items_of_parts}
use Rattle.wt_text_edit_laws.proofs.Cuts.Seen.{shown_cuts}
use Rattle.wt_text_edit_laws.proofs.Cuts.Uncrossed.{break_cut, part_settles}

-- ---- a text before one that begins with no comment

pub begins_same : (a : Bool) (cs : List ℕ) → BeginsUncommented cs → cuts Page a 0 cs ≡ cuts Page false 0 cs
begins_same a [] u = refl
begins_same a (b ∷ cs) u =
    cuts_cons Page a b cs (form_at Page false (b ∷ cs)) (either_flag Page a (b ∷ cs) u) ∙ sym (cuts_cons Page false b cs (form_at Page false (b ∷ cs)) refl)

pub no_words : words Page [] ≡ []
unfolding words closed
no_words = refl

-- ---- a block's end

pub line_met : (q rest : List ℕ) (xs : List Item) → EndsHere rest → page_items (q ++ rest) ≡ page_items q ++ xs → AreMet (words Page q) (words Page rest) (words Page (q ++ rest))
line_met q [] xs e is = inl (ap (words Page) (append-nil q) ∙ sym (ap (λ (ws : List Word). words Page q ++ ws) no_words ∙ append-nil (words Page q)))
line_met q (b ∷ r) xs e is =
    let P : ℕ → Type 0 = λ (c : ℕ). page_items (q ++ c ∷ r) ≡ page_items q ++ xs → AreMet (words Page q) (words Page (c ∷ r)) (words Page (q ++ c ∷ r)) in
    subst P (sym e) (λ same.
    words_meet Page q (10 ∷ r) (part_settles q (10 ∷ r) xs (break_cut q r) same) (begins_same (after_all (lexer Page) false q) (10 ∷ r) (here_begins (10 ∷ r) refl))) is

-- ---- the parts of a page

pub block_reads : (s : BlockSpot) (ss : List BlockSpot) (behind : List ℕ) → IsReadSpot s → AreReadSpots ss behind → EndBeforeBlocks (s ∷ ss) behind
    → ReadsShown (source_of s.block s.text ++ spots_source ss behind) (block_items s.block s.text ++ spots_items ss behind)
block_reads s ss behind h f b =
    block_front s.block s.text (spots_source ss behind) (spots_items ss behind) h.block b.1 (further_ends ss behind f) (further_reads ss behind f b.2)

-- a block is read so by itself, too
pub block_alone : (k : TextBlock) (q : List ℕ) → IsReadContent k q → page_items (source_of k q) ≡ block_items k q
block_alone k q h = h.unended

pub block_met : (s : BlockSpot) (ss : List BlockSpot) (behind : List ℕ) → IsReadSpot s → AreReadSpots ss behind → EndBeforeBlocks (s ∷ ss) behind
    → AreMet (words Page (source_of s.block s.text)) (words Page (spots_source ss behind)) (words Page (source_of s.block s.text ++ spots_source ss behind))
block_met s ss behind h f b =
    let own : List ℕ = source_of s.block s.text in
    let rest : List ℕ = spots_source ss behind in
    let items : page_items (own ++ rest) ≡ page_items own ++ spots_items ss behind =
    shown_items (own ++ rest) (block_items s.block s.text ++ spots_items ss behind) (block_reads s ss behind h f b)
    ∙ sym (ap (λ (xs : List Item). xs ++ spots_items ss behind) (block_alone s.block s.text h.block)) in
    line_met own rest (spots_items ss behind) (further_ends ss behind f) items

before_settles : (s : BlockSpot) (ss : List BlockSpot) (behind : List ℕ) → IsReadSpot s → AreReadSpots ss behind → EndBeforeBlocks (s ∷ ss) behind
    → Settles (lexer Page) (source_of s.block s.text ++ spots_source ss behind) false 0 s.before
before_settles s ss behind h f b = by h.led
  where
    rest : List ℕ
    rest = source_of s.block s.text ++ spots_source ss behind

    by : IsLedTo s.before s.block s.text → Settles (lexer Page) rest false 0 s.before
    by (inl l) = let r = block_reads s ss behind h f b in marks_settle rest false 0 s.before r.shown l b.0
    by (inr l) =
        part_settles s.before rest (block_items s.block s.text ++ spots_items ss behind) (led_cut s (spots_source ss behind) l.0 l.1 (further_ends ss behind f))
        (items_of_parts s ss behind h f b)

pub before_met : (s : BlockSpot) (ss : List BlockSpot) (behind : List ℕ) → IsReadSpot s → AreReadSpots ss behind → EndBeforeBlocks (s ∷ ss) behind
    → AreMet (words Page s.before) (words Page (source_of s.block s.text ++ spots_source ss behind)) (words Page (spots_source (s ∷ ss) behind))
before_met s ss behind h f b =
    let rest : List ℕ = source_of s.block s.text ++ spots_source ss behind in
    let r = block_reads s ss behind h f b in
    words_meet Page s.before rest (before_settles s ss behind h f b) (shown_cuts (after_all (lexer Page) false s.before) rest r.shown)

-- ---- a text that is empty, or begins with a line break, begins with characters

pub record BeginsByRun (bs : List ℕ) : Type 0 where
  pub first : ℕ
  pub others : List Word
  pub are : words Page bs ≡ (Chars, first) ∷ others

one_more : (n : ℕ) (ws : List Word) → closed (suc n) ws ≡ (Chars, suc n) ∷ ws
unfolding closed
one_more n ws = let e : (suc n == 0) ≡ false = grind (arith, nat_tests) in ap (λ (t : Bool). if t then ws else (Chars, suc n) ∷ ws) e

pub break_runs : (r : List ℕ) → BeginsByRun (10 ∷ r)
unfolding words
break_runs r = record {
  first = suc (cuts Page true 0 r).0;
  others = (cuts Page true 0 r).1;
  are = ap (λ (c : Cut). closed c.0 c.1) (cuts_cons Page false 10 r None (other_byte Page 10 r refl))
      ∙ one_more (cuts Page true 0 r).0 (cuts Page true 0 r).1;
}

-- A heading's line, cut at what it holds and behind its last `=`: each of these is read by itself.
use Rattle.std.proofs.Common.{arith, ◌≡◌, ℕ, zero, suc, ◌≤◌, Bool, false, List, [], ◌∷◌, ◌++◌, refl, sym, ap, ◌∙◌, append_assoc}
use Rattle.std.proofs.lemmas.Grind.{flat_map-append}
use Rattle.wt_span.specs.declared.form.Mode.TheVariants.{Page}
use Rattle.wt_span.specs.Bytes.{is_break}
use Rattle.wt_span.specs.Items.{Item, source, sources}
use Rattle.wt_expand.specs.PageItems.{page_items}
use Rattle.wt_expand.proofs.PageLaws.{char_sources}
use Rattle.wt_part_laws.specs.Lexer.{lexer}
use Rattle.wt_part_laws.specs.Scans.{after_all}
use Rattle.wt_text_edit_laws.specs.LonePages.{page_chars}
use Rattle.wt_text_edit_laws.specs.PageCuts.{AreHeadingItems}
use Rattle.wt_text_edit_laws.specs.TextBlocks.{a_heading, source_of}
use Rattle.wt_text_edit_laws.specs.TypedHeadings.{Sides, equals, opening, closing}
use Rattle.wt_text_edit_laws.proofs.Blocks.BlockReading.{AreQuiet, quiet_joined, run_quiet, blanks_quiet, each_quiet}
use Rattle.wt_text_edit_laws.proofs.Between.Fronts.{items_from}
use Rattle.wt_text_edit_laws.proofs.Cuts.ItemCuts.{cut_from, page_cut, page_from}

-- ---- no line break is among a heading's signs

quiet_after : (bs : List ℕ) (a : Bool) → AreQuiet bs → a ≡ false → after_all (lexer Page) a bs ≡ false
quiet_after [] a h e = e
quiet_after (b ∷ bs) a h e = quiet_after bs (is_break b) h.1 (each_quiet (λ (c : ℕ). is_break c ≡ false) refl refl refl b h.0)

after_joined : (xs ys : List ℕ) (a : Bool) → after_all (lexer Page) a (xs ++ ys) ≡ after_all (lexer Page) (after_all (lexer Page) a xs) ys
after_joined [] ys a = refl
after_joined (x ∷ xs) ys a = after_joined xs ys (is_break x)

after_run : (n : ℕ) (a : Bool) → 1 ≤ n → after_all (lexer Page) a (equals n) ≡ false
after_run zero a some = absurd (omega (arith, some))
after_run (suc n) a some = quiet_after (equals n) false (run_quiet n) refl

-- ---- the cut

pub record HeadingCut (s : Sides) (q : List ℕ) (own rest : List Item) (tail : List ℕ) (ts : List Item) : Type 0 where
  pub own_is : page_items q ≡ own
  pub rest_is : page_items (s.rest ++ tail) ≡ rest ++ ts

whole_source : (s : Sides) (q tail : List ℕ)
    → source_of (a_heading s) q ++ tail ≡ opening s ++ (q ++ ((s.trail ++ equals s.level) ++ (s.rest ++ tail)))
whole_source s q tail =
    append_assoc (opening s) (q ++ closing s) tail
    ∙ ap (λ (bs : List ℕ). opening s ++ bs) (append_assoc q (closing s) tail ∙ ap (λ (bs : List ℕ). q ++ bs)
    (append_assoc s.trail (equals s.level ++ s.rest) tail ∙ ap (λ (bs : List ℕ). s.trail ++ bs) (append_assoc (equals s.level) s.rest tail)
    ∙ sym (append_assoc s.trail (equals s.level) (s.rest ++ tail))))

whole_items : (o own signs rest ts : List Item) → (o ++ (own ++ (signs ++ rest))) ++ ts ≡ o ++ (own ++ (signs ++ (rest ++ ts)))
whole_items o own signs rest ts =
    append_assoc o (own ++ (signs ++ rest)) ts
    ∙ ap (λ (xs : List Item). o ++ xs) (append_assoc own (signs ++ rest) ts ∙ ap (λ (xs : List Item). own ++ xs) (append_assoc signs rest ts))

pub heading_cut : (s : Sides) (q : List ℕ) (xs : List Item) (h : AreHeadingItems s q xs) (tail : List ℕ) (ts : List Item)
    → page_items (source_of (a_heading s) q ++ tail) ≡ xs ++ ts → HeadingCut s q h.own h.rest tail ts
heading_cut s q xs h tail ts e =
    let signs : List ℕ = s.trail ++ equals s.level in
    let front : List Item = page_chars (opening s) in
    let last : List ℕ = s.rest ++ tail in
    let own : List Item = h.own in
    let ends : List Item = h.rest ++ ts in
    let all : page_items (opening s ++ (q ++ (signs ++ last))) ≡ front ++ (own ++ (page_chars signs ++ ends)) =
    sym (ap page_items (whole_source s q tail)) ∙ e ∙ ap (λ (ys : List Item). ys ++ ts) h.is ∙ whole_items front own (page_chars signs) h.rest ts in
    let first = page_cut (opening s) (q ++ (signs ++ last)) front (own ++ (page_chars signs ++ ends)) all (char_sources (opening s)) in
    let quiet : AreQuiet (opening s) = quiet_joined (equals s.level) s.lead (run_quiet s.level) (blanks_quiet s.lead h.lead) in
    let behind : items_from false 0 (q ++ (signs ++ last)) ≡ own ++ (page_chars signs ++ ends) =
    sym (ap (λ (a : Bool). items_from a 0 (q ++ (signs ++ last))) (quiet_after (opening s) false quiet refl)) ∙ first.behind in
    let second = cut_from false q (signs ++ last) own (page_chars signs ++ ends) behind h.source in
    let a : Bool = after_all (lexer Page) false q in
    let third = cut_from a signs last (page_chars signs) ends second.behind (char_sources signs) in
    let flag : after_all (lexer Page) a signs ≡ false =
    after_joined s.trail (equals s.level) a ∙ after_run s.level (after_all (lexer Page) a s.trail) h.some in
    record {
      own_is = page_from q ∙ second.front;
      rest_is = page_from last ∙ sym (ap (λ (v : Bool). items_from v 0 last) flag) ∙ third.behind;
    }

-- its source
pub heading_source : (s : Sides) (q : List ℕ) (xs : List Item) → AreHeadingItems s q xs → sources xs ≡ source_of (a_heading s) q
heading_source s q xs h =
    let signs : List ℕ = s.trail ++ equals s.level in
    let front : List Item = page_chars (opening s) in
    ap sources h.is
    ∙ flat_map-append source front (h.own ++ (page_chars signs ++ h.rest))
    ∙ ap (λ (bs : List ℕ). bs ++ sources (h.own ++ (page_chars signs ++ h.rest))) (char_sources (opening s))
    ∙ ap (λ (bs : List ℕ). opening s ++ bs) (flat_map-append source h.own (page_chars signs ++ h.rest)
    ∙ ap (λ (bs : List ℕ). bs ++ sources (page_chars signs ++ h.rest)) h.source
    ∙ ap (λ (bs : List ℕ). q ++ bs) (flat_map-append source (page_chars signs) h.rest
    ∙ ap (λ (bs : List ℕ). bs ++ sources h.rest) (char_sources signs)
    ∙ ap (λ (bs : List ℕ). signs ++ bs) h.rest_source
    ∙ append_assoc s.trail (equals s.level) s.rest))

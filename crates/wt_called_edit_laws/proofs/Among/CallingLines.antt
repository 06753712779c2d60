-- A page with paragraphs and headings that may hold calls, by the lines of the expanded page: it is cut at these, and each is at such a place.
use Rattle.std.proofs.Common.{arith, ◌≡◌, ◌⊎◌, inl, inr, ℕ, ◌+◌, ◌≤◌, Bool, false, Option, None, List, [], ◌∷◌, ◌++◌, length, refl, sym, ap, ap₂, ◌∙◌, subst, append_assoc, append-nil, length-append}
use Rattle.std.specs.Str.{IsUtf8}
use Rattle.std.proofs.lemmas.Grind.{flat_map-append}
use Rattle.wt_span.specs.declared.form.Mode.TheVariants.{Page}
use Rattle.wt_span.specs.Items.{Item, source, sources, call_of}
use Rattle.wt_span.specs.Origins.{OuterCall, Span}
use Rattle.wt_span.specs.Runs.{AreRuns}
use Rattle.wt_span.proofs.RunLaws.{runs_are}
use Rattle.wt_annotated.specs.Seams.{last_of, text_from}
use Rattle.wt_annotated.proofs.Seams.{last_append}
use Rattle.wt_lines.specs.Lines.{content, goes_on, full_lines}
use Rattle.wt_page.specs.Lines.{ending}
use Rattle.wt_page.specs.Rows.{Row}
use Rattle.wt_tables.specs.Parts.{joined}
use Rattle.wt_expand.specs.PageCalls.{expanded_page}
use Rattle.wt_expand.specs.PageItems.{page_items}
use Rattle.wt_expand.specs.Work.{Pages}
use Rattle.wt_expand.proofs.PageLaws.{page_sources}
use Rattle.wt_expand.proofs.PiecePlaces.{text_behind, behind_page}
use Rattle.wt_part_laws.specs.Expanded.{part_items, calls_in}
use Rattle.wt_part_laws.specs.Lexer.{lexer}
use Rattle.wt_part_laws.specs.Scans.{after_all}
use Rattle.wt_commands.specs.Answers.{refusal_of_page}
use Rattle.wt_text_edit_laws.specs.BlockSpots.{BlockSpot, spots_source}
use Rattle.wt_text_edit_laws.specs.PageCuts.{BeginsBreak}
use Rattle.wt_text_edit_laws.specs.ParagraphParts.{break}
use Rattle.wt_text_edit_laws.specs.ReadContents.{IsReadContent}
use Rattle.wt_text_edit_laws.specs.SignParts.{IsLedTo}
use Rattle.wt_text_edit_laws.specs.TextBetween.{BeginsShown}
use Rattle.wt_text_edit_laws.specs.TextBlocks.{TextBlock, a_paragraph, a_heading, source_of, block_items}
use Rattle.wt_text_edit_laws.proofs.Cuts.ItemCuts.{HaveBytes, page_cut, cut_from}
use Rattle.wt_text_edit_laws.proofs.Cuts.Seen.{shown_alone}
use Rattle.wt_text_edit_laws.proofs.Cuts.TextLines.{IsEnding, joined_is, lines_of, runs_behind}
use Rattle.wt_beside_laws.specs.OpenEnds.{MarksEnd}
use Rattle.wt_beside_laws.proofs.Derived.BodyRead.{parts_are}
use Rattle.wt_beside_laws.proofs.Own.OpenEnds.{page_marks, marks_behind}
use Rattle.wt_called_edit_laws.specs.AnyBlocks.{open_after, rows_of_part, open_behind_part, LeadsInto, past_break, BeginsAfter, NextApart, EndsAfter}
use Rattle.wt_called_edit_laws.specs.StaysIn.{StaysIn}
use Rattle.wt_called_edit_laws.specs.TableEnds.{LaterText}
use Rattle.wt_called_edit_laws.specs.CallingBlocks.{IsContentIn, AreContentsInFolder, spots_with_calls, items_past}
use Rattle.wt_called_edit_laws.specs.Covered.{HaveFreeBytes}
use Rattle.wt_called_edit_laws.specs.EditableBlocks.{AreEditableContents, IsEditableWithCalls}
use Rattle.wt_called_edit_laws.specs.Groups.{called_tree}
use Rattle.wt_called_edit_laws.specs.InCells.{AreTextLines}
use Rattle.wt_called_edit_laws.specs.LinedAmong.{spots_on, end_on, AreOfPage, AreBeside}
use Rattle.wt_called_edit_laws.specs.LinedCalling.{BeginsAlone, IsOwnFront, IsLedFront, IsCallingAt, AreCallingAfter, AreCallingLined, spot_on, IsCallingHere, AreCallingHere, AreApartFrom, IsLinedCalling}
use Rattle.wt_called_edit_laws.specs.SignLines.{IsApartFrom}
use Rattle.wt_called_edit_laws.specs.Parts.{calls_to, calls_past, called_items, called_outers, IsByParts}
use Rattle.wt_called_edit_laws.specs.PartTexts.{AreSourcesAt}
use Rattle.wt_called_edit_laws.specs.PlacedAmong.{StandAfter}
use Rattle.wt_called_edit_laws.specs.PlacedCalling.{AreFurtherCutsAt, AreCutsAt, IsPlacedCalling}
use Rattle.wt_called_edit_laws.specs.PlacedLines.{LinedBlock, all_lines, lead_of, front_rows}
use Rattle.wt_called_edit_laws.proofs.Among.BlockAt.{read_some, calls_of, IsRest, text_to, block_from, block_to, past_front, BeginsOwn, rest_own, past_before, past_own, marked_text, beside_first, beside_front, beside_last}
use Rattle.wt_called_edit_laws.proofs.Among.FirstItems.{FirstHas, EachThere, there_both, there_before, there_behind, part_there, called_there, NamedParts, named_parts, called_first, part_first, first_both, part_below}
use Rattle.wt_called_edit_laws.proofs.Among.LinedParts.{EndsBreak, EndsOwn, own_end, ended_text, own_behind, own_text_size, ends_text, cancel, no_items, IsLeft, left_none, left_whole, open_at, line_front, block_front, page_rest}
use Rattle.wt_called_edit_laws.proofs.Among.OwnSeams.{FirstLonger, FirstShorter, two_cuts, first_or, first_size, text_size, end_behind}
use Rattle.wt_called_edit_laws.proofs.Among.PartsApart.{IsClear, members_of, AreClear, ArePartsApart, parts_apart}
use Rattle.wt_called_edit_laws.proofs.Cells.PlacedCalling.{block_begins, PartsRead, parts_read, parts_called, calling_placed}
use Rattle.wt_called_edit_laws.proofs.Cells.PlacedLines.{own_items, Round, round, some_lines, lines_end}
use Rattle.wt_called_edit_laws.proofs.Cells.SignLeads.{rows_by, leads_by, StaysOn, stays_by, lines_stay, have_front, lead_led}
use Rattle.wt_called_edit_laws.proofs.Parts.Retyped.{is_by_parts}
use Rattle.wt_called_edit_laws.proofs.PartTexts.{IsBelow, part_text, sources_first}

-- ---- the page's items are cut at a block

-- a block behind these items and these marks
record IsCutHere (pages : Pages) (page : List ℕ) (p : ℕ) (xs ms : List Item) (k : TextBlock) (q : List ℕ) (ys qs : List Item) : Type 0 where
  before : List Item
  behind : List Item
  is : qs ≡ before ++ (block_items k q ++ behind)
  source : sources before ≡ text_from (calls_of pages page) None (xs ++ ms)
  own_source : sources (block_items k q) ≡ source_of k q
  first : IsClear (block_from pages page p xs ms) 0 (members_of page)
  last : IsClear (block_to pages page p xs ms k q) 0 (members_of page)
  next : IsRest pages page (block_to pages page p xs ms k q) ys behind

-- so of marks of the page's own
record IsOwnCut (pages : Pages) (page : List ℕ) (p : ℕ) (xs ms : List Item) (k : TextBlock) (q : List ℕ) (ys qs : List Item) : Type 0 where
  before : List Item
  behind : List Item
  is : qs ≡ before ++ (block_items k q ++ behind)
  source : sources before ≡ text_from (calls_of pages page) None (xs ++ ms)
  marked : text_from (calls_of pages page) None (xs ++ ms) ≡ text_from (calls_of pages page) None xs ++ sources ms
  marks : HaveBytes ms
  marks_end : MarksEnd (ms ++ (block_items k q ++ behind))
  own_source : sources (block_items k q) ≡ source_of k q
  first : IsClear (block_from pages page p xs ms) 0 (members_of page)
  last : IsClear (block_to pages page p xs ms k q) 0 (members_of page)
  next : IsRest pages page (block_to pages page p xs ms k q) ys behind

-- what has its source is what it has by itself
items_there : (page : List ℕ) (k : TextBlock) (q : List ℕ) (front own behind : List Item) → page_items page ≡ front ++ (own ++ behind) → sources own ≡ source_of k q
    → IsReadContent k q → own ≡ block_items k q
items_there page k q front own behind whole is h =
    let line : List ℕ = sources own in
    let all : page_items (sources front ++ (line ++ sources behind)) ≡ front ++ (own ++ behind) =
    ap page_items (parts_are page front own behind whole) ∙ whole in
    let first = page_cut (sources front) (line ++ sources behind) front (own ++ behind) all refl in
    let after : Bool = after_all (lexer Page) false (sources front) in
    let second = cut_from after line (sources behind) own behind first.behind refl in
    let begins : BeginsShown line = subst BeginsShown (append-nil (source_of k q) ∙ sym is) (block_begins k q [] h tt) in
    let alone : page_items line ≡ own = shown_alone after line own begins second.front in
    sym alone ∙ ap page_items is ∙ h.unended

own_cut : (pages : Pages) (page : List ℕ) (p : ℕ) (xs ms os : List Item) (k : TextBlock) (q : List ℕ) (ys qs : List Item)
    → IsRest pages page p (xs ++ (ms ++ (os ++ ys))) qs → last_of None xs ≡ None → AreOfPage ms → BeginsOwn ys → IsReadContent k q
    → text_from (calls_of pages page) None os ≡ source_of k q
    → AreBeside (text_to pages page p xs) (block_to pages page p xs ms k q) (expanded_page pages page).text_calls → IsOwnCut pages page p xs ms k q ys qs
own_cut pages page p xs ms os k q ys qs r ends marks own h is_source beside =
    let calls : List OuterCall = calls_of pages page in
    let spans : List Span = (expanded_page pages page).text_calls in
    let line : ℕ = text_to pages page p xs in
    let from : ℕ = block_from pages page p xs ms in
    let to : ℕ = block_to pages page p xs ms k q in
    let marked : text_from calls None (xs ++ ms) ≡ text_from calls None xs ++ sources ms = marked_text calls xs ms ends marks in
    let sum = ap length marked in
    let two = length-append (text_from calls None xs) (sources ms) in
    let size : line + length (sources ms) ≡ from = omega (arith, sum, two) in
    let all_size : text_to pages page from os ≡ to = ap (λ (bs : List ℕ). from + length bs) is_source in
    let first = past_front pages page p xs (ms ++ (os ++ ys)) qs r ends (beside_first line to spans (omega (arith, size)) beside) in
    let second = past_own pages page line ms (os ++ ys) first.behind first.next marks
    (subst (λ (n : ℕ). AreBeside line n spans) (sym size) (beside_front line from to spans (omega arith) beside)) in
    let at_block : IsRest pages page from (os ++ ys) second.behind = subst (λ (n : ℕ). IsRest pages page n (os ++ ys) second.behind) size second.next in
    let at_end : AreBeside to to spans = beside_last line to to spans (omega (arith, size)) beside in
    let third = past_before pages page from os ys second.behind at_block own (subst (λ (n : ℕ). AreBeside n n spans) (sym all_size) at_end) in
    let before : List Item = first.before ++ ms in
    let mine : List Item = third.before in
    let whole : page_items page ≡ at_block.front ++ (mine ++ third.behind) = at_block.whole ∙ ap (λ zs. at_block.front ++ zs) third.is in
    let mine_source : sources mine ≡ source_of k q = third.source ∙ is_source in
    let mine_is : mine ≡ block_items k q = items_there page k q at_block.front mine third.behind whole mine_source h in
    let all : qs ≡ before ++ (mine ++ third.behind) =
    first.is ∙ ap (λ zs. first.before ++ zs) (second.is ∙ ap (λ zs. ms ++ zs) third.is) ∙ sym (append_assoc first.before ms (mine ++ third.behind)) in
    record {
      before = before;
      behind = third.behind;
      is = all ∙ ap (λ zs. before ++ (zs ++ third.behind)) mine_is;
      source = flat_map-append source first.before ms ∙ ap (λ (bs : List ℕ). bs ++ sources ms) first.source ∙ sym marked;
      marked = marked;
      marks = have_front ms second.behind (subst HaveBytes second.is first.next.some);
      marks_end = marks_behind first.next.front (ms ++ (block_items k q ++ third.behind))
          (subst MarksEnd (first.next.whole ∙ ap (λ zs. first.next.front ++ zs) (second.is ∙ ap (λ zs. ms ++ zs) (third.is ∙ ap (λ zs. zs ++ third.behind) mine_is)))
          (page_marks page));
      own_source = sym (ap sources mine_is) ∙ mine_source;
      first = subst (λ (n : ℕ). IsClear n 0 (members_of page)) size second.clear;
      last = subst (λ (n : ℕ). IsClear n 0 (members_of page)) all_size third.clear;
      next = subst (λ (n : ℕ). IsRest pages page n ys third.behind) all_size third.next;
    }

cut_of : (pages : Pages) (page : List ℕ) (p : ℕ) (xs ms : List Item) (k : TextBlock) (q : List ℕ) (ys qs : List Item) → IsOwnCut pages page p xs ms k q ys qs
    → IsCutHere pages page p xs ms k q ys qs
cut_of pages page p xs ms k q ys qs h = record {
  before = h.before;
  behind = h.behind;
  is = h.is;
  source = h.source;
  own_source = h.own_source;
  first = h.first;
  last = h.last;
  next = h.next;
}

-- and of one whose first item comes from no call
led_cut : (pages : Pages) (page : List ℕ) (p : ℕ) (xs ms os : List Item) (k : TextBlock) (q : List ℕ) (ys qs : List Item)
    → IsRest pages page p (xs ++ (ms ++ (os ++ ys))) qs → BeginsOwn (os ++ ys) → BeginsOwn ys → IsReadContent k q
    → text_from (calls_of pages page) None os ≡ source_of k q
    → AreBeside (text_to pages page p xs) (block_to pages page p xs ms k q) (expanded_page pages page).text_calls → IsCutHere pages page p xs ms k q ys qs
led_cut pages page p xs ms os k q ys qs r begins own h is_source beside =
    let calls : List OuterCall = calls_of pages page in
    let spans : List Span = (expanded_page pages page).text_calls in
    let line : ℕ = text_to pages page p xs in
    let from : ℕ = block_from pages page p xs ms in
    let to : ℕ = block_to pages page p xs ms k q in
    let less : line ≤ from = omega (arith, text_size calls None xs ms) in
    let all_size : text_to pages page from os ≡ to = ap (λ (bs : List ℕ). from + length bs) is_source in
    let mine_beside : AreBeside from to spans = beside_last line from to spans less beside in
    let there : IsRest pages page p ((xs ++ ms) ++ (os ++ ys)) qs =
    subst (λ (zs : List Item). IsRest pages page p zs qs) (sym (append_assoc xs ms (os ++ ys))) r in
    let first = past_before pages page p (xs ++ ms) (os ++ ys) qs there begins (beside_first from to spans (omega arith) mine_beside) in
    let at_end : AreBeside to to spans = beside_last from to to spans (omega arith) mine_beside in
    let third = past_before pages page from os ys first.behind first.next own (subst (λ (n : ℕ). AreBeside n n spans) (sym all_size) at_end) in
    let mine : List Item = third.before in
    let whole : page_items page ≡ first.next.front ++ (mine ++ third.behind) = first.next.whole ∙ ap (λ zs. first.next.front ++ zs) third.is in
    let mine_source : sources mine ≡ source_of k q = third.source ∙ is_source in
    let mine_is : mine ≡ block_items k q = items_there page k q first.next.front mine third.behind whole mine_source h in
    record {
      before = first.before;
      behind = third.behind;
      is = first.is ∙ ap (λ zs. first.before ++ zs) third.is ∙ ap (λ zs. first.before ++ (zs ++ third.behind)) mine_is;
      source = first.source;
      own_source = sym (ap sources mine_is) ∙ mine_source;
      first = first.clear;
      last = subst (λ (n : ℕ). IsClear n 0 (members_of page)) all_size third.clear;
      next = subst (λ (n : ℕ). IsRest pages page n ys third.behind) all_size third.next;
    }

-- ---- the items before it

ends_none : (xs : List Item) → EndsOwn xs → last_of None xs ≡ None
ends_none xs (inl e) = ap (last_of None) e
ends_none xs (inr s) = ap (last_of None) s.is ∙ last_append None s.front (s.last ∷ []) ∙ s.own

-- the same bytes are before the block in both, so these are the same items
same_front : (calls : List OuterCall) (xs : List Item) (o : Item) (os : List Item) (gs bs : List Item) → xs ++ o ∷ os ≡ gs ++ bs → EndsOwn xs
    → 1 ≤ length (text_from calls None (o ∷ [])) → text_from calls None xs ≡ text_from calls None gs → (gs ≡ xs) × (bs ≡ o ∷ os)
same_front calls xs o os gs bs e ends some t = by (two_cuts xs (o ∷ os) gs bs e)
  where
    longer : (u : Item) (us : List Item) → xs ≡ gs ++ u ∷ us → EndsOwn xs → ⊥
    longer u us is (inl z) = no_items gs u us (sym z ∙ is)
    longer u us is (inr s) =
        let b = end_behind gs u us s.front s.last (sym is ∙ s.is) in
        let more : 1 ≤ length (text_from calls (last_of None gs) (u ∷ us)) =
        subst (λ (zs : List Item). 1 ≤ length (text_from calls (last_of None gs) zs)) (sym b.1) (own_text_size calls (last_of None gs) b.0 s.last s.own s.some) in
        let all = ap (λ (zs : List Item). length (text_from calls None zs)) is ∙ text_size calls None gs (u ∷ us) in
        let same = ap length t in
        omega (arith, more, all, same)

    from_longer : (us : List Item) → xs ≡ gs ++ us → bs ≡ us ++ o ∷ os → (gs ≡ xs) × (bs ≡ o ∷ os)
    from_longer [] is rest = (sym (is ∙ append-nil gs), rest)
    from_longer (u ∷ us) is rest = absurd (longer u us is ends)

    by : FirstLonger xs (o ∷ os) gs bs ⊎ FirstShorter xs (o ∷ os) gs bs → (gs ≡ xs) × (bs ≡ o ∷ os)
    by (inl l) = from_longer l.us l.xs_are l.bs_are
    by (inr s) =
        let same : s.v ≡ o = ap (λ (zs : List Item). first_or o zs) (sym s.ys_are) in
        let n : length (text_from calls None (s.v ∷ [])) ≡ length (text_from calls None (o ∷ [])) =
        ap (λ (x : Item). length (text_from calls None (x ∷ []))) same in
        let first = text_size calls None (s.v ∷ []) s.vs in
        let all = ap (λ (zs : List Item). length (text_from calls None zs)) s.gs_are ∙ text_size calls None xs (s.v ∷ s.vs)
        ∙ ap (λ (l : Option ℕ). length (text_from calls None xs) + length (text_from calls l (s.v ∷ s.vs))) (ends_none xs ends) in
        let eq = ap length t in
        absurd (omega (arith, n, first, all, eq, some))

-- so where the first item of the block comes from no call, and what the part of the block gives has bytes first
same_led : (calls : List OuterCall) (k : ℕ) (xs : List Item) (o : Item) (os : List Item) (gs bs : List Item) → xs ++ o ∷ os ≡ gs ++ bs → call_of o ≡ None
    → 1 ≤ length (text_from calls None (o ∷ [])) → FirstHas calls k bs → IsBelow k (last_of None gs) → text_from calls None xs ≡ text_from calls None gs
    → (gs ≡ xs) × (bs ≡ o ∷ os)
same_led calls k xs o os gs bs e own some f b t = by (two_cuts xs (o ∷ os) gs bs e)
  where
    longer : (us : List Item) → xs ≡ gs ++ us → bs ≡ us ++ o ∷ os → (gs ≡ xs) × (bs ≡ o ∷ os)
    longer [] is rest = (sym (is ∙ append-nil gs), rest)
    longer (u ∷ us) is rest =
        let first : FirstHas calls k (u ∷ (us ++ o ∷ os)) = subst (FirstHas calls k) rest f in
        let more = first (last_of None gs) b in
        let parts = length-append (text_behind calls (last_of None gs) u) (text_from calls (call_of u) us) in
        absurd (omega (arith, ap length t, ap (λ (zs : List Item). length (text_from calls None zs)) is, text_size calls None gs (u ∷ us), parts, more))

    by : FirstLonger xs (o ∷ os) gs bs ⊎ FirstShorter xs (o ∷ os) gs bs → (gs ≡ xs) × (bs ≡ o ∷ os)
    by (inl l) = longer l.us l.xs_are l.bs_are
    by (inr s) =
        let same : s.v ≡ o = ap (λ (zs : List Item). first_or o zs) (sym s.ys_are) in
        let one = length-append (text_behind calls None o) [] in
        let none = ap length (behind_page calls None o own) in
        let here = ap length (behind_page calls (last_of None xs) o own) in
        let parts = length-append (text_behind calls (last_of None xs) s.v) (text_from calls (call_of s.v) s.vs) in
        let is = ap (λ (x : Item). length (text_behind calls (last_of None xs) x)) same in
        let all = ap (λ (zs : List Item). length (text_from calls None zs)) s.gs_are ∙ text_size calls None xs (s.v ∷ s.vs) in
        absurd (omega (arith, ap length t, all, parts, is, here, none, one, some))

-- ---- one block

-- so it is of its text by itself
text_stays : (sign : List Item) (k : TextBlock) (n i : ℕ) (pages : Pages) (q : List ℕ) (own : List Item) → own ≡ part_items pages i (source_of k q)
    → StaysOn sign k n own → StaysOn sign k n (part_items pages i q)
text_stays [] a_paragraph n i pages q own e h = subst (AreTextLines n) e h
text_stays [] (a_heading s) n i pages q own e h = tt
text_stays (x ∷ xs) a_paragraph n i pages q own e h = subst (LaterText a_paragraph n) e h
text_stays (x ∷ xs) (a_heading s) n i pages q own e h = absurd h

-- ---- a block there

some_items : (xs : List Item) → 1 ≤ length (sources xs) → 1 ≤ length xs
some_items [] h = absurd (omega (arith, h))
some_items (x ∷ xs) h = omega arith

alone_own : (xs ys : List Item) → BeginsAlone xs → BeginsOwn (xs ++ ys)
alone_own [] ys h = absurd h
alone_own (x ∷ xs) ys h = inr (x, xs ++ ys, refl, h)

-- a block with its lines among those of the page
record IsHere (pages : Pages) (page : List ℕ) (open_tables : List Bool) (es : List Item) (b : LinedBlock) (tail : List (List Item)) (p : ℕ) (qs : List Item) : Type 0 where
  around : Round b tail
  items : es ++ joined (b.before ++ (((lead_of b ++ b.first) ∷ b.more) ++ tail)) ≡ block_front es b ++ (content (own_items b) ++ (ending (own_items b) ++ joined tail))
  ends : EndsOwn (block_front es b) ⊎ BeginsAlone (content (own_items b))
  led : IsLedTo (text_from (calls_of pages page) None (block_front es b)) b.block b.text
  here : IsCutHere pages page p (line_front es b) (lead_of b) b.block b.text (ending (own_items b) ++ joined tail) qs
  stays : StaysOn b.sign b.block (length (open_at open_tables b)) (content (own_items b))
  leads : LeadsInto b.block open_tables (joined b.before ++ lead_of b)

is_here : (pages : Pages) (page : List ℕ) (open_tables : List Bool) (es : List Item) (b : LinedBlock) (tail : List (List Item)) (p : ℕ) (qs xs : List Item)
    → AreRuns goes_on (b.before ++ (((lead_of b ++ b.first) ∷ b.more) ++ tail)) xs → IsLeft es
    → IsRest pages page p (es ++ joined (b.before ++ (((lead_of b ++ b.first) ∷ b.more) ++ tail))) qs → IsCallingAt open_tables b
    → IsCallingHere (calls_of pages page) es b → IsReadContent b.block b.text
    → AreBeside (text_to pages page p (line_front es b)) (block_to pages page p (line_front es b) (lead_of b) b.block b.text) (expanded_page pages page).text_calls
    → IsHere pages page open_tables es b tail p qs
is_here pages page open_tables es b tail p qs xs runs left rest h own read beside = by own.front
  where
    calls : List OuterCall
    calls = calls_of pages page

    front : List Item
    front = line_front es b

    before : List Item
    before = joined b.before

    text : List Item
    text = own_items b

    last : List Item
    last = ending text ++ joined tail

    r : Round b tail
    r = round b tail xs h.some runs own.breaks

    items : es ++ joined (b.before ++ (((lead_of b ++ b.first) ∷ b.more) ++ tail)) ≡ front ++ (lead_of b ++ (content text ++ last))
    items =
        ap (λ zs. es ++ zs) (r.items ∙ append_assoc before (lead_of b) (content text ++ last)) ∙ sym (append_assoc es before (lead_of b ++ (content text ++ last)))

    there : IsRest pages page p (front ++ (lead_of b ++ (content text ++ last))) qs
    there = subst (λ zs. IsRest pages page p zs qs) items rest

    begins : BeginsOwn last
    begins = rest_own (ending text) tail r.own_ending r.ends

    so : EndsOwn (block_front es b) ⊎ BeginsAlone (content text) → IsLedTo (text_from calls None (block_front es b)) b.block b.text
        → IsCutHere pages page p front (lead_of b) b.block b.text last qs → IsHere pages page open_tables es b tail p qs
    so ends led here = record {
      around = r;
      items = items ∙ sym (append_assoc front (lead_of b) (content text ++ last));
      ends = ends;
      led = led;
      here = here;
      stays = lines_stay b.sign b.block (length open_tables) b.before (length (open_at open_tables b)) (b.first ∷ b.more) r.y r.ys r.some r.own_are h.sign h.own;
      leads = leads_by b.block open_tables b.before b.sign b.marks h.are_marks h.sign r.front_are r.front_whole h.in_cells h.apart;
    }

    by : IsOwnFront b ⊎ IsLedFront calls es b → IsHere pages page open_tables es b tail p qs
    by (inl f) =
        let none : last_of None front ≡ None =
        last_append None es before ∙ ap (λ (o : Option ℕ). last_of o before) (left_none es left) ∙ f.before in
        let ends : EndsBreak front = own_end None front (left_whole es before left r.front_whole) none in
        let here = own_cut pages page p front (lead_of b) (content text) b.block b.text last qs there none f.marks begins read own.source beside in
        let mine : List Item = block_items b.block b.text in
        let size : 1 ≤ length (sources mine) = omega (arith, ap length here.own_source, read_some b.block b.text read) in
        let some : 1 ≤ length (mine ++ here.behind) = omega (arith, some_items mine size, length-append mine here.behind) in
        so (inl (own_behind front (lead_of b) ends f.marks here.marks))
        (subst (λ (bs : List ℕ). IsLedTo bs b.block b.text) (sym here.marked)
        (lead_led b.block b.text (length open_tables) b.before b.sign b.marks (mine ++ here.behind) (text_from calls None front) h.sign f.unclosed h.are_marks
        here.marks_end here.marks some (ended_text calls front ends)))
        (cut_of pages page p front (lead_of b) b.block b.text last qs here)
    by (inr f) =
        so (inr f.first) f.led
        (led_cut pages page p front (lead_of b) (content text) b.block b.text last qs there (alone_own (content text) last f.first) begins read own.source beside)

-- ---- as parts

spot_source : (pages : Pages) (page : List ℕ) (open_tables : List Bool) (es : List Item) (b : LinedBlock) (tail : List (List Item)) (p : ℕ) (qs : List Item)
    (l : IsHere pages page open_tables es b tail p qs) (ss : List BlockSpot) (end : List ℕ) → spots_source ss end ≡ sources l.here.behind
    → spots_source (spot_on (calls_of pages page) es b ∷ ss) end ≡ sources qs
spot_source pages page open_tables es b tail p qs l ss end e =
    let own : List Item = block_items b.block b.text in
    ap₂ (λ (us vs : List ℕ). us ++ (vs ++ spots_source ss end)) (sym l.here.source) (sym l.here.own_source)
    ∙ ap (λ (vs : List ℕ). sources l.here.before ++ (sources own ++ vs)) e
    ∙ ap (λ (vs : List ℕ). sources l.here.before ++ vs) (sym (flat_map-append source own l.here.behind))
    ∙ sym (flat_map-append source l.here.before (own ++ l.here.behind)) ∙ ap sources (sym l.here.is)

first_there : (calls : List OuterCall) (xs : List Item) → 1 ≤ length (text_from calls None xs) → EachThere calls xs
    → (o : Item) × (os : List Item) × (xs ≡ o ∷ os) × (1 ≤ length (text_from calls None (o ∷ [])))
first_there calls [] n h = absurd (omega (arith, n))
first_there calls (x ∷ xs) n h = (x, xs, refl, omega (arith, h.0, ap length (append-nil (text_behind calls None x))))

-- a block's items are what the part gives that it is, where so much is on the page for both
gives_so : (calls : List OuterCall) (k : ℕ) (own es : List Item) (tail : List (List Item)) (gs xs : List Item) → own ++ (es ++ joined tail) ≡ gs ++ xs
    → length (text_from calls None own) ≡ length (text_from calls None gs) → IsEnding es → ((m : List Item) (ms : List (List Item)) → tail ≡ m ∷ ms → es ≡ break ∷ [])
    → FirstHas calls k xs → IsBelow k (last_of None gs) → own ≡ gs
gives_so calls k own es tail gs xs e size ending ends f b = by (two_cuts own (es ++ joined tail) gs xs e)
  where
    rest : List Item
    rest = es ++ joined tail

    longer : (us : List Item) → own ≡ gs ++ us → xs ≡ us ++ rest → own ≡ gs
    longer [] g h = g ∙ append-nil gs
    longer (v ∷ vs) g h =
        let first : FirstHas calls k (v ∷ (vs ++ rest)) = subst (FirstHas calls k) h f in
        let more = first (last_of None gs) b in
        let parts = length-append (text_behind calls (last_of None gs) v) (text_from calls (call_of v) vs) in
        absurd (omega (arith, size, ap (λ (zs : List Item). length (text_from calls None zs)) g, text_size calls None gs (v ∷ vs), parts, more))

    -- behind it is a line break, or nothing
    shorter : (ys : List Item) (ls : List (List Item)) → IsEnding ys → ((m : List Item) (ms : List (List Item)) → ls ≡ m ∷ ms → ys ≡ break ∷ []) → (v : Item) (vs : List Item)
        → ys ++ joined ls ≡ (v ∷ vs) ++ xs → gs ≡ own ++ v ∷ vs → ⊥
    shorter [] [] i g v vs h w = cc
    shorter [] (m ∷ ms) i g v vs h w = let none : [] ≡ break ∷ [] = g m ms refl in cc
    shorter (y ∷ ys) ls i g v vs h w =
        let is : v ≡ break = sym (ap (first_or v) h) ∙ i.0 in
        let more = first_size calls (last_of None own) v 10 vs is in
        omega (arith, size, ap (λ (zs : List Item). length (text_from calls None zs)) w, text_size calls None own (v ∷ vs), more)

    by : FirstLonger own rest gs xs ⊎ FirstShorter own rest gs xs → own ≡ gs
    by (inl l) = longer l.us l.xs_are l.bs_are
    by (inr s) = absurd (shorter es tail ending ends s.v s.vs s.ys_are s.gs_are)

-- either way
first_same : (calls : List OuterCall) (k : ℕ) (xs own : List Item) (o : Item) (os rest gs bs : List Item) → own ≡ o ∷ os → xs ++ o ∷ (os ++ rest) ≡ gs ++ bs
    → EndsOwn xs ⊎ BeginsAlone own → 1 ≤ length (text_from calls None (o ∷ [])) → FirstHas calls k bs → IsBelow k (last_of None gs)
    → text_from calls None xs ≡ text_from calls None gs → (gs ≡ xs) × (bs ≡ o ∷ (os ++ rest))
first_same calls k xs own o os rest gs bs is e (inl ends) some f b t = same_front calls xs o (os ++ rest) gs bs e ends some t
first_same calls k xs own o os rest gs bs is e (inr alone) some f b t = same_led calls k xs o (os ++ rest) gs bs e (subst BeginsAlone is alone) some f b t

-- what the part before it gives, and the block's, and what is behind it
record ArePartsHere (pages : Pages) (page : List ℕ) (es : List Item) (b : LinedBlock) (tail : List (List Item)) (k : ℕ) (ss : List BlockSpot) (end : List ℕ) : Type 0 where
  first : part_items pages k (spot_on (calls_of pages page) es b).before ≡ block_front es b
  gives : content (own_items b) ≡ part_items pages (calls_to pages k (spot_on (calls_of pages page) es b)) (source_of b.block b.text)
  rest : ending (own_items b) ++ joined tail ≡ called_items pages (calls_past pages k (spot_on (calls_of pages page) es b)) ss end

parts_here : (pages : Pages) (page : List ℕ) (open_tables : List Bool) (es : List Item) (b : LinedBlock) (tail : List (List Item)) (p : ℕ) (qs : List Item)
    → IsHere pages page open_tables es b tail p qs → (k : ℕ) (ss : List BlockSpot) (end : List ℕ) → IsCallingHere (calls_of pages page) es b
    → IsReadContent b.block b.text
    → es ++ joined (b.before ++ (((lead_of b ++ b.first) ∷ b.more) ++ tail)) ≡ called_items pages k (spot_on (calls_of pages page) es b ∷ ss) end
    → NamedParts pages (calls_of pages page) k (spot_on (calls_of pages page) es b) ss end → ArePartsHere pages page es b tail k ss end
parts_here pages page open_tables es b tail p qs l k ss end h read e n =
    let calls : List OuterCall = calls_of pages page in
    let s : BlockSpot = spot_on calls es b in
    let q : List ℕ = source_of b.block b.text in
    let front : List Item = block_front es b in
    let own : List Item = content (own_items b) in
    let rest : List Item = ending (own_items b) ++ joined tail in
    let x1 : List Item = part_items pages k s.before in
    let x2 : List Item = part_items pages (calls_to pages k s) q in
    let x3 : List Item = called_items pages (calls_past pages k s) ss end in
    let each : EachThere calls (x1 ++ (x2 ++ x3)) =
    there_both calls x1 (x2 ++ x3) (part_there pages calls k s.before n.before)
    (there_both calls x2 x3 (part_there pages calls (calls_to pages k s) q n.own) (called_there pages calls (calls_past pages k s) ss end n.rest)) in
    let mine : EachThere calls own = there_before calls own rest (there_behind calls front (own ++ rest) (subst (EachThere calls) (sym e ∙ l.items) each)) in
    let some = first_there calls own (omega (arith, read_some b.block b.text read, ap length h.source)) mine in
    let whole : front ++ some.0 ∷ (some.1 ++ rest) ≡ x1 ++ (x2 ++ x3) = ap (λ zs. front ++ (zs ++ rest)) (sym some.2) ∙ sym l.items ∙ e in
    let bytes : text_from calls None front ≡ text_from calls None x1 = sym (part_text pages calls k s.before n.before) in
    let later : FirstHas calls (calls_to pages k s) (x2 ++ x3) =
    first_both calls (calls_to pages k s) (calls_in pages q) x2 x3 (part_first pages calls (calls_to pages k s) q n.own)
    (called_first pages calls (calls_past pages k s) ss end n.rest) in
    let same = first_same calls (calls_to pages k s) front own some.0 some.1 rest x1 (x2 ++ x3) some.2 whole l.ends some.3 later (part_below pages k s.before) bytes in
    let behind : own ++ rest ≡ x2 ++ x3 = ap (λ zs. zs ++ rest) some.2 ∙ sym same.1 in
    let size : length (text_from calls None own) ≡ length (text_from calls None x2) =
    ap length (h.source ∙ sym (part_text pages calls (calls_to pages k s) q n.own)) in
    let second : own ≡ x2 =
    gives_so calls (calls_past pages k s) own (ending (own_items b)) tail x2 x3 behind size l.around.own_ending l.around.ends (called_first pages calls (calls_past pages k s) ss end n.rest)
    (part_below pages (calls_to pages k s) q) in
    let both : own ++ rest ≡ own ++ x3 = behind ∙ ap (λ zs. zs ++ x3) (sym second) in
    record { first = same.0; gives = second; rest = cancel own rest x3 both }

-- ---- all blocks

-- the blocks behind one, and what is behind the last
record AreHere (pages : Pages) (page : List ℕ) (last : TextBlock) (open_tables : List Bool) (es : List Item) (ls : List LinedBlock) (behind : List (List Item)) (p k : ℕ)
    (qs : List Item) : Type 0 where
  cuts : AreFurtherCutsAt (spots_on (calls_of pages page) es ls) (end_on (calls_of pages page) es ls behind) qs
  clear : AreClear p (spots_on (calls_of pages page) es ls) (members_of page)
  source : spots_source (spots_on (calls_of pages page) es ls) (end_on (calls_of pages page) es ls behind) ≡ sources qs
  stand : es ++ joined (all_lines ls behind) ≡ called_items pages k (spots_on (calls_of pages page) es ls) (end_on (calls_of pages page) es ls behind)
      → AreSourcesAt (calls_of pages page) k (called_outers pages (spots_on (calls_of pages page) es ls) (end_on (calls_of pages page) es ls behind))
      → StandAfter last open_tables (spots_with_calls pages k (spots_on (calls_of pages page) es ls))
      (items_past pages k (spots_on (calls_of pages page) es ls) (end_on (calls_of pages page) es ls behind))

further : (pages : Pages) (page : List ℕ) (last : TextBlock) (open_tables : List Bool) (es : List Item) (ls : List LinedBlock) (behind : List (List Item)) (p k : ℕ)
    (qs xs : List Item) → AreRuns goes_on (all_lines ls behind) xs → IsEnding es → ((m : List Item) (ms : List (List Item)) → all_lines ls behind ≡ m ∷ ms → es ≡ break ∷ [])
    → IsRest pages page p (es ++ joined (all_lines ls behind)) qs → AreCallingAfter last open_tables ls behind → AreCallingHere (calls_of pages page) es ls
    → AreContentsInFolder pages (spots_on (calls_of pages page) es ls)
    → AreApartFrom (calls_of pages page) (expanded_page pages page).text_calls p es ls → AreHere pages page last open_tables es ls behind p k qs
further pages page last open_tables es [] behind p k qs xs runs i f r h own c u =
    let calls : List OuterCall = calls_of pages page in
    let lined : AreRuns goes_on behind (joined behind) = subst (λ ys. AreRuns goes_on behind ys) (joined_is goes_on behind xs runs) runs in
    record {
      cuts = ends_text calls es behind i f;
      clear = tt;
      source = r.same;
      stand = λ e t. subst (EndsAfter last (length open_tables)) e (lines_end last (length open_tables) es behind i f (lines_of behind lined) h).1;
    }
further pages page last open_tables es (b ∷ ls) behind p k qs xs runs i f r h own c u =
    let calls : List OuterCall = calls_of pages page in
    let tail : List (List Item) = all_lines ls behind in
    let front : List Item = joined b.before ++ lead_of b in
    let some = some_lines b.before (lead_of b ++ b.first) (b.more ++ tail) in
    let is_break : es ≡ break ∷ [] = f some.0 some.1 some.2 in
    let s : BlockSpot = spot_on calls es b in
    let content_in : IsContentIn pages b.block b.text = c.0 in
    let l : IsHere pages page open_tables es b tail p qs =
    is_here pages page open_tables es b tail p qs xs runs (inr is_break) r h.1 own.0 content_in.read u.0 in
    let now : List Bool = open_at open_tables b in
    let left : List Item = ending (own_items b) in
    let ss : List BlockSpot = spots_on calls left ls in
    let end : List ℕ = end_on calls left ls behind in
    let end_at : ℕ = block_to pages page p (line_front es b) (lead_of b) b.block b.text in
    let d : AreHere pages page b.block now left ls behind end_at (calls_past pages k s) l.here.behind =
    further pages page b.block now left ls behind end_at (calls_past pages k s) l.here.behind (joined tail) l.around.tail_runs l.around.own_ending
    l.around.ends l.here.next h.2 own.1 c.1 u.1 in
    let rows : List Row = front_rows (length open_tables) b in
    let same : rows_of_part open_tables front ≡ rows = rows_by open_tables b.block b.before b.sign b.marks h.1.are_marks h.1.sign l.around.front_are l.around.front_whole in
    record {
      cuts = (
        record { before = l.here.before; rest = l.here.behind; is = l.here.is; source = l.here.source },
        l.led,
        subst (λ (zs : List Item). BeginsBreak (text_from calls None (block_front zs b))) (sym is_break) refl,
        d.cuts,
      );
      clear = (l.here.first, l.here.last, d.clear);
      source = spot_source pages page open_tables es b tail p qs l ss end d.source;
      stand = λ e t.
          let n : NamedParts pages calls k s ss end = named_parts pages calls k s ss end t in
          let parts = parts_here pages page open_tables es b tail p qs l k ss end own.0 content_in.read e n in
          let later = d.stand parts.rest n.rest in
          let text : List Item = part_items pages (calls_to pages k s) b.text in
          let stays : StaysOn b.sign b.block (length now) text =
          text_stays b.sign b.block (length now) (calls_to pages k s) pages b.text (content (own_items b)) parts.gives l.stays in
          let others = spots_with_calls pages (calls_past pages k s) ss in
          let past : List Item = items_past pages (calls_past pages k s) ss end in
          let P : List Item → Type 0 = λ zs. BeginsAfter last b.block open_tables zs × LeadsInto b.block open_tables (past_break zs)
          × StaysIn b.block open_tables (past_break zs) text
          × StandAfter b.block (open_behind_part open_tables (past_break zs)) others past in
          subst P (ap (λ (zs : List Item). block_front zs b) (sym is_break) ∙ sym parts.first) (
            (refl, subst (NextApart last b.block) (sym same) h.0),
            l.leads,
            stays_by b.block open_tables b.before b.sign b.marks text h.1.are_marks h.1.sign l.around.front_are l.around.front_whole stays,
            subst (λ (rs : List Row). StandAfter b.block (open_after open_tables rs) others past) (sym same) later,
          );
    }

-- ---- the page

-- what comes before a block, behind what is left of the line before
pub front_so : (calls : List OuterCall) (es : List Item) (b : LinedBlock) → IsApartFrom b.sign b.text
    → ((last_of None (joined b.before) ≡ None) × AreOfPage (lead_of b))
    ⊎ (BeginsAlone (content (own_items b)) × IsLedTo (text_from calls None ((es ++ joined b.before) ++ lead_of b)) b.block b.text)
    → IsOwnFront b ⊎ IsLedFront calls es b
front_so calls es b apart (inl h) = inl (record { before = h.0; marks = h.1; unclosed = apart })
front_so calls es b apart (inr h) = inr (record { first = h.0; led = h.1 })

-- as `IsLinedCalling`, whatever bytes groups have
pub record IsLinedWithCalls (pages : Pages) (page : List ℕ) (bs : List LinedBlock) (behind : List (List Item)) : Type 0 where
  pub utf8 : IsUtf8 page
  pub are : full_lines (expanded_page pages page).items ≡ all_lines bs behind
  pub lined : AreCallingLined bs behind
  pub here : AreCallingHere (calls_of pages page) [] bs
  pub contents : AreContentsInFolder pages (spots_on (calls_of pages page) [] bs)
  pub editable : AreEditableContents pages (spots_on (calls_of pages page) [] bs)
  pub apart : AreApartFrom (calls_of pages page) (expanded_page pages page).text_calls 0 [] bs
  pub unrefused : refusal_of_page pages page ≡ None

-- what the first block has on its lines is what it gives by itself, behind so many calls
pub record IsGivenFirst (pages : Pages) (b : LinedBlock) (tail : List (List Item)) : Type 0 where
  pub number : ℕ
  pub gives : content (own_items b) ≡ part_items pages number (source_of b.block b.text)
  pub stays : StaysOn b.sign b.block (length (open_at [] b)) (part_items pages number b.text)
  pub around : Round b tail
  pub runs : AreRuns goes_on (((lead_of b ++ b.first) ∷ b.more) ++ tail) (joined (((lead_of b ++ b.first) ∷ b.more) ++ tail))

abbrev GivesFirst : Pages → List LinedBlock → List (List Item) → Type 0
GivesFirst pages [] behind = ⊥
GivesFirst pages (b ∷ bs) behind = IsGivenFirst pages b (all_lines bs behind)

record AreLinedParts (pages : Pages) (page : List ℕ) (ls : List LinedBlock) (behind : List (List Item)) : Type 0 where
  whole : spots_source (spots_on (calls_of pages page) [] ls) (end_on (calls_of pages page) [] ls behind) ≡ page
  placed : HaveFreeBytes 0 (spots_on (calls_of pages page) [] ls) (called_tree pages page)
      → IsPlacedCalling pages (spots_on (calls_of pages page) [] ls) (end_on (calls_of pages page) [] ls behind)
  first : GivesFirst pages ls behind

calling_lined : (pages : Pages) (page : List ℕ) (ls : List LinedBlock) (behind : List (List Item)) → IsLinedWithCalls pages page ls behind
    → AreLinedParts pages page ls behind
calling_lined pages page [] behind h = absurd h.lined
calling_lined pages page (b ∷ ls) behind h =
    let calls : List OuterCall = calls_of pages page in
    let tail : List (List Item) = all_lines ls behind in
    let ts : List (List Item) = (lead_of b ++ b.first) ∷ b.more in
    let front : List Item = joined b.before ++ lead_of b in
    let xs : List Item = (expanded_page pages page).items in
    let runs : AreRuns goes_on (b.before ++ (ts ++ tail)) xs = subst (λ (ks : List (List Item)). AreRuns goes_on ks xs) h.are (runs_are goes_on xs) in
    let all : xs ≡ joined (b.before ++ (ts ++ tail)) = joined_is goes_on (b.before ++ (ts ++ tail)) xs runs in
    let r : IsRest pages page 0 ([] ++ joined (b.before ++ (ts ++ tail))) (page_items page) = page_rest pages page (b.before ++ (ts ++ tail)) all in
    let s : BlockSpot = spot_on calls [] b in
    let content_in : IsContentIn pages b.block b.text = h.contents.0 in
    let l : IsHere pages page [] [] b tail 0 (page_items page) =
    is_here pages page [] [] b tail 0 (page_items page) xs runs (inl refl) r h.lined.0 h.here.0 content_in.read h.apart.0 in
    let now : List Bool = open_at [] b in
    let left : List Item = ending (own_items b) in
    let ss : List BlockSpot = spots_on calls left ls in
    let end : List ℕ = end_on calls left ls behind in
    let end_at : ℕ = block_to pages page 0 (joined b.before) (lead_of b) b.block b.text in
    let d : AreHere pages page b.block now left ls behind end_at (calls_past pages 0 s) l.here.behind =
    further pages page b.block now left ls behind end_at (calls_past pages 0 s) l.here.behind (joined tail) l.around.tail_runs l.around.own_ending
    l.around.ends l.here.next h.lined.1 h.here.1 h.contents.1 h.apart.1 in
    let same : spots_source (s ∷ ss) end ≡ page = spot_source pages page [] [] b tail 0 (page_items page) l ss end d.source ∙ page_sources page in
    let utf8 : IsUtf8 (spots_source (s ∷ ss) end) = subst IsUtf8 (sym same) h.utf8 in
    let cuts : AreCutsAt (s ∷ ss) end = (
      record { before = l.here.before; rest = l.here.behind; is = ap page_items same ∙ l.here.is; source = l.here.source },
      l.led,
      d.cuts,
    ) in
    let clear : AreClear 0 (s ∷ ss) (members_of page) = (l.here.first, l.here.last, d.clear) in
    let read : PartsRead s ss end = parts_read pages s ss end utf8 cuts h.contents in
    let apart : ArePartsApart (s ∷ ss) end =
    parts_apart s ss end read.first read.rest read.ends (subst (λ (bs : List ℕ). AreClear 0 (s ∷ ss) (members_of bs)) (sym same) clear) in
    let by_parts : IsByParts pages (s ∷ ss) end = is_by_parts pages (s ∷ ss) end (parts_called pages s ss end read h.contents apart.none) in
    let items : [] ++ joined (b.before ++ (ts ++ tail)) ≡ called_items pages 0 (s ∷ ss) end =
    sym all ∙ sym (ap (λ (bs : List ℕ). (expanded_page pages bs).items) same) ∙ by_parts.items in
    let outers : calls ≡ called_outers pages (s ∷ ss) end = sym (ap (λ (bs : List ℕ). (expanded_page pages bs).outer) same) ∙ by_parts.outers in
    let cs : List OuterCall = called_outers pages (s ∷ ss) end in
    let named : AreSourcesAt calls 0 cs =
    subst (λ (os : List OuterCall). AreSourcesAt os 0 cs) (sym outers) (subst (λ (os : List OuterCall). AreSourcesAt os 0 cs) (append-nil cs) (sources_first cs [])) in
    let n : NamedParts pages calls 0 s ss end = named_parts pages calls 0 s ss end named in
    let parts = parts_here pages page [] [] b tail 0 (page_items page) l 0 ss end h.here.0 content_in.read items n in
    let later = d.stand parts.rest n.rest in
    let text : List Item = part_items pages (calls_to pages 0 s) b.text in
    let stays : StaysOn b.sign b.block (length now) text =
    text_stays b.sign b.block (length now) (calls_to pages 0 s) pages b.text (content (own_items b)) parts.gives l.stays in
    let rows : List Row = front_rows 0 b in
    let rows_are : rows_of_part [] front ≡ rows = rows_by [] b.block b.before b.sign b.marks h.lined.0.are_marks h.lined.0.sign l.around.front_are l.around.front_whole in
    let others = spots_with_calls pages (calls_past pages 0 s) ss in
    let past : List Item = items_past pages (calls_past pages 0 s) ss end in
    let P : List Item → Type 0 = λ zs. LeadsInto b.block [] zs × StaysIn b.block [] zs text
    × StandAfter b.block (open_behind_part [] zs) others past in
    record {
      whole = same;
      placed = λ free. record {
        utf8 = utf8;
        cuts = cuts;
        contents = h.contents;
        editable = h.editable;
        apart = apart.none;
        stand = subst P (sym parts.first) (
          l.leads,
          stays_by b.block [] b.before b.sign b.marks text h.lined.0.are_marks h.lined.0.sign l.around.front_are l.around.front_whole stays,
          subst (λ (rs : List Row). StandAfter b.block (open_after [] rs) others past) (sym rows_are) later,
        );
        unrefused = subst (λ (bs : List ℕ). refusal_of_page pages bs ≡ None) (sym same) h.unrefused;
        free = subst (λ (bs : List ℕ). HaveFreeBytes 0 (s ∷ ss) (called_tree pages bs)) (sym same) free;
      };
      first = record {
        number = calls_to pages 0 s;
        gives = parts.gives;
        stays = stays;
        around = l.around;
        runs = runs_behind goes_on b.before (ts ++ tail) xs runs;
      };
    }

as_lined : (pages : Pages) (page : List ℕ) (ls : List LinedBlock) (behind : List (List Item)) → IsLinedCalling pages page ls behind → IsLinedWithCalls pages page ls behind
as_lined pages page ls behind h = record {
  utf8 = h.utf8;
  are = h.are;
  lined = h.lined;
  here = h.here;
  contents = h.contents;
  editable = h.editable;
  apart = h.apart;
  unrefused = h.unrefused;
}

-- of one block alone
pub given_first : (pages : Pages) (page : List ℕ) (b : LinedBlock) (behind : List (List Item)) → IsLinedWithCalls pages page (b ∷ []) behind → IsGivenFirst pages b behind
given_first pages page b behind h = (calling_lined pages page (b ∷ []) behind h).first

pub calling_whole : (pages : Pages) (page : List ℕ) (ls : List LinedBlock) (behind : List (List Item)) → IsLinedCalling pages page ls behind
    → spots_source (spots_on (calls_of pages page) [] ls) (end_on (calls_of pages page) [] ls behind) ≡ page
calling_whole pages page ls behind h = (calling_lined pages page ls behind (as_lined pages page ls behind h)).whole

pub lined_calling : (pages : Pages) (page : List ℕ) (ls : List LinedBlock) (behind : List (List Item)) → IsLinedCalling pages page ls behind
    → IsPlacedCalling pages (spots_on (calls_of pages page) [] ls) (end_on (calls_of pages page) [] ls behind)
lined_calling pages page ls behind h = (calling_lined pages page ls behind (as_lined pages page ls behind h)).placed h.free

pub calling_editable : (pages : Pages) (page : List ℕ) (ls : List LinedBlock) (behind : List (List Item)) → IsLinedCalling pages page ls behind
    → IsEditableWithCalls pages (spots_on (calls_of pages page) [] ls) (end_on (calls_of pages page) [] ls behind)
calling_editable pages page ls behind h =
    calling_placed pages (spots_on (calls_of pages page) [] ls) (end_on (calls_of pages page) [] ls behind) (lined_calling pages page ls behind h)

-- A block whose lines are the page's own calls nothing by itself: two braces that open before two that close in it would make a call of the page.
use Rattle.std.proofs.Common.{arith, ◌≡◌, ◌⊎◌, inl, inr, ℕ, zero, suc, ◌+◌, ◌≤◌, Bool, false, None, List, [], ◌∷◌, ◌++◌, length, drop, refl, sym, ap, ◌∙◌, subst, append_assoc, length-drop}
use Rattle.wt_span.specs.declared.form.Mode.TheVariants.{Page}
use Rattle.wt_span.specs.declared.form.LexKind.TheVariants.{Opens, Closes}
use Rattle.wt_span.specs.Items.{Item, char, sources}
use Rattle.wt_span.specs.Origins.{OuterCall, Span}
use Rattle.wt_span.specs.Lexemes.{Word, words}
use Rattle.wt_span.specs.Braces.{Member, Members, lexeme, call, members, width_of_all, reduced}
use Rattle.wt_span.specs.Runs.{AreRuns}
use Rattle.wt_span.proofs.RunLaws.{runs_are}
use Rattle.wt_braces.specs.Words.{total_width}
use Rattle.wt_annotated.specs.Seams.{text_from}
use Rattle.wt_lines.specs.Lines.{content, full_lines, goes_on}
use Rattle.wt_page.specs.Lines.{ending}
use Rattle.wt_page.specs.Rows.{marks_len}
use Rattle.wt_page.proofs.Ends.{content_ending}
use Rattle.wt_tables.specs.Parts.{joined}
use Rattle.wt_expand.specs.PageCalls.{expanded_page}
use Rattle.wt_expand.specs.PageItems.{items_of_words, page_items}
use Rattle.wt_expand.specs.Work.{Pages}
use Rattle.wt_transclusion.specs.Stretch.{AreFull}
use Rattle.wt_transclusion.proofs.Full.{full_text, text_bytes}
use Rattle.wt_part_laws.specs.Apart.{AreApart}
use Rattle.wt_part_laws.specs.Lexer.{lexer}
use Rattle.wt_part_laws.specs.Scans.{after_all, Settles}
use Rattle.wt_part_laws.proofs.MetWords.{words_meet}
use Rattle.wt_text_edit_laws.specs.BlockSpots.{BlockSpot}
use Rattle.wt_text_edit_laws.specs.NoCalls.{CallsNothing}
use Rattle.wt_text_edit_laws.specs.PageCuts.{EndsThere}
use Rattle.wt_text_edit_laws.specs.ReadContents.{begins_seen}
use Rattle.wt_text_edit_laws.specs.SignParts.{IsLedTo}
use Rattle.wt_text_edit_laws.specs.TextBetween.{BeginsSeen}
use Rattle.wt_text_edit_laws.specs.TextBlocks.{TextBlock, source_of}
use Rattle.wt_text_edit_laws.proofs.Between.Fronts.{items_from}
use Rattle.wt_text_edit_laws.proofs.Cuts.ItemCuts.{page_cut}
use Rattle.wt_text_edit_laws.proofs.Cuts.LedCuts.{led_settles}
use Rattle.wt_text_edit_laws.proofs.Cuts.Seen.{shown_cuts, seen_either}
use Rattle.wt_text_edit_laws.proofs.Paragraphs.Texts.{EndsHere}
use Rattle.wt_beside_laws.proofs.Derived.BlockContents.{BlockSeen, seen_with, seen_alone}
use Rattle.wt_beside_laws.proofs.Derived.BodyRead.{parts_are}
use Rattle.wt_called_edit_laws.specs.AllTold.{IsBesideTexts}
use Rattle.wt_called_edit_laws.specs.LinedAmong.{AreOfPage, AreBeside}
use Rattle.wt_called_edit_laws.specs.PlacedLines.{LinedBlock, lead_of, all_lines}
use Rattle.wt_called_edit_laws.specs.ToldLines.{Told, lined}
use Rattle.wt_called_edit_laws.proofs.Among.BlockAt.{calls_of, IsRest, text_to, IsPast, BeginsOwn, past_before, IsPastOwn, past_own, beside_first, beside_front}
use Rattle.wt_called_edit_laws.proofs.Among.Flattened.{flat, flat_all, items_append, page_members}
use Rattle.wt_called_edit_laws.proofs.Among.LinedParts.{block_front, ends_text, of_front, own_breaks, page_rest}
use Rattle.wt_called_edit_laws.proofs.Among.Members.{flat_widths, words_size}
use Rattle.wt_called_edit_laws.proofs.Among.NoCallRuns.{HasCall, none_meet_uncalled}
use Rattle.wt_called_edit_laws.proofs.Among.OwnItems.{full_members}
use Rattle.wt_called_edit_laws.proofs.Among.OwnSeams.{sources_size}
use Rattle.wt_called_edit_laws.proofs.Among.PartsApart.{IsClear, members_of, AreSide, page_apart, page_behind, page_front, clear_rest}
use Rattle.wt_called_edit_laws.proofs.Among.RunBraces.{calls_nothing_so}
use Rattle.wt_called_edit_laws.proofs.Among.ToldAmong.{line_items}
use Rattle.wt_called_edit_laws.proofs.Cells.PlacedBlocks.{own_alone}
use Rattle.wt_called_edit_laws.proofs.Cells.PlacedLines.{own_items, Round, round}
use Rattle.wt_called_edit_laws.proofs.Parts.Seams.{line_met}
use Rattle.wt_called_edit_laws.proofs.AllTold.LineKinds.{Lines}
use Rattle.wt_called_edit_laws.proofs.AllTold.OneNode.{page_joined}

-- ---- a call among members, and a place in it

record FirstCall (ms : List Member) : Type 0 where
  front : List Member
  braces : ℕ
  inside : Members
  behind : List Member
  is : ms ≡ front ++ call braces inside ∷ behind

first_call : (ms : List Member) → HasCall ms → FirstCall ms
first_call [] h = absurd h
first_call (lexeme w ∷ ms) h =
    let r = first_call ms h in
    record {
      front = lexeme w ∷ r.front;
      braces = r.braces;
      inside = r.inside;
      behind = r.behind;
      is = ap (λ (xs : List Member). lexeme w ∷ xs) r.is;
    }
first_call (call k is ∷ ms) h = record { front = []; braces = k; inside = is; behind = ms; is = refl }

flat_both : (xs ys : List Member) → flat_all (members (xs ++ ys)) ≡ flat_all (members xs) ++ flat_all (members ys)
flat_both [] ys = refl
flat_both (x ∷ xs) ys =
    ap (λ (ws : List Word). flat x ++ ws) (flat_both xs ys) ∙ sym (append_assoc (flat x) (flat_all (members xs)) (flat_all (members ys)))

full_behind : (xs ys : List Member) → AreFull (members (xs ++ ys)) → AreFull (members ys)
full_behind [] ys h = h
full_behind (x ∷ xs) ys h = full_behind xs ys h.1

widths_both : (xs ys : List Member) → width_of_all (members (xs ++ ys)) ≡ width_of_all (members xs) + width_of_all (members ys)
widths_both [] ys = omega arith
widths_both (x ∷ xs) ys = let e = widths_both xs ys in omega (arith, e)

-- items that begin with a character
record BeginsChar (xs : List Item) : Type 0 where
  byte : ℕ
  more : List Item
  is : xs ≡ char None byte ∷ more

run_begins : (k : ℕ) (ws : List Word) (bs : List ℕ) → 1 ≤ k → 1 ≤ length bs → BeginsChar (items_of_words ((Opens, k) ∷ ws) bs)
run_begins zero ws bs some long = absurd (omega (arith, some))
run_begins (suc k) ws [] some long = absurd (omega (arith, long))
run_begins (suc k) ws (b ∷ bs) some long = record { byte = b; more = _; is = refl }

-- an item behind which a call has begun and not ended
record InCall (line : List ℕ) : Type 0 where
  front : List Item
  more : List Item
  is : page_items line ≡ front ++ more
  crossed : IsClear (length (sources front)) 0 (members_of line) → ⊥

in_call : (line : List ℕ) → HasCall (reduced (words Page line)) → InCall line
in_call line h =
    let c : FirstCall (reduced (words Page line)) = first_call (reduced (words Page line)) h in
    let ms : List Member = call c.braces c.inside ∷ c.behind in
    let k : ℕ = c.braces in
    let at : ℕ = width_of_all (members c.front) in
    let us : List Word = flat_all (members c.front) in
    let all_full : AreFull (members (c.front ++ ms)) =
    subst (λ xs. AreFull (members xs)) c.is (full_members (reduced (words Page line)) (full_text Page line)) in
    let full : AreFull (members ms) = full_behind c.front ms all_full in
    let two : 2 ≤ k = full.0.0 in
    let widths : at + width_of_all (members ms) ≡ length line =
    sym (widths_both c.front ms) ∙ ap (λ (xs : List Member). width_of_all (members xs)) (sym c.is) ∙ text_bytes Page line in
    let size : total_width us ≡ at = flat_widths (members c.front) in
    let left : List ℕ = drop (total_width us) line in
    let long = length-drop (total_width us) line in
    let begins : BeginsChar (items_of_words (flat_all (members ms)) left) =
    run_begins k ((flat_all c.inside ++ (Closes, k) ∷ []) ++ flat_all (members c.behind)) left (omega (arith, two)) (omega (arith, long, size, widths, two)) in
    let before : List Item = items_of_words us line in
    let one : List Item = char None begins.byte ∷ [] in
    let parts : page_items line ≡ before ++ (one ++ begins.more) =
    page_members line ∙ ap (λ (xs : List Member). items_of_words (flat_all (members xs)) line) c.is ∙ ap (λ (ws : List Word). items_of_words ws line) (flat_both c.front ms)
    ∙ items_append us (flat_all (members ms)) line ∙ ap (λ (xs : List Item). before ++ xs) begins.is in
    let bytes : length (sources (before ++ one)) ≡ at + 1 =
    omega (arith, sources_size before one, words_size us line (omega (arith, size, widths)), size) in
    record {
      front = before ++ one;
      more = begins.more;
      is = parts ∙ sym (append_assoc before one begins.more);
      crossed = λ clear.
          let there : IsClear (at + 1) 0 (members (c.front ++ ms)) =
          subst (λ xs. IsClear (at + 1) 0 (members xs)) c.is (subst (λ (n : ℕ). IsClear n 0 (members_of line)) bytes clear) in
          over k at (width_of_all c.inside) two (clear_rest (at + 1) c.front ms there).0;
    }
  where
    over : (k at w : ℕ) → 2 ≤ k → (at + 1 ≤ 0 + at) ⊎ ((0 + at) + (k + w + k) ≤ at + 1) → ⊥
    over k at w two (inl le) = omega (arith, le)
    over k at w two (inr le) = omega (arith, le, two)

-- ---- a block of the page's own

ends_here : (bs : List ℕ) → EndsThere bs → EndsHere bs
ends_here [] e = tt
ends_here (b ∷ bs) e = e

-- what is known of a block of the page's own
pub record IsOwnBlock (pages : Pages) (page : List ℕ) (o : Told) (rest : Lines) : Type 0 where
  pub are : full_lines (expanded_page pages page).items ≡ all_lines (lined o ∷ []) rest
  pub own : AreOfPage (own_items (lined o))
  pub first : 1 ≤ length (lined o).first
  pub some : 1 ≤ length (content (own_items (lined o)))
  pub led : IsLedTo (text_from (expanded_page pages page).outer None (joined (lined o).before ++ lead_of (lined o))) (lined o).block (lined o).text
  pub beside : IsBesideTexts (expanded_page pages page) (joined (lined o).before) o
  pub seen : BlockSeen (content (own_items (lined o)))
  pub source : source_of (lined o).block (lined o).text ≡ sources (content (own_items (lined o)))

begins_some : (xs ys : List Item) → 1 ≤ length xs → AreOfPage xs → BeginsOwn (xs ++ ys)
begins_some [] ys some h = absurd (omega (arith, some))
begins_some (x ∷ xs) ys some h = inr (x, xs ++ ys, refl, h.0)

-- where it is among the page's items
record IsThere (pages : Pages) (page : List ℕ) (os ys : List Item) : Type 0 where
  before : List Item
  behind : List Item
  from : ℕ
  is : page_items page ≡ before ++ (os ++ behind)
  at : from ≡ length (sources before)
  first : IsClear from 0 (members_of page)
  last : IsClear (from + length (sources os)) 0 (members_of page)
  same : text_from (calls_of pages page) None ys ≡ sources behind
  inside : (us vs : List Item) → os ≡ us ++ vs → IsClear (from + length (sources us)) 0 (members_of page)

there : (pages : Pages) (page : List ℕ) (xs os ys : List Item) → IsRest pages page 0 (xs ++ (os ++ ys)) (page_items page) → 1 ≤ length os → AreOfPage os
    → AreBeside (text_to pages page 0 xs) (text_to pages page 0 xs + length (sources os)) (expanded_page pages page).text_calls
    → (p : IsThere pages page os ys) × (sources p.before ≡ text_from (calls_of pages page) None xs)
there pages page xs os ys r some own beside =
    let spans : List Span = (expanded_page pages page).text_calls in
    let from : ℕ = text_to pages page 0 xs in
    let to : ℕ = from + length (sources os) in
    let first : IsPast pages page 0 xs (os ++ ys) (page_items page) =
    past_before pages page 0 xs (os ++ ys) (page_items page) r (begins_some os ys some own) (beside_first from to spans (omega arith) beside) in
    let all : IsPastOwn pages page from os ys first.behind = past_own pages page from os ys first.behind first.next own beside in (
      record {
        before = first.before;
        behind = all.behind;
        from = from;
        is = first.is ∙ ap (λ (zs : List Item). first.before ++ zs) all.is;
        at = omega (arith, ap length first.source);
        first = first.clear;
        last = all.clear;
        same = all.next.same;
        inside = λ us vs e.
            let next : IsRest pages page from (us ++ (vs ++ ys)) first.behind =
            subst (λ (zs : List Item). IsRest pages page from zs first.behind) (ap (λ (zs : List Item). zs ++ ys) e ∙ append_assoc us vs ys) first.next in
            let less = ap (λ (zs : List Item). length (sources zs)) e ∙ sources_size us vs in
            let part : IsPastOwn pages page from us (vs ++ ys) first.behind =
            past_own pages page from us (vs ++ ys) first.behind next (of_front us vs (subst AreOfPage e own))
            (beside_front from (from + length (sources us)) to spans (omega (arith, less)) beside) in
            part.clear;
      },
      first.source,
    )

pub calls_nothing : (pages : Pages) (page : List ℕ) (o : Told) (rest : Lines) → IsOwnBlock pages page o rest → CallsNothing (content (own_items (lined o)))
calls_nothing pages page o rest h =
    let calls : List OuterCall = calls_of pages page in
    let items : List Item = (expanded_page pages page).items in
    let b : LinedBlock = lined o in
    let k : TextBlock = b.block in
    let q : List ℕ = b.text in
    let own : List Item = own_items b in
    let os : List Item = content own in
    let ys : List Item = ending own ++ joined rest in
    let xs : List Item = block_front [] b in
    let ls : Lines = all_lines (b ∷ []) rest in
    let split : own ++ joined rest ≡ os ++ ys = ap (λ (zs : List Item). zs ++ joined rest) (sym (content_ending own)) ∙ append_assoc os (ending own) (joined rest) in
    let r : IsRest pages page 0 (xs ++ (os ++ ys)) (page_items page) =
    subst (λ (zs : List Item). IsRest pages page 0 (xs ++ zs) (page_items page)) split
    (subst (λ (zs : List Item). IsRest pages page 0 zs (page_items page)) (line_items [] b rest) (page_rest pages page ls (page_joined pages page ls h.are))) in
    let mine : AreOfPage os = of_front os (ending own) (subst AreOfPage (sym (content_ending own)) h.own) in
    let less = sources_size os (ending own) in
    let same = ap (λ (zs : List Item). length (sources zs)) (content_ending own) in
    let n : ℕ = length (text_from calls None (joined b.before ++ lead_of b)) in
    let z : n ≡ 0 + n = omega arith in
    let beside : AreBeside (0 + n) ((0 + n) + length (sources own)) (expanded_page pages page).text_calls =
    subst (λ (m : ℕ). AreBeside m (m + length (sources own)) (expanded_page pages page).text_calls) z h.beside in
    let t = there pages page xs os ys r h.some mine (beside_front (0 + n) ((0 + n) + length (sources os)) ((0 + n) + length (sources own)) (expanded_page pages page).text_calls (omega (arith, less, same)) beside) in
    let p : IsThere pages page os ys = t.0 in
    let runs : AreRuns goes_on ls items = subst (λ (ms : Lines). AreRuns goes_on ms items) h.are (runs_are goes_on items) in
    let around : Round b rest = round b rest items h.first runs (own_breaks own h.own) in
    let first : List ℕ = sources p.before in
    let line : List ℕ = sources os in
    let later : List ℕ = sources p.behind in
    let ends : EndsThere later = subst EndsThere p.same (ends_text calls (ending own) rest around.own_ending around.ends) in
    let whole : first ++ (line ++ later) ≡ page = parts_are page p.before os p.behind p.is in
    let all : page_items (first ++ (line ++ later)) ≡ p.before ++ (os ++ p.behind) = ap page_items whole ∙ p.is in
    let s : BlockSpot = record { before = first; block = k; text = q } in
    let settles : Settles (lexer Page) (line ++ later) false 0 first =
    subst (λ (bs : List ℕ). Settles (lexer Page) (bs ++ later) false 0 first) h.source
    (led_settles s later p.before (os ++ p.behind) (subst (λ (bs : List ℕ). IsLedTo bs k q) (sym t.1) h.led) ends refl
    (subst (λ (bs : List ℕ). page_items (first ++ (bs ++ later)) ≡ p.before ++ (os ++ p.behind)) (sym h.source) all)) in
    let c = page_cut first (line ++ later) p.before (os ++ p.behind) all refl in
    let a : Bool = after_all (lexer Page) false first in
    let seen : BlockSeen (os ++ p.behind) = seen_with os p.behind h.seen in
    let shown : BeginsSeen (line ++ later) = subst_seen a (line ++ later) (os ++ p.behind) c.behind seen in
    let side : AreSide first (line ++ later) = words_meet Page first (line ++ later) settles (shown_cuts a (line ++ later) shown.shown) in
    let alone : page_items line ≡ os = own_alone p.before os p.behind all h.seen in
    let both : page_items (line ++ later) ≡ page_items line ++ p.behind =
    seen_alone a (line ++ later) (os ++ p.behind) seen c.behind ∙ ap (λ (zs : List Item). zs ++ p.behind) (sym alone) in
    let next : AreSide line later = line_met line later p.behind (ends_here later ends) both in
    let at_page : (i : ℕ) → IsClear i 0 (members_of page) → IsClear i 0 (members_of (first ++ (line ++ later))) =
    λ i g. subst (λ (bs : List ℕ). IsClear i 0 (members_of bs)) (sym whole) g in
    let size : p.from ≡ length first = p.at in
    let apart : AreApart (words Page first) (words Page (line ++ later)) =
    page_apart first (line ++ later) side (at_page (length first) (subst (λ (i : ℕ). IsClear i 0 (members_of page)) size p.first)) in
    let behind : (i : ℕ) → IsClear (p.from + i) 0 (members_of page) → IsClear i 0 (members_of (line ++ later)) =
    λ i g. page_behind first (line ++ later) i side apart (at_page (length first + i) (subst (λ (j : ℕ). IsClear (j + i) 0 (members_of page)) size g)) in
    let line_apart : AreApart (words Page line) (words Page later) = page_apart line later next (behind (length line) p.last) in
    let uncalled : HasCall (reduced (words Page line)) → ⊥ =
    λ g. let i : InCall line = in_call line g in
    i.crossed (page_front line later (length (sources i.front)) next line_apart (behind (length (sources i.front)) (p.inside i.front i.more (sym alone ∙ i.is)))) in
    subst CallsNothing alone (calls_nothing_so line (none_meet_uncalled (words Page line) uncalled))
  where
    subst_seen : (a : Bool) (bs : List ℕ) (zs : List Item) → items_from a 0 bs ≡ zs → BlockSeen zs → BeginsSeen bs
    subst_seen a bs zs e g = seen_either a bs (ap marks_len e ∙ g.unled) (ap begins_seen e ∙ g.seen)

-- Lines of an expanded page that tell a paragraph or a heading are those of such a block.
use Rattle.std.proofs.Common.{arith, ◌≡◌, inl, inr, ℕ, ◌+◌, ◌≤◌, Bool, None, List, [], ◌∷◌, ◌++◌, length, map, refl, sym, ap, ◌∙◌, subst, append_assoc, append-nil}
use Rattle.wt_span.specs.Items.{Item, sources}
use Rattle.wt_span.specs.Origins.{OuterCall, Span}
use Rattle.wt_span.specs.Runs.{IsRun, AreRuns}
use Rattle.wt_span.proofs.RunLaws.{runs_are}
use Rattle.wt_annotated.specs.Seams.{text_from}
use Rattle.wt_lines.specs.Lines.{goes_on, content, full_lines}
use Rattle.wt_page.specs.Lines.{ending}
use Rattle.wt_tables.specs.Parts.{joined}
use Rattle.wt_expand.specs.PageCalls.{expanded_page}
use Rattle.wt_expand.specs.PageItems.{page_items}
use Rattle.wt_expand.specs.Work.{Pages}
use Rattle.wt_text_edit_laws.specs.BlockSpots.{spots_source}
use Rattle.wt_text_edit_laws.specs.PageCuts.{AreHeadingItems, EndsClosed, EndClosed}
use Rattle.wt_text_edit_laws.specs.ParagraphParts.{break}
use Rattle.wt_text_edit_laws.specs.TextBlocks.{TextBlock, source_of}
use Rattle.wt_text_edit_laws.proofs.Cuts.TextLines.{joined_is, runs_behind}
use Rattle.wt_called_edit_laws.specs.AnyBlocks.{open_after}
use Rattle.wt_called_edit_laws.specs.LinedAmong.{spots_on, end_on, AreOfPage, AreOwnLines, AreBeside, AreUntouched, IsLinedAmong}
use Rattle.wt_called_edit_laws.specs.LinedHeadings.{sides_of, text_of, IsLinedHeading}
use Rattle.wt_called_edit_laws.specs.PlacedLines.{LinedBlock, all_lines, OwnLined, IsLinedAt, AreLinedAfter, AreLined, lead_of}
use Rattle.wt_called_edit_laws.specs.ToldAmong.{IsToldAmong}
use Rattle.wt_called_edit_laws.specs.ToldLines.{Told, a_paragraph_of, a_heading_on, lined, OwnTold, rows_before, IsToldAt, AreToldAfter, AreTold}
use Rattle.wt_called_edit_laws.proofs.Among.BlockAt.{calls_of, IsRest, text_to, block_to, IsPast, BeginsOwn, past_before, IsPastOwn, past_own, beside_first}
use Rattle.wt_called_edit_laws.proofs.Among.LinedParts.{line_front, block_front, IsLinedHere, lined_here, own_breaks, page_rest}
use Rattle.wt_called_edit_laws.proofs.Among.OwnItems.{from_page}
use Rattle.wt_called_edit_laws.proofs.Cells.PlacedLines.{own_items, lines_joined, run_behind, some_lines}
use Rattle.wt_called_edit_laws.proofs.Told.HeadItems.{told_source, lined_heading}
use Rattle.wt_called_edit_laws.proofs.Told.ToldPages.{IsClosed, told_item}

-- ---- a heading

run_unmarked : (ms l others : List Item) → 1 ≤ length l → IsRun goes_on (ms ++ l) others → IsRun goes_on l others
run_unmarked ms [] others some h = absurd (omega (arith, some))
run_unmarked ms (y ∷ ys) others some h = run_behind ms y ys others h

-- items of the page's own are among its items, with calls as characters, whatever is before them
pub record LineThere (pages : Pages) (page : List ℕ) (l ys : List Item) : Type 0 where
  pub front : List Item
  pub behind : List Item
  pub is : page_items page ≡ front ++ (l ++ behind)
  pub place : ℕ
  pub rest : IsRest pages page place ys behind

begins_with : (l ys : List Item) → 1 ≤ length l → AreOfPage l → BeginsOwn (l ++ ys)
begins_with [] ys some own = absurd (omega (arith, some))
begins_with (x ∷ l) ys some own = inr (x, l ++ ys, refl, own.0)

pub line_there : (pages : Pages) (page : List ℕ) (p : ℕ) (xs l ys qs : List Item) → IsRest pages page p (xs ++ (l ++ ys)) qs → 1 ≤ length l → AreOfPage l
    → AreBeside (text_to pages page p xs) (text_to pages page p xs + length (sources l)) (expanded_page pages page).text_calls → LineThere pages page l ys
line_there pages page p xs l ys qs r some own beside =
    let spans : List Span = (expanded_page pages page).text_calls in
    let from : ℕ = text_to pages page p xs in
    let to : ℕ = from + length (sources l) in
    let first : IsPast pages page p xs (l ++ ys) qs =
    past_before pages page p xs (l ++ ys) qs r (begins_with l ys some own) (beside_first from to spans (omega arith) beside) in
    let second : IsPastOwn pages page from l ys first.behind = past_own pages page from l ys first.behind first.next own beside in
    record {
      front = first.next.front;
      behind = second.behind;
      is = first.next.whole ∙ ap (λ zs. first.next.front ++ zs) second.is;
      place = to;
      rest = second.next;
    }

heading_here : (pages : Pages) (page : List ℕ) (n p : ℕ) (xs l ys qs : List Item) → IsRest pages page p (xs ++ (l ++ ys)) qs → 1 ≤ length l → AreOfPage l
    → AreBeside (text_to pages page p xs) (text_to pages page p xs + length (sources l)) (expanded_page pages page).text_calls
    → (ending l ++ ys ≡ [] → EndsClosed (sources (content l)) []) → IsRun goes_on l ys → IsLinedHeading n l → AreHeadingItems (sides_of (content l)) (text_of (content l)) (content l)
heading_here pages page n p xs l ys qs r some own beside closed run h =
    let t : LineThere pages page l ys = line_there pages page p xs l ys qs r some own beside in
    lined_heading n page t.front l t.behind ys t.is run (from_page l own) (own_breaks l own) h closed

-- ---- one block

pub line_items : (es : List Item) (b : LinedBlock) (tail : List (List Item))
    → es ++ joined (b.before ++ (((lead_of b ++ b.first) ∷ b.more) ++ tail)) ≡ block_front es b ++ (own_items b ++ joined tail)
line_items es b tail =
    let rest : List Item = own_items b ++ joined tail in
    ap (λ zs. es ++ zs) (lines_joined b tail ∙ append_assoc (joined b.before) (lead_of b) rest) ∙ sym (append_assoc es (joined b.before) (lead_of b ++ rest))
    ∙ sym (append_assoc (line_front es b) (lead_of b) rest)

own_told : (pages : Pages) (page : List ℕ) (t : Told) (n p : ℕ) (es : List Item) (tail : List (List Item)) (qs xs : List Item) → 1 ≤ length (lined t).first
    → AreRuns goes_on ((lined t).before ++ (((lead_of (lined t) ++ (lined t).first) ∷ (lined t).more) ++ tail)) xs
    → IsRest pages page p (block_front es (lined t) ++ (own_items (lined t) ++ joined tail)) qs → AreOfPage (own_items (lined t))
    → AreBeside (text_to pages page p (block_front es (lined t))) (text_to pages page p (block_front es (lined t)) + length (sources (own_items (lined t))))
    (expanded_page pages page).text_calls
    → IsClosed (lined t) tail → OwnTold t n → OwnLined (lined t).sign (lined t).block n (lined t).text ((lined t).first ∷ (lined t).more)
own_told pages page (a_paragraph_of before sign marks first more) n p es tail qs xs some runs r own beside closed h = (h.0, h.1, refl)
own_told pages page (a_heading_on before marks l) n p es tail qs xs some runs r own beside closed h =
    let one : l ++ [] ≡ l = append-nil l in
    let lines = runs_behind goes_on before ((marks ++ l) ∷ tail) xs runs in
    let rest : lines.0 ≡ joined tail = joined_is goes_on tail lines.0 lines.3 in
    let run : IsRun goes_on l (joined tail) = run_unmarked marks l (joined tail) some (subst (IsRun goes_on (marks ++ l)) rest lines.2) in
    let front : List Item = (es ++ joined before) ++ marks in
    let there : IsRest pages page p (front ++ (l ++ joined tail)) qs = subst (λ zs. IsRest pages page p (front ++ (zs ++ joined tail)) qs) one r in
    let mine : AreOfPage l = subst AreOfPage one own in
    let near : AreBeside (text_to pages page p front) (text_to pages page p front + length (sources l)) (expanded_page pages page).text_calls =
    subst (λ zs. AreBeside (text_to pages page p front) (text_to pages page p front + length (sources zs)) (expanded_page pages page).text_calls) one beside in
    let head : AreHeadingItems (sides_of (content l)) (text_of (content l)) (content l) =
    heading_here pages page n p front l (joined tail) qs there some mine near
    (λ e. subst (λ (bs : List ℕ). EndsClosed bs []) (told_source n l h (from_page l mine)) (closed (ap (λ (ys : List Item). ending ys ++ joined tail) one ∙ e))) run h in
    subst (λ (ys : List Item). AreHeadingItems (sides_of (content l)) (text_of (content l)) (content ys)) (sym one) head

pub told_at : (pages : Pages) (page : List ℕ) (open_tables : List Bool) (t : Told) (p : ℕ) (es : List Item) (tail : List (List Item)) (qs xs : List Item)
    → AreRuns goes_on ((lined t).before ++ (((lead_of (lined t) ++ (lined t).first) ∷ (lined t).more) ++ tail)) xs
    → IsRest pages page p (es ++ joined ((lined t).before ++ (((lead_of (lined t) ++ (lined t).first) ∷ (lined t).more) ++ tail))) qs → AreOfPage (own_items (lined t))
    → AreBeside (text_to pages page p (block_front es (lined t))) (text_to pages page p (block_front es (lined t)) + length (sources (own_items (lined t))))
    (expanded_page pages page).text_calls
    → IsClosed (lined t) tail → IsToldAt open_tables t → IsLinedAt open_tables (lined t)
told_at pages page open_tables t p es tail qs xs runs r own beside closed h =
    let b : LinedBlock = lined t in
    let own_there : IsRest pages page p (block_front es b ++ (own_items b ++ joined tail)) qs = subst (λ zs. IsRest pages page p zs qs) (line_items es b tail) r in
    record {
      sign = h.sign;
      unclosed = h.unclosed;
      are_marks = h.are_marks;
      some = h.some;
      in_cells = h.in_cells;
      apart = h.apart;
      own = own_told pages page t (length (open_after open_tables (rows_before open_tables t))) p es tail qs xs h.some runs own_there own beside closed h.own;
    }

-- ---- all blocks

-- where no item is left, no block is, and nothing is behind them
none_on : (calls : List OuterCall) (last : TextBlock) (open_tables : List Bool) (es : List Item) (ts : List Told) (rest : List (List Item))
    → AreToldAfter last open_tables ts rest → es ++ joined (all_lines (map lined ts) rest) ≡ []
    → spots_source (spots_on calls es (map lined ts)) (end_on calls es (map lined ts) rest) ≡ []
none_on calls last open_tables es [] rest h e = ap (text_from calls None) e
none_on calls last open_tables es (t ∷ ts) rest h e = absurd (told_item es (lined t) (all_lines (map lined ts) rest) h.1.some e)

pub closed_here : (calls : List OuterCall) (t : Told) (open_tables : List Bool) (ts : List Told) (rest : List (List Item)) → AreToldAfter (lined t).block open_tables ts rest
    → EndsClosed (source_of (lined t).block (lined t).text)
    (spots_source (spots_on calls (ending (own_items (lined t))) (map lined ts)) (end_on calls (ending (own_items (lined t))) (map lined ts) rest))
    → IsClosed (lined t) (all_lines (map lined ts) rest)
closed_here calls t open_tables ts rest h c =
    λ e. subst (EndsClosed (source_of (lined t).block (lined t).text)) (none_on calls (lined t).block open_tables (ending (own_items (lined t))) ts rest h e) c

told_after : (pages : Pages) (page : List ℕ) (last : TextBlock) (open_tables : List Bool) (es : List Item) (ts : List Told) (behind : List (List Item)) (p : ℕ)
    (qs xs : List Item) → AreRuns goes_on (all_lines (map lined ts) behind) xs
    → ((m : List Item) (ms : List (List Item)) → all_lines (map lined ts) behind ≡ m ∷ ms → es ≡ break ∷ [])
    → IsRest pages page p (es ++ joined (all_lines (map lined ts) behind)) qs → AreToldAfter last open_tables ts behind → AreOwnLines (map lined ts)
    → EndClosed (spots_on (calls_of pages page) es (map lined ts)) (end_on (calls_of pages page) es (map lined ts) behind) → AreUntouched (calls_of pages page) (expanded_page pages page).text_calls p es (map lined ts) → AreLinedAfter last open_tables (map lined ts) behind
told_after pages page last open_tables es [] behind p qs xs runs f r h own c u = h
told_after pages page last open_tables es (t ∷ ts) behind p qs xs runs f r h own c u =
    let b : LinedBlock = lined t in
    let tail : List (List Item) = all_lines (map lined ts) behind in
    let some = some_lines b.before (lead_of b ++ b.first) (b.more ++ tail) in
    let is_break : es ≡ break ∷ [] = f some.0 some.1 some.2 in
    let here : IsClosed b tail = closed_here (calls_of pages page) t (open_after open_tables (rows_before open_tables t)) ts behind h.2 c.0 in
    let at : IsLinedAt open_tables b = told_at pages page open_tables t p es tail qs xs runs r own.0 u.0 here h.1 in
    let l : IsLinedHere pages page open_tables es b tail p qs = lined_here pages page open_tables es b tail p qs xs runs (inr is_break) r at own.0 u.0 in
    let left : List Item = ending (own_items b) in (
      h.0,
      at,
      told_after pages page b.block (open_after open_tables (rows_before open_tables t)) left ts behind (block_to pages page p (line_front es b) (lead_of b) b.block b.text)
          l.here.behind (joined tail) l.around.tail_runs l.around.ends l.here.next h.2 own.2 c.1
          (subst (λ (n : ℕ). AreUntouched (calls_of pages page) (expanded_page pages page).text_calls n left (map lined ts)) l.next_at u.1),
    )

-- what tells the lines of blocks
pub record AreToldLines (pages : Pages) (page : List ℕ) (ts : List Told) (behind : List (List Item)) : Type 0 where
  pub closed : EndClosed (spots_on (calls_of pages page) [] (map lined ts)) (end_on (calls_of pages page) [] (map lined ts) behind)
  pub are : full_lines (expanded_page pages page).items ≡ all_lines (map lined ts) behind
  pub told : AreTold ts behind
  pub own : AreOwnLines (map lined ts)
  pub untouched : AreUntouched (expanded_page pages page).outer (expanded_page pages page).text_calls 0 [] (map lined ts)

pub all_told : (pages : Pages) (page : List ℕ) (ts : List Told) (behind : List (List Item)) → AreToldLines pages page ts behind → AreLined (map lined ts) behind
all_told pages page [] behind h = absurd h.told
all_told pages page (t ∷ ts) behind h =
    let b : LinedBlock = lined t in
    let tail : List (List Item) = all_lines (map lined ts) behind in
    let lines : List (List Item) = b.before ++ (((lead_of b ++ b.first) ∷ b.more) ++ tail) in
    let xs : List Item = (expanded_page pages page).items in
    let runs : AreRuns goes_on lines xs = subst (λ (ks : List (List Item)). AreRuns goes_on ks xs) h.are (runs_are goes_on xs) in
    let r : IsRest pages page 0 ([] ++ joined lines) (page_items page) = page_rest pages page lines (joined_is goes_on lines xs runs) in
    let here : IsClosed b tail = closed_here (calls_of pages page) t (open_after [] (rows_before [] t)) ts behind h.told.1 h.closed.0 in
    let at : IsLinedAt [] b = told_at pages page [] t 0 [] tail (page_items page) xs runs r h.own.0 h.untouched.0 here h.told.0 in
    let l : IsLinedHere pages page [] [] b tail 0 (page_items page) =
    lined_here pages page [] [] b tail 0 (page_items page) xs runs (inl refl) r at h.own.0 h.untouched.0 in
    let left : List Item = ending (own_items b) in (
      at,
      told_after pages page b.block (open_after [] (rows_before [] t)) left ts behind (block_to pages page 0 (line_front [] b) (lead_of b) b.block b.text)
          l.here.behind (joined tail) l.around.tail_runs l.around.ends l.here.next h.told.1
          h.own.2 h.closed.1 (subst (λ (n : ℕ). AreUntouched (calls_of pages page) (expanded_page pages page).text_calls n left (map lined ts)) l.next_at h.untouched.1),
    )

pub told_among : (pages : Pages) (page : List ℕ) (ts : List Told) (behind : List (List Item)) → IsToldAmong pages page ts behind
    → IsLinedAmong pages page (map lined ts) behind
told_among pages page ts behind h = record {
  utf8 = h.utf8;
  closed = h.closed;
  are = h.are;
  lined = all_told pages page ts behind (record { closed = h.closed; are = h.are; told = h.told; own = h.own; untouched = h.untouched });
  own = h.own;
  led = h.led;
  free = h.free;
  untouched = h.untouched;
  unrefused = h.unrefused;
  in_no_group = h.in_no_group;
}

-- Lines that tell a paragraph or a heading are those of such a block.
use Rattle.std.proofs.Common.{arith, ◌≡◌, ◌≤◌, ℕ, Bool, List, [], ◌∷◌, ◌++◌, length, map, refl, sym, ap, ◌∙◌, subst, append-nil, append_assoc}
use Rattle.wt_span.specs.Items.{Item, sources}
use Rattle.wt_span.specs.Runs.{IsRun, AreRuns}
use Rattle.wt_span.proofs.RunLaws.{runs_are}
use Rattle.wt_expand.specs.PageItems.{page_items}
use Rattle.wt_expand.specs.Work.{Pages}
use Rattle.wt_expand.proofs.PageLaws.{page_has_no_calls}
use Rattle.wt_lines.specs.Lines.{full_lines, goes_on, content}
use Rattle.wt_page.specs.Lines.{ending}
use Rattle.wt_tables.specs.Parts.{joined}
use Rattle.wt_text_edit_laws.specs.BlockSpots.{spots_source}
use Rattle.wt_text_edit_laws.specs.PageCuts.{AreHeadingItems, EndsClosed, EndClosed}
use Rattle.wt_text_edit_laws.specs.TextBlocks.{TextBlock, source_of}
use Rattle.wt_text_edit_laws.proofs.Cuts.TextLines.{runs_behind, joined_is, joined_both}
use Rattle.wt_text_edit_laws.proofs.Paragraphs.LineBlocks.{OwnBreaks, page_breaks}
use Rattle.wt_called_edit_laws.specs.AnyBlocks.{open_after}
use Rattle.wt_called_edit_laws.specs.CalledPages.{IsCalledPage}
use Rattle.wt_called_edit_laws.specs.LinedHeadings.{sides_of, text_of}
use Rattle.wt_called_edit_laws.specs.PlacedLines.{LinedBlock, all_lines, spots_by, end_by, OwnLined, IsLinedAt, AreLinedAfter, AreLined, IsLinedPage, lead_of}
use Rattle.wt_called_edit_laws.specs.ToldLines.{Told, a_paragraph_of, a_heading_on, lined, OwnTold, rows_before, IsToldAt, AreToldAfter, AreTold, IsToldPage}
use Rattle.wt_called_edit_laws.proofs.Cells.PlacedBlocks.{own_first, own_rest}
use Rattle.wt_called_edit_laws.proofs.Cells.PlacedLines.{own_items, run_behind, lines_joined, lined_called}
use Rattle.wt_called_edit_laws.proofs.Told.HeadItems.{AllOwn, own_all, own_front, own_back, told_source, lined_heading}

-- ---- one block

run_unmarked : (ms l others : List Item) → 1 ≤ length l → IsRun goes_on (ms ++ l) others → IsRun goes_on l others
run_unmarked ms [] others some h = absurd (omega (arith, some))
run_unmarked ms (y ∷ ys) others some h = run_behind ms y ys others h

-- these items are the last of a page
record AtEnd (page : List ℕ) (xs : List Item) : Type 0 where
  before : List Item
  is : page_items page ≡ before ++ xs

-- and so their last ones
at_behind : (page : List ℕ) (us vs xs : List Item) → xs ≡ us ++ vs → AtEnd page xs → AtEnd page vs
at_behind page us vs xs e a = record {
  before = a.before ++ us;
  is = a.is ∙ ap (λ (ys : List Item). a.before ++ ys) e ∙ sym (append_assoc a.before us vs);
}

-- where no item is behind its lines, it holds no mark that nothing ends
abbrev pub IsClosed : LinedBlock → List (List Item) → Type 0
IsClosed b tail = ending (own_items b) ++ joined tail ≡ [] → EndsClosed (source_of b.block b.text) []

own_told : (page : List ℕ) (t : Told) (n : ℕ) (tail : List (List Item)) (xs : List Item) → 1 ≤ length (lined t).first
    → AreRuns goes_on ((lead_of (lined t) ++ (lined t).first) ∷ ((lined t).more ++ tail)) xs → AtEnd page xs → AllOwn xs → OwnBreaks xs → IsClosed (lined t) tail
    → OwnTold t n → OwnLined (lined t).sign (lined t).block n (lined t).text ((lined t).first ∷ (lined t).more)
own_told page (a_paragraph_of before sign marks first more) n tail xs some runs at own breaks closed h = (h.0, h.1, refl)
own_told page (a_heading_on before marks l) n tail xs some runs at own breaks closed h =
    let whole : xs ≡ marks ++ (l ++ runs.0) = runs.1 ∙ append_assoc marks l runs.0 in
    let there : AtEnd page (l ++ runs.0) = at_behind page marks (l ++ runs.0) xs whole at in
    let mine : AllOwn l = own_front l runs.0 (own_back marks (l ++ runs.0) (subst AllOwn whole own)) in
    let ends : OwnBreaks l = own_first l runs.0 (own_rest marks (l ++ runs.0) (subst OwnBreaks whole breaks)) in
    let one : l ++ [] ≡ l = append-nil l in
    let behind_it : runs.0 ≡ joined tail = joined_is goes_on tail runs.0 runs.3 in
    let head : AreHeadingItems (sides_of (content l)) (text_of (content l)) (content l) =
    lined_heading n page there.before l runs.0 runs.0 there.is (run_unmarked marks l runs.0 some runs.2) mine ends h
    (λ e. subst (λ (bs : List ℕ). EndsClosed bs []) (told_source n l h mine)
    (closed (ap (λ (ys : List Item). ending ys ++ joined tail) one ∙ ap (λ (ys : List Item). ending l ++ ys) (sym behind_it) ∙ e))) in
    subst (λ (ys : List Item). AreHeadingItems (sides_of (content l)) (text_of (content l)) (content ys)) (sym one) head

-- ---- all blocks

-- what is known of the items of lines at a place of the page
record AreThere (page : List ℕ) (xs : List Item) : Type 0 where
  at : AtEnd page xs
  own : AllOwn xs
  breaks : OwnBreaks xs

there_behind : (page : List ℕ) (us vs xs : List Item) → xs ≡ us ++ vs → AreThere page xs → AreThere page vs
there_behind page us vs xs e a = record {
  at = at_behind page us vs xs e a.at;
  own = own_back us vs (subst AllOwn e a.own);
  breaks = own_rest us vs (subst OwnBreaks e a.breaks);
}

record Behind (page : List ℕ) (b : LinedBlock) (tail : List (List Item)) : Type 0 where
  own_runs : AreRuns goes_on (((lead_of b ++ b.first) ∷ b.more) ++ tail) (joined (((lead_of b ++ b.first) ∷ b.more) ++ tail))
  own_there : AreThere page (joined (((lead_of b ++ b.first) ∷ b.more) ++ tail))
  tail_runs : AreRuns goes_on tail (joined tail)
  tail_there : AreThere page (joined tail)

behind : (page : List ℕ) (b : LinedBlock) (tail : List (List Item)) (xs : List Item) → AreRuns goes_on (b.before ++ (((lead_of b ++ b.first) ∷ b.more) ++ tail)) xs
    → AreThere page xs → Behind page b tail
behind page b tail xs runs there =
    let ks : List (List Item) = (lead_of b ++ b.first) ∷ b.more in
    let rest : AreRuns goes_on (ks ++ tail) (joined (ks ++ tail)) = runs_behind goes_on b.before (ks ++ tail) xs runs in
    let mine : AreThere page (joined (ks ++ tail)) =
    there_behind page (joined b.before) (joined (ks ++ tail)) xs (joined_is goes_on (b.before ++ (ks ++ tail)) xs runs ∙ joined_both b.before (ks ++ tail)) there in
    record {
      own_runs = rest;
      own_there = mine;
      tail_runs = runs_behind goes_on ks tail (joined (ks ++ tail)) rest;
      tail_there = there_behind page (joined ks) (joined tail) (joined (ks ++ tail)) (joined_both ks tail) mine;
    }

told_at : (page : List ℕ) (open_tables : List Bool) (t : Told) (tail : List (List Item)) → Behind page (lined t) tail → IsClosed (lined t) tail
    → IsToldAt open_tables t → IsLinedAt open_tables (lined t)
told_at page open_tables t tail r closed h = record {
  sign = h.sign;
  unclosed = h.unclosed;
  are_marks = h.are_marks;
  some = h.some;
  in_cells = h.in_cells;
  apart = h.apart;
  own = own_told page t (length (open_after open_tables (rows_before open_tables t))) tail
      (joined (((lead_of (lined t) ++ (lined t).first) ∷ (lined t).more) ++ tail)) h.some r.own_runs r.own_there.at r.own_there.own r.own_there.breaks closed h.own;
}

-- a block has an item
item_in : (xs ys zs : List Item) → 1 ≤ length ys → xs ++ (ys ++ zs) ≡ [] → ⊥
item_in [] [] zs some e = omega (arith, some)
item_in [] (y ∷ ys) zs some e = cc
item_in (x ∷ xs) ys zs some e = cc

pub told_item : (es : List Item) (b : LinedBlock) (tail : List (List Item)) → 1 ≤ length b.first → es ++ joined (b.before ++ (((lead_of b ++ b.first) ∷ b.more) ++ tail)) ≡ [] → ⊥
told_item es b tail some e =
    let front : List Item = joined b.before ++ lead_of b in
    let all : es ++ joined (b.before ++ (((lead_of b ++ b.first) ∷ b.more) ++ tail)) ≡ (es ++ front) ++ (b.first ++ (joined b.more ++ joined tail)) =
    ap (λ (ys : List Item). es ++ ys) (lines_joined b tail ∙ ap (λ (ys : List Item). front ++ ys) (append_assoc b.first (joined b.more) (joined tail)))
    ∙ sym (append_assoc es front (b.first ++ (joined b.more ++ joined tail))) in
    item_in (es ++ front) b.first (joined b.more ++ joined tail) some (sym all ∙ e)

-- so where no item is left, no block is, and nothing is behind them
none_behind : (last : TextBlock) (open_tables : List Bool) (es : List Item) (ts : List Told) (rest : List (List Item)) → AreToldAfter last open_tables ts rest
    → es ++ joined (all_lines (map lined ts) rest) ≡ [] → spots_source (spots_by es (map lined ts)) (end_by es (map lined ts) rest) ≡ []
none_behind last open_tables es [] rest h e = ap sources e
none_behind last open_tables es (t ∷ ts) rest h e = absurd (told_item es (lined t) (all_lines (map lined ts) rest) h.1.some e)

closed_here : (t : Told) (open_tables : List Bool) (ts : List Told) (rest : List (List Item)) → AreToldAfter (lined t).block open_tables ts rest
    → EndsClosed (source_of (lined t).block (lined t).text)
    (spots_source (spots_by (ending (own_items (lined t))) (map lined ts)) (end_by (ending (own_items (lined t))) (map lined ts) rest))
    → IsClosed (lined t) (all_lines (map lined ts) rest)
closed_here t open_tables ts rest h c =
    λ e. subst (EndsClosed (source_of (lined t).block (lined t).text)) (none_behind (lined t).block open_tables (ending (own_items (lined t))) ts rest h e) c

told_after : (page : List ℕ) (last : TextBlock) (open_tables : List Bool) (es : List Item) (ts : List Told) (rest : List (List Item)) (xs : List Item)
    → AreRuns goes_on (all_lines (map lined ts) rest) xs → AreThere page xs → EndClosed (spots_by es (map lined ts)) (end_by es (map lined ts) rest)
    → AreToldAfter last open_tables ts rest → AreLinedAfter last open_tables (map lined ts) rest
told_after page last open_tables es [] rest xs runs there c h = h
told_after page last open_tables es (t ∷ ts) rest xs runs there c h =
    let tail : List (List Item) = all_lines (map lined ts) rest in
    let r : Behind page (lined t) tail = behind page (lined t) tail xs runs there in
    let now : List Bool = open_after open_tables (rows_before open_tables t) in
    let left : List Item = ending (own_items (lined t)) in (
      h.0,
      told_at page open_tables t tail r (closed_here t now ts rest h.2 c.0) h.1,
      told_after page (lined t).block now left ts rest (joined tail) r.tail_runs r.tail_there c.1 h.2,
    )

all_told : (page : List ℕ) (ts : List Told) (rest : List (List Item)) (xs : List Item) → AreRuns goes_on (all_lines (map lined ts) rest) xs → AreThere page xs
    → EndClosed (spots_by [] (map lined ts)) (end_by [] (map lined ts) rest) → AreTold ts rest → AreLined (map lined ts) rest
all_told page [] rest xs runs there c h = absurd h
all_told page (t ∷ ts) rest xs runs there c h =
    let tail : List (List Item) = all_lines (map lined ts) rest in
    let r : Behind page (lined t) tail = behind page (lined t) tail xs runs there in
    let now : List Bool = open_after [] (rows_before [] t) in
    let left : List Item = ending (own_items (lined t)) in
    (told_at page [] t tail r (closed_here t now ts rest h.1 c.0) h.0, told_after page (lined t).block now left ts rest (joined tail) r.tail_runs r.tail_there c.1 h.1)

page_there : (page : List ℕ) → AreThere page (page_items page)
page_there page = record {
  at = record { before = []; is = refl };
  own = own_all (page_items page) (page_has_no_calls page);
  breaks = page_breaks page;
}

-- the lines of such a page tell them
pub told_are_lined : (page : List ℕ) (ts : List Told) (rest : List (List Item)) → EndClosed (spots_by [] (map lined ts)) (end_by [] (map lined ts) rest)
    → full_lines (page_items page) ≡ all_lines (map lined ts) rest → AreTold ts rest → AreLined (map lined ts) rest
told_are_lined page ts rest closed are h =
    let xs : List Item = page_items page in
    let runs : AreRuns goes_on (all_lines (map lined ts) rest) xs = subst (λ (ks : List (List Item)). AreRuns goes_on ks xs) are (runs_are goes_on xs) in
    all_told page ts rest xs runs (page_there page) closed h

pub told_lined : (page : List ℕ) (ts : List Told) (rest : List (List Item)) → IsToldPage page ts rest → IsLinedPage page (map lined ts) rest
told_lined page ts rest h =
    let xs : List Item = page_items page in
    let runs : AreRuns goes_on (all_lines (map lined ts) rest) xs = subst (λ (ks : List (List Item)). AreRuns goes_on ks xs) h.are (runs_are goes_on xs) in
    record {
      utf8 = h.utf8;
      calls_nothing = h.calls_nothing;
      ungrouped = h.ungrouped;
      closed = h.closed;
      are = h.are;
      lined = all_told page ts rest xs runs (page_there page) h.closed h.told;
      shut = h.shut;
    }

pub told_called : (pages : Pages) (page : List ℕ) (ts : List Told) (rest : List (List Item)) → IsToldPage page ts rest
    → IsCalledPage pages (spots_by [] (map lined ts)) (end_by [] (map lined ts) rest)
told_called pages page ts rest h = lined_called pages page (map lined ts) rest (told_lined page ts rest h)

-- ---- a heading alone

-- of the lines of a page each is the page's own
pub heading_told : (page : List ℕ) (before : List (List Item)) (marks l : List Item) (behind_it : List (List Item)) (n : ℕ)
    → EndsClosed (sources (content l)) (sources (ending l ++ joined behind_it)) → 1 ≤ length l
    → full_lines (page_items page) ≡ before ++ (marks ++ l) ∷ behind_it → OwnTold (a_heading_on before marks l) n
    → AreHeadingItems (sides_of (content l)) (text_of (content l)) (content l)
heading_told page before marks l behind_it n closed some are h =
    let xs : List Item = page_items page in
    let b : LinedBlock = lined (a_heading_on before marks l) in
    let one : l ++ [] ≡ l = append-nil l in
    let runs : AreRuns goes_on (before ++ (marks ++ l) ∷ behind_it) xs = subst (λ (ks : List (List Item)). AreRuns goes_on ks xs) are (runs_are goes_on xs) in
    let r : Behind page b behind_it = behind page b behind_it xs runs (page_there page) in
    let mine : AllOwn l = own_front l (joined behind_it) (own_back marks (l ++ joined behind_it) (subst AllOwn (append_assoc marks l (joined behind_it)) r.own_there.own)) in
    let there : OwnLined [] b.block n b.text (l ∷ []) =
    own_told page (a_heading_on before marks l) n behind_it (joined ((marks ++ l) ∷ behind_it)) some r.own_runs r.own_there.at r.own_there.own
    r.own_there.breaks
    (λ e. subst (λ (bs : List ℕ). EndsClosed bs []) (sym (told_source n l h mine))
    (subst (EndsClosed (sources (content l))) (ap sources (sym (ap (λ (ys : List Item). ending ys ++ joined behind_it) one) ∙ e)) closed)) h in
    subst (λ (ys : List Item). AreHeadingItems (sides_of (content l)) (text_of (content l)) (content ys)) (append-nil l) there

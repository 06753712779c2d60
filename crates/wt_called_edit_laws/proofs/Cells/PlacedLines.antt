-- Any number of paragraphs and headings of a page by its lines: the page's items are cut at each.
use Rattle.std.proofs.Common.{arith, ◌≡◌, ◌≤◌, ℕ, Bool, true, false, List, [], ◌∷◌, ◌++◌, length, refl, sym, ap, ◌∙◌, subst, append_assoc, length-append}
use Rattle.std.specs.List.{list_all}
use Rattle.std.specs.Str.{IsUtf8}
use Rattle.std.proofs.lemmas.Grind.{flat_map-append}
use Rattle.wt_span.specs.Items.{Item, is_mark, source, sources}
use Rattle.wt_span.specs.Runs.{IsRun, AreRuns}
use Rattle.wt_span.proofs.RunLaws.{runs_are}
use Rattle.wt_lines.specs.Lines.{full_lines, content, empty_end, goes_on}
use Rattle.wt_page.specs.Lines.{ending}
use Rattle.wt_page.proofs.Ends.{content_ending}
use Rattle.wt_tables.specs.Parts.{joined}
use Rattle.wt_page.specs.Rows.{Row, rows_from}
use Rattle.wt_expand.specs.PageItems.{page_items}
use Rattle.wt_expand.specs.Work.{Pages}
use Rattle.wt_expand.proofs.PageLaws.{page_sources}
use Rattle.wt_text_edit_laws.specs.BlockSpots.{spots_source}
use Rattle.wt_text_edit_laws.specs.NoCalls.{CallsNothing}
use Rattle.wt_text_edit_laws.specs.Parts.{HasNoGroups}
use Rattle.wt_text_edit_laws.specs.PageCuts.{EndsThere}
use Rattle.wt_text_edit_laws.specs.ParagraphBetween.{BeginApart}
use Rattle.wt_text_edit_laws.specs.ParagraphParts.{break}
use Rattle.wt_text_edit_laws.specs.SignParts.{IsLedTo}
use Rattle.wt_text_edit_laws.specs.TextBlocks.{TextBlock, a_paragraph, a_heading, source_of}
use Rattle.wt_text_edit_laws.proofs.Cuts.ItemCuts.{HaveBytes, page_from, from_has}
use Rattle.wt_text_edit_laws.proofs.Cuts.TextLines.{runs_behind, runs_before, joined_is, joined_both, lines_of, whole_before, ending_break, IsEnding, ending_own, some_items, ended_bytes}
use Rattle.wt_text_edit_laws.proofs.Paragraphs.LineBlocks.{OwnBreaks, page_breaks}
use Rattle.wt_beside_laws.specs.OpenEnds.{MarksEnd}
use Rattle.wt_beside_laws.proofs.Derived.BlockContents.{block_source}
use Rattle.wt_beside_laws.proofs.Own.OpenEnds.{page_marks, marks_behind}
use Rattle.wt_called_edit_laws.specs.AnyBlocks.{open_after, rows_of_part, NextApart, EndsAfter}
use Rattle.wt_called_edit_laws.specs.CalledPages.{IsCalledPage}
use Rattle.wt_called_edit_laws.specs.PlacedLines.{LinedBlock, lead_of, all_lines, spots_by, end_by, front_rows, OwnLined, LinesApart, AreLinedAfter, AreLined, IsLinedPage}
use Rattle.wt_called_edit_laws.specs.PlacedSpots.{AreFurtherIn, AreBlocksIn, IsPlacedPage}
use Rattle.wt_called_edit_laws.specs.SignLines.{IsSignFor, IsApartFrom}
use Rattle.wt_called_edit_laws.proofs.Cells.PlacedBlocks.{own_first, own_rest, text_last}
use Rattle.wt_called_edit_laws.proofs.Cells.PlacedSpots.{spots_called}
use Rattle.wt_called_edit_laws.proofs.Cells.SignLeads.{rows_by, leads_by, own_block, stays_by, have_front, have_behind, lead_led}

-- ---- line breaks

pub past_end : (ys : List Item) → empty_end ys ≡ [] ∷ [] → empty_end (break ∷ ys) ≡ [] ∷ []
past_end [] e = refl
past_end (y ∷ ys) e = e

pub some_lines : (us : List (List Item)) (m : List Item) (ms : List (List Item)) → (l : List Item) × (ls : List (List Item)) × (us ++ m ∷ ms ≡ l ∷ ls)
some_lines [] m ms = (m, ms, refl)
some_lines (u ∷ us) m ms = (u, us ++ m ∷ ms, refl)

pub lines_end : (last : TextBlock) (n : ℕ) (es : List Item) (ls : List (List Item)) → IsEnding es → ((m : List Item) (ms : List (List Item)) → ls ≡ m ∷ ms → es ≡ break ∷ [])
    → full_lines (joined ls) ≡ ls → LinesApart last n ls → EndsThere (sources (es ++ joined ls)) × EndsAfter last n (es ++ joined ls)
lines_end a_paragraph n [] [] i f are s = (tt, tt)
lines_end a_paragraph n (x ∷ es) [] i f are s =
    (subst (λ (y : Item). EndsThere (sources (y ∷ (es ++ [])))) (sym i.0) refl, text_last n (x ∷ es) i s)
lines_end a_paragraph n es (m ∷ ms) i f are s =
    subst (λ (zs : List Item). EndsThere (sources (zs ++ joined (m ∷ ms))) × EndsAfter a_paragraph n (zs ++ joined (m ∷ ms))) (sym (f m ms refl))
    (refl, (refl, subst (λ (ks : List (List Item)). BeginApart (rows_from n ks)) (sym are) s))
lines_end (a_heading t) n [] [] i f are s = (tt, tt)
lines_end (a_heading t) n (x ∷ es) [] i f are s = (subst (λ (y : Item). EndsThere (sources (y ∷ (es ++ [])))) (sym i.0) refl, i.0)
lines_end (a_heading t) n es (m ∷ ms) i f are s =
    subst (λ (zs : List Item). EndsThere (sources (zs ++ joined (m ∷ ms))) × EndsAfter (a_heading t) n (zs ++ joined (m ∷ ms))) (sym (f m ms refl)) (refl, refl)

-- ---- the parts round a block

-- the items of its lines, behind the marks that begin the first
abbrev pub own_items : LinedBlock → List Item
own_items b = joined (b.first ∷ b.more)

pub record Round (b : LinedBlock) (tail : List (List Item)) : Type 0 where
  pub y : Item
  pub ys : List Item
  pub some : own_items b ≡ y ∷ ys
  pub front_are : full_lines (joined b.before) ≡ b.before
  pub front_whole : empty_end (joined b.before) ≡ [] ∷ []
  pub own_are : full_lines (own_items b) ≡ b.first ∷ b.more
  pub tail_runs : AreRuns goes_on tail (joined tail)
  pub own_ending : IsEnding (ending (own_items b))
  pub ends : (m : List Item) (ms : List (List Item)) → tail ≡ m ∷ ms → ending (own_items b) ≡ break ∷ []
  pub items : joined (b.before ++ (((lead_of b ++ b.first) ∷ b.more) ++ tail))
      ≡ (joined b.before ++ lead_of b) ++ (content (own_items b) ++ (ending (own_items b) ++ joined tail))

pub run_behind : (ms : List Item) (y : Item) (ys others : List Item) → IsRun goes_on (ms ++ y ∷ ys) others → IsRun goes_on (y ∷ ys) others
run_behind [] y ys others h = h
run_behind (m ∷ []) y ys others h = h.1
run_behind (m ∷ n ∷ ms) y ys others h = run_behind (n ∷ ms) y ys others h.1

-- the lines behind the marks that begin the first
runs_unmarked : (ms l : List Item) (rs : List (List Item)) (xs : List Item) → 1 ≤ length l → AreRuns goes_on ((ms ++ l) ∷ rs) xs
    → AreRuns goes_on (l ∷ rs) (joined (l ∷ rs))
runs_unmarked ms [] rs xs some h = absurd (omega (arith, some))
runs_unmarked ms (y ∷ ys) rs xs some h =
    (h.0, ap (λ (zs : List Item). (y ∷ ys) ++ zs) (sym (joined_is goes_on rs h.0 h.3)), run_behind ms y ys h.0 h.2, h.3)

pub lines_joined : (b : LinedBlock) (tail : List (List Item))
    → joined (b.before ++ (((lead_of b ++ b.first) ∷ b.more) ++ tail)) ≡ (joined b.before ++ lead_of b) ++ (own_items b ++ joined tail)
lines_joined b tail =
    let ks : List (List Item) = (lead_of b ++ b.first) ∷ b.more in
    let front : List Item = joined b.before in
    joined_both b.before (ks ++ tail)
    ∙ ap (λ (ys : List Item). front ++ ys) (joined_both ks tail ∙ ap (λ (ys : List Item). ys ++ joined tail) (append_assoc (lead_of b) b.first (joined b.more))
    ∙ append_assoc (lead_of b) (own_items b) (joined tail))
    ∙ sym (append_assoc front (lead_of b) (own_items b ++ joined tail))

pub text_ending : (ps : List Item) (y : Item) (ys : List Item) → ps ≡ y ∷ ys → OwnBreaks ps → empty_end ps ≡ [] ∷ [] → ending ps ≡ break ∷ []
text_ending [] y ys is o e = cc
text_ending (x ∷ ps) y ys is o e = ending_break x ps o e

-- whose line breaks are the page's own
pub round : (b : LinedBlock) (tail : List (List Item)) (xs : List Item) → 1 ≤ length b.first
    → AreRuns goes_on (b.before ++ (((lead_of b ++ b.first) ∷ b.more) ++ tail)) xs → OwnBreaks (own_items b) → Round b tail
round b tail xs seen runs text_breaks =
    let ts : List (List Item) = b.first ∷ b.more in
    let ks : List (List Item) = (lead_of b ++ b.first) ∷ b.more in
    let text : List Item = own_items b in
    let front : List Item = joined b.before ++ lead_of b in
    let last : List Item = joined tail in
    let later : AreRuns goes_on (ts ++ tail) (joined (ts ++ tail)) =
    runs_unmarked (lead_of b) b.first (b.more ++ tail) (joined (ks ++ tail)) seen (runs_behind goes_on b.before (ks ++ tail) xs runs) in
    let own_runs : AreRuns goes_on ts text = runs_before goes_on ts tail (joined (ts ++ tail)) later in
    let some = some_items [] b.first b.more text own_runs in
    record {
      y = some.0;
      ys = some.1;
      some = some.2;
      front_are = lines_of b.before (runs_before goes_on b.before (ks ++ tail) xs runs);
      front_whole = whole_before b.before (lead_of b ++ b.first) (b.more ++ tail) xs runs;
      own_are = lines_of ts own_runs;
      tail_runs = runs_behind goes_on ts tail (joined (ts ++ tail)) later;
      own_ending = ending_own text text_breaks;
      ends = λ m ms e. text_ending text some.0 some.1 some.2 text_breaks
          (whole_before ts m ms (joined (ts ++ m ∷ ms)) (subst (λ (ls : List (List Item)). AreRuns goes_on (ts ++ ls) (joined (ts ++ ls))) e later));
      items = lines_joined b tail ∙ ap (λ (zs : List Item). front ++ (zs ++ last)) (sym (content_ending text))
          ∙ ap (λ (zs : List Item). front ++ zs) (append_assoc (content text) (ending text) last);
    }

-- of a page that calls nothing each line break is its own
pub record AllBreaks (b : LinedBlock) (tail : List (List Item)) : Type 0 where
  pub front : OwnBreaks (joined b.before)
  pub text : OwnBreaks (own_items b)
  pub rest : OwnBreaks (joined tail)

pub all_breaks : (b : LinedBlock) (tail : List (List Item)) (xs : List Item) → AreRuns goes_on (b.before ++ (((lead_of b ++ b.first) ∷ b.more) ++ tail)) xs → OwnBreaks xs
    → AllBreaks b tail
all_breaks b tail xs runs o =
    let front : List Item = joined b.before ++ lead_of b in
    let all : OwnBreaks (front ++ (own_items b ++ joined tail)) =
    subst OwnBreaks (joined_is goes_on (b.before ++ (((lead_of b ++ b.first) ∷ b.more) ++ tail)) xs runs ∙ lines_joined b tail) o in
    let later : OwnBreaks (own_items b ++ joined tail) = own_rest front (own_items b ++ joined tail) all in
    record {
      front = own_first (joined b.before) (lead_of b) (own_first front (own_items b ++ joined tail) all);
      text = own_first (own_items b) (joined tail) later;
      rest = own_rest (own_items b) (joined tail) later;
    }

-- ---- the marks before them

-- items of a page: each mark but the last ends, and each has a byte
abbrev ArePageItems : List Item → Type 0
ArePageItems xs = MarksEnd xs × HaveBytes xs

page_items_are : (page : List ℕ) → ArePageItems (page_items page)
page_items_are page = (page_marks page, subst HaveBytes (sym (page_from page)) (from_has false 0 page))

-- so of what begins the line of a block, of its lines and those behind it
record AreLeadThere (b : LinedBlock) (tail : List (List Item)) : Type 0 where
  ended : MarksEnd (lead_of b ++ (own_items b ++ joined tail))
  full : HaveBytes (lead_of b)
  rest : ArePageItems (joined tail)

lead_there : (b : LinedBlock) (tail : List (List Item)) (xs : List Item) → AreRuns goes_on (b.before ++ (((lead_of b ++ b.first) ∷ b.more) ++ tail)) xs → ArePageItems xs
    → AreLeadThere b tail
lead_there b tail xs runs m =
    let before : List Item = joined b.before in
    let own : List Item = own_items b in
    let more : List Item = own ++ joined tail in
    let all : ArePageItems (before ++ (lead_of b ++ more)) =
    subst ArePageItems (joined_is goes_on (b.before ++ (((lead_of b ++ b.first) ∷ b.more) ++ tail)) xs runs ∙ lines_joined b tail ∙ append_assoc before (lead_of b) more) m in
    let ended : MarksEnd (lead_of b ++ more) = marks_behind before (lead_of b ++ more) all.0 in
    let full : HaveBytes (lead_of b ++ more) = have_behind before (lead_of b ++ more) all.1 in
    record {
      ended = ended;
      full = have_front (lead_of b) more full;
      rest = (marks_behind own (joined tail) (marks_behind (lead_of b) more ended), have_behind own (joined tail) (have_behind (lead_of b) more full));
    }

-- a block is led to by whole lines and what begins its line
led_there : (n : ℕ) (b : LinedBlock) (tail : List (List Item)) (xs : List Item) → OwnBreaks xs → empty_end xs ≡ [] ∷ [] → AreLeadThere b tail
    → IsSignFor b.block n b.before b.sign → IsApartFrom b.sign b.text → list_all is_mark b.marks ≡ true → 1 ≤ length b.first
    → IsLedTo (sources (xs ++ lead_of b)) b.block b.text
led_there n b tail xs breaks whole l sign apart marks some =
    let more : List Item = own_items b ++ joined tail in
    let size : 1 ≤ length more = omega (arith, some, length-append b.first (joined b.more), length-append (own_items b) (joined tail)) in
    subst (λ (bs : List ℕ). IsLedTo bs b.block b.text) (sym (flat_map-append source xs (lead_of b)))
    (lead_led b.block b.text n b.before b.sign b.marks more (sources xs) sign apart marks l.ended l.full size (ended_bytes xs breaks whole))

-- so of a page that calls nothing
pub page_led : (page : List ℕ) (n : ℕ) (b : LinedBlock) (tail : List (List Item))
    → AreRuns goes_on (b.before ++ (((lead_of b ++ b.first) ∷ b.more) ++ tail)) (page_items page) → IsSignFor b.block n b.before b.sign → IsApartFrom b.sign b.text
    → list_all is_mark b.marks ≡ true → 1 ≤ length b.first → IsLedTo (sources (joined b.before ++ lead_of b)) b.block b.text
page_led page n b tail runs sign apart marks some =
    let xs : List Item = page_items page in
    let breaks : AllBreaks b tail = all_breaks b tail xs runs (page_breaks page) in
    let r : Round b tail = round b tail xs some runs breaks.text in
    led_there n b tail (joined b.before) breaks.front r.front_whole (lead_there b tail xs runs (page_items_are page)) sign apart marks some

-- ---- all blocks

further : (last : TextBlock) (bs : List Bool) (ls : List LinedBlock) (behind : List (List Item)) (xs es : List Item) → AreRuns goes_on (all_lines ls behind) xs
    → OwnBreaks xs → ArePageItems xs → IsEnding es → ((m : List Item) (ms : List (List Item)) → all_lines ls behind ≡ m ∷ ms → es ≡ break ∷ []) → AreLinedAfter last bs ls behind
    → AreFurtherIn last bs (spots_by es ls) (end_by es ls behind) (es ++ joined (all_lines ls behind))
further last bs [] behind xs es runs o w i f h =
    lines_end last (length bs) es behind i f (lines_of behind (subst (λ (ys : List Item). AreRuns goes_on behind ys) (joined_is goes_on behind xs runs) runs)) h
further last bs (b ∷ ls) behind xs es runs o w i f h =
    let tail : List (List Item) = all_lines ls behind in
    let lines = some_lines b.before (lead_of b ++ b.first) (b.more ++ tail) in
    let e : es ≡ break ∷ [] = f lines.0 lines.1 lines.2 in
    let breaks : AllBreaks b tail = all_breaks b tail xs runs o in
    let lead : AreLeadThere b tail = lead_there b tail xs runs w in
    let r : Round b tail = round b tail xs h.1.some runs breaks.text in
    let front : List Item = joined b.before ++ lead_of b in
    let own : List Item = content (own_items b) in
    let rest : List Item = ending (own_items b) ++ joined tail in
    let rows : List Row = front_rows (length bs) b in
    let same : rows_of_part bs front ≡ rows = rows_by bs b.block b.before b.sign b.marks h.1.are_marks h.1.sign r.front_are r.front_whole in
    let n : ℕ = length (open_after bs rows) in
    let block = own_block b.block (length bs) b.before b.sign n b.text (b.first ∷ b.more) r.y r.ys r.some r.own_are h.1.sign h.1.own in
    let P : List Item → Type 0 = λ (zs : List Item).
    AreFurtherIn last bs (spots_by zs (b ∷ ls)) (end_by zs (b ∷ ls) behind) (zs ++ joined (all_lines (b ∷ ls) behind)) in
    subst P (sym e) (
      record {
        before = break ∷ front;
        own = own;
        rest = rest;
        is = ap (λ (zs : List Item). break ∷ zs) r.items;
        source = refl;
        block = block.0;
      },
      led_there (length bs) b tail (break ∷ joined b.before) ((λ t. refl), breaks.front) (past_end (joined b.before) r.front_whole) lead h.1.sign h.1.unclosed h.1.are_marks h.1.some,
      refl,
      (refl, subst (NextApart last b.block) (sym same) h.0),
      leads_by b.block bs b.before b.sign b.marks h.1.are_marks h.1.sign r.front_are r.front_whole h.1.in_cells h.1.apart,
      stays_by b.block bs b.before b.sign b.marks own h.1.are_marks h.1.sign r.front_are r.front_whole block.1,
      subst (λ (rs : List Row). AreFurtherIn b.block (open_after bs rs) (spots_by (ending (own_items b)) ls) (end_by (ending (own_items b)) ls behind) rest) (sym same)
          (further b.block (open_after bs rows) ls behind (joined tail) (ending (own_items b)) r.tail_runs breaks.rest lead.rest r.own_ending r.ends h.2),
    )

pub placed : (ls : List LinedBlock) (behind : List (List Item)) (xs : List Item) → page_items (spots_source (spots_by [] ls) (end_by [] ls behind)) ≡ xs
    → full_lines xs ≡ all_lines ls behind → OwnBreaks xs → ArePageItems xs → AreLined ls behind → AreBlocksIn (spots_by [] ls) (end_by [] ls behind)
placed [] behind xs e are o w h = absurd h
placed (b ∷ ls) behind xs e are o w h =
    let tail : List (List Item) = all_lines ls behind in
    let all : List (List Item) = b.before ++ (((lead_of b ++ b.first) ∷ b.more) ++ tail) in
    let runs : AreRuns goes_on all xs = subst (λ (ks : List (List Item)). AreRuns goes_on ks xs) are (runs_are goes_on xs) in
    let breaks : AllBreaks b tail = all_breaks b tail xs runs o in
    let lead : AreLeadThere b tail = lead_there b tail xs runs w in
    let r : Round b tail = round b tail xs h.0.some runs breaks.text in
    let front : List Item = joined b.before ++ lead_of b in
    let own : List Item = content (own_items b) in
    let rest : List Item = ending (own_items b) ++ joined tail in
    let rows : List Row = front_rows 0 b in
    let same : rows_of_part [] front ≡ rows = rows_by [] b.block b.before b.sign b.marks h.0.are_marks h.0.sign r.front_are r.front_whole in
    let block = own_block b.block 0 b.before b.sign (length (open_after [] rows)) b.text (b.first ∷ b.more) r.y r.ys r.some r.own_are h.0.sign h.0.own in (
      record {
        before = front;
        own = own;
        rest = rest;
        is = e ∙ joined_is goes_on all xs runs ∙ r.items;
        source = refl;
        block = block.0;
      },
      led_there 0 b tail (joined b.before) breaks.front r.front_whole lead h.0.sign h.0.unclosed h.0.are_marks h.0.some,
      leads_by b.block [] b.before b.sign b.marks h.0.are_marks h.0.sign r.front_are r.front_whole h.0.in_cells h.0.apart,
      stays_by b.block [] b.before b.sign b.marks own h.0.are_marks h.0.sign r.front_are r.front_whole block.1,
      subst (λ (rs : List Row). AreFurtherIn b.block (open_after [] rs) (spots_by (ending (own_items b)) ls) (end_by (ending (own_items b)) ls behind) rest) (sym same)
          (further b.block (open_after [] rows) ls behind (joined tail) (ending (own_items b)) r.tail_runs breaks.rest lead.rest r.own_ending r.ends h.1),
    )

-- ---- they are the page

pub own_source : (sign : List Item) (k : TextBlock) (n : ℕ) (q : List ℕ) (ts : List (List Item)) → OwnLined sign k n q ts → sources (content (joined ts)) ≡ source_of k q
own_source sign a_paragraph n q ts h = h.2
own_source sign (a_heading s) n q ts h = block_source (a_heading s) q (content (joined ts)) h

joined_source : (b : LinedBlock) (tail : List (List Item)) (es : List Item) (bytes : List ℕ) → sources (content (own_items b)) ≡ source_of b.block b.text
    → bytes ≡ sources (ending (own_items b) ++ joined tail)
    → sources (es ++ (joined b.before ++ lead_of b)) ++ (source_of b.block b.text ++ bytes)
    ≡ sources (es ++ joined (b.before ++ (((lead_of b ++ b.first) ∷ b.more) ++ tail)))
joined_source b tail es bytes own rest =
    let front : List Item = joined b.before ++ lead_of b in
    let text : List Item = own_items b in
    let last : List Item = ending text ++ joined tail in
    let all : joined (b.before ++ (((lead_of b ++ b.first) ∷ b.more) ++ tail)) ≡ front ++ (content text ++ last) =
    lines_joined b tail ∙ ap (λ (zs : List Item). front ++ (zs ++ joined tail)) (sym (content_ending text))
    ∙ ap (λ (zs : List Item). front ++ zs) (append_assoc (content text) (ending text) (joined tail)) in
    ap (λ (bs : List ℕ). sources (es ++ front) ++ (bs ++ bytes)) (sym own)
    ∙ ap (λ (bs : List ℕ). sources (es ++ front) ++ (sources (content text) ++ bs)) rest
    ∙ ap (λ (bs : List ℕ). sources (es ++ front) ++ bs) (sym (flat_map-append source (content text) last))
    ∙ sym (flat_map-append source (es ++ front) (content text ++ last))
    ∙ ap sources (append_assoc es front (content text ++ last)) ∙ ap (λ (zs : List Item). sources (es ++ zs)) (sym all)

further_source : (last : TextBlock) (bs : List Bool) (ls : List LinedBlock) (behind : List (List Item)) (es : List Item) → AreLinedAfter last bs ls behind
    → spots_source (spots_by es ls) (end_by es ls behind) ≡ sources (es ++ joined (all_lines ls behind))
further_source last bs [] behind es h = refl
further_source last bs (b ∷ ls) behind es h =
    let now : List Bool = open_after bs (front_rows (length bs) b) in
    let after : List Item = ending (own_items b) in
    joined_source b (all_lines ls behind) es (spots_source (spots_by after ls) (end_by after ls behind))
    (own_source b.sign b.block (length now) b.text (b.first ∷ b.more) h.1.own) (further_source b.block now ls behind after h.2)

first_source : (ls : List LinedBlock) (behind : List (List Item)) → AreLined ls behind
    → spots_source (spots_by [] ls) (end_by [] ls behind) ≡ sources (joined (all_lines ls behind))
first_source [] behind h = absurd h
first_source (b ∷ ls) behind h =
    let now : List Bool = open_after [] (front_rows 0 b) in
    let after : List Item = ending (own_items b) in
    joined_source b (all_lines ls behind) [] (spots_source (spots_by after ls) (end_by after ls behind))
    (own_source b.sign b.block (length now) b.text (b.first ∷ b.more) h.0.own) (further_source b.block now ls behind after h.1)

pub lined_whole : (page : List ℕ) (ls : List LinedBlock) (behind : List (List Item)) → full_lines (page_items page) ≡ all_lines ls behind → AreLined ls behind
    → spots_source (spots_by [] ls) (end_by [] ls behind) ≡ page
lined_whole page ls behind are h =
    let xs : List Item = page_items page in
    let runs : AreRuns goes_on (all_lines ls behind) xs = subst (λ (ks : List (List Item)). AreRuns goes_on ks xs) are (runs_are goes_on xs) in
    first_source ls behind h ∙ ap sources (sym (joined_is goes_on (all_lines ls behind) xs runs)) ∙ page_sources page

pub lined_in : (page : List ℕ) (ls : List LinedBlock) (behind : List (List Item)) → IsLinedPage page ls behind
    → IsPlacedPage (spots_by [] ls) (end_by [] ls behind)
lined_in page ls behind h =
    let same : spots_source (spots_by [] ls) (end_by [] ls behind) ≡ page = lined_whole page ls behind h.are h.lined in
    record {
      utf8 = subst IsUtf8 (sym same) h.utf8;
      calls_nothing = subst (λ (bs : List ℕ). CallsNothing (page_items bs)) (sym same) h.calls_nothing;
      ungrouped = subst HasNoGroups (sym same) h.ungrouped;
      closed = h.closed;
      blocks = placed ls behind (page_items page) (ap page_items same) h.are (page_breaks page) (page_items_are page) h.lined;
      shut = h.shut;
    }

pub lined_called : (pages : Pages) (page : List ℕ) (ls : List LinedBlock) (behind : List (List Item)) → IsLinedPage page ls behind
    → IsCalledPage pages (spots_by [] ls) (end_by [] ls behind)
lined_called pages page ls behind h = spots_called pages (spots_by [] ls) (end_by [] ls behind) (lined_in page ls behind h)

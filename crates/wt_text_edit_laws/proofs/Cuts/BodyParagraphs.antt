-- A paragraph of the body: its lines are text by themselves, and no other text is beside them.
use Rattle.std.proofs.Common.{arith, ◌≡◌, ℕ, suc, ◌+◌, Bool, true, false, List, [], ◌∷◌, ◌++◌, map, refl, sym, ap, ◌∙◌, subst, append_assoc, cond, All}
use Rattle.std.specs.Prelude.{take}
use Rattle.wt_tree.specs.declared.kind.Kind.TheVariants as kind
use Rattle.wt_span.specs.Items.{Item, is_mark, sources}
use Rattle.wt_span.specs.Runs.{AreRuns}
use Rattle.wt_span.proofs.RunLaws.{runs_are}
use Rattle.wt_blocks.specs.Paragraphs.{is_text}
use Rattle.wt_lines.specs.declared.kind.LineKind.{LineKind}
use Rattle.wt_lines.specs.declared.kind.LineKind.TheVariants as line
use Rattle.wt_lines.specs.Lines.{lines, full_lines, content, empty_end, goes_on}
use Rattle.wt_page.specs.Lines.{ending}
use Rattle.wt_page.proofs.Ends.{content_ending}
use Rattle.wt_tables.specs.Parts.{joined}
use Rattle.wt_inline.specs.ItemTree.{plain, inner, forest}
use Rattle.wt_inline.specs.Parts.{children, Part}
use Rattle.wt_page.specs.Rows.{Row, marks_len, whole_row, rows_from, rows}
use Rattle.wt_page.specs.Texts.{para_parts, para}
use Rattle.wt_part_laws.specs.Blocks.{BeginOtherwise}
use Rattle.wt_expand.specs.PageItems.{page_items}
use Rattle.wt_part_laws.specs.Counts.{opened, ended}
use Rattle.wt_text_edit_laws.specs.BodyParagraphs.{rows_of, AreBare, IsBodyChild, IsBareParagraph, IsParagraphAt}
use Rattle.wt_text_edit_laws.specs.PageCuts.{AreTextItems}
use Rattle.wt_text_edit_laws.specs.ParagraphBetween.{written_rows, tables_behind, rows_of_lines, AreClosed, before_marks, EndApart, EndsApart, BeginApart, EndsParagraph}
use Rattle.wt_text_edit_laws.specs.ParagraphParts.{break, joined_parts, para_with}
use Rattle.wt_text_edit_laws.specs.Paragraphs.{IsTextLine}
use Rattle.wt_text_edit_laws.proofs.Cuts.BodyBlocks.{block_at}
use Rattle.wt_text_edit_laws.proofs.Cuts.BodyChildren.{body_child}
use Rattle.wt_text_edit_laws.proofs.Cuts.RowLines.{text_line, text_lines, whole_text, AllText, tables_count}
use Rattle.wt_text_edit_laws.proofs.Cuts.TextLines.{runs_behind, runs_before, joined_is, joined_both, lines_of, whole_before, no_marks_end, ending_break, IsEnding, ending_own, content_lines, AllUnled, contents_unled, lines_unled, texts_are, some_items, ended_bytes}
use Rattle.wt_text_edit_laws.proofs.Paragraphs.LineBlocks.{OwnBreaks, page_breaks, row_parts}
use Rattle.wt_text_edit_laws.proofs.Paragraphs.SeenLines.{texts_seen}
use Rattle.wt_text_edit_laws.proofs.Texts.PlainRows.{text_row}

-- ---- its lines among those of the page

-- lines before it, its own, the first of which there is, and those behind it
record LinesAt (xs : List Item) (r : Row) (rs : List Row) : Type 0 where
  before : List (List Item)
  first : List Item
  more : List (List Item)
  behind : List (List Item)
  front : List Row
  others : List Row
  are : full_lines xs ≡ before ++ ((first ∷ more) ++ behind)
  rows_are : r ∷ rs ≡ map whole_text (first ∷ more)
  are_text : AllText 0 (first ∷ more)
  closed : tables_behind 0 before ≡ 0
  front_is : written_rows 0 before ≡ front
  apart : EndApart front
  others_are : rows_from 0 behind ≡ others
  stops : BeginOtherwise line.Text others

no_tables : (n : ℕ) (front : List Row) (ls : List (List Item)) → written_rows 0 ls ≡ front → opened front ≡ ended front → tables_behind 0 ls ≡ n → n ≡ 0
no_tables n front ls is even e =
    let count = tables_count ls 0 in
    let o : opened (written_rows 0 ls) ≡ opened front = ap opened is in
    let c : ended (written_rows 0 ls) ≡ ended front = ap ended is in
    omega (arith, count, o, c, even, e)

lines_at : (xs : List Item) (r : Row) (rs : List Row) → IsBareParagraph xs r rs → LinesAt xs r rs
lines_at xs r rs h =
    let b = block_at h.of_body.before r rs h.of_body.behind (rows_from 0 (full_lines xs)) h.of_body.are in
    let front : List Row = rows_of h.of_body.before in
    let t = text_line (full_lines xs) 0 front r (rs ++ b.others) b.is b.texts.0 h.whole in
    let n : ℕ = tables_behind 0 t.before in
    let none : n ≡ 0 = no_tables n front t.before t.front_is b.even refl in
    let u = text_lines rs n t.behind_it b.others b.texts.1 t.rest_is in
    record {
      before = t.before;
      first = t.text;
      more = u.texts;
      behind = u.behind_them;
      front = front;
      others = b.others;
      are = t.are ∙ ap (λ (ms : List (List Item)). t.before ++ t.text ∷ ms) u.are;
      rows_are = ap (λ (x : Row). x ∷ rs) t.row_is ∙ ap (λ (ys : List Row). whole_row line.Text (marks_len t.text) t.text ∷ ys) u.rows_are;
      are_text = subst (λ (m : ℕ). AllText m (t.text ∷ u.texts)) none (t.is_text, u.are_text);
      closed = none;
      front_is = t.front_is;
      apart = b.apart;
      others_are = sym (ap (λ (m : ℕ). rows_from m u.behind_them) none) ∙ u.rest_is;
      stops = b.stops;
    }

-- ---- no mark leads them

none_led : (l : List Item) → take (marks_len l) l ≡ [] → marks_len l ≡ 0
none_led [] e = refl
none_led (x ∷ xs) e = by (is_mark x) e
  where
    by : (v : Bool) → take (cond v (1 + marks_len xs) 0) (x ∷ xs) ≡ [] → cond v (1 + marks_len xs) 0 ≡ 0
    by true f =
        let z : 1 + marks_len xs ≡ suc (marks_len xs) = omega arith in
        let no : x ∷ take (marks_len xs) xs ≡ [] = sym (ap (λ (n : ℕ). take n (x ∷ xs)) z) ∙ f in cc
    by false f = refl

all_unled : (ls : List (List Item)) → AreBare (map whole_text ls) → AllUnled ls
all_unled [] h = tt
all_unled (l ∷ ls) h = (none_led l h.0, all_unled ls h.1)

row_is : (l : List Item) → marks_len l ≡ 0 → whole_text l ≡ text_row l
row_is [] e = refl
row_is (x ∷ xs) e = ap (λ (n : ℕ). whole_row line.Text n (x ∷ xs)) e

rows_plain : (ls : List (List Item)) → AllUnled ls → map whole_text ls ≡ map text_row ls
rows_plain [] h = refl
rows_plain (l ∷ ls) h = ap (λ (x : Row). x ∷ map whole_text ls) (row_is l h.0) ∙ ap (λ (ys : List Row). text_row l ∷ ys) (rows_plain ls h.1)

-- ---- its items

own_first : (xs ys : List Item) → OwnBreaks (xs ++ ys) → OwnBreaks xs
own_first [] ys h = tt
own_first (x ∷ xs) ys h = (h.0, own_first xs ys h.1)

own_rest : (xs ys : List Item) → OwnBreaks (xs ++ ys) → OwnBreaks ys
own_rest [] ys h = h
own_rest (x ∷ xs) ys h = own_rest xs ys h.1

record OwnText (ps : List Item) (ts : List (List Item)) : Type 0 where
  text : AreTextItems (sources (content ps)) (content ps)
  are_text : All IsTextLine (lines (content ps))
  lines_are : lines (content ps) ≡ map content ts

-- text that isn't empty
text_of : (x : Item) (ps : List Item) (ts : List (List Item)) → full_lines (x ∷ ps) ≡ ts → AllText 0 ts → AllUnled ts → OwnText (x ∷ ps) ts
text_of x ps ts e t u =
    let own : lines (content (x ∷ ps)) ≡ map content ts = content_lines x ps ∙ ap (map content) e in
    let texts : All IsTextLine (lines (content (x ∷ ps))) = subst (λ (ls : List (List Item)). All IsTextLine ls) (sym own) (texts_are ts t) in
    record {
      text = record {
        source = refl;
        seen = texts_seen 0 (lines (content (x ∷ ps))) texts;
        unled = lines_unled (content (x ∷ ps)) (subst AllUnled (sym own) (contents_unled ts u));
      };
      are_text = texts;
      lines_are = own;
    }

own_text : (ps : List Item) (ts : List (List Item)) (y : Item) (ys : List Item) → ps ≡ y ∷ ys → full_lines ps ≡ ts → AllText 0 ts → AllUnled ts → OwnText ps ts
own_text [] ts y ys is e t u = cc
own_text (x ∷ ps) ts y ys is e t u = text_of x ps ts e t u

-- ---- what is beside it

before_apart : (ls : List (List Item)) (front : List Row) → full_lines (joined ls) ≡ ls → empty_end (joined ls) ≡ [] ∷ [] → tables_behind 0 ls ≡ 0
    → written_rows 0 ls ≡ front → EndApart front → EndsApart (joined ls)
before_apart ls front are whole closed is apart =
    let same : before_marks (joined ls) ≡ joined ls = no_marks_end (joined ls) whole in
    record {
      are_closed = subst AreClosed (sym same) (record { whole = whole; closed = ap (tables_behind 0) are ∙ closed });
      apart = subst EndApart (sym (ap rows_of_lines same ∙ ap (written_rows 0) are ∙ is)) apart;
    }

not_text : (k : LineKind) → (k ≡ line.Text → ⊥) → is_text k ≡ false
not_text line.Blank h = refl
not_text line.TableOpen h = refl
not_text line.TableEnd h = refl
not_text line.Caption h = refl
not_text line.Row h = refl
not_text line.Cell h = refl
not_text line.Header h = refl
not_text line.Heading h = refl
not_text line.Rule h = refl
not_text line.List h = refl
not_text line.Pre h = refl
not_text line.Text h = absurd (h refl)

begin_apart : (rs : List Row) → BeginOtherwise line.Text rs → BeginApart rs
begin_apart [] h = tt
begin_apart (r ∷ rs) h = not_text r.kind h

nothing_begins : BeginApart (rows [])
unfolding rows
nothing_begins = tt

rows_are : (xs : List Item) → rows xs ≡ rows_from 0 (full_lines xs)
unfolding rows
rows_are xs = refl

end_by : (es : List Item) → IsEnding es → EndsParagraph (es ++ [])
end_by [] h = tt
end_by (x ∷ es) h = (h.0, subst (λ (ys : List Item). BeginApart (rows (ys ++ []))) (sym h.1) nothing_begins)

behind_text : (ps : List Item) (y : Item) (ys : List Item) (ls : List (List Item)) (others : List Row) → ps ≡ y ∷ ys → OwnBreaks ps
    → (m : List Item) (ms : List (List Item)) → ls ≡ m ∷ ms → empty_end ps ≡ [] ∷ [] → full_lines (joined ls) ≡ ls → rows_from 0 ls ≡ others
    → BeginOtherwise line.Text others → EndsParagraph (ending ps ++ joined ls)
behind_text [] y ys ls others is o m ms e whole are r h = cc
behind_text (x ∷ ps) y ys ls others is o m ms e whole are r h =
    let own : ending (x ∷ ps) ≡ break ∷ [] = ending_break x ps o whole in
    let begins : BeginApart (rows (joined ls)) = subst BeginApart (sym (rows_are (joined ls) ∙ ap (rows_from 0) are ∙ r)) (begin_apart others h) in
    subst (λ (es : List Item). EndsParagraph (es ++ joined ls)) (sym own) (refl, begins)

ends_so : (ps : List Item) (y : Item) (ys : List Item) (ls : List (List Item)) (others : List Row) → ps ≡ y ∷ ys → OwnBreaks ps
    → ((m : List Item) (ms : List (List Item)) → ls ≡ m ∷ ms → empty_end ps ≡ [] ∷ []) → full_lines (joined ls) ≡ ls → rows_from 0 ls ≡ others
    → BeginOtherwise line.Text others → EndsParagraph (ending ps ++ joined ls)
ends_so ps y ys [] others is o f are r h = end_by (ending ps) (ending_own ps o)
ends_so ps y ys (m ∷ ms) others is o f are r h = behind_text ps y ys (m ∷ ms) others is o m ms refl (f m ms refl) are r h

-- ---- so it is at its place

para_is : (rs : List Row) (ps : List Part) → para_parts rs ≡ ps → para rs ≡ para_with ps
unfolding para
para_is rs ps e = ap (λ (qs : List Part). inner (plain kind.Para) [] (forest (children qs)) []) e

placed : (xs : List Item) (r : Row) (rs : List Row) → OwnBreaks xs → LinesAt xs r rs → AreBare (r ∷ rs) → IsBodyChild xs (para (r ∷ rs)) → IsParagraphAt xs r rs
placed xs r rs o l bare child =
    let ts : List (List Item) = l.first ∷ l.more in
    let text : List Item = joined ts in
    let own : List Item = content text in
    let front : List Item = joined l.before in
    let last : List Item = joined l.behind in
    let runs : AreRuns goes_on (l.before ++ (ts ++ l.behind)) xs = subst (λ (ls : List (List Item)). AreRuns goes_on ls xs) l.are (runs_are goes_on xs) in
    let later : AreRuns goes_on (ts ++ l.behind) (joined (ts ++ l.behind)) = runs_behind goes_on l.before (ts ++ l.behind) xs runs in
    let own_runs : AreRuns goes_on ts text = runs_before goes_on ts l.behind (joined (ts ++ l.behind)) later in
    let unled : AllUnled ts = all_unled ts (subst AreBare l.rows_are bare) in
    let items : xs ≡ front ++ (text ++ last) =
    joined_is goes_on (l.before ++ (ts ++ l.behind)) xs runs ∙ joined_both l.before (ts ++ l.behind) ∙ ap (λ (ys : List Item). front ++ ys) (joined_both ts l.behind) in
    let some = some_items [] l.first l.more text own_runs in
    let told = own_text text ts some.0 some.1 some.2 (lines_of ts own_runs) l.are_text unled in
    let breaks : OwnBreaks text = own_first text last (own_rest front (text ++ last) (subst OwnBreaks items o)) in
    record {
      before = front;
      own = own;
      rest = ending text ++ last;
      is = items ∙ ap (λ (ys : List Item). front ++ (ys ++ last)) (sym (content_ending text)) ∙ ap (λ (ys : List Item). front ++ ys) (append_assoc own (ending text) last);
      text = told.text;
      lines_are = told.are_text;
      tree = para_is (r ∷ rs) (joined_parts (lines own))
          (ap para_parts (l.rows_are ∙ rows_plain ts unled) ∙ row_parts ts text own_runs breaks ∙ ap joined_parts (sym told.lines_are));
      child = child;
      ended = ended_bytes front (own_first front (text ++ last) (subst OwnBreaks items o)) (whole_before l.before l.first (l.more ++ l.behind) xs runs);
      apart = before_apart l.before l.front (lines_of l.before (runs_before goes_on l.before (ts ++ l.behind) xs runs))
          (whole_before l.before l.first (l.more ++ l.behind) xs runs) l.closed l.front_is l.apart;
      ends = ends_so text some.0 some.1 l.behind l.others some.2 breaks (λ m ms e.
          whole_before ts m ms (joined (ts ++ m ∷ ms)) (subst (λ (ls : List (List Item)). AreRuns goes_on (ts ++ ls) (joined (ts ++ ls))) e later))
          (lines_of l.behind (runs_behind goes_on ts l.behind (joined (ts ++ l.behind)) later)) l.others_are l.stops;
    }

pub paragraph_at : (xs : List Item) (r : Row) (rs : List Row) → OwnBreaks xs → IsBareParagraph xs r rs → IsParagraphAt xs r rs
paragraph_at xs r rs o h = placed xs r rs o (lines_at xs r rs h) h.bare (body_child xs r rs h.of_body)

pub page_paragraph_at : (page : List ℕ) (r : Row) (rs : List Row) → IsBareParagraph (page_items page) r rs → IsParagraphAt (page_items page) r rs
page_paragraph_at page r rs h = paragraph_at (page_items page) r rs (page_breaks page) h

-- Each paragraph and each heading of a page's tree, outside of groups, is of the expanded page's lines, or it begins behind a sign on a line.
use Rattle.std.proofs.Common.{arith, ◌≡◌, inl, inr, ℕ, zero, suc, ◌+◌, Bool, true, false, None, List, [], ◌∷◌, ◌++◌, take, drop, map, refl, sym, ap, ap₂, ◌∙◌, subst, append-nil, append_assoc}
use Rattle.std.specs.Prelude.{replicate, if◌then◌else◌}
use Rattle.std.specs.Str.{IsUtf8}
use Rattle.wt_tree.specs.Tree.{Tree, label}
use Rattle.wt_span.specs.Items.{Item}
use Rattle.wt_inline.specs.ItemTree.{ItemTree}
use Rattle.wt_expand.specs.PageCalls.{expanded_page}
use Rattle.wt_expand.specs.Work.{Pages}
use Rattle.wt_commands.specs.Answers.{refusal_of_page}
use Rattle.wt_lines.specs.declared.kind.LineKind.{LineKind}
use Rattle.wt_lines.specs.declared.kind.LineKind.TheVariants as line
use Rattle.wt_lines.specs.Lines.{full_lines}
use Rattle.wt_blocks.specs.Paragraphs.{is_text}
use Rattle.wt_tables.specs.Extents.{behind}
use Rattle.wt_tables.specs.Parts.{joined}
use Rattle.wt_page.specs.Headings.{heading}
use Rattle.wt_page.specs.Lines.{kind_at}
use Rattle.wt_page.specs.Rows.{Row, all_items, marks_len, idle_len, dashes, is_unseen, behind_sign, sign_row, whole_row, line_rows, unwritten_end, rows_from}
use Rattle.wt_page.specs.Texts.{para}
use Rattle.wt_page.proofs.HeldRows.{unwritten, from_lines}
use Rattle.wt_part_laws.specs.Blocks.{AllAre, BeginOtherwise}
use Rattle.wt_part_laws.specs.Rounds.{EndOtherwise}
use Rattle.wt_part_laws.specs.Slots.{open_behind, AllTrue}
use Rattle.wt_text_edit_laws.specs.ParagraphBetween.{written_rows, tables_behind, EndApart, BeginApart}
use Rattle.wt_text_edit_laws.proofs.Cuts.RowLines.{AllText, TextLine, TextLines, text_lines}
use Rattle.wt_called_edit_laws.specs.AnyBlocks.{open_after}
use Rattle.wt_called_edit_laws.specs.Groups.{called_tree}
use Rattle.wt_called_edit_laws.specs.RowBlocks.{IsTextBlock, IsReachedAt, begins_behind, begins_at, text_row, end_sign, past_end, rule_len, rule_sign, past_rule, begins_past, AreOfText, IsOfRows, of_text, of_heading, StandsOnRows, IsOfLines, of_lines, of_line, behind_an_end, behind_a_rule, StandsOnLines}
use Rattle.wt_called_edit_laws.proofs.AllTold.Found.{size}
use Rattle.wt_called_edit_laws.proofs.AllTold.FoundTables.{width, width_both}
use Rattle.wt_called_edit_laws.proofs.AllTold.LineKinds.{Lines}
use Rattle.wt_called_edit_laws.proofs.AllTold.Opens.{open_both}
use Rattle.wt_called_edit_laws.proofs.AllTold.RowBlocks.{block_on_rows}
use Rattle.wt_called_edit_laws.proofs.AllTold.SignLines.{SignShape, an_end, a_rule, SignedLine, IsOnLine, row_line}

-- ---- rows beside

no_text : (k : LineKind) → (k ≡ line.Text → ⊥) → is_text k ≡ false
no_text line.Text h = absurd (h refl)
no_text k h = refl

end_apart : (rs : List Row) → EndOtherwise line.Text rs → EndApart rs
end_apart [] h = tt
end_apart (r ∷ []) h = no_text r.kind h
end_apart (r ∷ s ∷ rs) h = end_apart (s ∷ rs) h

begin_apart : (rs : List Row) → BeginOtherwise line.Text rs → BeginApart rs
begin_apart [] h = tt
begin_apart (r ∷ rs) h = no_text r.kind h

-- ---- as many bytes as the lines have

rows_split : (n : ℕ) (ls : Lines) → rows_from n ls ≡ written_rows n ls ++ replicate (tables_behind n ls) unwritten_end
rows_split n [] = refl
rows_split n (l ∷ ls) =
    let k : LineKind = kind_at n l in
    ap (λ (rs : List Row). line_rows k l ++ rs) (rows_split (behind n k) ls)
    ∙ sym (append_assoc (line_rows k l) (written_rows (behind n k) ls) (replicate (tables_behind (behind n k) ls) unwritten_end))

written_size : (n : ℕ) (ls : Lines) → width (written_rows n ls) ≡ size (joined ls)
written_size n ls =
    let ends : List Row = replicate (tables_behind n ls) unwritten_end in
    omega (arith, ap width (rows_split n ls), width_both (written_rows n ls) ends, ap size (unwritten (tables_behind n ls)), ap size (from_lines n ls))

-- ---- rows of text

all_of_text : (n : ℕ) (ls : Lines) → AllText n ls → AreOfText n ls
all_of_text n [] h = tt
all_of_text n (l ∷ ls) h = (h.0, all_of_text n ls h.1)

text_of_lines : (ls : Lines) (at : ℕ) (u : ItemTree) (before : List Row) (first : Row) (others after : List Row)
    → AllTrue (open_after [] before) → EndOtherwise line.Text before → AllAre line.Text others → BeginOtherwise line.Text after → at ≡ begins_behind before first
    → u ≡ para (first ∷ others) → TextLine 0 ls before first (others ++ after) → IsOfLines ls at u
text_of_lines ls at u before first others after c b a o begins is t =
    let n : ℕ = tables_behind 0 t.before in
    let m : TextLines n t.behind_it others after = text_lines others n t.behind_it after a t.rest_is in
    let rows_are : first ∷ others ≡ map text_row (t.text ∷ m.texts) = ap₂ (λ (x : Row) (xs : List Row). x ∷ xs) t.row_is m.rows_are in
    let z : at ≡ begins_at t.before t.text =
    omega (arith, begins, ap width t.front_is, written_size 0 t.before, ap (λ (r : Row). size r.lead) t.row_is) in
    of_lines t.before t.text m.texts m.behind_them
    (t.are ∙ ap (λ (ms : Lines). t.before ++ t.text ∷ ms) m.are)
    (subst (λ (rs : List Row). AllTrue (open_after [] rs)) (sym t.front_is) c)
    (subst EndApart (sym t.front_is) (end_apart before b))
    (t.is_text, all_of_text n m.texts m.are_text)
    (subst BeginApart (sym m.rest_is) (begin_apart after o))
    z (is ∙ ap para rows_are)

-- ---- text behind a sign

-- the sign's row is the items of the sign
sign_items : (k : LineKind) (lead len : ℕ) (l : List Item) → all_items (sign_row k lead len l [] ∷ []) ≡ take lead l ++ take len (drop lead l)
sign_items k lead len l =
    append-nil (take lead l ++ (take len (drop lead l) ++ [])) ∙ ap (λ (xs : List Item). take lead l ++ xs) (append-nil (take len (drop lead l)))

-- the rows of its lines, up to and with the sign's
signed_size : (ls : Lines) (x : Row) (front : List Row) → written_rows 0 ls ++ x ∷ [] ≡ front → width front ≡ size (joined ls) + size (all_items (x ∷ []))
signed_size ls x front e = omega (arith, ap width (sym e), width_both (written_rows 0 ls) (x ∷ []), written_size 0 ls)

signed_cells : (ls : Lines) (x : Row) (k : LineKind) (front : List Row) → written_rows 0 ls ++ x ∷ [] ≡ front → x.kind ≡ k → AllTrue (open_after [] front)
    → AllTrue (open_behind (open_after [] (written_rows 0 ls)) k)
signed_cells ls x k front e f h =
    subst (λ (j : LineKind). AllTrue (open_behind (open_after [] (written_rows 0 ls)) j)) f
    (subst AllTrue (open_both [] (written_rows 0 ls) (x ∷ [])) (subst (λ (rs : List Row). AllTrue (open_after [] rs)) (sym e) h))

signed_lines : (ls : Lines) (at : ℕ) (u : ItemTree) (before : List Row) (first : Row) (others after : List Row)
    → AllTrue (open_after [] before) → AllAre line.Text others → BeginOtherwise line.Text after → at ≡ begins_behind before first
    → u ≡ para (first ∷ others) → (t : SignedLine 0 ls before first (others ++ after)) → SignShape (kind_at (tables_behind 0 t.before) t.own) t.own t.sign first
    → IsOfLines ls at u
signed_lines ls at u before first others after c a o begins is t (an_end k seen x y) =
    let n : ℕ = behind (tables_behind 0 t.before) line.TableEnd in
    let rest : rows_from n t.behind_it ≡ others ++ after =
    sym (ap (λ (j : LineKind). rows_from (behind (tables_behind 0 t.before) j) t.behind_it) k) ∙ t.rest_is in
    let m : TextLines n t.behind_it others after = text_lines others n t.behind_it after a rest in
    let rows_are : first ∷ others ≡ map text_row (past_end t.own ∷ m.texts) = ap₂ (λ (r : Row) (rs : List Row). r ∷ rs) y m.rows_are in
    let sign_size : size (all_items (t.sign ∷ [])) ≡ size (end_sign t.own) =
    ap (λ (r : Row). size (all_items (r ∷ []))) x ∙ ap size (sign_items line.TableEnd (idle_len t.own) 2 t.own) in
    let z : at ≡ begins_past t.before (end_sign t.own) (past_end t.own) =
    omega (arith, begins, signed_size t.before t.sign before t.front_is, sign_size, ap (λ (r : Row). size r.lead) y) in
    behind_an_end t.before t.own m.texts m.behind_them
    (t.are ∙ ap (λ (ms : Lines). t.before ++ t.own ∷ ms) m.are) k seen
    (signed_cells t.before t.sign line.TableEnd before t.front_is (ap (λ (r : Row). r.kind) x) c)
    (all_of_text n m.texts m.are_text)
    (subst BeginApart (sym m.rest_is) (begin_apart after o))
    z (is ∙ ap para rows_are)
signed_lines ls at u before first others after c a o begins is t (a_rule k seen x y) =
    let n : ℕ = tables_behind 0 t.before in
    let rest : rows_from n t.behind_it ≡ others ++ after =
    sym (ap (λ (j : LineKind). rows_from (behind n j) t.behind_it) k) ∙ t.rest_is in
    let m : TextLines n t.behind_it others after = text_lines others n t.behind_it after a rest in
    let rows_are : first ∷ others ≡ map text_row (past_rule t.own ∷ m.texts) = ap₂ (λ (r : Row) (rs : List Row). r ∷ rs) y m.rows_are in
    let sign_size : size (all_items (t.sign ∷ [])) ≡ size (rule_sign t.own) =
    ap (λ (r : Row). size (all_items (r ∷ []))) x ∙ ap size (sign_items line.Rule (marks_len t.own) (rule_len t.own) t.own) in
    let z : at ≡ begins_past t.before (rule_sign t.own) (past_rule t.own) =
    omega (arith, begins, signed_size t.before t.sign before t.front_is, sign_size, ap (λ (r : Row). size r.lead) y) in
    behind_a_rule t.before t.own m.texts m.behind_them
    (t.are ∙ ap (λ (ms : Lines). t.before ++ t.own ∷ ms) m.are) k seen
    (signed_cells t.before t.sign line.Rule before t.front_is (ap (λ (r : Row). r.kind) x) c)
    (all_of_text n m.texts m.are_text)
    (subst BeginApart (sym m.rest_is) (begin_apart after o))
    z (is ∙ ap para rows_are)

-- ---- a heading's row

first_or : Row → List Row → Row
first_or r [] = r
first_or r (s ∷ rs) = s

rest_of : List Row → List Row
rest_of [] = []
rest_of (s ∷ rs) = rs

-- the rows of a line: one, or two of which the second is text
data RowsOn (k : LineKind) (l : List Item) (rs : List Row) : Type 0 where
  one : (x : Row) → x.kind ≡ k → (k ≡ line.Heading → x ≡ whole_row line.Heading (marks_len l) l) → rs ≡ x ∷ [] → RowsOn k l rs
  two : (x y : Row) → x.kind ≡ k → (k ≡ line.Heading → ⊥) → y.kind ≡ line.Text → rs ≡ x ∷ y ∷ [] → RowsOn k l rs

signs_on : (v : Bool) (k : LineKind) (l : List Item) (x z y : Row) → x.kind ≡ k → z.kind ≡ k → (k ≡ line.Heading → ⊥) → y.kind ≡ line.Text
    → RowsOn k l (if v then x ∷ [] else z ∷ y ∷ [])
signs_on true k l x z y e f nay g = one x e (λ h. absurd (nay h)) refl
signs_on false k l x z y e f nay g = two z y f nay g refl

rows_on : (k : LineKind) (l : List Item) → RowsOn k l (line_rows k l)
rows_on line.Blank l = one (record { kind = line.Blank; lead = []; items = l; ending = [] }) refl (λ e. absurd (cc)) refl
rows_on line.TableOpen l = one (whole_row line.TableOpen (idle_len l) l) refl (λ e. absurd (cc)) refl
rows_on line.TableEnd l =
    let n : ℕ = idle_len l in
    let rest : List Item = behind_sign n 2 l in
    signs_on (is_unseen rest) line.TableEnd l (sign_row line.TableEnd n 2 l rest) (sign_row line.TableEnd n 2 l []) (whole_row line.Text (marks_len rest) rest) refl refl
    (λ e. absurd (cc)) refl
rows_on line.Caption l = one (whole_row line.Caption (idle_len l) l) refl (λ e. absurd (cc)) refl
rows_on line.Row l = one (whole_row line.Row (idle_len l) l) refl (λ e. absurd (cc)) refl
rows_on line.Cell l = one (whole_row line.Cell (idle_len l) l) refl (λ e. absurd (cc)) refl
rows_on line.Header l = one (whole_row line.Header (idle_len l) l) refl (λ e. absurd (cc)) refl
rows_on line.Heading l = one (whole_row line.Heading (marks_len l) l) refl (λ e. refl) refl
rows_on line.Rule l =
    let n : ℕ = marks_len l in
    let m : ℕ = dashes (drop n l) in
    let rest : List Item = behind_sign n m l in
    signs_on (is_unseen rest) line.Rule l (sign_row line.Rule n m l rest) (sign_row line.Rule n m l []) (whole_row line.Text (marks_len rest) rest) refl refl
    (λ e. absurd (cc)) refl
rows_on line.List l = one (whole_row line.List (marks_len l) l) refl (λ e. absurd (cc)) refl
rows_on line.Pre l = one (whole_row line.Pre (marks_len l) l) refl (λ e. absurd (cc)) refl
rows_on line.Text l = one (whole_row line.Text (marks_len l) l) refl (λ e. absurd (cc)) refl

record HeadLine (n : ℕ) (ls : Lines) (front : List Row) (r : Row) : Type 0 where
  before : Lines
  own : List Item
  after : Lines
  are : ls ≡ before ++ own ∷ after
  front_is : written_rows n before ≡ front
  row_is : r ≡ whole_row line.Heading (marks_len own) own
  kind_is : kind_at (tables_behind n before) own ≡ line.Heading

none_unwritten : (n : ℕ) (front : List Row) (r : Row) (ss : List Row) → replicate n unwritten_end ≡ front ++ r ∷ ss → r.kind ≡ line.Heading → ⊥
unfolding first_or rest_of
none_unwritten zero [] r ss e k = absurd (cc)
none_unwritten zero (p ∷ front) r ss e k = absurd (cc)
none_unwritten (suc n) [] r ss e k =
    let is : unwritten_end ≡ r = ap (first_or r) e in
    let z : line.TableEnd ≡ line.Heading = ap (λ (x : Row). x.kind) is ∙ k in absurd (cc)
none_unwritten (suc n) (p ∷ front) r ss e k = none_unwritten n front r ss (ap rest_of e) k

-- such a row among those of some lines
abbrev Next : ℕ → Lines → Row → List Row → Type 0
Next n ls r ss = (front : List Row) → rows_from n ls ≡ front ++ r ∷ ss → HeadLine n ls front r

head_by : (l : List Item) (ls : Lines) (n : ℕ) (front : List Row) (r : Row) (ss : List Row) → r.kind ≡ line.Heading → Next (behind n (kind_at n l)) ls r ss → RowsOn (kind_at n l) l (line_rows (kind_at n l) l)
    → line_rows (kind_at n l) l ++ rows_from (behind n (kind_at n l)) ls ≡ front ++ r ∷ ss → HeadLine n (l ∷ ls) front r
unfolding first_or rest_of
head_by l ls n [] r ss k go (one x xk xh is) e =
    let more : List Row = rows_from (behind n (kind_at n l)) ls in
    let all : x ∷ more ≡ r ∷ ss = sym (ap (λ (own : List Row). own ++ more) is) ∙ e in
    let first : x ≡ r = ap (first_or x) all in
    let own : kind_at n l ≡ line.Heading = sym xk ∙ ap (λ (y : Row). y.kind) first ∙ k in
    record { before = []; own = l; after = ls; are = refl; front_is = refl; row_is = sym first ∙ xh own; kind_is = own }
head_by l ls n (p ∷ front) r ss k go (one x xk xh is) e =
    let next : ℕ = behind n (kind_at n l) in
    let more : List Row = rows_from next ls in
    let all : x ∷ more ≡ p ∷ (front ++ r ∷ ss) = sym (ap (λ (own : List Row). own ++ more) is) ∙ e in
    let first : x ≡ p = ap (first_or x) all in
    let t : HeadLine next ls front r = go front (ap rest_of all) in
    record {
      before = l ∷ t.before;
      own = t.own;
      after = t.after;
      are = ap (λ (ms : Lines). l ∷ ms) t.are;
      front_is = ap (λ (own : List Row). own ++ written_rows next t.before) is ∙ ap₂ (λ (y : Row) (zs : List Row). y ∷ zs) first t.front_is;
      row_is = t.row_is;
      kind_is = t.kind_is;
    }
head_by l ls n [] r ss k go (two x y xk nay yk is) e =
    let more : List Row = rows_from (behind n (kind_at n l)) ls in
    let all : x ∷ y ∷ more ≡ r ∷ ss = sym (ap (λ (own : List Row). own ++ more) is) ∙ e in
    let first : x ≡ r = ap (first_or x) all in
    absurd (nay (sym xk ∙ ap (λ (z : Row). z.kind) first ∙ k))
head_by l ls n (p ∷ []) r ss k go (two x y xk nay yk is) e =
    let more : List Row = rows_from (behind n (kind_at n l)) ls in
    let all : x ∷ y ∷ more ≡ p ∷ r ∷ ss = sym (ap (λ (own : List Row). own ++ more) is) ∙ e in
    let second : y ≡ r = ap (first_or y) (ap rest_of all) in
    let z : line.Text ≡ line.Heading = sym yk ∙ ap (λ (z : Row). z.kind) second ∙ k in absurd (cc)
head_by l ls n (p ∷ q ∷ front) r ss k go (two x y xk nay yk is) e =
    let next : ℕ = behind n (kind_at n l) in
    let more : List Row = rows_from next ls in
    let all : x ∷ y ∷ more ≡ p ∷ q ∷ (front ++ r ∷ ss) = sym (ap (λ (own : List Row). own ++ more) is) ∙ e in
    let rest : y ∷ more ≡ q ∷ (front ++ r ∷ ss) = ap rest_of all in
    let first : x ≡ p = ap (first_or x) all in
    let second : y ≡ q = ap (first_or y) rest in
    let t : HeadLine next ls front r = go front (ap rest_of rest) in
    record {
      before = l ∷ t.before;
      own = t.own;
      after = t.after;
      are = ap (λ (ms : Lines). l ∷ ms) t.are;
      front_is = ap (λ (own : List Row). own ++ written_rows next t.before) is
          ∙ ap₂ (λ (a : Row) (zs : List Row). a ∷ zs) first (ap₂ (λ (b : Row) (zs : List Row). b ∷ zs) second t.front_is);
      row_is = t.row_is;
      kind_is = t.kind_is;
    }

head_line : (ls : Lines) (n : ℕ) (front : List Row) (r : Row) (ss : List Row) → rows_from n ls ≡ front ++ r ∷ ss → r.kind ≡ line.Heading → HeadLine n ls front r
head_line [] n front r ss e k = absurd (none_unwritten n front r ss e k)
head_line (l ∷ ls) n front r ss e k = head_by l ls n front r ss k (λ f g. head_line ls (behind n (kind_at n l)) f r ss g k) (rows_on (kind_at n l) l) e

head_of_line : (ls : Lines) (at : ℕ) (u : ItemTree) (before : List Row) (r : Row) (after : List Row) → rows_from 0 ls ≡ before ++ r ∷ after
    → AllTrue (open_after [] before) → r.kind ≡ line.Heading → at ≡ begins_behind before r → u ≡ heading r.items → IsOfLines ls at u
head_of_line ls at u before r after e c k begins is =
    let t : HeadLine 0 ls before r = head_line ls 0 before r after e k in
    let z : at ≡ begins_at t.before t.own =
    omega (arith, begins, ap width t.front_is, written_size 0 t.before, ap (λ (x : Row). size x.lead) t.row_is) in
    of_line t.before t.own t.after t.are (subst (λ (rs : List Row). AllTrue (open_after [] rs)) (sym t.front_is) c) t.kind_is z
    (is ∙ ap (λ (x : Row). heading x.items) t.row_is)

-- ---- each block of a page

pub rows_to_lines : (ls : Lines) (at : ℕ) (u : ItemTree) → IsOfRows (rows_from 0 ls) at u → IsOfLines ls at u
rows_to_lines ls at u (of_heading before r after e c k begins is) = head_of_line ls at u before r after e c k begins is
rows_to_lines ls at u (of_text before first others after e c b a o begins is) = by (row_line ls 0 before first (others ++ after) e a.0)
  where
    by : IsOnLine 0 ls before first (others ++ after) → IsOfLines ls at u
    by (inl t) = text_of_lines ls at u before first others after c b a.1 o begins is t
    by (inr t) = signed_lines ls at u before first others after c a.1 o begins is t t.shape

pub block_on_lines : (pages : Pages) (page p : List ℕ) (t : Tree) → IsUtf8 page → refusal_of_page pages page ≡ None
    → IsReachedAt p (called_tree pages page) t → IsTextBlock (label t).kind → StandsOnLines pages page t
block_on_lines pages page p t u r e b =
    let s : StandsOnRows pages page t = block_on_rows pages page p t u r e b in
    record {
      stands = s.stands;
      by_lines = rows_to_lines (full_lines (expanded_page pages page).items) (size s.stands.before) s.stands.block s.by_rows;
    }

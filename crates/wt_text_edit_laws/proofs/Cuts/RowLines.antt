-- Rows of a page, cut before a row of text that begins a line: the lines before it, its line, and those behind it.
use Rattle.std.proofs.Common.{arith, ◌≡◌, ◌<◌, ◌-◌, ◌+◌, ℕ, zero, suc, Bool, true, false, List, [], ◌∷◌, ◌++◌, map, refl, sym, ap, ◌∙◌, subst}
use Rattle.std.specs.Prelude.{replicate, drop, if◌then◌else◌}
use Rattle.wt_span.specs.Items.{Item, sign}
use Rattle.wt_lines.specs.declared.kind.LineKind.{LineKind}
use Rattle.wt_lines.specs.declared.kind.LineKind.TheVariants as line
use Rattle.wt_lines.specs.Lines.{content}
use Rattle.wt_tables.specs.Extents.{is_open, is_end, behind}
use Rattle.wt_page.specs.Lines.{kind_at}
use Rattle.wt_page.specs.Rows.{Row, marks_len, idle_len, dashes, is_unseen, behind_sign, sign_row, whole_row, line_rows, unwritten_end, rows_from}
use Rattle.wt_part_laws.specs.Blocks.{AllAre}
use Rattle.wt_part_laws.specs.Counts.{opened, ended}
use Rattle.wt_part_laws.proofs.Counting.{one, opened_onto, ended_onto, opened_line, ended_line}
use Rattle.wt_part_laws.proofs.OpenKinds.{ends_none}
use Rattle.wt_text_edit_laws.specs.BodyParagraphs.{EndsIts, EndWhole}
use Rattle.wt_text_edit_laws.specs.ParagraphBetween.{written_rows, tables_behind}

-- ---- the rows of a line

-- one row, or a sign that is a row by itself and a row of text behind it
pub data LineShape (k : LineKind) (l : List Item) (rs : List Row) : Type 0 where
  single : (x : Row) → x.kind ≡ k → (k ≡ line.Text → x ≡ whole_row line.Text (marks_len l) l) → rs ≡ x ∷ [] → LineShape k l rs
  double : (x y : Row) → x.kind ≡ k → (k ≡ line.Text → ⊥) → (EndsIts x.kind x.ending → ⊥) → rs ≡ x ∷ y ∷ [] → LineShape k l rs

end_shape : (v : Bool) (n m : ℕ) (l own : List Item) (y : Row)
    → LineShape line.TableEnd l (if v then sign_row line.TableEnd n m own (behind_sign n m own) ∷ [] else sign_row line.TableEnd n m own [] ∷ y ∷ [])
end_shape true n m l own y = single (sign_row line.TableEnd n m own (behind_sign n m own)) refl (λ e. absurd (cc)) refl
end_shape false n m l own y = double (sign_row line.TableEnd n m own []) y refl (λ e. absurd (cc)) (λ h. h refl) refl

rule_shape : (v : Bool) (n m : ℕ) (l own : List Item) (y : Row)
    → LineShape line.Rule l (if v then sign_row line.Rule n m own (behind_sign n m own) ∷ [] else sign_row line.Rule n m own [] ∷ y ∷ [])
rule_shape true n m l own y = single (sign_row line.Rule n m own (behind_sign n m own)) refl (λ e. absurd (cc)) refl
rule_shape false n m l own y = double (sign_row line.Rule n m own []) y refl (λ e. absurd (cc)) (λ h. h refl) refl

line_shape : (k : LineKind) (l : List Item) → LineShape k l (line_rows k l)
line_shape line.Blank l = single _ refl (λ e. absurd (cc)) refl
line_shape line.TableOpen l = single _ refl (λ e. absurd (cc)) refl
line_shape line.TableEnd l =
    let n : ℕ = idle_len l in
    let rest : List Item = behind_sign n 2 l in
    end_shape (is_unseen rest) n 2 l l (whole_row line.Text (marks_len rest) rest)
line_shape line.Caption l = single _ refl (λ e. absurd (cc)) refl
line_shape line.Row l = single _ refl (λ e. absurd (cc)) refl
line_shape line.Cell l = single _ refl (λ e. absurd (cc)) refl
line_shape line.Header l = single _ refl (λ e. absurd (cc)) refl
line_shape line.Heading l = single _ refl (λ e. absurd (cc)) refl
line_shape line.Rule l =
    let n : ℕ = marks_len l in
    let m : ℕ = dashes (drop n l) in
    let rest : List Item = behind_sign n m l in
    rule_shape (is_unseen rest) n m l l (whole_row line.Text (marks_len rest) rest)
line_shape line.List l = single _ refl (λ e. absurd (cc)) refl
line_shape line.Pre l = single _ refl (λ e. absurd (cc)) refl
line_shape line.Text l = single _ refl (λ e. refl) refl

-- ---- the cut

first_or : Row → List Row → Row
first_or r [] = r
first_or r (s ∷ rs) = s

others : List Row → List Row
others [] = []
others (s ∷ rs) = rs

-- the line that makes this row, with the lines that make the rows before it and those that make the rows behind it
pub record TextLine (n : ℕ) (ls : List (List Item)) (front : List Row) (r : Row) (ss : List Row) : Type 0 where
  pub before : List (List Item)
  pub text : List Item
  pub behind_it : List (List Item)
  pub are : ls ≡ before ++ text ∷ behind_it
  pub front_is : written_rows n before ≡ front
  pub row_is : r ≡ whole_row line.Text (marks_len text) text
  pub is_text : kind_at (tables_behind n before) text ≡ line.Text
  pub rest_is : rows_from (tables_behind n before) behind_it ≡ ss

unwritten_no : (n : ℕ) (front : List Row) (r : Row) (ss : List Row) → replicate n unwritten_end ≡ front ++ r ∷ ss → r.kind ≡ line.Text → ⊥
unfolding first_or others
unwritten_no zero [] r ss e k = cc
unwritten_no zero (p ∷ front) r ss e k = cc
unwritten_no (suc n) [] r ss e k =
    let is : unwritten_end ≡ r = ap (first_or r) e in
    let z : line.TableEnd ≡ line.Text = ap (λ (x : Row). x.kind) is ∙ k in cc
unwritten_no (suc n) (p ∷ front) r ss e k = unwritten_no n front r ss (ap others e) k

pub tail_whole : (p : Row) (rs : List Row) → EndWhole (p ∷ rs) → EndWhole rs
tail_whole p [] w = tt
tail_whole p (q ∷ rs) w = w

abbrev Next : ℕ → List (List Item) → Row → List Row → Type 0
Next n ls r ss = (front : List Row) → rows_from n ls ≡ front ++ r ∷ ss → EndWhole front → TextLine n ls front r ss

single_line : (n : ℕ) (l : List Item) (ls : List (List Item)) (front : List Row) (r : Row) (ss : List Row) (x : Row) → x.kind ≡ kind_at n l
    → (kind_at n l ≡ line.Text → x ≡ whole_row line.Text (marks_len l) l) → line_rows (kind_at n l) l ≡ x ∷ []
    → x ∷ rows_from (behind n (kind_at n l)) ls ≡ front ++ r ∷ ss → r.kind ≡ line.Text → EndWhole front → Next (behind n (kind_at n l)) ls r ss
    → TextLine n (l ∷ ls) front r ss
unfolding first_or others
single_line n l ls [] r ss x xk xt is e k w go =
    let first : x ≡ r = ap (first_or x) e in
    let later : rows_from (behind n (kind_at n l)) ls ≡ ss = ap others e in
    let text : kind_at n l ≡ line.Text = sym xk ∙ ap (λ (y : Row). y.kind) first ∙ k in
    record {
      before = [];
      text = l;
      behind_it = ls;
      are = refl;
      front_is = refl;
      row_is = sym first ∙ xt text;
      is_text = text;
      rest_is = sym (ap (λ (j : LineKind). rows_from (behind n j) ls) text) ∙ later;
    }
single_line n l ls (p ∷ front) r ss x xk xt is e k w go =
    let first : x ≡ p = ap (first_or x) e in
    let later : rows_from (behind n (kind_at n l)) ls ≡ front ++ r ∷ ss = ap others e in
    let t = go front later (tail_whole p front w) in
    let more : List Row = written_rows (behind n (kind_at n l)) t.before in
    record {
      before = l ∷ t.before;
      text = t.text;
      behind_it = t.behind_it;
      are = ap (λ (ms : List (List Item)). l ∷ ms) t.are;
      front_is = ap (λ (own : List Row). own ++ more) is ∙ ap (λ (y : Row). y ∷ more) first ∙ ap (λ (zs : List Row). p ∷ zs) t.front_is;
      row_is = t.row_is;
      is_text = t.is_text;
      rest_is = t.rest_is;
    }

double_line : (n : ℕ) (l : List Item) (ls : List (List Item)) (front : List Row) (r : Row) (ss : List Row) (x y : Row) → x.kind ≡ kind_at n l
    → (kind_at n l ≡ line.Text → ⊥) → (EndsIts x.kind x.ending → ⊥) → line_rows (kind_at n l) l ≡ x ∷ y ∷ []
    → x ∷ y ∷ rows_from (behind n (kind_at n l)) ls ≡ front ++ r ∷ ss → r.kind ≡ line.Text → EndWhole front → Next (behind n (kind_at n l)) ls r ss
    → TextLine n (l ∷ ls) front r ss
unfolding first_or others
double_line n l ls [] r ss x y xk other unended is e k w go =
    let first : x ≡ r = ap (first_or x) e in
    absurd (other (sym xk ∙ ap (λ (z : Row). z.kind) first ∙ k))
double_line n l ls (p ∷ []) r ss x y xk other unended is e k w go =
    let first : x ≡ p = ap (first_or x) e in
    absurd (unended (subst (λ (z : Row). EndsIts z.kind z.ending) (sym first) w))
double_line n l ls (p ∷ q ∷ front) r ss x y xk other unended is e k w go =
    let first : x ≡ p = ap (first_or x) e in
    let rest : y ∷ rows_from (behind n (kind_at n l)) ls ≡ q ∷ (front ++ r ∷ ss) = ap others e in
    let second : y ≡ q = ap (first_or y) rest in
    let later : rows_from (behind n (kind_at n l)) ls ≡ front ++ r ∷ ss = ap others rest in
    let t = go front later (tail_whole q front w) in
    let more : List Row = written_rows (behind n (kind_at n l)) t.before in
    record {
      before = l ∷ t.before;
      text = t.text;
      behind_it = t.behind_it;
      are = ap (λ (ms : List (List Item)). l ∷ ms) t.are;
      front_is = ap (λ (own : List Row). own ++ more) is ∙ ap (λ (z : Row). z ∷ y ∷ more) first ∙ ap (λ (z : Row). p ∷ z ∷ more) second
          ∙ ap (λ (zs : List Row). p ∷ q ∷ zs) t.front_is;
      row_is = t.row_is;
      is_text = t.is_text;
      rest_is = t.rest_is;
    }

by_shape : (n : ℕ) (l : List Item) (ls : List (List Item)) (front : List Row) (r : Row) (ss : List Row) → LineShape (kind_at n l) l (line_rows (kind_at n l) l)
    → line_rows (kind_at n l) l ++ rows_from (behind n (kind_at n l)) ls ≡ front ++ r ∷ ss → r.kind ≡ line.Text → EndWhole front
    → Next (behind n (kind_at n l)) ls r ss → TextLine n (l ∷ ls) front r ss
by_shape n l ls front r ss (single x xk xt is) e k w go =
    single_line n l ls front r ss x xk xt is (sym (ap (λ (own : List Row). own ++ rows_from (behind n (kind_at n l)) ls) is) ∙ e) k w go
by_shape n l ls front r ss (double x y xk other unended is) e k w go =
    double_line n l ls front r ss x y xk other unended is (sym (ap (λ (own : List Row). own ++ rows_from (behind n (kind_at n l)) ls) is) ∙ e) k w go

pub text_line : (ls : List (List Item)) (n : ℕ) (front : List Row) (r : Row) (ss : List Row) → rows_from n ls ≡ front ++ r ∷ ss → r.kind ≡ line.Text
    → EndWhole front → TextLine n ls front r ss
text_line [] n front r ss e k w = absurd (unwritten_no n front r ss e k)
text_line (l ∷ ls) n front r ss e k w =
    by_shape n l ls front r ss (line_shape (kind_at n l) l) e k w (λ f g v. text_line ls (behind n (kind_at n l)) f r ss g k v)

-- ---- rows of text at the front

abbrev pub whole_text : List Item → Row
whole_text l = whole_row line.Text (marks_len l) l

abbrev pub AllText : ℕ → List (List Item) → Type 0
AllText n [] = Unit {0}
AllText n (l ∷ ls) = (kind_at n l ≡ line.Text) × AllText n ls

pub record TextLines (n : ℕ) (ls : List (List Item)) (rs ss : List Row) : Type 0 where
  pub texts : List (List Item)
  pub behind_them : List (List Item)
  pub are : ls ≡ texts ++ behind_them
  pub rows_are : rs ≡ map whole_text texts
  pub are_text : AllText n texts
  pub rest_is : rows_from n behind_them ≡ ss

some_rows : (n : ℕ) (l : List Item) (rs : List Row) → LineShape (kind_at n l) l (line_rows (kind_at n l) l) → line_rows (kind_at n l) l ++ rs ≡ [] → ⊥
some_rows n l rs (single x xk xt is) e = let z : x ∷ rs ≡ [] = sym (ap (λ (own : List Row). own ++ rs) is) ∙ e in cc
some_rows n l rs (double x y xk other unended is) e = let z : x ∷ y ∷ rs ≡ [] = sym (ap (λ (own : List Row). own ++ rs) is) ∙ e in cc

no_lines : (n : ℕ) (ls : List (List Item)) → written_rows n ls ≡ [] → ls ≡ []
no_lines n [] e = refl
no_lines n (l ∷ ls) e = absurd (some_rows n l (written_rows (behind n (kind_at n l)) ls) (line_shape (kind_at n l) l) e)

lines_more : (n : ℕ) (ls : List (List Item)) (r : Row) (rs ss : List Row) (t : TextLine n ls [] r (rs ++ ss))
    → ((ms : List (List Item)) → rows_from n ms ≡ rs ++ ss → TextLines n ms rs ss) → TextLines n ls (r ∷ rs) ss
lines_more n ls r rs ss t go =
    let none : t.before ≡ [] = no_lines n t.before t.front_is in
    let rest : rows_from n t.behind_it ≡ rs ++ ss = sym (ap (λ (ms : List (List Item)). rows_from (tables_behind n ms) t.behind_it) none) ∙ t.rest_is in
    let m = go t.behind_it rest in
    record {
      texts = t.text ∷ m.texts;
      behind_them = m.behind_them;
      are = t.are ∙ ap (λ (ms : List (List Item)). ms ++ t.text ∷ t.behind_it) none ∙ ap (λ (ms : List (List Item)). t.text ∷ ms) m.are;
      rows_are = ap (λ (x : Row). x ∷ rs) t.row_is ∙ ap (λ (xs : List Row). whole_row line.Text (marks_len t.text) t.text ∷ xs) m.rows_are;
      are_text = (sym (ap (λ (ms : List (List Item)). kind_at (tables_behind n ms) t.text) none) ∙ t.is_text, m.are_text);
      rest_is = m.rest_is;
    }

pub text_lines : (rs : List Row) (n : ℕ) (ls : List (List Item)) (ss : List Row) → AllAre line.Text rs → rows_from n ls ≡ rs ++ ss → TextLines n ls rs ss
text_lines [] n ls ss a e = record { texts = []; behind_them = ls; are = refl; rows_are = refl; are_text = tt; rest_is = e }
text_lines (r ∷ rs) n ls ss a e =
    lines_more n ls r rs ss (text_line ls n [] r (rs ++ ss) e a.0 tt) (λ ms f. text_lines rs n ms ss a.1 f)

-- ---- how many tables are open

behind_count : (n : ℕ) (k : LineKind) → (k ≡ line.TableEnd → 0 < n) → behind n k + one (is_end k) ≡ n + one (is_open k)
behind_count n line.Blank h = refl
behind_count n line.TableOpen h = omega arith
behind_count n line.TableEnd h = let some = h refl in omega (arith, some)
behind_count n line.Caption h = refl
behind_count n line.Row h = refl
behind_count n line.Cell h = refl
behind_count n line.Header h = refl
behind_count n line.Heading h = refl
behind_count n line.Rule h = refl
behind_count n line.List h = refl
behind_count n line.Pre h = refl
behind_count n line.Text h = refl

end_open : (n : ℕ) (l : List Item) → kind_at n l ≡ line.TableEnd → 0 < n
end_open zero l e = absurd (ends_none (map sign (content l)) e)
end_open (suc n) l e = omega arith

pub tables_count : (ls : List (List Item)) (n : ℕ) → tables_behind n ls + ended (written_rows n ls) ≡ n + opened (written_rows n ls)
tables_count [] n = refl
tables_count (l ∷ ls) n =
    let k : LineKind = kind_at n l in
    let own : List Row = line_rows k l in
    let more : List Row = written_rows (behind n k) ls in
    let step = behind_count n k (λ e. end_open n l e) in
    let rest = tables_count ls (behind n k) in
    omega (arith, step, rest, ended_onto own more, opened_onto own more, ended_line k l, opened_line k l)

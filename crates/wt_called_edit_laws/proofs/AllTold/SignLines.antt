-- Rows of lines, cut before a row of text: it begins a line, or it is behind the sign of a table's end or a rule on its line.
use Rattle.std.proofs.Common.{◌≡◌, ◌⊎◌, inl, inr, ℕ, zero, suc, Bool, true, false, List, [], ◌∷◌, ◌++◌, refl, sym, ap, ◌∙◌, subst, append_assoc}
use Rattle.std.specs.Prelude.{replicate, if◌then◌else◌}
use Rattle.wt_span.specs.Items.{Item}
use Rattle.wt_lines.specs.declared.kind.LineKind.{LineKind}
use Rattle.wt_lines.specs.declared.kind.LineKind.TheVariants as line
use Rattle.wt_tables.specs.Extents.{behind}
use Rattle.wt_page.specs.Lines.{kind_at}
use Rattle.wt_page.specs.Rows.{Row, marks_len, idle_len, is_unseen, sign_row, whole_row, line_rows, unwritten_end, rows_from}
use Rattle.wt_text_edit_laws.specs.ParagraphBetween.{written_rows, tables_behind}
use Rattle.wt_text_edit_laws.proofs.Cuts.RowLines.{TextLine}
use Rattle.wt_called_edit_laws.specs.RowBlocks.{past_end, rule_len, past_rule}
use Rattle.wt_called_edit_laws.proofs.AllTold.LineKinds.{Lines}

-- ---- the rows of a line

-- such a sign is a row by itself, and what is behind it is another one
pub data SignShape (k : LineKind) (l : List Item) (x y : Row) : Type 0 where
  an_end : k ≡ line.TableEnd → is_unseen (past_end l) ≡ false → x ≡ sign_row line.TableEnd (idle_len l) 2 l []
      → y ≡ whole_row line.Text (marks_len (past_end l)) (past_end l) → SignShape k l x y
  a_rule : k ≡ line.Rule → is_unseen (past_rule l) ≡ false → x ≡ sign_row line.Rule (marks_len l) (rule_len l) l []
      → y ≡ whole_row line.Text (marks_len (past_rule l)) (past_rule l) → SignShape k l x y

data LineForm (k : LineKind) (l : List Item) (rs : List Row) : Type 0 where
  single : (x : Row) → x.kind ≡ k → (k ≡ line.Text → x ≡ whole_row line.Text (marks_len l) l) → rs ≡ x ∷ [] → LineForm k l rs
  double : (x y : Row) → SignShape k l x y → rs ≡ x ∷ y ∷ [] → LineForm k l rs

end_form : (l : List Item) (v : Bool) → is_unseen (past_end l) ≡ v
    → LineForm line.TableEnd l
    (if v then sign_row line.TableEnd (idle_len l) 2 l (past_end l) ∷ []
    else sign_row line.TableEnd (idle_len l) 2 l [] ∷ whole_row line.Text (marks_len (past_end l)) (past_end l) ∷ [])
end_form l true e = single (sign_row line.TableEnd (idle_len l) 2 l (past_end l)) refl (λ z. absurd (cc)) refl
end_form l false e =
    double (sign_row line.TableEnd (idle_len l) 2 l []) (whole_row line.Text (marks_len (past_end l)) (past_end l)) (an_end refl e refl refl) refl

rule_form : (l : List Item) (v : Bool) → is_unseen (past_rule l) ≡ v
    → LineForm line.Rule l
    (if v then sign_row line.Rule (marks_len l) (rule_len l) l (past_rule l) ∷ []
    else sign_row line.Rule (marks_len l) (rule_len l) l [] ∷ whole_row line.Text (marks_len (past_rule l)) (past_rule l) ∷ [])
rule_form l true e = single (sign_row line.Rule (marks_len l) (rule_len l) l (past_rule l)) refl (λ z. absurd (cc)) refl
rule_form l false e =
    double (sign_row line.Rule (marks_len l) (rule_len l) l []) (whole_row line.Text (marks_len (past_rule l)) (past_rule l)) (a_rule refl e refl refl) refl

line_form : (k : LineKind) (l : List Item) → LineForm k l (line_rows k l)
line_form line.Blank l = single (record { kind = line.Blank; lead = []; items = l; ending = [] }) refl (λ e. absurd (cc)) refl
line_form line.TableOpen l = single (whole_row line.TableOpen (idle_len l) l) refl (λ e. absurd (cc)) refl
line_form line.TableEnd l = end_form l (is_unseen (past_end l)) refl
line_form line.Caption l = single (whole_row line.Caption (idle_len l) l) refl (λ e. absurd (cc)) refl
line_form line.Row l = single (whole_row line.Row (idle_len l) l) refl (λ e. absurd (cc)) refl
line_form line.Cell l = single (whole_row line.Cell (idle_len l) l) refl (λ e. absurd (cc)) refl
line_form line.Header l = single (whole_row line.Header (idle_len l) l) refl (λ e. absurd (cc)) refl
line_form line.Heading l = single (whole_row line.Heading (marks_len l) l) refl (λ e. absurd (cc)) refl
line_form line.Rule l = rule_form l (is_unseen (past_rule l)) refl
line_form line.List l = single (whole_row line.List (marks_len l) l) refl (λ e. absurd (cc)) refl
line_form line.Pre l = single (whole_row line.Pre (marks_len l) l) refl (λ e. absurd (cc)) refl
line_form line.Text l = single (whole_row line.Text (marks_len l) l) refl (λ e. refl) refl

-- ---- the cut

-- the line behind whose sign this row is
pub record SignedLine (n : ℕ) (ls : Lines) (front : List Row) (r : Row) (ss : List Row) : Type 0 where
  pub before : Lines
  pub own : List Item
  pub behind_it : Lines
  pub are : ls ≡ before ++ own ∷ behind_it
  pub sign : Row
  pub front_is : written_rows n before ++ sign ∷ [] ≡ front
  pub shape : SignShape (kind_at (tables_behind n before) own) own sign r
  pub rest_is : rows_from (behind (tables_behind n before) (kind_at (tables_behind n before) own)) behind_it ≡ ss

abbrev pub IsOnLine : ℕ → Lines → List Row → Row → List Row → Type 0
IsOnLine n ls front r ss = TextLine n ls front r ss ⊎ SignedLine n ls front r ss

first_or : Row → List Row → Row
first_or r [] = r
first_or r (s ∷ rs) = s

others : List Row → List Row
others [] = []
others (s ∷ rs) = rs

split : (a b : Row) (xs ys : List Row) → a ∷ xs ≡ b ∷ ys → (a ≡ b) × (xs ≡ ys)
unfolding first_or others
split a b xs ys e = (ap (first_or a) e, ap others e)

-- an end that no line writes is no text
unwritten_no : (n : ℕ) (front : List Row) (r : Row) (ss : List Row) → replicate n unwritten_end ≡ front ++ r ∷ ss → r.kind ≡ line.Text → ⊥
unfolding first_or others
unwritten_no zero [] r ss e k = absurd (cc)
unwritten_no zero (p ∷ front) r ss e k = absurd (cc)
unwritten_no (suc n) [] r ss e k =
    let is : unwritten_end ≡ r = ap (first_or r) e in
    let wrong : line.TableEnd ≡ line.Text = ap (λ (x : Row). x.kind) is ∙ k in absurd (cc)
unwritten_no (suc n) (p ∷ front) r ss e k = unwritten_no n front r ss (ap others e) k

-- with one line more before it
more_before : (n : ℕ) (l : List Item) (ls : Lines) (ps front : List Row) (r : Row) (ss : List Row) → line_rows (kind_at n l) l ≡ ps
    → IsOnLine (behind n (kind_at n l)) ls front r ss → IsOnLine n (l ∷ ls) (ps ++ front) r ss
more_before n l ls ps front r ss is (inl t) =
    let more : List Row = written_rows (behind n (kind_at n l)) t.before in
    inl (record {
      before = l ∷ t.before;
      text = t.text;
      behind_it = t.behind_it;
      are = ap (λ (ms : Lines). l ∷ ms) t.are;
      front_is = ap (λ (own : List Row). own ++ more) is ∙ ap (λ (zs : List Row). ps ++ zs) t.front_is;
      row_is = t.row_is;
      is_text = t.is_text;
      rest_is = t.rest_is;
    })
more_before n l ls ps front r ss is (inr t) =
    let more : List Row = written_rows (behind n (kind_at n l)) t.before in
    inr (record {
      before = l ∷ t.before;
      own = t.own;
      behind_it = t.behind_it;
      are = ap (λ (ms : Lines). l ∷ ms) t.are;
      sign = t.sign;
      front_is = append_assoc (line_rows (kind_at n l) l) more (t.sign ∷ []) ∙ ap (λ (own : List Row). own ++ (more ++ t.sign ∷ [])) is
          ∙ ap (λ (zs : List Row). ps ++ zs) t.front_is;
      shape = t.shape;
      rest_is = t.rest_is;
    })

abbrev Next : ℕ → Lines → Row → List Row → Type 0
Next n ls r ss = (front : List Row) → rows_from n ls ≡ front ++ r ∷ ss → IsOnLine n ls front r ss

no_sign : (k : LineKind) (l : List Item) (x y : Row) → SignShape k l x y → x.kind ≡ line.Text → ⊥
no_sign k l x y (an_end e u f g) h = let wrong : line.TableEnd ≡ line.Text = sym (ap (λ (r : Row). r.kind) f) ∙ h in absurd (cc)
no_sign k l x y (a_rule e u f g) h = let wrong : line.Rule ≡ line.Text = sym (ap (λ (r : Row). r.kind) f) ∙ h in absurd (cc)

by_form : (n : ℕ) (l : List Item) (ls : Lines) (front : List Row) (r : Row) (ss : List Row) → LineForm (kind_at n l) l (line_rows (kind_at n l) l)
    → line_rows (kind_at n l) l ++ rows_from (behind n (kind_at n l)) ls ≡ front ++ r ∷ ss → r.kind ≡ line.Text → Next (behind n (kind_at n l)) ls r ss
    → IsOnLine n (l ∷ ls) front r ss
by_form n l ls [] r ss (single x xk xt is) e k go =
    let more : List Row = rows_from (behind n (kind_at n l)) ls in
    let s = split x r more ss (sym (ap (λ (own : List Row). own ++ more) is) ∙ e) in
    let text : kind_at n l ≡ line.Text = sym xk ∙ ap (λ (y : Row). y.kind) s.0 ∙ k in
    inl (record {
      before = [];
      text = l;
      behind_it = ls;
      are = refl;
      front_is = refl;
      row_is = sym s.0 ∙ xt text;
      is_text = text;
      rest_is = sym (ap (λ (j : LineKind). rows_from (behind n j) ls) text) ∙ s.1;
    })
by_form n l ls (p ∷ front) r ss (single x xk xt is) e k go =
    let more : List Row = rows_from (behind n (kind_at n l)) ls in
    let s = split x p more (front ++ r ∷ ss) (sym (ap (λ (own : List Row). own ++ more) is) ∙ e) in
    more_before n l ls (p ∷ []) front r ss (is ∙ ap (λ (y : Row). y ∷ []) s.0) (go front s.1)
by_form n l ls [] r ss (double x y f is) e k go =
    let more : List Row = rows_from (behind n (kind_at n l)) ls in
    let s = split x r (y ∷ more) ss (sym (ap (λ (own : List Row). own ++ more) is) ∙ e) in
    absurd (no_sign (kind_at n l) l x y f (ap (λ (z : Row). z.kind) s.0 ∙ k))
by_form n l ls (p ∷ []) r ss (double x y f is) e k go =
    let more : List Row = rows_from (behind n (kind_at n l)) ls in
    let s = split x p (y ∷ more) (r ∷ ss) (sym (ap (λ (own : List Row). own ++ more) is) ∙ e) in
    let t = split y r more ss s.1 in
    inr (record {
      before = [];
      own = l;
      behind_it = ls;
      are = refl;
      sign = x;
      front_is = ap (λ (z : Row). z ∷ []) s.0;
      shape = by t.0;
      rest_is = t.1;
    })
  where
    by : y ≡ r → SignShape (kind_at n l) l x r
    by z = subst (SignShape (kind_at n l) l x) z f
by_form n l ls (p ∷ q ∷ front) r ss (double x y f is) e k go =
    let more : List Row = rows_from (behind n (kind_at n l)) ls in
    let s = split x p (y ∷ more) (q ∷ (front ++ r ∷ ss)) (sym (ap (λ (own : List Row). own ++ more) is) ∙ e) in
    let t = split y q more (front ++ r ∷ ss) s.1 in
    more_before n l ls (p ∷ q ∷ []) front r ss (is ∙ ap (λ (z : Row). z ∷ y ∷ []) s.0 ∙ ap (λ (z : Row). p ∷ z ∷ []) t.0) (go front t.1)

pub row_line : (ls : Lines) (n : ℕ) (front : List Row) (r : Row) (ss : List Row) → rows_from n ls ≡ front ++ r ∷ ss → r.kind ≡ line.Text → IsOnLine n ls front r ss
row_line [] n front r ss e k = absurd (unwritten_no n front r ss e k)
row_line (l ∷ ls) n front r ss e k =
    by_form n l ls front r ss (line_form (kind_at n l) l) e k (λ f g. row_line ls (behind n (kind_at n l)) f r ss g k)

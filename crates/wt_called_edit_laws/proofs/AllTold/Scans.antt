-- All paragraphs and headings that lines tell, from the first line on, and what is left of the lines between them.
use Rattle.std.proofs.Common.{arith, ◌≡◌, ◌≤◌, ◌⊎◌, inl, inr, ℕ, zero, suc, ◌+◌, Bool, true, false, List, [], ◌∷◌, ◌++◌, length, map, refl, sym, ap, ◌∙◌, subst, append-nil, append_assoc, codes}
use Rattle.std.specs.Prelude.{◌==◌}
use Rattle.std.specs.List.{list_all}
use Rattle.wt_span.specs.Bytes.{begins}
use Rattle.wt_span.specs.Items.{Item, is_mark}
use Rattle.wt_lines.specs.declared.kind.LineKind.{LineKind}
use Rattle.wt_lines.specs.declared.kind.LineKind.TheVariants as line
use Rattle.wt_lines.specs.Lines.{content}
use Rattle.wt_blocks.specs.Paragraphs.{is_text}
use Rattle.wt_tables.specs.Extents.{behind as tables_after}
use Rattle.wt_tables.specs.Parts.{joined}
use Rattle.wt_page.specs.Lines.{kind_at}
use Rattle.wt_page.specs.Rows.{Row, marks_len, is_unseen, line_rows, signs, rows_from}
use Rattle.wt_part_laws.specs.Slots.{AllTrue}
use Rattle.wt_text_edit_laws.specs.ParagraphBetween.{written_rows, tables_behind, EndApart, BeginApart}
use Rattle.wt_text_edit_laws.specs.TextBetween.{is_end, AreEnded}
use Rattle.wt_text_edit_laws.specs.TextBlocks.{TextBlock, a_paragraph, a_heading, FirstApart}
use Rattle.wt_text_edit_laws.proofs.Cuts.TextLines.{joined_both}
use Rattle.wt_text_edit_laws.specs.TypedHeadings.{Sides}
use Rattle.wt_called_edit_laws.specs.AnyBlocks.{open_after, EndsFor}
use Rattle.wt_called_edit_laws.specs.LinedHeadings.{IsLinedHeading}
use Rattle.wt_called_edit_laws.specs.PlacedBlocks.{AreLinesAt}
use Rattle.wt_called_edit_laws.specs.PlacedLines.{all_lines}
use Rattle.wt_called_edit_laws.specs.RowBlocks.{end_sign, past_end}
use Rattle.wt_called_edit_laws.specs.SignLines.{front_lines, IsSignFor, IsApartFrom, AreLinesOn}
use Rattle.wt_called_edit_laws.specs.TableEnds.{IsEndSign}
use Rattle.wt_called_edit_laws.specs.ToldLines.{Told, a_paragraph_of, a_heading_on, lined, OwnTold, rows_before, IsToldAt, AreToldAfter}
use Rattle.wt_called_edit_laws.specs.ToldTogether.{told_starts}
use Rattle.wt_called_edit_laws.proofs.AllTold.Found.{size, size_both}
use Rattle.wt_called_edit_laws.proofs.AllTold.LineKinds.{Lines, led_by, past_marks, tables_both, after, rows_behind, end_suffix, some_row, end_lines}
use Rattle.wt_called_edit_laws.proofs.AllTold.Opens.{open_both}
use Rattle.wt_called_edit_laws.proofs.Cells.SignRows.{end_kind, alone_rows}
use Rattle.wt_called_edit_laws.proofs.Cells.SpotSlots.{open_size}

-- ---- told by their first line

abbrev pub text_told : Lines → List Item → Lines → Told
text_told before l more = a_paragraph_of before [] (led_by l) (past_marks l) more

-- behind the sign of a table's end
abbrev pub sign_told : Lines → List Item → Lines → Told
sign_told before l more = a_paragraph_of before (end_sign l) (led_by (past_end l)) (past_marks (past_end l)) more

abbrev pub heading_told : Lines → List Item → Told
heading_told before l = a_heading_on before (led_by l) (past_marks l)

-- ---- what can be decided

abbrev pub Decided : Type 0 → Type 0
Decided A = A ⊎ (A → ⊥)

pub both_decided : (A B : Type 0) → Decided A → Decided B → Decided (A × B)
both_decided A B (inl a) (inl b) = inl (a, b)
both_decided A B (inl a) (inr f) = inr (λ h. f h.1)
both_decided A B (inr f) b = inr (λ h. f h.0)

pub three_decided : (A B C : Type 0) → Decided A → Decided B → Decided C → Decided (A × B × C)
three_decided A B C (inl a) (inl b) (inl c) = inl (a, b, c)
three_decided A B C (inr f) b c = inr (λ h. f h.0)
three_decided A B C (inl a) (inr f) c = inr (λ h. f h.1)
three_decided A B C (inl a) (inl b) (inr f) = inr (λ h. f h.2)

pub bool_decided : (v w : Bool) → Decided (v ≡ w)
bool_decided true true = inl refl
bool_decided true false = inr (λ e. absurd (cc))
bool_decided false true = inr (λ e. absurd (cc))
bool_decided false false = inl refl

-- whether a line is of this kind
abbrev is_heading_line : LineKind → Bool
is_heading_line line.Blank = false
is_heading_line line.TableOpen = false
is_heading_line line.TableEnd = false
is_heading_line line.Caption = false
is_heading_line line.Row = false
is_heading_line line.Cell = false
is_heading_line line.Header = false
is_heading_line line.Heading = true
is_heading_line line.Rule = false
is_heading_line line.List = false
is_heading_line line.Pre = false
is_heading_line line.Text = false

heading_is : (k : LineKind) → is_heading_line k ≡ true → k ≡ line.Heading
heading_is line.Heading e = refl
heading_is k e = absurd (cc)

text_is : (k : LineKind) → is_text k ≡ true → k ≡ line.Text
text_is line.Text e = refl
text_is k e = absurd (cc)

pub kind_decided : (k : LineKind) → Decided (k ≡ line.Text)
kind_decided k = by (is_text k) refl
  where
    by : (v : Bool) → is_text k ≡ v → Decided (k ≡ line.Text)
    by true e = inl (text_is k e)
    by false e = inr (λ f. let nay : true ≡ false = sym (ap is_text f) ∙ e in absurd (cc))

pub heading_decided : (k : LineKind) → Decided (k ≡ line.Heading)
heading_decided k = by (is_heading_line k) refl
  where
    by : (v : Bool) → is_heading_line k ≡ v → Decided (k ≡ line.Heading)
    by true e = inl (heading_is k e)
    by false e = inr (λ f. let nay : true ≡ false = sym (ap is_heading_line f) ∙ e in absurd (cc))

-- whether it is a table's end
abbrev is_end_line : LineKind → Bool
is_end_line line.Blank = false
is_end_line line.TableOpen = false
is_end_line line.TableEnd = true
is_end_line line.Caption = false
is_end_line line.Row = false
is_end_line line.Cell = false
is_end_line line.Header = false
is_end_line line.Heading = false
is_end_line line.Rule = false
is_end_line line.List = false
is_end_line line.Pre = false
is_end_line line.Text = false

end_is : (k : LineKind) → is_end_line k ≡ true → k ≡ line.TableEnd
end_is line.TableEnd e = refl
end_is k e = absurd (cc)

pub end_decided : (k : LineKind) → Decided (k ≡ line.TableEnd)
end_decided k = by (is_end_line k) refl
  where
    by : (v : Bool) → is_end_line k ≡ v → Decided (k ≡ line.TableEnd)
    by true e = inl (end_is k e)
    by false e = inr (λ f. let nay : true ≡ false = sym (ap is_end_line f) ∙ e in absurd (cc))

some_decided : {A : Type 0} (xs : List A) → Decided (1 ≤ length xs)
some_decided [] = inr (λ h. absurd (omega (arith, h)))
some_decided (x ∷ xs) = inl (omega arith)

true_decided : (bs : List Bool) → Decided (AllTrue bs)
true_decided [] = inl tt
true_decided (b ∷ bs) = both_decided (b ≡ true) (AllTrue bs) (bool_decided b true) (true_decided bs)

pub ended_decided : (bs : List ℕ) → Decided (AreEnded bs)
ended_decided [] = inl tt
ended_decided (b ∷ []) = bool_decided (is_end b) true
ended_decided (b ∷ c ∷ cs) = ended_decided (c ∷ cs)

lines_decided : (n : ℕ) (ls : Lines) → Decided (AreLinesAt n ls)
lines_decided n [] = inl tt
lines_decided n (l ∷ ls) = both_decided (kind_at n l ≡ line.Text) (AreLinesAt n ls) (kind_decided (kind_at n l)) (lines_decided n ls)

lines_on_decided : (sign : List Item) (n : ℕ) (ls : Lines) → Decided (AreLinesOn sign n ls)
lines_on_decided [] n ls = lines_decided n ls
lines_on_decided (x ∷ xs) n [] = inr (λ h. h)
lines_on_decided (x ∷ xs) n (l ∷ ls) = both_decided (is_unseen l ≡ false) (AreLinesAt n ls) (bool_decided (is_unseen l) false) (lines_decided n ls)

pub apart_decided : (sign : List Item) (q : List ℕ) → Decided (IsApartFrom sign q)
apart_decided [] q = inl tt
apart_decided (x ∷ xs) [] = inl tt
apart_decided (x ∷ xs) (b ∷ q) = bool_decided (b == 125) false

none_decided : (n : ℕ) → Decided (n ≡ 0)
none_decided zero = inl refl
none_decided (suc n) = inr (λ e. omega (arith, e))

-- a line of a heading is one of these
headed : (n : ℕ) (l : List Item) → Decided (IsLinedHeading n l)
headed n l = by (heading_decided (kind_at n l)) (bool_decided (begins (codes "=") (signs l)) true)
  where
    by : Decided (kind_at n l ≡ line.Heading) → Decided (begins (codes "=") (signs l) ≡ true) → Decided (IsLinedHeading n l)
    by (inl a) (inl b) = inl (record { is_heading = a; first = b })
    by (inr f) b = inr (λ h. f h.is_heading)
    by (inl a) (inr f) = inr (λ h. f h.first)

-- one with nothing before it
abbrev pub Bare : Told → Type 0
Bare t = (list_all is_mark (lined t).marks ≡ true) × (1 ≤ length (lined t).first)

bare_decided : (t : Told) → Decided (Bare t)
bare_decided t =
    both_decided (list_all is_mark (lined t).marks ≡ true) (1 ≤ length (lined t).first) (bool_decided (list_all is_mark (lined t).marks) true)
    (some_decided (lined t).first)

-- something that is asked of blocks, each with nothing before it, by the items before them
abbrev pub Asked : Type 1
Asked = List Item → Told → Type 0

abbrev pub Answered : Asked → Type 0
Answered K = (front : List Item) (t : Told) → Decided (K front t)

-- the tables that are open where it is
abbrev pub tables_at : List Bool → Told → List Bool
tables_at bs t = open_after bs (rows_before bs t)

-- what is before it on its first line but marks
abbrev pub IsSigned : List Bool → Told → Type 0
IsSigned bs t = IsSignFor (lined t).block (length bs) (lined t).before (lined t).sign

-- behind these items, where these tables are open
pub record Fits (K : Asked) (front : List Item) (bs : List Bool) (t : Told) : Type 0 where
  pub bare : Bare t
  pub sign : IsSigned bs t
  pub unclosed : IsApartFrom (lined t).sign (lined t).text
  pub cells : AllTrue (tables_at bs t)
  pub own : OwnTold t (length (tables_at bs t))
  pub asked : K front t

fits_by : (K : Asked) → Answered K → (front : List Item) (bs : List Bool) (t : Told) → IsSigned bs t → Decided (OwnTold t (length (tables_at bs t))) → Decided (Fits K front bs t)
fits_by K d front bs t sign own =
    by (bare_decided t) (apart_decided (lined t).sign (lined t).text) (true_decided (tables_at bs t)) own (d front t)
  where
    by : Decided (Bare t) → Decided (IsApartFrom (lined t).sign (lined t).text) → Decided (AllTrue (tables_at bs t)) → Decided (OwnTold t (length (tables_at bs t)))
        → Decided (K front t) → Decided (Fits K front bs t)
    by (inl a) (inl u) (inl b) (inl c) (inl e) = inl (record { bare = a; sign = sign; unclosed = u; cells = b; own = c; asked = e })
    by (inr nay) u b c e = inr (λ h. nay h.bare)
    by (inl a) (inr nay) b c e = inr (λ h. nay h.unclosed)
    by (inl a) (inl u) (inr nay) c e = inr (λ h. nay h.cells)
    by (inl a) (inl u) (inl b) (inr nay) e = inr (λ h. nay h.own)
    by (inl a) (inl u) (inl b) (inl c) (inr nay) = inr (λ h. nay h.asked)

own_decided : (sign f : List Item) (more : Lines) (n : ℕ) → Decided (AreLinesOn sign n (f ∷ more) × (marks_len (content (joined (f ∷ more))) ≡ 0))
own_decided sign f more n =
    both_decided (AreLinesOn sign n (f ∷ more)) (marks_len (content (joined (f ∷ more))) ≡ 0) (lines_on_decided sign n (f ∷ more))
    (none_decided (marks_len (content (joined (f ∷ more)))))

pub text_fits : (K : Asked) → Answered K → (front : List Item) (bs : List Bool) (l : List Item) (more : Lines) → Decided (Fits K front bs (text_told [] l more))
text_fits K d front bs l more = fits_by K d front bs (text_told [] l more) tt (own_decided [] (past_marks l) more (length bs))

pub sign_fits : (K : Asked) → Answered K → (front : List Item) (bs : List Bool) (l : List Item) (more : Lines) → IsSigned bs (sign_told [] l more)
    → Decided (Fits K front bs (sign_told [] l more))
sign_fits K d front bs l more sign =
    let t : Told = sign_told [] l more in
    fits_by K d front bs t sign (own_decided (end_sign l) (past_marks (past_end l)) more (length (tables_at bs t)))

pub heading_fits : (K : Asked) → Answered K → (front : List Item) (bs : List Bool) (l : List Item) → Decided (Fits K front bs (heading_told [] l))
heading_fits K d front bs l = fits_by K d front bs (heading_told [] l) tt (headed (length bs) (past_marks l))

-- ---- the items before them

abbrev pub behind_lines : List Item → Lines → List Item
behind_lines front [] = front
behind_lines front (l ∷ ls) = behind_lines (front ++ l) ls

pub behind_both : (front : List Item) (xs ys : Lines) → behind_lines front (xs ++ ys) ≡ behind_lines (behind_lines front xs) ys
behind_both front [] ys = refl
behind_both front (x ∷ xs) ys = behind_both (front ++ x) xs ys

pub behind_joined : (front : List Item) (ls : Lines) → behind_lines front ls ≡ front ++ joined ls
behind_joined front [] = sym (append-nil front)
behind_joined front (l ∷ ls) = behind_joined (front ++ l) ls ∙ append_assoc front l (joined ls)

-- ---- where those that are told begin

pub joined_size : (xs ys : Lines) → size (joined (xs ++ ys)) ≡ size (joined xs) + size (joined ys)
joined_size xs ys = ap size (joined_both xs ys) ∙ size_both (joined xs) (joined ys)

-- ---- more lines before them

abbrev pub put_told : Lines → Told → Told
put_told xs (a_paragraph_of b s m f r) = a_paragraph_of (xs ++ b) s m f r
put_told xs (a_heading_on b m l) = a_heading_on (xs ++ b) m l

abbrev pub put_all : Lines → List Told → List Told
put_all xs [] = []
put_all xs (t ∷ ts) = put_told xs t ∷ ts

abbrev pub put_behind : Lines → List Told → Lines → Lines
put_behind xs [] behind = xs ++ behind
put_behind xs (t ∷ ts) behind = behind

pub put_lines : (xs : Lines) (ts : List Told) (behind : Lines) → all_lines (map lined (put_all xs ts)) (put_behind xs ts behind) ≡ xs ++ all_lines (map lined ts) behind
put_lines xs [] behind = refl
put_lines xs (a_paragraph_of b s m f r ∷ ts) behind = append_assoc xs b ((((s ++ m) ++ f) ∷ r) ++ all_lines (map lined ts) behind)
put_lines xs (a_heading_on b m l ∷ ts) behind = append_assoc xs b (((m ++ l) ∷ []) ++ all_lines (map lined ts) behind)

pub put_starts : (at : ℕ) (xs : Lines) (ts : List Told) → told_starts at (put_all xs ts) ≡ told_starts (at + size (joined xs)) ts
put_starts at xs [] = refl
put_starts at xs (a_paragraph_of b s m f r ∷ ts) =
    let z : at + size (joined (xs ++ b)) ≡ (at + size (joined xs)) + size (joined b) = omega (arith, joined_size xs b) in
    ap (λ (n : ℕ). (n + size (s ++ m)) ∷ told_starts (n + size (joined (((s ++ m) ++ f) ∷ r))) ts) z
put_starts at xs (a_heading_on b m l ∷ ts) =
    let z : at + size (joined (xs ++ b)) ≡ (at + size (joined xs)) + size (joined b) = omega (arith, joined_size xs b) in
    ap (λ (n : ℕ). (n + size m) ∷ told_starts (n + size (joined ((m ++ l) ∷ []))) ts) z

-- ---- what is asked of one behind these lines

-- lines before others and a sign
fronts_both : (xs ls : Lines) (s : List Item) → front_lines (xs ++ ls) s ≡ xs ++ front_lines ls s
fronts_both xs ls [] = refl
fronts_both xs ls (y ∷ ys) = append_assoc xs ls ((y ∷ ys) ∷ [])

pub rows_put : (bs : List Bool) (xs : Lines) (t : Told) → rows_before bs (put_told xs t) ≡ written_rows (length bs) xs ++ rows_before (after bs xs) t
rows_put bs xs (a_paragraph_of b s m f r) = ap (written_rows (length bs)) (fronts_both xs b s) ∙ rows_behind bs xs (front_lines b s)
rows_put bs xs (a_heading_on b m l) = rows_behind bs xs b

pub tables_put : (bs : List Bool) (xs : Lines) (t : Told) → tables_at bs (put_told xs t) ≡ tables_at (after bs xs) t
tables_put bs xs t = ap (open_after bs) (rows_put bs xs t) ∙ open_both bs (written_rows (length bs) xs) (rows_before (after bs xs) t)

-- so many tables are open before the sign
tables_same : (bs : List Bool) (xs ls : Lines) → tables_behind (length (after bs xs)) ls ≡ tables_behind (length bs) (xs ++ ls)
tables_same bs xs ls = ap (λ (n : ℕ). tables_behind n ls) (sym (open_size bs (length bs) xs refl)) ∙ sym (tables_both (length bs) xs ls)

sign_put : (k : TextBlock) (bs : List Bool) (xs ls : Lines) (s : List Item) → IsSignFor k (length (after bs xs)) ls s → IsSignFor k (length bs) (xs ++ ls) s
sign_put k bs xs ls [] h = tt
sign_put a_paragraph bs xs ls (y ∷ ys) h = (h.0, subst (λ (n : ℕ). 1 ≤ n) (tables_same bs xs ls) h.1)
sign_put (a_heading z) bs xs ls (y ∷ ys) h = absurd h

sign_moved : (k : TextBlock) (bs : List Bool) (xs ls : Lines) (s : List Item) → IsSignFor k (length bs) (xs ++ ls) s → IsSignFor k (length (after bs xs)) ls s
sign_moved k bs xs ls [] h = tt
sign_moved a_paragraph bs xs ls (y ∷ ys) h = (h.0, subst (λ (n : ℕ). 1 ≤ n) (sym (tables_same bs xs ls)) h.1)
sign_moved (a_heading z) bs xs ls (y ∷ ys) h = absurd h

put_at : (bs : List Bool) (xs : Lines) (t : Told) → IsToldAt (after bs xs) t → EndsFor (lined t).block (rows_before bs (put_told xs t)) → IsToldAt bs (put_told xs t)
put_at bs xs (a_paragraph_of b s m f r) h apart = record {
  sign = sign_put a_paragraph bs xs b s h.sign;
  unclosed = h.unclosed;
  are_marks = h.are_marks;
  some = h.some;
  in_cells = subst AllTrue (sym (tables_put bs xs (a_paragraph_of b s m f r))) h.in_cells;
  apart = apart;
  own = subst (λ (cs : List Bool). OwnTold (a_paragraph_of b s m f r) (length cs)) (sym (tables_put bs xs (a_paragraph_of b s m f r))) h.own;
}
put_at bs xs (a_heading_on b m l) h apart = record {
  sign = tt;
  unclosed = tt;
  are_marks = h.are_marks;
  some = h.some;
  in_cells = subst AllTrue (sym (tables_put bs xs (a_heading_on b m l))) h.in_cells;
  apart = apart;
  own = subst (λ (cs : List Bool). OwnTold (a_heading_on b m l) (length cs)) (sym (tables_put bs xs (a_heading_on b m l))) h.own;
}

-- and without them
pub moved_at : (bs : List Bool) (xs : Lines) (t : Told) → IsToldAt bs (put_told xs t) → IsToldAt (after bs xs) t
moved_at bs xs (a_paragraph_of b s m f r) h =
    let t : Told = a_paragraph_of b s m f r in
    record {
      sign = sign_moved a_paragraph bs xs b s h.sign;
      unclosed = h.unclosed;
      are_marks = h.are_marks;
      some = h.some;
      in_cells = subst AllTrue (tables_put bs xs t) h.in_cells;
      apart = end_suffix (written_rows (length bs) xs) (rows_before (after bs xs) t) (subst EndApart (rows_put bs xs t) h.apart);
      own = subst (λ (cs : List Bool). OwnTold t (length cs)) (tables_put bs xs t) h.own;
    }
moved_at bs xs (a_heading_on b m l) h =
    let t : Told = a_heading_on b m l in
    record {
      sign = tt;
      unclosed = tt;
      are_marks = h.are_marks;
      some = h.some;
      in_cells = subst AllTrue (tables_put bs xs t) h.in_cells;
      apart = tt;
      own = subst (λ (cs : List Bool). OwnTold t (length cs)) (tables_put bs xs t) h.own;
    }

-- ---- all that are told

abbrev pub ToldFrom : List Bool → List Told → Lines → Type 0
ToldFrom bs [] behind = Unit {0}
ToldFrom bs (t ∷ ts) behind = IsToldAt bs t × AreToldAfter (lined t).block (tables_at bs t) ts behind

-- no paragraph is first among the lines
abbrev pub AreLines : Lines → Type 0
AreLines [] = ⊥
AreLines (l ∷ ls) = Unit {0}

abbrev pub NoTextFirst : List Told → Type 0
NoTextFirst [] = Unit {0}
NoTextFirst (a_paragraph_of b s m f r ∷ ts) = AreLines (front_lines b s)
NoTextFirst (a_heading_on b m l ∷ ts) = Unit {0}

pub sign_first : (b : Lines) (x : Item) (s : List Item) → AreLines (front_lines b (x ∷ s))
sign_first [] x s = tt
sign_first (l ∷ b) x s = tt

lines_first : (l : List Item) (ls : Lines) (s : List Item) → AreLines (front_lines (l ∷ ls) s)
lines_first l ls [] = tt
lines_first l ls (x ∷ s) = tt

pub put_first : (l : List Item) (xs : Lines) (ts : List Told) → NoTextFirst (put_all (l ∷ xs) ts)
put_first l xs [] = tt
put_first l xs (a_paragraph_of b s m f r ∷ ts) = lines_first l (xs ++ b) s
put_first l xs (a_heading_on b m k ∷ ts) = tt

end_nil : (rs : List Row) → rs ++ [] ≡ rs
end_nil [] = refl
end_nil (r ∷ rs) = ap (λ ss. r ∷ ss) (end_nil rs)

-- the last of lines, or none
ends_behind : (bs : List Bool) (xs ls : Lines) → EndApart (written_rows (length (after bs xs)) ls) → AreLines ls ⊎ EndApart (written_rows (length bs) xs)
    → EndApart (written_rows (length bs) (xs ++ ls))
ends_behind bs xs [] h (inl nay) = absurd nay
ends_behind bs xs [] h (inr e) = subst EndApart (sym (rows_behind bs xs [] ∙ end_nil (written_rows (length bs) xs))) e
ends_behind bs xs (l ∷ ls) h c =
    subst EndApart (sym (rows_behind bs xs (l ∷ ls))) (end_lines (length (after bs xs)) (written_rows (length bs) xs) l ls h)

-- lines before them, behind which a paragraph may be, or none is
put_apart : (bs : List Bool) (xs : Lines) (t : Told) (ts : List Told) → IsToldAt (after bs xs) t → NoTextFirst (t ∷ ts) ⊎ EndApart (written_rows (length bs) xs)
    → EndsFor (lined t).block (rows_before bs (put_told xs t))
put_apart bs xs (a_paragraph_of b s m f r) ts h c =
    subst (λ (ls : Lines). EndApart (written_rows (length bs) ls)) (sym (fronts_both xs b s)) (ends_behind bs xs (front_lines b s) h.apart c)
put_apart bs xs (a_heading_on b m l) ts h c = tt

pub put_from : (bs : List Bool) (xs : Lines) (ts : List Told) (behind : Lines) → ToldFrom (after bs xs) ts behind
    → NoTextFirst ts ⊎ EndApart (written_rows (length bs) xs) → ToldFrom bs (put_all xs ts) (put_behind xs ts behind)
put_from bs xs [] behind h c = tt
put_from bs xs (t ∷ ts) behind h c = (
  put_at bs xs t h.0 (put_apart bs xs t ts h.0 c),
  by t (subst (λ (cs : List Bool). AreToldAfter (lined t).block cs ts behind) (sym (tables_put bs xs t)) h.1),
)
  where
    by : (u : Told) → AreToldAfter (lined u).block (tables_at bs (put_told xs u)) ts behind → AreToldAfter (lined (put_told xs u)).block (tables_at bs (put_told xs u)) ts behind
    by (a_paragraph_of b s m f r) g = g
    by (a_heading_on b m l) g = g

-- behind a block, at whose end these tables are open
pub behind_heading : (s : Sides) (bs : List Bool) (ts : List Told) (behind : Lines) → ToldFrom bs ts behind → AreToldAfter (a_heading s) bs ts behind
behind_heading s bs [] behind h = tt
behind_heading s bs (t ∷ ts) behind h = (tt, h.0, h.1)

-- the first line isn't text, so the first row of these lines isn't
first_so : (k : TextBlock) (n : ℕ) (x : List Item) (xs ys : Lines) → BeginApart (rows_from n (x ∷ ys)) → FirstApart k (written_rows n (x ∷ xs))
first_so k n x xs ys e =
    let j : LineKind = kind_at n x in
    let s = some_row j x in
    let later : ℕ = tables_after n j in
    let all : rows_from n (x ∷ ys) ≡ s.first ∷ (s.others ++ rows_from later ys) = ap (λ (rs : List Row). rs ++ rows_from later ys) s.are in
    let own : written_rows n (x ∷ xs) ≡ s.first ∷ (s.others ++ written_rows later xs) = ap (λ (rs : List Row). rs ++ written_rows later xs) s.are in
    subst (FirstApart k) (sym own) (first_of k s.first (s.others ++ written_rows later xs) (subst BeginApart all e))
  where
    first_of : (b : TextBlock) (r : Row) (rs : List Row) → is_text r.kind ≡ false → FirstApart b (r ∷ rs)
    first_of a_paragraph r rs h = h
    first_of (a_heading s) r rs h = h

-- a sign's row isn't text
sign_so : (n : ℕ) (s : List Item) → IsEndSign s → 1 ≤ n → FirstApart a_paragraph (written_rows n (s ∷ []))
sign_so zero s h some = absurd (omega (arith, some))
sign_so (suc n) s h some =
    subst (λ (rs : List Row). FirstApart a_paragraph rs)
    (sym (ap (λ (k : LineKind). line_rows k s ++ []) (end_kind n s h) ∙ ap (λ (rs : List Row). rs ++ []) (alone_rows s h))) refl

first_line : (n : ℕ) (b : Lines) (s m f : List Item) (r rest : Lines) → IsSignFor a_paragraph n b s → AreLines (front_lines b s)
    → BeginApart (rows_from n (b ++ ((((s ++ m) ++ f) ∷ r) ++ rest))) → FirstApart a_paragraph (written_rows n (front_lines b s))
first_line n [] [] m f r rest h some a = absurd some
first_line n [] (x ∷ s) m f r rest h some a = sign_so n (x ∷ s) h.0 h.1
first_line n (l ∷ b) [] m f r rest h some a = first_so a_paragraph n l b (b ++ (((m ++ f) ∷ r) ++ rest)) a
first_line n (l ∷ b) (x ∷ s) m f r rest h some a =
    first_so a_paragraph n l (b ++ (x ∷ s) ∷ []) (b ++ (((((x ∷ s) ++ m) ++ f) ∷ r) ++ rest)) a

pub behind_text : (bs : List Bool) (ts : List Told) (behind : Lines) → ToldFrom bs ts behind → NoTextFirst ts
    → BeginApart (rows_from (length bs) (all_lines (map lined ts) behind)) → AreToldAfter a_paragraph bs ts behind
behind_text bs [] behind h nay a = a
behind_text bs (a_paragraph_of b s m f r ∷ ts) behind h nay a =
    (first_line (length bs) b s m f r (all_lines (map lined ts) behind) h.0.sign nay a, h.0, h.1)
behind_text bs (a_heading_on [] m l ∷ ts) behind h nay a = (tt, h.0, h.1)
behind_text bs (a_heading_on (x ∷ b) m l ∷ ts) behind h nay a =
    (first_so (lined (a_heading_on (x ∷ b) m l)).block (length bs) x b (b ++ (((m ++ l) ∷ []) ++ all_lines (map lined ts) behind)) a, h.0, h.1)

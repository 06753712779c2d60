-- The scan of a page's lines: all paragraphs and headings that are told by their lines, of which none is left out.
use Rattle.std.proofs.Common.{arith, ◌≡◌, ◌≤◌, ◌⊎◌, inl, inr, ℕ, zero, suc, ◌+◌, Bool, true, false, List, [], ◌∷◌, ◌++◌, length, map, refl, sym, ap, ap₂, ◌∙◌, subst, append-nil, length-append}
use Rattle.wt_span.specs.Items.{Item}
use Rattle.wt_lines.specs.declared.kind.LineKind.{LineKind}
use Rattle.wt_lines.specs.declared.kind.LineKind.TheVariants as line
use Rattle.wt_lines.specs.Lines.{content}
use Rattle.wt_tables.specs.Parts.{joined}
use Rattle.wt_page.specs.Lines.{kind_at}
use Rattle.wt_page.specs.Rows.{Row, marks_len, idle_len, is_unseen, sign_row, whole_row, line_rows, rows_from}
use Rattle.wt_text_edit_laws.specs.ParagraphBetween.{written_rows, EndApart, BeginApart}
use Rattle.wt_text_edit_laws.proofs.Cuts.RowLines.{AllText}
use Rattle.wt_called_edit_laws.specs.AnyBlocks.{open_after}
use Rattle.wt_called_edit_laws.specs.LinedHeadings.{sides_of}
use Rattle.wt_called_edit_laws.specs.PlacedBlocks.{AreLinesAt}
use Rattle.wt_called_edit_laws.specs.PlacedLines.{all_lines}
use Rattle.wt_called_edit_laws.specs.RowBlocks.{end_sign, past_end}
use Rattle.wt_called_edit_laws.specs.SignLines.{front_lines, IsSignFor, AreLinesOn}
use Rattle.wt_called_edit_laws.specs.TableEnds.{IsEndSign}
use Rattle.wt_called_edit_laws.specs.ToldLines.{Told, a_paragraph_of, a_heading_on, lined, IsToldAt, AreToldAfter}
use Rattle.wt_called_edit_laws.specs.ToldTogether.{start_of, own_lines, told_starts, IsAmongNumbers}
use Rattle.wt_text_edit_laws.specs.TextBlocks.{a_paragraph}
use Rattle.wt_blocks.specs.Paragraphs.{is_text}
use Rattle.wt_part_laws.specs.Slots.{open_behind}
use Rattle.wt_called_edit_laws.proofs.AllTold.EndSigns.{some_tables, none_sign, sign_whole, end_rows_are, seen_led, HaveSigns, signs_behind}
use Rattle.wt_called_edit_laws.proofs.AllTold.Found.{size}
use Rattle.wt_called_edit_laws.proofs.AllTold.LineKinds.{Lines, led_by, past_marks, led_whole, led_marks, kind_led, after, rows_behind, after_both, end_suffix, texts_after, last_text, apart_last, last_apart, first_apart, begins_other, texts_end}
use Rattle.wt_called_edit_laws.proofs.Cells.SignRows.{end_kind, alone_rows}
use Rattle.wt_called_edit_laws.proofs.AllTold.Scans.{Decided, Asked, Answered, kind_decided, end_decided, IsSigned, tables_at, Fits, text_fits, sign_fits, heading_fits, text_told, sign_told, heading_told, behind_lines, behind_both, joined_size, put_told, put_all, put_behind, put_lines, put_starts, tables_put, moved_at, ToldFrom, AreLines, NoTextFirst, put_first, put_from, behind_heading, behind_text}

-- ---- lists cut at two places

head_or : List Item → Lines → List Item
head_or l [] = l
head_or l (x ∷ xs) = x

tail_of : Lines → Lines
tail_of [] = []
tail_of (x ∷ xs) = xs

split : (x y : List Item) (xs ys : Lines) → x ∷ xs ≡ y ∷ ys → (x ≡ y) × (xs ≡ ys)
unfolding head_or tail_of
split x y xs ys e = (ap (head_or x) e, ap tail_of e)

none_some : (x : List Item) (xs : Lines) → [] ≡ x ∷ xs → ⊥
none_some x xs e = absurd (cc)

some_none : (us : Lines) (v : List Item) (vs : Lines) → [] ≡ us ++ v ∷ vs → ⊥
some_none [] v vs e = absurd (cc)
some_none (u ∷ us) v vs e = absurd (cc)

-- lines and others behind them are lines before this one, it and those behind it: it is among the first or behind them
data Cut (xs ys us : Lines) (v : List Item) (vs : Lines) : Type 0 where
  cut_behind : (more : Lines) → us ≡ xs ++ more → ys ≡ more ++ v ∷ vs → Cut xs ys us v vs
  cut_among : (more : Lines) → xs ≡ us ++ v ∷ more → Cut xs ys us v vs

cut_of : (xs ys us : Lines) (v : List Item) (vs : Lines) → xs ++ ys ≡ us ++ v ∷ vs → Cut xs ys us v vs
cut_of [] ys us v vs e = cut_behind us refl e
cut_of (x ∷ xs) ys [] v vs e =
    let s = split x v (xs ++ ys) vs e in cut_among xs (ap (λ (l : List Item). l ∷ xs) s.0)
cut_of (x ∷ xs) ys (u ∷ us) v vs e =
    let s = split x u (xs ++ ys) (us ++ v ∷ vs) e in
    later s.0 (cut_of xs ys us v vs s.1)
  where
    later : x ≡ u → Cut xs ys us v vs → Cut (x ∷ xs) ys (u ∷ us) v vs
    later z (cut_behind more f g) = cut_behind more (ap₂ (λ (l : List Item) (ls : Lines). l ∷ ls) (sym z) f) g
    later z (cut_among more f) = cut_among more (ap₂ (λ (l : List Item) (ls : Lines). l ∷ ls) z f)

-- ---- runs of text

record Run (n : ℕ) (l : List Item) (ls : Lines) : Type 0 where
  more : Lines
  rest : Lines
  are : ls ≡ more ++ rest
  texts : AllText n (l ∷ more)
  apart : BeginApart (rows_from n rest)

none_apart : (n : ℕ) → BeginApart (rows_from n [])
none_apart zero = tt
none_apart (suc n) = refl

run_of : (n : ℕ) (l : List Item) (ls : Lines) → kind_at n l ≡ line.Text → Run n l ls
run_of n l [] e = record { more = []; rest = []; are = refl; texts = (e, tt); apart = none_apart n }
run_of n l (x ∷ xs) e = by (kind_decided (kind_at n x)) (λ f. run_of n x xs f)
  where
    by : Decided (kind_at n x ≡ line.Text) → (kind_at n x ≡ line.Text → Run n x xs) → Run n l (x ∷ xs)
    by (inl f) go =
        let r = go f in
        record { more = x ∷ r.more; rest = r.rest; are = ap (λ (ls : Lines). x ∷ ls) r.are; texts = (e, r.texts); apart = r.apart }
    by (inr nay) go = record { more = []; rest = x ∷ xs; are = refl; texts = (e, tt); apart = begins_other n x xs nay }

same_run : (n : ℕ) (xs ys us vs : Lines) → AllText n xs → AllText n us → BeginApart (rows_from n ys) → BeginApart (rows_from n vs) → xs ++ ys ≡ us ++ vs → xs ≡ us
same_run n [] ys [] vs h g a b e = refl
same_run n [] ys (u ∷ us) vs h g a b e = absurd (first_apart n u (us ++ vs) (subst (λ (ls : Lines). BeginApart (rows_from n ls)) e a) g.0)
same_run n (x ∷ xs) ys [] vs h g a b e = absurd (first_apart n x (xs ++ ys) (subst (λ (ls : Lines). BeginApart (rows_from n ls)) (sym e) b) h.0)
same_run n (x ∷ xs) ys (u ∷ us) vs h g a b e =
    let s = split x u (xs ++ ys) (us ++ vs) e in
    ap₂ (λ (l : List Item) (ls : Lines). l ∷ ls) s.0 (same_run n xs ys us vs h.1 g.1 a b s.1)

texts_first : (n : ℕ) (xs ys : Lines) → AllText n (xs ++ ys) → AllText n xs
texts_first n [] ys h = tt
texts_first n (x ∷ xs) ys h = (h.0, texts_first n xs ys h.1)

texts_at : (n : ℕ) (xs : Lines) (y : List Item) (ys : Lines) → AllText n (xs ++ y ∷ ys) → kind_at n y ≡ line.Text
texts_at n [] y ys h = h.0
texts_at n (x ∷ xs) y ys h = texts_at n xs y ys h.1

told_all : (n : ℕ) (ls : Lines) → AreLinesAt n ls → AllText n ls
told_all n [] h = tt
told_all n (l ∷ ls) h = (h.0, told_all n ls h.1)

-- those of a paragraph that is told
told_texts : (bs : List Bool) (before : Lines) (l : List Item) (more : Lines) → IsToldAt bs (text_told before l more) → AllText (length (after bs before)) (l ∷ more)
told_texts bs before l more h =
    let n : ℕ = length (after bs before) in
    let own : AllText n (past_marks l ∷ more) = told_all n (past_marks l ∷ more) h.own.0 in
    (sym (kind_led n l h.some) ∙ own.0, own.1)

told_heading : (bs : List Bool) (before : Lines) (l : List Item) → IsToldAt bs (heading_told before l) → kind_at (length (after bs before)) l ≡ line.Heading
told_heading bs before l h = sym (kind_led (length (after bs before)) l h.some) ∙ h.own.is_heading

not_both : (n : ℕ) (l : List Item) → kind_at n l ≡ line.Heading → kind_at n l ≡ line.Text → ⊥
not_both n l e f = let nay : line.Heading ≡ line.Text = sym e ∙ f in absurd (cc)

-- ---- told where nothing is before them

text_so : (K : Asked) (front : List Item) (bs : List Bool) (l : List Item) (more : Lines) → Fits K front bs (text_told [] l more) → IsToldAt bs (text_told [] l more)
text_so K front bs l more f = record { sign = tt; unclosed = tt; are_marks = f.bare.0; some = f.bare.1; in_cells = f.cells; apart = tt; own = f.own }

heading_so : (K : Asked) (front : List Item) (bs : List Bool) (l : List Item) → Fits K front bs (heading_told [] l) → IsToldAt bs (heading_told [] l)
heading_so K front bs l f = record { sign = tt; unclosed = tt; are_marks = f.bare.0; some = f.bare.1; in_cells = f.cells; apart = tt; own = f.own }

-- so behind a sign, whose row is no text
sign_apart : (n : ℕ) (s : List Item) → IsSignFor a_paragraph n [] s → EndApart (written_rows n (front_lines [] s))
sign_apart n [] h = tt
sign_apart zero (x ∷ s) h = absurd (omega (arith, h.1))
sign_apart (suc n) (x ∷ s) h =
    subst EndApart (sym (ap (λ (k : LineKind). line_rows k (x ∷ s) ++ []) (end_kind n (x ∷ s) h.0) ∙ ap (λ (rs : List Row). rs ++ []) (alone_rows (x ∷ s) h.0))) refl

sign_so : (K : Asked) (front : List Item) (bs : List Bool) (l : List Item) (more : Lines) → Fits K front bs (sign_told [] l more) → IsToldAt bs (sign_told [] l more)
sign_so K front bs l more f = record {
  sign = f.sign;
  unclosed = f.unclosed;
  are_marks = f.bare.0;
  some = f.bare.1;
  in_cells = f.cells;
  apart = sign_apart (length bs) (end_sign l) f.sign;
  own = f.own;
}

-- with nothing before it
abbrev pub without_before : Told → Told
without_before (a_paragraph_of b s m f r) = a_paragraph_of [] s m f r
without_before (a_heading_on b m l) = a_heading_on [] m l

-- what is asked of a block holds of this one, where these items are before its lines and those before it
abbrev pub Meets : Asked → List Item → Told → Type 0
Meets K front t = K (behind_lines front (lined t).before) (without_before t)

fits_so : (K : Asked) (front : List Item) (bs : List Bool) (l : List Item) (more : Lines) → IsToldAt bs (text_told [] l more) → Meets K front (text_told [] l more) → Fits K front bs (text_told [] l more)
fits_so K front bs l more h s = record { bare = (h.are_marks, h.some); sign = tt; unclosed = tt; cells = h.in_cells; own = h.own; asked = s }

sign_fits_so : (K : Asked) (front : List Item) (bs : List Bool) (l : List Item) (more : Lines) → IsToldAt bs (sign_told [] l more) → Meets K front (sign_told [] l more) → Fits K front bs (sign_told [] l more)
sign_fits_so K front bs l more h s = record { bare = (h.are_marks, h.some); sign = h.sign; unclosed = h.unclosed; cells = h.in_cells; own = h.own; asked = s }

heading_fits_so : (K : Asked) (front : List Item) (bs : List Bool) (l : List Item) → IsToldAt bs (heading_told [] l) → Meets K front (heading_told [] l) → Fits K front bs (heading_told [] l)
heading_fits_so K front bs l h s = record { bare = (h.are_marks, h.some); sign = tt; unclosed = tt; cells = h.in_cells; own = h.own; asked = s }

-- ---- that none is left out

-- each paragraph that is told begins at one of these numbers, where these lines begin at this one, behind one that ends with text, if so
abbrev pub TextsIn : Asked → List Item → List Bool → Bool → Lines → (ℕ → List ℕ) → Type 0
TextsIn K front bs prev ls ns =
    (at : ℕ) (before : Lines) (l : List Item) (more rest : Lines) → ls ≡ before ++ ((l ∷ more) ++ rest) → IsToldAt bs (text_told before l more)
    → BeginApart (rows_from (length (after bs before)) rest) → (before ≡ [] → prev ≡ false) → Meets K front (text_told before l more)
    → IsAmongNumbers (start_of at (text_told before l more)) (ns at)

abbrev pub HeadsIn : Asked → List Item → List Bool → Lines → (ℕ → List ℕ) → Type 0
HeadsIn K front bs ls ns =
    (at : ℕ) (before : Lines) (l : List Item) (rest : Lines) → ls ≡ before ++ (l ∷ rest) → IsToldAt bs (heading_told before l) → Meets K front (heading_told before l)
    → IsAmongNumbers (start_of at (heading_told before l)) (ns at)

-- and each that is behind the sign of a table's end
abbrev pub SignsIn : Asked → List Item → List Bool → Lines → (ℕ → List ℕ) → Type 0
SignsIn K front bs ls ns =
    (at : ℕ) (before : Lines) (l : List Item) (more rest : Lines) → ls ≡ before ++ ((l ∷ more) ++ rest) → kind_at (length (after bs before)) l ≡ line.TableEnd
    → IsToldAt bs (sign_told before l more) → BeginApart (rows_from (length (tables_at bs (sign_told before l more))) rest) → Meets K front (sign_told before l more)
    → IsAmongNumbers (start_of at (sign_told before l more)) (ns at)

abbrev pub AllMeet : Asked → List Item → List Told → Type 0
AllMeet K front [] = Unit {0}
AllMeet K front (t ∷ ts) = Meets K front t × AllMeet K (behind_lines (behind_lines front (lined t).before) (own_lines t)) ts

pub record Scan (K : Asked) (front : List Item) (bs : List Bool) (prev : Bool) (ls : Lines) : Type 0 where
  pub ts : List Told
  pub behind : Lines
  pub are : ls ≡ all_lines (map lined ts) behind
  pub told : ToldFrom bs ts behind
  pub first : prev ≡ true → NoTextFirst ts
  pub asked : AllMeet K front ts
  pub texts : TextsIn K front bs prev ls (λ (at : ℕ). told_starts at ts)
  pub heads : HeadsIn K front bs ls (λ (at : ℕ). told_starts at ts)
  pub signs : SignsIn K front bs ls (λ (at : ℕ). told_starts at ts)

-- ---- lines before others

-- those that begin with one of the lines before
abbrev TextsAmong : Asked → List Item → List Bool → Bool → Lines → Lines → (ℕ → List ℕ) → Type 0
TextsAmong K front bs prev xs ys ns =
    (at : ℕ) (us : Lines) (l : List Item) (more rest zs : Lines) → xs ≡ us ++ l ∷ zs → xs ++ ys ≡ us ++ ((l ∷ more) ++ rest) → IsToldAt bs (text_told us l more)
    → BeginApart (rows_from (length (after bs us)) rest) → (us ≡ [] → prev ≡ false) → Meets K front (text_told us l more)
    → IsAmongNumbers (start_of at (text_told us l more)) (ns at)

abbrev HeadsAmong : Asked → List Item → List Bool → Lines → (ℕ → List ℕ) → Type 0
HeadsAmong K front bs xs ns =
    (at : ℕ) (us : Lines) (l : List Item) (zs : Lines) → xs ≡ us ++ l ∷ zs → IsToldAt bs (heading_told us l) → Meets K front (heading_told us l)
    → IsAmongNumbers (start_of at (heading_told us l)) (ns at)

abbrev SignsAmong : Asked → List Item → List Bool → Lines → Lines → (ℕ → List ℕ) → Type 0
SignsAmong K front bs xs ys ns =
    (at : ℕ) (us : Lines) (l : List Item) (more rest zs : Lines) → xs ≡ us ++ l ∷ zs → xs ++ ys ≡ us ++ ((l ∷ more) ++ rest)
    → kind_at (length (after bs us)) l ≡ line.TableEnd → IsToldAt bs (sign_told us l more)
    → BeginApart (rows_from (length (tables_at bs (sign_told us l more))) rest) → Meets K front (sign_told us l more)
    → IsAmongNumbers (start_of at (sign_told us l more)) (ns at)

abbrev Later : Lines → (ℕ → List ℕ) → (ℕ → List ℕ) → Type 0
Later xs ms ns = (at n : ℕ) → IsAmongNumbers n (ms (at + size (joined xs))) → IsAmongNumbers n (ns at)

put_start : (at : ℕ) (xs : Lines) (t : Told) → start_of at (put_told xs t) ≡ start_of (at + size (joined xs)) t
put_start at xs (a_paragraph_of b s m f r) = omega (arith, joined_size xs b)
put_start at xs (a_heading_on b m l) = omega (arith, joined_size xs b)

-- one of them is behind these lines
text_later : (K : Asked) (front : List Item) (bs : List Bool) (prev : Bool) (xs ys : Lines) (ms : ℕ → List ℕ) → TextsIn K (behind_lines front xs) (after bs xs) prev ys ms
    → (at : ℕ) (us : Lines) (l : List Item) (more rest : Lines) → ys ≡ us ++ ((l ∷ more) ++ rest) → IsToldAt bs (text_told (xs ++ us) l more)
    → BeginApart (rows_from (length (after bs (xs ++ us))) rest) → (us ≡ [] → prev ≡ false) → Meets K front (text_told (xs ++ us) l more)
    → IsAmongNumbers (start_of at (text_told (xs ++ us) l more)) (ms (at + size (joined xs)))
text_later K front bs prev xs ys ms f at us l more rest e h a p s =
    subst (λ (n : ℕ). IsAmongNumbers n (ms (at + size (joined xs)))) (sym (put_start at xs (text_told us l more)))
    (f (at + size (joined xs)) us l more rest e (moved_at bs xs (text_told us l more) h)
    (subst (λ (cs : List Bool). BeginApart (rows_from (length cs) rest)) (after_both bs xs us) a) p
    (subst (λ (zs : List Item). K zs (text_told [] l more)) (behind_both front xs us) s))

head_later : (K : Asked) (front : List Item) (bs : List Bool) (xs ys : Lines) (ms : ℕ → List ℕ) → HeadsIn K (behind_lines front xs) (after bs xs) ys ms
    → (at : ℕ) (us : Lines) (l : List Item) (rest : Lines) → ys ≡ us ++ (l ∷ rest) → IsToldAt bs (heading_told (xs ++ us) l) → Meets K front (heading_told (xs ++ us) l)
    → IsAmongNumbers (start_of at (heading_told (xs ++ us) l)) (ms (at + size (joined xs)))
head_later K front bs xs ys ms f at us l rest e h s =
    subst (λ (n : ℕ). IsAmongNumbers n (ms (at + size (joined xs)))) (sym (put_start at xs (heading_told us l)))
    (f (at + size (joined xs)) us l rest e (moved_at bs xs (heading_told us l) h)
    (subst (λ (zs : List Item). K zs (heading_told [] l)) (behind_both front xs us) s))

sign_later : (K : Asked) (front : List Item) (bs : List Bool) (xs ys : Lines) (ms : ℕ → List ℕ) → SignsIn K (behind_lines front xs) (after bs xs) ys ms
    → (at : ℕ) (us : Lines) (l : List Item) (more rest : Lines) → ys ≡ us ++ ((l ∷ more) ++ rest) → kind_at (length (after bs (xs ++ us))) l ≡ line.TableEnd
    → IsToldAt bs (sign_told (xs ++ us) l more) → BeginApart (rows_from (length (tables_at bs (sign_told (xs ++ us) l more))) rest)
    → Meets K front (sign_told (xs ++ us) l more) → IsAmongNumbers (start_of at (sign_told (xs ++ us) l more)) (ms (at + size (joined xs)))
sign_later K front bs xs ys ms f at us l more rest e k h a s =
    let t : Told = sign_told us l more in
    subst (λ (n : ℕ). IsAmongNumbers n (ms (at + size (joined xs)))) (sym (put_start at xs t))
    (f (at + size (joined xs)) us l more rest e (subst (λ (cs : List Bool). kind_at (length cs) l ≡ line.TableEnd) (after_both bs xs us) k) (moved_at bs xs t h)
    (subst (λ (cs : List Bool). BeginApart (rows_from (length cs) rest)) (tables_put bs xs t) a)
    (subst (λ (zs : List Item). K zs (sign_told [] l more)) (behind_both front xs us) s))

texts_cut : (K : Asked) (front : List Item) (bs : List Bool) (prev later : Bool) (xs ys : Lines) (ms ns : ℕ → List ℕ)
    → TextsIn K (behind_lines front xs) (after bs xs) later ys ms → Later xs ms ns
    → (EndApart (written_rows (length bs) xs) → later ≡ false) → TextsAmong K front bs prev xs ys ns → TextsIn K front bs prev (xs ++ ys) ns
texts_cut K front bs prev later xs ys ms ns f g ends among at us l more rest e h a p s = by (cut_of xs ys us l (more ++ rest) e)
  where
    by : Cut xs ys us l (more ++ rest) → IsAmongNumbers (start_of at (text_told us l more)) (ns at)
    by (cut_among zs z) = among at us l more rest zs z e h a p s
    by (cut_behind vs z y) =
        let own = text_later K front bs later xs ys ms f at vs l more rest y (subst (λ (ws : Lines). IsToldAt bs (text_told ws l more)) z h)
        (subst (λ (ws : Lines). BeginApart (rows_from (length (after bs ws)) rest)) z a)
        (λ nay. ends (subst (λ (ws : Lines). EndApart (written_rows (length bs) ws)) (z ∙ ap (λ (ws : Lines). xs ++ ws) nay ∙ append-nil xs) h.apart))
        (subst (λ (ws : Lines). Meets K front (text_told ws l more)) z s) in
        g at (start_of at (text_told us l more))
        (subst (λ (ws : Lines). IsAmongNumbers (start_of at (text_told ws l more)) (ms (at + size (joined xs)))) (sym z) own)

heads_cut : (K : Asked) (front : List Item) (bs : List Bool) (xs ys : Lines) (ms ns : ℕ → List ℕ) → HeadsIn K (behind_lines front xs) (after bs xs) ys ms → Later xs ms ns
    → HeadsAmong K front bs xs ns → HeadsIn K front bs (xs ++ ys) ns
heads_cut K front bs xs ys ms ns f g among at us l rest e h s = by (cut_of xs ys us l rest e)
  where
    by : Cut xs ys us l rest → IsAmongNumbers (start_of at (heading_told us l)) (ns at)
    by (cut_among zs z) = among at us l zs z h s
    by (cut_behind vs z y) =
        let own = head_later K front bs xs ys ms f at vs l rest y (subst (λ (ws : Lines). IsToldAt bs (heading_told ws l)) z h)
        (subst (λ (ws : Lines). Meets K front (heading_told ws l)) z s) in
        g at (start_of at (heading_told us l))
        (subst (λ (ws : Lines). IsAmongNumbers (start_of at (heading_told ws l)) (ms (at + size (joined xs)))) (sym z) own)

signs_cut : (K : Asked) (front : List Item) (bs : List Bool) (xs ys : Lines) (ms ns : ℕ → List ℕ) → SignsIn K (behind_lines front xs) (after bs xs) ys ms → Later xs ms ns
    → SignsAmong K front bs xs ys ns → SignsIn K front bs (xs ++ ys) ns
signs_cut K front bs xs ys ms ns f g among at us l more rest e k h a s = by (cut_of xs ys us l (more ++ rest) e)
  where
    by : Cut xs ys us l (more ++ rest) → IsAmongNumbers (start_of at (sign_told us l more)) (ns at)
    by (cut_among zs z) = among at us l more rest zs z e k h a s
    by (cut_behind vs z y) =
        let own = sign_later K front bs xs ys ms f at vs l more rest y (subst (λ (ws : Lines). kind_at (length (after bs ws)) l ≡ line.TableEnd) z k)
        (subst (λ (ws : Lines). IsToldAt bs (sign_told ws l more)) z h)
        (subst (λ (ws : Lines). BeginApart (rows_from (length (tables_at bs (sign_told ws l more))) rest)) z a)
        (subst (λ (ws : Lines). Meets K front (sign_told ws l more)) z s) in
        g at (start_of at (sign_told us l more))
        (subst (λ (ws : Lines). IsAmongNumbers (start_of at (sign_told ws l more)) (ms (at + size (joined xs)))) (sym z) own)

-- ---- none of some lines is told

abbrev NoText : Asked → List Item → List Bool → Bool → Lines → Lines → Type 0
NoText K front bs prev xs ys =
    (us : Lines) (l : List Item) (more rest zs : Lines) → xs ≡ us ++ l ∷ zs → xs ++ ys ≡ us ++ ((l ∷ more) ++ rest) → IsToldAt bs (text_told us l more)
    → BeginApart (rows_from (length (after bs us)) rest) → (us ≡ [] → prev ≡ false) → Meets K front (text_told us l more) → ⊥

abbrev NoHeading : Asked → List Item → List Bool → Lines → Type 0
NoHeading K front bs xs = (us : Lines) (l : List Item) (zs : Lines) → xs ≡ us ++ l ∷ zs → IsToldAt bs (heading_told us l) → Meets K front (heading_told us l) → ⊥

abbrev NoSign : Asked → List Item → List Bool → Lines → Lines → Type 0
NoSign K front bs xs ys =
    (us : Lines) (l : List Item) (more rest zs : Lines) → xs ≡ us ++ l ∷ zs → xs ++ ys ≡ us ++ ((l ∷ more) ++ rest) → kind_at (length (after bs us)) l ≡ line.TableEnd
    → IsToldAt bs (sign_told us l more) → BeginApart (rows_from (length (tables_at bs (sign_told us l more))) rest) → Meets K front (sign_told us l more) → ⊥

all_meet_put : (K : Asked) (front : List Item) (xs : Lines) (ts : List Told) → AllMeet K (behind_lines front xs) ts → AllMeet K front (put_all xs ts)
all_meet_put K front xs [] h = tt
all_meet_put K front xs (a_paragraph_of b s m f r ∷ ts) h =
    subst (λ (zs : List Item). K zs (a_paragraph_of [] s m f r) × AllMeet K (behind_lines zs (own_lines (a_paragraph_of b s m f r))) ts) (sym (behind_both front xs b)) h
all_meet_put K front xs (a_heading_on b m l ∷ ts) h =
    subst (λ (zs : List Item). K zs (a_heading_on [] m l) × AllMeet K (behind_lines zs (own_lines (a_heading_on b m l))) ts) (sym (behind_both front xs b)) h

either_apart : (v : Bool) (A B : Type 0) → (v ≡ true → A) → (v ≡ false → B) → A ⊎ B
either_apart true A B f g = inl (f refl)
either_apart false A B f g = inr (g refl)

skip : (K : Asked) (front : List Item) (bs : List Bool) (prev later : Bool) (x : List Item) (xs ys : Lines) → (EndApart (written_rows (length bs) (x ∷ xs)) → later ≡ false)
    → (later ≡ false → EndApart (written_rows (length bs) (x ∷ xs))) → NoText K front bs prev (x ∷ xs) ys → NoHeading K front bs (x ∷ xs)
    → NoSign K front bs (x ∷ xs) ys → Scan K (behind_lines front (x ∷ xs)) (after bs (x ∷ xs)) later ys → Scan K front bs prev ((x ∷ xs) ++ ys)
skip K front bs prev later x xs ys ends apart texts heads signs r =
    let ls : Lines = x ∷ xs in
    let ts : List Told = put_all ls r.ts in
    let ms : ℕ → List ℕ = λ (at : ℕ). told_starts at r.ts in
    let ns : ℕ → List ℕ = λ (at : ℕ). told_starts at ts in
    let g : Later ls ms ns = λ at n i. subst (IsAmongNumbers n) (sym (put_starts at ls r.ts)) i in
    record {
      ts = ts;
      behind = put_behind ls r.ts r.behind;
      are = ap (λ (zs : Lines). ls ++ zs) r.are ∙ sym (put_lines ls r.ts r.behind);
      told = put_from bs ls r.ts r.behind r.told (either_apart later (NoTextFirst r.ts) (EndApart (written_rows (length bs) ls)) r.first apart);
      first = λ e. put_first x xs r.ts;
      asked = all_meet_put K front ls r.ts r.asked;
      texts = texts_cut K front bs prev later ls ys ms ns r.texts g ends (λ at us l more rest zs z e h a p s. absurd (texts us l more rest zs z e h a p s));
      heads = heads_cut K front bs ls ys ms ns r.heads g (λ at us l zs z h s. absurd (heads us l zs z h s));
      signs = signs_cut K front bs ls ys ms ns r.signs g (λ at us l more rest zs z e k h a s. absurd (signs us l more rest zs z e k h a s));
    }

-- ---- one is told

nothing_size : size (joined []) ≡ 0
nothing_size = refl

-- a run of text, in which no other block begins
run_text : (bs : List Bool) (xs ys us : Lines) (u l : List Item) (more zs : Lines) → AllText (length bs) xs → xs ≡ (u ∷ us) ++ l ∷ zs
    → IsToldAt bs (text_told (u ∷ us) l more) → ⊥
run_text bs xs ys us u l more zs t z h =
    texts_end (length bs) u us (texts_first (length bs) (u ∷ us) (l ∷ zs) (subst (AllText (length bs)) z t)) h.apart

run_heading : (K : Asked) (front : List Item) (bs : List Bool) (xs : Lines) → AllText (length bs) xs → NoHeading K front bs xs
run_heading K front bs xs t us l zs z h s =
    let n : ℕ = length bs in
    let all : AllText n (us ++ l ∷ zs) = subst (AllText n) z t in
    let same : after bs us ≡ bs = texts_after bs us (texts_first n us (l ∷ zs) all) in
    not_both n l (subst (λ (cs : List Bool). kind_at (length cs) l ≡ line.Heading) same (told_heading bs us l h)) (texts_at n us l zs all)

run_sign : (K : Asked) (front : List Item) (bs : List Bool) (xs ys : Lines) → AllText (length bs) xs → NoSign K front bs xs ys
run_sign K front bs xs ys t us l more rest zs z e k h a s =
    let n : ℕ = length bs in
    let all : AllText n (us ++ l ∷ zs) = subst (AllText n) z t in
    let same : after bs us ≡ bs = texts_after bs us (texts_first n us (l ∷ zs) all) in
    let wrong : line.TableEnd ≡ line.Text = sym (subst (λ (cs : List Bool). kind_at (length cs) l ≡ line.TableEnd) same k) ∙ texts_at n us l zs all in
    absurd (cc)

run_ends : (bs : List Bool) (l : List Item) (more : Lines) → AllText (length bs) (l ∷ more) → EndApart (written_rows (length bs) (l ∷ more)) → true ≡ false
run_ends bs l more t e = absurd (texts_end (length bs) l more t e)

emit_text : (K : Asked) (front : List Item) (bs : List Bool) (l : List Item) (more ys : Lines) → AllText (length bs) (l ∷ more) → BeginApart (rows_from (length bs) ys) → Fits K front bs (text_told [] l more)
    → Scan K (behind_lines front (l ∷ more)) bs true ys → Scan K front bs false ((l ∷ more) ++ ys)
emit_text K front bs l more ys t a f r =
    let ls : Lines = l ∷ more in
    let own : Told = text_told [] l more in
    let ts : List Told = own ∷ r.ts in
    let ms : ℕ → List ℕ = λ (at : ℕ). told_starts at r.ts in
    let ns : ℕ → List ℕ = λ (at : ℕ). told_starts at ts in
    let same : bs ≡ after bs ls = sym (texts_after bs ls t) in
    let g : Later ls ms ns = λ at n i.
    let z : at + size (joined ls) ≡ at + size (joined []) + size (joined (own_lines own)) =
    omega (arith, nothing_size, ap (λ (k : List Item). size (joined (k ∷ more))) (led_whole l)) in
    inr (subst (λ (m : ℕ). IsAmongNumbers n (told_starts m r.ts)) z i) in
    record {
      ts = ts;
      behind = r.behind;
      are = ap₂ (λ (k : List Item) (zs : Lines). (k ∷ more) ++ zs) (sym (led_whole l)) r.are;
      told = (
        text_so K front bs l more f,
        behind_text bs r.ts r.behind r.told (r.first refl) (subst (λ (zs : Lines). BeginApart (rows_from (length bs) zs)) r.are a),
      );
      first = λ e. absurd (cc);
      asked = (f.asked, subst (λ (k : List Item). AllMeet K (behind_lines front (k ∷ more)) r.ts) (sym (led_whole l)) r.asked);
      texts = texts_cut K front bs false true ls ys ms ns (subst (λ (cs : List Bool). TextsIn K (behind_lines front ls) cs true ys ms) same r.texts) g (run_ends bs l more t) among;
      heads = heads_cut K front bs ls ys ms ns (subst (λ (cs : List Bool). HeadsIn K (behind_lines front ls) cs ys ms) same r.heads) g
          (λ at us k zs z h s. absurd (run_heading K front bs ls t us k zs z h s));
      signs = signs_cut K front bs ls ys ms ns (subst (λ (cs : List Bool). SignsIn K (behind_lines front ls) cs ys ms) same r.signs) g
          (λ at us k more rest zs z e j h a s. absurd (run_sign K front bs ls ys t us k more rest zs z e j h a s));
    }
  where
    among : TextsAmong K front bs false (l ∷ more) ys (λ (at : ℕ). told_starts at (text_told [] l more ∷ r.ts))
    among at [] k others rest zs z e h b p s = inl (ap (λ (j : List Item). at + size (joined []) + size (led_by j)) (sym (split l k more zs z).0))
    among at (u ∷ us) k others rest zs z e h b p s = absurd (run_text bs (l ∷ more) ys us u k others zs t z h)

heading_after : (bs : List Bool) (l : List Item) → kind_at (length bs) l ≡ line.Heading → after bs (l ∷ []) ≡ bs
heading_after bs l e = ap (λ (k : LineKind). open_after bs (line_rows k l ++ [])) e

no_text_on : (K : Asked) (front : List Item) (bs : List Bool) (prev : Bool) (x : List Item) (ys : Lines) → (kind_at (length bs) x ≡ line.Text → ⊥) → NoText K front bs prev (x ∷ []) ys
no_text_on K front bs prev x ys nay [] l more rest zs z e h a p s =
    nay (ap (kind_at (length bs)) (split x l [] zs z).0 ∙ (told_texts bs [] l more h).0)
no_text_on K front bs prev x ys nay (u ∷ us) l more rest zs z e h a p s = some_none us l zs (split x u [] (us ++ l ∷ zs) z).1

no_sign_on : (K : Asked) (front : List Item) (bs : List Bool) (x : List Item) (ys : Lines) → (kind_at (length bs) x ≡ line.TableEnd → ⊥) → NoSign K front bs (x ∷ []) ys
no_sign_on K front bs x ys nay [] l more rest zs z e k h a s = nay (ap (kind_at (length bs)) (split x l [] zs z).0 ∙ k)
no_sign_on K front bs x ys nay (u ∷ us) l more rest zs z e k h a s = some_none us l zs (split x u [] (us ++ l ∷ zs) z).1

emit_heading : (K : Asked) (front : List Item) (bs : List Bool) (prev : Bool) (l : List Item) (ys : Lines) → kind_at (length bs) l ≡ line.Heading → Fits K front bs (heading_told [] l)
    → Scan K (behind_lines front (l ∷ [])) bs false ys → Scan K front bs prev (l ∷ ys)
emit_heading K front bs prev l ys e f r =
    let ls : Lines = l ∷ [] in
    let own : Told = heading_told [] l in
    let ts : List Told = own ∷ r.ts in
    let ms : ℕ → List ℕ = λ (at : ℕ). told_starts at r.ts in
    let ns : ℕ → List ℕ = λ (at : ℕ). told_starts at ts in
    let same : bs ≡ after bs ls = sym (heading_after bs l e) in
    let g : Later ls ms ns = λ at n i.
    let z : at + size (joined ls) ≡ at + size (joined []) + size (joined (own_lines own)) =
    omega (arith, nothing_size, ap (λ (k : List Item). size (joined (k ∷ []))) (led_whole l)) in
    inr (subst (λ (m : ℕ). IsAmongNumbers n (told_starts m r.ts)) z i) in
    record {
      ts = ts;
      behind = r.behind;
      are = ap₂ (λ (k : List Item) (zs : Lines). k ∷ zs) (sym (led_whole l)) r.are;
      told = (heading_so K front bs l f, behind_heading (sides_of (content (past_marks l))) bs r.ts r.behind r.told);
      first = λ p. tt;
      asked = (f.asked, subst (λ (k : List Item). AllMeet K (behind_lines front (k ∷ [])) r.ts) (sym (led_whole l)) r.asked);
      texts = texts_cut K front bs prev false ls ys ms ns (subst (λ (cs : List Bool). TextsIn K (behind_lines front ls) cs false ys ms) same r.texts) g (λ a. refl)
          (λ at us k more rest zs z c h a p s. absurd (no_text_on K front bs prev l ys (not_both (length bs) l e) us k more rest zs z c h a p s));
      heads = heads_cut K front bs ls ys ms ns (subst (λ (cs : List Bool). HeadsIn K (behind_lines front ls) cs ys ms) same r.heads) g among;
      signs = signs_cut K front bs ls ys ms ns (subst (λ (cs : List Bool). SignsIn K (behind_lines front ls) cs ys ms) same r.signs) g
          (λ at us k more rest zs z c j h a s. absurd (no_sign_on K front bs l ys (λ w. let wrong : line.Heading ≡ line.TableEnd = sym e ∙ w in absurd (cc))
          us k more rest zs z c j h a s));
    }
  where
    among : HeadsAmong K front bs (l ∷ []) (λ (at : ℕ). told_starts at (heading_told [] l ∷ r.ts))
    among at [] k zs z h s = inl (ap (λ (j : List Item). at + size (joined []) + size (led_by j)) (sym (split l k [] zs z).0))
    among at (u ∷ us) k zs z h s = absurd (some_none us k zs (split l u [] (us ++ k ∷ zs) z).1)

-- ---- a line or a run of text that isn't told

no_heading_on : (K : Asked) (front : List Item) (bs : List Bool) (x : List Item) → (Fits K front bs (heading_told [] x) → ⊥) → NoHeading K front bs (x ∷ [])
no_heading_on K front bs x nay [] l zs z h s =
    let same : l ≡ x = sym (split x l [] zs z).0 in
    nay (subst (λ (k : List Item). Fits K front bs (heading_told [] k)) same (heading_fits_so K front bs l h s))
no_heading_on K front bs x nay (u ∷ us) l zs z h s = some_none us l zs (split x u [] (us ++ l ∷ zs) z).1

no_text_run : (K : Asked) (front : List Item) (bs : List Bool) (prev : Bool) (l : List Item) (more ys : Lines) → AllText (length bs) (l ∷ more) → BeginApart (rows_from (length bs) ys)
    → (prev ≡ true) ⊎ (Fits K front bs (text_told [] l more) → ⊥) → NoText K front bs prev (l ∷ more) ys
no_text_run K front bs prev l more ys t a c (u ∷ us) k others rest zs z e h b p s = run_text bs (l ∷ more) ys us u k others zs t z h
no_text_run K front bs prev l more ys t a (inl c) [] k others rest zs z e h b p s = let nay : true ≡ false = sym c ∙ p refl in absurd (cc)
no_text_run K front bs prev l more ys t a (inr nay) [] k others rest zs z e h b p s =
    let same = same_run (length bs) (l ∷ more) ys (k ∷ others) rest t (told_texts bs [] k others h) a b e in
    let both = split l k more others same in
    nay (subst (λ (j : List Item). Fits K front bs (text_told [] j more)) (sym both.0) (subst (λ (js : Lines). Fits K front bs (text_told [] k js)) (sym both.1) (fits_so K front bs k others h s)))

-- ---- the scan

rest_size : (n : ℕ) (ls xs ys : Lines) → ls ≡ xs ++ ys → suc (length ls) ≤ suc n → length ys ≤ n
rest_size n ls xs ys e h = omega (arith, h, ap length e, length-append xs ys)

-- what is scanned behind some lines
abbrev Rest : Asked → ℕ → Type 0
Rest K n = (front : List Item) (bs : List Bool) (prev : Bool) (ls : Lines) → length ls ≤ n → HaveSigns ls → Scan K front bs prev ls

run_step : (K : Asked) (front : List Item) (bs : List Bool) (l : List Item) (ls : Lines) (prev : Bool) (r : Run (length bs) l ls) → Decided (Fits K front bs (text_told [] l r.more))
    → Scan K (behind_lines front (l ∷ r.more)) bs true r.rest → Scan K front bs prev ((l ∷ r.more) ++ r.rest)
run_step K front bs l ls true r d s =
    skip K front bs true true l r.more r.rest (run_ends bs l r.more r.texts) (λ e. absurd (cc)) (no_text_run K front bs true l r.more r.rest r.texts r.apart (inl refl))
    (run_heading K front bs (l ∷ r.more) r.texts) (run_sign K front bs (l ∷ r.more) r.rest r.texts) (subst (λ (cs : List Bool). Scan K (behind_lines front (l ∷ r.more)) cs true r.rest) (sym (texts_after bs (l ∷ r.more) r.texts)) s)
run_step K front bs l ls false r (inl f) s = emit_text K front bs l r.more r.rest r.texts r.apart f s
run_step K front bs l ls false r (inr nay) s =
    skip K front bs false true l r.more r.rest (run_ends bs l r.more r.texts) (λ e. absurd (cc)) (no_text_run K front bs false l r.more r.rest r.texts r.apart (inr nay))
    (run_heading K front bs (l ∷ r.more) r.texts) (run_sign K front bs (l ∷ r.more) r.rest r.texts) (subst (λ (cs : List Bool). Scan K (behind_lines front (l ∷ r.more)) cs true r.rest) (sym (texts_after bs (l ∷ r.more) r.texts)) s)

-- ---- a line with a table's end

-- what a text is behind its sign, and the tables that are open there
abbrev IsEndLine : List Bool → List Item → Type 0
IsEndLine bs l = (kind_at (length bs) l ≡ line.TableEnd) × IsEndSign (end_sign l)

sign_is : (bs : List Bool) (l : List Item) (more : Lines) → IsEndLine bs l → IsSigned bs (sign_told [] l more)
sign_is bs l more h = by (end_sign l) h.1
  where
    by : (s : List Item) → IsEndSign s → IsSignFor a_paragraph (length bs) [] s
    by [] g = tt
    by (x ∷ xs) g = (g, some_tables (length bs) l h.0)

sign_tables : (bs : List Bool) (l : List Item) (more : Lines) → IsEndLine bs l → tables_at bs (sign_told [] l more) ≡ open_behind bs line.TableEnd
sign_tables bs l more h = by (end_sign l) h.1 (length bs) (some_tables (length bs) l h.0)
  where
    by : (s : List Item) → IsEndSign s → (n : ℕ) → 1 ≤ n → open_after bs (written_rows n (front_lines [] s)) ≡ open_behind bs line.TableEnd
    by [] g n some = absurd (none_sign g)
    by (x ∷ xs) g zero some = absurd (omega (arith, some))
    by (x ∷ xs) g (suc n) some =
        ap (λ (k : LineKind). open_after bs (line_rows k (x ∷ xs) ++ [])) (end_kind n (x ∷ xs) g) ∙ ap (λ (rs : List Row). open_after bs (rs ++ [])) (alone_rows (x ∷ xs) g)

-- behind its line, too
line_tables : (bs : List Bool) (l : List Item) → kind_at (length bs) l ≡ line.TableEnd → is_unseen (past_end l) ≡ false → after bs (l ∷ []) ≡ open_behind bs line.TableEnd
line_tables bs l k u =
    ap (λ (j : LineKind). open_after bs (line_rows j l ++ [])) k ∙ ap (λ (rs : List Row). open_after bs (rs ++ [])) (end_rows_are l u)

run_tables : (bs : List Bool) (l : List Item) (more : Lines) → kind_at (length bs) l ≡ line.TableEnd → is_unseen (past_end l) ≡ false
    → AllText (length (open_behind bs line.TableEnd)) more → after bs (l ∷ more) ≡ open_behind bs line.TableEnd
run_tables bs l more k u t =
    let one : after bs (l ∷ []) ≡ open_behind bs line.TableEnd = line_tables bs l k u in
    after_both bs (l ∷ []) more ∙ ap (λ (cs : List Bool). after cs more) one ∙ texts_after (open_behind bs line.TableEnd) more t

-- what is behind the sign ends with text
tail_text : (rs : List Row) (r : Row) → is_text r.kind ≡ true → EndApart (rs ++ r ∷ []) → ⊥
tail_text [] r e h = let wrong : true ≡ false = sym e ∙ h in absurd (cc)
tail_text (x ∷ []) r e h = let wrong : true ≡ false = sym e ∙ h in absurd (cc)
tail_text (x ∷ y ∷ rs) r e h = tail_text (y ∷ rs) r e h

sign_ends : (bs : List Bool) (l : List Item) (more : Lines) → kind_at (length bs) l ≡ line.TableEnd → is_unseen (past_end l) ≡ false
    → AllText (length (open_behind bs line.TableEnd)) more → EndApart (written_rows (length bs) (l ∷ more)) → ⊥
sign_ends bs l [] k u t e =
    tail_text (sign_row line.TableEnd (idle_len l) 2 l [] ∷ []) (whole_row line.Text (marks_len (past_end l)) (past_end l)) refl
    (subst EndApart (ap (λ (j : LineKind). line_rows j l ++ []) k ∙ ap (λ (rs : List Row). rs ++ []) (end_rows_are l u)) e)
sign_ends bs l (m ∷ more) k u t e =
    let one : after bs (l ∷ []) ≡ open_behind bs line.TableEnd = line_tables bs l k u in
    let later : EndApart (written_rows (length (after bs (l ∷ []))) (m ∷ more)) =
    end_suffix (written_rows (length bs) (l ∷ [])) (written_rows (length (after bs (l ∷ []))) (m ∷ more)) (subst EndApart (rows_behind bs (l ∷ []) (m ∷ more)) e) in
    texts_end (length (open_behind bs line.TableEnd)) m more t (subst (λ (cs : List Bool). EndApart (written_rows (length cs) (m ∷ more))) one later)

-- the lines behind its own
record LaterRun (n : ℕ) (ls : Lines) : Type 0 where
  more : Lines
  rest : Lines
  are : ls ≡ more ++ rest
  texts : AllText n more
  apart : BeginApart (rows_from n rest)

later_run : (n : ℕ) (ls : Lines) → LaterRun n ls
later_run n [] = record { more = []; rest = []; are = refl; texts = tt; apart = none_apart n }
later_run n (x ∷ xs) = by (kind_decided (kind_at n x))
  where
    by : Decided (kind_at n x ≡ line.Text) → LaterRun n (x ∷ xs)
    by (inl e) =
        let r : Run n x xs = run_of n x xs e in
        record { more = x ∷ r.more; rest = r.rest; are = ap (λ (ls : Lines). x ∷ ls) r.are; texts = r.texts; apart = r.apart }
    by (inr nay) = record { more = []; rest = x ∷ xs; are = refl; texts = tt; apart = begins_other n x xs nay }

-- where it is told, its lines are these
told_later : (bs : List Bool) (l : List Item) (more : Lines) → IsEndLine bs l → IsToldAt bs (sign_told [] l more) → AllText (length (open_behind bs line.TableEnd)) more
told_later bs l more h t =
    subst (λ (cs : List Bool). AllText (length cs) more) (sign_tables bs l more h)
    (by (end_sign l) h.1 (length (tables_at bs (sign_told [] l more))) t.own.0)
  where
    by : (s : List Item) → IsEndSign s → (n : ℕ) → AreLinesOn s n (past_marks (past_end l) ∷ more) → AllText n more
    by [] g n own = absurd (none_sign g)
    by (x ∷ xs) g n own = told_all n more own.1

told_seen : (bs : List Bool) (l : List Item) (more : Lines) → IsEndSign (end_sign l) → IsToldAt bs (sign_told [] l more) → is_unseen (past_end l) ≡ false
told_seen bs l more h t =
    ap is_unseen (sym (led_whole (past_end l)))
    ∙ seen_led (led_by (past_end l)) (past_marks (past_end l)) (led_marks (past_end l)) t.some (by (end_sign l) h (length (tables_at bs (sign_told [] l more))) t.own.0)
  where
    by : (s : List Item) → IsEndSign s → (n : ℕ) → AreLinesOn s n (past_marks (past_end l) ∷ more) → is_unseen (past_marks (past_end l)) ≡ false
    by [] g n own = absurd (none_sign g)
    by (x ∷ xs) g n own = own.0

none_first : (s : List Item) → IsEndSign s → AreLines (front_lines [] s)
none_first [] g = absurd (none_sign g)
none_first (x ∷ s) g = tt

emit_sign : (K : Asked) (front : List Item) (bs : List Bool) (prev : Bool) (l : List Item) (more ys : Lines) → IsEndLine bs l → is_unseen (past_end l) ≡ false
    → AllText (length (open_behind bs line.TableEnd)) more → BeginApart (rows_from (length (open_behind bs line.TableEnd)) ys) → Fits K front bs (sign_told [] l more)
    → Scan K (behind_lines front (l ∷ more)) (open_behind bs line.TableEnd) true ys → Scan K front bs prev ((l ∷ more) ++ ys)
emit_sign K front bs prev l more ys h u t a f r =
    let ls : Lines = l ∷ more in
    let own : Told = sign_told [] l more in
    let ts : List Told = own ∷ r.ts in
    let ms : ℕ → List ℕ = λ (at : ℕ). told_starts at r.ts in
    let ns : ℕ → List ℕ = λ (at : ℕ). told_starts at ts in
    let now : List Bool = open_behind bs line.TableEnd in
    let same : now ≡ after bs ls = sym (run_tables bs l more h.0 u t) in
    let tables : now ≡ tables_at bs own = sym (sign_tables bs l more h) in
    let whole : (end_sign l ++ led_by (past_end l)) ++ past_marks (past_end l) ≡ l = sign_whole l in
    let g : Later ls ms ns = λ at n i.
    let z : at + size (joined ls) ≡ at + size (joined []) + size (joined (own_lines own)) =
    omega (arith, nothing_size, ap (λ (k : List Item). size (joined (k ∷ more))) whole) in
    inr (subst (λ (m : ℕ). IsAmongNumbers n (told_starts m r.ts)) z i) in
    record {
      ts = ts;
      behind = r.behind;
      are = ap₂ (λ (k : List Item) (zs : Lines). (k ∷ more) ++ zs) (sym whole) r.are;
      told = (
        sign_so K front bs l more f,
        subst (λ (cs : List Bool). AreToldAfter a_paragraph cs r.ts r.behind) tables
            (behind_text now r.ts r.behind r.told (r.first refl) (subst (λ (zs : Lines). BeginApart (rows_from (length now) zs)) r.are a)),
      );
      first = λ e. none_first (end_sign l) h.1;
      asked = (f.asked, subst (λ (k : List Item). AllMeet K (behind_lines front (k ∷ more)) r.ts) (sym whole) r.asked);
      texts = texts_cut K front bs prev true ls ys ms ns (subst (λ (cs : List Bool). TextsIn K (behind_lines front ls) cs true ys ms) same r.texts) g
          (λ e. absurd (sign_ends bs l more h.0 u t e)) (λ at us k others rest zs z e j b p s. absurd (no_texts us k others rest zs z e j b p s));
      heads = heads_cut K front bs ls ys ms ns (subst (λ (cs : List Bool). HeadsIn K (behind_lines front ls) cs ys ms) same r.heads) g
          (λ at us k zs z j s. absurd (no_heads us k zs z j s));
      signs = signs_cut K front bs ls ys ms ns (subst (λ (cs : List Bool). SignsIn K (behind_lines front ls) cs ys ms) same r.signs) g among;
    }
  where
    -- a line behind the sign's is text, and before it is text
    later_text : (us zs : Lines) (x : List Item) → more ≡ us ++ x ∷ zs → kind_at (length (after bs (l ∷ us))) x ≡ line.Text
    later_text us zs x z =
        let n : ℕ = length (open_behind bs line.TableEnd) in
        let all : AllText n (us ++ x ∷ zs) = subst (AllText n) z t in
        subst (λ (cs : List Bool). kind_at (length cs) x ≡ line.Text) (sym (run_tables bs l us h.0 u (texts_first n us (x ∷ zs) all))) (texts_at n us x zs all)

    no_texts : NoText K front bs prev (l ∷ more) ys
    no_texts [] k others rest zs z e j b p s =
        let text : kind_at (length bs) l ≡ line.Text = ap (kind_at (length bs)) (split l k more zs z).0 ∙ (told_texts bs [] k others j).0 in
        let wrong : line.TableEnd ≡ line.Text = sym h.0 ∙ text in absurd (cc)
    no_texts (v ∷ us) k others rest zs z e j b p s =
        let n : ℕ = length (open_behind bs line.TableEnd) in
        let q = split l v more (us ++ k ∷ zs) z in
        let before : AllText n us = texts_first n us (k ∷ zs) (subst (AllText n) q.1 t) in
        sign_ends bs l us h.0 u before (subst (λ (w : List Item). EndApart (written_rows (length bs) (w ∷ us))) (sym q.0) j.apart)

    no_heads : NoHeading K front bs (l ∷ more)
    no_heads [] k zs z j s =
        let head : kind_at (length bs) l ≡ line.Heading = ap (kind_at (length bs)) (split l k more zs z).0 ∙ told_heading bs [] k j in
        let wrong : line.TableEnd ≡ line.Heading = sym h.0 ∙ head in absurd (cc)
    no_heads (v ∷ us) k zs z j s =
        let q = split l v more (us ++ k ∷ zs) z in
        let head : kind_at (length (after bs (l ∷ us))) k ≡ line.Heading =
        subst (λ (w : List Item). kind_at (length (after bs (w ∷ us))) k ≡ line.Heading) (sym q.0) (told_heading bs (v ∷ us) k j) in
        not_both (length (after bs (l ∷ us))) k head (later_text us zs k q.1)

    among : SignsAmong K front bs (l ∷ more) ys (λ (at : ℕ). told_starts at (sign_told [] l more ∷ r.ts))
    among at [] k others rest zs z e j b p s =
        inl (ap (λ (w : List Item). at + size (joined []) + size (end_sign w ++ led_by (past_end w))) (sym (split l k more zs z).0))
    among at (v ∷ us) k others rest zs z e j b p s =
        let q = split l v more (us ++ k ∷ zs) z in
        let end : kind_at (length (after bs (l ∷ us))) k ≡ line.TableEnd =
        subst (λ (w : List Item). kind_at (length (after bs (w ∷ us))) k ≡ line.TableEnd) (sym q.0) j in
        let wrong : line.TableEnd ≡ line.Text = sym end ∙ later_text us zs k q.1 in absurd (cc)

-- ---- a line that isn't told

-- nothing is told behind its sign
no_sign_told : (K : Asked) (front : List Item) (bs : List Bool) (l : List Item) (ys : Lines) (r : LaterRun (length (open_behind bs line.TableEnd)) ys) → IsEndLine bs l
    → (Fits K front bs (sign_told [] l r.more) → ⊥) → NoSign K front bs (l ∷ []) ys
no_sign_told K front bs l ys r h nay (v ∷ us) k more rest zs z e j t a s = some_none us k zs (split l v [] (us ++ k ∷ zs) z).1
no_sign_told K front bs l ys r h nay [] k more rest zs z e j t a s =
    let own : l ≡ k = (split l k [] zs z).0 in
    let n : ℕ = length (open_behind bs line.TableEnd) in
    let told : IsToldAt bs (sign_told [] l more) = subst (λ (w : List Item). IsToldAt bs (sign_told [] w more)) (sym own) t in
    let meets : Meets K front (sign_told [] l more) = subst (λ (w : List Item). Meets K front (sign_told [] w more)) (sym own) s in
    let later : AllText n more = told_later bs l more h told in
    let stops : BeginApart (rows_from n rest) =
    subst (λ (cs : List Bool). BeginApart (rows_from (length cs) rest)) (sign_tables bs l more h)
    (subst (λ (w : List Item). BeginApart (rows_from (length (tables_at bs (sign_told [] w more))) rest)) (sym own) a) in
    let lines : r.more ++ r.rest ≡ more ++ rest = sym r.are ∙ (split l k ys (more ++ rest) e).1 in
    let same : r.more ≡ more = same_run n r.more r.rest more rest r.texts later r.apart stops lines in
    nay (subst (λ (ws : Lines). Fits K front bs (sign_told [] l ws)) (sym same) (sign_fits_so K front bs l more told meets))

-- nothing is behind it
no_sign_seen : (K : Asked) (front : List Item) (bs : List Bool) (l : List Item) (ys : Lines) → IsEndSign (end_sign l) → is_unseen (past_end l) ≡ true
    → NoSign K front bs (l ∷ []) ys
no_sign_seen K front bs l ys h u (v ∷ us) k more rest zs z e j t a s = some_none us k zs (split l v [] (us ++ k ∷ zs) z).1
no_sign_seen K front bs l ys h u [] k more rest zs z e j t a s =
    let told : IsToldAt bs (sign_told [] l more) = subst (λ (w : List Item). IsToldAt bs (sign_told [] w more)) (sym (split l k [] zs z).0) t in
    let wrong : true ≡ false = sym u ∙ told_seen bs l more h told in absurd (cc)

-- it is one line, and the next may be anything
skip_line : (K : Asked) (n : ℕ) (front : List Item) (bs : List Bool) (prev : Bool) (l : List Item) (ls : Lines) → suc (length ls) ≤ suc n
    → (kind_at (length bs) l ≡ line.Text → ⊥) → (Fits K front bs (heading_told [] l) → ⊥) → NoSign K front bs (l ∷ []) ls → HaveSigns ls → Rest K n
    → Scan K front bs prev (l ∷ ls)
skip_line K n front bs prev l ls h nay f none e go =
    let rows : List Row = written_rows (length bs) (l ∷ []) in
    skip K front bs prev (last_text rows) l [] ls (apart_last rows) (last_apart rows) (no_text_on K front bs prev l ls nay) (no_heading_on K front bs l f) none
    (go (front ++ l) (after bs (l ∷ [])) (last_text rows) ls (rest_size n ls [] ls refl h) e)

end_step : (K : Asked) → Answered K → (n : ℕ) (front : List Item) (bs : List Bool) (prev : Bool) (l : List Item) (ls : Lines) → suc (length ls) ≤ suc n
    → IsEndLine bs l → HaveSigns ls → Rest K n → Scan K front bs prev (l ∷ ls)
end_step K d n front bs prev l ls h own e go = by (is_unseen (past_end l)) refl
  where
    now : List Bool
    now = open_behind bs line.TableEnd

    r : LaterRun (length now) ls
    r = later_run (length now) ls

    other : NoSign K front bs (l ∷ []) ls → Scan K front bs prev (l ∷ ls)
    other none =
        skip_line K n front bs prev l ls h (λ t. let wrong : line.TableEnd ≡ line.Text = sym own.0 ∙ t in absurd (cc))
        (λ f. let wrong : line.TableEnd ≡ line.Heading = sym own.0 ∙ (sym (kind_led (length bs) l f.bare.1) ∙ f.own.is_heading) in absurd (cc)) none e go

    fits : is_unseen (past_end l) ≡ false → Decided (Fits K front bs (sign_told [] l r.more)) → Scan K front bs prev (l ∷ ls)
    fits u (inl f) =
        subst (Scan K front bs prev) (ap (λ (xs : Lines). l ∷ xs) (sym r.are))
        (emit_sign K front bs prev l r.more r.rest own u r.texts r.apart f
        (go (behind_lines front (l ∷ r.more)) now true r.rest (rest_size n ls r.more r.rest r.are h) (signs_behind r.more r.rest (subst HaveSigns r.are e))))
    fits u (inr nay) = other (no_sign_told K front bs l ls r own nay)

    by : (v : Bool) → is_unseen (past_end l) ≡ v → Scan K front bs prev (l ∷ ls)
    by true u = other (no_sign_seen K front bs l ls own.1 u)
    by false u = fits u (sign_fits K d front bs l r.more (sign_is bs l r.more own))

other_step : (K : Asked) (n : ℕ) (front : List Item) (bs : List Bool) (prev : Bool) (l : List Item) (ls : Lines) → suc (length ls) ≤ suc n
    → (kind_at (length bs) l ≡ line.Text → ⊥) → (kind_at (length bs) l ≡ line.TableEnd → ⊥) → Decided (Fits K front bs (heading_told [] l)) → HaveSigns ls → Rest K n
    → Scan K front bs prev (l ∷ ls)
other_step K n front bs prev l ls h nay no_end (inl f) e go =
    let own : kind_at (length bs) l ≡ line.Heading = sym (kind_led (length bs) l f.bare.1) ∙ f.own.is_heading in
    emit_heading K front bs prev l ls own f (go (front ++ l) bs false ls (rest_size n ls [] ls refl h) e)
other_step K n front bs prev l ls h nay no_end (inr f) e go = skip_line K n front bs prev l ls h nay f (no_sign_on K front bs l ls no_end) e go

step : (K : Asked) → Answered K → (n : ℕ) (front : List Item) (bs : List Bool) (prev : Bool) (l : List Item) (ls : Lines) → suc (length ls) ≤ suc n
    → Decided (kind_at (length bs) l ≡ line.Text) → Decided (kind_at (length bs) l ≡ line.TableEnd) → HaveSigns (l ∷ ls) → Rest K n → Scan K front bs prev (l ∷ ls)
step K d n front bs prev l ls h (inl e) end s go =
    let r : Run (length bs) l ls = run_of (length bs) l ls e in
    subst (Scan K front bs prev) (ap (λ (xs : Lines). l ∷ xs) (sym r.are))
    (run_step K front bs l ls prev r (text_fits K d front bs l r.more)
    (go (behind_lines front (l ∷ r.more)) bs true r.rest (rest_size n ls r.more r.rest r.are h) (signs_behind r.more r.rest (subst HaveSigns r.are s.1))))
step K d n front bs prev l ls h (inr nay) (inl end) s go = end_step K d n front bs prev l ls h (end, s.0 (length bs) end) s.1 go
step K d n front bs prev l ls h (inr nay) (inr no_end) s go = other_step K n front bs prev l ls h nay no_end (heading_fits K d front bs l) s.1 go

pub scan : (K : Asked) → Answered K → (n : ℕ) (front : List Item) (bs : List Bool) (prev : Bool) (ls : Lines) → length ls ≤ n → HaveSigns ls → Scan K front bs prev ls
scan K d n front bs prev [] h s = record {
  ts = [];
  behind = [];
  are = refl;
  told = tt;
  first = λ e. tt;
  asked = tt;
  texts = λ at us l more rest e. absurd (some_none us l (more ++ rest) e);
  heads = λ at us l rest e. absurd (some_none us l rest e);
  signs = λ at us l more rest e. absurd (some_none us l (more ++ rest) e);
}
scan K d zero front bs prev (l ∷ ls) h s = absurd (omega (arith, h))
scan K d (suc n) front bs prev (l ∷ ls) h s =
    step K d n front bs prev l ls h (kind_decided (kind_at (length bs) l)) (end_decided (kind_at (length bs) l)) s (λ us cs v ys e g. scan K d n us cs v ys e g)

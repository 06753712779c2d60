-- A paragraph behind the sign of a table's end on its line, told by its lines.
use Rattle.std.proofs.Common.{arith, ◌≡◌, ◌≤◌, inl, ℕ, Bool, true, false, List, [], ◌∷◌, ◌++◌, length, map, refl, sym, ap, ◌∙◌, subst, append-nil}
use Rattle.std.specs.Prelude.{◌==◌, ◌&&◌, if◌then◌else◌}
use Rattle.std.specs.List.{list_all}
use Rattle.wt_span.specs.Items.{Item, char, whole, is_mark, sign, sources}
use Rattle.wt_lines.specs.declared.kind.LineKind.{LineKind}
use Rattle.wt_lines.specs.declared.kind.LineKind.TheVariants as line
use Rattle.wt_lines.specs.Kinds.{is_idle, past}
use Rattle.wt_lines.specs.Lines.{is_break_item, content}
use Rattle.wt_tables.specs.Extents.{behind as tables_after}
use Rattle.wt_tables.specs.Parts.{joined}
use Rattle.wt_page.specs.Lines.{kind_at}
use Rattle.wt_page.specs.Rows.{Row, marks_len, is_unseen, line_rows, rows_from}
use Rattle.wt_part_laws.specs.Slots.{open_behind, AllTrue}
use Rattle.wt_text_edit_laws.specs.ParagraphBetween.{written_rows, tables_behind, EndApart, BeginApart}
use Rattle.wt_text_edit_laws.specs.ReadContents.{BeginsUnclosed}
use Rattle.wt_text_edit_laws.specs.TextBlocks.{a_paragraph}
use Rattle.wt_text_edit_laws.proofs.Paragraphs.Marks.{mark_sign}
use Rattle.wt_called_edit_laws.specs.AnyBlocks.{open_after}
use Rattle.wt_called_edit_laws.specs.CallingTold.{as_block}
use Rattle.wt_called_edit_laws.specs.LinedCalling.{IsCallingAt}
use Rattle.wt_called_edit_laws.specs.RowBlocks.{end_sign, past_end, begins_past, AreOfText}
use Rattle.wt_called_edit_laws.specs.SignLines.{front_lines}
use Rattle.wt_called_edit_laws.specs.TableEnds.{IsEndSign}
use Rattle.wt_called_edit_laws.specs.ToldLines.{a_paragraph_of, IsToldAt}
use Rattle.wt_called_edit_laws.specs.ToldTogether.{start_of}
use Rattle.wt_called_edit_laws.proofs.AllTold.EndSigns.{some_tables, end_alone, none_sign, HaveSigns, signs_behind}
use Rattle.wt_called_edit_laws.proofs.AllTold.Found.{size_both}
use Rattle.wt_called_edit_laws.proofs.AllTold.LineKinds.{Lines, led_by, past_marks, led_whole, led_marks, written_both, tables_both, after, end_behind}
use Rattle.wt_called_edit_laws.proofs.AllTold.Opens.{open_both}
use Rattle.wt_called_edit_laws.proofs.AllTold.Scans.{Decided, bool_decided, tables_at, sign_told}
use Rattle.wt_called_edit_laws.proofs.AllTold.TextFacts.{text_lines_at, past_unled, first_unled}
use Rattle.wt_called_edit_laws.proofs.Cells.SignRows.{end_row, alone_rows}
use Rattle.wt_called_edit_laws.proofs.Cells.SpotSlots.{open_size}

-- ---- what is seen behind the marks

and_first : (a b : Bool) → (a && b) ≡ true → a ≡ true
and_first true b e = refl
and_first false b e = absurd (cc)

and_rest : (a b : Bool) → (a && b) ≡ true → b ≡ true
and_rest true b e = e
and_rest false b e = absurd (cc)

mark_goes : (m : Item) → is_mark m ≡ true → is_break_item m ≡ false
mark_goes (char o b) e = absurd (cc)
mark_goes (whole f o bs) e = refl

past_mark : (m : Item) (ss : List ℕ) → is_mark m ≡ true → past is_idle (sign m ∷ ss) ≡ past is_idle ss
past_mark m ss e = ap (λ (s : ℕ). past is_idle (s ∷ ss)) (mark_sign m e)

-- marks alone are nothing that is seen, and before others they don't matter
marks_past : (ms : List Item) → list_all is_mark ms ≡ true → past is_idle (map sign (content ms)) ≡ []
marks_past [] h = refl
marks_past (m ∷ []) h =
    let own : is_mark m ≡ true = and_first (is_mark m) true h in
    ap (λ (v : Bool). past is_idle (map sign (if v then [] else m ∷ []))) (mark_goes m own) ∙ past_mark m [] own
marks_past (m ∷ n ∷ ms) h =
    past_mark m (map sign (content (n ∷ ms))) (and_first (is_mark m) (list_all is_mark (n ∷ ms)) h) ∙ marks_past (n ∷ ms) (and_rest (is_mark m) (list_all is_mark (n ∷ ms)) h)

past_same : (ms : List Item) (y : Item) (ys : List Item) → list_all is_mark ms ≡ true
    → past is_idle (map sign (content (ms ++ y ∷ ys))) ≡ past is_idle (map sign (content (y ∷ ys)))
past_same [] y ys h = refl
past_same (m ∷ []) y ys h = past_mark m (map sign (content (y ∷ ys))) (and_first (is_mark m) true h)
past_same (m ∷ n ∷ ms) y ys h =
    past_mark m (map sign (content (n ∷ (ms ++ y ∷ ys)))) (and_first (is_mark m) (list_all is_mark (n ∷ ms)) h)
    ∙ past_same (n ∷ ms) y ys (and_rest (is_mark m) (list_all is_mark (n ∷ ms)) h)

record SeenPast (l : List Item) : Type 0 where
  pub some : 1 ≤ length (past_marks l)
  pub seen : is_unseen (past_marks l) ≡ false

seen_by : (ms f : List Item) → list_all is_mark ms ≡ true → is_unseen (ms ++ f) ≡ false → (1 ≤ length f) × (is_unseen f ≡ false)
seen_by ms [] all u =
    let none : is_unseen (ms ++ []) ≡ true =
    ap is_unseen (append-nil ms) ∙ ap (λ (ss : List ℕ). length ss == 0) (marks_past ms all) in
    let wrong : true ≡ false = sym none ∙ u in absurd (cc)
seen_by ms (y ∷ ys) all u = (omega arith, ap (λ (ss : List ℕ). length ss == 0) (sym (past_same ms y ys all)) ∙ u)

pub seen_past : (l : List Item) → is_unseen l ≡ false → (1 ≤ length (past_marks l)) × (is_unseen (past_marks l) ≡ false)
seen_past l u = seen_by (led_by l) (past_marks l) (led_marks l) (ap is_unseen (led_whole l) ∙ u)

-- ---- the rows before it

-- the sign's own row
sign_written : (n : ℕ) (s : List Item) (h : IsEndSign s) → 1 ≤ n → written_rows n (s ∷ []) ≡ end_row h ∷ []
sign_written n s h some = ap (λ (k : LineKind). line_rows k s ++ []) (end_alone n s h some) ∙ ap (λ (rs : List Row). rs ++ []) (alone_rows s h)

fronts_written : (before : Lines) (x : Item) (xs : List Item) (h : IsEndSign (x ∷ xs)) → 1 ≤ tables_behind 0 before
    → written_rows 0 (front_lines before (x ∷ xs)) ≡ written_rows 0 before ++ end_row h ∷ []
fronts_written before x xs h some =
    written_both 0 before ((x ∷ xs) ∷ []) ∙ ap (λ (rs : List Row). written_rows 0 before ++ rs) (sign_written (tables_behind 0 before) (x ∷ xs) h some)

fronts_open : (before : Lines) (x : Item) (xs : List Item) → IsEndSign (x ∷ xs) → 1 ≤ tables_behind 0 before
    → open_after [] (written_rows 0 (front_lines before (x ∷ xs))) ≡ open_behind (open_after [] (written_rows 0 before)) line.TableEnd
fronts_open before x xs h some = ap (open_after []) (fronts_written before x xs h some) ∙ open_both [] (written_rows 0 before) (end_row h ∷ [])

fronts_count : (before : Lines) (x : Item) (xs : List Item) → IsEndSign (x ∷ xs) → 1 ≤ tables_behind 0 before
    → tables_after (tables_behind 0 before) line.TableEnd ≡ length (open_after [] (written_rows 0 (front_lines before (x ∷ xs))))
fronts_count before x xs h some =
    ap (tables_after (tables_behind 0 before)) (sym (end_alone (tables_behind 0 before) (x ∷ xs) h some)) ∙ sym (tables_both 0 before ((x ∷ xs) ∷ []))
    ∙ open_size [] 0 (front_lines before (x ∷ xs)) refl

-- ---- the paragraph

-- behind a sign, where its own text begins with no `}`
told_on : (before : Lines) (s m f : List Item) (others : Lines) → IsEndSign s → 1 ≤ tables_behind 0 before → list_all is_mark m ≡ true → 1 ≤ length f → is_unseen f ≡ false
    → marks_len (content (joined (f ∷ others))) ≡ 0 → BeginsUnclosed (sources (content (joined (f ∷ others))))
    → AllTrue (open_behind (open_after [] (written_rows 0 before)) line.TableEnd) → AreOfText (tables_after (tables_behind 0 before) line.TableEnd) others
    → IsToldAt [] (a_paragraph_of before s m f others)
told_on before [] m f others h some marks more seen unled apart cells texts = absurd (none_sign h)
told_on before (x ∷ xs) m f others h some marks more seen unled apart cells texts = record {
  sign = (h, some);
  unclosed = apart;
  are_marks = marks;
  some = more;
  in_cells = subst AllTrue (sym (fronts_open before x xs h some)) cells;
  apart = subst EndApart (sym (fronts_written before x xs h some)) (end_behind (written_rows 0 before) (end_row h) [] refl);
  own = (
    (
      seen,
      text_lines_at (length (open_after [] (written_rows 0 (front_lines before (x ∷ xs))))) others
          (subst (λ (n : ℕ). AreOfText n others) (fronts_count before x xs h some) texts),
    ),
    unled,
  );
}

count_on : (before : Lines) (s : List Item) → IsEndSign s → 1 ≤ tables_behind 0 before
    → tables_after (tables_behind 0 before) line.TableEnd ≡ length (open_after [] (written_rows 0 (front_lines before s)))
count_on before [] h some = absurd (none_sign h)
count_on before (x ∷ xs) h some = fronts_count before x xs h some

pub unclosed_decided : (q : List ℕ) → Decided (BeginsUnclosed q)
unclosed_decided [] = inl tt
unclosed_decided (b ∷ q) = bool_decided (b == 125) false

-- a line of a table's end with a text behind it, and the lines of text that follow it
pub record IsEndBlock (before : Lines) (own : List Item) (others behind : Lines) : Type 0 where
  pub kind : kind_at (tables_behind 0 before) own ≡ line.TableEnd
  pub seen : is_unseen (past_end own) ≡ false
  pub cells : AllTrue (open_behind (open_after [] (written_rows 0 before)) line.TableEnd)
  pub texts : AreOfText (tables_after (tables_behind 0 before) line.TableEnd) others
  pub stops : BeginApart (rows_from (tables_after (tables_behind 0 before) line.TableEnd) behind)

-- its text as bytes
abbrev pub end_text : List Item → Lines → List ℕ
end_text own others = sources (content (joined (past_marks (past_end own) ∷ others)))

-- told by these lines
pub record IsEndTold (before : Lines) (own : List Item) (others behind : Lines) : Type 0 where
  pub sign : IsEndSign (end_sign own)
  pub some : 1 ≤ length (past_marks (past_end own))
  pub seen : is_unseen (past_marks (past_end own)) ≡ false
  pub told : IsToldAt [] (sign_told before own others)
  pub stops : BeginApart (rows_from (length (tables_at [] (sign_told before own others))) behind)
  pub kind : kind_at (length (after [] before)) own ≡ line.TableEnd
  pub texts : AreOfText (length (tables_at [] (sign_told before own others))) others

pub end_told : (ls before : Lines) (own : List Item) (others behind : Lines) → HaveSigns ls → ls ≡ before ++ ((own ∷ others) ++ behind)
    → IsEndBlock before own others behind → BeginsUnclosed (end_text own others) → IsEndTold before own others behind
end_told ls before own others behind signs are b apart =
    let h : IsEndSign (end_sign own) =
    (signs_behind before ((own ∷ others) ++ behind) (subst HaveSigns are signs)).0 (tables_behind 0 before) b.kind in
    let some : 1 ≤ tables_behind 0 before = some_tables (tables_behind 0 before) own b.kind in
    let p = seen_past (past_end own) b.seen in
    let unled : marks_len (content (joined (past_marks (past_end own) ∷ others))) ≡ 0 =
    first_unled (past_marks (past_end own)) (joined others) p.0 (past_unled (past_end own)) in
    let count = count_on before (end_sign own) h some in
    record {
      sign = h;
      some = p.0;
      seen = p.1;
      told = told_on before (end_sign own) (led_by (past_end own)) (past_marks (past_end own)) others h some (led_marks (past_end own)) p.0 p.1 unled apart b.cells b.texts;
      stops = subst (λ (n : ℕ). BeginApart (rows_from n behind)) count b.stops;
      kind = subst (λ (n : ℕ). kind_at n own ≡ line.TableEnd) (open_size [] 0 before refl) b.kind;
      texts = subst (λ (n : ℕ). AreOfText n others) count b.texts;
    }

pub end_begins : (before : Lines) (own : List Item) (others : Lines) → begins_past before (end_sign own) (past_end own) ≡ start_of 0 (sign_told before own others)
end_begins before own others = omega (arith, size_both (end_sign own) (led_by (past_end own)))

-- as a block with any source
pub calling_on : (open_tables : List Bool) (b : Lines) (s m f : List Item) (r : Lines) (q : List ℕ) → IsToldAt open_tables (a_paragraph_of b s m f r)
    → IsCallingAt open_tables (as_block b s m f r a_paragraph q)
calling_on open_tables b s m f r q h =
    record { sign = h.sign; are_marks = h.are_marks; some = h.some; in_cells = h.in_cells; apart = h.apart; own = h.own.0 }

-- A line that stands behind the pieces of rows before it has rows.
use Rattle.std.proofs.Common.{◌≡◌, ◌≤◌, ℕ, ◌+◌, ◌-◌, List, [], ◌∷◌, ◌++◌, length, take, drop, refl, sym, ap, ◌∙◌, subst, arith, append_assoc, append-nil, length-append, length-drop}
use Rattle.std.proofs.lemmas.List.{drop_all, take_all, take-append-drop, length-take, length-take-le}
use Rattle.std.proofs.lemmas.List.Elements.{All-drop, All-take}
use Rattle.wt_span.specs.declared.form.Piece.{Piece}
use Rattle.wt_span.specs.Items.{Item, items}
use Rattle.wt_span.specs.Origins.{IsSoundPiece}
use Rattle.wt_lines.specs.declared.kind.LineKind.{LineKind}
use Rattle.wt_lines.specs.declared.kind.LineKind.TheVariants as kind
use Rattle.wt_lines.specs.Kinds.{past, is_idle, is_mark_sign}
use Rattle.wt_lines.specs.Lines.{IsUnbroken, content, full_lines}
use Rattle.wt_lines.specs.Pieces.{AreLeadingMarks}
use Rattle.wt_tables.specs.Extents.{behind}
use Rattle.wt_page.specs.Lines.{kind_at, ending}
use Rattle.wt_page.proofs.Pieces.{parted_rest, parted_front}
use Rattle.wt_rows.specs.declared.row.RowAt.{RowAt}
use Rattle.wt_page.specs.Rows.{Row, signs, marks_len, line_rows, rows_from}
use Rattle.wt_rows.specs.Views.{rows_view}
use Rattle.wt_rows.specs.Ready.{Begins}
use Rattle.wt_rows.specs.Unread.{IsBehind}
use Rattle.wt_rows.specs.Building.{AreWhole, IsRowOf, row_of, AreMade, IsKindAt, IsTextLine, HasLine, IsRowsSoFar}
use Rattle.wt_rows.proofs.JoinedRows.{take_take}
use Rattle.wt_rows.proofs.KindSigns.{told, marked_begins}
use Rattle.wt_rows.proofs.LineKinds.{marked_are}
use Rattle.wt_rows.proofs.Making.{IsAdded}

-- ---- pieces behind others

pub own_behind : (ps qs : List Piece) → drop (length ps) (ps ++ qs) ≡ qs
own_behind [] qs = refl
own_behind (p ∷ ps) qs = own_behind ps qs

pub own_before : (ps qs : List Piece) → take (length ps) (ps ++ qs) ≡ ps
own_before [] qs = refl
own_before (p ∷ ps) qs = ap (λ rs. p ∷ rs) (own_before ps qs)

pub before_line : (before all : List Piece) (start : ℕ) → IsBehind before all → start ≡ length before → take start all ≡ before
before_line before all start h e = ap (λ n. take n all) e ∙ ap (take (length before)) h ∙ own_before before (drop (length before) all)

pub place_of_line : (before all : List Piece) (start : ℕ) → IsBehind before all → start ≡ length before → start ≤ length all
place_of_line before all start h e = omega (arith, e, ap length h, length-append before (drop (length before) all))

pub none_behind : (ps : List Piece) → drop (length ps) ps ≡ []
none_behind ps = drop_all (length ps) ps (omega arith)

pub behind_none : (ps : List Piece) → IsBehind ps ps
behind_none ps = sym (append-nil ps) ∙ ap (λ qs. ps ++ qs) (sym (none_behind ps))

pub line_more : (before now next : List Piece) (p : Piece) → IsBehind before now → next ≡ now ++ p ∷ []
    → drop (length before) next ≡ drop (length before) now ++ p ∷ []
line_more before now next p h e =
    let line = drop (length before) now in
    ap (drop (length before)) (e ∙ ap (λ qs. qs ++ p ∷ []) h ∙ append_assoc before line (p ∷ [])) ∙ own_behind before (line ++ p ∷ [])

pub behind_more : (before now next : List Piece) (p : Piece) → IsBehind before now → next ≡ now ++ p ∷ [] → IsBehind before next
behind_more before now next p h e =
    e ∙ ap (λ qs. qs ++ p ∷ []) h ∙ append_assoc before (drop (length before) now) (p ∷ [])
    ∙ ap (λ qs. before ++ qs) (sym (line_more before now next p h e))

-- ---- a row of what stands behind a place

fronts_join : (line : List Piece) (lead len : ℕ) → lead ≤ len → take lead line ++ drop lead (take len line) ≡ take len line
fronts_join line lead len l =
    let e : lead + (len - lead) ≡ len = omega arith in
    ap (λ qs. qs ++ drop lead (take len line)) (sym (take_take lead (len - lead) line) ∙ ap (λ n. take lead (take n line)) e)
    ∙ take-append-drop lead (take len line)

pub added_from : (k : LineKind) (all : List Piece) (start lead len end : ℕ) → lead ≤ len → start + len ≤ length all → end ≡ length all
    → IsAdded k (take start all) (take lead (drop start all)) (drop lead (take len (drop start all))) (drop len (drop start all)) all
    (record { kind = k; start = start; from = start + lead; to = start + len; end = end })
added_from k all start lead len end l w e =
    let line = drop start all in
    let ps = take start all in
    let d = length-drop start all in
    let own : (ps ++ take lead line) ++ drop lead (take len line) ≡ ps ++ take len line =
    append_assoc ps (take lead line) (drop lead (take len line)) ∙ ap (λ qs. ps ++ qs) (fronts_join line lead len l) in
    let whole : ((ps ++ take lead line) ++ drop lead (take len line)) ++ drop len line ≡ all =
    ap (λ qs. qs ++ drop len line) own ∙ append_assoc ps (take len line) (drop len line)
    ∙ ap (λ qs. ps ++ qs) (take-append-drop len line) ∙ take-append-drop start all in
    let a : length ps ≡ start = length-take-le start all (omega (arith, w)) in
    let b : length (take lead line) ≡ lead = length-take-le lead line (omega (arith, d, w, l)) in
    let c : length (take len line) ≡ len = length-take-le len line (omega (arith, d, w)) in
    record {
      kind = refl;
      all = sym whole;
      start = sym a;
      from = omega (arith, length-append ps (take lead line), a, b);
      to = omega (arith, ap length own, length-append ps (take len line), a, c);
      end = e ∙ ap length (sym whole);
    }

-- ---- the row of a line of text

whole_take : (n : ℕ) (ps : List Piece) → AreWhole ps → AreWhole (take n ps)
whole_take n ps h = record { sound = All-take IsSoundPiece n ps h.sound; parted = parted_front ps (take n ps) n h.parted refl }

whole_drop : (n : ℕ) (ps : List Piece) → AreWhole ps → AreWhole (drop n ps)
whole_drop n ps h = record { sound = All-drop IsSoundPiece n ps h.sound; parted = parted_rest ps (drop n ps) n h.parted refl }

text_row_of : (k : LineKind) (line : List Piece) (lead len : ℕ) → AreWhole line → IsTextLine k → IsKindAt k (items line)
    → items (take len line) ≡ content (items line)
    → past is_mark_sign (signs (items (take len line))) ≡ signs (items (drop lead (take len line)))
    → IsRowOf k (take lead line) (drop lead (take len line)) (drop len line)
text_row_of k line lead len h t at e seen =
    let xs = items (take len line) in
    let tells = told (items line) xs k e at in
    record {
      lead = whole_take lead line h;
      inside = whole_drop lead (take len line) (whole_take len line h);
      ending = whole_drop len line h;
      begins = subst (Begins k) seen (marked_begins k (past is_idle (signs xs)) (past is_mark_sign (signs xs)) t tells);
    }

-- of the line as the code reads it, and of what stands on it
pub text_row : (k : LineKind) (line own front : List Piece) (lead len : ℕ) → own ≡ line → front ≡ take len own → AreWhole line → IsTextLine k
    → IsKindAt k (items line) → content (items own) ≡ items (take len own) → past is_mark_sign (signs (items front)) ≡ signs (items (drop lead front))
    → IsRowOf k (take lead line) (drop lead (take len line)) (drop len line)
text_row k line own front lead len eo ef h t at e seen =
    subst (λ (qs : List Piece). IsRowOf k (take lead qs) (drop lead (take len qs)) (drop len qs)) eo
    (text_row_of k own lead len (subst AreWhole (sym eo) h) t (subst (λ (qs : List Piece). IsKindAt k (items qs)) (sym eo) at) (sym e)
    (subst (λ (qs : List Piece). past is_mark_sign (signs (items qs)) ≡ signs (items (drop lead qs))) ef seen))

abbrev row_by : LineKind → List Item → List Item → List Item → Row
row_by k lead own end = record { kind = k; lead = lead; items = own; ending = end }

text_rows_of : (k : LineKind) (line : List Piece) (lead len : ℕ) → lead ≤ len → IsTextLine k → items (take len line) ≡ content (items line)
    → items (drop len line) ≡ ending (items line) → AreLeadingMarks (take len line) lead
    → row_of k (take lead line) (drop lead (take len line)) (drop len line) ∷ [] ≡ line_rows k (items line)
text_rows_of k line lead len l t e f marks =
    let xs = items (take len line) in
    let at : lead + (len - lead) ≡ len = omega arith in
    let front : take lead line ≡ take lead (take len line) = sym (take_take lead (len - lead) line) ∙ ap (λ n. take lead (take n line)) at in
    ap (λ qs. row_of k qs (drop lead (take len line)) (drop len line) ∷ []) front
    ∙ ap (λ ys. row_by k ys (items (drop lead (take len line))) (items (drop len line)) ∷ []) (sym marks.0)
    ∙ ap (λ ys. row_by k (take (marks_len xs) xs) ys (items (drop len line)) ∷ []) (sym marks.1)
    ∙ marked_are k (items line) xs (items (drop len line)) e f t

pub text_rows : (k : LineKind) (line own front : List Piece) (lead len : ℕ) → own ≡ line → front ≡ take len own → lead ≤ length front → IsTextLine k
    → content (items own) ≡ items (take len own) → ending (items own) ≡ items (drop len own) → AreLeadingMarks front lead
    → row_of k (take lead line) (drop lead (take len line)) (drop len line) ∷ [] ≡ line_rows k (items line)
text_rows k line own front lead len eo ef l t e f marks =
    subst (λ (qs : List Piece). row_of k (take lead qs) (drop lead (take len qs)) (drop len qs) ∷ [] ≡ line_rows k (items qs)) eo
    (text_rows_of k own lead len (omega (arith, l, ap length ef, length-take len own)) t (sym e) (sym f) (subst (λ (qs : List Piece). AreLeadingMarks qs lead) ef marks))

-- ---- the row of a blank line

pub blank_rows : (k : LineKind) (line : List Piece) (len : ℕ) → k ≡ kind.Blank → length line ≤ len
    → row_of k (take 0 line) (drop 0 (take len line)) (drop len line) ∷ [] ≡ line_rows k (items line)
blank_rows k line len e w =
    ap (λ qs. row_of k [] qs (drop len line) ∷ []) (take_all len line w)
    ∙ ap (λ qs. row_of k [] line qs ∷ []) (drop_all len line w)
    ∙ ap (λ (j : LineKind). row_of j [] line [] ∷ []) e
    ∙ ap (λ (j : LineKind). line_rows j (items line)) (sym e)

-- ---- a portion with one line more

pub has_line : (k : LineKind) (before all : List Piece) (rows : List RowAt) (start : ℕ) → AreMade before rows → IsBehind before all
    → start ≡ length before → AreWhole (drop (length before) all) → IsUnbroken (content (items (drop (length before) all)))
    → IsKindAt k (items (drop (length before) all)) → HasLine start k (record { pieces = all; rows = rows })
has_line k before all rows start m h e w u at = record {
  place = place_of_line before all start h e;
  made = subst (λ (qs : List Piece). AreMade qs rows) (sym (before_line before all start h e)) m;
  line = subst (λ (n : ℕ). AreWhole (drop n all)) (sym e) w;
  unbroken = subst (λ (n : ℕ). IsUnbroken (content (items (drop n all)))) (sym e) u;
  kind = subst (λ (n : ℕ). IsKindAt k (items (drop n all))) (sym e) at;
}

-- the rows that are made of the line stand behind those that were
pub rows_behind : (k : LineKind) (before all : List Piece) (rows : List RowAt) (start : ℕ) (news : List Row) → IsBehind before all → start ≡ length before
    → news ≡ rows_view (take start all) rows ++ line_rows k (items (drop start all))
    → news ≡ rows_view before rows ++ line_rows k (items (drop (length before) all))
rows_behind k before all rows start news h e en =
    en ∙ ap (λ qs. rows_view qs rows ++ line_rows k (items (drop start all))) (before_line before all start h e)
    ∙ ap (λ n. rows_view before rows ++ line_rows k (items (drop n all))) e

pub portion_more : (k : LineKind) (made news all : List Row) (tables after : ℕ) (l : List Item) (before left : List Piece) → news ≡ made ++ line_rows k l
    → k ≡ kind_at tables l → after ≡ behind tables k → full_lines (items before) ≡ l ∷ full_lines (items left) → IsRowsSoFar made tables before all
    → IsRowsSoFar news after left all
portion_more k made news all tables after l before left en ek ea cut so_far =
    ap (λ rs. rs ++ rows_from after (full_lines (items left))) en
    ∙ append_assoc made (line_rows k l) (rows_from after (full_lines (items left)))
    ∙ ap (λ n. made ++ (line_rows k l ++ rows_from n (full_lines (items left)))) ea
    ∙ ap (λ (j : LineKind). made ++ (line_rows j l ++ rows_from (behind tables j) (full_lines (items left)))) ek
    ∙ ap (λ ls. made ++ rows_from tables ls) (sym cut)
    ∙ so_far

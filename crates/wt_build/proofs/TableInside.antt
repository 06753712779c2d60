-- What stands in a table, by groups of its rows.
use Rattle.std.proofs.Common.{◌≡◌, ◌<◌, ◌≤◌, ℕ, zero, suc, ◌+◌, Bool, true, false, List, [], ◌∷◌, ◌++◌, length, take, drop, map, refl, sym, ap, ◌∙◌, subst, cond, arith, length-drop}
use Rattle.std.specs.Prelude.{◌||◌, codes, if◌then◌else◌}
use Rattle.std.specs.List.{flat_map}
use Rattle.std.proofs.lemmas.List.{drop-map, map-append}
use Rattle.std.proofs.lemmas.Bool.Decides.{nat_tests}
use Rattle.wt_span.specs.Bytes.{begins}
use Rattle.wt_span.specs.declared.form.Piece.{Piece}
use Rattle.wt_lines.specs.declared.kind.LineKind.{LineKind}
use Rattle.wt_lines.specs.declared.kind.LineKind.TheVariants as line
use Rattle.wt_tables.specs.Extents.{inner_len, is_open}
use Rattle.wt_tables.specs.Parts.{unit_kind, taken_len, is_row, is_caption, begins_part}
use Rattle.wt_rows.specs.declared.row.RowAt.{RowAt}
use Rattle.wt_rows.specs.declared.group.Group.{Group}
use Rattle.wt_rows.specs.declared.stretch.StretchAt.{StretchAt}
use Rattle.wt_page.specs.Rows.{signs, kind_of}
use Rattle.wt_tree.specs.declared.kind.Kind.TheVariants as kind
use Rattle.wt_inline.specs.ItemTree.{plain}
use Rattle.wt_page.specs.Stretches.{Stretch, enclosed}
use Rattle.wt_page.specs.Tables.{Reading, cell_stretches, first_items}
use Rattle.wt_rows.specs.Ready.{Begins, BeginsCell, IsReadyRow, AreInOrder}
use Rattle.wt_rows.specs.Units.{kind_at, plain_count}
use Rattle.wt_rows.specs.Groups.{group_rows, captions_count}
use Rattle.wt_build.specs.RowGroups.{rows_of_groups, body_of_groups, inside_groups}
use Rattle.wt_rows.specs.GroupViews.{group_view, groups_view}
use Rattle.wt_build.specs.CellGroups.{groups_rows, FirstBegins, AllBegin, IsPartRow, IsPart, AreParts, StartsPart}
use Rattle.wt_rows.specs.Views.{row_view, rows_view, stretch_view, stretches_view}
use Rattle.wt_rows.proofs.Grouping.{group_len, group_front, plain_from, taken_within}
use Rattle.wt_rows.proofs.GroupSteps.{groups_viewed, kind_viewed}
use Rattle.wt_build.proofs.TableRows.{map_map, map_front}

-- ---- what a row of a kind begins with

bar_of : (ss : List ℕ) → begins (codes "|+") ss ≡ true → (begins (codes "|") ss || begins (codes "!") ss) ≡ true
bar_of [] h = absurd cc
bar_of (s ∷ []) h = absurd (grind (arith, nat_tests))
bar_of (s ∷ t ∷ ss) h = grind (arith, nat_tests)

or_left : (a b : Bool) → a ≡ true → (a || b) ≡ true
or_left true b h = refl
or_left false b h = cc

or_right : (a b : Bool) → b ≡ true → (a || b) ≡ true
or_right true b h = refl
or_right false b h = h

part_by : (k : LineKind) (ss : List ℕ) → begins_part k ≡ true → Begins k ss
    → (is_row k ≡ true → begins (codes "|-") ss ≡ true) × (is_caption k ≡ true → BeginsCell true ss) × (is_row k ≡ false → BeginsCell false ss)
part_by line.Row ss e h = (λ t. h, λ t. absurd cc, λ t. absurd cc)
part_by line.Caption ss e h = (λ t. absurd cc, λ t. h, λ t. bar_of ss h)
part_by line.Cell ss e h = (λ t. absurd cc, λ t. absurd cc, λ t. or_left (begins (codes "|") ss) (begins (codes "!") ss) h)
part_by line.Header ss e h = (λ t. absurd cc, λ t. absurd cc, λ t. or_right (begins (codes "|") ss) (begins (codes "!") ss) h)
part_by line.Blank ss e h = absurd cc
part_by line.TableOpen ss e h = absurd cc
part_by line.TableEnd ss e h = absurd cc
part_by line.Heading ss e h = absurd cc
part_by line.Rule ss e h = absurd cc
part_by line.List ss e h = absurd cc
part_by line.Pre ss e h = absurd cc
part_by line.Text ss e h = absurd cc

part_row : (ps : List Piece) (r : RowAt) → IsReadyRow ps r → begins_part r.kind ≡ true → IsPartRow (row_view ps r)
part_row ps r h e = let p = part_by r.kind (signs (row_view ps r).items) e h.begins in record { row = p.0; caption = p.1; cell = p.2 }

-- ---- each group begins a part

stops_by : (t : Bool) (n : ℕ) (r : RowAt) (rs : List RowAt) → begins_part r.kind ≡ t → StartsPart (drop n rs)
    → StartsPart (drop (if t then 0 else suc n) (r ∷ rs))
stops_by true n r rs e h = e
stops_by false n r rs e h = h

stops : (n : ℕ) (rs : List RowAt) → StartsPart (drop (plain_count n (map kind_at rs)) rs)
stops n [] = tt
stops (suc n) (r ∷ rs) = stops n rs
stops zero (r ∷ rs) =
    let t = taken_len r.kind (inner_len (map kind_at rs)) in
    stops_by (begins_part r.kind) (plain_count t (map kind_at rs)) r rs refl (stops t rs)

pub starts_part : (rs : List RowAt) → StartsPart (drop (plain_count 0 (map kind_at rs)) rs)
starts_part rs = stops 0 rs

group_stops : (r : RowAt) (rs : List RowAt) → StartsPart (drop (group_len kind_at r rs) (r ∷ rs))
group_stops r rs =
    let t = taken_len r.kind (inner_len (map kind_at rs)) in
    let count : plain_count t (map kind_at rs) ≡ t + plain_count 0 (map kind_at (drop t rs)) =
    plain_from t (map kind_at rs) (taken_within r.kind (map kind_at rs)) ∙ ap (λ ks. t + plain_count 0 ks) (drop-map kind_at t rs) in
    subst (λ (n : ℕ). StartsPart (drop n rs)) count (stops t rs)

order_rest : (ps : List Piece) (n : ℕ) (rs : List RowAt) → AreInOrder ps rs → AreInOrder ps (drop n rs)
order_rest ps zero rs h = h
order_rest ps (suc n) [] h = tt
order_rest ps (suc n) (r ∷ rs) h = order_rest ps n rs h.2

parts_by : (ps : List Piece) (fuel : ℕ) (rs : List RowAt) → length rs ≤ fuel → AreInOrder ps rs → StartsPart rs
    → AreParts (map (rows_view ps) (group_rows kind_at rs))
parts_by ps fuel [] l h s = tt
parts_by ps zero (r ∷ rs) l h s = absurd (omega arith)
parts_by ps (suc fuel) (r ∷ rs) l h s =
    let g = group_len kind_at r rs in
    subst (λ (fs : List (List RowAt)). AreParts (map (rows_view ps) fs)) (sym (group_front kind_at r rs)) (
      part_row ps r h.0 s,
      parts_by ps fuel (drop g (r ∷ rs)) (omega (arith, l, length-drop g (r ∷ rs))) (order_rest ps g (r ∷ rs) h) (group_stops r rs),
    )

pub parts_are : (ps : List Piece) (rs : List RowAt) (gs : List Group) → AreInOrder ps rs → StartsPart rs → groups_view rs gs ≡ group_rows kind_at rs
    → AreParts (groups_rows ps rs gs)
parts_are ps rs gs h s e =
    subst (λ (fs : List (List RowAt)). AreParts (map (rows_view ps) fs)) (sym e) (parts_by ps (length rs) rs (omega arith) h s)

pub groups_are : (ps : List Piece) (rs : List RowAt) (gs : List Group) → groups_view rs gs ≡ group_rows kind_at rs
    → groups_rows ps rs gs ≡ group_rows kind_of (rows_view ps rs)
groups_are ps rs gs e = ap (map (rows_view ps)) e ∙ sym (groups_viewed ps rs)

-- ---- captions

part_caption : (ps : List Piece) (g : List RowAt) → is_caption (unit_kind kind_at g) ≡ true → IsPart (rows_view ps g) → FirstBegins true (rows_view ps g)
part_caption ps [] e h = cc
part_caption ps (r ∷ g) e h = h.caption e

caption_by : (v : Bool) (m k : ℕ) (own : List RowAt) → is_caption (unit_kind kind_at own) ≡ v → suc m ≤ cond v (1 + k) 0
    → (is_caption (unit_kind kind_at own) ≡ true) × (m ≤ k)
caption_by true m k own e h = (e, omega arith)
caption_by false m k own e h = absurd (omega arith)

captions_begin : (ps : List Piece) (rows : List RowAt) (m : ℕ) (gs : List Group) → m ≤ captions_count kind_at (groups_view rows gs)
    → AreParts (groups_rows ps rows gs) → AllBegin true (groups_rows ps rows (take m gs))
captions_begin ps rows zero gs l h = tt
captions_begin ps rows (suc m) [] l h = tt
captions_begin ps rows (suc m) (g ∷ gs) l h =
    let own = group_view rows g in
    let by = caption_by (is_caption (unit_kind kind_at own)) m (captions_count kind_at (groups_view rows gs)) own refl l in
    (part_caption ps own by.0 h.0, captions_begin ps rows m gs by.1 h.1)

pub front_begins : (ps : List Piece) (rows : List RowAt) (gs given front : List Group) (n : ℕ) → given ≡ gs → front ≡ take n given
    → n ≡ captions_count kind_at (groups_view rows given)
    → AreParts (groups_rows ps rows gs) → AllBegin true (groups_rows ps rows front)
front_begins ps rows gs given front n eg ef en h =
    subst (λ (fs : List Group). AllBegin true (groups_rows ps rows fs)) (sym ef)
    (captions_begin ps rows n given (omega (arith, en)) (subst (λ (fs : List Group). AreParts (groups_rows ps rows fs)) (sym eg) h))

some_drop : (ps : List Piece) (rows : List RowAt) (n : ℕ) (gs : List Group) → AreParts (groups_rows ps rows gs) → AreParts (groups_rows ps rows (drop n gs))
some_drop ps rows zero gs h = h
some_drop ps rows (suc n) [] h = tt
some_drop ps rows (suc n) (g ∷ gs) h = some_drop ps rows n gs h.1

pub rest_parts : (ps : List Piece) (rows : List RowAt) (gs given rest : List Group) (n : ℕ) → given ≡ gs → rest ≡ drop n given
    → AreParts (groups_rows ps rows gs)
    → AreParts (groups_rows ps rows rest)
rest_parts ps rows gs given rest n eg er h =
    subst (λ (fs : List Group). AreParts (groups_rows ps rows fs)) (sym (er ∙ ap (drop n) eg)) (some_drop ps rows n gs h)

count_viewed : (ps : List Piece) (rows : List RowAt) (gs : List Group)
    → captions_count kind_of (groups_rows ps rows gs) ≡ captions_count kind_at (groups_view rows gs)
count_viewed ps rows [] = refl
count_viewed ps rows (g ∷ gs) =
    let own = group_view rows g in
    ap (λ k. cond (is_caption k) (1 + captions_count kind_of (groups_rows ps rows gs)) 0) (kind_viewed ps own)
    ∙ ap (λ m. cond (is_caption (unit_kind kind_at own)) (1 + m) 0) (count_viewed ps rows gs)

pub inside_read : (read : Reading) (ps : List Piece) (rows : List RowAt) (gs given front rest : List Group) (n : ℕ) (captions made all l : List StretchAt)
    → groups_view rows gs ≡ group_rows kind_at rows → given ≡ gs → n ≡ captions_count kind_at (groups_view rows given) → front ≡ take n given
    → rest ≡ drop n given
    → stretches_view ps captions ≡ flat_map (cell_stretches read true) (groups_rows ps rows front)
    → stretches_view ps made ≡ body_of_groups read (groups_rows ps rows rest) → all ≡ captions ++ made → l ≡ all
    → stretches_view ps l ≡ inside_groups read (group_rows kind_of (rows_view ps rows))
inside_read read ps rows gs given front rest n captions made all l egs eg en ef er ec em ea el =
    let fs = groups_rows ps rows given in
    let count : n ≡ captions_count kind_of fs = en ∙ sym (count_viewed ps rows given) in
    ap (stretches_view ps) (el ∙ ea) ∙ map-append (stretch_view ps) captions made
    ∙ ap (λ ss. ss ++ stretches_view ps made) (ec ∙ ap (λ us. flat_map (cell_stretches read true) (groups_rows ps rows us)) ef
    ∙ ap (flat_map (cell_stretches read true)) (sym (map_front ps rows n given)))
    ∙ ap (λ ss. flat_map (cell_stretches read true) (take n fs) ++ ss) (em ∙ ap (λ us. body_of_groups read (groups_rows ps rows us)) er
    ∙ ap (body_of_groups read) (sym (map_map ps rows n given)))
    ∙ ap (λ k. flat_map (cell_stretches read true) (take k fs) ++ body_of_groups read (drop k fs)) count
    ∙ ap (λ us. inside_groups read (groups_rows ps rows us)) eg
    ∙ ap (inside_groups read) (groups_are ps rows gs egs)

-- ---- the body

pub body_none : (read : Reading) (ps : List Piece) (rows : List RowAt) (gs : List Group) (l : List StretchAt) → length gs ≡ 0 → l ≡ []
    → stretches_view ps l ≡ body_of_groups read (groups_rows ps rows gs)
body_none read ps rows [] l e el = ap (stretches_view ps) el
body_none read ps rows (g ∷ gs) l e el = absurd (omega arith)

pub body_some : (read : Reading) (ps : List Piece) (rows : List RowAt) (gs : List Group) (ss ls : List Stretch) → 0 < length gs
    → ss ≡ rows_of_groups read (groups_rows ps rows gs) → ls ≡ enclosed (plain kind.Tbody) ss → ls ≡ body_of_groups read (groups_rows ps rows gs)
body_some read ps rows [] ss ls some es el = absurd (omega arith)
body_some read ps rows (g ∷ gs) ss ls some es el = el ∙ ap (enclosed (plain kind.Tbody)) es

-- ---- the row that opens a table

open_by : (k : LineKind) (ss : List ℕ) → is_open k ≡ true → Begins k ss → begins (codes "{|") ss ≡ true
open_by line.TableOpen ss e h = h
open_by line.Row ss e h = absurd cc
open_by line.Caption ss e h = absurd cc
open_by line.Cell ss e h = absurd cc
open_by line.Header ss e h = absurd cc
open_by line.Blank ss e h = absurd cc
open_by line.TableEnd ss e h = absurd cc
open_by line.Heading ss e h = absurd cc
open_by line.Rule ss e h = absurd cc
open_by line.List ss e h = absurd cc
open_by line.Pre ss e h = absurd cc
open_by line.Text ss e h = absurd cc

front_by : (ps : List Piece) (rows : List RowAt) (n : ℕ) → is_open (unit_kind kind_at rows) ≡ true → AreInOrder ps rows
    → (0 < length (take (suc n) rows)) × (begins (codes "{|") (signs (first_items (rows_view ps (take (suc n) rows)))) ≡ true)
front_by ps [] n e h = absurd cc
front_by ps (r ∷ rs) n e h = (omega arith, open_by r.kind (signs (row_view ps r).items) e h.0.begins)

pub front_opens : (ps : List Piece) (rows front : List RowAt) (n : ℕ) → front ≡ take (1 + n) rows → is_open (unit_kind kind_at rows) ≡ true → AreInOrder ps rows
    → (0 < length front) × (begins (codes "{|") (signs (first_items (rows_view ps front))) ≡ true)
front_opens ps rows front n ef e h =
    let one : 1 + n ≡ suc n = omega arith in
    subst (λ (fs : List RowAt). (0 < length fs) × (begins (codes "{|") (signs (first_items (rows_view ps fs))) ≡ true)) (sym (ef ∙ ap (λ k. take k rows) one))
    (front_by ps rows n e h)

pub rest_starts : (inner rest : List RowAt) (n : ℕ) → n ≡ plain_count 0 (map kind_at inner) → rest ≡ drop n inner → StartsPart rest
rest_starts inner rest n en er = subst (λ (rs : List RowAt). StartsPart rs) (sym (er ∙ ap (λ k. drop k inner) en)) (starts_part inner)

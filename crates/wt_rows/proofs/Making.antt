-- One more row behind those that were made.
use Rattle.std.proofs.Common.{◌≡◌, ◌≤◌, ℕ, ◌-◌, List, [], ◌∷◌, ◌++◌, length, take, drop, refl, sym, ap, ◌∙◌, subst, arith, append_assoc, append-nil, length-append, length-drop}
use Rattle.std.specs.Prelude.{All}
use Rattle.std.specs.List.{prefix_len}
use Rattle.std.proofs.lemmas.List.{drop_all, take_all, map-append}
use Rattle.wt_span.proofs.Lists.{take_append, drop_append}
use Rattle.wt_span.specs.declared.form.Piece.{Piece}
use Rattle.wt_span.specs.Items.{Item, items, is_mark}
use Rattle.wt_span.specs.Origins.{IsSoundPiece}
use Rattle.wt_lines.specs.declared.kind.LineKind.{LineKind}
use Rattle.wt_lines.specs.Kinds.{past, is_idle}
use Rattle.wt_lines.specs.Lines.{IsUnbroken}
use Rattle.wt_lines.specs.Pieces.{AllParted, AreLeadingMarks}
use Rattle.wt_page.proofs.Pieces.{all_append}
use Rattle.wt_rows.specs.declared.row.RowAt.{RowAt}
use Rattle.std.proofs.lemmas.List.Elements.{All-nil}
use Rattle.wt_rows.proofs.KindSigns.{past_idle}
use Rattle.wt_rows.proofs.LineCuts.{unbroken_parted, unbroken_take, unbroken_drop}
use Rattle.wt_page.specs.Rows.{Row, signs, idle_len}
use Rattle.wt_rows.specs.Views.{slice, row_view, rows_view}
use Rattle.wt_rows.specs.Ready.{Begins, IsReadyRow, AreInOrder}
use Rattle.wt_rows.specs.Building.{AreWhole, IsRowOf, row_of, rows_end, AreMade}

-- ---- slices of pieces to which more are added

pub slice_kept : (a b : ℕ) (ps qs : List Piece) → b ≤ length ps → slice a b (ps ++ qs) ≡ slice a b ps
slice_kept a b ps qs h =
    let z : (b - a) - length (drop a ps) ≡ 0 = omega (arith, length-drop a ps, h) in
    ap (take (b - a)) (drop_append a ps qs)
    ∙ take_append (b - a) (drop a ps) (drop (a - length ps) qs)
    ∙ ap (λ n. take (b - a) (drop a ps) ++ take n (drop (a - length ps) qs)) z
    ∙ append-nil (take (b - a) (drop a ps))

slice_added : (ps qs : List Piece) → slice (length ps) (length (ps ++ qs)) (ps ++ qs) ≡ qs
slice_added ps qs =
    let z : length ps - length ps ≡ 0 = omega arith in
    let d : drop (length ps) (ps ++ qs) ≡ qs = drop_append (length ps) ps qs
    ∙ ap (λ xs. xs ++ drop (length ps - length ps) qs) (drop_all (length ps) ps (omega arith))
    ∙ ap (λ n. drop n qs) z in
    ap (take (length (ps ++ qs) - length ps)) d ∙ take_all (length (ps ++ qs) - length ps) qs (omega (arith, length-append ps qs))

slice_is : (all ps mid rest : List Piece) (a b : ℕ) → all ≡ (ps ++ mid) ++ rest → a ≡ length ps → b ≡ length (ps ++ mid) → slice a b all ≡ mid
slice_is all ps mid rest a b e ea eb =
    ap (slice a b) e
    ∙ ap (λ n. slice n b ((ps ++ mid) ++ rest)) ea
    ∙ ap (λ n. slice (length ps) n ((ps ++ mid) ++ rest)) eb
    ∙ slice_kept (length ps) (length (ps ++ mid)) (ps ++ mid) rest (omega arith)
    ∙ slice_added ps mid

-- ---- rows that were there before

row_kept : (ps qs : List Piece) (r : RowAt) → IsReadyRow ps r → r.end ≤ length ps → row_view (ps ++ qs) r ≡ row_view ps r
row_kept ps qs r h e =
    let i : r.to ≤ length ps = omega (arith, h.ending, e) in
    let j : r.from ≤ length ps = omega (arith, h.items, i) in
    ap (λ xs. row_of r.kind xs (slice r.from r.to (ps ++ qs)) (slice r.to r.end (ps ++ qs))) (slice_kept r.start r.from ps qs j)
    ∙ ap (λ xs. row_of r.kind (slice r.start r.from ps) xs (slice r.to r.end (ps ++ qs))) (slice_kept r.from r.to ps qs i)
    ∙ ap (λ xs. row_of r.kind (slice r.start r.from ps) (slice r.from r.to ps) xs) (slice_kept r.to r.end ps qs e)

ready_kept : (ps qs : List Piece) (r : RowAt) → IsReadyRow ps r → r.end ≤ length ps → IsReadyRow (ps ++ qs) r
ready_kept ps qs r h e = record {
  lead = h.lead;
  items = h.items;
  ending = h.ending;
  begins = subst (λ (v : Row). Begins r.kind (signs v.items)) (sym (row_kept ps qs r h e)) h.begins;
}

start_within : (ps : List Piece) (r : RowAt) (rs : List RowAt) → AreInOrder ps (r ∷ rs) → r.start ≤ rows_end (r ∷ rs)
start_within ps r [] h = omega (arith, h.0.lead, h.0.items, h.0.ending)
start_within ps r (s ∷ rs) h =
    let i : r.start ≤ r.end = omega (arith, h.0.lead, h.0.items, h.0.ending) in
    let j : r.end ≡ s.start = h.1 in
    omega (arith, i, j, start_within ps s rs h.2)

first_end : (ps : List Piece) (r : RowAt) (rs : List RowAt) → AreInOrder ps (r ∷ rs) → rows_end (r ∷ rs) ≤ length ps → r.end ≤ length ps
first_end ps r [] h e = e
first_end ps r (s ∷ rs) h e = let j : r.end ≡ s.start = h.1 in omega (arith, j, start_within ps s rs h.2, e)

later_end : (r : RowAt) (rs : List RowAt) (n : ℕ) → rows_end (r ∷ rs) ≤ n → rows_end rs ≤ n
later_end r [] n e = omega arith
later_end r (s ∷ rs) n e = e

rows_kept : (ps qs : List Piece) (rs : List RowAt) → AreInOrder ps rs → rows_end rs ≤ length ps → rows_view (ps ++ qs) rs ≡ rows_view ps rs
rows_kept ps qs [] h e = refl
rows_kept ps qs (r ∷ rs) h e =
    ap (λ v. v ∷ rows_view (ps ++ qs) rs) (row_kept ps qs r h.0 (first_end ps r rs h e))
    ∙ ap (λ vs. row_view ps r ∷ vs) (rows_kept ps qs rs h.2 (later_end r rs (length ps) e))

order_kept : (ps qs : List Piece) (rs : List RowAt) → AreInOrder ps rs → rows_end rs ≤ length ps → AreInOrder (ps ++ qs) rs
order_kept ps qs [] h e = tt
order_kept ps qs (r ∷ rs) h e = (
  ready_kept ps qs r h.0 (first_end ps r rs h e),
  h.1,
  order_kept ps qs rs h.2 (later_end r rs (length ps) e),
)

-- ---- one more row

order_more : (ps : List Piece) (rs : List RowAt) (r : RowAt) → AreInOrder ps rs → IsReadyRow ps r → rows_end rs ≡ r.start → AreInOrder ps (rs ++ r ∷ [])
order_more ps [] r h i e = (i, tt, tt)
order_more ps (s ∷ []) r h i e = (h.0, e, (i, tt, tt))
order_more ps (s ∷ t ∷ rs) r h i e = (h.0, h.1, order_more ps (t ∷ rs) r h.2 i e)

end_more : (rs : List RowAt) (r : RowAt) → rows_end (rs ++ r ∷ []) ≡ r.end
end_more [] r = refl
end_more (s ∷ []) r = refl
end_more (s ∷ t ∷ rs) r = end_more (t ∷ rs) r

parted_append : (ps qs : List Piece) → AllParted ps → AllParted qs → AllParted (ps ++ qs)
parted_append [] qs h g = g
parted_append (p ∷ ps) qs h g = (h.0, parted_append ps qs h.1 g)

pub whole_none : AreWhole []
whole_none = record { sound = All-nil IsSoundPiece; parted = tt }

-- what is cut from a line without a line break
pub whole_front : (xs : List Item) (qs q : List Piece) (n : ℕ) → q ≡ qs → All IsSoundPiece qs → items qs ≡ take n xs → IsUnbroken xs → AreWhole q
whole_front xs qs q n e s f u =
    subst AreWhole (sym e) (record { sound = s; parted = unbroken_parted qs s (subst IsUnbroken (sym f) (unbroken_take n xs u)) })

pub whole_back : (xs : List Item) (qs q : List Piece) (n : ℕ) → q ≡ qs → All IsSoundPiece qs → items qs ≡ drop n xs → IsUnbroken xs → AreWhole q
whole_back xs qs q n e s f u =
    subst AreWhole (sym e) (record { sound = s; parted = unbroken_parted qs s (subst IsUnbroken (sym f) (unbroken_drop n xs u)) })

-- two parts of what is left of a line
pub whole_cut : (xs : List Item) (rest r own behind : List Piece) (n m : ℕ) → r ≡ rest → items rest ≡ drop n xs → IsUnbroken xs
    → All IsSoundPiece own → items own ≡ take m (items r) → All IsSoundPiece behind → items behind ≡ drop m (items r) → AreWhole own × AreWhole behind
whole_cut xs rest r own behind n m e f u so o sb b =
    let v : IsUnbroken (items r) = subst IsUnbroken (sym (ap items e ∙ f)) (unbroken_drop n xs u) in
    (whole_front (items r) own own m refl so o v, whole_back (items r) behind behind m refl sb b v)

-- what is behind the marks at the front of a line
pub unbroken_behind : (ps r : List Piece) (n : ℕ) → r ≡ drop n ps → AreLeadingMarks ps n → IsUnbroken (items ps) → IsUnbroken (items r)
unbroken_behind ps r n e cut u = subst IsUnbroken (cut.1 ∙ ap items (sym e)) (unbroken_drop (prefix_len is_mark (items ps)) (items ps) u)

pub idle_begins : (k : LineKind) (xs : List Item) (qs q : List Piece) (n : ℕ) → q ≡ qs → items qs ≡ drop n xs → n ≡ idle_len xs
    → Begins k (past is_idle (signs xs)) → Begins k (signs (items q))
idle_begins k xs qs q n e f z b =
    subst (Begins k) (past_idle xs ∙ ap (λ m. signs (drop m xs)) (sym z) ∙ ap signs (sym f) ∙ ap (λ ps. signs (items ps)) (sym e)) b

pub whole_append : (ps qs : List Piece) → AreWhole ps → AreWhole qs → AreWhole (ps ++ qs)
whole_append ps qs h g = record { sound = all_append ps qs h.sound g.sound; parted = parted_append ps qs h.parted g.parted }

-- What a row adds: these pieces stand behind those of the rows before, and the row has their places.
pub record IsAdded (k : LineKind) (ps lead inside ending new : List Piece) (r : RowAt) : Type 0 where
  pub kind : r.kind ≡ k
  pub all : new ≡ ((ps ++ lead) ++ inside) ++ ending
  pub start : r.start ≡ length ps
  pub from : r.from ≡ length (ps ++ lead)
  pub to : r.to ≡ length ((ps ++ lead) ++ inside)
  pub end : r.end ≡ length (((ps ++ lead) ++ inside) ++ ending)

lead_is : (k : LineKind) (ps lead inside ending new : List Piece) (r : RowAt) → IsAdded k ps lead inside ending new r → slice r.start r.from new ≡ lead
lead_is k ps lead inside ending new r a =
    slice_is new ps lead (inside ++ ending) r.start r.from (a.all ∙ append_assoc (ps ++ lead) inside ending) a.start a.from

inside_is : (k : LineKind) (ps lead inside ending new : List Piece) (r : RowAt) → IsAdded k ps lead inside ending new r → slice r.from r.to new ≡ inside
inside_is k ps lead inside ending new r a = slice_is new (ps ++ lead) inside ending r.from r.to a.all a.from a.to

ending_is : (k : LineKind) (ps lead inside ending new : List Piece) (r : RowAt) → IsAdded k ps lead inside ending new r → slice r.to r.end new ≡ ending
ending_is k ps lead inside ending new r a =
    let all = ((ps ++ lead) ++ inside) ++ ending in
    slice_is new ((ps ++ lead) ++ inside) ending [] r.to r.end (a.all ∙ sym (append-nil all)) a.to a.end

added_view : (k : LineKind) (ps lead inside ending new : List Piece) (r : RowAt) → IsAdded k ps lead inside ending new r
    → row_view new r ≡ row_of k lead inside ending
added_view k ps lead inside ending new r a =
    ap (λ j. row_of j (slice r.start r.from new) (slice r.from r.to new) (slice r.to r.end new)) a.kind
    ∙ ap (λ xs. row_of k xs (slice r.from r.to new) (slice r.to r.end new)) (lead_is k ps lead inside ending new r a)
    ∙ ap (λ xs. row_of k lead xs (slice r.to r.end new)) (inside_is k ps lead inside ending new r a)
    ∙ ap (λ xs. row_of k lead inside xs) (ending_is k ps lead inside ending new r a)

added_ready : (k : LineKind) (ps lead inside ending new : List Piece) (r : RowAt) → IsAdded k ps lead inside ending new r
    → Begins k (signs (items inside)) → IsReadyRow new r
added_ready k ps lead inside ending new r a b = record {
  lead = omega (arith, a.start, a.from, length-append ps lead);
  items = omega (arith, a.from, a.to, length-append (ps ++ lead) inside);
  ending = omega (arith, a.to, a.end, length-append ((ps ++ lead) ++ inside) ending);
  begins = subst (λ (j : LineKind). Begins j (signs (row_view new r).items)) (sym a.kind)
      (subst (λ (v : Row). Begins k (signs v.items)) (sym (added_view k ps lead inside ending new r a)) b);
}

-- pieces behind others
behind_all : (ps lead inside ending new : List Piece) → new ≡ ((ps ++ lead) ++ inside) ++ ending → new ≡ ps ++ (lead ++ (inside ++ ending))
behind_all ps lead inside ending new e =
    e ∙ append_assoc (ps ++ lead) inside ending ∙ append_assoc ps lead (inside ++ ending)

pub rows_more : (k : LineKind) (ps lead inside ending new : List Piece) (rs news : List RowAt) (r : RowAt) → AreMade ps rs
    → IsAdded k ps lead inside ending new r → news ≡ rs ++ r ∷ []
    → rows_view new news ≡ rows_view ps rs ++ row_of k lead inside ending ∷ []
rows_more k ps lead inside ending new rs news r m a e =
    let more = lead ++ (inside ++ ending) in
    ap (rows_view new) e
    ∙ map-append (row_view new) rs (r ∷ [])
    ∙ ap (λ vs. vs ++ row_view new r ∷ []) (ap (λ qs. rows_view qs rs) (behind_all ps lead inside ending new a.all)
    ∙ rows_kept ps more rs m.ready.rows (omega (arith, m.end)))
    ∙ ap (λ v. rows_view ps rs ++ v ∷ []) (added_view k ps lead inside ending new r a)

pub made_more : (k : LineKind) (ps lead inside ending new : List Piece) (rs news : List RowAt) (r : RowAt) → AreMade ps rs
    → IsRowOf k lead inside ending → IsAdded k ps lead inside ending new r → news ≡ rs ++ r ∷ [] → AreMade new news
made_more k ps lead inside ending new rs news r m w a e =
    let more = lead ++ (inside ++ ending) in
    let before : AreWhole ps = record { sound = m.ready.sound; parted = m.ready.parted } in
    let all = whole_append ps more before (whole_append lead (inside ++ ending) w.lead (whole_append inside ending w.inside w.ending)) in
    let same = behind_all ps lead inside ending new a.all in
    let order : AreInOrder new rs = subst (λ (qs : List Piece). AreInOrder qs rs) (sym same) (order_kept ps more rs m.ready.rows (omega (arith, m.end))) in
    let next : AreInOrder new (rs ++ r ∷ []) = order_more new rs r order (added_ready k ps lead inside ending new r a w.begins) (m.end ∙ sym a.start) in
    record {
      ready = record {
        sound = subst (All IsSoundPiece) (sym same) all.sound;
        parted = subst AllParted (sym same) all.parted;
        rows = subst (AreInOrder new) (sym e) next;
      };
      end = ap rows_end e ∙ end_more rs r ∙ a.end ∙ ap length (sym a.all);
    }

pub added : (k : LineKind) (ps lead inside ending p q new : List Piece) (a b c d : ℕ) → p ≡ ps ++ lead → q ≡ p ++ inside → new ≡ q ++ ending
    → a ≡ length ps → b ≡ length p → c ≡ length q → d ≡ length new
    → IsAdded k ps lead inside ending new (record { kind = k; start = a; from = b; to = c; end = d })
added k ps lead inside ending p q new a b c d ep eq en ea eb ec ed =
    let second : q ≡ (ps ++ lead) ++ inside = eq ∙ ap (λ xs. xs ++ inside) ep in
    let third : new ≡ ((ps ++ lead) ++ inside) ++ ending = en ∙ ap (λ xs. xs ++ ending) second in
    record { kind = refl; all = third; start = ea; from = eb ∙ ap length ep; to = ec ∙ ap length second; end = ed ∙ ap length third }

-- Cells and captions with what stands in them.
use Rattle.std.proofs.Common.{◌≡◌, ℕ, zero, suc, ◌+◌, ◌-◌, ◌<◌, ◌≤◌, Bool, true, false, Option, Some, None, List, [], ◌∷◌, ◌++◌, length, map, take, drop, get_or, inl, inr, refl, sym, ap, ◌∙◌, subst, arith}
use Rattle.std.specs.Prelude.{◌||◌, slice_index}
use Rattle.std.specs.List.{AllByRecursion}
use Rattle.std.proofs.lemmas.Bool.{cases_lt}
use Rattle.std.proofs.lemmas.List.{take_all, drop_all, take-append-drop, get_or_append_left, map-append, length-map}
use Rattle.wt_span.specs.Items.{Item, char, whole, sign}
use Rattle.wt_tree.specs.declared.kind.AttrName.{AttrName}
use Rattle.wt_tree.specs.declared.kind.Kind.{Kind}
use Rattle.wt_tree.specs.declared.kind.Kind.TheVariants as kind
use Rattle.wt_tree.specs.declared.row.Placement.TheVariants.{Cell as CellClass, TablePart, Inline, Character, Block, List as ListClass}
use Rattle.wt_tree.specs.declared.row.Holding.TheVariants.{InlinesThenBlocks}
use Rattle.wt_tree.specs.declared.row.Texts.TheVariants.{Bordered}
use Rattle.wt_tree.specs.Kinds.{is_class, shape, is_anywhere, styles, spelling}
use Rattle.wt_attributes.specs.Attributes.{attributes}
use Rattle.wt_schema.specs.Written.{AreOwn}
use Rattle.wt_tables.specs.declared.scan.Splits.{Splits}
use Rattle.wt_tables.specs.Cells.{Cell, parts, bar_at, past_bar, attributes_by, opening_len, cell_of, split_by, header_by, sign_len, cells_in, cells_from}
use Rattle.wt_tables.specs.CutLaws.{AreCut}
use Rattle.wt_tables.specs.Views.{IsLowCut, HasSign}
use Rattle.wt_tables.proofs.CellReads.{bar_some, low_opening}
use Rattle.wt_tables.proofs.CellSteps.{split_low}
use Rattle.wt_tables.proofs.Cuts.{cut_are}
use Rattle.wt_page.specs.Rows.{Row, signs}
use Rattle.wt_page.specs.Stretches.{Stretch, gap}
use Rattle.wt_page.specs.Tables.{cell_kind, cell_by, cells_by}
use Rattle.wt_page_round_trip.proofs.TextItems.{AreTexts, BeginsLow, cut_items_before}
use Rattle.wt_page_round_trip.proofs.OfPage.{IsPageItem, ArePageItems, no_page_items}
use Rattle.wt_page_round_trip.proofs.PageLines.{all_left, all_right, all_both, all_taken, all_dropped}
use Rattle.wt_page_round_trip.proofs.BodyParts.{inline_held}
use Rattle.wt_page_round_trip.proofs.SpanAttributes.{span_has}
use Rattle.wt_page_round_trip.proofs.HeadingLines.{ends_low}
use Rattle.wt_page_round_trip.proofs.Boxes.{IsBox}
use Rattle.wt_page_round_trip.proofs.Stretched.{StandsIn, IsPlaced, ArePlaced}
use Rattle.wt_page_round_trip.proofs.Contents.{IsBordered, line_opened}
use Rattle.wt_page_round_trip.proofs.GoodRows.{IsGoodRow, behind_items}
use Rattle.wt_page_round_trip.proofs.ListOpenings.{sign_begins}

-- ---- cuts beside a low sign

zero_cut : (xs : List Item) → ArePageItems xs → ArePageItems (take 0 xs) × ArePageItems (drop 0 xs)
zero_cut [] h = (no_page_items, h)
zero_cut (x ∷ xs) h = (no_page_items, h)

before_low : (w : ℕ) (xs : List Item) → ArePageItems xs → slice_index (signs xs) w < 128 → ArePageItems (take w xs) × ArePageItems (drop w xs)
before_low w xs h l =
    let t : AreTexts [] (take w xs) × AreTexts [] (drop w xs) =
    cut_items_before [] (take w xs) (drop w xs) (sign_begins xs w l) (subst (AreTexts []) (sym (take-append-drop w xs)) h.texts) in
    (record { texts = t.0; page = all_taken IsPageItem w xs h.page }, record { texts = t.1; page = all_dropped IsPageItem w xs h.page })

pub low_items : (w : ℕ) (xs : List Item) → ArePageItems xs → IsLowCut w xs → ArePageItems (take w xs) × ArePageItems (drop w xs)
low_items zero xs h c = zero_cut xs h
low_items (suc w) xs h c = elim (cases_lt (suc w) (length xs)) [
  | inl lt ↦ elim (c (omega arith) lt) [
    | inl l ↦
        let z : suc w - 1 ≡ w = omega arith in
        behind_items (suc w) xs h (ends_low xs w (omega (arith, lt)) (subst (λ n. slice_index (signs xs) n < 128) z l))
    | inr l ↦ before_low (suc w) xs h l
  ]
  | inr ge ↦ (subst ArePageItems (sym (take_all (suc w) xs ge)) h, subst ArePageItems (sym (drop_all (suc w) xs ge)) no_page_items)
]

-- ---- the attributes of what stands in tables

abbrev pub AreStyles : List (AttrName × List ℕ) → Type 0
AreStyles xs = AreOwn styles xs

pub styles_of : (xs : List Item) → ArePageItems xs → AreStyles (attributes xs)
unfolding spelling
styles_of xs h = span_has xs h

pub no_styles : AreStyles []
no_styles = inr (refl, inr (refl, inr (refl, inr (refl, inr (refl, inr (refl, refl))))))

-- ---- the cells of a line

pub record IsGoodCell (c : Cell) : Type 0 where
  pub opening : ArePageItems c.opening
  pub attrs : AreStyles c.attrs
  pub rest : ArePageItems c.rest

pub record IsPiece (n : ℕ) (p : List Item) : Type 0 where
  pub sign : HasSign n (signs p)
  pub items : ArePageItems p

bar_styles : (o : Option ℕ) (body : List Item) → bar_at body ≡ o → ArePageItems body → AreStyles (attributes_by o body)
bar_styles None body e h = no_styles
bar_styles (Some k) body e h =
    let there : slice_index (signs body) k ≡ 124 = bar_some body k e in
    styles_of (take k body) (before_low k body h (omega (arith, there))).0

cell_good : (header : Bool) (n : ℕ) (p : List Item) → IsPiece n p → IsGoodCell (cell_of header n p)
unfolding cell_of
cell_good header n p h =
    let w : ℕ = opening_len n p in
    let low : IsLowCut w p = low_opening n (n + past_bar (bar_at (drop n p))) w p p (signs p) refl refl h.sign refl refl in
    let c : ArePageItems (take w p) × ArePageItems (drop w p) = low_items w p h.items low in
    let body : ArePageItems (drop n p) = (low_items n p h.items (λ some less. inl h.sign.low)).1 in
    record {
      opening = c.0;
      attrs = bar_styles (bar_at (drop n p)) (drop n p) refl body;
      rest = c.1;
    }

-- the first of several has a sign of n items, each other one of two
abbrev ArePieces : ℕ → List (List Item) → Type 0
ArePieces n [] = ⊥
ArePieces n (p ∷ ps) = IsPiece n p × AllByRecursion (IsPiece 2) ps

front_sign : (n : ℕ) (p others : List Item) → n ≤ length p → HasSign n (signs (p ++ others)) → HasSign n (signs p)
front_sign n p others le h =
    let len : length (signs p) ≡ length p = length-map p sign in
    let same : get_or (signs (p ++ others)) (n - 1) 0 ≡ get_or (signs p) (n - 1) 0 =
    ap (λ (ss : List ℕ). get_or ss (n - 1) 0) (map-append sign p others)
    ∙ get_or_append_left (signs p) (signs others) 0 (n - 1) (omega (arith, le, len, h.some)) in
    record { some = h.some; within = omega (arith, le, len); low = subst (λ s. s < 128) same h.low }

pieces : (by : Splits) (n : ℕ) (ps : List (List Item)) (xs : List Item) → AreCut by n ps xs → HasSign n (signs xs) → ArePageItems xs
    → ArePieces n ps
pieces by n [] xs c s h = c
pieces by n (p ∷ []) xs c s h = (
  record {
    sign = subst (λ (ys : List Item). HasSign n (signs ys)) c.0 s;
    items = subst ArePageItems c.0 h;
  },
  tt,
)
pieces by n (p ∷ q ∷ ps) xs (others, e, le, none, split, more) s h =
    let low : (slice_index (signs others) 0 < 128) × HasSign 2 (signs others) = split_low by (signs others) split in
    let all : ArePageItems (p ++ others) = subst ArePageItems e h in
    let t : AreTexts [] p × AreTexts [] others = cut_items_before [] p others (begins others low.0) all.texts in
    let later : ArePieces 2 (q ∷ ps) = pieces by 2 (q ∷ ps) others more low.1
    (record { texts = t.1; page = all_right IsPageItem p others all.page }) in (
      record {
        sign = front_sign n p others le (subst (λ (ys : List Item). HasSign n (signs ys)) e s);
        items = record { texts = t.0; page = all_left IsPageItem p others all.page };
      },
      later,
    )
  where
    begins : (ys : List Item) → slice_index (signs ys) 0 < 128 → BeginsLow ys
    begins [] l = tt
    begins (char o b ∷ ys) l = l
    begins (whole f o bs ∷ ys) l = tt

-- some cells, each good
abbrev AreGoodCells : List Cell → Type 0
AreGoodCells [] = ⊥
AreGoodCells (c ∷ cs) = IsGoodCell c × AllByRecursion IsGoodCell cs

further_good : (header : Bool) (ps : List (List Item)) → AllByRecursion (IsPiece 2) ps → AllByRecursion IsGoodCell (map (cell_of header 2) ps)
further_good header [] a = tt
further_good header (p ∷ ps) a = (cell_good header 2 p a.0, further_good header ps a.1)

in_good : (header : Bool) (n : ℕ) (ps : List (List Item)) → ArePieces n ps → AreGoodCells (cells_in header n ps)
in_good header n [] a = a
in_good header n (p ∷ ps) a = (cell_good header n p a.0, further_good header ps a.1)

cells_good : (caption : Bool) (xs : List Item) → HasSign (sign_len caption) (signs xs) → ArePageItems xs
    → AreGoodCells (cells_from caption xs)
cells_good caption xs s h =
    let by : Splits = split_by caption (signs xs) in
    let n : ℕ = sign_len caption in
    in_good (header_by caption (signs xs)) n (parts by n xs) (pieces by n (parts by n xs) xs (cut_are by n xs) s h)

-- ---- kinds

or_more : (a b c d : Bool) → (a || b) ≡ true → (a || (b || (c || d))) ≡ true
or_more true b c d e = refl
or_more false true c d e = refl
or_more false false c d e = absurd cc

td_bordered : IsBordered kind.Td
unfolding spelling
td_bordered = record {
  round = record { class = CellClass; holding = InlinesThenBlocks; texts = Bordered; shape_is = refl; level = refl; shows = refl };
  texts = refl;
  takes = record { kind = inr refl; stands = λ bs e. refl };
  parent = record {
    text = refl;
    elements = λ k h. inline_held (is_anywhere (shape k).class) _
        (or_more (is_class (shape k).class Inline) (is_class (shape k).class Character) (is_class (shape k).class Block)
        (is_class (shape k).class ListClass) h);
  };
  block = refl;
}

th_bordered : IsBordered kind.Th
unfolding spelling
th_bordered = record {
  round = record { class = CellClass; holding = InlinesThenBlocks; texts = Bordered; shape_is = refl; level = refl; shows = refl };
  texts = refl;
  takes = record { kind = inr refl; stands = λ bs e. refl };
  parent = record {
    text = refl;
    elements = λ k h. inline_held (is_anywhere (shape k).class) _
        (or_more (is_class (shape k).class Inline) (is_class (shape k).class Character) (is_class (shape k).class Block)
        (is_class (shape k).class ListClass) h);
  };
  block = refl;
}

caption_bordered : IsBordered kind.Caption
unfolding spelling
caption_bordered = record {
  round = record { class = TablePart; holding = InlinesThenBlocks; texts = Bordered; shape_is = refl; level = refl; shows = refl };
  texts = refl;
  takes = record { kind = inr refl; stands = λ bs e. refl };
  parent = record {
    text = refl;
    elements = λ k h. inline_held (is_anywhere (shape k).class) _
        (or_more (is_class (shape k).class Inline) (is_class (shape k).class Character) (is_class (shape k).class Block)
        (is_class (shape k).class ListClass) h);
  };
  block = refl;
}

cell_bordered : (caption header : Bool) → IsBordered (cell_kind caption header)
cell_bordered true header = caption_bordered
cell_bordered false true = th_bordered
cell_bordered false false = td_bordered

cell_box : (caption header : Bool) (attrs : List (AttrName × List ℕ)) (opening : List Item) → AreStyles attrs → ArePageItems opening
    → IsBox (cell_kind caption header) attrs opening []
unfolding spelling
cell_box true header attrs opening a u = record { attrs = a; opening = u; closing = no_page_items }
cell_box false true attrs opening a u = record { attrs = a; opening = u; closing = no_page_items }
cell_box false false attrs opening a u = record { attrs = a; opening = u; closing = no_page_items }

-- ---- nodes

cell_placed : (k : ℕ) (parent : Kind) (caption : Bool) → ((header : Bool) → StandsIn parent (cell_kind caption header)) → (c : Cell) → IsGoodCell c
    → (ss : List Stretch) → ((header : Bool) → ArePlaced (suc k) (cell_kind caption header) ss) → k < 141
    → ArePlaced k parent (cell_by caption c ss)
cell_placed k parent caption s c g ss a small =
    line_opened k parent (cell_kind caption c.header) (cell_bordered caption c.header) c.attrs c.opening
    (cell_box caption c.header c.attrs c.opening g.attrs g.opening) c.rest g.rest ss (a c.header) small (s c.header)

cells_placed : (k : ℕ) (parent : Kind) (caption : Bool) → ((header : Bool) → StandsIn parent (cell_kind caption header)) → (c : Cell) (cs : List Cell)
    → IsGoodCell c → AllByRecursion IsGoodCell cs → (ss : List Stretch) → ((header : Bool) → ArePlaced (suc k) (cell_kind caption header) ss)
    → k < 141 → ArePlaced k parent (cells_by caption (c ∷ cs) ss)
cells_placed k parent caption s c [] g h ss a small = cell_placed k parent caption s c g ss a small
cells_placed k parent caption s c (d ∷ cs) g h ss a small =
    all_both (IsPlaced k parent) (cell_by caption c []) (cells_by caption (d ∷ cs) ss)
    (cell_placed k parent caption s c g [] (λ header. tt) small) (cells_placed k parent caption s d cs h.0 h.1 ss a small)

some_cells : (k : ℕ) (parent : Kind) (caption : Bool) → ((header : Bool) → StandsIn parent (cell_kind caption header)) → (cs : List Cell)
    → AreGoodCells cs → (ss : List Stretch) → ((header : Bool) → ArePlaced (suc k) (cell_kind caption header) ss)
    → k < 141 → ArePlaced k parent (cells_by caption cs ss)
some_cells k parent caption s [] g ss a small = absurd g
some_cells k parent caption s (c ∷ cs) g ss a small = cells_placed k parent caption s c cs g.0 g.1 ss a small

-- the cells, or the caption, of a row with what follows in the last of them
pub row_cells : (k : ℕ) (parent : Kind) (caption : Bool) → ((header : Bool) → StandsIn parent (cell_kind caption header)) → (r : Row) → IsGoodRow r
    → HasSign (sign_len caption) (signs r.items) → (ss : List Stretch)
    → ((header : Bool) → ArePlaced (suc k) (cell_kind caption header) ss) → k < 141
    → ArePlaced k parent (gap r.lead ∷ cells_by caption (cells_from caption r.items) (gap r.ending ∷ ss))
row_cells k parent caption s r g sign ss a small = (
  g.lead,
  some_cells k parent caption s (cells_from caption r.items) (cells_good caption r.items sign g.items) (gap r.ending ∷ ss)
      (λ header. (g.ending, a header)) small,
)

-- What blocks give.
use Rattle.std.proofs.Common.{◌≡◌, ◌<◌, ◌≤◌, ◌⊎◌, inl, inr, ℕ, zero, suc, ◌+◌, ◌-◌, ◌^◌, true, List, [], ◌∷◌, ◌++◌, length, take, drop, get_or, refl, sym, ap, ◌∙◌, subst, arith, append_assoc, append-nil, length-append, length-drop}
use Rattle.std.proofs.lemmas.List.{drop-drop, map-append, take_more}
use Rattle.std.proofs.lemmas.Grind.{flat_map-append}
use Rattle.wt_span.specs.declared.form.Piece.{Piece}
use Rattle.wt_span.specs.Items.{Item, items, sources}
use Rattle.wt_lines.specs.declared.kind.LineKind.{LineKind}
use Rattle.wt_lines.specs.declared.kind.LineKind.TheVariants as line
use Rattle.wt_tables.specs.Parts.{unit_kind}
use Rattle.wt_inline.specs.ItemTree.{ItemTree}
use Rattle.wt_rows.specs.declared.row.RowAt.{RowAt}
use Rattle.wt_rows.specs.declared.stretch.StretchAt.{StretchAt}
use Rattle.wt_page.specs.Rows.{Row, kind_of, first_lead, last_ending}
use Rattle.wt_page.specs.Stretches.{gap, tree_block}
use Rattle.wt_page.specs.Lists.{lists}
use Rattle.wt_page.specs.Texts.{with_separators}
use Rattle.wt_page.specs.Tables.{Reading, gaps, table}
use Rattle.wt_page.specs.Body.{block_stretches, blocks_by, within}
use Rattle.wt_rows.specs.Views.{slice, row_view, rows_view, stretch_view, stretches_view, IsBetween}
use Rattle.wt_rows.specs.Units.{kind_at}
use Rattle.wt_rows.specs.Ready.{AreInOrder, AreReadyRows}
use Rattle.wt_rows.proofs.FewRows.{few_first, few_front, few_rest}
use Rattle.wt_build.specs.Blocks.{reading_at, run_of, IsBlockLen, is_lone, AreOneBlock, block_node, IsNodeKind}

-- ---- a node between separators

last_is : (ps : List Piece) (rs : List RowAt) (n : ℕ) (r : RowAt) → length rs ≡ suc n → r ≡ get_or rs n r
    → last_ending (rows_view ps rs) ≡ (row_view ps r).ending
last_is ps [] n r l e = absurd (omega arith)
last_is ps (q ∷ []) zero r l e = ap (λ (t : RowAt). (row_view ps t).ending) (sym e)
last_is ps (q ∷ []) (suc n) r l e = absurd (omega arith)
last_is ps (q ∷ p ∷ qs) zero r l e = absurd (omega arith)
last_is ps (q ∷ p ∷ qs) (suc n) r l e = last_is ps (p ∷ qs) n r (omega arith) e

first_is : (ps : List Piece) (rs : List RowAt) (r : RowAt) → 0 < length rs → r ≡ get_or rs 0 r → first_lead (rows_view ps rs) ≡ (row_view ps r).lead
first_is ps [] r l e = absurd (omega arith)
first_is ps (q ∷ qs) r l e = ap (λ (t : RowAt). (row_view ps t).lead) (sym e)

-- what stands before a node, the node, and what stands behind it
pub separated : (ps : List Piece) (rs : List RowAt) (first last : RowAt) (before after : List Item) (t u : ItemTree) → 0 < length rs
    → first ≡ get_or rs 0 first → last ≡ get_or rs (length rs - 1) last → before ≡ (row_view ps first).lead → after ≡ (row_view ps last).ending → t ≡ u
    → gap before ∷ tree_block t ∷ gap after ∷ [] ≡ with_separators u (rows_view ps rs)
separated ps rs first last before after t u s ef el eb ea e =
    ap (λ v. gap before ∷ tree_block v ∷ gap after ∷ []) e
    ∙ ap (λ xs. gap xs ∷ tree_block u ∷ gap after ∷ []) (eb ∙ sym (first_is ps rs first s ef))
    ∙ ap (λ xs. gap (first_lead (rows_view ps rs)) ∷ tree_block u ∷ gap xs ∷ []) (ea ∙ sym (last_is ps rs (length rs - 1) last (omega arith) el))

pub between_is : (ps : List Piece) (rs : List RowAt) (first last : RowAt) (t u : ItemTree) (ss : List StretchAt) → 0 < length rs
    → first ≡ get_or rs 0 first → last ≡ get_or rs (length rs - 1) last → IsBetween t first last ss → t ≡ u
    → stretches_view ps ss ≡ with_separators u (rows_view ps rs)
between_is ps rs first last t u ss s ef el b e =
    b ps ∙ separated ps rs first last (row_view ps first).lead (row_view ps last).ending t u s ef el refl refl e

one_row : (rs : List RowAt) (r : RowAt) → length rs ≡ 1 → r ≡ get_or rs 0 r → rs ≡ r ∷ []
one_row [] r l e = absurd (omega arith)
one_row (q ∷ []) r l e = ap (λ (t : RowAt). t ∷ []) (sym e)
one_row (q ∷ p ∷ qs) r l e = absurd (omega arith)

pub blank_is : (ps : List Piece) (rs : List RowAt) (r : RowAt) → length rs ≡ 1 → r ≡ get_or rs 0 r → gaps (row_view ps r ∷ []) ≡ gaps (rows_view ps rs)
blank_is ps rs r l e = ap (λ qs. gaps (rows_view ps qs)) (sym (one_row rs r l e))

lone_heading : (read : Reading) (vs : List Row) → length vs ≡ 1 → block_stretches read line.Heading vs ≡ with_separators (block_node line.Heading vs) vs
lone_heading read [] h = absurd (omega arith)
lone_heading read (v ∷ []) h = refl
lone_heading read (v ∷ w ∷ vs) h = absurd (omega arith)

lone_rule : (read : Reading) (vs : List Row) → length vs ≡ 1 → block_stretches read line.Rule vs ≡ with_separators (block_node line.Rule vs) vs
lone_rule read [] h = absurd (omega arith)
lone_rule read (v ∷ []) h = refl
lone_rule read (v ∷ w ∷ vs) h = absurd (omega arith)

node_stretches : (read : Reading) (k : LineKind) (vs : List Row) → IsNodeKind k → (is_lone k ≡ true → length vs ≡ 1)
    → block_stretches read k vs ≡ with_separators (block_node k vs) vs
node_stretches read line.Blank vs i h = absurd i
node_stretches read line.TableOpen vs i h = absurd i
node_stretches read line.TableEnd vs i h = refl
node_stretches read line.Caption vs i h = refl
node_stretches read line.Row vs i h = refl
node_stretches read line.Cell vs i h = refl
node_stretches read line.Header vs i h = refl
node_stretches read line.Heading vs i h = lone_heading read vs (h refl)
node_stretches read line.Rule vs i h = lone_rule read vs (h refl)
node_stretches read line.List vs i h = absurd i
node_stretches read line.Pre vs i h = refl
node_stretches read line.Text vs i h = refl

length_view : (ps : List Piece) (rs : List RowAt) → length (rows_view ps rs) ≡ length rs
length_view ps [] = refl
length_view ps (r ∷ rs) = ap (λ n. suc n) (length_view ps rs)

pub node_view : (read : Reading) (k : LineKind) (ps : List Piece) (rs : List RowAt) → IsNodeKind k → AreOneBlock k rs
    → with_separators (block_node k (rows_view ps rs)) (rows_view ps rs) ≡ block_stretches read k (rows_view ps rs)
node_view read k ps rs i h = sym (node_stretches read k (rows_view ps rs) i (λ l. length_view ps rs ∙ h.lone l))

-- ---- rows from a place on

order_drop : (ps : List Piece) (n : ℕ) (rs : List RowAt) → AreInOrder ps rs → AreInOrder ps (drop n rs)
order_drop ps zero rs h = h
order_drop ps (suc n) [] h = h
order_drop ps (suc n) (r ∷ rs) h = order_drop ps n rs h.2

order_take : (ps : List Piece) (n : ℕ) (rs : List RowAt) → AreInOrder ps rs → AreInOrder ps (take n rs)
order_take ps zero rs h = tt
order_take ps (suc n) [] h = h
order_take ps (suc zero) (r ∷ rs) h = (h.0, tt, tt)
order_take ps (suc (suc n)) (r ∷ []) h = h
order_take ps (suc (suc n)) (r ∷ s ∷ rs) h = (h.0, h.1, order_take ps (suc n) (s ∷ rs) h.2)

pub ready_drop : (ps : List Piece) (rs qs : List RowAt) (n : ℕ) → AreReadyRows ps rs → qs ≡ drop n rs → AreReadyRows ps qs
ready_drop ps rs qs n h e = subst (AreReadyRows ps) (sym e) (record { sound = h.sound; parted = h.parted; rows = order_drop ps n rs h.rows; few = few_rest ps rs n h.few })

pub ready_take : (ps : List Piece) (rs qs : List RowAt) (n : ℕ) → AreReadyRows ps rs → qs ≡ take n rs → AreReadyRows ps qs
ready_take ps rs qs n h e = subst (AreReadyRows ps) (sym e) (record { sound = h.sound; parted = h.parted; rows = order_take ps n rs h.rows; few = few_front ps rs n h.few })

pub block_front : (rest front : List RowAt) (r : RowAt) (n : ℕ) → 0 < length rest → r ≡ get_or rest 0 r → front ≡ take n rest
    → AreOneBlock (unit_kind kind_at rest) (take n rest) → AreOneBlock r.kind front
block_front [] front r n s e f h = absurd (omega arith)
block_front (q ∷ qs) front r n s e f h =
    subst (λ (k : LineKind). AreOneBlock k front) (ap (λ (t : RowAt). t.kind) (sym e)) (subst (AreOneBlock q.kind) (sym f) h)

pub front_block : (rest front : List RowAt) (d : RowAt) (n : ℕ) → 0 < length rest → front ≡ take n rest
    → AreOneBlock (unit_kind kind_at rest) (take n rest) → AreOneBlock (get_or rest 0 d).kind front
front_block [] front d n s f h = absurd (omega arith)
front_block (q ∷ qs) front d n s f h = subst (AreOneBlock q.kind) (sym f) h

kind_viewed : (ps : List Piece) (rs : List RowAt) → unit_kind kind_of (rows_view ps rs) ≡ unit_kind kind_at rs
kind_viewed ps [] = refl
kind_viewed ps (r ∷ rs) = refl

within_is : (depth : ℕ) (vs : List Row) → within depth vs ≡ blocks_by (reading_at depth) vs
within_is zero vs = refl
within_is (suc n) vs = refl

-- so far these stretches, and the blocks of the rows from a place on
abbrev pub IsSoFar : ℕ → List Piece → List RowAt → List StretchAt → List RowAt → Type 0
IsSoFar depth ps rs out left = stretches_view ps out ++ within depth (rows_view ps left) ≡ within depth (rows_view ps rs)

-- the blocks of the rows from a place on are the first one, and those of the rows behind it
pub blocks_next : (depth : ℕ) (ps : List Piece) (rs rest front : List RowAt) (at n : ℕ) (k : LineKind) → rest ≡ drop at rs → front ≡ take n rest
    → IsBlockLen rest n → AreOneBlock k front
    → within depth (rows_view ps (drop at rs))
    ≡ block_stretches (reading_at depth) k (rows_view ps front) ++ within depth (rows_view ps (drop (at + n) rs))
blocks_next depth ps rs rest front at n k er ef cut block =
    let read = reading_at depth in
    let next : drop n rest ≡ drop (at + n) rs = ap (drop n) er ∙ drop-drop n at rs in
    let own : run_of read (rows_view ps (take n rest)) ≡ block_stretches read k (rows_view ps front) =
    ap (λ qs. run_of read (rows_view ps qs)) (sym ef)
    ∙ ap (λ (j : LineKind). block_stretches read j (rows_view ps front)) (kind_viewed ps front ∙ block.kind) in
    ap (λ qs. within depth (rows_view ps qs)) (sym er)
    ∙ within_is depth (rows_view ps rest)
    ∙ cut read ps
    ∙ ap (λ vs. vs ++ blocks_by read (rows_view ps (drop n rest))) own
    ∙ ap (λ vs. block_stretches read k (rows_view ps front) ++ vs) (sym (within_is depth (rows_view ps (drop n rest))))
    ∙ ap (λ qs. block_stretches read k (rows_view ps front) ++ within depth (rows_view ps qs)) next

pub blocks_step : (depth : ℕ) (ps : List Piece) (rs rest front : List RowAt) (at n : ℕ) (k : LineKind) (out made news : List StretchAt)
    → rest ≡ drop at rs → front ≡ take n rest → IsBlockLen rest n → AreOneBlock k front
    → stretches_view ps made ≡ block_stretches (reading_at depth) k (rows_view ps front) → news ≡ out ++ made
    → IsSoFar depth ps rs out (drop at rs) → IsSoFar depth ps rs news (drop (at + n) rs)
blocks_step depth ps rs rest front at n k out made news er ef cut block em en so_far =
    let all : within depth (rows_view ps (drop at rs)) ≡ stretches_view ps made ++ within depth (rows_view ps (drop (at + n) rs)) =
    blocks_next depth ps rs rest front at n k er ef cut block
    ∙ ap (λ vs. vs ++ within depth (rows_view ps (drop (at + n) rs))) (sym em) in
    ap (λ ss. stretches_view ps ss ++ within depth (rows_view ps (drop (at + n) rs))) en
    ∙ ap (λ vs. vs ++ within depth (rows_view ps (drop (at + n) rs))) (map-append (stretch_view ps) out made)
    ∙ append_assoc (stretches_view ps out) (stretches_view ps made) (within depth (rows_view ps (drop (at + n) rs)))
    ∙ ap (λ vs. stretches_view ps out ++ vs) (sym all)
    ∙ so_far

pub nothing : (depth : ℕ) → within depth [] ≡ []
nothing zero = refl
nothing (suc n) = refl

pub blocks_done : (depth : ℕ) (ps : List Piece) (rs left : List RowAt) (out : List StretchAt) → left ≡ [] → IsSoFar depth ps rs out left
    → stretches_view ps out ≡ within depth (rows_view ps rs)
blocks_done depth ps rs left out e h =
    sym (append-nil (stretches_view ps out)) ∙ ap (λ vs. stretches_view ps out ++ vs) (sym (nothing depth))
    ∙ ap (λ qs. stretches_view ps out ++ within depth (rows_view ps qs)) (sym e) ∙ h

-- ---- bytes

-- a line that is the first row's
pub few_line : (ps line : List Piece) (rs : List RowAt) (d : RowAt) → 0 < length rs → AreReadyRows ps rs
    → line ≡ slice (get_or rs 0 d).from (get_or rs 0 d).to ps → length (sources (items line)) < 2 ^ 32
few_line ps line [] d s h e = absurd (omega arith)
few_line ps line (r ∷ rs) d s h e =
    let same : length (sources (items line)) ≡ length (sources (row_view ps r).items) = ap (λ qs. length (sources (items qs))) e in
    omega (arith, few_first (row_view ps r) (rows_view ps rs) h.few, same)

-- ---- kinds

pub node_kind : (k : LineKind)
    → (k ≡ line.TableEnd) ⊎ (k ≡ line.Caption) ⊎ (k ≡ line.Row) ⊎ (k ≡ line.Cell) ⊎ (k ≡ line.Header)
    ⊎ (k ≡ line.Heading) ⊎ (k ≡ line.Rule) ⊎ (k ≡ line.Pre) ⊎ (k ≡ line.Text) → IsNodeKind k
node_kind k s = elim s [
  | inl a ↦ subst IsNodeKind (sym a) tt
  | inr h0 ↦ elim h0 [
    | inl a ↦ subst IsNodeKind (sym a) tt
    | inr h1 ↦ elim h1 [
      | inl a ↦ subst IsNodeKind (sym a) tt
      | inr h2 ↦ elim h2 [
        | inl a ↦ subst IsNodeKind (sym a) tt
        | inr h3 ↦ elim h3 [
          | inl a ↦ subst IsNodeKind (sym a) tt
          | inr h4 ↦ elim h4 [
            | inl a ↦ subst IsNodeKind (sym a) tt
            | inr h5 ↦ elim h5 [
              | inl a ↦ subst IsNodeKind (sym a) tt
              | inr h6 ↦ elim h6 [
                | inl a ↦ subst IsNodeKind (sym a) tt
                | inr h7 ↦ subst IsNodeKind (sym h7) tt
              ]
            ]
          ]
        ]
      ]
    ]
  ]
]

-- ---- other blocks

pub blank_block : (read : Reading) (ps : List Piece) (rs : List RowAt) (r : RowAt) (k : LineKind) → AreOneBlock k rs → r ≡ get_or rs 0 r → k ≡ line.Blank
    → gaps (row_view ps r ∷ []) ≡ block_stretches read k (rows_view ps rs)
blank_block read ps rs r k h e ek =
    blank_is ps rs r (h.lone (ap is_lone ek)) e ∙ ap (λ j. block_stretches read j (rows_view ps rs)) (sym ek)

pub table_stretches : (read : Reading) (vs : List Row) (k : LineKind) → k ≡ line.TableOpen → table read vs ≡ block_stretches read k vs
table_stretches read vs k e = ap (λ j. block_stretches read j vs) (sym e)

pub list_stretches : (read : Reading) (vs : List Row) (k : LineKind) → k ≡ line.List → lists vs ≡ block_stretches read k vs
list_stretches read vs k e = ap (λ j. block_stretches read j vs) (sym e)

-- ---- what is left

pub some_left : (rs rest : List RowAt) (at : ℕ) → at < length rs → rest ≡ drop at rs → 0 < length rest
some_left rs rest at s e = let l : length rest ≡ length (drop at rs) = ap length e in omega (arith, l, length-drop at rs)

pub within_left : (rs rest : List RowAt) (at n : ℕ) → at < length rs → rest ≡ drop at rs → n ≤ length rest → at + n ≤ length rs
within_left rs rest at n s e w = let l : length rest ≡ length (drop at rs) = ap length e in omega (arith, l, length-drop at rs)

-- Rows of a body or a cell by their tables and places, and what they make, whatever blocks are at the places.
use Rattle.std.proofs.Common.{◌≡◌, ℕ, zero, suc, Bool, true, false, List, [], ◌∷◌, ◌++◌, refl, sym, ap, ◌∙◌, subst, append-nil, inl, inr}
use Rattle.std.specs.List.{AllByRecursion}
use Rattle.wt_span.specs.Items.{Item}
use Rattle.wt_lines.specs.declared.kind.LineKind.TheVariants as line
use Rattle.wt_tables.specs.Extents.{behind}
use Rattle.wt_tables.specs.Cells.{signs as cell_signs, Cell, sign_len, parts as cell_parts, split_by, header_by, cells_from}
use Rattle.wt_tables.specs.Parts.{units, begins_part, begins_group, is_row, table_of}
use Rattle.wt_inline.specs.ItemTree.{Head, ItemTree}
use Rattle.wt_context.specs.Line.{line_parts}
use Rattle.wt_page.specs.Rows.{Row, kind_of}
use Rattle.wt_page.specs.Stretches.{Stretch, gap, block, tree_block}
use Rattle.wt_page.specs.Tables.{Reading, gaps, cell_kind, cell_by, cells_by, cell_stretches, table_by, with_attrs}
use Rattle.wt_page.specs.Texts.{para}
use Rattle.wt_page.specs.Body.{blocks_by, within}
use Rattle.wt_part_laws.specs.Blocks.{table, BeginOtherwise, AreBlocks}
use Rattle.wt_part_laws.specs.Frames.{Part, content, in_table, in_row, Holds}
use Rattle.wt_part_laws.specs.Rounds.{AreContent, EndOtherwise, AreTexts, IsCellKind}
use Rattle.wt_part_laws.specs.Slots.{Slot, a_row, a_paragraph, a_heading, IsHeadingRow}
use Rattle.wt_part_laws.specs.Units.{Level}
use Rattle.wt_part_laws.proofs.BlockCases.{read_by_cases}
use Rattle.wt_part_laws.proofs.Falling.{IsPart, part_is_unit}
use Rattle.wt_part_laws.proofs.FrameFits.{FitsAll, same_fit, fixed_fit, joined_fit, place_fit, opened_fit}
use Rattle.wt_part_laws.proofs.HeadingsInCells.{heading_content, heading_round}
use Rattle.wt_part_laws.proofs.InCells.{one_level, part_other, level_falls, level_raised, content_join, texts_content, text_round, round_blocks, all_texts, level_join}
use Rattle.wt_part_laws.proofs.TableCells.{HasAny, some_parts, some_in}
use Rattle.wt_part_laws.proofs.TableFits.{AreFixed, GroupFit, places_of, lines_of, table_fit}
use Rattle.wt_part_laws.proofs.UnitCuts.{first_unit, level_put}

-- ---- rows by their tables and places

-- Rows without a place, and then the end, a place and the rest, or a table with places in it and the rest. Of the table: its first row, the
-- rows before the first line that begins a part, such lines with what belongs to each, and its last row.
mutual
  pub data Content : Type 0 where
    last : List Row → Content
    then_place : List Row → Slot → Content → Content
    then_table : List Row → Row → List Row → Groups → Row → Content → Content

  pub data Groups : Type 0 where
    no_groups : Groups
    more_groups : Row → Content → Groups → Groups

abbrev pub slot_rows : (ℕ → List Row) → Slot → List Row
slot_rows q (a_row r) = r ∷ []
slot_rows q (a_paragraph n a b) = q n
slot_rows q (a_heading n a b) = q n

abbrev mutual
  pub content_rows : (ℕ → List Row) → Content → List Row
  content_rows q (last rs) = rs
  content_rows q (then_place rs s c) = rs ++ (slot_rows q s ++ content_rows q c)
  content_rows q (then_table rs f front gs l c) = rs ++ ((f ∷ ((front ++ groups_rows q gs) ++ l ∷ [])) ++ content_rows q c)

  pub groups_rows : (ℕ → List Row) → Groups → List Row
  groups_rows q no_groups = []
  groups_rows q (more_groups r c gs) = r ∷ (content_rows q c ++ groups_rows q gs)

abbrev pub slot_numbers : Slot → List ℕ
slot_numbers (a_row r) = []
slot_numbers (a_paragraph n a b) = n ∷ []
slot_numbers (a_heading n a b) = n ∷ []

abbrev mutual
  pub content_numbers : Content → List ℕ
  content_numbers (last rs) = []
  content_numbers (then_place rs s c) = slot_numbers s ++ content_numbers c
  content_numbers (then_table rs f front gs l c) = groups_numbers gs ++ content_numbers c

  pub groups_numbers : Groups → List ℕ
  groups_numbers no_groups = []
  groups_numbers (more_groups r c gs) = content_numbers c ++ groups_numbers gs

-- ---- what is asked of them

-- no text begins it
abbrev pub NotTextFirst : Content → Type 0
NotTextFirst (last rs) = BeginOtherwise line.Text rs
NotTextFirst (then_place [] (a_row r) c) = ⊥
NotTextFirst (then_place [] (a_paragraph n a b) c) = ⊥
NotTextFirst (then_place [] (a_heading n a b) c) = Unit {0}
NotTextFirst (then_place (r ∷ rs) s c) = r.kind ≡ line.Text → ⊥
NotTextFirst (then_table [] f front gs l c) = f.kind ≡ line.Text → ⊥
NotTextFirst (then_table (r ∷ rs) f front gs l c) = r.kind ≡ line.Text → ⊥

abbrev pub SlotApart : List Row → Slot → Content → Type 0
SlotApart rs (a_row r) c = ⊥
SlotApart rs (a_paragraph n a b) c = EndOtherwise line.Text rs × NotTextFirst c
SlotApart rs (a_heading n a b) c = Unit {0}

abbrev pub HasNoPlaces : Content → Type 0
HasNoPlaces (last rs) = Unit {0}
HasNoPlaces (then_place rs s c) = ⊥
HasNoPlaces (then_table rs f front gs l c) = ⊥

abbrev mutual
  pub IsContent : Content → Type 0
  IsContent (last rs) = AreContent rs
  IsContent (then_place rs s c) = AreContent rs × SlotApart rs s c × IsContent c
  IsContent (then_table rs f front gs l c) =
      AreContent rs × (f.kind ≡ line.TableOpen) × AreContent front × AreGroups gs × (l.kind ≡ line.TableEnd) × IsContent c

  pub AreGroups : Groups → Type 0
  AreGroups no_groups = Unit {0}
  AreGroups (more_groups r c gs) = (begins_part r.kind ≡ true) × (is_row r.kind ≡ true → HasNoPlaces c) × IsContent c × AreGroups gs

-- no more tables with places are one in the other than so many
abbrev mutual
  pub IsShallow : ℕ → Content → Type 0
  IsShallow n (last rs) = Unit {0}
  IsShallow n (then_place rs s c) = IsShallow n c
  IsShallow zero (then_table rs f front gs l c) = ⊥
  IsShallow (suc n) (then_table rs f front gs l c) = AreShallow n gs × IsShallow (suc n) c

  pub AreShallow : ℕ → Groups → Type 0
  AreShallow n no_groups = Unit {0}
  AreShallow n (more_groups r c gs) = IsShallow n c × AreShallow n gs

-- ---- what is at the places

abbrev pub SlotAt : (E : Type 0) → (E → ℕ → List Row) → (E → ℕ → ItemTree) → Slot → Type 0
SlotAt E p t (a_row r) = Unit {0}
SlotAt E p t (a_paragraph n a b) = (e : E) → AreTexts a b (p e n) × (para (p e n) ≡ t e n)
SlotAt E p t (a_heading n a b) = (e : E) → IsHeadingRow a b (p e n) (t e n)

abbrev mutual
  pub ContentAt : (E : Type 0) → (E → ℕ → List Row) → (E → ℕ → ItemTree) → Content → Type 0
  ContentAt E p t (last rs) = Unit {0}
  ContentAt E p t (then_place rs s c) = SlotAt E p t s × ContentAt E p t c
  ContentAt E p t (then_table rs f front gs l c) = GroupsAt E p t gs × ContentAt E p t c

  pub GroupsAt : (E : Type 0) → (E → ℕ → List Row) → (E → ℕ → ItemTree) → Groups → Type 0
  GroupsAt E p t no_groups = Unit {0}
  GroupsAt E p t (more_groups r c gs) = ContentAt E p t c × GroupsAt E p t gs

-- ---- a table

table_is_part : (f l : Row) (rs : List Row) → f.kind ≡ line.TableOpen → l.kind ≡ line.TableEnd → Level 0 rs → IsPart (f ∷ (rs ++ l ∷ []))
table_is_part f l rs o e h = inl (o, level_falls 0 rs l e h)

pub table_whole : (f l : Row) (rs : List Row) → f.kind ≡ line.TableOpen → l.kind ≡ line.TableEnd → Level 0 rs → AreContent (f ∷ (rs ++ l ∷ []))
table_whole f l rs o e h =
    let all : List Row = f ∷ (rs ++ l ∷ []) in
    let one : units kind_of all ≡ all ∷ [] = ap (units kind_of) (sym (append-nil all)) ∙ first_unit all [] (table_is_part f l rs o e h) in
    let no : begins_part f.kind ≡ false = ap begins_part o in
    record {
      level = level_put 0 f (rs ++ l ∷ []) (λ z. let y : line.TableOpen ≡ line.TableEnd = sym o ∙ z in absurd (cc))
          (subst (λ (n : ℕ). Level n (rs ++ l ∷ [])) (sym (ap (behind 0) o)) (level_raised 0 rs l e h));
      plain = subst (λ us. AllByRecursion (λ u. begins_group kind_of u ≡ false) us) (sym one) (no, tt);
    }

table_made : (read : Reading) (f l : Row) (rs : List Row) → f.kind ≡ line.TableOpen → IsPart (f ∷ (rs ++ l ∷ []))
    → blocks_by read (f ∷ (rs ++ l ∷ [])) ≡ table_by read (table_of kind_of f rs) l
table_made read f l rs o h =
    let all : List Row = f ∷ (rs ++ l ∷ []) in
    let is : AreBlocks (table f rs l ∷ []) all = ([], sym (append-nil all), (o, part_is_unit all h), refl) in
    read_by_cases read (table f rs l ∷ []) all is ∙ append-nil (table_by read (table_of kind_of f rs) l)

-- ---- they are whole

slot_content : (E : Type 0) (p : E → ℕ → List Row) (t : E → ℕ → ItemTree) (rs : List Row) (s : Slot) (c : Content) → SlotApart rs s c → SlotAt E p t s → (e : E)
    → AreContent (slot_rows (p e) s)
slot_content E p t rs (a_row r) c h a e = absurd h
slot_content E p t rs (a_paragraph n x y) c h a e = texts_content (p e n) (all_texts x y (p e n) (a e).0)
slot_content E p t rs (a_heading n x y) c h a e =
    let g = a e in subst AreContent (sym g.one) (heading_content g.row g.is.is)

mutual
  pub content_whole : (E : Type 0) (p : E → ℕ → List Row) (t : E → ℕ → ItemTree) (c : Content) → IsContent c → ContentAt E p t c → (e : E)
      → AreContent (content_rows (p e) c)
  content_whole E p t (last rs) h a e = h
  content_whole E p t (then_place rs s c) h a e =
      content_join rs (slot_rows (p e) s ++ content_rows (p e) c) h.0
      (content_join (slot_rows (p e) s) (content_rows (p e) c) (slot_content E p t rs s c h.1 a.0 e) (content_whole E p t c h.2 a.1 e))
  content_whole E p t (then_table rs f front gs l c) h a e =
      let inner : List Row = front ++ groups_rows (p e) gs in
      let own : List Row = f ∷ (inner ++ l ∷ []) in
      content_join rs (own ++ content_rows (p e) c) h.0
      (content_join own (content_rows (p e) c)
      (table_whole f l inner h.1 h.4 (level_join 0 front (groups_rows (p e) gs) h.2.level (groups_level E p t gs h.3 a.0 e)))
      (content_whole E p t c h.5 a.1 e))

  pub groups_level : (E : Type 0) (p : E → ℕ → List Row) (t : E → ℕ → ItemTree) (gs : Groups) → AreGroups gs → GroupsAt E p t gs → (e : E) → Level 0 (groups_rows (p e) gs)
  groups_level E p t no_groups h a e = tt
  groups_level E p t (more_groups r c gs) h a e =
      level_join 0 (r ∷ []) (content_rows (p e) c ++ groups_rows (p e) gs) (one_level r (part_other r.kind h.0))
      (level_join 0 (content_rows (p e) c) (groups_rows (p e) gs) (content_whole E p t c h.2 a.0 e).level (groups_level E p t gs h.3 a.1 e))

-- ---- cells and captions

some_cells : (v : Bool) (xs : List Item) → HasAny (cells_from v xs)
some_cells v xs =
    some_in (header_by v (cell_signs xs)) (sign_len v) (cell_parts (split_by v (cell_signs xs)) (sign_len v) xs) (some_parts (split_by v (cell_signs xs)) (sign_len v) xs)

cells_fit : {E : Type 0} (t : E → ℕ → ItemTree) (v : Bool) (q : Part) (ns : List ℕ) (f : E → List Stretch) (cs : List Cell) → HasAny cs
    → ((c : Cell) → Holds q (cell_kind v c.header) content) → FitsAll E t content ns f → FitsAll E t q ns (λ e. cells_by v cs (f e))
cells_fit t v q ns f [] some k h = absurd some
cells_fit t v q ns f (c ∷ []) some k h =
    let head : Head = with_attrs (cell_kind v c.header) c.attrs in
    opened_fit t q content ns (λ e. block (line_parts c.rest) ∷ f e) head c.opening (k c)
    (joined_fit t content [] ns (λ e. block (line_parts c.rest) ∷ []) f (fixed_fit t content (block (line_parts c.rest) ∷ [])) h)
cells_fit t v q ns f (c ∷ d ∷ cs) some k h =
    joined_fit t q [] ns (λ e. cell_by v c []) (λ e. cells_by v (d ∷ cs) (f e)) (fixed_fit t q (cell_by v c [])) (cells_fit t v q ns f (d ∷ cs) tt k h)

line_fit : {E : Type 0} (t : E → ℕ → ItemTree) (read : Reading) (v : Bool) (q : Part) (ns : List ℕ) (r : Row) (g : E → List Row)
    → ((c : Cell) → Holds q (cell_kind v c.header) content) → FitsAll E t content ns (λ e. read (g e)) → FitsAll E t q ns (λ e. cell_stretches read v (r ∷ g e))
unfolding cell_stretches
line_fit t read v q ns r g k h =
    joined_fit t q [] ns (λ e. gap r.lead ∷ []) (λ e. cells_by v (cells_from v r.items) (gap r.ending ∷ read (g e))) (fixed_fit t q (gap r.lead ∷ []))
    (cells_fit t v q ns (λ e. gap r.ending ∷ read (g e)) (cells_from v r.items) (some_cells v r.items) k
    (joined_fit t content [] ns (λ e. gap r.ending ∷ []) (λ e. read (g e)) (fixed_fit t content (gap r.ending ∷ [])) h))

in_cells : (header : Bool) → IsCellKind (cell_kind false header)
in_cells true = inr refl
in_cells false = inl refl

-- ---- what they make

abbrev pub read_at : ℕ → Reading
read_at zero = gaps
read_at (suc n) = within n

pub within_is : (n : ℕ) (rs : List Row) → within n rs ≡ blocks_by (read_at n) rs
within_is zero rs = refl
within_is (suc n) rs = refl

not_text : (E : Type 0) (p : E → ℕ → List Row) (t : E → ℕ → ItemTree) (c : Content) → NotTextFirst c → ContentAt E p t c → (e : E) → BeginOtherwise line.Text (content_rows (p e) c)
not_text E p t (last rs) h a e = h
not_text E p t (then_place [] (a_row r) c) h a e = absurd h
not_text E p t (then_place [] (a_paragraph n x y) c) h a e = absurd h
not_text E p t (then_place [] (a_heading n x y) c) h a e =
    let g = a.0 e in
    let no : g.row.kind ≡ line.Text → ⊥ = λ z. let f : line.Heading ≡ line.Text = sym g.is.is ∙ z in absurd (cc) in
    subst (λ rs. BeginOtherwise line.Text (rs ++ content_rows (p e) c)) (sym g.one) no
not_text E p t (then_place (r ∷ rs) s c) h a e = h
not_text E p t (then_table (r ∷ rs) f front gs l c) h a e = h
not_text E p t (then_table [] f front gs l c) h a e = h

-- a block with the separators round it
block_fit : {E : Type 0} (t : E → ℕ → ItemTree) (n : ℕ) (a b : List Item) → FitsAll E t content (n ∷ []) (λ e. gap a ∷ tree_block (t e n) ∷ gap b ∷ [])
block_fit t n a b =
    joined_fit t content [] (n ∷ []) (λ e. gap a ∷ []) (λ e. tree_block (t e n) ∷ gap b ∷ []) (fixed_fit t content (gap a ∷ []))
    (joined_fit t content (n ∷ []) [] (λ e. tree_block (t e n) ∷ []) (λ e. gap b ∷ []) (place_fit t content n tt) (fixed_fit t content (gap b ∷ [])))

-- the groups of a table, for such a reading
record GroupsFit (E : Type 0) (p : E → ℕ → List Row) (t : E → ℕ → ItemTree) (read : Reading) (gs : Groups) : Type 0 where
  fits : List (GroupFit E t read)
  numbers : places_of fits ≡ groups_numbers gs
  lines : (e : E) → lines_of e fits ≡ groups_rows (p e) gs

no_places : (E : Type 0) (p : E → ℕ → List Row) (c : Content) → HasNoPlaces c → AreFixed E (content_numbers c) (λ e. content_rows (p e) c)
no_places E p (last rs) h = record { own = rs; are = λ e. refl; none = refl }
no_places E p (then_place rs s c) h = absurd h
no_places E p (then_table rs f front gs l c) h = absurd h

place_made : (E : Type 0) (p : E → ℕ → List Row) (t : E → ℕ → ItemTree) (n : ℕ) (rs : List Row) (s : Slot) (c : Content) → AreContent rs → SlotApart rs s c → IsContent c
    → SlotAt E p t s → ContentAt E p t c → FitsAll E t content (content_numbers c) (λ e. blocks_by (read_at n) (content_rows (p e) c))
    → FitsAll E t content (slot_numbers s ++ content_numbers c) (λ e. blocks_by (read_at n) (rs ++ (slot_rows (p e) s ++ content_rows (p e) c)))
place_made E p t n rs (a_row r) c h k g a b f = absurd k
place_made E p t n rs (a_paragraph i x y) c h k g a b f =
    let read : Reading = read_at n in
    let rest : E → List Stretch = λ e. blocks_by read (content_rows (p e) c) in
    let own : E → List Stretch = λ e. gap x ∷ tree_block (t e i) ∷ gap y ∷ [] in
    same_fit t content (i ∷ content_numbers c) (λ e. blocks_by read (rs ++ (p e i ++ content_rows (p e) c))) (λ e. blocks_by read rs ++ (own e ++ rest e))
    (λ e.
    text_round read x y rs (p e i) (content_rows (p e) c) h (content_whole E p t c g b e) k.0 (not_text E p t c k.1 b e) (a e).0
    ∙ ap (λ u. blocks_by read rs ++ ((gap x ∷ tree_block u ∷ gap y ∷ []) ++ rest e)) (a e).1)
    (joined_fit t content [] (i ∷ content_numbers c) (λ e. blocks_by read rs) (λ e. own e ++ rest e) (fixed_fit t content (blocks_by read rs))
    (joined_fit t content (i ∷ []) (content_numbers c) own rest (block_fit t i x y) f))
place_made E p t n rs (a_heading i x y) c h k g a b f =
    let read : Reading = read_at n in
    let rest : E → List Stretch = λ e. blocks_by read (content_rows (p e) c) in
    let own : E → List Stretch = λ e. gap x ∷ tree_block (t e i) ∷ gap y ∷ [] in
    same_fit t content (i ∷ content_numbers c) (λ e. blocks_by read (rs ++ (p e i ++ content_rows (p e) c))) (λ e. blocks_by read rs ++ (own e ++ rest e))
    (λ e.
    let r = a e in
    ap (λ zs. blocks_by read (rs ++ (zs ++ content_rows (p e) c))) r.one
    ∙ heading_round read x y rs (content_rows (p e) c) r.row h (content_whole E p t c g b e) r.is
    ∙ ap (λ u. blocks_by read rs ++ ((gap x ∷ tree_block u ∷ gap y ∷ []) ++ rest e)) r.tree)
    (joined_fit t content [] (i ∷ content_numbers c) (λ e. blocks_by read rs) (λ e. own e ++ rest e) (fixed_fit t content (blocks_by read rs))
    (joined_fit t content (i ∷ []) (content_numbers c) own rest (block_fit t i x y) f))

table_made_fit : (E : Type 0) (p : E → ℕ → List Row) (t : E → ℕ → ItemTree) (n : ℕ) (rs : List Row) (f : Row) (front : List Row) (gs : Groups) (l : Row) (c : Content)
    → IsContent (then_table rs f front gs l c) → ContentAt E p t (then_table rs f front gs l c) → GroupsFit E p t (within n) gs
    → FitsAll E t content (content_numbers c) (λ e. blocks_by (within n) (content_rows (p e) c))
    → FitsAll E t content (groups_numbers gs ++ content_numbers c) (λ e. blocks_by (within n) (content_rows (p e) (then_table rs f front gs l c)))
table_made_fit E p t n rs f front gs l c h a k g =
    let read : Reading = within n in
    let ns : List ℕ = groups_numbers gs in
    let rest : E → List Stretch = λ e. blocks_by read (content_rows (p e) c) in
    let own : E → List Stretch = λ e. table_by read (table_of kind_of f (front ++ lines_of e k.fits)) l in
    let made : FitsAll E t content ns own =
    subst (λ ms. FitsAll E t content ms own) k.numbers (table_fit t read f l front k.fits h.2.level h.2.plain) in
    same_fit t content (ns ++ content_numbers c) (λ e. blocks_by read (content_rows (p e) (then_table rs f front gs l c))) (λ e. blocks_by read rs ++ (own e ++ rest e))
    (λ e.
    let inner : List Row = front ++ groups_rows (p e) gs in
    let part : IsPart (f ∷ (inner ++ l ∷ [])) =
    table_is_part f l inner h.1 h.4 (level_join 0 front (groups_rows (p e) gs) h.2.level (groups_level E p t gs h.3 a.0 e)) in
    round_blocks read rs (f ∷ (inner ++ l ∷ [])) (content_rows (p e) c) h.0 (content_whole E p t c h.5 a.1 e) part h.1
    ∙ ap (λ ss. blocks_by read rs ++ (ss ++ rest e)) (table_made read f l inner h.1 part
    ∙ ap (λ zs. table_by read (table_of kind_of f (front ++ zs)) l) (sym (k.lines e))))
    (joined_fit t content [] (ns ++ content_numbers c) (λ e. blocks_by read rs) (λ e. own e ++ rest e) (fixed_fit t content (blocks_by read rs))
    (joined_fit t content ns (content_numbers c) own rest made g))

mutual
  pub content_fit : (E : Type 0) (p : E → ℕ → List Row) (t : E → ℕ → ItemTree) (n : ℕ) (c : Content) → IsContent c → IsShallow n c → ContentAt E p t c
      → FitsAll E t content (content_numbers c) (λ e. blocks_by (read_at n) (content_rows (p e) c))
  content_fit E p t n (last rs) h s a = fixed_fit t content (blocks_by (read_at n) rs)
  content_fit E p t n (then_place rs sl c) h s a = place_made E p t n rs sl c h.0 h.1 h.2 a.0 a.1 (content_fit E p t n c h.2 s a.1)
  content_fit E p t zero (then_table rs f front gs l c) h s a = absurd s
  content_fit E p t (suc n) (then_table rs f front gs l c) h s a =
      table_made_fit E p t n rs f front gs l c h a (groups_fit E p t n gs h.3 s.0 a.0) (content_fit E p t (suc n) c h.5 s.1 a.1)

  groups_fit : (E : Type 0) (p : E → ℕ → List Row) (t : E → ℕ → ItemTree) (n : ℕ) (gs : Groups) → AreGroups gs → AreShallow n gs → GroupsAt E p t gs
      → GroupsFit E p t (within n) gs
  groups_fit E p t n no_groups h s a = record { fits = []; numbers = refl; lines = λ e. refl }
  groups_fit E p t n (more_groups r c gs) h s a =
      let g : E → List Row = λ e. content_rows (p e) c in
      let ns : List ℕ = content_numbers c in
      let inner : FitsAll E t content ns (λ e. within n (g e)) =
      same_fit t content ns (λ e. within n (g e)) (λ e. blocks_by (read_at n) (g e)) (λ e. within_is n (g e)) (content_fit E p t n c h.2 s.0 a.0) in
      let one : GroupFit E t (within n) = record {
        line = r;
        begins = h.0;
        places = ns;
        rows = g;
        level = λ e. (content_whole E p t c h.2 a.0 e).level;
        no_part = λ e. (content_whole E p t c h.2 a.0 e).plain;
        cells = line_fit t (within n) false in_row ns r g (λ c. in_cells c.header) inner;
        captions = line_fit t (within n) true in_table ns r g (λ c. refl) inner;
        opens_row = λ z. no_places E p c (h.1 z);
      } in
      let more = groups_fit E p t n gs h.3 s.1 a.1 in
      record {
        fits = one ∷ more.fits;
        numbers = ap (λ ms. ns ++ ms) more.numbers;
        lines = λ e. ap (λ zs. r ∷ (g e ++ zs)) (more.lines e);
      }

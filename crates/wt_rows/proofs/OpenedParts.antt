-- Rows of tables, and tables, with the lines that open them.
use Rattle.std.proofs.Common.{◌≡◌, ◌<◌, ℕ, None, List, [], ◌∷◌, ◌++◌, length, take, drop, get_or, refl, sym, ap, ◌∙◌, arith}
use Rattle.std.proofs.lemmas.List.{take-map, drop-map, map-append}
use Rattle.wt_tree.specs.declared.kind.Kind.TheVariants as kind
use Rattle.wt_span.specs.declared.form.Piece.{Piece}
use Rattle.wt_span.specs.Items.{Item}
use Rattle.wt_lines.specs.Lines.{content}
use Rattle.wt_tables.specs.Cells.{row_attributes, table_attributes}
use Rattle.wt_inline.specs.ItemTree.{Head, ItemTree, inner, forest}
use Rattle.wt_inline.specs.Parts.{children}
use Rattle.wt_inline.specs.Grown.{Grown, Grows, made}
use Rattle.wt_page.specs.Lines.{ending}
use Rattle.wt_rows.specs.declared.row.RowAt.{RowAt}
use Rattle.wt_rows.specs.declared.stretch.StretchAt.{StretchAt}
use Rattle.wt_rows.specs.declared.stretch.StretchAt.TheVariants as at
use Rattle.wt_page.specs.Rows.{first_lead}
use Rattle.wt_page.specs.Stretches.{Stretch, gap, tree_block, stretches_parts, before_end, end_gaps, opened_by}
use Rattle.wt_page.specs.Tables.{with_attrs, gaps, from_sign, stray_len, delimiter, behind_delimiter, delimiter_lead, first_items, row_by}
use Rattle.wt_rows.specs.Delimiters.{IsJoined, table_nodes, table_with}
use Rattle.wt_rows.specs.Views.{row_view, rows_view, stretch_view, stretches_view, IsOpenedBy, IsBetween}
use Rattle.wt_rows.proofs.Stretching.{made_is}

-- the rows of a delimiter, joined, and the blank ones behind it
pub record IsDelimiter (ps : List Piece) (rows : List RowAt) (d : RowAt) (blank : List RowAt) : Type 0 where
  pub lead : (row_view ps d).lead ≡ delimiter_lead (rows_view ps rows)
  pub items : (row_view ps d).items ≡ delimiter (rows_view ps rows)
  pub behind : gap (row_view ps d).ending ∷ gaps (rows_view ps blank) ≡ behind_delimiter (rows_view ps rows)

pub is_delimiter : (ps : List Piece) (rows front blank : List RowAt) (d : RowAt) (n : ℕ) → n ≡ stray_len (rows_view ps rows) → front ≡ take n rows
    → blank ≡ drop n rows
    → IsJoined (row_view ps d) (rows_view ps front) → IsDelimiter ps rows d blank
is_delimiter ps rows front blank d n en ef eb j =
    let vs = rows_view ps rows in
    let fv : rows_view ps front ≡ take (stray_len vs) vs = ap (rows_view ps) ef ∙ sym (take-map (row_view ps) n rows) ∙ ap (λ k. take k vs) en in
    let bv : rows_view ps blank ≡ drop (stray_len vs) vs = ap (rows_view ps) eb ∙ sym (drop-map (row_view ps) n rows) ∙ ap (λ k. drop k vs) en in
    record {
      lead = j.lead ∙ ap first_lead fv;
      items = j.items ∙ ap (λ rs. content (from_sign rs)) fv;
      behind = ap (λ xs. gap xs ∷ gaps (rows_view ps blank)) (j.ending ∙ ap (λ rs. ending (from_sign rs)) fv)
          ∙ ap (λ rs. gap (ending (from_sign (take (stray_len vs) vs))) ∷ gaps rs) bv;
    }

row_form : (ps : List Piece) (rs : List RowAt) (cs : List Stretch) → 0 < length rs
    → row_by (rows_view ps rs) cs
    ≡ gap (delimiter_lead (rows_view ps rs))
    ∷ opened_by (with_attrs kind.Tr (row_attributes (first_items (rows_view ps rs)))) (delimiter (rows_view ps rs)) (behind_delimiter (rows_view ps rs) ++ cs)
row_form ps [] cs h = absurd (omega arith)
row_form ps (r ∷ rs) cs h = refl

opened_is : (h : Head) (o : List Item) (g : Grown) (ss ls : List Stretch) → g ≡ record { trees = []; run = None } → IsOpenedBy h o g ss ls
    → ls ≡ opened_by h o ss
opened_is h o g ss ls eg is =
    is ∙ ap (λ (k : Grown). tree_block (inner h o (forest (made k (stretches_parts (before_end ss)))) []) ∷ end_gaps ss) eg

pub opened_row_is : (ps : List Piece) (rows blank : List RowAt) (d : RowAt) (h : Head) (own : List Item) (g : Grown) (after node l cells : List StretchAt)
    → 0 < length rows → IsDelimiter ps rows d blank
    → stretches_view ps after ≡ gap (row_view ps d).ending ∷ (gaps (rows_view ps blank) ++ stretches_view ps cells)
    → h ≡ with_attrs kind.Tr (row_attributes (first_items (rows_view ps rows))) → own ≡ (row_view ps d).items → g ≡ record { trees = []; run = None }
    → IsOpenedBy h own g (stretches_view ps after) (stretches_view ps node) → l ≡ at.Gap d.start d.from ∷ node
    → stretches_view ps l ≡ row_by (rows_view ps rows) (stretches_view ps cells)
opened_row_is ps rows blank d h own g after node l cells some is ea eh eo eg opened el =
    let vs = rows_view ps rows in
    let cs = stretches_view ps cells in
    let held : stretches_view ps after ≡ behind_delimiter vs ++ cs = ea ∙ ap (λ ss. ss ++ cs) is.behind in
    ap (stretches_view ps) el
    ∙ ap (λ xs. gap xs ∷ stretches_view ps node) is.lead
    ∙ ap (λ ss. gap (delimiter_lead vs) ∷ ss) (opened_is h own g (stretches_view ps after) (stretches_view ps node) eg opened
    ∙ ap (λ (k : Head). opened_by k own (stretches_view ps after)) eh
    ∙ ap (λ xs. opened_by (with_attrs kind.Tr (row_attributes (first_items vs))) xs (stretches_view ps after)) (eo ∙ is.items)
    ∙ ap (λ ss. opened_by (with_attrs kind.Tr (row_attributes (first_items vs))) (delimiter vs) ss) held)
    ∙ sym (row_form ps rows cs some)

-- what a table holds
pub nodes_are : (ps : List Piece) (blank : List RowAt) (d end : RowAt) (f g : Grown) (ts : List ItemTree) (held after inside : List StretchAt)
    → held ≡ inside ++ at.Gap end.start end.from ∷ []
    → stretches_view ps after ≡ gap (row_view ps d).ending ∷ (gaps (rows_view ps blank) ++ stretches_view ps held)
    → f ≡ record { trees = []; run = None } → Grows f (stretches_parts (stretches_view ps after)) g → ts ≡ made g []
    → ts ≡ table_nodes (row_view ps d) (rows_view ps blank) (stretches_view ps inside) (row_view ps end)
nodes_are ps blank d end f g ts held after inside ei ea ef grows et =
    let added = ap (stretches_view ps) ei ∙ map-append (stretch_view ps) inside (at.Gap end.start end.from ∷ []) in
    made_is f g (stretches_parts (stretches_view ps after)) ts grows et
    ∙ ap (λ (k : Grown). made k (stretches_parts (stretches_view ps after))) ef
    ∙ ap (λ ss. children (stretches_parts ss)) (ea ∙ ap (λ ss. gap (row_view ps d).ending ∷ (gaps (rows_view ps blank) ++ ss)) added)

pub table_is : (ps : List Piece) (rows blank : List RowAt) (d end : RowAt) (h : Head) (own closing : List Item) (ts : List ItemTree) (tree : ItemTree)
    (inside l : List StretchAt) → IsDelimiter ps rows d blank
    → ts ≡ table_nodes (row_view ps d) (rows_view ps blank) (stretches_view ps inside) (row_view ps end)
    → tree ≡ inner h own (forest ts) closing → h ≡ with_attrs kind.Table (table_attributes (first_items (rows_view ps rows)))
    → own ≡ (row_view ps d).items → closing ≡ (row_view ps end).items → IsBetween tree d end l
    → stretches_view ps l ≡ table_with (rows_view ps rows) (stretches_view ps inside) (row_view ps end)
table_is ps rows blank d end h own closing ts tree inside l is et en eh eo ec el =
    let vs = rows_view ps rows in
    let v = row_view ps end in
    let cs = stretches_view ps inside ++ (gap v.lead ∷ []) in
    let nodes : ts ≡ children (stretches_parts (behind_delimiter vs ++ cs)) =
    et ∙ ap (λ ss. children (stretches_parts (ss ++ cs))) is.behind in
    let whole : tree ≡ inner (with_attrs kind.Table (table_attributes (first_items vs))) (delimiter vs)
    (forest (children (stretches_parts (behind_delimiter vs ++ cs)))) v.items =
    en ∙ ap (λ (k : Head). inner k own (forest ts) closing) eh
    ∙ ap (λ xs. inner (with_attrs kind.Table (table_attributes (first_items vs))) xs (forest ts) closing) (eo ∙ is.items)
    ∙ ap (λ us. inner (with_attrs kind.Table (table_attributes (first_items vs))) (delimiter vs) (forest us) closing) nodes
    ∙ ap (λ xs. inner (with_attrs kind.Table (table_attributes (first_items vs))) (delimiter vs)
    (forest (children (stretches_parts (behind_delimiter vs ++ cs)))) xs) ec in
    el ps
    ∙ ap (λ xs. gap xs ∷ tree_block tree ∷ gap v.ending ∷ []) is.lead
    ∙ ap (λ t. gap (delimiter_lead vs) ∷ tree_block t ∷ gap v.ending ∷ []) whole

-- the first row, as it is read
pub first_of : (ps : List Piece) (rows : List RowAt) (d : RowAt) → 0 < length rows → (row_view ps (get_or rows 0 d)).items ≡ first_items (rows_view ps rows)
first_of ps [] d h = absurd (omega arith)
first_of ps (r ∷ rows) d h = refl

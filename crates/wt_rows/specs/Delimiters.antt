-- Rows that are joined to one from the first sign on.
use Rattle.std.specs.Prelude.{◌≡◌, List, [], ◌∷◌, ◌++◌}
use Rattle.wt_tree.specs.declared.kind.Kind.TheVariants as kind
use Rattle.wt_lines.specs.Lines.{content}
use Rattle.wt_tables.specs.Cells.{table_attributes}
use Rattle.wt_page.specs.Lines.{ending}
use Rattle.wt_page.specs.Rows.{Row, first_lead}
use Rattle.wt_inline.specs.ItemTree.{ItemTree}
use Rattle.wt_inline.specs.Parts.{children}
use Rattle.wt_page.specs.Stretches.{Stretch, gap, tree_block, node_of, stretches_parts}
use Rattle.wt_page.specs.Tables.{with_attrs, gaps, from_sign, delimiter, behind_delimiter, delimiter_lead, first_items}

pub record IsJoined (r : Row) (rs : List Row) : Type 0 where
  pub lead : r.lead ≡ first_lead rs
  pub items : r.items ≡ content (from_sign rs)
  pub ending : r.ending ≡ ending (from_sign rs)

-- a table by the rows that open it, what comes after them, and the row that ends it
abbrev pub table_with : List Row → List Stretch → Row → List Stretch
table_with opening inside end =
    gap (delimiter_lead opening)
    ∷ tree_block (node_of (with_attrs kind.Table (table_attributes (first_items opening))) (delimiter opening)
    (behind_delimiter opening ++ (inside ++ (gap end.lead ∷ []))) end.items)
    ∷ gap end.ending ∷ []

-- the nodes in a table by its joined open delimiter, the blank rows after it, what comes after them,
-- and the row that ends it
abbrev pub table_nodes : Row → List Row → List Stretch → Row → List ItemTree
table_nodes d blank inside end =
    children (stretches_parts (gap d.ending ∷ (gaps blank ++ (inside ++ (gap end.lead ∷ [])))))

-- The blocks of rows hold the rows, and the meaning of a page holds its items.
use Rattle.std.proofs.Common.{◌≡◌, ℕ, zero, suc, List, [], ◌∷◌, ◌++◌, map, refl, sym, ap, ◌∙◌, append-nil}
use Rattle.std.specs.List.{flat_map}
use Rattle.std.proofs.lemmas.Grind.{flat_map-append}
use Rattle.wt_tree.specs.declared.kind.Kind.TheVariants as kind
use Rattle.wt_span.specs.Items.{Item, sources}
use Rattle.wt_span.specs.Runs.{runs}
use Rattle.wt_span.proofs.RunLaws.{runs_are, runs_only, runs_joined}
use Rattle.wt_lines.specs.declared.kind.LineKind.{LineKind}
use Rattle.wt_lines.specs.declared.kind.LineKind.TheVariants as line
use Rattle.wt_lines.specs.declared.kind.TheConstants.{MOST_TABLES}
use Rattle.wt_lines.specs.Lines.{full_lines, goes_on}
use Rattle.wt_tables.specs.Extents.{inner_len}
use Rattle.wt_tables.specs.Parts.{joined, taken_len, put_first, units_from, units, unit_kind}
use Rattle.wt_inline.specs.Inside.{opened_all}
use Rattle.wt_inline.specs.ItemTree.{plain, ItemTree, inner, forest, tree_items}
use Rattle.wt_inline.specs.Parts.{children}
use Rattle.wt_inline.proofs.HeldLaws.{opened_append, sources_opened, are_children, only_children}
use Rattle.wt_page.specs.Headings.{heading}
use Rattle.wt_page.specs.Rows.{Row, row_items, all_items, kind_of, rows_from, rows}
use Rattle.wt_page.specs.Stretches.{stretches_parts}
use Rattle.wt_page.specs.Texts.{rule}
use Rattle.wt_page.specs.Tables.{Reading, gaps}
use Rattle.wt_page.specs.Body.{same_block, rule_row, heading_row, block_stretches, run_stretches, blocks_by, within, blocks, meaning, IsMeaning}
use Rattle.wt_page.proofs.Held.{kept, kept_append, of_node}
use Rattle.wt_page.proofs.HeldTexts.{of_para, of_pre, of_row, of_heading, of_rule}
use Rattle.wt_page.proofs.HeldLists.{of_lists}
use Rattle.wt_page.proofs.HeldTables.{Reads, all_append, of_gaps, of_table}
use Rattle.wt_page.proofs.HeldRows.{rows_join}

-- ---- units join to the rows

put_joined : {A : Type 0} (l : A) (us : List (List A)) → joined (put_first l us) ≡ l ∷ joined us
put_joined l [] = refl
put_joined l (u ∷ us) = refl

from_joined : {A : Type 0} (kind_of : A → LineKind) (n : ℕ) (ls : List A) → joined (units_from kind_of n ls) ≡ ls
from_joined kind_of n [] = refl
from_joined kind_of (suc n) (l ∷ ls) = put_joined l (units_from kind_of n ls) ∙ ap (λ ks. l ∷ ks) (from_joined kind_of n ls)
from_joined kind_of zero (l ∷ ls) =
    let n = taken_len (kind_of l) (inner_len (map kind_of ls)) in
    put_joined l (units_from kind_of n ls) ∙ ap (λ ks. l ∷ ks) (from_joined kind_of n ls)

pub units_joined : {A : Type 0} (kind_of : A → LineKind) (ls : List A) → joined (units kind_of ls) ≡ ls
units_joined kind_of [] = refl
units_joined kind_of (l ∷ ls) = from_joined kind_of 0 (l ∷ ls)

-- ---- blocks

of_rules : (rs : List Row) → kept (flat_map rule_row rs) ≡ opened_all (all_items rs)
of_rules [] = refl
of_rules (r ∷ rs) = kept_append (rule_row r) (flat_map rule_row rs) ∙ ap (λ ys. ys ++ kept (flat_map rule_row rs)) (of_row (rule r.items) r (of_rule r.items))
    ∙ ap (λ ys. opened_all (row_items r) ++ ys) (of_rules rs) ∙ sym (opened_append (row_items r) (all_items rs))

of_headings : (rs : List Row) → kept (flat_map heading_row rs) ≡ opened_all (all_items rs)
of_headings [] = refl
of_headings (r ∷ rs) =
    kept_append (heading_row r) (flat_map heading_row rs)
    ∙ ap (λ ys. ys ++ kept (flat_map heading_row rs)) (of_row (heading r.items) r (of_heading r.items))
    ∙ ap (λ ys. opened_all (row_items r) ++ ys) (of_headings rs) ∙ sym (opened_append (row_items r) (all_items rs))

of_block : (read : Reading) → Reads read → (k : LineKind) → Reads (block_stretches read k)
of_block read h line.Blank rs = of_gaps rs
of_block read h line.TableOpen rs = of_table read h rs
of_block read h line.TableEnd rs = of_para rs
of_block read h line.Caption rs = of_para rs
of_block read h line.Row rs = of_para rs
of_block read h line.Cell rs = of_para rs
of_block read h line.Header rs = of_para rs
of_block read h line.Heading rs = of_headings rs
of_block read h line.Rule rs = of_rules rs
of_block read h line.List rs = of_lists rs
of_block read h line.Pre rs = of_pre rs
of_block read h line.Text rs = of_para rs

of_runs : (read : Reading) → Reads read → (us : List (List (List Row))) → kept (flat_map (run_stretches read) us) ≡ opened_all (all_items (joined (joined us)))
of_runs read h [] = refl
of_runs read h (u ∷ us) =
    kept_append (run_stretches read u) (flat_map (run_stretches read) us)
    ∙ ap (λ ys. ys ++ kept (flat_map (run_stretches read) us)) (of_block read h (unit_kind kind_of (joined u)) (joined u))
    ∙ ap (λ ys. opened_all (all_items (joined u)) ++ ys) (of_runs read h us)
    ∙ sym (all_append (joined u) (joined (joined us)))
    ∙ ap (λ ls. opened_all (all_items ls)) (sym (flat_map-append (λ l. l) u (joined us)))

of_blocks_by : (read : Reading) → Reads read → Reads (blocks_by read)
of_blocks_by read h rs =
    of_runs read h (runs same_block (units kind_of rs))
    ∙ ap (λ us. opened_all (all_items (joined us))) (runs_joined same_block (units kind_of rs))
    ∙ ap (λ ls. opened_all (all_items ls)) (units_joined kind_of rs)

of_within : (n : ℕ) → Reads (within n)
of_within zero = of_blocks_by gaps of_gaps
of_within (suc n) = of_blocks_by (within n) (of_within n)

pub of_blocks : Reads blocks
unfolding blocks
of_blocks rs = of_within MOST_TABLES rs

pub held_meaning : (xs : List Item) → opened_all (tree_items (meaning xs)) ≡ opened_all xs
unfolding meaning
held_meaning xs = of_node (plain kind.Body) [] (blocks (rows xs)) [] ∙ append-nil (kept (blocks (rows xs))) ∙ of_blocks (rows xs) ∙ ap opened_all (rows_join xs)

pub sources_meaning : (xs : List Item) → sources (tree_items (meaning xs)) ≡ sources xs
sources_meaning xs = sym (sources_opened (tree_items (meaning xs))) ∙ ap sources (held_meaning xs) ∙ sources_opened xs

-- ---- one meaning

pub is_meaning : (xs : List Item) → IsMeaning (meaning xs) xs
unfolding meaning blocks rows
is_meaning xs = record {
  its_lines = full_lines xs;
  its_units = units kind_of (rows_from 0 (full_lines xs));
  its_blocks = runs same_block (units kind_of (rows_from 0 (full_lines xs)));
  its_children = children (stretches_parts (within 16 (rows_from 0 (full_lines xs))));
  are_lines = runs_are goes_on xs;
  are_units = refl;
  are_blocks = runs_are same_block (units kind_of (rows_from 0 (full_lines xs)));
  are_children = are_children (stretches_parts (within 16 (rows_from 0 (full_lines xs))));
  is_body = refl;
}

pub only_meaning : (t : ItemTree) (xs : List Item) → IsMeaning t xs → t ≡ meaning xs
unfolding meaning blocks rows
only_meaning t xs m =
    let ls : m.its_lines ≡ full_lines xs = runs_only goes_on m.its_lines xs m.are_lines in
    let us : m.its_units ≡ units kind_of (rows_from 0 (full_lines xs)) = m.are_units ∙ ap (λ ns. units kind_of (rows_from 0 ns)) ls in
    let bs : m.its_blocks ≡ runs same_block (units kind_of (rows_from 0 (full_lines xs))) =
    runs_only same_block m.its_blocks m.its_units m.are_blocks ∙ ap (runs same_block) us in
    m.is_body ∙ ap (λ ts. inner (plain kind.Body) [] (forest ts) [])
    (only_children m.its_children (stretches_parts (flat_map (run_stretches (within 15)) m.its_blocks)) m.are_children
    ∙ ap (λ gs. children (stretches_parts (flat_map (run_stretches (within 15)) gs))) bs)

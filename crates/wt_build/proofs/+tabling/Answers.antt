use Rattle.std.proofs.Common.{ap, arith, get_or, length, length-drop, ◌++◌, ◌+◌, ◌<◌, ◌∙◌, ◌≡◌, ◌≤◌}
use Rattle.std.proofs.lemmas.Bool.Decides.{nat_tests}
use Rattle.std.proofs.lemmas.List.{length-take}
use Rattle.std.proofs.lemmas.Result.{IfOk-weaker}
use Rattle.wt_build.specs.Blocks.{reading_at}
use Rattle.wt_rows.specs.Views.{row_view, stretches_view}
use Rattle.wt_build.proofs.TableSteps.{cells_read, no_cells}
use Rattle.std.specs.List.{prefix_len}
use Rattle.wt_rows.specs.Units.{kind_at}
use Rattle.wt_rows.specs.Groups.{goes_on}
use Rattle.wt_rows.specs.GroupViews.{groups_view}
use Rattle.wt_build.proofs.TableRows.{next_parts, row_added, row_first, row_others}
use Rattle.wt_build.proofs.TableInside.{front_begins, inside_read, parts_are, rest_parts, rest_starts}
use Rattle.wt_lines.specs.declared.kind.LineKind.TheVariants as line
use Rattle.wt_rows.specs.declared.row.RowAt.{RowAt}
use Rattle.wt_rows.proofs.FewItems.{few_between, few_at}
use Rattle.wt_rows.proofs.Straying.{ready_front, ready_rest}
use Rattle.wt_build.proofs.TableWhole.{table_whole}
use Rattle.wt_build.proofs.+tabling.Goals as goal
use Rattle.std.proofs.Common.{◌<◌, ◌≤◌, ◌+◌, length, arith}
use Rattle.std.proofs.lemmas.List.{drop_all}
use Rattle.wt_build.proofs.BlockNodes.{some_left, within_left, ready_drop, ready_take, front_block, blocks_step, blocks_done}
use Rattle.wt_build.specs.Blocks.{reading_at}

abbrev none : RowAt
none = record { kind = line.Blank; start = 0; from = 0; to = 0; end = 0 }

pub table::cell_stretches-returns-then-is_empty : goal.table::cell_stretches-returns-then-is_empty
table::cell_stretches-returns-then-is_empty t c =
    let rows = c.args.rows.now in
    let none : length rows ≡ 0 = grind (arith, nat_tests, c.is_empty.ensures, c.if-is_empty.true) in
    no_cells (reading_at c.args.depth) c.args.caption c.args.pieces.now rows c.new.result none c.new.ensures

pub table::cell_stretches-row_cells-requires-clause-few : goal.table::cell_stretches-row_cells-requires-clause-few
table::cell_stretches-row_cells-requires-clause-few t c =
    let ps = c.args.pieces.now in
    let rows = c.args.rows.now in
    let some : 0 < length rows = grind (arith, nat_tests, c.is_empty.ensures, c.if-is_empty.false) in
    few_between (row_view ps (get_or rows 0 none)) (few_at ps rows 0 none c.requires.ready some)

pub table::cell_stretches-returns : goal.table::cell_stretches-returns
table::cell_stretches-returns t c =
    let ps = c.args.pieces.now in
    let rows = c.args.rows.now in
    let some : 0 < length rows = grind (arith, nat_tests, c.is_empty.ensures, c.if-is_empty.false) in
    IfOk-weaker c.row_cells.result _ _ (λ l e.
    cells_read (reading_at c.args.depth) c.args.caption ps rows c.rest_of.result.now _ (stretches_view ps c.in_ok-inside.inside) (stretches_view ps l) some
    c.rest_of.ensures c.in_ok-inside.ensures e) c.row_cells.ensures

pub table::table_row-opened_row-requires-clause-ready : goal.table::table_row-opened_row-requires-clause-ready
table::table_row-opened_row-requires-clause-ready t c = c.rows.ensures.ready c.args.pieces.now c.requires.ready

pub table::all_rows-loop-at-preserved : goal.table::all_rows-loop-at-preserved
table::all_rows-loop-at-preserved t c =
    let ps = c.args.pieces.now in
    let rows = c.args.rows.now in
    let gs = c.args.groups.now in
    let at = c.loop-at.at in
    let len = ap length c.rest_of-rest.ensures ∙ length-drop at gs in
    let few = c.going_len-n.ensures.within in
    let less = ap length c.rest_of.ensures ∙ length-drop 1 c.rest_of-rest.result.now in
    record {
      within = omega (arith, len, few, less, c.loop-at-test.true);
      parts = next_parts ps rows gs at (1 + c.going_len-n.result) c.loop-at.invariant.parts;
      rest = row_added (reading_at c.args.depth) ps rows gs c.rest_of-rest.result.now c.front_of.result.now at (1 + c.going_len-n.result) c.loop-at.out.items
          c.into_vec-more.result.items c.append.new.self.items _ (omega (arith, len, c.loop-at-test.true)) c.rest_of-rest.ensures
          (ap (λ m. 1 + m) (c.going_len-n.ensures.value ∙ ap (λ hs. prefix_len (goes_on kind_at) (groups_view rows hs)) c.rest_of.ensures)) c.front_of.ensures
          (ap (stretches_view ps) c.into_vec-more.ensures ∙ c.in_ok-made.ensures) c.in_ok-append.ensures.items c.loop-at.invariant.rest;
    }

pub table::inside-returns : goal.table::inside-returns
table::inside-returns t c =
    let captions = c.in_ok-captions.captions in
    inside_read (reading_at c.args.depth) c.args.pieces.now c.args.rows.now c.in_ok-found.found c.as_slice-parts.result.now c.front_of.result.now
    c.rest_of.result.now
    c.captions_len-n.result captions c.in_ok-made.made c.append.new.self.items c.from_vec.result c.in_ok-found.ensures c.as_slice-parts.ensures
    c.captions_len-n.ensures.value c.front_of.ensures c.rest_of.ensures c.in_ok-captions.ensures c.in_ok-made.ensures
    (c.in_ok-append.ensures.items ∙ ap (λ xs. xs ++ c.into_vec-more.result.items) c.into_vec-out.ensures ∙ ap (λ xs. captions ++ xs) c.into_vec-more.ensures)
    c.from_vec.ensures

pub table::table-whole_table-requires-clause-ready : goal.table::table-whole_table-requires-clause-ready
table::table-whole_table-requires-clause-ready t c = ready_front c.args.pieces.now c.args.rows.now c.front_of-front.result.now _ c.requires.ready
    c.front_of-front.ensures

pub table::table-returns : goal.table::table-returns
table::table-returns t c =
    let ps = c.args.pieces.now in
    let rows = c.args.rows.now in
    IfOk-weaker c.whole_table.result _ _ (λ l e.
    table_whole (reading_at c.args.depth) ps rows c.front_of-inner.result.now c.rest_of-behind.result.now c.front_of-front.result.now
    c.rest_of-parts.result.now _
    c.plain_len-n.result (stretches_view ps c.in_ok-held.held) (stretches_view ps l) c.if-rows-lt2.false c.rest_of-behind.ensures c.front_of-inner.ensures
    c.plain_len-n.ensures.value c.rest_of-parts.ensures c.front_of-front.ensures c.in_ok-held.ensures e) c.whole_table.ensures

pub table::all_rows-table_row-requires : goal.table::all_rows-table_row-requires
table::all_rows-table_row-requires t c =
    let gs = c.args.groups.now in
    let at = c.loop-at.at in
    let len = ap length c.rest_of-rest.ensures ∙ length-drop at gs in
    let front = ap length c.front_of.ensures ∙ length-take (1 + c.going_len-n.result) c.rest_of-rest.result.now in
    let some = c.loop-at-test.true in (
      omega arith,
      (
        omega (arith, len, front, some),
        (
          c.requires.ready,
          (
            row_first c.args.pieces.now c.args.rows.now c.args.groups.now c.rest_of-rest.result.now c.front_of.result.now c.loop-at.at _
                c.rest_of-rest.ensures c.front_of.ensures
                c.loop-at.invariant.parts,
            row_others c.args.pieces.now c.args.rows.now c.args.groups.now c.rest_of-rest.result.now c.front_of.result.now c.loop-at.at
                (1 + c.going_len-n.result)
                c.rest_of-rest.ensures c.front_of.ensures
                (ap (λ m. 1 + m) (c.going_len-n.ensures.value ∙ ap (λ gs. prefix_len (goes_on kind_at) (groups_view c.args.rows.now gs)) c.rest_of.ensures))
                c.loop-at.invariant.parts,
          ),
        ),
      ),
    )

pub table::inside-all_cells-requires : goal.table::inside-all_cells-requires
table::inside-all_cells-requires t c =
    let ps = c.args.pieces.now in
    let rows = c.args.rows.now in (
      omega arith,
      (
        c.requires.ready,
        front_begins ps rows c.in_ok-found.found c.as_slice-parts.result.now c.front_of.result.now c.captions_len-n.result c.as_slice-parts.ensures
            c.front_of.ensures
            c.captions_len-n.ensures.value (parts_are ps rows c.in_ok-found.found c.requires.ready.rows c.requires.part c.in_ok-found.ensures),
      ),
    )

pub table::inside-body-requires : goal.table::inside-body-requires
table::inside-body-requires t c =
    let ps = c.args.pieces.now in
    let rows = c.args.rows.now in (
      omega arith,
      (
        c.requires.ready,
        rest_parts ps rows c.in_ok-found.found c.as_slice-parts.result.now c.rest_of.result.now c.captions_len-n.result c.as_slice-parts.ensures
            c.rest_of.ensures
            (parts_are ps rows c.in_ok-found.found c.requires.ready.rows c.requires.part c.in_ok-found.ensures),
      ),
    )

pub table::table-inside-requires : goal.table::table-inside-requires
table::table-inside-requires t c =
    let ps = c.args.pieces.now in (
      omega arith,
      (
        ready_rest ps c.front_of-inner.result.now c.rest_of-parts.result.now c.plain_len-n.result
            (ready_front ps c.rest_of-behind.result.now c.front_of-inner.result.now _
            (ready_rest ps c.args.rows.now c.rest_of-behind.result.now 1 c.requires.ready c.rest_of-behind.ensures)
            c.front_of-inner.ensures) c.rest_of-parts.ensures,
        rest_starts c.front_of-inner.result.now c.rest_of-parts.result.now c.plain_len-n.result c.plain_len-n.ensures.value c.rest_of-parts.ensures,
      ),
    )

pub block::block-returns-in-TableEnd : goal.block::block-returns-in-TableEnd
block::block-returns-in-TableEnd t c = c.node_block.ensures (reading_at c.args.depth)

pub block::blocks-block_len-n-requires : goal.block::blocks-block_len-n-requires
block::blocks-block_len-n-requires t c =
    some_left c.args.rows.now c.rest_of-rest.result.now c.loop-at.at c.loop-at-test.true c.rest_of-rest.ensures

pub block::blocks-block-requires : goal.block::blocks-block-requires
block::blocks-block-requires t c =
    let some = some_left c.args.rows.now c.rest_of-rest.result.now c.loop-at.at c.loop-at-test.true c.rest_of-rest.ensures in (
      omega arith,
      (
        ready_take c.args.pieces.now c.rest_of-rest.result.now c.front_of.result.now c.block_len-n.result
            (ready_drop c.args.pieces.now c.args.rows.now c.rest_of-rest.result.now c.loop-at.at c.requires c.rest_of-rest.ensures) c.front_of.ensures,
        front_block c.rest_of-rest.result.now c.front_of.result.now _ c.block_len-n.result some c.front_of.ensures c.block_len-n.ensures.block,
      ),
    )

pub block::blocks-loop-at-smaller : goal.block::blocks-loop-at-smaller
block::blocks-loop-at-smaller t c =
    let n : 0 < c.block_len-n.result = c.block_len-n.ensures.some in
    let w : c.loop-at.at + c.block_len-n.result ≤ length c.args.rows.now = within_left c.args.rows.now c.rest_of-rest.result.now
    c.loop-at.at c.block_len-n.result c.loop-at-test.true c.rest_of-rest.ensures c.block_len-n.ensures.within in
    omega (arith, n, w)

pub block::blocks-loop-at-preserved : goal.block::blocks-loop-at-preserved
block::blocks-loop-at-preserved t c =
    let ps = c.args.pieces.now in
    let rows = c.args.rows.now in
    let rest = c.rest_of-rest.result.now in
    let front = c.front_of.result.now in
    let at = c.loop-at.at in
    let n = c.block_len-n.result in
    let some = some_left rows rest at c.loop-at-test.true c.rest_of-rest.ensures in
    record {
      within = within_left rows rest at n c.loop-at-test.true c.rest_of-rest.ensures c.block_len-n.ensures.within;
      so_far = blocks_step c.args.depth ps rows rest front at n _ c.loop-at.out.items c.into_vec.result.items c.append.new.self.items
          c.rest_of-rest.ensures c.front_of.ensures c.block_len-n.ensures.cut
          (front_block rest front _ n some c.front_of.ensures c.block_len-n.ensures.block)
          (ap (stretches_view ps) c.into_vec.ensures ∙ c.in_ok-made.ensures) c.in_ok-append.ensures.items c.loop-at.invariant.so_far;
    }

pub block::blocks-returns : goal.block::blocks-returns
block::blocks-returns t c =
    let ps = c.args.pieces.now in
    let rows = c.args.rows.now in
    let none = drop_all c.loop-at.at rows c.loop-at-test.false in
    ap (stretches_view ps) c.from_vec.ensures ∙ blocks_done c.args.depth ps rows _ c.loop-at.out.items none c.loop-at.invariant.so_far

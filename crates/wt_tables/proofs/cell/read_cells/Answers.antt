use Rattle.std.proofs.Common.{◌+◌, ◌≤◌, sym, ap, ◌∙◌, subst, arith, length, drop, take, map, ◌∷◌}
use Rattle.std.specs.List.{All}
use Rattle.std.proofs.lemmas.List.{length-drop, take-map, drop-map, drop-drop}
use Rattle.std.proofs.lemmas.List.Elements.{All-push}
use Rattle.wt_span.specs.Items.{sign, items}
use Rattle.wt_tables.specs.Cells.{cell_of}
use Rattle.wt_tables.specs.Views.{numbers, waiting, first_len, HasSign}
use Rattle.wt_tables.specs.CellViews.{IsSoundCell}
use Rattle.wt_tables.proofs.Numbers.{numbers_from, numbers_front, numbers_len, sign_front}
use Rattle.wt_tables.proofs.CellSteps.{low_first, cells_left, cells_first, next_sign}
use Rattle.wt_tables.proofs.CellReads.{step_cells, some_items}
use Rattle.wt_tables.proofs.cell.read_cells.Goals as goal

pub take-requires-clause-low : goal.take-requires-clause-low
take-requires-clause-low c =
    let l = c.loop-at in
    let is = numbers_from l.at _ _ c.rest_of-rest.ensures ∙ l.invariant.signs_are in
    low_first c.args.by l.sign_len c.first_len-len.result (waiting l.left) (c.first_len-len.ensures.value ∙ ap (first_len c.args.by l.sign_len) is)

pub read_cell-requires-clause-signs_are : goal.read_cell-requires-clause-signs_are
read_cell-requires-clause-signs_are c =
    let l = c.loop-at in
    let is = numbers_from l.at _ _ c.rest_of-rest.ensures ∙ l.invariant.signs_are in
    numbers_front c.first_len-len.result _ _ c.front_of.ensures ∙ ap (take c.first_len-len.result) is ∙ take-map sign c.first_len-len.result (waiting l.left)
    ∙ ap (map sign) (sym (ap items c.as_slice.ensures ∙ c.in_ok-part.ensures.front))

pub loop-at-preserved : goal.loop-at-preserved
loop-at-preserved c =
    let l = c.loop-at in
    let len = c.first_len-len.result in
    let is = numbers_from l.at _ _ c.rest_of-rest.ensures ∙ l.invariant.signs_are in
    let k = c.first_len-len.ensures.value ∙ ap (first_len c.args.by l.sign_len) is in
    let within : l.at + len ≤ length c.args.signs.now =
    omega (
      arith,
      c.first_len-len.ensures.within,
      ap length c.rest_of-rest.ensures,
      length-drop l.at c.args.signs.now,
      l.invariant.within,
    ) in
    let sign_here = l.invariant.has_sign c.loop-at-test.true in
    let joined = drop-drop len l.at (numbers c.args.signs.now) in
    record {
      within = within;
      signs_are = sym joined ∙ ap (drop len) l.invariant.signs_are ∙ drop-map sign len (waiting l.left) ∙ ap (map sign) (sym c.in_ok-part.ensures.back);
      sound = c.in_ok-part.ensures.sound_back;
      has_sign = λ less. subst (HasSign 2) (ap (drop len) (numbers_from l.at _ _ c.rest_of-rest.ensures) ∙ joined)
          (next_sign c.args.by l.sign_len len (numbers c.rest_of-rest.result.now) c.first_len-len.ensures.value
          (omega (arith, less, ap length c.rest_of-rest.ensures, length-drop l.at c.args.signs.now, numbers_len c.rest_of-rest.result.now)));
      cells_are = step_cells l.cells c.push.new.self c.in_ok-cell.cell
          (cell_of c.args.header l.sign_len (take len (waiting l.left))) _
          (cells_left c.args.header c.args.by 2 (waiting c.in_ok-part.after)) _ c.in_ok-push.ensures.ok
          (c.in_ok-cell.ensures.value ∙ ap (cell_of c.args.header l.sign_len) (ap items c.as_slice.ensures ∙ c.in_ok-part.ensures.front))
          (cells_first c.args.header c.args.by l.sign_len len (waiting l.left)
          (some_items (waiting l.left) (drop l.at (numbers c.args.signs.now)) l.sign_len l.invariant.signs_are sign_here) k
          ∙ ap (λ ys. cell_of c.args.header l.sign_len (take len (waiting l.left)) ∷ cells_left c.args.header c.args.by 2 ys) (sym c.in_ok-part.ensures.back))
          l.invariant.cells_are;
      sound_cells = subst (All IsSoundCell) (sym c.in_ok-push.ensures.ok)
          (All-push IsSoundCell l.cells c.in_ok-cell.cell l.invariant.sound_cells c.in_ok-cell.ensures.sound_cell);
    }

pub read_cell-requires-clause-sign : goal.read_cell-requires-clause-sign
read_cell-requires-clause-sign c =
    let l = c.loop-at in
    let len = c.first_len-len.result in
    subst (HasSign l.sign_len) (sym (numbers_front len _ _ c.front_of.ensures))
    (sign_front l.sign_len len (numbers c.rest_of-rest.result.now) c.first_len-len.ensures.some
    (subst (HasSign l.sign_len) (sym (numbers_from l.at _ _ c.rest_of-rest.ensures)) (l.invariant.has_sign c.loop-at-test.true)))

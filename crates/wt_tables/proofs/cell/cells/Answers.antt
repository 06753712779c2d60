use Rattle.std.proofs.Common.{◌≡◌, ℕ, List, sym, ap, ◌∙◌, subst, drop, map}
use Rattle.std.specs.List.{flat_map, prefix_len}
use Rattle.std.proofs.lemmas.List.{drop-map}
use Rattle.wt_span.specs.Items.{Item, sign, items}
use Rattle.wt_lines.specs.Kinds.{is_idle}
use Rattle.wt_tables.specs.Cells.{signs, lead_len, from_sign, whole}
use Rattle.wt_tables.specs.Views.{numbers, waiting, HasSign}
use Rattle.wt_tables.proofs.Numbers.{numbers_from}
use Rattle.wt_tables.proofs.CellReads.{low_lead, first_sign, cells_joined, views_joined, cells_are}
use Rattle.wt_tables.proofs.cell.cells.Goals as goal

-- what is left behind the first sign's lead
left_is : (xs : List Item) (lead : ℕ) (all rest : List ℕ) → lead ≡ lead_len xs → all ≡ signs xs → rest ≡ drop lead all → rest ≡ signs (from_sign xs)
left_is xs lead all rest l a e = e ∙ ap (drop lead) a ∙ ap (λ (n : ℕ). drop n (signs xs)) l ∙ drop-map sign (lead_len xs) xs

items_left : (xs all now : List Item) (lead : ℕ) → lead ≡ lead_len xs → all ≡ xs → now ≡ drop lead all → now ≡ from_sign xs
items_left xs all now lead l a e = e ∙ ap (drop lead) a ∙ ap (λ (n : ℕ). drop n xs) l

pub skip-cursor-requires-clause-low : goal.skip-cursor-requires-clause-low
skip-cursor-requires-clause-low c =
    let xs = items c.args.line.pieces in
    let sg = ap numbers c.as_slice-2.ensures ∙ c.in_ok-signs.ensures ∙ ap (map sign) (ap items c.as_slice.ensures) in
    low_lead c.args.caption xs (waiting c.of.result) c.idle_len-lead.result (c.of.ensures.items ∙ ap items c.as_slice-4.ensures)
    (c.idle_len-lead.ensures.value ∙ ap (prefix_len is_idle) sg) c.requires.sign

pub read_cells-requires-clause-signs_are : goal.read_cells-requires-clause-signs_are
read_cells-requires-clause-signs_are c =
    let xs = items c.args.line.pieces in
    let sg = ap numbers c.as_slice-2.ensures ∙ c.in_ok-signs.ensures ∙ ap (map sign) (ap items c.as_slice.ensures) in
    let lead = c.idle_len-lead.ensures.value ∙ ap (prefix_len is_idle) sg in
    let all = ap numbers c.as_slice-3.ensures ∙ c.in_ok-signs.ensures ∙ ap (map sign) (ap items c.as_slice.ensures) in
    left_is xs c.idle_len-lead.result (numbers c.as_slice-3.result.now) (numbers c.rest_of-rest.result.now) lead all
    (numbers_from c.idle_len-lead.result _ _ c.rest_of-rest.ensures)
    ∙ ap (map sign) (sym (items_left xs (waiting c.of.result) (waiting c.skip-cursor.result) c.idle_len-lead.result lead
    (c.of.ensures.items ∙ ap items c.as_slice-4.ensures) c.skip-cursor.ensures.back))

pub read_cells-requires-clause-sign : goal.read_cells-requires-clause-sign
read_cells-requires-clause-sign c =
    let xs = items c.args.line.pieces in
    let sg = ap numbers c.as_slice-2.ensures ∙ c.in_ok-signs.ensures ∙ ap (map sign) (ap items c.as_slice.ensures) in
    let lead = c.idle_len-lead.ensures.value ∙ ap (prefix_len is_idle) sg in
    let all = ap numbers c.as_slice-3.ensures ∙ c.in_ok-signs.ensures ∙ ap (map sign) (ap items c.as_slice.ensures) in
    let rest = left_is xs c.idle_len-lead.result (numbers c.as_slice-3.result.now) (numbers c.rest_of-rest.result.now) lead all
    (numbers_from c.idle_len-lead.result _ _ c.rest_of-rest.ensures) in
    subst (λ (n : ℕ). HasSign n (numbers c.rest_of-rest.result.now)) (sym c.mode-by.ensures.len)
    (subst (HasSign _) (sym rest) (first_sign c.args.caption xs c.requires.sign))

pub returns-clause-value : goal.returns-clause-value
returns-clause-value c =
    let xs = items c.args.line.pieces in
    let sg = ap numbers c.as_slice-2.ensures ∙ c.in_ok-signs.ensures ∙ ap (map sign) (ap items c.as_slice.ensures) in
    let lead = c.idle_len-lead.ensures.value ∙ ap (prefix_len is_idle) sg in
    let all = ap numbers c.as_slice-3.ensures ∙ c.in_ok-signs.ensures ∙ ap (map sign) (ap items c.as_slice.ensures) in
    let rest = left_is xs c.idle_len-lead.result (numbers c.as_slice-3.result.now) (numbers c.rest_of-rest.result.now) lead all
    (numbers_from c.idle_len-lead.result _ _ c.rest_of-rest.ensures) in
    let now = items_left xs (waiting c.of.result) (waiting c.skip-cursor.result) c.idle_len-lead.result lead
    (c.of.ensures.items ∙ ap items c.as_slice-4.ensures) c.skip-cursor.ensures.back in
    cells_are c.args.caption xs (waiting c.skip-cursor.result) c.mode-by.result.0 c.mode-by.result.1 c.mode-by.result.2
    (numbers c.rest_of-rest.result.now) _ rest c.mode-by.ensures.by c.mode-by.ensures.header c.mode-by.ensures.len now c.in_ok-cells.ensures.value

pub returns-clause-joined : goal.returns-clause-joined
returns-clause-joined c =
    let xs = items c.args.line.pieces in
    let sg = ap numbers c.as_slice-2.ensures ∙ c.in_ok-signs.ensures ∙ ap (map sign) (ap items c.as_slice.ensures) in
    let lead = c.idle_len-lead.ensures.value ∙ ap (prefix_len is_idle) sg in
    let all = ap numbers c.as_slice-3.ensures ∙ c.in_ok-signs.ensures ∙ ap (map sign) (ap items c.as_slice.ensures) in
    let rest = left_is xs c.idle_len-lead.result (numbers c.as_slice-3.result.now) (numbers c.rest_of-rest.result.now) lead all
    (numbers_from c.idle_len-lead.result _ _ c.rest_of-rest.ensures) in
    let now = items_left xs (waiting c.of.result) (waiting c.skip-cursor.result) c.idle_len-lead.result lead
    (c.of.ensures.items ∙ ap items c.as_slice-4.ensures) c.skip-cursor.ensures.back in
    let value = cells_are c.args.caption xs (waiting c.skip-cursor.result) c.mode-by.result.0 c.mode-by.result.1
    c.mode-by.result.2 (numbers c.rest_of-rest.result.now) _ rest c.mode-by.ensures.by c.mode-by.ensures.header c.mode-by.ensures.len
    now c.in_ok-cells.ensures.value in
    views_joined c.in_ok-cells.cells ∙ ap (flat_map whole) value ∙ cells_joined c.args.caption xs

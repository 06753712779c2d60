use Rattle.std.proofs.Common.{◌≡◌, ◌+◌, ◌-◌, ◌<◌, ◌≤◌, sym, ap, ◌∙◌, arith, length, drop, take, map}
use Rattle.std.proofs.lemmas.List.{length-map, length-drop, take-map}
use Rattle.wt_span.specs.Items.{sign, items}
use Rattle.wt_tree.specs.View.{attrs_of}
use Rattle.wt_attributes.specs.Attributes.{attributes}
use Rattle.wt_tables.specs.Views.{numbers}
use Rattle.wt_tables.proofs.Numbers.{numbers_from, numbers_front, numbers_len}
use Rattle.wt_tables.specs.Cells.{single_at, is_plain, past_bar, attributes_by}
use Rattle.wt_tables.proofs.CellSteps.{low_bar}
use Rattle.wt_tables.proofs.CellReads.{no_bar, rough_bar, some_bar, body_is}
use Rattle.wt_tables.proofs.cell.read_attrs.Goals as goal

pub returns-then-len-body-clause-len : goal.returns-then-len-body-clause-len
returns-then-len-body-clause-len c =
    let xs = drop c.args.n (items c.args.part.now) in
    let b = body_is c.args.n (items c.args.part.now) (numbers c.args.signs.now) (numbers c.rest_of-body.result.now) c.requires.signs_are
    (numbers_from c.args.n _ _ c.rest_of-body.ensures) in
    let k = c.single_at-len.ensures.value ∙ ap single_at b in
    let l : length xs ≤ c.single_at-len.result = omega (arith, c.if-len-body.true, ap length b, length-map xs sign, numbers_len c.rest_of-body.result.now) in
    let e = no_bar xs c.single_at-len.result k l in
    let z : c.args.n ≡ c.args.n + 0 = omega arith in
    z ∙ ap (λ o. c.args.n + past_bar o) (sym e)

pub returns-then-len-body-clause-attrs : goal.returns-then-len-body-clause-attrs
returns-then-len-body-clause-attrs c =
    let xs = drop c.args.n (items c.args.part.now) in
    let b = body_is c.args.n (items c.args.part.now) (numbers c.args.signs.now) (numbers c.rest_of-body.result.now) c.requires.signs_are
    (numbers_from c.args.n _ _ c.rest_of-body.ensures) in
    let k = c.single_at-len.ensures.value ∙ ap single_at b in
    let l : length xs ≤ c.single_at-len.result = omega (arith, c.if-len-body.true, ap length b, length-map xs sign, numbers_len c.rest_of-body.result.now) in
    let e = no_bar xs c.single_at-len.result k l in
    ap attrs_of c.new.ensures ∙ ap (λ o. attributes_by o xs) (sym e)

pub behind_sign-requires-clause-low : goal.behind_sign-requires-clause-low
behind_sign-requires-clause-low c =
    low_bar c.args.n (items c.args.part.now) (numbers c.args.signs.now) (numbers c.rest_of-body.result.now) c.single_at-len.result
    c.requires.signs_are (numbers_from c.args.n _ _ c.rest_of-body.ensures) c.single_at-len.ensures.value

pub is_plain-requires : goal.is_plain-requires
is_plain-requires c =
    let xs = drop c.args.n (items c.args.part.now) in
    let b = body_is c.args.n (items c.args.part.now) (numbers c.args.signs.now) (numbers c.rest_of-body.result.now) c.requires.signs_are
    (numbers_from c.args.n _ _ c.rest_of-body.ensures) in
    numbers_front c.single_at-len.result _ _ c.front_of.ensures ∙ ap (take c.single_at-len.result) b ∙ take-map sign c.single_at-len.result xs
    ∙ ap (map sign) (sym (ap items c.as_slice.ensures ∙ c.in_ok-front.ensures.items))

pub returns-then-not-is_plain-clause-len : goal.returns-then-not-is_plain-clause-len
returns-then-not-is_plain-clause-len c =
    let xs = drop c.args.n (items c.args.part.now) in
    let b = body_is c.args.n (items c.args.part.now) (numbers c.args.signs.now) (numbers c.rest_of-body.result.now) c.requires.signs_are
    (numbers_from c.args.n _ _ c.rest_of-body.ensures) in
    let k = c.single_at-len.ensures.value ∙ ap single_at b in
    let front = ap items c.as_slice.ensures ∙ c.in_ok-front.ensures.items in
    let e = rough_bar xs c.single_at-len.result k (ap is_plain (sym front) ∙ sym c.is_plain.ensures ∙ c.if-not-is_plain.true) in
    let z : c.args.n ≡ c.args.n + 0 = omega arith in
    z ∙ ap (λ o. c.args.n + past_bar o) (sym e)

pub returns-then-not-is_plain-clause-attrs : goal.returns-then-not-is_plain-clause-attrs
returns-then-not-is_plain-clause-attrs c =
    let xs = drop c.args.n (items c.args.part.now) in
    let b = body_is c.args.n (items c.args.part.now) (numbers c.args.signs.now) (numbers c.rest_of-body.result.now) c.requires.signs_are
    (numbers_from c.args.n _ _ c.rest_of-body.ensures) in
    let k = c.single_at-len.ensures.value ∙ ap single_at b in
    let front = ap items c.as_slice.ensures ∙ c.in_ok-front.ensures.items in
    let e = rough_bar xs c.single_at-len.result k (ap is_plain (sym front) ∙ sym c.is_plain.ensures ∙ c.if-not-is_plain.true) in
    ap attrs_of c.new-then-not-is_plain.ensures ∙ ap (λ o. attributes_by o xs) (sym e)

pub returns-clause-len : goal.returns-clause-len
returns-clause-len c =
    let xs = drop c.args.n (items c.args.part.now) in
    let b = body_is c.args.n (items c.args.part.now) (numbers c.args.signs.now) (numbers c.rest_of-body.result.now) c.requires.signs_are
    (numbers_from c.args.n _ _ c.rest_of-body.ensures) in
    let k = c.single_at-len.ensures.value ∙ ap single_at b in
    let front = ap items c.as_slice.ensures ∙ c.in_ok-front.ensures.items in
    let l : c.single_at-len.result < length xs = omega
    (arith, c.if-len-body.false, c.single_at-len.ensures.within, ap length b, length-map xs sign, numbers_len c.rest_of-body.result.now) in
    let e = some_bar xs c.single_at-len.result k l (ap is_plain (sym front) ∙ sym c.is_plain.ensures ∙ c.if-not-is_plain.false) in
    let size : length c.rest_of-body.result.now ≡ length c.args.signs.now - c.args.n = ap length c.rest_of-body.ensures
    ∙ length-drop c.args.n c.args.signs.now in
    let same : length c.rest_of-body.result.now ≡ length xs = sym (numbers_len c.rest_of-body.result.now) ∙ ap length b ∙ length-map xs sign in
    let z : length c.args.signs.now - (length c.rest_of-body.result.now - c.single_at-len.result - 1) ≡ c.args.n
    + (c.single_at-len.result + 1) = omega (arith, size, same, l, c.requires.sign.within, numbers_len c.args.signs.now) in
    z ∙ ap (λ o. c.args.n + past_bar o) (sym e)

pub returns-clause-attrs : goal.returns-clause-attrs
returns-clause-attrs c =
    let xs = drop c.args.n (items c.args.part.now) in
    let b = body_is c.args.n (items c.args.part.now) (numbers c.args.signs.now) (numbers c.rest_of-body.result.now) c.requires.signs_are
    (numbers_from c.args.n _ _ c.rest_of-body.ensures) in
    let k = c.single_at-len.ensures.value ∙ ap single_at b in
    let front = ap items c.as_slice.ensures ∙ c.in_ok-front.ensures.items in
    let l : c.single_at-len.result < length xs = omega
    (arith, c.if-len-body.false, c.single_at-len.ensures.within, ap length b, length-map xs sign, numbers_len c.rest_of-body.result.now) in
    let e = some_bar xs c.single_at-len.result k l (ap is_plain (sym front) ∙ sym c.is_plain.ensures ∙ c.if-not-is_plain.false) in
    c.in_ok-attrs.ensures ∙ ap attributes (ap items c.as_slice-2.ensures ∙ c.in_ok-front.ensures.items) ∙ ap (λ o. attributes_by o xs) (sym e)

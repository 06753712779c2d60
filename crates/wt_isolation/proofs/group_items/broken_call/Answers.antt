use Rattle.std.proofs.Common.{rules, ◌<◌, Some, [], ◌∷◌, length, map, cond, sym, ap, ◌∙◌}
use Rattle.wt_span.specs.Items.{char}
use Rattle.wt_span.specs.Origins.{outer_call}
use Rattle.wt_isolation.proofs.SlicedBreaks.{no_break_of_page, break_of_call}
use Rattle.wt_isolation.proofs.group_items.broken_call.Goals as goal

pub returns-in-Page : goal.returns-in-Page
returns-in-Page c =
    let ps = c.args.pieces.now in
    let some : 0 < length ps = search rules in
    no_break_of_page (map outer_call c.args.outer.now) ps c.index-pieces-0.result c.in-Page.field-0 c.requires some c.index-pieces-0.is c.in-Page.is

pub returns-then-needs_break : goal.returns-then-needs_break
returns-then-needs_break c =
    let ps = c.args.pieces.now in
    let some : 0 < length ps = search rules in
    break_of_call (map outer_call c.args.outer.now) ps c.front_of-given.result.now c.index-pieces-0.result c.in-Call.call c.given_len.result
    c.requires some c.index-pieces-0.is c.in-Call.is c.given_len.ensures.value c.front_of-given.ensures
    ∙ ap (λ v. cond v (char (Some c.in-Call.call) 10 ∷ []) []) (sym c.needs_break.ensures ∙ c.if-needs_break.true)

pub returns-else-needs_break : goal.returns-else-needs_break
returns-else-needs_break c =
    let ps = c.args.pieces.now in
    let some : 0 < length ps = search rules in
    break_of_call (map outer_call c.args.outer.now) ps c.front_of-given.result.now c.index-pieces-0.result c.in-Call.call c.given_len.result
    c.requires some c.index-pieces-0.is c.in-Call.is c.given_len.ensures.value c.front_of-given.ensures
    ∙ ap (λ v. cond v (char (Some c.in-Call.call) 10 ∷ []) []) (sym c.needs_break.ensures ∙ c.if-needs_break.false)

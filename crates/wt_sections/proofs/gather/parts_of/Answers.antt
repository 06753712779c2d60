use Rattle.std.proofs.Common.{◌≡◌, ◌+◌, ◌-◌, ◌≤◌, [], ◌∷◌, ◌++◌, rules, sym, subst, arith}
use Rattle.wt_tree.specs.View.{view, views}
use Rattle.wt_sections.specs.Gathering.{heading_count, parts_view}
use Rattle.wt_sections.specs.Sections.{level_of, opens}
use Rattle.wt_sections.proofs.Gathers.{IsGathered, gathered_first, gathered_step, gathered_all, counted_heading}
use Rattle.wt_sections.proofs.gather.parts_of.Goals as goal

pub loop-node-init : goal.loop-node-init
loop-node-init c =
    let counted : c.heading_count-number.result ≡ heading_count (views c.args.nodes.items) = search rules in
    subst (λ xs. IsGathered (views c.args.nodes.items) c.heading_count-number.result (parts_view xs) (views c.args.nodes.items))
    (sym c.new-parts.ensures.items) (gathered_first c.heading_count-number.result (views c.args.nodes.items) counted)

pub overflow_sub-number : goal.overflow_sub-number
overflow_sub-number c =
    let counted : c.loop-node.number ≡ heading_count (views c.pop.new.self.items) + opens (level_of (view c.in-Some.node)) =
    counted_heading c.loop-node.left.items c.pop.new.self.items c.in-Some.node c.loop-node.number (parts_view c.loop-node.parts.items)
    (views c.args.nodes.items) c.loop-node.invariant c.in-Some.ensures.items in
    omega (arith, counted, c.opens-opens.ensures)

pub loop-node-preserved : goal.loop-node-preserved
loop-node-preserved c =
    let counted : c.loop-node.number ≡ heading_count (views c.pop.new.self.items) + opens (level_of (view c.in-Some.node)) =
    counted_heading c.loop-node.left.items c.pop.new.self.items c.in-Some.node c.loop-node.number (parts_view c.loop-node.parts.items)
    (views c.args.nodes.items) c.loop-node.invariant c.in-Some.ensures.items in
    let sum : (c.loop-node.number - c.opens-opens.result) + opens (level_of (view c.in-Some.node)) ≡ c.loop-node.number =
    omega (arith, counted, c.opens-opens.ensures) in
    gathered_step c.loop-node.left.items c.pop.new.self.items c.in-Some.node c.loop-node.number (c.loop-node.number - c.opens-opens.result)
    (parts_view c.loop-node.parts.items) (parts_view c.put.new.parts.items) (views c.args.nodes.items) c.loop-node.invariant
    c.in-Some.ensures.items c.in_ok-put.ensures sum

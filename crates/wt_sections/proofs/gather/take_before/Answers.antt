use Rattle.std.proofs.Common.{◌≡◌, [], rules, sym, ◌∙◌}
use Rattle.wt_tree.specs.View.{views}
use Rattle.wt_sections.specs.Gathering.{parts_view}
use Rattle.wt_sections.proofs.Gathers.{taking_step, taking_ends, taking_all}
use Rattle.wt_sections.proofs.gather.take_before.Goals as goal

pub returns-then-ends-clause-taken : goal.returns-then-ends-clause-taken
returns-then-ends-clause-taken c =
    let all = taking_ends c.args.limit c.loop-part.nodes.items c.loop-part.parts.items c.pop.new.self.items c.in-Some.part
    (views c.args.nodes.now.items) (parts_view c.args.parts.now.items) c.loop-part.invariant c.in-Some.ensures.items
    (sym c.ends.ensures ∙ c.if-ends.true) in
    all.0

pub loop-part-preserved : goal.loop-part-preserved
loop-part-preserved c =
    taking_step c.args.limit c.loop-part.nodes.items c.push-in-Some.new.self.items c.loop-part.parts.items c.pop.new.self.items c.in-Some.part
    (views c.args.nodes.now.items) (parts_view c.args.parts.now.items) c.loop-part.invariant c.in-Some.ensures.items
    (sym c.ends.ensures ∙ c.if-ends.false) c.in_ok-push-2.ensures.items

pub returns-clause-taken : goal.returns-clause-taken
returns-clause-taken c =
    let none : c.loop-part.parts.items ≡ [] = search rules in
    let all = taking_all c.args.limit c.loop-part.nodes.items c.loop-part.parts.items (views c.args.nodes.now.items)
    (parts_view c.args.parts.now.items) c.loop-part.invariant none in
    all.0

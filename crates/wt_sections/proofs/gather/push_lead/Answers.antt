use Rattle.std.proofs.Common.{◌≡◌, ◌<◌, length, arith}
use Rattle.std.proofs.lemmas.Bool.Decides.{nat_tests}
use Rattle.wt_tree.specs.View.{views}
use Rattle.wt_sections.proofs.Gathers.{no_lead, lead_pushed}
use Rattle.wt_sections.proofs.gather.push_lead.Goals as goal

pub returns-then-is_empty : goal.returns-then-is_empty
returns-then-is_empty c =
    let none : length c.args.nodes.items ≡ 0 = grind (arith, nat_tests, c.is_empty.ensures, c.if-is_empty.true) in
    no_lead (views c.args.out.now.items) c.args.nodes.items none

pub returns : goal.returns
returns c =
    let some : 0 < length c.args.nodes.items = grind (arith, nat_tests, c.is_empty.ensures, c.if-is_empty.false) in
    lead_pushed c.args.out.now.items c.push.new.self.items c.args.nodes.items c.section_of.result c.in_ok-push.ensures.items c.section_of.ensures some

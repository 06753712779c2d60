use Rattle.wtround_cases.proofs.Distinct.{after_push}
use Rattle.wtround_cases.proofs.case.Pages.add.Goals as goal

-- src/case.rt:69:9
pub invariant_of-self : goal.invariant_of-self
invariant_of-self c = record {
  distinct = after_push c.push.result c.args.self.now.entries c.as_slice.result.now c.push.new.self (c.args.name, c.args.page) c.as_str.result.now
      c.as_slice.ensures c.as_str.ensures c.push.ensures.ok c.push.ensures.err (c.has_name.ensures c.if-has_name.false) c.args.self.now.distinct;
}

use Rattle.std.proofs.Common.{◌≡◌, List, length, sym, ◌∙◌, subst}
use Rattle.std.specs.Vec.Iter.{into_iter_items}
use Rattle.wt_runs.specs.declared.child.Child.{Child}
use Rattle.wt_runs.specs.RunTrees.{CutSoFar}
use Rattle.wt_runs.proofs.RunCuts.{none_left}
use Rattle.wt_runs.proofs.run.cut_runs.Goals as goal

pub loop-child-preserved : goal.loop-child-preserved
loop-child-preserved c =
    c.in_ok-run.ensures (into_iter_items c.next.new.self) c.args.children
    (subst (λ (xs : List Child). CutSoFar c.loop-child.runs c.loop-child.run xs c.args.children) c.in-Some.ensures.steps.0 c.loop-child.invariant)

pub returns : goal.returns
returns c =
    let rs = into_iter_items c.loop-child.child-iterator in
    let len : length rs ≡ 0 = sym c.loop-child.child-iterator.rest.ok.0 ∙ c.in-None.ensures.steps.0 in
    c.in_ok-close_run.ensures c.args.children
    (subst (λ (xs : List Child). CutSoFar c.loop-child.runs c.loop-child.run xs c.args.children) (none_left rs len) c.loop-child.invariant)

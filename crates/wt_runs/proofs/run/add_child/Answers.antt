use Rattle.std.proofs.Common.{sym, ◌∙◌, ap}
use Rattle.std.proofs.lemmas.Result.{IfOk-weaker}
use Rattle.wt_runs.specs.RunTrees.{begins_run}
use Rattle.wt_runs.proofs.RunCuts.{closed, appended}
use Rattle.wt_runs.proofs.run.add_child.Goals as goal

pub returns-then-begins_run : goal.returns-then-begins_run
returns-then-begins_run c =
    IfOk-weaker c.single.result _ _
    (λ new e rest all s. closed c.args.runs.now c.push.new.self c.run_of.result c.args.run c.args.child rest all new s c.in_ok-push.ensures.ok
    c.run_of.ensures
    (ap (λ cs. begins_run cs c.args.child) (sym c.as_slice.ensures) ∙ sym c.begins_run.ensures ∙ c.if-begins_run.true) e)
    c.single.ensures

pub returns : goal.returns
returns c = λ rest all s.
    appended c.args.runs.now c.args.run c.args.child rest all c.push-2.new.self s
    (ap (λ cs. begins_run cs c.args.child) (sym c.as_slice.ensures) ∙ sym c.begins_run.ensures ∙ c.if-begins_run.false) c.in_ok-push-2.ensures.ok

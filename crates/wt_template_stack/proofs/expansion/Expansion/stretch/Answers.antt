use Rattle.std.proofs.Common.{subst, sym}
use Rattle.wt_transclusion.specs.Steps.{given_from}
use Rattle.wt_template_stack.specs.Ledgers.{ledger, reading_of}
use Rattle.wt_template_stack.specs.Readers.{IsReading}
use Rattle.wt_template_stack.proofs.ProgressLaws.{begins}
use Rattle.wt_template_stack.proofs.StepLaws.{stretch_holds}
use Rattle.wt_template_stack.proofs.expansion.Expansion.stretch.Goals as goal

pub returns-clause-given : goal.returns-clause-given
returns-clause-given g c = λ pages page t frame met p s xs told st v reading stands.
    let r = reading_of pages c.args.scope.mode frame c.args.scope.left c.args.self.now.names in
    let self = c.args.self.now in
    let before = ledger self.spent met (g.F.Folder.answered c.args.folder.now) in
    c.finish.ensures.given pages page t c.args.scope.mode frame before (given_from r s t p xs) told v
    (begins pages page t r before (given_from r s t p xs) c.new-run.result self.store st
    (stretch_holds r t self.spent c.new-run.result p c.args.end s xs
    (subst (λ x. IsReading c.args.scope.mode t x p s) (sym c.new-run.ensures.reader) reading) c.new-run.ensures.mode
    c.new-run.ensures.levels stands))

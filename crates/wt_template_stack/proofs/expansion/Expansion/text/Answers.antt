use Rattle.std.proofs.Common.{◌≡◌, Err, refl, rules}
use Rattle.wt_expand.specs.Expansion.{text_given}
use Rattle.wt_transclusion.specs.declared.refusal.ExpandRefusal.TheVariants as answer
use Rattle.wt_transclusion.proofs.AskedLaws.{asks_none}
use Rattle.wt_template_stack.specs.Ledgers.{ledger, reading_of}
use Rattle.wt_template_stack.proofs.LedgerLaws.{memory_answered}
use Rattle.wt_template_stack.proofs.ProgressLaws.{begins}
use Rattle.wt_template_stack.proofs.expansion.Expansion.text.Goals as goal

pub returns-clause-given : goal.returns-clause-given
returns-clause-given g c = λ pages page t frame met told st v read.
    let r = reading_of pages c.args.scope.mode frame c.args.scope.left c.args.self.now.names in
    let self = c.args.self.now in
    let before = ledger self.spent met (g.F.Folder.answered c.args.folder.now) in
    c.finish.ensures.given pages page t c.args.scope.mode frame before (text_given r t) told v
    (begins pages page t r before (text_given r t) c.of_text-run.result self.store st (c.of_text-run.ensures r t self.spent refl read))

use Rattle.std.proofs.Common.{rules}
use Rattle.wt_replies.specs.Indexes.{entries_of}
use Rattle.wt_replies.proofs.IndexLaws.{taken}
use Rattle.wt_replies.proofs.index.Index.of.Goals as goal

pub loop-page-preserved : goal.loop-page-preserved
loop-page-preserved c =
    taken (entries_of c.loop-page.index) (entries_of c.add.new.self) c.args.pages.now c.loop-page.page-index _ c.loop-page-test.true
    (search rules) c.loop-page.invariant c.in_ok-add.ensures

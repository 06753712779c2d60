use Rattle.std.proofs.Common.{subst}
use Rattle.std.specs.Prelude.{IfOk}
use Rattle.wt_tree.specs.View.{view}
use Rattle.wt_unmarked_edit.specs.Tried.{ReadAs}
use Rattle.wt_unmarked_edit.proofs.reading_back.read_back.Goals as goal

pub returns-clause-read : goal.returns-clause-read
returns-clause-read g c = λ pages told knows.
    subst (λ bs. IfOk c.read_text.result (ReadAs pages (view c.args.edit.now.tree.now) (view c.args.edit.now.edited.now) bs)) c.in_ok-text.ensures
    (c.read_text.ensures.read pages told knows)

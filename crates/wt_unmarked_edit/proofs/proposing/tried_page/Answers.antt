use Rattle.std.proofs.Common.{refl}
use Rattle.wt_tree.specs.View.{view}
use Rattle.wt_unmarked_edit.proofs.TriedLaws.{page_fails, page_stands}
use Rattle.wt_unmarked_edit.proofs.proposing.tried_page.Goals as goal

pub returns-in-Shows-clause-tried : goal.returns-in-Shows-clause-tried
returns-in-Shows-clause-tried g c = λ pages told knows. (
  refl,
  page_stands pages (view c.args.edit.now.tree.now) (view c.args.edit.now.edited.now) c.args.new c.as_str.result.now c.in_ok-back.back _ c.in-Shows.is
      c.as_str.ensures (c.in_ok-back.ensures.read pages told knows),
)

pub returns-clause-tried : goal.returns-clause-tried
returns-clause-tried g c = λ pages told knows.
    page_fails pages (view c.args.edit.now.tree.now) (view c.args.edit.now.edited.now) c.args.new c.as_str.result.now c.in_ok-back.back _ _ c.in-Fails.is
    c.as_str.ensures (c.in_ok-back.ensures.read pages told knows)

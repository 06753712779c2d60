use Rattle.wt_span.specs.Items.{items, items_of}
use Rattle.wt_inline.specs.Grown.{growth}
use Rattle.wt_rows.specs.Unread.{left}
use Rattle.wt_build.proofs.Carrying.{carries_breaks}
use Rattle.wt_build.proofs.Kept.{left_few}
use Rattle.wt_build.proofs.body.with_next.Goals as goal

pub returns-in_ok-grown-in-Some-clause-few_after : goal.returns-in_ok-grown-in-Some-clause-few_after
returns-in_ok-grown-in-Some-clause-few_after c =
    left_few (items_of c.in-Some.breaks) (items (left c.in-Some.after)) (items (left c.args.rest)) c.in-Some.ensures.joined

pub returns-in_ok-grown-in-Some-clause-grown : goal.returns-in_ok-grown-in-Some-clause-grown
returns-in_ok-grown-in-Some-clause-grown c =
    carries_breaks (growth c.args.children) (growth c.in_ok-grown-in-Some.grown) (items (left c.args.rest)) (items (left c.in-Some.after)) c.in-Some.breaks
    c.in-Some.ensures.joined c.in-Some.ensures.breaks c.in_ok-grown-in-Some.ensures

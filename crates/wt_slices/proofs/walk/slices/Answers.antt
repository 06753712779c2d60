use Rattle.std.proofs.Common.{ap, ◌∙◌}
use Rattle.wt_tree.specs.View.{view}
use Rattle.wt_checks.specs.Places.{page_of}
use Rattle.wt_checks.specs.View.{indexed}
use Rattle.wt_splice.specs.Views.{changes_view}
use Rattle.wt_slices.specs.Views.{child_views}
use Rattle.wt_slices.proofs.BodyWalk.{page_sliced}
use Rattle.wt_slices.proofs.walk.slices.Goals as goal

pub returns : goal.returns
returns c = λ same tells.
    page_sliced same (indexed c.args.index.now) (page_of (view c.args.page.now)) c.args.page.now (view c.args.edited.now) (child_views c.as_slice.result.now)
    (changes_view c.new-found.result.items) (changes_view c.push_slices.new.found.items) c.requires (ap changes_view c.new-found.ensures.items)
    (ap child_views c.as_slice.ensures.value ∙ c.in_ok-old.ensures) (c.in_ok-push_slices.ensures same tells)

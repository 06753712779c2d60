use Rattle.std.proofs.Common.{[], ◌∙◌}
use Rattle.wt_tree.specs.View.{view, views}
use Rattle.wt_original.specs.PageViews.{page_view}
use Rattle.wt_content.specs.Content.{all_faults, bad_content}
use Rattle.wt_content.proofs.Faulting.{content_is}
use Rattle.wt_content.proofs.content.bad_content.Goals as goal

pub returns : goal.returns
unfolding bad_content
returns c = λ same tells.
    c.first.ensures (all_faults (page_view same c.in_ok-page.page) c.outermost.result (views c.as_slice.result.now))
    (c.in_ok-visit_all.ensures same tells [] c.none-found.ensures)
    ∙ content_is same c.in_ok-page.page (view c.args.old.now) c.args.new.now c.outermost.result c.as_slice.result.now c.in_ok-page.ensures
    c.outermost.ensures c.as_slice.ensures

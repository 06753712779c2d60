use Rattle.std.proofs.Common.{sym}
use Rattle.wt_span.specs.Items.{items}
use Rattle.wt_inline.specs.Grown.{growth}
use Rattle.wt_page.specs.Rows.{all_items}
use Rattle.wt_rows.specs.Building.{made_rows}
use Rattle.wt_rows.specs.Unread.{left}
use Rattle.wt_build.proofs.Carrying.{carries_portion}
use Rattle.wt_build.proofs.Kept.{left_few, page_ready}
use Rattle.wt_build.proofs.body.with_portion.Goals as goal

pub with_blocks-requires : goal.with_blocks-requires
with_blocks-requires c =
    page_ready c.in_ok-page.page c.as_slice-pieces.result.now c.as_slice-rows.result.now (items (left c.in_ok-page.after)) (items (left c.args.rest))
    c.in_ok-page.ensures.made c.as_slice-pieces.ensures c.as_slice-rows.ensures c.in_ok-page.ensures.kept c.requires.few

pub returns-clause-few_after : goal.returns-clause-few_after
returns-clause-few_after c =
    left_few (all_items (made_rows c.in_ok-page.page)) (items (left c.in_ok-page.after)) (items (left c.args.rest)) (sym c.in_ok-page.ensures.kept)

pub returns-clause-grown : goal.returns-clause-grown
returns-clause-grown c =
    let page = c.in_ok-page.page in
    carries_portion (growth c.args.children) (growth c.in_ok-grown.grown) (items (left c.args.rest)) (items (left c.in_ok-page.after))
    c.as_slice-pieces.result.now page.pieces c.as_slice-rows.result.now page.rows c.as_slice-pieces.ensures c.as_slice-rows.ensures c.in_ok-grown.ensures
    c.in_ok-page.ensures.first

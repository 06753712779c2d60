use Rattle.std.proofs.Common.{ap, ◌∙◌, vec_items}
use Rattle.wt_difference.specs.Views.{child_views}
use Rattle.wt_difference.proofs.HeldChildren.{held_behind, held_opened}
use Rattle.wt_difference.proofs.insides.held.Goals as goal
use Rattle.wt_difference.proofs.insides.held.Goals.{then-has_inside+in_ok-push_all, else-has_inside+in_ok-push_all_opened}

pub returns : goal.returns
returns c =
    elim c.if-has_inside.branch [
      | then-has_inside+in_ok-push_all w ↦ ap (λ v. child_views (vec_items v)) w.out-is
          ∙ held_behind c.args.node.now c.has_inside.result w.push_all.new.out.items c.new-out.result.items c.as_slice-nodes.result.now
          w.inside_len.result c.has_inside.ensures w.if-has_inside.true c.as_slice-nodes.ensures c.new-out.ensures.items
          w.inside_len.ensures.behind w.in_ok-push_all.ensures
      | else-has_inside+in_ok-push_all_opened w ↦ ap (λ v. child_views (vec_items v)) w.out-is
          ∙ held_opened c.args.node.now c.has_inside.result w.push_all_opened.new.out.items c.new-out.result.items
          c.as_slice-nodes.result.now c.has_inside.ensures w.if-has_inside.false c.as_slice-nodes.ensures c.new-out.ensures.items
          w.in_ok-push_all_opened.ensures
    ]

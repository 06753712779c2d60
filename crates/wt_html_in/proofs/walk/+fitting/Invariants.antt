use Rattle.std.proofs.Common.{drop}
use Rattle.std.specs.Vec.Iter.{into_iter_items}
use Rattle.wt_html_elements.specs.Built.{views as markups}
use Rattle.wt_html_in.proofs.Walking.{Going}
use Rattle.wt_html_in.proofs.walk.+fitting.Given as goal

abbrev pub invariant-nodes-loop-content : goal.invariant-nodes-loop-content
invariant-nodes-loop-content l =
    Going l.initial.walk l.outer l.inside (markups (into_iter_items l.initial.content-iterator)) l.children.items l.walk l.behind
    (drop l.at l.roles.items) (markups (into_iter_items l.content-iterator))

use Rattle.std.proofs.Common.{◌≡◌, ◌++◌, take}
use Rattle.wt_tree.specs.Stream.{signs_of_all}
use Rattle.wt_tree.specs.View.{views}
use Rattle.wt_checks.specs.Tokens.{written_signs, all_bare_signs}
use Rattle.wt_checks.proofs.written.+inner.Given as goal

abbrev pub invariant-push_all_inner-loop-node : goal.invariant-push_all_inner-loop-node
invariant-push_all_inner-loop-node l = written_signs l.out.items ≡ written_signs l.initial.out.items
    ++ all_bare_signs (signs_of_all (views (take l.node-index l.nodes)))

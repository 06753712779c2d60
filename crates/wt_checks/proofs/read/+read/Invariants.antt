use Rattle.std.proofs.Common.{◌≡◌, ◌++◌, take}
use Rattle.wt_tree.specs.View.{views}
use Rattle.wt_checks.specs.Elements.{all_read, signs_in}
use Rattle.wt_checks.specs.Tokens.{read_signs}
use Rattle.wt_checks.proofs.read.+read.Given as goal

abbrev pub invariant-push_all-loop-node : goal.invariant-push_all-loop-node
invariant-push_all-loop-node l = read_signs l.out.items ≡ read_signs l.initial.out.items ++ signs_in (all_read (views (take l.node-index l.nodes)))

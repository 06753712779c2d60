use Rattle.std.proofs.Common.{◌≡◌, ◌++◌, take}
use Rattle.wt_tree.specs.View.{views}
use Rattle.wt_checks.specs.Tokens.{written_signs, all_top_signs, all_top_open}
use Rattle.wt_checks.proofs.written.+top.Given as goal

abbrev pub invariant-push_all_top-loop-node : goal.invariant-push_all_top-loop-node
invariant-push_all_top-loop-node l = record {
  signs : written_signs l.out.items ≡ written_signs l.initial.out.items ++ all_top_signs l.in_span (views (take l.node-index l.nodes));
  span : l.within ≡ all_top_open l.in_span (views (take l.node-index l.nodes));
}

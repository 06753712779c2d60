use Rattle.std.proofs.Common.{ap, drop, length, ◌∙◌}
use Rattle.wt_span.specs.Items.{items}
use Rattle.wt_rows.proofs.LineCuts.{blanks_edge}
use Rattle.wt_build.proofs.Items.{prefix_cut}
use Rattle.wt_build.proofs.item.cut_opening.Goals as goal

pub cut_with-requires-clause-within : goal.cut_with-requires-clause-within
cut_with-requires-clause-within c =
    (prefix_cut (items c.args.line.now) (length c.as_str.result.now) (ap length (c.as_str.ensures ∙ c.in_ok-prefix.ensures))).0

pub cut_with-requires-clause-edge : goal.cut_with-requires-clause-edge
cut_with-requires-clause-edge c =
    (prefix_cut (items c.args.line.now) (length c.as_str.result.now) (ap length (c.as_str.ensures ∙ c.in_ok-prefix.ensures))).1

pub cut_with-requires-clause-edge_behind : goal.cut_with-requires-clause-edge_behind
cut_with-requires-clause-edge_behind c = blanks_edge (drop (length c.as_str.result.now) (items c.args.line.now))

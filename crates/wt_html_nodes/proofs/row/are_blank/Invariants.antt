use Rattle.std.proofs.Common.{◌≡◌, drop}
use Rattle.wt_html_elements.specs.Built.{views}
use Rattle.wt_schema.specs.Fit.{are_blank}
use Rattle.wt_html_nodes.proofs.row.are_blank.Given as goal

abbrev pub invariant-loop-content : goal.invariant-loop-content
invariant-loop-content l = are_blank (views (drop l.content-index l.contents)) ≡ are_blank (views l.contents)

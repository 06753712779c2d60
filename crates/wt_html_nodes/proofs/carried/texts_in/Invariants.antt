use Rattle.std.proofs.Common.{drop}
use Rattle.wt_html_elements.specs.Built.{views}
use Rattle.wt_html_nodes.proofs.Joining.{Joined}
use Rattle.wt_html_nodes.proofs.carried.texts_in.Given as goal

abbrev pub invariant-loop-content : goal.invariant-loop-content
invariant-loop-content l = Joined (views l.contents) l.joined (views (drop l.content-index l.contents))

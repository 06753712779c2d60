use Rattle.std.proofs.Common.{◌≡◌, ◌+◌, drop}
use Rattle.wt_html_elements.specs.Built.{views}
use Rattle.wt_schema.specs.Fit.{elements_of_all}
use Rattle.wt_html_in.proofs.frame.+counting.Given as goal

abbrev pub invariant-elements_of_all-loop-content : goal.invariant-elements_of_all-loop-content
invariant-elements_of_all-loop-content l = l.count + elements_of_all (views (drop l.content-index l.contents)) ≡ elements_of_all (views l.contents)

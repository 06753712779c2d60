use Rattle.std.proofs.Common.{option_map}
use Rattle.wt_html_in.proofs.RolesFound.{Found}
use Rattle.wt_html_in.proofs.roles.roles.Given as goal

abbrev pub invariant-loop-content : goal.invariant-loop-content
invariant-loop-content l =
    Found l.contents l.found.items (option_map (λ v. v.now) l.group) l.at l.content-index

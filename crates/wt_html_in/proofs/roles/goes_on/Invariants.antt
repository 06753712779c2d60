use Rattle.std.proofs.Common.{◌≡◌, drop, option_map}
use Rattle.wt_html_elements.specs.Built.{views}
use Rattle.wt_schema.specs.Groups.{goes_on}
use Rattle.wt_html_in.proofs.roles.goes_on.Given as goal

abbrev pub invariant-loop-content : goal.invariant-loop-content
invariant-loop-content l =
    goes_on (option_map (λ v. v.now) l.group) (views (drop l.content-index l.contents)) ≡ goes_on (option_map (λ v. v.now) l.group) (views l.contents)

use Rattle.std.proofs.Common.{map, sym, ◌∙◌}
use Rattle.wt_original.specs.Gathered.{kept_view}
use Rattle.wt_original.proofs.Numbers.{below_all, at_its_number}
use Rattle.wt_original.proofs.page.find_by_place.Goals as goal

pub returns-then-id-first : goal.returns-then-id-first
returns-then-id-first c = sym (below_all c.args.first c.args.id (map kept_view c.args.kept.now) c.requires c.if-id-first.true)

pub returns : goal.returns
returns c = c.kept_at.ensures ∙ at_its_number c.args.first c.args.id (map kept_view c.args.kept.now) c.requires c.if-id-first.false

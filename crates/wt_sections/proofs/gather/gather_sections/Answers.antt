use Rattle.std.proofs.Common.{ap, arith}
use Rattle.wt_tree.proofs.Views.{view_out}
use Rattle.wt_sections.specs.Gathering.{headings_in}
use Rattle.wt_sections.proofs.gather.gather_sections.Goals as goal

pub gather-requires : goal.gather-requires
gather-requires c = omega (arith, ap headings_in (view_out c.args.body), c.requires)

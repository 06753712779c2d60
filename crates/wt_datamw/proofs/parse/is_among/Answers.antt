use Rattle.std.proofs.Common.{◌∙◌}
use Rattle.wt_datamw.proofs.Shapes.{among_names}
use Rattle.wt_datamw.proofs.parse.is_among.Goals as goal

pub returns : goal.returns
returns c = c.contains.ensures.value ∙ among_names c.args.names.now c.args.key.now

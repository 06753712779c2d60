use Rattle.wt_inline.proofs.Insides.{fits_by}
use Rattle.wt_inline.proofs.inside.front_entity.Goals as goal

pub returns-clause-fits : goal.returns-clause-fits
returns-clause-fits c = fits_by c.args.text.now c.as_bytes.result.now c.entity_at.result c.as_bytes.ensures.value c.entity_at.ensures c.utf8.text

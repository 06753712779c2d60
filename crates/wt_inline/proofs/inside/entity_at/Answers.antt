use Rattle.std.proofs.Common.{sym}
use Rattle.wt_inline.proofs.Insides.{no_entity_sign}
use Rattle.wt_inline.proofs.inside.entity_at.Goals as goal

pub returns-else-starts_with : goal.returns-else-starts_with
returns-else-starts_with c = sym (no_entity_sign c.args.bytes.now (sym c.if-starts_with.ensures.value))

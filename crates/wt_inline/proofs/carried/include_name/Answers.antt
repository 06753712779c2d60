use Rattle.std.proofs.Common.{sym}
use Rattle.wt_span.specs.Bytes.{lower}
use Rattle.wt_inline.proofs.Carrying.{noinclude_name, onlyinclude_name}
use Rattle.wt_inline.proofs.carried.include_name.Goals as goal

pub returns-then-is_same_name : goal.returns-then-is_same_name
returns-then-is_same_name c = noinclude_name (lower c.args.name.now) (sym c.if-is_same_name.ensures)

pub returns-else-is_same_name : goal.returns-else-is_same_name
returns-else-is_same_name c = onlyinclude_name (lower c.args.name.now) (sym c.if-is_same_name.ensures)

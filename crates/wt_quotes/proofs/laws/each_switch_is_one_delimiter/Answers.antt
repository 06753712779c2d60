use Rattle.wt_quotes.proofs.Bytes.{each_switch}
use Rattle.wt_quotes.proofs.laws.each_switch_is_one_delimiter.Goals as goal

pub returns : goal.returns
returns c = each_switch c.args.chunks.now

use Rattle.wt_quotes.proofs.Bytes.{each_byte}
use Rattle.wt_quotes.proofs.laws.each_byte_is_styled.Goals as goal

pub returns : goal.returns
returns c = each_byte c.args.chunks.now

use Rattle.wt_braces.proofs.TextLaws.{text_width}
use Rattle.wt_braces.proofs.laws.widths_stay.Goals as goal

pub returns : goal.returns
returns c = text_width

use Rattle.wt_html_reasons.proofs.Texts.{well_utf8, front_utf8}
use Rattle.wt_html_reasons.proofs.laws.in_utf8.Goals as goal

pub returns : goal.returns
returns c = record { well = well_utf8; front = front_utf8 }

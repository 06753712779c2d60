use Rattle.wt_call_laws.proofs.OwnHtml.{own_html}
use Rattle.wt_call_laws.proofs.unchanged.own_html_is_unchanged.Goals as goal

pub returns : goal.returns
returns c = own_html

use Rattle.wt_page_laws.proofs.InnerStyle.{inner_began_later}
use Rattle.wt_page_laws.proofs.styles.inner_style_began_later.Goals as goal

pub returns : goal.returns
returns c = inner_began_later c.args.chunks.now

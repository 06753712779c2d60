use Rattle.std.proofs.Common.{◌∙◌}
use Rattle.wt_html_elements.proofs.LaterNames.{any_text}
use Rattle.wt_html_elements.proofs.later.Later.contains.Goals as goal

pub returns : goal.returns
returns c = c.contains.ensures ∙ any_text (λ k. k.items) c.args.name.now c.args.self.now.names.keys ∙ c.args.self.now.known c.args.name.now

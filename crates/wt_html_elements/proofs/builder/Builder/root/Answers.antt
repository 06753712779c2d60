use Rattle.wt_html_elements.proofs.Contents.{popped_root}
use Rattle.wt_html_elements.proofs.builder.Builder.root.Goals as goal

pub returns : goal.returns
returns c = popped_root c.args.self.now.root.items c.pop.new.self.items c.in-Some.root c.in-Some.ensures.items

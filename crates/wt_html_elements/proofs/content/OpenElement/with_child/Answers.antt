use Rattle.wt_html_elements.proofs.Contents.{child_push}
use Rattle.wt_html_elements.proofs.content.OpenElement.with_child.Goals as goal

pub returns : goal.returns
returns c = child_push _ _ c.in_ok-contents.contents.items c.push.new.self.items c.args.child _ _ _ c.in_ok-push.ensures.items
    c.in_ok-contents.ensures c.new.ensures.items

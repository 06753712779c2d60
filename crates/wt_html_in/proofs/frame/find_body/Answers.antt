use Rattle.std.proofs.Common.{◌≡◌, rules}
use Rattle.wt_html_grammar.specs.Markup.{node}
use Rattle.wt_html_elements.specs.declared.content.Content.{the_lemmas, fold-roll-Content}
use Rattle.wt_html_elements.specs.Built.{view_content, pairs, views}
use Rattle.wt_html_in.proofs.Frames.{few_in_root}
use Rattle.wt_html_in.proofs.frame.find_body.Goals as goal

pub body_in-requires : goal.body_in-requires
body_in-requires c =
    let e : view_content c.args.root ≡ node c.in-Element.name.items (pairs c.in-Element.attributes.items)
    (views c.in-Element.contents.items) = search (rules, the_lemmas, fold-roll-Content) in
    few_in_root (view_content c.args.root) c.in-Element.name.items (pairs c.in-Element.attributes.items)
    (views c.in-Element.contents.items) (views c.in_ok-elements-in-Element.elements.items)
    e c.in_ok-elements-in-Element.ensures c.requires

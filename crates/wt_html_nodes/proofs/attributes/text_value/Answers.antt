use Rattle.std.proofs.Common.{sym, ap, ◌∙◌, option_map}
use Rattle.wt_html_elements.specs.Built.{pairs}
use Rattle.wt_html_nodes.proofs.Values.{value_utf8}
use Rattle.wt_html_nodes.proofs.attributes.text_value.Goals as goal

pub text_of-requires : goal.text_of-requires
text_of-requires c =
    value_utf8 c.args.name.now (pairs c.args.attributes.now) c.in-Some.bytes.now c.requires (sym c.value_of.ensures ∙ ap (option_map (λ v. v.now)) c.in-Some.is)

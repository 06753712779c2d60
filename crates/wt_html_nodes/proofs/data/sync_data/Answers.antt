use Rattle.std.proofs.Common.{ap, ◌∙◌}
use Rattle.wt_html_elements.specs.Built.{pairs}
use Rattle.wt_schema.specs.Attributes.{value_of}
use Rattle.wt_html_nodes.proofs.Values.{sync_at}
use Rattle.wt_html_nodes.proofs.data.sync_data.Goals as goal

pub returns : goal.returns
returns c =
    sync_at c.args.kind c.sync_fits.result _ _ (c.text_value.ensures ∙ ap (λ n. value_of n (pairs c.args.attributes.now)) c.as_slice.ensures)
    c.sync_fits.ensures

use Rattle.wt_schema.specs.Html.{about_attribute}
use Rattle.wt_html_out.proofs.JoinedValue.{three_pushed}
use Rattle.wt_html_out.proofs.group_attributes.push_about.Goals as goal

pub returns : goal.returns
unfolding about_attribute
returns c = three_pushed _ _ _ _ _ _ _ c.in_ok-push.ensures c.in_ok-push_count.ensures c.in_ok-push-2.ensures

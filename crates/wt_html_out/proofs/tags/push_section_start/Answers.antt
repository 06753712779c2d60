use Rattle.wt_schema.specs.Html.{section_start}
use Rattle.wt_html_out.proofs.JoinedValue.{three_pushed}
use Rattle.wt_html_out.proofs.tags.push_section_start.Goals as goal

pub returns : goal.returns
unfolding section_start
returns c = three_pushed _ _ _ _ _ _ _ c.in_ok-push.ensures c.in_ok-push_number.ensures c.in_ok-push-2.ensures

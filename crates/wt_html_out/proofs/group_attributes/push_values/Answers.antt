use Rattle.wt_html_out.proofs.JoinedValue.{values_pushed}
use Rattle.wt_html_out.proofs.group_attributes.push_values.Goals as goal

pub returns : goal.returns
returns c =
    values_pushed c.args.out.now.items c.args.first.now c.args.second.now _ _ _
    c.in_ok-push_escaped.ensures c.in_ok-push.ensures c.in_ok-push_escaped-2.ensures

use Rattle.std.proofs.Common.{arith}
use Rattle.wt_html_elements.specs.Built.{view_content}
use Rattle.wt_html_in.proofs.Frames.{sound_by}
use Rattle.wt_html_in.proofs.frame.page.Goals as goal

pub edited-requires-clause-few : goal.edited-requires-clause-few
edited-requires-clause-few c =
    let s = sound_by (view_content c.args.root) c.in_ok-find_body.field-0 c.in-Some.field-0 c.in_ok-find_body.ensures c.in-Some.is c.requires.utf8 in
    omega (arith, s.few, c.requires.few)

pub edited-requires-clause-utf8_values : goal.edited-requires-clause-utf8_values
edited-requires-clause-utf8_values c =
    (sound_by (view_content c.args.root) c.in_ok-find_body.field-0 c.in-Some.field-0 c.in_ok-find_body.ensures c.in-Some.is c.requires.utf8).utf8_values

pub edited-requires-clause-utf8 : goal.edited-requires-clause-utf8
edited-requires-clause-utf8 c = (sound_by (view_content c.args.root) c.in_ok-find_body.field-0 c.in-Some.field-0
    c.in_ok-find_body.ensures c.in-Some.is c.requires.utf8).utf8

use Rattle.std.proofs.Common.{refl}
use Rattle.wt_html_elements.specs.Built.{pairs, views}
use Rattle.wt_html_in.proofs.Walking.{begun_by}
use Rattle.wt_html_in.proofs.walk.begin.Goals as goal

pub returns-clause-headed : goal.returns-clause-headed
returns-clause-headed c =
    begun_by c.args.walk.now c.args.position c.args.standing c.args.tag.name.items c.args.tag.name.items (pairs c.args.tag.attributes.items)
    (pairs c.args.tag.attributes.items) (views c.args.contents.now) c.enter-number.result c.headed_by.result
    refl refl c.enter-number.ensures.number c.headed_by.ensures

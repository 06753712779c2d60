use Rattle.std.proofs.Common.{◌≡◌, subst}
use Rattle.wt_tree.specs.Opened.{opened}
use Rattle.wt_tree.specs.View.{views}
use Rattle.wt_html_in.proofs.Opened.{whole}
use Rattle.wt_html_in.proofs.sections.without_sections.Goals as goal

pub returns-then-are_open : goal.returns-then-are_open
returns-then-are_open c =
    whole c.args.body (subst (λ ns. opened (views ns) ≡ views ns) c.as_slice.ensures (c.are_open.ensures c.if-are_open.true))

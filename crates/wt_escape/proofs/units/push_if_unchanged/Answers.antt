use Rattle.std.proofs.Common.{ap}
use Rattle.std.specs.Prelude.{option_map}
use Rattle.wt_tree.specs.View.{view}
use Rattle.wt_original.specs.Gathered.{kept_view}
use Rattle.wt_original.specs.PageViews.{page_view}
use Rattle.wt_guards.specs.Views.{all_signs}
use Rattle.wt_escape.proofs.Signing.{leaves_none}
use Rattle.wt_escape.proofs.units.push_if_unchanged.Goals as goal

pub returns-in-None : goal.returns-in-None
returns-in-None c = λ same tells.
    leaves_none (page_view same c.args.page.now) (option_map kept_view c.args.kept) (view c.args.node.now) (all_signs c.args.out.now.items)
    (ap (option_map kept_view) c.in-None.is)

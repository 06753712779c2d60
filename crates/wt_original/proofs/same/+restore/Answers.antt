use Rattle.std.proofs.Common.{arith}
use Rattle.std.proofs.lemmas.Grind.{common_steps}
use Rattle.wt_original.specs.PageViews.{kept_in}
use Rattle.wt_original.proofs.Sames.{restored_views}
use Rattle.wt_original.proofs.same.+restore.Goals as goal

pub show_all_restored-returns : goal.show_all_restored-returns
show_all_restored-returns t c = rw (restored_views (kept_in c.args.page.now) c.args.nodes.now) (grind (arith, common_steps))

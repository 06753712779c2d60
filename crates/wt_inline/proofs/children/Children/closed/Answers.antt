use Rattle.std.proofs.Common.{sym, subst}
use Rattle.std.specs.Prelude.{Option}
use Rattle.std.specs.Option.{option_map}
use Rattle.wt_inline.specs.View.{item_tree, item_trees}
use Rattle.wt_inline.specs.Grown.{Ends, open_run}
use Rattle.wt_inline.specs.declared.run.Run.{Run}
use Rattle.wt_inline.proofs.Growing.{one_run, ends_some}
use Rattle.wt_inline.proofs.Trees.{pushed}
use Rattle.wt_inline.proofs.children.Children.closed.Goals as goal

pub returns-in_ok-push_tight-in-Some : goal.returns-in_ok-push_tight-in-Some
returns-in_ok-push_tight-in-Some c =
    let run = c.in-Some.run' in
    let ts = item_trees c.args.self.trees in
    let us = item_trees c.push_tight.new.self in
    let us_are = pushed c.args.self.trees c.push_tight.new.self c.in_ok-leaf-in-Some.leaf c.in_ok-push_tight-in-Some.ensures.ok in
    subst (λ (o : Option Run). Ends (record { trees = ts; run = option_map open_run o }) us) (sym c.in-Some.is)
    (ends_some ts us (item_tree c.in_ok-leaf-in-Some.leaf) (open_run run) (one_run (open_run run) run.some run.one_origin)
    c.in_ok-leaf-in-Some.ensures us_are)

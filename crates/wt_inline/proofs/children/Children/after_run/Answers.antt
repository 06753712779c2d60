use Rattle.std.proofs.Common.{sym}
use Rattle.std.proofs.lemmas.Result.{IfOk-weaker}
use Rattle.wt_span.specs.Items.{items_of, call_of_origin}
use Rattle.wt_inline.specs.View.{item_tree, item_trees}
use Rattle.wt_inline.specs.Grown.{growth, open_run}
use Rattle.wt_inline.proofs.Growing.{one_run, grows_past, of_chars}
use Rattle.wt_inline.proofs.Trees.{pushed}
use Rattle.wt_inline.proofs.children.Children.after_run.Goals as goal

pub returns-in_ok-push_tight : goal.returns-in_ok-push_tight
returns-in_ok-push_tight c =
    let run = c.args.run in
    let p = c.args.piece in
    let us_are = pushed c.args.trees c.push_tight.new.self c.in_ok-leaf.leaf c.in_ok-push_tight.ensures.ok in
    IfOk-weaker c.begun.result _ _
    (λ g e. grows_past (item_trees c.args.trees) (item_trees c.push_tight.new.self) (item_tree c.in_ok-leaf.leaf)
    (open_run run) c.args.loose (call_of_origin p.origin) (items_of p) (growth g)
    (one_run (open_run run) run.some run.one_origin) (sym c.if-takes.ensures)
    (of_chars p.form (call_of_origin p.origin) p.text.of.now c.requires.chars) c.requires.some c.in_ok-leaf.ensures us_are e)
    c.begun.ensures

use Rattle.std.proofs.Common.{arith, sym, ap, ◌∙◌, ◌++◌}
use Rattle.std.specs.Prelude.{option_map}
use Rattle.wt_tree.specs.View.{view}
use Rattle.wt_checks.specs.View.{indexed, seen}
use Rattle.wt_slices.specs.Changes.{insides}
use Rattle.wt_splice.specs.Views.{changes_view}
use Rattle.wt_slices.proofs.Pushing.{next_pushed, all_pushed}
use Rattle.wt_slices.proofs.Splicing.{content_pushed, held_pushed, insides_views}
use Rattle.wt_checks.specs.Places.{is_content}
use Rattle.wt_slices.proofs.change.+walking.Goals as goal

pub push_insides-returns-then-is_content : goal.push_insides-returns-then-is_content
push_insides-returns-then-is_content t c = λ same tells.
    content_pushed same (indexed c.args.index.now) c.args.node.now (changes_view c.args.found.now.items) (changes_view c.push_inside_of.new.found.items)
    c.is_content.result (option_map seen c.original.result) (c.is_content.ensures ∙ ap is_content c.mark.ensures) c.if-is_content.true c.original.ensures
    (c.in_ok-push_inside_of.ensures same tells)

pub push_insides-returns : goal.push_insides-returns
push_insides-returns t c = λ same tells.
    held_pushed same (indexed c.args.index.now) c.args.node.now c.as_slice.result.now (changes_view c.args.found.now.items)
    (changes_view c.push_all_insides.new.found.items) c.is_content.result (c.is_content.ensures ∙ ap is_content c.mark.ensures) c.if-is_content.false c.as_slice.ensures
    (c.in_ok-push_all_insides.ensures same tells)

pub push_all_insides-loop-node-preserved : goal.push_all_insides-loop-node-preserved
push_all_insides-loop-node-preserved t c = λ same tells.
    next_pushed (λ n. insides same (indexed c.args.index.now) (view n)) (changes_view c.args.found.now.items) (changes_view c.loop-node.found.items)
    (changes_view c.push_insides.new.found.items) c.args.nodes.now c.loop-node.node-index c.node-item.result
    (omega arith) c.node-item.is (c.loop-node.invariant same tells) (c.in_ok-push_insides.ensures same tells)

pub push_all_insides-returns : goal.push_all_insides-returns
push_all_insides-returns t c = λ same tells.
    all_pushed (λ n. insides same (indexed c.args.index.now) (view n)) (changes_view c.args.found.now.items) (changes_view c.loop-node.found.items)
    c.args.nodes.now c.loop-node.node-index (omega arith) (c.loop-node.invariant same tells)
    ∙ ap (λ cs. changes_view c.args.found.now.items ++ cs) (sym (insides_views same (indexed c.args.index.now) c.args.nodes.now))

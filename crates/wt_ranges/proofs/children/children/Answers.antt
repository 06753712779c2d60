use Rattle.std.proofs.Common.{◌+◌, ap, arith}
use Rattle.wt_inline.specs.View.{item_trees}
use Rattle.wt_runs.specs.Children.{children_at}
use Rattle.wt_annotated.specs.Pieces.{outer_calls}
use Rattle.wt_ranges.proofs.ChildWalks.{child_is, read_first, read_room, read_step}
use Rattle.wt_ranges.proofs.children.children.Goals as goal

pub loop-tree-init : goal.loop-tree-init
loop-tree-init c = read_first (outer_calls c.args.calls.now) c.in_ok-children.children c.in_ok-followed.followed.items c.args.before c.args.after c.args.byte
    c.args.trees c.in_ok-children.ensures c.in_ok-followed.ensures c.requires

pub read_child-found-requires : goal.read_child-found-requires
read_child-found-requires c =
    let calls = outer_calls c.args.calls.now in
    omega (
      arith,
      read_room calls c.loop-tree.children c.loop-tree.last c.loop-tree.at c.loop-tree.followed.items c.pop.new.self.items c.in-Some.field-0
          (children_at calls c.args.before c.args.byte c.args.after (item_trees c.args.trees)) c.loop-tree.invariant c.in-Some.ensures.items,
    )

pub overflow_add-at : goal.overflow_add-at
overflow_add-at c =
    let calls = outer_calls c.args.calls.now in
    omega (
      arith,
      c.read_child-found.ensures.width,
      read_room calls c.loop-tree.children c.loop-tree.last c.loop-tree.at c.loop-tree.followed.items
          c.pop.new.self.items c.in-Some.field-0 (children_at calls c.args.before c.args.byte c.args.after (item_trees c.args.trees)) c.loop-tree.invariant
          c.in-Some.ensures.items,
    )

pub loop-tree-preserved : goal.loop-tree-preserved
loop-tree-preserved c =
    let calls = outer_calls c.args.calls.now in
    let found = c.read_child-found.result in
    let one = child_is calls c.in-Some.field-0.tree c.loop-tree.last c.in-Some.field-0.after c.loop-tree.at found.free found.clean c.read_child-found.ensures.free
    c.read_child-found.ensures.clean in
    read_step calls c.loop-tree.children c.push.new.self
    (record {
      tree = c.in-Some.field-0.tree;
      before = c.loop-tree.last;
      after = c.in-Some.field-0.after;
      byte = c.loop-tree.at;
      free =
          found.free;
      clean = found.clean;
    }) c.loop-tree.last found.last c.loop-tree.at (c.loop-tree.at + found.width)
    c.loop-tree.followed.items c.pop.new.self.items c.in-Some.field-0 (children_at calls c.args.before c.args.byte c.args.after (item_trees c.args.trees))
    c.loop-tree.invariant c.in-Some.ensures.items c.in_ok-push.ensures.ok one c.read_child-found.ensures.last
    (ap (λ n. c.loop-tree.at + n) c.read_child-found.ensures.width)

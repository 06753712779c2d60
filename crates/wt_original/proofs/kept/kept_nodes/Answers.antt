use Rattle.std.proofs.Common.{arith, map, ap, ◌∙◌}
use Rattle.std.proofs.lemmas.Grind.{common_steps}
use Rattle.wt_tree.specs.View.{view}
use Rattle.wt_original.specs.Kept.{kept_of}
use Rattle.wt_original.proofs.Ends.{ends_inside, block_opening, block_closing}
use Rattle.wt_original.proofs.kept.kept_nodes.Goals as goal

pub returns : goal.returns
returns c =
    let b = view c.args.block.now in
    let o = block_opening c.args.block.now in
    let k = block_closing c.args.block.now in
    c.in_ok-kept.ensures b (record {
      source = grind (arith, common_steps, c.requires.bytes);
      seen_items = grind (arith, common_steps, c.requires.items);
      ends = grind (
        arith,
        common_steps,
        ends_inside c.args.gathered.now.seen.items b c.in_ok-closing.closing c.requires.items
            (grind (arith, common_steps, k)),
      );
      opening = grind (arith, common_steps, o);
      closing = grind (arith, common_steps, k);
    })
    ∙ ap (λ fs. map (kept_of b) fs) (grind (arith, common_steps, c.requires.nodes))

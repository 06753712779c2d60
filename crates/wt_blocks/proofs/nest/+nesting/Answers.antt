use Rattle.std.proofs.Common.{◌≡◌, ◌+◌, ◌-◌, ◌<◌, ◌++◌, ◌∷◌, [], true, false, length, drop, ap, sym, ◌∙◌, arith}
use Rattle.std.proofs.lemmas.List.{drop_all}
use Rattle.wt_blocks.specs.Nesting.{node_of, items_by, lists}
use Rattle.wt_blocks.specs.Slices.{lines_from}
use Rattle.wt_blocks.specs.View.{list_tree, list_trees}
use Rattle.wt_blocks.proofs.Nests.{within_by, taken, pushed, list_done, item_done, lists_end}
use Rattle.wt_blocks.proofs.nest.+nesting.Goals as goal

pub items_at-overflow_add-inside_line : goal.items_at-overflow_add-inside_line
items_at-overflow_add-inside_line t c =
    let w = within_by c.args.prefixes.now c.rest_of-rest.result.now c.loop-at.at c.item_len.result c.loop-at.invariant.within
    c.rest_of-rest.ensures c.item_len.ensures.within in
    let l = taken c.rest_of-rest.result.now c.front_of-item.result.now c.item_len.result c.front_of-item.ensures c.item_len.ensures.within in
    let n = c.requires.numbers in
    omega (arith, w, l, n)

pub lists_at-loop-at-preserved : goal.lists_at-loop-at-preserved
lists_at-loop-at-preserved t c =
    let ps = c.args.prefixes.now in
    let rest = c.rest_of-rest.result.now in
    let run = c.front_of-list.result.now in
    let at = c.loop-at.at in
    let m = c.list_len.result in
    let depth = c.args.depth in
    let left = c.requires.left at [] c.loop-at-test.true in
    let n : 0 < 32 - depth = omega (arith, left.0, left.1) in
    let l = taken rest run m c.front_of-list.ensures c.list_len.ensures.within in
    let w = within_by ps rest at m c.loop-at.invariant.within c.rest_of-rest.ensures c.list_len.ensures.within in
    let one : 32 - (depth + 1) ≡ 32 - depth - 1 = omega arith in
    let lines = lines_from (c.args.first + at) depth run in
    let is = c.node_at.ensures ∙ ap (node_of false lines) (c.in_ok-children.ensures ∙ ap (λ k. items_by (lists k) lines) one) in
    let added = list_done (32 - depth) c.args.first depth at m ps rest run (list_trees c.loop-at.found)
    (lists (32 - depth) (lines_from c.args.first depth ps)) (list_tree c.node_at.result) n c.rest_of-rest.ensures
    c.front_of-list.ensures c.list_len.ensures.within c.list_len.ensures.front is c.loop-at.invariant.rest in
    record {
      within = omega (arith, w, l);
      rest = ap (λ ts. ts ++ lists (32 - depth) (lines_from (c.args.first + (at + length run)) depth (drop (at + length run) ps)))
          (pushed c.loop-at.found c.push.new.self c.node_at.result c.in_ok-push.ensures.ok)
          ∙ ap (λ k. (list_trees c.loop-at.found ++ list_tree c.node_at.result ∷ [])
          ++ lists (32 - depth) (lines_from (c.args.first + (at + k)) depth (drop (at + k) ps))) l
          ∙ added;
    }

pub items_at-loop-at-preserved : goal.items_at-loop-at-preserved
items_at-loop-at-preserved t c =
    let ps = c.args.prefixes.now in
    let rest = c.rest_of-rest.result.now in
    let run = c.front_of-item.result.now in
    let at = c.loop-at.at in
    let m = c.item_len.result in
    let depth = c.args.depth in
    let lists_in = lists (32 - (depth + 1)) in
    let l = taken rest run m c.front_of-item.ensures c.item_len.ensures.within in
    let w = within_by ps rest at m c.loop-at.invariant.within c.rest_of-rest.ensures c.item_len.ensures.within in
    let lines = lines_from (c.args.first + at) depth run in
    let is = c.node_at.ensures ∙ ap (node_of true lines)
    (c.in_ok-children.ensures ∙ ap lists_in (sym (c.inside_item-inside.ensures.lines (c.args.first + at)))) in
    let added = item_done lists_in c.args.first depth at m ps rest run (list_trees c.loop-at.found)
    (items_by lists_in (lines_from c.args.first depth ps)) (list_tree c.node_at.result) c.rest_of-rest.ensures
    c.front_of-item.ensures c.item_len.ensures.within c.item_len.ensures.front is c.loop-at.invariant.rest in
    record {
      within = omega (arith, w, l);
      rest = ap (λ ts. ts ++ items_by lists_in (lines_from (c.args.first + (at + length run)) depth (drop (at + length run) ps)))
          (pushed c.loop-at.found c.push.new.self c.node_at.result c.in_ok-push.ensures.ok)
          ∙ ap (λ k. (list_trees c.loop-at.found ++ list_tree c.node_at.result ∷ [])
          ++ items_by lists_in (lines_from (c.args.first + (at + k)) depth (drop (at + k) ps))) l
          ∙ added;
    }

pub lists_at-returns : goal.lists_at-returns
lists_at-returns t c =
    lists_end (32 - c.args.depth) (c.args.first + c.loop-at.at) c.args.depth (drop c.loop-at.at c.args.prefixes.now)
    (list_trees c.loop-at.found) (lists (32 - c.args.depth) (lines_from c.args.first c.args.depth c.args.prefixes.now))
    (drop_all c.loop-at.at c.args.prefixes.now (omega arith)) c.loop-at.invariant.rest

use Rattle.std.proofs.Common.{◌≡◌, List, [], length, sym, ap, ◌∙◌, arith, append-nil}
use Rattle.std.proofs.lemmas.Result.{IfOk-weaker}
use Rattle.wt_span.specs.Origins.{OuterCall}
use Rattle.wt_inline.specs.ItemTree.{ItemTree, tree_items}
use Rattle.wt_inline.specs.View.{item_tree}
use Rattle.wt_annotated.specs.Counted.{numbered}
use Rattle.wt_annotated.specs.GroupData.{group_data}
use Rattle.wt_annotated.specs.Numbering.{count}
use Rattle.wt_annotated.specs.NumbersNeeded.{numbers_needed}
use Rattle.wt_annotated.specs.Pieces.{outer_calls}
use Rattle.wt_annotated.specs.WithoutCalls.{IsPlain}
use Rattle.wt_annotated.proofs.AnnotatedTree.{one_pass}
use Rattle.wt_annotated.proofs.OnePass.{count_placed}
use Rattle.wt_annotated.proofs.PlainTrees.{filled_plain}
use Rattle.wt_annotated.proofs.Walks.{walk_all}
use Rattle.wt_annotated.proofs.WithoutCalls.{own_page, same_placed}
use Rattle.wt_ranges.proofs.grouping.group_tree.Goals as goal

-- of a tree without groups the numbered nodes are counted
plain_numbers : (calls : List OuterCall) (t : ItemTree) → IsPlain t → numbers_needed calls t ≡ numbered t
plain_numbers calls t p =
    ap count (walk_all calls (group_data calls) t ∙ same_placed calls (group_data calls) (tree_items t) [] [] t (sym (append-nil (tree_items t))) p.of_page p.none_empty)
    ∙ count_placed [] t

pub without_groups-requires-clause-numbers : goal.without_groups-requires-clause-numbers
without_groups-requires-clause-numbers c =
    let calls = outer_calls c.args.calls.now in
    let t = item_tree c.args.tree in
    let p = filled_plain t (sym c.is_filled.ensures ∙ c.if-is_filled.true) in
    omega (arith, plain_numbers calls t p, c.requires.numbers)

pub without_groups-requires-clause-bytes : goal.without_groups-requires-clause-bytes
without_groups-requires-clause-bytes c =
    let t = item_tree c.args.tree in
    let p = filled_plain t (sym c.is_filled.ensures ∙ c.if-is_filled.true) in
    omega (arith, ap length (own_page (outer_calls c.args.calls.now) (tree_items t) p.of_page), c.requires.bytes)

pub returns-then-is_filled : goal.returns-then-is_filled
returns-then-is_filled c =
    let calls = outer_calls c.args.calls.now in
    let t = item_tree c.args.tree in
    let p = filled_plain t (sym c.is_filled.ensures ∙ c.if-is_filled.true) in
    IfOk-weaker c.without_groups.result _ _ (λ n e. e ∙ one_pass calls (group_data calls) t p) c.without_groups.ensures

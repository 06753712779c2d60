use Rattle.std.proofs.Common.{◌≡◌, List, true, length, ◌+◌, ◌<◌, ◌^◌, sym, ap, ◌∙◌, subst}
use Rattle.wt_span.specs.Cuts.{page_of}
use Rattle.wt_span.specs.Items.{Item}
use Rattle.wt_span.specs.Origins.{OuterCall}
use Rattle.wt_tree.specs.Tiling.{InPreorder, Tiled}
use Rattle.wt_tree.specs.Tree.{Tree}
use Rattle.wt_inline.specs.ItemTree.{ItemTree, forest, tree_items}
use Rattle.wt_inline.specs.Parts.{children}
use Rattle.wt_inline.specs.View.{item_tree}
use Rattle.wt_page.specs.Rows.{rows}
use Rattle.wt_page.specs.Body.{body_parts, meaning}
use Rattle.wt_annotated.specs.Annotated.{annotated}
use Rattle.wt_annotated.specs.Clean.{is_clean}
use Rattle.wt_annotated.specs.GroupData.{group_data}
use Rattle.wt_annotated.specs.NumbersNeeded.{numbers_needed}
use Rattle.wt_sections.specs.Gathering.{headings_in}
use Rattle.wt_annotated.proofs.AnnotatedTree.{annotated_tiles, annotated_numbered}
use Rattle.wt_annotated.proofs.Ends.{body_clean}
use Rattle.wt_ranges.proofs.Headings.{headings_below}
use Rattle.wt_ranges.proofs.page_tree.group.Goals as goal

-- a meaning is a body, and each body is clean
meaning_clean : (xs : List Item) → is_clean (tree_items (meaning xs)) 0 (meaning xs) ≡ true
unfolding meaning
meaning_clean xs = body_clean (forest (children (body_parts (rows xs))))

tree_bytes : (calls cs : List OuterCall) (t u : ItemTree) → cs ≡ calls → t ≡ u → length (page_of calls (tree_items u)) < 2 ^ 32
    → length (page_of cs (tree_items t)) < 2 ^ 32
tree_bytes calls cs t u same is small = subst (λ ds. length (page_of ds (tree_items t)) < 2 ^ 32) (sym same)
    (subst (λ v. length (page_of calls (tree_items v)) < 2 ^ 32) (sym is) small)

meant_tree : (b : Tree) (calls cs : List OuterCall) (t u : ItemTree) → b ≡ annotated cs (group_data cs) t → cs ≡ calls → t ≡ u
    → b ≡ annotated calls (group_data calls) u
meant_tree b calls cs t u made same is = made ∙ ap (λ ds. annotated ds (group_data ds) t) same ∙ ap (λ v. annotated calls (group_data calls) v) is

tree_numbers : (calls cs : List OuterCall) (t u : ItemTree) → cs ≡ calls → t ≡ u → 1 + numbers_needed calls u < 2 ^ 32
    → 1 + numbers_needed cs t < 2 ^ 32
tree_numbers calls cs t u same is few = subst (λ ds. 1 + numbers_needed ds t < 2 ^ 32) (sym same)
    (subst (λ v. 1 + numbers_needed calls v < 2 ^ 32) (sym is) few)

pub group_tree-requires-clause-numbers : goal.group_tree-requires-clause-numbers
group_tree-requires-clause-numbers c =
    tree_numbers c.args.items.outer _ (item_tree c.args.tree) (meaning c.args.items.items) c.sound_calls.ensures.calls c.requires.meant c.requires.numbers

pub in_sections-requires-clause-few : goal.in_sections-requires-clause-few
in_sections-requires-clause-few c =
    subst (λ (u : Tree). headings_in u < 2 ^ 32) (sym (meant_tree _ c.args.items.outer _ (item_tree c.args.tree) (meaning c.args.items.items) c.in_ok-body.ensures c.sound_calls.ensures.calls c.requires.meant))
    (headings_below c.args.items.outer c.args.items.items c.requires.numbers)

pub group_tree-requires-clause-bytes : goal.group_tree-requires-clause-bytes
group_tree-requires-clause-bytes c =
    tree_bytes c.args.items.outer _ (item_tree c.args.tree) (meaning c.args.items.items) c.sound_calls.ensures.calls c.requires.meant c.requires.bytes

pub in_sections-requires-clause-meant : goal.in_sections-requires-clause-meant
in_sections-requires-clause-meant c =
    meant_tree _ c.args.items.outer _ (item_tree c.args.tree) (meaning c.args.items.items) c.in_ok-body.ensures c.sound_calls.ensures.calls c.requires.meant

pub in_sections-requires-clause-tiled : goal.in_sections-requires-clause-tiled
in_sections-requires-clause-tiled c =
    subst (λ (u : Tree). Tiled u) (sym (meant_tree _ c.args.items.outer _ (item_tree c.args.tree) (meaning c.args.items.items) c.in_ok-body.ensures c.sound_calls.ensures.calls c.requires.meant))
    (annotated_tiles c.args.items.outer (group_data c.args.items.outer) (meaning c.args.items.items) (meaning_clean c.args.items.items))

pub in_sections-requires-clause-numbered : goal.in_sections-requires-clause-numbered
in_sections-requires-clause-numbered c =
    subst (λ (u : Tree). InPreorder u) (sym (meant_tree _ c.args.items.outer _ (item_tree c.args.tree) (meaning c.args.items.items) c.in_ok-body.ensures c.sound_calls.ensures.calls c.requires.meant))
    (annotated_numbered c.args.items.outer (group_data c.args.items.outer) (meaning c.args.items.items))

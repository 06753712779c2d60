-- A walk through a tree is one over its items.
use Rattle.std.proofs.Common.{arith, ◌≡◌, ℕ, ◌+◌, Option, List, ◌++◌, length, sym, ap, ap₂, ◌∙◌, length-append, append_assoc}
use Rattle.wt_span.specs.Items.{Item, items}
use Rattle.wt_span.specs.Origins.{OuterCall}
use Rattle.wt_inline.specs.ItemTree.{forest, tree_items, held_by_all}
use Rattle.wt_inline.specs.View.{item_tree, item_trees}
use Rattle.wt_inline.specs.declared.tree.PieceTree.{PieceTree, out-PieceTree}
use Rattle.wt_annotated.specs.declared.page_text.Progress.{Progress}
use Rattle.wt_annotated.specs.Progress.{outset, past}
use Rattle.wt_annotated.specs.Seams.{last_of, text_from}
use Rattle.wt_annotated.specs.TreeWalk.{HasLasts, HasWidths, filled}
use Rattle.wt_annotated.specs.declared.tree_walk.TreeProgress.{TreeProgress}
use Rattle.wt_annotated.proofs.Seams.{last_append, text_append_from}
use Rattle.wt_annotated.proofs.TreeWalks.{held_in_all, held_parts}

abbrev stands : Option ℕ → ℕ → Progress
stands o n = record { last = o; width = n }

pub opened_is : (calls : List OuterCall) → (o : Option ℕ) → (n : PieceTree) → (w : TreeProgress) → HasLasts o n w → HasWidths calls o n w
    → w.opened ≡ past calls (outset o) (items (out-PieceTree n).opening)
opened_is calls o n w l s = ap₂ stands l.opened (omega (arith, s.opening))

pub closed_is : (calls : List OuterCall) → (o : Option ℕ) → (n : PieceTree) → (w : TreeProgress) → HasLasts o n w → HasWidths calls o n w
    → w.closed ≡ past calls (outset o) (tree_items (item_tree n))
closed_is calls o n w l s = ap₂ stands l.closed (omega (arith, s.whole))

pub filled_is : (calls : List OuterCall) → (o : Option ℕ) → (n : PieceTree) → (w : TreeProgress) → HasLasts o n w → HasWidths calls o n w
    → w.filled ≡ past calls (outset o) (items (out-PieceTree n).opening ++ held_by_all (forest (item_trees (out-PieceTree n).children)))
filled_is calls o n w l s =
    let a : List Item = items (out-PieceTree n).opening in
    let b : List Item = held_in_all (out-PieceTree n).children in
    let c : List Item = items (out-PieceTree n).closing in
    let last : last_of o (a ++ b) ≡ filled o n = last_append o a b in
    let cut : tree_items (item_tree n) ≡ (a ++ b) ++ c = held_parts n ∙ sym (append_assoc a b c) in
    let text : text_from calls o (tree_items (item_tree n)) ≡ text_from calls o (a ++ b) ++ text_from calls (filled o n) c =
    ap (text_from calls o) cut ∙ text_append_from calls o (a ++ b) c
    ∙ ap (λ (p : Option ℕ). text_from calls o (a ++ b) ++ text_from calls p c) last in
    let len : length (text_from calls o (tree_items (item_tree n))) ≡ length (text_from calls o (a ++ b)) + length (text_from calls (filled o n) c) =
    ap length text ∙ length-append (text_from calls o (a ++ b)) (text_from calls (filled o n) c) in
    ap₂ stands (l.filled ∙ sym last) (omega (arith, s.whole, s.closing, len))

use Rattle.std.proofs.Common.{◌≡◌, ℕ, Bool, true, Option, List, ◌++◌, sym, ap, ap₂, ◌∙◌}
use Rattle.std.specs.Prelude.{◌&&◌}
use Rattle.wt_span.specs.Items.{Item, items}
use Rattle.wt_inline.specs.ItemTree.{tree_items}
use Rattle.wt_inline.specs.View.{item_tree}
use Rattle.wt_inline.specs.declared.tree.PieceTree.{PieceTree, out-PieceTree}
use Rattle.wt_annotated.specs.declared.tree_walk.TreeProgress.{TreeProgress}
use Rattle.wt_annotated.specs.Seams.{first_of, last_of, parted}
use Rattle.wt_annotated.specs.TreeWalk.{opened, filled, HasLasts}
use Rattle.wt_annotated.specs.Walked.{free_places}
use Rattle.wt_annotated.proofs.Seams.{last_append}
use Rattle.wt_annotated.proofs.TreeWalks.{held_in_all, held_parts}
use Rattle.wt_ranges.proofs.children.has_free_places.Goals as goal

last_whole : (o : Option ℕ) (n : PieceTree) → last_of o (tree_items (item_tree n)) ≡ last_of (filled o n) (items (out-PieceTree n).closing)
last_whole o n =
    let a : List Item = items (out-PieceTree n).opening in
    let i : List Item = held_in_all (out-PieceTree n).children in
    let d : List Item = items (out-PieceTree n).closing in
    ap (last_of o) (held_parts n) ∙ last_append o a (i ++ d) ∙ last_append (last_of o a) i d

-- where the first three cuts are free, the fourth decides
fourth_decides : (o p : Option ℕ) (n : PieceTree) (w : TreeProgress) (first opening inside : Option ℕ) (v1 v2 v3 v4 : Bool) → HasLasts o n w
    → inside ≡ first_of (items (out-PieceTree n).closing) p → opening ≡ first_of (held_in_all (out-PieceTree n).children) inside
    → first ≡ first_of (items (out-PieceTree n).opening) opening → v1 ≡ parted o first → v1 ≡ true → v2 ≡ parted w.opened.last opening → v2 ≡ true
    → v3 ≡ parted w.filled.last inside → v3 ≡ true → v4 ≡ parted w.closed.last p
    → v4 ≡ free_places o (items (out-PieceTree n).opening) (held_in_all (out-PieceTree n).children) (items (out-PieceTree n).closing) p
fourth_decides o p n w first opening inside v1 v2 v3 v4 h e3 e2 e1 b1 h1 b2 h2 b3 h3 b4 =
    let a : List Item = items (out-PieceTree n).opening in
    let i : List Item = held_in_all (out-PieceTree n).children in
    let d : List Item = items (out-PieceTree n).closing in
    let second : opening ≡ first_of i (first_of d p) = e2 ∙ ap (first_of i) e3 in
    let p2 : Bool = parted (opened o n) (first_of i (first_of d p)) in
    let p3 : Bool = parted (filled o n) (first_of d p) in
    let p4 : Bool = parted (last_of (filled o n) d) p in
    let t1 : parted o (first_of a (first_of i (first_of d p))) ≡ true = sym (ap (parted o) (e1 ∙ ap (first_of a) second)) ∙ sym b1 ∙ h1 in
    let t2 : p2 ≡ true = sym (ap₂ parted h.opened second) ∙ sym b2 ∙ h2 in
    let t3 : p3 ≡ true = sym (ap₂ parted h.filled e3) ∙ sym b3 ∙ h3 in
    let t4 : v4 ≡ p4 = b4 ∙ ap (λ (x : Option ℕ). parted x p) (h.closed ∙ last_whole o n) in
    t4
    ∙ sym (ap (λ (x : Bool). x && (p2 && (p3 && p4))) t1
    ∙ ap (λ (x : Bool). x && (p3 && p4)) t2
    ∙ ap (λ (x : Bool). x && p4) t3)

pub returns-then-is_parted : goal.returns-then-is_parted
returns-then-is_parted c =
    fourth_decides c.args.before c.args.after c.args.tree.now c.args.walk c.first_call-first.result c.first_call_of_all-behind_opening.result
    c.first_call-behind_inside.result c.is_parted.result c.is_parted-else-not-is_parted.result c.is_parted-2.result c.is_parted-then-is_parted.result
    c.requires (c.first_call-behind_inside.ensures ∙ ap (λ ps. first_of (items ps) c.args.after) c.as_slice.ensures)
    (c.first_call_of_all-behind_opening.ensures ∙ ap (λ ns. first_of (held_in_all ns) c.first_call-behind_inside.result) c.as_slice-2.ensures)
    (c.first_call-first.ensures ∙ ap (λ ps. first_of (items ps) c.first_call_of_all-behind_opening.result) c.as_slice-3.ensures) c.is_parted.ensures
    c.if-not-is_parted.false c.is_parted-else-not-is_parted.ensures c.if-not-is_parted-2.false c.is_parted-2.ensures c.if-is_parted.true
    c.is_parted-then-is_parted.ensures

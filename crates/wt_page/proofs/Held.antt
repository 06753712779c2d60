-- Stretches hold the items that they are made of.
use Rattle.std.proofs.Common.{◌≡◌, List, [], ◌∷◌, ◌++◌, sym, ap, ◌∙◌, append_assoc, append-nil}
use Rattle.std.proofs.lemmas.List.{take-append-drop}
use Rattle.std.proofs.lemmas.Grind.{flat_map-append}
use Rattle.wt_span.specs.Items.{Item}
use Rattle.wt_inline.specs.declared.loose.Loose.TheVariants.{Sep}
use Rattle.wt_inline.specs.Inside.{opened_all}
use Rattle.wt_inline.specs.ItemTree.{Head, ItemTree, inner, forest, tree_items, held_by_all}
use Rattle.wt_inline.specs.Parts.{Part, node, parts, children}
use Rattle.wt_inline.proofs.HeldLaws.{held_children, opened_append}
use Rattle.wt_page.specs.Stretches.{Stretch, gap, block, stretch_parts, stretches_parts, front_len, front_gaps, past_front, block_len, before_end, end_gaps, tree_block, node_of, opened_by, enclosed}
use Rattle.wt_page.proofs.Opened.{kept_parts, parts_append, parts_of}

-- the items that stretches hold, opened
abbrev pub kept : List Stretch → List Item
kept ss = kept_parts (stretches_parts ss)

abbrev pub kept_tree : ItemTree → List Item
kept_tree t = opened_all (tree_items t)

pub kept_append : (ss ts : List Stretch) → kept (ss ++ ts) ≡ kept ss ++ kept ts
kept_append ss ts = ap kept_parts (flat_map-append stretch_parts ss ts) ∙ parts_append (stretches_parts ss) (stretches_parts ts)

pub of_gap : (xs : List Item) (ss : List Stretch) → kept (gap xs ∷ ss) ≡ opened_all xs ++ kept ss
of_gap xs ss = parts_append (parts Sep xs) (stretches_parts ss) ∙ ap (λ ys. ys ++ kept ss) (parts_of Sep xs)

pub of_block : (ps : List Part) (ss : List Stretch) → kept (block ps ∷ ss) ≡ kept_parts ps ++ kept ss
of_block ps ss = parts_append ps (stretches_parts ss)

pub of_tree : (t : ItemTree) (ss : List Stretch) → kept (tree_block t ∷ ss) ≡ kept_tree t ++ kept ss
of_tree t ss = of_block (node t ∷ []) ss ∙ ap (λ ys. opened_all ys ++ kept ss) (append-nil (tree_items t))

-- a node with these parts between its delimiters
pub of_inner : (h : Head) (o : List Item) (ps : List Part) (c : List Item)
    → kept_tree (inner h o (forest (children ps)) c) ≡ opened_all o ++ (kept_parts ps ++ opened_all c)
of_inner h o ps c =
    let inside = held_by_all (forest (children ps)) in
    opened_append o (inside ++ c)
    ∙ ap (λ ys. opened_all o ++ ys) (opened_append inside c ∙ ap (λ ys. opened_all ys ++ opened_all c) (held_children ps))

pub of_node : (h : Head) (o : List Item) (ss : List Stretch) (c : List Item)
    → kept_tree (node_of h o ss c) ≡ opened_all o ++ (kept ss ++ opened_all c)
of_node h o ss c = of_inner h o (stretches_parts ss) c

pub of_opened : (h : Head) (o : List Item) (ss : List Stretch) → kept (opened_by h o ss) ≡ opened_all o ++ kept ss
of_opened h o ss =
    let front = before_end ss in
    let back = end_gaps ss in
    of_tree (node_of h o front []) back
    ∙ ap (λ ys. ys ++ kept back) (of_node h o front [] ∙ ap (λ ys. opened_all o ++ ys) (append-nil (kept front)))
    ∙ append_assoc (opened_all o) (kept front) (kept back)
    ∙ ap (λ ys. opened_all o ++ ys) (sym (kept_append front back) ∙ ap kept (take-append-drop (block_len ss) ss))

pub of_enclosed : (h : Head) (ss : List Stretch) → kept (enclosed h ss) ≡ kept ss
of_enclosed h ss =
    let front = front_gaps ss in
    let rest = past_front ss in
    kept_append front (opened_by h [] rest) ∙ ap (λ ys. kept front ++ ys) (of_opened h [] rest)
    ∙ sym (kept_append front rest) ∙ ap kept (take-append-drop (front_len ss) ss)

-- How many numbers stretches have.
use Rattle.std.proofs.Common.{◌≡◌, ℕ, ◌+◌, ◌≤◌, List, [], ◌∷◌, ◌++◌, ap, ◌∙◌, arith}
use Rattle.std.proofs.lemmas.List.{take-append-drop}
use Rattle.std.proofs.lemmas.Grind.{flat_map-append}
use Rattle.wt_span.specs.Items.{Item}
use Rattle.wt_inline.specs.declared.loose.Loose.TheVariants.{Sep}
use Rattle.wt_inline.specs.ItemTree.{Head, ItemTree}
use Rattle.wt_inline.specs.Parts.{Part, node, parts}
use Rattle.wt_page.specs.Stretches.{Stretch, gap, block, stretch_parts, stretches_parts, front_len, front_gaps, past_front, block_len, before_end, end_gaps, tree_block, node_of, opened_by, enclosed}
use Rattle.wt_annotated.specs.Counted.{numbered}
use Rattle.wt_page_round_trip.specs.Numbers.{makes_all}
use Rattle.wt_page_round_trip.proofs.Makes.{counts, counts_append, parts_count}
use Rattle.wt_page_round_trip.proofs.ContextCounts.{node_count}

abbrev pub total : List Stretch → ℕ
total ss = counts (stretches_parts ss)

pub total_append : (ss ts : List Stretch) → total (ss ++ ts) ≡ total ss + total ts
total_append ss ts = ap counts (flat_map-append stretch_parts ss ts) ∙ counts_append (stretches_parts ss) (stretches_parts ts)

pub of_gap : (xs : List Item) (ss : List Stretch) → total (gap xs ∷ ss) ≤ makes_all xs + total ss
of_gap xs ss = omega (arith, counts_append (parts Sep xs) (stretches_parts ss), parts_count Sep xs)

pub of_block : (ps : List Part) (ss : List Stretch) → total (block ps ∷ ss) ≡ counts ps + total ss
of_block ps ss = counts_append ps (stretches_parts ss)

pub of_tree : (t : ItemTree) (ss : List Stretch) → total (tree_block t ∷ ss) ≡ numbered t + total ss
of_tree t ss = omega (arith, counts_append (node t ∷ []) (stretches_parts ss))

pub of_node : (h : Head) (o : List Item) (ss : List Stretch) (c : List Item) → numbered (node_of h o ss c) ≤ 1 + total ss
of_node h o ss c = node_count h o c (stretches_parts ss)

pub of_opened : (h : Head) (o : List Item) (ss : List Stretch) → total (opened_by h o ss) ≤ 1 + total ss
of_opened h o ss =
    let front = before_end ss in
    let back = end_gaps ss in
    omega (arith, of_tree (node_of h o front []) back, of_node h o front [], total_append front back, ap total (take-append-drop (block_len ss) ss))

pub of_enclosed : (h : Head) (ss : List Stretch) → total (enclosed h ss) ≤ 1 + total ss
of_enclosed h ss =
    let front = front_gaps ss in
    let rest = past_front ss in
    omega (
      arith,
      total_append front (opened_by h [] rest),
      of_opened h [] rest,
      total_append front rest,
      ap total (take-append-drop (front_len ss) ss),
    )

-- The first item of trees, and items of the page in them, piece by piece.
use Rattle.std.proofs.Common.{◌≡◌, ℕ, ◌+◌, ◌<◌, List, ◌++◌, length, drop, get_or, ap, ◌∙◌}
use Rattle.std.specs.Prelude.{◌&&◌, ◌||◌}
use Rattle.std.specs.List.{list_all, list_any}
use Rattle.std.proofs.lemmas.List.Folds.{list_all-append, list_any-append}
use Rattle.wt_span.specs.Items.{items}
use Rattle.wt_inline.specs.ItemTree.{tree_items}
use Rattle.wt_inline.specs.View.{item_tree}
use Rattle.wt_inline.specs.declared.tree.PieceTree.{PieceTree, out-PieceTree}
use Rattle.wt_annotated.specs.Clean.{is_page}
use Rattle.wt_annotated.specs.Seams.{first_found}
use Rattle.wt_annotated.proofs.Seams.{either, found_append}
use Rattle.wt_annotated.proofs.TreeWalks.{held_in_all, held_parts, held_turn}

-- ---- the first item

pub found_parts : (n : PieceTree) → first_found (tree_items (item_tree n)) ≡ either (first_found (items (out-PieceTree n).opening))
    (either (first_found (held_in_all (out-PieceTree n).children)) (first_found (items (out-PieceTree n).closing)))
found_parts n =
    ap first_found (held_parts n)
    ∙ found_append (items (out-PieceTree n).opening) (held_in_all (out-PieceTree n).children ++ items (out-PieceTree n).closing)
    ∙ ap (either (first_found (items (out-PieceTree n).opening)))
    (found_append (held_in_all (out-PieceTree n).children) (items (out-PieceTree n).closing))

pub found_turn : (ns : List PieceTree) (i : ℕ) (child : PieceTree) → i < length ns → child ≡ get_or ns i child
    → first_found (held_in_all (drop i ns)) ≡ either (first_found (tree_items (item_tree child))) (first_found (held_in_all (drop (i + 1) ns)))
found_turn ns i child lt is =
    ap first_found (held_turn ns i child lt is) ∙ found_append (tree_items (item_tree child)) (held_in_all (drop (i + 1) ns))

-- ---- items of the page

pub any_parts : (n : PieceTree) → list_any is_page (tree_items (item_tree n)) ≡ (list_any is_page (items (out-PieceTree n).opening)
    || (list_any is_page (held_in_all (out-PieceTree n).children) || list_any is_page (items (out-PieceTree n).closing)))
any_parts n =
    ap (list_any is_page) (held_parts n)
    ∙ list_any-append is_page (items (out-PieceTree n).opening) (held_in_all (out-PieceTree n).children ++ items (out-PieceTree n).closing)
    ∙ ap (λ v. list_any is_page (items (out-PieceTree n).opening) || v)
    (list_any-append is_page (held_in_all (out-PieceTree n).children) (items (out-PieceTree n).closing))

pub any_turn : (ns : List PieceTree) (i : ℕ) (child : PieceTree) → i < length ns → child ≡ get_or ns i child
    → list_any is_page (held_in_all (drop i ns)) ≡ (list_any is_page (tree_items (item_tree child)) || list_any is_page (held_in_all (drop (i + 1) ns)))
any_turn ns i child lt is =
    ap (list_any is_page) (held_turn ns i child lt is) ∙ list_any-append is_page (tree_items (item_tree child)) (held_in_all (drop (i + 1) ns))

pub all_parts : (n : PieceTree) → list_all is_page (tree_items (item_tree n)) ≡ (list_all is_page (items (out-PieceTree n).opening)
    && (list_all is_page (held_in_all (out-PieceTree n).children) && list_all is_page (items (out-PieceTree n).closing)))
all_parts n =
    ap (list_all is_page) (held_parts n)
    ∙ list_all-append is_page (items (out-PieceTree n).opening) (held_in_all (out-PieceTree n).children ++ items (out-PieceTree n).closing)
    ∙ ap (λ v. list_all is_page (items (out-PieceTree n).opening) && v)
    (list_all-append is_page (held_in_all (out-PieceTree n).children) (items (out-PieceTree n).closing))

pub all_turn : (ns : List PieceTree) (i : ℕ) (child : PieceTree) → i < length ns → child ≡ get_or ns i child
    → list_all is_page (held_in_all (drop i ns)) ≡ (list_all is_page (tree_items (item_tree child)) && list_all is_page (held_in_all (drop (i + 1) ns)))
all_turn ns i child lt is =
    ap (list_all is_page) (held_turn ns i child lt is) ∙ list_all-append is_page (tree_items (item_tree child)) (held_in_all (drop (i + 1) ns))

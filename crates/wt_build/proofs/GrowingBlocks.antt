-- The children of a body grow by blocks.
use Rattle.std.proofs.Common.{◌≡◌, ◌<◌, ℕ, ◌+◌, List, [], ◌∷◌, ◌++◌, length, take, drop, get_or, sym, ap, ◌∙◌, subst, arith, append_assoc, append-nil}
use Rattle.std.proofs.lemmas.Grind.{flat_map-append}
use Rattle.wt_span.specs.declared.form.Piece.{Piece}
use Rattle.wt_span.specs.Items.{Item}
use Rattle.wt_lines.specs.declared.kind.LineKind.{LineKind}
use Rattle.wt_inline.specs.declared.loose.Loose.TheVariants.{Sep}
use Rattle.wt_inline.specs.ItemTree.{ItemTree}
use Rattle.wt_inline.specs.Parts.{Part, node, parts}
use Rattle.wt_inline.specs.Grown.{Grown, Grows, made}
use Rattle.wt_page.specs.Stretches.{gap, tree_block, stretch_parts, stretches_parts}
use Rattle.wt_page.specs.Body.{block_stretches, within}
use Rattle.wt_rows.specs.declared.row.RowAt.{RowAt}
use Rattle.wt_rows.specs.Ready.{IsReadyRow, AreInOrder}
use Rattle.wt_rows.specs.Views.{rows_view, IsRest}
use Rattle.wt_rows.proofs.Growing.{rest_step}
use Rattle.wt_build.specs.Blocks.{reading_at, IsBlockLen, AreOneBlock}
use Rattle.wt_build.proofs.BlockNodes.{blocks_next, nothing}

pub grows_gap : (g h : Grown) (xs ys : List Item) → xs ≡ ys → Grows g (parts Sep xs) h → Grows g (stretches_parts (gap ys ∷ [])) h
grows_gap g h xs ys e p qs =
    p qs ∙ ap (λ zs. made g (parts Sep zs ++ qs)) e ∙ ap (λ ps. made g (ps ++ qs)) (sym (append-nil (parts Sep ys)))

pub grows_between : (before after : List Item) (t : ItemTree) (g h i j : Grown) → Grows g (parts Sep before) h → Grows h (node t ∷ []) i
    → Grows i (parts Sep after) j → Grows g (stretches_parts (gap before ∷ tree_block t ∷ gap after ∷ [])) j
grows_between before after t g h i j p q s qs =
    let a = parts Sep before in
    let b = parts Sep after in
    s qs ∙ q (b ++ qs) ∙ p (node t ∷ (b ++ qs))
    ∙ ap (λ ps. made g (a ++ (node t ∷ (ps ++ qs)))) (sym (append-nil b))
    ∙ ap (made g) (sym (append_assoc a (node t ∷ (b ++ [])) qs))

pub first_ready : (ps : List Piece) (rs : List RowAt) (r : RowAt) → 0 < length rs → r ≡ get_or rs 0 r → AreInOrder ps rs → IsReadyRow ps r
first_ready ps [] r s e h = absurd (omega arith)
first_ready ps (q ∷ qs) r s e h = subst (IsReadyRow ps) (sym e) h.0

pub blocks_grow : (depth : ℕ) (ps : List Piece) (rs rest front : List RowAt) (at n : ℕ) (k : LineKind) (g h i : Grown) → rest ≡ drop at rs
    → front ≡ take n rest → IsBlockLen rest n → AreOneBlock k front
    → Grows h (stretches_parts (block_stretches (reading_at depth) k (rows_view ps front))) i
    → IsRest g (stretches_parts (within depth (rows_view ps rs))) h (stretches_parts (within depth (rows_view ps (drop at rs))))
    → IsRest g (stretches_parts (within depth (rows_view ps rs))) i (stretches_parts (within depth (rows_view ps (drop (at + n) rs))))
blocks_grow depth ps rs rest front at n k g h i er ef cut block grows r =
    let own = block_stretches (reading_at depth) k (rows_view ps front) in
    let left = within depth (rows_view ps (drop (at + n) rs)) in
    rest_step g h i (stretches_parts (within depth (rows_view ps rs))) (stretches_parts own)
    (stretches_parts (within depth (rows_view ps (drop at rs)))) (stretches_parts left)
    (ap stretches_parts (blocks_next depth ps rs rest front at n k er ef cut block) ∙ flat_map-append stretch_parts own left) grows r

pub blocks_grown : (depth : ℕ) (ps : List Piece) (left : List RowAt) (all : List Part) (g h : Grown) → left ≡ []
    → IsRest g all h (stretches_parts (within depth (rows_view ps left))) → Grows g all h
blocks_grown depth ps left all g h e r qs =
    ap (λ vs. made h (stretches_parts vs ++ qs)) (sym (nothing depth) ∙ ap (λ rs. within depth (rows_view ps rs)) (sym e)) ∙ r qs

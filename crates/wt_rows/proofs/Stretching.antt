-- Stretches in code, as the definitions have them.
use Rattle.std.proofs.Common.{◌≡◌, ℕ, ◌+◌, ◌-◌, None, List, [], ◌∷◌, ◌++◌, length, take, drop, map, refl, sym, ap, ◌∙◌, append-nil}
use Rattle.std.specs.Prelude.{reverse}
use Rattle.std.specs.List.{prefix_len}
use Rattle.std.proofs.lemmas.List.{length-map, take-map, drop-map, map-append, reverse-append}
use Rattle.wt_span.specs.declared.form.Piece.{Piece}
use Rattle.wt_span.specs.Items.{Item}
use Rattle.wt_inline.specs.ItemTree.{Head, ItemTree, inner, forest}
use Rattle.wt_inline.specs.declared.tree.PieceTree.{PieceTree}
use Rattle.wt_inline.specs.View.{item_tree}
use Rattle.wt_inline.specs.Parts.{Part}
use Rattle.wt_inline.specs.Grown.{Grown, Grows, made}
use Rattle.wt_rows.specs.declared.stretch.StretchAt.{StretchAt}
use Rattle.wt_rows.specs.declared.stretch.StretchAt.TheVariants as at
use Rattle.wt_page.specs.Stretches.{is_gap, stretches_parts, block_len, before_end, end_gaps, front_len, enclosed, tree_block}
use Rattle.wt_rows.specs.Views.{stretch_view, stretches_view, is_gap_at, IsOpenedBy, IsBehindTree}

map_reverse : {A B : Type 0} (f : A → B) (xs : List A) → map f (reverse xs) ≡ reverse (map f xs)
map_reverse f [] = refl
map_reverse f (x ∷ xs) =
    ap (map f) (reverse-append (x ∷ []) xs) ∙ map-append f (reverse xs) (x ∷ []) ∙ ap (λ ys. ys ++ f x ∷ []) (map_reverse f xs)
    ∙ sym (reverse-append (f x ∷ []) (map f xs))

gaps_viewed : (ps : List Piece) (ss : List StretchAt) → prefix_len is_gap (stretches_view ps ss) ≡ prefix_len is_gap_at ss
gaps_viewed ps [] = refl
gaps_viewed ps (at.Gap from to ∷ ss) = ap (λ n. 1 + n) (gaps_viewed ps ss)
gaps_viewed ps (at.Tree t ∷ ss) = refl

blocks_viewed : (ps : List Piece) (ss : List StretchAt) → block_len (stretches_view ps ss) ≡ length ss - prefix_len is_gap_at (reverse ss)
blocks_viewed ps ss =
    ap (λ n. n - prefix_len is_gap (reverse (stretches_view ps ss))) (length-map ss (stretch_view ps))
    ∙ ap (λ n. length ss - n) (ap (prefix_len is_gap) (sym (map_reverse (stretch_view ps) ss)) ∙ gaps_viewed ps (reverse ss))

pub made_is : (g c : Grown) (added : List Part) (ts : List ItemTree) → Grows g added c → ts ≡ made c [] → ts ≡ made g added
made_is g c added ts grows et = et ∙ grows [] ∙ ap (made g) (append-nil added)

pub opened_is : (ps : List Piece) (h : Head) (o : List Item) (g : Grown) (ss inside after l : List StretchAt) (n : ℕ) (t : PieceTree)
    → n ≡ length ss - prefix_len is_gap_at (reverse ss) → inside ≡ take n ss → after ≡ drop n ss → IsBehindTree t after l
    → item_tree t ≡ inner h o (forest (made g (stretches_parts (stretches_view ps inside)))) []
    → IsOpenedBy h o g (stretches_view ps ss) (stretches_view ps l)
opened_is ps h o g ss inside after l n t en ei ea el tree =
    let vs = stretches_view ps ss in
    let len : n ≡ block_len vs = en ∙ sym (blocks_viewed ps ss) in
    let front : stretches_view ps inside ≡ before_end vs = ap (stretches_view ps) ei ∙ sym (take-map (stretch_view ps) n ss) ∙ ap (λ k. take k vs) len in
    let back : stretches_view ps after ≡ end_gaps vs = ap (stretches_view ps) ea ∙ sym (drop-map (stretch_view ps) n ss) ∙ ap (λ k. drop k vs) len in
    el ps
    ∙ ap (λ u. tree_block u ∷ stretches_view ps after) (tree ∙ ap (λ us. inner h o (forest (made g (stretches_parts us))) []) front)
    ∙ ap (λ us. tree_block (inner h o (forest (made g (stretches_parts (before_end vs)))) []) ∷ us) back

pub opened_none : (ps : List Piece) (h : Head) (o : List Item) (g : Grown) (ss l : List StretchAt) (n : ℕ) (t : PieceTree) (ts : List ItemTree)
    → n ≡ length ss - prefix_len is_gap_at (reverse ss) → n ≡ 0 → IsBehindTree t ss l → ts ≡ made g [] → item_tree t ≡ inner h o (forest ts) []
    → IsOpenedBy h o g (stretches_view ps ss) (stretches_view ps l)
opened_none ps h o g ss l n t ts en none el et tree =
    opened_is ps h o g ss [] ss l n t en (sym (ap (λ k. take k ss) none)) (sym (ap (λ k. drop k ss) none)) el
    (tree ∙ ap (λ us. inner h o (forest us) []) et)

pub enclosed_is : (ps : List Piece) (h : Head) (g : Grown) (ss front rest node l : List StretchAt) (n : ℕ) → g ≡ record { trees = []; run = None }
    → n ≡ prefix_len is_gap_at ss → front ≡ take n ss → rest ≡ drop n ss → IsOpenedBy h [] g (stretches_view ps rest) (stretches_view ps node)
    → l ≡ front ++ node → stretches_view ps l ≡ enclosed h (stretches_view ps ss)
enclosed_is ps h g ss front rest node l n eg en ef er opened el =
    let vs = stretches_view ps ss in
    let len : n ≡ front_len vs = en ∙ sym (gaps_viewed ps ss) in
    let before : stretches_view ps front ≡ take (front_len vs) vs = ap (stretches_view ps) ef ∙ sym (take-map (stretch_view ps) n ss)
    ∙ ap (λ k. take k vs) len in
    let after : stretches_view ps rest ≡ drop (front_len vs) vs = ap (stretches_view ps) er ∙ sym (drop-map (stretch_view ps) n ss) ∙ ap (λ k. drop k vs) len in
    ap (stretches_view ps) el ∙ map-append (stretch_view ps) front node
    ∙ ap (λ us. us ++ stretches_view ps node) before
    ∙ ap (λ us. take (front_len vs) vs ++ us) (opened
    ∙ ap (λ k. tree_block (inner h [] (forest (made k (stretches_parts (before_end (stretches_view ps rest))))) []) ∷ end_gaps (stretches_view ps rest)) eg
    ∙ ap (λ us. tree_block (inner h [] (forest (made (record { trees = []; run = None }) (stretches_parts (before_end us)))) []) ∷ end_gaps us) after)

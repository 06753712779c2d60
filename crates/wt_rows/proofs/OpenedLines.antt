-- A node that begins with what stands on a line.
use Rattle.std.proofs.Common.{◌≡◌, ◌≤◌, suc, ◌+◌, ◌-◌, None, List, [], ◌∷◌, ◌++◌, length, take, drop, refl, sym, ap, ◌∙◌, arith}
use Rattle.std.specs.Prelude.{reverse}
use Rattle.std.specs.List.{prefix_len}
use Rattle.std.proofs.lemmas.List.{reverse-append, length-reverse}
use Rattle.std.proofs.lemmas.List.Sums.{prefix_len-le-length}
use Rattle.wt_span.specs.Items.{Item}
use Rattle.wt_inline.specs.ItemTree.{Head, inner, forest}
use Rattle.wt_inline.specs.Parts.{Part, children}
use Rattle.wt_inline.specs.Grown.{Grown, Grows, made}
use Rattle.wt_page.specs.Stretches.{Stretch, gap, block, is_gap, block_len, before_end, end_gaps, stretches_parts, opened_by, tree_block}
use Rattle.wt_rows.specs.Views.{IsOpenedBy}

gaps_before_block : (ps : List Part) (ss : List Stretch) → prefix_len is_gap (ss ++ block ps ∷ []) ≡ prefix_len is_gap ss
gaps_before_block ps [] = refl
gaps_before_block ps (gap xs ∷ ss) = ap (λ n. 1 + n) (gaps_before_block ps ss)
gaps_before_block ps (block qs ∷ ss) = refl

block_first : (ps : List Part) (ss : List Stretch) → block_len (block ps ∷ ss) ≡ suc (block_len ss)
block_first ps ss =
    let back : prefix_len is_gap (reverse (block ps ∷ ss)) ≡ prefix_len is_gap (reverse ss) =
    ap (prefix_len is_gap) (reverse-append (block ps ∷ []) ss) ∙ gaps_before_block ps (reverse ss) in
    let few : prefix_len is_gap (reverse ss) ≤ length (reverse ss) = prefix_len-le-length is_gap (reverse ss) in
    let len : length (reverse ss) ≡ length ss = length-reverse ss in
    let down : suc (length ss) - prefix_len is_gap (reverse ss) ≡ suc (length ss - prefix_len is_gap (reverse ss)) = omega arith in
    ap (λ n. suc (length ss) - n) back ∙ down

pub opened_line_is : (h : Head) (o : List Item) (f g : Grown) (ps : List Part) (ss ls : List Stretch) → f ≡ record { trees = []; run = None }
    → Grows f ps g → IsOpenedBy h o g ss ls → ls ≡ opened_by h o (block ps ∷ ss)
opened_line_is h o f g ps ss ls ef grows is =
    let len = block_first ps ss in
    let front : before_end (block ps ∷ ss) ≡ block ps ∷ before_end ss = ap (λ n. take n (block ps ∷ ss)) len in
    let back : end_gaps (block ps ∷ ss) ≡ end_gaps ss = ap (λ n. drop n (block ps ∷ ss)) len in
    let qs = stretches_parts (before_end ss) in
    let held : made g qs ≡ children (ps ++ qs) = grows qs ∙ ap (λ (k : Grown). made k (ps ++ qs)) ef in
    is
    ∙ ap (λ ts. tree_block (inner h o (forest ts) []) ∷ end_gaps ss) held
    ∙ ap (λ us. tree_block (inner h o (forest (children (stretches_parts us))) []) ∷ end_gaps ss) (sym front)
    ∙ ap (λ us. tree_block (inner h o (forest (children (stretches_parts (before_end (block ps ∷ ss))))) []) ∷ us) (sym back)

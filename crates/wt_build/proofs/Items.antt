-- Items of lists: their delimiters, and what they hold.
use Rattle.std.proofs.Common.{◌≡◌, ◌<◌, ◌≤◌, ℕ, zero, suc, ◌+◌, ◌-◌, true, false, None, List, [], ◌∷◌, length, take, drop, map, get_or, refl, sym, ap, ◌∙◌, subst, arith, append-nil}
use Rattle.std.specs.Prelude.{min, ◌==◌}
use Rattle.std.specs.List.{prefix_len}
use Rattle.std.proofs.lemmas.Bool.Decides.{nat_tests}
use Rattle.std.proofs.lemmas.List.{length-map, length-take-le}
use Rattle.std.proofs.lemmas.List.Sums.{prefix_len-le-length, prefix_len_passes}
use Rattle.wt_span.specs.Items.{Item, sign}
use Rattle.wt_blocks.specs.Nesting.{is_list_sign}
use Rattle.wt_tiles.specs.Glyphs.{glyph_of}
use Rattle.wt_tiles.specs.Cutting.{IsEdgeIn}
use Rattle.wt_tiles.proofs.Words.{edge_after}
use Rattle.wt_inline.specs.ItemTree.{Head, plain, inner, forest}
use Rattle.wt_inline.specs.Parts.{Part, children}
use Rattle.wt_context.specs.Line.{line_parts}
use Rattle.wt_page.specs.Rows.{Row, signs}
use Rattle.wt_page.specs.Stretches.{gap, block, tree_block, opened_by}
use Rattle.wt_page.specs.Lists.{prefix_of, item_opening_len, term_len, item_kind, item_by, line_item}
use Rattle.wt_page.proofs.LowSigns.{low_sign}

-- ---- where an open delimiter ends

list_sign_low : (s : ℕ) → is_list_sign s ≡ true → s < 128
list_sign_low s e = grind (arith, nat_tests)

cut_edge : (xs : List Item) (m : ℕ) → 0 < m → m ≤ length xs → get_or (signs xs) (m - 1) 0 < 128 → IsEdgeIn xs m
cut_edge xs m s h low = edge_after (map glyph_of xs) (m - 1) m (omega (arith, s)) (low_sign xs (m - 1) (omega (arith, s, h)) low)

-- the prefix
prefix_count : (ss : List ℕ) → (length (take (min 32 (prefix_len is_list_sign ss)) ss) ≤ prefix_len is_list_sign ss) × (prefix_len is_list_sign ss ≤ length ss)
prefix_count ss =
    let few : prefix_len is_list_sign ss ≤ length ss = prefix_len-le-length is_list_sign ss in
    let len : length (take (min 32 (prefix_len is_list_sign ss)) ss) ≡ min 32 (prefix_len is_list_sign ss) =
    length-take-le (min 32 (prefix_len is_list_sign ss)) ss (omega arith) in
    (omega arith, few)

pub prefix_cut : (xs : List Item) (n : ℕ) → n ≡ length (prefix_of xs) → (n ≤ length xs) × (0 < n → IsEdgeIn xs n)
prefix_cut xs n e =
    let count = prefix_count (signs xs) in
    let len : length (signs xs) ≡ length xs = length-map xs sign in
    let le : n ≤ length xs = omega (arith, e, count.0, count.1, len) in (
      le,
      λ s. cut_edge xs n s le (list_sign_low (get_or (signs xs) (n - 1) 0)
          (prefix_len_passes is_list_sign (signs xs) (n - 1) 0 (omega (arith, s, e, count.0)))),
    )

-- ---- an item of its line alone

no_term : (sign : ℕ) (xs : List Item) → (sign == 59) ≡ false → term_len sign xs ≡ None
no_term sign xs e = rw e refl

opened_of_line : (h : Head) (opening end : List Item) (ps : List Part)
    → tree_block (inner h opening (forest (children ps)) []) ∷ gap end ∷ [] ≡ opened_by h opening (block ps ∷ gap end ∷ [])
opened_of_line h opening end ps =
    ap (λ qs. tree_block (inner h opening (forest (children qs)) []) ∷ gap end ∷ []) (sym (append-nil ps))

pub plain_line : (sign : ℕ) (r : Row) (n : ℕ) (opening xs : List Item) → (sign == 59) ≡ false → n ≡ item_opening_len r.items → opening ≡ take n r.items
    → xs ≡ drop n r.items
    → gap r.lead ∷ tree_block (inner (plain (item_kind sign)) opening (forest (children (line_parts xs))) []) ∷ gap r.ending ∷ [] ≡ line_item sign r []
unfolding line_item
plain_line sign r n opening xs e en eo ex =
    let own = take (item_opening_len r.items) r.items in
    let rest = drop (item_opening_len r.items) r.items in
    let h = plain (item_kind sign) in
    ap (λ ys. gap r.lead ∷ tree_block (inner h ys (forest (children (line_parts xs))) []) ∷ gap r.ending ∷ []) (eo ∙ ap (λ m. take m r.items) en)
    ∙ ap (λ ys. gap r.lead ∷ tree_block (inner h own (forest (children (line_parts ys))) []) ∷ gap r.ending ∷ []) (ex ∙ ap (λ m. drop m r.items) en)
    ∙ ap (λ ss. gap r.lead ∷ ss) (opened_of_line h own r.ending (line_parts rest)
    ∙ ap (λ o. item_by sign o own rest (gap r.ending ∷ [])) (sym (no_term sign rest e)))

-- Nodes behind a block and before it, where texts are cut anew round it: those behind it move, and those before it stay.
use Rattle.std.proofs.Common.{arith, ◌≡◌, ℕ, ◌+◌, ◌<◌, ◌≤◌, Bool, true, false, List, [], ◌∷◌, length, refl, sym, ap, ap₂, ◌∙◌, append-nil}
use Rattle.std.specs.Prelude.{◌||◌}
use Rattle.wt_tree.specs.declared.row.Texts.{Texts}
use Rattle.wt_tree.specs.declared.row.Texts.TheVariants.{Separators, Page, Bordered, OwnCharacter}
use Rattle.wt_recut.specs.Recut.{is_text, is_border, joined_texts, from_start, front_of, rest_of, text_before, cut_from}
use Rattle.wt_tree.specs.Tree.{Tree, tree, Trees, none, more}
use Rattle.wt_span.specs.Items.{Item}
use Rattle.wt_inline.specs.ItemTree.{ItemTree, forest}
use Rattle.wt_annotated.specs.CutTexts.{all_cut_texts}
use Rattle.wt_annotated.specs.Labels.{width}
use Rattle.wt_annotated.specs.Numbering.{count_all, all_with_numbers}
use Rattle.wt_annotated.specs.WithoutCalls.{all_placed}
use Rattle.wt_inside_laws.specs.Replaced.{Edit, all_with_inside}
use Rattle.wt_text_edit_laws.proofs.Prose.ProseTrees.{blocks_of, number_behind, items_behind}
use Rattle.wt_text_edit_laws.proofs.Blocks.KeptBlocks.{held_source}
use Rattle.wt_called_edit_laws.proofs.Cells.Cuts.{lead_in, front}
use Rattle.wt_called_edit_laws.proofs.Cells.ManyNodes.{fore_at, cut_at}
use Rattle.wt_called_edit_laws.proofs.Cells.Nodes.{number_after, items_after, width_after}
use Rattle.wt_inside_laws.proofs.Before.{AllBelow, either, all_placed_below, joined_below, parts_below, all_texts_below, all_stay}
use Rattle.wt_inside_laws.proofs.Behind.{IsBehind, all_shift_moved}
use Rattle.wt_inside_laws.proofs.Shifted.{all_shifted, all_placed_shifted, all_numbered_shifted, joined_same, cut_same, as_same, all_texts_same}

-- ---- behind a block

blocks_shifted : (n : ℕ) (b : List Item) (vs : List ItemTree) → blocks_of n b vs ≡ all_shifted n (width b) (blocks_of 0 [] vs)
blocks_shifted n b vs =
    let e : n ≡ n + 0 = omega arith in
    ap₂ (λ (m : ℕ) (xs : List Item). all_cut_texts (all_with_numbers m (all_placed xs (forest vs)))) e (sym (append-nil b))
    ∙ ap (λ us. all_cut_texts (all_with_numbers (n + 0) us)) (all_placed_shifted b [] (forest vs))
    ∙ ap all_cut_texts (all_numbered_shifted n (width b) 0 (all_placed [] (forest vs)))
    ∙ sym (all_texts_same n (width b) (all_with_numbers 0 (all_placed [] (forest vs))))

cut_shifted : (v : Bool) (x : Texts) (k d : ℕ) (us : Trees) → all_shifted k d (cut_at v x us) ≡ cut_at v x (all_shifted k d us)
cut_shifted true x k d us = as_same k d x us (all_shifted k d us) refl
cut_shifted false Separators k d us = refl
cut_shifted false Page k d us = refl
cut_shifted false Bordered k d us = cut_same k d true (joined_texts us) ∙ ap (cut_from true) (joined_same k d us)
cut_shifted false OwnCharacter k d us = refl

cut_so : (v : Bool) (x : Texts) (n : ℕ) (b : List Item) (vs : List ItemTree) → cut_at v x (blocks_of n b vs) ≡ all_shifted n (width b) (cut_at v x (blocks_of 0 [] vs))
cut_so v x n b vs = ap (cut_at v x) (blocks_shifted n b vs) ∙ sym (cut_shifted v x n (width b) (blocks_of 0 [] vs))

pub cut_moved : (e : Edit) (v : Bool) (x : Texts) (n m : ℕ) (b c : List Item) (vs : List ItemTree) → IsBehind e n (width b) m (width c)
    → all_with_inside e (cut_at v x (blocks_of n b vs)) ≡ cut_at v x (blocks_of m c vs)
cut_moved e v x n m b c vs h =
    ap (all_with_inside e) (cut_so v x n b vs)
    ∙ all_shift_moved e n (width b) m (width c) (cut_at v x (blocks_of 0 [] vs)) h
    ∙ sym (cut_so v x m c vs)

-- ---- before a block

front_below : (n b : ℕ) (behind : Bool) (ts : Trees) → 0 < n → AllBelow n b ts → AllBelow n b (front behind ts)
front_below n b behind none p h = tt
front_below n b behind (more (tree l vs) ts) p h =
    let t : Tree = tree l vs in
    let us : Trees = front (behind || is_border t) ts in
    let k : AllBelow n b us = front_below n b (behind || is_border t) ts p h.1 in
    let all : Bool = from_start behind (lead_in ts) l.own in
    either n b (is_text t) (text_before all l.ranges l.own us) (more t us)
    (parts_below n b l.ranges (front_of all l.own) (rest_of all l.own) us p h.0.1 k) (h.0, k)

fore_below : (n b : ℕ) (v : Bool) (x : Texts) (ts : Trees) → 0 < n → AllBelow n b ts → AllBelow n b (fore_at v x ts)
fore_below n b true Separators ts p h = h
fore_below n b true Page ts p h = h
fore_below n b true Bordered ts p h = front_below n b false (joined_texts ts) p (joined_below n b ts p h)
fore_below n b true OwnCharacter ts p h = h
fore_below n b false Separators ts p h = h
fore_below n b false Page ts p h = h
fore_below n b false Bordered ts p h = front_below n b true (joined_texts ts) p (joined_below n b ts p h)
fore_below n b false OwnCharacter ts p h = h

pub number_counted : (n : ℕ) (b : List Item) (us : List ItemTree) → number_after n b us ≡ n + count_all (all_placed b (forest us))
number_counted n b [] = omega arith
number_counted n b (u ∷ us) =
    let h = number_counted (number_behind n b u) (items_behind b u) us in
    omega (arith, h)

pub fore_stays : (e : Edit) (v : Bool) (x : Texts) (n : ℕ) (b : List Item) (us : List ItemTree) → 1 ≤ e.number → e.number ≤ e.old_last
    → number_after n b us ≤ e.number → width (items_after b us) < e.old_end → all_with_inside e (fore_at v x (blocks_of n b us)) ≡ fore_at v x (blocks_of n b us)
fore_stays e v x n b us first own number place =
    let at : ℕ = width (items_after b us) in
    let up = number_counted n b us in
    let w = width_after b us in
    let s = ap length (held_source us) in
    let below : AllBelow e.number at (blocks_of n b us) =
    all_texts_below e.number at (all_with_numbers n (all_placed b (forest us))) first
    (all_placed_below e.number at n b (forest us) first (omega (arith, number, up)) (omega (arith, w, s))) in
    all_stay e at (fore_at v x (blocks_of n b us)) own place (fore_below e.number at v x (blocks_of n b us) first below)

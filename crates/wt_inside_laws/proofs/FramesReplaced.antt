-- Nodes with several places, at one of which a block's inside is replaced.
use Rattle.std.proofs.Common.{arith, true≢false, ◌≡◌, ◌≢◌, inl, inr, ℕ, ◌+◌, ◌-◌, ◌<◌, ◌≤◌, ◌==◌, Bool, true, false, Option, List, [], ◌∷◌, ◌++◌, length, refl, sym, ap, ap₂, ◌∙◌, subst, cond, append_assoc}
use Rattle.std.proofs.lemmas.Bool.Decides.{nat_tests}
use Rattle.wt_tree.specs.declared.kind.Ranges.{Ranges}
use Rattle.wt_tree.specs.declared.row.Texts.{Texts}
use Rattle.wt_tree.specs.Kinds.{is_leaf, is_numbered, texts_of_kind}
use Rattle.wt_tree.specs.Tiling.{is_group}
use Rattle.wt_tree.specs.Tree.{Label, Tree, tree, Trees, none, more, label}
use Rattle.wt_span.specs.Items.{Item}
use Rattle.wt_inline.specs.ItemTree.{Head, ItemTree, inner, forest, tree_items, held_by_all}
use Rattle.wt_checks.specs.Kept.{children}
use Rattle.wt_annotated.specs.Labels.{width, label_at}
use Rattle.wt_annotated.specs.Numbering.{next_after, number_of, count, count_all}
use Rattle.wt_annotated.specs.WithoutCalls.{inside_by, placed, all_placed}
use Rattle.wt_annotated.proofs.Widths.{width_append, width_three}
use Rattle.wt_part_laws.specs.Frames.{Frame, place, whole, around, Frames, no_frames, more_frames, tree_at, trees_at, places_in, all_places}
use Rattle.wt_inside_laws.specs.Replaced.{Edit, with_inside, all_with_inside}
use Rattle.wt_part_laws.specs.Standing.{standing}
use Rattle.wt_text_edit_laws.specs.TextBlocks.{TextBlock, a_paragraph, a_heading, block_tree, IsBlock}
use Rattle.wt_text_edit_laws.specs.TypedHeadings.{Sides}
use Rattle.wt_text_edit_laws.proofs.Prose.ProseTrees.{blocks_of, number_behind, items_behind}
use Rattle.wt_text_edit_laws.proofs.Blocks.KeptBlocks.{blocks_source, held_source}
use Rattle.wt_called_edit_laws.proofs.Cells.Cuts.{beside}
use Rattle.wt_called_edit_laws.proofs.Cells.OwnEdits.{number_grows, next_grows}
use Rattle.wt_called_edit_laws.proofs.Cells.ManyNodes.{AllBorders, fore_at, cut_at, AtBorders, one_round}
use Rattle.wt_called_edit_laws.proofs.Cells.Nodes.{IsHolder, AtBorder, number_after, items_after, width_after, holder_label, kids, standing_inner}
use Rattle.wt_inside_laws.proofs.Before.{standing_stays}
use Rattle.wt_inside_laws.proofs.Behind.{IsBehind, test_no_less, test_below}
use Rattle.wt_inside_laws.proofs.CutMoved.{cut_moved, fore_stays, number_counted}
use Rattle.wt_inside_laws.proofs.EditPlaces.{FitsAt, IsNone, IsNot, EditIn}
use Rattle.wt_inside_laws.proofs.OneText.{block_count, block_width, filled, is_number, moved_before, moved_behind}
use Rattle.wt_inside_laws.proofs.Shifted.{range_like, placed_count}

-- The trees at the places are the same, but at this one, where a block's text becomes another one.
pub record AreReplaced (t w : ℕ → ItemTree) (i : ℕ) (k : TextBlock) (old new : List ℕ) : Type 0 where
  pub others : (j : ℕ) → j ≢ i → t j ≡ w j
  pub was : t i ≡ block_tree k old
  pub now : w i ≡ block_tree k new
  pub old_block : IsBlock k old
  pub new_block : IsBlock k new

-- ---- where it isn't, nothing is another one

none_split : (i : ℕ) (ms ns : List ℕ) → IsNone i (ms ++ ns) → IsNone i ms × IsNone i ns
none_split i [] ns h = (tt, h)
none_split i (m ∷ ms) ns h = let r = none_split i ms ns h.1 in ((h.0, r.0), r.1)

mutual
  same_tree : (t w : ℕ → ItemTree) (i : ℕ) → ((j : ℕ) → j ≢ i → t j ≡ w j) → (f : Frame) → IsNone i (places_in f) → tree_at t f ≡ tree_at w f
  same_tree t w i s (place j) h = s j h.0
  same_tree t w i s (whole u) h = refl
  same_tree t w i s (around k p gs c) h = ap (λ us. inner k p (forest us) c) (same_trees t w i s gs h)

  same_trees : (t w : ℕ → ItemTree) (i : ℕ) → ((j : ℕ) → j ≢ i → t j ≡ w j) → (fs : Frames) → IsNot i fs → trees_at t fs ≡ trees_at w fs
  same_trees t w i s no_frames h = refl
  same_trees t w i s (more_frames f fs) h =
      let r = none_split i (places_in f) (all_places fs) h in ap₂ (λ u us. u ∷ us) (same_tree t w i s f r.0) (same_trees t w i s fs r.1)

-- ---- numbers and items behind several trees

number_join : (n : ℕ) (b : List Item) (us vs : List ItemTree) → number_after n b (us ++ vs) ≡ number_after (number_after n b us) (items_after b us) vs
number_join n b [] vs = refl
number_join n b (u ∷ us) vs = number_join (number_behind n b u) (items_behind b u) us vs

items_join : (b : List Item) (us vs : List ItemTree) → items_after b (us ++ vs) ≡ items_after (items_after b us) vs
items_join b [] vs = refl
items_join b (u ∷ us) vs = items_join (items_behind b u) us vs

-- the same trees behind it
behind_trees : (e : Edit) (n m : ℕ) (b c : List Item) (vs : List ItemTree) → IsBehind e n (width b) m (width c)
    → IsBehind e (number_after n b vs) (width (items_after b vs)) (number_after m c vs) (width (items_after c vs))
behind_trees e n m b c [] h = h
behind_trees e n m b c (v ∷ vs) h =
    let s : count (placed c v) ≡ count (placed b v) = placed_count c b v in
    let x = width_append b (tree_items v) in
    let y = width_append c (tree_items v) in
    let number = h.number in
    let new_number = h.new_number in
    let place = h.place in
    let new_place = h.new_place in
    behind_trees e (number_behind n b v) (number_behind m c v) (items_behind b v) (items_behind c v) vs (record {
      first = h.first;
      own = h.own;
      number = omega (arith, number);
      new_number = omega (arith, new_number, s);
      place = omega (arith, place, x);
      new_place = omega (arith, new_place, x, y);
    })

-- ---- what holds other nodes

holder_count : (a : List Item) (h : Head) (p c : List Item) (us : List ItemTree) → IsHolder h.kind
    → count (placed a (inner h p (forest us) c)) ≡ cond (is_numbered h.kind) 1 0 + count_all (all_placed (a ++ p) (forest us))
unfolding label_at
holder_count a h p c us is =
    let v : ℕ = cond (is_numbered h.kind) 1 0 in
    let xs : Trees = all_placed (a ++ p) (forest us) in
    ap (λ (g : Bool). v + cond g 0 (count_all (inside_by (is_leaf h.kind) xs))) is.group ∙ ap (λ (l : Bool). v + count_all (inside_by l xs)) is.leaf

next_is : (v : Bool) (m : ℕ) → cond v (m + 1) m ≡ m + cond v 1 0
next_is true m = refl
next_is false m = omega arith

holder_number : (m : ℕ) (a : List Item) (h : Head) (p c : List Item) (us : List ItemTree) → IsHolder h.kind
    → number_behind m a (inner h p (forest us) c) ≡ number_after (next_after h.kind m) (a ++ p) us
holder_number m a h p c us is =
    let n = holder_count a h p c us is in
    let z = number_counted (next_after h.kind m) (a ++ p) us in
    let next = next_is (is_numbered h.kind) m in
    omega (arith, n, z, next)

holder_width : (a : List Item) (h : Head) (p c : List Item) (us : List ItemTree)
    → width (items_behind a (inner h p (forest us) c)) ≡ width (items_after (a ++ p) us) + width c
holder_width a h p c us =
    let held : List Item = held_by_all (forest us) in
    let x = width_append a (p ++ (held ++ c)) in
    let y = width_three p held c in
    let z = width_after (a ++ p) us in
    let s : width held ≡ length (blocks_source us) = ap length (held_source us) in
    let q = width_append a p in
    omega (arith, x, y, z, s, q)

holder_behind : (e : Edit) (m : ℕ) (a : List Item) (h : Head) (p c : List Item) (us ws : List ItemTree) → IsHolder h.kind
    → IsBehind e (number_after (next_after h.kind m) (a ++ p) us) (width (items_after (a ++ p) us)) (number_after (next_after h.kind m) (a ++ p) ws) (width (items_after (a ++ p) ws))
    → IsBehind e (number_behind m a (inner h p (forest us) c)) (width (items_behind a (inner h p (forest us) c)))
    (number_behind m a (inner h p (forest ws) c)) (width (items_behind a (inner h p (forest ws) c)))
holder_behind e m a h p c us ws is g =
    let n : number_behind m a (inner h p (forest us) c) ≡ number_after (next_after h.kind m) (a ++ p) us = holder_number m a h p c us is in
    let k : number_behind m a (inner h p (forest ws) c) ≡ number_after (next_after h.kind m) (a ++ p) ws = holder_number m a h p c ws is in
    let x = holder_width a h p c us in
    let y = holder_width a h p c ws in
    let number = g.number in
    let new_number = g.new_number in
    let at = g.place in
    let new_at = g.new_place in
    record {
      first = g.first;
      own = g.own;
      number = omega (arith, number, n);
      new_number = omega (arith, new_number, n, k);
      place = omega (arith, at, x);
      new_place = omega (arith, new_at, x, y);
    }

id_below : (v : Bool) (m n : ℕ) → 1 ≤ n → cond v (m + 1) m ≤ n → cond v m 0 < n
id_below true m n h k = omega (arith, k)
id_below false m n h k = omega (arith, h)

holder_kids : (here g : Bool) (is ts us vs : Trees) → here ≡ false → g ≡ false → us ≡ vs → cond here is (cond g ts us) ≡ vs
holder_kids true g is ts us vs h k f = absurd (true≢false h)
holder_kids false true is ts us vs h k f = absurd (true≢false k)
holder_kids false false is ts us vs h k f = f

-- it ends later, and holds them
holder_replaced : (e : Edit) (m : ℕ) (a : List Item) (h : Head) (p c : List Item) (us ws : List ItemTree) → IsHolder h.kind → next_after h.kind m ≤ e.number
    → width (a ++ p) < e.old_end
    → IsBehind e (number_after (next_after h.kind m) (a ++ p) us) (width (items_after (a ++ p) us)) (number_after (next_after h.kind m) (a ++ p) ws) (width (items_after (a ++ p) ws))
    → all_with_inside e (kids m a h p (forest us)) ≡ kids m a h p (forest ws)
    → with_inside e (standing m a (inner h p (forest us) c)) ≡ standing m a (inner h p (forest ws) c)
unfolding label_at
holder_replaced e m a h p c us ws is n q g f =
    let own : List Item = p ++ (held_by_all (forest us) ++ c) in
    let mine : List Item = p ++ (held_by_all (forest ws) ++ c) in
    let l : Label = holder_label m a h p own c in
    let id : ℕ = number_of h.kind m in
    let first = g.first in
    let last = g.own in
    let below : id < e.number = id_below (is_numbered h.kind) m e.number first n in
    let x = holder_width a h p c us in
    let y = holder_width a h p c ws in
    let ax = width_append a own in
    let ay = width_append a mine in
    let ap_ = width_append a p in
    let at = g.place in
    let new_at = g.new_place in
    ap (with_inside e) (standing_inner m a h p (forest us) c is.leaf is.group)
    ∙ ap₂ tree
    (ap₂ (λ (i : ℕ) (r : Option Ranges). record l { id = i; ranges = r })
    (ap (λ (w : Bool). cond w (e.new_last + (id - e.old_last)) id) (test_no_less e.old_last id (omega (arith, below, last))))
    (ap₂ (λ (x y : ℕ). range_like l.ranges x y)
    (moved_before e (width a) (omega (arith, q, ap_)))
    (moved_behind e (width a + width own) (width a + width mine) (omega (arith, at, x, ax)) (omega (arith, new_at, x, y, ax, ay)))))
    (holder_kids (id == e.number) (is_group h.kind) e.inside (kids m a h p (forest us)) (all_with_inside e (kids m a h p (forest us))) (kids m a h p (forest ws))
    (test_below id e.number below) is.group f)
    ∙ sym (standing_inner m a h p (forest ws) c is.leaf is.group)

-- ---- the block

same_numbers : (m n : ℕ) → n ≡ m → (m == n) ≡ true
same_numbers m n e = grind (arith, nat_tests, e)

text_replaced : (e : Edit) (old new : List ℕ) (m : ℕ) (a : List Item) → FitsAt e a_paragraph old new m a → IsBlock a_paragraph old → IsBlock a_paragraph new
    → with_inside e (standing m a (block_tree a_paragraph old)) ≡ standing m a (block_tree a_paragraph new)
unfolding label_at
text_replaced e old new m a f h k =
    let l : Label = label (standing m a (block_tree a_paragraph old)) in
    let was = block_width a_paragraph old h in
    let now = block_width a_paragraph new k in
    let some = filled a_paragraph old h in
    let number = f.number in
    let last = f.old_last in
    let from = f.old_end in
    let to = f.new_end in
    ap₂ tree
    (ap₂ (λ (i : ℕ) (r : Option Ranges). record l { id = i; ranges = r })
    (ap (λ (w : Bool). cond w (e.new_last + (m - e.old_last)) m) (test_no_less e.old_last m (omega (arith, last))))
    (ap₂ (λ (x y : ℕ). range_like l.ranges x y)
    (moved_before e (width a) (omega (arith, from, some)))
    (moved_behind e (width a + width (tree_items (block_tree a_paragraph old))) (width a + width (tree_items (block_tree a_paragraph new)))
    (omega (arith, from, was)) (omega (arith, from, to, was, now)))))
    (is_number (m == e.number) e.inside (all_with_inside e (children (standing m a (block_tree a_paragraph old)))) (same_numbers m e.number number) ∙ f.inside)

heading_replaced : (e : Edit) (s : Sides) (old new : List ℕ) (m : ℕ) (a : List Item) → FitsAt e (a_heading s) old new m a → IsBlock (a_heading s) old
    → IsBlock (a_heading s) new → with_inside e (standing m a (block_tree (a_heading s) old)) ≡ standing m a (block_tree (a_heading s) new)
unfolding label_at
heading_replaced e s old new m a f h k =
    let l : Label = label (standing m a (block_tree (a_heading s) old)) in
    let was = block_width (a_heading s) old h in
    let now = block_width (a_heading s) new k in
    let some = filled (a_heading s) old h in
    let number = f.number in
    let last = f.old_last in
    let from = f.old_end in
    let to = f.new_end in
    ap₂ tree
    (ap₂ (λ (i : ℕ) (r : Option Ranges). record l { id = i; ranges = r })
    (ap (λ (w : Bool). cond w (e.new_last + (m - e.old_last)) m) (test_no_less e.old_last m (omega (arith, last))))
    (ap₂ (λ (x y : ℕ). range_like l.ranges x y)
    (moved_before e (width a) (omega (arith, from, some)))
    (moved_behind e (width a + width (tree_items (block_tree (a_heading s) old))) (width a + width (tree_items (block_tree (a_heading s) new)))
    (omega (arith, from, was)) (omega (arith, from, to, was, now)))))
    (is_number (m == e.number) e.inside (all_with_inside e (children (standing m a (block_tree (a_heading s) old)))) (same_numbers m e.number number) ∙ f.inside)

block_replaced : (e : Edit) (k : TextBlock) (old new : List ℕ) (m : ℕ) (a : List Item) → FitsAt e k old new m a → IsBlock k old → IsBlock k new
    → with_inside e (standing m a (block_tree k old)) ≡ standing m a (block_tree k new)
block_replaced e a_paragraph old new m a f h k = text_replaced e old new m a f h k
block_replaced e (a_heading s) old new m a f h k = heading_replaced e s old new m a f h k

one_behind : (e : Edit) (k : TextBlock) (old new : List ℕ) (m : ℕ) (a : List Item) (y z : ItemTree) → FitsAt e k old new m a → IsBlock k old → IsBlock k new
    → y ≡ block_tree k old → z ≡ block_tree k new → 1 ≤ m
    → IsBehind e (number_behind m a y) (width (items_behind a y)) (number_behind m a z) (width (items_behind a z))
one_behind e k old new m a y z f h g is so first =
    let oc = ap (λ t. count (placed a t)) is ∙ block_count a k old in
    let nc = ap (λ t. count (placed a t)) so ∙ block_count a k new in
    let ow = ap (λ t. width (tree_items t)) is ∙ block_width k old h in
    let nw = ap (λ t. width (tree_items t)) so ∙ block_width k new g in
    let x = width_append a (tree_items y) in
    let u = width_append a (tree_items z) in
    let number = f.number in
    let old_last = f.old_last in
    let new_last = f.new_last in
    let from = f.old_end in
    let to = f.new_end in
    record {
      first = omega (arith, number, first);
      own = omega (arith, number, old_last);
      number = omega (arith, old_last, oc);
      new_number = omega (arith, old_last, new_last, oc, nc);
      place = omega (arith, from, x, ow);
      new_place = omega (arith, from, to, x, u, ow, nw);
    }

-- ---- it is behind what comes before it

abbrev pub IsAhead : Edit → ℕ → List Item → Type 0
IsAhead e m a = (m ≤ e.number) × (width a < e.old_end) × (e.number ≤ e.old_last)

pub ahead : (e : Edit) (k : TextBlock) (old new : List ℕ) (t : ℕ → ItemTree) (i n : ℕ) (b : List Item) (us : List ItemTree) (fs : Frames) → IsBlock k old
    → EditIn (FitsAt e k old new) t i n b us fs → IsAhead e (number_after n b us) (items_after b us)
ahead e k old new t i n b us no_frames h d = absurd d
ahead e k old new t i n b us (more_frames (whole u) fs) h d =
    let r = ahead e k old new t i n b (us ++ u ∷ []) fs h d in
    let m : ℕ = number_after n b us in
    let a : List Item = items_after b us in
    let x : number_after n b (us ++ u ∷ []) ≡ m + count (placed a u) = number_join n b us (u ∷ []) in
    let y : width (items_after b (us ++ u ∷ [])) ≡ width a + width (tree_items u) = ap width (items_join b us (u ∷ [])) ∙ width_append a (tree_items u) in
    let p = r.0 in
    let q = r.1 in
    (omega (arith, p, x), omega (arith, q, y), r.2)
ahead e k old new t i n b us (more_frames (place j) fs) h (inl d) =
    let f : FitsAt e k old new (number_after n b us) (items_after b us) = d.1 in
    let number = f.number in
    let last = f.old_last in
    let from = f.old_end in
    let some = filled k old h in
    (omega (arith, number), omega (arith, from, some), omega (arith, number, last))
ahead e k old new t i n b us (more_frames (place j) fs) h (inr d) =
    let m : ℕ = number_after n b us in
    let a : List Item = items_after b us in
    let r = ahead e k old new t i (number_behind m a (t j)) (items_behind a (t j)) [] fs h d.1 in
    let y = width_append a (tree_items (t j)) in
    let p = r.0 in
    let q = r.1 in
    (omega (arith, p), omega (arith, q, y), r.2)
ahead e k old new t i n b us (more_frames (around j p gs c) fs) h (inl d) =
    let m : ℕ = number_after n b us in
    let a : List Item = items_after b us in
    let r = ahead e k old new t i (next_after j.kind m) (a ++ p) [] gs h d.0 in
    let y = width_append a p in
    let grows : m ≤ next_after j.kind m = next_grows (is_numbered j.kind) m in
    let s = r.0 in
    let q = r.1 in
    (omega (arith, s, grows), omega (arith, q, y), r.2)
ahead e k old new t i n b us (more_frames (around j p gs c) fs) h (inr d) =
    let m : ℕ = number_after n b us in
    let a : List Item = items_after b us in
    let u : ItemTree = tree_at t (around j p gs c) in
    let r = ahead e k old new t i (number_behind m a u) (items_behind a u) [] fs h d.1 in
    let y = width_append a (tree_items u) in
    let s = r.0 in
    let q = r.1 in
    (omega (arith, s), omega (arith, q, y), r.2)

-- ---- and all behind it moves

-- behind these trees
abbrev pub MovesBehind : Edit → ℕ → List Item → List ItemTree → List ItemTree → Type 0
MovesBehind e n b ys zs = IsBehind e (number_after n b ys) (width (items_after b ys)) (number_after n b zs) (width (items_after b zs))

past_front : (e : Edit) (n : ℕ) (b : List Item) (us ys zs : List ItemTree) → MovesBehind e (number_after n b us) (items_after b us) ys zs
    → MovesBehind e n b (us ++ ys) (us ++ zs)
past_front e n b [] ys zs h = h
past_front e n b (u ∷ us) ys zs h = past_front e (number_behind n b u) (items_behind b u) us ys zs h

past_same : (e : Edit) (n : ℕ) (b : List Item) (y z : ItemTree) (ys zs : List ItemTree) → ys ≡ zs
    → IsBehind e (number_behind n b y) (width (items_behind b y)) (number_behind n b z) (width (items_behind b z)) → MovesBehind e n b (y ∷ ys) (z ∷ zs)
past_same e n b y z ys zs s h =
    subst (λ vs. MovesBehind e n b (y ∷ ys) (z ∷ vs)) s (behind_trees e (number_behind n b y) (number_behind n b z) (items_behind b y) (items_behind b z) ys h)

past_kept : (e : Edit) (n : ℕ) (b : List Item) (y z : ItemTree) (ys zs : List ItemTree) → y ≡ z → MovesBehind e (number_behind n b y) (items_behind b y) ys zs
    → MovesBehind e n b (y ∷ ys) (z ∷ zs)
past_kept e n b y z ys zs s h = subst (λ v. MovesBehind e n b (y ∷ ys) (v ∷ zs)) s h

pub moves : (e : Edit) (t w : ℕ → ItemTree) (i : ℕ) (k : TextBlock) (old new : List ℕ) → AreReplaced t w i k old new → (n : ℕ) (b : List Item) (us : List ItemTree) (fs : Frames)
    → 1 ≤ n → AllBorders t fs → EditIn (FitsAt e k old new) t i n b us fs → MovesBehind e n b (us ++ trees_at t fs) (us ++ trees_at w fs)
moves e t w i k old new r n b us no_frames first g d = absurd d
moves e t w i k old new r n b us (more_frames (whole u) fs) first g d =
    subst (λ ys. MovesBehind e n b ys (us ++ u ∷ trees_at w fs)) (append_assoc us (u ∷ []) (trees_at t fs))
    (subst (λ zs. MovesBehind e n b ((us ++ u ∷ []) ++ trees_at t fs) zs) (append_assoc us (u ∷ []) (trees_at w fs))
    (moves e t w i k old new r n b (us ++ u ∷ []) fs first g d))
moves e t w i k old new r n b us (more_frames (place j) fs) first g (inl d) =
    let m : ℕ = number_after n b us in
    let a : List Item = items_after b us in
    let grows : n ≤ m = number_grows n b us in
    past_front e n b us (t j ∷ trees_at t fs) (w j ∷ trees_at w fs)
    (past_same e m a (t j) (w j) (trees_at t fs) (trees_at w fs) (same_trees t w i r.others fs d.2)
    (one_behind e k old new m a (t j) (w j) d.1 r.old_block r.new_block (ap t d.0 ∙ r.was) (ap w d.0 ∙ r.now) (omega (arith, first, grows))))
moves e t w i k old new r n b us (more_frames (place j) fs) first g (inr d) =
    let m : ℕ = number_after n b us in
    let a : List Item = items_after b us in
    let grows : n ≤ m = number_grows n b us in
    past_front e n b us (t j ∷ trees_at t fs) (w j ∷ trees_at w fs)
    (past_kept e m a (t j) (w j) (trees_at t fs) (trees_at w fs) (r.others j d.0)
    (moves e t w i k old new r (number_behind m a (t j)) (items_behind a (t j)) [] fs (omega (arith, first, grows)) g d.1))
moves e t w i k old new r n b us (more_frames (around h p gs c) fs) first g (inl d) =
    let m : ℕ = number_after n b us in
    let a : List Item = items_after b us in
    let grows : n ≤ m = number_grows n b us in
    let next : m ≤ next_after h.kind m = next_grows (is_numbered h.kind) m in
    past_front e n b us (tree_at t (around h p gs c) ∷ trees_at t fs) (tree_at w (around h p gs c) ∷ trees_at w fs)
    (past_same e m a (tree_at t (around h p gs c)) (tree_at w (around h p gs c)) (trees_at t fs) (trees_at w fs) (same_trees t w i r.others fs d.1)
    (holder_behind e m a h p c (trees_at t gs) (trees_at w gs) g.0
    (moves e t w i k old new r (next_after h.kind m) (a ++ p) [] gs (omega (arith, first, grows, next)) g.2 d.0)))
moves e t w i k old new r n b us (more_frames (around h p gs c) fs) first g (inr d) =
    let m : ℕ = number_after n b us in
    let a : List Item = items_after b us in
    let grows : n ≤ m = number_grows n b us in
    let u : ItemTree = tree_at t (around h p gs c) in
    past_front e n b us (u ∷ trees_at t fs) (tree_at w (around h p gs c) ∷ trees_at w fs)
    (past_kept e m a u (tree_at w (around h p gs c)) (trees_at t fs) (trees_at w fs) (ap (λ vs. inner h p (forest vs) c) (same_trees t w i r.others gs d.0))
    (moves e t w i k old new r (number_behind m a u) (items_behind a u) [] fs (omega (arith, first, grows)) g.3 d.1))

-- ---- the nodes

inside_beside : (e : Edit) (xs : Trees) (p : Tree) (ds : Trees)
    → all_with_inside e (beside xs (more p ds)) ≡ beside (all_with_inside e xs) (more (with_inside e p) (all_with_inside e ds))
inside_beside e none p ds = refl
inside_beside e (more x xs) p ds = ap (more (with_inside e x)) (inside_beside e xs p ds)

abbrev Borders : Texts → ItemTree → Type 0
Borders x u = (m : ℕ) (a : List Item) → AtBorder x (standing m a u)

step : (e : Edit) (v : Bool) (x : Texts) (n : ℕ) (b : List Item) (us : List ItemTree) (y z : ItemTree) (ys zs : List ItemTree) → 1 ≤ n
    → IsAhead e (number_after n b us) (items_after b us) → Borders x y → Borders x z
    → with_inside e (standing (number_after n b us) (items_after b us) y) ≡ standing (number_after n b us) (items_after b us) z
    → all_with_inside e (cut_at false x (blocks_of (number_behind (number_after n b us) (items_after b us) y) (items_behind (items_after b us) y) ys))
    ≡ cut_at false x (blocks_of (number_behind (number_after n b us) (items_after b us) z) (items_behind (items_after b us) z) zs)
    → all_with_inside e (cut_at v x (blocks_of n b (us ++ y ∷ ys))) ≡ cut_at v x (blocks_of n b (us ++ z ∷ zs))
step e v x n b us y z ys zs first h by bz node rest =
    let m : ℕ = number_after n b us in
    let a : List Item = items_after b us in
    let fs : Trees = fore_at v x (blocks_of n b us) in
    let old : Trees = cut_at false x (blocks_of (number_behind m a y) (items_behind a y) ys) in
    let new : Trees = cut_at false x (blocks_of (number_behind m a z) (items_behind a z) zs) in
    let grows : n ≤ m = number_grows n b us in
    let p = h.0 in
    ap (all_with_inside e) (one_round v x n b us y ys old by refl)
    ∙ inside_beside e fs (standing m a y) old
    ∙ ap (λ ts. beside ts (more (with_inside e (standing m a y)) (all_with_inside e old))) (fore_stays e v x n b us (omega (arith, first, grows, p)) h.2 h.0 h.1)
    ∙ ap₂ (λ (t : Tree) (ts : Trees). beside fs (more t ts)) node rest
    ∙ sym (one_round v x n b us z zs new bz refl)

kept_node : (e : Edit) (m : ℕ) (a : List Item) (y z : ItemTree) → 1 ≤ m → IsAhead e (number_behind m a y) (items_behind a y) → y ≡ z
    → with_inside e (standing m a y) ≡ standing m a z
kept_node e m a y z first h s =
    let x = width_append a (tree_items y) in
    let p = h.0 in
    let q = h.1 in
    standing_stays e m a y (omega (arith, first, p)) h.2 h.0 (omega (arith, q, x)) ∙ ap (standing m a) s

pub frames_replaced : (e : Edit) (t w : ℕ → ItemTree) (i : ℕ) (k : TextBlock) (old new : List ℕ) → AreReplaced t w i k old new
    → (v : Bool) (x : Texts) (n : ℕ) (b : List Item) (us : List ItemTree) (fs : Frames) → 1 ≤ n → AllBorders t fs → AllBorders w fs → AtBorders x t fs → AtBorders x w fs
    → EditIn (FitsAt e k old new) t i n b us fs → all_with_inside e (cut_at v x (blocks_of n b (us ++ trees_at t fs))) ≡ cut_at v x (blocks_of n b (us ++ trees_at w fs))
frames_replaced e t w i k old new r v x n b us no_frames first g f c q d = absurd d
frames_replaced e t w i k old new r v x n b us (more_frames (whole u) fs) first g f c q d =
    ap (λ ts. all_with_inside e (cut_at v x (blocks_of n b ts))) (sym (append_assoc us (u ∷ []) (trees_at t fs)))
    ∙ frames_replaced e t w i k old new r v x n b (us ++ u ∷ []) fs first g f c q d
    ∙ ap (λ ts. cut_at v x (blocks_of n b ts)) (append_assoc us (u ∷ []) (trees_at w fs))
frames_replaced e t w i k old new r v x n b us (more_frames (place j) fs) first g f c q (inl d) =
    let m : ℕ = number_after n b us in
    let a : List Item = items_after b us in
    let grows : n ≤ m = number_grows n b us in
    let is : t j ≡ block_tree k old = ap t d.0 ∙ r.was in
    let so : w j ≡ block_tree k new = ap w d.0 ∙ r.now in
    step e v x n b us (t j) (w j) (trees_at t fs) (trees_at w fs) first
    (ahead e k old new t i n b us (more_frames (place j) fs) r.old_block (inl d)) c.0 q.0
    (ap (λ y. with_inside e (standing m a y)) is ∙ block_replaced e k old new m a d.1 r.old_block r.new_block ∙ ap (standing m a) (sym so))
    (cut_moved e false x (number_behind m a (t j)) (number_behind m a (w j)) (items_behind a (t j)) (items_behind a (w j)) (trees_at t fs)
    (one_behind e k old new m a (t j) (w j) d.1 r.old_block r.new_block is so (omega (arith, first, grows)))
    ∙ ap (λ ts. cut_at false x (blocks_of (number_behind m a (w j)) (items_behind a (w j)) ts)) (same_trees t w i r.others fs d.2))
frames_replaced e t w i k old new r v x n b us (more_frames (place j) fs) first g f c q (inr d) =
    let m : ℕ = number_after n b us in
    let a : List Item = items_after b us in
    let grows : n ≤ m = number_grows n b us in
    let s : t j ≡ w j = r.others j d.0 in
    let n2 : ℕ = number_behind m a (t j) in
    let a2 : List Item = items_behind a (t j) in
    step e v x n b us (t j) (w j) (trees_at t fs) (trees_at w fs) first
    (ahead e k old new t i n b us (more_frames (place j) fs) r.old_block (inr d)) c.0 q.0
    (kept_node e m a (t j) (w j) (omega (arith, first, grows)) (ahead e k old new t i n2 a2 [] fs r.old_block d.1) s)
    (frames_replaced e t w i k old new r false x n2 a2 [] fs (omega (arith, first, grows)) g f c.1 q.1 d.1
    ∙ ap (λ y. cut_at false x (blocks_of (number_behind m a y) (items_behind a y) (trees_at w fs))) s)
frames_replaced e t w i k old new r v x n b us (more_frames (around h p gs l) fs) first g f c q (inl d) =
    let m : ℕ = number_after n b us in
    let a : List Item = items_after b us in
    let grows : n ≤ m = number_grows n b us in
    let next : m ≤ next_after h.kind m = next_grows (is_numbered h.kind) m in
    let X : Texts = texts_of_kind h.kind in
    let m3 : ℕ = next_after h.kind m in
    let low : 1 ≤ m3 = omega (arith, first, grows, next) in
    let y : ItemTree = tree_at t (around h p gs l) in
    let z : ItemTree = tree_at w (around h p gs l) in
    let before = ahead e k old new t i m3 (a ++ p) [] gs r.old_block d.0 in
    let after = moves e t w i k old new r m3 (a ++ p) [] gs low g.2 d.0 in
    step e v x n b us y z (trees_at t fs) (trees_at w fs) first (ahead e k old new t i n b us (more_frames (around h p gs l) fs) r.old_block (inl d)) c.0 q.0
    (holder_replaced e m a h p l (trees_at t gs) (trees_at w gs) g.0 before.0 before.1 after
    (frames_replaced e t w i k old new r true X m3 (a ++ p) [] gs low g.2 f.2 g.1 f.1 d.0))
    (cut_moved e false x (number_behind m a y) (number_behind m a z) (items_behind a y) (items_behind a z) (trees_at t fs)
    (holder_behind e m a h p l (trees_at t gs) (trees_at w gs) g.0 after)
    ∙ ap (λ ts. cut_at false x (blocks_of (number_behind m a z) (items_behind a z) ts)) (same_trees t w i r.others fs d.1))
frames_replaced e t w i k old new r v x n b us (more_frames (around h p gs l) fs) first g f c q (inr d) =
    let m : ℕ = number_after n b us in
    let a : List Item = items_after b us in
    let grows : n ≤ m = number_grows n b us in
    let y : ItemTree = tree_at t (around h p gs l) in
    let z : ItemTree = tree_at w (around h p gs l) in
    let s : y ≡ z = ap (λ vs. inner h p (forest vs) l) (same_trees t w i r.others gs d.0) in
    let n2 : ℕ = number_behind m a y in
    let a2 : List Item = items_behind a y in
    step e v x n b us y z (trees_at t fs) (trees_at w fs) first (ahead e k old new t i n b us (more_frames (around h p gs l) fs) r.old_block (inr d)) c.0 q.0
    (kept_node e m a y z (omega (arith, first, grows)) (ahead e k old new t i n2 a2 [] fs r.old_block d.1) s)
    (frames_replaced e t w i k old new r false x n2 a2 [] fs (omega (arith, first, grows)) g.3 f.3 c.1 q.1 d.1
    ∙ ap (λ u. cut_at false x (blocks_of (number_behind m a u) (items_behind a u) (trees_at w fs))) s)

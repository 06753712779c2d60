-- The tree of a page in which the text of one paragraph or heading became another one.
use Rattle.std.proofs.Common.{arith, true≢false, ◌≡◌, ℕ, ◌+◌, ◌-◌, ◌<◌, ◌≤◌, ◌==◌, Bool, true, false, Option, Some, List, [], ◌∷◌, ◌++◌, length, refl, sym, ap, ap₂, ◌∙◌, cond, append-nil, append_assoc}
use Rattle.std.proofs.lemmas.Grind.{flat_map-append}
use Rattle.std.proofs.lemmas.List.{length-append, length-replicate}
use Rattle.std.proofs.lemmas.Bool.Decides.{nat_tests}
use Rattle.wt_tree.specs.declared.kind.Kind.TheVariants as kind
use Rattle.wt_tree.specs.declared.kind.Ranges.{Ranges}
use Rattle.wt_tree.specs.Tree.{Label, Tree, tree, Trees, more, label}
use Rattle.wt_span.specs.Items.{Item, source, sources}
use Rattle.wt_span.specs.Lexemes.{words, closed}
use Rattle.wt_inline.specs.ItemTree.{ItemTree, forest, tree_items, held_by_all}
use Rattle.wt_checks.specs.Kept.{children}
use Rattle.wt_devices.specs.Device.{Pages}
use Rattle.wt_expand.specs.PageItems.{page_items}
use Rattle.wt_expand.proofs.PageLaws.{page_sources}
use Rattle.wt_sections.specs.Sections.{gathered, with_sections}
use Rattle.wt_annotated.specs.Labels.{width, label_at}
use Rattle.wt_annotated.specs.Numbering.{count, count_all}
use Rattle.wt_annotated.specs.WithoutCalls.{placed, all_placed}
use Rattle.wt_annotated.proofs.Widths.{width_append}
use Rattle.wt_page_round_trip.specs.PageTree.{page_tree}
use Rattle.wt_inside_laws.specs.Replaced.{Edit, moved, moved_label, with_inside, all_with_inside}
use Rattle.wt_text_edit_laws.proofs.Texts.LoneTrees.{sized}
use Rattle.wt_text_edit_laws.proofs.Texts.TypedLeaves.{HasAny, leaves}
use Rattle.wt_text_edit_laws.specs.TypedHeadings.{Sides, equals, opening, closing}
use Rattle.wt_part_laws.specs.Standing.{standing}
use Rattle.wt_text_edit_laws.proofs.Prose.ProseTrees.{blocks_of, number_behind, items_behind}
use Rattle.wt_text_edit_laws.specs.ParagraphBetween.{blocks_in}
use Rattle.wt_text_edit_laws.specs.TextBlocks.{TextBlock, a_paragraph, a_heading, source_of, block_tree, IsBlock}
use Rattle.wt_text_edit_laws.specs.BlockSpots.{BlockSpot, spots_source, page_blocks, AreBlockSpots, AreBlocks}
use Rattle.wt_text_edit_laws.specs.Parts.{part_tree}
use Rattle.wt_text_edit_laws.proofs.Paragraphs.Texts.{paragraph_written}
use Rattle.wt_text_edit_laws.proofs.Blocks.BlockLines.{heading_sides}
use Rattle.wt_text_edit_laws.proofs.Blocks.BlockTrees.{as_leaves, are_typed, spots_tree}
use Rattle.wt_text_edit_laws.proofs.Blocks.Contents.{block_source}
use Rattle.wt_text_edit_laws.proofs.Blocks.KeptBlocks.{blocks_source, part_source}
use Rattle.wt_text_edit_laws.proofs.Blocks.BlocksTake.{page_is}
use Rattle.wt_inside_laws.specs.TextsReplaced.{Place, spots_with, page_with, source_before, number_at, numbered_inside, block_at, replaced_by}
use Rattle.wt_inside_laws.proofs.Shifted.{range_like, shifted, standing_shifted, placed_count}
use Rattle.wt_inside_laws.proofs.Behind.{test_no_less, test_not_up, test_up, test_below, blocks_moved}
use Rattle.wt_inside_laws.proofs.Before.{standing_stays}
use Rattle.wt_inside_laws.proofs.InSections.{zero_stays, not_number, sections_moved}

-- ---- behind blocks

abbrev number_after : ℕ → List Item → List ItemTree → ℕ
number_after n before [] = n
number_after n before (t ∷ ts) = number_after (number_behind n before t) (items_behind before t) ts

abbrev items_after : List Item → List ItemTree → List Item
items_after before [] = before
items_after before (t ∷ ts) = items_after (items_behind before t) ts

pub number_up : (n : ℕ) (before : List Item) (ts : List ItemTree) → number_after n before ts ≡ n + count_all (all_placed before (forest ts))
number_up n before [] = omega arith
number_up n before (t ∷ ts) =
    let h = number_up (number_behind n before t) (items_behind before t) ts in
    omega (arith, h)

source_after : (before : List Item) (ts : List ItemTree) → sources (items_after before ts) ≡ sources before ++ blocks_source ts
source_after before [] = sym (append-nil (sources before))
source_after before (t ∷ ts) =
    source_after (items_behind before t) ts
    ∙ ap (λ bs. bs ++ blocks_source ts) (flat_map-append source before (tree_items t))
    ∙ append_assoc (sources before) (sources (tree_items t)) (blocks_source ts)

width_after : (before : List Item) (ts : List ItemTree) → width (items_after before ts) ≡ width before + length (blocks_source ts)
width_after before ts = ap length (source_after before ts) ∙ length-append (sources before) (blocks_source ts)

pub blocks_joined : (us vs : List ItemTree) → blocks_source (us ++ vs) ≡ blocks_source us ++ blocks_source vs
blocks_joined [] vs = refl
blocks_joined (u ∷ us) vs = ap (λ bs. sources (tree_items u) ++ bs) (blocks_joined us vs) ∙ sym (append_assoc (sources (tree_items u)) (blocks_source us) (blocks_source vs))

held_blocks : (ts : List ItemTree) → sources (held_by_all (forest ts)) ≡ blocks_source ts
held_blocks [] = refl
held_blocks (t ∷ ts) = flat_map-append source (tree_items t) (held_by_all (forest ts)) ∙ ap (λ bs. sources (tree_items t) ++ bs) (held_blocks ts)

-- ---- the blocks before stay

front_stays : (e : Edit) (us ts vs : List ItemTree) (n : ℕ) (before : List Item) → 1 ≤ e.number → e.number ≤ e.old_last
    → number_after n before us ≤ e.number → width (items_after before us) < e.old_end
    → all_with_inside e (blocks_of (number_after n before us) (items_after before us) ts) ≡ blocks_of (number_after n before us) (items_after before us) vs
    → all_with_inside e (blocks_of n before (us ++ ts)) ≡ blocks_of n before (us ++ vs)
front_stays e [] ts vs n before first own number place h = h
front_stays e (u ∷ us) ts vs n before first own number place h =
    let m : ℕ = number_behind n before u in
    let after : List Item = items_behind before u in
    let up = number_up m after us in
    let w = width_after after us in
    let at = width_append before (tree_items u) in
    ap₂ more
    (standing_stays e n before u first own (omega (arith, number, up)) (omega (arith, place, w, at)))
    (front_stays e us ts vs m after first own number place h)

-- ---- the paragraph

none_any : HasAny (leaves (page_items [])) → ⊥
unfolding page_items words closed
none_any h = h

pub filled : (k : TextBlock) (q : List ℕ) → IsBlock k q → 1 ≤ length (source_of k q)
filled a_paragraph [] h = absurd (none_any (paragraph_written [] h).2)
filled a_paragraph (b ∷ bs) h = omega arith
filled (a_heading s) q h =
    let some = (heading_sides s q h).some in
    let a = length-append (opening s) (q ++ closing s) in
    let b = length-append (equals s.level) s.lead in
    let c = length-replicate {A = ℕ} s.level 61 in
    omega (arith, some, a, b, c)

-- ---- the parts of the page

split : (ss rs : List BlockSpot) (s : BlockSpot) (behind : List ℕ)
    → page_blocks (ss ++ s ∷ rs) behind ≡ page_blocks ss s.before ++ block_tree s.block s.text ∷ page_blocks rs behind
split [] rs s behind = refl
split (t ∷ ss) rs s behind =
    let own : List ItemTree = blocks_in (page_items t.before) in
    let p : ItemTree = block_tree t.block t.text in
    ap (λ ts. own ++ p ∷ ts) (split ss rs s behind)
    ∙ sym (append_assoc own (p ∷ page_blocks ss s.before) (block_tree s.block s.text ∷ page_blocks rs behind))

front_source : (ss : List BlockSpot) (before : List ℕ) → AreBlocks ss → blocks_source (page_blocks ss before) ≡ spots_source ss before
front_source [] before h = part_source before
front_source (s ∷ ss) before h =
    let own : List ItemTree = blocks_in (page_items s.before) in
    let p : ItemTree = block_tree s.block s.text in
    blocks_joined own (p ∷ page_blocks ss before)
    ∙ ap₂ (λ xs ys. xs ++ ys) (part_source s.before) (ap₂ (λ xs ys. xs ++ ys) (block_source s.block s.text) (front_source ss before h.1))

pub typed_front : (ss rs : List BlockSpot) → AreBlocks (ss ++ rs) → AreBlocks ss
typed_front [] rs h = tt
typed_front (s ∷ ss) rs h = (h.0, typed_front ss rs h.1)

pub typed_rest : (ss rs : List BlockSpot) → AreBlocks (ss ++ rs) → AreBlocks rs
typed_rest [] rs h = h
typed_rest (s ∷ ss) rs h = typed_rest ss rs h.1

-- ---- the paragraph, anywhere

pub anywhere : (n m : ℕ) (before after : List Item) (t : ItemTree) → n ≡ m → width before ≡ width after → standing n before t ≡ standing m after t
anywhere n m before after t e w =
    standing_shifted n before t
    ∙ ap₂ (λ (k at : ℕ). shifted k at (standing 0 [] t)) e w
    ∙ sym (standing_shifted m after t)

pub block_count : (after : List Item) (k : TextBlock) (q : List ℕ) → count (placed after (block_tree k q)) ≡ 1 + numbered_inside k q
unfolding label_at
block_count after a_paragraph q = placed_count after [] (block_tree a_paragraph q)
block_count after (a_heading s) q = placed_count after [] (block_tree (a_heading s) q)

pub block_width : (k : TextBlock) (q : List ℕ) → IsBlock k q → width (tree_items (block_tree k q)) ≡ length (source_of k q)
block_width k q h = ap length (block_source k q)

pub same_number : (n : ℕ) → (n == n) ≡ true
same_number n = grind (arith, nat_tests)

pub is_number : (here : Bool) (is ts : Trees) → here ≡ true → cond here is ts ≡ is
is_number true is ts h = refl
is_number false is ts h = absurd (true≢false (sym h))

pub moved_before : (e : Edit) (at : ℕ) → at < e.old_end → moved e at ≡ at
moved_before e at h = ap (λ (v : Bool). cond v (e.new_end + (at - e.old_end)) at) (test_not_up e.old_end at h)

pub moved_behind : (e : Edit) (at to : ℕ) → e.old_end ≤ at → to + e.old_end ≡ e.new_end + at → moved e at ≡ to
moved_behind e at to h k =
    ap (λ (v : Bool). cond v (e.new_end + (at - e.old_end)) at) (test_up e.old_end at h) ∙ omega (arith, h, k)

-- with its new inside
paragraph_so : (p : Place) (old new : List ℕ) → IsBlock a_paragraph old → IsBlock a_paragraph new
    → with_inside (replaced_by p a_paragraph old new) (block_at p a_paragraph old) ≡ block_at p a_paragraph new
unfolding label_at
paragraph_so p old new h k =
    let e : Edit = replaced_by p a_paragraph old new in
    let n : ℕ = number_at p in
    let front : List Item = page_items (source_before p) in
    let l : Label = label (block_at p a_paragraph old) in
    let at : width front ≡ length (source_before p) = ap length (page_sources (source_before p)) in
    let was = block_width a_paragraph old h in
    let now = block_width a_paragraph new k in
    let some = filled a_paragraph old h in
    let from : width front + width (tree_items (block_tree a_paragraph old)) ≡ e.old_end = omega (arith, at, was) in
    let to : width front + width (tree_items (block_tree a_paragraph new)) ≡ e.new_end = omega (arith, at, now) in
    ap₂ tree
    (ap₂ (λ (i : ℕ) (r : Option Ranges). record l { id = i; ranges = r })
    (ap (λ (w : Bool). cond w (e.new_last + (n - e.old_last)) n) (test_no_less e.old_last n (omega arith)))
    (ap₂ (λ (x y : ℕ). range_like l.ranges x y)
    (moved_before e (width front) (omega (arith, at, some)))
    (moved_behind e (width front + width (tree_items (block_tree a_paragraph old))) (width front + width (tree_items (block_tree a_paragraph new)))
    (omega (arith, from)) (omega (arith, from, to)))))
    (is_number (n == n) e.inside (all_with_inside e (children (block_at p a_paragraph old))) (same_number n))

heading_so : (p : Place) (s : Sides) (old new : List ℕ) → IsBlock (a_heading s) old → IsBlock (a_heading s) new
    → with_inside (replaced_by p (a_heading s) old new) (block_at p (a_heading s) old) ≡ block_at p (a_heading s) new
unfolding label_at
heading_so p s old new h k =
    let e : Edit = replaced_by p (a_heading s) old new in
    let n : ℕ = number_at p in
    let front : List Item = page_items (source_before p) in
    let l : Label = label (block_at p (a_heading s) old) in
    let at : width front ≡ length (source_before p) = ap length (page_sources (source_before p)) in
    let was = block_width (a_heading s) old h in
    let now = block_width (a_heading s) new k in
    let some = filled (a_heading s) old h in
    let from : width front + width (tree_items (block_tree (a_heading s) old)) ≡ e.old_end = omega (arith, at, was) in
    let to : width front + width (tree_items (block_tree (a_heading s) new)) ≡ e.new_end = omega (arith, at, now) in
    ap₂ tree
    (ap₂ (λ (i : ℕ) (r : Option Ranges). record l { id = i; ranges = r })
    (ap (λ (w : Bool). cond w (e.new_last + (n - e.old_last)) n) (test_no_less e.old_last n (omega arith)))
    (ap₂ (λ (x y : ℕ). range_like l.ranges x y)
    (moved_before e (width front) (omega (arith, at, some)))
    (moved_behind e (width front + width (tree_items (block_tree (a_heading s) old))) (width front + width (tree_items (block_tree (a_heading s) new)))
    (omega (arith, from)) (omega (arith, from, to)))))
    (is_number (n == n) e.inside (all_with_inside e (children (block_at p (a_heading s) old))) (same_number n))

block_so : (p : Place) (b : TextBlock) (old new : List ℕ) → IsBlock b old → IsBlock b new
    → with_inside (replaced_by p b old new) (block_at p b old) ≡ block_at p b new
block_so p a_paragraph old new h k = paragraph_so p old new h k
block_so p (a_heading s) old new h k = heading_so p s old new h k

-- ---- the body

abbrev blocks_with : Place → List ItemTree → TextBlock → List ℕ → List ItemTree
blocks_with p vs b q = page_blocks p.spots p.before ++ block_tree b q ∷ vs

abbrev pub body_label : List ItemTree → Label
body_label ts = sized kind.Body 0 (held_by_all (forest ts) ++ []) [] []

abbrev pub body_of : List ItemTree → Tree
body_of ts = tree (body_label ts) (blocks_of 1 [] ts)

tree_so : (p : Place) (b : TextBlock) (rs : List BlockSpot) (behind q : List ℕ) → AreBlockSpots (spots_with p b q rs) behind
    → part_tree (page_with p b q rs behind) ≡ body_of (blocks_with p (page_blocks rs behind) b q)
tree_so p b rs behind q h =
    let ss : List BlockSpot = spots_with p b q rs in
    spots_tree ss behind h
    ∙ ap body_of (sym (as_leaves ss behind (are_typed ss behind h)) ∙ split p.spots rs (record { before = p.before; block = b; text = q }) behind)

pub body_width : (ts : List ItemTree) → width (held_by_all (forest ts) ++ []) ≡ length (blocks_source ts)
body_width ts = ap width (append-nil (held_by_all (forest ts))) ∙ ap length (held_blocks ts)

front_width : (p : Place) → AreBlocks p.spots → length (blocks_source (page_blocks p.spots p.before)) ≡ length (source_before p)
front_width p h = ap length (front_source p.spots p.before h)

whole_width : (p : Place) (vs : List ItemTree) (b : TextBlock) (q : List ℕ) → AreBlocks p.spots → IsBlock b q
    → width (held_by_all (forest (blocks_with p vs b q)) ++ []) ≡ length (source_before p) + (length (source_of b q) + length (blocks_source vs))
whole_width p vs b q h k =
    let us : List ItemTree = page_blocks p.spots p.before in
    let t : ItemTree = block_tree b q in
    let a = body_width (blocks_with p vs b q) in
    let j = ap length (blocks_joined us (t ∷ vs)) in
    let c = length-append (blocks_source us) (blocks_source (t ∷ vs)) in
    let d = length-append (sources (tree_items t)) (blocks_source vs) in
    let f = front_width p h in
    let w = block_width b q k in
    omega (arith, a, j, c, d, f, w)

blocks_so : (p : Place) (vs : List ItemTree) (b : TextBlock) (old new : List ℕ) → AreBlocks p.spots → IsBlock b old → IsBlock b new
    → all_with_inside (replaced_by p b old new) (blocks_of 1 [] (blocks_with p vs b old)) ≡ blocks_of 1 [] (blocks_with p vs b new)
blocks_so p vs b old new f h k =
    let e : Edit = replaced_by p b old new in
    let us : List ItemTree = page_blocks p.spots p.before in
    let was : ItemTree = block_tree b old in
    let now : ItemTree = block_tree b new in
    let n : ℕ = number_after 1 [] us in
    let after : List Item = items_after [] us in
    let front : List Item = page_items (source_before p) in
    let up : n ≡ number_at p = number_up 1 [] us in
    let some = filled b old h in
    let behind = width_after [] us in
    let size = front_width p f in
    let at : width after ≡ length (source_before p) = omega (arith, behind, size) in
    let same : width after ≡ width front = at ∙ sym (ap length (page_sources (source_before p))) in
    let old_count = block_count after b old in
    let new_count = block_count after b new in
    let old_width = block_width b old h in
    let new_width = block_width b new k in
    let w = width_append after (tree_items was) in
    let u = width_append after (tree_items now) in
    front_stays e us (was ∷ vs) (now ∷ vs) 1 [] (omega arith) (omega arith) (omega (arith, up)) (omega (arith, at, some))
    (ap₂ more
    (ap (with_inside e) (anywhere n (number_at p) after front was up same)
    ∙ block_so p b old new h k ∙ sym (anywhere n (number_at p) after front now up same))
    (blocks_moved e vs (number_behind n after was) (number_behind n after now) (items_behind after was) (items_behind after now)
    (record {
      first = omega arith;
      own = omega arith;
      number = omega (arith, up, old_count);
      new_number = omega (arith, up, old_count, new_count);
      place = omega (arith, at, w, old_width);
      new_place = omega (arith, at, w, u, old_width, new_width);
    })))

label_so : (p : Place) (vs : List ItemTree) (b : TextBlock) (old new : List ℕ) → AreBlocks p.spots → IsBlock b old → IsBlock b new
    → moved_label (replaced_by p b old new) (body_label (blocks_with p vs b old)) ≡ body_label (blocks_with p vs b new)
label_so p vs b old new f h k =
    let e : Edit = replaced_by p b old new in
    let l : Label = body_label (blocks_with p vs b old) in
    let some = filled b old h in
    let was = whole_width p vs b old f h in
    let now = whole_width p vs b new f k in
    ap₂ (λ (i : ℕ) (r : Option Ranges). record l { id = i; ranges = r }) (zero_stays e)
    (ap₂ (λ (x y : ℕ). Some (record { start = x; end = y; open_w = 0; close_w = 0 }))
    (moved_before e 0 (omega (arith, some)))
    (moved_behind e (0 + width (held_by_all (forest (blocks_with p vs b old)) ++ [])) (0 + width (held_by_all (forest (blocks_with p vs b new)) ++ []))
    (omega (arith, was)) (omega (arith, was, now))))

-- of a body, whatever is in it: it has no number
opened : (p : Place) (b : TextBlock) (old new : List ℕ) (ts : List ItemTree) (us : Trees)
    → with_inside (replaced_by p b old new) (tree (body_label ts) us) ≡ tree (moved_label (replaced_by p b old new) (body_label ts)) (all_with_inside (replaced_by p b old new) us)
opened p b old new ts us =
    let e : Edit = replaced_by p b old new in
    ap (tree (moved_label e (body_label ts))) (not_number (0 == e.number) e.inside (all_with_inside e us) (test_below 0 e.number (omega arith)))

body_so : (p : Place) (vs : List ItemTree) (b : TextBlock) (old new : List ℕ) → AreBlocks p.spots → IsBlock b old → IsBlock b new
    → with_inside (replaced_by p b old new) (body_of (blocks_with p vs b old)) ≡ body_of (blocks_with p vs b new)
body_so p vs b old new f h k =
    opened p b old new (blocks_with p vs b old) (blocks_of 1 [] (blocks_with p vs b old))
    ∙ ap₂ tree (label_so p vs b old new f h k) (blocks_so p vs b old new f h k)

-- ---- the page

pub tree_replaced : (pages : Pages) (p : Place) (b : TextBlock) (old new : List ℕ) (rs : List BlockSpot) (behind : List ℕ)
    → AreBlockSpots (spots_with p b old rs) behind → AreBlockSpots (spots_with p b new rs) behind
    → page_tree pages (page_with p b new rs behind) ≡ with_inside (replaced_by p b old new) (page_tree pages (page_with p b old rs behind))
tree_replaced pages p b old new rs behind h again =
    let e : Edit = replaced_by p b old new in
    let s : BlockSpot = record { before = p.before; block = b; text = old } in
    let typed : AreBlocks (spots_with p b old rs) = are_typed (spots_with p b old rs) behind h in
    let front : AreBlocks p.spots = typed_front p.spots (s ∷ rs) typed in
    let rest : AreBlocks (s ∷ rs) = typed_rest p.spots (s ∷ rs) typed in
    let now : BlockSpot = record { before = p.before; block = b; text = new } in
    let own : AreBlocks (now ∷ rs) = typed_rest p.spots (now ∷ rs) (are_typed (spots_with p b new rs) behind again) in
    let vs : List ItemTree = page_blocks rs behind in
    let ts : List ItemTree = blocks_with p vs b old in
    let us : Trees = blocks_of 1 [] ts in
    page_is pages (spots_with p b new rs) behind again
    ∙ ap with_sections (tree_so p b rs behind new again ∙ sym (body_so p vs b old new front rest.0 own.0))
    ∙ sections_moved e (body_label ts) us (opened p b old new ts us) (opened p b old new ts (gathered us)) (omega arith)
    ∙ ap (λ t. with_inside e (with_sections t)) (sym (tree_so p b rs behind old h))
    ∙ ap (with_inside e) (sym (page_is pages (spots_with p b old rs) behind h))

-- The source of each block of a page, whatever calls it holds: what is on the page for its items.
use Rattle.std.proofs.Common.{◌≡◌, ℕ, suc, None, List, [], ◌∷◌, ◌++◌, map, sym, ap, ◌∙◌, subst, append-nil}
use Rattle.wt_tree.specs.Tree.{Tree}
use Rattle.wt_span.specs.Items.{Item}
use Rattle.wt_span.specs.Origins.{OuterCall}
use Rattle.wt_lines.specs.Lines.{lines, AreLines}
use Rattle.wt_lines.proofs.LineLaws.{lines_are}
use Rattle.wt_inline.specs.declared.loose.Loose.TheVariants.{Text}
use Rattle.wt_inline.specs.Inside.{opened_all}
use Rattle.wt_inline.specs.ItemTree.{ItemTree, forest, tree_items, held_by_all}
use Rattle.wt_inline.specs.Parts.{parts, held_parts, children}
use Rattle.wt_inline.proofs.HeldLaws.{held_children, held_append, opened_append}
use Rattle.wt_context.specs.Line.{line_parts}
use Rattle.wt_context.proofs.LineHolding.{line_holds}
use Rattle.wt_expand.specs.Expansion.{page_work}
use Rattle.wt_expand.specs.PageCalls.{expanded_page}
use Rattle.wt_expand.specs.Work.{Pages, first_refusal}
use Rattle.wt_annotated.specs.CutTexts.{cut_texts}
use Rattle.wt_annotated.specs.Seams.{text_from}
use Rattle.wt_page_round_trip.proofs.HeldPages.{items_ones, tree_ones}
use Rattle.wt_page_round_trip.proofs.OpenedPages.{AreOnes, opened_text}
use Rattle.wt_part_laws.specs.Expanded.{part_items}
use Rattle.wt_part_laws.specs.Frames.{Frame, place, whole, around, Frames, no_frames, more_frames, tree_at, trees_at, places_in, all_places}
use Rattle.wt_part_laws.specs.HeldCalls.{AllHold, block_in}
use Rattle.wt_text_edit_laws.specs.BlockSpots.{BlockSpot, spots_source}
use Rattle.wt_text_edit_laws.specs.LonePages.{page_chars}
use Rattle.wt_text_edit_laws.specs.ParagraphBetween.{body_with}
use Rattle.wt_text_edit_laws.specs.ParagraphParts.{break, joined_parts}
use Rattle.wt_text_edit_laws.specs.TextBlocks.{TextBlock, a_paragraph, a_heading, source_of}
use Rattle.wt_text_edit_laws.specs.TypedHeadings.{opening, closing_items}
use Rattle.wt_text_edit_laws.proofs.Paragraphs.LineBlocks.{OwnBreaks}
use Rattle.wt_called_edit_laws.specs.CalledBlocks.{counted}
use Rattle.wt_called_edit_laws.specs.CalledContents.{items_round, tree_round, AreItemsOf}
use Rattle.wt_called_edit_laws.specs.CallingBlocks.{AreContentsInFolder, AreCallingBlocks, tree_with_calls, CallingBlocksStand}
use Rattle.wt_called_edit_laws.specs.CallingGroups.{AreCallingOutside, block_with_groups}
use Rattle.wt_called_edit_laws.specs.Parts.{calls_to, calls_past, called_items}
use Rattle.wt_called_edit_laws.specs.PartTexts.{AreBlockTexts, HaveOwnSources}
use Rattle.wt_called_edit_laws.proofs.BlockTexts.{block_flat}
use Rattle.wt_called_edit_laws.proofs.CalledUtf8.{called_utf8}
use Rattle.wt_called_edit_laws.proofs.CallingGroups.{edited_self}
use Rattle.wt_called_edit_laws.proofs.PartTexts.{block_texts}
use Rattle.wt_called_edit_laws.proofs.Parts.Retyped.{is_by_parts}

-- ---- a block's items are its content's, opened

later_own : (xs ys : List Item) → OwnBreaks (xs ++ ys) → OwnBreaks ys
later_own [] ys h = h
later_own (x ∷ xs) ys h = later_own xs ys h.1

parts_opened : (ls : List (List Item)) (xs : List Item) → AreLines ls xs → OwnBreaks xs → opened_all (held_parts (joined_parts ls)) ≡ opened_all xs
parts_opened [] xs r o = absurd r
parts_opened (l ∷ []) xs r o = ap (λ ps. opened_all (held_parts ps)) (append-nil (line_parts l)) ∙ line_holds l ∙ ap opened_all (sym r.1)
parts_opened (l ∷ m ∷ ls) xs r o =
    let own : OwnBreaks (l ++ r.1 ∷ r.2) = subst OwnBreaks r.4 o in
    let rest : OwnBreaks (r.1 ∷ r.2) = later_own l (r.1 ∷ r.2) own in
    let others : List Item = held_parts (joined_parts (m ∷ ls)) in
    ap opened_all (held_append (line_parts l) (parts Text (break ∷ []) ++ joined_parts (m ∷ ls)))
    ∙ opened_append (held_parts (line_parts l)) (break ∷ others)
    ∙ ap (λ ys. ys ++ opened_all (break ∷ others)) (line_holds l)
    ∙ ap (λ (ys : List Item). opened_all l ++ break ∷ ys) (parts_opened (m ∷ ls) r.2 r.5 rest.1)
    ∙ ap (λ x. opened_all l ++ opened_all (x ∷ r.2)) (sym (rest.0 r.3))
    ∙ sym (opened_append l (r.1 ∷ r.2))
    ∙ ap opened_all (sym r.4)

round_opened : (os xs ys cs : List Item) → opened_all xs ≡ opened_all ys → opened_all (os ++ (xs ++ cs)) ≡ opened_all (os ++ (ys ++ cs))
round_opened os xs ys cs e =
    opened_append os (xs ++ cs)
    ∙ ap (λ zs. opened_all os ++ zs) (opened_append xs cs ∙ ap (λ zs. zs ++ opened_all cs) e ∙ sym (opened_append ys cs))
    ∙ sym (opened_append os (ys ++ cs))

pub tree_opened : (k : TextBlock) (xs : List Item) → AreItemsOf k xs → opened_all (tree_items (tree_round k xs)) ≡ opened_all (items_round k xs)
tree_opened a_paragraph xs h =
    ap opened_all (append-nil (held_by_all (forest (children (joined_parts (lines xs))))) ∙ held_children (joined_parts (lines xs)))
    ∙ parts_opened (lines xs) xs (lines_are xs) h.own_breaks
tree_opened (a_heading s) xs h =
    round_opened (page_chars (opening s)) (held_by_all (forest (children (line_parts xs)))) xs (closing_items s)
    (ap opened_all (held_children (line_parts xs)) ∙ line_holds xs)

-- ---- all of them are characters and whole forms

ones_split : (xs ys : List Item) → AreOnes (xs ++ ys) → AreOnes xs × AreOnes ys
ones_split [] ys h = (tt, h)
ones_split (x ∷ xs) ys h = let r = ones_split xs ys h.1 in ((h.0, r.0), r.1)

-- those of the nodes at these places
abbrev pub OnesAt : (ℕ → ItemTree) → List ℕ → Type 0
OnesAt t [] = Unit {0}
OnesAt t (n ∷ ns) = AreOnes (tree_items (t n)) × OnesAt t ns

ones_both : (t : ℕ → ItemTree) (ms ns : List ℕ) → OnesAt t ms → OnesAt t ns → OnesAt t (ms ++ ns)
ones_both t [] ns h g = g
ones_both t (m ∷ ms) ns h g = (h.0, ones_both t ms ns h.1 g)

mutual
  frame_ones : (t : ℕ → ItemTree) (f : Frame) → AreOnes (tree_items (tree_at t f)) → OnesAt t (places_in f)
  frame_ones t (place n) h = (h, tt)
  frame_ones t (whole u) h = tt
  frame_ones t (around h o fs c) g =
      let held : List Item = held_by_all (forest (trees_at t fs)) in
      let r = ones_split o (held ++ c) g in
      let q = ones_split held c r.1 in frames_ones t fs q.0

  frames_ones : (t : ℕ → ItemTree) (fs : Frames) → AreOnes (held_by_all (forest (trees_at t fs))) → OnesAt t (all_places fs)
  frames_ones t no_frames h = tt
  frames_ones t (more_frames f fs) h =
      let r = ones_split (tree_items (tree_at t f)) (held_by_all (forest (trees_at t fs))) h in
      ones_both t (places_in f) (all_places fs) (frame_ones t f r.0) (frames_ones t fs r.1)

body_ones : (t : ℕ → ItemTree) (fs : Frames) → AreOnes (tree_items (body_with (trees_at t fs))) → OnesAt t (all_places fs)
body_ones t fs h = let r = ones_split (held_by_all (forest (trees_at t fs))) [] h in frames_ones t fs r.0

-- those of the blocks' items
abbrev pub SpotOnes : Pages → ℕ → List BlockSpot → Type 0
SpotOnes pages k [] = Unit {0}
SpotOnes pages k (s ∷ ss) = AreOnes (part_items pages (calls_to pages k s) (source_of s.block s.text)) × SpotOnes pages (calls_past pages k s) ss

spot_ones : (pages : Pages) (k : ℕ) (ss : List BlockSpot) (behind : List ℕ) → AreOnes (called_items pages k ss behind) → SpotOnes pages k ss
spot_ones pages k [] behind h = tt
spot_ones pages k (s ∷ ss) behind h =
    let own : List Item = part_items pages (calls_to pages k s) (source_of s.block s.text) in
    let rest : List Item = called_items pages (calls_past pages k s) ss behind in
    let r = ones_split (part_items pages k s.before) (own ++ rest) h in
    let q = ones_split own rest r.1 in (q.0, spot_ones pages (calls_past pages k s) ss behind q.1)

-- ---- each block has its source

text_so : (calls : List OuterCall) (k : TextBlock) (xs : List Item) → AreItemsOf k xs → AreOnes (tree_items (tree_round k xs)) → AreOnes (items_round k xs)
    → text_from calls None (tree_items (tree_round k xs)) ≡ text_from calls None (items_round k xs)
text_so calls k xs h g o =
    sym (opened_text calls None (tree_items (tree_round k xs)) g)
    ∙ ap (text_from calls None) (tree_opened k xs h)
    ∙ opened_text calls None (items_round k xs) o

pub hold_moved : (t : ℕ → ItemTree) (ns : List ℕ) → AllHold t (map suc ns) → AllHold (λ n. t (suc n)) ns
hold_moved t [] h = tt
hold_moved t (n ∷ ns) h = (h.0, hold_moved t ns h.1)

pub ones_moved : (t : ℕ → ItemTree) (ns : List ℕ) → OnesAt t (map suc ns) → OnesAt (λ n. t (suc n)) ns
ones_moved t [] h = tt
ones_moved t (n ∷ ns) h = (h.0, ones_moved t ns h.1)

-- in the page's tree, and among its items
pub ones_in_tree : (pages : Pages) (ss : List BlockSpot) (behind : List ℕ) → AreCallingBlocks pages ss behind → CallingBlocksStand pages ss behind
    → first_refusal pages (spots_source ss behind) (page_work pages (spots_source ss behind)) ≡ None → OnesAt (tree_with_calls pages 0 ss) (counted ss)
ones_in_tree pages ss behind h f e =
    let page : List ℕ = spots_source ss behind in
    let t : ℕ → ItemTree = tree_with_calls pages 0 ss in
    subst (OnesAt t) f.in_order
    (body_ones t f.frames (subst (λ u. AreOnes (tree_items u)) (f.means ss (edited_self pages ss)) (tree_ones pages page (called_utf8 pages ss behind h.called) e)))

pub ones_in_page : (pages : Pages) (ss : List BlockSpot) (behind : List ℕ) → AreCallingBlocks pages ss behind
    → first_refusal pages (spots_source ss behind) (page_work pages (spots_source ss behind)) ≡ None → SpotOnes pages 0 ss
ones_in_page pages ss behind h e =
    spot_ones pages 0 ss behind
    (subst AreOnes (is_by_parts pages ss behind h.called).items (items_ones pages (spots_source ss behind) (called_utf8 pages ss behind h.called) e))

-- with these calls of the page, where so many of them come before
abbrev pub grouped_at : List OuterCall → Pages → ℕ → List BlockSpot → ℕ → Tree
grouped_at calls pages k ss n = cut_texts (block_in calls (tree_with_calls pages k ss n))

-- what is on the page for each of them is the block
abbrev pub AreItsTexts : List OuterCall → Pages → ℕ → List BlockSpot → Type 0
AreItsTexts calls pages k [] = Unit {0}
AreItsTexts calls pages k (s ∷ ss) =
    (text_from calls None (tree_items (tree_round s.block (part_items pages (calls_to pages k s) s.text))) ≡ source_of s.block s.text)
    × AreItsTexts calls pages (calls_past pages k s) ss

spots_text : (calls : List OuterCall) (pages : Pages) (k : ℕ) (ss : List BlockSpot) → AreContentsInFolder pages ss → AreBlockTexts pages calls k ss
    → OnesAt (tree_with_calls pages k ss) (counted ss) → SpotOnes pages k ss → AreItsTexts calls pages k ss
spots_text calls pages k [] c t g o = tt
spots_text calls pages k (s ∷ ss) c t g o =
    let i : ℕ = calls_to pages k s in
    let xs : List Item = part_items pages i s.text in
    let own = c.0 in (
      text_so calls s.block xs (own.is i) g.0 (subst AreOnes (own.items i) o.0) ∙ ap (text_from calls None) (sym (own.items i)) ∙ t.0,
      spots_text calls pages (calls_past pages k s) ss c.1 t.1 (ones_moved (tree_with_calls pages k (s ∷ ss)) (counted ss) g.1) o.1,
    )

spots_have : (calls : List OuterCall) (pages : Pages) (k : ℕ) (ss : List BlockSpot) → AreItsTexts calls pages k ss
    → AllHold (tree_with_calls pages k ss) (counted ss) → HaveOwnSources (grouped_at calls pages k ss) ss
spots_have calls pages k [] t h = tt
spots_have calls pages k (s ∷ ss) t h = (
  block_flat calls (tree_round s.block (part_items pages (calls_to pages k s) s.text)) h.0 ∙ t.0,
  spots_have calls pages (calls_past pages k s) ss t.1 (hold_moved (tree_with_calls pages k (s ∷ ss)) (counted ss) h.1),
)

pub blocks_text : (pages : Pages) (ss : List BlockSpot) (behind : List ℕ) → AreCallingBlocks pages ss behind → CallingBlocksStand pages ss behind
    → first_refusal pages (spots_source ss behind) (page_work pages (spots_source ss behind)) ≡ None
    → AreItsTexts (expanded_page pages (spots_source ss behind)).outer pages 0 ss
blocks_text pages ss behind h f e =
    spots_text (expanded_page pages (spots_source ss behind)).outer pages 0 ss h.contents (block_texts pages ss behind h.called) (ones_in_tree pages ss behind h f e)
    (ones_in_page pages ss behind h e)

pub blocks_have : (pages : Pages) (ss : List BlockSpot) (behind : List ℕ) → AreCallingOutside pages ss behind
    → first_refusal pages (spots_source ss behind) (page_work pages (spots_source ss behind)) ≡ None
    → HaveOwnSources (block_with_groups pages ss behind) ss
blocks_have pages ss behind h e =
    spots_have (expanded_page pages (spots_source ss behind)).outer pages 0 ss (blocks_text pages ss behind h.blocks h.stand e) h.hold

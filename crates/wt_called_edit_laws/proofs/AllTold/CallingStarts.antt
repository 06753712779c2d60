-- A block that holds calls, told by the lines of the expanded page: its path leads to the byte at which it begins.
use Rattle.std.proofs.Common.{arith, ◌≡◌, inl, ℕ, zero, suc, ◌+◌, None, List, [], ◌∷◌, ◌++◌, length, refl, sym, ap, ◌∙◌, subst, append-nil}
use Rattle.wt_span.specs.Items.{Item}
use Rattle.wt_tree.specs.Source.{flat}
use Rattle.wt_tree.specs.Tree.{Tree, tree, Trees, none, more, label}
use Rattle.wt_inline.specs.ItemTree.{ItemTree}
use Rattle.wt_annotated.specs.Seams.{text_from}
use Rattle.wt_checks.specs.Kept.{children}
use Rattle.wt_expand.specs.PageCalls.{expanded_page}
use Rattle.wt_expand.specs.Work.{Pages}
use Rattle.wt_tables.specs.Parts.{joined}
use Rattle.wt_part_laws.specs.Frames.{content as content_part}
use Rattle.wt_part_laws.specs.TreeFrames.{all_filled, spots}
use Rattle.wt_typed_blocks.specs.Sent.{kind_of}
use Rattle.wt_text_edit_laws.specs.BlockSpots.{BlockSpot, spots_source}
use Rattle.wt_text_edit_laws.specs.TextBlocks.{TextBlock, a_paragraph, a_heading, block_of, source_of}
use Rattle.wt_called_edit_laws.specs.AllTold.{starts_in, IsOneOf}
use Rattle.wt_called_edit_laws.specs.CalledBlocks.{tree_by}
use Rattle.wt_called_edit_laws.specs.CalledTexts.{spots_tree}
use Rattle.wt_called_edit_laws.specs.CallingBlocks.{IsContentIn}
use Rattle.wt_called_edit_laws.specs.CallingEdits.{IsCallingPage}
use Rattle.wt_called_edit_laws.specs.CallingGroups.{block_with_groups, CallingNodesStay}
use Rattle.wt_called_edit_laws.specs.CallingTold.{TakesThere}
use Rattle.wt_called_edit_laws.specs.Groups.{called_tree}
use Rattle.wt_called_edit_laws.specs.LinedAmong.{spots_of_lines, end_of_lines}
use Rattle.wt_called_edit_laws.specs.LinedCalling.{IsLinedCalling}
use Rattle.wt_called_edit_laws.specs.PathsTo.{paths_to}
use Rattle.wt_called_edit_laws.specs.PlacedLines.{LinedBlock, lead_of}
use Rattle.wt_called_edit_laws.specs.RowBlocks.{IsReachedIn, StandsOnRows}
use Rattle.wt_called_edit_laws.specs.SettledAt.{IsSettledAt, SettledTo, SettledAmong, AllSettled}
use Rattle.wt_called_edit_laws.proofs.Among.BlockAt.{read_some}
use Rattle.wt_called_edit_laws.proofs.Among.CallingLines.{calling_whole, calling_editable}
use Rattle.wt_called_edit_laws.proofs.CallingGaps.{calling_gaps}
use Rattle.wt_called_edit_laws.proofs.CallingGroups.{edited_self, calling_nodes}
use Rattle.wt_called_edit_laws.proofs.CallingTaken.{contents_taken, taken_paths, blocks_settle}
use Rattle.wt_called_edit_laws.proofs.Cells.PlaceGaps.{last_gap, AreSame}
use Rattle.wt_called_edit_laws.proofs.EditableBlocks.{editable_calling}
use Rattle.wt_called_edit_laws.proofs.NodeGaps.{page_gaps, numbers_so, own_have, HaveSources}
use Rattle.wt_called_edit_laws.proofs.PathsSend.{NoneEmpty, paths_full}
use Rattle.wt_called_edit_laws.proofs.SettledEdits.{have_kinds, kind_there}
use Rattle.wt_called_edit_laws.proofs.SpotSources.{blocks_have}
use Rattle.wt_called_edit_laws.proofs.TextsUntangled.{AreThere, all_there}
use Rattle.wt_called_edit_laws.proofs.AllTold.EachBlocks.{EachBlockIn}
use Rattle.wt_called_edit_laws.proofs.AllTold.Found.{housing_of}
use Rattle.wt_called_edit_laws.proofs.AllTold.NodePlaces.{settled_size}
use Rattle.wt_called_edit_laws.proofs.AllTold.PlaceStarts.{spot_starts, starts_from, placeless_from, all_start, gaps_are, ClearIn, ClearAt, AllClear, clear_paths}
use Rattle.wt_called_edit_laws.proofs.AllTold.RowBlocks.{page_stands}
use Rattle.wt_called_edit_laws.proofs.AllTold.Starts.{HasByte, IsBlockNode, BlockAt, BlockIn, same_paths}

-- ---- where the blocks at the paths begin

pub calling_starts : (pages : Pages) (ss : List BlockSpot) (behind : List ℕ) (f : CallingNodesStay pages ss behind) → IsCallingPage pages ss behind
    → starts_from 0 (children (spots_tree pages ss behind)) (paths_to f.nodes) ≡ spot_starts 0 ss
calling_starts pages ss behind f h =
    let b : ℕ → Tree = block_with_groups pages ss behind in
    let t : ℕ → ItemTree = tree_by ss in
    let us : Trees = children (spots_tree pages ss behind) in
    let ps : List (List ℕ) = paths_to f.nodes in
    let nodes : Trees = all_filled b f.nodes in
    let numbers = numbers_so ss f.nodes f.in_order in
    let same : AreSame (page_gaps f.nodes) ss = calling_gaps pages ss behind f h in
    let has : HaveSources b t (spots f.nodes) =
    subst (HaveSources b t) (sym f.in_order) (own_have b ss (blocks_have pages ss behind h.outside h.unrefused)) in
    sym (placeless_from 0 us ps)
    ∙ ap (λ (vs : Trees). starts_from 0 vs ps) (f.stay ss (edited_self pages ss) h.outside.hold)
    ∙ sym (append-nil (starts_from 0 nodes ps))
    ∙ all_start b t 0 f.nodes (last_gap []) has f.inner_nodes
    ∙ gaps_are t 0 (page_gaps f.nodes) ss same (subst (λ (ns : List ℕ). AreThere t ns ss) (sym numbers) (all_there ss))

-- ---- they are there

text_housed : (k : TextBlock) (l : Tree) → (label l).kind ≡ kind_of (block_of k) → IsBlockNode l
text_housed a_paragraph (tree l ts) e = ap housing_of e
text_housed (a_heading s) (tree l ts) e = ap housing_of e

settled_byte : (v t : Tree) → IsSettledAt v t → HasByte v → HasByte t
settled_byte v t s h =
    omega (arith, ap (λ (u : Tree). length (flat u)) s.is, settled_size s.number s.at v, h)

mutual
  settled_to : (v : Tree) (k : TextBlock) (is : List ℕ) (t : Tree) → SettledTo v is t → ClearAt is t → (label v).kind ≡ kind_of (block_of k) → HasByte v → BlockAt is t
  settled_to v k [] t s c e h = (text_housed k t (kind_there v t s ∙ e), settled_byte v t s h)
  settled_to v k (i ∷ is) (tree l ts) s c e h = (c.0, settled_in v k i is ts s c.1 e h)

  pub settled_in : (v : Tree) (k : TextBlock) (i : ℕ) (is : List ℕ) (ts : Trees) → SettledAmong v i is ts → ClearIn i is ts → (label v).kind ≡ kind_of (block_of k)
      → HasByte v → BlockIn i is ts
  settled_in v k i is none s c e h = s
  settled_in v k zero is (more t ts) s c e h = settled_to v k is t s c e h
  settled_in v k (suc i) is (more t ts) s c e h = settled_in v k i is ts s c e h

-- ---- one block

abbrev first_number : List ℕ → ℕ
first_number [] = 0
first_number (m ∷ ms) = m

-- of one block the path that leads to where it begins is the only one
one_path : (Q : Tree → Type 0) (v : Tree) (k : TextBlock) (ps : List (List ℕ)) (b : ℕ → Tree) (t : Tree) (at i : ℕ) (is : List ℕ) → AllSettled b (0 ∷ []) ps t
    → b 0 ≡ v → (label v).kind ≡ kind_of (block_of k) → HasByte v → NoneEmpty ps → AllClear ps (children t) → starts_from 0 (children t) ps ≡ at ∷ []
    → EachBlockIn Q (children t) → BlockIn i is (children t) → starts_in 0 i is (children t) ≡ at → IsOneOf (i ∷ is) ps
one_path Q v k [] b t at i is s z e h n c st each mine here = absurd s
one_path Q v k (p ∷ q ∷ ps) b t at i is s z e h n c st each mine here = absurd s.1
one_path Q v k ([] ∷ []) b t at i is s z e h n c st each mine here = absurd n
one_path Q v k ((j ∷ js) ∷ []) b (tree l ts) at i is s z e h n c st each mine here =
    let its : BlockIn j js ts = settled_in v k j js ts (subst (λ (u : Tree). SettledAmong u j js ts) z s.0) c.0 e h in
    let starts : starts_in 0 j js ts ≡ at = ap first_number st in
    inl (same_paths Q 0 i is j js ts each mine its (here ∙ sym starts))

-- ---- told by the lines of the expanded page

-- where a node begins at its byte
pub taken_there : (pages : Pages) (page : List ℕ) (b : LinedBlock) (behind : List (List Item)) (i : ℕ) (is : List ℕ) (t : Tree) → IsLinedCalling pages page (b ∷ []) behind
    → IsReachedIn i is (children (called_tree pages page)) t → BlockIn i is (children (called_tree pages page))
    → starts_in 0 i is (children (called_tree pages page)) ≡ length (text_from (expanded_page pages page).outer None (joined b.before ++ lead_of b))
    → TakesThere pages page (i ∷ is) b behind
taken_there pages page b behind i is t h there mine begins =
    let ss : List BlockSpot = spots_of_lines pages page (b ∷ []) in
    let end : List ℕ = end_of_lines pages page (b ∷ []) behind in
    let calling : IsCallingPage pages ss end = editable_calling pages ss end (calling_editable pages page (b ∷ []) behind h) in
    let f : CallingNodesStay pages ss end = calling_nodes pages ss end calling.outside in
    let same : spots_source ss end ≡ page = calling_whole pages page (b ∷ []) behind h in
    let u : Tree = called_tree pages page in
    let v : Tree = spots_tree pages ss end in
    let tree_is : u ≡ v = ap (called_tree pages) (sym same) in
    let at : ℕ = length (text_from (expanded_page pages page).outer None (joined b.before ++ lead_of b)) in
    let zero_before : 0 + at ≡ at = omega arith in
    let blocks : ℕ → Tree = block_with_groups pages ss end in
    let own : Tree = blocks 0 in
    let kinds = have_kinds (expanded_page pages (spots_source ss end)).outer pages 0 ss in
    let source : flat own ≡ source_of b.block b.text = (blocks_have pages ss end calling.outside calling.unrefused).0 in
    let first : IsContentIn pages b.block b.text = h.contents.0 in
    let byte : HasByte own =
    omega (arith, ap length source, read_some b.block b.text first.read) in
    let each : EachBlockIn (StandsOnRows pages page) (children u) = page_stands pages page h.utf8 h.unrefused in
    let one : IsOneOf (i ∷ is) (paths_to f.nodes) =
    one_path (StandsOnRows pages page) own b.block (paths_to f.nodes) blocks v at i is (blocks_settle pages ss end f calling) refl kinds.0 byte (paths_full f.nodes)
    (clear_paths f.nodes content_part blocks (children v) f.holders (f.stay ss (edited_self pages ss) calling.outside.hold))
    (calling_starts pages ss end f calling ∙ ap (λ (m : ℕ). m ∷ []) zero_before)
    (subst (λ (x : Tree). EachBlockIn (StandsOnRows pages page) (children x)) tree_is each)
    (subst (λ (x : Tree). BlockIn i is (children x)) tree_is mine)
    (ap (λ (x : Tree). starts_in 0 i is (children x)) (sym tree_is) ∙ begins) in
    record { taken = contents_taken pages ss end calling; there = subst (IsOneOf (i ∷ is)) (sym (taken_paths pages ss end calling)) one }

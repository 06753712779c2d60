-- In a page that calls nothing, and in which no node can only be kept as a whole, none is so in a block, where it is in the page.
use Rattle.std.proofs.Common.{◌≡◌, inl, ℕ, zero, suc, Bool, true, false, Option, Some, None, List, [], ◌∷◌, ◌++◌, take, map, refl, sym, ap, ◌∙◌, subst}
use Rattle.std.specs.Prelude.{◌||◌}
use Rattle.wt_tree.specs.declared.kind.Ranges.{Ranges}
use Rattle.wt_tree.specs.Tiling.{HasNoGroup}
use Rattle.wt_tree.specs.Tree.{Tree, tree, Trees, none, more}
use Rattle.wt_span.specs.Origins.{Expanded}
use Rattle.wt_checks.specs.Kept.{children as nodes_in}
use Rattle.wt_expand.specs.PageItems.{page_items}
use Rattle.wt_inline.specs.ItemTree.{ItemTree, forest, tree_items}
use Rattle.wt_page.specs.Body.{meaning}
use Rattle.wt_annotated.specs.Annotated.{annotated}
use Rattle.wt_annotated.specs.GroupData.{group_data}
use Rattle.wt_annotated.specs.WithoutCalls.{holds_page, InsideOf, NoneEmpty, AllNonEmpty, IsPlain}
use Rattle.wt_annotated.proofs.Calls.{all_split}
use Rattle.wt_annotated.proofs.NoGroups.{only_plain}
use Rattle.wt_isolation.specs.OpenTags.{before, ends_open, any_ends_open}
use Rattle.wt_isolation.specs.TextCalls.{touches_text_call}
use Rattle.wt_part_laws.specs.Frames.{Frame, place, whole, around, Frames, no_frames, more_frames, tree_at, trees_at, places_in, all_places, Part, content, IsFrame, AreFrames}
use Rattle.wt_part_laws.specs.Placeless.{placeless, all_placeless}
use Rattle.wt_part_laws.specs.Standing.{standing}
use Rattle.wt_part_laws.proofs.FrameEnds.{held}
use Rattle.wt_part_laws.proofs.FramesWalked.{no_leaf}
use Rattle.wt_part_laws.proofs.Moved.{moved}
use Rattle.wt_part_laws.proofs.OwnWalks.{OfPage}
use Rattle.wt_selser.specs.Edits.{is_tangled}
use Rattle.wt_selser.specs.GroupFaults.{has_faulty_group}
use Rattle.wt_selser.proofs.NoGroups.{untangled}
use Rattle.wt_text_edit_laws.specs.BlockSpots.{BlockSpot, spots_source}
use Rattle.wt_text_edit_laws.specs.LonePages.{of_items}
use Rattle.wt_text_edit_laws.specs.PageCuts.{IsUntangledAt, IsFreeBlock, AreFree}
use Rattle.wt_text_edit_laws.specs.ParagraphBetween.{body_with}
use Rattle.wt_text_edit_laws.specs.Parts.{HasNoGroups}
use Rattle.wt_text_edit_laws.specs.TextBlocks.{TextBlock, block_tree}
use Rattle.wt_text_edit_laws.proofs.Blocks.Untangled.{opens_same}
use Rattle.wt_beside_laws.proofs.Made.OldBlocks.{no_group}
use Rattle.wt_beside_laws.proofs.Derived.NodesHave.{full_nodes}
use Rattle.wt_called_edit_laws.specs.EditsAt.{IsStanding, StandsTo, StandsAmong, AllStand}
use Rattle.wt_called_edit_laws.specs.ItemSpots.{ItemSpot, items_of_spots, placed_items, ArePlaced, SameItems, AreNewIn}
use Rattle.wt_called_edit_laws.specs.PlacedSpots.{IsShut, AreShut, UntangledTo, UntangledAmong, AllUntangled}
use Rattle.wt_called_edit_laws.proofs.Cells.ContentItems.{tree_is}
use Rattle.wt_called_edit_laws.proofs.Cells.ItemFrames.{counted_in, items_framed}
use Rattle.wt_called_edit_laws.proofs.Cells.SpotRows.{trees_by}
use Rattle.wt_called_edit_laws.proofs.Told.OwnReads.{OwnRead, AllRead}

-- ---- at its place in the page a block isn't empty, nor is a node in it

pub record IsFullTree (u : ItemTree) : Type 0 where
  pub holds : holds_page u ≡ true
  pub full : NoneEmpty u
  pub of_page : OfPage (tree_items u)

abbrev AllFull : (ℕ → ItemTree) → List ℕ → Type 0
AllFull t [] = Unit {0}
AllFull t (n ∷ ns) = IsFullTree (t n) × AllFull t ns

full_both : (t : ℕ → ItemTree) (ms ns : List ℕ) → AllFull t ms → AllFull t ns → AllFull t (ms ++ ns)
full_both t [] ns h g = g
full_both t (m ∷ ms) ns h g = (h.0, full_both t ms ns h.1 g)

mutual
  frame_full : (t : ℕ → ItemTree) (f : Frame) (part : Part) → IsFrame f part → OfPage (tree_items (tree_at t f)) → holds_page (tree_at t f) ≡ true
      → NoneEmpty (tree_at t f) → AllFull t (places_in f)
  frame_full t (place n) part i e has full = (record { holds = has; full = full; of_page = e }, tt)
  frame_full t (whole u) part i e has full = tt
  frame_full t (around k q gs c) part i e has full =
      let r = all_split q (held t gs ++ c) e in
      let s = all_split (held t gs) c r.1 in
      frames_full t gs i.0 i.2 s.0 (subst (λ (v : Bool). InsideOf v (AllNonEmpty (forest (trees_at t gs)))) (no_leaf part i.0 k.kind i.1) full)

  frames_full : (t : ℕ → ItemTree) (fs : Frames) (part : Part) → AreFrames fs part → OfPage (held t fs) → AllNonEmpty (forest (trees_at t fs))
      → AllFull t (all_places fs)
  frames_full t no_frames part i e full = tt
  frames_full t (more_frames f fs) part i e full =
      let r = all_split (tree_items (tree_at t f)) (held t fs) e in
      full_both t (places_in f) (all_places fs) (frame_full t f part i.0 r.0 full.0 full.1) (frames_full t fs part i.1 r.1 full.2)

-- ---- nothing open is in it, so it isn't tangled

no_text_call : (r : Option Ranges) → touches_text_call [] r ≡ false
no_text_call None = refl
no_text_call (Some r) = refl

none_taken : (n : ℕ) → ◌≡◌ {A = List ℕ} (take n []) []
none_taken zero = refl
none_taken (suc n) = refl

nothing_open : (r : Option Ranges) → ends_open (before [] r) ≡ false
nothing_open None = refl
nothing_open (Some r) = ap ends_open (none_taken r.start)

pub tree_untangled : (t : Tree) → HasNoGroup t → any_ends_open (nodes_in t) ≡ false → is_tangled (of_items []) [] t ≡ false
tree_untangled (tree l ts) g e =
    untangled (of_items []) [] l ts g.1 (no_text_call l.ranges) (ap (λ (v : Bool). v || any_ends_open ts) (nothing_open l.ranges) ∙ e)

block_untangled : (k : TextBlock) (q : List ℕ) → OwnRead k q → IsShut k q → IsUntangledAt (block_tree k q)
block_untangled k q r e = record {
  items = of_items [];
  page = [];
  number = 0;
  before = [];
  untangled = tree_untangled (standing 0 [] (block_tree k q)) (no_group k q 0 [] r.utf8 r.is r.unended r.calm) e;
}

block_free : (k : TextBlock) (q : List ℕ) → OwnRead k q → IsFullTree (block_tree k q) → IsShut k q → IsFreeBlock k q
block_free k q r h e = record { full = full_nodes k q r.utf8 r.is r.unended r.calm h.full; untangled = block_untangled k q r e }

-- ---- so of all blocks of the page

full_down : (s : ItemSpot) (ss : List ItemSpot) (ns : List ℕ) → AllFull (trees_by (s ∷ ss)) (map suc ns) → AllFull (trees_by ss) ns
full_down s ss [] h = tt
full_down s ss (n ∷ ns) h = (h.0, full_down s ss ns h.1)

all_free : (ss : List BlockSpot) → AllRead ss → AreShut ss → AllFull (trees_by (items_of_spots ss)) (counted_in (items_of_spots ss)) → AreFree ss
all_free [] r e h = tt
all_free (s ∷ ss) r e h = (
  block_free s.block s.text r.0 (subst IsFullTree (sym (tree_is s.block s.text)) h.0) e.0,
  all_free ss r.1 e.1 (full_down (record { before = page_items s.before; block = s.block; content = page_items s.text }) (items_of_spots ss) (counted_in (items_of_spots ss)) h.1),
)

same_items : (ss : List ItemSpot) → SameItems ss ss
same_items [] = tt
same_items (s ∷ ss) = (refl, refl, same_items ss)

same_contents : (ss : List ItemSpot) → AreNewIn ss ss
same_contents [] = tt
same_contents (s ∷ ss) = (inl refl, same_contents ss)

pub page_free : (ss : List BlockSpot) (behind : List ℕ) → AllRead ss → AreShut ss → ArePlaced (items_of_spots ss) (page_items behind)
    → page_items (spots_source ss behind) ≡ placed_items (items_of_spots ss) (page_items behind) → HasNoGroups (spots_source ss behind) → AreFree ss
page_free ss behind r e placed are g =
    let is : List ItemSpot = items_of_spots ss in
    let t : ℕ → ItemTree = trees_by is in
    let f = items_framed is (page_items behind) placed in
    let means : meaning (page_items (spots_source ss behind)) ≡ body_with (trees_at t f.frames) =
    ap meaning are ∙ f.means is t (same_items is) (same_contents is) (λ i. refl) in
    let plain : IsPlain (body_with (trees_at t f.frames)) =
    only_plain [] (group_data []) (forest (trees_at t f.frames)) (subst (λ (u : ItemTree). HasNoGroup (annotated [] (group_data []) u)) means g) in
    let full : AllFull t (all_places f.frames) =
    frames_full t f.frames content f.of_cells (all_split (held t f.frames) [] plain.of_page).0 plain.none_empty in
    all_free ss r e (subst (AllFull t) f.in_order full)

-- ---- a block that isn't tangled in the page is shut

or_left : (u v : Bool) → (u || v) ≡ false → u ≡ false
or_left true v e = e
or_left false v e = refl

or_right : (u v : Bool) → (u || v) ≡ false → v ≡ false
or_right true v e = absurd (cc)
or_right false v e = e

pub tree_shut : (items : Expanded) (page : List ℕ) (t : Tree) → is_tangled items page t ≡ false → any_ends_open (nodes_in t) ≡ false
tree_shut items page (tree l ts) e =
    let rest = or_right (touches_text_call items.text_calls l.ranges) ((ends_open (before page l.ranges) || any_ends_open ts) || has_faulty_group items ts) e in
    or_right (ends_open (before page l.ranges)) (any_ends_open ts) (or_left (ends_open (before page l.ranges) || any_ends_open ts) (has_faulty_group items ts) rest)

pub same_shut : (t u : Tree) → placeless t ≡ placeless u → any_ends_open (nodes_in u) ≡ false → any_ends_open (nodes_in t) ≡ false
same_shut (tree l ts) (tree m us) e h =
    let inside : all_placeless ts ≡ all_placeless us = ap nodes_in e in
    sym (opens_same ts) ∙ ap any_ends_open inside ∙ opens_same us ∙ h

pub untangled_shut : (k : TextBlock) (q : List ℕ) → IsUntangledAt (block_tree k q) → IsShut k q
untangled_shut k q u =
    same_shut (standing 0 [] (block_tree k q)) (standing u.number u.before (block_tree k q)) (moved 0 u.number [] u.before (block_tree k q))
    (tree_shut u.items u.page (standing u.number u.before (block_tree k q)) u.untangled)

pub node_shut : (k : TextBlock) (q : List ℕ) (items : Expanded) (page : List ℕ) (t : Tree) → IsStanding (block_tree k q) t → is_tangled items page t ≡ false
    → IsShut k q
node_shut k q items page t s e = untangled_shut k q (record {
  items = items;
  page = page;
  number = s.number;
  before = s.before;
  untangled = subst (λ (u : Tree). is_tangled items page u ≡ false) s.is e;
})

-- ---- so at their paths

mutual
  path_shut : (k : TextBlock) (q : List ℕ) (items : Expanded) (page path : List ℕ) (t : Tree) → StandsTo (block_tree k q) path t → UntangledTo items page path t
      → IsShut k q
  path_shut k q items page [] t s e = node_shut k q items page t s e
  path_shut k q items page (i ∷ is) (tree l ts) s e = among_shut k q items page i is ts s e

  among_shut : (k : TextBlock) (q : List ℕ) (items : Expanded) (page : List ℕ) (i : ℕ) (is : List ℕ) (ts : Trees) → StandsAmong (block_tree k q) i is ts
      → UntangledAmong items page i is ts → IsShut k q
  among_shut k q items page i is none s e = absurd s
  among_shut k q items page zero is (more t ts) s e = path_shut k q items page is t s e
  among_shut k q items page (suc i) is (more t ts) s e = among_shut k q items page i is ts s e

pub paths_shut : (ss : List BlockSpot) (paths : List (List ℕ)) (items : Expanded) (page : List ℕ) (t : Tree) → AllStand ss paths t
    → AllUntangled items page paths t → AreShut ss
paths_shut [] paths items page t s e = tt
paths_shut (s ∷ ss) [] items page t h e = absurd h
paths_shut (s ∷ ss) (p ∷ ps) items page t h e = (path_shut s.block s.text items page p t h.0 e.0, paths_shut ss ps items page t h.1 e.1)

-- Whatever blocks are at the places of a page with calls, the page's tree has the same groups and the same nodes round them.
use Rattle.std.proofs.Common.{◌≡◌, ℕ, ◌+◌, Bool, true, false, None, List, [], ◌∷◌, ◌++◌, refl, sym, ap, ap₂, ◌∙◌, subst, cond}
use Rattle.wt_tree.specs.Tiling.{is_group}
use Rattle.wt_tree.specs.Tree.{Tree, tree, Trees, none, more}
use Rattle.wt_span.specs.Origins.{OuterCall}
use Rattle.wt_inline.specs.ItemTree.{ItemTree, tree_items}
use Rattle.wt_annotated.specs.Annotated.{annotated, placed}
use Rattle.wt_annotated.specs.CutTexts.{cut_texts}
use Rattle.wt_annotated.specs.GroupData.{group_data}
use Rattle.wt_annotated.specs.Grouped.{grouped}
use Rattle.wt_annotated.specs.Numbering.{next_after, count, with_numbers, all_with_numbers}
use Rattle.wt_annotated.specs.Walked.{walked}
use Rattle.wt_annotated.proofs.Walks.{walk_all}
use Rattle.wt_part_laws.specs.Frames.{Frames, trees_at, all_places, content, AreFrames}
use Rattle.wt_part_laws.specs.Placeless.{placeless_label, placeless, all_placeless}
use Rattle.wt_part_laws.proofs.Recuts.{texts_same}
use Rattle.wt_part_laws.specs.TreeFrames.{TreeFrame, spot, kept, holder, TreeFrames, no_nodes, more_nodes, filled, all_filled, spots_in, spots}
use Rattle.wt_part_laws.specs.Rounded.{AreOwn, AreClean, AreCleanThere, HaveSameData, body_of, body_label, block_alone, GroupsStay}
use Rattle.wt_part_laws.specs.HeldCalls.{blocks_in, GroupsStayRound}
use Rattle.wt_part_laws.proofs.OwnWalks.{walk_own}
use Rattle.wt_part_laws.proofs.FrameEnds.{clean_same, own_there}
use Rattle.wt_part_laws.proofs.FramesWalked.{nodes_of, page_nodes_are, spots_are}

-- ---- the same trees at places

abbrev AllAlike : (ℕ → Tree) → (ℕ → Tree) → List ℕ → Type 0
AllAlike b d [] = Unit {0}
AllAlike b d (n ∷ ns) = (b n ≡ d n) × AllAlike b d ns

alike_split : (b d : ℕ → Tree) (ms ns : List ℕ) → AllAlike b d (ms ++ ns) → AllAlike b d ms × AllAlike b d ns
alike_split b d [] ns h = (tt, h)
alike_split b d (m ∷ ms) ns h = let r = alike_split b d ms ns h.1 in ((h.0, r.0), r.1)

-- ---- numbers

same_by : (v : Bool) (ts us : Trees) → all_placeless us ≡ all_placeless ts → all_placeless (cond v ts us) ≡ all_placeless ts
same_by true ts us e = refl
same_by false ts us e = e

mutual
  pub numbers_gone : (n : ℕ) (t : Tree) → placeless (with_numbers n t) ≡ placeless t
  numbers_gone n (tree l ts) =
      ap (tree (placeless_label l))
      (same_by (is_group l.kind) ts (all_with_numbers (next_after l.kind n) ts) (all_numbers_gone (next_after l.kind n) ts))

  all_numbers_gone : (n : ℕ) (ts : Trees) → all_placeless (all_with_numbers n ts) ≡ all_placeless ts
  all_numbers_gone n none = refl
  all_numbers_gone n (more t ts) = ap₂ more (numbers_gone n t) (all_numbers_gone (n + count t) ts)

-- ---- the page

page_walked : (calls : List OuterCall) (t : ItemTree) → placeless (annotated calls (group_data calls) t) ≡ cut_texts (placeless (walked calls (group_data calls) None 0 None t))
unfolding annotated
page_walked calls t =
    let u : Tree = placed calls (group_data calls) (tree_items t) (grouped (tree_items t) 0 t) in
    numbers_gone 1 (cut_texts u) ∙ texts_same u ∙ ap (λ v. cut_texts (placeless v)) (sym (walk_all calls (group_data calls) t))

other_way : (calls cs : List OuterCall) → HaveSameData calls cs → HaveSameData cs calls
other_way calls cs h = record { sources = λ k. sym (h.sources k); carried = λ ps. sym (h.carried ps) }

pub held_stay : (calls cs : List OuterCall) (fs : Frames) (w : ℕ → ItemTree) → HaveSameData calls cs → AreFrames fs content → AreClean w None fs None
    → AreCleanThere w None fs None
    → placeless (annotated cs (group_data cs) (body_of (trees_at w fs))) ≡ cut_texts (tree body_label (all_filled (blocks_in cs w) (nodes_of calls [] fs)))
held_stay calls cs fs w h of_cells clean there =
    page_walked cs (body_of (trees_at w fs))
    ∙ ap (λ ts. cut_texts (tree body_label ts)) (page_nodes_are cs calls (other_way calls cs h) w fs content of_cells clean there)

pub groups_stay_round : (calls : List OuterCall) (fs : Frames) → AreFrames fs content → GroupsStayRound calls fs
groups_stay_round calls fs of_cells = record {
  nodes = nodes_of calls [] fs;
  in_order = spots_are calls [] fs;
  stay = λ cs w h clean there. held_stay calls cs fs w h of_cells clean there;
}

-- ---- blocks of the page alone

mutual
  filled_same : (b d : ℕ → Tree) (f : TreeFrame) → AllAlike b d (spots_in f) → filled b f ≡ filled d f
  filled_same b d (spot n) h = h.0
  filled_same b d (kept t) h = refl
  filled_same b d (holder l fs) h = ap (tree l) (all_filled_same b d fs h)

  all_filled_same : (b d : ℕ → Tree) (fs : TreeFrames) → AllAlike b d (spots fs) → all_filled b fs ≡ all_filled d fs
  all_filled_same b d no_nodes h = refl
  all_filled_same b d (more_nodes f fs) h =
      let r = alike_split b d (spots_in f) (spots fs) h in ap₂ more (filled_same b d f r.0) (all_filled_same b d fs r.1)

alone_alike : (calls : List OuterCall) (t : ℕ → ItemTree) (ns : List ℕ) → AreOwn t ns → AllAlike (blocks_in calls t) (block_alone t) ns
alone_alike calls t [] h = tt
alone_alike calls t (n ∷ ns) h = (walk_own calls None 0 None [] (t n) h.0.of_page h.0.has_items, alone_alike calls t ns h.1)

pub stays : (calls cs : List OuterCall) (fs : Frames) (t w : ℕ → ItemTree) → HaveSameData calls cs → AreFrames fs content → AreOwn t (all_places fs)
    → AreOwn w (all_places fs) → AreClean t None fs None
    → placeless (annotated cs (group_data cs) (body_of (trees_at w fs))) ≡ cut_texts (tree body_label (all_filled (block_alone w) (nodes_of calls [] fs)))
stays calls cs fs t w h of_cells g k clean =
    let nodes : TreeFrames = nodes_of calls [] fs in
    let alike : AllAlike (blocks_in cs w) (block_alone w) (spots nodes) =
    subst (AllAlike (blocks_in cs w) (block_alone w)) (sym (spots_are calls [] fs)) (alone_alike cs w (all_places fs) k) in
    held_stay calls cs fs w h of_cells (clean_same t w fs content None None of_cells g k clean) (own_there w fs None None k)
    ∙ ap (λ ts. cut_texts (tree body_label ts)) (all_filled_same (blocks_in cs w) (block_alone w) nodes alike)

pub groups_stay : (calls : List OuterCall) (fs : Frames) (t : ℕ → ItemTree) → AreFrames fs content → AreOwn t (all_places fs) → AreClean t None fs None
    → GroupsStay calls fs
groups_stay calls fs t of_cells g clean = record {
  nodes = nodes_of calls [] fs;
  in_order = spots_are calls [] fs;
  stay = λ cs w h k. stays calls cs fs t w h of_cells g k clean;
}

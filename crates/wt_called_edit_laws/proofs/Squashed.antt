-- A node round no place is a whole node: so each node round places holds one.
use Rattle.std.proofs.Common.{◌≡◌, ℕ, List, [], ◌∷◌, ◌++◌, refl, sym, ap, ap₂, subst}
use Rattle.wt_span.specs.Items.{Item}
use Rattle.wt_inline.specs.ItemTree.{Head, ItemTree, inner, forest}
use Rattle.wt_part_laws.specs.Frames.{Frame, place, whole, around, Frames, no_frames, more_frames, tree_at, trees_at, places_in, all_places, Part, content, in_table, in_body, in_row, IsFrame, AreFrames}
use Rattle.wt_called_edit_laws.specs.CalledBlocks.{tree_by}
use Rattle.wt_called_edit_laws.specs.Covered.{HasAny, HoldsPlace, HoldPlaces}

-- the first where there are none of these numbers
abbrev if_none : List ℕ → Frame → Frame → Frame
if_none [] f g = f
if_none (n ∷ ns) f g = g

abbrev mutual
  pub squashed : Frame → Frame
  squashed (place n) = place n
  squashed (whole u) = whole u
  squashed (around k q gs c) = if_none (all_places gs) (whole (tree_at (tree_by []) (around k q gs c))) (around k q (all_squashed gs) c)

  pub all_squashed : Frames → Frames
  all_squashed no_frames = no_frames
  all_squashed (more_frames f fs) = more_frames (squashed f) (all_squashed fs)

-- ---- without places the blocks are nothing to a node

both_empty : (ms ns : List ℕ) → ms ++ ns ≡ [] → (ms ≡ []) × (ns ≡ [])
both_empty [] ns e = (refl, e)
both_empty (m ∷ ms) ns e = cc

mutual
  none_same : (t w : ℕ → ItemTree) (f : Frame) → places_in f ≡ [] → tree_at t f ≡ tree_at w f
  none_same t w (place n) e = cc
  none_same t w (whole u) e = refl
  none_same t w (around k q gs c) e = ap (λ (us : List ItemTree). inner k q (forest us) c) (all_none_same t w gs e)

  all_none_same : (t w : ℕ → ItemTree) (fs : Frames) → all_places fs ≡ [] → trees_at t fs ≡ trees_at w fs
  all_none_same t w no_frames e = refl
  all_none_same t w (more_frames f fs) e =
      let r = both_empty (places_in f) (all_places fs) e in
      ap₂ (λ (u : ItemTree) (us : List ItemTree). u ∷ us) (none_same t w f r.0) (all_none_same t w fs r.1)

-- ---- the same trees

around_tree : (t : ℕ → ItemTree) (k : Head) (q : List Item) (gs : Frames) (c : List Item) (ns : List ℕ) → all_places gs ≡ ns
    → trees_at t (all_squashed gs) ≡ trees_at t gs
    → tree_at t (if_none ns (whole (tree_at (tree_by []) (around k q gs c))) (around k q (all_squashed gs) c)) ≡ tree_at t (around k q gs c)
around_tree t k q gs c [] e r = none_same (tree_by []) t (around k q gs c) e
around_tree t k q gs c (n ∷ ns) e r = ap (λ (us : List ItemTree). inner k q (forest us) c) r

mutual
  tree_squashed : (t : ℕ → ItemTree) (f : Frame) → tree_at t (squashed f) ≡ tree_at t f
  tree_squashed t (place n) = refl
  tree_squashed t (whole u) = refl
  tree_squashed t (around k q gs c) = around_tree t k q gs c (all_places gs) refl (trees_squashed t gs)

  pub trees_squashed : (t : ℕ → ItemTree) (fs : Frames) → trees_at t (all_squashed fs) ≡ trees_at t fs
  trees_squashed t no_frames = refl
  trees_squashed t (more_frames f fs) = ap₂ (λ (u : ItemTree) (us : List ItemTree). u ∷ us) (tree_squashed t f) (trees_squashed t fs)

around_places : (k : Head) (q : List Item) (gs : Frames) (c : List Item) (ns : List ℕ) → all_places gs ≡ ns → all_places (all_squashed gs) ≡ all_places gs
    → places_in (if_none ns (whole (tree_at (tree_by []) (around k q gs c))) (around k q (all_squashed gs) c)) ≡ all_places gs
around_places k q gs c [] e r = sym e
around_places k q gs c (n ∷ ns) e r = r

mutual
  one_places : (f : Frame) → places_in (squashed f) ≡ places_in f
  one_places (place n) = refl
  one_places (whole u) = refl
  one_places (around k q gs c) = around_places k q gs c (all_places gs) refl (places_squashed gs)

  pub places_squashed : (fs : Frames) → all_places (all_squashed fs) ≡ all_places fs
  places_squashed no_frames = refl
  places_squashed (more_frames f fs) = ap₂ (λ (ms ns : List ℕ). ms ++ ns) (one_places f) (places_squashed fs)

-- ---- they are frames, and hold places

whole_frame : (u : ItemTree) (p : Part) → IsFrame (whole u) p
whole_frame u content = tt
whole_frame u in_table = tt
whole_frame u in_body = tt
whole_frame u in_row = tt

around_frame : (k : Head) (q : List Item) (gs : Frames) (c : List Item) (p : Part) (ns : List ℕ) → IsFrame (around k q (all_squashed gs) c) p
    → IsFrame (if_none ns (whole (tree_at (tree_by []) (around k q gs c))) (around k q (all_squashed gs) c)) p
around_frame k q gs c p [] i = whole_frame (tree_at (tree_by []) (around k q gs c)) p
around_frame k q gs c p (n ∷ ns) i = i

mutual
  one_frame : (f : Frame) (p : Part) → IsFrame f p → IsFrame (squashed f) p
  one_frame (place n) p i = i
  one_frame (whole u) p i = i
  one_frame (around k q gs c) p i = around_frame k q gs c p (all_places gs) (i.0, i.1, frames_squashed gs i.0 i.2)

  pub frames_squashed : (fs : Frames) (p : Part) → AreFrames fs p → AreFrames (all_squashed fs) p
  frames_squashed no_frames p i = tt
  frames_squashed (more_frames f fs) p i = (one_frame f p i.0, frames_squashed fs p i.1)

around_holds : (k : Head) (q : List Item) (gs : Frames) (c : List Item) (ns : List ℕ) → all_places (all_squashed gs) ≡ ns → HoldPlaces (all_squashed gs)
    → HoldsPlace (if_none ns (whole (tree_at (tree_by []) (around k q gs c))) (around k q (all_squashed gs) c))
around_holds k q gs c [] e h = tt
around_holds k q gs c (n ∷ ns) e h = (subst HasAny (sym e) tt, h)

mutual
  one_holds : (f : Frame) → HoldsPlace (squashed f)
  one_holds (place n) = tt
  one_holds (whole u) = tt
  one_holds (around k q gs c) = around_holds k q gs c (all_places gs) (places_squashed gs) (squashed_hold gs)

  pub squashed_hold : (fs : Frames) → HoldPlaces (all_squashed fs)
  squashed_hold no_frames = tt
  squashed_hold (more_frames f fs) = (one_holds f, squashed_hold fs)

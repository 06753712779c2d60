-- A page that calls nothing, and in which no node can only be kept as a whole, has no groups, so each node of it is clean.
use Rattle.std.proofs.Common.{◌≡◌, inl, ℕ, Bool, true, false, Option, None, List, [], ◌∷◌, ◌++◌, refl, sym, ap, ◌∙◌, subst}
use Rattle.std.specs.Prelude.{◌||◌}
use Rattle.std.specs.List.{list_any}
use Rattle.wt_tree.specs.declared.kind.Kind.{Kind}
use Rattle.wt_tree.specs.declared.kind.Kind.TheVariants as kind
use Rattle.wt_tree.specs.Kinds.{is_numbered}
use Rattle.wt_tree.specs.Tiling.{HasNoGroup}
use Rattle.wt_span.specs.Items.{Item}
use Rattle.wt_span.specs.Origins.{Expanded}
use Rattle.wt_expand.specs.PageItems.{page_items}
use Rattle.wt_expand.specs.Work.{Pages}
use Rattle.wt_inline.specs.ItemTree.{ItemTree, forest, tree_items}
use Rattle.wt_page.specs.Body.{meaning}
use Rattle.wt_annotated.specs.Annotated.{annotated}
use Rattle.wt_annotated.specs.Clean.{is_page, is_body}
use Rattle.wt_annotated.specs.GroupData.{group_data}
use Rattle.wt_annotated.specs.Seams.{last_of, first_of}
use Rattle.wt_annotated.specs.WithoutCalls.{holds_page, InsideOf, NoneEmpty, AllNonEmpty, IsPlain}
use Rattle.wt_annotated.proofs.Calls.{all_split}
use Rattle.wt_annotated.proofs.NoGroups.{only_plain}
use Rattle.wt_part_laws.specs.Frames.{Frame, place, whole, around, Frames, no_frames, more_frames, tree_at, trees_at, Part, content, IsFrame, AreFrames}
use Rattle.wt_text_edit_laws.specs.BlockSpots.{BlockSpot, spots_source}
use Rattle.wt_text_edit_laws.specs.ParagraphBetween.{body_with}
use Rattle.wt_called_edit_laws.specs.Retyped.{AreRetyped}
use Rattle.wt_part_laws.specs.Rounded.{IsClean, AreClean}
use Rattle.wt_part_laws.proofs.FrameEnds.{held}
use Rattle.wt_part_laws.proofs.FramesWalked.{no_leaf}
use Rattle.wt_part_laws.proofs.OwnWalks.{OfPage, HasPage, own_clean}
use Rattle.wt_called_edit_laws.specs.AnyBlocks.{AreSpots}
use Rattle.wt_called_edit_laws.specs.ItemSpots.{AreContentSpots}
use Rattle.wt_called_edit_laws.specs.CalledBlocks.{AreAmongCalls, tree_by, StandAmongCalls}
use Rattle.wt_called_edit_laws.proofs.Cells.CalledFrames.{contents_among_calls, texts_are_contents, stand_among}
use Rattle.wt_text_edit_laws.proofs.Blocks.BlockReading.{read_expanded, read_unrefused}
use Rattle.wt_called_edit_laws.proofs.Cells.PartKinds.{part_kind}
use Rattle.wt_called_edit_laws.specs.CalledPages.{IsCalledPage}

-- ---- nodes of the page alone are clean

no_body : (k : Kind) → is_numbered k ≡ true → is_body k ≡ false
no_body kind.Body e = absurd (cc)
no_body k e = refl

second_true : (a b : Bool) → a ≡ false → (a || b) ≡ true → b ≡ true
second_true true b e h = absurd (cc)
second_true false b e h = h

mutual
  frame_clean : (t : ℕ → ItemTree) (f : Frame) (part : Part) (o p : Option ℕ) → IsFrame f part → OfPage (tree_items (tree_at t f)) → holds_page (tree_at t f) ≡ true
      → NoneEmpty (tree_at t f) → IsClean t o f p
  frame_clean t (place n) part o p i e has full = tt
  frame_clean t (whole u) part o p i e has full = tt
  frame_clean t (around k q gs c) part o p i e has full =
      let xs : List Item = held t gs in
      let r = all_split q (xs ++ c) e in
      let s = all_split xs c r.1 in
      let some : HasPage (q ++ (xs ++ c)) =
      second_true (is_body k.kind) (list_any is_page (q ++ (xs ++ c))) (no_body k.kind (part_kind part i.0 k.kind i.1).numbered) has in (
        own_clean o p (tree_at t (around k q gs c)) e some,
        frames_clean t gs i.0 (last_of o q) (first_of c p) i.2 s.0
            (subst (λ (v : Bool). InsideOf v (AllNonEmpty (forest (trees_at t gs)))) (no_leaf part i.0 k.kind i.1) full),
      )

  frames_clean : (t : ℕ → ItemTree) (fs : Frames) (part : Part) (o p : Option ℕ) → AreFrames fs part → OfPage (held t fs)
      → AllNonEmpty (forest (trees_at t fs)) → AreClean t o fs p
  frames_clean t no_frames part o p i e full = tt
  frames_clean t (more_frames f fs) part o p i e full =
      let r = all_split (tree_items (tree_at t f)) (held t fs) e in (
        frame_clean t f part o (first_of (held t fs) p) i.0 r.0 full.0 full.1,
        frames_clean t fs part (last_of o (tree_items (tree_at t f))) p i.1 r.1 full.2,
      )

-- ---- the page

retyped_self : (ss : List BlockSpot) → AreRetyped ss ss
retyped_self [] = tt
retyped_self (s ∷ ss) = (refl, refl, inl refl, retyped_self ss)

page_plain : (pages : Pages) (ss : List BlockSpot) (behind : List ℕ) (f : StandAmongCalls pages ss behind) → AreContentSpots ss behind
    → IsPlain (body_with (trees_at (tree_by ss) f.frames))
page_plain pages ss behind f h =
    let page : List ℕ = spots_source ss behind in
    let means : meaning (page_items page) ≡ body_with (trees_at (tree_by ss) f.frames) =
    ap (λ (x : Expanded). meaning x.items) (sym (read_expanded pages ss behind h.read)) ∙ f.means ss (retyped_self ss) in
    only_plain [] (group_data []) (forest (trees_at (tree_by ss) f.frames))
    (subst (λ (t : ItemTree). HasNoGroup (annotated [] (group_data []) t)) means h.ungrouped)

pub calm_contents : (pages : Pages) (ss : List BlockSpot) (behind : List ℕ) → AreContentSpots ss behind → IsCalledPage pages ss behind
calm_contents pages ss behind h =
    let among : AreAmongCalls pages ss behind = contents_among_calls pages ss behind h in
    let f : StandAmongCalls pages ss behind = stand_among pages ss behind among in
    let full : IsPlain (body_with (trees_at (tree_by ss) f.frames)) = page_plain pages ss behind f h in
    record {
      outside = record {
        among = among;
        stand = f;
        clean = frames_clean (tree_by ss) f.frames content None None f.of_cells (all_split (held (tree_by ss) f.frames) [] full.of_page).0 full.none_empty;
      };
      unrefused = read_unrefused pages ss behind h.read;
    }

pub calm_pages : (pages : Pages) (ss : List BlockSpot) (behind : List ℕ) → AreSpots ss behind → IsCalledPage pages ss behind
calm_pages pages ss behind h = calm_contents pages ss behind (texts_are_contents ss behind h)

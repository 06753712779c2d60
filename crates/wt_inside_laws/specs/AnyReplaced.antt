-- Texts of paragraphs and headings anywhere in a page become other ones: by what the tree of the new page differs from that of the old one.
use Rattle.std.specs.Prelude.{◌≡◌, ℕ, zero, suc, ◌+◌, Option, List, [], ◌∷◌, ◌++◌, length, map}
use Rattle.wt_devices.specs.Device.{Pages}
use Rattle.wt_tree.specs.Tree.{Tree, tree, Trees, none, more}
use Rattle.wt_checks.specs.Kept.{children}
use Rattle.wt_expand.specs.PageItems.{page_items}
use Rattle.wt_inside_laws.specs.Replaced.{Edit, with_insides}
use Rattle.wt_part_laws.specs.Standing.{standing}
use Rattle.wt_page_round_trip.specs.PageTree.{page_tree}
use Rattle.wt_typed_blocks.specs.Sent.{Sents}
use Rattle.wt_text_edit_laws.specs.TextBlocks.{TextBlock, source_of, block_tree}
use Rattle.wt_text_edit_laws.specs.BlockSpots.{BlockSpot, spots_source}
use Rattle.wt_text_edit_laws.specs.Parts.{part_tree}
use Rattle.wt_called_edit_laws.specs.AnyBlocks.{typed_by, IsTextEdit, with_text, new_page, AllLead}
use Rattle.wt_inside_laws.specs.TextsReplaced.{numbered_inside}

-- ---- one text

-- The text `new` is where `old` was in a block with this number, before which this is in the page.
abbrev pub replaced_at : List ℕ → ℕ → TextBlock → List ℕ → List ℕ → Edit
replaced_at front n k old new = record {
  number = n;
  inside = children (standing n (page_items front) (block_tree k new));
  old_end = length front + length (source_of k old);
  new_end = length front + length (source_of k new);
  old_last = n + numbered_inside k old;
  new_last = n + numbered_inside k new;
}

-- ---- where they are

-- the number of the node at this path, 0 where none is
abbrev mutual
  pub number_by : List ℕ → Tree → ℕ
  number_by [] (tree l ts) = l.id
  number_by (i ∷ is) (tree l ts) = number_among i is ts

  pub number_among : ℕ → List ℕ → Trees → ℕ
  number_among i is none = 0
  number_among zero is (more t ts) = number_by is t
  number_among (suc i) is (more t ts) = number_among i is ts

-- ---- all of them

-- One after the other, behind this of the page. The last is replaced first, so before each of them everything is still as it was.
abbrev pub replaced_behind : List ℕ → List BlockSpot → List (Option (List ℕ)) → List ℕ → List Edit
replaced_behind front [] os ns = []
replaced_behind front (s ∷ ss) [] ns = []
replaced_behind front (s ∷ ss) (o ∷ os) [] = []
replaced_behind front (s ∷ ss) (o ∷ os) (n ∷ ns) =
    replaced_at (front ++ s.before) n s.block s.text (with_text s o).text
    ∷ replaced_behind ((front ++ s.before) ++ source_of s.block s.text) ss os ns

-- those of an edit that types these texts at these paths
abbrev pub all_replaced : List BlockSpot → List ℕ → List (List ℕ) → Sents → List Edit
all_replaced ss behind paths es =
    replaced_behind [] ss (map (typed_by es) paths) (map (λ p. number_by p (part_tree (spots_source ss behind))) paths)

-- ---- the law

-- The blocks are at paths of the page's tree, and where texts are typed at any of them, the tree of the new page is that of the old one, in
-- which one block's inside after the other is replaced.
pub record ReplacesTexts (ss : List BlockSpot) (behind : List ℕ) : Type 0 where
  pub paths : List (List ℕ)
  pub lead : AllLead ss paths (part_tree (spots_source ss behind))
  pub replaces : (pages : Pages) (es : Sents) → IsTextEdit ss behind paths es
      → page_tree pages (new_page ss behind paths es) ≡ with_insides (all_replaced ss behind paths es) (page_tree pages (spots_source ss behind))

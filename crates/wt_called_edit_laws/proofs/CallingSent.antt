-- What is sent for a page whose blocks hold calls makes the new page, where each content that is sent makes its block.
use Rattle.std.proofs.Common.{◌≡◌, ℕ, Option, List, refl, sym, ap, ◌∙◌}
use Rattle.wt_tree.specs.Plain.{ended, plains_before}
use Rattle.wt_tree.specs.Tree.{Tree, tree, Trees}
use Rattle.wt_checks.specs.Kept.{children}
use Rattle.wt_expand.specs.Work.{Pages}
use Rattle.wt_part_laws.proofs.Placeless.{all_shown_placeless}
use Rattle.wt_typed_blocks.specs.Edited.{Edited, Edits}
use Rattle.wt_visible.specs.Children.{shown_children, listed}
use Rattle.wt_part_laws.specs.TreeFrames.{all_filled}
use Rattle.wt_text_edit_laws.specs.BlockSpots.{BlockSpot}
use Rattle.wt_called_edit_laws.specs.CalledTexts.{spots_tree}
use Rattle.wt_called_edit_laws.specs.CallingBlocks.{AreEdited}
use Rattle.wt_called_edit_laws.specs.CallingEdits.{IsCallingPage, IsSentFor, MakesPage}
use Rattle.wt_called_edit_laws.specs.CallingGroups.{block_with_groups, CallingNodesStay}
use Rattle.wt_called_edit_laws.specs.Sends.{MakesNodes}
use Rattle.wt_called_edit_laws.specs.WrittenAnew.{EachHolds}
use Rattle.wt_called_edit_laws.proofs.CallingGaps.{calling_source}
use Rattle.wt_called_edit_laws.proofs.CallingPages.{block_stays}
use Rattle.wt_called_edit_laws.proofs.TextsMake.{contents_make}
use Rattle.wt_called_edit_laws.proofs.Written.AllHeld.{all_hold}

shown_so : (t : Tree) → shown_children t ≡ listed (plains_before (children t) ended)
shown_so (tree l ts) = refl

pub page_made : (pages : Pages) (ss rs : List BlockSpot) (behind : List ℕ) (f : CallingNodesStay pages ss behind) (o : ℕ → Option Edited) (es : Edits)
    → IsCallingPage pages ss behind → AreEdited pages ss rs → EachHolds pages rs → IsSentFor pages ss rs behind f o es → MakesPage pages rs behind es
page_made pages ss rs behind f o es h t held s =
    let b : ℕ → Tree = block_with_groups pages ss behind in
    let c : ℕ → Tree = block_with_groups pages rs behind in
    let us : Trees = children (spots_tree pages rs behind) in
    let made : MakesNodes es (all_filled c f.nodes) =
    contents_make f.nodes o b c es f.inner_nodes (s.makes, λ n e. block_stays pages ss rs behind n h t (s.stay n e)) s.sends s.old in
    record {
      source = made.sources ∙ calling_source pages ss rs behind f h t held;
      shows =
          shown_so (spots_tree pages rs behind)
          ∙ ap listed (sym (all_shown_placeless us ended) ∙ ap (λ vs. plains_before vs ended) (f.stay rs t (all_hold pages rs held)) ∙ sym (made.show ended));
    }

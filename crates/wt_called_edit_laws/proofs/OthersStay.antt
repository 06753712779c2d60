-- Where contents are written beside the calls of a page's blocks, nothing but these blocks is another one.
use Rattle.std.proofs.Common.{◌≡◌, ℕ, zero, suc, None, List, [], ◌∷◌, ◌++◌, refl, sym, ◌∙◌, subst}
use Rattle.wt_tree.specs.Tree.{label}
use Rattle.wt_span.specs.Items.{Item, sources}
use Rattle.wt_span.specs.Origins.{OuterCall}
use Rattle.wt_expand.specs.PageCalls.{expanded_page}
use Rattle.wt_expand.specs.PageItems.{page_items}
use Rattle.wt_expand.specs.Work.{Pages}
use Rattle.wt_annotated.specs.CutTexts.{cut_texts}
use Rattle.wt_part_laws.specs.Expanded.{part_items}
use Rattle.wt_part_laws.specs.HeldCalls.{block_in}
use Rattle.wt_part_laws.proofs.OwnWalks.{text_own}
use Rattle.wt_text_edit_laws.specs.BlockSpots.{BlockSpot, spots_source}
use Rattle.wt_text_edit_laws.specs.LonePages.{page_chars}
use Rattle.wt_text_edit_laws.specs.TextBlocks.{TextBlock, a_paragraph, a_heading}
use Rattle.wt_text_edit_laws.specs.TypedHeadings.{Sides, equals, opening, closing_items}
use Rattle.wt_text_edit_laws.proofs.Blocks.BlockLeaves.{open_items, close_items, items_of_page}
use Rattle.wt_text_edit_laws.proofs.Texts.TypedShown.{AllOfPage, chars_of_page, both_of_page}
use Rattle.wt_called_edit_laws.specs.CalledContents.{tree_round}
use Rattle.wt_called_edit_laws.specs.CallingBlocks.{AreEdited}
use Rattle.wt_called_edit_laws.specs.CallingEdits.{IsCallingPage}
use Rattle.wt_called_edit_laws.specs.Parts.{calls_to, calls_past}
use Rattle.wt_called_edit_laws.specs.SettledPages.{AreKindred, OnlyTheseAreOthers}
use Rattle.wt_called_edit_laws.specs.WrittenAnew.{EachHolds}
use Rattle.wt_called_edit_laws.proofs.CallingGroups.{edited_self, calls_moved}
use Rattle.wt_called_edit_laws.proofs.CallingPages.{block_stays}
use Rattle.wt_called_edit_laws.proofs.Cells.CallingFrames.{edited_anew}
use Rattle.wt_called_edit_laws.proofs.Parts.Retyped.{expanded_again}
use Rattle.wt_called_edit_laws.proofs.SettledEdits.{block_kind}
use Rattle.wt_called_edit_laws.proofs.SettledPages.{only_blocks}
use Rattle.wt_called_edit_laws.proofs.SpotSources.{grouped_at}
use Rattle.wt_called_edit_laws.proofs.Written.AllHeld.{all_hold}

-- ---- each block keeps its kind and delimiters

closing_of_page : (s : Sides) → AllOfPage (closing_items s)
closing_of_page s =
    let signs : List ℕ = s.trail ++ equals s.level in
    both_of_page (page_chars signs) (page_items s.rest) (chars_of_page signs) (items_of_page s.rest)

opens : (calls : List OuterCall) (k : TextBlock) (xs : List Item) → (label (cut_texts (block_in calls (tree_round k xs)))).opening ≡ sources (open_items k)
opens calls a_paragraph xs = refl
opens calls (a_heading s) xs = text_own calls None (page_chars (opening s)) (chars_of_page (opening s))

closes : (calls : List OuterCall) (k : TextBlock) (xs : List Item) → (label (cut_texts (block_in calls (tree_round k xs)))).closing ≡ sources (close_items k)
closes calls a_paragraph xs = refl
closes calls (a_heading s) xs = text_own calls _ (closing_items s) (closing_of_page s)

one_kindred : (calls others : List OuterCall) (k : TextBlock) (xs ys : List Item)
    → AreKindred (cut_texts (block_in calls (tree_round k xs))) (cut_texts (block_in others (tree_round k ys)))
one_kindred calls others k xs ys = record {
  kind = block_kind calls k xs ∙ sym (block_kind others k ys);
  opening = opens calls k xs ∙ sym (opens others k ys);
  closing = closes calls k xs ∙ sym (closes others k ys);
}

block_kindred : (calls others : List OuterCall) (k j : TextBlock) (xs ys : List Item) → j ≡ k
    → AreKindred (cut_texts (block_in calls (tree_round k xs))) (cut_texts (block_in others (tree_round j ys)))
block_kindred calls others k j xs ys e = subst (λ (i : TextBlock). AreKindred (cut_texts (block_in calls (tree_round k xs))) (cut_texts (block_in others (tree_round i ys)))) (sym e) (one_kindred calls others k xs ys)

all_kindred : (calls others : List OuterCall) (pages : Pages) (k j : ℕ) (ss rs : List BlockSpot) → AreEdited pages ss rs → (n : ℕ)
    → AreKindred (grouped_at calls pages k ss n) (grouped_at others pages j rs n)
all_kindred calls others pages k j [] [] t n = one_kindred calls others a_paragraph (page_items []) (page_items [])
all_kindred calls others pages k j [] (r ∷ rs) t n = absurd t
all_kindred calls others pages k j (s ∷ ss) [] t n = absurd t
all_kindred calls others pages k j (s ∷ ss) (r ∷ rs) t zero =
    block_kindred calls others s.block r.block (part_items pages (calls_to pages k s) s.text) (part_items pages (calls_to pages j r) r.text) t.1
all_kindred calls others pages k j (s ∷ ss) (r ∷ rs) t (suc n) = all_kindred calls others pages (calls_past pages k s) (calls_past pages j r) ss rs t.3 n

-- ---- the page

pub others_stay : (pages : Pages) (ss rs : List BlockSpot) (behind : List ℕ) → IsCallingPage pages ss behind → AreEdited pages ss rs → EachHolds pages rs
    → OnlyTheseAreOthers pages ss rs behind
others_stay pages ss rs behind h t held =
    let o = only_blocks pages ss behind h.outside in
    let again = expanded_again pages ss rs behind h.outside.blocks.called (edited_anew pages ss rs t) in
    record {
      nodes = o.nodes;
      in_order = o.in_order;
      was = o.trees ss (edited_self pages ss) h.outside.hold;
      now = o.trees rs t (all_hold pages rs held);
      same = λ n e. block_stays pages ss rs behind n h t e;
      kindred = all_kindred (expanded_page pages (spots_source ss behind)).outer (expanded_page pages (spots_source rs behind)).outer pages 0 0 ss rs t;
      calls = calls_moved pages ss rs behind h.outside.blocks t;
      work = again.work;
    }

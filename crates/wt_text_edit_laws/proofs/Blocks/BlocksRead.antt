-- A page whose paragraphs and headings of one text, and the parts round them, stand by themselves is read by its parts.
use Rattle.std.proofs.Common.{◌≡◌, inl, ℕ, None, List, [], ◌∷◌}
use Rattle.wt_span.specs.Items.{Item}
use Rattle.wt_expand.specs.PageCalls.{expanded_page}
use Rattle.wt_expand.specs.PageItems.{page_items}
use Rattle.wt_expand.specs.Work.{Pages, first_refusal}
use Rattle.wt_expand.specs.Expansion.{page_work}
use Rattle.wt_text_edit_laws.specs.LonePages.{of_items}
use Rattle.wt_text_edit_laws.specs.TypedHeadings.{EndsLine}
use Rattle.wt_text_edit_laws.specs.TextBlocks.{TextBlock, a_paragraph, a_heading, EndsBlock, BeginsLine, BeginsBetween}
use Rattle.wt_text_edit_laws.specs.BlockSpots.{BlockSpot, spots_source, IsBlockSpot, AreFurtherBlocks, AreBlockSpots, IsRead, AreReadAfter, AreRead}
use Rattle.wt_text_edit_laws.proofs.Blocks.BlockReading.{spots_items, read_items_of, read_expanded, read_unrefused}
use Rattle.wt_text_edit_laws.proofs.Blocks.Contents.{block_content}

-- behind a paragraph or a heading the page ends, or a line break stands
block_line : (k : TextBlock) (xs : List Item) → EndsBlock k xs → EndsLine xs
block_line a_paragraph [] e = tt
block_line a_paragraph (y ∷ ys) e = e.0
block_line (a_heading s) xs e = e

next_line : (last next : TextBlock) (xs : List Item) → BeginsBetween last next xs → BeginsLine xs
next_line a_paragraph next [] e = absurd e
next_line a_paragraph next (y ∷ ys) e = e.0
next_line (a_heading s) next xs e = e

is_read : (s : BlockSpot) → IsBlockSpot s → IsRead s
is_read s h = record { led = inl h.ended; before_utf8 = h.before_utf8; block = block_content s.block s.text h.block }

pub further_read : (last : TextBlock) (ss : List BlockSpot) (behind : List ℕ) → AreFurtherBlocks last ss behind → AreReadAfter ss behind
further_read last [] behind h = (h.stands, h.utf8, block_line last (page_items behind) h.ends)
further_read last (s ∷ ss) behind h = (is_read s h.0, next_line last s.block (page_items s.before) h.1, further_read s.block ss behind h.2)

pub spots_read : (ss : List BlockSpot) (behind : List ℕ) → AreBlockSpots ss behind → AreRead ss behind
spots_read [] behind h = absurd h
spots_read (s ∷ ss) behind h = (is_read s h.0, further_read s.block ss behind h.1, h.2)

-- ---- pages whose parts stand by themselves

pub items_of_spots : (ss : List BlockSpot) (behind : List ℕ) → AreBlockSpots ss behind → page_items (spots_source ss behind) ≡ spots_items ss behind
items_of_spots ss behind h = read_items_of ss behind (spots_read ss behind h)

pub spots_expanded : (pages : Pages) (ss : List BlockSpot) (behind : List ℕ) → AreBlockSpots ss behind
    → expanded_page pages (spots_source ss behind) ≡ of_items (page_items (spots_source ss behind))
spots_expanded pages ss behind h = read_expanded pages ss behind (spots_read ss behind h)

pub spots_unrefused : (pages : Pages) (ss : List BlockSpot) (behind : List ℕ) → AreBlockSpots ss behind
    → first_refusal pages (spots_source ss behind) (page_work pages (spots_source ss behind)) ≡ None
spots_unrefused pages ss behind h = read_unrefused pages ss behind (spots_read ss behind h)

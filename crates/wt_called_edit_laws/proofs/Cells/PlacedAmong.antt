-- A page with calls that is cut at paragraphs and headings which call nothing: its parts are read and expanded each by itself, and it may be edited.
use Rattle.std.proofs.Common.{◌≡◌, inr, ℕ, ◌+◌, Bool, List, [], ◌∷◌, refl, subst}
use Rattle.std.specs.Str.{IsUtf8}
use Rattle.wt_span.specs.Items.{Item}
use Rattle.wt_expand.specs.PageItems.{page_items}
use Rattle.wt_expand.specs.Work.{Pages}
use Rattle.wt_part_laws.specs.Expanded.{calls_in}
use Rattle.wt_text_edit_laws.specs.BlockSpots.{BlockSpot, spots_source, EndBeforeBlocks, IsRead, AreReadAfter, AreContents}
use Rattle.wt_text_edit_laws.specs.Contents.{IsContent}
use Rattle.wt_text_edit_laws.specs.NoCalls.{NonePairs, CallsNothing}
use Rattle.wt_text_edit_laws.specs.PageCuts.{AreFurtherCuts, AreCuts, AreFree}
use Rattle.wt_text_edit_laws.specs.TextBlocks.{TextBlock}
use Rattle.wt_text_edit_laws.proofs.Blocks.BlockReading.{read_spot, read_spots}
use Rattle.wt_beside_laws.proofs.Derived.BlockContents.{there_begins, block_content}
use Rattle.wt_beside_laws.proofs.Derived.CutPages.{further_there, begins_line, ends_line, spot_read}
use Rattle.wt_called_edit_laws.specs.AnyBlocks.{open_behind_part, past_break}
use Rattle.wt_called_edit_laws.specs.CalledBlocks.{CallNothing, AreAmongCalls, spots_among, items_behind}
use Rattle.wt_called_edit_laws.specs.Covered.{IsEditablePage}
use Rattle.wt_called_edit_laws.specs.ItemSpots.{ItemSpot, ArePlacedAfter, ArePlaced, AreContentsIn}
use Rattle.wt_called_edit_laws.specs.Parts.{all_left, AreCalled}
use Rattle.wt_called_edit_laws.specs.PlacedAmong.{AreCalm, StandAfter, Stand, IsPlacedAmong}
use Rattle.wt_called_edit_laws.proofs.Cells.ContentItems.{content_items}
use Rattle.wt_called_edit_laws.proofs.Parts.NoCallsCalled.{contents_after, calm_anywhere}

-- ---- its parts are read by themselves

-- a page whose parts are read so, from a block on
pub record PartsRead (s : BlockSpot) (ss : List BlockSpot) (behind : List ℕ) : Type 0 where
  pub first : IsRead s
  pub rest : AreReadAfter ss behind
  pub ends : EndBeforeBlocks (s ∷ ss) behind

further_read : (ss : List BlockSpot) (behind : List ℕ) (zs : List Item) → page_items (spots_source ss behind) ≡ zs → IsUtf8 (spots_source ss behind)
    → AreFurtherCuts ss behind zs → AreCalm ss → AreFree ss → AreReadAfter ss behind × EndBeforeBlocks ss behind
further_read [] behind zs e u h c f =
    let begins = there_begins behind h in
    ((record { uncommented = begins.is }, u, ends_line behind h), tt)
further_read (s ∷ ss) behind zs e u h c f =
    let r = spot_read s (spots_source ss behind) zs h.0 e u h.1 (further_there ss behind h.0.rest h.4) h.3
    (λ d a b. block_content s.block s.text h.0.own a b (subst CallsNothing a.unended c.0) f.0) in
    let more = further_read ss behind h.0.rest r.rest_is r.rest_utf8 h.4 c.1 f.1 in (
      (record { led = h.1; before_utf8 = r.before_utf8; block = r.content }, begins_line s.before h.2, more.0),
      (r.ends, inr r.line, more.1),
    )

pub parts_read : (s : BlockSpot) (ss : List BlockSpot) (behind : List ℕ) → IsUtf8 (spots_source (s ∷ ss) behind) → AreCuts (s ∷ ss) behind → AreCalm (s ∷ ss)
    → AreFree (s ∷ ss) → PartsRead s ss behind
parts_read s ss behind u h c f =
    let page : List ℕ = spots_source (s ∷ ss) behind in
    let r = spot_read s (spots_source ss behind) (page_items page) h.0 refl u h.1 (further_there ss behind h.0.rest h.3) h.2
    (λ d a b. block_content s.block s.text h.0.own a b (subst CallsNothing a.unended c.0) f.0) in
    let more = further_read ss behind h.0.rest r.rest_is r.rest_utf8 h.3 c.1 f.1 in
    record {
      first = record { led = h.1; before_utf8 = r.before_utf8; block = r.content };
      rest = more.0;
      ends = (r.ends, inr r.line, more.1);
    }

-- ---- the blocks call nothing

calm_blocks : (ss : List BlockSpot) → AreContents ss → AreCalm ss → CallNothing ss
calm_blocks [] h c = tt
calm_blocks (s ∷ ss) h c =
    let own : IsContent s.block s.text = h.0 in
    (subst CallsNothing own.unended c.0, calm_blocks ss h.1 c.1)

-- ---- they stand at their places

contents_in : (pages : Pages) (k : ℕ) (ss : List BlockSpot) → AreContents ss → AreContentsIn (spots_among pages k ss)
contents_in pages k [] h = tt
contents_in pages k (s ∷ ss) h = (content_items s.block s.text h.0, contents_in pages (k + calls_in pages s.before) ss h.1)

placed_after : (last : TextBlock) (bs : List Bool) (ss : List ItemSpot) (behind : List Item) → AreContentsIn ss → StandAfter last bs ss behind
    → ArePlacedAfter last bs ss behind
placed_after last bs [] behind c h = h
placed_after last bs (s ∷ ss) behind c h =
    (h.0, (c.0, h.1, h.2), placed_after s.block (open_behind_part bs (past_break s.before)) ss behind c.1 h.3)

pub placed : (ss : List ItemSpot) (behind : List Item) → AreContentsIn ss → Stand ss behind → ArePlaced ss behind
placed [] behind c h = h
placed (s ∷ ss) behind c h = ((c.0, h.0, h.1), placed_after s.block (open_behind_part [] s.before) ss behind c.1 h.2)

-- ---- the page

-- where no call goes over the end of a part
pub parts_called : (pages : Pages) (s : BlockSpot) (ss : List BlockSpot) (behind : List ℕ) → PartsRead s ss behind → AreCalm (s ∷ ss) → NonePairs (all_left (s ∷ ss) behind)
    → AreCalled pages (s ∷ ss) behind
parts_called pages s ss behind r c apart =
    let contents : AreContents (s ∷ ss) = (r.first.block, contents_after ss behind r.rest) in (
      read_spot s r.first,
      read_spots ss behind r.rest,
      record { end_before = r.ends; anywhere = calm_anywhere pages (s ∷ ss) contents (calm_blocks (s ∷ ss) contents c); apart = apart },
    )

pub placed_among : (pages : Pages) (ss : List BlockSpot) (behind : List ℕ) → IsPlacedAmong pages ss behind → AreAmongCalls pages ss behind
placed_among pages [] behind h = absurd h.cuts
placed_among pages (s ∷ ss) behind h =
    let r : PartsRead s ss behind = parts_read s ss behind h.utf8 h.cuts h.calm h.free in
    let contents : AreContents (s ∷ ss) = (r.first.block, contents_after ss behind r.rest) in
    record {
      called = parts_called pages s ss behind r h.calm h.apart;
      contents = contents;
      calm = calm_blocks (s ∷ ss) contents h.calm;
      placed = placed (spots_among pages 0 (s ∷ ss)) (items_behind pages 0 (s ∷ ss) behind) (contents_in pages 0 (s ∷ ss) contents) h.stand;
    }

pub placed_editable : (pages : Pages) (ss : List BlockSpot) (behind : List ℕ) → IsPlacedAmong pages ss behind → IsEditablePage pages ss behind
placed_editable pages ss behind h =
    record { among = placed_among pages ss behind h; unrefused = h.unrefused; in_no_group = h.in_no_group }

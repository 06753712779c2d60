-- One block that the lines of an expanded page tell, all of whose lines are the page's own: it is read so by itself.
use Rattle.std.proofs.Common.{arith, ◌≡◌, inl, ℕ, ◌+◌, None, List, [], ◌∷◌, ◌++◌, length, map, refl, sym, ap, ◌∙◌, subst}
use Rattle.std.specs.Str.{IsUtf8}
use Rattle.wt_span.specs.Items.{Item, char, sources}
use Rattle.wt_span.specs.Origins.{OuterCall}
use Rattle.wt_span.specs.Runs.{AreRuns}
use Rattle.wt_span.proofs.RunLaws.{runs_are}
use Rattle.wt_annotated.specs.Seams.{text_from}
use Rattle.wt_expand.specs.PageCalls.{expanded_page}
use Rattle.wt_expand.specs.PageItems.{page_items}
use Rattle.wt_expand.specs.Work.{Pages}
use Rattle.wt_expand.proofs.PageLaws.{page_sources}
use Rattle.wt_lines.specs.Lines.{goes_on, content, full_lines}
use Rattle.wt_page.specs.Lines.{ending}
use Rattle.wt_tables.specs.Parts.{joined}
use Rattle.wt_text_edit_laws.specs.BlockSpots.{BlockSpot, spots_source}
use Rattle.wt_text_edit_laws.specs.Contents.{IsContentOf, IsContent}
use Rattle.wt_text_edit_laws.specs.NoCalls.{CallsNothing}
use Rattle.wt_text_edit_laws.specs.PageCuts.{IsSpotCut, EndsThere, EndsClosed, EndClosed, IsFreeBlock}
use Rattle.wt_text_edit_laws.specs.TextBlocks.{TextBlock, source_of, block_items}
use Rattle.wt_text_edit_laws.proofs.Cuts.TextLines.{joined_is, runs_behind}
use Rattle.wt_beside_laws.proofs.Derived.BlockContents.{ReadAlone, BlockRead, block_content}
use Rattle.wt_beside_laws.proofs.Derived.CutPages.{SpotRead, spot_read}
use Rattle.wt_called_edit_laws.specs.AnyBlocks.{open_after}
use Rattle.wt_called_edit_laws.specs.LinedAmong.{spots_of_lines, end_of_lines, AreBeside, AreOwnLines, AreUntouched}
use Rattle.wt_called_edit_laws.specs.PlacedLines.{LinedBlock, all_lines, IsLinedAt, lead_of, front_rows}
use Rattle.wt_called_edit_laws.specs.ToldLines.{Told, lined, rows_before, AreTold}
use Rattle.wt_called_edit_laws.proofs.Among.BlockAt.{calls_of, IsRest, text_to}
use Rattle.wt_called_edit_laws.proofs.Among.LinedParts.{IsLinedHere, lined_here, block_front, ends_text, spot_of, spot_source, page_rest}
use Rattle.wt_called_edit_laws.proofs.Among.ToldAmong.{closed_here, told_at}
use Rattle.wt_called_edit_laws.proofs.Cells.ContentItems.{round_is, items_by}
use Rattle.wt_called_edit_laws.proofs.Cells.PlacedLines.{own_items}
use Rattle.wt_called_edit_laws.proofs.Told.OwnReads.{OwnRead}
use Rattle.wt_called_edit_laws.proofs.AllTold.Chosen.{IsOwnBehind}
use Rattle.wt_called_edit_laws.proofs.AllTold.LineKinds.{Lines}
use Rattle.wt_called_edit_laws.proofs.AllTold.OwnTrees.{OwnRound, stay_so}

-- ---- its lines

-- what tells it
pub record IsAloneTold (pages : Pages) (page : List ℕ) (o : Told) (rest : Lines) : Type 0 where
  pub utf8 : IsUtf8 page
  pub closed : EndClosed (spots_of_lines pages page (map lined (o ∷ []))) (end_of_lines pages page (map lined (o ∷ [])) rest)
  pub are : full_lines (expanded_page pages page).items ≡ all_lines (lined o ∷ []) rest
  pub told : AreTold (o ∷ []) rest
  pub place : IsOwnBehind (expanded_page pages page) (joined (lined o).before) o

pub beside_line : (pages : Pages) (page : List ℕ) (o : Told) (rest : Lines) → IsAloneTold pages page o rest
    → AreBeside (text_to pages page 0 (block_front [] (lined o))) (text_to pages page 0 (block_front [] (lined o)) + length (sources (own_items (lined o))))
    (expanded_page pages page).text_calls
beside_line pages page o rest h =
    let n : ℕ = length (text_from (calls_of pages page) None (joined (lined o).before ++ lead_of (lined o))) in
    let z : n ≡ 0 + n = omega arith in
    subst (λ (m : ℕ). AreBeside m (m + length (sources (own_items (lined o)))) (expanded_page pages page).text_calls) z h.place.beside

-- its lines are the page's own
pub alone_own : (pages : Pages) (page : List ℕ) (o : Told) (rest : Lines) → IsAloneTold pages page o rest → AreOwnLines (map lined (o ∷ []))
alone_own pages page o rest h = (h.place.own, h.place.calm, tt)

pub alone_untouched : (pages : Pages) (page : List ℕ) (o : Told) (rest : Lines) → IsAloneTold pages page o rest
    → AreUntouched (expanded_page pages page).outer (expanded_page pages page).text_calls 0 [] (map lined (o ∷ []))
alone_untouched pages page o rest h = (beside_line pages page o rest h, tt)

-- it is at its place
pub record IsAloneHere (pages : Pages) (page : List ℕ) (o : Told) (rest : Lines) : Type 0 where
  pub at : IsLinedAt [] (lined o)
  pub here : IsLinedHere pages page [] [] (lined o) rest 0 (page_items page)
  pub runs : AreRuns goes_on (((lead_of (lined o) ++ (lined o).first) ∷ (lined o).more) ++ rest)
      (joined (((lead_of (lined o) ++ (lined o).first) ∷ (lined o).more) ++ rest))

pub alone_here : (pages : Pages) (page : List ℕ) (o : Told) (rest : Lines) → IsAloneTold pages page o rest → IsAloneHere pages page o rest
alone_here pages page o rest h =
    let b : LinedBlock = lined o in
    let ks : Lines = (lead_of b ++ b.first) ∷ b.more in
    let lines : Lines = b.before ++ (ks ++ rest) in
    let xs : List Item = (expanded_page pages page).items in
    let runs : AreRuns goes_on lines xs = subst (λ (ms : Lines). AreRuns goes_on ms xs) h.are (runs_are goes_on xs) in
    let all : xs ≡ joined lines = joined_is goes_on lines xs runs in
    let r : IsRest pages page 0 ([] ++ joined lines) (page_items page) = page_rest pages page lines all in
    let beside = beside_line pages page o rest h in
    let at : IsLinedAt [] b = told_at pages page [] o 0 [] rest (page_items page) xs runs r h.place.own beside
    (closed_here (calls_of pages page) o (open_after [] (rows_before [] o)) [] rest h.told.1 h.closed.0) h.told.0 in
    record {
      at = at;
      here = lined_here pages page [] [] b rest 0 (page_items page) xs runs (inl refl) r at h.place.own beside;
      runs = runs_behind goes_on b.before (ks ++ rest) xs runs;
    }

-- ---- what is read of it

pub own_round : (pages : Pages) (page : List ℕ) (o : Told) (rest : Lines) → IsAloneHere pages page o rest → IsContentOf (lined o).block (lined o).text
    → block_items (lined o).block (lined o).text ≡ content (own_items (lined o)) → OwnRound (lined o) rest
own_round pages page o rest h is own_is =
    let b : LinedBlock = lined o in
    let items = sym (round_is b.block b.text) ∙ own_is in
    record {
      items = items;
      are = items_by b.block b.text is;
      stays = stay_so b.sign b.block (length (open_after [] (front_rows 0 b))) (page_items b.text) (content (own_items b)) items h.here.stays;
      round = h.here.around;
      runs = h.runs;
    }

-- ---- it is a content, where by itself it is free

-- what is known of a block as soon as it is read so
abbrev pub FreeWhereRead : TextBlock → List ℕ → List Item → Type 0
FreeWhereRead k q own = OwnRead k q → block_items k q ≡ own → IsFreeBlock k q

-- a line break behind a content is read as one
pub content_closed : (k : TextBlock) (q : List ℕ) → IsContent k q → EndsClosed (source_of k q) []
content_closed k q c = c.ended ∙ ap (λ (xs : List Item). xs ++ char None 10 ∷ []) (sym c.unended)

pub record IsAloneRead (pages : Pages) (page : List ℕ) (o : Told) : Type 0 where
  pub is_content : IsContent (lined o).block (lined o).text
  pub read : OwnRead (lined o).block (lined o).text
  pub items : block_items (lined o).block (lined o).text ≡ content (own_items (lined o))

pub alone_read : (pages : Pages) (page : List ℕ) (o : Told) (rest : Lines) → IsAloneTold pages page o rest → IsAloneHere pages page o rest
    → FreeWhereRead (lined o).block (lined o).text (content (own_items (lined o))) → IsAloneRead pages page o
alone_read pages page o rest t h free =
    let b : LinedBlock = lined o in
    let calls : List OuterCall = calls_of pages page in
    let own : List Item = content (own_items b) in
    let l : IsLinedHere pages page [] [] b rest 0 (page_items page) = h.here in
    let s : BlockSpot = spot_of pages page [] b in
    let behind : List ℕ = sources l.here.behind in
    let c : IsSpotCut s (page_items page) = record {
      before = l.here.before;
      own = own;
      rest = l.here.behind;
      is = l.here.is;
      source = l.here.source;
      block = l.block;
    } in
    let whole : spots_source (s ∷ []) behind ≡ page = spot_source pages page [] [] b rest 0 (page_items page) l [] behind refl ∙ page_sources page in
    let there : EndsThere behind = subst EndsThere l.here.next.same (ends_text calls (ending (own_items b)) rest l.around.own_ending l.around.ends) in
    let r : SpotRead s behind l.here.behind =
    spot_read s behind (page_items page) c (ap page_items whole) (subst IsUtf8 (sym whole) t.utf8) t.place.led there (subst (EndsClosed (source_of b.block b.text)) l.here.next.same t.closed.0)
    (λ d a m. block_content b.block b.text own a m t.place.calm (free (read_of a m) m.items)) in
    let k : IsContent b.block b.text = r.content in
    let items : block_items b.block b.text ≡ own = sym k.unended ∙ l.here.alone in
    record {
      is_content = k;
      read = record { utf8 = k.utf8; is = k.is; unended = k.unended; calm = subst CallsNothing (sym items) t.place.calm };
      items = items;
    }
  where
    read_of : ReadAlone (source_of (lined o).block (lined o).text) (content (own_items (lined o)))
        → BlockRead (lined o).block (lined o).text (content (own_items (lined o))) → OwnRead (lined o).block (lined o).text
    read_of a m = record {
      utf8 = m.utf8;
      is = m.is;
      unended = a.unended ∙ sym m.items;
      calm = subst CallsNothing (sym m.items) t.place.calm;
    }

-- Contents are edited in paragraphs and headings among calls.
use Rattle.std.proofs.Common.{◌≡◌, ℕ, List, map, refl}
use Rattle.wt_devices.specs.Device.{Pages}
use Rattle.wt_typed_blocks.specs.Edited.{Edits}
use Rattle.wt_typed_blocks.specs.EditedUnmarked.{AreTold}
use Rattle.wt_text_edit_laws.specs.BlockSpots.{BlockSpot, spots_source}
use Rattle.wt_called_edit_laws.specs.CalledBlocks.{tree_by}
use Rattle.wt_called_edit_laws.specs.CalledPages.{IsCalledPage}
use Rattle.wt_called_edit_laws.specs.CalledTexts.{spots_tree}
use Rattle.wt_called_edit_laws.specs.ContentsTaken.{TakesContents}
use Rattle.wt_called_edit_laws.specs.EditsAt.{edited_by, IsContentEdit, IsUnmarkedContentEdit}
use Rattle.wt_called_edit_laws.specs.Nodes.{block_at}
use Rattle.wt_called_edit_laws.specs.TreeEdits.{IsNumberedBody}
use Rattle.wt_called_edit_laws.proofs.BlocksMade.{all_inline}
use Rattle.wt_called_edit_laws.proofs.EditFacts.{IsFramedPage, framed_page, paths_of, new_spots, spots_utf8, spots_body, spots_stand, well_sent}
use Rattle.wt_called_edit_laws.proofs.EditTaken.{IsExpandable, MakesFrom, edit_done, edit_spliced, unmarked_done}
use Rattle.wt_called_edit_laws.proofs.Leads.{edit_at}
use Rattle.wt_called_edit_laws.proofs.LocalEdits.{local_change, expands_alike}
use Rattle.wt_called_edit_laws.proofs.NodesTold.{found_apart}
use Rattle.wt_called_edit_laws.proofs.OwnContents.{own_contents}

pub numbered_body : (pages : Pages) (ss : List BlockSpot) (behind : List ℕ) → IsCalledPage pages ss behind → IsNumberedBody (spots_tree pages ss behind)
numbered_body pages ss behind h = let b = spots_body pages ss behind h in record { body = b.kind; numbered = b.numbered; alone = b.unframed }

expandable : (pages : Pages) (ss : List BlockSpot) (behind : List ℕ) → IsCalledPage pages ss behind → IsExpandable pages (spots_source ss behind)
expandable pages ss behind h = record { utf8 = spots_utf8 pages ss behind h; unrefused = h.unrefused }

makes_from : (pages : Pages) (ss : List BlockSpot) (behind : List ℕ) (f : IsFramedPage pages ss behind) (es : Edits) → IsCalledPage pages ss behind
    → IsContentEdit (spots_tree pages ss behind) ss (paths_of f) es → MakesFrom pages (spots_source ss behind) (spots_source (new_spots f es) behind) es
makes_from pages ss behind f es h e =
    let m = well_sent pages ss behind f es h e in
    record {
      was = expandable pages ss behind h;
      now = expandable pages (new_spots f es) behind (f.again (new_spots f es) m.retyped);
      old = e.old;
      sent = e.sent;
      outside = m.outside;
      taken = m.taken;
      lie = m.lie;
      apart = m.apart;
      source = m.new;
      shows = m.shows;
    }

told : (pages : Pages) (ss : List BlockSpot) (behind : List ℕ) (f : IsFramedPage pages ss behind) (es : Edits) → IsCalledPage pages ss behind
    → IsUnmarkedContentEdit (spots_tree pages ss behind) ss (paths_of f) es → AreTold es
told pages ss behind f es h e =
    let m = well_sent pages ss behind f es h e.edit in
    found_apart (spots_tree pages ss behind) f.nodes (edit_at (map (edited_by es) (paths_of f))) (block_at (tree_by ss)) es (numbered_body pages ss behind h) f.holders
    m.sends e.edit.old m.old (all_inline ss (map (edited_by es) (paths_of f)) m.made) e.own

pub contents_by : (pages : Pages) (ss : List BlockSpot) (behind : List ℕ) → IsFramedPage pages ss behind → IsCalledPage pages ss behind → TakesContents pages ss behind
contents_by pages ss behind f h = record {
  paths = paths_of f;
  stand = spots_stand pages ss behind f h;
  edits = own_contents (spots_tree pages ss behind) ss f.nodes (numbered_body pages ss behind h) (spots_stand pages ss behind f h);
  takes = λ b es e le. edit_done pages (spots_source ss behind) (spots_source (new_spots f es) behind) es b (makes_from pages ss behind f es h e) le;
  makes = λ b es e. edit_spliced pages (spots_source ss behind) (spots_source (new_spots f es) behind) es b (makes_from pages ss behind f es h e);
  unmarked = λ stands input b unsourced es e found short le small is.
      unmarked_done pages (spots_source ss behind) (spots_source (new_spots f es) behind) es b stands input unsourced (makes_from pages ss behind f es h e.edit)
      (told pages ss behind f es h e) found short le small is;
  again = λ es e. let m = well_sent pages ss behind f es h e in f.again (new_spots f es) m.retyped;
  local = λ es e. local_change pages ss behind f es h e;
  alike = λ es e. expands_alike pages ss behind f es h e;
}

pub contents_paths : (pages : Pages) (ss : List BlockSpot) (behind : List ℕ) (f : IsFramedPage pages ss behind) (h : IsCalledPage pages ss behind)
    → (contents_by pages ss behind f h).paths ≡ paths_of f
unfolding contents_by
contents_paths pages ss behind f h = refl

pub contents_taken : (pages : Pages) (ss : List BlockSpot) (behind : List ℕ) → IsCalledPage pages ss behind → TakesContents pages ss behind
contents_taken pages ss behind h = contents_by pages ss behind (framed_page pages ss behind h) h

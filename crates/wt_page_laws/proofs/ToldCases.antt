-- Worked cases of what is accepted.
use Rattle.std.proofs.Common.{◌≡◌, refl, [], ◌∷◌, None}
use Rattle.std.specs.Prelude.{Ok, Err, codes}
use Rattle.serde_json.specs.Data.{unsigned, number, string, array, object, item, no_items, member, no_members}
use Rattle.wt_tree.specs.declared.node.DataMw.TheVariants as mw
use Rattle.wt_tree.specs.declared.node.Part.TheVariants as part
use Rattle.wt_tree.specs.declared.kind.Ranges.{Ranges}
use Rattle.wt_datamw.specs.declared.refusal.DataWhy.TheVariants as why
use Rattle.wt_datamw.specs.Sync.{dsr_data}
use Rattle.wt_datamw.specs.SyncRead.{is_sync_shape, sync_of_data}
use Rattle.wt_datamw.specs.MwRead.{is_mw_shape, has_small_numbers, mw_of_data}

-- a key more than is written
further_key : mw_of_data (object (member (codes "parts") (array (item (object (member (codes "param") (object
    (member (codes "title") (string []) (member (codes "wt") (string (codes "x")) no_members))) no_members)) no_items)) no_members)) ≡ Err why.Shape
unfolding mw_of_data is_mw_shape has_small_numbers
further_key = refl

-- and just what is written
argument : mw_of_data (object (member (codes "parts") (array (item (object (member (codes "param") (object
    (member (codes "wt") (string (codes "x")) no_members)) no_members)) no_items)) no_members)) ≡ Ok (mw.Parts (part.Param (codes "x") ∷ []))
unfolding mw_of_data is_mw_shape has_small_numbers
argument = refl

abbrev places : Ranges
places = record { start = 1; end = 5; open_w = 2; close_w = 0 }

-- an empty delimiter may stand, and says what a missing one says
empty_delimiter : sync_of_data (object (member (codes "dsr") (dsr_data places) (member (codes "o") (string []) no_members)))
    ≡ Ok (record { dsr = places; opening = []; closing = []; src = None })
unfolding sync_of_data is_sync_shape
empty_delimiter = refl

-- no other key may
further_place : sync_of_data (object (member (codes "dsr") (dsr_data places) (member (codes "x") (string []) no_members))) ≡ Err why.Shape
unfolding sync_of_data is_sync_shape
further_place = refl

-- nor a fifth place
fifth_place : sync_of_data (object (member (codes "dsr") (array (item (number (unsigned 1)) (item (number (unsigned 5)) (item (number (unsigned 2))
    (item (number (unsigned 0)) (item (number (unsigned 0)) no_items)))))) no_members)) ≡ Err why.Shape
unfolding sync_of_data is_sync_shape
fifth_place = refl

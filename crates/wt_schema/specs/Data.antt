-- What an element's `data-parsoid` and `data-mw` say, or that they are bad.
use Rattle.std.specs.Prelude.{ℕ, ◌==◌, ◌&&◌, ◌||◌, Bool, true, false, not, is_some, Option, Some, None, Result, Ok, Err, List, [], ◌∷◌, codes, if◌then◌else◌}
use Rattle.wt_tree.specs.declared.kind.Kind.{Kind}
use Rattle.wt_tree.specs.declared.kind.Kind.TheVariants as kind
use Rattle.wt_tree.specs.declared.kind.AttrName.TheVariants as attr
use Rattle.wt_tree.specs.declared.row.Payload.{Payload}
use Rattle.wt_tree.specs.declared.row.Payload.TheVariants.{NoData, ExtensionTag, GroupParts}
use Rattle.wt_tree.specs.declared.node.DataMw.{DataMw}
use Rattle.wt_tree.specs.declared.node.DataMw.TheVariants as mw
use Rattle.wt_tree.specs.Kinds.{is_leaf, is_numbered, is_section, payload, attribute_name}
use Rattle.wt_tree.specs.Values.{is_extension_type}
use Rattle.wt_datamw.specs.declared.sync.Sync.{Sync}
use Rattle.wt_datamw.specs.declared.refusal.DataWhy.{DataWhy}
use Rattle.wt_datamw.specs.SyncRead.{sync_told}
use Rattle.wt_datamw.specs.MwRead.{mw_told}
use Rattle.wt_html_grammar.specs.Markup.{Pair}
use Rattle.wt_schema.specs.declared.standing.Standing.{Standing}
use Rattle.wt_schema.specs.declared.standing.Standing.TheVariants as stands
use Rattle.wt_schema.specs.Attributes.{value_of, has, id_of}

abbrev pub is_empty : List ℕ → Bool
is_empty [] = true
is_empty (b ∷ bs) = false

-- a leaf has a source and no delimiters; another node has no source of its own
abbrev pub is_for : Kind → Sync → Bool
is_for k s = if is_leaf k then is_some s.src && (is_empty s.opening && is_empty s.closing) else not (is_some s.src)

abbrev pub sync_for : Kind → Result Sync DataWhy → Option Sync
sync_for k (Err w) = None
sync_for k (Ok s) = if is_for k s then Some s else None

abbrev pub some_sync : Option Sync → Option (Option Sync)
some_sync None = None
some_sync (Some s) = Some (Some s)

-- what `data-parsoid` says, where it is there; None where it is bad
abbrev pub sync_fits : Kind → Option (List ℕ) → Option (Option Sync)
sync_fits k None = Some None
sync_fits k (Some v) = some_sync (sync_for k (sync_told v))

-- an island of an extension has the data of one; elsewhere what `data-mw` says counts for nothing
abbrev pub is_tag_of : Payload → Option (List ℕ) → Bool
is_tag_of NoData t = false
is_tag_of ExtensionTag None = false
is_tag_of ExtensionTag (Some t) = is_extension_type t
is_tag_of GroupParts t = false

-- by its `typeof`
abbrev pub is_extension_of : Kind → Option (List ℕ) → Bool
is_extension_of k t = is_tag_of (payload k) t

abbrev pub extension_data : DataMw → Option (Option DataMw)
extension_data (mw.Extension name body) = Some (Some (mw.Extension name body))
extension_data (mw.Parts parts) = None

abbrev pub mw_for : Bool → Result DataMw DataWhy → Option (Option DataMw)
mw_for x (Err w) = None
mw_for x (Ok d) = if x then extension_data d else Some None

abbrev pub mw_fits : Bool → Option (List ℕ) → Option (Option DataMw)
mw_fits x None = if x then None else Some None
mw_fits x (Some v) = mw_for x (mw_told v)

-- both of a node
pub record Data : Type 0 where
  pub sync : Option Sync
  pub mw : Option DataMw

abbrev pub both : Option (Option Sync) → Option (Option DataMw) → Option Data
both (Some s) (Some d) = Some (record { sync = s; mw = d })
both s d = None

-- The data of a node by itself, in no group; None where it is bad. A section may not have the mark of an edit.
abbrev pub data_of : Kind → List Pair → Option Data
data_of k ps =
    if is_section k && has (codes "data-wt-edit") ps then None
    else both (sync_fits k (value_of (codes "data-parsoid") ps))
    (mw_fits (is_extension_of k (value_of (attribute_name attr.Typeof) ps)) (value_of (codes "data-mw") ps))

-- ---- groups

-- a node in a group has neither a number nor a source of its own
abbrev pub has_own : List Pair → Bool
has_own ps = has (codes "data-parsoid") ps || not (id_of ps == 0)

abbrev pub no_data : Data
no_data = record { sync = None; mw = None }

abbrev pub no_data_if_good : Option (Option DataMw) → Option Data
no_data_if_good None = None
no_data_if_good (Some d) = Some no_data

-- `data-mw` in a group isn't needed: what is there must be good, and counts for nothing
abbrev pub mw_given : Bool → Option (List ℕ) → Option (Option DataMw)
mw_given x None = Some None
mw_given x (Some v) = mw_for x (mw_told v)

abbrev pub inner_data : Kind → List Pair → Option Data
inner_data k ps =
    if has_own ps then None
    else no_data_if_good (mw_given (is_extension_of k (value_of (attribute_name attr.Typeof) ps)) (value_of (codes "data-mw") ps))

-- a group has its parts
abbrev pub parts_in : Result DataMw DataWhy → Option (Option DataMw)
parts_in (Err w) = None
parts_in (Ok (mw.Extension name body)) = None
parts_in (Ok (mw.Parts parts)) = Some (Some (mw.Parts parts))

abbrev pub parts_of : Option (List ℕ) → Option (Option DataMw)
parts_of None = None
parts_of (Some v) = parts_in (mw_told v)

-- the data of a group, which is in another one or not
abbrev pub group_data : Bool → List Pair → Option Data
group_data true ps = if has_own ps then None else both (Some None) (parts_of (value_of (codes "data-mw") ps))
group_data false ps = both (sync_fits kind.Group (value_of (codes "data-parsoid") ps)) (parts_of (value_of (codes "data-mw") ps))

-- of a node by itself, in a group or not
abbrev pub data_alone : Bool → Kind → List Pair → Option Data
data_alone true k ps = inner_data k ps
data_alone false k ps = data_of k ps

-- by how an element is, in a group or not
abbrev pub data_for : Bool → Standing → Kind → List Pair → Option Data
data_for x stands.Alone k ps = data_alone x k ps
data_for x stands.First k ps = group_data x ps
data_for x stands.Further k ps = inner_data k ps
data_for x stands.Astray k ps = None

-- the number, of kinds that have one
abbrev pub id_for : Kind → List Pair → ℕ
id_for k ps = if is_numbered k then id_of ps else 0

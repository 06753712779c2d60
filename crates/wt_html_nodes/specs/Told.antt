-- What contracts see in what is gathered of an element.
use Rattle.std.specs.Prelude.{ℕ, Bool, true, Option, Some, None, List, []}
use Rattle.wt_tree.specs.declared.node.DataMw.{DataMw}
use Rattle.wt_datamw.specs.declared.sync.Sync.{Sync}
use Rattle.wt_html_grammar.specs.Markup.{Markup, text, node}
use Rattle.wt_schema.specs.Data.{Data as NodeData}
use Rattle.wt_recut.specs.Recut.{is_blank}
use Rattle.wt_html_nodes.specs.declared.data.SyncData.{SyncData}
use Rattle.wt_html_nodes.specs.declared.data.SyncData.TheVariants as syncs
use Rattle.wt_html_nodes.specs.declared.data.MwData.{MwData}
use Rattle.wt_html_nodes.specs.declared.data.MwData.TheVariants as mws
use Rattle.wt_html_nodes.specs.declared.data.Data.{Data}
use Rattle.wt_html_nodes.specs.declared.data.Data.TheVariants as datas

-- what `data-parsoid` says, where it is good
abbrev pub sync_said : SyncData → Option (Option Sync)
sync_said syncs.Bad = None
sync_said (syncs.Good s) = Some s

-- what `data-mw` says, where it is good
abbrev pub mw_said : MwData → Option (Option DataMw)
mw_said mws.Bad = None
mw_said (mws.Good d) = Some d

abbrev pub data_both : Option Sync → Option DataMw → NodeData
data_both s d = record { sync = s; mw = d }

-- what both say, where they are good
abbrev pub data_said : Data → Option NodeData
data_said datas.Bad = None
data_said (datas.Good s d) = Some (data_both s d)

abbrev pub is_blank_or_element : Markup → Bool
is_blank_or_element (text bs) = is_blank bs
is_blank_or_element (node name ps c) = true

-- the text that it is
abbrev pub text_in : Markup → List ℕ
text_in (text bs) = bs
text_in (node name ps c) = []

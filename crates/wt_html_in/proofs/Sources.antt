-- The label of an element with what `data-parsoid` tells of its source.
use Rattle.std.proofs.Common.{◌≡◌, Option, Some, None, refl}
use Rattle.wt_datamw.specs.declared.sync.Sync.{Sync}
use Rattle.wt_schema.specs.Fit.{with_sync}
use Rattle.wt_html_nodes.specs.declared.head.Head.{Head}
use Rattle.wt_html_nodes.specs.Heads.{bare_label}
use Rattle.wt_html_in.specs.Sources.{source_told, sourced_label}

pub sourced_is : (h : Head) (o : Option Sync) → sourced_label h (source_told o) ≡ with_sync (bare_label h) o
sourced_is h None = refl
sourced_is h (Some s) = refl

-- The ranges, delimiters and source of a node, as `data-parsoid` says them.
use Rattle.std.specs.Prelude.{ℕ, Option, Some, None, List, []}
use Rattle.wt_tree.specs.declared.kind.Ranges.{Ranges}
use Rattle.wt_tree.specs.Tree.{Label}
use Rattle.wt_tree.specs.View.{texts_of, attrs_of}
use Rattle.wt_datamw.specs.declared.sync.Sync.{Sync}
use Rattle.wt_schema.specs.Fit.{source_of}
use Rattle.wt_html_nodes.specs.declared.head.Head.{Head}
use Rattle.wt_html_in.specs.declared.nodes.ReadSource.{ReadSource}

pub record Told : Type 0 where
  pub ranges : Option Ranges
  pub opening : List ℕ
  pub closing : List ℕ
  pub own : List ℕ

abbrev pub source_view : ReadSource → Told
source_view s = record { ranges = s.ranges; opening = texts_of s.opening; closing = texts_of s.closing; own = texts_of s.own }

abbrev pub source_told : Option Sync → Told
source_told None = record { ranges = None; opening = []; closing = []; own = [] }
source_told (Some s) = record { ranges = Some s.dsr; opening = s.opening; closing = s.closing; own = source_of s.src }

-- the label of an element with this source
abbrev pub sourced_label : Head → Told → Label
sourced_label h t =
    record {
      kind = h.kind;
      id = h.id;
      ranges = t.ranges;
      opening = t.opening;
      closing = t.closing;
      own = t.own;
      shown = h.shown;
      attrs = attrs_of h.attrs;
      origin = None;
      mark = h.mark;
      mw = h.mw;
    }

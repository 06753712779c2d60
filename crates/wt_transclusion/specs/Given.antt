-- What pieces give.
use Rattle.std.specs.Prelude.{Option, Some, None, List, []}
use Rattle.wt_span.specs.declared.form.Piece.{Piece}
use Rattle.wt_span.specs.Items.{Item, items_of}

-- of a piece, where there is one
abbrev pub option_items : Option Piece → List Item
option_items None = []
option_items (Some p) = items_of p

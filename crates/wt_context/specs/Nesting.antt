-- Every context is read in the same way, whatever it is in.
use Rattle.std.specs.Prelude.{◌≡◌, ◌≤◌, List}
use Rattle.wt_span.specs.Items.{Item}
use Rattle.wt_tiles.specs.declared.context.Context.{Context}
use Rattle.wt_tiles.specs.declared.read.TheConstants.{MOST_PAIRS}
use Rattle.wt_context.specs.Nodes.{Reading}
use Rattle.wt_context.specs.Line.{read_by}

-- The parts of a context in at most `MOST_PAIRS` pairs are its segments with styles round them, where what is inside its tiles is
-- read so again.
abbrev pub IsReading : Reading → Type 0
IsReading read = (cx : Context) (xs : List Item) → cx.pairs ≤ MOST_PAIRS → read cx xs ≡ read_by read cx xs

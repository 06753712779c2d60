-- Contexts: a line, the text of a link, the inside of a pair of tags.
use Rattle.std.specs.Prelude.{◌+◌, true, false}
use Rattle.wt_tiles.specs.declared.context.Context.{Context}

-- a line or a cell
abbrev pub in_line : Context
in_line = record { in_link = false; pairs = 0 }

-- the text of a link that is here
abbrev pub in_text : Context → Context
in_text cx = record { in_link = true; pairs = cx.pairs }

-- the inside of a pair of tags that is here
abbrev pub in_pair : Context → Context
in_pair cx = record { in_link = cx.in_link; pairs = cx.pairs + 1 }

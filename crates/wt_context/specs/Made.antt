-- Children that these parts alone have made.
use Rattle.std.specs.Prelude.{List, [], None}
use Rattle.wt_inline.specs.Parts.{Part}
use Rattle.wt_inline.specs.Grown.{Grown, Grows}

-- what is in a node
abbrev pub Inside : Type 0
Inside = List Part

-- nothing, with these parts after it
abbrev pub IsMade : Grown → Inside → Type 0
IsMade g ps = Grows (record { trees = []; run = None }) ps g

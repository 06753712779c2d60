-- What the code's own type means.
use Rattle.std.specs.Prelude.{List, map}
use Rattle.wt_splice.specs.declared.splice.Change.{Change as Made}
use Rattle.wt_splice.specs.Splice.{Change}

abbrev pub change_view : Made → Change
change_view c = record { start = c.start; end = c.end; by = c.by }

abbrev pub changes_view : List Made → List Change
changes_view cs = map change_view cs

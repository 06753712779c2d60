-- How far a walk over items has come: the call of the last one, and how many bytes of the page stand for those that were read.
use Rattle.std.specs.Prelude.{ℕ, ◌+◌, Option, List, length}
use Rattle.wt_span.specs.Items.{Item}
use Rattle.wt_span.specs.Origins.{OuterCall}
use Rattle.wt_annotated.specs.declared.page_text.Progress.{Progress}
use Rattle.wt_annotated.specs.Seams.{last_of, text_from}

-- after an item of this call, with nothing read
abbrev pub outset : Option ℕ → Progress
outset o = record { last = o; width = 0 }

-- with these items read from there on
abbrev pub past : List OuterCall → Progress → List Item → Progress
past calls p xs = record { last = last_of p.last xs; width = p.width + length (text_from calls p.last xs) }

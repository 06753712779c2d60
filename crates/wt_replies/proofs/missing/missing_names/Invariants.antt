use Rattle.std.proofs.Common.{◌≡◌, take}
use Rattle.wt_replies.specs.Tables.{missing_names}
use Rattle.wt_replies.specs.Indexes.{entries_of}
use Rattle.wt_replies.proofs.missing.missing_names.Given as goal

abbrev pub invariant-loop-name : goal.invariant-loop-name
invariant-loop-name l = l.out ≡ missing_names (entries_of l.index) (take l.name-index l.names)

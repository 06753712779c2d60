use Rattle.std.proofs.Common.{◌≡◌, true, take}
use Rattle.std.specs.List.{list_all}
use Rattle.wt_datamw.specs.JsonText.{stands_for_itself}
use Rattle.wt_datamw.proofs.json_text.plain_len.Given as goal

abbrev pub invariant-loop-i : goal.invariant-loop-i
invariant-loop-i l = list_all stands_for_itself (take l.i l.bytes) ≡ true

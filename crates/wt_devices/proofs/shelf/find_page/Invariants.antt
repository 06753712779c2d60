use Rattle.std.proofs.Common.{◌≡◌, drop}
use Rattle.wt_devices.specs.Shelf.{look_up}
use Rattle.wt_devices.proofs.shelf.find_page.Given as goal

-- what is left of the entries decides
abbrev pub invariant-loop-title : goal.invariant-loop-title
invariant-loop-title l = look_up l.entries l.name ≡ look_up (drop l.title-index l.entries) l.name

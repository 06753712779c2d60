-- That a call has its target.
use Rattle.std.specs.Prelude.{ℕ, ◌<◌, length}
use Rattle.wt_braces.specs.declared.call.Call.{Call}

-- a call has a first part: its target, or the name of an argument
abbrev pub HasTarget : Call → Type 0
HasTarget c = 0 < length c.parts

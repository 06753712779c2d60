-- What is a fault of a device, and what its counts before and after a call say of that.
use Rattle.std.specs.Prelude.{◌≡◌, ℕ, ◌+◌, ◌<◌, ◌≤◌, ◌↔◌, List, length, Result, Ok, Err, ⊤}
use Rattle.wt_devices.specs.declared.device.Failed.{Failed}
use Rattle.wt_devices.specs.declared.device.Fetched.{Fetched}
use Rattle.wt_devices.specs.declared.device.FetchRefusal.{FetchRefusal}
use Rattle.wt_devices.specs.declared.device.FetchRefusal.TheVariants as refusals

-- a read that fails
abbrev pub IsReadFault : Result ℕ Failed → Type 0
IsReadFault (Ok n) = ⊥
IsReadFault (Err e) = ⊤

-- a write that fails, or takes nothing of a piece that isn't empty
abbrev pub IsWriteFault : List ℕ → Result ℕ Failed → Type 0
IsWriteFault piece (Ok n) = (n ≡ 0) × (0 < length piece)
IsWriteFault piece (Err e) = ⊤

-- a fetch that fails; want of memory is no fault
abbrev pub IsFetchFault : Result Fetched FetchRefusal → Type 0
IsFetchFault (Ok fetched) = ⊥
IsFetchFault (Err refusals.Failed) = ⊤
IsFetchFault (Err refusals.NoMemory) = ⊥

-- the count is larger afterwards exactly where there was a fault, then by one, and never smaller
pub record Tells (fault : Type 0) (before now : ℕ) : Type 0 where
  pub told : fault ↔ (before < now)
  pub once : now ≤ before + 1
  pub later : before ≤ now

-- What a call of a device does to what the device holds, where it says that, and to its count of faults.
use Rattle.std.specs.Prelude.{◌≡◌, ℕ, ◌+◌, ◌-◌, ◌^◌, ◌<◌, ◌≤◌, min, List, length, take, Option, Some, None, option_map, ⊤, OnOk, OnErr, IfOk, Result, MatchResult}
use Rattle.wt_devices.specs.declared.device.Failed.{Failed}
use Rattle.wt_devices.specs.declared.device.Fetched.{Fetched}
use Rattle.wt_devices.specs.declared.device.Fetched.TheVariants.{Found, Absent}
use Rattle.wt_devices.specs.declared.device.FetchRefusal.{FetchRefusal}
use Rattle.wt_devices.specs.declared.device.FetchRefusal.TheVariants as refusals

-- the count rose by one, or is at its last value: there was one fault, and no more
abbrev pub Rose : ℕ → ℕ → Type 0
Rose before now = now ≡ min (before + 1) (2 ^ 64 - 1)

-- the count of a source after a read: it never falls, and it rises, by one, only where the read failed
pub record ReadCause (before now : ℕ) (result : Result ℕ Failed) : Type 0 where
  pub later : before ≤ now
  pub failed : OnErr result (Rose before now)
  pub kept : OnOk result (now ≡ before)

-- the count of a sink after a write of this piece: it never falls, and it rises, by one, only where the write failed or took none of a piece that isn't empty
pub record WriteCause (before now : ℕ) (piece : List ℕ) (result : Result ℕ Failed) : Type 0 where
  pub later : before ≤ now
  pub failed : OnErr result (Rose before now)
  pub stuck : IfOk result (λ n. n ≡ 0 → 0 < length piece → Rose before now)
  pub kept : IfOk result (λ n. 0 < n → now ≡ before)
  pub idle : OnOk result (length piece ≡ 0 → now ≡ before)

-- the pages of a folder: what is under each full name
abbrev pub Pages : Type 0
Pages = List ℕ → Option (List ℕ)

-- what was fetched, as the bytes of a page or nothing
abbrev pub page_of : Fetched → Option (List ℕ)
page_of (Found bytes) = Some bytes
page_of Absent = None

-- a fetch gives what is under the name, cut to `most` bytes, where the folder tells its pages
abbrev pub Gives : Option Pages → List ℕ → ℕ → Fetched → Type 0
Gives None name most fetched = ⊤
Gives (Some pages) name most fetched = page_of fetched ≡ option_map (take most) (pages name)

-- a page that was fetched has at most so many bytes
abbrev pub IsAtMost : ℕ → Fetched → Type 0
IsAtMost most (Found bytes) = length bytes ≤ most
IsAtMost most Absent = ⊤

-- the count of a folder after a fetch that it refused: want of memory is no fault
abbrev pub RefusalCause : ℕ → ℕ → FetchRefusal → Type 0
RefusalCause before now refusals.Failed = (before ≤ now) × Rose before now
RefusalCause before now refusals.NoMemory = now ≡ before

-- the count of a folder after a fetch: it never falls, and it rises, by one, only where the fetch failed
abbrev pub FetchCause : ℕ → ℕ → Result Fetched FetchRefusal → Type 0
FetchCause before now result = MatchResult result (λ _. now ≡ before) (λ refusal. RefusalCause before now refusal)

-- What counts of faults tell.
use Rattle.std.proofs.Common.{arith, ◌≡◌, ◌↔◌, ℕ, ◌+◌, ◌-◌, ◌^◌, ◌<◌, ◌≤◌, List, [], ◌∷◌, zero, suc, refl, Ok, Err, Result}
use Rattle.wt_devices.specs.Device.{Rose, ReadCause, WriteCause, FetchCause}
use Rattle.wt_devices.specs.declared.device.Failed.{Failed}
use Rattle.wt_devices.specs.declared.device.Fetched.{Fetched}
use Rattle.wt_devices.specs.declared.device.FetchRefusal.{FetchRefusal}
use Rattle.wt_devices.specs.declared.device.FetchRefusal.TheVariants as refusals
use Rattle.wt_page_laws.specs.Telling.{IsReadFault, IsWriteFault, IsFetchFault, Tells}

rose_more : (before now : ℕ) → before < 2 ^ 64 - 1 → Rose before now → before < now
rose_more before now h r = omega arith

rose_once : (before now : ℕ) → Rose before now → now ≤ before + 1
rose_once before now r = omega arith

more_rose : (before now : ℕ) → before < 2 ^ 64 - 1 → before < now → now ≤ before + 1 → Rose before now
more_rose before now h g o = omega arith

stays : (before now : ℕ) → before ≤ now → (before < now → ⊥) → now ≡ before
stays before now h g = grind arith

pub read_tells : (before now : ℕ) (result : Result ℕ Failed) → before < 2 ^ 64 - 1 → (ReadCause before now result) ↔ (Tells (IsReadFault result) before now)
read_tells before now (Ok n) h = (
  λ c. record { told = (λ f. absurd f, λ l. let k = c.kept in omega arith); once = let k = c.kept in omega arith; later = c.later },
  λ t. record { later = t.later; failed = tt; kept = stays before now t.later (λ l. t.told.1 l) },
)
read_tells before now (Err e) h = (
  λ c. record { told = (λ f. rose_more before now h c.failed, λ l. tt); once = rose_once before now c.failed; later = c.later },
  λ t. record { later = t.later; failed = more_rose before now h (t.told.0 tt) t.once; kept = tt },
)

written_once : (before now n : ℕ) (piece : List ℕ) → WriteCause before now piece (Ok n) → now ≤ before + 1
written_once before now zero [] c = let i = c.idle refl in omega arith
written_once before now zero (b ∷ bs) c = rose_once before now (c.stuck refl (omega arith))
written_once before now (suc n) piece c = let k = c.kept (omega arith) in omega arith

pub write_tells : (before now : ℕ) (piece : List ℕ) (result : Result ℕ Failed) → before < 2 ^ 64 - 1 → (WriteCause before now piece result) ↔ (Tells (IsWriteFault piece result) before now)
write_tells before now piece (Ok n) h = (
  λ c. record {
    told = (
      λ f. rose_more before now h (c.stuck f.0 f.1),
      λ l. let k = c.kept in let i = c.idle in grind arith,
    );
    once = written_once before now n piece c;
    later = c.later;
  },
  λ t. record {
    later = t.later;
    failed = tt;
    stuck = λ z p. more_rose before now h (t.told.0 (z, p)) t.once;
    kept = λ p. stays before now t.later (λ l. let z = (t.told.1 l).0 in omega arith);
    idle = λ p. stays before now t.later (λ l. let z = (t.told.1 l).1 in omega arith);
  },
)
write_tells before now piece (Err e) h = (
  λ c. record { told = (λ f. rose_more before now h c.failed, λ l. tt); once = rose_once before now c.failed; later = c.later },
  λ t. record { later = t.later; failed = more_rose before now h (t.told.0 tt) t.once; stuck = tt; kept = tt; idle = tt },
)

pub fetch_tells : (before now : ℕ) (result : Result Fetched FetchRefusal) → before < 2 ^ 64 - 1 → (FetchCause before now result) ↔ (Tells (IsFetchFault result) before now)
fetch_tells before now (Ok f) h = (
  λ c. record { told = (λ f. absurd f, λ l. omega arith); once = omega arith; later = omega arith },
  λ t. stays before now t.later (λ l. t.told.1 l),
)
fetch_tells before now (Err refusals.Failed) h = (
  λ c. record { told = (λ f. rose_more before now h c.1, λ l. tt); once = rose_once before now c.1; later = c.0 },
  λ t. (t.later, more_rose before now h (t.told.0 tt) t.once),
)
fetch_tells before now (Err refusals.NoMemory) h = (
  λ c. record { told = (λ f. absurd f, λ l. omega arith); once = omega arith; later = omega arith },
  λ t. stays before now t.later (λ l. t.told.1 l),
)

pub last_stays : (now : ℕ) → (Rose (2 ^ 64 - 1) now) ↔ (now ≡ 2 ^ 64 - 1)
last_stays now = (λ r. omega arith, λ h. omega arith)

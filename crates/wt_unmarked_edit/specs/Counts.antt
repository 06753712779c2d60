-- The folder's count of faults, and what a call does to it.
use Rattle.std.specs.Prelude.{◌≡◌, ℕ, Result, Ok, Err}
use Rattle.wt_devices.specs.Device.{Rose}
use Rattle.wt_edit.specs.declared.selser_refusal.SelserRefusal.{SelserRefusal}
use Rattle.wt_edit.specs.declared.selser_refusal.SelserRefusal.TheVariants as refusal

-- it rose where the folder failed, and else it stays
abbrev pub IsCountedErr : ℕ → ℕ → SelserRefusal → Type 0
IsCountedErr before after (refusal.Check c) = after ≡ before
IsCountedErr before after (refusal.BadContent n why) = after ≡ before
IsCountedErr before after refusal.NewPageTooLong = after ≡ before
IsCountedErr before after refusal.NewExpansion = after ≡ before
IsCountedErr before after (refusal.Unspelled k) = after ≡ before
IsCountedErr before after refusal.FolderFault = Rose before after
IsCountedErr before after refusal.NoMemory = after ≡ before

abbrev pub IsCounted : {T : Type 0} → ℕ → ℕ → Result T SelserRefusal → Type 0
IsCounted before after (Ok value) = after ≡ before
IsCounted before after (Err r) = IsCountedErr before after r

-- the refusal is no other than that the folder failed, whose count rose, or that memory ran out
abbrev pub IsOfFolder : ℕ → ℕ → SelserRefusal → Type 0
IsOfFolder before after (refusal.Check c) = ⊥
IsOfFolder before after (refusal.BadContent n why) = ⊥
IsOfFolder before after refusal.NewPageTooLong = ⊥
IsOfFolder before after refusal.NewExpansion = ⊥
IsOfFolder before after (refusal.Unspelled k) = ⊥
IsOfFolder before after refusal.FolderFault = Rose before after
IsOfFolder before after refusal.NoMemory = after ≡ before

abbrev pub IsCountedRead : {T : Type 0} → ℕ → ℕ → Result T SelserRefusal → Type 0
IsCountedRead before after (Ok value) = after ≡ before
IsCountedRead before after (Err r) = IsOfFolder before after r

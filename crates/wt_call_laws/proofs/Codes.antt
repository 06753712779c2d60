-- Statuses and their numbers.
use Rattle.std.proofs.Common.{arith, ◌≡◌, ◌↔◌, ℕ, zero, suc, ◌≤◌, refl, sym, ap, ◌∙◌}
use Rattle.wt_commands.specs.Statuses.{IsAnswer, IsDoneOrRefused, IsFaultOrNoMemory, code}
use Rattle.wt_commands.specs.declared.status.Status.{Status}
use Rattle.wt_commands.specs.declared.status.Status.TheVariants.{Done, Usage, PageRefused, HtmlRefused, EditRefused, ReadFault, FolderFault, WriteFault, NoMemory}

back : ℕ → Status
back zero = Done
back (suc zero) = Usage
back (suc (suc zero)) = PageRefused
back (suc (suc (suc zero))) = HtmlRefused
back (suc (suc (suc (suc zero)))) = EditRefused
back (suc (suc (suc (suc (suc zero))))) = ReadFault
back (suc (suc (suc (suc (suc (suc zero)))))) = FolderFault
back (suc (suc (suc (suc (suc (suc (suc zero))))))) = WriteFault
back (suc (suc (suc (suc (suc (suc (suc (suc n)))))))) = NoMemory

turns : (s : Status) → back (code s) ≡ s
unfolding back
turns Done = refl
turns Usage = refl
turns PageRefused = refl
turns HtmlRefused = refl
turns EditRefused = refl
turns ReadFault = refl
turns FolderFault = refl
turns WriteFault = refl
turns NoMemory = refl

pub apart : (s t : Status) → code s ≡ code t → s ≡ t
apart s t e = sym (turns s) ∙ ap back e ∙ turns t

pub all_told : (n : ℕ) → n ≤ 8 → (s : Status) × (code s ≡ n)
all_told zero h = (Done, refl)
all_told (suc zero) h = (Usage, refl)
all_told (suc (suc zero)) h = (PageRefused, refl)
all_told (suc (suc (suc zero))) h = (HtmlRefused, refl)
all_told (suc (suc (suc (suc zero)))) h = (EditRefused, refl)
all_told (suc (suc (suc (suc (suc zero))))) h = (ReadFault, refl)
all_told (suc (suc (suc (suc (suc (suc zero)))))) h = (FolderFault, refl)
all_told (suc (suc (suc (suc (suc (suc (suc zero))))))) h = (WriteFault, refl)
all_told (suc (suc (suc (suc (suc (suc (suc (suc zero)))))))) h = (NoMemory, refl)
all_told (suc (suc (suc (suc (suc (suc (suc (suc (suc n))))))))) h = absurd (omega arith)

pub none_more : (s : Status) → code s ≤ 8
none_more Done = omega arith
none_more Usage = omega arith
none_more PageRefused = omega arith
none_more HtmlRefused = omega arith
none_more EditRefused = omega arith
none_more ReadFault = omega arith
none_more FolderFault = omega arith
none_more WriteFault = omega arith
none_more NoMemory = omega arith

pub answered : (s : Status) → (IsDoneOrRefused (code s)) ↔ (IsAnswer s)
answered Done = (λ h. tt, λ h. omega arith)
answered Usage = (λ h. tt, λ h. omega arith)
answered PageRefused = (λ h. tt, λ h. omega arith)
answered HtmlRefused = (λ h. tt, λ h. omega arith)
answered EditRefused = (λ h. tt, λ h. omega arith)
answered ReadFault = (λ h. absurd (omega arith), λ h. absurd h)
answered FolderFault = (λ h. absurd (omega arith), λ h. absurd h)
answered WriteFault = (λ h. absurd (omega arith), λ h. absurd h)
answered NoMemory = (λ h. absurd (omega arith), λ h. absurd h)

pub others_fail : (s : Status) → (IsFaultOrNoMemory (code s)) ↔ (IsAnswer s → ⊥)
others_fail Done = (λ h. absurd (omega arith), λ h. absurd (h tt))
others_fail Usage = (λ h. absurd (omega arith), λ h. absurd (h tt))
others_fail PageRefused = (λ h. absurd (omega arith), λ h. absurd (h tt))
others_fail HtmlRefused = (λ h. absurd (omega arith), λ h. absurd (h tt))
others_fail EditRefused = (λ h. absurd (omega arith), λ h. absurd (h tt))
others_fail ReadFault = (λ h g. absurd g, λ h. (omega arith, omega arith))
others_fail FolderFault = (λ h g. absurd g, λ h. (omega arith, omega arith))
others_fail WriteFault = (λ h g. absurd g, λ h. (omega arith, omega arith))
others_fail NoMemory = (λ h g. absurd g, λ h. (omega arith, omega arith))

-- In which ways a call can't end.
use Rattle.std.proofs.Common.{arith, ◌≡◌, ℕ, ◌-◌, ◌^◌, ◌<◌, List, length, Option, Some, None, sym, ap, ◌∙◌, subst, length-append}
use Rattle.std.specs.Io.KnownBytes.{Appends, Keeps}
use Rattle.wt_devices.specs.Device.{Rose}
use Rattle.wt_commands.specs.Calls.{Call, IsDue, IsDueAs}
use Rattle.wt_commands.specs.Devices.{FolderFailed, SourceFailed}
use Rattle.wt_pagetool.specs.Promises.{Ends}
use Rattle.wt_commands.specs.Refusals.{line_of, status_of}
use Rattle.wt_commands.specs.Reports.{ErrFailed, OutFailed, WasDone, WasRefused}
use Rattle.wt_commands.specs.Statuses.{code}
use Rattle.wt_commands.specs.declared.refusal.Refusal.{Refusal}
use Rattle.wt_commands.specs.declared.status.Status.{Status}
use Rattle.wt_commands.specs.declared.status.Status.TheVariants as status
use Rattle.wt_call_laws.proofs.Codes.{apart}

due_not : (c : Call) (r : Refusal) (s : Status) → status_of r ≡ s → IsDue c.words c.input c.folder r → IsDueAs s c.words c.input c.folder r
due_not c r s e d = subst (λ (x : Status). IsDueAs x c.words c.input c.folder r) e d

pub refused_apart : (c : Call) → (ended : ℕ) → WasRefused c ended → (ended ≡ code status.Done → ⊥) × (ended ≡ code status.WriteFault → ⊥)
refused_apart c ended w = (
  λ e. due_not c w.refusal status.Done (apart (status_of w.refusal) status.Done (sym w.named ∙ e)) w.due,
  λ e. due_not c w.refusal status.WriteFault (apart (status_of w.refusal) status.WriteFault (sym w.named ∙ e)) w.due,
)

-- ---- counts

rose_and_kept : (before after : ℕ) → before < 2 ^ 64 - 1 → Rose before after → after ≡ before → ⊥
rose_and_kept before after h r e = omega arith

pub done_not_out : (c : Call) → c.out.faults_before < 2 ^ 64 - 1 → WasDone c → OutFailed c → ⊥
done_not_out c h d f = rose_and_kept c.out.faults_before c.out.faults_after h f.front.count d.wrote.count

pub done_not_err : (c : Call) → c.err.faults_before < 2 ^ 64 - 1 → WasDone c → ErrFailed c → ⊥
done_not_err c h d f = rose_and_kept c.err.faults_before c.err.faults_after h f.front.count d.silent.count

pub refused_not_out : (c : Call) → (ended : ℕ) → c.out.faults_before < 2 ^ 64 - 1 → WasRefused c ended → OutFailed c → ⊥
refused_not_out c ended h w f = rose_and_kept c.out.faults_before c.out.faults_after h f.front.count w.nothing.count

pub refused_not_err : (c : Call) → (ended : ℕ) → c.err.faults_before < 2 ^ 64 - 1 → WasRefused c ended → ErrFailed c → ⊥
refused_not_err c ended h w f = rose_and_kept c.err.faults_before c.err.faults_after h f.front.count w.line.count

pub out_not_err : (c : Call) → c.out.faults_before < 2 ^ 64 - 1 → OutFailed c → ErrFailed c → ⊥
out_not_err c h f e = rose_and_kept c.out.faults_before c.out.faults_after h f.front.count e.nothing.count

-- ---- a line

some_line : (r : Refusal) → 0 < length (line_of r)
unfolding line_of
some_line r = omega arith

kept_or_more : (old new : Option (List ℕ)) (taken bytes : List ℕ) → old ≡ Some taken → 0 < length bytes → Keeps old new → Appends old new bytes → ⊥
kept_or_more None new taken bytes e h k a = cc
kept_or_more (Some xs) None taken bytes e h k a = k
kept_or_more (Some xs) (Some ys) taken bytes e h k a =
    let l = length-append xs bytes in let s = ap length k in let t = ap length a in omega (arith, h, l, s, t)

pub done_not_refused : (c : Call) → (ended : ℕ) → (taken : List ℕ) → c.err.taken_before ≡ Some taken → WasDone c → WasRefused c ended → ⊥
done_not_refused c ended taken e d w =
    kept_or_more c.err.taken_before c.err.taken_after taken (line_of w.refusal) e (some_line w.refusal) d.silent.taken w.line.taken

-- ---- one device

pub read_alone : (c : Call) → (ended : ℕ) → Ends c ended → ended ≡ code status.ReadFault → SourceFailed c.input × (c.folder.faults_after ≡ c.folder.faults_before) × (c.out.faults_after ≡ c.out.faults_before) × (c.err.faults_after ≡ c.err.faults_before)
read_alone c ended e is =
    let w = e.refused (λ h. let x = sym is ∙ h in omega (arith, x)) (λ h. let x = sym is ∙ h in omega (arith, x)) in
    let due = due_not c w.refusal status.ReadFault (apart (status_of w.refusal) status.ReadFault (sym w.named ∙ is)) w.due in
    (due.1, e.read_fault is, w.nothing.count, w.line.count)

pub fetch_alone : (c : Call) → (ended : ℕ) → Ends c ended → ended ≡ code status.FolderFault → FolderFailed c.folder × (c.input.faults_after ≡ c.input.faults_before) × (c.out.faults_after ≡ c.out.faults_before) × (c.err.faults_after ≡ c.err.faults_before)
fetch_alone c ended e is =
    let w = e.refused (λ h. let x = sym is ∙ h in omega (arith, x)) (λ h. let x = sym is ∙ h in omega (arith, x)) in
    let due = due_not c w.refusal status.FolderFault (apart (status_of w.refusal) status.FolderFault (sym w.named ∙ is)) w.due in
    (due.1, e.folder_fault is, w.nothing.count, w.line.count)

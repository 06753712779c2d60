-- A call that keeps what `run` promises answers such an edit with the new page, or a device failed, or memory ran out.
use Rattle.std.proofs.Common.{◌≡◌, ℕ, Option, Some, List, sym, ap, ◌∙◌, subst, inl, inr}
use Rattle.std.specs.Prelude.{◌⊎◌, IfSome}
use Rattle.wt_devices.specs.Device.{Pages}
use Rattle.wt_commands.specs.declared.status.Status.TheVariants as status
use Rattle.wt_commands.specs.declared.command.Command.TheVariants.{Edit, Selser}
use Rattle.wt_commands.specs.Answers.{Answer, done, status_of_answer, answer_told}
use Rattle.wt_commands.specs.Calls.{Call, known_answer, NothingFailed}
use Rattle.wt_commands.specs.Devices.{Took}
use Rattle.wt_pagetool.specs.Promises.{Ends, EndsAsEdit}
use Rattle.wt_commands.specs.Reports.{WasDone}
use Rattle.wt_commands.specs.UnmarkedEdits.{DoneByEdit}
use Rattle.wt_commands.specs.Statuses.{code, IsFaultOrNoMemory}
use Rattle.wt_text_edit_laws.specs.BlockEdits.{BlockEdit, new_page, sent_page, IsBlockEdit}
use Rattle.wt_text_edit_laws.specs.UnmarkedBlocks.{unmarked_page, IsUnmarkedBlockEdit}
use Rattle.wt_program.specs.Calls.{Sends, WroteNewPage, TakesTexts}
use Rattle.wt_text_edit_laws.proofs.Blocks.BlocksTake.{command_takes_texts}
use Rattle.wt_text_edit_laws.proofs.Blocks.BlocksUnmarked.{unmarked_done}

-- ---- `edit`

answer_is : (c : Call) (e : BlockEdit) → IsBlockEdit e → (s : Sends c Edit e sent_page) → known_answer c ≡ Some (done (new_page e))
answer_is c e h s =
    ap (λ (told : Option Pages). answer_told told c.input.left_before c.words) s.told
    ∙ ap (λ (given : Option (List ℕ)). answer_told (Some s.pages) given c.words) s.given
    ∙ command_takes_texts s.pages e c.words s.title s.input s.label s.unsourced s.words s.found h s.old_within s.new_within s.within s.reads

abbrev held : Answer → List ℕ → List ℕ
held (done bytes) other = bytes
held a other = other

same_bytes : (new bytes : List ℕ) → done new ≡ done bytes → bytes ≡ new
same_bytes new bytes e = sym (ap (λ a. held a new) e)

wrote_page : (c : Call) (new : List ℕ) → known_answer c ≡ Some (done new) → WasDone c → Took c.out new
wrote_page c new known w =
    let told : done new ≡ done w.bytes = subst (λ (k : Option Answer). IfSome k (λ a. a ≡ done w.bytes)) known w.answer in
    subst (λ bytes. Took c.out bytes) (same_bytes new w.bytes told) w.wrote

done_or : (c : Call) (new : List ℕ) (ended : ℕ) (Failed : Type 0) → known_answer c ≡ Some (done new) → Ends c ended
    → (ended ≡ code status.Done) ⊎ Failed → WroteNewPage c ended new ⊎ Failed
done_or c new ended Failed known ends (inl d) = let w = ends.done d in inl (d, wrote_page c new known w, w.silent)
done_or c new ended Failed known ends (inr f) = inr f

-- where the answer is this page
pub page_ends : (c : Call) (ended : ℕ) (new : List ℕ) → known_answer c ≡ Some (done new) → Ends c ended → WroteNewPage c ended new ⊎ IsFaultOrNoMemory ended
page_ends c ended new known ends =
    done_or c new ended (IsFaultOrNoMemory ended) known ends
    (subst (λ (k : Option Answer). IfSome k (λ a. (ended ≡ code (status_of_answer a)) ⊎ IsFaultOrNoMemory ended)) known ends.exact)

pub page_completes : (c : Call) (ended : ℕ) (new : List ℕ) → known_answer c ≡ Some (done new) → Ends c ended → NothingFailed c
    → WroteNewPage c ended new ⊎ (ended ≡ code status.NoMemory)
page_completes c ended new known ends sound =
    done_or c new ended (ended ≡ code status.NoMemory) known ends
    (subst (λ (k : Option Answer). IfSome k (λ a. (ended ≡ code (status_of_answer a)) ⊎ (ended ≡ code status.NoMemory))) known (ends.complete sound))

edit_ends : (c : Call) (ended : ℕ) (e : BlockEdit) → IsBlockEdit e → Sends c Edit e sent_page → Ends c ended
    → WroteNewPage c ended (new_page e) ⊎ IsFaultOrNoMemory ended
edit_ends c ended e h s ends = page_ends c ended (new_page e) (answer_is c e h s) ends

edit_completes : (c : Call) (ended : ℕ) (e : BlockEdit) → IsBlockEdit e → Sends c Edit e sent_page → Ends c ended → NothingFailed c
    → WroteNewPage c ended (new_page e) ⊎ (ended ≡ code status.NoMemory)
edit_completes c ended e h s ends sound = page_completes c ended (new_page e) (answer_is c e h s) ends sound

-- ---- `selser`

selser_ends : (c : Call) (ended : ℕ) (e : BlockEdit) → IsUnmarkedBlockEdit e → Sends c Selser e unmarked_page → EndsAsEdit c ended
    → (ended ≡ code status.Done) ⊎ IsFaultOrNoMemory ended
selser_ends c ended e h s ends =
    let P : Pages → List ℕ → Type 0 = λ pages bytes. DoneByEdit pages (pages s.title) bytes → (ended ≡ code status.Done) ⊎ IsFaultOrNoMemory ended in
    let over = subst (λ (told : Option Pages). IfSome told (λ pages. IfSome c.input.left_before (λ bytes. P pages bytes))) s.told
    (ends.selser_as_edit s.title s.words) in
    let both : P s.pages s.input = subst (λ (given : Option (List ℕ)). IfSome given (λ bytes. P s.pages bytes)) s.given over in
    both (unmarked_done s.pages e (s.pages s.title) s.input s.label s.unsourced h s.found s.old_within s.new_within s.within s.reads)

-- ---- both

pub takes : (c : Call) (ended : ℕ) → Ends c ended → EndsAsEdit c ended → TakesTexts c ended
takes c ended ends as_edit = record {
  edit = λ e h s. edit_ends c ended e h s ends;
  complete = λ e h s sound. edit_completes c ended e h s ends sound;
  selser = λ e h s. selser_ends c ended e h s as_edit;
}

-- Calls of the program by which paragraphs come into prose and go from it, and how they end.
use Rattle.std.specs.Prelude.{◌≡◌, ◌⊎◌, ℕ}
use Rattle.wt_commands.specs.declared.command.Command.TheVariants.{Edit, Selser}
use Rattle.wt_commands.specs.declared.status.Status.TheVariants as status
use Rattle.wt_commands.specs.Calls.{Call, NothingFailed}
use Rattle.wt_commands.specs.Statuses.{code, IsFaultOrNoMemory}
use Rattle.wt_text_edit_laws.specs.ProsePages.{prose}
use Rattle.wt_text_edit_laws.specs.ProseChanges.{ProseChange, passages_before, changed_prose, passages_changed, IsProseChange}
use Rattle.wt_text_edit_laws.specs.UnmarkedChanges.{unmarked_change, IsUnmarkedChange}
use Rattle.wt_program.specs.AnyCalls.{SendsFor}
use Rattle.wt_program.specs.Calls.{WroteNewPage}

-- the call sends this change of prose, with the body marked `children`
abbrev pub SendsChange : Call → ProseChange → Type 0
SendsChange c p = SendsFor c Edit (prose (passages_before p.changes)) (prose (passages_changed p)) (λ b. changed_prose b p)

-- Where a call sends some of the page's paragraphs as they are, in their order, and new ones with any texts,
-- * `edit` has written the page with these, in which every other byte is what it was; or a device failed, or memory ran out;
-- * where no device failed, only want of memory may come in its place;
-- * `selser`, for which nothing is marked, is done where one comes or goes; or a device failed, or memory ran out.
pub record TakesChangedProse (c : Call) (ended : ℕ) : Type 0 where
  pub edit : (p : ProseChange) → IsProseChange p → SendsChange c p → WroteNewPage c ended (prose (passages_changed p)) ⊎ IsFaultOrNoMemory ended
  pub complete : (p : ProseChange) → IsProseChange p → SendsChange c p → NothingFailed c
      → WroteNewPage c ended (prose (passages_changed p)) ⊎ (ended ≡ code status.NoMemory)
  pub selser : (p : ProseChange) → IsUnmarkedChange p
      → SendsFor c Selser (prose (passages_before p.changes)) (prose (passages_changed p)) (λ b. unmarked_change b p)
      → (ended ≡ code status.Done) ⊎ IsFaultOrNoMemory ended

-- A call that keeps what `run` promises takes paragraphs that come into prose and go from it, or a device failed, or memory ran out.
use Rattle.std.proofs.Common.{◌≡◌, ℕ, Some}
use Rattle.wt_commands.specs.Answers.{done}
use Rattle.wt_commands.specs.Calls.{Call, known_answer}
use Rattle.wt_pagetool.specs.Promises.{Ends, EndsAsEdit}
use Rattle.wt_text_edit_laws.specs.ProsePages.{prose}
use Rattle.wt_text_edit_laws.specs.ProseChanges.{ProseChange, passages_before, changed_prose, passages_changed, IsProseChange}
use Rattle.wt_text_edit_laws.proofs.Prose.ProseTakes.{prose_utf8}
use Rattle.wt_text_edit_laws.proofs.Prose.ChangesTaken.{takes_changes}
use Rattle.wt_text_edit_laws.specs.UnmarkedChanges.{unmarked_change}
use Rattle.wt_text_edit_laws.proofs.Prose.ChangesUnmarked.{unmarked_done}
use Rattle.wt_program.specs.ProseCalls.{SendsChange, TakesChangedProse}
use Rattle.wt_program.proofs.AnyCalls.{answer_is, selser_ends}
use Rattle.wt_program.proofs.BlocksCalls.{page_ends, page_completes}

change_answered : (c : Call) (p : ProseChange) → IsProseChange p → SendsChange c p → known_answer c ≡ Some (done (prose (passages_changed p)))
change_answered c p h s =
    answer_is c (prose (passages_before p.changes)) (prose (passages_changed p)) (λ b. changed_prose b p) (prose_utf8 (passages_before p.changes) h.are_prose) s
    (takes_changes s.pages p s.body h s.new_within)

pub calls_take_changes : (c : Call) (ended : ℕ) → Ends c ended → EndsAsEdit c ended → TakesChangedProse c ended
calls_take_changes c ended ends as_edit = record {
  edit = λ p h s. page_ends c ended (prose (passages_changed p)) (change_answered c p h s) ends;
  complete = λ p h s no. page_completes c ended (prose (passages_changed p)) (change_answered c p h s) ends no;
  selser = λ p h s.
      selser_ends c ended (prose (passages_before p.changes)) (prose (passages_changed p)) (λ b. unmarked_change b p) s
      (unmarked_done s.pages p (s.pages s.title) s.input s.body s.unsourced h s.found s.old_within s.new_within s.within s.reads) as_edit;
}

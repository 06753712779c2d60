-- A call that takes edited contents takes texts in their places.
use Rattle.std.proofs.Common.{◌≡◌, ◌⊎◌, ℕ, ◌≤◌, List, length, sym, ap, ◌∙◌, subst}
use Rattle.wt_span.specs.declared.limits.TheConstants.{PAGE_BYTES}
use Rattle.wt_devices.specs.Device.{Pages}
use Rattle.wt_tree.specs.Tree.{Label, Tree, label}
use Rattle.wt_schema.specs.Read.{page as as_page}
use Rattle.wt_commands.specs.declared.command.Command.{Command}
use Rattle.wt_commands.specs.declared.command.Command.TheVariants.{Edit, Selser}
use Rattle.wt_commands.specs.declared.status.Status.TheVariants as status
use Rattle.wt_commands.specs.Calls.{Call}
use Rattle.wt_commands.specs.Statuses.{code, IsFaultOrNoMemory}
use Rattle.wt_typed_blocks.specs.Sent.{Sents}
use Rattle.wt_typed_blocks.proofs.AsEdits.{as_edits, sent_body_is, bare_body_is}
use Rattle.wt_pagetool.specs.Promises.{Ends, EndsAsEdit}
use Rattle.wt_text_edit_laws.specs.BlockSpots.{BlockSpot, spots_source, AreContents}
use Rattle.wt_called_edit_laws.specs.AnyBlocks.{new_page}
use Rattle.wt_called_edit_laws.specs.CalledBlocks.{CallNothing}
use Rattle.wt_called_edit_laws.specs.CalledTexts.{spots_tree}
use Rattle.wt_called_edit_laws.specs.EditsAt.{AllStand, edited_page, sent_contents, bare_contents}
use Rattle.wt_called_edit_laws.specs.TreeEdits.{IsEditOf, sent_body, free_sent_body}
use Rattle.wt_called_edit_laws.proofs.EditableBlocks.{editable_with_calls, calm_stand, calm_edit, calm_unmarked}
use Rattle.wt_called_edit_laws.proofs.Leads.{all_lead}
use Rattle.wt_called_edit_laws.proofs.TextsTaken.{same_page, all_own}
use Rattle.wt_called_edit_laws.proofs.TextContents.{as_contents}
use Rattle.wt_program.specs.AnyCalls.{SendsFor}
use Rattle.wt_program.specs.CalledCalls.{TakesThemAmong, TakesTextsAmongCalls}
use Rattle.wt_program.specs.Calls.{WroteNewPage}
use Rattle.wt_program.specs.ContentCalls.{TakesContentsThere, TakesContentsAmongCalls}
use Rattle.wt_program.proofs.AmongCalls.{calls_take}

-- the same tree and the same new page in other words
sends_so : (c : Call) (command : List ℕ → Command) (page new made : List ℕ) (sent own : Label → Tree) → made ≡ new → ((b : Label) → own b ≡ sent b)
    → SendsFor c command page new sent → SendsFor c command page made own
sends_so c command page new made sent own e f s = record {
  title = s.title;
  pages = s.pages;
  input = s.input;
  body = s.body;
  unsourced = s.unsourced;
  words = s.words;
  told = s.told;
  found = s.found;
  given = s.given;
  reads = s.reads ∙ ap (λ (t : Tree). as_page t s.unsourced) (sym (f s.body));
  within = s.within;
  old_within = s.old_within;
  new_within = subst (λ (bs : List ℕ). length bs ≤ PAGE_BYTES) (sym e) s.new_within;
}

texts_there : (c : Call) (ended : ℕ) (pages : Pages) (ss : List BlockSpot) (behind : List ℕ) (t : TakesContentsThere c ended pages ss behind)
    → AreContents ss → CallNothing ss → AllStand ss t.paths (spots_tree pages ss behind)
    → ((es : Sents) → IsEditOf (spots_tree pages ss behind) t.paths es → edited_page ss behind t.paths (as_edits es) ≡ new_page ss behind t.paths es)
    → TakesThemAmong c ended pages ss behind
texts_there c ended pages ss behind t contents calm stand same =
    let page : List ℕ = spots_source ss behind in
    let tree : Tree = spots_tree pages ss behind in
    let now : Sents → List ℕ = new_page ss behind t.paths in
    let made : Sents → List ℕ = λ es. edited_page ss behind t.paths (as_edits es) in
    record {
      paths = t.paths;
      lead = all_lead ss t.paths tree stand;
      edit = λ es e s.
          subst (λ (bs : List ℕ). WroteNewPage c ended bs ⊎ IsFaultOrNoMemory ended) (same es e)
          (t.edit (as_edits es) (calm_edit pages tree ss t.paths (as_edits es) contents calm (as_contents tree ss t.paths es stand e))
          (sends_so c Edit page (now es) (made es) (sent_body tree es) (sent_contents tree (as_edits es)) (same es e) (λ b. sent_body_is (label tree) b es) s));
      complete = λ es e s sound.
          subst (λ (bs : List ℕ). WroteNewPage c ended bs ⊎ (ended ≡ code status.NoMemory)) (same es e)
          (t.complete (as_edits es) (calm_edit pages tree ss t.paths (as_edits es) contents calm (as_contents tree ss t.paths es stand e))
          (sends_so c Edit page (now es) (made es) (sent_body tree es) (sent_contents tree (as_edits es)) (same es e) (λ b. sent_body_is (label tree) b es) s)
          sound);
      selser = λ es e s.
          t.selser (as_edits es)
          (calm_unmarked pages tree ss t.paths (as_edits es) contents calm (record { edit = as_contents tree ss t.paths es stand e.edit; own = all_own es e.own }))
          (sends_so c Selser page (now es) (made es) (free_sent_body tree es) (bare_contents tree (as_edits es)) (same es e.edit)
          (λ b. bare_body_is (label tree) b es) s);
    }

pub texts_so : (c : Call) (ended : ℕ) → TakesContentsAmongCalls c ended → TakesTextsAmongCalls c ended
texts_so c ended takes = λ pages ss behind told h.
    let t : TakesContentsThere c ended pages ss behind = takes pages ss behind told (editable_with_calls pages ss behind h) in
    let contents : AreContents ss = h.among.contents in
    let calm : CallNothing ss = h.among.calm in
    let stand : AllStand ss t.paths (spots_tree pages ss behind) =
    calm_stand pages ss behind t.paths (spots_tree pages ss behind) contents calm t.stand in
    texts_there c ended pages ss behind t contents calm stand (same_page pages ss behind t.paths stand contents)

pub calls_take_texts : (c : Call) (ended : ℕ) → Ends c ended → EndsAsEdit c ended → TakesTextsAmongCalls c ended
calls_take_texts c ended ends as_edit = texts_so c ended (calls_take c ended ends as_edit)

-- What a call does with texts that are typed on pages without calls is what it does with those on pages with calls: the pages are such pages.
use Rattle.std.proofs.Common.{◌≡◌, ℕ, Option, Some, None, List, refl, sym, subst}
use Rattle.wt_devices.specs.Device.{Pages}
use Rattle.wt_tree.specs.Tree.{Tree}
use Rattle.wt_commands.specs.declared.command.Command.TheVariants.{Edit, Selser}
use Rattle.wt_commands.specs.Calls.{Call}
use Rattle.wt_text_edit_laws.specs.BlockSpots.{BlockSpot, spots_source}
use Rattle.wt_text_edit_laws.specs.Parts.{part_tree}
use Rattle.wt_called_edit_laws.specs.AnyBlocks.{AreSpots, new_page, AllLead}
use Rattle.wt_program.specs.AnyCalls.{SendsFor, TakesThem, TakesTextsAnywhere}
use Rattle.wt_called_edit_laws.specs.AnyTexts.{TakesAnyTexts}
use Rattle.wt_called_edit_laws.proofs.Cells.AnyPages.{tree_is, edit_over, any_take}
use Rattle.wt_called_edit_laws.proofs.BlocksOutside.{called_editable}
use Rattle.wt_called_edit_laws.proofs.CalmPages.{calm_pages}
use Rattle.wt_called_edit_laws.specs.TreeEdits.{sent_body, free_sent_body}
use Rattle.wt_program.specs.CalledCalls.{TakesThemAmong, TakesTextsAmongCalls}
use Rattle.wt_called_edit_laws.specs.CalledTexts.{spots_tree}
use Rattle.wt_pagetool.specs.Promises.{Ends, EndsAsEdit}
use Rattle.wt_program.proofs.TextCalls.{calls_take_texts}

-- ---- where the folder tells its pages

told_take : (c : Call) (ended : ℕ) (pages : Pages) (ss : List BlockSpot) (behind : List ℕ) → AreSpots ss behind → TakesThemAmong c ended pages ss behind
    → TakesThem c ended ss behind
told_take c ended pages ss behind h t =
    let page : List ℕ = spots_source ss behind in
    let body : Tree = part_tree page in
    let is : spots_tree pages ss behind ≡ body = tree_is pages ss behind h in
    record {
      paths = t.paths;
      lead = subst (AllLead ss t.paths) is t.lead;
      edit = λ es e s.
          t.edit es (edit_over (spots_tree pages ss behind) ss behind t.paths es is e)
          (subst (λ (x : Tree). SendsFor c Edit page (new_page ss behind t.paths es) (sent_body x es)) (sym is) s);
      complete = λ es e s sound.
          t.complete es (edit_over (spots_tree pages ss behind) ss behind t.paths es is e)
          (subst (λ (x : Tree). SendsFor c Edit page (new_page ss behind t.paths es) (sent_body x es)) (sym is) s) sound;
      selser = λ es e s.
          t.selser es
          (record { edit = edit_over (spots_tree pages ss behind) ss behind t.paths es is e.edit; own = e.own })
          (subst (λ (x : Tree). SendsFor c Selser page (new_page ss behind t.paths es) (free_sent_body x es)) (sym is) s);
    }

-- ---- where it doesn't, nothing is asked

not_told : (pages : Pages) (o : Option Pages) → o ≡ None → o ≡ Some pages → ⊥
not_told pages None e f = absurd (cc)
not_told pages (Some others) e f = absurd (cc)

untold_take : (c : Call) (ended : ℕ) (ss : List BlockSpot) (behind : List ℕ) → TakesAnyTexts ss behind → c.folder.pages_before ≡ None → TakesThem c ended ss behind
untold_take c ended ss behind t e = record {
  paths = t.paths;
  lead = t.lead;
  edit = λ es h s. absurd (not_told s.pages c.folder.pages_before e s.told);
  complete = λ es h s sound. absurd (not_told s.pages c.folder.pages_before e s.told);
  selser = λ es h s. absurd (not_told s.pages c.folder.pages_before e s.told);
}

by_folder : (c : Call) (ended : ℕ) (ss : List BlockSpot) (behind : List ℕ) (o : Option Pages) → c.folder.pages_before ≡ o → AreSpots ss behind
    → TakesTextsAmongCalls c ended → TakesThem c ended ss behind
by_folder c ended ss behind None e h t = untold_take c ended ss behind (any_take ss behind h) e
by_folder c ended ss behind (Some pages) e h t = told_take c ended pages ss behind h (t pages ss behind e (called_editable pages ss behind (calm_pages pages ss behind h)))

pub anywhere_so : (c : Call) (ended : ℕ) → TakesTextsAmongCalls c ended → TakesTextsAnywhere c ended
anywhere_so c ended t = λ ss behind h. by_folder c ended ss behind c.folder.pages_before refl h t

pub any_calls : (c : Call) (ended : ℕ) → Ends c ended → EndsAsEdit c ended → TakesTextsAnywhere c ended
any_calls c ended ends as_edit = anywhere_so c ended (calls_take_texts c ended ends as_edit)

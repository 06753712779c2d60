use Rattle.std.proofs.Common.{sym, ap, ◌∙◌, subst, cond, Some}
use Rattle.std.specs.Prelude.{OnOk, string_bytes}
use Rattle.std.specs.Str.{bytes_eq}
use Rattle.std.specs.BTreeMap.{get_by_text}
use Rattle.std.proofs.lemmas.Map.Text.{btree_map_updates_text}
use Rattle.wt_transclusion.specs.Stores.{Keeps}
use Rattle.wt_transclusion.proofs.store.Store.keep.Goals.{in-Ok, in-Err}
use Rattle.wt_transclusion.proofs.store.Store.keep.Goals as goal

pub returns : goal.returns
returns c =
    let P : Type 0 = Keeps c.args.full.now c.args.found c.args.self.now (record { pages = c.insert.new.self }) in
    elim c.match-insert.branch [
      | in-Ok w ↦
          let h : P = λ name.
          btree_map_updates_text (string_bytes c.in_ok-name.name) c.args.self.now.pages c.insert.new.self (Some c.args.found) w.in-Ok.ensures.updates name
          ∙ ap (λ bs. cond (bytes_eq bs name) (Some c.args.found) (get_by_text c.args.self.now.pages name)) c.in_ok-name.ensures.ok in
          subst (λ r. OnOk r P) (sym w.result-is) h
      | in-Err w ↦ subst (λ r. OnOk r P) (sym w.result-is) tt
    ]

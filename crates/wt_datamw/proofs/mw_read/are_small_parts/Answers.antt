use Rattle.std.proofs.Common.{◌≡◌, ◌∙◌, arith, sym, true, false}
use Rattle.std.specs.List.{list_all}
use Rattle.std.proofs.lemmas.Grind.{common_steps}
use Rattle.serde_json.specs.View.{view}
use Rattle.wt_datamw.specs.MwRead.{part_is_small}
use Rattle.wt_datamw.proofs.Shapes.{items_pass}
use Rattle.wt_datamw.proofs.mw_read.are_small_parts.Goals as goal

pub returns-then-not-part_is_small : goal.returns-then-not-part_is_small
returns-then-not-part_is_small c =
    let fails : list_all (λ v. part_is_small (view v)) c.args.values.now ≡ false = grind (arith, common_steps) in
    sym (items_pass part_is_small c.args.values.now ∙ fails)

pub returns : goal.returns
returns c =
    let pass : list_all (λ v. part_is_small (view v)) c.args.values.now ≡ true = grind (arith, common_steps) in
    sym (items_pass part_is_small c.args.values.now ∙ pass)

use Rattle.std.proofs.Common.{◌≡◌, ◌∙◌, arith, sym, true, false}
use Rattle.std.specs.List.{list_all}
use Rattle.std.proofs.lemmas.Grind.{common_steps}
use Rattle.serde_json.specs.View.{view}
use Rattle.wt_datamw.specs.MwRead.{is_part}
use Rattle.wt_datamw.proofs.Shapes.{items_pass}
use Rattle.wt_datamw.proofs.mw_shape.are_parts.Goals as goal

pub returns-then-not-is_part : goal.returns-then-not-is_part
returns-then-not-is_part c =
    let fails : list_all (λ v. is_part (view v)) c.args.values.now ≡ false = grind (arith, common_steps) in
    sym (items_pass is_part c.args.values.now ∙ fails)

pub returns : goal.returns
returns c =
    let pass : list_all (λ v. is_part (view v)) c.args.values.now ≡ true = grind (arith, common_steps) in
    sym (items_pass is_part c.args.values.now ∙ pass)

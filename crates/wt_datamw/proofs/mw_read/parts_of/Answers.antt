use Rattle.std.proofs.Common.{◌≡◌, ◌∙◌, arith, sym, map}
use Rattle.std.proofs.lemmas.Grind.{common_steps}
use Rattle.serde_json.specs.View.{view}
use Rattle.wt_datamw.specs.MwRead.{part_of}
use Rattle.wt_datamw.proofs.Shapes.{parts_are}
use Rattle.wt_datamw.proofs.mw_read.parts_of.Goals as goal

pub returns : goal.returns
returns c =
    let all : c.loop-value.parts ≡ map (λ v. part_of (view v)) c.args.values.now = grind (arith, common_steps) in
    all ∙ sym (parts_are c.args.values.now)

use Rattle.std.proofs.Common.{sym, ap, ◌∙◌, subst}
use Rattle.std.specs.Str.{IsCharBoundary}
use Rattle.wt_attributes.specs.Classes.{run_len}
use Rattle.wt_attributes.proofs.Runs.{border_run}
use Rattle.wt_attributes.proofs.class.ScanClass.split_run.Goals as goal

pub split_at-requires : goal.split_at-requires
split_at-requires c =
    let is = c.run_len-len.ensures.value ∙ ap (run_len c.args.self) c.as_bytes.ensures.value in
    subst (IsCharBoundary c.args.text.now) (sym is) (border_run c.args.self c.args.text.now c.utf8.text)

use Rattle.std.proofs.Common.{ap, ◌∙◌}
use Rattle.std.specs.Prelude.{Some}
use Rattle.wt_selser.specs.declared.refusal.EditRefusal.TheVariants as refusal
use Rattle.wt_selser.proofs.Answering.{bad_some, bad_none}
use Rattle.wt_selser.proofs.editing.bad_pair.Goals as goal

pub returns-in-Some : goal.returns-in-Some
returns-in-Some c = λ same tells.
    ap (λ n. Some (refusal.BadContent n c.in-Some.why)) c.new.ensures
    ∙ bad_some same c.args.pair c.in-Some.why c.in_ok-found.found (c.in_ok-found.ensures same tells) c.in-Some.is

pub returns-in-None : goal.returns-in-None
returns-in-None c = λ same tells. bad_none same c.args.pair c.in_ok-found.found (c.in_ok-found.ensures same tells) c.in-None.is

use Rattle.std.proofs.Common.{refl, lit<, string_bytes}
use Rattle.std.proofs.lemmas.Result.{IfOk-weaker}
use Rattle.wt_names.proofs.Ascii.{replaced_is}
use Rattle.wt_names.proofs.characters.spaced.Goals as goal

pub returns : goal.returns
returns c = IfOk-weaker c.replace.result _ _ (λ s found. replaced_is 95 32 found.0 95 c.args.text.now (string_bytes s)
    (lit< tt) refl found.1) c.replace.ensures.ok

use Rattle.std.proofs.Common.{ap, sym, subst, ◌∙◌}
use Rattle.std.specs.Str.{IsUtf8}
use Rattle.std.proofs.lemmas.Result.{IfOk-weaker}
use Rattle.wt_names.specs.Good.{read_text}
use Rattle.wt_names.proofs.Escapes.{read_bytes-text, read_bytes-other}
use Rattle.wt_names.proofs.link.read_escaped.Goals as goal

pub returns-in-Some : goal.returns-in-Some
returns-in-Some c =
    let read = rw c.in-Some.is at c.in_ok-text.ensures in
    let is_read = c.as_str.ensures.value ∙ read in
    IfOk-weaker c.read_title.result _ _ (λ t is. is ∙ ap read_text is_read ∙ sym (read_bytes-text _ (subst IsUtf8 is_read c.as_str.utf8))) c.read_title.ensures

pub returns-in-None : goal.returns-in-None
returns-in-None c = let read = rw c.in-None.is at c.in_ok-text.ensures in sym (read_bytes-other _ read)

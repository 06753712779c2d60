use Rattle.std.proofs.Common.{refl, ap, ◌∙◌}
use Rattle.std.proofs.lemmas.Str.Ascii.{trim_ascii_is}
use Rattle.wt_visible.specs.Tally.{trimmed, without_lead}
use Rattle.wt_visible.proofs.tally.trimmed.Goals as goal

pub returns : goal.returns
returns c =
    trim_ascii_is c.as_bytes.result.now c.trim_ascii.result.now (without_lead c.as_bytes.result.now) refl c.trim_ascii.ensures.value
    ∙ ap trimmed (c.as_bytes.ensures.value ∙ c.as_str.ensures)

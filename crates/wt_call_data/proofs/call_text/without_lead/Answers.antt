use Rattle.std.proofs.Common.{sym, subst}
use Rattle.std.specs.Str.{IsCharBoundary}
use Rattle.wt_call_data.proofs.CallTexts.{lead_border}
use Rattle.wt_call_data.proofs.call_text.without_lead.Goals as goal

pub range_from-requires : goal.range_from-requires
range_from-requires c p = subst (IsCharBoundary c.args.text.now) (sym c.lead_len-lead.ensures) (lead_border c.args.text.now c.utf8.text)

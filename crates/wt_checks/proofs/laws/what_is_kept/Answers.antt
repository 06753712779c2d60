use Rattle.wt_checks.proofs.WhatIsKept.{kept, unrefused}
use Rattle.wt_checks.proofs.laws.what_is_kept.Goals as goal

pub returns : goal.returns
returns c = λ values page edited b h. (kept values page edited b h, unrefused values page edited b h)

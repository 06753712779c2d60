use Rattle.std.proofs.Common.{sym, ◌∙◌}
use Rattle.wt_annotated.proofs.StandsCut.{only_text}
use Rattle.wt_annotated.proofs.stands_cut.is_one_text.Goals as goal

pub returns-in-len1 : goal.returns-in-len1
returns-in-len1 c e =
    c.is_same.ensures e ∙ c.as_str.ensures
    ∙ sym (only_text c.args.own.now c.text-item.result c.in-len1.len_at_least c.in-len1.len_below c.text-item.is)

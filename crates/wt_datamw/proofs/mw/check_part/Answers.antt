use Rattle.std.proofs.Common.{sym, subst}
use Rattle.std.specs.List.{All}
use Rattle.wt_datamw.specs.MwValues.{IsParam, IsPart}
use Rattle.wt_datamw.proofs.mw.check_part.Goals as goal

pub returns-in-Template : goal.returns-in-Template
returns-in-Template c =
    subst IsPart (sym c.in-Template.is)
    (c.check_text.ensures, c.check_text-in-Template.ensures, subst (All IsParam) c.as_slice.ensures c.check_params.ensures, c.check_number.ensures)

pub returns-in-Function : goal.returns-in-Function
returns-in-Function c =
    subst IsPart (sym c.in-Function.is)
    (c.check_text-in-Function.ensures, c.check_text-in-Function-2.ensures, subst (All IsParam) c.as_slice-in-Function.ensures c.check_params-in-Function.ensures, c.check_number-in-Function.ensures)

use Rattle.std.proofs.Common.{◌∙◌}
use Rattle.wt_html_nodes.proofs.FirstLetters.{found, none_found}
use Rattle.wt_html_nodes.proofs.row.row_by.Goals as goal

pub returns-in-None : goal.returns-in-None
returns-in-None c = none_found c.args.name.now _ _ _ c.in-None.ensures.value

pub returns-in-Some : goal.returns-in-Some
returns-in-Some c =
    c.first_row.ensures ∙ found c.args.name.now c.in-Some.letter.now c.kinds_from.result.now _ _ _ c.in-Some.ensures.value c.kinds_from.ensures

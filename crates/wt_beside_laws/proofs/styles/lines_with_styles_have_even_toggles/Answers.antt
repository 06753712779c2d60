use Rattle.std.specs.Prelude.{true, false}
use Rattle.wt_beside_laws.proofs.Styled.StyledLines.{line_even}
use Rattle.wt_beside_laws.proofs.styles.lines_with_styles_have_even_toggles.Goals as goal

pub returns-clause-bold : goal.returns-clause-bold
returns-clause-bold c = line_even true

pub returns-clause-italic : goal.returns-clause-italic
returns-clause-italic c = line_even false

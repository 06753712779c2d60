use Rattle.std.specs.Prelude.{true, false}
use Rattle.wt_beside_laws.proofs.Styled.NestForests.{nests_read}
use Rattle.wt_beside_laws.proofs.Styled.NestToggles.{by_length_alone, nest_even}
use Rattle.wt_beside_laws.proofs.styles.styles_that_nest_are_read.Goals as goal

pub returns-clause-read : goal.returns-clause-read
returns-clause-read c = nests_read

pub returns-clause-toggles : goal.returns-clause-toggles
returns-clause-toggles c = by_length_alone

pub returns-clause-bold : goal.returns-clause-bold
returns-clause-bold c = nest_even true

pub returns-clause-italic : goal.returns-clause-italic
returns-clause-italic c = nest_even false

use Rattle.std.specs.Prelude.{false}
use Rattle.wt_beside_laws.proofs.Styled.SentStyles.{sent_signs, sent_nested, sent_shown}
use Rattle.wt_beside_laws.proofs.styles.contents_sent_with_styles_are_such.Goals as goal

pub returns-clause-signs : goal.returns-clause-signs
returns-clause-signs c = sent_signs

pub returns-clause-nested : goal.returns-clause-nested
returns-clause-nested c = λ p. sent_nested p false false

pub returns-clause-shown : goal.returns-clause-shown
returns-clause-shown c = sent_shown

use Rattle.wt_beside_laws.proofs.Styled.SentAmong.{sent_styles}
use Rattle.wt_beside_laws.proofs.styles.texts_sent_in_styles_are_such.Goals as goal

pub returns : goal.returns
returns c = sent_styles

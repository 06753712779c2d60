use Rattle.wt_beside_laws.proofs.Styled.SpelledApart.{spelled_apart}
use Rattle.wt_beside_laws.proofs.styles.typed_texts_make_nothing_else.Goals as goal

pub returns : goal.returns
returns c = spelled_apart

use Rattle.wt_page_laws.proofs.Utf8Texts.{one_by_one}
use Rattle.wt_page_laws.proofs.texts.texts_are_utf8_one_by_one.Goals as goal

pub returns : goal.returns
returns c = one_by_one

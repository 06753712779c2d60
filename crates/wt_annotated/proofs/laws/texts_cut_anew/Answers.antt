use Rattle.wt_annotated.proofs.CutNumbers.{cut_texts_few}
use Rattle.wt_annotated.proofs.CutReached.{cut_texts_cut, cut_texts_stay}
use Rattle.wt_annotated.proofs.CutTexts.{cut_source}
use Rattle.wt_annotated.proofs.laws.texts_cut_anew.Goals as goal

pub returns : goal.returns
returns c = record { cut = cut_texts_cut; same = cut_texts_stay; source = cut_source; numbers = cut_texts_few }

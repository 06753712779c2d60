use Rattle.wt_inside_laws.proofs.calling.texts_of_blocks_show_their_sources.Goals as goal
use Rattle.wt_inside_laws.proofs.OwnTexts.{page_texts}

pub returns : goal.returns
returns c = page_texts

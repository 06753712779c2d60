use Rattle.wt_program.proofs.PlacedCalls.{contents_at, texts_at, contents_in, texts_in}
use Rattle.wt_program.proofs.laws.contents_at_their_places_are_taken_so.Goals as goal

pub returns-clause-contents : goal.returns-clause-contents
returns-clause-contents c = contents_at

pub returns-clause-texts : goal.returns-clause-texts
returns-clause-texts c = texts_at

pub returns-clause-contents_in_lines : goal.returns-clause-contents_in_lines
returns-clause-contents_in_lines c = contents_in

pub returns-clause-texts_in_lines : goal.returns-clause-texts_in_lines
returns-clause-texts_in_lines c = texts_in

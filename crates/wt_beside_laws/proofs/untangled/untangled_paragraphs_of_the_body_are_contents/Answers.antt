use Rattle.wt_beside_laws.proofs.Derived.BodyRead.{body_read}
use Rattle.wt_beside_laws.proofs.untangled.untangled_paragraphs_of_the_body_are_contents.Goals as goal

pub returns : goal.returns
returns c = body_read

-- Texts beside calls are one paragraph.
use Rattle.wt_beside_laws.proofs.Groups.CalledParagraphs.{called_lines, called_parts, called_stands}
use Rattle.wt_beside_laws.proofs.called.texts_beside_calls_are_one_paragraph.Goals as goal

pub returns-clause-lines : goal.returns-clause-lines
returns-clause-lines c = called_lines

pub returns-clause-parts : goal.returns-clause-parts
returns-clause-parts c = called_parts

pub returns-clause-stands : goal.returns-clause-stands
returns-clause-stands c = called_stands

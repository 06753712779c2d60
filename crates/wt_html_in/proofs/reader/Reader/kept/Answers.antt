use Rattle.wt_html_in.specs.Feeding.{IsFed, failed_of, held_of}
use Rattle.wt_html_in.proofs.Reading.{none_told, nothing_told}
use Rattle.wt_html_in.proofs.reader.Reader.kept.Goals as goal

pub returns-clause-kept : goal.returns-clause-kept
unfolding IsFed failed_of
returns-clause-kept c = λ going bytes h. c.kept.ensures.kept (none_told c.args.self.now.elements.failed going) bytes h

pub returns-clause-failed : goal.returns-clause-failed
unfolding failed_of
returns-clause-failed c = nothing_told c.args.self.now.elements.failed c.kept.result c.kept.ensures.failed

pub returns-clause-held : goal.returns-clause-held
unfolding held_of
returns-clause-held c = c.kept.ensures.held

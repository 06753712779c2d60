use Rattle.wt_html_elements.proofs.Answering.{kept_is, held_going, held_failed}
use Rattle.wt_html_elements.proofs.reader.Reader.kept.Goals as goal

pub returns-in-None-clause-kept : goal.returns-in-None-clause-kept
returns-in-None-clause-kept c = λ e bytes h. kept_is c.args.self.now.failed c.args.self.now.reading c.args.self.now.taken c.args.self.now.token_at c.saturating_sub.result c.in-None.is c.saturating_sub.ensures bytes h

pub returns-in-None-clause-held : goal.returns-in-None-clause-held
returns-in-None-clause-held c = held_going c.args.self.now.failed c.args.self.now.reading c.args.self.now.taken c.args.self.now.token_at c.saturating_sub.result c.args.self.now.fed c.in-None.is c.saturating_sub.ensures

pub returns-in-Some-clause-held : goal.returns-in-Some-clause-held
returns-in-Some-clause-held c = held_failed c.args.self.now.failed _ c.args.self.now.reading c.args.self.now.taken c.args.self.now.token_at c.args.self.now.fed c.in-Some.is

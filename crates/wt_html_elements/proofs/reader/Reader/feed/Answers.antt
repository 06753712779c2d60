use Rattle.wt_html_elements.proofs.Answering.{failed_fed, failed_right, failed_ill, front_clause, refused_clause, ill_clause}
use Rattle.wt_html_elements.proofs.reader.Reader.feed.Goals as goal

pub returns-in-Some-clause-fed : goal.returns-in-Some-clause-fed
returns-in-Some-clause-fed c = λ bytes h. failed_fed c.args.self.now.failed c.in-Some.refusal c.args.self.now.reading c.args.self.now.taken c.args.self.now.token_at bytes c.args.piece.now c.in-Some.is h

pub returns-in-Some-clause-refused : goal.returns-in-Some-clause-refused
returns-in-Some-clause-refused c = λ bytes h. failed_right c.args.self.now.failed c.in-Some.refusal c.args.self.now.reading c.args.self.now.taken c.args.self.now.token_at bytes c.in-Some.is h

pub returns-in-None-clause-front : goal.returns-in-None-clause-front
returns-in-None-clause-front c = front_clause c.feed_all.new.self.failed c.feed_all.new.self.reading c.feed_all.new.self.taken c.feed_all.new.self.token_at c.feed_all.result c.feed_all.ensures.answer

pub returns-in-None-clause-refused : goal.returns-in-None-clause-refused
returns-in-None-clause-refused c = refused_clause c.feed_all.new.self.failed c.feed_all.new.self.reading c.feed_all.new.self.taken c.feed_all.new.self.token_at c.feed_all.result c.feed_all.ensures.answer

pub returns-in-Some-clause-ill : goal.returns-in-Some-clause-ill
returns-in-Some-clause-ill c = λ bytes h. failed_ill c.args.self.now.failed c.in-Some.refusal c.args.self.now.reading c.args.self.now.taken c.args.self.now.token_at bytes c.in-Some.is h

pub returns-in-None-clause-ill : goal.returns-in-None-clause-ill
returns-in-None-clause-ill c = ill_clause c.feed_all.new.self.failed c.feed_all.new.self.reading c.feed_all.new.self.taken c.feed_all.new.self.token_at c.feed_all.result c.feed_all.ensures.answer

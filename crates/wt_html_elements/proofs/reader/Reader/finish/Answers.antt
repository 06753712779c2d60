use Rattle.std.proofs.Common.{sym, ◌∙◌, arith}
use Rattle.wt_html_elements.proofs.Answering.{failed_right, ends_well, ends_ill, has_root}
use Rattle.wt_html_elements.proofs.reader.Reader.finish.Goals as goal

pub returns-in-Some-clause-answers : goal.returns-in-Some-clause-answers
returns-in-Some-clause-answers c = λ bytes h. failed_right c.args.self.failed c.in-Some.refusal c.args.self.reading c.args.self.taken c.args.self.token_at bytes c.in-Some.is h

pub returns-then-is_accepted-clause-answers : goal.returns-then-is_accepted-clause-answers
returns-then-is_accepted-clause-answers c = λ bytes h.
    ends_well c.args.self.failed c.args.self.reading c.args.self.taken c.args.self.token_at bytes c.root.result c.in-None.is (sym c.is_accepted.ensures ∙ c.if-is_accepted.true) c.root.ensures h

pub returns-clause-answers : goal.returns-clause-answers
returns-clause-answers c = λ bytes h. ends_ill c.args.self.failed c.args.self.reading c.args.self.taken c.args.self.token_at bytes c.in-None.is (sym c.is_accepted.ensures ∙ c.if-is_accepted.false) h

pub root-requires : goal.root-requires
root-requires c =
    let some = has_root c.args.self.failed c.args.self.reading c.args.self.taken c.args.self.token_at c.args.self.fed c.in-None.is
    (sym c.is_accepted.ensures ∙ c.if-is_accepted.true) in
    omega (arith, some)

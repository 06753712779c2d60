use Rattle.std.proofs.Common.{◌<◌, ◌^◌, rules, refl}
use Rattle.wt_html_in.specs.Feeding.{IsFed, failed_of}
use Rattle.wt_html_in.proofs.Reading.{root_few, root_utf8, refused_at, again_ok, again_err}
use Rattle.wt_html_in.proofs.reader.Reader.finish.Goals as goal

pub answer-requires-clause-few : goal.answer-requires-clause-few
answer-requires-clause-few c =
    let l : c.args.self.elements.taken < 2 ^ 32 = search rules in
    root_few c.args.self.elements c.in-Ok.root c.args.self.fed (λ bytes h. c.in-Ok.ensures.answers bytes h) c.in-Ok.ensures.going l

pub answer-requires-clause-utf8 : goal.answer-requires-clause-utf8
answer-requires-clause-utf8 c = root_utf8 c.args.self.elements c.in-Ok.root c.args.self.fed (λ bytes h. c.in-Ok.ensures.answers bytes h)

pub returns-in-Err-clause-answers : goal.returns-in-Err-clause-answers
unfolding IsFed
returns-in-Err-clause-answers c = λ bytes h. refused_at bytes c.in-Err.refusal c.refusal_of.result c.refusal_of.ensures (c.in-Err.ensures.answers bytes h)

pub returns-in-Ok-clause-again : goal.returns-in-Ok-clause-again
unfolding failed_of
returns-in-Ok-clause-again c = again_ok c.args.self.elements.failed c.answer.result c.in-Ok.ensures.going

pub returns-in-Err-clause-again : goal.returns-in-Err-clause-again
unfolding failed_of
returns-in-Err-clause-again c =
    again_err c.args.self.elements.failed c.in-Err.refusal c.refusal_of.result c.finish.result _ c.in-Err.is refl c.refusal_of.ensures c.finish.ensures.again

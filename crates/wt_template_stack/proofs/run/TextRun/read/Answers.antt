use Rattle.wt_template_stack.specs.Stacks.{stack}
use Rattle.wt_template_stack.proofs.RestLaws.{spends_none}
use Rattle.wt_template_stack.proofs.StepLaws.{call_next, chunk_next}
use Rattle.wt_template_stack.proofs.run.TextRun.read.Goals as goal

pub returns-in_ok-read_chunk-in-Chunk-clause-answer : goal.returns-in_ok-read_chunk-in-Chunk-clause-answer
returns-in_ok-read_chunk-in-Chunk-clause-answer c = λ r t total h e. (
  total,
  spends_none c.args.spent.now total,
  c.in_ok-read_chunk-in-Chunk.ensures.answer r t total
      (chunk_next r t c.args.self.now (stack c.args.self.now.levels) c.args.end c.in-Chunk.kind c.in-Chunk.to total h e
      (λ xs stands. c.in-Chunk.ensures r.mode t h.place h.at_start xs h.running.reading stands)),
)

pub returns-in-Call-clause-answer : goal.returns-in-Call-clause-answer
returns-in-Call-clause-answer c = λ r t total h e.
    c.begin.ensures.answer r t total
    (call_next r t c.args.self.now (stack c.args.self.now.levels) c.args.end c.in-Call.call total h e
    (λ xs stands. c.in-Call.ensures r.mode t h.place h.at_start xs h.running.reading stands))

use Rattle.std.proofs.Common.{refl}
use Rattle.std.specs.Prelude.{nat_le, nat_lt}
use Rattle.wt_transclusion.proofs.CursorLaws.{count_on, le_later, lt_later}
use Rattle.wt_transclusion.proofs.cursor.Cursor.seek.Goals as goal

pub returns-clause-at : goal.returns-clause-at
returns-clause-at c = λ p at l.
    let to = c.args.to in
    record {
      at_is = refl;
      lexeme_is = count_on (λ x. nat_le x.at.end p)
          (λ x. nat_le x.at.end to) c.args.text.lexemes.now c.rest_of-lexemes.result.now c.args.self.lexeme c.lexemes_before.result (le_later p to l)
          at.lexeme_is c.rest_of-lexemes.ensures c.lexemes_before.ensures.value;
      call_is = count_on (λ x. nat_lt x.at.start p)
          (λ x. nat_lt x.at.start to) c.args.text.calls.now c.rest_of-calls.result.now c.args.self.call c.calls_before.result (lt_later p to l)
          at.call_is c.rest_of-calls.ensures c.calls_before.ensures.value;
    }

use Rattle.std.proofs.Common.{List, map, subst}
use Rattle.wt_span.specs.Braces.{calls}
use Rattle.wt_lex.specs.declared.lexeme.Lexeme.{Lexeme}
use Rattle.wt_lex.specs.Places.{word_of}
use Rattle.wt_braces.specs.Found.{first_place, AnswersCalls}
use Rattle.wt_braces.proofs.Wholes.{few_found, number_found, calls_found}
use Rattle.wt_braces.proofs.read.match_braces.Goals as goal

pub in_order-requires-clause-few : goal.in_order-requires-clause-few
in_order-requires-clause-few c =
    let xs = c.as_slice.result.now in few_found (first_place xs) (map word_of xs) c.in-Ok.matching c.into_closed.result.items
    c.in-Ok.ensures c.into_closed.ensures

pub in_order-requires-clause-number : goal.in_order-requires-clause-number
in_order-requires-clause-number c =
    let xs = c.as_slice.result.now in number_found (first_place xs) (map word_of xs) c.in-Ok.matching c.into_closed.result.items
    c.in-Ok.ensures c.into_closed.ensures

pub returns-in-Ok : goal.returns-in-Ok
returns-in-Ok c =
    let xs = c.as_slice.result.now in
    let P : List Lexeme → Type 0 = λ ls. AnswersCalls (calls (first_place ls) (map word_of ls)) c.in_order.result in
    subst P c.as_slice.ensures (calls_found (first_place xs) (map word_of xs) c.in-Ok.matching c.into_closed.result.items
    c.in_order.result c.in-Ok.ensures c.into_closed.ensures c.in_order.ensures)

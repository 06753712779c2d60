use Rattle.std.proofs.Common.{◌≡◌, sym, ◌∙◌, ap, rules, arith, ◌≤◌, ◌+◌, ◌-◌, ℕ, List, Some, length, drop, length-drop}
use Rattle.wt_span.specs.Functions.{word_of, named}
use Rattle.wt_functions.proofs.Naming.{named_fits}
use Rattle.wt_functions.proofs.function.function_in.Goals as goal

pub overflow_cast-result : goal.overflow_cast-result
overflow_cast-result c =
    let rest : List ℕ = c.rest_of.result.now in
    let fits : length (word_of c.in_ok-function.function) ≤ length rest = named_fits rest c.in_ok-function.function (sym c.named.ensures ∙ c.in_ok-function.was) in
    let left : length rest ≡ length c.args.target.now - c.space_len-space.result = ap length c.rest_of.ensures ∙ length-drop c.space_len-space.result c.args.target.now in
    let word : length c.word.result.now ≡ length (word_of c.in_ok-function.function) = ap length c.word.ensures in
    search rules

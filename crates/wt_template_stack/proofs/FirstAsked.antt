-- A function asks for its part 0 first.
use Rattle.std.proofs.Common.{◌≡◌, ℕ, ◌<◌, Bool, true, false, cond, List, [], refl, arith}
use Rattle.std.proofs.lemmas.Bool.{lt-ltb}
use Rattle.wt_span.specs.declared.function.Function.{Function}
use Rattle.wt_span.specs.declared.function.Function.TheVariants.{If, IfEq, Switch}
use Rattle.wt_functions.specs.declared.chooser.Ask.{Ask}
use Rattle.wt_functions.specs.declared.chooser.Ask.TheVariants.{Tell}
use Rattle.wt_functions.specs.Choice.{asked, told_count}

told_some : (f : Function) (names : List Bool) → 0 < told_count f names []
unfolding told_count
told_some If names = omega arith
told_some IfEq names = omega arith
told_some Switch names = omega arith

tells_by : (b : Bool) (n : ℕ) (a : Ask) → b ≡ true → cond b (Tell n) a ≡ Tell n
tells_by true n a h = refl
tells_by false n a h = cc

pub first_asked : (f : Function) (names : List Bool) → asked (record { function = f; equals = names; texts = [] }) ≡ Tell 0
unfolding asked
first_asked f names = tells_by _ 0 _ (lt-ltb 0 (told_count f names []) (told_some f names))

use Rattle.std.proofs.Common.{ap}
use Rattle.wt_tree.specs.Kinds.{Spelling}
use Rattle.wt_tree.proofs.kind.Kind.name.Goals as goal

pub returns : goal.returns
returns c = ap (λ (s : Spelling). s.name) c.spelling.ensures

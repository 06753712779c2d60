use Rattle.std.proofs.Common.{◌≡◌, subst}
use Rattle.std.specs.Prelude.{IfOk}
use Rattle.wt_inline.specs.View.{item_tree}
use Rattle.wt_page.specs.Body.{meaning}
use Rattle.wt_build.proofs.body.build.Goals as goal

pub returns : goal.returns
returns c = subst (λ xs. IfOk c.build_pieces.result (λ t. item_tree t.body ≡ meaning xs)) c.pieces.ensures.items c.build_pieces.ensures

use Rattle.std.proofs.Common.{◌≡◌, Bool, take}
use Rattle.std.specs.List.{flat_map}
use Rattle.wt_tree.specs.Tree.{Tree}
use Rattle.wt_tree.specs.View.{view}
use Rattle.wt_original.specs.Page.{TellsSame}
use Rattle.wt_link_spelling.specs.Spelling.{signs_of}
use Rattle.wt_original.specs.PageViews.{page_view}
use Rattle.wt_guards.specs.Views.{all_signs}
use Rattle.wt_escape.proofs.units.+signs.Given as goal

abbrev pub invariant-units_of-loop-node : goal.invariant-units_of-loop-node
invariant-units_of-loop-node l =
    (same : Tree → Tree → Bool) → TellsSame same
    → all_signs l.units.items ≡ flat_map (λ n. signs_of (page_view same l.page) l.place (view n)) (take l.node-index l.nodes)

use Rattle.std.proofs.Common.{sym, subst}
use Rattle.wt_tree.specs.Tiling.{InPreorder, Tiled}
use Rattle.wt_tree.specs.Tree.{Tree}
use Rattle.wt_tree.specs.View.{view}
use Rattle.wt_sections.proofs.Kept.{preorder}
use Rattle.wt_sections.proofs.Tiles.{tiled}
use Rattle.wt_ranges.proofs.page_tree.in_sections.Goals as goal

pub of-requires-clause-tiled : goal.of-requires-clause-tiled
of-requires-clause-tiled c =
    subst (λ (u : Tree). Tiled u) (sym c.in_ok-gathered.ensures) (tiled (view c.args.body) c.requires.tiled)

pub of-requires-clause-numbered : goal.of-requires-clause-numbered
of-requires-clause-numbered c =
    subst (λ (u : Tree). InPreorder u) (sym c.in_ok-gathered.ensures) (preorder (view c.args.body) c.requires.numbered)

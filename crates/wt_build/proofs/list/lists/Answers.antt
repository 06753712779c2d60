use Rattle.std.proofs.Common.{List, ℕ, subst, sym}
use Rattle.std.specs.Prelude.{All}
use Rattle.wt_blocks.specs.Nesting.{IsPrefix}
use Rattle.wt_build.proofs.ListNodes.{prefixes_are}
use Rattle.wt_build.proofs.list.lists.Goals as goal

pub nest_lists-requires : goal.nest_lists-requires
nest_lists-requires c = record {
  signs = subst (λ (ps : List (List ℕ)). All IsPrefix ps) (sym c.in_ok-prefixes.ensures)
      (prefixes_are c.args.pieces.now c.args.rows.now c.requires.ready.rows c.requires.listed);
}

use Rattle.wt_lines.specs.declared.kind.LineKind.TheVariants as line
use Rattle.wt_rows.specs.declared.row.RowAt.{RowAt}
use Rattle.wt_build.proofs.BlockNodes.{few_line}
use Rattle.wt_build.proofs.Slices.{sound_slice, parted_slice}
use Rattle.wt_build.proofs.block.block_tree.Goals as goal

abbrev none : RowAt
none = record { kind = line.Blank; start = 0; from = 0; to = 0; end = 0 }

pub heading_tree-requires-clause-few : goal.heading_tree-requires-clause-few
heading_tree-requires-clause-few c =
    few_line c.args.pieces.now c.between-line.result.now c.args.rows.now none c.requires.block.some c.requires.ready c.between-line.ensures

pub heading_tree-requires-clause-sound : goal.heading_tree-requires-clause-sound
heading_tree-requires-clause-sound c = sound_slice c.args.pieces.now c.between-line.result.now _ _ c.requires.ready.sound c.between-line.ensures

pub heading_tree-requires-clause-parted : goal.heading_tree-requires-clause-parted
heading_tree-requires-clause-parted c = parted_slice c.args.pieces.now c.between-line.result.now _ _ c.requires.ready.parted c.between-line.ensures

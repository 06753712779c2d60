use Rattle.wt_annotated.proofs.AnnotatedTree.{annotated_tiles, annotated_covers, annotated_slices, annotated_source, annotated_numbered}
use Rattle.wt_annotated.proofs.laws.annotated_page.Goals as goal

pub returns : goal.returns
returns c = record { tiled = annotated_tiles; covers = annotated_covers; slices = annotated_slices; source = annotated_source; numbered = annotated_numbered }

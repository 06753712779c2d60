-- What a `Source` says, whichever of its parts are there.
use Rattle.wt_tree.specs.declared.node_source.All.{All}
use Rattle.wt_tree.specs.declared.node_source.Parts.{Parts}
use Rattle.wt_tree.specs.declared.node_source.Parts.TheVariants as parts
use Rattle.wt_tree.specs.Sourced.{Sourced, leaf_sourced, round_sourced}

abbrev pub all_sourced : All → Sourced
all_sourced a = record { opening = a.opening; closing = a.closing; own = a.own; shown = a.shown }

abbrev pub sourced : Parts → Sourced
sourced (parts.Leaf own shown) = leaf_sourced own shown
sourced (parts.Round opening closing) = round_sourced opening closing
sourced (parts.All b) = all_sourced b.value

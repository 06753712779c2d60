use Rattle.wt_schema.proofs.Shallower.{written_shallower, written_in_section, node_is_part}
use Rattle.wt_schema.proofs.round_trip.nodes_stand_in_sections.Goals as goal

pub returns : goal.returns
returns c = record { shallower = written_shallower; in_section = written_in_section; part = node_is_part }

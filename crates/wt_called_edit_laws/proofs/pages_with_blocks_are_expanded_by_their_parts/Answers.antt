use Rattle.wt_called_edit_laws.proofs.Parts.Retyped.{is_by_parts}
use Rattle.wt_called_edit_laws.proofs.pages_with_blocks_are_expanded_by_their_parts.Goals as goal

pub returns : goal.returns
returns c = is_by_parts

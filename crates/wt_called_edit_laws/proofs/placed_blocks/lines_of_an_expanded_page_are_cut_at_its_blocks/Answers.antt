use Rattle.wt_called_edit_laws.proofs.Among.CalmLines.{calm_lined, calm_parts}
use Rattle.wt_called_edit_laws.proofs.Among.LinedParts.{lined_whole, lined_placed, lined_editable}
use Rattle.wt_called_edit_laws.proofs.placed_blocks.lines_of_an_expanded_page_are_cut_at_its_blocks.Goals as goal

pub returns-clause-whole : goal.returns-clause-whole
returns-clause-whole c = lined_whole

pub returns-clause-blocks : goal.returns-clause-blocks
returns-clause-blocks c = lined_placed

pub returns-clause-editable : goal.returns-clause-editable
returns-clause-editable c = lined_editable

pub returns-clause-calm : goal.returns-clause-calm
returns-clause-calm c = calm_lined

pub returns-clause-parts : goal.returns-clause-parts
returns-clause-parts c = calm_parts

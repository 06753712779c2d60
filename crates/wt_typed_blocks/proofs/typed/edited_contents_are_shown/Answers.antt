use Rattle.wt_typed_blocks.proofs.EditedShows.{page_shows, body_shows}
use Rattle.wt_typed_blocks.proofs.typed.edited_contents_are_shown.Goals as goal

pub returns-clause-page : goal.returns-clause-page
returns-clause-page c = page_shows

pub returns-clause-ungrouped : goal.returns-clause-ungrouped
returns-clause-ungrouped c = body_shows

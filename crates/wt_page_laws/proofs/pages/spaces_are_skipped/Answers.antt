use Rattle.wt_page_laws.proofs.PreSpaces.{pre_opened, pre_skips}
use Rattle.wt_page_laws.proofs.pages.spaces_are_skipped.Goals as goal

pub returns-clause-first : goal.returns-clause-first
returns-clause-first c = pre_opened

pub returns-clause-later : goal.returns-clause-later
returns-clause-later c = pre_skips

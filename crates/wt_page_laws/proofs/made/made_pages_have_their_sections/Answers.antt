use Rattle.wt_page_laws.proofs.MadeLines.{calls, headings, items, paragraphs}
use Rattle.wt_page_laws.proofs.made.made_pages_have_their_sections.Goals as goal

pub returns-clause-headings : goal.returns-clause-headings
returns-clause-headings c = headings

pub returns-clause-paragraphs : goal.returns-clause-paragraphs
returns-clause-paragraphs c = paragraphs

pub returns-clause-items : goal.returns-clause-items
returns-clause-items c = items

pub returns-clause-calls : goal.returns-clause-calls
returns-clause-calls c = calls

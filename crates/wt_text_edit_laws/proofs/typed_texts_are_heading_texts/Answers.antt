use Rattle.wt_text_edit_laws.proofs.Headings.TypedTexts.{typed_heading_text, typed_apart}
use Rattle.wt_text_edit_laws.proofs.typed_texts_are_heading_texts.Goals as goal

pub returns-clause-text : goal.returns-clause-text
returns-clause-text c = typed_heading_text

pub returns-clause-apart : goal.returns-clause-apart
returns-clause-apart c = typed_apart

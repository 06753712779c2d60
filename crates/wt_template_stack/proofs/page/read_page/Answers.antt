use Rattle.std.proofs.Common.{Err, subst}
use Rattle.wt_span.specs.declared.form.Mode.TheVariants as text_mode
use Rattle.wt_braces.specs.declared.call.BraceRefusal.{BraceRefusal}
use Rattle.wt_transclusion.specs.Reads.{AnswersText}
use Rattle.wt_template_stack.proofs.PageLaws.{page_stops_deep, too_deep_first}
use Rattle.wt_template_stack.proofs.page.read_page.Goals as goal

pub returns-in-Err-BracesTooDeep-clause-refused : goal.returns-in-Err-BracesTooDeep-clause-refused
returns-in-Err-BracesTooDeep-clause-refused c = λ pages.
    let bytes = c.args.page.now in
    too_deep_first pages bytes c.in-Err-BracesTooDeep.place
    (subst (λ (x : BraceRefusal). AnswersText text_mode.Page bytes (Err x)) c.in-Err-BracesTooDeep.field-0-is c.in-Err-BracesTooDeep.ensures)

pub returns-in-Err-BracesTooDeep-clause-stops : goal.returns-in-Err-BracesTooDeep-clause-stops
returns-in-Err-BracesTooDeep-clause-stops c = λ pages met told.
    let bytes = c.args.page.now in
    page_stops_deep pages bytes c.in-Err-BracesTooDeep.place met told
    (subst (λ (x : BraceRefusal). AnswersText text_mode.Page bytes (Err x)) c.in-Err-BracesTooDeep.field-0-is c.in-Err-BracesTooDeep.ensures)

use Rattle.std.proofs.Common.{rules, Ok, Err, ◌∙◌, ap, subst}
use Rattle.wt_span.specs.declared.form.Mode.TheVariants as mode
use Rattle.wt_braces.specs.declared.call.BraceRefusal.TheVariants as refusal
use Rattle.wt_expand.specs.Templates.{template_text}
use Rattle.wt_transclusion.specs.Reads.{AnswersText}
use Rattle.wt_transclusion.proofs.TemplateReads.{long_refused, utf8_refused, deep_refused, not_refused, small_place, small_text}
use Rattle.wt_transclusion.proofs.store.read_template.Goals as goal

pub returns-then-bytes-gt-PAGE_BYTES : goal.returns-then-bytes-gt-PAGE_BYTES
returns-then-bytes-gt-PAGE_BYTES c = (
  long_refused c.args.title.now c.in_ok-copy_of.field-0 c.args.bytes.now c.in_ok-copy_of.ensures
      c.if-bytes-gt-PAGE_BYTES.true,
  tt,
)

pub overflow_cast-result : goal.overflow_cast-result
overflow_cast-result c =
    let h = small_place c.args.bytes.now c.in-Err.place c.if-bytes-gt-PAGE_BYTES.false c.in-Err.ensures.place in
    search (rules, h)

pub returns-in-Err : goal.returns-in-Err
returns-in-Err c = (
  utf8_refused c.args.title.now c.in_ok-copy_of-in-Err.field-0 c.args.bytes.now c.in-Err.place c.in_ok-copy_of-in-Err.ensures
      c.if-bytes-gt-PAGE_BYTES.false c.in-Err.ensures.place,
  tt,
)

pub read_in-requires : goal.read_in-requires
read_in-requires c = small_text c.args.bytes.now c.in-Ok.text.now c.in_ok-taken.taken.now c.if-bytes-gt-PAGE_BYTES.false c.in-Ok.ensures.text
    c.in_ok-taken.ensures

pub returns-in-Ok-read_in : goal.returns-in-Ok-read_in
returns-in-Ok-read_in c =
    let same = c.in_ok-taken.ensures ∙ ap template_text c.in-Ok.ensures.text in
    let h = subst (λ bs. AnswersText mode.Template bs (Ok c.in-Ok-read_in.read)) same c.in-Ok-read_in.ensures in
    (h.0, not_refused c.args.title.now c.args.bytes.now c.if-bytes-gt-PAGE_BYTES.false c.in-Ok.ensures.whole h.1)

pub returns-in_ok-copy_of-in-Err-BracesTooDeep : goal.returns-in_ok-copy_of-in-Err-BracesTooDeep
returns-in_ok-copy_of-in-Err-BracesTooDeep c =
    let same = c.in_ok-taken.ensures ∙ ap template_text c.in-Ok.ensures.text in
    let g = subst (λ r. AnswersText mode.Template c.in_ok-taken.taken.now (Err r)) c.in-Err-BracesTooDeep.field-0-is c.in-Err-BracesTooDeep.ensures in
    let h = subst (λ bs. AnswersText mode.Template bs (Err (refusal.BracesTooDeep c.in-Err-BracesTooDeep.place))) same g in (
      deep_refused c.args.title.now c.in_ok-copy_of-in-Err-BracesTooDeep.field-0 c.args.bytes.now c.in-Err-BracesTooDeep.place
          c.in_ok-copy_of-in-Err-BracesTooDeep.ensures
          c.if-bytes-gt-PAGE_BYTES.false c.in-Ok.ensures.whole h,
      tt,
    )

use Rattle.std.proofs.Common.{ap, ◌∙◌}
use Rattle.std.specs.Prelude.{Some}
use Rattle.wt_selser.specs.declared.refusal.EditRefusal.TheVariants as refusal
use Rattle.wt_selser.proofs.Answering.{no_content, tangled_some, tangled_none}
use Rattle.wt_checks.specs.Places.{is_content}
use Rattle.wt_selser.proofs.editing.tangled_pair.Goals as goal

pub returns-then-not-is_content-clause-value : goal.returns-then-not-is_content-clause-value
returns-then-not-is_content-clause-value c =
    no_content c.args.items.now c.args.page.now c.args.pair c.is_content.result (c.is_content.ensures ∙ ap is_content c.mark.ensures) c.if-not-is_content.true

pub returns-then-tangled-clause-value : goal.returns-then-tangled-clause-value
returns-then-tangled-clause-value c =
    ap (λ n. Some (refusal.Tangled n)) c.new.ensures
    ∙ tangled_some c.args.items.now c.args.page.now c.args.pair c.is_content.result c.in_ok-tangled.tangled (c.is_content.ensures ∙ ap is_content c.mark.ensures) c.if-not-is_content.false
    c.in_ok-tangled.ensures.value c.if-tangled.true

pub returns-clause-value : goal.returns-clause-value
returns-clause-value c =
    tangled_none c.args.items.now c.args.page.now c.args.pair c.is_content.result c.in_ok-tangled.tangled (c.is_content.ensures ∙ ap is_content c.mark.ensures) c.if-not-is_content.false
    c.in_ok-tangled.ensures.value c.if-tangled.false

use Rattle.std.proofs.Common.{sym, ap, ◌∙◌, ◌++◌, codes}
use Rattle.wt_transclusion.specs.Target.{is_that_template}
use Rattle.wt_transclusion.proofs.Titles.{template_found, template_other, template_none}
use Rattle.wt_transclusion.proofs.target.as_template.Goals as goal

pub returns-then-is_that_template : goal.returns-then-is_that_template
returns-then-is_that_template c =
    template_found c.args.title.now c.in-Some.read c.as_str.result.now c.requires.tidy c.requires.whole
    (c.as_str.ensures ∙ c.in_ok-full.ensures ∙ ap (λ n. codes "Template:" ++ n) c.as_str-name.ensures) (sym c.in-Some.is ∙ c.in_ok-read.ensures)
    (ap (is_that_template c.in-Some.read) (sym c.as_str-name.ensures) ∙ sym c.is_that_template.ensures ∙ c.if-is_that_template.true)

pub returns-in-Some : goal.returns-in-Some
returns-in-Some c =
    template_other c.args.title.now c.in-Some.read c.as_str.result.now c.requires.tidy c.requires.whole
    (c.as_str.ensures ∙ c.in_ok-full.ensures ∙ ap (λ n. codes "Template:" ++ n) c.as_str-name.ensures) (sym c.in-Some.is ∙ c.in_ok-read.ensures)
    (ap (is_that_template c.in-Some.read) (sym c.as_str-name.ensures) ∙ sym c.is_that_template.ensures ∙ c.if-is_that_template.false)

pub returns : goal.returns
returns c =
    template_none c.args.title.now c.as_str.result.now c.requires.tidy c.requires.whole
    (c.as_str.ensures ∙ c.in_ok-full.ensures ∙ ap (λ n. codes "Template:" ++ n) c.as_str-name.ensures) (sym c.in-None.is ∙ c.in_ok-read.ensures)

use Rattle.std.proofs.Common.{◌+◌, refl, sym, ◌∙◌, arith, append_assoc, length-append}
use Rattle.std.proofs.lemmas.Grind.{common_steps}
use Rattle.wt_tree.specs.View.{label_of, views}
use Rattle.wt_tree.specs.declared.node.Node.{out-Node}
use Rattle.wt_html_out.proofs.GroupCounts.{group_longer}
use Rattle.wt_html_out.proofs.Htmls.{html_children, html_character, html_section}
use Rattle.wt_html_out.proofs.nodes.+html.Goals as goal

pub push_html-returns-in-RoundChildren-clause-text : goal.push_html-returns-in-RoundChildren-clause-text
push_html-returns-in-RoundChildren-clause-text t c =
    rw (html_children c.args.before c.args.node.now (sym c.is_group.ensures ∙ c.if-is_group.false) (sym c.writing.ensures ∙ c.in-RoundChildren.is))
    (grind (arith, common_steps, append_assoc))

pub push_html-returns-in_ok-push_end-in-RoundCharacter-clause-text : goal.push_html-returns-in_ok-push_end-in-RoundCharacter-clause-text
push_html-returns-in_ok-push_end-in-RoundCharacter-clause-text t c =
    rw (html_character c.args.before c.args.node.now (sym c.is_group.ensures ∙ c.if-is_group.false) (sym c.writing.ensures ∙ c.in-RoundCharacter.is))
    (grind (arith, common_steps, append_assoc))

pub push_html-returns-in_err-behind-in-RoundChildren-clause-too_long : goal.push_html-returns-in_err-behind-in-RoundChildren-clause-too_long
push_html-returns-in_err-behind-in-RoundChildren-clause-too_long t c =
    rw (html_children c.args.before c.args.node.now (sym c.is_group.ensures ∙ c.if-is_group.false) (sym c.writing.ensures ∙ c.in-RoundChildren.is))
    (grind (arith, common_steps, append_assoc, length-append))

pub push_html-returns-in-AsSection-clause-text : goal.push_html-returns-in-AsSection-clause-text
push_html-returns-in-AsSection-clause-text t c =
    rw (html_section c.args.before c.in-AsSection.number c.args.node.now (sym c.is_group.ensures ∙ c.if-is_group.false) (sym c.writing.ensures ∙ c.in-AsSection.is))
    (grind (arith, common_steps, append_assoc))

pub push_html-returns-in_err-behind-in-AsSection-clause-too_long : goal.push_html-returns-in_err-behind-in-AsSection-clause-too_long
push_html-returns-in_err-behind-in-AsSection-clause-too_long t c =
    rw (html_section c.args.before c.in-AsSection.number c.args.node.now (sym c.is_group.ensures ∙ c.if-is_group.false) (sym c.writing.ensures ∙ c.in-AsSection.is))
    (grind (arith, common_steps, append_assoc, length-append))

pub push_html-returns-then-is_group-clause-few : goal.push_html-returns-then-is_group-clause-few
push_html-returns-then-is_group-clause-few t c =
    group_longer c.args.before (c.args.before + 1) c.args.out.now.items c.push_group.new.out.items (label_of (out-Node c.args.node.now))
    (views (out-Node c.args.node.now).children) c.requires refl c.in_ok-push_group.ensures

use Rattle.std.proofs.Common.{arith, ap}
use Rattle.wt_tree.specs.View.{views}
use Rattle.wt_tree.specs.declared.node.Node.{out-Node}
use Rattle.wt_visible.specs.Views.{child_view}
use Rattle.wt_selser.proofs.GroupFaultLaws.{not_one, one_decided, other_element, text_alone}
use Rattle.wt_selser.proofs.group_fault.is_one_paragraph.Goals as goal

pub returns-then-count-ne1 : goal.returns-then-count-ne1
returns-then-count-ne1 c = not_one c.args.shown.now (views (out-Node c.args.group.now).children) c.if-count-ne1.true

pub returns-in-Text : goal.returns-in-Text
returns-in-Text c =
    text_alone c.args.shown.now c.index-shown-0.result _ (views (out-Node c.args.group.now).children) (omega (arith, c.if-count-ne1.false))
    c.index-shown-0.is (ap child_view c.in-Text.is)

pub returns-then-not-para : goal.returns-then-not-para
returns-then-not-para c =
    other_element c.args.shown.now c.index-shown-0.result c.in-Element.element (views (out-Node c.args.group.now).children) c.is_paragraph-para.result
    (omega (arith, c.if-count-ne1.false)) c.index-shown-0.is (ap child_view c.in-Element.is) c.is_paragraph-para.ensures c.if-not-para.true

pub returns-in_ok-same-in-Element : goal.returns-in_ok-same-in-Element
returns-in_ok-same-in-Element c =
    one_decided c.args.shown.now c.index-shown-0.result c.in-Element.element (views (out-Node c.args.group.now).children) c.in_ok-same-in-Element.same
    (omega (arith, c.if-count-ne1.false)) c.index-shown-0.is (ap child_view c.in-Element.is) (c.is_paragraph-para.ensures.0 c.if-not-para.false)
    c.in_ok-same-in-Element.ensures

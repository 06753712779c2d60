use Rattle.std.proofs.Common.{◌≡◌, ap, length, subst, ◌∙◌}
use Rattle.std.specs.Prelude.{◌==◌, None}
use Rattle.std.specs.Bool.{Decides}
use Rattle.wt_tree.specs.declared.node.Node.{out-Node}
use Rattle.wt_selser.proofs.GroupFaultLaws.{data_decides, other_attrs, other_kind}
use Rattle.wt_selser.proofs.group_fault.is_paragraph.Goals as goal

pub returns-then-not-para : goal.returns-then-not-para
returns-then-not-para c =
    let n = out-Node c.args.node.now in
    other_kind n.kind n.more.attrs n.more.mw c.same_kind-para.result c.same_kind-para.ensures c.if-not-para.true

pub returns-then-not-bare : goal.returns-then-not-bare
returns-then-not-bare c =
    let n = out-Node c.args.node.now in
    other_attrs n.kind n.more.attrs n.more.mw c.is_empty-bare.result (c.is_empty-bare.ensures ∙ ap (λ xs. length xs == 0) c.attrs.ensures) c.if-not-bare.true

pub returns : goal.returns
returns c =
    let n = out-Node c.args.node.now in
    data_decides n.kind n.more.attrs n.more.mw c.same_kind-para.result c.is_empty-bare.result c.same_data.result c.same_kind-para.ensures c.if-not-para.false
    (c.is_empty-bare.ensures ∙ ap (λ xs. length xs == 0) c.attrs.ensures) c.if-not-bare.false (subst (λ m. Decides c.same_data.result (m ≡ None)) c.mw.ensures c.same_data.ensures)

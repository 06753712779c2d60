use Rattle.std.proofs.Common.{◌≡◌, false, true, refl, subst, sym, ◌∙◌}
use Rattle.wt_visible.specs.KeptMarks.{KeepsMarks}
use Rattle.wt_tree.specs.View.{view}
use Rattle.wt_tree.specs.declared.node.Node.{Node}
use Rattle.wt_new_page.proofs.asked.marked.Goals as goal

pub returns-then-keeps : goal.returns-then-keeps
returns-then-keeps c = (
  refl,
  subst (λ (n : Node). KeepsMarks (view n) (view c.args.edit.now.tree.now) (view c.args.edit.now.edited.now)) c.body.ensures.body
      (c.in_ok-keeps.ensures.0 c.if-keeps.true),
)

pub returns : goal.returns
returns c = (
  refl,
  refl,
  λ kept.
      let back = subst (λ (n : Node). KeepsMarks (view n) (view c.args.edit.now.tree.now) (view c.args.edit.now.edited.now)) (sym c.body.ensures.body) kept in
      let e : false ≡ true = sym c.if-keeps.false ∙ c.in_ok-keeps.ensures.1 back in cc,
)

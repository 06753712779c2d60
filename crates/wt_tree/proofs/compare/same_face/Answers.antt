use Rattle.std.proofs.Common.{sym, ◌∙◌}
use Rattle.wt_tree.proofs.Adding.{face_parts, decides_not, false_is}
use Rattle.wt_tree.proofs.compare.same_face.Goals as goal

pub returns-then-not-same_attrs : goal.returns-then-not-same_attrs
returns-then-not-same_attrs c = decides_not (λ e. false_is (c.if-not-same_attrs.ensures.1 e))
    (λ e. c.attrs.ensures ∙ (face_parts c.args.a.now c.args.b.now e).1 ∙ sym c.attrs-2.ensures)

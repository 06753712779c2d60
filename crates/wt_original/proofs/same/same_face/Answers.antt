use Rattle.wt_tree.proofs.Adding.{decides_not, false_is}
use Rattle.wt_original.proofs.Sames.{face_attrs}
use Rattle.wt_original.proofs.same.same_face.Goals as goal

pub returns-then-not-same_attrs : goal.returns-then-not-same_attrs
returns-then-not-same_attrs c = decides_not (λ e. false_is (c.if-not-same_attrs.ensures.1 e)) (λ e. face_attrs c.args.a c.args.b e)

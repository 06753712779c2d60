use Rattle.std.proofs.Common.{◌∙◌, ◌++◌, ap, refl}
use Rattle.wt_tree.proofs.Adding.{adds_text}
use Rattle.wt_tree.proofs.compare.push_text.Goals as goal

pub returns : goal.returns
returns c = adds_text _ _ c.args.text.now (c.in_ok-extend_from_slice.ensures.items ∙ ap (λ xs. c.args.shown.now.text.items ++ xs) c.as_bytes.ensures.value) refl

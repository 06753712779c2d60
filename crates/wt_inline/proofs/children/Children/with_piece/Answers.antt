use Rattle.std.proofs.Common.{◌∷◌, List, [], sym, ap, ◌∙◌, subst}
use Rattle.std.proofs.lemmas.Result.{IfOk-weaker}
use Rattle.wt_span.specs.Slice.{bytes_of}
use Rattle.wt_span.specs.Items.{call_of_origin}
use Rattle.wt_inline.specs.Parts.{Part, node}
use Rattle.wt_inline.specs.Grown.{growth, Grows}
use Rattle.wt_inline.proofs.Trees.{whole_parts}
use Rattle.wt_inline.proofs.children.Children.with_piece.Goals as goal

pub returns-in_ok-tree : goal.returns-in_ok-tree
returns-in_ok-tree c =
    let p = c.args.piece in
    let e = ap (λ t. node t ∷ []) c.in_ok-tree.ensures
    ∙ sym (whole_parts c.args.loose p.form (call_of_origin p.origin) (bytes_of p.text) (sym c.if-is_chars.ensures)) in
    IfOk-weaker c.with_tree.result _ _ (λ h g. subst (λ (ps : List Part). Grows (growth c.args.self) ps (growth h)) e g) c.with_tree.ensures

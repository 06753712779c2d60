use Rattle.std.proofs.lemmas.Result.{IfOk-weaker}
use Rattle.std.proofs.Common.{sym, subst, List}
use Rattle.wt_span.specs.Items.{call_of_origin}
use Rattle.wt_inline.specs.Parts.{Part}
use Rattle.wt_inline.specs.Grown.{growth, Grows}
use Rattle.wt_inline.proofs.Trees.{inside_chars_parts}
use Rattle.wt_inline.proofs.nowiki.with_inside.Goals as goal

pub returns-then-is_chars : goal.returns-then-is_chars
returns-then-is_chars c =
    let p = c.args.piece in
    let e = inside_chars_parts p.form (call_of_origin p.origin) p.text.of.now (sym c.if-is_chars.ensures) in
    IfOk-weaker c.with_chars.result _ _ (λ h g. subst (λ (ps : List Part). Grows (growth c.args.children) ps (growth h)) (sym e) g) c.with_chars.ensures

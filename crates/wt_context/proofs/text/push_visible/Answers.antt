use Rattle.std.proofs.Common.{◌≡◌, ◌++◌, List, ℕ, sym, subst, ◌∙◌}
use Rattle.std.specs.Prelude.{OnOk}
use Rattle.wt_span.specs.Items.{call_of_origin}
use Rattle.wt_context.proofs.Texts.{visible_by}
use Rattle.wt_context.proofs.text.push_visible.Goals as goal

pub returns : goal.returns
returns c =
    let p = c.args.piece.now in
    let e = c.as_str.ensures ∙ sym (visible_by p.form (call_of_origin p.origin) p.text.of.now (sym c.if-is_mark.ensures)) in
    subst (λ (bs : List ℕ). OnOk c.push_str.result (c.push_str.new.self ≡ c.args.out.now ++ bs)) e c.push_str.ensures.ok

use Rattle.std.proofs.Common.{◌++◌, Some, sym, ap, ◌∙◌}
use Rattle.wt_expand.specs.Texts.{both}
use Rattle.wt_transclusion.specs.Ends.{is_chars}
use Rattle.wt_transclusion.proofs.TargetTexts.{chars_said}
use Rattle.wt_transclusion.proofs.target.push_target.Goals as goal

pub returns-in_ok-push_str-in-Chars : goal.returns-in_ok-push_str-in-Chars
returns-in_ok-push_str-in-Chars c =
    ap (both (Some c.args.text.now)) (chars_said c.args.piece.now (ap is_chars c.in-Chars.is))
    ∙ ap Some (sym (c.in_ok-push_str-in-Chars.ensures.ok ∙ ap (λ bs. c.args.text.now ++ bs) c.as_str.ensures))

use Rattle.std.proofs.Common.{◌<◌, ◌+◌, sym, ap, ◌∙◌, subst, arith, length, ℕ}
use Rattle.std.specs.Str.{IsCharBoundary}
use Rattle.wt_attributes.specs.Classes.{run_len}
use Rattle.wt_attributes.proofs.Runs.{border_before, border_behind}
use Rattle.wt_attributes.proofs.class.ScanClass.split_ended.Goals as goal

pub split_at-requires : goal.split_at-requires
split_at-requires c =
    let is = c.run_len-len.ensures.value ∙ ap (run_len c.args.self) c.as_bytes.ensures.value in
    subst (IsCharBoundary c.args.text.now) (sym is) (border_before c.args.self c.args.text.now c.requires)

pub split_at-requires-2 : goal.split_at-requires-2
split_at-requires-2 c =
    let is = c.run_len-len.ensures.value ∙ ap (run_len c.args.self) c.as_bytes.ensures.value in
    let ne = c.if-len-text.false in
    let l : run_len c.args.self c.args.text.now < length c.args.text.now = omega (arith, is, c.run_len-len.ensures.within, c.as_bytes.ensures.len, ne) in
    subst (λ (n : ℕ). IsCharBoundary c.args.text.now (n + 1)) (sym is) (border_behind c.args.self c.args.text.now c.utf8.text c.requires l)

use Rattle.std.proofs.Common.{ℕ, ◌<◌, ◌≤◌, List, arith, zero, suc}
use Rattle.std.specs.Str.{IsCharBoundary}
use Rattle.wt_transclusion.proofs.Borders.{FirstBorder, first_border}
use Rattle.wt_transclusion.proofs.templates.front_len.Goals as goal

some : (bs : List ℕ) (n most : ℕ) → 4 ≤ most → ((i : ℕ) → n < i → i ≤ most → IsCharBoundary bs i → ⊥) → FirstBorder bs → 0 < n
some bs zero most l f b = absurd (f b.place b.behind (let near = b.near in omega (arith, l, near)) b.border)
some bs (suc n) most l f b = omega arith

pub returns-clause-some : goal.returns-clause-some
returns-clause-some c =
    some c.args.text.now c.floor_char_boundary.result 4294967295 (omega arith) c.floor_char_boundary.ensures.nearest
    (first_border c.args.text.now c.utf8.text (omega arith))

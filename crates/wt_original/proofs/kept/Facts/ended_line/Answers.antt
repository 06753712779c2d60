use Rattle.std.proofs.Common.{arith, ◌≡◌, ℕ, ◌-◌, ◌<◌, ◌≤◌, Bool, false, List, length, get_or, ap, ◌∙◌}
use Rattle.wt_original.specs.Kept.{seen_inside}
use Rattle.wt_original.specs.Gathered.{blank_ends}
use Rattle.wt_original.proofs.Ends.{ends_length, ends_at, ends_past}
use Rattle.wt_original.proofs.kept.Facts.ended_line.Goals as goal

pub returns-then-extent-self : goal.returns-then-extent-self
returns-then-extent-self c = λ block h.
    let xs = seen_inside block in
    let n : length c.args.self.ends.now ≡ length xs = ap (λ (es : List Bool). length es) h.ends ∙ ends_length xs in
    let lt : c.args.extent.to < length xs = omega (arith, n, c.if-extent-self.true) in
    ap (λ (es : List Bool). get_or es (length es - 1 - c.args.extent.to) false) h.ends
    ∙ ap (λ (k : ℕ). get_or (blank_ends xs) (k - 1 - c.args.extent.to) false) (ends_length xs) ∙ ends_at xs c.args.extent.to false lt

pub returns-else-extent-self : goal.returns-else-extent-self
returns-else-extent-self c = λ block h.
    let xs = seen_inside block in
    let n : length c.args.self.ends.now ≡ length xs = ap (λ (es : List Bool). length es) h.ends ∙ ends_length xs in
    let le : length xs ≤ c.args.extent.to = omega (arith, n, c.if-extent-self.false) in
    ends_past xs c.args.extent.to le

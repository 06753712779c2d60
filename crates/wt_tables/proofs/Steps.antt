-- How many tables are open behind a line.
use Rattle.std.proofs.Common.{◌≡◌, ◌<◌, ◌≤◌, ℕ, List, refl, sym, ◌∙◌, subst, arith}
use Rattle.wt_span.specs.Items.{Item}
use Rattle.wt_lines.specs.declared.kind.LineKind.{LineKind}
use Rattle.wt_lines.specs.declared.kind.LineKind.TheVariants as kind
use Rattle.wt_lines.specs.Kinds.{line_kind}
use Rattle.wt_tables.specs.Extents.{behind}
use Rattle.wt_tables.proofs.Opens.{open_few}

few_by : (k : LineKind) (n : ℕ) → (k ≡ kind.TableOpen → n < 16) → n ≤ 16 → behind n k ≤ 16
few_by kind.TableOpen n h le = let l : n < 16 = h refl in omega arith
few_by kind.TableEnd n h le = omega arith
few_by kind.Blank n h le = le
few_by kind.Caption n h le = le
few_by kind.Row n h le = le
few_by kind.Cell n h le = le
few_by kind.Header n h le = le
few_by kind.Heading n h le = le
few_by kind.Rule n h le = le
few_by kind.List n h le = le
few_by kind.Pre n h le = le
few_by kind.Text n h le = le

pub few_after : (n b : ℕ) (k : LineKind) (xs : List Item) → n ≤ 16 → k ≡ line_kind n xs → b ≡ behind n k → b ≤ 16
few_after n b k xs le e f = subst (λ (m : ℕ). m ≤ 16) (sym f) (few_by k n (λ t. open_few n xs (sym e ∙ t)) le)

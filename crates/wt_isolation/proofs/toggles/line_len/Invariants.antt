use Rattle.std.proofs.Common.{◌≡◌, ◌+◌, drop}
use Rattle.std.specs.Prelude.{not}
use Rattle.std.specs.List.{prefix_len}
use Rattle.wt_isolation.specs.Toggles.{is_break_glyph}
use Rattle.wt_isolation.proofs.toggles.line_len.Given as goal

abbrev pub invariant-loop-at : goal.invariant-loop-at
invariant-loop-at l = l.at + prefix_len (λ g. not (is_break_glyph g)) (drop l.at l.glyphs) ≡ prefix_len (λ g. not (is_break_glyph g)) l.glyphs

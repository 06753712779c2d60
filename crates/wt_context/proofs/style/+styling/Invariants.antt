use Rattle.std.proofs.Common.{◌+◌, ◌*◌, ◌-◌, length, drop}
use Rattle.wt_quotes.specs.Forest.{forest_of}
use Rattle.wt_inline.specs.Grown.{growth}
use Rattle.wt_context.specs.Tokens.{rest_segments}
use Rattle.wt_context.specs.Styling.{Fill}
use Rattle.wt_context.proofs.StyleSteps.{AreLeft}
use Rattle.wt_context.proofs.style.+styling.Given as goal

abbrev pub decreases-styled : goal.decreases-styled
decreases-styled l = 2 * length l.styles.now

abbrev pub decreases-with_style : goal.decreases-with_style
decreases-with_style l = 2 * length l.inner.now + 1

abbrev pub invariant-styled-loop-at : goal.invariant-styled-loop-at
invariant-styled-loop-at l = record {
  fill : Fill l.place l.high (forest_of (drop l.at l.styles));
  left : AreLeft l.low l.high l.styles (rest_segments l.fn.now.rest) (growth l.fn.now.children) l.place (drop l.at l.styles) (rest_segments l.now.rest)
      (growth l.now.children);
}

abbrev pub decreases-styled-loop-at : goal.decreases-styled-loop-at
decreases-styled-loop-at l = length l.styles - l.at

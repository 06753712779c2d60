use Rattle.std.proofs.Common.{◌+◌, ◌-◌, ◌≤◌, length, drop, get_or, ap, ◌∙◌, subst, arith}
use Rattle.std.proofs.lemmas.List.{drop_all}
use Rattle.wt_span.specs.Items.{items}
use Rattle.wt_quotes.specs.Forest.{forest_of}
use Rattle.wt_inline.specs.ItemTree.{plain, inner as inner_tree, forest}
use Rattle.wt_inline.specs.View.{item_tree}
use Rattle.wt_inline.specs.Grown.{Grown, growth}
use Rattle.wt_context.specs.Styled.{style_kind}
use Rattle.wt_context.specs.Styling.{AreStyled}
use Rattle.wt_context.specs.Tokens.{rest_segments}
use Rattle.wt_context.proofs.Forests.{fill_le}
use Rattle.wt_context.proofs.StyleSteps.{zero_style, forest_at, fill_at, fewer, left_step, left_done, style_made}
use Rattle.wt_context.proofs.style.+styling.Goals as goal

pub styled-with_style-requires : goal.styled-with_style-requires
styled-with_style-requires t c =
    let ss = c.args.styles.now in
    let at = c.loop-at.at in
    let s = get_or ss at zero_style in
    let ins = c.front_of.result.now in
    let n = c.inner_count-n.result in
    let later = c.rest_of-later.result.now in
    let l = c.loop-at-test.true in
    let fo = forest_at ss later ins at n zero_style l c.rest_of-later.ensures c.inner_count-n.ensures.value c.front_of.ensures in
    let fill = fill_at c.loop-at.place c.args.high _ _ fo c.loop-at.invariant.fill in
    let short = fewer ss later ins at n l c.rest_of-later.ensures c.front_of.ensures c.inner_count-n.ensures.within in
    let low = fill_le (s.from + s.open_w) (s.to - s.close_w) (forest_of ins) fill.1 in
    let end = fill_le s.to c.args.high (forest_of (drop (at + (1 + n)) ss)) fill.3 in
    let room = c.ranges.high in
    (omega (arith, short), (fill.0, (omega (arith, low, end, room), (fill.2, fill.1))))

pub styled-loop-at-preserved : goal.styled-loop-at-preserved
styled-loop-at-preserved t c =
    let ss = c.args.styles.now in
    let at = c.loop-at.at in
    let s = get_or ss at zero_style in
    let ins = c.front_of.result.now in
    let n = c.inner_count-n.result in
    let later = c.rest_of-later.result.now in
    let more = drop (at + (1 + n)) ss in
    let fo = forest_at ss later ins at n zero_style c.loop-at-test.true c.rest_of-later.ensures c.inner_count-n.ensures.value c.front_of.ensures in
    let fill = fill_at c.loop-at.place c.args.high _ _ fo c.loop-at.invariant.fill in
    record {
      fill = fill.3;
      left = left_step c.args.low c.args.high c.loop-at.place ss (drop at ss) more ins s (rest_segments c.args.now.rest) (rest_segments c.loop-at.now.rest)
          (rest_segments c.in_ok-now.now.rest)
          (growth c.args.now.children) (growth c.loop-at.now.children) (growth c.in_ok-now.now.children) fo c.in_ok-now.ensures c.loop-at.invariant.left;
    }

pub styled-returns : goal.styled-returns
styled-returns t c =
    let ss = c.args.styles.now in
    let at = c.loop-at.at in
    let end : length ss ≤ at = omega (arith, c.loop-at-test.false) in
    left_done c.args.low c.args.high c.loop-at.place ss (drop at ss) (rest_segments c.args.now.rest) (rest_segments c.loop-at.now.rest)
    (rest_segments c.in_ok-children.rest)
    (growth c.args.now.children) (growth c.loop-at.now.children) (growth c.in_ok-children.children) (drop_all at ss end)
    (fill_le c.loop-at.place c.args.high (forest_of (drop at ss)) c.loop-at.invariant.fill)
    c.in_ok-children.ensures.front c.in_ok-children.ensures.back c.loop-at.invariant.left

pub with_style-returns : goal.with_style-returns
with_style-returns t c =
    let s = c.args.style.now in
    let ss = c.args.inner.now in
    let k = growth c.in_ok-inside.inside.children in
    let b2 = rest_segments c.in_ok-opening.rest in
    let b3 = rest_segments c.in_ok-inside.inside.rest in
    let low = s.from + s.open_w in
    let high = s.to - s.close_w in
    let within = subst (λ (g : Grown). AreStyled low high ss b2 g b3 k) c.new.ensures c.in_ok-inside.ensures in
    style_made c.args.low s ss (rest_segments c.args.now.rest) (rest_segments c.in_ok-children.rest) b2 b3 (rest_segments c.in_ok-closing.rest)
    (growth c.args.now.children) (growth c.in_ok-children.children) k (growth c.in_ok-children-2.children) (item_tree c.style_node-node.result)
    (items c.in_ok-opening.opening) (items c.in_ok-closing.closing)
    c.requires.start c.requires.closing (fill_le low high (forest_of ss) c.requires.inside)
    c.in_ok-children.ensures.front c.in_ok-children.ensures.back c.in_ok-opening.ensures.front c.in_ok-opening.ensures.back within
    c.in_ok-closing.ensures.front c.in_ok-closing.ensures.back
    (c.style_node-node.ensures ∙ ap
    (λ ts. inner_tree (plain (style_kind s.bold)) (items c.in_ok-opening.opening) (forest ts) (items c.in_ok-closing.closing)) c.in_ok-within.ensures)
    c.in_ok-children-2.ensures

use Rattle.std.proofs.Common.{[], ap, ◌∙◌}
use Rattle.std.specs.List.{list_any}
use Rattle.wt_span.specs.Items.{items}
use Rattle.wt_tree.specs.View.{views}
use Rattle.wt_tree.specs.declared.node.Node.{out-Node}
use Rattle.wt_isolation.specs.OpenTexts.{has_open_text}
use Rattle.wt_isolation.specs.Toggles.{is_odd_line, lines}
use Rattle.wt_selser.proofs.GroupFaultLaws.{odd_fault, shows_fault, text_fault}
use Rattle.wt_selser.proofs.group_fault.is_faulty.Goals as goal

pub returns-then-other : goal.returns-then-other
returns-then-other c =
    shows_fault (items c.args.pieces.now) (views (out-Node c.args.group.now).children) c.in_ok-other.other c.in_ok-other.ensures c.if-other.true

pub returns-then-odd : goal.returns-then-odd
returns-then-odd c =
    odd_fault (items c.args.pieces.now) (views (out-Node c.args.group.now).children) c.in_ok-other.other c.in_ok-odd.odd c.in_ok-other.ensures c.if-other.false
    (c.in_ok-odd.ensures ∙ ap (λ gs. list_any is_odd_line (lines gs)) (c.as_slice.ensures ∙ c.in_ok-glyphs.ensures)) c.if-odd.true

pub returns : goal.returns
returns c =
    text_fault (items c.args.pieces.now) (views (out-Node c.args.group.now).children) c.in_ok-other.other c.in_ok-odd.odd c.in_ok-unended.unended
    c.in_ok-other.ensures c.if-other.false
    (c.in_ok-odd.ensures ∙ ap (λ gs. list_any is_odd_line (lines gs)) (c.as_slice.ensures ∙ c.in_ok-glyphs.ensures)) c.if-odd.false
    (c.in_ok-unended.ensures ∙ ap (λ ns. has_open_text [] (views ns)) c.as_slice-2.ensures)

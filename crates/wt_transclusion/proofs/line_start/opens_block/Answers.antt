use Rattle.std.proofs.Common.{sym, ap, ◌∙◌, subst}
use Rattle.wt_span.specs.Items.{items}
use Rattle.wt_expand.specs.Expansion.{begins_with_bar}
use Rattle.wt_transclusion.specs.declared.line_start.Opening.TheVariants as opening
use Rattle.wt_transclusion.specs.Opening.{IsOpening}
use Rattle.wt_transclusion.proofs.Openings.{opens_brace, opens_known}
use Rattle.wt_transclusion.proofs.line_start.opens_block.Goals as goal

pub returns-in-Brace : goal.returns-in-Brace
returns-in-Brace c =
    c.begins_with_bar.ensures ∙ ap (λ ps. begins_with_bar (items ps)) c.rest_of.ensures
    ∙ opens_brace c.args.pieces.now c.loop-i.i c.index-pieces-i.result c.loop-i-test.true c.index-pieces-i.is (sym c.is_chars.ensures ∙ c.if-not-is_chars.false)
    (subst (λ bs. IsOpening bs opening.Brace) (c.as_bytes.ensures.value ∙ c.as_str.ensures) c.in-Brace.ensures) ∙ c.loop-i.invariant

pub returns-in-Known : goal.returns-in-Known
returns-in-Known c =
    opens_known c.args.pieces.now c.loop-i.i c.index-pieces-i.result c.in-Known.opens c.loop-i-test.true c.index-pieces-i.is (sym c.is_chars.ensures
    ∙ c.if-not-is_chars.false)
    (subst (λ bs. IsOpening bs (opening.Known c.in-Known.opens)) (c.as_bytes.ensures.value ∙ c.as_str.ensures) c.in-Known.ensures) ∙ c.loop-i.invariant

use Rattle.std.proofs.Common.{ap, drop, ◌∙◌}
use Rattle.std.proofs.lemmas.Result.{IfOk-weaker}
use Rattle.wt_attributes.specs.Attributes.{attributes}
use Rattle.wt_span.specs.Items.{items}
use Rattle.wt_rows.proofs.Attributing.{row_cut, row_read}
use Rattle.wt_rows.proofs.LineCuts.{dashes_edge}
use Rattle.wt_rows.proofs.delimiter.row_attrs.Goals as goal

pub cut_with-requires-clause-within : goal.cut_with-requires-clause-within
cut_with-requires-clause-within c = (row_cut (items c.args.line.now) c.requires.sign).0

pub cut_with-requires-clause-edge : goal.cut_with-requires-clause-edge
cut_with-requires-clause-edge c = λ some. (row_cut (items c.args.line.now) c.requires.sign).1

pub cut_with-requires-clause-edge_behind : goal.cut_with-requires-clause-edge_behind
cut_with-requires-clause-edge_behind c = dashes_edge (drop 1 (items c.args.line.now))

pub returns : goal.returns
returns c =
    IfOk-weaker c.read_attributes.result _ _
    (λ l e. e ∙ ap (λ ps. attributes (items ps)) c.as_slice.ensures ∙ ap attributes c.in_ok-rest.ensures.back
    ∙ row_read (items c.args.line.now) c.requires.sign) c.read_attributes.ensures

use Rattle.std.proofs.Common.{ap, ◌∙◌}
use Rattle.std.proofs.lemmas.Result.{IfOk-weaker}
use Rattle.wt_attributes.specs.Attributes.{attributes}
use Rattle.wt_span.specs.Items.{items}
use Rattle.wt_rows.proofs.Attributing.{table_cut, table_read}
use Rattle.wt_rows.proofs.delimiter.table_attrs.Goals as goal

pub cut-requires-clause-within : goal.cut-requires-clause-within
cut-requires-clause-within c = (table_cut (items c.args.line.now) c.requires.sign).0

pub cut-requires-clause-edge : goal.cut-requires-clause-edge
cut-requires-clause-edge c = λ some. (table_cut (items c.args.line.now) c.requires.sign).1

pub returns : goal.returns
returns c =
    IfOk-weaker c.read_attributes.result _ _
    (λ l e. e ∙ ap (λ ps. attributes (items ps)) c.as_slice.ensures ∙ ap attributes c.in_ok-rest.ensures.back
    ∙ table_read (items c.args.line.now) c.requires.sign) c.read_attributes.ensures

use Rattle.std.proofs.Common.{◌+◌, ap, ◌∙◌}
use Rattle.std.specs.List.{prefix_len}
use Rattle.wt_span.specs.Bytes.{is_blank}
use Rattle.wt_tables.proofs.Numbers.{numbers_from}
use Rattle.wt_tables.proofs.scan.blanks_from.Goals as goal

pub returns-clause-value : goal.returns-clause-value
returns-clause-value c = ap (λ n. c.args.at + n) (c.blank_len.ensures.value ∙ ap (prefix_len is_blank) (numbers_from c.args.at _ _ c.rest_of.ensures))

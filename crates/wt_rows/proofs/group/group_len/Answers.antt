use Rattle.std.proofs.Common.{◌+◌, map, drop, sym, ap, ◌∙◌}
use Rattle.std.proofs.lemmas.List.{drop-map}
use Rattle.wt_rows.specs.Units.{kind_at, plain_count}
use Rattle.wt_rows.proofs.group.group_len.Goals as goal

pub returns-clause-value : goal.returns-clause-value
returns-clause-value c =
    let rows = c.args.rows.now in
    let n = c.unit_len-n.result in
    ap (λ m. n + m) (c.plain_len.ensures.value ∙ ap (λ rs. plain_count 0 (map kind_at rs)) c.rest_of.ensures
    ∙ ap (plain_count 0) (sym (drop-map kind_at n rows)))
    ∙ ap (λ m. m + plain_count 0 (drop m (map kind_at rows))) c.unit_len-n.ensures.value

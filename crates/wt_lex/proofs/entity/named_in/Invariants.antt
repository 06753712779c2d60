use Rattle.std.proofs.Common.{◌≡◌, drop, map, true}
use Rattle.std.specs.List.{list_all}
use Rattle.wt_span.specs.Entities.{named_in}
use Rattle.wt_comments.specs.Views.{is_short}
use Rattle.wt_lex.proofs.entity.named_in.Given as goal

abbrev pub invariant-loop-name : goal.invariant-loop-name
invariant-loop-name l = record {
  rest : named_in (map (λ e. (e.0.now, e.1)) (drop l.name-index l.table)) l.bytes ≡ named_in (map (λ e. (e.0.now, e.1)) l.table) l.bytes;
  short : list_all (λ e. is_short e.0.now) (drop l.name-index l.table) ≡ true;
}

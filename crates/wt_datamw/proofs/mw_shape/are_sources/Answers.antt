use Rattle.std.proofs.Common.{◌∙◌, sym, ap, List}
use Rattle.std.specs.List.{list_all}
use Rattle.serde_json.specs.View.{view}
use Rattle.serde_json.specs.declared.value.Value.{Value}
use Rattle.wt_datamw.specs.MwRead.{is_source}
use Rattle.wt_datamw.proofs.Shapes.{values_pass}
use Rattle.wt_datamw.proofs.mw_shape.are_sources.Goals as goal

pub loop-value-init : goal.loop-value-init
loop-value-init c =
    record {
      can = tt;
      finite = tt;
      left =
          values_pass is_source c.args.map.now.entries
          ∙ ap (λ (vs : List Value). list_all (λ v. is_source (view v)) vs)
          (sym (c.into_iter-value-iterator.ensures.into_iter_gives ∙ c.values-value-items.ensures.rest));
    }

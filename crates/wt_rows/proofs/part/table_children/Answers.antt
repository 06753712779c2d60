use Rattle.std.proofs.Common.{◌++◌, ◌∷◌, [], ap, ◌∙◌}
use Rattle.std.proofs.lemmas.Result.{IfOk-weaker}
use Rattle.wt_inline.specs.Grown.{growth}
use Rattle.wt_inline.specs.View.{item_trees}
use Rattle.wt_rows.specs.declared.stretch.StretchAt.TheVariants as at
use Rattle.wt_rows.proofs.OpenedParts.{nodes_are}
use Rattle.wt_rows.proofs.part.table_children.Goals as goal

pub returns : goal.returns
returns c =
    let end = c.args.end in
    let held = c.from_vec-inner.ensures ∙ c.in_ok-push.ensures.items ∙ ap (λ xs. xs ++ at.Gap end.start end.from ∷ []) c.into_vec-held.ensures in
    IfOk-weaker c.finish.result _ _
    (λ l e. nodes_are c.args.pieces.now c.args.blank.now c.args.delimiter end (growth c.new.result) (growth c.in_ok-made.made) (item_trees l)
    c.from_vec-inner.result c.in_ok-after.after c.args.inside held c.in_ok-after.ensures c.new.ensures c.in_ok-made.ensures e) c.finish.ensures

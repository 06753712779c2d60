use Rattle.std.proofs.Common.{◌++◌, ap, sym, ◌∙◌}
use Rattle.std.specs.Prelude.{option_map}
use Rattle.wt_tree.specs.View.{views}
use Rattle.wt_checks.specs.View.{indexed, seen}
use Rattle.wt_slices.specs.BodySlices.{list_at}
use Rattle.wt_splice.specs.Views.{changes_view}
use Rattle.wt_slices.proofs.BodyWalk.{list_pushed}
use Rattle.wt_slices.specs.Views.{child_views}
use Rattle.wt_slices.proofs.body.push_list_at.Goals as goal

pub returns-in_ok-push_list-in-Some : goal.returns-in_ok-push_list-in-Some
returns-in_ok-push_list-in-Some c = λ same tells.
    list_pushed same (indexed c.args.index.now) c.in-Some.visit (child_views c.as_slice.result.now) c.args.new.now c.sign_of-sign.result
    (changes_view c.args.found.now.items) (changes_view c.push_list.new.found.items) c.sign_of-sign.ensures
    (ap child_views c.as_slice.ensures.value ∙ c.in_ok-old-in-Some.ensures)
    (c.in_ok-push_list-in-Some.ensures same tells)
    ∙ ap (λ o. changes_view c.args.found.now.items ++ list_at same (indexed c.args.index.now) (option_map seen o) (views c.args.new.now)) (sym c.in-Some.is)

use Rattle.std.proofs.Common.{◌++◌, ap, sym, ◌∙◌}
use Rattle.std.specs.Prelude.{option_map}
use Rattle.wt_tree.specs.View.{view}
use Rattle.wt_checks.specs.View.{seen}
use Rattle.wt_slices.specs.Changes.{inside_of}
use Rattle.wt_splice.specs.Views.{changes_view}
use Rattle.wt_slices.proofs.Splicing.{inside_made}
use Rattle.wt_slices.proofs.change.push_inside_of.Goals as goal

pub returns-in_ok-push_inside-in-Some : goal.returns-in_ok-push_inside-in-Some
returns-in_ok-push_inside-in-Some c = λ same tells.
    inside_made same c.in-Some.visit (view c.args.new.now) (changes_view c.args.found.now.items) (changes_view c.push_inside.new.found.items)
    c.in_ok-by-in-Some.by c.place_in.result c.place_in.ensures (c.in_ok-by-in-Some.ensures same tells) c.in_ok-push_inside-in-Some.ensures
    ∙ ap (λ o. changes_view c.args.found.now.items ++ inside_of same (option_map seen o) (view c.args.new.now)) (sym c.in-Some.is)

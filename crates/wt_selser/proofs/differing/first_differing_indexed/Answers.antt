use Rattle.std.proofs.Common.{◌≡◌, List, refl, ap, ◌∙◌, subst}
use Rattle.wt_tree.specs.Plain.{Plain}
use Rattle.wt_tree.specs.View.{view}
use Rattle.wt_checks.specs.View.{indexed}
use Rattle.wt_visible.specs.Children.{IsFirstDiffering, shown_children}
use Rattle.wt_visible.specs.Restored.{restored}
use Rattle.wt_visible.specs.Views.{children_view}
use Rattle.wt_visible.proofs.RestoredShown.{body_restored, body_shown}
use Rattle.wt_selser.proofs.differing.first_differing_indexed.Goals as goal

pub returns : goal.returns
returns c =
    let l : children_view c.as_slice-2.result.now ≡ shown_children (view c.args.new.now) =
    ap children_view c.as_slice-2.ensures.value ∙ body_shown c.args.new.now c.as_slice.result.now (children_view c.in_ok-left.left.items) c.as_slice.ensures c.in_ok-left.ensures in
    let r : children_view c.as_slice-3.result.now ≡ shown_children (restored (indexed c.args.index.now) (view c.args.edited.now)) =
    ap children_view c.as_slice-3.ensures.value
    ∙ body_restored (indexed c.args.index.now) (indexed c.args.index.now) c.args.edited.now (children_view c.in_ok-right.right.items) refl c.in_ok-right.ensures in
    subst (λ (xs : List Plain). IsFirstDiffering xs (shown_children (restored (indexed c.args.index.now) (view c.args.edited.now))) c.in_ok-found.found) l
    (subst (λ (ys : List Plain). IsFirstDiffering (children_view c.as_slice-2.result.now) ys c.in_ok-found.found) r c.in_ok-found.ensures)

use Rattle.std.proofs.Common.{◌≡◌, ◌<◌, ap, ◌∙◌, List, length, arith}
use Rattle.wt_tree.specs.View.{view}
use Rattle.wt_checks.specs.Checked.{refused, checked}
use Rattle.wt_checks.specs.Places.{Place, Page, page_of}
use Rattle.wt_checks.specs.View.{all_seen, indexed}
use Rattle.wt_checks.proofs.Known.{parents_known}
use Rattle.wt_checks.proofs.checking.check.Goals as goal

pub check_visits-requires-clause-parents : goal.check_visits-requires-clause-parents
check_visits-requires-clause-parents c =
    let same : length c.as_slice.result.now ≡ length c.in_ok-index.index.items = ap length c.as_slice.ensures.value in
    let some : 0 < length c.as_slice.result.now = omega (arith, same, c.in_ok-index.ensures.some) in
    parents_known (length c.as_slice.result.now) (view c.args.edited.now) c.as_slice-2.result.now some
    (ap all_seen c.as_slice-2.ensures.value ∙ c.in_ok-edited.ensures)

pub returns : goal.returns
unfolding checked
returns c =
    c.in_ok-refusal.ensures ∙ ap (λ (page : Page). refused c.args.values page (all_seen c.as_slice-2.result.now))
    (ap indexed c.as_slice.ensures.value ∙ c.in_ok-index.ensures.same)
    ∙ ap (λ (ps : List Place). refused c.args.values (page_of (view c.args.page.now)) ps) (ap all_seen c.as_slice-2.ensures.value ∙ c.in_ok-edited.ensures)

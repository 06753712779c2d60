use Rattle.std.proofs.Common.{◌≡◌, ap, ◌∙◌, sym}
use Rattle.std.specs.Prelude.{not}
use Rattle.wt_checks.specs.Checked.{nodes_checked}
use Rattle.wt_checks.specs.Groups.{has_mark}
use Rattle.wt_checks.specs.Places.{Page, page_of}
use Rattle.wt_checks.specs.View.{indexed}
use Rattle.wt_difference.specs.Remarked.{remarked, remarked_in}
use Rattle.wt_difference.proofs.Remarks.{none_marked}
use Rattle.wt_tree.specs.Tree.{Tree}
use Rattle.wt_tree.specs.View.{view}
use Rattle.wt_new_page.proofs.beside.set_beside.Goals as goal

-- over the page's own index
remarked_over : (page : Page) (t u v : Tree) → page ≡ page_of t → v ≡ remarked_in page u → v ≡ remarked t u
unfolding remarked
remarked_over page t u v is e = e ∙ ap (λ (p : Page). remarked_in p u) is

pub returns : goal.returns
returns c =
    let t = view c.args.page.now in
    let u = view c.args.edited in
    let marked : view c.in_ok-edited.edited ≡ remarked t u =
    remarked_over (indexed c.args.index.now) t u (view c.in_ok-edited.edited) c.requires.index c.in_ok-edited.ensures in
    record {
      marked = marked;
      same = ap not c.has_mark-same.ensures ∙ ap (λ (v : Tree). not (has_mark v)) marked ∙ sym (none_marked t u);
      refused = c.in_ok-refused.ensures ∙ ap (nodes_checked t) marked;
    }

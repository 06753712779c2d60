-- What was found of a new page, compared with the edited tree.
use Rattle.std.proofs.Common.{◌≡◌, ℕ, refl, subst}
use Rattle.std.specs.Prelude.{Option, Some, None}
use Rattle.wt_edit.specs.declared.known.KnownPage.{KnownPage}
use Rattle.wt_new_page.specs.NewPages.{ComparedAs}
use Rattle.wt_new_page.specs.declared.asked.Fault.TheVariants as fault
use Rattle.wt_new_page.specs.declared.asked.ReadBack.TheVariants as back
use Rattle.wt_tree.specs.Tree.{Tree}
use Rattle.wt_tree.specs.View.{view}
use Rattle.wt_visible.specs.Children.{IsFirstDiffering, shown_children}
use Rattle.wt_visible.specs.Restored.{restored_from}

pub compared_shows : (found : KnownPage) (t u : Tree) (o : Option ℕ) → o ≡ None
    → IsFirstDiffering (shown_children (view found.annotated.tree.body)) (shown_children (restored_from t u)) o → ComparedAs found t u (back.Shows found)
compared_shows found t u o is h =
    (refl, subst (IsFirstDiffering (shown_children (view found.annotated.tree.body)) (shown_children (restored_from t u))) is h)

pub compared_fails : (found : KnownPage) (t u : Tree) (o : Option ℕ) (k : ℕ) → o ≡ Some k
    → IsFirstDiffering (shown_children (view found.annotated.tree.body)) (shown_children (restored_from t u)) o
    → ComparedAs found t u (back.Fails (fault.Block k) found.expansion)
compared_fails found t u o k is h =
    (refl, (k, (refl, subst (IsFirstDiffering (shown_children (view found.annotated.tree.body)) (shown_children (restored_from t u))) is h)))

-- What is asked of what was found of a new page.
use Rattle.std.specs.Prelude.{◌≡◌, ℕ, List, None, Some}
use Rattle.wt_edit.specs.declared.known.KnownPage.{KnownPage}
use Rattle.wt_new_page.specs.declared.asked.Fault.TheVariants as fault
use Rattle.wt_new_page.specs.declared.asked.ReadBack.{ReadBack}
use Rattle.wt_new_page.specs.declared.asked.ReadBack.TheVariants as back
use Rattle.wt_new_page.specs.declared.asked.Tried.{Tried}
use Rattle.wt_new_page.specs.declared.asked.Tried.TheVariants as tried
use Rattle.wt_tree.specs.Tree.{Tree}
use Rattle.wt_tree.specs.View.{view}
use Rattle.wt_visible.specs.Children.{IsFirstDiffering, shown_children}
use Rattle.wt_visible.specs.KeptMarks.{KeepsMarks}
use Rattle.wt_visible.specs.Restored.{restored_from}

-- what was found of a new page is compared with the edited tree, in which a kept group is what the page's group of its number holds
abbrev pub ComparedAs : KnownPage → Tree → Tree → ReadBack → Type 0
ComparedAs found t u (back.Shows shown) =
    (shown ≡ found) × IsFirstDiffering (shown_children (view found.annotated.tree.body)) (shown_children (restored_from t u)) None
ComparedAs found t u (back.Fails why x) = (x ≡ found.expansion)
    × ((k : ℕ) × ((why ≡ fault.Block k)
    × IsFirstDiffering (shown_children (view found.annotated.tree.body)) (shown_children (restored_from t u)) (Some k)))

-- what was found of this page is asked for the marks that the edited tree still has
abbrev pub MarkedAs : KnownPage → Tree → Tree → List ℕ → Tried → Type 0
MarkedAs found t u new (tried.Stands given) = (given ≡ new) × KeepsMarks (view found.annotated.tree.body) t u
MarkedAs found t u new (tried.Fails why x) =
    (x ≡ found.expansion) × (why ≡ fault.Block 0) × (¬ KeepsMarks (view found.annotated.tree.body) t u)

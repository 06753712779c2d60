-- The numbers of children, one after another.
use Rattle.std.proofs.Common.{◌≡◌, ◌<◌, ℕ, ◌+◌, true, false, List, ◌∷◌, length, drop, get_or, sym, ap, ◌∙◌}
use Rattle.std.specs.Prelude.{if◌then◌else◌}
use Rattle.std.proofs.lemmas.List.{at_drop_more}
use Rattle.wt_tree.specs.Kinds.{showing}
use Rattle.wt_tree.specs.View.{view}
use Rattle.wt_tree.specs.declared.node.Node.{Node, out-Node}
use Rattle.wt_tree.proofs.Views.{view_out}
use Rattle.wt_checks.specs.Places.{Page}
use Rattle.wt_checks.specs.Unmarked.{is_compared}
use Rattle.wt_checks.proofs.Firsts.{if_true, if_false}
use Rattle.wt_difference.specs.declared.insides.Child.{Child}
use Rattle.wt_difference.specs.Difference.{numbers, numbers_in, stays_in}
use Rattle.wt_difference.specs.Views.{child_views}

-- ---- numbers

numbers_node : (c : Child) (cs : List Child)
    → numbers (child_views (c ∷ cs)) ≡ (if is_compared (showing (out-Node c.node.now).kind) then (out-Node c.node.now).id ∷ numbers (child_views cs) else
    numbers (child_views cs))
numbers_node c cs = rw (view_out c.node.now)

pub numbers_here : (cs : List Child) (i : ℕ) (c : Child) → i < length cs → c ≡ get_or cs i c → is_compared (showing (out-Node c.node.now).kind) ≡ true
    → numbers (child_views (drop i cs)) ≡ (out-Node c.node.now).id ∷ numbers (child_views (drop (i + 1) cs))
numbers_here cs i c lt is e =
    at_drop_more (λ ds. numbers (child_views ds)) cs i c lt ∙ ap (λ d. numbers (child_views (d ∷ drop (i + 1) cs))) (sym is)
    ∙ numbers_node c (drop (i + 1) cs) ∙ if_true (is_compared (showing (out-Node c.node.now).kind)) _ _ e

pub numbers_past : (cs : List Child) (i : ℕ) (c : Child) → i < length cs → c ≡ get_or cs i c → is_compared (showing (out-Node c.node.now).kind) ≡ false
    → numbers (child_views (drop i cs)) ≡ numbers (child_views (drop (i + 1) cs))
numbers_past cs i c lt is e =
    at_drop_more (λ ds. numbers (child_views ds)) cs i c lt ∙ ap (λ d. numbers (child_views (d ∷ drop (i + 1) cs))) (sym is)
    ∙ numbers_node c (drop (i + 1) cs) ∙ if_false (is_compared (showing (out-Node c.node.now).kind)) _ _ e

abbrev pub number_as : Page → ℕ → Node → ℕ
number_as page holder n = if stays_in page holder (view n) then (out-Node n).id else 0

numbers_in_node : (page : Page) (holder : ℕ) (c : Child) (cs : List Child)
    → numbers_in page holder (child_views (c ∷ cs)) ≡ (if is_compared (showing (out-Node c.node.now).kind) then
    number_as page holder c.node.now ∷ numbers_in page holder (child_views cs) else
    numbers_in page holder (child_views cs))
numbers_in_node page holder c cs = rw (view_out c.node.now)

pub numbers_in_here : (page : Page) (holder : ℕ) (cs : List Child) (i : ℕ) (c : Child) → i < length cs → c ≡ get_or cs i c
    → is_compared (showing (out-Node c.node.now).kind) ≡ true
    → numbers_in page holder (child_views (drop i cs)) ≡ number_as page holder c.node.now ∷ numbers_in page holder (child_views (drop (i + 1) cs))
numbers_in_here page holder cs i c lt is e =
    at_drop_more (λ ds. numbers_in page holder (child_views ds)) cs i c lt
    ∙ ap (λ d. numbers_in page holder (child_views (d ∷ drop (i + 1) cs))) (sym is)
    ∙ numbers_in_node page holder c (drop (i + 1) cs) ∙ if_true (is_compared (showing (out-Node c.node.now).kind)) _ _ e

pub numbers_in_past : (page : Page) (holder : ℕ) (cs : List Child) (i : ℕ) (c : Child) → i < length cs → c ≡ get_or cs i c
    → is_compared (showing (out-Node c.node.now).kind) ≡ false
    → numbers_in page holder (child_views (drop i cs)) ≡ numbers_in page holder (child_views (drop (i + 1) cs))
numbers_in_past page holder cs i c lt is e =
    at_drop_more (λ ds. numbers_in page holder (child_views ds)) cs i c lt
    ∙ ap (λ d. numbers_in page holder (child_views (d ∷ drop (i + 1) cs))) (sym is)
    ∙ numbers_in_node page holder c (drop (i + 1) cs) ∙ if_false (is_compared (showing (out-Node c.node.now).kind)) _ _ e

-- The nodes of a page's meaning hold characters and whole forms, and so what stands on the page for them is the page.
use Rattle.std.proofs.Common.{◌≡◌, ℕ, None, List, [], ◌∷◌, ◌++◌, IsUtf8}
use Rattle.wt_span.specs.Items.{Item, char, whole}
use Rattle.wt_span.specs.declared.form.ItemForm.TheVariants as form
use Rattle.wt_expand.specs.Expansion.{page_work}
use Rattle.wt_expand.specs.PageCalls.{expanded_page}
use Rattle.wt_expand.specs.Work.{Pages, first_refusal}
use Rattle.wt_inline.specs.ItemTree.{ItemTree, inner, ItemTrees, nothing, further, tree_items, held_by_all}
use Rattle.wt_page.specs.Body.{meaning}
use Rattle.wt_page_round_trip.proofs.OfPage.{AreOfPage, ArePageItems}
use Rattle.wt_page_round_trip.proofs.OpenedPages.{IsOne, AreOnes, meaning_stands}
use Rattle.wt_page_round_trip.proofs.PageLines.{all_both}
use Rattle.wt_page_round_trip.proofs.PageNodes.{IsPageNode, ArePageNodes}
use Rattle.wt_page_round_trip.proofs.PageShown.{body_nodes, page_shown}
use Rattle.wt_page_round_trip.proofs.PageTrees.{IsItsPage}
use Rattle.wt_page_round_trip.proofs.ExpandedItems.{expanded_items}

page_ones : (xs : List Item) → AreOfPage xs → AreOnes xs
page_ones [] h = tt
page_ones (char o b ∷ xs) h = (tt, page_ones xs h.1)
page_ones (whole form.Chars o bs ∷ xs) h = absurd h.0.1
page_ones (whole (form.Entity c) o bs ∷ xs) h = (let i = h.0.1 in i.0, page_ones xs h.1)
page_ones (whole form.Nowiki o bs ∷ xs) h = (let i = h.0.1 in i.0, page_ones xs h.1)
page_ones (whole form.Extension o bs ∷ xs) h = (let i = h.0.1 in i.0, page_ones xs h.1)
page_ones (whole form.Function o bs ∷ xs) h = (let i = h.0.1 in i.0, page_ones xs h.1)
page_ones (whole form.Comment o bs ∷ xs) h = (let i = h.0.1 in i.0, page_ones xs h.1)
page_ones (whole form.Include o bs ∷ xs) h = (let i = h.0.1 in i.0, page_ones xs h.1)
page_ones (whole form.Hidden o bs ∷ xs) h = (let i = h.0.1 in i.0, page_ones xs h.1)
page_ones (whole form.EmptyCall o bs ∷ xs) h = (let i = h.0.1 in i.0, page_ones xs h.1)

mutual
  node_ones : (t : ItemTree) → IsPageNode t → AreOnes (tree_items t)
  node_ones (inner h opening ts closing) n =
      all_both IsOne opening (held_by_all ts ++ closing) (page_ones opening n.0.page)
      (all_both IsOne (held_by_all ts) closing (nodes_ones ts n.3) (page_ones closing n.1.page))

  nodes_ones : (ts : ItemTrees) → ArePageNodes ts → AreOnes (held_by_all ts)
  nodes_ones nothing n = tt
  nodes_ones (further t ts) n = all_both IsOne (tree_items t) (held_by_all ts) (node_ones t n.0) (nodes_ones ts n.2)

meaning_ones : (xs : List Item) → ArePageItems xs → AreOnes (tree_items (meaning xs))
unfolding meaning
meaning_ones xs h = all_both IsOne (held_by_all (body_nodes xs)) [] (nodes_ones (body_nodes xs) (page_shown xs h).1) tt

-- so are the items that a page is expanded to, and those that the nodes of its meaning hold
pub items_ones : (pages : Pages) (page : List ℕ) → IsUtf8 page → first_refusal pages page (page_work pages page) ≡ None → AreOnes (expanded_page pages page).items
items_ones pages page u e = let h = expanded_items pages page u e in page_ones (expanded_page pages page).items h.page

pub tree_ones : (pages : Pages) (page : List ℕ) → IsUtf8 page → first_refusal pages page (page_work pages page) ≡ None
    → AreOnes (tree_items (meaning (expanded_page pages page).items))
tree_ones pages page u e = meaning_ones (expanded_page pages page).items (expanded_items pages page u e)

pub its_page : (pages : Pages) (page : List ℕ) → IsUtf8 page → first_refusal pages page (page_work pages page) ≡ None → IsItsPage pages page
its_page pages page u e = meaning_stands pages page (tree_ones pages page u e)

-- Items of a page with calls, cut between characters: the page's own characters are UTF-8 by themselves; so the nodes of such a
-- page may be groups, and nothing else is asked of them beside what is written.
use Rattle.std.proofs.Common.{ℕ, Option, Some, None, List, [], ◌∷◌, ◌++◌, IsUtf8, subst, append-nil}
use Rattle.std.proofs.lemmas.Str.{IsUtf8-nil}
use Rattle.wt_span.specs.Items.{Item, char, whole}
use Rattle.wt_span.specs.declared.form.ItemForm.{ItemForm}
use Rattle.wt_inline.specs.ItemTree.{ItemTree, inner, ItemTrees, nothing, further}
use Rattle.wt_page_round_trip.specs.GroupTexts.{AreOwnTexts, HoldsTexts, AllHoldTexts}
use Rattle.wt_page_round_trip.proofs.TextItems.{IsSeam, AreTexts, before_first, begin_seam, shift}
use Rattle.wt_page_round_trip.proofs.OfPage.{IsPageItem, AreOfPage, ArePageItems, page_utf8}
use Rattle.wt_page_round_trip.proofs.OwnNodes.{IsParted, AreParted}
use Rattle.wt_page_round_trip.proofs.PageNodes.{IsPageNode, ArePageNodes}

-- ---- items

form_source : (f : ItemForm) (o : Option ℕ) (bs : List ℕ) → IsPageItem (whole f o bs) → IsUtf8 bs
form_source f o bs h = subst IsUtf8 (append-nil bs) (page_utf8 (whole f o bs ∷ []) (record { texts = (IsUtf8-nil, IsUtf8-nil); page = (h, tt) }))

mutual
  -- behind characters of the page, which are these
  own_behind : (run : List ℕ) (xs : List Item) → IsSeam None xs → AreTexts run xs → AreOfPage xs → AreOwnTexts run xs
  own_behind run [] s t p = t
  own_behind run (char None b ∷ xs) s t p = own_behind (run ++ b ∷ []) xs t.0 t.1 p.1
  own_behind run (char (Some k) b ∷ xs) s t p =
      let q : IsUtf8 run × AreTexts (b ∷ []) xs = shift run (b ∷ []) xs (before_first run b s) t.1 in
      (q.0, own_after k (b ∷ []) xs t.0 q.1 p.1)
  own_behind run (whole f None bs ∷ xs) s t p = (t.0, form_source f None bs p.0, own_behind [] xs (begin_seam None xs t.1) t.1 p.1)
  own_behind run (whole f (Some k) bs ∷ xs) s t p = (t.0, own_behind [] xs (begin_seam None xs t.1) t.1 p.1)

  -- behind characters of a call
  own_after : (k : ℕ) (run : List ℕ) (xs : List Item) → IsSeam (Some k) xs → AreTexts run xs → AreOfPage xs → AreOwnTexts [] xs
  own_after k run [] s t p = IsUtf8-nil
  own_after k run (char None b ∷ xs) s t p =
      let q : IsUtf8 run × AreTexts (b ∷ []) xs = shift run (b ∷ []) xs (before_first run b s) t.1 in
      own_behind (b ∷ []) xs t.0 q.1 p.1
  own_after k run (char (Some j) b ∷ xs) s t p = (IsUtf8-nil, own_after j (run ++ b ∷ []) xs t.0 t.1 p.1)
  own_after k run (whole f None bs ∷ xs) s t p = (IsUtf8-nil, form_source f None bs p.0, own_behind [] xs (begin_seam None xs t.1) t.1 p.1)
  own_after k run (whole f (Some j) bs ∷ xs) s t p = (IsUtf8-nil, own_behind [] xs (begin_seam None xs t.1) t.1 p.1)

pub items_own : (xs : List Item) → ArePageItems xs → AreOwnTexts [] xs
items_own xs h = own_behind [] xs (begin_seam None xs h.texts) h.texts h.page

-- ---- nodes

mutual
  node_holds : (t : ItemTree) → IsPageNode t → HoldsTexts t
  node_holds (inner h opening ts closing) n = (n.2, items_own opening n.0, nodes_hold ts n.3, items_own closing n.1)

  -- they are cut between characters
  pub nodes_hold : (ts : ItemTrees) → ArePageNodes ts → AllHoldTexts ts
  nodes_hold nothing n = tt
  nodes_hold (further t ts) n = (node_holds t n.0, nodes_hold ts n.2)

mutual
  node_parted : (t : ItemTree) → IsPageNode t → IsParted t
  node_parted (inner h opening ts closing) n = (n.4, nodes_parted ts n.3)

  pub nodes_parted : (ts : ItemTrees) → ArePageNodes ts → AreParted ts
  nodes_parted nothing n = tt
  nodes_parted (further t ts) n = (node_parted t n.0, n.1, nodes_parted ts n.2)

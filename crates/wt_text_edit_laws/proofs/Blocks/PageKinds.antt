-- Among the blocks of a page stand neither bodies nor sections nor groups.
use Rattle.std.proofs.Common.{◌≡◌, ℕ, suc, Bool, true, false, List, [], ◌∷◌, ◌++◌, refl, sym, ap, ◌∙◌, subst, None}
use Rattle.std.specs.Str.{IsUtf8}
use Rattle.wt_devices.specs.Device.{Pages}
use Rattle.wt_tree.specs.declared.kind.Kind.{Kind}
use Rattle.wt_tree.specs.declared.kind.Kind.TheVariants as kind
use Rattle.wt_tree.specs.declared.row.Writing.{Writing}
use Rattle.wt_tree.specs.declared.row.Writing.TheVariants.{AsText, AsVoid, RoundCharacter, RoundChildren, AsSection, Unwritten}
use Rattle.wt_tree.specs.Kinds.{shape, writing, texts_of_kind}
use Rattle.wt_tree.specs.Tiling.{is_group}
use Rattle.wt_tree.specs.Tree.{Label, Tree, tree, Trees, none, more}
use Rattle.wt_span.specs.Items.{Item}
use Rattle.wt_inline.specs.ItemTree.{ItemTree, inner, ItemTrees, forest}
use Rattle.wt_checks.specs.PutBack.{is_frame}
use Rattle.wt_expand.specs.PageCalls.{expanded_page}
use Rattle.wt_expand.specs.PageItems.{page_items}
use Rattle.wt_annotated.specs.Annotated.{all_unplaced}
use Rattle.wt_page.specs.Body.{meaning}
use Rattle.wt_schema.specs.Written.{is_childless}
use Rattle.wt_schema.proofs.Rows.{is_somewhere, held}
use Rattle.wt_page_round_trip.proofs.ExpandedItems.{expanded_items}
use Rattle.wt_page_round_trip.proofs.OfPage.{ArePageItems}
use Rattle.wt_page_round_trip.proofs.PageShown.{body_nodes, page_shown}
use Rattle.wt_page_round_trip.proofs.ShownNodes.{NodeIsShown, IsOrdered, IsShownIn, AreShownIn}
use Rattle.wt_edit.specs.Edits.{refusal_of_page}
use Rattle.wt_text_edit_laws.specs.LonePages.{of_items}
use Rattle.wt_part_laws.specs.Standing.{IsOrdinary, AreOrdinary}
use Rattle.wt_text_edit_laws.specs.ParagraphBetween.{body_with}

-- ---- a node that is shown in another

abbrev IsPlainKind : Kind → Type 0
IsPlainKind k = (is_frame k ≡ false) × (is_group k ≡ false)

element_kind : (k : Kind) → is_somewhere (shape k).class ≡ true → IsPlainKind k
element_kind kind.Body e = absurd cc
element_kind (kind.Section n) e = absurd cc
element_kind kind.Group e = absurd cc
element_kind k e = (refl, refl)

text_kind : (k : Kind) → writing k ≡ AsText → IsPlainKind k
text_kind kind.Body e = absurd cc
text_kind (kind.Section n) e = absurd cc
text_kind kind.Group e = absurd cc
text_kind k e = (refl, refl)

empty_kind : (k : Kind) → k ≡ kind.Empty → IsPlainKind k
empty_kind k e = subst IsPlainKind (sym e) (refl, refl)

node_kind : (w : Writing) (k : ℕ) (q : Kind) (l : Label) (childless : Bool) (inside : Type 0) → writing l.kind ≡ w → NodeIsShown w k q l childless inside
    → IsPlainKind l.kind
node_kind AsText k q l childless inside e h = text_kind l.kind e
node_kind AsVoid k q l childless inside e h = element_kind l.kind (held q l.kind h.1 h.2.element)
node_kind RoundCharacter k q l childless inside e h = element_kind l.kind (held q l.kind h.1 h.2.element)
node_kind RoundChildren k q l childless inside e h = element_kind l.kind (held q l.kind h.1 h.2.element)
node_kind (AsSection n) k q l childless inside e h = absurd h
node_kind Unwritten k q l childless inside e h = empty_kind l.kind h.0

none_inside : (ts : Trees) → is_childless ts ≡ true → AreOrdinary ts
none_inside none e = tt
none_inside (more t ts) e = cc

inside_of : (w : Writing) (k : ℕ) (q : Kind) (l : Label) (ts : Trees) (inside : Type 0) → NodeIsShown w k q l (is_childless ts) inside
    → (inside → AreOrdinary ts) → AreOrdinary ts
inside_of AsText k q l ts inside h f = none_inside ts h.1
inside_of AsVoid k q l ts inside h f = f h.4
inside_of RoundCharacter k q l ts inside h f = f h.4
inside_of RoundChildren k q l ts inside h f = f h.4
inside_of (AsSection n) k q l ts inside h f = absurd h
inside_of Unwritten k q l ts inside h f = none_inside ts h.1

mutual
  pub shown_ordinary : (k : ℕ) (q : Kind) (t : Tree) → IsShownIn k q t → IsOrdinary t
  shown_ordinary k q (tree l ts) h =
      let inside : Type 0 = IsOrdered (texts_of_kind l.kind) ts × AreShownIn (suc k) l.kind ts in
      let own = node_kind (writing l.kind) k q l (is_childless ts) inside refl h in
      (own.0, own.1, inside_of (writing l.kind) k q l ts inside h (λ w. all_shown_ordinary (suc k) l.kind ts w.1))

  all_shown_ordinary : (k : ℕ) (q : Kind) (ts : Trees) → AreShownIn k q ts → AreOrdinary ts
  all_shown_ordinary k q none h = tt
  all_shown_ordinary k q (more t ts) h = (shown_ordinary k q t h.0, all_shown_ordinary k q ts h.1)

-- ---- the blocks of a page

abbrev nodes_in : ItemTree → ItemTrees
nodes_in (inner h o ts c) = ts

nodes_are : (xs : List Item) → nodes_in (meaning xs) ≡ body_nodes xs
unfolding meaning
nodes_are xs = refl

items_ordinary : (xs : List Item) (ts : List ItemTree) → ArePageItems xs → meaning xs ≡ body_with ts → AreOrdinary (all_unplaced (forest ts))
items_ordinary xs ts h is =
    let e : body_nodes xs ≡ forest ts = sym (nodes_are xs) ∙ ap nodes_in is in
    subst (λ us. AreOrdinary (all_unplaced us)) e (all_shown_ordinary 9 kind.Body (all_unplaced (body_nodes xs)) (page_shown xs h).0)

pub page_ordinary : (pages : Pages) (page : List ℕ) (ts : List ItemTree) → IsUtf8 page → refusal_of_page pages page ≡ None
    → expanded_page pages page ≡ of_items (page_items page) → meaning (page_items page) ≡ body_with ts → AreOrdinary (all_unplaced (forest ts))
page_ordinary pages page ts u e is means =
    items_ordinary (page_items page) ts (subst (λ x. ArePageItems x.items) is (expanded_items pages page u e)) means

-- of blocks that stand before others
pub both_ordinary : (us vs : List ItemTree) → AreOrdinary (all_unplaced (forest (us ++ vs)))
    → AreOrdinary (all_unplaced (forest us)) × AreOrdinary (all_unplaced (forest vs))
both_ordinary [] vs h = (tt, h)
both_ordinary (u ∷ us) vs h = let r = both_ordinary us vs h.1 in ((h.0, r.0), r.1)

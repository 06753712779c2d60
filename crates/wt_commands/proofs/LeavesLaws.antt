-- In the tree of a page, without its sections, no leaf holds a node with a number: a leaf that is written holds nothing, and in groups
-- nothing is numbered. And outside groups its root is the only body, and no section is in it, since neither may stand in any kind.
use Rattle.std.proofs.Common.{◌≡◌, ℕ, suc, ◌≤◌, List, [], ◌∷◌, ◌++◌, length, Bool, true, false, cond, None, refl, sym, ap, ◌∙◌, subst, arith}
use Rattle.std.specs.Prelude.{◌||◌, not, IsUtf8}
use Rattle.std.proofs.lemmas.List.Elements.{recursion_from_All}
use Rattle.std.specs.List.{AllByRecursion}
use Rattle.wt_tree.specs.declared.kind.Kind.{Kind}
use Rattle.wt_tree.specs.declared.kind.Kind.TheVariants as kind
use Rattle.wt_tree.specs.declared.row.Writing.{Writing}
use Rattle.wt_tree.specs.declared.row.Writing.TheVariants.{AsText, AsVoid, RoundCharacter, RoundChildren, AsSection, Unwritten}
use Rattle.wt_tree.specs.Kinds.{is_leaf, is_numbered, writing, texts_of_kind}
use Rattle.wt_tree.specs.Opened.{without_sections}
use Rattle.wt_checks.specs.PutBack.{is_frame}
use Rattle.wt_schema.proofs.Rows.{held}
use Rattle.wt_tree.specs.Tiling.{is_group, ids, ids_of_all, others, others_of_all}
use Rattle.wt_tree.specs.Tree.{Label, Tree, tree, Trees, none, more, label}
use Rattle.wt_schema.specs.Written.{IsWrittenGroup, NodeIsWritten, is_childless, IsCutIn, WrittenIn, AllWrittenIn}
use Rattle.wt_expand.specs.Expansion.{page_work}
use Rattle.wt_expand.specs.Work.{Pages, first_refusal}
use Rattle.wt_page_round_trip.specs.PageTree.{page_tree}
use Rattle.wt_page_round_trip.proofs.Pages.{body_written, page_opened}
use Rattle.wt_page_round_trip.proofs.PageTrees.{ungathered, ungathered_numbered}
use Rattle.wt_page_round_trip.proofs.Sectioned.{IsWrittenBody}
use Rattle.wt_expand.specs.PageCalls.{expanded_page}
use Rattle.wt_selser.specs.Leaves.{LeavesHoldNoNumber, AllLeavesHoldNoNumber, HoldsNoFrame, NoneIsFrame}
use Rattle.wt_commands.proofs.ReadGroups.{no_frame}

-- ---- where nothing has a number

abbrev AreZero : List ℕ → Type 0
AreZero ns = AllByRecursion (λ n. n ≡ 0) ns

both_zero : (xs ys : List ℕ) → AreZero (xs ++ ys) → AreZero xs × AreZero ys
both_zero [] ys h = (tt, h)
both_zero (x ∷ xs) ys h = let r = both_zero xs ys h.1 in ((h.0, r.0), r.1)

mutual
  numberless : (t : Tree) → AreZero (ids t) → LeavesHoldNoNumber t
  numberless (tree l ts) h = (λ e. h.1, all_numberless ts h.1)

  all_numberless : (ts : Trees) → AreZero (ids_of_all ts) → AllLeavesHoldNoNumber ts
  all_numberless none h = tt
  all_numberless (more t ts) h =
      let both = both_zero (ids t) (ids_of_all ts) h in (numberless t both.0, all_numberless ts both.1)

-- ---- where nodes are written

none_held : (ts : Trees) → is_childless ts ≡ true → AreZero (ids_of_all ts)
none_held none e = tt
none_held (more t ts) e = cc

none_below : (ts : Trees) → is_childless ts ≡ true → AllLeavesHoldNoNumber ts
none_below none e = tt
none_below (more t ts) e = cc

by_leaf : (leaf childless : Bool) → (not leaf || childless) ≡ true → leaf ≡ true → childless ≡ true
by_leaf true childless h e = h
by_leaf false childless h e = cc

-- a leaf that is written has no children
leaf_childless : (w : Writing) (k : ℕ) (parent : Kind) (l : Label) (childless : Bool) (inside group : Type 0)
    → NodeIsWritten w k parent l childless inside group → (group → ⊥) → is_leaf l.kind ≡ true → childless ≡ true
leaf_childless AsText k parent l childless inside group h g e = h.1
leaf_childless AsVoid k parent l childless inside group h g e = by_leaf (is_leaf l.kind) childless h.3 e
leaf_childless RoundCharacter k parent l childless inside group h g e = by_leaf (is_leaf l.kind) childless h.3 e
leaf_childless RoundChildren k parent l childless inside group h g e = by_leaf (is_leaf l.kind) childless h.3 e
leaf_childless (AsSection n) k parent l childless inside group h g e = absurd h
leaf_childless Unwritten k parent l childless inside group h g e = absurd (g h)

-- what a node holds is written, or it holds nothing
below : (w : Writing) (k : ℕ) (parent : Kind) (l : Label) (ts : Trees) (inside group : Type 0)
    → NodeIsWritten w k parent l (is_childless ts) inside group → (group → ⊥) → (inside → AllLeavesHoldNoNumber ts)
    → AllLeavesHoldNoNumber ts
below AsText k parent l ts inside group h g f = none_below ts h.1
below AsVoid k parent l ts inside group h g f = f h.4
below RoundCharacter k parent l ts inside group h g f = f h.4
below RoundChildren k parent l ts inside group h g f = f h.4
below (AsSection n) k parent l ts inside group h g f = absurd h
below Unwritten k parent l ts inside group h g f = absurd (g h)

no_group : (k : ℕ) (parent : Kind) (l : Label) (ts : Trees) → is_group l.kind ≡ false → IsWrittenGroup k parent l ts → ⊥
no_group k parent l ts e h =
    let f : true ≡ false = sym (ap is_group h.label.kind) ∙ e in
    cc

-- a group holds no numbers, and another node holds what isn't numbered
in_group_or_not : (l : Label) (ts : Trees) (g : Bool) → is_group l.kind ≡ g → AreZero (cond g (ids_of_all ts) (others_of_all ts))
    → (is_group l.kind ≡ false → AreZero (others_of_all ts) → LeavesHoldNoNumber (tree l ts)) → LeavesHoldNoNumber (tree l ts)
in_group_or_not l ts true e z f = (λ leaf. z, all_numberless ts z)
in_group_or_not l ts false e z f = f e z

others_inside : (l : Label) (ts : Trees) → AreZero (others (tree l ts)) → AreZero (cond (is_group l.kind) (ids_of_all ts) (others_of_all ts))
others_inside l ts z =
    (both_zero (cond (is_numbered l.kind) [] (l.id ∷ [])) (cond (is_group l.kind) (ids_of_all ts) (others_of_all ts)) z).1

mutual
  leaves : (k : ℕ) (parent : Kind) (t : Tree) → WrittenIn k parent t → AreZero (others t) → LeavesHoldNoNumber t
  leaves k parent (tree l ts) h z =
      in_group_or_not l ts (is_group l.kind) refl (others_inside l ts z)
      (λ e o. let group : IsWrittenGroup k parent l ts → ⊥ = no_group k parent l ts e in (
        λ leaf. none_held ts (leaf_childless (writing l.kind) k parent l (is_childless ts)
            (IsCutIn (texts_of_kind l.kind) ts × AllWrittenIn (suc k) l.kind ts) (IsWrittenGroup k parent l ts) h group leaf),
        below (writing l.kind) k parent l ts (IsCutIn (texts_of_kind l.kind) ts × AllWrittenIn (suc k) l.kind ts)
            (IsWrittenGroup k parent l ts) h group (λ w. all_leaves (suc k) l.kind ts w.1 o),
      ))

  all_leaves : (k : ℕ) (parent : Kind) (ts : Trees) → AllWrittenIn k parent ts → AreZero (others_of_all ts) → AllLeavesHoldNoNumber ts
  all_leaves k parent none h z = tt
  all_leaves k parent (more t ts) h z =
      let both = both_zero (others t) (others_of_all ts) z in
      (leaves k parent t h.0 both.0, all_leaves k parent ts h.2 both.1)

no_leaf : (k : Kind) → k ≡ kind.Body → is_leaf k ≡ true → ⊥
no_leaf k is e =
    let f : is_leaf kind.Body ≡ true = subst (λ x. is_leaf x ≡ true) is e in
    cc

written_leaves : (t : Tree) → IsWrittenBody t → AreZero (others t) → LeavesHoldNoNumber t
written_leaves (tree l ts) h z =
    in_group_or_not l ts (is_group l.kind) refl (others_inside l ts z)
    (λ e o. (λ leaf. absurd (no_leaf l.kind h.0 leaf), all_leaves 8 kind.Body ts h.2 o))

pub page_leaves : (pages : Pages) (page : List ℕ) → IsUtf8 page → length page ≤ 2097152 → first_refusal pages page (page_work pages page) ≡ None
    → LeavesHoldNoNumber (without_sections (page_tree pages page))
page_leaves pages page text within unrefused =
    let t : Tree = ungathered (expanded_page pages page).outer (expanded_page pages page).items in
    subst LeavesHoldNoNumber (sym (page_opened pages page text unrefused))
    (written_leaves t (body_written pages page text (omega arith) unrefused)
    (recursion_from_All (λ n. n ≡ 0) (others t) (ungathered_numbered (expanded_page pages page).outer (expanded_page pages page).items).unnumbered))

-- ---- bodies and sections

text_no_frame : (k : Kind) → writing k ≡ AsText → is_frame k ≡ false
text_no_frame kind.Body e = absurd (cc)
text_no_frame (kind.Section n) e = absurd (cc)
text_no_frame k e = refl

-- what is written in another node is neither
stands : (w : Writing) (k : ℕ) (parent : Kind) (l : Label) (ts : Trees) (childless : Bool) (inside : Type 0) → writing l.kind ≡ w
    → NodeIsWritten w k parent l childless inside (IsWrittenGroup k parent l ts) → is_frame l.kind ≡ false
stands AsText k parent l ts childless inside e h = text_no_frame l.kind e
stands AsVoid k parent l ts childless inside e h = no_frame l.kind (held parent l.kind h.1 h.2.element)
stands RoundCharacter k parent l ts childless inside e h = no_frame l.kind (held parent l.kind h.1 h.2.element)
stands RoundChildren k parent l ts childless inside e h = no_frame l.kind (held parent l.kind h.1 h.2.element)
stands (AsSection n) k parent l ts childless inside e h = absurd h
stands Unwritten k parent l ts childless inside e h = ap is_frame h.label.kind

none_body : (ts : Trees) → is_childless ts ≡ true → NoneIsFrame ts
none_body none e = tt
none_body (more t ts) e = cc

-- and holds none, unless it is a group
holds : (w : Writing) (k : ℕ) (parent : Kind) (l : Label) (ts : Trees) (inside : Type 0)
    → NodeIsWritten w k parent l (is_childless ts) inside (IsWrittenGroup k parent l ts) → (inside → NoneIsFrame ts) → HoldsNoFrame (tree l ts)
holds AsText k parent l ts inside h f = λ e. none_body ts h.1
holds AsVoid k parent l ts inside h f = λ e. f h.4
holds RoundCharacter k parent l ts inside h f = λ e. f h.4
holds RoundChildren k parent l ts inside h f = λ e. f h.4
holds (AsSection n) k parent l ts inside h f = absurd h
holds Unwritten k parent l ts inside h f = λ e. let g : true ≡ false = sym (ap is_leaf h.label.kind) ∙ e in cc

mutual
  bodiless : (k : ℕ) (parent : Kind) (t : Tree) → WrittenIn k parent t → (is_frame (label t).kind ≡ false) × HoldsNoFrame t
  bodiless k parent (tree l ts) h = (
    stands (writing l.kind) k parent l ts (is_childless ts) (IsCutIn (texts_of_kind l.kind) ts × AllWrittenIn (suc k) l.kind ts) refl h,
    holds (writing l.kind) k parent l ts (IsCutIn (texts_of_kind l.kind) ts × AllWrittenIn (suc k) l.kind ts) h
        (λ w. all_bodiless (suc k) l.kind ts w.1),
  )

  all_bodiless : (k : ℕ) (parent : Kind) (ts : Trees) → AllWrittenIn k parent ts → NoneIsFrame ts
  all_bodiless k parent none h = tt
  all_bodiless k parent (more t ts) h = let own = bodiless k parent t h.0 in (own.0, own.1, all_bodiless k parent ts h.2)

written_bodiless : (t : Tree) → IsWrittenBody t → HoldsNoFrame t
written_bodiless (tree l ts) h = λ e. all_bodiless 8 kind.Body ts h.2

pub page_bodiless : (pages : Pages) (page : List ℕ) → IsUtf8 page → length page ≤ 2097152 → first_refusal pages page (page_work pages page) ≡ None
    → HoldsNoFrame (without_sections (page_tree pages page))
page_bodiless pages page text within unrefused =
    subst HoldsNoFrame (sym (page_opened pages page text unrefused))
    (written_bodiless (ungathered (expanded_page pages page).outer (expanded_page pages page).items) (body_written pages page text (omega arith) unrefused))

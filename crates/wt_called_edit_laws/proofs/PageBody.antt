-- The body of a page with its calls: it covers the page, its nodes tile it, and in it is neither a body nor a section.
use Rattle.std.proofs.Common.{◌≡◌, ℕ, ◌-◌, false, None, List, [], ◌++◌, length, refl, sym, ap, ap₂, ◌∙◌, subst, append-nil}
use Rattle.std.specs.List.{AllByRecursion}
use Rattle.std.specs.Str.{IsUtf8}
use Rattle.wt_tree.specs.declared.kind.Kind.{Kind}
use Rattle.wt_tree.specs.declared.kind.Kind.TheVariants as kind
use Rattle.wt_tree.specs.declared.kind.Ranges.{Ranges}
use Rattle.wt_tree.specs.Kinds.{is_leaf}
use Rattle.wt_tree.specs.Source.{flat, flat_of_all}
use Rattle.wt_tree.specs.Tiling.{is_group, Tiled, TiledFrom, Covers, InPreorder}
use Rattle.wt_tree.specs.Tree.{Label, Tree, tree, Trees, label}
use Rattle.wt_span.specs.Items.{Item}
use Rattle.wt_span.specs.Origins.{OuterCall}
use Rattle.wt_checks.specs.Kept.{children}
use Rattle.wt_checks.specs.PutBack.{have_frame}
use Rattle.wt_expand.specs.PageCalls.{expanded_page}
use Rattle.wt_expand.specs.Work.{Pages}
use Rattle.wt_commands.specs.Answers.{refusal_of_page}
use Rattle.wt_page.specs.Body.{meaning}
use Rattle.wt_annotated.specs.Annotated.{annotated}
use Rattle.wt_annotated.specs.GroupData.{group_data}
use Rattle.wt_annotated.specs.Reached.{AreReachedSlices, reached_in_all}
use Rattle.wt_annotated.specs.Slices.{IsSlice}
use Rattle.wt_annotated.proofs.AnnotatedTree.{annotated_source, annotated_slices}
use Rattle.wt_page_round_trip.proofs.HeldPages.{its_page}
use Rattle.wt_page_round_trip.proofs.PageTrees.{IsItsPage, clean_meaning, ungathered_tiled, covers_width, ungathered_numbered}
use Rattle.wt_called_edit_laws.specs.Groups.{called_tree}
use Rattle.wt_called_edit_laws.proofs.TextsMake.{leaf_or}
use Rattle.wt_called_edit_laws.proofs.TilesStand.{inside_or, reached_or}
use Rattle.wt_called_edit_laws.proofs.Unframed.{page_unframed}

-- what is known of it
pub record IsBodyOf (page : List ℕ) (t : Tree) : Type 0 where
  pub kind : (label t).kind ≡ kind.Body
  pub number : (label t).id ≡ 0
  pub opening : (label t).opening ≡ []
  pub source : flat_of_all (children t) ≡ page
  pub tiled : TiledFrom (children t) 0 (length page - 0)
  pub slices : AllByRecursion (IsSlice page) (reached_in_all (children t))
  pub numbered : InPreorder t
  pub unframed : have_frame (children t) ≡ false

-- its label has no delimiters
record IsBodyLabel (l : Label) : Type 0 where
  kind : l.kind ≡ kind.Body
  number : l.id ≡ 0
  opening : l.opening ≡ []
  closing : l.closing ≡ []

body_label : (pages : Pages) (page : List ℕ) → IsBodyLabel (label (called_tree pages page))
unfolding meaning annotated
body_label pages page = record { kind = refl; number = refl; opening = refl; closing = refl }

-- ---- its source

bare_source : (t : Tree) → IsBodyLabel (label t) → flat t ≡ flat_of_all (children t)
bare_source (tree l ts) h =
    let leaf : is_leaf l.kind ≡ false = ap is_leaf h.kind in
    sym (leaf_or (is_leaf l.kind) l.own (l.opening ++ flat_of_all ts ++ l.closing) leaf)
    ∙ ap₂ (λ (os cs : List ℕ). os ++ flat_of_all ts ++ cs) h.opening h.closing
    ∙ append-nil (flat_of_all ts)

page_source : (pages : Pages) (page : List ℕ) → IsItsPage pages page → flat (called_tree pages page) ≡ page
page_source pages page is =
    let calls : List OuterCall = (expanded_page pages page).outer in
    let xs : List Item = (expanded_page pages page).items in
    annotated_source calls (group_data calls) (meaning xs) (clean_meaning xs) ∙ is

-- ---- its nodes

whole : ℕ → Ranges
whole size = record { start = 0; end = size; open_w = 0; close_w = 0 }

inside_tiled : (size : ℕ) (t : Tree) → (label t).kind ≡ kind.Body → Covers size t → Tiled t → TiledFrom (children t) 0 (size - 0)
unfolding whole
inside_tiled size (tree l ts) k c h = inside_or (is_leaf l.kind) l.ranges (whole size) (λ from to. TiledFrom ts from to) (ap is_leaf k) c h

inside_sliced : (page : List ℕ) (t : Tree) → (label t).kind ≡ kind.Body → AreReachedSlices page t → AllByRecursion (IsSlice page) (reached_in_all (children t))
inside_sliced page (tree l ts) k h = reached_or page (is_group l.kind) ts (ap is_group k) h.1

page_covers : (pages : Pages) (page : List ℕ) → IsItsPage pages page → Covers (length page) (called_tree pages page)
page_covers pages page is =
    let calls : List OuterCall = (expanded_page pages page).outer in
    let xs : List Item = (expanded_page pages page).items in
    subst (λ (n : ℕ). Covers n (called_tree pages page)) (ap length is) (covers_width calls xs)

page_sliced : (pages : Pages) (page : List ℕ) → IsItsPage pages page → AreReachedSlices page (called_tree pages page)
page_sliced pages page is =
    let calls : List OuterCall = (expanded_page pages page).outer in
    let xs : List Item = (expanded_page pages page).items in
    subst (λ (bs : List ℕ). AreReachedSlices bs (called_tree pages page)) is (annotated_slices calls (group_data calls) (meaning xs) (clean_meaning xs))

-- ---- the page

pub page_body : (pages : Pages) (page : List ℕ) → IsUtf8 page → refusal_of_page pages page ≡ None → IsBodyOf page (called_tree pages page)
page_body pages page u e =
    let t : Tree = called_tree pages page in
    let calls : List OuterCall = (expanded_page pages page).outer in
    let xs : List Item = (expanded_page pages page).items in
    let is : IsItsPage pages page = its_page pages page u e in
    let l : IsBodyLabel (label t) = body_label pages page in
    record {
      kind = l.kind;
      number = l.number;
      opening = l.opening;
      source = sym (bare_source t l) ∙ page_source pages page is;
      tiled = inside_tiled (length page) t l.kind (page_covers pages page is) (ungathered_tiled calls xs);
      slices = inside_sliced page t l.kind (page_sliced pages page is);
      numbered = ungathered_numbered calls xs;
      unframed = page_unframed pages page u e;
    }

-- ---- in other words

-- a tree by its label and what it holds
pub as_body : (t : Tree) (us : Trees) → (label t).kind ≡ kind.Body → (label t).id ≡ 0 → us ≡ children t
    → t ≡ tree (record (label t) { kind = kind.Body; id = 0 }) us
as_body (tree l ts) us k n e =
    ap₂ (λ (j : Kind) (i : ℕ). tree (record l { kind = j; id = i }) ts) k n ∙ ap (tree (record l { kind = kind.Body; id = 0 })) (sym e)

-- Which nodes of a page's tree are doubtful, by what each of them is.
use Rattle.std.specs.Prelude.{◌≡◌, ◌≢◌, ◌⊎◌, ◌++◌, ℕ, false, true, Some, List, [], ◌∷◌, map, slice_get, if◌then◌else◌}
use Rattle.wt_span.specs.Characters as byte
use Rattle.wt_tree.specs.declared.kind.Kind.{Kind}
use Rattle.wt_tree.specs.declared.kind.Kind.TheVariants as kind
use Rattle.wt_tree.specs.declared.kind.Ranges.{Ranges}
use Rattle.wt_tree.specs.Tiling.{is_group}
use Rattle.wt_tree.specs.Tree.{Label, Tree, tree, Trees, none, more}
use Rattle.wt_annotated.specs.Slices.{slice}
use Rattle.wt_lint.specs.declared.finding.Kind.{Kind as Doubt}
use Rattle.wt_lint.specs.declared.finding.Kind.TheVariants.{RepeatedCategory, StrayTableEnd}
use Rattle.wt_lint.specs.Categories.{title_of}
use Rattle.wt_lint.specs.Findings.{all_found, is_unequal}
use Rattle.wt_lint.specs.Found.{Span}
use Rattle.wt_lint.specs.Nodes.{Stand, is_category, nodes, sort_of, start_of, top}
use Rattle.wt_lint.specs.Tags.{is_closing_tag, is_open_tag}
use Rattle.wt_lint.specs.Texts.{table_ends}

-- it is one of these
abbrev pub IsOneOf : {X : Type 0} → X → List X → Type 0
IsOneOf x [] = ⊥
IsOneOf x (y ∷ ys) = (x ≡ y) ⊎ IsOneOf x ys

-- ---- nodes outside groups

-- a node with this label is the tree, or in it, and in no group
abbrev mutual
  pub IsIn : Label → Tree → Type 0
  IsIn n (tree l ts) = (l ≡ n) ⊎ ((is_group l.kind ≡ false) × IsInOne n ts)

  pub IsInOne : Label → Trees → Type 0
  IsInOne n none = ⊥
  IsInOne n (more t ts) = IsIn n t ⊎ IsInOne n ts

-- ---- what a doubtful node is

abbrev pub IsStyle : Kind → Type 0
IsStyle k = (k ≡ kind.Bold) ⊎ (k ≡ kind.Italic)

-- bold or italic text without a closing delimiter, after which no apostrophe comes; or a group that holds nothing of the page
abbrev pub IsOpenStyle : List ℕ → Label → Ranges → Type 0
IsOpenStyle page l r =
    (IsStyle l.kind × ((r.close_w ≡ 0) × (slice_get page r.end ≢ Some byte.apostrophe))) ⊎ ((l.kind ≡ kind.Group) × (r.start ≡ r.end))

-- a table without a closing delimiter
abbrev pub IsOpenTable : List ℕ → Label → Ranges → Type 0
IsOpenTable page l r = (l.kind ≡ kind.Table) × (r.close_w ≡ 0)

-- an island whose source is an opening tag
abbrev pub IsOpenTag : List ℕ → Label → Ranges → Type 0
IsOpenTag page l r = (l.kind ≡ kind.Island) × (is_open_tag (slice page r.start r.end) ≡ true)

-- an island whose source is a closing tag
abbrev pub IsStrayTag : List ℕ → Label → Ranges → Type 0
IsStrayTag page l r = (l.kind ≡ kind.Island) × (is_closing_tag (slice page r.start r.end) ≡ true)

-- a heading whose runs of `=` differ
abbrev pub IsUnequalHeading : List ℕ → Label → Ranges → Type 0
IsUnequalHeading page l r = ((n : ℕ) × (l.kind ≡ kind.Heading n)) × (is_unequal page r ≡ true)

-- ---- what is found

-- a node of the tree outside groups is doubtful so, and this is its range
pub record IsDoubtful (Is : Label → Ranges → Type 0) (t : Tree) (span : Span) : Type 0 where
  pub node : Label
  pub ranges : Ranges
  pub stands : IsIn node t
  pub has : node.ranges ≡ Some ranges
  pub at : span ≡ (ranges.start, ranges.end)
  pub so : Is node ranges

-- Of this kind the ranges of such nodes are found, and nothing else.
pub record IsFoundAt (doubt : Doubt) (page : List ℕ) (t : Tree) (Is : Label → Ranges → Type 0) : Type 0 where
  pub each : (span : Span) → IsDoubtful Is t span → IsOneOf (doubt, span) (all_found page t)
  pub only : (span : Span) → IsOneOf (doubt, span) (all_found page t) → IsDoubtful Is t span

-- ---- texts

-- a node with this label is the tree, or in it, and in no group and no nowiki
abbrev mutual
  pub IsReadIn : Label → Tree → Type 0
  IsReadIn n (tree l ts) = (l ≡ n) ⊎ ((is_group l.kind ≡ false) × ((l.kind ≢ kind.Nowiki) × IsReadInOne n ts))

  pub IsReadInOne : Label → Trees → Type 0
  IsReadInOne n none = ⊥
  IsReadInOne n (more t ts) = IsReadIn n t ⊎ IsReadInOne n ts

-- In a text that is in no group and no nowiki this is one of these ranges, which are told by where the text begins and by its
-- source.
pub record IsInText (spans : ℕ → List ℕ → List Span) (page : List ℕ) (t : Tree) (span : Span) : Type 0 where
  pub node : Label
  pub ranges : Ranges
  pub stands : IsReadIn node t
  pub text : node.kind ≡ kind.Text
  pub has : node.ranges ≡ Some ranges
  pub so : IsOneOf span (spans ranges.start (slice page ranges.start ranges.end))

-- Of this kind these ranges of such texts are found, and nothing else.
pub record AreFoundInTexts (doubt : Doubt) (page : List ℕ) (t : Tree) (spans : ℕ → List ℕ → List Span) : Type 0 where
  pub each : (span : Span) → IsInText spans page t span → IsOneOf (doubt, span) (all_found page t)
  pub only : (span : Span) → IsOneOf (doubt, span) (all_found page t) → IsInText spans page t span

-- ---- categories

abbrev pub categories_of : List Stand → List Label
categories_of [] = []
categories_of ((p, l) ∷ ns) = if is_category (sort_of l.kind) then l ∷ categories_of ns else categories_of ns

-- the categories of a tree that are in no group, in preorder
abbrev pub categories : Tree → List Label
categories t = categories_of (nodes top t)

-- A category with this range comes after one with the same title.
pub record IsRepeated (t : Tree) (span : Span) : Type 0 where
  pub before : List Label
  pub node : Label
  pub after : List Label
  pub are : categories t ≡ before ++ (node ∷ after)
  pub ranges : Ranges
  pub has : node.ranges ≡ Some ranges
  pub at : span ≡ (ranges.start, ranges.end)
  pub first : IsOneOf (title_of node) (map title_of before)

-- They are found, and nothing else is of that kind.
pub record RepeatedAreFound (page : List ℕ) (t : Tree) : Type 0 where
  pub each : (span : Span) → IsRepeated t span → IsOneOf (RepeatedCategory, span) (all_found page t)
  pub only : (span : Span) → IsOneOf (RepeatedCategory, span) (all_found page t) → IsRepeated t span

-- ---- ends of tables

-- one of these has this label
abbrev pub HasLabel : Label → Trees → Type 0
HasLabel n none = ⊥
HasLabel n (more (tree l us) ts) = (l ≡ n) ⊎ HasLabel n ts

-- A node with this label is directly in a paragraph that begins at this place, and that is in no table and no group.
abbrev mutual
  pub IsDirect : Label → ℕ → Tree → Type 0
  IsDirect n from (tree l ts) =
      ((l.kind ≡ kind.Para) × ((start_of l.ranges ≡ from) × HasLabel n ts)) ⊎ ((is_group l.kind ≡ false) × ((l.kind ≢ kind.Table) × IsDirectOne n from ts))

  pub IsDirectOne : Label → ℕ → Trees → Type 0
  IsDirectOne n from none = ⊥
  IsDirectOne n from (more t ts) = IsDirect n from t ⊎ IsDirectOne n from ts

-- In a text directly in such a paragraph this is a `|}` that is first on its line, blanks apart.
pub record IsStrayEnd (page : List ℕ) (t : Tree) (span : Span) : Type 0 where
  pub node : Label
  pub start : ℕ
  pub ranges : Ranges
  pub stands : IsDirect node start t
  pub text : node.kind ≡ kind.Text
  pub has : node.ranges ≡ Some ranges
  pub so : IsOneOf span (table_ends page start ranges.start (slice page ranges.start ranges.end))

-- They are found, and nothing else is of that kind.
pub record StrayEndsAreFound (page : List ℕ) (t : Tree) : Type 0 where
  pub each : (span : Span) → IsStrayEnd page t span → IsOneOf (StrayTableEnd, span) (all_found page t)
  pub only : (span : Span) → IsOneOf (StrayTableEnd, span) (all_found page t) → IsStrayEnd page t span

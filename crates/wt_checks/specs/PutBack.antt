-- An edited tree in which everything that may differ is the page's again.
use Rattle.std.specs.Prelude.{ℕ, ◌≡◌, ◌==◌, ◌&&◌, ◌||◌, not, Bool, true, false, Option, Some, None, List, [], ◌++◌, if◌then◌else◌}
use Rattle.std.specs.List.{AllByRecursion}
use Rattle.wt_tree.specs.declared.kind.Kind.{Kind}
use Rattle.wt_tree.specs.declared.kind.Mark.{Mark}
use Rattle.wt_tree.specs.declared.kind.Mark.TheVariants as marks
use Rattle.wt_tree.specs.declared.node.DataMw.{DataMw}
use Rattle.wt_tree.specs.Kinds.{showing, writing, is_section}
use Rattle.wt_tree.specs.Tiling.{is_group, ids_of_all}
use Rattle.wt_tree.specs.Tree.{Label, Tree, tree, Trees, none, more, label}
use Rattle.wt_checks.specs.Gist.{gist}
use Rattle.wt_checks.specs.Kept.{children, InOrder, GroupKept, NodeKept, MarkKept}
use Rattle.wt_checks.specs.Places.{Place, number, kind_at, is_body, is_content, parent_below, all_placed, places, Page, page_of}
use Rattle.wt_checks.specs.Tokens.{is_text}
use Rattle.wt_checks.specs.Unmarked.{is_compared}

-- What the page has for a node: nothing for a new one.
abbrev pub original : Page → Label → Option Place
original page l = if not (l.id == 0) || is_body l.kind then page l.id else None

-- what the page's node holds
abbrev pub inside : Option Place → Trees
inside None = none
inside (Some q) = children q.node

-- Data that isn't compared is the page's: a group's where the values of parameters are edited, and
-- that of a node that has none in the page.
abbrev pub page_data : Bool → Option DataMw → Option DataMw → Option DataMw
page_data true c d = c
page_data false None d = None
page_data false (Some c) d = d

abbrev pub data_back : Bool → Option Place → Option DataMw → Option DataMw
data_back ignored None d = d
data_back ignored (Some q) d = page_data ignored (label q.node).mw d

abbrev pub label_back : Bool → Option Place → Label → Label
label_back values o l = record l { mw = data_back (values && is_group l.kind) o l.mw }

-- the first of these trees that has this number, or else another tree
abbrev pub numbered_or : Tree → ℕ → Trees → Tree
numbered_or t n none = t
numbered_or t n (more v vs) = if (label v).id == n then v else numbered_or t n vs

-- the first trees, each with a number as it is among the second ones, where it is there
abbrev pub as_they_stand : Trees → Trees → Trees
as_they_stand none vs = none
as_they_stand (more t ts) vs = more (if (label t).id == 0 then t else numbered_or t (label t).id vs) (as_they_stand ts vs)

-- What a node holds, by its mark, whether it is a group, what the page has for it, and what it holds
-- itself once all is put back inside. The inside of a group and of a node that is marked `content` is the
-- page's. A node that is marked `children` has the page's children: new ones are gone, missing ones are
-- there again, and each other one is as it is. Any other node holds what it holds.
abbrev pub inside_back : Mark → Bool → Option Place → Trees → Trees
inside_back marks.Nothing group o vs = if group then inside o else vs
inside_back marks.Content group o vs = inside o
inside_back marks.Children group o vs = as_they_stand (inside o) vs
inside_back marks.Other group o vs = if group then inside o else vs

abbrev mutual
  pub put_back : Bool → Page → Tree → Tree
  put_back values page (tree l us) =
      tree (label_back values (original page l) l) (inside_back l.mark (is_group l.kind) (original page l) (all_put_back values page us))

  pub all_put_back : Bool → Page → Trees → Trees
  all_put_back values page none = none
  all_put_back values page (more u us) = more (put_back values page u) (all_put_back values page us)

-- The nodes inside new elements, in preorder. What has a number, and the body, isn't new.
abbrev mutual
  pub in_new : ℕ → Bool → Tree → List Place
  in_new parent within (tree l ts) =
      if not (l.id == 0) || is_body l.kind
      then all_in_new (parent_below parent l.id) (within || is_content l.mark) ts
      else all_placed (parent_below parent l.id) (within || is_content l.mark) ts

  pub all_in_new : ℕ → Bool → Trees → List Place
  all_in_new parent within none = []
  all_in_new parent within (more t ts) = in_new parent within t ++ all_in_new parent within ts

-- those of a tree whose root is a body
abbrev pub places_in_new : Tree → List Place
places_in_new t = in_new 0 false t

-- the body or a section
abbrev pub is_frame : Kind → Bool
is_frame k = is_body k || is_section k

-- a body or a section among these nodes or inside them
abbrev mutual
  pub has_frame : Tree → Bool
  has_frame (tree l ts) = is_frame l.kind || have_frame ts

  pub have_frame : Trees → Bool
  have_frame none = false
  have_frame (more t ts) = has_frame t || have_frame ts

-- the root is a body, and in it are no other one and no section
pub record IsOneBody (t : Tree) : Type 0 where
  pub root : is_body (label t).kind ≡ true
  pub alone : have_frame (children t) ≡ false

-- No text, and no separator, of a page's tree holds a node with a number.
abbrev pub TextsHoldNoNumber : Tree → Type 0
TextsHoldNoNumber page =
    AllByRecursion (λ p. is_text (writing (kind_at p)) ≡ true → AllByRecursion (λ n. n ≡ 0) (ids_of_all (children p.node))) (places page)

-- A text, and what shows nothing, holds nothing, and a text has no number, as it is where a tree is read from HTML.
pub record IsAsRead (p : Place) : Type 0 where
  pub hidden : is_compared (showing (kind_at p)) ≡ false → children p.node ≡ none
  pub text : is_text (writing (kind_at p)) ≡ true → children p.node ≡ none
  pub unnumbered : is_text (writing (kind_at p)) ≡ true → number p ≡ 0

abbrev pub AreAsRead : Tree → Type 0
AreAsRead edited = AllByRecursion IsAsRead (places edited)

-- The edited tree is the page's but for what may differ: with that put back, all that is compared is
-- the page's. Of what that doesn't see, kept nodes are in their order, groups are as they were, and so
-- are, outside marked content, kept marks and skips and the kept nodes inside new elements; marks are
-- where they may be.
pub record IsThePage (values : Bool) (page edited : Tree) : Type 0 where
  pub compared : gist (put_back values (page_of page) edited) ≡ gist page
  pub order : InOrder (places page) (places edited)
  pub groups : AllByRecursion (GroupKept values (page_of page)) (places edited)
  pub hidden : AllByRecursion (λ p. is_compared (showing (kind_at p)) ≡ false → NodeKept (page_of page) p) (places edited)
  pub inside_new : AllByRecursion (NodeKept (page_of page)) (places_in_new edited)
  pub marks : AllByRecursion (MarkKept (page_of page)) (places edited)

-- Worked cases of the difference, each by computing.
use Rattle.std.proofs.Common.{◌≡◌, ℕ, None, List, [], ◌∷◌, refl, codes}
use Rattle.std.specs.Prelude.{map}
use Rattle.wt_tree.specs.declared.kind.Kind.{Kind}
use Rattle.wt_tree.specs.declared.kind.Kind.TheVariants as kind
use Rattle.wt_tree.specs.declared.kind.Mark.{Mark}
use Rattle.wt_tree.specs.declared.kind.Mark.TheVariants as marks
use Rattle.wt_tree.specs.Tree.{Label, Tree, tree, none, trees, label}
use Rattle.wt_checks.specs.Alike.{same_kind, same_data}
use Rattle.wt_difference.specs.Difference.{Region, Inside, Children, Changed, difference}
use Rattle.wt_difference.specs.Remarked.{remarked}

-- ---- trees

abbrev blank : Kind → ℕ → Label
blank k id = record {
  kind = k;
  id = id;
  ranges = None;
  opening = [];
  closing = [];
  own = [];
  shown = [];
  attrs = [];
  mark = marks.Nothing;
  mw = None;
  origin = None;
}

abbrev node : Kind → ℕ → List Tree → Tree
node k id ts = tree (blank k id) (trees ts)

abbrev words : List ℕ → Tree
words bs = tree (record (blank kind.Text 0) { own = bs; shown = bs }) none

abbrev gap : Tree
gap = tree (record (blank kind.Sep 0) { own = 10 ∷ [] }) none

abbrev body : List Tree → Tree
body ts = node kind.Body 0 ts

-- where something was changed: the number of the node, and what of it
abbrev where_of : Changed → ℕ × Region
where_of c = ((label c.new).id, c.region)

abbrev found : Tree → Tree → List (ℕ × Region)
found t u = map where_of (difference t u)

-- ---- paragraphs

abbrev para : ℕ → List ℕ → Tree
para id bs = node kind.Para id (words bs ∷ [])

abbrev two : Tree
two = body (para 1 (codes "a") ∷ gap ∷ para 2 (codes "b") ∷ [])

-- nothing was changed
nothing : found two two ≡ []
unfolding same_kind same_data
nothing = refl

-- separators don't count
no_separator : found two (body (para 1 (codes "a") ∷ para 2 (codes "b") ∷ [])) ≡ []
unfolding same_kind same_data
no_separator = refl

-- a word was typed in the second paragraph
typed : found two (body (para 1 (codes "a") ∷ para 2 (codes "b c") ∷ [])) ≡ (2, Inside) ∷ []
unfolding same_kind same_data
typed = refl

-- the first was taken out
taken_out : found two (body (para 2 (codes "b") ∷ [])) ≡ (0, Children) ∷ []
unfolding same_kind same_data
taken_out = refl

-- one came between
came : found two (body (para 1 (codes "a") ∷ para 0 (codes "n") ∷ para 2 (codes "b") ∷ [])) ≡ (0, Children) ∷ []
unfolding same_kind same_data
came = refl

-- the two changed places
exchanged : found two (body (para 2 (codes "b") ∷ para 1 (codes "a") ∷ [])) ≡ (0, Children) ∷ []
unfolding same_kind same_data
exchanged = refl

-- the first became a heading: it is new to its body, and what it holds is written with it
became_heading : found two (body (node (kind.Heading 2) 1 (words (codes "c") ∷ []) ∷ para 2 (codes "b") ∷ [])) ≡ (0, Children) ∷ []
unfolding same_kind same_data
became_heading = refl

-- Enter in a paragraph with a link: the link stands in the new second half
abbrev link : Tree
link = node kind.WikiLink 2 (words (codes "x") ∷ [])

split : found (body (node kind.Para 1 (words (codes "a ") ∷ link ∷ []) ∷ []))
    (body (para 1 (codes "a") ∷ node kind.Para 0 (link ∷ []) ∷ [])) ≡ (0, Children) ∷ (1, Inside) ∷ []
unfolding same_kind same_data
split = refl

-- ---- items

-- `* a` with `** b` in it
abbrev nested : List ℕ → List ℕ → Tree
nested xs ys = body (node kind.Ul 1 (node kind.Li 2 (words xs ∷ gap ∷ node kind.Ul 3 (node kind.Li 4 (words ys ∷ []) ∷ []) ∷ []) ∷ []) ∷ [])

-- the text of the outer item alone
outer : found (nested (codes "a") (codes "b")) (nested (codes "c") (codes "b")) ≡ (2, Inside) ∷ []
unfolding same_kind same_data
outer = refl

-- that of the inner one
inner : found (nested (codes "a") (codes "b")) (nested (codes "a") (codes "c")) ≡ (4, Inside) ∷ []
unfolding same_kind same_data
inner = refl

-- the inner list was taken out
inner_list : found (nested (codes "a") (codes "b")) (body (node kind.Ul 1 (node kind.Li 2 (words (codes "a") ∷ []) ∷ []) ∷ [])) ≡ (2, Children) ∷ []
unfolding same_kind same_data
inner_list = refl

-- ---- sections and groups

-- a section of the page counts as the blocks in it
in_section : found (body (node (kind.Section 0) 0 (para 1 (codes "a") ∷ []) ∷ [])) (body (para 1 (codes "a") ∷ [])) ≡ []
unfolding same_kind same_data
in_section = refl

-- what a group shows doesn't count
group_stays : found (body (node kind.Para 1 (node kind.Group 2 (words (codes "a") ∷ []) ∷ []) ∷ []))
    (body (node kind.Para 1 (node kind.Group 2 [] ∷ []) ∷ [])) ≡ []
unfolding same_kind same_data
group_stays = refl

-- ---- the marks of the difference

abbrev marked : Mark → Tree → Tree
marked k (tree l ts) = tree (record l { mark = k }) ts

-- a mark that nothing tells is taken off, wherever it stands
taken_off : remarked two (body (marked marks.Content (para 1 (codes "a")) ∷ node kind.Para 2 (marked marks.Children (words (codes "b")) ∷ []) ∷ []))
    ≡ body (para 1 (codes "a") ∷ para 2 (codes "b") ∷ [])
unfolding same_kind same_data remarked
taken_off = refl

-- a word was typed
typed_marked : remarked two (body (para 1 (codes "a") ∷ para 2 (codes "b c") ∷ []))
    ≡ body (para 1 (codes "a") ∷ marked marks.Content (para 2 (codes "b c")) ∷ [])
unfolding same_kind same_data remarked
typed_marked = refl

-- a new paragraph, which has no mark itself
came_marked : remarked two (body (para 1 (codes "a") ∷ marked marks.Content (para 0 (codes "n")) ∷ para 2 (codes "b") ∷ []))
    ≡ marked marks.Children (body (para 1 (codes "a") ∷ para 0 (codes "n") ∷ para 2 (codes "b") ∷ []))
unfolding same_kind same_data remarked
came_marked = refl

-- a new item in a list
abbrev item : ℕ → List ℕ → Tree
item id bs = node kind.Li id (words bs ∷ [])

abbrev list : List Tree → Tree
list ts = node kind.Ul 1 ts

item_marked : remarked (body (list (item 2 (codes "a") ∷ []) ∷ [])) (body (list (item 2 (codes "a") ∷ item 0 (codes "b") ∷ []) ∷ []))
    ≡ body (marked marks.Children (list (item 2 (codes "a") ∷ item 0 (codes "b") ∷ [])) ∷ [])
unfolding same_kind same_data remarked
item_marked = refl

-- an item with another text, and without the list that was in it
both_marked : remarked (nested (codes "a") (codes "b")) (body (list (item 2 (codes "c") ∷ []) ∷ [])) ≡ body (list (marked marks.Content (item 2 (codes "c")) ∷ []) ∷ [])
unfolding same_kind same_data remarked
both_marked = refl

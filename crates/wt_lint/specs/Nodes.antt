-- The nodes of a page that are looked at, and where each is.
use Rattle.std.specs.Prelude.{ℕ, Bool, true, false, ◌||◌, List, [], ◌∷◌, ◌++◌, Option, Some, None, if◌then◌else◌}
use Rattle.wt_tree.specs.declared.kind.Kind.{Kind}
use Rattle.wt_tree.specs.declared.kind.Kind.TheVariants as kind
use Rattle.wt_tree.specs.declared.kind.Ranges.{Ranges}
use Rattle.wt_tree.specs.Tiling.{is_group as is_group_kind}
use Rattle.wt_tree.specs.Tree.{Label, Tree, tree, Trees, none, more}
use Rattle.wt_lint.specs.declared.place.Sort.{Sort}
use Rattle.wt_lint.specs.declared.place.Sort.TheVariants.{Style, Group, Paragraph, Table, Nowiki, Text, Island, Heading, Category, Other}
use Rattle.wt_lint.specs.declared.place.Place.{Place}

-- what is looked for in a node of a kind
abbrev pub sort_of : Kind → Sort
sort_of kind.Body = Other
sort_of (kind.Section n) = Other
sort_of kind.Para = Paragraph
sort_of (kind.Heading n) = Heading
sort_of kind.Rule = Other
sort_of kind.Ul = Other
sort_of kind.Ol = Other
sort_of kind.Dl = Other
sort_of kind.Li = Other
sort_of kind.Dt = Other
sort_of kind.Dd = Other
sort_of kind.Pre = Other
sort_of kind.Table = Table
sort_of kind.Tbody = Other
sort_of kind.Tr = Other
sort_of kind.Caption = Other
sort_of kind.Td = Other
sort_of kind.Th = Other
sort_of kind.Bold = Style
sort_of kind.Italic = Style
sort_of kind.WikiLink = Other
sort_of kind.ExtLink = Other
sort_of kind.Category = Category
sort_of (kind.Tag t) = Other
sort_of kind.Br = Other
sort_of kind.Entity = Other
sort_of kind.Nowiki = Nowiki
sort_of kind.Island = Island
sort_of kind.Switch = Other
sort_of kind.Comment = Other
sort_of kind.Include = Other
sort_of kind.Skip = Other
sort_of kind.Sep = Other
sort_of kind.Text = Text
sort_of kind.Group = Group
sort_of kind.Empty = Other

abbrev pub is_style : Sort → Bool
is_style Style = true
is_style s = false

abbrev pub is_group : Sort → Bool
is_group Group = true
is_group s = false

abbrev pub is_table : Sort → Bool
is_table Table = true
is_table s = false

abbrev pub is_nowiki : Sort → Bool
is_nowiki Nowiki = true
is_nowiki s = false

abbrev pub is_text : Sort → Bool
is_text Text = true
is_text s = false

abbrev pub is_island : Sort → Bool
is_island Island = true
is_island s = false

abbrev pub is_heading : Sort → Bool
is_heading Heading = true
is_heading s = false

abbrev pub is_category : Sort → Bool
is_category Category = true
is_category s = false

-- ---- where a node is: whether in a table or a `nowiki`; and, of what is directly in a paragraph that is in no table, where
-- the paragraph begins

abbrev pub top : Place
top = record { in_table = false; in_nowiki = false; paragraph = None }

abbrev pub paragraph_below : Bool → Sort → ℕ → Option ℕ
paragraph_below in_table Paragraph start = if in_table then None else Some start
paragraph_below in_table s start = None

-- where what is directly in a node is, which begins at `start`
abbrev pub below : Place → Sort → ℕ → Place
below p s start = record {
  in_table = p.in_table || is_table s;
  in_nowiki = p.in_nowiki || is_nowiki s;
  paragraph = paragraph_below p.in_table s start;
}

abbrev pub start_of : Option Ranges → ℕ
start_of None = 0
start_of (Some r) = r.start

-- ---- the nodes, in preorder; those in groups aren't looked at

abbrev pub Stand : Type 0
Stand = Place × Label

abbrev mutual
  pub nodes : Place → Tree → List Stand
  nodes p (tree l ts) =
      (p, l) ∷ (if is_group_kind l.kind then [] else nodes_in_all (below p (sort_of l.kind) (start_of l.ranges)) ts)

  pub nodes_in_all : Place → Trees → List Stand
  nodes_in_all p none = []
  nodes_in_all p (more t ts) = nodes p t ++ nodes_in_all p ts

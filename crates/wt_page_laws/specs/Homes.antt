-- Where a node may be, by the node and not by what holds it; and how children are one after another.
use Rattle.std.specs.Prelude.{◌≡◌, Bool, true, false, ◌||◌, ◌&&◌, List, [], ◌∷◌, ◌++◌}
use Rattle.std.specs.List.{AllByRecursion}
use Rattle.wt_tree.specs.Kinds.{is_block, is_inline, may_follow}
use Rattle.wt_tree.specs.declared.kind.Kind.{Kind}
use Rattle.wt_tree.specs.declared.kind.Kind.TheVariants as kind

-- the body and its sections
abbrev pub is_whole : Kind → Bool
is_whole kind.Body = true
is_whole (kind.Section n) = true
is_whole k = false

-- cells and captions
abbrev pub is_cell : Kind → Bool
is_cell kind.Caption = true
is_cell kind.Td = true
is_cell kind.Th = true
is_cell k = false

-- items, terms and what is said of them
abbrev pub is_item : Kind → Bool
is_item kind.Li = true
is_item kind.Dt = true
is_item kind.Dd = true
is_item k = false

-- what holds a line of text: paragraphs, headings and preformatted text, links, styles and tags, items and cells
abbrev pub holds_line : Kind → Bool
holds_line kind.Para = true
holds_line (kind.Heading n) = true
holds_line kind.Pre = true
holds_line kind.Bold = true
holds_line kind.Italic = true
holds_line kind.WikiLink = true
holds_line kind.ExtLink = true
holds_line (kind.Tag t) = true
holds_line k = is_item k || is_cell k

abbrev pub is_bullets : Kind → Bool
is_bullets kind.Ul = true
is_bullets kind.Ol = true
is_bullets k = false

abbrev pub is_terms : Kind → Bool
is_terms kind.Dl = true
is_terms k = false

abbrev pub is_table : Kind → Bool
is_table kind.Table = true
is_table k = false

abbrev pub is_tbody : Kind → Bool
is_tbody kind.Tbody = true
is_tbody k = false

abbrev pub is_row : Kind → Bool
is_row kind.Tr = true
is_row k = false

abbrev pub is_nowiki : Kind → Bool
is_nowiki kind.Nowiki = true
is_nowiki k = false

-- whether a node of the first kind may be in one of the second: blocks in the body, sections, cells and captions, lists in items,
-- too; items, terms, rows and cells each in what they are parts of; what is in a line in what holds one; entities in a nowiki,
-- too; categories, switches and what shows nothing anywhere; and the other kinds in nothing
abbrev pub stands_in : Kind → Kind → Bool
stands_in kind.Body p = false
stands_in (kind.Section n) p = is_whole p
stands_in kind.Para p = is_whole p || is_cell p
stands_in (kind.Heading n) p = is_whole p || is_cell p
stands_in kind.Rule p = is_whole p || is_cell p
stands_in kind.Ul p = is_whole p || is_cell p || is_item p
stands_in kind.Ol p = is_whole p || is_cell p || is_item p
stands_in kind.Dl p = is_whole p || is_cell p || is_item p
stands_in kind.Li p = is_bullets p
stands_in kind.Dt p = is_terms p
stands_in kind.Dd p = is_terms p
stands_in kind.Pre p = is_whole p || is_cell p
stands_in kind.Table p = is_whole p || is_cell p
stands_in kind.Tbody p = is_table p
stands_in kind.Tr p = is_tbody p
stands_in kind.Caption p = is_table p
stands_in kind.Td p = is_row p
stands_in kind.Th p = is_row p
stands_in kind.Bold p = holds_line p
stands_in kind.Italic p = holds_line p
stands_in kind.WikiLink p = holds_line p
stands_in kind.ExtLink p = holds_line p
stands_in kind.Category p = true
stands_in (kind.Tag t) p = holds_line p
stands_in kind.Br p = holds_line p
stands_in kind.Entity p = holds_line p || is_nowiki p
stands_in kind.Nowiki p = holds_line p
stands_in kind.Island p = holds_line p
stands_in kind.Switch p = true
stands_in kind.Comment p = true
stands_in kind.Include p = true
stands_in kind.Skip p = true
stands_in kind.Sep p = false
stands_in kind.Text p = false
stands_in kind.Group p = false
stands_in kind.Empty p = false

-- children of these kinds may be one after another, where a block comes before them or none does
abbrev pub follow : Bool → List Kind → Bool
follow behind [] = true
follow behind (k ∷ ks) = may_follow behind k && follow (behind || is_block k) ks

-- some children, none of them a block or a list, and then others, none of them inline
pub record AreInTwo (ks : List Kind) : Type 0 where
  pub line : List Kind
  pub behind : List Kind
  pub whole : ks ≡ line ++ behind
  pub no_block : AllByRecursion (λ k. is_block k ≡ false) line
  pub no_inline : AllByRecursion (λ k. is_inline k ≡ false) behind

-- What a node is among lists, tables and lines.
use Rattle.std.specs.Prelude.{Bool, true, false}
use Rattle.wt_tree.specs.declared.kind.Kind.{Kind}
use Rattle.wt_tree.specs.declared.kind.Kind.TheVariants as kind
use Rattle.wt_inline.specs.ItemTree.{Head, ItemTree, inner}

-- `outer` is the body, `lines` a paragraph, a heading, preformatted text or a rule, `rows` the body of a table, `skipped` a space that is
-- read over, and `other` what is on a line, and marks.
pub data Role : Type 0 where
  outer : Role
  lines : Role
  list : Role
  item : Role
  rows : Role
  table : Role
  row : Role
  cell : Role
  caption : Role
  separator : Role
  skipped : Role
  other : Role

abbrev pub role : Kind → Role
role kind.Body = outer
role (kind.Section n) = other
role kind.Para = lines
role (kind.Heading n) = lines
role kind.Rule = lines
role kind.Ul = list
role kind.Ol = list
role kind.Dl = list
role kind.Li = item
role kind.Dt = item
role kind.Dd = item
role kind.Pre = lines
role kind.Table = table
role kind.Tbody = rows
role kind.Tr = row
role kind.Caption = caption
role kind.Td = cell
role kind.Th = cell
role kind.Bold = other
role kind.Italic = other
role kind.WikiLink = other
role kind.ExtLink = other
role kind.Category = other
role (kind.Tag t) = other
role kind.Br = other
role kind.Entity = other
role kind.Nowiki = other
role kind.Island = other
role kind.Switch = other
role kind.Comment = other
role kind.Include = other
role kind.Skip = skipped
role kind.Sep = separator
role kind.Text = other
role kind.Group = other
role kind.Empty = other

abbrev pub head_of : ItemTree → Head
head_of (inner h opening ts closing) = h

abbrev pub role_of : ItemTree → Role
role_of t = role (head_of t).kind

abbrev pub is_separator : Role → Bool
is_separator outer = false
is_separator lines = false
is_separator list = false
is_separator item = false
is_separator rows = false
is_separator row = false
is_separator table = false
is_separator cell = false
is_separator caption = false
is_separator separator = true
is_separator skipped = false
is_separator other = false

-- a list or an item
abbrev pub is_of_list : Role → Bool
is_of_list outer = false
is_of_list lines = false
is_of_list list = true
is_of_list item = true
is_of_list rows = false
is_of_list row = false
is_of_list table = false
is_of_list cell = false
is_of_list caption = false
is_of_list separator = false
is_of_list skipped = false
is_of_list other = false

-- a cell or a caption
abbrev pub is_cell : Role → Bool
is_cell outer = false
is_cell lines = false
is_cell list = false
is_cell item = false
is_cell rows = false
is_cell row = false
is_cell table = false
is_cell cell = true
is_cell caption = true
is_cell separator = false
is_cell skipped = false
is_cell other = false

-- a space that is read over
abbrev pub is_skipped : Role → Bool
is_skipped outer = false
is_skipped lines = false
is_skipped list = false
is_skipped item = false
is_skipped rows = false
is_skipped row = false
is_skipped table = false
is_skipped cell = false
is_skipped caption = false
is_skipped separator = false
is_skipped skipped = true
is_skipped other = false

-- what is between the members of a list or a table: separators, and marks
abbrev pub is_between : Role → Bool
is_between outer = false
is_between lines = false
is_between list = false
is_between item = false
is_between rows = false
is_between row = false
is_between table = false
is_between cell = false
is_between caption = false
is_between separator = true
is_between skipped = false
is_between other = true

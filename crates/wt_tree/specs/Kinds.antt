-- The table of kinds: what a node of each kind is, where it may be, and how it is spelled. A row
-- of each for each kind; all that writes, lists, reads or compares nodes goes by these.
use Rattle.std.specs.Prelude.{ℕ, List, [], ◌∷◌, ◌++◌, Bool, true, false, not, ◌==◌, ◌&&◌, ◌||◌, Option, Some, None, codes, decimal}
use Rattle.wt_tree.specs.declared.kind.Kind.{Kind}
use Rattle.wt_tree.specs.declared.kind.Kind.TheVariants as kind
use Rattle.wt_span.specs.declared.tag_name.TagName.{TagName}
use Rattle.wt_span.specs.declared.tag_name.TagName.TheVariants as tag
use Rattle.wt_tree.specs.declared.kind.AttrName.{AttrName}
use Rattle.wt_tree.specs.declared.kind.AttrName.TheVariants as attr
use Rattle.wt_tree.specs.declared.row.Writing.{Writing}
use Rattle.wt_tree.specs.declared.row.Writing.TheVariants.{AsText, AsVoid, RoundCharacter, RoundChildren, AsSection, Unwritten}
use Rattle.wt_tree.specs.declared.kind.Showing.{Showing}
use Rattle.wt_tree.specs.declared.kind.Showing.TheVariants.{Characters, Inside, Nothing, Element}
use Rattle.wt_tree.specs.declared.row.Placement.{Placement}
use Rattle.wt_tree.specs.declared.row.Placement.TheVariants.{Nowhere, Anywhere, Mark, Block, List as ListClass, Item, Term, TablePart, TableRow, Cell, Inline, Character, Section}
use Rattle.wt_tree.specs.declared.row.Holding.{Holding}
use Rattle.wt_tree.specs.declared.row.Holding.TheVariants.{NoElements, Blocks, Inlines, Entities, Items, Terms, TableParts, TableRows, Cells, InlinesThenLists, InlinesThenBlocks}
use Rattle.wt_tree.specs.declared.row.Texts.{Texts}
use Rattle.wt_tree.specs.declared.row.Texts.TheVariants.{Separators, Page, Bordered, OwnCharacter}
use Rattle.wt_tree.specs.declared.row.Payload.{Payload}
use Rattle.wt_tree.specs.declared.row.Payload.TheVariants.{NoData, ExtensionTag, GroupParts}
use Rattle.wt_tree.specs.declared.row.Values.{Values}
use Rattle.wt_tree.specs.declared.row.Values.TheVariants as value
use Rattle.wt_tree.specs.declared.row.Own.{Own}
use Rattle.wt_tree.specs.declared.row.Fixed.{Fixed}
use Rattle.wt_tree.specs.declared.row.Shape.{Shape}
use Rattle.wt_tree.specs.declared.row.Spelling.{Spelling as Spelled}

-- ---- what a node is

-- how it is written, whether it has a source of its own, whether it has a number, what the plain view
-- makes of it, where it may be, what it holds, what text directly in it is, and its `data-mw`
abbrev pub row : Writing → Bool → Bool → Showing → Placement → Holding → Texts → Payload → Shape
row w l n s c h t p = record { writing = w; is_leaf = l; is_numbered = n; showing = s; class = c; holding = h; texts = t; payload = p }

abbrev pub shape : Kind → Shape
shape kind.Body = row RoundChildren false false Element Nowhere Blocks Separators NoData
shape (kind.Section n) = row (AsSection n) false false Inside Section Blocks Separators NoData
shape kind.Para = row RoundChildren false true Element Block Inlines Page NoData
shape (kind.Heading n) = row RoundChildren false true Element Block Inlines Page NoData
shape kind.Rule = row AsVoid true true Element Block NoElements Page NoData
shape kind.Ul = row RoundChildren false true Element ListClass Items Separators NoData
shape kind.Ol = row RoundChildren false true Element ListClass Items Separators NoData
shape kind.Dl = row RoundChildren false true Element ListClass Terms Separators NoData
shape kind.Li = row RoundChildren false true Element Item InlinesThenLists Bordered NoData
shape kind.Dt = row RoundChildren false true Element Term InlinesThenLists Bordered NoData
shape kind.Dd = row RoundChildren false true Element Term InlinesThenLists Bordered NoData
shape kind.Pre = row RoundChildren false true Element Block Inlines Page NoData
shape kind.Table = row RoundChildren false true Element Block TableParts Separators NoData
shape kind.Tbody = row RoundChildren false true Element TablePart TableRows Separators NoData
shape kind.Tr = row RoundChildren false true Element TableRow Cells Separators NoData
shape kind.Caption = row RoundChildren false true Element TablePart InlinesThenBlocks Bordered NoData
shape kind.Td = row RoundChildren false true Element Cell InlinesThenBlocks Bordered NoData
shape kind.Th = row RoundChildren false true Element Cell InlinesThenBlocks Bordered NoData
shape kind.Bold = row RoundChildren false true Element Inline Inlines Page NoData
shape kind.Italic = row RoundChildren false true Element Inline Inlines Page NoData
shape kind.WikiLink = row RoundChildren false true Element Inline Inlines Page NoData
shape kind.ExtLink = row RoundChildren false true Element Inline Inlines Page NoData
shape kind.Category = row AsVoid true true Element Anywhere NoElements Page NoData
shape (kind.Tag t) = row RoundChildren false true Element Inline Inlines Page NoData
shape kind.Br = row AsVoid true true Element Inline NoElements Page NoData
shape kind.Entity = row RoundCharacter true true Characters Character NoElements OwnCharacter NoData
shape kind.Nowiki = row RoundChildren false true Inside Inline Entities Page NoData
shape kind.Island = row RoundChildren true true Element Inline NoElements Page ExtensionTag
shape kind.Switch = row AsVoid true true Element Anywhere NoElements Page NoData
shape kind.Comment = row AsVoid true true Nothing Mark NoElements Page NoData
shape kind.Include = row AsVoid true true Nothing Mark NoElements Page NoData
shape kind.Skip = row AsVoid true true Nothing Anywhere NoElements Page NoData
shape kind.Sep = row AsText true false Nothing Nowhere NoElements Separators NoData
shape kind.Text = row AsText true false Characters Nowhere NoElements Page NoData
shape kind.Group = row Unwritten true true Inside Nowhere NoElements Page GroupParts
shape kind.Empty = row Unwritten true true Nothing Nowhere NoElements Page NoData

-- how a node is written
abbrev pub writing : Kind → Writing
writing k = (shape k).writing

-- A leaf has a source of its own and not that of its children.
abbrev pub is_leaf : Kind → Bool
is_leaf k = (shape k).is_leaf

-- Every node but the body, sections, texts and separators has a number. (The mark of an empty call is
-- inside groups alone, where nothing is numbered.)
abbrev pub is_numbered : Kind → Bool
is_numbered k = (shape k).is_numbered

-- What the plain view makes of a node: its characters, the plain view of what it holds, nothing, or
-- an element.
abbrev pub showing : Kind → Showing
showing k = (shape k).showing

abbrev pub texts_of_kind : Kind → Texts
texts_of_kind k = (shape k).texts

abbrev pub payload : Kind → Payload
payload k = (shape k).payload

-- ---- what may be in which

abbrev pub number_of_class : Placement → ℕ
number_of_class Nowhere = 0
number_of_class Anywhere = 1
number_of_class Block = 2
number_of_class ListClass = 3
number_of_class Item = 4
number_of_class Term = 5
number_of_class TablePart = 6
number_of_class TableRow = 7
number_of_class Cell = 8
number_of_class Inline = 9
number_of_class Character = 10
number_of_class Mark = 11
number_of_class Section = 12

abbrev pub is_class : Placement → Placement → Bool
is_class c d = number_of_class c == number_of_class d

abbrev pub admits : Holding → Placement → Bool
admits NoElements c = false
admits Blocks c = is_class c Block || (is_class c ListClass || is_class c Section)
admits Inlines c = is_class c Inline || is_class c Character
admits Entities c = is_class c Character
admits Items c = is_class c Item
admits Terms c = is_class c Term
admits TableParts c = is_class c TablePart
admits TableRows c = is_class c TableRow
admits Cells c = is_class c Cell
admits InlinesThenLists c = is_class c Inline || (is_class c Character || is_class c ListClass)
admits InlinesThenBlocks c = is_class c Inline || (is_class c Character || (is_class c Block || is_class c ListClass))

-- marks are anywhere, too
abbrev pub is_anywhere : Placement → Bool
is_anywhere c = is_class c Anywhere || is_class c Mark

-- an element of this kind may be directly in that one
abbrev pub may_hold : Kind → Kind → Bool
may_hold parent k = is_anywhere (shape k).class || admits (shape parent).holding (shape k).class

-- a comment or an include tag
abbrev pub is_mark : Kind → Bool
is_mark k = is_class (shape k).class Mark

-- a section, which is in the body and in sections
abbrev pub is_section : Kind → Bool
is_section k = is_class (shape k).class Section

-- a block or a list
abbrev pub is_block : Kind → Bool
is_block k = is_class (shape k).class Block || is_class (shape k).class ListClass

abbrev pub is_inline : Kind → Bool
is_inline k = is_class (shape k).class Inline || is_class (shape k).class Character

-- The order of children: no inline element comes after a block or a list.
abbrev pub may_follow : Bool → Kind → Bool
may_follow behind k = not (behind && is_inline k)

-- ---- how it is spelled

-- the name of its element, with a level where it has one; the attribute that the kind alone decides;
-- the attributes that the node may have of its own, in the order in which they are written; and the
-- word of a listing
pub record Spelling : Type 0 where
  pub name : List ℕ
  pub level : Option ℕ
  pub fixed : Option (AttrName × List ℕ)
  pub own : List Own
  pub word : List ℕ

abbrev pub spelled : List ℕ → Option ℕ → Option (AttrName × List ℕ) → List Own → List ℕ → Spelling
spelled n l f o w = record { name = n; level = l; fixed = f; own = o; word = w }

unfoldable pub tag_name : TagName → List ℕ
tag_name tag.Sup = codes "sup"
tag_name tag.Sub = codes "sub"
tag_name tag.Small = codes "small"
tag_name tag.S = codes "s"
tag_name tag.U = codes "u"
tag_name tag.Code = codes "code"
tag_name tag.Span = codes "span"

abbrev pub own : AttrName → Values → Own
own n v = record { name = n; values = v }

-- the link to a page, and any other
abbrev pub page_link : List Own
page_link = own attr.Href value.Link ∷ []

abbrev pub link : List Own
link = own attr.Href value.Any ∷ []

abbrev pub island_type : List Own
island_type = own attr.Typeof value.IslandType ∷ []

abbrev pub include_type : List Own
include_type = own attr.Typeof value.IncludeType ∷ []

abbrev pub switch_name : List Own
switch_name = own attr.Property value.SwitchName ∷ []

-- what tables, rows, cells, captions and the tag `span` may have
abbrev pub styles : List Own
styles =
    own attr.Class value.Any ∷ own attr.Colspan value.Any ∷ own attr.Rowspan value.Any ∷ own attr.Scope value.Any ∷ own attr.Lang value.Any
    ∷ own attr.Dir value.Any ∷ []

abbrev pub tag_own : TagName → List Own
tag_own tag.Sup = []
tag_own tag.Sub = []
tag_own tag.Small = []
tag_own tag.S = []
tag_own tag.U = []
tag_own tag.Code = []
tag_own tag.Span = styles

unfoldable pub spelling : Kind → Spelling
spelling kind.Body = spelled (codes "body") None None [] []
spelling (kind.Section n) = spelled (codes "section") None None [] []
spelling kind.Para = spelled (codes "p") None None [] (codes "p")
spelling (kind.Heading n) = spelled (codes "h") (Some n) None [] (codes "h")
spelling kind.Rule = spelled (codes "hr") None None [] (codes "hr")
spelling kind.Ul = spelled (codes "ul") None None [] (codes "ul")
spelling kind.Ol = spelled (codes "ol") None None [] (codes "ol")
spelling kind.Dl = spelled (codes "dl") None None [] (codes "dl")
spelling kind.Li = spelled (codes "li") None None [] (codes "li")
spelling kind.Dt = spelled (codes "dt") None None [] (codes "dt")
spelling kind.Dd = spelled (codes "dd") None None [] (codes "dd")
spelling kind.Pre = spelled (codes "pre") None None [] (codes "pre")
spelling kind.Table = spelled (codes "table") None None styles (codes "table")
spelling kind.Tbody = spelled (codes "tbody") None None [] (codes "tbody")
spelling kind.Tr = spelled (codes "tr") None None styles (codes "tr")
spelling kind.Caption = spelled (codes "caption") None None styles (codes "caption")
spelling kind.Td = spelled (codes "td") None None styles (codes "td")
spelling kind.Th = spelled (codes "th") None None styles (codes "th")
spelling kind.Bold = spelled (codes "b") None None [] (codes "b")
spelling kind.Italic = spelled (codes "i") None None [] (codes "i")
spelling kind.WikiLink = spelled (codes "a") None (Some (attr.Rel, codes "mw:WikiLink")) page_link (codes "wikilink")
spelling kind.ExtLink = spelled (codes "a") None (Some (attr.Rel, codes "mw:ExtLink")) link (codes "extlink")
spelling kind.Category = spelled (codes "link") None (Some (attr.Rel, codes "mw:PageProp/Category")) link (codes "category")
spelling (kind.Tag t) = spelled (tag_name t) None None (tag_own t) (codes "tag")
spelling kind.Br = spelled (codes "br") None None [] (codes "br")
spelling kind.Entity = spelled (codes "span") None (Some (attr.Typeof, codes "mw:Entity")) [] (codes "entity")
spelling kind.Nowiki = spelled (codes "span") None (Some (attr.Typeof, codes "mw:Nowiki")) [] (codes "nowiki")
spelling kind.Island = spelled (codes "span") None None island_type (codes "island")
spelling kind.Switch = spelled (codes "meta") None None switch_name (codes "switch")
spelling kind.Comment = spelled (codes "meta") None (Some (attr.Typeof, codes "mw:Comment")) [] (codes "comment")
spelling kind.Include = spelled (codes "meta") None None include_type (codes "include")
spelling kind.Skip = spelled (codes "meta") None (Some (attr.Typeof, codes "mw:Skip")) [] (codes "skip")
spelling kind.Sep = spelled [] None None [] []
spelling kind.Text = spelled [] None None [] []
spelling kind.Group = spelled [] None None [] (codes "group")
spelling kind.Empty = spelled [] None None [] []

-- what is seen in the code's row
abbrev pub fixed_of : Option Fixed → Option (AttrName × List ℕ)
fixed_of None = None
fixed_of (Some f) = Some (f.name, f.value.now)

abbrev pub spelling_of : Spelled → Spelling
spelling_of s = spelled s.name.now s.level (fixed_of s.fixed) s.own.now s.word.now

-- as a list
abbrev pub one_if_any : Option (AttrName × List ℕ) → List (AttrName × List ℕ)
one_if_any None = []
one_if_any (Some a) = a ∷ []

abbrev pub fixed_attributes : Kind → List (AttrName × List ℕ)
fixed_attributes k = one_if_any (spelling k).fixed

abbrev pub level_digits : Option ℕ → List ℕ
level_digits None = []
level_digits (Some n) = decimal n

-- the name of the element; texts and what isn't written have none
abbrev pub element_name : Kind → List ℕ
element_name k = (spelling k).name ++ level_digits (spelling k).level

-- the word of a listing; what has no number has none
abbrev pub word : Kind → List ℕ
word k = (spelling k).word ++ level_digits (spelling k).level

-- the names of attributes
unfoldable pub attribute_name : AttrName → List ℕ
attribute_name attr.About = codes "about"
attribute_name attr.Typeof = codes "typeof"
attribute_name attr.Property = codes "property"
attribute_name attr.Rel = codes "rel"
attribute_name attr.Href = codes "href"
attribute_name attr.Class = codes "class"
attribute_name attr.Colspan = codes "colspan"
attribute_name attr.Rowspan = codes "rowspan"
attribute_name attr.Scope = codes "scope"
attribute_name attr.Lang = codes "lang"
attribute_name attr.Dir = codes "dir"
attribute_name attr.Id = codes "id"
attribute_name attr.DataMw = codes "data-mw"
attribute_name attr.DataParsoid = codes "data-parsoid"

-- their order in an element
abbrev pub order : AttrName → ℕ
order attr.About = 0
order attr.Typeof = 1
order attr.Property = 2
order attr.Rel = 3
order attr.Href = 4
order attr.Class = 5
order attr.Colspan = 6
order attr.Rowspan = 7
order attr.Scope = 8
order attr.Lang = 9
order attr.Dir = 10
order attr.Id = 11
order attr.DataMw = 12
order attr.DataParsoid = 13

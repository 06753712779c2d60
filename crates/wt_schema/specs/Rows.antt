-- Which kind an element is, by the table of kinds: its name and its `typeof`, `property` and `rel`
-- are those of a row. What it may hold and what it keeps of its attributes and texts, by its row.
use Rattle.std.specs.Prelude.{ℕ, ◌==◌, ◌&&◌, Bool, true, false, not, find, Option, Some, None, List, [], ◌∷◌, length, drop, if◌then◌else◌}
use Rattle.std.specs.List.{flat_map}
use Rattle.std.specs.Str.{bytes_eq}
use Rattle.wt_span.specs.Bytes.{begins}
use Rattle.wt_names.specs.declared.title.Title.{Title}
use Rattle.wt_names.specs.Written.{link_to, read_link}
use Rattle.wt_tree.specs.declared.kind.AttrName.{AttrName}
use Rattle.wt_tree.specs.declared.kind.AttrName.TheVariants as attr
use Rattle.wt_tree.specs.declared.kind.Kind.{Kind}
use Rattle.wt_tree.specs.declared.kind.Kind.TheVariants as kind
use Rattle.wt_span.specs.declared.tag_name.TagName.TheVariants as tag
use Rattle.wt_tree.specs.declared.row.Own.{Own}
use Rattle.wt_tree.specs.declared.row.Texts.{Texts}
use Rattle.wt_tree.specs.declared.row.Texts.TheVariants.{Separators, Page, Bordered, OwnCharacter}
use Rattle.wt_tree.specs.declared.row.Values.{Values}
use Rattle.wt_tree.specs.declared.row.Values.TheVariants.{IslandType, IncludeType, SwitchName, Any, Link}
use Rattle.wt_tree.specs.Kinds.{spelling, level_digits, attribute_name, order, texts_of_kind}
use Rattle.wt_tree.specs.Values.{passes, is_needed}
use Rattle.wt_html_grammar.specs.Markup.{Pair}
use Rattle.wt_schema.specs.Attributes.{value_of}
use Rattle.wt_schema.specs.Sections.{is_section_name}

-- ---- which element is which kind

-- the kinds whose elements are read by their rows: all but the body, sections and what is no element of its own
abbrev pub read_kinds : List Kind
read_kinds =
    kind.Para ∷ kind.WikiLink ∷ kind.ExtLink ∷ kind.Bold ∷ kind.Italic
    ∷ kind.Entity ∷ kind.Nowiki ∷ kind.Island ∷ kind.Tag tag.Span
    ∷ kind.Comment ∷ kind.Include ∷ kind.Switch ∷ kind.Skip ∷ kind.Category ∷ kind.Br
    ∷ kind.Li ∷ kind.Ul ∷ kind.Ol ∷ kind.Dl ∷ kind.Dt ∷ kind.Dd
    ∷ kind.Td ∷ kind.Th ∷ kind.Tr ∷ kind.Tbody ∷ kind.Caption ∷ kind.Table
    ∷ kind.Tag tag.Sup ∷ kind.Tag tag.Sub ∷ kind.Tag tag.Small ∷ kind.Tag tag.S ∷ kind.Tag tag.U ∷ kind.Tag tag.Code
    ∷ kind.Heading 1 ∷ kind.Heading 2 ∷ kind.Heading 3 ∷ kind.Heading 4 ∷ kind.Heading 5 ∷ kind.Heading 6
    ∷ kind.Rule ∷ kind.Pre ∷ []

-- what a row says of an attribute of this name that the node has of its own
abbrev pub values_at : ℕ → List Own → Option Values
values_at n [] = None
values_at n (o ∷ os) = if order o.name == n then Some o.values else values_at n os

-- an attribute that the row has not may not be there, and one that decides the kind must be
abbrev pub agrees : Option Values → Option (List ℕ) → Bool
agrees None None = true
agrees None (Some t) = false
agrees (Some v) None = not (is_needed v)
agrees (Some v) (Some t) = passes v t

abbrev pub is_value : List ℕ → Option (List ℕ) → Bool
is_value w None = false
is_value w (Some v) = bytes_eq v w

abbrev pub agrees_by : ℕ → Option (AttrName × List ℕ) → List Own → Option (List ℕ) → Bool
agrees_by n None os v = agrees (values_at n os) v
agrees_by n (Some f) os v = if order f.0 == n then is_value f.1 v else agrees (values_at n os) v

-- the name, and after it the digits of the level, where there is one
abbrev pub is_named : List ℕ → Kind → Bool
is_named name k = begins (spelling k).name name && bytes_eq (drop (length (spelling k).name) name) (level_digits (spelling k).level)

-- the row of this kind agrees with what the element has under this name
abbrev pub tells : AttrName → Option (List ℕ) → Kind → Bool
tells n v k = agrees_by (order n) (spelling k).fixed (spelling k).own v

abbrev pub is_row : List ℕ → Option (List ℕ) → Option (List ℕ) → Option (List ℕ) → Kind → Bool
is_row name type property rel k = is_named name k && (tells attr.Typeof type k && (tells attr.Property property k && tells attr.Rel rel k))

abbrev pub row_by : List ℕ → Option (List ℕ) → Option (List ℕ) → Option (List ℕ) → Option Kind
row_by name type property rel = find (is_row name type property rel) read_kinds

-- A section is one by its name alone; its number isn't read. None where the element is no row.
abbrev pub row : List ℕ → List Pair → Option Kind
row name ps = if is_section_name name then Some (kind.Section 0) else row_by name (value_of (attribute_name attr.Typeof) ps) (value_of (attribute_name attr.Property) ps) (value_of (attribute_name attr.Rel) ps)

-- ---- texts

-- directly in the body all text is separators
abbrev pub holds_page_text : Texts → Bool
holds_page_text Separators = false
holds_page_text Page = true
holds_page_text Bordered = true
holds_page_text OwnCharacter = true

abbrev pub holds_text : Kind → Bool
holds_text k = holds_page_text (texts_of_kind k)

-- the texts in an entity are its character, and no texts of the page
abbrev pub shows_own_character : Texts → Bool
shows_own_character Separators = false
shows_own_character Page = false
shows_own_character Bordered = false
shows_own_character OwnCharacter = true

abbrev pub shows_text : Kind → Bool
shows_text k = shows_own_character (texts_of_kind k)

-- ---- attributes of the node's own

-- a link that leads to a title is read as the link to that title
abbrev pub link_by : List ℕ → Option Title → List ℕ
link_by href None = href
link_by href (Some t) = link_to t

abbrev pub link_read : List ℕ → List ℕ
link_read href = link_by href (read_link href)

abbrev pub read_as : Values → List ℕ → List ℕ
read_as IslandType v = v
read_as IncludeType v = v
read_as SwitchName v = v
read_as Any v = v
read_as Link v = link_read v

abbrev pub own_told : Own → Option (List ℕ) → List (AttrName × List ℕ)
own_told o None = []
own_told o (Some v) = (o.name, read_as o.values v) ∷ []

abbrev pub own_of : List Own → List Pair → List (AttrName × List ℕ)
own_of os ps = flat_map (λ (o : Own). own_told o (value_of (attribute_name o.name) ps)) os

-- those that the row has and that are there, in the order of the row
abbrev pub attrs_for : Kind → List Pair → List (AttrName × List ℕ)
attrs_for k ps = own_of (spelling k).own ps

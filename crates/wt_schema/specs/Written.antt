-- The trees for which HTML is written: what each kind of node may be, and what is read of it again.
use Rattle.std.specs.Prelude.{◌≡◌, ℕ, suc, ◌<◌, ◌^◌, ◌&&◌, ◌||◌, Bool, true, false, not, nat_le, IsUtf8, Option, Some, None, Ok, List, [], ◌∷◌, ◌++◌, ◌==◌, ◌⊎◌, if◌then◌else◌}
use Rattle.wt_tree.specs.declared.kind.AttrName.{AttrName}
use Rattle.wt_tree.specs.declared.kind.AttrName.TheVariants as attr
use Rattle.wt_tree.specs.declared.kind.Kind.{Kind}
use Rattle.wt_tree.specs.declared.kind.Kind.TheVariants as kind
use Rattle.wt_tree.specs.declared.kind.Mark.TheVariants as mark
use Rattle.wt_tree.specs.declared.kind.Ranges.{Ranges}
use Rattle.wt_tree.specs.declared.node.DataMw.{DataMw}
use Rattle.wt_tree.specs.declared.node.DataMw.TheVariants as mw
use Rattle.wt_tree.specs.declared.row.Own.{Own}
use Rattle.wt_tree.specs.declared.row.Texts.{Texts}
use Rattle.wt_tree.specs.declared.row.Texts.TheVariants.{Separators, Page, Bordered, OwnCharacter}
use Rattle.wt_tree.specs.Kinds.{writing, is_leaf, is_numbered, is_section, may_hold, may_follow, order, spelling, fixed_attributes, texts_of_kind}
use Rattle.wt_tree.specs.Values.{passes, is_needed}
use Rattle.wt_tree.specs.Tree.{Label, Tree, tree, Trees, none, more}
use Rattle.wt_tree.specs.declared.row.Writing.{Writing}
use Rattle.wt_tree.specs.declared.row.Writing.TheVariants.{AsText, AsVoid, RoundCharacter, RoundChildren, AsSection, Unwritten}
use Rattle.wt_schema.specs.Data.{is_empty, is_extension_of}
use Rattle.wt_tree.specs.Plain.{Face, Plain, text, element, Plains, ended, along}
use Rattle.wt_tree.specs.Tiling.{is_group}
use Rattle.wt_recut.specs.Recut.{is_blank, is_text, shows_block, any_shows_block, recut}
use Rattle.wt_datamw.specs.Mw.{mw_text}
use Rattle.wt_datamw.specs.MwRead.{mw_told}
use Rattle.wt_schema.specs.Groups.{transclusion, param}
use Rattle.wt_schema.specs.GroupNodes.{elements_for, group_nodes, is_ended, is_empty_span, in_order, all_follow}
use Rattle.wt_recut.specs.Cutting.{begins_with_text}
use Rattle.wt_schema.specs.Rows.{holds_text, shows_text, read_as}
use Rattle.wt_html_grammar.specs.declared.limits.TheConstants.{NESTED_ELEMENTS}

-- ---- what is read again

-- what is written as text has no attributes, and so no ranges when it is read
abbrev pub ranges_read : Writing → Option Ranges → Option Ranges
ranges_read AsText r = None
ranges_read w r = r

abbrev pub label_read : Label → Label
label_read l = record {
  kind = l.kind;
  id = l.id;
  ranges = ranges_read (writing l.kind) l.ranges;
  opening = l.opening;
  closing = l.closing;
  own = l.own;
  shown = l.shown;
  attrs = l.attrs;
  origin = l.origin;
  mark = l.mark;
  mw = l.mw;
}

-- The tree that is read again: without the ranges of its texts and separators, and with the nodes of a
-- group's elements in place of those from which they were made.
abbrev mutual
  pub unranged : Tree → Tree
  unranged (tree l ts) = tree (label_read l) (if is_group l.kind then group_nodes ts else unranged_all ts)

  pub unranged_all : Trees → Trees
  unranged_all none = none
  unranged_all (more t ts) = more (unranged t) (unranged_all ts)

-- ---- texts

-- a separator shows nothing, a text its source
abbrev pub shown_of : Kind → List ℕ → List ℕ
shown_of kind.Sep own = []
shown_of k own = own

-- directly in the body are separators, which are spaces, tabs and line breaks; elsewhere texts
abbrev pub leaf_kind : Kind → Kind
leaf_kind parent = if holds_text parent then kind.Text else kind.Sep

abbrev pub may_stand : Kind → List ℕ → Bool
may_stand parent own = if holds_text parent then true else is_blank own

-- in an item, a cell or a caption both may be
abbrev pub HasLeafKind : Texts → Kind → Kind → Type 0
HasLeafKind Separators j k = k ≡ j
HasLeafKind Page j k = k ≡ j
HasLeafKind Bordered j k = (k ≡ kind.Text) ⊎ (k ≡ kind.Sep)
HasLeafKind OwnCharacter j k = k ≡ j

-- a text or a separator: its characters, and nothing else
pub record IsTextIn (parent : Kind) (l : Label) : Type 0 where
  pub kind : HasLeafKind (texts_of_kind parent) (leaf_kind parent) l.kind
  pub characters : IsUtf8 l.own
  pub some : is_empty l.own ≡ false
  pub stands : may_stand parent l.own ≡ true
  pub shown : l.shown ≡ shown_of l.kind l.own
  pub id : l.id ≡ 0
  pub opening : l.opening ≡ []
  pub closing : l.closing ≡ []
  pub attrs : l.attrs ≡ []
  pub origin : l.origin ≡ None
  pub mark : l.mark ≡ mark.Nothing
  pub mw : l.mw ≡ None

-- ---- elements

-- there are places, and they are ones that a page can have: below 2^32
abbrev pub HasPlaces : Option Ranges → Type 0
HasPlaces None = ⊥
HasPlaces (Some r) = (r.start < 2 ^ 32) × (r.end < 2 ^ 32) × (r.open_w < 2 ^ 32) × (r.close_w < 2 ^ 32)

-- a kind that is numbered has a number from 1 to 2^32 - 1; another has 0
abbrev pub IsNumber : Bool → ℕ → Type 0
IsNumber true n = (0 < n) × (n < 2 ^ 32)
IsNumber false n = n ≡ 0

-- where a kind has a level, it is one of the six
abbrev pub is_level : Option ℕ → Bool
is_level None = true
is_level (Some n) = nat_le 1 n && nat_le n 6

abbrev pub has_level : Kind → Bool
has_level k = is_level (spelling k).level

-- a leaf has its source and no delimiters; another element has delimiters and no source of its own
pub record IsLeafSource (l : Label) : Type 0 where
  pub own : IsUtf8 l.own
  pub opening : l.opening ≡ []
  pub closing : l.closing ≡ []

pub record IsInnerSource (l : Label) : Type 0 where
  pub own : l.own ≡ []
  pub opening : IsUtf8 l.opening
  pub closing : IsUtf8 l.closing

abbrev pub HasSource : Bool → Label → Type 0
HasSource true l = IsLeafSource l
HasSource false l = IsInnerSource l

-- an entity shows its character, and other elements nothing of their own
abbrev pub IsShown : Bool → List ℕ → Type 0
IsShown true bs = IsUtf8 bs
IsShown false bs = bs ≡ []

-- Attributes of the node's own: those that its row has, in their order, each with a value that may
-- are there and is read as it is. One that decides the kind is there.
abbrev pub AreOwn : List Own → List (AttrName × List ℕ) → Type 0
AreOwn [] xs = xs ≡ []
AreOwn (o ∷ os) xs =
    ((v : List ℕ) × (ys : List (AttrName × List ℕ)) × (xs ≡ (o.name, v) ∷ ys) × (passes o.values v ≡ true) × (read_as o.values v ≡ v) × IsUtf8 v × AreOwn os ys)
    ⊎ ((is_needed o.values ≡ false) × AreOwn os xs)

abbrev pub HasAttributes : Kind → List (AttrName × List ℕ) → Type 0
HasAttributes k xs = AreOwn (spelling k).own xs

-- the value of the attribute at this place of the order
abbrev pub value_at : ℕ → List (AttrName × List ℕ) → Option (List ℕ)
value_at n [] = None
value_at n (x ∷ xs) = if order x.0 == n then Some x.1 else value_at n xs

-- an element of an extension, by its `typeof`
abbrev pub is_extension_label : Label → Bool
is_extension_label l = is_extension_of l.kind (value_at (order attr.Typeof) (fixed_attributes l.kind ++ l.attrs))

-- an island has the name and the inside of its extension tag, and other elements no data
abbrev pub IsUtf8IfAny : Option (List ℕ) → Type 0
IsUtf8IfAny None = Unit {0}
IsUtf8IfAny (Some bs) = IsUtf8 bs

abbrev pub IsExtension : Option DataMw → Type 0
IsExtension None = ⊥
IsExtension (Some (mw.Parts parts)) = ⊥
IsExtension (Some (mw.Extension name body)) = IsUtf8 name × IsUtf8IfAny body

abbrev pub HasData : Bool → Option DataMw → Type 0
HasData true d = IsExtension d
HasData false d = d ≡ None

-- an element, by the tables above; a section is none
pub record IsElementLabel (l : Label) : Type 0 where
  pub element : is_section l.kind ≡ false
  pub level : has_level l.kind ≡ true
  pub number : IsNumber (is_numbered l.kind) l.id
  pub places : HasPlaces l.ranges
  pub source : HasSource (is_leaf l.kind) l
  pub shown : IsShown (shows_text l.kind) l.shown
  pub attrs : HasAttributes l.kind l.attrs
  pub origin : l.origin ≡ None
  pub mark : l.mark ≡ mark.Nothing
  pub mw : HasData (is_extension_label l) l.mw

-- ---- groups

-- an element in a group: a kind with its attributes, which is no section and shows no characters of its own
pub record IsFace (f : Face) : Type 0 where
  pub element : is_section f.kind ≡ false
  pub level : has_level f.kind ≡ true
  pub attrs : HasAttributes f.kind f.attrs
  pub shows : shows_text f.kind ≡ false

-- within k elements; no leaf has anything in it
abbrev pub FaceIsWritten : ℕ → Face → Bool → Type 0 → Type 0
FaceIsWritten k f childless inside = (k < NESTED_ELEMENTS) × IsFace f × ((not (is_leaf f.kind) || childless) ≡ true) × inside

abbrev pub is_characters : Plain → Bool
is_characters (text bs) = true
is_characters (element f qs) = false

abbrev pub begins_with_characters : Plains → Bool
begins_with_characters ended = false
begins_with_characters (along p ps) = is_characters p

-- what is in an element of a group: no two texts are next to each other
abbrev mutual
  pub PlainIn : ℕ → Kind → Plain → Type 0
  PlainIn k parent (text bs) = (holds_text parent ≡ true) × IsUtf8 bs × (is_empty bs ≡ false)
  PlainIn k parent (element f qs) = (may_hold parent f.kind ≡ true) ×
      FaceIsWritten k f (is_ended qs) ((in_order false qs ≡ true) × PlainsIn (suc k) f.kind qs)

  pub PlainsIn : ℕ → Kind → Plains → Type 0
  PlainsIn k parent ended = Unit {0}
  PlainsIn k parent (along p ps) = PlainIn k parent p × ((is_characters p && begins_with_characters ps) ≡ false) × PlainsIn k parent ps

-- an element of a group fits where the group is; an empty `span` does so anywhere
abbrev pub TopIn : ℕ → Kind → Plain → Type 0
TopIn k parent (text bs) = ⊥
TopIn k parent (element f qs) = ((may_hold parent f.kind || is_empty_span f qs) ≡ true) ×
    FaceIsWritten k f (is_ended qs) ((in_order false qs ≡ true) × PlainsIn (suc k) f.kind qs)

abbrev pub TopsIn : ℕ → Kind → Plains → Type 0
TopsIn k parent ended = Unit {0}
TopsIn k parent (along p ps) = TopIn k parent p × TopsIn k parent ps

-- the word of a group is `mw:Transclusion` or `mw:Param`
abbrev pub IsWord : List ℕ → Type 0
IsWord w = (w ≡ transclusion) ⊎ (w ≡ param)

abbrev pub HasWord : List (AttrName × List ℕ) → Type 0
HasWord xs = (w : List ℕ) × (xs ≡ (attr.Typeof, w) ∷ []) × IsWord w

-- its parts are read as they are written
abbrev pub HasParts : Option DataMw → Type 0
HasParts None = ⊥
HasParts (Some (mw.Extension name body)) = ⊥
HasParts (Some (mw.Parts parts)) = IsUtf8 (mw_text (mw.Parts parts)) × (mw_told (mw_text (mw.Parts parts)) ≡ Ok (mw.Parts parts))

pub record IsGroupLabel (l : Label) : Type 0 where
  pub kind : l.kind ≡ kind.Group
  pub number : IsNumber true l.id
  pub places : HasPlaces l.ranges
  pub source : IsLeafSource l
  pub shown : l.shown ≡ []
  pub attrs : HasWord l.attrs
  pub origin : l.origin ≡ None
  pub mark : l.mark ≡ mark.Nothing
  pub mw : HasParts l.mw

-- A group that holds these nodes. Where it shows a block one of its elements is one.
pub record IsWrittenGroup (k : ℕ) (parent : Kind) (l : Label) (ts : Trees) : Type 0 where
  pub label : IsGroupLabel l
  pub elements : TopsIn k parent (elements_for ts)
  pub blocks : any_shows_block (group_nodes ts) ≡ any_shows_block ts

-- ---- trees

abbrev pub is_childless : Trees → Bool
is_childless none = true
is_childless (more t ts) = false

-- A node by how it is written, within k elements, the innermost of which has the kind `parent`. HTML
-- nests at most `NESTED_ELEMENTS` elements. No leaf has children. A group is written as its elements. No
-- section is in a node.
abbrev pub NodeIsWritten : Writing → ℕ → Kind → Label → Bool → Type 0 → Type 0 → Type 0
NodeIsWritten AsText k parent l childless inside group = IsTextIn parent l × (childless ≡ true)
NodeIsWritten (AsSection n) k parent l childless inside group = ⊥
NodeIsWritten Unwritten k parent l childless inside group = group
NodeIsWritten w k parent l childless inside group = (k < NESTED_ELEMENTS) × (may_hold parent l.kind ≡ true) × IsElementLabel l ×
    ((not (is_leaf l.kind) || childless) ≡ true) × inside

-- Two texts that are next to each other would be read as one: that is well where they are cut again.
abbrev pub joins : Texts → Bool → Bool
joins Separators b = b
joins Page b = b
joins Bordered b = false
joins OwnCharacter b = b

-- no inline element comes after a block
abbrev pub goes_behind : Bool → Tree → Bool
goes_behind behind (tree l ts) = if is_group l.kind then all_follow behind (elements_for ts) else may_follow behind l.kind

abbrev pub are_ordered : Bool → Trees → Bool
are_ordered behind none = true
are_ordered behind (more t ts) = goes_behind behind t && are_ordered (behind || shows_block t) ts

-- In an item, a cell or a caption texts and separators are cut at their border, and the inline elements
-- come first.
abbrev pub IsCutIn : Texts → Trees → Type 0
IsCutIn Separators ts = Unit {0}
IsCutIn Page ts = Unit {0}
IsCutIn Bordered ts = (recut ts ≡ ts) × (are_ordered false ts ≡ true)
IsCutIn OwnCharacter ts = Unit {0}

abbrev mutual
  pub WrittenIn : ℕ → Kind → Tree → Type 0
  WrittenIn k parent (tree l ts) = NodeIsWritten (writing l.kind) k parent l (is_childless ts)
      (IsCutIn (texts_of_kind l.kind) ts × AllWrittenIn (suc k) l.kind ts) (IsWrittenGroup k parent l ts)

  pub AllWrittenIn : ℕ → Kind → Trees → Type 0
  AllWrittenIn k parent none = Unit {0}
  AllWrittenIn k parent (more t ts) = WrittenIn k parent t ×
      (joins (texts_of_kind parent) (is_text t && begins_with_text ts) ≡ false) × AllWrittenIn k parent ts

-- What is in the body or in a section, within k elements, by how it is written: a section, with what
-- is in it, or a node.
abbrev pub PartIsWritten : Writing → ℕ → Type 0 → Type 0 → Type 0
PartIsWritten AsText k inside node = node
PartIsWritten AsVoid k inside node = node
PartIsWritten RoundCharacter k inside node = node
PartIsWritten RoundChildren k inside node = node
PartIsWritten (AsSection n) k inside node = (k < NESTED_ELEMENTS) × (n < 2 ^ 32) × inside
PartIsWritten Unwritten k inside node = node

-- No two texts are next to each other there. No section's number is read: what is in one is read in a
-- section of number 0.
abbrev mutual
  pub PartIn : ℕ → Kind → Tree → Type 0
  PartIn k parent (tree l ts) = PartIsWritten (writing l.kind) k (PartsIn (suc k) (kind.Section 0) ts) (WrittenIn k parent (tree l ts))

  pub PartsIn : ℕ → Kind → Trees → Type 0
  PartsIn k parent none = Unit {0}
  PartsIn k parent (more t ts) = PartIn k parent t × ((is_text t && begins_with_text ts) ≡ false) × PartsIn k parent ts

-- the tree of a page: a body, which is within `html`
abbrev pub IsWritten : Tree → Type 0
IsWritten (tree l ts) = (l.kind ≡ kind.Body) × IsElementLabel l × PartsIn 2 kind.Body ts

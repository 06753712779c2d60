-- The HTML of a tree, as it is written.
use Rattle.std.specs.Prelude.{ℕ, suc, ◌+◌, List, [], ◌∷◌, ◌++◌, Option, Some, None, Bool, true, false, ◌==◌, codes, decimal, if◌then◌else◌}
use Rattle.std.specs.List.{flat_map}
use Rattle.wt_tree.specs.declared.kind.AttrName.{AttrName}
use Rattle.wt_tree.specs.declared.kind.Kind.{Kind}
use Rattle.wt_tree.specs.declared.kind.Ranges.{Ranges}
use Rattle.wt_tree.specs.declared.node.DataMw.{DataMw}
use Rattle.wt_tree.specs.Elements.{span}
use Rattle.wt_tree.specs.Kinds.{is_leaf, writing, element_name, attribute_name, fixed_attributes, order}
use Rattle.wt_tree.specs.Plain.{Face, Plain, text, element, Plains, ended, along, plains_before}
use Rattle.wt_tree.specs.Tiling.{is_group}
use Rattle.wt_tree.specs.Tree.{Label, Tree, tree, Trees, none, more}
use Rattle.wt_datamw.specs.declared.sync.Sync.{Sync}
use Rattle.wt_datamw.specs.Sync.{sync_text}
use Rattle.wt_datamw.specs.Mw.{mw_text}
use Rattle.wt_tree.specs.declared.row.Writing.{Writing}
use Rattle.wt_tree.specs.declared.row.Writing.TheVariants.{AsText, AsVoid, RoundCharacter, RoundChildren, AsSection, Unwritten}
use Rattle.wt_schema.specs.Escapes.{escaped, escaped_double, escaped_single}

-- an attribute with its value
unfoldable pub attribute : AttrName × List ℕ → List ℕ
attribute a = codes " " ++ (attribute_name a.0 ++ (codes "=\"" ++ (escaped_double a.1 ++ codes "\"")))

abbrev pub attributes : List (AttrName × List ℕ) → List ℕ
attributes xs = flat_map attribute xs

-- the number of a node that has one
unfoldable pub id_attribute : ℕ → List ℕ
id_attribute id = if id == 0 then [] else codes " id=\"mw" ++ (decimal id ++ codes "\"")

-- what an extension has in `data-mw`
unfoldable pub mw_attribute : Option DataMw → List ℕ
mw_attribute None = []
mw_attribute (Some d) = codes " data-mw='" ++ (escaped_single (mw_text d) ++ codes "'")

-- what `data-parsoid` says of a node with these ranges: of a leaf its source, of another node its
-- delimiters
abbrev pub leaf_sync : Label → Ranges → Sync
leaf_sync l r = record { dsr = r; opening = []; closing = []; src = Some l.own }

abbrev pub inner_sync : Label → Ranges → Sync
inner_sync l r = record { dsr = r; opening = l.opening; closing = l.closing; src = None }

unfoldable pub sync_of : Label → Ranges → Sync
sync_of l r = if is_leaf l.kind then leaf_sync l r else inner_sync l r

unfoldable pub sync_start : List ℕ
sync_start = codes " data-parsoid='"

unfoldable pub sync_value : List ℕ → List ℕ
sync_value bytes = sync_start ++ (escaped_single bytes ++ codes "'")

unfoldable pub sync_attribute : Label → Option Ranges → List ℕ
sync_attribute l None = []
sync_attribute l (Some r) = sync_value (sync_text (sync_of l r))

-- the number of a node and its data
abbrev pub carried_attributes : Label → List ℕ
carried_attributes l = id_attribute l.id ++ (mw_attribute l.mw ++ sync_attribute l l.ranges)

-- the attributes of an element, in their order: the one that the kind alone decides, the node's own, its
-- number and its data
unfoldable pub attributes_of : Label → List ℕ
attributes_of l = attributes (fixed_attributes l.kind) ++ (attributes l.attrs ++ carried_attributes l)

-- a tag of an element of this kind, with these attributes and this end
abbrev pub tag_of : Kind → List ℕ → List ℕ → List ℕ
tag_of k attrs end = codes "<" ++ (element_name k ++ (attrs ++ end))

abbrev pub end_tag_of : Kind → List ℕ
end_tag_of k = codes "</" ++ (element_name k ++ codes ">")

unfoldable pub start_tag : Label → List ℕ
start_tag l = tag_of l.kind (attributes_of l) (codes ">")

unfoldable pub void_tag : Label → List ℕ
void_tag l = tag_of l.kind (attributes_of l) (codes "/>")

unfoldable pub end_tag : Label → List ℕ
end_tag l = end_tag_of l.kind

abbrev pub round_character : Label → List ℕ
round_character l = start_tag l ++ (escaped l.shown ++ end_tag l)

-- The start tag of the section of this number. It has neither a number of a node nor a source.
unfoldable pub section_start : ℕ → List ℕ
section_start n = codes "<section data-mw-section-id=\"" ++ (decimal n ++ codes "\">")

-- a node round what it holds
abbrev pub written : Writing → Label → List ℕ → List ℕ
written AsText l inside = escaped l.own
written AsVoid l inside = void_tag l
written RoundCharacter l inside = round_character l
written RoundChildren l inside = start_tag l ++ (inside ++ end_tag l)
written (AsSection n) l inside = section_start n ++ (inside ++ end_tag l)
written Unwritten l inside = []

-- ---- groups: the elements of what their nodes show

-- an element with these attributes round this inside, by how its kind is written; texts, sections and what
-- isn't written are no elements of a group
abbrev pub element_by : Writing → Kind → List ℕ → List ℕ → List ℕ
element_by AsText k attrs inside = []
element_by AsVoid k attrs inside = tag_of k attrs (codes "/>")
element_by RoundCharacter k attrs inside = tag_of k attrs (codes ">") ++ (inside ++ end_tag_of k)
element_by RoundChildren k attrs inside = tag_of k attrs (codes ">") ++ (inside ++ end_tag_of k)
element_by (AsSection n) k attrs inside = []
element_by Unwritten k attrs inside = []

-- the attribute that the kind alone decides, and the node's own
abbrev pub face_attributes : Face → List (AttrName × List ℕ)
face_attributes f = fixed_attributes f.kind ++ f.attrs

-- What is inside an element of a group has neither number nor data.
abbrev mutual
  pub plain_html : Plain → List ℕ
  plain_html (text bs) = escaped bs
  plain_html (element f qs) = element_by (writing f.kind) f.kind (attributes (face_attributes f)) (plains_html qs)

  pub plains_html : Plains → List ℕ
  plains_html ended = []
  plains_html (along p ps) = plain_html p ++ plains_html ps

-- the number of its group, which each element of a group has
unfoldable pub about_attribute : ℕ → List ℕ
about_attribute k = codes " about=\"#mwt" ++ (decimal k ++ codes "\"")

-- The attributes of a group's first element: the group's word (`mw:Transclusion` or `mw:Param`) is its
-- `typeof`, and comes before the element's own, where it has one.
abbrev pub joined_type : AttrName × List ℕ → AttrName × List ℕ → List (AttrName × List ℕ)
joined_type g x = if order x.0 == order g.0 then (g.0, g.1 ++ codes " " ++ x.1) ∷ [] else g ∷ x ∷ []

abbrev pub with_type : List (AttrName × List ℕ) → List (AttrName × List ℕ) → List (AttrName × List ℕ)
with_type [] xs = xs
with_type (g ∷ gs) [] = g ∷ []
with_type (g ∷ gs) (x ∷ xs) = joined_type g x ++ xs

-- The first element of a group has all that the group carries: its number, its data and its source.
-- `xs` are the attributes of the element by itself.
unfoldable pub first_attributes : ℕ → Label → List (AttrName × List ℕ) → List ℕ
first_attributes k l xs = about_attribute k ++ (attributes (with_type l.attrs xs) ++ carried_attributes l)

unfoldable pub next_attributes : ℕ → List (AttrName × List ℕ) → List ℕ
next_attributes k xs = about_attribute k ++ attributes xs

-- an element of group k, which has this label; it is the first, or not
abbrev pub group_attributes : Bool → ℕ → Label → List (AttrName × List ℕ) → List ℕ
group_attributes true k l xs = first_attributes k l xs
group_attributes false k l xs = next_attributes k xs

abbrev pub group_element : Bool → ℕ → Label → Kind → List (AttrName × List ℕ) → List ℕ → List ℕ
group_element first k l j xs inside = element_by (writing j) j (group_attributes first k l xs) inside

abbrev pub group_span : Bool → ℕ → Label → List ℕ → List ℕ
group_span first k l inside = group_element first k l span.kind (face_attributes span) inside

abbrev pub group_part : Bool → ℕ → Label → Plain → List ℕ
group_part first k l (text bs) = group_span first k l (escaped bs)
group_part first k l (element f qs) = group_element first k l f.kind (face_attributes f) (plains_html qs)

abbrev pub group_parts : Bool → ℕ → Label → Plains → List ℕ
group_parts first k l ended = []
group_parts first k l (along p ps) = group_part first k l p ++ group_parts false k l ps

-- group k, which shows this: an element for each, or one empty `span`
abbrev pub group_html : ℕ → Label → Plains → List ℕ
group_html k l ended = group_span true k l []
group_html k l (along p ps) = group_parts true k l (along p ps)

-- how many groups are written of a tree
abbrev pub groups_by : Writing → ℕ → ℕ
groups_by AsText inside = 0
groups_by AsVoid inside = 0
groups_by RoundCharacter inside = 0
groups_by RoundChildren inside = inside
groups_by (AsSection n) inside = inside
groups_by Unwritten inside = 0

abbrev mutual
  pub groups : Tree → ℕ
  groups (tree l ts) = if is_group l.kind then 1 else groups_by (writing l.kind) (groups_of_all ts)

  pub groups_of_all : Trees → ℕ
  groups_of_all none = 0
  groups_of_all (more t ts) = groups t + groups_of_all ts

-- ---- trees

-- A tree after k groups. Groups count from 1 in preorder; what a group holds is written as its plain view.
abbrev mutual
  pub html : ℕ → Tree → List ℕ
  html k (tree l ts) = if is_group l.kind then group_html (suc k) l (plains_before ts ended) else written (writing l.kind) l (html_of_all k ts)

  pub html_of_all : ℕ → Trees → List ℕ
  html_of_all k none = []
  html_of_all k (more t ts) = html k t ++ html_of_all (k + groups t) ts

-- the page: a document with an empty head round the body
unfoldable pub frame_start : List ℕ
frame_start = codes "<!DOCTYPE html><html><head><meta charset=\"utf-8\"/></head>"

unfoldable pub frame_end : List ℕ
frame_end = codes "</html>"

unfoldable pub html_text : Tree → List ℕ
html_text body = frame_start ++ (html 0 body ++ frame_end)

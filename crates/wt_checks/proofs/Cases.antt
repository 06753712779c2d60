-- Worked cases of the checks, each by computing.
use Rattle.std.proofs.Common.{◌≡◌, ℕ, true, false, Some, None, List, [], ◌∷◌, refl, codes}
use Rattle.wt_tree.specs.declared.kind.AttrName.{AttrName}
use Rattle.wt_tree.specs.declared.kind.AttrName.TheVariants as attr
use Rattle.wt_tree.specs.declared.kind.Kind.{Kind}
use Rattle.wt_tree.specs.declared.kind.Kind.TheVariants as kind
use Rattle.wt_span.specs.declared.tag_name.TagName.TheVariants as tag
use Rattle.wt_tree.specs.declared.kind.Mark.{Mark}
use Rattle.wt_tree.specs.declared.kind.Mark.TheVariants as marks
use Rattle.wt_tree.specs.declared.node.DataMw.TheVariants as data_mw
use Rattle.wt_tree.specs.declared.node.Part.TheVariants as part
use Rattle.wt_tree.specs.Tree.{Label, Tree, tree, none, trees}
use Rattle.wt_checks.specs.declared.refusal.TreeRefusal.TheVariants.{UnknownId, RepeatedId, Moved, InTemplate, NotEditable, UnmarkedChange}
use Rattle.wt_checks.specs.Alike.{same_kind, same_data}
use Rattle.wt_checks.specs.Checked.{checked}

-- ---- trees

abbrev pub blank : Kind → ℕ → Label
blank k id = record {
  kind = k;
  id = id;
  ranges = None;
  opening = [];
  closing = [];
  own = [];
  shown = [];
  attrs = [];
  mark = marks.Nothing;
  mw = None;
  origin = None;
}

abbrev pub node : Kind → ℕ → List Tree → Tree
node k id ts = tree (blank k id) (trees ts)

abbrev pub marked : Mark → Kind → ℕ → List Tree → Tree
marked m k id ts = tree (record (blank k id) { mark = m }) (trees ts)

abbrev with_attrs : List (AttrName × List ℕ) → Kind → ℕ → List Tree → Tree
with_attrs xs k id ts = tree (record (blank k id) { attrs = xs }) (trees ts)

abbrev pub words : List ℕ → Tree
words bs = tree (record (blank kind.Text 0) { own = bs; shown = bs }) none

abbrev pub gap : List ℕ → Tree
gap bs = tree (record (blank kind.Sep 0) { own = bs }) none

abbrev pub entity : ℕ → List ℕ → Tree
entity id bs = tree (record (blank kind.Entity id) { shown = bs }) none

abbrev pub body : List Tree → Tree
body ts = node kind.Body 0 ts

abbrev pub content : Mark
content = marks.Content

abbrev pub children : Mark
children = marks.Children

-- the page `a`
abbrev pub one_letter : Tree
one_letter = body (node kind.Para 1 (words (codes "a") ∷ []) ∷ [])

-- the page `a`, an empty line, `b`
abbrev pub two_lines : Tree
two_lines = body (node kind.Para 1 (words (codes "a") ∷ []) ∷ gap (codes "\n\n") ∷ node kind.Para 2 (words (codes "b") ∷ []) ∷ [])

-- The same lines in sections: the lead holds the first one, and a section in another one the second.
abbrev pub in_sections : Tree
in_sections = body (node (kind.Section 0) 0 (node kind.Para 1 (words (codes "a") ∷ []) ∷ gap (codes "\n\n") ∷ [])
    ∷ node (kind.Section 1) 0 (node (kind.Section 2) 0 (node kind.Para 2 (words (codes "b") ∷ []) ∷ []) ∷ []) ∷ [])

-- ---- what is accepted

same_tree : checked false two_lines two_lines ≡ None
unfolding checked same_kind same_data
same_tree = refl

-- what stands in a section of the page is a child of its body
same_without_sections : checked false in_sections two_lines ≡ None
unfolding checked same_kind same_data
same_without_sections = refl

-- separators aren't compared, and marked content may be anything
content_changed : checked false two_lines (body
    (marked content kind.Para 1 (words (codes "x") ∷ node kind.Bold 0 [] ∷ []) ∷ node kind.Para 2 (words (codes "b") ∷ []) ∷ [])) ≡ None
unfolding checked same_kind same_data
content_changed = refl

-- ---- numbers

unknown_number : checked false one_letter (body (node kind.Para 9 (words (codes "a") ∷ []) ∷ [])) ≡ Some (UnknownId 9)
unfolding checked same_kind same_data
unknown_number = refl

number_twice : checked false one_letter (body
    (node kind.Para 1 (words (codes "a") ∷ []) ∷ node kind.Para 1 (words (codes "a") ∷ []) ∷ [])) ≡ Some (RepeatedId 1)
unfolding checked same_kind same_data
number_twice = refl

-- of several the first element whose number stands twice, not the first second one
first_repeated : checked false two_lines (body
    (node kind.Para 1 [] ∷ node kind.Para 2 [] ∷ node kind.Para 2 [] ∷ node kind.Para 1 [] ∷ [])) ≡ Some (RepeatedId 1)
unfolding checked same_kind same_data
first_repeated = refl

-- an unknown number anywhere comes before a repeated one
unknown_first : checked false two_lines (body (node kind.Para 1 [] ∷ node kind.Para 1 [] ∷ node kind.Para 3 [] ∷ [])) ≡ Some (UnknownId 3)
unfolding checked same_kind same_data
unknown_first = refl

exchanged : checked false two_lines (body (node kind.Para 2 (words (codes "b") ∷ []) ∷ node kind.Para 1 (words (codes "a") ∷ []) ∷ [])) ≡ Some (Moved 1)
unfolding checked same_kind same_data
exchanged = refl

-- ---- a page with styles: the paragraph 1 holds the bold node 2, with the italic node 3 in it, and the comment 4

abbrev pub styles : Tree
styles =
    body (node kind.Para 1 (words (codes "a") ∷ node kind.Bold 2 (node kind.Italic 3 (words (codes "b") ∷ []) ∷ [])
    ∷ words (codes "c") ∷ node kind.Comment 4 [] ∷ words (codes "d") ∷ []) ∷ [])

-- out of its parent, in marked content too
lifted : checked false styles (body (marked content kind.Para 1 (node kind.Italic 3 (words (codes "b") ∷ []) ∷ []) ∷ [])) ≡ Some (Moved 3)
unfolding checked same_kind same_data
lifted = refl

-- inside a new node a kept node has the parent that it had
wrapped : checked false styles (body (marked content kind.Para 1 (node kind.Italic 0 (node kind.Bold 2 (node kind.Italic 3 [] ∷ []) ∷ []) ∷ []) ∷ [])) ≡ None
unfolding checked same_kind same_data
wrapped = refl

-- a comment is missing between two texts of an unmarked node: the lists of texts differ where one text stands for two
comment_missing : checked false styles (body (node kind.Para 1
    (words (codes "a") ∷ node kind.Bold 2 (node kind.Italic 3 (words (codes "b") ∷ []) ∷ []) ∷ words (codes "cd") ∷ []) ∷ []))
    ≡ Some (UnmarkedChange 1)
unfolding checked same_kind same_data
comment_missing = refl

-- and a new one isn't seen
comment_new : checked false one_letter (body (node kind.Comment 0 [] ∷ node kind.Para 1 (words (codes "a") ∷ node kind.Comment 0 [] ∷ []) ∷ [])) ≡ None
unfolding checked same_kind same_data
comment_new = refl

-- a comment at the end of a paragraph is missing
last_comment_missing : checked false (body (node kind.Para 1 (words (codes "a") ∷ node kind.Comment 2 [] ∷ []) ∷ []))
    (body (node kind.Para 1 (words (codes "a") ∷ []) ∷ [])) ≡ None
unfolding checked same_kind same_data
last_comment_missing = refl

-- ---- changes without a mark

text_changed : checked false one_letter (body (node kind.Para 1 (words (codes "b") ∷ []) ∷ [])) ≡ Some (UnmarkedChange 1)
unfolding checked same_kind same_data
text_changed = refl

kind_changed : checked false one_letter (body (marked content (kind.Heading 2) 1 (words (codes "a") ∷ []) ∷ [])) ≡ Some (UnmarkedChange 1)
unfolding checked same_kind same_data
kind_changed = refl

new_child_of_body : checked false one_letter (body
    (node kind.Para 1 (words (codes "a") ∷ []) ∷ node kind.Para 0 (words (codes "b") ∷ []) ∷ [])) ≡ Some (UnmarkedChange 0)
unfolding checked same_kind same_data
new_child_of_body = refl

missing_child_of_body : checked false two_lines (body (node kind.Para 2 (words (codes "b") ∷ []) ∷ [])) ≡ Some (UnmarkedChange 0)
unfolding checked same_kind same_data
missing_child_of_body = refl

missing_in_section : checked false in_sections (body (node kind.Para 1 (words (codes "a") ∷ []) ∷ [])) ≡ Some (UnmarkedChange 0)
unfolding checked same_kind same_data
missing_in_section = refl

lead_missing : checked false in_sections (body (node kind.Para 2 (words (codes "b") ∷ []) ∷ [])) ≡ Some (UnmarkedChange 0)
unfolding checked same_kind same_data
lead_missing = refl

attribute_changed : checked false
    (body (node kind.Para 1 (with_attrs ((attr.Href, codes "./A") ∷ []) kind.WikiLink 2 (words (codes "a") ∷ []) ∷ []) ∷ []))
    (body (node kind.Para 1 (with_attrs ((attr.Href, codes "./B") ∷ []) kind.WikiLink 2 (words (codes "a") ∷ []) ∷ []) ∷ [])) ≡ Some (UnmarkedChange 2)
unfolding checked same_kind same_data
attribute_changed = refl

-- a text inside an island or an entity is a change
text_in_island : checked false (body (node kind.Para 1 (node kind.Island 2 [] ∷ []) ∷ []))
    (body (node kind.Para 1 (node kind.Island 2 (words (codes "x") ∷ []) ∷ []) ∷ [])) ≡ Some (UnmarkedChange 2)
unfolding checked same_kind same_data
text_in_island = refl

text_in_entity : checked false (body (node kind.Para 1 (entity 2 (codes "&") ∷ []) ∷ []))
    (body (node kind.Para 1 (entity 2 (codes "&x") ∷ []) ∷ [])) ≡ Some (UnmarkedChange 2)
unfolding checked same_kind same_data
text_in_entity = refl

-- an extension's data is compared, by its value; other nodes' isn't
abbrev pub extension : List ℕ → Tree
extension inside = tree (record (blank kind.Island 2) { mw = Some (data_mw.Extension (codes "ref") (Some inside)) }) none

data_changed : checked false (body (node kind.Para 1 (extension (codes "a") ∷ []) ∷ []))
    (body (node kind.Para 1 (extension (codes "b") ∷ []) ∷ [])) ≡ Some (UnmarkedChange 2)
unfolding checked same_kind same_data
data_changed = refl

data_ignored : checked false (body (node kind.Para 1 (node kind.Island 2 [] ∷ []) ∷ [])) (body (node kind.Para 1 (extension (codes "b") ∷ []) ∷ [])) ≡ None
unfolding checked same_kind same_data
data_ignored = refl

-- ---- marks

mark_on_table : checked false (body (node kind.Table 1 [] ∷ [])) (body (marked content kind.Table 1 [] ∷ [])) ≡ Some (NotEditable 1)
unfolding checked same_kind same_data
mark_on_table = refl

mark_on_new : checked false one_letter (body (marked content kind.Para 0 [] ∷ [])) ≡ Some (NotEditable 0)
unfolding checked same_kind same_data
mark_on_new = refl

mark_in_content : checked false styles (body (marked content kind.Para 1 (marked content kind.Bold 2 [] ∷ []) ∷ [])) ≡ Some (NotEditable 2)
unfolding checked same_kind same_data
mark_in_content = refl

-- an unknown word as a mark
other_mark : checked false one_letter (body (marked marks.Other kind.Para 1 (words (codes "a") ∷ []) ∷ [])) ≡ Some (NotEditable 1)
unfolding checked same_kind same_data
other_mark = refl

-- an item that holds a list has no inline children only, nor one with a group that shows a block
abbrev pub group : ℕ → List Tree → Tree
group id ts = tree (record (blank kind.Group id) {
  attrs = (attr.Typeof, codes "mw:Transclusion") ∷ [];
  mw =
      Some (data_mw.Parts (part.Param (codes "{{{1}}}") ∷ []));
}) (trees ts)

item_with_text : checked false (body (node kind.Ul 1 (node kind.Li 2 (words (codes "a") ∷ []) ∷ []) ∷ []))
    (body (node kind.Ul 1 (marked content kind.Li 2 (words (codes "b") ∷ []) ∷ []) ∷ [])) ≡ None
unfolding checked same_kind same_data
item_with_text = refl

item_with_list : checked false (body (node kind.Ul 1 (node kind.Li 2 (node kind.Ul 3 [] ∷ []) ∷ []) ∷ []))
    (body (node kind.Ul 1 (marked content kind.Li 2 (node kind.Ul 3 [] ∷ []) ∷ []) ∷ [])) ≡ Some (NotEditable 2)
unfolding checked same_kind same_data
item_with_list = refl

item_with_shown_list : checked false (body (node kind.Ul 1 (node kind.Li 2 (group 3 (node kind.Ul 0 [] ∷ []) ∷ []) ∷ []) ∷ []))
    (body (node kind.Ul 1 (marked content kind.Li 2 [] ∷ []) ∷ [])) ≡ Some (NotEditable 2)
unfolding checked same_kind same_data
item_with_shown_list = refl

-- ---- groups: the paragraph 1 holds the group 2, which shows a text, a comment and bold

abbrev pub shows : Tree
shows = body (node kind.Para 1 (words (codes "a ")
    ∷ group 2 (words (codes "b") ∷ entity 0 (codes "&") ∷ node kind.Comment 0 [] ∷ node kind.Bold 0 (words (codes "c") ∷ []) ∷ [])
    ∷ []) ∷ [])

-- its texts and entities in one `span`, without the comment
abbrev pub read_as : List Tree → Tree
read_as ts = body (node kind.Para 1 (words (codes "a ") ∷ group 2 ts ∷ []) ∷ [])

abbrev pub text_span : List ℕ → Tree
text_span bs = node (kind.Tag tag.Span) 0 (words bs ∷ [])

abbrev pub bold : List ℕ → Tree
bold bs = node kind.Bold 0 (words bs ∷ [])

group_kept : checked false shows (read_as (text_span (codes "b&") ∷ bold (codes "c") ∷ [])) ≡ None
unfolding checked same_kind same_data
group_kept = refl

group_separator : checked false shows (read_as (text_span (codes "b&") ∷ gap (codes "\n") ∷ bold (codes "c") ∷ [])) ≡ None
unfolding checked same_kind same_data
group_separator = refl

group_text : checked false shows (read_as (text_span (codes "b&") ∷ bold (codes "d") ∷ [])) ≡ Some (InTemplate 2)
unfolding checked same_kind same_data
group_text = refl

group_comment : checked false shows (read_as (text_span (codes "b&") ∷ node kind.Comment 0 [] ∷ bold (codes "c") ∷ [])) ≡ Some (InTemplate 2)
unfolding checked same_kind same_data
group_comment = refl

group_mark_inside : checked false shows (read_as (text_span (codes "b&") ∷ marked content kind.Bold 0 (words (codes "c") ∷ []) ∷ [])) ≡ Some (InTemplate 2)
unfolding checked same_kind same_data
group_mark_inside = refl

-- the number of a group on another element, and of another element on a group
group_no_more : checked false shows (body (node kind.Para 1 (words (codes "a ") ∷ bold (codes "c") ∷ node kind.Bold 2 [] ∷ []) ∷ [])) ≡ Some (InTemplate 2)
unfolding checked same_kind same_data
group_no_more = refl

group_instead : checked false styles (body (node kind.Para 1
    (words (codes "a") ∷ group 2 (text_span (codes "b") ∷ []) ∷ words (codes "c") ∷ words (codes "d") ∷ []) ∷ [])) ≡ Some (UnmarkedChange 2)
unfolding checked same_kind same_data
group_instead = refl

-- a mark in a group without a number
group_new_marked : checked false one_letter (body
    (node kind.Para 1 (words (codes "a") ∷ group 0 (marked content kind.Bold 0 [] ∷ []) ∷ []) ∷ [])) ≡ Some (NotEditable 0)
unfolding checked same_kind same_data
group_new_marked = refl

-- a group that shows nothing is one empty `span`
empty_group : checked false (body (group 1 [] ∷ [])) (body (group 1 (node (kind.Tag tag.Span) 0 [] ∷ []) ∷ [])) ≡ None
unfolding checked same_kind same_data
empty_group = refl

-- other data of a group, and the same where values are edited
abbrev pub other_data : Tree
other_data = body (tree (record (blank kind.Group 1) {
  attrs = (attr.Typeof, codes "mw:Transclusion") ∷ [];
  mw =
      Some (data_mw.Parts (part.Literal (codes "x") ∷ []));
}) (trees (node (kind.Tag tag.Span) 0 [] ∷ [])) ∷ [])

group_data : checked false (body (group 1 [] ∷ [])) other_data ≡ Some (InTemplate 1)
unfolding checked same_kind same_data
group_data = refl

group_values : checked true (body (group 1 [] ∷ [])) other_data ≡ None
unfolding checked same_kind same_data
group_values = refl

-- Worked cases of what is found.
use Rattle.std.proofs.Common.{◌≡◌, refl, [], ◌∷◌, true, false, ℕ, List}
use Rattle.std.specs.Prelude.{codes, None, Some}
use Rattle.wt_tree.specs.declared.kind.Kind.{Kind as TreeKind}
use Rattle.wt_tree.specs.declared.kind.Kind.TheVariants as tree_kind
use Rattle.wt_tree.specs.declared.kind.AttrName.TheVariants as attr
use Rattle.wt_tree.specs.declared.kind.Mark.TheVariants as mark
use Rattle.wt_tree.specs.declared.kind.Ranges.{Ranges}
use Rattle.wt_tree.specs.Tree.{Label, Tree, tree, none, more}
use Rattle.wt_lint.specs.declared.finding.Kind.TheVariants as kind
use Rattle.wt_lint.specs.Findings.{all_found, in_order, is_unequal, is_open_style}
use Rattle.wt_lint.specs.Lines.{column_of, line_of}
use Rattle.wt_lint.specs.Tags.{is_closing_tag, is_open_tag, is_paired_name}
use Rattle.wt_lint.specs.Texts.{pairs, runs, table_ends}

-- whole runs of two or more
three_braces : runs 123 7 false (codes "a{{{b{") ≡ (8, 11) ∷ []
three_braces = refl

two_runs : runs 125 0 false (codes "}} }}}") ≡ (0, 2) ∷ (3, 6) ∷ []
two_runs = refl

-- from the left, none taken twice
three_brackets : pairs 91 4 (codes "[[[") ≡ (4, 6) ∷ []
three_brackets = refl

four_brackets : pairs 93 0 (codes "]]]]") ≡ (0, 2) ∷ (2, 4) ∷ []
four_brackets = refl

-- at the front of a line, blanks apart
table_end : table_ends (codes "a |}\n |}|}") 0 0 (codes "a |}\n |}|}") ≡ (6, 8) ∷ []
table_end = refl

-- tags by their source
open_tag : is_open_tag (codes "<Span class=x>") ≡ true
unfolding is_paired_name
open_tag = refl

own_end : is_open_tag (codes "<s/>") ≡ false
unfolding is_paired_name
own_end = refl

other_name : is_open_tag (codes "<ref>") ≡ false
unfolding is_paired_name
other_name = refl

closing_tag : is_closing_tag (codes "</SUP >") ≡ true
unfolding is_paired_name
closing_tag = refl

-- headings
abbrev heading : Ranges
heading = record { start = 0; end = 8; open_w = 3; close_w = 4 }

unequal : is_unequal (codes "== a ===") heading ≡ true
unequal = refl

equal : is_unequal (codes "== abc==") heading ≡ false
equal = refl

with_a_comment : is_unequal (codes "== a -->") heading ≡ false
with_a_comment = refl

-- an apostrophe behind a style that ends without a delimiter closes it
apostrophe_behind : is_open_style (codes "''a'''b") (record { start = 0; end = 3; open_w = 2; close_w = 0 }) ≡ false
apostrophe_behind = refl

line_end_behind : is_open_style (codes "''a\n") (record { start = 0; end = 3; open_w = 2; close_w = 0 }) ≡ true
line_end_behind = refl

-- by start, end and kind, each once
put_in_order : in_order ((kind.OpenTag, (3, 6)) ∷ (kind.OpenStyle, (3, 6)) ∷ (kind.OpenTag, (0, 3)) ∷ (kind.OpenTag, (3, 6)) ∷ [])
    ≡ (kind.OpenTag, (0, 3)) ∷ (kind.OpenStyle, (3, 6)) ∷ (kind.OpenTag, (3, 6)) ∷ []
put_in_order = refl

-- lines and columns, from 1
second_line : line_of (codes "ab\ncd") 4 ≡ 2
second_line = refl

second_column : column_of (codes "ab\ncd") 4 ≡ 2
second_column = refl

break_itself : column_of (codes "ab\ncd") 2 ≡ 3
break_itself = refl

-- ---- a whole tree

-- a node of a kind at a place; nothing else of it counts
abbrev at_place : TreeKind → ℕ → ℕ → List ℕ → Label
at_place k start end href = record {
  kind = k;
  id = 0;
  ranges = Some (record { start = start; end = end; open_w = 0; close_w = 0 });
  opening = [];
  closing = [];
  own = [];
  shown = [];
  attrs = (attr.Href, href) ∷ [];
  origin = None;
  mark = mark.Nothing;
  mw = None;
}

abbrev leaf : TreeKind → ℕ → ℕ → Tree
leaf k start end = tree (at_place k start end []) none

abbrev category : ℕ → ℕ → List ℕ → Tree
category start end href = tree (at_place tree_kind.Category start end href) none

-- a paragraph with a text; what stands in a group isn't looked at
abbrev paragraph : Tree
paragraph = tree (at_place tree_kind.Para 0 10 []) (more (leaf tree_kind.Text 0 7) (more (tree (at_place tree_kind.Group 7 10 []) (more (leaf tree_kind.Text 0 7) none)) none))

in_a_text : in_order (all_found (codes "a }} {{{{T") (tree (at_place tree_kind.Body 0 10 []) (more paragraph none)))
    ≡ (kind.StrayBraces, (2, 4)) ∷ (kind.OpenBraces, (5, 7)) ∷ []
in_a_text = refl

-- the second category of one title, whatever its key is
abbrev categories : Tree
categories = tree (at_place tree_kind.Body 0 9 []) (more (category 0 3 (codes "./C:X#a")) (more (category 3 6 (codes "./C:Y")) (more (category 6 9 (codes "./C:X")) none)))

second_category : all_found (codes "123456789") categories ≡ (kind.RepeatedCategory, (6, 9)) ∷ []
second_category = refl

-- Worked cases of marks `children`, each by computing.
use Rattle.std.proofs.Common.{◌≡◌, ℕ, false, Some, None, List, [], ◌∷◌, refl, codes}
use Rattle.wt_tree.specs.declared.kind.Kind.TheVariants as kind
use Rattle.wt_tree.specs.Tree.{Tree, trees}
use Rattle.wt_checks.specs.declared.refusal.TreeRefusal.TheVariants.{Moved, InTemplate, NotEditable, UnmarkedChange}
use Rattle.wt_checks.specs.Alike.{same_kind, same_data}
use Rattle.wt_checks.specs.Checked.{checked}
use Rattle.wt_checks.specs.Kept.{own_numbers}
use Rattle.wt_checks.proofs.Cases.{node, marked, words, gap, body, content, children, two_lines, group, text_span}

abbrev para : ℕ → List ℕ → Tree
para id bs = node kind.Para id (words bs ∷ [])

abbrev item : ℕ → List ℕ → Tree
item id bs = node kind.Li id (words bs ∷ [])

-- a body with a mark `children`
abbrev open_body : List Tree → Tree
open_body ts = marked children kind.Body 0 ts

-- ---- the body: blocks come and go

new_block : checked false two_lines (open_body (para 1 (codes "a") ∷ node (kind.Heading 2) 0 (words (codes "t") ∷ []) ∷ para 2 (codes "b") ∷ [])) ≡ None
unfolding checked same_kind same_data
new_block = refl

block_removed : checked false two_lines (open_body (para 2 (codes "b") ∷ [])) ≡ None
unfolding checked same_kind same_data
block_removed = refl

all_removed : checked false two_lines (open_body []) ≡ None
unfolding checked same_kind same_data
all_removed = refl

-- a comment of the body may be missing too, and so may a group
abbrev mixed : Tree
mixed = body (para 1 (codes "a") ∷ node kind.Comment 2 [] ∷ group 3 (words (codes "g") ∷ []) ∷ para 4 (codes "b") ∷ [])

comment_removed : checked false mixed (open_body (para 1 (codes "a") ∷ group 3 (text_span (codes "g") ∷ []) ∷ para 4 (codes "b") ∷ [])) ≡ None
unfolding checked same_kind same_data
comment_removed = refl

group_removed : checked false mixed (open_body (para 1 (codes "a") ∷ node kind.Comment 2 [] ∷ para 4 (codes "b") ∷ [])) ≡ None
unfolding checked same_kind same_data
group_removed = refl

-- without the mark the comment isn't missed, and the group is
comment_not_missed : checked false mixed (body (para 1 (codes "a") ∷ group 3 (text_span (codes "g") ∷ []) ∷ para 4 (codes "b") ∷ [])) ≡ None
unfolding checked same_kind same_data
comment_not_missed = refl

group_missed : checked false mixed (body (para 1 (codes "a") ∷ node kind.Comment 2 [] ∷ para 4 (codes "b") ∷ [])) ≡ Some (UnmarkedChange 0)
unfolding checked same_kind same_data
group_missed = refl

-- a block that stays is as it was, in its place, unless it has a mark of its own
block_changed : checked false two_lines (open_body (para 1 (codes "x") ∷ para 0 (codes "n") ∷ para 2 (codes "b") ∷ [])) ≡ Some (UnmarkedChange 1)
unfolding checked same_kind same_data
block_changed = refl

marked_block_changed : checked false two_lines (open_body (marked content kind.Para 1 (words (codes "x") ∷ []) ∷ para 0 (codes "n") ∷ [])) ≡ None
unfolding checked same_kind same_data
marked_block_changed = refl

blocks_exchanged : checked false two_lines (open_body (para 2 (codes "b") ∷ para 1 (codes "a") ∷ [])) ≡ Some (Moved 1)
unfolding checked same_kind same_data
blocks_exchanged = refl

-- of a body's children the numbers are those of the blocks that stay
numbers_that_stay : own_numbers (trees (para 1 (codes "a") ∷ gap (codes "\n\n") ∷ para 0 (codes "n") ∷ node kind.Ul 3 (item 4 (codes "x") ∷ []) ∷ [])) ≡ 1 ∷ 3 ∷ []
numbers_that_stay = refl

-- ---- lists that are children of the body: items come and go

-- the page `* x`, `* y`, with the item's numbers 2 and 3
abbrev list : Tree
list = body (node kind.Ul 1 (item 2 (codes "x") ∷ gap (codes "\n") ∷ item 3 (codes "y") ∷ []) ∷ [])

new_item : checked false list (body (marked children kind.Ul 1 (item 0 (codes "w") ∷ item 2 (codes "x") ∷ item 3 (codes "y") ∷ []) ∷ [])) ≡ None
unfolding checked same_kind same_data
new_item = refl

item_removed : checked false list (body (marked children kind.Ul 1 (item 3 (codes "y") ∷ []) ∷ [])) ≡ None
unfolding checked same_kind same_data
item_removed = refl

-- the body's mark isn't the list's
item_of_unmarked_list : checked false list (open_body (node kind.Ul 1 (item 2 (codes "x") ∷ item 3 (codes "y") ∷ item 0 (codes "w") ∷ []) ∷ []))
    ≡ Some (UnmarkedChange 1)
unfolding checked same_kind same_data
item_of_unmarked_list = refl

both_marked : checked false list
    (open_body (marked children kind.Ul 1 (item 2 (codes "x") ∷ item 0 (codes "w") ∷ []) ∷ para 0 (codes "n") ∷ [])) ≡ None
unfolding checked same_kind same_data
both_marked = refl

numbered_list : checked false (body (node kind.Ol 1 (item 2 (codes "x") ∷ []) ∷ [])) (body (marked children kind.Ol 1 (item 0 (codes "w") ∷ item 2 (codes "x") ∷ []) ∷ []))
    ≡ None
unfolding checked same_kind same_data
numbered_list = refl

-- ---- where the mark may not stand

-- a list in an item of a list, of two the first in preorder
abbrev nested : Tree
nested = body (node kind.Ul 1 (node kind.Li 2 (words (codes "x") ∷ node kind.Ul 3 (item 4 (codes "y") ∷ []) ∷ []) ∷ []) ∷ [])

on_inner_list : checked false nested
    (body (node kind.Ul 1 (node kind.Li 2 (words (codes "x") ∷ marked children kind.Ul 3 (item 4 (codes "y") ∷ []) ∷ []) ∷ []) ∷ [])) ≡ Some (NotEditable 3)
unfolding checked same_kind same_data
on_inner_list = refl

on_both_lists : checked false nested
    (body (marked children kind.Ul 1 (node kind.Li 2 (words (codes "x") ∷ marked children kind.Ul 3 [] ∷ []) ∷ []) ∷ [])) ≡ Some (NotEditable 3)
unfolding checked same_kind same_data
on_both_lists = refl

on_item : checked false list (body (node kind.Ul 1 (marked children kind.Li 2 (words (codes "x") ∷ []) ∷ item 3 (codes "y") ∷ []) ∷ []))
    ≡ Some (NotEditable 2)
unfolding checked same_kind same_data
on_item = refl

on_definition_list : checked false (body (node kind.Dl 1 (node kind.Dd 2 [] ∷ []) ∷ [])) (body (marked children kind.Dl 1 (node kind.Dd 2 [] ∷ []) ∷ []))
    ≡ Some (NotEditable 1)
unfolding checked same_kind same_data
on_definition_list = refl

on_paragraph : checked false two_lines (body (marked children kind.Para 1 (words (codes "a") ∷ []) ∷ para 2 (codes "b") ∷ [])) ≡ Some (NotEditable 1)
unfolding checked same_kind same_data
on_paragraph = refl

content_on_body : checked false two_lines (marked content kind.Body 0 (para 1 (codes "a") ∷ para 2 (codes "b") ∷ [])) ≡ Some (NotEditable 0)
unfolding checked same_kind same_data
content_on_body = refl

content_on_list : checked false list (body (marked content kind.Ul 1 (item 2 (codes "x") ∷ item 3 (codes "y") ∷ []) ∷ [])) ≡ Some (NotEditable 1)
unfolding checked same_kind same_data
content_on_list = refl

-- a list in a cell of a table
list_in_cell : checked false (body (node kind.Table 1 (node kind.Tbody 2 (node kind.Tr 3 (node kind.Td 4 (node kind.Ul 5 [] ∷ []) ∷ []) ∷ []) ∷ []) ∷ []))
    (body (node kind.Table 1 (node kind.Tbody 2 (node kind.Tr 3 (node kind.Td 4 (marked children kind.Ul 5 [] ∷ []) ∷ []) ∷ []) ∷ []) ∷ [])) ≡ Some (NotEditable 5)
unfolding checked same_kind same_data
list_in_cell = refl

on_new_list : checked false two_lines
    (open_body (para 1 (codes "a") ∷ marked children kind.Ul 0 (item 0 (codes "w") ∷ []) ∷ para 2 (codes "b") ∷ [])) ≡ Some (NotEditable 0)
unfolding checked same_kind same_data
on_new_list = refl

on_group : checked false mixed
    (open_body (marked children kind.Group 3 (text_span (codes "g") ∷ []) ∷ [])) ≡ Some (InTemplate 3)
unfolding checked same_kind same_data
on_group = refl

-- ---- kept nodes inside new ones, which the check of the content refuses

-- with the kept parent that it had nothing is refused here, also where it is marked
block_in_new_block : checked false two_lines (open_body (node kind.Table 0 (para 1 (codes "a") ∷ []) ∷ para 2 (codes "b") ∷ [])) ≡ None
unfolding checked same_kind same_data
block_in_new_block = refl

marked_list_in_new_list : checked false list (open_body (node kind.Ul 0 (node kind.Li 0 (marked children kind.Ul 1 (item 3 (codes "y") ∷ []) ∷ []) ∷ []) ∷ [])) ≡ None
unfolding checked same_kind same_data
marked_list_in_new_list = refl

-- it is as it was
changed_in_new_block : checked false two_lines (open_body (node kind.Table 0 (para 1 (codes "x") ∷ []) ∷ para 2 (codes "b") ∷ [])) ≡ Some (UnmarkedChange 1)
unfolding checked same_kind same_data
changed_in_new_block = refl

-- and with another kept parent it is moved
item_in_new_list : checked false list
    (open_body (marked children kind.Ul 1 (item 2 (codes "x") ∷ []) ∷ node kind.Ul 0 (item 3 (codes "y") ∷ []) ∷ [])) ≡ Some (Moved 3)
unfolding checked same_kind same_data
item_in_new_list = refl

bold_in_new_block : checked false (body (node kind.Para 1 (node kind.Bold 2 [] ∷ []) ∷ []))
    (open_body (marked content kind.Para 1 [] ∷ node kind.Para 0 (node kind.Bold 2 [] ∷ []) ∷ [])) ≡ Some (Moved 2)
unfolding checked same_kind same_data
bold_in_new_block = refl

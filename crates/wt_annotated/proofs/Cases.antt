-- Worked cases of the definitions, each computed: the nodes that are reached with their numbers and ranges, and the parts of groups.
use Rattle.std.proofs.Common.{◌≡◌, ℕ, List, [], ◌∷◌, Option, Some, None, map, refl}
use Rattle.std.specs.Prelude.{codes, false, true}
use Rattle.wt_tree.specs.declared.kind.Kind.{Kind}
use Rattle.wt_tree.specs.declared.kind.Kind.TheVariants as kind
use Rattle.wt_tree.specs.declared.kind.Ranges.{Ranges}
use Rattle.wt_tree.specs.declared.node.DataMw.{DataMw}
use Rattle.wt_tree.specs.declared.node.DataMw.TheVariants as mw
use Rattle.wt_tree.specs.declared.node.Part.TheVariants as datum
use Rattle.wt_tree.specs.Tree.{label}
use Rattle.wt_span.specs.declared.form.ItemForm.TheVariants as form
use Rattle.wt_span.specs.Items.{Item, char, whole}
use Rattle.wt_span.specs.Functions.{begins_with, function_of}
use Rattle.wt_span.specs.Origins.{OuterCall}
use Rattle.wt_inline.specs.ItemTree.{plain, ItemTree, inner, leaf, forest, tree_items}
use Rattle.wt_annotated.specs.Labels.{label_at}
use Rattle.wt_call_data.specs.CallData.{call_part}
use Rattle.wt_annotated.specs.GroupData.{group_data}
use Rattle.wt_annotated.specs.GroupParts.{Part, called, between, parts}
use Rattle.wt_annotated.specs.GroupWord.{argument_word, group_word, transclusion_word}
use Rattle.wt_annotated.specs.Annotated.{annotated}
use Rattle.wt_annotated.specs.Reached.{reached}

abbrev page : List ℕ → List Item
page bs = map (char None) bs

abbrev given : ℕ → List ℕ → List Item
given k bs = map (char (Some k)) bs

abbrev call : List ℕ → OuterCall
call bs = record { start = 0; source = bs; argument = false; parts = []; equals = []; href = None }

abbrev node : Kind → List Item → List ItemTree → List Item → ItemTree
node k opening ts closing = inner (plain k) opening (forest ts) closing

abbrev body : List ItemTree → ItemTree
body ts = node kind.Body [] ts []

abbrev para : List ItemTree → ItemTree
para ts = node kind.Para [] ts []

abbrev text : List Item → ItemTree
text own = leaf (plain kind.Text) own

abbrev sep : List Item → ItemTree
sep own = leaf (plain kind.Sep) own

abbrev nothing_carried : List Part → Option DataMw
nothing_carried ps = None

abbrev Line : Type 0
Line = ℕ × Kind × Option Ranges

abbrev line : ℕ → Kind → ℕ → ℕ → ℕ → ℕ → Line
line id k s e o c = (id, k, Some (record { start = s; end = e; open_w = o; close_w = c }))

abbrev lines_of : List OuterCall → ItemTree → List Line
lines_of calls t = map (λ u. ((label u).id, (label u).kind, (label u).ranges)) (reached (annotated calls nothing_carried t))

-- X = `b`, page `a {{x}}`
in_text : lines_of (call (codes "{{x}}") ∷ []) (body (para (text (page (codes "a ")) ∷ text (given 0 (codes "b")) ∷ []) ∷ []))
    ≡ line 0 kind.Body 0 7 0 0 ∷ line 1 kind.Para 0 7 0 0 ∷ line 0 kind.Text 0 2 0 0 ∷ line 2 kind.Group 2 7 0 0 ∷ []
unfolding annotated label_at
in_text = refl

-- `{{{{{x}}}}}`: text, an argument, text
argument : lines_of (call (codes "{{{x}}}") ∷ [])
    (body (para (text (page (codes "{{")) ∷ text (given 0 (codes "{{{x}}}")) ∷ text (page (codes "}}")) ∷ []) ∷ []))
    ≡ line 0 kind.Body 0 11 0 0 ∷ line 1 kind.Para 0 11 0 0 ∷ line 0 kind.Text 0 2 0 0 ∷ line 2 kind.Group 2 9 0 0 ∷ line 0 kind.Text 9 11 0 0 ∷ []
unfolding annotated label_at
argument = refl

-- the group's word is that of its first call: an argument, then a call; a call, then an argument
abbrev argument_call : List ℕ → OuterCall
argument_call bs = record (call bs) { argument = true }

argument_first : group_word (group_data (argument_call (codes "{{{x}}}") ∷ call (codes "{{y}}") ∷ []) (called 0 ∷ called 1 ∷ [])) ≡ codes "mw:Param"
unfolding group_data call_part function_of begins_with argument_word
argument_first = refl

call_first : group_word (group_data (call (codes "{{y}}") ∷ argument_call (codes "{{{x}}}") ∷ []) (called 0 ∷ between (codes " ") ∷ called 1 ∷ []))
    ≡ codes "mw:Transclusion"
unfolding group_data call_part function_of begins_with transclusion_word
call_first = refl

-- a call of a parser function is a part of its own, and its word is that of a call of a page
abbrev function_call : List OuterCall
function_call = call (codes "{{#if:x|y}}") ∷ []

function_first : group_word (group_data function_call (called 0 ∷ [])) ≡ codes "mw:Transclusion"
unfolding group_data call_part function_of begins_with transclusion_word
function_first = refl

function_data : group_data function_call (called 0 ∷ []) ≡ Some (mw.Parts (datum.Function (codes "if") [] [] 0 ∷ []))
unfolding group_data call_part function_of begins_with
function_data = refl

-- a call alone, of a page that is absent
alone : lines_of (call (codes "{{m}}") ∷ []) (body (para (text (given 0 (codes "[[:Template:M]]")) ∷ []) ∷ []))
    ≡ line 0 kind.Body 0 5 0 0 ∷ line 1 kind.Group 0 5 0 0 ∷ []
unfolding annotated label_at
alone = refl

-- Ts = `{|`, Te = `|}`; lines `{{Ts}}`, `| a`, `{{Te}}`
abbrev table_calls : List OuterCall
table_calls = call (codes "{{Ts}}") ∷ call (codes "{{Te}}") ∷ []

abbrev table_page : ItemTree
table_page = body (node kind.Table (given 0 (codes "{|"))
    (sep (page (codes "\n")) ∷ node kind.Tbody [] (node kind.Tr [] (node kind.Td (page (codes "| ")) (text (page (codes "a")) ∷ []) [] ∷ []) [] ∷ []) []
    ∷ sep (page (codes "\n")) ∷ [])
    (given 1 (codes "|}")) ∷ [])

table : lines_of table_calls table_page ≡ line 0 kind.Body 0 17 0 0 ∷ line 1 kind.Group 0 17 0 0 ∷ []
unfolding annotated label_at
table = refl

table_parts : parts table_calls (tree_items table_page) 0 9 ≡ called 0 ∷ between (codes "\n| a\n") ∷ called 1 ∷ []
table_parts = refl

-- the two calls are numbered, and what stands between them is a text
table_data : group_data table_calls (parts table_calls (tree_items table_page) 0 9)
    ≡ Some (mw.Parts (datum.Template [] [] [] 0 ∷ datum.Literal (codes "\n| a\n") ∷ datum.Template [] [] [] 1 ∷ []))
unfolding group_data call_part function_of begins_with
table_data = refl

-- texts of a cell are joined, and their line breaks at the end are a separator; beside a group they stand by themselves
cell_texts : lines_of [] (body (node kind.Td (page (codes "| ")) (text (page (codes "a\n")) ∷ text (page (codes "\n")) ∷ []) [] ∷ []))
    ≡ line 0 kind.Body 0 5 0 0 ∷ line 1 kind.Td 0 5 2 0 ∷ line 0 kind.Text 2 3 0 0 ∷ line 0 kind.Sep 3 5 0 0 ∷ []
unfolding annotated label_at
cell_texts = refl

cell_group : lines_of (call (codes "{{x}}") ∷ [])
    (body (node kind.Td (page (codes "| ")) (text (page (codes "a")) ∷ text (given 0 (codes "b")) ∷ text (page (codes "\n")) ∷ []) [] ∷ []))
    ≡ line 0 kind.Body 0 9 0 0 ∷ line 1 kind.Td 0 9 2 0 ∷ line 0 kind.Text 2 3 0 0 ∷ line 2 kind.Group 3 8 0 0 ∷ line 0 kind.Sep 8 9 0 0 ∷ []
unfolding annotated label_at
cell_group = refl

-- X = `''`, page `a {{x}} b`
toggle : lines_of (call (codes "{{x}}") ∷ [])
    (body (para (text (page (codes "a ")) ∷ node kind.Italic (given 0 (codes "''")) (text (page (codes " b")) ∷ []) [] ∷ []) ∷ []))
    ≡ line 0 kind.Body 0 9 0 0 ∷ line 1 kind.Para 0 9 0 0 ∷ line 0 kind.Text 0 2 0 0 ∷ line 2 kind.Group 2 9 0 0 ∷ []
unfolding annotated label_at
toggle = refl

-- X = `a` and a line break; page `{{x}}`, an empty line, `b`: the separators of the page stay out of the group
separators : lines_of (call (codes "{{x}}") ∷ [])
    (body (para (text (given 0 (codes "a")) ∷ []) ∷ sep (given 0 (codes "\n")) ∷ sep (page (codes "\n\n")) ∷ para (text (page (codes "b")) ∷ []) ∷ []))
    ≡ line 0 kind.Body 0 8 0 0 ∷ line 1 kind.Group 0 5 0 0 ∷ line 0 kind.Sep 5 7 0 0 ∷ line 2 kind.Para 7 8 0 0 ∷ line 0 kind.Text 7 8 0 0 ∷ []
unfolding annotated label_at
separators = refl

-- two calls in one paragraph
abbrev two_page : ItemTree
two_page = body (para (text (page (codes "a")) ∷ text (given 0 (codes "b")) ∷ text (given 1 (codes "c")) ∷ []) ∷ [])

two_calls : lines_of (call (codes "{{x}}") ∷ call (codes "{{yy}}") ∷ []) two_page
    ≡ line 0 kind.Body 0 12 0 0 ∷ line 1 kind.Para 0 12 0 0 ∷ line 0 kind.Text 0 1 0 0 ∷ line 2 kind.Group 1 6 0 0 ∷ line 3 kind.Group 6 12 0 0 ∷ []
unfolding annotated label_at
two_calls = refl

-- a heading half of which a call gives, and the paragraph behind it from the same call: one group
heading : lines_of (call (codes "{{x}}") ∷ [])
    (body (node (kind.Heading 1) (page (codes "=")) (text (page (codes "a")) ∷ []) (given 0 (codes "=")) ∷ sep (given 0 (codes "\n"))
    ∷ para (text (given 0 (codes "b")) ∷ text (page (codes "c")) ∷ []) ∷ []))
    ≡ line 0 kind.Body 0 8 0 0 ∷ line 1 kind.Group 0 8 0 0 ∷ []
unfolding annotated label_at
heading = refl

-- a call that gives nothing between two paragraphs
empty_call : lines_of (call (codes "{{x}}") ∷ [])
    (body (para (text (page (codes "a")) ∷ []) ∷ sep (page (codes "\n")) ∷ leaf (plain kind.Empty) (whole form.EmptyCall (Some 0) (codes "{{x}}") ∷ [])
    ∷ sep (page (codes "\n")) ∷ para (text (page (codes "b")) ∷ []) ∷ []))
    ≡ line 0 kind.Body 0 9 0 0 ∷ line 1 kind.Para 0 1 0 0 ∷ line 0 kind.Text 0 1 0 0 ∷ line 0 kind.Sep 1 2 0 0 ∷ line 2 kind.Group 2 7 0 0
    ∷ line 0 kind.Sep 7 8 0 0 ∷ line 3 kind.Para 8 9 0 0 ∷ line 0 kind.Text 8 9 0 0 ∷ []
unfolding annotated label_at
empty_call = refl

-- an empty style is a group of no bytes, without parts
empty_style : lines_of [] (body (para (text (page (codes "a")) ∷ node kind.Bold [] [] [] ∷ []) ∷ []))
    ≡ line 0 kind.Body 0 1 0 0 ∷ line 1 kind.Para 0 1 0 0 ∷ line 0 kind.Text 0 1 0 0 ∷ line 2 kind.Group 1 1 0 0 ∷ []
unfolding annotated label_at
empty_style = refl

-- `''a'''b''`: the bold that the italic closes begins again behind it, where nothing is left of the line
abbrev reopened_page : ItemTree
reopened_page = body (para (node kind.Italic (page (codes "''"))
    (text (page (codes "a")) ∷ node kind.Bold (page (codes "'''")) (text (page (codes "b")) ∷ []) [] ∷ []) (page (codes "''"))
    ∷ node kind.Bold [] [] [] ∷ []) ∷ [])

reopened_style : lines_of [] reopened_page
    ≡ line 0 kind.Body 0 9 0 0 ∷ line 1 kind.Para 0 9 0 0 ∷ line 2 kind.Italic 0 9 2 2 ∷ line 0 kind.Text 2 3 0 0 ∷ line 3 kind.Bold 3 7 3 0
    ∷ line 0 kind.Text 6 7 0 0 ∷ line 4 kind.Group 9 9 0 0 ∷ []
unfolding annotated label_at
reopened_style = refl

reopened_data : group_data [] (parts [] (tree_items reopened_page) 9 0) ≡ Some (mw.Parts [])
unfolding group_data
reopened_data = refl

reopened_word : group_word (group_data [] (parts [] (tree_items reopened_page) 9 0)) ≡ codes "mw:Transclusion"
unfolding group_data transclusion_word
reopened_word = refl

-- an entity within the `nowiki` of the page is a node, and a `nowiki` of a call is a group
raw_page : lines_of [] (body (node kind.Nowiki (page (codes "<nowiki>"))
    (text (page (codes "a")) ∷ leaf (plain kind.Entity) (whole (form.Entity 60) None (codes "&lt;") ∷ []) ∷ []) (page (codes "</nowiki>")) ∷ []))
    ≡ line 0 kind.Body 0 22 0 0 ∷ line 1 kind.Nowiki 0 22 8 9 ∷ line 0 kind.Text 8 9 0 0 ∷ line 2 kind.Entity 9 13 4 0 ∷ []
unfolding annotated label_at
raw_page = refl

raw_call : lines_of (call (codes "{{x}}") ∷ [])
    (body (para (text (page (codes "a")) ∷ node kind.Nowiki (given 0 (codes "<nowiki>")) (text (given 0 (codes "b")) ∷ []) (given 0 (codes "</nowiki>"))
    ∷ []) ∷ []))
    ≡ line 0 kind.Body 0 6 0 0 ∷ line 1 kind.Para 0 6 0 0 ∷ line 0 kind.Text 0 1 0 0 ∷ line 2 kind.Group 1 6 0 0 ∷ []
unfolding annotated label_at
raw_call = refl

-- a `nowiki` that begins in a call and ends on the page is one group with what stands in it
raw_across : lines_of (call (codes "{{x}}") ∷ [])
    (body (para (text (page (codes "a")) ∷ node kind.Nowiki (given 0 (codes "<nowiki>")) (text (given 0 (codes "b")) ∷ []) (page (codes "</nowiki>"))
    ∷ []) ∷ []))
    ≡ line 0 kind.Body 0 15 0 0 ∷ line 1 kind.Para 0 15 0 0 ∷ line 0 kind.Text 0 1 0 0 ∷ line 2 kind.Group 1 15 0 0 ∷ []
unfolding annotated label_at
raw_across = refl

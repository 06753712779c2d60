-- Worked cases of trees that are sent, by computing: what is sent outside the marked blocks besides the page's elements counts for nothing.
use Rattle.std.proofs.Common.{◌≡◌, ℕ, Bool, true, None, Some, List, [], ◌∷◌, refl}
use Rattle.std.specs.Prelude.{codes}
use Rattle.wt_span.specs.declared.tag_name.TagName.TheVariants as tag
use Rattle.wt_tree.specs.declared.kind.Kind.TheVariants as kind
use Rattle.wt_tree.specs.declared.kind.Mark.TheVariants as marks
use Rattle.wt_tree.specs.Opened.{without_sections}
use Rattle.wt_tree.specs.Plain.{text as shown, element, ended, along}
use Rattle.wt_tree.specs.Tree.{Tree, tree, trees, label}
use Rattle.wt_link_spelling.specs.Spelling.{children_of}
use Rattle.wt_slices.specs.Changes.{Pair, marked}
use Rattle.wt_typed_blocks.specs.Edited.{no_pieces, gone, written, kept, no_edits, more_edits, round, Edits}
use Rattle.wt_called_edit_laws.specs.SentAsIs.{as_node, as_sent}
use Rattle.wt_inside_laws.specs.AsSent.{edit_for, as_it_is, edits_of, paths_of, node_at}
use Rattle.wt_inside_laws.specs.RetypedPieces.{pieces_of, as_own}
use Rattle.wt_inside_laws.proofs.InsidesCases.{text, leaf, inner, group}

abbrev same : Tree → Tree → Bool
same t u = true

abbrev separator : List ℕ → Tree
separator bs = tree (record (label (text bs)) { kind = kind.Sep }) (trees [])

abbrev with_mark : Tree → Tree
with_mark t = tree (record (label t) { mark = marks.Content }) (children_of t)

abbrev body : List Tree → Tree
body ts = inner kind.Body 0 [] ts []

-- `a`, an empty line, a comment, and a table with `b` in a cell
abbrev first : Tree
first = inner kind.Para 1 [] (text (codes "a") ∷ []) []

abbrev b_in_cell : Tree
b_in_cell = inner kind.Para 6 [] (text (codes "b") ∷ []) []

abbrev cell : List Tree → Tree
cell ts = inner kind.Td 5 (codes "|") ts []

abbrev table : Tree → Tree
table c = inner kind.Table 3 (codes "{|") (inner kind.Tr 4 [] (c ∷ []) [] ∷ []) (codes "|}")

abbrev page : Tree
page = body (first ∷ separator (codes "\n\n") ∷ leaf kind.Comment 2 (codes "<!-- c -->") ∷ separator (codes "\n") ∷ table (cell (separator (codes "\n") ∷ b_in_cell ∷ [])) ∷ [])

-- `c` in place of `b`
abbrev c_in_cell : Tree
c_in_cell = with_mark (inner kind.Para 6 [] (text (codes "c") ∷ []) [])

abbrev block : Pair
block = record { old = b_in_cell; new = c_in_cell }

-- what is sent of the page's nodes
abbrev all_else : Edits
all_else =
    more_edits (as_it_is first)
    (more_edits (as_it_is (separator (codes "\n\n")))
    (more_edits (as_it_is (leaf kind.Comment 2 (codes "<!-- c -->")))
    (more_edits (as_it_is (separator (codes "\n")))
    (more_edits (round (label (table b_in_cell)) (label (table b_in_cell))
    (more_edits (round (label (inner kind.Tr 4 [] [] [])) (label (inner kind.Tr 4 [] [] []))
    (more_edits (round (label (cell [])) (label (cell []))
    (more_edits (as_it_is (separator (codes "\n"))) (more_edits (edit_for block) no_edits))) no_edits)) no_edits))
    no_edits))))

-- sent without the separators between blocks and without the comment
abbrev bare : Tree
bare = body (first ∷ table (cell (c_in_cell ∷ [])) ∷ [])

separators_missing : edits_of page bare ≡ all_else
separators_missing = refl

-- sent with another comment, with other white space, and with a new skip behind the table
abbrev fuller : Tree
fuller = body (separator (codes " ") ∷ first ∷ leaf kind.Comment 2 [] ∷ separator (codes "\n\n\n") ∷ table (cell (c_in_cell ∷ separator (codes "\n") ∷ [])) ∷ leaf kind.Skip 0 [] ∷ [])

others_sent : edits_of page fuller ≡ all_else
others_sent = refl

-- the block is at this path
at_its_path : paths_of (edits_of page bare) ≡ (4 ∷ 0 ∷ 0 ∷ 1 ∷ []) ∷ []
at_its_path = refl

there_it_is : node_at (4 ∷ 0 ∷ 0 ∷ 1 ∷ []) page ≡ Some b_in_cell
there_it_is = refl

-- and is what is marked
one_marked : marked page bare ≡ block ∷ []
one_marked = refl

-- a heading in a section of the page, sent without the section
abbrev heading : Tree
heading = inner (kind.Heading 2) 1 (codes "==") (text (codes " h ") ∷ []) (codes "==")

abbrev in_sections : Tree
in_sections = body (inner (kind.Section 1) 0 [] (heading ∷ separator (codes "\n") ∷ []) [] ∷ [])

abbrev new_heading : Tree
new_heading = with_mark (inner (kind.Heading 2) 1 [] (text (codes "g") ∷ []) [])

section_opened : edits_of (without_sections in_sections) (body (new_heading ∷ []))
    ≡ more_edits (edit_for (record { old = heading; new = new_heading })) (more_edits (as_it_is (separator (codes "\n"))) no_edits)
section_opened = refl

-- a page with a group alone, and one in a paragraph, in which something else is typed beside it
abbrev table_given : Tree
table_given = group 1 (codes "{{t}}") (inner kind.Table 0 [] (inner kind.Tr 0 [] [] [] ∷ []) [] ∷ [])

abbrev word_given : Tree
word_given = group 3 (codes "{{w}}") (text (codes "w") ∷ [])

abbrev beside_it : Tree
beside_it = inner kind.Para 2 [] (text (codes "a ") ∷ word_given ∷ []) []

-- they are sent by the elements that are written for them
abbrev table_sent : Tree
table_sent = group 1 [] (inner kind.Table 0 [] (inner kind.Tr 0 [] [] [] ∷ []) [] ∷ [])

abbrev typed_beside_it : Tree
typed_beside_it = with_mark (inner kind.Para 2 [] (text (codes "b ") ∷ group 3 [] (inner (kind.Tag tag.Span) 0 [] (text (codes "w") ∷ []) [] ∷ []) ∷ []) [])

groups_stay : edits_of (body (table_given ∷ separator (codes "\n") ∷ beside_it ∷ [])) (body (table_sent ∷ typed_beside_it ∷ []))
    ≡ more_edits (as_it_is table_given)
    (more_edits (as_it_is (separator (codes "\n"))) (more_edits (edit_for (record { old = beside_it; new = typed_beside_it })) no_edits))
groups_stay = refl

-- and so are the page's own
word_stays : as_own (pieces_of (children_of beside_it) (children_of typed_beside_it))
    ≡ gone (text (codes "a ")) (written (label (text (codes "b "))) (codes "b ") (kept word_given (as_sent word_given) no_pieces))
word_stays = refl

word_sent : children_of (as_sent word_given) ≡ trees (as_node (element (record { kind = kind.Tag tag.Span; attrs = []; mw = None }) (along (shown (codes "w")) ended)) ∷ [])
word_sent = refl

-- where nothing is marked, all stays
nothing_marked : edits_of page (body (first ∷ table (cell (b_in_cell ∷ [])) ∷ []))
    ≡ more_edits (as_it_is first)
    (more_edits (as_it_is (separator (codes "\n\n")))
    (more_edits (as_it_is (leaf kind.Comment 2 (codes "<!-- c -->")))
    (more_edits (as_it_is (separator (codes "\n"))) (more_edits (as_it_is (table (cell (separator (codes "\n") ∷ b_in_cell ∷ [])))) no_edits))))
nothing_marked = refl

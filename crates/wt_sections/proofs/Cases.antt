-- Worked cases of sections.
use Rattle.std.proofs.Common.{◌≡◌, ℕ, List, [], ◌∷◌, refl}
use Rattle.std.specs.Prelude.{Some, None}
use Rattle.wt_tree.specs.declared.kind.Kind.{Kind}
use Rattle.wt_tree.specs.declared.kind.Kind.TheVariants as kind
use Rattle.wt_tree.specs.declared.kind.Ranges.{Ranges}
use Rattle.wt_tree.specs.Kinds.{spelling}
use Rattle.wt_tree.specs.Opened.{opened}
use Rattle.wt_tree.specs.Leaves.{leaf_label}
use Rattle.wt_tree.specs.Tree.{Tree, tree, Trees, none, trees}
use Rattle.wt_sections.specs.Sections.{section_label, gathered}

abbrev place : ℕ → ℕ → Ranges
place s e = record { start = s; end = e; open_w = 0; close_w = 0 }

abbrev child : Kind → ℕ → ℕ → Tree
child k s e = tree (leaf_label k (Some (place s e)) [] []) none

abbrev para : ℕ → ℕ → Tree
para s e = child kind.Para s e

abbrev sep : ℕ → ℕ → Tree
sep s e = child kind.Sep s e

abbrev heading : ℕ → ℕ → ℕ → Tree
heading n s e = child (kind.Heading n) s e

abbrev section : ℕ → ℕ → ℕ → List Tree → Tree
section n s e ts = tree (section_label n (Some (place s e))) (trees ts)

-- The lines `a`, `== B ==`, `=== C ===` and `== D ==`: the lead, B with C inside it, and D.
abbrev four_lines : List Tree
four_lines = para 0 1 ∷ sep 1 2 ∷ heading 2 2 9 ∷ sep 9 10 ∷ heading 3 10 19 ∷ sep 19 20 ∷ heading 2 20 27 ∷ []

abbrev their_sections : List Tree
their_sections =
    section 0 0 2 (para 0 1 ∷ sep 1 2 ∷ [])
    ∷ section 1 2 20 (heading 2 2 9 ∷ sep 9 10 ∷ section 2 10 20 (heading 3 10 19 ∷ sep 19 20 ∷ []) ∷ [])
    ∷ section 3 20 27 (heading 2 20 27 ∷ []) ∷ []

four_sections : gathered (trees four_lines) ≡ trees their_sections
unfolding spelling
four_sections = refl

opened_again : opened (trees their_sections) ≡ trees four_lines
opened_again = refl

-- an empty page has no section
nothing : gathered none ≡ none
nothing = refl

-- line breaks alone before the first heading are a lead
breaks_before : gathered (trees (sep 0 2 ∷ heading 2 2 9 ∷ [])) ≡ trees (section 0 0 2 (sep 0 2 ∷ []) ∷ section 1 2 9 (heading 2 2 9 ∷ []) ∷ [])
unfolding spelling
breaks_before = refl

-- a page without headings is a lead, and one that begins with a heading has none
no_heading : gathered (trees (para 0 1 ∷ [])) ≡ trees (section 0 0 1 (para 0 1 ∷ []) ∷ [])
unfolding spelling
no_heading = refl

heading_first : gathered (trees (heading 3 0 9 ∷ para 10 11 ∷ [])) ≡ trees (section 1 0 11 (heading 3 0 9 ∷ para 10 11 ∷ []) ∷ [])
unfolding spelling
heading_first = refl

-- a level may be left out: 2, 4, 3, 1
levels_left_out : gathered (trees (heading 2 0 1 ∷ heading 4 1 2 ∷ heading 3 2 3 ∷ heading 1 3 4 ∷ []))
    ≡ trees (section 1 0 3 (heading 2 0 1 ∷ section 2 1 2 (heading 4 1 2 ∷ []) ∷ section 3 2 3 (heading 3 2 3 ∷ []) ∷ [])
    ∷ section 4 3 4 (heading 1 3 4 ∷ []) ∷ [])
unfolding spelling
levels_left_out = refl

-- a group is no heading, whatever it shows
group_stays : gathered (trees (child kind.Group 0 5 ∷ heading 6 6 9 ∷ child kind.Group 9 12 ∷ []))
    ≡ trees (section 0 0 5 (child kind.Group 0 5 ∷ []) ∷ section 1 6 12 (heading 6 6 9 ∷ child kind.Group 9 12 ∷ []) ∷ [])
unfolding spelling
group_stays = refl

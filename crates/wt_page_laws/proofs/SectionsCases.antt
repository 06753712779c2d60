-- Worked cases: sections as they stand, and arrangements that the laws refuse.
use Rattle.std.proofs.Common.{◌≡◌, ℕ, List, [], ◌∷◌, None, inl, inr, refl, arith}
use Rattle.wt_tree.specs.declared.kind.Kind.{Kind}
use Rattle.wt_tree.specs.declared.kind.Kind.TheVariants as kind
use Rattle.wt_tree.specs.Kinds.{spelling}
use Rattle.wt_tree.specs.Leaves.{leaf_label}
use Rattle.wt_tree.specs.Tree.{Tree, tree, none, trees}
use Rattle.wt_sections.specs.Sections.{section_label, gathered}
use Rattle.wt_page_laws.specs.Levels.{IsOfLevel, IsHeaded, AllReachUp, HoldsDeeper}
use Rattle.wt_page_laws.specs.Reaches.{reaches}

abbrev child : Kind → Tree
child k = tree (leaf_label k None [] []) none

abbrev heading : ℕ → Tree
heading n = child (kind.Heading n)

abbrev section : ℕ → List Tree → Tree
section number ts = tree (section_label number None) (trees ts)

-- headings of the levels 2, 3, 3, 1 behind a paragraph
their_sections : gathered (trees (child kind.Para ∷ heading 2 ∷ heading 3 ∷ heading 3 ∷ heading 1 ∷ []))
    ≡ trees (section 0 (child kind.Para ∷ [])
    ∷ section 1 (heading 2 ∷ section 2 (heading 3 ∷ []) ∷ section 3 (heading 3 ∷ []) ∷ [])
    ∷ section 4 (heading 1 ∷ []) ∷ [])
unfolding spelling
their_sections = refl

-- what each of their four headings reaches to
their_reaches : reaches (trees (child kind.Para ∷ heading 2 ∷ heading 3 ∷ heading 3 ∷ heading 1 ∷ []))
    ≡ trees (heading 2 ∷ heading 3 ∷ heading 3 ∷ []) ∷ trees (heading 3 ∷ []) ∷ trees (heading 3 ∷ []) ∷ trees (heading 1 ∷ []) ∷ []
unfolding spelling
their_reaches = refl

first_section : IsOfLevel 2 (section 1 (heading 2 ∷ section 2 (heading 3 ∷ []) ∷ section 3 (heading 3 ∷ []) ∷ []))
first_section = (1, omega (arith), refl, refl)

-- ---- refused

-- a section of the same level inside, as where headings of one level don't part sections
same_level_inside : HoldsDeeper (section 1 (heading 2 ∷ section 2 (heading 2 ∷ []) ∷ [])) → ⊥
same_level_inside h =
    let found = (h 2 (1, omega (arith), refl, refl)).0 in
    let same : 2 ≡ found.0 = cc found.1.3 in
    omega (arith, same, found.2)

-- a section of a smaller level inside, as where a section is never closed
smaller_level_inside : HoldsDeeper (section 1 (heading 3 ∷ section 2 (heading 2 ∷ []) ∷ [])) → ⊥
smaller_level_inside h =
    let found = (h 3 (1, omega (arith), refl, refl)).0 in
    let same : 2 ≡ found.0 = cc found.1.3 in
    omega (arith, same, found.2)

-- a deeper section side by side with the one that it belongs into, as where each heading closes all sections
deeper_behind : AllReachUp (trees (section 1 (heading 2 ∷ []) ∷ section 2 (heading 3 ∷ []) ∷ [])) → ⊥
deeper_behind h =
    let found = h.0 2 (1, omega (arith), refl, refl) in
    let same : 3 ≡ found.0 = cc found.1.3 in
    omega (arith, same, found.2)

-- what stands behind a section and in none
paragraph_behind : AllReachUp (trees (section 1 (heading 2 ∷ []) ∷ child kind.Para ∷ [])) → ⊥
paragraph_behind h = (h.0 2 (1, omega (arith), refl, refl)).1

-- a heading that opens no section
second_heading : IsHeaded (section 1 (heading 2 ∷ heading 3 ∷ [])) → ⊥
second_heading (inl h) = absurd (cc h.0)
second_heading (inr h) = h.2.0 3 refl

-- a section that begins with no heading, and has a number
number_without_heading : IsHeaded (section 1 (child kind.Para ∷ [])) → ⊥
number_without_heading (inl h) = absurd (cc h.0)
number_without_heading (inr h) = absurd (cc h.1.3)

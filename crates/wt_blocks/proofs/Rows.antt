-- Worked cases of the definitions, each by computing.
use Rattle.std.proofs.Common.{◌≡◌, ℕ, None, List, [], ◌∷◌, ◌++◌, length, map, refl}
use Rattle.std.specs.Prelude.{codes, replicate}
use Rattle.wt_span.specs.declared.form.ItemForm.TheVariants as form
use Rattle.wt_span.specs.Items.{Item, char, whole, sources}
use Rattle.wt_blocks.specs.ListTree.{forest}
use Rattle.wt_blocks.specs.Nesting.{nested}
use Rattle.wt_blocks.specs.Starts.{Row, rows_of_all}
use Rattle.wt_blocks.specs.Headings.{level, opening, closing}

-- ---- lists: the depth, the sign and the line of each node; lists stand at even depths, items at odd ones

abbrev shown : List (List ℕ) → List (ℕ × ℕ × ℕ)
shown ps = map (λ (r : Row). (r.depth, r.sign, r.line)) (rows_of_all 0 (forest (nested ps)))

-- a sign changes in an inner list, and the outer item goes on
inner_change : shown (codes "**" ∷ codes "*#" ∷ codes "*" ∷ []) ≡ (0, 42, 0) ∷ (1, 42, 0) ∷ (2, 42, 0) ∷ (3, 42, 0) ∷ (2, 35, 1) ∷ (3, 35, 1) ∷ (1, 42, 2) ∷ []
unfolding nested
inner_change = refl

-- `;` and `:` are of one list, and each item has its own sign
definitions : shown (codes ";" ∷ codes ":" ∷ codes ";:" ∷ codes ":;" ∷ []) ≡ (0, 59, 0) ∷ (1, 59, 0) ∷ (1, 58, 1) ∷ (2, 58, 2) ∷ (3, 58, 2) ∷ (3, 59, 3) ∷ []
unfolding nested
definitions = refl

-- from one sign to four: three lists begin in the item; back to two: an item of the second list
jump : shown (codes "*" ∷ codes "****" ∷ codes "**" ∷ codes "#" ∷ [])
    ≡ (0, 42, 0) ∷ (1, 42, 0) ∷ (2, 42, 1) ∷ (3, 42, 1) ∷ (4, 42, 1) ∷ (5, 42, 1) ∷ (6, 42, 1) ∷ (7, 42, 1) ∷ (3, 42, 2) ∷ (0, 35, 3) ∷ (1, 35, 3) ∷ []
unfolding nested
jump = refl

-- 32 signs are 32 lists
deepest : length (rows_of_all 0 (forest (nested (replicate 32 42 ∷ replicate 32 42 ∷ [])))) ≡ 65
unfolding nested
deepest = refl

no_lines : nested [] ≡ []
unfolding nested
no_lines = refl

-- ---- headings: the level, and the bytes of the delimiters

abbrev parts : List Item → ℕ × ℕ × ℕ
parts xs = (level xs, length (sources (opening xs)), length (sources (closing xs)))

-- of `=` alone the level is half of all but one; the smaller run counts, and at most six
levels : map (λ bs. parts (map (char None) bs)) (codes "===" ∷ codes "====" ∷ codes "=====" ∷ codes "=== x ==" ∷ codes "==============" ∷ codes "= =" ∷ codes "======= x =======" ∷ [])
    ≡ (1, 1, 1) ∷ (1, 1, 1) ∷ (2, 2, 2) ∷ (2, 2, 3) ∷ (6, 6, 6) ∷ (1, 2, 1) ∷ (6, 6, 6) ∷ []
unfolding level opening closing
levels = refl

-- a comment, and a nowiki
abbrev remark : Item
remark = whole form.Comment None (codes "<!-- c -->")

abbrev atom : Item
atom = whole form.Nowiki None (codes "<nowiki/>")

-- a mark behind the heading counts by its source, and one within parts a run
marks : parts (map (char None) (codes "==a ==") ++ remark ∷ map (char None) (codes " "))
    ∷ parts (char None 61 ∷ remark ∷ map (char None) (codes "="))
    ∷ parts (char None 61 ∷ atom ∷ map (char None) (codes "=")) ∷ []
    ≡ (2, 2, 14) ∷ (1, 1, 1) ∷ (1, 1, 1) ∷ []
unfolding level opening closing
marks = refl

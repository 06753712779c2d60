-- How many numbers blocks of lines that are read one by one have: one for the block, and of preformatted text one for the space of each
-- line.
use Rattle.std.proofs.Common.{◌≡◌, ◌+◌, ◌≤◌, List, [], ◌∷◌, ◌++◌, length, take, drop, refl, ap, arith, length-append, length-drop}
use Rattle.std.specs.List.{flat_map, AllByRecursion}
use Rattle.wt_tree.specs.declared.kind.Kind.TheVariants as kind
use Rattle.wt_span.specs.Items.{Item}
use Rattle.wt_blocks.specs.Headings.{opening, inside, closing}
use Rattle.wt_blocks.proofs.HeadingLaws.{joined as heading_joined}
use Rattle.wt_inline.specs.declared.loose.Loose.TheVariants.{Text}
use Rattle.wt_inline.specs.ItemTree.{plain, ItemTree}
use Rattle.wt_inline.specs.Parts.{Part, node, parts}
use Rattle.wt_context.specs.Line.{line_parts}
use Rattle.wt_page.specs.Headings.{heading}
use Rattle.wt_page.specs.Rows.{Row, first_lead, last_ending}
use Rattle.wt_page.specs.Stretches.{gap, tree_block}
use Rattle.wt_page.specs.Texts.{with_separators, later_parts, later_line, para_parts, para, skipped, later_pre, pre_opening, pre_parts, pre, rule}
use Rattle.wt_page.specs.Body.{rule_row, heading_row}
use Rattle.wt_annotated.specs.Counted.{numbered}
use Rattle.wt_page_round_trip.specs.Numbers.{makes_all}
use Rattle.wt_page_round_trip.proofs.Makes.{makes_append, makes_cut, counts, counts_append, parts_count}
use Rattle.wt_page_round_trip.proofs.ContextCounts.{node_count, leaf_count, line_count, line_trees_count}
use Rattle.wt_page_round_trip.proofs.Allowances.{allowed, allowed_all, IsFit, AreFit, row_makes, row_length, row_allows}
use Rattle.wt_page_round_trip.proofs.StretchCounts.{total, total_append, of_gap, of_tree}

around_count : (t : ItemTree) (rs : List Row) → total (with_separators t rs) ≤ makes_all (first_lead rs) + numbered t + makes_all (last_ending rs)
around_count t rs =
    omega (
      arith,
      of_gap (first_lead rs) (tree_block t ∷ gap (last_ending rs) ∷ []),
      of_tree t (gap (last_ending rs) ∷ []),
      of_gap (last_ending rs) [],
    )

-- ---- later lines

-- what ends the last of rows, behind one with this end
abbrev final : List Item → List Row → List Item
final b [] = b
final b (r ∷ rs) = final r.ending rs

final_is : (r : Row) (rs : List Row) → last_ending (r ∷ rs) ≡ final r.ending rs
final_is r [] = refl
final_is r (s ∷ rs) = final_is s rs

-- lines that are read so have no more numbers than their rows allow
abbrev AreFew : (Row → List Part) → List Row → Type 0
AreFew read rs = AllByRecursion (λ r. counts (read r) + makes_all r.ending ≤ allowed r) rs

later_count : (read : Row → List Part) (b : List Item) (rs : List Row) → AreFew read rs
    → counts (later_parts read b rs) + makes_all (final b rs) ≤ makes_all b + allowed_all rs
later_count read b [] h = omega arith
later_count read b (r ∷ rs) h =
    omega (
      arith,
      counts_append (parts Text b) (read r ++ later_parts read r.ending rs),
      parts_count Text b,
      counts_append (read r) (later_parts read r.ending rs),
      h.0,
      later_count read r.ending rs h.1,
    )

-- ---- paragraphs

line_few : (r : Row) → IsFit r → counts (later_line r) + makes_all r.ending ≤ allowed r
line_few r h =
    omega (
      arith,
      line_count (r.lead ++ r.items),
      makes_append r.lead r.items,
      length-append r.lead r.items,
      row_makes r,
      row_length r,
      row_allows r h,
    )

lines_few : (rs : List Row) → AreFit rs → AreFew later_line rs
lines_few [] h = tt
lines_few (r ∷ rs) h = (line_few r h.0, lines_few rs h.1)

para_tree : (rs : List Row) → numbered (para rs) ≤ 1 + counts (para_parts rs)
unfolding para
para_tree rs = node_count (plain kind.Para) [] [] (para_parts rs)

pub para_count : (r : Row) (rs : List Row) → AreFit (r ∷ rs) → total (with_separators (para (r ∷ rs)) (r ∷ rs)) ≤ allowed_all (r ∷ rs)
para_count r rs h =
    omega (
      arith,
      around_count (para (r ∷ rs)) (r ∷ rs),
      para_tree (r ∷ rs),
      counts_append (line_parts r.items) (later_parts later_line r.ending rs),
      line_count r.items,
      later_count later_line r.ending rs (lines_few rs h.1),
      ap makes_all (final_is r rs),
      row_makes r,
      row_length r,
      row_allows r h.0,
    )

-- ---- preformatted text

rest_count : (xs : List Item) → counts (line_parts (drop 1 xs)) ≤ length xs + makes_all xs
rest_count xs = omega (arith, line_count (drop 1 xs), length-drop 1 xs, makes_cut 1 xs)

pre_few : (r : Row) → IsFit r → counts (later_pre r) + makes_all r.ending ≤ allowed r
pre_few r h =
    let rest = line_parts (drop 1 r.items) in
    omega (
      arith,
      counts_append (parts Text r.lead) (node (skipped r) ∷ rest),
      parts_count Text r.lead,
      leaf_count (plain kind.Skip) (take 1 r.items),
      rest_count r.items,
      row_makes r,
      row_length r,
      row_allows r h,
    )

pres_few : (rs : List Row) → AreFit rs → AreFew later_pre rs
pres_few [] h = tt
pres_few (r ∷ rs) h = (pre_few r h.0, pres_few rs h.1)

pre_tree : (rs : List Row) → numbered (pre rs) ≤ 1 + counts (pre_parts rs)
unfolding pre
pre_tree rs = node_count (plain kind.Pre) (pre_opening rs) [] (pre_parts rs)

pub pre_count : (r : Row) (rs : List Row) → AreFit (r ∷ rs) → total (with_separators (pre (r ∷ rs)) (r ∷ rs)) ≤ allowed_all (r ∷ rs)
pre_count r rs h =
    omega (
      arith,
      around_count (pre (r ∷ rs)) (r ∷ rs),
      pre_tree (r ∷ rs),
      counts_append (line_parts (drop 1 r.items)) (later_parts later_pre r.ending rs),
      rest_count r.items,
      later_count later_pre r.ending rs (pres_few rs h.1),
      ap makes_all (final_is r rs),
      row_makes r,
      row_length r,
      row_allows r h.0,
    )

-- ---- headings and rules

heading_few : (xs : List Item) → numbered (heading xs) ≤ 1 + length xs + makes_all xs
unfolding heading
heading_few xs =
    let all : makes_all (opening xs ++ (inside xs ++ closing xs)) ≡ makes_all xs = ap makes_all (heading_joined xs) in
    let whole : length (opening xs ++ (inside xs ++ closing xs)) ≡ length xs = ap length (heading_joined xs) in
    omega (
      arith,
      line_trees_count (inside xs),
      makes_append (opening xs) (inside xs ++ closing xs),
      makes_append (inside xs) (closing xs),
      length-append (opening xs) (inside xs ++ closing xs),
      length-append (inside xs) (closing xs),
      all,
      whole,
    )

heading_row_count : (r : Row) → IsFit r → total (heading_row r) ≤ allowed r
heading_row_count r h = omega (arith, around_count (heading r.items) (r ∷ []), heading_few r.items, row_makes r, row_length r, row_allows r h)

pub headings_count : (rs : List Row) → AreFit rs → total (flat_map heading_row rs) ≤ allowed_all rs
headings_count [] h = omega arith
headings_count (r ∷ rs) h =
    omega (arith, total_append (heading_row r) (flat_map heading_row rs), heading_row_count r h.0, headings_count rs h.1)

rule_few : (xs : List Item) → numbered (rule xs) ≤ 1
unfolding rule
rule_few xs = leaf_count (plain kind.Rule) xs

rule_row_count : (r : Row) → IsFit r → total (rule_row r) ≤ allowed r
rule_row_count r h = omega (arith, around_count (rule r.items) (r ∷ []), rule_few r.items, row_makes r, row_allows r h)

pub rules_count : (rs : List Row) → AreFit rs → total (flat_map rule_row rs) ≤ allowed_all rs
rules_count [] h = omega arith
rules_count (r ∷ rs) h = omega (arith, total_append (rule_row r) (flat_map rule_row rs), rule_row_count r h.0, rules_count rs h.1)

-- With its sections a tree has as many groups as without.
use Rattle.std.proofs.Common.{◌≡◌, ℕ, ◌+◌, arith, ap}
use Rattle.std.specs.Prelude.{if◌then◌else◌}
use Rattle.wt_tree.specs.Kinds.{writing}
use Rattle.wt_tree.specs.Tiling.{is_group}
use Rattle.wt_tree.specs.Tree.{Tree, tree, Trees, none, more}
use Rattle.wt_schema.specs.Html.{groups_by, groups, groups_of_all}
use Rattle.wt_sections.specs.Sections.{gathered, with_sections}
use Rattle.wt_sections.proofs.Kept.{PassesSections, all_before, all_stay}

abbrev groups_and : Tree → ℕ → ℕ
groups_and t n = groups t + n

sums_are : (ts : Trees) (rest : ℕ) → groups_of_all ts + rest ≡ all_before groups_and ts rest
sums_are none rest = omega arith
sums_are (more t ts) rest = let e : groups_of_all ts + rest ≡ all_before groups_and ts rest = sums_are ts rest in omega (arith, e)

groups_pass : PassesSections groups_and
groups_pass n t us rest = let e : groups_of_all us + rest ≡ all_before groups_and us rest = sums_are us rest in omega (arith, e)

groups_gathered : (ts : Trees) → groups_of_all (gathered ts) ≡ groups_of_all ts
groups_gathered ts =
    let a : groups_of_all (gathered ts) + 0 ≡ all_before groups_and (gathered ts) 0 = sums_are (gathered ts) 0 in
    let b : all_before groups_and (gathered ts) 0 ≡ all_before groups_and ts 0 = all_stay groups_and groups_pass ts 0 in
    let c : groups_of_all ts + 0 ≡ all_before groups_and ts 0 = sums_are ts 0 in
    omega (arith, a, b, c)

pub groups_stay : (t : Tree) → groups (with_sections t) ≡ groups t
groups_stay (tree l ts) = ap (λ n. if is_group l.kind then 1 else groups_by (writing l.kind) n) (groups_gathered ts)

-- What the walk over a tree has taken.
use Rattle.std.specs.Prelude.{◌≡◌, ℕ, List, ◌++◌}
use Rattle.wt_lint.specs.declared.search.Search.{Search}
use Rattle.wt_lint.specs.Findings.{found_from, titles_from}
use Rattle.wt_lint.specs.Found.{each}
use Rattle.wt_lint.specs.Nodes.{Stand}
use Rattle.wt_lint.specs.Titles.{names}

-- all that is found at these nodes was added, and the titles of their categories were noted
pub record Takes (page : List ℕ) (ns : List Stand) (old new : Search) : Type 0 where
  pub found : each new.found.items ≡ each old.found.items ++ found_from page (names old.titles) ns
  pub titles : names new.titles ≡ titles_from (names old.titles) ns

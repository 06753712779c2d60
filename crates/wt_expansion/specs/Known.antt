-- What is known of pages from one expansion to the next.
use Rattle.std.specs.Prelude.{◌≡◌, ℕ, Option, List}
use Rattle.wt_expand.specs.Work.{Pages, Entry, fetches}
use Rattle.wt_expand.specs.Fronts.{known_after}
use Rattle.wt_transclusion.specs.Stops.{told_with}
use Rattle.wt_template_stack.specs.declared.expansion.Expansion.{Expansion}
use Rattle.wt_expansion.specs.Walks.{IsFree}

-- nothing is being expanded, and the pages of some names are known, and no others, as some folder may have them
abbrev pub HoldsPages : Expansion → Type 0
HoldsPages x = (pages : Pages) × (met : List (List ℕ)) × IsFree pages met x

-- Some work was done, before which the pages of the names `met` were known: the folder has answered the names of the work that weren't
-- among these, each once and in the order of their first fetch; and these pages are known, too.
pub record KnowsMore (pages : Pages) (met : List (List ℕ)) (work : List Entry) (x : Expansion) (answered told : Option (List (List ℕ))) : Type 0 where
  pub free : IsFree pages (known_after met (fetches work)) x
  pub told_is : told ≡ told_with met work answered

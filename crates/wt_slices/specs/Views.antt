-- What the code's own types mean.
use Rattle.std.specs.Prelude.{Bool, true, List, [], ◌∷◌, ◌++◌, map}
use Rattle.wt_tree.specs.Tree.{Tree, Trees, trees}
use Rattle.wt_tree.specs.View.{view}
use Rattle.wt_slices.specs.declared.child.Child.{Child}
use Rattle.wt_slices.specs.declared.change.Pair.{Pair as Found}
use Rattle.wt_slices.specs.Changes.{Pair}
use Rattle.wt_slices.specs.declared.steps.Step.{Step as Taken}
use Rattle.wt_slices.specs.declared.steps.Step.TheVariants as taken
use Rattle.wt_slices.specs.Steps.{Step, stays, goes, kept, comes}
use Rattle.wt_slices.specs.BodySlices.{is_parted}

abbrev pub pair_of : Found → Pair
pair_of p = record { old = view p.old.now; new = view p.new.now }

abbrev pub pairs_of : List Found → List Pair
pairs_of ps = map pair_of ps

-- the trees of children
abbrev pub child_trees : List Child → List Tree
child_trees cs = map (λ c. view c.node.now) cs

abbrev pub child_views : List Child → Trees
child_views cs = trees (child_trees cs)

abbrev pub step_view : Taken → Step
step_view (taken.Stays t) = stays (view t.now)
step_view (taken.Goes t) = goes (view t.now)
step_view (taken.Kept t u) = kept (view t.now) (view u.now)
step_view (taken.Comes u) = comes (view u.now)

abbrev pub steps_view : List Taken → List Step
steps_view ss = map step_view ss

-- for so many of the last steps each, from none on, whether the separators from there on part
abbrev pub parted_ends : List Step → List Bool
parted_ends [] = true ∷ []
parted_ends (s ∷ ss) = parted_ends ss ++ (is_parted (s ∷ ss) ∷ [])

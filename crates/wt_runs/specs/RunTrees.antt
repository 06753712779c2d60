-- Runs of children, and what they become.
use Rattle.std.specs.Prelude.{◌≡◌, Bool, false, List, [], ◌∷◌, ◌++◌, map}
use Rattle.std.specs.List.{flat_map}
use Rattle.wt_tree.specs.Tree.{Tree}
use Rattle.wt_span.specs.Origins.{OuterCall}
use Rattle.wt_runs.specs.declared.child.Child.{Child}
use Rattle.wt_runs.specs.declared.run.Run.{Run}
use Rattle.wt_runs.specs.declared.run.Run.TheVariants.{Alone, Group}
use Rattle.wt_runs.specs.Children.{near_of, nears_of}
use Rattle.wt_annotated.specs.GroupData.{group_data}
use Rattle.wt_annotated.specs.Walked.{near_group, near_run, near_runs}

abbrev pub is_alone : List Child → Bool
is_alone [] = false
is_alone (c ∷ []) = c.clean
is_alone (c ∷ d ∷ ds) = false

abbrev pub run_children : Run → List Child
run_children (Alone c) = c ∷ []
run_children (Group cs) = cs

-- a clean child by itself is kept, and any other run is a group
abbrev pub run_tree : List OuterCall → Run → Tree
run_tree calls (Alone c) = (near_of calls c).whole
run_tree calls (Group cs) = near_group calls (group_data calls) (nears_of calls cs)

-- the run of these children
pub record IsRunOf (cs : List Child) (r : Run) : Type 0 where
  pub children : run_children r ≡ cs
  pub becomes : (calls : List OuterCall)
      → run_tree calls r ≡ near_run calls (group_data calls) (nears_of calls cs)

-- a child begins another run after the one that waits
abbrev pub begins_run : List Child → Child → Bool
begins_run [] d = false
begins_run (c ∷ cs) d = d.free

-- each child but the first is tied to the one before
abbrev pub AreTied : List Child → Type 0
AreTied [] = Unit {0}
AreTied (c ∷ []) = Unit {0}
AreTied (c ∷ d ∷ ds) = (d.free ≡ false) × AreTied (d ∷ ds)

-- some runs are cut, one waits for more children, and the rest comes next
pub record CutSoFar (runs : List Run) (run rest all : List Child) : Type 0 where
  pub joined : flat_map run_children runs ++ (run ++ rest) ≡ all
  pub become : (calls : List OuterCall)
      → map (run_tree calls) runs ++ near_runs calls (group_data calls) (nears_of calls (run ++ rest))
      ≡ near_runs calls (group_data calls) (nears_of calls all)
  pub tied : AreTied run

-- all runs of these children
pub record AreRunsOf (runs : List Run) (all : List Child) : Type 0 where
  pub joined : flat_map run_children runs ≡ all
  pub become : (calls : List OuterCall)
      → map (run_tree calls) runs ≡ near_runs calls (group_data calls) (nears_of calls all)

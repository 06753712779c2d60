-- Groups: what can be edited as a whole alone, since calls reach over the places within it. This is said by cuts, counted in
-- items, and without bytes.
use Rattle.std.specs.Prelude.{ℕ, ◌+◌, Bool, not, List, [], ◌∷◌, length, if◌then◌else◌}
use Rattle.wt_span.specs.Items.{Item}
use Rattle.wt_span.specs.Cuts.{is_free}
use Rattle.wt_span.specs.Runs.{runs}
use Rattle.wt_inline.specs.ItemTree.{Head, ItemTree, inner, ItemTrees, nothing, further, tree_items, held_by_all}
use Rattle.wt_annotated.specs.Clean.{is_clean}

-- A tree with groups. A node that is kept has a head, the number of items before it, those of its opening, of its inside and of
-- its closing, and children. A group has the number of items before it, how many it holds, and its nodes.
mutual
  pub data Grouped : Type 0 where
    kept : Head → ℕ → ℕ → ℕ → ℕ → GroupedAll → Grouped
    group : ℕ → ℕ → ItemTrees → Grouped

  pub data GroupedAll : Type 0 where
    ended : GroupedAll
    along : Grouped → GroupedAll → GroupedAll

-- A child of a clean node: how many items come before it and in it, its tree, whether it is clean, and what it is if it is.
pub record Child : Type 0 where
  pub from : ℕ
  pub size : ℕ
  pub tree : ItemTree
  pub clean : Bool
  pub whole : Grouped

-- two neighbours are in one group where the cut between them isn't free
abbrev pub is_tied : List Item → Child → Child → Bool
is_tied all c d = not (is_free all d.from)

abbrev pub size_of_all : List Child → ℕ
size_of_all [] = 0
size_of_all (c ∷ cs) = c.size + size_of_all cs

abbrev pub nodes_of : List Child → ItemTrees
nodes_of [] = nothing
nodes_of (c ∷ cs) = further c.tree (nodes_of cs)

-- a run of children that are tied is a group, and so is an unclean child by itself
abbrev pub of_run : List Child → Grouped
of_run [] = group 0 0 nothing
of_run (c ∷ []) = if c.clean then c.whole else group c.from c.size (further c.tree nothing)
of_run (c ∷ d ∷ ds) = group c.from (size_of_all (c ∷ d ∷ ds)) (nodes_of (c ∷ d ∷ ds))

abbrev pub of_runs : List (List Child) → GroupedAll
of_runs [] = ended
of_runs (r ∷ rs) = along (of_run r) (of_runs rs)

-- The tree with its groups; `n` of all items come before it.
abbrev mutual
  pub grouped : List Item → ℕ → ItemTree → Grouped
  grouped all n (inner h opening ts closing) =
      kept h n (length opening) (length (held_by_all ts)) (length closing)
      (of_runs (runs (is_tied all) (children all (n + length opening) ts)))

  pub children : List Item → ℕ → ItemTrees → List Child
  children all n nothing = []
  children all n (further t ts) =
      record {
        from = n;
        size = length (tree_items t);
        tree = t;
        clean = is_clean all n t;
        whole = grouped all n t;
      }
      ∷ children all (n + length (tree_items t)) ts

-- The tree with its groups as a walk makes it, from the call of the last item before a node, the byte at which it begins and
-- the call of the first item after it. It is the placed tree of the whole page (law `groups_by_walking`).
use Rattle.std.specs.Prelude.{ℕ, ◌+◌, Bool, true, false, not, ◌&&◌, ◌||◌, Option, Some, None, List, [], ◌∷◌, ◌++◌, length, map, if◌then◌else◌}
use Rattle.std.specs.List.{list_all, list_any}
use Rattle.wt_tree.specs.declared.node.DataMw.{DataMw}
use Rattle.wt_tree.specs.Kinds.{is_leaf}
use Rattle.wt_tree.specs.Tree.{Tree, tree, trees}
use Rattle.wt_span.specs.Items.{Item, source, call_of}
use Rattle.wt_span.specs.Origins.{OuterCall}
use Rattle.wt_span.specs.Runs.{runs}
use Rattle.wt_inline.specs.ItemTree.{ItemTree, inner, ItemTrees, nothing, further, tree_items, held_by_all}
use Rattle.wt_annotated.specs.WithoutCalls.{inside_by}
use Rattle.wt_annotated.specs.Clean.{is_page, is_body, own_by}
use Rattle.wt_annotated.specs.GroupParts.{Part, called, slice_part}
use Rattle.wt_annotated.specs.Annotated.{kept_label, group_label, all_unplaced}
use Rattle.wt_annotated.specs.Seams.{last_of, first_of, parted, text_from}

-- ---- clean nodes

-- the four cuts of a node between items of these calls are free
abbrev pub free_places : Option ℕ → List Item → List Item → List Item → Option ℕ → Bool
free_places o opening inside closing p =
    parted o (first_of opening (first_of inside (first_of closing p)))
    && (parted (last_of o opening) (first_of inside (first_of closing p))
    && (parted (last_of (last_of o opening) inside) (first_of closing p)
    && parted (last_of (last_of (last_of o opening) inside) closing) p))

abbrev pub clean_at : Option ℕ → Option ℕ → ItemTree → Bool
clean_at o p (inner h opening ts closing) =
    free_places o opening (held_by_all ts) closing p
    && (list_all is_page (own_by (is_leaf h.kind) opening (held_by_all ts) closing)
    && (is_body h.kind || list_any is_page (opening ++ (held_by_all ts ++ closing))))

-- ---- the parts of a group

-- what is since the last call, if there was one
abbrev pub longer : Option (List ℕ) → List ℕ → Option (List ℕ)
longer None bs = None
longer (Some cs) bs = Some (cs ++ bs)

abbrev pub slice_since : Option (List ℕ) → List Part
slice_since None = []
slice_since (Some bs) = slice_part bs

-- the item after a cut, which is free or isn't: one of a call that begins there, one of the page, or a later one of its call
abbrev pub part_step : Bool → Option ℕ → List ℕ → Option (List ℕ) → (Option (List ℕ) → List Part) → List Part
part_step false o bs since rest = rest since
part_step true None bs since rest = rest (longer since bs)
part_step true (Some k) bs since rest = slice_since since ++ called k ∷ rest (Some [])

-- the parts among items after one of this call, where this is since the last call
abbrev pub parts_from : Option ℕ → Option (List ℕ) → List Item → List Part
parts_from o since [] = []
parts_from o since (x ∷ xs) = part_step (parted o (call_of x)) (call_of x) (source x) since
    (λ s. parts_from (call_of x) s xs)

-- ---- trees

-- A child with what is round it: the calls before and after it, the byte at which it begins, whether the cut before it is
-- free, whether it is clean, and what it is if it is.
pub record Near : Type 0 where
  pub tree : ItemTree
  pub before : Option ℕ
  pub after : Option ℕ
  pub byte : ℕ
  pub free : Bool
  pub clean : Bool
  pub whole : Tree

abbrev pub near_tied : Near → Near → Bool
near_tied c d = not d.free

abbrev pub near_nodes : List Near → ItemTrees
near_nodes [] = nothing
near_nodes (c ∷ cs) = further c.tree (near_nodes cs)

-- a group of these nodes, after an item of this call and from this byte on
abbrev pub group_at : List OuterCall → (List Part → Option DataMw) → Option ℕ → ℕ → ItemTrees → Tree
group_at calls carried o at ts =
    tree (group_label at (text_from calls o (held_by_all ts)) (carried (parts_from o None (held_by_all ts))))
    (all_unplaced ts)

-- the group of these children
abbrev pub near_group : List OuterCall → (List Part → Option DataMw) → List Near → Tree
near_group calls carried [] = group_at calls carried None 0 nothing
near_group calls carried (c ∷ cs) = group_at calls carried c.before c.byte (near_nodes (c ∷ cs))

abbrev pub near_run : List OuterCall → (List Part → Option DataMw) → List Near → Tree
near_run calls carried [] = near_group calls carried []
near_run calls carried (c ∷ []) = if c.clean then c.whole else near_group calls carried (c ∷ [])
near_run calls carried (c ∷ d ∷ ds) = near_group calls carried (c ∷ d ∷ ds)

abbrev pub near_runs : List OuterCall → (List Part → Option DataMw) → List Near → List Tree
near_runs calls carried cs = map (near_run calls carried) (runs near_tied cs)

abbrev mutual
  pub walked : List OuterCall → (List Part → Option DataMw) → Option ℕ → ℕ → Option ℕ → ItemTree → Tree
  walked calls carried o at p (inner h opening ts closing) =
      tree
      (kept_label (is_leaf h.kind) h at (text_from calls o (opening ++ (held_by_all ts ++ closing)))
      (text_from calls o opening) (text_from calls (last_of (last_of o opening) (held_by_all ts)) closing))
      (inside_by (is_leaf h.kind) (trees (near_runs calls carried
      (near calls carried (last_of o opening) (at + length (text_from calls o opening)) (first_of closing p) ts))))

  pub near : List OuterCall → (List Part → Option DataMw) → Option ℕ → ℕ → Option ℕ → ItemTrees → List Near
  near calls carried o at p nothing = []
  near calls carried o at p (further t ts) =
      record {
        tree = t;
        before = o;
        after = first_of (held_by_all ts) p;
        byte = at;
        free = parted o (first_of (tree_items t) (first_of (held_by_all ts) p));
        clean = clean_at o (first_of (held_by_all ts) p) t;
        whole = walked calls carried o at (first_of (held_by_all ts) p) t;
      }
      ∷ near calls carried (last_of o (tree_items t)) (at + length (text_from calls o (tree_items t))) p ts

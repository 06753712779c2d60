-- The plain view doesn't see groups: each group shows the nodes that it stands for.
use Rattle.std.proofs.Common.{◌≡◌, ℕ, ◌+◌, Bool, true, false, List, [], ◌∷◌, ◌++◌, length, refl, sym, ap, ◌∙◌, subst, cond}
use Rattle.wt_tree.specs.declared.kind.Showing.{Showing}
use Rattle.wt_tree.specs.declared.kind.Showing.TheVariants.{Characters, Inside, Nothing, Element}
use Rattle.wt_tree.specs.Kinds.{showing, is_leaf}
use Rattle.wt_tree.specs.Tiling.{is_group}
use Rattle.wt_tree.specs.Tree.{Label, Tree, tree, Trees, none, more}
use Rattle.wt_tree.specs.Plain.{Face, face, Plains, ended as end, text_before, along as beside, element, shown_before, plain_before, plains_before}
use Rattle.wt_span.specs.Items.{Item}
use Rattle.wt_span.specs.Origins.{OuterCall}
use Rattle.wt_span.specs.Cuts.{place, text_between}
use Rattle.wt_span.specs.Runs.{runs, AreRuns}
use Rattle.wt_span.proofs.RunLaws.{runs_are}
use Rattle.wt_inline.specs.ItemTree.{ItemTree, inner, ItemTrees, nothing, further, tree_items, held_by_all}
use Rattle.wt_annotated.specs.Labels.{label_at}
use Rattle.wt_annotated.specs.Numbering.{number_of, next_after, count, with_id, with_numbers, all_with_numbers}
use Rattle.wt_annotated.specs.WithoutCalls.{inside_by}
use Rattle.wt_annotated.specs.Grouped.{group, Child, is_tied, nodes_of, of_runs, grouped, children}
use Rattle.wt_annotated.specs.Annotated.{no_place, unplaced, all_unplaced, kept_label, placed, all_placed}
use Rattle.wt_annotated.proofs.Tiles.{Carried}

-- ---- one node

shown_by : (s : Showing) (l m : Label) (f g : Plains → Plains) (rest : Plains) → l.shown ≡ m.shown → face l ≡ face m → ((ps : Plains) → f ps ≡ g ps)
    → shown_before s l f rest ≡ shown_before s m g rest
shown_by Characters l m f g rest e d h = ap (λ bs. text_before bs rest) e
shown_by Inside l m f g rest e d h = h rest
shown_by Nothing l m f g rest e d h = refl
shown_by Element l m f g rest e d h = ap (λ (a : Face). beside (element a (f end)) rest) d ∙ ap (λ (ps : Plains). beside (element (face m) ps) rest) (h end)

inside_shown : (is : Bool) (us vs : Trees) (ps : Plains) → ((qs : Plains) → plains_before us qs ≡ plains_before vs qs)
    → plains_before (inside_by is us) ps ≡ plains_before (inside_by is vs) ps
inside_shown true us vs ps h = refl
inside_shown false us vs ps h = h ps

-- ---- groups

all_unplaced_joined : (cs ds : List Child) (rest : Plains)
    → plains_before (all_unplaced (nodes_of (cs ++ ds))) rest ≡ plains_before (all_unplaced (nodes_of cs)) (plains_before (all_unplaced (nodes_of ds)) rest)
all_unplaced_joined [] ds rest = refl
all_unplaced_joined (c ∷ cs) ds rest = ap (plain_before (unplaced c.tree)) (all_unplaced_joined cs ds rest)

pub children_nodes : (all : List Item) (n : ℕ) (ts : ItemTrees) → nodes_of (children all n ts) ≡ ts
children_nodes all n nothing = refl
children_nodes all n (further t ts) = ap (further t) (children_nodes all (n + length (tree_items t)) ts)

-- each child shows, where it is kept, what its tree shows
abbrev Same : List OuterCall → Carried → List Item → List Child → Type 0
Same calls carried all [] = Unit {0}
Same calls carried all (c ∷ cs) =
    ((rest : Plains) → plain_before (placed calls carried all c.whole) rest ≡ plain_before (unplaced c.tree) rest) × Same calls carried all cs

same_rest : (calls : List OuterCall) (carried : Carried) (all : List Item) (cs ds : List Child) → Same calls carried all (cs ++ ds)
    → Same calls carried all ds
same_rest calls carried all [] ds h = h
same_rest calls carried all (c ∷ cs) ds h = same_rest calls carried all cs ds h.1

one_by : (calls : List OuterCall) (carried : Carried) (all : List Item) (c : Child) (rest : Plains) (v : Bool)
    → plain_before (placed calls carried all c.whole) rest ≡ plain_before (unplaced c.tree) rest
    → plain_before (placed calls carried all (cond v c.whole (group c.from c.size (further c.tree nothing)))) rest ≡ plain_before (unplaced c.tree) rest
one_by calls carried all c rest true e = e
one_by calls carried all c rest false e = refl

runs_shown : (calls : List OuterCall) (carried : Carried) (all : List Item) (rs : List (List Child)) (cs : List Child) (rest : Plains)
    → AreRuns (is_tied all) rs cs → Same calls carried all cs
    → plains_before (all_placed calls carried all (of_runs rs)) rest ≡ plains_before (all_unplaced (nodes_of cs)) rest
runs_shown calls carried all [] cs rest h s = sym (ap (λ ds. plains_before (all_unplaced (nodes_of ds)) rest) h)
runs_shown calls carried all ([] ∷ rs) cs rest h s = absurd h.2
runs_shown calls carried all ((c ∷ []) ∷ rs) cs rest h s =
    let l : Same calls carried all (c ∷ h.0) = subst (λ (ds : List Child). Same calls carried all ds) h.1 s in
    one_by calls carried all c (plains_before (all_placed calls carried all (of_runs rs)) rest) c.clean
    (l.0 (plains_before (all_placed calls carried all (of_runs rs)) rest))
    ∙ ap (plain_before (unplaced c.tree)) (runs_shown calls carried all rs h.0 rest h.3 l.1)
    ∙ sym (ap (λ ds. plains_before (all_unplaced (nodes_of ds)) rest) h.1)
runs_shown calls carried all ((c ∷ d ∷ ds) ∷ rs) cs rest h s =
    let l : Same calls carried all (c ∷ d ∷ ds ++ h.0) = subst (λ (es : List Child). Same calls carried all es) h.1 s in
    ap (plains_before (all_unplaced (nodes_of (c ∷ d ∷ ds)))) (runs_shown calls carried all rs h.0 rest h.3 (same_rest calls carried all (c ∷ d ∷ ds) h.0 l))
    ∙ sym (all_unplaced_joined (c ∷ d ∷ ds) h.0 rest)
    ∙ sym (ap (λ es. plains_before (all_unplaced (nodes_of es)) rest) h.1)

mutual
  unfolding label_at

  pub placed_shown : (calls : List OuterCall) (carried : Carried) (all : List Item) (n : ℕ) (t : ItemTree) (rest : Plains)
      → plain_before (placed calls carried all (grouped all n t)) rest ≡ plain_before (unplaced t) rest
  placed_shown calls carried all n (inner h o ts c) rest =
      let is : Bool = is_leaf h.kind in
      let cs : List Child = children all (n + length o) ts in
      let i : ℕ = length (held_by_all ts) in
      let us : Trees = all_placed calls carried all (of_runs (runs (is_tied all) cs)) in
      let inside : (ps : Plains) → plains_before us ps ≡ plains_before (all_unplaced ts) ps = λ ps.
      runs_shown calls carried all (runs (is_tied all) cs) cs ps (runs_are (is_tied all) cs) (children_shown calls carried all (n + length o) ts)
      ∙ ap (λ vs. plains_before (all_unplaced vs) ps) (children_nodes all (n + length o) ts) in
      shown_by (showing h.kind) (kept_label is h (place calls all n) (text_between calls all n (length o + i + length c))
      (text_between calls all n (length o)) (text_between calls all (n + length o + i) (length c)))
      (no_place (label_at 0 0 is h o (o ++ (held_by_all ts ++ c)) c)) (λ ps. plains_before (inside_by is us) ps)
      (λ ps. plains_before (inside_by is (all_unplaced ts)) ps) rest refl refl (λ ps. inside_shown is us (all_unplaced ts) ps inside)

  children_shown : (calls : List OuterCall) (carried : Carried) (all : List Item) (n : ℕ) (ts : ItemTrees) → Same calls carried all (children all n ts)
  children_shown calls carried all n nothing = tt
  children_shown calls carried all n (further t ts) =
      (λ rest. placed_shown calls carried all n t rest, children_shown calls carried all (n + length (tree_items t)) ts)

-- ---- numbers

numbered_by : (g : Bool) (ts us : Trees) (ps : Plains) → ((qs : Plains) → plains_before us qs ≡ plains_before ts qs)
    → plains_before (cond g ts us) ps ≡ plains_before ts ps
numbered_by true ts us ps h = refl
numbered_by false ts us ps h = h ps

mutual
  pub shown_numbered : (next : ℕ) (t : Tree) (rest : Plains) → plain_before (with_numbers next t) rest ≡ plain_before t rest
  shown_numbered next (tree l ts) rest =
      let us : Trees = all_with_numbers (next_after l.kind next) ts in
      shown_by (showing l.kind) (with_id (number_of l.kind next) l) l (λ ps. plains_before (cond (is_group l.kind) ts us) ps) (λ ps. plains_before ts ps)
      rest refl refl
      (λ ps. numbered_by (is_group l.kind) ts us ps (λ qs. all_shown_numbered (next_after l.kind next) ts qs))

  all_shown_numbered : (next : ℕ) (ts : Trees) (rest : Plains) → plains_before (all_with_numbers next ts) rest ≡ plains_before ts rest
  all_shown_numbered next none rest = refl
  all_shown_numbered next (more t ts) rest =
      shown_numbered next t (plains_before (all_with_numbers (next + count t) ts) rest) ∙ ap (plain_before t) (all_shown_numbered (next + count t) ts rest)

-- At the paths of the places of a page's nodes are the blocks there, each with a number and at its place: whatever they are.
use Rattle.std.proofs.Common.{arith, ◌≡◌, ◌<◌, ℕ, ◌+◌, false, List, [], ◌∷◌, ◌++◌, length, ap, ◌∙◌, subst}
use Rattle.wt_tree.specs.declared.kind.Kind.TheVariants as kind
use Rattle.wt_tree.specs.Source.{flat}
use Rattle.wt_tree.specs.Tiling.{is_group}
use Rattle.wt_tree.specs.Tree.{Label, Tree, tree, Trees, none, more, label}
use Rattle.wt_annotated.specs.Numbering.{next_after, count}
use Rattle.wt_checks.specs.Kept.{children}
use Rattle.wt_expand.specs.Work.{Pages}
use Rattle.wt_part_laws.specs.Frames.{Part, content}
use Rattle.wt_part_laws.specs.Placeless.{placeless_label, placeless, all_placeless}
use Rattle.wt_text_edit_laws.specs.BlockSpots.{BlockSpot, spots_source}
use Rattle.wt_part_laws.specs.TreeFrames.{spot, kept, holder, TreeFrames, no_nodes, more_nodes, all_filled, spots}
use Rattle.wt_called_edit_laws.specs.CallingGroups.{AreCallingOutside, block_with_groups, CallingNodesStay}
use Rattle.wt_called_edit_laws.specs.Groups.{called_tree}
use Rattle.wt_called_edit_laws.specs.Nodes.{AreHolders}
use Rattle.wt_called_edit_laws.specs.PathsTo.{past_one, all_past, all_inside, paths_to}
use Rattle.wt_called_edit_laws.specs.Settled.{settled, all_settled, IsSettled}
use Rattle.wt_called_edit_laws.specs.SettledAt.{SettledTo, SettledAmong, AllSettled, BlocksAtPaths}
use Rattle.wt_called_edit_laws.proofs.CallingGroups.{calling_groups, calling_nodes, edited_self}
use Rattle.wt_called_edit_laws.proofs.Cells.Equal.{same_first, same_rest}
use Rattle.wt_called_edit_laws.proofs.Cells.Nodes.{same_label, same_inside}
use Rattle.wt_called_edit_laws.proofs.CutFrames.{no_group_round}
use Rattle.wt_called_edit_laws.proofs.Leads.{inside_settled, next_some}
use Rattle.wt_called_edit_laws.proofs.PagesSettled.{called_settled}

-- ---- from a node's children

abbrev SettlesFrom : Tree → List ℕ → Trees → Type 0
SettlesFrom v [] ts = ⊥
SettlesFrom v (i ∷ is) ts = SettledAmong v i is ts

abbrev AreSettledIn : (ℕ → Tree) → List ℕ → List (List ℕ) → Trees → Type 0
AreSettledIn b [] [] ts = Unit {0}
AreSettledIn b [] (p ∷ ps) ts = ⊥
AreSettledIn b (n ∷ ns) [] ts = ⊥
AreSettledIn b (n ∷ ns) (p ∷ ps) ts = SettlesFrom (b n) p ts × AreSettledIn b ns ps ts

settles_past : (v : Tree) (p : List ℕ) (t : Tree) (ts : Trees) → SettlesFrom v p ts → SettlesFrom v (past_one p) (more t ts)
settles_past v [] t ts h = absurd h
settles_past v (i ∷ is) t ts h = h

settles_inside : (v : Tree) (p : List ℕ) (l : Label) (ts : Trees) → SettlesFrom v p ts → SettledTo v p (tree l ts)
settles_inside v [] l ts h = absurd h
settles_inside v (i ∷ is) l ts h = h

all_settle_past : (b : ℕ → Tree) (ns : List ℕ) (ps : List (List ℕ)) (t : Tree) (ts : Trees) → AreSettledIn b ns ps ts → AreSettledIn b ns (all_past ps) (more t ts)
all_settle_past b [] [] t ts h = tt
all_settle_past b [] (p ∷ ps) t ts h = absurd h
all_settle_past b (n ∷ ns) [] t ts h = absurd h
all_settle_past b (n ∷ ns) (p ∷ ps) t ts h = (settles_past (b n) p t ts h.0, all_settle_past b ns ps t ts h.1)

all_settle_inside : (b : ℕ → Tree) (ns : List ℕ) (ps : List (List ℕ)) (l : Label) (ts us : Trees) → AreSettledIn b ns ps ts
    → AreSettledIn b ns (all_inside ps) (more (tree l ts) us)
all_settle_inside b [] [] l ts us h = tt
all_settle_inside b [] (p ∷ ps) l ts us h = absurd h
all_settle_inside b (n ∷ ns) [] l ts us h = absurd h
all_settle_inside b (n ∷ ns) (p ∷ ps) l ts us h = (settles_inside (b n) p l ts h.0, all_settle_inside b ns ps l ts us h.1)

both_settle : (b : ℕ → Tree) (ms ns : List ℕ) (ps qs : List (List ℕ)) (ts : Trees) → AreSettledIn b ms ps ts → AreSettledIn b ns qs ts
    → AreSettledIn b (ms ++ ns) (ps ++ qs) ts
both_settle b [] ns [] qs ts h g = g
both_settle b [] ns (p ∷ ps) qs ts h g = absurd h
both_settle b (m ∷ ms) ns [] qs ts h g = absurd h
both_settle b (m ∷ ms) ns (p ∷ ps) qs ts h g = (h.0, both_settle b ms ns ps qs ts h.1 g)

-- ---- all of them

paths_settle : (b : ℕ → Tree) (p : Part) (fs : TreeFrames) (ts : Trees) (n at : ℕ) → AreHolders fs p → 0 < n
    → ts ≡ all_settled n at (all_placeless ts) → all_placeless ts ≡ all_filled b fs → AreSettledIn b (spots fs) (paths_to fs) ts
paths_settle b p no_nodes ts n at h some is e = tt
paths_settle b p (more_nodes f fs) none n at h some is e = cc
paths_settle b p (more_nodes (spot i) fs) (more t ts) n at h some is e =
    let m : ℕ = n + count (placeless t) in
    let next : ℕ = at + length (flat (placeless t)) in
    let own : t ≡ settled n at (placeless t) = same_first t (settled n at (placeless t)) ts (all_settled m next (all_placeless ts)) is in
    let rest : ts ≡ all_settled m next (all_placeless ts) = same_rest t (settled n at (placeless t)) ts (all_settled m next (all_placeless ts)) is in (
      record {
        number = n;
        at = at;
        some = some;
        is = own ∙ ap (settled n at) (same_first (placeless t) (b i) (all_placeless ts) (all_filled b fs) e);
      },
      all_settle_past b (spots fs) (paths_to fs) t ts
          (paths_settle b p fs ts m next h.1 (omega (arith, some)) rest (same_rest (placeless t) (b i) (all_placeless ts) (all_filled b fs) e)),
    )
paths_settle b p (more_nodes (kept v) fs) (more t ts) n at h some is e =
    let m : ℕ = n + count (placeless t) in
    let next : ℕ = at + length (flat (placeless t)) in
    let rest : ts ≡ all_settled m next (all_placeless ts) = same_rest t (settled n at (placeless t)) ts (all_settled m next (all_placeless ts)) is in
    all_settle_past b (spots fs) (paths_to fs) t ts
    (paths_settle b p fs ts m next h.1 (omega (arith, some)) rest (same_rest (placeless t) v (all_placeless ts) (all_filled b fs) e))
paths_settle b p (more_nodes (holder l gs) fs) (more (tree k us) ts) n at h some is e =
    let t : Tree = tree k us in
    let m : ℕ = n + count (placeless t) in
    let next : ℕ = at + length (flat (placeless t)) in
    let own : t ≡ settled n at (placeless t) = same_first t (settled n at (placeless t)) ts (all_settled m next (all_placeless ts)) is in
    let rest : ts ≡ all_settled m next (all_placeless ts) = same_rest t (settled n at (placeless t)) ts (all_settled m next (all_placeless ts)) is in
    let first = same_first (placeless t) (tree l (all_filled b gs)) (all_placeless ts) (all_filled b fs) e in
    let kind_is : k.kind ≡ l.kind = ap (λ (x : Label). x.kind) (same_label (placeless_label k) l (all_placeless us) (all_filled b gs) first) in
    let no : is_group k.kind ≡ false = ap is_group kind_is ∙ no_group_round p h.0.0 l.kind h.0.1 in
    let inside =
    paths_settle b h.0.0 gs us (next_after k.kind n) (at + length k.opening) h.0.2 (next_some k.kind n some) (inside_settled n at k us no own)
    (same_inside (placeless_label k) l (all_placeless us) (all_filled b gs) first) in
    both_settle b (spots gs) (spots fs) (all_inside (paths_to gs)) (all_past (paths_to fs)) (more t ts)
    (all_settle_inside b (spots gs) (paths_to gs) k us ts inside)
    (all_settle_past b (spots fs) (paths_to fs) t ts
    (paths_settle b p fs ts m next h.1 (omega (arith, some)) rest (same_rest (placeless t) (tree l (all_filled b gs)) (all_placeless ts) (all_filled b fs) e)))

-- ---- of a page

all_in_tree : (b : ℕ → Tree) (ns : List ℕ) (ps : List (List ℕ)) (l : Label) (ts : Trees) → AreSettledIn b ns ps ts → AllSettled b ns ps (tree l ts)
all_in_tree b [] [] l ts h = tt
all_in_tree b [] (p ∷ ps) l ts h = absurd h
all_in_tree b (n ∷ ns) [] l ts h = absurd h
all_in_tree b (n ∷ ns) (p ∷ ps) l ts h = (settles_inside (b n) p l ts h.0, all_in_tree b ns ps l ts h.1)

pub tree_settles : (b : ℕ → Tree) (fs : TreeFrames) (t : Tree) → AreHolders fs content → (label (placeless t)).kind ≡ kind.Body → IsSettled t
    → all_placeless (children t) ≡ all_filled b fs → AllSettled b (spots fs) (paths_to fs) t
tree_settles b fs (tree l ts) h body order e =
    all_in_tree b (spots fs) (paths_to fs) l ts
    (paths_settle b content fs ts (next_after l.kind 1) (0 + length l.opening) h (next_some l.kind 1 (omega arith))
    (inside_settled 1 0 l ts (ap is_group body) order) e)

pub blocks_at_paths : (pages : Pages) (ss : List BlockSpot) (behind : List ℕ) → AreCallingOutside pages ss behind → BlocksAtPaths pages ss behind
blocks_at_paths pages ss behind h =
    let f : CallingNodesStay pages ss behind = calling_nodes pages ss behind h in
    let g = calling_groups pages ss behind h in
    let t : Tree = called_tree pages (spots_source ss behind) in
    let b : ℕ → Tree = block_with_groups pages ss behind in
    record {
      paths = paths_to f.nodes;
      settle = subst (λ (ns : List ℕ). AllSettled b ns (paths_to f.nodes) t) f.in_order
          (tree_settles b f.nodes t f.holders (ap (λ (u : Tree). (label u).kind) (g.stay ss (edited_self pages ss) h.hold))
          (called_settled pages (spots_source ss behind)) (f.stay ss (edited_self pages ss) h.hold));
    }

-- At the paths of the places of a page's nodes are the page's blocks, each with a number and at its place, and what is edited there is edited in
-- these.
use Rattle.std.proofs.Common.{arith, ◌≡◌, ◌≢◌, ◌<◌, ℕ, zero, suc, ◌+◌, Bool, true, false, Option, None, List, [], ◌∷◌, ◌++◌, map, length, refl, sym, ap, ◌∙◌, subst}
use Rattle.std.specs.Prelude.{if◌then◌else◌, ◌||◌}
use Rattle.std.specs.List.{list_any}
use Rattle.wt_tree.specs.declared.kind.Kind.{Kind}
use Rattle.wt_tree.specs.declared.kind.Kind.TheVariants as kind
use Rattle.wt_tree.specs.Kinds.{is_leaf, is_numbered}
use Rattle.wt_tree.specs.Source.{flat}
use Rattle.wt_tree.specs.Tiling.{is_group}
use Rattle.wt_tree.specs.Tree.{Label, Tree, tree, Trees, none, more, label}
use Rattle.wt_span.specs.Items.{Item}
use Rattle.wt_inline.specs.ItemTree.{ItemTree, inner, ItemTrees, nothing, further, tree_items, held_by_all}
use Rattle.wt_annotated.specs.Clean.{is_page, is_body}
use Rattle.wt_annotated.specs.Labels.{label_at}
use Rattle.wt_annotated.specs.Numbering.{next_after, count}
use Rattle.wt_annotated.specs.WithoutCalls.{holds_page, InsideOf, NoneEmpty, AllNonEmpty}
use Rattle.wt_checks.specs.Kept.{children}
use Rattle.wt_part_laws.specs.Frames.{Part}
use Rattle.wt_part_laws.specs.Placeless.{placeless_label, placeless, all_placeless}
use Rattle.wt_part_laws.specs.Standing.{standing}
use Rattle.wt_typed_blocks.specs.Sent.{kind_of}
use Rattle.wt_typed_blocks.specs.Edited.{Edited, Edits}
use Rattle.wt_text_edit_laws.specs.BlockSpots.{BlockSpot, AreContents}
use Rattle.wt_text_edit_laws.specs.TextBlocks.{TextBlock, a_paragraph, a_heading, block_of, block_tree}
use Rattle.wt_text_edit_laws.proofs.Paragraphs.PartTrees.{ArePlain}
use Rattle.wt_text_edit_laws.proofs.Texts.TypedShown.{both_of_page}
use Rattle.wt_called_edit_laws.specs.AnyBlocks.{LeadsTo, LeadsAmong, AllLead}
use Rattle.wt_called_edit_laws.specs.CalledBlocks.{tree_by, counted}
use Rattle.wt_called_edit_laws.specs.EditsAt.{IsStanding, StandsTo, StandsAmong, AllStand, edited_by}
use Rattle.wt_called_edit_laws.specs.Settled.{settled, all_settled, IsSettled}
use Rattle.wt_called_edit_laws.proofs.Cells.Nodes.{same_label, same_inside}
use Rattle.wt_called_edit_laws.proofs.Cells.Equal.{same_first, same_rest}
use Rattle.wt_part_laws.specs.Rounded.{HasItems, AllHaveItems, IsOwn, AreOwn}
use Rattle.wt_part_laws.specs.TreeFrames.{spot, kept, holder, TreeFrames, no_nodes, more_nodes, all_filled, spots}
use Rattle.wt_called_edit_laws.specs.Nodes.{AreHolders, block_at}
use Rattle.wt_called_edit_laws.specs.PathsTo.{past_one, all_past, all_inside, paths_to, AreEditedThere}
use Rattle.wt_called_edit_laws.proofs.CutFrames.{no_group_round}
use Rattle.wt_called_edit_laws.proofs.OwnBlocks.{counted_own}
use Rattle.wt_called_edit_laws.proofs.StandingSettled.{some_items, standing_settled}

-- ---- from a node's children

abbrev StandsFrom : ItemTree → List ℕ → Trees → Type 0
StandsFrom u [] ts = ⊥
StandsFrom u (i ∷ is) ts = StandsAmong u i is ts

-- ---- as many paths as places, each to the block at the place

abbrev AreStood : (ℕ → ItemTree) → List ℕ → List (List ℕ) → Trees → Type 0
AreStood u [] [] ts = Unit {0}
AreStood u [] (p ∷ ps) ts = ⊥
AreStood u (n ∷ ns) [] ts = ⊥
AreStood u (n ∷ ns) (p ∷ ps) ts = StandsFrom (u n) p ts × AreStood u ns ps ts

stood_past : (u : ItemTree) (p : List ℕ) (t : Tree) (ts : Trees) → StandsFrom u p ts → StandsFrom u (past_one p) (more t ts)
stood_past u [] t ts h = absurd h
stood_past u (i ∷ is) t ts h = h

stood_inside : (u : ItemTree) (p : List ℕ) (l : Label) (ts : Trees) → StandsFrom u p ts → StandsTo u p (tree l ts)
stood_inside u [] l ts h = absurd h
stood_inside u (i ∷ is) l ts h = h

all_stood_past : (u : ℕ → ItemTree) (ns : List ℕ) (ps : List (List ℕ)) (t : Tree) (ts : Trees) → AreStood u ns ps ts → AreStood u ns (all_past ps) (more t ts)
all_stood_past u [] [] t ts h = tt
all_stood_past u [] (p ∷ ps) t ts h = absurd h
all_stood_past u (n ∷ ns) [] t ts h = absurd h
all_stood_past u (n ∷ ns) (p ∷ ps) t ts h = (stood_past (u n) p t ts h.0, all_stood_past u ns ps t ts h.1)

all_stood_inside : (u : ℕ → ItemTree) (ns : List ℕ) (ps : List (List ℕ)) (l : Label) (ts us : Trees) → AreStood u ns ps ts
    → AreStood u ns (all_inside ps) (more (tree l ts) us)
all_stood_inside u [] [] l ts us h = tt
all_stood_inside u [] (p ∷ ps) l ts us h = absurd h
all_stood_inside u (n ∷ ns) [] l ts us h = absurd h
all_stood_inside u (n ∷ ns) (p ∷ ps) l ts us h = (stood_inside (u n) p l ts h.0, all_stood_inside u ns ps l ts us h.1)

both_stood : (u : ℕ → ItemTree) (ms ns : List ℕ) (ps qs : List (List ℕ)) (ts : Trees) → AreStood u ms ps ts → AreStood u ns qs ts
    → AreStood u (ms ++ ns) (ps ++ qs) ts
both_stood u [] ns [] qs ts h g = g
both_stood u [] ns (p ∷ ps) qs ts h g = absurd h
both_stood u (m ∷ ms) ns [] qs ts h g = absurd h
both_stood u (m ∷ ms) ns (p ∷ ps) qs ts h g = (h.0, both_stood u ms ns ps qs ts h.1 g)

-- ---- no call is in a block, and no node of it is empty

abbrev ArePlainAt : (ℕ → ItemTree) → List ℕ → Type 0
ArePlainAt u [] = Unit {0}
ArePlainAt u (n ∷ ns) = ArePlain (u n ∷ []) × ArePlainAt u ns

plain_split : (u : ℕ → ItemTree) (ms ns : List ℕ) → ArePlainAt u (ms ++ ns) → ArePlainAt u ms × ArePlainAt u ns
plain_split u [] ns h = (tt, h)
plain_split u (m ∷ ms) ns h = let r = plain_split u ms ns h.1 in ((h.0, r.0), r.1)

or_true : (a b : Bool) → b ≡ true → (a || b) ≡ true
or_true true b e = refl
or_true false b e = e

inside_so : (v : Bool) (A B : Type 0) → (A → B) → InsideOf v A → InsideOf v B
inside_so true A B f h = tt
inside_so false A B f h = f h

mutual
  full_so : (t : ItemTree) → HasItems t → (holds_page t ≡ true) × NoneEmpty t
  full_so (inner h o ts c) g = (
    or_true (is_body h.kind) (list_any is_page (o ++ (held_by_all ts ++ c))) g.0,
    inside_so (is_leaf h.kind) (AllHaveItems ts) (AllNonEmpty ts) (λ k. all_full ts k) g.1,
  )

  all_full : (ts : ItemTrees) → AllHaveItems ts → AllNonEmpty ts
  all_full nothing g = tt
  all_full (further t ts) g = let r = full_so t g.0 in (r.0, r.1, all_full ts g.1)

pub plain_so : (t : ItemTree) → IsOwn t → ArePlain (t ∷ [])
plain_so t h =
    let r = full_so t h.has_items in
    record { of_page = both_of_page (tree_items t ++ []) [] (both_of_page (tree_items t) [] h.of_page refl) refl; none_empty = (r.0, r.1, tt) }

all_plain : (u : ℕ → ItemTree) (ns : List ℕ) → AreOwn u ns → ArePlainAt u ns
all_plain u [] h = tt
all_plain u (n ∷ ns) h = (plain_so (u n) h.0, all_plain u ns h.1)

-- ---- all of them

by_group : (g : Bool) (xs ys : Trees) → g ≡ false → (if g then xs else ys) ≡ ys
by_group true xs ys e = let no : true ≡ false = e in absurd (cc)
by_group false xs ys e = refl

pub inside_settled : (n at : ℕ) (l : Label) (ts : Trees) → is_group l.kind ≡ false → tree l ts ≡ settled n at (placeless (tree l ts))
    → ts ≡ all_settled (next_after l.kind n) (at + length l.opening) (all_placeless ts)
inside_settled n at l ts g e =
    ap children e ∙ by_group (is_group l.kind) (all_placeless ts) (all_settled (next_after l.kind n) (at + length l.opening) (all_placeless ts)) g

next_by : (v : Bool) (n : ℕ) → 0 < n → 0 < (if v then n + 1 else n)
next_by true n h = omega (arith, h)
next_by false n h = h

pub next_some : (k : Kind) (n : ℕ) → 0 < n → 0 < next_after k n
next_some k n h = next_by (is_numbered k) n h

stands_so : (u : ItemTree) (t : Tree) (n at : ℕ) → 0 < n → t ≡ settled n at (placeless t) → placeless t ≡ placeless (standing 0 [] u) → ArePlain (u ∷ [])
    → IsStanding u t
stands_so u t n at some e same plain = record {
  number = n;
  before = some_items at;
  some = some;
  is = e ∙ ap (settled n at) same ∙ sym (standing_settled n at u plain);
}

paths_stand : (u : ℕ → ItemTree) (p : Part) (fs : TreeFrames) (ts : Trees) (n at : ℕ) → AreHolders fs p → ArePlainAt u (spots fs) → 0 < n
    → ts ≡ all_settled n at (all_placeless ts) → all_placeless ts ≡ all_filled (block_at u) fs → AreStood u (spots fs) (paths_to fs) ts
paths_stand u p no_nodes ts n at h g some is e = tt
paths_stand u p (more_nodes f fs) none n at h g some is e = cc
paths_stand u p (more_nodes (spot i) fs) (more t ts) n at h g some is e =
    let m : ℕ = n + count (placeless t) in
    let next : ℕ = at + length (flat (placeless t)) in
    let own : t ≡ settled n at (placeless t) = same_first t (settled n at (placeless t)) ts (all_settled m next (all_placeless ts)) is in
    let rest : ts ≡ all_settled m next (all_placeless ts) = same_rest t (settled n at (placeless t)) ts (all_settled m next (all_placeless ts)) is in (
      stands_so (u i) t n at some own (same_first (placeless t) (block_at u i) (all_placeless ts) (all_filled (block_at u) fs) e) g.0,
      all_stood_past u (spots fs) (paths_to fs) t ts
          (paths_stand u p fs ts m next h.1 g.1 (omega (arith, some)) rest (same_rest (placeless t) (block_at u i) (all_placeless ts) (all_filled (block_at u) fs) e)),
    )
paths_stand u p (more_nodes (kept v) fs) (more t ts) n at h g some is e =
    let m : ℕ = n + count (placeless t) in
    let next : ℕ = at + length (flat (placeless t)) in
    let rest : ts ≡ all_settled m next (all_placeless ts) = same_rest t (settled n at (placeless t)) ts (all_settled m next (all_placeless ts)) is in
    all_stood_past u (spots fs) (paths_to fs) t ts
    (paths_stand u p fs ts m next h.1 g (omega (arith, some)) rest (same_rest (placeless t) v (all_placeless ts) (all_filled (block_at u) fs) e))
paths_stand u p (more_nodes (holder l gs) fs) (more (tree k us) ts) n at h g some is e =
    let t : Tree = tree k us in
    let m : ℕ = n + count (placeless t) in
    let next : ℕ = at + length (flat (placeless t)) in
    let own : t ≡ settled n at (placeless t) = same_first t (settled n at (placeless t)) ts (all_settled m next (all_placeless ts)) is in
    let rest : ts ≡ all_settled m next (all_placeless ts) = same_rest t (settled n at (placeless t)) ts (all_settled m next (all_placeless ts)) is in
    let first = same_first (placeless t) (tree l (all_filled (block_at u) gs)) (all_placeless ts) (all_filled (block_at u) fs) e in
    let kind_is : k.kind ≡ l.kind = ap (λ (x : Label). x.kind) (same_label (placeless_label k) l (all_placeless us) (all_filled (block_at u) gs) first) in
    let no : is_group k.kind ≡ false = ap is_group kind_is ∙ no_group_round p h.0.0 l.kind h.0.1 in
    let both = plain_split u (spots gs) (spots fs) g in
    let inside =
    paths_stand u h.0.0 gs us (next_after k.kind n) (at + length k.opening) h.0.2 both.0 (next_some k.kind n some) (inside_settled n at k us no own)
    (same_inside (placeless_label k) l (all_placeless us) (all_filled (block_at u) gs) first) in
    both_stood u (spots gs) (spots fs) (all_inside (paths_to gs)) (all_past (paths_to fs)) (more t ts)
    (all_stood_inside u (spots gs) (paths_to gs) k us ts inside)
    (all_stood_past u (spots fs) (paths_to fs) t ts
    (paths_stand u p fs ts m next h.1 both.1 (omega (arith, some)) rest
    (same_rest (placeless t) (tree l (all_filled (block_at u) gs)) (all_placeless ts) (all_filled (block_at u) fs) e)))

-- ---- of the blocks of a page

stood_moved : (u : ℕ → ItemTree) (ns : List ℕ) (ps : List (List ℕ)) (ts : Trees) → AreStood u (map suc ns) ps ts → AreStood (λ n. u (suc n)) ns ps ts
stood_moved u [] [] ts h = tt
stood_moved u [] (p ∷ ps) ts h = h
stood_moved u (n ∷ ns) [] ts h = h
stood_moved u (n ∷ ns) (p ∷ ps) ts h = (h.0, stood_moved u ns ps ts h.1)

stood_list : (ss : List BlockSpot) (ps : List (List ℕ)) (l : Label) (ts : Trees) → AreStood (tree_by ss) (counted ss) ps ts → AllStand ss ps (tree l ts)
stood_list [] [] l ts h = tt
stood_list [] (p ∷ ps) l ts h = absurd h
stood_list (s ∷ ss) [] l ts h = absurd h
stood_list (s ∷ ss) (p ∷ ps) l ts h =
    (stood_inside (block_tree s.block s.text) p l ts h.0, stood_list ss ps l ts (stood_moved (tree_by (s ∷ ss)) (counted ss) ps ts h.1))

pub all_stand : (ss : List BlockSpot) (p : Part) (fs : TreeFrames) (t : Tree) → AreHolders fs p → spots fs ≡ counted ss → AreContents ss
    → (label t).kind ≡ kind.Body → IsSettled t → all_placeless (children t) ≡ all_filled (block_at (tree_by ss)) fs → AllStand ss (paths_to fs) t
all_stand ss p fs (tree l ts) h is b body order e =
    let u : ℕ → ItemTree = tree_by ss in
    stood_list ss (paths_to fs) l ts
    (subst (λ (ns : List ℕ). AreStood u ns (paths_to fs) ts) is
    (paths_stand u p fs ts (next_after l.kind 1) (0 + length l.opening) h (subst (ArePlainAt u) (sym is) (all_plain u (counted ss) (counted_own ss b))) (next_some l.kind 1 (omega arith))
    (inside_settled 1 0 l ts (ap is_group body) order) e))

-- ---- so each path leads to a block of its kind

kind_there : (k : TextBlock) (q : List ℕ) (n : ℕ) (b : List Item) → (label (standing n b (block_tree k q))).kind ≡ kind_of (block_of k)
unfolding label_at
kind_there a_paragraph q n b = refl
kind_there (a_heading s) q n b = refl

number_there : (k : TextBlock) (q : List ℕ) (n : ℕ) (b : List Item) → (label (standing n b (block_tree k q))).id ≡ n
unfolding label_at
number_there a_paragraph q n b = refl
number_there (a_heading s) q n b = refl

pub standing_kind : (k : TextBlock) (q : List ℕ) (t : Tree) → IsStanding (block_tree k q) t → (label t).kind ≡ kind_of (block_of k)
standing_kind k q t h = ap (λ (u : Tree). (label u).kind) h.is ∙ kind_there k q h.number h.before

standing_number : (k : TextBlock) (q : List ℕ) (t : Tree) → IsStanding (block_tree k q) t → (label t).id ≢ 0
standing_number k q t h = λ e.
    let n : h.number ≡ 0 = sym (ap (λ (u : Tree). (label u).id) h.is ∙ number_there k q h.number h.before) ∙ e in absurd (omega (arith, n, h.some))

block_led : (k : TextBlock) (q : List ℕ) (t : Tree) → IsStanding (block_tree k q) t → LeadsTo k [] t
block_led k q (tree l ts) h = (standing_kind k q (tree l ts) h, standing_number k q (tree l ts) h)

mutual
  leads_so : (k : TextBlock) (q p : List ℕ) (t : Tree) → StandsTo (block_tree k q) p t → LeadsTo k p t
  leads_so k q [] t h = block_led k q t h
  leads_so k q (i ∷ is) (tree l ts) h = leads_among k q i is ts h

  leads_among : (k : TextBlock) (q : List ℕ) (i : ℕ) (is : List ℕ) (ts : Trees) → StandsAmong (block_tree k q) i is ts → LeadsAmong k i is ts
  leads_among k q i is none h = h
  leads_among k q zero is (more t ts) h = leads_so k q is t h
  leads_among k q (suc i) is (more t ts) h = leads_among k q i is ts h

pub all_lead : (ss : List BlockSpot) (ps : List (List ℕ)) (t : Tree) → AllStand ss ps t → AllLead ss ps t
all_lead [] [] t h = tt
all_lead [] (p ∷ ps) t h = absurd h
all_lead (s ∷ ss) [] t h = absurd h
all_lead (s ∷ ss) (p ∷ ps) t h = (leads_so s.block s.text p t h.0, all_lead ss ps t h.1)

-- ---- which content is edited at each place

-- of the block with this number
abbrev pub edit_at : List (Option Edited) → ℕ → Option Edited
edit_at [] n = None
edit_at (o ∷ os) zero = o
edit_at (o ∷ os) (suc n) = edit_at os n

pub there_moved : (o : ℕ → Option Edited) (es : Edits) (ns : List ℕ) (ps : List (List ℕ)) → AreEditedThere (λ n. o (suc n)) es ns ps → AreEditedThere o es (map suc ns) ps
there_moved o es [] ps h = tt
there_moved o es (n ∷ ns) [] h = h
there_moved o es (n ∷ ns) (p ∷ ps) h = (h.0, there_moved o es ns ps h.1)

pub edited_there : (ss : List BlockSpot) (ps : List (List ℕ)) (es : Edits) (t : Tree) → AllStand ss ps t
    → AreEditedThere (edit_at (map (edited_by es) ps)) es (counted ss) ps
edited_there [] ps es t h = tt
edited_there (s ∷ ss) [] es t h = absurd h
edited_there (s ∷ ss) (p ∷ ps) es t h =
    (refl, there_moved (edit_at (map (edited_by es) (p ∷ ps))) es (counted ss) ps (edited_there ss ps es t h.1))

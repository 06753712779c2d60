-- The number of each block and the source before it, at the place where it is.
use Rattle.std.proofs.Common.{◌≡◌, ◌≢◌, ◌⊎◌, inl, inr, ℕ, zero, Bool, true, false, List, [], ◌∷◌, ◌++◌, refl, sym, ap, ap₂, ◌∙◌, subst, append-nil, append_assoc}
use Rattle.std.proofs.lemmas.Grind.{flat_map-append}
use Rattle.wt_tree.specs.declared.row.Texts.{Texts}
use Rattle.wt_tree.specs.Kinds.{texts_of_kind}
use Rattle.wt_tree.specs.Tree.{Label, Tree, tree, Trees, none, more}
use Rattle.wt_span.specs.Items.{Item, source, sources}
use Rattle.wt_inline.specs.ItemTree.{Head, ItemTree, inner, forest, tree_items, held_by_all}
use Rattle.wt_annotated.specs.Numbering.{next_after}
use Rattle.wt_part_laws.specs.Frames.{Frame, place, whole, around, Frames, no_frames, more_frames, tree_at, trees_at, places_in, all_places}
use Rattle.wt_part_laws.specs.Standing.{standing}
use Rattle.wt_text_edit_laws.proofs.Prose.ProseTrees.{blocks_of, number_behind, items_behind}
use Rattle.wt_text_edit_laws.proofs.Blocks.KeptBlocks.{blocks_source}
use Rattle.wt_called_edit_laws.proofs.Cells.Cuts.{beside}
use Rattle.wt_called_edit_laws.proofs.Cells.ManyNodes.{AllBorders, fore_at, nodes_from, nodes_are}
use Rattle.wt_called_edit_laws.proofs.Cells.ManyPaths.{past, further, behind_all, deeper, paths_from, NoneEmpty, paths_full, AreAsMany, paths_many, deeper_many}
use Rattle.wt_called_edit_laws.proofs.Cells.Nodes.{number_after, items_after, sources_after, holder_label, standing_inner}
use Rattle.wt_called_edit_laws.proofs.Cells.PlaceGaps.{Gaps, put_before, gaps_of, source_at, AtPlaces, at_before, at_behind}
use Rattle.wt_inside_laws.specs.AnyReplaced.{number_by, number_among}
use Rattle.wt_inside_laws.proofs.EditPlaces.{IsNone, EditIn}

source_join : (us vs : List ItemTree) → blocks_source (us ++ vs) ≡ blocks_source us ++ blocks_source vs
source_join [] vs = refl
source_join (u ∷ us) vs =
    ap (λ bs. sources (tree_items u) ++ bs) (source_join us vs) ∙ sym (append_assoc (sources (tree_items u)) (blocks_source us) (blocks_source vs))

-- ---- what holds at each place of its number and the items before it

abbrev pub AllAt : (ℕ → ℕ → List Item → Type 0) → (ℕ → ItemTree) → ℕ → List Item → List ItemTree → Frames → Type 0
AllAt Q t n b us no_frames = Unit {0}
AllAt Q t n b us (more_frames (whole u) fs) = AllAt Q t n b (us ++ u ∷ []) fs
AllAt Q t n b us (more_frames (place i) fs) =
    Q i (number_after n b us) (items_after b us)
    × AllAt Q t (number_behind (number_after n b us) (items_after b us) (t i)) (items_behind (items_after b us) (t i)) [] fs
AllAt Q t n b us (more_frames (around h p gs c) fs) =
    AllAt Q t (next_after h.kind (number_after n b us)) (items_after b us ++ p) [] gs
    × AllAt Q t (number_behind (number_after n b us) (items_after b us) (tree_at t (around h p gs c)))
    (items_behind (items_after b us) (tree_at t (around h p gs c))) [] fs

pub both_at : (Q R : ℕ → ℕ → List Item → Type 0) (t : ℕ → ItemTree) (n : ℕ) (b : List Item) (us : List ItemTree) (fs : Frames) → AllAt Q t n b us fs → AllAt R t n b us fs
    → AllAt (λ i m a. Q i m a × R i m a) t n b us fs
both_at Q R t n b us no_frames h g = tt
both_at Q R t n b us (more_frames (whole u) fs) h g = both_at Q R t n b (us ++ u ∷ []) fs h g
both_at Q R t n b us (more_frames (place i) fs) h g =
    ((h.0, g.0), both_at Q R t (number_behind (number_after n b us) (items_after b us) (t i)) (items_behind (items_after b us) (t i)) [] fs h.1 g.1)
both_at Q R t n b us (more_frames (around k p gs c) fs) h g = (
  both_at Q R t (next_after k.kind (number_after n b us)) (items_after b us ++ p) [] gs h.0 g.0,
  both_at Q R t (number_behind (number_after n b us) (items_after b us) (tree_at t (around k p gs c)))
      (items_behind (items_after b us) (tree_at t (around k p gs c))) [] fs h.1 g.1,
)

-- ---- the items before it

joins : (xs ys : List Item) → sources (xs ++ ys) ≡ sources xs ++ sources ys
joins xs ys = flat_map-append source xs ys

pub items_at : (P : List ℕ → ℕ → Type 0) (t : ℕ → ItemTree) (n : ℕ) (b : List Item) (us : List ItemTree) (fs : Frames) (z : Gaps)
    → AtPlaces P t (sources b ++ blocks_source us) (gaps_of fs z) → AllAt (λ i m a. P (sources a) i) t n b us fs
items_at P t n b us no_frames z h = tt
items_at P t n b us (more_frames (whole u) fs) z h =
    let own : List ℕ = sources (tree_items u) in
    let front : List ℕ = sources b ++ blocks_source us in
    let e : front ++ own ≡ sources b ++ blocks_source (us ++ u ∷ []) =
    append_assoc (sources b) (blocks_source us) own
    ∙ ap (λ cs. sources b ++ cs) (ap (λ cs. blocks_source us ++ cs) (sym (append-nil own)) ∙ sym (source_join us (u ∷ []))) in
    items_at P t n b (us ++ u ∷ []) fs z (subst (λ cs. AtPlaces P t cs (gaps_of fs z)) e (at_before P t front own (gaps_of fs z) h))
items_at P t n b us (more_frames (place i) fs) z h =
    let m : ℕ = number_after n b us in
    let a : List Item = items_after b us in
    let front : List ℕ = sources b ++ blocks_source us in
    let e : front ++ [] ≡ sources a = append-nil front ∙ sym (sources_after b us) in
    let f : (front ++ []) ++ source_at t i ≡ sources (items_behind a (t i)) ++ [] =
    ap (λ cs. cs ++ source_at t i) e ∙ sym (joins a (tree_items (t i))) ∙ sym (append-nil (sources (items_behind a (t i)))) in
    (subst (λ cs. P cs i) e h.0, items_at P t (number_behind m a (t i)) (items_behind a (t i)) [] fs z (subst (λ cs. AtPlaces P t cs (gaps_of fs z)) f h.1))
items_at P t n b us (more_frames (around j p gs c) fs) z h =
    let m : ℕ = number_after n b us in
    let a : List Item = items_after b us in
    let u : ItemTree = tree_at t (around j p gs c) in
    let own : List ℕ = sources (tree_items u) in
    let front : List ℕ = sources b ++ blocks_source us in
    let y : Gaps = put_before (sources c) (gaps_of fs z) in
    let e : front ++ sources p ≡ sources (a ++ p) ++ [] =
    ap (λ cs. cs ++ sources p) (sym (sources_after b us)) ∙ sym (joins a p) ∙ sym (append-nil (sources (a ++ p))) in
    let f : front ++ (own ++ []) ≡ sources (items_behind a u) ++ [] =
    ap (λ cs. front ++ cs) (append-nil own)
    ∙ ap (λ cs. cs ++ own) (sym (sources_after b us)) ∙ sym (joins a (tree_items u)) ∙ sym (append-nil (sources (items_behind a u))) in (
      items_at P t (next_after j.kind m) (a ++ p) [] gs y (subst (λ cs. AtPlaces P t cs (gaps_of gs y)) e (at_before P t front (sources p) (gaps_of gs y) h)),
      items_at P t (number_behind m a u) (items_behind a u) [] fs z
          (subst (λ cs. AtPlaces P t cs (gaps_of fs z)) f (at_behind P t front (more_frames (around j p gs c) no_frames) (gaps_of fs z) h)),
    )

-- ---- its number, by its path

abbrev number_in : List ℕ → Trees → ℕ
number_in [] ts = 0
number_in (i ∷ is) ts = number_among i is ts

abbrev pub AllNumbered : (ℕ → ℕ) → List ℕ → List (List ℕ) → Trees → Type 0
AllNumbered N [] ps ts = Unit {0}
AllNumbered N (i ∷ is) [] ts = Unit {0}
AllNumbered N (i ∷ is) (p ∷ ps) ts = (N i ≡ number_in p ts) × AllNumbered N is ps ts

number_past : (p : List ℕ) (t : Tree) (ts : Trees) → number_in (past p) (more t ts) ≡ number_in p ts
number_past [] t ts = refl
number_past (i ∷ is) t ts = refl

numbered_further : (N : ℕ → ℕ) (is : List ℕ) (ps : List (List ℕ)) (t : Tree) (ts : Trees) → AllNumbered N is (further ps) (more t ts) → AllNumbered N is ps ts
numbered_further N [] ps t ts h = tt
numbered_further N (i ∷ is) [] t ts h = tt
numbered_further N (i ∷ is) (p ∷ ps) t ts h = (h.0 ∙ number_past p t ts, numbered_further N is ps t ts h.1)

numbered_behind : (N : ℕ → ℕ) (is : List ℕ) (ps : List (List ℕ)) (ts us : Trees) → AllNumbered N is (behind_all ts ps) (beside ts us) → AllNumbered N is ps us
numbered_behind N is ps none us h = h
numbered_behind N is ps (more t ts) us h = numbered_behind N is ps ts us (numbered_further N is (behind_all ts ps) t (beside ts us) h)

numbered_both : (N : ℕ → ℕ) (is js : List ℕ) (ps qs : List (List ℕ)) (ts : Trees) → AreAsMany is ps → AllNumbered N (is ++ js) (ps ++ qs) ts
    → AllNumbered N is ps ts × AllNumbered N js qs ts
numbered_both N [] js [] qs ts m h = (tt, h)
numbered_both N [] js (p ∷ ps) qs ts m h = absurd m
numbered_both N (i ∷ is) js [] qs ts m h = absurd m
numbered_both N (i ∷ is) js (p ∷ ps) qs ts m h = let r = numbered_both N is js ps qs ts m h.1 in ((h.0, r.0), r.1)

numbered_deeper : (N : ℕ → ℕ) (is : List ℕ) (ps : List (List ℕ)) (l : Label) (ts us : Trees) → NoneEmpty ps → AllNumbered N is (deeper ps) (more (tree l ts) us)
    → AllNumbered N is ps ts
numbered_deeper N [] ps l ts us f h = tt
numbered_deeper N (i ∷ is) [] l ts us f h = tt
numbered_deeper N (i ∷ is) ([] ∷ ps) l ts us f h = absurd f
numbered_deeper N (i ∷ is) ((j ∷ js) ∷ ps) l ts us f h = (h.0, numbered_deeper N is ps l ts us f h.1)

pub numbers_at : (N : ℕ → ℕ) (t : ℕ → ItemTree) → ((i m : ℕ) (a : List Item) → number_by [] (standing m a (t i)) ≡ m)
    → (v : Bool) (x : Texts) (n : ℕ) (b : List Item) (us : List ItemTree) (fs : Frames) → AllBorders t fs
    → AllNumbered N (all_places fs) (paths_from t v x n b us fs) (nodes_from t v x n b us fs) → AllAt (λ i m a. N i ≡ m) t n b us fs
numbers_at N t z v x n b us no_frames g h = tt
numbers_at N t z v x n b us (more_frames (whole u) fs) g h = numbers_at N t z v x n b (us ++ u ∷ []) fs g h
numbers_at N t z v x n b us (more_frames (place i) fs) g h =
    let w : ℕ = number_after n b us in
    let c : List Item = items_after b us in
    let m : ℕ = number_behind w c (t i) in
    let a : List Item = items_behind c (t i) in
    let qs : List (List ℕ) = paths_from t false x m a [] fs in
    let p : Tree = standing w c (t i) in
    let rest : Trees = nodes_from t false x m a [] fs in
    let r = numbered_behind N (i ∷ all_places fs) ((zero ∷ []) ∷ further qs) (fore_at v x (blocks_of n b us)) (more p rest) h in
    (r.0 ∙ z i w c, numbers_at N t z false x m a [] fs g (numbered_further N (all_places fs) qs p rest r.1))
numbers_at N t z v x n b us (more_frames (around k c gs d) fs) g h =
    let w : ℕ = number_after n b us in
    let e : List Item = items_after b us in
    let u : ItemTree = tree_at t (around k c gs d) in
    let m : ℕ = number_behind w e u in
    let a : List Item = items_behind e u in
    let j : ℕ = next_after k.kind w in
    let y : List Item = e ++ c in
    let X : Texts = texts_of_kind k.kind in
    let ps : List (List ℕ) = paths_from t true X j y [] gs in
    let qs : List (List ℕ) = paths_from t false x m a [] fs in
    let rest : Trees = nodes_from t false x m a [] fs in
    let L : Label = holder_label w e k c (c ++ (held_by_all (forest (trees_at t gs)) ++ d)) d in
    let node : standing w e u ≡ tree L (nodes_from t true X j y [] gs) =
    standing_inner w e k c (forest (trees_at t gs)) d g.0.leaf g.0.group ∙ ap (tree L) (nodes_are t true X j y [] gs g.1) in
    let all = numbered_behind N (all_places gs ++ all_places fs) (deeper ps ++ further qs) (fore_at v x (blocks_of n b us)) (more (standing w e u) rest) h in
    let r = numbered_both N (all_places gs) (all_places fs) (deeper ps) (further qs) (more (standing w e u) rest)
    (deeper_many (all_places gs) ps (paths_many t true X j y [] gs)) all in (
      numbers_at N t z true X j y [] gs g.2
          (numbered_deeper N (all_places gs) ps L (nodes_from t true X j y [] gs) rest (paths_full t true X j y [] gs)
          (subst (λ q. AllNumbered N (all_places gs) (deeper ps) (more q rest)) node r.0)),
      numbers_at N t z false x m a [] fs g.3 (numbered_further N (all_places fs) qs (standing w e u) rest r.1),
    )

-- ---- where a block's inside is replaced, in a tree that is the same before it

abbrev pub IsOnce : ℕ → List ℕ → Type 0
IsOnce i [] = ⊥
IsOnce i (j ∷ js) = ((j ≡ i) × IsNone i js) ⊎ ((j ≢ i) × IsOnce i js)

once_split : (i : ℕ) (is js : List ℕ) → IsOnce i (is ++ js) → (IsOnce i is × IsNone i js) ⊎ (IsNone i is × IsOnce i js)
once_split i [] js h = inr (tt, h)
once_split i (k ∷ is) js (inl h) = let r = none_split i is js h.1 in inl (inl (h.0, r.0), r.1)
  where
    none_split : (i : ℕ) (is js : List ℕ) → IsNone i (is ++ js) → IsNone i is × IsNone i js
    none_split i [] js h = (tt, h)
    none_split i (k ∷ is) js h = let r = none_split i is js h.1 in ((h.0, r.0), r.1)
once_split i (k ∷ is) js (inr h) = more_split i k is js h.0 (once_split i is js h.1)
  where
    more_split : (i k : ℕ) (is js : List ℕ) → k ≢ i → (IsOnce i is × IsNone i js) ⊎ (IsNone i is × IsOnce i js)
        → (IsOnce i (k ∷ is) × IsNone i js) ⊎ (IsNone i (k ∷ is) × IsOnce i js)
    more_split i k is js n (inl r) = inl (inr (n, r.0), r.1)
    more_split i k is js n (inr r) = inr ((n, r.0), r.1)

abbrev pub AreSameBefore : (ℕ → ItemTree) → (ℕ → ItemTree) → ℕ → List ℕ → Type 0
AreSameBefore t w i [] = Unit {0}
AreSameBefore t w i (j ∷ js) = (j ≡ i) ⊎ ((t j ≡ w j) × AreSameBefore t w i js)

abbrev AllSame : (ℕ → ItemTree) → (ℕ → ItemTree) → List ℕ → Type 0
AllSame t w [] = Unit {0}
AllSame t w (j ∷ js) = (t j ≡ w j) × AllSame t w js

same_front : (t w : ℕ → ItemTree) (i : ℕ) (is js : List ℕ) → AreSameBefore t w i (is ++ js) → AreSameBefore t w i is
same_front t w i [] js h = tt
same_front t w i (k ∷ is) js (inl e) = inl e
same_front t w i (k ∷ is) js (inr h) = inr (h.0, same_front t w i is js h.1)

same_rest : (t w : ℕ → ItemTree) (i : ℕ) (is js : List ℕ) → IsNone i is → AreSameBefore t w i (is ++ js) → AllSame t w is × AreSameBefore t w i js
same_rest t w i [] js n h = (tt, h)
same_rest t w i (k ∷ is) js n (inl e) = absurd (n.0 e)
same_rest t w i (k ∷ is) js n (inr h) = let r = same_rest t w i is js n.1 h.1 in ((h.0, r.0), r.1)

all_split : (t w : ℕ → ItemTree) (is js : List ℕ) → AllSame t w (is ++ js) → AllSame t w is × AllSame t w js
all_split t w [] js h = (tt, h)
all_split t w (k ∷ is) js h = let r = all_split t w is js h.1 in ((h.0, r.0), r.1)

mutual
  tree_same : (t w : ℕ → ItemTree) (f : Frame) → AllSame t w (places_in f) → tree_at t f ≡ tree_at w f
  tree_same t w (place i) h = h.0
  tree_same t w (whole u) h = refl
  tree_same t w (around k p gs c) h = ap (λ us. inner k p (forest us) c) (trees_same t w gs h)

  trees_same : (t w : ℕ → ItemTree) (fs : Frames) → AllSame t w (all_places fs) → trees_at t fs ≡ trees_at w fs
  trees_same t w no_frames h = refl
  trees_same t w (more_frames f fs) h =
      let r = all_split t w (places_in f) (all_places fs) h in ap₂ (λ u us. u ∷ us) (tree_same t w f r.0) (trees_same t w fs r.1)

-- one that is in a node, or behind it
in_or_behind : (P : ℕ → List Item → Type 0) (t w : ℕ → ItemTree) (i n : ℕ) (b : List Item) (us : List ItemTree) (k : Head) (p : List Item) (gs : Frames) (c : List Item)
    (fs : Frames) → (AreSameBefore t w i (all_places gs) → IsOnce i (all_places gs) → EditIn P w i (next_after k.kind (number_after n b us)) (items_after b us ++ p) [] gs)
    → (AreSameBefore t w i (all_places fs) → IsOnce i (all_places fs)
    → EditIn P w i (number_behind (number_after n b us) (items_after b us) (tree_at t (around k p gs c)))
    (items_behind (items_after b us) (tree_at t (around k p gs c))) [] fs)
    → AreSameBefore t w i (all_places gs ++ all_places fs)
    → (IsOnce i (all_places gs) × IsNone i (all_places fs)) ⊎ (IsNone i (all_places gs) × IsOnce i (all_places fs))
    → EditIn P w i n b us (more_frames (around k p gs c) fs)
in_or_behind P t w i n b us k p gs c fs inside after s (inl o) = inl (inside (same_front t w i (all_places gs) (all_places fs) s) o.0, o.1)
in_or_behind P t w i n b us k p gs c fs inside after s (inr o) =
    let m : ℕ = number_after n b us in
    let a : List Item = items_after b us in
    let r = same_rest t w i (all_places gs) (all_places fs) o.0 s in
    let e : tree_at t (around k p gs c) ≡ tree_at w (around k p gs c) = tree_same t w (around k p gs c) r.0 in
    inr (o.0, subst (λ (u : ItemTree). EditIn P w i (number_behind m a u) (items_behind a u) [] fs) e (after r.1 o.1))

pub edit_in : (P : ℕ → List Item → Type 0) (Q : ℕ → ℕ → List Item → Type 0) (t w : ℕ → ItemTree) (i : ℕ) → ((m : ℕ) (a : List Item) → Q i m a → P m a)
    → (n : ℕ) (b : List Item) (us : List ItemTree) (fs : Frames) → AllAt Q t n b us fs → AreSameBefore t w i (all_places fs) → IsOnce i (all_places fs)
    → EditIn P w i n b us fs
edit_in P Q t w i f n b us no_frames h s o = o
edit_in P Q t w i f n b us (more_frames (whole u) fs) h s o = edit_in P Q t w i f n b (us ++ u ∷ []) fs h s o
edit_in P Q t w i f n b us (more_frames (place j) fs) h s (inl o) =
    inl (o.0, f (number_after n b us) (items_after b us) (subst (λ (k : ℕ). Q k (number_after n b us) (items_after b us)) o.0 h.0), o.1)
edit_in P Q t w i f n b us (more_frames (place j) fs) h (inl e) (inr o) = absurd (o.0 e)
edit_in P Q t w i f n b us (more_frames (place j) fs) h (inr s) (inr o) =
    let m : ℕ = number_after n b us in
    let a : List Item = items_after b us in
    inr (
      o.0,
      subst (λ (u : ItemTree). EditIn P w i (number_behind m a u) (items_behind a u) [] fs) s.0
          (edit_in P Q t w i f (number_behind m a (t j)) (items_behind a (t j)) [] fs h.1 s.1 o.1),
    )
edit_in P Q t w i f n b us (more_frames (around k p gs c) fs) h s o =
    let m : ℕ = number_after n b us in
    let a : List Item = items_after b us in
    let u : ItemTree = tree_at t (around k p gs c) in
    in_or_behind P t w i n b us k p gs c fs (λ q r. edit_in P Q t w i f (next_after k.kind m) (a ++ p) [] gs h.0 q r)
    (λ q r. edit_in P Q t w i f (number_behind m a u) (items_behind a u) [] fs h.1 q r) s (once_split i (all_places gs) (all_places fs) o)

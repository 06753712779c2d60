-- Where no group has some byte of a place, each node round the place is clean.
use Rattle.std.proofs.Common.{arith, ◌≡◌, ◌⊎◌, inl, inr, ◌≤◌, ◌<◌, ℕ, ◌+◌, Bool, true, false, Option, None, List, [], ◌∷◌, ◌++◌, length, ap, ◌∙◌, length-append}
use Rattle.wt_tree.specs.Kinds.{is_leaf}
use Rattle.wt_tree.specs.Tiling.{is_group}
use Rattle.wt_tree.specs.Tree.{Tree, Trees, trees}
use Rattle.wt_span.specs.Items.{Item}
use Rattle.wt_span.specs.Origins.{OuterCall}
use Rattle.wt_inline.specs.ItemTree.{Head, ItemTree, inner, forest, tree_items, held_by_all}
use Rattle.wt_annotated.specs.Annotated.{annotated}
use Rattle.wt_annotated.specs.GroupData.{group_data}
use Rattle.wt_annotated.specs.Seams.{last_of, first_of, parted, text_from}
use Rattle.wt_annotated.specs.Walked.{clean_at, Near, near_runs, walked, near}
use Rattle.wt_annotated.specs.WithoutCalls.{inside_by}
use Rattle.wt_annotated.proofs.Seams.{text_append_from}
use Rattle.wt_part_laws.specs.Frames.{Frame, place, whole, around, Frames, no_frames, more_frames, tree_at, trees_at, places_in, all_places, Part, content, IsFrame, AreFrames}
use Rattle.wt_part_laws.specs.Rounded.{IsClean, AreClean, body_of}
use Rattle.wt_part_laws.proofs.FramesWalked.{no_leaf}
use Rattle.wt_called_edit_laws.proofs.CutFrames.{no_group_round}
use Rattle.wt_called_edit_laws.specs.Covered.{NoGroupAt, NoneGroupAt, IfGroup, AtPlace, AtPlaces, SomeByte, HasFreeByte, HasAny, HoldsPlace, HoldPlaces, CleanWhereFree}
use Rattle.wt_called_edit_laws.proofs.GroupsKept.{walk_free}
use Rattle.wt_called_edit_laws.proofs.RunsFree.{IsFreeAt, AreFreeAt, children_free}

-- ---- of each place

mutual
  map_place : (P Q : ℕ → ℕ → Type 0) (calls : List OuterCall) (t : ℕ → ItemTree) (o : Option ℕ) (at : ℕ) (f : Frame) → ((b e : ℕ) → P b e → Q b e)
      → AtPlace P calls t o at f → AtPlace Q calls t o at f
  map_place P Q calls t o at (place n) k h = k at (at + length (text_from calls o (tree_items (t n)))) h
  map_place P Q calls t o at (whole u) k h = tt
  map_place P Q calls t o at (around j q gs c) k h = map_places P Q calls t (last_of o q) (at + length (text_from calls o q)) gs k h

  map_places : (P Q : ℕ → ℕ → Type 0) (calls : List OuterCall) (t : ℕ → ItemTree) (o : Option ℕ) (at : ℕ) (fs : Frames) → ((b e : ℕ) → P b e → Q b e)
      → AtPlaces P calls t o at fs → AtPlaces Q calls t o at fs
  map_places P Q calls t o at no_frames k h = tt
  map_places P Q calls t o at (more_frames f fs) k h = (
    map_place P Q calls t o at f k h.0,
    map_places P Q calls t (last_of o (tree_items (tree_at t f))) (at + length (text_from calls o (tree_items (tree_at t f)))) fs k h.1,
  )

mutual
  both_place : (P Q : ℕ → ℕ → Type 0) (calls : List OuterCall) (t : ℕ → ItemTree) (o : Option ℕ) (at : ℕ) (f : Frame) → AtPlace P calls t o at f
      → AtPlace Q calls t o at f → AtPlace (λ b e. P b e × Q b e) calls t o at f
  both_place P Q calls t o at (place n) h g = (h, g)
  both_place P Q calls t o at (whole u) h g = tt
  both_place P Q calls t o at (around j q gs c) h g = both_places P Q calls t (last_of o q) (at + length (text_from calls o q)) gs h g

  both_places : (P Q : ℕ → ℕ → Type 0) (calls : List OuterCall) (t : ℕ → ItemTree) (o : Option ℕ) (at : ℕ) (fs : Frames) → AtPlaces P calls t o at fs
      → AtPlaces Q calls t o at fs → AtPlaces (λ b e. P b e × Q b e) calls t o at fs
  both_places P Q calls t o at no_frames h g = tt
  both_places P Q calls t o at (more_frames f fs) h g = (
    both_place P Q calls t o at f h.0 g.0,
    both_places P Q calls t (last_of o (tree_items (tree_at t f))) (at + length (text_from calls o (tree_items (tree_at t f)))) fs h.1 g.1,
  )

-- what holds wherever there is a place
any_split : (ms ns : List ℕ) → HasAny (ms ++ ns) → HasAny ms ⊎ HasAny ns
any_split [] ns h = inr h
any_split (m ∷ ms) ns h = inl tt

mutual
  one_place : (P : ℕ → ℕ → Type 0) (X : Type 0) (calls : List OuterCall) (t : ℕ → ItemTree) (o : Option ℕ) (at : ℕ) (f : Frame) → ((b e : ℕ) → P b e → X)
      → HasAny (places_in f) → AtPlace P calls t o at f → X
  one_place P X calls t o at (place n) k a h = k at (at + length (text_from calls o (tree_items (t n)))) h
  one_place P X calls t o at (whole u) k a h = absurd a
  one_place P X calls t o at (around j q gs c) k a h = some_place P X calls t (last_of o q) (at + length (text_from calls o q)) gs k a h

  some_place : (P : ℕ → ℕ → Type 0) (X : Type 0) (calls : List OuterCall) (t : ℕ → ItemTree) (o : Option ℕ) (at : ℕ) (fs : Frames) → ((b e : ℕ) → P b e → X)
      → HasAny (all_places fs) → AtPlaces P calls t o at fs → X
  some_place P X calls t o at no_frames k a h = absurd a
  some_place P X calls t o at (more_frames f fs) k a h = elim (any_split (places_in f) (all_places fs) a) [
    | inl x ↦ one_place P X calls t o at f k x h.0
    | inr y ↦ some_place P X calls t (last_of o (tree_items (tree_at t f))) (at + length (text_from calls o (tree_items (tree_at t f)))) fs k y h.1
  ]

-- ---- each place is within the nodes

abbrev size : List OuterCall → Option ℕ → List Item → ℕ
size calls o xs = length (text_from calls o xs)

size_both : (calls : List OuterCall) (o : Option ℕ) (xs ys : List Item) → size calls o (xs ++ ys) ≡ size calls o xs + size calls (last_of o xs) ys
size_both calls o xs ys = ap length (text_append_from calls o xs ys) ∙ length-append (text_from calls o xs) (text_from calls (last_of o xs) ys)

abbrev IsWithin : ℕ → ℕ → ℕ → ℕ → Type 0
IsWithin from n b e = (from ≤ b) × (e ≤ from + n)

mutual
  place_within : (calls : List OuterCall) (t : ℕ → ItemTree) (o : Option ℕ) (at : ℕ) (f : Frame)
      → AtPlace (IsWithin at (size calls o (tree_items (tree_at t f)))) calls t o at f
  place_within calls t o at (place n) =
      let low : at ≤ at = omega arith in
      let high : at + size calls o (tree_items (t n)) ≤ at + size calls o (tree_items (t n)) = omega arith in
      (low, high)
  place_within calls t o at (whole u) = tt
  place_within calls t o at (around j q gs c) =
      let inner_items : List Item = held_by_all (forest (trees_at t gs)) in
      let from : ℕ = at + size calls o q in
      let n : ℕ = size calls (last_of o q) inner_items in
      let one : size calls o (q ++ (inner_items ++ c)) ≡ size calls o q + size calls (last_of o q) (inner_items ++ c) = size_both calls o q (inner_items ++ c) in
      let two : size calls (last_of o q) (inner_items ++ c) ≡ n + size calls (last_of (last_of o q) inner_items) c = size_both calls (last_of o q) inner_items c in
      map_places (IsWithin from n) (IsWithin at (size calls o (q ++ (inner_items ++ c)))) calls t (last_of o q) from gs
      (λ b e k.
      let low : at ≤ b = omega (arith, k.0) in
      let high : e ≤ at + size calls o (q ++ (inner_items ++ c)) = omega (arith, k.1, one, two) in
      (low, high))
      (places_within calls t (last_of o q) from gs)

  places_within : (calls : List OuterCall) (t : ℕ → ItemTree) (o : Option ℕ) (at : ℕ) (fs : Frames)
      → AtPlaces (IsWithin at (size calls o (held_by_all (forest (trees_at t fs))))) calls t o at fs
  places_within calls t o at no_frames = tt
  places_within calls t o at (more_frames f fs) =
      let own : List Item = tree_items (tree_at t f) in
      let rest : List Item = held_by_all (forest (trees_at t fs)) in
      let all : size calls o (own ++ rest) ≡ size calls o own + size calls (last_of o own) rest = size_both calls o own rest in (
        map_place (IsWithin at (size calls o own)) (IsWithin at (size calls o (own ++ rest))) calls t o at f
            (λ b e x. let high : e ≤ at + size calls o (own ++ rest) = omega (arith, x.1, all) in (x.0, high)) (place_within calls t o at f),
        map_places (IsWithin (at + size calls o own) (size calls (last_of o own) rest)) (IsWithin at (size calls o (own ++ rest))) calls t (last_of o own) (at + size calls o own) fs
            (λ b e x.
            let low : at ≤ b = omega (arith, x.0) in
            let high : e ≤ at + size calls o (own ++ rest) = omega (arith, x.1, all) in
            (low, high))
            (places_within calls t (last_of o own) (at + size calls o own) fs),
      )

-- ---- clean nodes

abbrev child : List OuterCall → (ℕ → ItemTree) → Option ℕ → ℕ → Frame → Option ℕ → Near
child calls t o at f p = record {
  tree = tree_at t f;
  before = o;
  after = p;
  byte = at;
  free = parted o (first_of (tree_items (tree_at t f)) p);
  clean = clean_at o p (tree_at t f);
  whole = walked calls (group_data calls) o at p (tree_at t f);
}

no_group_in : (g : Bool) (A B : Type 0) → g ≡ false → IfGroup g A B → B
no_group_in true A B e h = let no : true ≡ false = e in absurd (cc)
no_group_in false A B e h = h

not_leaf : (b : ℕ) (v : Bool) (ts : Trees) → v ≡ false → NoneGroupAt b (inside_by v ts) → NoneGroupAt b ts
not_leaf b true ts e h = let no : true ≡ false = e in absurd (cc)
not_leaf b false ts e h = h

inside_free : (calls : List OuterCall) (b : ℕ) (o : Option ℕ) (at : ℕ) (p : Option ℕ) (k : Head) (q c : List Item) (ts : List ItemTree) → is_group k.kind ≡ false
    → is_leaf k.kind ≡ false → NoGroupAt b (walked calls (group_data calls) o at p (inner k q (forest ts) c))
    → AreFreeAt calls b (near calls (group_data calls) (last_of o q) (at + size calls o q) (first_of c p) (forest ts))
inside_free calls b o at p k q c ts group leaf h =
    children_free calls (group_data calls) b (last_of o q) (at + size calls o q) (first_of c p) (forest ts)
    (not_leaf b (is_leaf k.kind) (trees (near_runs calls (group_data calls) (near calls (group_data calls) (last_of o q) (at + size calls o q) (first_of c p) (forest ts)))) leaf
    (no_group_in (is_group k.kind) _ _ group h))

-- some byte is in no group, and so of others
some_same : (P Q : ℕ → Type 0) (from to : ℕ) → ((b : ℕ) → P b → Q b) → SomeByte P from to → SomeByte Q from to
some_same P Q from to f h = (h.0, h.1, h.2, f h.0 h.3)

some_within : (P Q : ℕ → Type 0) (at n from to : ℕ) → ((b : ℕ) → at ≤ b → b < at + n → P b → Q b) → SomeByte P from to → IsWithin at n from to → SomeByte Q from to
some_within P Q at n from to f h w =
    let low : at ≤ h.0 = omega (arith, h.1, w.0) in
    let high : h.0 < at + n = omega (arith, h.2, w.1) in
    (h.0, h.1, h.2, f h.0 low high h.3)

mutual
  frame_clean : (calls : List OuterCall) (t : ℕ → ItemTree) (o : Option ℕ) (at : ℕ) (f : Frame) (p : Option ℕ) (part : Part) → IsFrame f part → HoldsPlace f
      → AtPlace (SomeByte (λ b. IsFreeAt calls b (child calls t o at f p))) calls t o at f → IsClean t o f p
  frame_clean calls t o at (place n) p part i a g = tt
  frame_clean calls t o at (whole u) p part i a g = tt
  frame_clean calls t o at (around k q gs c) p part i a g =
      let u : ItemTree = tree_at t (around k q gs c) in
      let x : Option ℕ = last_of o q in
      let from : ℕ = at + size calls o q in
      let n : ℕ = size calls o (tree_items u) in
      let F : ℕ → Type 0 = λ b. IsFreeAt calls b (child calls t o at (around k q gs c) p) in
      let G : ℕ → Type 0 = λ b. (clean_at o p u ≡ true) × NoGroupAt b (walked calls (group_data calls) o at p u) in
      let N : ℕ → Type 0 = λ b. AreFreeAt calls b (near calls (group_data calls) x from (first_of c p) (forest (trees_at t gs))) in
      let all : AtPlaces (SomeByte G) calls t x from gs =
      map_places (λ b e. SomeByte F b e × IsWithin at n b e) (SomeByte G) calls t x from gs
      (λ b e y. some_within F G at n b e (λ d low high h. h (low, high)) y.0 y.1)
      (both_places (SomeByte F) (IsWithin at n) calls t x from gs g (place_within calls t o at (around k q gs c))) in (
        some_place (SomeByte G) (clean_at o p u ≡ true) calls t x from gs (λ b e y. y.3.0) a.0 all,
        frames_clean calls t x from gs (first_of c p) i.0 i.2 a.1
            (map_places (SomeByte G) (SomeByte N) calls t x from gs
            (λ b e y. some_same G N b e
            (λ d h. inside_free calls d o at p k q c (trees_at t gs) (no_group_round part i.0 k.kind i.1) (no_leaf part i.0 k.kind i.1) h.1) y) all),
      )

  frames_clean : (calls : List OuterCall) (t : ℕ → ItemTree) (o : Option ℕ) (at : ℕ) (fs : Frames) (p : Option ℕ) (part : Part) → AreFrames fs part → HoldPlaces fs
      → AtPlaces (SomeByte (λ b. AreFreeAt calls b (near calls (group_data calls) o at p (forest (trees_at t fs))))) calls t o at fs → AreClean t o fs p
  frames_clean calls t o at no_frames p part i a g = tt
  frames_clean calls t o at (more_frames f fs) p part i a g =
      let own : List Item = tree_items (tree_at t f) in
      let next : Option ℕ = first_of (held_by_all (forest (trees_at t fs))) p in
      let A : ℕ → Type 0 = λ b. AreFreeAt calls b (near calls (group_data calls) o at p (forest (trees_at t (more_frames f fs)))) in
      let F : ℕ → Type 0 = λ b. IsFreeAt calls b (child calls t o at f next) in
      let B : ℕ → Type 0 = λ b. AreFreeAt calls b (near calls (group_data calls) (last_of o own) (at + size calls o own) p (forest (trees_at t fs))) in (
        frame_clean calls t o at f next part i.0 a.0 (map_place (SomeByte A) (SomeByte F) calls t o at f (λ b e y. some_same A F b e (λ d h. h.0) y) g.0),
        frames_clean calls t (last_of o own) (at + size calls o own) fs p part i.1 a.1
            (map_places (SomeByte A) (SomeByte B) calls t (last_of o own) (at + size calls o own) fs (λ b e y. some_same A B b e (λ d h. h.1) y) g.1),
      )

-- ---- the page

pub clean_where_free : (calls : List OuterCall) (fs : Frames) (t : ℕ → ItemTree) → CleanWhereFree calls fs t
clean_where_free calls fs t i a g =
    let body : ItemTree = body_of (trees_at t fs) in
    let u : Tree = annotated calls (group_data calls) body in
    let G : ℕ → Type 0 = λ b. NoGroupAt b u in
    let A : ℕ → Type 0 = λ b. AreFreeAt calls b (near calls (group_data calls) None 0 None (forest (trees_at t fs))) in
    frames_clean calls t None 0 fs None content i a
    (map_places (HasFreeByte u) (SomeByte A) calls t None 0 fs
    (λ b e y. some_same G A b e (λ d h. children_free calls (group_data calls) d None 0 None (forest (trees_at t fs)) (walk_free calls (group_data calls) body d h)) y) g)

-- The range of a section is a slice of the page, where the ranges of what it holds are.
use Rattle.std.proofs.Common.{◌≡◌, ℕ, zero, suc, ◌+◌, ◌-◌, ◌≤◌, Bool, true, false, Option, Some, None, List, [], ◌∷◌, ◌++◌, length, refl, sym, ap, ap₂, ◌∙◌, subst, arith, cond, append-nil}
use Rattle.std.specs.List.{AllByRecursion}
use Rattle.wt_tree.specs.declared.kind.Ranges.{Ranges}
use Rattle.wt_tree.specs.Kinds.{is_leaf}
use Rattle.wt_tree.specs.Source.{flat, flat_of_all}
use Rattle.wt_tree.specs.Tiling.{BeginsAt, end_of, TiledBy, Tiled, TiledFrom, is_group}
use Rattle.wt_tree.specs.Tree.{Tree, tree, Trees, none, more, label}
use Rattle.wt_annotated.specs.Slices.{slice, opening_of, StandsIn, IsSlice}
use Rattle.wt_annotated.specs.Reached.{reached, reached_in_all, AreReachedSlices}
use Rattle.wt_annotated.proofs.PageSlices.{slice_join}
use Rattle.wt_sections.specs.Sections.{Part, last_ranges, spanned, section, level_of, ends, opens, before, from, put, parts, part_trees, lead_if_any, gathered, with_sections}
use Rattle.wt_sections.proofs.Kept.{source}
use Rattle.wt_sections.proofs.Tiles.{Spans, spans, all_in_order, cut_tiled, parts_tiled}

split : {X : Type 0} (P : X → Type 0) (xs ys : List X) → AllByRecursion P (xs ++ ys) → AllByRecursion P xs × AllByRecursion P ys
split P [] ys h = (tt, h)
split P (x ∷ xs) ys h = let r = split P xs ys h.1 in ((h.0, r.0), r.1)

both : {X : Type 0} (P : X → Type 0) (xs ys : List X) → AllByRecursion P xs → AllByRecursion P ys → AllByRecursion P (xs ++ ys)
both P [] ys h g = g
both P (x ∷ xs) ys h g = (h.0, both P xs ys h.1 g)

-- all that is reached among these trees is a slice
abbrev AllSlices : List ℕ → Trees → Type 0
AllSlices page ts = AllByRecursion (IsSlice page) (reached_in_all ts)

-- ---- trees that follow one another

nothing_between : (page : List ℕ) (a : ℕ) → slice page a a ≡ []
nothing_between [] zero = refl
nothing_between [] (suc a) = refl
nothing_between (b ∷ bs) zero = refl
nothing_between (b ∷ bs) (suc a) = nothing_between bs a

-- from the first one's start to the last one's end the page has their sources
abbrev HasSources : List ℕ → Trees → ℕ → ℕ → Type 0
HasSources page ts a m = (a ≤ m) × (m ≤ length page) × (slice page a m ≡ flat_of_all ts)

run_stands : (page : List ℕ) (ts : Trees) (a m : ℕ) → a ≤ length page → TiledFrom ts a m → AllSlices page ts → HasSources page ts a m
run_stands page none a m w h g = (omega (arith, h), omega (arith, w, h), ap (slice page a) (sym h) ∙ nothing_between page a)
run_stands page (more (tree l us) ts) a m w h g =
    let s = split (IsSlice page) (reached (tree l us)) (reached_in_all ts) g in
    by_ranges l.ranges h.0 h.2 s.0.0 (λ b v k. run_stands page ts b m v k s.1)
  where
    by_ranges : (o : Option Ranges) → BeginsAt a o → TiledFrom ts (end_of o) m → StandsIn page o (flat (tree l us)) (opening_of l) l.closing
        → ((b : ℕ) → b ≤ length page → TiledFrom ts b m → HasSources page ts b m) → HasSources page (more (tree l us) ts) a m
    by_ranges None b k s i = absurd b
    by_ranges (Some r) b k s i =
        let rest : HasSources page ts r.end m = i r.end s.within k in
        let begins : a ≤ r.end = omega (arith, b, s.ordered) in
        let first : slice page a r.end ≡ flat (tree l us) = ap (λ x. slice page x r.end) (sym b) ∙ s.stands in (
          omega (arith, begins, rest.0),
          rest.1,
          slice_join page a r.end m begins rest.0 rest.1 ∙ ap₂ (λ (xs ys : List ℕ). xs ++ ys) first rest.2,
        )

-- where the first begins, the page doesn't end before
first_within : (page : List ℕ) (t : Tree) (us : Trees) (a m : ℕ) → TiledFrom (more t us) a m → AllSlices page (more t us) → a ≤ length page
first_within page (tree l ts) us a m h g = by_ranges l.ranges h.0 g.0
  where
    by_ranges : (o : Option Ranges) → BeginsAt a o → StandsIn page o (flat (tree l ts)) (opening_of l) l.closing → a ≤ length page
    by_ranges None b s = absurd b
    by_ranges (Some r) b s = omega (arith, b, s.ordered, s.within)

-- ---- a section

section_by : (page : List ℕ) (o p : Option Ranges) (ts : Trees) (a m : ℕ) → Spans (spanned o p) ts a m → HasSources page ts a m
    → StandsIn page (spanned o p) (flat_of_all ts ++ []) [] []
section_by page None p ts a m q h = absurd q.0
section_by page (Some r) None ts a m q h = absurd q.0
section_by page (Some r) (Some s) ts a m q h = record {
  ordered = omega (arith, q.0, q.2, h.0);
  within = omega (arith, q.2, h.1);
  stands = ap (λ x. slice page x s.end) q.0 ∙ ap (slice page a) q.2 ∙ h.2 ∙ sym (append-nil (flat_of_all ts));
  open_width = refl;
  close_width = refl;
}

section_slice : (page : List ℕ) (n : ℕ) (t : Tree) (us : Trees) (a m : ℕ) → TiledFrom (more t us) a m → AllSlices page (more t us)
    → IsSlice page (section n t us)
section_slice page n t us a m h g =
    section_by page (label t).ranges (last_ranges (label t).ranges us) (more t us) a m
    (spans (label t).ranges us (more t us) a m h.0 h.2 (all_in_order (more t us) a m h) h)
    (run_stands page (more t us) a m (first_within page t us a m h g) h g)

-- before others
section_slices : (page : List ℕ) (n : ℕ) (t : Tree) (us vs : Trees) (a m : ℕ) → TiledFrom (more t us) a m → AllSlices page (more t us)
    → AllSlices page vs → AllSlices page (more (section n t us) vs)
section_slices page n t us vs a m h g i =
    (section_slice page n t us a m h g, both (IsSlice page) (reached_in_all (more t us)) (reached_in_all vs) g i)

-- ---- parts

cut_slices : (page : List ℕ) (limit : Option ℕ) (ps : List Part) → AllSlices page (part_trees ps)
    → AllSlices page (before limit ps) × AllSlices page (part_trees (from limit ps))
cut_slices page limit [] h = (tt, tt)
cut_slices page limit (p ∷ ps) h = by_test (ends limit p.level) (cut_slices page limit ps)
  where
    by_test : (v : Bool)
        → (AllSlices page (part_trees ps) → AllSlices page (before limit ps) × AllSlices page (part_trees (from limit ps)))
        → AllSlices page (cond v none (more p.tree (before limit ps))) × AllSlices page (part_trees (cond v (p ∷ ps) (from limit ps)))
    by_test true again = (tt, h)
    by_test false again =
        let s = split (IsSlice page) (reached p.tree) (reached_in_all (part_trees ps)) h in
        let r = again s.1 in
        (both (IsSlice page) (reached p.tree) (reached_in_all (before limit ps)) s.0 r.0, r.1)

put_slices : (page : List ℕ) (o : Option ℕ) (n : ℕ) (t : Tree) (ps : List Part) (a b : ℕ) → TiledFrom (more t (part_trees ps)) a b
    → AllSlices page (more t (part_trees ps)) → AllSlices page (part_trees (put n o t ps))
put_slices page None n t ps a b h g = g
put_slices page (Some level) n t ps a b h g =
    let cut = cut_tiled (Some level) ps (end_of (label t).ranges) b h.2 in
    let s = split (IsSlice page) (reached t) (reached_in_all (part_trees ps)) g in
    let r = cut_slices page (Some level) ps s.1 in
    section_slices page n t (before (Some level) ps) (part_trees (from (Some level) ps)) a cut.0 (h.0, h.1, cut.1)
    (both (IsSlice page) (reached t) (reached_in_all (before (Some level) ps)) s.0 r.0) r.1

parts_slices : (page : List ℕ) (ts : Trees) (n a b : ℕ) → TiledFrom ts a b → AllSlices page ts → AllSlices page (part_trees (parts n ts))
parts_slices page none n a b h g = tt
parts_slices page (more t ts) n a b h g =
    let k : ℕ = n + opens (level_of t) in
    let s = split (IsSlice page) (reached t) (reached_in_all ts) g in
    put_slices page (level_of t) n t (parts k ts) a b (h.0, h.1, parts_tiled ts k (end_of (label t).ranges) b h.2)
    (both (IsSlice page) (reached t) (reached_in_all (part_trees (parts k ts))) s.0 (parts_slices page ts k (end_of (label t).ranges) b h.2 s.1))

lead_slices : (page : List ℕ) (us vs : Trees) (a m : ℕ) → TiledFrom us a m → AllSlices page us → AllSlices page vs → AllSlices page (lead_if_any us vs)
lead_slices page none vs a m h g i = i
lead_slices page (more t us) vs a m h g i = section_slices page 0 t us vs a m h g i

gathered_slices : (page : List ℕ) (ts : Trees) (a b : ℕ) → TiledFrom ts a b → AllSlices page ts → AllSlices page (gathered ts)
gathered_slices page ts a b h g =
    let cut = cut_tiled None (parts 1 ts) a b (parts_tiled ts 1 a b h) in
    let r = cut_slices page None (parts 1 ts) (parts_slices page ts 1 a b h g) in
    lead_slices page (before None (parts 1 ts)) (part_trees (from None (parts 1 ts))) a cut.0 cut.1 r.0 r.1

-- ---- the tree of a page

below : (page : List ℕ) (group : Bool) (o : Option Ranges) (ts : Trees) → TiledBy false o (λ from to. TiledFrom ts from to)
    → AllByRecursion (IsSlice page) (cond group [] (reached_in_all ts)) → AllByRecursion (IsSlice page) (cond group [] (reached_in_all (gathered ts)))
below page group None ts h g = absurd h
below page true (Some r) ts h g = tt
below page false (Some r) ts h g = gathered_slices page ts (r.start + r.open_w) (r.end - r.close_w) h.1 g

pub sections_sliced : (page : List ℕ) (t : Tree) → is_leaf (label t).kind ≡ false → Tiled t → AreReachedSlices page t → AreReachedSlices page (with_sections t)
sections_sliced page (tree l ts) e h g = (
  subst (λ (bs : List ℕ). StandsIn page l.ranges bs (opening_of l) l.closing) (sym (source (tree l ts))) g.0,
  below page (is_group l.kind) l.ranges ts (subst (λ (v : Bool). TiledBy v l.ranges (λ from to. TiledFrom ts from to)) e h) g.1,
)

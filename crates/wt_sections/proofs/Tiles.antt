-- Sections tile a body whose children tile it.
use Rattle.std.proofs.Common.{◌≡◌, ℕ, ◌+◌, ◌-◌, ◌≤◌, Bool, true, false, Option, Some, None, List, [], ◌∷◌, refl, sym, subst, arith, cond}
use Rattle.wt_tree.specs.declared.kind.Ranges.{Ranges}
use Rattle.wt_tree.specs.Kinds.{is_leaf}
use Rattle.wt_tree.specs.Tiling.{BeginsAt, end_of, TiledBy, Tiled, TiledFrom}
use Rattle.wt_tree.specs.Tree.{Tree, tree, Trees, none, more, label}
use Rattle.wt_sections.specs.Sections.{spanned, last_ranges, section, Part, level_of, ends, opens, before, from, put, parts, part_trees, lead_if_any, gathered, with_sections}

-- ---- ranges

-- a node doesn't end before it begins
order_by : (leaf : Bool) (o : Option Ranges) (inside : ℕ → ℕ → Type 0) (a : ℕ) → BeginsAt a o → TiledBy leaf o inside → a ≤ end_of o
order_by leaf None inside a b h = absurd b
order_by true (Some r) inside a b h = omega (arith, b, h)
order_by false (Some r) inside a b h = omega (arith, b, h.0)

in_order : (t : Tree) (a : ℕ) → BeginsAt a (label t).ranges → Tiled t → a ≤ end_of (label t).ranges
in_order (tree l ts) a b h = order_by (is_leaf l.kind) l.ranges (λ from to. TiledFrom ts from to) a b h

pub all_in_order : (ts : Trees) (a m : ℕ) → TiledFrom ts a m → a ≤ m
all_in_order none a m h = omega (arith, h)
all_in_order (more t ts) a m h =
    let first : a ≤ end_of (label t).ranges = in_order t a h.0 h.1 in
    let rest : end_of (label t).ranges ≤ m = all_in_order ts (end_of (label t).ranges) m h.2 in
    omega (arith, first, rest)

-- the last of trees that follow one another ends where they end
last_by : (ts : Trees) (r : Ranges) (m : ℕ) → TiledFrom ts r.end m → (s : Ranges) × (last_ranges (Some r) ts ≡ Some s) × (s.end ≡ m)
last_by none r m h = (r, refl, h)
last_by (more t ts) r m h = by_ranges (label t).ranges h.0 h.2 (λ q g. last_by ts q m g)
  where
    by_ranges : (o : Option Ranges) → BeginsAt r.end o → TiledFrom ts (end_of o) m
        → ((q : Ranges) → TiledFrom ts q.end m → (s : Ranges) × (last_ranges (Some q) ts ≡ Some s) × (s.end ≡ m))
        → (s : Ranges) × (last_ranges o ts ≡ Some s) × (s.end ≡ m)
    by_ranges None b g f = absurd b
    by_ranges (Some q) b g f = f q g

-- ---- a section

span_tiled : (r s : Ranges) (ts : Trees) (a m : ℕ) → r.start ≡ a → s.end ≡ m → a ≤ m → TiledFrom ts a m
    → TiledBy false (spanned (Some r) (Some s)) (λ from to. TiledFrom ts from to)
span_tiled r s ts a m b e o h =
    let from_is : a ≡ r.start + 0 = omega (arith, b) in
    let to_is : m ≡ s.end - 0 = omega (arith, e) in
    (omega (arith, b, e, o), subst (λ (x : ℕ). TiledFrom ts x (s.end - 0)) from_is (subst (λ (y : ℕ). TiledFrom ts a y) to_is h))

abbrev pub Spans : Option Ranges → Trees → ℕ → ℕ → Type 0
Spans q ts a m = BeginsAt a q × TiledBy false q (λ from to. TiledFrom ts from to) × (end_of q ≡ m)

pub spans : (o : Option Ranges) (us ts : Trees) (a m : ℕ) → BeginsAt a o → TiledFrom us (end_of o) m → a ≤ m → TiledFrom ts a m
    → Spans (spanned o (last_ranges o us)) ts a m
spans None us ts a m b h o g = absurd b
spans (Some r) us ts a m b h o g =
    let last : (s : Ranges) × (last_ranges (Some r) us ≡ Some s) × (s.end ≡ m) = last_by us r m h in
    subst (λ (q : Option Ranges). Spans (spanned (Some r) q) ts a m) (sym last.1)
    (b, span_tiled r last.0 ts a m b last.2 o g, last.2)

-- before others, where its children stand before them
section_tiled : (n : ℕ) (t : Tree) (us vs : Trees) (a m b : ℕ) → TiledFrom (more t us) a m → TiledFrom vs m b → TiledFrom (more (section n t us) vs) a b
section_tiled n t us vs a m b h g =
    let all : Spans (label (section n t us)).ranges (more t us) a m =
    spans (label t).ranges us (more t us) a m h.0 h.2 (all_in_order (more t us) a m h) h in
    (all.0, all.1, subst (λ (x : ℕ). TiledFrom vs x b) (sym all.2) g)

-- ---- parts

-- where the parts are cut, the trees before end and those behind begin
pub cut_tiled : (limit : Option ℕ) (ps : List Part) (a b : ℕ) → TiledFrom (part_trees ps) a b
    → (m : ℕ) × TiledFrom (before limit ps) a m × TiledFrom (part_trees (from limit ps)) m b
cut_tiled limit [] a b h = (a, refl, h)
cut_tiled limit (p ∷ ps) a b h = by_test (ends limit p.level) (cut_tiled limit ps (end_of (label p.tree).ranges) b h.2)
  where
    by_test : (v : Bool)
        → ((m : ℕ) × TiledFrom (before limit ps) (end_of (label p.tree).ranges) m × TiledFrom (part_trees (from limit ps)) m b)
        → (m : ℕ) × TiledFrom (cond v none (more p.tree (before limit ps))) a m × TiledFrom (part_trees (cond v (p ∷ ps) (from limit ps))) m b
    by_test true rest = (a, refl, h)
    by_test false rest = (rest.0, (h.0, h.1, rest.1), rest.2)

put_tiled : (o : Option ℕ) (n : ℕ) (t : Tree) (ps : List Part) (a b : ℕ) → TiledFrom (more t (part_trees ps)) a b → TiledFrom (part_trees (put n o t ps)) a b
put_tiled None n t ps a b h = h
put_tiled (Some level) n t ps a b h =
    let cut = cut_tiled (Some level) ps (end_of (label t).ranges) b h.2 in
    section_tiled n t (before (Some level) ps) (part_trees (from (Some level) ps)) a cut.0 b (h.0, h.1, cut.1) cut.2

pub parts_tiled : (ts : Trees) (n a b : ℕ) → TiledFrom ts a b → TiledFrom (part_trees (parts n ts)) a b
parts_tiled none n a b h = h
parts_tiled (more t ts) n a b h =
    put_tiled (level_of t) n t (parts (n + opens (level_of t)) ts) a b
    (h.0, h.1, parts_tiled ts (n + opens (level_of t)) (end_of (label t).ranges) b h.2)

lead_tiled : (us vs : Trees) (a m b : ℕ) → TiledFrom us a m → TiledFrom vs m b → TiledFrom (lead_if_any us vs) a b
lead_tiled none vs a m b h g = subst (λ (x : ℕ). TiledFrom vs x b) (sym h) g
lead_tiled (more t us) vs a m b h g = section_tiled 0 t us vs a m b h g

gathered_from : (ts : Trees) (a b : ℕ) → TiledFrom ts a b → TiledFrom (gathered ts) a b
gathered_from ts a b h =
    let cut = cut_tiled None (parts 1 ts) a b (parts_tiled ts 1 a b h) in
    lead_tiled (before None (parts 1 ts)) (part_trees (from None (parts 1 ts))) a cut.0 b cut.1 cut.2

round : (leaf : Bool) (o : Option Ranges) (ts : Trees) → TiledBy leaf o (λ from to. TiledFrom ts from to)
    → TiledBy leaf o (λ from to. TiledFrom (gathered ts) from to)
round leaf None ts h = absurd h
round true (Some r) ts h = h
round false (Some r) ts h = (h.0, gathered_from ts (r.start + r.open_w) (r.end - r.close_w) h.1)

pub tiled : (t : Tree) → Tiled t → Tiled (with_sections t)
tiled (tree l ts) h = round (is_leaf l.kind) l.ranges ts h

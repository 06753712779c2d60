-- A node of a page by itself: where its sign and its inside end, and how its children follow one another.
use Rattle.std.proofs.Common.{◌≡◌, ◌≤◌, ℕ, ◌+◌, ◌-◌, Bool, true, false, Option, Some, None, refl, sym, arith, ltb-true, true≢false}
use Rattle.std.specs.Prelude.{nat_lt, if◌then◌else◌}
use Rattle.wt_tree.specs.declared.kind.Kind.{Kind}
use Rattle.wt_tree.specs.declared.kind.Kind.TheVariants as kind
use Rattle.wt_tree.specs.declared.kind.Ranges.{Ranges}
use Rattle.wt_tree.specs.Kinds.{is_leaf, shape}
use Rattle.wt_tree.specs.Tiling.{BeginsAt, end_of, Tiled, TiledBy, TiledFrom}
use Rattle.wt_tree.specs.Tree.{Tree, tree, Trees, none, more, label}
use Rattle.wt_difference.specs.Insides.{before_blocks, ends_inside, has_inside}
use Rattle.wt_places.specs.Places.{end_behind, gap_end, inside_end, inside_start, inside_stop, is_of_row, sign_end, start_of}

-- where a node begins and ends
abbrev pub start_at : Tree → ℕ
start_at t = start_of (label t).ranges

abbrev pub end_at : Tree → ℕ
end_at t = end_of (label t).ranges

-- ---- ranges

pub begins : (a : ℕ) (o : Option Ranges) → BeginsAt a o → start_of o ≡ a
begins a None b = absurd b
begins a (Some r) b = b

pub opens_behind : (o : Option Ranges) → start_of o ≤ inside_start o
opens_behind None = omega arith
opens_behind (Some r) = omega arith

pub closes_before : (o : Option Ranges) → inside_stop o ≤ end_of o
closes_before None = omega arith
closes_before (Some r) = omega arith

sign_width : (w : ℕ) → (if nat_lt 2 w then 2 else w) ≤ w
sign_width w = by (nat_lt 2 w) refl
  where
    by : (b : Bool) → nat_lt 2 w ≡ b → (if b then 2 else w) ≤ w
    by true e = let lt = ltb-true 2 w e in omega (arith, lt)
    by false e = omega arith

sign_opens : (o : Option Ranges) → sign_end o ≤ inside_start o
sign_opens None = omega arith
sign_opens (Some r) = let w = sign_width r.open_w in omega (arith, w)

gap_opens : (c : Bool) (o : Option Ranges) → (if c then sign_end o else start_of o) ≤ inside_start o
gap_opens true o = sign_opens o
gap_opens false o = opens_behind o

gap_begins : (c : Bool) (o : Option Ranges) → start_of o ≤ (if c then sign_end o else start_of o)
gap_begins true None = omega arith
gap_begins true (Some r) = omega arith
gap_begins false o = omega arith

-- ---- leaves

-- a leaf has no inside of its own, and is no cell
leaf_kind : (k : Kind) → is_leaf k ≡ true → (has_inside k ≡ false) × (is_of_row (shape k).class ≡ false)
leaf_kind kind.Body e = absurd (cc)
leaf_kind (kind.Section n) e = absurd (cc)
leaf_kind kind.Para e = absurd (cc)
leaf_kind (kind.Heading n) e = absurd (cc)
leaf_kind kind.Ul e = absurd (cc)
leaf_kind kind.Ol e = absurd (cc)
leaf_kind kind.Dl e = absurd (cc)
leaf_kind kind.Li e = absurd (cc)
leaf_kind kind.Dt e = absurd (cc)
leaf_kind kind.Dd e = absurd (cc)
leaf_kind kind.Pre e = absurd (cc)
leaf_kind kind.Table e = absurd (cc)
leaf_kind kind.Tbody e = absurd (cc)
leaf_kind kind.Tr e = absurd (cc)
leaf_kind kind.Caption e = absurd (cc)
leaf_kind kind.Td e = absurd (cc)
leaf_kind kind.Th e = absurd (cc)
leaf_kind kind.Bold e = absurd (cc)
leaf_kind kind.Italic e = absurd (cc)
leaf_kind kind.WikiLink e = absurd (cc)
leaf_kind kind.ExtLink e = absurd (cc)
leaf_kind (kind.Tag t) e = absurd (cc)
leaf_kind kind.Nowiki e = absurd (cc)
leaf_kind k e = (refl, refl)

-- a leaf, or a node whose children follow one another in its inside
pub through : (leaf : Bool) (o : Option Ranges) (ts : Trees) (Goal : Type 0) → TiledBy leaf o (λ from to. TiledFrom ts from to)
    → (leaf ≡ true → Goal) → (leaf ≡ false → TiledFrom ts (inside_start o) (inside_stop o) → Goal) → Goal
through leaf None ts Goal h f g = absurd h
through true (Some r) ts Goal h f g = f refl
through false (Some r) ts Goal h f g = g refl h.1

-- ---- nodes that follow one another

whole_by : (leaf : Bool) (o : Option Ranges) (inner : ℕ → ℕ → Type 0) → TiledBy leaf o inner → start_of o ≤ end_of o
whole_by leaf None inner h = absurd h
whole_by true (Some r) inner h = omega (arith, h)
whole_by false (Some r) inner h = let k = h.0 in omega (arith, k)

pub whole : (t : Tree) → Tiled t → start_at t ≤ end_at t
whole (tree l ts) h = whole_by (is_leaf l.kind) l.ranges (λ from to. TiledFrom ts from to) h

pub in_order : (ts : Trees) (a b : ℕ) → TiledFrom ts a b → a ≤ b
in_order none a b h = omega (arith, h)
in_order (more t ts) a b h =
    let first = begins a (label t).ranges h.0 in
    let all = whole t h.1 in
    let rest = in_order ts (end_at t) b h.2 in omega (arith, first, all, rest)

record EndsBetween (a b e : ℕ) : Type 0 where
  least : a ≤ e
  most : e ≤ b

ends_between : (ts : Trees) (a b : ℕ) → TiledFrom ts a b → EndsBetween a b (end_behind a (before_blocks ts))
ends_between none a b h = record { least = omega arith; most = omega (arith, h) }
ends_between (more t ts) a b h = by (ends_inside t) (ends_between ts (end_at t) b h.2)
  where
    by : (v : Bool) → EndsBetween (end_at t) b (end_behind (end_at t) (before_blocks ts))
        → EndsBetween a b (end_behind a (if v then none else more t (before_blocks ts)))
    by true rest = let all = in_order (more t ts) a b h in record { least = omega arith; most = omega (arith, all) }
    by false rest =
        let first = begins a (label t).ranges h.0 in
        let all = whole t h.1 in
        let least = rest.least in record { least = omega (arith, first, all, least); most = rest.most }

-- ---- a node

gap_by : (leaf c : Bool) (o : Option Ranges) (inner : ℕ → ℕ → Type 0) → TiledBy leaf o inner → (leaf ≡ true → c ≡ false)
    → (if c then sign_end o else start_of o) ≤ end_of o
gap_by leaf c None inner h f = absurd h
gap_by true true (Some r) inner h f = absurd (true≢false (f refl))
gap_by true false (Some r) inner h f = omega (arith, h)
gap_by false true (Some r) inner h f = let w = sign_width r.open_w in let k = h.0 in omega (arith, w, k)
gap_by false false (Some r) inner h f = let k = h.0 in omega (arith, k)

inside_by : (leaf v : Bool) (o : Option Ranges) (ts : Trees) → TiledBy leaf o (λ from to. TiledFrom ts from to) → (leaf ≡ true → v ≡ false)
    → (inside_start o ≤ end_behind (inside_start o) (if v then before_blocks ts else none))
    × (v ≡ true → end_behind (inside_start o) (if v then before_blocks ts else none) ≤ end_of o)
inside_by leaf v None ts h f = absurd h
inside_by true true (Some r) ts h f = absurd (true≢false (f refl))
inside_by false true (Some r) ts h f =
    let e = ends_between ts (r.start + r.open_w) (r.end - r.close_w) h.1 in (e.least, λ x. let most = e.most in omega (arith, most))
inside_by leaf false (Some r) ts h f = (omega arith, λ x. absurd (true≢false (sym x)))

pub record Fits (t : Tree) : Type 0 where
  pub whole : start_at t ≤ end_at t
  pub before_gap : start_at t ≤ gap_end t
  pub gap_inside : gap_end t ≤ inside_start (label t).ranges
  pub gap_ends : gap_end t ≤ end_at t
  pub inside_begins : inside_start (label t).ranges ≤ inside_end t
  pub inside_ends : has_inside (label t).kind ≡ true → inside_end t ≤ end_at t

pub fits : (t : Tree) → Tiled t → Fits t
fits (tree l ts) h =
    let i = inside_by (is_leaf l.kind) (has_inside l.kind) l.ranges ts h (λ e. (leaf_kind l.kind e).0) in
    record {
      whole = whole (tree l ts) h;
      before_gap = gap_begins (is_of_row (shape l.kind).class) l.ranges;
      gap_inside = gap_opens (is_of_row (shape l.kind).class) l.ranges;
      gap_ends = gap_by (is_leaf l.kind) (is_of_row (shape l.kind).class) l.ranges (λ from to. TiledFrom ts from to) h (λ e. (leaf_kind l.kind e).1);
      inside_begins = i.0;
      inside_ends = i.1;
    }

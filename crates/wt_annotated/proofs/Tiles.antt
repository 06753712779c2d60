-- The ranges of an annotated tree tile it, and its source is what stands on the page.
use Rattle.std.proofs.Common.{◌≡◌, ℕ, ◌+◌, ◌-◌, ◌≤◌, Bool, true, false, Option, Some, None, List, ◌++◌, length, refl, sym, ap, subst, ◌∙◌, cond, arith, append_assoc}
use Rattle.wt_tree.specs.declared.kind.Kind.{Kind}
use Rattle.wt_tree.specs.declared.kind.Kind.TheVariants as kind
use Rattle.wt_tree.specs.declared.kind.Ranges.{Ranges}
use Rattle.wt_tree.specs.declared.node.DataMw.{DataMw}
use Rattle.wt_tree.specs.Kinds.{is_leaf}
use Rattle.wt_tree.specs.Source.{flat, flat_of_all}
use Rattle.wt_tree.specs.Tree.{Tree, tree, Trees, none, more, label}
use Rattle.wt_tree.specs.Tiling.{BeginsAt, end_of, TiledBy, Tiled, TiledFrom, is_group}
use Rattle.wt_span.specs.Items.{Item}
use Rattle.wt_span.specs.Origins.{OuterCall}
use Rattle.wt_span.specs.Cuts.{place, text_between}
use Rattle.wt_inline.specs.ItemTree.{Head}
use Rattle.wt_annotated.specs.Labels.{if_leaf, if_inner}
use Rattle.wt_annotated.specs.Numbering.{next_after, count, with_numbers, all_with_numbers}
use Rattle.wt_annotated.specs.WithoutCalls.{inside_by}
use Rattle.wt_annotated.specs.Grouped.{Grouped, kept, group, GroupedAll, ended, along}
use Rattle.wt_annotated.specs.GroupParts.{Part}
use Rattle.wt_annotated.specs.Annotated.{kept_label, placed, all_placed}
use Rattle.wt_annotated.specs.Reached.{start_of, size_of, Fills, FillFrom}
use Rattle.wt_annotated.proofs.Places.{place_between, text_append, text_three, width_three}

abbrev pub Carried : Type 0
Carried = List Part → Option DataMw

-- ---- tiling

begins : (calls : List OuterCall) (carried : Carried) (all : List Item) (g : Grouped)
    → BeginsAt (place calls all (start_of g)) (label (placed calls carried all g)).ranges
begins calls carried all (kept h n o i c gs) = refl
begins calls carried all (group n k ts) = refl

ends : (calls : List OuterCall) (carried : Carried) (all : List Item) (g : Grouped)
    → end_of (label (placed calls carried all g)).ranges ≡ place calls all (start_of g + size_of g)
ends calls carried all (kept h n o i c gs) = sym (place_between calls all (o + i + c) n)
ends calls carried all (group n k ts) = sym (place_between calls all k n)

tiled_by : (calls : List OuterCall) (all : List Item) (is : Bool) (h : Head) (n o i c : ℕ) (us : Trees)
    → TiledFrom us (place calls all (n + o)) (place calls all (n + o + i))
    → TiledBy is (kept_label is h (place calls all n) (text_between calls all n (o + i + c)) (text_between calls all n o)
    (text_between calls all (n + o + i) c)).ranges (λ from to. TiledFrom (inside_by is us) from to)
tiled_by calls all true h n o i c us g = omega arith
tiled_by calls all false h n o i c us g =
    let w = width_three calls all n o i c in
    let a : place calls all (n + o) ≡ place calls all n + length (text_between calls all n o) = place_between calls all o n in
    let b : place calls all (n + o + i) ≡ place calls all (n + o) + length (text_between calls all (n + o) i) = place_between calls all i (n + o) in
    let d : place calls all (n + o + i) ≡ place calls all n + length (text_between calls all n (o + i + c)) - length (text_between calls all (n + o + i) c) =
    omega (arith, w, a, b) in
    let to : ℕ = place calls all n + length (text_between calls all n (o + i + c)) - length (text_between calls all (n + o + i) c) in
    (omega (arith, w), subst (λ (m : ℕ). TiledFrom us m to) a (subst (λ (m : ℕ). TiledFrom us (place calls all (n + o)) m) d g))

mutual
  pub tiled : (calls : List OuterCall) (carried : Carried) (all : List Item) (g : Grouped) → Fills g → Tiled (placed calls carried all g)
  tiled calls carried all (kept h n o i c gs) f =
      tiled_by calls all (is_leaf h.kind) h n o i c (all_placed calls carried all gs) (all_tiled calls carried all gs (n + o) (n + o + i) f)
  tiled calls carried all (group n k ts) f = omega arith

  pub all_tiled : (calls : List OuterCall) (carried : Carried) (all : List Item) (gs : GroupedAll) (from to : ℕ) → FillFrom gs from to
      → TiledFrom (all_placed calls carried all gs) (place calls all from) (place calls all to)
  all_tiled calls carried all ended from to f = ap (place calls all) f
  all_tiled calls carried all (along g gs) from to f =
      let rest = all_tiled calls carried all gs (start_of g + size_of g) to f.2 in (
        subst (λ (m : ℕ). BeginsAt (place calls all m) (label (placed calls carried all g)).ranges) f.0 (begins calls carried all g),
        tiled calls carried all g f.1,
        subst (λ (m : ℕ). TiledFrom (all_placed calls carried all gs) m (place calls all to)) (sym (ends calls carried all g)) rest,
      )

-- ---- numbers change no range and no source

same_ranges : (next : ℕ) (t : Tree) → (label (with_numbers next t)).ranges ≡ (label t).ranges
same_ranges next (tree l ts) = refl

numbered_by : (leaf g : Bool) (r : Option Ranges) (ts us : Trees) → ((from to : ℕ) → TiledFrom ts from to → TiledFrom us from to)
    → TiledBy leaf r (λ from to. TiledFrom ts from to) → TiledBy leaf r (λ from to. TiledFrom (cond g ts us) from to)
numbered_by leaf g None ts us m h = h
numbered_by true g (Some r) ts us m h = h
numbered_by false true (Some r) ts us m h = h
numbered_by false false (Some r) ts us m h = (h.0, m (r.start + r.open_w) (r.end - r.close_w) h.1)

mutual
  pub tiled_numbered : (next : ℕ) (t : Tree) → Tiled t → Tiled (with_numbers next t)
  tiled_numbered next (tree l ts) h =
      numbered_by (is_leaf l.kind) (is_group l.kind) l.ranges ts (all_with_numbers (next_after l.kind next) ts)
      (λ from to q. all_tiled_numbered (next_after l.kind next) ts from to q) h

  pub all_tiled_numbered : (next : ℕ) (ts : Trees) (from to : ℕ) → TiledFrom ts from to → TiledFrom (all_with_numbers next ts) from to
  all_tiled_numbered next none from to h = h
  all_tiled_numbered next (more t ts) from to h =
      let s : (label t).ranges ≡ (label (with_numbers next t)).ranges = sym (same_ranges next t) in (
        subst (λ (r : Option Ranges). BeginsAt from r) s h.0,
        tiled_numbered next t h.1,
        subst (λ (r : Option Ranges). TiledFrom (all_with_numbers (next + count t) ts) (end_of r) to) s
            (all_tiled_numbered (next + count t) ts (end_of (label t).ranges) to h.2),
      )

pub flat_by : (leaf g : Bool) (own opening closing : List ℕ) (ts us : Trees) → (g ≡ true → leaf ≡ true) → flat_of_all us ≡ flat_of_all ts
    → cond leaf own (opening ++ flat_of_all (cond g ts us) ++ closing) ≡ cond leaf own (opening ++ flat_of_all ts ++ closing)
flat_by true g own opening closing ts us q e = refl
flat_by false true own opening closing ts us q e = refl
flat_by false false own opening closing ts us q e = ap (λ bs. opening ++ bs ++ closing) e

pub group_leaf : (k : Kind) → is_group k ≡ true → is_leaf k ≡ true
group_leaf kind.Group e = refl
group_leaf k e = absurd (subst (λ (b : Bool). cond b ⊥ (Unit {0})) e tt)

mutual
  pub flat_numbered : (next : ℕ) (t : Tree) → flat (with_numbers next t) ≡ flat t
  flat_numbered next (tree l ts) =
      flat_by (is_leaf l.kind) (is_group l.kind) l.own l.opening l.closing ts (all_with_numbers (next_after l.kind next) ts) (group_leaf l.kind)
      (all_flat_numbered (next_after l.kind next) ts)

  pub all_flat_numbered : (next : ℕ) (ts : Trees) → flat_of_all (all_with_numbers next ts) ≡ flat_of_all ts
  all_flat_numbered next none = refl
  all_flat_numbered next (more t ts) =
      ap (λ bs. bs ++ flat_of_all (all_with_numbers (next + count t) ts)) (flat_numbered next t)
      ∙ ap (λ bs. flat t ++ bs) (all_flat_numbered (next + count t) ts)

-- ---- the source

source_by : (is : Bool) (source opening inside closing : List ℕ) (us : Trees) → source ≡ opening ++ (inside ++ closing) → flat_of_all us ≡ inside
    → cond is (if_leaf is source) (if_inner is opening ++ flat_of_all (inside_by is us) ++ if_inner is closing) ≡ source
source_by true source opening inside closing us e g = refl
source_by false source opening inside closing us e g = ap (λ bs. opening ++ bs ++ closing) g ∙ append_assoc opening inside closing ∙ sym e

mutual
  pub source : (calls : List OuterCall) (carried : Carried) (all : List Item) (g : Grouped) → Fills g
      → flat (placed calls carried all g) ≡ text_between calls all (start_of g) (size_of g)
  source calls carried all (kept h n o i c gs) f =
      source_by (is_leaf h.kind) (text_between calls all n (o + i + c)) (text_between calls all n o) (text_between calls all (n + o) i)
      (text_between calls all (n + o + i) c) (all_placed calls carried all gs)
      (text_three calls all n o i c) (all_source calls carried all gs (n + o) i f)
  source calls carried all (group n k ts) f = refl

  pub all_source : (calls : List OuterCall) (carried : Carried) (all : List Item) (gs : GroupedAll) (from size : ℕ) → FillFrom gs from (from + size)
      → flat_of_all (all_placed calls carried all gs) ≡ text_between calls all from size
  all_source calls carried all ended from size f = let e : 0 ≡ size = omega (arith, f) in ap (text_between calls all from) e
  all_source calls carried all (along g gs) from size f =
      let up = fill_up gs (start_of g + size_of g) (from + size) f.2 in
      let rest : ℕ = size - size_of g in
      let e : from + size ≡ start_of g + size_of g + rest = omega (arith, up, f.0) in
      let r : FillFrom gs (start_of g + size_of g) (start_of g + size_of g + rest) = subst (λ (m : ℕ). FillFrom gs (start_of g + size_of g) m) e f.2 in
      let s : size_of g + rest ≡ size = omega (arith, up, f.0) in
      ap (λ bs. bs ++ flat_of_all (all_placed calls carried all gs)) (source calls carried all g f.1)
      ∙ ap (λ bs. text_between calls all (start_of g) (size_of g) ++ bs) (all_source calls carried all gs (start_of g + size_of g) rest r)
      ∙ sym (text_append calls all (start_of g) (size_of g) rest)
      ∙ ap (λ m. text_between calls all m (size_of g + rest)) f.0
      ∙ ap (text_between calls all from) s

  pub fill_up : (gs : GroupedAll) (from to : ℕ) → FillFrom gs from to → from ≤ to
  fill_up ended from to f = omega (arith, f)
  fill_up (along g gs) from to f = let u = fill_up gs (start_of g + size_of g) to f.2 in omega (arith, u, f.0)

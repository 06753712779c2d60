-- Where nodes may be written in the body within so many elements, they may be in its sections: sections nest no
-- deeper than the levels of headings.
use Rattle.std.proofs.Common.{◌≡◌, ℕ, suc, ◌+◌, ◌<◌, ◌≤◌, ◌^◌, Bool, true, false, Option, Some, None, List, [], ◌∷◌, refl, ap, subst, arith, cond}
use Rattle.std.proofs.lemmas.Bool.Decides.{nat_tests}
use Rattle.std.specs.Prelude.{◌&&◌, nat_le, if◌then◌else◌}
use Rattle.wt_tree.specs.declared.kind.Kind.{Kind}
use Rattle.wt_tree.specs.declared.kind.Kind.TheVariants as kind
use Rattle.wt_tree.specs.Kinds.{is_numbered, spelling, texts_of_kind, writing}
use Rattle.wt_recut.specs.Cutting.{begins_with_text}
use Rattle.wt_recut.specs.Recut.{is_text}
use Rattle.wt_tree.specs.Tree.{Label, Tree, tree, Trees, none, more}
use Rattle.wt_annotated.specs.Numbering.{count, count_all, all_with_numbers}
use Rattle.wt_sections.specs.Gathering.{heading_count}
use Rattle.wt_sections.specs.Sections.{Part, section, level_of, ends, opens, before, from, put, parts, part_trees, lead_if_any, gathered, with_sections}
use Rattle.wt_schema.specs.Written.{is_level, has_level, IsElementLabel, NodeIsWritten, IsCutIn, IsWrittenGroup, is_childless, WrittenIn, AllWrittenIn, PartIn, PartsIn, IsWritten}
use Rattle.wt_schema.proofs.Shallower.{written_shallower, written_in_section, node_is_part}

-- ---- the level of a heading

has_level_by : (j : Kind) (l : Label) (k : ℕ) (parent : Kind) (childless : Bool) (H G : Type 0) → l.kind ≡ j
    → NodeIsWritten (writing j) k parent l childless H G → has_level j ≡ true
unfolding spelling
has_level_by (kind.Heading n) l k parent childless H G e h = subst (λ (x : Kind). has_level x ≡ true) e h.2.level
has_level_by j l k parent childless H G e h = refl

levels_within : (n : ℕ) → (nat_le 1 n && nat_le n 6) ≡ true → (1 ≤ n) × (n ≤ 6)
levels_within n e = (grind (arith, nat_tests), grind (arith, nat_tests))

heading_level : (t : Tree) (k : ℕ) (parent : Kind) (level : ℕ) → WrittenIn k parent t → level_of t ≡ Some level → (1 ≤ level) × (level ≤ 6)
heading_level (tree l ts) k parent level h e =
    let b : has_level l.kind ≡ true =
    has_level_by l.kind l k parent (is_childless ts) (IsCutIn (texts_of_kind l.kind) ts × AllWrittenIn (suc k) l.kind ts)
    (IsWrittenGroup k parent l ts) refl h in
    levels_within level (subst (λ (o : Option ℕ). is_level o ≡ true) e b)

-- ---- a part of the body

-- within how many elements a section of this level may stand, and a node by itself: six sections lie within one
-- another below `html` and `body`
abbrev deepest : Option ℕ → ℕ
deepest None = 8
deepest (Some level) = suc level

record MayStand (p : Part) : Type 0 where
  at_top : 2 ≤ deepest p.level
  in_body : (k : ℕ) → k ≤ deepest p.level → PartIn k kind.Body p.tree
  in_section : (k : ℕ) → k ≤ deepest p.level → PartIn k (kind.Section 0) p.tree

abbrev AllMayStand : List Part → Type 0
AllMayStand [] = Unit {0}
AllMayStand (p ∷ ps) = MayStand p × ((is_text p.tree && begins_with_text (part_trees ps)) ≡ false) × AllMayStand ps

-- ---- parts, cut at a section

nothing_behind : (b : Bool) → (b && false) ≡ false
nothing_behind true = refl
nothing_behind false = refl

begins_before : (b : Bool) (limit : Option ℕ) (ps : List Part) → (b && begins_with_text (part_trees ps)) ≡ false
    → (b && begins_with_text (before limit ps)) ≡ false
begins_before b limit [] e = e
begins_before b limit (p ∷ ps) e = by_test (ends limit p.level)
  where
    by_test : (v : Bool) → (b && begins_with_text (cond v none (more p.tree (before limit ps)))) ≡ false
    by_test true = nothing_behind b
    by_test false = e

from_stands : (limit : Option ℕ) (ps : List Part) → AllMayStand ps → AllMayStand (from limit ps)
from_stands limit [] h = tt
from_stands limit (p ∷ ps) h = by_test (ends limit p.level) (from_stands limit ps h.2)
  where
    by_test : (v : Bool) → AllMayStand (from limit ps) → AllMayStand (cond v (p ∷ ps) (from limit ps))
    by_test true g = h
    by_test false g = g

-- what stands before the cut, in a section
before_stands : (limit : Option ℕ) (ps : List Part) (k : ℕ) → AllMayStand ps → ((o : Option ℕ) → ends limit o ≡ false → k ≤ deepest o)
    → PartsIn k (kind.Section 0) (before limit ps)
before_stands limit [] k h le = tt
before_stands limit (p ∷ ps) k h le = by_test (ends limit p.level) refl (before_stands limit ps k h.2 le)
  where
    by_test : (v : Bool) → ends limit p.level ≡ v → PartsIn k (kind.Section 0) (before limit ps)
        → PartsIn k (kind.Section 0) (cond v none (more p.tree (before limit ps)))
    by_test true e g = tt
    by_test false e g = (h.0.in_section k (le p.level e), begins_before (is_text p.tree) limit ps h.1, g)

parts_stand : (ps : List Part) → AllMayStand ps → PartsIn 2 kind.Body (part_trees ps)
parts_stand [] h = tt
parts_stand (p ∷ ps) h = (h.0.in_body 2 h.0.at_top, h.1, parts_stand ps h.2)

deeper_levels : (level k : ℕ) → level ≤ 6 → k ≤ suc (suc level) → (o : Option ℕ) → ends (Some level) o ≡ false → k ≤ deepest o
deeper_levels level k six le None e = omega (arith, six, le)
deeper_levels level k six le (Some m) e = let deeper : level < m = grind (arith, nat_tests) in omega (arith, le, deeper)

no_level : (o : Option ℕ) → ends None o ≡ false → 3 ≤ deepest o
no_level None e = omega arith
no_level (Some m) e = absurd (cc e)

-- ---- children and sections as parts

child_stands : (t : Tree) → WrittenIn 8 kind.Body t → MayStand (record { level = None; tree = t })
child_stands t h = record {
  at_top = omega arith;
  in_body = λ k le. node_is_part t k kind.Body (written_shallower t 8 k kind.Body le h);
  in_section = λ k le. node_is_part t k (kind.Section 0) (written_in_section t k (written_shallower t 8 k kind.Body le h));
}

-- what a section of this level holds
held_stands : (level : ℕ) (t : Tree) (ps : List Part) (k : ℕ) → level ≤ 6 → k ≤ suc (suc level) → WrittenIn 8 kind.Body t
    → (is_text t && begins_with_text (part_trees ps)) ≡ false → AllMayStand ps → PartsIn k (kind.Section 0) (more t (before (Some level) ps))
held_stands level t ps k six le h a g = (
  node_is_part t k (kind.Section 0) (written_in_section t k (written_shallower t 8 k kind.Body (omega (arith, six, le)) h)),
  begins_before (is_text t) (Some level) ps a,
  before_stands (Some level) ps k g (deeper_levels level k six le),
)

section_stands : (n level : ℕ) (t : Tree) (ps : List Part) → n < 2 ^ 32 → 1 ≤ level → level ≤ 6 → WrittenIn 8 kind.Body t
    → (is_text t && begins_with_text (part_trees ps)) ≡ false → AllMayStand ps
    → MayStand (record { level = Some level; tree = section n t (before (Some level) ps) })
section_stands n level t ps room one six h a g = record {
  at_top = omega (arith, one);
  in_body = λ k le. (omega (arith, six, le), room, held_stands level t ps (suc k) six (omega (arith, le)) h a g);
  in_section = λ k le. (omega (arith, six, le), room, held_stands level t ps (suc k) six (omega (arith, le)) h a g);
}

put_stands : (o : Option ℕ) (n : ℕ) (t : Tree) (ps : List Part) → level_of t ≡ o → n + opens o ≤ 2 ^ 32 → WrittenIn 8 kind.Body t
    → (is_text t && begins_with_text (part_trees ps)) ≡ false → AllMayStand ps → AllMayStand (put n o t ps)
put_stands None n t ps e room h a g = (child_stands t h, a, g)
put_stands (Some level) n t ps e room h a g =
    let l : (1 ≤ level) × (level ≤ 6) = heading_level t 8 kind.Body level h e in
    (section_stands n level t ps (omega (arith, room)) l.0 l.1 h a g, refl, from_stands (Some level) ps g)

put_begins : (b : Bool) (o : Option ℕ) (n : ℕ) (t : Tree) (ps : List Part) → (b && is_text t) ≡ false
    → (b && begins_with_text (part_trees (put n o t ps))) ≡ false
put_begins b None n t ps e = e
put_begins b (Some level) n t ps e = nothing_behind b

parts_begin : (b : Bool) (n : ℕ) (ts : Trees) → (b && begins_with_text ts) ≡ false → (b && begins_with_text (part_trees (parts n ts))) ≡ false
parts_begin b n none e = e
parts_begin b n (more t ts) e = put_begins b (level_of t) n t (parts (n + opens (level_of t)) ts) e

all_stand : (ts : Trees) (n : ℕ) → n + heading_count ts ≤ 2 ^ 32 → AllWrittenIn 8 kind.Body ts → AllMayStand (parts n ts)
all_stand none n room h = tt
all_stand (more t ts) n room h =
    let k : ℕ = n + opens (level_of t) in
    put_stands (level_of t) n t (parts k ts) refl (omega (arith, room)) h.0 (parts_begin (is_text t) k ts h.1)
    (all_stand ts k (omega (arith, room)) h.2)

-- ---- the body

lead_stands : (us vs : Trees) → PartsIn 3 (kind.Section 0) us → PartsIn 2 kind.Body vs → PartsIn 2 kind.Body (lead_if_any us vs)
lead_stands none vs h g = g
lead_stands (more t us) vs h g = ((omega arith, omega arith, h), refl, g)

gathered_stand : (ts : Trees) → 1 + heading_count ts ≤ 2 ^ 32 → AllWrittenIn 8 kind.Body ts → PartsIn 2 kind.Body (gathered ts)
gathered_stand ts room h =
    let g : AllMayStand (parts 1 ts) = all_stand ts 1 room h in
    lead_stands (before None (parts 1 ts)) (part_trees (from None (parts 1 ts))) (before_stands None (parts 1 ts) 3 g no_level)
    (parts_stand (from None (parts 1 ts)) (from_stands None (parts 1 ts) g))

-- a body whose children may stand within eight elements, with fewer headings than there are numbers of sections
abbrev pub IsWrittenBody : Tree → Type 0
IsWrittenBody (tree l ts) = (l.kind ≡ kind.Body) × IsElementLabel l × AllWrittenIn 8 kind.Body ts × (1 + heading_count ts ≤ 2 ^ 32)

-- it may be written with its sections
pub sections_written : (t : Tree) → IsWrittenBody t → IsWritten (with_sections t)
sections_written (tree l ts) h = (h.0, h.1, gathered_stand ts h.3 h.2)

-- ---- how many sections

opened_by : (k : Kind) → opens (spelling k).level ≤ (if is_numbered k then 1 else 0)
unfolding spelling
opened_by (kind.Heading n) = omega arith
opened_by k = omega arith

-- at most one for each node that has a number
pub headings_few : (ts : Trees) → heading_count ts ≤ count_all ts
headings_few none = omega arith
headings_few (more (tree l us) ts) =
    let a : opens (spelling l.kind).level ≤ (if is_numbered l.kind then 1 else 0) = opened_by l.kind in
    let b : heading_count ts ≤ count_all ts = headings_few ts in
    omega (arith, a, b)

pub headings_numbered : (n : ℕ) (ts : Trees) → heading_count (all_with_numbers n ts) ≡ heading_count ts
headings_numbered n none = refl
headings_numbered n (more (tree l us) ts) = ap (λ k. opens (spelling l.kind).level + k) (headings_numbered (n + count (tree l us)) ts)

-- What is said of all places of a tree is said of those of its sections.
use Rattle.std.proofs.Common.{◌≡◌, ℕ, ◌+◌, ◌-◌, Bool, true, false, Option, Some, None, List, [], ◌∷◌, subst, arith}
use Rattle.std.specs.Prelude.{if◌then◌else◌}
use Rattle.wt_tree.specs.declared.kind.Ranges.{Ranges}
use Rattle.wt_tree.specs.Tree.{Tree, tree, Trees, none, more, label}
use Rattle.wt_sections.specs.Sections.{Part, last_ranges, spanned, section, level_of, ends, opens, before, from, put, parts, part_trees, lead_if_any, with_sections}
use Rattle.wt_slices.specs.Borders.{Said, IsSaidOf, IsSaidIn, IsSaidInAll}

top_said : (P : Said) (t : Tree) → IsSaidIn P t → IsSaidOf P (label t).ranges
top_said P (tree l ts) h = h.0

spanned_said : (P : Said) (o s : Option Ranges) → IsSaidOf P o → IsSaidOf P s → IsSaidOf P (spanned o s)
spanned_said P None s f g = tt
spanned_said P (Some r) None f g = tt
spanned_said P (Some r) (Some s) f g =
    let first : r.start ≡ r.start + 0 = omega arith in
    let last : s.end ≡ s.end - 0 = omega arith in
    (f.0, subst P first f.0, subst P last g.3, g.3)

last_said : (P : Said) (o : Option Ranges) (ts : Trees) → IsSaidOf P o → IsSaidInAll P ts → IsSaidOf P (last_ranges o ts)
last_said P o none f g = f
last_said P o (more t ts) f g = last_said P (label t).ranges ts (top_said P t g.0) g.1

section_said : (P : Said) (n : ℕ) (t : Tree) (ts : Trees) → IsSaidIn P t → IsSaidInAll P ts → IsSaidIn P (section n t ts)
section_said P n t ts f g =
    let o = (label t).ranges in
    (spanned_said P o (last_ranges o ts) (top_said P t f) (last_said P o ts (top_said P t f) g), (f, g))

either : (P : Said) (b : Bool) (ts us : Trees) → IsSaidInAll P ts → IsSaidInAll P us → IsSaidInAll P (if b then ts else us)
either P true ts us f g = f
either P false ts us f g = g

either_parts : (P : Said) (b : Bool) (ps qs : List Part) → IsSaidInAll P (part_trees ps) → IsSaidInAll P (part_trees qs)
    → IsSaidInAll P (part_trees (if b then ps else qs))
either_parts P true ps qs f g = f
either_parts P false ps qs f g = g

before_said : (P : Said) (limit : Option ℕ) (ps : List Part) → IsSaidInAll P (part_trees ps) → IsSaidInAll P (before limit ps)
before_said P limit [] h = tt
before_said P limit (p ∷ ps) h =
    either P (ends limit p.level) none (more p.tree (before limit ps)) tt (h.0, before_said P limit ps h.1)

from_said : (P : Said) (limit : Option ℕ) (ps : List Part) → IsSaidInAll P (part_trees ps) → IsSaidInAll P (part_trees (from limit ps))
from_said P limit [] h = tt
from_said P limit (p ∷ ps) h = either_parts P (ends limit p.level) (p ∷ ps) (from limit ps) h (from_said P limit ps h.1)

put_said : (P : Said) (n : ℕ) (o : Option ℕ) (t : Tree) (ps : List Part) → IsSaidIn P t → IsSaidInAll P (part_trees ps)
    → IsSaidInAll P (part_trees (put n o t ps))
put_said P n None t ps f g = (f, g)
put_said P n (Some level) t ps f g =
    (section_said P n t (before (Some level) ps) f (before_said P (Some level) ps g), from_said P (Some level) ps g)

parts_said : (P : Said) (n : ℕ) (ts : Trees) → IsSaidInAll P ts → IsSaidInAll P (part_trees (parts n ts))
parts_said P n none h = tt
parts_said P n (more t ts) h =
    let m = n + opens (level_of t) in
    put_said P n (level_of t) t (parts m ts) h.0 (parts_said P m ts h.1)

lead_said : (P : Said) (ts rest : Trees) → IsSaidInAll P ts → IsSaidInAll P rest → IsSaidInAll P (lead_if_any ts rest)
lead_said P none rest f g = g
lead_said P (more t ts) rest f g = (section_said P 0 t ts f.0 f.1, g)

pub sections_said : (P : Said) (t : Tree) → IsSaidIn P t → IsSaidIn P (with_sections t)
sections_said P (tree l ts) h =
    let ps = parts 1 ts in
    let there = parts_said P 1 ts h.1 in
    (h.0, lead_said P (before None ps) (part_trees (from None ps)) (before_said P None ps there) (from_said P None ps there))

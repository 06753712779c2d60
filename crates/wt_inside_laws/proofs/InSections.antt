-- Sections are gathered round the same children, before the inside of a block is replaced or afterwards.
use Rattle.std.proofs.Common.{arith, true≢false, ◌≡◌, ℕ, ◌+◌, ◌-◌, ◌≤◌, ◌==◌, Bool, true, false, Option, Some, None, List, [], ◌∷◌, map, refl, sym, ap, ap₂, ◌∙◌, cond}
use Rattle.wt_tree.specs.declared.kind.Ranges.{Ranges}
use Rattle.wt_tree.specs.Tree.{Label, Tree, tree, Trees, none, more, label}
use Rattle.wt_sections.specs.Sections.{spanned, last_ranges, section_label, section, Part, level_of, ends, before, from, put, opens, parts, part_trees, lead_if_any, with_lead, gathered, with_sections}
use Rattle.wt_inside_laws.specs.Replaced.{Edit, moved_range, moved_label, renumbered, with_inside, all_with_inside}
use Rattle.wt_inside_laws.proofs.Behind.{test_no_less, test_below}

same_level : (e : Edit) (t : Tree) → level_of (with_inside e t) ≡ level_of t
same_level e (tree l ts) = refl

same_ranges : (e : Edit) (t : Tree) → (label (with_inside e t)).ranges ≡ moved_range e (label t).ranges
same_ranges e (tree l ts) = refl

span_moved : (e : Edit) (r s : Option Ranges) → moved_range e (spanned r s) ≡ spanned (moved_range e r) (moved_range e s)
span_moved e None s = refl
span_moved e (Some r) None = refl
span_moved e (Some r) (Some s) = refl

last_moved : (e : Edit) (r : Option Ranges) (ts : Trees) → moved_range e (last_ranges r ts) ≡ last_ranges (moved_range e r) (all_with_inside e ts)
last_moved e r none = refl
last_moved e r (more (tree l us) ts) = last_moved e l.ranges ts

pub zero_stays : (e : Edit) → renumbered e 0 ≡ 0
zero_stays e = ap (λ (w : Bool). cond w (e.new_last + (0 - e.old_last)) 0) (test_no_less e.old_last 0 (omega arith))

pub not_number : (here : Bool) (is ts : Trees) → here ≡ false → cond here is ts ≡ ts
not_number true is ts h = absurd (true≢false h)
not_number false is ts h = refl

section_moved : (e : Edit) (n : ℕ) (t : Tree) (ts : Trees) → 1 ≤ e.number
    → with_inside e (section n t ts) ≡ section n (with_inside e t) (all_with_inside e ts)
section_moved e n (tree l us) ts first =
    let t : Tree = tree l us in
    let r : Option Ranges = spanned l.ranges (last_ranges l.ranges ts) in
    ap₂ tree
    (ap₂ (λ (i : ℕ) (x : Option Ranges). record (section_label n r) { id = i; ranges = x }) (zero_stays e)
    (span_moved e l.ranges (last_ranges l.ranges ts) ∙ ap (spanned (moved_range e l.ranges)) (last_moved e l.ranges ts)))
    (not_number (0 == e.number) e.inside (all_with_inside e (more t ts)) (test_below 0 e.number (omega (arith, first))))

-- ---- gathering

abbrev part_with : Edit → Part → Part
part_with e p = record { level = p.level; tree = with_inside e p.tree }

before_by : (e : Edit) (v : Bool) (t : Tree) (us ts : Trees) → us ≡ all_with_inside e ts
    → cond v none (more (with_inside e t) us) ≡ all_with_inside e (cond v none (more t ts))
before_by e true t us ts h = refl
before_by e false t us ts h = ap (more (with_inside e t)) h

before_moved : (e : Edit) (limit : Option ℕ) (ps : List Part) → before limit (map (part_with e) ps) ≡ all_with_inside e (before limit ps)
before_moved e limit [] = refl
before_moved e limit (p ∷ ps) = before_by e (ends limit p.level) p.tree (before limit (map (part_with e) ps)) (before limit ps) (before_moved e limit ps)

from_by : (e : Edit) (v : Bool) (p : Part) (ps rs : List Part) (qs : List Part) → qs ≡ map (part_with e) rs
    → cond v (part_with e p ∷ map (part_with e) ps) qs ≡ map (part_with e) (cond v (p ∷ ps) rs)
from_by e true p ps rs qs h = refl
from_by e false p ps rs qs h = h

from_moved : (e : Edit) (limit : Option ℕ) (ps : List Part) → from limit (map (part_with e) ps) ≡ map (part_with e) (from limit ps)
from_moved e limit [] = refl
from_moved e limit (p ∷ ps) = from_by e (ends limit p.level) p ps (from limit ps) (from limit (map (part_with e) ps)) (from_moved e limit ps)

put_moved : (e : Edit) (n : ℕ) (level : Option ℕ) (t : Tree) (ps : List Part) → 1 ≤ e.number
    → put n level (with_inside e t) (map (part_with e) ps) ≡ map (part_with e) (put n level t ps)
put_moved e n None t ps first = refl
put_moved e n (Some level) t ps first =
    ap₂ (λ (u : Tree) (qs : List Part). record { level = Some level; tree = u } ∷ qs)
    (ap (section n (with_inside e t)) (before_moved e (Some level) ps) ∙ sym (section_moved e n t (before (Some level) ps) first))
    (from_moved e (Some level) ps)

parts_moved : (e : Edit) (n : ℕ) (ts : Trees) → 1 ≤ e.number → parts n (all_with_inside e ts) ≡ map (part_with e) (parts n ts)
parts_moved e n none first = refl
parts_moved e n (more (tree l us) ts) first =
    let t : Tree = tree l us in
    let m : ℕ = n + opens (level_of t) in
    ap (put n (level_of t) (with_inside e t)) (parts_moved e m ts first) ∙ put_moved e n (level_of t) t (parts m ts) first

trees_moved : (e : Edit) (ps : List Part) → part_trees (map (part_with e) ps) ≡ all_with_inside e (part_trees ps)
trees_moved e [] = refl
trees_moved e (p ∷ ps) = ap (more (with_inside e p.tree)) (trees_moved e ps)

lead_moved : (e : Edit) (ts rest : Trees) → 1 ≤ e.number → lead_if_any (all_with_inside e ts) (all_with_inside e rest) ≡ all_with_inside e (lead_if_any ts rest)
lead_moved e none rest first = refl
lead_moved e (more t ts) rest first = ap (λ u. more u (all_with_inside e rest)) (sym (section_moved e 0 t ts first))

gathered_moved : (e : Edit) (ts : Trees) → 1 ≤ e.number → gathered (all_with_inside e ts) ≡ all_with_inside e (gathered ts)
gathered_moved e ts first =
    let ps : List Part = parts 1 ts in
    ap with_lead (parts_moved e 1 ts first)
    ∙ ap₂ lead_if_any (before_moved e None ps) (ap part_trees (from_moved e None ps) ∙ trees_moved e (from None ps))
    ∙ lead_moved e (before None ps) (part_trees (from None ps)) first

-- of a body, which has no number
pub sections_moved : (e : Edit) (l : Label) (ts : Trees) → with_inside e (tree l ts) ≡ tree (moved_label e l) (all_with_inside e ts)
    → with_inside e (tree l (gathered ts)) ≡ tree (moved_label e l) (all_with_inside e (gathered ts)) → 1 ≤ e.number
    → with_sections (with_inside e (tree l ts)) ≡ with_inside e (with_sections (tree l ts))
sections_moved e l ts is so first =
    ap with_sections is ∙ ap (tree (moved_label e l)) (gathered_moved e ts first) ∙ sym so

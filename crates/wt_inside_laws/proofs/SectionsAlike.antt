-- An edit that is local leaves the sections of a page as they are.
use Rattle.std.proofs.Common.{◌≡◌, ℕ, ◌+◌, Bool, true, false, Option, Some, None, List, [], ◌∷◌, refl, sym, ap, subst}
use Rattle.std.specs.Prelude.{if◌then◌else◌}
use Rattle.std.specs.Str.{IsUtf8}
use Rattle.wt_tree.specs.declared.kind.Kind.{Kind}
use Rattle.wt_tree.specs.Kinds.{is_section, spelling}
use Rattle.wt_tree.specs.Tree.{Label, Tree, tree, Trees, none, more, label}
use Rattle.wt_checks.specs.Kept.{children}
use Rattle.wt_sections.specs.SectionLaws.{NoneIsSection}
use Rattle.wt_sections.specs.Sections.{Part, level_of, ends, before, from, put, opens, parts, part_trees, lead_if_any, gathered, with_sections}
use Rattle.wt_expand.specs.Work.{Pages}
use Rattle.wt_page_round_trip.specs.PageTree.{page_tree}
use Rattle.wt_page_round_trip.proofs.DrawnPages.{HoldsNoSection}
use Rattle.wt_page_round_trip.proofs.Pages.{page_none}
use Rattle.wt_commands.specs.Answers.{refusal_of_page}
use Rattle.wt_typed_blocks.specs.Edited.{Edited, stays, edited, round, Edits, no_edits, more_edits}
use Rattle.wt_called_edit_laws.specs.Groups.{called_tree}
use Rattle.wt_called_edit_laws.specs.LocalChange.{Shift, no_shift, past_node, IsLocalAt, AreLocal, IsLocalChange}
use Rattle.wt_inside_laws.specs.SectionsAlike.{BothSections, IsInSectionsAs, AreInSectionsAs}

-- ---- nodes that are no sections

-- of one level
record IsLevelAs (t u : Tree) : Type 0 where
  level : level_of t ≡ level_of u
  first : is_section (label t).kind ≡ false
  second : is_section (label u).kind ≡ false

abbrev AreLevelAs : Trees → Trees → Type 0
AreLevelAs none none = Unit {0}
AreLevelAs none (more u us) = ⊥
AreLevelAs (more t ts) none = ⊥
AreLevelAs (more t ts) (more u us) = IsLevelAs t u × AreLevelAs ts us

both_false : (v w : Bool) (A : Type 0) → v ≡ false → w ≡ false → BothSections v w A
both_false false false A e f = tt
both_false false true A e f = let no : true ≡ false = f in absurd (cc)
both_false true w A e f = let no : true ≡ false = e in absurd (cc)

neither : (t u : Tree) → IsLevelAs t u → IsInSectionsAs t u
neither (tree l ts) (tree m us) h = both_false (is_section l.kind) (is_section m.kind) _ h.first h.second

-- ---- gathered

record IsPartAs (p q : Part) : Type 0 where
  level : p.level ≡ q.level
  tree : IsInSectionsAs p.tree q.tree

abbrev ArePartsAs : List Part → List Part → Type 0
ArePartsAs [] [] = Unit {0}
ArePartsAs [] (q ∷ qs) = ⊥
ArePartsAs (p ∷ ps) [] = ⊥
ArePartsAs (p ∷ ps) (q ∷ qs) = IsPartAs p q × ArePartsAs ps qs

before_as : (o : Option ℕ) (ps qs : List Part) → ArePartsAs ps qs → AreInSectionsAs (before o ps) (before o qs)
before_as o [] [] h = tt
before_as o [] (q ∷ qs) h = absurd h
before_as o (p ∷ ps) [] h = absurd h
before_as o (p ∷ ps) (q ∷ qs) h =
    let part : IsPartAs p q = h.0 in
    subst (λ (k : Option ℕ). AreInSectionsAs (before o (p ∷ ps)) (if ends o k then none else more q.tree (before o qs))) part.level
    (by (ends o p.level) (before_as o ps qs h.1))
  where
    by : (v : Bool) → AreInSectionsAs (before o ps) (before o qs)
        → AreInSectionsAs (if v then none else more p.tree (before o ps)) (if v then none else more q.tree (before o qs))
    by true r = tt
    by false r = let part : IsPartAs p q = h.0 in (part.tree, r)

from_as : (o : Option ℕ) (ps qs : List Part) → ArePartsAs ps qs → ArePartsAs (from o ps) (from o qs)
from_as o [] [] h = tt
from_as o [] (q ∷ qs) h = absurd h
from_as o (p ∷ ps) [] h = absurd h
from_as o (p ∷ ps) (q ∷ qs) h =
    let part : IsPartAs p q = h.0 in
    subst (λ (k : Option ℕ). ArePartsAs (from o (p ∷ ps)) (if ends o k then q ∷ qs else from o qs)) part.level (by (ends o p.level) (from_as o ps qs h.1))
  where
    by : (v : Bool) → ArePartsAs (from o ps) (from o qs) → ArePartsAs (if v then p ∷ ps else from o ps) (if v then q ∷ qs else from o qs)
    by true r = h
    by false r = r

put_as : (n : ℕ) (o : Option ℕ) (t u : Tree) (ps qs : List Part) → IsLevelAs t u → ArePartsAs ps qs → ArePartsAs (put n o t ps) (put n o u qs)
put_as n None t u ps qs h g = (record { level = refl; tree = neither t u h }, g)
put_as n (Some k) t u ps qs h g =
    (record { level = refl; tree = (refl, (neither t u h, before_as (Some k) ps qs g)) }, from_as (Some k) ps qs g)

parts_as : (n : ℕ) (ts us : Trees) → AreLevelAs ts us → ArePartsAs (parts n ts) (parts n us)
parts_as n none none h = tt
parts_as n none (more u us) h = absurd h
parts_as n (more t ts) none h = absurd h
parts_as n (more t ts) (more u us) h =
    let first : IsLevelAs t u = h.0 in
    subst (λ (k : Option ℕ). ArePartsAs (put n (level_of t) t (parts (n + opens (level_of t)) ts)) (put n k u (parts (n + opens k) us))) first.level
    (put_as n (level_of t) t u (parts (n + opens (level_of t)) ts) (parts (n + opens (level_of t)) us) first
    (parts_as (n + opens (level_of t)) ts us h.1))

part_trees_as : (ps qs : List Part) → ArePartsAs ps qs → AreInSectionsAs (part_trees ps) (part_trees qs)
part_trees_as [] [] h = tt
part_trees_as [] (q ∷ qs) h = absurd h
part_trees_as (p ∷ ps) [] h = absurd h
part_trees_as (p ∷ ps) (q ∷ qs) h = let part : IsPartAs p q = h.0 in (part.tree, part_trees_as ps qs h.1)

lead_as : (xs ys cs ds : Trees) → AreInSectionsAs xs ys → AreInSectionsAs cs ds → AreInSectionsAs (lead_if_any xs cs) (lead_if_any ys ds)
lead_as none none cs ds h g = g
lead_as none (more u us) cs ds h g = absurd h
lead_as (more t ts) none cs ds h g = absurd h
lead_as (more t ts) (more u us) cs ds h g = ((refl, h), g)

gathered_as : (ts us : Trees) → AreLevelAs ts us → AreInSectionsAs (gathered ts) (gathered us)
gathered_as ts us h =
    let ps : ArePartsAs (parts 1 ts) (parts 1 us) = parts_as 1 ts us h in
    lead_as (before None (parts 1 ts)) (before None (parts 1 us)) (part_trees (from None (parts 1 ts))) (part_trees (from None (parts 1 us)))
    (before_as None (parts 1 ts) (parts 1 us) ps)
    (part_trees_as (from None (parts 1 ts)) (from None (parts 1 us)) (from_as None (parts 1 ts) (parts 1 us) ps))

-- ---- a local edit

same_kind : (e : Edited) (s : Shift) (t u : Tree) → IsLocalAt e s t u → (label t).kind ≡ (label u).kind
same_kind (stays a b) s (tree l ts) (tree m us) h = ap (λ (x : Label). x.kind) h.0
same_kind (edited k l m ps) s t u h = let kindred = h.0 in kindred.kind
same_kind (round x y es) s (tree l ts) (tree m us) h = ap (λ (z : Label). z.kind) h.0

local_levels : (es : Edits) (s : Shift) (ts us : Trees) → AreLocal es s ts us → NoneIsSection ts → AreLevelAs ts us
local_levels no_edits s none none h n = tt
local_levels no_edits s none (more u us) h n = absurd h
local_levels no_edits s (more t ts) us h n = absurd h
local_levels (more_edits e es) s none us h n = absurd h
local_levels (more_edits e es) s (more t ts) none h n = absurd h
local_levels (more_edits e es) s (more t ts) (more u us) h n =
    let k : (label t).kind ≡ (label u).kind = same_kind e s t u h.0 in (
      record {
        level = ap (λ (j : Kind). (spelling j).level) k;
        first = n.0;
        second = subst (λ (j : Kind). is_section j ≡ false) k n.0;
      },
      local_levels es (past_node e s t u) ts us h.1 n.1,
    )

children_gathered : (t : Tree) → children (with_sections t) ≡ gathered (children t)
children_gathered (tree l ts) = refl

none_there : (t : Tree) → HoldsNoSection t → NoneIsSection (children t)
none_there (tree l ts) h = h

pub sections_alike : (pages : Pages) (page made : List ℕ) (es : Edits) → IsUtf8 page → refusal_of_page pages page ≡ None → IsLocalChange pages page made es
    → AreInSectionsAs (children (page_tree pages page)) (children (page_tree pages made))
sections_alike pages page made es utf8 unrefused h =
    let was : Tree = called_tree pages page in
    let now : Tree = called_tree pages made in
    subst (λ (ts : Trees). AreInSectionsAs ts (children (page_tree pages made))) (sym (children_gathered was))
    (subst (λ (us : Trees). AreInSectionsAs (gathered (children was)) us) (sym (children_gathered now))
    (gathered_as (children was) (children now)
    (local_levels es no_shift (children was) (children now) h.nodes (none_there was (page_none pages page utf8 unrefused)))))

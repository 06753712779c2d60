-- A section goes up to the next heading of its level or a smaller one, and no further.
use Rattle.std.proofs.Common.{◌≡◌, ℕ, ◌+◌, Bool, true, false, Option, Some, None, List, [], ◌∷◌, ◌++◌, refl, sym, ap, ◌∙◌, subst, cond, arith}
use Rattle.std.proofs.lemmas.Bool.Decides.{nat_tests}
use Rattle.std.specs.Prelude.{is_some}
use Rattle.std.specs.List.{AllByRecursion}
use Rattle.wt_tree.specs.Kinds.{is_section}
use Rattle.wt_tree.specs.Opened.{opened_before, all_opened_before, opened}
use Rattle.wt_tree.specs.Tree.{Tree, tree, Trees, none, more, label, listed}
use Rattle.wt_recut.proofs.Openings.{listed_opened}
use Rattle.wt_sections.specs.Sections.{Part, level_of, ends, opens, before, from, put, parts, part_trees, section, lead_if_any, gathered}
use Rattle.wt_sections.specs.SectionLaws.{NoneIsSection, IsDeeper, IsDeep, sections_in, sections_in_all, up_to_heading}
use Rattle.wt_sections.proofs.Opened.{cut_sections, no_sections, before_heading, none_before}

-- ---- levels

-- what is deeper than a heading that doesn't end a section doesn't end it either
deeper_by : (limit : Option ℕ) (level : ℕ) (o : Option ℕ) → ends limit (Some level) ≡ false → ends (Some level) o ≡ false → ends limit o ≡ false
deeper_by limit level None e f = refl
deeper_by None level (Some m) e f = absurd (cc e)
deeper_by (Some n) level (Some m) e f = grind (arith, nat_tests, e, f)

abbrev AreDeeper : Option ℕ → List Tree → Type 0
AreDeeper limit ts = AllByRecursion (IsDeeper limit) ts

deeper_append : (limit : Option ℕ) (ts us : List Tree) → AreDeeper limit ts → AreDeeper limit us → AreDeeper limit (ts ++ us)
deeper_append limit [] us h g = g
deeper_append limit (t ∷ ts) us h g = (h.0, deeper_append limit ts us h.1 g)

all_deeper : (limit : Option ℕ) (level : ℕ) (ts : List Tree) → ends limit (Some level) ≡ false → AreDeeper (Some level) ts → AreDeeper limit ts
all_deeper limit level [] e h = tt
all_deeper limit level (t ∷ ts) e h = (deeper_by limit level (level_of t) e h.0, all_deeper limit level ts e h.1)

-- ---- parts

-- what a part holds, opened: a child that is no heading, or a heading of its level and what is deeper
abbrev IsSound : Option ℕ → List Tree → Type 0
IsSound None us = AreDeeper None us
IsSound (Some level) us = (t : Tree) × (ts : List Tree) × (us ≡ t ∷ ts) × (level_of t ≡ Some level) × AreDeeper (Some level) ts

abbrev AreSound : List Part → Type 0
AreSound ps = AllByRecursion (λ (p : Part). IsSound p.level (listed (opened_before p.tree none))) ps

-- a part that doesn't end a section stands in it deeper than what opens the section
no_deeper_none : (limit : Option ℕ) (us : List Tree) → AreDeeper None us → AreDeeper limit us
no_deeper_none limit [] h = tt
no_deeper_none limit (u ∷ us) h = (by_level (level_of u) h.0, no_deeper_none limit us h.1)
  where
    by_level : (o : Option ℕ) → ends None o ≡ false → ends limit o ≡ false
    by_level None e = refl
    by_level (Some level) e = absurd (cc e)

sound_deeper : (limit o : Option ℕ) (us : List Tree) → ends limit o ≡ false → IsSound o us → AreDeeper limit us
sound_deeper limit None us e h = no_deeper_none limit us h
sound_deeper limit (Some level) us e h =
    subst (λ (ts : List Tree). AreDeeper limit ts) (sym h.2)
    (ap (ends limit) h.3 ∙ e, all_deeper limit level h.1 e h.4)

before_deeper : (limit : Option ℕ) (ps : List Part) → AreSound ps → AreDeeper limit (listed (opened (before limit ps)))
before_deeper limit [] h = tt
before_deeper limit (p ∷ ps) h = by_test (ends limit p.level) refl (before_deeper limit ps h.1)
  where
    by_test : (v : Bool) → ends limit p.level ≡ v → AreDeeper limit (listed (opened (before limit ps)))
        → AreDeeper limit (listed (opened (cond v none (more p.tree (before limit ps)))))
    by_test true e g = tt
    by_test false e g =
        subst (λ (ts : List Tree). AreDeeper limit ts) (sym (listed_opened p.tree (before limit ps)))
        (deeper_append limit (listed (opened_before p.tree none)) (listed (opened (before limit ps)))
        (sound_deeper limit p.level (listed (opened_before p.tree none)) e h.0) g)

from_sound : (limit : Option ℕ) (ps : List Part) → AreSound ps → AreSound (from limit ps)
from_sound limit [] h = tt
from_sound limit (p ∷ ps) h = by_test (ends limit p.level) (from_sound limit ps h.1)
  where
    by_test : (v : Bool) → AreSound (from limit ps) → AreSound (cond v (p ∷ ps) (from limit ps))
    by_test true g = h
    by_test false g = g

-- a child by itself, opened
alone_listed : (t : Tree) → is_section (label t).kind ≡ false → listed (opened_before t none) ≡ t ∷ []
alone_listed (tree l ts) e = ap (λ v. listed (cond v (all_opened_before ts none) (more (tree l ts) none))) e

put_sound : (o : Option ℕ) (n : ℕ) (t : Tree) (ps : List Part) → level_of t ≡ o → is_section (label t).kind ≡ false → AreSound ps → AreSound (put n o t ps)
put_sound None n t ps e f h =
    (subst (λ (ts : List Tree). AreDeeper None ts) (sym (alone_listed t f)) (ap (ends None) e, tt), h)
put_sound (Some level) n t ps e f h =
    let held : List Tree = listed (opened (before (Some level) ps)) in
    let all : listed (opened (more t (before (Some level) ps))) ≡ t ∷ held =
    listed_opened t (before (Some level) ps) ∙ ap (λ ts. ts ++ held) (alone_listed t f) in
    ((t, held, all, e, before_deeper (Some level) ps h), from_sound (Some level) ps h)

parts_sound : (ts : Trees) (n : ℕ) → NoneIsSection ts → AreSound (parts n ts)
parts_sound none n h = tt
parts_sound (more t ts) n h = put_sound (level_of t) n t (parts (n + opens (level_of t)) ts) refl h.0 (parts_sound ts (n + opens (level_of t)) h.1)

-- ---- sections

abbrev AreDeep : List Tree → Type 0
AreDeep ts = AllByRecursion IsDeep ts

put_deep : (o : Option ℕ) (n : ℕ) (t : Tree) (ps : List Part) → level_of t ≡ o → is_section (label t).kind ≡ false → AreSound ps
    → AreDeep (sections_in_all (part_trees ps)) → AreDeep (sections_in_all (part_trees (put n o t ps)))
put_deep None n t ps e f h g =
    subst (λ (ts : List Tree). AreDeep ts) (sym (ap (λ ts. ts ++ sections_in_all (part_trees ps)) (no_sections t f))) g
put_deep (Some level) n t ps e f h g =
    let inside : List Tree = sections_in_all (before (Some level) ps) in
    let behind : List Tree = sections_in_all (part_trees (from (Some level) ps)) in
    let all : (sections_in t ++ inside) ++ behind ≡ sections_in_all (part_trees ps) =
    ap (λ xs. (xs ++ inside) ++ behind) (no_sections t f) ∙ cut_sections (Some level) ps in (
      subst (λ (o : Option ℕ). AreDeeper o (listed (opened (before (Some level) ps)))) (sym e) (before_deeper (Some level) ps h),
      subst (λ (ts : List Tree). AreDeep ts) (sym all) g,
    )

parts_deep : (ts : Trees) (n : ℕ) → NoneIsSection ts → AreDeep (sections_in_all (part_trees (parts n ts)))
parts_deep none n h = tt
parts_deep (more t ts) n h =
    put_deep (level_of t) n t (parts (n + opens (level_of t)) ts) refl h.0 (parts_sound ts (n + opens (level_of t)) h.1)
    (parts_deep ts (n + opens (level_of t)) h.1)

lead_deep : (us vs : Trees) → AreDeeper None (listed (opened us)) → sections_in_all us ≡ [] → NoneIsSection us → AreDeep (sections_in_all vs)
    → AreDeep (sections_in_all (lead_if_any us vs))
lead_deep none vs h e f g = g
lead_deep (more t us) vs h e f g =
    let split : listed (opened (more t us)) ≡ t ∷ listed (opened us) = listed_opened t us ∙ ap (λ ts. ts ++ listed (opened us)) (alone_listed t f.0) in
    let deeper : AreDeeper None (t ∷ listed (opened us)) = subst (λ (ts : List Tree). AreDeeper None ts) split h in
    let no_level : level_of t ≡ None = none_by (level_of t) deeper.0 in (
      subst (λ (o : Option ℕ). AreDeeper o (listed (opened us))) (sym no_level) deeper.1,
      subst (λ (ts : List Tree). AreDeep (ts ++ sections_in_all vs)) (sym e) g,
    )
  where
    none_by : (o : Option ℕ) → ends None o ≡ false → o ≡ None
    none_by None k = refl
    none_by (Some level) k = absurd (cc k)

before_none : (ts : Trees) (n : ℕ) → NoneIsSection ts → NoneIsSection (before None (parts n ts))
before_none ts n h = subst NoneIsSection (sym (before_heading ts n)) (up_to ts h)
  where
    up_to : (us : Trees) → NoneIsSection us → NoneIsSection (up_to_heading us)
    up_to none k = tt
    up_to (more t us) k = by_test (is_some (level_of t)) (up_to us k.1)
      where
        by_test : (v : Bool) → NoneIsSection (up_to_heading us) → NoneIsSection (cond v none (more t (up_to_heading us)))
        by_test true g = tt
        by_test false g = (k.0, g)

pub deep : (ts : Trees) → NoneIsSection ts → AreDeep (sections_in_all (gathered ts))
deep ts h =
    let all : AreDeep (sections_in_all (part_trees (from None (parts 1 ts)))) =
    subst (λ (xs : List Tree). AreDeep xs)
    (sym (cut_sections None (parts 1 ts)) ∙ ap (λ xs. xs ++ sections_in_all (part_trees (from None (parts 1 ts)))) nothing) (parts_deep ts 1 h) in
    lead_deep (before None (parts 1 ts)) (part_trees (from None (parts 1 ts))) (before_deeper None (parts 1 ts) (parts_sound ts 1 h)) nothing
    (before_none ts 1 h) all
  where
    nothing : sections_in_all (before None (parts 1 ts)) ≡ []
    nothing = ap sections_in_all (before_heading ts 1) ∙ none_before ts h

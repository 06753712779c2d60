-- A page in sections, for an edit: its sections have neither numbers nor marks, and what is put back from it is what is put back from the
-- page without them.
use Rattle.std.proofs.Common.{◌≡◌, ℕ, ◌+◌, Bool, true, false, Option, Some, None, List, [], ◌∷◌, refl, sym, ap, ap₂, ◌∙◌, cond}
use Rattle.std.specs.Prelude.{◌==◌, if◌then◌else◌}
use Rattle.wt_tree.specs.Kinds.{is_section}
use Rattle.wt_tree.specs.Opened.{without_sections}
use Rattle.wt_tree.specs.Tiling.{is_group}
use Rattle.wt_tree.specs.Tree.{Tree, tree, Trees, none, more, label}
use Rattle.wt_sections.specs.Sections.{Part, section, level_of, ends, opens, before, from, put, parts, part_trees, lead_if_any, with_sections}
use Rattle.wt_sections.specs.SectionLaws.{NoneIsSection}
use Rattle.wt_checks.specs.BareSections.{IsBareSection, AreBareSections, HasBareSections}
use Rattle.wt_checks.specs.Places.{Page}
use Rattle.wt_checks.proofs.Sections.{AreAlike, are_alike}
use Rattle.wt_visible.specs.Restored.{held_there, group_held, held_by, restored, all_restored, restored_from}
use Rattle.wt_page_round_trip.proofs.DrawnPages.{HoldsNoSection}

-- ---- its sections are bare

child_bare : (t : Tree) → is_section (label t).kind ≡ false → IsBareSection t
child_bare (tree l ts) f = λ e. absurd (let x : false ≡ true = sym f ∙ e in cc)

section_bare : (n : ℕ) (t : Tree) (us : Trees) → AreBareSections (more t us) → IsBareSection (section n t us)
section_bare n t us h = λ e. (refl, refl, h)

cut_bare : (limit : Option ℕ) (ps : List Part) → AreBareSections (part_trees ps)
    → AreBareSections (before limit ps) × AreBareSections (part_trees (from limit ps))
cut_bare limit [] h = (tt, tt)
cut_bare limit (p ∷ ps) h = by_test (ends limit p.level) (cut_bare limit ps h.1)
  where
    by_test : (v : Bool) → AreBareSections (before limit ps) × AreBareSections (part_trees (from limit ps))
        → AreBareSections (cond v none (more p.tree (before limit ps))) × AreBareSections (part_trees (cond v (p ∷ ps) (from limit ps)))
    by_test true r = (tt, h)
    by_test false r = ((h.0, r.0), r.1)

put_bare : (o : Option ℕ) (n : ℕ) (t : Tree) (ps : List Part) → IsBareSection t → AreBareSections (part_trees ps)
    → AreBareSections (part_trees (put n o t ps))
put_bare None n t ps h g = (h, g)
put_bare (Some level) n t ps h g =
    let r = cut_bare (Some level) ps g in
    (section_bare n t (before (Some level) ps) (h, r.0), r.1)

parts_bare : (ts : Trees) (n : ℕ) → NoneIsSection ts → AreBareSections (part_trees (parts n ts))
parts_bare none n h = tt
parts_bare (more t ts) n h =
    put_bare (level_of t) n t (parts (n + opens (level_of t)) ts) (child_bare t h.0) (parts_bare ts (n + opens (level_of t)) h.1)

lead_bare : (us vs : Trees) → AreBareSections us → AreBareSections vs → AreBareSections (lead_if_any us vs)
lead_bare none vs h g = g
lead_bare (more t us) vs h g = (section_bare 0 t us h, g)

pub sections_bare : (t : Tree) → (label t).id ≡ 0 → HoldsNoSection t → HasBareSections (with_sections t)
sections_bare (tree l ts) z h =
    let r = cut_bare None (parts 1 ts) (parts_bare ts 1 h) in
    record { root = z; sections = lead_bare (before None (parts 1 ts)) (part_trees (from None (parts 1 ts))) r.0 r.1 }

-- ---- what is put back

group_alike : (p q : Page) (n : ℕ) (ts : Trees) → AreAlike p q → group_held p n ts ≡ group_held q n ts
group_alike p q n ts h = by_zero (n == 0) refl
  where
    by_zero : (b : Bool) → (n == 0) ≡ b → (if b then ts else held_there (p n) ts) ≡ (if b then ts else held_there (q n) ts)
    by_zero true e = refl
    by_zero false e = ap (λ o. held_there o ts) (h.each n e)

held_alike : (v : Bool) (p q : Page) (n : ℕ) (own us vs : Trees) → AreAlike p q → us ≡ vs → held_by p v n own us ≡ held_by q v n own vs
held_alike true p q n own us vs h e = group_alike p q n own h
held_alike false p q n own us vs h e = e

mutual
  restored_alike : (p q : Page) (t : Tree) → AreAlike p q → restored p t ≡ restored q t
  restored_alike p q (tree l ts) h =
      ap (λ us. tree l us) (held_alike (is_group l.kind) p q l.id ts (all_restored p ts) (all_restored q ts) h (all_restored_alike p q ts h))

  all_restored_alike : (p q : Page) (ts : Trees) → AreAlike p q → all_restored p ts ≡ all_restored q ts
  all_restored_alike p q none h = refl
  all_restored_alike p q (more t ts) h = ap₂ (λ u us. more u us) (restored_alike p q t h) (all_restored_alike p q ts h)

pub restored_without : (page edited : Tree) → HasBareSections page → restored_from page edited ≡ restored_from (without_sections page) edited
restored_without page edited h = restored_alike _ _ edited (are_alike page h)

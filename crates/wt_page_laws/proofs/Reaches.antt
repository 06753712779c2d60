-- A section holds the parts before the next one that ends it, which opened are the children up to the next heading
-- of its level or a smaller one.
use Rattle.std.proofs.Common.{◌≡◌, ℕ, ◌+◌, ◌<◌, Bool, true, false, Option, Some, None, List, [], ◌∷◌, ◌++◌, map, refl, sym, ap, ap₂, ◌∙◌, cond, arith}
use Rattle.std.proofs.lemmas.Bool.Decides.{nat_tests}
use Rattle.std.specs.Prelude.{is_some}
use Rattle.wt_tree.specs.Kinds.{is_section}
use Rattle.wt_tree.specs.Opened.{opened_before, all_opened_before, opened}
use Rattle.wt_tree.specs.Tree.{Tree, tree, Trees, none, more, label}
use Rattle.wt_sections.specs.Sections.{Part, level_of, ends, opens, before, from, put, parts, part_trees, section, lead_if_any, gathered}
use Rattle.wt_sections.specs.SectionLaws.{NoneIsSection, sections_in, sections_in_all, up_to_heading}
use Rattle.wt_sections.proofs.Opened.{cut_sections, no_sections, before_heading, none_before}
use Rattle.wt_page_laws.specs.Reaches.{is_within, up_to_level, reach_by, reaches, lead_reach, held}
use Rattle.wt_page_laws.proofs.SectionParts.{larger}

-- ---- levels

within_ends : (n : ℕ) (o : Option ℕ) → is_within n o ≡ ends (Some n) o
within_ends n None = refl
within_ends n (Some m) = refl

-- what doesn't end a section of a larger level doesn't end one of a smaller level either
ends_both : (n m : ℕ) (o : Option ℕ) → n < m → ends (Some m) o ≡ false → ends (Some n) o ≡ false
ends_both n m None lt e = refl
ends_both n m (Some k) lt e = grind (arith, nat_tests, lt, e)

-- ---- opened

alone : (t : Tree) (rest : Trees) → is_section (label t).kind ≡ false → opened_before t rest ≡ more t rest
alone (tree l ts) rest e = ap (λ v. cond v (all_opened_before ts rest) (more (tree l ts) rest)) e

none_opened : (ts : Trees) → NoneIsSection ts → opened ts ≡ ts
none_opened none h = refl
none_opened (more t ts) h = alone t (opened ts) h.0 ∙ ap (more t) (none_opened ts h.1)

-- parts that are cut at a larger level first
cut_deeper : (n m : ℕ) (ps : List Part) → n < m
    → all_opened_before (before (Some m) ps) (opened (before (Some n) (from (Some m) ps))) ≡ opened (before (Some n) ps)
cut_deeper n m [] lt = refl
cut_deeper n m (p ∷ ps) lt = by_test (ends (Some m) p.level) refl (cut_deeper n m ps lt)
  where
    by_test : (v : Bool) → ends (Some m) p.level ≡ v
        → all_opened_before (before (Some m) ps) (opened (before (Some n) (from (Some m) ps))) ≡ opened (before (Some n) ps)
        → all_opened_before (cond v none (more p.tree (before (Some m) ps))) (opened (before (Some n) (cond v (p ∷ ps) (from (Some m) ps))))
        ≡ opened (before (Some n) (p ∷ ps))
    by_test true e h = refl
    by_test false e h =
        ap (opened_before p.tree) h
        ∙ ap (λ v. opened (cond v none (more p.tree (before (Some n) ps)))) (sym (ends_both n m p.level lt e))

put_before : (o : Option ℕ) (n k : ℕ) (t : Tree) (ps : List Part) → is_section (label t).kind ≡ false
    → opened (before (Some n) (put k o t ps)) ≡ cond (ends (Some n) o) none (more t (opened (before (Some n) ps)))
put_before None n k t ps e = alone t (opened (before (Some n) ps)) e
put_before (Some m) n k t ps e = by_test (ends (Some n) (Some m)) refl
  where
    by_test : (v : Bool) → ends (Some n) (Some m) ≡ v
        → opened (cond v none (more (section k t (before (Some m) ps)) (before (Some n) (from (Some m) ps))))
        ≡ cond v none (more t (opened (before (Some n) ps)))
    by_test true f = refl
    by_test false f =
        alone t (all_opened_before (before (Some m) ps) (opened (before (Some n) (from (Some m) ps)))) e
        ∙ ap (more t) (cut_deeper n m ps (larger n m f))

opened_up_to : (ts : Trees) (n k : ℕ) → NoneIsSection ts → opened (before (Some n) (parts k ts)) ≡ up_to_level n ts
opened_up_to none n k h = refl
opened_up_to (more t ts) n k h =
    put_before (level_of t) n k t (parts (k + opens (level_of t)) ts) h.0
    ∙ ap (λ us. cond (ends (Some n) (level_of t)) none (more t us)) (opened_up_to ts n (k + opens (level_of t)) h.1)
    ∙ ap (λ v. cond v none (more t (up_to_level n ts))) (sym (within_ends n (level_of t)))

-- ---- what sections hold

put_held : (o : Option ℕ) (k n : ℕ) (t : Tree) (ts : Trees) → is_section (label t).kind ≡ false → NoneIsSection ts
    → map held (sections_in_all (part_trees (put k o t (parts n ts)))) ≡ reach_by o t ts ++ map held (sections_in_all (part_trees (parts n ts)))
put_held None k n t ts e h = ap (λ ss. map held (ss ++ sections_in_all (part_trees (parts n ts)))) (no_sections t e)
put_held (Some level) k n t ts e h =
    let within : List Tree = sections_in_all (before (Some level) (parts n ts)) in
    let behind : List Tree = sections_in_all (part_trees (from (Some level) (parts n ts))) in
    let all : (sections_in t ++ within) ++ behind ≡ sections_in_all (part_trees (parts n ts)) =
    ap (λ ss. (ss ++ within) ++ behind) (no_sections t e) ∙ cut_sections (Some level) (parts n ts) in
    let own : opened (more t (before (Some level) (parts n ts))) ≡ more t (up_to_level level ts) =
    alone t (opened (before (Some level) (parts n ts))) e ∙ ap (more t) (opened_up_to ts level n h) in
    ap₂ (λ us ss. us ∷ map held ss) own all

parts_held : (ts : Trees) (n : ℕ) → NoneIsSection ts → map held (sections_in_all (part_trees (parts n ts))) ≡ reaches ts
parts_held none n h = refl
parts_held (more t ts) n h =
    put_held (level_of t) n (n + opens (level_of t)) t ts h.0 h.1
    ∙ ap (λ us. reach_by (level_of t) t ts ++ us) (parts_held ts (n + opens (level_of t)) h.1)

-- ---- with the lead

lead_held : (us vs : Trees) → opened us ≡ us → sections_in_all us ≡ []
    → map held (sections_in_all (lead_if_any us vs)) ≡ lead_reach us ++ map held (sections_in_all vs)
lead_held none vs o e = refl
lead_held (more t us) vs o e = ap₂ (λ ts ss. ts ∷ map held (ss ++ sections_in_all vs)) o e

none_up_to : (ts : Trees) → NoneIsSection ts → NoneIsSection (up_to_heading ts)
none_up_to none h = tt
none_up_to (more t ts) h = by_test (is_some (level_of t)) (none_up_to ts h.1)
  where
    by_test : (v : Bool) → NoneIsSection (up_to_heading ts) → NoneIsSection (cond v none (more t (up_to_heading ts)))
    by_test true g = tt
    by_test false g = (h.0, g)

from_held : (ts : Trees) → NoneIsSection ts → map held (sections_in_all (part_trees (from None (parts 1 ts)))) ≡ reaches ts
from_held ts h =
    ap (λ ss. map held (ss ++ sections_in_all (part_trees (from None (parts 1 ts)))))
    (sym (none_before ts h) ∙ ap sections_in_all (sym (before_heading ts 1)))
    ∙ ap (map held) (cut_sections None (parts 1 ts))
    ∙ parts_held ts 1 h

pub gathered_held : (ts : Trees) → NoneIsSection ts → map held (sections_in_all (gathered ts)) ≡ lead_reach (up_to_heading ts) ++ reaches ts
gathered_held ts h =
    ap (λ us. map held (sections_in_all (lead_if_any us (part_trees (from None (parts 1 ts)))))) (before_heading ts 1)
    ∙ lead_held (up_to_heading ts) (part_trees (from None (parts 1 ts))) (none_opened (up_to_heading ts) (none_up_to ts h)) (none_before ts h)
    ∙ ap (λ us. lead_reach (up_to_heading ts) ++ us) (from_held ts h)

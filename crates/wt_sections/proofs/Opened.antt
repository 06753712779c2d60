-- What sections hold, put in their place again.
use Rattle.std.proofs.Common.{◌≡◌, ℕ, ◌+◌, Bool, true, false, Option, Some, None, List, [], ◌∷◌, ◌++◌, refl, sym, ap, ◌∙◌, cond, append_assoc}
use Rattle.std.proofs.lemmas.List.{map-append}
use Rattle.std.specs.Prelude.{map, is_some}
use Rattle.wt_tree.specs.declared.kind.Kind.{Kind}
use Rattle.wt_tree.specs.Kinds.{is_section}
use Rattle.wt_tree.specs.Opened.{opened_before, all_opened_before, opened, without_sections}
use Rattle.wt_tree.specs.Tree.{Tree, tree, Trees, none, more, label}
use Rattle.wt_sections.specs.Sections.{Part, level_of, ends, opens, before, from, put, parts, part_trees, section, lead_if_any, with_lead, gathered, with_sections}
use Rattle.wt_sections.specs.SectionLaws.{NoneIsSection, from_heading, up_to_heading, first_of, sections_in, sections_in_all, opening, opening_by, openings, lead_opening}

-- ---- parts, cut at a section

-- opened, the parts before the cut and those from there on are all parts
cut_opened : (limit : Option ℕ) (ps : List Part) (rest : Trees)
    → all_opened_before (before limit ps) (all_opened_before (part_trees (from limit ps)) rest) ≡ all_opened_before (part_trees ps) rest
cut_opened limit [] rest = refl
cut_opened limit (p ∷ ps) rest = by_test (ends limit p.level) (cut_opened limit ps rest)
  where
    by_test : (v : Bool)
        → all_opened_before (before limit ps) (all_opened_before (part_trees (from limit ps)) rest) ≡ all_opened_before (part_trees ps) rest
        → all_opened_before (cond v none (more p.tree (before limit ps))) (all_opened_before (part_trees (cond v (p ∷ ps) (from limit ps))) rest)
        ≡ opened_before p.tree (all_opened_before (part_trees ps) rest)
    by_test true h = refl
    by_test false h = ap (opened_before p.tree) h

alone : (t : Tree) (rest : Trees) → is_section (label t).kind ≡ false → opened_before t rest ≡ more t rest
alone (tree l ts) rest e = ap (λ v. cond v (all_opened_before ts rest) (more (tree l ts) rest)) e

put_opened : (o : Option ℕ) (n : ℕ) (t : Tree) (ps : List Part) → is_section (label t).kind ≡ false
    → opened (part_trees (put n o t ps)) ≡ more t (opened (part_trees ps))
put_opened None n t ps e = alone t (opened (part_trees ps)) e
put_opened (Some level) n t ps e =
    alone t (all_opened_before (before (Some level) ps) (opened (part_trees (from (Some level) ps)))) e
    ∙ ap (more t) (cut_opened (Some level) ps none)

pub parts_opened : (ts : Trees) (n : ℕ) → NoneIsSection ts → opened (part_trees (parts n ts)) ≡ ts
parts_opened none n h = refl
parts_opened (more t ts) n h =
    put_opened (level_of t) n t (parts (n + opens (level_of t)) ts) h.0
    ∙ ap (more t) (parts_opened ts (n + opens (level_of t)) h.1)

lead_opened : (us vs : Trees) → opened (lead_if_any us vs) ≡ all_opened_before us (opened vs)
lead_opened none vs = refl
lead_opened (more t us) vs = refl

pub gathered_opened : (ts : Trees) → NoneIsSection ts → opened (gathered ts) ≡ ts
gathered_opened ts h =
    lead_opened (before None (parts 1 ts)) (part_trees (from None (parts 1 ts)))
    ∙ cut_opened None (parts 1 ts) none
    ∙ parts_opened ts 1 h

-- ---- the sections among parts

pub cut_sections : (limit : Option ℕ) (ps : List Part)
    → sections_in_all (before limit ps) ++ sections_in_all (part_trees (from limit ps)) ≡ sections_in_all (part_trees ps)
cut_sections limit [] = refl
cut_sections limit (p ∷ ps) = by_test (ends limit p.level) (cut_sections limit ps)
  where
    by_test : (v : Bool)
        → sections_in_all (before limit ps) ++ sections_in_all (part_trees (from limit ps)) ≡ sections_in_all (part_trees ps)
        → sections_in_all (cond v none (more p.tree (before limit ps))) ++ sections_in_all (part_trees (cond v (p ∷ ps) (from limit ps)))
        ≡ sections_in p.tree ++ sections_in_all (part_trees ps)
    by_test true h = refl
    by_test false h =
        append_assoc (sections_in p.tree) (sections_in_all (before limit ps)) (sections_in_all (part_trees (from limit ps)))
        ∙ ap (λ xs. sections_in p.tree ++ xs) h

pub no_sections : (t : Tree) → is_section (label t).kind ≡ false → sections_in t ≡ []
no_sections (tree l ts) e = ap (λ v. cond v (tree l ts ∷ sections_in_all ts) []) e

put_openings : (o : Option ℕ) (n : ℕ) (t : Tree) (ps : List Part) → is_section (label t).kind ≡ false
    → map opening (sections_in_all (part_trees (put n o t ps))) ≡ opening_by n o t ++ map opening (sections_in_all (part_trees ps))
put_openings None n t ps e = ap (λ xs. map opening (xs ++ sections_in_all (part_trees ps))) (no_sections t e)
put_openings (Some level) n t ps e =
    let inside : List Tree = sections_in_all (before (Some level) ps) in
    let behind : List Tree = sections_in_all (part_trees (from (Some level) ps)) in
    let all : (sections_in t ++ inside) ++ behind ≡ sections_in_all (part_trees ps) =
    ap (λ xs. (xs ++ inside) ++ behind) (no_sections t e) ∙ cut_sections (Some level) ps in
    ap (λ xs. opening_by n (Some level) t ++ map opening xs) all

pub parts_openings : (ts : Trees) (n : ℕ) → NoneIsSection ts → map opening (sections_in_all (part_trees (parts n ts))) ≡ openings n ts
parts_openings none n h = refl
parts_openings (more t ts) n h =
    put_openings (level_of t) n t (parts (n + opens (level_of t)) ts) h.0
    ∙ ap (λ xs. opening_by n (level_of t) t ++ xs) (parts_openings ts (n + opens (level_of t)) h.1)

-- ---- the lead

before_by : (o : Option ℕ) (n : ℕ) (t : Tree) (ps : List Part) → before None (put n o t ps) ≡ cond (is_some o) none (more t (before None ps))
before_by None n t ps = refl
before_by (Some level) n t ps = refl

pub before_heading : (ts : Trees) (n : ℕ) → before None (parts n ts) ≡ up_to_heading ts
before_heading none n = refl
before_heading (more t ts) n =
    before_by (level_of t) n t (parts (n + opens (level_of t)) ts)
    ∙ ap (λ us. cond (is_some (level_of t)) none (more t us)) (before_heading ts (n + opens (level_of t)))

-- where no heading stands first, what follows has the same numbers
from_by : (o : Option ℕ) (t : Tree) (ts : Trees) → level_of t ≡ o → from None (parts 1 ts) ≡ parts 1 (from_heading ts)
    → from None (put 1 o t (parts (1 + opens o) ts)) ≡ parts 1 (cond (is_some o) (more t ts) (from_heading ts))
from_by None t ts e h = h
from_by (Some level) t ts e h = ap (λ o. put 1 o t (parts (1 + opens o) ts)) (sym e)

from_first : (ts : Trees) → from None (parts 1 ts) ≡ parts 1 (from_heading ts)
from_first none = refl
from_first (more t ts) = from_by (level_of t) t ts refl (from_first ts)

nothing_before : (ts : Trees) → up_to_heading (from_heading ts) ≡ none
nothing_before none = refl
nothing_before (more t ts) = by_level (level_of t) refl (nothing_before ts)
  where
    by_level : (o : Option ℕ) → level_of t ≡ o → up_to_heading (from_heading ts) ≡ none
        → up_to_heading (cond (is_some o) (more t ts) (from_heading ts)) ≡ none
    by_level None e h = h
    by_level (Some level) e h = ap (λ o. cond (is_some o) none (more t (up_to_heading ts))) e

-- from the first heading on there is no lead
without_lead : (ts : Trees) → gathered (from_heading ts) ≡ part_trees (from None (parts 1 ts))
without_lead ts =
    ap (λ us. lead_if_any us (part_trees (from None (parts 1 (from_heading ts))))) (before_heading (from_heading ts) 1 ∙ nothing_before ts)
    ∙ ap part_trees (from_first (from_heading ts) ∙ ap (parts 1) (again ts) ∙ sym (from_first ts))
  where
    again : (us : Trees) → from_heading (from_heading us) ≡ from_heading us
    again none = refl
    again (more t us) = by_level (level_of t) refl (again us)
      where
        by_level : (o : Option ℕ) → level_of t ≡ o → from_heading (from_heading us) ≡ from_heading us
            → from_heading (cond (is_some o) (more t us) (from_heading us)) ≡ cond (is_some o) (more t us) (from_heading us)
        by_level None e h = h
        by_level (Some level) e h = ap (λ o. cond (is_some o) (more t us) (from_heading us)) e

pub lead_before : (ts : Trees) → gathered ts ≡ lead_if_any (up_to_heading ts) (gathered (from_heading ts))
lead_before ts =
    ap (λ us. lead_if_any us (part_trees (from None (parts 1 ts)))) (before_heading ts 1)
    ∙ ap (lead_if_any (up_to_heading ts)) (sym (without_lead ts))

-- ---- the sections of a body

pub none_before : (ts : Trees) → NoneIsSection ts → sections_in_all (up_to_heading ts) ≡ []
none_before none h = refl
none_before (more t ts) h = by_test (is_some (level_of t)) (none_before ts h.1)
  where
    by_test : (v : Bool) → sections_in_all (up_to_heading ts) ≡ [] → sections_in_all (cond v none (more t (up_to_heading ts))) ≡ []
    by_test true e = refl
    by_test false e = ap (λ xs. xs ++ sections_in_all (up_to_heading ts)) (no_sections t h.0) ∙ e

lead_sections : (us vs : Trees) → sections_in_all us ≡ []
    → map opening (sections_in_all (lead_if_any us vs)) ≡ lead_opening us ++ map opening (sections_in_all vs)
lead_sections none vs e = refl
lead_sections (more t us) vs e = ap (λ xs. lead_opening (more t us) ++ map opening (xs ++ sections_in_all vs)) e

-- of the parts from the first heading on
from_openings : (ts : Trees) → NoneIsSection ts → map opening (sections_in_all (part_trees (from None (parts 1 ts)))) ≡ openings 1 ts
from_openings ts h =
    ap (λ xs. map opening (xs ++ sections_in_all (part_trees (from None (parts 1 ts)))))
    (sym (none_before ts h) ∙ ap sections_in_all (sym (before_heading ts 1)))
    ∙ ap (map opening) (cut_sections None (parts 1 ts))
    ∙ parts_openings ts 1 h

pub gathered_openings : (ts : Trees) → NoneIsSection ts
    → map opening (sections_in_all (gathered ts)) ≡ lead_opening (up_to_heading ts) ++ openings 1 ts
gathered_openings ts h =
    lead_sections (before None (parts 1 ts)) (part_trees (from None (parts 1 ts)))
    (ap sections_in_all (before_heading ts 1) ∙ none_before ts h)
    ∙ ap (λ us. lead_opening us ++ map opening (sections_in_all (part_trees (from None (parts 1 ts))))) (before_heading ts 1)
    ∙ ap (λ xs. lead_opening (up_to_heading ts) ++ xs) (from_openings ts h)

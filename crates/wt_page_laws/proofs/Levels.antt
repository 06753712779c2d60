-- Each section of a body has what the laws say, since each is made of a heading and of parts before the next one.
use Rattle.std.proofs.Common.{◌≡◌, ℕ, ◌+◌, ◌<◌, Bool, true, false, Option, Some, None, List, [], ◌∷◌, ◌++◌, inl, inr, refl, sym, ap, ◌∙◌, subst, cond, arith}
use Rattle.std.specs.List.{AllByRecursion}
use Rattle.wt_tree.specs.Kinds.{is_section}
use Rattle.wt_tree.specs.Tree.{Tree, tree, Trees, none, more, label, listed}
use Rattle.wt_sections.specs.Sections.{Part, level_of, ends, opens, before, from, put, parts, part_trees, section, lead_if_any, gathered}
use Rattle.wt_sections.specs.SectionLaws.{NoneIsSection, sections_in, sections_in_all}
use Rattle.wt_sections.proofs.Opened.{cut_sections, no_sections, before_heading, none_before}
use Rattle.wt_page_laws.specs.Levels.{IsNoHeading, IsOfLevel, IsHeaded, AllReachUp, ChildrenReachUp, HoldsDeeper}
use Rattle.wt_page_laws.proofs.Headings.{is_heading, no_level, level_section}
use Rattle.wt_page_laws.proofs.SectionParts.{AreSorted, IsAbove, LevelsFall, before_above, before_headless, before_reach, from_sorted, inside, parts_reach, parts_sorted, sorted_level}

-- ---- what holds of each section

-- that which a heading opens before parts, and the lead
abbrev HoldsOfHeaded : (Tree → Type 0) → Type 0
HoldsOfHeaded P = (n level : ℕ) (t : Tree) (ps : List Part) → 0 < n → level_of t ≡ Some level → is_section (label t).kind ≡ false → AreSorted ps
    → P (section n t (before (Some level) ps))

abbrev HoldsOfLead : (Tree → Type 0) → Type 0
HoldsOfLead P = (t : Tree) (ts : Trees) → AllByRecursion IsNoHeading (listed (more t ts)) → sections_in_all (more t ts) ≡ [] → P (section 0 t ts)

put_all : (P : Tree → Type 0) (o : Option ℕ) (n : ℕ) (t : Tree) (ps : List Part) → HoldsOfHeaded P → 0 < n → level_of t ≡ o
    → is_section (label t).kind ≡ false → AreSorted ps → AllByRecursion P (sections_in_all (part_trees ps))
    → AllByRecursion P (sections_in_all (part_trees (put n o t ps)))
put_all P None n t ps f p e g h a =
    subst (λ (ss : List Tree). AllByRecursion P ss) (sym (ap (λ ss. ss ++ sections_in_all (part_trees ps)) (no_sections t g))) a
put_all P (Some level) n t ps f p e g h a =
    let within : List Tree = sections_in_all (before (Some level) ps) in
    let behind : List Tree = sections_in_all (part_trees (from (Some level) ps)) in
    let all : (sections_in t ++ within) ++ behind ≡ sections_in_all (part_trees ps) =
    ap (λ ss. (ss ++ within) ++ behind) (no_sections t g) ∙ cut_sections (Some level) ps in
    (f n level t ps p e g h, subst (λ (ss : List Tree). AllByRecursion P ss) (sym all) a)

parts_all : (P : Tree → Type 0) (ts : Trees) (n : ℕ) → HoldsOfHeaded P → 0 < n → NoneIsSection ts
    → AllByRecursion P (sections_in_all (part_trees (parts n ts)))
parts_all P none n f p h = tt
parts_all P (more t ts) n f p h =
    let q : 0 < n + opens (level_of t) = omega (arith, p) in
    put_all P (level_of t) n t (parts (n + opens (level_of t)) ts) f p refl h.0 (parts_sorted ts (n + opens (level_of t)) q h.1)
    (parts_all P ts (n + opens (level_of t)) f q h.1)

lead_all : (P : Tree → Type 0) (us vs : Trees) → HoldsOfLead P → AllByRecursion IsNoHeading (listed us) → sections_in_all us ≡ []
    → AllByRecursion P (sections_in_all vs) → AllByRecursion P (sections_in_all (lead_if_any us vs))
lead_all P none vs f h e a = a
lead_all P (more t us) vs f h e a = (f t us h e, subst (λ (ss : List Tree). AllByRecursion P (ss ++ sections_in_all vs)) (sym e) a)

-- the lead holds no section
leadless : (ts : Trees) → NoneIsSection ts → sections_in_all (before None (parts 1 ts)) ≡ []
leadless ts h = ap sections_in_all (before_heading ts 1) ∙ none_before ts h

sorted : (ts : Trees) → NoneIsSection ts → AreSorted (parts 1 ts)
sorted ts h = parts_sorted ts 1 (omega (arith)) h

gathered_all : (P : Tree → Type 0) (ts : Trees) → HoldsOfHeaded P → HoldsOfLead P → NoneIsSection ts → AllByRecursion P (sections_in_all (gathered ts))
gathered_all P ts f g h =
    let rest : AllByRecursion P (sections_in_all (part_trees (from None (parts 1 ts)))) =
    subst (λ (ss : List Tree). AllByRecursion P ss)
    (sym (cut_sections None (parts 1 ts)) ∙ ap (λ ss. ss ++ sections_in_all (part_trees (from None (parts 1 ts)))) (leadless ts h))
    (parts_all P ts 1 f (omega (arith)) h) in
    lead_all P (before None (parts 1 ts)) (part_trees (from None (parts 1 ts))) g (before_headless None (parts 1 ts) (sorted ts h)) (leadless ts h) rest

-- ---- the laws of each section

-- what begins with no heading has no level
lead_level : (n : ℕ) (t : Tree) (ts : Trees) → IsNoHeading t → IsOfLevel n (section 0 t ts) → ⊥
lead_level n t ts h i = h n i.3

pub headed : (ts : Trees) → NoneIsSection ts → AllByRecursion IsHeaded (sections_in_all (gathered ts))
headed ts h =
    gathered_all IsHeaded ts
    (λ n level t ps p e f g. inr (level, (n, p, refl, is_heading t level e), before_headless (Some level) ps g))
    (λ t us f e. inl (refl, f, e))
    h

-- where no section stands, nothing reaches
none_reach : (ts : Trees) → sections_in_all ts ≡ [] → AllReachUp ts
none_reach none e = tt
none_reach (more (tree l us) ts) e = by_test (is_section l.kind) refl e (none_reach ts)
  where
    by_test : (v : Bool) → is_section l.kind ≡ v → cond v (tree l us ∷ sections_in_all us) [] ++ sections_in_all ts ≡ []
        → (sections_in_all ts ≡ [] → AllReachUp ts) → AllReachUp (more (tree l us) ts)
    by_test true k d f = absurd (cc d)
    by_test false k d f = ((λ n i. absurd (no_level n (tree l us) k i)), f d)

pub reach_up : (ts : Trees) → NoneIsSection ts → AllByRecursion ChildrenReachUp (sections_in_all (gathered ts))
reach_up ts h = gathered_all ChildrenReachUp ts by_heading by_lead h
  where
    by_heading : HoldsOfHeaded ChildrenReachUp
    by_heading n level t ps p e f g = ((λ m i. absurd (no_level m t f i)), before_reach (Some level) ps g)

    by_lead : HoldsOfLead ChildrenReachUp
    by_lead t us f e = none_reach (more t us) e

pub deeper : (ts : Trees) → NoneIsSection ts → AllByRecursion HoldsDeeper (sections_in_all (gathered ts))
deeper ts h = gathered_all HoldsDeeper ts by_heading by_lead h
  where
    by_heading : HoldsOfHeaded HoldsDeeper
    by_heading n level t ps p e f g m i =
        let same : m ≡ level = cc (sym i.3 ∙ is_heading t level e) in
        subst (λ (x : ℕ). AllByRecursion (IsAbove x) (sections_in_all (more t (before (Some level) ps)))) (sym same)
        (subst (λ (ss : List Tree). AllByRecursion (IsAbove level) ss) (sym (inside t (before (Some level) ps) f)) (before_above level ps g))

    by_lead : HoldsOfLead HoldsDeeper
    by_lead t us f e m i = absurd (lead_level m t us f.0 i)

-- ---- the laws of the body

abbrev IsSectionNode : Tree → Type 0
IsSectionNode t = is_section (label t).kind ≡ true

-- behind a section all parts are sections
all_levels : (n : ℕ) (ps : List Part) → LevelsFall (Some n) ps → AreSorted ps → AllByRecursion IsSectionNode (listed (part_trees ps))
all_levels n [] f h = tt
all_levels n (p ∷ ps) f h =
    let falls : LevelsFall (Some f.0) ps = subst (λ (o : Option ℕ). LevelsFall o ps) f.1 h.1 in
    (level_section f.0 p.tree (sorted_level p.level f.0 p.tree f.1 h.0), all_levels f.0 ps falls h.2)

some_by : (o : Option ℕ) → ends None o ≡ true → (n : ℕ) × (o ≡ Some n)
some_by None e = absurd (cc e)
some_by (Some n) e = (n, refl)

from_levels : (ps : List Part) → AreSorted ps → AllByRecursion IsSectionNode (listed (part_trees (from None ps)))
from_levels [] h = tt
from_levels (p ∷ ps) h = by_test (ends None p.level) refl (from_levels ps h.2)
  where
    by_test : (v : Bool) → ends None p.level ≡ v → AllByRecursion IsSectionNode (listed (part_trees (from None ps)))
        → AllByRecursion IsSectionNode (listed (part_trees (cond v (p ∷ ps) (from None ps))))
    by_test true e g =
        let some : (n : ℕ) × (p.level ≡ Some n) = some_by p.level e in
        let falls : LevelsFall (Some some.0) ps = subst (λ (o : Option ℕ). LevelsFall o ps) some.1 h.1 in
        (level_section some.0 p.tree (sorted_level p.level some.0 p.tree some.1 h.0), all_levels some.0 ps falls h.2)
    by_test false e g = g

lead_sections : (us vs : Trees) → AllByRecursion IsSectionNode (listed vs) → AllByRecursion IsSectionNode (listed (lead_if_any us vs))
lead_sections none vs h = h
lead_sections (more t us) vs h = (refl, h)

pub body_sections : (ts : Trees) → NoneIsSection ts → AllByRecursion IsSectionNode (listed (gathered ts))
body_sections ts h = lead_sections (before None (parts 1 ts)) (part_trees (from None (parts 1 ts))) (from_levels (parts 1 ts) (sorted ts h))

lead_reach : (us vs : Trees) → AllByRecursion IsNoHeading (listed us) → AllReachUp vs → AllReachUp (lead_if_any us vs)
lead_reach none vs h g = g
lead_reach (more t us) vs h g = ((λ n i. absurd (lead_level n t us h.0 i)), g)

pub body_reach : (ts : Trees) → NoneIsSection ts → AllReachUp (gathered ts)
body_reach ts h =
    lead_reach (before None (parts 1 ts)) (part_trees (from None (parts 1 ts))) (before_headless None (parts 1 ts) (sorted ts h))
    (parts_reach (from None (parts 1 ts)) (from_sorted None (parts 1 ts) (sorted ts h)))

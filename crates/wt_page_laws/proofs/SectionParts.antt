-- What the parts of a body are: a child that is no heading, or a section of its level, behind which no deeper one
-- stands.
use Rattle.std.proofs.Common.{◌≡◌, ℕ, ◌+◌, ◌<◌, ◌≤◌, Bool, true, false, Option, Some, None, List, [], ◌∷◌, ◌++◌, refl, sym, ap, ◌∙◌, subst, cond, arith}
use Rattle.std.proofs.lemmas.Bool.Decides.{nat_tests}
use Rattle.std.specs.List.{AllByRecursion}
use Rattle.wt_tree.specs.declared.kind.Kind.TheVariants as kind
use Rattle.wt_tree.specs.Kinds.{is_section}
use Rattle.wt_tree.specs.Tree.{Tree, tree, Trees, none, more, label, listed}
use Rattle.wt_sections.specs.Sections.{Part, level_of, ends, opens, before, from, put, parts, part_trees, section}
use Rattle.wt_sections.specs.SectionLaws.{NoneIsSection, sections_in, sections_in_all}
use Rattle.wt_sections.proofs.Opened.{no_sections}
use Rattle.wt_page_laws.specs.Levels.{IsNoHeading, IsOfLevel, BeginWithin, ReachesUp, AllReachUp}
use Rattle.wt_page_laws.proofs.Headings.{is_heading, no_heading, no_section_heading, no_level, level_section}

pub all_both : (P : Tree → Type 0) (ts us : List Tree) → AllByRecursion P ts → AllByRecursion P us → AllByRecursion P (ts ++ us)
all_both P [] us h g = g
all_both P (t ∷ ts) us h g = (h.0, all_both P ts us h.1 g)

pub all_weaker : (P Q : Tree → Type 0) → ((t : Tree) → P t → Q t) → (ts : List Tree) → AllByRecursion P ts → AllByRecursion Q ts
all_weaker P Q f [] h = tt
all_weaker P Q f (t ∷ ts) h = (f t h.0, all_weaker P Q f ts h.1)

-- ---- parts

-- a section of level n or a larger one; of a larger one
abbrev pub IsFrom : ℕ → Tree → Type 0
IsFrom n s = (m : ℕ) × IsOfLevel m s × (n ≤ m)

abbrev pub IsAbove : ℕ → Tree → Type 0
IsAbove n s = (m : ℕ) × IsOfLevel m s × (n < m)

-- what stands in a part of this level
abbrev pub IsSorted : Option ℕ → Tree → Type 0
IsSorted None t = IsNoHeading t × (is_section (label t).kind ≡ false)
IsSorted (Some n) t = IsOfLevel n t × AllByRecursion (IsFrom n) (sections_in t)

-- behind a section of level n stands nothing, or one of level n or a smaller one
abbrev pub LevelsFall : Option ℕ → List Part → Type 0
LevelsFall None ps = Unit {0}
LevelsFall (Some n) [] = Unit {0}
LevelsFall (Some n) (p ∷ ps) = (m : ℕ) × (p.level ≡ Some m) × (m ≤ n)

abbrev pub AreSorted : List Part → Type 0
AreSorted [] = Unit {0}
AreSorted (p ∷ ps) = IsSorted p.level p.tree × LevelsFall p.level ps × AreSorted ps

-- ---- up to a section

-- what doesn't end a section of level n has a larger level
pub larger : (n m : ℕ) → ends (Some n) (Some m) ≡ false → n < m
larger n m e = grind (arith, nat_tests, e)

at_most : (n m : ℕ) → ends (Some n) (Some m) ≡ true → m ≤ n
at_most n m e = grind (arith, nat_tests, e)

part_above : (n : ℕ) (o : Option ℕ) (t : Tree) → IsSorted o t → ends (Some n) o ≡ false → AllByRecursion (IsAbove n) (sections_in t)
part_above n None t h e = subst (λ (ss : List Tree). AllByRecursion (IsAbove n) ss) (sym (no_sections t h.1)) tt
part_above n (Some m) t h e =
    let gt : n < m = larger n m e in
    all_weaker (IsFrom m) (IsAbove n) (λ s f. (f.0, f.1, omega (arith, gt, f.2))) (sections_in t) h.1

pub before_above : (n : ℕ) (ps : List Part) → AreSorted ps → AllByRecursion (IsAbove n) (sections_in_all (before (Some n) ps))
before_above n [] h = tt
before_above n (p ∷ ps) h = by_test (ends (Some n) p.level) refl (before_above n ps h.2)
  where
    by_test : (v : Bool) → ends (Some n) p.level ≡ v → AllByRecursion (IsAbove n) (sections_in_all (before (Some n) ps))
        → AllByRecursion (IsAbove n) (sections_in_all (cond v none (more p.tree (before (Some n) ps))))
    by_test true e g = tt
    by_test false e g = all_both (IsAbove n) (sections_in p.tree) (sections_in_all (before (Some n) ps)) (part_above n p.level p.tree h.0 e) g

-- no child of these is a heading
no_heading_part : (o : Option ℕ) (t : Tree) → IsSorted o t → IsNoHeading t
no_heading_part None t h = h.0
no_heading_part (Some n) t h = no_section_heading t (level_section n t h.0)

pub before_headless : (limit : Option ℕ) (ps : List Part) → AreSorted ps → AllByRecursion IsNoHeading (listed (before limit ps))
before_headless limit [] h = tt
before_headless limit (p ∷ ps) h = by_test (ends limit p.level) (before_headless limit ps h.2)
  where
    by_test : (v : Bool) → AllByRecursion IsNoHeading (listed (before limit ps))
        → AllByRecursion IsNoHeading (listed (cond v none (more p.tree (before limit ps))))
    by_test true g = tt
    by_test false g = (no_heading_part p.level p.tree h.0, g)

-- ---- what stands behind

pub sorted_level : (o : Option ℕ) (m : ℕ) (t : Tree) → o ≡ Some m → IsSorted o t → IsOfLevel m t
sorted_level o m t e h = (subst (λ (q : Option ℕ). IsSorted q t) e h).0

-- what a section of level n stands before
begin_by : (n : ℕ) (limit : Option ℕ) (ps : List Part) → LevelsFall (Some n) ps → AreSorted ps → BeginWithin n (before limit ps)
begin_by n limit [] f h = tt
begin_by n limit (p ∷ ps) f h = by_test (ends limit p.level)
  where
    by_test : (v : Bool) → BeginWithin n (cond v none (more p.tree (before limit ps)))
    by_test true = tt
    by_test false = (f.0, sorted_level p.level f.0 p.tree f.1 h.0, f.2)

begin_with : (n : ℕ) (ps : List Part) → LevelsFall (Some n) ps → AreSorted ps → BeginWithin n (part_trees ps)
begin_with n [] f h = tt
begin_with n (p ∷ ps) f h = (f.0, sorted_level p.level f.0 p.tree f.1 h.0, f.2)

same_level : (n m : ℕ) (t : Tree) → IsOfLevel n t → IsOfLevel m t → n ≡ m
same_level n m (tree l none) h g = absurd h
same_level n m (tree l (more t ts)) h g = let same : kind.Heading n ≡ kind.Heading m = sym h.3 ∙ g.3 in cc same

-- a part before trees that begin as what stands behind it does
reaches_by : (o : Option ℕ) (t : Tree) (ps : List Part) (us : Trees) → IsSorted o t → LevelsFall o ps
    → ((n : ℕ) → LevelsFall (Some n) ps → BeginWithin n us) → ReachesUp t us
reaches_by None t ps us h f g n i = absurd (no_level n t h.1 i)
reaches_by (Some m) t ps us h f g n i = subst (λ (x : ℕ). BeginWithin x us) (same_level m n t h.0 i) (g m f)

pub before_reach : (limit : Option ℕ) (ps : List Part) → AreSorted ps → AllReachUp (before limit ps)
before_reach limit [] h = tt
before_reach limit (p ∷ ps) h = by_test (ends limit p.level) (before_reach limit ps h.2)
  where
    by_test : (v : Bool) → AllReachUp (before limit ps) → AllReachUp (cond v none (more p.tree (before limit ps)))
    by_test true g = tt
    by_test false g = (reaches_by p.level p.tree ps (before limit ps) h.0 h.1 (λ n f. begin_by n limit ps f h.2), g)

pub parts_reach : (ps : List Part) → AreSorted ps → AllReachUp (part_trees ps)
parts_reach [] h = tt
parts_reach (p ∷ ps) h = (reaches_by p.level p.tree ps (part_trees ps) h.0 h.1 (λ n f. begin_with n ps f h.2), parts_reach ps h.2)

-- ---- from a section on

pub from_sorted : (limit : Option ℕ) (ps : List Part) → AreSorted ps → AreSorted (from limit ps)
from_sorted limit [] h = tt
from_sorted limit (p ∷ ps) h = by_test (ends limit p.level) (from_sorted limit ps h.2)
  where
    by_test : (v : Bool) → AreSorted (from limit ps) → AreSorted (cond v (p ∷ ps) (from limit ps))
    by_test true g = h
    by_test false g = g

level_by : (n : ℕ) (o : Option ℕ) → ends (Some n) o ≡ true → (m : ℕ) × (o ≡ Some m) × (m ≤ n)
level_by n None e = absurd (cc e)
level_by n (Some m) e = (m, refl, at_most n m e)

from_falls : (n : ℕ) (ps : List Part) → LevelsFall (Some n) (from (Some n) ps)
from_falls n [] = tt
from_falls n (p ∷ ps) = by_test (ends (Some n) p.level) refl (from_falls n ps)
  where
    by_test : (v : Bool) → ends (Some n) p.level ≡ v → LevelsFall (Some n) (from (Some n) ps)
        → LevelsFall (Some n) (cond v (p ∷ ps) (from (Some n) ps))
    by_test true e g = level_by n p.level e
    by_test false e g = g

-- ---- all parts

-- the sections inside a section are those that stand behind its heading
pub inside : (t : Tree) (ts : Trees) → is_section (label t).kind ≡ false → sections_in_all (more t ts) ≡ sections_in_all ts
inside t ts e = ap (λ ss. ss ++ sections_in_all ts) (no_sections t e)

put_sorted : (o : Option ℕ) (n : ℕ) (t : Tree) (ps : List Part) → 0 < n → level_of t ≡ o → is_section (label t).kind ≡ false → AreSorted ps
    → AreSorted (put n o t ps)
put_sorted None n t ps p e f h = ((no_heading t e, f), tt, h)
put_sorted (Some level) n t ps p e f h =
    let own : IsOfLevel level (section n t (before (Some level) ps)) = (n, p, refl, is_heading t level e) in
    let others : AllByRecursion (IsFrom level) (sections_in_all (more t (before (Some level) ps))) =
    subst (λ (ss : List Tree). AllByRecursion (IsFrom level) ss) (sym (inside t (before (Some level) ps) f))
    (all_weaker (IsAbove level) (IsFrom level) (λ s a. (a.0, a.1, omega (arith, a.2))) (sections_in_all (before (Some level) ps))
    (before_above level ps h)) in
    ((own, ((level, own, omega (arith)), others)), from_falls level ps, from_sorted (Some level) ps h)

pub parts_sorted : (ts : Trees) (n : ℕ) → 0 < n → NoneIsSection ts → AreSorted (parts n ts)
parts_sorted none n p h = tt
parts_sorted (more t ts) n p h =
    let q : 0 < n + opens (level_of t) = omega (arith, p) in
    put_sorted (level_of t) n t (parts (n + opens (level_of t)) ts) p refl h.0 (parts_sorted ts (n + opens (level_of t)) q h.1)

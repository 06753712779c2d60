-- Sections make no difference to the checks: what stands in the page in sections is found by the same numbers.
use Rattle.std.proofs.Common.{◌≡◌, ℕ, zero, suc, Bool, true, false, List, [], ◌∷◌, ◌++◌, refl, sym, ap, ◌∙◌, arith, append_assoc}
use Rattle.std.specs.Prelude.{◌==◌, ◌&&◌, ◌||◌, not, if◌then◌else◌, filter, Option, Some, None}
use Rattle.std.specs.Str.{bytes_eq}
use Rattle.std.proofs.lemmas.Bool.Decides.{nat_tests}
use Rattle.std.proofs.lemmas.List.Elements.{filter-append}
use Rattle.wt_tree.specs.declared.kind.Kind.{Kind}
use Rattle.wt_tree.specs.declared.kind.Kind.TheVariants as kind
use Rattle.wt_tree.specs.declared.kind.Mark.{Mark}
use Rattle.wt_tree.specs.Kinds.{writing, is_section}
use Rattle.wt_tree.specs.Opened.{opened, opened_before, all_opened_before, without_sections}
use Rattle.wt_tree.specs.Tiling.{is_group}
use Rattle.wt_tree.specs.Tree.{Label, Tree, tree, Trees, none, more, label}
use Rattle.wt_checks.specs.declared.refusal.TreeRefusal.TheVariants.{UnknownId, RepeatedId, Moved, InTemplate, NotEditable, UnmarkedChange}
use Rattle.wt_checks.specs.BareSections.{IsBareSection, AreBareSections, HasBareSections}
use Rattle.wt_checks.specs.Checked.{or_else, refused, checked}
use Rattle.wt_checks.specs.Groups.{is_changed_group, is_marked, is_in_template}
use Rattle.wt_checks.specs.Ids.{is_there, has_parent, greater_stands, is_unknown, is_repeated, is_moved}
use Rattle.wt_checks.specs.Marks.{editing, allows, is_wrongly_marked}
use Rattle.wt_checks.specs.Places.{Place, placed, all_placed, places, number, kind_at, is_kept, is_body, is_content, numbered, Page, page_of, parent_below, first}
use Rattle.wt_checks.specs.Unmarked.{own_character, entries, same_entries, keeps_face, is_other, is_unmarked_change}
use Rattle.wt_checks.proofs.Found.{found_root}
use Rattle.wt_checks.proofs.Lookups.{found_kept, filter_root}

-- ---- opening twice

opened_section : (v : Bool) (l : Label) (ts rest : Trees) → is_section l.kind ≡ v
    → opened_before (tree l ts) rest ≡ (if v then all_opened_before ts rest else more (tree l ts) rest)
opened_section v l ts rest e = ap (λ b. if b then all_opened_before ts rest else more (tree l ts) rest) e

mutual
  opened_along : (t : Tree) (us vs : Trees) → all_opened_before (opened_before t us) vs ≡ opened_before t (all_opened_before us vs)
  opened_along (tree l ts) us vs = by_section (is_section l.kind) refl (all_opened_along ts us vs)
    where
      by_section : (v : Bool) → is_section l.kind ≡ v
          → all_opened_before (all_opened_before ts us) vs ≡ all_opened_before ts (all_opened_before us vs)
          → all_opened_before (if v then all_opened_before ts us else more (tree l ts) us) vs
          ≡ (if v then all_opened_before ts (all_opened_before us vs) else more (tree l ts) (all_opened_before us vs))
      by_section true e h = h
      by_section false e h = opened_section false l ts (all_opened_before us vs) e

  all_opened_along : (ts us vs : Trees) → all_opened_before (all_opened_before ts us) vs ≡ all_opened_before ts (all_opened_before us vs)
  all_opened_along none us vs = refl
  all_opened_along (more t ts) us vs =
      opened_along t (all_opened_before ts us) vs ∙ ap (opened_before t) (all_opened_along ts us vs)

pub opened_twice : (ts : Trees) → opened (opened ts) ≡ opened ts
opened_twice ts = all_opened_along ts none none

-- ---- the kept nodes of a page

abbrev kept_of : List Place → List Place
kept_of ps = filter is_kept ps

no_more : (b : Bool) → (b || false) ≡ b
no_more true = refl
no_more false = refl

-- a section's places are those of what it holds
section_kept : (parent : ℕ) (within : Bool) (l : Label) (ts : Trees) → l.id ≡ 0 → is_content l.mark ≡ false
    → kept_of (placed parent within (tree l ts)) ≡ kept_of (all_placed parent within ts)
section_kept parent within l ts z m =
    filter_root (record { node = tree l ts; parent = parent; in_content = within })
    (all_placed (parent_below parent l.id) (within || is_content l.mark) ts) z
    ∙ ap (λ n. kept_of (all_placed (parent_below parent n) (within || is_content l.mark) ts)) z
    ∙ ap (λ b. kept_of (all_placed parent b ts)) (ap (λ b. within || b) m ∙ no_more within)

mutual
  kept_before : (parent : ℕ) (within : Bool) (t : Tree) (us : Trees) → IsBareSection t
      → kept_of (all_placed parent within (opened_before t us)) ≡ kept_of (placed parent within t) ++ kept_of (all_placed parent within us)
  kept_before parent within (tree l ts) us h =
      by_section (is_section l.kind) refl (λ e. all_kept_before parent within ts us (h e).2)
    where
      by_section : (v : Bool) → is_section l.kind ≡ v
          → (is_section l.kind ≡ true → kept_of (all_placed parent within (all_opened_before ts us))
          ≡ kept_of (all_placed parent within ts) ++ kept_of (all_placed parent within us))
          → kept_of (all_placed parent within (if v then all_opened_before ts us else more (tree l ts) us))
          ≡ kept_of (placed parent within (tree l ts)) ++ kept_of (all_placed parent within us)
      by_section true e f =
          f e ∙ ap (λ ps. ps ++ kept_of (all_placed parent within us)) (sym (section_kept parent within l ts (h e).0 (h e).1))
      by_section false e f = filter-append is_kept (placed parent within (tree l ts)) (all_placed parent within us)

  all_kept_before : (parent : ℕ) (within : Bool) (ts us : Trees) → AreBareSections ts
      → kept_of (all_placed parent within (all_opened_before ts us)) ≡ kept_of (all_placed parent within ts) ++ kept_of (all_placed parent within us)
  all_kept_before parent within none us h = refl
  all_kept_before parent within (more t ts) us h =
      kept_before parent within t (all_opened_before ts us) h.0
      ∙ ap (λ ps. kept_of (placed parent within t) ++ ps) (all_kept_before parent within ts us h.1)
      ∙ sym (append_assoc (kept_of (placed parent within t)) (kept_of (all_placed parent within ts)) (kept_of (all_placed parent within us)))
      ∙ ap (λ ps. ps ++ kept_of (all_placed parent within us)) (sym (filter-append is_kept (placed parent within t) (all_placed parent within ts)))

append_none : (ps : List Place) → ps ++ [] ≡ ps
append_none [] = refl
append_none (p ∷ ps) = ap (λ qs. p ∷ qs) (append_none ps)

pub kept_places : (page : Tree) → HasBareSections page → kept_of (places page) ≡ kept_of (places (without_sections page))
kept_places (tree l ts) h =
    let below = λ (us : Trees). all_placed (parent_below 0 l.id) (is_content l.mark) us in
    filter_root (record { node = tree l ts; parent = 0; in_content = false }) (below ts) h.root
    ∙ sym (append_none (kept_of (below ts)))
    ∙ sym (all_kept_before (parent_below 0 l.id) (is_content l.mark) ts none h.sections)
    ∙ sym (filter_root (record { node = tree l (opened ts); parent = 0; in_content = false }) (below (opened ts)) h.root)

-- ---- pages that differ in what is found by 0

pub record AreAlike (page other : Page) : Type 0 where
  pub each : (n : ℕ) → (n == 0) ≡ false → page n ≡ other n
  pub body : (u : Tree) → is_other (page 0) u ≡ is_other (other 0) u

each_found : (n : ℕ) (page : Tree) → HasBareSections page → (n == 0) ≡ false → page_of page n ≡ page_of (without_sections page) n
each_found zero page h e = absurd (cc)
each_found (suc n) page h e =
    found_kept n (places page) ∙ ap (numbered (suc n)) (kept_places page h) ∙ sym (found_kept n (places (without_sections page)))

body_found : (page u : Tree) → HasBareSections page → is_other (page_of page 0) u ≡ is_other (page_of (without_sections page) 0) u
body_found (tree l ts) u h =
    ap (λ o. is_other o u) (found_root (tree l ts) h.root)
    ∙ by_held u
    ∙ ap (λ o. is_other o u) (sym (found_root (tree l (opened ts)) h.root))
  where
    by_held : (u : Tree) → is_other (Some (record { node = tree l ts; parent = 0; in_content = false })) u
        ≡ is_other (Some (record { node = tree l (opened ts); parent = 0; in_content = false })) u
    by_held (tree m us) =
        ap (λ vs. not (is_group l.kind) && not (keeps_face l m && (is_marked m.mark
        || (bytes_eq (own_character (writing l.kind) l.shown) (own_character (writing m.kind) m.shown)
        && same_entries (entries vs) (entries us))))) (sym (opened_twice ts))

pub are_alike : (page : Tree) → HasBareSections page → AreAlike (page_of page) (page_of (without_sections page))
are_alike page h = record { each = λ n e. each_found n page h e; body = λ u. body_found page u h }

-- ---- their conditions

and_same : (k a b : Bool) → (k ≡ true → a ≡ b) → (k && a) ≡ (k && b)
and_same true a b f = f refl
and_same false a b f = refl

is_false : (b : Bool) → not b ≡ true → b ≡ false
is_false true e = absurd (cc)
is_false false e = refl

zero_is : (n : ℕ) → (n == 0) ≡ true → n ≡ 0
zero_is n e = grind (arith, nat_tests)

pub kept_found : (page other : Page) (p : Place) → AreAlike page other → is_kept p ≡ true → page (number p) ≡ other (number p)
kept_found page other p h k = h.each (number p) (is_false (number p == 0) k)

other_same : (page other : Page) (n : ℕ) (u : Tree) → AreAlike page other → is_other (page n) u ≡ is_other (other n) u
other_same page other n u h = by_zero (n == 0) refl
  where
    by_zero : (b : Bool) → (n == 0) ≡ b → is_other (page n) u ≡ is_other (other n) u
    by_zero true e =
        let z : n ≡ 0 = zero_is n e in
        ap (λ m. is_other (page m) u) z ∙ h.body u ∙ ap (λ m. is_other (other m) u) (sym z)
    by_zero false e = ap (λ o. is_other o u) (h.each n e)

unknown_same : (page other : Page) (before : List Place) (p : Place) (after : List Place) → AreAlike page other
    → is_unknown page before p after ≡ is_unknown other before p after
unknown_same page other before p after h =
    and_same (is_kept p) (not (is_there (page (number p)))) (not (is_there (other (number p))))
    (λ k. ap (λ o. not (is_there o)) (kept_found page other p h k))

moved_same : (page other : Page) (before : List Place) (p : Place) (after : List Place) → AreAlike page other
    → is_moved page before p after ≡ is_moved other before p after
moved_same page other before p after h =
    and_same (is_kept p) (not (has_parent p.parent (page (number p))) || greater_stands p.parent (number p) before)
    (not (has_parent p.parent (other (number p))) || greater_stands p.parent (number p) before)
    (λ k. ap (λ o. not (has_parent p.parent o) || greater_stands p.parent (number p) before) (kept_found page other p h k))

group_same : (values : Bool) (page other : Page) (before : List Place) (p : Place) (after : List Place) → AreAlike page other
    → is_in_template values page before p after ≡ is_in_template values other before p after
group_same values page other before p after h =
    and_same (is_kept p) (is_changed_group values (page (number p)) p.node) (is_changed_group values (other (number p)) p.node)
    (λ k. ap (λ o. is_changed_group values o p.node) (kept_found page other p h k))

-- what is new and no body may have no mark, and the body's doesn't ask what the page has
new_allows : (k : Kind) (m : Mark) (o q : Option Place) → (not (is_body k) || not (allows (editing k) m o)) ≡ (not (is_body k) || not (allows (editing k) m q))
new_allows kind.Body m o q = refl
new_allows k m o q = refl

allowed_same : (page other : Page) (p : Place) → AreAlike page other
    → (not (is_kept p || is_body (kind_at p)) || not (allows (editing (kind_at p)) (label p.node).mark (page (number p))))
    ≡ (not (is_kept p || is_body (kind_at p)) || not (allows (editing (kind_at p)) (label p.node).mark (other (number p))))
allowed_same page other p h = by_zero (number p == 0) refl
  where
    by_zero : (b : Bool) → (number p == 0) ≡ b
        → (not (not b || is_body (kind_at p)) || not (allows (editing (kind_at p)) (label p.node).mark (page (number p))))
        ≡ (not (not b || is_body (kind_at p)) || not (allows (editing (kind_at p)) (label p.node).mark (other (number p))))
    by_zero true e = new_allows (kind_at p) (label p.node).mark (page (number p)) (other (number p))
    by_zero false e = ap (λ o. not (allows (editing (kind_at p)) (label p.node).mark o)) (h.each (number p) e)

marked_same : (page other : Page) (before : List Place) (p : Place) (after : List Place) → AreAlike page other
    → is_wrongly_marked page before p after ≡ is_wrongly_marked other before p after
marked_same page other before p after h =
    ap (λ b. is_marked (label p.node).mark && (p.in_content || b)) (allowed_same page other p h)

changed_same : (page other : Page) (before : List Place) (p : Place) (after : List Place) → AreAlike page other
    → is_unmarked_change page before p after ≡ is_unmarked_change other before p after
changed_same page other before p after h =
    ap (λ b. (is_kept p || is_body (kind_at p)) && (not p.in_content && b)) (other_same page other (number p) p.node h)

refused_same : (values : Bool) (page other : Page) (es : List Place) → AreAlike page other → refused values page es ≡ refused values other es
refused_same values page other es h =
    λ i. or_else (first (λ before p after. unknown_same page other before p after h i) es) UnknownId
    (or_else (first is_repeated es) RepeatedId
    (or_else (first (λ before p after. moved_same page other before p after h i) es) Moved
    (or_else (first (λ before p after. group_same values page other before p after h i) es) InTemplate
    (or_else (first (λ before p after. marked_same page other before p after h i) es) NotEditable
    (or_else (first (λ before p after. changed_same page other before p after h i) es) UnmarkedChange None)))))

pub no_difference : (values : Bool) (page edited : Tree) → HasBareSections page
    → checked values page edited ≡ checked values (without_sections page) edited
unfolding checked
no_difference values page edited h =
    refused_same values (page_of page) (page_of (without_sections page)) (places edited) (are_alike page h)

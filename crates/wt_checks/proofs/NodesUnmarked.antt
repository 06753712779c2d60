-- Marks outside groups make no difference to the check of nodes.
use Rattle.std.proofs.Common.{◌≡◌, ℕ, Bool, true, false, List, [], ◌∷◌, ◌++◌, map, refl, sym, ap, ◌∙◌}
use Rattle.std.specs.Prelude.{◌==◌, ◌&&◌, ◌||◌, not, if◌then◌else◌, Option, Some, None}
use Rattle.std.specs.List.{AllByRecursion}
use Rattle.std.proofs.lemmas.List.{map-append}
use Rattle.wt_tree.specs.declared.kind.Showing.{Showing}
use Rattle.wt_tree.specs.declared.kind.Showing.TheVariants.{Characters, Inside, Nothing, Element}
use Rattle.wt_tree.specs.declared.row.Writing.{Writing}
use Rattle.wt_tree.specs.declared.row.Writing.TheVariants.{AsText, AsVoid, RoundCharacter, RoundChildren, AsSection, Unwritten}
use Rattle.wt_tree.specs.Kinds.{showing, writing}
use Rattle.wt_tree.specs.Plain.{Plains}
use Rattle.wt_tree.specs.Tiling.{is_group}
use Rattle.wt_tree.specs.Tree.{Label, Tree, tree, Trees, none, more, label}
use Rattle.wt_checks.specs.declared.refusal.TreeRefusal.TheVariants.{UnknownId, RepeatedId, InTemplate}
use Rattle.wt_checks.specs.Alike.{same_attrs, same_data}
use Rattle.wt_checks.specs.Checked.{or_else, nodes_checked}
use Rattle.wt_checks.specs.Elements.{read_by, read_before, all_read, written_for, signs_in}
use Rattle.wt_checks.specs.Groups.{is_marked, has_mark, have_mark, same_signs, shows_same, carries_same, is_changed_group, is_in_template}
use Rattle.wt_checks.specs.Ids.{is_there, stands, is_unknown, is_repeated}
use Rattle.wt_checks.specs.Places.{Place, placed, all_placed, places, number, parent_below, is_content, Page, page_of, Condition, first_after, first}
use Rattle.wt_checks.specs.WithoutMarks.{mark_off, unmarked, all_unmarked, groups_unmarked, all_groups_unmarked}
use Rattle.wt_checks.proofs.Lookups.{each_join}

-- ---- a node without marks

pub id_off : (t : Tree) → (label (unmarked t)).id ≡ (label t).id
id_off (tree l ts) = refl

data_off : (t : Tree) → (label (unmarked t)).mw ≡ (label t).mw
data_off (tree l ts) = refl

mutual
  pub no_mark_off : (t : Tree) → has_mark (unmarked t) ≡ false
  no_mark_off (tree l ts) = no_marks_off ts

  no_marks_off : (ts : Trees) → have_mark (all_unmarked ts) ≡ false
  no_marks_off none = refl
  no_marks_off (more t ts) = ap (λ b. b || have_mark (all_unmarked ts)) (no_mark_off t) ∙ no_marks_off ts

-- what is read of a group
read_by_off : (w : Writing) (s : Showing) (l : Label) (held rest : Plains) → read_by w s (mark_off l) held rest ≡ read_by w s l held rest
read_by_off AsText Characters l held rest = refl
read_by_off AsText Inside l held rest = refl
read_by_off AsText Nothing l held rest = refl
read_by_off AsText Element l held rest = refl
read_by_off AsVoid s l held rest = refl
read_by_off RoundCharacter s l held rest = refl
read_by_off RoundChildren s l held rest = refl
read_by_off (AsSection n) s l held rest = refl
read_by_off Unwritten s l held rest = refl

mutual
  read_off : (t : Tree) (rest : Plains) → read_before (unmarked t) rest ≡ read_before t rest
  read_off (tree l ts) rest =
      read_by_off (writing l.kind) (showing l.kind) l (all_read (all_unmarked ts)) rest
      ∙ ap (λ held. read_by (writing l.kind) (showing l.kind) l held rest) (all_read_off ts)

  all_read_off : (ts : Trees) → all_read (all_unmarked ts) ≡ all_read ts
  all_read_off none = refl
  all_read_off (more t ts) = ap (read_before (unmarked t)) (all_read_off ts) ∙ read_off t (all_read ts)

shows_off : (t u : Tree) → shows_same t (unmarked u) ≡ shows_same t u
shows_off (tree l ts) (tree m us) =
    ap (λ ps. is_group m.kind && (same_attrs l.attrs m.attrs && same_signs (signs_in (written_for ts)) (signs_in ps))) (all_read_off us)

-- ---- the page's group and what stands for it

abbrev GroupUnmarked : Tree → Type 0
GroupUnmarked u = is_group (label u).kind ≡ true → has_mark u ≡ false

no_group_shows : (t u : Tree) → is_group (label u).kind ≡ false → shows_same t u ≡ false
no_group_shows (tree l ts) (tree m us) e =
    ap (λ b. b && (same_attrs l.attrs m.attrs && same_signs (signs_in (written_for ts)) (signs_in (all_read us)))) e

abbrev changed_from : Bool → Bool → Bool → Bool
changed_from mark shown carried = mark || not (shown && carried)

or_true : (b : Bool) → (b || true) ≡ true
or_true true = refl
or_true false = refl

changed_same : (g : Bool) (t u : Tree) → is_group (label u).kind ≡ g → GroupUnmarked u
    → changed_from false (shows_same t u) (carries_same false t u) ≡ changed_from (has_mark u) (shows_same t u) (carries_same false t u)
changed_same true t u e h = ap (λ b. changed_from b (shows_same t u) (carries_same false t u)) (sym (h e))
changed_same false t u e h =
    ap (λ b. changed_from false b (carries_same false t u)) (no_group_shows t u e)
    ∙ sym (ap (λ b. changed_from (has_mark u) b (carries_same false t u)) (no_group_shows t u e) ∙ or_true (has_mark u))

changed_off : (o : Option Place) (u : Tree) → GroupUnmarked u → is_changed_group false o (unmarked u) ≡ is_changed_group false o u
changed_off None u h = refl
changed_off (Some q) u h =
    ap (λ b. is_group (label q.node).kind && b)
    (ap (λ b. changed_from b (shows_same q.node (unmarked u)) (carries_same false q.node (unmarked u))) (no_mark_off u)
    ∙ ap (λ b. changed_from false b (carries_same false q.node (unmarked u))) (shows_off q.node u)
    ∙ ap (λ d. changed_from false (shows_same q.node u) (same_data (label q.node).mw d)) (data_off u)
    ∙ changed_same (is_group (label u).kind) q.node u refl h)

-- ---- places

abbrev off : Place → Place
off p = record { node = unmarked p.node; parent = p.parent; in_content = false }

number_off : (p : Place) → number (off p) ≡ number p
number_off p = id_off p.node

mutual
  placed_off : (parent : ℕ) (within : Bool) (t : Tree) → placed parent false (unmarked t) ≡ map off (placed parent within t)
  placed_off parent within (tree l ts) =
      ap (λ ps. record { node = unmarked (tree l ts); parent = parent; in_content = false } ∷ ps)
      (all_placed_off (parent_below parent l.id) (within || is_content l.mark) ts)

  all_placed_off : (parent : ℕ) (within : Bool) (ts : Trees) → all_placed parent false (all_unmarked ts) ≡ map off (all_placed parent within ts)
  all_placed_off parent within none = refl
  all_placed_off parent within (more t ts) =
      ap (λ ps. placed parent false (unmarked t) ++ ps) (all_placed_off parent within ts)
      ∙ ap (λ ps. ps ++ map off (all_placed parent within ts)) (placed_off parent within t)
      ∙ sym (map-append off (placed parent within t) (all_placed parent within ts))

abbrev Unmarked : Place → Type 0
Unmarked p = GroupUnmarked p.node

or_false : (a b : Bool) → (a || b) ≡ false → (a ≡ false) × (b ≡ false)
or_false true b e = absurd (cc)
or_false false b e = (refl, e)

and_true : (a b : Bool) → (a && b) ≡ true → (a ≡ true) × (b ≡ true)
and_true true b e = (refl, e)
and_true false b e = absurd (cc)

not_true : (b : Bool) → not b ≡ true → b ≡ false
not_true true e = absurd (cc)
not_true false e = refl

mutual
  none_marked : (parent : ℕ) (within : Bool) (t : Tree) → has_mark t ≡ false → AllByRecursion Unmarked (placed parent within t)
  none_marked parent within (tree l ts) h =
      ((λ g. h), all_none_marked (parent_below parent l.id) (within || is_content l.mark) ts (or_false (is_marked l.mark) (have_mark ts) h).1)

  all_none_marked : (parent : ℕ) (within : Bool) (ts : Trees) → have_mark ts ≡ false → AllByRecursion Unmarked (all_placed parent within ts)
  all_none_marked parent within none h = tt
  all_none_marked parent within (more t ts) h =
      let d = or_false (has_mark t) (have_mark ts) h in
      each_join Unmarked (placed parent within t) (all_placed parent within ts) (none_marked parent within t d.0) (all_none_marked parent within ts d.1)

mutual
  groups_clear : (parent : ℕ) (within : Bool) (t : Tree) → groups_unmarked t ≡ true → AllByRecursion Unmarked (placed parent within t)
  groups_clear parent within (tree l ts) h =
      by_group (is_group l.kind) refl h (λ e. all_groups_clear (parent_below parent l.id) (within || is_content l.mark) ts e)
    where
      by_group : (g : Bool) → is_group l.kind ≡ g → (if g then not (has_mark (tree l ts)) else all_groups_unmarked ts) ≡ true
          → (all_groups_unmarked ts ≡ true → AllByRecursion Unmarked (all_placed (parent_below parent l.id) (within || is_content l.mark) ts))
          → AllByRecursion Unmarked (placed parent within (tree l ts))
      by_group true e h f = none_marked parent within (tree l ts) (not_true (has_mark (tree l ts)) h)
      by_group false e h f = ((λ g. absurd (not_both (is_group l.kind) g e)), f h)
        where
          not_both : (b : Bool) → b ≡ true → b ≡ false → ⊥
          not_both b s t = absurd (cc)

  all_groups_clear : (parent : ℕ) (within : Bool) (ts : Trees) → all_groups_unmarked ts ≡ true → AllByRecursion Unmarked (all_placed parent within ts)
  all_groups_clear parent within none h = tt
  all_groups_clear parent within (more t ts) h =
      let d = and_true (groups_unmarked t) (all_groups_unmarked ts) h in
      each_join Unmarked (placed parent within t) (all_placed parent within ts) (groups_clear parent within t d.0) (all_groups_clear parent within ts d.1)

-- ---- conditions

abbrev SameOff : Condition → Type 0
SameOff C = (before : List Place) (p : Place) (after : List Place) → Unmarked p → C (map off before) (off p) (map off after) ≡ C before p after

first_off : (C : Condition) → SameOff C → (before ps : List Place) → AllByRecursion Unmarked ps
    → first_after C (map off before) (map off ps) ≡ first_after C before ps
first_off C h before [] a = refl
first_off C h before (p ∷ ps) a =
    ap (λ b. if b then Some (number (off p)) else first_after C (map off before ++ off p ∷ []) (map off ps)) (h before p ps a.0)
    ∙ ap (λ n. if C before p ps then Some n else first_after C (map off before ++ off p ∷ []) (map off ps)) (number_off p)
    ∙ ap (λ o. if C before p ps then Some (number p) else o)
    (ap (λ qs. first_after C qs (map off ps)) (sym (map-append off before (p ∷ []))) ∙ first_off C h (before ++ p ∷ []) ps a.1)

unknown_off : (page : Page) → SameOff (is_unknown page)
unknown_off page before p after h = ap (λ n. not (n == 0) && not (is_there (page n))) (number_off p)

stands_off : (n : ℕ) (ps : List Place) → stands n (map off ps) ≡ stands n ps
stands_off n [] = refl
stands_off n (p ∷ ps) =
    ap (λ m. (m == n) || stands n (map off ps)) (number_off p) ∙ ap (λ b. (number p == n) || b) (stands_off n ps)

repeated_off : SameOff is_repeated
repeated_off before p after h =
    ap (λ n. not (n == 0) && (stands n (map off before) || stands n (map off after))) (number_off p)
    ∙ ap (λ b. not (number p == 0) && (b || stands (number p) (map off after))) (stands_off (number p) before)
    ∙ ap (λ b. not (number p == 0) && (stands (number p) before || b)) (stands_off (number p) after)

template_off : (page : Page) → SameOff (is_in_template false page)
template_off page before p after h =
    ap (λ n. not (n == 0) && is_changed_group false (page n) (unmarked p.node)) (number_off p)
    ∙ ap (λ b. not (number p == 0) && b) (changed_off (page (number p)) p.node h)

-- ---- the check

refused_off : (page : Page) (ps : List Place) → AllByRecursion Unmarked ps
    → or_else (first (is_unknown page) (map off ps)) UnknownId (or_else (first is_repeated (map off ps)) RepeatedId
    (or_else (first (is_in_template false page) (map off ps)) InTemplate None))
    ≡ or_else (first (is_unknown page) ps) UnknownId (or_else (first is_repeated ps) RepeatedId (or_else (first (is_in_template false page) ps) InTemplate None))
refused_off page ps a =
    let u : first (is_unknown page) (map off ps) ≡ first (is_unknown page) ps = first_off (is_unknown page) (unknown_off page) [] ps a in
    let r : first is_repeated (map off ps) ≡ first is_repeated ps = first_off is_repeated repeated_off [] ps a in
    let t : first (is_in_template false page) (map off ps) ≡ first (is_in_template false page) ps =
    first_off (is_in_template false page) (template_off page) [] ps a in
    ap (λ o. or_else o UnknownId (or_else (first is_repeated (map off ps)) RepeatedId
    (or_else (first (is_in_template false page) (map off ps)) InTemplate None))) u
    ∙ ap (λ o. or_else (first (is_unknown page) ps) UnknownId (or_else o RepeatedId (or_else (first (is_in_template false page) (map off ps)) InTemplate None))) r
    ∙ ap (λ o. or_else (first (is_unknown page) ps) UnknownId (or_else (first is_repeated ps) RepeatedId (or_else o InTemplate None))) t

pub checked_unmarked : (page edited : Tree) → groups_unmarked edited ≡ true → nodes_checked page edited ≡ nodes_checked page (unmarked edited)
unfolding nodes_checked
checked_unmarked page edited h =
    sym (ap (λ (ps : List Place). or_else (first (is_unknown (page_of page)) ps) UnknownId (or_else (first is_repeated ps) RepeatedId
    (or_else (first (is_in_template false (page_of page)) ps) InTemplate None))) (placed_off 0 false edited)
    ∙ refused_off (page_of page) (places edited) (groups_clear 0 false edited h))

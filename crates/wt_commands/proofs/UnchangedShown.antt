-- What is read of the HTML that is written for a tree, unchanged, has no marks, and shows what the tree shows, where each group is
-- what the page's group of its number holds.
use Rattle.std.proofs.Common.{◌≡◌, ◌≢◌, ℕ, suc, ◌<◌, Bool, true, false, refl, ap, ◌∙◌, subst, arith}
use Rattle.std.specs.Prelude.{◌||◌, if◌then◌else◌}
use Rattle.std.specs.List.{AllByRecursion}
use Rattle.wt_tree.specs.declared.kind.Kind.{Kind}
use Rattle.wt_tree.specs.declared.kind.Kind.TheVariants as kind
use Rattle.wt_tree.specs.declared.kind.Showing.{Showing}
use Rattle.wt_tree.specs.declared.kind.Showing.TheVariants.{Characters, Inside, Nothing, Element}
use Rattle.wt_tree.specs.declared.row.Writing.{Writing}
use Rattle.wt_tree.specs.declared.row.Writing.TheVariants.{AsText, AsVoid, RoundCharacter, RoundChildren, AsSection, Unwritten}
use Rattle.wt_tree.specs.Kinds.{showing, writing}
use Rattle.wt_tree.specs.Plain.{Plains, ended, shown_before, plain_before, plains_before}
use Rattle.wt_tree.specs.Tiling.{is_group, InPreorder}
use Rattle.wt_tree.specs.Tree.{Label, Tree, tree, Trees, none, more}
use Rattle.wt_schema.specs.GroupNodes.{group_nodes}
use Rattle.wt_schema.specs.Written.{label_read, unranged, unranged_all, is_childless, IsWrittenGroup, NodeIsWritten, WrittenIn, AllWrittenIn}
use Rattle.wt_page_round_trip.proofs.Sectioned.{IsWrittenBody}
use Rattle.wt_checks.specs.Groups.{is_marked, has_mark, have_mark}
use Rattle.wt_checks.specs.Places.{placed, all_placed, places, is_content, Page, page_of, parent_below}
use Rattle.wt_checks.proofs.Found.{Itself, each_itself}
use Rattle.wt_checks.proofs.InOrder.{not_zero_kept, test_other}
use Rattle.wt_checks.proofs.Lookups.{each_split}
use Rattle.wt_checks.proofs.WhatIsKept.{increasing}
use Rattle.wt_visible.specs.Children.{listed, shown_children}
use Rattle.wt_visible.specs.Restored.{held_there, group_held, held_by, restored, all_restored, restored_from}
use Rattle.wt_commands.proofs.UnchangedTree.{IsAgain, page_again, true_is}

-- ---- nothing is marked

mutual
  none_marked : (page : Page) (m : ℕ) (w : Bool) (u : Tree) → AllByRecursion (IsAgain page) (placed m w u) → has_mark u ≡ false
  none_marked page m w (tree l us) h =
      ap (λ b. b || have_mark us) (ap is_marked h.0.unmarked) ∙ none_marked_in page (parent_below m l.id) (w || is_content l.mark) us h.1

  none_marked_in : (page : Page) (m : ℕ) (w : Bool) (us : Trees) → AllByRecursion (IsAgain page) (all_placed m w us) → have_mark us ≡ false
  none_marked_in page m w none h = refl
  none_marked_in page m w (more u us) h =
      let s = each_split (IsAgain page) (placed m w u) (all_placed m w us) h in
      ap (λ b. b || have_mark us) (none_marked page m w u s.0) ∙ none_marked_in page m w us s.1

pub unchanged_unmarked : (t : Tree) → IsWrittenBody t → InPreorder t → has_mark (unranged t) ≡ false
unchanged_unmarked t w i = none_marked (page_of t) 0 false (unranged t) (page_again t w i)

-- ---- what is shown

shown_read : (s : Showing) (l : Label) (inside : Plains → Plains) (rest : Plains)
    → shown_before s (label_read l) inside rest ≡ shown_before s l inside rest
shown_read Characters l inside rest = refl
shown_read Inside l inside rest = refl
shown_read Nothing l inside rest = refl
shown_read Element l inside rest = refl

-- ---- what a node holds is written

group_unwritten : (k : Kind) → is_group k ≡ true → writing k ≡ Unwritten
group_unwritten kind.Group e = refl
group_unwritten k e = absurd cc

childless_written : (ts : Trees) (k : ℕ) (parent : Kind) → is_childless ts ≡ true → AllWrittenIn k parent ts
childless_written none k parent e = tt
childless_written (more t ts) k parent e = absurd (cc)

inside_written : (w : Writing) (l : Label) (ts : Trees) (k : ℕ) (parent : Kind) (Cut : Type 0) → is_group l.kind ≡ false
    → NodeIsWritten w k parent l (is_childless ts) (Cut × AllWrittenIn (suc k) l.kind ts) (IsWrittenGroup k parent l ts)
    → AllWrittenIn (suc k) l.kind ts
inside_written AsText l ts k parent Cut g h = childless_written ts (suc k) l.kind h.1
inside_written AsVoid l ts k parent Cut g h = h.4.1
inside_written RoundCharacter l ts k parent Cut g h = h.4.1
inside_written RoundChildren l ts k parent Cut g h = h.4.1
inside_written (AsSection n) l ts k parent Cut g h = absurd h
inside_written Unwritten l ts k parent Cut g h = absurd (true_is (is_group l.kind) g (ap is_group h.label.kind))

written_group : (l : Label) (ts : Trees) (k : ℕ) (parent : Kind) (Content : Type 0) → is_group l.kind ≡ true
    → NodeIsWritten (writing l.kind) k parent l (is_childless ts) Content (IsWrittenGroup k parent l ts) → IsWrittenGroup k parent l ts
written_group l ts k parent Content g h =
    subst (λ w. NodeIsWritten w k parent l (is_childless ts) Content (IsWrittenGroup k parent l ts)) (group_unwritten l.kind g) h

-- ---- a group holds what the page's group holds

group_found : (page : Page) (l : Label) (ts us : Trees) (n : ℕ) (within : Bool) → l.id ≢ 0
    → Itself page (record { node = tree l ts; parent = n; in_content = within }) → group_held page l.id us ≡ ts
group_found page l ts us n within z s =
    ap (λ b. if b then us else held_there (page l.id) us) (test_other l.id 0 z) ∙ ap (λ o. held_there o us) (s (not_zero_kept l.id z))

held_shown : (g : Bool) (page : Page) (id : ℕ) (ts : Trees) → (g ≡ true → group_held page id (group_nodes ts) ≡ ts)
    → (g ≡ false → (rest : Plains) → plains_before (all_restored page (unranged_all ts)) rest ≡ plains_before ts rest) → (rest : Plains)
    → let us = if g then group_nodes ts else unranged_all ts in plains_before (held_by page g id us (all_restored page us)) rest ≡ plains_before ts rest
held_shown true page id ts e f rest = ap (λ us. plains_before us rest) (e refl)
held_shown false page id ts e f rest = f refl rest

above_zero : (n : ℕ) → 0 < n → n ≢ 0
above_zero n h = λ e. omega (arith, h, e)

mutual
  same_shown : (t : Tree) (k : ℕ) (parent : Kind) (page : Page) (n : ℕ) (within : Bool) → WrittenIn k parent t
      → AllByRecursion (Itself page) (placed n within t) → (rest : Plains) → plain_before (restored page (unranged t)) rest ≡ plain_before t rest
  same_shown (tree l ts) k parent page n within h s rest =
      shown_read (showing l.kind) l _ rest
      ∙ ap (λ f. shown_before (showing l.kind) l f rest) (λ i ps. held_shown (is_group l.kind) page l.id ts
      (λ g. group_found page l ts (group_nodes ts) n within (above_zero l.id (written_group l ts k parent _ g h).label.number.0) s.0)
      (λ g r. all_same_shown ts (suc k) l.kind page (parent_below n l.id) (within || is_content l.mark)
      (inside_written (writing l.kind) l ts k parent _ g h) s.1 r) ps i)

  all_same_shown : (ts : Trees) (k : ℕ) (parent : Kind) (page : Page) (n : ℕ) (within : Bool) → AllWrittenIn k parent ts
      → AllByRecursion (Itself page) (all_placed n within ts) → (rest : Plains)
      → plains_before (all_restored page (unranged_all ts)) rest ≡ plains_before ts rest
  all_same_shown none k parent page n within h s rest = refl
  all_same_shown (more t ts) k parent page n within h s rest =
      let a = each_split (Itself page) (placed n within t) (all_placed n within ts) s in
      same_shown t k parent page n within h.0 a.0 (plains_before (all_restored page (unranged_all ts)) rest)
      ∙ ap (plain_before t) (all_same_shown ts k parent page n within h.2 a.1 rest)

pub unchanged_shown : (t : Tree) → IsWrittenBody t → InPreorder t → shown_children (restored_from t (unranged t)) ≡ shown_children t
unchanged_shown (tree l ts) w i =
    let s : AllByRecursion (Itself (page_of (tree l ts))) (places (tree l ts)) = each_itself (places (tree l ts)) (increasing (tree l ts) w.0 i) in
    ap listed (held_shown (is_group l.kind) (page_of (tree l ts)) l.id ts (λ g. absurd (true_is (is_group l.kind) (ap is_group w.0) g))
    (λ g r. all_same_shown ts 8 kind.Body (page_of (tree l ts)) (parent_below 0 l.id) (is_content l.mark) w.2 s.1 r) ended)

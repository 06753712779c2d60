-- What is sent for a group and what it holds: no mark, no number, and no body or section.
use Rattle.std.proofs.Common.{◌≡◌, ℕ, Bool, true, false, List, [], ◌∷◌, ◌++◌, refl, sym, ap, ◌∙◌, subst, inl, inr, append_assoc}
use Rattle.std.specs.Prelude.{◌==◌, ◌&&◌, ◌||◌, not, if◌then◌else◌}
use Rattle.std.specs.List.{AllByRecursion}
use Rattle.wt_tree.specs.declared.kind.Kind.{Kind}
use Rattle.wt_tree.specs.declared.kind.Kind.TheVariants as kind
use Rattle.wt_tree.specs.declared.kind.Mark.{Mark}
use Rattle.wt_tree.specs.declared.kind.Mark.TheVariants as marks
use Rattle.wt_tree.specs.Tiling.{is_group, HasNoGroup, NoneIsGroup, ids, ids_of_all}
use Rattle.wt_tree.specs.Tree.{Label, Tree, tree, Trees, none, more}
use Rattle.wt_recut.specs.Recutting.{appended}
use Rattle.wt_checks.specs.Groups.{is_marked, has_mark, have_mark}
use Rattle.wt_checks.specs.Kept.{kept_under, is_of_page, GroupKept, NodeKept}
use Rattle.wt_checks.specs.Places.{Place, number, kind_at, placed, all_placed, is_kept, is_body, is_content, Page, parent_below}
use Rattle.wt_checks.specs.PutBack.{is_frame, has_frame, have_frame}
use Rattle.wt_checks.proofs.Frames.{no_frame}
use Rattle.wt_checks.proofs.Lookups.{each_split, each_join}
use Rattle.wt_checks.proofs.Repeated.{or_false}
use Rattle.wt_difference.specs.Unedited.{GroupOr}
use Rattle.wt_typed_blocks.specs.Sent.{IsSentAsIs, StandsAsIs, AllStandAsIs, Sent, stands, typed, holds, Sents, none_sent, more_sent, old_child, old_children, IsOutsideGroups, AreOutsideGroups}
use Rattle.wt_typed_blocks.specs.Edited.{as_new, IsStyle}

-- ---- a group, or another node

-- what follows from both
pub in_group : {A B G : Type 0} (b : Bool) → GroupOr b A B → (b ≡ true → A → G) → (b ≡ false → B → G) → G
in_group true h f g = f refl h
in_group false h f g = g refl h

pub in_both : {A B C D G : Type 0} (b : Bool) → GroupOr b A B → GroupOr b C D → (b ≡ true → A → C → G) → (b ≡ false → B → D → G) → G
in_both true h k f g = f refl h k
in_both false h k f g = g refl h k

pub as_group : {A B C D : Type 0} (b : Bool) → GroupOr b A B → (A → C) → (B → D) → GroupOr b C D
as_group true h f g = f h
as_group false h f g = g h

pub both_ways : {A B : Type 0} (b : Bool) → A → B → GroupOr b A B
both_ways true f g = f
both_ways false f g = g

pub no_group : (A : Type 0) {B : Type 0} (b : Bool) → b ≡ false → B → GroupOr b A B
no_group A true e g = absurd (cc)
no_group A false e g = g

-- ---- bold and italic

pub of_style : (P : Kind → Type 0) (k : Kind) → IsStyle k → P kind.Bold → P kind.Italic → P k
of_style P k (inl e) b i = subst P (sym e) b
of_style P k (inr e) b i = subst P (sym e) i

pub style_ungrouped : (k : Kind) → IsStyle k → is_group k ≡ false
style_ungrouped k h = of_style (λ j. is_group j ≡ false) k h refl refl

-- ---- nodes before others

-- what holds of all of both holds of all of each
pub apart : (Q : Tree → Type 0) (P : Trees → Type 0) → P none → ((t : Tree) (us : Trees) → P (more t us) → Q t × P us)
    → ((t : Tree) (us : Trees) → Q t × P us → P (more t us)) → (ts us : Trees) → P (appended ts us) → P ts × P us
apart Q P nil out into none us h = (nil, h)
apart Q P nil out into (more t ts) us h =
    let d = out t (appended ts us) h in
    let r = apart Q P nil out into ts us d.1 in
    (into t ts (d.0, r.0), r.1)

pub apart_groups : (ts us : Trees) → NoneIsGroup (appended ts us) → NoneIsGroup ts × NoneIsGroup us
apart_groups ts us h = apart (λ t. HasNoGroup t) (λ vs. NoneIsGroup vs) tt (λ t vs d. d) (λ t vs d. d) ts us h

pub placed_appended : (j : ℕ) (w : Bool) (ts us : Trees) → all_placed j w (appended ts us) ≡ all_placed j w ts ++ all_placed j w us
placed_appended j w none us = refl
placed_appended j w (more t ts) us =
    ap (λ (ps : List Place). placed j w t ++ ps) (placed_appended j w ts us) ∙ sym (append_assoc (placed j w t) (all_placed j w ts) (all_placed j w us))

-- a new style is sent as it is
pub new_sent : (m : Label) → IsSentAsIs (as_new m) (as_new m)
new_sent m = record { kind = refl; id = refl; attrs = refl; mw = refl; shown = λ e. refl; unmarked = refl }

-- ---- pages without groups

mutual
  one_outside : (s : Sent) → HasNoGroup (old_child s) → IsOutsideGroups s
  one_outside (stands t u) h = tt
  one_outside (typed k l ts m x text) h = tt
  one_outside (holds l m ss) h = (h.0, outside ss h.1)

  pub outside : (ss : Sents) → NoneIsGroup (old_children ss) → AreOutsideGroups ss
  outside none_sent h = tt
  outside (more_sent s ss) h = (one_outside s h.0, outside ss h.1)

-- ---- no mark

mutual
  pub no_mark : (t u : Tree) → StandsAsIs t u → has_mark u ≡ false
  no_mark (tree l ts) (tree m us) h =
      ap (λ (k : Mark). is_marked k || have_mark us) h.0.unmarked
      ∙ in_group (is_group l.kind) h.1 (λ e g. g.unmarked) (λ e a. all_no_mark ts us a)

  all_no_mark : (ts us : Trees) → AllStandAsIs ts us → have_mark us ≡ false
  all_no_mark none none h = refl
  all_no_mark none (more u us) h = absurd h
  all_no_mark (more t ts) none h = absurd h
  all_no_mark (more t ts) (more u us) h = ap (λ (b : Bool). b || have_mark us) (no_mark t u h.0) ∙ all_no_mark ts us h.1

pub mark_none : (c : Mark) → is_marked c ≡ false → c ≡ marks.Nothing
mark_none marks.Nothing e = refl
mark_none marks.Content e = absurd (cc)
mark_none marks.Children e = absurd (cc)
mark_none marks.Other e = absurd (cc)

-- ---- no number, no body and no section

abbrev pub IsNew : Place → Type 0
IsNew p = is_of_page p ≡ false

zero_new : (n : ℕ) (b : Bool) → n ≡ 0 → b ≡ false → (not (n == 0) || b) ≡ false
zero_new n b e f = ap (λ (i : ℕ). not (i == 0) || b) e ∙ f

mutual
  new_inside : (j : ℕ) (w : Bool) (u : Tree) → AllByRecursion (λ n. n ≡ 0) (ids u) → has_frame u ≡ false → AllByRecursion IsNew (placed j w u)
  new_inside j w (tree m us) z f =
      let d = or_false (is_frame m.kind) (have_frame us) f in (
        zero_new m.id (is_body m.kind) z.0 (no_frame m.kind d.0).0,
        all_new (parent_below j m.id) (w || is_content m.mark) us z.1 d.1,
      )

  pub all_new : (j : ℕ) (w : Bool) (us : Trees) → AllByRecursion (λ n. n ≡ 0) (ids_of_all us) → have_frame us ≡ false
      → AllByRecursion IsNew (all_placed j w us)
  all_new j w none z f = tt
  all_new j w (more u us) z f =
      let d = or_false (has_frame u) (have_frame us) f in
      let s = each_split (λ n. n ≡ 0) (ids u) (ids_of_all us) z in
      each_join IsNew (placed j w u) (all_placed j w us) (new_inside j w u s.0 d.0) (all_new j w us s.1 d.1)

-- so nothing is asked of them
pub new_under : (n : ℕ) (ps : List Place) → AllByRecursion IsNew ps → kept_under n ps ≡ []
new_under n [] h = refl
new_under n (p ∷ ps) h =
    ap (λ (b : Bool). if b && p.parent == n then number p ∷ kept_under n ps else kept_under n ps) (or_false (is_kept p) (is_body (kind_at p)) h.0).0
    ∙ new_under n ps h.1

pub new_groups : (page : Page) (ps : List Place) → AllByRecursion IsNew ps → AllByRecursion (GroupKept false page) ps
new_groups page [] h = tt
new_groups page (p ∷ ps) h = (
  λ k. let n : is_kept p ≡ false = (or_false (is_kept p) (is_body (kind_at p)) h.0).0 in absurd (cc),
  new_groups page ps h.1,
)

pub new_nodes : (page : Page) (ps : List Place) → AllByRecursion IsNew ps → AllByRecursion (NodeKept page) ps
new_nodes page [] h = tt
new_nodes page (p ∷ ps) h = (λ a b. let n : is_of_page p ≡ false = h.0 in absurd (cc), new_nodes page ps h.1)

-- A text edit that marks nothing is local: each node stays where it is.
use Rattle.std.proofs.Common.{◌≡◌, ℕ, Bool, true, false, Option, Some, None, List, [], ◌∷◌, refl, sym, ap, ◌∙◌, subst, inl}
use Rattle.std.specs.Prelude.{if◌then◌else◌}
use Rattle.std.specs.List.{AllByRecursion}
use Rattle.wt_tree.specs.declared.kind.Ranges.{Ranges}
use Rattle.wt_tree.specs.Source.{flat}
use Rattle.wt_tree.specs.Tiling.{is_group}
use Rattle.wt_tree.specs.Tree.{Tree, tree, Trees, none, more}
use Rattle.wt_checks.specs.Kept.{children}
use Rattle.wt_checks.proofs.Lookups.{each_split}
use Rattle.wt_checks.proofs.Repeated.{or_false}
use Rattle.wt_expand.specs.Expansion.{page_work}
use Rattle.wt_expand.specs.PageCalls.{expanded_page}
use Rattle.wt_expand.specs.Work.{Pages, Entry}
use Rattle.wt_annotated.specs.Reached.{reached, reached_in_all}
use Rattle.wt_annotated.specs.Slices.{opening_of, IsSlice, StandsIn}
use Rattle.wt_typed_blocks.specs.Edited.{Edited, stays, edited, round, Edits, no_edits, more_edits, page_node, page_nodes, IsOutside, AreOutside}
use Rattle.wt_called_edit_laws.specs.Groups.{called_tree}
use Rattle.wt_called_edit_laws.specs.LocalChange.{Shift, no_shift, MovesIn, StaysMoved, AllStayMoved, past_node, past_nodes, IsLocalAt, AreLocal, ExpandsAlike, IsLocalChange}
use Rattle.wt_called_edit_laws.specs.Retyped.{AreSomeOf}
use Rattle.wt_called_edit_laws.proofs.MovedOuters.{same_calls}
use Rattle.wt_inside_laws.specs.AsSent.{holds_edit, hold_edits}

-- ---- places

still_there : (page : List ℕ) (r : Option Ranges) (source opening closing : List ℕ) → StandsIn page r source opening closing → MovesIn no_shift no_shift r r
still_there page None source opening closing h = absurd h
still_there page (Some r) source opening closing h = record { start = refl; end = refl; open_w = refl; close_w = refl }

-- ---- a node that holds no edited block

below : (page : List ℕ) (v : Bool) (ts : Trees) → v ≡ false → AllByRecursion (IsSlice page) (if v then [] else reached_in_all ts)
    → AllByRecursion (IsSlice page) (reached_in_all ts)
below page true ts e h = absurd (cc e)
below page false ts e h = h

mutual
  still : (page : List ℕ) (t : Tree) → AllByRecursion (IsSlice page) (reached t) → StaysMoved no_shift t t
  still page (tree l ts) h = (
    refl,
    still_there page l.ranges (flat (tree l ts)) (opening_of l) l.closing h.0,
    (λ g. refl),
    (λ g. all_still page ts (below page (is_group l.kind) ts g h.1)),
  )

  all_still : (page : List ℕ) (ts : Trees) → AllByRecursion (IsSlice page) (reached_in_all ts) → AllStayMoved no_shift ts ts
  all_still page none h = tt
  all_still page (more t ts) h =
      let s = each_split (IsSlice page) (reached t) (reached_in_all ts) h in (still page t s.0, all_still page ts s.1)

-- ---- where nothing is edited

mutual
  past_still : (e : Edited) (s : Shift) (t u : Tree) → holds_edit e ≡ false → past_node e s t u ≡ s
  past_still (stays x y) s t u h = refl
  past_still (edited k l m ps) s t u h = absurd (cc h)
  past_still (round l m es) s (tree x ts) (tree y us) h = past_all_still es s ts us h

  past_all_still : (es : Edits) (s : Shift) (ts us : Trees) → hold_edits es ≡ false → past_nodes es s ts us ≡ s
  past_all_still no_edits s ts us h = refl
  past_all_still (more_edits e es) s none us h = refl
  past_all_still (more_edits e es) s (more t ts) none h = refl
  past_all_still (more_edits e es) s (more t ts) (more u us) h =
      let d = or_false (holds_edit e) (hold_edits es) h in
      ap (λ (v : Shift). past_nodes es v ts us) (past_still e s t u d.0) ∙ past_all_still es s ts us d.1

mutual
  local_still : (page : List ℕ) (e : Edited) → holds_edit e ≡ false → IsOutside e → AllByRecursion (IsSlice page) (reached (page_node e))
      → IsLocalAt e no_shift (page_node e) (page_node e)
  local_still page (stays t u) n o h = still page t h
  local_still page (edited k l m ps) n o h = absurd (cc n)
  local_still page (round l m es) n o h =
      let ts : Trees = page_nodes es in (
        refl,
        subst (λ (s : Shift). MovesIn no_shift s l.ranges l.ranges) (sym (past_all_still es no_shift ts ts n))
            (still_there page l.ranges (flat (tree l ts)) (opening_of l) l.closing h.0),
        all_local_still page es n o.1 (below page (is_group l.kind) ts o.0 h.1),
      )

  all_local_still : (page : List ℕ) (es : Edits) → hold_edits es ≡ false → AreOutside es → AllByRecursion (IsSlice page) (reached_in_all (page_nodes es))
      → AreLocal es no_shift (page_nodes es) (page_nodes es)
  all_local_still page no_edits n o h = tt
  all_local_still page (more_edits e es) n o h =
      let d = or_false (holds_edit e) (hold_edits es) n in
      let s = each_split (IsSlice page) (reached (page_node e)) (reached_in_all (page_nodes es)) h in (
        local_still page e d.0 o.0 s.0,
        subst (λ (v : Shift). AreLocal es v (page_nodes es) (page_nodes es)) (sym (past_still e no_shift (page_node e) (page_node e) d.0))
            (all_local_still page es d.1 o.1 s.1),
      )

-- ---- the page

all_work : (es : List Entry) → AreSomeOf es es
all_work [] = tt
all_work (e ∷ es) = inl (refl, all_work es)

pub still_local : (pages : Pages) (page : List ℕ) (es : Edits) → hold_edits es ≡ false → AreOutside es → page_nodes es ≡ children (called_tree pages page)
    → AllByRecursion (IsSlice page) (reached_in_all (children (called_tree pages page))) → IsLocalChange pages page page es
still_local pages page es n o e h = record {
  body = refl;
  nodes =
      subst (λ (ts : Trees). AreLocal es no_shift ts ts) e
      (all_local_still page es n o (subst (λ (ts : Trees). AllByRecursion (IsSlice page) (reached_in_all ts)) (sym e) h));
  keeps = record { calls = same_calls (expanded_page pages page).outer; work = all_work (page_work pages page) };
}

pub still_alike : (pages : Pages) (page : List ℕ) → ExpandsAlike pages page page
still_alike pages page = record { work = refl; outputs = λ k. refl }

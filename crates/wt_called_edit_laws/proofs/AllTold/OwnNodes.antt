-- A node of a page's tree that is clean and holds no group: all in it is the page's own, and it is as it is by itself.
use Rattle.std.proofs.Common.{◌≡◌, ℕ, Bool, true, false, Option, None, List, [], ◌∷◌, ◌++◌, length, refl, sym, ap, ◌∙◌, subst, cond}
use Rattle.std.specs.Prelude.{◌||◌}
use Rattle.std.specs.List.{list_any}
use Rattle.wt_tree.specs.Kinds.{is_leaf, is_section}
use Rattle.wt_tree.specs.Tiling.{HasNoGroup, NoneIsGroup}
use Rattle.wt_tree.specs.Tree.{Tree, tree, Trees, none, more}
use Rattle.wt_span.specs.Items.{Item}
use Rattle.wt_span.specs.Origins.{OuterCall}
use Rattle.wt_checks.specs.Kept.{children}
use Rattle.wt_inline.specs.ItemTree.{ItemTree, inner, ItemTrees, nothing, further, forest, tree_items, held_by_all}
use Rattle.wt_annotated.specs.Annotated.{unplaced, all_unplaced, annotated}
use Rattle.wt_annotated.specs.Clean.{is_page, is_body}
use Rattle.wt_annotated.specs.CutTexts.{cut_texts}
use Rattle.wt_annotated.specs.GroupData.{group_data}
use Rattle.wt_annotated.specs.Labels.{label_at}
use Rattle.wt_annotated.specs.Numbering.{with_numbers}
use Rattle.wt_annotated.specs.Seams.{last_of, first_of, parted, text_from}
use Rattle.wt_annotated.specs.Walked.{clean_at, Near, near_group, walked}
use Rattle.wt_annotated.specs.WithoutCalls.{inside_by, holds_page, InsideOf, NoneEmpty, AllNonEmpty, IsPlain, placed}
use Rattle.wt_annotated.proofs.Calls.{all_split}
use Rattle.wt_annotated.proofs.NoGroups.{only_plain}
use Rattle.wt_part_laws.specs.HeldCalls.{block_in}
use Rattle.wt_part_laws.specs.Placeless.{placeless, all_placeless}
use Rattle.wt_part_laws.specs.Rounded.{HasItems, AllHaveItems}
use Rattle.wt_part_laws.specs.Standing.{standing, IsOrdinary, AreOrdinary}
use Rattle.wt_part_laws.proofs.EndWalks.{BothFree, walk_end, clean_same as clean_end}
use Rattle.wt_part_laws.proofs.FramesWalked.{clean_apart}
use Rattle.wt_part_laws.proofs.GroupsStay.{numbers_gone}
use Rattle.wt_part_laws.proofs.OwnWalks.{OfPage, before_free, walk_own}
use Rattle.wt_part_laws.proofs.Recuts.{texts_same}
use Rattle.wt_part_laws.proofs.SameWalks.{same_data, walk_same}
use Rattle.wt_part_laws.proofs.StartWalks.{FreeStarts, walk_start, clean_same as clean_start}
use Rattle.wt_text_edit_laws.specs.ParagraphBetween.{body_with}
use Rattle.wt_called_edit_laws.specs.RowBlocks.{node_between}
use Rattle.wt_called_edit_laws.proofs.SettledNodes.{placeless_groupless}
use Rattle.wt_called_edit_laws.proofs.Told.FreeNodes.{IsFullTree}
use Rattle.wt_called_edit_laws.proofs.AllTold.TreeBlocks.{page_walked}

-- ---- its node, wherever it is

-- what is round a clean node is nothing to its walk
pub record IsSameWalk (calls : List OuterCall) (o : Option ℕ) (at : ℕ) (p : Option ℕ) (u : ItemTree) : Type 0 where
  pub clean : clean_at None None u ≡ true
  pub same : placeless (walked calls (group_data calls) o at p u) ≡ block_in calls u

pub same_walk : (calls : List OuterCall) (o : Option ℕ) (at : ℕ) (p : Option ℕ) (u : ItemTree) → clean_at o p u ≡ true → IsSameWalk calls o at p u
same_walk calls o at p u e =
    let xs : List Item = tree_items u in
    let starts : FreeStarts o None p xs = record { first = (clean_apart o p u e).first; second = refl } in
    let first : clean_at None p u ≡ true = sym (clean_start o None p u starts) ∙ e in
    let ends : BothFree None p None xs = record { first = (clean_apart None p u first).last; second = before_free (last_of None xs) None refl } in
    record {
      clean = sym (clean_end None p None u ends) ∙ first;
      same = ap placeless (walk_start calls o None at p u starts ∙ walk_end calls None at p None u ends) ∙ walk_same calls calls (same_data calls) None at 0 None u;
    }

pub between_same : (calls : List OuterCall) (n : ℕ) (before : List Item) (u : ItemTree) (behind : List Item)
    → clean_at (last_of None before) (first_of behind None) u ≡ true → placeless (node_between calls n before u behind) ≡ cut_texts (block_in calls u)
between_same calls n before u behind e =
    let o : Option ℕ = last_of None before in
    let p : Option ℕ = first_of behind None in
    let at : ℕ = length (text_from calls None before) in
    let w : Tree = walked calls (group_data calls) o at p u in
    texts_same (with_numbers n w) ∙ ap cut_texts (numbers_gone n w ∙ (same_walk calls o at p u e).same)

-- ---- it holds no group

mutual
  groupless_back : (t : Tree) → HasNoGroup (placeless t) → HasNoGroup t
  groupless_back (tree l ts) h = (h.0, all_groupless_back ts h.1)

  all_groupless_back : (ts : Trees) → NoneIsGroup (all_placeless ts) → NoneIsGroup ts
  all_groupless_back none h = tt
  all_groupless_back (more t ts) h = (groupless_back t h.0, all_groupless_back ts h.1)

-- a body that holds it alone
alone_walked : (calls : List OuterCall) (u : ItemTree) → clean_at None None u ≡ true
    → children (annotated calls (group_data calls) (body_with (u ∷ [])))
    ≡ more (cut_texts (with_numbers 1 (walked calls (group_data calls) None 0 None u))) none
alone_walked calls u e =
    let c : Near = record {
      tree = u;
      before = None;
      after = None;
      byte = 0;
      free = parted None (first_of (tree_items u) None);
      clean = clean_at None None u;
      whole = walked calls (group_data calls) None 0 None u;
    } in
    page_walked calls (u ∷ [])
    ∙ ap (λ (v : Bool). more (cut_texts (with_numbers 1 (cond v c.whole (near_group calls (group_data calls) (c ∷ []))))) none) e

body_groupless : (calls : List OuterCall) (us : List ItemTree) → NoneIsGroup (children (annotated calls (group_data calls) (body_with us)))
    → HasNoGroup (annotated calls (group_data calls) (body_with us))
unfolding annotated
body_groupless calls us h = (refl, h)

pub full_tree : (calls : List OuterCall) (n : ℕ) (before : List Item) (u : ItemTree) (behind : List Item)
    → clean_at (last_of None before) (first_of behind None) u ≡ true → HasNoGroup (node_between calls n before u behind) → IsFullTree u
full_tree calls n before u behind e g =
    let clean : clean_at None None u ≡ true = (same_walk calls (last_of None before) 0 (first_of behind None) u e).clean in
    let v : Tree = cut_texts (with_numbers 1 (walked calls (group_data calls) None 0 None u)) in
    let w : Tree = walked calls (group_data calls) None 0 None u in
    let bare : placeless v ≡ cut_texts (block_in calls u) = texts_same (with_numbers 1 w) ∙ ap cut_texts (numbers_gone 1 w) in
    let same : placeless (node_between calls n before u behind) ≡ placeless v = between_same calls n before u behind e ∙ sym bare in
    let own : HasNoGroup v = groupless_back v (subst HasNoGroup same (placeless_groupless (node_between calls n before u behind) g)) in
    let plain : IsPlain (body_with (u ∷ [])) =
    only_plain calls (group_data calls) (forest (u ∷ []))
    (body_groupless calls (u ∷ []) (subst NoneIsGroup (sym (alone_walked calls u clean)) (own, tt))) in
    let held : List Item = tree_items u ++ [] in
    record {
      holds = plain.none_empty.0;
      full = plain.none_empty.1;
      of_page = (all_split (tree_items u) [] (all_split held [] plain.of_page).0).0;
    }

-- ---- each node in it has an item

or_second : (u v : Bool) → (u || v) ≡ true → u ≡ false → v ≡ true
or_second true v e f = absurd (cc)
or_second false v e f = e

or_none : (u v : Bool) → (u || v) ≡ false → u ≡ false
or_none true v e = e
or_none false v e = refl

inside_with : (v : Bool) (ts : Trees) (A B : Type 0) → (AreOrdinary ts → A → B) → AreOrdinary (inside_by v ts) → InsideOf v A → InsideOf v B
inside_with true ts A B f k n = tt
inside_with false ts A B f k n = f k n

mutual
  unfolding label_at

  pub has_items : (t : ItemTree) → IsOrdinary (unplaced t) → holds_page t ≡ true → NoneEmpty t → HasItems t
  has_items (inner h o ts c) k p n = (
    or_second (is_body h.kind) (list_any is_page (o ++ (held_by_all ts ++ c))) p (or_none (is_body h.kind) (is_section h.kind) k.0),
    inside_with (is_leaf h.kind) (all_unplaced ts) (AllNonEmpty ts) (AllHaveItems ts) (λ j m. all_have ts j m) k.2 n,
  )

  all_have : (ts : ItemTrees) → AreOrdinary (all_unplaced ts) → AllNonEmpty ts → AllHaveItems ts
  all_have nothing k n = tt
  all_have (further t ts) k n = (has_items t k.0 n.0 n.1, all_have ts k.1 n.2)

-- so it is the node of a page without calls
pub between_own : (calls : List OuterCall) (n : ℕ) (before : List Item) (u : ItemTree) (behind : List Item)
    → clean_at (last_of None before) (first_of behind None) u ≡ true → OfPage (tree_items u) → HasItems u
    → placeless (node_between calls n before u behind) ≡ placeless (standing 0 [] u)
between_own calls n before u behind e p has =
    between_same calls n before u behind e
    ∙ ap cut_texts (walk_own calls None 0 None [] u p has ∙ sym (numbers_gone 0 (placed [] u)))
    ∙ sym (texts_same (with_numbers 0 (placed [] u)))

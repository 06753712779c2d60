-- What `selser` keeps, of the trees of pages and of what is read.
use Rattle.std.proofs.Common.{◌≡◌, ◌≤◌, ℕ, Bool, true, false, None, List, length, refl, sym, ap, ap₂, ◌∙◌, true≢false}
use Rattle.std.specs.Prelude.{◌||◌, Option, if◌then◌else◌}
use Rattle.std.specs.Str.{IsUtf8}
use Rattle.wt_tree.specs.declared.kind.Kind.{Kind}
use Rattle.wt_tree.specs.declared.kind.Kind.TheVariants as kind
use Rattle.wt_tree.specs.Kinds.{is_leaf, is_section}
use Rattle.wt_tree.specs.Opened.{all_opened_before, opened_before, without_sections}
use Rattle.wt_tree.specs.Tree.{Tree, tree, Trees, none, more, label}
use Rattle.wt_checks.specs.Kept.{children}
use Rattle.wt_checks.specs.Places.{is_body}
use Rattle.wt_checks.specs.PutBack.{IsOneBody, has_frame, have_frame, is_frame}
use Rattle.wt_checks.specs.WithoutMarks.{all_unmarked, unmarked}
use Rattle.wt_difference.specs.Remarked.{remarked}
use Rattle.wt_difference.proofs.Remarks.{marks_alone}
use Rattle.wt_devices.specs.Device.{Pages}
use Rattle.wt_page_round_trip.specs.PageTree.{page_tree}
use Rattle.wt_page_round_trip.proofs.PageTrees.{page_numbered, page_tiled}
use Rattle.wt_places.specs.Rewritten.{IsRewritten}
use Rattle.wt_selser.specs.Leaves.{AllLeavesHoldNoNumber, LeavesHoldNoNumber}
use Rattle.wt_commands.specs.Answers.{refusal_of_page, remarked_of}
use Rattle.wt_commands.proofs.LeavesLaws.{page_leaves}
use Rattle.wt_commands.proofs.ShownLaws.{page_body}
use Rattle.wt_page_round_trip.proofs.OneBody.{read_is_one_body}
use Rattle.wt_pagetool.specs.Rewrites.{WroteSelser}
use Rattle.wt_span.specs.declared.limits.TheConstants.{PAGE_BYTES}
use Rattle.wt_call_laws.specs.Untouched.{AllLeavesAreBare, IsWholePage, LeavesAreBare}
use Rattle.wt_call_laws.proofs.Alone.{unedited_untouched}
use Rattle.wt_call_laws.proofs.Bytes.{untouched_stay}
use Rattle.wt_call_laws.specs.KeptBytes.{KeepsUnedited}

-- ---- the tree of a page

mutual
  bare : (t : Tree) → LeavesHoldNoNumber t → LeavesAreBare t
  bare (tree l ts) h = (h.0, all_bare ts h.1)

  all_bare : (ts : Trees) → AllLeavesHoldNoNumber ts → AllLeavesAreBare ts
  all_bare none h = tt
  all_bare (more t ts) h = (bare t h.0, all_bare ts h.1)

no_leaf : (k : Kind) → is_section k ≡ true → is_leaf k ≡ true → ⊥
no_leaf (kind.Section n) e f = true≢false (sym f)
no_leaf k e f = absurd (cc)

-- what sections hold, in its place
mutual
  bare_before : (t : Tree) (rest : Trees) → AllLeavesHoldNoNumber (opened_before t rest) → LeavesAreBare t × AllLeavesHoldNoNumber rest
  bare_before (tree l ts) rest h = by (is_section l.kind) refl h (λ k. all_bare_before ts rest k)
    where
      by : (v : Bool) → is_section l.kind ≡ v → AllLeavesHoldNoNumber (if v then all_opened_before ts rest else more (tree l ts) rest)
          → (AllLeavesHoldNoNumber (all_opened_before ts rest) → AllLeavesAreBare ts × AllLeavesHoldNoNumber rest)
          → LeavesAreBare (tree l ts) × AllLeavesHoldNoNumber rest
      by true e k f = let a = f k in ((λ leaf. absurd (no_leaf l.kind e leaf), a.0), a.1)
      by false e k f = (bare (tree l ts) k.0, k.1)

  all_bare_before : (ts rest : Trees) → AllLeavesHoldNoNumber (all_opened_before ts rest) → AllLeavesAreBare ts × AllLeavesHoldNoNumber rest
  all_bare_before none rest h = (tt, h)
  all_bare_before (more t ts) rest h =
      let a = bare_before t (all_opened_before ts rest) h in let b = all_bare_before ts rest a.1 in ((a.0, b.0), b.1)

root_no_leaf : (k : Kind) → k ≡ kind.Body → is_leaf k ≡ true → ⊥
root_no_leaf k e f = true≢false (sym (ap is_leaf (sym e) ∙ f))

bare_page : (t : Tree) → (label t).kind ≡ kind.Body → LeavesHoldNoNumber (without_sections t) → LeavesAreBare t
bare_page (tree l ts) b h = (λ leaf. absurd (root_no_leaf l.kind b leaf), (all_bare_before ts none h.1).0)

whole_page : (pages : Pages) (page : List ℕ) → IsUtf8 page → length page ≤ PAGE_BYTES → refusal_of_page pages page ≡ None
    → IsWholePage (page_tree pages page)
whole_page pages page text within unrefused = record {
  body = page_body pages page;
  tiled = page_tiled pages page;
  numbered = page_numbered pages page;
  leaves = bare_page (page_tree pages page) (page_body pages page) (page_leaves pages page text within unrefused);
}

-- ---- what is read, with other marks

mutual
  frame_same : (t : Tree) → has_frame (unmarked t) ≡ has_frame t
  frame_same (tree l ts) = ap (λ (b : Bool). is_frame l.kind || b) (frames_same ts)

  frames_same : (ts : Trees) → have_frame (all_unmarked ts) ≡ have_frame ts
  frames_same none = refl
  frames_same (more t ts) = ap₂ (λ (a b : Bool). a || b) (frame_same t) (frames_same ts)

kind_same : (t : Tree) → (label (unmarked t)).kind ≡ (label t).kind
kind_same (tree l ts) = refl

held_same : (t : Tree) → have_frame (children (unmarked t)) ≡ have_frame (children t)
held_same (tree l ts) = frames_same ts

one_body : (t u : Tree) → IsOneBody u → IsOneBody (remarked t u)
one_body t u o =
    let e : unmarked (remarked t u) ≡ unmarked u = marks_alone t u in
    record {
      root = ap is_body (sym (kind_same (remarked t u)) ∙ ap (λ (x : Tree). (label x).kind) e ∙ kind_same u) ∙ o.root;
      alone = sym (held_same (remarked t u)) ∙ ap (λ (x : Tree). have_frame (children x)) e ∙ held_same u ∙ o.alone;
    }

-- ---- what was written

pub kept_bytes : (pages : Pages) → (title input : List ℕ) → (left old new : Option (List ℕ)) → (w : WroteSelser pages title input left old new)
    → IsUtf8 w.page → length w.page ≤ PAGE_BYTES → IsRewritten w.page (page_tree pages w.page) (remarked_of pages w.page w.edited) w.changed
    → KeepsUnedited w.page (page_tree pages w.page) (remarked_of pages w.page w.edited) w.changed
kept_bytes pages title input left old new w text within made way p v at numbered same =
    let t : Tree = page_tree pages w.page in
    let u : Tree = remarked_of pages w.page w.edited in
    untouched_stay w.page w.changed t u p made
    (unedited_untouched t u (whole_page pages w.page text within w.expanded)
    (one_body t w.edited (read_is_one_body input w.edited w.unsourced w.reads)) way p v at numbered same)

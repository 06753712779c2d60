-- The HTML of a page, given back, is a text edit of it that marks nothing.
use Rattle.std.proofs.Common.{arith, ◌≡◌, ◌≤◌, ℕ, Bool, false, None, Some, List, [], ◌++◌, length, refl, sym, ap, ap₂, ◌∙◌, subst}
use Rattle.std.specs.Prelude.{◌||◌, if◌then◌else◌}
use Rattle.std.specs.List.{AllByRecursion}
use Rattle.wt_span.specs.declared.limits.TheConstants.{PAGE_BYTES}
use Rattle.wt_tree.specs.declared.kind.Mark.{Mark}
use Rattle.wt_tree.specs.Opened.{opened}
use Rattle.wt_tree.specs.Tree.{Tree, tree, Trees, none, more, label}
use Rattle.wt_checks.specs.Checked.{checked}
use Rattle.wt_checks.specs.Groups.{is_marked, has_mark, have_mark}
use Rattle.wt_checks.specs.Kept.{children}
use Rattle.wt_checks.specs.Marks.{is_children}
use Rattle.wt_checks.specs.Places.{Place, placed, all_placed, places, Page, page_of, is_content, parent_below}
use Rattle.wt_checks.proofs.Lookups.{each_join}
use Rattle.wt_checks.proofs.Repeated.{or_false}
use Rattle.wt_checks.proofs.Sections.{no_difference}
use Rattle.wt_content.specs.declared.children.Holder.TheVariants as holder
use Rattle.wt_expand.specs.PageCalls.{expanded_page}
use Rattle.wt_expand.specs.Work.{Pages}
use Rattle.wt_schema.specs.Written.{unranged}
use Rattle.wt_page_round_trip.specs.PageTree.{page_tree}
use Rattle.wt_slices.specs.BodySlices.{slices, start, body_slices, list_at, child_slices, all_child_slices}
use Rattle.wt_slices.specs.Changes.{Pair, marked, insides}
use Rattle.wt_slices.specs.Steps.{steps}
use Rattle.wt_splice.specs.Splice.{Change, spliced}
use Rattle.wt_selser.specs.Edits.{most_bytes}
use Rattle.wt_selser.proofs.Outside.{nothing_changes}
use Rattle.wt_visible.specs.SameNodes.{same_node}
use Rattle.wt_commands.specs.Answers.{done, html_answer}
use Rattle.wt_commands.proofs.GivenBackLaws.{written}
use Rattle.wt_commands.proofs.SectionEdits.{plain_page}
use Rattle.wt_commands.proofs.UnchangedLaws.{IsReadAgain, read_again}
use Rattle.wt_commands.proofs.UnchangedShown.{unchanged_unmarked}
use Rattle.wt_commands.proofs.UnchangedTree.{unchanged_checked}
use Rattle.wt_typed_blocks.proofs.EditedSlices.{Same, no_pairs, no_insides}
use Rattle.wt_typed_blocks.proofs.SentGroups.{mark_none}
use Rattle.wt_inside_laws.specs.TextEdits.{IsRetyped}
use Rattle.wt_inside_laws.specs.ToldEdits.{IsOrdinaryOn, IsOrdinaryEdit}

-- ---- where nothing has a mark

mutual
  stays_in : (j : ℕ) (w : Bool) (u : Tree) → has_mark u ≡ false → AllByRecursion (λ p. is_children (label p.node).mark ≡ false) (placed j w u)
  stays_in j w (tree m us) h =
      let d = or_false (is_marked m.mark) (have_mark us) h in
      (ap is_children (mark_none m.mark d.0), all_stay_in (parent_below j m.id) (w || is_content m.mark) us d.1)

  all_stay_in : (j : ℕ) (w : Bool) (us : Trees) → have_mark us ≡ false → AllByRecursion (λ p. is_children (label p.node).mark ≡ false) (all_placed j w us)
  all_stay_in j w none h = tt
  all_stay_in j w (more u us) h =
      let d = or_false (has_mark u) (have_mark us) h in
      each_join (λ p. is_children (label p.node).mark ≡ false) (placed j w u) (all_placed j w us) (stays_in j w u d.0) (all_stay_in j w us d.1)

no_child : (same : Same) (page : Page) (u : Tree) → has_mark u ≡ false → child_slices same page u ≡ []
no_child same page (tree m us) h =
    let d = or_false (is_marked m.mark) (have_mark us) h in
    ap (λ (c : Mark). if is_children c then list_at same page (page m.id) us else insides same page (tree m us)) (mark_none m.mark d.0) ∙ no_insides same page (tree m us) h

no_children : (same : Same) (page : Page) (us : Trees) → have_mark us ≡ false → all_child_slices same page us ≡ []
no_children same page none h = refl
no_children same page (more u us) h =
    let d = or_false (has_mark u) (have_mark us) h in
    ap₂ (λ (xs ys : List Change). xs ++ ys) (no_child same page u d.0) (no_children same page us d.1)

no_slices : (same : Same) (t u : Tree) → has_mark u ≡ false → slices same t u ≡ []
no_slices same t (tree m us) h =
    let d = or_false (is_marked m.mark) (have_mark us) h in
    ap (λ (c : Mark). if is_children c then body_slices same (page_of t) start (steps holder.Body (opened (children t)) us) else all_child_slices same (page_of t) us)
    (mark_none m.mark d.0)
    ∙ no_children same (page_of t) us d.1

-- ---- the page

none_marked : (P : Pair → Type 0) (ps : List Pair) → ps ≡ [] → AllByRecursion P ps
none_marked P ps e = subst (λ (qs : List Pair). AllByRecursion P qs) (sym e) tt

pub given_back : (pages : Pages) (page bytes : List ℕ) → html_answer pages (Some page) ≡ done bytes
    → IsOrdinaryEdit pages page bytes (unranged (plain_page pages page)) None
unfolding most_bytes
given_back pages page bytes e =
    let r : IsReadAgain pages page bytes (page_tree pages page) (plain_page pages page) = read_again pages page bytes e in
    let w = written pages page bytes e in
    let t : Tree = page_tree pages page in
    let u : Tree = plain_page pages page in
    let new : Tree = unranged u in
    let bare : has_mark new ≡ false = unchanged_unmarked u r.held.written r.held.numbered in
    let none_is : marked t new ≡ [] = no_pairs (page_of t) 0 false new bare in
    record {
      utf8 = w.text;
      short = r.within;
      unrefused = r.unrefused;
      sent = r.reads;
      edit = record {
        checks =
            no_difference false t new r.held.bare ∙ ap (λ (o : Tree). checked false o new) r.held.opened ∙ unchanged_checked u r.held.written r.held.numbered;
        stays = stays_in 0 false new bare;
        blocks = none_marked (IsRetyped same_node (expanded_page pages page) page) (marked t new) none_is;
        room =
            subst (λ (bs : List ℕ). length bs ≤ PAGE_BYTES) (sym (ap (spliced page) (no_slices same_node t new bare) ∙ nothing_changes page)) r.within;
      };
      blocks = none_marked (IsOrdinaryOn pages page) (marked t new) none_is;
    }

-- The edit of a page's nodes that was made of what was sent is answered as that is.
use Rattle.std.proofs.Common.{◌≡◌, ◌≢◌, ℕ, Bool, true, false, List, [], ◌∷◌, ◌++◌, map, refl, sym, ap, ap₂, ◌∙◌, subst}
use Rattle.std.specs.Prelude.{◌==◌, ◌||◌, not, Option, Some, None, option_map, if◌then◌else◌}
use Rattle.std.specs.List.{AllByRecursion}
use Rattle.wt_span.specs.Origins.{Expanded}
use Rattle.wt_tree.specs.declared.kind.Kind.{Kind}
use Rattle.wt_tree.specs.declared.kind.Kind.TheVariants as kind
use Rattle.wt_tree.specs.declared.kind.Mark.{Mark}
use Rattle.wt_tree.specs.declared.kind.Mark.TheVariants as marks
use Rattle.wt_tree.specs.Kinds.{is_numbered}
use Rattle.wt_tree.specs.Opened.{opened, without_sections}
use Rattle.wt_tree.specs.Plain.{ended, plains_before}
use Rattle.wt_tree.specs.Tiling.{is_group, InPreorder, numbers_of_all}
use Rattle.wt_tree.specs.Tree.{Label, Tree, tree, Trees, label}
use Rattle.wt_checks.specs.declared.refusal.TreeRefusal.{TreeRefusal}
use Rattle.wt_checks.specs.BareSections.{HasBareSections}
use Rattle.wt_checks.specs.Checked.{checked}
use Rattle.wt_checks.specs.Groups.{is_marked}
use Rattle.wt_checks.specs.Kept.{Kept, HoldsTheSame, NodeAsItWas}
use Rattle.wt_checks.specs.Marks.{editing, allows, is_children}
use Rattle.wt_checks.specs.Places.{Place, all_placed, places, kind_at, is_body, is_content, Page, page_of, parent_below}
use Rattle.wt_checks.specs.PutBack.{have_frame}
use Rattle.wt_checks.proofs.EditedIsPage.{body_is, edited_root}
use Rattle.wt_checks.proofs.Found.{Itself, each_itself, found_root, body_no_group}
use Rattle.wt_checks.proofs.Lookups.{each_split, all_page_numbers}
use Rattle.wt_checks.proofs.PutBack.{at_some}
use Rattle.wt_checks.proofs.Sections.{AreAlike, are_alike, kept_found, no_difference}
use Rattle.wt_checks.proofs.WhatIsKept.{kept, increasing}
use Rattle.wt_content.specs.declared.children.Holder.TheVariants as holder
use Rattle.wt_slices.specs.BodySlices.{slices, start, body_slices, all_child_slices}
use Rattle.wt_slices.specs.Steps.{steps}
use Rattle.wt_slices.specs.Changes.{Pair, pair_with, is_edited, pair_at, marked, AllStay}
use Rattle.wt_splice.specs.Splice.{Change, spliced}
use Rattle.wt_selser.specs.declared.refusal.EditRefusal.{EditRefusal}
use Rattle.wt_selser.specs.declared.refusal.EditRefusal.TheVariants as refusal
use Rattle.wt_selser.specs.Edits.{refused_pairs, if_short, unless_refused, pairs_answer, edit_answer}
use Rattle.wt_selser.proofs.Sections.{answers_same, slices_same}
use Rattle.wt_visible.specs.Children.{listed}
use Rattle.wt_visible.specs.Restored.{held_by, all_restored}
use Rattle.wt_typed_blocks.specs.Edited.{Edited, Edits, page_node, page_nodes, AreEdited, AreOutside, page_body, sent_body}
use Rattle.wt_typed_blocks.proofs.EditedKept.{found, passes}
use Rattle.wt_typed_blocks.proofs.EditedSections.{one_body}
use Rattle.wt_typed_blocks.proofs.EditedShows.{page_shows}
use Rattle.wt_typed_blocks.proofs.EditedSlices.{Same, pairs_of, changes_of, marked_are}
use Rattle.wt_typed_blocks.proofs.EditedSlices as edited_slices
use Rattle.wt_called_edit_laws.specs.SentAsIs.{HaveNumberedGroups}
use Rattle.wt_called_edit_laws.proofs.Cells.SentAsIs.{page_numbered}
use Rattle.wt_inside_laws.specs.AsSent.{seen, edit_for, edits_among, edits_of, paths_of, node_at, IsPlainPage, IsReadFor, IsAlike, IsAsSent}
use Rattle.wt_inside_laws.proofs.MatchedEdits.{pages_are, all_edited, all_outside, all_edits_in, found_by_paths, nodes_found, all_hold_one, only_there}
use Rattle.wt_inside_laws.proofs.MatchedNodes.{AreHidden, AllMatch, IsGiven, all_given, each_of_flat, unmarked_by, seen_given, are_seen, entries_seen, are_hidden, held_same, group_open, all_match}
use Rattle.wt_inside_laws.proofs.MatchedPairs.{pairs_below, all_pairs_are, slices_are, as_pair, pairs_listed, same_old, IsMarkedBlock, refused_alike, all_marked}
use Rattle.wt_inside_laws.proofs.MatchedViews.{all_shown}

-- ---- the root

or_true : (a b : Bool) → b ≡ true → (a || b) ≡ true
or_true true b h = refl
or_true false b h = h

body_unmarked : (m : Mark) (o : Option Place) → allows (editing kind.Body) m o ≡ true → is_children m ≡ false → ⊥
body_unmarked m o e f = absurd (cc)

root_unmarked : (same : Same) (page : Page) (m : Label) (us : Trees) → is_body m.kind ≡ true
    → IsGiven same page (record { node = tree m us; parent = 0; in_content = false }) → m.mark ≡ marks.Nothing
root_unmarked same page m us b g =
    unmarked_by (is_marked m.mark) m.mark refl
    (λ e. body_unmarked m.mark (page m.id) (sym (ap (λ (k : Kind). allows (editing k) m.mark (page m.id)) (body_is m.kind b)) ∙ (g.mark e).allowed) g.stays)

-- what is known of the page and of what was sent for it
record AreMatched (same : Same) (l m : Label) (ts us : Trees) : Type 0 where
  unmarked : m.mark ≡ marks.Nothing
  group : is_group m.kind ≡ false
  hidden : AreHidden us
  matched : AllMatch same (page_of (tree l ts)) (opened ts) (seen us)
  stays : AllByRecursion (λ p. is_children (label p.node).mark ≡ false) (all_placed (parent_below 0 m.id) (is_content m.mark) us)
  blocks : AllByRecursion (IsMarkedBlock same (page_of (tree l ts))) (marked (tree l ts) (tree m us))
  pairs : marked (tree l ts) (tree m us) ≡ pairs_below (page_of (tree l ts)) (parent_below 0 m.id) (is_content m.mark) us

-- nodes are found by their numbers among sections, too
found_in_sections : (page other : Page) (ps : List Place) → AreAlike page other → AllByRecursion (Itself other) ps → AllByRecursion (Itself page) ps
found_in_sections page other [] a h = tt
found_in_sections page other (p ∷ ps) a h = ((λ k. kept_found page other p a k ∙ h.0 k), found_in_sections page other ps a h.1)

matched_all : (same : Same) (l m : Label) (ts us : Trees) → IsPlainPage (tree l ts) → checked false (tree l ts) (tree m us) ≡ None → AllStay (tree m us)
    → IsReadFor (tree l ts) (tree m us) → AllByRecursion (IsAlike same (page_of (tree l ts))) (marked (tree l ts) (tree m us)) → AreMatched same l m ts us
matched_all same l m ts us h c s r a =
    let t : Tree = tree l ts in
    let bare : Tree = tree l (opened ts) in
    let new : Tree = tree m us in
    let page : Page = page_of t in
    let body : l.kind ≡ kind.Body = body_is l.kind h.one.root in
    let numbers = all_page_numbers bare body h.in_order in
    let keeps : Kept false t new = kept false t new body h.numbered c in
    let given : AllByRecursion (IsGiven same page) (places new) =
    all_given same page (places new) keeps.groups keeps.nodes keeps.marks r.read r.no_more s (each_of_flat (IsAlike same page) (pair_at page) (places new) a) in
    let free : m.mark ≡ marks.Nothing = root_unmarked same page m us r.one.root given.0 in
    let zero_root : m.id ≡ 0 = edited_root false bare new h.one h.in_order r.one.root (sym (no_difference false t new h.sections) ∙ c) in
    let there : page m.id ≡ Some (record { node = t; parent = 0; in_content = false }) = ap page zero_root ∙ found_root t h.sections.root in
    let was : NodeAsItWas t new =
    at_some (λ q. is_group (kind_at q) ≡ false → NodeAsItWas q.node new) (page m.id) (record { node = t; parent = 0; in_content = false }) there
    (given.0.node (or_true (not (m.id == 0)) (is_body m.kind) r.one.root) refl) (body_no_group l.kind h.one.root) in
    let held : HoldsTheSame t new = held_same t new was.holds (ap is_marked free) in
    let below : AllByRecursion (IsGiven same page) (all_placed (parent_below 0 m.id) false us) =
    subst (λ (c : Mark). AllByRecursion (IsGiven same page) (all_placed (parent_below 0 m.id) (is_content c) us)) free given.1 in
    let itself : AllByRecursion (Itself page) (all_placed (parent_below 0 l.id) (is_content l.mark) (opened ts)) =
    found_in_sections page (page_of bare) (all_placed (parent_below 0 l.id) (is_content l.mark) (opened ts)) (are_alike t h.sections)
    (each_itself (places bare) (increasing bare body h.in_order)).1 in
    let own = each_split (λ n. n ≢ 0) (if is_numbered l.kind then l.id ∷ [] else []) (if is_group l.kind then [] else numbers_of_all (opened ts)) numbers.counted in
    record {
      unmarked = free;
      group = body_no_group m.kind r.one.root;
      hidden = are_hidden same page (parent_below 0 m.id) us below;
      matched =
          all_match same page (parent_below 0 l.id) (parent_below 0 m.id) (is_content l.mark) (opened ts) (seen us) itself h.one.alone
          (group_open (is_group l.kind) (numbers_of_all (opened ts)) (body_no_group l.kind h.one.root) own.1)
          (held.held ∙ entries_seen us) (are_seen us) (seen_given same page (parent_below 0 m.id) us below);
      stays = s.1;
      blocks = all_marked same t (places new) s a;
      pairs =
          ap (λ (c : Mark). (if is_edited c then pair_with (page m.id) new else [])
          ++ pairs_below page (parent_below 0 m.id) (is_content m.mark) us) free;
    }

-- ---- the page's nodes

olds_are : (same : Same) (page : Page) (ps : List Pair) → AllByRecursion (IsMarkedBlock same page) ps
    → map (λ d. Some (page_node d)) (map edit_for ps) ≡ map (λ p. Some p.old) ps
olds_are same page [] h = refl
olds_are same page (p ∷ ps) h = ap₂ (λ x xs. Some x ∷ xs) (same_old same page p h.0.alike) (olds_are same page ps h.1)

edits_are : (ps : List Pair) → map (λ d. Some d) (map edit_for ps) ≡ map (λ p. Some (edit_for p)) ps
edits_are [] = refl
edits_are (p ∷ ps) = ap (λ xs. Some (edit_for p) ∷ xs) (edits_are ps)

pub same_body : (l : Label) (ts us : Trees) → l.kind ≡ kind.Body → l.id ≡ 0 → us ≡ ts → tree l ts ≡ tree (record l { kind = kind.Body; id = 0 }) us
same_body l ts us k n e = λ i. tree (record l { kind = k i; id = n i }) (sym e i)

-- ---- the answer

short_answer : (same : Same) (items : Expanded) (bytes : List ℕ) (t new : Tree) (ps : List Pair) (cs : List Change) → checked false t new ≡ None
    → refused_pairs same items bytes (marked t new) ≡ refused_pairs same items bytes ps → slices same t new ≡ cs
    → edit_answer same items bytes t new ≡ pairs_answer same items bytes ps cs
unfolding edit_answer
short_answer same items bytes t new ps cs c p s =
    ap (λ (o : Option TreeRefusal). unless_refused (option_map refusal.Check o) (pairs_answer same items bytes (marked t new) (slices same t new))) c
    ∙ ap (λ (o : Option EditRefusal). unless_refused o (if_short (spliced bytes (slices same t new)))) p
    ∙ ap (λ (ds : List Change). unless_refused (refused_pairs same items bytes ps) (if_short (spliced bytes ds))) s

sent_answer : (same : Same) (items : Expanded) (bytes : List ℕ) (l b : Label) (es : Edits) → InPreorder (page_body l es) → have_frame (page_nodes es) ≡ false
    → AreOutside es → AreEdited es
    → edit_answer same items bytes (page_body l es) (sent_body l b es) ≡ pairs_answer same items bytes (pairs_of es) (changes_of same es)
sent_answer same items bytes l b es pre f g h =
    short_answer same items bytes (page_body l es) (sent_body l b es) (pairs_of es) (changes_of same es) (passes l b es pre f h g)
    (ap (refused_pairs same items bytes) (marked_are l b es h (found l es pre)))
    (edited_slices.slices_are same (page_of (page_body l es)) 0 (is_content l.mark) es h (found l es pre))

pub sent_slices : (same : Same) (t : Tree) (l b : Label) (es : Edits) → HasBareSections t → without_sections t ≡ page_body l es → InPreorder (page_body l es)
    → have_frame (page_nodes es) ≡ false → AreOutside es → AreEdited es → slices same t (sent_body l b es) ≡ changes_of same es
sent_slices same t l b es bare is pre f g h =
    let u : Tree = sent_body l b es in
    let own : slices same (page_body l es) u ≡ changes_of same es =
    edited_slices.slices_are same (page_of (page_body l es)) 0 (is_content l.mark) es h (found l es pre) in
    slices_same same t u bare (one_body l b es h f)
    (no_difference false t u bare ∙ ap (λ (o : Tree). checked false o u) is ∙ passes l b es pre f h g)
    ∙ ap (λ (o : Tree). slices same o u) is ∙ own

-- ---- all of it

as_sent : (same : Same) (l m : Label) (ts us : Trees) → IsPlainPage (tree l ts) → checked false (tree l ts) (tree m us) ≡ None → AreMatched same l m ts us
    → IsAsSent same (tree l ts) (tree m us) (edits_among (opened ts) (seen us))
as_sent same l m ts us h c a =
    let t : Tree = tree l ts in
    let bare : Tree = tree l (opened ts) in
    let new : Tree = tree m us in
    let page : Page = page_of t in
    let es : Edits = edits_among (opened ts) (seen us) in
    let body : l.kind ≡ kind.Body = body_is l.kind h.one.root in
    let old : page_nodes es ≡ opened ts = pages_are same page (opened ts) (seen us) a.matched in
    let numbered : HaveNumberedGroups (opened ts) = page_numbered bare body h.in_order h.one.alone in
    let stay : AreEdited es = all_edited same page (opened ts) (seen us) numbered a.matched in
    let is : bare ≡ page_body l es = same_body l (opened ts) (page_nodes es) body h.sections.root old in
    let groups : AreOutside es = all_outside same page (opened ts) (seen us) a.matched in
    let frames : have_frame (page_nodes es) ≡ false = ap have_frame old ∙ h.one.alone in
    let listed_as : map edit_for (marked t new) ≡ all_edits_in es =
    ap (map edit_for) a.pairs ∙ all_pairs_are same page (parent_below 0 m.id) (is_content m.mark) (opened ts) us a.hidden a.matched in
    record {
      old = old;
      stay = stay;
      outside = groups;
      at =
          ap (λ (vs : Trees). map (λ path. node_at path (tree l vs)) (paths_of es)) (sym old) ∙ nodes_found l es
          ∙ ap (map (λ (d : Edited). Some (page_node d))) (sym listed_as) ∙ olds_are same page (marked t new) a.blocks;
      each = found_by_paths es ∙ ap (map (λ (d : Edited). Some d)) (sym listed_as) ∙ edits_are (marked t new);
      only = λ paths x. only_there paths es (all_hold_one (opened ts) (seen us)) x;
      answer = λ items bytes b.
          short_answer same items bytes t new (pairs_of es) (changes_of same es) c
          (refused_alike same page items bytes (marked t new) a.blocks
          ∙ ap (λ (ds : List Edited). refused_pairs same items bytes (map as_pair ds)) listed_as ∙ ap (refused_pairs same items bytes) (sym (pairs_listed es)))
          (ap (λ (k : Mark). if is_children k then body_slices same page start (steps holder.Body (opened ts) us) else all_child_slices same page us) a.unmarked
          ∙ slices_are same page (parent_below 0 m.id) (is_content m.mark) (opened ts) us a.stays a.hidden a.matched)
          ∙ sym (sent_answer same items bytes l b es (subst InPreorder is h.in_order) frames groups stay)
          ∙ ap (λ (o : Tree). edit_answer same items bytes o (sent_body l b es)) (sym is)
          ∙ sym (answers_same same items bytes t (sent_body l b es) h.sections (one_body l b es stay frames));
      shows = λ b.
          ap (λ (v : Bool). listed (plains_before (held_by page v m.id us (all_restored page us)) ended)) a.group
          ∙ ap listed (all_shown same page (opened ts) us ended a.matched)
          ∙ sym (page_shows t l b es h.sections is (subst InPreorder is h.in_order) stay groups);
      changes = λ b.
          (ap (λ (k : Mark). if is_children k then body_slices same page start (steps holder.Body (opened ts) us) else all_child_slices same page us) a.unmarked
          ∙ slices_are same page (parent_below 0 m.id) (is_content m.mark) (opened ts) us a.stays a.hidden a.matched)
          ∙ sym (sent_slices same t l b es h.sections is (subst InPreorder is h.in_order) frames groups stay);
    }

pub edits_as_sent : (same : Same) (t new : Tree) → IsPlainPage t → checked false t new ≡ None → AllStay new → IsReadFor t new
    → AllByRecursion (IsAlike same (page_of t)) (marked t new) → IsAsSent same t new (edits_of (without_sections t) new)
edits_as_sent same (tree l ts) (tree m us) h c s r a = as_sent same l m ts us h c (matched_all same l m ts us h c s r a)

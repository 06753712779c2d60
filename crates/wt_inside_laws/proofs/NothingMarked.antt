-- A text edit that marks nothing is answered by the page as it is.
use Rattle.std.proofs.Common.{◌≡◌, ◌≤◌, ℕ, zero, false, Some, None, List, [], ◌∷◌, ◌++◌, length, map, refl, sym, ap, ap₂, ◌∙◌, subst}
use Rattle.std.specs.Prelude.{◌||◌, Ok}
use Rattle.std.specs.Str.{IsUtf8}
use Rattle.wt_span.specs.Origins.{Expanded}
use Rattle.wt_span.specs.declared.limits.TheConstants.{PAGE_BYTES}
use Rattle.wt_tree.specs.declared.kind.Kind.TheVariants as kind
use Rattle.wt_tree.specs.declared.kind.Mark.{Mark}
use Rattle.wt_tree.specs.Opened.{without_sections}
use Rattle.wt_tree.specs.Plain.{ended as nothing_more, plains_before}
use Rattle.wt_tree.specs.Tiling.{InPreorder}
use Rattle.wt_tree.specs.Tree.{Label, Tree, tree, Trees, label}
use Rattle.wt_utf8.proofs.PlaceLaws.{no_place}
use Rattle.wt_sections.specs.Sections.{with_sections}
use Rattle.wt_sections.proofs.Kept.{plains_stay}
use Rattle.wt_expand.specs.PageCalls.{expanded_page}
use Rattle.wt_expand.specs.Work.{Pages}
use Rattle.wt_checks.specs.BareSections.{HasBareSections}
use Rattle.wt_checks.specs.Checked.{checked}
use Rattle.wt_checks.specs.Groups.{is_marked, has_mark, have_mark}
use Rattle.wt_checks.specs.Kept.{children}
use Rattle.wt_checks.specs.PutBack.{have_frame}
use Rattle.wt_checks.proofs.Repeated.{or_false}
use Rattle.wt_checks.proofs.Sections.{no_difference}
use Rattle.wt_page_round_trip.specs.PageTree.{page_tree}
use Rattle.wt_page_round_trip.proofs.Pages.{page_opened}
use Rattle.wt_slices.specs.BodySlices.{slices}
use Rattle.wt_slices.specs.Changes.{marked}
use Rattle.wt_splice.specs.Splice.{spliced}
use Rattle.wt_selser.specs.Edits.{most_bytes, edit_answer}
use Rattle.wt_selser.proofs.Answering.{unmarked_stands}
use Rattle.wt_selser.proofs.Outside.{nothing_changes}
use Rattle.wt_visible.specs.Children.{listed, shown_children}
use Rattle.wt_visible.specs.Restored.{restored_from}
use Rattle.wt_visible.specs.SameNodes.{same_node}
use Rattle.wt_commands.specs.Answers.{done, IsText, refusal_of_page, expanded_by, unspelled_answer, new_by, new_expanded, edit_by, edit_from, edit_to}
use Rattle.wt_commands.proofs.PageLaws.{page_text}
use Rattle.wt_commands.proofs.SectionEdits.{page_bare}
use Rattle.wt_commands.proofs.UnchangedLaws.{none_differs}
use Rattle.wt_typed_blocks.specs.Edited.{Edited, stays, edited, round, Edits, no_edits, more_edits, page_nodes, sent_node, sent_nodes, IsEdited, AreEdited, AreOutside, page_body, sent_body}
use Rattle.wt_typed_blocks.proofs.EditedKept.{passes}
use Rattle.wt_typed_blocks.proofs.EditedShows.{page_shows}
use Rattle.wt_typed_blocks.proofs.SentGroups.{no_mark}
use Rattle.wt_called_edit_laws.specs.EditsAt.{sent_contents}
use Rattle.wt_called_edit_laws.specs.Groups.{called_tree}
use Rattle.wt_called_edit_laws.proofs.PageBody.{IsBodyOf, page_body as body_of_page}
use Rattle.wt_inside_laws.specs.AsSent.{past_first, paths_in, paths_of, edits_of, holds_edit, hold_edits, IsSentOn, node_at}
use Rattle.wt_inside_laws.proofs.MatchedAlike.{sent_slices, same_body}
use Rattle.wt_inside_laws.proofs.MatchedPairs.{nothing_changed}
use Rattle.wt_inside_laws.proofs.MatchedViews.{pages_show}

-- ---- no content is edited where no path leads to one

none_mapped : (f : List ℕ → List ℕ) (ps : List (List ℕ)) → map f ps ≡ [] → ps ≡ []
none_mapped f [] e = refl
none_mapped f (p ∷ ps) e = absurd (cc e)

none_joined : (ps qs : List (List ℕ)) → ps ++ qs ≡ [] → (ps ≡ []) × (qs ≡ [])
none_joined [] qs e = (refl, e)
none_joined (p ∷ ps) qs e = absurd (cc e)

mutual
  none_in : (e : Edited) → paths_in e ≡ [] → holds_edit e ≡ false
  none_in (stays t u) h = refl
  none_in (edited k l m ps) h = absurd (cc h)
  none_in (round l m es) h = none_held es h

  none_held : (es : Edits) → paths_of es ≡ [] → hold_edits es ≡ false
  none_held no_edits h = refl
  none_held (more_edits e es) h =
      let n = none_joined (map (λ p. zero ∷ p) (paths_in e)) (map past_first (paths_of es)) h in
      ap₂ (λ a b. a || b) (none_in e (none_mapped (λ p. zero ∷ p) (paths_in e) n.0)) (none_held es (none_mapped past_first (paths_of es) n.1))

-- ---- so nothing that is sent has a mark

mutual
  none_marked : (e : Edited) → IsEdited e → holds_edit e ≡ false → has_mark (sent_node e) ≡ false
  none_marked (stays t u) h n = no_mark t u h
  none_marked (edited k l m ps) h n = absurd (cc n)
  none_marked (round l m es) h n =
      ap (λ (c : Mark). is_marked c || have_mark (sent_nodes es)) h.0.unmarked ∙ nothing_marked es h.1 n

  nothing_marked : (es : Edits) → AreEdited es → hold_edits es ≡ false → have_mark (sent_nodes es) ≡ false
  nothing_marked no_edits h n = refl
  nothing_marked (more_edits e es) h n =
      let d = or_false (holds_edit e) (hold_edits es) n in
      ap₂ (λ a b. a || b) (none_marked e h.0 d.0) (nothing_marked es h.1 d.1)

-- ---- the answer

-- What is known of a page that nothing is edited of, and of its nodes as they are sent.
record StaysWhole (t : Tree) (l : Label) (es : Edits) : Type 0 where
  sections : HasBareSections t
  opened : without_sections t ≡ page_body l es
  numbered : InPreorder (page_body l es)
  unframed : have_frame (page_nodes es) ≡ false
  stay : AreEdited es
  outside : AreOutside es
  none : hold_edits es ≡ false

whole_answer : (items : Expanded) (page : List ℕ) (t : Tree) (l b : Label) (es : Edits) → StaysWhole t l es → length page ≤ PAGE_BYTES
    → edit_answer same_node items page t (sent_body l b es) ≡ Ok page
unfolding most_bytes
whole_answer items page t l b es h le =
    let u : Tree = sent_body l b es in
    unmarked_stands same_node items page t u (nothing_marked es h.stay h.none)
    (no_difference false t u h.sections ∙ ap (λ (o : Tree). checked false o u) h.opened ∙ passes l b es h.numbered h.unframed h.stay h.outside)
    le

whole_shown : (t : Tree) (l b : Label) (es : Edits) → StaysWhole t l es
    → shown_children (restored_from t (sent_body l b es)) ≡ listed (plains_before (page_nodes es) nothing_more)
whole_shown t l b es h =
    page_shows t l b es h.sections h.opened h.numbered h.stay h.outside ∙ ap listed (pages_show es nothing_more h.none)

whole_slices : (t : Tree) (l b : Label) (es : Edits) → StaysWhole t l es → slices same_node t (sent_body l b es) ≡ []
whole_slices t l b es h =
    sent_slices same_node t l b es h.sections h.opened h.numbered h.unframed h.outside h.stay ∙ nothing_changed same_node es h.none

-- ---- of a page

-- with its sections a body shows what it shows without
shown_gathered : (t : Tree) → shown_children (with_sections t) ≡ listed (plains_before (children t) nothing_more)
shown_gathered (tree l ts) = ap listed (plains_stay ts nothing_more)

-- its body, with these nodes in it
body_with : (t : Tree) (us : Trees) → (label t).kind ≡ kind.Body → (label t).id ≡ 0 → us ≡ children t
    → t ≡ tree (record (label t) { kind = kind.Body; id = 0 }) us
body_with (tree l ts) us k n e = same_body l ts us k n e

frames_of : (t : Tree) (us : Trees) → us ≡ children t → have_frame (children t) ≡ false → have_frame us ≡ false
frames_of t us e f = ap have_frame e ∙ f

page_whole : (pages : Pages) (page : List ℕ) (new : Tree) (es : Edits) → IsUtf8 page → refusal_of_page pages page ≡ None → IsSentOn pages page new es
    → hold_edits es ≡ false → StaysWhole (page_tree pages page) (label (called_tree pages page)) es
page_whole pages page new es utf8 r s n =
    let t : Tree = called_tree pages page in
    let b : IsBodyOf page t = body_of_page pages page utf8 r in
    let is : t ≡ page_body (label t) es = body_with t (page_nodes es) b.kind b.number s.old in
    record {
      sections = page_bare pages page utf8 r;
      opened = page_opened pages page utf8 r ∙ is;
      numbered = subst InPreorder is b.numbered;
      unframed = frames_of t (page_nodes es) s.old b.unframed;
      stay = s.stay;
      outside = s.outside;
      none = n;
    }

whole_done : (pages : Pages) (page : List ℕ) (u : Tree) → IsText page → refusal_of_page pages page ≡ None
    → edit_answer same_node (expanded_page pages page) page (page_tree pages page) u ≡ Ok page
    → shown_children (page_tree pages page) ≡ shown_children (restored_from (page_tree pages page) u) → edit_to pages page u ≡ done page
whole_done pages page u text r a s =
    let t : Tree = page_tree pages page in
    ap (expanded_by (edit_from pages page u)) r ∙ ap (edit_by pages t u) a ∙ text (new_expanded pages t u)
    ∙ ap (new_by (unspelled_answer pages t u page)) r ∙ none_differs (shown_children t) (shown_children (restored_from t u)) page s

no_node : (t : Tree) (ps : List (List ℕ)) → map (λ path. node_at path t) ps ≡ [] → ps ≡ []
no_node t [] e = refl
no_node t (p ∷ ps) e = absurd (cc e)

-- Where nothing is marked, the new page is the page.
pub record ChangesNothing (pages : Pages) (page : List ℕ) (new : Tree) : Type 0 where
  pub done : edit_to pages page new ≡ done page
  pub slices : slices same_node (page_tree pages page) new ≡ []
  pub none : hold_edits (edits_of (called_tree pages page) new) ≡ false

pub nothing_done : (pages : Pages) (page : List ℕ) (new : Tree) → IsUtf8 page → length page ≤ PAGE_BYTES → refusal_of_page pages page ≡ None
    → IsSentOn pages page new (edits_of (called_tree pages page) new) → marked (page_tree pages page) new ≡ [] → ChangesNothing pages page new
nothing_done pages page new utf8 le r s none =
    let t : Tree = page_tree pages page in
    let o : Tree = called_tree pages page in
    let es : Edits = edits_of o new in
    let b : Label = label new in
    let held : hold_edits es ≡ false = none_held es (no_node o (paths_of es) (s.at ∙ ap (map (λ p. Some p.old)) none)) in
    let h : StaysWhole t (label o) es = page_whole pages page new es utf8 r s held in
    record {
      done =
          s.alike b
          ∙ whole_done pages page (sent_contents o es b) (page_text page le (no_place page utf8)) r
          (whole_answer (expanded_page pages page) page t (label o) b es h le)
          (shown_gathered o ∙ ap (λ (us : Trees). listed (plains_before us nothing_more)) (sym s.old) ∙ sym (whole_shown t (label o) b es h));
      slices = s.changes b ∙ whole_slices t (label o) b es h;
      none = held;
    }

pub nothing_spliced : (pages : Pages) (page : List ℕ) (new : Tree) → ChangesNothing pages page new
    → edit_to pages page new ≡ done (spliced page (slices same_node (page_tree pages page) new))
nothing_spliced pages page new h =
    h.done ∙ ap done (sym (ap (spliced page) h.slices ∙ nothing_changes page))

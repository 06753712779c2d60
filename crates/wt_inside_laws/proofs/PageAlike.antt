-- The edit of a page is answered as that of its own nodes.
use Rattle.std.proofs.Common.{arith, ◌≡◌, ◌≤◌, ℕ, false, List, length, refl, sym, ap, ◌∙◌, subst}
use Rattle.std.specs.Prelude.{Some, None, Result, Ok, Err, map}
use Rattle.std.specs.List.{AllByRecursion}
use Rattle.std.specs.Str.{IsUtf8}
use Rattle.wt_span.specs.declared.limits.TheConstants.{PAGE_BYTES}
use Rattle.wt_tree.specs.Opened.{without_sections}
use Rattle.wt_tree.specs.Tiling.{InPreorder}
use Rattle.wt_tree.specs.Tree.{Tree}
use Rattle.wt_link_spelling.specs.Spelling.{children_of}
use Rattle.wt_checks.specs.Checked.{checked}
use Rattle.wt_checks.specs.Kept.{children}
use Rattle.wt_checks.specs.Places.{is_body, page_of}
use Rattle.wt_checks.specs.PutBack.{IsOneBody}
use Rattle.wt_expand.specs.PageCalls.{expanded_page}
use Rattle.wt_expand.specs.Work.{Pages}
use Rattle.wt_page_round_trip.specs.PageTree.{page_tree}
use Rattle.wt_page_round_trip.proofs.Pages.{page_opened}
use Rattle.wt_page_round_trip.proofs.PageTrees.{page_numbered}
use Rattle.wt_visible.specs.Children.{shown_children, differing}
use Rattle.wt_visible.specs.Restored.{restored_from}
use Rattle.wt_visible.specs.SameNodes.{same_node}
use Rattle.wt_visible.proofs.SameTells.{tells_same}
use Rattle.wt_slices.specs.BodySlices.{slices}
use Rattle.wt_slices.specs.Changes.{marked, AllStay}
use Rattle.wt_selser.specs.declared.refusal.EditRefusal.{EditRefusal}
use Rattle.wt_commands.specs.Answers.{Answer, refusal_of_page, title_answer, expanded_by, unspelled_by, new_by, edit_by, edit_to, answer_of_edit}
use Rattle.wt_commands.proofs.LeavesLaws.{page_leaves}
use Rattle.wt_commands.proofs.SectionEdits.{page_bare}
use Rattle.wt_typed_blocks.specs.Edited.{Edits}
use Rattle.wt_called_edit_laws.specs.EditsAt.{sent_contents}
use Rattle.wt_called_edit_laws.specs.Groups.{called_tree}
use Rattle.wt_called_edit_laws.proofs.PageBody.{page_body}
use Rattle.wt_inside_laws.specs.AsSent.{edits_of, paths_of, node_at, IsPlainPage, IsReadFor, IsAlike, IsAsSent, IsSentOn}
use Rattle.wt_inside_laws.specs.RetypedPieces.{AreRead}
use Rattle.wt_inside_laws.specs.TextEdits.{IsTextEdit}
use Rattle.wt_inside_laws.proofs.MarkedBlocks.{all_alike}
use Rattle.wt_inside_laws.proofs.MatchedAlike.{edits_as_sent}

-- ---- the page's tree

pub page_plain : (pages : Pages) (page : List ℕ) → IsUtf8 page → length page ≤ PAGE_BYTES → refusal_of_page pages page ≡ None
    → IsPlainPage (page_tree pages page)
page_plain pages page u le r =
    let b = page_body pages page u r in
    let one : IsOneBody (called_tree pages page) = record { root = ap is_body b.kind; alone = b.unframed } in
    let e : called_tree pages page ≡ without_sections (page_tree pages page) = sym (page_opened pages page u r) in
    record {
      sections = page_bare pages page u r;
      numbered = page_numbered pages page;
      one = subst IsOneBody e one;
      in_order = subst InPreorder e b.numbered;
      leaves = page_leaves pages page u (omega (arith, le)) r;
    }

-- ---- the answer

shown_alike : (pages : Pages) (t u v : Tree) (r : Result (List ℕ) EditRefusal) → shown_children (restored_from t u) ≡ shown_children (restored_from t v)
    → edit_by pages t u r ≡ edit_by pages t v r
shown_alike pages t u v (Ok new) e =
    ap (λ xs. title_answer (Some new) (λ bytes. new_by (unspelled_by bytes (differing 1 (shown_children (page_tree pages bytes)) xs)) (refusal_of_page pages bytes))) e
shown_alike pages t u v (Err x) e = refl

answered_alike : (pages : Pages) (page : List ℕ) (u v : Tree) → answer_of_edit pages page u ≡ answer_of_edit pages page v
    → shown_children (restored_from (page_tree pages page) u) ≡ shown_children (restored_from (page_tree pages page) v)
    → edit_to pages page u ≡ edit_to pages page v
answered_alike pages page u v a s =
    ap (λ (x : Answer). expanded_by x (refusal_of_page pages page))
    (ap (edit_by pages (page_tree pages page) u) a ∙ shown_alike pages (page_tree pages page) u v (answer_of_edit pages page v) s)

sent_on : (pages : Pages) (page : List ℕ) (new : Tree) (es : Edits) → without_sections (page_tree pages page) ≡ called_tree pages page
    → IsAsSent same_node (page_tree pages page) new es → IsSentOn pages page new es
sent_on pages page new es is h =
    record {
      old = h.old ∙ ap children is;
      stay = h.stay;
      outside = h.outside;
      at = ap (λ (t : Tree). map (λ path. node_at path t) (paths_of es)) (sym is) ∙ h.at;
      each = h.each;
      only = h.only;
      alike = λ b.
          answered_alike pages page new (sent_contents (without_sections (page_tree pages page)) es b) (h.answer (expanded_page pages page) page b) (h.shows b)
          ∙ ap (λ (t : Tree). edit_to pages page (sent_contents t es b)) is;
      changes = λ b. h.changes b ∙ ap (λ (t : Tree). slices same_node (page_tree pages page) (sent_contents t es b)) is;
    }

pub page_sent : (pages : Pages) (page : List ℕ) (new : Tree) → IsUtf8 page → length page ≤ PAGE_BYTES → refusal_of_page pages page ≡ None
    → checked false (page_tree pages page) new ≡ None → AllStay new → IsReadFor (page_tree pages page) new
    → AllByRecursion (IsAlike same_node (page_of (page_tree pages page))) (marked (page_tree pages page) new)
    → IsSentOn pages page new (edits_of (called_tree pages page) new)
page_sent pages page new u le r c s d a =
    let e : without_sections (page_tree pages page) ≡ called_tree pages page = page_opened pages page u r in
    subst (λ (t : Tree). IsSentOn pages page new (edits_of t new)) e
    (sent_on pages page new (edits_of (without_sections (page_tree pages page)) new) e
    (edits_as_sent same_node (page_tree pages page) new (page_plain pages page u le r) c s d a))

pub text_edit_sent : (pages : Pages) (page : List ℕ) (new : Tree) → IsUtf8 page → length page ≤ PAGE_BYTES → refusal_of_page pages page ≡ None
    → IsTextEdit same_node (expanded_page pages page) page (page_tree pages page) new
    → IsReadFor (page_tree pages page) new → AllByRecursion (λ p. AreRead (children_of p.new)) (marked (page_tree pages page) new)
    → IsSentOn pages page new (edits_of (called_tree pages page) new)
text_edit_sent pages page new u le r e d a =
    page_sent pages page new u le r e.checks e.stays d
    (all_alike same_node (expanded_page pages page) page (page_tree pages page) new tells_same (page_plain pages page u le r) e.blocks a)

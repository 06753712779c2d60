-- The same of a page in sections.
use Rattle.std.proofs.Common.{◌≡◌, ℕ, ◌≤◌, Bool, false, List, length, refl, ap, ◌∙◌}
use Rattle.std.specs.Prelude.{Ok, ◌||◌}
use Rattle.wt_span.specs.Origins.{Expanded}
use Rattle.wt_tree.specs.Opened.{without_sections}
use Rattle.wt_tree.specs.Source.{flat_of_all}
use Rattle.wt_tree.specs.Tiling.{InPreorder}
use Rattle.wt_tree.specs.declared.kind.Kind.{Kind}
use Rattle.wt_tree.specs.Tree.{Label, Tree}
use Rattle.wt_checks.specs.BareSections.{HasBareSections}
use Rattle.wt_checks.specs.PutBack.{is_frame, has_frame, have_frame, IsOneBody}
use Rattle.wt_checks.proofs.Repeated.{or_false}
use Rattle.wt_selser.specs.Edits.{most_bytes, edit_answer}
use Rattle.wt_selser.proofs.Sections.{answers_same}
use Rattle.wt_typed_blocks.specs.Sent.{paragraph, heading}
use Rattle.wt_typed_blocks.specs.Edited.{Edited, stays, edited, round, Edits, no_edits, more_edits, page_node, sent_node, page_nodes, sent_nodes, IsEdited, AreEdited, page_body, sent_body, AreOutside}
use Rattle.wt_typed_blocks.specs.EditedPage.{edited_sources, AreTaken, LieAt, AreApart}
use Rattle.wt_typed_blocks.proofs.EditedSlices.{Same}
use Rattle.wt_typed_blocks.proofs.EditedAnswer.{answer_is}
use Rattle.wt_typed_blocks.proofs.SentFrames.{no_frame_sent, pieces_frameless}

mutual
  child_frameless : (s : Edited) → IsEdited s → has_frame (page_node s) ≡ false → has_frame (sent_node s) ≡ false
  child_frameless (stays t u) h f = no_frame_sent t u h f
  child_frameless (edited paragraph l m ps) h f = pieces_frameless ps h.1 f
  child_frameless (edited (heading n) l m ps) h f = pieces_frameless ps h.1 f
  child_frameless (round l m ss) h f =
      let d = or_false (is_frame l.kind) (have_frame (page_nodes ss)) f in
      ap (λ (k : Kind). is_frame k || have_frame (sent_nodes ss)) h.0.kind ∙ ap (λ (b : Bool). b || have_frame (sent_nodes ss)) d.0 ∙ frameless ss h.1 d.1

  frameless : (ss : Edits) → AreEdited ss → have_frame (page_nodes ss) ≡ false → have_frame (sent_nodes ss) ≡ false
  frameless no_edits h f = refl
  frameless (more_edits s ss) h f =
      let d = or_false (has_frame (page_node s)) (have_frame (page_nodes ss)) f in
      ap (λ (b : Bool). b || have_frame (sent_nodes ss)) (child_frameless s h.0 d.0) ∙ frameless ss h.1 d.1

pub one_body : (l b : Label) (ss : Edits) → AreEdited ss → have_frame (page_nodes ss) ≡ false → IsOneBody (sent_body l b ss)
one_body l b ss h f = record { root = refl; alone = frameless ss h f }

pub answer_in_sections : (same : Same) (items : Expanded) (page : List ℕ) (t : Tree) (l b : Label) (ss : Edits) → HasBareSections t
    → without_sections t ≡ page_body l ss → InPreorder (page_body l ss)
    → have_frame (page_nodes ss) ≡ false → AreEdited ss → AreOutside ss → AreTaken same ss → AreApart items page ss → page ≡ flat_of_all (page_nodes ss) → LieAt 0 ss
    → length (edited_sources same ss) ≤ most_bytes → edit_answer same items page t (sent_body l b ss) ≡ Ok (edited_sources same ss)
answer_in_sections same items page t l b ss bare w pre f h g x a is at le =
    answers_same same items page t (sent_body l b ss) bare (one_body l b ss h f)
    ∙ ap (λ (o : Tree). edit_answer same items page o (sent_body l b ss)) w
    ∙ answer_is same items page l b ss pre f h g x a is at le

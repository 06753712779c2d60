-- An edit that types texts passes the checks and is done, of a page in sections, too.
use Rattle.std.proofs.Common.{◌≡◌, ℕ, ◌≤◌, Bool, false, List, length, sym, ap, ◌∙◌, subst}
use Rattle.std.specs.Prelude.{None, Ok}
use Rattle.wt_span.specs.Origins.{Expanded}
use Rattle.wt_tree.specs.Opened.{without_sections}
use Rattle.wt_tree.specs.Source.{flat_of_all}
use Rattle.wt_tree.specs.Tiling.{InPreorder}
use Rattle.wt_tree.specs.Tree.{Label, Tree}
use Rattle.wt_checks.specs.BareSections.{HasBareSections}
use Rattle.wt_checks.specs.Checked.{checked}
use Rattle.wt_checks.specs.PutBack.{have_frame}
use Rattle.wt_selser.specs.Edits.{most_bytes, edit_answer}
use Rattle.wt_typed_blocks.specs.Sent.{Sents, old_children, AreSent, old_body, new_body, AreOutsideGroups}
use Rattle.wt_typed_blocks.specs.Typed.{new_sources, TakeTexts, StandAt, AreUntangled}
use Rattle.wt_typed_blocks.specs.Edited.{page_nodes, page_body}
use Rattle.wt_typed_blocks.specs.EditedPage.{edited_sources}
use Rattle.wt_typed_blocks.proofs.AsEdits.{as_edits, pages_are, page_body_is, sent_body_is, are_edited, all_outside, sources_are, are_taken, all_lie, all_apart}
use Rattle.wt_typed_blocks.proofs.EditedAnswer as content
use Rattle.wt_typed_blocks.proofs.EditedKept as kept
use Rattle.wt_typed_blocks.proofs.EditedSections as sections

frameless : (ss : Sents) → have_frame (old_children ss) ≡ false → have_frame (page_nodes (as_edits ss)) ≡ false
frameless ss f = ap have_frame (pages_are ss) ∙ f

in_preorder : (l : Label) (ss : Sents) → InPreorder (old_body l ss) → InPreorder (page_body l (as_edits ss))
in_preorder l ss pre = subst InPreorder (sym (page_body_is l ss)) pre

pub passes : (l b : Label) (ss : Sents) → InPreorder (old_body l ss) → have_frame (old_children ss) ≡ false → AreSent ss → AreOutsideGroups ss
    → checked false (old_body l ss) (new_body l b ss) ≡ None
passes l b ss pre f h o =
    ap (λ t. checked false t (new_body l b ss)) (sym (page_body_is l ss))
    ∙ ap (checked false (page_body l (as_edits ss))) (sym (sent_body_is l b ss))
    ∙ kept.passes l b (as_edits ss) (in_preorder l ss pre) (frameless ss f) (are_edited ss h) (all_outside ss o)

short : (same : Tree → Tree → Bool) (ss : Sents) → length (new_sources ss) ≤ most_bytes → length (edited_sources same (as_edits ss)) ≤ most_bytes
short same ss le = subst (λ (bs : List ℕ). length bs ≤ most_bytes) (sym (sources_are same ss)) le

whole : (page : List ℕ) (ss : Sents) → page ≡ flat_of_all (old_children ss) → page ≡ flat_of_all (page_nodes (as_edits ss))
whole page ss is = is ∙ ap flat_of_all (sym (pages_are ss))

pub answer_is : (same : Tree → Tree → Bool) (items : Expanded) (page : List ℕ) (l b : Label) (ss : Sents) → InPreorder (old_body l ss)
    → have_frame (old_children ss) ≡ false → AreSent ss → AreOutsideGroups ss → TakeTexts ss → AreUntangled items page ss → page ≡ flat_of_all (old_children ss) → StandAt 0 ss
    → length (new_sources ss) ≤ most_bytes → edit_answer same items page (old_body l ss) (new_body l b ss) ≡ Ok (new_sources ss)
answer_is same items page l b ss pre f h o t a is at le =
    ap (λ u. edit_answer same items page u (new_body l b ss)) (sym (page_body_is l ss))
    ∙ ap (edit_answer same items page (page_body l (as_edits ss))) (sym (sent_body_is l b ss))
    ∙ content.answer_is same items page l b (as_edits ss) (in_preorder l ss pre) (frameless ss f) (are_edited ss h) (all_outside ss o) (are_taken same ss t)
    (all_apart items page ss a) (whole page ss is) (all_lie 0 ss at) (short same ss le)
    ∙ ap (λ (bs : List ℕ). Ok bs) (sources_are same ss)

pub answer_in_sections : (same : Tree → Tree → Bool) (items : Expanded) (page : List ℕ) (t : Tree) (l b : Label) (ss : Sents) → HasBareSections t
    → without_sections t ≡ old_body l ss → InPreorder (old_body l ss)
    → have_frame (old_children ss) ≡ false → AreSent ss → AreOutsideGroups ss → TakeTexts ss → AreUntangled items page ss → page ≡ flat_of_all (old_children ss) → StandAt 0 ss
    → length (new_sources ss) ≤ most_bytes → edit_answer same items page t (new_body l b ss) ≡ Ok (new_sources ss)
answer_in_sections same items page t l b ss bare w pre f h o x a is at le =
    ap (edit_answer same items page t) (sym (sent_body_is l b ss))
    ∙ sections.answer_in_sections same items page t l b (as_edits ss) bare (w ∙ sym (page_body_is l ss)) (in_preorder l ss pre) (frameless ss f)
    (are_edited ss h) (all_outside ss o) (are_taken same ss x) (all_apart items page ss a) (whole page ss is) (all_lie 0 ss at) (short same ss le)
    ∙ ap (λ (bs : List ℕ). Ok bs) (sources_are same ss)

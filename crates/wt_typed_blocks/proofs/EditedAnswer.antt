-- The answer to such an edit: it is never refused, unless the new page is longer than a page may be.
use Rattle.std.proofs.Common.{arith, ◌≡◌, ℕ, ◌≤◌, Bool, false, List, length, ap, ◌∙◌}
use Rattle.std.specs.Prelude.{Option, Ok, Err, option_map, nat_lt, if◌then◌else◌}
use Rattle.std.proofs.lemmas.Bool.Decides.{nat_tests}
use Rattle.wt_span.specs.Origins.{Expanded}
use Rattle.wt_tree.specs.Source.{flat_of_all}
use Rattle.wt_tree.specs.Tiling.{InPreorder}
use Rattle.wt_tree.specs.Tree.{Label, Tree}
use Rattle.wt_checks.specs.declared.refusal.TreeRefusal.{TreeRefusal}
use Rattle.wt_checks.specs.Places.{is_content, page_of}
use Rattle.wt_checks.specs.PutBack.{have_frame}
use Rattle.wt_slices.specs.BodySlices.{slices}
use Rattle.wt_slices.specs.Changes.{Pair, marked}
use Rattle.wt_selser.specs.declared.refusal.EditRefusal.{EditRefusal}
use Rattle.wt_selser.specs.declared.refusal.EditRefusal.TheVariants as refusal
use Rattle.wt_selser.specs.Edits.{most_bytes, if_short, unless_refused, pairs_answer, edit_answer}
use Rattle.wt_splice.specs.Splice.{spliced}
use Rattle.wt_typed_blocks.specs.Edited.{Edits, page_nodes, AreEdited, page_body, sent_body, AreOutside}
use Rattle.wt_typed_blocks.specs.EditedPage.{edited_sources, AreTaken, LieAt, AreApart}
use Rattle.wt_typed_blocks.proofs.EditedKept.{found, passes}
use Rattle.wt_typed_blocks.proofs.EditedSlices.{Same, pairs_of, changes_of, marked_are, slices_are, none_refused}
use Rattle.wt_typed_blocks.proofs.EditedSpliced.{spliced_is}

slices_of_body : (same : Same) (l b : Label) (ss : Edits) → InPreorder (page_body l ss) → have_frame (page_nodes ss) ≡ false → AreEdited ss
    → slices same (page_body l ss) (sent_body l b ss) ≡ changes_of same ss
slices_of_body same l b ss pre f h = slices_are same (page_of (page_body l ss)) 0 (is_content l.mark) ss h (found l ss pre)

not_longer : (n m : ℕ) → n ≤ m → nat_lt m n ≡ false
not_longer n m h = grind (arith, nat_tests)

short : (new : List ℕ) → length new ≤ most_bytes → if_short new ≡ Ok new
short new h = ap (λ (t : Bool). if t then Err refusal.NewPageTooLong else Ok new) (not_longer (length new) most_bytes h)

pub answer_is : (same : Same) (items : Expanded) (page : List ℕ) (l b : Label) (ss : Edits) → InPreorder (page_body l ss)
    → have_frame (page_nodes ss) ≡ false → AreEdited ss → AreOutside ss → AreTaken same ss → AreApart items page ss → page ≡ flat_of_all (page_nodes ss) → LieAt 0 ss
    → length (edited_sources same ss) ≤ most_bytes → edit_answer same items page (page_body l ss) (sent_body l b ss) ≡ Ok (edited_sources same ss)
unfolding edit_answer
answer_is same items page l b ss pre f h o t a is at le =
    let old : Tree = page_body l ss in
    let new : Tree = sent_body l b ss in
    ap (λ (c : Option TreeRefusal). unless_refused (option_map refusal.Check c) (pairs_answer same items page (marked old new) (slices same old new)))
    (passes l b ss pre f h o)
    ∙ ap (λ (ps : List Pair). pairs_answer same items page ps (slices same old new)) (marked_are l b ss h (found l ss pre))
    ∙ ap (pairs_answer same items page (pairs_of ss)) (slices_of_body same l b ss pre f h)
    ∙ ap (λ (r : Option EditRefusal). unless_refused r (if_short (spliced page (changes_of same ss)))) (none_refused same items page ss t a)
    ∙ ap if_short (spliced_is same page ss is at) ∙ short (edited_sources same ss) le

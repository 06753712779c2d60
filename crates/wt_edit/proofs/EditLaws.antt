-- From the splice and the new page's tree to the answer of the edit.
use Rattle.std.proofs.Common.{◌≡◌, ◌≤◌, ℕ, List, Bool, true, false, cond, length, IsUtf8, refl, sym, ap, ◌∙◌, subst, arith, inr}
use Rattle.std.specs.Prelude.{◌⊎◌, nat_lt, Option, Some, None, option_map, IsErrAnd, Result, Ok, Err}
use Rattle.std.proofs.lemmas.Bool.Decides.{nat_tests}
use Rattle.wt_span.specs.declared.limits.TheConstants.{PAGE_BYTES}
use Rattle.wt_span.specs.Origins.{Expanded}
use Rattle.wt_tree.specs.Tree.{Tree}
use Rattle.wt_expand.specs.Work.{Pages, Refused}
use Rattle.wt_transclusion.specs.declared.refusal.ExpandRefusal.{ExpandRefusal}
use Rattle.wt_transclusion.specs.declared.refusal.ExpandRefusal.TheVariants as of_expansion
use Rattle.wt_transclusion.specs.Answers.{IsRefused, IsCountedErr as IsCountedExpansion}
use Rattle.wt_checks.specs.declared.refusal.TreeRefusal.{TreeRefusal}
use Rattle.wt_checks.specs.Checked.{checked}
use Rattle.wt_page_round_trip.specs.PageTree.{page_tree}
use Rattle.wt_visible.specs.Children.{IsFirstDiffering, shown_children, differing}
use Rattle.wt_visible.specs.Restored.{restored_from}
use Rattle.wt_visible.specs.SameNodes.{same_node}
use Rattle.wt_visible.proofs.DifferingLaws.{differing_is}
use Rattle.wt_selser.specs.declared.refusal.EditRefusal.{EditRefusal as SpliceRefusal}
use Rattle.wt_selser.specs.declared.refusal.EditRefusal.TheVariants as of_splice
use Rattle.wt_slices.specs.BodySlices.{slices}
use Rattle.wt_slices.specs.Changes.{marked}
use Rattle.wt_selser.specs.Edits.{AnswersEdit, edit_answer, if_short, most_bytes, refused_pairs, unless_refused}
use Rattle.wt_splice.specs.Splice.{spliced}
use Rattle.wt_edit.specs.declared.refusal.EditRefusal.{EditRefusal}
use Rattle.wt_edit.specs.declared.refusal.EditRefusal.TheVariants as refusal
use Rattle.wt_edit.specs.Asked.{RanOutFirst}
use Rattle.wt_edit.specs.Edits.{Answers, IsCounted, IsCountedErr, IsPage, Refuses, answer_by, expanded_by, new_answer, refusal_of_new, refusal_of_page, refusal_of_splice, shown_answer, shown_by}

-- ---- the new page

-- a refusal of the new page's expansion
new_refusal_is : (answer : Result (List ℕ) EditRefusal) (o : Option Refused) (e : ExpandRefusal) → IsRefused o e
    → Refuses (refusal_of_new e) (expanded_by answer o)
new_refusal_is answer o (of_expansion.BracesTooDeep title place) is = ap (expanded_by answer) is
new_refusal_is answer o of_expansion.TooLarge is = ap (expanded_by answer) is
new_refusal_is answer o of_expansion.FolderFault is = tt
new_refusal_is answer o (of_expansion.TemplateNotUtf8 title place) is = ap (expanded_by answer) is
new_refusal_is answer o (of_expansion.TemplateTooLong title) is = ap (expanded_by answer) is
new_refusal_is answer o of_expansion.NoMemory is = tt

pub new_refused : (pages : Pages) (t edited : Tree) (new : List ℕ) (e : ExpandRefusal) (r : EditRefusal) → r ≡ refusal_of_new e
    → IsRefused (refusal_of_page pages new) e → Refuses r (new_answer pages t edited new)
new_refused pages t edited new e r is h =
    subst (λ x. Refuses x (new_answer pages t edited new)) (sym is)
    (new_refusal_is (shown_answer pages t edited new) (refusal_of_page pages new) e h)

-- what the comparison of the new page's tree with the edited tree answers
pub meant : (pages : Pages) (t edited u : Tree) (new : List ℕ) (o : Option ℕ) → refusal_of_page pages new ≡ None → u ≡ page_tree pages new
    → IsFirstDiffering (shown_children u) (shown_children (restored_from t edited)) o → new_answer pages t edited new ≡ shown_by new o
meant pages t edited u new o unrefused is found =
    let shown = shown_children (restored_from t edited) in
    let told : o ≡ differing 1 (shown_children u) shown = differing_is (shown_children u) shown o found in
    ap (expanded_by (shown_answer pages t edited new)) unrefused
    ∙ ap (shown_by new) (sym (subst (λ x. o ≡ differing 1 (shown_children x) shown) is told))

new_counted : (before after : ℕ) (e : ExpandRefusal) → IsCountedExpansion before after e → IsCountedErr before after (refusal_of_new e)
new_counted before after (of_expansion.BracesTooDeep title place) h = h
new_counted before after of_expansion.TooLarge h = h
new_counted before after of_expansion.FolderFault h = h
new_counted before after (of_expansion.TemplateNotUtf8 title place) h = h
new_counted before after (of_expansion.TemplateTooLong title) h = h
new_counted before after of_expansion.NoMemory h = h

pub refused_counted : (before after : ℕ) (e : ExpandRefusal) (r : EditRefusal) → r ≡ refusal_of_new e → IsCountedExpansion before after e
    → IsCountedErr before after r
refused_counted before after e r is h = subst (IsCountedErr before after) (sym is) (new_counted before after e h)

-- ---- the splice

-- what the splice answers for equal items and trees
pub spliced_as : (items known : Expanded) (page : List ℕ) (t u edited : Tree) (r : Result (List ℕ) SpliceRefusal) → known ≡ items → u ≡ t
    → AnswersEdit (edit_answer same_node known page u edited) r → AnswersEdit (edit_answer same_node items page t edited) r
spliced_as items known page t u edited r same is h =
    subst (λ (x : Tree). AnswersEdit (edit_answer same_node items page x edited) r) is
    (subst (λ (x : Expanded). AnswersEdit (edit_answer same_node x page u edited) r) same h)

-- a refusal of the splice is the answer
splice_refused : (pages : Pages) (t edited : Tree) (answer : Result (List ℕ) SpliceRefusal) (e : SpliceRefusal) → AnswersEdit answer (Err e)
    → Refuses (refusal_of_splice e) (answer_by pages t edited answer)
splice_refused pages t edited answer (of_splice.Check c) is = ap (answer_by pages t edited) is
splice_refused pages t edited answer (of_splice.BadContent n why) is = ap (answer_by pages t edited) is
splice_refused pages t edited answer (of_splice.Tangled n) is = ap (answer_by pages t edited) is
splice_refused pages t edited answer of_splice.NewPageTooLong is = ap (answer_by pages t edited) is
splice_refused pages t edited answer of_splice.NoMemory is = tt

pub unspliced : (pages : Pages) (t edited : Tree) (answer : Result (List ℕ) SpliceRefusal) (e : SpliceRefusal) (result : Result (List ℕ) EditRefusal)
    → AnswersEdit answer (Err e) → IsErrAnd result (λ r. r ≡ refusal_of_splice e) → Answers (answer_by pages t edited answer) result
unspliced pages t edited answer e (Ok new) answers is = absurd is
unspliced pages t edited answer e (Err r) answers is =
    subst (λ x. Refuses x (answer_by pages t edited answer)) (sym is) (splice_refused pages t edited answer e answers)

counted_splice : (n : ℕ) (e : SpliceRefusal) → IsCountedErr n n (refusal_of_splice e)
counted_splice n (of_splice.Check c) = refl
counted_splice n (of_splice.BadContent k why) = refl
counted_splice n (of_splice.Tangled k) = refl
counted_splice n of_splice.NewPageTooLong = refl
counted_splice n of_splice.NoMemory = refl

pub unspliced_counted : (n : ℕ) (e : SpliceRefusal) (result : Result (List ℕ) EditRefusal) → IsErrAnd result (λ r. r ≡ refusal_of_splice e)
    → IsCounted n n result
unspliced_counted n e (Ok new) is = absurd is
unspliced_counted n e (Err r) is = subst (IsCountedErr n n) (sym is) (counted_splice n e)

-- no page is left by a refusal of the splice, but where memory ran out
pub unspliced_page : (answer : Result (List ℕ) SpliceRefusal) (e : SpliceRefusal) (result : Result (List ℕ) EditRefusal) (new : List ℕ)
    (before : Option (List (List ℕ))) → AnswersEdit answer (Err e) → result ≡ Err (refusal_of_splice e) → answer ≡ Ok new
    → IsPage new ⊎ RanOutFirst before before result
unspliced_page answer (of_splice.Check c) result new before answers is made = let e = sym made ∙ answers in cc
unspliced_page answer (of_splice.BadContent n why) result new before answers is made = let e = sym made ∙ answers in cc
unspliced_page answer (of_splice.Tangled n) result new before answers is made = let e = sym made ∙ answers in cc
unspliced_page answer of_splice.NewPageTooLong result new before answers is made = let e = sym made ∙ answers in cc
unspliced_page answer of_splice.NoMemory result new before answers is made = inr (is, refl)

pub made_refused : (pages : Pages) (t edited : Tree) (answer : Result (List ℕ) SpliceRefusal) (new text : List ℕ) (e : EditRefusal)
    (result : Result (List ℕ) EditRefusal) → answer ≡ Ok new → text ≡ new → Refuses e (new_answer pages t edited text)
    → IsErrAnd result (λ x. x ≡ e) → Answers (answer_by pages t edited answer) result
made_refused pages t edited answer new text e (Ok bytes) is same refuses err = absurd err
made_refused pages t edited answer new text e (Err x) is same refuses err =
    subst (λ y. Refuses y (answer_by pages t edited answer)) (sym err)
    (subst (Refuses e) (ap (new_answer pages t edited) same ∙ sym (ap (answer_by pages t edited) is)) refuses)

pub made_is : (pages : Pages) (t edited : Tree) (answer : Result (List ℕ) SpliceRefusal) (new text : List ℕ) → answer ≡ Ok new → text ≡ new
    → new_answer pages t edited text ≡ Ok text → answer_by pages t edited answer ≡ Ok new
made_is pages t edited answer new text is same meant =
    ap (answer_by pages t edited) is ∙ subst (λ bs. new_answer pages t edited bs ≡ Ok bs) same meant

-- ---- its length

short_ok : (text new : List ℕ) (v : Bool) → nat_lt most_bytes (length text) ≡ v → cond v (Err of_splice.NewPageTooLong) (Ok text) ≡ Ok new
    → length new ≤ PAGE_BYTES
unfolding most_bytes
short_ok text new true is e = cc
short_ok text new false is e =
    let same : new ≡ text = cc in
    let within : length text ≤ PAGE_BYTES = grind (arith, nat_tests, is) in
    subst (λ bs. length bs ≤ PAGE_BYTES) (sym same) within

unrefused_short : (o : Option SpliceRefusal) (text new : List ℕ) → unless_refused o (if_short text) ≡ Ok new → length new ≤ PAGE_BYTES
unrefused_short None text new e = short_ok text new (nat_lt most_bytes (length text)) refl e
unrefused_short (Some r) text new e = cc

checked_short : (o : Option TreeRefusal) (p : Option SpliceRefusal) (text new : List ℕ)
    → unless_refused (option_map of_splice.Check o) (unless_refused p (if_short text)) ≡ Ok new → length new ≤ PAGE_BYTES
checked_short None p text new e = unrefused_short p text new e
checked_short (Some c) p text new e = cc

pub made_short : (items : Expanded) (page : List ℕ) (t edited : Tree) (new : List ℕ) → edit_answer same_node items page t edited ≡ Ok new
    → length new ≤ PAGE_BYTES
unfolding edit_answer
made_short items page t edited new e =
    checked_short (checked false t edited) (refused_pairs same_node items page (marked t edited)) (spliced page (slices same_node t edited)) new e

-- what the splice gave is a page
pub made_page : (answer : Result (List ℕ) SpliceRefusal) (new text bytes : List ℕ) → answer ≡ Ok new → text ≡ new → IsUtf8 text → length new ≤ PAGE_BYTES
    → answer ≡ Ok bytes → IsPage bytes
made_page answer new text bytes is same utf8 within made =
    let same_bytes : bytes ≡ new = cc in
    record {
      text = subst IsUtf8 (same ∙ sym same_bytes) utf8;
      within = subst (λ bs. length bs ≤ PAGE_BYTES) (sym same_bytes) within;
    }

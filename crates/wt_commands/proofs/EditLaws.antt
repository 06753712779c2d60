-- `edit`: from what was read, compared and spelled to the answer of the program.
use Rattle.std.proofs.Common.{◌≡◌, ℕ, List, Bool, true, false, cond, refl, sym, ap, ◌∙◌, subst}
use Rattle.std.specs.Prelude.{nat_lt, length, Option, Some, None, option_map, IfSome, IsErrAnd, Result, Ok, Err}
use Rattle.std.specs.Io.KnownBytes.{Appends, IsAtEnd}
use Rattle.wt_devices.specs.Device.{Pages}
use Rattle.wt_span.specs.Origins.{Expanded}
use Rattle.wt_tree.specs.Tree.{Tree, tree}
use Rattle.wt_expand.specs.PageCalls.{expanded_page}
use Rattle.wt_expand.specs.Work.{Refused}
use Rattle.wt_transclusion.specs.declared.refusal.ExpandRefusal.{ExpandRefusal}
use Rattle.wt_transclusion.specs.declared.refusal.ExpandRefusal.TheVariants as of_expansion
use Rattle.wt_transclusion.specs.Answers.{IsRefused}
use Rattle.wt_schema.specs.Read.{Read, page as as_page, ill, misfit, read}
use Rattle.wt_html_in.specs.Answers.{body_of, Answers}
use Rattle.wt_html_in.specs.declared.edited.Edited.{Edited}
use Rattle.wt_html_in.specs.declared.refusal.HtmlRefusal.{HtmlRefusal}
use Rattle.wt_html_in.specs.declared.refusal.HtmlRefusal.TheVariants as refusals
use Rattle.wt_checks.specs.declared.refusal.TreeRefusal.{TreeRefusal}
use Rattle.wt_checks.specs.Checked.{checked}
use Rattle.wt_page_round_trip.specs.PageTree.{page_tree}
use Rattle.wt_selser.specs.declared.refusal.EditRefusal.{EditRefusal}
use Rattle.wt_selser.specs.declared.refusal.EditRefusal.TheVariants as of_edit
use Rattle.wt_slices.specs.BodySlices.{slices}
use Rattle.wt_slices.specs.Changes.{marked}
use Rattle.wt_visible.specs.Children.{IsFirstDiffering, shown_children, differing}
use Rattle.wt_selser.specs.Edits.{edit_answer, unless_refused, if_short, most_bytes, refused_pairs}
use Rattle.wt_visible.specs.Restored.{restored_from}
use Rattle.wt_visible.specs.SameNodes.{same_node}
use Rattle.wt_splice.specs.Splice.{spliced}
use Rattle.wt_visible.proofs.DifferingLaws.{differing_is, none_same}
use Rattle.wt_commands.specs.declared.output.Output.{Output}
use Rattle.wt_commands.specs.declared.refusal.Refusal.{Refusal}
use Rattle.wt_commands.specs.declared.command.Command.TheVariants.{Edit}
use Rattle.wt_commands.specs.Words.{command_of}
use Rattle.wt_commands.specs.Answers.{Answer, done, answer_of_edit, refusal_of_page, expanded_by, title_answer, IsText, IsUnrefused, input_answer, unspelled_by, unspelled_answer, new_by, new_expanded, new_answer, edit_by, edit_from, edit_to, edited_answer, edit_of, edit_told, answer_told}
use Rattle.wt_commands.specs.Causes.{Answered, Refuses, IsFetched, refusal_of, refusal_of_new}
use Rattle.wt_commands.specs.Reports.{new_page, WroteEdit}
use Rattle.wt_commands.proofs.AnswerLaws.{input_done}
use Rattle.wt_commands.proofs.ExpandLaws.{fetched_as}
use Rattle.wt_commands.proofs.PageLaws.{text_of, page_text, title_made, title_stands, expanded_done}
use Rattle.wt_commands.proofs.ShownLaws.{IsBare, same_shown, page_face, read_face}
use Rattle.wt_commands.proofs.SectionEdits.{edit_outside}
use Rattle.wt_page_round_trip.proofs.OneBody.{read_is_one_body}

-- ---- the new page

-- a refusal of the new page's expansion
new_refusal_is : (answer : Answer) (o : Option Refused) (e : ExpandRefusal) → IsRefused o e → Refuses (refusal_of_new e) (new_by answer o)
new_refusal_is answer o (of_expansion.BracesTooDeep title place) is = ap (new_by answer) is
new_refusal_is answer o of_expansion.TooLarge is = ap (new_by answer) is
new_refusal_is answer o of_expansion.FolderFault is = tt
new_refusal_is answer o (of_expansion.TemplateNotUtf8 title place) is = ap (new_by answer) is
new_refusal_is answer o (of_expansion.TemplateTooLong title) is = ap (new_by answer) is
new_refusal_is answer o of_expansion.NoMemory is = tt

-- a new page that is text is answered by its expansion
text_new : (pages : Pages) (t edited : Tree) (new : List ℕ) → IsText new → new_answer pages t edited new ≡ new_expanded pages t edited new
text_new pages t edited new whole = whole (new_expanded pages t edited)

-- the new page's expansion is refused
pub new_refused : (pages : Pages) (t edited : Tree) (new text : List ℕ) (e : ExpandRefusal) (r : Refusal) → IsText new → text ≡ new
    → r ≡ refusal_of_new e → IsRefused (refusal_of_page pages text) e → Refuses r (new_answer pages t edited new)
new_refused pages t edited new text e r whole same is h =
    let o : IsRefused (refusal_of_page pages new) e = subst (λ bs. IsRefused (refusal_of_page pages bs) e) same h in
    subst (Refuses r) (sym (text_new pages t edited new whole))
    (subst (λ x. Refuses x (new_expanded pages t edited new)) (sym is)
    (new_refusal_is (unspelled_answer pages t edited new) (refusal_of_page pages new) e o))

-- what the comparison of the new page's tree with the edited tree answers
pub meant : (pages : Pages) (t edited u : Tree) (new text : List ℕ) (o : Option ℕ) → IsText new → text ≡ new → refusal_of_page pages text ≡ None
    → u ≡ page_tree pages text → IsFirstDiffering (shown_children u) (shown_children (restored_from t edited)) o
    → new_answer pages t edited new ≡ unspelled_by new o
meant pages t edited u new text o whole same unrefused is found =
    let none : refusal_of_page pages new ≡ None = subst (λ bs. refusal_of_page pages bs ≡ None) same unrefused in
    let page : u ≡ page_tree pages new = is ∙ ap (page_tree pages) same in
    let shown = shown_children (restored_from t edited) in
    let told : o ≡ differing 1 (shown_children u) shown = differing_is (shown_children u) shown o found in
    text_new pages t edited new whole ∙ ap (new_by (unspelled_answer pages t edited new)) none
    ∙ ap (unspelled_by new) (sym (subst (λ x. o ≡ differing 1 (shown_children x) shown) page told))

-- ---- from the tree of the page

-- the edit of what was expanded is that of the page
pub edit_expanded : (pages : Pages) (page : List ℕ) (items : Expanded) (t edited : Tree) (result : Result Output Refusal)
    → refusal_of_page pages page ≡ None → items ≡ expanded_page pages page → t ≡ page_tree pages page
    → Answered (edit_by pages t edited (edit_answer same_node items page t edited)) result → Answered (edit_to pages page edited) result
edit_expanded pages page items t edited result unrefused is same answered =
    let by_items = subst (λ (x : Expanded). Answered (edit_by pages t edited (edit_answer same_node x page t edited)) result) is answered in
    let by_tree = subst (λ (x : Tree). Answered (edit_by pages x edited (edit_answer same_node (expanded_page pages page) page x edited)) result)
    same by_items in
    subst (λ o. Answered (expanded_by (edit_from pages page edited) o) result) (sym unrefused) by_tree

-- ---- from what was read

pub edited_read : (pages : Pages) (page : List ℕ) (edited : Edited) (t : Tree) (bytes : List ℕ) (result : Result Output Refusal)
    → Answers (Ok edited) bytes → t ≡ body_of edited → Answered (edit_to pages page t) result
    → Answered (edited_answer pages page (read bytes)) result
unfolding edited_answer
edited_read pages page edited t bytes result reads is answered =
    subst (λ r. Answered (edited_answer pages page r) result) (sym reads)
    (subst (λ x. Answered (edit_to pages page x) result) is answered)

unread : (pages : Pages) (page : List ℕ) (refusal : HtmlRefusal) (bytes : List ℕ) → Answers (Err refusal) bytes
    → Refuses (refusal_of refusal) (edited_answer pages page (read bytes))
unfolding edited_answer
unread pages page (refusals.Html place why) bytes reads = rw reads refl
unread pages page (refusals.Unfit n why) bytes reads = rw reads refl
unread pages page refusals.NoMemory bytes reads = tt

pub unread_from : (pages : Pages) (page : List ℕ) (refusal : HtmlRefusal) (bytes : List ℕ) (result : Result Output Refusal)
    → Answers (Err refusal) bytes → IsErrAnd result (λ r. r ≡ refusal_of refusal) → Answered (edited_answer pages page (read bytes)) result
unread_from pages page refusal bytes (Ok output) reads is = absurd is
unread_from pages page refusal bytes (Err r) reads is =
    subst (λ x. Refuses x (edited_answer pages page (read bytes))) (sym is) (unread pages page refusal bytes reads)

-- ---- what stands under the title

edited_stands : (pages : Pages) (stands : Option (List ℕ)) (page text bytes : List ℕ) (result : Result Output Refusal)
    → IsFetched stands (fetched_as page) → IsText page → text ≡ page
    → Answered (input_answer (edited_answer pages text) bytes) result → Answered (edit_of pages stands bytes) result
edited_stands pages stands page text bytes result fetched whole same answered =
    let made : List ℕ → Answer = λ bs. input_answer (edited_answer pages bs) bytes in
    subst (λ a. Answered a result) (ap made same ∙ sym (fetched made ∙ whole made)) answered

-- the page that was fetched is edited
pub edited_title : (told : Option Pages) (left : Option (List ℕ)) (title page text : List ℕ) (result : Result Output Refusal)
    → IfSome told (λ pages. IsFetched (pages title) (fetched_as page)) → IsText page → text ≡ page
    → ((pages : Pages) → told ≡ Some pages → IfSome left (λ bytes. Answered (input_answer (edited_answer pages text) bytes) result))
    → IfSome (edit_told told left title) (λ a. Answered a result)
edited_title None left title page text result fetched whole same answered = tt
edited_title (Some pages) None title page text result fetched whole same answered = tt
edited_title (Some pages) (Some bytes) title page text result fetched whole same answered =
    edited_stands pages (pages title) page text bytes result fetched whole same (answered pages refl)

-- ---- an answer that is done is the new page

record IsNewPage (pages : Pages) (page : List ℕ) (edited : Tree) (bytes : List ℕ) : Type 0 where
  pub answered : IsUnrefused pages (new_page pages page edited)
  pub allowed : checked false (page_tree pages page) edited ≡ None
  pub answer : answer_of_edit pages page edited ≡ Ok (new_page pages page edited)
  pub is : bytes ≡ new_page pages page edited
  pub shows : shown_children (page_tree pages (new_page pages page edited)) ≡ shown_children (restored_from (page_tree pages page) edited)

short_ok : (text new : List ℕ) (v : Bool) → cond v (Err of_edit.NewPageTooLong) (Ok text) ≡ Ok new → new ≡ text
short_ok text new true e = cc
short_ok text new false e = cc

unrefused_ok : (o : Option EditRefusal) (text new : List ℕ) → unless_refused o (if_short text) ≡ Ok new → new ≡ text
unrefused_ok None text new e = short_ok text new (nat_lt most_bytes (length text)) e
unrefused_ok (Some r) text new e = cc

checked_ok : (o : Option TreeRefusal) (p : Option EditRefusal) (text new : List ℕ)
    → unless_refused (option_map of_edit.Check o) (unless_refused p (if_short text)) ≡ Ok new → (o ≡ None) × (new ≡ text)
checked_ok None p text new e = (refl, unrefused_ok p text new e)
checked_ok (Some c) p text new e = cc

pub answer_ok : (items : Expanded) (page : List ℕ) (t edited : Tree) (new : List ℕ) → edit_answer same_node items page t edited ≡ Ok new
    → (checked false t edited ≡ None) × (new ≡ spliced page (slices same_node t edited))
unfolding edit_answer
answer_ok items page t edited new e =
    checked_ok (checked false t edited) (refused_pairs same_node items page (marked t edited)) (spliced page (slices same_node t edited))
    new e

pub unspelled_done : (new bytes : List ℕ) (o : Option ℕ) → unspelled_by new o ≡ done bytes → (bytes ≡ new) × (o ≡ None)
unspelled_done new bytes None e = (cc, refl)
unspelled_done new bytes (Some k) e = cc

pub new_done : (answer : Answer) (bytes : List ℕ) (o : Option Refused) → new_by answer o ≡ done bytes → (o ≡ None) × (answer ≡ done bytes)
new_done answer bytes (Some r) e = cc
new_done answer bytes None e = (refl, e)

new_page_done : (pages : Pages) (page : List ℕ) (edited : Tree) (bytes : List ℕ) (answer : Result (List ℕ) EditRefusal)
    → answer_of_edit pages page edited ≡ answer → edit_by pages (page_tree pages page) edited answer ≡ done bytes
    → IsNewPage pages page edited bytes
new_page_done pages page edited bytes (Err e) is d = cc
new_page_done pages page edited bytes (Ok new) is d =
    let t = page_tree pages page in
    let a = answer_ok (expanded_page pages page) page t edited new is in
    let m = title_made new bytes (new_expanded pages t edited) d in
    let n = new_done (unspelled_answer pages t edited new) bytes (refusal_of_page pages new) m.is in
    let shown = shown_children (restored_from t edited) in
    let u = unspelled_done new bytes (differing 1 (shown_children (page_tree pages new)) shown) n.1 in
    let same = none_same 1 (shown_children (page_tree pages new)) shown u.1 in
    let answered : IsUnrefused pages new = record { text = page_text new m.within m.text; unrefused = n.0 } in
    record {
      answered = subst (IsUnrefused pages) a.1 answered;
      allowed = a.0;
      answer = is ∙ ap Ok a.1;
      is = u.0 ∙ a.1;
      shows = subst (λ bs. shown_children (page_tree pages bs) ≡ shown) a.1 same;
    }

record IsEdited (pages : Pages) (page : List ℕ) (r : Read) (bytes : List ℕ) : Type 0 where
  pub edited : Tree
  pub unsourced : Option ℕ
  pub reads : r ≡ as_page edited unsourced
  pub unrefused : refusal_of_page pages page ≡ None
  pub new : IsNewPage pages page edited bytes

edited_done : (pages : Pages) (page : List ℕ) (r : Read) (bytes : List ℕ) → edited_answer pages page r ≡ done bytes → IsEdited pages page r bytes
unfolding edited_answer
edited_done pages page (as_page t unsourced) bytes e =
    let x = expanded_done (edit_from pages page t) bytes (refusal_of_page pages page) e in
    record {
      edited = t;
      unsourced = unsourced;
      reads = refl;
      unrefused = x.0;
      new = new_page_done pages page t bytes (answer_of_edit pages page t) refl x.1;
    }
edited_done pages page (ill place why) bytes e = cc
edited_done pages page (misfit n why) bytes e = cc

pub restored_bare : (page t : Tree) → IsBare t → IsBare (restored_from page t)
restored_bare page (tree l ts) h = h

pub wrote_edit : (pages : Pages) (title input bytes : List ℕ) (left old new : Option (List ℕ))
    → edit_of pages (pages title) input ≡ done bytes → IsAtEnd left → Appends old new bytes → WroteEdit pages title input left old new
wrote_edit pages title input bytes left old new e ended wrote =
    let made : List ℕ → Answer = λ page. input_answer (edited_answer pages page) input in
    let h = title_stands (pages title) made bytes e in
    let page = h.0 in
    let m = input_done (edited_answer pages page) input bytes h.2 in
    let d = edited_done pages page (read input) bytes m.1 in
    let its = title_made page bytes made (subst (λ o. title_answer o made ≡ done bytes) h.1 e) in
    let text = text_of page its.text in
    let t = page_tree pages page in
    record {
      page = page;
      edited = d.edited;
      unsourced = d.unsourced;
      found = h.1;
      within = m.0;
      reads = d.reads;
      ended = ended;
      expanded = d.unrefused;
      allowed = d.new.allowed;
      unrefused = d.new.answer;
      wrote = subst (Appends old new) d.new.is wrote;
      outside = edit_outside pages page (new_page pages page d.edited) d.edited text its.within d.unrefused
          (read_is_one_body input d.edited d.unsourced d.reads) d.new.answer;
      answered = d.new.answered;
      shows = same_shown (page_tree pages (new_page pages page d.edited)) (restored_from t d.edited)
          (page_face pages (new_page pages page d.edited)) (restored_bare t d.edited (read_face input d.edited d.unsourced d.reads)) d.new.shows;
    }

pub told_edit : (pages : Option Pages) (input : Option (List ℕ)) (words : List (List ℕ)) (title : List ℕ)
    → command_of words ≡ Some (Edit title) → answer_told pages input words ≡ edit_told pages input title
unfolding answer_told
told_edit pages input words title e = rw e refl

-- From the tree of a page to `run`: what `edit` answers for the HTML of the page, given back unchanged.
use Rattle.std.proofs.Common.{◌≡◌, ℕ, ◌≤◌, ◌<◌, ◌^◌, List, length, refl, sym, ap, ◌∙◌, subst, arith}
use Rattle.std.specs.Prelude.{Option, Some, None, IfSome, Result, Ok}
use Rattle.wt_span.specs.Origins.{Expanded}
use Rattle.wt_tree.specs.Opened.{without_sections}
use Rattle.wt_tree.specs.Plain.{Plain, ended as nothing_more}
use Rattle.wt_tree.specs.Tiling.{InPreorder}
use Rattle.wt_tree.specs.Tree.{Tree, tree}
use Rattle.wt_schema.specs.Read.{page as as_page, read}
use Rattle.wt_page_round_trip.proofs.OneBody.{read_is_one_body}
use Rattle.wt_schema.specs.Html.{html_text}
use Rattle.wt_schema.specs.Written.{unranged}
use Rattle.wt_expand.specs.PageCalls.{expanded_page}
use Rattle.wt_expand.specs.Work.{Pages}
use Rattle.wt_page_round_trip.specs.PageTree.{page_tree}
use Rattle.wt_page_round_trip.proofs.Pages.{body_written, page_is_read, page_opened}
use Rattle.wt_page_round_trip.proofs.PageTrees.{ungathered_numbered}
use Rattle.wt_page_round_trip.proofs.Sectioned.{IsWrittenBody}
use Rattle.wt_sections.specs.Sections.{with_sections}
use Rattle.wt_sections.proofs.Kept.{plains_stay}
use Rattle.wt_checks.specs.BareSections.{HasBareSections}
use Rattle.wt_checks.specs.PutBack.{IsOneBody}
use Rattle.wt_visible.specs.Children.{listed, shown_children, differing}
use Rattle.wt_selser.specs.Edits.{most_bytes, edit_answer}
use Rattle.wt_visible.specs.Restored.{restored_from}
use Rattle.wt_visible.specs.SameNodes.{same_node}
use Rattle.wt_selser.proofs.Answering.{unmarked_stands}
use Rattle.wt_selser.proofs.Sections.{answers_same}
use Rattle.wt_visible.proofs.DifferingLaws.{differing_is}
use Rattle.wt_commands.specs.declared.command.Command.TheVariants.{Edit}
use Rattle.wt_commands.specs.declared.command.PageCommand.TheVariants.{Html}
use Rattle.wt_commands.specs.declared.output.Output.{Output}
use Rattle.wt_commands.specs.declared.refusal.Refusal.{Refusal}
use Rattle.wt_commands.specs.declared.status.Status.{Status}
use Rattle.wt_commands.specs.Answers.{done, IsText, refusal_of_page, made, expanded_by, html_answer, unspelled_by, unspelled_answer, new_by, new_expanded, edit_by, edit_from, edit_to, edited_answer, input_answer, edit_of, edit_told, answer_told}
use Rattle.wt_commands.specs.Causes.{Answered}
use Rattle.wt_commands.specs.Devices.{SinkUse}
use Rattle.wt_commands.specs.GivenBack.{GaveBack}
use Rattle.wt_commands.specs.Reports.{Reported}
use Rattle.wt_commands.specs.Statuses.{code}
use Rattle.wt_commands.specs.Unchanged.{StaysUnchanged}
use Rattle.wt_commands.specs.Words.{command_of}
use Rattle.wt_commands.proofs.AnswerLaws.{input_within}
use Rattle.wt_commands.proofs.EditLaws.{told_edit}
use Rattle.wt_commands.proofs.GivenBackLaws.{written, gave_step}
use Rattle.wt_commands.proofs.PageLaws.{title_made, page_text}
use Rattle.wt_commands.proofs.PageSections.{restored_without}
use Rattle.wt_commands.proofs.SectionEdits.{plain_page, page_bare}
use Rattle.wt_commands.proofs.UnchangedShown.{unchanged_unmarked, unchanged_shown}
use Rattle.wt_commands.proofs.UnchangedTree.{unchanged_checked}

-- ---- the edit

-- no page that is answered is longer than a new page may be
within_most : (page : List ℕ) → length page ≤ 2097152 → length page ≤ most_bytes
unfolding most_bytes
within_most page h = h

unchanged_edit : (items : Expanded) (page : List ℕ) (t : Tree) → length page ≤ 2097152 → IsWrittenBody t → InPreorder t
    → edit_answer same_node items page t (unranged t) ≡ Ok page
unchanged_edit items page t le w i =
    unmarked_stands same_node items page t (unranged t) (unchanged_unmarked t w i) (unchanged_checked t w i) (within_most page le)

-- where the new page shows what the edited tree shows, no child differs
pub none_differs : (xs ys : List Plain) (new : List ℕ) → xs ≡ ys → unspelled_by new (differing 1 xs ys) ≡ done new
none_differs xs ys new e = ap (unspelled_by new) (sym (differing_is xs ys None e))

-- ---- the answer

edited_read : (pages : Pages) (page : List ℕ) (u : Tree) (o : Option ℕ) → edited_answer pages page (as_page u o) ≡ edit_to pages page u
unfolding edited_answer
edited_read pages page u o = refl

-- with its sections a body shows what it shows without
shown_gathered : (t : Tree) → shown_children (with_sections t) ≡ shown_children t
shown_gathered (tree l ts) = ap listed (plains_stay ts nothing_more)

-- What is read is the tree u, which the page's tree t has in sections.
pub record IsInSections (t u : Tree) : Type 0 where
  pub bare : HasBareSections t
  pub opened : without_sections t ≡ u
  pub gathered : t ≡ with_sections u
  pub written : IsWrittenBody u
  pub numbered : InPreorder u
  pub one : IsOneBody (unranged u)

sections_edit : (items : Expanded) (page : List ℕ) (t u : Tree) → length page ≤ 2097152 → IsInSections t u
    → edit_answer same_node items page t (unranged u) ≡ Ok page
sections_edit items page t u le h =
    answers_same same_node items page t (unranged u) h.bare h.one
    ∙ ap (λ x. edit_answer same_node items page x (unranged u)) h.opened
    ∙ unchanged_edit items page u le h.written h.numbered

pub sections_shown : (t u : Tree) → IsInSections t u → shown_children t ≡ shown_children (restored_from t (unranged u))
sections_shown t u h =
    ap shown_children h.gathered ∙ shown_gathered u ∙ sym (unchanged_shown u h.written h.numbered)
    ∙ ap (λ x. shown_children (restored_from x (unranged u))) (sym h.opened)
    ∙ ap shown_children (sym (restored_without t (unranged u) h.bare))

-- the page as its own new page
unchanged_new : (pages : Pages) (page : List ℕ) (t u : Tree) → page_tree pages page ≡ t → IsText page → refusal_of_page pages page ≡ None
    → IsInSections t u → edit_by pages t (unranged u) (Ok page) ≡ done page
unchanged_new pages page t u is text unrefused h =
    text (new_expanded pages t (unranged u)) ∙ ap (new_by (unspelled_answer pages t (unranged u) page)) unrefused
    ∙ none_differs (shown_children (page_tree pages page)) (shown_children (restored_from t (unranged u))) page
    (ap shown_children is ∙ sections_shown t u h)

unchanged_by : (pages : Pages) (page : List ℕ) (t u : Tree) → page_tree pages page ≡ t → length page ≤ 2097152 → IsText page
    → refusal_of_page pages page ≡ None → IsInSections t u
    → edit_by pages t (unranged u) (edit_answer same_node (expanded_page pages page) page t (unranged u)) ≡ done page
unchanged_by pages page t u is le text unrefused h =
    ap (edit_by pages t (unranged u)) (sections_edit (expanded_page pages page) page t u le h) ∙ unchanged_new pages page t u is text unrefused h

-- What is read of the HTML that `html` answers for a page: the page's tree, without sections.
pub record IsReadAgain (pages : Pages) (page bytes : List ℕ) (t u : Tree) : Type 0 where
  pub within : length page ≤ 2097152
  pub text : IsText page
  pub unrefused : refusal_of_page pages page ≡ None
  pub few : length bytes ≤ 67108864
  pub reads : read bytes ≡ as_page (unranged u) None
  pub held : IsInSections t u

pub read_again : (pages : Pages) (page bytes : List ℕ) → html_answer pages (Some page) ≡ done bytes
    → IsReadAgain pages page bytes (page_tree pages page) (plain_page pages page)
read_again pages page bytes e =
    let m = title_made page bytes (made Html pages) e in
    let w = written pages page bytes e in
    let t : Tree = page_tree pages page in
    let u : Tree = plain_page pages page in
    let opened : without_sections t ≡ u = page_opened pages page w.text w.unrefused in
    let few : length page < 2 ^ 30 = let le = w.within in omega (arith, le) in
    let reads : read (html_text t) ≡ as_page (unranged u) None =
    page_is_read pages page w.text few w.unrefused ∙ ap (λ x. as_page (unranged x) None) opened in
    record {
      within = w.within;
      text = page_text page m.within m.text;
      unrefused = w.unrefused;
      few = w.few;
      reads = ap read w.is ∙ reads;
      held = record {
        bare = page_bare pages page w.text w.unrefused;
        opened = opened;
        gathered = refl;
        written = body_written pages page w.text few w.unrefused;
        numbered = ungathered_numbered (expanded_page pages page).outer (expanded_page pages page).items;
        one = read_is_one_body (html_text t) (unranged u) None reads;
      };
    }

pub stays_unchanged : (pages : Pages) (page : List ℕ) → StaysUnchanged pages page
stays_unchanged pages page bytes e =
    let r = read_again pages page bytes e in
    let t : Tree = page_tree pages page in
    let u : Tree = plain_page pages page in
    r.text (λ bs. input_answer (edited_answer pages bs) bytes)
    ∙ input_within (edited_answer pages page) bytes r.few
    ∙ ap (edited_answer pages page) r.reads
    ∙ edited_read pages page (unranged u) None
    ∙ ap (expanded_by (edit_from pages page (unranged u))) r.unrefused
    ∙ unchanged_by pages page t u refl r.within r.text r.unrefused r.held

-- ---- the clause

unchanged_told : (pages : Option Pages) (input : Option (List ℕ)) (title : List ℕ) (found : Result Output Refusal) (s : Status) (ended : ℕ)
    (o e : SinkUse) → ended ≡ code s → IfSome (edit_told pages input title) (λ a. Answered a found) → Reported found s o e
    → IfSome pages (λ ps. IfSome input (λ bytes. (page : List ℕ) → ps title ≡ Some page → html_answer ps (Some page) ≡ done bytes
    → GaveBack page ended o.taken_before o.taken_after))
unchanged_told None input title found s ended o e is a r = tt
unchanged_told (Some ps) None title found s ended o e is a r = tt
unchanged_told (Some ps) (Some bytes) title found s ended o e is a r = λ page stands h. gave_step page found s ended o e is
    (subst (λ x. Answered x found) (ap (λ st. edit_of ps st bytes) stands ∙ stays_unchanged ps page bytes h) a) r

-- Where the input is the HTML that `html` answers for the page, `edit` wrote this very page; or a device failed, or memory ran out.
pub run_changes_nothing : (pages : Option Pages) (input : Option (List ℕ)) (words : List (List ℕ)) (found : Result Output Refusal) (s : Status)
    (ended : ℕ) (o e : SinkUse) → ended ≡ code s → (title : List ℕ) → command_of words ≡ Some (Edit title)
    → IfSome (answer_told pages input words) (λ a. Answered a found) → Reported found s o e
    → IfSome pages (λ ps. IfSome input (λ bytes. (page : List ℕ) → ps title ≡ Some page → html_answer ps (Some page) ≡ done bytes
    → GaveBack page ended o.taken_before o.taken_after))
run_changes_nothing pages input words found s ended o e is title w a r =
    unchanged_told pages input title found s ended o e is (subst (λ x. IfSome x (λ y. Answered y found)) (told_edit pages input words title w) a) r

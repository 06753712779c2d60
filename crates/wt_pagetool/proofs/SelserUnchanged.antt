-- What `selser` finds for the HTML of a page, given back unchanged or with changes that aren't compared: the page.
use Rattle.std.proofs.Common.{◌≡◌, ℕ, Bool, true, false, List, [], refl, sym, ap, ◌∙◌, subst}
use Rattle.std.specs.Prelude.{◌&&◌, not, if◌then◌else◌, Option, Some, None, IfSome, Result, Ok, Err}
use Rattle.wt_span.specs.Origins.{Expanded}
use Rattle.wt_tree.specs.Tiling.{is_group, InPreorder}
use Rattle.wt_tree.specs.Tree.{Tree, tree, Trees, none, more, label}
use Rattle.wt_tree.specs.declared.kind.Kind.TheVariants as kind
use Rattle.wt_checks.specs.Checked.{checked, nodes_checked}
use Rattle.wt_checks.specs.Groups.{has_mark, have_mark}
use Rattle.wt_checks.specs.Places.{is_body}
use Rattle.wt_checks.specs.WithoutMarks.{groups_unmarked, all_groups_unmarked}
use Rattle.wt_checks.proofs.NodesAlone.{taken_alone}
use Rattle.wt_checks.proofs.NodesUnmarked.{checked_unmarked}
use Rattle.wt_checks.proofs.Repeated.{or_false}
use Rattle.wt_checks.proofs.Sections.{no_difference}
use Rattle.wt_difference.specs.Difference.{are_none, difference}
use Rattle.wt_difference.specs.Remarked.{remarked}
use Rattle.wt_difference.specs.Unedited.{IsUnedited}
use Rattle.wt_difference.proofs.Remarks.{marks_alone, groups_free}
use Rattle.wt_difference.proofs.UneditedLaws.{nothing_differs}
use Rattle.wt_expand.specs.PageCalls.{expanded_page}
use Rattle.wt_expand.specs.Work.{Pages}
use Rattle.wt_schema.specs.Read.{page as as_page, read}
use Rattle.wt_page_round_trip.specs.PageTree.{page_tree}
use Rattle.wt_page_round_trip.proofs.PageTrees.{page_numbered}
use Rattle.wt_schema.specs.Written.{unranged}
use Rattle.wt_visible.specs.Children.{shown_children}
use Rattle.wt_visible.specs.Restored.{restored_from}
use Rattle.wt_commands.specs.declared.output.Output.{Output}
use Rattle.wt_commands.specs.declared.refusal.Refusal.{Refusal}
use Rattle.wt_commands.specs.declared.status.Status.{Status}
use Rattle.wt_commands.specs.declared.status.Status.TheVariants as status
use Rattle.wt_commands.specs.Answers.{Answer, done, refused, IsUnrefused, expanded_by, html_answer, input_answer, new_answer, new_by, new_expanded, unspelled_answer, nodes_answer, remarked_of, taken_from, taken_to, taken_answer, taken_of}
use Rattle.wt_commands.specs.Causes.{RefusesAs, Answered}
use Rattle.wt_commands.specs.Devices.{SinkUse}
use Rattle.wt_commands.specs.GivenBack.{GaveBack}
use Rattle.wt_commands.specs.Refusals.{status_of}
use Rattle.wt_commands.specs.Reports.{Reported}
use Rattle.wt_unmarked_edit.specs.Found.{PageMustDo}
use Rattle.wt_pagetool.specs.Selser.{FindsNone, FindsNew, FindsFor, FindsUnder, IsUnchanged, OrFound, AnswersSelser}
use Rattle.wt_commands.specs.Statuses.{code}
use Rattle.wt_commands.proofs.AnswerLaws.{input_within}
use Rattle.wt_commands.proofs.GivenBackLaws.{gave_step}
use Rattle.wt_commands.proofs.SectionEdits.{plain_page}
use Rattle.wt_commands.proofs.SelserShown.{remarked_shown}
use Rattle.wt_commands.proofs.EditLaws.{restored_bare}
use Rattle.wt_commands.proofs.ShownLaws.{page_body, page_face, read_face, same_shown, shown_same}
use Rattle.wt_commands.proofs.UnchangedLaws.{IsInSections, sections_shown, none_differs, read_again}
use Rattle.wt_commands.proofs.UnchangedShown.{unchanged_unmarked}
use Rattle.wt_commands.proofs.UnchangedTree.{unchanged_checked}
use Rattle.wt_commands.proofs.UneditedRead.{unedited_read}
use Rattle.wt_pagetool.proofs.UnmarkedEdits.{back}

-- ---- without a mark, groups have none

free_by : (g h b : Bool) → h ≡ false → b ≡ true → (if g then not h else b) ≡ true
free_by true h b e f = ap not e
free_by false h b e f = f

both_true : (a b : Bool) → a ≡ true → b ≡ true → (a && b) ≡ true
both_true true b e f = f
both_true false b e f = absurd (cc)

mutual
  none_in_groups : (t : Tree) → has_mark t ≡ false → groups_unmarked t ≡ true
  none_in_groups (tree l ts) h =
      free_by (is_group l.kind) (has_mark (tree l ts)) (all_groups_unmarked ts) h (none_in_any ts (or_false _ (have_mark ts) h).1)

  none_in_any : (ts : Trees) → have_mark ts ≡ false → all_groups_unmarked ts ≡ true
  none_in_any none h = refl
  none_in_any (more t ts) h =
      let s = or_false (has_mark t) (have_mark ts) h in
      both_true (groups_unmarked t) (all_groups_unmarked ts) (none_in_groups t s.0) (none_in_any ts s.1)

-- ---- the nodes of what is read, with the marks of the difference, are taken

pub nodes_taken : (t u : Tree) → IsInSections t u → is_body (label (unranged u)).kind ≡ true → nodes_checked t (remarked t (unranged u)) ≡ None
nodes_taken t u h b =
    let e : Tree = unranged u in
    let c : checked false t e ≡ None =
    no_difference false t e h.bare ∙ ap (λ x. checked false x e) h.opened ∙ unchanged_checked u h.written h.numbered in
    checked_unmarked t (remarked t e) (groups_free t e b) ∙ ap (nodes_checked t) (marks_alone t e)
    ∙ sym (checked_unmarked t e (none_in_groups e (unchanged_unmarked u h.written h.numbered))) ∙ taken_alone t e c

-- ---- nothing differs

none_found : (t u : Tree) → IsInSections t u → (label t).kind ≡ kind.Body → InPreorder t → difference t (unranged u) ≡ []
none_found t u h b i =
    nothing_differs t (unranged u) b i h.bare h.one (subst (λ x. IsUnedited x (unranged u)) (sym h.opened) (unedited_read u h.written))

-- ---- the page is read back

page_back : (pages : Pages) (page : List ℕ) (edited : Tree) → IsUnrefused pages page
    → shown_children (page_tree pages page) ≡ shown_children (restored_from (page_tree pages page) edited)
    → new_answer pages (page_tree pages page) (remarked_of pages page edited) page ≡ done page
page_back pages page edited h shown =
    let t : Tree = page_tree pages page in
    let e : Tree = remarked_of pages page edited in
    h.text (new_expanded pages t e) ∙ ap (new_by (unspelled_answer pages t e page)) h.unrefused
    ∙ none_differs (shown_children t) (shown_children (restored_from t e)) page (shown ∙ sym (remarked_shown t edited))

-- ---- what is found

refused_by : (pages : Pages) (items : Expanded) (page : List ℕ) (t u : Tree) (same : Bool) (r : Refusal) (s : Status)
    → PageMustDo pages page t u same → FindsNone pages items page t u same r s → RefusesAs s r (done page)
refused_by pages items page t u same r status.Done m f = f
refused_by pages items page t u same r status.Usage m f = absurd f
refused_by pages items page t u same r status.PageRefused m f = absurd f
refused_by pages items page t u same r status.HtmlRefused m f = absurd f
refused_by pages items page t u same r status.EditRefused m f = absurd (f.none.itself m)
refused_by pages items page t u same r status.ReadFault m f = tt
refused_by pages items page t u same r status.FolderFault m f = tt
refused_by pages items page t u same r status.WriteFault m f = tt
refused_by pages items page t u same r status.NoMemory m f = tt

found_page : (pages : Pages) (items : Expanded) (page : List ℕ) (t u : Tree) (same : Bool) (found : Result Output Refusal)
    → PageMustDo pages page t u same → FindsNew pages items page t u same found → Answered (done page) found
found_page pages items page t u same (Ok output) m f = ap done (sym (f.itself m))
found_page pages items page t u same (Err r) m f = refused_by pages items page t u same r (status_of r) m f

taken_read : (pages : Pages) (page : List ℕ) (u : Tree) (o : Option ℕ) → taken_answer pages page (as_page u o) ≡ taken_to pages page u
unfolding taken_answer
taken_read pages page u o = refl

or_found : (a : Answer) (page : List ℕ) (F : Type 0) (found : Result Output Refusal) → a ≡ done page → OrFound a F found → F
or_found (done p) page F found e f = f
or_found (refused r) page F found e f = absurd (cc)

found_itself : (pages : Pages) (page bytes : List ℕ) (found : Result Output Refusal) → IsUnchanged pages page bytes
    → AnswersSelser pages (Some page) bytes found → Answered (done page) found
found_itself pages page bytes found h a =
    let t : Tree = page_tree pages page in
    let x : Tree = h.edited in
    let taken : taken_of pages (Some page) bytes ≡ done page =
    h.answered.text (λ bs. input_answer (taken_answer pages bs) bytes) ∙ input_within (taken_answer pages page) bytes h.within
    ∙ ap (taken_answer pages page) h.reads ∙ taken_read pages page x h.unsourced
    ∙ ap (expanded_by (taken_from pages page x)) h.answered.unrefused ∙ ap (nodes_answer page) h.allowed in
    let shown : shown_children t ≡ shown_children (restored_from t x) =
    shown_same t (restored_from t x) (page_face pages page) (restored_bare t x (read_face bytes x h.unsourced h.reads)) h.shows in
    let must : PageMustDo pages page t (remarked t x) (are_none (difference t x)) =
    (ap are_none h.same, back pages t (remarked t x) page (page_back pages page x h.answered shown)) in
    let f : FindsFor pages page (read bytes) found =
    or_found (taken_of pages (Some page) bytes) page (FindsUnder pages (Some page) (read bytes) found) found taken a in
    found_page pages (expanded_page pages page) page t (remarked t x) (are_none (difference t x)) found must
    (subst (λ y. FindsFor pages page y found) h.reads f)

-- what `html` answers for the page differs from it in nothing
html_unchanged : (pages : Pages) (page bytes : List ℕ) → html_answer pages (Some page) ≡ done bytes → IsUnchanged pages page bytes
html_unchanged pages page bytes e =
    let r = read_again pages page bytes e in
    let t : Tree = page_tree pages page in
    let u : Tree = plain_page pages page in
    record {
      edited = unranged u;
      unsourced = None;
      answered = record { text = r.text; unrefused = r.unrefused };
      within = r.few;
      reads = r.reads;
      allowed = nodes_taken t u r.held r.held.one.root;
      same = none_found t u r.held (page_body pages page) (page_numbered pages page);
      shows = same_shown t (restored_from t (unranged u)) (page_face pages page)
          (restored_bare t (unranged u) (read_face bytes (unranged u) None r.reads)) (sections_shown t u r.held);
    }

-- ---- the clauses

pub run_selser_keeps : (told : Option Pages) (left : Option (List ℕ)) (title : List ℕ) (found : Result Output Refusal)
    (s : Status) (ended : ℕ) (out err : SinkUse) → ended ≡ code s
    → IfSome told (λ pages. IfSome left (λ bytes. AnswersSelser pages (pages title) bytes found)) → Reported found s out err
    → IfSome told (λ pages. IfSome left (λ bytes. (page : List ℕ) → pages title ≡ Some page → IsUnchanged pages page bytes
    → GaveBack page ended out.taken_before out.taken_after))
run_selser_keeps None left title found s ended out err is a r = tt
run_selser_keeps (Some ps) None title found s ended out err is a r = tt
run_selser_keeps (Some ps) (Some bytes) title found s ended out err is a r = λ page stands h. gave_step page found s ended out err is
    (found_itself ps page bytes found h (subst (λ st. AnswersSelser ps st bytes found) stands a)) r

pub run_selser_changes_nothing : (told : Option Pages) (left : Option (List ℕ)) (title : List ℕ) (found : Result Output Refusal)
    (s : Status) (ended : ℕ) (out err : SinkUse) → ended ≡ code s
    → IfSome told (λ pages. IfSome left (λ bytes. AnswersSelser pages (pages title) bytes found)) → Reported found s out err
    → IfSome told (λ pages. IfSome left (λ bytes. (page : List ℕ) → pages title ≡ Some page → html_answer pages (Some page) ≡ done bytes
    → GaveBack page ended out.taken_before out.taken_after))
run_selser_changes_nothing None left title found s ended out err is a r = tt
run_selser_changes_nothing (Some ps) None title found s ended out err is a r = tt
run_selser_changes_nothing (Some ps) (Some bytes) title found s ended out err is a r = λ page stands h. gave_step page found s ended out err is
    (found_itself ps page bytes found (html_unchanged ps page bytes h) (subst (λ st. AnswersSelser ps st bytes found) stands a)) r

-- What the program answers: the bytes that go to standard output, or a refusal.
use Rattle.std.specs.Prelude.{◌≡◌, ℕ, List, length, nat_lt, Option, Some, None, false, option_map, option_and_then, Result, Ok, Err, if◌then◌else◌}
use Rattle.wt_devices.specs.Device.{Pages}
use Rattle.wt_tree.specs.Tree.{Tree}
use Rattle.wt_tree.specs.Source.{flat}
use Rattle.wt_schema.specs.Html.{html_text}
use Rattle.wt_listing.specs.Listing.{listing}
use Rattle.wt_lint.specs.Lines.{findings}
use Rattle.wt_lint.specs.Report.{finding_lines}
use Rattle.wt_utf8.specs.Places.{not_utf8_place}
use Rattle.wt_expand.specs.Texts.{shown_text}
use Rattle.wt_expand.specs.Work.{Refused, braces_too_deep, too_large, not_utf8, too_long}
use Rattle.wt_expand.specs.PageCalls.{expanded_page}
use Rattle.wt_schema.specs.Read.{Read, page as as_page, ill, misfit, read}
use Rattle.wt_page_round_trip.specs.PageTree.{page_tree}
use Rattle.wt_checks.specs.declared.refusal.TreeRefusal.{TreeRefusal}
use Rattle.wt_checks.specs.Checked.{checked, nodes_checked}
use Rattle.wt_difference.specs.Remarked.{remarked}
use Rattle.wt_selser.specs.declared.refusal.EditRefusal.{EditRefusal}
use Rattle.wt_visible.specs.Children.{shown_children, differing}
use Rattle.wt_selser.specs.Edits.{edit_answer}
pub use Rattle.wt_edit.specs.Edits.{refusal_of_page}
use Rattle.wt_visible.specs.Restored.{restored_from}
use Rattle.wt_visible.specs.SameNodes.{same_node}
use Rattle.wt_span.specs.declared.limits.TheConstants.{HTML_BYTES, PAGE_BYTES}
use Rattle.wt_commands.specs.declared.status.Status.{Status}
use Rattle.wt_commands.specs.declared.status.Status.TheVariants.{Done}
use Rattle.wt_commands.specs.declared.refusal.Refusal.{Refusal}
use Rattle.wt_commands.specs.declared.refusal.Refusal.TheVariants.{Usage, Absent, TooLong, NotUtf8, BracesTooDeep, TooLarge, TemplateNotUtf8, TemplateTooLong, HtmlTooLong, InputTooLong, Html as html_refused, Unfit, Unsourced, Checked, NewExpansion, Unspelled}
use Rattle.wt_commands.specs.declared.command.PageCommand.{PageCommand}
use Rattle.wt_commands.specs.declared.command.PageCommand.TheVariants.{Html, Ranges, Lint}
use Rattle.wt_commands.specs.declared.command.Command.{Command}
use Rattle.wt_commands.specs.declared.command.Command.TheVariants.{Page, Expand, Edit, Selser, Gen, Wikitext}
use Rattle.wt_commands.specs.Refusals.{status_of, refusal_of_edit}
use Rattle.wt_commands.specs.Words.{command_of}
use Rattle.wt_commands.specs.Gen.{gen_page, gen_pages, gen_line}

pub data Answer : Type 0 where
  done : List ℕ → Answer
  refused : Refusal → Answer

-- ---- what is under a title

-- a page by the place where it stops being UTF-8
abbrev pub text_answer : List ℕ → (List ℕ → Answer) → Option ℕ → Answer
text_answer page made (Some place) = refused (NotUtf8 place)
text_answer page made None = made page

-- The refusals of what is under a title, in their order: no page; one that is too long; one that isn't UTF-8. Any
-- other page is answered by what is made of it.
unfoldable pub title_answer : Option (List ℕ) → (List ℕ → Answer) → Answer
title_answer None made = refused Absent
title_answer (Some page) made =
    if nat_lt PAGE_BYTES (length page) then refused TooLong
    else text_answer page made (not_utf8_place page)

-- the page is text of no more bytes than a page may have, whatever is made of it
abbrev pub IsText : List ℕ → Type 0
IsText page = (made : List ℕ → Answer) → title_answer (Some page) made ≡ made page

-- there is no text under a title: no page, one that is too long, or one that isn't UTF-8
abbrev pub IsNoText : Option (List ℕ) → Type 0
IsNoText stands = (r : Refusal) × ((made : List ℕ → Answer) → title_answer stands made ≡ refused r)

-- ---- a page with its templates

-- why an expansion is refused
abbrev pub expansion_refusal : Refused → Refusal
expansion_refusal (braces_too_deep template place) = BracesTooDeep template place
expansion_refusal too_large = TooLarge
expansion_refusal (not_utf8 template place) = TemplateNotUtf8 template place
expansion_refusal (too_long template) = TemplateTooLong template

-- the answer of an expansion that is refused, or this one
abbrev pub expanded_by : Answer → Option Refused → Answer
expanded_by answer (Some r) = refused (expansion_refusal r)
expanded_by answer None = answer

-- nothing refuses the page or its expansion
pub record IsUnrefused (pages : Pages) (page : List ℕ) : Type 0 where
  pub text : IsText page
  pub unrefused : refusal_of_page pages page ≡ None

-- ---- what is made of a page

abbrev pub html_within : List ℕ → Answer
html_within bytes = if nat_lt HTML_BYTES (length bytes) then refused HtmlTooLong else done bytes

-- what a command writes of a page and its tree: `html` its HTML, `ranges` a line for each node that has a number, `lint` a line
-- for each doubtful place
abbrev pub page_output : PageCommand → List ℕ → Tree → List ℕ
page_output Html page t = html_text t
page_output Ranges page t = listing t
page_output Lint page t = finding_lines (findings page t)

-- HTML may not be too long
abbrev pub made_of_tree : PageCommand → List ℕ → Tree → Answer
made_of_tree Html page t = html_within (page_output Html page t)
made_of_tree Ranges page t = done (page_output Ranges page t)
made_of_tree Lint page t = done (page_output Lint page t)

-- what a command makes of a page that is text: of the tree of the expanded page, or what its work refuses first
abbrev pub made : PageCommand → Pages → List ℕ → Answer
made command pages page = expanded_by (made_of_tree command page (page_tree pages page)) (refusal_of_page pages page)

-- `html` of what is under the title
abbrev pub html_answer : Pages → Option (List ℕ) → Answer
html_answer pages stands = title_answer stands (made Html pages)

-- `expand`: what the items of the expanded page show
abbrev pub expansion_of : Pages → List ℕ → Answer
expansion_of pages page = expanded_by (done (shown_text (expanded_page pages page).items)) (refusal_of_page pages page)

-- ---- a page that is made from a number

-- the line of a page of so many bytes, where its HTML isn't too long
abbrev pub told_of_tree : ℕ → Tree → Answer
told_of_tree bytes t = if nat_lt HTML_BYTES (length (html_text t)) then refused HtmlTooLong else done (gen_line bytes t)

abbrev pub gen_of : List ℕ → Answer
gen_of page = expanded_by (told_of_tree (length page) (page_tree gen_pages page)) (refusal_of_page gen_pages page)

-- `gen` of so many sections
abbrev pub gen_answer : ℕ → Answer
gen_answer n = title_answer (Some (gen_page n)) gen_of

-- ---- what is made of an input

-- the source of the page that was read, each of whose elements has to say its own
unfoldable pub source_answer : Read → Answer
source_answer (as_page t None) = done (flat t)
source_answer (as_page t (Some n)) = refused (Unsourced n)
source_answer (ill place why) = refused (html_refused place why)
source_answer (misfit n why) = refused (Unfit n why)

-- The refusal of an input that is too long. Any other input is answered by what is made of what is read.
unfoldable pub input_answer : (Read → Answer) → List ℕ → Answer
input_answer made input =
    if nat_lt HTML_BYTES (length input) then refused InputTooLong
    else made (read input)

-- `wikitext` of an input
abbrev pub wikitext_answer : List ℕ → Answer
wikitext_answer input = input_answer source_answer input

-- ---- what is made of an edit

-- the new page, where it shows what the edited tree shows
abbrev pub unspelled_by : List ℕ → Option ℕ → Answer
unspelled_by new None = done new
unspelled_by new (Some k) = refused (Unspelled k)

-- the first child, counted from 1, in which the new page's tree and the edited tree differ; in the edited tree a kept group is
-- what the page's group of its number holds
abbrev pub unspelled_answer : Pages → Tree → Tree → List ℕ → Answer
unspelled_answer pages t edited new =
    unspelled_by new (differing 1 (shown_children (page_tree pages new)) (shown_children (restored_from t edited)))

-- the new page where nothing refuses its expansion
abbrev pub new_by : Answer → Option Refused → Answer
new_by answer (Some r) = refused NewExpansion
new_by answer None = answer

abbrev pub new_expanded : Pages → Tree → Tree → List ℕ → Answer
new_expanded pages t edited new = new_by (unspelled_answer pages t edited new) (refusal_of_page pages new)

-- A new page is refused as any page is, where its expansion is refused, and where it doesn't show what the edited tree
-- shows.
abbrev pub new_answer : Pages → Tree → Tree → List ℕ → Answer
new_answer pages t edited new = title_answer (Some new) (new_expanded pages t edited)

-- of a page of this tree, by the answer of its edit
abbrev pub edit_by : Pages → Tree → Tree → Result (List ℕ) EditRefusal → Answer
edit_by pages t edited (Ok new) = new_answer pages t edited new
edit_by pages t edited (Err e) = refused (refusal_of_edit e)

-- the first check that refuses an edited tree of a page; marks of values are not taken
abbrev pub checked_edit : Tree → Tree → Option TreeRefusal
checked_edit page edited = checked false page edited

-- the new page of an expanded page and this edited tree, or why the edit is refused
abbrev pub answer_of_edit : Pages → List ℕ → Tree → Result (List ℕ) EditRefusal
answer_of_edit pages page edited = edit_answer same_node (expanded_page pages page) page (page_tree pages page) edited

-- the edit of an expanded page to this tree
abbrev pub edit_from : Pages → List ℕ → Tree → Answer
edit_from pages page edited = edit_by pages (page_tree pages page) edited (answer_of_edit pages page edited)

abbrev pub edit_to : Pages → List ℕ → Tree → Answer
edit_to pages page edited = expanded_by (edit_from pages page edited) (refusal_of_page pages page)

-- the edit of a page to what was read; elements may have no source
unfoldable pub edited_answer : Pages → List ℕ → Read → Answer
edited_answer pages page (as_page t unsourced) = edit_to pages page t
edited_answer pages page (ill place why) = refused (html_refused place why)
edited_answer pages page (misfit n why) = refused (Unfit n why)

-- `edit` of what is under the title, to this input, which is read to its end before the page is expanded
abbrev pub edit_of : Pages → Option (List ℕ) → List ℕ → Answer
edit_of pages stands input = title_answer stands (λ page. input_answer (edited_answer pages page) input)

-- where both the pages and the input are known
abbrev pub edit_told : Option Pages → Option (List ℕ) → List ℕ → Option Answer
edit_told pages input title = option_and_then (λ ps. option_map (λ bytes. edit_of ps (ps title) bytes) input) pages

-- ---- what is made of an edit without marks

-- The edited tree with the marks of its difference from the page's tree, and no others: the marks that it was read with count for
-- nothing.
abbrev pub remarked_of : Pages → List ℕ → Tree → Tree
remarked_of pages page edited = remarked (page_tree pages page) edited

-- the page, where no check of the edited tree's nodes refuses it
abbrev pub nodes_answer : List ℕ → Option TreeRefusal → Answer
nodes_answer page None = done page
nodes_answer page (Some c) = refused (Checked c)

-- a page that is expanded, for this edited tree
abbrev pub taken_from : Pages → List ℕ → Tree → Answer
taken_from pages page edited = nodes_answer page (nodes_checked (page_tree pages page) (remarked_of pages page edited))

abbrev pub taken_to : Pages → List ℕ → Tree → Answer
taken_to pages page edited = expanded_by (taken_from pages page edited) (refusal_of_page pages page)

-- a page, for what was read; elements may have no source
unfoldable pub taken_answer : Pages → List ℕ → Read → Answer
taken_answer pages page (as_page t unsourced) = taken_to pages page t
taken_answer pages page (ill place why) = refused (html_refused place why)
taken_answer pages page (misfit n why) = refused (Unfit n why)

-- The page that `selser` changes, which is under the title, for this input; or what refuses it before a new page is looked for:
-- what is under the title, the input, the page's expansion, and the nodes of the edited tree, in this order.
abbrev pub taken_of : Pages → Option (List ℕ) → List ℕ → Answer
taken_of pages stands input = title_answer stands (λ page. input_answer (taken_answer pages page) input)

-- A refusal is defined. Of a page that is taken no definition says which new page is found.
abbrev pub refusal_alone : Answer → Option Answer
refusal_alone (done page) = None
refusal_alone (refused r) = Some (refused r)

-- where both the pages and the input are known
abbrev pub selser_told : Option Pages → Option (List ℕ) → List ℕ → Option Answer
selser_told pages input title =
    option_and_then (λ ps. option_and_then (λ bytes. refusal_alone (taken_of ps (ps title) bytes)) input) pages

-- ---- commands

-- A command needs the pages of the folder, the bytes of the input, or both: its answer isn't known where these
-- aren't. `selser` has one where it is refused before a new page is looked for.
abbrev pub answer_to : Option Pages → Option (List ℕ) → Option Command → Option Answer
answer_to pages input None = Some (refused Usage)
answer_to pages input (Some (Page command title)) = option_map (λ ps. title_answer (ps title) (made command ps)) pages
answer_to pages input (Some (Expand title)) = option_map (λ ps. title_answer (ps title) (expansion_of ps)) pages
answer_to pages input (Some (Edit title)) = edit_told pages input title
answer_to pages input (Some (Selser title)) = selser_told pages input title
answer_to pages input (Some (Gen n)) = Some (gen_answer n)
answer_to pages input (Some Wikitext) = option_map wikitext_answer input

-- the answer to these words over a folder of these pages and this input
unfoldable pub answer_told : Option Pages → Option (List ℕ) → List (List ℕ) → Option Answer
answer_told pages input words = answer_to pages input (command_of words)

-- how a call with this answer ends
abbrev pub status_of_answer : Answer → Status
status_of_answer (done bytes) = Done
status_of_answer (refused r) = status_of r

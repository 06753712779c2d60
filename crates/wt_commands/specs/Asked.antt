-- Which pages a command asks its folder for.
use Rattle.std.specs.Prelude.{◌≡◌, ℕ, List, [], ◌∷◌, ◌++◌, length, take, nat_lt, Option, Some, None, option_map, option_and_then, Result, Ok, Err, if◌then◌else◌}
use Rattle.wt_span.specs.declared.limits.TheConstants.{HTML_BYTES, PAGE_BYTES}
use Rattle.wt_utf8.specs.Places.{not_utf8_place}
use Rattle.wt_expand.specs.Work.{Pages, Entry, Refused, names_asked}
use Rattle.wt_transclusion.specs.Asked.{AreFirst}
use Rattle.wt_transclusion.specs.Stops.{AnswersFewer}
use Rattle.wt_schema.specs.Read.{Read, page as as_page, ill, misfit, read}
use Rattle.wt_selser.specs.declared.refusal.EditRefusal.{EditRefusal}
pub use Rattle.wt_edit.specs.Asked.{work_done, followed_by, AnswersAll}
use Rattle.wt_commands.specs.declared.command.Command.{Command}
use Rattle.wt_commands.specs.declared.command.Command.TheVariants.{Page, Expand, Edit, Selser, Gen, Wikitext}
use Rattle.wt_commands.specs.declared.refusal.Refusal.{Refusal}
use Rattle.wt_commands.specs.declared.status.Status.{Status}
use Rattle.wt_commands.specs.declared.status.Status.TheVariants as status
use Rattle.wt_commands.specs.Answers.{answer_of_edit, refusal_of_page}
use Rattle.wt_commands.specs.Causes.{found_status}
use Rattle.wt_commands.specs.Words.{command_of}

-- ---- the work of a command

abbrev pub text_work : List ℕ → (List ℕ → List Entry) → Option ℕ → List Entry
text_work page made (Some place) = []
text_work page made None = made page

-- the work for what is under a title: none where there is no page, or one that is too long or isn't UTF-8
unfoldable pub title_work : Option (List ℕ) → (List ℕ → List Entry) → List Entry
title_work None made = []
title_work (Some page) made =
    if nat_lt PAGE_BYTES (length page) then [] else text_work page made (not_utf8_place page)

-- the work for the new page of an edit: none where the edit is refused
abbrev pub new_work : Pages → Result (List ℕ) EditRefusal → List Entry
new_work pages (Ok new) = title_work (Some new) (work_done pages)
new_work pages (Err refusal) = []

-- the work after that of a page: none where the page is refused
abbrev pub work_behind : Option Refused → List Entry → List Entry
work_behind None work = work
work_behind (Some refused) work = []

-- The work for the edit of a page to what was read: that for the page, and then that for the new page. HTML that is refused is so
-- before the page is expanded.
unfoldable pub edited_work : Pages → List ℕ → Read → List Entry
edited_work pages page (as_page edited unsourced) =
    work_done pages page ++ work_behind (refusal_of_page pages page) (new_work pages (answer_of_edit pages page edited))
edited_work pages page (ill place why) = []
edited_work pages page (misfit n why) = []

-- the work for an input: none where it is too long
unfoldable pub input_work : (Read → List Entry) → List ℕ → List Entry
input_work made input = if nat_lt HTML_BYTES (length input) then [] else made (read input)

-- the work of `edit` for what is under the title and this input
abbrev pub edit_work : Pages → Option (List ℕ) → List ℕ → List Entry
edit_work pages stands input = title_work stands (λ page. input_work (edited_work pages page) input)

-- ---- names

-- the name of the page, and then the names that its work asks for, each once, in the order of their first fetch
abbrev pub names_of : List ℕ → List Entry → List (List ℕ)
names_of name work = name ∷ names_asked work

-- those of `edit`, where both the pages and the input are known
abbrev pub edit_names : Option Pages → Option (List ℕ) → List ℕ → Option (List (List ℕ))
edit_names pages input name =
    option_and_then (λ ps. option_map (λ bytes. names_of name (edit_work ps (ps name) bytes)) input) pages

-- The names that a command asks for, where what they depend on is known: up to its first refusal. `selser` reads up to three
-- new pages back, of which no definition says which they are, so its names aren't known.
abbrev pub names_for : Option Pages → Option (List ℕ) → Option Command → Option (List (List ℕ))
names_for pages input None = Some []
names_for pages input (Some (Page command name)) = option_map (λ ps. names_of name (title_work (ps name) (work_done ps))) pages
names_for pages input (Some (Expand name)) = option_map (λ ps. names_of name (title_work (ps name) (work_done ps))) pages
names_for pages input (Some (Edit name)) = edit_names pages input name
names_for pages input (Some (Selser name)) = None
names_for pages input (Some (Gen n)) = Some []
names_for pages input (Some Wikitext) = Some []

unfoldable pub names_told : Option Pages → Option (List ℕ) → List (List ℕ) → Option (List (List ℕ))
names_told pages input words = names_for pages input (command_of words)

-- ---- what the folder answered

-- the folder answered the first of these names, in their order and no others: all of them, some or none
abbrev pub AnswersFirst : List (List ℕ) → Option (List (List ℕ)) → Option (List (List ℕ)) → Type 0
AnswersFirst names before after = (n : ℕ) × (after ≡ followed_by before (take n names))

-- What the folder answered of the names since, by how a step ended: all of them where it is done or refused; where the folder failed the
-- first of them, and the next one is that of the fetch that failed; else the first of them, which may be all.
abbrev pub AsksAs : Status → List (List ℕ) → Option (List (List ℕ)) → Option (List (List ℕ)) → Type 0
AsksAs status.Done names before after = AnswersAll names before after
AsksAs status.Usage names before after = AnswersAll names before after
AsksAs status.PageRefused names before after = AnswersAll names before after
AsksAs status.HtmlRefused names before after = AnswersAll names before after
AsksAs status.EditRefused names before after = AnswersAll names before after
AsksAs status.ReadFault names before after = AreFirst after (followed_by before names)
AsksAs status.FolderFault names before after = AnswersFewer names before after
AsksAs status.WriteFault names before after = AreFirst after (followed_by before names)
AsksAs status.NoMemory names before after = AreFirst after (followed_by before names)

abbrev pub AsksNames : {T : Type 0} → List (List ℕ) → Option (List (List ℕ)) → Option (List (List ℕ)) → Result T Refusal → Type 0
AsksNames names before after result = AsksAs (found_status result) names before after

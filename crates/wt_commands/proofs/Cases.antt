-- Worked cases of the definitions, each computed.
use Rattle.std.proofs.Common.{◌≡◌, ℕ, List, [], ◌∷◌, ◌++◌, refl, append_assoc, rules}
use Rattle.std.specs.Prelude.{Some, None, codes, decimal}
use Rattle.wt_names.specs.Namespace.{prefix_of, full_name_of}
use Rattle.wt_names.specs.Reading.{whole_in, cut_namespace, title_in}
use Rattle.wt_names.specs.Good.{is_forbidden, is_allowed, has_signature, is_step, begins_with_step, holds_step, ends_with_step, is_good, read_text}
use Rattle.wt_commands.specs.declared.command.PageCommand.TheVariants as pages
use Rattle.wt_commands.specs.declared.command.Command.TheVariants.{Page, Edit, Selser, Gen, Wikitext}
use Rattle.wt_commands.specs.declared.refusal.Refusal.TheVariants.{Usage, Absent, NotUtf8, BracesTooDeep, HtmlTooLong, Html, Unfit, Unsourced, Checked, BadContent, Unspelled}
use Rattle.wt_commands.specs.Words.{page_name, section_count, command_of}
use Rattle.wt_expand.specs.Work.{Pages, braces_too_deep}
use Rattle.wt_tree.specs.Tree.{Tree}
use Rattle.wt_html_grammar.specs.declared.why.HtmlWhy.TheVariants as ill_why
use Rattle.wt_schema.specs.declared.why.FitWhy.TheVariants as fit_whys
use Rattle.wt_schema.specs.Read.{page as as_page, misfit}
use Rattle.wt_checks.specs.declared.refusal.TreeRefusal.TheVariants as checks
use Rattle.wt_content.specs.declared.reason.ContentWhy.TheVariants as contents
use Rattle.wt_commands.specs.Answers.{Answer, refused, title_answer, expanded_by, made, source_answer, unspelled_by, edited_answer, edit_of, nodes_answer, taken_answer, taken_of, refusal_alone, answer_told}
use Rattle.wt_commands.specs.Refusals.{html_why, fit_why, content_why, check_name, text_of, line_of}

-- the words
html_main : command_of (codes "html" ∷ codes "main page" ∷ []) ≡ Some (Page pages.Html (codes "Main page"))
unfolding command_of page_name read_text is_allowed is_forbidden title_in whole_in cut_namespace is_good full_name_of prefix_of
    has_signature is_step begins_with_step holds_step ends_with_step
html_main = refl

ranges_main : command_of (codes "ranges" ∷ codes "main page" ∷ []) ≡ Some (Page pages.Ranges (codes "Main page"))
unfolding command_of page_name read_text is_allowed is_forbidden title_in whole_in cut_namespace is_good full_name_of prefix_of
    has_signature is_step begins_with_step holds_step ends_with_step
ranges_main = refl

lint_main : command_of (codes "lint" ∷ codes "main page" ∷ []) ≡ Some (Page pages.Lint (codes "Main page"))
unfolding command_of page_name read_text is_allowed is_forbidden title_in whole_in cut_namespace is_good full_name_of prefix_of
    has_signature is_step begins_with_step holds_step ends_with_step
lint_main = refl

edit_main : command_of (codes "edit" ∷ codes "main page" ∷ []) ≡ Some (Edit (codes "Main page"))
unfolding command_of page_name read_text is_allowed is_forbidden title_in whole_in cut_namespace is_good full_name_of prefix_of
    has_signature is_step begins_with_step holds_step ends_with_step
edit_main = refl

selser_main : command_of (codes "selser" ∷ codes "main page" ∷ []) ≡ Some (Selser (codes "Main page"))
unfolding command_of page_name read_text is_allowed is_forbidden title_in whole_in cut_namespace is_good full_name_of prefix_of
    has_signature is_step begins_with_step holds_step ends_with_step
selser_main = refl

ranges_alone : command_of (codes "ranges" ∷ []) ≡ None
unfolding command_of
ranges_alone = refl

html_alone : command_of (codes "html" ∷ []) ≡ None
unfolding command_of
html_alone = refl

html_bracket : command_of (codes "html" ∷ codes "a[b" ∷ []) ≡ None
unfolding command_of page_name read_text is_allowed is_forbidden
html_bracket = refl

html_fragment : command_of (codes "html" ∷ codes "A#b" ∷ []) ≡ None
unfolding command_of page_name read_text is_allowed is_forbidden title_in whole_in cut_namespace is_good full_name_of prefix_of
    has_signature is_step begins_with_step holds_step ends_with_step
html_fragment = refl

wikitext_alone : command_of (codes "wikitext" ∷ []) ≡ Some Wikitext
unfolding command_of
wikitext_alone = refl

wikitext_title : command_of (codes "wikitext" ∷ codes "Main" ∷ []) ≡ None
unfolding command_of
wikitext_title = refl

-- words of no command are answered by the usage, whatever is told
words_of_none : answer_told None None [] ≡ Some (refused Usage)
unfolding answer_told command_of
words_of_none = refl

-- `wikitext` has no answer where the input isn't told
input_not_told : answer_told None None (codes "wikitext" ∷ []) ≡ None
unfolding answer_told command_of
input_not_told = refl

-- an element without a source, whatever the tree; an element that doesn't fit
no_source : (t : Tree) → source_answer (as_page t (Some 6)) ≡ refused (Unsourced 6)
unfolding source_answer
no_source t = refl

no_place : source_answer (misfit 2 fit_whys.Place) ≡ refused (Unfit 2 fit_whys.Place)
unfolding source_answer
no_place = refl

-- an edit by HTML that doesn't fit, of whatever page; one of which no page stands under the title, whatever the input
edit_unfit : (pages : Pages) (page : List ℕ) → edited_answer pages page (misfit 2 fit_whys.Place) ≡ refused (Unfit 2 fit_whys.Place)
unfolding edited_answer
edit_unfit pages page = refl

edit_of_none : (pages : Pages) (input : List ℕ) → edit_of pages None input ≡ refused Absent
unfolding title_answer
edit_of_none pages input = refl

-- `selser` of no page, of HTML that doesn't fit, and of a page whose edited tree has a number that the page hasn't; which new page it
-- answers isn't told
selser_of_none : (pages : Pages) (input : List ℕ) → taken_of pages None input ≡ refused Absent
unfolding title_answer
selser_of_none pages input = refl

selser_unfit : (pages : Pages) (page : List ℕ) → taken_answer pages page (misfit 2 fit_whys.Place) ≡ refused (Unfit 2 fit_whys.Place)
unfolding taken_answer
selser_unfit pages page = refl

selser_unknown : (page : List ℕ) → nodes_answer page (Some (checks.UnknownId 7)) ≡ refused (Checked (checks.UnknownId 7))
selser_unknown page = refl

selser_told_none : (page : List ℕ) → refusal_alone (nodes_answer page None) ≡ None
selser_told_none page = refl

-- a new page that shows in its third child something else than the edited tree
edit_unspelled : (new : List ℕ) → unspelled_by new (Some 3) ≡ refused (Unspelled 3)
edit_unspelled new = refl

-- a folder without a page of this title, and a page that isn't UTF-8, whatever is made of a page
no_page : (folder : Pages) → title_answer None (made pages.Ranges folder) ≡ refused Absent
unfolding title_answer
no_page folder = refl

-- an expansion that is refused, and one that isn't
template_too_deep : (answer : Answer) (place : ℕ) → expanded_by answer (Some (braces_too_deep None place)) ≡ refused (BracesTooDeep None place)
template_too_deep answer place = refl

-- a number of sections: from 1 to 10,000 without leading zeros
gen_ten : command_of (codes "gen" ∷ codes "10" ∷ []) ≡ Some (Gen 10)
unfolding command_of section_count
gen_ten = refl

gen_most : section_count (codes "10000") ≡ Some 10000
unfolding section_count
gen_most = refl

gen_more : section_count (codes "10001") ≡ None
unfolding section_count
gen_more = refl

gen_zero : section_count (codes "0") ≡ None
unfolding section_count
gen_zero = refl

gen_leading : section_count (codes "01") ≡ None
unfolding section_count
gen_leading = refl

gen_signed : section_count (codes "+1") ≡ None
unfolding section_count
gen_signed = refl

gen_empty : section_count [] ≡ None
unfolding section_count
gen_empty = refl

-- the lines, with the digits of a number as they stand
not_utf8_line : (place : ℕ) → line_of (NotUtf8 place) ≡ codes "wtround: page not UTF-8 at " ++ decimal place ++ codes "\n"
unfolding line_of text_of
not_utf8_line place = refl

html_line : line_of HtmlTooLong ≡ codes "wtround: html too long\n"
unfolding line_of text_of
html_line = refl

ill_line : (place : ℕ) → line_of (Html place ill_why.EndTag) ≡ codes "wtround: html refused at " ++ (decimal place ++ codes ": EndTag\n")
unfolding line_of text_of html_why
ill_line place = search (rules, append_assoc)

checked_line : (n : ℕ) → line_of (Checked (checks.UnmarkedChange n)) ≡ codes "wtround: edit refused: UnmarkedChange " ++ (decimal n ++ codes "\n")
unfolding line_of text_of check_name
checked_line n = refl

content_line : (n : ℕ) → line_of (BadContent n contents.Href) ≡ codes "wtround: edit refused: BadContent " ++ (decimal n ++ codes " Href\n")
unfolding line_of text_of content_why
content_line n = search (rules, append_assoc)

unspelled_line : (k : ℕ) → line_of (Unspelled k) ≡ codes "wtround: edit refused: Unspelled " ++ decimal k ++ codes "\n"
unfolding line_of text_of
unspelled_line k = refl

unfit_line : (n : ℕ) → line_of (Unfit n fit_whys.Place) ≡ codes "wtround: element " ++ (decimal n ++ codes " does not fit: Place\n")
unfolding line_of text_of fit_why
unfit_line n = search (rules, append_assoc)

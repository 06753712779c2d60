-- An edit that changes nothing: `edit` of the HTML that `html` writes for a page, given back as it is, is the page.
use Rattle.std.specs.Prelude.{◌≡◌, ℕ, List, Some}
use Rattle.wt_expand.specs.Work.{Pages}
use Rattle.wt_commands.specs.Answers.{done, html_answer, edit_of}

-- `edit` of what `html` answers for a page, over the same folder, is this very page
abbrev pub StaysUnchanged : Pages → List ℕ → Type 0
StaysUnchanged pages page = (bytes : List ℕ) → html_answer pages (Some page) ≡ done bytes → edit_of pages (Some page) bytes ≡ done page

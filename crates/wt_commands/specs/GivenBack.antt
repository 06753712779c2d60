-- The way there and back: `wikitext` of the HTML that `html` writes for a page is the page.
use Rattle.std.specs.Prelude.{◌≡◌, ℕ, ◌⊎◌, List, Option, Some, None}
use Rattle.std.specs.Io.KnownBytes.{Appends}
use Rattle.wt_expand.specs.Work.{Pages}
use Rattle.wt_tree.specs.Tree.{Tree}
use Rattle.wt_tree.specs.Source.{flat}
use Rattle.wt_schema.specs.Html.{html_text}
use Rattle.wt_schema.specs.Read.{page as as_page, read}
use Rattle.wt_page_round_trip.specs.PageTree.{page_tree}
use Rattle.wt_commands.specs.declared.status.Status.TheVariants.{Done}
use Rattle.wt_commands.specs.Statuses.{code, IsFaultOrNoMemory}
use Rattle.wt_commands.specs.Answers.{done, html_answer, wikitext_answer}

-- the HTML of a page stands for a tree whose every element says its source, and whose source is the page
pub record IsReadBack (pages : Pages) (page : List ℕ) : Type 0 where
  pub tree : Tree
  pub reads : read (html_text (page_tree pages page)) ≡ as_page tree None
  pub source : flat tree ≡ page

-- `wikitext` of what `html` answers for a page is the page
abbrev pub IsGivenBack : Pages → List ℕ → Type 0
IsGivenBack pages page = (bytes : List ℕ) → html_answer pages (Some page) ≡ done bytes → wikitext_answer bytes ≡ done page

-- the call is done, and `out` took the page; or a device failed, or memory ran out
abbrev pub GaveBack : List ℕ → ℕ → Option (List ℕ) → Option (List ℕ) → Type 0
GaveBack page ended old new = ((ended ≡ code Done) × Appends old new page) ⊎ IsFaultOrNoMemory ended

-- What the words of a call ask for.
use Rattle.std.specs.Prelude.{ℕ, List, [], ◌∷◌, Option, Some, None, ⊤, codes, is_none, nat_le, option_map, option_and_then, if◌then◌else◌}
use Rattle.std.specs.Str.{bytes_eq}
use Rattle.wt_schema.specs.Attributes.{decimal_of}
use Rattle.wt_gen.specs.declared.page.TheConstants.{MOST_SECTIONS}
use Rattle.wt_names.specs.declared.title.Title.{Title}
use Rattle.wt_names.specs.Good.{read_text}
use Rattle.wt_names.specs.Namespace.{full_name_of}
use Rattle.wt_commands.specs.declared.command.PageCommand.TheVariants.{Html, Ranges, Lint}
use Rattle.wt_commands.specs.declared.command.Command.{Command}
use Rattle.wt_commands.specs.declared.command.Command.TheVariants.{Page, Expand, Edit, Selser, Gen, Wikitext}

-- the full name of a title without a fragment
abbrev pub whole_name : Title → Option (List ℕ)
whole_name t = if is_none t.fragment then Some (full_name_of t) else None

-- the full name of the page that a word names: the word is a good title without a fragment
unfoldable pub page_name : List ℕ → Option (List ℕ)
page_name word = option_and_then whole_name (read_text word)

-- how many sections a word asks for: a decimal number from 1 to `MOST_SECTIONS` without leading zeros
abbrev pub at_most : ℕ → Option ℕ
at_most n = if nat_le n MOST_SECTIONS then Some n else None

unfoldable pub section_count : List ℕ → Option ℕ
section_count word = option_and_then at_most (decimal_of word)

-- a command of two words: the second is the title of a page, or a number of sections
abbrev pub page_command : List ℕ → List ℕ → Option Command
page_command word title =
    if bytes_eq word (codes "html") then option_map (λ name. Page Html name) (page_name title)
    else if bytes_eq word (codes "ranges") then option_map (λ name. Page Ranges name) (page_name title)
    else if bytes_eq word (codes "expand") then option_map (λ name. Expand name) (page_name title)
    else if bytes_eq word (codes "edit") then option_map (λ name. Edit name) (page_name title)
    else if bytes_eq word (codes "gen") then option_map (λ n. Gen n) (section_count title)
    else if bytes_eq word (codes "lint") then option_map (λ name. Page Lint name) (page_name title)
    else if bytes_eq word (codes "selser") then option_map (λ name. Selser name) (page_name title)
    else None

-- the command that the words name, or none
unfoldable pub command_of : List (List ℕ) → Option Command
command_of (word ∷ []) = if bytes_eq word (codes "wikitext") then Some Wikitext else None
command_of (word ∷ title ∷ []) = page_command word title
command_of words = None

-- ---- what a command needs

-- it fetches pages from the folder
abbrev pub Fetches : Option Command → Type 0
Fetches None = ⊥
Fetches (Some (Page command title)) = ⊤
Fetches (Some (Expand title)) = ⊤
Fetches (Some (Edit title)) = ⊤
Fetches (Some (Selser title)) = ⊤
Fetches (Some (Gen n)) = ⊥
Fetches (Some Wikitext) = ⊥

-- it reads the input
abbrev pub Reads : Option Command → Type 0
Reads None = ⊥
Reads (Some (Page command title)) = ⊥
Reads (Some (Expand title)) = ⊥
Reads (Some (Edit title)) = ⊤
Reads (Some (Selser title)) = ⊤
Reads (Some (Gen n)) = ⊥
Reads (Some Wikitext) = ⊤

-- it has a page to work on: one of the folder's, or one that it makes
abbrev pub HasPage : Option Command → Type 0
HasPage None = ⊥
HasPage (Some (Page command title)) = ⊤
HasPage (Some (Expand title)) = ⊤
HasPage (Some (Edit title)) = ⊤
HasPage (Some (Selser title)) = ⊤
HasPage (Some (Gen n)) = ⊤
HasPage (Some Wikitext) = ⊥

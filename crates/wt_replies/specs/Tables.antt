-- The caller's table of pages.
use Rattle.std.specs.Prelude.{ℕ, zero, suc, List, [], ◌∷◌, ◌++◌, Option, Some, None, option_and_then, find, is_none, if◌then◌else◌}
use Rattle.std.specs.List.{flat_map}
use Rattle.std.specs.Option.{option_or}
use Rattle.std.specs.Str.{bytes_eq}
use Rattle.wt_devices.specs.Device.{Pages}
use Rattle.wt_replies.specs.declared.table.Page.{Page}

-- what a table has under each name: an entry, or none
abbrev pub Entries : Type 0
Entries = List ℕ → Option Page

-- the first entry of a name, if the table has one
abbrev pub entry_of : List Page → Entries
entry_of table name = find (λ page. bytes_eq page.name.now name) table

-- what is under the name of an entry, by its state: 1 says that its text does
abbrev pub text_by : ℕ → List ℕ → Option (List ℕ)
text_by zero text = None
text_by (suc zero) text = Some text
text_by (suc (suc n)) text = None

abbrev pub stands : Page → Option (List ℕ)
stands page = text_by page.state page.text.now

-- the pages of a table; a name that it hasn't counts as absent
abbrev pub pages_of : Entries → Pages
pages_of entries name = option_and_then stands (entries name)

-- these entries, and this one where they have none of its name
abbrev pub or_else : Entries → Page → Entries
or_else entries page name = option_or (entries name) (entry_of (page ∷ []) name)

-- ---- names that the table hasn't

-- a name with a zero byte after it, where the table has no entry of it
abbrev pub missing_name : Entries → List ℕ → List ℕ
missing_name entries name = if is_none (entries name) then name ++ 0 ∷ [] else []

-- those of these names, in their order, that the table hasn't
abbrev pub missing_names : Entries → List (List ℕ) → List ℕ
missing_names entries names = flat_map (missing_name entries) names

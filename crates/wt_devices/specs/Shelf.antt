-- A folder as a list of names and pages.
use Rattle.std.specs.Prelude.{◌≡◌, ◌≢◌, ℕ, List, All, Option, Some, None, option_map, find}
use Rattle.std.specs.Str.{bytes_eq}
use Rattle.wt_devices.specs.Device.{Pages}

-- the page of the first entry of this name
abbrev pub look_up : List (List ℕ × List ℕ) → List ℕ → Option (List ℕ)
look_up entries name = option_map (λ entry. entry.1) (find (λ entry. bytes_eq entry.0 name) entries)

-- these are the pages of the entries: each is under its name, and no other name has one
pub record ArePagesOf (entries : List (List ℕ × List ℕ)) (pages : Pages) : Type 0 where
  pub found : All (λ entry. pages entry.0 ≡ Some entry.1) entries
  pub absent : (name : List ℕ) → All (λ entry. entry.0 ≢ name) entries → pages name ≡ None

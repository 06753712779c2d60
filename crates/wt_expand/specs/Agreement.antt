-- Folders that have the same pages where these are fetched.
use Rattle.std.specs.Prelude.{◌≡◌, ℕ, List, Contains}
use Rattle.wt_expand.specs.Work.{Pages, Entry, fetches}

abbrev pub AgreeOn : Pages → Pages → List Entry → Type 0
AgreeOn pages others es = (full : List ℕ) → Contains (fetches es) full → pages full ≡ others full

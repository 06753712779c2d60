-- What is found of a group's parts while its pieces are read.
use Rattle.std.specs.Prelude.{◌≡◌, ℕ, Bool, not, ◌&&◌, Option, Some, None, List, [], ◌++◌, slice_get}
use Rattle.wt_tree.specs.declared.node.Part.{Part as Datum}
use Rattle.wt_span.specs.declared.form.Piece.{Piece}
use Rattle.wt_span.specs.Items.{Item, call_of_origin}
use Rattle.wt_span.specs.Origins.{OuterCall}
use Rattle.wt_ranges.specs.declared.carried.PartsSoFar.{PartsSoFar}
use Rattle.wt_annotated.specs.GroupData.{call_parts, data_parts, literal_if_any, next_number}
use Rattle.wt_annotated.specs.Pieces.{is_hollow}
use Rattle.wt_annotated.specs.Seams.{last_of, parted}
use Rattle.wt_annotated.specs.Walked.{longer, parts_from}

-- a piece that stands for items, after a free cut
abbrev pub begins_at : Option ℕ → Piece → Bool
begins_at o p = not (is_hollow p) && parted o (call_of_origin p.origin)

-- another text of the page was read
pub record TextFound (found : PartsSoFar) (bs : List ℕ) (now : PartsSoFar) : Type 0 where
  pub parts : now.parts ≡ found.parts
  pub number : now.number ≡ found.number
  pub since : now.since ≡ longer found.since bs

-- a call began
pub record CallFound (calls : List OuterCall) (found : PartsSoFar) (k : ℕ) (now : PartsSoFar) : Type 0 where
  pub parts : now.parts ≡ (found.parts ++ literal_if_any found.since) ++ call_parts (slice_get calls k) found.number
  pub number : now.number ≡ next_number (slice_get calls k) found.number
  pub since : now.since ≡ Some []

-- all parts, where these items come next after an item of this call
abbrev pub all_parts : List OuterCall → PartsSoFar → Option ℕ → List Item → List Datum
all_parts calls f o xs = f.parts ++ data_parts calls f.number (parts_from o f.since xs)

abbrev pub nothing_found : PartsSoFar
nothing_found = record { parts = []; number = 0; since = None }

-- items were read: whatever follows them, all parts are the same
abbrev pub Continues : List OuterCall → Option ℕ → PartsSoFar → List Item → PartsSoFar → Type 0
Continues calls o found xs now = (rest : List Item) → all_parts calls now (last_of o xs) rest ≡ all_parts calls found o (xs ++ rest)

-- What the element of a group carries: its parts as data. A call has its number among the calls of its group, arguments not
-- counted; a slice of the page between two calls is a text.
use Rattle.std.specs.Prelude.{ℕ, Option, Some, None, List, [], ◌∷◌, ◌++◌, slice_get}
use Rattle.wt_tree.specs.declared.node.DataMw.{DataMw}
use Rattle.wt_tree.specs.declared.node.DataMw.TheVariants as mw
use Rattle.wt_tree.specs.declared.node.Part.{Part as Datum}
use Rattle.wt_tree.specs.declared.node.Part.TheVariants as datum
use Rattle.wt_span.specs.Origins.{OuterCall}
use Rattle.wt_call_data.specs.CallData.{call_part, next_call}
use Rattle.wt_annotated.specs.GroupParts.{Part, called, between}

-- a call before which there are so many calls of the group; one that isn't there is none
abbrev pub call_parts : Option OuterCall → ℕ → List Datum
call_parts None i = []
call_parts (Some c) i = call_part c i ∷ []

abbrev pub next_number : Option OuterCall → ℕ → ℕ
next_number None i = i
next_number (Some c) i = next_call c i

abbrev pub data_parts : List OuterCall → ℕ → List Part → List Datum
data_parts calls i [] = []
data_parts calls i (between bs ∷ ps) = datum.Literal bs ∷ data_parts calls i ps
data_parts calls i (called k ∷ ps) = call_parts (slice_get calls k) i ++ data_parts calls (next_number (slice_get calls k) i) ps

unfoldable pub group_data : List OuterCall → List Part → Option DataMw
group_data calls ps = Some (mw.Parts (data_parts calls 0 ps))

-- a slice that isn't empty, as data
abbrev pub literal_if_any : Option (List ℕ) → List Datum
literal_if_any None = []
literal_if_any (Some []) = []
literal_if_any (Some (b ∷ bs)) = datum.Literal (b ∷ bs) ∷ []

-- The values that a call hands over, by their names.
use Rattle.std.specs.Prelude.{◌≡◌, ℕ, List, option_map}
use Rattle.std.specs.BTreeMap.{get_by_text}
use Rattle.wt_span.specs.Items.{items}
use Rattle.wt_expand.specs.Expansion.{Frame, value_of}
use Rattle.wt_values.specs.declared.values.Values.{Values}

-- each name has the value that it has in a frame
abbrev pub AreValues : Values → Frame → Type 0
AreValues vs frame = (name : List ℕ) → option_map items (get_by_text vs.named name) ≡ value_of name frame

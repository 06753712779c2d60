-- Parts of an outermost call, as they are read.
use Rattle.std.specs.Prelude.{ℕ, ◌+◌, ◌≤◌, Option, List, String, length, map, string_bytes}
use Rattle.std.specs.BTreeMap.{BTreeMap}
use Rattle.std.specs.declared.alloc.Global.{Global}
use Rattle.wt_span.specs.Origins.{Span, OuterCall, IsBorder, IsNameEnd}
use Rattle.wt_call_data.specs.declared.param.Param.{Param}
use Rattle.wt_call_data.specs.CallData.{Param as Pair}

-- a part lies in its call, at character borders, and so does the sign after its name
abbrev pub IsSoundPart : OuterCall → Span → Option ℕ → Type 0
IsSoundPart c p e = (c.start ≤ p.0) × (p.0 ≤ p.1) × (p.1 ≤ c.start + length c.source) × IsBorder c p.0 × IsBorder c p.1 × IsNameEnd c p e

abbrev pub param_of : Param → Pair
param_of p = (string_bytes p.name, p.value)

abbrev pub entries_of : BTreeMap (String Global) (List ℕ) → List Pair
entries_of m = map (λ e. (string_bytes e.0, e.1)) m.entries

abbrev pub pairs_of : List (List ℕ × List ℕ) → List Pair
pairs_of ps = ps

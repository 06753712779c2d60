-- The parts of a group: its calls, and the slices of the page that lie between two of them and aren't empty.
use Rattle.std.specs.Prelude.{ℕ, zero, suc, ◌-◌, Option, Some, None, List, [], ◌∷◌, ◌++◌, length, drop, slice_get, if◌then◌else◌}
use Rattle.wt_span.specs.Items.{Item}
use Rattle.wt_span.specs.Origins.{OuterCall}
use Rattle.wt_span.specs.Cuts.{is_free, call_of_item, source_of_call, text_between}

-- a call by its number, or a slice of the page
pub data Part : Type 0 where
  called : ℕ → Part
  between : List ℕ → Part

-- a call, and how many items come before its first one
abbrev pub Begun : Type 0
Begun = ℕ × ℕ

abbrev pub begun_by : ℕ → Option ℕ → List Begun
begun_by n None = []
begun_by n (Some k) = (n, k) ∷ []

-- the call that begins with the item after this cut
abbrev pub begun_at : List Item → ℕ → List Begun
begun_at all n = if is_free all n then begun_by n (call_of_item (slice_get all n)) else []

-- the calls that begin among so many items after a cut, in order
abbrev pub begun : List Item → ℕ → ℕ → List Begun
begun all n zero = []
begun all n (suc k) = begun_at all n ++ begun all (suc n) k

-- a slice, if it isn't empty
abbrev pub slice_part : List ℕ → List Part
slice_part [] = []
slice_part (b ∷ bs) = between (b ∷ bs) ∷ []

-- what is on the page after the first call up to the second
abbrev pub text_after : List OuterCall → List Item → Begun → Begun → List ℕ
text_after calls all (n, k) (m, j) =
    drop (length (source_of_call (slice_get calls k))) (text_between calls all n (m - n))

abbrev pub parts_by : List OuterCall → List Item → List Begun → List Part
parts_by calls all [] = []
parts_by calls all (b ∷ []) = called b.1 ∷ []
parts_by calls all (b ∷ c ∷ bs) =
    called b.1 ∷ (slice_part (text_after calls all b c) ++ parts_by calls all (c ∷ bs))

-- the parts of a group of so many items after a cut
abbrev pub parts : List OuterCall → List Item → ℕ → ℕ → List Part
parts calls all n k = parts_by calls all (begun all n k)

-- The signs of lists at the front of a line, of which so many count.
use Rattle.std.specs.Prelude.{ℕ, min, List, take}
use Rattle.std.specs.List.{prefix_len}
use Rattle.wt_blocks.specs.Nesting.{is_list_sign}

abbrev pub list_signs : ℕ → List ℕ → List ℕ
list_signs most ss = take (min most (prefix_len is_list_sign ss)) ss
